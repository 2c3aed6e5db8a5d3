-- Reading from left to right, up to the first token that cannot stand where it stands.
use Rattle.std.specs.Prelude.{◌≡◌, ℕ, zero, suc, List, [], ◌∷◌, length, Option, Some, None, Result, Ok, Err, Bool, true, false, ◌&&◌, ◌==◌, if◌then◌else◌}
use Rattle.pdq_sql.specs.declared.tokens.Mark.{Mark}
use Rattle.pdq_sql.specs.declared.tokens.Mark.TheVariants as mark
use Rattle.pdq_sql.specs.declared.reading.Unread.{Unread}
use Rattle.pdq_sql.specs.declared.reading.Unread.TheVariants.{At, Ended}
use Rattle.pdq_sql.specs.declared.reading.ParseFault.{ParseFault}
use Rattle.pdq_sql.specs.declared.reading.ParseFault.TheVariants as fault
use Rattle.pdq_sql.specs.declared.ast.AstColumn.{AstColumn}
use Rattle.pdq_sql.specs.declared.ast.AstForm.{AstForm}
use Rattle.pdq_sql.specs.declared.ast.AstForm.TheVariants as form
use Rattle.pdq_sql.specs.declared.ast.AstItem.{AstItem}
use Rattle.pdq_sql.specs.declared.ast.AstTable.{AstTable}
use Rattle.pdq_sql.specs.declared.ast.AstLiteral.{AstLiteral}
use Rattle.pdq_sql.specs.declared.ast.AstLiteral.TheVariants as literal
use Rattle.pdq_sql.specs.declared.ast.AstTest.{AstTest}
use Rattle.pdq_sql.specs.declared.ast.AstTest.TheVariants.{Literal, Columns}
use Rattle.pdq_sql.specs.declared.ast.AstCond.{AstCond}
use Rattle.pdq_sql.specs.declared.ast.AstGroup.{AstGroup}
use Rattle.pdq_sql.specs.declared.ast.AstOrder.{AstOrder}
use Rattle.pdq_sql.specs.declared.ast.AstOrder.TheVariants as order
use Rattle.pdq_sql.specs.declared.ast.AstKey.{AstKey}
use Rattle.pdq_sql.specs.declared.faults.SqlFault.{SqlFault}
use Rattle.pdq_sql.specs.declared.faults.SqlWhy.{SqlWhy}
use Rattle.pdq_sql.specs.declared.faults.SqlWhy.TheVariants.{BadLine, Memory}
use Rattle.pdq_sql.specs.Asts.{AstView}
use Rattle.pdq_sql.specs.Tokens.{place_at, comparison, int_of, tokens_of}
use Rattle.pdq_query.specs.declared.query.Compare.{Compare}
use Rattle.pdq_sql.specs.declared.tokens.TokenKind.{TokenKind}
use Rattle.pdq_sql.specs.declared.tokens.TokenKind.TheVariants.{Fixed, Word, Number, Quoted}
use Rattle.pdq_sql.specs.declared.tokens.Token.{Token}

abbrev pub Parse : Type 0 → Type 0
Parse X = Result (X × List Token) Unread

infixl 10 ◌>>=◌
abbrev pub ◌>>=◌ : {A B : Type 0} → Result A Unread → (A → Result B Unread) → Result B Unread
(Ok x) >>= f = f x
(Err e) >>= f = Err e

abbrev pub Fails : {Y : Type 0} → ParseFault → Result Y Unread → Type 0
Fails fault.Memory read = Unit {0}
Fails (fault.Unread h) read = read ≡ Err h

-- What a function returned, seen by view, is what is read, unless memory ran out.
abbrev pub Gives : {X Y : Type 0} → (X → Y) → Result X ParseFault → Result Y Unread → Type 0
Gives view (Ok x) read = read ≡ Ok (view x)
Gives view (Err e) read = Fails e read

-- what is unread from here on
abbrev pub unread_of : List Token → Unread
unread_of [] = Ended
unread_of (t ∷ ts) = At (t.place)

-- marks are told apart by their numbers
abbrev pub code : Mark → ℕ
code mark.Select = 0
code mark.From = 1
code mark.Where = 2
code mark.And = 3
code mark.Group = 4
code mark.Order = 5
code mark.By = 6
code mark.Asc = 7
code mark.Desc = 8
code mark.Sum = 9
code mark.Avg = 10
code mark.Min = 11
code mark.Max = 12
code mark.Count = 13
code mark.Open = 14
code mark.Close = 15
code mark.Comma = 16
code mark.Point = 17
code mark.Star = 18
code mark.Equal = 19
code mark.Unequal = 20
code mark.Less = 21
code mark.AtMost = 22
code mark.Greater = 23
code mark.AtLeast = 24
code mark.Statistics = 25
code mark.End = 26

abbrev pub same : Mark → Mark → Bool
same m n = code m == code n

abbrev pub is_mark : Mark → TokenKind → Bool
is_mark m (Fixed n) = same n m
is_mark m k = false

-- whether this mark is next
abbrev pub next_is : Mark → List Token → Bool
next_is m [] = false
next_is m (t ∷ ts) = is_mark m t.kind

abbrev pub expect_of : Mark → List Token → Parse Mark
expect_of m [] = Err Ended
expect_of m (t ∷ ts) = if is_mark m t.kind then Ok (m, ts) else Err (At t.place)

-- the bytes of a word
abbrev pub name_in : TokenKind → Option (List ℕ)
name_in (Word b) = Some b
name_in k = None

-- what a token holds, where it holds what is needed
abbrev pub needed : {X : Type 0} → Token → List Token → Option X → Parse X
needed t ts (Some x) = Ok (x, ts)
needed t ts None = Err (At t.place)

abbrev pub name_of : List Token → Parse (List ℕ)
name_of [] = Err Ended
name_of (t ∷ ts) = needed t ts (name_in t.kind)

-- whether a word is next
abbrev pub is_word : TokenKind → Bool
is_word (Word b) = true
is_word k = false

abbrev pub is_word_next : List Token → Bool
is_word_next [] = false
is_word_next (t ∷ ts) = is_word t.kind

unfoldable pub column_of : List Token → Parse AstColumn
column_of ts = do
  first ← name_of ts
  if next_is mark.Point first.1
      then (do
        point ← expect_of mark.Point first.1
        second ← name_of point.1
        Ok (record { table = Some first.0; column = second.0 }, second.1))
      else Ok (record { table = None; column = first.0 }, first.1)

-- the column of a fold
unfoldable pub bracketed_of : Mark → List Token → Parse AstColumn
bracketed_of fold ts = do
  f ← expect_of fold ts
  opened ← expect_of mark.Open f.1
  column ← column_of opened.1
  close ← expect_of mark.Close column.1
  Ok (column.0, close.1)

unfoldable pub form_of : List Token → Parse AstForm
form_of ts =
    if next_is mark.Count ts then (do
      count ← expect_of mark.Count ts
      opened ← expect_of mark.Open count.1
      star ← expect_of mark.Star opened.1
      close ← expect_of mark.Close star.1
      Ok (form.Count, close.1))
    else (if next_is mark.Sum ts then (do
      c ← bracketed_of mark.Sum ts
      Ok (form.Sum c.0, c.1))
    else (if next_is mark.Avg ts then (do
      c ← bracketed_of mark.Avg ts
      Ok (form.Avg c.0, c.1))
    else (if next_is mark.Min ts then (do
      c ← bracketed_of mark.Min ts
      Ok (form.Min c.0, c.1))
    else (if next_is mark.Max ts then (do
      c ← bracketed_of mark.Max ts
      Ok (form.Max c.0, c.1))
    else (do
      c ← column_of ts
      Ok (form.Plain c.0, c.1))))))

abbrev pub comparison_in : TokenKind → Option Compare
comparison_in (Fixed m) = comparison m
comparison_in k = None

abbrev pub compare_of : List Token → Parse Compare
compare_of [] = Err Ended
compare_of (t ∷ ts) = needed t ts (comparison_in t.kind)

abbrev pub literal_in : TokenKind → Option AstLiteral
literal_in (Number b) = Some (literal.Number b)
literal_in (Quoted b) = Some (literal.Words b)
literal_in k = None

abbrev pub literal_of : List Token → Parse AstLiteral
literal_of [] = Err Ended
literal_of (t ∷ ts) = needed t ts (literal_in t.kind)

unfoldable pub test_of : List Token → Parse AstTest
test_of ts = do
  left ← column_of ts
  compare ← compare_of left.1
  if next_is mark.Equal left.1 && is_word_next compare.1
      then (do
        right ← column_of compare.1
        Ok (Columns left.0 right.0, right.1))
      else (do
        value ← literal_of compare.1
        Ok (Literal left.0 compare.0 value.0, value.1))

abbrev pub int_in : TokenKind → Option ℕ
int_in (Number b) = int_of b
int_in k = None

abbrev pub number_of : List Token → Parse ℕ
number_of [] = Err Ended
number_of (t ∷ ts) = needed t ts (int_in t.kind)

unfoldable pub order_of : List Token → Parse AstOrder
order_of ts =
    if is_word_next ts then (do
      c ← column_of ts
      Ok (order.Column c.0, c.1))
    else (do
      n ← number_of ts
      Ok (order.Number n.0, n.1))

-- whether a key is descending
unfoldable pub direction_of : List Token → Parse Bool
direction_of ts =
    if next_is mark.Asc ts then (do
      a ← expect_of mark.Asc ts
      Ok (false, a.1))
    else (if next_is mark.Desc ts then (do
      d ← expect_of mark.Desc ts
      Ok (true, d.1))
    else Ok (false, ts))

unfoldable pub item_of : List Token → Parse AstItem
item_of ts = do
  f ← form_of ts
  Ok (record { place = place_at ts; form = f.0 }, f.1)

unfoldable pub table_of : List Token → Parse AstTable
table_of ts = do
  n ← name_of ts
  Ok (record { place = place_at ts; name = n.0 }, n.1)

unfoldable pub cond_of : List Token → Parse AstCond
cond_of ts = do
  t ← test_of ts
  Ok (record { place = place_at ts; test = t.0 }, t.1)

unfoldable pub group_of : List Token → Parse AstGroup
group_of ts = do
  c ← column_of ts
  Ok (record { place = place_at ts; column = c.0 }, c.1)

unfoldable pub key_of : List Token → Parse AstKey
key_of ts = do
  o ← order_of ts
  d ← direction_of o.1
  Ok (record { place = place_at ts; order = o.0; down = d.0 }, d.1)

-- at most n parts, with a token between each and the next
unfoldable pub parts_within : {X : Type 0} → Mark → (List Token → Parse X) → ℕ → List Token → Parse (List X)
parts_within separator part zero ts = Err Ended
parts_within separator part (suc n) ts = do
  x ← part ts
  if next_is separator x.1
      then (do
        s ← expect_of separator x.1
        xs ← parts_within separator part n s.1
        Ok (x.0 ∷ xs.0, xs.1))
      else Ok (x.0 ∷ [], x.1)

-- parts, each of which takes a token at least
abbrev pub parts_of : {X : Type 0} → Mark → (List Token → Parse X) → List Token → Parse (List X)
parts_of separator part ts = parts_within separator part (suc (length ts)) ts

unfoldable pub conds_of : List Token → Parse (List AstCond)
conds_of ts =
    if next_is mark.Where ts then (do
      w ← expect_of mark.Where ts
      parts_of mark.And cond_of w.1)
    else Ok ([], ts)

unfoldable pub groups_of : List Token → Parse (List AstGroup)
groups_of ts =
    if next_is mark.Group ts then (do
      g ← expect_of mark.Group ts
      b ← expect_of mark.By g.1
      parts_of mark.Comma group_of b.1)
    else Ok ([], ts)

unfoldable pub keys_of : List Token → Parse (List AstKey)
keys_of ts =
    if next_is mark.Order ts then (do
      o ← expect_of mark.Order ts
      b ← expect_of mark.By o.1
      parts_of mark.Comma key_of b.1)
    else Ok ([], ts)

unfoldable pub select_of : List Token → Parse AstView
select_of ts = do
  s ← expect_of mark.Select ts
  items ← parts_of mark.Comma item_of s.1
  f ← expect_of mark.From items.1
  tables ← parts_of mark.Comma table_of f.1
  conds ← conds_of tables.1
  groups ← groups_of conds.1
  keys ← keys_of groups.1
  Ok (record { items = items.0; tables = tables.0; conds = conds.0; groups = groups.0; keys = keys.0 }, keys.1)

-- nothing is left behind what was read
abbrev pub at_end : {A : Type 0} → A → List Token → Result A Unread
at_end a [] = Ok a
at_end a (t ∷ ts) = Err (At t.place)

-- a select and the end of the line
unfoldable pub whole_select_of : List Token → Result AstView Unread
whole_select_of ts = do
  s ← select_of ts
  e ← expect_of mark.End s.1
  at_end s.0 e.1

-- What was read, or the place at which it is unread. The tokens of a line have an end, so they never end too soon.
abbrev pub placed : {A : Type 0} → Result A Unread → Result A ℕ
placed (Ok a) = Ok a
placed (Err (At place)) = Err place
placed (Err Ended) = Err 0

-- A select of bytes as its parts, or the bad place.
unfoldable pub select_reading : List ℕ → Result AstView ℕ
select_reading bytes = placed (whole_select_of (tokens_of bytes))

-- what is answered where tokens are not read
abbrev pub refusal_of : ParseFault → SqlFault
refusal_of fault.Memory = record { why = Memory; place = 0 }
refusal_of (fault.Unread (At place)) = record { why = BadLine; place = place }
refusal_of (fault.Unread Ended) = record { why = BadLine; place = 0 }

abbrev pub IsRefusedAs : {Y : Type 0} → SqlWhy → ℕ → Result Y ℕ → Type 0
IsRefusedAs BadLine place reading = reading ≡ Err place
IsRefusedAs Memory place reading = place ≡ 0
IsRefusedAs why place reading = ⊥

-- What was answered, seen by view, is this reading, unless memory ran out.
abbrev pub IsReadAs : {X Y : Type 0} → (X → Y) → Result X SqlFault → Result Y ℕ → Type 0
IsReadAs view (Ok x) reading = reading ≡ Ok (view x)
IsReadAs view (Err e) reading = IsRefusedAs e.why e.place reading
