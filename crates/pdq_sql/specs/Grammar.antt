-- The grammar of select, by cases. In each relation ts are tokens, and rest is what stands after the part:
--
--     select    = SELECT item { , item } FROM name { , name } [ WHERE cond { AND cond } ] [ GROUP BY column { , column } ] [ ORDER BY key { , key } ]
--     item      = column | ( SUM | AVG | MIN | MAX ) ( column ) | COUNT ( * )
--     column    = name | name . name
--     cond      = column ( = | <> | < | <= | > | >= ) ( number | text ) | column = column
--     key       = ( int | column ) [ ASC | DESC ]
--
-- A name is a word that is not reserved, an int a number of one to ten digits alone.
use Rattle.std.specs.Prelude.{◌≡◌, ℕ, List, [], ◌∷◌, ◌++◌, Some, None, Result, Ok, Err, Bool, true, false}
use Rattle.pdq_sql.specs.declared.tokens.Mark.{Mark}
use Rattle.pdq_sql.specs.declared.tokens.Mark.TheVariants as mark
use Rattle.pdq_sql.specs.declared.tokens.TokenKind.{TokenKind}
use Rattle.pdq_sql.specs.declared.tokens.TokenKind.TheVariants.{Fixed, Word, Number, Quoted}
use Rattle.pdq_sql.specs.declared.tokens.Token.{Token}
use Rattle.pdq_sql.specs.declared.ast.AstColumn.{AstColumn}
use Rattle.pdq_sql.specs.declared.ast.AstForm.{AstForm}
use Rattle.pdq_sql.specs.declared.ast.AstForm.TheVariants as form
use Rattle.pdq_sql.specs.declared.ast.AstItem.{AstItem}
use Rattle.pdq_sql.specs.declared.ast.AstTable.{AstTable}
use Rattle.pdq_sql.specs.declared.ast.AstLiteral.{AstLiteral}
use Rattle.pdq_sql.specs.declared.ast.AstLiteral.TheVariants as literal
use Rattle.pdq_sql.specs.declared.ast.AstTest.{AstTest}
use Rattle.pdq_sql.specs.declared.ast.AstTest.TheVariants.{Literal, Columns}
use Rattle.pdq_sql.specs.declared.ast.AstCond.{AstCond}
use Rattle.pdq_sql.specs.declared.ast.AstGroup.{AstGroup}
use Rattle.pdq_sql.specs.declared.ast.AstOrder.{AstOrder}
use Rattle.pdq_sql.specs.declared.ast.AstOrder.TheVariants as order
use Rattle.pdq_sql.specs.declared.ast.AstKey.{AstKey}
use Rattle.pdq_query.specs.declared.query.Compare.{Compare}
use Rattle.pdq_sql.specs.declared.faults.SqlFault.{SqlFault}
use Rattle.pdq_sql.specs.declared.faults.SqlWhy.{SqlWhy}
use Rattle.pdq_sql.specs.declared.faults.SqlWhy.TheVariants.{BadLine, Memory}
use Rattle.pdq_sql.specs.Asts.{AstView}
use Rattle.pdq_sql.specs.Tokens.{comparison, int_of, place_at}

-- the first token is of this kind
pub record Next (k : TokenKind) (ts rest : List Token) : Type 0 where
  pub token : Token
  pub kind : token.kind ≡ k
  pub spelled : ts ≡ token ∷ rest

pub data IsColumn (ts rest : List Token) : AstColumn → Type 0 where
  bare : (n : List ℕ) → Next (Word n) ts rest → IsColumn ts rest (record { table = None; column = n })
  dotted : (t n : List ℕ) (a b : List Token) → Next (Word t) ts a → Next (Fixed mark.Point) a b → Next (Word n) b rest
      → IsColumn ts rest (record { table = Some t; column = n })

pub data IsFold (m : Mark) (ts rest : List Token) (c : AstColumn) : Type 0 where
  fold : (a b d : List Token) → Next (Fixed m) ts a → Next (Fixed mark.Open) a b → IsColumn b d c → Next (Fixed mark.Close) d rest → IsFold m ts rest c

pub data IsForm (ts rest : List Token) : AstForm → Type 0 where
  plain : (c : AstColumn) → IsColumn ts rest c → IsForm ts rest (form.Plain c)
  sum : (c : AstColumn) → IsFold mark.Sum ts rest c → IsForm ts rest (form.Sum c)
  avg : (c : AstColumn) → IsFold mark.Avg ts rest c → IsForm ts rest (form.Avg c)
  least : (c : AstColumn) → IsFold mark.Min ts rest c → IsForm ts rest (form.Min c)
  greatest : (c : AstColumn) → IsFold mark.Max ts rest c → IsForm ts rest (form.Max c)
  count : (a b c : List Token) → Next (Fixed mark.Count) ts a → Next (Fixed mark.Open) a b → Next (Fixed mark.Star) b c → Next (Fixed mark.Close) c rest
      → IsForm ts rest form.Count

pub data IsLiteral (ts rest : List Token) : AstLiteral → Type 0 where
  figure : (b : List ℕ) → Next (Number b) ts rest → IsLiteral ts rest (literal.Number b)
  words : (b : List ℕ) → Next (Quoted b) ts rest → IsLiteral ts rest (literal.Words b)

pub data IsTest (ts rest : List Token) : AstTest → Type 0 where
  against : (l : AstColumn) (m : Mark) (c : Compare) (v : AstLiteral) (a b : List Token) → IsColumn ts a l → Next (Fixed m) a b → comparison m ≡ Some c → IsLiteral b rest v
      → IsTest ts rest (Literal l c v)
  alike : (l r : AstColumn) (a b : List Token) → IsColumn ts a l → Next (Fixed mark.Equal) a b → IsColumn b rest r → IsTest ts rest (Columns l r)

pub data IsOrder (ts rest : List Token) : AstOrder → Type 0 where
  number : (b : List ℕ) (n : ℕ) → Next (Number b) ts rest → int_of b ≡ Some n → IsOrder ts rest (order.Number n)
  column : (c : AstColumn) → IsColumn ts rest c → IsOrder ts rest (order.Column c)

pub data IsDirection (ts rest : List Token) : Bool → Type 0 where
  unsaid : ts ≡ rest → IsDirection ts rest false
  asc : Next (Fixed mark.Asc) ts rest → IsDirection ts rest false
  desc : Next (Fixed mark.Desc) ts rest → IsDirection ts rest true

-- a part carries the place of its first token
pub data IsItem (ts rest : List Token) : AstItem → Type 0 where
  item : (f : AstForm) → IsForm ts rest f → IsItem ts rest (record { place = place_at ts; form = f })

pub data IsTable (ts rest : List Token) : AstTable → Type 0 where
  table : (n : List ℕ) → Next (Word n) ts rest → IsTable ts rest (record { place = place_at ts; name = n })

pub data IsCond (ts rest : List Token) : AstCond → Type 0 where
  cond : (t : AstTest) → IsTest ts rest t → IsCond ts rest (record { place = place_at ts; test = t })

pub data IsGroup (ts rest : List Token) : AstGroup → Type 0 where
  group : (c : AstColumn) → IsColumn ts rest c → IsGroup ts rest (record { place = place_at ts; column = c })

pub data IsKey (ts rest : List Token) : AstKey → Type 0 where
  key : (o : AstOrder) (d : Bool) (a : List Token) → IsOrder ts a o → IsDirection a rest d → IsKey ts rest (record { place = place_at ts; order = o; down = d })

-- parts with a token between each and the next, one part at least
pub data AreParts {X : Type 0} (m : Mark) (R : List Token → List Token → X → Type 0) (rest : List Token) : List Token → List X → Type 0 where
  last : (ts : List Token) (x : X) → R ts rest x → AreParts m R rest ts (x ∷ [])
  more : (ts a b : List Token) (x : X) (xs : List X) → R ts a x → Next (Fixed m) a b → AreParts m R rest b xs → AreParts m R rest ts (x ∷ xs)

pub data AreConds (ts rest : List Token) : List AstCond → Type 0 where
  no_conds : ts ≡ rest → AreConds ts rest []
  conds : (xs : List AstCond) (a : List Token) → Next (Fixed mark.Where) ts a → AreParts mark.And IsCond rest a xs → AreConds ts rest xs

pub data AreGroups (ts rest : List Token) : List AstGroup → Type 0 where
  no_groups : ts ≡ rest → AreGroups ts rest []
  groups : (xs : List AstGroup) (a b : List Token) → Next (Fixed mark.Group) ts a → Next (Fixed mark.By) a b → AreParts mark.Comma IsGroup rest b xs → AreGroups ts rest xs

pub data AreKeys (ts rest : List Token) : List AstKey → Type 0 where
  no_keys : ts ≡ rest → AreKeys ts rest []
  keys : (xs : List AstKey) (a b : List Token) → Next (Fixed mark.Order) ts a → Next (Fixed mark.By) a b → AreParts mark.Comma IsKey rest b xs → AreKeys ts rest xs

-- a select, without the end of the line
pub record IsBody (ts rest : List Token) (s : AstView) : Type 0 where
  pub a : List Token
  pub b : List Token
  pub c : List Token
  pub d : List Token
  pub e : List Token
  pub f : List Token
  pub head : Next (Fixed mark.Select) ts a
  pub items : AreParts mark.Comma IsItem b a s.items
  pub middle : Next (Fixed mark.From) b c
  pub tables : AreParts mark.Comma IsTable d c s.tables
  pub conds : AreConds d e s.conds
  pub groups : AreGroups e f s.groups
  pub keys : AreKeys f rest s.keys

-- a select and the end of the line
pub data IsSelect (ts : List Token) (s : AstView) : Type 0 where
  select : (g : List Token) → IsBody ts g s → Next (Fixed mark.End) g [] → IsSelect ts s

-- Something of the grammar R begins with these tokens.
abbrev pub IsViable : {A : Type 0} → (List Token → A → Type 0) → List Token → Type 0
IsViable {A = A} R front = (tail : List Token) × (a : A) × R (front ++ tail) a

-- the place of the first token that makes the list not viable
pub record IsBadPlace {A : Type 0} (R : List Token → A → Type 0) (ts : List Token) (place : ℕ) : Type 0 where
  pub front : List Token
  pub token : Token
  pub back : List Token
  pub whole : ts ≡ front ++ token ∷ back
  pub viable : IsViable R front
  pub stuck : IsViable R (front ++ token ∷ []) → ⊥
  pub here : place ≡ token.place

-- It is read as y, unless memory ran out.
abbrev pub Accepts : {X Y : Type 0} → (X → Y) → Result X SqlFault → Y → Type 0
Accepts view (Ok x) y = view x ≡ y
Accepts view (Err e) y = e.why ≡ Memory

abbrev pub IsRefusedFor : {A : Type 0} → (List Token → A → Type 0) → List Token → SqlWhy → ℕ → Type 0
IsRefusedFor R ts BadLine place = IsBadPlace R ts place
IsRefusedFor R ts Memory place = place ≡ 0
IsRefusedFor R ts why place = ⊥

-- Tokens are refused at their bad place, or memory ran out.
abbrev pub IsRefusal : {A : Type 0} → (List Token → A → Type 0) → List Token → SqlFault → Type 0
IsRefusal R ts e = IsRefusedFor R ts e.why e.place
