-- What can stand next, as states: reading goes from state to state, and each state can be completed.
use Rattle.std.proofs.Common.{◌≡◌, ℕ, Bool, true, false, List, [], ◌∷◌, ◌++◌, Option, Some, None, Result, Ok, Err, refl, sym, ap}
use Rattle.std.specs.Prelude.{if◌then◌else◌, codes}
use Rattle.pdq_sql.specs.declared.tokens.Mark.TheVariants as mark
use Rattle.pdq_sql.specs.declared.tokens.TokenKind.{TokenKind}
use Rattle.pdq_sql.specs.declared.tokens.TokenKind.TheVariants.{Fixed, Word, Number, Switch}
use Rattle.pdq_sql.specs.declared.tokens.Token.{Token}
use Rattle.pdq_sql.specs.declared.reading.Unread.{Unread}
use Rattle.pdq_sql.specs.declared.reading.Unread.TheVariants.{At, Ended}
use Rattle.pdq_sql.specs.declared.commands.Letter.TheVariants as letter
use Rattle.pdq_sql.specs.declared.commands.LineHome.{LineHome}
use Rattle.pdq_sql.specs.declared.line_reading.Verb.{Verb}
use Rattle.pdq_sql.specs.declared.line_reading.Verb.TheVariants as verb
use Rattle.pdq_sql.specs.LineReading.{verb_in, is_word_of, letter_in}
use Rattle.pdq_sql.specs.Reading.{is_mark, is_word, name_in, comparison_in, literal_in, int_in}

-- where a column stands
pub data Spot : Type 0 where
  InItem : Spot
  InFold : Spot
  InLeft : Spot
  InRight : Spot
  InGroup : Spot
  InKey : Spot

pub data State : Type 0 where
  Start : State
  ItemStart : State
  CountOpen : State
  CountStar : State
  FoldClose : State
  FoldOpen : State
  Column : Spot → State
  Named : Spot → State
  Dotted : Spot → State
  Done : Spot → State
  AfterItems : State
  TableStart : State
  AfterTable : State
  EqualRight : State
  OtherRight : State
  GroupBy : State
  OrderBy : State
  KeyStart : State
  AfterKey : State
  AfterTables : State
  AfterConds : State
  AfterGroups : State
  AfterKeys : State
  LineStart : LineHome → State
  After : Verb → State
  LevelStart : State
  AfterStat : State
  LastNumber : State
  Final : State

abbrev pub moved : {A : Type 0} → Option A → State → Option State
moved (Some x) s = Some s
moved None s = None

abbrev pub step_keys : TokenKind → Option State
step_keys k = if is_mark mark.End k then Some Final else None

abbrev pub step_groups : TokenKind → Option State
step_groups k = if is_mark mark.Order k then Some OrderBy else step_keys k

abbrev pub step_conds : TokenKind → Option State
step_conds k = if is_mark mark.Group k then Some GroupBy else step_groups k

abbrev pub step_tables : TokenKind → Option State
step_tables k = if is_mark mark.Where k then Some (Column InLeft) else step_conds k

abbrev pub step_items : TokenKind → Option State
step_items k = if is_mark mark.From k then Some TableStart else None

abbrev pub step_key : TokenKind → Option State
step_key k = if is_mark mark.Comma k then Some KeyStart else step_keys k

-- the side of a comparison that is an equality may be a column
abbrev pub right_of : Bool → State
right_of true = EqualRight
right_of false = OtherRight

abbrev pub step_done : Spot → TokenKind → Option State
step_done InItem k = if is_mark mark.Comma k then Some ItemStart else step_items k
step_done InFold k = if is_mark mark.Close k then Some (Done InItem) else None
step_done InLeft k = moved (comparison_in k) (right_of (is_mark mark.Equal k))
step_done InRight k = if is_mark mark.And k then Some (Column InLeft) else step_conds k
step_done InGroup k = if is_mark mark.Comma k then Some (Column InGroup) else step_groups k
step_done InKey k = if is_mark mark.Asc k then Some AfterKey else (if is_mark mark.Desc k then Some AfterKey else step_key k)

abbrev pub step_column : Spot → TokenKind → Option State
step_column s k = moved (name_in k) (Named s)

abbrev pub led : Option Verb → Option State
led (Some v) = Some (After v)
led None = None

abbrev pub step_select : TokenKind → Option State
step_select k = if is_mark mark.Select k then Some ItemStart else None

abbrev pub step_after : Verb → TokenKind → Option State
step_after verb.Set k = if is_word_of (codes "pdqpriority") k then Some LevelStart else None
step_after verb.Query k = step_select k
step_after verb.Onstat k = if is_mark mark.Statistics k then Some AfterStat else None
step_after verb.Onmode k = moved (letter_in k) LastNumber
step_after verb.Claim k = moved (int_in k) LastNumber
step_after verb.Open k = if is_word_of (codes "user") k then Some AfterKeys else (if is_word_of (codes "admin") k then Some AfterKeys else None)
step_after verb.Hello k = step_keys k
step_after verb.Admin k = step_keys k
step_after verb.Quit k = step_keys k
step_after verb.Shutdown k = step_keys k
step_after v k = moved (int_in k) AfterKeys

abbrev pub step_level : TokenKind → Option State
step_level k =
    if is_word_of (codes "off") k then Some AfterKeys
    else (if is_word_of (codes "low") k then Some AfterKeys
    else (if is_word_of (codes "high") k then Some AfterKeys
    else (if is_word_of (codes "default") k then Some AfterKeys
    else moved (int_in k) AfterKeys)))

abbrev pub step : State → TokenKind → Option State
step Start k = step_select k
step ItemStart k =
    if is_mark mark.Count k then Some CountOpen
    else (if is_mark mark.Sum k then Some FoldOpen
    else (if is_mark mark.Avg k then Some FoldOpen
    else (if is_mark mark.Min k then Some FoldOpen
    else (if is_mark mark.Max k then Some FoldOpen
    else step_column InItem k))))
step CountOpen k = if is_mark mark.Open k then Some CountStar else None
step CountStar k = if is_mark mark.Star k then Some FoldClose else None
step FoldClose k = if is_mark mark.Close k then Some (Done InItem) else None
step FoldOpen k = if is_mark mark.Open k then Some (Column InFold) else None
step (Column s) k = step_column s k
step (Named s) k = if is_mark mark.Point k then Some (Dotted s) else step_done s k
step (Dotted s) k = moved (name_in k) (Done s)
step (Done s) k = step_done s k
step AfterItems k = step_items k
step TableStart k = moved (name_in k) AfterTable
step AfterTable k = if is_mark mark.Comma k then Some TableStart else step_tables k
step EqualRight k = if is_word k then step_column InRight k else moved (literal_in k) (Done InRight)
step OtherRight k = moved (literal_in k) (Done InRight)
step GroupBy k = if is_mark mark.By k then Some (Column InGroup) else None
step OrderBy k = if is_mark mark.By k then Some KeyStart else None
step KeyStart k = if is_word k then step_column InKey k else moved (int_in k) (Done InKey)
step AfterKey k = step_key k
step AfterTables k = step_tables k
step AfterConds k = step_conds k
step AfterGroups k = step_groups k
step AfterKeys k = step_keys k
step (LineStart h) k = led (verb_in h k)
step (After v) k = step_after v k
step LevelStart k = step_level k
step AfterStat k = if is_word_of (codes "mgm") k then Some AfterKeys else None
step LastNumber k = moved (int_in k) AfterKeys
step Final k = None

abbrev pub Run : Type 0
Run = Result (Unit {0}) Unread

abbrev pub final : State → Run
final Final = Ok tt
final _ = Err Ended

abbrev pub on_step : Option State → ℕ → (State → Run) → Run
on_step None p f = Err (At p)
on_step (Some s) p f = f s

abbrev pub run : State → List Token → Run
run s [] = final s
run s (t ∷ ts) = on_step (step s t.kind) t.place (λ next. run next ts)

-- ---- each state can be completed

abbrev pub tok : TokenKind → Token
tok k = record { place = 0; kind = k }

abbrev pub x : Token
x = tok (Word (120 ∷ []))

abbrev pub end : List Token
end = tok (Fixed mark.End) ∷ []

abbrev pub from : List Token
from = tok (Fixed mark.From) ∷ x ∷ end

abbrev pub compared : List Token
compared = tok (Fixed mark.Equal) ∷ x ∷ end

abbrev pub after_column : Spot → List Token
after_column InItem = from
after_column InFold = tok (Fixed mark.Close) ∷ from
after_column InLeft = compared
after_column InRight = end
after_column InGroup = end
after_column InKey = end

abbrev pub word : List ℕ → Token
word w = tok (Word w)

abbrev pub one : Token
one = tok (Number (49 ∷ []))

abbrev pub after_verb : Verb → List Token
after_verb verb.Set = word (codes "pdqpriority") ∷ one ∷ end
after_verb verb.Query = tok (Fixed mark.Select) ∷ x ∷ from
after_verb verb.Onstat = tok (Fixed mark.Statistics) ∷ word (codes "mgm") ∷ end
after_verb verb.Onmode = tok (Switch letter.M) ∷ one ∷ end
after_verb verb.Claim = one ∷ one ∷ end
after_verb verb.Open = word (codes "user") ∷ end
after_verb verb.Hello = end
after_verb verb.Admin = end
after_verb verb.Quit = end
after_verb verb.Shutdown = end
after_verb v = one ∷ end

abbrev pub completion : State → List Token
completion Start = tok (Fixed mark.Select) ∷ x ∷ from
completion ItemStart = x ∷ from
completion CountOpen = tok (Fixed mark.Open) ∷ tok (Fixed mark.Star) ∷ tok (Fixed mark.Close) ∷ from
completion CountStar = tok (Fixed mark.Star) ∷ tok (Fixed mark.Close) ∷ from
completion FoldClose = tok (Fixed mark.Close) ∷ from
completion FoldOpen = tok (Fixed mark.Open) ∷ x ∷ tok (Fixed mark.Close) ∷ from
completion (Column s) = x ∷ after_column s
completion (Named s) = after_column s
completion (Dotted s) = x ∷ after_column s
completion (Done s) = after_column s
completion AfterItems = from
completion TableStart = x ∷ end
completion AfterTable = end
completion EqualRight = x ∷ end
completion OtherRight = tok (Number (49 ∷ [])) ∷ end
completion GroupBy = tok (Fixed mark.By) ∷ x ∷ end
completion OrderBy = tok (Fixed mark.By) ∷ x ∷ end
completion KeyStart = x ∷ end
completion AfterKey = end
completion AfterTables = end
completion AfterConds = end
completion AfterGroups = end
completion AfterKeys = end
completion (LineStart h) = word (codes "cancel") ∷ one ∷ end
completion (After v) = after_verb v
completion LevelStart = one ∷ end
completion AfterStat = word (codes "mgm") ∷ end
completion LastNumber = one ∷ end
completion Final = []

column_completes : (s : Spot) → run (Done s) (after_column s) ≡ Ok tt
column_completes InItem = refl
column_completes InFold = refl
column_completes InLeft = refl
column_completes InRight = refl
column_completes InGroup = refl
column_completes InKey = refl

named_completes : (s : Spot) → run (Named s) (after_column s) ≡ Ok tt
named_completes InItem = refl
named_completes InFold = refl
named_completes InLeft = refl
named_completes InRight = refl
named_completes InGroup = refl
named_completes InKey = refl

verb_completes : (v : Verb) → run (After v) (after_verb v) ≡ Ok tt
verb_completes verb.Set = refl
verb_completes _ = refl

pub completes : (s : State) → run s (completion s) ≡ Ok tt
completes Start = refl
completes (Column s) = named_completes s
completes (Named s) = named_completes s
completes (Dotted s) = column_completes s
completes (Done s) = column_completes s
completes (After v) = verb_completes v
completes _ = refl

-- ---- where a run stops

never_at : (s : State) (p : ℕ) → final s ≡ Err (At p) → ⊥
never_at Final p e = cc
never_at _ p e = cc

-- a run stops at a token that has no place after the tokens before it
pub record Stops (s : State) (ts : List Token) (p : ℕ) : Type 0 where
  pub front : List Token
  pub token : Token
  pub back : List Token
  pub state : State
  pub whole : ts ≡ front ++ token ∷ back
  pub reached : (tail : List Token) → run s (front ++ tail) ≡ run state tail
  pub stuck : step state token.kind ≡ None
  pub here : p ≡ token.place

pub stops : (s : State) (ts : List Token) (p : ℕ) → run s ts ≡ Err (At p) → Stops s ts p
stops s [] p e = absurd (never_at s p e)
stops s (t ∷ ts) p e = go (λ next h. stops next ts p h) (step s t.kind) refl
  where
    go : ((next : State) → run next ts ≡ Err (At p) → Stops next ts p) → (o : Option State) → step s t.kind ≡ o → Stops s (t ∷ ts) p
    go again None is = record {
      front = [];
      token = t;
      back = ts;
      state = s;
      whole = refl;
      reached = λ tail. refl;
      stuck = is;
      here = let e2 : ◌≡◌ {A = Run} (Err (At t.place)) (Err (At p)) = rw is at e in sym cc;
    }
    go again (Some next) is =
        let e2 : run next ts ≡ Err (At p) = rw is at e in
        let later = again next e2 in record {
          front = t ∷ later.front;
          token = later.token;
          back = later.back;
          state = later.state;
          whole = ap (λ us. t ∷ us) later.whole;
          reached = λ tail. rw is (later.reached tail);
          stuck = later.stuck;
          here = later.here;
        }
