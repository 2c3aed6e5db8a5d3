-- A plain word after the name of a command goes to the command's next word.
use Rattle.std.proofs.Common.{◌≡◌, ◌∙◌, ℕ, List, [], ◌∷◌, None, true, false, refl, ap₂, ◌==◌, ◌&&◌, Bool, arith}
use Rattle.std.proofs.lemmas.Bool.Decides.{nat_tests}
use Rattle.clap.specs.Walk.{Walk, Rule, Text, walked, to_positional, arg_by_index, idle, value}
use Rattle.clap.specs.Simple.{Shape}
use Rattle.clap.specs.Takes.{turn_passes, step_passes, walk_passes}
use Rattle.pdqd.specs.Words.{begins_with_dash}

abbrev pub IsPlain : Text → Type 0
IsPlain w = begins_with_dash w ≡ false

other_first : (x : ℕ) (xs : Text) → IsPlain (x ∷ xs) → (x == 45) ≡ false
other_first x xs e = grind (arith, nat_tests)

pub step : (c : List Rule) (w : Walk) (word : Text) → IsPlain word → w.stopped ≡ None → w.waiting ≡ idle → w.is_trailing ≡ false
    → walked c [] w word ≡ to_positional c (arg_by_index c w.position) word w w.held
unfolding walked
step c w [] e stopped waiting trailing = simp (stopped, waiting, trailing) refl
step c w (x ∷ xs) e stopped waiting trailing = simp (stopped, waiting, trailing, other_first x xs e) refl

-- it passes where there is such a word
turn : (s : Shape) (w : Walk) (word : Text) → IsPlain word → w.stopped ≡ None → w.waiting ≡ idle → w.is_trailing ≡ false
    → turn_passes s [] w word ≡ step_passes s w.position w.held value
turn s w [] e stopped waiting trailing = simp (stopped, waiting, trailing) refl
turn s w (x ∷ xs) e stopped waiting trailing = simp (stopped, waiting, trailing, other_first x xs e) refl

pub passes : (s : Shape) (w : Walk) (word : Text) (rest : List Text) → IsPlain word → w.stopped ≡ None → w.waiting ≡ idle → w.is_trailing ≡ false
    → step_passes s w.position w.held value ≡ true
    → walk_passes s [] w (word ∷ rest) ≡ walk_passes s [] (to_positional s.rules (arg_by_index s.rules w.position) word w w.held) rest
unfolding walk_passes
passes s w word rest e stopped waiting trailing takes =
    ap₂ (λ (a : Bool) (n : Walk). a && walk_passes s [] n rest) (turn s w word e stopped waiting trailing ∙ takes) (step s.rules w word e stopped waiting trailing)
