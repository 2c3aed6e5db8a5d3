use Rattle.std.proofs.Common.{◌≡◌, ◌+◌, ◌<◌, ◌≤◌, drop, take, length, ℕ, List, [], ◌++◌, arith, ap, sym, ◌∙◌}
use Rattle.std.specs.Prelude.{Some, min}
use Rattle.std.proofs.lemmas.Grind.{common_steps}
use Rattle.std.proofs.lemmas.List.{take-append-drop, drop-drop}
use Rattle.pdq_edge.specs.Bytes.{Gives}
use Rattle.pdq_edge.proofs.unread.copy_next.Goals as goal

-- the first n of n elements and more
front : (xs ys : List ℕ) (n : ℕ) → n ≤ length xs → take n (take n xs ++ ys) ≡ take n xs
front xs ys n within = grind (arith, common_steps)

-- where none are taken though some may be, there are none
none_left : (xs : List ℕ) (most n : ℕ) → n ≡ min most (length xs) → 0 < most → take n xs ≡ [] → xs ≡ []
none_left xs most n count room none = let taken : length (take n xs) ≡ 0 = ap length none in grind (arith, common_steps)

-- what was copied comes next
copied_next : (from old new : List ℕ) (at n most : ℕ) → n ≡ min most (length (drop at from)) → 0 < most → new ≡ take n (drop at from) ++ old → Gives (Some (drop at from)) (Some (drop (at + n) from)) (take n new)
copied_next from old new at n most count room copied =
    let short : n ≤ length (drop at from) = omega arith in
    let same : take n new ≡ take n (drop at from) = ap (take n) copied ∙ front (drop at from) old n short in
    (sym (take-append-drop n (drop at from)) ∙ ap (λ ys. take n (drop at from) ++ ys) (drop-drop n at from) ∙ ap (λ ys. ys ++ drop (at + n) from) (sym same), λ none. none_left (drop at from) most n count room (sym same ∙ none))

pub returns-clause-bytes : goal.returns-clause-bytes
returns-clause-bytes c = copied_next c.args.from.now (drop c.min-n.result c.args.into.now) (c.copy_from_slice.new.self ++ drop c.min-n.result c.args.into.now) c.args.at c.min-n.result (min c.args.most (length c.args.into.now))
    (grind (arith, common_steps)) (omega (arith, c.requires.room, c.requires.most)) (let copied : c.copy_from_slice.new.self ≡ take c.min-n.result (drop c.args.at c.args.from.now) = grind (arith, common_steps) in ap (λ ys. ys ++ drop c.min-n.result c.args.into.now) copied)
