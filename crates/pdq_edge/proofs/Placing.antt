-- Where the blocks of a store lie.
use Rattle.std.proofs.Common.{◌≡◌, ℕ, List, [], ◌∷◌, ◌++◌, length, Option, zero, suc, refl, ap, sym, subst, ◌∙◌}
use Rattle.std.specs.Prelude.{Some, None, IfSome, slice_get}
use Rattle.pdq_edge.specs.Blocks.{appended}

-- the last of a list is at its length less one
last_at : (blocks : List (List ℕ)) (block : List ℕ) → slice_get (blocks ++ block ∷ []) (length blocks) ≡ Some block
last_at [] block = refl
last_at (first ∷ rest) block = last_at rest block

-- what is at a place of a list stays there when a block comes behind
kept_at : (blocks : List (List ℕ)) (block found : List ℕ) (place : ℕ) → slice_get blocks place ≡ Some found → slice_get (blocks ++ block ∷ []) place ≡ Some found
kept_at [] block found place is = absurd (cc is)
kept_at (first ∷ rest) block found zero is = is
kept_at (first ∷ rest) block found (suc place) is = kept_at rest block found place is

-- a block that was put is at the place that was answered
pub put_at : (before after : Option (List (List ℕ))) (held : ℕ) (block : List ℕ) → after ≡ appended before block → IfSome before (λ blocks. held ≡ length blocks) → IfSome after (λ blocks. slice_get blocks held ≡ Some block)
put_at None after held block put counted = let P : Option (List (List ℕ)) → Type 0 = λ told. IfSome told (λ blocks. slice_get blocks held ≡ Some block) in subst P (sym put) tt
put_at (Some before) after held block put counted =
    let P : Option (List (List ℕ)) → Type 0 = λ told. IfSome told (λ blocks. slice_get blocks held ≡ Some block) in
    let at : slice_get (before ++ block ∷ []) held ≡ Some block = ap (slice_get (before ++ block ∷ [])) counted ∙ last_at before block in
    subst P (sym put) at

-- a block that was at a place before a put is there after it
pub put_keeps : (before after : Option (List (List ℕ))) (place : ℕ) (block found : List ℕ) → after ≡ appended before block → IfSome before (λ blocks. slice_get blocks place ≡ Some found) → IfSome after (λ blocks. slice_get blocks place ≡ Some found)
put_keeps None after place block found put is = let P : Option (List (List ℕ)) → Type 0 = λ told. IfSome told (λ blocks. slice_get blocks place ≡ Some found) in subst P (sym put) tt
put_keeps (Some before) after place block found put is =
    let P : Option (List (List ℕ)) → Type 0 = λ told. IfSome told (λ blocks. slice_get blocks place ≡ Some found) in
    subst P (sym put) (kept_at before block found place is)
