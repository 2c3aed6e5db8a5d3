-- The command that a parse found, by its name and its rows.
use Rattle.std.proofs.Common.{◌≡◌, List, Option, Some, None, refl}
use Rattle.std.specs.Prelude.{option_map}
use Rattle.clap.specs.Words.{Row, Text}

pub pair_is : {B : Type 0} (f : B → Text) (g : B → List Row) (o : Option B) (name : Text) (rows : List Row)
    → Some name ≡ option_map f o → Some rows ≡ option_map (λ (p : Text × List Row). p.1) (option_map {U = Text × List Row} (λ (b : B). (f b, g b)) o)
    → option_map {U = Text × List Row} (λ (b : B). (f b, g b)) o ≡ Some (name, rows)
pair_is f g None name rows e h = cc
pair_is f g (Some b) name rows e h = cc

pub none_is : {X Y : Type 0} (f : X → Y) (o : Option X) → None ≡ option_map f o → o ≡ None
none_is f None e = refl
none_is f (Some x) e = cc
