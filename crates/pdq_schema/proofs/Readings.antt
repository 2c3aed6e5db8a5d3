-- What holds of what is read, if anything is.
use Rattle.std.proofs.Common.{◌≡◌, Bool, true, false, cond, Option, Some, None, Result, Ok, Err, refl}
use Rattle.std.specs.Prelude.{⊤, not, option_and_then, option_map, ◌||◌, ◌&&◌}
use Rattle.std.proofs.lemmas.Bool.{false≢true}
use Rattle.std.proofs.Common.{sym}
use Rattle.pdq_schema.specs.declared.faults.SchemaFault.{SchemaFault}
use Rattle.pdq_schema.specs.SchemaFile.{and_then}

abbrev pub Reads : {X : Type 0} → (X → Type 0) → Result X SchemaFault → Type 0
Reads P (Ok x) = P x
Reads P (Err e) = ⊤

abbrev pub Says : {X : Type 0} → (X → Type 0) → Option X → Type 0
Says P (Some x) = P x
Says P None = ⊤

pub then_reads : {X Y : Type 0} (P : X → Type 0) (Q : Y → Type 0) (r : Result X SchemaFault) (next : X → Result Y SchemaFault) → Reads P r → ((x : X) → P x → Reads Q (next x)) → Reads Q (and_then r next)
then_reads P Q (Ok x) next read more = more x read
then_reads P Q (Err e) next read more = tt

-- a fault, or what is read where the test fails
pub unless_reads : {X : Type 0} (P : X → Type 0) (b : Bool) (e : SchemaFault) (r : Result X SchemaFault) → (b ≡ false → Reads P r) → Reads P (cond b (Err e) r)
unless_reads P true e r read = tt
unless_reads P false e r read = read refl

pub if_says : {X : Type 0} (P : X → Type 0) (b : Bool) (o p : Option X) → (b ≡ true → Says P o) → Says P p → Says P (cond b o p)
if_says P true o p said other = said refl
if_says P false o p said other = other

pub map_says : {X Y : Type 0} (P : X → Type 0) (Q : Y → Type 0) (f : X → Y) (o : Option X) → Says P o → ((x : X) → P x → Q (f x)) → Says Q (option_map f o)
map_says P Q f None said more = tt
map_says P Q f (Some x) said more = more x said

pub not_false : (b : Bool) → not b ≡ false → b ≡ true
not_false true e = refl
not_false false e = absurd (false≢true (sym e))

pub both_true : (a b : Bool) → (a && b) ≡ true → (a ≡ true) × (b ≡ true)
both_true true b e = (refl, e)
both_true false b e = absurd (false≢true e)

pub both_false : (a b : Bool) → (a || b) ≡ false → (a ≡ false) × (b ≡ false)
both_false true b e = absurd (false≢true (sym e))
both_false false b e = (refl, e)

pub next_says : {X Y : Type 0} (P : X → Type 0) (Q : Y → Type 0) (f : X → Option Y) (o : Option X) → Says P o → ((x : X) → P x → Says Q (f x)) → Says Q (option_and_then f o)
next_says P Q f None said more = tt
next_says P Q f (Some x) said more = more x said
