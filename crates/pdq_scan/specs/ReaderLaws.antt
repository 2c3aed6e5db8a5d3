-- What the laws of scanners of partitions rest on.
use Rattle.std.proofs.Common.{◌≡◌, ℕ, ◌==◌, List, [], ◌∷◌, length, refl, sym, ap, ◌∙◌, subst, Bool, true, false, cond, ◌&&◌, true≢false, eqb-true, All, ℤ}
use Rattle.std.specs.List.{list_all}
use Rattle.std.proofs.lemmas.List.Elements.{All-cons, All-nil}
use Rattle.std.specs.Prelude.{Option, Some, None}
use Rattle.pdq_spill.specs.declared.faults.ExecFault.{ExecFault}
use Rattle.pdq_exchange.specs.Roles.{IsComing}
use Rattle.pdq_scan.specs.StoreFaults.{of_store-before}
use Rattle.std.proofs.Math.Nat.{le_refl, le_trans}
use Rattle.pdq_scan.specs.Readers.{ReaderView, KeepsReader, are_wide, guarded, coming_of}
use Rattle.pdq_scan.specs.StoreFaults.{differ}

both : (a b : Bool) → (a && b) ≡ true → (a ≡ true) × (b ≡ true)
both true b e = (refl, e)
both false b e = absurd (true≢false (sym e))

all_wide : (w : ℕ) (rows : List (List ℤ)) → list_all (λ row. length row == w) rows ≡ true → All (λ row. length row ≡ w) rows
all_wide w [] e = All-nil (λ row. length row ≡ w)
all_wide w (row ∷ rows) e = let h = both (length row == w) (list_all (λ row. length row == w) rows) e in All-cons (λ row. length row ≡ w) row rows (eqb-true (length row) w h.0) (all_wide w rows h.1)

guarded-by : (w n : ℕ) (rows : List (List ℤ)) (b : Bool) → are_wide w rows ≡ b → IsComing w (cond b (record { count = length rows; rows = Some rows }) (record { count = n; rows = None }))
guarded-by w n rows true e = (refl, all_wide w rows e)
guarded-by w n rows false e = tt

guarded-is : (w n : ℕ) (o : Option (List (List ℤ))) → IsComing w (guarded w n o)
guarded-is w n None = tt
guarded-is w n (Some rows) = guarded-by w n rows (are_wide w rows) refl

pub reader-coming : (r : ReaderView) → IsComing r.width (coming_of r)
reader-coming r = guarded-is r.width r.count r.rows

pub reader-none : (r : ReaderView) → KeepsReader r r
reader-none r = record { blocks = refl; held = refl; puts = refl; later = le_refl r.store.faults; cause = λ f e n. differ r.fault e n; stays = λ f e. refl }

reader-by : (a b c : ReaderView) (o : Option ExecFault) → b.fault ≡ o → KeepsReader a b → KeepsReader b c → KeepsReader a c
reader-by a b c (Some f) e h k = subst (λ (x : ReaderView). KeepsReader a x) (sym (k.stays f e)) h
reader-by a b c None e h k = record {
  blocks = k.blocks ∙ h.blocks;
  held = k.held ∙ h.held;
  puts = k.puts ∙ h.puts;
  later = le_trans h.later k.later;
  cause = λ f is none. of_store-before f a.store.faults b.store.faults c.store.faults h.later (k.cause f is e);
  stays = λ f is. k.stays f (ap (λ (x : ReaderView). x.fault) (h.stays f is) ∙ is) ∙ h.stays f is;
}

pub reader-on : (a b c : ReaderView) → KeepsReader a b → KeepsReader b c → KeepsReader a c
reader-on a b c h k = reader-by a b c b.fault refl h k
