-- What the laws of owners that group rest on.
use Rattle.std.proofs.Common.{◌≡◌, ℕ, ◌+◌, ◌<◌, List, [], ◌++◌, length, refl, sym, ap, ◌∙◌, subst, Bool, true, false, true≢false, append_assoc, length-append, add_assoc, ℤ}
use Rattle.std.specs.Prelude.{Option, Some, None}
use Rattle.std.proofs.Math.Nat.{add-zero, le-add_right, lt_of_lt_of_le}
use Rattle.std.proofs.lemmas.List.{append-nil}
use Rattle.pdq_spill.specs.declared.faults.ExecFault.{ExecFault}
use Rattle.pdq_spill.proofs.Growing.{grown-none, grown-on}
use Rattle.pdq_group.specs.Groupers.{GrouperView, KeepsShape, Took, blocks_put}
use Rattle.pdq_owner.specs.FaultLaws.{differ, of_store-before}
use Rattle.pdq_owner.specs.Folders.{FolderView, KeepsFolder, TakesFolds}

never : {P : Type 0} (b : Bool) → b ≡ true → b ≡ false → P
never b e f = absurd (true≢false (sym e ∙ f))

over-more : (m n u v : ℕ) → n ≡ m + u → 20000000 < n + v → 20000000 < m + (u + v)
over-more m n u v e h = subst (λ (x : ℕ). 20000000 < x) (ap (λ (x : ℕ). x + v) e ∙ add_assoc m u v) h

over-first : (m u v : ℕ) → 20000000 < m + u → 20000000 < m + (u + v)
over-first m u v h = subst (λ (x : ℕ). 20000000 < x) (add_assoc m u v) (lt_of_lt_of_le h (le-add_right (m + u) v))

pub groups-none : (g : GrouperView) → KeepsShape g g
groups-none g = record { keys = refl; folds = refl; frames = refl; grown = grown-none g.store; blocks = sym (add-zero (blocks_put g)) }

groups-on : (a b c : GrouperView) → KeepsShape a b → KeepsShape b c → KeepsShape a c
groups-on a b c h k = record {
  keys = k.keys ∙ h.keys;
  folds = k.folds ∙ h.folds;
  frames = k.frames ∙ h.frames;
  grown = grown-on a.store b.store c.store h.grown k.grown;
  blocks = k.blocks ∙ (ap (λ (x : ℕ). x + length k.grown.more) h.blocks ∙ (add_assoc (blocks_put a) (length h.grown.more) (length k.grown.more) ∙ ap (λ (x : ℕ). blocks_put a + x) (sym (length-append h.grown.more k.grown.more))));
}

pub folds-none : (f : FolderView) → TakesFolds f [] f
folds-none f = record {
  stays = λ e. refl;
  took_all = λ e n before h. subst (λ l. Took f.grouper l) (sym (append-nil before)) h;
  count = λ e n. sym (add-zero f.rows);
  over = λ e n. never f.full n e;
}

folds-by : (a b c : FolderView) (us vs : List (List ℤ)) (full : Bool) → b.full ≡ full → TakesFolds a us b → TakesFolds b vs c → TakesFolds a (us ++ vs) c
folds-by a b c us vs true is h k = subst (λ (x : FolderView). TakesFolds a (us ++ vs) x) (sym (k.stays is)) (record {
  stays = h.stays;
  took_all = λ e n before t. never b.full is n;
  count = λ e n. never b.full is n;
  over = λ e n. subst (λ (m : ℕ). 20000000 < a.rows + m) (sym (length-append us vs)) (over-first a.rows (length us) (length vs) (h.over e n));
})
folds-by a b c us vs false is h k = record {
  stays = λ e. k.stays (ap (λ (x : FolderView). x.full) (h.stays e) ∙ e) ∙ h.stays e;
  took_all = λ e n before t. subst (λ l. Took c.grouper l) (append_assoc before us vs) (k.took_all is n (before ++ us) (h.took_all e is before t));
  count = λ e n. k.count is n ∙ (ap (λ (x : ℕ). x + length vs) (h.count e is) ∙ (add_assoc a.rows (length us) (length vs) ∙ ap (λ (x : ℕ). a.rows + x) (sym (length-append us vs))));
  over = λ e n. subst (λ (m : ℕ). 20000000 < a.rows + m) (sym (length-append us vs)) (over-more a.rows b.rows (length us) (length vs) (h.count e is) (k.over is n));
}

pub folds-on : (a b c : FolderView) (us vs : List (List ℤ)) → TakesFolds a us b → TakesFolds b vs c → TakesFolds a (us ++ vs) c
folds-on a b c us vs h k = folds-by a b c us vs b.full refl h k

pub folder-none : (f : FolderView) → KeepsFolder f f
folder-none f = record { shape = groups-none f.grouper; cause = λ x e n. differ f.fault e n; stays = λ x e. refl }

folder-by : (a b c : FolderView) (o : Option ExecFault) → b.fault ≡ o → KeepsFolder a b → KeepsFolder b c → KeepsFolder a c
folder-by a b c (Some f) e h k = subst (λ (x : FolderView). KeepsFolder a x) (sym (k.stays f e)) h
folder-by a b c None e h k = record {
  shape = groups-on a.grouper b.grouper c.grouper h.shape k.shape;
  cause = λ f is none. of_store-before f a.grouper.store.faults b.grouper.store.faults c.grouper.store.faults h.shape.grown.later (k.cause f is e);
  stays = λ f is. k.stays f (ap (λ (x : FolderView). x.fault) (h.stays f is) ∙ is) ∙ h.stays f is;
}

pub folder-on : (a b c : FolderView) → KeepsFolder a b → KeepsFolder b c → KeepsFolder a c
folder-on a b c h k = folder-by a b c b.fault refl h k
