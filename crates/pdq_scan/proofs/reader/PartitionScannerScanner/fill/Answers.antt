use Rattle.std.proofs.Common.{◌≡◌, ◌+◌, ◌∙◌, ap, subst, sym, arith, length, List, ◌++◌, ◌∷◌, []}
use Rattle.std.specs.Prelude.{ℤ}
use Rattle.pdq_exchange.specs.Roles.{Gave, behind}
use Rattle.pdq_exchange.specs.Batches.{BatchView}
use Rattle.pdq_scan.specs.Readers.{ReaderView, coming_of}
use Rattle.pdq_scan.specs.ReaderLaws.{reader-coming, reader-on}
use Rattle.pdq_scan.proofs.Reading.{behind-row, gave-plain, moved-coming, moved-count, moved-keeps, same-coming}
use Rattle.pdq_scan.proofs.reader.PartitionScannerScanner.fill.Goals as goal

pub returns-in-Some-clause-coming : goal.returns-in-Some-clause-coming
returns-in-Some-clause-coming g c = reader-coming c.args.self.now

pub returns-then-not-branch-clause-gave : goal.returns-then-not-branch-clause-gave
returns-then-not-branch-clause-gave g c =
    let inv = c.loop-self.invariant in
    let s = c.in_ok-turn.ensures.same in
    gave-plain c.args.self.now c.turn.new.self c.loop-self.batch.rows inv.coming (same-coming c.loop-self.self c.turn.new.self s inv.coming_now) (omega (arith, inv.count, s.count)) (inv.rows ∙ ap (λ o. behind c.loop-self.batch.rows o) (sym s.rows))

pub returns-then-not-put_next-clause-gave : goal.returns-then-not-put_next-clause-gave
returns-then-not-put_next-clause-gave g c =
    let inv = c.loop-self.invariant in
    let s = c.in_ok-turn.ensures.same in
    let f = c.put_next.ensures.full c.if-not-put_next.true in
    let gave : Gave (coming_of c.args.self.now) c.loop-self.batch.rows (coming_of c.turn.new.self) = gave-plain c.args.self.now c.turn.new.self c.loop-self.batch.rows inv.coming (same-coming c.loop-self.self c.turn.new.self s inv.coming_now) (omega (arith, inv.count, s.count)) (inv.rows ∙ ap (λ o. behind c.loop-self.batch.rows o) (sym s.rows)) in
    subst (λ (r : ReaderView). Gave (coming_of c.args.self.now) c.put_next.new.batch.rows (coming_of r)) (sym f.0)
    (subst (λ (b : BatchView). Gave (coming_of c.args.self.now) b.rows (coming_of c.turn.new.self)) (sym f.1) gave)

pub loop-self-preserved : goal.loop-self-preserved
loop-self-preserved g c =
    let inv = c.loop-self.invariant in
    let s = c.in_ok-turn.ensures.same in
    let m = c.put_next.ensures.moved c.if-not-put_next.false in
    let old = c.args.self.now in
    let new = c.put_next.new.self in
    let rows_is : c.put_next.new.batch.rows ≡ c.loop-self.batch.rows ++ m.row ∷ [] = ap (λ (b : BatchView). b.rows) m.batch_is in
    record {
      fine = m.fault ∙ (s.fault ∙ inv.fine);
      first = inv.first;
      width = m.width ∙ (s.width ∙ inv.width);
      batch_width = ap (λ (b : BatchView). b.width) m.batch_is ∙ (inv.batch_width ∙ (sym s.width ∙ sym m.width));
      coming = inv.coming;
      coming_now = moved-coming c.turn.new.self new c.loop-self.batch c.put_next.new.batch m (same-coming c.loop-self.self c.turn.new.self s inv.coming_now);
      count = subst (λ (rows : List (List ℤ)). old.count ≡ length rows + new.count) (sym rows_is) (moved-count old.count c.loop-self.self.count new.count c.loop-self.batch.rows m.row inv.count (sym s.count ∙ m.count));
      rows = subst (λ (rows : List (List ℤ)). old.rows ≡ behind rows new.rows) (sym rows_is) (behind-row old.rows c.loop-self.self.rows new.rows c.loop-self.batch.rows m.row inv.rows (sym s.rows ∙ m.rows));
      kept = reader-on old c.turn.new.self new (reader-on old c.loop-self.self c.turn.new.self inv.kept c.turn.ensures.kept) (moved-keeps c.turn.new.self new m.store m.fault (s.fault ∙ inv.fine));
    }
