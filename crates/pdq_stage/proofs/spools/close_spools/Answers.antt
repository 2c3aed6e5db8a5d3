use Rattle.std.proofs.Common.{◌≡◌, ℕ, ◌+◌, ◌≤◌, List, ◌++◌, ◌∷◌, [], length, map, sym, ap, ◌∙◌, subst, arith}
use Rattle.std.specs.Prelude.{IsSome}
use Rattle.std.proofs.lemmas.List.{append_assoc}
use Rattle.pdq_edge.specs.Causes.{Rose}
use Rattle.pdq_spill.specs.Stores.{StoreView}
use Rattle.pdq_spill.specs.Partitions.{with_blocks}
use Rattle.pdq_spill.proofs.Growing.{with_blocks-told}
use Rattle.pdq_owner.specs.Spools.{SpoolView}
use Rattle.pdq_step.specs.Homes.{store_of}
use Rattle.pdq_stage.specs.Spooling.{IsLaterView, IsSealedIn}
use Rattle.pdq_stage.proofs.Sealing.{mapped-push, of_store, rest-stays, rose-here, sealed-push}
use Rattle.pdq_stage.proofs.spools.close_spools.Goals as goal

-- a store that grew from what its spool told
grown : (s t u : StoreView) (more : List (List ℕ)) → s ≡ t → u.blocks ≡ with_blocks t.blocks more → u.puts ≡ t.puts + length more → t.faults ≤ u.faults → IsLaterView s u
grown s t u more e b p l = record {
  later = omega (arith, ap (λ (v : StoreView). v.faults) e, l);
  more = omega (arith, ap (λ (v : StoreView). v.puts) e, p);
  told = λ h. with_blocks-told t.blocks u.blocks more b (subst (λ (v : StoreView). IsSome v.blocks) e h);
}

pub closing-preserved : goal.closing-preserved
closing-preserved g c =
    let view = store_of g.Sp.Spill.blocks g.Sp.Spill.held g.Sp.Spill.puts g.Sp.Spill.faults in
    let past = c.closing.invariant.left in
    let s = c.first_of.result in
    let t = c.seal-sealed.new.store in
    let p = c.seal-sealed.new.self in
    let later : IsLaterView s.store (view t) = grown s.store (view c.leave-partition.result.1) (view t) c.seal-sealed.ensures.puts.more c.leave-partition.ensures.store c.seal-sealed.ensures.puts.told c.seal-sealed.ensures.puts.puts c.seal-sealed.ensures.later in
    let sealed : IsSealedIn g.Sp.Spill.blocks g.Sp.Spill.held s p t = record { sealed = c.in-Ok.ensures.sealed; next = c.in-Ok.ensures.next; tail = c.in-Ok.ensures.rest; stands = c.seal-sealed.ensures.stands; rows_are = c.seal-sealed.ensures.rows ∙ c.leave-partition.ensures.rows; width_is = c.seal-sealed.ensures.width ∙ c.leave-partition.ensures.width } in
    record {
      left = (
        past.0 ++ s ∷ [],
        append_assoc past.0 (s ∷ []) c.first_of.new.values.items ∙ (ap (λ (l : List SpoolView). past.0 ++ l) (sym c.first_of.ensures.first) ∙ past.1),
        rw c.push_in_room.ensures.value (mapped-push IsLaterView (λ (x : SpoolView). x.store) view past.0 c.closing.stores.items s t past.2 later),
        rw (c.push_in_room.ensures.value, c.push_in_room-in-Ok.ensures.value) (sealed-push g.Sp.Spill.blocks g.Sp.Spill.held past.0 c.closing.rows.items c.closing.stores.items s p t past.3 sealed),
      );
      store_room = omega arith;
      row_room = omega arith;
    }

pub returns-in-Err-clause-home : goal.returns-in-Err-clause-home
returns-in-Err-clause-home g c =
    let view = store_of g.Sp.Spill.blocks g.Sp.Spill.held g.Sp.Spill.puts g.Sp.Spill.faults in
    let past = c.closing.invariant.left in
    let s = c.first_of.result in
    let t = c.seal-sealed.new.store in
    let later : IsLaterView s.store (view t) = grown s.store (view c.leave-partition.result.1) (view t) c.seal-sealed.ensures.puts.more c.leave-partition.ensures.store c.seal-sealed.ensures.puts.told c.seal-sealed.ensures.puts.puts c.seal-sealed.ensures.later in
    let all : past.0 ++ (s ∷ c.first_of.new.values.items) ≡ c.args.spools.now.items = ap (λ (l : List SpoolView). past.0 ++ l) (sym c.first_of.ensures.first) ∙ past.1 in
    rest-stays (λ (x : SpoolView). x.store) past.0 c.first_of.new.values.items c.args.spools.now.items s (map view c.push_in_room.new.values.items) (map view c.leave_spools.new.stores.items) all c.leave_spools.ensures.all
    (rw c.push_in_room.ensures.value (mapped-push IsLaterView (λ (x : SpoolView). x.store) view past.0 c.closing.stores.items s t past.2 later))

pub returns-in-Err-clause-failed : goal.returns-in-Err-clause-failed
returns-in-Err-clause-failed g c =
    let view = store_of g.Sp.Spill.blocks g.Sp.Spill.held g.Sp.Spill.puts g.Sp.Spill.faults in
    let past = c.closing.invariant.left in
    let s = c.first_of.result in
    let t = c.seal-sealed.new.store in
    let all : past.0 ++ (s ∷ c.first_of.new.values.items) ≡ c.args.spools.now.items = ap (λ (l : List SpoolView). past.0 ++ l) (sym c.first_of.ensures.first) ∙ past.1 in
    let now : map view c.leave_spools.new.stores.items ≡ map view (c.closing.stores.items ++ t ∷ []) ++ map (λ (x : SpoolView). x.store) c.first_of.new.values.items = rw (← c.push_in_room.ensures.value) c.leave_spools.ensures.all in
    of_store c.in-Err.fault (g.Sp.Spill.faults c.leave-partition.result.1) (g.Sp.Spill.faults t) c.in-Err.ensures.fault
    (λ rose. rose-here (λ (x : SpoolView). x.store) view past.0 c.first_of.new.values.items c.args.spools.now.items s c.closing.stores.items t (map view c.leave_spools.new.stores.items) all now past.2
    (subst (λ (n : ℕ). Rose n (g.Sp.Spill.faults t)) (sym (ap (λ (v : StoreView). v.faults) c.leave-partition.ensures.store)) rose))
