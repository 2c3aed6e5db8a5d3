use Rattle.std.proofs.Common.{◌≡◌, ◌≤◌, All, length, sum_by}
use Rattle.pdq_exchange.specs.Routing.{owner_of}
use Rattle.pdq_exchange.specs.Waves.{IsSamePlan, at_each}
use Rattle.pdq_owner.specs.Phases.{CountsGiven, WereSent}
use Rattle.pdq_owner.proofs.rounds.waves.Given as goal

abbrev pub invariant-rounds : goal.invariant-rounds
invariant-rounds g l = record {
  plan : IsSamePlan l.initial.plan l.plan;
  lane_widths : All (λ lane. (g.Sc.Scanner.width lane.scanner ≡ l.plan.width) × (lane.load.batch.width ≡ l.plan.width)) l.lanes;
  desk_widths : All (λ desk. (g.Ow.Owner.width desk.owner ≡ l.plan.width) × (desk.batch.width ≡ l.plan.width)) l.desks;
  lanes_kept : at_each l.initial.lanes l.lanes (λ i old new. g.Sc.Scanner.keeps old.scanner new.scanner);
  desks_kept : at_each l.initial.desks l.desks (λ j old new. g.Ow.Owner.keeps old.owner new.owner);
  sent : WereSent g.Sc.Scanner.left g.Ow.Owner.takes (owner_of l.initial.plan.keys (length l.initial.desks)) l.initial.lanes l.lanes l.initial.desks l.desks;
  counted : at_each l.initial.lanes l.lanes (λ i old new. CountsGiven g.Sc.Scanner.left old new);
  stop_kept : g.St.Stop.keeps l.initial.stop l.stop;
  asked : g.St.Stop.asked l.initial.stop ≤ g.St.Stop.asked l.stop;
  told : g.St.Stop.told l.stop ≡ g.St.Stop.told l.initial.stop;
}

abbrev pub decreases-rounds : goal.decreases-rounds
decreases-rounds g l = sum_by (λ lane. (g.Sc.Scanner.left lane.scanner).count) l.lanes
