use Rattle.std.proofs.Common.{rules, arith, length, ◌-◌, ◌^◌, ap, sym, ◌∙◌}
use Rattle.pdq_turn.specs.Pass.{mark_of}
use Rattle.pdq_office.specs.Passes.{lock_at, lock_in, known}
use Rattle.pdq_turn.proofs.Marks.{one_mark}
use Rattle.pdq_accept.proofs.Accepted.{marked_first, marked_rest, prefix_self, prefix_then, one_counted, one_gathered}
use Rattle.pdq_accept.proofs.serving.gather_all.Goals as goal

pub sessions-init : goal.sessions-init
sessions-init g c = record {
  lock = search rules;
  seen = prefix_self (known c.args.pass.now).seen;
  marked = search rules;
  count = search rules;
  served = search rules;
  gathered = search rules;
  started = search rules;
  faults = search rules;
}

pub meet-requires-clause-lock : goal.meet-requires-clause-lock
meet-requires-clause-lock g c =
    (search rules, one_mark (lock_at c.in-Some.done.pass) (lock_in c.args.office.now) (sym (c.requires.done c.in-Some.done) ∙ marked_first (mark_of (lock_in c.args.office.now)) _ (g.P.Spawner.marks c.sessions.spawner) (g.P.Spawner.marks c.gather.new.self) c.sessions.invariant.marked c.in-Some.ensures.first))

pub sessions-preserved : goal.sessions-preserved
sessions-preserved g c = record {
  lock = search rules;
  seen = prefix_then _ _ _ c.sessions.invariant.seen c.meet.ensures.follows.seen;
  marked = marked_rest (mark_of (lock_in c.args.office.now)) _ (g.P.Spawner.marks c.sessions.spawner) (g.P.Spawner.marks c.gather.new.self) c.sessions.invariant.marked c.in-Some.ensures.first;
  count = one_counted c.sessions.served c.saturating_add-served.result (length (g.P.Spawner.marks c.sessions.spawner)) (length (g.P.Spawner.marks c.gather.new.self)) _ (2 ^ 64 - 1) c.saturating_add-served.ensures (ap length c.in-Some.ensures.first ∙ omega arith) c.sessions.invariant.count;
  served = search rules;
  gathered = one_gathered (g.P.Spawner.gathered c.args.spawner.now) c.sessions.served c.saturating_add-served.result (g.P.Spawner.gathered c.sessions.spawner) (g.P.Spawner.gathered c.gather.new.self) (2 ^ 64 - 1) c.saturating_add-served.ensures c.sessions.invariant.gathered c.in-Some.ensures.gathered;
  started = c.gather.ensures.started ∙ c.sessions.invariant.started;
  faults = c.gather.ensures.same ∙ c.sessions.invariant.faults;
}
