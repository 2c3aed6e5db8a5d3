use Rattle.std.proofs.Common.{◌≡◌, ◌∙◌, ap}
use Rattle.pdq_model.specs.StatusView.{StatusView}
use Rattle.pdq_reply.specs.Changes.{pending_numbers}
use Rattle.pdq_reply.proofs.Changing.{target_checked}
use Rattle.pdq_reply.proofs.changes.target.Goals as goal

pub returns : goal.returns
returns c =
    let here : c.now-now.result.now ≡ c.args.manager.now.state.config = c.now-now.ensures.value ∙ ap (λ (v : StatusView). v.config) c.status.ensures.value in
    record {
      value = target_checked c.args.manager.now.state c.args.letter c.args.value c.checked_with.result c.now-now.result.now c.pending_or_present-pending.result c.max_priority.result c.nonpdq_kb.result
          here (c.pending_or_present-pending.ensures.value ∙ ap pending_numbers c.status.ensures.value) c.max_priority.ensures.value c.nonpdq_kb.ensures.value c.checked_with.ensures.test c.checked_with.ensures.value;
    }
