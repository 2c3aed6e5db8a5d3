use Rattle.std.proofs.Common.{◌≡◌, ◌∙◌, ap, length}
use Rattle.pdq_query.specs.Queries.{QueryView}
use Rattle.pdq_plan.specs.Plans.{columns_of}
use Rattle.pdq_eval.specs.Picks.{picked}
use Rattle.pdq_result.specs.Picking.{group_picks}
use Rattle.pdq_result.proofs.Picked.{all_pushed, length-group_picks, picked-group_picks}
use Rattle.pdq_result.proofs.grouping.group_picks.Goals as goal

made : (c : goal.In_ok-push_item_picks) → c.push_item_picks.new.picks.items ≡ group_picks (columns_of c.args.plan.now) c.args.plan.now.query
made c =
    all_pushed (columns_of c.args.plan.now) c.args.plan.now.query c.deref.result.now c.deref-2.result.now c.new-picks.result.items c.push_key_picks.new.picks.items c.push_item_picks.new.picks.items
    c.new-picks.ensures.items (c.deref.ensures.value ∙ ap (λ (q : QueryView). q.groups) c.query-query.ensures) (c.deref-2.ensures.value ∙ ap (λ (q : QueryView). q.items) c.query-query.ensures)
    c.in_ok-push_key_picks.ensures.value c.in_ok-push_item_picks.ensures.value

pub returns-clause-picks : goal.returns-clause-picks
returns-clause-picks c w = ap (λ picks. picked picks w) (made c) ∙ picked-group_picks (columns_of c.args.plan.now) c.args.plan.now.query w

pub returns-clause-count : goal.returns-clause-count
returns-clause-count c = ap length (made c) ∙ length-group_picks (columns_of c.args.plan.now) c.args.plan.now.query
