use Rattle.std.proofs.lemmas.Result.{on_ok_weaker}
use Rattle.pdq_gate.specs.Changes.{pool_size, setting_of}
use Rattle.pdq_session.proofs.Replying.{changed_state, entered_change, refused_change}
use Rattle.pdq_session.proofs.script_commands.answer_change.Goals as goal

pub returns-in_ok-add_change-in-Ok-clause-replies : goal.returns-in_ok-add_change-in-Ok-clause-replies
returns-in_ok-add_change-in-Ok-clause-replies c =
    on_ok_weaker c.add_admits.result
    (entered_change c.args.manager.now c.onmode.new.self c.current.result c.args.sessions.now.current (setting_of c.args.change) (pool_size c.args.change) c.in-Ok.changed c.admitted.result.now c.args.replies.now.items c.add_change.new.replies.items c.add_admits.new.out.items
    c.current.ensures.value c.requires.pool c.in-Ok.ensures.answer.told c.in-Ok.ensures.answer.at c.onmode.ensures.state c.onmode.ensures.admitted c.admitted.ensures.value c.in_ok-add_change-in-Ok.ensures.text)
    c.add_admits.ensures.text

pub returns-in_ok-add_change-in-Ok-clause-state : goal.returns-in_ok-add_change-in-Ok-clause-state
returns-in_ok-add_change-in-Ok-clause-state c = changed_state c.args.manager.now c.onmode.new.self c.args.sessions.now c.current.result (setting_of c.args.change) (pool_size c.args.change) c.current.ensures.value c.requires.pool c.onmode.ensures.state c.onmode.ensures.history

pub returns-in_err-add_change-in-Ok-clause-state : goal.returns-in_err-add_change-in-Ok-clause-state
returns-in_err-add_change-in-Ok-clause-state c = changed_state c.args.manager.now c.onmode.new.self c.args.sessions.now c.current.result (setting_of c.args.change) (pool_size c.args.change) c.current.ensures.value c.requires.pool c.onmode.ensures.state c.onmode.ensures.history

pub returns-in-Err-clause-replies : goal.returns-in-Err-clause-replies
returns-in-Err-clause-replies c =
    on_ok_weaker c.add_refusal.result
    (refused_change c.args.manager.now c.onmode.new.self c.current.result c.args.sessions.now.current (setting_of c.args.change) (pool_size c.args.change) c.in-Err.refused c.args.replies.now.items c.add_refusal.new.out.items
    c.current.ensures.value c.requires.pool c.in-Err.ensures.answer.told c.in-Err.ensures.answer.at c.onmode.ensures.state)
    c.add_refusal.ensures.text

pub returns-in-Err-clause-state : goal.returns-in-Err-clause-state
returns-in-Err-clause-state c = changed_state c.args.manager.now c.onmode.new.self c.args.sessions.now c.current.result (setting_of c.args.change) (pool_size c.args.change) c.current.ensures.value c.requires.pool c.onmode.ensures.state c.onmode.ensures.history
