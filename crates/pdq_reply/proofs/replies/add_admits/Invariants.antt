use Rattle.std.proofs.Common.{◌≡◌, ◌++◌, take}
use Rattle.pdq_reply.specs.Replies.{admits_text}
use Rattle.pdq_reply.proofs.replies.add_admits.Given as goal

abbrev pub invariant-admits : goal.invariant-admits
invariant-admits l = l.out.items ≡ l.initial.out.items ++ admits_text (take l.admit-index l.admits)
