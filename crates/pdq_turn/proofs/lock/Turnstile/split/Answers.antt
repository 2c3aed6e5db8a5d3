use Rattle.std.proofs.Common.{rules}
use Rattle.pdq_turn.proofs.Meets.{splits}
use Rattle.pdq_turn.proofs.lock.Turnstile.split.Goals as goal

pub split_seat-seat-requires : goal.split_seat-seat-requires
split_seat-seat-requires g c = (c.requires.free.0, search rules, splits _ _ _ _ _ _ c.requires.free.1.3.0 c.requires.free.1.3.1 c.requires.free.2)
