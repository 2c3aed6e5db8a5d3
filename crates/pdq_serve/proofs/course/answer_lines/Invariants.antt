use Rattle.std.proofs.Common.{ℕ, ◌≡◌, ◌-◌, List, length, Ok, false, true}
use Rattle.pdq_office.specs.Passes.{lock_in}
use Rattle.pdq_serve.specs.Course.{HasTaken, IsUnderWay, asks}
use Rattle.pdq_serve.specs.Questions.{all_tell}
use Rattle.pdq_serve.proofs.course.answer_lines.Given as goal

abbrev pub invariant-lines : goal.invariant-lines
invariant-lines g l = (bytes : List ℕ) × (lines : List (List ℕ))
    × HasTaken (g.So.Source.left l.initial.source) (g.So.Source.left l.source) (g.So.Source.taken l.initial.source) (g.So.Source.taken l.source) l.reader bytes lines
    × IsUnderWay {T = Unit {0}} (lock_in l.office) l.initial.pass l.pass l.initial.standing l.standing (asks g.Sp.Spill.blocks l.initial.stores.items l.stored l.opening lines)
    (g.Si.Sink.written l.initial.sink) (g.Si.Sink.written l.sink) (g.Si.Sink.faults l.initial.sink) (g.Si.Sink.faults l.sink) (Ok tt) false
    × (length l.stores.items ≡ 48)
    × (all_tell g.Sp.Spill.blocks l.initial.stores.items ≡ true → all_tell g.Sp.Spill.blocks l.stores.items ≡ true)
    × (g.So.Source.faults l.source ≡ g.So.Source.faults l.initial.source)

abbrev pub decreases-lines : goal.decreases-lines
decreases-lines g l = 16777217 - l.reader.given
