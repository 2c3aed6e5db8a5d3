use Rattle.std.proofs.Common.{◌∙◌, sym}
use Rattle.pdq_serve.proofs.Collected.{was_cancelled, err_of}
use Rattle.pdq_serve.proofs.fetching.cancel_if_broken.Goals as goal

pub returns-then-is_err : goal.returns-then-is_err
returns-then-is_err g c =
    let broke = err_of c.args.told (sym c.is_err.ensures.value ∙ c.if-is_err.true) in
    record {
      cancelled = was_cancelled c.args.pass.now c.cancel-outcome.new.pass c.args.id c.args.told broke.0 c.cancel-outcome.result broke.1
          c.cancel-outcome.ensures.lock c.cancel-outcome.ensures.turn c.cancel-outcome.ensures.keeps c.cancel-outcome.ensures.unfinished;
    }
