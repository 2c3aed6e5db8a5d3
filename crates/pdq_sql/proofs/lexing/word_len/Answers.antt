use Rattle.std.proofs.Common.{◌≡◌, ◌∙◌, sym, get_or, true, false, arith}
use Rattle.pdq_sql.specs.Tokens.{is_word_byte}
use Rattle.pdq_sql.proofs.Bytes.{run_goes, run_ends, run_over}
use Rattle.pdq_sql.proofs.lexing.word_len.Goals as goal

pub loop-n-preserved : goal.loop-n-preserved
loop-n-preserved c =
    let h : is_word_byte (get_or c.args.bytes.now c.loop-n.n 0) ≡ true = sym c.is_word_byte.ensures.value ∙ c.if-is_word_byte.true in
    record { within = omega arith; same = omega (arith, run_goes is_word_byte c.args.bytes.now c.loop-n.n c.loop-n-test.true h, c.loop-n.invariant.same) }

pub returns-else-is_word_byte-clause-count : goal.returns-else-is_word_byte-clause-count
returns-else-is_word_byte-clause-count c =
    let h : is_word_byte (get_or c.args.bytes.now c.loop-n.n 0) ≡ false = sym c.is_word_byte.ensures.value ∙ c.if-is_word_byte.false in
    omega (arith, run_ends is_word_byte c.args.bytes.now c.loop-n.n c.loop-n-test.true h, c.loop-n.invariant.same)

pub returns-after-loop-n-clause-count : goal.returns-after-loop-n-clause-count
returns-after-loop-n-clause-count c = omega (arith, run_over is_word_byte c.args.bytes.now c.loop-n.n c.loop-n-test.false, c.loop-n.invariant.same)
