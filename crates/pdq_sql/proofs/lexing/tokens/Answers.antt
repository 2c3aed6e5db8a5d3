use Rattle.std.proofs.Common.{◌≡◌, ◌++◌, sym, ap, ◌∙◌, true, false, get_or, arith}
use Rattle.pdq_base.specs.Lines.{is_blank}
use Rattle.pdq_sql.proofs.Bytes.{taken, lex_blank, lex_end, lexed}
use Rattle.pdq_sql.proofs.lexing.tokens.Goals as goal

pub loop-at-preserved-then-is_blank : goal.loop-at-preserved-then-is_blank
loop-at-preserved-then-is_blank c =
    let blank : is_blank (get_or c.args.line.now c.loop-at.at 0) ≡ true = sym c.is_blank.ensures.value ∙ c.if-is_blank.true in
    record { within = omega arith; same = c.loop-at.invariant.same ∙ ap (λ ts. c.loop-at.tokens.items ++ ts) (lex_blank c.args.line.now c.loop-at.at c.loop-at-test.true blank) }

pub overflow_add-at-in-loop-at : goal.overflow_add-at-in-loop-at
overflow_add-at-in-loop-at c =
    let filled : is_blank (get_or c.args.line.now c.loop-at.at 0) ≡ false = sym c.is_blank.ensures.value ∙ c.if-is_blank.false in
    let t = taken c.args.line.now c.loop-at.at (c.in_ok-kind.kind, c.in_ok-kind.size) c.loop-at-test.true filled c.in_ok-kind.ensures.value in
    omega (arith, t.most, c.requires.size)

pub loop-at-smaller : goal.loop-at-smaller
loop-at-smaller c =
    let filled : is_blank (get_or c.args.line.now c.loop-at.at 0) ≡ false = sym c.is_blank.ensures.value ∙ c.if-is_blank.false in
    let t = taken c.args.line.now c.loop-at.at (c.in_ok-kind.kind, c.in_ok-kind.size) c.loop-at-test.true filled c.in_ok-kind.ensures.value in
    omega (arith, t.most, t.some, c.loop-at-test.true)

pub loop-at-preserved : goal.loop-at-preserved
loop-at-preserved c =
    let filled : is_blank (get_or c.args.line.now c.loop-at.at 0) ≡ false = sym c.is_blank.ensures.value ∙ c.if-is_blank.false in
    let t = taken c.args.line.now c.loop-at.at (c.in_ok-kind.kind, c.in_ok-kind.size) c.loop-at-test.true filled c.in_ok-kind.ensures.value in
    record { within = t.most; same = lexed _ c.loop-at.tokens.items c.args.line.now c.loop-at.at c.in_ok-kind.kind c.in_ok-kind.size t c.loop-at.invariant.same c.in_ok-push.ensures.items }

pub returns : goal.returns
returns c = record {
  value =
      c.in_ok-push-2.ensures.items ∙ ap (λ ts. c.loop-at.tokens.items ++ ts) (sym (lex_end c.args.line.now c.loop-at.at c.loop-at-test.false)) ∙ sym c.loop-at.invariant.same;
}
