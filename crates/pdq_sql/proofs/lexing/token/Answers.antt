use Rattle.std.proofs.Common.{sym, ◌∙◌}
use Rattle.pdq_sql.proofs.Bytes.{symbol_is_token}
use Rattle.pdq_sql.proofs.lexing.token.Goals as goal

pub returns-else-first-eq39 : goal.returns-else-first-eq39
returns-else-first-eq39 c = record {
  value =
      c.symbol.ensures.value
      ∙ symbol_is_token c.args.bytes.now c.in-len1-up.len_at_least (sym c.is_ascii_alphabetic.ensures.value ∙ c.if-is_ascii_alphabetic.false) (sym c.is_ascii_digit.ensures.value ∙ c.if-is_ascii_digit.false) c.if-first-eq45.false c.if-first-eq39.false;
}
