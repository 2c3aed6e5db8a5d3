use Rattle.std.proofs.Common.{◌≡◌, ◌<◌, ◌+◌, ◌*◌, arith, refl, sym, ◌∙◌, ap₂, ap}
use Rattle.pdq_value.specs.KeyPrefixes.{leading, text_prefix}
use Rattle.pdq_value.proofs.KeyPrefixLaws.{are_bytes, prefixing_more, next_power, small_power}
use Rattle.pdq_value.proofs.key_prefixes.text_prefix.Goals as goal

pub loop-place-init : goal.loop-place-init
unfolding leading
loop-place-init c = record { value = refl; size = omega arith }

pub overflow_mul-prefix : goal.overflow_mul-prefix
overflow_mul-prefix c = omega (arith, small_power c.loop-place.place c.loop-place-test.true)

pub overflow_add-prefix : goal.overflow_add-prefix
overflow_add-prefix c = let byte : c.from.result < 256 = omega arith in omega (arith, byte, small_power c.loop-place.place c.loop-place-test.true)

pub loop-place-preserved : goal.loop-place-preserved
loop-place-preserved c =
    let byte : c.from.result < 256 = omega arith in
    record {
      value = ap₂ (λ m n. m * 256 + n) c.loop-place.invariant.value (c.from.ensures ∙ c.byte_at.ensures.value) ∙ sym (prefixing_more c.loop-place.place c.args.bytes.now);
      size = omega (arith, byte, next_power c.loop-place.place);
    }

pub returns-clause-value : goal.returns-clause-value
unfolding text_prefix
returns-clause-value c = let all : c.loop-place.place ≡ 15 = omega arith in c.loop-place.invariant.value ∙ ap (λ n. leading n c.args.bytes.now) all

pub returns-clause-bytes : goal.returns-clause-bytes
returns-clause-bytes c = are_bytes c.args.bytes.now (λ k. omega (arith, c.type_inv.bytes k))
