use Rattle.std.proofs.Common.{◌≡◌, sym, ap, arith, ◌∙◌, Ok}
use Rattle.std.proofs.lemmas.Int.{ints}
use Rattle.pdq_value.specs.Numbers.{magnitude_of}
use Rattle.pdq_value.proofs.NumberSteps.{number_read-bad, number_read-large, number_read-fits, signed_magnitude-negative, signed_magnitude-positive}
use Rattle.pdq_value.proofs.numbers.read_number.Goals as goal

pub overflow_cast-result : goal.overflow_cast-result
overflow_cast-result c = grind (arith, c.in-Some.ensures.within)

pub returns-in-Some : goal.returns-in-Some
returns-in-Some c = record { value = sym (number_read-bad c.args.text.now c.args.scale c.in-Some.place (sym c.first_bad_place.ensures.value ∙ c.in-Some.is)) }

pub returns-then-size-ge-MAGNITUDE_LIMIT : goal.returns-then-size-ge-MAGNITUDE_LIMIT
returns-then-size-ge-MAGNITUDE_LIMIT c =
    let e = c.magnitude-size.ensures.value in
    record { value = sym (number_read-large c.args.text.now c.args.scale (sym c.first_bad_place.ensures.value ∙ c.in_default.is) (omega (arith, e))) }

pub returns-then-has_minus_sign : goal.returns-then-has_minus_sign
returns-then-has_minus_sign c =
    let e = c.magnitude-size.ensures.value in
    let m : c.magnitude-size.result ≡ magnitude_of c.args.scale c.args.text.now = omega (arith, e) in
    record { value = ap Ok (omega (arith, ints)) ∙ sym (number_read-fits c.args.text.now c.args.scale (sym c.first_bad_place.ensures.value ∙ c.in_default.is) (omega (arith, e)) ∙ ap Ok (signed_magnitude-negative c.args.text.now c.args.scale (sym c.has_minus_sign.ensures.value ∙ c.if-has_minus_sign.true))) }

pub returns-else-has_minus_sign : goal.returns-else-has_minus_sign
returns-else-has_minus_sign c =
    let e = c.magnitude-size.ensures.value in
    let m : c.magnitude-size.result ≡ magnitude_of c.args.scale c.args.text.now = omega (arith, e) in
    record { value = ap Ok (omega (arith, ints)) ∙ sym (number_read-fits c.args.text.now c.args.scale (sym c.first_bad_place.ensures.value ∙ c.in_default.is) (omega (arith, e)) ∙ ap Ok (signed_magnitude-positive c.args.text.now c.args.scale (sym c.has_minus_sign.ensures.value ∙ c.if-has_minus_sign.false))) }
