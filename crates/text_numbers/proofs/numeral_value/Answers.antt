use Rattle.std.proofs.Common.{◌<◌, get_or, refl, arith}
use Rattle.std.specs.Char.{digit_value}
use Rattle.std.proofs.lemmas.Int.Digits.{digits_value_more}
use Rattle.text_numbers.proofs.NumberLemmas.{digits_more, capped_more}
use Rattle.text_numbers.proofs.numeral_value.Goals as goal

pub loop-digit-preserved : goal.loop-digit-preserved
loop-digit-preserved c =
    let told = c.in_ok-digit.ensures in
    let digit : digit_value (get_or c.args.text.now c.loop-digit.digit-index 0) < c.args.radix =
    rw (← c.from.ensures) told.value.0 in
    let more = digits_value_more c.args.radix c.args.text.now c.loop-digit.digit-index c.loop-digit-test.true in
    let capped = capped_more _ c.args.radix c.in_ok-digit.digit c.loop-digit.number (omega arith) c.loop-digit.invariant.value in
    record {
      digits = digits_more c.args.radix c.args.text.now c.loop-digit.digit-index c.loop-digit-test.true c.loop-digit.invariant.digits digit;
      value = rw (c.min-number.ensures, capped, more, ← c.from.ensures, told.value.1) refl;
    }
