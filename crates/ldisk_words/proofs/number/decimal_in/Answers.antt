use Rattle.ldisk_words.proofs.NumberLemmas.{decimal_none, decimal_parsed}
use Rattle.ldisk_words.proofs.number.decimal_in.Goals as goal

pub returns-then-not-are_digits : goal.returns-then-not-are_digits
returns-then-not-are_digits c =
    decimal_none 0 4294967295 c.args.text.now c.as_bytes.result.now c.as_bytes.ensures.value c.if-not-are_digits.ensures

pub returns : goal.returns
returns c =
    decimal_parsed c.args.text.now c.as_bytes.result.now c.parse.result _ c.as_bytes.ensures.value
    c.if-not-are_digits.ensures c.parse.ensures.value.0 c.ok.ensures.value
