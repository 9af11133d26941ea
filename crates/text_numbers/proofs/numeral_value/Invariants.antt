use Rattle.std.proofs.Common.{◌≡◌, min, take, true}
use Rattle.std.specs.List.{list_all}
use Rattle.std.specs.Char.{is_digit}
use Rattle.std.specs.Str.Parse.{digits_value}
use Rattle.text_numbers.proofs.numeral_value.Given as goal

-- the bytes so far are digits, and this is what they write, unless it is too large
abbrev pub invariant-loop-digit : goal.invariant-loop-digit
invariant-loop-digit l = record {
  digits : list_all (λ c. is_digit c l.radix) (take l.digit-index l.text) ≡ true;
  value : l.number ≡ min 65536 (digits_value l.radix (take l.digit-index l.text));
}
