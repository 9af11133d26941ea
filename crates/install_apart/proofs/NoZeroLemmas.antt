-- Texts without a zero byte.
use Rattle.std.proofs.Common.{◌≡◌, ◌≢◌, ◌+◌, ◌/◌, ◌%◌, ◌==◌, nat_le, ℕ, Bool, true, false, not, if◌then◌else◌, List, [], ◌∷◌, ◌++◌, codes, refl, arith}
use Rattle.std.specs.List.{list_all, AllByRecursion}
use Rattle.std.proofs.lemmas.Bool.{and_parts}
use Rattle.std.proofs.lemmas.Bool.Decides.{nat_tests}
use Rattle.std.proofs.lemmas.List.Elements.{All-append, All-from_recursion}
use Rattle.lilo_model.specs.Bytes.{hex_digit, hex_byte}
use Rattle.lilo_model.specs.Devices.{Device, device_number}
use Rattle.lilo_model.specs.NamePlaces.{default_backup}
use Rattle.minix_names.specs.Component.{HasNoZero}

is-some : (byte : ℕ) → not (byte == 0) ≡ true → byte ≢ 0
is-some byte is same = let zero : (byte == 0) ≡ true = grind (arith, nat_tests, same) in cc

each-some : (text : List ℕ) → list_all (λ byte. not (byte == 0)) text ≡ true → AllByRecursion (λ byte. byte ≢ 0) text
each-some [] is = tt
each-some (byte ∷ text) is =
    let both = and_parts (not (byte == 0)) (list_all (λ byte. not (byte == 0)) text) is in
    (is-some byte both.0, each-some text both.1)

-- a test that finds none
pub no-zero : (text : List ℕ) → list_all (λ byte. not (byte == 0)) text ≡ true → HasNoZero text
no-zero text is = All-from_recursion (λ byte. byte ≢ 0) text (each-some text is)

digit-some : (digit : ℕ) → hex_digit digit ≢ 0
digit-some digit = by (nat_le digit 9)
  where
    by : (low : Bool) → (if low then digit + 48 else digit + 87) ≢ 0
    by true same = omega (arith, same)
    by false same = omega (arith, same)

byte-some : (byte : ℕ) → HasNoZero (hex_byte byte)
byte-some byte = All-from_recursion (λ byte. byte ≢ 0) (hex_byte byte) (digit-some (byte / 16), (digit-some (byte % 16), tt))

pub default-some : (device : Device) → HasNoZero (default_backup device)
unfolding default_backup
default-some device =
    All-append (λ byte. byte ≢ 0) (codes "/boot/boot." ++ hex_byte (device_number device / 256)) (hex_byte (device_number device % 256))
    (All-append (λ byte. byte ≢ 0) (codes "/boot/boot.") (hex_byte (device_number device / 256)) (no-zero (codes "/boot/boot.") refl) (byte-some (device_number device / 256)))
    (byte-some (device_number device % 256))
