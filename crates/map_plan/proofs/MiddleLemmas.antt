-- The middle of a command line is short.
use Rattle.std.proofs.Common.{◌<◌, ◌≤◌, ℕ, zero, suc, ◌+◌, ◌^◌, ◌/◌, ◌%◌, ◌==◌, Bool, true, false, if◌then◌else◌, List, [], ◌∷◌, ◌++◌, length, Option, Some, None, arith, length-append}
use Rattle.std.specs.Prelude.{IfSome, unwrap_or}
use Rattle.lilo_model.specs.Bytes.{hex_digit}
use Rattle.lilo_model.specs.Conf.{ConfSection, Mount, Unsaid, ReadOnlyMount, ReadWriteMount}
use Rattle.lilo_model.specs.ConfLawful.{IsImageSection, IsLineText}
use Rattle.lilo_model.specs.Meant.{middle_text, middle_by, mount_text, root_text, hex_digits}
use Rattle.lilo_model.specs.Place.{spaced_words}

digits-few : (more number : ℕ) → length (hex_digits more number) ≤ more
digits-few zero number = omega arith
digits-few (suc more) number = by (number / 16 == 0) (digits-few more (number / 16))
  where
    by : (last : Bool) → length (hex_digits more (number / 16)) ≤ more
        → length (if last then hex_digit number ∷ [] else hex_digits more (number / 16) ++ (hex_digit (number % 16) ∷ [])) ≤ suc more
    by true few = omega arith
    by false few = simp length-append (omega (arith, few))

mount-few : (mount : Mount) → length (mount_text mount) ≤ 3
mount-few Unsaid = omega arith
mount-few ReadOnlyMount = omega arith
mount-few ReadWriteMount = omega arith

root-few : (root : Option ℕ) → length (root_text root) ≤ 10
root-few None = omega arith
root-few (Some number) = simp length-append (omega (arith, digits-few 4 number))

spaced-few : (words : List ℕ) → length (spaced_words words) ≤ 1 + length words
spaced-few [] = omega arith
spaced-few (byte ∷ words) = omega arith

append-few : (text : Option (List ℕ)) → IfSome text IsLineText → length (unwrap_or text []) ≤ 65536
append-few None fits = omega arith
append-few (Some text) fits = fits.size

pub middle-short : (section : ConfSection) → IsImageSection section → length (middle_text section) < 2 ^ 18
unfolding middle_text
middle-short section image = by section.literal image.literal
  where
    by : (literal : Option (List ℕ)) → IfSome literal IsLineText → length (middle_by section literal) < 2 ^ 18
    by (Some literal) fits = omega (arith, spaced-few literal, fits.size)
    by None fits =
        simp length-append
        (omega (arith, mount-few section.mount, root-few section.root, spaced-few (unwrap_or section.append []), append-few section.append image.append))
