-- What the checks of a kernel give: its length, and the middle of its command line.
use Rattle.std.proofs.Common.{◌≡◌, ◌≤◌, ℕ, ◌+◌, ◌==◌, Bool, true, false, if◌then◌else◌, List, [], ◌++◌, length, Option, Result, Ok, Err, ap, subst, ◌∙◌, arith, length-append, codes}
use Rattle.std.specs.Prelude.{◌||◌, nat_le, min, is_some, is_none, option_map}
use Rattle.std.proofs.lemmas.Bool.Decides.{nat_tests}
use Rattle.lilo_model.specs.Bytes.{number16, number32}
use Rattle.lilo_model.specs.Checks.{◌>>=◌, require}
use Rattle.lilo_model.specs.Header.{Header, SetupFault, TooShort, NoBootFlag, SetupTooLarge, LowTooLarge, NoInitrd, LineTooLong, setup_of, real_size, header_of, header_at, fit_checks, version_of, is_from, protected_size}
use Rattle.lilo_model.specs.Place.{command_line, first_two, kernel_fit}
use Rattle.map_laws.proofs.Accepted.{both-pass, required}

limit-most : (bytes : List ℕ) → (header_of bytes).line_limit ≤ 255
unfolding header_of
limit-most bytes = by (is_from 0x206 (version_of bytes))
  where
    by : (from : Bool) → (if from then min 255 (number32 bytes 0x238) else 255) ≤ 255
    by true = grind arith
    by false = omega arith

header-some : (bytes : List ℕ) (len : ℕ) (header : Header) → header_at bytes len ≡ Ok header → (512 ≤ len) × (header.line_limit ≤ 255)
unfolding header_at
header-some bytes len header is =
    let a = both-pass (require (nat_le 512 len) TooShort) _ header is in
    let b = both-pass (require (number16 bytes 0x1FE == 0xAA55) NoBootFlag) _ header a.2 in
    let c = both-pass (require (nat_le (setup_of bytes) 64) (SetupTooLarge (setup_of bytes))) _ header b.2 in
    let d = both-pass (require (nat_le (real_size (setup_of bytes)) len) TooShort) _ header c.2 in
    let test = required (nat_le 512 len) TooShort a.1 in
    let same : header_of bytes ≡ header = ap (λ found. header-or header found) d.2 in
    (grind (arith, nat_tests, test), subst (λ (header : Header). header.line_limit ≤ 255) same (limit-most bytes))
  where
    header-or : Header → Result Header SetupFault → Header
    header-or other (Ok header) = header
    header-or other (Err fault) = other

line-fits : (header : Header) (len : ℕ) (initrd : Option ℕ) (line : ℕ) → fit_checks header len initrd line ≡ Ok tt → line ≤ header.line_limit
unfolding fit_checks
line-fits header len initrd line is =
    let last : Result (Unit {0}) SetupFault = require (nat_le line header.line_limit) (LineTooLong line) in
    let version = is_none initrd || is_some header.version in
    let a = both-pass (require (header.high || nat_le (protected_size header len) 524288) (LowTooLarge (protected_size header len))) (λ a. require version NoInitrd >>= λ b. last) tt is in
    let b = both-pass (require version NoInitrd) (λ b. last) tt a.2 in
    let test = required (nat_le line header.line_limit) (LineTooLong line) b.2 in
    grind (arith, nat_tests, test)

middle-short : (name middle : List ℕ) → length (command_line true name middle []) ≤ 255 → length middle ≤ 255
unfolding command_line
middle-short name middle short =
    let before = codes "auto " ++ codes "BOOT_IMAGE=" ++ name in
    let long : length (before ++ middle ++ []) ≡ length before + length middle + 0 = length-append (before ++ middle) [] ∙ ap (λ n. n + 0) (length-append before middle) in
    omega (arith, short, long)

-- a kernel that is accepted has 512 bytes, and its line leaves the middle at most 255
pub kernel-accepted : (kernel : List ℕ) (initrd : Option (List ℕ)) (name middle : List ℕ) → kernel_fit kernel initrd (command_line true name middle []) ≡ Ok tt → (512 ≤ length kernel) × (length middle ≤ 255)
unfolding kernel_fit
kernel-accepted kernel initrd name middle is =
    let a = both-pass (header_at (first_two kernel) (length kernel)) (λ header. fit_checks header (length kernel) (option_map length initrd) (length (command_line true name middle []))) tt is in
    let header = header-some (first_two kernel) (length kernel) a.0 a.1 in
    let line = line-fits a.0 (length kernel) (option_map length initrd) (length (command_line true name middle [])) a.2 in
    let most = header.1 in
    (header.0, middle-short name middle (omega (arith, line, most)))
