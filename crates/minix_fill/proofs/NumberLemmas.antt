-- Numbers in the bytes of an indirect zone.
use Rattle.std.proofs.Common.{◌≡◌, ◌≤◌, ◌<◌, ◌+◌, ◌*◌, ◌^◌, ℕ, List, length, sym, ◌∙◌, subst, arith, ⊎_elim}
use Rattle.std.proofs.lemmas.Bool.{cases_eq}
use Rattle.std.proofs.Math.Nat.{mul-le-mul}
use Rattle.lilo_model.specs.Bytes.{with_part}
use Rattle.lilo_model.specs.MinixLayout.{Kind, Super, numbers_in_zone, number_size}
use Rattle.lilo_model.specs.MinixParts.{number_in}
use Rattle.minix_change_laws.specs.Part.{number_bytes, offset_of_number}
use Rattle.minix_change_laws.proofs.Numbers.{number_bytes_law}
use Rattle.minix_choice_laws.specs.Sources.{FileZones, zone_from, below_source}
use Rattle.minix_fill.specs.Numbers.{HasFirstNumbers}

-- products that fit
pub product_few : (a b : ℕ) → a < 2 ^ 42 → b ≤ 513 → a * b < 2 ^ 52
product_few a b small few =
    let low : a ≤ 4398046511103 = omega (arith, small) in
    let top : a * b ≤ 4398046511103 * 513 = mul-le-mul low few in
    omega (arith, top)

-- a volume of a kind: only its kind counts for the bytes of numbers
of_kind : Kind → Super
of_kind kind = record { kind = kind; inodes = 0; zones = 0; imap = 0; zmap = 0; first = 0; max_size = 0; state = 0 }

-- one more number is written
pub one_number_more : (kind : Kind) (zones : FileZones) (place count number : ℕ) (bytes : List ℕ) → length bytes ≡ 1024
    → count < numbers_in_zone kind → number < 256 ^ number_size kind → number ≡ zone_from zones (below_source (numbers_in_zone kind) place count)
    → HasFirstNumbers kind zones place count bytes
    → HasFirstNumbers kind zones place (count + 1) (with_part bytes (offset_of_number kind count) (number_bytes kind number))
unfolding of_kind
one_number_more kind zones place count number bytes long low small is before index inside =
    let law = number_bytes_law (of_kind kind) bytes count number long low small in
    ⊎_elim
    (λ same.
    let P : ℕ → Type 0 = λ i. number_in kind (with_part bytes (offset_of_number kind count) (number_bytes kind number)) i ≡ zone_from zones (below_source (numbers_in_zone kind) place i) in
    subst P (sym same) (law.here ∙ is))
    (λ apart. law.others index (omega (arith, inside, low)) apart ∙ before index (omega (arith, inside, apart)))
    (cases_eq index count)
