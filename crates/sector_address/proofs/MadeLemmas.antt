-- A slot that is made names the sectors that it was made for.
use Rattle.std.proofs.Common.{◌≡◌, ◌+◌, ◌-◌, ◌*◌, ◌/◌, ◌%◌, ◌≤◌, ◌<◌, ℕ, Bool, true, false, refl, sym, ap, ◌∙◌, Result, Ok, Err, arith}
use Rattle.std.specs.Prelude.{nat_lt, nat_le, ◌&&◌, ◌==◌}
use Rattle.std.proofs.lemmas.Bool.Decides.{nat_tests}
use Rattle.std.proofs.lemmas.Nat.{mod_below, le-div, mul-le}
use Rattle.std.proofs.Math.Nat.{div-mul-le_self}
use Rattle.lilo_model.specs.Disks.{Geometry, IsGeometry}
use Rattle.lilo_model.specs.Slots.{Mode, ChsMode, LinearMode, Lba32Mode, Address, Linear, Slot, AddressFault, cylinder_of, last_cylinder, to_chs, address_in, number_at, sector_at, has_cylinders, slot_with, slot_up_to, slot_make}
use Rattle.sector_address.specs.Laws.{LieTogether, MadeSectorsLaw}
use Rattle.sector_address.proofs.TrackLemmas.{number_from, to_lba-on}

-- an address names the sectors of a slot from a number on
abbrev Names : Geometry → ℕ → ℕ → Result Address AddressFault → Type 0
Names geometry sector index (Ok address) = number_at geometry address index ≡ Ok (sector + index)
Names geometry sector index (Err fault) = Unit {0}

chs_names :
    (geometry : Geometry) (sector count index : ℕ) (far : Bool) → nat_lt last_cylinder (cylinder_of geometry sector) ≡ far
    → IsGeometry geometry → sector % geometry.sectors + count ≤ geometry.sectors → index < count
    → Names geometry sector index (to_chs geometry sector)
unfolding to_chs
chs_names geometry sector count index true is_far whole track below = rw is_far tt
chs_names geometry sector count index false is_far whole track below =
    let some : (sector % geometry.sectors + 1 == 0) ≡ false = grind (arith, nat_tests) in
    let on = to_lba-on geometry (cylinder_of geometry sector) (sector / geometry.sectors % geometry.heads) (sector % geometry.sectors + 1 + index)
    (mod_below (sector / geometry.sectors) geometry.heads whole.some_head) (omega arith) (omega arith) in
    let base = number_from geometry sector in
    let same : (cylinder_of geometry sector * geometry.heads + sector / geometry.sectors % geometry.heads) * geometry.sectors + (sector % geometry.sectors + 1 + index - 1) ≡ sector + index = omega (arith, base) in
    rw (is_far, some) (on ∙ ap Ok same)

-- sectors up to one within the last cylinder are within it
linear_names :
    (geometry : Geometry) (sector count index : ℕ) → IsGeometry geometry → index < count
    → nat_lt last_cylinder (cylinder_of geometry (sector + count - 1)) ≡ false
    → number_at geometry (Linear sector) index ≡ Ok (sector + index)
linear_names geometry sector count index whole below near =
    let some : 1 * 1 ≤ geometry.heads * geometry.sectors = mul-le 1 1 geometry.heads geometry.sectors whole.some_head whole.some_sector in
    let up : cylinder_of geometry (sector + index) ≤ cylinder_of geometry (sector + count - 1) =
    le-div (cylinder_of geometry (sector + index)) (sector + count - 1) (geometry.heads * geometry.sectors) (omega arith)
    (omega (arith, div-mul-le_self (sector + index) (geometry.heads * geometry.sectors))) in
    let last : cylinder_of geometry (sector + count - 1) ≤ last_cylinder = grind (arith, nat_tests) in
    let within : nat_le (cylinder_of geometry (sector + index)) last_cylinder ≡ true = grind (arith, nat_tests) in
    rw within refl

slot_names :
    (geometry : Geometry) (disk sector count index : ℕ) (found : Result Address AddressFault) (slot : Slot)
    → Names geometry sector index found → slot_with disk count found ≡ Ok slot
    → number_at geometry slot.address index ≡ Ok (sector + index)
slot_names geometry disk sector count index (Ok address) slot names is =
    let e : record { disk = disk; count = count; address = address } ≡ slot = cc in
    let a : slot.address ≡ address = sym (ap (λ (s : Slot). s.address) e) in
    rw a names
slot_names geometry disk sector count index (Err fault) slot names is = cc

address_names :
    (mode : Mode) (geometry : Geometry) (sector count index : ℕ) → IsGeometry geometry → LieTogether mode geometry sector count → index < count
    → (has_cylinders mode && nat_lt last_cylinder (cylinder_of geometry (sector + count - 1))) ≡ false
    → Names geometry sector index (address_in mode geometry sector)
address_names ChsMode geometry sector count index whole together below near = chs_names geometry sector count index _ refl whole together below
address_names LinearMode geometry sector count index whole together below near = linear_names geometry sector count index whole below near
address_names Lba32Mode geometry sector count index whole together below near = refl

made_by :
    (mode : Mode) (geometry : Geometry) (disk sector count index : ℕ) (slot : Slot) (gone far : Bool)
    → (has_cylinders mode && nat_lt last_cylinder (cylinder_of geometry (sector + count - 1))) ≡ gone
    → nat_lt 0xFFFFFFFF (sector + count - 1) ≡ far
    → IsGeometry geometry → LieTogether mode geometry sector count → index < count
    → slot_up_to mode geometry disk sector count (sector + count - 1) ≡ Ok slot
    → number_at geometry slot.address index ≡ Ok (sector + index)
made_by mode geometry disk sector count index slot true far is_gone is_far whole together below is =
    let e = rw is_gone at is in cc
made_by mode geometry disk sector count index slot false true is_gone is_far whole together below is =
    let e = rw (is_gone, is_far) at is in cc
made_by mode geometry disk sector count index slot false false is_gone is_far whole together below is =
    slot_names geometry disk sector count index (address_in mode geometry sector) slot
    (address_names mode geometry sector count index whole together below is_gone)
    (rw (is_gone, is_far) at is)

pub made_sectors_law : MadeSectorsLaw
unfolding slot_make sector_at
made_sectors_law mode geometry disk sector count index slot whole together below is =
    made_by mode geometry disk sector count index slot _ _ refl refl whole together below is
