-- A slot that is made is one that eight bytes can name.
use Rattle.std.proofs.Common.{◌≡◌, ◌+◌, ◌-◌, ◌≤◌, ◌<◌, ◌^◌, ℕ, Bool, true, false, refl, Result, Ok, Err, arith}
use Rattle.std.specs.Prelude.{nat_lt, ◌&&◌, IfOk}
use Rattle.lilo_model.specs.Disks.{Geometry, IsGeometry}
use Rattle.lilo_model.specs.Slots.{Mode, ChsMode, LinearMode, Lba32Mode, Address, AddressFault, cylinder_of, last_cylinder, to_chs, address_in, has_cylinders, slot_with, slot_up_to, slot_make}
use Rattle.sector_address.specs.Whole.{IsAddress, IsSlot}
use Rattle.sector_address.specs.Laws.{MakeLaw}

to_chs_by :
    (geometry : Geometry) (number : ℕ) (far : Bool) → nat_lt last_cylinder (cylinder_of geometry number) ≡ far
    → IsGeometry geometry → IfOk (to_chs geometry number) IsAddress
unfolding to_chs
to_chs_by geometry number true is_far whole = rw is_far tt
to_chs_by geometry number false is_far whole =
    rw is_far (grind arith, grind arith, grind arith, grind arith)

-- an address that is found is in the range of its bits
pub address_in-whole :
    (mode : Mode) (geometry : Geometry) (number : ℕ) → IsGeometry geometry → number < 2 ^ 32
    → IfOk (address_in mode geometry number) IsAddress
address_in-whole ChsMode geometry number whole few = to_chs_by geometry number _ refl whole
address_in-whole LinearMode geometry number whole few = few
address_in-whole Lba32Mode geometry number whole few = few

slot_with-whole :
    (disk count : ℕ) (found : Result Address AddressFault) → disk ≤ 3 → 1 ≤ count → count ≤ 127
    → IfOk found IsAddress → IfOk (slot_with disk count found) IsSlot
slot_with-whole disk count (Ok address) low some few whole =
    record { disk = low; some = some; few = few; address = whole }
slot_with-whole disk count (Err fault) low some few whole = tt

far_by :
    (mode : Mode) (geometry : Geometry) (disk sector count last : ℕ) (far : Bool) → nat_lt 0xFFFFFFFF last ≡ far
    → sector ≤ last → IsGeometry geometry → disk ≤ 3 → 1 ≤ count → count ≤ 127
    → (gone : Bool) → (has_cylinders mode && nat_lt last_cylinder (cylinder_of geometry last)) ≡ gone
    → IfOk (slot_up_to mode geometry disk sector count last) IsSlot
far_by mode geometry disk sector count last far is_far below whole low some few true is_gone = rw is_gone tt
far_by mode geometry disk sector count last true is_far below whole low some few false is_gone =
    rw (is_gone, is_far) tt
far_by mode geometry disk sector count last false is_far below whole low some few false is_gone =
    let narrow : sector < 2 ^ 32 = grind arith in
    rw (is_gone, is_far)
    (slot_with-whole disk count (address_in mode geometry sector) low some few
    (address_in-whole mode geometry sector whole narrow))

pub make_law : MakeLaw
unfolding slot_make
make_law mode geometry disk sector count whole low some few =
    far_by mode geometry disk sector count (sector + count - 1) _ refl (omega arith) whole low some few _ refl
