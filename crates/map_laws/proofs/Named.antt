-- A place that can be a slot is named by it.
use Rattle.std.proofs.Common.{◌≡◌, ◌≤◌, ◌<◌, ℕ, ◌+◌, ◌-◌, ◌%◌, Bool, true, false, ◌&&◌, if◌then◌else◌, Result, Ok, Err, sym, ap, subst, ◌∙◌, arith}
use Rattle.std.specs.Prelude.{unwrap_or, nat_lt, IfOk}
use Rattle.std.specs.Result.{result_ok}
use Rattle.std.proofs.lemmas.Bool.Decides.{nat_tests}
use Rattle.lilo_model.specs.Disks.{Machine, Geometry, IsGeometry, DiskSector}
use Rattle.lilo_model.specs.Slots.{Slot, Mode, ChsMode, LinearMode, Lba32Mode, Address, AddressFault, sector_at, place_of, place_at, slot_make, slot_up_to, slot_with, address_in, has_cylinders, last_cylinder, cylinder_of}
use Rattle.sector_address.specs.Whole.{IsSlot}
use Rattle.sector_address.specs.Laws.{LieTogether}
use Rattle.sector_address.proofs.MakeLemmas.{make_law}
use Rattle.sector_address.proofs.MadeLemmas.{made_sectors_law}
use Rattle.lilo_model.specs.Plan.{slot_to, no_slot}
use Rattle.map_laws.specs.Lies.{IsOneSlot, IsNamed}

-- what is made has the disk and the count
made-with : (disk count : ℕ) (address : Result Address AddressFault) (slot : Slot) → slot_with disk count address ≡ Ok slot → (slot.disk ≡ disk) × (slot.count ≡ count)
made-with disk count (Ok address) slot is = (cc, cc)
made-with disk count (Err fault) slot is = cc

made-up : (mode : Mode) (geometry : Geometry) (disk sector count last : ℕ) (slot : Slot) → slot_up_to mode geometry disk sector count last ≡ Ok slot → (slot.disk ≡ disk) × (slot.count ≡ count)
made-up mode geometry disk sector count last slot is = by (has_cylinders mode && nat_lt last_cylinder (cylinder_of geometry last)) (nat_lt 0xFFFFFFFF last) is
  where
    by : (a b : Bool) → (if a then Err (Rattle.lilo_model.specs.Slots.Cylinder (cylinder_of geometry last)) else (if b then Err (Rattle.lilo_model.specs.Slots.TooFar last) else slot_with disk count (address_in mode geometry sector))) ≡ Ok slot → (slot.disk ≡ disk) × (slot.count ≡ count)
    by true b is = cc
    by false true is = cc
    by false false is = made-with disk count (address_in mode geometry sector) slot is

one-together : (mode : Mode) (geometry : Geometry) (sector : ℕ) → IsGeometry geometry → LieTogether mode geometry sector 1
one-together ChsMode geometry sector is = let some = is.some_sector in let less : sector % geometry.sectors < geometry.sectors = mod-less sector geometry.sectors some in omega (arith, less)
  where
    mod-less : (n m : ℕ) → 1 ≤ m → n % m < m
    mod-less n m some = grind arith
one-together LinearMode geometry sector is = tt
one-together Lba32Mode geometry sector is = tt

made-count : (mode : Mode) (geometry : Geometry) (disk sector : ℕ) (slot : Slot) → slot_make mode geometry disk sector 1 ≡ Ok slot → slot.count ≡ 1
unfolding slot_make
made-count mode geometry disk sector slot is = (made-up mode geometry disk sector 1 (sector + 1 - 1) slot is).1

-- where the slot of a place is made, it names the place
place-of-made : (mode : Mode) (machine : Machine) (place : DiskSector) (slot : Slot) → IsGeometry (machine.geometry_of place.disk) → place.sector < machine.size_of place.disk
    → slot_make mode (machine.geometry_of place.disk) place.disk place.sector 1 ≡ Ok slot → place_at machine slot 0 ≡ Ok place
unfolding place_at slot_make
place-of-made mode machine place slot geometry inside is =
    let g = machine.geometry_of place.disk in
    let same = (made-up mode g place.disk place.sector 1 (place.sector + 1 - 1) slot is).0 in
    let sector : sector_at g slot 0 ≡ Ok (place.sector + 0) = made_sectors_law mode g place.disk place.sector 1 0 slot geometry (one-together mode g place.sector geometry) (omega arith) is in
    let below : nat_lt (place.sector + 0) (machine.size_of place.disk) ≡ true = grind (arith, nat_tests) in
    let none : place.sector + 0 ≡ place.sector = omega arith in
    ap (λ disk. place_of machine disk (sector_at (machine.geometry_of disk) slot 0)) same
    ∙ ap (place_of machine place.disk) sector
    ∙ rw below (ap (λ n. Ok (record { disk = place.disk; sector = n })) none)

pub named_again : (mode : Mode) (machine : Machine) (place : DiskSector) (slot : Slot) → IsGeometry (machine.geometry_of place.disk) → place.disk ≤ 3 → place.sector < machine.size_of place.disk
    → slot_make mode (machine.geometry_of place.disk) place.disk place.sector 1 ≡ Ok slot → IsNamed machine (slot_to mode machine) place
unfolding slot_to
named_again mode machine place slot geometry low inside is =
    let g = machine.geometry_of place.disk in
    let to : slot_to mode machine place ≡ slot = ap (λ made. unwrap_or (result_ok made) no_slot) is in
    let whole : IsSlot slot = subst (λ made. IfOk made IsSlot) is (make_law mode g place.disk place.sector 1 geometry low (omega arith) (omega arith)) in
    let one : slot.count ≡ 1 = count-is g is in
    record {
      one = subst IsOneSlot (sym to) (record { whole = whole; one = one });
      names = ap (λ slot. place_at machine slot 0) to ∙ place-of-made mode machine place slot geometry inside is;
    }
  where
    count-is : (g : Geometry) → slot_make mode g place.disk place.sector 1 ≡ Ok slot → slot.count ≡ 1
    count-is g is = made-count mode g place.disk place.sector slot is
