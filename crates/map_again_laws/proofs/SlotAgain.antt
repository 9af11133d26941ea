-- A slot's eight bytes are read as that slot.
use Rattle.std.proofs.Common.{◌≡◌, ℕ, Bool, true, false, if◌then◌else◌, List, length, Option, None, Some, Ok, Err, refl}
use Rattle.lilo_model.specs.Bytes.{is_zero}
use Rattle.lilo_model.specs.Slots.{Slot, Address, Chs, Linear, Lba32, BadSlot, is_slot, is_one_slot, slot_of, some_slot, slot_at, slot_bytes, optional_bytes}
use Rattle.sector_address.specs.Whole.{IsSlot}
use Rattle.map_again_laws.specs.Fits.{IsOneSlot}
use Rattle.sector_address.proofs.BytesLemmas.{encode_law}

pub length-slot : (slot : Slot) → length (slot_bytes slot) ≡ 8
unfolding slot_bytes
length-slot slot = by-address slot.address
  where
    by-address : (address : Address) → length (slot_bytes (record { disk = slot.disk; count = slot.count; address = address })) ≡ 8
    by-address (Chs cylinder head sector) = refl
    by-address (Linear number) = refl
    by-address (Lba32 number) = refl

-- the bytes of a slot that may be absent
pub length-optional : (slot : Option Slot) → length (optional_bytes slot) ≡ 8
length-optional None = refl
length-optional (Some slot) = length-slot slot

pub record ReadAs (bytes : List ℕ) (slot : Slot) : Type 0 where
  pub some : is_zero bytes ≡ false
  pub good : is_slot bytes ≡ true
  pub is : slot_of bytes ≡ slot

read-by : (bytes : List ℕ) (slot : Slot) (none good : Bool) → is_zero bytes ≡ none → is_slot bytes ≡ good
    → (if none then Ok None else if good then Ok (Some (slot_of bytes)) else Err BadSlot) ≡ Ok (Some slot) → ReadAs bytes slot
read-by bytes slot true good e1 e2 h = cc
read-by bytes slot false true e1 e2 h = record { some = e1; good = e2; is = cc }
read-by bytes slot false false e1 e2 h = cc

pub read-as : (slot : Slot) → IsSlot slot → ReadAs (slot_bytes slot) slot
unfolding slot_at
read-as slot whole = read-by (slot_bytes slot) slot (is_zero (slot_bytes slot)) (is_slot (slot_bytes slot)) refl refl (encode_law slot whole)

pub one-slot : (slot : Slot) → IsOneSlot slot → is_one_slot (slot_bytes slot) ≡ true
unfolding is_one_slot slot_bytes
one-slot slot one = rw ((read-as slot one.whole).good, one.one) refl

pub some-slot : (slot : Slot) → IsSlot slot → some_slot (slot_bytes slot) ≡ Some slot
unfolding some_slot
some-slot slot whole = rw ((read-as slot whole).some, (read-as slot whole).is) refl
