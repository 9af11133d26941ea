-- How many section sectors a file of a plan takes.
use Rattle.std.proofs.Common.{◌≡◌, ◌≤◌, ℕ, suc, ◌+◌, ◌/◌, ◌==◌, Bool, true, false, ◌||◌, not, if◌then◌else◌, List, [], ◌∷◌, map, length, Option, None, Some, Ok, refl, sym, ap, ◌∙◌, arith}
use Rattle.std.specs.Prelude.{IfSome, nat_le, option_map, option_and_then}
use Rattle.std.specs.List.{range_with_len}
use Rattle.std.proofs.lemmas.List.{length-map}
use Rattle.std.proofs.lemmas.List.FromFn.{length-range_with_len}
use Rattle.std.proofs.lemmas.Bool.Decides.{nat_tests}
use Rattle.lilo_model.specs.Checks.{require}
use Rattle.lilo_model.specs.Conf.{Config}
use Rattle.lilo_model.specs.ConfOptions.{Opt}
use Rattle.lilo_model.specs.Disks.{Image, Machine, DiskSector}
use Rattle.lilo_model.specs.MinixLayout.{is_v1, v1_limit}
use Rattle.lilo_model.specs.MinixNames.{Named, zone_number, IsSound}
use Rattle.lilo_model.specs.MinixParts.{Volume, Parts, parts_of}
use Rattle.lilo_model.specs.Plan.{MappedFile, slot_to, slots_after, slots_for, chain_for, optional_chain}
use Rattle.lilo_model.specs.PlanRefusal.{TooManySlots, each_passes, if_there, place_check, slots_limit, mapped_file_check}
use Rattle.lilo_model.specs.Planned.{sector_in_zone, inode_places, mapped_inode, file_inode, some_file, optional_file}
use Rattle.lilo_model.specs.Section.{sectors_for}
use Rattle.lilo_model.specs.Slots.{Slot, could_be_one}
use Rattle.map_laws.proofs.Accepted.{both-pass, required}
use Rattle.map_laws.proofs.MeantFiles.{inode-named}

-- ---- by its places

slots-after-few : (machine : Machine) (held : Option Slot) (places : List (Option Slot)) → slots_after machine held places ≤ length places
slots-after-few machine held [] = omega arith
slots-after-few machine held (None ∷ others) = let few = slots-after-few machine None others in omega (arith, few)
slots-after-few machine None (Some next ∷ others) = let few = slots-after-few machine (Some next) others in omega (arith, few)
slots-after-few machine (Some slot) (Some next ∷ others) =
    by (could_be_one (machine.geometry_of slot.disk) slot next)
    (slots-after-few machine (Some (record slot { count = slot.count + next.count })) others)
    (slots-after-few machine (Some next) others)
  where
    by : (one : Bool) {joined begun most : ℕ} → joined ≤ most → begun ≤ most → (if one then joined else 1 + begun) ≤ suc most
    by true few more = omega (arith, few)
    by false few more = omega (arith, more)

module _ (config : Config) (machine : Machine) where
  slots-few : (file : MappedFile) → slots_for config machine file ≤ length file.places
  unfolding slots_for
  slots-few file = by config.compact
    where
      slots : List (Option Slot)
      slots = map (option_map (slot_to config.mode machine)) file.places

      by : (compact : Bool) → (if compact then slots_after machine None slots else length file.places) ≤ length file.places
      by true =
          let few = slots-after-few machine None slots in
          let long = length-map file.places (option_map (slot_to config.mode machine)) in
          omega (arith, few, long)
      by false = omega arith

  chain-few : (file : MappedFile) (most : ℕ) → slots_for config machine file ≤ most → chain_for config machine file ≤ (most + 62) / 63
  unfolding chain_for
  chain-few file most few = omega (arith, few)

  -- a file of few places
  pub placed-chain : (file : MappedFile) (most : ℕ) → length file.places ≤ most → chain_for config machine file ≤ (most + 62) / 63
  placed-chain file most short =
      let few = slots-few file in
      chain-few file most (omega (arith, few, short))

  -- one that is accepted
  pub checked-chain : (option : Opt) (file : MappedFile) → mapped_file_check config machine option file ≡ Ok tt → chain_for config machine file ≤ 65535
  checked-chain option file is =
      let both = both-pass (each_passes (if_there (place_check config machine option)) file.places) (λ a. require (nat_le (slots_for config machine file) slots_limit) (TooManySlots option (slots_for config machine file))) tt is in
      let test = required (nat_le (slots_for config machine file) slots_limit) (TooManySlots option (slots_for config machine file)) both.2 in
      chain-few file slots_limit (grind (arith, nat_tests, test))

  -- the same of one that may be absent
  pub placed-optional : (file : Option MappedFile) (most : ℕ) → IfSome file (λ file. length file.places ≤ most) → optional_chain config machine file ≤ (most + 62) / 63
  placed-optional None most short = omega arith
  placed-optional (Some file) most short = placed-chain file most short

  pub checked-optional : (option : Opt) (file : Option MappedFile) → if_there (mapped_file_check config machine option) file ≡ Ok tt → optional_chain config machine file ≤ 65535
  checked-optional which None is = omega arith
  checked-optional which (Some file) is = checked-chain which file is

-- ---- by the greatest size of a file of version 1

-- the sectors of as many bytes
abbrev pub v1_sectors : ℕ
v1_sectors = 525326

module _ (volume : Volume) (image : Image) (sound : IsSound volume image) (v1 : is_v1 volume.layout.kind ≡ true) where
  abbrev parts : Parts
  parts = parts_of volume image

  pub inode-short : (number : ℕ) → Named volume.layout parts number → length (inode_places volume parts number) ≤ v1_sectors
  unfolding inode_places IsSound
  inode-short number named =
      let long = length-map (range_with_len 0 (sectors_for (parts.node number).size)) (λ index. sector_in_zone volume.span (zone_number volume.layout parts number (index / 2)) index) ∙ length-range_with_len 0 (sectors_for (parts.node number).size) in
      let test = ap (λ test. not test || nat_le (parts.node number).size v1_limit) (sym v1) ∙ sound.parts.size number named in
      let few : (parts.node number).size ≤ v1_limit = grind (arith, nat_tests, test) in
      omega (arith, long, few)

  pub optional-short : (path : Option (List ℕ)) → IfSome (optional_file volume parts path) (λ file. length file.places ≤ v1_sectors)
  unfolding mapped_inode
  optional-short None = tt
  optional-short (Some path) = by-inode (file_inode volume parts path) refl
    where
      by-size : (size : ℕ) (places : List (Option DiskSector)) (empty : Bool) → length places ≤ v1_sectors
          → IfSome (if empty then None else Some (record { size = size; places = places })) (λ (file : MappedFile). length file.places ≤ v1_sectors)
      by-size size places true short = tt
      by-size size places false short = short

      by-inode : (inode : Option ℕ) → file_inode volume parts path ≡ inode
          → IfSome (option_and_then some_file (option_map (mapped_inode volume parts) inode)) (λ file. length file.places ≤ v1_sectors)
      by-inode None is = tt
      by-inode (Some number) is =
          by-size (parts.node number).size (inode_places volume parts number) ((parts.node number).size == 0)
          (inode-short number (inode-named volume image sound path number is).0)
