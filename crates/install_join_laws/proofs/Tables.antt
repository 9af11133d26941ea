-- Where a device lies is read from the tables of its disk alone.
use Rattle.std.proofs.Common.{◌≡◌, ℕ, zero, suc, ◌+◌, ◌==◌, Bool, true, false, not, if◌then◌else◌, List, [], ◌∷◌, ◌++◌, length, Option, None, Some, Result, Ok, Err, refl, ◌∙◌, ap}
use Rattle.std.specs.Prelude.{option_to_list}
use Rattle.std.specs.List.{AllByRecursion}
use Rattle.lilo_model.specs.BootSector.{is_bootable}
use Rattle.lilo_model.specs.Checks.{◌>>=◌, require}
use Rattle.lilo_model.specs.Devices.{Device}
use Rattle.lilo_model.specs.Disks.{Image, Machine, Span}
use Rattle.lilo_model.specs.Partitions.{Entry, Partition, TableFault, NoSignature, NoDisk, entries_of, table_entries, link_of, logical_of, listed_from, linked_sector, chain_from, chain_entries, logical_at, logical_from, chain_tables, logical_partitions, partitions_of, numbered_span, whole_span, span_of}
use Rattle.install_laws.specs.Writes.{IsApartSector}
use Rattle.install_join_laws.specs.ApartLaws.{LiesAsIn}
use Rattle.install_join_laws.specs.Tables.{later_tables, table_sectors, TablesLaw, OutsideTablesLaw}

-- two checks that go on alike are the same
bind-same : {A B F : Type 0} → (check : Result A F) (one other : A → Result B F) → ((value : A) → one value ≡ other value) → (check >>= one) ≡ (check >>= other)
bind-same (Ok value) one other same = same value
bind-same (Err fault) one other same = refl

module _ (was now : ℕ → List ℕ) where
  abbrev IsSame : ℕ → Type 0
  IsSame sector = now sector ≡ was sector

  module _ (size outer : ℕ) where
    link-same : (sector : ℕ) → IsSame sector → linked_sector now size outer sector ≡ linked_sector was size outer sector
    unfolding linked_sector
    link-same sector same = rw same refl

    chain-same : (most : ℕ) (at : Option ℕ) → AllByRecursion IsSame (chain_from (linked_sector was size outer) most at)
        → chain_from (linked_sector now size outer) most at ≡ chain_from (linked_sector was size outer) most at
    chain-same zero at all = refl
    chain-same (suc most) None all = refl
    chain-same (suc most) (Some sector) all =
        ap (λ (next : Option ℕ). sector ∷ chain_from (linked_sector now size outer) most next) (link-same sector all.0)
        ∙ ap (λ (later : List ℕ). sector ∷ later) (chain-same most (linked_sector was size outer sector) all.1)

  module _ (size disk : ℕ) where
    entries-same : (earlier : List ℕ) (sector : ℕ) → IsSame sector → chain_entries now size earlier sector ≡ chain_entries was size earlier sector
    unfolding chain_entries
    entries-same earlier sector same = rw same refl

    logical-same : (number : ℕ) (earlier later : List ℕ) → AllByRecursion IsSame later → logical_from now size disk number earlier later ≡ logical_from was size disk number earlier later
    logical-same number earlier [] all = refl
    logical-same number earlier (sector ∷ later) all =
        let on : (ℕ → List ℕ) → List Entry → Option Partition → Result (List Partition) TableFault =
        λ sectors entries first.
        logical_from sectors size disk (number + length (option_to_list first)) (earlier ++ (sector ∷ [])) later >>= λ others. Ok (option_to_list first ++ others) in
        let after : (ℕ → List ℕ) → List Entry → Result (List Partition) TableFault = λ sectors entries. logical_at size disk sector number (logical_of entries) >>= on sectors entries in
        ap (λ (check : Result (List Entry) TableFault). check >>= after now) (entries-same earlier sector all.0)
        ∙ bind-same (chain_entries was size earlier sector) (after now) (after was) (λ entries.
        bind-same (logical_at size disk sector number (logical_of entries)) (on now entries) (on was entries) (λ first.
        ap (λ (check : Result (List Partition) TableFault). check >>= λ others. Ok (option_to_list first ++ others))
        (logical-same (number + length (option_to_list first)) (earlier ++ (sector ∷ [])) later all.1)))

    partitions-same : (link : Option Entry) → AllByRecursion IsSame (later_tables was size link) → logical_partitions now size disk link ≡ logical_partitions was size disk link
    unfolding chain_tables
    partitions-same None all = refl
    partitions-same (Some outer) all =
        let tables = chain-same size outer.start size (Some outer.start) all in
        ap (logical_from now size disk 5 []) tables ∙ logical-same 5 [] (chain_from (linked_sector was size outer.start) size (Some outer.start)) all

-- the entries of a table that is signed are those of its bytes
entries-by : {B : Type 0} → (bytes : List ℕ) (one other : List Entry → Result B TableFault) → one (entries_of bytes) ≡ other (entries_of bytes) → (table_entries 0 bytes >>= one) ≡ (table_entries 0 bytes >>= other)
unfolding table_entries
entries-by bytes one other same = by (is_bootable bytes)
  where
    by : (signed : Bool) → ((require signed (NoSignature 0) >>= λ a. Ok (entries_of bytes)) >>= one) ≡ ((require signed (NoSignature 0) >>= λ a. Ok (entries_of bytes)) >>= other)
    by true = same
    by false = refl

module _ (old c : Image) (machine : Machine) (device : Device) (all : AllByRecursion (λ sector. c device.disk sector ≡ old device.disk sector) (table_sectors old machine device.disk)) where
  abbrev size : ℕ
  size = machine.size_of device.disk

  abbrev logical-on : Image → List Entry → List Partition → Result (List Partition) TableFault
  logical-on image entries primary = logical_partitions (image device.disk) size device.disk (link_of entries) >>= λ logical. Ok (primary ++ logical)

  abbrev listed-on : Image → List Entry → Result (List Partition) TableFault
  listed-on image entries = listed_from size device.disk 1 entries >>= logical-on image entries

  abbrev entries : List Entry
  entries = entries_of (old device.disk 0)

  listed-same : (table_entries 0 (c device.disk 0) >>= listed-on c) ≡ (table_entries 0 (old device.disk 0) >>= listed-on old)
  listed-same =
      ap (λ (bytes : List ℕ). table_entries 0 bytes >>= listed-on c) all.0
      ∙ entries-by (old device.disk 0) (listed-on c) (listed-on old)
      (bind-same (listed_from size device.disk 1 entries) (logical-on c entries) (logical-on old entries) (λ primary.
      ap (λ (check : Result (List Partition) TableFault). check >>= λ logical. Ok (primary ++ logical))
      (partitions-same (old device.disk) (c device.disk) size device.disk (link_of entries) all.1)))

  disk-same : partitions_of c machine device.disk ≡ partitions_of old machine device.disk
  unfolding partitions_of
  disk-same =
      bind-same (require (not (size == 0)) (NoDisk device.disk)) (λ there. table_entries 0 (c device.disk 0) >>= listed-on c) (λ there. table_entries 0 (old device.disk 0) >>= listed-on old)
      (λ there. listed-same)

  abbrev placed-on : Image → Bool → Result Span TableFault
  placed-on image whole = if whole then Ok (whole_span machine device.disk) else (partitions_of image machine device.disk >>= numbered_span device.partition)

  placed-same : (whole : Bool) → placed-on c whole ≡ placed-on old whole
  placed-same true = refl
  placed-same false = ap (λ (check : Result (List Partition) TableFault). check >>= numbered_span device.partition) disk-same

  lies-same : LiesAsIn old c machine device
  unfolding span_of
  lies-same =
      bind-same (require (not (size == 0)) (NoDisk device.disk)) (λ there. placed-on c (device.partition == 0)) (λ there. placed-on old (device.partition == 0))
      (λ there. placed-same (device.partition == 0))

pub tables_law : TablesLaw
tables_law old c machine device all = lies-same old c machine device all

pub outside_tables_law : OutsideTablesLaw
outside_tables_law old c machine volume device same apart = tables_law old c machine device (all (table_sectors old machine device.disk) apart)
  where
    all : (sectors : List ℕ) → AllByRecursion (IsApartSector volume device.disk) sectors → AllByRecursion (λ sector. c device.disk sector ≡ old device.disk sector) sectors
    all [] is = tt
    all (sector ∷ sectors) is = (same device.disk sector is.0, all sectors is.1)
