-- The first sector of a device that is found is one of its disk.
use Rattle.std.proofs.Common.{◌≡◌, ◌<◌, ◌+◌, ◌++◌, ◌==◌, ℕ, Bool, true, false, not, nat_le, if◌then◌else◌, List, [], ◌∷◌, Option, None, Some, Result, Ok, refl, subst, arith}
use Rattle.std.specs.Prelude.{find, option_map, option_to_list, ok_or, length}
use Rattle.std.specs.List.{AllByRecursion}
use Rattle.std.proofs.lemmas.Bool.{and_parts}
use Rattle.std.proofs.lemmas.Bool.Decides.{nat_tests}
use Rattle.lilo_model.specs.Checks.{◌>>=◌, require}
use Rattle.lilo_model.specs.Devices.{Device, IsDevice}
use Rattle.lilo_model.specs.Disks.{Image, Machine, Span}
use Rattle.lilo_model.specs.Partitions.{Entry, Partition, TableFault, OutsideDisk, NoPartition, NoDisk, TooMany, is_used, is_extended, is_plain, link_of, logical_of, listed, listed_from, chain_entries, chain_tables, logical_at, logical_from, logical_partitions, partitions_of, table_entries, numbered_span, whole_span, span_of}
use Rattle.map_laws.specs.Accepted.{IsInside}
use Rattle.map_laws.proofs.Accepted.{both-pass, required, not-ok}
use Rattle.install_order.proofs.BeginLemmas.{value-is}

-- what holds of each value holds of the one that is found, and it passes the test
find-one : {A : Type 0} (P : A → Type 0) (test : A → Bool) (values : List A) (value : A) → AllByRecursion P values → find test values ≡ Some value → P value × (test value ≡ true)
find-one P test [] value all is = absurd cc
find-one {A} P test (one ∷ values) value all is = by (test one) refl is (λ later. find-one P test values value all.1 later)
  where
    same-some : (a b : A) → Some a ≡ Some b → a ≡ b
    same-some a b same = cc

    by : (passes : Bool) → test one ≡ passes → (if passes then Some one else find test values) ≡ Some value → (find test values ≡ Some value → P value × (test value ≡ true)) → P value × (test value ≡ true)
    by true passes is rest = subst (λ (v : A). P v × (test v ≡ true)) (same-some one value is) (all.0, passes)
    by false passes is rest = rest is

both-all : {A : Type 0} (P : A → Type 0) (one other : List A) → AllByRecursion P one → AllByRecursion P other → AllByRecursion P (one ++ other)
both-all P [] other first second = second
both-all P (value ∷ one) other first second = (first.0, both-all P one other first.1 second)

module _ (size disk : ℕ) where
  -- a partition begins on the disk
  abbrev pub IsOn : Partition → Type 0
  IsOn partition = (partition.span.disk ≡ disk) × (partition.span.start < size)

  abbrev AreOn : List Partition → Type 0
  AreOn partitions = AllByRecursion IsOn partitions

  listed-on : (base number : ℕ) (entry : Entry) (partition : Partition) → is_used entry ≡ true → listed size disk base number entry ≡ Ok partition → IsOn partition
  unfolding listed
  listed-on base number entry partition used is =
      let made : Partition = record { number = number; kind = entry.kind; span = record { disk = disk; start = base + entry.start; count = entry.count } } in
      let fault : TableFault = OutsideDisk number in
      let both = both-pass (require (nat_le (base + entry.start + entry.count) size) fault) (λ inside. Ok made) partition is in
      let inside = required (nat_le (base + entry.start + entry.count) size) fault both.1 in
      let some = (and_parts (not (entry.kind == 0)) (not (entry.count == 0)) used).1 in
      subst IsOn (value-is made partition both.2) (refl, grind (arith, nat_tests, inside, some))

  each-listed : (number : ℕ) (entries : List Entry) (found : List Partition) → listed_from size disk number entries ≡ Ok found → AreOn found
  each-listed number [] found is = subst AreOn (value-is [] found is) tt
  each-listed number (entry ∷ entries) found is = by (is_used entry) refl is (λ later. each-listed (number + 1) entries later)
    where
      by : (used : Bool) → is_used entry ≡ used
          → (if used then (listed size disk 0 number entry >>= λ first. listed_from size disk (number + 1) entries >>= λ others. Ok (first ∷ others)) else listed_from size disk (number + 1) entries) ≡ Ok found
          → ((later : List Partition) → listed_from size disk (number + 1) entries ≡ Ok later → AreOn later) → AreOn found
      by true used is rest =
          let first = both-pass (listed size disk 0 number entry) (λ first. listed_from size disk (number + 1) entries >>= λ others. Ok (first ∷ others)) found is in
          let others = both-pass (listed_from size disk (number + 1) entries) (λ others. Ok (first.0 ∷ others)) found first.2 in
          subst AreOn (value-is (first.0 ∷ others.0) found others.2) (listed-on 0 number entry first.0 used first.1, rest others.0 others.1)
      by false used is rest = rest found is

  logical-on : (sector number : ℕ) (entries : List Entry) (found : Option Partition) → logical_at size disk sector number (logical_of entries) ≡ Ok found → AreOn (option_to_list found)
  unfolding logical_of is_plain
  logical-on sector number entries found is = by (find is_plain entries) refl is
    where
      all : (entries : List Entry) → AllByRecursion (λ (entry : Entry). Unit {0}) entries
      all [] = tt
      all (entry ∷ entries) = (tt, all entries)

      by : (one : Option Entry) → find is_plain entries ≡ one → logical_at size disk sector number one ≡ Ok found → AreOn (option_to_list found)
      by None none is = subst (λ (o : Option Partition). AreOn (option_to_list o)) (value-is None found is) tt
      by (Some entry) one is =
          let passes = (find-one (λ (entry : Entry). Unit {0}) is_plain entries entry (all entries) one).1 in
          let few = both-pass (require (nat_le number 63) TooMany) (λ few. listed size disk sector number entry >>= λ partition. Ok (Some partition)) found is in
          let made = both-pass (listed size disk sector number entry) (λ partition. Ok (Some partition)) found few.2 in
          subst (λ (o : Option Partition). AreOn (option_to_list o)) (value-is (Some made.0) found made.2)
          (listed-on sector number entry made.0 (and_parts (is_used entry) (not (is_extended entry.kind)) passes).0 made.1, tt)

  each-logical : (sectors : ℕ → List ℕ) (number : ℕ) (earlier later : List ℕ) (found : List Partition) → logical_from sectors size disk number earlier later ≡ Ok found → AreOn found
  each-logical sectors number earlier [] found is = subst AreOn (value-is [] found is) tt
  each-logical sectors number earlier (sector ∷ later) found is =
      let after : List Entry → Option Partition → Result (List Partition) TableFault =
      λ entries first. logical_from sectors size disk (number + length (option_to_list first)) (earlier ++ (sector ∷ [])) later >>= λ others. Ok (option_to_list first ++ others) in
      let table = both-pass (chain_entries sectors size earlier sector) (λ entries. logical_at size disk sector number (logical_of entries) >>= λ first. after entries first) found is in
      let first = both-pass (logical_at size disk sector number (logical_of table.0)) (λ first. after table.0 first) found table.2 in
      let others =
      both-pass (logical_from sectors size disk (number + length (option_to_list first.0)) (earlier ++ (sector ∷ [])) later) (λ others. Ok (option_to_list first.0 ++ others)) found first.2 in
      subst AreOn (value-is (option_to_list first.0 ++ others.0) found others.2)
      (both-all IsOn (option_to_list first.0) others.0 (logical-on sector number table.0 first.0 first.1)
      (each-logical sectors (number + length (option_to_list first.0)) (earlier ++ (sector ∷ [])) later others.0 others.1))

  inner-on : (sectors : ℕ → List ℕ) (outer : Option Entry) (found : List Partition) → logical_partitions sectors size disk outer ≡ Ok found → AreOn found
  inner-on sectors None found is = subst AreOn (value-is [] found is) tt
  inner-on sectors (Some outer) found is = each-logical sectors 5 [] (chain_tables sectors size outer.start) found is

  numbered-on : (number : ℕ) (partitions : List Partition) (found : Span) → AreOn partitions → numbered_span number partitions ≡ Ok found → (found.disk ≡ disk) × (found.start < size)
  unfolding numbered_span
  numbered-on number partitions found all is = by (find (λ partition. partition.number == number) partitions) refl is
    where
      by : (one : Option Partition) → find (λ partition. partition.number == number) partitions ≡ one → ok_or (option_map (λ (partition : Partition). partition.span) one) (NoPartition number) ≡ Ok found
          → (found.disk ≡ disk) × (found.start < size)
      by None none is = absurd (not-ok (NoPartition number) found is)
      by (Some partition) one is =
          subst (λ (span : Span). (span.disk ≡ disk) × (span.start < size)) (value-is partition.span found is)
          (find-one IsOn (λ partition. partition.number == number) partitions partition all one).0

-- the partitions of a disk
partitions-on : (image : Image) (machine : Machine) (disk : ℕ) (found : List Partition) → partitions_of image machine disk ≡ Ok found → AllByRecursion (IsOn (machine.size_of disk) disk) found
unfolding partitions_of
partitions-on image machine disk found is =
    let size : ℕ = machine.size_of disk in
    let rest : List Entry → List Partition → Result (List Partition) TableFault =
    λ entries primary. logical_partitions (image disk) size disk (link_of entries) >>= λ logical. Ok (primary ++ logical) in
    let there = both-pass (require (not (size == 0)) (NoDisk disk)) (λ there. table_entries 0 (image disk 0) >>= λ entries. listed_from size disk 1 entries >>= λ primary. rest entries primary) found is in
    let entries = both-pass (table_entries 0 (image disk 0)) (λ entries. listed_from size disk 1 entries >>= λ primary. rest entries primary) found there.2 in
    let primary = both-pass (listed_from size disk 1 entries.0) (λ primary. rest entries.0 primary) found entries.2 in
    let logical = both-pass (logical_partitions (image disk) size disk (link_of entries.0)) (λ logical. Ok (primary.0 ++ logical)) found primary.2 in
    subst (AllByRecursion (IsOn size disk)) (value-is (primary.0 ++ logical.0) found logical.2)
    (both-all (IsOn size disk) primary.0 logical.0 (each-listed size disk 1 entries.0 primary.0 primary.1) (inner-on size disk (image disk) (link_of entries.0) logical.0 logical.1))

-- a device that is found begins on one of the four disks
pub device_inside : (image : Image) (machine : Machine) (device : Device) (found : Span) → IsDevice device → span_of image machine device ≡ Ok found
    → IsInside machine (record { disk = found.disk; sector = found.start })
unfolding span_of
device_inside image machine device found is_device is =
    let size : ℕ = machine.size_of device.disk in
    let there = both-pass (require (not (size == 0)) (NoDisk device.disk))
    (λ there. if device.partition == 0 then Ok (whole_span machine device.disk) else (partitions_of image machine device.disk >>= numbered_span device.partition)) found is in
    let some = required (not (size == 0)) (NoDisk device.disk) there.1 in
    let on = by (device.partition == 0) (grind (arith, nat_tests, some)) there.2 in
    record { disk = rw on.0 is_device.disk; sector = rw on.0 on.1 }
  where
    by : (whole : Bool) → 0 < machine.size_of device.disk → (if whole then Ok (whole_span machine device.disk) else (partitions_of image machine device.disk >>= numbered_span device.partition)) ≡ Ok found
        → (found.disk ≡ device.disk) × (found.start < machine.size_of device.disk)
    by true some is = subst (λ (span : Span). (span.disk ≡ device.disk) × (span.start < machine.size_of device.disk)) (value-is (whole_span machine device.disk) found is) (refl, some)
    by false some is =
        let all = both-pass (partitions_of image machine device.disk) (numbered_span device.partition) found is in
        numbered-on (machine.size_of device.disk) device.disk device.partition all.0 found (partitions-on image machine device.disk all.0 all.1) all.2
