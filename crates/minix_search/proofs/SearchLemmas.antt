-- Where a search of several places ends.
use Rattle.std.proofs.Common.{◌≡◌, ◌≢◌, ◌==◌, arith, tests, ◌≤◌, ◌<◌, ◌+◌, ℕ, zero, suc, Bool, true, false, List, [], ◌∷◌, ◌++◌, Option, None, Some, length, drop, get_or, refl, ◌∙◌, sym, ap, subst}
use Rattle.std.specs.Prelude.{find, Result, Ok, Err}
use Rattle.std.specs.Option.{option_or}
use Rattle.std.proofs.lemmas.List.Folds.{find-append}
use Rattle.std.proofs.lemmas.List.{drop_more, drop_all}
use Rattle.disk_trait.specs.Past.{Image, Past, Told, now_of}
use Rattle.lilo_model.specs.Disks.{Machine}
use Rattle.lilo_model.specs.Partitions as tables
use Rattle.lilo_model.specs.Partitions.{Partition, partitions_of, whole_span}
use Rattle.lilo_model.specs.Refusal.{DeviceFault}
use Rattle.lilo_model.specs.VolumeSearch as model
use Rattle.lilo_model.specs.VolumeSearch.{whole_disk, holds_volume, searched_partitions, searched_on, searched, search_end, first_volume, has_name, ends_search}
use Rattle.minix_search.specs.View.{Ends, Gives, has_no_table}
use Rattle.minix_search.specs.declared.search.Located.{Located}
use Rattle.minix_search.specs.declared.volume_fault.VolumeFault.{VolumeFault}
use Rattle.minix_search.specs.declared.volume_fault.VolumeFault.TheVariants.{NoVolume, Place}
use Rattle.mbr_table.specs.Gives.{Refuses}
use Rattle.mbr_table.specs.View.{partition_view, partitions_view}
use Rattle.mbr_table.specs.declared.partition.Partition as coded
use Rattle.mbr_table.specs.declared.table_fault.TableFault.{TableFault}
use Rattle.mbr_table.specs.declared.table_fault.TableFault.TheVariants as faults

-- what is where there is no partition
abbrev pub no_partition : coded.Partition
no_partition = record { number = 0; kind = 0; span = record { disk = 0; start = 0; count = 0 } }

abbrev pub Places : Type 0
Places = List (Result model.Located DeviceFault)

-- the first of some partitions is searched before the others
pub partitions_more :
    (disk : ℕ) (first : Partition) (rest : List Partition)
    → searched_partitions disk (Ok (first ∷ rest)) ≡ searched_partitions disk (Ok (first ∷ [])) ++ searched_partitions disk (Ok rest)
unfolding searched_partitions
partitions_more disk first rest = by (has_name disk first) refl
  where
    by :
        (named : Bool) → has_name disk first ≡ named
        → searched_partitions disk (Ok (first ∷ rest)) ≡ searched_partitions disk (Ok (first ∷ [])) ++ searched_partitions disk (Ok rest)
    by true is = rw is refl
    by false is = rw is refl

-- a search that ended with something isn't gone on with
pub ends_first :
    (p : Result model.Located DeviceFault → Bool) (first rest : Places) (found : Located)
    → Ends (Ok (Some found)) (find p first) → Ends (Ok (Some found)) (find p (first ++ rest))
ends_first p first rest found ends = find-append p first rest ∙ ap (λ end. option_or end (find p rest)) ends

pub ends_fault :
    (p : Result model.Located DeviceFault → Bool) (first rest : Places) (fault : TableFault)
    → Ends (Err fault) (find p first) → Ends (Err fault) (find p (first ++ rest))
ends_fault p first rest faults.Device ends = tt
ends_fault p first rest (faults.NoSignature sector) ends = find-append p first rest ∙ ap (λ end. option_or end (find p rest)) ends
ends_fault p first rest (faults.OutsideDisk number) ends = find-append p first rest ∙ ap (λ end. option_or end (find p rest)) ends
ends_fault p first rest (faults.LoopedChain sector) ends = find-append p first rest ∙ ap (λ end. option_or end (find p rest)) ends
ends_fault p first rest faults.TooMany ends = find-append p first rest ∙ ap (λ end. option_or end (find p rest)) ends
ends_fault p first rest faults.UnknownDevice ends = find-append p first rest ∙ ap (λ end. option_or end (find p rest)) ends
ends_fault p first rest (faults.NoPartition number) ends = find-append p first rest ∙ ap (λ end. option_or end (find p rest)) ends
ends_fault p first rest (faults.NoDisk disk) ends = find-append p first rest ∙ ap (λ end. option_or end (find p rest)) ends

-- else it goes on with the rest
pub goes_on :
    (p : Result model.Located DeviceFault → Bool) (first rest : Places)
    → Ends (Ok None) (find p first) → find p (first ++ rest) ≡ find p rest
goes_on p first rest ends = find-append p first rest ∙ ap (λ end. option_or end (find p rest)) ends

-- the same of places of which some are left, where disks report what they hold
pub found_at_last :
    (past past' : Option Past) (all first rest : Image → Places) (found : Located)
    → past' ≡ past
    → Told past (λ now. find (ends_search now) (all now) ≡ find (ends_search now) (first now ++ rest now))
    → Told past' (λ now. Ends (Ok (Some found)) (find (ends_search now) (first now)))
    → Told past (λ now. Ends (Ok (Some found)) (find (ends_search now) (all now)))
found_at_last None past' all first rest found same left ends = tt
found_at_last (Some past) past' all first rest found same left ends =
    let here = subst (λ past. Told past (λ now. Ends (Ok (Some found)) (find (ends_search now) (first now)))) same ends in
    left ∙ ends_first (ends_search (now_of past)) (first (now_of past)) (rest (now_of past)) found here

pub refused_at_last :
    (past past' : Option Past) (all first rest : Image → Places) (fault : TableFault)
    → past' ≡ past
    → Told past (λ now. find (ends_search now) (all now) ≡ find (ends_search now) (first now ++ rest now))
    → Told past' (λ now. Ends (Err fault) (find (ends_search now) (first now)))
    → Told past (λ now. Ends (Err fault) (find (ends_search now) (all now)))
refused_at_last None past' all first rest fault same left ends = tt
refused_at_last (Some past) past' all first rest fault same left ends =
    let here = subst (λ past. Told past (λ now. Ends (Err fault) (find (ends_search now) (first now)))) same ends in
    subst (λ end. Ends (Err fault) end) (sym left)
    (ends_fault (ends_search (now_of past)) (first (now_of past)) (rest (now_of past)) fault here)

pub goes_on_told :
    (past past' : Option Past) (all first rest : Image → Places)
    → past' ≡ past
    → Told past (λ now. find (ends_search now) (all now) ≡ find (ends_search now) (first now ++ rest now))
    → Told past' (λ now. Ends (Ok None) (find (ends_search now) (first now)))
    → Told past (λ now. find (ends_search now) (all now) ≡ find (ends_search now) (rest now))
goes_on_told None past' all first rest same left ends = tt
goes_on_told (Some past) past' all first rest same left ends =
    let here = subst (λ past. Told past (λ now. Ends (Ok None) (find (ends_search now) (first now)))) same ends in
    left ∙ goes_on (ends_search (now_of past)) (first (now_of past)) (rest (now_of past)) here

-- the places of some partitions that are left are those of the first of them and then the others
pub partitions_left :
    (past : Option Past) (all : Image → Places) (disk : ℕ) (partitions : List coded.Partition) (index : ℕ) (none : coded.Partition)
    → index < length partitions
    → Told past (λ now. find (ends_search now) (all now)
    ≡ find (ends_search now) (searched_partitions disk (Ok (partitions_view (drop index partitions)))))
    → Told past (λ now. find (ends_search now) (all now)
    ≡ find (ends_search now) (searched_partitions disk (Ok (partition_view (get_or partitions index none) ∷ []))
    ++ searched_partitions disk (Ok (partitions_view (drop (index + 1) partitions)))))
partitions_left None all disk partitions index none inside left = tt
partitions_left (Some past) all disk partitions index none inside left =
    let now = now_of past in
    left
    ∙ ap (λ rest. find (ends_search now) (searched_partitions disk (Ok (partitions_view rest)))) (drop_more partitions index none inside)
    ∙ ap (find (ends_search now)) (partitions_more disk (partition_view (get_or partitions index none)) (partitions_view (drop (index + 1) partitions)))

-- where the search of some partitions is before one of them
abbrev pub Left : Option Past → ℕ → List coded.Partition → ℕ → Type 0
Left past disk partitions index =
    Told past (λ now. find (ends_search now) (searched_partitions disk (Ok (partitions_view partitions)))
    ≡ find (ends_search now) (searched_partitions disk (Ok (partitions_view (drop index partitions)))))

-- one of them has a volume
pub partition_found :
    (past past' : Option Past) (disk : ℕ) (partitions : List coded.Partition) (index : ℕ) (none : coded.Partition) (found : Located)
    → index < length partitions → past' ≡ past → Left past disk partitions index
    → Told past' (λ now. Ends (Ok (Some found)) (find (ends_search now) (searched_partitions disk (Ok (partition_view (get_or partitions index none) ∷ [])))))
    → Told past (λ now. Ends (Ok (Some found)) (find (ends_search now) (searched_partitions disk (Ok (partitions_view partitions)))))
partition_found past past' disk partitions index none found inside same left ends =
    let all : Image → Places = λ now. searched_partitions disk (Ok (partitions_view partitions)) in
    found_at_last past past' all (λ now. searched_partitions disk (Ok (partition_view (get_or partitions index none) ∷ [])))
    (λ now. searched_partitions disk (Ok (partitions_view (drop (index + 1) partitions)))) found same
    (partitions_left past all disk partitions index none inside left) ends

-- one of them couldn't be judged
pub partition_refused :
    (past past' : Option Past) (disk : ℕ) (partitions : List coded.Partition) (index : ℕ) (none : coded.Partition) (fault : TableFault)
    → index < length partitions → past' ≡ past → Left past disk partitions index
    → Told past' (λ now. Ends (Err fault) (find (ends_search now) (searched_partitions disk (Ok (partition_view (get_or partitions index none) ∷ [])))))
    → Told past (λ now. Ends (Err fault) (find (ends_search now) (searched_partitions disk (Ok (partitions_view partitions)))))
partition_refused past past' disk partitions index none fault inside same left ends =
    let all : Image → Places = λ now. searched_partitions disk (Ok (partitions_view partitions)) in
    refused_at_last past past' all (λ now. searched_partitions disk (Ok (partition_view (get_or partitions index none) ∷ [])))
    (λ now. searched_partitions disk (Ok (partitions_view (drop (index + 1) partitions)))) fault same
    (partitions_left past all disk partitions index none inside left) ends

-- one of them has none
pub partition_passed :
    (past past' : Option Past) (disk : ℕ) (partitions : List coded.Partition) (index : ℕ) (none : coded.Partition)
    → index < length partitions → past' ≡ past → Left past disk partitions index
    → Told past' (λ now. Ends (Ok None) (find (ends_search now) (searched_partitions disk (Ok (partition_view (get_or partitions index none) ∷ [])))))
    → Left past disk partitions (index + 1)
partition_passed past past' disk partitions index none inside same left ends =
    let all : Image → Places = λ now. searched_partitions disk (Ok (partitions_view partitions)) in
    goes_on_told past past' all (λ now. searched_partitions disk (Ok (partition_view (get_or partitions index none) ∷ [])))
    (λ now. searched_partitions disk (Ok (partitions_view (drop (index + 1) partitions)))) same
    (partitions_left past all disk partitions index none inside left) ends

-- all of them were searched
pub partitions_passed :
    (past : Option Past) (disk : ℕ) (partitions : List coded.Partition) (index : ℕ)
    → length partitions ≤ index → Left past disk partitions index
    → Told past (λ now. Ends (Ok None) (find (ends_search now) (searched_partitions disk (Ok (partitions_view partitions)))))
unfolding searched_partitions
partitions_passed None disk partitions index over left = tt
partitions_passed (Some past) disk partitions index over left =
    left ∙ ap (λ rest. find (ends_search (now_of past)) (searched_partitions disk (Ok (partitions_view rest)))) (drop_all index partitions over)

-- a table that is refused, but for a sector 0 that is none, ends the search of its disk
pub table_refused :
    (now : Image) (disk : ℕ) (fault : TableFault) (given : Result (List Partition) tables.TableFault)
    → Refuses fault given → has_no_table fault ≡ false
    → Ends (Err fault) (find (ends_search now) (searched_partitions disk given))
unfolding searched_partitions ends_search
table_refused now disk faults.Device given refuses other = tt
table_refused now disk (faults.NoSignature zero) given refuses other = absurd (cc)
table_refused now disk (faults.NoSignature (suc sector)) given refuses other = rw refuses refl
table_refused now disk (faults.OutsideDisk number) given refuses other = rw refuses refl
table_refused now disk (faults.LoopedChain sector) given refuses other = rw refuses refl
table_refused now disk faults.TooMany given refuses other = rw refuses refl
table_refused now disk faults.UnknownDevice given refuses other = rw refuses refl
table_refused now disk (faults.NoPartition number) given refuses other = rw refuses refl
table_refused now disk (faults.NoDisk disk') given refuses other = rw refuses refl

-- a disk as a whole is searched first
pub whole_found :
    (now : Image) (machine : Machine) (disk : ℕ) → machine.size_of disk ≢ 0
    → holds_volume now (whole_span machine disk) ≡ true
    → find (ends_search now) (searched_on now machine disk) ≡ Some (Ok (whole_disk machine disk))
unfolding searched_on ends_search
whole_found now machine disk there holds = by (machine.size_of disk == 0) refl
  where
    by : (none : Bool) → (machine.size_of disk == 0) ≡ none → find (ends_search now) (searched_on now machine disk) ≡ Some (Ok (whole_disk machine disk))
    by true is = absurd (there (grind (arith, tests)))
    by false is = rw (is, holds) refl

pub whole_passed :
    (now : Image) (machine : Machine) (disk : ℕ) → machine.size_of disk ≢ 0
    → holds_volume now (whole_span machine disk) ≡ false
    → find (ends_search now) (searched_on now machine disk)
    ≡ find (ends_search now) (searched_partitions disk (partitions_of now machine disk))
unfolding searched_on ends_search
whole_passed now machine disk there holds = by (machine.size_of disk == 0) refl
  where
    by :
        (none : Bool) → (machine.size_of disk == 0) ≡ none
        → find (ends_search now) (searched_on now machine disk) ≡ find (ends_search now) (searched_partitions disk (partitions_of now machine disk))
    by true is = absurd (there (grind (arith, tests)))
    by false is = rw (is, holds) refl

-- ---- all disks

abbrev pub four_disks : List ℕ
four_disks = 0 ∷ 1 ∷ 2 ∷ 3 ∷ []

disks_more : (disk : ℕ) → disk < 4 → drop disk four_disks ≡ disk ∷ drop (disk + 1) four_disks
disks_more zero below = refl
disks_more (suc zero) below = refl
disks_more (suc (suc zero)) below = refl
disks_more (suc (suc (suc zero))) below = refl
disks_more (suc (suc (suc (suc disk)))) below = absurd (omega (arith, below))

-- where the search of all disks is before one of them
abbrev pub LeftDisks : Option Past → Machine → ℕ → Type 0
LeftDisks past machine disk =
    Told past (λ now. find (ends_search now) (searched now machine four_disks)
    ≡ find (ends_search now) (searched now machine (drop disk four_disks)))

disks_left :
    (past : Option Past) (machine : Machine) (disk : ℕ) → disk < 4 → LeftDisks past machine disk
    → Told past (λ now. find (ends_search now) (searched now machine four_disks)
    ≡ find (ends_search now) (searched_on now machine disk ++ searched now machine (drop (disk + 1) four_disks)))
disks_left None machine disk below left = tt
disks_left (Some past) machine disk below left =
    left ∙ ap (λ rest. find (ends_search (now_of past)) (searched (now_of past) machine rest)) (disks_more disk below)

told_gives :
    (past : Option Past) (machine : Machine) (result : Result (Option Located) TableFault) (answer : Result Located VolumeFault)
    → ((end : Option (Result model.Located DeviceFault)) → Ends result end → Gives answer (search_end end))
    → Told past (λ now. Ends result (find (ends_search now) (searched now machine four_disks)))
    → Told past (λ now. Gives answer (first_volume now machine))
unfolding first_volume
told_gives None machine result answer f ends = tt
told_gives (Some past) machine result answer f ends = f _ ends

gives_fault : (fault : TableFault) (end : Option (Result model.Located DeviceFault)) → Ends (Err fault) end → Gives (Err (Place fault)) (search_end end)
gives_fault faults.Device end ends = tt
gives_fault (faults.NoSignature sector) end ends = rw ends refl
gives_fault (faults.OutsideDisk number) end ends = rw ends refl
gives_fault (faults.LoopedChain sector) end ends = rw ends refl
gives_fault faults.TooMany end ends = rw ends refl
gives_fault faults.UnknownDevice end ends = rw ends refl
gives_fault (faults.NoPartition number) end ends = rw ends refl
gives_fault (faults.NoDisk disk) end ends = rw ends refl

-- one of the disks has a volume
pub disk_found :
    (past : Option Past) (machine : Machine) (disk : ℕ) (found : Located) → disk < 4 → LeftDisks past machine disk
    → Told past (λ now. Ends (Ok (Some found)) (find (ends_search now) (searched_on now machine disk)))
    → Told past (λ now. Gives (Ok found) (first_volume now machine))
disk_found past machine disk found below left ends =
    told_gives past machine (Ok (Some found)) (Ok found) (λ end ends. rw ends refl)
    (found_at_last past past (λ now. searched now machine four_disks) (λ now. searched_on now machine disk)
    (λ now. searched now machine (drop (disk + 1) four_disks)) found refl (disks_left past machine disk below left) ends)

-- one of them couldn't be judged
pub disk_refused :
    (past : Option Past) (machine : Machine) (disk : ℕ) (fault : TableFault) → disk < 4 → LeftDisks past machine disk
    → Told past (λ now. Ends (Err fault) (find (ends_search now) (searched_on now machine disk)))
    → Told past (λ now. Gives (Err (Place fault)) (first_volume now machine))
disk_refused past machine disk fault below left ends =
    told_gives past machine (Err fault) (Err (Place fault)) (gives_fault fault)
    (refused_at_last past past (λ now. searched now machine four_disks) (λ now. searched_on now machine disk)
    (λ now. searched now machine (drop (disk + 1) four_disks)) fault refl (disks_left past machine disk below left) ends)

-- one of them has none
pub disk_passed :
    (past : Option Past) (machine : Machine) (disk : ℕ) → disk < 4 → LeftDisks past machine disk
    → Told past (λ now. Ends (Ok None) (find (ends_search now) (searched_on now machine disk)))
    → LeftDisks past machine (disk + 1)
disk_passed past machine disk below left ends =
    goes_on_told past past (λ now. searched now machine four_disks) (λ now. searched_on now machine disk)
    (λ now. searched now machine (drop (disk + 1) four_disks)) refl (disks_left past machine disk below left) ends

-- all of them were searched
pub disks_passed :
    (past : Option Past) (machine : Machine) (disk : ℕ) → 4 ≤ disk → LeftDisks past machine disk
    → Told past (λ now. Gives (Err NoVolume) (first_volume now machine))
disks_passed past machine disk over left =
    told_gives past machine (Ok None) (Err NoVolume) (λ end ends. rw ends refl) (none past left)
  where
    none : (past : Option Past) → LeftDisks past machine disk → Told past (λ now. find (ends_search now) (searched now machine four_disks) ≡ None)
    none None left = tt
    none (Some past) left =
        left ∙ ap (λ rest. find (ends_search (now_of past)) (searched (now_of past) machine rest)) (drop_all disk four_disks over)

-- what a disk's partitions end the search with, where the disk as a whole has no volume
pub on_partitions :
    (past past' : Option Past) (machine : Machine) (disk : ℕ) (result : Result (Option Located) TableFault)
    → past' ≡ past → machine.size_of disk ≢ 0
    → Told past (λ now. false ≡ holds_volume now (whole_span machine disk))
    → Told past' (λ now. Ends result (find (ends_search now) (searched_partitions disk (partitions_of now machine disk))))
    → Told past (λ now. Ends result (find (ends_search now) (searched_on now machine disk)))
on_partitions None past' machine disk result same there holds ends = tt
on_partitions (Some past) past' machine disk result same there holds ends =
    subst (λ end. Ends result end) (sym (whole_passed (now_of past) machine disk there (sym holds)))
    (subst (λ past. Told past (λ now. Ends result (find (ends_search now) (searched_partitions disk (partitions_of now machine disk))))) same ends)

-- a disk of so many sectors that has a volume as a whole
pub on_whole :
    (past : Option Past) (machine : Machine) (disk count : ℕ) → count ≡ machine.size_of disk → machine.size_of disk ≢ 0
    → Told past (λ now. true ≡ holds_volume now (whole_span machine disk))
    → Told past (λ now. find (ends_search now) (searched_on now machine disk)
    ≡ Some (Ok (record { device = record { disk = disk; partition = 0 }; span = record { disk = disk; start = 0; count = count } })))
on_whole None machine disk count size there holds = tt
on_whole (Some past) machine disk count size there holds = rw size (whole_found (now_of past) machine disk there (sym holds))

-- a table that is refused, of what disks hold
pub on_refused :
    (past past' : Option Past) (machine : Machine) (disk : ℕ) (fault : TableFault)
    → past' ≡ past → has_no_table fault ≡ false
    → Told past (λ now. Refuses fault (partitions_of now machine disk))
    → Told past (λ now. Ends (Err fault) (find (ends_search now) (searched_partitions disk (partitions_of now machine disk))))
on_refused None past' machine disk fault same other refuses = tt
on_refused (Some past) past' machine disk fault same other refuses = table_refused (now_of past) disk fault _ refuses other
