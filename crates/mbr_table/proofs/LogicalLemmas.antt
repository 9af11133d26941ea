-- The logical partitions, table by table.
use Rattle.std.proofs.Common.{◌≡◌, ◌<◌, ℕ, ◌+◌, ◌-◌, List, [], ◌∷◌, ◌++◌, length, Bool, true, false, refl, sym, ap, ◌∙◌, length-append, arith}
use Rattle.std.specs.Prelude.{Option, Some, None, Ok, Err, option_map, option_to_list, not, nat_eq, nat_lt}
use Rattle.std.specs.List.{list_any}
use Rattle.std.proofs.lemmas.Bool.{ltb-true}
use Rattle.std.proofs.lemmas.List.{append-nil}
use Rattle.disk_trait.specs.Past.{Image, Past, now_of, Told}
use Rattle.lilo_model.specs.Checks.{◌>>=◌, require}
use Rattle.lilo_model.specs.BootSector.{is_bootable}
use Rattle.lilo_model.specs.Partitions as model
use Rattle.lilo_model.specs.Partitions.{Entry, entries_of, table_entries, link_of, linked_sector, chain_from, chain_tables, chain_entries, logical_of, logical_at, logical_from}
use Rattle.mbr_table.specs.declared.partition.Partition.{Partition}
use Rattle.mbr_table.specs.declared.table_fault.TableFault.{TableFault}
use Rattle.mbr_table.specs.Gives.{Refuses}
use Rattle.mbr_table.specs.View.{partition_view, partitions_view, table_fault_view}
use Rattle.mbr_table.proofs.ChainLemmas.{chain_from-step, chain_from-none, chain_from-next}
use Rattle.mbr_table.proofs.GivesLemmas.{refuses_too, refuses_view}
use Rattle.mbr_table.proofs.ListedLemmas.{Listing, behind, behind-behind, partitions_view-add}

-- all logical partitions
abbrev pub whole_of : Image → ℕ → ℕ → ℕ → Listing
whole_of now disk size outer = logical_from (now disk) size disk 5 [] (chain_tables (now disk) size outer)

-- the first tables of the chain
abbrev pub first_tables : Image → ℕ → ℕ → ℕ → ℕ → List ℕ
first_tables now disk size outer tables = chain_from (linked_sector (now disk) size outer) tables (Some outer)

-- some partitions, and those of the tables that are left after the first ones, from a sector on
abbrev pub rest_at : Image → ℕ → ℕ → ℕ → ℕ → ℕ → List model.Partition → Option ℕ → Listing
rest_at now disk size outer number tables found at =
    behind found (logical_from (now disk) size disk number (first_tables now disk size outer tables) (chain_from (linked_sector (now disk) size outer) (size - tables) at))

-- ---- one table

checked :
    {A F : Type 0} (first second third : Bool) (a b c : F) (given found : A)
    → (require first a >>= λ x. require second b >>= λ y. require third c >>= λ z. Ok given) ≡ Ok found
    → (first ≡ true) × (second ≡ true) × (given ≡ found)
checked true true true a b c given found e = (refl, refl, (cc))
checked true true false a b c given found e = cc
checked true false third a b c given found e = cc
checked false second third a b c given found e = cc

-- what is known of a table that was read
record Read (sectors : ℕ → List ℕ) (size : ℕ) (earlier : List ℕ) (sector : ℕ) (entries : List Entry) : Type 0 where
  new : not (list_any (nat_eq sector) (0 ∷ earlier)) ≡ true
  inside : nat_lt sector size ≡ true
  entries_are : entries_of (sectors sector) ≡ entries

chain_entries-read :
    (sectors : ℕ → List ℕ) (size : ℕ) (earlier : List ℕ) (sector : ℕ) (entries : List Entry)
    → chain_entries sectors size earlier sector ≡ Ok entries → Read sectors size earlier sector entries
unfolding chain_entries table_entries
chain_entries-read sectors size earlier sector entries read =
    let is =
    checked (not (list_any (nat_eq sector) (0 ∷ earlier))) (nat_lt sector size) (is_bootable (sectors sector)) _ _ _
    (entries_of (sectors sector)) entries read in
    record { new = is.0; inside = is.1; entries_are = is.2 }

-- the link of a table that was read
pub linked_sector-entries :
    (sectors : ℕ → List ℕ) (size outer : ℕ) (earlier : List ℕ) (sector : ℕ) (entries : List Entry)
    → chain_entries sectors size earlier sector ≡ Ok entries
    → linked_sector sectors size outer sector ≡ option_map (λ entry. outer + entry.start) (link_of entries)
unfolding linked_sector
linked_sector-entries sectors size outer earlier sector entries read =
    let is = chain_entries-read sectors size earlier sector entries read in rw (is.inside, is.entries_are) refl

not_true : (b : Bool) → not b ≡ true → b ≡ false
not_true true e = sym e
not_true false e = refl

-- a table that was read wasn't read before
pub chain_entries-new :
    (sectors : ℕ → List ℕ) (size : ℕ) (earlier : List ℕ) (sector : ℕ) (entries : List Entry)
    → chain_entries sectors size earlier sector ≡ Ok entries → list_any (nat_eq sector) (0 ∷ earlier) ≡ false
chain_entries-new sectors size earlier sector entries read =
    not_true _ (chain_entries-read sectors size earlier sector entries read).new

-- .. and lies on the disk
pub chain_entries-inside :
    (sectors : ℕ → List ℕ) (size : ℕ) (earlier : List ℕ) (sector : ℕ) (entries : List Entry)
    → chain_entries sectors size earlier sector ≡ Ok entries → sector < size
chain_entries-inside sectors size earlier sector entries read =
    ltb-true sector size (chain_entries-read sectors size earlier sector entries read).inside

refused_table :
    (now : Image) (disk size outer number tables sector : ℕ) (found : List model.Partition) (refusal : model.TableFault)
    → tables < size → whole_of now disk size outer ≡ rest_at now disk size outer number tables found (Some sector)
    → chain_entries (now disk) size (first_tables now disk size outer tables) sector ≡ Err refusal
    → whole_of now disk size outer ≡ Err refusal
refused_table now disk size outer number tables sector found refusal left so_far read =
    so_far ∙ rw (chain_from-step (linked_sector (now disk) size outer) size tables sector left, read) refl

refused_partition :
    (now : Image) (disk size outer number tables sector : ℕ) (found : List model.Partition) (entries : List Entry)
    (refusal : model.TableFault)
    → tables < size → whole_of now disk size outer ≡ rest_at now disk size outer number tables found (Some sector)
    → chain_entries (now disk) size (first_tables now disk size outer tables) sector ≡ Ok entries
    → logical_at size disk sector number (logical_of entries) ≡ Err refusal
    → whole_of now disk size outer ≡ Err refusal
refused_partition now disk size outer number tables sector found entries refusal left so_far read is =
    so_far ∙ rw (chain_from-step (linked_sector (now disk) size outer) size tables sector left, read, is) refl

one_table :
    (now : Image) (disk size outer number tables sector : ℕ) (found : List model.Partition) (entries : List Entry)
    (logical : Option model.Partition)
    → tables < size → whole_of now disk size outer ≡ rest_at now disk size outer number tables found (Some sector)
    → first_tables now disk size outer (tables + 1) ≡ first_tables now disk size outer tables ++ (sector ∷ [])
    → chain_entries (now disk) size (first_tables now disk size outer tables) sector ≡ Ok entries
    → logical_at size disk sector number (logical_of entries) ≡ Ok logical
    → whole_of now disk size outer
    ≡ rest_at now disk size outer (number + length (option_to_list logical)) (tables + 1) (found ++ option_to_list logical) (option_map (λ entry. outer + entry.start) (link_of entries))
one_table now disk size outer number tables sector found entries logical left so_far earlier read is =
    let link = linked_sector-entries (now disk) size outer _ sector entries read in
    so_far
    ∙ rw (chain_from-step (linked_sector (now disk) size outer) size tables sector left, read, is) (rw (← earlier, link) (behind-behind found (option_to_list logical) _))

-- ---- the same of what disks hold, where they report it

pub told_refused_table :
    (past : Option Past) (disk size outer number tables sector : ℕ) (found : List model.Partition) (fault : TableFault)
    → tables < size
    → Told past (λ now. whole_of now disk size outer ≡ rest_at now disk size outer number tables found (Some sector))
    → Told past (λ now. Refuses fault (chain_entries (now disk) size (first_tables now disk size outer tables) sector))
    → Told past (λ now. Refuses fault (whole_of now disk size outer))
told_refused_table None disk size outer number tables sector found fault left so_far read = tt
told_refused_table (Some past) disk size outer number tables sector found fault left so_far read =
    refuses_too fault _ _ (λ refusal. refused_table (now_of past) disk size outer number tables sector found refusal left so_far) read

pub told_refused_partition :
    (past : Option Past) (disk size outer number tables sector : ℕ) (found : List model.Partition) (entries : List Entry)
    (fault : TableFault) → tables < size
    → Told past (λ now. whole_of now disk size outer ≡ rest_at now disk size outer number tables found (Some sector))
    → Told past (λ now. chain_entries (now disk) size (first_tables now disk size outer tables) sector ≡ Ok entries)
    → Err (table_fault_view fault) ≡ logical_at size disk sector number (logical_of entries)
    → Told past (λ now. Refuses fault (whole_of now disk size outer))
told_refused_partition None disk size outer number tables sector found entries fault left so_far read is = tt
told_refused_partition (Some past) disk size outer number tables sector found entries fault left so_far read is =
    refuses_view fault _ (refused_partition (now_of past) disk size outer number tables sector found entries _ left so_far read (sym is))

length-view : (partition : Option Partition) → length (option_to_list (option_map partition_view partition)) ≡ length (option_to_list partition)
length-view None = refl
length-view (Some partition) = refl

length-add :
    (found : List Partition) (partition : Option Partition)
    → length found + 5 + length (option_to_list (option_map partition_view partition)) ≡ length (found ++ option_to_list partition) + 5
length-add found partition =
    let joined : length (found ++ option_to_list partition) ≡ length found + length (option_to_list partition) = length-append found (option_to_list partition) in
    rw (length-view partition, joined) (omega arith)

pub told_one_table :
    (past : Option Past) (disk size outer tables sector : ℕ) (found : List Partition) (entries : List Entry)
    (partition : Option Partition) (all : List Partition) (next link : Option ℕ)
    → tables < size
    → Told past (λ now. whole_of now disk size outer ≡ rest_at now disk size outer (length found + 5) tables (partitions_view found) (Some sector))
    → Told past (λ now. first_tables now disk size outer (tables + 1) ≡ first_tables now disk size outer tables ++ (sector ∷ []))
    → Told past (λ now. chain_entries (now disk) size (first_tables now disk size outer tables) sector ≡ Ok entries)
    → Ok (option_map partition_view partition) ≡ logical_at size disk sector (length found + 5) (logical_of entries)
    → all ≡ found ++ option_to_list partition
    → link ≡ option_map (λ entry. outer + entry.start) (link_of entries) → link ≡ next
    → Told past (λ now. whole_of now disk size outer ≡ rest_at now disk size outer (length all + 5) (tables + 1) (partitions_view all) next)
told_one_table None disk size outer tables sector found entries partition all next link left so_far earlier read is listed linked same = tt
told_one_table (Some past) disk size outer tables sector found entries partition all next link left so_far earlier read is listed linked same =
    let logical = option_map partition_view partition in
    let one = one_table (now_of past) disk size outer (length found + 5) tables sector (partitions_view found) entries logical left so_far earlier read (sym is) in
    rw (listed, ← same, linked, ← length-add found partition, partitions_view-add found partition) one

pub told_next_table :
    (past : Option Past) (disk size outer tables sector : ℕ) (entries : List Entry) (next : ℕ) (link : Option ℕ)
    → Told past (λ now. first_tables now disk size outer (tables + 1) ≡ first_tables now disk size outer tables ++ (sector ∷ []))
    → Told past (λ now. chain_entries (now disk) size (first_tables now disk size outer tables) sector ≡ Ok entries)
    → link ≡ option_map (λ entry. outer + entry.start) (link_of entries) → link ≡ Some next
    → Told past (λ now. first_tables now disk size outer (tables + 1 + 1) ≡ first_tables now disk size outer (tables + 1) ++ (next ∷ []))
told_next_table None disk size outer tables sector entries next link earlier read linked same = tt
told_next_table (Some past) disk size outer tables sector entries next link earlier read linked same =
    let found = linked_sector-entries (now_of past disk) size outer _ sector entries read in
    chain_from-next (linked_sector (now_of past disk) size outer) tables (Some outer) sector next earlier (sym same ∙ linked ∙ sym found)

-- after the last table there is none
pub told_last_table :
    (past : Option Past) (disk size outer number tables : ℕ) (found : List model.Partition)
    → Told past (λ now. whole_of now disk size outer ≡ rest_at now disk size outer number tables found None)
    → Told past (λ now. whole_of now disk size outer ≡ Ok found)
told_last_table None disk size outer number tables found so_far = tt
told_last_table (Some past) disk size outer number tables found so_far =
    so_far ∙ rw (chain_from-none (linked_sector (now_of past disk) size outer) (size - tables)) (ap Ok (append-nil found))
