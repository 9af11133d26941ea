-- The entries of a table are read as they were written.
use Rattle.std.proofs.Common.{◌≡◌, ◌≤◌, ◌-◌, List, [], ◌∷◌, ◌++◌, length, map, replicate, refl, ◌∙◌, ap, Ok, arith}
use Rattle.std.specs.List.{AllByRecursion}
use Rattle.std.specs.Int.{w32, from_le_bytes}
use Rattle.std.proofs.lemmas.List.Elements.{recursion_from_All}
use Rattle.std.proofs.lemmas.Nat.{from_le_bytes-to_le_bytes_4}
use Rattle.lilo_model.specs.Bytes.{number32, bytes32}
use Rattle.lilo_model.specs.BootSector.{is_bootable}
use Rattle.lilo_model.specs.Partitions.{Entry, entry_at, entries_of, table_entries}
use Rattle.ldisk_model.specs.Arguments.{PartWish}
use Rattle.ldisk_model.specs.DiskTable.{entry_bytes, table_sector, entry_of, no_entry, FitsTable, TableLaw}

-- an entry whose numbers are read of their bytes
abbrev entry_read : PartWish → Entry
entry_read part = record {
  status = 0;
  kind = part.kind;
  start = from_le_bytes w32 (bytes32 part.start);
  count = from_le_bytes w32 (bytes32 part.count);
}

one_read : (part : PartWish) → FitsTable part → entry_read part ≡ entry_of part
one_read part fits =
    let start = from_le_bytes-to_le_bytes_4 part.start fits.start in
    let count = from_le_bytes-to_le_bytes_4 part.count fits.count in
    rw (start, count) refl

table_read :
    (parts : List PartWish) → length parts ≤ 4
    → table_entries 0 (table_sector parts) ≡ Ok (map entry_read parts ++ replicate (4 - length parts) no_entry)
unfolding table_entries is_bootable entries_of entry_at number32 table_sector entry_bytes
table_read [] few = refl
table_read (a ∷ []) few = refl
table_read (a ∷ (b ∷ [])) few = refl
table_read (a ∷ (b ∷ (c ∷ []))) few = refl
table_read (a ∷ (b ∷ (c ∷ (d ∷ [])))) few = refl
table_read (a ∷ (b ∷ (c ∷ (d ∷ (e ∷ parts))))) few = absurd (omega (arith, few))

all_read : (parts : List PartWish) → AllByRecursion FitsTable parts → map entry_read parts ≡ map entry_of parts
all_read [] fit = refl
all_read (part ∷ parts) fit = let first = one_read part fit.0 in let others = all_read parts fit.1 in cc

pub table_law : TableLaw
table_law parts few fit =
    let same = all_read parts (recursion_from_All FitsTable parts fit) in
    table_read parts few ∙ ap (λ entries. Ok (entries ++ replicate (4 - length parts) no_entry)) same
