-- The inode at a number.
use Rattle.std.proofs.Common.{◌≡◌, ◌≤◌, ◌<◌, ◌+◌, ◌*◌, ◌-◌, ◌/◌, ◌^◌, ℕ, List, Option, None, Some, Result, Ok, Err, Bool, true, false, nat_le, nat_lt, ◌&&◌, if◌then◌else◌, refl, sym, ◌∙◌, ap, arith}
use Rattle.std.proofs.lemmas.Bool.Decides.{nat_tests}
use Rattle.disk_trait.specs.Past.{Past, Told, now_of}
use Rattle.lilo_model.specs.Bytes.{part_of}
use Rattle.lilo_model.specs.Checks.{◌>>=◌, require}
use Rattle.lilo_model.specs.MinixLayout.{Kind, V1Short, V1Long, V2Short, V2Long, Super, Inode, Place, LayoutFault, BadSize, Inodes, Zones, InodeMap, ZoneMap, FirstZone, FileSize, IsSuper, super_checks, zone_map_holds, table_start, table_blocks, inode_size, is_v1, is_size, inode_of, inode_at, inode_place, reach}
use Rattle.lilo_model.specs.MinixParts.{Volume, Layout, parts_of, sector_of, blocks_for}
use Rattle.lilo_model.specs.MinixFind.{TreeFault, Zone, readable}

-- ---- where it lies

-- a check that was passed, and those after it
passed : {F : Type 0} (test : Bool) (fault : F) (rest : Result (Unit {0}) F)
    → (require test fault >>= λ a. rest) ≡ Ok tt → (test ≡ true) × (rest ≡ Ok tt)
passed true fault rest all = (refl, all)
passed false fault rest all = cc

passed_last : {F : Type 0} (test : Bool) (fault : F) → require test fault ≡ Ok tt → test ≡ true
passed_last true fault all = refl
passed_last false fault all = cc

-- the table of inodes lies in the volume's sectors
table_fits : (super : Super) (sectors : ℕ) → super_checks super sectors ≡ Ok tt
    → 2 * (table_start super + table_blocks super) + 2 ≤ sectors
unfolding super_checks
table_fits super sectors passes =
    let last = require (nat_le (table_start super + table_blocks super) super.first && nat_lt super.first super.zones) (BadSize FirstZone) in
    let fourth = require (zone_map_holds super) (BadSize ZoneMap) >>= λ e. last in
    let third = require (nat_lt super.inodes (8192 * super.imap)) (BadSize InodeMap) >>= λ d. fourth in
    let second = require (nat_le 1 super.zones && nat_le (2 * super.zones) sectors) (BadSize Zones) >>= λ c. third in
    let one = passed (nat_le 1 super.inodes) (BadSize Inodes) second passes in
    let two = passed (nat_le 1 super.zones && nat_le (2 * super.zones) sectors) (BadSize Zones) third one.1 in
    let three = passed (nat_lt super.inodes (8192 * super.imap)) (BadSize InodeMap) fourth two.1 in
    let four = passed (zone_map_holds super) (BadSize ZoneMap) last three.1 in
    let five = passed_last (nat_le (table_start super + table_blocks super) super.first && nat_lt super.first super.zones) (BadSize FirstZone) four.1 in
    let two_is : (nat_le 1 super.zones && nat_le (2 * super.zones) sectors) ≡ true = two.0 in
    grind (arith, nat_tests)

sector_in_table : (one : Bool) (count number : ℕ) → 1 ≤ number → number ≤ count
    → (number - 1) * (if one then 32 else 64) / 512 < 2 * ((count * (if one then 32 else 64) + 1023) / 1024)
sector_in_table true count number some there = omega arith
sector_in_table false count number some there = omega arith

-- so does each inode
pub inode_sector : (super : Super) (sectors number sector at : ℕ) → IsSuper super sectors
    → record { sector = sector; at = at } ≡ inode_place super number → 1 ≤ number → number ≤ super.inodes → sector < sectors
unfolding inode_place
inode_sector super sectors number sector at whole place some there =
    let P : Place → ℕ = λ p. p.sector in
    let is : sector ≡ 2 * table_start super + (number - 1) * inode_size super.kind / 512 = ap P place in
    let fits = table_fits super sectors whole.passes in
    let low : (number - 1) * inode_size super.kind / 512 < 2 * table_blocks super = sector_in_table (is_v1 super.kind) super.inodes number some there in
    omega (arith, is, fits, low)

-- there is an inode at least
pub has_root : (super : Super) (sectors : ℕ) → IsSuper super sectors → 1 ≤ super.inodes
unfolding super_checks
has_root super sectors whole =
    let one = passed (nat_le 1 super.inodes) (BadSize Inodes)
    (require (nat_le 1 super.zones && nat_le (2 * super.zones) sectors) (BadSize Zones)
    >>= λ b. require (nat_lt super.inodes (8192 * super.imap)) (BadSize InodeMap)
    >>= λ c. require (zone_map_holds super) (BadSize ZoneMap)
    >>= λ d. require (nat_le (table_start super + table_blocks super) super.first && nat_lt super.first super.zones) (BadSize FirstZone)) whole.passes in
    let is : nat_le 1 super.inodes ≡ true = one.0 in
    grind (arith, nat_tests)

-- ---- what is there

-- an inode was read where its size may be
read_sized : (kind : Kind) (bytes : List ℕ) (node : Inode) (fits : Bool) → is_size kind (inode_of kind bytes).size ≡ fits
    → Ok node ≡ inode_at kind bytes → (node ≡ inode_of kind bytes) × (fits ≡ true)
unfolding inode_at
read_sized kind bytes node true is read =
    let same : Ok node ≡ (require true (BadSize FileSize) >>= λ a. Ok (inode_of kind bytes)) = rw is at read in
    (cc, refl)
read_sized kind bytes node false is read =
    let same : Ok node ≡ (require false (BadSize FileSize) >>= λ a. Ok (inode_of kind bytes)) = rw is at read in
    cc

refused_sized : (kind : Kind) (bytes : List ℕ) (fault : LayoutFault) (fits : Bool) → is_size kind (inode_of kind bytes).size ≡ fits
    → Err fault ≡ inode_at kind bytes → (fault ≡ BadSize FileSize) × (fits ≡ false)
unfolding inode_at
refused_sized kind bytes fault true is read =
    let same : Err fault ≡ (require true (BadSize FileSize) >>= λ a. Ok (inode_of kind bytes)) = rw is at read in
    cc
refused_sized kind bytes fault false is read =
    let same : Err fault ≡ (require false (BadSize FileSize) >>= λ a. Ok (inode_of kind bytes)) = rw is at read in
    (cc, refl)

pub sized : (kind : Kind) (bytes : List ℕ) (node : Inode) → Ok node ≡ inode_at kind bytes → is_size kind node.size ≡ true
sized kind bytes node read =
    let both = read_sized kind bytes node (is_size kind (inode_of kind bytes).size) refl read in
    let S : Inode → Bool = λ n. is_size kind n.size in
    ap S both.0 ∙ both.1

-- the part that an inode was read from
part_is : (volume : Volume) (now : ℕ → ℕ → List ℕ) (number sector at : ℕ) (bytes : List ℕ)
    → bytes ≡ sector_of volume now sector → record { sector = sector; at = at } ≡ inode_place volume.layout number
    → inode_of volume.layout.kind (part_of bytes at (inode_size volume.layout.kind)) ≡ (parts_of volume now).node number
unfolding parts_of
part_is volume now number sector at bytes is place =
    let P : Place → Inode = λ p. inode_of volume.layout.kind (part_of (sector_of volume now p.sector) p.at (inode_size volume.layout.kind)) in
    let Q : List ℕ → Inode = λ b. inode_of volume.layout.kind (part_of b at (inode_size volume.layout.kind)) in
    ap Q is ∙ ap P place

-- it is that of the model
pub stat_node : (past : Option Past) (volume : Volume) (number sector at : ℕ) (bytes : List ℕ) (node : Inode)
    → Told past (λ now. bytes ≡ sector_of volume now sector)
    → record { sector = sector; at = at } ≡ inode_place volume.layout number
    → Ok node ≡ inode_at volume.layout.kind (part_of bytes at (inode_size volume.layout.kind))
    → Told past (λ now. node ≡ (parts_of volume now).node number)
stat_node None volume number sector at bytes node is place read = tt
stat_node (Some past) volume number sector at bytes node is place read =
    (read_sized volume.layout.kind (part_of bytes at (inode_size volume.layout.kind)) node (is_size volume.layout.kind (inode_of volume.layout.kind (part_of bytes at (inode_size volume.layout.kind))).size) refl read).0
    ∙ part_is volume (now_of past) number sector at bytes is place

pub stat_found : (past : Option Past) (volume : Volume) (number sector at : ℕ) (bytes : List ℕ) (node : Inode)
    → Told past (λ now. bytes ≡ sector_of volume now sector)
    → record { sector = sector; at = at } ≡ inode_place volume.layout number
    → Ok node ≡ inode_at volume.layout.kind (part_of bytes at (inode_size volume.layout.kind))
    → Told past (λ now. readable volume.layout (parts_of volume now) number ≡ Ok number)
stat_found None volume number sector at bytes node is place read = tt
stat_found (Some past) volume number sector at bytes node is place read =
    let S : Inode → Bool = λ n. is_size volume.layout.kind n.size in
    let good : is_size volume.layout.kind ((parts_of volume (now_of past)).node number).size ≡ true =
    ap S (sym (stat_node (Some past) volume number sector at bytes node is place read)) ∙ sized volume.layout.kind (part_of bytes at (inode_size volume.layout.kind)) node read in
    rw good refl

pub stat_refused : (past : Option Past) (volume : Volume) (number sector at : ℕ) (bytes : List ℕ) (fault : LayoutFault)
    → Told past (λ now. bytes ≡ sector_of volume now sector)
    → record { sector = sector; at = at } ≡ inode_place volume.layout number
    → Err fault ≡ inode_at volume.layout.kind (part_of bytes at (inode_size volume.layout.kind))
    → Told past (λ now. readable volume.layout (parts_of volume now) number ≡ Err (Zone (Layout fault)))
stat_refused None volume number sector at bytes fault is place read = tt
stat_refused (Some past) volume number sector at bytes fault is place read =
    let both = refused_sized volume.layout.kind (part_of bytes at (inode_size volume.layout.kind)) fault (is_size volume.layout.kind (inode_of volume.layout.kind (part_of bytes at (inode_size volume.layout.kind))).size) refl read in
    let S : Inode → Bool = λ n. is_size volume.layout.kind n.size in
    let bad : is_size volume.layout.kind ((parts_of volume (now_of past)).node number).size ≡ false =
    ap S (sym (part_is volume (now_of past) number sector at bytes is place)) ∙ both.1 in
    let F : LayoutFault → Result ℕ TreeFault = λ f. Err (Zone (Layout f)) in
    rw bad (ap F (sym both.0))

-- ---- how large it is

-- an inode can name all blocks of its file
pub blocks_reached : (kind : Kind) (size : ℕ) → size < 2 ^ 32 → is_size kind size ≡ true → blocks_for size ≤ reach kind
blocks_reached V1Short size fits is = let small : size ≤ 268966912 = grind (arith, nat_tests) in omega arith
blocks_reached V1Long size fits is = let small : size ≤ 268966912 = grind (arith, nat_tests) in omega arith
blocks_reached V2Short size fits is = omega arith
blocks_reached V2Long size fits is = omega arith
