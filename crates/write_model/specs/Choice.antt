-- What is chosen for a new file of a Minix volume, or the first refusal (Minix file system; the order of refusals and
-- what is chosen are this project's own): the lowest free inode, the lowest free zones, and a place in the directory.
use Rattle.std.specs.Prelude.{ℕ, ◌+◌, ◌-◌, ◌/◌, ◌==◌, nat_le, Bool, not, ◌&&◌, ◌||◌, if◌then◌else◌, List, [], ◌∷◌, ◌++◌, length, filter, find, take, drop}
use Rattle.std.specs.Prelude.{Option, None, Some, Result, Ok, Err}
use Rattle.std.specs.List.{range_with_len, list_any}
use Rattle.lilo_model.specs.Checks.{◌>>=◌, require, with_fault}
use Rattle.lilo_model.specs.MinixLayout.{Kind, Super, name_size, numbers_in_zone}
use Rattle.lilo_model.specs.MinixParts.{Parts, ZoneFault}
use Rattle.lilo_model.specs.MinixEntries.{Entry, entries_per_block}
use Rattle.lilo_model.specs.MinixFind.{Zone, readable}
use Rattle.write_model.specs.Wish.{Wish, Taken, Refusal, NameTooLong, Exists, NoInode, NoSpace, Tree}
use Rattle.write_model.specs.FileZones.{data_blocks, made_indirect, count_made, given}
use Rattle.write_model.specs.Growth.{missing_on_way, promised_zones, count_fresh, completed}
use Rattle.write_model.specs.Places.{all_entries, has_name, is_overlooked, new_place}

-- what is chosen
pub record Choice : Type 0 where
  pub inode : ℕ
  pub place : ℕ
  -- the zones that are chosen now, the lowest first
  pub zones : List ℕ
  -- of them the file's: for each of its blocks the zone, 0 for a hole
  pub blocks : List ℕ
  -- and for each of its indirect zones, in the order of a walk, 0 where it isn't made
  pub indirect : List ℕ
  -- those by which the directory grows, also where they were promised before
  pub growth : List ℕ

-- ---- free inodes and zones

-- a number that is neither marked nor taken
abbrev pub is_left : (ℕ → Bool) → (ℕ → Bool) → ℕ → Bool
is_left marked taken number = not (marked number) && not (taken number)

-- the lowest free inode
unfoldable pub free_inode : Super → Parts → (ℕ → Bool) → Option ℕ
free_inode super parts taken = find (is_left parts.has_inode taken) (range_with_len 1 super.inodes)

-- the free data zones, the lowest first
unfoldable pub left_zones : Super → Parts → (ℕ → Bool) → List ℕ
left_zones super parts taken =
    filter (is_left parts.has_zone taken) (range_with_len super.first (super.zones - super.first))

-- the first of some zones, or too few
abbrev pub first_zones : ℕ → List ℕ → Result (List ℕ) Refusal
first_zones need zones = if nat_le need (length zones) then Ok (take need zones) else Err (NoSpace need (length zones))

-- ---- the choice

-- what there is, or a refusal
abbrev pub some_or : {A : Type 0} → Refusal → Option A → Result A Refusal
some_or refusal None = Err refusal
some_or refusal (Some value) = Ok value

-- a refusal of a zone's number
abbrev pub in_zone : {A : Type 0} → Result A ZoneFault → Result A Refusal
in_zone answer = with_fault (λ fault. Tree (Zone fault)) answer

-- the entries of the directory, where the name fits and isn't among them, or is overlooked there
unfoldable pub name_check : Super → Parts → Taken → ℕ → List ℕ → Result (List Entry) Refusal
name_check super parts taken directory name = do
  a ← require (nat_le (length name) (name_size super.kind)) NameTooLong
  b ← with_fault Tree (readable super parts directory)
  entries ← in_zone (all_entries super parts (parts.node directory))
  c ← require (not (has_name name entries) || is_overlooked taken.overlooked directory name) Exists
  Ok entries

-- the indirect zones of a file, by which of its blocks get a zone
abbrev pub indirect_zones : Kind → List Bool → List ℕ → List ℕ
indirect_zones kind blocks zones = given (made_indirect (numbers_in_zone kind) blocks) (drop (count_made blocks) zones)

-- how many zones it takes
unfoldable pub file_need : Kind → List Bool → ℕ
file_need kind blocks = count_made blocks + count_made (made_indirect (numbers_in_zone kind) blocks)

-- what is chosen, once all of it is known: `promised` are the zones by which the directory grows that were promised
unfoldable pub choice_with : Kind → List Bool → ℕ → ℕ → List (Option ℕ) → List ℕ → Choice
choice_with kind blocks inode place promised zones = record {
  inode = inode;
  place = place;
  zones = zones;
  blocks = given blocks zones;
  indirect = indirect_zones kind blocks zones;
  growth = completed promised (drop (file_need kind blocks) zones);
}

-- the zones, once inode and place are known
unfoldable pub zones_check : Super → Parts → Taken → ℕ → List Bool → ℕ → ℕ → Result Choice Refusal
zones_check super parts taken directory blocks inode place = do
  missing ← in_zone (missing_on_way super parts (parts.node directory) (place / entries_per_block super.kind))
  let promised : List (Option ℕ) = promised_zones super.kind taken.promises directory (place / entries_per_block super.kind) missing
  zones ← first_zones (file_need super.kind blocks + count_fresh promised) (left_zones super parts taken.has_zone)
  Ok (choice_with super.kind blocks inode place promised zones)

-- what is chosen for a name in a directory and some blocks, each of which gets a zone or is a hole
unfoldable pub choose_blocks : Super → Parts → Taken → ℕ → List ℕ → List Bool → Result Choice Refusal
choose_blocks super parts taken directory name blocks = do
  entries ← name_check super parts taken directory name
  inode ← some_or NoInode (free_inode super parts taken.has_inode)
  place ← some_or (NoSpace 1 0)
      (new_place super.kind taken.promises directory (parts.node directory).size entries)
  zones_check super parts taken directory blocks inode place

-- what is chosen for a wish
unfoldable pub choose : Super → Parts → Taken → Wish → Result Choice Refusal
choose super parts taken wish =
    choose_blocks super parts taken wish.directory wish.name (data_blocks wish.length wish.holes)

-- ---- what is taken then

-- a number is one of some
abbrev pub is_one_of : List ℕ → ℕ → Bool
is_one_of numbers number = list_any (λ other. number == other) numbers

-- what is taken once a choice is promised too
unfoldable pub taken_with : Taken → ℕ → Choice → Taken
taken_with taken directory choice = record taken {
  has_zone = λ zone. taken.has_zone zone || is_one_of choice.zones zone;
  has_inode = λ inode. taken.has_inode inode || (inode == choice.inode);
  promises = taken.promises ++ (record { directory = directory; place = choice.place; growth = choice.growth } ∷ []);
}
