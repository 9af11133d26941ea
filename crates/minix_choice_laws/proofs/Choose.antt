-- What a choice is made of.
use Rattle.std.proofs.Common.{◌≡◌, ◌≤◌, ◌<◌, ◌+◌, ◌-◌, ◌/◌, ℕ, zero, suc, Bool, true, false, not, ◌&&◌, ◌||◌, ◌⊎◌, nat_le, List, [], ◌∷◌, length, take, drop, Option, Some, None, Result, Ok, Err, refl, sym, ap, ◌∙◌, subst, arith, inl, inr}
use Rattle.std.specs.Prelude.{slice_index, slice_set, replicate}
use Rattle.std.proofs.lemmas.List.{length-set, length-replicate}
use Rattle.std.proofs.lemmas.Bool.Decides.{nat_tests}
use Rattle.lilo_model.specs.Checks.{◌>>=◌, require, with_fault}
use Rattle.lilo_model.specs.MinixLayout.{Super, name_size}
use Rattle.lilo_model.specs.MinixParts.{Parts, blocks_for}
use Rattle.lilo_model.specs.MinixEntries.{Entry, entries_per_block}
use Rattle.lilo_model.specs.MinixFind.{readable}
use Rattle.write_model.specs.Wish.{Wish, Taken, Refusal, NameTooLong, Exists, NoInode, NoSpace, Tree}
use Rattle.write_model.specs.FileZones.{data_blocks, without_holes}
use Rattle.write_model.specs.Growth.{missing_on_way, promised_zones, count_fresh, completed}
use Rattle.write_model.specs.Places.{all_entries, has_name, is_overlooked, new_place}
use Rattle.write_model.specs.Choice.{Choice, is_left, free_inode, left_zones, first_zones, some_or, in_zone, name_check, file_need, choice_with, zones_check, choose_blocks, choose}
use Rattle.minix_choice_laws.specs.FillLaws.{MayBeFile}
use Rattle.minix_choice_laws.proofs.Chosen.{chosen_law}
use Rattle.minix_choice_laws.specs.Choice.{IsFreeZone, IsFreeChoice, file_of}
use Rattle.minix_choice_laws.specs.ChoiceLaws.{ChoiceLaw, FileLaw}
use Rattle.minix_choice_laws.proofs.Rising.{Rises, rises_range, rises_take, rises_at, are_rising, find_range}

-- ---- what passed checks gave

pub passed : {A B F : Type 0} (check : Result A F) (next : A → Result B F) (value : B) → (check >>= next) ≡ Ok value → (found : A) × (check ≡ Ok found) × (next found ≡ Ok value)
passed (Ok found) next value is = (found, refl, is)
passed (Err fault) next value is = cc

required : {F : Type 0} (test : Bool) (fault : F) (value : Unit {0}) → require test fault ≡ Ok value → test ≡ true
required true fault value is = refl
required false fault value is = cc

pub untold : {A F G : Type 0} (told : F → G) (answer : Result A F) (value : A) → with_fault told answer ≡ Ok value → answer ≡ Ok value
untold told (Ok found) value is = cc
untold told (Err fault) value is = cc

given_or : {A : Type 0} (refusal : Refusal) (option : Option A) (value : A) → some_or refusal option ≡ Ok value → option ≡ Some value
given_or refusal None value is = cc
given_or refusal (Some found) value is = cc

first_by : (need : ℕ) (zones found : List ℕ) (test : Bool) → nat_le need (length zones) ≡ test → first_zones need zones ≡ Ok found → (need ≤ length zones) × (found ≡ take need zones)
first_by need zones found true enough is =
    let e = rw enough at is in
    (grind (arith, nat_tests), cc)
first_by need zones found false enough is = let e = rw enough at is in cc

-- ---- the name

pub record PassesName (super : Super) (parts : Parts) (taken : Taken) (directory : ℕ) (name : List ℕ) (entries : List Entry) : Type 0 where
  pub short : length name ≤ name_size super.kind
  pub found : all_entries super parts (parts.node directory) ≡ Ok entries
  pub new : has_name name entries ≡ false ⊎ is_overlooked taken.overlooked directory name ≡ true

either : (has over : Bool) → (not has || over) ≡ true → has ≡ false ⊎ over ≡ true
either true over is = inr is
either false over is = inl refl

pub passes_name : (super : Super) (parts : Parts) (taken : Taken) (directory : ℕ) (name : List ℕ) (entries : List Entry)
    → name_check super parts taken directory name ≡ Ok entries → PassesName super parts taken directory name entries
unfolding name_check
passes_name super parts taken directory name entries is =
    let one = passed (require (nat_le (length name) (name_size super.kind)) NameTooLong) _ entries is in
    let two = passed (with_fault Tree (readable super parts directory)) _ entries one.2 in
    let three = passed (in_zone (all_entries super parts (parts.node directory))) _ entries two.2 in
    let four = passed (require (not (has_name name three.0) || is_overlooked taken.overlooked directory name) Exists) _ entries three.2 in
    let short : nat_le (length name) (name_size super.kind) ≡ true = required _ NameTooLong one.0 one.1 in
    let same : three.0 ≡ entries = let e = four.2 in cc in
    let P : List Entry → Type 0 = λ es. (all_entries super parts (parts.node directory) ≡ Ok es) × (has_name name es ≡ false ⊎ is_overlooked taken.overlooked directory name ≡ true) in
    let both = subst P same (untold _ (all_entries super parts (parts.node directory)) three.0 three.1, either _ _ (required _ Exists four.0 four.1)) in
    record { short = grind (arith, nat_tests); found = both.0; new = both.1 }

-- ---- all of it

-- what a choice was made of
pub record IsMadeOf (super : Super) (parts : Parts) (taken : Taken) (directory : ℕ) (name : List ℕ) (blocks : List Bool) (choice : Choice) : Type 0 where
  pub entries : List Entry
  pub named : name_check super parts taken directory name ≡ Ok entries
  pub inode : free_inode super parts taken.has_inode ≡ Some choice.inode
  pub place : new_place super.kind taken.promises directory (parts.node directory).size entries ≡ Some choice.place
  pub count : ℕ
  pub missing : missing_on_way super parts (parts.node directory) (choice.place / entries_per_block super.kind) ≡ Ok count
  pub promised : List (Option ℕ)
  pub are_promised : promised ≡ promised_zones super.kind taken.promises directory (choice.place / entries_per_block super.kind) count
  pub enough : file_need super.kind blocks + count_fresh promised ≤ length (left_zones super parts taken.has_zone)
  pub zones : choice.zones ≡ take (file_need super.kind blocks + count_fresh promised) (left_zones super parts taken.has_zone)
  pub is : choice ≡ choice_with super.kind blocks choice.inode choice.place promised choice.zones

pub made_of : (super : Super) (parts : Parts) (taken : Taken) (directory : ℕ) (name : List ℕ) (blocks : List Bool) (choice : Choice)
    → choose_blocks super parts taken directory name blocks ≡ Ok choice → IsMadeOf super parts taken directory name blocks choice
unfolding choose_blocks zones_check choice_with
made_of super parts taken directory name blocks choice is =
    let one = passed (name_check super parts taken directory name) _ choice is in
    let two = passed (some_or NoInode (free_inode super parts taken.has_inode)) _ choice one.2 in
    let three = passed (some_or (NoSpace 1 0) (new_place super.kind taken.promises directory (parts.node directory).size one.0)) _ choice two.2 in
    let four = passed (in_zone (missing_on_way super parts (parts.node directory) (three.0 / entries_per_block super.kind))) _ choice three.2 in
    let promised = promised_zones super.kind taken.promises directory (three.0 / entries_per_block super.kind) four.0 in
    let five = passed (first_zones (file_need super.kind blocks + count_fresh promised) (left_zones super parts taken.has_zone)) _ choice four.2 in
    let zones = first_by (file_need super.kind blocks + count_fresh promised) (left_zones super parts taken.has_zone) five.0 _ refl five.1 in
    let all : choice_with super.kind blocks two.0 three.0 promised five.0 ≡ choice = let e = five.2 in cc in
    subst (IsMadeOf super parts taken directory name blocks) all (record {
      entries = one.0;
      named = one.1;
      inode = given_or NoInode (free_inode super parts taken.has_inode) two.0 two.1;
      place = given_or (NoSpace 1 0) (new_place super.kind taken.promises directory (parts.node directory).size one.0) three.0 three.1;
      count = four.0;
      missing = untold _ (missing_on_way super parts (parts.node directory) (three.0 / entries_per_block super.kind)) four.0 four.1;
      promised = promised;
      are_promised = refl;
      enough = zones.0;
      zones = zones.1;
      is = refl;
    })

-- ---- zones

left_both : (marked taken : Bool) → (not marked && not taken) ≡ true → (marked ≡ false) × (taken ≡ false)
left_both true taken is = cc
left_both false true is = cc
left_both false false is = (refl, refl)

completed_length : (promised : List (Option ℕ)) (zones : List ℕ) → length (completed promised zones) ≡ length promised
completed_length [] zones = refl
completed_length (Some zone ∷ promised) zones = ap suc (completed_length promised zones)
completed_length (None ∷ promised) [] = ap suc (completed_length promised [])
completed_length (None ∷ promised) (zone ∷ zones) = ap suc (completed_length promised zones)

none_fresh : (promised : List (Option ℕ)) → length promised ≡ 0 → count_fresh promised ≡ 0
none_fresh [] none = refl
none_fresh (one ∷ promised) none = cc

length_take : (n : ℕ) (ns : List ℕ) → n ≤ length ns → length (take n ns) ≡ n
length_take zero ns le = refl
length_take (suc n) [] le = absurd (omega (arith, le))
length_take (suc n) (m ∷ ns) le = ap suc (length_take n ns (omega (arith, le)))

pub made_by : (super : Super) (parts : Parts) (taken : Taken) (wish : Wish) (choice : Choice) → choose super parts taken wish ≡ Ok choice
    → IsMadeOf super parts taken wish.directory wish.name (data_blocks wish.length wish.holes) choice
unfolding choose
made_by super parts taken wish choice is = made_of super parts taken wish.directory wish.name (data_blocks wish.length wish.holes) choice is

module _ (super : Super) (parts : Parts) (taken : Taken) (wish : Wish) (choice : Choice) (made : IsMadeOf super parts taken wish.directory wish.name (data_blocks wish.length wish.holes) choice) where
  abbrev blocks : List Bool
  blocks = data_blocks wish.length wish.holes

  abbrev left : ℕ → Bool
  left = is_left parts.has_zone taken.has_zone

  rises : Rises left super.first (super.first + (super.zones - super.first)) choice.zones
  unfolding left_zones
  rises =
      let P : List ℕ → Type 0 = Rises left super.first (super.first + (super.zones - super.first)) in
      subst P (sym made.zones)
      (rises_take left super.first (super.first + (super.zones - super.first)) (left_zones super parts taken.has_zone) (file_need super.kind blocks + count_fresh made.promised)
      (rises_range left super.first (super.zones - super.first) (super.first + (super.zones - super.first)) (omega arith)))

  free_zone : (i : ℕ) → i < length choice.zones → IsFreeZone super parts taken (slice_index choice.zones i)
  free_zone i inside =
      let one = rises_at left super.first (super.first + (super.zones - super.first)) choice.zones i rises inside in
      let both = left_both (parts.has_zone (slice_index choice.zones i)) (taken.has_zone (slice_index choice.zones i)) one.passes in
      record { from = one.from; below = omega (arith, one.from, one.below); unmarked = both.0; left = both.1 }

  pub many : length choice.zones ≡ file_need super.kind blocks + count_fresh made.promised
  many = ap length made.zones ∙ length_take (file_need super.kind blocks + count_fresh made.promised) (left_zones super parts taken.has_zone) made.enough

  growth_is : choice.growth ≡ completed made.promised (drop (file_need super.kind blocks) choice.zones)
  unfolding choice_with
  growth_is = ap (λ (c : Choice). c.growth) made.is

  -- where the directory doesn't grow none was promised
  pub none_promised : choice.growth ≡ [] → length made.promised ≡ 0
  none_promised none = sym (completed_length made.promised (drop (file_need super.kind blocks) choice.zones)) ∙ (ap length (sym growth_is) ∙ ap length none)

  pub free_choice : 0 < super.first → IsFreeChoice super parts taken wish choice
  unfolding free_inode choice_with
  free_choice first =
      let inode = find_range (is_left parts.has_inode taken.has_inode) 1 super.inodes choice.inode made.inode in
      let both = left_both (parts.has_inode choice.inode) (taken.has_inode choice.inode) inode.passes in
      record {
        short = (passes_name super parts taken wish.directory wish.name made.entries made.named).short;
        some = inode.from;
        there = omega (arith, inode.below);
        unmarked = both.0;
        left = both.1;
        rising = are_rising left super.first (super.first + (super.zones - super.first)) choice.zones first rises;
        free = free_zone;
        enough = omega (arith, many);
        file = ap file_of made.is;
        no_more = λ none. many ∙ (let e = none_fresh made.promised (none_promised none) in omega (arith, e));
      }

pub choice_law : ChoiceLaw
choice_law super parts taken wish choice first is = free_choice super parts taken wish choice (made_by super parts taken wish choice is) first

-- ---- the file

holes_length : (holes : List ℕ) (made : List Bool) → length (without_holes holes made) ≡ length made
holes_length [] made = refl
holes_length (hole ∷ holes) made = holes_length holes (slice_set made hole false) ∙ length-set made hole false

pub blocks_length : (size : ℕ) (holes : List ℕ) → length (data_blocks size holes) ≡ blocks_for size
unfolding data_blocks
blocks_length size holes = holes_length holes (replicate (blocks_for size) true) ∙ length-replicate (blocks_for size) true

pub file_law : FileLaw
file_law super parts taken wish choice first reached is =
    let free = choice_law super parts taken wish choice first is in
    let long = blocks_length wish.length wish.holes in
    subst (MayBeFile super.kind) (sym free.file)
    (chosen_law super.kind (data_blocks wish.length wish.holes) choice.zones (omega (arith, long, reached)) free.enough free.rising)
