-- The bitmap bits that a creation sets are those of what was chosen, and each zone that was chosen is one of the file's, or of
-- those by which its directory grows; a removal sets none.
use Rattle.std.proofs.Common.{◌≡◌, ◌≢◌, ◌≤◌, ◌<◌, ◌+◌, ◌-◌, ◌/◌, ◌==◌, ◌||◌, ◌⊎◌, ℕ, zero, suc, Bool, true, false, List, [], ◌∷◌, length, take, drop, map, get_or, Option, Some, None, refl, sym, ◌∙◌, ap, subst, inl, inr, ⊎_elim, arith, eq-eqb, Ok}
use Rattle.std.specs.Prelude.{slice_index}
use Rattle.std.specs.List.{list_any}
use Rattle.std.proofs.lemmas.Bool.{cases_lt, cases_eq, eqb-true}
use Rattle.std.proofs.lemmas.List.{get_or-drop, length-drop}
use Rattle.disk_trait.specs.Past.{Image}
use Rattle.std.proofs.lemmas.List.FromFn.{length-map-range_with_len}
use Rattle.lilo_model.specs.MinixEntries.{entries_per_block}
use Rattle.lilo_model.specs.MinixLayout.{Super, numbers_in_zone}
use Rattle.lilo_model.specs.MinixNames.{PointsTo}
use Rattle.lilo_model.specs.MinixParts as model
use Rattle.lilo_model.specs.MinixParts.{Parts, Pointer, parts_of}
use Rattle.minix_choice_laws.proofs.Choose.{IsMadeOf, made_by, many}
use Rattle.minix_choice_laws.proofs.Given.{given_at}
use Rattle.minix_choice_laws.specs.Choice.{file_of}
use Rattle.minix_choice_laws.specs.Sources.{Block, Indirect, FileZones}
use Rattle.minix_grow.specs.Way.{depth_of, number_above}
use Rattle.minix_remove.specs.Removed.{RemovesFile, LowersLinks, FreesInode}
use Rattle.minix_steps.specs.Numbers.{has_number}
use Rattle.write_model.specs.Choice.{Choice, choose, choice_with, file_need}
use Rattle.write_model.specs.FileZones.{count_made, data_blocks, made_indirect}
use Rattle.write_model.specs.Growth.{promised_zone, count_fresh, completed}
use Rattle.write_model.specs.Wish.{Wish}
use Rattle.ldisk_model.specs.FileVerdict.{nothing_taken}
use Rattle.minix_choice.specs.View.{wish_view}
use Rattle.minix_choice.specs.declared.wish.Wish as declared
use Rattle.minix_create.specs.declared.chosen.Chosen.{Chosen}
use Rattle.ldisk_files.specs.Made.{GivesChoice, GivesEach, LacksGrowth}
use Rattle.ldisk_files.proofs.GrowthLemmas.{lowest-missing}
use Rattle.ldisk_files.specs.Marks.{MarksNoMore}

-- ---- a number of some

any-at : (numbers : List ℕ) (n : ℕ) → list_any (λ other. n == other) numbers ≡ true → (i : ℕ) × (i < length numbers) × (slice_index numbers i ≡ n)
any-at [] n has = absurd (let no : false ≡ true = has in cc)
any-at (first ∷ rest) n has = by (any-at rest n) (n == first) refl has
  where
    by : (list_any (λ other. n == other) rest ≡ true → (i : ℕ) × (i < length rest) × (slice_index rest i ≡ n))
        → (test : Bool) → (n == first) ≡ test → (test || list_any (λ other. n == other) rest) ≡ true → (i : ℕ) × (i < length (first ∷ rest)) × (slice_index (first ∷ rest) i ≡ n)
    by more true e is = (0, omega arith, sym (eqb-true n first e))
    by more false e is = let later = more is in let low = later.1 in (suc later.0, omega (arith, low), later.2)

pub in-at : (numbers : List ℕ) (n : ℕ) → has_number numbers n ≡ true → (i : ℕ) × (i < length numbers) × (slice_index numbers i ≡ n)
unfolding has_number
in-at numbers n has = any-at numbers n has

none-at : (numbers : List ℕ) (n : ℕ) → list_any (λ other. n == other) numbers ≡ false → (at : ℕ) → at < length numbers → slice_index numbers at ≢ n
none-at [] n none at low = absurd (omega (arith, low))
none-at (first ∷ rest) n none at low = by (none-at rest n) (n == first) refl none at low
  where
    by : (list_any (λ other. n == other) rest ≡ false → (at : ℕ) → at < length rest → slice_index rest at ≢ n)
        → (test : Bool) → (n == first) ≡ test → (test || list_any (λ other. n == other) rest) ≡ false → (at : ℕ) → at < length (first ∷ rest) → slice_index (first ∷ rest) at ≢ n
    by more true e is at low = absurd (let differ : true ≡ false = is in cc)
    by more false e is zero low = λ same. let here = eq-eqb n first (sym same) in let differ : false ≡ true = sym e ∙ here in cc
    by more false e is (suc at) low = more is at (omega (arith, low))

pub not-at : (numbers : List ℕ) (n : ℕ) → has_number numbers n ≡ false → (at : ℕ) → at < length numbers → slice_index numbers at ≢ n
unfolding has_number
not-at numbers n none = none-at numbers n none

-- ---- what is made, by how many are before it

nth-made : (made : List Bool) (i : ℕ) → i < count_made made → (index : ℕ) × (get_or made index false ≡ true) × (count_made (take index made) ≡ i)
nth-made [] i low = absurd (omega (arith, low))
nth-made (false ∷ made) i low = let later = nth-made made i low in (suc later.0, later.1, later.2)
nth-made (true ∷ made) zero low = (0, refl, refl)
nth-made (true ∷ made) (suc i) low = let later = nth-made made i (omega (arith, low)) in (suc later.0, later.1, ap suc later.2)

-- ---- nothing was promised

map-none : (f : ℕ → Option ℕ) → ((n : ℕ) → f n ≡ None) → (ns : List ℕ) (k : ℕ) → get_or (map f ns) k None ≡ None
map-none f none [] k = refl
map-none f none (n ∷ ns) zero = none n
map-none f none (n ∷ ns) (suc k) = map-none f none ns k

all-fresh : (promised : List (Option ℕ)) → ((k : ℕ) → get_or promised k None ≡ None) → count_fresh promised ≡ length promised
all-fresh [] none = refl
all-fresh (Some one ∷ promised) none = absurd (let no : Some one ≡ None = none 0 in cc)
all-fresh (None ∷ promised) none = ap suc (all-fresh promised (λ k. none (suc k)))

fresh-completed : (promised : List (Option ℕ)) (zones : List ℕ) → ((k : ℕ) → get_or promised k None ≡ None) → length zones ≡ count_fresh promised → completed promised zones ≡ zones
fresh-completed [] [] none same = refl
fresh-completed [] (zone ∷ zones) none same = absurd (omega (arith, same))
fresh-completed (Some one ∷ promised) zones none same = absurd (let no : Some one ≡ None = none 0 in cc)
fresh-completed (None ∷ promised) [] none same = absurd (omega (arith, same))
fresh-completed (None ∷ promised) (zone ∷ zones) none same = ap (λ (rest : List ℕ). zone ∷ rest) (fresh-completed promised zones (λ k. none (suc k)) (omega (arith, same)))

-- ---- each zone that was chosen is used

module _ (super : Super) (parts : Parts) (wish : Wish) (choice : Choice) (is : choose super parts nothing_taken wish ≡ Ok choice) where
  made-of : IsMadeOf super parts nothing_taken wish.directory wish.name (data_blocks wish.length wish.holes) choice
  made-of = made_by super parts nothing_taken wish choice is

  abbrev Made : List Bool
  Made = data_blocks wish.length wish.holes

  abbrev Above : List Bool
  Above = made_indirect (numbers_in_zone super.kind) Made

  abbrev Need : ℕ
  Need = count_made Made + count_made Above

  need-is : file_need super.kind Made ≡ Need
  unfolding file_need
  need-is = refl

  long : length choice.zones ≡ Need + count_fresh made-of.promised
  long = many super parts nothing_taken wish choice made-of ∙ ap (λ (n : ℕ). n + count_fresh made-of.promised) need-is

  none-promised : (k : ℕ) → get_or made-of.promised k None ≡ None
  unfolding promised_zone
  none-promised k = subst (λ (all : List (Option ℕ)). get_or all k None ≡ None) (sym made-of.are_promised) (map-none _ (λ n. refl) _ k)

  growth-is : choice.growth ≡ drop Need choice.zones
  unfolding choice_with
  growth-is =
      let left = length-drop Need choice.zones in
      ap (λ (c : Choice). c.growth) made-of.is
      ∙ (ap (λ (n : ℕ). completed made-of.promised (drop n choice.zones)) need-is
      ∙ fresh-completed made-of.promised (drop Need choice.zones) none-promised (omega (arith, left, long)))

  abbrev PlaceBlock : ℕ
  PlaceBlock = choice.place / entries_per_block super.kind

  -- each zone of growth is missing
  pub growth-missing : (level : ℕ) → level < length choice.growth → (level ≤ depth_of super.kind PlaceBlock) × (number_above super parts wish.directory PlaceBlock level ≡ 0)
  growth-missing level low =
      let left = length-drop Need choice.zones in
      let grow : length choice.growth ≡ length (drop Need choice.zones) = ap length growth-is in
      let fresh : count_fresh made-of.promised ≡ length made-of.promised = all-fresh made-of.promised none-promised in
      let many-promised : length made-of.promised ≡ made-of.count = ap length made-of.are_promised ∙ length-map-range_with_len _ 0 made-of.count in
      lowest-missing super parts wish.directory PlaceBlock made-of.count made-of.missing level (omega (arith, low, grow, left, long, fresh, many-promised))

  files-are : file_of choice ≡ file_of (choice_with super.kind Made choice.inode choice.place made-of.promised choice.zones)
  files-are = ap file_of made-of.is

  of-block : (i : ℕ) → i < count_made Made → (index : ℕ) × (slice_index choice.blocks index ≡ slice_index choice.zones i)
  unfolding choice_with
  of-block i low =
      let at = nth-made Made i low in
      (at.0, ap (λ (zones : FileZones). slice_index zones.blocks at.0) files-are ∙ (given_at Made choice.zones at.0 at.1 ∙ ap (slice_index choice.zones) at.2))

  of-indirect : (j : ℕ) → j < count_made Above → (place : ℕ) × (slice_index choice.indirect place ≡ slice_index choice.zones (count_made Made + j))
  unfolding choice_with
  of-indirect j low =
      let at = nth-made Above j low in (
        at.0,
        ap (λ (zones : FileZones). slice_index zones.indirect at.0) files-are
            ∙ (given_at Above (drop (count_made Made) choice.zones) at.0 at.1
            ∙ (ap (slice_index (drop (count_made Made) choice.zones)) at.2 ∙ get_or-drop (count_made Made) choice.zones j 0)),
      )

  of-growth : (i : ℕ) → i < length choice.zones → Need ≤ i → (level : ℕ) × (level < length choice.growth) × (slice_index choice.growth level ≡ slice_index choice.zones i)
  of-growth i low past =
      let left = length-drop Need choice.zones in
      let many-grow : length choice.growth ≡ length (drop Need choice.zones) = ap length growth-is in (
        i - Need,
        omega (arith, left, many-grow, low, past),
        ap (λ (zones : List ℕ). slice_index zones (i - Need)) growth-is
            ∙ (get_or-drop Need choice.zones (i - Need) 0 ∙ ap (slice_index choice.zones) (let e : Need + (i - Need) ≡ i = omega (arith, past) in e)),
      )

  pub each-used : GivesEach choice
  each-used i low = ⊎_elim
      (λ (first : i < count_made Made). let at = of-block i first in inl (Block at.0, at.1))
      (λ (past : count_made Made ≤ i). ⊎_elim
      (λ (second : i < Need).
      let at = of-indirect (i - count_made Made) (omega (arith, past, second)) in
      inl (Indirect at.0, at.1 ∙ ap (slice_index choice.zones) (let e : count_made Made + (i - count_made Made) ≡ i = omega (arith, past) in e)))
      (λ (more : Need ≤ i). inr (of-growth i low more))
      (cases_lt i Need))
      (cases_lt i (count_made Made))

pub each-given : (volume : model.Volume) (image : Image) (wish : declared.Wish) (chosen : Chosen) → GivesChoice volume image wish (Ok chosen) → GivesEach chosen.choice
unfolding choose
each-given volume image wish chosen choice = each-used volume.layout (parts_of volume image) (wish_view wish) chosen.choice choice

pub growth-lacked : (volume : model.Volume) (image : Image) (wish : declared.Wish) (chosen : Chosen) → GivesChoice volume image wish (Ok chosen) → chosen.directory ≡ wish.directory
    → LacksGrowth volume image chosen
unfolding choose
growth-lacked volume image wish chosen choice in_it level low =
    let it = growth-missing volume.layout (parts_of volume image) (wish_view wish) chosen.choice choice level low in
    (it.0, subst (λ (d : ℕ). number_above volume.layout (parts_of volume image) d (chosen.choice.place / entries_per_block volume.layout.kind) level ≡ 0) (sym in_it) it.1)

-- ---- a removal

no-mark : (marked : Bool) → (marked ≡ true → ⊥) → marked ≡ false
no-mark true never = absurd (never refl)
no-mark false never = refl

module _ (volume : model.Volume) (old image : Image) (directory number : ℕ) (removes : RemovesFile volume.layout (parts_of volume old) (parts_of volume image) directory number) where
  abbrev Old : Parts
  Old = parts_of volume old

  abbrev New : Parts
  New = parts_of volume image

  lowered-clear : LowersLinks volume.layout Old New number → MarksNoMore volume old image
  lowered-clear it = record {
    inodes = λ other is clear. it.marks other is ∙ clear;
    zones = λ zone is clear. it.zone_marks zone is ∙ clear;
  }

  freed-clear : FreesInode volume.layout Old New number → MarksNoMore volume old image
  freed-clear it = record {
    inodes = λ other is clear. ⊎_elim
        (λ same. ap New.has_inode same ∙ it.mark)
        (λ apart. it.other_marks other is apart ∙ clear)
        (cases_eq other number);
    zones = λ zone is clear. no-mark (New.has_zone zone) (λ set.
        let apart : (at : Pointer) → PointsTo volume.layout Old number at zone → ⊥ = λ at to. let no : true ≡ false = sym set ∙ it.zone_marks at zone to in cc in
        let same = it.other_zone_marks zone is apart in
        let no : true ≡ false = sym set ∙ (same ∙ clear) in cc);
  }

  pub removed-clear : MarksNoMore volume old image
  removed-clear = ⊎_elim
      (λ (many-links : 1 < (Old.node number).links). lowered-clear (removes.lowered many-links))
      (λ (few : (Old.node number).links ≤ 1). freed-clear (removes.freed few))
      (cases_lt 1 (Old.node number).links)
