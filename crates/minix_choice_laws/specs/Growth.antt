-- What holds of the zones that are chosen for a directory's growth (a rule of this project's own).
use Rattle.std.specs.Prelude.{◌≡◌, ◌≢◌, ◌≤◌, ◌<◌, ◌/◌, ℕ, true, false, length, slice_index, Ok}
use Rattle.std.specs.List.{Contains}
use Rattle.lilo_model.specs.MinixEntries.{entries_per_block}
use Rattle.lilo_model.specs.MinixLayout.{Kind, Super, numbers_in_zone}
use Rattle.lilo_model.specs.MinixParts.{Parts}
use Rattle.minix_choice_laws.specs.Choice.{file_of}
use Rattle.minix_choice_laws.specs.Sources.{Source, zone_from}
use Rattle.write_model.specs.Choice.{Choice, choose, taken_with}
use Rattle.write_model.specs.Growth.{first_beside}
use Rattle.write_model.specs.Wish.{Wish, Taken, Promise}

-- a data zone that isn't marked, and was promised
pub record IsPromisedZone (super : Super) (parts : Parts) (taken : Taken) (zone : ℕ) : Type 0 where
  pub from : super.first ≤ zone
  pub below : zone < super.zones
  pub unmarked : parts.has_zone zone ≡ false
  pub taken_is : taken.has_zone zone ≡ true

-- a level of one promise's way and one of another's are the same: in one directory, and leading to the same blocks
pub record IsSameStep (kind : Kind) (one other : Promise) (level there : ℕ) : Type 0 where
  pub directory : one.directory ≡ other.directory
  pub at : level ≡ there
  pub blocks : first_beside (numbers_in_zone kind) (one.place / entries_per_block kind) level
      ≡ first_beside (numbers_in_zone kind) (other.place / entries_per_block kind) there

-- What was promised to files on a volume, of which none was made yet: their zones of growth are free, and one that was
-- promised to several files is that of the same step for each.
pub record ArePromised (super : Super) (parts : Parts) (taken : Taken) : Type 0 where
  pub zones : (promise : Promise) (level : ℕ) → Contains taken.promises promise → level < length promise.growth
      → IsPromisedZone super parts taken (slice_index promise.growth level)
  pub steps : (one other : Promise) (level there : ℕ) → Contains taken.promises one → Contains taken.promises other
      → level < length one.growth → there < length other.growth → slice_index one.growth level ≡ slice_index other.growth there
      → IsSameStep super.kind one other level there

-- the zones by which the directory grows are free data zones, each another one, and none of the file's
pub record IsFreeGrowth (super : Super) (parts : Parts) (choice : Choice) : Type 0 where
  pub from : (level : ℕ) → level < length choice.growth → super.first ≤ slice_index choice.growth level
  pub below : (level : ℕ) → level < length choice.growth → slice_index choice.growth level < super.zones
  pub unmarked : (level : ℕ) → level < length choice.growth → parts.has_zone (slice_index choice.growth level) ≡ false
  pub apart : (level other : ℕ) → level < other → other < length choice.growth → slice_index choice.growth other ≢ slice_index choice.growth level
  pub clear : (source : Source) (level : ℕ) → zone_from (file_of choice) source ≢ 0 → level < length choice.growth
      → slice_index choice.growth level ≢ zone_from (file_of choice) source

-- so it is where what was promised before is so
abbrev pub FreeGrowthLaw : Type 0
FreeGrowthLaw =
    (super : Super) (parts : Parts) (taken : Taken) (wish : Wish) (choice : Choice)
    → 0 < super.first → ArePromised super parts taken → choose super parts taken wish ≡ Ok choice → IsFreeGrowth super parts choice

-- and what is promised then is so too
abbrev pub PromisesLaw : Type 0
PromisesLaw =
    (super : Super) (parts : Parts) (taken : Taken) (wish : Wish) (choice : Choice)
    → 0 < super.first → ArePromised super parts taken → choose super parts taken wish ≡ Ok choice
    → ArePromised super parts (taken_with taken wish.directory choice)
