-- What is chosen for several files before any of them is made (a rule of this project's own).
use Rattle.std.specs.Prelude.{◌≡◌, ◌≢◌, ◌<◌, ℕ, true, length, slice_index, Ok}
use Rattle.std.specs.List.{Contains}
use Rattle.lilo_model.specs.MinixLayout.{Kind, Super}
use Rattle.lilo_model.specs.MinixParts.{Parts}
use Rattle.minix_choice_laws.specs.Choice.{file_of}
use Rattle.minix_choice_laws.specs.Growth.{IsSameStep, ArePromised}
use Rattle.minix_choice_laws.specs.Sources.{Source, zone_from}
use Rattle.write_model.specs.Choice.{Choice, choose, taken_with}
use Rattle.write_model.specs.Wish.{Wish, Taken, Promise}

-- what a choice in a directory promises
abbrev pub promise_of : ℕ → Choice → Promise
promise_of directory choice = record { directory = directory; place = choice.place; growth = choice.growth }

-- What was chosen for a file in a directory is taken: its inode, its zones and its place. No directory grows by a zone of the
-- file.
pub record IsHeld (taken : Taken) (directory : ℕ) (choice : Choice) : Type 0 where
  pub inode : taken.has_inode choice.inode ≡ true
  pub zones : (i : ℕ) → i < length choice.zones → taken.has_zone (slice_index choice.zones i) ≡ true
  pub promise : Contains taken.promises (promise_of directory choice)
  pub file : (source : Source) → zone_from (file_of choice) source ≢ 0 → taken.has_zone (zone_from (file_of choice) source) ≡ true
  pub clear : (promise : Promise) (source : Source) (level : ℕ) → Contains taken.promises promise → zone_from (file_of choice) source ≢ 0
      → level < length promise.growth → slice_index promise.growth level ≢ zone_from (file_of choice) source

-- Two choices, each in a directory, have no inode, no place and no zone in common, but for zones of growth: one that both
-- have is that of the same step of the way to both places.
pub record AreApart (kind : Kind) (first : ℕ) (one : Choice) (second : ℕ) (other : Choice) : Type 0 where
  pub inode : other.inode ≢ one.inode
  pub place : second ≡ first → other.place ≢ one.place
  pub zones : (i j : ℕ) → i < length other.zones → j < length one.zones → slice_index other.zones i ≢ slice_index one.zones j
  pub growth : (i level : ℕ) → i < length other.zones → level < length one.growth → slice_index other.zones i ≢ slice_index one.growth level
  pub file : (source : Source) (level : ℕ) → zone_from (file_of one) source ≢ 0 → level < length other.growth
      → slice_index other.growth level ≢ zone_from (file_of one) source
  pub steps : (level there : ℕ) → level < length other.growth → there < length one.growth → slice_index other.growth level ≡ slice_index one.growth there
      → IsSameStep kind (promise_of second other) (promise_of first one) level there

-- a choice is held once it is taken
abbrev pub HeldLaw : Type 0
HeldLaw =
    (super : Super) (parts : Parts) (taken : Taken) (wish : Wish) (choice : Choice)
    → 0 < super.first → ArePromised super parts taken → choose super parts taken wish ≡ Ok choice
    → IsHeld (taken_with taken wish.directory choice) wish.directory choice

-- and still is with one more
abbrev pub HeldStaysLaw : Type 0
HeldStaysLaw =
    (super : Super) (parts : Parts) (taken : Taken) (wish : Wish) (choice : Choice) (directory : ℕ) (one : Choice)
    → 0 < super.first → ArePromised super parts taken → choose super parts taken wish ≡ Ok choice
    → IsHeld taken directory one → IsHeld (taken_with taken wish.directory choice) directory one

-- what is chosen is apart from each choice that is held
abbrev pub ApartLaw : Type 0
ApartLaw =
    (super : Super) (parts : Parts) (taken : Taken) (wish : Wish) (choice : Choice) (directory : ℕ) (one : Choice)
    → 0 < super.first → ArePromised super parts taken → choose super parts taken wish ≡ Ok choice
    → IsHeld taken directory one → AreApart super.kind directory one wish.directory choice
