-- Zones that are chosen for a directory's growth are enough for what is missing on the way to the place that is chosen.
use Rattle.std.specs.Prelude.{◌≡◌, ◌≤◌, ◌<◌, ◌/◌, ℕ, length, Ok}
use Rattle.lilo_model.specs.MinixEntries.{entries_per_block}
use Rattle.lilo_model.specs.MinixLayout.{Super}
use Rattle.lilo_model.specs.MinixParts.{Parts}
use Rattle.write_model.specs.Choice.{Choice, choose}
use Rattle.write_model.specs.Growth.{missing_on_way}
use Rattle.write_model.specs.Wish.{Wish, Taken}
use Rattle.minix_grow.specs.Way.{depth_of, number_above}

-- where a number on a way is 0 so many zones more are missing than there are levels below it
abbrev pub MissingLaw : Type 0
MissingLaw =
    (super : Super) (parts : Parts) (directory block missing level : ℕ) → missing_on_way super parts (parts.node directory) block ≡ Ok missing
    → level ≤ depth_of super.kind block → number_above super parts directory block level ≡ 0 → level < missing

-- as many zones are chosen for growth, or were promised before
abbrev pub GrowthLaw : Type 0
GrowthLaw =
    (super : Super) (parts : Parts) (taken : Taken) (wish : Wish) (choice : Choice) (level : ℕ) → choose super parts taken wish ≡ Ok choice
    → level ≤ depth_of super.kind (choice.place / entries_per_block super.kind)
    → number_above super parts wish.directory (choice.place / entries_per_block super.kind) level ≡ 0
    → level < length choice.growth
