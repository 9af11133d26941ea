-- The zones of a volume in which sectors that were met lie.
use Rattle.std.specs.Prelude.{◌≡◌, ℕ, ◌||◌, List}
use Rattle.lilo_model.specs.Disks.{DiskSector}
use Rattle.lilo_model.specs.MinixParts.{Volume}
use Rattle.lilo_model.specs.Section.{Listing}
use Rattle.lilo_model.specs.Mapped.{listing_places}
use Rattle.minix_steps.specs.Numbers.{has_number}
use Rattle.install_laws.specs.InstallVerdict.{is_of_places}

-- a volume, and zones of it
pub record Met : Type 0 where
  pub volume : Volume
  pub zones : List ℕ

-- some sectors were met: the zones are those from before and those in which one of these lies
pub record Meets (old new : Met) (places : List DiskSector) : Type 0 where
  pub volume : new.volume ≡ old.volume
  pub zones : (zone : ℕ) → has_number new.zones zone ≡ (has_number old.zones zone || is_of_places old.volume places zone)

-- all sectors of a listing were
abbrev pub MeetsListing : Met → Met → Listing → Type 0
MeetsListing old new listing = Meets old new (listing_places listing)
