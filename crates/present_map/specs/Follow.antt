-- How a section is followed (this project's own): a reader of it is run over what the disks hold.
use Rattle.std.specs.Prelude.{◌≡◌, ℕ, suc, Bool, true, false, List}
use Rattle.lilo_model.specs.Disks.{Image, Machine}
use Rattle.lilo_model.specs.Slots.{Slot}
use Rattle.lilo_model.specs.Section.{Listing}
use Rattle.map_section.specs.Reader.{ReaderState, fed, turns_left}
use Rattle.map_section.specs.Run.{run_reader}
use Rattle.sector_address.specs.View.{slot_view}
use Rattle.present_map.specs.Zones.{Met, MeetsListing}
use Rattle.present_map.specs.declared.follow.Following.{Following}

-- what is listed where a reader is
unfoldable pub listed_ahead : Image → Machine → Slot → ReaderState → Listing
listed_ahead image machine first state = run_reader image machine first (suc (turns_left state)) state.needed state

-- Some of a listing was met. Where that goes on, all of it is once what is listed after it is; else all of it was.
abbrev pub MeetsOn : Bool → Met → Met → Listing → Listing → Type 0
MeetsOn true old new behind whole = (end : Met) → MeetsListing new end behind → MeetsListing old end whole
MeetsOn false old new behind whole = MeetsListing old new whole

-- what is still to be met of a section
abbrev pub ahead_of : Image → Machine → Following → Listing
ahead_of image machine following = listed_ahead image machine (slot_view following.first) following.reader

-- a reader was fed a section sector
abbrev pub IsFed : ReaderState → ReaderState → Type 0
IsFed old new = (bytes : List ℕ) × (new ≡ fed old bytes)

-- as many sectors are wanted as the reader needs, and the first section sector has a slot of its own
pub record IsCounted (following : Following) : Type 0 where
  pub wanted : following.wanted ≡ following.reader.needed
  pub one : following.first.count ≡ 1
