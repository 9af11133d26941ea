-- What waste is, and what freeing it leaves.
use Rattle.std.specs.Prelude.{◌≡◌, List, All, Ok}
use Rattle.lilo_model.specs.Clear.{Clear}
use Rattle.lilo_model.specs.Disks.{Image, Machine, Span}
use Rattle.lilo_model.specs.Mapped.{mapped_sectors}
use Rattle.lilo_model.specs.MinixLayout.{Super}
use Rattle.lilo_model.specs.MinixNames.{IsSound}
use Rattle.lilo_model.specs.MinixParts.{Parts, Volume}
use Rattle.lilo_model.specs.MinixSurvey.{Met, survey}
use Rattle.ldisk_model.specs.Waste.{AreWaste, IsReclaiming}
use Rattle.minix_sound_laws.specs.Laws.{HasNumbers}
use Rattle.minix_reclaim.specs.Cleared.{IsOffBitmaps, HasCleared}

-- where a survey is Ok, what it met says which zones and inodes are waste
abbrev pub WasteLaw : Type 0
WasteLaw = (super : Super) (parts : Parts) (met : List Met) → HasNumbers super parts → survey super parts ≡ Ok met → AreWaste super parts met

-- where bits of waste alone are clear that weren't, the volume is sound, with the same Names, and each bit is as before or
-- clear where it is that of waste
abbrev pub ReclaimingLaw : Type 0
ReclaimingLaw = (volume : Volume) (old image : Image) → IsSound volume old → HasCleared volume old image → IsReclaiming volume old image

-- where the map of a boot sector is clear, none of the sectors that a boot may look at is one of the bitmaps
abbrev pub ClearLaw : Type 0
ClearLaw =
    (volume : Volume) (image : Image) (machine : Machine) (boot : Span) → IsSound volume image → Clear volume image machine boot
    → All (λ place. IsOffBitmaps volume place.disk place.sector) (mapped_sectors image machine boot)
