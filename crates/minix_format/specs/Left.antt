-- What a stop leaves while an image is made of another (a rule of this project's own).
use Rattle.std.specs.Prelude.{◌≡◌, ◌⊎◌, ℕ, Option, None, Some}
use Rattle.disk_trait.specs.Past.{Past}
use Rattle.disk_trait.specs.Moments.{MayLeave}
use Rattle.lilo_model.specs.Disks.{Image}

-- each sector of an image holds what it held, or what the image has there that is to be made, where there is one
abbrev pub IsPartlyMade : Option Image → Image → Image → Type 0
IsPartlyMade None old c = c ≡ old
IsPartlyMade (Some made) old c = (d s : ℕ) → (c d s ≡ old d s) ⊎ (c d s ≡ made d s)

-- so it is of an image that a stop might have left before
abbrev pub LeftOrPartlyMade : Option Past → (Image → Option Image) → Image → Type 0
LeftOrPartlyMade past make c = (b : Image) × MayLeave past b × IsPartlyMade (make b) b c
