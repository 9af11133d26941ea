-- The bytes of a sector with a bitmap bit, as they were read.
use Rattle.std.proofs.Common.{◌≡◌, ℕ, Bool, List}
use Rattle.disk_trait.specs.declared.disks.Disks.{Ghosts}
use Rattle.disk_trait.specs.Past.{Told}
use Rattle.disk_trait.specs.Moments.{IsTold}
use Rattle.disk_trait.proofs.MomentLemmas.{told_now}
use Rattle.lilo_model.specs.MinixParts.{sector_of, with_bit}
use Rattle.minix_zones.specs.declared.volume.Volume.{Volume}
use Rattle.minix_zones.specs.Volume.{volume_view, past_of}
use Rattle.minix_steps.specs.Mark.{remarked}

-- what was read, where it is known
pub read_bytes : {D : Type 0} {disks : Ghosts D} (old : Volume D disks) (sector at : ℕ) (value : Bool) (read : List ℕ)
    → Told (past_of old) (λ now. read ≡ with_bit (sector_of (volume_view old) now sector) at value) → IsTold (past_of old) → read ≡ remarked old sector at value
read_bytes old sector at value read holds told =
    told_now (past_of old) (λ now. read ≡ with_bit (sector_of (volume_view old) now sector) at value) holds told
