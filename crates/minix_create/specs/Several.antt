-- Several files that are chosen on one image and made one after the other (a rule of this project's own).
use Rattle.std.specs.Prelude.{◌≡◌, ◌≢◌, ℕ, List, Ok}
use Rattle.disk_trait.specs.declared.disks.Disks.{Ghosts}
use Rattle.disk_trait.specs.Moments.{IsTold}
use Rattle.minix_choice_laws.specs.Apart.{IsHeld, AreApart}
use Rattle.minix_choice_laws.specs.Growth.{ArePromised}
use Rattle.minix_layout.specs.View.{kind_view, super_view}
use Rattle.minix_steps.specs.Written.{parts_now}
use Rattle.minix_zones.specs.Volume.{past_of}
use Rattle.minix_zones.specs.declared.volume.Volume.{Volume}
use Rattle.write_model.specs.Wish.{Taken}
use Rattle.minix_create.specs.Chosen.{Suits, IsFreeNow, MayLinkNow}
use Rattle.minix_create.specs.Linked.{Creates}
use Rattle.minix_create.specs.declared.chosen.Chosen.{Chosen}

-- ---- chosen in a row

-- a file's choice is taken
abbrev pub IsHeldIn : Taken → Chosen → Type 0
IsHeldIn taken chosen = IsHeld taken chosen.directory chosen.choice

-- the choices of two files have nothing in common but zones of growth of the same step
abbrev pub AreApartOn : {D : Type 0} {disks : Ghosts D} → Volume D disks → Chosen → Chosen → Type 0
AreApartOn volume one other = AreApart (kind_view volume.layout.kind) one.directory one.choice other.directory other.choice

-- With one file more what was promised is so still, the file is held, and so is each that was before, from which it is apart.
pub record PromisesMore {D : Type 0} {disks : Ghosts D} (volume : Volume D disks) (old new : Taken) (chosen : Chosen) : Type 0 where
  pub promised : ArePromised (super_view volume.layout) (parts_now volume) new
  pub held : IsHeldIn new chosen
  pub stays : (one : Chosen) → IsHeldIn old one → IsHeldIn new one
  pub apart : (one : Chosen) → IsHeldIn old one → AreApartOn volume one chosen

-- so it is where what was promised before is so
abbrev pub PromisesWhereFree : {D : Type 0} {disks : Ghosts D} → Volume D disks → Taken → Taken → Chosen → Type 0
PromisesWhereFree volume old new chosen =
    IsTold (past_of volume) → ArePromised (super_view volume.layout) (parts_now volume) old → PromisesMore volume old new chosen

-- ---- made in a row

-- since a volume was as it is here, a file was made, whose name might be made there
pub record WasMade {D : Type 0} {disks : Ghosts D} (start volume : Volume D disks) (chosen : Chosen) : Type 0 where
  pub outer : List (List ℕ)
  pub given : ℕ → List ℕ
  pub told : IsTold (past_of start)
  pub might : MayLinkNow start outer chosen
  pub creates : Creates start volume outer chosen given (Ok tt)

-- What was chosen for another file apart from it is free still: it suits the volume, and its name may be made where it might,
-- unless it is the same name of the same directory.
pub record IsLeftFree {D : Type 0} {disks : Ghosts D} (start volume : Volume D disks) (one other : Chosen) : Type 0 where
  pub suits : Suits volume.layout volume.span other
  pub free : IsFreeNow start other → IsFreeNow volume other
  pub name : (outer : List (List ℕ)) → MayLinkNow start outer other → (other.directory ≡ one.directory → other.name ≢ one.name) → MayLinkNow volume outer other
