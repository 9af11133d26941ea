-- Zones that are held, where disks report their past.
use Rattle.std.proofs.Common.{◌≡◌, ◌<◌, ℕ, List, length, All, Option, inl, inr, sym, ap, ◌∙◌, arith}
use Rattle.std.specs.Prelude.{slice_index_or}
use Rattle.std.proofs.Math.ListN.{set}
use Rattle.std.proofs.lemmas.List.Elements.{All-set}
use Rattle.disk_trait.specs.Past.{Past, Told}
use Rattle.disk_trait.specs.declared.disks.Disks.{Ghosts}
use Rattle.disk_trait.proofs.ToldLemmas.{told_map, told_both, told_all}
use Rattle.lilo_model.specs.MinixParts as model
use Rattle.lilo_model.specs.MinixParts.{Parts, parts_of}
use Rattle.minix_zones.specs.declared.held.HeldZone.{HeldZone}
use Rattle.minix_zones.specs.declared.held.HeldZones.{HeldZones}
use Rattle.minix_zones.specs.declared.volume.Volume.{Volume}
use Rattle.minix_zones.specs.Held.{HoldsZone, Holds, AreHeld}
use Rattle.minix_zones.specs.Volume.{volume_view, past_of}

bytes_of : (parts : Parts) (held : HeldZone) (zone : ℕ) → 0 < zone → held.zone ≡ zone → HoldsZone parts held → held.bytes ≡ parts.zone zone
bytes_of parts held zone some is (inl none) = absurd (omega (arith, none, is, some))
bytes_of parts held zone some is (inr same) = same ∙ ap parts.zone is

-- a zone that is held already has its bytes
pub held_bytes : (past : Option Past) (volume : model.Volume) (held : HeldZone) (zone : ℕ) → 0 < zone → held.zone ≡ zone
    → Told past (λ now. HoldsZone (parts_of volume now) held) → Told past (λ now. held.bytes ≡ (parts_of volume now).zone zone)
held_bytes past volume held zone some is holds =
    told_map past (λ now. HoldsZone (parts_of volume now) held) (λ now. held.bytes ≡ (parts_of volume now).zone zone)
    (λ now one. bytes_of (parts_of volume now) held zone some is one) holds

-- a zone that was read is held
pub read_held : (past : Option Past) (volume : model.Volume) (held : HeldZone) (zone : ℕ) → held.zone ≡ zone
    → Told past (λ now. held.bytes ≡ (parts_of volume now).zone zone) → Told past (λ now. HoldsZone (parts_of volume now) held)
read_held past volume held zone is read =
    told_map past (λ now. held.bytes ≡ (parts_of volume now).zone zone) (λ now. HoldsZone (parts_of volume now) held)
    (λ now bytes. inr (bytes ∙ ap (parts_of volume now).zone (sym is))) read

-- one of the zones that are held
pub held_at : (past : Option Past) (volume : model.Volume) (levels : List HeldZone) (level : ℕ) (other : HeldZone) → level < length levels
    → Told past (λ now. All (HoldsZone (parts_of volume now)) levels) → Told past (λ now. HoldsZone (parts_of volume now) (slice_index_or levels level other))
held_at past volume levels level other there all =
    told_map past (λ now. All (HoldsZone (parts_of volume now)) levels) (λ now. HoldsZone (parts_of volume now) (slice_index_or levels level other))
    (λ now each. each level other there) all

-- another zone is held at a level
pub held_set : (past : Option Past) (volume : model.Volume) (levels : List HeldZone) (level : ℕ) (held : HeldZone)
    → Told past (λ now. All (HoldsZone (parts_of volume now)) levels) → Told past (λ now. HoldsZone (parts_of volume now) held)
    → Told past (λ now. All (HoldsZone (parts_of volume now)) (set levels level held))
held_set past volume levels level held all one =
    told_both past (λ now. All (HoldsZone (parts_of volume now)) levels) (λ now. HoldsZone (parts_of volume now) held)
    (λ now. All (HoldsZone (parts_of volume now)) (set levels level held))
    (λ now others new. All-set (HoldsZone (parts_of volume now)) levels level held new others) all one

-- where none is held yet, all that is held is a volume's
pub none_held : {D : Type 0} {disks : Ghosts D} (volume : Volume D disks) (held : HeldZones) → ((parts : Parts) → Holds parts held) → AreHeld volume held
none_held volume held none = told_all (past_of volume) (λ now. Holds (parts_of (volume_view volume) now) held) (λ now. none (parts_of (volume_view volume) now))
