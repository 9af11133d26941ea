-- A directory's inode and the zone with a place are found on a sound volume, unless the disk fails.
use Rattle.std.proofs.Common.{◌≡◌, ◌≤◌, ◌/◌, ℕ, Result, Ok, Err, refl, sym, ap, ◌∙◌, subst, arith}
use Rattle.disk_trait.specs.declared.disks.Disks.{Ghosts}
use Rattle.disk_trait.specs.Past.{Image, Told}
use Rattle.disk_trait.specs.Moments.{IsTold, now}
use Rattle.disk_trait.proofs.MomentLemmas.{told_now}
use Rattle.lilo_model.specs.Faults.{Rose}
use Rattle.lilo_model.specs.MinixEntries.{entries_per_block}
use Rattle.lilo_model.specs.MinixFind as TreeFaults
use Rattle.lilo_model.specs.MinixFind.{readable}
use Rattle.lilo_model.specs.MinixLayout.{reach}
use Rattle.lilo_model.specs.MinixLayout as layout
use Rattle.lilo_model.specs.MinixNames.{Named, IsSound}
use Rattle.lilo_model.specs.MinixParts as model
use Rattle.lilo_model.specs.MinixParts.{Parts, zone_at}
use Rattle.minix_change_laws.specs.Only.{zone_of_entry}
use Rattle.minix_laws.proofs.Inside.{sound_law}
use Rattle.minix_layout.specs.View.{kind_view, super_view, inode_view}
use Rattle.minix_layout.specs.declared.inode.Inode.{Inode}
use Rattle.minix_change_laws.proofs.Inode.{directory-zones}
use Rattle.minix_change_laws.proofs.Seen.{opened}
use Rattle.minix_steps.specs.Written.{parts_now}
use Rattle.minix_tree.specs.View as trees
use Rattle.minix_tree.specs.declared.tree_fault.TreeFault.{TreeFault}
use Rattle.minix_tree.specs.declared.tree_fault.TreeFault.TheVariants as treefaults
use Rattle.minix_choice.specs.View.{zone_refusal, tree_refusal}
use Rattle.minix_choice.specs.declared.write_fault.WriteFault.{WriteFault}
use Rattle.minix_choice.specs.declared.write_fault.WriteFault.TheVariants.{Device}
use Rattle.minix_zones.specs.View as zones
use Rattle.minix_zones.specs.Volume.{volume_view, past_of}
use Rattle.minix_zones.specs.declared.volume.Volume.{Volume}
use Rattle.minix_zones.specs.declared.zone_fault.ZoneFault.{ZoneFault}
use Rattle.minix_zones.specs.declared.zone_fault.ZoneFault.TheVariants as faults
use Rattle.minix_create.specs.Brought.{IsInDirectory, GivesPlace}
use Rattle.minix_create.specs.declared.place_at.PlaceAt.{PlaceAt}

-- ---- refusals of what isn't refused

zone_device : {B : Type 0} (fault : ZoneFault) (value : B) → zones.Refuses fault (Ok value) → zone_refusal fault ≡ Device
zone_device (faults.Layout fault) value refused = absurd (cc)
zone_device (faults.ZoneOutside zone) value refused = absurd (cc)
zone_device faults.Device value refused = refl

tree_device : {B : Type 0} (before after : ℕ) (fault : TreeFault) (value : B) → trees.Refuses fault (Ok value) → trees.HasTreeCause before after fault → (tree_refusal fault ≡ Device) × Rose before after
tree_device before after (treefaults.NotFound position) value refused cause = absurd (cc)
tree_device before after (treefaults.NotDirectory position) value refused cause = absurd (cc)
tree_device before after treefaults.NotFile value refused cause = absurd (cc)
tree_device before after treefaults.TooManyLinks value refused cause = absurd (cc)
tree_device before after (treefaults.BadEntry directory) value refused cause = absurd (cc)
tree_device before after treefaults.PathTooLong value refused cause = absurd (cc)
tree_device before after (treefaults.Zone (faults.Layout fault)) value refused cause = absurd (cc)
tree_device before after (treefaults.Zone (faults.ZoneOutside zone)) value refused cause = absurd (cc)
tree_device before after (treefaults.Zone faults.Device) value refused cause = (refl, cause)
tree_device before after treefaults.Memory value refused cause = absurd cause

-- ---- on a sound volume

-- an inode with a name is read
module _ {D : Type 0} {disks : Ghosts D} (volume : Volume D disks) (number : ℕ) (sound : IsSound (volume_view volume) (now (past_of volume))) (named : Named (super_view volume.layout) (parts_now volume) number) where
  can_read : readable (super_view volume.layout) (parts_now volume) number ≡ Ok number
  can_read = rw ((opened (volume_view volume) (now (past_of volume)) sound).parts.size number named) refl

  pub inode_refused : (before after : ℕ) (fault : TreeFault) → Told (past_of volume) (λ image. trees.Refuses fault (readable (super_view volume.layout) (model.parts_of (volume_view volume) image) number))
      → trees.HasTreeCause before after fault → IsTold (past_of volume) → (tree_refusal fault ≡ Device) × Rose before after
  inode_refused before after fault refused cause told =
      let R : Image → Type 0 = λ image. trees.Refuses fault (readable (super_view volume.layout) (model.parts_of (volume_view volume) image) number) in
      let S : Result ℕ TreeFaults.TreeFault → Type 0 = λ found. trees.Refuses fault found in
      tree_device before after fault number (subst S can_read (told_now (past_of volume) R refused told)) cause

module _ {D : Type 0} {disks : Ghosts D} (volume : Volume D disks) (directory place : ℕ) where
  abbrev View : model.Volume
  View = volume_view volume

  abbrev Is : Parts
  Is = model.parts_of (volume_view volume) (now (past_of volume))

  module _ (has : IsInDirectory volume directory place) where
    zone_there : zone_at (super_view volume.layout) Is (Is.node directory) (place / entries_per_block (kind_view volume.layout.kind)) ≡ Ok (zone_of_entry (super_view volume.layout) Is directory place)
    zone_there = (sound_law (super_view volume.layout) Is directory (opened View (now (past_of volume)) has.sound).parts has.named (directory-zones Is directory has.is)).zone (place / entries_per_block (kind_view volume.layout.kind))

  pub no_inode : (before after : ℕ) (fault : TreeFault) → Told (past_of volume) (λ image. trees.Refuses fault (readable (super_view volume.layout) (model.parts_of (volume_view volume) image) directory))
      → trees.HasTreeCause before after fault → GivesPlace volume directory place (Err (tree_refusal fault))
  no_inode before after fault refused cause told has = (inode_refused volume directory has.sound has.named before after fault refused cause told).0

  pub too_far : reach (kind_view volume.layout.kind) ≤ place / entries_per_block (kind_view volume.layout.kind) → (result : Result PlaceAt WriteFault) → GivesPlace volume directory place result
  too_far far result told has = absurd (let n = has.near in omega (arith, n, far))

  module _ (node : Inode) (is : Told (past_of volume) (λ image. inode_view node ≡ (model.parts_of (volume_view volume) image).node directory)) where
    node_is : IsTold (past_of volume) → inode_view node ≡ Is.node directory
    node_is told = told_now (past_of volume) (λ image. inode_view node ≡ (model.parts_of (volume_view volume) image).node directory) is told

    abbrev Found : Image → Result ℕ model.ZoneFault
    Found image = zone_at (super_view volume.layout) (model.parts_of (volume_view volume) image) (inode_view node) (place / entries_per_block (kind_view volume.layout.kind))

    found_is : IsTold (past_of volume) → IsInDirectory volume directory place → Found (now (past_of volume)) ≡ Ok (zone_of_entry (super_view volume.layout) Is directory place)
    found_is told has =
        let Z : layout.Inode → Result ℕ model.ZoneFault = λ i. zone_at (super_view volume.layout) Is i (place / entries_per_block (kind_view volume.layout.kind)) in
        ap Z (node_is told) ∙ zone_there has

    pub no_zone : (fault : ZoneFault) → Told (past_of volume) (λ image. zones.Refuses fault (Found image)) → GivesPlace volume directory place (Err (zone_refusal fault))
    no_zone fault refused told has =
        let R : Image → Type 0 = λ image. zones.Refuses fault (Found image) in
        let S : Result ℕ model.ZoneFault → Type 0 = λ found. zones.Refuses fault found in
        zone_device fault (zone_of_entry (super_view volume.layout) Is directory place) (subst S (found_is told has) (told_now (past_of volume) R refused told))

    pub zone_found : (zone : ℕ) → Told (past_of volume) (λ image. Found image ≡ Ok zone) → GivesPlace volume directory place (Ok (record { node = node; zone = zone }))
    zone_found zone found told has =
        let F : Image → Type 0 = λ image. Found image ≡ Ok zone in
        let both : Ok (zone_of_entry (super_view volume.layout) Is directory place) ≡ Ok zone = sym (found_is told has) ∙ told_now (past_of volume) F found told in
        (node_is told, cc)
