-- What a name in a directory of a sound volume leads to.
use Rattle.std.proofs.Common.{◌≡◌, ◌≢◌, ◌≤◌, ◌<◌, ◌/◌, ◌⊎◌, ℕ, Bool, true, false, List, Option, Some, None, Result, Ok, Err, refl, sym, ◌∙◌, ap, subst, inl, inr, arith}
use Rattle.disk_trait.specs.declared.disks.Disks.{Ghosts}
use Rattle.disk_trait.specs.Past.{Image, Past, Told}
use Rattle.disk_trait.specs.Moments.{IsTold, now}
use Rattle.disk_trait.proofs.MomentLemmas.{told_now}
use Rattle.lilo_model.specs.Checks.{with_fault}
use Rattle.lilo_model.specs.MinixEntries.{Entry, entry_with, entries_per_block, entry_at, find_entry, places}
use Rattle.lilo_model.specs.MinixFind as finds
use Rattle.lilo_model.specs.MinixFind.{readable}
use Rattle.lilo_model.specs.MinixLayout as layouts
use Rattle.lilo_model.specs.MinixLayout.{reach}
use Rattle.lilo_model.specs.MinixNames.{zone_number, entry, Named, IsSound}
use Rattle.lilo_model.specs.MinixParts as model
use Rattle.lilo_model.specs.MinixParts.{Parts, blocks_for, is_directory, parts_of, zone_at}
use Rattle.minix_change_laws.specs.Only.{zone_of_entry}
use Rattle.minix_change_laws.proofs.Holes.{hole_law}
use Rattle.minix_laws.specs.Plain.{IsGiven}
use Rattle.minix_laws.proofs.Inside.{sound_law}
use Rattle.minix_layout.specs.View.{kind_view, super_view, inode_view}
use Rattle.minix_layout.specs.declared.inode.Inode.{Inode}
use Rattle.minix_remove_laws.specs.Held.{held_name, is_removable, HoldsEntry}
use Rattle.minix_remove_laws.proofs.Held.{entry_named_law}
use Rattle.minix_steps.specs.Written.{parts_now}
use Rattle.minix_change_laws.proofs.Inode.{directory-zones}
use Rattle.minix_change_laws.proofs.Seen.{opened}
use Rattle.minix_tree.specs.View.{Refuses, HasTreeCause}
use Rattle.minix_tree.specs.declared.tree_fault.TreeFault.{TreeFault}
use Rattle.minix_tree.specs.declared.tree_fault.TreeFault.TheVariants as faults
use Rattle.minix_zones.specs.View as zones
use Rattle.minix_zones.specs.Volume.{volume_view, past_of, SameVolume}
use Rattle.minix_zones.proofs.SameLemmas.{same_view}
use Rattle.minix_zones.specs.declared.volume.Volume.{Volume}
use Rattle.minix_zones.specs.declared.zone_fault.ZoneFault.{ZoneFault}
use Rattle.minix_zones.specs.declared.zone_fault.ZoneFault.TheVariants as zonefaults
use Rattle.minix_remove.specs.Found.{IsEntryOf, Finds}
use Rattle.minix_remove.specs.Target.{IsDirectoryNow, refusal_of, FindsTarget, GivesTarget, FindsFile, GivesFile, IsUsedPlace, GivesZone}
use Rattle.minix_remove.specs.declared.find.Found.{Found}

-- ---- what isn't refused

-- what gave a value without memory is refused as the disk failed alone
pub only_device : {B : Type 0} (before after : ℕ) (fault : TreeFault) (value : B) → Refuses fault (Ok value) → HasTreeCause before after fault → fault ≡ faults.Zone zonefaults.Device
only_device before after (faults.NotFound position) value refused cause = absurd (cc)
only_device before after (faults.NotDirectory position) value refused cause = absurd (cc)
only_device before after faults.NotFile value refused cause = absurd (cc)
only_device before after faults.TooManyLinks value refused cause = absurd (cc)
only_device before after (faults.BadEntry directory) value refused cause = absurd (cc)
only_device before after faults.PathTooLong value refused cause = absurd (cc)
only_device before after (faults.Zone (zonefaults.Layout fault)) value refused cause = absurd (cc)
only_device before after (faults.Zone (zonefaults.ZoneOutside zone)) value refused cause = absurd (cc)
only_device before after (faults.Zone zonefaults.Device) value refused cause = refl
only_device before after faults.Memory value refused cause = absurd cause

only_zone_device : {B : Type 0} (fault : ZoneFault) (value : B) → zones.Refuses fault (Ok value) → fault ≡ zonefaults.Device
only_zone_device (zonefaults.Layout fault) value refused = absurd (cc)
only_zone_device (zonefaults.ZoneOutside zone) value refused = absurd (cc)
only_zone_device zonefaults.Device value refused = refl

-- ---- an inode with a name

module _ {D : Type 0} {disks : Ghosts D} (volume : Volume D disks) (number : ℕ) where
  abbrev Is : Parts
  Is = parts_of (volume_view volume) (now (past_of volume))

  pub can_read : IsSound (volume_view volume) (now (past_of volume)) → Named (super_view volume.layout) Is number → readable (super_view volume.layout) Is number ≡ Ok number
  can_read sound named = rw ((opened (volume_view volume) (now (past_of volume)) sound).parts.size number named) refl

  -- it is refused as the disk failed alone
  pub not_read : (before after : ℕ) (fault : TreeFault) → IsTold (past_of volume) → IsSound (volume_view volume) (now (past_of volume)) → Named (super_view volume.layout) Is number
      → Told (past_of volume) (λ image. Refuses fault (readable (super_view volume.layout) (parts_of (volume_view volume) image) number)) → HasTreeCause before after fault
      → fault ≡ faults.Zone zonefaults.Device
  not_read before after fault told sound named refused cause =
      let R : Image → Type 0 = λ image. Refuses fault (readable (super_view volume.layout) (parts_of (volume_view volume) image) number) in
      let S : Result ℕ finds.TreeFault → Type 0 = λ found. Refuses fault found in
      only_device before after fault number (subst S (can_read sound named) (told_now (past_of volume) R refused told)) cause

  pub too_high : volume.layout.inodes < number → (fault : TreeFault) → GivesFile volume number (Err fault)
  too_high high fault told sound named = absurd (let range = (opened (volume_view volume) (now (past_of volume)) sound).parts.in_range number named in omega (arith, range.1, high))

  module _ (node : Inode) (is : Told (past_of volume) (λ image. inode_view node ≡ (parts_of (volume_view volume) image).node number)) where
    pub node_now : IsTold (past_of volume) → inode_view node ≡ Is.node number
    node_now told = told_now (past_of volume) (λ image. inode_view node ≡ (parts_of (volume_view volume) image).node number) is told

    pub is_file : is_removable (inode_view node) ≡ true → GivesFile volume number (Ok node)
    is_file removable told sound named = (sym (node_now told), removable)

    pub is_none : is_removable (inode_view node) ≡ false → GivesFile volume number (Err faults.NotFile)
    is_none other told sound named = let R : layouts.Inode → Bool = is_removable in inr (refl, sym (ap R (node_now told)) ∙ other)

-- ---- a directory

module _ {D : Type 0} {disks : Ghosts D} (volume : Volume D disks) (directory : ℕ) (here : IsDirectoryNow volume directory) where
  abbrev Now : Parts
  Now = parts_of (volume_view volume) (now (past_of volume))

  given : IsGiven (super_view volume.layout) Now directory
  given = sound_law (super_view volume.layout) Now directory (opened (volume_view volume) (now (past_of volume)) here.sound).parts here.named (directory-zones Now directory here.is)

  module _ (node : layouts.Inode) (is : node ≡ Now.node directory) (name : List ℕ) where
    found_is : with_fault finds.Zone (find_entry (super_view volume.layout) Now node name) ≡ Ok (held_name (super_view volume.layout) Now directory name)
    found_is =
        let F : layouts.Inode → Result (Option ℕ) finds.TreeFault = λ i. with_fault finds.Zone (find_entry (super_view volume.layout) Now i name) in
        ap F is ∙ ap (with_fault finds.Zone) (given.found name)

    pub not_found : (before after : ℕ) (fault : TreeFault) → Refuses fault (with_fault finds.Zone (find_entry (super_view volume.layout) Now node name)) → HasTreeCause before after fault
        → fault ≡ faults.Zone zonefaults.Device
    not_found before after fault refused cause =
        let S : Result (Option ℕ) finds.TreeFault → Type 0 = λ found. Refuses fault found in
        only_device before after fault _ (subst S found_is refused) cause

    pub held_is : (found : Option ℕ) → with_fault finds.Zone (find_entry (super_view volume.layout) Now node name) ≡ Ok found → held_name (super_view volume.layout) Now directory name ≡ found
    held_is found gives = let both : Ok (held_name (super_view volume.layout) Now directory name) ≡ Ok found = sym found_is ∙ gives in cc

    pub entry_is : (found : Found) → 1 ≤ found.inode → IsEntryOf (super_view volume.layout) Now node name found → HoldsEntry (super_view volume.layout) Now directory found.place found.inode name
    entry_is found some at = record {
      named = here.named;
      is = here.is;
      below = let P : layouts.Inode → Type 0 = λ i. found.place < places (kind_view volume.layout.kind) i.size in subst P is at.below;
      says =
          let E : layouts.Inode → Result Entry model.ZoneFault = λ i. entry_at (super_view volume.layout) Now i found.place in
          let both : Ok (entry (super_view volume.layout) Now directory found.place) ≡ Ok (entry_with found.inode name) = sym (given.at found.place) ∙ (sym (ap E is) ∙ at.says) in
          cc;
      some = λ none. omega (arith, some, none);
    }

    pub entry_named : (found : Found) → 1 ≤ found.inode → IsEntryOf (super_view volume.layout) Now node name found → Named (super_view volume.layout) Now found.inode
    entry_named found some at =
        entry_named_law (super_view volume.layout) Now directory found.place found.inode name (opened (volume_view volume) (now (past_of volume)) here.sound).parts (entry_is found some at)

  -- ---- refusals

  pub refused_none : (name : List ℕ) → held_name (super_view volume.layout) Now directory name ≡ None → FindsTarget volume directory name (Err (faults.NotFound 0))
  refused_none name none = let R : Option ℕ → Option TreeFault = refusal_of Now in inr (ap R none)

  pub refused_file : (name : List ℕ) (number : ℕ) (fault : TreeFault) → held_name (super_view volume.layout) Now directory name ≡ Some number → FindsFile volume number (Err fault)
      → FindsTarget volume directory name (Err fault)
  refused_file name number fault held (inl device) = inl device
  refused_file name number fault held (inr other) =
      let R : Option ℕ → Option TreeFault = refusal_of Now in
      let why : refusal_of Now (Some number) ≡ Some faults.NotFile = rw other.1 refl in
      inr (ap R held ∙ (why ∙ ap Some (sym other.0)))

  -- ---- the zone with an entry

  module _ (node : layouts.Inode) (place : ℕ) (is : node ≡ Now.node directory) where
    zone_is : zone_at (super_view volume.layout) Now node (place / entries_per_block (kind_view volume.layout.kind)) ≡ Ok (zone_of_entry (super_view volume.layout) Now directory place)
    zone_is =
        let Z : layouts.Inode → Result ℕ model.ZoneFault = λ i. zone_at (super_view volume.layout) Now i (place / entries_per_block (kind_view volume.layout.kind)) in
        ap Z is ∙ given.zone (place / entries_per_block (kind_view volume.layout.kind))

    pub zone_found : (zone : ℕ) → zone_at (super_view volume.layout) Now node (place / entries_per_block (kind_view volume.layout.kind)) ≡ Ok zone
        → zone_of_entry (super_view volume.layout) Now directory place ≡ zone
    zone_found zone found = let both : Ok (zone_of_entry (super_view volume.layout) Now directory place) ≡ Ok zone = sym zone_is ∙ found in cc

    pub zone_refused : (fault : ZoneFault) → zones.Refuses fault (zone_at (super_view volume.layout) Now node (place / entries_per_block (kind_view volume.layout.kind)))
        → fault ≡ zonefaults.Device
    zone_refused fault refused = let S : Result ℕ model.ZoneFault → Type 0 = λ found. zones.Refuses fault found in only_zone_device fault _ (subst S zone_is refused)

-- ---- where a zone is looked for

module _ {D : Type 0} {disks : Ghosts D} (volume : Volume D disks) (node : layouts.Inode) (place : ℕ) where
  abbrev FoundAt : Image → Result ℕ model.ZoneFault
  FoundAt image = zone_at (super_view volume.layout) (parts_of (volume_view volume) image) node (place / entries_per_block (kind_view volume.layout.kind))

  pub gives_zone : (zone : ℕ) → Told (past_of volume) (λ image. FoundAt image ≡ Ok zone) → GivesZone volume node place (Ok zone)
  gives_zone zone found directory told used =
      let F : Image → Type 0 = λ image. FoundAt image ≡ Ok zone in
      zone_found volume directory used.in_directory node place used.is zone (told_now (past_of volume) F found told)

  pub gives_no_hole : (fault : TreeFault) → Told (past_of volume) (λ image. FoundAt image ≡ Ok 0) → GivesZone volume node place (Err fault)
  unfolding zone_number
  gives_no_hole fault found directory told used =
      let F : Image → Type 0 = λ image. FoundAt image ≡ Ok 0 in
      let hole = zone_found volume directory used.in_directory node place used.is 0 (told_now (past_of volume) F found told) in
      absurd (used.used (hole_law (super_view volume.layout) (parts_of (volume_view volume) (now (past_of volume))) directory place hole))

  pub gives_fault : (fault : ZoneFault) → Told (past_of volume) (λ image. zones.Refuses fault (FoundAt image)) → GivesZone volume node place (Err (faults.Zone fault))
  gives_fault fault refused directory told used =
      let R : Image → Type 0 = λ image. zones.Refuses fault (FoundAt image) in
      let Z : ZoneFault → TreeFault = λ f. faults.Zone f in
      ap Z (zone_refused volume directory used.in_directory node place used.is fault (told_now (past_of volume) R refused told))

-- ---- a volume that was only read

pub at_same : {D : Type 0} {disks : Ghosts D} (old mid : Volume D disks) → SameVolume old mid → (P : model.Volume → Option Past → Type 0) → P (volume_view mid) (past_of mid) → P (volume_view old) (past_of old)
at_same old mid same P is =
    let Q : Option Past → Type 0 = λ past. P (volume_view old) past in
    let R : model.Volume → Type 0 = λ view. P view (past_of mid) in
    subst Q same.same_disks.same_past (subst R (same_view old mid same) is)

pub then_same : {D : Type 0} {disks : Ghosts D} (old mid : Volume D disks) → SameVolume old mid → (P : model.Volume → Option Past → Type 0) → P (volume_view old) (past_of old) → P (volume_view mid) (past_of mid)
then_same old mid same P is =
    let Q : Option Past → Type 0 = λ past. P (volume_view mid) past in
    let R : model.Volume → Type 0 = λ view. P view (past_of old) in
    subst Q (sym same.same_disks.same_past) (subst R (sym (same_view old mid same)) is)

abbrev pub parts_at : model.Volume → Option Past → Parts
parts_at view past = parts_of view (now past)

pub directory_then : {D : Type 0} {disks : Ghosts D} (old mid : Volume D disks) (directory : ℕ) → SameVolume old mid → IsDirectoryNow old directory → IsDirectoryNow mid directory
directory_then old mid directory same here = record {
  sound = then_same old mid same (λ view past. IsSound view (now past)) here.sound;
  named = then_same old mid same (λ view past. Named view.layout (parts_at view past) directory) here.named;
  is = then_same old mid same (λ view past. is_directory ((parts_at view past).node directory) ≡ true) here.is;
}

pub told_then : {D : Type 0} {disks : Ghosts D} (old mid : Volume D disks) → SameVolume old mid → IsTold (past_of old) → IsTold (past_of mid)
told_then old mid same told = subst IsTold (sym same.same_disks.same_past) told

-- ---- what a name leads to

module _ {D : Type 0} {disks : Ghosts D} (old : Volume D disks) (directory : ℕ) (name : List ℕ) where
  -- the directory can't be read
  pub gives_unread : (before after : ℕ) (fault : TreeFault)
      → Told (past_of old) (λ image. Refuses fault (readable (super_view old.layout) (parts_of (volume_view old) image) directory)) → HasTreeCause before after fault
      → GivesTarget old directory name (Err fault)
  gives_unread before after fault refused cause told here = inl (not_read old directory before after fault told here.sound here.named refused cause)

  module _ (node : Inode) (is : Told (past_of old) (λ image. inode_view node ≡ (parts_of (volume_view old) image).node directory)) where
    abbrev Entry' : Image → Result (Option ℕ) finds.TreeFault
    Entry' image = with_fault finds.Zone (find_entry (super_view old.layout) (parts_of (volume_view old) image) (inode_view node) name)

    pub gives_unfound : (before after : ℕ) (fault : TreeFault) → Told (past_of old) (λ image. Refuses fault (Entry' image)) → HasTreeCause before after fault
        → GivesTarget old directory name (Err fault)
    gives_unfound before after fault refused cause told here =
        let R : Image → Type 0 = λ image. Refuses fault (Entry' image) in
        inl (not_found old directory here (inode_view node) (node_now old directory node is told) name before after fault (told_now (past_of old) R refused told) cause)

    pub gives_none : Told (past_of old) (λ image. Entry' image ≡ Ok None) → GivesTarget old directory name (Err (faults.NotFound 0))
    gives_none none told here =
        let R : Image → Type 0 = λ image. Entry' image ≡ Ok None in
        refused_none old directory here name (held_is old directory here (inode_view node) (node_now old directory node is told) name None (told_now (past_of old) R none told))

    -- an entry was found
    module _ (found : Found) (some : 1 ≤ found.inode) (at : Told (past_of old) (λ image. Finds (super_view old.layout) (parts_of (volume_view old) image) (inode_view node) name (Ok (Some found)))) where
      at-now : IsTold (past_of old) → Finds (super_view old.layout) (parts_now old) (inode_view node) name (Ok (Some found))
      at-now told =
          let F : Image → Type 0 = λ image. Finds (super_view old.layout) (parts_of (volume_view old) image) (inode_view node) name (Ok (Some found)) in
          told_now (past_of old) F at told

      module _ (told : IsTold (past_of old)) (here : IsDirectoryNow old directory) where
        held : held_name (super_view old.layout) (parts_now old) directory name ≡ Some found.inode
        held = held_is old directory here (inode_view node) (node_now old directory node is told) name (Some found.inode) (at-now told).0

        holds : HoldsEntry (super_view old.layout) (parts_now old) directory found.place found.inode name
        holds = entry_is old directory here (inode_view node) (node_now old directory node is told) name found some (at-now told).1

        named : Named (super_view old.layout) (parts_now old) found.inode
        named = entry_named old directory here (inode_view node) (node_now old directory node is told) name found some (at-now told).1

        used-place : IsUsedPlace old directory (inode_view node) found.place
        used-place = record {
          in_directory = here;
          is = node_now old directory node is told;
          used = λ free. holds.some (sym (ap (λ (e : Entry). e.inode) holds.says) ∙ free);
        }

      -- it leads to no file
      pub gives_no_file : (mid : Volume D disks) (fault : TreeFault) → SameVolume old mid → GivesFile mid found.inode (Err fault) → GivesTarget old directory name (Err fault)
      gives_no_file mid fault same gives told here =
          let P : model.Volume → Option Past → Type 0 = λ view past. IsTold past → IsSound view (now past) → Named view.layout (parts_at view past) found.inode
          → (fault ≡ faults.Zone zonefaults.Device) ⊎ ((fault ≡ faults.NotFile) × (is_removable ((parts_at view past).node found.inode) ≡ false)) in
          refused_file old directory here name found.inode fault (held told here) (at_same old mid same P gives told here.sound (named told here))

      -- or to one, in no zone that can be found
      used-then : (mid : Volume D disks) → SameVolume old mid → IsTold (past_of old) → IsDirectoryNow old directory → IsUsedPlace mid directory (inode_view node) found.place
      used-then mid same told here =
          let used = used-place told here in
          record {
            in_directory = directory_then old mid directory same here;
            is = then_same old mid same (λ view past. inode_view node ≡ (parts_at view past).node directory) used.is;
            used = then_same old mid same (λ view past. (entry view.layout (parts_at view past) directory found.place).inode ≢ 0) used.used;
          }

      pub gives_no_zone : (mid : Volume D disks) (fault : TreeFault) → SameVolume old mid → GivesZone mid (inode_view node) found.place (Err fault) → GivesTarget old directory name (Err fault)
      gives_no_zone mid fault same gives told here = inl (gives directory (told_then old mid same told) (used-then mid same told here))

      pub gives_target : (mid next : Volume D disks) (file : Inode) (zone : ℕ) → SameVolume old mid → SameVolume old next → blocks_for node.size ≤ reach (kind_view old.layout.kind)
          → GivesFile mid found.inode (Ok file) → GivesZone next (inode_view node) found.place (Ok zone)
          → GivesTarget old directory name (Ok (record { place = found.place; zone = zone; inode = found.inode; node = file }))
      gives_target mid next file zone same same' reached file-is zone-is told here =
          let P : model.Volume → Option Past → Type 0 = λ view past. IsTold past → IsSound view (now past) → Named view.layout (parts_at view past) found.inode
          → ((parts_at view past).node found.inode ≡ inode_view file) × (is_removable (inode_view file) ≡ true) in
          let Z : model.Volume → Option Past → Type 0 = λ view past. zone_of_entry view.layout (parts_at view past) directory found.place ≡ zone in
          let R : layouts.Inode → Type 0 = λ i. is_removable i ≡ true in
          let S : layouts.Inode → Type 0 = λ i. blocks_for i.size ≤ reach (kind_view old.layout.kind) in
          let is-file = at_same old mid same P file-is told here.sound (named told here) in
          record {
            in_directory = here;
            holds = record { entry = holds told here; removable = subst R (sym is-file.0) is-file.1 };
            held = held told here;
            lies = at_same old next same' Z (zone-is directory (told_then old next same' told) (used-then next same' told here));
            reached = subst S (node_now old directory node is told) reached;
            node = is-file.0;
          }
