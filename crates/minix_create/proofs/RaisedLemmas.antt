-- What a call leaves that raises the links of a directory.
use Rattle.std.proofs.Common.{◌≡◌, ◌≤◌, ◌<◌, ◌+◌, ◌⊎◌, ℕ, Bool, true, false, nat_lt, Option, Result, Ok, Err, OnOk, refl, sym, ap, ◌∙◌, subst, arith, inl, inr}
use Rattle.std.proofs.Math.Path.{subst₂}
use Rattle.std.proofs.lemmas.Bool.{lt-ltb}
use Rattle.disk_trait.specs.declared.disks.Disks.{Ghosts}
use Rattle.disk_trait.specs.declared.disks.Span.{Span}
use Rattle.disk_trait.specs.Past.{Image, Past}
use Rattle.disk_trait.specs.Moments.{IsTold, now, IsQuiet, LeavesOnly}
use Rattle.disk_trait.specs.NotWritten.{IsOther, NotWritten}
use Rattle.disk_trait.proofs.MomentLemmas.{leaves_none}
use Rattle.lilo_model.specs.Faults.{Rose}
use Rattle.lilo_model.specs.MinixLayout.{Inode, IsSuper, FitsInode, inode_bytes, inode_place, kept_inode, most_links}
use Rattle.lilo_model.specs.MinixParts as model
use Rattle.lilo_model.specs.MinixParts.{Parts, is_directory, parts_of}
use Rattle.lilo_model.specs.MinixNames.{Named, IsSound}
use Rattle.minix_change_laws.specs.Changes.{ChangesNode}
use Rattle.minix_layout.specs.View.{kind_view, super_view}
use Rattle.minix_layout.specs.declared.superblock.Super.{Super}
use Rattle.minix_change_laws.specs.Sees.{with_links}
use Rattle.minix_change_laws.proofs.Seen.{opened}
use Rattle.minix_steps.specs.Written.{with_sector_of, with_inode, parts_now}
use Rattle.minix_steps.proofs.PartLemmas.{inode_bytes_law, kept_inode_law}
use Rattle.minix_steps.proofs.RegionLemmas.{place_there}
use Rattle.minix_steps.proofs.StepLemmas.{same_view}
use Rattle.minix_turns.specs.Inode.{TurnsInode, IsNamedNow, MayHaveLinks}
use Rattle.minix_turns.specs.Joined.{Unseen}
use Rattle.minix_turns.proofs.FieldLemmas.{inode_long, fits_links, kept_read, kept_links}
use Rattle.minix_turns.proofs.JoinedLemmas.{unseen_join, turn_leaves}
use Rattle.minix_turns.proofs.LinkLemmas.{raised_links_law}
use Rattle.minix_zones.specs.Volume.{volume_view, past_of, faults_of, SameVolume}
use Rattle.minix_zones.specs.declared.volume.Volume.{Volume}
use Rattle.minix_zones.specs.declared.zone_fault.ZoneFault.{ZoneFault}
use Rattle.minix_zones.specs.declared.zone_fault.ZoneFault.TheVariants as zones
use Rattle.minix_zones.proofs.WriteLemmas.{keeps_same}
use Rattle.minix_create.specs.Entered.{raised_links, IsDirectoryNow, HasLinksOrRaised, RaisesLinks}
use Rattle.minix_create.proofs.BroughtLemmas.{device_of, same_unseen, same_others, Turned, changes, changes_turned}

-- ---- a call that wrote nothing

module _ {D E : Type 0} {disks : Ghosts D} (old new : Volume D disks) (directory : ℕ) (error : E) (quiet : IsQuiet (past_of old)) (is : IsTold (past_of old) → IsDirectoryNow old directory)
    (same : SameVolume old new) (later : faults_of old ≤ faults_of new) where
  sound-told : IsTold (past_of old) → IsSound (volume_view old) (now (past_of old))
  sound-told told = (is told).sound

  same_links : LeavesOnly (past_of old) (past_of new) (HasLinksOrRaised old directory)
  same_links =
      let P : Option Past → Type 0 = λ p. LeavesOnly (past_of old) p (HasLinksOrRaised old directory) in
      subst P (sym same.same_disks.same_past)
      (leaves_none (past_of old) (HasLinksOrRaised old directory) (λ c may. let H : Image → Type 0 = λ image. HasLinksOrRaised old directory image in subst H (sym (quiet c may)) (inl refl)))

  pub raises_refused : (fault : E) → (IsTold (past_of old) → (fault ≡ error) × Rose (faults_of old) (faults_of new)) → RaisesLinks old new directory error (Err fault)
  raises_refused fault cause = record {
    unseen = same_unseen old new quiet sound-told same later;
    any_moment = same_links;
    raised = λ told. tt;
    others = λ told d s off. same_others old new quiet sound-told same later d s;
    device = cause;
  }

  -- the links are the most already
  pub raises_none : (links : ℕ) → (IsTold (past_of old) → links ≡ ((parts_now old).node directory).links) → nat_lt links (most_links (kind_view old.layout.kind)) ≡ false → RaisesLinks old new directory error (Ok tt)
  raises_none links are most = record {
    unseen = same_unseen old new quiet sound-told same later;
    any_moment = same_links;
    raised = λ told.
        let node : Inode = (parts_now old).node directory in
        let P : Option Past → Type 0 = λ p. ChangesNode (super_view old.layout) (parts_now old) (model.parts_of (volume_view old) (now p)) directory (with_links node (raised_links (kind_view old.layout.kind) node.links)) in
        let Q : ℕ → Type 0 = λ n. ChangesNode (super_view old.layout) (parts_now old) (parts_now old) directory (with_links node n) in
        let stays : raised_links (kind_view old.layout.kind) node.links ≡ node.links =
        let L : ℕ → Type 0 = λ n. nat_lt n (most_links (kind_view old.layout.kind)) ≡ false in let f = subst L (are told) most in rw f refl in
        subst P (sym same.same_disks.same_past)
        (subst Q (sym stays) (record { here = refl; others = λ other in' apart. refl; zones = λ zone in'. refl; marks = λ other in'. refl; zone_marks = λ zone in'. refl }));
    others = λ told d s off. same_others old new quiet sound-told same later d s;
    device = λ told. tt;
  }

-- ---- other links

module _ (volume : model.Volume) (old : Image) (is : IsSuper volume.layout volume.span.count) (sound : IsSound volume old) (number : ℕ) (named : Named volume.layout (model.parts_of volume old) number) where
  abbrev Was : Parts
  Was = model.parts_of volume old

  kept : kept_inode volume.layout.kind (Was.node number) ≡ Was.node number
  unfolding parts_of
  kept = kept_read volume.layout.kind (model.inode_part volume old (inode_place volume.layout number)) ((opened volume old sound).parts.size number named)

  -- the inode's sector with other links says so, and nothing else
  pub links_turned : (links : ℕ) → links ≤ most_links volume.layout.kind → FitsInode volume.layout.kind (Was.node number)
      → ChangesNode volume.layout Was (model.parts_of volume (with_sector_of volume old (inode_place volume.layout number).sector (with_inode volume old number (inode_bytes volume.layout.kind (with_links (Was.node number) links))))) number
      (with_links (Was.node number) links)
  links_turned links few fit =
      let has = opened volume old sound in
      let inode : Inode = with_links (Was.node number) links in
      let fit' = fits_links volume.layout.kind (Was.node number) links fit few in
      let range = has.parts.in_range number named in
      let whole = has.whole (inode_place volume.layout number).sector (place_there volume.layout volume.span.count is number range.0 range.1) in
      let one = inode_bytes_law volume old number (inode_bytes volume.layout.kind inode) is range.0 range.1 (inode_long volume.layout.kind inode fit') whole in
      record {
        here = one.here ∙ (kept_inode_law volume.layout.kind inode fit' (has.parts.size number named) ∙ kept_links volume.layout.kind (Was.node number) links kept);
        others = λ other in' apart. one.others other in'.0 in'.1 apart;
        zones = λ zone in'. one.zones zone in'.0;
        marks = λ other in'. one.marks other in'.1;
        zone_marks = λ zone in'. one.zone_marks zone in'.1;
      }

-- ---- one more

module _ {D : Type 0} {disks : Ghosts D} (old new : Volume D disks) (directory : ℕ) (node : Inode) (fits : FitsInode (kind_view old.layout.kind) node) (is : IsTold (past_of old) → IsDirectoryNow old directory)
    (read : IsTold (past_of old) → (parts_now old).node directory ≡ node) (few : node.links < most_links (kind_view old.layout.kind)) (result : Result (Unit {0}) ZoneFault)
    (turns : TurnsInode old new directory (with_links node (node.links + 1)) zones.Device result) where
  named-now : IsTold (past_of old) → IsNamedNow old directory node
  named-now told = record { sound = (is told).sound; is = read told; named = (is told).named }

  -- so many links are enough
  pub may_raise : IsTold (past_of old) → MayHaveLinks old directory node (node.links + 1)
  may_raise told = record {
    lies = named-now told;
    enough = raised_links_law (super_view old.layout) (parts_now old) directory (node.links + 1) (opened (volume_view old) (now (past_of old)) (is told).sound).parts
        (let e = ap (λ (i : Inode). i.links) (read told) in omega (arith, e));
  }

  abbrev More : Inode → Inode
  More inode = with_links inode (node.links + 1)

  law : IsNamedNow old directory node → FitsInode (kind_view old.layout.kind) ((parts_now old).node directory)
      → ChangesNode (super_view old.layout) (parts_now old) (model.parts_of (volume_view old) (Turned old new directory node fits More result turns ((parts_now old).node directory))) directory (More ((parts_now old).node directory))
  law named fit = links_turned (volume_view old) (now (past_of old)) old.whole named.sound directory named.named (node.links + 1) (omega (arith, few)) fit

  raised-is : IsTold (past_of old) → raised_links (kind_view old.layout.kind) ((parts_now old).node directory).links ≡ node.links + 1
  raised-is told = rw (read told) (by (nat_lt node.links (most_links (kind_view old.layout.kind))) refl)
    where
      by : (test : Bool) → nat_lt node.links (most_links (kind_view old.layout.kind)) ≡ test → raised_links (kind_view old.layout.kind) node.links ≡ node.links + 1
      by true e = rw e refl
      by false e = absurd (let t = lt-ltb node.links (most_links (kind_view old.layout.kind)) few in cc)

  pub raises_one : Unseen old new → RaisesLinks old new directory zones.Device result
  raises_one unseen = record {
    unseen = unseen;
    any_moment = turn_leaves old new _ _ zones.Device result turns (HasLinksOrRaised old directory) (λ told. inl refl)
        (λ told. inr (ap (λ (i : Inode). i.links) (changes_turned old new directory node fits More result turns law (named-now told)).here ∙ sym (raised-is told)));
    raised = λ told.
        let C : ℕ → Type 0 = λ n. OnOk result (ChangesNode (super_view old.layout) (parts_now old) (model.parts_of (volume_view old) (now (past_of new))) directory (with_links ((parts_now old).node directory) n)) in
        subst C (sym (raised-is told)) (changes old new directory node fits More result turns law told (named-now told));
    others = λ told d s off. turns.others d s off;
    device = λ told. turns.device;
  }

-- ---- after the inode was read

-- another name of the fault
pub raises_again : {D E F : Type 0} {disks : Ghosts D} (old new : Volume D disks) (directory : ℕ) (error fault : E) (error' : F) → RaisesLinks old new directory error (Err fault) → RaisesLinks old new directory error' (Err error')
raises_again old new directory error fault error' raises = record {
  unseen = raises.unseen;
  any_moment = raises.any_moment;
  raised = λ told. tt;
  others = raises.others;
  device = λ told. (refl, (raises.device told).1);
}

pub raises_done : {D E F : Type 0} {disks : Ghosts D} (old new : Volume D disks) (directory : ℕ) (error : E) (error' : F) → RaisesLinks old new directory error (Ok tt) → RaisesLinks old new directory error' (Ok tt)
raises_done old new directory error error' raises = record {
  unseen = raises.unseen;
  any_moment = raises.any_moment;
  raised = raises.raised;
  others = raises.others;
  device = λ told. tt;
}

module _ {D E : Type 0} {disks : Ghosts D} (old mid new : Volume D disks) (directory : ℕ) (error : E) (result : Result (Unit {0}) E) (quiet : IsQuiet (past_of old))
    (is : IsTold (past_of old) → IsDirectoryNow old directory) (same : SameVolume old mid) (later : faults_of old ≤ faults_of mid) where
  -- what is said of the volume as it was read is said of it as it was
  as-was : (P : model.Volume → Option Past → Type 0) → P (volume_view mid) (past_of mid) → P (volume_view old) (past_of old)
  as-was P holds = subst₂ P (same_view old mid (keeps_same old mid same)) same.same_disks.same_past holds

  pub is-read : IsTold (past_of mid) → IsDirectoryNow mid directory
  is-read told =
      let T : Option Past → Type 0 = λ p. IsTold p in
      let at = is (subst T same.same_disks.same_past told) in
      let F : model.Volume → Option Past → Type 0 = λ view p. IsSound view (now p) × Named view.layout (model.parts_of view (now p)) directory × (is_directory ((model.parts_of view (now p)).node directory) ≡ true) in
      let f = subst₂ F (sym (same_view old mid (keeps_same old mid same))) (sym same.same_disks.same_past) (at.sound, at.named, at.is) in
      record { sound = f.0; named = f.1; is = f.2 }

  pub raises_read : RaisesLinks mid new directory error result → RaisesLinks old new directory error result
  raises_read raises = record {
    unseen = unseen_join old mid new (same_unseen old mid quiet (λ told. (is told).sound) same later) raises.unseen;
    any_moment = as-was (λ view p. LeavesOnly p (past_of new) (λ c.
        (((model.parts_of view c).node directory).links ≡ ((model.parts_of view (now p)).node directory).links)
        ⊎ (((model.parts_of view c).node directory).links ≡ raised_links view.layout.kind ((model.parts_of view (now p)).node directory).links))) raises.any_moment;
    raised = as-was (λ view p. IsTold p → OnOk result (ChangesNode view.layout (model.parts_of view (now p)) (model.parts_of view (now (past_of new))) directory
        (with_links ((model.parts_of view (now p)).node directory) (raised_links view.layout.kind ((model.parts_of view (now p)).node directory).links)))) raises.raised;
    others = λ told d s off.
        let L : Super → Type 0 = λ layout. IsOther old.span.disk (old.span.start + (inode_place (super_view layout) directory).sector) d s in
        let S : Span → Type 0 = λ span. IsOther span.disk (span.start + (inode_place (super_view mid.layout) directory).sector) d s in
        let N : Option Past → Type 0 = λ p. NotWritten p (past_of new) d s in
        let T : Option Past → Type 0 = λ p. IsTold p in
        subst N same.same_disks.same_past
        (raises.others (subst T (sym same.same_disks.same_past) told) d s (subst S (sym same.same_span) (subst L (sym same.same_layout) off)));
    device = λ told.
        let T : Option Past → Type 0 = λ p. IsTold p in
        device_of old mid new error result later (raises.device (subst T (sym same.same_disks.same_past) told));
  }
