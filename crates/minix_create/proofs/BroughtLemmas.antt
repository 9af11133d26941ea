-- What calls leave by which places of a directory get below its size.
use Rattle.std.proofs.Common.{◌≡◌, ◌≢◌, ◌≤◌, ◌<◌, ◌+◌, ◌*◌, ◌/◌, ◌%◌, ◌^◌, ℕ, true, [], Option, Result, Ok, Err, OnOk, refl, sym, ap, ◌∙◌, subst, arith, ◌⊎◌, inl, inr}
use Rattle.std.specs.Prelude.{IfErr}
use Rattle.lilo_model.proofs.RoseLemmas.{rose_after}
use Rattle.disk_trait.specs.declared.disks.Disks.{Ghosts}
use Rattle.disk_trait.specs.declared.disks.Span.{Span}
use Rattle.disk_trait.specs.Past.{Image, Past}
use Rattle.disk_trait.specs.Moments.{IsTold, now, IsQuiet}
use Rattle.disk_trait.specs.NotWritten.{IsOther, NotWritten}
use Rattle.disk_trait.specs.Range.{IsOutside}
use Rattle.disk_trait.proofs.MomentLemmas.{on_ok}
use Rattle.disk_trait.proofs.NotWrittenLemmas.{not_written_none, not_written_join}
use Rattle.disk_trait.proofs.RangeLemmas.{outside_is_other}
use Rattle.lilo_model.specs.Faults.{Rose}
use Rattle.lilo_model.specs.MinixEntries.{entries_per_block, places}
use Rattle.lilo_model.specs.MinixLayout.{Kind, V1Short, V1Long, V2Short, V2Long, Inode, FitsInode, entry_size, inode_place, is_size, reach, zone_sector}
use Rattle.lilo_model.specs.MinixNames.{entry, Named, PointsTo, IsSound}
use Rattle.lilo_model.specs.MinixParts as model
use Rattle.lilo_model.specs.MinixParts.{Parts, Pointer, is_directory, blocks_for}
use Rattle.minix_change_laws.specs.Only.{zone_of_entry}
use Rattle.minix_change_laws.proofs.Only.{directory-refers}
use Rattle.minix_change_laws.specs.Changes.{ChangesZone, ChangesNode, with_size}
use Rattle.minix_change_laws.proofs.Holes.{hole_law}
use Rattle.minix_grow.specs.Others.{IsOneOf}
use Rattle.minix_grow.specs.Places.{size_to, IsNextPlaceNow}
use Rattle.minix_grow.proofs.KeepLemmas.{keeps_none, keeps_join, keeps_size, keeps_bytes}
use Rattle.minix_grow.proofs.ExtendLemmas.{past_at, may_have_size, view_after}
use Rattle.minix_grow.proofs.PlaceLemmas.{places_to}
use Rattle.minix_layout.specs.View.{kind_view, super_view, inode_view}
use Rattle.minix_layout.specs.declared.superblock.Super.{Super}
use Rattle.minix_change_laws.proofs.Seen.{opened}
use Rattle.minix_change_laws.proofs.Sees.{named-new, directory-same}
use Rattle.minix_steps.specs.Written.{with_sector_of, inode_rewritten, parts_now}
use Rattle.minix_steps.proofs.ReadyLemmas.{quiet_ready}
use Rattle.minix_steps.proofs.StepLemmas.{same_view, no_step}
use Rattle.minix_tree.proofs.StatLemmas.{blocks_reached}
use Rattle.minix_turns.specs.Inode.{TurnsInode, IsNamedNow, MayHaveSize}
use Rattle.minix_turns.specs.Joined.{Unseen}
use Rattle.minix_turns.specs.Names.{PastUnseen, PastFree}
use Rattle.minix_turns.specs.Part.{TurnsFreeEntry, HasEntryPart}
use Rattle.minix_turns.proofs.JoinedLemmas.{steps_unseen, unseen_join}
use Rattle.minix_turns.proofs.SeenLemmas.{node_size}
use Rattle.minix_change_laws.specs.Part.{with_zone_part, free_bytes}
use Rattle.minix_change_laws.proofs.Part.{part_law}
use Rattle.minix_zones.specs.Volume.{volume_view, past_of, faults_of, KeepsVolume, SameVolume}
use Rattle.minix_choice.specs.View.{HasWriteCause}
use Rattle.minix_choice.specs.declared.write_fault.WriteFault.{WriteFault}
use Rattle.minix_choice.specs.declared.write_fault.WriteFault.TheVariants as refusals
use Rattle.minix_zones.specs.View as View
use Rattle.minix_zones.specs.declared.volume.Volume.{Volume}
use Rattle.minix_zones.specs.declared.zone_fault.ZoneFault.{ZoneFault}
use Rattle.minix_zones.specs.declared.zone_fault.ZoneFault.TheVariants as zones
use Rattle.minix_zones.proofs.WriteLemmas.{keeps_same}
use Rattle.write_model.specs.Places.{most_places}
use Rattle.minix_create.specs.Brought.{IsInDirectory, GivesPlace, MayBring, IsNextAt, IsOffDirectory, IsBrought, Brings}
use Rattle.minix_create.specs.declared.place_at.PlaceAt.{PlaceAt}

-- ---- numbers

-- a directory can have a size with so many places, and an inode can name its blocks
pub size_fits : (kind : Kind) (place : ℕ) → place < most_places kind → (is_size kind (size_to kind place) ≡ true) × (size_to kind place < 2 ^ 32)
size_fits V1Short place low = (by-size place low, omega (arith, low))
  where
    by-size : (place : ℕ) → place < most_places V1Short → is_size V1Short (size_to V1Short place) ≡ true
    by-size place low = let few : size_to V1Short place ≤ 268966912 = omega (arith, low) in grind (arith)
size_fits V1Long place low = (by-size place low, omega (arith, low))
  where
    by-size : (place : ℕ) → place < most_places V1Long → is_size V1Long (size_to V1Long place) ≡ true
    by-size place low = let few : size_to V1Long place ≤ 268966912 = omega (arith, low) in grind (arith)
size_fits V2Short place low = (refl, omega (arith, low))
size_fits V2Long place low = (refl, omega (arith, low))

pub near_most : (kind : Kind) (place : ℕ) → place < most_places kind → place / entries_per_block kind < reach kind
near_most V1Short place low = omega (arith, low)
near_most V1Long place low = omega (arith, low)
near_most V2Short place low = omega (arith, low)
near_most V2Long place low = omega (arith, low)

-- ---- faults

pub device_of : {D E : Type 0} {disks : Ghosts D} (start mid new : Volume D disks) (error : E) (result : Result (Unit {0}) E) → faults_of start ≤ faults_of mid
    → IfErr result (λ fault. (fault ≡ error) × Rose (faults_of mid) (faults_of new)) → IfErr result (λ fault. (fault ≡ error) × Rose (faults_of start) (faults_of new))
device_of start mid new error (Ok done) later cause = tt
device_of start mid new error (Err fault) later cause = (cause.0, rose_after (faults_of start) (faults_of mid) (faults_of new) later cause.1)

-- a pointer that isn't to one of no zones is one that was there
pub points_was : {A : Type 0} (zone : ℕ) → A ⊎ IsOneOf [] zone → A
points_was zone (inl was) = was
points_was zone (inr one) = let low = one.low in absurd (omega (arith, low))

-- ---- in a row

-- a sector off a directory is off it later, where it has no pointer more
pub off_later : {D : Type 0} {disks : Ghosts D} (start mid : Volume D disks) (directory : ℕ) → KeepsVolume start mid
    → ((at : Pointer) (zone : ℕ) → PointsTo (super_view start.layout) (model.parts_of (volume_view start) (now (past_of mid))) directory at zone → PointsTo (super_view start.layout) (parts_now start) directory at zone)
    → (d s : ℕ) → IsOffDirectory start directory d s → IsOffDirectory mid directory d s
off_later start mid directory kept was d s off =
    let I : Span → Super → Type 0 = λ span layout. IsOther span.disk (span.start + (inode_place (super_view layout) directory).sector) d s in
    let IS : Super → Type 0 = λ layout. I start.span layout in
    let II : Span → Type 0 = λ span. I span mid.layout in
    let Z : model.Volume → Type 0 = λ view. (at : Pointer) (zone : ℕ) → PointsTo view.layout (model.parts_of view (now (past_of mid))) directory at zone → PointsTo (super_view start.layout) (parts_now start) directory at zone in
    let O : ℕ → Span → Type 0 = λ zone span. IsOutside span.disk (span.start + zone_sector zone) 2 d s in
    let was' : Z (volume_view mid) = subst Z (sym (same_view start mid kept)) was in
    record {
      inode = subst II (sym kept.same_span) (subst IS (sym kept.same_layout) off.inode);
      zones = λ at zone to. subst (O zone) (sym kept.same_span) (off.zones at zone (was' at zone to));
    }

pub brings_join : {D E : Type 0} {disks : Ghosts D} (start mid new : Volume D disks) (directory low count : ℕ) (error : E) (result : Result (Unit {0}) E)
    → (IsTold (past_of start) → Named (super_view start.layout) (parts_now start) directory)
    → Brings start mid directory low error (Ok tt) → Brings mid new directory count error result → Brings start new directory count error result
brings_join start mid new directory low count error result named one two =
    let V : model.Volume → Type 0 = λ view. OnOk result (IsBrought view.layout (model.parts_of view (now (past_of mid))) (model.parts_of view (now (past_of new))) directory count) in
    record {
      unseen = unseen_join start mid new one.unseen two.unseen;
      brought = λ told.
          let next = subst V (same_view start mid one.unseen.kept) (two.brought (one.unseen.goes_on.told told)) in
          on_ok result _ _ next (λ brought. record {
            room = brought.room;
            keeps = keeps_join (super_view start.layout) (parts_now start) (model.parts_of (volume_view start) (now (past_of mid))) (model.parts_of (volume_view start) (now (past_of new))) directory []
                (one.unseen.held told).sees (one.brought told).keeps brought.keeps;
          });
      others = λ told d s off.
          not_written_join (past_of start) (past_of mid) (past_of new) d s (one.others told d s off)
          (two.others (one.unseen.goes_on.told told) d s
          (off_later start mid directory one.unseen.kept (λ at zone to. points_was zone ((one.brought told).keeps.points directory at zone (named told) to)) d s off));
      device = λ told. device_of start mid new error result one.unseen.goes_on.later (two.device (one.unseen.goes_on.told told));
    }

-- ---- a call that wrote nothing

module _ {D : Type 0} {disks : Ghosts D} (old new : Volume D disks) (quiet : IsQuiet (past_of old)) (sound : IsTold (past_of old) → IsSound (volume_view old) (now (past_of old)))
    (same : SameVolume old new) (later : faults_of old ≤ faults_of new) where
  pub same_unseen : Unseen old new
  same_unseen = steps_unseen old new quiet sound (no_step old new (quiet_ready old quiet sound) same later)

  pub same_others : (d s : ℕ) → NotWritten (past_of old) (past_of new) d s
  same_others d s = let P : Option Past → Type 0 = λ p. NotWritten (past_of old) p d s in subst P (sym same.same_disks.same_past) (not_written_none (past_of old) d s)

module _ {D E : Type 0} {disks : Ghosts D} (old new : Volume D disks) (directory count : ℕ) (error : E) (quiet : IsQuiet (past_of old)) (sound : IsTold (past_of old) → IsSound (volume_view old) (now (past_of old)))
    (same : SameVolume old new) (later : faults_of old ≤ faults_of new) where
  pub brings_same : (IsTold (past_of old) → count ≤ places (kind_view old.layout.kind) ((parts_now old).node directory).size) → Brings old new directory count error (Ok tt)
  brings_same low = record {
    unseen = same_unseen old new quiet sound same later;
    brought = λ told.
        let P : Option Past → Type 0 = λ p. IsBrought (super_view old.layout) (parts_now old) (model.parts_of (volume_view old) (now p)) directory count in
        subst P (sym same.same_disks.same_past) (record { room = low told; keeps = keeps_none (super_view old.layout) (parts_now old) directory [] });
    others = λ told d s off. same_others old new quiet sound same later d s;
    device = λ told. tt;
  }

  pub brings_refused : (fault : E) → (IsTold (past_of old) → (fault ≡ error) × Rose (faults_of old) (faults_of new)) → Brings old new directory count error (Err fault)
  brings_refused fault cause = record {
    unseen = same_unseen old new quiet sound same later;
    brought = λ told. tt;
    others = λ told d s off. same_others old new quiet sound same later d s;
    device = cause;
  }

-- another name of the fault
pub brings_again : {D E F : Type 0} {disks : Ghosts D} (old new : Volume D disks) (directory count : ℕ) (error fault : E) (error' : F) → Brings old new directory count error (Err fault) → Brings old new directory count error' (Err error')
brings_again old new directory count error fault error' brings = record {
  unseen = brings.unseen;
  brought = λ told. tt;
  others = brings.others;
  device = λ told. (refl, (brings.device told).1);
}

pub brings_done : {D E F : Type 0} {disks : Ghosts D} (old new : Volume D disks) (directory count : ℕ) (error : E) (error' : F) → Brings old new directory count error (Ok tt) → Brings old new directory count error' (Ok tt)
brings_done old new directory count error error' brings = record { unseen = brings.unseen; brought = brings.brought; others = brings.others; device = λ told. tt }

-- ---- an inode that is turned into another

module _ {D : Type 0} {disks : Ghosts D} (old new : Volume D disks) (number : ℕ) (node : Inode) (fits : FitsInode (kind_view old.layout.kind) node) (turned : Inode → Inode)
    (result : Result (Unit {0}) ZoneFault) (turns : TurnsInode old new number (turned node) zones.Device result) where
  abbrev pub Turned : Inode → Image
  Turned inode = with_sector_of (volume_view old) (now (past_of old)) (inode_place (super_view old.layout) number).sector (inode_rewritten old number (turned inode))

  abbrev pub ChangesIn : Image → Inode → Type 0
  ChangesIn image inode = ChangesNode (super_view old.layout) (parts_now old) (model.parts_of (volume_view old) image) number (turned inode)

  module _ (law : IsNamedNow old number node → FitsInode (kind_view old.layout.kind) ((parts_now old).node number) → ChangesIn (Turned ((parts_now old).node number)) ((parts_now old).node number)) where
    pub changes_turned : IsNamedNow old number node → ChangesIn (Turned node) ((parts_now old).node number)
    changes_turned is =
        let P : Inode → Type 0 = λ i. ChangesIn (Turned i) ((parts_now old).node number) in
        subst P is.is (law is (subst (FitsInode (kind_view old.layout.kind)) (sym is.is) fits))

    pub changes : IsTold (past_of old) → IsNamedNow old number node → OnOk result (ChangesIn (now (past_of new)) ((parts_now old).node number))
    changes told is = on_ok result _ _ (turns.written told) (λ at. let P : Image → Type 0 = λ image. ChangesIn image ((parts_now old).node number) in subst P (sym at) (changes_turned is))

-- ---- a greater size

module _ {D : Type 0} {disks : Ghosts D} (old new : Volume D disks) (directory size : ℕ) (node : Inode) (fits : FitsInode (kind_view old.layout.kind) node) (small : size < 2 ^ 32)
    (result : Result (Unit {0}) ZoneFault) (turns : TurnsInode old new directory (with_size node size) zones.Device result) where
  resized : IsTold (past_of old) → MayHaveSize old directory node size → OnOk result (ChangesNode (super_view old.layout) (parts_now old) (model.parts_of (volume_view old) (now (past_of new))) directory (with_size ((parts_now old).node directory) size))
  resized told may =
      changes old new directory node fits (λ i. with_size i size) result turns
      (λ is fit. node_size (volume_view old) (now (past_of old)) old.whole is.sound directory is.named fit size small may.sized.sized)
      told may.lies

  -- so many places lie below it then
  pub raised : (count : ℕ) → count ≤ places (kind_view old.layout.kind) size → (IsTold (past_of old) → MayHaveSize old directory node size) → Unseen old new → Brings old new directory count zones.Device result
  raised count low may unseen = record {
    unseen = unseen;
    brought = λ told. on_ok result _ _ (resized told (may told)) (λ change. record {
      room = let R : ℕ → Type 0 = λ s. count ≤ places (kind_view old.layout.kind) s in subst R (sym (ap (λ (i : Inode). i.size) change.here)) low;
      keeps = keeps_size (super_view old.layout) (parts_now old) (model.parts_of (volume_view old) (now (past_of new))) directory size []
          (opened (volume_view old) (now (past_of old)) (may told).lies.sound).parts (may told).lies.named change;
    });
    others = λ told d s off. turns.others d s off.inode;
    device = λ told. turns.device;
  }

-- ---- the next place

module _ {D : Type 0} {disks : Ghosts D} (old : Volume D disks) (directory place zone : ℕ) (node : Inode) (room : place < most_places (kind_view old.layout.kind))
    (next : IsTold (past_of old) → IsNextAt old directory node place zone) where
  fits-size : (is_size (kind_view old.layout.kind) (size_to (kind_view old.layout.kind) place) ≡ true) × (size_to (kind_view old.layout.kind) place < 2 ^ 32)
  fits-size = size_fits (kind_view old.layout.kind) place room

  -- it is the only one that comes
  only-place : (told : IsTold (past_of old)) → (other : ℕ) → places (kind_view old.layout.kind) ((parts_now old).node directory).size ≤ other
      → other < places (kind_view old.layout.kind) (size_to (kind_view old.layout.kind) place) → other ≡ place
  only-place told other from below =
      let e = places_to (kind_view old.layout.kind) place in
      let n = (next told).next in
      let from' : places (kind_view old.layout.kind) node.size ≤ other = subst (λ (i : Inode). places (kind_view old.layout.kind) i.size ≤ other) (next told).is from in
      omega (arith, e, n, from', below)

  -- where it is in a hole
  pub hole_size : zone ≡ 0 → IsTold (past_of old) → MayHaveSize old directory node (size_to (kind_view old.layout.kind) place)
  hole_size none told =
      let at = next told in
      record {
        lies = record { sound = at.may.sound; is = at.is; named = at.may.named };
        sized = record {
          named = at.may.named;
          is = at.may.is;
          sized = fits-size.0;
          room = let e = places_to (kind_view old.layout.kind) place in
              let n = at.next in
              let R : Inode → Type 0 = λ i. places (kind_view old.layout.kind) i.size ≤ places (kind_view old.layout.kind) (size_to (kind_view old.layout.kind) place) in
              subst R (sym at.is) (omega (arith, e, n));
          reaches = λ low. blocks_reached (kind_view old.layout.kind) (size_to (kind_view old.layout.kind) place) fits-size.1 fits-size.0;
          free = λ other from below.
              let F : ℕ → Type 0 = λ p. (entry (super_view old.layout) (parts_now old) directory p).inode ≡ 0 in
              subst F (sym (only-place told other from below)) (hole_law (super_view old.layout) (parts_now old) directory place (at.lies ∙ none));
        };
      }

  -- where it is in a zone
  pub next_place : zone ≢ 0 → IsTold (past_of old) → IsNextPlaceNow old directory node place zone
  next_place some told =
      let at = next told in
      record {
        sound = at.may.sound;
        is = at.is;
        past = record {
          named = at.may.named;
          is = at.may.is;
          past = let n = at.next in let P : Inode → Type 0 = λ i. places (kind_view old.layout.kind) i.size ≤ place in subst P (sym at.is) (omega (arith, n));
          some = λ e. some (sym at.lies ∙ e);
          reached = at.may.reaches;
          near = near_most (kind_view old.layout.kind) place room;
        };
        lies = at.lies;
        next = at.next;
      }

  module _ (some : zone ≢ 0) (from : old.layout.first ≤ zone) (below : zone < old.layout.zones) (fits : FitsInode (kind_view old.layout.kind) node)
      (mid : Volume D disks) (index : ℕ) (index_low : index < entries_per_block (kind_view old.layout.kind)) (slot : index ≡ place % entries_per_block (kind_view old.layout.kind)) (result : Result (Unit {0}) ZoneFault)
      (turns : TurnsFreeEntry old mid zone index zones.Device result) (unseen : PastUnseen old mid zone index)
      (part : IsTold (past_of old) → OnOk result (HasEntryPart old (now (past_of mid)) zone index (free_bytes (kind_view old.layout.kind)))) where
    pub cleared_unseen : Unseen old mid
    cleared_unseen = unseen directory place (past_at old mid directory place zone index 0 node from below fits (next_place some) slot)

    half : (kind : Kind) (i : ℕ) → i < entries_per_block kind → entry_size kind * i / 512 < 2
    half V1Short i low = omega (arith, low)
    half V1Long i low = omega (arith, low)
    half V2Short i low = omega (arith, low)
    half V2Long i low = omega (arith, low)

    off-entry : IsTold (past_of old) → (d s : ℕ) → IsOffDirectory old directory d s → IsOther old.span.disk (old.span.start + (zone_sector zone + entry_size (kind_view old.layout.kind) * index / 512)) d s
    off-entry told d s off =
        let at = next told in
        let to = (directory-refers (super_view old.layout) (parts_now old) directory place at.may.named at.may.is zone some (sym at.lies)).to in
        let out = off.zones _ zone to in
        let low = half (kind_view old.layout.kind) index index_low in
        let at' : old.span.start + zone_sector zone + entry_size (kind_view old.layout.kind) * index / 512 ≡ old.span.start + (zone_sector zone + entry_size (kind_view old.layout.kind) * index / 512) = omega arith in
        let T : ℕ → Type 0 = λ n. IsOther old.span.disk n d s in
        subst T at' (outside_is_other old.span.disk (old.span.start + zone_sector zone) 2 (entry_size (kind_view old.layout.kind) * index / 512) d s low out)

    -- the place is filled with zeros
    pub cleared : (count : ℕ) → (IsTold (past_of old) → count ≤ places (kind_view old.layout.kind) ((parts_now old).node directory).size) → Brings old mid directory count zones.Device result
    cleared count low = record {
      unseen = cleared_unseen;
      brought = λ told. on_ok result _ _ (part told) (λ has.
          let at = next told in
          let seen = cleared_unseen.held told in
          let C : ℕ → Type 0 = λ z. ChangesZone (super_view old.layout) (parts_now old) (model.parts_of (volume_view old) (now (past_of mid))) z (with_zone_part (parts_now old) zone (entry_size (kind_view old.layout.kind) * index) (free_bytes (kind_view old.layout.kind))) in
          let change = (part_law (volume_view old) (now (past_of old)) (now (past_of mid)) zone (entry_size (kind_view old.layout.kind) * index) (free_bytes (kind_view old.layout.kind)) at.may.sound (from, below) has).change in
          let room' = seen.sees.room directory at.may.named at.may.is in
          let low' = low told in
          record {
            room = omega (arith, room', low');
            keeps = keeps_bytes (super_view old.layout) (parts_now old) (model.parts_of (volume_view old) (now (past_of mid))) directory place
                (with_zone_part (parts_now old) zone (entry_size (kind_view old.layout.kind) * index) (free_bytes (kind_view old.layout.kind))) []
                (opened (volume_view old) (now (past_of old)) at.may.sound).parts at.may.named at.may.is (λ e. some (sym at.lies ∙ e)) (subst C (sym at.lies) change);
          });
      others = λ told d s off. turns.others d s (off-entry told d s off);
      device = λ told. turns.device;
    }

  -- ---- both

  named_told : IsTold (past_of old) → Named (super_view old.layout) (parts_now old) directory
  named_told told = (next told).may.named

  more-places : (size : ℕ) → size ≡ size_to (kind_view old.layout.kind) place → place + 1 ≤ places (kind_view old.layout.kind) size
  more-places size is =
      let e = places_to (kind_view old.layout.kind) place in
      let P : ℕ → Type 0 = λ s. place + 1 ≤ places (kind_view old.layout.kind) s in
      subst P (sym is) (omega (arith, e))

  small-size : (size : ℕ) → size ≡ size_to (kind_view old.layout.kind) place → size < 2 ^ 32
  small-size size is = let S : ℕ → Type 0 = λ s. s < 2 ^ 32 in subst S (sym is) fits-size.1

  -- a place in a hole
  pub next_in_hole : zone ≡ 0 → FitsInode (kind_view old.layout.kind) node → (new : Volume D disks) (size : ℕ) → size ≡ size_to (kind_view old.layout.kind) place → (result : Result (Unit {0}) ZoneFault)
      → TurnsInode old new directory (with_size node size) zones.Device result → ((IsTold (past_of old) → MayHaveSize old directory node size) → Unseen old new)
      → Brings old new directory (place + 1) zones.Device result
  next_in_hole none fits new size is result turns unseen =
      let M : ℕ → Type 0 = λ s. IsTold (past_of old) → MayHaveSize old directory node s in
      let may = subst M (sym is) (hole_size none) in
      raised old new directory size node fits (small-size size is) result turns (place + 1) (more-places size is) may (unseen may)

  -- one in a zone
  module _ (some : zone ≢ 0) (range : View.IsDataZone old.layout zone) (fits : FitsInode (kind_view old.layout.kind) node)
      (mid : Volume D disks) (index : ℕ) (index_low : index < entries_per_block (kind_view old.layout.kind)) (slot : index ≡ place % entries_per_block (kind_view old.layout.kind)) (unseen : PastUnseen old mid zone index) where
    pub next_uncleared : (fault : ZoneFault) → TurnsFreeEntry old mid zone index zones.Device (Err fault) → Brings old mid directory (place + 1) zones.Device (Err fault)
    next_uncleared fault turns =
        let brings = cleared some range.from range.below fits mid index index_low slot (Err fault) turns unseen (λ told. tt) 0 (λ told. omega arith) in
        record { unseen = brings.unseen; brought = λ told. tt; others = brings.others; device = brings.device }

    pub next_in_zone : TurnsFreeEntry old mid zone index zones.Device (Ok tt) → PastFree {E = ZoneFault} old mid zone index (Ok tt) → (IsTold (past_of old) → HasEntryPart old (now (past_of mid)) zone index (free_bytes (kind_view old.layout.kind)))
        → (new : Volume D disks) (size : ℕ) → size ≡ size_to (kind_view old.layout.kind) place → (result : Result (Unit {0}) ZoneFault)
        → TurnsInode mid new directory (with_size node size) zones.Device result → ((IsTold (past_of mid) → MayHaveSize mid directory node size) → Unseen mid new)
        → Brings old new directory (place + 1) zones.Device result
    next_in_zone turns free part new size is result turns' unseen' =
        let first' : Unseen old mid = cleared_unseen some range.from range.below fits mid index index_low slot (Ok tt) turns unseen part in
        let may = may_have_size old mid directory place zone index size node range.from range.below fits (next_place some) slot is fits-size.0 fits-size.1 unseen free part in
        let fits' = view_after old mid (λ view. FitsInode view.layout.kind node) first' fits in
        let more = view_after old mid (λ view. place + 1 ≤ places view.layout.kind size) first' (more-places size is) in
        brings_join old mid new directory 0 (place + 1) zones.Device result named_told
        (cleared some range.from range.below fits mid index index_low slot (Ok tt) turns unseen part 0 (λ told. omega arith))
        (raised mid new directory size node fits' (small-size size is) result turns' (place + 1) more may (unseen' may))

-- ---- a place of which it was read where it lies

pub same_self : {D : Type 0} {disks : Ghosts D} (volume : Volume D disks) → SameVolume volume volume
same_self volume = record {
  same_disks = record { same_past = refl; same_size = refl; same_count = refl; same_geometry = refl };
  same_span = refl;
  same_layout = refl;
  same_reference = refl;
}

module _ {D : Type 0} {disks : Ghosts D} (old mid : Volume D disks) (directory place : ℕ) (room : place < most_places (kind_view old.layout.kind)) (quiet : IsQuiet (past_of old)) (same : SameVolume old mid) (later : faults_of old ≤ faults_of mid)
    (may : IsTold (past_of old) → MayBring old directory place) where
  in_told : IsTold (past_of old) → IsInDirectory old directory place
  in_told told = record { sound = (may told).sound; named = (may told).named; is = (may told).is; near = near_most (kind_view old.layout.kind) place room }

  sound_told : IsTold (past_of old) → IsSound (volume_view old) (now (past_of old))
  sound_told told = (may told).sound

  pub read_refused : (fault : WriteFault) → GivesPlace old directory place (Err fault) → HasWriteCause (faults_of old) (faults_of mid) fault → Brings old mid directory (place + 1) refusals.Device (Err fault)
  read_refused fault gives cause =
      brings_refused old mid directory (place + 1) refusals.Device quiet sound_told same later fault (λ told.
      let is : fault ≡ refusals.Device = gives told (in_told told) in
      let C : WriteFault → Type 0 = λ f. HasWriteCause (faults_of old) (faults_of mid) f in
      (is, subst C is cause))

  module _ (at : PlaceAt) (gives : GivesPlace old directory place (Ok at)) (have : ℕ) (is : have ≡ places (kind_view old.layout.kind) (inode_view at.node).size) where
    have_now : IsTold (past_of old) → have ≡ places (kind_view old.layout.kind) ((parts_now old).node directory).size
    have_now told = is ∙ ap (λ (i : Inode). places (kind_view old.layout.kind) i.size) (gives told (in_told told)).0

    pub read_below : place < have → Brings old mid directory (place + 1) refusals.Device (Ok tt)
    read_below below = brings_same old mid directory (place + 1) refusals.Device quiet sound_told same later (λ told. let e = have_now told in omega (arith, e, below))

    pub next_at : have ≤ place → IsTold (past_of mid) → IsNextAt mid directory (inode_view at.node) place at.zone
    next_at past told =
        let told' : IsTold (past_of old) = subst IsTold same.same_disks.same_past told in
        let m = may told' in
        let found = gives told' (in_told told') in
        let F : model.Volume → Image → Type 0 = λ view image. IsSound view image × Named view.layout (model.parts_of view image) directory × (is_directory ((model.parts_of view image).node directory) ≡ true)
        × (blocks_for ((model.parts_of view image).node directory).size ≤ reach view.layout.kind) × (place ≤ places view.layout.kind ((model.parts_of view image).node directory).size)
        × ((model.parts_of view image).node directory ≡ inode_view at.node) × (zone_of_entry view.layout (model.parts_of view image) directory place ≡ at.zone)
        × (place ≡ places view.layout.kind (inode_view at.node).size) in
        let V : model.Volume → Type 0 = λ view. F view (now (past_of old)) in
        let I : Option Past → Type 0 = λ past'. F (volume_view mid) (now past') in
        let low = m.low in
        let e = have_now told' in
        let here : F (volume_view old) (now (past_of old)) = (m.sound, m.named, m.is, m.reaches, m.low, sym found.0, found.1, omega (arith, low, e, past, is)) in
        let f = subst I (sym same.same_disks.same_past) (subst V (sym (same_view old mid (keeps_same old mid same))) here) in
        record { may = record { sound = f.0; named = f.1; is = f.2; reaches = f.3; low = f.4 }; is = f.5; next = f.7; lies = f.6 }

    pub read_then : (new : Volume D disks) (result : Result (Unit {0}) WriteFault) → Brings mid new directory (place + 1) refusals.Device result → Brings old new directory (place + 1) refusals.Device result
    read_then new result brings =
        brings_join old mid new directory 0 (place + 1) refusals.Device result (λ told. (may told).named)
        (brings_same old mid directory 0 refusals.Device quiet sound_told same later (λ told. omega arith))
        brings

-- ---- places one after another

-- so many places or fewer lie there
pub brings_fewer : {D E : Type 0} {disks : Ghosts D} (old new : Volume D disks) (directory count fewer : ℕ) (error : E) (result : Result (Unit {0}) E) → fewer ≤ count → Brings old new directory count error result → Brings old new directory fewer error result
brings_fewer old new directory count fewer error result low brings = record {
  unseen = brings.unseen;
  brought = λ told. on_ok result _ _ (brings.brought told) (λ b. record { room = let r = b.room in omega (arith, r, low); keeps = b.keeps });
  others = brings.others;
  device = brings.device;
}

pub brings_failed : {D E : Type 0} {disks : Ghosts D} (old new : Volume D disks) (directory count other : ℕ) (error fault : E) → Brings old new directory count error (Err fault) → Brings old new directory other error (Err fault)
brings_failed old new directory count other error fault brings = record { unseen = brings.unseen; brought = λ told. tt; others = brings.others; device = brings.device }

module _ {D : Type 0} {disks : Ghosts D} (old : Volume D disks) (directory have : ℕ) (quiet : IsQuiet (past_of old)) (may : IsTold (past_of old) → MayBring old directory have) where
  -- as many as lay there
  pub bring_none : (fewer : ℕ) → fewer ≤ have → Brings old old directory fewer refusals.Device (Ok tt)
  bring_none fewer low =
      brings_same old old directory fewer refusals.Device quiet (λ told. (may told).sound) (same_self old) (omega arith) (λ told. let l = (may told).low in omega (arith, l, low))

  pub bring_no_room : (count : ℕ) (fault : WriteFault) → (IsTold (past_of old) → ⊥) → Brings old old directory count refusals.Device (Err fault)
  bring_no_room count fault never =
      brings_refused old old directory count refusals.Device quiet (λ told. (may told).sound) (same_self old) (omega arith) fault (λ told. absurd (never told))

  -- the next one may be brought
  pub may_next : (mid : Volume D disks) (next : ℕ) → Brings old mid directory next refusals.Device (Ok tt) → IsTold (past_of mid) → MayBring mid directory next
  may_next mid next brings told =
      let told' = brings.unseen.goes_on.told_before told in
      let m = may told' in
      let seen = brings.unseen.held told' in
      let F : model.Volume → Type 0 = λ view. IsSound view (now (past_of mid)) × Named view.layout (model.parts_of view (now (past_of mid))) directory × (is_directory ((model.parts_of view (now (past_of mid))).node directory) ≡ true)
      × (blocks_for ((model.parts_of view (now (past_of mid))).node directory).size ≤ reach view.layout.kind) × (next ≤ places view.layout.kind ((model.parts_of view (now (past_of mid))).node directory).size) in
      let here : F (volume_view old) = (
        seen.sound,
        named-new (super_view old.layout) (parts_now old) (model.parts_of (volume_view old) (now (past_of mid))) seen.sees directory m.named,
        directory-same (super_view old.layout) (parts_now old) (model.parts_of (volume_view old) (now (past_of mid))) seen.sees directory m.named ∙ m.is,
        seen.sees.reaches directory m.named m.is m.reaches,
        (brings.brought told').room,
      ) in
      let f = subst F (sym (same_view old mid brings.unseen.kept)) here in
      record { sound = f.0; named = f.1; is = f.2; reaches = f.3; low = f.4 }

  pub bring_on : (mid new : Volume D disks) (next count : ℕ) (result : Result (Unit {0}) WriteFault) → Brings old mid directory next refusals.Device (Ok tt) → Brings mid new directory count refusals.Device result → Brings old new directory count refusals.Device result
  bring_on mid new next count result first' second = brings_join old mid new directory next count refusals.Device result (λ told. (may told).named) first' second
