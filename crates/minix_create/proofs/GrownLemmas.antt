-- What calls leave by which a directory grows for what is chosen.
use Rattle.std.proofs.Common.{◌≡◌, ◌≢◌, ◌≤◌, ◌<◌, ◌-◌, ◌/◌, ◌^◌, ◌⊎◌, ℕ, true, List, [], Option, Result, Ok, Err, refl, sym, ◌∙◌, ap, subst, arith, inl, inr, ⊎_elim}
use Rattle.std.specs.Prelude.{slice_index}
use Rattle.std.proofs.lemmas.Bool.{cases_eq, cases_lt}
use Rattle.disk_trait.specs.declared.disks.Disks.{Ghosts}
use Rattle.disk_trait.specs.Past.{Image, Past}
use Rattle.disk_trait.specs.Moments.{IsTold, now, begun, IsQuiet}
use Rattle.disk_trait.specs.NotWritten.{NotWritten}
use Rattle.disk_trait.proofs.LawLemmas.{quiet_begun}
use Rattle.disk_trait.proofs.MomentLemmas.{on_ok}
use Rattle.disk_trait.proofs.NotWrittenLemmas.{not_written_none, not_written_join}
use Rattle.lilo_model.specs.MinixEntries.{entries_per_block, places}
use Rattle.lilo_model.specs.MinixLayout.{Kind, V1Short, V1Long, V2Short, V2Long, Super, Inode, FitsInode, is_size, numbers_in_zone}
use Rattle.lilo_model.specs.MinixNames.{PointsTo, Refers, IsSound}
use Rattle.lilo_model.specs.MinixParts as model
use Rattle.lilo_model.specs.MinixParts.{Parts, Pointer, IsPointer, is_directory, blocks_for, parts_of, block_pointer, pointer_with}
use Rattle.lilo_model.specs.MinixWalk.{branch_of, place_in_branch, stop_pointer}
use Rattle.minix_change_laws.specs.Beside.{Beside}
use Rattle.minix_change_laws.proofs.Beside.{named_law}
use Rattle.minix_choice_laws.proofs.Stay.{free_still}
use Rattle.minix_change_laws.specs.Only.{zone_of_entry}
use Rattle.minix_change_laws.proofs.Blocks.{block-below}
use Rattle.minix_grow.specs.Grow as grow
use Rattle.minix_grow.specs.Others.{KeepsOthers, KeepsOthersNow}
use Rattle.minix_grow.specs.Places.{IsFreePlace}
use Rattle.minix_grow.specs.Way.{depth_of, pointer_above, number_on_way, number_above}
use Rattle.minix_grow.specs.Zones.{AreData}
use Rattle.minix_grow.proofs.CompleteLemmas.{way_is_pointer}
use Rattle.minix_grow.proofs.KeepLemmas.{keeps_wider, one_of_none}
use Rattle.minix_grow.proofs.KeepsNowLemmas.{no_call_keeps, keeps_after}
use Rattle.minix_grow.proofs.OtherLemmas.{all_off_stay}
use Rattle.minix_grow.proofs.WayLemmas.{pointer_highest}
use Rattle.minix_layout.specs.View.{kind_view, super_view, inode_view}
use Rattle.minix_layout.specs.declared.superblock.Super as layouts
use Rattle.minix_change_laws.specs.Sees.{SeenAsIn}
use Rattle.minix_change_laws.proofs.Inode.{directory-zones}
use Rattle.minix_change_laws.proofs.Seen.{seen_beside_law}
use Rattle.minix_change_laws.proofs.Sees.{directory-same, named-old, named-new}
use Rattle.minix_steps.specs.Steps.{Steps}
use Rattle.minix_steps.specs.Written.{parts_now}
use Rattle.minix_steps.proofs.StepLemmas.{same_view}
use Rattle.minix_turns.specs.Joined.{Unseen}
use Rattle.minix_turns.proofs.JoinedLemmas.{unseen_join}
use Rattle.minix_choice.specs.View.{HasWriteCause, zone_refusal}
use Rattle.minix_choice.specs.declared.write_fault.WriteFault.{WriteFault}
use Rattle.minix_choice.specs.declared.write_fault.WriteFault.TheVariants as refusals
use Rattle.minix_zones.specs.Volume.{volume_view, past_of, faults_of, SameVolume}
use Rattle.minix_zones.specs.declared.volume.Volume.{Volume}
use Rattle.minix_zones.specs.declared.zone_fault.ZoneFault.{ZoneFault}
use Rattle.minix_zones.proofs.WriteLemmas.{keeps_same}
use Rattle.write_model.specs.Places.{most_places}
use Rattle.minix_create.specs.Brought.{IsInDirectory, GivesPlace, MayBring, IsOffDirectory, Brings}
use Rattle.minix_create.specs.Grown.{MayGrowIn, MayGrowNow, LiesNow, MayGoTo, IsLastNow, GrowsChosen}
use Rattle.minix_create.specs.declared.chosen.Chosen.{Chosen}
use Rattle.minix_create.specs.declared.place_at.PlaceAt.{PlaceAt}
use Rattle.minix_create.proofs.BroughtLemmas.{near_most, device_of, points_was, off_later, same_unseen, same_others, same_self}

-- ---- numbers on the way

-- past the highest level the way has no more
pointer-past : (kind : Kind) (block level : ℕ) → depth_of kind block < level → pointer_above kind block level ≡ pointer_above kind block (depth_of kind block)
unfolding stop_pointer
pointer-past kind block level past =
    let per : ℕ = numbers_in_zone kind in
    let top : ℕ = (branch_of per block).top in
    let e : depth_of kind block - level ≡ 0 = omega (arith, past) in
    let T : ℕ → Pointer = λ d. pointer_with per top d (place_in_branch per block / per ^ level) in
    ap T e ∙ sym (pointer_highest kind block)

any-pointer : (super : Super) (block level : ℕ) → IsPointer super.kind (pointer_above super.kind block level)
any-pointer super block level = ⊎_elim
    (λ past. subst (IsPointer super.kind) (sym (pointer-past super.kind block level past)) (way_is_pointer super block (depth_of super.kind block) (omega arith)))
    (λ low. way_is_pointer super block level low)
    (cases_lt (depth_of super.kind block) level)

-- a number that is there is a pointer of the directory
pub way_points : (super : Super) (parts : Parts) (directory block level : ℕ) → is_directory (parts.node directory) ≡ true → number_above super parts directory block level ≢ 0
    → PointsTo super parts directory (pointer_above super.kind block level) (number_above super parts directory block level)
way_points super parts directory block level is some = record { kind = directory-zones parts directory is; place = any-pointer super block level; is = refl; some = some }

-- ---- what may grow still may

module _ (view : model.Volume) (old new : Image) (directory place : ℕ) (growth : List ℕ) (may : MayGrowIn view old directory place growth) (seen : SeenAsIn view old new)
    (back : (number : ℕ) (at : Pointer) (zone : ℕ) → Refers view.layout (parts_of view new) number at zone → Refers view.layout (parts_of view old) number at zone) where
  abbrev Was : Parts
  Was = parts_of view old

  abbrev Is : Parts
  Is = parts_of view new

  hole-was : (block level : ℕ) → number_above view.layout Is directory block level ≡ 0 → number_above view.layout Was directory block level ≡ 0
  hole-was block level hole = by (cases_eq (number_above view.layout Was directory block level) 0)
    where
      by : (number_above view.layout Was directory block level ≡ 0) ⊎ (number_above view.layout Was directory block level ≢ 0) → number_above view.layout Was directory block level ≡ 0
      by (inl none) = none
      by (inr some) =
          let to = seen.sees.stays directory (pointer_above view.layout.kind block level) _ (record { named = may.named; to = way_points view.layout Was directory block level may.is some }) may.is in
          absurd (some (sym to.is ∙ hole))

  pub may_grow_still : MayGrowIn view new directory place growth
  may_grow_still = record {
    sound = seen.sound;
    named = named-new view.layout Was Is seen.sees directory may.named;
    is = directory-same view.layout Was Is seen.sees directory may.named ∙ may.is;
    reaches = seen.sees.reaches directory may.named may.is may.reaches;
    free = free_still view old new directory may.named may.is seen place may.free;
    near = λ past. may.near (let room = seen.sees.room directory may.named may.is in omega (arith, room, past));
    growth_is = record {
      from = may.growth_is.from;
      below = may.growth_is.below;
      apart = may.growth_is.apart;
      enough = λ level low hole. may.growth_is.enough level low (hole-was _ level hole);
      unused = λ level low hole number at refers. may.growth_is.unused level low (hole-was _ level hole) number at (back number at _ refers);
    };
  }

-- beside what is sound, and where no named inode gets a pointer
pub may_grow_beside : (view : model.Volume) (old new : Image) (directory place : ℕ) (growth : List ℕ) → MayGrowIn view old directory place growth → Beside view old new → MayGrowIn view new directory place growth
may_grow_beside view old new directory place growth may beside =
    may_grow_still view old new directory place growth may (seen_beside_law view old new may.sound beside)
    (λ number at zone refers. ((named_law view old new may.sound beside).refers number at zone).0 refers)

pub may_grow_kept : (view : model.Volume) (old new : Image) (directory place : ℕ) (growth : List ℕ) → MayGrowIn view old directory place growth → SeenAsIn view old new
    → KeepsOthers view.layout (parts_of view old) (parts_of view new) directory [] → MayGrowIn view new directory place growth
may_grow_kept view old new directory place growth may seen keeps =
    may_grow_still view old new directory place growth may seen
    (λ number at zone refers.
    let named = named-old view.layout (parts_of view old) (parts_of view new) seen.sees number refers.named in
    record { named = named; to = points_was zone (keeps.points number at zone named refers.to) })

-- ---- on a volume

-- at the last flush, after steps
pub may_grow_steps : {D : Type 0} {disks : Ghosts D} (old new : Volume D disks) (directory place : ℕ) (growth : List ℕ) → Steps old new
    → (IsTold (past_of old) → MayGrowIn (volume_view old) (begun (past_of old)) directory place growth) → IsTold (past_of new) → MayGrowIn (volume_view new) (begun (past_of new)) directory place growth
may_grow_steps old new directory place growth steps may told =
    let before = steps.goes_on.told_before told in
    let P : model.Volume → Type 0 = λ view. MayGrowIn view (begun (past_of new)) directory place growth in
    subst P (sym (same_view old new steps.kept)) (may_grow_beside (volume_view old) (begun (past_of old)) (begun (past_of new)) directory place growth (may before) (steps.beside before))

-- and now, where that is durable
pub may_grow_begun : {D : Type 0} {disks : Ghosts D} (volume : Volume D disks) (chosen : Chosen) → begun (past_of volume) ≡ now (past_of volume)
    → MayGrowIn (volume_view volume) (begun (past_of volume)) chosen.directory chosen.choice.place chosen.choice.growth → MayGrowNow volume chosen
may_grow_begun volume chosen same = subst (λ image. MayGrowIn (volume_view volume) image chosen.directory chosen.choice.place chosen.choice.growth) same

pub may_grow_then : {D : Type 0} {disks : Ghosts D} (volume : Volume D disks) (chosen : Chosen) → begun (past_of volume) ≡ now (past_of volume) → MayGrowNow volume chosen
    → MayGrowIn (volume_view volume) (begun (past_of volume)) chosen.directory chosen.choice.place chosen.choice.growth
may_grow_then volume chosen same = subst (λ image. MayGrowIn (volume_view volume) image chosen.directory chosen.choice.place chosen.choice.growth) (sym same)

-- its place may be read
pub grows_in : {D : Type 0} {disks : Ghosts D} (volume : Volume D disks) (chosen : Chosen) → MayGrowNow volume chosen → IsInDirectory volume chosen.directory chosen.choice.place
grows_in volume chosen may = record {
  sound = may.sound;
  named = may.named;
  is = may.is;
  near = ⊎_elim
      (λ low.
      let b = block-below (kind_view volume.layout.kind) ((parts_now volume).node chosen.directory).size chosen.choice.place low in
      let few = may.reaches in
      omega (arith, b, few))
      (λ past. near_most (kind_view volume.layout.kind) chosen.choice.place (may.near past))
      (cases_lt chosen.choice.place (places (kind_view volume.layout.kind) ((parts_now volume).node chosen.directory).size));
}

-- what is said of a volume is said of it once it was read
pub same_at : {D : Type 0} {disks : Ghosts D} (old mid : Volume D disks) → SameVolume old mid → (P : model.Volume → Image → Type 0) → P (volume_view old) (now (past_of old)) → P (volume_view mid) (now (past_of mid))
same_at old mid same P holds =
    let V : model.Volume → Type 0 = λ view. P view (now (past_of old)) in
    let I : Option Past → Type 0 = λ past. P (volume_view mid) (now past) in
    subst I (sym same.same_disks.same_past) (subst V (sym (same_view old mid (keeps_same old mid same))) holds)

pub may_grow_read : {D : Type 0} {disks : Ghosts D} (old mid : Volume D disks) (chosen : Chosen) → SameVolume old mid → MayGrowNow old chosen → MayGrowNow mid chosen
may_grow_read old mid chosen same = same_at old mid same (λ view image. MayGrowIn view image chosen.directory chosen.choice.place chosen.choice.growth)

-- ---- calls in a row

module _ {D : Type 0} {disks : Ghosts D} (old mid new : Volume D disks) (chosen : Chosen) (may : IsTold (past_of old) → MayGrowNow old chosen) (unseen : Unseen old mid)
    (keeps : IsTold (past_of old) → KeepsOthersNow old mid chosen.directory []) (others : IsTold (past_of old) → (d s : ℕ) → IsOffDirectory old chosen.directory d s → NotWritten (past_of old) (past_of mid) d s) where
  pub grows_join : (result : Result (Unit {0}) WriteFault) → GrowsChosen mid new chosen result → GrowsChosen old new chosen result
  grows_join result grows = record {
    unseen = unseen_join old mid new unseen grows.unseen;
    free = λ told. grows.free (unseen.goes_on.told told);
    keeps = λ told. on_ok result _ _ (grows.keeps (unseen.goes_on.told told))
        (keeps_after old mid new chosen.directory chosen.choice.growth unseen told
        (keeps_wider (super_view old.layout) (parts_now old) (parts_of (volume_view old) (now (past_of mid))) chosen.directory [] chosen.choice.growth (one_of_none chosen.choice.growth) (keeps told)));
    others = λ told d s off.
        not_written_join (past_of old) (past_of mid) (past_of new) d s (others told d s off.directory)
        (grows.others (unseen.goes_on.told told) d s (record {
          directory = off_later old mid chosen.directory unseen.kept (λ at zone to. points_was zone ((keeps told).points chosen.directory at zone (may told).named to)) d s off.directory;
          zones = all_off_stay old mid unseen.kept chosen.choice.growth d s off.zones;
        }));
    device = λ told. device_of old mid new refusals.Device result unseen.goes_on.later (grows.device (unseen.goes_on.told told));
  }

-- ---- a volume that was read

module _ {D : Type 0} {disks : Ghosts D} (old mid : Volume D disks) (chosen : Chosen) (quiet : IsQuiet (past_of old)) (may : IsTold (past_of old) → MayGrowNow old chosen) (same : SameVolume old mid) (later : faults_of old ≤ faults_of mid) where
  read-unseen : Unseen old mid
  read-unseen = same_unseen old mid quiet (λ told. (may told).sound) same later

  read-keeps : (growth : List ℕ) → KeepsOthersNow old mid chosen.directory growth
  read-keeps growth =
      let I : Option Past → Type 0 = λ past. KeepsOthers (super_view old.layout) (parts_now old) (parts_of (volume_view old) (now past)) chosen.directory growth in
      subst I (sym same.same_disks.same_past) (no_call_keeps old chosen.directory growth)

  -- then it grows
  pub grows_read : (new : Volume D disks) (result : Result (Unit {0}) WriteFault) → GrowsChosen mid new chosen result → GrowsChosen old new chosen result
  grows_read new result = grows_join old mid new chosen may read-unseen (λ told. read-keeps []) (λ told d s off. same_others old mid quiet (λ told'. (may told').sound) same later d s) result

  -- or it was refused
  pub grows_unread : (fault : WriteFault) → GivesPlace old chosen.directory chosen.choice.place (Err fault) → HasWriteCause (faults_of old) (faults_of mid) fault → GrowsChosen old mid chosen (Err fault)
  grows_unread fault gives cause = record {
    unseen = read-unseen;
    free = λ told. tt;
    keeps = λ told. tt;
    others = λ told d s off. same_others old mid quiet (λ told'. (may told').sound) same later d s;
    device = λ told.
        let is : fault ≡ refusals.Device = gives told (grows_in old chosen (may told)) in
        let C : WriteFault → Type 0 = λ f. HasWriteCause (faults_of old) (faults_of mid) f in
        (is, subst C is cause);
  }

  module _ (at : PlaceAt) (gives : GivesPlace old chosen.directory chosen.choice.place (Ok at)) (have : ℕ) (is : have ≡ places (kind_view old.layout.kind) (inode_view at.node).size) where
    node-at : IsTold (past_of old) → inode_view at.node ≡ (parts_now old).node chosen.directory
    node-at told = (gives told (grows_in old chosen (may told))).0

    zone-at : IsTold (past_of old) → zone_of_entry (super_view old.layout) (parts_now old) chosen.directory chosen.choice.place ≡ at.zone
    zone-at told = (gives told (grows_in old chosen (may told))).1

    have-at : IsTold (past_of old) → have ≡ places (kind_view old.layout.kind) ((parts_now old).node chosen.directory).size
    have-at told = is ∙ ap (λ (i : Inode). places (kind_view old.layout.kind) i.size) (node-at told)

    -- the place is there
    pub grows_there : chosen.choice.place < have → at.zone ≢ 0 → GrowsChosen old mid chosen (Ok tt)
    grows_there low some = record {
      unseen = read-unseen;
      free = λ told.
          let m = may told in
          let e = have-at told in
          let below : chosen.choice.place < places (kind_view old.layout.kind) ((parts_now old).node chosen.directory).size = omega (arith, low, e) in
          same_at old mid same (λ view image. IsFreePlace view image chosen.directory chosen.choice.place)
          (record {
            placed = record { named = m.named; is = m.is; reached = m.reaches; below = below; some = λ none. some (sym (zone-at told) ∙ none) };
            free = m.free below;
          });
      keeps = λ told. read-keeps chosen.choice.growth;
      others = λ told d s off. same_others old mid quiet (λ told'. (may told').sound) same later d s;
      device = λ told. tt;
    }

    -- it isn't
    pub not_there : (chosen.choice.place < have → at.zone ≡ 0) → IsTold (past_of old) → LiesNow old chosen → ⊥
    not_there hole told lies =
        let e = have-at told in
        let below = lies.below in
        lies.some (zone-at told ∙ hole (omega (arith, e, below)))

    pub may_go : IsTold (past_of mid) → MayGoTo mid chosen have
    may_go told =
        let before = subst IsTold same.same_disks.same_past told in
        record {
          may = may_grow_read old mid chosen same (may before);
          have_is = same_at old mid same (λ view image. have ≡ places view.layout.kind ((parts_of view image).node chosen.directory).size) (have-at before);
        }

-- ---- the places before it

module _ {D : Type 0} {disks : Ghosts D} (old : Volume D disks) (chosen : Chosen) (have : ℕ) (may : IsTold (past_of old) → MayGoTo old chosen have) where
  pub go_brings : IsTold (past_of old) → MayBring old chosen.directory have
  go_brings told =
      let m = (may told).may in
      let e = (may told).have_is in
      record { sound = m.sound; named = m.named; is = m.is; reaches = m.reaches; low = omega (arith, e) }

  pub go_near : IsTold (past_of old) → have ≤ chosen.choice.place → chosen.choice.place < most_places (kind_view old.layout.kind)
  go_near told past = let e = (may told).have_is in (may told).may.near (omega (arith, e, past))

  pub grows_unbrought : (mid : Volume D disks) (fault : WriteFault) → Brings old mid chosen.directory chosen.choice.place refusals.Device (Err fault) → GrowsChosen old mid chosen (Err fault)
  grows_unbrought mid fault brings = record {
    unseen = brings.unseen;
    free = λ told. tt;
    keeps = λ told. tt;
    others = λ told d s off. brings.others told d s off.directory;
    device = brings.device;
  }

  module _ (mid : Volume D disks) (brings : Brings old mid chosen.directory chosen.choice.place refusals.Device (Ok tt)) where
    pub may_brought : IsTold (past_of mid) → MayGrowNow mid chosen
    may_brought told =
        let before = brings.unseen.goes_on.told_before told in
        let P : model.Volume → Type 0 = λ view. MayGrowIn view (now (past_of mid)) chosen.directory chosen.choice.place chosen.choice.growth in
        subst P (sym (same_view old mid brings.unseen.kept))
        (may_grow_kept (volume_view old) (now (past_of old)) (now (past_of mid)) chosen.directory chosen.choice.place chosen.choice.growth (may before).may (brings.unseen.held before) (brings.brought before).keeps)

    room-mid : IsTold (past_of mid) → chosen.choice.place ≤ places (kind_view mid.layout.kind) ((parts_now mid).node chosen.directory).size
    room-mid told =
        let P : model.Volume → Type 0 = λ view. chosen.choice.place ≤ places view.layout.kind ((parts_of view (now (past_of mid))).node chosen.directory).size in
        subst P (sym (same_view old mid brings.unseen.kept)) (brings.brought (brings.unseen.goes_on.told_before told)).room

    pub grows_brought : (new : Volume D disks) (result : Result (Unit {0}) WriteFault) → GrowsChosen mid new chosen result → GrowsChosen old new chosen result
    grows_brought new result = grows_join old mid new chosen (λ told. (may told).may) brings.unseen (λ told. (brings.brought told).keeps) brings.others result

    -- its directory is read
    module _ (read : Volume D disks) (same : SameVolume mid read) (at : PlaceAt) (gives : GivesPlace mid chosen.directory chosen.choice.place (Ok at)) where
      pub is_last : IsTold (past_of read) → IsLastNow read chosen (inode_view at.node)
      is_last told =
          let before = subst IsTold same.same_disks.same_past told in
          let found = (gives before (grows_in mid chosen (may_brought before))).0 in
          let R : Inode → Type 0 = λ i. chosen.choice.place ≤ places (kind_view mid.layout.kind) i.size in
          let K : layouts.Super → Type 0 = λ layout. chosen.choice.place ≤ places (kind_view layout.kind) (inode_view at.node).size in
          record {
            may = may_grow_read mid read chosen same (may_brought before);
            is = same_at mid read same (λ view image. (parts_of view image).node chosen.directory ≡ inode_view at.node) (sym found);
            next = subst K (sym same.same_layout) (subst R (sym found) (room-mid before));
          }

-- ---- the last one

-- a place below a size is one that a directory can have
below-most : (kind : Kind) (place size : ℕ) → is_size kind size ≡ true → size < 2 ^ 32 → place < places kind size → place < most_places kind
below-most V1Short place size sized small low = let few : size ≤ 268966912 = grind (arith) in omega (arith, few, low)
below-most V1Long place size sized small low = let few : size ≤ 268966912 = grind (arith) in omega (arith, few, low)
below-most V2Short place size sized small low = omega (arith, small, low)
below-most V2Long place size sized small low = omega (arith, small, low)

module _ {D : Type 0} {disks : Ghosts D} (old : Volume D disks) (chosen : Chosen) (node : Inode) (quiet : IsQuiet (past_of old)) (last : IsTold (past_of old) → IsLastNow old chosen node) where
  abbrev Block : ℕ
  Block = chosen.choice.place / entries_per_block (kind_view old.layout.kind)

  pub last_may : IsTold (past_of old) → grow.MayGrowNow old chosen.directory node chosen.choice.place chosen.choice.growth
  last_may told =
      let l = last told in
      let m = l.may in
      record {
        lies = record { sound = m.sound; is = l.is; named = m.named };
        is = m.is;
        free = λ below. let P : Inode → Type 0 = λ i. chosen.choice.place < places (kind_view old.layout.kind) i.size in m.free (subst P (sym l.is) below);
        enough = m.growth_is.enough;
      }

  pub last_sound : IsTold (past_of old) → IsSound (volume_view old) (now (past_of old))
  last_sound told = (last told).may.sound

  pub last_unused : grow.AreUnusedWhereMissing old node Block chosen.choice.growth
  last_unused level low missing = record {
    unused = λ told number at refers.
        let l = last told in
        let N : Inode → Type 0 = λ i. number_on_way (super_view old.layout) (parts_now old) i Block level ≡ 0 in
        let P : Image → Type 0 = λ image. Refers (super_view old.layout) (parts_of (volume_view old) image) number at (slice_index chosen.choice.growth level) in
        l.may.growth_is.unused level low (subst N (sym l.is) (missing told)) number at (subst P (quiet_begun (past_of old) told quiet) refers);
  }

  pub last_data : IsTold (past_of old) → AreData old.layout chosen.choice.growth
  last_data told = let g = (last told).may.growth_is in record { from = g.from; below = g.below; apart = g.apart }

  -- so there is room
  pub last_room : FitsInode (kind_view old.layout.kind) node → is_size (kind_view old.layout.kind) node.size ≡ true → IsTold (past_of old)
      → (chosen.choice.place < most_places (kind_view old.layout.kind)) × (chosen.choice.place ≤ places (kind_view old.layout.kind) node.size) × AreData old.layout chosen.choice.growth
  last_room fits sized told =
      let l = last told in
      let P : Inode → Type 0 = λ i. places (kind_view old.layout.kind) i.size ≤ chosen.choice.place → chosen.choice.place < most_places (kind_view old.layout.kind) in
      let near : places (kind_view old.layout.kind) node.size ≤ chosen.choice.place → chosen.choice.place < most_places (kind_view old.layout.kind) = subst P l.is l.may.near in (
        ⊎_elim (λ low. below-most (kind_view old.layout.kind) chosen.choice.place node.size sized fits.size_fits low) near (cases_lt chosen.choice.place (places (kind_view old.layout.kind) node.size)),
        l.next,
        last_data told,
      )

  -- there was none
  pub no_room : (fault : WriteFault) → (IsTold (past_of old) → ⊥) → GrowsChosen old old chosen (Err fault)
  no_room fault never = record {
    unseen = same_unseen old old quiet last_sound (same_self old) (omega arith);
    free = λ told. tt;
    keeps = λ told. tt;
    others = λ told d s off. not_written_none (past_of old) d s;
    device = λ told. absurd (never told);
  }

  off-way : IsTold (past_of old) → (d s : ℕ) → IsOffDirectory old chosen.directory d s → grow.IsOffWay old chosen.directory Block d s
  off-way told d s off level low some = off.zones _ _ (way_points (super_view old.layout) (parts_now old) chosen.directory Block level (last told).may.is some)

  -- it grew, or the disk failed
  pub last_grown : (new : Volume D disks) → grow.GrowsTo old new chosen.directory chosen.choice.place chosen.choice.growth (Ok tt) → GrowsChosen old new chosen (Ok tt)
  last_grown new grows = record {
    unseen = grows.unseen;
    free = grows.free;
    keeps = grows.keeps;
    others = λ told d s off. grows.others told d s off.zones (off-way told d s off.directory) off.directory.inode;
    device = λ told. tt;
  }

  pub last_failed : (new : Volume D disks) (fault : ZoneFault) → grow.GrowsTo old new chosen.directory chosen.choice.place chosen.choice.growth (Err fault) → GrowsChosen old new chosen (Err (zone_refusal fault))
  last_failed new fault grows = record {
    unseen = grows.unseen;
    free = λ told. tt;
    keeps = λ told. tt;
    others = λ told d s off. grows.others told d s off.zones (off-way told d s off.directory) off.directory.inode;
    device = λ told. (ap zone_refusal (grows.device told).0, (grows.device told).1);
  }
