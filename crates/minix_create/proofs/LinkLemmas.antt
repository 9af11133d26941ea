-- What the call leaves that makes the name of a file.
use Rattle.std.proofs.Common.{◌≡◌, ◌≢◌, ◌≤◌, ◌<◌, ◌+◌, ◌*◌, ◌/◌, ◌%◌, ◌⊎◌, ℕ, true, List, ◌∷◌, Option, Some, None, Result, Ok, Err, OnOk, refl, sym, ap, ◌∙◌, subst, arith, inl, inr, ⊎_elim}
use Rattle.std.proofs.lemmas.Bool.{cases_eq, cases_lt}
use Rattle.std.specs.Prelude.{slice_index}
use Rattle.std.proofs.Math.Path.{subst₂}
use Rattle.lilo_model.proofs.RoseLemmas.{rose_after}
use Rattle.disk_trait.specs.declared.disks.Disks.{Ghosts}
use Rattle.disk_trait.specs.declared.disks.Span.{Span}
use Rattle.disk_trait.specs.Past.{Image, Past}
use Rattle.disk_trait.specs.Moments.{IsTold, now, IsQuiet, LeavesOnly}
use Rattle.disk_trait.specs.NotWritten.{IsOther, NotWritten}
use Rattle.disk_trait.specs.Range.{IsOutside}
use Rattle.disk_trait.proofs.LawLemmas.{quiet_begun}
use Rattle.disk_trait.proofs.MomentLemmas.{leaves_join, on_ok}
use Rattle.disk_trait.proofs.NotWrittenLemmas.{not_written_none, not_written_join}
use Rattle.disk_trait.proofs.RangeLemmas.{outside_is_other}
use Rattle.lilo_model.specs.MinixEntries.{entries_per_block, places}
use Rattle.lilo_model.specs.MinixLayout as layouts
use Rattle.lilo_model.specs.MinixLayout.{Kind, V1Short, V1Long, V2Short, V2Long, Inode, entry_size, inode_place, zone_sector}
use Rattle.lilo_model.specs.MinixNames.{reached, thing, zone_number, Named, PointsTo, IsSound}
use Rattle.lilo_model.specs.MinixParts as model
use Rattle.lilo_model.specs.MinixParts.{Parts, Pointer, block_pointer, has_zones, is_directory}
use Rattle.minix_choice_laws.specs.Choice.{file_of, MayHavePlace, LiesThere, HasNamePlace}
use Rattle.minix_choice_laws.proofs.Stay.{zone_lies, may_have_stays_law, place_lies_law}
use Rattle.minix_change_laws.specs.Beside.{Beside}
use Rattle.minix_change_laws.specs.Keeps.{Keeps}
use Rattle.minix_change_laws.proofs.Beside.{keeps}
use Rattle.minix_change_laws.specs.Comes.{IsFit}
use Rattle.minix_change_laws.specs.Only.{zone_of_entry, KeepsInode}
use Rattle.minix_change_laws.proofs.Only.{directory-refers}
use Rattle.minix_change_laws.proofs.Blocks.{block-below}
use Rattle.minix_grow.specs.Others.{IsOneOf, SameButZones, SameButLinksAndZones, KeepsNodes, KeepsOthers}
use Rattle.minix_grow.specs.Places.{IsFreePlace}
use Rattle.minix_grow.proofs.KeepLemmas.{points_kept, fit_kept}
use Rattle.minix_grow.proofs.KeepsNowLemmas.{on_both}
use Rattle.minix_grow.proofs.OtherLemmas.{all_off_stay}
use Rattle.minix_choice_laws.specs.Sources.{Source, zone_from}
use Rattle.minix_laws.proofs.Inside.{is_pointer-block}
use Rattle.minix_create.specs.Made.{KeepsPlaces}
use Rattle.minix_create.proofs.MadePlaces.{seen_places_law, join_places_law}
use Rattle.minix_layout.specs.View.{kind_view, super_view}
use Rattle.minix_layout.specs.declared.superblock.Super.{Super}
use Rattle.minix_change_laws.specs.Sees.{SameButLinks, Sees}
use Rattle.minix_change_laws.proofs.Inode.{same-node, keeps-above, points-old}
use Rattle.minix_change_laws.proofs.Seen.{opened}
use Rattle.minix_change_laws.proofs.Sees.{directory-same, named-new}
use Rattle.minix_steps.specs.Steps.{IsReady}
use Rattle.minix_steps.specs.Written.{parts_now}
use Rattle.minix_steps.proofs.ReadyLemmas.{quiet_ready}
use Rattle.minix_steps.proofs.StepLemmas.{leaves_told, same_view, beside_before, now_beside}
use Rattle.minix_turns.specs.Joined.{Unseen}
use Rattle.minix_turns.proofs.JoinedLemmas.{steps_unseen, unseen_join, unseen_then_leads}
use Rattle.minix_choice.specs.View.{HasWriteCause}
use Rattle.minix_choice.specs.declared.write_fault.WriteFault.{WriteFault}
use Rattle.minix_choice.specs.declared.write_fault.WriteFault.TheVariants as refusals
use Rattle.lilo_model.specs.Faults.{Rose}
use Rattle.minix_zones.specs.Volume.{volume_view, past_of, faults_of, SameVolume}
use Rattle.minix_zones.specs.declared.volume.Volume.{Volume}
use Rattle.minix_create.specs.Brought.{IsInDirectory, GivesPlace}
use Rattle.minix_create.specs.Chosen.{MayLinkNow, MayNest, IsNewInode, new_inode, thing_with}
use Rattle.minix_create.specs.Created.{MarksOnly, IsFilled}
use Rattle.minix_create.specs.Entered.{SameTables, KeepsDirectories, MayBeNamed, links_above, MayEnterNow, IsOffEntered, Enters}
use Rattle.minix_create.specs.Grown.{MayGrowNow, LiesNow, IsOffGrowth, GrowsChosen}
use Rattle.minix_create.specs.Linked.{IsOffName, IsRaisedBefore, MarksLinked, LiesAsChosen, HoldsGiven, Creates}
use Rattle.minix_create.specs.declared.chosen.Chosen.{Chosen}
use Rattle.minix_create.specs.declared.place_at.PlaceAt.{PlaceAt}
use Rattle.minix_create.proofs.BroughtLemmas.{off_later, device_of, same_unseen}
use Rattle.minix_create.proofs.EnterLemmas.{leads_is, unseen_refused, unseen_before}
use Rattle.minix_create.proofs.GrownLemmas.{same_at}
use Rattle.minix_create.proofs.NamedLemmas.{thing_kept, named_kept, not_named, fit_named}

-- ---- the part of a zone with an entry

half_of_entry : (kind : Kind) (index : ℕ) → index < entries_per_block kind → entry_size kind * index / 512 < 2
half_of_entry V1Short index low = omega (arith, low)
half_of_entry V1Long index low = omega (arith, low)
half_of_entry V2Short index low = omega (arith, low)
half_of_entry V2Long index low = omega (arith, low)

slot-low : (kind : Kind) (place : ℕ) → place % entries_per_block kind < entries_per_block kind
slot-low V1Short place = omega arith
slot-low V1Long place = omega arith
slot-low V2Short place = omega arith
slot-low V2Long place = omega arith

-- ---- an inode of which links, size and zones alone may be others

but_zones : (old new : Inode) → SameButZones old new → SameButLinksAndZones old new
but_zones old new same =
    let size : ℕ = new.size in
    let zones : List ℕ = new.zones in
    same ∙ ap (λ links. record old { links = links; size = size; zones = zones }) (sym (ap (λ (i : Inode). i.links) same))

but_links : (old new : Inode) → SameButLinks old new → SameButLinksAndZones old new
but_links old new same =
    let links : ℕ = new.links in
    let size : ℕ = new.size in
    same ∙ (ap (λ s. record old { links = links; size = s }) (sym (ap (λ (i : Inode). i.size) same))
    ∙ ap (λ z. record old { links = links; size = size; zones = z }) (sym (ap (λ (i : Inode). i.zones) same)))

but_join : (old mid new : Inode) → SameButLinksAndZones old mid → SameButLinksAndZones mid new → SameButLinksAndZones old new
but_join old mid new one two =
    let links : ℕ = new.links in
    let size : ℕ = new.size in
    let zones : List ℕ = new.zones in
    two ∙ ap (λ (i : Inode). record i { links = links; size = size; zones = zones }) one

-- ---- a volume on which the name may be made

-- a file's place got below the size, in a zone; no name saw it, the file stays, and so do the directory's links
pub record IsLinkable {D : Type 0} {disks : Ghosts D} (start next : Volume D disks) (outer : List (List ℕ)) (chosen : Chosen) (given : ℕ → List ℕ) (zone : ℕ) : Type 0 where
  pub unseen : Unseen start next
  pub others : IsTold (past_of start) → (d s : ℕ) → IsOffName start chosen d s → NotWritten (past_of start) (past_of next) d s
  pub off : IsTold (past_of start) → (d s : ℕ) → IsOffName start chosen d s → IsOutside start.span.disk (start.span.start + zone_sector zone) 2 d s
  pub may : IsTold (past_of start) → MayEnterNow next outer chosen zone
  pub is : IsTold (past_of start) → thing (super_view next.layout) (parts_now next) chosen.choice.inode ≡ thing_with chosen given
  pub links : IsTold (past_of start) → ((model.parts_of (volume_view start) (now (past_of next))).node chosen.directory).links ≡ ((parts_now start).node chosen.directory).links
  pub marks : IsTold (past_of start) → MarksLinked (super_view start.layout) (parts_now start) (model.parts_of (volume_view start) (now (past_of next))) chosen
  pub nodes : IsTold (past_of start) → KeepsNodes (super_view start.layout) (parts_now start) (model.parts_of (volume_view start) (now (past_of next))) chosen.directory chosen.choice.inode
  pub node : IsTold (past_of start) → IsNewInode chosen ((model.parts_of (volume_view start) (now (past_of next))).node chosen.choice.inode)
  pub blocks : IsTold (past_of start) → LiesAsChosen (super_view start.layout) (model.parts_of (volume_view start) (now (past_of next))) chosen
  pub holds : IsTold (past_of start) → HoldsGiven (super_view start.layout) (model.parts_of (volume_view start) (now (past_of next))) chosen given
  pub places : IsTold (past_of start) → KeepsPlaces (super_view start.layout) (parts_now start) (model.parts_of (volume_view start) (now (past_of next))) chosen.directory chosen.choice.place
  pub points : IsTold (past_of start) → (number : ℕ) (at : Pointer) (zone : ℕ) → Named (super_view start.layout) (parts_now start) number
      → PointsTo (super_view start.layout) (model.parts_of (volume_view start) (now (past_of next))) number at zone
      → PointsTo (super_view start.layout) (parts_now start) number at zone ⊎ IsOneOf chosen.choice.growth zone
  pub own : IsTold (past_of start) → (at : Pointer) (zone : ℕ) → PointsTo (super_view start.layout) (model.parts_of (volume_view start) (now (past_of next))) chosen.choice.inode at zone
      → (source : Source) × (zone_from (file_of chosen.choice) source ≡ zone)

-- ---- after a filled file

-- the zone of a place is that to which its block's pointer leads
zone_pointed : (super : layouts.Super) (parts : Parts) (directory place zone : ℕ) → PointsTo super parts directory (block_pointer super.kind (place / entries_per_block super.kind)) zone → zone_of_entry super parts directory place ≡ zone
unfolding zone_number
zone_pointed super parts directory place zone to = to.is

-- a block's pointer leads to its zone
block_pointed : (super : layouts.Super) (parts : Parts) (number index zone : ℕ) → has_zones (parts.node number) ≡ true → zone_number super parts number index ≡ zone → zone ≢ 0 → PointsTo super parts number (block_pointer super.kind index) zone
unfolding zone_number
block_pointed super parts number index zone zones is some = record { kind = zones; place = is_pointer-block super.kind index; is = is; some = some }

-- inodes of one mode are alike
has_zones_by : (one other : Inode) → one.mode ≡ other.mode → has_zones other ≡ true → has_zones one ≡ true
has_zones_by one other same is = rw same is

-- a place lies below the size and in a zone, or it doesn't
lies_or : (view : model.Volume) (image : Image) (directory place : ℕ) → LiesThere view image directory place ⊎ (LiesThere view image directory place → ⊥)
lies_or view image directory place = by (cases_lt place (places view.layout.kind ((model.parts_of view image).node directory).size)) (cases_eq (zone_of_entry view.layout (model.parts_of view image) directory place) 0)
  where
    by : (place < places view.layout.kind ((model.parts_of view image).node directory).size) ⊎ (places view.layout.kind ((model.parts_of view image).node directory).size ≤ place)
        → (zone_of_entry view.layout (model.parts_of view image) directory place ≡ 0) ⊎ (zone_of_entry view.layout (model.parts_of view image) directory place ≢ 0)
        → LiesThere view image directory place ⊎ (LiesThere view image directory place → ⊥)
    by (inl low) (inr some) = inl (record { below = low; some = some })
    by (inl low) (inl none) = inr (λ lies. lies.some none)
    by (inr past) zone = inr (λ lies. let low = lies.below in omega (arith, low, past))

module _ {D : Type 0} {disks : Ghosts D} (start old next : Volume D disks) (outer : List (List ℕ)) (chosen : Chosen) (given : ℕ → List ℕ) (filled : IsFilled start old chosen given)
    (result : Result (Unit {0}) WriteFault) (grows : GrowsChosen old next chosen result) (none : IsTold (past_of old) → LiesNow old chosen → SameVolume old next) where
  sound : IsTold (past_of start) → IsSound (volume_view start) (now (past_of start))
  sound told = (filled.free told).sound

  ready : IsReady start
  ready = quiet_ready start filled.quiet sound

  unseen : Unseen start old
  unseen = steps_unseen start old filled.quiet sound filled.steps

  told_grown : IsTold (past_of start) → IsTold (past_of old)
  told_grown told = filled.steps.goes_on.told told

  unseen_next : Unseen start next
  unseen_next = unseen_join start old next unseen grows.unseen

  at_old : (P : model.Volume → Type 0) → P (volume_view start) → P (volume_view old)
  at_old P holds = subst P (sym (same_view start old filled.steps.kept)) holds

  at_start : (P : model.Volume → Type 0) → P (volume_view old) → P (volume_view start)
  at_start P holds = subst P (same_view start old filled.steps.kept) holds

  at_next : (P : model.Volume → Type 0) → P (volume_view start) → P (volume_view next)
  at_next P holds = subst P (sym (same_view start next unseen_next.kept)) holds

  from_old : (P : model.Volume → Type 0) → P (volume_view old) → P (volume_view next)
  from_old P holds = subst P (sym (same_view old next grows.unseen.kept)) holds

  -- what has a name is as it was
  beside : IsTold (past_of start) → Beside (volume_view start) (now (past_of start)) (now (past_of old))
  beside told =
      let B : Image → Type 0 = λ image. Beside (volume_view start) image (now (past_of old)) in
      subst B (quiet_begun (past_of start) told filled.quiet) (beside_before start old ready filled.steps told (now (past_of old)) (now_beside old filled.steps.ready (told_grown told)))

  kept_named : IsTold (past_of start) → Keeps (super_view start.layout) (parts_now start) (model.parts_of (volume_view start) (now (past_of old)))
  kept_named told = keeps (volume_view start) (now (past_of start)) (opened (volume_view start) (now (past_of start)) (sound told)) (now (past_of old)) (beside told)

  may_grow : IsTold (past_of start) → MayGrowNow start chosen
  may_grow told = (filled.free told).grows

  named : IsTold (past_of start) → Named (super_view start.layout) (parts_now start) chosen.directory
  named told = (may_grow told).named

  -- the pointers of what has a name lead where they led
  points_named : IsTold (past_of start) → (number : ℕ) → Named (super_view start.layout) (parts_now start) number → (at : Pointer) (zone : ℕ)
      → PointsTo (super_view start.layout) (model.parts_of (volume_view start) (now (past_of old))) number at zone → PointsTo (super_view start.layout) (parts_now start) number at zone
  points_named told number named' =
      let keeps' = kept_named told in
      points-old (super_view start.layout) (parts_now start) (model.parts_of (volume_view start) (now (past_of old))) number
      (same-node ((parts_now start).node number) ((model.parts_of (volume_view start) (now (past_of old))).node number) (keeps'.nodes number named')).numbers
      (keeps-above (super_view start.layout) (parts_now start) (model.parts_of (volume_view start) (now (past_of old))) number (λ at zone to. keeps'.zones number at zone (record { named = named'; to = to })))

  points_start : IsTold (past_of start) → (at : Pointer) (zone : ℕ) → PointsTo (super_view start.layout) (model.parts_of (volume_view start) (now (past_of old))) chosen.directory at zone
      → PointsTo (super_view start.layout) (parts_now start) chosen.directory at zone
  points_start told = points_named told chosen.directory (named told)

  off_old : IsTold (past_of start) → (d s : ℕ) → IsOffGrowth start chosen d s → IsOffGrowth old chosen d s
  off_old told d s off = record {
    directory = off_later start old chosen.directory filled.steps.kept (points_start told) d s off.directory;
    zones = all_off_stay start old filled.steps.kept chosen.choice.growth d s off.zones;
  }

  lies_old : IsTold (past_of start) → LiesNow start chosen → LiesNow old chosen
  lies_old told lies =
      let seen = unseen.held told in
      let below = lies.below in
      at_old (λ view. LiesThere view (now (past_of old)) chosen.directory chosen.choice.place)
      (record {
        below = let room = seen.sees.room chosen.directory (named told) (may_grow told).is in omega (arith, room, below);
        some = λ none'. lies.some (sym (zone_lies (volume_view start) (now (past_of start)) (now (past_of old)) chosen.directory (named told) (may_grow told).is seen chosen.choice.place lies.some) ∙ none');
      })

  others_next : IsTold (past_of start) → (d s : ℕ) → IsOffName start chosen d s → NotWritten (past_of start) (past_of next) d s
  others_next told d s off =
      not_written_join (past_of start) (past_of old) (past_of next) d s (filled.others d s off.file)
      (⊎_elim
      (λ lies.
      let P : Option Past → Type 0 = λ p. NotWritten (past_of old) p d s in
      subst P (sym (none (told_grown told) (lies_old told lies)).same_disks.same_past) (not_written_none (past_of old) d s))
      (λ apart. grows.others (told_grown told) d s (off_old told d s (off.growth apart)))
      (lies_or (volume_view start) (now (past_of start)) chosen.directory chosen.choice.place))

  -- a call was refused
  refused_creates : (IsTold (past_of start) → MayLinkNow start outer chosen) → (new : Volume D disks) (fault : WriteFault) → Unseen start new → (IsTold (past_of start) → (d s : ℕ) → IsOffName start chosen d s → NotWritten (past_of start) (past_of new) d s)
      → (IsTold (past_of start) → (fault ≡ refusals.Device) × Rose (faults_of start) (faults_of new)) → Creates start new outer chosen given (Err fault)
  refused_creates may new fault unseen' others cause = record {
    leads = unseen_refused start new (chosen.name ∷ outer) (Some chosen.choice.inode) (Some (thing_with chosen given)) fault unseen';
    before = unseen_before start new outer chosen unseen' may;
    above = λ told. tt;
    marks = λ told. tt;
    made = λ told. tt;
    nodes = λ told. tt;
    node = λ told. tt;
    lies = λ told. tt;
    holds = λ told. tt;
    others = others;
    device = cause;
  }

-- it didn't grow
pub links_not_grown : {D : Type 0} {disks : Ghosts D} (start old next : Volume D disks) (outer : List (List ℕ)) (chosen : Chosen) (given : ℕ → List ℕ) → IsFilled start old chosen given → (fault : WriteFault) → GrowsChosen old next chosen (Err fault)
    → (IsTold (past_of old) → LiesNow old chosen → SameVolume old next) → (IsTold (past_of start) → MayLinkNow start outer chosen) → Creates start next outer chosen given (Err fault)
links_not_grown start old next outer chosen given filled fault grows none may =
    refused_creates start old next outer chosen given filled (Err fault) grows none may next fault (unseen_next start old next outer chosen given filled (Err fault) grows none) (others_next start old next outer chosen given filled (Err fault) grows none)
    (λ told.
    let cause = grows.device (filled.steps.goes_on.told told) in
    (cause.0, rose_after (faults_of start) (faults_of old) (faults_of next) filled.steps.goes_on.later cause.1))

module _ {D : Type 0} {disks : Ghosts D} (start old next read : Volume D disks) (outer : List (List ℕ)) (chosen : Chosen) (given : ℕ → List ℕ) (filled : IsFilled start old chosen given)
    (grows : GrowsChosen old next chosen (Ok tt)) (none : IsTold (past_of old) → LiesNow old chosen → SameVolume old next) (same : SameVolume next read) (later : faults_of next ≤ faults_of read)
    (nests : MayNest outer chosen) (may : IsTold (past_of start) → MayLinkNow start outer chosen) (quiet : IsQuiet (past_of next)) where
  abbrev told_old : IsTold (past_of start) → IsTold (past_of old)
  told_old = told_grown start old next outer chosen given filled (Ok tt) grows none

  unseen_then : Unseen start next
  unseen_then = unseen_next start old next outer chosen given filled (Ok tt) grows none

  told_next : IsTold (past_of start) → IsTold (past_of next)
  told_next told = unseen_then.goes_on.told told

  place_next : IsTold (past_of start) → IsFreePlace (volume_view next) (now (past_of next)) chosen.directory chosen.choice.place
  place_next told = grows.free (told_old told)

  has_place : IsTold (past_of start) → HasNamePlace (volume_view next) (now (past_of next)) outer chosen.directory chosen.choice.place chosen.name
  has_place told =
      let P : model.Volume → Type 0 = λ view. MayHavePlace view (now (past_of next)) outer chosen.directory chosen.choice.place chosen.name in
      let has = (place_next told).placed in
      place_lies_law (volume_view next) (now (past_of next)) outer chosen.directory chosen.choice.place chosen.name
      (at_next start old next outer chosen given filled (Ok tt) grows none P
      (may_have_stays_law (volume_view start) (now (past_of start)) (now (past_of next)) outer chosen.directory chosen.choice.place chosen.name (filled.free told).sound (unseen_then.held told) (may told)))
      (record { below = has.below; some = has.some })

  sound_next : IsTold (past_of start) → IsSound (volume_view next) (now (past_of next))
  sound_next told = at_next start old next outer chosen given filled (Ok tt) grows none (λ view. IsSound view (now (past_of next))) (unseen_then.held told).sound

  -- its place may be read
  pub readable_place : IsTold (past_of start) → IsInDirectory next chosen.directory chosen.choice.place
  readable_place told =
      let has = (place_next told).placed in
      record {
        sound = sound_next told;
        named = has.named;
        is = has.is;
        near =
            let b = block-below (kind_view next.layout.kind) ((parts_now next).node chosen.directory).size chosen.choice.place has.below in
            let few = has.reached in
            omega (arith, b, few);
      }

  -- what was filled is as it was
  abbrev Old : Parts
  Old = parts_now old

  abbrev Next : Parts
  Next = model.parts_of (volume_view old) (now (past_of next))

  sees_old : IsTold (past_of start) → Sees (super_view old.layout) Old Next
  sees_old told = (grows.unseen.held (told_old told)).sees

  may_be_named : IsTold (past_of start) → MayBeNamed (super_view old.layout) Old outer chosen.directory chosen.choice.inode
  may_be_named told = (filled.filled told).named outer nests

  own_named : IsTold (past_of start) → Named (super_view old.layout) Old chosen.directory × (is_directory (Old.node chosen.directory) ≡ true)
  own_named told =
      let seen = (unseen start old next outer chosen given filled (Ok tt) grows none).held told in
      let m = (filled.free told).grows in
      at_old start old next outer chosen given filled (Ok tt) grows none (λ view. Named view.layout (model.parts_of view (now (past_of old))) chosen.directory × (is_directory ((model.parts_of view (now (past_of old))).node chosen.directory) ≡ true)) (
        named-new (super_view start.layout) (parts_now start) (model.parts_of (volume_view start) (now (past_of old))) seen.sees chosen.directory m.named,
        directory-same (super_view start.layout) (parts_now start) (model.parts_of (volume_view start) (now (past_of old))) seen.sees chosen.directory m.named ∙ m.is,
      )

  fit_old : IsTold (past_of start) → IsFit (super_view old.layout) Old chosen.choice.inode
  fit_old told = fit_named (super_view old.layout) Old outer chosen.directory chosen.choice.inode (may_be_named told)

  apart_old : IsTold (past_of start) → chosen.choice.inode ≢ chosen.directory
  apart_old told = let own = own_named told in not_named (super_view old.layout) Old outer chosen.directory chosen.choice.inode own.0 own.1 (may_be_named told)

  keeps_old : IsTold (past_of start) → KeepsOthers (super_view old.layout) Old Next chosen.directory chosen.choice.growth
  keeps_old told = grows.keeps (told_old told)

  kept_old : IsTold (past_of start) → KeepsInode (super_view old.layout) Old Next chosen.choice.inode
  kept_old told = (keeps_old told).others chosen.choice.inode (fit_old told) (apart_old told) (filled.filled told).clear

  -- what is known of the volume then
  abbrev Facts : model.Volume → Image → Type 0
  Facts view image =
      IsSound view image × HasNamePlace view image outer chosen.directory chosen.choice.place chosen.name × (((model.parts_of view image).node chosen.choice.inode).mode ≡ chosen.mode)
      × MayBeNamed view.layout (model.parts_of view image) outer chosen.directory chosen.choice.inode
      × (thing view.layout (model.parts_of view image) chosen.choice.inode ≡ thing_with chosen given)

  facts_next : IsTold (past_of start) → Facts (volume_view next) (now (past_of next))
  facts_next told =
      let kept = kept_old told in
      let V : model.Volume → Type 0 = λ view. (((model.parts_of view (now (past_of next))).node chosen.choice.inode).mode ≡ chosen.mode)
      × MayBeNamed view.layout (model.parts_of view (now (past_of next))) outer chosen.directory chosen.choice.inode
      × (thing view.layout (model.parts_of view (now (past_of next))) chosen.choice.inode ≡ thing_with chosen given) in
      let v = from_old start old next outer chosen given filled (Ok tt) grows none V (
        ap (λ (i : Inode). i.mode) kept.node ∙ ap (λ (i : Inode). i.mode) (filled.filled told).node,
        named_kept (super_view old.layout) Old Next chosen.choice.inode kept (sees_old told)
            (fit_kept (super_view old.layout) Old Next chosen.choice.growth (sees_old told) (keeps_old told).points chosen.choice.inode (fit_old told) (filled.filled told).clear kept)
            outer chosen.directory (may_be_named told),
        thing_kept (super_view old.layout) Old Next chosen.choice.inode kept ∙ (filled.filled told).is,
      ) in
      (sound_next told, has_place told, v.0, v.1, v.2)

  facts_read : IsTold (past_of start) → Facts (volume_view read) (now (past_of read))
  facts_read told = same_at next read same Facts (facts_next told)

  -- the read changed nothing
  read_unseen : Unseen next read
  read_unseen = same_unseen next read quiet (λ told. sound_next (unseen_then.goes_on.told_before told)) same later

  unseen_read : Unseen start read
  unseen_read = unseen_join start next read unseen_then read_unseen

  others_read : IsTold (past_of start) → (d s : ℕ) → IsOffName start chosen d s → NotWritten (past_of start) (past_of read) d s
  others_read told d s off =
      let P : Option Past → Type 0 = λ p. NotWritten (past_of start) p d s in
      subst P (sym same.same_disks.same_past) (others_next start old next outer chosen given filled (Ok tt) grows none told d s off)

  -- it couldn't be read
  pub links_no_place : (fault : WriteFault) → GivesPlace next chosen.directory chosen.choice.place (Err fault) → HasWriteCause (faults_of next) (faults_of read) fault → Creates start read outer chosen given (Err fault)
  links_no_place fault gives cause =
      refused_creates start old next outer chosen given filled (Ok tt) grows none may read fault unseen_read others_read (λ told.
      let is : fault ≡ refusals.Device = gives (told_next told) (readable_place told) in
      let C : WriteFault → Type 0 = λ f. HasWriteCause (faults_of next) (faults_of read) f in
      (is, rose_after (faults_of start) (faults_of next) (faults_of read) unseen_then.goes_on.later (subst C is cause)))

  module _ (at : PlaceAt) (gives : GivesPlace next chosen.directory chosen.choice.place (Ok at)) where
    zone_is : IsTold (past_of start) → zone_of_entry (super_view next.layout) (parts_now next) chosen.directory chosen.choice.place ≡ at.zone
    zone_is told = (gives (told_next told) (readable_place told)).1

    -- no zone was there
    pub links_in_hole : at.zone ≡ 0 → (fault : WriteFault) → Creates start read outer chosen given (Err fault)
    links_in_hole hole fault =
        refused_creates start old next outer chosen given filled (Ok tt) grows none may read fault unseen_read others_read (λ told. absurd ((place_next told).placed.some (zone_is told ∙ hole)))

    -- the zone is one that it had, or one of growth
    zone_start : IsTold (past_of start) → (zone_of_entry (super_view start.layout) (parts_now start) chosen.directory chosen.choice.place ≡ at.zone) ⊎ IsOneOf chosen.choice.growth at.zone
    zone_start told = ⊎_elim
        (λ was. inl (zone_pointed (super_view start.layout) (parts_now start) chosen.directory chosen.choice.place at.zone (points_start start old next outer chosen given filled (Ok tt) grows none told _ _ (at_start start old next outer chosen given filled (Ok tt) grows none (λ view. PointsTo view.layout (model.parts_of view (now (past_of old))) chosen.directory (block_pointer view.layout.kind (chosen.choice.place / entries_per_block view.layout.kind)) at.zone) was))))
        (λ one. inr one)
        ((keeps_old told).points chosen.directory (block_pointer (kind_view old.layout.kind) (chosen.choice.place / entries_per_block (kind_view old.layout.kind))) at.zone (own_named told).0 (points_now told))
      where
        points_now : IsTold (past_of start) → PointsTo (super_view old.layout) Next chosen.directory (block_pointer (kind_view old.layout.kind) (chosen.choice.place / entries_per_block (kind_view old.layout.kind))) at.zone
        points_now told =
            let has = (place_next told).placed in
            let some : at.zone ≢ 0 = λ hole. has.some (zone_is told ∙ hole) in
            let V : model.Volume → Type 0 = λ view. PointsTo view.layout (model.parts_of view (now (past_of next))) chosen.directory (block_pointer view.layout.kind (chosen.choice.place / entries_per_block view.layout.kind)) at.zone in
            subst V (same_view old next grows.unseen.kept)
            (directory-refers (super_view next.layout) (parts_now next) chosen.directory chosen.choice.place has.named has.is at.zone some (sym (zone_is told))).to

    off_zone : IsTold (past_of start) → (d s : ℕ) → IsOffName start chosen d s → IsOutside start.span.disk (start.span.start + zone_sector at.zone) 2 d s
    off_zone told d s off =
        let Z : ℕ → Type 0 = λ z. IsOutside start.span.disk (start.span.start + zone_sector z) 2 d s in
        ⊎_elim
        (λ was. subst Z was (off.name (λ none'. (place_next told).placed.some (zone_is told ∙ (sym was ∙ none')))))
        (λ one. ⊎_elim
        (λ lies. subst Z (stays told lies) (off.name lies.some))
        (λ apart. subst Z one.is ((off.growth apart).zones one.at one.low).bytes)
        (lies_or (volume_view start) (now (past_of start)) chosen.directory chosen.choice.place))
        (zone_start told)
      where
        stays : IsTold (past_of start) → LiesNow start chosen → zone_of_entry (super_view start.layout) (parts_now start) chosen.directory chosen.choice.place ≡ at.zone
        stays told lies =
            let m = (filled.free told).grows in
            let V : model.Volume → Type 0 = λ view. zone_of_entry view.layout (model.parts_of view (now (past_of next))) chosen.directory chosen.choice.place ≡ at.zone in
            sym (zone_lies (volume_view start) (now (past_of start)) (now (past_of next)) chosen.directory m.named m.is (unseen_then.held told) chosen.choice.place lies.some)
            ∙ subst V (same_view start next unseen_then.kept) (zone_is told)

    links_stay : IsTold (past_of start) → ((model.parts_of (volume_view start) (now (past_of read))).node chosen.directory).links ≡ ((parts_now start).node chosen.directory).links
    links_stay told =
        let V : model.Volume → Type 0 = λ view. ((model.parts_of view (now (past_of next))).node chosen.directory).links ≡ ((model.parts_of view (now (past_of old))).node chosen.directory).links in
        let I : Option Past → Type 0 = λ past. ((model.parts_of (volume_view start) (now past)).node chosen.directory).links ≡ ((parts_now start).node chosen.directory).links in
        let kept' = kept_named start old next outer chosen given filled (Ok tt) grows none told in
        subst I (sym same.same_disks.same_past)
        (at_start start old next outer chosen given filled (Ok tt) grows none V (ap (λ (i : Inode). i.links) (keeps_old told).own) ∙ ap (λ (i : Inode). i.links) (kept'.nodes chosen.directory (filled.free told).grows.named))

    -- the bits that were set
    marks_read : IsTold (past_of start) → MarksLinked (super_view start.layout) (parts_now start) (model.parts_of (volume_view start) (now (past_of read))) chosen
    marks_read told =
        let V : model.Volume → Type 0 = λ view. KeepsOthers view.layout (model.parts_of view (now (past_of old))) (model.parts_of view (now (past_of next))) chosen.directory chosen.choice.growth in
        let O : model.Volume → Type 0 = λ view. MarksOnly start (parts_now start) (model.parts_of view (now (past_of old))) chosen in
        let I : Option Past → Type 0 = λ past. MarksLinked (super_view start.layout) (parts_now start) (model.parts_of (volume_view start) (now past)) chosen in
        let keeps' : V (volume_view start) = at_start start old next outer chosen given filled (Ok tt) grows none V (keeps_old told) in
        let only : O (volume_view start) = at_start start old next outer chosen given filled (Ok tt) grows none O (filled.marks told) in
        subst I (sym same.same_disks.same_past)
        (record {
          inodes = λ number is. keeps'.marks number is ∙ only.inodes number is.1;
          zones = λ z is apart. keeps'.zone_marks z is apart ∙ only.zones z is;
          stay_marked = λ z is set. keeps'.stay_marked z is (only.zones z is ∙ rw set refl);
          used = λ z is set. ⊎_elim (λ was. inl (sym (only.zones z is) ∙ was)) (λ has. inr has) (keeps'.used z is set);
        })

    -- the other inodes
    nodes_read : IsTold (past_of start) → KeepsNodes (super_view start.layout) (parts_now start) (model.parts_of (volume_view start) (now (past_of read))) chosen.directory chosen.choice.inode
    nodes_read told =
        let V : model.Volume → Type 0 = λ view. KeepsOthers view.layout (model.parts_of view (now (past_of old))) (model.parts_of view (now (past_of next))) chosen.directory chosen.choice.growth in
        let O : model.Volume → Type 0 = λ view. MarksOnly start (parts_now start) (model.parts_of view (now (past_of old))) chosen in
        let I : Option Past → Type 0 = λ past. KeepsNodes (super_view start.layout) (parts_now start) (model.parts_of (volume_view start) (now past)) chosen.directory chosen.choice.inode in
        let keeps' : V (volume_view start) = at_start start old next outer chosen given filled (Ok tt) grows none V (keeps_old told) in
        let only : O (volume_view start) = at_start start old next outer chosen given filled (Ok tt) grows none O (filled.marks told) in
        let kept' = kept_named start old next outer chosen given filled (Ok tt) grows none told in
        let S : Inode → Type 0 = λ i. SameButZones i ((model.parts_of (volume_view start) (now (past_of next))).node chosen.directory) in
        subst I (sym same.same_disks.same_past)
        (record {
          others = λ other is apart new. keeps'.nodes other is apart ∙ only.nodes other is new;
          own = but_zones ((parts_now start).node chosen.directory) ((model.parts_of (volume_view start) (now (past_of next))).node chosen.directory) (subst S (kept'.nodes chosen.directory (filled.free told).grows.named) keeps'.own);
        })

    node_read : IsTold (past_of start) → IsNewInode chosen ((model.parts_of (volume_view start) (now (past_of read))).node chosen.choice.inode)
    node_read told =
        let N : Inode → Type 0 = IsNewInode chosen in
        let V : model.Volume → Type 0 = λ view. N ((model.parts_of view (now (past_of next))).node chosen.choice.inode) in
        let I : Option Past → Type 0 = λ past. N ((model.parts_of (volume_view start) (now past)).node chosen.choice.inode) in
        subst I (sym same.same_disks.same_past)
        (at_start start old next outer chosen given filled (Ok tt) grows none V (subst N (sym (kept_old told).node) (filled.filled told).node))

    -- where its blocks lie
    blocks_read : IsTold (past_of start) → LiesAsChosen (super_view start.layout) (model.parts_of (volume_view start) (now (past_of read))) chosen
    blocks_read told =
        let f = filled.filled told in
        let kept = kept_old told in
        let L : model.Volume → Type 0 = λ view. LiesAsChosen view.layout (model.parts_of view (now (past_of next))) chosen in
        let I : Option Past → Type 0 = λ past. LiesAsChosen (super_view start.layout) (model.parts_of (volume_view start) (now past)) chosen in
        subst I (sym same.same_disks.same_past)
        (at_start start old next outer chosen given filled (Ok tt) grows none L
        (λ zones index low some.
        points_kept (super_view old.layout) Old Next chosen.choice.inode kept (block_pointer (kind_view old.layout.kind) index) (slice_index chosen.choice.blocks index)
        (block_pointed (super_view old.layout) Old chosen.choice.inode index (slice_index chosen.choice.blocks index) (has_zones_by (Old.node chosen.choice.inode) (new_inode chosen) (ap (λ (i : Inode). i.mode) f.node) zones) (f.lies index low) some)))

    -- and what they hold
    holds_read : IsTold (past_of start) → HoldsGiven (super_view start.layout) (model.parts_of (volume_view start) (now (past_of read))) chosen given
    holds_read told =
        let f = filled.filled told in
        let kept = kept_old told in
        let L : model.Volume → Type 0 = λ view. HoldsGiven view.layout (model.parts_of view (now (past_of next))) chosen given in
        let I : Option Past → Type 0 = λ past. HoldsGiven (super_view start.layout) (model.parts_of (volume_view start) (now past)) chosen given in
        subst I (sym same.same_disks.same_past)
        (at_start start old next outer chosen given filled (Ok tt) grows none L
        (λ zones index low some.
        kept.zones (block_pointer (kind_view old.layout.kind) index) (slice_index chosen.choice.blocks index)
        (block_pointed (super_view old.layout) Old chosen.choice.inode index (slice_index chosen.choice.blocks index) (has_zones_by (Old.node chosen.choice.inode) (new_inode chosen) (ap (λ (i : Inode). i.mode) f.node) zones) (f.lies index low) some)
        ∙ f.blocks index some))

    -- pointers that came are those of growth
    points_read : IsTold (past_of start) → (number : ℕ) (to_it : Pointer) (zone : ℕ) → Named (super_view start.layout) (parts_now start) number
        → PointsTo (super_view start.layout) (model.parts_of (volume_view start) (now (past_of read))) number to_it zone
        → PointsTo (super_view start.layout) (parts_now start) number to_it zone ⊎ IsOneOf chosen.choice.growth zone
    points_read told number to_it zone named' to =
        let seen = (unseen start old next outer chosen given filled (Ok tt) grows none).held told in
        let K : model.Volume → Type 0 = λ view. KeepsOthers view.layout (model.parts_of view (now (past_of old))) (model.parts_of view (now (past_of next))) chosen.directory chosen.choice.growth in
        let keeps' : K (volume_view start) = at_start start old next outer chosen given filled (Ok tt) grows none K (keeps_old told) in
        let I : Option Past → Type 0 = λ past. PointsTo (super_view start.layout) (model.parts_of (volume_view start) (now past)) number to_it zone in
        ⊎_elim
        (λ was. inl (points_named start old next outer chosen given filled (Ok tt) grows none told number named' to_it zone was))
        (λ one. inr one)
        (keeps'.points number to_it zone (named-new (super_view start.layout) (parts_now start) (model.parts_of (volume_view start) (now (past_of old))) seen.sees number named') (subst I same.same_disks.same_past to))

    -- the file points to its own zones
    own_read : IsTold (past_of start) → (to_it : Pointer) (zone : ℕ) → PointsTo (super_view start.layout) (model.parts_of (volume_view start) (now (past_of read))) chosen.choice.inode to_it zone
        → (source : Source) × (zone_from (file_of chosen.choice) source ≡ zone)
    own_read told to_it zone to =
        let kept = kept_old told in
        let V : model.Volume → Type 0 = λ view. PointsTo view.layout (model.parts_of view (now (past_of next))) chosen.choice.inode to_it zone in
        let I : Option Past → Type 0 = λ past. PointsTo (super_view start.layout) (model.parts_of (volume_view start) (now past)) chosen.choice.inode to_it zone in
        let next_to : PointsTo (super_view old.layout) Next chosen.choice.inode to_it zone = at_old start old next outer chosen given filled (Ok tt) grows none V (subst I same.same_disks.same_past to) in
        (filled.filled told).own to_it zone
        (points-old (super_view old.layout) Old Next chosen.choice.inode (same-node (Old.node chosen.choice.inode) (Next.node chosen.choice.inode) kept.node).numbers
        (keeps-above (super_view old.layout) Old Next chosen.choice.inode kept.zones) to_it zone next_to)

    pub linkable : IsLinkable start read outer chosen given at.zone
    linkable = record {
      unseen = unseen_read;
      others = others_read;
      off = off_zone;
      may = λ told.
          let f = facts_read told in
          record {
            sound = f.0;
            lies = same_at next read same (λ view image. zone_of_entry view.layout (model.parts_of view image) chosen.directory chosen.choice.place ≡ at.zone) (zone_is told);
            place = f.1;
            mode = f.2;
            named = f.3;
          };
      is = λ told. (facts_read told).4;
      links = links_stay;
      marks = marks_read;
      nodes = nodes_read;
      node = node_read;
      blocks = blocks_read;
      holds = holds_read;
      places = λ told. seen_places_law (super_view start.layout) (parts_now start) (model.parts_of (volume_view start) (now (past_of read))) chosen.directory chosen.choice.place (unseen_read.held told).sees;
      points = points_read;
      own = own_read;
    }

-- ---- the entry

module _ {D : Type 0} {disks : Ghosts D} (start mid : Volume D disks) (outer : List (List ℕ)) (chosen : Chosen) (given : ℕ → List ℕ) (zone : ℕ) (ready : IsLinkable start mid outer chosen given zone) where
  told_mid : IsTold (past_of start) → IsTold (past_of mid)
  told_mid told = ready.unseen.goes_on.told told

  pub enter_may : IsTold (past_of mid) → MayEnterNow mid outer chosen zone
  enter_may told = ready.may (ready.unseen.goes_on.told_before told)

  off_entered : IsTold (past_of start) → (d s : ℕ) → IsOffName start chosen d s → IsOffEntered mid chosen zone d s
  off_entered told d s off =
      let kept = ready.unseen.kept in
      let index : ℕ = chosen.choice.place % entries_per_block (kind_view mid.layout.kind) in
      let S : Span → Type 0 = λ span. IsOutside span.disk (span.start + zone_sector zone) 2 d s in
      let half = half_of_entry (kind_view mid.layout.kind) index (slot-low (kind_view mid.layout.kind) chosen.choice.place) in
      let out = subst S (sym kept.same_span) (ready.off told d s off) in
      let at : mid.span.start + zone_sector zone + entry_size (kind_view mid.layout.kind) * index / 512 ≡ mid.span.start + (zone_sector zone + entry_size (kind_view mid.layout.kind) * index / 512) = omega arith in
      let T : ℕ → Type 0 = λ n. IsOther mid.span.disk n d s in
      let I : Span → Super → Type 0 = λ span layout. IsOther span.disk (span.start + (inode_place (super_view layout) chosen.directory).sector) d s in
      record {
        entry = subst T at (outside_is_other mid.span.disk (mid.span.start + zone_sector zone) 2 (entry_size (kind_view mid.layout.kind) * index / 512) d s half out);
        above = λ is. subst₂ I (sym kept.same_span) (sym kept.same_layout) (off.above is);
      }

  -- the links of the directory above at each moment
  before_entered : (new : Volume D disks) (result : Result (Unit {0}) WriteFault) → (IsTold (past_of start) → MayLinkNow start outer chosen) → Enters mid new outer chosen zone result
      → LeavesOnly (past_of start) (past_of new) (IsRaisedBefore start outer chosen)
  before_entered new result may enters =
      leaves_join (past_of start) (past_of mid) (past_of new) (IsRaisedBefore start outer chosen) (unseen_before start mid outer chosen ready.unseen may)
      (leaves_told (past_of mid) (past_of new) _ _ enters.links (λ told c first.
      let L : model.Volume → Type 0 = λ view. ((model.parts_of view c).node chosen.directory).links ≡ links_above view.layout.kind chosen ((model.parts_of view (now (past_of mid))).node chosen.directory).links in
      let N : model.Volume → Type 0 = λ view. reached view.layout (model.parts_of view c) (chosen.name ∷ outer) ≡ None in
      let view = same_view start mid ready.unseen.kept in
      let told-start = ready.unseen.goes_on.told_before (enters.leads.goes_on.told_before told) in
      ⊎_elim
      (λ raised. inr (subst L view raised ∙ ap (links_above (kind_view start.layout.kind) chosen) (ready.links told-start)))
      (λ unnamed. inl (subst N view unnamed.1))
      first))

  pub links_entered : (IsTold (past_of start) → MayLinkNow start outer chosen) → (new : Volume D disks) (result : Result (Unit {0}) WriteFault) → Enters mid new outer chosen zone result → Creates start new outer chosen given result
  links_entered may new result enters = record {
    leads =
        leads_is start new (chosen.name ∷ outer) chosen.choice.inode (thing (super_view mid.layout) (parts_now mid) chosen.choice.inode) (thing_with chosen given) result
        (unseen_then_leads start mid new (chosen.name ∷ outer) (Some chosen.choice.inode) (Some (thing (super_view mid.layout) (parts_now mid) chosen.choice.inode)) result ready.unseen enters.leads)
        ready.is;
    before = before_entered new result may enters;
    above = λ told.
        let L : model.Volume → Type 0 = λ view. OnOk result (((model.parts_of view (now (past_of new))).node chosen.directory).links
        ≡ links_above view.layout.kind chosen ((model.parts_of view (now (past_of mid))).node chosen.directory).links) in
        on_ok result _ _ (subst L (same_view start mid ready.unseen.kept) (enters.above (told_mid told)))
        (λ above. above ∙ ap (links_above (kind_view start.layout.kind) chosen) (ready.links told));
    marks = λ told.
        let V : model.Volume → Type 0 = λ view. OnOk result (SameTables view.layout (model.parts_of view (now (past_of mid))) (model.parts_of view (now (past_of new))) chosen.directory) in
        let D : model.Volume → Type 0 = λ view. OnOk result (KeepsDirectories view.layout (model.parts_of view (now (past_of mid))) (model.parts_of view (now (past_of new))) chosen) in
        on_both result _ _ _ (subst V (same_view start mid ready.unseen.kept) (enters.tables (told_mid told))) (subst D (same_view start mid ready.unseen.kept) (enters.directories (told_mid told)))
        (λ stay directories.
        let m = ready.marks told in
        record {
          inodes = λ number is. stay.inodes number is ∙ m.inodes number is;
          zones = λ z is apart. stay.zones z is ∙ m.zones z is apart;
          stay_marked = λ z is set. stay.zones z is ∙ m.stay_marked z is set;
          used = λ z is set. ⊎_elim (λ was. inl was) (λ has. inr (has.0, directories.stays has.0 z has.1)) (m.used z is (sym (stay.zones z is) ∙ set));
        });
    nodes = λ told.
        let V : model.Volume → Type 0 = λ view. OnOk result (SameTables view.layout (model.parts_of view (now (past_of mid))) (model.parts_of view (now (past_of new))) chosen.directory) in
        on_ok result _ _ (subst V (same_view start mid ready.unseen.kept) (enters.tables (told_mid told)))
        (λ stay.
        let was = ready.nodes told in
        let First : Inode = (parts_now start).node chosen.directory in
        let Mid : Inode = (model.parts_of (volume_view start) (now (past_of mid))).node chosen.directory in
        let New : Inode = (model.parts_of (volume_view start) (now (past_of new))).node chosen.directory in
        record {
          others = λ other is apart new'. stay.nodes other is apart ∙ was.others other is apart new';
          own = but_join First Mid New was.own (but_links Mid New stay.own);
        });
    node = λ told.
        let N : Inode → Type 0 = IsNewInode chosen in
        let V : model.Volume → Type 0 = λ view. OnOk result (KeepsInode view.layout (model.parts_of view (now (past_of mid))) (model.parts_of view (now (past_of new))) chosen.choice.inode) in
        on_ok result _ _ (subst V (same_view start mid ready.unseen.kept) (enters.stays (told_mid told))) (λ kept. subst N (sym kept.node) (ready.node told));
    lies = λ told.
        let V : model.Volume → Type 0 = λ view. OnOk result (KeepsInode view.layout (model.parts_of view (now (past_of mid))) (model.parts_of view (now (past_of new))) chosen.choice.inode) in
        on_ok result _ _ (subst V (same_view start mid ready.unseen.kept) (enters.stays (told_mid told)))
        (λ kept zones index low some.
        points_kept (super_view start.layout) (model.parts_of (volume_view start) (now (past_of mid))) (model.parts_of (volume_view start) (now (past_of new))) chosen.choice.inode kept
        (block_pointer (kind_view start.layout.kind) index) (slice_index chosen.choice.blocks index) (ready.blocks told zones index low some));
    holds = λ told.
        let V : model.Volume → Type 0 = λ view. OnOk result (KeepsInode view.layout (model.parts_of view (now (past_of mid))) (model.parts_of view (now (past_of new))) chosen.choice.inode) in
        on_ok result _ _ (subst V (same_view start mid ready.unseen.kept) (enters.stays (told_mid told)))
        (λ kept zones index low some.
        kept.zones (block_pointer (kind_view start.layout.kind) index) (slice_index chosen.choice.blocks index) (ready.blocks told zones index low some)
        ∙ ready.holds told zones index low some);
    made = λ told.
        let super = super_view start.layout in
        let Mid : Parts = model.parts_of (volume_view start) (now (past_of mid)) in
        let New : Parts = model.parts_of (volume_view start) (now (past_of new)) in
        let K : model.Volume → Type 0 = λ view. OnOk result (KeepsInode view.layout (model.parts_of view (now (past_of mid))) (model.parts_of view (now (past_of new))) chosen.choice.inode) in
        let D : model.Volume → Type 0 = λ view. OnOk result (KeepsDirectories view.layout (model.parts_of view (now (past_of mid))) (model.parts_of view (now (past_of new))) chosen) in
        on_both result _ _ _
        (subst K (same_view start mid ready.unseen.kept) (enters.stays (told_mid told))) (subst D (same_view start mid ready.unseen.kept) (enters.directories (told_mid told)))
        (λ kept directories.
        let sees = (ready.unseen.held told).sees in
        record {
          lies = directories.lies;
          keeps = join_places_law super (parts_now start) Mid New chosen.directory chosen.choice.place sees (ready.places told) directories.keeps;
          points = λ number at z named to. ready.points told number at z named (directories.points number at z (named-new super (parts_now start) Mid sees number named) to);
          own = λ at z to. ready.own told at z
              (points-old super Mid New chosen.choice.inode (same-node (Mid.node chosen.choice.inode) (New.node chosen.choice.inode) kept.node).numbers
              (keeps-above super Mid New chosen.choice.inode kept.zones) at z to);
        });
    others = λ told d s off.
        not_written_join (past_of start) (past_of mid) (past_of new) d s (ready.others told d s off) (enters.others (told_mid told) d s (off_entered told d s off));
    device = λ told. device_of start mid new refusals.Device result ready.unseen.goes_on.later (enters.device (told_mid told));
  }
