-- Which way a directory grows, by the lowest zone that is there on the way to the block of a place.
use Rattle.std.proofs.Common.{◌≡◌, ◌≢◌, ◌≤◌, ◌<◌, ◌+◌, ◌-◌, ◌*◌, ◌/◌, ◌%◌, ◌^◌, ◌==◌, ◌⊎◌, ℕ, zero, suc, Bool, true, false, List, length, take, Option, Result, Ok, Err, refl, sym, ◌∙◌, ap, subst, arith, eq-eqb, inl, inr}
use Rattle.std.specs.Prelude.{slice_index}
use Rattle.std.proofs.lemmas.Bool.{eqb-true, cases_lt}
use Rattle.std.proofs.lemmas.Nat.{mod_below}
use Rattle.std.proofs.lemmas.List.{get_or-take, length-take-le}
use Rattle.disk_trait.specs.declared.disks.Disks.{Ghosts}
use Rattle.disk_trait.specs.declared.disks.Span.{Span}
use Rattle.disk_trait.specs.Moments.{IsTold, now, IsQuiet}
use Rattle.disk_trait.specs.NotWritten.{IsOther}
use Rattle.disk_trait.specs.Past.{Past}
use Rattle.disk_trait.specs.Range.{IsOutside}
use Rattle.lilo_model.specs.MinixEntries.{entries_per_block, places}
use Rattle.lilo_model.specs.MinixLayout.{Kind, V1Short, V1Long, V2Short, V2Long, Super, Inode, FitsInode, is_size, reach, entry_size, numbers_in_zone, zone_sector}
use Rattle.lilo_model.specs.MinixNames.{zone_number, pointer, entry, Named, Sound, IsSound}
use Rattle.lilo_model.specs.MinixParts as model
use Rattle.lilo_model.specs.MinixParts.{Parts, inside, number_below, is_directory, blocks_for}
use Rattle.lilo_model.specs.MinixWalk.{place_in_branch}
use Rattle.minix_change_laws.specs.Only.{zone_of_entry}
use Rattle.minix_change_laws.proofs.Blocks.{block-below, entry-fits, index-below, some-entry}
use Rattle.minix_change_laws.specs.Changes.{MaySize}
use Rattle.minix_change_laws.proofs.Holes.{hole_law}
use Rattle.minix_laws.proofs.Inside.{inside-hole, inside-zone, some_numbers}
use Rattle.minix_layout.specs.View.{kind_view, super_view}
use Rattle.minix_layout.specs.declared.superblock.Super as layouts
use Rattle.minix_change_laws.proofs.Inode.{directory-zones}
use Rattle.minix_change_laws.proofs.Seen.{opened}
use Rattle.minix_steps.specs.Written.{parts_now}
use Rattle.minix_steps.proofs.ReadyLemmas.{quiet_ready}
use Rattle.minix_steps.proofs.StepLemmas.{no_step}
use Rattle.minix_tree.proofs.StatLemmas.{blocks_reached}
use Rattle.minix_turns.specs.Joined.{Unseen}
use Rattle.minix_turns.proofs.JoinedLemmas.{steps_unseen}
use Rattle.minix_change_laws.specs.Part.{offset_of_number}
use Rattle.minix_zones.specs.View.{Refuses, IsDataZone, span_view}
use Rattle.minix_zones.specs.Volume.{volume_view, past_of, faults_of, SameVolume, HasDeviceCause}
use Rattle.minix_zones.specs.declared.volume.Volume.{Volume}
use Rattle.minix_zones.specs.declared.zone_fault.ZoneFault.{ZoneFault}
use Rattle.minix_zones.specs.declared.zone_fault.ZoneFault.TheVariants as faults
use Rattle.minix_grow.specs.Below.{MayHookBelowNow, IsOffNumber}
use Rattle.minix_grow.specs.Grow.{AreUnusedWhereMissing, IsLowest, IsOffWay, IsRefusedOnWay, IsSizeOver, MayGrowNow, MayGrowByNow, ReachesDownNow}
use Rattle.minix_grow.specs.Hook.{MayHookTopNow}
use Rattle.minix_grow.specs.Others.{KeepsOthers, KeepsOthersNow}
use Rattle.minix_grow.specs.Places.{size_to, IsFreePlaceNow, IsNextPlaceNow, IsOffPlace}
use Rattle.minix_grow.specs.Way.{depth_of, pointer_above, number_on_way, index_above}
use Rattle.minix_grow.specs.Zones.{AreData, AreUnused, IsOffZones}
use Rattle.minix_grow.proofs.CompleteLemmas.{way_is_pointer, way_step}
use Rattle.minix_grow.proofs.PlaceLemmas.{places_to}
use Rattle.minix_grow.proofs.RaiseLemmas.{place_below, place_past}
use Rattle.minix_grow.proofs.WayLemmas.{pointer_lowest}

-- below a hole the way is missing
pub holes_below : (super : Super) (parts : Parts) (node : Inode) (block high level more : ℕ) → high ≤ depth_of super.kind block → level + more ≡ high → number_on_way super parts node block high ≡ 0
    → number_on_way super parts node block level ≡ 0
holes_below super parts node block high level zero few same hole =
    let e : high ≡ level = omega (arith, same) in
    let P : ℕ → Type 0 = λ l. number_on_way super parts node block l ≡ 0 in
    subst P e hole
holes_below super parts node block high level (suc more) few same hole =
    let upper : number_on_way super parts node block (suc level) ≡ 0 = holes_below super parts node block high (suc level) more few (omega (arith, same)) hole in
    way_step super parts node block level (omega (arith, few, same)) ∙ ap (λ z. number_below super.kind parts.zone z (index_above super.kind block level)) upper

-- on sound parts no number on the way is refused
module _ (super : Super) (parts : Parts) (directory block level : ℕ) (sound : Sound super parts) (named : Named super parts directory) (is : is_directory (parts.node directory) ≡ true)
    (low : level ≤ depth_of super.kind block) where
  abbrev Number : ℕ
  Number = pointer super parts directory (pointer_above super.kind block level)

  inside-by : (hole : Bool) → (Number == 0) ≡ hole → inside super Number ≡ Ok Number
  inside-by true hole =
      let none : Number ≡ 0 = eqb-true Number 0 hole in
      let P : ℕ → Type 0 = λ n. inside super n ≡ Ok n in
      subst P (sym none) (inside-hole super)
  inside-by false hole =
      let some : Number ≢ 0 = λ e. let t = eq-eqb Number 0 e in cc in
      let range = sound.zone_range directory (pointer_above super.kind block level) Number
      (record { named = named; to = record { kind = directory-zones parts directory is; place = way_is_pointer super block level low; is = refl; some = some } }) in
      inside-zone super Number some range.0 range.1

  inside-way : inside super Number ≡ Ok Number
  inside-way = inside-by _ refl

is-device : {B : Type 0} (fault : ZoneFault) (value : B) → Refuses fault (Ok value) → fault ≡ faults.Device
is-device (faults.Layout fault) value refused = absurd (cc)
is-device (faults.ZoneOutside zone) value refused = absurd (cc)
is-device faults.Device value refused = refl

-- the first of some zones
pub first_data : (layout : layouts.Super) (growth : List ℕ) (count : ℕ) → count ≤ length growth → AreData layout growth → AreData layout (take count growth)
first_data layout growth count few those =
    let long : length (take count growth) ≡ count = length-take-le count growth few in
    record {
      from = λ level low. rw (get_or-take count growth level _ (omega (arith, low, long))) (those.from level (omega (arith, low, long, few)));
      below = λ level low. rw (get_or-take count growth level _ (omega (arith, low, long))) (those.below level (omega (arith, low, long, few)));
      apart = λ level other order low.
          rw (get_or-take count growth level _ (omega (arith, order, low, long)), get_or-take count growth other _ (omega (arith, low, long))) (those.apart level other order (omega (arith, low, long, few)));
    }

-- ---- sectors of a zone

-- a sector outside a zone isn't one of its two
outside_other : (disk start zone half d s : ℕ) → half < 2 → IsOutside disk (start + zone) 2 d s → IsOther disk (start + (zone + half)) d s
outside_other disk start zone half d s low (inl apart) = inl apart
outside_other disk start zone half d s low (inr (inl before)) = inr (λ e. omega (arith, e, before))
outside_other disk start zone half d s low (inr (inr after)) = inr (λ e. omega (arith, e, after, low))

place_half : (kind : Kind) (place : ℕ) → entry_size kind * (place % entries_per_block kind) / 512 < 2
place_half kind place =
    let fits = entry-fits kind (place % entries_per_block kind) (index-below kind place) in
    let some = some-entry kind in
    omega (arith, fits, some)

number-in : (kind : Kind) (index : ℕ) → index < numbers_in_zone kind → offset_of_number kind index / 512 < 2
number-in V1Short index low = omega (arith, low)
number-in V1Long index low = omega (arith, low)
number-in V2Short index low = omega (arith, low)
number-in V2Long index low = omega (arith, low)

number_half : (kind : Kind) (block level : ℕ) → offset_of_number kind (index_above kind block level) / 512 < 2
number_half kind block level =
    number-in kind (index_above kind block level) (mod_below (place_in_branch (numbers_in_zone kind) block / numbers_in_zone kind ^ level) (numbers_in_zone kind) (some_numbers kind))

-- those off some zones are off the first of them
pub off_first : {D : Type 0} {disks : Ghosts D} (volume : Volume D disks) (growth : List ℕ) (count : ℕ) → count ≤ length growth → (d s : ℕ) → IsOffZones volume growth d s → IsOffZones volume (take count growth) d s
off_first volume growth count few d s off level low =
    let long : length (take count growth) ≡ count = length-take-le count growth few in
    rw (get_or-take count growth level _ (omega (arith, low, long))) (off level (omega (arith, low, long, few)))

-- where none of the zones on a way is there all of it is missing
pub all_missing : (layout : layouts.Super) (block level zone : ℕ) → IsLowest layout block level zone → zone ≡ 0 → depth_of (kind_view layout.kind) block < level
all_missing layout block level zone lowest none = by (cases_lt (depth_of (kind_view layout.kind) block) level)
  where
    by : (depth_of (kind_view layout.kind) block < level) ⊎ (level ≤ depth_of (kind_view layout.kind) block) → depth_of (kind_view layout.kind) block < level
    by (inl over) = over
    by (inr there) = let some = (lowest.inside there).some in absurd (omega (arith, some, none))

-- ---- a volume that was read

pub read_unseen : {D : Type 0} {disks : Ghosts D} (old mid : Volume D disks) → IsQuiet (past_of old) → (IsTold (past_of old) → IsSound (volume_view old) (now (past_of old))) → SameVolume old mid → faults_of old ≤ faults_of mid
    → Unseen old mid
read_unseen old mid quiet sound same later = steps_unseen old mid quiet sound (no_step old mid (quiet_ready old quiet sound) same later)

-- ---- on a volume

module _ {D : Type 0} {disks : Ghosts D} (volume : Volume D disks) (directory place : ℕ) (node : Inode) (growth : List ℕ) (fits : FitsInode (kind_view volume.layout.kind) node)
    (sized : is_size (kind_view volume.layout.kind) (size_to (kind_view volume.layout.kind) place) ≡ true) (small : size_to (kind_view volume.layout.kind) place < 2 ^ 32)
    (next : place ≤ places (kind_view volume.layout.kind) node.size) (may : IsTold (past_of volume) → MayGrowNow volume directory node place growth) where
  abbrev Block : ℕ
  Block = place / entries_per_block (kind_view volume.layout.kind)

  abbrev Is : Parts
  Is = parts_now volume

  pub block_near : Block < reach (kind_view volume.layout.kind)
  block_near =
      let few = blocks_reached (kind_view volume.layout.kind) (size_to (kind_view volume.layout.kind) place) small sized in
      let to = places_to (kind_view volume.layout.kind) place in
      let low = block-below (kind_view volume.layout.kind) (size_to (kind_view volume.layout.kind) place) place (omega (arith, to)) in
      omega (arith, few, low)

  -- what was refused on the way is the disk's
  pub refused_is_device : (fault : ZoneFault) → IsTold (past_of volume) → IsRefusedOnWay volume node Block fault → fault ≡ faults.Device
  refused_is_device fault told refused =
      let m = may told in
      let R : Inode → Type 0 = λ i. Refuses fault (inside (super_view volume.layout) (number_on_way (super_view volume.layout) Is i Block refused.level)) in
      let given = inside-way (super_view volume.layout) Is directory Block refused.level (opened (volume_view volume) (now (past_of volume)) m.lies.sound).parts m.lies.named m.is refused.low in
      let S : Result ℕ model.ZoneFault → Type 0 = λ found. Refuses fault found in
      is-device fault (number_on_way (super_view volume.layout) Is (Is.node directory) Block refused.level) (subst S given (subst R (sym m.lies.is) refused.refused))

  module _ (told : IsTold (past_of volume)) where
    size-same : (Is.node directory).size ≡ node.size
    size-same = ap (λ (i : Inode). i.size) (may told).lies.is

    node-sized : is_size (kind_view volume.layout.kind) node.size ≡ true
    node-sized =
        let m = may told in
        let S : ℕ → Type 0 = λ s. is_size (kind_view volume.layout.kind) s ≡ true in
        subst S size-same ((opened (volume_view volume) (now (past_of volume)) m.lies.sound).parts.size directory m.lies.named)

    reached : blocks_for (Is.node directory).size ≤ reach (kind_view volume.layout.kind)
    reached = rw size-same (blocks_reached (kind_view volume.layout.kind) node.size fits.size_fits node-sized)

    by-node : (level : ℕ) → number_on_way (super_view volume.layout) Is (Is.node directory) Block level ≡ number_on_way (super_view volume.layout) Is node Block level
    by-node level = ap (λ i. number_on_way (super_view volume.layout) Is i Block level) (may told).lies.is

    -- the block is there
    module _ (zone : ℕ) (there : IsDataZone volume.layout zone) (way-there : ReachesDownNow volume node Block 0 zone) where
      lies : zone_of_entry (super_view volume.layout) Is directory place ≡ zone
      unfolding zone_number
      lies = ap (pointer (super_view volume.layout) Is directory) (sym (pointer_lowest (kind_view volume.layout.kind) Block)) ∙ (by-node 0 ∙ way-there.number (omega arith))

      some : zone_of_entry (super_view volume.layout) Is directory place ≢ 0
      some none = let e : zone ≡ 0 = sym lies ∙ none in let s = there.some in omega (arith, e, s)

      -- the sector with the place is in the zone
      pub off_block : (d s : ℕ) → IsOffWay volume directory Block d s → IsOffPlace volume place zone d s
      off_block d s way =
          let number : number_on_way (super_view volume.layout) Is (Is.node directory) Block 0 ≡ zone = by-node 0 ∙ way-there.number (omega arith) in
          let Z : ℕ → Type 0 = λ z. IsOutside volume.span.disk (volume.span.start + zone_sector z) 2 d s in
          let out = way 0 (omega arith) (λ none. let e : zone ≡ 0 = sym number ∙ none in let p = there.some in omega (arith, e, p)) in
          outside_other volume.span.disk volume.span.start (zone_sector zone) (entry_size (kind_view volume.layout.kind) * (place % entries_per_block (kind_view volume.layout.kind)) / 512) d s
          (place_half (kind_view volume.layout.kind) place) (subst Z number out)

      pub is_free : size_to (kind_view volume.layout.kind) place ≤ node.size → IsFreePlaceNow volume directory place
      is_free low =
          let m = may told in
          let below = place_below (kind_view volume.layout.kind) place node.size low in
          record {
            placed = record { named = m.lies.named; is = m.is; reached = reached; below = rw size-same below; some = some };
            free = m.free below;
          }

      pub is_next : node.size < size_to (kind_view volume.layout.kind) place → IsNextPlaceNow volume directory node place zone
      is_next past =
          let m = may told in
          let after = place_past (kind_view volume.layout.kind) place node.size past in
          record {
            sound = m.lies.sound;
            is = m.lies.is;
            past = record { named = m.lies.named; is = m.is; past = rw size-same after; some = some; reached = reached; near = block_near };
            lies = lies;
            next = omega (arith, after, next);
          }

    -- some of the way is missing
    module _ (level zone high : ℕ) (one : level ≡ suc high) (low : high ≤ depth_of (kind_view volume.layout.kind) Block) (way : ReachesDownNow volume node Block level zone) where
      hole : number_on_way (super_view volume.layout) Is (Is.node directory) Block high ≡ 0
      hole = by-node high ∙ way.hole high one

      holes : (lower : ℕ) → lower ≤ high → number_on_way (super_view volume.layout) Is (Is.node directory) Block lower ≡ 0
      holes lower order = holes_below (super_view volume.layout) Is (Is.node directory) Block high lower (high - lower) low (omega (arith, order)) hole

      pub are_enough : level ≤ length growth
      are_enough = let e = (may told).enough high low hole in omega (arith, e, one)

      -- a place past the size is free
      block-hole : zone_number (super_view volume.layout) Is directory Block ≡ 0
      unfolding zone_number
      block-hole = ap (pointer (super_view volume.layout) Is directory) (sym (pointer_lowest (kind_view volume.layout.kind) Block)) ∙ holes 0 (omega arith)

      pub may_size_same : MaySize (super_view volume.layout) Is directory node.size
      may_size_same =
          let m = may told in
          record {
            named = m.lies.named;
            is = m.is;
            sized = node-sized;
            room = rw size-same (omega arith);
            reaches = λ reach. rw (sym size-same) reached;
            free = λ other from below. let f : places (kind_view volume.layout.kind) node.size ≤ other = subst (λ s. places (kind_view volume.layout.kind) s ≤ other) size-same from in absurd (omega (arith, f, below));
          }

      pub may_size_next : node.size < size_to (kind_view volume.layout.kind) place → MaySize (super_view volume.layout) Is directory (size_to (kind_view volume.layout.kind) place)
      may_size_next past =
          let m = may told in
          let after = place_past (kind_view volume.layout.kind) place node.size past in
          let e = places_to (kind_view volume.layout.kind) place in
          record {
            named = m.lies.named;
            is = m.is;
            sized = sized;
            room = rw size-same (omega (arith, e, after, next));
            reaches = λ reach. blocks_reached (kind_view volume.layout.kind) (size_to (kind_view volume.layout.kind) place) small sized;
            free = λ other from below.
                let from' : places (kind_view volume.layout.kind) node.size ≤ other = subst (λ s. places (kind_view volume.layout.kind) s ≤ other) size-same from in
                let same : other ≡ place = omega (arith, e, from', below, next, after) in
                ap (λ p. (entry (super_view volume.layout) Is directory p).inode) same ∙ hole_law (super_view volume.layout) Is directory place block-hole;
          }

      pub may_hook_below : level ≤ depth_of (kind_view volume.layout.kind) Block → MayHookBelowNow volume directory node Block level zone
      may_hook_below few =
          let less : high ≡ level - 1 = omega (arith, one) in
          let H : ℕ → Type 0 = λ l. number_on_way (super_view volume.layout) Is (Is.node directory) Block l ≡ 0 in
          record { lies = (may told).lies; is = (may told).is; above = by-node level ∙ way.number few; hole = subst H less hole }

      pub may_hook_top_with : depth_of (kind_view volume.layout.kind) Block < level → (size : ℕ) → MaySize (super_view volume.layout) Is directory size → MayHookTopNow volume directory node Block size
      may_hook_top_with over size may-size =
          let top : high ≡ depth_of (kind_view volume.layout.kind) Block = omega (arith, one, low, over) in
          let H : ℕ → Type 0 = λ l. number_on_way (super_view volume.layout) Is (Is.node directory) Block l ≡ 0 in
          record { lies = (may told).lies; is = (may told).is; hole = subst H top hole; sized = may-size }

      -- the number of the highest new zone is in a zone on the way
      pub off_hook : IsLowest volume.layout Block level zone → level ≤ length growth → (d s : ℕ) → IsOffWay volume directory Block d s
          → zone ≢ 0 → IsOffNumber volume Block (length (take level growth)) zone d s
      off_hook lowest few d s off some =
          let there : level ≤ depth_of (kind_view volume.layout.kind) Block = by_order (cases_lt (depth_of (kind_view volume.layout.kind) Block) level) in
          let number : number_on_way (super_view volume.layout) Is (Is.node directory) Block level ≡ zone = by-node level ∙ way.number there in
          let Z : ℕ → Type 0 = λ z. IsOutside volume.span.disk (volume.span.start + zone_sector z) 2 d s in
          let out = off level there (λ none. some (sym number ∙ none)) in
          outside_other volume.span.disk volume.span.start (zone_sector zone) (offset_of_number (kind_view volume.layout.kind) (index_above (kind_view volume.layout.kind) Block (length (take level growth) - 1)) / 512) d s
          (number_half (kind_view volume.layout.kind) Block (length (take level growth) - 1)) (subst Z number out)
        where
          by_order : (depth_of (kind_view volume.layout.kind) Block < level) ⊎ (level ≤ depth_of (kind_view volume.layout.kind) Block) → level ≤ depth_of (kind_view volume.layout.kind) Block
          by_order (inl over) = absurd (some (lowest.none over))
          by_order (inr few') = few'

      -- with the size that lies over the place
      may_size_over : (over : ℕ) → IsSizeOver (kind_view volume.layout.kind) node.size place over → MaySize (super_view volume.layout) Is directory over
      may_size_over over (inl below) = let P : ℕ → Type 0 = MaySize (super_view volume.layout) Is directory in subst P (sym below.1) may_size_same
      may_size_over over (inr past) = let P : ℕ → Type 0 = MaySize (super_view volume.layout) Is directory in subst P (sym past.1) (may_size_next past.0)

      pub may_grow_by : MayGrowByNow volume directory node place level zone
      may_grow_by = record {
        in_zone = may_hook_below;
        in_inode = λ over size is. may_hook_top_with over size (may_size_over size is);
      }

-- the zones that are missing are unused
pub are_unused : {D : Type 0} {disks : Ghosts D} (volume : Volume D disks) (node : Inode) (block : ℕ) (growth : List ℕ) (level zone high : ℕ) → AreUnusedWhereMissing volume node block growth
    → level ≡ suc high → high ≤ depth_of (kind_view volume.layout.kind) block → (IsTold (past_of volume) → ReachesDownNow volume node block level zone) → level ≤ length growth → AreUnused volume (take level growth)
are_unused volume node block growth level zone high unused one low way few lower order =
    let long : length (take level growth) ≡ level = length-take-le level growth few in
    let below : lower < level = omega (arith, order, long) in
    rw (get_or-take level growth lower _ below)
    (unused lower (omega (arith, below, few)) (λ told. holes_below (super_view volume.layout) (parts_now volume) node block high lower (high - lower) low (omega (arith, below, one)) ((way told).hole high one)))

-- a place lies below the size that is over it
pub over_below : (kind : Kind) (size place over : ℕ) → IsSizeOver kind size place over → place < places kind over
over_below kind size place over (inl below) = rw below.1 (place_below kind place size below.0)
over_below kind size place over (inr past) = let e = places_to kind place in rw past.1 (omega (arith, e))

-- where a zone on the way is there not all of it is missing
pub some_there : (layout : layouts.Super) (block level zone : ℕ) → IsLowest layout block level zone → zone ≢ 0 → level ≤ depth_of (kind_view layout.kind) block
some_there layout block level zone lowest some = by (cases_lt (depth_of (kind_view layout.kind) block) level)
  where
    by : (depth_of (kind_view layout.kind) block < level) ⊎ (level ≤ depth_of (kind_view layout.kind) block) → level ≤ depth_of (kind_view layout.kind) block
    by (inl over) = absurd (some (lowest.none over))
    by (inr there) = there

-- ---- the same volume, once it was read

module _ {D : Type 0} {disks : Ghosts D} (old mid : Volume D disks) (same : SameVolume old mid) where
  same_fact : (W : Span → layouts.Super → Option Past → Type 0) → W old.span old.layout (past_of old) → W mid.span mid.layout (past_of mid)
  same_fact W holds =
      let one : W old.span old.layout (past_of mid) = subst (W old.span old.layout) (sym same.same_disks.same_past) holds in
      let two : W old.span mid.layout (past_of mid) = subst (λ l. W old.span l (past_of mid)) (sym same.same_layout) one in
      subst (λ p. W p mid.layout (past_of mid)) (sym same.same_span) two

  back_fact : (W : Span → layouts.Super → Option Past → Type 0) → W mid.span mid.layout (past_of mid) → W old.span old.layout (past_of old)
  back_fact W holds =
      let one : W mid.span mid.layout (past_of old) = subst (W mid.span mid.layout) same.same_disks.same_past holds in
      let two : W mid.span old.layout (past_of old) = subst (λ l. W mid.span l (past_of old)) same.same_layout one in
      subst (λ p. W p old.layout (past_of old)) same.same_span two

  pub told_mid : IsTold (past_of old) → IsTold (past_of mid)
  told_mid told = subst IsTold (sym same.same_disks.same_past) told

  pub told_old : IsTold (past_of mid) → IsTold (past_of old)
  told_old told = subst IsTold same.same_disks.same_past told

  abbrev PartsAt : Span → layouts.Super → Option Past → Parts
  PartsAt span layout past = model.parts_of (record { span = span_view span; layout = super_view layout }) (now past)

  pub may_grow_same : (directory place : ℕ) (node : Inode) (growth : List ℕ) → MayGrowNow old directory node place growth → MayGrowNow mid directory node place growth
  may_grow_same directory place node growth may = record {
    lies = record {
      sound = same_fact (λ span layout past. IsSound (record { span = span_view span; layout = super_view layout }) (now past)) may.lies.sound;
      is = same_fact (λ span layout past. (PartsAt span layout past).node directory ≡ node) may.lies.is;
      named = same_fact (λ span layout past. Named (super_view layout) (PartsAt span layout past) directory) may.lies.named;
    };
    is = same_fact (λ span layout past. is_directory ((PartsAt span layout past).node directory) ≡ true) may.is;
    free = same_fact (λ span layout past. place < places (kind_view layout.kind) node.size → (entry (super_view layout) (PartsAt span layout past) directory place).inode ≡ 0) may.free;
    enough = let W : Span → layouts.Super → Option Past → Type 0 = λ span layout past. ((level : ℕ) → level ≤ depth_of (kind_view layout.kind) (place / entries_per_block (kind_view layout.kind))
        → pointer (super_view layout) (PartsAt span layout past) directory (pointer_above (kind_view layout.kind) (place / entries_per_block (kind_view layout.kind)) level) ≡ 0 → level < length growth) in
        same_fact W may.enough;
  }

  pub sound_same : (IsTold (past_of old) → IsSound (volume_view old) (now (past_of old))) → IsTold (past_of mid) → IsSound (volume_view mid) (now (past_of mid))
  sound_same sound told = same_fact (λ span layout past. IsSound (record { span = span_view span; layout = super_view layout }) (now past)) (sound (told_old told))

  pub unused_same : IsQuiet (past_of old) → (IsTold (past_of old) → IsSound (volume_view old) (now (past_of old))) → faults_of old ≤ faults_of mid → (node : Inode) (place : ℕ) (growth : List ℕ)
      → AreUnusedWhereMissing old node (place / entries_per_block (kind_view old.layout.kind)) growth → AreUnusedWhereMissing mid node (place / entries_per_block (kind_view mid.layout.kind)) growth
  unused_same quiet sound later node place growth unused level low missing =
      let N : Span → layouts.Super → Option Past → Type 0 = λ span layout past.
      number_on_way (super_view layout) (PartsAt span layout past) node (place / entries_per_block (kind_view layout.kind)) level ≡ 0 in
      (no_step old mid (quiet_ready old quiet sound) same later).unused (slice_index growth level)
      (unused level low (λ told. back_fact N (missing (told_mid told))))

  pub off_way_same : (directory place d s : ℕ) → IsOffWay old directory (place / entries_per_block (kind_view old.layout.kind)) d s → IsOffWay mid directory (place / entries_per_block (kind_view mid.layout.kind)) d s
  off_way_same directory place d s off =
      let W : Span → layouts.Super → Option Past → Type 0 = λ span layout past. ((level : ℕ) → level ≤ depth_of (kind_view layout.kind) (place / entries_per_block (kind_view layout.kind))
      → pointer (super_view layout) (PartsAt span layout past) directory (pointer_above (kind_view layout.kind) (place / entries_per_block (kind_view layout.kind)) level) ≢ 0
      → IsOutside span.disk (span.start + zone_sector (pointer (super_view layout) (PartsAt span layout past) directory (pointer_above (kind_view layout.kind) (place / entries_per_block (kind_view layout.kind)) level))) 2 d s) in
      same_fact W off

  -- a later refusal is one since the volume was read
  pub device_since : (new : Volume D disks) → faults_of old ≤ faults_of mid → (result : Result (Unit {0}) ZoneFault) → HasDeviceCause mid new faults.Device result → HasDeviceCause old new faults.Device result
  device_since new later (Ok value) cause = tt
  device_since new later (Err fault) cause = (cause.0, λ below. let rose = cause.1 below in omega (arith, rose, later))

  -- what a later call keeps it keeps since the volume was read
  pub keeps_since : (new : Volume D disks) (directory : ℕ) (growth : List ℕ) → KeepsOthersNow mid new directory growth → KeepsOthersNow old new directory growth
  keeps_since new directory growth =
      back_fact (λ span layout past. KeepsOthers (super_view layout) (PartsAt span layout past) (PartsAt span layout (past_of new)) directory growth)
