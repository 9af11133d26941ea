-- A directory that gets new zones by a number in its inode.
use Rattle.std.proofs.Common.{◌≡◌, ◌<◌, ◌+◌, ◌/◌, ◌^◌, ℕ, suc, true, List, [], length, Result, OnOk, refl, sym, ◌∙◌, ap, subst, subst₂, arith, get_or-set_same}
use Rattle.std.specs.Prelude.{slice_index}
use Rattle.disk_trait.specs.declared.disks.Disks.{Ghosts}
use Rattle.disk_trait.specs.Past.{Image}
use Rattle.disk_trait.specs.Moments.{IsTold, now}
use Rattle.disk_trait.proofs.MomentLemmas.{on_ok}
use Rattle.lilo_model.specs.MinixEntries.{entries_per_block, places}
use Rattle.lilo_model.specs.MinixLayout.{Super, Inode, FitsInode, inode_place, is_size, numbers_in_zone, number_size}
use Rattle.lilo_model.specs.MinixNames.{pointer, zone_number, Named, PointsTo}
use Rattle.lilo_model.specs.MinixParts as model
use Rattle.lilo_model.specs.MinixParts.{Parts, Pointer, IsPointer, block_pointer, follow, number_below, number_in, zone_bytes, is_directory}
use Rattle.lilo_model.specs.MinixWalk.{Branch, branch_of}
use Rattle.minix_change_laws.specs.Changes.{ChangesNode, MayHook, with_top}
use Rattle.minix_change_laws.specs.Grows.{pointer_at, below}
use Rattle.minix_layout.specs.View.{kind_view, super_view}
use Rattle.minix_change_laws.specs.Sees.{SeenAsIn}
use Rattle.minix_change_laws.proofs.Seen.{opened}
use Rattle.minix_change_laws.proofs.Sees.{directory-same, named-new}
use Rattle.minix_steps.specs.Written.{with_sector_of, inode_rewritten, parts_now}
use Rattle.minix_tree.proofs.StatLemmas.{blocks_reached}
use Rattle.minix_turns.specs.Inode.{TurnsInode, FitsTop, tops, IsNamedNow, MayHaveTop}
use Rattle.minix_turns.specs.Joined.{Unseen}
use Rattle.minix_turns.proofs.SeenLemmas.{node_top}
use Rattle.minix_zones.specs.Volume.{volume_view, past_of}
use Rattle.minix_zones.specs.declared.volume.Volume.{Volume}
use Rattle.minix_zones.specs.declared.zone_fault.ZoneFault.{ZoneFault}
use Rattle.minix_zones.specs.declared.zone_fault.ZoneFault.TheVariants.{Device}
use Rattle.minix_grow.specs.Hook.{MayHookTopNow}
use Rattle.minix_grow.specs.Others.{HasOnWayNow, KeepsOthersNow}
use Rattle.minix_grow.specs.Places.{IsFreePlace, IsFreePlaceNow}
use Rattle.minix_grow.specs.Way.{depth_of, pointer_above, number_above, zones_below, AreGrown}
use Rattle.minix_grow.specs.Zones.{AreData, AreGrownNow}
use Rattle.minix_grow.proofs.CompleteLemmas.{may_hook_high, has_each, some_zone, entry_free}
use Rattle.minix_grow.proofs.ExtendLemmas.{view_after}
use Rattle.minix_grow.proofs.KeepLemmas.{keeps_top}
use Rattle.minix_grow.proofs.WayLemmas.{pointer_highest}
use Rattle.minix_grow.proofs.ZoneLemmas.{zones_fit}

-- the way begins with a number of the inode
module _ (super : Super) (parts : Parts) (directory place-block : ℕ) (growth : List ℕ) (grown : AreGrown super parts place-block growth (suc (depth_of super.kind place-block)))
    (small : (level : ℕ) → level < suc (depth_of super.kind place-block) → slice_index growth level < 256 ^ number_size super.kind) where
  abbrev Depth : ℕ
  Depth = depth_of super.kind place-block

  abbrev Top : Pointer
  Top = pointer_at (branch_of (numbers_in_zone super.kind) place-block).top []

  pub may_hook_top : Named super parts directory → is_directory (parts.node directory) ≡ true → number_above super parts directory place-block Depth ≡ 0
      → MayHook super parts directory Top (slice_index growth Depth) (zones_below super.kind place-block growth Depth)
  may_hook_top named is hole =
      let P : Pointer → Type 0 = λ at. MayHook super parts directory at (slice_index growth Depth) (zones_below super.kind place-block growth Depth) in
      subst P (pointer_highest super.kind place-block) (may_hook_high super parts directory place-block growth Depth (omega arith) grown small named is hole)

-- an inode that was written with another number and size is so
module _ {D E : Type 0} {disks : Ghosts D} (old new : Volume D disks) (directory top zone size : ℕ) (node : Inode) (error : E) (fits : FitsInode (super_view old.layout).kind node) (fit : FitsTop (super_view old.layout).kind top zone)
    (small : size < 2 ^ 32) (sized : is_size (super_view old.layout).kind size ≡ true) where
  abbrev Changes : Image → Inode → Type 0
  Changes image inode = ChangesNode (super_view old.layout) (parts_now old) (model.parts_of (volume_view old) image) directory (with_top inode top zone size)

  abbrev Retopped : Inode → Image
  Retopped inode = with_sector_of (volume_view old) (now (past_of old)) (inode_place (super_view old.layout) directory).sector (inode_rewritten old directory (with_top inode top zone size))

  retopped : IsNamedNow old directory node → Changes (Retopped node) node
  retopped lies =
      let own : FitsInode (super_view old.layout).kind ((parts_now old).node directory) = subst (FitsInode (super_view old.layout).kind) (sym lies.is) fits in
      let P : Inode → Type 0 = λ i. Changes (Retopped i) i in
      subst P lies.is (node_top (volume_view old) (now (past_of old)) old.whole lies.sound directory lies.named own top zone size fit small sized)

  pub top_changes : (result : Result (Unit {0}) E) → TurnsInode old new directory (with_top node top zone size) error result → IsTold (past_of old) → IsNamedNow old directory node
      → OnOk result (Changes (now (past_of new)) node)
  top_changes result turns told lies = on_ok result _ _ (turns.written told) (λ is. let P : Image → Type 0 = λ image. Changes image node in subst P (sym is) (retopped lies))

-- then each place of the block that lies below the size is free
module _ (view : model.Volume) (old image : Image) (directory place-block size : ℕ) (node : Inode) (growth : List ℕ)
    (grown : AreGrown view.layout (model.parts_of view old) place-block growth (suc (depth_of view.layout.kind place-block)))
    (fit : (level : ℕ) → level < suc (depth_of view.layout.kind place-block) → slice_index growth level < 256 ^ number_size view.layout.kind)
    (named : Named view.layout (model.parts_of view old) directory) (is : is_directory ((model.parts_of view old).node directory) ≡ true) (seen : SeenAsIn view old image)
    (ten : (branch_of (numbers_in_zone view.layout.kind) place-block).top < length node.zones) (small : size < 2 ^ 32) (sized : is_size view.layout.kind size ≡ true)
    (change : ChangesNode view.layout (model.parts_of view old) (model.parts_of view image) directory (with_top node (branch_of (numbers_in_zone view.layout.kind) place-block).top (slice_index growth (depth_of view.layout.kind place-block)) size)) where
  abbrev Is : Parts
  Is = model.parts_of view image

  top-is : pointer view.layout Is directory (pointer_at (branch_of (numbers_in_zone view.layout.kind) place-block).top []) ≡ slice_index growth (depth_of view.layout.kind place-block)
  unfolding follow
  top-is = ap (λ (i : Inode). slice_index i.zones (branch_of (numbers_in_zone view.layout.kind) place-block).top) change.here ∙ rw get_or-set_same refl

  high-is : number_above view.layout Is directory place-block (depth_of view.layout.kind place-block) ≡ slice_index growth (depth_of view.layout.kind place-block)
  high-is = ap (pointer view.layout Is directory) (pointer_highest view.layout.kind place-block) ∙ top-is

  zones-stay : (level : ℕ) → level < suc (depth_of view.layout.kind place-block) → Is.zone (slice_index growth level) ≡ (model.parts_of view old).zone (slice_index growth level)
  zones-stay level low = change.zones (slice_index growth level) (grown.fresh level low).range

  pub hooked_is_free : (place : ℕ) → place / entries_per_block view.layout.kind ≡ place-block → place < places view.layout.kind size → IsFreePlace view image directory place
  hooked_is_free place here below =
      let size-is : (Is.node directory).size ≡ size = ap (λ (i : Inode). i.size) change.here in
      record {
        placed = record {
          named = named-new view.layout (model.parts_of view old) Is seen.sees directory named;
          is = directory-same view.layout (model.parts_of view old) Is seen.sees directory named ∙ is;
          reached = rw size-is (blocks_reached view.layout.kind size small sized);
          below = rw size-is below;
          some = λ none. some_zone view.layout (model.parts_of view old) directory place-block growth (depth_of view.layout.kind place-block) (omega arith) grown fit Is zones-stay high-is
              (sym (ap (zone_number view.layout Is directory) here) ∙ none);
        };
        free = entry_free view.layout (model.parts_of view old) directory place-block growth (depth_of view.layout.kind place-block) (omega arith) grown fit Is zones-stay high-is place here;
      }

  -- and the directory has each new zone
  pub hooked_has : (level : ℕ) → level < suc (depth_of view.layout.kind place-block) → PointsTo view.layout Is directory (pointer_above view.layout.kind place-block level) (slice_index growth level)
  hooked_has =
      has_each view.layout (model.parts_of view old) directory place-block growth (depth_of view.layout.kind place-block) (omega arith) grown fit Is zones-stay high-is
      (directory-same view.layout (model.parts_of view old) Is seen.sees directory named ∙ is)

-- ---- on a volume, with the branch of the block as it was found

module _ {D : Type 0} {disks : Ghosts D} (old new : Volume D disks) (directory place-block size top first depth : ℕ) (node : Inode) (growth : List ℕ)
    (branch : branch_of (numbers_in_zone (kind_view old.layout.kind)) place-block ≡ record { top = top; first = first; depth = depth })
    (all : length growth ≡ depth_of (kind_view old.layout.kind) place-block + 1) (those : AreData old.layout growth)
    (grown : IsTold (past_of old) → AreGrownNow old place-block growth) (may : IsTold (past_of old) → MayHookTopNow old directory node place-block size) where
  top-same : (branch_of (numbers_in_zone (kind_view old.layout.kind)) place-block).top ≡ top
  top-same = ap (λ (b : Branch). b.top) branch

  depth-same : depth_of (kind_view old.layout.kind) place-block ≡ depth
  depth-same = ap (λ (b : Branch). b.depth) branch

  grown-all : IsTold (past_of old) → AreGrown (super_view old.layout) (parts_now old) place-block growth (suc (depth_of (kind_view old.layout.kind) place-block))
  grown-all told =
      let e : length growth ≡ suc (depth_of (kind_view old.layout.kind) place-block) = omega (arith, all) in
      let P : ℕ → Type 0 = λ count. AreGrown (super_view old.layout) (parts_now old) place-block growth count in
      subst P e (grown told)

  fit-all : (level : ℕ) → level < suc (depth_of (kind_view old.layout.kind) place-block) → slice_index growth level < 256 ^ number_size (kind_view old.layout.kind)
  fit-all level low = zones_fit old.layout old.span.count growth old.whole those level (omega (arith, low, all))

  pub may_have_top : IsTold (past_of old) → MayHaveTop old directory node top (slice_index growth depth) size (zones_below (kind_view old.layout.kind) place-block growth (depth_of (kind_view old.layout.kind) place-block))
  may_have_top told =
      let P : ℕ → ℕ → Type 0 = λ t d. MayHaveTop old directory node t (slice_index growth d) size (zones_below (kind_view old.layout.kind) place-block growth (depth_of (kind_view old.layout.kind) place-block)) in
      subst₂ P top-same depth-same (record {
        lies = (may told).lies;
        hooks = may_hook_top (super_view old.layout) (parts_now old) directory place-block growth (grown-all told) fit-all (may told).lies.named (may told).is (may told).hole;
        sized = (may told).sized;
      })

  module _ (fits : FitsInode (kind_view old.layout.kind) node) (ten : top < 10) (low : top < tops (kind_view old.layout.kind)) (small : size < 2 ^ 32) (sized : is_size (kind_view old.layout.kind) size ≡ true)
      (result : Result (Unit {0}) ZoneFault) (turns : TurnsInode old new directory (with_top node top (slice_index growth depth) size) Device result) where
    abbrev New : Parts
    New = model.parts_of (volume_view old) (now (past_of new))

    abbrev AtTop : ℕ
    AtTop = (branch_of (numbers_in_zone (kind_view old.layout.kind)) place-block).top

    fit-top : FitsTop (kind_view old.layout.kind) top (slice_index growth depth)
    fit-top = record { low = low; small = fit-all depth (omega (arith, depth-same)) }

    long : top < length node.zones
    long = let n = fits.ten in omega (arith, ten, n)

    long-top : AtTop < length node.zones
    long-top = omega (arith, long, top-same)

    changed : IsTold (past_of old) → OnOk result (ChangesNode (super_view old.layout) (parts_now old) New directory (with_top node top (slice_index growth depth) size))
    changed told = top_changes old new directory top (slice_index growth depth) size node Device fits fit-top small sized result turns told (may told).lies

    changed-top : ChangesNode (super_view old.layout) (parts_now old) New directory (with_top node top (slice_index growth depth) size)
        → ChangesNode (super_view old.layout) (parts_now old) New directory (with_top node AtTop (slice_index growth (depth_of (kind_view old.layout.kind) place-block)) size)
    changed-top change =
        let C : ℕ → ℕ → Type 0 = λ t d. ChangesNode (super_view old.layout) (parts_now old) New directory (with_top node t (slice_index growth d) size) in
        subst₂ C (sym top-same) (sym depth-same) change

    pub places_are_free : Unseen old new → (place : ℕ) → IsTold (past_of old) → place / entries_per_block (kind_view old.layout.kind) ≡ place-block → place < places (kind_view old.layout.kind) size
        → OnOk result (IsFreePlaceNow new directory place)
    places_are_free unseen place told here below =
        let F : model.Volume → Type 0 = λ view. IsFreePlace view (now (past_of new)) directory place in
        on_ok result _ _ (changed told)
        (λ change. view_after old new F unseen
        (hooked_is_free (volume_view old) (now (past_of old)) (now (past_of new)) directory place-block size node growth (grown-all told) fit-all (may told).lies.named (may told).is (unseen.held told) long-top small sized
        (changed-top change) place here below))

    -- the directory has each new zone
    pub hook_has : Unseen old new → IsTold (past_of old) → OnOk result (HasOnWayNow old new directory place-block growth)
    hook_has unseen told =
        on_ok result _ _ (changed told)
        (λ change level below.
        hooked_has (volume_view old) (now (past_of old)) (now (past_of new)) directory place-block size node growth (grown-all told) fit-all (may told).lies.named (may told).is (unseen.held told) long-top small sized
        (changed-top change) level (omega (arith, below, all)))

    -- each other inode stays
    pub hook_keeps : IsTold (past_of old) → OnOk result (KeepsOthersNow old new directory growth)
    hook_keeps told =
        let m = may told in
        let H : ℕ → Type 0 = λ d. MayHook (super_view old.layout) (parts_now old) directory (pointer_at top []) (slice_index growth depth) (zones_below (kind_view old.layout.kind) place-block growth d) in
        let C : Inode → Type 0 = λ i. ChangesNode (super_view old.layout) (parts_now old) New directory (with_top i top (slice_index growth depth) size) in
        let L : Inode → Type 0 = λ i. top < length i.zones in
        on_ok result _ _ (changed told)
        (λ change. keeps_top (super_view old.layout) (parts_now old) New directory top size depth place-block growth
        (opened (volume_view old) (now (past_of old)) m.lies.sound).parts (omega (arith, all, depth-same))
        (subst H depth-same (may_have_top told).hooks) m.sized (subst L (sym m.lies.is) long) (subst C (sym m.lies.is) change))
