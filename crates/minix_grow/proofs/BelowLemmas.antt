-- A directory that gets new zones by a number in an indirect zone that it has.
use Rattle.std.proofs.Common.{◌≡◌, ◌≢◌, ◌<◌, ◌-◌, ◌^◌, ℕ, suc, true, List, length, Result, OnOk, sym, ◌∙◌, ap, subst, arith}
use Rattle.std.specs.Prelude.{slice_index}
use Rattle.disk_trait.specs.declared.disks.Disks.{Ghosts}
use Rattle.disk_trait.specs.Past.{Image}
use Rattle.disk_trait.specs.Moments.{IsTold, now}
use Rattle.disk_trait.proofs.MomentLemmas.{on_ok}
use Rattle.lilo_model.specs.MinixLayout.{Inode, numbers_in_zone, number_size}
use Rattle.lilo_model.specs.MinixNames.{Named, PointsTo, Refers, IsSound}
use Rattle.lilo_model.specs.MinixParts as model
use Rattle.lilo_model.specs.MinixParts.{Parts, Pointer, is_directory, number_below, number_in}
use Rattle.minix_change_laws.specs.Beside.{IsDataZone}
use Rattle.minix_change_laws.specs.Changes.{ChangesZone, MayHook, HasNumber}
use Rattle.minix_change_laws.specs.Grows.{below}
use Rattle.minix_layout.specs.View.{kind_view, super_view}
use Rattle.minix_change_laws.specs.Sees.{SeenAsIn}
use Rattle.minix_change_laws.proofs.Inode.{directory-zones}
use Rattle.minix_change_laws.proofs.Seen.{opened}
use Rattle.minix_change_laws.proofs.Sees.{directory-same, named-new}
use Rattle.minix_steps.specs.Written.{parts_now}
use Rattle.minix_turns.specs.Names.{MayHookAt, HooksUnseen}
use Rattle.minix_turns.specs.Part.{HasNumberPart}
use Rattle.minix_change_laws.specs.Part.{HasZonePart, with_zone_part, PartIsWritten, number_bytes, offset_of_number}
use Rattle.minix_change_laws.proofs.Numbers.{number_bytes_law}
use Rattle.minix_change_laws.proofs.Part.{part_law}
use Rattle.minix_zones.specs.Volume.{volume_view, past_of}
use Rattle.minix_zones.specs.declared.volume.Volume.{Volume}
use Rattle.minix_zones.specs.declared.zone_fault.ZoneFault.{ZoneFault}
use Rattle.minix_grow.specs.Below.{MayHookBelowNow, HasFreeBlock, HooksBelowUnseen, HooksFreeBlock}
use Rattle.minix_grow.specs.Others.{KeepsOthers, HookKeepsOthers, HookHasOnWay}
use Rattle.minix_grow.specs.Way.{depth_of, pointer_above, index_above, number_above, zones_below, AreGrown}
use Rattle.minix_grow.specs.Zones.{AreData, AreGrownNow}
use Rattle.minix_grow.proofs.CompleteLemmas.{way_is_pointer, number_there, number_step, may_hook_high, has_each, some_zone, entry_free}
use Rattle.minix_grow.proofs.ExtendLemmas.{view_after}
use Rattle.minix_grow.proofs.KeepLemmas.{keeps_number}
use Rattle.minix_grow.proofs.WayLemmas.{pointer_below}
use Rattle.minix_grow.proofs.ZoneLemmas.{zones_fit}

-- once the number of the highest new zone is in the zone above, the block is there
module _ (view : model.Volume) (old image : Image) (directory place-block high zone : ℕ) (node : Inode) (growth : List ℕ) (deep : high < depth_of view.layout.kind place-block)
    (near : index_above view.layout.kind place-block high < numbers_in_zone view.layout.kind)
    (grown : AreGrown view.layout (model.parts_of view old) place-block growth (suc high))
    (fit : (level : ℕ) → level < suc high → slice_index growth level < 256 ^ number_size view.layout.kind)
    (sound : IsSound view old) (node-is : (model.parts_of view old).node directory ≡ node)
    (named : Named view.layout (model.parts_of view old) directory) (is : is_directory ((model.parts_of view old).node directory) ≡ true)
    (above : number_above view.layout (model.parts_of view old) directory place-block (suc high) ≡ zone) (some : zone ≢ 0) (seen : SeenAsIn view old image)
    (has : HasZonePart view old image zone (offset_of_number view.layout.kind (index_above view.layout.kind place-block high)) (number_bytes view.layout.kind (slice_index growth high))) where
  abbrev Was : Parts
  Was = model.parts_of view old

  abbrev Is : Parts
  Is = model.parts_of view image

  abbrev Index : ℕ
  Index = index_above view.layout.kind place-block high

  refers : Refers view.layout Was directory (pointer_above view.layout.kind place-block (suc high)) zone
  refers = record {
    named = named;
    to = record { kind = directory-zones Was directory is; place = way_is_pointer view.layout place-block (suc high) (omega (arith, deep)); is = above; some = some };
  }

  range : IsDataZone view.layout zone
  range = (opened view old sound).parts.zone_range directory (pointer_above view.layout.kind place-block (suc high)) zone refers

  written : PartIsWritten view old image zone (offset_of_number view.layout.kind Index) (number_bytes view.layout.kind (slice_index growth high))
  written = part_law view old image zone (offset_of_number view.layout.kind Index) (number_bytes view.layout.kind (slice_index growth high)) sound range has

  stays : number_above view.layout Is directory place-block (suc high) ≡ zone
  stays = (seen.sees.stays directory (pointer_above view.layout.kind place-block (suc high)) zone refers is).is

  -- the number is found
  top-is : number_above view.layout Is directory place-block high ≡ slice_index growth high
  top-is =
      let number = number_bytes_law view.layout (Was.zone zone) Index (slice_index growth high) written.long near (fit high (omega arith)) in
      number_step view.layout Is directory place-block high deep
      ∙ (ap (λ z. number_below view.layout.kind Is.zone z Index) stays
      ∙ (number_there view.layout.kind Is.zone zone Index some
      ∙ (ap (λ b. number_in view.layout.kind b Index) written.change.here ∙ number.here)))

  zones-stay : (level : ℕ) → level < suc high → Is.zone (slice_index growth level) ≡ Was.zone (slice_index growth level)
  zones-stay level low =
      written.change.others (slice_index growth level) (grown.fresh level low).range
      (λ same. (grown.fresh level low).unused directory (pointer_above view.layout.kind place-block (suc high)) (subst (Refers view.layout Was directory (pointer_above view.layout.kind place-block (suc high))) (sym same) refers))

  pub block_is_free : HasFreeBlock view image directory node place-block
  block_is_free = record {
    sound = seen.sound;
    node_is = written.change.nodes directory ((opened view old sound).parts.in_range directory named) ∙ node-is;
    named = named-new view.layout Was Is seen.sees directory named;
    is = directory-same view.layout Was Is seen.sees directory named ∙ is;
    some = some_zone view.layout Was directory place-block growth high (omega (arith, deep)) grown fit Is zones-stay top-is;
    free = entry_free view.layout Was directory place-block growth high (omega (arith, deep)) grown fit Is zones-stay top-is;
  }

  -- the directory has each new zone
  pub block_has : (level : ℕ) → level < suc high → PointsTo view.layout Is directory (pointer_above view.layout.kind place-block level) (slice_index growth level)
  block_has =
      has_each view.layout Was directory place-block growth high (omega (arith, deep)) grown fit Is zones-stay top-is
      (directory-same view.layout Was Is seen.sees directory named ∙ is)

  -- each other inode stays
  pub block_keeps : high < length growth → MayHook view.layout Was directory (below (pointer_above view.layout.kind place-block (suc high)) Index) (slice_index growth high) (zones_below view.layout.kind place-block growth high)
      → KeepsOthers view.layout Was Is directory growth
  block_keeps there hooks =
      let outer : Pointer = pointer_above view.layout.kind place-block (suc high) in
      let bytes : List ℕ = with_zone_part Was zone (offset_of_number view.layout.kind Index) (number_bytes view.layout.kind (slice_index growth high)) in
      let R : ℕ → Type 0 = λ z. Refers view.layout Was directory outer z in
      let N : ℕ → Type 0 = λ z. HasNumber view.layout (Was.zone z) bytes Index (slice_index growth high) in
      let C : ℕ → Type 0 = λ z. ChangesZone view.layout Was Is z bytes in
      keeps_number view.layout Was Is directory Index high place-block outer growth bytes (opened view old sound).parts there hooks (subst R (sym above) refers)
      (subst N (sym above) (number_bytes_law view.layout (Was.zone zone) Index (slice_index growth high) written.long near (fit high (omega arith))))
      (subst C (sym above) written.change)

-- ---- on a volume

module _ {D : Type 0} {disks : Ghosts D} (old new : Volume D disks) (place-block zone high : ℕ) (growth : List ℕ)
    (last : length growth ≡ suc high) (deep : high < depth_of (kind_view old.layout.kind) place-block) (those : AreData old.layout growth)
    (grown : IsTold (past_of old) → AreGrownNow old place-block growth) where
  grown-all : IsTold (past_of old) → AreGrown (super_view old.layout) (parts_now old) place-block growth (suc high)
  grown-all told = let P : ℕ → Type 0 = λ count. AreGrown (super_view old.layout) (parts_now old) place-block growth count in subst P last (grown told)

  fit-all : (level : ℕ) → level < suc high → slice_index growth level < 256 ^ number_size (kind_view old.layout.kind)
  fit-all level low = zones_fit old.layout old.span.count growth old.whole those level (omega (arith, low, last))

  count-less : length growth - 1 ≡ high
  count-less = omega (arith, last)

  abbrev At : ℕ
  At = index_above (kind_view old.layout.kind) place-block high

  pub may_hook_at : (directory : ℕ) (node : Inode) → (IsTold (past_of old) → MayHookBelowNow old directory node place-block (length growth) zone) → IsTold (past_of old)
      → MayHookAt old directory (pointer_above (kind_view old.layout.kind) place-block (suc high)) zone At (slice_index growth high) (zones_below (kind_view old.layout.kind) place-block growth high)
  may_hook_at directory node may told =
      let m = may told in
      let A : ℕ → Type 0 = λ count. number_above (super_view old.layout) (parts_now old) directory place-block count ≡ zone in
      let H : ℕ → Type 0 = λ level. number_above (super_view old.layout) (parts_now old) directory place-block level ≡ 0 in
      let hooks = may_hook_high (super_view old.layout) (parts_now old) directory place-block growth high (omega (arith, deep)) (grown-all told) fit-all m.lies.named m.is (subst H count-less m.hole) in
      record {
        sound = m.lies.sound;
        lies = subst A last m.above;
        hooks = rw (pointer_below (kind_view old.layout.kind) place-block high deep) at hooks;
      }

  pub hooks_below_unseen : HooksUnseen old new zone At (slice_index growth high) → HooksBelowUnseen old new place-block growth zone
  hooks_below_unseen unseen directory node may =
      unseen directory (pointer_above (kind_view old.layout.kind) place-block (suc high)) (zones_below (kind_view old.layout.kind) place-block growth high) (may_hook_at directory node may)

  pub hooks_free_block : At < numbers_in_zone (kind_view old.layout.kind) → zone ≢ 0 → (result : Result (Unit {0}) ZoneFault) → HooksUnseen old new zone At (slice_index growth high)
      → (IsTold (past_of old) → OnOk result (HasNumberPart old (now (past_of new)) zone At (slice_index growth high)))
      → HooksFreeBlock old new place-block growth zone result
  hooks_free_block near some result unseen part directory node may told =
      let m = may told in
      let both = hooks_below_unseen unseen directory node may in
      let A : ℕ → Type 0 = λ count. number_above (super_view old.layout) (parts_now old) directory place-block count ≡ zone in
      let F : model.Volume → Type 0 = λ view. HasFreeBlock view (now (past_of new)) directory node place-block in
      on_ok result _ _ (part told)
      (λ has. view_after old new F both
      (block_is_free (volume_view old) (now (past_of old)) (now (past_of new)) directory place-block high zone node growth deep near (grown-all told) fit-all
      m.lies.sound m.lies.is m.lies.named m.is (subst A last m.above) some (both.held told) has))

  pub hook_keeps_others : At < numbers_in_zone (kind_view old.layout.kind) → zone ≢ 0 → (result : Result (Unit {0}) ZoneFault) → HooksUnseen old new zone At (slice_index growth high)
      → (IsTold (past_of old) → OnOk result (HasNumberPart old (now (past_of new)) zone At (slice_index growth high)))
      → HookKeepsOthers old new place-block growth zone result
  hook_keeps_others near some result unseen part directory node may told =
      let m = may told in
      let both = hooks_below_unseen unseen directory node may in
      let A : ℕ → Type 0 = λ count. number_above (super_view old.layout) (parts_now old) directory place-block count ≡ zone in
      on_ok result _ _ (part told)
      (λ has. block_keeps (volume_view old) (now (past_of old)) (now (past_of new)) directory place-block high zone node growth deep near (grown-all told) fit-all
      m.lies.sound m.lies.is m.lies.named m.is (subst A last m.above) some (both.held told) has (omega (arith, last)) (may_hook_at directory node may told).hooks)

  pub hook_has_each : At < numbers_in_zone (kind_view old.layout.kind) → zone ≢ 0 → (result : Result (Unit {0}) ZoneFault) → HooksUnseen old new zone At (slice_index growth high)
      → (IsTold (past_of old) → OnOk result (HasNumberPart old (now (past_of new)) zone At (slice_index growth high)))
      → HookHasOnWay old new place-block growth zone result
  hook_has_each near some result unseen part directory node may told =
      let m = may told in
      let both = hooks_below_unseen unseen directory node may in
      let A : ℕ → Type 0 = λ count. number_above (super_view old.layout) (parts_now old) directory place-block count ≡ zone in
      on_ok result _ _ (part told)
      (λ has level below. block_has (volume_view old) (now (past_of old)) (now (past_of new)) directory place-block high zone node growth deep near (grown-all told) fit-all
      m.lies.sound m.lies.is m.lies.named m.is (subst A last m.above) some (both.held told) has level (omega (arith, below, last)))
