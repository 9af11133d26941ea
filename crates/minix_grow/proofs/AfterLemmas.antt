-- What a directory may get it may get after steps, which touch nothing with a name.
use Rattle.std.proofs.Common.{◌≡◌, ◌≤◌, ◌-◌, ℕ, true, sym, ◌∙◌, ap, subst, arith}
use Rattle.disk_trait.specs.declared.disks.Disks.{Ghosts}
use Rattle.disk_trait.specs.Past.{Image}
use Rattle.disk_trait.specs.Moments.{IsTold, now, IsQuiet}
use Rattle.disk_trait.proofs.LawLemmas.{quiet_begun}
use Rattle.lilo_model.specs.MinixEntries.{Entry, places}
use Rattle.lilo_model.specs.MinixLayout.{Inode}
use Rattle.lilo_model.specs.MinixNames.{Named, IsSound}
use Rattle.lilo_model.specs.MinixParts as model
use Rattle.lilo_model.specs.MinixParts.{Parts, is_directory}
use Rattle.minix_change_laws.specs.Beside.{Beside}
use Rattle.minix_change_laws.specs.Keeps.{Keeps}
use Rattle.minix_change_laws.proofs.Beside.{keeps, beside_law, named_law}
use Rattle.minix_change_laws.specs.Changes.{MaySize}
use Rattle.minix_layout.specs.View.{kind_view}
use Rattle.minix_change_laws.proofs.Inode.{HasSameNumbers, same-node, KeepsZones, keeps-above, directory-zones, pointer-same, entry-same}
use Rattle.minix_change_laws.proofs.Seen.{opened}
use Rattle.minix_steps.specs.Steps.{IsReady, Steps}
use Rattle.minix_steps.proofs.StepLemmas.{same_view, beside_before, now_beside}
use Rattle.minix_zones.specs.Volume.{volume_view, past_of}
use Rattle.minix_zones.specs.declared.volume.Volume.{Volume}
use Rattle.minix_grow.specs.Below.{MayHookBelowNow}
use Rattle.minix_grow.specs.Hook.{MayHookTopNow}
use Rattle.minix_grow.specs.Way.{depth_of, pointer_above, number_above}
use Rattle.minix_grow.proofs.CompleteLemmas.{way_is_pointer}

module _ (view : model.Volume) (old mid : Image) (sound : IsSound view old) (beside : Beside view old mid) (directory : ℕ) (named : Named view.layout (model.parts_of view old) directory)
    (is : is_directory ((model.parts_of view old).node directory) ≡ true) where
  abbrev Was : Parts
  Was = model.parts_of view old

  abbrev Is : Parts
  Is = model.parts_of view mid

  kept : Keeps view.layout Was Is
  kept = keeps view old (opened view old sound) mid beside

  pub node_kept : Is.node directory ≡ Was.node directory
  node_kept = kept.nodes directory named

  numbers : HasSameNumbers (Was.node directory) (Is.node directory)
  numbers = (same-node (Was.node directory) (Is.node directory) node_kept).numbers

  zones_kept : KeepsZones view.layout Was Is directory
  zones_kept at zone to = kept.zones directory at zone (record { named = named; to = to })

  number_kept : (place-block level : ℕ) → level ≤ depth_of view.layout.kind place-block → number_above view.layout Is directory place-block level ≡ number_above view.layout Was directory place-block level
  number_kept place-block level low =
      pointer-same view.layout Was Is directory numbers (keeps-above view.layout Was Is directory zones_kept) (directory-zones Was directory is)
      (pointer_above view.layout.kind place-block level) (way_is_pointer view.layout place-block level low)

  pub named_kept : Named view.layout Is directory
  named_kept = ((named_law view old mid sound beside).named directory).1 named

  pub size_kept : (size : ℕ) → MaySize view.layout Was directory size → MaySize view.layout Is directory size
  size_kept size may = record {
    named = named_kept;
    is = rw node_kept is;
    sized = may.sized;
    room = rw node_kept may.room;
    reaches = rw node_kept may.reaches;
    free = λ place from below.
        let from' : places view.layout.kind (Was.node directory).size ≤ place = subst (λ (i : Inode). places view.layout.kind i.size ≤ place) node_kept from in
        ap (λ (e : Entry). e.inode) (entry-same view.layout Was Is directory numbers zones_kept (directory-zones Was directory is) place) ∙ may.free place from' below;
  }

pub hook_after : {D : Type 0} {disks : Ghosts D} (old mid : Volume D disks) (directory place-block size : ℕ) (node : Inode) → IsReady old → IsQuiet (past_of old) → Steps old mid
    → (IsTold (past_of old) → MayHookTopNow old directory node place-block size) → IsTold (past_of mid) → MayHookTopNow mid directory node place-block size
hook_after old mid directory place-block size node ready quiet steps may told =
    let was = steps.goes_on.told_before told in
    let m = may was in
    let view = volume_view old in
    let img = now (past_of mid) in
    let B : Image → Type 0 = λ image. Beside (volume_view old) image (now (past_of mid)) in
    let beside = subst B (quiet_begun (past_of old) was quiet) (beside_before old mid ready steps was (now (past_of mid)) (now_beside mid steps.ready told)) in
    let P : model.Volume → Type 0 = λ v.
    IsSound v (now (past_of mid)) × ((model.parts_of v (now (past_of mid))).node directory ≡ node) × Named v.layout (model.parts_of v (now (past_of mid))) directory
    × (is_directory ((model.parts_of v (now (past_of mid))).node directory) ≡ true)
    × (number_above v.layout (model.parts_of v (now (past_of mid))) directory place-block (depth_of v.layout.kind place-block) ≡ 0)
    × MaySize v.layout (model.parts_of v (now (past_of mid))) directory size in
    let same : (model.parts_of (volume_view old) (now (past_of mid))).node directory ≡ (model.parts_of (volume_view old) (now (past_of old))).node directory =
    node_kept (volume_view old) (now (past_of old)) (now (past_of mid)) m.lies.sound beside directory m.lies.named m.is in
    let sized = size_kept (volume_view old) (now (past_of old)) (now (past_of mid)) m.lies.sound beside directory m.lies.named m.is size m.sized in
    let p = subst P (sym (same_view old mid steps.kept)) (
      (beside_law (volume_view old) (now (past_of old)) (now (past_of mid)) m.lies.sound beside).sound,
      same ∙ m.lies.is,
      sized.named,
      sized.is,
      number_kept (volume_view old) (now (past_of old)) (now (past_of mid)) m.lies.sound beside directory m.lies.named m.is place-block (depth_of (kind_view old.layout.kind) place-block) (omega arith) ∙ m.hole,
      sized,
    ) in
    record { lies = record { sound = p.0; is = p.1; named = p.2 }; is = p.3; hole = p.4; sized = p.5 }

pub below_after : {D : Type 0} {disks : Ghosts D} (old mid : Volume D disks) (directory place-block count zone : ℕ) (node : Inode) → IsReady old → IsQuiet (past_of old) → Steps old mid
    → count ≤ depth_of (kind_view old.layout.kind) place-block
    → (IsTold (past_of old) → MayHookBelowNow old directory node place-block count zone) → IsTold (past_of mid) → MayHookBelowNow mid directory node place-block count zone
below_after old mid directory place-block count zone node ready quiet steps low may told =
    let was = steps.goes_on.told_before told in
    let m = may was in
    let B : Image → Type 0 = λ image. Beside (volume_view old) image (now (past_of mid)) in
    let beside = subst B (quiet_begun (past_of old) was quiet) (beside_before old mid ready steps was (now (past_of mid)) (now_beside mid steps.ready told)) in
    let P : model.Volume → Type 0 = λ v.
    IsSound v (now (past_of mid)) × ((model.parts_of v (now (past_of mid))).node directory ≡ node) × Named v.layout (model.parts_of v (now (past_of mid))) directory
    × (is_directory ((model.parts_of v (now (past_of mid))).node directory) ≡ true)
    × (number_above v.layout (model.parts_of v (now (past_of mid))) directory place-block count ≡ zone)
    × (number_above v.layout (model.parts_of v (now (past_of mid))) directory place-block (count - 1) ≡ 0) in
    let same : (model.parts_of (volume_view old) (now (past_of mid))).node directory ≡ (model.parts_of (volume_view old) (now (past_of old))).node directory =
    node_kept (volume_view old) (now (past_of old)) (now (past_of mid)) m.lies.sound beside directory m.lies.named m.is in
    let p = subst P (sym (same_view old mid steps.kept)) (
      (beside_law (volume_view old) (now (past_of old)) (now (past_of mid)) m.lies.sound beside).sound,
      same ∙ m.lies.is,
      named_kept (volume_view old) (now (past_of old)) (now (past_of mid)) m.lies.sound beside directory m.lies.named m.is,
      ap is_directory same ∙ m.is,
      number_kept (volume_view old) (now (past_of old)) (now (past_of mid)) m.lies.sound beside directory m.lies.named m.is place-block count low ∙ m.above,
      number_kept (volume_view old) (now (past_of old)) (now (past_of mid)) m.lies.sound beside directory m.lies.named m.is place-block (count - 1) (omega (arith, low)) ∙ m.hole,
    ) in
    record { lies = record { sound = p.0; is = p.1; named = p.2 }; is = p.3; above = p.4; hole = p.5 }
