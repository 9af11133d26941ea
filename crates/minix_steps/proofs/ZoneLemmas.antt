-- The two writes of a zone.
use Rattle.std.proofs.Common.{◌⊎◌, Result, ◌≡◌, ◌≢◌, ◌≤◌, ◌<◌, ◌+◌, ℕ, List, length, arith, inl, inr, sym, subst, refl, length-drop, drop}
use Rattle.std.proofs.lemmas.List.{length-take-le}
use Rattle.disk_trait.specs.declared.disks.Disks.{Ghosts}
use Rattle.disk_trait.specs.declared.disks.Span.{Span}
use Rattle.disk_trait.specs.Moments.{IsTold, now, begun}
use Rattle.disk_trait.specs.NotWritten.{IsOther, NotWritten}
use Rattle.disk_trait.specs.Range.{IsOutside}
use Rattle.disk_trait.proofs.NotWrittenLemmas.{not_written_join}
use Rattle.disk_trait.proofs.RangeLemmas.{outside_is_other}
use Rattle.lilo_model.specs.Bytes.{part_of}
use Rattle.lilo_model.specs.MinixLayout.{super_sector, zone_sector}
use Rattle.minix_change_laws.specs.Beside.{Harmless}
use Rattle.minix_layout.specs.View.{super_view}
use Rattle.minix_layout.specs.declared.superblock.Super.{Super}
use Rattle.minix_zones.specs.Volume.{volume_view, past_of, KeepsVolume, WritesSector}
use Rattle.minix_zones.specs.declared.volume.Volume.{Volume}
use Rattle.minix_zones.specs.declared.zone_fault.ZoneFault.{ZoneFault}
use Rattle.minix_zones.specs.declared.zone_fault.ZoneFault.TheVariants.{Device}
use Rattle.lilo_model.specs.MinixParts as model
use Rattle.minix_steps.specs.Steps.{IsReady, IsUnusedZone, Steps}
use Rattle.minix_steps.proofs.HarmlessLemmas.{zone_harmless}
use Rattle.minix_steps.proofs.RegionLemmas.{zone_behind}
use Rattle.minix_steps.specs.Written.{with_sector_of, IsPartOfZone}
use Rattle.minix_steps.proofs.PartLemmas.{front_made, back_made}
use Rattle.minix_steps.proofs.StepLemmas.{same_view}

pub part_long : (bytes : List ℕ) (at : ℕ) → at + 512 ≤ length bytes → length (part_of bytes at 512) ≡ 512
part_long bytes at fits = length-take-le 512 (drop at bytes) (omega (arith, fits, length-drop at bytes))

module _ {D : Type 0} {disks : Ghosts D} (volume : Volume D disks) (ready : IsReady volume) (zone : ℕ)
    (from : volume.layout.first ≤ zone) (below : zone < volume.layout.zones) (unused : IsUnusedZone volume zone) where
  pub not_super : zone_sector zone ≢ super_sector
  not_super same = let some = zone_behind (super_view volume.layout) volume.span.count volume.whole in omega (arith, some, from, same)

  pub front_harmless : (bytes : List ℕ) → length bytes ≡ 512 → IsTold (past_of volume) → Harmless (volume_view volume) (begun (past_of volume)) (zone_sector zone) bytes
  front_harmless bytes long = zone_harmless volume ready zone from below unused (zone_sector zone) (inl refl) bytes long

  -- after a step that was taken first
  pub back_harmless : (mid : Volume D disks) → Steps volume mid → (bytes : List ℕ) → length bytes ≡ 512 → IsTold (past_of mid)
      → Harmless (volume_view mid) (begun (past_of mid)) (zone_sector zone + 1) bytes
  back_harmless mid steps bytes long =
      let P : Super → Type 0 = λ layout. layout.first ≤ zone in
      let Q : Super → Type 0 = λ layout. zone < layout.zones in
      zone_harmless mid steps.ready zone (subst P (sym steps.kept.same_layout) from) (subst Q (sym steps.kept.same_layout) below)
      (steps.unused zone unused) (zone_sector zone + 1) (inr refl) bytes long

-- ---- what was written of the zone

pub front_part : {D : Type 0} {disks : Ghosts D} (old mid : Volume D disks) (zone : ℕ) (bytes : List ℕ) (sector : ℕ) (front : List ℕ) (result : Result (Unit {0}) ZoneFault)
    → sector ≡ zone_sector zone → front ≡ part_of bytes 0 512 → WritesSector old mid sector front Device result
    → IsPartOfZone (volume_view old) (now (past_of old)) (now (past_of mid)) zone bytes
front_part old mid zone bytes sector front result at is writes =
    let S : ℕ → Type 0 = λ s. (now (past_of mid) ≡ with_sector_of (volume_view old) (now (past_of old)) s front) ⊎ (now (past_of mid) ≡ now (past_of old)) in
    let B : List ℕ → Type 0 = λ b. (now (past_of mid) ≡ with_sector_of (volume_view old) (now (past_of old)) (zone_sector zone) b) ⊎ (now (past_of mid) ≡ now (past_of old)) in
    front_made (volume_view old) (now (past_of old)) zone bytes (now (past_of mid)) (subst B is (subst S at writes.writes.made))

pub back_part : {D : Type 0} {disks : Ghosts D} (old mid new : Volume D disks) (zone : ℕ) (bytes : List ℕ) (sector : ℕ) (back : List ℕ) (result : Result (Unit {0}) ZoneFault)
    → sector ≡ zone_sector zone → back ≡ part_of bytes 512 512 → KeepsVolume old mid
    → IsPartOfZone (volume_view old) (now (past_of old)) (now (past_of mid)) zone bytes
    → WritesSector mid new (sector + 1) back Device result
    → IsPartOfZone (volume_view old) (now (past_of old)) (now (past_of new)) zone bytes
back_part old mid new zone bytes sector back result at is kept part writes =
    let S : ℕ → Type 0 = λ s. (now (past_of new) ≡ with_sector_of (volume_view mid) (now (past_of mid)) (s + 1) back) ⊎ (now (past_of new) ≡ now (past_of mid)) in
    let B : List ℕ → Type 0 = λ b. (now (past_of new) ≡ with_sector_of (volume_view mid) (now (past_of mid)) (zone_sector zone + 1) b) ⊎ (now (past_of new) ≡ now (past_of mid)) in
    let V : model.Volume → Type 0 = λ view. (now (past_of new) ≡ with_sector_of view (now (past_of mid)) (zone_sector zone + 1) (part_of bytes 512 512)) ⊎ (now (past_of new) ≡ now (past_of mid)) in
    back_made (volume_view old) (now (past_of old)) zone bytes (now (past_of mid)) (now (past_of new)) part
    (subst V (same_view old mid kept) (subst B is (subst S at writes.writes.made)))

-- no other sector was written
pub front_others : {D : Type 0} {disks : Ghosts D} (old mid : Volume D disks) (zone : ℕ) (sector : ℕ) (front : List ℕ) (result : Result (Unit {0}) ZoneFault)
    → sector ≡ zone_sector zone → WritesSector old mid sector front Device result
    → (d s : ℕ) → IsOutside old.span.disk (old.span.start + zone_sector zone) 2 d s → NotWritten (past_of old) (past_of mid) d s
front_others old mid zone sector front result at writes d s out =
    let S : ℕ → Type 0 = λ n. IsOther old.span.disk n d s in
    let same : old.span.start + zone_sector zone + 0 ≡ old.span.start + sector = omega (arith, at) in
    writes.writes.others d s (subst S same (outside_is_other old.span.disk (old.span.start + zone_sector zone) 2 0 d s (omega arith) out))

pub both_others : {D : Type 0} {disks : Ghosts D} (old mid new : Volume D disks) (zone : ℕ) (sector : ℕ) (front back : List ℕ) (one two : Result (Unit {0}) ZoneFault)
    → sector ≡ zone_sector zone → KeepsVolume old mid → WritesSector old mid sector front Device one → WritesSector mid new (sector + 1) back Device two
    → (d s : ℕ) → IsOutside old.span.disk (old.span.start + zone_sector zone) 2 d s → NotWritten (past_of old) (past_of new) d s
both_others old mid new zone sector front back one two at kept first next d s out =
    let S : ℕ → Type 0 = λ n. IsOther old.span.disk n d s in
    let P : Span → Type 0 = λ span. IsOther span.disk (span.start + (sector + 1)) d s in
    let same : old.span.start + zone_sector zone + 1 ≡ old.span.start + (sector + 1) = omega (arith, at) in
    let other : IsOther old.span.disk (old.span.start + (sector + 1)) d s = subst S same (outside_is_other old.span.disk (old.span.start + zone_sector zone) 2 1 d s (omega arith) out) in
    not_written_join (past_of old) (past_of mid) (past_of new) d s
    (front_others old mid zone sector front one at first d s out)
    (next.writes.others d s (subst P (sym kept.same_span) other))
