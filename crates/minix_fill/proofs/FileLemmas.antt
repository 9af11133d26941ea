-- The calls of which the freeing of an inode is made.
use Rattle.std.proofs.Common.{◌≡◌, ◌≤◌, ◌<◌, ◌+◌, ◌^◌, ℕ, true, false, All, List, Result, Ok, Err, OnOk, sym, ◌∙◌, ap, subst, arith}
use Rattle.disk_trait.specs.declared.disks.Disks.{Ghosts}
use Rattle.disk_trait.specs.declared.disks.Span.{Span}
use Rattle.disk_trait.specs.Moments.{IsTold, now, begun}
use Rattle.disk_trait.specs.NotWritten.{IsOther}
use Rattle.disk_trait.proofs.MomentLemmas.{on_ok}
use Rattle.lilo_model.specs.MinixLayout as models
use Rattle.lilo_model.specs.MinixLayout.{Inode, inode_place, inode_bytes, number_size, most_links}
use Rattle.lilo_model.specs.MinixParts as model
use Rattle.lilo_model.specs.MinixParts.{Parts, Pointer, has_zones, inode_mark_sector}
use Rattle.lilo_model.specs.MinixWalk.{Visit, visits}
use Rattle.minix_steps.specs.BitLaws.{OneInodeMark}
use Rattle.minix_layout.specs.View.{kind_view, super_view}
use Rattle.minix_layout.specs.declared.superblock.Super.{Super}
use Rattle.minix_sound_laws.proofs.Law.{has-numbers}
use Rattle.minix_sound_laws.proofs.Lists.{In}
use Rattle.minix_sound_laws.proofs.Stops.{contains-in}
use Rattle.minix_steps.specs.StepLaws.{OneInode}
use Rattle.minix_steps.specs.Steps.{IsReady, Steps}
use Rattle.minix_steps.specs.Written.{parts_now}
use Rattle.minix_steps.proofs.RegionLemmas.{mark_in}
use Rattle.minix_zones.specs.Volume.{volume_view, past_of, KeepsVolume, WritesSector, Syncs}
use Rattle.minix_zones.specs.declared.volume.Volume.{Volume}
use Rattle.minix_zones.specs.declared.zone_fault.ZoneFault.{ZoneFault}
use Rattle.minix_zones.specs.declared.zone_fault.ZoneFault.TheVariants.{Device}
use Rattle.minix_fill.specs.Changes.{Changes, IsOffMaps}
use Rattle.minix_fill.specs.Freed.{no_inode, IsOffFile, ZeroesInode, ClearsMet, ClearsFile, FreesFile, MayClear, MayFree}
use Rattle.minix_fill.proofs.ChangeLemmas.{off_maps_kept, off_map, changes_sector, changes_weaker, changes_failed, changes_flush, changes_join, SameParts}
use Rattle.minix_fill.proofs.FreedLemmas.{zones_zero, clears_file, frees_file}
use Rattle.minix_fill.proofs.WalkLemmas.{visits_same, none_refused, visit_pointed}

pub off_file_kept : {D : Type 0} {disks : Ghosts D} (old mid : Volume D disks) (number : ℕ) → KeepsVolume old mid → (d s : ℕ) → IsOffFile old number d s → IsOffFile mid number d s
off_file_kept old mid number kept d s off =
    let S : Span → Type 0 = λ span. IsOther span.disk (span.start + (inode_place (super_view old.layout) number).sector) d s in
    let L : Super → Type 0 = λ layout. IsOther mid.span.disk (mid.span.start + (inode_place (super_view layout) number).sector) d s in
    record {
      maps = off_maps_kept old mid kept d s off.maps;
      inode = subst L (sym kept.same_layout) (subst S (sym kept.same_span) off.inode);
    }

-- ---- zeros

pub zeros_links : (kind : models.Kind) (inode : Inode) → inode ≡ no_inode → inode.links ≤ most_links kind
zeros_links kind inode is = let P : Inode → Type 0 = λ node. node.links ≤ most_links kind in subst P (sym is) (omega arith)

pub zeros_gid : (kind : models.Kind) (inode : Inode) → inode ≡ no_inode → inode.gid ≤ most_links kind
zeros_gid kind inode is = let P : Inode → Type 0 = λ node. node.gid ≤ most_links kind in subst P (sym is) (omega arith)

pub zeros_small : (kind : models.Kind) (inode : Inode) → inode ≡ no_inode → All (λ zone. zone < 256 ^ number_size kind) inode.zones
zeros_small kind inode is = let P : Inode → Type 0 = λ node. All (λ zone. zone < 256 ^ number_size kind) node.zones in subst P (sym is) (zones_zero kind)

module _ {D : Type 0} {disks : Ghosts D} (old mid : Volume D disks) (number : ℕ) where
  pub zeroes_step : (inode : Inode) → inode ≡ no_inode → {bytes : List ℕ} (result : Result (Unit {0}) ZoneFault) → Steps old mid
      → WritesSector old mid (inode_place (super_view old.layout) number).sector bytes Device result
      → (IsTold (past_of old) → OnOk result (OneInode (volume_view old) (parts_now old) (parts_now mid) number (inode_bytes (kind_view old.layout.kind) inode)))
      → Changes old mid (IsOffFile old number) (ZeroesInode number) result
  zeroes_step inode is {bytes} result steps writes parts =
      changes_sector old mid (IsOffFile old number) (ZeroesInode number) result (inode_place (super_view old.layout) number).sector bytes steps writes
      (λ told. let P : Inode → Type 0 = λ node. OnOk result (OneInode (volume_view old) (parts_now old) (parts_now mid) number (inode_bytes (kind_view old.layout.kind) node)) in subst P is (parts told))
      (λ d s off. off.inode)

  pub zeroes_done : (new : Volume D disks) → IsReady old → (result : Result (Unit {0}) ZoneFault) → Changes old mid (IsOffFile old number) (ZeroesInode number) (Ok tt)
      → Steps mid new → Syncs mid new Device result → Changes old new (IsOffFile old number) (ZeroesInode number) result
  zeroes_done new ready result one steps syncs =
      changes_join old mid new (IsOffFile old number) (ZeroesInode number) SameParts (ZeroesInode number) result ready one
      (changes_flush mid new (IsOffFile old number) result steps syncs)
      (λ told zeroed same. let P : Parts → Type 0 = λ parts. ZeroesInode number (volume_view old) (parts_now old) parts in subst P (sym same) zeroed)

-- ---- bits

module _ {D : Type 0} {disks : Ghosts D} (old mid : Volume D disks) (number : ℕ) (inode : Inode) (ready : IsReady old) where
  pub clears_failed : (fault : ZoneFault) → Changes old mid (IsOffMaps old) (ClearsMet inode) (Err fault) → Changes old mid (IsOffFile old number) (ClearsFile number inode) (Err fault)
  clears_failed fault one =
      changes_failed old mid (IsOffFile old number) (ClearsMet inode) (ClearsFile number inode) fault
      (changes_weaker old mid (IsOffMaps old) (ClearsMet inode) (Err fault) (IsOffFile old number) (λ d s off. off.maps) one)

  module _ (there : number ≤ old.layout.inodes) (one : Changes old mid (IsOffMaps old) (ClearsMet inode) (Ok tt)) where
    there_mid : number ≤ mid.layout.inodes
    there_mid = let P : Super → Type 0 = λ layout. number ≤ layout.inodes in subst P (sym one.steps.kept.same_layout) there

    pub clears_mark : (next : Volume D disks) {bytes : List ℕ} (result : Result (Unit {0}) ZoneFault) → Steps mid next
        → WritesSector mid next (inode_mark_sector number) bytes Device result
        → (IsTold (past_of mid) → OnOk result (OneInodeMark (volume_view mid) (parts_now mid) (parts_now next) number false))
        → Changes old next (IsOffFile old number) (ClearsFile number inode) result
    clears_mark next {bytes} result steps writes parts =
        changes_join old mid next (IsOffFile old number) (ClearsMet inode) (λ view from to. OneInodeMark view from to number false) (ClearsFile number inode) result ready
        (changes_weaker old mid (IsOffMaps old) (ClearsMet inode) (Ok tt) (IsOffFile old number) (λ d s off. off.maps) one)
        (changes_sector mid next (IsOffFile old number) (λ view from to. OneInodeMark view from to number false) result (inode_mark_sector number) bytes steps writes parts
        (λ d s off. off_map mid (inode_mark_sector number) (mark_in (super_view mid.layout) mid.span.count mid.whole number there_mid) d s (off_maps_kept old mid one.steps.kept d s off.maps)))
        (λ told met mark. clears_file number inode (volume_view old) (parts_now old) (parts_now mid) (parts_now next) met mark)

    pub clears_flushed : (next new : Volume D disks) (result : Result (Unit {0}) ZoneFault) → Changes old next (IsOffFile old number) (ClearsFile number inode) (Ok tt)
        → Steps next new → Syncs next new Device result → Changes old new (IsOffFile old number) (ClearsFile number inode) result
    clears_flushed next new result two steps syncs =
        changes_join old next new (IsOffFile old number) (ClearsFile number inode) SameParts (ClearsFile number inode) result ready two
        (changes_flush next new (IsOffFile old number) result steps syncs)
        (λ told cleared same. let P : Parts → Type 0 = λ parts. ClearsFile number inode (volume_view old) (parts_now old) parts in subst P (sym same) cleared)

pub flush_durable : {D : Type 0} {disks : Ghosts D} (next new : Volume D disks) (result : Result (Unit {0}) ZoneFault) → Syncs next new Device result → OnOk result (begun (past_of new) ≡ now (past_of new))
flush_durable next new result syncs = on_ok result _ _ syncs.flushes.durable (λ durable. durable ∙ sym syncs.flushes.same_now)

-- ---- the whole

module _ {D : Type 0} {disks : Ghosts D} (old mid : Volume D disks) (number : ℕ) (inode : Inode) (ready : IsReady old)
    (may : IsTold (past_of old) → MayFree old number inode) (one : Changes old mid (IsOffFile old number) (ZeroesInode number) (Ok tt)) where
  there_still : (some : 1 ≤ number) (there : number ≤ old.layout.inodes) → number ≤ mid.layout.inodes
  there_still some there = let P : Super → Type 0 = λ layout. number ≤ layout.inodes in subst P (sym one.steps.kept.same_layout) there

  -- a walk meets what it met
  walk_same : IsTold (past_of old) → visits (super_view mid.layout) (parts_now mid) inode ≡ visits (super_view old.layout) (parts_now old) ((parts_now old).node number)
  walk_same told =
      let S : Super → List (Result Visit model.ZoneFault) = λ layout. visits (super_view layout) (parts_now mid) inode in
      ap S one.steps.kept.same_layout
      ∙ visits_same (super_view old.layout) (parts_now old) (parts_now mid) (one.changed told).zones inode
      ∙ ap (visits (super_view old.layout) (parts_now old)) (sym (may told).is)

  kind_now : IsTold (past_of old) → has_zones ((parts_now old).node number) ≡ true
  kind_now told = let K : Inode → Type 0 = λ node. has_zones node ≡ true in subst K (sym (may told).is) (may told).kind

  pub may_clear : IsTold (past_of mid) → MayClear mid inode
  may_clear is =
      let told = one.steps.goes_on.told_before is in
      record {
        good = λ fault has.
            let M : List (Result Visit model.ZoneFault) → Type 0 = λ met. In (Err fault) met in
            none_refused (super_view old.layout) (parts_now old) number (kind_now told) (may told).range fault (subst M (walk_same told) (contains-in _ _ has));
        unused = λ visit has.
            let M : List (Result Visit model.ZoneFault) → Type 0 = λ met. In (Ok visit) met in
            let pointed = visit_pointed (super_view old.layout) (parts_now old) number (kind_now told) (may told).range visit (subst M (walk_same told) (contains-in _ _ has)) in
            one.steps.unused visit.zone ((may told).unused pointed.at visit.zone pointed.to);
      }

  pub frees_done : (new : Volume D disks) (result : Result (Unit {0}) ZoneFault) → Changes mid new (IsOffFile mid number) (ClearsFile number inode) result → Changes old new (IsOffFile old number) (FreesFile number) result
  frees_done new result two =
      changes_join old mid new (IsOffFile old number) (ZeroesInode number) (ClearsFile number inode) (FreesFile number) result ready one
      (changes_weaker mid new (IsOffFile mid number) (ClearsFile number inode) result (IsOffFile old number) (λ d s off. off_file_kept old mid number one.steps.kept d s off) two)
      (λ told zeroed cleared.
      frees_file number inode (volume_view old) (parts_now old) (parts_now mid) (parts_now new) (may told).is (may told).kind
      (has-numbers (volume_view old) (now (past_of old)) old.span.count old.whole.passes) (may told).range zeroed cleared)
