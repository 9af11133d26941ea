-- What the call leaves that sets the bits of what was chosen.
use Rattle.std.proofs.Common.{◌≡◌, ◌≤◌, ◌<◌, ◌+◌, ◌*◌, ◌-◌, ◌==◌, ◌||◌, ℕ, Bool, true, false, List, Result, Err, refl, sym, ap, ◌∙◌, subst, arith, inl, inr}
use Rattle.std.proofs.lemmas.Bool.{eqb-true, eq-eqb}
use Rattle.disk_trait.specs.declared.disks.Disks.{Ghosts}
use Rattle.disk_trait.specs.declared.disks.Span.{Span}
use Rattle.disk_trait.specs.Past.{Image}
use Rattle.disk_trait.specs.Moments.{IsTold, now}
use Rattle.disk_trait.specs.NotWritten.{IsOther, NotWritten}
use Rattle.disk_trait.specs.Range.{IsOutside}
use Rattle.disk_trait.proofs.CallLemmas.{on_ok_held}
use Rattle.disk_trait.proofs.NotWrittenLemmas.{not_written_join}
use Rattle.disk_trait.proofs.RangeLemmas.{outside_is_other}
use Rattle.lilo_model.specs.MinixParts as model
use Rattle.lilo_model.specs.MinixParts.{Parts, inode_mark_sector}
use Rattle.minix_change_laws.specs.Beside.{IsOfBitmaps}
use Rattle.minix_steps.specs.BitLaws.{OneInodeMark}
use Rattle.minix_steps.specs.Numbers.{has_number}
use Rattle.minix_fill.specs.Marks.{ZonesMarked, IsOffZoneMap, MarksZones}
use Rattle.minix_layout.specs.View.{super_view}
use Rattle.minix_layout.specs.declared.superblock.Super.{Super}
use Rattle.minix_steps.specs.Steps.{IsReady, Steps}
use Rattle.minix_steps.specs.Written.{parts_now}
use Rattle.minix_steps.proofs.RegionLemmas.{mark_in}
use Rattle.minix_steps.proofs.StepLemmas.{same_view, steps_join}
use Rattle.minix_zones.specs.Volume.{volume_view, past_of, KeepsVolume, HasDeviceCause, WritesSector, Syncs}
use Rattle.minix_zones.specs.declared.volume.Volume.{Volume}
use Rattle.minix_zones.specs.declared.zone_fault.ZoneFault.{ZoneFault}
use Rattle.minix_zones.specs.declared.zone_fault.ZoneFault.TheVariants.{Device}
use Rattle.minix_zones.proofs.WriteLemmas.{cause_after}
use Rattle.minix_create.specs.Created.{IsOffBitmaps, MarksOnly, MarksChosen}
use Rattle.minix_create.specs.declared.chosen.Chosen.{Chosen}

-- ---- sectors

-- the sector of an inode's bit is of the bitmaps
mark_is_other : (disk start bitmaps sector d s : ℕ) → 4 ≤ sector → sector < 4 + bitmaps → IsOutside disk (start + 4) bitmaps d s → IsOther disk (start + sector) d s
mark_is_other disk start bitmaps sector d s from below off =
    let at : (start + 4) + (sector - 4) ≡ start + sector = omega (arith, from) in
    let S : ℕ → Type 0 = λ n. IsOther disk n d s in
    subst S at (outside_is_other disk (start + 4) bitmaps (sector - 4) d s (omega (arith, from, below)) off)

-- and so are those of the zones' bits
map_is_outside : (disk start imap zmap d s : ℕ) → IsOutside disk (start + 4) (2 * (imap + zmap)) d s → IsOutside disk (start + 2 * (2 + imap)) (2 * zmap) d s
map_is_outside disk start imap zmap d s (inl other) = inl other
map_is_outside disk start imap zmap d s (inr (inl before)) = inr (inl (omega (arith, before)))
map_is_outside disk start imap zmap d s (inr (inr past)) = inr (inr (omega (arith, past)))

module _ {D : Type 0} {disks : Ghosts D} (old : Volume D disks) (number : ℕ) (there : number ≤ old.layout.inodes) where
  inode_off : (d s : ℕ) → IsOffBitmaps old d s → IsOther old.span.disk (old.span.start + inode_mark_sector number) d s
  inode_off d s off =
      let of : IsOfBitmaps (super_view old.layout) (inode_mark_sector number) = mark_in (super_view old.layout) old.span.count old.whole number there in
      mark_is_other old.span.disk old.span.start (2 * (old.layout.imap + old.layout.zmap)) (inode_mark_sector number) d s of.0 (omega (arith, of.1)) off

off_zone_map : {D : Type 0} {disks : Ghosts D} (old mid : Volume D disks) → KeepsVolume old mid → (d s : ℕ) → IsOffBitmaps old d s → IsOffZoneMap mid d s
off_zone_map old mid kept d s off =
    let L : Super → Type 0 = λ layout. IsOutside old.span.disk (old.span.start + 2 * (2 + layout.imap)) (2 * layout.zmap) d s in
    let S : Span → Type 0 = λ span. IsOutside span.disk (span.start + 2 * (2 + mid.layout.imap)) (2 * mid.layout.zmap) d s in
    subst S (sym kept.same_span) (subst L (sym kept.same_layout) (map_is_outside old.span.disk old.span.start old.layout.imap old.layout.zmap d s off))

-- ---- bits

or_true : (one : Bool) → true ≡ (one || true)
or_true true = refl
or_true false = refl

or_false : (one : Bool) → one ≡ (one || false)
or_false true = refl
or_false false = refl

module _ {D : Type 0} {disks : Ghosts D} (old : Volume D disks) (chosen : Chosen) (mid new : Parts) (one : OneInodeMark (volume_view old) (parts_now old) mid chosen.choice.inode true)
    (two : ZonesMarked (volume_view old) mid new chosen.choice.zones) where
  inode_by : (number : ℕ) → number ≤ old.layout.inodes → (same : Bool) → (number == chosen.choice.inode) ≡ same → mid.has_inode number ≡ ((parts_now old).has_inode number || same)
  inode_by number low true is =
      let e = eqb-true number chosen.choice.inode is in
      ap mid.has_inode e ∙ (one.here ∙ or_true ((parts_now old).has_inode number))
  inode_by number low false is =
      one.other_inodes number low (λ e. let t = eq-eqb number chosen.choice.inode e in cc) ∙ or_false ((parts_now old).has_inode number)

  marks_both : MarksOnly old (parts_now old) new chosen
  marks_both = record {
    inodes = λ number low. two.inodes number low ∙ inode_by number low _ refl;
    zones = λ zone is. two.marks zone is ∙ ap (λ (b : Bool). b || has_number chosen.choice.zones zone) (one.zones zone is.0);
    nodes = λ number is other. two.nodes number ∙ one.nodes number;
  }

-- ---- the calls

module _ {D : Type 0} {disks : Ghosts D} (old : Volume D disks) (chosen : Chosen) (there : chosen.choice.inode ≤ old.layout.inodes) (ready : IsReady old)
    (mid : Volume D disks) (bytes : List ℕ) (answer : Result (Unit {0}) ZoneFault) (step : Steps old mid) (writes : WritesSector old mid (inode_mark_sector chosen.choice.inode) bytes Device answer) where
  pub marks_no_inode : (fault : ZoneFault) → HasDeviceCause {T = Unit {0}} old mid Device (Err fault) → MarksChosen old mid chosen (Err fault)
  marks_no_inode fault device = record {
    steps = step;
    marks = λ told. tt;
    quiet = tt;
    others = λ d s off. writes.writes.others d s (inode_off old chosen.choice.inode there d s off);
    device = device;
  }

  module _ (next : Volume D disks) (answer' : Result (Unit {0}) ZoneFault) (marks : MarksZones mid next chosen.choice.zones answer') where
    both_steps : Steps old next
    both_steps = steps_join old mid next ready step marks.steps

    both_others : (d s : ℕ) → IsOffBitmaps old d s → NotWritten (past_of old) (past_of next) d s
    both_others d s off =
        not_written_join (past_of old) (past_of mid) (past_of next) d s
        (writes.writes.others d s (inode_off old chosen.choice.inode there d s off))
        (marks.others d s (off_zone_map old mid step.kept d s off))

    pub marks_no_zones : (fault : ZoneFault) → HasDeviceCause {T = Unit {0}} mid next Device (Err fault) → MarksChosen old next chosen (Err fault)
    marks_no_zones fault device = record {
      steps = both_steps;
      marks = λ told. tt;
      quiet = tt;
      others = both_others;
      device = cause_after {T = Unit {0}} old mid next Device (Err fault) step.goes_on.later device;
    }

    module _ (new : Volume D disks) (result : Result (Unit {0}) ZoneFault) (flush : Steps next new) (syncs : Syncs next new Device result)
        (one : IsTold (past_of old) → OneInodeMark (volume_view old) (parts_now old) (parts_now mid) chosen.choice.inode true)
        (two : IsTold (past_of mid) → ZonesMarked (volume_view mid) (parts_now mid) (parts_now next) chosen.choice.zones) where
      same_parts : parts_now new ≡ parts_now next
      same_parts =
          let I : Image → Parts = λ image. model.parts_of (volume_view new) image in
          let V : model.Volume → Parts = λ view. model.parts_of view (now (past_of next)) in
          ap I syncs.flushes.same_now ∙ ap V (same_view next new flush.kept)

      pub marks_done : MarksChosen old new chosen result
      marks_done = record {
        steps = steps_join old next new ready both_steps flush;
        marks = λ told. on_ok_held result _
            (let P : Parts → Type 0 = λ parts. MarksOnly old (parts_now old) parts chosen in
            let V : model.Volume → Type 0 = λ view. ZonesMarked view (parts_now mid) (parts_now next) chosen.choice.zones in
            subst P (sym same_parts) (marks_both old chosen (parts_now mid) (parts_now next) (one told) (subst V (same_view old mid step.kept) (two (step.goes_on.told told)))));
        quiet = syncs.flushes.quiet;
        others = λ d s off. not_written_join (past_of old) (past_of next) (past_of new) d s (both_others d s off) (syncs.flushes.untouched d s);
        device = cause_after old next new Device result both_steps.goes_on.later syncs.device;
      }
