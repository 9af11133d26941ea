-- What calls leave that write indirect zones and the inode of a new file.
use Rattle.std.proofs.Common.{◌≡◌, ◌≢◌, ◌≤◌, ◌<◌, ◌+◌, ◌/◌, ◌^◌, ◌==◌, ℕ, true, false, List, All, length, Result, Ok, Err, OnOk, refl, sym, ap, ◌∙◌, subst, arith, ⊎_elim}
use Rattle.std.specs.Prelude.{slice_index}
use Rattle.std.proofs.lemmas.Bool.{cases_lt}
use Rattle.disk_trait.specs.declared.disks.Disks.{Ghosts}
use Rattle.disk_trait.specs.declared.disks.Span.{Span}
use Rattle.disk_trait.specs.Past.{Image}
use Rattle.disk_trait.specs.Moments.{IsTold, now, begun}
use Rattle.disk_trait.specs.NotWritten.{IsOther, NotWritten}
use Rattle.disk_trait.specs.Range.{IsOutside}
use Rattle.disk_trait.proofs.MomentLemmas.{on_ok}
use Rattle.disk_trait.proofs.CallLemmas.{on_ok_held}
use Rattle.disk_trait.proofs.NotWrittenLemmas.{not_written_none, not_written_join}
use Rattle.lilo_model.specs.MinixLayout as models
use Rattle.lilo_model.specs.MinixLayout.{Inode, FitsInode, most_links, number_size, is_size, inode_bytes, inode_place, kept_inode, zone_sector}
use Rattle.lilo_model.specs.MinixParts as model
use Rattle.lilo_model.specs.MinixParts.{Parts, Pointer, is_directory}
use Rattle.lilo_model.specs.MinixNames.{Named, Refers}
use Rattle.minix_change_laws.specs.Beside.{IsDataZone}
use Rattle.minix_change_laws.specs.Enter.{MayStand}
use Rattle.minix_change_laws.proofs.Names.{new_file_law}
use Rattle.minix_choice_laws.specs.Sources.{Indirect, FileZones, zone_from}
use Rattle.minix_choice_laws.specs.FillLaws.{MayBeFile, IsNewInode, AreNewZones}
use Rattle.minix_choice_laws.proofs.Filled.{fit_filled_law, filled_law}
use Rattle.minix_choice_laws.proofs.Given.{past_end}
use Rattle.minix_layout.specs.View.{kind_view, super_view, inode_view}
use Rattle.minix_layout.specs.declared.inode.Inode as layouts
use Rattle.minix_layout.specs.declared.superblock.Super.{Super}
use Rattle.minix_steps.specs.StepLaws.{OneZone, OneInode}
use Rattle.minix_steps.specs.Steps.{IsReady, IsUnnamedInode, Steps}
use Rattle.minix_steps.specs.Written.{parts_now}
use Rattle.minix_steps.proofs.PartLemmas.{kept_inode_law}
use Rattle.minix_steps.proofs.StepLemmas.{same_view, no_step, steps_join}
use Rattle.minix_zones.specs.Volume.{volume_view, past_of, faults_of, KeepsVolume, SameVolume, HasDeviceCause, WritesSector, Syncs}
use Rattle.minix_zones.specs.declared.volume.Volume.{Volume}
use Rattle.minix_zones.specs.declared.zone_fault.ZoneFault.{ZoneFault}
use Rattle.minix_zones.specs.declared.zone_fault.ZoneFault.TheVariants.{Device}
use Rattle.minix_zones.proofs.WriteLemmas.{cause_after}
use Rattle.minix_fill.specs.Numbers.{AreNumbers, HasNumbers, tops_of}
use Rattle.minix_fill.specs.Fill.{MayHoldFile, NumbersWritten, IsOffIndirect, WritesNumbers, IsFilled, FillsFile, IsOfSome, IsOfFile, AreMarked, MayGetName, IsNewFit, IsFitThen}
use Rattle.minix_fill.proofs.FillLemmas.{numbers_none, numbers_hole, numbers_one, numbers_join, numbers_fit, kept_tops, KeepsFields, kept_fields, gid_small}

-- ---- a volume that stays as it is

unchanged : {D : Type 0} {disks : Ghosts D} (old : Volume D disks) → SameVolume old old
unchanged old = record {
  same_disks = record { same_past = refl; same_size = refl; same_count = refl; same_geometry = refl };
  same_span = refl;
  same_layout = refl;
  same_reference = refl;
}

-- zones that are kept free
pub held_free : {D : Type 0} {disks : Ghosts D} (old new : Volume D disks) (zones : FileZones) → Steps old new → MayHoldFile old zones → MayHoldFile new zones
held_free old new zones steps free = record {
  range = λ source some. let P : Super → Type 0 = λ layout. IsDataZone (super_view layout) (zone_from zones source) in subst P (sym steps.kept.same_layout) (free.range source some);
  unused = λ source some. steps.unused (zone_from zones source) (free.unused source some);
}

module _ {D : Type 0} {disks : Ghosts D} (old : Volume D disks) (zones : FileZones) where
  pub fit_numbers : MayHoldFile old zones → AreNumbers (kind_view old.layout.kind) zones
  fit_numbers free = numbers_fit (super_view old.layout) old.span.count zones old.whole free.range

  -- ---- indirect zones

  pub writes_start : IsReady old → (place : ℕ) → WritesNumbers old old zones place place (Ok tt)
  writes_start ready place = record {
    steps = no_step old old ready (unchanged old) (omega arith);
    written = λ told. numbers_none (volume_view old) zones (parts_now old) place;
    same_begun = refl;
    others = λ d s off. not_written_none (past_of old) d s;
    device = tt;
  }

  pub writes_hole : IsReady old → (place : ℕ) → slice_index zones.indirect place ≡ 0 → WritesNumbers old old zones place (place + 1) (Ok tt)
  writes_hole ready place hole = record {
    steps = no_step old old ready (unchanged old) (omega arith);
    written = λ told. numbers_hole (volume_view old) zones (parts_now old) place hole;
    same_begun = refl;
    others = λ d s off. not_written_none (past_of old) d s;
    device = tt;
  }

  module _ (new : Volume D disks) where
    pub writes_zone : (place : ℕ) (bytes : List ℕ) (result : Result (Unit {0}) ZoneFault) → slice_index zones.indirect place ≢ 0
        → HasNumbers (kind_view old.layout.kind) zones place bytes → Steps old new
        → (IsTold (past_of old) → OnOk result (OneZone (volume_view old) (parts_now old) (parts_now new) (slice_index zones.indirect place) bytes))
        → begun (past_of new) ≡ begun (past_of old)
        → ((d s : ℕ) → IsOutside old.span.disk (old.span.start + zone_sector (slice_index zones.indirect place)) 2 d s → NotWritten (past_of old) (past_of new) d s)
        → HasDeviceCause old new Device result → WritesNumbers old new zones place (place + 1) result
    writes_zone place bytes result some has steps parts same others device = record {
      steps = steps;
      written = λ told. on_ok result _ _ (parts told) (λ one. numbers_one (volume_view old) zones (parts_now old) (parts_now new) place bytes one has);
      same_begun = same;
      others = λ d s off. others d s (off place some);
      device = device;
    }

    pub writes_failed : (low high low' high' : ℕ) (fault : ZoneFault) → WritesNumbers old new zones low high (Err fault) → WritesNumbers old new zones low' high' (Err fault)
    writes_failed low high low' high' fault call = record { steps = call.steps; written = λ told. tt; same_begun = call.same_begun; others = call.others; device = call.device }

  off_kept : (mid : Volume D disks) → KeepsVolume old mid → (d s : ℕ) → IsOffIndirect old zones d s → IsOffIndirect mid zones d s
  off_kept mid kept d s off place some =
      let S : Span → Type 0 = λ span. IsOutside span.disk (span.start + zone_sector (slice_index zones.indirect place)) 2 d s in
      subst S (sym kept.same_span) (off place some)

  pub writes_join : (mid new : Volume D disks) (low middle high : ℕ) (result : Result (Unit {0}) ZoneFault) → IsReady old → (IsTold (past_of old) → MayBeFile (kind_view old.layout.kind) zones)
      → low ≤ middle → middle ≤ high → WritesNumbers old mid zones low middle (Ok tt) → WritesNumbers mid new zones middle high result → WritesNumbers old new zones low high result
  writes_join mid new low middle high result ready may up down one two =
      let kept = one.steps.kept in
      record {
        steps = steps_join old mid new ready one.steps two.steps;
        written = λ told. on_ok result _ _ (two.written (one.steps.goes_on.told told)) (λ written.
            let V : model.Volume → Type 0 = λ view. NumbersWritten view (parts_now mid) (parts_now new) zones middle high in
            numbers_join (volume_view old) zones (may told) (parts_now old) (parts_now mid) (parts_now new) low middle high up down (one.written told) (subst V (same_view old mid kept) written));
        same_begun = two.same_begun ∙ one.same_begun;
        others = λ d s off. not_written_join (past_of old) (past_of mid) (past_of new) d s (one.others d s off) (two.others d s (off_kept mid kept d s off));
        device = cause_after old mid new Device result one.steps.goes_on.later two.device;
      }

  -- ---- the inode, and the flush

  module _ (number : ℕ) (inode : Inode) (some : 1 ≤ number) (there : number ≤ old.layout.inodes) (ready : IsReady old)
      (may : MayBeFile (kind_view old.layout.kind) zones) (free : MayHoldFile old zones) where
    abbrev filled : Inode
    filled = record inode { zones = tops_of (kind_view old.layout.kind) zones }

    abbrev kept_filled : Inode
    kept_filled = kept_inode (kind_view old.layout.kind) filled

    -- what the parts are then
    module _ (mid : Parts) (new : Volume D disks)
        (fits : FitsInode (kind_view old.layout.kind) filled) (size : is_size (kind_view old.layout.kind) inode.size ≡ true)
        (one : NumbersWritten (volume_view old) (parts_now old) mid zones 0 (length zones.indirect))
        (two : OneInode (volume_view old) mid (parts_now new) number (inode_bytes (kind_view old.layout.kind) filled)) where
      node_is : (parts_now new).node number ≡ kept_filled
      node_is = two.here ∙ kept_inode_law (kind_view old.layout.kind) filled fits size

      indirect_inside : (place : ℕ) → slice_index zones.indirect place ≢ 0 → place < length zones.indirect
      indirect_inside place made = ⊎_elim (λ inside. inside) (λ past. absurd (made (past_end zones.indirect place past))) (cases_lt place (length zones.indirect))

      pub is_filled : IsFilled old new number inode zones
      is_filled = record {
        node = node_is;
        has = record {
          tops = λ top ten. let N : Inode → ℕ = λ node. slice_index node.zones top in ap N node_is ∙ kept_tops (kind_view old.layout.kind) zones inode top may ten;
          rows = λ place index made small.
              let from = (free.range (Indirect place) made).0 in
              let P : List ℕ → Type 0 = HasNumbers (kind_view old.layout.kind) zones place in
              subst P (sym (two.zones (slice_index zones.indirect place) from)) (one.numbers place (omega arith) (indirect_inside place made) made) index small;
        };
        nodes = λ other low high apart. two.others other low high apart ∙ one.nodes other low high;
        bytes = λ zone from apart. two.zones zone from ∙ one.others zone (λ place low high. apart place);
        marks = λ other high. two.marks other high ∙ one.marks other high;
        zone_marks = λ zone below. two.zone_marks zone below ∙ one.zone_marks zone below;
      }

-- what write_inode asks, after the indirect zones
module _ {D : Type 0} {disks : Ghosts D} (old mid : Volume D disks) (kept : KeepsVolume old mid) (inode : Inode) (zones : FileZones) (written : layouts.Inode)
    (is : inode_view written ≡ record inode { zones = tops_of (kind_view old.layout.kind) zones })
    (fits : FitsInode (kind_view old.layout.kind) (record inode { zones = tops_of (kind_view old.layout.kind) zones })) where
  at_mid : (P : Super → Type 0) → P old.layout → P mid.layout
  at_mid P holds = subst P (sym kept.same_layout) holds

  pub written_links : written.links ≤ most_links (kind_view mid.layout.kind)
  written_links =
      let P : Inode → Type 0 = λ node. node.links ≤ most_links (kind_view old.layout.kind) in
      at_mid (λ layout. written.links ≤ most_links (kind_view layout.kind)) (subst P (sym is) fits.links_fit)

  pub written_gid : written.gid ≤ most_links (kind_view mid.layout.kind)
  written_gid =
      let P : Inode → Type 0 = λ node. node.gid ≤ most_links (kind_view old.layout.kind) in
      at_mid (λ layout. written.gid ≤ most_links (kind_view layout.kind)) (subst P (sym is) (gid_small (kind_view old.layout.kind) inode.gid fits.gid_fits))

  pub written_zones : All (λ zone. zone < 256 ^ number_size (kind_view mid.layout.kind)) written.zones
  written_zones =
      let P : Inode → Type 0 = λ node. All (λ zone. zone < 256 ^ number_size (kind_view old.layout.kind)) node.zones in
      at_mid (λ layout. All (λ zone. zone < 256 ^ number_size (kind_view layout.kind)) written.zones) (subst P (sym is) fits.zones_fit)

-- ---- what is left after each call

module _ {D : Type 0} {disks : Ghosts D} (old : Volume D disks) (zones : FileZones) (number : ℕ) (inode : Inode) (some : 1 ≤ number) (there : number ≤ old.layout.inodes)
    (ready : IsReady old) (may : IsTold (past_of old) → MayBeFile (kind_view old.layout.kind) zones) (free : MayHoldFile old zones) where
  pub fills_no_indirect : (new : Volume D disks) (low high : ℕ) (fault : ZoneFault) → WritesNumbers old new zones low high (Err fault) → FillsFile old new number inode zones (Err fault)
  fills_no_indirect new low high fault call = record {
    steps = call.steps;
    filled = λ told. tt;
    quiet = tt;
    durable = tt;
    others = λ d s off other. call.others d s off;
    device = call.device;
  }

  module _ (mid next : Volume D disks) (high : ℕ) (bytes : List ℕ) (answer : Result (Unit {0}) ZoneFault) (one : WritesNumbers old mid zones 0 high (Ok tt)) (step : Steps mid next)
      (writes : WritesSector mid next (inode_place (super_view mid.layout) number).sector bytes Device answer) where
    both_others : (d s : ℕ) → IsOffIndirect old zones d s → IsOther old.span.disk (old.span.start + (inode_place (super_view old.layout) number).sector) d s → NotWritten (past_of old) (past_of next) d s
    both_others d s off other =
        let kept = one.steps.kept in
        let L : Super → Type 0 = λ layout. IsOther old.span.disk (old.span.start + (inode_place (super_view layout) number).sector) d s in
        let S : Span → Type 0 = λ span. IsOther span.disk (span.start + (inode_place (super_view mid.layout) number).sector) d s in
        not_written_join (past_of old) (past_of mid) (past_of next) d s (one.others d s off)
        (writes.writes.others d s (subst S (sym kept.same_span) (subst L (sym kept.same_layout) other)))

    pub fills_no_inode : (fault : ZoneFault) → HasDeviceCause {T = Unit {0}} mid next Device (Err fault) → FillsFile old next number inode zones (Err fault)
    fills_no_inode fault device = record {
      steps = steps_join old mid next ready one.steps step;
      filled = λ told. tt;
      quiet = tt;
      durable = tt;
      others = both_others;
      device = cause_after {T = Unit {0}} old mid next Device (Err fault) one.steps.goes_on.later device;
    }

    module _ (new : Volume D disks) (result : Result (Unit {0}) ZoneFault) (whole : high ≡ length zones.indirect) (written : Inode) (is : written ≡ record inode { zones = tops_of (kind_view old.layout.kind) zones })
        (fits : FitsInode (kind_view old.layout.kind) (record inode { zones = tops_of (kind_view old.layout.kind) zones })) (size : is_size (kind_view old.layout.kind) inode.size ≡ true)
        (two : IsTold (past_of mid) → OneInode (volume_view mid) (parts_now mid) (parts_now next) number (inode_bytes (kind_view mid.layout.kind) written))
        (flush : Steps next new) (syncs : Syncs next new Device result) where
      same_parts : parts_now new ≡ parts_now next
      same_parts =
          let I : Image → Parts = λ image. model.parts_of (volume_view new) image in
          let V : model.Volume → Parts = λ view. model.parts_of view (now (past_of next)) in
          ap I syncs.flushes.same_now ∙ ap V (same_view next new flush.kept)

      one_inode : IsTold (past_of old) → OneInode (volume_view old) (parts_now mid) (parts_now new) number (inode_bytes (kind_view old.layout.kind) (record inode { zones = tops_of (kind_view old.layout.kind) zones }))
      one_inode told =
          let kept = one.steps.kept in
          let V : model.Volume → Type 0 = λ view. OneInode view (parts_now mid) (parts_now next) number (inode_bytes view.layout.kind written) in
          let N : Inode → Type 0 = λ node. OneInode (volume_view old) (parts_now mid) (parts_now next) number (inode_bytes (kind_view old.layout.kind) node) in
          let P : Parts → Type 0 = λ parts. OneInode (volume_view old) (parts_now mid) parts number (inode_bytes (kind_view old.layout.kind) (record inode { zones = tops_of (kind_view old.layout.kind) zones })) in
          subst P (sym same_parts) (subst N is (subst V (same_view old mid kept) (two (one.steps.goes_on.told told))))

      pub fills_done : FillsFile old new number inode zones result
      fills_done = record {
        steps = steps_join old next new ready (steps_join old mid next ready one.steps step) flush;
        filled = λ told. on_ok_held result _
            (let H : ℕ → Type 0 = λ n. NumbersWritten (volume_view old) (parts_now old) (parts_now mid) zones 0 n in
            is_filled old zones number inode some there ready (may told) free (parts_now mid) new fits size (subst H whole (one.written told)) (one_inode told));
        quiet = syncs.flushes.quiet;
        durable = on_ok result _ _ syncs.flushes.durable (λ durable. durable ∙ sym syncs.flushes.same_now);
        others = λ d s off other. not_written_join (past_of old) (past_of next) (past_of new) d s (both_others d s off other) (syncs.flushes.untouched d s);
        device = cause_after old next new Device result (le_later old mid next one.steps step) syncs.device;
      }
        where
          le_later : (a b c : Volume D disks) → Steps a b → Steps b c → faults_of a ≤ faults_of c
          le_later a b c first second = omega (arith, first.goes_on.later, second.goes_on.later)

  -- ---- the inode may get a name

  module _ (new : Volume D disks) (unnamed : IsUnnamedInode old number) (size : is_size (kind_view old.layout.kind) inode.size ≡ true) (steps : Steps old new)
      (durable : begun (past_of new) ≡ now (past_of new)) (told : IsTold (past_of old)) (filled : IsFilled old new number inode zones)
      (some_of : IsOfSome inode) (marked : AreMarked (parts_now old) number zones) where
    -- what the disks hold now was held at the last flush
    at_flush : (P : models.Super → Parts → Type 0) → P (super_view old.layout) (parts_now new) → P (super_view new.layout) (model.parts_of (volume_view new) (begun (past_of new)))
    at_flush P holds =
        let I : Image → Type 0 = λ image. P (super_view new.layout) (model.parts_of (volume_view new) image) in
        let L : Super → Type 0 = λ layout. P (super_view layout) (parts_now new) in
        subst I (sym durable) (subst L (sym steps.kept.same_layout) holds)

    fields : KeepsFields ((parts_now new).node number) inode
    fields = let K : Inode → Type 0 = λ node. KeepsFields node inode in subst K (sym filled.node) (kept_fields (kind_view old.layout.kind) inode (tops_of (kind_view old.layout.kind) zones))

    new_inode : IsNewInode (super_view old.layout) (parts_now new) number
    new_inode = record {
      unnamed = λ named. (steps.unnamed number unnamed).unnamed (steps.goes_on.told told) (at_flush (λ super parts. Named super parts number) named);
      range = (omega (arith, some), there);
      marked = filled.marks number there ∙ marked.inode_bit;
      mode = λ none. some_of.mode (sym fields.mode ∙ none);
      size = let S : ℕ → Type 0 = λ n. is_size (kind_view old.layout.kind) n ≡ true in subst S (sym fields.size) size;
      some_link = let L : ℕ → Type 0 = λ n. 0 < n in subst L (sym fields.links) some_of.some_link;
    }

    new_zones : AreNewZones (super_view old.layout) (parts_now new) zones
    new_zones = record {
      range = free.range;
      marked = λ source made. filled.zone_marks (zone_from zones source) (free.range source made).1 ∙ marked.zone_bits source made;
      unused = λ source made other at refers.
          (steps.unused (zone_from zones source) (free.unused source made)).unused (steps.goes_on.told told) other at
          (at_flush (λ super parts. Refers super parts other at (zone_from zones source)) refers);
    }

    new_fit : IsNewFit (super_view old.layout) (parts_now new) number
    new_fit = record {
      unnamed = new_inode.unnamed;
      fit = fit_filled_law (super_view old.layout) (parts_now new) number zones (may told) filled.has new_inode new_zones;
      some_link = new_inode.some_link;
    }

    may_stand : is_directory inode ≡ false → MayStand (super_view old.layout) (parts_now new) number
    may_stand file =
        let M : ℕ → Type 0 = λ mode. (mode / 4096 == 4) ≡ false in
        new_file_law (super_view old.layout) (parts_now new) number
        (filled_law (super_view old.layout) (parts_now new) number zones (may told) filled.has new_inode new_zones (subst M (sym fields.mode) file))

  pub is_fit_then : (new : Volume D disks) (result : Result (Unit {0}) ZoneFault) → IsUnnamedInode old number → is_size (kind_view old.layout.kind) inode.size ≡ true
      → FillsFile old new number inode zones result → IsFitThen old new number inode zones result
  is_fit_then new (Ok done) unnamed size call some_of told marked = new_fit new unnamed size call.steps call.durable told (call.filled told) some_of marked
  is_fit_then new (Err fault) unnamed size call some_of told marked = tt

  pub gets_name : (new : Volume D disks) (result : Result (Unit {0}) ZoneFault) → IsUnnamedInode old number → is_size (kind_view old.layout.kind) inode.size ≡ true
      → FillsFile old new number inode zones result → MayGetName old new number inode zones result
  gets_name new (Ok done) unnamed size call file told marked = may_stand new unnamed size call.steps call.durable told (call.filled told) (record { mode = file.mode; some_link = file.some_link }) marked file.file
  gets_name new (Err fault) unnamed size call file told marked = tt
