-- What holds of a file that is reserved.
use Rattle.std.proofs.Common.{◌≡◌, ◌≢◌, ◌≤◌, ◌<◌, ◌+◌, ◌||◌, ℕ, Bool, true, false, List, Ok, refl, sym, ap, ◌∙◌, subst, arith, ⊎_elim}
use Rattle.std.specs.Prelude.{slice_index}
use Rattle.std.proofs.lemmas.Bool.{eq-eqb, cases_lt}
use Rattle.disk_trait.specs.declared.disks.Disks.{Ghosts}
use Rattle.disk_trait.specs.declared.disks.Span.{Span}
use Rattle.disk_trait.specs.Moments.{IsTold, IsQuiet}
use Rattle.disk_trait.specs.NotWritten.{NotWritten}
use Rattle.disk_trait.specs.Range.{IsOutside}
use Rattle.disk_trait.proofs.LawLemmas.{quiet_begun}
use Rattle.disk_trait.proofs.NotWrittenLemmas.{not_written_join}
use Rattle.lilo_model.specs.MinixLayout.{zone_sector}
use Rattle.minix_change_laws.specs.Beside.{IsDataZone}
use Rattle.minix_choice_laws.specs.Choice.{file_of}
use Rattle.minix_fill.specs.Fill.{MayHoldFile, AreMarked}
use Rattle.minix_fill.proofs.FillSteps.{held_free}
use Rattle.minix_choice_laws.specs.FillLaws.{MayBeFile}
use Rattle.minix_choice_laws.specs.Sources.{Source, Block, zone_from}
use Rattle.minix_layout.specs.View.{kind_view, super_view}
use Rattle.minix_layout.specs.declared.superblock.Super.{Super}
use Rattle.minix_steps.specs.StepLaws.{OneZone}
use Rattle.minix_steps.specs.Steps.{IsReady, IsUnusedZone, IsUnnamedInode, Steps}
use Rattle.minix_steps.specs.Written.{parts_now}
use Rattle.minix_steps.proofs.ReadyLemmas.{quiet_ready, unmarked_unused, unmarked_unnamed}
use Rattle.minix_steps.proofs.StepLemmas.{steps_join}
use Rattle.minix_zones.specs.View as zones
use Rattle.minix_zones.specs.Volume.{volume_view, past_of, KeepsVolume}
use Rattle.minix_zones.specs.declared.volume.Volume.{Volume}
use Rattle.minix_create.specs.Chosen.{Suits, IsFreeNow}
use Rattle.minix_create.specs.Created.{IsOffFile, MarksChosen, IsOpen, HasBlocks, IsReserved}
use Rattle.minix_create.specs.declared.chosen.Chosen.{Chosen}
use Rattle.minix_create.proofs.FromLemmas.{IsOf, file_zone, of_all, of_each, has_one}
use Rattle.minix_create.proofs.GrownLemmas.{may_grow_steps, may_grow_then}

-- what suits a volume suits it as it is kept
pub suits_kept : {D : Type 0} {disks : Ghosts D} (old new : Volume D disks) (chosen : Chosen) → KeepsVolume old new → Suits old.layout old.span chosen → Suits new.layout new.span chosen
suits_kept old new chosen kept suits =
    let L : Super → Type 0 = λ layout. Suits layout old.span chosen in
    let S : Span → Type 0 = λ span. Suits new.layout span chosen in
    subst S (sym kept.same_span) (subst L (sym kept.same_layout) suits)

pub suits_was : {D : Type 0} {disks : Ghosts D} (old new : Volume D disks) (chosen : Chosen) → KeepsVolume old new → Suits new.layout new.span chosen → Suits old.layout old.span chosen
suits_was old new chosen kept suits =
    let L : Super → Type 0 = λ layout. Suits layout old.span chosen in
    let S : Span → Type 0 = λ span. Suits new.layout span chosen in
    subst L kept.same_layout (subst S kept.same_span suits)

or_is : (one other : Bool) → other ≡ true → (one || other) ≡ true
or_is true other is = refl
or_is false other is = is

-- ---- on a quiet volume where what was chosen is free

module _ {D : Type 0} {disks : Ghosts D} (start : Volume D disks) (chosen : Chosen) (suits : Suits start.layout start.span chosen) (quiet : IsQuiet (past_of start))
    (free : IsTold (past_of start) → IsFreeNow start chosen) where
  pub start_ready : IsReady start
  start_ready = quiet_ready start quiet (λ told. (free told).sound)

  zone_of : (source : Source) → zone_from (file_of chosen.choice) source ≢ 0 → IsOf chosen.choice.zones (zone_from (file_of chosen.choice) source)
  zone_of source some = file_zone (kind_view start.layout.kind) suits.made chosen.choice suits.file source some

  data_of : (source : Source) → zone_from (file_of chosen.choice) source ≢ 0 → IsDataZone (super_view start.layout) (zone_from (file_of chosen.choice) source)
  data_of source some =
      let is = of_all (zones.IsDataZone start.layout) chosen.choice.zones (zone_from (file_of chosen.choice) source) suits.are_data (zone_of source some) in
      (is.from, is.below)

  pub start_holds : MayHoldFile start (file_of chosen.choice)
  start_holds = record {
    range = data_of;
    unused = λ source some.
        let range = data_of source some in
        unmarked_unused start start_ready (zone_from (file_of chosen.choice) source) range.0 range.1
        (λ told. of_each (λ zone. (parts_now start).has_zone zone ≡ false) chosen.choice.zones _ (free told).zones (zone_of source some));
  }

  pub start_unnamed : IsUnnamedInode start chosen.choice.inode
  start_unnamed = unmarked_unnamed start start_ready chosen.choice.inode suits.some suits.there (λ told. (free told).inode)

  -- ---- once its bits are set

  module _ (new : Volume D disks) (marks : MarksChosen start new chosen (Ok tt)) where
    bits : IsTold (past_of start) → AreMarked (parts_now new) chosen.choice.inode (file_of chosen.choice)
    bits told =
        let only = marks.marks told in
        record {
          inode_bit = only.inodes chosen.choice.inode suits.there ∙ or_is ((parts_now start).has_inode chosen.choice.inode) _ (eq-eqb chosen.choice.inode chosen.choice.inode refl);
          zone_bits = λ source some.
              only.zones (zone_from (file_of chosen.choice) source) (data_of source some)
              ∙ or_is ((parts_now start).has_zone (zone_from (file_of chosen.choice) source)) _ (has_one chosen.choice.zones _ (zone_of source some));
        }

    pub marked_open : IsOpen new chosen
    marked_open = record {
      suits = suits_kept start new chosen marks.steps.kept suits;
      ready = marks.steps.ready;
      free = held_free start new (file_of chosen.choice) marks.steps start_holds;
      unnamed = marks.steps.unnamed chosen.choice.inode start_unnamed;
      file = λ told. let L : Super → Type 0 = λ layout. MayBeFile (kind_view layout.kind) (file_of chosen.choice) in subst L (sym marks.steps.kept.same_layout) (free (marks.steps.goes_on.told_before told)).file;
      marked = λ told. bits (marks.steps.goes_on.told_before told);
      grows = may_grow_steps start new chosen.directory chosen.choice.place chosen.choice.growth marks.steps
          (λ told. may_grow_then start chosen (quiet_begun (past_of start) told quiet) (free told).grows);
      clear = λ told. (free (marks.steps.goes_on.told_before told)).clear;
    }

    pub marked_reserved : (given : ℕ → List ℕ) (next : ℕ) → ((index : ℕ) → index < next → slice_index chosen.choice.blocks index ≡ 0) → IsReserved start new chosen given next
    marked_reserved given next holes = record {
      quiet = quiet;
      free = free;
      steps = marks.steps;
      marks = marks.marks;
      blocks = λ told index low some. absurd (some (holes index low));
      others = λ d s off. marks.others d s off.bitmaps;
    }

-- ---- a block that is written

module _ {D : Type 0} {disks : Ghosts D} (old : Volume D disks) (chosen : Chosen) (may : IsOpen old chosen) (index : ℕ) (some : slice_index chosen.choice.blocks index ≢ 0) where
  abbrev zone : ℕ
  zone = slice_index chosen.choice.blocks index

  pub block_range : IsDataZone (super_view old.layout) zone
  block_range = may.free.range (Block index) some

  pub block_unused : IsUnusedZone old zone
  block_unused = may.free.unused (Block index) some

  module _ (new : Volume D disks) (bytes : List ℕ) (steps : Steps old new) (one : IsTold (past_of old) → OneZone (volume_view old) (parts_now old) (parts_now new) zone bytes) where
    pub block_open : IsOpen new chosen
    block_open = record {
      suits = suits_kept old new chosen steps.kept may.suits;
      ready = steps.ready;
      free = held_free old new (file_of chosen.choice) steps may.free;
      unnamed = steps.unnamed chosen.choice.inode may.unnamed;
      file = λ told. let L : Super → Type 0 = λ layout. MayBeFile (kind_view layout.kind) (file_of chosen.choice) in subst L (sym steps.kept.same_layout) (may.file (steps.goes_on.told_before told));
      marked = λ told.
          let before = steps.goes_on.told_before told in
          let was = may.marked before in
          record {
            inode_bit = (one before).marks chosen.choice.inode may.suits.there ∙ was.inode_bit;
            zone_bits = λ source made. (one before).zone_marks (zone_from (file_of chosen.choice) source) (may.free.range source made).1 ∙ was.zone_bits source made;
          };
      grows = may_grow_steps old new chosen.directory chosen.choice.place chosen.choice.growth steps may.grows;
      clear = λ told. may.clear (steps.goes_on.told_before told);
    }

    module _ (start : Volume D disks) (given : ℕ → List ℕ) (suits : Suits start.layout start.span chosen) (is : bytes ≡ given index) (reserved : IsReserved start old chosen given index)
        (others : (d s : ℕ) → IsOutside old.span.disk (old.span.start + zone_sector zone) 2 d s → NotWritten (past_of old) (past_of new) d s)
        (next : ℕ) (holes : (at : ℕ) → index < at → at < next → slice_index chosen.choice.blocks at ≡ 0) where
      told_old : IsTold (past_of start) → IsTold (past_of old)
      told_old told = reserved.steps.goes_on.told told

      written : IsTold (past_of start) → HasBlocks (parts_now new) chosen given next
      written told at low made =
          let o = one (told_old told) in
          ⊎_elim
          (λ before.
          let apart : slice_index chosen.choice.blocks at ≢ zone = λ e.
          let same : Block at ≡ Block index = (may.file (told_old told)).once (Block at) (Block index) e made in
          let same_at : at ≡ index = cc in
          omega (arith, same_at, before) in
          o.others (slice_index chosen.choice.blocks at) apart ∙ reserved.blocks told at before made)
          (λ from. ⊎_elim
          (λ past. absurd (made (holes at past low)))
          (λ to.
          let here : at ≡ index = omega (arith, from, to) in
          ap (λ n. (parts_now new).zone (slice_index chosen.choice.blocks n)) here ∙ (o.here ∙ (is ∙ ap given (sym here))))
          (cases_lt index at))
          (cases_lt at index)

      off : (d s : ℕ) → IsOffFile start chosen d s → IsOutside old.span.disk (old.span.start + zone_sector zone) 2 d s
      off d s off_file =
          let S : Span → Type 0 = λ span. IsOutside span.disk (span.start + zone_sector zone) 2 d s in
          subst S (sym reserved.steps.kept.same_span)
          (off_file.zones zone (has_one chosen.choice.zones zone (file_zone (kind_view start.layout.kind) suits.made chosen.choice suits.file (Block index) some)))

      pub block_reserved : IsReserved start new chosen given next
      block_reserved = record {
        quiet = reserved.quiet;
        free = reserved.free;
        steps = steps_join start old new (quiet_ready start reserved.quiet (λ told. (reserved.free told).sound)) reserved.steps steps;
        marks = λ told.
            let was = reserved.marks told in
            let o = one (told_old told) in
            let I : Super → Type 0 = λ layout. (number : ℕ) → number ≤ layout.inodes → (parts_now new).has_inode number ≡ (parts_now old).has_inode number in
            let Z : Super → Type 0 = λ layout. (zone' : ℕ) → zone' < layout.zones → (parts_now new).has_zone zone' ≡ (parts_now old).has_zone zone' in
            let N : Super → Type 0 = λ layout. (number : ℕ) → 1 ≤ number → number ≤ layout.inodes → (parts_now new).node number ≡ (parts_now old).node number in
            let inodes = subst I reserved.steps.kept.same_layout o.marks in
            let maps = subst Z reserved.steps.kept.same_layout o.zone_marks in
            let table = subst N reserved.steps.kept.same_layout o.nodes in
            record {
              inodes = λ number low. inodes number low ∙ was.inodes number low;
              zones = λ zone' range. maps zone' range.1 ∙ was.zones zone' range;
              nodes = λ number range other. table number range.0 range.1 ∙ was.nodes number range other;
            };
        blocks = written;
        others = λ d s off_file. not_written_join (past_of start) (past_of old) (past_of new) d s (reserved.others d s off_file) (others d s (off d s off_file));
      }
