-- What the call leaves that fills a file.
use Rattle.std.proofs.Common.{◌≡◌, ◌≢◌, ◌≤◌, ◌<◌, ◌+◌, ◌/◌, ◌==◌, ℕ, zero, suc, Bool, true, false, List, length, take, Ok, refl, sym, ap, ◌∙◌, subst, arith, inl, inr, ⊎_elim}
use Rattle.std.specs.Prelude.{slice_index}
use Rattle.std.proofs.lemmas.Bool.{cases_lt, eq-eqb}
use Rattle.disk_trait.specs.declared.disks.Disks.{Ghosts}
use Rattle.disk_trait.specs.declared.disks.Span.{Span}
use Rattle.disk_trait.specs.Moments.{IsTold}
use Rattle.disk_trait.specs.NotWritten.{IsOther}
use Rattle.disk_trait.specs.Range.{IsOutside}
use Rattle.disk_trait.proofs.NotWrittenLemmas.{not_written_join}
use Rattle.lilo_model.specs.MinixLayout.{Kind, V1Short, V1Long, V2Short, V2Long, Inode, inode_place, kept_inode, numbers_in_zone, reach, zone_sector}
use Rattle.lilo_model.specs.MinixNames.{thing, block, blocks, content, zone_number, PointsTo}
use Rattle.lilo_model.specs.MinixParts.{Pointer, is_directory, zone_bytes, blocks_for, block_pointer}
use Rattle.minix_choice_laws.specs.Choice.{file_of}
use Rattle.minix_change_laws.specs.Enter.{DirectoryMayStand}
use Rattle.minix_fill.specs.Fill as fill
use Rattle.minix_fill.specs.Fill.{FillsFile, AreMarked, IsOfSome, MayGetName, IsFitThen}
use Rattle.minix_fill.specs.Numbers.{tops_of}
use Rattle.minix_choice_laws.specs.FillLaws.{MayBeFile}
use Rattle.minix_choice_laws.specs.Sources.{Source, Block, Indirect, zone_from, source_of}
use Rattle.minix_choice_laws.proofs.Filled.{content_law, pointers_law}
use Rattle.minix_laws.proofs.Inside.{is_pointer-block}
use Rattle.minix_choice_laws.proofs.Pointers.{block_leads}
use Rattle.minix_choice_laws.proofs.Given.{past_end}
use Rattle.minix_grow.specs.Others.{IsClearOf}
use Rattle.minix_layout.specs.View.{kind_view, super_view}
use Rattle.minix_layout.specs.declared.superblock.Super.{Super}
use Rattle.minix_steps.specs.Written.{parts_now}
use Rattle.minix_steps.proofs.ReadyLemmas.{quiet_ready}
use Rattle.minix_steps.proofs.StepLemmas.{steps_join}
use Rattle.minix_zones.specs.Volume.{past_of}
use Rattle.minix_zones.specs.declared.volume.Volume.{Volume}
use Rattle.minix_create.specs.Chosen.{Suits, IsNewInode, IsOfDirectory, MayBeMade, MayNest, block_with, content_with, new_inode, thing_with}
use Rattle.minix_create.specs.Created.{IsOffFile, IsOpen, IsReserved, IsFilledWith, IsFilled}
use Rattle.minix_create.specs.Entered.{MayBeNamed}
use Rattle.minix_create.specs.declared.chosen.Chosen.{Chosen}
use Rattle.minix_create.proofs.DotsLemmas.{near_first, directory_stands}
use Rattle.minix_create.proofs.FromLemmas.{file_zone, has_one}

-- blocks that are the same
same_blocks : (one other : ℕ → List ℕ) (count : ℕ) → ((index : ℕ) → one index ≡ other index) → blocks one count ≡ blocks other count
same_blocks one other zero same = refl
same_blocks one other (suc count) same = rw (same_blocks one other count same, same count) refl

-- what a volume keeps of a new inode is that, whatever zones it has
kept_new : (kind : Kind) (chosen : Chosen) (tops : List ℕ) → IsNewInode chosen (kept_inode kind (record (new_inode chosen) { zones = tops }))
unfolding kept_inode
kept_new V1Short chosen tops = refl
kept_new V1Long chosen tops = refl
kept_new V2Short chosen tops = refl
kept_new V2Long chosen tops = refl

-- a sector that isn't of the file isn't of its indirect zones
pub off_indirect_of : {D : Type 0} {disks : Ghosts D} (volume : Volume D disks) (chosen : Chosen) → Suits volume.layout volume.span chosen → (d s : ℕ) → IsOffFile volume chosen d s
    → fill.IsOffIndirect volume (file_of chosen.choice) d s
off_indirect_of volume chosen suits d s off place some =
    off.zones (slice_index chosen.choice.indirect place) (has_one chosen.choice.zones _ (file_zone (kind_view volume.layout.kind) suits.made chosen.choice suits.file (Indirect place) some))

module _ {D : Type 0} {disks : Ghosts D} (start old new : Volume D disks) (chosen : Chosen) (given : ℕ → List ℕ) (next : ℕ) (may : IsOpen old chosen) (reserved : IsReserved start old chosen given next)
    (suits : Suits start.layout start.span chosen) (all : length chosen.choice.blocks ≤ next)
    (fills : FillsFile old new chosen.choice.inode (new_inode chosen) (file_of chosen.choice) (Ok tt)) where
  told_old : IsTold (past_of start) → IsTold (past_of old)
  told_old told = reserved.steps.goes_on.told told

  module _ (told : IsTold (past_of start)) where
    is : fill.IsFilled old new chosen.choice.inode (new_inode chosen) (file_of chosen.choice)
    is = fills.filled (told_old told)

    file : MayBeFile (kind_view old.layout.kind) (file_of chosen.choice)
    file = may.file (told_old told)

    node_is : IsNewInode chosen ((parts_now new).node chosen.choice.inode)
    node_is =
        let N : Inode → Type 0 = IsNewInode chosen in
        subst N (sym is.node) (kept_new (kind_view old.layout.kind) chosen (tops_of (kind_view old.layout.kind) (file_of chosen.choice)))

    mode_is : ((parts_now new).node chosen.choice.inode).mode ≡ chosen.mode
    mode_is = ap (λ (i : Inode). i.mode) node_is

    size_is : ((parts_now new).node chosen.choice.inode).size ≡ chosen.length
    size_is = ap (λ (i : Inode). i.size) node_is

    -- each block has its bytes
    block_written : (index : ℕ) → slice_index chosen.choice.blocks index ≢ 0 → (parts_now new).zone (slice_index chosen.choice.blocks index) ≡ given index
    block_written index some =
        let inside : index < length chosen.choice.blocks = ⊎_elim (λ low. low) (λ past. absurd (some (past_end chosen.choice.blocks index past))) (cases_lt index (length chosen.choice.blocks)) in
        let apart : (place : ℕ) → slice_index chosen.choice.indirect place ≢ slice_index chosen.choice.blocks index =
        λ place e. let same : Block index ≡ Indirect place = file.once (Block index) (Indirect place) (sym e) some in cc in
        is.bytes (slice_index chosen.choice.blocks index) (may.free.range (Block index) some).0 apart
        ∙ reserved.blocks told index (omega (arith, inside, all)) some

    block_is : (index : ℕ) → zone_bytes (parts_now new) (slice_index chosen.choice.blocks index) ≡ block_with chosen.choice.blocks given index
    block_is index = by (slice_index chosen.choice.blocks index == 0) refl
      where
        by : (hole : Bool) → (slice_index chosen.choice.blocks index == 0) ≡ hole → zone_bytes (parts_now new) (slice_index chosen.choice.blocks index) ≡ block_with chosen.choice.blocks given index
        by true e = rw e refl
        by false e = rw e (block_written index (λ none. let t = eq-eqb (slice_index chosen.choice.blocks index) 0 none in cc))

    content_is : blocks_for chosen.length ≤ reach (kind_view old.layout.kind) → content (super_view old.layout) (parts_now new) chosen.choice.inode ≡ content_with chosen given
    content_is few =
        let F : ℕ → Type 0 = λ n. blocks_for n ≤ reach (kind_view old.layout.kind) in
        let C : ℕ → List ℕ = λ n. take n (blocks (λ index. zone_bytes (parts_now new) (slice_index chosen.choice.blocks index)) (blocks_for n)) in
        content_law (super_view old.layout) (parts_now new) chosen.choice.inode (file_of chosen.choice) file is.has (subst F (sym size_is) few)
        ∙ (ap C size_is
        ∙ ap (take chosen.length) (same_blocks (λ index. zone_bytes (parts_now new) (slice_index chosen.choice.blocks index)) (block_with chosen.choice.blocks given) (blocks_for chosen.length) block_is))

    thing_is : blocks_for chosen.length ≤ reach (kind_view old.layout.kind) → thing (super_view old.layout) (parts_now new) chosen.choice.inode ≡ thing_with chosen given
    unfolding thing
    thing_is few = rw (mode_is, content_is few) refl

    at_new : (P : Super → Type 0) → P old.layout → P new.layout
    at_new P holds = subst P (sym fills.steps.kept.same_layout) holds

    zone_is : (index : ℕ) → index < reach (kind_view old.layout.kind) → zone_number (super_view old.layout) (parts_now new) chosen.choice.inode index ≡ slice_index chosen.choice.blocks index
    unfolding zone_number
    zone_is index near =
        pointers_law (super_view old.layout) (parts_now new) chosen.choice.inode (file_of chosen.choice) (block_pointer (kind_view old.layout.kind) index) file is.has
        (is_pointer-block (kind_view old.layout.kind) index)
        ∙ ap (zone_from (file_of chosen.choice)) (block_leads (kind_view old.layout.kind) index near)

    -- each pointer leads to a zone of the file
    own_is : (at : Pointer) (zone : ℕ) → PointsTo (super_view old.layout) (parts_now new) chosen.choice.inode at zone → (source : Source) × (zone_from (file_of chosen.choice) source ≡ zone)
    own_is at zone to = (
      source_of (numbers_in_zone (kind_view old.layout.kind)) at,
      sym (pointers_law (super_view old.layout) (parts_now new) chosen.choice.inode (file_of chosen.choice) at file is.has to.place) ∙ to.is,
    )

    -- and none to a zone of growth
    clear_is : IsClearOf (super_view old.layout) (parts_now new) chosen.choice.inode chosen.choice.growth
    clear_is at zone to level low same =
        let own = own_is at zone to in
        may.clear (told_old told) own.0 level (λ none. to.some (sym own.1 ∙ none)) low (same ∙ sym own.1)

    -- the first block of a directory
    first_block : block (super_view old.layout) (parts_now new) chosen.choice.inode 0 ≡ block_with chosen.choice.blocks given 0
    unfolding block
    first_block = ap (zone_bytes (parts_now new)) (zone_is 0 (near_first (kind_view old.layout.kind))) ∙ block_is 0

    module _ (few : blocks_for chosen.length ≤ reach (kind_view old.layout.kind)) (made : MayBeMade (kind_view old.layout.kind) chosen given)
        (fit : IsFitThen old new chosen.choice.inode (new_inode chosen) (file_of chosen.choice) (Ok tt)) (stands : MayGetName old new chosen.choice.inode (new_inode chosen) (file_of chosen.choice) (Ok tt)) where
      marked : AreMarked (parts_now old) chosen.choice.inode (file_of chosen.choice)
      marked = may.marked (told_old told)

      of_directory : (outer : List (List ℕ)) → MayNest outer chosen → IsOfDirectory (kind_view old.layout.kind) chosen given
          → DirectoryMayStand (super_view old.layout) (parts_now new) outer chosen.directory chosen.choice.inode
      of_directory outer nests of =
          let D : ℕ → Type 0 = λ mode. (mode / 4096 == 4) ≡ true in
          directory_stands (super_view old.layout) (parts_now new) chosen.directory chosen.choice.inode (block_with chosen.choice.blocks given 0) (size_is ∙ of.two) first_block of.dots
          outer (subst D (sym mode_is) of.is) (fit (some_of of.is) (told_old told) marked) (nests of.is)
        where
          some_of : is_directory (new_inode chosen) ≡ true → IsOfSome (new_inode chosen)
          some_of is' = record {
            mode = λ none. let t = rw none at is' in cc;
            some_link = rw is' (omega arith);
          }

      pub filled_with : IsFilledWith new chosen given
      filled_with = record {
        node = node_is;
        named = at_new (λ layout. (outer : List (List ℕ)) → MayNest outer chosen → MayBeNamed (super_view layout) (parts_now new) outer chosen.directory chosen.choice.inode)
            (λ outer nests. ⊎_elim (λ of. inl (stands of (told_old told) marked)) (λ of. inr (of_directory outer nests of)) made);
        own = at_new (λ layout. (at : Pointer) (zone : ℕ) → PointsTo (super_view layout) (parts_now new) chosen.choice.inode at zone → (source : Source) × (zone_from (file_of chosen.choice) source ≡ zone)) own_is;
        clear = at_new (λ layout. IsClearOf (super_view layout) (parts_now new) chosen.choice.inode chosen.choice.growth) clear_is;
        is = at_new (λ layout. thing (super_view layout) (parts_now new) chosen.choice.inode ≡ thing_with chosen given) (thing_is few);
        lies = at_new (λ layout. (index : ℕ) → index < reach (kind_view layout.kind) → zone_number (super_view layout) (parts_now new) chosen.choice.inode index ≡ slice_index chosen.choice.blocks index) zone_is;
        blocks = block_written;
      }

  off_indirect : (d s : ℕ) → IsOffFile start chosen d s → fill.IsOffIndirect old (file_of chosen.choice) d s
  off_indirect d s off place some =
      let S : Span → Type 0 = λ span. IsOutside span.disk (span.start + zone_sector (slice_index chosen.choice.indirect place)) 2 d s in
      subst S (sym reserved.steps.kept.same_span) (off_indirect_of start chosen suits d s off place some)

  off_inode : (d s : ℕ) → IsOffFile start chosen d s → IsOther old.span.disk (old.span.start + (inode_place (super_view old.layout) chosen.choice.inode).sector) d s
  off_inode d s off =
      let S : Span → Type 0 = λ span. IsOther span.disk (span.start + (inode_place (super_view start.layout) chosen.choice.inode).sector) d s in
      let L : Super → Type 0 = λ layout. IsOther old.span.disk (old.span.start + (inode_place (super_view layout) chosen.choice.inode).sector) d s in
      subst L (sym reserved.steps.kept.same_layout) (subst S (sym reserved.steps.kept.same_span) off.inode)

  pub fill_done : (IsTold (past_of start) → IsFilledWith new chosen given) → IsFilled start new chosen given
  fill_done filled = record {
    quiet = reserved.quiet;
    free = reserved.free;
    steps = steps_join start old new (quiet_ready start reserved.quiet (λ told. (reserved.free told).sound)) reserved.steps fills.steps;
    marks = λ told.
        let was = reserved.marks told in
        let it = is told in
        let I : Super → Type 0 = λ layout. (number : ℕ) → number ≤ layout.inodes → (parts_now new).has_inode number ≡ (parts_now old).has_inode number in
        let Z : Super → Type 0 = λ layout. (zone : ℕ) → zone < layout.zones → (parts_now new).has_zone zone ≡ (parts_now old).has_zone zone in
        let inodes = subst I reserved.steps.kept.same_layout it.marks in
        let zones = subst Z reserved.steps.kept.same_layout it.zone_marks in
        let N : Super → Type 0 = λ layout. (other : ℕ) → 1 ≤ other → other ≤ layout.inodes → other ≢ chosen.choice.inode → (parts_now new).node other ≡ (parts_now old).node other in
        let nodes = subst N reserved.steps.kept.same_layout it.nodes in
        record {
          inodes = λ number low. inodes number low ∙ was.inodes number low;
          zones = λ zone range. zones zone range.1 ∙ was.zones zone range;
          nodes = λ number range other. nodes number range.0 range.1 other ∙ was.nodes number range other;
        };
    filled = filled;
    others = λ d s off. not_written_join (past_of start) (past_of old) (past_of new) d s (reserved.others d s off) (fills.others d s (off_indirect d s off) (off_inode d s off));
  }
