-- Where the sectors of a file lie that was made.
use Rattle.std.proofs.Common.{◌≡◌, ◌≢◌, ◌≤◌, ◌<◌, ◌+◌, ◌*◌, ◌/◌, ◌%◌, ◌||◌, ℕ, zero, suc, Bool, true, false, List, [], ◌∷◌, ◌++◌, length, take, map, Option, Some, Ok, refl, sym, ◌∙◌, ap, ⊎_elim, arith, length-append}
use Rattle.std.specs.Prelude.{slice_index}
use Rattle.std.specs.List.{range_with_len}
use Rattle.std.proofs.Math.Seq.{take-length}
use Rattle.std.proofs.lemmas.Bool.{cases_eq, cases_lt, ne_eqb, or_left, or_right}
use Rattle.std.proofs.lemmas.Simd.{map-map}
use Rattle.std.proofs.lemmas.List.FromFn.{map-range_with_len_more}
use Rattle.std.proofs.lemmas.List.{length-take-le}
use Rattle.disk_trait.specs.declared.disks.Disks.{Ghosts}
use Rattle.disk_trait.specs.Moments.{IsTold, now}
use Rattle.lilo_model.specs.Bytes.{part_of}
use Rattle.lilo_model.specs.Disks.{Image, Span, DiskSector}
use Rattle.lilo_model.specs.MinixLayout.{Super, reach}
use Rattle.lilo_model.specs.MinixNames.{File, Link, Directory, Other, zone_number, blocks, content, thing, Named, PointsTo}
use Rattle.lilo_model.specs.MinixParts as model
use Rattle.lilo_model.specs.MinixParts.{Parts, is_directory, is_file, is_link, has_zones, block_pointer, blocks_for, parts_of}
use Rattle.lilo_model.specs.Planned.{sector_in_zone, inode_places}
use Rattle.lilo_model.specs.Section.{sectors_for}
use Rattle.map_again_laws.proofs.Parts.{part-after, part-prefix}
use Rattle.minix_create.specs.Chosen.{Suits, IsFreeNow, sector_of, block_with, content_with, new_inode, thing_with}
use Rattle.minix_create.specs.Linked.{LiesAsChosen, HoldsGiven, Creates}
use Rattle.minix_create.specs.declared.chosen.Chosen.{Chosen}
use Rattle.minix_choice_laws.proofs.Given.{past_end}
use Rattle.minix_layout.specs.View.{kind_view, super_view}
use Rattle.minix_names.proofs.LinkLemmas.{length-content, whole-zones}
use Rattle.minix_change_laws.specs.Tree.{HasTreeWith}
use Rattle.minix_change_laws.proofs.Inode.{file-zones}
use Rattle.minix_change_laws.proofs.Seen.{opened}
use Rattle.minix_zones.specs.Volume.{volume_view, past_of}
use Rattle.minix_zones.specs.declared.volume.Volume.{Volume}
use Rattle.install_stage.specs.Sectors.{IsWholeFile, AreGiven, HasSectors, LieWhereChosen, file_places, IsFileThere, HasPlaces}

-- ---- parts of blocks

module _ (at : ℕ → List ℕ) where
  -- the first blocks are whole
  abbrev AreLong : ℕ → Type 0
  AreLong count = (index : ℕ) → index < count → length (at index) ≡ 1024

  length-blocks : (count : ℕ) → AreLong count → length (blocks at count) ≡ 1024 * count
  length-blocks zero long = refl
  length-blocks (suc count) long =
      let one = length-blocks count (λ index low. long index (omega (arith, low))) in
      let last = long count (omega arith) in
      length-append (blocks at count) (at count) ∙ omega (arith, one, last)

-- all of a sector
part-whole : (bytes : List ℕ) → length bytes ≡ 512 → part_of bytes 0 512 ≡ bytes
part-whole bytes long = ap (λ (n : ℕ). take n bytes) (sym long) ∙ take-length bytes

-- one half of two sectors
half-of-two : (first second : List ℕ) (half : ℕ) → length first ≡ 512 → length second ≡ 512 → half < 2
    → (at : ℕ → List ℕ) → at 0 ≡ first → at 1 ≡ second → part_of (first ++ second) (512 * half) 512 ≡ at half
half-of-two first second half one two low at low-is high-is = ⊎_elim
    (λ none. ap (λ (n : ℕ). part_of (first ++ second) (512 * n) 512) none ∙ part-prefix first second 512 one ∙ sym low-is ∙ ap at (sym none))
    (λ some.
    let is : half ≡ 1 = omega (arith, some, low) in
    ap (λ (n : ℕ). part_of (first ++ second) (512 * n) 512) is ∙ part-after first second 512 0 512 (sym one ∙ omega arith)
    ∙ part-whole second two ∙ sym high-is ∙ ap at (sym is))
    (cases_eq half 0)

-- ---- a file

-- what is a file of some bytes is a regular file with that content
file-by : (super : Super) (parts : Parts) (number : ℕ) (bytes : List ℕ) (file link directory : Bool)
    → is_file (parts.node number) ≡ file → is_link (parts.node number) ≡ link → is_directory (parts.node number) ≡ directory → thing super parts number ≡ File bytes
    → (is_file (parts.node number) ≡ true) × (content super parts number ≡ bytes)
unfolding thing
file-by super parts number bytes true link directory f l d same = let e : File (content super parts number) ≡ File bytes = rw f at same in (f, cc)
file-by super parts number bytes false true directory f l d same = let e : Link (content super parts number) ≡ File bytes = rw (f, l) at same in absurd (cc)
file-by super parts number bytes false false true f l d same = let e : Directory ≡ File bytes = rw (f, l, d) at same in absurd (cc)
file-by super parts number bytes false false false f l d same = let e : Other ≡ File bytes = rw (f, l, d) at same in absurd (cc)

zone-halves : (volume : model.Volume) (image : Image) (zone : ℕ) → (parts_of volume image).zone zone ≡ model.sector_of volume image (2 * zone) ++ model.sector_of volume image (2 * zone + 1)
unfolding parts_of
zone-halves volume image zone = refl

zone-pointed : (super : Super) (parts : Parts) (number index zone : ℕ) → PointsTo super parts number (block_pointer super.kind index) zone → zone_number super parts number index ≡ zone
unfolding zone_number
zone-pointed super parts number index zone to = to.is

-- where a sector of a zone lies
zone-place : (span : Span) (zone index : ℕ) → zone ≢ 0 → sector_in_zone span zone index ≡ Some (record { disk = span.disk; sector = span.start + (2 * zone + index % 2) })
zone-place span zone index some = rw (ne_eqb zone 0 some) refl

places-opened : (volume : model.Volume) (parts : Parts) (number : ℕ) → inode_places volume parts number
    ≡ map (λ index. sector_in_zone volume.span (zone_number volume.layout parts number (index / 2)) index) (range_with_len 0 (sectors_for (parts.node number).size))
unfolding inode_places
places-opened volume parts number = refl

-- the same first values
maps-same : (f g : ℕ → Option DiskSector) (count : ℕ) → ((index : ℕ) → index < count → f index ≡ g index) → map f (range_with_len 0 count) ≡ map g (range_with_len 0 count)
maps-same f g zero same = refl
maps-same f g (suc count) same =
    let next : suc count ≡ count + 1 = omega arith in
    ap (λ (n : ℕ). map f (range_with_len 0 n)) next ∙ map-range_with_len_more f 0 count count (omega arith)
    ∙ ap (λ (l : List (Option DiskSector)). l ++ (f count ∷ [])) (maps-same f g count (λ index low. same index (omega (arith, low))))
    ∙ ap (λ (o : Option DiskSector). map g (range_with_len 0 count) ++ (o ∷ [])) (same count (omega arith))
    ∙ sym (map-range_with_len_more g 0 count count (omega arith)) ∙ ap (λ (n : ℕ). map g (range_with_len 0 n)) (sym next)

module _ {D : Type 0} {disks : Ghosts D} (start volume : Volume D disks) (chosen : Chosen) (told : IsTold (past_of start)) (suits : Suits start.layout start.span chosen) (free : IsFreeNow start chosen)
    (outer : List (List ℕ)) (given : ℕ → List ℕ) (count : ℕ) (creates : Creates start volume outer chosen given (Ok tt)) (whole : IsWholeFile chosen count) (long : AreGiven chosen given) where
  abbrev View : model.Volume
  View = volume_view start

  abbrev Then : Image
  Then = now (past_of volume)

  abbrev New : Parts
  New = parts_of View Then

  abbrev Inode : ℕ
  Inode = chosen.choice.inode

  tree : HasTreeWith View (now (past_of start)) Then (chosen.name ∷ outer) (Some Inode) (Some (thing_with chosen given))
  tree = creates.leads.done told

  lies : LiesAsChosen (super_view start.layout) New chosen
  lies = creates.lies told

  holds : HoldsGiven (super_view start.layout) New chosen given
  holds = creates.holds told

  named : Named (super_view start.layout) New Inode
  named = record { path = chosen.name ∷ outer; leads = tree.tree.here }

  made-file : thing_with chosen given ≡ File (content_with chosen given)
  made-file = let file = whole.file in rw file refl

  is-made : thing (super_view start.layout) New Inode ≡ thing_with chosen given
  is-made = let some : Some (thing (super_view start.layout) New Inode) ≡ Some (thing_with chosen given) = tree.tree.is in cc

  file : (is_file (New.node Inode) ≡ true) × (content (super_view start.layout) New Inode ≡ content_with chosen given)
  file = file-by (super_view start.layout) New Inode (content_with chosen given) _ _ _ refl refl refl (is-made ∙ made-file)

  zones : has_zones (New.node Inode) ≡ true
  zones = file-zones New Inode file.0

  new-zones : has_zones (new_inode chosen) ≡ true
  new-zones =
      or_left (is_directory (new_inode chosen) || is_file (new_inode chosen)) (is_link (new_inode chosen))
      (or_right (is_directory (new_inode chosen)) (is_file (new_inode chosen)) whole.file)

  -- ---- how long it is

  block-given : (index : ℕ) → index < blocks_for chosen.length → block_with chosen.choice.blocks given index ≡ given index
  block-given index low = rw (ne_eqb (slice_index chosen.choice.blocks index) 0 (whole.each index low)) refl

  long-given : (index : ℕ) → index < blocks_for chosen.length → length (block_with chosen.choice.blocks given index) ≡ 1024
  long-given index low = ap length (block-given index low) ∙ long index low

  length-given : length (content_with chosen given) ≡ chosen.length
  length-given =
      let all = length-blocks (block_with chosen.choice.blocks given) (blocks_for chosen.length) long-given in
      length-take-le chosen.length (blocks (block_with chosen.choice.blocks given) (blocks_for chosen.length)) (omega (arith, all))

  size-is : (New.node Inode).size ≡ chosen.length
  size-is =
      sym (length-content (super_view start.layout) New (opened View Then tree.sound).parts (whole-zones View Then (opened View Then tree.sound)) Inode named zones)
      ∙ ap length file.1 ∙ length-given

  -- ---- where its blocks lie

  module _ (index : ℕ) (low : index < blocks_for chosen.length) where
    abbrev Zone : ℕ
    Zone = slice_index chosen.choice.blocks index

    in-reach : index < reach (kind_view start.layout.kind)
    in-reach = ⊎_elim
        (λ there. let few : length chosen.choice.blocks ≤ reach (kind_view start.layout.kind) = free.file.few in omega (arith, there, few))
        (λ past. absurd (whole.each index low (past_end chosen.choice.blocks index past)))
        (cases_lt index (length chosen.choice.blocks))

    points : PointsTo (super_view start.layout) New Inode (block_pointer (kind_view start.layout.kind) index) Zone
    points = lies new-zones index in-reach (whole.each index low)

    below : Zone < start.layout.zones
    below = ((opened View Then tree.sound).parts.zone_range Inode (block_pointer (kind_view start.layout.kind) index) Zone (record { named = named; to = points })).1

    low-long : length (model.sector_of View Then (2 * Zone)) ≡ 512
    low-long = (opened View Then tree.sound).whole (2 * Zone) (omega (arith, below))

    high-long : length (model.sector_of View Then (2 * Zone + 1)) ≡ 512
    high-long = (opened View Then tree.sound).whole (2 * Zone + 1) (omega (arith, below))

    half-is : (half : ℕ) → half < 2 → part_of (given index) (512 * half) 512 ≡ model.sector_of View Then (2 * Zone + half)
    half-is half few =
        let even : 2 * Zone + 0 ≡ 2 * Zone = omega arith in
        ap (λ (bytes : List ℕ). part_of bytes (512 * half) 512) (sym (holds new-zones index in-reach (whole.each index low)) ∙ zone-halves View Then Zone)
        ∙ half-of-two (model.sector_of View Then (2 * Zone)) (model.sector_of View Then (2 * Zone + 1)) half low-long high-long few
        (λ (n : ℕ). model.sector_of View Then (2 * Zone + n)) (ap (λ (n : ℕ). model.sector_of View Then n) even) refl

  -- ---- its sectors

  place-of : (index : ℕ) → sector_of chosen index ≡ start.span.start + (2 * slice_index chosen.choice.blocks (index / 2) + index % 2)
  place-of index = let begins = suits.begins in omega (arith, begins)

  in-blocks : (index : ℕ) → index < count → index / 2 < blocks_for chosen.length
  in-blocks index low = let size = whole.size in omega (arith, size, low)

  -- where the sectors of the inode lie
  place-is : (index : ℕ) → index < count → sector_in_zone View.span (zone_number (super_view start.layout) New Inode (index / 2)) index ≡ Some (record { disk = start.span.disk; sector = sector_of chosen index })
  place-is index low =
      ap (λ (zone : ℕ). sector_in_zone View.span zone index) (zone-pointed (super_view start.layout) New Inode (index / 2) _ (points (index / 2) (in-blocks index low)))
      ∙ zone-place View.span (slice_index chosen.choice.blocks (index / 2)) index (whole.each (index / 2) (in-blocks index low))
      ∙ ap (λ (n : ℕ). Some (record { disk = start.span.disk; sector = n })) (sym (place-of index))

  abbrev Place : ℕ → DiskSector
  Place index = record { disk = start.span.disk; sector = sector_of chosen index }

  places-are : inode_places View New Inode ≡ map Some (file_places chosen start.span.disk count)
  places-are =
      places-opened View New Inode
      ∙ ap (λ (n : ℕ). map (λ index. sector_in_zone View.span (zone_number (super_view start.layout) New Inode (index / 2)) index) (range_with_len 0 n)) size-count
      ∙ maps-same (λ index. sector_in_zone View.span (zone_number (super_view start.layout) New Inode (index / 2)) index) (λ index. Some (Place index)) count place-is
      ∙ sym (map-map Some Place (range_with_len 0 count))
    where
      size-count : sectors_for (New.node Inode).size ≡ count
      size-count = let size = whole.size in omega (arith, size-is, size)

  pub has_places : IsFileThere View Then chosen count
  has_places = record { file = file.0; size = size-is; places = places-are }

  pub has_sectors : HasSectors Then start.span.disk chosen given (2 * blocks_for chosen.length)
  has_sectors index low =
      ap (Then start.span.disk) (place-of index) ∙ sym (half-is (index / 2) (omega (arith, low)) (index % 2) (omega arith))

pub lie_where_chosen : {D : Type 0} {disks : Ghosts D} (start volume : Volume D disks) (chosen : Chosen) → IsTold (past_of start) → Suits start.layout start.span chosen → IsFreeNow start chosen → LieWhereChosen start volume chosen
lie_where_chosen start volume chosen told suits free outer given count creates whole long = has_sectors start volume chosen told suits free outer given count creates whole long

pub lie_in_order : {D : Type 0} {disks : Ghosts D} (start volume : Volume D disks) (chosen : Chosen) → IsTold (past_of start) → Suits start.layout start.span chosen → IsFreeNow start chosen → HasPlaces start volume chosen
lie_in_order start volume chosen told suits free outer given count creates whole long = has_places start volume chosen told suits free outer given count creates whole long
