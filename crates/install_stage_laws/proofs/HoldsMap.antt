-- A map's places are still those of its file, where named files stay.
use Rattle.std.proofs.Common.{◌≡◌, ◌≢◌, ◌≤◌, ◌<◌, ◌⊎◌, inl, inr, ℕ, zero, suc, ◌+◌, ◌*◌, ◌/◌, ◌%◌, List, [], ◌∷◌, ◌++◌, map, length, drop, Option, None, Some, refl, sym, ap, ◌∙◌, arith, get_or}
use Rattle.std.specs.Prelude.{replicate}
use Rattle.std.specs.List.{range_with_len}
use Rattle.std.proofs.Math.Seq.{drop-append_seam}
use Rattle.std.proofs.lemmas.List.FromFn.{get_or-map-range_with_len, length-map-range_with_len, fill_by_all}
use Rattle.lilo_model.specs.Disks.{Image, Machine, DiskSector, bytes_at}
use Rattle.lilo_model.specs.Lays.{tail_place}
use Rattle.lilo_model.specs.MinixLayout.{Inode, zone_sector}
use Rattle.lilo_model.specs.MinixNames.{Named, Refers, zone_number, reached, IsSound}
use Rattle.lilo_model.specs.MinixParts.{Volume, sector_of, block_pointer, parts_of, is_file}
use Rattle.lilo_model.specs.NamePlaces.{with_tilde}
use Rattle.lilo_model.specs.Plan.{Plan, map_size}
use Rattle.lilo_model.specs.Planned.{sector_in_zone, inode_places}
use Rattle.lilo_model.specs.Section.{sectors_for}
use Rattle.minix_change_laws.proofs.Seen.{opened}
use Rattle.minix_change_laws.specs.Sees.{SameButLinks}
use Rattle.minix_change_laws.specs.Tree.{KeepsNamed}
use Rattle.map_laws.specs.MapLays.{HoldsMap}
use Rattle.install_stage_laws.specs.Committed.{HoldsMapStaysLaw}
use Rattle.install_stage_laws.proofs.Clear.{no-directory}
use Rattle.install_stage_laws.proofs.Files.{place_of, refers-block}
use Rattle.install_stage_laws.proofs.Sectors.{below-zones}

some-at : (places : List DiskSector) (index : ℕ) → index < length places → (place : DiskSector) × (get_or (map Some places) index None ≡ Some place)
some-at [] index below = absurd (omega (arith, below))
some-at (place ∷ places) zero below = (place, refl)
some-at (place ∷ places) (suc index) below = some-at places index (omega (arith, below))

length-some : (places : List DiskSector) → length (map Some places) ≡ length places
length-some [] = refl
length-some (place ∷ places) = ap suc (length-some places)

-- lists that are joined to as many bytes are the same where the whole is
same-tail : (a b other rest : List ℕ) → length a ≡ length other → a ++ b ≡ other ++ rest → b ≡ rest
same-tail a b other rest long same =
    sym (drop-append_seam a b) ∙ ap (λ n. drop n (a ++ b)) long ∙ ap (drop (length other)) same ∙ drop-append_seam other rest

module _ (volume : Volume) (old c : Image) (machine : Machine) (plan : Plan) (path : List (List ℕ)) (places : List DiskSector)
    (sound : IsSound volume old) (is-sound : IsSound volume c) (keeps : KeepsNamed volume.layout (parts_of volume old) (parts_of volume c))
    (h : HoldsMap old machine volume plan path places)
    (leads : (reached volume.layout (parts_of volume c) path ≡ Some h.holder) ⊎ (reached volume.layout (parts_of volume c) (with_tilde path) ≡ Some h.holder)) where
  named-by : (image : Image) → (reached volume.layout (parts_of volume image) path ≡ Some h.holder) ⊎ (reached volume.layout (parts_of volume image) (with_tilde path) ≡ Some h.holder)
      → Named volume.layout (parts_of volume image) h.holder
  named-by image (inl leads) = record { path = path; leads = leads }
  named-by image (inr leads) = record { path = with_tilde path; leads = leads }

  was : Named volume.layout (parts_of volume old) h.holder
  was = named-by old h.leads

  is-named : Named volume.layout (parts_of volume c) h.holder
  is-named = named-by c leads

  node-same : SameButLinks ((parts_of volume old).node h.holder) ((parts_of volume c).node h.holder)
  node-same = keeps.files h.holder was is-named (no-directory ((parts_of volume old).node h.holder).mode h.regular)

  size-same : ((parts_of volume c).node h.holder).size ≡ ((parts_of volume old).node h.holder).size
  size-same = ap (λ (i : Inode). i.size) node-same

  abbrev zone-at : Image → ℕ → ℕ
  zone-at image index = zone_number volume.layout (parts_of volume image) h.holder (index / 2)

  refers : (index : ℕ) → zone-at old index ≢ 0 → Refers volume.layout (parts_of volume old) h.holder (block_pointer volume.layout.kind (index / 2)) (zone-at old index)
  refers index some = refers-block volume old h.holder was h.regular index (zone-at old index) refl some

  -- a zone that is there stays
  zone-same : (index : ℕ) → zone-at old index ≢ 0 → zone-at c index ≡ zone-at old index
  unfolding zone_number
  zone-same index some = (keeps.stays h.holder (block_pointer volume.layout.kind (index / 2)) (zone-at old index) (refers index some) is-named).is

  abbrev count : ℕ
  count = sectors_for ((parts_of volume old).node h.holder).size

  abbrev held-at : Image → ℕ → Option DiskSector
  held-at image index = sector_in_zone volume.span (zone-at image index) index

  solid-list : map (held-at old) (range_with_len 0 count) ≡ map Some places
  unfolding inode_places
  solid-list = h.solid

  count-is : length places ≡ count
  count-is = sym (length-some places) ∙ ap length (sym solid-list) ∙ length-map-range_with_len (held-at old) 0 count

  list-at : (index : ℕ) → index < count → get_or (map Some places) index None ≡ held-at old index
  list-at index below = ap (λ held. get_or held index None) (sym solid-list) ∙ get_or-map-range_with_len (held-at old) 0 count index index None below (omega arith)

  -- so each block's is
  some-zone : (index : ℕ) → index < count → zone-at old index ≢ 0
  some-zone index below none =
      let found = some-at places index (omega (arith, below, count-is)) in
      let hole : held-at old index ≡ None = ap (λ zone. sector_in_zone volume.span zone index) none in
      let both : None ≡ Some found.0 = sym hole ∙ sym (list-at index below) ∙ found.1 in
      grind (arith, both)

  solid-still : inode_places volume (parts_of volume c) h.holder ≡ map Some places
  unfolding inode_places
  solid-still =
      ap (λ size. map (held-at c) (range_with_len 0 (sectors_for size))) size-same
      ∙ sym (fill_by_all (held-at c) (map Some places) count None (length-some places ∙ count-is)
      (λ index below. list-at index below ∙ ap (λ zone. sector_in_zone volume.span zone index) (sym (zone-same index (some-zone index below)))))

  -- the second half of a zone stays
  half-same : (index : ℕ) → zone-at old index ≢ 0 → sector_of volume c (zone_sector (zone-at old index) + 1) ≡ sector_of volume old (zone_sector (zone-at old index) + 1)
  unfolding parts_of
  half-same index some =
      let zone = zone-at old index in
      let range = (opened volume old sound).parts.zone_range h.holder (block_pointer volume.layout.kind (index / 2)) zone (refers index some) in
      let below = below-zones zone (zone_sector zone) volume.layout.zones (inl refl) range.1 in
      same-tail (sector_of volume c (zone_sector zone)) (sector_of volume c (zone_sector zone + 1)) (sector_of volume old (zone_sector zone)) (sector_of volume old (zone_sector zone + 1))
      ((opened volume c is-sound).whole (zone_sector zone) below ∙ sym ((opened volume old sound).whole (zone_sector zone) below))
      (keeps.bytes h.holder (block_pointer volume.layout.kind (index / 2)) zone (refers index some) is-named (no-directory ((parts_of volume old).node h.holder).mode h.regular))

  odd-still : map_size plan machine % 2 ≡ 1 → bytes_at c (tail_place volume c h.holder (map_size plan machine)) ≡ replicate 512 0
  odd-still odd =
      let sectors = map_size plan machine in
      let size = h.size_is in
      let many : sectors ≤ count = omega (arith, size) in
      let index = 2 * (sectors / 2) in
      let below : index < count = omega (arith, odd, many) in
      let back : index / 2 ≡ sectors / 2 = omega arith in
      let some = some-zone index below in
      let there : zone_number volume.layout (parts_of volume c) h.holder (sectors / 2) ≡ zone-at old index = ap (zone_number volume.layout (parts_of volume c) h.holder) (sym back) ∙ zone-same index some in
      let here : zone-at old index ≡ zone_number volume.layout (parts_of volume old) h.holder (sectors / 2) = ap (zone_number volume.layout (parts_of volume old) h.holder) back in
      ap (λ zone. bytes_at c (place_of volume (zone_sector zone + 1))) there
      ∙ half-same index some
      ∙ ap (λ zone. bytes_at old (place_of volume (zone_sector zone + 1))) here ∙ h.odd odd

  pub holds-stays : HoldsMap c machine volume plan path places
  holds-stays = record {
    holder = h.holder;
    leads = leads;
    regular = ap (λ (i : Inode). is_file i) node-same ∙ h.regular;
    solid = solid-still;
    size_is = size-same ∙ h.size_is;
    odd = odd-still;
  }

pub holds_map_stays_law : HoldsMapStaysLaw
holds_map_stays_law volume old c machine plan path places sound is-sound keeps h leads = holds-stays volume old c machine plan path places sound is-sound keeps h leads
