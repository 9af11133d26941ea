-- What one bitmap bit changes of the parts of a volume.
use Rattle.std.proofs.Common.{◌≡◌, ◌≢◌, ◌≤◌, ◌<◌, ◌+◌, ◌*◌, ◌/◌, ◌%◌, ◌++◌, ℕ, Bool, false, List, length, refl, ap, ap₂, sym, ◌∙◌, arith, ⊎_elim}
use Rattle.std.proofs.lemmas.Bool.{cases_eq}
use Rattle.std.proofs.lemmas.Bool.Decides.{nat_tests}
use Rattle.disk_trait.proofs.MomentLemmas.{here, here_is, with_same, with_other}
use Rattle.lilo_model.specs.Bytes.{part_of}
use Rattle.lilo_model.specs.Disks.{Image}
use Rattle.lilo_model.specs.MinixLayout.{Super, IsSuper, inode_of, inode_place, inode_size, table_start}
use Rattle.lilo_model.specs.MinixParts.{Volume, sector_of, bit, parts_of, inode_mark_sector, zone_bit, zone_mark_sector, with_bit}
use Rattle.minix_steps.specs.BitLaws.{with_mark, OneZoneMark, OneInodeMark}
use Rattle.minix_steps.proofs.BitLemmas.{bit_here, bit_elsewhere}
use Rattle.minix_steps.proofs.BitmapLemmas.{Fits, fits}

module _ (volume : Volume) (image : Image) (sector at : ℕ) (value : Bool) (long : length (sector_of volume image sector) ≡ 512) (within : at < 4096) where
  new : Image
  new = with_mark volume image sector at value

  bytes : List ℕ
  bytes = with_bit (sector_of volume image sector) at value

  mark_same : sector_of volume new sector ≡ bytes
  unfolding new bytes
  mark_same = with_same image volume.span.disk (volume.span.start + sector) (with_bit (sector_of volume image sector) at value) volume.span.disk (volume.span.start + sector)
      (here_is volume.span.disk (volume.span.start + sector) volume.span.disk (volume.span.start + sector) refl refl)

  not_here : (other : ℕ) → other ≢ sector → here volume.span.disk (volume.span.start + sector) volume.span.disk (volume.span.start + other) ≡ false
  not_here other apart =
      let differ : volume.span.start + sector ≢ volume.span.start + other = λ same. apart (omega arith) in
      grind (arith, nat_tests)

  mark_other : (other : ℕ) → other ≢ sector → sector_of volume new other ≡ sector_of volume image other
  unfolding new
  mark_other other apart = with_other image volume.span.disk (volume.span.start + sector) (with_bit (sector_of volume image sector) at value) volume.span.disk (volume.span.start + other) (not_here other apart)

  -- the bit itself
  at_bit : bit (sector_of volume new sector) at ≡ value
  unfolding bytes
  at_bit = ap (λ (held : List ℕ). bit held at) mark_same ∙ bit_here (sector_of volume image sector) at value (omega (arith, long, within))

  -- another bit of the sector
  beside_bit : (k : ℕ) → k ≢ at → bit (sector_of volume new sector) k ≡ bit (sector_of volume image sector) k
  unfolding bytes
  beside_bit k apart = ap (λ (held : List ℕ). bit held k) mark_same ∙ bit_elsewhere (sector_of volume image sector) at k value (omega (arith, long, within)) apart

  -- an inode and the bytes of a zone that aren't in the sector
  node_same : (inode : ℕ) → (inode_place volume.layout inode).sector ≢ sector → (parts_of volume new).node inode ≡ (parts_of volume image).node inode
  unfolding parts_of
  node_same inode apart =
      let place = inode_place volume.layout inode in
      ap (λ (held : List ℕ). inode_of volume.layout.kind (part_of held place.at (inode_size volume.layout.kind))) (mark_other place.sector apart)

  zone_same : (zone : ℕ) → 2 * zone ≢ sector → 2 * zone + 1 ≢ sector → (parts_of volume new).zone zone ≡ (parts_of volume image).zone zone
  unfolding parts_of
  zone_same zone one two = ap₂ (λ (x y : List ℕ). x ++ y) (mark_other (2 * zone) one) (mark_other (2 * zone + 1) two)

  has_inode_same : (inode : ℕ) → inode_mark_sector inode ≢ sector → (parts_of volume new).has_inode inode ≡ (parts_of volume image).has_inode inode
  unfolding parts_of
  has_inode_same inode apart = ap (λ (held : List ℕ). bit held (inode % 4096)) (mark_other (inode_mark_sector inode) apart)

  has_zone_same : (zone : ℕ) → zone_mark_sector volume.layout zone ≢ sector → (parts_of volume new).has_zone zone ≡ (parts_of volume image).has_zone zone
  unfolding parts_of
  has_zone_same zone apart = ap (λ (held : List ℕ). bit held (zone_bit volume.layout zone % 4096)) (mark_other (zone_mark_sector volume.layout zone) apart)

  has_inode_beside : (inode : ℕ) → inode_mark_sector inode ≡ sector → inode % 4096 ≢ at → (parts_of volume new).has_inode inode ≡ (parts_of volume image).has_inode inode
  unfolding parts_of
  has_inode_beside inode same apart =
      ap (λ (s : ℕ). bit (sector_of volume new s) (inode % 4096)) same ∙ beside_bit (inode % 4096) apart ∙ sym (ap (λ (s : ℕ). bit (sector_of volume image s) (inode % 4096)) same)

  has_zone_beside : (zone : ℕ) → zone_mark_sector volume.layout zone ≡ sector → zone_bit volume.layout zone % 4096 ≢ at → (parts_of volume new).has_zone zone ≡ (parts_of volume image).has_zone zone
  unfolding parts_of
  has_zone_beside zone same apart =
      ap (λ (s : ℕ). bit (sector_of volume new s) (zone_bit volume.layout zone % 4096)) same ∙ beside_bit (zone_bit volume.layout zone % 4096) apart
      ∙ sym (ap (λ (s : ℕ). bit (sector_of volume image s) (zone_bit volume.layout zone % 4096)) same)

-- the table of inodes begins after the bitmaps
table_behind : (super : Super) (inode : ℕ) → 2 * table_start super ≤ (inode_place super inode).sector
unfolding inode_place
table_behind super inode = omega arith

module _ (volume : Volume) (image : Image) (zone : ℕ) (value : Bool) (is : IsSuper volume.layout volume.span.count)
    (from : volume.layout.first ≤ zone) (below : zone < volume.layout.zones)
    (long : length (sector_of volume image (zone_mark_sector volume.layout zone)) ≡ 512) where
  abbrev sector : ℕ
  sector = zone_mark_sector volume.layout zone

  abbrev at : ℕ
  at = zone_bit volume.layout zone % 4096

  known : Fits volume.layout volume.span.count
  known = fits volume.layout volume.span.count is.passes

  within : at < 4096
  within = omega arith

  zone_here : (parts_of volume (with_mark volume image sector at value)).has_zone zone ≡ value
  unfolding parts_of new
  zone_here = at_bit volume image sector at value long within

  zone_other : (other : ℕ) → volume.layout.first ≤ other → other ≢ zone
      → (parts_of volume (with_mark volume image sector at value)).has_zone other ≡ (parts_of volume image).has_zone other
  unfolding new
  zone_other other low apart = ⊎_elim
      (λ same.
      let one : zone_mark_sector volume.layout other ≡ sector = omega arith in
      let differ : zone_bit volume.layout other % 4096 ≢ at = λ equal. apart (omega arith) in
      has_zone_beside volume image sector at value long within other one differ)
      (λ differ.
      let two : zone_mark_sector volume.layout other ≢ sector = λ equal. differ (omega arith) in
      has_zone_same volume image sector at value long within other two)
      (cases_eq (zone_bit volume.layout other / 4096) (zone_bit volume.layout zone / 4096))

  pub one_zone_mark : OneZoneMark volume (parts_of volume image) (parts_of volume (with_mark volume image sector at value)) zone value
  unfolding new
  one_zone_mark =
      let k = known in
      let start : 2 * table_start volume.layout ≤ 2 * volume.layout.first = omega (arith, k.behind) in
      let before : sector < 2 * table_start volume.layout = omega (arith, k.zmap_fits, from, below) in
      record {
        here = zone_here;
        other_zones = λ other low high apart. zone_other other low apart;
        inodes = λ inode there.
            let apart : inode_mark_sector inode ≢ sector = λ same. absurd (omega (arith, k.imap_fits, there, same)) in
            has_inode_same volume image sector at value long within inode apart;
        nodes = λ inode.
            let behind = table_behind volume.layout inode in
            let apart : (inode_place volume.layout inode).sector ≢ sector = λ same. absurd (omega (arith, behind, same, before)) in
            node_same volume image sector at value long within inode apart;
        bytes = λ other low.
            let one : 2 * other ≢ sector = λ same. absurd (omega (arith, start, low, same, before)) in
            let two : 2 * other + 1 ≢ sector = λ same. absurd (omega (arith, start, low, same, before)) in
            zone_same volume image sector at value long within other one two;
      }

module _ (volume : Volume) (image : Image) (inode : ℕ) (value : Bool) (is : IsSuper volume.layout volume.span.count)
    (there : inode ≤ volume.layout.inodes)
    (long : length (sector_of volume image (inode_mark_sector inode)) ≡ 512) where
  abbrev mark_sector : ℕ
  mark_sector = inode_mark_sector inode

  abbrev mark_bit : ℕ
  mark_bit = inode % 4096

  passed_checks : Fits volume.layout volume.span.count
  passed_checks = fits volume.layout volume.span.count is.passes

  bit_within : mark_bit < 4096
  bit_within = omega arith

  inode_here : (parts_of volume (with_mark volume image mark_sector mark_bit value)).has_inode inode ≡ value
  unfolding parts_of new
  inode_here = at_bit volume image mark_sector mark_bit value long bit_within

  inode_other : (other : ℕ) → other ≢ inode
      → (parts_of volume (with_mark volume image mark_sector mark_bit value)).has_inode other ≡ (parts_of volume image).has_inode other
  unfolding new
  inode_other other apart = ⊎_elim
      (λ same.
      let one : inode_mark_sector other ≡ mark_sector = omega arith in
      let differ : other % 4096 ≢ mark_bit = λ equal. apart (omega arith) in
      has_inode_beside volume image mark_sector mark_bit value long bit_within other one differ)
      (λ differ.
      let two : inode_mark_sector other ≢ mark_sector = λ equal. differ (omega arith) in
      has_inode_same volume image mark_sector mark_bit value long bit_within other two)
      (cases_eq (other / 4096) (inode / 4096))

  pub one_inode_mark : OneInodeMark volume (parts_of volume image) (parts_of volume (with_mark volume image mark_sector mark_bit value)) inode value
  unfolding new
  one_inode_mark =
      let k = passed_checks in
      let start : 2 * table_start volume.layout ≤ 2 * volume.layout.first = omega (arith, k.behind) in
      let before : mark_sector < 4 + 2 * volume.layout.imap = omega (arith, k.imap_fits, there) in
      record {
        here = inode_here;
        other_inodes = λ other high apart. inode_other other apart;
        zones = λ zone low.
            let apart : zone_mark_sector volume.layout zone ≢ mark_sector = λ same. absurd (omega (arith, before, same)) in
            has_zone_same volume image mark_sector mark_bit value long bit_within zone apart;
        nodes = λ other.
            let behind = table_behind volume.layout other in
            let apart : (inode_place volume.layout other).sector ≢ mark_sector = λ same. absurd (omega (arith, behind, same, before)) in
            node_same volume image mark_sector mark_bit value long bit_within other apart;
        bytes = λ zone low.
            let one : 2 * zone ≢ mark_sector = λ same. absurd (omega (arith, start, low, same, before)) in
            let two : 2 * zone + 1 ≢ mark_sector = λ same. absurd (omega (arith, start, low, same, before)) in
            zone_same volume image mark_sector mark_bit value long bit_within zone one two;
      }
