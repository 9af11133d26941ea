-- What one sector with other bytes changes of the parts of a volume.
use Rattle.disk_trait.specs.Range.{IsOutside}
use Rattle.std.proofs.Common.{lit<, ◌≡◌, ◌≢◌, ◌≤◌, ◌<◌, ◌+◌, ◌*◌, ◌-◌, ◌/◌, ◌%◌, ◌++◌, ◌⊎◌, ℕ, Bool, true, false, List, length, take, drop, Ok, refl, ap, ap₂, sym, ◌∙◌, subst, arith, ⊎_elim, inl, inr, length-drop}
use Rattle.std.proofs.lemmas.Bool.{cases_eq, cases_lt}
use Rattle.std.proofs.lemmas.Bool.Decides.{nat_tests}
use Rattle.std.proofs.lemmas.List.{take-append-drop, take_all, length-take-le}
use Rattle.std.proofs.Math.Seq.{drop-append_seam, take-append_seam}
use Rattle.disk_trait.proofs.MomentLemmas.{here, here_is, with_same, with_other}
use Rattle.lilo_model.specs.Bytes.{part_of, with_part}
use Rattle.lilo_model.specs.Disks.{Image}
use Rattle.lilo_model.specs.MinixLayout.{Kind, V1Short, V1Long, V2Short, V2Long, Super, Inode, IsSuper, is_size, inode_of, inode_at, inode_bytes, inode_place, inode_size, kept_inode, zone_sector}
use Rattle.lilo_model.specs.MinixParts.{Volume, sector_of, bit, parts_of, inode_mark_sector, zone_bit, zone_mark_sector}
use Rattle.minix_layout.proofs.Reading.{inode_law}
use Rattle.minix_steps.specs.StepLaws.{OneZone, ZoneBytesLaw, OneInode, InodeBytesLaw, KeptInodeLaw}
use Rattle.minix_steps.specs.Written.{with_sector_of, with_zone, IsPartOfZone, with_inode}
use Rattle.minix_steps.proofs.RegionLemmas.{mark_in, zone_mark_in, lies}
use Rattle.minix_change_laws.proofs.Laid.{place-from, place-below}
use Rattle.minix_change_laws.proofs.Replaced.{part-other}

module _ (volume : Volume) (image : Image) (sector : ℕ) (bytes : List ℕ) where
  abbrev written : Image
  written = with_sector_of volume image sector bytes

  pub at_sector : sector_of volume written sector ≡ bytes
  at_sector = with_same image volume.span.disk (volume.span.start + sector) bytes volume.span.disk (volume.span.start + sector)
      (here_is volume.span.disk (volume.span.start + sector) volume.span.disk (volume.span.start + sector) refl refl)

  not_here : (other : ℕ) → other ≢ sector → here volume.span.disk (volume.span.start + sector) volume.span.disk (volume.span.start + other) ≡ false
  not_here other apart =
      let differ : volume.span.start + sector ≢ volume.span.start + other = λ same. apart (omega arith) in
      grind (arith, nat_tests)

  pub other_sector : (other : ℕ) → other ≢ sector → sector_of volume written other ≡ sector_of volume image other
  other_sector other apart = with_other image volume.span.disk (volume.span.start + sector) bytes volume.span.disk (volume.span.start + other) (not_here other apart)

  -- the parts that aren't in the sector

  pub node_same : (number : ℕ) → (inode_place volume.layout number).sector ≢ sector → (parts_of volume written).node number ≡ (parts_of volume image).node number
  unfolding parts_of
  node_same number apart =
      let place = inode_place volume.layout number in
      ap (λ (held : List ℕ). inode_of volume.layout.kind (part_of held place.at (inode_size volume.layout.kind))) (other_sector place.sector apart)

  pub zone_same : (zone : ℕ) → zone_sector zone ≢ sector → zone_sector zone + 1 ≢ sector → (parts_of volume written).zone zone ≡ (parts_of volume image).zone zone
  unfolding parts_of
  zone_same zone one two = ap₂ (λ (x y : List ℕ). x ++ y) (other_sector (zone_sector zone) one) (other_sector (zone_sector zone + 1) two)

  pub mark_same : (number : ℕ) → inode_mark_sector number ≢ sector → (parts_of volume written).has_inode number ≡ (parts_of volume image).has_inode number
  unfolding parts_of
  mark_same number apart = ap (λ (held : List ℕ). bit held (number % 4096)) (other_sector (inode_mark_sector number) apart)

  pub zone_mark_same : (zone : ℕ) → zone_mark_sector volume.layout zone ≢ sector → (parts_of volume written).has_zone zone ≡ (parts_of volume image).has_zone zone
  unfolding parts_of
  zone_mark_same zone apart = ap (λ (held : List ℕ). bit held (zone_bit volume.layout zone % 4096)) (other_sector (zone_mark_sector volume.layout zone) apart)

-- ---- a zone

joined : (bytes : List ℕ) → length bytes ≡ 1024 → part_of bytes 0 512 ++ part_of bytes 512 512 ≡ bytes
joined bytes long =
    let rest : length (drop 512 bytes) ≤ 512 = omega (arith, long, length-drop 512 bytes) in
    ap (λ (back : List ℕ). take 512 bytes ++ back) (take_all 512 (drop 512 bytes) rest) ∙ take-append-drop 512 bytes

module _ (volume : Volume) (image : Image) (zone : ℕ) (bytes : List ℕ) (is : IsSuper volume.layout volume.span.count)
    (from : volume.layout.first ≤ zone) (long : length bytes ≡ 1024) where
  abbrev front : List ℕ
  front = part_of bytes 0 512

  abbrev back : List ℕ
  back = part_of bytes 512 512

  abbrev half_way : Image
  half_way = with_sector_of volume image (zone_sector zone) front

  zone_here : (parts_of volume (with_zone volume image zone bytes)).zone zone ≡ bytes
  unfolding parts_of
  zone_here =
      let apart : zone_sector zone ≢ zone_sector zone + 1 = λ same. omega (arith, same) in
      ap₂ (λ (x y : List ℕ). x ++ y)
      (other_sector volume half_way (zone_sector zone + 1) back (zone_sector zone) apart ∙ at_sector volume image (zone_sector zone) front)
      (at_sector volume half_way (zone_sector zone + 1) back)
      ∙ joined bytes long

  pub one_zone : OneZone volume (parts_of volume image) (parts_of volume (with_zone volume image zone bytes)) zone bytes
  one_zone =
      let lie = lies volume.layout volume.span.count is in
      let first = lie.table in
      record {
        here = zone_here;
        others = λ other apart.
            let a : zone_sector other ≢ zone_sector zone = λ same. apart (omega (arith, same)) in
            let b : zone_sector other + 1 ≢ zone_sector zone = λ same. omega (arith, same) in
            let c : zone_sector other ≢ zone_sector zone + 1 = λ same. omega (arith, same) in
            let d : zone_sector other + 1 ≢ zone_sector zone + 1 = λ same. apart (omega (arith, same)) in
            zone_same volume half_way (zone_sector zone + 1) back other c d ∙ zone_same volume image (zone_sector zone) front other a b;
        nodes = λ number some there.
            let low = place-below volume.layout lie number some there in
            let a : (inode_place volume.layout number).sector ≢ zone_sector zone = λ same. omega (arith, low, same, from) in
            let b : (inode_place volume.layout number).sector ≢ zone_sector zone + 1 = λ same. omega (arith, low, same, from) in
            node_same volume half_way (zone_sector zone + 1) back number b ∙ node_same volume image (zone_sector zone) front number a;
        marks = λ number there.
            let low = (mark_in volume.layout volume.span.count is number there).1 in
            let a : inode_mark_sector number ≢ zone_sector zone = λ same. omega (arith, low, same, from, first) in
            let b : inode_mark_sector number ≢ zone_sector zone + 1 = λ same. omega (arith, low, same, from, first) in
            mark_same volume half_way (zone_sector zone + 1) back number b ∙ mark_same volume image (zone_sector zone) front number a;
        zone_marks = λ other below.
            let low = (zone_mark_in volume.layout volume.span.count is other below).1 in
            let a : zone_mark_sector volume.layout other ≢ zone_sector zone = λ same. omega (arith, low, same, from, first) in
            let b : zone_mark_sector volume.layout other ≢ zone_sector zone + 1 = λ same. omega (arith, low, same, from, first) in
            zone_mark_same volume half_way (zone_sector zone + 1) back other b ∙ zone_mark_same volume image (zone_sector zone) front other a;
      }

pub zone_bytes_law : ZoneBytesLaw
zone_bytes_law volume image zone bytes is from long = one_zone volume image zone bytes is from long

-- ---- a part of a zone

part_none : (volume : Volume) (image : Image) (zone : ℕ) (bytes : List ℕ) → IsPartOfZone volume image image zone bytes
part_none volume image zone bytes = record { front = inr refl; back = inr refl; others = λ d s out. refl }

-- neither sector of a zone is one outside it
outside_zone : (disk start d s at : ℕ) → at < 2 → IsOutside disk start 2 d s → here disk (start + at) d s ≡ false
outside_zone disk start d s at low (inl apart) = let differ : disk ≢ d = λ same. apart (sym same) in grind (arith, nat_tests)
outside_zone disk start d s at low (inr (inl before)) = grind (arith, nat_tests)
outside_zone disk start d s at low (inr (inr behind)) = grind (arith, nat_tests)

module _ (volume : Volume) (image : Image) (zone : ℕ) (bytes : List ℕ) where
  abbrev Part : Image → Type 0
  Part new = IsPartOfZone volume image new zone bytes

  apart_front : zone_sector zone ≢ zone_sector zone + 1
  apart_front same = omega (arith, same)

  apart_back : zone_sector zone + 1 ≢ zone_sector zone
  apart_back same = omega (arith, same)

  with_front : Part (with_sector_of volume image (zone_sector zone) (part_of bytes 0 512))
  with_front = record {
    front = inl (at_sector volume image (zone_sector zone) (part_of bytes 0 512));
    back = inr (other_sector volume image (zone_sector zone) (part_of bytes 0 512) (zone_sector zone + 1) apart_back);
    others = λ d s out.
        let P : ℕ → Type 0 = λ n. here volume.span.disk n d s ≡ false in
        let off : here volume.span.disk (volume.span.start + zone_sector zone) d s ≡ false =
        subst P (omega arith) (outside_zone volume.span.disk (volume.span.start + zone_sector zone) d s 0 (lit< tt) out) in
        with_other image volume.span.disk (volume.span.start + zone_sector zone) (part_of bytes 0 512) d s off;
  }

  with_back : (mid : Image) → Part mid → Part (with_sector_of volume mid (zone_sector zone + 1) (part_of bytes 512 512))
  with_back mid part = record {
    front =
        let P : List ℕ → Type 0 = λ held. (held ≡ part_of bytes 0 512) ⊎ (held ≡ sector_of volume image (zone_sector zone)) in
        subst P (sym (other_sector volume mid (zone_sector zone + 1) (part_of bytes 512 512) (zone_sector zone) apart_front)) part.front;
    back = inl (at_sector volume mid (zone_sector zone + 1) (part_of bytes 512 512));
    others = λ d s out.
        let P : ℕ → Type 0 = λ n. here volume.span.disk n d s ≡ false in
        let off : here volume.span.disk (volume.span.start + (zone_sector zone + 1)) d s ≡ false =
        subst P (omega arith) (outside_zone volume.span.disk (volume.span.start + zone_sector zone) d s 1 (lit< tt) out) in
        with_other mid volume.span.disk (volume.span.start + (zone_sector zone + 1)) (part_of bytes 512 512) d s off ∙ part.others d s out;
  }

  pub front_made : (mid : Image) → (mid ≡ with_sector_of volume image (zone_sector zone) (part_of bytes 0 512)) ⊎ (mid ≡ image) → Part mid
  front_made mid (inl is) = subst Part (sym is) with_front
  front_made mid (inr is) = subst Part (sym is) (part_none volume image zone bytes)

  pub back_made : (mid new : Image) → Part mid → (new ≡ with_sector_of volume mid (zone_sector zone + 1) (part_of bytes 512 512)) ⊎ (new ≡ mid) → Part new
  back_made mid new part (inl is) = subst Part (sym is) (with_back mid part)
  back_made mid new part (inr is) = subst Part (sym is) part

-- ---- an inode

-- where the inode with a number begins in its sector, and that sector in the table
abbrev offset : Kind → ℕ → ℕ
offset kind number = (number - 1) * inode_size kind % 512

abbrev row : Kind → ℕ → ℕ
row kind number = (number - 1) * inode_size kind / 512

offset_fits : (kind : Kind) (number : ℕ) → offset kind number + inode_size kind ≤ 512
offset_fits V1Short number = omega arith
offset_fits V1Long number = omega arith
offset_fits V2Short number = omega arith
offset_fits V2Long number = omega arith

-- an inode in the same sector comes after one with a lower number
offset_before : (kind : Kind) (number other : ℕ) → 1 ≤ number → number < other → row kind number ≡ row kind other → offset kind number + inode_size kind ≤ offset kind other
offset_before V1Short number other some below same = omega arith
offset_before V1Long number other some below same = omega arith
offset_before V2Short number other some below same = omega arith
offset_before V2Long number other some below same = omega arith

offsets_apart : (kind : Kind) (number other : ℕ) → 1 ≤ number → 1 ≤ other → number ≢ other → row kind number ≡ row kind other
    → (offset kind number + inode_size kind ≤ offset kind other) ⊎ (offset kind other + inode_size kind ≤ offset kind number)
offsets_apart kind number other some some' apart same = ⊎_elim
    (λ below. inl (offset_before kind number other some below same))
    (λ above. inr (offset_before kind other number some' (omega (arith, above, apart)) (sym same)))
    (cases_lt number other)

place_row : (super : Super) (number other : ℕ) → (inode_place super number).sector ≡ (inode_place super other).sector → row super.kind number ≡ row super.kind other
unfolding inode_place
place_row super number other is = omega (arith, is)

place_offset : (super : Super) (number : ℕ) → (inode_place super number).at ≡ offset super.kind number
unfolding inode_place
place_offset super number = refl

-- the part that was replaced
part_here : (bytes : List ℕ) (at : ℕ) (new : List ℕ) → at + length new ≤ length bytes → part_of (with_part bytes at new) at (length new) ≡ new
part_here bytes at new fits =
    let start : length (take at bytes) ≡ at = length-take-le at bytes (omega (arith, fits)) in
    let rest : List ℕ = new ++ drop (length new) (drop at bytes) in
    let P : ℕ → Type 0 = λ n. drop n (take at bytes ++ rest) ≡ rest in
    ap (take (length new)) (subst P start (drop-append_seam (take at bytes) rest)) ∙ take-append_seam new (drop (length new) (drop at bytes))

module _ (volume : Volume) (image : Image) (number : ℕ) (part : List ℕ) (is : IsSuper volume.layout volume.span.count)
    (some : 1 ≤ number) (there : number ≤ volume.layout.inodes) (size : length part ≡ inode_size volume.layout.kind)
    (long : length (sector_of volume image (inode_place volume.layout number).sector) ≡ 512) where
  abbrev sector : ℕ
  sector = (inode_place volume.layout number).sector

  abbrev at : ℕ
  at = (inode_place volume.layout number).at

  abbrev bytes : List ℕ
  bytes = with_inode volume image number part

  pub fits : at + length part ≤ length (sector_of volume image sector)
  fits = omega (arith, place_offset volume.layout number, offset_fits volume.layout.kind number, size, long)

  inode_here : (parts_of volume (with_sector_of volume image sector bytes)).node number ≡ inode_of volume.layout.kind part
  unfolding parts_of
  inode_here =
      let P : ℕ → Type 0 = λ n. part_of bytes at n ≡ part in
      ap (λ (held : List ℕ). inode_of volume.layout.kind (part_of held at (inode_size volume.layout.kind))) (at_sector volume image sector bytes)
      ∙ ap (inode_of volume.layout.kind) (subst P size (part_here (sector_of volume image sector) at part fits))

  -- a neighbour in the same sector
  neighbour : (other : ℕ) → 1 ≤ other → other ≢ number → (inode_place volume.layout other).sector ≡ sector
      → (parts_of volume (with_sector_of volume image sector bytes)).node other ≡ (parts_of volume image).node other
  unfolding parts_of
  neighbour other low apart same =
      let there_at : ℕ = (inode_place volume.layout other).at in
      let held : sector_of volume (with_sector_of volume image sector bytes) (inode_place volume.layout other).sector ≡ bytes =
      ap (sector_of volume (with_sector_of volume image sector bytes)) same ∙ at_sector volume image sector bytes in
      let before : sector_of volume image (inode_place volume.layout other).sector ≡ sector_of volume image sector = ap (sector_of volume image) same in
      let stays = part-other (sector_of volume image sector) at part fits there_at (inode_size volume.layout.kind)
      (omega (arith, place_offset volume.layout other, offset_fits volume.layout.kind other, long))
      (stands (offsets_apart volume.layout.kind other number low some apart (place_row volume.layout other number same))) in
      let node : List ℕ → Inode = λ whole. inode_of volume.layout.kind (part_of whole there_at (inode_size volume.layout.kind)) in
      ap node held ∙ (ap (inode_of volume.layout.kind) stays ∙ ap node (sym before))
    where
      stands : (offset volume.layout.kind other + inode_size volume.layout.kind ≤ offset volume.layout.kind number) ⊎ (offset volume.layout.kind number + inode_size volume.layout.kind ≤ offset volume.layout.kind other)
          → ((inode_place volume.layout other).at + inode_size volume.layout.kind ≤ at) ⊎ (at + length part ≤ (inode_place volume.layout other).at)
      stands (inl before) = inl (omega (arith, before, place_offset volume.layout other, place_offset volume.layout number))
      stands (inr behind) = inr (omega (arith, behind, size, place_offset volume.layout other, place_offset volume.layout number))

  pub one_inode : OneInode volume (parts_of volume image) (parts_of volume (with_sector_of volume image sector bytes)) number part
  one_inode =
      let lie = lies volume.layout volume.span.count is in
      let from = place-from volume.layout lie number in
      let below = place-below volume.layout lie number some there in
      record {
        here = inode_here;
        others = λ other low high apart. ⊎_elim
            (λ same. neighbour other low apart same)
            (λ differ. node_same volume image sector bytes other differ)
            (cases_eq (inode_place volume.layout other).sector sector);
        zones = λ zone low.
            let a : zone_sector zone ≢ sector = λ same. omega (arith, below, low, same) in
            let b : zone_sector zone + 1 ≢ sector = λ same. omega (arith, below, low, same) in
            zone_same volume image sector bytes zone a b;
        marks = λ other high.
            let low = (mark_in volume.layout volume.span.count is other high).1 in
            let a : inode_mark_sector other ≢ sector = λ same. omega (arith, low, same, from) in
            mark_same volume image sector bytes other a;
        zone_marks = λ zone high.
            let low = (zone_mark_in volume.layout volume.span.count is zone high).1 in
            let a : zone_mark_sector volume.layout zone ≢ sector = λ same. omega (arith, low, same, from) in
            zone_mark_same volume image sector bytes zone a;
      }

pub inode_bytes_law : InodeBytesLaw
inode_bytes_law volume image number part is some there size long = one_inode volume image number part is some there size long

-- what was written is kept

inode_by : (kind : Kind) (bytes : List ℕ) (inode : Inode) (small : Bool) → is_size kind (inode_of kind bytes).size ≡ small → inode_at kind bytes ≡ Ok inode → inode_of kind bytes ≡ inode
unfolding inode_at
inode_by kind bytes inode true is read = let e = rw is at read in cc
inode_by kind bytes inode false is read = let e = rw is at read in cc

pub kept_inode_law : KeptInodeLaw
kept_inode_law kind inode fits small = inode_by kind (inode_bytes kind inode) (kept_inode kind inode) _ refl (inode_law kind inode fits small)
