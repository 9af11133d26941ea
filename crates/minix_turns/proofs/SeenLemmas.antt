-- An image in which the inode of something with a name has other bytes: no name sees them.
use Rattle.std.proofs.Common.{◌≡◌, ◌≤◌, ◌<◌, ◌*◌, ◌^◌, ℕ, true, List, [], length, ◌∙◌, ap, arith, ⊎_elim}
use Rattle.std.proofs.lemmas.Bool.{cases_eq}
use Rattle.lilo_model.specs.Disks.{Image}
use Rattle.lilo_model.specs.MinixLayout.{IsSuper, Inode, FitsInode, is_size, most_links, inode_size, inode_bytes, inode_place, kept_inode, super_sector}
use Rattle.lilo_model.specs.MinixParts.{Parts, Volume, sector_of, inode_part, parts_of}
use Rattle.lilo_model.specs.MinixNames.{Named, HasSound, IsSound}
use Rattle.minix_change_laws.proofs.Replaced.{length-with_part}
use Rattle.minix_change_laws.specs.Changes.{ChangesNode, AreEnough, with_size, MaySize, MayHook, with_top}
use Rattle.minix_change_laws.specs.Grows.{pointer_at, Deeper}
use Rattle.minix_change_laws.proofs.Changes.{links_change_law, size_change_law, top_law}
use Rattle.minix_change_laws.specs.SeesLaws.{KeepsSectors}
use Rattle.minix_change_laws.specs.Sees.{with_links, Sees, SeenAsIn}
use Rattle.minix_change_laws.proofs.Seen.{opened, seen_parts_law}
use Rattle.minix_steps.specs.StepLaws.{OneInode}
use Rattle.minix_steps.specs.Written.{with_sector_of, with_inode}
use Rattle.minix_steps.proofs.PartLemmas.{at_sector, other_sector, fits, inode_bytes_law, kept_inode_law}
use Rattle.minix_steps.proofs.RegionLemmas.{place_there, place_from}
use Rattle.minix_turns.specs.Inode.{FitsTop}
use Rattle.minix_turns.proofs.FieldLemmas.{inode_long, fits_links, fits_size, fits_top, kept_read, kept_links, kept_size, kept_top, low_top}

module _ (volume : Volume) (old : Image) (is : IsSuper volume.layout volume.span.count) (sound : IsSound volume old) (number : ℕ) (named : Named volume.layout (parts_of volume old) number) where
  abbrev Was : Parts
  Was = parts_of volume old

  abbrev Sector : ℕ
  Sector = (inode_place volume.layout number).sector

  -- the image with another inode
  abbrev pub With : Inode → Image
  With inode = with_sector_of volume old Sector (with_inode volume old number (inode_bytes volume.layout.kind inode))

  has : HasSound volume old
  has = opened volume old sound

  range : (1 ≤ number) × (number ≤ volume.layout.inodes)
  range = has.parts.in_range number named

  inside : Sector < 2 * volume.layout.zones
  inside = place_there volume.layout volume.span.count is number range.0 range.1

  long : length (sector_of volume old Sector) ≡ 512
  long = has.whole Sector inside

  sized : is_size volume.layout.kind (Was.node number).size ≡ true
  sized = has.parts.size number named

  kept : kept_inode volume.layout.kind (Was.node number) ≡ Was.node number
  unfolding parts_of
  kept = kept_read volume.layout.kind (inode_part volume old (inode_place volume.layout number)) (has.parts.size number named)

  module _ (inode : Inode) (fit : FitsInode volume.layout.kind inode) where
    part-long : length (inode_bytes volume.layout.kind inode) ≡ inode_size volume.layout.kind
    part-long = inode_long volume.layout.kind inode fit

    sectors : KeepsSectors volume old (With inode)
    sectors = record {
      super = let from = place_from volume.layout volume.span.count is number in
          other_sector volume old Sector (with_inode volume old number (inode_bytes volume.layout.kind inode)) super_sector (λ same. absurd (omega (arith, from, same)));
      whole = λ sector below. ⊎_elim
          (λ same. ap (λ s. length (sector_of volume (With inode) s)) same
          ∙ (ap length (at_sector volume old Sector (with_inode volume old number (inode_bytes volume.layout.kind inode)))
          ∙ (length-with_part (sector_of volume old Sector) (inode_place volume.layout number).at (inode_bytes volume.layout.kind inode)
          (fits volume old number (inode_bytes volume.layout.kind inode) is range.0 range.1 part-long long) ∙ long)))
          (λ differ. ap length (other_sector volume old Sector (with_inode volume old number (inode_bytes volume.layout.kind inode)) sector differ) ∙ has.whole sector below)
          (cases_eq sector Sector);
    }

    seen : Sees volume.layout Was (parts_of volume (With inode)) → SeenAsIn volume old (With inode)
    seen sees = seen_parts_law volume old (With inode) sound sectors sees

    change : is_size volume.layout.kind inode.size ≡ true → kept_inode volume.layout.kind inode ≡ inode → ChangesNode volume.layout Was (parts_of volume (With inode)) number inode
    change small whole =
        let one : OneInode volume Was (parts_of volume (With inode)) number (inode_bytes volume.layout.kind inode) =
        inode_bytes_law volume old number (inode_bytes volume.layout.kind inode) is range.0 range.1 part-long long in
        record {
          here = one.here ∙ (kept_inode_law volume.layout.kind inode fit small ∙ whole);
          others = λ other in' apart. one.others other in'.0 in'.1 apart;
          zones = λ zone in'. one.zones zone in'.0;
          marks = λ other in'. one.marks other in'.1;
          zone_marks = λ zone in'. one.zone_marks zone in'.1;
        }

  module _ (fit : FitsInode volume.layout.kind (Was.node number)) where
    pub seen_links : (links : ℕ) → links ≤ most_links volume.layout.kind → AreEnough volume.layout Was number links → SeenAsIn volume old (With (with_links (Was.node number) links))
    seen_links links few enough =
        let inode : Inode = with_links (Was.node number) links in
        let fit' = fits_links volume.layout.kind (Was.node number) links fit few in
        seen inode fit' (links_change_law volume.layout Was (parts_of volume (With inode)) number links has.parts named enough
        (change inode fit' sized (kept_links volume.layout.kind (Was.node number) links kept)))

    -- of another size, and with another of its numbers
    pub node_size : (size : ℕ) → size < 2 ^ 32 → is_size volume.layout.kind size ≡ true
        → ChangesNode volume.layout Was (parts_of volume (With (with_size (Was.node number) size))) number (with_size (Was.node number) size)
    node_size size small sized' =
        change (with_size (Was.node number) size) (fits_size volume.layout.kind (Was.node number) size fit small) sized' (kept_size volume.layout.kind (Was.node number) size kept)

    pub node_top : (top zone size : ℕ) → FitsTop volume.layout.kind top zone → size < 2 ^ 32 → is_size volume.layout.kind size ≡ true
        → ChangesNode volume.layout Was (parts_of volume (With (with_top (Was.node number) top zone size))) number (with_top (Was.node number) top zone size)
    node_top top zone size low small sized' =
        change (with_top (Was.node number) top zone size) (fits_top volume.layout.kind (Was.node number) top zone size fit low small) sized' (kept_top volume.layout.kind (Was.node number) top zone size low fit.ten kept)

    pub seen_size : (size : ℕ) → size < 2 ^ 32 → MaySize volume.layout Was number size → SeenAsIn volume old (With (with_size (Was.node number) size))
    seen_size size small may =
        let inode : Inode = with_size (Was.node number) size in
        let fit' = fits_size volume.layout.kind (Was.node number) size fit small in
        seen inode fit' (size_change_law volume.layout Was (parts_of volume (With inode)) number size has.parts may (node_size size small may.sized))

    pub seen_top : (top zone size : ℕ) (more : List Deeper) → FitsTop volume.layout.kind top zone → size < 2 ^ 32
        → MayHook volume.layout Was number (pointer_at top []) zone more → MaySize volume.layout Was number size
        → SeenAsIn volume old (With (with_top (Was.node number) top zone size))
    seen_top top zone size more low small hook may =
        let inode : Inode = with_top (Was.node number) top zone size in
        let fit' = fits_top volume.layout.kind (Was.node number) top zone size fit low small in
        seen inode fit' (top_law volume.layout Was (parts_of volume (With inode)) number top zone size more has.parts hook may (let ten = fit.ten in let least = low_top volume.layout.kind top zone low in omega (arith, ten, least))
        (node_top top zone size low small may.sized))
