-- An inode that keeps a name is mapped as it was, and holds what it held, where named inodes stay and none refers to
-- another zone than before.
use Rattle.std.proofs.Common.{◌≡◌, ◌≢◌, ℕ, zero, suc, ◌*◌, ◌/◌, ◌==◌, Bool, true, false, map, take, refl, sym, ◌∙◌, ap, subst, arith, eq-eqb}
use Rattle.std.specs.List.{range_with_len}
use Rattle.lilo_model.specs.Disks.{Image}
use Rattle.lilo_model.specs.MinixLayout.{Inode}
use Rattle.lilo_model.specs.MinixNames.{zone_number, block, blocks, content, Named, Refers}
use Rattle.lilo_model.specs.MinixParts.{Parts, Volume, parts_of, is_file, block_pointer, zone_bytes, blocks_for}
use Rattle.lilo_model.specs.Planned.{sector_in_zone, inode_places, mapped_inode}
use Rattle.lilo_model.specs.Section.{sectors_for}
use Rattle.minix_change_laws.specs.Sees.{SameButLinks}
use Rattle.minix_change_laws.specs.Tree.{KeepsNamed}
use Rattle.install_stage_laws.specs.BeginLaws.{GainsNothing}
use Rattle.install_stage_laws.proofs.Clear.{no-directory}
use Rattle.install_stage_laws.proofs.Files.{refers-block}

module _ (volume : Volume) (before after : Image) (keeps : KeepsNamed volume.layout (parts_of volume before) (parts_of volume after)) (gains : GainsNothing volume before after)
    (number : ℕ) (was : Named volume.layout (parts_of volume before) number) (is-named : Named volume.layout (parts_of volume after) number) where
  abbrev old : Parts
  old = parts_of volume before

  abbrev new : Parts
  new = parts_of volume after

  pub regular-same : is_file (new.node number) ≡ is_file (old.node number)
  regular-same = ap (λ mode. mode / 4096 == 8) (keeps.modes number was is-named)

  module _ (regular : is_file (old.node number) ≡ true) where
    node-same : SameButLinks (old.node number) (new.node number)
    node-same = keeps.files number was is-named (no-directory (old.node number).mode regular)

    -- a file refers to the zone of each of its blocks that is there
    refers-by : (image : Image) → Named volume.layout (parts_of volume image) number → is_file ((parts_of volume image).node number) ≡ true → (index zone : ℕ)
        → zone_number volume.layout (parts_of volume image) number index ≡ zone → zone ≢ 0 → Refers volume.layout (parts_of volume image) number (block_pointer volume.layout.kind index) zone
    refers-by image named file index zone is some =
        let half : 2 * index / 2 ≡ index = omega arith in
        subst (λ at. Refers volume.layout (parts_of volume image) number (block_pointer volume.layout.kind at) zone) half
        (refers-block volume image number named file (2 * index) zone (ap (zone_number volume.layout (parts_of volume image) number) half ∙ is) some)

    -- a zone stays, and a hole does
    zone-same : (index : ℕ) → zone_number volume.layout new number index ≡ zone_number volume.layout old number index
    unfolding zone_number
    zone-same index = by (zone_number volume.layout old number index) (zone_number volume.layout new number index) refl refl
      where
        by : (held holds : ℕ) → zone_number volume.layout old number index ≡ held → zone_number volume.layout new number index ≡ holds
            → zone_number volume.layout new number index ≡ zone_number volume.layout old number index
        by zero zero one two = two ∙ sym one
        by (suc held) zero one two =
            let refers = refers-by before was regular index (suc held) one (λ none. omega (arith, none)) in
            (keeps.stays number (block_pointer volume.layout.kind index) (suc held) refers is-named).is ∙ sym one
        by held (suc holds) one two =
            let refers = refers-by after is-named (regular-same ∙ regular) index (suc holds) two (λ none. omega (arith, none)) in
            two ∙ sym (gains.refers number (block_pointer volume.layout.kind index) (suc holds) refers).to.is

    zones-same : zone_number volume.layout new number ≡ zone_number volume.layout old number
    zones-same = λ i index. zone-same index i

    bytes-by : (index zone : ℕ) → zone_number volume.layout old number index ≡ zone → (hole : Bool) → (zone == 0) ≡ hole → zone_bytes new zone ≡ zone_bytes old zone
    bytes-by index zone is true hole = rw hole refl
    bytes-by index zone is false hole =
        let some : zone ≢ 0 = λ e. let t = eq-eqb zone 0 e in cc in
        let refers = refers-by before was regular index zone is some in
        rw hole (keeps.bytes number (block_pointer volume.layout.kind index) zone refers is-named (no-directory (old.node number).mode regular))

    block-same : (index : ℕ) → block volume.layout new number index ≡ block volume.layout old number index
    unfolding block
    block-same index = ap (zone_bytes new) (zone-same index) ∙ bytes-by index (zone_number volume.layout old number index) refl _ refl

    blocks-same : block volume.layout new number ≡ block volume.layout old number
    blocks-same = λ i index. block-same index i

    pub mapped-same : mapped_inode volume new number ≡ mapped_inode volume old number
    unfolding mapped_inode inode_places
    mapped-same =
        ap (λ (node : Inode). record {
          size = node.size;
          places = map (λ index. sector_in_zone volume.span (zone_number volume.layout new number (index / 2)) index) (range_with_len 0 (sectors_for node.size));
        }) node-same
        ∙ ap (λ at. record {
          size = (old.node number).size;
          places = map (λ index. sector_in_zone volume.span (at (index / 2)) index) (range_with_len 0 (sectors_for (old.node number).size));
        }) zones-same

    pub content-same : content volume.layout new number ≡ content volume.layout old number
    unfolding content
    content-same =
        ap (λ (node : Inode). take node.size (blocks (block volume.layout new number) (blocks_for node.size))) node-same
        ∙ ap (λ at. take (old.node number).size (blocks at (blocks_for (old.node number).size))) blocks-same
