-- An inode of which the kind, the size and the zones stay.
use Rattle.std.proofs.Common.{◌≡◌, ◌≢◌, ℕ, zero, suc, ◌/◌, ◌%◌, ◌<◌, ◌==◌, ◌||◌, Bool, true, false, List, [], ◌∷◌, take, refl, sym, ◌∙◌, ap, subst, arith, eq-eqb}
use Rattle.std.specs.Prelude.{slice_index}
use Rattle.std.proofs.lemmas.Bool.{eqb-true, or_left, or_right}
use Rattle.lilo_model.specs.MinixLayout.{Super, Inode}
use Rattle.lilo_model.specs.MinixParts.{Parts, Pointer, IsPointer, is_directory, is_file, is_link, has_zones, number_in, number_below, follow, block_pointer, zone_bytes, blocks_for}
use Rattle.lilo_model.specs.MinixEntries.{Entry, entry_in, entries_per_block, places}
use Rattle.lilo_model.specs.MinixNames.{pointer, zone_number, block, blocks, content, entry, lookup, thing, PointsTo, HasEntry, Directory, File, Link}
use Rattle.minix_laws.proofs.Pointers.{pointer_law}
use Rattle.minix_change_laws.specs.Sees.{SameButLinks}

-- two inodes have the same mode and numbers of zones
pub record HasSameNumbers (old new : Inode) : Type 0 where
  pub mode : new.mode ≡ old.mode
  pub zones : new.zones ≡ old.zones

-- and the same size
pub record IsSameNode (old new : Inode) : Type 0 where
  pub numbers : HasSameNumbers old new
  pub size : new.size ≡ old.size

pub same-node : (old new : Inode) → new ≡ old → IsSameNode old new
same-node old new same = record {
  numbers = record { mode = ap (λ (i : Inode). i.mode) same; zones = ap (λ (i : Inode). i.zones) same };
  size = ap (λ (i : Inode). i.size) same;
}

pub same-but-links : (old new : Inode) → SameButLinks old new → IsSameNode old new
same-but-links old new same = record {
  numbers = record { mode = ap (λ (i : Inode). i.mode) same; zones = ap (λ (i : Inode). i.zones) same };
  size = ap (λ (i : Inode). i.size) same;
}

-- ---- kinds of files that have zones

pub file-zones : (parts : Parts) (number : ℕ) → is_file (parts.node number) ≡ true → has_zones (parts.node number) ≡ true
file-zones parts number is =
    or_left (is_directory (parts.node number) || is_file (parts.node number)) (is_link (parts.node number)) (or_right (is_directory (parts.node number)) (is_file (parts.node number)) is)

pub link-zones : (parts : Parts) (number : ℕ) → is_link (parts.node number) ≡ true → has_zones (parts.node number) ≡ true
link-zones parts number is = or_right (is_directory (parts.node number) || is_file (parts.node number)) (is_link (parts.node number)) is

pub directory-zones : (parts : Parts) (number : ℕ) → is_directory (parts.node number) ≡ true → has_zones (parts.node number) ≡ true
directory-zones parts number is = rw is refl

-- what a directory is
pub thing-directory : (super : Super) (parts : Parts) (number : ℕ) → is_directory (parts.node number) ≡ true → thing super parts number ≡ Directory
unfolding thing
thing-directory super parts number is =
    let four : (parts.node number).mode / 4096 ≡ 4 = eqb-true ((parts.node number).mode / 4096) 4 is in
    rw four refl

-- ---- pointers, of which each but the last zone stays

-- the way to the zone above one
pub shorter : (super : Super) (top index : ℕ) (trail : List ℕ) → IsPointer super.kind (record { top = top; trail = index ∷ trail }) → IsPointer super.kind (record { top = top; trail = trail })
shorter super top index trail is = record {
  ten = is.ten;
  deep = omega (arith, is.deep);
  within = λ k d below. is.within (suc k) d (omega (arith, below));
}

-- the zones above others stay
abbrev pub KeepsAbove : Super → Parts → Parts → ℕ → Type 0
KeepsAbove super old new number =
    (top index : ℕ) (trail : List ℕ) (zone : ℕ) → IsPointer super.kind (record { top = top; trail = index ∷ trail }) → PointsTo super old number (record { top = top; trail = trail }) zone → new.zone zone ≡ old.zone zone

module _ (super : Super) (old new : Parts) (number : ℕ) (node : HasSameNumbers (old.node number) (new.node number)) where
  pub directory-same : is_directory (new.node number) ≡ is_directory (old.node number)
  directory-same = rw node.mode refl

  pub has_zones-same : has_zones (new.node number) ≡ has_zones (old.node number)
  has_zones-same = rw node.mode refl

  module _ (above : KeepsAbove super old new number) where
    module _ (zones : has_zones (old.node number) ≡ true) where
      below-by : (top index : ℕ) (trail : List ℕ) → IsPointer super.kind (record { top = top; trail = index ∷ trail }) → (zone : ℕ) → follow super.kind old.zone (slice_index (old.node number).zones top) trail ≡ zone
          → (hole : Bool) → (zone == 0) ≡ hole → number_below super.kind new.zone zone index ≡ number_below super.kind old.zone zone index
      below-by top index trail is zone to true hole = rw hole refl
      below-by top index trail is zone to false hole =
          let some : zone ≢ 0 = λ e. let t = eq-eqb zone 0 e in cc in
          let same : new.zone zone ≡ old.zone zone = above top index trail zone is (record { kind = zones; place = shorter super top index trail is; is = to; some = some }) in
          rw hole (ap (λ bytes. number_in super.kind bytes index) same)

      follow-same : (top : ℕ) (trail : List ℕ) → IsPointer super.kind (record { top = top; trail = trail })
          → follow super.kind new.zone (slice_index (old.node number).zones top) trail ≡ follow super.kind old.zone (slice_index (old.node number).zones top) trail
      unfolding follow
      follow-same top [] is = refl
      follow-same top (index ∷ before) is =
          ap (λ zone. number_below super.kind new.zone zone index) (follow-same top before (shorter super top index before is))
          ∙ below-by top index before is (follow super.kind old.zone (slice_index (old.node number).zones top) before) refl _ refl

      pub pointer-same : (at : Pointer) → IsPointer super.kind at → pointer super new number at ≡ pointer super old number at
      pointer-same at is =
          ap (λ numbers. follow super.kind new.zone (slice_index numbers at.top) at.trail) node.zones
          ∙ follow-same at.top at.trail is

    -- what such an inode points to
    pub points-old : (at : Pointer) (zone : ℕ) → PointsTo super new number at zone → PointsTo super old number at zone
    points-old at zone to =
        let zones : has_zones (old.node number) ≡ true = sym has_zones-same ∙ to.kind in
        record { kind = zones; place = to.place; is = sym (pointer-same zones at to.place) ∙ to.is; some = to.some }

    pub points-new : (at : Pointer) (zone : ℕ) → PointsTo super old number at zone → PointsTo super new number at zone
    points-new at zone to = record { kind = has_zones-same ∙ to.kind; place = to.place; is = pointer-same to.kind at to.place ∙ to.is; some = to.some }

-- ---- blocks, of which each zone stays

-- the zones stay
abbrev pub KeepsZones : Super → Parts → Parts → ℕ → Type 0
KeepsZones super old new number = (at : Pointer) (zone : ℕ) → PointsTo super old number at zone → new.zone zone ≡ old.zone zone

pub keeps-above : (super : Super) (old new : Parts) (number : ℕ) → KeepsZones super old new number → KeepsAbove super old new number
keeps-above super old new number kept top index trail zone is to = kept (record { top = top; trail = trail }) zone to

module _ (super : Super) (old new : Parts) (number : ℕ) (numbers : HasSameNumbers (old.node number) (new.node number)) (kept : KeepsZones super old new number) where
  module _ (zones : has_zones (old.node number) ≡ true) where
    bytes-by : (index zone : ℕ) → zone_number super old number index ≡ zone → (hole : Bool) → (zone == 0) ≡ hole → zone_bytes new zone ≡ zone_bytes old zone
    unfolding zone_number
    bytes-by index zone to true hole = rw hole refl
    bytes-by index zone to false hole =
        let some : zone ≢ 0 = λ e. let t = eq-eqb zone 0 e in cc in
        let same : new.zone zone ≡ old.zone zone = kept (block_pointer super.kind index) zone (record { kind = zones; place = (pointer_law super.kind).is index; is = to; some = some }) in
        rw hole same

    pub zone-same : (index : ℕ) → zone_number super new number index ≡ zone_number super old number index
    unfolding zone_number
    zone-same index = pointer-same super old new number numbers (keeps-above super old new number kept) zones (block_pointer super.kind index) ((pointer_law super.kind).is index)

    pub block-same : (index : ℕ) → block super new number index ≡ block super old number index
    unfolding block
    block-same index =
        ap (zone_bytes new) (zone-same index) ∙ bytes-by index (zone_number super old number index) refl _ refl

    pub entry-same : (place : ℕ) → entry super new number place ≡ entry super old number place
    unfolding entry
    entry-same place = ap (λ bytes. entry_in super.kind bytes (place % entries_per_block super.kind)) (block-same (place / entries_per_block super.kind))

module _ (super : Super) (old new : Parts) (number : ℕ) (node : IsSameNode (old.node number) (new.node number)) (kept : KeepsZones super old new number) where
  module _ (zones : has_zones (old.node number) ≡ true) where
    blocks-same : (count : ℕ) → blocks (block super new number) count ≡ blocks (block super old number) count
    blocks-same zero = refl
    blocks-same (suc count) = rw (blocks-same count, block-same super old new number node.numbers kept zones count) refl

    pub content-same : content super new number ≡ content super old number
    unfolding content
    content-same =
        ap (λ size. take size (blocks (block super new number) (blocks_for size))) node.size
        ∙ ap (take (old.node number).size) (blocks-same (blocks_for (old.node number).size))

    pub has_entry-same : (place : ℕ) (what : Entry) → HasEntry super new number place what → HasEntry super old number place what
    has_entry-same place what has = record {
      below = subst (λ size. place < places super.kind size) node.size has.below;
      is = sym (entry-same super old new number node.numbers kept zones place) ∙ has.is;
    }

    pub has_entry-kept : (place : ℕ) (what : Entry) → HasEntry super old number place what → HasEntry super new number place what
    has_entry-kept place what has = record {
      below = subst (λ size. place < places super.kind size) (sym node.size) has.below;
      is = entry-same super old new number node.numbers kept zones place ∙ has.is;
    }

  lookup-by : (name : List ℕ) (directory : Bool) → is_directory (old.node number) ≡ directory → lookup super new name number ≡ lookup super old name number
  unfolding lookup
  lookup-by name false is = rw (node.numbers.mode, is) refl
  lookup-by name true is =
      let entries : entry super new number ≡ entry super old number = λ i place. entry-same super old new number node.numbers kept (directory-zones old number is) place i in
      rw (node.numbers.mode, node.size, entries) refl

  pub lookup-same : (name : List ℕ) → lookup super new name number ≡ lookup super old name number
  lookup-same name = lookup-by name _ refl

  thing-by : (file link : Bool) → is_file (old.node number) ≡ file → is_link (old.node number) ≡ link → thing super new number ≡ thing super old number
  unfolding thing
  thing-by true link f l = rw (node.numbers.mode, f) (ap File (content-same (file-zones old number f)))
  thing-by false true f l = rw (node.numbers.mode, f, l) (ap Link (content-same (link-zones old number l)))
  thing-by false false f l = rw (node.numbers.mode, f, l) refl

  pub thing-same : thing super new number ≡ thing super old number
  thing-same = thing-by _ _ refl refl
