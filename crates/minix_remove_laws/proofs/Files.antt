-- Files beside a directory, while one name takes the place of another in it.
use Rattle.std.proofs.Common.{◌≡◌, ◌≢◌, ◌+◌, ◌-◌, ℕ, List, refl, sym, ◌∙◌, ap, subst, arith}
use Rattle.lilo_model.specs.MinixLayout.{Super, Inode}
use Rattle.lilo_model.specs.MinixNames.{Named, PointsTo, Refers, Sound}
use Rattle.lilo_model.specs.MinixParts.{Parts, Pointer}
use Rattle.minix_change_laws.specs.Beside.{IsInode, IsDataZone}
use Rattle.minix_change_laws.specs.Enter.{HasLinkMore, IsLeft}
use Rattle.minix_change_laws.specs.Changes.{AreEnough, ChangesNode, ChangesZone}
use Rattle.minix_change_laws.proofs.Extends.{of-node}
use Rattle.minix_change_laws.specs.Sees.{with_links, Sees}
use Rattle.minix_change_laws.proofs.Inode.{HasSameNumbers, KeepsZones, same-node, keeps-above, points-old, points-new}
use Rattle.minix_change_laws.proofs.Sees.{named-old, all_lead-old}
use Rattle.minix_remove_laws.specs.Files.{KeepsFiles, KeptFilesLaw}

-- ---- where nothing but a directory's zones gets other bytes

module _ (super : Super) (old new : Parts) (directory number : ℕ) (sound : Sound super old) (there : Named super old directory) (named : Named super old number) (apart : number ≢ directory)
    (bytes : (zone : ℕ) → IsDataZone super zone → ((at : Pointer) → PointsTo super old directory at zone → ⊥) → new.zone zone ≡ old.zone zone) where
  keeps-zones : KeepsZones super old new number
  keeps-zones at zone to =
      let refers : Refers super old number at zone = record { named = named; to = to } in
      bytes zone (sound.zone_range number at zone refers) (λ at' to'. apart (sound.once number directory at at' zone refers (record { named = there; to = to' })).0)

  module _ (numbers : HasSameNumbers (old.node number) (new.node number)) where
    pub points-before : (at : Pointer) (zone : ℕ) → PointsTo super new number at zone → PointsTo super old number at zone
    points-before = points-old super old new number numbers (keeps-above super old new number keeps-zones)

    pub points-then : (at : Pointer) (zone : ℕ) → PointsTo super old number at zone → PointsTo super new number at zone
    points-then = points-new super old new number numbers (keeps-above super old new number keeps-zones)

pub kept_files_law : KeptFilesLaw
kept_files_law super old new directory number sound there keeps named apart =
    let is = keeps.nodes number (sound.in_range number named) in
    let numbers = (same-node (old.node number) (new.node number) is).numbers in
    record {
      node = is;
      points = points-before super old new directory number sound there named apart keeps.bytes numbers;
      stays = points-then super old new directory number sound there named apart keeps.bytes numbers;
    }

-- ---- one zone of a directory

module _ (super : Super) (old new : Parts) (directory zone : ℕ) (bytes : List ℕ) (change : ChangesZone super old new zone bytes) (here : Pointer) (to : PointsTo super old directory here zone) where
  off-zone : (other : ℕ) → ((at : Pointer) → PointsTo super old directory at other → ⊥) → other ≢ zone
  off-zone other none same = none here (subst (λ z. PointsTo super old directory here z) (sym same) to)

  pub keeps_zone : KeepsFiles super old new directory
  keeps_zone = record {
    nodes = change.nodes;
    marks = change.marks;
    zone_marks = change.zone_marks;
    bytes = λ other in' none. change.others other in' (off-zone other none);
  }

-- ---- one name takes the place of that of another inode

-- an inode has other links, two zones of a directory other bytes, and then the inode its links again
module _ (super : Super) (first next mid new last : Parts) (directory number to_zone from_zone : ℕ) (node : Inode) (to_bytes from_bytes : List ℕ) (to_at from_at : Pointer)
    (sound : Sound super first) (there : Named super first directory) (named : Named super first number) (file : number ≢ directory) (is : first.node number ≡ node)
    (raised : ChangesNode super first next number (with_links node (node.links + 1)))
    (led : ChangesZone super next mid to_zone to_bytes) (cleared : ChangesZone super mid new from_zone from_bytes)
    (to_points : PointsTo super first directory to_at to_zone) (from_points : PointsTo super first directory from_at from_zone) where
  off : (at : Pointer) (zone other : ℕ) → PointsTo super first directory at zone → ((at' : Pointer) → PointsTo super first directory at' other → ⊥) → other ≢ zone
  off at zone other to none same = none at (subst (λ z. PointsTo super first directory at z) (sym same) to)

  pub raised_bytes : (zone : ℕ) → IsDataZone super zone → ((at : Pointer) → PointsTo super first directory at zone → ⊥) → new.zone zone ≡ first.zone zone
  raised_bytes zone in' none =
      cleared.others zone in' (off from_at from_zone zone from_points none) ∙ (led.others zone in' (off to_at to_zone zone to_points none) ∙ raised.zones zone in')

  pub raised_node : new.node number ≡ with_links node (node.links + 1)
  raised_node = let range = sound.in_range number named in cleared.nodes number range ∙ (led.nodes number range ∙ raised.here)

  pub raised_others : (other : ℕ) → IsInode super other → other ≢ number → new.node other ≡ first.node other
  raised_others other range apart = cleared.nodes other range ∙ (led.nodes other range ∙ raised.others other range apart)

  raised_numbers : HasSameNumbers (first.node number) (new.node number)
  raised_numbers = subst (λ (i : Inode). HasSameNumbers i (new.node number)) (sym is) (subst (HasSameNumbers node) (sym raised_node) (record { mode = refl; zones = refl }))

  pub raised_points : (at : Pointer) (zone : ℕ) → PointsTo super new number at zone → PointsTo super first number at zone
  raised_points = points-before super first new directory number sound there named file raised_bytes raised_numbers

  pub raised_range : (at : Pointer) (zone : ℕ) → PointsTo super new number at zone → IsDataZone super zone
  raised_range at zone to = sound.zone_range number at zone (record { named = named; to = raised_points at zone to })

  module _ (lowered : ChangesNode super new last number (with_links (with_links node (node.links + 1)) (node.links + 1 - 1))) where
    back : last.node number ≡ first.node number
    back =
        let one : node.links + 1 - 1 ≡ node.links = omega arith in
        lowered.here ∙ (ap (with_links (with_links node (node.links + 1))) one ∙ sym is)

    pub keeps_raised : KeepsFiles super first last directory
    keeps_raised = record {
      nodes = λ other range. of-node number (λ n. IsInode super n → last.node n ≡ first.node n) other (λ range'. back)
          (λ apart range'. lowered.others other range' apart ∙ raised_others other range' apart) range;
      marks = λ other range. lowered.marks other range ∙ (cleared.marks other range ∙ (led.marks other range ∙ raised.marks other range));
      zone_marks = λ zone range. lowered.zone_marks zone range ∙ (cleared.zone_marks zone range ∙ (led.zone_marks zone range ∙ raised.zone_marks zone range));
      bytes = λ zone range none. lowered.zones zone range ∙ raised_bytes zone range none;
    }

    -- ---- the inode that lost its name

    module _ (former : ℕ) (former_named : Named super first former) (former_file : former ≢ directory) (apart : former ≢ number) (sound_new : Sound super new) (sees : Sees super new last) where
      kept : (at : Pointer) (zone : ℕ) → PointsTo super last former at zone → PointsTo super first former at zone
      kept = (kept_files_law super first last directory former sound there keeps_raised former_named former_file).points

      pub former_range : (at : Pointer) (zone : ℕ) → PointsTo super last former at zone → IsDataZone super zone
      former_range at zone to = sound.zone_range former at zone (record { named = former_named; to = kept at zone to })

      pub former_enough : (links : ℕ) → (first.node former).links ≡ links + 1 → HasLinkMore super next new former → AreEnough super last former links
      former_enough links more left paths root distinct lead =
          let few = left paths distinct (all_lead-old super new last sees former paths lead) in
          let same : (next.node former).links ≡ (first.node former).links = ap (λ (i : Inode). i.links) (raised.others former (sound.in_range former former_named) apart) in
          omega (arith, few, more, same)

      -- the zones of the inode, with the other links
      next_points : (at : Pointer) (zone : ℕ) → PointsTo super first former at zone → PointsTo super next former at zone
      next_points =
          let numbers = (same-node (first.node former) (next.node former) (raised.others former (sound.in_range former former_named) apart)).numbers in
          points-new super first next former numbers (keeps-above super first next former (λ at zone to. raised.zones zone (sound.zone_range former at zone (record { named = former_named; to = to }))))

      -- what points somewhere did so before the links were lowered
      last_points : (other : ℕ) → Named super new other → (at : Pointer) (zone : ℕ) → PointsTo super last other at zone → PointsTo super new other at zone
      last_points other other_named =
          let kept' : KeepsZones super new last other = λ at zone to. lowered.zones zone (sound_new.zone_range other at zone (record { named = other_named; to = to })) in
          let numbers : HasSameNumbers (new.node other) (last.node other) =
          of-node number (λ n. IsInode super n → HasSameNumbers (new.node n) (last.node n)) other
          (λ range. subst (λ (i : Inode). HasSameNumbers i (last.node number)) (sym raised_node)
          (subst (HasSameNumbers (with_links node (node.links + 1))) (sym lowered.here) (record { mode = refl; zones = refl })))
          (λ apart' range. (same-node (new.node other) (last.node other) (lowered.others other range apart')).numbers)
          (sound_new.in_range other other_named) in
          points-old super new last other numbers (keeps-above super new last other kept')

      pub former_left : (Named super new former → ⊥)
          → ((at : Pointer) (zone : ℕ) → PointsTo super next former at zone → (other : ℕ) (there' : Pointer) → Refers super new other there' zone → ⊥) → IsLeft super last former
      former_left unnamed unused = record {
        unnamed = λ named'. unnamed (named-old super new last sees former named');
        unused = λ at zone to other there' refers.
            let other_named = named-old super new last sees other refers.named in
            unused at zone (next_points at zone (kept at zone to)) other there' (record { named = other_named; to = last_points other other_named there' zone refers.to });
      }
