-- No name sees that a directory gets places in zones that it has.
use Rattle.std.proofs.Common.{◌≡◌, ◌≢◌, ℕ, ◌<◌, ◌≤◌, ◌==◌, ◌⊎◌, Bool, true, false, List, [], ◌∷◌, length, refl, sym, ◌∙◌, ap, subst, arith, eq-eqb, inl, inr, ⊎_elim}
use Rattle.std.proofs.lemmas.Bool.{eqb-true}
use Rattle.lilo_model.specs.MinixLayout.{Super, Inode, reach, is_size}
use Rattle.lilo_model.specs.MinixParts.{Parts, Pointer, is_directory, blocks_for}
use Rattle.lilo_model.specs.MinixEntries.{places}
use Rattle.lilo_model.specs.MinixNames.{entry, Named, PointsTo, AllLead, AreDistinct, Sound}
use Rattle.minix_change_laws.specs.Sees.{Sees}
use Rattle.minix_change_laws.proofs.Inode.{HasSameNumbers, IsSameNode, same-node, KeepsZones, keeps-above, directory-zones, points-old, points-new, entry-same}
use Rattle.minix_change_laws.proofs.Kept.{same-is-but-links}
use Rattle.minix_change_laws.specs.Extends.{Extends}
use Rattle.minix_change_laws.specs.GrowthLaws.{ExtendsLaw}

pub is-own : (directory number : ℕ) → (number ≡ directory) ⊎ (number ≢ directory)
is-own directory number = by _ refl
  where
    by : (same : Bool) → (number == directory) ≡ same → (number ≡ directory) ⊎ (number ≢ directory)
    by true same = inl (eqb-true number directory same)
    by false same = inr (λ e. let t = eq-eqb number directory e in cc)

-- what holds of a directory and of each other inode
pub of-node : (directory : ℕ) (P : ℕ → Type 0) (number : ℕ) → P directory → (number ≢ directory → P number) → P number
of-node directory P number own other = ⊎_elim (λ same. subst P (sym same) own) other (is-own directory number)

-- ---- inodes but a directory that stay

pub record OthersStay (super : Super) (old new : Parts) (directory : ℕ) : Type 0 where
  pub is : is_directory (old.node directory) ≡ true
  pub nodes : (other : ℕ) → Named super old other → other ≢ directory → new.node other ≡ old.node other
  pub zones : (other : ℕ) → Named super old other → other ≢ directory → KeepsZones super old new other

module _ (super : Super) (old new : Parts) (directory : ℕ) (sound : Sound super old) (stay : OthersStay super old new directory) where
  pub file-other : (number : ℕ) → is_directory (old.node number) ≡ false → number ≢ directory
  file-other number file same = let t = ap (λ n. is_directory (old.node n)) same ∙ stay.is in cc

  pub node-other : (number : ℕ) → Named super old number → number ≢ directory → IsSameNode (old.node number) (new.node number)
  node-other number named other = same-node (old.node number) (new.node number) (stay.nodes number named other)

  pub points-was : (number : ℕ) → Named super old number → number ≢ directory → (at : Pointer) (zone : ℕ) → PointsTo super new number at zone → PointsTo super old number at zone
  points-was number named other = points-old super old new number (node-other number named other).numbers (keeps-above super old new number (stay.zones number named other))

  pub points-is : (number : ℕ) → Named super old number → number ≢ directory → (at : Pointer) (zone : ℕ) → PointsTo super old number at zone → PointsTo super new number at zone
  points-is number named other = points-new super old new number (node-other number named other).numbers (keeps-above super old new number (stay.zones number named other))

  pub entry-other : (number place : ℕ) → Named super old number → is_directory (old.node number) ≡ true → number ≢ directory → entry super new number place ≡ entry super old number place
  entry-other number place named is other = entry-same super old new number (node-other number named other).numbers (stay.zones number named other) (directory-zones old number is) place

  -- links that stay are enough
  pub links-stay : (new.node directory).links ≡ (old.node directory).links → (number : ℕ) (paths : List (List (List ℕ))) → number ≢ 1 → AreDistinct paths → AllLead super old number paths → length paths ≤ (new.node number).links
  links-stay same number [] other distinct lead = omega arith
  links-stay same number (path ∷ paths) other distinct lead =
      let named : Named super old number = record { path = path; leads = lead.0 } in
      let links : (new.node number).links ≡ (old.node number).links = of-node directory (λ n. (new.node n).links ≡ (old.node n).links) number same (λ apart. ap (λ (i : Inode). i.links) (stay.nodes number named apart)) in
      subst (λ n. length (path ∷ paths) ≤ n) (sym links) (sound.links number (path ∷ paths) other distinct lead)

  le-self : {n : ℕ} → n ≤ n
  le-self = omega arith

  -- of the sizes of others
  pub room-other : (number : ℕ) → Named super old number → number ≢ directory → places super.kind (old.node number).size ≤ places super.kind (new.node number).size
  room-other number named other = subst (λ (i : Inode). places super.kind (old.node number).size ≤ places super.kind i.size) (sym (stay.nodes number named other)) le-self

  pub size-other : (number : ℕ) → Named super old number → number ≢ directory → is_size super.kind (new.node number).size ≡ true
  size-other number named other = subst (λ (i : Inode). is_size super.kind i.size ≡ true) (sym (stay.nodes number named other)) (sound.size number named)

  pub reaches-other : (number : ℕ) → Named super old number → number ≢ directory → blocks_for (old.node number).size ≤ reach super.kind → blocks_for (new.node number).size ≤ reach super.kind
  reaches-other number named other low = subst (λ (i : Inode). blocks_for i.size ≤ reach super.kind) (sym (stay.nodes number named other)) low

  pub free-other : (number place : ℕ) → Named super old number → number ≢ directory → places super.kind (old.node number).size ≤ place → place < places super.kind (new.node number).size → ⊥
  free-other number place named other from below =
      let low : place < places super.kind (old.node number).size = subst (λ (i : Inode). place < places super.kind i.size) (stay.nodes number named other) below in
      absurd (omega (arith, from, low))

-- ---- a directory that is extended

module _ (super : Super) (old new : Parts) (directory : ℕ) (sound : Sound super old) (extends : Extends super old new directory) where
  stay : OthersStay super old new directory
  stay = record {
    is = extends.is;
    nodes = extends.nodes;
    zones = λ other named apart at zone to. extends.zones other at zone (record { named = named; to = to }) apart;
  }

  own-numbers : HasSameNumbers (old.node directory) (new.node directory)
  own-numbers = record { mode = extends.mode; zones = extends.numbers }

  was : (number : ℕ) (at : Pointer) (zone : ℕ) → Named super old number → PointsTo super new number at zone → PointsTo super old number at zone
  was number at zone named = of-node directory (λ n. PointsTo super new n at zone → PointsTo super old n at zone) number
      (λ to. points-old super old new directory own-numbers extends.above at zone to)
      (λ other to. points-was super old new directory sound stay number named other at zone to)

  is : (number : ℕ) (at : Pointer) (zone : ℕ) → Named super old number → PointsTo super old number at zone → PointsTo super new number at zone
  is number at zone named = of-node directory (λ n. PointsTo super old n at zone → PointsTo super new n at zone) number
      (λ to. points-new super old new directory own-numbers extends.above at zone to)
      (λ other to. points-is super old new directory sound stay number named other at zone to)

  seen : Sees super old new
  seen = record {
    modes = λ number named. of-node directory (λ n. (new.node n).mode ≡ (old.node n).mode) number extends.mode (λ other. ap (λ (i : Inode). i.mode) (extends.nodes number named other));
    sizes = λ number named. of-node directory (λ n. is_size super.kind (new.node n).size ≡ true) number extends.sized (λ other. size-other super old new directory sound stay number named other);
    marks = λ number named. extends.marks number named ∙ sound.marked number named;
    links = links-stay super old new directory sound stay extends.links;
    files = λ number named file. same-is-but-links (old.node number) (new.node number) (extends.nodes number named (file-other super old new directory sound stay number file));
    bytes = λ number at zone refers file. extends.zones number at zone refers (file-other super old new directory sound stay number file);
    room = λ number named is'. of-node directory (λ n. places super.kind (old.node n).size ≤ places super.kind (new.node n).size) number extends.room (λ other. room-other super old new directory sound stay number named other);
    reaches = λ number named is'. of-node directory (λ n. blocks_for (old.node n).size ≤ reach super.kind → blocks_for (new.node n).size ≤ reach super.kind) number extends.reaches (λ other. reaches-other super old new directory sound stay number named other);
    entries = λ number place named is'. of-node directory (λ n. place < places super.kind (old.node n).size → entry super new n place ≡ entry super old n place) number (extends.entries place) (λ other below. entry-other super old new directory sound stay number place named is' other);
    free = λ number place named is'. of-node directory (λ n. places super.kind (old.node n).size ≤ place → place < places super.kind (new.node n).size → (entry super new n place).inode ≡ 0) number (extends.free place) (λ other from below. absurd (free-other super old new directory sound stay number place named other from below));
    stays = λ number at zone refers is'. is number at zone refers.named refers.to;
    refers = λ number at zone named is' to. inl (was number at zone named to);
    once = λ number other at there zone named named' one two fresh. absurd (fresh.unused number at (record { named = named; to = was number at zone named one }));
    zone_marks = λ number at zone refers. extends.zone_marks number at zone refers ∙ sound.zone_marked number at zone refers;
  }

pub extends_law : ExtendsLaw
extends_law super old new directory sound extends = seen super old new directory sound extends
