-- What growth leaves of all inodes but the directory.
use Rattle.std.proofs.Common.{◌≡◌, ◌≢◌, ◌≤◌, ◌<◌, ◌==◌, ◌⊎◌, if◌then◌else◌, ℕ, zero, suc, true, false, List, [], ◌∷◌, length, take, refl, sym, ◌∙◌, ap, subst, arith, eq-eqb, inl, inr, ⊎_elim}
use Rattle.std.specs.Prelude.{slice_index}
use Rattle.std.proofs.lemmas.Bool.{cases_eq, ne_eqb}
use Rattle.std.proofs.lemmas.List.{get_or-take, length-take-le}
use Rattle.lilo_model.specs.MinixEntries.{Entry}
use Rattle.lilo_model.specs.MinixLayout.{Kind, Super, Inode}
use Rattle.lilo_model.specs.MinixNames.{pointer, Named, PointsTo, Refers, Sound}
use Rattle.lilo_model.specs.MinixParts.{Parts, Pointer, is_directory}
use Rattle.minix_change_laws.specs.Keeps.{Keeps}
use Rattle.minix_change_laws.specs.Comes.{IsFit}
use Rattle.minix_change_laws.specs.Only.{zone_of_entry, KeepsInode}
use Rattle.minix_change_laws.proofs.Only.{directory-refers, above-kept}
use Rattle.minix_change_laws.specs.Changes.{ChangesZone, ChangesNode, MayHook, MaySize, HasNumber, with_size, with_top}
use Rattle.minix_change_laws.specs.Grows.{pointer_at, below, Deeper, IsApart, IsChain}
use Rattle.minix_change_laws.proofs.Changes.{top_law, number_law}
use Rattle.minix_change_laws.proofs.Extends.{of-node}
use Rattle.minix_change_laws.specs.Sees.{IsFresh, Sees}
use Rattle.minix_change_laws.proofs.Inode.{HasSameNumbers, IsSameNode, KeepsAbove, same-node, keeps-above, points-old, points-new, directory-zones, entry-same}
use Rattle.minix_change_laws.proofs.Kept.{kept_is_seen_law}
use Rattle.minix_change_laws.proofs.Sees.{named-old, named-new, refers-old, sees_law}
use Rattle.minix_grow.specs.Others.{IsOneOf, IsNoneOf, IsClearOf, IsZoneOf, SameButZones, ChangesZones, KeepsOthers}
use Rattle.minix_grow.specs.Way.{zones_below}

-- ---- one of some zones, or none

one_below : (zones : List ℕ) (zone count : ℕ) → count ≤ length zones → IsOneOf zones zone ⊎ ((at : ℕ) → at < count → slice_index zones at ≢ zone)
one_below zones zone zero few = inr (λ at low. absurd (omega (arith, low)))
one_below zones zone (suc count) few = by (cases_eq (slice_index zones count) zone) (one_below zones zone count (omega (arith, few)))
  where
    last : slice_index zones count ≢ zone → ((at : ℕ) → at < count → slice_index zones at ≢ zone) → (at : ℕ) → at < suc count → (at ≡ count) ⊎ (at ≢ count) → slice_index zones at ≢ zone
    last apart earlier at low (inl same) is = apart (ap (slice_index zones) (sym same) ∙ is)
    last apart earlier at low (inr other) is = earlier at (omega (arith, low, other)) is

    by : (slice_index zones count ≡ zone) ⊎ (slice_index zones count ≢ zone) → IsOneOf zones zone ⊎ ((at : ℕ) → at < count → slice_index zones at ≢ zone)
        → IsOneOf zones zone ⊎ ((at : ℕ) → at < suc count → slice_index zones at ≢ zone)
    by (inl same) earlier = inl (record { at = count; low = omega (arith, few); is = same })
    by (inr apart) (inl one) = inl one
    by (inr apart) (inr earlier) = inr (λ at low. last apart earlier at low (cases_eq at count))

pub one_or_none : (zones : List ℕ) (zone : ℕ) → IsOneOf zones zone ⊎ IsNoneOf zones zone
one_or_none zones zone = one_below zones zone (length zones) (omega arith)

pub one_of_first : (zones : List ℕ) (count zone : ℕ) → count ≤ length zones → IsOneOf (take count zones) zone → IsOneOf zones zone
one_of_first zones count zone few one =
    let long : length (take count zones) ≡ count = length-take-le count zones few in
    let low = one.low in
    let below : one.at < count = omega (arith, low, long) in
    record { at = one.at; low = omega (arith, below, few); is = sym (get_or-take count zones one.at _ below) ∙ one.is }

pub one_of_none : (zones : List ℕ) (zone : ℕ) → IsOneOf [] zone → IsOneOf zones zone
one_of_none zones zone one = let low = one.low in absurd (omega (arith, low))

-- zones of growth further down are apart from what is none of them
pub apart_below : (kind : Kind) (block : ℕ) (growth : List ℕ) (zone : ℕ) → IsNoneOf growth zone → (level : ℕ) → level ≤ length growth → IsApart zone (zones_below kind block growth level)
apart_below kind block growth zone none zero few = tt
apart_below kind block growth zone none (suc level) few = (λ same. none level (omega (arith, few)) (sym same), apart_below kind block growth zone none level (omega (arith, few)))

-- ---- more zones of growth, none, and one growth after another

pub keeps_wider : (super : Super) (old new : Parts) (directory : ℕ) (few growth : List ℕ) → ((zone : ℕ) → IsOneOf few zone → IsOneOf growth zone) → KeepsOthers super old new directory few → KeepsOthers super old new directory growth
keeps_wider super old new directory few growth wide keeps = record {
  points = λ number at zone named to. ⊎_elim (λ was. inl was) (λ one. inr (wide zone one)) (keeps.points number at zone named to);
  others = λ number fit other clear. keeps.others number fit other (λ at zone to. fewer zone (clear at zone to));
  nodes = keeps.nodes;
  own = keeps.own;
  stays = keeps.stays;
  marks = keeps.marks;
  zone_marks = λ zone is none. keeps.zone_marks zone is (fewer zone none);
  stay_marked = keeps.stay_marked;
  used = keeps.used;
}
  where
    fewer : (zone : ℕ) → IsNoneOf growth zone → IsNoneOf few zone
    fewer zone none at low same = let one = wide zone (record { at = at; low = low; is = same }) in none one.at one.low one.is

pub keeps_none : (super : Super) (parts : Parts) (directory : ℕ) (growth : List ℕ) → KeepsOthers super parts parts directory growth
keeps_none super parts directory growth = record {
  points = λ number at zone named to. inl to;
  others = λ number fit other clear. record { node = refl; mark = refl; zones = λ at zone to. refl; zone_marks = λ at zone to. refl };
  nodes = λ number is other. refl;
  own = refl;
  stays = λ at zone to. to;
  marks = λ number is. refl;
  zone_marks = λ zone is none. refl;
  stay_marked = λ zone is set. set;
  used = λ zone is set. inl set;
}

-- an inode that stays points to what it pointed to
pub points_kept : (super : Super) (old new : Parts) (number : ℕ) → KeepsInode super old new number → (at : Pointer) (zone : ℕ) → PointsTo super old number at zone → PointsTo super new number at zone
points_kept super old new number kept = points-new super old new number (same-node (old.node number) (new.node number) kept.node).numbers (keeps-above super old new number kept.zones)

-- and stays in two changes in a row
pub kept_join : (super : Super) (old mid new : Parts) (number : ℕ) → KeepsInode super old mid number → KeepsInode super mid new number → KeepsInode super old new number
kept_join super old mid new number one two = record {
  node = two.node ∙ one.node;
  mark = two.mark ∙ one.mark;
  zones = λ at zone to. two.zones at zone (points_kept super old mid number one at zone to) ∙ one.zones at zone to;
  zone_marks = λ at zone to. two.zone_marks at zone (points_kept super old mid number one at zone to) ∙ one.zone_marks at zone to;
}

-- the pointers of named inodes lead where they led, or to one of some zones
abbrev pub PointsGrown : Super → Parts → Parts → List ℕ → Type 0
PointsGrown super old new growth =
    (number : ℕ) (at : Pointer) (zone : ℕ) → Named super old number → PointsTo super new number at zone → PointsTo super old number at zone ⊎ IsOneOf growth zone

module _ (super : Super) (old new : Parts) (growth : List ℕ) (sees : Sees super old new) (points : PointsGrown super old new growth)
    (number : ℕ) (fit : IsFit super old number) (clear : IsClearOf super old number growth) (kept : KeepsInode super old new number) where
  node : IsSameNode (old.node number) (new.node number)
  node = same-node (old.node number) (new.node number) kept.node

  pub points_were : (at : Pointer) (zone : ℕ) → PointsTo super new number at zone → PointsTo super old number at zone
  points_were = points-old super old new number node.numbers (keeps-above super old new number kept.zones)

  -- it is fit for a name still, and clear of these zones
  pub fit_kept : IsFit super new number
  fit_kept = record {
    range = fit.range;
    marked = kept.mark ∙ fit.marked;
    mode = rw kept.node fit.mode;
    size = rw kept.node fit.size;
    zone_range = λ at zone to. fit.zone_range at zone (points_were at zone to);
    zone_marked = λ at zone to. let was = points_were at zone to in kept.zone_marks at zone was ∙ fit.zone_marked at zone was;
    once = λ at there zone one two. fit.once at there zone (points_were at zone one) (points_were there zone two);
    apart = λ next at there zone to refers.
        let was = points_were at zone to in
        let named = named-old super old new sees next refers.named in
        ⊎_elim
        (λ old-to. fit.apart next at there zone was (record { named = named; to = old-to }))
        (λ (one : IsOneOf growth zone). absurd (clear at zone was one.at one.low one.is))
        (points next there zone named refers.to);
  }

  pub clear_kept : IsClearOf super new number growth
  clear_kept at zone to = clear at zone (points_were at zone to)

-- what stays of an inode but for its size and zones
pub same-but-zones : (old new : Inode) → new ≡ old → SameButZones old new
same-but-zones old new same = subst (SameButZones old) (sym same) refl

zones-join : (old mid new : Inode) → SameButZones old mid → SameButZones mid new → SameButZones old new
zones-join old mid new one two =
    let size : ℕ = new.size in
    let zones : List ℕ = new.zones in
    two ∙ ap (λ (i : Inode). record i { size = size; zones = zones }) one

pub keeps_join : (super : Super) (old mid new : Parts) (directory : ℕ) (growth : List ℕ) → Sees super old mid → KeepsOthers super old mid directory growth → KeepsOthers super mid new directory growth → KeepsOthers super old new directory growth
keeps_join super old mid new directory growth sees one two = record {
  points = λ number at zone named to.
      ⊎_elim (λ was. one.points number at zone named was) (λ grown. inr grown) (two.points number at zone (named-new super old mid sees number named) to);
  others = λ number fit other clear.
      let first = one.others number fit other clear in
      let next = two.others number (fit_kept super old mid growth sees one.points number fit clear first) other (clear_kept super old mid growth sees one.points number fit clear first) in
      kept_join super old mid new number first next;
  nodes = λ number is other. two.nodes number is other ∙ one.nodes number is other;
  own = zones-join (old.node directory) (mid.node directory) (new.node directory) one.own two.own;
  stays = λ at zone to. two.stays at zone (one.stays at zone to);
  marks = λ number is. two.marks number is ∙ one.marks number is;
  zone_marks = λ zone is none. two.zone_marks zone is none ∙ one.zone_marks zone is none;
  stay_marked = λ zone is set. two.stay_marked zone is (one.stay_marked zone is set);
  used = λ zone is set. ⊎_elim
      (λ was. ⊎_elim (λ first. inl first) (λ has. inr (has.0, two.stays has.0 zone has.1)) (one.used zone is was))
      (λ has. inr has)
      (two.used zone is set);
}

-- New zones that no named inode refers to, and then a change by which the directory gets each of them.
module _ (super : Super) (old mid new : Parts) (directory : ℕ) (growth : List ℕ) (sound : Sound super old) (own : Named super old directory)
    (unused : (zone : ℕ) → IsOneOf growth zone → (number : ℕ) (at : Pointer) → Refers super old number at zone → ⊥) (sees : Sees super old mid)
    (change : ChangesZones super old mid growth) (keeps : KeepsOthers super mid new directory growth) (has : (zone : ℕ) → IsOneOf growth zone → IsZoneOf super new directory zone) where
  numbers : (number : ℕ) → Named super old number → IsSameNode (old.node number) (mid.node number)
  numbers number named = same-node (old.node number) (mid.node number) (change.nodes number (sound.in_range number named))

  zones : (number : ℕ) → Named super old number → (at : Pointer) (zone : ℕ) → PointsTo super old number at zone → mid.zone zone ≡ old.zone zone
  zones number named at zone to =
      let refers : Refers super old number at zone = record { named = named; to = to } in
      change.bytes zone (sound.zone_range number at zone refers) (λ i low same. unused zone (record { at = i; low = low; is = same }) number at refers)

  points-mid : PointsGrown super old mid growth
  points-mid number at zone named to = inl (points-old super old mid number (numbers number named).numbers (keeps-above super old mid number (zones number named)) at zone to)

  kept-mid : (number : ℕ) → IsFit super old number → IsClearOf super old number growth → KeepsInode super old mid number
  kept-mid number fit clear = record {
    node = change.nodes number fit.range;
    mark = change.marks number fit.range;
    zones = λ at zone to. change.bytes zone (fit.zone_range at zone to) (clear at zone to);
    zone_marks = λ at zone to. change.zone_marks zone (fit.zone_range at zone to) (clear at zone to);
  }

  pub grown_keeps : KeepsOthers super old new directory growth
  grown_keeps = record {
    points = λ number at zone named to.
        ⊎_elim (λ was. points-mid number at zone named was) (λ grown. inr grown) (keeps.points number at zone (named-new super old mid sees number named) to);
    others = λ number fit other clear.
        let first = kept-mid number fit clear in
        let next = keeps.others number (fit_kept super old mid growth sees points-mid number fit clear first) other (clear_kept super old mid growth sees points-mid number fit clear first) in
        kept_join super old mid new number first next;
    nodes = λ number is other. keeps.nodes number is other ∙ change.nodes number is;
    own = zones-join (old.node directory) (mid.node directory) (new.node directory) (same-but-zones (old.node directory) (mid.node directory) (change.nodes directory (sound.in_range directory own))) keeps.own;
    stays = λ at zone to. keeps.stays at zone (points-new super old mid directory (numbers directory own).numbers (keeps-above super old mid directory (zones directory own)) at zone to);
    marks = λ number is. keeps.marks number is ∙ change.marks number is;
    zone_marks = λ zone is none. keeps.zone_marks zone is none ∙ change.zone_marks zone is none;
    stay_marked = λ zone is set. keeps.stay_marked zone is (change.stay_marked zone is set);
    used = λ zone is set. ⊎_elim
        (λ one. inr (has zone one))
        (λ none. inl (sym (keeps.zone_marks zone is none ∙ change.zone_marks zone is none) ∙ set))
        (one_or_none growth zone);
  }

-- ---- what one change keeps, by the pointers that named inodes have after it, and those of the directory

abbrev pub StaysAt : Super → Parts → Parts → ℕ → Type 0
StaysAt super old new directory = (at : Pointer) (zone : ℕ) → PointsTo super old directory at zone → PointsTo super new directory at zone

-- of the directory's inode
pub keeps_node : (super : Super) (old new : Parts) (directory : ℕ) (growth : List ℕ) (inode : Inode) → SameButZones (old.node directory) inode → PointsGrown super old new growth → StaysAt super old new directory
    → ChangesNode super old new directory inode → KeepsOthers super old new directory growth
keeps_node super old new directory growth inode same points stays change = record {
  points = points;
  others = λ number fit other clear. record {
    node = change.others number fit.range other;
    mark = change.marks number fit.range;
    zones = λ at zone to. change.zones zone (fit.zone_range at zone to);
    zone_marks = λ at zone to. change.zone_marks zone (fit.zone_range at zone to);
  };
  nodes = change.others;
  own = subst (SameButZones (old.node directory)) (sym change.here) same;
  stays = stays;
  marks = change.marks;
  zone_marks = λ zone is none. change.zone_marks zone is;
  stay_marked = λ zone is set. change.zone_marks zone is ∙ set;
  used = λ zone is set. inl (sym (change.zone_marks zone is) ∙ set);
}

-- of a zone that the directory has
pub keeps_zone : (super : Super) (old new : Parts) (directory : ℕ) (growth : List ℕ) (there : Pointer) (zone : ℕ) (bytes : List ℕ) → Sound super old → PointsGrown super old new growth → StaysAt super old new directory → Refers super old directory there zone
    → ChangesZone super old new zone bytes → KeepsOthers super old new directory growth
keeps_zone super old new directory growth there zone bytes sound points stays refers change = record {
  points = points;
  others = λ number fit other clear. record {
    node = change.nodes number fit.range;
    mark = change.marks number fit.range;
    zones = λ at z to. change.others z (fit.zone_range at z to) (λ same. other (fit.apart directory at there z to (subst (Refers super old directory there) (sym same) refers)));
    zone_marks = λ at z to. change.zone_marks z (fit.zone_range at z to);
  };
  nodes = λ number is other. change.nodes number is;
  own = same-but-zones (old.node directory) (new.node directory) (change.nodes directory (sound.in_range directory refers.named));
  stays = stays;
  marks = change.marks;
  zone_marks = λ z is none. change.zone_marks z is;
  stay_marked = λ z is set. change.zone_marks z is ∙ set;
  used = λ z is set. inl (sym (change.zone_marks z is) ∙ set);
}

-- its size
module _ (super : Super) (old new : Parts) (directory size : ℕ) (growth : List ℕ) (sound : Sound super old) (own : Named super old directory) (change : ChangesNode super old new directory (with_size (old.node directory) size)) where
  zones-sized : (number : ℕ) → Named super old number → (at : Pointer) (zone : ℕ) → PointsTo super old number at zone → new.zone zone ≡ old.zone zone
  zones-sized number named at zone to = change.zones zone (sound.zone_range number at zone (record { named = named; to = to }))

  numbers-sized : (number : ℕ) → Named super old number → HasSameNumbers (old.node number) (new.node number)
  numbers-sized number named = of-node directory (λ n. HasSameNumbers (old.node n) (new.node n)) number
      (record { mode = ap (λ (i : Inode). i.mode) change.here; zones = ap (λ (i : Inode). i.zones) change.here })
      (λ apart. (same-node (old.node number) (new.node number) (change.others number (sound.in_range number named) apart)).numbers)

  pub keeps_size : KeepsOthers super old new directory growth
  keeps_size =
      keeps_node super old new directory growth _ refl
      (λ number at zone named to. inl (points-old super old new number (numbers-sized number named) (keeps-above super old new number (zones-sized number named)) at zone to))
      (points-new super old new directory (numbers-sized directory own) (keeps-above super old new directory (zones-sized directory own)))
      change

-- bytes of the zone with a place
module _ (super : Super) (old new : Parts) (directory place : ℕ) (bytes growth : List ℕ) (sound : Sound super old) (named : Named super old directory) (is : is_directory (old.node directory) ≡ true)
    (some : zone_of_entry super old directory place ≢ 0) (change : ChangesZone super old new (zone_of_entry super old directory place) bytes) where
  numbers-filled : (number : ℕ) → Named super old number → HasSameNumbers (old.node number) (new.node number)
  numbers-filled number named' = (same-node (old.node number) (new.node number) (change.nodes number (sound.in_range number named'))).numbers

  above-filled : (number : ℕ) → Named super old number → KeepsAbove super old new number
  above-filled = above-kept super old directory place named is new sound (λ n there z refers apart. change.others z (sound.zone_range n there z refers) apart)

  pub keeps_bytes : KeepsOthers super old new directory growth
  keeps_bytes =
      keeps_zone super old new directory growth _ _ bytes sound
      (λ number at zone named' to. inl (points-old super old new number (numbers-filled number named') (above-filled number named') at zone to))
      (points-new super old new directory (numbers-filled directory named) (above-filled directory named))
      (directory-refers super old directory place named is _ some refl) change

-- ---- which pointers come: no name sees a change of parts in which a zone that isn't of the growth isn't marked either

-- parts in which a zone isn't marked
abbrev unmarked : Parts → ℕ → Parts
unmarked parts zone = record parts { has_zone = λ other. if other == zone then false else parts.has_zone other }

unmarked-here : (parts : Parts) (zone : ℕ) → (unmarked parts zone).has_zone zone ≡ false
unmarked-here parts zone = rw (eq-eqb zone zone refl) refl

unmarked-other : (parts : Parts) (zone other : ℕ) → other ≢ zone → (unmarked parts zone).has_zone other ≡ parts.has_zone other
unmarked-other parts zone other apart = rw (ne_eqb other zone apart) refl

points-marked : (super : Super) (parts : Parts) (spare number : ℕ) (at : Pointer) (zone : ℕ) → PointsTo super (unmarked parts spare) number at zone → PointsTo super parts number at zone
points-marked super parts spare number at zone to = record { kind = to.kind; place = to.place; is = to.is; some = to.some }

points-unmarked : (super : Super) (parts : Parts) (spare number : ℕ) (at : Pointer) (zone : ℕ) → PointsTo super parts number at zone → PointsTo super (unmarked parts spare) number at zone
points-unmarked super parts spare number at zone to = record { kind = to.kind; place = to.place; is = to.is; some = to.some }

module _ (super : Super) (old : Parts) (spare : ℕ) (sound : Sound super old) (unused : (number : ℕ) (at : Pointer) → Refers super old number at spare → ⊥) where
  abbrev Less : Parts
  Less = unmarked old spare

  less-keeps : Keeps super old Less
  less-keeps = record {
    nodes = λ number named. refl;
    marks = λ number named. refl;
    zones = λ number at zone refers. refl;
    zone_marks = λ number at zone refers. unmarked-other old spare zone (λ same. unused number at (subst (Refers super old number at) same refers));
  }

  less-sees : Sees super old Less
  less-sees = kept_is_seen_law super old Less sound less-keeps

  less-sound : Sound super Less
  less-sound = (sees_law super old Less sound less-sees).sound

  less-fresh : (zone : ℕ) → zone ≢ spare → IsFresh super old old zone → IsFresh super Less Less zone
  less-fresh zone apart fresh = record {
    range = fresh.range;
    marked = unmarked-other old spare zone apart ∙ fresh.marked;
    unused = λ number at refers. fresh.unused number at (record { named = named-old super old Less less-sees number refers.named; to = points-marked super old spare number at zone refers.to });
  }

  less-chain : (zone : ℕ) (more : List Deeper) → IsApart spare more → IsChain super old old zone more → IsChain super Less Less zone more
  less-chain zone [] apart chain = chain
  less-chain zone (next ∷ more) apart chain = (
    record { here = chain.0.here; others = chain.0.others },
    chain.1,
    less-fresh next.zone (λ same. apart.0 (sym same)) chain.2,
    chain.3,
    less-chain next.zone more apart.1 chain.4,
  )

  less-hook : (directory : ℕ) (at : Pointer) (zone : ℕ) (more : List Deeper) → zone ≢ spare → IsApart spare more → MayHook super old directory at zone more → MayHook super Less directory at zone more
  less-hook directory at zone more apart below-apart may = record {
    named = named-new super old Less less-sees directory may.named;
    is = may.is;
    place = may.place;
    hole = may.hole;
    some = may.some;
    fresh = less-fresh zone apart may.fresh;
    chain = less-chain zone more below-apart may.chain;
  }

  less-sized : (directory size : ℕ) → MaySize super old directory size → MaySize super Less directory size
  less-sized directory size may = record {
    named = named-new super old Less less-sees directory may.named;
    is = may.is;
    sized = may.sized;
    room = may.room;
    reaches = may.reaches;
    free = λ place from low.
        ap (λ (e : Entry). e.inode) (entry-same super old Less directory (record { mode = refl; zones = refl }) (λ at zone to. refl) (directory-zones old directory may.is) place)
        ∙ may.free place from low;
  }

module _ (super : Super) (old new : Parts) (growth : List ℕ) (sound : Sound super old) (sees : Sees super old new)
    (less : (spare : ℕ) → IsNoneOf growth spare → ((number : ℕ) (at : Pointer) → Refers super old number at spare → ⊥) → Sees super (unmarked old spare) (unmarked new spare)) where
  points-by : (number : ℕ) (at : Pointer) (zone : ℕ) → Named super old number → PointsTo super new number at zone → IsFresh super old new zone → IsOneOf growth zone ⊎ IsNoneOf growth zone
      → PointsTo super old number at zone ⊎ IsOneOf growth zone
  points-by number at zone named to fresh (inl one) = inr one
  points-by number at zone named to fresh (inr none) =
      let seen = less zone none fresh.unused in
      let named' = named-new super old (unmarked old zone) (less-sees super old zone sound fresh.unused) number named in
      ⊎_elim
      (λ (was : Refers super (unmarked old zone) number at zone). inl (points-marked super old zone number at zone was.to))
      (λ (other : IsFresh super (unmarked old zone) (unmarked new zone) zone). let set = other.marked in let clear = unmarked-here new zone in absurd (cc))
      (refers-old super (unmarked old zone) (unmarked new zone) seen number at zone (record { named = named-new super (unmarked old zone) (unmarked new zone) seen number named'; to = points-unmarked super new zone number at zone to }))

  pub points_grown : PointsGrown super old new growth
  points_grown number at zone named to =
      ⊎_elim
      (λ (was : Refers super old number at zone). inl was.to)
      (λ (fresh : IsFresh super old new zone). points-by number at zone named to fresh (one_or_none growth zone))
      (refers-old super old new sees number at zone (record { named = named-new super old new sees number named; to = to }))

-- ---- a number in the inode, and one in an indirect zone

module _ (super : Super) (old new : Parts) (directory top size high place-block : ℕ) (growth : List ℕ) (sound : Sound super old) (there : high < length growth)
    (may : MayHook super old directory (pointer_at top []) (slice_index growth high) (zones_below super.kind place-block growth high)) (sized : MaySize super old directory size)
    (low : top < length (old.node directory).zones) (change : ChangesNode super old new directory (with_top (old.node directory) top (slice_index growth high) size)) where
  top-less : (spare : ℕ) → IsNoneOf growth spare → ((number : ℕ) (at : Pointer) → Refers super old number at spare → ⊥) → Sees super (unmarked old spare) (unmarked new spare)
  top-less spare none unused =
      top_law super (unmarked old spare) (unmarked new spare) directory top (slice_index growth high) size (zones_below super.kind place-block growth high) (less-sound super old spare sound unused)
      (less-hook super old spare sound unused directory (pointer_at top []) (slice_index growth high) (zones_below super.kind place-block growth high) (none high there)
      (apart_below super.kind place-block growth spare none high (omega (arith, there))) may)
      (less-sized super old spare sound unused directory size sized) low
      (record {
        here = change.here;
        others = change.others;
        zones = change.zones;
        marks = change.marks;
        zone_marks = λ zone is. ap (λ b. if zone == spare then false else b) (change.zone_marks zone is);
      })

  top-sees : Sees super old new
  top-sees = top_law super old new directory top (slice_index growth high) size (zones_below super.kind place-block growth high) sound may sized low change

  pub keeps_top : KeepsOthers super old new directory growth
  keeps_top =
      keeps_node super old new directory growth _ refl
      (points_grown super old new growth sound top-sees top-less)
      (λ at zone to. top-sees.stays directory at zone (record { named = may.named; to = to }) may.is)
      change

module _ (super : Super) (old new : Parts) (directory index high place-block : ℕ) (outer : Pointer) (growth bytes : List ℕ) (sound : Sound super old) (there : high < length growth)
    (may : MayHook super old directory (below outer index) (slice_index growth high) (zones_below super.kind place-block growth high)) (refers : Refers super old directory outer (pointer super old directory outer))
    (has : HasNumber super (old.zone (pointer super old directory outer)) bytes index (slice_index growth high)) (change : ChangesZone super old new (pointer super old directory outer) bytes) where
  number-less : (spare : ℕ) → IsNoneOf growth spare → ((number : ℕ) (at : Pointer) → Refers super old number at spare → ⊥) → Sees super (unmarked old spare) (unmarked new spare)
  number-less spare none unused =
      number_law super (unmarked old spare) (unmarked new spare) directory outer index (slice_index growth high) (zones_below super.kind place-block growth high) bytes (less-sound super old spare sound unused)
      (less-hook super old spare sound unused directory (below outer index) (slice_index growth high) (zones_below super.kind place-block growth high) (none high there)
      (apart_below super.kind place-block growth spare none high (omega (arith, there))) may)
      refers.to.some has
      (record {
        here = change.here;
        others = change.others;
        nodes = change.nodes;
        marks = change.marks;
        zone_marks = λ zone is. ap (λ b. if zone == spare then false else b) (change.zone_marks zone is);
      })

  number-sees : Sees super old new
  number-sees = number_law super old new directory outer index (slice_index growth high) (zones_below super.kind place-block growth high) bytes sound may refers.to.some has change

  pub keeps_number : KeepsOthers super old new directory growth
  keeps_number =
      keeps_zone super old new directory growth outer _ bytes sound
      (points_grown super old new growth sound number-sees number-less)
      (λ at zone to. number-sees.stays directory at zone (record { named = may.named; to = to }) may.is)
      refers change
