-- No name sees that a directory gets zones one below the other: it is as if it got them one by one.
use Rattle.std.proofs.Common.{◌≡◌, ◌≢◌, ℕ, ◌<◌, ◌≤◌, ◌==◌, if◌then◌else◌, ◌⊎◌, Bool, true, false, List, [], ◌∷◌, length, drop, replicate, refl, sym, ◌∙◌, ap, subst, arith, eq-eqb, inl, inr, ⊎_elim}
use Rattle.std.specs.Prelude.{slice_index}
use Rattle.std.proofs.lemmas.Bool.{eqb-true, ne_eqb}
use Rattle.lilo_model.specs.MinixLayout.{Super, numbers_in_zone}
use Rattle.lilo_model.specs.MinixParts.{Parts, Pointer, IsPointer, number_in, number_below, follow}
use Rattle.lilo_model.specs.MinixNames.{pointer, Named, PointsTo, Refers, Sound}
use Rattle.minix_change_laws.specs.Sees.{IsFresh, Sees}
use Rattle.minix_change_laws.proofs.Inode.{directory-zones, shorter}
use Rattle.minix_change_laws.proofs.Sees.{directory-same, named-old, named-new, sees_law}
use Rattle.minix_change_laws.proofs.Joins.{sees_join_law}
use Rattle.minix_change_laws.specs.Grows.{pointer_at, below, IsBelow, Hooks, Deeper, down, HoldsOnly, IsApart, IsChain}
use Rattle.minix_change_laws.specs.GrowthLaws.{GrowsLaw}
use Rattle.minix_change_laws.proofs.Zeros.{number-zeros}
use Rattle.minix_change_laws.proofs.Grow.{below-zone, here-pointer, IsHook, points-by, hooked}

-- the parts, but for one zone full of zeros
abbrev pub zeroed : Parts → ℕ → Parts
zeroed parts zone = record parts { zone = λ other. if other == zone then replicate 1024 0 else parts.zone other }

zeroed-here : (parts : Parts) (zone : ℕ) → (zeroed parts zone).zone zone ≡ replicate 1024 0
zeroed-here parts zone = rw (eq-eqb zone zone refl) refl

zeroed-other : (parts : Parts) (zone other : ℕ) → other ≢ zone → (zeroed parts zone).zone other ≡ parts.zone other
zeroed-other parts zone other apart = rw (ne_eqb other zone apart) refl

-- the pointers on the way down
pub on-way : (super : Super) (at : Pointer) (more : List Deeper) → IsPointer super.kind (down at more) → IsPointer super.kind at
on-way super at [] is = is
on-way super at (next ∷ more) is = shorter super at.top next.index at.trail (on-way super (below at next.index) more is)

-- whether two zones are the same
same-zone : (one other : ℕ) → (one ≡ other) ⊎ (one ≢ other)
same-zone one other = by _ refl
  where
    by : (same : Bool) → (one == other) ≡ same → (one ≡ other) ⊎ (one ≢ other)
    by true same = inl (eqb-true one other same)
    by false same = inr (λ e. let t = eq-eqb one other e in cc)

-- ---- the first zone alone

module _ (super : Super) (old new : Parts) (directory : ℕ) (at : Pointer) (zone : ℕ) (sound : Sound super old) (place : IsPointer super.kind at) (hooks : Hooks super old new directory at zone) where
  abbrev Mid : Parts
  Mid = zeroed new zone

  -- a zone that was used isn't the new one
  used-apart : (number : ℕ) (there : Pointer) (y : ℕ) → Refers super old number there y → y ≢ zone
  used-apart number there y refers same = hooks.fresh.unused number there (subst (Refers super old number there) same refers)

  outer-refers : (index : ℕ) (before : List ℕ) → at.trail ≡ (index ∷ before) → Refers super old directory (pointer_at at.top before) (pointer super old directory (pointer_at at.top before))
  outer-refers index before trail = record {
    named = hooks.named;
    to = record {
      kind = directory-zones old directory hooks.is;
      place = shorter super at.top index before (subst (λ t. IsPointer super.kind (pointer_at at.top t)) trail place);
      is = refl;
      some = hooks.outer index before trail;
    };
  }

  hooks-first : Hooks super old Mid directory at zone
  hooks-first = record {
    named = hooks.named;
    is = hooks.is;
    hole = hooks.hole;
    some = hooks.some;
    fresh = record { range = hooks.fresh.range; marked = hooks.fresh.marked; unused = hooks.fresh.unused };
    outer = hooks.outer;
    mode = hooks.mode;
    links = hooks.links;
    sized = hooks.sized;
    room = hooks.room;
    reaches = hooks.reaches;
    top = hooks.top;
    tops = hooks.tops;
    number = λ index before trail.
        ap (λ bytes. number_in super.kind bytes index) (zeroed-other new zone (pointer super old directory (pointer_at at.top before)) (used-apart directory (pointer_at at.top before) _ (outer-refers index before trail)))
        ∙ hooks.number index before trail;
    numbers = λ outer y index to is apart.
        ap (λ bytes. number_in super.kind bytes index) (zeroed-other new zone y (used-apart directory outer y (record { named = hooks.named; to = to })))
        ∙ hooks.numbers outer y index to is apart;
    nodes = hooks.nodes;
    marks = hooks.marks;
    zones = λ number there y refers apart. zeroed-other new zone y (used-apart number there y refers) ∙ hooks.zones number there y refers apart;
    zone_marks = hooks.zone_marks;
    free = hooks.free;
  }

  pub first : Sees super old Mid
  first = hooked super old Mid directory at zone sound place hooks-first (zeroed-here new zone)

  here-mid : pointer super Mid directory at ≡ zone
  here-mid = here-pointer super old Mid directory at zone sound place hooks-first (zeroed-here new zone)

  -- ---- what comes below it

  -- who points to the zone is the directory, there
  pub at-hook : (number : ℕ) (there : Pointer) (y : ℕ) → Named super old number → PointsTo super Mid number there y → y ≡ zone → (number ≡ directory) × (there ≡ at)
  at-hook number there y named to same =
      ⊎_elim
      (λ was. absurd (used-apart number there y (record { named = named; to = was }) same))
      (λ (hook : IsHook super old Mid directory at zone sound place hooks-first (zeroed-here new zone) number there y). (hook.own, hook.here))
      (points-by super old Mid directory at zone sound place hooks-first (zeroed-here new zone) number there y named to)

  -- another zone that was unused is so still
  fresh-mid : (z : ℕ) → zone ≢ z → IsFresh super old new z → IsFresh super Mid new z
  fresh-mid z apart fresh = record {
    range = fresh.range;
    marked = fresh.marked;
    unused = λ number there refers.
        let named = named-old super old Mid first number refers.named in
        ⊎_elim
        (λ was. fresh.unused number there (record { named = named; to = was }))
        (λ (hook : IsHook super old Mid directory at zone sound place hooks-first (zeroed-here new zone) number there z). apart (sym hook.is))
        (points-by super old Mid directory at zone sound place hooks-first (zeroed-here new zone) number there z named refers.to);
  }

  pub chain-mid : (z : ℕ) (more : List Deeper) → IsApart zone more → IsChain super old new z more → IsChain super Mid new z more
  chain-mid z [] apart chain = chain
  chain-mid z (next ∷ more) apart chain = (chain.0, chain.1, fresh-mid next.zone apart.0 chain.2, chain.3, chain-mid next.zone more apart.1 chain.4)

  module _ (next : Deeper) (holds : HoldsOnly super new zone next) (some : next.zone ≢ 0) (fresh : IsFresh super old new next.zone) (apart : zone ≢ next.zone) where
    hole-next : pointer super Mid directory (below at next.index) ≡ 0
    unfolding follow
    hole-next = ap (λ y. number_below super.kind Mid.zone y next.index) here-mid ∙ below-zone super old Mid directory at zone sound place hooks-first (zeroed-here new zone) next.index

    outer-is : (index : ℕ) (before : List ℕ) → (next.index ∷ at.trail) ≡ (index ∷ before) → pointer super Mid directory (pointer_at at.top before) ≡ zone
    outer-is index before same =
        let trail : before ≡ at.trail = sym (ap (drop 1) same) in
        ap (λ t. pointer super Mid directory (pointer_at at.top t)) trail ∙ here-mid

    numbers-by : (outer : Pointer) (y index : ℕ) → PointsTo super Mid directory outer y → IsPointer super.kind (below outer index) → below outer index ≢ below at next.index
        → (y ≡ zone) ⊎ (y ≢ zone) → number_in super.kind (new.zone y) index ≡ number_in super.kind (Mid.zone y) index
    numbers-by outer y index to is away (inl same) =
        let one = (at-hook directory outer y hooks.named to same).1 in
        let other : index ≢ next.index = λ e. away (ap (λ p. below p index) one ∙ ap (below at) e) in
        let low : index < numbers_in_zone super.kind = is.within 0 0 (omega arith) in
        ap (λ z. number_in super.kind (new.zone z) index) same
        ∙ (holds.others index low other
        ∙ sym (ap (λ z. number_in super.kind (Mid.zone z) index) same ∙ (ap (λ bytes. number_in super.kind bytes index) (zeroed-here new zone) ∙ number-zeros super.kind index)))
    numbers-by outer y index to is away (inr other) = ap (λ bytes. number_in super.kind bytes index) (sym (zeroed-other new zone y other))

    zones-by : (number : ℕ) (there : Pointer) (y : ℕ) → Refers super Mid number there y → ((number ≡ directory) → IsBelow (below at next.index) there → ⊥) → (y ≡ zone) ⊎ (y ≢ zone) → new.zone y ≡ Mid.zone y
    zones-by number there y refers away (inl same) =
        let both = at-hook number there y (named-old super old Mid first number refers.named) refers.to same in
        absurd (away both.0 (next.index, ap (λ p. below p next.index) (sym both.1)))
    zones-by number there y refers away (inr other) = sym (zeroed-other new zone y other)

    le-self : {n : ℕ} → n ≤ n
    le-self = omega arith

    pub hooks-next : Hooks super Mid new directory (below at next.index) next.zone
    hooks-next = record {
      named = named-new super old Mid first directory hooks.named;
      is = directory-same super old Mid first directory hooks.named ∙ hooks.is;
      hole = hole-next;
      some = some;
      fresh = fresh-mid next.zone apart fresh;
      outer = λ index before same e. hooks.some (sym (outer-is index before same) ∙ e);
      mode = refl;
      links = refl;
      sized = hooks.sized;
      room = le-self;
      reaches = λ low. low;
      top = λ none. let t = ap length none in absurd (omega (arith, t));
      tops = λ top other. refl;
      number = λ index before same.
          ap (λ z. number_in super.kind (new.zone z) index) (outer-is index before same)
          ∙ (ap (number_in super.kind (new.zone zone)) (sym (ap (λ (t : List ℕ). slice_index t 0) same)) ∙ holds.here);
      numbers = λ outer y index to is away. numbers-by outer y index to is away (same-zone y zone);
      nodes = λ number named other. refl;
      marks = λ number named. refl;
      zones = λ number there y refers away. zones-by number there y refers away (same-zone y zone);
      zone_marks = λ number there y refers. refl;
      free = λ spot from low. absurd (omega (arith, from, low));
    }

-- ---- one by one

grows-by : (super : Super) (old new : Parts) (directory : ℕ) (at : Pointer) (zone : ℕ) (more : List Deeper) → Sound super old → IsPointer super.kind (down at more) → Hooks super old new directory at zone → IsChain super old new zone more
    → Sees super old new
grows-by super old new directory at zone [] sound place hooks chain = hooked super old new directory at zone sound place hooks chain
grows-by super old new directory at zone (next ∷ more) sound place hooks chain =
    let way = on-way super at (next ∷ more) place in
    let seen = first super old new directory at zone sound way hooks in
    let more_seen = grows-by super (zeroed new zone) new directory (below at next.index) next.zone more (sees_law super old (zeroed new zone) sound seen).sound place
    (hooks-next super old new directory at zone sound way hooks next chain.0 chain.1 chain.2 chain.3.0)
    (chain-mid super old new directory at zone sound way hooks next.zone more chain.3.1 chain.4) in
    sees_join_law super old (zeroed new zone) new seen more_seen

pub grows_law : GrowsLaw
grows_law super old new directory at zone more sound grows = grows-by super old new directory at zone more sound grows.place grows.hooks grows.chain
