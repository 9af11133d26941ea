-- One zone or one inode that changes, where no name sees it.
use Rattle.std.proofs.Common.{◌≡◌, ◌≢◌, ℕ, ◌/◌, ◌%◌, ◌<◌, ◌≤◌, ◌==◌, ◌⊎◌, Bool, true, false, List, [], ◌∷◌, length, refl, sym, ◌∙◌, ap, subst, arith, eq-eqb, inl, inr, get_or-set_other, get_or-set_same}
use Rattle.std.specs.Prelude.{slice_index}
use Rattle.std.proofs.lemmas.Bool.{eqb-true, cases_eq}
use Rattle.lilo_model.specs.MinixLayout.{Super, Inode, numbers_in_zone, reach}
use Rattle.lilo_model.specs.MinixParts.{Parts, Pointer, IsPointer, has_zones, number_in, block_pointer, zone_bytes}
use Rattle.lilo_model.specs.MinixEntries.{Entry, entry_in, entries_per_block, places}
use Rattle.lilo_model.specs.MinixNames.{pointer, zone_number, block, entry, Named, PointsTo, Refers, AllLead, AreDistinct, Sound}
use Rattle.minix_laws.proofs.Pointers.{pointer_law}
use Rattle.minix_change_laws.specs.Sees.{IsFresh, with_links, SameButLinks, Sees}
use Rattle.minix_change_laws.proofs.Inode.{HasSameNumbers, directory-zones, shorter, KeepsZones, pointer-same, entry-same}
use Rattle.minix_change_laws.proofs.Kept.{same-is-but-links, links_law}
use Rattle.minix_change_laws.specs.Only.{zone_of_entry}
use Rattle.minix_change_laws.proofs.Only.{directory-refers, zone-kept, above-kept}
use Rattle.minix_change_laws.proofs.Blocks.{block-below}
use Rattle.minix_change_laws.specs.Extends.{Extends}
use Rattle.minix_change_laws.specs.Grows.{pointer_at, below, IsBelow, Hooks, Deeper, IsChain}
use Rattle.minix_change_laws.specs.Changes.{ChangesZone, ChangesNode, with_size, MaySize, MayFill, MayHook, HasNumber, with_top}
use Rattle.minix_change_laws.specs.ChangeLaws.{LinksChangeLaw, SizeChangeLaw, FillLaw, NumberLaw, TopLaw}
use Rattle.minix_change_laws.proofs.Extends.{of-node, extends_law}
use Rattle.minix_change_laws.proofs.Chain.{on-way, grows_law}

-- ---- one inode

module _ (super : Super) (old new : Parts) (number : ℕ) (inode : Inode) (sound : Sound super old) (change : ChangesNode super old new number inode) where
  nodes-stay : (other : ℕ) → Named super old other → other ≢ number → new.node other ≡ old.node other
  nodes-stay other named apart = change.others other (sound.in_range other named) apart

  marks-stay : (other : ℕ) → Named super old other → new.has_inode other ≡ old.has_inode other
  marks-stay other named = change.marks other (sound.in_range other named)

  zones-stay : (other : ℕ) (at : Pointer) (zone : ℕ) → Refers super old other at zone → new.zone zone ≡ old.zone zone
  zones-stay other at zone refers = change.zones zone (sound.zone_range other at zone refers)

  zone-marks-stay : (other : ℕ) (at : Pointer) (zone : ℕ) → Refers super old other at zone → new.has_zone zone ≡ old.has_zone zone
  zone-marks-stay other at zone refers = change.zone_marks zone (sound.zone_range other at zone refers)

-- links

pub links_change_law : LinksChangeLaw
links_change_law super old new number links sound named enough change = links_law super old new sound (record {
  nodes = λ other named'. of-node number (λ n. SameButLinks (old.node n) (new.node n)) other own (λ apart. same-is-but-links (old.node other) (new.node other) (nodes-stay super old new number _ sound change other named' apart));
  links = λ other paths root distinct lead. links-by other paths root distinct lead;
  marks = marks-stay super old new number _ sound change;
  zones = zones-stay super old new number _ sound change;
  zone_marks = zone-marks-stay super old new number _ sound change;
})
  where
    own-links : (new.node number).links ≡ links
    own-links = ap (λ (i : Inode). i.links) change.here

    own : SameButLinks (old.node number) (new.node number)
    own = change.here ∙ ap (with_links (old.node number)) (sym own-links)

    links-by : (other : ℕ) (paths : List (List (List ℕ))) → other ≢ 1 → AreDistinct paths → AllLead super old other paths → length paths ≤ (new.node other).links
    links-by other [] root distinct lead = omega arith
    links-by other (path ∷ paths) root distinct lead =
        of-node number (λ n. n ≢ 1 → AllLead super old n (path ∷ paths) → length (path ∷ paths) ≤ (new.node n).links) other
        (λ root' lead'. subst (λ n. length (path ∷ paths) ≤ n) (sym own-links) (enough (path ∷ paths) root' distinct lead'))
        (λ apart root' lead'. subst (λ (i : Inode). length (path ∷ paths) ≤ i.links) (sym (nodes-stay super old new number _ sound change other (record { path = path; leads = lead.0 }) apart)) (sound.links other (path ∷ paths) root' distinct lead'))
        root lead

-- the size

module _ (super : Super) (old new : Parts) (directory size : ℕ) (sound : Sound super old) (may : MaySize super old directory size) (change : ChangesNode super old new directory (with_size (old.node directory) size)) where
  own-numbers : HasSameNumbers (old.node directory) (new.node directory)
  own-numbers = record { mode = ap (λ (i : Inode). i.mode) change.here; zones = ap (λ (i : Inode). i.zones) change.here }

  own-size : (new.node directory).size ≡ size
  own-size = ap (λ (i : Inode). i.size) change.here

  own-zones : KeepsZones super old new directory
  own-zones at zone to = zones-stay super old new directory _ sound change directory at zone (record { named = may.named; to = to })

  own-entry : (place : ℕ) → entry super new directory place ≡ entry super old directory place
  own-entry place = entry-same super old new directory own-numbers own-zones (directory-zones old directory may.is) place

  sized-extends : Extends super old new directory
  sized-extends = record {
    named = may.named;
    is = may.is;
    mode = own-numbers.mode;
    links = ap (λ (i : Inode). i.links) change.here;
    numbers = own-numbers.zones;
    sized = rw own-size may.sized;
    room = rw own-size may.room;
    reaches = λ low. rw own-size (may.reaches low);
    entries = λ place below. own-entry place;
    free = λ place from below'. ap (λ (e : Entry). e.inode) (own-entry place) ∙ may.free place from (subst (λ n. place < places super.kind n) own-size below');
    above = λ top index trail zone pointer to. own-zones (record { top = top; trail = trail }) zone to;
    nodes = nodes-stay super old new directory _ sound change;
    marks = marks-stay super old new directory _ sound change;
    zones = λ other at zone refers apart. zones-stay super old new directory _ sound change other at zone refers;
    zone_marks = zone-marks-stay super old new directory _ sound change;
  }

pub size_change_law : SizeChangeLaw
size_change_law super old new directory size sound may change = extends_law super old new directory sound (sized-extends super old new directory size sound may change)

-- a number and the size

module _ (super : Super) (old new : Parts) (directory top zone size : ℕ) (more : List Deeper) (sound : Sound super old) (may : MayHook super old directory (pointer_at top []) zone more) (sized : MaySize super old directory size) (low : top < length (old.node directory).zones)
    (change : ChangesNode super old new directory (with_top (old.node directory) top zone size)) where
  top-size : (new.node directory).size ≡ size
  top-size = ap (λ (i : Inode). i.size) change.here

  top-here : slice_index (new.node directory).zones top ≡ zone
  top-here = ap (λ (i : Inode). slice_index i.zones top) change.here ∙ rw get_or-set_same refl

  top-other : (other : ℕ) → pointer_at other [] ≢ pointer_at top [] → slice_index (new.node directory).zones other ≡ slice_index (old.node directory).zones other
  top-other other apart =
      let ne : other ≢ top = λ same. apart (ap (λ t. pointer_at t []) same) in
      ap (λ (i : Inode). slice_index i.zones other) change.here ∙ rw get_or-set_other refl

  fresh-top : (z : ℕ) → IsFresh super old old z → IsFresh super old new z
  fresh-top z fresh = record { range = fresh.range; marked = change.zone_marks z fresh.range ∙ fresh.marked; unused = fresh.unused }

  top-hooks : Hooks super old new directory (pointer_at top []) zone
  top-hooks = record {
    named = may.named;
    is = may.is;
    hole = may.hole;
    some = may.some;
    fresh = fresh-top zone may.fresh;
    outer = λ index before same. let t = ap length same in absurd (omega (arith, t));
    mode = ap (λ (i : Inode). i.mode) change.here;
    links = ap (λ (i : Inode). i.links) change.here;
    sized = rw top-size sized.sized;
    room = rw top-size sized.room;
    reaches = λ l. rw top-size (sized.reaches l);
    top = λ none. top-here;
    tops = top-other;
    number = λ index before same. let t = ap length same in absurd (omega (arith, t));
    numbers = λ outer y index to is apart. ap (λ bytes. number_in super.kind bytes index) (zones-stay super old new directory _ sound change directory outer y (record { named = may.named; to = to }));
    nodes = nodes-stay super old new directory _ sound change;
    marks = marks-stay super old new directory _ sound change;
    zones = λ number there y refers apart. zones-stay super old new directory _ sound change number there y refers;
    zone_marks = zone-marks-stay super old new directory _ sound change;
    free = λ place from below'. sized.free place from (subst (λ n. place < places super.kind n) top-size below');
  }

-- the zones further down stay
chain-stays : (super : Super) (old new : Parts) → ((z : ℕ) → IsFresh super old old z → new.zone z ≡ old.zone z) → ((z : ℕ) → IsFresh super old old z → IsFresh super old new z) → (zone : ℕ) (more : List Deeper) → IsFresh super old old zone → IsChain super old old zone more → IsChain super old new zone more
chain-stays super old new bytes fresh zone [] is chain = bytes zone is ∙ chain
chain-stays super old new bytes fresh zone (next ∷ more) is chain = (
  record {
    here = ap (λ b. number_in super.kind b next.index) (bytes zone is) ∙ chain.0.here;
    others = λ index low apart. ap (λ b. number_in super.kind b index) (bytes zone is) ∙ chain.0.others index low apart;
  },
  chain.1,
  fresh next.zone chain.2,
  chain.3,
  chain-stays super old new bytes fresh next.zone more chain.2 chain.4,
)

pub top_law : TopLaw
top_law super old new directory top zone size more sound may sized low change = grows_law super old new directory (pointer_at top []) zone more sound (record {
  place = may.place;
  hooks = top-hooks super old new directory top zone size more sound may sized low change;
  chain = chain-stays super old new (λ z fresh. change.zones z fresh.range) (fresh-top super old new directory top zone size more sound may sized low change) zone more may.fresh may.chain;
})

-- ---- one zone

module _ (super : Super) (old new : Parts) (zone : ℕ) (bytes : List ℕ) (sound : Sound super old) (change : ChangesZone super old new zone bytes) where
  nodes-are : (other : ℕ) → Named super old other → new.node other ≡ old.node other
  nodes-are other named = change.nodes other (sound.in_range other named)

  marks-are : (other : ℕ) → Named super old other → new.has_inode other ≡ old.has_inode other
  marks-are other named = change.marks other (sound.in_range other named)

  zone-marks-are : (other : ℕ) (at : Pointer) (z : ℕ) → Refers super old other at z → new.has_zone z ≡ old.has_zone z
  zone-marks-are other at z refers = change.zone_marks z (sound.zone_range other at z refers)

  others-are : (other : ℕ) (at : Pointer) (z : ℕ) → Refers super old other at z → z ≢ zone → new.zone z ≡ old.zone z
  others-are other at z refers apart = change.others z (sound.zone_range other at z refers) apart

-- a number in an indirect zone

module _ (super : Super) (old new : Parts) (directory : ℕ) (outer : Pointer) (index zone : ℕ) (more : List Deeper) (bytes : List ℕ) (sound : Sound super old) (may : MayHook super old directory (below outer index) zone more)
    (some : pointer super old directory outer ≢ 0) (has : HasNumber super (old.zone (pointer super old directory outer)) bytes index zone) (change : ChangesZone super old new (pointer super old directory outer) bytes) where
  abbrev Above : ℕ
  Above = pointer super old directory outer

  way : IsPointer super.kind (below outer index)
  way = on-way super (below outer index) more may.place

  above-refers : Refers super old directory outer Above
  above-refers = record { named = may.named; to = record { kind = directory-zones old directory may.is; place = shorter super outer.top index outer.trail way; is = refl; some = some } }

  -- an unused zone isn't the one above
  unused-apart : (z : ℕ) → IsFresh super old old z → z ≢ Above
  unused-apart z fresh same = fresh.unused directory outer (subst (Refers super old directory outer) (sym same) above-refers)

  fresh-number : (z : ℕ) → IsFresh super old old z → IsFresh super old new z
  fresh-number z fresh = record { range = fresh.range; marked = change.zone_marks z fresh.range ∙ fresh.marked; unused = fresh.unused }

  own-node : new.node directory ≡ old.node directory
  own-node = nodes-are super old new Above bytes sound change directory may.named

  trail-is : (one : ℕ) (before : List ℕ) → (index ∷ outer.trail) ≡ (one ∷ before) → (pointer super old directory (pointer_at outer.top before) ≡ Above) × (one ≡ index)
  trail-is one before same =
      (ap (λ (t : List ℕ). pointer super old directory (pointer_at outer.top t)) (sym (tail-of index one outer.trail before same)), ap (λ (t : List ℕ). slice_index t 0) (sym same))
    where
      tail-of : (a b : ℕ) (xs ys : List ℕ) → (a ∷ xs) ≡ (b ∷ ys) → xs ≡ ys
      tail-of a b xs ys e = cc

  numbers-by : (there : Pointer) (y other : ℕ) → PointsTo super old directory there y → IsPointer super.kind (below there other) → below there other ≢ below outer index
      → (y ≡ Above) ⊎ (y ≢ Above) → number_in super.kind (new.zone y) other ≡ number_in super.kind (old.zone y) other
  numbers-by there y other to is apart (inl same) =
      let one = (sound.once directory directory there outer y (record { named = may.named; to = to }) (subst (Refers super old directory outer) (sym same) above-refers)).1 in
      let away : other ≢ index = λ e. apart (ap (λ p. below p other) one ∙ ap (below outer) e) in
      let low : other < numbers_in_zone super.kind = is.within 0 0 (omega arith) in
      ap (λ z. number_in super.kind (new.zone z) other) same
      ∙ (ap (λ b. number_in super.kind b other) change.here ∙ (has.others other low away ∙ ap (λ z. number_in super.kind (old.zone z) other) (sym same)))
  numbers-by there y other to is apart (inr away) = ap (λ b. number_in super.kind b other) (others-are super old new Above bytes sound change directory there y (record { named = may.named; to = to }) away)

  zones-by : (number : ℕ) (there : Pointer) (y : ℕ) → Refers super old number there y → ((number ≡ directory) → IsBelow (below outer index) there → ⊥) → (y ≡ Above) ⊎ (y ≢ Above) → new.zone y ≡ old.zone y
  zones-by number there y refers apart (inl same) =
      let both = sound.once number directory there outer y refers (subst (Refers super old directory outer) (sym same) above-refers) in
      absurd (apart both.0 (index, ap (λ p. below p index) (sym both.1)))
  zones-by number there y refers apart (inr away) = others-are super old new Above bytes sound change number there y refers away

  le-self : {n : ℕ} → n ≤ n
  le-self = omega arith

  number-hooks : Hooks super old new directory (below outer index) zone
  number-hooks = record {
    named = may.named;
    is = may.is;
    hole = may.hole;
    some = may.some;
    fresh = fresh-number zone may.fresh;
    outer = λ one before same e. some (sym (trail-is one before same).0 ∙ e);
    mode = ap (λ (i : Inode). i.mode) own-node;
    links = ap (λ (i : Inode). i.links) own-node;
    sized = rw own-node (sound.size directory may.named);
    room = rw own-node le-self;
    reaches = λ low. rw own-node low;
    top = λ none. let t = ap length none in absurd (omega (arith, t));
    tops = λ top apart. ap (λ (i : Inode). slice_index i.zones top) own-node;
    number = λ one before same.
        let is = trail-is one before same in
        ap (λ z. number_in super.kind (new.zone z) one) is.0 ∙ (ap (λ b. number_in super.kind b one) change.here ∙ (ap (number_in super.kind bytes) is.1 ∙ has.here));
    numbers = λ there y other to is apart. numbers-by there y other to is apart (cases_eq y Above);
    nodes = λ number named other. nodes-are super old new Above bytes sound change number named;
    marks = marks-are super old new Above bytes sound change;
    zones = λ number there y refers apart. zones-by number there y refers apart (cases_eq y Above);
    zone_marks = zone-marks-are super old new Above bytes sound change;
    free = λ place from below'. let low : place < places super.kind (old.node directory).size = subst (λ (i : Inode). place < places super.kind i.size) own-node below' in absurd (omega (arith, from, low));
  }

  number-seen : Sees super old new
  number-seen = grows_law super old new directory (below outer index) zone more sound (record {
    place = may.place;
    hooks = number-hooks;
    chain = chain-stays super old new (λ z fresh. change.others z fresh.range (unused-apart z fresh)) fresh-number zone more may.fresh may.chain;
  })

pub number_law : NumberLaw
number_law super old new directory outer index zone more bytes sound may some has change = number-seen super old new directory outer index zone more bytes sound may some has change

-- bytes past the entries

module _ (super : Super) (old new : Parts) (directory place : ℕ) (bytes : List ℕ) (sound : Sound super old) (may : MayFill super old directory place bytes) (change : ChangesZone super old new (zone_of_entry super old directory place) bytes) where
  abbrev Filled : ℕ
  Filled = zone_of_entry super old directory place

  abbrev Spot : Pointer
  Spot = block_pointer super.kind (place / entries_per_block super.kind)

  zones-but : (number : ℕ) (at : Pointer) (z : ℕ) → Refers super old number at z → z ≢ Filled → new.zone z ≡ old.zone z
  zones-but = others-are super old new Filled bytes sound change

  fill-node : new.node directory ≡ old.node directory
  fill-node = nodes-are super old new Filled bytes sound change directory may.named

  fill-numbers : HasSameNumbers (old.node directory) (new.node directory)
  fill-numbers = record { mode = ap (λ (i : Inode). i.mode) fill-node; zones = ap (λ (i : Inode). i.zones) fill-node }

  zones-are : has_zones (old.node directory) ≡ true
  zones-are = directory-zones old directory may.is

  numbers-same : (index : ℕ) → zone_number super new directory index ≡ zone_number super old directory index
  unfolding zone_number
  numbers-same index =
      pointer-same super old new directory fill-numbers (above-kept super old directory place may.named may.is new sound zones-but directory may.named)
      zones-are (block_pointer super.kind index) ((pointer_law super.kind).is index)

  -- the block with the place
  block-here : block super new directory (place / entries_per_block super.kind) ≡ bytes
  unfolding block
  block-here = ap (zone_bytes new) (numbers-same (place / entries_per_block super.kind)) ∙ by_hole _ refl
    where
      by_hole : (hole : Bool) → (Filled == 0) ≡ hole → zone_bytes new Filled ≡ bytes
      by_hole true is = absurd (may.some (eqb-true Filled 0 is))
      by_hole false is = rw is change.here

  -- another block
  block-other : (index : ℕ) → index < reach super.kind → index ≢ place / entries_per_block super.kind → block super new directory index ≡ block super old directory index
  unfolding block zone_number
  block-other index low apart = ap (zone_bytes new) (numbers-same index) ∙ by_hole (zone_number super old directory index) refl _ refl
    where
      by_hole : (z : ℕ) → zone_number super old directory index ≡ z → (hole : Bool) → (z == 0) ≡ hole → zone_bytes new z ≡ zone_bytes old z
      by_hole z to true is = rw is refl
      by_hole z to false is =
          let some : z ≢ 0 = λ e. let t = eq-eqb z 0 e in cc in
          let refers : Refers super old directory (block_pointer super.kind index) z = record { named = may.named; to = record { kind = zones-are; place = (pointer_law super.kind).is index; is = to; some = some } } in
          let other : z ≢ Filled = λ same.
          let both = sound.once directory directory (block_pointer super.kind index) Spot z refers (subst (Refers super old directory Spot) (sym same) (directory-refers super old directory place may.named may.is Filled may.some refl)) in
          apart ((pointer_law super.kind).apart index (place / entries_per_block super.kind) low may.near both.1) in
          rw is (zones-but directory (block_pointer super.kind index) z refers other)

  entry-by : (other : ℕ) → other < places super.kind (old.node directory).size → (other / entries_per_block super.kind ≡ place / entries_per_block super.kind) ⊎ (other / entries_per_block super.kind ≢ place / entries_per_block super.kind)
      → entry super new directory other ≡ entry super old directory other
  unfolding entry
  entry-by other low (inl same) =
      ap (λ n. entry_in super.kind (block super new directory n) (other % entries_per_block super.kind)) same
      ∙ (ap (λ all. entry_in super.kind all (other % entries_per_block super.kind)) block-here ∙ may.same other low same)
  entry-by other low (inr apart) =
      let near : other / entries_per_block super.kind < reach super.kind =
      let one = block-below super.kind (old.node directory).size other low in
      let two = may.reached in
      omega (arith, one, two) in
      ap (λ all. entry_in super.kind all (other % entries_per_block super.kind)) (block-other (other / entries_per_block super.kind) near apart)

  fill-extends : Extends super old new directory
  fill-extends = record {
    named = may.named;
    is = may.is;
    mode = fill-numbers.mode;
    links = ap (λ (i : Inode). i.links) fill-node;
    numbers = fill-numbers.zones;
    sized = rw fill-node (sound.size directory may.named);
    room = rw fill-node at-most;
    reaches = λ low. rw fill-node low;
    entries = λ other low. entry-by other low (cases_eq (other / entries_per_block super.kind) (place / entries_per_block super.kind));
    free = λ other from below'. let low : other < places super.kind (old.node directory).size = subst (λ (i : Inode). other < places super.kind i.size) fill-node below' in absurd (omega (arith, from, low));
    above = above-kept super old directory place may.named may.is new sound zones-but directory may.named;
    nodes = λ other named apart. nodes-are super old new Filled bytes sound change other named;
    marks = marks-are super old new Filled bytes sound change;
    zones = λ other at z refers apart. zone-kept super old directory place may.named may.is new sound zones-but other at z refers (λ here same. apart here);
    zone_marks = zone-marks-are super old new Filled bytes sound change;
  }
    where
      at-most : {n : ℕ} → n ≤ n
      at-most = omega arith

pub fill_law : FillLaw
fill_law super old new directory place bytes sound may change = extends_law super old new directory sound (fill-extends super old new directory place bytes sound may change)
