-- Parts with a root directory alone, in which nothing has a name, are sound.
use Rattle.std.proofs.Common.{◌≡◌, ◌≢◌, ℕ, zero, suc, ◌-◌, ◌<◌, ◌≤◌, Bool, true, false, List, [], ◌∷◌, length, replicate, Some, None, refl, sym, ◌∙◌, ap, subst, arith}
use Rattle.std.specs.Prelude.{slice_index}
use Rattle.lilo_model.specs.MinixLayout.{Kind, Super, is_size}
use Rattle.lilo_model.specs.MinixParts.{Parts, Pointer, is_directory, follow}
use Rattle.lilo_model.specs.MinixEntries.{Entry, entry_with, places, here_name, above_name, is_dots}
use Rattle.lilo_model.specs.MinixNames.{pointer, entry, lookup, reached, Named, Refers, HasEntry, HasSomeEntry, AllLead, Sound}
use Rattle.minix_laws.proofs.FirstNamed.{first_named-none}

-- the root directory has so many entries in one zone: `.`, `..`, and free ones
pub record BareRoot (super : Super) (parts : Parts) (zone count : ℕ) : Type 0 where
  pub directory : is_directory (parts.node 1) ≡ true
  pub some_mode : (parts.node 1).mode ≢ 0
  pub small : is_size super.kind (parts.node 1).size ≡ true
  pub entries : places super.kind (parts.node 1).size ≡ count
  pub two : 2 ≤ count
  pub zones : (parts.node 1).zones ≡ zone ∷ replicate 9 0
  pub first_entry : entry super parts 1 0 ≡ entry_with 1 here_name
  pub second_entry : entry super parts 1 1 ≡ entry_with 1 above_name
  pub free : (place : ℕ) → 2 ≤ place → place < count → (entry super parts 1 place).inode ≡ 0
  pub some_inode : 1 ≤ super.inodes
  pub inode_mark : parts.has_inode 1 ≡ true
  pub zone_mark : parts.has_zone zone ≡ true
  pub from : super.first ≤ zone
  pub below : zone < super.zones

-- ---- names and numbers

dots-here : is_dots here_name ≡ true
unfolding is_dots
dots-here = refl

dots-above : is_dots above_name ≡ true
unfolding is_dots
dots-above = refl

-- the two entries have different names
other-names : (name : List ℕ) (inode inode' : ℕ) → entry_with 1 here_name ≡ entry_with inode name → entry_with 1 above_name ≡ entry_with inode' name → ⊥
other-names name inode inode' one other =
    let here : here_name ≡ name = ap (λ e. e.name) one in
    let above : above_name ≡ name = ap (λ e. e.name) other in
    let same : length here_name ≡ length above_name = ap length (here ∙ sym above) in
    absurd (omega (arith, same))

pub no-more : (n index : ℕ) → slice_index (replicate n 0) index ≡ 0
no-more zero index = refl
no-more (suc n) zero = refl
no-more (suc n) (suc index) = no-more n index

pub follow-hole : (kind : Kind) (bytes_of : ℕ → List ℕ) (trail : List ℕ) → follow kind bytes_of 0 trail ≡ 0
unfolding follow
follow-hole kind bytes_of [] = refl
follow-hole kind bytes_of (index ∷ before) = rw (follow-hole kind bytes_of before) refl

-- the one pointer that isn't a hole, where all numbers but the first are 0
pub only_pointer : (kind : Kind) (bytes_of : ℕ → List ℕ) (first top : ℕ) (trail zones : List ℕ) (to : ℕ) → zones ≡ first ∷ replicate 9 0 → length trail ≤ top - 6
    → follow kind bytes_of (slice_index zones top) trail ≡ to → to ≢ 0
    → (top ≡ 0) × (trail ≡ []) × (to ≡ first)
unfolding follow
only_pointer kind bytes_of first zero [] zones to are deep is some = (refl, refl, sym is ∙ ap (λ numbers. slice_index numbers 0) are)
only_pointer kind bytes_of first zero (index ∷ before) zones to are deep is some = absurd (omega (arith, deep))
only_pointer kind bytes_of first (suc top) trail zones to are deep is some =
    let hole : slice_index zones (suc top) ≡ 0 = ap (λ numbers. slice_index numbers (suc top)) are ∙ no-more 9 top in
    let none : to ≡ 0 = sym is ∙ ap (λ n. follow kind bytes_of n trail) hole ∙ follow-hole kind bytes_of trail in
    absurd (some none)

pub same_pointer : (at there : Pointer) → at.top ≡ 0 → at.trail ≡ [] → there.top ≡ 0 → there.trail ≡ [] → at ≡ there
same_pointer at there top trail top' trail' =
    let one : at ≡ record { top = 0; trail = [] } = rw (top, trail) refl in
    let other : there ≡ record { top = 0; trail = [] } = rw (top', trail') refl in
    one ∙ sym other

module _ (super : Super) (parts : Parts) (zone count : ℕ) (h : BareRoot super parts zone count) where
  -- ---- entries

  -- an entry with an inode is one of the two
  used-entry : (place inode : ℕ) (name : List ℕ) → place < count → inode ≢ 0 → entry super parts 1 place ≡ entry_with inode name → place < 2
  used-entry zero inode name below some is = omega arith
  used-entry (suc zero) inode name below some is = omega arith
  used-entry (suc (suc place)) inode name below some is = absurd (some (ap (λ (e : Entry). e.inode) (sym is) ∙ h.free (suc (suc place)) (omega arith) below))

  no-entry : (name : List ℕ) → is_dots name ≡ false → (place inode : ℕ) → place < 2 → entry super parts 1 place ≡ entry_with inode name → ⊥
  no-entry name other zero inode below is = let same : here_name ≡ name = ap (λ e. e.name) (sym h.first_entry ∙ is) in let dots : is_dots name ≡ true = ap is_dots (sym same) ∙ dots-here in cc
  no-entry name other (suc zero) inode below is = let same : above_name ≡ name = ap (λ e. e.name) (sym h.second_entry ∙ is) in let dots : is_dots name ≡ true = ap is_dots (sym same) ∙ dots-above in cc
  no-entry name other (suc (suc place)) inode below is = absurd (omega (arith, below))

  places-by : (place other inode inode' : ℕ) (name : List ℕ) → place < 2 → other < 2
      → entry super parts 1 place ≡ entry_with inode name → entry super parts 1 other ≡ entry_with inode' name → place ≡ other
  places-by zero zero inode inode' name p o one two = refl
  places-by zero (suc zero) inode inode' name p o one two = absurd (other-names name inode inode' (sym h.first_entry ∙ one) (sym h.second_entry ∙ two))
  places-by (suc zero) zero inode inode' name p o one two = absurd (other-names name inode' inode (sym h.first_entry ∙ two) (sym h.second_entry ∙ one))
  places-by (suc zero) (suc zero) inode inode' name p o one two = refl
  places-by (suc (suc place)) other inode inode' name p o one two = absurd (omega (arith, p))
  places-by place (suc (suc other)) inode inode' name p o one two = absurd (omega (arith, o))

  places-root : (place other inode inode' : ℕ) (name : List ℕ) → inode ≢ 0 → inode' ≢ 0 → HasEntry super parts 1 place (entry_with inode name) → HasEntry super parts 1 other (entry_with inode' name) → place ≡ other
  places-root place other inode inode' name some some' one two =
      let low : place < 2 = used-entry place inode name (omega (arith, one.below, h.entries)) some one.is in
      let low' : other < 2 = used-entry other inode' name (omega (arith, two.below, h.entries)) some' two.is in
      places-by place other inode inode' name low low' one.is two.is

  here-root : HasSomeEntry super parts 1 (entry_with 1 here_name)
  here-root = (0, record { below = omega (arith, h.entries, h.two); is = h.first_entry })

  above-root : HasSomeEntry super parts 1 (entry_with 1 above_name)
  above-root = (1, record { below = omega (arith, h.entries, h.two); is = h.second_entry })

  -- ---- paths

  lookup-by : (name : List ℕ) (dots : Bool) → is_dots name ≡ dots → lookup super parts name 1 ≡ None
  unfolding lookup
  lookup-by name true is = rw (h.directory, is) refl
  lookup-by name false is =
      rw (h.directory, is, h.entries) (first_named-none (entry super parts 1) name count (λ place inode below some has. no-entry name is place inode (used-entry place inode name below some has) has))

  -- no name is found in the root
  pub bare-lookup : (name : List ℕ) → lookup super parts name 1 ≡ None
  bare-lookup name = lookup-by name _ refl

  -- so no path but that of the root leads anywhere
  pub bare-no_path : (name : List ℕ) (path : List (List ℕ)) → reached super parts (name ∷ path) ≡ None
  unfolding reached
  bare-no_path name [] = bare-lookup name
  bare-no_path name (outer ∷ path) = rw (bare-no_path outer path) refl

  pub bare-reached : (path : List (List ℕ)) (number : ℕ) → reached super parts path ≡ Some number → (path ≡ []) × (number ≡ 1)
  unfolding reached
  bare-reached [] number leads = (refl, cc)
  bare-reached (name ∷ path) number leads = let e = bare-no_path name path in cc

  pub bare-named : (number : ℕ) → Named super parts number → number ≡ 1
  bare-named number named = (bare-reached named.path number named.leads).1

  -- no path leads to an inode that isn't the root
  pub bare-no_paths : (number : ℕ) (paths : List (List (List ℕ))) → number ≢ 1 → AllLead super parts number paths → length paths ≡ 0
  bare-no_paths number [] other lead = refl
  bare-no_paths number (path ∷ paths) other lead = absurd (other (bare-reached path number lead.0).1)

  -- ---- pointers

  pub bare-refers : (number : ℕ) (at : Pointer) (to : ℕ) → Refers super parts number at to → (number ≡ 1) × (at.top ≡ 0) × (at.trail ≡ []) × (to ≡ zone)
  bare-refers number at to refers =
      let one : number ≡ 1 = bare-named number refers.named in
      let P : ℕ → Type 0 = λ n. pointer super parts n at ≡ to in
      let is : pointer super parts 1 at ≡ to = subst P one refers.to.is in
      let found = only_pointer super.kind parts.zone zone at.top at.trail (parts.node 1).zones to h.zones refers.to.place.deep is refers.to.some in
      (one, found.0, found.1, found.2)

  -- ---- all of it

  -- what holds of the root holds of each named inode
  at-named : (P : ℕ → Type 0) → P 1 → (number : ℕ) → Named super parts number → P number
  at-named P holds number named = subst P (sym (bare-named number named)) holds

  pub bare-sound : Sound super parts
  bare-sound = record {
    root = h.directory;
    in_range = at-named (λ n. (0 < n) × (n ≤ super.inodes)) (omega arith, h.some_inode);
    marked = at-named (λ n. parts.has_inode n ≡ true) h.inode_mark;
    mode = at-named (λ n. (parts.node n).mode ≢ 0) h.some_mode;
    size = at-named (λ n. is_size super.kind (parts.node n).size ≡ true) h.small;
    zone_range = λ number at to refers. let is : to ≡ zone = (bare-refers number at to refers).3 in (omega (arith, is, h.from), omega (arith, is, h.below));
    zone_marked = λ number at to refers. ap parts.has_zone (bare-refers number at to refers).3 ∙ h.zone_mark;
    once = λ number other at there to one two. let f = bare-refers number at to one in let g = bare-refers other there to two in (f.0 ∙ sym g.0, same_pointer at there f.1 f.2 g.1 g.2);
    one_name = λ number path other directory leads leads'. (bare-reached path number leads).0 ∙ sym (bare-reached other number leads').0;
    no_twice = λ directory place other inode inode' name named is some some' one two.
        let P : ℕ → Type 0 = λ n. HasEntry super parts n place (entry_with inode name) in
        let Q : ℕ → Type 0 = λ n. HasEntry super parts n other (entry_with inode' name) in
        let root = bare-named directory named in
        places-root place other inode inode' name some some' (subst P root one) (subst Q root two);
    here = λ directory named is. let P : ℕ → Type 0 = λ n. HasSomeEntry super parts n (entry_with n here_name) in subst P (sym (bare-named directory named)) here-root;
    root_above = above-root;
    above = λ directory outer name path leads leads' is. let e = bare-no_path name path in cc;
    depth = λ directory path leads is. let e : path ≡ [] = (bare-reached path directory leads).0 in omega (arith, ap length e);
    links = λ number paths other distinct lead. let none : length paths ≡ 0 = bare-no_paths number paths other lead in omega (arith, none);
  }
