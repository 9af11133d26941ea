-- The place that is chosen may get the name.
use Rattle.std.proofs.Common.{◌≡◌, ◌≢◌, ◌≤◌, ◌<◌, ◌+◌, ◌/◌, ◌==◌, ℕ, zero, suc, Bool, true, false, not, ◌&&◌, ◌||◌, if◌then◌else◌, nat_le, nat_lt, List, [], ◌∷◌, ◌++◌, length, bytes_eq, Option, Some, None, Result, Ok, refl, sym, ap, ◌∙◌, subst, arith, ⊎_elim}
use Rattle.std.specs.Prelude.{slice_index}
use Rattle.std.specs.List.{list_any}
use Rattle.std.proofs.lemmas.Bool.{cases_lt, eqb-true, ne_eqb}
use Rattle.std.proofs.lemmas.Bool.Decides.{nat_tests}
use Rattle.std.proofs.lemmas.Slice.Eq.{bytes_eq-Decides}
use Rattle.lilo_model.specs.MinixLayout.{Super}
use Rattle.lilo_model.specs.MinixParts.{Parts, ZoneFault, inside, number_below, follow, block_pointer, is_directory}
use Rattle.lilo_model.specs.MinixEntries.{Entry, entry_with, entry_at, entries_per_block, places, here_name, above_name, is_dots}
use Rattle.lilo_model.specs.MinixNames.{entry, lookup, reached, zone_number, Named, HasSomeEntry, Sound}
use Rattle.std.proofs.lemmas.List.{length-append}
use Rattle.std.proofs.lemmas.List.FromFn.{length-map-range_with_len}
use Rattle.minix_change_laws.specs.Only.{zone_of_entry}
use Rattle.minix_laws.proofs.FirstNamed.{first_named-none}
use Rattle.minix_laws.proofs.Given.{given_law}
use Rattle.write_model.specs.Wish.{Wish, Taken}
use Rattle.write_model.specs.FileZones.{data_blocks}
use Rattle.write_model.specs.Growth.{Way, way_on, way_along, missing_on_way, promised_zone}
use Rattle.write_model.specs.Places.{entries_to, all_entries, is_named, has_name, is_overlooked, is_promised, first_free, first_from, within, new_place, most_places}
use Rattle.write_model.specs.Choice.{Choice}
use Rattle.minix_choice_laws.specs.ChoiceLaws.{PlaceLaw}
use Rattle.minix_choice_laws.proofs.Choose.{passed, PassesName, passes_name, IsMadeOf, made_by, none_promised}

-- ---- the way to a block

-- a number that may be followed is itself
inside_is : (super : Super) (zone found : ℕ) → inside super zone ≡ Ok found → zone ≡ found
unfolding inside
inside_is super zone found is = by (zone == 0 || (nat_le super.first zone && nat_lt zone super.zones)) refl
  where
    by : (test : Bool) → (zone == 0 || (nat_le super.first zone && nat_lt zone super.zones)) ≡ test → zone ≡ found
    by true e = let t = rw e at is in cc
    by false e = let t = rw e at is in cc

one_missing : (zone missing : ℕ) → (way_on zone missing).missing ≡ 0 → zone ≢ 0
one_missing zero missing none = λ e. omega (arith, none)
one_missing (suc zone) missing none = λ e. cc

-- the number at the end of a way is that of the trail, and where none is missing it isn't 0
pub way_zone : (super : Super) (bytes_of : ℕ → List ℕ) (zone : ℕ) (trail : List ℕ) (way : Way) → way_along super bytes_of zone trail ≡ Ok way → way.zone ≡ follow super.kind bytes_of zone trail
unfolding way_along follow
way_zone super bytes_of zone [] way is =
    let one = passed (inside super zone) _ way is in
    let w : way_on one.0 0 ≡ way = let e = one.2 in cc in
    sym (ap (λ (x : Way). x.zone) w) ∙ sym (inside_is super zone one.0 one.1)
way_zone super bytes_of zone (index ∷ before) way is =
    let above = passed (way_along super bytes_of zone before) _ way is in
    let one = passed (inside super (number_below super.kind bytes_of above.0.zone index)) _ way above.2 in
    let w : way_on one.0 above.0.missing ≡ way = let e = one.2 in cc in
    sym (ap (λ (x : Way). x.zone) w) ∙ (sym (inside_is super _ one.0 one.1) ∙ ap (λ z. number_below super.kind bytes_of z index) (way_zone super bytes_of zone before above.0 above.1))

pub way_some : (super : Super) (bytes_of : ℕ → List ℕ) (zone : ℕ) (trail : List ℕ) (way : Way) → way_along super bytes_of zone trail ≡ Ok way → way.missing ≡ 0 → way.zone ≢ 0
unfolding way_along
way_some super bytes_of zone [] way is none =
    let one = passed (inside super zone) _ way is in
    let w : way_on one.0 0 ≡ way = let e = one.2 in cc in
    subst (λ (x : Way). x.missing ≡ 0 → x.zone ≢ 0) w (one_missing one.0 0) none
way_some super bytes_of zone (index ∷ before) way is none =
    let above = passed (way_along super bytes_of zone before) _ way is in
    let one = passed (inside super (number_below super.kind bytes_of above.0.zone index)) _ way above.2 in
    let w : way_on one.0 above.0.missing ≡ way = let e = one.2 in cc in
    subst (λ (x : Way). x.missing ≡ 0 → x.zone ≢ 0) w (one_missing one.0 above.0.missing) none

-- where none is missing on the way to a block it is no hole
pub no_hole : (super : Super) (parts : Parts) (number block : ℕ) → missing_on_way super parts (parts.node number) block ≡ Ok 0 → zone_number super parts number block ≢ 0
unfolding missing_on_way zone_number
no_hole super parts number block is =
    let at = block_pointer super.kind block in
    let way = passed (way_along super parts.zone (slice_index (parts.node number).zones at.top) at.trail) _ 0 is in
    let none : way.0.missing ≡ 0 = let e = way.2 in cc in
    let same = way_zone super parts.zone (slice_index (parts.node number).zones at.top) at.trail way.0 way.1 in
    λ e. way_some super parts.zone (slice_index (parts.node number).zones at.top) at.trail way.0 way.1 none (same ∙ e)

-- ---- entries

any_append : (name : List ℕ) (entries : List Entry) (last : Entry) → list_any (is_named name) (entries ++ (last ∷ [])) ≡ false
    → (list_any (is_named name) entries ≡ false) × (is_named name last ≡ false)
any_append name [] last is = by (is_named name last) refl
  where
    by : (test : Bool) → is_named name last ≡ test → (list_any (is_named name) [] ≡ false) × (is_named name last ≡ false)
    by true e = let t = rw e at is in cc
    by false e = (refl, e)
any_append name (first ∷ entries) last is = by (any_append name entries last) (is_named name first) refl
  where
    by : (list_any (is_named name) (entries ++ (last ∷ [])) ≡ false → (list_any (is_named name) entries ≡ false) × (is_named name last ≡ false))
        → (test : Bool) → is_named name first ≡ test → (list_any (is_named name) (first ∷ entries) ≡ false) × (is_named name last ≡ false)
    by later true e = let t = rw e at is in cc
    by later false e =
        let t = rw e at is in
        let rest = later t in
        (rw e rest.0, rest.1)

-- the first free place, where there is one more entry at the end
abbrev last_free : (ℕ → Bool) → ℕ → Entry → Option ℕ → Option ℕ
last_free promised place last (Some found) = Some found
last_free promised place last None = if (last.inode == 0) && not (promised place) then Some place else None

free_append : (promised : ℕ → Bool) (place : ℕ) (entries : List Entry) (last : Entry)
    → first_free promised place (entries ++ (last ∷ [])) ≡ last_free promised (place + length entries) last (first_free promised place entries)
free_append promised place [] last = by ((last.inode == 0) && not (promised place)) refl
  where
    same : place + 0 ≡ place
    same = omega arith

    by : (test : Bool) → ((last.inode == 0) && not (promised place)) ≡ test → first_free promised place (last ∷ []) ≡ last_free promised (place + 0) last None
    by true e = rw same (rw e refl)
    by false e = rw same (rw e refl)
free_append promised place (first ∷ entries) last = by (free_append promised (suc place) entries last) ((first.inode == 0) && not (promised place)) refl
  where
    step : place + suc (length entries) ≡ suc place + length entries
    step = omega arith

    by : first_free promised (suc place) (entries ++ (last ∷ [])) ≡ last_free promised (suc place + length entries) last (first_free promised (suc place) entries)
        → (test : Bool) → ((first.inode == 0) && not (promised place)) ≡ test
        → first_free promised place ((first ∷ entries) ++ (last ∷ [])) ≡ last_free promised (place + length (first ∷ entries)) last (first_free promised place (first ∷ entries))
    by later true e = rw e refl
    by later false e = rw e (later ∙ ap (λ p. last_free promised p last (first_free promised (suc place) entries)) (sym step))

module _ (at : ℕ → Result Entry ZoneFault) (plain : ℕ → Entry) (same : (place : ℕ) (what : Entry) → at place ≡ Ok what → plain place ≡ what) where
  entries_length : (count : ℕ) (entries : List Entry) → entries_to at count ≡ Ok entries → length entries ≡ count
  entries_length zero entries is = let e : [] ≡ entries = cc in ap length (sym e)
  entries_length (suc count) entries is =
      let before = passed (entries_to at count) _ entries is in
      let last = passed (at count) _ entries before.2 in
      let all : before.0 ++ (last.0 ∷ []) ≡ entries = let e = last.2 in cc in
      let long = entries_length count before.0 before.1 in
      sym (ap length all) ∙ (length-append before.0 (last.0 ∷ []) ∙ omega (arith, long))

  none_named : (name : List ℕ) (count : ℕ) (entries : List Entry) → entries_to at count ≡ Ok entries → list_any (is_named name) entries ≡ false
      → (place : ℕ) → place < count → is_named name (plain place) ≡ false
  none_named name zero entries is none place below = absurd (omega (arith, below))
  none_named name (suc count) entries is none place below =
      let before = passed (entries_to at count) _ entries is in
      let last = passed (at count) _ entries before.2 in
      let all : before.0 ++ (last.0 ∷ []) ≡ entries = let e = last.2 in cc in
      let both = any_append name before.0 last.0 (ap (list_any (is_named name)) all ∙ none) in
      ⊎_elim
      (λ low. none_named name count before.0 before.1 both.0 place low)
      (λ high.
      let here : count ≡ place = omega (arith, high, below) in
      subst (λ p. is_named name (plain p) ≡ false) here (ap (is_named name) (same count last.0 last.1) ∙ both.1))
      (cases_lt place count)

  free_place : (promised : ℕ → Bool) (count : ℕ) (entries : List Entry) (place : ℕ) → entries_to at count ≡ Ok entries → first_free promised 0 entries ≡ Some place
      → (place < count) × ((plain place).inode ≡ 0)
  free_place promised zero entries place is found = let e : [] ≡ entries = cc in let t = rw (sym e) at found in cc
  free_place promised (suc count) entries place is found =
      let before = passed (entries_to at count) _ entries is in
      let last = passed (at count) _ entries before.2 in
      let all : before.0 ++ (last.0 ∷ []) ≡ entries = let e = last.2 in cc in
      let long : 0 + length before.0 ≡ count = let l = entries_length count before.0 before.1 in omega (arith, l) in
      let split = sym (free_append promised 0 before.0 last.0) ∙ (ap (first_free promised 0) all ∙ found) in
      by (λ p. free_place promised count before.0 p before.1) last.0 last.1 (first_free promised 0 before.0) refl (subst (λ n. last_free promised n last.0 (first_free promised 0 before.0) ≡ Some place) long split)
    where
      by : {before : Option ℕ} → ((p : ℕ) → before ≡ Some p → (p < count) × ((plain p).inode ≡ 0)) → (last : Entry) → at count ≡ Ok last → (first : Option ℕ) → before ≡ first
          → last_free promised count last first ≡ Some place → (place < suc count) × ((plain place).inode ≡ 0)
      by earlier last is'' (Some p) e t =
          let here : p ≡ place = cc in
          let one = earlier place (e ∙ ap Some here) in
          (omega (arith, one.0), one.1)
      by earlier last is'' None e t = test (last.inode == 0) refl (promised count) refl
        where
          test : (free : Bool) → (last.inode == 0) ≡ free → (taken : Bool) → promised count ≡ taken → (place < suc count) × ((plain place).inode ≡ 0)
          test true free false taken =
              let u = rw (free, taken) at t in
              let here : count ≡ place = cc in
              (omega (arith, here), subst (λ n. (plain n).inode ≡ 0) here (ap (λ (w : Entry). w.inode) (same count last is'') ∙ eqb-true last.inode 0 free))
          test true free true taken = let u = rw (free, taken) at t in cc
          test false free taken is = let u = rw free at t in cc

from_on : (promised : ℕ → Bool) (place more : ℕ) → place ≤ first_from promised place more
from_on promised place zero = omega arith
from_on promised place (suc more) = by (from_on promised (suc place) more) (promised place) refl
  where
    by : suc place ≤ first_from promised (suc place) more → (test : Bool) → promised place ≡ test → place ≤ first_from promised place (suc more)
    by later true e = rw e (omega (arith, later))
    by later false e = rw e (omega arith)

within_below : (most place found : ℕ) → within most place ≡ Some found → found < most
within_below most place found is = by (nat_lt place most) refl
  where
    by : (test : Bool) → nat_lt place most ≡ test → found < most
    by true e =
        let t = rw e at is in
        let same : place ≡ found = cc in
        let low : place < most = grind (arith, nat_tests) in
        omega (arith, low, same)
    by false e = let t = rw e at is in cc

within_is : (most place found : ℕ) → within most (place) ≡ Some found → place ≡ found
within_is most place found is = by (nat_lt place most) refl
  where
    by : (test : Bool) → nat_lt place most ≡ test → place ≡ found
    by true e = let t = rw e at is in cc
    by false e = let t = rw e at is in cc

-- ---- the name

same_name : (name : List ℕ) (what : Entry) (inode : ℕ) → what ≡ entry_with inode name → inode ≢ 0 → is_named name what ≡ true
same_name name what inode is some =
    let same : bytes_eq name name ≡ true = (bytes_eq-Decides name name).1 refl in
    rw is (rw (ne_eqb inode 0 some, same) refl)

module _ (super : Super) (parts : Parts) (taken : Taken) (wish : Wish) (choice : Choice) (sound : Sound super parts) (named : Named super parts wish.directory)
    (is : is_directory (parts.node wish.directory) ≡ true) (seen : is_overlooked taken.overlooked wish.directory wish.name ≡ false)
    (made : IsMadeOf super parts taken wish.directory wish.name (data_blocks wish.length wish.holes) choice) where
  abbrev at : ℕ → Result Entry ZoneFault
  at = entry_at super parts (parts.node wish.directory)

  abbrev plain : ℕ → Entry
  plain = entry super parts wish.directory

  abbrev count : ℕ
  count = places super.kind (parts.node wish.directory).size

  passes : PassesName super parts taken wish.directory wish.name made.entries
  passes = passes_name super parts taken wish.directory wish.name made.entries made.named

  entries_are : entries_to at count ≡ Ok made.entries
  unfolding all_entries
  entries_are = passes.found

  new : list_any (is_named wish.name) made.entries ≡ false
  unfolding has_name
  new = ⊎_elim (λ none. none) (λ over. let both : true ≡ false = sym over ∙ seen in cc) passes.new

  same : (place : ℕ) (what : Entry) → at place ≡ Ok what → plain place ≡ what
  same = (given_law super parts wish.directory).at

  no_entry : (place inode : ℕ) → place < count → inode ≢ 0 → plain place ≡ entry_with inode wish.name → ⊥
  no_entry place inode below some has =
      let isnt = none_named at plain same wish.name count made.entries entries_are new place below in
      let both : true ≡ false = sym (same_name wish.name (plain place) inode has some) ∙ isnt in
      cc

  -- an entry that a sound directory has is of another name
  other_name : (inode : ℕ) (name : List ℕ) → inode ≢ 0 → HasSomeEntry super parts wish.directory (entry_with inode name) → name ≢ wish.name
  other_name inode name some has e =
      no_entry has.0 inode has.1.below some (has.1.is ∙ ap (entry_with inode) e)

  above_entry : (path : List (List ℕ)) → reached super parts path ≡ Some wish.directory → (outer : ℕ) × (outer ≢ 0) × HasSomeEntry super parts wish.directory (entry_with outer above_name)
  unfolding reached
  above_entry [] leads =
      let one : 1 ≡ wish.directory = cc in
      (1, (λ e. cc), subst (λ d. HasSomeEntry super parts d (entry_with 1 above_name)) one sound.root_above)
  above_entry (name ∷ path) leads = by (reached super parts path) refl
    where
      by : (up : Option ℕ) → reached super parts path ≡ up → (outer : ℕ) × (outer ≢ 0) × HasSomeEntry super parts wish.directory (entry_with outer above_name)
      by None e = let t = rw e at leads in cc
      by (Some outer) e = (
        outer,
        (λ none. let low = (sound.in_range outer (record { path = path; leads = e })).0 in omega (arith, low, none)),
        sound.above wish.directory outer name path leads e is,
      )

  no_here : bytes_eq here_name wish.name ≡ true → ⊥
  no_here e = other_name wish.directory here_name some (sound.here wish.directory named is) ((bytes_eq-Decides here_name wish.name).0 e)
    where
      some : wish.directory ≢ 0
      some none = let low = (sound.in_range wish.directory named).0 in omega (arith, low, none)

  no_above : bytes_eq above_name wish.name ≡ true → ⊥
  no_above e = let up = above_entry named.path named.leads in other_name up.0 above_name up.1 up.2 ((bytes_eq-Decides above_name wish.name).0 e)

  plain_name : is_dots wish.name ≡ false
  unfolding is_dots
  plain_name = by (bytes_eq here_name wish.name) refl (bytes_eq above_name wish.name) refl
    where
      by : (here : Bool) → bytes_eq here_name wish.name ≡ here → (above : Bool) → bytes_eq above_name wish.name ≡ above → (bytes_eq here_name wish.name || bytes_eq above_name wish.name) ≡ false
      by true e above e' = absurd (no_here e)
      by false e true e' = absurd (no_above e')
      by false e false e' = rw (e, e') refl

  absent_name : lookup super parts wish.name wish.directory ≡ None
  unfolding lookup
  absent_name = rw (is, plain_name) (first_named-none plain wish.name count no_entry)

  free_below : choice.place < count → (plain choice.place).inode ≡ 0
  unfolding new_place
  free_below below = by (first_free (is_promised taken.promises wish.directory) 0 made.entries) refl
    where
      by : (found : Option ℕ) → first_free (is_promised taken.promises wish.directory) 0 made.entries ≡ found → (plain choice.place).inode ≡ 0
      by (Some place) e =
          let t = rw e at made.place in
          let here : place ≡ choice.place = cc in
          (free_place at plain same (is_promised taken.promises wish.directory) count made.entries choice.place entries_are (e ∙ ap Some here)).1
      by None e =
          let t = rw e at made.place in
          let here = within_is (most_places super.kind) (first_from (is_promised taken.promises wish.directory) count (length taken.promises)) choice.place t in
          let low = from_on (is_promised taken.promises wish.directory) count (length taken.promises) in
          absurd (omega (arith, here, low, below))

  near_past : count ≤ choice.place → choice.place < most_places super.kind
  unfolding new_place
  near_past past = by (first_free (is_promised taken.promises wish.directory) 0 made.entries) refl
    where
      by : (found : Option ℕ) → first_free (is_promised taken.promises wish.directory) 0 made.entries ≡ found → choice.place < most_places super.kind
      by (Some place) e =
          let t = rw e at made.place in
          let here : place ≡ choice.place = cc in
          let low = (free_place at plain same (is_promised taken.promises wish.directory) count made.entries choice.place entries_are (e ∙ ap Some here)).0 in
          absurd (omega (arith, low, past))
      by None e =
          let t = rw e at made.place in
          within_below (most_places super.kind) (first_from (is_promised taken.promises wish.directory) count (length taken.promises)) choice.place t

  some_zone : length made.promised ≡ 0 → zone_of_entry super parts wish.directory choice.place ≢ 0
  some_zone none =
      let many : length made.promised ≡ made.count = ap length made.are_promised ∙ length-map-range_with_len (promised_zone super.kind taken.promises wish.directory (choice.place / entries_per_block super.kind)) 0 made.count in
      let no_more : made.count ≡ 0 = sym many ∙ none in
      no_hole super parts wish.directory (choice.place / entries_per_block super.kind) (made.missing ∙ ap Ok no_more)

pub place_law : PlaceLaw
place_law super parts taken wish choice sound named is seen chosen =
    let m = made_by super parts taken wish choice chosen in
    record {
      plain = plain_name super parts taken wish choice sound named is seen m;
      absent = absent_name super parts taken wish choice sound named is seen m;
      free = free_below super parts taken wish choice sound named is seen m;
      near = near_past super parts taken wish choice sound named is seen m;
      some = λ none. some_zone super parts taken wish choice sound named is seen m (none_promised super parts taken wish choice m none);
    }
