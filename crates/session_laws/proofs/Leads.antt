-- A walk over names looks at directories and at the texts of links alone.
use Rattle.std.proofs.Common.{◌≡◌, ℕ, zero, suc, ◌+◌, Bool, true, false, nat_le, if◌then◌else◌, List, [], ◌∷◌, ◌++◌, length, bytes_eq, is_some, Option, Some, None, Result, Ok, refl, sym, subst}
use Rattle.lilo_model.specs.Checks.{◌>>=◌, require}
use Rattle.lilo_model.specs.MinixEntries.{here_name, above_name}
use Rattle.lilo_model.specs.MinixFind.{NotFound, NotDirectory, PathTooLong, Component, components, begins_with_slash, text_limit, link_limit}
use Rattle.lilo_model.specs.MinixNames.{Thing, File, Link, Directory, Other}
use Rattle.lilo_model.specs.MinixFindNames.{Names, leads_to_directory, link_text, path_above, path_there, path_below, child_path, NameWalked, EndsAt, MeetsLink, stop_or, walk_names, path_end, path_through, names_through, path_of}
use Rattle.lilo_model.specs.NamePlaces.{NameSplit, split_at_last, placed_name, name_path}
use Rattle.map_laws.proofs.Accepted.{both-pass, required}
use Rattle.session_laws.specs.Leads.{LeadsOn, NamePathLaw}

value-is : {A F : Type 0} → (found value : A) → ◌≡◌ {A = Result A F} (Ok found) (Ok value) → found ≡ value
value-is found value is = cc

-- what is a directory is there, and is no link
some-directory : (thing : Option Thing) → leads_to_directory thing ≡ true → (is_some thing ≡ true) × (link_text thing ≡ None)
some-directory None is = cc
some-directory (Some (File bytes)) is = cc
some-directory (Some (Link text)) is = cc
some-directory (Some Directory) is = (refl, refl)
some-directory (Some Other) is = cc

some-link : (thing : Option Thing) (text : List ℕ) → link_text thing ≡ Some text → is_some thing ≡ true
some-link None text is = cc
some-link (Some thing) text is = refl

module _ (one other : Names) (leads : LeadsOn one other) where
  -- ---- one component

  there-too : (position : ℕ) (path at : List (List ℕ)) (was now : Option Thing) → path_there position path was ≡ Ok at → (path ≡ at → is_some now ≡ true) → path_there position path now ≡ Ok at
  there-too position path at None now is some = cc
  there-too position path at (Some thing) None is some = let e = some (value-is path at is) in cc
  there-too position path at (Some thing) (Some again) is some = is

  below-too : (path at : List (List ℕ)) (position : ℕ) (name : List ℕ) → path_below one path position name ≡ Ok at → is_some (other at) ≡ true → path_below other path position name ≡ Ok at
  below-too path at position name = by (bytes_eq here_name name) (bytes_eq above_name name)
    where
      by : (here above : Bool) → (if here then Ok path else (if above then Ok (path_above path) else path_there position (name ∷ path) (one (name ∷ path)))) ≡ Ok at → is_some (other at) ≡ true
          → (if here then Ok path else (if above then Ok (path_above path) else path_there position (name ∷ path) (other (name ∷ path)))) ≡ Ok at
      by true above is some = is
      by false true is some = is
      by false false is some = there-too position (name ∷ path) at (one (name ∷ path)) (other (name ∷ path)) is (λ same. subst (λ (p : List (List ℕ)). is_some (other p) ≡ true) (sym same) some)

  -- what has children is a directory
  child-above : (path at : List (List ℕ)) (position : ℕ) (name : List ℕ) → child_path one path position name ≡ Ok at → leads_to_directory (one path) ≡ true
  unfolding child_path
  child-above path at position name is =
      let both = both-pass (require (leads_to_directory (one path)) (NotDirectory position)) (λ a. path_below one path position name) at is in
      required (leads_to_directory (one path)) (NotDirectory position) both.1

  child-too : (path at : List (List ℕ)) (position : ℕ) (name : List ℕ) → child_path one path position name ≡ Ok at → is_some (other at) ≡ true → child_path other path position name ≡ Ok at
  unfolding child_path
  child-too path at position name is some =
      let both = both-pass (require (leads_to_directory (one path)) (NotDirectory position)) (λ a. path_below one path position name) at is in
      let directory = leads.directories path (required (leads_to_directory (one path)) (NotDirectory position) both.1) in
      rw directory (below-too path at position name both.2 some)

  -- ---- a walk that ends at a directory or a link

  abbrev EndsWell : NameWalked → Type 0
  EndsWell (EndsAt path) = leads_to_directory (one path) ≡ true
  EndsWell (MeetsLink path text rest) = Unit {0}

  walk-there : (path : List (List ℕ)) (position : ℕ) (others : List Component) (end : NameWalked) → walk_names one true path position others ≡ Ok end → EndsWell end
      → leads_to_directory (one path) ≡ true
  walk-there path position [] end is well = subst EndsWell (sym (value-is (EndsAt path) end is)) well
  walk-there path position (component ∷ others) end is well =
      let both = both-pass (child_path one path position component.name)
      (λ at. stop_or path component.rest (walk_names one true at (position + 1) others) (link_text (one at))) end is in
      child-above path both.0 position component.name both.1

  walk-too : (path : List (List ℕ)) (position : ℕ) (others : List Component) (end : NameWalked) → walk_names one true path position others ≡ Ok end → EndsWell end
      → walk_names other true path position others ≡ Ok end
  walk-too path position [] end is well = is
  walk-too path position (component ∷ others) end is well =
      let both = both-pass (child_path one path position component.name)
      (λ at. stop_or path component.rest (walk_names one true at (position + 1) others) (link_text (one at))) end is in
      let on = on-by (λ at further. walk-too at (position + 1) others end further well) both.0 (link_text (one both.0)) refl both.2 in
      rw (child-too path both.0 position component.name both.1 on.0) on.1
    where
      on-by : ((at : List (List ℕ)) → walk_names one true at (position + 1) others ≡ Ok end → walk_names other true at (position + 1) others ≡ Ok end)
          → (at : List (List ℕ)) (followed : Option (List ℕ)) → link_text (one at) ≡ followed
          → stop_or path component.rest (walk_names one true at (position + 1) others) (link_text (one at)) ≡ Ok end
          → (is_some (other at) ≡ true)
          × (stop_or path component.rest (walk_names other true at (position + 1) others) (link_text (other at)) ≡ Ok end)
      on-by next at None none is =
          let further : walk_names one true at (position + 1) others ≡ Ok end = rw none at is in
          let directory = some-directory (other at) (leads.directories at (walk-there at (position + 1) others end further well)) in
          (directory.0, rw directory.1 (next at further))
      on-by next at (Some text) some is =
          let again = leads.links at text some in
          let ends = rw some at is in
          (some-link (other at) text again, rw again ends)

  -- ---- links

  end-well : (end : NameWalked) (path : List (List ℕ)) → path_end end ≡ Ok path → leads_to_directory (one path) ≡ true → EndsWell end
  end-well (EndsAt at) path is directory = subst (λ (p : List (List ℕ)). leads_to_directory (one p) ≡ true) (sym (value-is at path is)) directory
  end-well (MeetsLink at text rest) path is directory = tt

  through-too : (more : ℕ) (path : List (List ℕ)) (text : List ℕ) (at : List (List ℕ)) → names_through one true more path text ≡ Ok at → leads_to_directory (one at) ≡ true
      → names_through other true more path text ≡ Ok at
  through-too zero path text at is directory =
      let both = both-pass (walk_names one true path 0 (components text)) path_end at is in
      rw (walk-too path 0 (components text) both.0 both.1 (end-well both.0 at both.2 directory)) both.2
  through-too (suc more) path text at is directory =
      let both = both-pass (walk_names one true path 0 (components text)) (path_through (names_through one true more)) at is in
      let end = end-by (λ path text found. through-too more path text at found directory) both.0 both.2 in
      rw (walk-too path 0 (components text) both.0 both.1 end.0) end.1
    where
      end-by : ((path : List (List ℕ)) (text : List ℕ) → names_through one true more path text ≡ Ok at → names_through other true more path text ≡ Ok at)
          → (end : NameWalked) → path_through (names_through one true more) end ≡ Ok at → EndsWell end × (path_through (names_through other true more) end ≡ Ok at)
      end-by next (EndsAt path) is = (end-well (EndsAt path) at is directory, is)
      end-by next (MeetsLink path text rest) is =
          let further = names_through one true more (if begins_with_slash text then [] else path) (text ++ rest) in
          let both = both-pass (require (nat_le (length text + length rest) text_limit) PathTooLong) (λ a. further) at is in
          (tt, rw both.1 (next (if begins_with_slash text then [] else path) (text ++ rest) both.2))

  path-too : (text : List ℕ) (path : List (List ℕ)) → path_of one true text ≡ Ok path → leads_to_directory (one path) ≡ true → path_of other true text ≡ Ok path
  unfolding path_of
  path-too text path is directory =
      let first = both-pass (require (begins_with_slash text) (NotFound 0)) (λ a. require (nat_le (length text) text_limit) PathTooLong >>= λ b. names_through one true link_limit [] text) path is in
      let second = both-pass (require (nat_le (length text) text_limit) PathTooLong) (λ b. names_through one true link_limit [] text) path first.2 in
      rw (first.1, second.1) (through-too link_limit [] text path second.2 directory)

  -- ---- the place of a name

  placed-too : (split : Option NameSplit) (path : List (List ℕ)) → placed_name one split ≡ Ok path → placed_name other split ≡ Ok path
  placed-too None path is = cc
  placed-too (Some split) path is =
      let fault = NotDirectory (length (components split.before)) in
      let first = both-pass (path_of one true split.before) (λ directory. require (leads_to_directory (one directory)) fault >>= λ there. Ok (split.name ∷ directory)) path is in
      let second = both-pass (require (leads_to_directory (one first.0)) fault) (λ there. Ok (split.name ∷ first.0)) path first.2 in
      let was = required (leads_to_directory (one first.0)) fault second.1 in
      rw (path-too split.before first.0 first.1 was, leads.directories first.0 was) second.2

  name-too : (text : List ℕ) (path : List (List ℕ)) → name_path one text ≡ Ok path → name_path other text ≡ Ok path
  unfolding name_path
  name-too text path is = placed-too (split_at_last text (components text)) path is

pub name_path_law : NamePathLaw
name_path_law one other text path leads is = name-too one other leads text path is
