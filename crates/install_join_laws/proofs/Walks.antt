-- A walk over Names looks only at which paths lead to directories, at the texts of links, and at what it ends at.
use Rattle.std.proofs.Common.{◌≡◌, ℕ, zero, suc, ◌+◌, ◌||◌, Bool, true, false, not, nat_le, if◌then◌else◌, List, [], ◌∷◌, ◌++◌, length, bytes_eq, is_some, Option, Some, None, Result, Ok, refl, sym, ◌∙◌, subst}
use Rattle.lilo_model.specs.Checks.{◌>>=◌, require}
use Rattle.lilo_model.specs.MinixEntries.{here_name, above_name}
use Rattle.lilo_model.specs.MinixFind.{NotFound, NotDirectory, PathTooLong, Component, components, is_last, begins_with_slash, text_limit, link_limit}
use Rattle.lilo_model.specs.MinixNames.{Thing, File, Link, Directory, Other}
use Rattle.lilo_model.specs.MinixFindNames.{Names, leads_to_directory, link_text, path_above, path_there, path_below, child_path, NameWalked, EndsAt, MeetsLink, stop_or, followed_text, walk_names, path_end, path_through, names_through, path_of}
use Rattle.lilo_model.specs.NamePlaces.{NameSplit, split_at_last, placed_name, name_path, same_path, with_name}
use Rattle.lilo_model.specs.Settled.{file_or_nothing}
use Rattle.map_laws.proofs.Accepted.{both-pass, required}

-- ---- what a walk looks at

-- two Names have the same directories, and the same links
pub record AreAlike (one other : Names) : Type 0 where
  pub directories : (path : List (List ℕ)) → leads_to_directory (other path) ≡ leads_to_directory (one path)
  pub links : (path : List (List ℕ)) → link_text (other path) ≡ link_text (one path)

pub alike-back : (one other : Names) → AreAlike one other → AreAlike other one
alike-back one other alike = record { directories = λ path. sym (alike.directories path); links = λ path. sym (alike.links path) }

-- what is neither a directory nor a link
pub record IsPlain (thing : Option Thing) : Type 0 where
  pub directory : leads_to_directory thing ≡ false
  pub link : link_text thing ≡ None

pub plain-file : (thing : Option Thing) → file_or_nothing thing ≡ Ok tt → IsPlain thing
plain-file None is = record { directory = refl; link = refl }
plain-file (Some (File bytes)) is = record { directory = refl; link = refl }
plain-file (Some (Link text)) is = cc
plain-file (Some Directory) is = cc
plain-file (Some Other) is = record { directory = refl; link = refl }

abbrev said : {A F : Type 0} → A → Result A F
said value = Ok value

pub value-is : {A F : Type 0} → (found value : A) → said {A = A} {F = F} found ≡ said value → found ≡ value
value-is found value is = cc

some-directory : (thing : Option Thing) → leads_to_directory thing ≡ true → is_some thing ≡ true
some-directory None is = cc
some-directory (Some thing) is = refl

some-link : (thing : Option Thing) (text : List ℕ) → link_text thing ≡ Some text → is_some thing ≡ true
some-link None text is = cc
some-link (Some thing) text is = refl

-- ---- the walk

module _ (one other : Names) (alike : AreAlike one other) where
  there-too : (position : ℕ) (path at : List (List ℕ)) (was now : Option Thing) → path_there position path was ≡ Ok at → (path ≡ at → is_some now ≡ true) → path_there position path now ≡ Ok at
  there-too position path at None now is some = cc
  there-too position path at (Some thing) None is some = let e = some (value-is path at is) in cc
  there-too position path at (Some thing) (Some again) is some = is

  below-too : (path at : List (List ℕ)) (position : ℕ) (name : List ℕ) → path_below one path position name ≡ Ok at → is_some (other at) ≡ true → path_below other path position name ≡ Ok at
  below-too path at position name = by (bytes_eq here_name name) (bytes_eq above_name name)
    where
      by : (here above : Bool) → (if here then Ok path else (if above then Ok (path_above path) else path_there position (name ∷ path) (one (name ∷ path)))) ≡ Ok at → is_some (other at) ≡ true
          → (if here then Ok path else (if above then Ok (path_above path) else path_there position (name ∷ path) (other (name ∷ path)))) ≡ Ok at
      by true above is some = is
      by false true is some = is
      by false false is some = there-too position (name ∷ path) at (one (name ∷ path)) (other (name ∷ path)) is (λ same. subst (λ (p : List (List ℕ)). is_some (other p) ≡ true) (sym same) some)

  child-too : (path at : List (List ℕ)) (position : ℕ) (name : List ℕ) → child_path one path position name ≡ Ok at → is_some (other at) ≡ true → child_path other path position name ≡ Ok at
  unfolding child_path
  child-too path at position name is some =
      let both = both-pass (require (leads_to_directory (one path)) (NotDirectory position)) (λ a. path_below one path position name) at is in
      let directory = required (leads_to_directory (one path)) (NotDirectory position) both.1 in
      rw (alike.directories path, directory) (below-too path at position name both.2 some)

  -- what has children is a directory
  child-above : (path at : List (List ℕ)) (position : ℕ) (name : List ℕ) → child_path one path position name ≡ Ok at → is_some (other path) ≡ true
  unfolding child_path
  child-above path at position name is =
      let both = both-pass (require (leads_to_directory (one path)) (NotDirectory position)) (λ a. path_below one path position name) at is in
      some-directory (other path) (alike.directories path ∙ required (leads_to_directory (one path)) (NotDirectory position) both.1)

  -- what a walk ends at is there
  abbrev EndsThere : NameWalked → Type 0
  EndsThere (EndsAt path) = is_some (other path) ≡ true
  EndsThere (MeetsLink path text rest) = Unit {0}

  walk-there : (follows_last : Bool) (path : List (List ℕ)) (position : ℕ) (others : List Component) (end : NameWalked) → walk_names one follows_last path position others ≡ Ok end → EndsThere end
      → is_some (other path) ≡ true
  walk-there follows_last path position [] end is there = subst EndsThere (sym (value-is (EndsAt path) end is)) there
  walk-there follows_last path position (component ∷ others) end is there =
      let both = both-pass (child_path one path position component.name)
      (λ at. stop_or path component.rest (walk_names one follows_last at (position + 1) others) (followed_text (follows_last || not (is_last others)) (one at))) end is in
      child-above path both.0 position component.name both.1

  link-there : (wanted : Bool) (at : List (List ℕ)) (text : List ℕ) → followed_text wanted (one at) ≡ Some text → is_some (other at) ≡ true
  link-there true at text is = some-link (other at) text (alike.links at ∙ is)
  link-there false at text is = cc

  pub followed-same : (wanted : Bool) (at : List (List ℕ)) → followed_text wanted (other at) ≡ followed_text wanted (one at)
  followed-same true at = alike.links at
  followed-same false at = refl

  walk-too : (follows_last : Bool) (path : List (List ℕ)) (position : ℕ) (others : List Component) (end : NameWalked) → walk_names one follows_last path position others ≡ Ok end → EndsThere end
      → walk_names other follows_last path position others ≡ Ok end
  walk-too follows_last path position [] end is there = is
  walk-too follows_last path position (component ∷ others) end is there =
      let wanted = follows_last || not (is_last others) in
      let both = both-pass (child_path one path position component.name)
      (λ at. stop_or path component.rest (walk_names one follows_last at (position + 1) others) (followed_text wanted (one at))) end is in
      let on = on-by (λ at further. walk-too follows_last at (position + 1) others end further there) both.0 (followed_text wanted (one both.0)) refl both.2 in
      rw (child-too path both.0 position component.name both.1 on.0, followed-same wanted both.0) on.1
    where
      on-by : ((at : List (List ℕ)) → walk_names one follows_last at (position + 1) others ≡ Ok end → walk_names other follows_last at (position + 1) others ≡ Ok end)
          → (at : List (List ℕ)) (followed : Option (List ℕ)) → followed_text (follows_last || not (is_last others)) (one at) ≡ followed
          → stop_or path component.rest (walk_names one follows_last at (position + 1) others) (followed_text (follows_last || not (is_last others)) (one at)) ≡ Ok end
          → (is_some (other at) ≡ true)
          × (stop_or path component.rest (walk_names other follows_last at (position + 1) others) (followed_text (follows_last || not (is_last others)) (one at)) ≡ Ok end)
      on-by next at None none is =
          let further : walk_names one follows_last at (position + 1) others ≡ Ok end = rw none at is in
          (walk-there follows_last at (position + 1) others end further there, rw none (next at further))
      on-by next at (Some text) some is = (link-there (follows_last || not (is_last others)) at text some, let ends = rw some at is in rw some ends)

  -- ---- links

  end-at : (end : NameWalked) (path : List (List ℕ)) → path_end end ≡ Ok path → is_some (other path) ≡ true → EndsThere end
  end-at (EndsAt at) path is some = subst (λ (p : List (List ℕ)). is_some (other p) ≡ true) (sym (value-is at path is)) some
  end-at (MeetsLink at text rest) path is some = tt

  through-too : (follows_last : Bool) (more : ℕ) (path : List (List ℕ)) (text : List ℕ) (at : List (List ℕ)) → names_through one follows_last more path text ≡ Ok at → is_some (other at) ≡ true
      → names_through other follows_last more path text ≡ Ok at
  through-too follows_last zero path text at is some =
      let both = both-pass (walk_names one follows_last path 0 (components text)) path_end at is in
      rw (walk-too follows_last path 0 (components text) both.0 both.1 (end-at both.0 at both.2 some)) both.2
  through-too follows_last (suc more) path text at is some =
      let both = both-pass (walk_names one follows_last path 0 (components text)) (path_through (names_through one follows_last more)) at is in
      let end = end-by (λ path text found. through-too follows_last more path text at found some) both.0 both.2 in
      rw (walk-too follows_last path 0 (components text) both.0 both.1 end.0) end.1
    where
      end-by : ((path : List (List ℕ)) (text : List ℕ) → names_through one follows_last more path text ≡ Ok at → names_through other follows_last more path text ≡ Ok at)
          → (end : NameWalked) → path_through (names_through one follows_last more) end ≡ Ok at → EndsThere end × (path_through (names_through other follows_last more) end ≡ Ok at)
      end-by next (EndsAt path) is = (subst (λ (p : List (List ℕ)). is_some (other p) ≡ true) (sym (value-is path at is)) some, is)
      end-by next (MeetsLink path text rest) is =
          let further = names_through one follows_last more (if begins_with_slash text then [] else path) (text ++ rest) in
          let both = both-pass (require (nat_le (length text + length rest) text_limit) PathTooLong) (λ a. further) at is in
          (tt, rw both.1 (next (if begins_with_slash text then [] else path) (text ++ rest) both.2))

  -- a path that a text leads to is led to over the other Names too, where something is there
  pub path-too : (follows_last : Bool) (text : List ℕ) (path : List (List ℕ)) → path_of one follows_last text ≡ Ok path → is_some (other path) ≡ true → path_of other follows_last text ≡ Ok path
  unfolding path_of
  path-too follows_last text path is some =
      let first = both-pass (require (begins_with_slash text) (NotFound 0)) (λ a. require (nat_le (length text) text_limit) PathTooLong >>= λ b. names_through one follows_last link_limit [] text) path is in
      let second = both-pass (require (nat_le (length text) text_limit) PathTooLong) (λ b. names_through one follows_last link_limit [] text) path first.2 in
      rw (first.1, second.1) (through-too follows_last link_limit [] text path second.2 some)

  -- so is a name's place
  placed-too : (split : Option NameSplit) (path : List (List ℕ)) → placed_name one split ≡ Ok path → placed_name other split ≡ Ok path
  placed-too None path is = cc
  placed-too (Some split) path is =
      let fault = NotDirectory (Rattle.std.specs.Prelude.length (components split.before)) in
      let first = both-pass (path_of one true split.before) (λ directory. require (leads_to_directory (one directory)) fault >>= λ there. Ok (split.name ∷ directory)) path is in
      let second = both-pass (require (leads_to_directory (one first.0)) fault) (λ there. Ok (split.name ∷ first.0)) path first.2 in
      let directory = alike.directories first.0 ∙ required (leads_to_directory (one first.0)) fault second.1 in
      rw (path-too true split.before first.0 first.1 (some-directory (other first.0) directory), directory) second.2

  pub name-too : (text : List ℕ) (path : List (List ℕ)) → name_path one text ≡ Ok path → name_path other text ≡ Ok path
  unfolding name_path
  name-too text path is = placed-too (split_at_last text (components text)) path is

-- ---- Names with a file more

-- where what is plain comes to what is plain, directories and links are the same
pub alike-plain : (at : List (List ℕ)) (what : Option Thing) (names : Names) → IsPlain what → IsPlain (names at) → AreAlike names (with_name at what names)
alike-plain at what names now plain = record { directories = λ path. directory path (same_path at path) refl; links = λ path. link path (same_path at path) refl }
  where
    plain-there : (path : List (List ℕ)) → same_path at path ≡ true → IsPlain (names path)
    plain-there path is = subst (λ (p : List (List ℕ)). IsPlain (names p)) (Rattle.minix_names.proofs.PathLemmas.same-is at path is) plain

    directory : (path : List (List ℕ)) (test : Bool) → same_path at path ≡ test → leads_to_directory (if test then what else names path) ≡ leads_to_directory (names path)
    directory path true is = now.directory ∙ sym (plain-there path is).directory
    directory path false is = refl

    link : (path : List (List ℕ)) (test : Bool) → same_path at path ≡ test → link_text (if test then what else names path) ≡ link_text (names path)
    link path true is = now.link ∙ sym (plain-there path is).link
    link path false is = refl

-- so they are where a file comes to it
pub alike-file : (at : List (List ℕ)) (names : Names) → IsPlain (names at) → AreAlike names (with_name at (Some (File [])) names)
alike-file at names plain = alike-plain at (Some (File [])) names (record { directory = refl; link = refl }) plain

-- and so they are in both of two Names that are alike
pub alike-both : (at : List (List ℕ)) (one other : Names) → AreAlike one other → AreAlike (with_name at (Some (File [])) one) (with_name at (Some (File [])) other)
alike-both at one other alike = record { directories = λ path. directory path (same_path at path); links = λ path. link path (same_path at path) }
  where
    directory : (path : List (List ℕ)) (test : Bool) → leads_to_directory (if test then Some (File []) else other path) ≡ leads_to_directory (if test then Some (File []) else one path)
    directory path true = refl
    directory path false = alike.directories path

    link : (path : List (List ℕ)) (test : Bool) → link_text (if test then Some (File []) else other path) ≡ link_text (if test then Some (File []) else one path)
    link path true = refl
    link path false = alike.links path

pub alike-joined : (one middle other : Names) → AreAlike one middle → AreAlike middle other → AreAlike one other
alike-joined one middle other first next = record {
  directories = λ path. next.directories path ∙ first.directories path;
  links = λ path. next.links path ∙ first.links path;
}
