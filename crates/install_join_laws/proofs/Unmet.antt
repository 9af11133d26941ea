-- A path that comes to the same whether or not files are at some plain names comes to the same over Names that differ in those alone.
use Rattle.std.proofs.Common.{◌≡◌, ℕ, zero, suc, ◌+◌, ◌||◌, Bool, true, false, not, nat_le, if◌then◌else◌, inl, inr, List, [], ◌∷◌, ◌++◌, length, bytes_eq, is_some, Option, Some, None, Result, Ok, Err, refl, sym, ◌∙◌, ap, subst}
use Rattle.std.specs.Prelude.{◌⊎◌}
use Rattle.lilo_model.specs.Checks.{◌>>=◌, require}
use Rattle.lilo_model.specs.MinixEntries.{here_name, above_name}
use Rattle.lilo_model.specs.MinixFind.{TreeFault, NotFound, NotDirectory, PathTooLong, Component, components, is_last, begins_with_slash, text_limit, link_limit}
use Rattle.lilo_model.specs.MinixFindNames.{Names, leads_to_directory, path_above, path_there, path_below, child_path, NameWalked, EndsAt, MeetsLink, stop_or, followed_text, walk_names, path_end, path_through, names_through, path_of}
use Rattle.lilo_model.specs.MinixNames.{Thing, File}
use Rattle.lilo_model.specs.NamePlaces.{same_path, with_name, without_name}
use Rattle.minix_names.proofs.PathLemmas.{same-is, name-here}
use Rattle.install_join_laws.proofs.Walks.{AreAlike, IsPlain, alike-plain, followed-same}

abbrev Found : Type 0
Found = Result (List (List ℕ)) TreeFault

-- what is neither here nor there is refused for two reasons
abbrev is_not_found : Found → Bool
is_not_found (Ok path) = false
is_not_found (Err (NotFound position)) = true
is_not_found (Err fault) = false

module _ (one other : Names) (IsOne : List (List ℕ) → Type 0) (plain : (name : List (List ℕ)) → IsOne name → IsPlain (one name)) (alike : AreAlike one other)
    (off : (path : List (List ℕ)) → IsOne path ⊎ (is_some (other path) ≡ is_some (one path))) where
  -- the Names, the other ones, and the Names with a file at a name, or with nothing there
  data Which : Type 0 where
    Before : Which
    After : Which
    Filled : (name : List (List ℕ)) (is : IsOne name) → Which
    Emptied : (name : List (List ℕ)) (is : IsOne name) → Which

  abbrev at : Which → Names
  at Before = one
  at After = other
  at (Filled name is) = with_name name (Some (File [])) one
  at (Emptied name is) = without_name name one

  like : (which : Which) → AreAlike one (at which)
  like Before = record { directories = λ path. refl; links = λ path. refl }
  like After = alike
  like (Filled name is) = alike-plain name (Some (File [])) one (record { directory = refl; link = refl }) (plain name is)
  like (Emptied name is) = alike-plain name None one (record { directory = refl; link = refl }) (plain name is)

  -- what is found by each is the same by both Names, if it is the same with a file at a name and without
  abbrev IsUnmet : (Which → Found) → Type 0
  IsUnmet found = (name : List (List ℕ)) (is : IsOne name) → found (Filled name is) ≡ found (Emptied name is)

  abbrev IsSame : (Which → Found) → Type 0
  IsSame found = IsUnmet found → found After ≡ found Before

  same-by : (found given : Which → Found) → ((which : Which) → found which ≡ given which) → IsSame given → IsSame found
  same-by found given is same unmet =
      is After ∙ (same (λ name one. sym (is (Filled name one)) ∙ (unmet name one ∙ is (Emptied name one))) ∙ sym (is Before))

  same-required : (test : Bool) (fault : TreeFault) (found : Which → Found) → IsSame found → IsSame (λ which. require test fault >>= λ a. found which)
  same-required true fault found same = same
  same-required false fault found same = λ unmet. refl

  -- ---- a walk

  module _ (follows_last : Bool) (finish : Which → NameWalked → Found) (ends : (which : Which) (path : List (List ℕ)) → finish which (EndsAt path) ≡ Ok path)
      (links : (path : List (List ℕ)) (text rest : List ℕ) → IsSame (λ which. finish which (MeetsLink path text rest))) where
    module _ (component : Component) (others : List Component) (position : ℕ) where
      abbrev Wanted : Bool
      Wanted = follows_last || not (is_last others)

      abbrev on : Which → List (List ℕ) → List (List ℕ) → Option (List ℕ) → Result NameWalked TreeFault
      on which path child followed = stop_or path component.rest (walk_names (at which) follows_last child (position + 1) others) followed

      abbrev further : Which → List (List ℕ) → Result (List (List ℕ)) TreeFault → Found
      further which path child = (child >>= λ child. on which path child (followed_text Wanted (at which child))) >>= finish which

      module _ (walk-on : (child : List (List ℕ)) → IsSame (λ which. walk_names (at which) follows_last child (position + 1) others >>= finish which)) (path : List (List ℕ)) where
        next : (child : List (List ℕ)) → IsSame (λ which. further which path (Ok child))
        next child =
            same-by (λ which. further which path (Ok child)) (λ which. on which path child (followed_text Wanted (one child)) >>= finish which)
            (λ which. ap (λ followed. on which path child followed >>= finish which) (followed-same one (at which) (like which) Wanted child)) (by (followed_text Wanted (one child)))
          where
            by : (followed : Option (List ℕ)) → IsSame (λ which. on which path child followed >>= finish which)
            by None = walk-on child
            by (Some text) = links path text component.rest

        -- a file isn't walked into
        filled-is : (which : Which) (child : List (List ℕ)) → at which child ≡ Some (File []) → is_not_found (further which path (path_there position child (at which child))) ≡ false
        unfolding child_path
        filled-is which child is =
            ap (λ what. is_not_found (further which path (path_there position child what))) is
            ∙ (ap (λ what. is_not_found (on which path child (followed_text Wanted what) >>= finish which)) is ∙ by Wanted others)
          where
            by : (wanted : Bool) (others : List Component)
                → is_not_found (stop_or path component.rest (walk_names (at which) follows_last child (position + 1) others) (followed_text wanted (Some (File []))) >>= finish which) ≡ false
            by true [] = rw (ends which child) refl
            by false [] = rw (ends which child) refl
            by true (component ∷ others) = rw is refl
            by false (component ∷ others) = rw is refl

        met : (child : List (List ℕ)) → IsOne child → IsUnmet (λ which. further which path (path_there position child (at which child))) → ⊥
        met child is unmet =
            let filled = filled-is (Filled child is) child (name-here child (Some (File [])) one) in
            let gone : at (Emptied child is) child ≡ None = name-here child None one in
            let emptied : is_not_found (further (Emptied child is) path (path_there position child (at (Emptied child is) child))) ≡ true =
            ap (λ what. is_not_found (further (Emptied child is) path (path_there position child what))) gone in
            let same = ap is_not_found (unmet child is) in
            cc

        there : (child : List (List ℕ)) → IsSame (λ which. further which path (path_there position child (at which child)))
        there child unmet = by (off child)
          where
            found : Which → Found
            found which = further which path (path_there position child (at which child))

            none-is : (which : Which) (what : Option Thing) → at which child ≡ what → is_some what ≡ false → found which ≡ Err (NotFound position)
            none-is which None is none = ap (λ what. further which path (path_there position child what)) is
            none-is which (Some thing) is none = cc

            some-is : (which : Which) (what : Option Thing) → at which child ≡ what → is_some what ≡ true → found which ≡ further which path (Ok child)
            some-is which None is some = cc
            some-is which (Some thing) is some = ap (λ what. further which path (path_there position child what)) is

            -- where something is there, it is so with a file at another name and without
            beside : (name : List (List ℕ)) (what : Option Thing) → IsOne name → is_some (one child) ≡ true → is_some (with_name name what one child) ≡ true
            beside name what is some = at-name (same_path name child) refl
              where
                at-name : (same : Bool) → same_path name child ≡ same → is_some (if same then what else one child) ≡ true
                at-name true same = absurd (met child (subst IsOne (same-is name child same) is) unmet)
                at-name false same = some

            some-all : is_some (one child) ≡ true → is_some (other child) ≡ true → (which : Which) → is_some (at which child) ≡ true
            some-all some also Before = some
            some-all some also After = also
            some-all some also (Filled name is) = beside name (Some (File [])) is some
            some-all some also (Emptied name is) = beside name None is some

            by-some : (some : Bool) → is_some (one child) ≡ some → is_some (other child) ≡ some → found After ≡ found Before
            by-some false none also = none-is After (other child) refl also ∙ sym (none-is Before (one child) refl none)
            by-some true some also =
                same-by found (λ which. further which path (Ok child)) (λ which. some-is which (at which child) refl (some-all some also which)) (next child) unmet

            by : IsOne child ⊎ (is_some (other child) ≡ is_some (one child)) → found After ≡ found Before
            by (inl is) = absurd (met child is unmet)
            by (inr same) = by-some (is_some (one child)) refl same

        below : IsSame (λ which. further which path (path_below (at which) path position component.name))
        below = by (bytes_eq here_name component.name) (bytes_eq above_name component.name)
          where
            by : (here above : Bool) → IsSame (λ which. further which path (if here then Ok path else (if above then Ok (path_above path) else path_there position (component.name ∷ path) (at which (component.name ∷ path)))))
            by true above = next path
            by false true = next (path_above path)
            by false false = there (component.name ∷ path)

        step : IsSame (λ which. further which path (child_path (at which) path position component.name))
        unfolding child_path
        step =
            same-by (λ which. further which path (child_path (at which) path position component.name))
            (λ which. further which path (require (leads_to_directory (one path)) (NotDirectory position) >>= λ a. path_below (at which) path position component.name))
            (λ which. ap (λ directory. further which path (require directory (NotDirectory position) >>= λ a. path_below (at which) path position component.name)) ((like which).directories path))
            (by (leads_to_directory (one path)))
          where
            by : (directory : Bool) → IsSame (λ which. further which path (require directory (NotDirectory position) >>= λ a. path_below (at which) path position component.name))
            by true = below
            by false = λ unmet. refl

    walk-same : (path : List (List ℕ)) (position : ℕ) (others : List Component) → IsSame (λ which. walk_names (at which) follows_last path position others >>= finish which)
    walk-same path position [] = same-by (λ which. finish which (EndsAt path)) (λ which. Ok path) (λ which. ends which path) (λ unmet. refl)
    walk-same path position (component ∷ others) = step component others position (λ child. walk-same child (position + 1) others) path

  -- ---- links

  through-same : (follows_last : Bool) (more : ℕ) (path : List (List ℕ)) (text : List ℕ) → IsSame (λ which. names_through (at which) follows_last more path text)
  through-same follows_last zero path text = walk-same follows_last (λ which. path_end) (λ which path. refl) (λ path text rest unmet. refl) path 0 (components text)
  through-same follows_last (suc more) path text =
      walk-same follows_last (λ which. path_through (names_through (at which) follows_last more)) (λ which path. refl)
      (λ path text rest.
      same-required (nat_le (length text + length rest) text_limit) PathTooLong (λ which. names_through (at which) follows_last more (if begins_with_slash text then [] else path) (text ++ rest))
      (through-same follows_last more (if begins_with_slash text then [] else path) (text ++ rest)))
      path 0 (components text)

  -- a path
  pub unmet-same : (follows_last : Bool) (text : List ℕ)
      → ((name : List (List ℕ)) → IsOne name → path_of (with_name name (Some (File [])) one) follows_last text ≡ path_of (without_name name one) follows_last text)
      → path_of other follows_last text ≡ path_of one follows_last text
  unfolding path_of
  unmet-same follows_last text unmet =
      same-required (begins_with_slash text) (NotFound 0) (λ which. require (nat_le (length text) text_limit) PathTooLong >>= λ b. names_through (at which) follows_last link_limit [] text)
      (same-required (nat_le (length text) text_limit) PathTooLong (λ which. names_through (at which) follows_last link_limit [] text) (through-same follows_last link_limit [] text)) unmet
