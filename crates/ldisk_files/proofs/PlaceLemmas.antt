-- Where something new goes, and how deep its directory is nested.
use Rattle.std.proofs.Common.{◌≡◌, ◌≢◌, ◌<◌, ◌≤◌, ◌-◌, ◌⊎◌, ℕ, suc, Bool, true, false, List, [], ◌∷◌, length, leb, Option, Some, None, Result, Ok, Err, refl, sym, ◌∙◌, ap, subst, inl, inr, arith}
use Rattle.std.specs.Prelude.{option_map, is_none, nat_le}
use Rattle.std.proofs.lemmas.Bool.{le-leb}
use Rattle.std.proofs.lemmas.Bool.Decides.{leb_tells}
use Rattle.disk_trait.specs.Past.{Past, Image, Told}
use Rattle.disk_trait.proofs.ToldLemmas.{told_both}
use Rattle.lilo_model.specs.Checks.{◌>>=◌, require}
use Rattle.lilo_model.specs.MinixEntries.{above_name}
use Rattle.lilo_model.specs.MinixLayout.{Super}
use Rattle.lilo_model.specs.MinixNames.{lookup, then_lookup, reached, thing, names, names_in, IsSound, Sound}
use Rattle.lilo_model.specs.MinixParts.{Parts, Volume, parts_of, is_directory}
use Rattle.lilo_model.specs.NamePlaces.{plain_path, name_path}
use Rattle.minix_names.specs.Places.{GivesPlace, GivesPath, GivesThere, LeadsToDirectory}
use Rattle.minix_names.specs.declared.place.NamePlace.{NamePlace}
use Rattle.minix_change_laws.proofs.Seen.{opened}
use Rattle.minix_tree.specs.declared.stat.Stat.{Stat}
use Rattle.minix_tree.specs.declared.tree_fault.TreeFault.{TreeFault}
use Rattle.ldisk_model.specs.FileVerdict.{NewDirectory, NewLink, NoPlace, IsThere, making_check, new_check}
use Rattle.ldisk_files.specs.Answer.{Answers, tree_fault}
use Rattle.ldisk_files.specs.Made.{GivesNew, GivesShallow, GivesLength, IsNewAt}
use Rattle.ldisk_files.specs.declared.fault.FileFault.{FileFault}
use Rattle.ldisk_files.specs.declared.fault.FileFault.TheVariants.{Refused, BadLength}
use Rattle.ldisk_files.proofs.RefuseLemmas.{answers-then, tree-refuses}

-- ---- a name at which nothing is

-- what is answered, by what is at the name
abbrev pub new_answer : NamePlace → Result (Option Stat) TreeFault → Result NamePlace FileFault
new_answer place (Ok None) = Ok place
new_answer place (Ok (Some stat)) = Err Refused
new_answer place (Err fault) = Err (tree_fault fault)

module _ (volume : Volume) (image : Image) where
  there-some : (path : List (List ℕ)) (number : ℕ) → reached volume.layout (parts_of volume image) path ≡ Some number → is_none (names_in volume image path) ≡ false
  unfolding names_in names
  there-some path number leads = ap (λ (found : Option ℕ). is_none (option_map (thing volume.layout (parts_of volume image)) found)) leads

  there-none : (path : List (List ℕ)) → reached volume.layout (parts_of volume image) path ≡ None → is_none (names_in volume image path) ≡ true
  unfolding names_in names
  there-none path leads = ap (λ (found : Option ℕ). is_none (option_map (thing volume.layout (parts_of volume image)) found)) leads

  pub no-new-place : (text : List ℕ) (fault : TreeFault) → GivesPlace volume.layout (parts_of volume image) (Err fault) (name_path (names_in volume image) text)
      → GivesNew volume image text (Err (tree_fault fault))
  no-new-place text fault refuses =
      answers-then NamePlace (tree_fault fault) NoPlace (λ why. refl) (name_path (names_in volume image) text)
      (λ new. require (is_none (names_in volume image (plain_path new))) IsThere >>= λ free. Ok new) (tree-refuses fault (name_path (names_in volume image) text) refuses)

  -- the checks pass there
  pub pass-new : (text : List ℕ) (place : NamePlace) (at : IsNewAt volume image text place) → new_check text volume image ≡ Ok at.path
  pass-new text place at = rw (at.is, there-none (plain_path at.path) at.free) refl

  new-by : (text : List ℕ) (place : NamePlace) (at : GivesPath volume.layout (parts_of volume image) (name_path (names_in volume image) text) place)
      (found : Result (Option Stat) TreeFault) → GivesThere volume.layout (parts_of volume image) (place.name.now ∷ at.ends.above) found → GivesNew volume image text (new_answer place found)
  new-by text place at (Ok None) there = record {
    path = at.path;
    is = at.is;
    ends = at.ends;
    free = ap (λ (p : List (List ℕ)). reached volume.layout (parts_of volume image) (plain_path p)) at.ends.is ∙ there;
  }
  new-by text place at (Ok (Some stat)) there =
      let some = there-some (plain_path at.path) stat.inode (ap (λ (p : List (List ℕ)). reached volume.layout (parts_of volume image) (plain_path p)) at.ends.is ∙ there) in
      rw (at.is, some) refl
  new-by text place at (Err fault) there = subst (λ (f : TreeFault). GivesNew volume image text (Err (tree_fault f))) (sym there) tt

pub answer-none : (place : NamePlace) (found : Option Stat) → is_none found ≡ true → new_answer place (Ok found) ≡ Ok place
answer-none place None is = refl
answer-none place (Some stat) is = absurd cc

pub answer-some : (place : NamePlace) (found : Option Stat) → is_none found ≡ false → new_answer place (Ok found) ≡ Err Refused
answer-some place None is = absurd cc
answer-some place (Some stat) is = refl

pub told-new : (past : Option Past) (volume : Volume) (text : List ℕ) (place : NamePlace) (found : Result (Option Stat) TreeFault)
    → Told past (λ now. IsSound volume now → GivesPlace volume.layout (parts_of volume now) (Ok place) (name_path (names_in volume now) text))
    → Told past (λ now. IsSound volume now → (above : List (List ℕ)) → LeadsToDirectory volume.layout (parts_of volume now) above place.directory.inode
    → GivesThere volume.layout (parts_of volume now) (place.name.now ∷ above) found)
    → Told past (λ now. IsSound volume now → GivesNew volume now text (new_answer place found))
told-new past volume text place found at there = told_both past _ _ (λ now. IsSound volume now → GivesNew volume now text (new_answer place found))
    (λ now at there sound. let path = at sound in new-by volume now text place path found (there sound path.ends.above path.ends.there)) at there

-- ---- how deep it is nested

above-leb : (a b : ℕ) → b < a → nat_le a b ≡ false
above-leb a b above = by (leb_tells a b)
  where
    by : ((leb a b ≡ true) × (a ≤ b)) ⊎ ((leb a b ≡ false) × (b < a)) → nat_le a b ≡ false
    by (inl one) = let le = one.1 in absurd (omega (arith, le, above))
    by (inr other) = other.0

pub leb-step : (a b : ℕ) → 0 < b → nat_le (suc a) b ≡ nat_le a (b - 1)
leb-step a b some = by (leb_tells (suc a) b) (leb_tells a (b - 1))
  where
    by : ((leb (suc a) b ≡ true) × (suc a ≤ b)) ⊎ ((leb (suc a) b ≡ false) × (b < suc a)) → ((leb a (b - 1) ≡ true) × (a ≤ b - 1)) ⊎ ((leb a (b - 1) ≡ false) × (b - 1 < a))
        → nat_le (suc a) b ≡ nat_le a (b - 1)
    by (inl one) (inl two) = one.0 ∙ sym two.0
    by (inl one) (inr two) = let le = one.1 in let above = two.1 in absurd (omega (arith, le, above, some))
    by (inr one) (inl two) = let above = one.1 in let le = two.1 in absurd (omega (arith, le, above, some))
    by (inr one) (inr two) = one.0 ∙ sym two.0

module _ (volume : Volume) (image : Image) (sound : IsSound volume image) where
  abbrev S : Super
  S = volume.layout

  abbrev P : Parts
  P = parts_of volume image

  whole : Sound S P
  whole = (opened volume image sound).parts

  -- the root has no name
  root-alone : (path : List (List ℕ)) (directory : ℕ) → LeadsToDirectory S P path directory → directory ≡ 1 → path ≡ []
  unfolding reached
  root-alone path directory leads is = whole.one_name directory path [] leads.is leads.leads (ap Some (sym is))

  not-root : (directory : ℕ) → LeadsToDirectory S P [] directory → directory ≢ 1 → ⊥
  unfolding reached
  not-root directory leads other = other (let is : Some 1 ≡ Some directory = leads.leads in cc)

  pub shallow-root : (path : List (List ℕ)) (directory most : ℕ) → directory ≡ 1 → GivesShallow volume image path directory most (Ok true)
  shallow-root path directory most is = λ leads.
      subst (λ (p : List (List ℕ)). true ≡ nat_le (length p) most) (sym (root-alone path directory leads is)) (sym (le-leb 0 most (omega arith)))

  pub shallow-no : (path : List (List ℕ)) (directory most : ℕ) → directory ≢ 1 → most ≡ 0 → GivesShallow volume image path directory most (Ok false)
  shallow-no [] directory most other none = λ leads. absurd (not-root directory leads other)
  shallow-no (name ∷ outer) directory most other none = λ leads. sym (above-leb (suc (length outer)) most (omega (arith, none)))

  -- the directory above a name is one
  directory-by : (name : List ℕ) (directory : ℕ) (found : Option ℕ) → lookup S P name directory ≡ found → found ≢ None → is_directory (P.node directory) ≡ true
  unfolding lookup
  directory-by name directory found is some = by (is_directory (P.node directory)) refl
    where
      by : (b : Bool) → is_directory (P.node directory) ≡ b → is_directory (P.node directory) ≡ true
      by true says = says
      by false says = absurd (some (sym is ∙ rw says refl))

  above-is : (name : List ℕ) (outer : List (List ℕ)) (number directory : ℕ) → reached S P (name ∷ outer) ≡ Some directory → reached S P outer ≡ Some number → LeadsToDirectory S P outer number
  unfolding reached
  above-is name outer number directory leads up = record {
    leads = up;
    is = directory-by name number (Some directory) (sym (ap (then_lookup S P name) up) ∙ leads) (λ none. cc);
  }

  above-none : (name : List ℕ) (outer : List (List ℕ)) (directory : ℕ) → reached S P (name ∷ outer) ≡ Some directory → reached S P outer ≡ None → ⊥
  unfolding reached
  above-none name outer directory leads none = let no : None ≡ Some directory = sym (ap (then_lookup S P name) none) ∙ leads in cc

  -- what `..` gives of a directory that isn't the root, and then what was answered of that
  module _ (directory most : ℕ) (other : directory ≢ 1) where
    abbrev Gives : Result (Option Stat) TreeFault → Type 0
    Gives found = (above : List (List ℕ)) → LeadsToDirectory S P above directory → GivesThere S P (above_name ∷ above) found

    pub shallow-step : (above : Stat) (result : Result Bool FileFault) → 0 < most → Gives (Ok (Some above)) → ((path : List (List ℕ)) → GivesShallow volume image path above.inode (most - 1) result)
        → (path : List (List ℕ)) → GivesShallow volume image path directory most result
    shallow-step above (Ok shallow) some gives further [] = λ leads. absurd (not-root directory leads other)
    shallow-step above (Ok shallow) some gives further (name ∷ outer) = λ leads.
        further outer (above-is name outer above.inode directory leads.leads (gives (name ∷ outer) leads)) ∙ sym (leb-step (length outer) most some)
    shallow-step above (Err fault) some gives further [] = λ leads. absurd (not-root directory leads other)
    shallow-step above (Err fault) some gives further (name ∷ outer) = λ leads.
        further outer (above-is name outer above.inode directory leads.leads (gives (name ∷ outer) leads))

    pub shallow-none : Gives (Ok None) → (path : List (List ℕ)) → GivesShallow volume image path directory most (Err Refused)
    shallow-none gives [] = λ leads. absurd (not-root directory leads other)
    shallow-none gives (name ∷ outer) = λ leads. absurd (above-none name outer directory leads.leads (gives (name ∷ outer) leads))

    pub shallow-failed : (fault : TreeFault) → Gives (Err fault) → (path : List (List ℕ)) → GivesShallow volume image path directory most (Err (tree_fault fault))
    shallow-failed fault gives path = λ leads. ap tree_fault (gives path leads)

-- ---- what may be made there

module _ (volume : Volume) (image : Image) (outer : List (List ℕ)) (directory : ℕ) (name : List ℕ) where
  pub deep-enough : (size : ℕ) (shallow : Bool) → GivesShallow volume image outer directory 63 (Ok shallow) → shallow ≡ true
      → GivesLength volume image outer directory name NewDirectory (Ok size)
  deep-enough size shallow gives holds = λ leads.
      let is : nat_le (suc (length outer)) 64 ≡ true = leb-step (length outer) 64 (omega arith) ∙ (sym (gives leads) ∙ holds) in
      rw is refl

  pub too-deep : (shallow : Bool) → GivesShallow volume image outer directory 63 (Ok shallow) → shallow ≡ false
      → GivesLength volume image outer directory name NewDirectory (Err Refused)
  too-deep shallow gives fails = λ leads.
      let is : nat_le (suc (length outer)) 64 ≡ false = leb-step (length outer) 64 (omega arith) ∙ (sym (gives leads) ∙ fails) in
      rw is refl

  pub depth-failed : (fault : FileFault) → GivesShallow volume image outer directory 63 (Err fault) → GivesLength volume image outer directory name NewDirectory (Err fault)
  depth-failed fault gives = λ leads. subst (λ (f : FileFault). Answers {B = ℕ} (making_check NewDirectory (name ∷ outer)) (Err f)) (sym (gives leads)) tt

  pub target-fits : (target : List ℕ) (size : ℕ) → 1 ≤ length target → length target ≤ 1023 → GivesLength volume image outer directory name (NewLink target) (Ok size)
  target-fits target size some few = λ leads. rw (le-leb 1 (length target) some, le-leb (length target) 1023 few) refl

  pub no-target : (target : List ℕ) → length target ≡ 0 → GivesLength volume image outer directory name (NewLink target) (Err BadLength)
  no-target target none = λ leads. rw (above-leb 1 (length target) (omega (arith, none))) refl

  pub long-target : (target : List ℕ) → 1023 < length target → GivesLength volume image outer directory name (NewLink target) (Err BadLength)
  long-target target long = λ leads. rw (le-leb 1 (length target) (omega (arith, long)), above-leb (length target) 1023 long) refl
