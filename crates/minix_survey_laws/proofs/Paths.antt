-- Where the facts of a survey hold, each path goes through what was seen.
use Rattle.std.proofs.Common.{◌≡◌, ◌≢◌, ℕ, suc, ◌≤◌, Bool, true, List, [], ◌∷◌, length, Option, Some, None, refl, sym, ◌∙◌, ap, subst, arith}
use Rattle.lilo_model.specs.MinixLayout.{Super}
use Rattle.lilo_model.specs.MinixParts.{Parts, is_directory}
use Rattle.lilo_model.specs.MinixEntries.{entry_with, above_name, is_dots}
use Rattle.lilo_model.specs.MinixNames.{entry, lookup, then_lookup, reached, Named, HasEntry, HasSomeEntry, AllLead, IsNew, AreDistinct, Sound}
use Rattle.minix_survey_laws.specs.Survey.{IsSeenDirectory, IsTaken, NamesAt, EntryPlace, AllName, IsNewPlace, AreApart, Surveyed}
use Rattle.minix_survey_laws.specs.Laws.{SurveyLaw, NamedLaw}
use Rattle.minix_survey_laws.proofs.Found.{lookup-finds}

module _ (super : Super) (parts : Parts) where
  -- the last step of a path
  pub record Step (seen : ℕ → Bool) (name : List ℕ) (path : List (List ℕ)) (number : ℕ) : Type 0 where
    pub outer : ℕ
    pub place : ℕ
    pub leads : reached super parts path ≡ Some outer
    pub names : NamesAt super parts seen outer place number
    pub by : (entry super parts outer place).name ≡ name

  pub root-is : (number : ℕ) → reached super parts [] ≡ Some number → number ≡ 1
  unfolding reached
  root-is number leads = cc

  pub root-leads : reached super parts [] ≡ Some 1
  unfolding reached
  root-leads = refl

  step-of : (seen : ℕ → Bool) (name : List ℕ) (path : List (List ℕ)) (number outer : ℕ) → seen outer ≡ true → reached super parts path ≡ Some outer
      → lookup super parts name outer ≡ Some number → Step seen name path number
  step-of seen name path number outer was leads found =
      let finds = lookup-finds super parts name outer number found in
      let is : entry super parts outer finds.stands.place ≡ entry_with number name = finds.stands.is in
      let inode_is : (entry super parts outer finds.stands.place).inode ≡ number = ap (λ e. e.inode) is in
      let name_is : (entry super parts outer finds.stands.place).name ≡ name = ap (λ e. e.name) is in
      record {
        outer = outer;
        place = finds.stands.place;
        leads = leads;
        names = record {
          from = record { was = was; is = finds.is_directory };
          by = record {
            taken = record { below = finds.stands.below; some = λ e. finds.stands.some (sym inode_is ∙ e) };
            is = inode_is;
            plain = ap is_dots name_is ∙ finds.plain;
          };
        };
        by = name_is;
      }

  pub step-by : (seen : ℕ → Bool) (name : List ℕ) (path : List (List ℕ)) (number : ℕ) → ((outer : ℕ) → reached super parts path ≡ Some outer → seen outer ≡ true)
      → (found : Option ℕ) → reached super parts path ≡ found → reached super parts (name ∷ path) ≡ Some number → Step seen name path number
  unfolding reached
  step-by seen name path number before None is leads = let e = ap (then_lookup super parts name) is in cc
  step-by seen name path number before (Some outer) is leads =
      step-of seen name path number outer (before outer is) is (sym (ap (then_lookup super parts name) is) ∙ leads)

  -- ---- what the facts say of paths

  module _ (seen : ℕ → Bool) (level : ℕ → ℕ) (done : Surveyed super parts seen level) where
    pub reached-seen : (path : List (List ℕ)) (number : ℕ) → reached super parts path ≡ Some number → seen number ≡ true
    reached-seen [] number leads = ap seen (root-is number leads) ∙ done.root.was
    reached-seen (name ∷ path) number leads =
        let step = step-by seen name path number (reached-seen path) _ refl leads in
        done.entries step.outer step.place number step.names

    pub named-seen : (number : ℕ) → Named super parts number → seen number ≡ true
    named-seen number named = reached-seen named.path number named.leads

    step-to : (name : List ℕ) (path : List (List ℕ)) (number : ℕ) → reached super parts (name ∷ path) ≡ Some number → Step seen name path number
    step-to name path number leads = step-by seen name path number (reached-seen path) _ refl leads

    -- no path but the empty one leads to the root
    not-root : (name : List ℕ) (path : List (List ℕ)) (number : ℕ) → reached super parts (name ∷ path) ≡ Some number → number ≢ 1
    not-root name path number leads =
        let step = step-to name path number leads in
        done.facts.not_root step.outer step.place number step.names

    -- the level of a directory is the number of components
    level-length : (path : List (List ℕ)) (number : ℕ) → reached super parts path ≡ Some number → is_directory (parts.node number) ≡ true → level number ≡ length path
    level-length [] number leads is = ap level (root-is number leads) ∙ done.facts.root_level done.root
    level-length (name ∷ path) number leads is =
        let step = step-to name path number leads in
        done.facts.next_level step.outer step.place number (record { was = reached-seen (name ∷ path) number leads; is = is }) step.names ∙ ap suc (level-length path step.outer step.leads step.names.from.is)

    -- a directory is reached by one path
    one-path : (number : ℕ) (path other : List (List ℕ)) → is_directory (parts.node number) ≡ true → reached super parts path ≡ Some number → reached super parts other ≡ Some number → path ≡ other
    one-path number [] [] is leads leads' = refl
    one-path number [] (name ∷ other) is leads leads' = absurd (not-root name other number leads' (root-is number leads))
    one-path number (name ∷ path) [] is leads leads' = absurd (not-root name path number leads (root-is number leads'))
    one-path number (name ∷ path) (name' ∷ other) is leads leads' =
        let one = step-to name path number leads in
        let two = step-to name' other number leads' in
        let same = done.facts.one_entry one.outer two.outer one.place two.place number (record { was = reached-seen (name ∷ path) number leads; is = is }) one.names two.names in
        let there : reached super parts other ≡ Some one.outer = two.leads ∙ ap Some (sym same.0) in
        let rest : path ≡ other = one-path one.outer path other one.names.from.is one.leads there in
        let here : (entry super parts one.outer one.place).name ≡ (entry super parts two.outer two.place).name =
        ap (λ d. (entry super parts d one.place).name) same.0 ∙ ap (λ k. (entry super parts two.outer k).name) same.1 in
        let named : name ≡ name' = sym one.by ∙ here ∙ two.by in
        ap (λ n. n ∷ path) named ∙ ap (λ p. name' ∷ p) rest

    -- ---- names are places

    -- a path is that of a place of a directory
    pub record IsOf (path : List (List ℕ)) (at : EntryPlace) : Type 0 where
      pub outer : List (List ℕ)
      pub leads : reached super parts outer ≡ Some at.directory
      pub is : is_directory (parts.node at.directory) ≡ true
      pub same : path ≡ (entry super parts at.directory at.place).name ∷ outer

    -- paths of one place are the same
    same-of : (path other : List (List ℕ)) (at there : EntryPlace) → IsOf path at → IsOf other there → at ≡ there → path ≡ other
    same-of path other at there one two same =
        let directory : at.directory ≡ there.directory = ap (λ a. a.directory) same in
        let name : (entry super parts at.directory at.place).name ≡ (entry super parts there.directory there.place).name = ap (λ a. (entry super parts a.directory a.place).name) same in
        let outer : one.outer ≡ two.outer = one-path at.directory one.outer two.outer one.is one.leads (two.leads ∙ ap Some (sym directory)) in
        one.same ∙ ap (λ n. n ∷ one.outer) name ∙ ap (λ p. (entry super parts there.directory there.place).name ∷ p) outer ∙ sym two.same

    -- places of some paths, one each
    abbrev pub AreOf : List (List (List ℕ)) → List EntryPlace → Type 0
    AreOf [] [] = Unit {0}
    AreOf [] (at ∷ others) = ⊥
    AreOf (path ∷ paths) [] = ⊥
    AreOf (path ∷ paths) (at ∷ others) = IsOf path at × AreOf paths others

    new-of : (path : List (List ℕ)) (at : EntryPlace) → IsOf path at → (paths : List (List (List ℕ))) (others : List EntryPlace) → AreOf paths others → IsNew path paths → IsNewPlace at others
    new-of path at one [] [] are new = tt
    new-of path at one [] (other ∷ others) are new = absurd are
    new-of path at one (next ∷ paths) [] are new = absurd are
    new-of path at one (next ∷ paths) (other ∷ others) are new =
        (λ same. new.0 (same-of path next at other one are.0 same), new-of path at one paths others are.1 new.1)

    -- the places of paths to an inode
    pub record PlacesOf (number : ℕ) (paths : List (List (List ℕ))) : Type 0 where
      pub all : List EntryPlace
      pub are : AreOf paths all
      pub count : length paths ≡ length all
      pub apart : AreApart all
      pub name : AllName super parts seen number all

    pub places-of : (number : ℕ) (paths : List (List (List ℕ))) → number ≢ 1 → AreDistinct paths → AllLead super parts number paths → PlacesOf number paths
    places-of number [] other distinct lead = record { all = []; are = tt; count = refl; apart = tt; name = tt }
    places-of number ([] ∷ paths) other distinct lead = absurd (other (root-is number lead.0))
    places-of number ((name ∷ path) ∷ paths) other distinct lead =
        let rest = places-of number paths other distinct.1 lead.1 in
        let step = step-to name path number lead.0 in
        let at : EntryPlace = record { directory = step.outer; place = step.place } in
        let one : IsOf (name ∷ path) at = record { outer = path; leads = step.leads; is = step.names.from.is; same = ap (λ n. n ∷ path) (sym step.by) } in
        record {
          all = at ∷ rest.all;
          are = (one, rest.are);
          count = ap suc rest.count;
          apart = (new-of (name ∷ path) at one paths rest.all rest.are distinct.0, rest.apart);
          name = (step.names, rest.name);
        }

    -- ---- all of it

    seen-directory : (directory : ℕ) → Named super parts directory → is_directory (parts.node directory) ≡ true → IsSeenDirectory parts seen directory
    seen-directory directory named is = record { was = named-seen directory named; is = is }

    taken : (directory place inode : ℕ) (name : List ℕ) → inode ≢ 0 → HasEntry super parts directory place (entry_with inode name) → IsTaken super parts directory place
    taken directory place inode name some has = record {
      below = has.below;
      some = λ e. some (sym (ap (λ x. x.inode) has.is) ∙ e);
    }

    above-to : (directory outer : ℕ) (name : List ℕ) (path : List (List ℕ)) → reached super parts (name ∷ path) ≡ Some directory → reached super parts path ≡ Some outer → is_directory (parts.node directory) ≡ true
        → HasSomeEntry super parts directory (entry_with outer above_name)
    above-to directory outer name path leads leads' is =
        let step = step-to name path directory leads in
        let same : step.outer ≡ outer = some-same step.outer outer (sym step.leads ∙ leads') in
        let P : ℕ → Type 0 = λ n. HasSomeEntry super parts directory (entry_with n above_name) in
        subst P same (done.facts.above step.outer step.place directory (record { was = reached-seen (name ∷ path) directory leads; is = is }) step.names)
      where
        some-same : (one two : ℕ) → Some one ≡ Some two → one ≡ two
        some-same one two e = cc

    pub sound-of : Sound super parts
    sound-of = record {
      root = done.root.is;
      in_range = λ number named. let good = done.facts.inodes number (named-seen number named) in (good.some, good.below);
      marked = λ number named. (done.facts.inodes number (named-seen number named)).marked;
      mode = λ number named. (done.facts.inodes number (named-seen number named)).mode;
      size = λ number named. (done.facts.inodes number (named-seen number named)).size;
      zone_range = λ number at zone refers. let good = done.facts.zones number at zone (named-seen number refers.named) refers.to in (good.from, good.below);
      zone_marked = λ number at zone refers. (done.facts.zones number at zone (named-seen number refers.named) refers.to).marked;
      once = λ number other at there zone one two. done.facts.once number other at there zone (named-seen number one.named) (named-seen other two.named) one.to two.to;
      one_name = one-path;
      no_twice = λ directory place other inode inode' name named is some some' one two.
          done.facts.no_twice directory place other (seen-directory directory named is)
          (taken directory place inode name some one) (taken directory other inode' name some' two)
          (ap (λ x. x.name) one.is ∙ sym (ap (λ x. x.name) two.is));
      here = λ directory named is. done.facts.here directory (seen-directory directory named is);
      root_above = done.facts.root_above done.root;
      above = above-to;
      depth = λ directory path leads is.
          let low = done.facts.depth directory (record { was = reached-seen path directory leads; is = is }) in
          let same : level directory ≡ length path = level-length path directory leads is in
          omega (arith, low, same);
      links = λ number paths other distinct lead.
          let places = places-of number paths other distinct lead in
          let enough : length places.all ≤ (parts.node number).links = done.facts.links number places.all places.apart places.name in
          omega (arith, enough, places.count);
    }

pub survey_law : SurveyLaw
survey_law super parts seen level done = sound-of super parts seen level done

pub named_law : NamedLaw
named_law super parts seen level number done named = named-seen super parts seen level done number named
