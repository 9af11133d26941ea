-- On a sound volume the facts of a survey hold of what has a name.
use Rattle.std.proofs.Common.{◌≡◌, ◌≢◌, ℕ, suc, ◌≤◌, Bool, true, false, List, [], ◌∷◌, length, Some, refl, sym, ◌∙◌, ap, subst, arith}
use Rattle.lilo_model.specs.MinixLayout.{Super}
use Rattle.lilo_model.specs.MinixParts.{Parts, is_directory}
use Rattle.lilo_model.specs.MinixEntries.{entry_with, above_name}
use Rattle.lilo_model.specs.MinixNames.{entry, reached, Named, Refers, HasSomeEntry, AllLead, IsNew, AreDistinct, depth_limit, Sound}
use Rattle.minix_survey_laws.specs.Survey.{IsSeenDirectory, IsTaken, NamesAt, EntryPlace, AllName, IsNewPlace, AreApart, SurveyFacts, Surveyed}
use Rattle.minix_survey_laws.specs.Laws.{AreNamed, AreLevels, MeetsFacts, FactsLaw, SurveyedLaw}
use Rattle.minix_survey_laws.proofs.Paths.{step-by, root-is, root-leads}
use Rattle.minix_survey_laws.proofs.Seen.{names-lead}

some-same : (one two : ℕ) → Some one ≡ Some two → one ≡ two
some-same one two e = cc

-- a place, by its numbers
abbrev place_with : ℕ → ℕ → EntryPlace
place_with directory place = record { directory = directory; place = place }

module _ (super : Super) (parts : Parts) (seen : ℕ → Bool) (sound : Sound super parts) (named : AreNamed super parts seen) where
  -- ---- paths

  no_twice-at : (directory place other : ℕ) → IsSeenDirectory parts seen directory → IsTaken super parts directory place → IsTaken super parts directory other
      → (entry super parts directory place).name ≡ (entry super parts directory other).name → place ≡ other
  no_twice-at directory place other from one two same =
      let name : List ℕ = (entry super parts directory other).name in
      sound.no_twice directory place other (entry super parts directory place).inode (entry super parts directory other).inode (entry super parts directory other).name
      (named directory from.was) from.is one.some two.some
      (record { below = one.below; is = ap (entry_with (entry super parts directory place).inode) same })
      (record { below = two.below; is = refl })

  lead : (path : List (List ℕ)) (directory place inode : ℕ) → reached super parts path ≡ Some directory → NamesAt super parts seen directory place inode
      → reached super parts ((entry super parts directory place).name ∷ path) ≡ Some inode
  lead path directory place inode leads names =
      names-lead super parts seen path directory place inode leads names
      (λ other taken same. no_twice-at directory other place names.from taken names.by.taken same)

  -- the path of an entry
  path-at : (directory place inode : ℕ) → NamesAt super parts seen directory place inode → List (List ℕ)
  path-at directory place inode names = (entry super parts directory place).name ∷ (named directory names.from.was).path

  leads-at : (directory place inode : ℕ) (names : NamesAt super parts seen directory place inode) → reached super parts (path-at directory place inode names) ≡ Some inode
  unfolding path-at
  leads-at directory place inode names = lead (named directory names.from.was).path directory place inode (named directory names.from.was).leads names

  named-at : (directory place inode : ℕ) → NamesAt super parts seen directory place inode → Named super parts inode
  named-at directory place inode names = record { path = path-at directory place inode names; leads = leads-at directory place inode names }

  not_root-at : (directory place inode : ℕ) → NamesAt super parts seen directory place inode → inode ≢ 1
  unfolding path-at
  not_root-at directory place inode names root =
      let P : ℕ → Type 0 = λ n. is_directory (parts.node n) ≡ true in
      let e = sound.one_name inode (path-at directory place inode names) [] (subst P (sym root) sound.root) (leads-at directory place inode names) (root-leads super parts ∙ ap Some (sym root)) in
      cc

  -- ---- two entries by which one path leads

  -- a path is that of a place of a directory
  pub record IsOf (path : List (List ℕ)) (at : EntryPlace) : Type 0 where
    pub outer : List (List ℕ)
    pub leads : reached super parts outer ≡ Some at.directory
    pub from : IsSeenDirectory parts seen at.directory
    pub taken : IsTaken super parts at.directory at.place
    pub same : path ≡ (entry super parts at.directory at.place).name ∷ outer

  tail-same : (name other : List ℕ) (path there : List (List ℕ)) → name ∷ path ≡ other ∷ there → (name ≡ other) × (path ≡ there)
  tail-same name other path there e = (cc, cc)

  place-same : (directory other place there : ℕ) → directory ≡ other → IsSeenDirectory parts seen directory → IsTaken super parts directory place → IsTaken super parts other there
      → (entry super parts directory place).name ≡ (entry super parts other there).name → place ≡ there
  place-same directory other place there same from one two name =
      let P : ℕ → Type 0 = λ d. IsTaken super parts d there in
      let here : (entry super parts other there).name ≡ (entry super parts directory there).name = ap (λ d. (entry super parts d there).name) (sym same) in
      no_twice-at directory place there from one (subst P (sym same) two) (name ∙ here)

  same-place : (path : List (List ℕ)) (at there : EntryPlace) → IsOf path at → IsOf path there → (at.directory ≡ there.directory) × (at.place ≡ there.place)
  same-place path at there one two =
      let both = tail-same (entry super parts at.directory at.place).name (entry super parts there.directory there.place).name one.outer two.outer (sym one.same ∙ two.same) in
      let directory : at.directory ≡ there.directory = some-same at.directory there.directory (sym one.leads ∙ ap (reached super parts) both.1 ∙ two.leads) in
      (directory, place-same at.directory there.directory at.place there.place directory one.from one.taken two.taken both.0)

  is_of-at : (directory place inode : ℕ) (names : NamesAt super parts seen directory place inode) → IsOf (path-at directory place inode names) (place_with directory place)
  unfolding path-at
  is_of-at directory place inode names = record {
    outer = (named directory names.from.was).path;
    leads = (named directory names.from.was).leads;
    from = names.from;
    taken = names.by.taken;
    same = refl;
  }

  one_entry-at : (directory other place there inode : ℕ) → IsSeenDirectory parts seen inode → NamesAt super parts seen directory place inode → NamesAt super parts seen other there inode
      → (directory ≡ other) × (place ≡ there)
  one_entry-at directory other place there inode is one two =
      let same = sound.one_name inode (path-at directory place inode one) (path-at other there inode two) is.is (leads-at directory place inode one) (leads-at other there inode two) in
      let P : List (List ℕ) → Type 0 = λ p. IsOf p (place_with other there) in
      same-place (path-at directory place inode one) (place_with directory place) (place_with other there) (is_of-at directory place inode one) (subst P (sym same) (is_of-at other there inode two))

  above-at : (outer place directory : ℕ) → IsSeenDirectory parts seen directory → NamesAt super parts seen outer place directory → HasSomeEntry super parts directory (entry_with outer above_name)
  unfolding path-at
  above-at outer place directory is names =
      sound.above directory outer (entry super parts outer place).name (named outer names.from.was).path (leads-at outer place directory names) (named outer names.from.was).leads is.is

  -- ---- levels

  level_by : (number : ℕ) (test : Bool) → seen number ≡ test → ℕ
  level_by number true was = length (named number was).path
  level_by number false was = 0

  level_of : ℕ → ℕ
  level_of number = level_by number (seen number) refl

  level-by : (number : ℕ) (path : List (List ℕ)) → IsSeenDirectory parts seen number → reached super parts path ≡ Some number → (test : Bool) (was : seen number ≡ test) → level_by number test was ≡ length path
  unfolding level_by
  level-by number path from leads true was = ap length (sound.one_name number (named number was).path path from.is (named number was).leads leads)
  level-by number path from leads false was = let t = from.was in cc

  level-is : AreLevels super parts seen level_of
  unfolding level_of
  level-is number path from leads = level-by number path from leads _ refl

  -- ---- places are names

  -- the paths of some places, one each
  abbrev pub AreOf : List EntryPlace → List (List (List ℕ)) → Type 0
  AreOf [] [] = Unit {0}
  AreOf [] (path ∷ paths) = ⊥
  AreOf (at ∷ others) [] = ⊥
  AreOf (at ∷ others) (path ∷ paths) = IsOf path at × AreOf others paths

  same-of : (path other : List (List ℕ)) (at there : EntryPlace) → IsOf path at → IsOf other there → path ≡ other → at ≡ there
  same-of path other at there one two same =
      let P : List (List ℕ) → Type 0 = λ p. IsOf p there in
      let both = same-place path at there one (subst P (sym same) two) in
      ap (λ d. place_with d at.place) both.0 ∙ ap (λ k. place_with there.directory k) both.1

  new-of : (path : List (List ℕ)) (at : EntryPlace) → IsOf path at → (others : List EntryPlace) (paths : List (List (List ℕ))) → AreOf others paths → IsNewPlace at others → IsNew path paths
  new-of path at one [] [] are new = tt
  new-of path at one [] (next ∷ paths) are new = absurd are
  new-of path at one (other ∷ others) [] are new = absurd are
  new-of path at one (other ∷ others) (next ∷ paths) are new =
      (λ same. new.0 (same-of path next at other one are.0 same), new-of path at one others paths are.1 new.1)

  pub record PathsOf (number : ℕ) (all : List EntryPlace) : Type 0 where
    pub paths : List (List (List ℕ))
    pub are : AreOf all paths
    pub count : length all ≡ length paths
    pub distinct : AreDistinct paths
    pub leads : AllLead super parts number paths

  pub paths-of : (number : ℕ) (all : List EntryPlace) → AreApart all → AllName super parts seen number all → PathsOf number all
  paths-of number [] apart name = record { paths = []; are = tt; count = refl; distinct = tt; leads = tt }
  paths-of number (at ∷ others) apart name =
      let rest = paths-of number others apart.1 name.1 in
      let path : List (List ℕ) = path-at at.directory at.place number name.0 in
      let one : IsOf (path-at at.directory at.place number name.0) at = is_of-at at.directory at.place number name.0 in
      record {
        paths = path ∷ rest.paths;
        are = (one, rest.are);
        count = ap suc rest.count;
        distinct = (new-of path at one others rest.paths rest.are apart.0, rest.distinct);
        leads = (leads-at at.directory at.place number name.0, rest.leads);
      }

  links-at : (number : ℕ) (all : List EntryPlace) → AreApart all → AllName super parts seen number all → length all ≤ (parts.node number).links
  links-at number [] apart name = omega arith
  links-at number (at ∷ others) apart name =
      let paths = paths-of number (at ∷ others) apart name in
      let other : number ≢ 1 = not_root-at at.directory at.place number name.0 in
      let enough : length paths.paths ≤ (parts.node number).links = sound.links number paths.paths other paths.distinct paths.leads in
      let count : length (at ∷ others) ≡ length paths.paths = paths.count in
      omega (arith, enough, count)

  -- ---- the facts

  module _ (level : ℕ → ℕ) (are : AreLevels super parts seen level) where
    next_level-at : (outer place directory : ℕ) → IsSeenDirectory parts seen directory → NamesAt super parts seen outer place directory → level directory ≡ suc (level outer)
    unfolding path-at
    next_level-at outer place directory is names =
        are directory (path-at outer place directory names) is (leads-at outer place directory names)
        ∙ ap suc (sym (are outer (named outer names.from.was).path names.from (named outer names.from.was).leads))

    depth-at : (directory : ℕ) → IsSeenDirectory parts seen directory → level directory ≤ depth_limit
    depth-at directory from =
        let there = named directory from.was in
        let low : length there.path ≤ depth_limit = sound.depth directory there.path there.leads from.is in
        let same : level directory ≡ length there.path = are directory there.path from there.leads in
        omega (arith, low, same)

    facts-of : SurveyFacts super parts seen level
    facts-of = record {
      inodes = λ number was.
          let there = named number was in
          let range = sound.in_range number there in
          record { some = range.0; below = range.1; marked = sound.marked number there; mode = sound.mode number there; size = sound.size number there };
      zones = λ number at zone was to.
          let refers : Refers super parts number at zone = record { named = named number was; to = to } in
          let range = sound.zone_range number at zone refers in
          record { from = range.0; below = range.1; marked = sound.zone_marked number at zone refers };
      once = λ number other at there zone was was' to to'.
          sound.once number other at there zone (record { named = named number was; to = to }) (record { named = named other was'; to = to' });
      no_twice = no_twice-at;
      not_root = not_root-at;
      one_entry = one_entry-at;
      here = λ directory from. sound.here directory (named directory from.was) from.is;
      root_above = λ from. sound.root_above;
      above = above-at;
      root_level = λ from. are 1 [] from (root-leads super parts);
      next_level = next_level-at;
      depth = depth-at;
      links = links-at;
    }

  meets-facts : MeetsFacts super parts seen
  meets-facts = record { facts = facts-of; levels = (level_of, level-is); entries = named-at }

  -- ---- all that has a name was seen

  module _ (all : (number : ℕ) → Named super parts number → seen number ≡ true) where
    done : Surveyed super parts seen level_of
    done = record {
      root = record { was = all 1 (record { path = []; leads = root-leads super parts }); is = sound.root };
      entries = λ directory place inode names. all inode (named-at directory place inode names);
      facts = facts-of level_of level-is;
    }

    found-by : (number : ℕ) (path : List (List ℕ)) → reached super parts path ≡ Some number → number ≢ 1 → (directory : ℕ) × (place : ℕ) × NamesAt super parts seen directory place number
    found-by number [] leads other = absurd (other (root-is super parts number leads))
    found-by number (name ∷ path) leads other =
        let step = step-by super parts seen name path number (λ outer leads'. all outer (record { path = path; leads = leads' })) _ refl leads in
        (step.outer, step.place, step.names)

pub facts_law : FactsLaw
facts_law super parts seen sound named = meets-facts super parts seen sound named

pub surveyed_law : SurveyedLaw
surveyed_law super parts seen sound named all = (
  level_of super parts seen sound named,
  done super parts seen sound named all,
  λ number was other. found-by super parts seen sound named all number (named number was).path (named number was).leads other,
)
