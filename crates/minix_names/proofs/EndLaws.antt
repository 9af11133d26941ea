-- On a sound volume the end of a walk is that of a walk over Names to which one is added.
use Rattle.std.proofs.Common.{◌≡◌, ◌≢◌, ℕ, zero, suc, ◌+◌, ◌==◌, ◌&&◌, Bool, true, false, nat_le, if◌then◌else◌, List, [], ◌∷◌, ◌++◌, length, bytes_eq, Some, None, Result, Ok, Err, refl, sym, ◌∙◌, ap, subst}
use Rattle.std.proofs.lemmas.Bool.{eqb-true, eq-eqb}
use Rattle.std.proofs.lemmas.Slice.Eq.{bytes_eq-Decides}
use Rattle.lilo_model.specs.Checks.{◌>>=◌, require}
use Rattle.lilo_model.specs.MinixLayout.{Super}
use Rattle.lilo_model.specs.MinixParts.{Parts, is_directory, is_link}
use Rattle.lilo_model.specs.MinixEntries.{here_name, above_name}
use Rattle.lilo_model.specs.MinixFind.{TreeFault, NotFound, NotDirectory, NotFile, TooManyLinks, BadEntry, PathTooLong, Zone, Component, components, child, readable, is_last, begins_with_slash, text_limit, link_limit}
use Rattle.lilo_model.specs.MinixNames.{content, reached, thing, names, File, Named, Sound}
use Rattle.lilo_model.specs.MinixFindNames.{Names, leads_to_directory, link_text, path_there, path_below, child_path, NameWalked, EndsAt, MeetsLink, stop_or, followed_text, walk_names, path_end, path_through, names_through, path_of, AgreesOn}
use Rattle.lilo_model.specs.NamePlaces.{same_path, with_name}
use Rattle.lilo_model.specs.Apart.{ends_at}
use Rattle.minix_tree.specs.LinkText.{text_with}
use Rattle.minix_laws.proofs.Inside.{sound_law}
use Rattle.minix_laws.proofs.FindNames.{thing-directory, thing-link, names-reached, child-agrees}
use Rattle.minix_laws.proofs.WalkNames.{HasWholeZones}
use Rattle.minix_names.specs.Ends as ends
use Rattle.minix_names.specs.Ends.{PathEnd, At, Misses, TextEnd, Ends, Meets, Lacks, found_or_last, stop_at, text_end, last_end, start_of, end_through, ends_through}
use Rattle.minix_names.specs.Laws.{ends_at_name}
use Rattle.minix_names.proofs.PathLemmas.{bytes-same, same-is, same-not, path-same, name-here, name-other}
use Rattle.minix_names.proofs.LinkLemmas.{length-content, link-zones}

module _ (super : Super) (parts : Parts) (sound : Sound super parts) (whole : HasWholeZones super parts)
    (above : List (List ℕ)) (holder : ℕ) (last : List ℕ)
    (leads : reached super parts above ≡ Some holder) (is_holder : is_directory (parts.node holder) ≡ true)
    (not_here : bytes_eq here_name last ≡ false) (not_above : bytes_eq above_name last ≡ false)
    (absent : reached super parts (last ∷ above) ≡ None) where
  -- the name, and Names with a file there
  abbrev added : List (List ℕ)
  added = last ∷ above

  abbrev with_file : Names
  with_file = with_name added (Some (File [])) (names super parts)

  -- a component of a directory is the name
  abbrev IsOther : ℕ → List ℕ → Type 0
  IsOther directory name = directory ≡ holder → name ≡ last → ⊥

  -- ---- what is reached

  reached-other : (path : List (List ℕ)) (inode : ℕ) → reached super parts path ≡ Some inode → added ≢ path
  reached-other path inode there same =
      let e : reached super parts path ≡ None = ap (reached super parts) (sym same) ∙ absent in
      cc

  names-other : (path : List (List ℕ)) (inode : ℕ) → reached super parts path ≡ Some inode → with_file path ≡ Some (thing super parts inode)
  names-other path inode there =
      name-other added path (Some (File [])) (names super parts) (reached-other path inode there) ∙ names-reached super parts path inode there

  names-added : with_file added ≡ Some (File [])
  names-added = name-here added (Some (File [])) (names super parts)

  -- the directory of the name has no other path
  one-path : (path : List (List ℕ)) → reached super parts path ≡ Some holder → path ≡ above
  one-path path there = sound.one_name holder path above is_holder there leads

  -- ---- a component

  abbrev ChildAs : ℕ → List ℕ → Result ℕ TreeFault → Result (List (List ℕ)) TreeFault → Type 0
  ChildAs directory name (Ok inode) (Ok path) = reached super parts path ≡ Some inode
  ChildAs directory name (Ok inode) (Err fault) = ⊥
  ChildAs directory name (Err fault) (Ok path) =
      ((position : ℕ) × (fault ≡ NotFound position)) × (path ≡ added) × (directory ≡ holder) × (name ≡ last)
  ChildAs directory name (Err fault) (Err other) = IsOther directory name

  agrees-as : (directory : ℕ) (name : List ℕ) (found : Result ℕ TreeFault) (place : Result (List (List ℕ)) TreeFault) → IsOther directory name
      → AgreesOn super parts found place → ChildAs directory name found place
  agrees-as directory name (Ok inode) (Ok path) other h = h
  agrees-as directory name (Ok inode) (Err fault) other h = absurd h
  agrees-as directory name (Err fault) (Ok path) other h = absurd h
  agrees-as directory name (Err fault) (Err why) other h = other

  -- one that isn't the name is found as in Names without it
  same-below : (path : List (List ℕ)) (position : ℕ) (name : List ℕ) (here up : Bool) → bytes_eq here_name name ≡ here → bytes_eq above_name name ≡ up
      → (here ≡ false → up ≡ false → added ≢ name ∷ path)
      → path_below with_file path position name ≡ path_below (names super parts) path position name
  same-below path position name true up is_here is_up other = rw is_here refl
  same-below path position name false true is_here is_up other = rw (is_here, is_up) refl
  same-below path position name false false is_here is_up other =
      let e : with_file (name ∷ path) ≡ names super parts (name ∷ path) = name-other added (name ∷ path) (Some (File [])) (names super parts) (other refl refl) in
      rw (is_here, is_up) (ap (path_there position (name ∷ path)) e)

  other-child : (path : List (List ℕ)) (directory position : ℕ) (name : List ℕ) → reached super parts path ≡ Some directory
      → (bytes_eq here_name name ≡ false → bytes_eq above_name name ≡ false → added ≢ name ∷ path)
      → IsOther directory name
      → ChildAs directory name (child super parts directory position name) (child_path with_file path position name)
  unfolding child_path
  other-child path directory position name there apart other =
      let e : with_file path ≡ names super parts path = names-other path directory there ∙ sym (names-reached super parts path directory there) in
      let below = same-below path position name (bytes_eq here_name name) (bytes_eq above_name name) refl refl apart in
      agrees-as directory name (child super parts directory position name) (child_path with_file path position name) other
      (rw (e, below) (child-agrees super parts sound path directory position name there))

  -- the name itself is found as a file
  absent-as : (position : ℕ) (found : Result ℕ TreeFault) → AgreesOn super parts found (Err (NotFound position)) → ChildAs holder last found (Ok added)
  absent-as position (Ok inode) h = absurd h
  absent-as position (Err fault) h = ((position, h), refl, refl, refl)

  names-absent : names super parts added ≡ None
  unfolding names
  names-absent = rw absent refl

  added-child : (position : ℕ) → ChildAs holder last (child super parts holder position last) (child_path with_file above position last)
  unfolding child_path
  added-child position =
      let dir : leads_to_directory (Some (thing super parts holder)) ≡ true = thing-directory super parts holder ∙ is_holder in
      let without : child_path (names super parts) above position last ≡ Err (NotFound position) =
      rw (names-reached super parts above holder leads, dir, not_here, not_above, names-absent) refl in
      let with : child_path with_file above position last ≡ Ok added =
      rw (names-other above holder leads, dir, not_here, not_above, names-added) refl in
      let agrees = child-agrees super parts sound above holder position last leads in
      subst (ChildAs holder last (child super parts holder position last)) (sym with)
      (absent-as position (child super parts holder position last)
      (subst (AgreesOn super parts (child super parts holder position last)) without agrees))

  -- so each component of a directory that was reached is found alike
  child-as : (path : List (List ℕ)) (directory position : ℕ) (name : List ℕ) → reached super parts path ≡ Some directory
      → ChildAs directory name (child super parts directory position name) (child_path with_file path position name)
  child-as path directory position name there = by (same_path added (name ∷ path)) refl
    where
      same-number : (one other : ℕ) → Some one ≡ Some other → one ≡ other
      same-number one other e = cc

      same-name : last ∷ above ≡ name ∷ path → name ≡ last
      same-name e = cc

      same-above : last ∷ above ≡ name ∷ path → path ≡ above
      same-above e = cc

      same-paths : (n : List ℕ) (p : List (List ℕ)) → last ≡ n → above ≡ p → last ∷ above ≡ n ∷ p
      same-paths n p one two = cc

      by : (test : Bool) → same_path added (name ∷ path) ≡ test
          → ChildAs directory name (child super parts directory position name) (child_path with_file path position name)
      by true is =
          let e = same-is added (name ∷ path) is in
          let at : directory ≡ holder = same-number directory holder (sym there ∙ ap (reached super parts) (same-above e) ∙ leads) in
          let N : List ℕ → Type 0 = λ n. ChildAs directory n (child super parts directory position n) (child_path with_file path position n) in
          let P : List (List ℕ) → Type 0 = λ p. ChildAs directory last (child super parts directory position last) (child_path with_file p position last) in
          let D : ℕ → Type 0 = λ d. ChildAs d last (child super parts d position last) (child_path with_file above position last) in
          subst N (sym (same-name e)) (subst P (sym (same-above e)) (subst D (sym at) (added-child position)))
      by false is =
          let apart : added ≢ name ∷ path = λ e. let t = path-same added in let u : same_path added added ≡ false = ap (same_path added) e ∙ is in cc in
          other-child path directory position name there (λ here up. apart)
          (λ at is_last. apart (same-paths name path (sym is_last) (sym (one-path path (subst (λ (d : ℕ). reached super parts path ≡ Some d) at there)))))

  -- ---- the walk of a text

  abbrev WalksAs : Result TextEnd TreeFault → Result NameWalked TreeFault → Type 0
  WalksAs (Ok (Ends inode)) (Ok (EndsAt path)) = reached super parts path ≡ Some inode
  WalksAs (Ok (Ends inode)) (Ok (MeetsLink path text rest)) = ⊥
  WalksAs (Ok (Ends inode)) (Err fault) = ⊥
  WalksAs (Ok (Meets directory link rest)) (Ok (EndsAt path)) = ⊥
  WalksAs (Ok (Meets directory link rest)) (Ok (MeetsLink path text behind)) =
      (reached super parts path ≡ Some directory) × Named super parts link × (is_link (parts.node link) ≡ true) × (text ≡ content super parts link) × (behind ≡ rest)
  WalksAs (Ok (Meets directory link rest)) (Err fault) = ⊥
  WalksAs (Ok (Lacks directory name)) (Ok (EndsAt path)) = (path ≡ added) × (directory ≡ holder) × (name ≡ last)
  WalksAs (Ok (Lacks directory name)) (Ok (MeetsLink path text rest)) = ⊥
  WalksAs (Ok (Lacks directory name)) (Err fault) = IsOther directory name
  WalksAs (Err fault) (Ok walked) = ⊥
  WalksAs (Err fault) (Err other) = Unit {0}

  turn : (path : List (List ℕ)) (directory inode : ℕ) (component : Component) (link : Bool) (on : ℕ → Result TextEnd TreeFault) (names_on : Result NameWalked TreeFault)
      → reached super parts path ≡ Some directory → Named super parts inode → is_link (parts.node inode) ≡ link → WalksAs (on inode) names_on
      → WalksAs (if link then Ok (Meets directory inode component.rest) else on inode) (stop_or path component.rest names_on (link_text (Some (thing super parts inode))))
  turn path directory inode component true on names_on there named is further =
      let text : link_text (Some (thing super parts inode)) ≡ Some (content super parts inode) = thing-link super parts inode ∙ (rw is refl) in
      rw text (there, named, is, refl, refl)
  turn path directory inode component false on names_on there named is further =
      let text : link_text (Some (thing super parts inode)) ≡ None = thing-link super parts inode ∙ (rw is refl) in
      rw text further

  refused-as : (directory : ℕ) (component : Component) (is_end : Bool) (fault other : TreeFault) (on : ℕ → Result TextEnd TreeFault) → IsOther directory component.name
      → WalksAs (found_or_last is_end (Err fault) >>= stop_at parts directory component on) (Err other)
  refused-as directory component true (NotFound position) other on apart = apart
  refused-as directory component false (NotFound position) other on apart = tt
  refused-as directory component is_end (NotDirectory position) other on apart = tt
  refused-as directory component is_end NotFile other on apart = tt
  refused-as directory component is_end TooManyLinks other on apart = tt
  refused-as directory component is_end (BadEntry number) other on apart = tt
  refused-as directory component is_end PathTooLong other on apart = tt
  refused-as directory component is_end (Zone fault) other on apart = tt

  -- where the name is found, the walk ends there, or is refused at the next component
  added-as : (path : List (List ℕ)) (directory position missed : ℕ) (component : Component) (others : List Component) (on : ℕ → Result TextEnd TreeFault)
      → directory ≡ holder → component.name ≡ last
      → WalksAs (found_or_last (is_last others) (Err (NotFound missed)) >>= stop_at parts directory component on)
      (stop_or path component.rest (walk_names with_file true added (position + 1) others) (followed_text true (with_file added)))
  unfolding child_path
  added-as path directory position missed component [] on at is = rw names-added (refl, at, is)
  added-as path directory position missed component (next ∷ others) on at is = rw names-added tt

  after-child : (path : List (List ℕ)) (directory position : ℕ) (component : Component) (others : List Component)
      → reached super parts path ≡ Some directory
      → ((at : List (List ℕ)) (inode : ℕ) → reached super parts at ≡ Some inode → WalksAs (text_end super parts inode (position + 1) others) (walk_names with_file true at (position + 1) others))
      → (found : Result ℕ TreeFault) (place : Result (List (List ℕ)) TreeFault) → ChildAs directory component.name found place
      → WalksAs
      (found_or_last (is_last others) found >>= stop_at parts directory component (λ inode. text_end super parts inode (position + 1) others))
      (place >>= λ at. stop_or path component.rest (walk_names with_file true at (position + 1) others) (followed_text true (with_file at)))
  after-child path directory position component others there on (Ok inode) (Ok at) h =
      rw (names-other at inode h)
      (turn path directory inode component (is_link (parts.node inode)) (λ inode. text_end super parts inode (position + 1) others) _ there (record { path = at; leads = h }) refl (on at inode h))
  after-child path directory position component others there on (Ok inode) (Err fault) h = absurd h
  after-child path directory position component others there on (Err fault) (Ok at) h =
      let F : TreeFault → Type 0 = λ f. WalksAs
      (found_or_last (is_last others) (Err f) >>= stop_at parts directory component (λ inode. text_end super parts inode (position + 1) others))
      (stop_or path component.rest (walk_names with_file true at (position + 1) others) (followed_text true (with_file at))) in
      let A : List (List ℕ) → Type 0 = λ p. WalksAs
      (found_or_last (is_last others) (Err (NotFound h.0.0)) >>= stop_at parts directory component (λ inode. text_end super parts inode (position + 1) others))
      (stop_or path component.rest (walk_names with_file true p (position + 1) others) (followed_text true (with_file p))) in
      subst F (sym h.0.1) (subst A (sym h.1)
      (added-as path directory position h.0.0 component others (λ inode. text_end super parts inode (position + 1) others) h.2 h.3))
  after-child path directory position component others there on (Err fault) (Err other) h =
      refused-as directory component (is_last others) fault other (λ inode. text_end super parts inode (position + 1) others) h

  walk-as : (path : List (List ℕ)) (directory position : ℕ) (others : List Component) → reached super parts path ≡ Some directory
      → WalksAs (text_end super parts directory position others) (walk_names with_file true path position others)
  walk-as path directory position [] there = there
  walk-as path directory position (component ∷ others) there =
      after-child path directory position component others there
      (λ at inode here. walk-as at inode (position + 1) others here)
      _ _ (child-as path directory position component.name there)

  -- ---- links

  abbrev EndsAs : Result PathEnd TreeFault → Result (List (List ℕ)) TreeFault → Type 0
  EndsAs (Ok (At inode)) (Ok path) = reached super parts path ≡ Some inode
  EndsAs (Ok (At inode)) (Err fault) = ⊥
  EndsAs (Ok (Misses directory name)) (Ok path) = (path ≡ added) × (directory ≡ holder) × (name ≡ last)
  EndsAs (Ok (Misses directory name)) (Err fault) = IsOther directory name
  EndsAs (Err fault) (Ok path) = ⊥
  EndsAs (Err fault) (Err other) = Unit {0}

  end-as : (one : Result TextEnd TreeFault) (other : Result NameWalked TreeFault) → WalksAs one other → EndsAs (one >>= last_end) (other >>= path_end)
  end-as (Ok (Ends inode)) (Ok (EndsAt path)) h = h
  end-as (Ok (Ends inode)) (Ok (MeetsLink path text rest)) h = absurd h
  end-as (Ok (Ends inode)) (Err fault) h = absurd h
  end-as (Ok (Meets directory link rest)) (Ok (EndsAt path)) h = absurd h
  end-as (Ok (Meets directory link rest)) (Ok (MeetsLink path text behind)) h = tt
  end-as (Ok (Meets directory link rest)) (Err fault) h = absurd h
  end-as (Ok (Lacks directory name)) (Ok (EndsAt path)) h = h
  end-as (Ok (Lacks directory name)) (Ok (MeetsLink path text rest)) h = absurd h
  end-as (Ok (Lacks directory name)) (Err fault) h = h
  end-as (Err fault) (Ok walked) h = absurd h
  end-as (Err fault) (Err other) h = tt

  both-require : (test : Bool) (fault other : TreeFault) (one : Result PathEnd TreeFault) (path : Result (List (List ℕ)) TreeFault) → EndsAs one path
      → EndsAs (require test fault >>= λ a. one) (require test other >>= λ a. path)
  both-require true fault other one path h = h
  both-require false fault other one path h = tt

  root-leads : reached super parts [] ≡ Some 1
  unfolding reached
  root-leads = refl

  module _ (further : ℕ → List ℕ → Result PathEnd TreeFault) (by_names : List (List ℕ) → List ℕ → Result (List (List ℕ)) TreeFault)
      (on : (path : List (List ℕ)) (directory : ℕ) (text : List ℕ) → reached super parts path ≡ Some directory → EndsAs (further directory text) (by_names path text)) where
    start-as : (path : List (List ℕ)) (directory : ℕ) (text : List ℕ) (from_root : Bool) → reached super parts path ≡ Some directory
        → EndsAs (further (if from_root then 1 else directory) text) (by_names (if from_root then [] else path) text)
    start-as path directory text true there = on [] 1 text root-leads
    start-as path directory text false there = on path directory text there

    -- the text of a link before the rest
    text-as : (path : List (List ℕ)) (directory : ℕ) (text rest : List ℕ) (few : Bool) → reached super parts path ≡ Some directory
        → EndsAs ((require few PathTooLong >>= λ a. Ok (text_with rest text)) >>= λ next. further (start_of directory next) next.text)
        (require few PathTooLong >>= λ a. by_names (if begins_with_slash text then [] else path) (text ++ rest))
    text-as path directory text rest true there = start-as path directory (text ++ rest) (begins_with_slash text) there
    text-as path directory text rest false there = tt

    link-as : (path : List (List ℕ)) (directory link : ℕ) (rest : List ℕ) → reached super parts path ≡ Some directory → Named super parts link → is_link (parts.node link) ≡ true
        → EndsAs (end_through super parts further (Meets directory link rest)) (path_through by_names (MeetsLink path (content super parts link) rest))
    link-as path directory link rest there named is =
        let zones = link-zones super parts link is in
        rw ((sound_law super parts link sound named zones).whole, length-content super parts sound whole link named zones)
        (text-as path directory (content super parts link) rest (nat_le ((parts.node link).size + length rest) text_limit) there)

    meets-as : (path : List (List ℕ)) (directory link : ℕ) (text rest behind : List ℕ) → WalksAs (Ok (Meets directory link rest)) (Ok (MeetsLink path text behind))
        → EndsAs (end_through super parts further (Meets directory link rest)) (path_through by_names (MeetsLink path text behind))
    meets-as path directory link text rest behind h =
        let P : List ℕ → Type 0 = λ t. EndsAs (end_through super parts further (Meets directory link rest)) (path_through by_names (MeetsLink path t rest)) in
        let Q : List ℕ → Type 0 = λ r. EndsAs (end_through super parts further (Meets directory link rest)) (path_through by_names (MeetsLink path text r)) in
        subst Q (sym h.4) (subst P (sym h.3) (link-as path directory link rest h.0 h.1 h.2))

    through-as : (one : Result TextEnd TreeFault) (other : Result NameWalked TreeFault) → WalksAs one other
        → EndsAs (one >>= end_through super parts further) (other >>= path_through by_names)
    through-as (Ok (Ends inode)) (Ok (EndsAt path)) h = h
    through-as (Ok (Ends inode)) (Ok (MeetsLink path text rest)) h = absurd h
    through-as (Ok (Ends inode)) (Err fault) h = absurd h
    through-as (Ok (Meets directory link rest)) (Ok (EndsAt path)) h = absurd h
    through-as (Ok (Meets directory link rest)) (Ok (MeetsLink path text behind)) h = meets-as path directory link text rest behind h
    through-as (Ok (Meets directory link rest)) (Err fault) h = absurd h
    through-as (Ok (Lacks directory name)) (Ok (EndsAt path)) h = h
    through-as (Ok (Lacks directory name)) (Ok (MeetsLink path text rest)) h = absurd h
    through-as (Ok (Lacks directory name)) (Err fault) h = h
    through-as (Err fault) (Ok walked) h = absurd h
    through-as (Err fault) (Err other) h = tt

  ends_through-as : (more : ℕ) (path : List (List ℕ)) (directory : ℕ) (text : List ℕ) → reached super parts path ≡ Some directory
      → EndsAs (ends_through super parts more directory text) (names_through with_file true more path text)
  ends_through-as zero path directory text there =
      end-as _ _ (walk-as path directory 0 (components text) there)
  ends_through-as (suc more) path directory text there =
      through-as (ends_through super parts more) (names_through with_file true more)
      (λ at inode behind here. ends_through-as more at inode behind here)
      _ _ (walk-as path directory 0 (components text) there)

  root-readable : readable super parts 1 ≡ Ok 1
  root-readable = rw (sound.size 1 (record { path = []; leads = root-leads })) refl

  pub path-as : (text : List ℕ) → EndsAs (ends.path_end super parts text) (path_of with_file true text)
  unfolding ends.path_end path_of
  path-as text =
      rw root-readable
      (both-require (begins_with_slash text) _ _ _ _
      (both-require (nat_le (length text) text_limit) _ _ _ _
      (ends_through-as link_limit [] 1 text root-leads)))

  -- ---- whether it ends at the name

  both-true : (one two : Bool) → one ≡ true → two ≡ true → (one && two) ≡ true
  both-true one two a b = cc

  here-by : (path : List (List ℕ)) (directory : ℕ) (missed : List ℕ) → path ≡ added → directory ≡ holder → missed ≡ last
      → same_path added path ≡ (directory == holder && bytes_eq missed last)
  here-by path directory missed at is same =
      ap (same_path added) at ∙ path-same added
      ∙ sym (both-true (directory == holder) (bytes_eq missed last) (eq-eqb directory holder is) (ap (λ (n : List ℕ). bytes_eq n last) same ∙ bytes-same last))

  other-by : (directory : ℕ) (missed : List ℕ) (one two : Bool) → (directory == holder) ≡ one → bytes_eq missed last ≡ two
      → IsOther directory missed → false ≡ (one && two)
  other-by directory missed true true is same apart = absurd (apart (eqb-true directory holder is) ((bytes_eq-Decides missed last).0 same))
  other-by directory missed true false is same apart = refl
  other-by directory missed false two is same apart = refl

  absent-by : (end : Result PathEnd TreeFault) (place : Result (List (List ℕ)) TreeFault)
      → EndsAs end place → ends_at added place ≡ ends_at_name holder last None end
  absent-by (Ok (At inode)) (Ok path) h = same-not added path (reached-other path inode h)
  absent-by (Ok (At inode)) (Err fault) h = absurd h
  absent-by (Ok (Misses directory missed)) (Ok path) h = here-by path directory missed h.0 h.1 h.2
  absent-by (Ok (Misses directory missed)) (Err fault) h = other-by directory missed (directory == holder) (bytes_eq missed last) refl refl h
  absent-by (Err fault) (Ok path) h = absurd h
  absent-by (Err fault) (Err other) h = refl

  pub absent-law : (text : List ℕ) → ends_at added (path_of with_file true text) ≡ ends_at_name holder last None (ends.path_end super parts text)
  absent-law text = absent-by (ends.path_end super parts text) (path_of with_file true text) (path-as text)
