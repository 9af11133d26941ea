-- On a sound volume Find is a function of Names.
use Rattle.std.proofs.Common.{◌≡◌, ◌≢◌, ℕ, zero, suc, ◌+◌, ◌*◌, ◌<◌, ◌≤◌, ◌==◌, ◌&&◌, ◌||◌, Bool, true, false, not, nat_le, if◌then◌else◌, List, [], ◌∷◌, ◌++◌, length, Some, None, Result, Ok, Err, refl, sym, ◌∙◌, subst, arith, length-append}
use Rattle.std.proofs.lemmas.Bool.{eq-eqb}
use Rattle.std.proofs.lemmas.List.{length-take-le}
use Rattle.lilo_model.specs.Checks.{◌>>=◌, require}
use Rattle.lilo_model.specs.Disks.{Image}
use Rattle.lilo_model.specs.MinixLayout.{Super}
use Rattle.lilo_model.specs.MinixParts.{Parts, Volume, sector_of, parts_of, is_directory, is_file, is_link, has_zones, zone_bytes, blocks_for, block_pointer}
use Rattle.lilo_model.specs.MinixFind.{TreeFault, PathTooLong, Component, components, Walked, Ends, Meets, readable, is_last, walk, begins_with_slash, end_of, through_link, find_through, find_path, text_limit, link_limit}
use Rattle.lilo_model.specs.MinixNames.{zone_number, block, blocks, content, reached, thing, names, names_in, Named, Sound, HasSound, IsSound}
use Rattle.lilo_model.specs.MinixFindNames.{link_text, NameWalked, EndsAt, MeetsLink, stop_or, followed_text, walk_names, path_end, path_through, names_through, path_of, AgreesOn}
use Rattle.minix_laws.specs.FindNames.{FindLaw}
use Rattle.minix_laws.proofs.Inside.{sound_law, is_pointer-block}
use Rattle.minix_laws.proofs.FindNames.{thing-link, names-reached, child-agrees}

-- each data zone has 1024 bytes
abbrev pub HasWholeZones : Super → Parts → Type 0
HasWholeZones super parts = (zone : ℕ) → super.first ≤ zone → zone < super.zones → length (parts.zone zone) ≡ 1024

module _ (super : Super) (parts : Parts) (sound : Sound super parts) (whole : HasWholeZones super parts) where
  -- ---- the text of a link has as many bytes as its size

  length-zone : (number index : ℕ) → Named super parts number → has_zones (parts.node number) ≡ true → (hole : Bool) → (zone_number super parts number index == 0) ≡ hole
      → length (zone_bytes parts (zone_number super parts number index)) ≡ 1024
  unfolding zone_number
  length-zone number index named zones true hole = rw hole refl
  length-zone number index named zones false hole =
      let some : zone_number super parts number index ≢ 0 = λ e. let t = eq-eqb (zone_number super parts number index) 0 e in cc in
      let range = sound.zone_range number (block_pointer super.kind index) (zone_number super parts number index) (record { named = named; to = record { kind = zones; place = is_pointer-block super.kind index; is = refl; some = some } }) in
      rw hole (whole (zone_number super parts number index) range.0 range.1)

  length-block : (number index : ℕ) → Named super parts number → has_zones (parts.node number) ≡ true → length (block super parts number index) ≡ 1024
  unfolding block
  length-block number index named zones = length-zone number index named zones _ refl

  length-blocks : (number : ℕ) → Named super parts number → has_zones (parts.node number) ≡ true → (count : ℕ) → length (blocks (block super parts number) count) ≡ 1024 * count
  length-blocks number named zones zero = refl
  length-blocks number named zones (suc count) =
      let one : length (blocks (block super parts number) count) ≡ 1024 * count = length-blocks number named zones count in
      length-append (blocks (block super parts number) count) (block super parts number count) ∙ omega (arith, one, length-block number count named zones)

  length-content : (number : ℕ) → Named super parts number → has_zones (parts.node number) ≡ true → length (content super parts number) ≡ (parts.node number).size
  unfolding content
  length-content number named zones =
      let long : length (blocks (block super parts number) (blocks_for (parts.node number).size)) ≡ 1024 * blocks_for (parts.node number).size = length-blocks number named zones (blocks_for (parts.node number).size) in
      length-take-le (parts.node number).size (blocks (block super parts number) (blocks_for (parts.node number).size)) (omega (arith, long))

  -- ---- the walk

  -- a walk ends, or meets a link, in the same place
  abbrev AgreeWalks : Result Walked TreeFault → Result NameWalked TreeFault → Type 0
  AgreeWalks (Ok (Ends inode)) (Ok (EndsAt path)) = reached super parts path ≡ Some inode
  AgreeWalks (Ok (Ends inode)) (Ok (MeetsLink path text rest)) = ⊥
  AgreeWalks (Ok (Meets directory link rest)) (Ok (EndsAt path)) = ⊥
  AgreeWalks (Ok (Meets directory link rest)) (Ok (MeetsLink path text behind)) =
      (reached super parts path ≡ Some directory) × Named super parts link × (is_link (parts.node link) ≡ true) × (text ≡ content super parts link) × (behind ≡ rest)
  AgreeWalks (Ok walked) (Err fault) = ⊥
  AgreeWalks (Err fault) (Ok walked) = ⊥
  AgreeWalks (Err fault) (Err other) = fault ≡ other

  turn : (path : List (List ℕ)) (directory inode : ℕ) (rest : List ℕ) (wanted link : Bool) (on : Result Walked TreeFault) (names_on : Result NameWalked TreeFault)
      → reached super parts path ≡ Some directory → Named super parts inode → is_link (parts.node inode) ≡ link → AgreeWalks on names_on
      → AgreeWalks (if link && wanted then Ok (Meets directory inode rest) else on) (stop_or path rest names_on (followed_text wanted (Some (thing super parts inode))))
  turn path directory inode rest true true on names_on leads named is further =
      let text : link_text (Some (thing super parts inode)) ≡ Some (content super parts inode) = thing-link super parts inode ∙ (rw is refl) in
      rw text (leads, named, is, refl, refl)
  turn path directory inode rest true false on names_on leads named is further =
      let text : link_text (Some (thing super parts inode)) ≡ None = thing-link super parts inode ∙ (rw is refl) in
      rw text further
  turn path directory inode rest false true on names_on leads named is further = further
  turn path directory inode rest false false on names_on leads named is further = further

  after-child : (follows_last : Bool) (path : List (List ℕ)) (directory position : ℕ) (component : Component) (others : List Component)
      → reached super parts path ≡ Some directory
      → ((at : List (List ℕ)) (inode : ℕ) → reached super parts at ≡ Some inode → AgreeWalks (walk super parts follows_last inode (position + 1) others) (walk_names (names super parts) follows_last at (position + 1) others))
      → (found : Result ℕ TreeFault) (place : Result (List (List ℕ)) TreeFault) → AgreesOn super parts found place
      → AgreeWalks
      (found >>= λ inode. if is_link (parts.node inode) && (follows_last || not (is_last others)) then Ok (Meets directory inode component.rest) else walk super parts follows_last inode (position + 1) others)
      (place >>= λ at. stop_or path component.rest (walk_names (names super parts) follows_last at (position + 1) others) (followed_text (follows_last || not (is_last others)) (names super parts at)))
  after-child follows_last path directory position component others leads on (Ok inode) (Ok at) there =
      rw (names-reached super parts at inode there)
      (turn path directory inode component.rest (follows_last || not (is_last others)) _ _ _ leads (record { path = at; leads = there }) refl (on at inode there))
  after-child follows_last path directory position component others leads on (Ok inode) (Err fault) there = absurd there
  after-child follows_last path directory position component others leads on (Err fault) (Ok at) there = absurd there
  after-child follows_last path directory position component others leads on (Err fault) (Err other) there = there

  walk-agrees : (follows_last : Bool) (path : List (List ℕ)) (directory position : ℕ) (others : List Component) → reached super parts path ≡ Some directory
      → AgreeWalks (walk super parts follows_last directory position others) (walk_names (names super parts) follows_last path position others)
  walk-agrees follows_last path directory position [] leads = leads
  walk-agrees follows_last path directory position (component ∷ others) leads =
      after-child follows_last path directory position component others leads
      (λ at inode there. walk-agrees follows_last at inode (position + 1) others there)
      _ _ (child-agrees super parts sound path directory position component.name leads)

  -- ---- links

  end-agrees : (one : Result Walked TreeFault) (other : Result NameWalked TreeFault) → AgreeWalks one other → AgreesOn super parts (one >>= end_of) (other >>= path_end)
  end-agrees (Ok (Ends inode)) (Ok (EndsAt path)) h = h
  end-agrees (Ok (Ends inode)) (Ok (MeetsLink path text rest)) h = absurd h
  end-agrees (Ok (Meets directory link rest)) (Ok (EndsAt path)) h = absurd h
  end-agrees (Ok (Meets directory link rest)) (Ok (MeetsLink path text behind)) h = refl
  end-agrees (Ok (Ends inode)) (Err fault) h = absurd h
  end-agrees (Ok (Meets directory link rest)) (Err fault) h = absurd h
  end-agrees (Err fault) (Ok walked) h = absurd h
  end-agrees (Err fault) (Err other) h = h

  -- a check that both make
  both-require : (test : Bool) (fault : TreeFault) (one : Result ℕ TreeFault) (other : Result (List (List ℕ)) TreeFault) → AgreesOn super parts one other
      → AgreesOn super parts (require test fault >>= λ a. one) (require test fault >>= λ a. other)
  both-require true fault one other h = h
  both-require false fault one other h = refl

  or-true : (test : Bool) → (test || true) ≡ true
  or-true true = refl
  or-true false = refl

  link-zones : (number : ℕ) → is_link (parts.node number) ≡ true → has_zones (parts.node number) ≡ true
  link-zones number is = rw is (or-true (is_directory (parts.node number) || is_file (parts.node number)))

  root-leads : reached super parts [] ≡ Some 1
  unfolding reached
  root-leads = refl

  module _ (find : ℕ → List ℕ → Result ℕ TreeFault) (by_names : List (List ℕ) → List ℕ → Result (List (List ℕ)) TreeFault)
      (on : (path : List (List ℕ)) (directory : ℕ) (text : List ℕ) → reached super parts path ≡ Some directory → AgreesOn super parts (find directory text) (by_names path text)) where
    start-agrees : (path : List (List ℕ)) (directory : ℕ) (text : List ℕ) (from_root : Bool) → reached super parts path ≡ Some directory
        → AgreesOn super parts (find (if from_root then 1 else directory) text) (by_names (if from_root then [] else path) text)
    start-agrees path directory text true leads = on [] 1 text root-leads
    start-agrees path directory text false leads = on path directory text leads

    link-agrees : (path : List (List ℕ)) (directory link : ℕ) (rest : List ℕ) → reached super parts path ≡ Some directory → Named super parts link → is_link (parts.node link) ≡ true
        → AgreesOn super parts (through_link super parts find (Meets directory link rest)) (path_through by_names (MeetsLink path (content super parts link) rest))
    link-agrees path directory link rest leads named is =
        let zones = link-zones link is in
        rw ((sound_law super parts link sound named zones).whole, length-content link named zones)
        (both-require (nat_le ((parts.node link).size + length rest) text_limit) PathTooLong _ _
        (start-agrees path directory (content super parts link ++ rest) (begins_with_slash (content super parts link)) leads))

    meets-agrees : (path : List (List ℕ)) (directory link : ℕ) (text rest behind : List ℕ) → AgreeWalks (Ok (Meets directory link rest)) (Ok (MeetsLink path text behind))
        → AgreesOn super parts (through_link super parts find (Meets directory link rest)) (path_through by_names (MeetsLink path text behind))
    meets-agrees path directory link text rest behind h =
        let P : List ℕ → Type 0 = λ t. AgreesOn super parts (through_link super parts find (Meets directory link rest)) (path_through by_names (MeetsLink path t rest)) in
        let Q : List ℕ → Type 0 = λ r. AgreesOn super parts (through_link super parts find (Meets directory link rest)) (path_through by_names (MeetsLink path text r)) in
        subst Q (sym h.4) (subst P (sym h.3) (link-agrees path directory link rest h.0 h.1 h.2))

    through-agrees : (one : Result Walked TreeFault) (other : Result NameWalked TreeFault) → AgreeWalks one other
        → AgreesOn super parts (one >>= through_link super parts find) (other >>= path_through by_names)
    through-agrees (Ok (Ends inode)) (Ok (EndsAt path)) h = h
    through-agrees (Ok (Ends inode)) (Ok (MeetsLink path text rest)) h = absurd h
    through-agrees (Ok (Meets directory link rest)) (Ok (EndsAt path)) h = absurd h
    through-agrees (Ok (Meets directory link rest)) (Ok (MeetsLink path text behind)) h = meets-agrees path directory link text rest behind h
    through-agrees (Ok (Ends inode)) (Err fault) h = absurd h
    through-agrees (Ok (Meets directory link rest)) (Err fault) h = absurd h
    through-agrees (Err fault) (Ok walked) h = absurd h
    through-agrees (Err fault) (Err other) h = h

  find_through-agrees : (follows_last : Bool) (more : ℕ) (path : List (List ℕ)) (directory : ℕ) (text : List ℕ) → reached super parts path ≡ Some directory
      → AgreesOn super parts (find_through super parts follows_last more directory text) (names_through (names super parts) follows_last more path text)
  find_through-agrees follows_last zero path directory text leads =
      end-agrees _ _ (walk-agrees follows_last path directory 0 (components text) leads)
  find_through-agrees follows_last (suc more) path directory text leads =
      through-agrees (find_through super parts follows_last more) (names_through (names super parts) follows_last more)
      (λ at inode behind there. find_through-agrees follows_last more at inode behind there)
      _ _ (walk-agrees follows_last path directory 0 (components text) leads)

  -- the root's size is one of its kind
  root-readable : readable super parts 1 ≡ Ok 1
  root-readable = rw (sound.size 1 (record { path = []; leads = root-leads })) refl

  pub find_path-agrees : (follows_last : Bool) (text : List ℕ) → AgreesOn super parts (find_path super parts follows_last text) (path_of (names super parts) follows_last text)
  unfolding find_path path_of
  find_path-agrees follows_last text =
      rw root-readable
      (both-require (begins_with_slash text) _ _ _
      (both-require (nat_le (length text) text_limit) PathTooLong _ _
      (find_through-agrees follows_last link_limit [] 1 text root-leads)))

-- ---- in an image

whole_zones : (volume : Volume) (image : Image) → HasSound volume image → HasWholeZones volume.layout (parts_of volume image)
unfolding parts_of
whole_zones volume image sound zone from below =
    let low : length (sector_of volume image (2 * zone)) ≡ 512 = sound.whole (2 * zone) (omega (arith, below)) in
    let high : length (sector_of volume image (2 * zone + 1)) ≡ 512 = sound.whole (2 * zone + 1) (omega (arith, below)) in
    length-append (sector_of volume image (2 * zone)) (sector_of volume image (2 * zone + 1)) ∙ omega (arith, low, high)

pub find_law : FindLaw
unfolding IsSound names_in
find_law volume image sound follows_last text =
    find_path-agrees volume.layout (parts_of volume image) sound.parts (whole_zones volume image sound) follows_last text
