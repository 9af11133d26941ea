-- On a sound volume each step of Find is one of its names.
use Rattle.std.proofs.Common.{◌≡◌, ◌≢◌, ℕ, ◌/◌, ◌==◌, Bool, true, false, nat_le, if◌then◌else◌, List, [], ◌∷◌, option_map, bytes_eq, Option, Some, None, Ok, Err, refl, sym, ◌∙◌, ap, subst, arith}
use Rattle.std.proofs.lemmas.Bool.{le-leb, eqb-true, ne_eqb}
use Rattle.std.proofs.lemmas.Slice.Eq.{bytes_eq-Decides}
use Rattle.lilo_model.specs.Checks.{◌>>=◌, require}
use Rattle.lilo_model.specs.MinixLayout.{Super}
use Rattle.lilo_model.specs.MinixParts.{Parts, is_directory, is_file, is_link, has_zones}
use Rattle.lilo_model.specs.MinixEntries.{entry_with, places, here_name, above_name, is_dots}
use Rattle.lilo_model.specs.MinixFind.{NotFound, NotDirectory, BadEntry, readable, found_at, child}
use Rattle.lilo_model.specs.MinixNames.{content, entry, first_named, lookup, then_lookup, reached, thing, names, Named, HasSomeEntry, Sound}
use Rattle.lilo_model.specs.MinixFindNames.{leads_to_directory, link_text, path_above, path_there, path_below, child_path, AgreesOn}
use Rattle.minix_laws.proofs.FirstNamed.{first_named-once}
use Rattle.minix_laws.proofs.Inside.{sound_law}

-- ---- things

-- a kind of file is one alone
other-kind : (sort one two : ℕ) → one ≢ two → (sort == one) ≡ true → (sort == two) ≡ false
other-kind sort one two apart is = ne_eqb sort two (λ e. apart (sym (eqb-true sort one is) ∙ e))

module _ (super : Super) (parts : Parts) where
  thing-by : (number : ℕ) (file link directory : Bool) → is_file (parts.node number) ≡ file → is_link (parts.node number) ≡ link → is_directory (parts.node number) ≡ directory
      → (leads_to_directory (Some (thing super parts number)) ≡ directory) × (link_text (Some (thing super parts number)) ≡ (if link then Some (content super parts number) else None))
  unfolding thing
  thing-by number true true directory f l d = let e = other-kind ((parts.node number).mode / 4096) 8 10 (λ e. cc) f in cc
  thing-by number true false true f l d = let e = other-kind ((parts.node number).mode / 4096) 8 4 (λ e. cc) f in cc
  thing-by number true false false f l d = rw f (refl, refl)
  thing-by number false true true f l d = let e = other-kind ((parts.node number).mode / 4096) 10 4 (λ e. cc) l in cc
  thing-by number false true false f l d = rw (f, l) (refl, refl)
  thing-by number false false true f l d = rw (f, l, d) (refl, refl)
  thing-by number false false false f l d = rw (f, l, d) (refl, refl)

  pub thing-directory : (number : ℕ) → leads_to_directory (Some (thing super parts number)) ≡ is_directory (parts.node number)
  thing-directory number = (thing-by number _ _ _ refl refl refl).0

  pub thing-link : (number : ℕ) → link_text (Some (thing super parts number)) ≡ (if is_link (parts.node number) then Some (content super parts number) else None)
  thing-link number = (thing-by number _ _ _ refl refl refl).1

  pub names-reached : (path : List (List ℕ)) (number : ℕ) → reached super parts path ≡ Some number → names super parts path ≡ Some (thing super parts number)
  unfolding names
  names-reached path number leads = ap (option_map (thing super parts)) leads

  names-nowhere : (path : List (List ℕ)) → reached super parts path ≡ None → names super parts path ≡ None
  unfolding names
  names-nowhere path leads = ap (option_map (thing super parts)) leads

  -- ---- children

  directory-zones : (number : ℕ) → is_directory (parts.node number) ≡ true → has_zones (parts.node number) ≡ true
  directory-zones number is = rw is refl

  module _ (sound : Sound super parts) where
    -- what is found in a directory
    child-found : (directory position : ℕ) (name : List ℕ) (found : Option ℕ) → Named super parts directory → is_directory (parts.node directory) ≡ true
        → first_named (entry super parts directory) name (places super.kind (parts.node directory).size) ≡ found
        → child super parts directory position name ≡ (found_at position found >>= λ inode. require (nat_le inode super.inodes) (BadEntry directory) >>= λ b. readable super parts inode)
    unfolding child
    child-found directory position name found named is first =
        let given = (sound_law super parts directory sound named (directory-zones directory is)).found name in
        rw (is, given, first) refl

    child-named : (directory position inode : ℕ) (name : List ℕ) → Named super parts directory → is_directory (parts.node directory) ≡ true
        → first_named (entry super parts directory) name (places super.kind (parts.node directory).size) ≡ Some inode → Named super parts inode
        → child super parts directory position name ≡ Ok inode
    child-named directory position inode name named is first there =
        child-found directory position name (Some inode) named is first
        ∙ rw (le-leb inode super.inodes (sound.in_range inode there).1, sound.size inode there) refl

    child-absent : (directory position : ℕ) (name : List ℕ) → Named super parts directory → is_directory (parts.node directory) ≡ true
        → first_named (entry super parts directory) name (places super.kind (parts.node directory).size) ≡ None
        → child super parts directory position name ≡ Err (NotFound position)
    child-absent directory position name named is first = child-found directory position name None named is first

    -- an entry of a name is the first one, since it appears once
    first-entry : (directory inode : ℕ) (name : List ℕ) → Named super parts directory → is_directory (parts.node directory) ≡ true → inode ≢ 0
        → HasSomeEntry super parts directory (entry_with inode name)
        → first_named (entry super parts directory) name (places super.kind (parts.node directory).size) ≡ Some inode
    first-entry directory inode name named is some has =
        first_named-once (entry super parts directory) name (places super.kind (parts.node directory).size) has.0 inode has.1.below some has.1.is
        (λ other inode' below some' is'. sound.no_twice directory other has.0 inode' inode name named is some' some (record { below = below; is = is' }) has.1)

    some-inode : (number : ℕ) → Named super parts number → number ≢ 0
    some-inode number named none = let range = (sound.in_range number named).0 in absurd (omega (arith, none, range))

    -- the directory itself
    child-here : (directory position : ℕ) (name : List ℕ) → Named super parts directory → is_directory (parts.node directory) ≡ true → here_name ≡ name
        → child super parts directory position name ≡ Ok directory
    child-here directory position name named is same =
        let P : List ℕ → Type 0 = λ n. child super parts directory position n ≡ Ok directory in
        subst P same (child-named directory position directory here_name named is (first-entry directory directory here_name named is (some-inode directory named) (sound.here directory named is)) named)

    -- the directory above
    child-above : (directory outer position : ℕ) (name : List ℕ) → Named super parts directory → is_directory (parts.node directory) ≡ true → above_name ≡ name
        → Named super parts outer → HasSomeEntry super parts directory (entry_with outer above_name)
        → child super parts directory position name ≡ Ok outer
    child-above directory outer position name named is same above has =
        let P : List ℕ → Type 0 = λ n. child super parts directory position n ≡ Ok outer in
        subst P same (child-named directory position outer above_name named is (first-entry directory outer above_name named is (some-inode outer above) has) above)

    lookup-plain : (directory : ℕ) (name : List ℕ) → is_directory (parts.node directory) ≡ true → is_dots name ≡ false
        → lookup super parts name directory ≡ first_named (entry super parts directory) name (places super.kind (parts.node directory).size)
    unfolding lookup
    lookup-plain directory name is plain = rw (is, plain) refl

    no-dots : (name : List ℕ) → bytes_eq here_name name ≡ false → bytes_eq above_name name ≡ false → is_dots name ≡ false
    unfolding is_dots
    no-dots name here above = rw (here, above) refl

    -- a path with one component more
    reached-more : (directory : ℕ) (name : List ℕ) (path : List (List ℕ)) → reached super parts path ≡ Some directory → reached super parts (name ∷ path) ≡ lookup super parts name directory
    unfolding reached
    reached-more directory name path leads = ap (then_lookup super parts name) leads

    outer-of : (name : List ℕ) (path : List (List ℕ)) (directory : ℕ) (outer : Option ℕ) → reached super parts path ≡ outer → reached super parts (name ∷ path) ≡ Some directory
        → (inode : ℕ) × (reached super parts path ≡ Some inode)
    unfolding reached
    outer-of name path directory None is leads = let e = ap (then_lookup super parts name) is in cc
    outer-of name path directory (Some inode) is leads = (inode, is)

    root-leads : reached super parts [] ≡ Some 1
    unfolding reached
    root-leads = refl

    root-is : (directory : ℕ) → reached super parts [] ≡ Some directory → directory ≡ 1
    unfolding reached
    root-is directory leads = cc

    above-agrees : (path : List (List ℕ)) (directory position : ℕ) (name : List ℕ) → reached super parts path ≡ Some directory → is_directory (parts.node directory) ≡ true → above_name ≡ name
        → AgreesOn super parts (child super parts directory position name) (Ok (path_above path))
    above-agrees [] directory position name leads is same =
        let one : directory ≡ 1 = root-is directory leads in
        let P : ℕ → Type 0 = λ n. HasSomeEntry super parts n (entry_with 1 above_name) in
        let root : Named super parts 1 = record { path = []; leads = root-leads } in
        let e = child-above directory 1 position name (record { path = []; leads = leads }) is same root (subst P (sym one) sound.root_above) in
        rw e root-leads
    above-agrees (outer_name ∷ path) directory position name leads is same =
        let outer = outer-of outer_name path directory _ refl leads in
        let e = child-above directory outer.0 position name (record { path = outer_name ∷ path; leads = leads }) is same (record { path = path; leads = outer.1 }) (sound.above directory outer.0 outer_name path leads outer.1 is) in
        rw e outer.1

    named-agrees : (path : List (List ℕ)) (directory position : ℕ) (name : List ℕ) (found : Option ℕ) → reached super parts path ≡ Some directory → is_directory (parts.node directory) ≡ true → is_dots name ≡ false
        → first_named (entry super parts directory) name (places super.kind (parts.node directory).size) ≡ found
        → AgreesOn super parts (child super parts directory position name) (path_there position (name ∷ path) (names super parts (name ∷ path)))
    named-agrees path directory position name None leads is plain first =
        let nowhere : reached super parts (name ∷ path) ≡ None = reached-more directory name path leads ∙ lookup-plain directory name is plain ∙ first in
        rw (child-absent directory position name (record { path = path; leads = leads }) is first, names-nowhere (name ∷ path) nowhere) refl
    named-agrees path directory position name (Some inode) leads is plain first =
        let there : reached super parts (name ∷ path) ≡ Some inode = reached-more directory name path leads ∙ lookup-plain directory name is plain ∙ first in
        rw (child-named directory position inode name (record { path = path; leads = leads }) is first (record { path = name ∷ path; leads = there }), names-reached (name ∷ path) inode there) there

    below-agrees : (path : List (List ℕ)) (directory position : ℕ) (name : List ℕ) (here above : Bool) → bytes_eq here_name name ≡ here → bytes_eq above_name name ≡ above
        → reached super parts path ≡ Some directory → is_directory (parts.node directory) ≡ true
        → AgreesOn super parts (child super parts directory position name) (path_below (names super parts) path position name)
    below-agrees path directory position name true above is_here is_above leads is =
        rw (is_here, child-here directory position name (record { path = path; leads = leads }) is ((bytes_eq-Decides here_name name).0 is_here)) leads
    below-agrees path directory position name false true is_here is_above leads is =
        rw (is_here, is_above) (above-agrees path directory position name leads is ((bytes_eq-Decides above_name name).0 is_above))
    below-agrees path directory position name false false is_here is_above leads is =
        rw (is_here, is_above) (named-agrees path directory position name _ leads is (no-dots name is_here is_above) refl)

    no-directory : (directory position : ℕ) (name : List ℕ) → is_directory (parts.node directory) ≡ false → AgreesOn super parts (child super parts directory position name) (Err (NotDirectory position))
    unfolding child
    no-directory directory position name is = rw is refl

    child-by : (path : List (List ℕ)) (directory position : ℕ) (name : List ℕ) (is_dir : Bool) → is_directory (parts.node directory) ≡ is_dir → reached super parts path ≡ Some directory
        → AgreesOn super parts (child super parts directory position name) (child_path (names super parts) path position name)
    unfolding child_path
    child-by path directory position name true is leads =
        rw (names-reached path directory leads, thing-directory directory, is) (below-agrees path directory position name _ _ refl refl leads is)
    child-by path directory position name false is leads =
        rw (names-reached path directory leads, thing-directory directory, is) (no-directory directory position name is)

    -- a component is found in a directory as in its names
    pub child-agrees : (path : List (List ℕ)) (directory position : ℕ) (name : List ℕ) → reached super parts path ≡ Some directory
        → AgreesOn super parts (child super parts directory position name) (child_path (names super parts) path position name)
    child-agrees path directory position name leads = child-by path directory position name _ refl leads
