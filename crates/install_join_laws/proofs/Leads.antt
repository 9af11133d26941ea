-- What a path leads to, and what it is apart from.
use Rattle.std.proofs.Common.{◌≡◌, ℕ, ◌==◌, ◌&&◌, Bool, true, false, not, List, [], is_some, option_map, Option, Some, None, Result, Ok, Err, refl, sym, ◌∙◌, ap, subst}
use Rattle.std.proofs.lemmas.Bool.{eq-eqb, eqb-true}
use Rattle.lilo_model.specs.Apart.{is_same_inode, ends_at, leads_to_absent, is_apart_path}
use Rattle.lilo_model.specs.Disks.{Image}
use Rattle.lilo_model.specs.MinixFind.{TreeFault, find_in}
use Rattle.lilo_model.specs.MinixFindNames.{path_of, AgreesOn}
use Rattle.lilo_model.specs.MinixNames.{Thing, File, names, names_in, reached, thing, IsSound}
use Rattle.lilo_model.specs.MinixParts.{Volume, parts_of}
use Rattle.lilo_model.specs.NamePlaces.{plain_path, same_path, with_name}
use Rattle.minix_laws.proofs.WalkNames.{find_law}
use Rattle.minix_names.proofs.PathLemmas.{path-same, same-is}

-- ---- what a path leads to

module _ (volume : Volume) (image : Image) where
  abbrev Leads : List (List ℕ) → Option ℕ
  Leads path = reached volume.layout (parts_of volume image) path

  -- something is at a path that leads somewhere
  pub leads-some : (path : List (List ℕ)) (number : ℕ) → Leads path ≡ Some number → is_some (names_in volume image path) ≡ true
  unfolding names_in names
  leads-some path number is = ap (λ (o : Option ℕ). is_some (option_map (thing volume.layout (parts_of volume image)) o)) is

  pub leads-none : (path : List (List ℕ)) (number : ℕ) → Leads path ≡ Some number → names_in volume image path ≡ None → ⊥
  leads-none path number is none = let some = subst (λ (o : Option Thing). is_some o ≡ true) none (leads-some path number is) in cc

  module _ (sound : IsSound volume image) (text : List ℕ) where
    agrees : (at : Result (List (List ℕ)) TreeFault) → path_of (names_in volume image) true text ≡ at → AgreesOn volume.layout (parts_of volume image) (find_in image volume text) at
    agrees at is = subst (AgreesOn volume.layout (parts_of volume image) (find_in image volume text)) is (find_law volume image sound true text)

    -- the inode at the path where a walk over Names ends
    pub ends-find : (path : List (List ℕ)) → path_of (names_in volume image) true text ≡ Ok path → (number : ℕ) × (find_in image volume text ≡ Ok number) × (Leads path ≡ Some number)
    ends-find path is = by (find_in image volume text) refl (agrees (Ok path) is)
      where
        by : (found : Result ℕ TreeFault) → find_in image volume text ≡ found → AgreesOn volume.layout (parts_of volume image) found (Ok path)
            → (number : ℕ) × (find_in image volume text ≡ Ok number) × (Leads path ≡ Some number)
        by (Ok number) is leads = (number, is, leads)
        by (Err fault) is leads = absurd leads

    -- and the path at which one ends, by the inode
    pub find-ends : (number : ℕ) → find_in image volume text ≡ Ok number → (path : List (List ℕ)) × (path_of (names_in volume image) true text ≡ Ok path) × (Leads path ≡ Some number)
    find-ends number is = by (path_of (names_in volume image) true text) refl
      where
        by : (at : Result (List (List ℕ)) TreeFault) → path_of (names_in volume image) true text ≡ at
            → (path : List (List ℕ)) × (path_of (names_in volume image) true text ≡ Ok path) × (Leads path ≡ Some number)
        by (Ok path) at = (path, at, subst (λ (f : Result ℕ TreeFault). AgreesOn volume.layout (parts_of volume image) f (Ok path)) is (agrees (Ok path) at))
        by (Err fault) at = absurd (subst (λ (f : Result ℕ TreeFault). AgreesOn volume.layout (parts_of volume image) f (Err fault)) is (agrees (Err fault) at))

    -- a path that can't be followed over Names leads nowhere, for the same reason
    pub ends-fails : (fault : TreeFault) → path_of (names_in volume image) true text ≡ Err fault → find_in image volume text ≡ Err fault
    ends-fails fault is = by (find_in image volume text) refl (agrees (Err fault) is)
      where
        by : (found : Result ℕ TreeFault) → find_in image volume text ≡ found → AgreesOn volume.layout (parts_of volume image) found (Err fault) → find_in image volume text ≡ Err fault
        by (Ok number) is leads = absurd leads
        by (Err other) is same = is ∙ ap Err same

    -- and one that leads nowhere can't be followed
    pub find-fails : (fault : TreeFault) → find_in image volume text ≡ Err fault → path_of (names_in volume image) true text ≡ Err fault
    find-fails fault is = by (path_of (names_in volume image) true text) refl
      where
        by : (at : Result (List (List ℕ)) TreeFault) → path_of (names_in volume image) true text ≡ at → path_of (names_in volume image) true text ≡ Err fault
        by (Ok path) at = absurd (subst (λ (f : Result ℕ TreeFault). AgreesOn volume.layout (parts_of volume image) f (Ok path)) is (agrees (Ok path) at))
        by (Err other) at =
            at ∙ ap Err (sym (subst (λ (f : Result ℕ TreeFault). AgreesOn volume.layout (parts_of volume image) f (Err other)) is (agrees (Err other) at)))

  -- ---- a path that is apart from a name

  module _ (text : List ℕ) (name : List (List ℕ)) where
    abbrev Absent : Type 0
    Absent = (names_in volume image (plain_path name) ≡ None) × (path_of (with_name name (Some (File [])) (names_in volume image)) true text ≡ Ok name)

    same-number : (number : ℕ) (found : Result ℕ TreeFault) → found ≡ Ok number → is_same_inode (Some number) found ≡ true
    same-number number found is = rw is (eq-eqb number number refl)

    leads-absent : Absent → leads_to_absent (names_in volume image) text name ≡ true
    leads-absent absent = rw (absent.0, absent.1, path-same name) refl

    both-not : (one two : Bool) → (not one && not two) ≡ true → (one ≡ false) × (two ≡ false)
    both-not false false is = (refl, refl)
    both-not false true is = cc
    both-not true two is = cc

    module _ (apart : is_apart_path image volume text name ≡ true) where
      parts : (is_same_inode (Leads (plain_path name)) (find_in image volume text) ≡ false) × (leads_to_absent (names_in volume image) text name ≡ false)
      unfolding is_apart_path
      parts = both-not (is_same_inode (Leads (plain_path name)) (find_in image volume text)) (leads_to_absent (names_in volume image) text name) apart

      -- it doesn't lead to the inode there
      pub not-there : (number : ℕ) → Leads (plain_path name) ≡ Some number → find_in image volume text ≡ Ok number → ⊥
      not-there number leads found =
          let same : is_same_inode (Leads (plain_path name)) (find_in image volume text) ≡ true = rw leads (same-number number (find_in image volume text) found) in
          let other = parts.0 in
          cc

      -- nor to where nothing is
      pub not-absent : Absent → ⊥
      not-absent absent = let same = leads-absent absent in let other = parts.1 in cc

    -- what does neither is apart
    pub is-apart : ((number : ℕ) → Leads (plain_path name) ≡ Some number → find_in image volume text ≡ Ok number → ⊥) → (Absent → ⊥) → is_apart_path image volume text name ≡ true
    unfolding is_apart_path
    is-apart there absent =
        rw (no-inode (Leads (plain_path name)) (find_in image volume text) refl refl, no-name (names_in volume image (plain_path name)) refl) refl
      where
        no-inode : (leads : Option ℕ) (found : Result ℕ TreeFault) → Leads (plain_path name) ≡ leads → find_in image volume text ≡ found → is_same_inode leads found ≡ false
        no-inode None found one two = refl
        no-inode (Some number) (Err fault) one two = refl
        no-inode (Some number) (Ok other) one two = by (number == other) refl
          where
            by : (same : Bool) → (number == other) ≡ same → (number == other) ≡ false
            by true is = absurd (there number one (two ∙ ap Ok (sym (eqb-true number other is))))
            by false is = is

        no-name : (what : Option Thing) → names_in volume image (plain_path name) ≡ what → leads_to_absent (names_in volume image) text name ≡ false
        no-name (Some one) is = rw is refl
        no-name None is = rw is (at (path_of (with_name name (Some (File [])) (names_in volume image)) true text) refl)
          where
            at : (end : Result (List (List ℕ)) TreeFault) → path_of (with_name name (Some (File [])) (names_in volume image)) true text ≡ end → ends_at name end ≡ false
            at (Err fault) end = refl
            at (Ok path) end = by (same_path name path) refl
              where
                by : (same : Bool) → same_path name path ≡ same → same_path name path ≡ false
                by true same = absurd (absent (is, end ∙ ap Ok (sym (same-is name path same))))
                by false same = same
