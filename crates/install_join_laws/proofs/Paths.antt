-- Paths that lead to no guarded name lead to none once settling is done.
use Rattle.std.proofs.Common.{◌≡◌, ◌≢◌, ℕ, Bool, true, false, if◌then◌else◌, inl, inr, List, [], is_some, Option, Some, None, Ok, refl, sym, ◌∙◌, ap, subst}
use Rattle.std.specs.Prelude.{◌⊎◌, IfSome}
use Rattle.lilo_model.specs.Apart.{is_apart_path}
use Rattle.lilo_model.specs.Disks.{Image}
use Rattle.lilo_model.specs.MinixFind.{find_in}
use Rattle.lilo_model.specs.MinixFindNames.{Names, leads_to_directory, link_text, path_of}
use Rattle.lilo_model.specs.MinixNames.{Thing, File, names_in, reached, IsSound}
use Rattle.lilo_model.specs.MinixParts.{Volume, parts_of}
use Rattle.lilo_model.specs.NamePlaces.{with_tilde, plain_path, same_path, with_name, without_name}
use Rattle.lilo_model.specs.Settled.{OwnNames, without_stale, file_or_nothing}
use Rattle.minix_names.proofs.PathLemmas.{path-same, same-is, same-not, name-here}
use Rattle.install_settle.specs.Settles.{stale_of, IsBeside}
use Rattle.install_join_laws.specs.ApartLaws.{HasSettled}
use Rattle.install_join_laws.proofs.Walks.{AreAlike, IsPlain, plain-file, alike-back, alike-file, alike-both, alike-joined, path-too}
use Rattle.install_join_laws.proofs.Leads.{leads-some, leads-none, ends-find, find-ends, not-there, not-absent, is-apart}

-- ---- once settling is done

-- a path's name is its own, and what is there may be replaced
pub record IsOwnFile (names : Names) (path : List (List ℕ)) : Type 0 where
  pub own : plain_path path ≡ path
  pub file : file_or_nothing (names path) ≡ Ok tt

-- so are the names that settling changes
pub record AreOwnFiles (at : Names) (names : OwnNames) (forced : Bool) : Type 0 where
  pub map : IsOwnFile at names.map
  pub tilde : IsOwnFile at (with_tilde names.map)
  pub stale : IfSome (stale_of forced names) (λ backup. IsOwnFile at (with_tilde backup))

none-plain : IsPlain None
none-plain = record { directory = refl; link = refl }

module _ (volume : Volume) (old c : Image) (names : OwnNames) (forced finishes : Bool) (before : IsSound volume old) (is : HasSettled volume old c names forced finishes) where
  abbrev Old : Names
  Old = names_in volume old

  abbrev New : Names
  New = names_in volume c

  abbrev P : List (List ℕ)
  P = names.map

  abbrev Was : List (List ℕ) → Option ℕ
  Was path = reached volume.layout (parts_of volume old) path

  abbrev Now : List (List ℕ) → Option ℕ
  Now path = reached volume.layout (parts_of volume c) path

  abbrev Stale : Option (List (List ℕ))
  Stale = stale_of forced names

  -- ---- a path is one of the changed names, or beside them

  abbrev pub IsStale : List (List ℕ) → Type 0
  IsStale path = (backup : List (List ℕ)) × (Stale ≡ Some backup) × (path ≡ with_tilde backup)

  abbrev pub IsSomewhere : List (List ℕ) → Type 0
  IsSomewhere path = (path ≡ P) ⊎ ((path ≡ with_tilde P) ⊎ (IsStale path ⊎ IsBeside names forced path))

  other-path : (one other : List (List ℕ)) → same_path one other ≡ false → other ≢ one
  other-path one other apart same =
      let here : same_path one one ≡ true = path-same one in
      let there : same_path one one ≡ false = subst (λ (p : List (List ℕ)). same_path one p ≡ false) same apart in
      cc

  pub somewhere : (path : List (List ℕ)) → IsSomewhere path
  somewhere path = by (same_path P path) (same_path (with_tilde P) path) refl refl
    where
      copy : (one : path ≢ P) (two : path ≢ with_tilde P) (some : Option (List (List ℕ))) → Stale ≡ some → IsStale path ⊎ IsBeside names forced path
      copy one two None none = inr (record { map = one; tilde = two; stale = subst (λ (o : Option (List (List ℕ))). IfSome o (λ backup. path ≢ with_tilde backup)) (sym none) tt })
      copy one two (Some backup) some = at (same_path (with_tilde backup) path) refl
        where
          at : (same : Bool) → same_path (with_tilde backup) path ≡ same → IsStale path ⊎ IsBeside names forced path
          at true same = inl (backup, some, sym (same-is (with_tilde backup) path same))
          at false same = inr (record {
            map = one;
            tilde = two;
            stale = subst (λ (o : Option (List (List ℕ))). IfSome o (λ backup. path ≢ with_tilde backup)) (sym some) (other-path (with_tilde backup) path same);
          })

      by : (here tilde : Bool) → same_path P path ≡ here → same_path (with_tilde P) path ≡ tilde → IsSomewhere path
      by true tilde one two = inl (sym (same-is P path one))
      by false true one two = inr (inl (sym (same-is (with_tilde P) path two)))
      by false false one two = inr (inr (copy (other-path P path one) (other-path (with_tilde P) path two) Stale refl))

  -- ---- what is there then

  abbrev Middle : Names
  Middle = without_name (with_tilde P) (if finishes then with_name P (Old (with_tilde P)) Old else Old)

  middle-tilde : Middle (with_tilde P) ≡ None
  middle-tilde = rw (path-same (with_tilde P)) refl

  new-tilde : New (with_tilde P) ≡ None
  new-tilde = is.has (with_tilde P) ∙ by Stale
    where
      by : (some : Option (List (List ℕ))) → without_stale some Middle (with_tilde P) ≡ None
      by None = middle-tilde
      by (Some backup) = at (same_path (with_tilde backup) (with_tilde P))
        where
          at : (same : Bool) → (if same then None else Middle (with_tilde P)) ≡ None
          at true = refl
          at false = middle-tilde

  new-stale : (backup : List (List ℕ)) → Stale ≡ Some backup → New (with_tilde backup) ≡ None
  new-stale backup some =
      is.has (with_tilde backup)
      ∙ (ap (λ (o : Option (List (List ℕ))). without_stale o Middle (with_tilde backup)) some
      ∙ (rw (path-same (with_tilde backup)) refl))

  pub new-beside : (path : List (List ℕ)) → IsBeside names forced path → New path ≡ Old path
  new-beside path beside = is.has path ∙ (copy Stale beside.stale ∙ middle)
    where
      middle : Middle path ≡ Old path
      middle = rw (same-not (with_tilde P) path (λ same. beside.tilde (sym same))) (by finishes)
        where
          by : (f : Bool) → (if f then with_name P (Old (with_tilde P)) Old else Old) path ≡ Old path
          by true = rw (same-not P path (λ same. beside.map (sym same))) refl
          by false = refl

      copy : (some : Option (List (List ℕ))) → IfSome some (λ backup. path ≢ with_tilde backup) → without_stale some Middle path ≡ Middle path
      copy None apart = refl
      copy (Some backup) apart = rw (same-not (with_tilde backup) path (λ same. apart (sym same))) refl

  module _ (files : AreOwnFiles Old names forced) where
    new-map : IsPlain (New P)
    new-map = subst IsPlain (sym (is.has P)) (by Stale)
      where
        moved : (f : Bool) → IsPlain ((if f then with_name P (Old (with_tilde P)) Old else Old) P)
        moved true = subst IsPlain (sym (name-here P (Old (with_tilde P)) Old)) (plain-file (Old (with_tilde P)) files.tilde.file)
        moved false = plain-file (Old P) files.map.file

        middle : (same : Bool) → IsPlain (if same then None else (if finishes then with_name P (Old (with_tilde P)) Old else Old) P)
        middle true = none-plain
        middle false = moved finishes

        by : (some : Option (List (List ℕ))) → IsPlain (without_stale some Middle P)
        by None = middle (same_path (with_tilde P) P)
        by (Some backup) = at (same_path (with_tilde backup) P)
          where
            at : (same : Bool) → IsPlain (if same then None else Middle P)
            at true = none-plain
            at false = middle (same_path (with_tilde P) P)

    pub stale-own : (backup : List (List ℕ)) → Stale ≡ Some backup → IsOwnFile Old (with_tilde backup)
    stale-own backup some = subst (λ (o : Option (List (List ℕ))). IfSome o (λ backup. IsOwnFile Old (with_tilde backup))) some files.stale

    -- directories and links are the same
    pub alike : AreAlike Old New
    alike = record { directories = λ path. directory path (somewhere path); links = λ path. link path (somewhere path) }
      where
        plain : (path : List (List ℕ)) → (path ≡ P) ⊎ ((path ≡ with_tilde P) ⊎ IsStale path) → IsPlain (Old path) × IsPlain (New path)
        plain path (inl same) = subst (λ (p : List (List ℕ)). IsPlain (Old p) × IsPlain (New p)) (sym same) (plain-file (Old P) files.map.file, new-map)
        plain path (inr (inl same)) =
            subst (λ (p : List (List ℕ)). IsPlain (Old p) × IsPlain (New p)) (sym same)
            (plain-file (Old (with_tilde P)) files.tilde.file, subst IsPlain (sym new-tilde) none-plain)
        plain path (inr (inr stale)) =
            subst (λ (p : List (List ℕ)). IsPlain (Old p) × IsPlain (New p)) (sym stale.2)
            (plain-file (Old (with_tilde stale.0)) (stale-own stale.0 stale.1).file, subst IsPlain (sym (new-stale stale.0 stale.1)) none-plain)

        as-directory : (path : List (List ℕ)) → IsPlain (Old path) × IsPlain (New path) → leads_to_directory (New path) ≡ leads_to_directory (Old path)
        as-directory path both = both.1.directory ∙ sym both.0.directory

        as-link : (path : List (List ℕ)) → IsPlain (Old path) × IsPlain (New path) → link_text (New path) ≡ link_text (Old path)
        as-link path both = both.1.link ∙ sym both.0.link

        directory : (path : List (List ℕ)) → IsSomewhere path → leads_to_directory (New path) ≡ leads_to_directory (Old path)
        directory path (inl same) = as-directory path (plain path (inl same))
        directory path (inr (inl same)) = as-directory path (plain path (inr (inl same)))
        directory path (inr (inr (inl stale))) = as-directory path (plain path (inr (inr stale)))
        directory path (inr (inr (inr beside))) = ap leads_to_directory (new-beside path beside)

        link : (path : List (List ℕ)) → IsSomewhere path → link_text (New path) ≡ link_text (Old path)
        link path (inl same) = as-link path (plain path (inl same))
        link path (inr (inl same)) = as-link path (plain path (inr (inl same)))
        link path (inr (inr (inl stale))) = as-link path (plain path (inr (inr stale)))
        link path (inr (inr (inr beside))) = ap link_text (new-beside path beside)

    -- ---- paths that are apart

    -- a walk over Names with these directories and links doesn't end at a name that a path is apart from
    pub no-end : (walked : Names) → AreAlike Old walked → (text : List ℕ) (name : List (List ℕ)) → IsOwnFile Old name → is_apart_path old volume text name ≡ true
        → path_of walked true text ≡ Ok name → ⊥
    no-end walked same text name own apart ends = by (Old name) refl
      where
        by : (what : Option Thing) → Old name ≡ what → ⊥
        by None none =
            let file : Names = with_name name (Some (File [])) Old in
            let with-file = alike-joined walked Old file (alike-back Old walked same) (alike-file name Old (plain-file (Old name) own.file)) in
            not-absent volume old text name apart
            (ap Old own.own ∙ none, path-too walked file with-file true text name ends (ap is_some (name-here name (Some (File [])) Old)))
        by (Some what) some =
            let found = ends-find volume old before text name (path-too walked Old (alike-back Old walked same) true text name ends (ap is_some some)) in
            not-there volume old text name apart found.0 (ap Was own.own ∙ found.2) found.1

    module _ (text : List ℕ) (from-map : is_apart_path old volume text P ≡ true) (from-tilde : is_apart_path old volume text (with_tilde P) ≡ true)
        (from-stale : IfSome Stale (λ backup. is_apart_path old volume text (with_tilde backup) ≡ true)) where
      -- so a path leads to the inode to which it led
      led : (number : ℕ) → find_in c volume text ≡ Ok number → find_in old volume text ≡ Ok number
      led number found =
          let end = find-ends volume c is.sound text number found in
          by end.0 end.1 end.2 (somewhere end.0)
        where
          by : (path : List (List ℕ)) → path_of New true text ≡ Ok path → Now path ≡ Some number → IsSomewhere path → find_in old volume text ≡ Ok number
          by path ends leads (inl same) = absurd (no-end New alike text P files.map from-map (ends ∙ ap Ok same))
          by path ends leads (inr (inl same)) = absurd (no-end New alike text (with_tilde P) files.tilde from-tilde (ends ∙ ap Ok same))
          by path ends leads (inr (inr (inl stale))) =
              let apart = subst (λ (o : Option (List (List ℕ))). IfSome o (λ backup. is_apart_path old volume text (with_tilde backup) ≡ true)) stale.1 from-stale in
              absurd (no-end New alike text (with_tilde stale.0) (stale-own stale.0 stale.1) apart (ends ∙ ap Ok stale.2))
          by path ends leads (inr (inr (inr beside))) =
              let some : is_some (Old path) ≡ true = subst (λ (o : Option Thing). is_some o ≡ true) (new-beside path beside) (leads-some volume c path number leads) in
              let was = ends-find volume old before text path (path-too New Old (alike-back Old New alike) true text path ends some) in
              let same : Some was.0 ≡ Some number = sym was.2 ∙ (sym (is.paths path beside).leads ∙ leads) in
              let one : was.0 ≡ number = cc in
              was.1 ∙ ap Ok one

      -- it is apart from `map`,
      pub map-apart : is_apart_path c volume text P ≡ true
      map-apart = is-apart volume c text P (λ number leads found. there finishes number is.file (ap Now (sym files.map.own) ∙ leads) (led number found)) absent
        where
          there : (f : Bool) (number : ℕ) → Now P ≡ Was (if f then with_tilde P else P) → Now P ≡ Some number → find_in old volume text ≡ Ok number → ⊥
          there true number from leads found = not-there volume old text (with_tilde P) from-tilde number (ap Was files.tilde.own ∙ (sym from ∙ leads)) found
          there false number from leads found = not-there volume old text P from-map number (ap Was files.map.own ∙ (sym from ∙ leads)) found

          absent : (New (plain_path P) ≡ None) × (path_of (with_name P (Some (File [])) New) true text ≡ Ok P) → ⊥
          absent both =
              let file : Names = with_name P (Some (File [])) New in
              no-end file (alike-joined Old New file alike (alike-file P New new-map)) text P files.map from-map both.1

      -- from a name that is away,
      pub gone-apart : (name : List (List ℕ)) → IsOwnFile Old name → New name ≡ None → is_apart_path old volume text name ≡ true → is_apart_path c volume text name ≡ true
      gone-apart name own gone apart =
          is-apart volume c text name (λ number leads found. leads-none volume c name number (ap Now (sym own.own) ∙ leads) gone) (λ both.
          let file : Names = with_name name (Some (File [])) New in
          let plain = alike-file name New (subst IsPlain (sym gone) none-plain) in
          no-end file (alike-joined Old New file alike plain) text name own apart both.1)

      -- and from one that didn't change
      pub beside-apart : (name : List (List ℕ)) → IsBeside names forced name → IsBeside names forced (plain_path name) → is_apart_path old volume text name ≡ true
          → is_apart_path c volume text name ≡ true
      beside-apart name beside there apart =
          is-apart volume c text name (λ number leads found. not-there volume old text name apart number (sym (is.paths (plain_path name) there).leads ∙ leads) (led number found)) (λ both.
          let now : Names = with_name name (Some (File [])) New in
          let was : Names = with_name name (Some (File [])) Old in
          let ends = path-too now was (alike-both name New Old (alike-back Old New alike)) true text name both.1 (ap is_some (name-here name (Some (File [])) Old)) in
          not-absent volume old text name apart (sym (new-beside (plain_path name) there) ∙ both.0, ends))

      pub tilde-apart : is_apart_path c volume text (with_tilde P) ≡ true
      tilde-apart = gone-apart (with_tilde P) files.tilde new-tilde from-tilde

      pub stale-apart : (backup : List (List ℕ)) → Stale ≡ Some backup → is_apart_path old volume text (with_tilde backup) ≡ true → is_apart_path c volume text (with_tilde backup) ≡ true
      stale-apart backup some apart = gone-apart (with_tilde backup) (stale-own backup some) (new-stale backup some) apart
