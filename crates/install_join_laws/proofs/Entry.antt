-- What is known of a configuration that is apart, and of the names that it replaces.
use Rattle.std.proofs.Common.{◌≡◌, ◌≢◌, ℕ, ◌&&◌, Bool, true, false, if◌then◌else◌, inl, inr, List, [], ◌∷◌, ◌++◌, is_some, Option, Some, None, Ok, refl, sym, ◌∙◌, ap, subst}
use Rattle.std.specs.Prelude.{◌⊎◌, IfSome, flat_map, option_to_list}
use Rattle.std.specs.List.{list_all}
use Rattle.std.proofs.lemmas.Bool.{and_parts}
use Rattle.std.proofs.lemmas.List.Folds.{list_all-append}
use Rattle.lilo_model.specs.Apart.{is_apart_path, names_pair, are_apart_paths, guarded_names, has_apart_backup}
use Rattle.lilo_model.specs.Conf.{Config}
use Rattle.lilo_model.specs.Devices.{Device}
use Rattle.lilo_model.specs.Disks.{Image}
use Rattle.lilo_model.specs.MinixFindNames.{Names, leads_to_directory}
use Rattle.lilo_model.specs.MinixNames.{names_in}
use Rattle.lilo_model.specs.MinixParts.{Volume}
use Rattle.lilo_model.specs.NamePlaces.{name_path, with_tilde, plain_path, backup_path}
use Rattle.lilo_model.specs.Settled.{OwnNames, own_names}
use Rattle.install_settle.specs.Settles.{stale_of, IsBeside}
use Rattle.install_settle.proofs.PathLemmas.{tilde-differs}
use Rattle.install_join_laws.proofs.Walks.{plain-file, value-is}
use Rattle.install_join_laws.proofs.Paths.{IsOwnFile, AreOwnFiles}
use Rattle.install_join_laws.proofs.Names.{IsPlaced, AreReplaced, IsBackup, ArePairsApart, IsOwnOrDirectory, is-placed, pair-of, are-replaced, backup-by, pairs-apart, own-or-directory, own-file, tilde-plain, tilde-file}

pub if-some : {X : Type 0} (P Q : X → Type 0) → ((x : X) → P x → Q x) → (found : Option X) → IfSome found P → IfSome found Q
if-some P Q next None is = tt
if-some P Q next (Some x) is = next x is

module _ (old : Image) (volume : Volume) (config : Config) (device : Device) (foreign : Bool) (names : OwnNames) (own : own_names (names_in volume old) config device foreign ≡ Ok names) where
  abbrev Old : Names
  Old = names_in volume old

  abbrev pub Forced : Bool
  Forced = is_some config.force_backup

  abbrev pub Stale : Option (List (List ℕ))
  Stale = stale_of Forced names

  replaced : AreReplaced Old config device foreign names own
  replaced = are-replaced Old config device foreign names own

  backup-found : (names.backup ≡ None) ⊎ IsBackup Old config device names.backup
  backup-found = backup-by Old config device foreign names.backup replaced.backup

  map-placed : IsPlaced Old names.map
  map-placed = is-placed Old config.map names.map replaced.map.place

  abbrev AreFiles : List (List ℕ) → Type 0
  AreFiles backup = IsOwnFile Old backup × IsOwnFile Old (with_tilde backup)

  -- what a forced backup replaces are files
  pub backup-files : IfSome Stale (λ backup. IsOwnFile Old backup × IsOwnFile Old (with_tilde backup))
  backup-files = by Forced refl backup-found
    where
      by : (forced : Bool) → Forced ≡ forced → (names.backup ≡ None) ⊎ IsBackup Old config device names.backup → IfSome (if forced then names.backup else None) AreFiles
      by false off backup = tt
      by true on (inl none) = subst (λ (o : Option (List (List ℕ))). IfSome o AreFiles) (sym none) tt
      by true on (inr backup) =
          subst (λ (o : Option (List (List ℕ))). IfSome o AreFiles) (sym backup.is) (
            own-file volume old Forced (backup_path config device) backup.path backup.replaced,
            tilde-file volume old (backup_path config device) Forced backup.path on backup.replaced,
          )

  pub files : AreOwnFiles Old names Forced
  files = record {
    map = own-file volume old true config.map names.map replaced.map;
    tilde = tilde-file volume old config.map true names.map refl replaced.map;
    stale = if-some AreFiles (λ backup. IsOwnFile Old (with_tilde backup)) (λ backup both. both.1) Stale backup-files;
  }

  pub map-pair : names_pair Old config.map ≡ names.map ∷ (with_tilde names.map ∷ [])
  map-pair = pair-of Old config.map (Ok names.map) replaced.map.place

  abbrev pub Forced-pairs : List (List (List ℕ))
  Forced-pairs = flat_map (names_pair Old) (option_to_list config.force_backup)

  forced-path : (text : List ℕ) → config.force_backup ≡ Some text → backup_path config device ≡ text
  unfolding backup_path
  forced-path text forced = rw forced refl

  -- ---- a forced backup

  module _ (apart : has_apart_backup Old config device ≡ true) (text : List ℕ) (forced : config.force_backup ≡ Some text) (path : List (List ℕ)) (at : name_path Old text ≡ Ok path) where
    placed : IsPlaced Old path
    placed = is-placed Old text path at

    apart-pairs : ArePairsApart names.map path
    apart-pairs =
        let pair = pair-of Old (backup_path config device) (Ok path) (ap (name_path Old) (forced-path text forced) ∙ at) in
        let none : are_apart_paths (names.map ∷ (with_tilde names.map ∷ [])) (path ∷ (with_tilde path ∷ [])) ≡ true =
        ap (λ (one : List (List (List ℕ))). are_apart_paths one (path ∷ (with_tilde path ∷ []))) (sym map-pair)
        ∙ (ap (are_apart_paths (names_pair Old config.map)) (sym pair) ∙ apart) in
        pairs-apart names.map path none

    -- it is the one of which a stale copy goes, or none does
    pub stale-is : (Stale ≡ None) ⊎ (Stale ≡ Some path)
    stale-is = by backup-found
      where
        here : Stale ≡ names.backup
        here = rw forced refl

        by : (names.backup ≡ None) ⊎ IsBackup Old config device names.backup → (Stale ≡ None) ⊎ (Stale ≡ Some path)
        by (inl none) = inl (here ∙ none)
        by (inr backup) =
            let same = value-is backup.path path (sym backup.replaced.place ∙ (ap (name_path Old) (forced-path text forced) ∙ at)) in
            inr (here ∙ (backup.is ∙ ap Some same))

    stale-by : (other : List (List ℕ)) → (Stale ≡ None) ⊎ ((Stale ≡ Some path) × (other ≢ with_tilde path)) → IfSome Stale (λ backup. other ≢ with_tilde backup)
    stale-by other (inl none) = subst (λ (o : Option (List (List ℕ))). IfSome o (λ backup. other ≢ with_tilde backup)) (sym none) tt
    stale-by other (inr some) = subst (λ (o : Option (List (List ℕ))). IfSome o (λ backup. other ≢ with_tilde backup)) (sym some.0) some.1

    -- it doesn't change, nor does what is there; its copy doesn't where none goes
    pub plain-beside : IsBeside names Forced path
    plain-beside = record { map = apart-pairs.plain; tilde = apart-pairs.tilde; stale = stale-by path (by stale-is) }
      where
        by : (Stale ≡ None) ⊎ (Stale ≡ Some path) → (Stale ≡ None) ⊎ ((Stale ≡ Some path) × (path ≢ with_tilde path))
        by (inl none) = inl none
        by (inr some) = inr (some, tilde-differs path placed.name placed.above placed.is)

    pub tilde-beside : Stale ≡ None → IsBeside names Forced (with_tilde path)
    tilde-beside none = record { map = apart-pairs.copy; tilde = apart-pairs.copy_tilde; stale = stale-by (with_tilde path) (inl none) }

    pub tilde-own : plain_path (with_tilde path) ≡ with_tilde path
    tilde-own = tilde-plain volume old path placed

    not-plain : (one other : List (List ℕ)) → leads_to_directory (Old one) ≡ true → IsOwnFile Old other → one ≢ other
    not-plain one other directory file same =
        let on : leads_to_directory (Old other) ≡ true = subst (λ (p : List (List ℕ)). leads_to_directory (Old p) ≡ true) same directory in
        let off = (plain-file (Old other) file.file).directory in
        cc

    pub there-beside : IsBeside names Forced (plain_path path)
    there-beside = by (own-or-directory volume old path placed)
      where
        by : IsOwnOrDirectory volume old path → IsBeside names Forced (plain_path path)
        by (inl same) = subst (IsBeside names Forced) (sym same) plain-beside
        by (inr directory) = record {
          map = not-plain (plain_path path) names.map directory files.map;
          tilde = not-plain (plain_path path) (with_tilde names.map) directory files.tilde;
          stale = if-some (λ backup. IsOwnFile Old (with_tilde backup)) (λ backup. plain_path path ≢ with_tilde backup) (λ backup file. not-plain (plain_path path) (with_tilde backup) directory file) Stale files.stale;
        }

  -- ---- a path that leads to none of them

  module _ (text : List ℕ) where
    abbrev Was : List (List ℕ) → Bool
    Was name = is_apart_path old volume text name

    abbrev AreApart : List (List ℕ) → Type 0
    AreApart path = (Was path ≡ true) × (Was (with_tilde path) ≡ true)

    two-pass : (path : List (List ℕ)) → list_all Was (path ∷ (with_tilde path ∷ [])) ≡ true → AreApart path
    two-pass path all =
        let one = and_parts (Was path) (Was (with_tilde path) && true) all in
        (one.0, (and_parts (Was (with_tilde path)) true one.1).0)

    pub forced-two : (forced : List ℕ) (path : List (List ℕ)) → name_path Old forced ≡ Ok path → list_all Was (names_pair Old forced ++ []) ≡ true → AreApart path
    forced-two forced path at all = two-pass path (subst (λ (pair : List (List (List ℕ))). list_all Was (pair ++ []) ≡ true) (pair-of Old forced (Ok path) at) all)

    -- each of them, by parts
    pub record IsApartFromAll : Type 0 where
      pub map : is_apart_path old volume text names.map ≡ true
      pub tilde : is_apart_path old volume text (with_tilde names.map) ≡ true
      pub forced : list_all (is_apart_path old volume text) Forced-pairs ≡ true
      pub backup : IfSome Stale (λ backup. (is_apart_path old volume text backup ≡ true) × (is_apart_path old volume text (with_tilde backup) ≡ true))

    from-backup : list_all Was Forced-pairs ≡ true → IfSome Stale AreApart
    from-backup all = by config.force_backup refl all backup-found
      where
        by : (forced : Option (List ℕ)) → config.force_backup ≡ forced → list_all Was (flat_map (names_pair Old) (option_to_list forced)) ≡ true
            → (names.backup ≡ None) ⊎ IsBackup Old config device names.backup → IfSome (stale_of (is_some forced) names) AreApart
        by None same all backup = tt
        by (Some forced) same all (inl none) = subst (λ (some : Option (List (List ℕ))). IfSome some AreApart) (sym none) tt
        by (Some forced) same all (inr backup) =
            let place : name_path Old forced ≡ Ok backup.path = ap (name_path Old) (sym (forced-path forced same)) ∙ backup.replaced.place in
            subst (λ (some : Option (List (List ℕ))). IfSome some AreApart) (sym backup.is) (forced-two forced backup.path place all)

    pub apart-from-all : list_all (is_apart_path old volume text) (guarded_names Old config) ≡ true → IsApartFromAll
    apart-from-all all =
        let both = and_parts (list_all Was (names_pair Old config.map)) (list_all Was Forced-pairs) (sym (list_all-append Was (names_pair Old config.map) Forced-pairs) ∙ all) in
        let two = two-pass names.map (subst (λ (pair : List (List (List ℕ))). list_all Was pair ≡ true) map-pair both.0) in
        record { map = two.0; tilde = two.1; forced = both.1; backup = from-backup both.1 }
