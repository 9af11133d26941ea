-- The names that an installation replaces: where they are, and what is there.
use Rattle.std.proofs.Common.{◌≡◌, ◌≢◌, ℕ, ◌&&◌, ◌||◌, Bool, true, false, not, if◌then◌else◌, inl, inr, List, [], ◌∷◌, ◌++◌, codes, bytes_eq, is_some, Option, Some, None, Result, Ok, refl, sym, ◌∙◌, ap, subst}
use Rattle.std.specs.Prelude.{◌⊎◌, length}
use Rattle.std.specs.List.{list_any}
use Rattle.std.proofs.lemmas.Bool.{and_parts}
use Rattle.lilo_model.specs.Apart.{names_pair, name_pair, are_apart_paths}
use Rattle.lilo_model.specs.Checks.{◌>>=◌, require, with_fault}
use Rattle.lilo_model.specs.Conf.{Config}
use Rattle.lilo_model.specs.Devices.{Device}
use Rattle.lilo_model.specs.Disks.{Image}
use Rattle.lilo_model.specs.MinixEntries.{here_name, above_name}
use Rattle.lilo_model.specs.MinixFind.{TreeFault, NotDirectory, components}
use Rattle.lilo_model.specs.MinixFindNames.{Names, leads_to_directory, path_above, path_of}
use Rattle.lilo_model.specs.MinixNames.{thing, names, names_in, reached}
use Rattle.lilo_model.specs.MinixParts.{Volume, parts_of, is_directory}
use Rattle.lilo_model.specs.NamePlaces.{NameSplit, split_at_last, placed_name, name_path, with_tilde, plain_path, same_path, backup_path}
use Rattle.lilo_model.specs.Settled.{OwnNames, refused_path, file_or_nothing, replaceable_name, backup_name, own_names}
use Rattle.map_laws.proofs.Accepted.{both-pass, required, told-ok}
use Rattle.minix_laws.proofs.FindNames.{thing-directory, names-reached}
use Rattle.minix_names.proofs.PathLemmas.{path-same}
use Rattle.install_settle.proofs.LeadLemmas.{plain-tilde, above-directory}
use Rattle.install_join_laws.proofs.Walks.{plain-file, value-is}
use Rattle.install_join_laws.proofs.Paths.{IsOwnFile}

-- ---- the names that are replaced

-- a path's name may be replaced, and that with `~` too, where that is asked for
pub record IsReplaced (at : Names) (both : Bool) (text : List ℕ) (path : List (List ℕ)) : Type 0 where
  pub place : name_path at text ≡ Ok path
  pub file : file_or_nothing (at (plain_path path)) ≡ Ok tt
  pub tilde : both ≡ true → file_or_nothing (at (plain_path (with_tilde path))) ≡ Ok tt

module _ (at : Names) where
  if-asked : (both : Bool) (check : Result (Unit {0}) TreeFault) → (if both then check else Ok tt) ≡ Ok tt → both ≡ true → check ≡ Ok tt
  if-asked true check is on = is
  if-asked false check is on = cc

  is-replaced : (both : Bool) (text : List ℕ) (path : List (List ℕ)) → replaceable_name at both text ≡ Ok path → IsReplaced at both text path
  unfolding replaceable_name
  is-replaced both text path is =
      let one = both-pass (name_path at text) (λ path. file_or_nothing (at (plain_path path)) >>= λ a. (if both then file_or_nothing (at (plain_path (with_tilde path))) else Ok tt) >>= λ b. Ok path) path is in
      let two = both-pass (file_or_nothing (at (plain_path one.0))) (λ a. (if both then file_or_nothing (at (plain_path (with_tilde one.0))) else Ok tt) >>= λ b. Ok one.0) path one.2 in
      let three = both-pass (if both then file_or_nothing (at (plain_path (with_tilde one.0))) else Ok tt) (λ b. Ok one.0) path two.2 in
      let same : one.0 ≡ path = value-is one.0 path three.2 in
      record {
        place = one.1 ∙ three.2;
        file = subst (λ (p : List (List ℕ)). file_or_nothing (at (plain_path p)) ≡ Ok tt) same two.1;
        tilde = λ on. subst (λ (p : List (List ℕ)). file_or_nothing (at (plain_path (with_tilde p))) ≡ Ok tt) same (if-asked both (file_or_nothing (at (plain_path (with_tilde one.0)))) three.1 on);
      }

  -- where a name is: in a directory
  pub record IsPlaced (path : List (List ℕ)) : Type 0 where
    pub name : List ℕ
    pub above : List (List ℕ)
    pub is : path ≡ name ∷ above
    pub directory : leads_to_directory (at above) ≡ true

  placed-by : (split : Option NameSplit) (path : List (List ℕ)) → placed_name at split ≡ Ok path → IsPlaced path
  placed-by None path is = cc
  placed-by (Some split) path is =
      let fault = NotDirectory (length (components split.before)) in
      let first = both-pass (path_of at true split.before) (λ directory. require (leads_to_directory (at directory)) fault >>= λ there. Ok (split.name ∷ directory)) path is in
      let second = both-pass (require (leads_to_directory (at first.0)) fault) (λ there. Ok (split.name ∷ first.0)) path first.2 in
      record {
        name = split.name;
        above = first.0;
        is = sym (value-is (split.name ∷ first.0) path second.2);
        directory = required (leads_to_directory (at first.0)) fault second.1;
      }

  pub is-placed : (text : List ℕ) (path : List (List ℕ)) → name_path at text ≡ Ok path → IsPlaced path
  unfolding name_path
  is-placed text path is = placed-by (split_at_last text (components text)) path is

  -- its pair of names
  pub pair-of : (text : List ℕ) (place : Result (List (List ℕ)) TreeFault) → name_path at text ≡ place → names_pair at text ≡ name_pair place
  unfolding names_pair
  pair-of text place is = ap name_pair is

  module _ (config : Config) (device : Device) (foreign : Bool) (names : OwnNames) (own : own_names at config device foreign ≡ Ok names) where
    pub record AreReplaced : Type 0 where
      pub map : IsReplaced at true config.map names.map
      pub backup : backup_name at config device foreign ≡ Ok names.backup

    pub are-replaced : AreReplaced
    unfolding own_names
    are-replaced =
        let one = both-pass (with_fault (refused_path config.map) (replaceable_name at true config.map)) (λ map. backup_name at config device foreign >>= λ backup. Ok (record { map = map; backup = backup })) names own in
        let two = both-pass (backup_name at config device foreign) (λ backup. Ok (record { map = one.0; backup = backup })) names one.2 in
        let named = told-ok (refused_path config.map) (replaceable_name at true config.map) one.0 one.1 in
        let all = value-is (record { map = one.0; backup = two.0 }) names two.2 in
        record {
          map = subst (λ (o : OwnNames). IsReplaced at true config.map o.map) all (is-replaced true config.map one.0 named);
          backup = subst (λ (o : OwnNames). backup_name at config device foreign ≡ Ok o.backup) all two.1;
        }

  -- the backup's name, where the boot sector is of another system
  pub record IsBackup (config : Config) (device : Device) (backup : Option (List (List ℕ))) : Type 0 where
    pub path : List (List ℕ)
    pub is : backup ≡ Some path
    pub replaced : IsReplaced at (is_some config.force_backup) (backup_path config device) path

  pub backup-by : (config : Config) (device : Device) (foreign : Bool) (backup : Option (List (List ℕ))) → backup_name at config device foreign ≡ Ok backup
      → (backup ≡ None) ⊎ IsBackup config device backup
  backup-by config device false backup is = inl (sym (value-is None backup is))
  backup-by config device true backup is =
      let found = both-pass (with_fault (refused_path (backup_path config device)) (replaceable_name at (is_some config.force_backup) (backup_path config device))) (λ path. Ok (Some path)) backup is in
      let named = told-ok (refused_path (backup_path config device)) (replaceable_name at (is_some config.force_backup) (backup_path config device)) found.0 found.1 in
      inr (record { path = found.0; is = sym (value-is (Some found.0) backup found.2); replaced = is-replaced (is_some config.force_backup) (backup_path config device) found.0 named })

-- ---- which of them are the same

same-not-none : (path other : List (List ℕ)) (rest : Bool) → not (same_path path other || rest) ≡ true → other ≢ path
same-not-none path other rest is same =
    let at : not (same_path path path || rest) ≡ true = subst (λ (p : List (List ℕ)). not (same_path path p || rest) ≡ true) same is in
    let off : false ≡ true = rw (path-same path) at at in
    cc

second-not : (first second rest : Bool) → not (first || (second || rest)) ≡ true → not (second || rest) ≡ true
second-not true second rest is = cc
second-not false second rest is = is

-- none of a pair of names is one of another
pub record ArePairsApart (map backup : List (List ℕ)) : Type 0 where
  pub plain : backup ≢ map
  pub tilde : backup ≢ with_tilde map
  pub copy : with_tilde backup ≢ map
  pub copy_tilde : with_tilde backup ≢ with_tilde map

pub pairs-apart : (map backup : List (List ℕ)) → are_apart_paths (map ∷ (with_tilde map ∷ [])) (backup ∷ (with_tilde backup ∷ [])) ≡ true → ArePairsApart map backup
pairs-apart map backup is =
    let test : List (List ℕ) → Bool = λ path. not (list_any (same_path path) (backup ∷ (with_tilde backup ∷ []))) in
    let one = and_parts (test map) (test (with_tilde map) && true) is in
    let two = and_parts (test (with_tilde map)) true one.1 in
    record {
      plain = same-not-none map backup (same_path map (with_tilde backup) || false) one.0;
      tilde = same-not-none (with_tilde map) backup (same_path (with_tilde map) (with_tilde backup) || false) two.0;
      copy = same-not-none map (with_tilde backup) false (second-not (same_path map backup) (same_path map (with_tilde backup)) false one.0);
      copy_tilde = same-not-none (with_tilde map) (with_tilde backup) false (second-not (same_path (with_tilde map) backup) (same_path (with_tilde map) (with_tilde backup)) false two.0);
    }

-- ---- directories

module _ (volume : Volume) (image : Image) where
  abbrev At : Names
  At = names_in volume image

  directory-there : (path : List (List ℕ)) → leads_to_directory (At path) ≡ true
      → (number : ℕ) × (reached volume.layout (parts_of volume image) path ≡ Some number) × (is_directory ((parts_of volume image).node number) ≡ true)
  unfolding names_in names
  directory-there path is = by (reached volume.layout (parts_of volume image) path) refl
    where
      by : (found : Option ℕ) → reached volume.layout (parts_of volume image) path ≡ found
          → (number : ℕ) × (reached volume.layout (parts_of volume image) path ≡ Some number) × (is_directory ((parts_of volume image).node number) ≡ true)
      by None none = let off : false ≡ true = rw none at is in cc
      by (Some number) some =
          let on : leads_to_directory (Some (thing volume.layout (parts_of volume image) number)) ≡ true = rw some at is in
          (number, some, sym (thing-directory volume.layout (parts_of volume image) number) ∙ on)

  directory-at : (path : List (List ℕ)) (number : ℕ) → reached volume.layout (parts_of volume image) path ≡ Some number → is_directory ((parts_of volume image).node number) ≡ true
      → leads_to_directory (At path) ≡ true
  unfolding names_in
  directory-at path number leads is =
      ap leads_to_directory (names-reached volume.layout (parts_of volume image) path number leads) ∙ (thing-directory volume.layout (parts_of volume image) number ∙ is)

  directory-above : (path : List (List ℕ)) → leads_to_directory (At path) ≡ true → leads_to_directory (At (path_above path)) ≡ true
  directory-above path is =
      let there = directory-there path is in
      let outer = above-directory volume.layout (parts_of volume image) path there.0 there.1 there.2 in
      directory-at (path_above path) outer.0 outer.1 outer.2

  -- a name in a directory is its own, or that of a directory
  abbrev pub IsOwnOrDirectory : List (List ℕ) → Type 0
  IsOwnOrDirectory path = (plain_path path ≡ path) ⊎ (leads_to_directory (At (plain_path path)) ≡ true)

  own-by : (name : List ℕ) (above : List (List ℕ)) (here up : Bool) → bytes_eq here_name name ≡ here → bytes_eq above_name name ≡ up → leads_to_directory (At above) ≡ true → IsOwnOrDirectory (name ∷ above)
  own-by name above true up h a directory = inr (rw h directory)
  own-by name above false true h a directory = inr (rw (h, a) (directory-above above directory))
  own-by name above false false h a directory = inl (rw (h, a) refl)

  pub own-or-directory : (path : List (List ℕ)) → IsPlaced At path → IsOwnOrDirectory path
  own-or-directory path placed = subst IsOwnOrDirectory (sym placed.is) (own-by placed.name placed.above (bytes_eq here_name placed.name) (bytes_eq above_name placed.name) refl refl placed.directory)

  pub own-file : (both : Bool) (text : List ℕ) (path : List (List ℕ)) → IsReplaced At both text path → IsOwnFile At path
  own-file both text path replaced = by (own-or-directory path (is-placed At text path replaced.place))
    where
      by : IsOwnOrDirectory path → IsOwnFile At path
      by (inl own) = record { own = own; file = subst (λ (p : List (List ℕ)). file_or_nothing (At p) ≡ Ok tt) own replaced.file }
      by (inr directory) = let off = (plain-file (At (plain_path path)) replaced.file).directory in cc

  pub tilde-plain : (path : List (List ℕ)) → IsPlaced At path → plain_path (with_tilde path) ≡ with_tilde path
  tilde-plain path placed = (plain-tilde path (placed.name ++ codes "~") placed.above (ap with_tilde placed.is)).0

  pub tilde-file : (text : List ℕ) (both : Bool) (path : List (List ℕ)) → both ≡ true → IsReplaced At both text path → IsOwnFile At (with_tilde path)
  tilde-file text both path on replaced =
      let own = tilde-plain path (is-placed At text path replaced.place) in
      record { own = own; file = subst (λ (p : List (List ℕ)). file_or_nothing (At p) ≡ Ok tt) own (replaced.tilde on) }
