-- Files that are mapped are at no name that an installation replaces.
use Rattle.std.proofs.Common.{◌≡◌, ◌≢◌, ℕ, Bool, true, false, if◌then◌else◌, List, [], ◌∷◌, is_some, Option, Some, None, Result, Ok, Err, refl, sym, ◌∙◌, ap}
use Rattle.std.specs.Prelude.{IfSome, flat_map, option_to_list, option_and_then}
use Rattle.std.specs.List.{AllByRecursion, list_all}
use Rattle.std.specs.Result.{result_ok}
use Rattle.std.proofs.lemmas.Bool.{and_parts}
use Rattle.std.proofs.lemmas.List.Folds.{list_all-append}
use Rattle.lilo_model.specs.Apart.{is_apart_path, guarded_names, kernel_path}
use Rattle.lilo_model.specs.Conf.{Config, ConfSection}
use Rattle.lilo_model.specs.Devices.{Device}
use Rattle.lilo_model.specs.Disks.{Image}
use Rattle.lilo_model.specs.MinixFind.{TreeFault, find_in}
use Rattle.lilo_model.specs.MinixFindNames.{Names}
use Rattle.lilo_model.specs.MinixNames.{names_in, reached}
use Rattle.lilo_model.specs.MinixParts.{Volume, parts_of, is_file}
use Rattle.lilo_model.specs.NamePlaces.{with_tilde}
use Rattle.lilo_model.specs.Planned.{file_inode}
use Rattle.lilo_model.specs.Settled.{OwnNames, own_names}
use Rattle.install_settle.specs.Settles.{stale_of}
use Rattle.install_stage_laws.specs.Mapped.{OnFile, OnKernel, OnSection}
use Rattle.install_join_laws.specs.Mapped.{IsNotReplaced, MappedApartLaw}
use Rattle.install_join_laws.proofs.Leads.{not-there}
use Rattle.install_join_laws.proofs.Paths.{IsOwnFile}
use Rattle.install_join_laws.proofs.Tests.{tests-pass}
use Rattle.install_join_laws.proofs.Entry.{files, backup-files, IsApartFromAll, apart-from-all}

module _ (image : Image) (volume : Volume) (config : Config) (device : Device) (foreign : Bool) (names : OwnNames) (own : own_names (names_in volume image) config device foreign ≡ Ok names) where
  abbrev At : Names
  At = names_in volume image

  abbrev Leads : List (List ℕ) → Option ℕ
  Leads path = reached volume.layout (parts_of volume image) path

  abbrev Stale : Option (List (List ℕ))
  Stale = stale_of (is_some config.force_backup) names

  abbrev Apart : List ℕ → List (List ℕ) → Type 0
  Apart text name = is_apart_path image volume text name ≡ true

  -- a path that leads to an inode is apart from no name where that is
  not-at : (text : List ℕ) (name : List (List ℕ)) (number : ℕ) → IsOwnFile At name → Apart text name → find_in image volume text ≡ Ok number → Leads name ≢ Some number
  not-at text name number file apart found leads = not-there volume image text name apart number (ap Leads file.own ∙ leads) found

  both-some : (P Q R : List (List ℕ) → Type 0) → ((x : List (List ℕ)) → P x → Q x → R x) → (found : Option (List (List ℕ))) → IfSome found P → IfSome found Q → IfSome found R
  both-some P Q R next None one two = tt
  both-some P Q R next (Some x) one two = next x one two

  not-replaced : (text : List ℕ) → IsApartFromAll image volume config device foreign names own text → (number : ℕ) → find_in image volume text ≡ Ok number
      → IsNotReplaced image volume names (is_some config.force_backup) number
  not-replaced text apart number found =
      let file = files image volume config device foreign names own in
      let backups = backup-files image volume config device foreign names own in
      record {
        map = not-at text names.map number file.map apart.map found;
        tilde = not-at text (with_tilde names.map) number file.tilde apart.tilde found;
        backup =
            both-some (λ backup. IsOwnFile At backup × IsOwnFile At (with_tilde backup)) (λ backup. Apart text backup × Apart text (with_tilde backup)) (λ backup. Leads backup ≢ Some number)
            (λ backup one two. not-at text backup number one.0 two.0 found) Stale backups apart.backup;
        copy =
            both-some (λ backup. IsOwnFile At backup × IsOwnFile At (with_tilde backup)) (λ backup. Apart text backup × Apart text (with_tilde backup)) (λ backup. Leads (with_tilde backup) ≢ Some number)
            (λ backup one two. not-at text (with_tilde backup) number one.1 two.1 found) Stale backups apart.backup;
      }

  -- ---- files

  abbrev IsNone : ℕ → Type 0
  IsNone = IsNotReplaced image volume names (is_some config.force_backup)

  abbrev passes : List ℕ → Bool
  passes text = list_all (is_apart_path image volume text) (guarded_names At config)

  found-by : (found : Result ℕ TreeFault) (number : ℕ) → option_and_then (λ number. if is_file ((parts_of volume image).node number) then Some number else None) (result_ok found) ≡ Some number → found ≡ Ok number
  found-by (Err fault) number is = cc
  found-by (Ok other) number is = ap Ok (by (is_file ((parts_of volume image).node other)) is)
    where
      by : (file : Bool) → (if file then Some other else None) ≡ Some number → other ≡ number
      by true same = cc
      by false same = cc

  file-none : (text : List ℕ) → passes text ≡ true → OnFile image volume text IsNone
  unfolding file_inode
  file-none text is = by (file_inode volume (parts_of volume image) text) refl
    where
      by : (found : Option ℕ) → file_inode volume (parts_of volume image) text ≡ found → IfSome found IsNone
      by None none = tt
      by (Some number) some = not-replaced text (apart-from-all image volume config device foreign names own text is) number (found-by (find_in image volume text) number some)

  path-none : (path : Option (List ℕ)) → list_all passes (option_to_list path) ≡ true → IfSome path (λ text. OnFile image volume text IsNone)
  path-none None is = tt
  path-none (Some text) is = file-none text (and_parts (passes text) true is).0

  kernel-none : (section : ConfSection) (other : Option Device) → list_all passes (kernel_path section other) ≡ true → OnKernel image volume section.path other IsNone
  kernel-none section None is = file-none section.path (and_parts (passes section.path) true is).0
  kernel-none section (Some device) is = tt

  sections-none : (sections : List ConfSection) → list_all passes (flat_map (λ section. kernel_path section section.other) sections) ≡ true
      → list_all passes (flat_map (λ section. option_to_list section.initrd) sections) ≡ true → AllByRecursion (OnSection image volume IsNone) sections
  sections-none [] kernels initrds = tt
  sections-none (section ∷ sections) kernels initrds =
      let kernel = kernel_path section section.other in
      let kernels-on = flat_map (λ section. kernel_path section section.other) sections in
      let initrd = option_to_list section.initrd in
      let initrds-on = flat_map (λ section. option_to_list section.initrd) sections in
      let one = and_parts (list_all passes kernel) (list_all passes kernels-on) (sym (list_all-append passes kernel kernels-on) ∙ kernels) in
      let two = and_parts (list_all passes initrd) (list_all passes initrds-on) (sym (list_all-append passes initrd initrds-on) ∙ initrds) in
      (record { kernel = kernel-none section section.other one.0; initrd = path-none section.initrd two.0 }, sections-none sections one.1 two.1)

pub mapped_apart_law : MappedApartLaw
mapped_apart_law image machine volume config device foreign names apart own =
    let tests = tests-pass image machine volume config device apart in
    record {
      message = path-none image volume config device foreign names own config.message tests.message;
      sections = sections-none image volume config device foreign names own config.sections tests.kernels tests.initrds;
    }
