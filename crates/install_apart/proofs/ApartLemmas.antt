-- What is checked part by part is what the model checks.
use Rattle.std.proofs.Common.{◌≡◌, ℕ, Bool, true, false, not, ◌&&◌, ◌||◌, ◌==◌, List, [], ◌∷◌, ◌++◌, map, bytes_eq, Option, Some, None, Result, Ok, Err, refl, sym, ◌∙◌, ap, subst, arith}
use Rattle.std.specs.Prelude.{IfErr, flat_map, option_to_list, is_some, unwrap_or}
use Rattle.std.proofs.lemmas.List.{append-nil}
use Rattle.std.specs.List.{list_all, list_any}
use Rattle.std.proofs.lemmas.List.Concat.{flat_map-cons}
use Rattle.std.proofs.lemmas.List.Folds.{list_all-append}
use Rattle.disk_trait.specs.declared.disks.Disks.{Ghosts}
use Rattle.disk_trait.specs.Past.{Past, Told, now_of}
use Rattle.lilo_model.specs.Apart.{is_apart_span, is_apart_device, is_apart_path, other_devices, table_devices, kernel_paths, kernel_path, initrd_paths, names_pair, name_pair, are_apart_paths, guarded_names, has_apart_backup, has_apart_files, apart_checks}
use Rattle.lilo_model.specs.Checks.{◌>>=◌, require}
use Rattle.lilo_model.specs.Conf as conf
use Rattle.lilo_model.specs.Conf.{ConfSection}
use Rattle.lilo_model.specs.ConfOptions as options
use Rattle.lilo_model.specs.ConfOptions.{Opt}
use Rattle.lilo_model.specs.Devices.{Device}
use Rattle.lilo_model.specs.Disks.{Image, Machine, Span}
use Rattle.lilo_model.specs.Faults.{Rose}
use Rattle.lilo_model.specs.MinixFind as find
use Rattle.lilo_model.specs.MinixLayout.{Super}
use Rattle.lilo_model.specs.MinixParts as model
use Rattle.lilo_model.specs.MinixParts.{Parts, parts_of, is_directory}
use Rattle.lilo_model.specs.MinixNames.{reached, names_in, Sound, IsSound}
use Rattle.lilo_model.specs.NamePlaces.{name_path, with_tilde, same_path, default_backup, backup_path, backup_option}
use Rattle.lilo_model.specs.Partitions as partitions
use Rattle.lilo_model.specs.Partitions.{span_of}
use Rattle.lilo_model.specs.PlanRefusal.{each_passes, if_there}
use Rattle.conf_settings.specs.declared.option.Opt as settings
use Rattle.conf_settings.specs.View.{opt_view}
use Rattle.mbr_table.specs.declared.table_fault.TableFault.{TableFault}
use Rattle.mbr_table.specs.declared.table_fault.TableFault.TheVariants as tables
use Rattle.mbr_table.specs.Gives as places
use Rattle.minix_zones.specs.declared.volume.Volume.{Volume}
use Rattle.minix_zones.specs.declared.zone_fault.ZoneFault.TheVariants as zones
use Rattle.minix_zones.specs.Volume.{volume_view, past_of, SameVolume}
use Rattle.minix_zones.proofs.SameLemmas.{told_back}
use Rattle.minix_tree.specs.declared.tree_fault.TreeFault.{TreeFault}
use Rattle.minix_tree.specs.declared.tree_fault.TreeFault.TheVariants as trees
use Rattle.minix_tree.specs.View.{Refuses, HasTreeCause, HasFileCause}
use Rattle.minix_names.specs.Ends.{PathEnd, path_end}
use Rattle.minix_names.specs.Laws.{ends_at_name}
use Rattle.minix_names.specs.Places.{number_found}
use Rattle.minix_names.proofs.ApartLaws.{apart_law}
use Rattle.minix_names.proofs.PathLemmas.{path-same, same-is}
use Rattle.install_apart.specs.Apart.{machine_by, GivesApart, HasApartCause, judged, unless_stopped, unless_failed, device_check, device_checks}
use Rattle.install_apart.specs.Guarded.{OnGuarded, ArePair, AreFound, GivesFound, AreBoth, AreGuarded, are_apart_owns, are_apart_pairs, are_apart_found, guarded_of, any_found, any_guarded, is_end_at_own, ends_at_guarded, path_check, path_unless, part_path, part_check, file_checks}
use Rattle.install_apart.specs.Names.{IsOwnName, GivesPairAt}
use Rattle.install_apart.specs.declared.apart_device.DevicePart.TheVariants as devices
use Rattle.install_apart.specs.declared.apart_name.BothNames.{BothNames}
use Rattle.install_apart.specs.declared.apart_name.Guarded.{Guarded}
use Rattle.install_apart.specs.declared.apart_path.FilePart.{FilePart}
use Rattle.install_apart.specs.declared.apart_path.FilePart.TheVariants as files
use Rattle.install_apart.specs.declared.fault.ApartFault.{ApartFault}
use Rattle.install_apart.specs.declared.fault.ApartFault.TheVariants as faults
use Rattle.install_apart.specs.declared.name.NamePair.{NamePair}
use Rattle.install_apart.specs.declared.name.OwnName.{OwnName}

-- ---- answers

pub judged-gives : (apart : Bool) (opt : settings.Opt) → GivesApart (judged apart opt) (require apart (opt_view opt))
judged-gives true opt = refl
judged-gives false opt = refl

pub judged-cause : (apart : Bool) (opt : settings.Opt) (before after : ℕ) → IfErr (judged apart opt) (HasApartCause before after)
judged-cause true opt before after = tt
judged-cause false opt before after = tt

pub stopped-cause : (fault : TreeFault) (before after : ℕ) → HasTreeCause before after fault → IfErr (unless_stopped fault) (HasApartCause before after)
stopped-cause (trees.NotFound position) before after cause = tt
stopped-cause (trees.NotDirectory position) before after cause = tt
stopped-cause trees.NotFile before after cause = tt
stopped-cause trees.TooManyLinks before after cause = tt
stopped-cause (trees.BadEntry directory) before after cause = tt
stopped-cause trees.PathTooLong before after cause = tt
stopped-cause (trees.Zone (zones.Layout fault)) before after cause = tt
stopped-cause (trees.Zone (zones.ZoneOutside zone)) before after cause = tt
stopped-cause (trees.Zone zones.Device) before after cause = cause
stopped-cause trees.Memory before after cause = tt

pub stopped-file-cause : (fault : TreeFault) (before after : ℕ) → HasFileCause before after fault → IfErr (unless_stopped fault) (HasApartCause before after)
stopped-file-cause (trees.NotFound position) before after cause = tt
stopped-file-cause (trees.NotDirectory position) before after cause = tt
stopped-file-cause trees.NotFile before after cause = tt
stopped-file-cause trees.TooManyLinks before after cause = tt
stopped-file-cause (trees.BadEntry directory) before after cause = tt
stopped-file-cause trees.PathTooLong before after cause = tt
stopped-file-cause (trees.Zone (zones.Layout fault)) before after cause = tt
stopped-file-cause (trees.Zone (zones.ZoneOutside zone)) before after cause = tt
stopped-file-cause (trees.Zone zones.Device) before after cause = cause
stopped-file-cause trees.Memory before after cause = tt

pub failed-cause : (fault : TableFault) (before after : ℕ) → (fault ≡ tables.Device → Rose before after) → IfErr (unless_failed fault) (HasApartCause before after)
failed-cause tables.Device before after cause = cause refl
failed-cause (tables.NoSignature sector) before after cause = tt
failed-cause (tables.OutsideDisk number) before after cause = tt
failed-cause (tables.LoopedChain sector) before after cause = tt
failed-cause tables.TooMany before after cause = tt
failed-cause tables.UnknownDevice before after cause = tt
failed-cause (tables.NoPartition number) before after cause = tt
failed-cause (tables.NoDisk disk) before after cause = tt

-- the first refusal is that of all, and what comes after a pass decides
pub stops : (fault : ApartFault) (given : Result (Unit {0}) Opt) (next : Unit {0} → Result (Unit {0}) Opt) → GivesApart (Err fault) given → GivesApart (Err fault) (given >>= next)
stops (faults.NotApart opt) given next is = rw is refl
stops faults.Device given next is = tt
stops faults.Memory given next is = tt

pub goes-on : (result : Result (Unit {0}) ApartFault) (given : Result (Unit {0}) Opt) (next : Unit {0} → Result (Unit {0}) Opt) → given ≡ Ok tt
    → GivesApart result (next tt) → GivesApart result (given >>= next)
goes-on result given next is gives = rw is gives

-- ---- devices

pub told_machine : {D : Type 0} {disks : Ghosts D} (old new : Volume D disks) (P : model.Volume → Image → Machine → Type 0) → SameVolume old new
    → Told (past_of new) (λ now. P (volume_view new) now (machine_by new)) → Told (past_of old) (λ now. P (volume_view old) now (machine_by old))
told_machine old new P same told =
    let is : machine_by new ≡ machine_by old = rw (same.same_disks.same_size, same.same_disks.same_geometry) refl in
    let M : Machine → Type 0 = λ machine. Told (past_of new) (λ now. P (volume_view new) now machine) in
    told_back old new (λ volume now. P volume now (machine_by old)) same (subst M is told)

module _ (machine : Machine) (volume : model.Volume) (device : Device) (opt : settings.Opt) where
  abbrev device_given : Image → Result (Unit {0}) Opt
  device_given now = require (is_apart_device now machine volume device) (opt_view opt)

  pub told-placed : (past : Option Past) (span : Span) (apart : Bool) (result : Result (Unit {0}) ApartFault)
      → Told past (λ now. span_of now machine device ≡ Ok span) → apart ≡ is_apart_span volume span → result ≡ judged apart opt
      → Told past (λ now. GivesApart result (device_given now))
  told-placed None span apart result is same gives = tt
  told-placed (Some past) span apart result is same gives =
      let B : Bool → Type 0 = λ b. GivesApart (judged b opt) (device_given (now_of past)) in
      let R : Result (Unit {0}) ApartFault → Type 0 = λ r. GivesApart r (device_given (now_of past)) in
      subst R (sym gives) (subst B (sym same) (rw is (judged-gives (is_apart_span volume span) opt)))

  no-place : (image : Image) (fault : partitions.TableFault) → span_of image machine device ≡ Err fault → device_given image ≡ Ok tt
  no-place image fault is = rw is refl

  unplaced : (image : Image) (fault : TableFault) → places.Refuses fault (span_of image machine device) → GivesApart (unless_failed fault) (device_given image)
  unplaced image tables.Device is = tt
  unplaced image (tables.NoSignature sector) is = no-place image (partitions.NoSignature sector) is
  unplaced image (tables.OutsideDisk number) is = no-place image (partitions.OutsideDisk number) is
  unplaced image (tables.LoopedChain sector) is = no-place image (partitions.LoopedChain sector) is
  unplaced image tables.TooMany is = no-place image partitions.TooMany is
  unplaced image tables.UnknownDevice is = no-place image partitions.UnknownDevice is
  unplaced image (tables.NoPartition number) is = no-place image (partitions.NoPartition number) is
  unplaced image (tables.NoDisk disk) is = no-place image (partitions.NoDisk disk) is

  pub told-unplaced : (past : Option Past) (fault : TableFault) (result : Result (Unit {0}) ApartFault)
      → Told past (λ now. places.Refuses fault (span_of now machine device)) → result ≡ unless_failed fault
      → Told past (λ now. GivesApart result (device_given now))
  told-unplaced None fault result is gives = tt
  told-unplaced (Some past) fault result is gives =
      let R : Result (Unit {0}) ApartFault → Type 0 = λ r. GivesApart r (device_given (now_of past)) in
      subst R (sym gives) (unplaced (now_of past) fault is)

-- ---- parts of sections

module _ {X : Type 0} (test : X → Bool) (opt : Opt) (part : ConfSection → Option X) (listed : ConfSection → List X)
    (same : (section : ConfSection) → listed section ≡ option_to_list (part section)) where
  abbrev one : X → Result (Unit {0}) Opt
  one value = require (test value) opt

  first-of : (found : Option X) (rest : Bool) (others : Result (Unit {0}) Opt) → require rest opt ≡ others
      → require (list_all test (option_to_list found) && rest) opt ≡ (if_there one found >>= λ a. others)
  first-of None rest others is = is
  first-of (Some value) rest others is = by (test value) refl
    where
      by : (passes : Bool) → test value ≡ passes → require ((test value && true) && rest) opt ≡ (require (test value) opt >>= λ a. others)
      by true e = rw e is
      by false e = rw e refl

  pub by-sections : (sections : List ConfSection) → require (list_all test (flat_map listed sections)) opt ≡ each_passes (λ section. if_there one (part section)) sections
  by-sections [] = refl
  by-sections (section ∷ sections) =
      ap (λ values. require (list_all test values) opt) (flat_map-cons listed section sections)
      ∙ ap (λ passes. require passes opt) (list_all-append test (listed section) (flat_map listed sections))
      ∙ ap (λ values. require (list_all test values && list_all test (flat_map listed sections)) opt) (same section)
      ∙ first-of (part section) (list_all test (flat_map listed sections)) (each_passes (λ section. if_there one (part section)) sections) (by-sections sections)

-- what may be absent
pub by-option : {X : Type 0} (test : X → Bool) (opt : Opt) (found : Option X) → require (list_all test (option_to_list found)) opt ≡ if_there (λ value. require (test value) opt) found
by-option test opt None = refl
by-option test opt (Some value) = by (test value)
  where
    by : (passes : Bool) → require (passes && true) opt ≡ require passes opt
    by true = refl
    by false = refl

-- ---- where a walk ends

module _ (super : Super) (parts : Parts) (test : List (List ℕ) → Bool) (ends : OwnName → Bool)
    (each : (path : List (List ℕ)) (own : OwnName) → IsOwnName super parts path own → test path ≡ not (ends own)) where
  both-not : (one two : Bool) → (not one && (not two && true)) ≡ not (one || two)
  both-not true two = refl
  both-not false true = refl
  both-not false false = refl

  two-not : (one two : Bool) → (not one && not two) ≡ not (one || two)
  two-not true two = refl
  two-not false two = refl

  of-found : (paths : List (List (List ℕ))) (found : Option NamePair) → AreFound super parts paths found → list_all test paths ≡ not (any_found ends found)
  of-found paths None is = rw is refl
  of-found paths (Some pair) at =
      let plain = each at.path pair.plain at.names.plain in
      let tilde = each (with_tilde at.path) pair.tilde at.names.tilde in
      ap (list_all test) at.is
      ∙ ap (λ (b : Bool). b && (test (with_tilde at.path) && true)) plain
      ∙ ap (λ (b : Bool). not (ends pair.plain) && (b && true)) tilde
      ∙ both-not (ends pair.plain) (ends pair.tilde)

  pub of-guarded : (paths : List (List (List ℕ))) (guarded : Guarded) → AreGuarded super parts paths guarded → list_all test paths ≡ not (any_guarded ends guarded)
  of-guarded paths guarded at =
      ap (list_all test) at.is
      ∙ list_all-append test at.first at.second
      ∙ ap (λ (b : Bool). b && list_all test at.second) (of-found at.first guarded.map at.map)
      ∙ ap (λ (b : Bool). not (any_found ends guarded.map) && b) (of-found at.second guarded.forced at.forced)
      ∙ two-not (any_found ends guarded.map) (any_found ends guarded.forced)

-- none of them is met where the test is never passed
none-found : (found : Option NamePair) → any_found (λ own. false) found ≡ false
none-found None = refl
none-found (Some pair) = refl

none-guarded : (guarded : Guarded) → any_guarded (λ own. false) guarded ≡ false
none-guarded guarded = rw (none-found guarded.map, none-found guarded.forced) refl

module _ (volume : model.Volume) (image : Image) (sound : IsSound volume image) (text : List ℕ) where
  abbrev pub the_end : Result PathEnd find.TreeFault
  the_end = path_end volume.layout (parts_of volume image) text

  by-end : (path : List (List ℕ)) (own : OwnName) → IsOwnName volume.layout (parts_of volume image) path own
      → is_apart_path image volume text path ≡ not (ends_at_name own.directory own.name (number_found own.there) the_end)
  by-end path own at = apart_law volume image text path own.directory own.name (number_found own.there) sound at.ends at.there

  pub ended : (end : PathEnd) (names : List (List (List ℕ))) (guarded : Guarded) → the_end ≡ Ok end → AreGuarded volume.layout (parts_of volume image) names guarded
      → list_all (is_apart_path image volume text) names ≡ not (ends_at_guarded guarded end)
  ended end names guarded is at =
      of-guarded volume.layout (parts_of volume image) (is_apart_path image volume text) (λ own. is_end_at_own own end)
      (λ path own own-is. by-end path own own-is ∙ ap (λ e. not (ends_at_name own.directory own.name (number_found own.there) e)) is)
      names guarded at

  refused : (fault : find.TreeFault) (names : List (List (List ℕ))) (guarded : Guarded) (opt : Opt) → the_end ≡ Err fault → AreGuarded volume.layout (parts_of volume image) names guarded
      → path_check image volume names opt text ≡ Ok tt
  refused fault names guarded opt is at =
      let all : list_all (is_apart_path image volume text) names ≡ not (any_guarded (λ own. false) guarded) =
      of-guarded volume.layout (parts_of volume image) (is_apart_path image volume text) (λ own. false)
      (λ path own own-is. by-end path own own-is ∙ ap (λ e. not (ends_at_name own.directory own.name (number_found own.there) e)) is)
      names guarded at in
      ap (λ (b : Bool). require b opt) (all ∙ ap not (none-guarded guarded))

  pub unwalked : (fault : TreeFault) (names : List (List (List ℕ))) (guarded : Guarded) (opt : Opt) → Refuses fault the_end → AreGuarded volume.layout (parts_of volume image) names guarded
      → GivesApart (unless_stopped fault) (path_check image volume names opt text)
  unwalked (trees.NotFound position) names guarded opt is at = refused (find.NotFound position) names guarded opt is at
  unwalked (trees.NotDirectory position) names guarded opt is at = refused (find.NotDirectory position) names guarded opt is at
  unwalked trees.NotFile names guarded opt is at = refused find.NotFile names guarded opt is at
  unwalked trees.TooManyLinks names guarded opt is at = refused find.TooManyLinks names guarded opt is at
  unwalked (trees.BadEntry directory) names guarded opt is at = refused (find.BadEntry directory) names guarded opt is at
  unwalked trees.PathTooLong names guarded opt is at = refused find.PathTooLong names guarded opt is at
  unwalked (trees.Zone (zones.Layout fault)) names guarded opt is at = refused _ names guarded opt is at
  unwalked (trees.Zone (zones.ZoneOutside zone)) names guarded opt is at = refused _ names guarded opt is at
  unwalked (trees.Zone zones.Device) names guarded opt is at = tt
  unwalked trees.Memory names guarded opt is at = tt

module _ (volume : model.Volume) (text : List ℕ) (guarded : Guarded) (opt : settings.Opt) where
  abbrev PathGives : Result (Unit {0}) ApartFault → Image → Type 0
  PathGives result now = IsSound volume now → (names : List (List (List ℕ))) → AreGuarded volume.layout (parts_of volume now) names guarded
      → GivesApart result (path_check now volume names (opt_view opt) text)

  pub told-ended : (past : Option Past) (end : PathEnd) (met : Bool) (result : Result (Unit {0}) ApartFault)
      → Told past (λ now. path_end volume.layout (parts_of volume now) text ≡ Ok end)
      → met ≡ ends_at_guarded guarded end → result ≡ judged (not met) opt → Told past (PathGives result)
  told-ended None end met result is same gives = tt
  told-ended (Some past) end met result is same gives = λ sound names at.
      let all = ended volume (now_of past) sound text end names guarded is at in
      let B : Bool → Type 0 = λ b. GivesApart (judged (not met) opt) (require b (opt_view opt)) in
      let R : Result (Unit {0}) ApartFault → Type 0 = λ r. GivesApart r (path_check (now_of past) volume names (opt_view opt) text) in
      subst R (sym gives) (subst B (ap not same ∙ sym all) (judged-gives (not met) opt))

  pub told-unwalked : (past : Option Past) (fault : TreeFault) (result : Result (Unit {0}) ApartFault)
      → Told past (λ now. Refuses fault (path_end volume.layout (parts_of volume now) text)) → result ≡ unless_stopped fault
      → Told past (PathGives result)
  told-unwalked None fault result is gives = tt
  told-unwalked (Some past) fault result is gives = λ sound names at.
      let R : Result (Unit {0}) ApartFault → Type 0 = λ r. GivesApart r (path_check (now_of past) volume names (opt_view opt) text) in
      subst R (sym gives) (unwalked volume (now_of past) sound text fault names guarded (opt_view opt) is at)

-- ---- names of the map and the backup

module _ (super : Super) (parts : Parts) (sound : Sound super parts) where
  same-above : (one two : List (List ℕ)) (first second : ℕ) → reached super parts one ≡ Some first → reached super parts two ≡ Some second
      → is_directory (parts.node first) ≡ true → same_path one two ≡ (first == second)
  same-above one two first second leads other is = by (first == second) refl (same_path one two) refl
    where
      by : (equal : Bool) → (first == second) ≡ equal → (same : Bool) → same_path one two ≡ same → same ≡ equal
      by true e true s = refl
      by true e false s =
          let numbers : first ≡ second = grind arith in
          let paths : one ≡ two = sound.one_name first one two is leads (other ∙ ap Some (sym numbers)) in
          let t : same_path one one ≡ false = subst (λ p. same_path one p ≡ false) (sym paths) s in
          sym t ∙ path-same one
      by false e true s =
          let paths : one ≡ two = same-is one two s in
          let both : Some first ≡ Some second = sym leads ∙ ap (reached super parts) paths ∙ other in
          let numbers : first ≡ second = cc in
          let t : (first == second) ≡ true = grind arith in
          sym t ∙ e
      by false e false s = refl

  and-swap : (one two : Bool) → (one && two) ≡ (two && one)
  and-swap true true = refl
  and-swap true false = refl
  and-swap false true = refl
  and-swap false false = refl

  same-own : (path other : List (List ℕ)) (own next : OwnName) → IsOwnName super parts path own → IsOwnName super parts other next
      → not (same_path path other) ≡ are_apart_owns own next
  same-own path other own next at there =
      let S : List (List ℕ) → List (List ℕ) → Type 0 = λ p q. not (same_path p q) ≡ are_apart_owns own next in
      subst (λ p. S p other) (sym at.ends.is) (subst (S (own.name ∷ at.ends.above)) (sym there.ends.is)
      (ap not
      (ap (λ (b : Bool). bytes_eq own.name next.name && b)
      (same-above at.ends.above there.ends.above own.directory next.directory at.ends.there.leads there.ends.there.leads at.ends.there.is)
      ∙ and-swap (bytes_eq own.name next.name) (own.directory == next.directory))))

  four : (a b c d : Bool) → (not (a || (b || false)) && (not (c || (d || false)) && true)) ≡ (not a && not b && not c && not d)
  four true b c d = refl
  four false true c d = refl
  four false false true d = refl
  four false false false true = refl
  four false false false false = refl

  back : (a : Bool) → not (not a) ≡ a
  back true = refl
  back false = refl

  pub apart-pairs : (map backup : List (List (List ℕ))) (pair other : NamePair) → ArePair super parts map pair → ArePair super parts backup other
      → are_apart_paths map backup ≡ are_apart_pairs pair other
  apart-pairs map backup pair other at there =
      let one = same-own at.path there.path pair.plain other.plain at.names.plain there.names.plain in
      let two = same-own at.path (with_tilde there.path) pair.plain other.tilde at.names.plain there.names.tilde in
      let three = same-own (with_tilde at.path) there.path pair.tilde other.plain at.names.tilde there.names.plain in
      let last = same-own (with_tilde at.path) (with_tilde there.path) pair.tilde other.tilde at.names.tilde there.names.tilde in
      ap (λ paths. are_apart_paths paths backup) at.is ∙ ap (are_apart_paths (at.path ∷ (with_tilde at.path ∷ []))) there.is
      ∙ four (same_path at.path there.path) (same_path at.path (with_tilde there.path)) (same_path (with_tilde at.path) there.path) (same_path (with_tilde at.path) (with_tilde there.path))
      ∙ rw (one, two, three, last) refl

  pub apart-found : (map backup : List (List (List ℕ))) (both : BothNames) → AreBoth super parts map backup both
      → are_apart_paths map backup ≡ are_apart_found both.map both.backup
  apart-found map backup both at = by both.map both.backup at.map at.backup
    where
      none : (paths : List (List (List ℕ))) → list_all (λ path. not (list_any (same_path path) [])) paths ≡ true
      none [] = refl
      none (path ∷ paths) = none paths

      by : (first second : Option NamePair) → AreFound super parts map first → AreFound super parts backup second
          → are_apart_paths map backup ≡ are_apart_found first second
      by None second is also = rw is refl
      by (Some pair) None is also = ap (are_apart_paths map) also ∙ none map
      by (Some pair) (Some other) is also = apart-pairs map backup pair other is also

-- the names at a path
module _ (volume : model.Volume) (text : List ℕ) where
  abbrev FoundAs : Result (Option NamePair) ApartFault → Image → Type 0
  FoundAs result now = IsSound volume now → GivesFound volume.layout (parts_of volume now) (names_pair (names_in volume now) text) result

  pub told-pair : (past : Option Past) (pair : NamePair)
      → Told past (λ now. IsSound volume now → GivesPairAt volume.layout (parts_of volume now) (name_path (names_in volume now) text) pair)
      → Told past (FoundAs (Ok (Some pair)))
  unfolding names_pair
  told-pair None pair at = tt
  told-pair (Some past) pair at = λ sound. record { path = (at sound).path; is = ap name_pair (at sound).is; names = (at sound).names }

  no-pair : (given : Result (List (List ℕ)) find.TreeFault) (fault : find.TreeFault) → given ≡ Err fault → name_pair given ≡ []
  no-pair given fault is = ap name_pair is

  abbrev pub found_unless : Result (Unit {0}) ApartFault → Result (Option NamePair) ApartFault
  found_unless (Ok done) = Ok None
  found_unless (Err fault) = Err fault

  unfound : (now : Image) (fault : TreeFault) → Refuses fault (name_path (names_in volume now) text)
      → GivesFound volume.layout (parts_of volume now) (names_pair (names_in volume now) text) (found_unless (unless_stopped fault))
  unfolding names_pair
  unfound now (trees.NotFound position) is = no-pair _ _ is
  unfound now (trees.NotDirectory position) is = no-pair _ _ is
  unfound now trees.NotFile is = no-pair _ _ is
  unfound now trees.TooManyLinks is = no-pair _ _ is
  unfound now (trees.BadEntry directory) is = no-pair _ _ is
  unfound now trees.PathTooLong is = no-pair _ _ is
  unfound now (trees.Zone (zones.Layout fault)) is = no-pair _ _ is
  unfound now (trees.Zone (zones.ZoneOutside zone)) is = no-pair _ _ is
  unfound now (trees.Zone zones.Device) is = tt
  unfound now trees.Memory is = tt

  pub told-unfound : (past : Option Past) (fault : TreeFault) (stopped : Result (Unit {0}) ApartFault) → stopped ≡ unless_stopped fault
      → Told past (λ now. IsSound volume now → Refuses fault (name_path (names_in volume now) text)) → Told past (FoundAs (found_unless stopped))
  told-unfound None fault stopped same is = tt
  told-unfound (Some past) fault stopped same is = λ sound.
      subst (λ (r : Result (Unit {0}) ApartFault). GivesFound volume.layout (parts_of volume (now_of past)) (names_pair (names_in volume (now_of past)) text) (found_unless r)) (sym same)
      (unfound (now_of past) fault (is sound))

-- ---- all checks

three-then : (a b c rest : Result (Unit {0}) Opt) → (a >>= λ x. b >>= λ y. c >>= λ z. rest) ≡ ((a >>= λ x. b >>= λ y. c) >>= λ z. rest)
three-then (Ok done) (Ok also) c rest = refl
three-then (Ok done) (Err fault) c rest = refl
three-then (Err fault) b c rest = refl

module _ (image : Image) (machine : Machine) (volume : model.Volume) (config : conf.Config) (boot : Device) where
  abbrev pub backup_check : Result (Unit {0}) Opt
  backup_check = require (has_apart_backup (names_in volume image) config boot) (backup_option config)

  abbrev pub guarded_here : List (List (List ℕ))
  guarded_here = guarded_names (names_in volume image) config

  kernel-listed : (section : ConfSection) → kernel_path section section.other ≡ option_to_list (part_path files.Kernel section)
  kernel-listed section = by section.other
    where
      by : (other : Option Device) → kernel_path section other ≡ option_to_list (path_unless section.path (is_some other))
      by None = refl
      by (Some device) = refl

  others-is : require (list_all (is_apart_device image machine volume) (other_devices config)) options.OtherDevice ≡ each_passes (device_check image machine volume devices.Other) config.sections
  others-is = by-sections (is_apart_device image machine volume) options.OtherDevice (λ section. section.other) (λ section. option_to_list section.other) (λ section. refl) config.sections

  tables-is : require (list_all (is_apart_device image machine volume) (table_devices config)) options.Table ≡ each_passes (device_check image machine volume devices.Table) config.sections
  tables-is = by-sections (is_apart_device image machine volume) options.Table (λ section. section.table) (λ section. option_to_list section.table) (λ section. refl) config.sections

  abbrev path_test : List ℕ → Bool
  path_test text = list_all (is_apart_path image volume text) guarded_here

  kernels-is : require (has_apart_files image volume config (kernel_paths config)) options.Image ≡ each_passes (part_check image volume guarded_here files.Kernel) config.sections
  kernels-is = by-sections path_test options.Image (part_path files.Kernel) (λ section. kernel_path section section.other) kernel-listed config.sections

  initrds-is : require (has_apart_files image volume config (initrd_paths config)) options.Initrd ≡ each_passes (part_check image volume guarded_here files.Initrd) config.sections
  initrds-is = by-sections path_test options.Initrd (part_path files.Initrd) (λ section. option_to_list section.initrd) (λ section. refl) config.sections

  install-is : require (has_apart_files image volume config (option_to_list config.install)) options.Install ≡ if_there (path_check image volume guarded_here options.Install) config.install
  install-is = by-option path_test options.Install config.install

  message-is : require (has_apart_files image volume config (option_to_list config.message)) options.Message ≡ if_there (path_check image volume guarded_here options.Message) config.message
  message-is = by-option path_test options.Message config.message

  -- the devices, section by section
  abbrev by_device : Result (Unit {0}) Opt
  by_device =
      require (is_apart_device image machine volume boot) options.Boot >>= λ a. each_passes (device_check image machine volume devices.Other) config.sections
      >>= λ b. each_passes (device_check image machine volume devices.Table) config.sections

  pub devices-are : device_checks image machine volume config boot ≡ by_device
  unfolding device_checks
  devices-are = rw (others-is, tables-is) refl

  pub all-checks :
      apart_checks image machine volume config boot
      ≡ (device_checks image machine volume config boot >>= λ a. backup_check >>= λ b. file_checks image volume guarded_here config)
  unfolding apart_checks device_checks file_checks
  all-checks =
      rw (install-is, message-is, kernels-is, initrds-is)
      (three-then (require (is_apart_device image machine volume boot) options.Boot)
      (require (list_all (is_apart_device image machine volume) (other_devices config)) options.OtherDevice)
      (require (list_all (is_apart_device image machine volume) (table_devices config)) options.Table) _)

-- the guarded names are those of the map, and of a backup that is forced
pub guarded-by : (super : Super) (parts : Parts) (names : List ℕ → List (List (List ℕ))) (config : conf.Config) (boot : Device) (both : BothNames) (forced : Bool)
    → forced ≡ is_some config.force_backup → AreBoth super parts (names config.map) (names (backup_path config boot)) both
    → AreGuarded super parts (names config.map ++ flat_map names (option_to_list config.force_backup)) (guarded_of forced both)
unfolding backup_path
guarded-by super parts names config boot both forced asked at = by config.force_backup refl forced asked
  where
    by : (found : Option (List ℕ)) → config.force_backup ≡ found → (forced : Bool) → forced ≡ is_some config.force_backup
        → AreGuarded super parts (names config.map ++ flat_map names (option_to_list found)) (guarded_of forced both)
    by None e true f = cc
    by None e false f = record { first = names config.map; second = []; is = refl; map = at.map; forced = refl }
    by (Some path) e true f =
        let p : unwrap_or config.force_backup (unwrap_or config.backup (default_backup boot)) ≡ path = ap (λ found. unwrap_or found (unwrap_or config.backup (default_backup boot))) e in
        record {
          first = names config.map;
          second = names path ++ [];
          is = refl;
          map = at.map;
          forced = subst (λ paths. AreFound super parts paths both.backup) (ap names p ∙ sym (append-nil (names path))) at.backup;
        }
    by (Some path) e false f = cc

-- ---- where the past is told

module _ (machine : Machine) (volume : model.Volume) (config : conf.Config) (boot : Device) (sections : List ConfSection) (same : sections ≡ config.sections) where
  abbrev boots : Image → Result (Unit {0}) Opt
  boots now = require (is_apart_device now machine volume boot) options.Boot

  abbrev others : Image → List ConfSection → Result (Unit {0}) Opt
  others now list = each_passes (device_check now machine volume devices.Other) list

  abbrev tables_of : Image → List ConfSection → Result (Unit {0}) Opt
  tables_of now list = each_passes (device_check now machine volume devices.Table) list

  pub devices-first : (past : Option Past) (fault : ApartFault) → Told past (λ now. GivesApart (Err fault) (boots now))
      → Told past (λ now. GivesApart (Err fault) (device_checks now machine volume config boot))
  unfolding device_checks
  devices-first None fault one = tt
  devices-first (Some past) fault one = stops fault (boots (now_of past)) _ one

  pub devices-second : (past : Option Past) (fault : ApartFault) → Told past (λ now. boots now ≡ Ok tt) → Told past (λ now. GivesApart (Err fault) (others now sections))
      → Told past (λ now. GivesApart (Err fault) (device_checks now machine volume config boot))
  devices-second None fault one two = tt
  devices-second (Some past) fault one two =
      let L : List ConfSection → Type 0 = λ list. GivesApart (Err fault) (others (now_of past) list) in
      subst (GivesApart (Err fault)) (sym (devices-are (now_of past) machine volume config boot))
      (goes-on (Err fault) (boots (now_of past)) _ one (stops fault (others (now_of past) config.sections) _ (subst L same two)))

  pub devices-last : (past : Option Past) (result : Result (Unit {0}) ApartFault) → Told past (λ now. boots now ≡ Ok tt) → Told past (λ now. others now sections ≡ Ok tt)
      → Told past (λ now. GivesApart result (tables_of now sections)) → Told past (λ now. GivesApart result (device_checks now machine volume config boot))
  devices-last None result one two three = tt
  devices-last (Some past) result one two three =
      let O : List ConfSection → Type 0 = λ list. others (now_of past) list ≡ Ok tt in
      let T : List ConfSection → Type 0 = λ list. GivesApart result (tables_of (now_of past) list) in
      subst (GivesApart result) (sym (devices-are (now_of past) machine volume config boot))
      (goes-on result (boots (now_of past)) _ one (goes-on result (others (now_of past) config.sections) _ (subst O same two) (subst T same three)))

pub guarded_back : {D : Type 0} {disks : Ghosts D} (old new : Volume D disks) (guarded : Guarded) (P : Image → model.Volume → List (List (List ℕ)) → Type 0) → SameVolume old new
    → OnGuarded new guarded P → OnGuarded old guarded P
guarded_back old new guarded P same told =
    told_back old new
    (λ volume now. IsSound volume now → (paths : List (List (List ℕ))) → AreGuarded volume.layout (parts_of volume now) paths guarded → P now volume paths) same told

module _ (volume : model.Volume) (guarded : Guarded) (config : conf.Config) (sections : List ConfSection) (same : sections ≡ config.sections) where
  abbrev pub Here : Option Past → (Image → List (List (List ℕ)) → Type 0) → Type 0
  Here past P = Told past (λ now. IsSound volume now → (paths : List (List (List ℕ))) → AreGuarded volume.layout (parts_of volume now) paths guarded → P now paths)

  abbrev install_of : Image → List (List (List ℕ)) → Result (Unit {0}) Opt
  install_of now names = if_there (path_check now volume names options.Install) config.install

  abbrev message_of : Image → List (List (List ℕ)) → Result (Unit {0}) Opt
  message_of now names = if_there (path_check now volume names options.Message) config.message

  abbrev parts_in : Image → List (List (List ℕ)) → FilePart → List ConfSection → Result (Unit {0}) Opt
  parts_in now names part list = each_passes (part_check now volume names part) list

  pub files-first : (past : Option Past) (fault : ApartFault) → Here past (λ now names. GivesApart (Err fault) (install_of now names))
      → Here past (λ now names. GivesApart (Err fault) (file_checks now volume names config))
  unfolding file_checks
  files-first None fault one = tt
  files-first (Some past) fault one = λ sound names at. stops fault (install_of (now_of past) names) _ (one sound names at)

  pub files-second : (past : Option Past) (fault : ApartFault) → Here past (λ now names. install_of now names ≡ Ok tt)
      → Here past (λ now names. GivesApart (Err fault) (message_of now names))
      → Here past (λ now names. GivesApart (Err fault) (file_checks now volume names config))
  unfolding file_checks
  files-second None fault one two = tt
  files-second (Some past) fault one two = λ sound names at.
      goes-on (Err fault) (install_of (now_of past) names) _ (one sound names at) (stops fault (message_of (now_of past) names) _ (two sound names at))

  pub files-third : (past : Option Past) (fault : ApartFault) → Here past (λ now names. install_of now names ≡ Ok tt)
      → Here past (λ now names. message_of now names ≡ Ok tt)
      → Here past (λ now names. GivesApart (Err fault) (parts_in now names files.Kernel sections))
      → Here past (λ now names. GivesApart (Err fault) (file_checks now volume names config))
  unfolding file_checks
  files-third None fault one two three = tt
  files-third (Some past) fault one two three = λ sound names at.
      let L : List ConfSection → Type 0 = λ list. GivesApart (Err fault) (parts_in (now_of past) names files.Kernel list) in
      goes-on (Err fault) (install_of (now_of past) names) _ (one sound names at)
      (goes-on (Err fault) (message_of (now_of past) names) _ (two sound names at)
      (stops fault (parts_in (now_of past) names files.Kernel config.sections) _ (subst L same (three sound names at))))

  pub files-last : (past : Option Past) (result : Result (Unit {0}) ApartFault) → Here past (λ now names. install_of now names ≡ Ok tt)
      → Here past (λ now names. message_of now names ≡ Ok tt)
      → Here past (λ now names. parts_in now names files.Kernel sections ≡ Ok tt)
      → Here past (λ now names. GivesApart result (parts_in now names files.Initrd sections))
      → Here past (λ now names. GivesApart result (file_checks now volume names config))
  unfolding file_checks
  files-last None result one two three four = tt
  files-last (Some past) result one two three four = λ sound names at.
      let K : List ConfSection → Type 0 = λ list. parts_in (now_of past) names files.Kernel list ≡ Ok tt in
      let I : List ConfSection → Type 0 = λ list. GivesApart result (parts_in (now_of past) names files.Initrd list) in
      goes-on result (install_of (now_of past) names) _ (one sound names at)
      (goes-on result (message_of (now_of past) names) _ (two sound names at)
      (goes-on result (parts_in (now_of past) names files.Kernel config.sections) _ (subst K same (three sound names at)) (subst I same (four sound names at))))

-- all of it
module _ (machine : Machine) (volume : model.Volume) (config : conf.Config) (boot : Device) where
  abbrev Whole : Result (Unit {0}) ApartFault → Image → Type 0
  Whole result now = IsSound volume now → GivesApart result (apart_checks now machine volume config boot)

  abbrev Passed : Image → Type 0
  Passed now = device_checks now machine volume config boot ≡ Ok tt

  abbrev IsBoth : BothNames → Image → Type 0
  IsBoth both now = IsSound volume now → AreBoth volume.layout (parts_of volume now) (names_pair (names_in volume now) config.map) (names_pair (names_in volume now) (backup_path config boot)) both

  by-all : (now : Image) (result : Result (Unit {0}) ApartFault)
      → GivesApart result (device_checks now machine volume config boot >>= λ a. backup_check now machine volume config boot >>= λ b. file_checks now volume (guarded_here now machine volume config boot) config)
      → GivesApart result (apart_checks now machine volume config boot)
  by-all now result is = subst (GivesApart result) (sym (all-checks now machine volume config boot)) is

  pub apart-first : (past : Option Past) (fault : ApartFault) → Told past (λ now. GivesApart (Err fault) (device_checks now machine volume config boot)) → Told past (Whole (Err fault))
  apart-first None fault one = tt
  apart-first (Some past) fault one = λ sound. by-all (now_of past) (Err fault) (stops fault (device_checks (now_of past) machine volume config boot) _ one)

  -- whether the backup is apart, by what was found
  backup-is : (now : Image) (both : BothNames) → IsSound volume now → IsBoth both now → has_apart_backup (names_in volume now) config boot ≡ are_apart_found both.map both.backup
  unfolding IsSound
  backup-is now both sound is = apart-found volume.layout (parts_of volume now) sound.parts _ _ both (is sound)

  backup-gives : (now : Image) (both : BothNames) (met : Bool) (opt : settings.Opt) (result : Result (Unit {0}) ApartFault) → IsSound volume now → IsBoth both now
      → met ≡ are_apart_found both.map both.backup → opt_view opt ≡ backup_option config → result ≡ judged met opt
      → GivesApart result (backup_check now machine volume config boot)
  backup-gives now both met opt result sound is same option gives =
      let R : Result (Unit {0}) ApartFault → Type 0 = λ r. GivesApart r (backup_check now machine volume config boot) in
      let B : Bool → Type 0 = λ b. GivesApart (judged met opt) (require b (backup_option config)) in
      let O : Opt → Type 0 = λ o. GivesApart (judged met opt) (require met o) in
      subst R (sym gives) (subst B (same ∙ sym (backup-is now both sound is)) (subst O option (judged-gives met opt)))

  pub apart-second : (past : Option Past) (both : BothNames) (met : Bool) (opt : settings.Opt) (fault : ApartFault) → Told past Passed → Told past (IsBoth both)
      → met ≡ are_apart_found both.map both.backup → opt_view opt ≡ backup_option config → Err fault ≡ judged met opt → Told past (Whole (Err fault))
  apart-second None both met opt fault one is same option gives = tt
  apart-second (Some past) both met opt fault one is same option gives = λ sound.
      by-all (now_of past) (Err fault)
      (goes-on (Err fault) (device_checks (now_of past) machine volume config boot) _ one
      (stops fault (backup_check (now_of past) machine volume config boot) _ (backup-gives (now_of past) both met opt (Err fault) sound is same option gives)))

  guarded-here : (now : Image) (both : BothNames) (forced : Bool) (guarded : Guarded) → IsSound volume now → IsBoth both now → forced ≡ is_some config.force_backup
      → guarded ≡ guarded_of forced both → AreGuarded volume.layout (parts_of volume now) (guarded_here now machine volume config boot) guarded
  guarded-here now both forced guarded sound is asked same =
      subst (AreGuarded volume.layout (parts_of volume now) (guarded_here now machine volume config boot)) (sym same)
      (guarded-by volume.layout (parts_of volume now) (names_pair (names_in volume now)) config boot both forced asked (is sound))

  pub apart-last : (past : Option Past) (both : BothNames) (met : Bool) (opt : settings.Opt) (forced : Bool) (guarded : Guarded) (result : Result (Unit {0}) ApartFault)
      → Told past Passed → Told past (IsBoth both)
      → met ≡ are_apart_found both.map both.backup → opt_view opt ≡ backup_option config → Ok tt ≡ judged met opt
      → forced ≡ is_some config.force_backup → guarded ≡ guarded_of forced both
      → Told past (λ now. IsSound volume now → (paths : List (List (List ℕ))) → AreGuarded volume.layout (parts_of volume now) paths guarded → GivesApart result (file_checks now volume paths config))
      → Told past (Whole result)
  apart-last None both met opt forced guarded result one is same option gives asked found rest = tt
  apart-last (Some past) both met opt forced guarded result one is same option gives asked found rest = λ sound.
      by-all (now_of past) result
      (goes-on result (device_checks (now_of past) machine volume config boot) _ one
      (goes-on result (backup_check (now_of past) machine volume config boot) _ (backup-gives (now_of past) both met opt (Ok tt) sound is same option gives)
      (rest sound (guarded_here (now_of past) machine volume config boot) (guarded-here (now_of past) both forced guarded sound is asked found))))
