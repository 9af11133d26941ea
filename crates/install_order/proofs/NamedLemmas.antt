-- Names that were found are those of the model, where they were examined and once they are settled.
use Rattle.std.proofs.Common.{◌≡◌, ◌≢◌, ◌∙◌, ◌&&◌, ◌||◌, ℕ, Bool, true, false, not, List, is_some, unwrap_or, Option, None, Some, Result, Ok, Err, IfOk, refl, sym, ap, subst}
use Rattle.std.specs.Prelude.{IfSome, if◌then◌else◌}
use Rattle.std.specs.Option.{option_map}
use Rattle.std.proofs.lemmas.Bool.{and_parts}
use Rattle.disk_trait.specs.declared.disks.Disks.{Ghosts}
use Rattle.disk_trait.specs.declared.disks.Span.{Span}
use Rattle.disk_trait.specs.Moments.{IsTold, now}
use Rattle.disk_trait.specs.Past.{Told}
use Rattle.disk_trait.proofs.MomentLemmas.{told_now}
use Rattle.lilo_model.specs.Disks.{Image, Machine, DiskSector}
use Rattle.lilo_model.specs.Mapped.{mapped_sectors}
use Rattle.lilo_model.specs.MinixEntries.{is_dots}
use Rattle.lilo_model.specs.MinixLayout.{Super}
use Rattle.lilo_model.specs.MinixFindNames.{Names}
use Rattle.lilo_model.specs.MinixNames.{Thing, File, Link, Directory, Other, content, names, names_in, reached, thing}
use Rattle.lilo_model.specs.MinixParts.{Volume, Parts, parts_of, is_directory, is_file, is_link}
use Rattle.lilo_model.specs.NamePlaces.{same_path, with_name, with_tilde, without_name}
use Rattle.lilo_model.specs.Settled as model
use Rattle.lilo_model.specs.Settled.{file_or_nothing, settled, without_stale}
use Rattle.lilo_conf.specs.View.{config_view}
use Rattle.lilo_conf.specs.declared.config.Config.{Config}
use Rattle.mbr_table.specs.View.{device_view}
use Rattle.mbr_table.specs.declared.device.Device.{Device}
use Rattle.minix_layout.specs.declared.superblock.Super as layouts
use Rattle.minix_layout.specs.View.{inode_view}
use Rattle.minix_names.specs.Places.{IsPlace, number_found}
use Rattle.minix_tree.specs.declared.stat.Stat.{Stat}
use Rattle.minix_zones.specs.View.{span_view}
use Rattle.minix_zones.specs.Volume.{volume_view, past_of}
use Rattle.minix_zones.specs.declared.volume.Volume as volumes
use Rattle.sector_address.specs.Machine.{machine_of}
use Rattle.install_apart.specs.Names.{IsPair, is_file_found, is_replaceable}
use Rattle.install_apart.specs.Own.{AreReplaceable, IsBackup, IsBackupReplaceable}
use Rattle.install_apart.specs.declared.name.NamePair.{NamePair}
use Rattle.install_apart.specs.declared.name.OwnName.{OwnName}
use Rattle.install_apart.specs.declared.own.OwnNames.{OwnNames}
use Rattle.install_stage_laws.specs.BeginLaws.{IsNoneOfMap}
use Rattle.install_laws.specs.InstallVerdict.{Begun, directory_of, last_name}
use Rattle.install_room.specs.Names.{AreNamesOf, IsNameAt, IsBackupOf}
use Rattle.install_room.specs.Room.{KeepsOut}
use Rattle.install_settle.specs.At.{IsAt}
use Rattle.install_settle.specs.Found.{AreFound, has_copy}
use Rattle.install_settle.specs.Settles.{IsBeside, KeepsPaths, LeadsAsIn, stale_of}
use Rattle.install_settle.proofs.LeadLemmas.{plain-at, tilde-at}
use Rattle.install_settle.proofs.PathLemmas.{file-apart, tilde-differs}
use Rattle.install_order.specs.Answers.{IsFor, IsKnown, IsLookedAt, Leaves, Settled, begun_in, found_in, volume_in}
use Rattle.install_order.specs.Begins.{AreOwn, FitsVolume, IsBegun, IsSurveyed}
use Rattle.install_order.specs.Checks.{GivesExamined, IsExamined}
use Rattle.install_order.specs.Plans.{IsAsFound, AreSurveyed, Surveys, IsPairPlaced, IsBackupPlaced, ArePlaced}
use Rattle.install_order.specs.View.{begun_of}
use Rattle.install_order.specs.declared.examination.Examined.{Examined}
use Rattle.install_order.specs.declared.halt.Halt.{Halt}
use Rattle.install_order.specs.declared.surveyed.Surveyed.{Surveyed}
use Rattle.install_order.proofs.BeginLemmas.{backup-apart, value-is}

-- ---- places

-- a path ends with no dots, and where it leads anywhere that is a regular file
pub record IsFilePlace (super : Super) (parts : Parts) (path : List (List ℕ)) : Type 0 where
  pub plain : is_dots (last_name path) ≡ false
  pub file : IfSome (reached super parts path) (λ number. is_file (parts.node number) ≡ true)

-- each name is in the directory to which its path leads; whether the backup is there is whether its path leads anywhere; and what is
-- there is a file, and so it is at the map's name
pub record AreHere (super : Super) (parts : Parts) (names : model.OwnNames) (own : OwnNames) : Type 0 where
  pub placed : ArePlaced super parts names own
  pub there : (path : List (List ℕ)) (pair : NamePair) → names.backup ≡ Some path → own.backup ≡ Some pair → is_some (reached super parts path) ≡ is_some pair.plain.there
  pub file : (path : List (List ℕ)) (pair : NamePair) → names.backup ≡ Some path → own.backup ≡ Some pair → IsFilePlace super parts path
  pub map : IsFilePlace super parts names.map

module _ (super : Super) (parts : Parts) where
  file-place : (path : List (List ℕ)) (own : OwnName) → IsAt super parts path own → is_replaceable own ≡ true → IsFilePlace super parts path
  file-place path own at file = record {
    plain = subst (λ (name : List ℕ). is_dots name ≡ false) (sym (ap last_name at.is)) at.plain;
    file = subst (λ (o : Option ℕ). IfSome o (λ number. is_file (parts.node number) ≡ true)) (sym at.there) (by own.there at.mode file);
  }
    where
      by : (there : Option Stat) → IfSome there (λ stat. (inode_view stat.node).mode ≡ (parts.node stat.inode).mode) → is_file_found there ≡ true
          → IfSome (number_found there) (λ number. is_file (parts.node number) ≡ true)
      by None mode file = tt
      by (Some stat) mode file = subst (λ (m : ℕ). is_file (record (parts.node stat.inode) { mode = m }) ≡ true) mode file

  name-at : (path : List (List ℕ)) (own : OwnName) → IsPlace super parts path own.directory own.name → IsNameAt super parts path own
  name-at path own place = record {
    directory = ap (directory_of super parts) place.is ∙ ap (λ (found : Option ℕ). unwrap_or found 1) place.there.leads;
    name = ap last_name place.is;
  }

  -- so they are the model's
  names-here : (names : model.OwnNames) (own : OwnNames) → AreHere super parts names own → AreNamesOf super parts names own
  names-here names own here = record {
    tilde = name-at (with_tilde names.map) own.map.tilde here.placed.map.tilde;
    backup = by names.backup own.backup refl refl here.placed.backup;
  }
    where
      by : (path : Option (List (List ℕ))) (pair : Option NamePair) → names.backup ≡ path → own.backup ≡ pair → IsBackupPlaced super parts path pair → IsBackupOf super parts path pair
      by None None one two placed = tt
      by None (Some pair) one two placed = placed
      by (Some path) None one two placed = placed
      by (Some path) (Some pair) one two placed = record {
        plain = name-at path pair.plain placed.plain;
        tilde = name-at (with_tilde path) pair.tilde placed.tilde;
        there = here.there path pair one two;
      }

-- ---- files, by Names

-- what is at a name may be replaced: it is a regular file, or nothing is
abbrev MayBe : Option Thing → Type 0
MayBe thing = file_or_nothing thing ≡ Ok tt

module _ (volume : Volume) (image : Image) where
  abbrev IsFileAt : ℕ → Type 0
  IsFileAt number = is_file ((parts_of volume image).node number) ≡ true

  thing-may : (number : ℕ) → IsFileAt number → MayBe (Some (thing volume.layout (parts_of volume image) number))
  unfolding thing
  thing-may number is = rw is refl

  may-thing : (number : ℕ) → MayBe (Some (thing volume.layout (parts_of volume image) number)) → IsFileAt number
  unfolding thing
  may-thing number =
      by (is_file ((parts_of volume image).node number)) (is_link ((parts_of volume image).node number)) (is_directory ((parts_of volume image).node number))
      (content volume.layout (parts_of volume image) number)
    where
      by : (file link directory : Bool) (bytes : List ℕ) → MayBe (Some (if file then File bytes else if link then Link bytes else if directory then Directory else Other)) → file ≡ true
      by true link directory bytes may = refl
      by false true directory bytes may = cc
      by false false true bytes may = cc
      by false false false bytes may = cc

  named-may : (path : List (List ℕ)) → IfSome (reached volume.layout (parts_of volume image) path) IsFileAt → MayBe (names_in volume image path)
  unfolding names_in names
  named-may path = by (reached volume.layout (parts_of volume image) path)
    where
      by : (found : Option ℕ) → IfSome found IsFileAt → MayBe (option_map (thing volume.layout (parts_of volume image)) found)
      by None is = refl
      by (Some number) is = thing-may number is

  may-named : (path : List (List ℕ)) → MayBe (names_in volume image path) → IfSome (reached volume.layout (parts_of volume image) path) IsFileAt
  unfolding names_in names
  may-named path = by (reached volume.layout (parts_of volume image) path)
    where
      by : (found : Option ℕ) → MayBe (option_map (thing volume.layout (parts_of volume image)) found) → IfSome found IsFileAt
      by None is = tt
      by (Some number) is = may-thing number is

-- so it is at `map` once it is settled, where it is at both of its names
without-may : (gone : List (List ℕ)) (old : Names) (path : List (List ℕ)) → MayBe (old path) → MayBe (without_name gone old path)
without-may gone old path may = by (same_path gone path)
  where
    by : (same : Bool) → MayBe (if same then None else old path)
    by true = refl
    by false = may

stale-may : (stale : Option (List (List ℕ))) (old : Names) (path : List (List ℕ)) → MayBe (old path) → MayBe (without_stale stale old path)
stale-may None old path may = may
stale-may (Some backup) old path may = without-may (with_tilde backup) old path may

settled-may : (finishes : Bool) (path : List (List ℕ)) (stale : Option (List (List ℕ))) (old : Names) → MayBe (old path) → MayBe (old (with_tilde path))
    → MayBe (settled finishes path stale old path)
settled-may finishes path stale old plain tilde =
    stale-may stale (without_name (with_tilde path) (if finishes then with_name path (old (with_tilde path)) old else old)) path
    (without-may (with_tilde path) (if finishes then with_name path (old (with_tilde path)) old else old) path (by finishes))
  where
    both : (same : Bool) → MayBe (if same then old (with_tilde path) else old path)
    both true = tilde
    both false = plain

    by : (finishes : Bool) → MayBe ((if finishes then with_name path (old (with_tilde path)) old else old) path)
    by true = both (same_path path path)
    by false = plain

-- ---- where paths lead where they led

module _ (volume : Volume) (old : Image) (names : model.OwnNames) (own : OwnNames) (forced : Bool) (found : AreFound volume.layout (parts_of volume old) names own) (files : AreReplaceable forced own) where
  abbrev Old : Parts
  Old = parts_of volume old

  -- what may be replaced isn't a directory: neither of the map's, nor a copy of a forced backup
  module _ (above : List (List ℕ)) (directory : ℕ) (leads : reached volume.layout Old above ≡ Some directory) (is : is_directory (Old.node directory) ≡ true) where
    copy-apart : (backup : Option (List (List ℕ))) (pair : Option NamePair) → IsBackup volume.layout Old backup pair → IsBackupReplaceable true pair → IfSome backup (λ path. above ≢ with_tilde path)
    copy-apart None pair at file = tt
    copy-apart (Some path) None at file = absurd at
    copy-apart (Some path) (Some pair) at file =
        file-apart volume.layout Old (with_tilde path) above pair.tilde directory (tilde-at volume.layout Old path pair.tilde at.tilde)
        (and_parts (is_replaceable pair.plain) (is_replaceable pair.tilde) file).1 leads is

    beside-directory : (copy : Bool) → (copy ≡ true → forced ≡ true) → IsBeside names copy above
    beside-directory copy asked = record {
      map = file-apart volume.layout Old names.map above own.map.plain directory (plain-at volume.layout Old names.map own.map.plain found.map.plain both.0) both.0 leads is;
      tilde = file-apart volume.layout Old (with_tilde names.map) above own.map.tilde directory (tilde-at volume.layout Old names.map own.map.tilde found.map.tilde) both.1 leads is;
      stale = by copy asked;
    }
      where
        both : (is_replaceable own.map.plain ≡ true) × (is_replaceable own.map.tilde ≡ true)
        both = and_parts (is_replaceable own.map.plain) (is_replaceable own.map.tilde) files.map

        by : (copy : Bool) → (copy ≡ true → forced ≡ true) → IfSome (stale_of copy names) (λ path. above ≢ with_tilde path)
        by true asked = copy-apart names.backup own.backup found.backup (subst (λ (f : Bool). IsBackupReplaceable f own.backup) (asked refl) files.backup)
        by false asked = tt

  module _ (c : Image) (copy : Bool) (asked : copy ≡ true → forced ≡ true) (apart : IfSome names.backup (IsNoneOfMap names.map)) (paths : KeepsPaths volume old names copy c)
      (map : IsFilePlace volume.layout (parts_of volume c) names.map) where
    abbrev New : Parts
    New = parts_of volume c

    -- so a directory is where it was
    place-stays : (path : List (List ℕ)) (directory : ℕ) (name : List ℕ) → IsPlace volume.layout Old path directory name → IsPlace volume.layout New path directory name
    place-stays path directory name place =
        let stays = paths place.above (beside-directory place.above directory place.there.leads place.there.is copy asked) in
        let mode : (New.node directory).mode ≡ (Old.node directory).mode = subst (λ (o : Option ℕ). IfSome o (λ number. (New.node number).mode ≡ (Old.node number).mode)) place.there.leads stays.mode in
        record {
          above = place.above;
          is = place.is;
          there = record { leads = stays.leads ∙ place.there.leads; is = rw mode place.there.is };
        }

    pair-stays : (path : List (List ℕ)) (pair : NamePair) → IsPair volume.layout Old path pair → IsPairPlaced volume.layout New path pair
    pair-stays path pair is = record {
      plain = place-stays path pair.plain.directory pair.plain.name is.plain.ends;
      tilde = place-stays (with_tilde path) pair.tilde.directory pair.tilde.name is.tilde.ends;
    }

    backup-stays : (path : Option (List (List ℕ))) (pair : Option NamePair) → IsBackup volume.layout Old path pair → IsBackupPlaced volume.layout New path pair
    backup-stays None None is = tt
    backup-stays None (Some pair) is = is
    backup-stays (Some path) None is = is
    backup-stays (Some path) (Some pair) is = pair-stays path pair is

    -- and so is a backup
    some-number : (there : Option Stat) → is_some (number_found there) ≡ is_some there
    some-number None = refl
    some-number (Some stat) = refl

    module _ (path : List (List ℕ)) (pair : NamePair) (one : names.backup ≡ Some path) (two : own.backup ≡ Some pair) where
      backup-is : IsPair volume.layout Old path pair
      backup-is = subst (IsBackup volume.layout Old (Some path)) two (subst (λ (o : Option (List (List ℕ))). IsBackup volume.layout Old o own.backup) one found.backup)

      backup-file : is_replaceable pair.plain ≡ true
      backup-file = (and_parts (is_replaceable pair.plain) (not forced || is_replaceable pair.tilde) (subst (IsBackupReplaceable forced) two files.backup)).0

      backup-at : IsAt volume.layout Old path pair.plain
      backup-at = plain-at volume.layout Old path pair.plain backup-is.plain backup-file

      backup-leads : LeadsAsIn volume old c path
      backup-leads =
          let none = subst (λ (o : Option (List (List ℕ))). IfSome o (IsNoneOfMap names.map)) one apart in
          paths path (record { map = none.1; tilde = none.0; stale = by copy })
        where
          by : (copy : Bool) → IfSome (stale_of copy names) (λ backup. path ≢ with_tilde backup)
          by true = subst (λ (o : Option (List (List ℕ))). IfSome o (λ backup. path ≢ with_tilde backup)) (sym one) (tilde-differs path pair.plain.name backup-at.above backup-at.is)
          by false = tt

      there-stays : is_some (reached volume.layout New path) ≡ is_some pair.plain.there
      there-stays = ap is_some backup-leads.leads ∙ (ap is_some backup-at.there ∙ some-number pair.plain.there)

      file-stays : IsFilePlace volume.layout New path
      file-stays = record {
        plain = subst (λ (name : List ℕ). is_dots name ≡ false) (sym (ap last_name backup-at.is)) backup-at.plain;
        file = subst (λ (o : Option ℕ). IfSome o (λ number. is_file (New.node number) ≡ true)) (sym (backup-leads.leads ∙ backup-at.there))
            (by pair.plain.there backup-at.mode backup-file
            (subst (λ (o : Option ℕ). IfSome o (λ number. (New.node number).mode ≡ (Old.node number).mode)) backup-at.there backup-leads.mode));
      }
        where
          by : (there : Option Stat) → IfSome there (λ stat. (inode_view stat.node).mode ≡ (Old.node stat.inode).mode) → is_file_found there ≡ true
              → IfSome (number_found there) (λ number. (New.node number).mode ≡ (Old.node number).mode) → IfSome (number_found there) (λ number. is_file (New.node number) ≡ true)
          by None mode file same = tt
          by (Some stat) mode file same = subst (λ (m : ℕ). is_file (record (New.node stat.inode) { mode = m }) ≡ true) (mode ∙ sym same) file

    here-still : AreHere volume.layout New names own
    here-still = record {
      placed = record { map = pair-stays names.map own.map found.map; backup = backup-stays names.backup own.backup found.backup };
      there = there-stays;
      file = file-stays;
      map = map;
    }

-- ---- what was surveyed

-- a backup's path is neither of the map's
pub none_of_map : (map : List (List ℕ)) (backup : Option (List (List ℕ))) → IfSome backup (λ path. IsNoneOfMap map path × IsNoneOfMap map (with_tilde path)) → IfSome backup (IsNoneOfMap map)
none_of_map map None apart = tt
none_of_map map (Some path) apart = apart.0

module _ (entry : Image) (machine : Machine) (begun : Begun) (found : Examined) (layout : layouts.Super) (forced : Bool) (fits : FitsVolume layout forced found)
    (is : IsExamined entry machine begun.volume begun.config begun.boot begun.span found) where
  here-in : (c : Image) (copy : Bool) → (copy ≡ true → forced ≡ true) → KeepsPaths begun.volume entry is.names copy c
      → IsFilePlace begun.volume.layout (parts_of begun.volume c) is.names.map → AreHere begun.volume.layout (parts_of begun.volume c) is.names found.own
  here-in c copy asked paths =
      here-still begun.volume entry is.names found.own forced is.there fits.files c copy asked (none_of_map is.names.map is.names.backup (backup-apart entry machine begun found is)) paths

  -- both names of the map may be replaced
  map-files : (is_replaceable found.own.map.plain ≡ true) × (is_replaceable found.own.map.tilde ≡ true)
  map-files = and_parts (is_replaceable found.own.map.plain) (is_replaceable found.own.map.tilde) fits.files.map

  map-entry : IsFilePlace begun.volume.layout (parts_of begun.volume entry) is.names.map
  map-entry =
      file-place begun.volume.layout (parts_of begun.volume entry) is.names.map found.own.map.plain
      (plain-at begun.volume.layout (parts_of begun.volume entry) is.names.map found.own.map.plain is.there.map.plain map-files.0) map-files.0

  tilde-entry : IsFilePlace begun.volume.layout (parts_of begun.volume entry) (with_tilde is.names.map)
  tilde-entry =
      file-place begun.volume.layout (parts_of begun.volume entry) (with_tilde is.names.map) found.own.map.tilde
      (tilde-at begun.volume.layout (parts_of begun.volume entry) is.names.map found.own.map.tilde is.there.map.tilde) map-files.1

  -- on the disks as they were
  here-entry : AreHere begun.volume.layout (parts_of begun.volume entry) is.names found.own
  here-entry = here-in entry false (λ on. absurd (clash on)) (λ path beside. record { leads = refl; mode = by (reached begun.volume.layout (parts_of begun.volume entry) path) }) map-entry
    where
      clash : false ≡ true → ⊥
      clash on = cc

      by : (o : Option ℕ) → IfSome o (λ number. ((parts_of begun.volume entry).node number).mode ≡ ((parts_of begun.volume entry).node number).mode)
      by None = tt
      by (Some number) = refl

  -- and where they are settled
  here-settled : (c : Image) → IsBegun entry machine begun found c → AreHere begun.volume.layout (parts_of begun.volume c) is.names found.own
  here-settled c done =
      let same : done.names ≡ is.names = value-is done.names is.names (sym done.are ∙ is.are) in
      here-in c found.settling.copy (λ on. asked forced (sym fits.copies ∙ on)) (subst (λ (n : model.OwnNames). KeepsPaths begun.volume entry n found.settling.copy c) same done.paths)
      (record { plain = map-entry.plain; file = may-named begun.volume c is.names.map (map-may same) })
    where
      stale : Option (List (List ℕ))
      stale = model.stale_backup (model.is_foreign (entry begun.span.disk begun.span.start)) (stale_of (is_some begun.config.force_backup) done.names)

      map-may : done.names ≡ is.names → MayBe (names_in begun.volume c is.names.map)
      map-may same =
          let settled-is : names_in begun.volume c is.names.map ≡ settled done.settled.finishes is.names.map stale (names_in begun.volume entry) is.names.map =
          subst (λ (n : model.OwnNames). names_in begun.volume c n.map ≡ settled done.settled.finishes n.map stale (names_in begun.volume entry) n.map) same (done.settled.is done.names.map) in
          ap file_or_nothing settled-is
          ∙ settled-may done.settled.finishes is.names.map stale (names_in begun.volume entry) (named-may begun.volume entry is.names.map map-entry.file)
          (named-may begun.volume entry (with_tilde is.names.map) tilde-entry.file)

      asked : (f : Bool) → (f && has_copy found.own.backup) ≡ true → f ≡ true
      asked true on = refl
      asked false on = on

module _ (image : Image) (machine : Machine) (begun : Begun) (found : Examined) (layout : layouts.Super) (forced settled : Bool) (fits : FitsVolume layout forced found)
    (survey : IsSurveyed image machine begun found settled) where
  here-now : AreHere begun.volume.layout (parts_of begun.volume image) survey.examined.names found.own
  here-now = by settled refl
    where
      by : (on : Bool) → settled ≡ on → AreHere begun.volume.layout (parts_of begun.volume image) survey.examined.names found.own
      by true on = here-settled survey.entry machine begun found layout forced fits survey.examined image (survey.is_settled on)
      by false off =
          subst (λ (c : Image). AreHere begun.volume.layout (parts_of begun.volume c) survey.examined.names found.own) (sym (survey.is_looked_at off))
          (here-entry survey.entry machine begun found layout forced fits survey.examined)

  -- the names that are replaced are as they were found
  module _ (names : model.OwnNames) (own : AreOwn survey.entry begun names) where
    pub own-here : AreHere begun.volume.layout (parts_of begun.volume image) names found.own
    own-here =
        let same : survey.examined.names ≡ names = value-is survey.examined.names names (sym survey.examined.are ∙ own) in
        subst (λ (n : model.OwnNames). AreHere begun.volume.layout (parts_of begun.volume image) n found.own) same here-now

    pub own-found : (places : List DiskSector) → KeepsOut begun.volume places found.old → IsAsFound image begun.volume places names found
    own-found places keeps = record { keeps = keeps; are = names-here begun.volume.layout (parts_of begun.volume image) names found.own own-here }

-- ---- what is known of a value

-- names and places of what was surveyed
pub known_surveyed : {D : Type 0} {disks : Ghosts D} (s : Surveyed D disks) (known : IsKnown s) (told : IsTold (past_of s.volume))
    → AreSurveyed (now (past_of s.volume)) (machine_of disks s.volume.disks.now) s (known.known told).examined.names
    (mapped_sectors (known.known told).entry (machine_of disks s.volume.disks.now) (span_view s.boot))
known_surveyed s known told =
    let survey = known.known told in
    record { survey = survey; own = survey.examined.are; keeps = survey.examined.old.zones }

-- so they are as they were found
pub surveyed_found : {D : Type 0} {disks : Ghosts D} (image : Image) (machine : Machine) (s : Surveyed D disks) → IsKnown s → (names : model.OwnNames) (places : List DiskSector)
    → AreSurveyed image machine s names places → IsAsFound image (volume_view s.volume) places names s.found
surveyed_found image machine s known names places are =
    own-found image machine (begun_in s) s.found s.volume.layout (is_some s.config.force_backup) s.settled known.fits are.survey names are.own places are.keeps

pub surveyed_here : {D : Type 0} {disks : Ghosts D} (image : Image) (machine : Machine) (s : Surveyed D disks) → IsKnown s → (names : model.OwnNames) (places : List DiskSector)
    → AreSurveyed image machine s names places → AreHere (volume_view s.volume).layout (parts_of (volume_view s.volume) image) names s.found.own
surveyed_here image machine s known names places are =
    own-here image machine (begun_in s) s.found s.volume.layout (is_some s.config.force_backup) s.settled known.fits are.survey names are.own

pub surveyed_placed : {D : Type 0} {disks : Ghosts D} (image : Image) (machine : Machine) (s : Surveyed D disks) → IsKnown s → (names : model.OwnNames) (places : List DiskSector)
    → AreSurveyed image machine s names places → ArePlaced (volume_view s.volume).layout (parts_of (volume_view s.volume) image) names s.found.own
surveyed_placed image machine s known names places are = (surveyed_here image machine s known names places are).placed

pub known_found : {D : Type 0} {disks : Ghosts D} (s : Surveyed D disks) (known : IsKnown s) (told : IsTold (past_of s.volume))
    → IsAsFound (now (past_of s.volume)) (volume_view s.volume) (mapped_sectors (known.known told).entry (machine_of disks s.volume.disks.now) (span_view s.boot)) (known.known told).examined.names s.found
known_found {D} {disks} s known told = surveyed_found (now (past_of s.volume)) (machine_of disks s.volume.disks.now) s known _ _ (known_surveyed s known told)

-- ---- what a beginning answers

-- what was found of what the disks held before it, and is settled
module _ {D : Type 0} {disks : Ghosts D} (old : volumes.Volume D disks) (config : Config) (device : Device) (boot : Span) (time : ℕ) (s : Surveyed D disks)
    (is_for : IsFor config boot time true s) (boots : config.boot ≡ Some device) (leaves : Leaves old s.volume (begun_of old config device boot)) where
  view-same : volume_view s.volume ≡ volume_view old
  view-same = rw (leaves.kept.same_span, leaves.kept.same_layout) refl

  machine-same : machine_of disks s.volume.disks.now ≡ machine_of disks old.disks.now
  machine-same = rw (leaves.goes_on.size, leaves.goes_on.geometry) refl

  device-same : s.device ≡ device
  device-same = let both : Some s.device ≡ Some device = sym is_for.device_is ∙ boots in cc

  begun-same : begun_in s ≡ begun_of old config device boot
  begun-same =
      ap (λ (v : Volume). record { volume = v; config = config_view s.config; boot = device_view s.device; span = span_view s.boot }) view-same
      ∙ (ap (λ (c : Config). begun_of old c s.device s.boot) is_for.config_is
      ∙ (ap (λ (d : Device). begun_of old config d s.boot) device-same ∙ ap (begun_of old config device) is_for.boot_is))

  -- what is said of the disks as they were is said of what was surveyed
  forth : (P : Machine → Begun → Type 0) → P (machine_of disks old.disks.now) (begun_of old config device boot) → P (machine_of disks s.volume.disks.now) (begun_in s)
  forth P p = subst (λ (m : Machine). P m (begun_in s)) (sym machine-same) (subst (P (machine_of disks old.disks.now)) (sym begun-same) p)

  pub begun_surveyed : IsExamined (now (past_of old)) (machine_of disks old.disks.now) (volume_view old) (config_view config) (device_view device) (span_view boot) s.found
      → IsBegun (now (past_of old)) (machine_of disks old.disks.now) (begun_of old config device boot) s.found (now (past_of s.volume))
      → (names : model.OwnNames) (places : List DiskSector) → AreOwn (now (past_of old)) (begun_of old config device boot) names → KeepsOut (volume_view old) places s.found.old
      → AreSurveyed (now (past_of s.volume)) (machine_of disks s.volume.disks.now) s names places
  begun_surveyed examined done names places own keeps = record {
    survey = record {
      entry = now (past_of old);
      examined = forth (λ m b. IsExamined (now (past_of old)) m b.volume b.config b.boot b.span s.found) examined;
      is_settled = λ on. forth (λ m b. IsBegun (now (past_of old)) m b s.found (now (past_of s.volume))) done;
      is_looked_at = λ off. absurd (clash off);
    };
    own = forth (λ m b. AreOwn (now (past_of old)) b names) own;
    keeps = forth (λ m b. KeepsOut b.volume places s.found.old) keeps;
  }
    where
      clash : s.settled ≡ false → ⊥
      clash off = let both : true ≡ false = sym is_for.settled_is ∙ off in cc

-- so it is for what was looked at and is settled
module _ {D : Type 0} {disks : Ghosts D} (old : volumes.Volume D disks) (config : Config) (boot : Span) (time : ℕ) (looked : Surveyed D disks) (is_for : IsFor config boot time false looked) where
  for-settled : (s : Surveyed D disks) → IsLookedAt looked s → IsFor config boot time true s
  for-settled s is = record {
    config_is = is.config_is ∙ is_for.config_is;
    device_is = is_for.device_is ∙ ap Some (sym is.device_is);
    boot_is = is.boot_is ∙ is_for.boot_is;
    time_is = is.time_is ∙ is_for.time_is;
    settled_is = is.settled_is;
  }

  abbrev At : Device → Begun
  At device = begun_of old config device boot

  pub surveys_of : (result : Result (Surveyed D disks) (Halt D disks)) → IfOk result (IsLookedAt looked) → IfSome config.boot (λ device. Leaves old (volume_in result) (At device))
      → IfSome config.boot (λ device. IfOk result (Settled old (At device)))
      → IfSome config.boot (λ device. Told (past_of old) (λ image. GivesExamined image (machine_of disks old.disks.now) (volume_view old) (config_view config) (device_view device) (span_view boot) (found_in result)))
      → IfSome config.boot (λ device. IfOk result (Surveys old (At device)))
  surveys_of result held leaves settled found = by config.boot refl result held leaves settled found
    where
      by : (o : Option Device) → config.boot ≡ o → (r : Result (Surveyed D disks) (Halt D disks)) → IfOk r (IsLookedAt looked) → IfSome o (λ device. Leaves old (volume_in r) (At device))
          → IfSome o (λ device. IfOk r (Settled old (At device)))
          → IfSome o (λ device. Told (past_of old) (λ image. GivesExamined image (machine_of disks old.disks.now) (volume_view old) (config_view config) (device_view device) (span_view boot) (found_in r)))
          → IfSome o (λ device. IfOk r (Surveys old (At device)))
      by None same r held leaves settled found = tt
      by (Some device) same (Ok s) held leaves settled found = λ told.
          begun_surveyed old config device boot time s (for-settled s held) same leaves (told_now (past_of old) _ found told) (settled told)
      by (Some device) same (Err halt) held leaves settled found = tt
