-- The names that an installation replaces are those still once they are settled, and no file that is mapped is at the path of a backup
-- that is made.
use Rattle.std.proofs.Common.{◌≡◌, ◌≢◌, ◌⊎◌, ℕ, Bool, true, false, if◌then◌else◌, inl, inr, is_some, List, Option, Some, None, Result, Ok, Err, refl, sym, ◌∙◌, ap, subst}
use Rattle.std.specs.Prelude.{IfSome}
use Rattle.disk_trait.specs.declared.disks.Disks.{Ghosts}
use Rattle.lilo_model.specs.Apart.{Apart}
use Rattle.lilo_model.specs.Checks.{◌>>=◌, with_fault}
use Rattle.lilo_model.specs.Conf.{Config}
use Rattle.lilo_model.specs.Devices.{Device}
use Rattle.lilo_model.specs.Disks.{Image, Machine}
use Rattle.lilo_model.specs.MinixFind.{TreeFault}
use Rattle.lilo_model.specs.MinixFindNames.{Names}
use Rattle.lilo_model.specs.MinixNames.{names_in, reached, IsSound}
use Rattle.lilo_model.specs.MinixParts.{Parts, Volume}
use Rattle.lilo_model.specs.MinixParts as model
use Rattle.lilo_model.specs.NamePlaces.{backup_path, name_path, plain_path, same_path, with_name, with_tilde, without_name}
use Rattle.lilo_model.specs.Settled.{OwnNames, backup_name, file_or_nothing, is_foreign, own_names, refused_path, replaceable_name, settled, without_stale}
use Rattle.minix_create.specs.declared.chosen.Chosen.{Chosen}
use Rattle.minix_layout.specs.View.{super_view}
use Rattle.minix_steps.specs.Written.{parts_now}
use Rattle.minix_zones.specs.declared.volume.Volume as volumes
use Rattle.install_join_laws.specs.ApartLaws.{HasSettled}
use Rattle.install_join_laws.specs.Mapped.{IsNotReplaced}
use Rattle.install_join_laws.proofs.Entry.{files}
use Rattle.install_join_laws.proofs.Mapped.{mapped_apart_law}
use Rattle.install_join_laws.proofs.Names.{AreReplaced, IsBackup, IsReplaced, are-replaced, backup-by}
use Rattle.install_join_laws.proofs.Paths.{AreOwnFiles, alike}
use Rattle.install_join_laws.proofs.Surveyed.{has-settled}
use Rattle.install_join_laws.proofs.Walks.{AreAlike, name-too}
use Rattle.install_laws.specs.InstallVerdict.{Begun, made_backup}
use Rattle.install_order.specs.Begins.{IsBegun}
use Rattle.install_order.specs.Stageable.{path_made}
use Rattle.install_order.specs.declared.examination.Examined.{Examined}
use Rattle.install_room.specs.Making.{MayMakeBackup}
use Rattle.install_settle.specs.Settles.{stale_of}
use Rattle.install_stage.specs.Staged.{AreNotReplaced}
use Rattle.install_stage_laws.specs.Mapped.{OnMapped}
use Rattle.install_stage_laws.proofs.Mapped.{next-mapped}

-- ---- names that may be replaced

-- what is at a name once Names are settled may be replaced where it might be before, and what was at `map~` too
settled-file : (finishes : Bool) (path : List (List ℕ)) (stale : Option (List (List ℕ))) (old : Names) (name : List (List ℕ)) → file_or_nothing (old (with_tilde path)) ≡ Ok tt
    → file_or_nothing (old name) ≡ Ok tt → file_or_nothing (settled finishes path stale old name) ≡ Ok tt
settled-file finishes path stale old name tilde own = by stale
  where
    moved : (f : Bool) → file_or_nothing ((if f then with_name path (old (with_tilde path)) old else old) name) ≡ Ok tt
    moved true = at (same_path path name)
      where
        at : (same : Bool) → file_or_nothing (if same then old (with_tilde path) else old name) ≡ Ok tt
        at true = tilde
        at false = own
    moved false = own

    middle : (same : Bool) → file_or_nothing (if same then None else (if finishes then with_name path (old (with_tilde path)) old else old) name) ≡ Ok tt
    middle true = refl
    middle false = moved finishes

    by : (stale : Option (List (List ℕ))) → file_or_nothing (without_stale stale (without_name (with_tilde path) (if finishes then with_name path (old (with_tilde path)) old else old)) name) ≡ Ok tt
    by None = middle (same_path (with_tilde path) name)
    by (Some backup) = at (same_path (with_tilde backup) name)
      where
        at : (same : Bool) → file_or_nothing (if same then None else without_name (with_tilde path) (if finishes then with_name path (old (with_tilde path)) old else old) name) ≡ Ok tt
        at true = refl
        at false = middle (same_path (with_tilde path) name)

replaceable : (at : Names) (both : Bool) (text : List ℕ) (path : List (List ℕ)) → name_path at text ≡ Ok path → file_or_nothing (at (plain_path path)) ≡ Ok tt
    → (both ≡ true → file_or_nothing (at (plain_path (with_tilde path))) ≡ Ok tt) → replaceable_name at both text ≡ Ok path
unfolding replaceable_name
replaceable at true text path place file tilde = let too = tilde refl in rw (place, file, too) refl
replaceable at false text path place file tilde = rw (place, file) refl

module _ (entry : Image) (machine : Machine) (begun : Begun) (found : Examined) (c : Image)
    (sound : IsSound begun.volume entry) (is : IsBegun entry machine begun found c) where
  abbrev Old : Names
  Old = names_in begun.volume entry

  abbrev New : Names
  New = names_in begun.volume c

  abbrev Foreign : Bool
  Foreign = is_foreign (entry begun.span.disk begun.span.start)

  abbrev Forced : Bool
  Forced = is_some begun.config.force_backup

  replaced : AreReplaced Old begun.config begun.boot Foreign is.names is.are
  replaced = are-replaced Old begun.config begun.boot Foreign is.names is.are

  own-files : AreOwnFiles Old is.names Forced
  own-files = files entry begun.volume begun.config begun.boot Foreign is.names is.are

  settled-has : HasSettled begun.volume entry c is.names Forced is.settled.finishes
  settled-has = has-settled entry machine begun found c is

  all-alike : AreAlike Old New
  all-alike = alike begun.volume entry c is.names Forced is.settled.finishes sound settled-has own-files

  new-file : (name : List (List ℕ)) → file_or_nothing (Old name) ≡ Ok tt → file_or_nothing (New name) ≡ Ok tt
  new-file name file = ap file_or_nothing (settled-has.has name) ∙ settled-file is.settled.finishes is.names.map (stale_of Forced is.names) Old name own-files.tilde.file file

  still : (both : Bool) (text : List ℕ) (path : List (List ℕ)) → IsReplaced Old both text path → replaceable_name New both text ≡ Ok path
  still both text path was =
      replaceable New both text path (name-too Old New all-alike text path was.place) (new-file (plain_path path) was.file) (λ on. new-file (plain_path (with_tilde path)) (was.tilde on))

  backup-still : (foreign : Bool) → backup_name Old begun.config begun.boot foreign ≡ Ok is.names.backup → backup_name New begun.config begun.boot foreign ≡ Ok is.names.backup
  backup-still false made = made
  backup-still true made = by (backup-by Old begun.config begun.boot true is.names.backup made)
    where
      never : (found : Result (List (List ℕ)) TreeFault) → (with_fault (refused_path (backup_path begun.config begun.boot)) found >>= λ path. Ok (Some path)) ≡ Ok None → ⊥
      never (Ok path) none = cc
      never (Err fault) none = cc

      by : (is.names.backup ≡ None) ⊎ IsBackup Old begun.config begun.boot is.names.backup → backup_name New begun.config begun.boot true ≡ Ok is.names.backup
      by (inl none) = absurd (never (replaceable_name Old Forced (backup_path begun.config begun.boot)) (made ∙ ap Ok none))
      by (inr backup) = let path = still Forced (backup_path begun.config begun.boot) backup.path backup.replaced in rw path (ap Ok (sym backup.is))

  pub own-still : own_names New begun.config begun.boot Foreign ≡ Ok is.names
  unfolding own_names
  own-still = let map = still true begun.config.map is.names.map replaced.map in let backup = backup-still Foreign replaced.backup in rw (map, backup) refl

-- ---- files that are mapped

-- where a backup isn't forced, it is made only where nothing is at its path
pub made-free : {D : Type 0} {disks : Ghosts D} (volume : volumes.Volume D disks) (forced : Bool) (path : Option (List (List ℕ))) (backup : Option Chosen) → forced ≡ false
    → MayMakeBackup volume (made_backup (super_view volume.layout) (parts_now volume) forced path) backup
    → IfSome path (λ path. IfSome backup (λ chosen. reached (super_view volume.layout) (parts_now volume) path ≡ None))
made-free volume forced None backup off may = tt
made-free volume forced (Some path) None off may = tt
made-free volume forced (Some path) (Some chosen) off may =
    by (reached (super_view volume.layout) (parts_now volume) path) refl
    (subst (λ (f : Bool). MayMakeBackup volume (made_backup (super_view volume.layout) (parts_now volume) f (Some path)) (Some chosen)) off may)
  where
    by : (there : Option ℕ) → reached (super_view volume.layout) (parts_now volume) path ≡ there → MayMakeBackup volume (if is_some (reached (super_view volume.layout) (parts_now volume) path) then None else Some path) (Some chosen)
        → reached (super_view volume.layout) (parts_now volume) path ≡ None
    by None is may = is
    by (Some number) is may = absurd (let none = rw is at may in none)

not-both : (found : Option ℕ) (number : ℕ) → found ≡ None → found ≡ Some number → ⊥
not-both found number none some = cc

module _ (image : Image) (machine : Machine) (volume : Volume) (config : Config) (device : Device) (foreign : Bool) (names : OwnNames)
    (apart : Apart image machine volume config device) (own : own_names (names_in volume image) config device foreign ≡ Ok names) where
  abbrev Leads : List (List ℕ) → Option ℕ
  Leads path = reached volume.layout (model.parts_of volume image) path

  mapped : OnMapped image volume config (IsNotReplaced image volume names (is_some config.force_backup))
  mapped = mapped_apart_law image machine volume config device foreign names apart own

  pub not-replaced : (backup : Option Chosen) (path : Option (List (List ℕ))) → names.backup ≡ path
      → (is_some config.force_backup ≡ false → IfSome path (λ path. IfSome backup (λ chosen. Leads path ≡ None))) → AreNotReplaced image volume config (path_made backup path)
  not-replaced None path same free = tt
  not-replaced (Some chosen) None same free = tt
  not-replaced (Some chosen) (Some path) same free = by (is_some config.force_backup) refl
    where
      by : (forced : Bool) → is_some config.force_backup ≡ forced → OnMapped image volume config (λ number. Leads path ≢ Some number)
      by true on =
          let stale : stale_of (is_some config.force_backup) names ≡ Some path = ap (λ (f : Bool). stale_of f names) on ∙ same in
          next-mapped image volume (IsNotReplaced image volume names (is_some config.force_backup)) (λ number. Leads path ≢ Some number)
          (λ text number found is. subst (λ (o : Option (List (List ℕ))). IfSome o (λ backup. Leads backup ≢ Some number)) stale is.backup) config mapped
      by false off =
          next-mapped image volume (IsNotReplaced image volume names (is_some config.force_backup)) (λ number. Leads path ≢ Some number)
          (λ text number found is some. not-both (Leads path) number (free off) some) config mapped
