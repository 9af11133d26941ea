-- What an installation finds before it begins, by the first of the model's checks.
use Rattle.std.specs.Prelude.{◌≡◌, ◌<◌, ◌*◌, ℕ, Bool, true, List, length, is_some, Option, Result, Ok, Err, IsErr}
use Rattle.disk_trait.specs.Past.{Past}
use Rattle.lilo_model.specs.Apart.{apart_checks}
use Rattle.lilo_model.specs.Checks.{◌>>=◌, require, with_fault}
use Rattle.lilo_model.specs.Conf.{Config}
use Rattle.lilo_model.specs.Devices.{Device}
use Rattle.lilo_model.specs.Disks.{Image, Machine, Span}
use Rattle.lilo_model.specs.MinixLayout.{super_at, super_sector}
use Rattle.lilo_model.specs.MinixNames.{names_in, IsSound}
use Rattle.lilo_model.specs.MinixParts.{Volume, parts_of, sector_of}
use Rattle.lilo_model.specs.MinixSurvey.{Met, survey}
use Rattle.lilo_model.specs.MinixWalk.{visits}
use Rattle.lilo_model.specs.Settled as model
use Rattle.lilo_model.specs.Settled.{is_foreign, own_names}
use Rattle.install_laws.specs.InstallVerdict.{Begun, InstallRefusal, NotSound, NotApart, BadName, NoLink, may_settle, is_clear}
use Rattle.minix_survey.specs.declared.findings.Findings.{Findings}
use Rattle.present_map.specs.Clear.{IsFound, clear_answer}
use Rattle.present_map.specs.Old.{IsOldMap}
use Rattle.install_settle.specs.Found.{AreFound, IsToSettle}
use Rattle.install_order.specs.Faults.{Refuses}
use Rattle.install_order.specs.declared.examination.Examined.{Examined}
use Rattle.install_order.specs.declared.examination.Present.{Present}
use Rattle.install_order.specs.declared.fault.InstallFault.{InstallFault}

-- the volume's superblock is the one that was read, and each of its sectors is there
pub record IsLaid (volume : Volume) (image : Image) : Type 0 where
  pub super : super_at (sector_of volume image super_sector) volume.span.count ≡ Ok volume.layout
  pub whole : (sector : ℕ) → sector < 2 * volume.layout.zones → length (sector_of volume image sector) ≡ 512

-- the names that an installation replaces, once it has passed the checks up to settling
unfoldable pub begin_checks : Image → Machine → Volume → Config → Device → Span → Result model.OwnNames InstallRefusal
begin_checks image machine volume config boot span = do
  met ← with_fault NotSound (survey volume.layout (parts_of volume image))
  a ← with_fault NotApart (apart_checks image machine volume config boot)
  names ← with_fault BadName (own_names (names_in volume image) config boot (is_foreign (image span.disk span.start)))
  b ← require (may_settle image machine volume (visits volume.layout (parts_of volume image)) span names.map) NoLink
  Ok names

-- Where one of them refuses, nothing is written, whatever is answered.
abbrev pub StaysRefused : Image → Machine → Begun → Option Past → Option Past → Type 0
StaysRefused image machine begun entry ended =
    IsErr (begin_checks image machine begun.volume begun.config begun.boot begun.span) → ended ≡ entry

-- ---- on the way there

-- a sound volume, from which a configuration is apart
pub record IsApartOn (image : Image) (machine : Machine) (volume : Volume) (config : Config) (boot : Device) (found : Findings) : Type 0 where
  pub sound : IsSound volume image
  pub met : List Met
  pub is : IsFound volume image found met
  pub apart : apart_checks image machine volume config boot ≡ Ok tt

abbrev pub GivesApart : Image → Machine → Volume → Config → Device → Result Findings InstallFault → Type 0
GivesApart image machine volume config boot (Ok found) = IsApartOn image machine volume config boot found
GivesApart image machine volume config boot (Err fault) =
    Refuses fault (with_fault NotSound (survey volume.layout (parts_of volume image))
    >>= λ met. with_fault NotApart (apart_checks image machine volume config boot))

-- the names that are replaced, and the present map
pub record IsPresent (image : Image) (machine : Machine) (volume : Volume) (config : Config) (boot : Device) (span : Span) (found : Present) : Type 0 where
  pub names : model.OwnNames
  pub are : own_names (names_in volume image) config boot (is_foreign (image span.disk span.start)) ≡ Ok names
  pub there : AreFound volume.layout (parts_of volume image) names found.own
  pub old : IsOldMap volume image machine span found.old

abbrev pub GivesPresent : Image → Machine → Volume → Config → Device → Span → Result Present InstallFault → Type 0
GivesPresent image machine volume config boot span (Ok found) = IsPresent image machine volume config boot span found
GivesPresent image machine volume config boot span (Err fault) =
    Refuses fault (with_fault BadName (own_names (names_in volume image) config boot (is_foreign (image span.disk span.start))))

-- what there is to settle, and whether the map is Clear
pub record IsRest (image : Image) (machine : Machine) (volume : Volume) (span : Span) (names : model.OwnNames) (met : List Met) (forced : Bool)
    (found : Examined) : Type 0 where
  pub settling : IsToSettle image machine volume span names forced found.settling
  pub may : may_settle image machine volume (visits volume.layout (parts_of volume image)) span names.map ≡ true
  pub clear : found.clear ≡ clear_answer (is_foreign (image span.disk span.start)) (is_clear volume image met machine span)

abbrev pub GivesRest : Image → Machine → Volume → Span → model.OwnNames → List Met → Bool → Result Examined InstallFault → Type 0
GivesRest image machine volume span names met forced (Ok found) = IsRest image machine volume span names met forced found
GivesRest image machine volume span names met forced (Err fault) =
    Refuses fault (require (may_settle image machine volume (visits volume.layout (parts_of volume image)) span names.map) NoLink)

-- ---- the whole

-- What was found.
pub record IsExamined (image : Image) (machine : Machine) (volume : Volume) (config : Config) (boot : Device) (span : Span) (found : Examined) : Type 0 where
  pub sound : IsSound volume image
  pub met : List Met
  pub surveyed : survey volume.layout (parts_of volume image) ≡ Ok met
  pub apart : apart_checks image machine volume config boot ≡ Ok tt
  pub names : model.OwnNames
  pub are : own_names (names_in volume image) config boot (is_foreign (image span.disk span.start)) ≡ Ok names
  pub there : AreFound volume.layout (parts_of volume image) names found.own
  pub old : IsOldMap volume image machine span found.old
  pub settling : IsToSettle image machine volume span names (is_some config.force_backup) found.settling
  pub may : may_settle image machine volume (visits volume.layout (parts_of volume image)) span names.map ≡ true
  pub clear : found.clear ≡ clear_answer (is_foreign (image span.disk span.start)) (is_clear volume image met machine span)

-- it was, or the first check that refuses it did, unless a disk failed or memory ended
abbrev pub GivesExamined : Image → Machine → Volume → Config → Device → Span → Result Examined InstallFault → Type 0
GivesExamined image machine volume config boot span (Ok found) = IsExamined image machine volume config boot span found
GivesExamined image machine volume config boot span (Err fault) = Refuses fault (begin_checks image machine volume config boot span)
