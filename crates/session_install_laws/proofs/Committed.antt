-- Once its boot sector is written, a staged map keeps what a session does.
use Rattle.std.proofs.Common.{◌≡◌, ◌≢◌, ℕ, ◌+◌, ◌*◌, ◌/◌, ◌%◌, ◌==◌, Bool, true, false, List, map, Some, refl, sym, ap, subst, ◌∙◌, ◌⊎◌, inl, inr, arith}
use Rattle.std.specs.Prelude.{unwrap_or}
use Rattle.std.specs.Result.{result_ok}
use Rattle.std.proofs.lemmas.Bool.Decides.{nat_tests}
use Rattle.disk_trait.specs.Past as past
use Rattle.lilo_model.specs.Boot.{present_line}
use Rattle.lilo_model.specs.Clear.{IsOfZone, IsClearPlace}
use Rattle.lilo_model.specs.Conf.{Config}
use Rattle.lilo_model.specs.DefaultLine.{Empty}
use Rattle.lilo_model.specs.Devices.{Device}
use Rattle.lilo_model.specs.Disks.{Image, DiskSector, bytes_at}
use Rattle.lilo_model.specs.Meant.{Target, Menu, menu_of, meant}
use Rattle.lilo_model.specs.MinixNames.{Named, Refers, names_in, reached, IsSound}
use Rattle.lilo_model.specs.MinixParts.{parts_of, block_pointer, is_link}
use Rattle.lilo_model.specs.NamePlaces.{with_tilde}
use Rattle.lilo_model.specs.Plan.{Plan, slot_to, plan_boot}
use Rattle.lilo_model.specs.Planned.{devices_in, planned}
use Rattle.minix_change_laws.proofs.Seen.{opened}
use Rattle.map_laws.specs.Lies.{MapPlaces, all_places, MapLies}
use Rattle.map_laws.specs.MapLays.{HoldsMap}
use Rattle.map_laws.specs.PlannedLies.{PlannedLies, targets_for}
use Rattle.map_laws.proofs.Entries.{slot-read}
use Rattle.map_laws.proofs.Lines.{lines_law}
use Rattle.map_laws.proofs.Planned.{map-lies}
use Rattle.map_laws.proofs.Whole.{boot-read}
use Rattle.install_stage_laws.specs.Committed.{IsStaged}
use Rattle.install_stage_laws.proofs.Committed as committing
use Rattle.install_stage_laws.proofs.Files.{place_of, zone_of, refers-block, Each, places-have}
use Rattle.install_stage_laws.proofs.Sectors.{same-sector, same-zone, half}
use Rattle.install_stage_laws.proofs.Staged.{still-long}
use Rattle.session_model.specs.Keeps.{IsOffLinks, IsWhole, Keeps}
use Rattle.session_model.specs.Site.{Site, boot_place}
use Rattle.session_model.specs.State.{place_by, line_place, line_by, line_in}
use Rattle.session_laws.proofs.Bodies.{body_means_law}
use Rattle.session_install_laws.specs.Planned.{CommittedKeepsLaw, CommittedMeansLaw, BootsAnew}
use Rattle.session_install_laws.proofs.Mapped.{all-mapped, line-named, line_apart_law}

-- a file is no symbolic link
no-link : (mode : ℕ) → (mode / 4096 == 8) ≡ true → (mode / 4096 == 10) ≡ false
no-link mode regular = by (mode / 4096 == 10) refl
  where
    by : (test : Bool) → (mode / 4096 == 10) ≡ test → (mode / 4096 == 10) ≡ false
    by false is = is
    by true is = absurd (grind (arith, nat_tests, regular, is))

-- so no sector of a regular file lies in one
module _ (site : Site) (image : Image) (sound : IsSound site.volume image) (plan : Plan) (path : List (List ℕ)) (places : List DiskSector) (h : HoldsMap image site.machine site.volume plan path places) where
  holder-named : Named site.volume.layout (parts_of site.volume image) h.holder
  holder-named = by h.leads
    where
      by : (reached site.volume.layout (parts_of site.volume image) path ≡ Some h.holder) ⊎ (reached site.volume.layout (parts_of site.volume image) (with_tilde path) ≡ Some h.holder)
          → Named site.volume.layout (parts_of site.volume image) h.holder
      by (inl leads) = record { path = path; leads = leads }
      by (inr leads) = record { path = with_tilde path; leads = leads }

  sector-off : (index zone : ℕ) → zone_of site.volume image h.holder index ≡ zone → zone ≢ 0 → IsOffLinks site image (place_of site.volume (2 * zone + index % 2))
  sector-off index zone is some number at other sector refers of there =
      let here : 2 * zone + index % 2 ≡ sector = same-sector site.volume (place_of site.volume (2 * zone + index % 2)) (2 * zone + index % 2) sector refl there in
      let one : zone ≡ other = same-zone zone other sector (subst (IsOfZone zone) here (half zone index)) of in
      let both =
      (opened site.volume image sound).parts.once h.holder number (block_pointer site.volume.layout.kind (index / 2)) at zone
      (refers-block site.volume image h.holder holder-named h.regular index zone is some)
      (subst (λ z. Refers site.volume.layout (parts_of site.volume image) number at z) (sym one) refers) in
      subst (λ n. is_link ((parts_of site.volume image).node n) ≡ false) both.0 (no-link ((parts_of site.volume image).node h.holder).mode h.regular)

  sectors-off : Each site.volume image (IsOffLinks site image) (map Some places)
  sectors-off = subst (Each site.volume image (IsOffLinks site image)) h.solid (places-have site.volume image (IsOffLinks site image) h.holder sector-off)

-- ---- the whole

module _ (site : Site) (before staged : Image) (config : Config) (device : Device) (time : ℕ) (chosen : ℕ → Bool) (places : MapPlaces) (bytes : List ℕ) (path : List (List ℕ))
    (s : IsStaged before staged site.machine site.volume site.boot config device time chosen places bytes path) where
  abbrev New : Image
  New = past.with_sector staged site.boot.disk site.boot.start bytes

  abbrev Planned : Plan
  Planned = planned before site.machine site.volume config time

  abbrev Present : List ℕ
  Present = before site.boot.disk site.boot.start

  abbrev Meant : Menu
  Meant = menu_of config (names_in site.volume before) (devices_in before site.machine)

  abbrev Starts : List Target
  Starts = targets_for (names_in site.volume before) (devices_in before site.machine) config.sections

  planned-lies : PlannedLies before New site.machine site.volume site.boot config time (devices_in before site.machine) Empty places Present
  planned-lies = committing.lies-staged before staged site.machine site.volume site.boot config device time chosen places bytes path s

  lies : MapLies New site.machine site.boot Planned Meant Starts Empty places Present
  lies = map-lies before New site.machine site.volume site.boot config time (devices_in before site.machine) Empty places Present s.sound planned-lies

  elsewhere : places.line ≢ boot_place site
  elsewhere = (committing.written before staged site.machine site.volume site.boot config device time chosen places bytes path s).1

  sound-still : IsSound site.volume New
  sound-still = (committing.files before staged site.machine site.volume site.boot config device time chosen places bytes path s).sound

  off-links : (place : DiskSector) → line_place site New ≡ Some place → IsOffLinks site New place
  unfolding line_place
  off-links place is =
      let there : Some places.line ≡ Some place =
      sym (ap (place_by site.machine) (boot-read New site.machine site.boot Planned Meant Starts Empty places Present lies)
      ∙ ap result_ok (line-named New site.machine site.boot Planned Meant Starts Empty places Present lies)) ∙ is in
      let all =
      sectors-off site New sound-still Planned path (all_places places)
      (committing.holds before staged site.machine site.volume site.boot config device time chosen places bytes path s) in
      subst (IsOffLinks site New) (ap (λ one. unwrap_or one place) there) all.0

  pub keeps : IsWhole site staged → Keeps site New
  keeps whole = record {
    whole = λ d n below.
        still-long staged site.boot bytes (committing.size-is before staged site.machine site.volume site.boot config device time chosen places bytes path s)
        (record { disk = d; sector = n }) (whole d n below);
    sound = sound-still;
    clear =
        all-mapped (IsClearPlace site.volume New) New site.machine site.boot Planned Meant Starts Empty places Present lies
        (committing.clear-staged before staged site.machine site.volume site.boot config device time chosen places bytes path s);
    line_apart = line_apart_law site New Planned Meant Starts Empty places Present lies elsewhere;
    off_links = off-links;
  }

  line-present : present_line New site.machine (plan_boot Planned site.machine (all_places places)) ≡ Some Empty
  unfolding present_line plan_boot
  line-present = rw (slot-read New site.machine (slot_to Planned.config.mode site.machine) places.line (bytes_at New places.line) lies.named.0 refl, lies.line_is) refl

  line-empty : line_in site New ≡ Some Empty
  unfolding line_in
  line-empty = ap (line_by New site.machine) (boot-read New site.machine site.boot Planned Meant Starts Empty places Present lies) ∙ line-present

  pub boots-anew : BootsAnew site (meant config (names_in site.volume before) (devices_in before site.machine)) New
  boots-anew = record {
    boots =
        body_means_law site New places.line (meant config (names_in site.volume before) (devices_in before site.machine))
        (record {
          boot = plan_boot Planned site.machine (all_places places);
          says = boot-read New site.machine site.boot Planned Meant Starts Empty places Present lies;
          named = line-named New site.machine site.boot Planned Meant Starts Empty places Present lies;
          apart = line_apart_law site New Planned Meant Starts Empty places Present lies elsewhere;
        })
        (λ other line is keys memory.
        (lines_law before New site.machine site.volume site.boot config time (devices_in before site.machine) Empty places Present s.sound planned-lies elsewhere).boots other line keys memory is);
    line = line-empty;
  }

pub committed_means_law : CommittedMeansLaw
committed_means_law site before staged config device time chosen places bytes path s = boots-anew site before staged config device time chosen places bytes path s

pub committed_keeps_law : CommittedKeepsLaw
committed_keeps_law site before staged config device time chosen places bytes path whole s = keeps site before staged config device time chosen places bytes path s whole
