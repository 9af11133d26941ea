-- What is staged is written once the boot sector is.
use Rattle.std.proofs.Common.{◌≡◌, ◌≢◌, ℕ, ◌==◌, ◌&&◌, Bool, true, false, not, if◌then◌else◌, List, [], ◌∷◌, ◌++◌, length, drop, Option, None, Some, Result, Ok, Err, refl, sym, ap, subst, ◌∙◌, arith, eqb-true}
use Rattle.std.specs.Prelude.{IfSome, is_some, option_map, flat_map, unwrap_or}
use Rattle.std.specs.List.{AllByRecursion}
use Rattle.std.specs.Result.{result_ok}
use Rattle.std.proofs.lemmas.Bool.Decides.{nat_tests}
use Rattle.disk_trait.specs.Past as past
use Rattle.lilo_model.specs.Bytes.{part_of}
use Rattle.lilo_model.specs.Checks.{◌>>=◌, require}
use Rattle.lilo_model.specs.Apart.{is_apart_place, is_apart_device}
use Rattle.lilo_model.specs.Conf.{Config, ConfSection}
use Rattle.lilo_model.specs.Devices.{Device}
use Rattle.lilo_model.specs.Disks.{Image, Machine, Span, DiskSector, bytes_at}
use Rattle.lilo_model.specs.DefaultLine.{Empty}
use Rattle.lilo_model.specs.Lays.{AreAt}
use Rattle.lilo_model.specs.LineSector.{line_at}
use Rattle.lilo_model.specs.MinixNames.{names_in, IsSound}
use Rattle.lilo_model.specs.MinixParts.{Volume, parts_of}
use Rattle.lilo_model.specs.Partitions.{TableFault, span_of}
use Rattle.lilo_model.specs.Plan.{MappedFile, MappedSection, plan_sectors}
use Rattle.lilo_model.specs.Planned.{first_sector, system_places, mapped_inode, optional_file, file_inode, kernel_section, mapped_by, mapped_section, planned}
use Rattle.lilo_model.specs.PlanRefusal.{OtherIsBoot, NoSignature, each_passes, if_there, file_checks, disk_check, message_check, system_check, kernel_check, mapped_check, held_checks, address_checks, plan_at}
use Rattle.lilo_model.specs.BootSector.{is_bootable}
use Rattle.map_again_laws.proofs.Texts.{line_again}
use Rattle.map_laws.specs.Accepted.{IsOptionalLeft, IsTableKept, IsSystemLeft, IsSectionLeft}
use Rattle.map_laws.specs.Files.{IsKept}
use Rattle.map_laws.proofs.Accepted.{both-pass, required, all-pass}
use Rattle.map_laws.proofs.MeantFiles.{inode-named}
use Rattle.map_laws.specs.Lies.{after_line, all_places}
use Rattle.install_laws.specs.Writes.{IsWritable, IsApartSector}
use Rattle.install_laws.proofs.Planned.{accepted_means_law}
use Rattle.install_stage_laws.specs.Staged.{KeepsRest, AreFree, IsChosenPlace}
use Rattle.install_stage_laws.specs.StageLaws.{StagedWrittenLaw, StagedMeansLaw}
use Rattle.install_stage_laws.proofs.BootBytes.{boot-long, table-kept}
use Rattle.install_stage_laws.proofs.Devices.{others-apart, tables-apart, device-apart}
use Rattle.install_stage_laws.proofs.Files.{first-of, Each, EachOptional}
use Rattle.install_stage_laws.proofs.Sectors.{Stays, chosen-writable, apart-not, file-stays, optional-stays}

-- ---- places

same-place : (place other : DiskSector) → (place.disk == other.disk) ≡ true → (place.sector == other.sector) ≡ true → place ≡ other
same-place place other disk sector =
    ap (λ n. record { disk = n; sector = place.sector }) (eqb-true place.disk other.disk disk) ∙ ap (λ n. record { disk = other.disk; sector = n }) (eqb-true place.sector other.sector sector)

not-both : (a b c d : ℕ) → not ((a == b) && (c == d)) ≡ true → a ≡ b → c ≡ d → ⊥
not-both a b c d test one two = grind (arith, nat_tests, test, one, two)

same-some : (place other : DiskSector) → Some place ≡ Some other → place ≡ other
same-some place other same = ap (λ one. unwrap_or one place) same

-- ---- the boot sector is written

module _ (staged : Image) (span : Span) (bytes : List ℕ) where
  abbrev boot-place : DiskSector
  boot-place = record { disk = span.disk; sector = span.start }

  abbrev with-boot : Image
  with-boot = past.with_sector staged span.disk span.start bytes

  pub else-same : (place : DiskSector) → place ≢ boot-place → bytes_at with-boot place ≡ bytes_at staged place
  else-same place other = by (span.disk == place.disk) (span.start == place.sector) refl refl
    where
      by : (a b : Bool) → (span.disk == place.disk) ≡ a → (span.start == place.sector) ≡ b → (if a && b then bytes else staged place.disk place.sector) ≡ staged place.disk place.sector
      by false b e1 e2 = refl
      by true false e1 e2 = refl
      by true true e1 e2 = absurd (other (sym (same-place boot-place place e1 e2)))

  boot-same : with-boot span.disk span.start ≡ bytes
  boot-same =
      let disk : (span.disk == span.disk) ≡ true = grind (arith, nat_tests) in
      let sector : (span.start == span.start) ≡ true = grind (arith, nat_tests) in
      rw (disk, sector) refl

  pub still-long : length bytes ≡ 512 → (place : DiskSector) → length (bytes_at staged place) ≡ 512 → length (bytes_at with-boot place) ≡ 512
  still-long long place was = by (span.disk == place.disk) (span.start == place.sector)
    where
      by : (a b : Bool) → length (if a && b then bytes else staged place.disk place.sector) ≡ 512
      by false b = was
      by true false = was
      by true true = long

  -- sectors that lie elsewhere lie there still
  at-same : (places : List DiskSector) (sectors : List (List ℕ)) → AllByRecursion (λ place. place ≢ boot-place) places → AreAt staged places sectors → AreAt with-boot places sectors
  at-same places [] others lie = tt
  at-same [] (sector ∷ sectors) others lie = absurd lie
  at-same (place ∷ places) (sector ∷ sectors) others lie = (else-same place others.0 ∙ lie.0, at-same places sectors others.1 lie.1)

-- ---- what is mapped is left

module _ (before staged : Image) (machine : Machine) (volume : Volume) (span : Span) (chosen : ℕ → Bool) (bytes : List ℕ) (line_place : DiskSector)
    (sound : IsSound volume before) (free : AreFree volume before chosen) (keeps : KeepsRest volume before chosen staged)
    (apart : IsApartSector volume span.disk span.start) (own : IsChosenPlace volume chosen line_place)
    (table : part_of bytes 446 64 ≡ part_of (before span.disk span.start) 446 64) where
  abbrev boot : DiskSector
  boot = record { disk = span.disk; sector = span.start }

  abbrev image : Image
  image = past.with_sector staged span.disk span.start bytes

  data-zones : (zone : ℕ) → chosen zone ≡ true → Rattle.minix_change_laws.specs.Beside.IsDataZone volume.layout zone
  data-zones zone picked = (free zone picked).0

  -- a place in a chosen zone isn't the boot sector's
  pub own-other : (place : DiskSector) → IsChosenPlace volume chosen place → place ≢ boot
  own-other place is same = apart-not volume before sound chosen data-zones boot apart (subst (IsWritable volume before chosen) same (chosen-writable volume before sound chosen data-zones place is))

  pub all-other : (places : List DiskSector) → AllByRecursion (IsChosenPlace volume chosen) places → AllByRecursion (λ place. place ≢ boot) places
  all-other [] all = tt
  all-other (place ∷ places) all = (own-other place all.0, all-other places all.1)

  -- one that isn't written isn't the default line's
  not-line : (place : DiskSector) → (IsWritable volume before chosen place → ⊥) → Some place ≢ Some line_place
  not-line place kept same = kept (subst (IsWritable volume before chosen) (sym (same-some place line_place same)) (chosen-writable volume before sound chosen data-zones line_place own))

  none-other : None ≢ Some line_place
  none-other same = grind (arith, same)

  stays-left : (place : DiskSector) → Stays volume before chosen boot place → IsKept before image (Some place) × (Some place ≢ Some line_place)
  stays-left place s = (else-same staged span bytes place s.other ∙ keeps place s.kept, not-line place s.kept)

  all-left : (places : List (Option DiskSector)) → Each volume before (Stays volume before chosen boot) places → AllByRecursion (λ place. IsKept before image place × (place ≢ Some line_place)) places
  all-left [] all = tt
  all-left (None ∷ places) all = ((tt, none-other), all-left places all.1)
  all-left (Some place ∷ places) all = (stays-left place all.0, all-left places all.1)

  optional-left : (file : Option MappedFile) → EachOptional volume before (Stays volume before chosen boot) file → IsOptionalLeft before image line_place file
  optional-left None all = tt
  optional-left (Some file) all = all-left file.places all

  pub path-left : (path : Option (List ℕ)) → IsOptionalLeft before image line_place (optional_file volume (parts_of volume before) path)
  path-left path = optional-left (optional_file volume (parts_of volume before) path) (optional-stays volume before chosen boot sound free apart path)

  -- ---- devices

  abbrev IsApartDevice : Device → Type 0
  IsApartDevice device = is_apart_device before machine volume device ≡ true

  device-left : (path : List ℕ) (device : Device) (after : List (Option DiskSector)) → IsApartDevice device → system_check before span path (first_sector before machine device ∷ after) ≡ Ok tt
      → IsKept before image (first_sector before machine device) × (first_sector before machine device ≢ Some line_place)
  device-left path device after is check = by (span_of before machine device) is check
    where
      by : (found : Result Span TableFault) → is_apart_place volume found ≡ true
          → system_check before span path (option_map first-of (result_ok found) ∷ after) ≡ Ok tt
          → IsKept before image (option_map first-of (result_ok found)) × (option_map first-of (result_ok found) ≢ Some line_place)
      by (Err fault) is check = (tt, none-other)
      by (Ok found) is check =
          let place : DiskSector = record { disk = found.disk; sector = found.start } in
          let both = both-pass (require (not ((place.disk == span.disk) && (place.sector == span.start))) (OtherIsBoot path)) (λ a. require (is_bootable (bytes_at before place)) (NoSignature path)) tt check in
          let test = required (not ((place.disk == span.disk) && (place.sector == span.start))) (OtherIsBoot path) both.1 in
          stays-left place
          (record {
            kept = apart-not volume before sound chosen data-zones place (device-apart volume before sound found is);
            other = λ same. not-both place.disk span.disk place.sector span.start test (ap (λ (p : DiskSector). p.disk) same) (ap (λ (p : DiskSector). p.sector) same);
          })

  -- the table of a device's first sector is kept, also where the boot sector lies there
  table-at : (place : DiskSector) → (IsWritable volume before chosen place → ⊥) → part_of (bytes_at image place) 446 64 ≡ part_of (bytes_at before place) 446 64
  table-at place kept = by (span.disk == place.disk) (span.start == place.sector) refl refl
    where
      by : (a b : Bool) → (span.disk == place.disk) ≡ a → (span.start == place.sector) ≡ b
          → part_of (if a && b then bytes else staged place.disk place.sector) 446 64 ≡ part_of (bytes_at before place) 446 64
      by false b e1 e2 = ap (λ sector. part_of sector 446 64) (keeps place kept)
      by true false e1 e2 = ap (λ sector. part_of sector 446 64) (keeps place kept)
      by true true e1 e2 = table ∙ ap (λ (p : DiskSector). part_of (bytes_at before p) 446 64) (same-place boot place e1 e2)

  table-left : (device : Device) → IsApartDevice device → IsTableKept before image (first_sector before machine device) × (first_sector before machine device ≢ Some line_place)
  table-left device is = by (span_of before machine device) is
    where
      by : (found : Result Span TableFault) → is_apart_place volume found ≡ true
          → IsTableKept before image (option_map first-of (result_ok found)) × (option_map first-of (result_ok found) ≢ Some line_place)
      by (Err fault) is = (tt, none-other)
      by (Ok found) is =
          let place : DiskSector = record { disk = found.disk; sector = found.start } in
          let kept : IsWritable volume before chosen place → ⊥ = apart-not volume before sound chosen data-zones place (device-apart volume before sound found is) in
          (table-at place kept, not-line place kept)

  system-left : (path : List ℕ) (device : Device) (other : Option Device) → IsApartDevice device → IfSome other IsApartDevice
      → system_check before span path (system_places before machine device other) ≡ Ok tt
      → IsSystemLeft before image line_place (system_places before machine device other)
  system-left path device None is also check = (device-left path device [] is check, tt)
  system-left path device (Some other) is also check = (device-left path device (first_sector before machine other ∷ []) is check, (table-left other also, tt))

  -- ---- sections

  abbrev AreChecked : List MappedSection → Type 0
  AreChecked sections = AllByRecursion (λ mapped. mapped_check before volume span mapped ≡ Ok tt) sections

  abbrev AreLeft : List MappedSection → Type 0
  AreLeft sections = AllByRecursion (λ (mapped : MappedSection). IsSectionLeft before image line_place mapped mapped.section.other) sections

  kernel-left : (section : ConfSection) (rest : List MappedSection) (inode : Option ℕ) → section.other ≡ None → file_inode volume (parts_of volume before) section.path ≡ inode
      → AreChecked (kernel_section volume (parts_of volume before) section inode ++ rest) → (AreChecked rest → AreLeft rest) → AreLeft (kernel_section volume (parts_of volume before) section inode ++ rest)
  kernel-left section rest None none is checks after = after checks
  kernel-left section rest (Some number) none is checks after =
      let named = inode-named volume before sound section.path number is in
      let main = mapped_inode volume (parts_of volume before) number in
      let mapped : MappedSection = record { section = section; main = main; initrd = optional_file volume (parts_of volume before) section.initrd } in
      let left : IsSectionLeft before image line_place mapped None = (all-left main.places (file-stays volume before chosen boot sound free apart number named.0 named.1), path-left section.initrd) in
      (subst (IsSectionLeft before image line_place mapped) (sym none) left, after checks.1)

  section-left : (section : ConfSection) (rest : List MappedSection) → IfSome section.other IsApartDevice → IfSome section.table IsApartDevice
      → AreChecked (mapped_section before machine volume section ++ rest) → (AreChecked rest → AreLeft rest) → AreLeft (mapped_section before machine volume section ++ rest)
  unfolding mapped_section
  section-left section rest one two checks after = by section.other refl one checks
    where
      by : (other : Option Device) → section.other ≡ other → IfSome other IsApartDevice → AreChecked (mapped_by before machine volume section other ++ rest)
          → AreLeft (mapped_by before machine volume section other ++ rest)
      by None none apart checks = kernel-left section rest (file_inode volume (parts_of volume before) section.path) none refl checks after
      by (Some device) is apart checks =
          let places = system_places before machine device section.table in
          let mapped : MappedSection = record { section = section; main = record { size = Rattle.lilo_model.specs.Planned.system_size section.table; places = places }; initrd = None } in
          let check : system_check before span section.path places ≡ Ok tt =
          subst (λ other. (if is_some other then system_check before span section.path places else kernel_check (names_in volume before) section) ≡ Ok tt) is checks.0 in
          (subst (IsSectionLeft before image line_place mapped) (sym is) (system-left section.path device section.table apart two check), after checks.1)

  pub sections-left : (sections : List ConfSection) → AllByRecursion (λ (section : ConfSection). IfSome section.other IsApartDevice) sections
      → AllByRecursion (λ (section : ConfSection). IfSome section.table IsApartDevice) sections
      → AreChecked (flat_map (mapped_section before machine volume) sections) → AreLeft (flat_map (mapped_section before machine volume) sections)
  sections-left [] others tables checks = tt
  sections-left (section ∷ sections) others tables checks =
      section-left section (flat_map (mapped_section before machine volume) sections) others.0 tables.0 checks (λ rest. sections-left sections others.1 tables.1 rest)

-- ---- the whole

-- what is mapped was checked
sections-checked : (before : Image) (machine : Machine) (volume : Volume) (span : Span) (config : Config) (time : ℕ)
    → plan_at before machine volume span config time ≡ Ok (planned before machine volume config time)
    → AllByRecursion (λ mapped. mapped_check before volume span mapped ≡ Ok tt) (planned before machine volume config time).sections
unfolding plan_at held_checks
sections-checked before machine volume span config time is =
    let plan = planned before machine volume config time in
    let files = both-pass (file_checks before machine volume plan) (λ a. held_checks before machine volume span plan >>= λ b. address_checks machine plan >>= λ c. Ok plan) plan is in
    let helds = both-pass (held_checks before machine volume span plan) (λ b. address_checks machine plan >>= λ c. Ok plan) plan files.2 in
    let disks = both-pass (each_passes (disk_check machine) plan.config.disks) (λ a. if_there message_check plan.message >>= λ b. each_passes (mapped_check before volume span) plan.sections) tt helds.1 in
    let short = both-pass (if_there message_check plan.message) (λ b. each_passes (mapped_check before volume span) plan.sections) tt disks.2 in
    all-pass (mapped_check before volume span) plan.sections short.2

pub staged_written_law : StagedWrittenLaw
unfolding planned plan_sectors
staged_written_law before staged machine volume span config device time chosen places bytes sound apart outside a s new =
    let long : length bytes ≡ 512 = ap length new.is ∙ boot-long before machine volume config time (all_places places) (before span.disk span.start) new.long in
    let table : part_of bytes 446 64 ≡ part_of (before span.disk span.start) 446 64 =
    ap (λ sector. part_of sector 446 64) new.is ∙ table-kept before machine volume config time (all_places places) (before span.disk span.start) new.long in
    let others = all-other before staged machine volume span chosen bytes places.line sound s.free s.keeps outside s.own.0 table (all_places places) s.own in (
      record {
        whole = λ place inside. still-long staged span bytes long place (s.whole place inside);
        present_long = new.long;
        boot = boot-same staged span bytes ∙ new.is;
        line_is = ap line_at (else-same staged span bytes places.line others.0 ∙ s.lies.0) ∙ line_again Empty tt;
        lies = at-same staged span bytes (after_line places) (drop 1 (plan_sectors (planned before machine volume config time) machine (all_places places))) others.1 s.lies.1;
        apart = s.apart;
        message = path-left before staged machine volume span chosen bytes places.line sound s.free s.keeps outside s.own.0 table config.message;
        sections =
            sections-left before staged machine volume span chosen bytes places.line sound s.free s.keeps outside s.own.0 table config.sections
            (others-apart before machine volume config device apart) (tables-apart before machine volume config device apart)
            (sections-checked before machine volume span config time a.plan);
      },
      others.0,
    )

pub staged_means_law : StagedMeansLaw
staged_means_law before staged machine volume span config device time chosen places bytes sound apart outside a s new =
    let both = staged_written_law before staged machine volume span config device time chosen places bytes sound apart outside a s new in
    accepted_means_law before (past.with_sector staged span.disk span.start bytes) machine volume span config time places (before span.disk span.start) sound a both.0 both.1
