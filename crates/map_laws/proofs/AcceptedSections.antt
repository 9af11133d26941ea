-- What is accepted of each section lies where it is mapped from.
use Rattle.std.proofs.Common.{◌≡◌, ◌≢◌, ◌≤◌, ◌<◌, ℕ, ◌+◌, ◌^◌, Bool, true, false, if◌then◌else◌, List, [], ◌∷◌, ◌++◌, length, Option, None, Some, Ok, refl, sym, ap, subst, ◌∙◌, arith, append-nil, length-append}
use Rattle.std.specs.Prelude.{IfSome, is_some, option_map, unwrap_or, flat_map}
use Rattle.std.specs.List.{AllByRecursion}
use Rattle.std.specs.Result.{result_ok}
use Rattle.std.proofs.Math.Seq.{take-length}
use Rattle.lilo_model.specs.Bytes.{part_of}
use Rattle.lilo_model.specs.Checks.{with_fault}
use Rattle.lilo_model.specs.Devices.{Device, IsDevice}
use Rattle.lilo_model.specs.Disks.{Image, Machine, Span, DiskSector, bytes_at}
use Rattle.lilo_model.specs.Partitions.{span_of}
use Rattle.lilo_model.specs.Slots.{Slot, could_be_one}
use Rattle.lilo_model.specs.ConfOptions as options
use Rattle.lilo_model.specs.Conf.{Config, ConfSection}
use Rattle.lilo_model.specs.ConfLawful as lawful
use Rattle.lilo_model.specs.ConfLawful.{IsOfKind, names_of_section}
use Rattle.lilo_model.specs.Options.{text_limit}
use Rattle.lilo_model.specs.Place.{command_line, kernel_fit}
use Rattle.lilo_model.specs.MinixParts.{Volume, parts_of}
use Rattle.lilo_model.specs.MinixNames.{content, names_in, IsSound}
use Rattle.lilo_model.specs.Meant.{Target, Kernel, file_of, filled_file, middle_text, kernel_target, target_by, target_of}
use Rattle.lilo_model.specs.Plan.{MappedFile, MappedSection, slot_to, slots_for, slots_after}
use Rattle.lilo_model.specs.Planned.{first_sector, devices_in, mapped_inode, file_inode, optional_file, system_places, system_size, kernel_section, mapped_by, mapped_section}
use Rattle.lilo_model.specs.PlanRefusal as plans
use Rattle.lilo_model.specs.PlanRefusal.{PlanFault, each_passes, if_there, device_check, section_check, system_check, name_check, kernel_check, mapped_check, place_check, mapped_file_check, system_places_check, main_address_check, mapped_address_check}
use Rattle.map_laws.specs.Lies.{FileLies, SystemLies, TargetLies}
use Rattle.map_laws.specs.PlannedLies.{some_target, targets_for, FilesLie}
use Rattle.map_laws.specs.Accepted.{AreSmall, IsInside, HasVolume, HasZeros, IsSystemLeft, IsSectionLeft}
use Rattle.map_again_laws.proofs.Parts.{part-after, part-prefix}
use Rattle.map_laws.proofs.MeantFiles.{file-both, inode-named, length-content}
use Rattle.map_laws.proofs.Accepted.{both-pass, told-ok, all-pass, place-named, accepted_file_law, optional-lies}
use Rattle.map_laws.proofs.AcceptedKernels.{kernel-accepted}

module _ (before image : Image) (machine : Machine) (volume : Volume) (span : Span) (config : Config) (line_place zero_place : DiskSector) (sound : IsSound volume before) (has : HasVolume machine volume) (z : HasZeros image machine config line_place zero_place)
    (devices : (device : Device) (found : Span) → IsDevice device → span_of before machine device ≡ Ok found → IsInside machine (record { disk = found.disk; sector = found.start }))
    (whole : (place : DiskSector) → IsInside machine place → length (bytes_at image place) ≡ 512) where
  -- what was checked of a section that is mapped, and what was left of it
  pub record Ready (mapped : MappedSection) : Type 0 where
    address : mapped_address_check config machine mapped ≡ Ok tt
    held : mapped_check before volume span mapped ≡ Ok tt
    left : IsSectionLeft before image line_place mapped mapped.section.other
    small : AreSmall mapped

  abbrev AreReady : List MappedSection → Type 0
  AreReady sections = AllByRecursion Ready sections

  -- ---- a kernel

  kernel-lies : (section : ConfSection) (number : ℕ) → section.other ≡ None → file_inode volume (parts_of volume before) section.path ≡ Some number
      → Ready (record { section = section; main = mapped_inode volume (parts_of volume before) number; initrd = optional_file volume (parts_of volume before) section.initrd })
      → (length (middle_text section) ≤ text_limit)
      × TargetLies image machine config line_place zero_place (record { section = section; main = mapped_inode volume (parts_of volume before) number; initrd = optional_file volume (parts_of volume before) section.initrd })
      (Kernel (content volume.layout (parts_of volume before) number) (filled_file (names_in volume before) section.initrd) (middle_text section) section.vga)
  unfolding names_of_section mapped_inode
  kernel-lies section number is inode ready =
      let parts = parts_of volume before in
      let main = mapped_inode volume parts number in
      let initrd = optional_file volume parts section.initrd in
      let bytes = content volume.layout parts number in
      let named = inode-named volume before sound section.path number inode in
      let address = both-pass (main_address_check config machine (record { section = section; main = main; initrd = initrd })) (λ a. if_there (mapped_file_check config machine options.Initrd) initrd) tt ready.address in
      let main_is : mapped_file_check config machine options.Image main ≡ Ok tt = subst (λ other. (if is_some other then system_places_check config machine main.places else mapped_file_check config machine options.Image main) ≡ Ok tt) is address.1 in
      let held : kernel_check (names_in volume before) section ≡ Ok tt = subst (λ other. (if is_some other then system_check before span section.path main.places else kernel_check (names_in volume before) section) ≡ Ok tt) is ready.held in
      let there : file_of (names_in volume before) section.path ≡ Some bytes = file-both volume before sound section.path ∙ ap (option_map (content volume.layout parts)) inode in
      let first = (all-pass (name_check section (unwrap_or (file_of (names_in volume before) section.path) []) (filled_file (names_in volume before) section.initrd)) (names_of_section section) held).0 in
      let fits = told-ok (plans.Header section.path) (kernel_fit (unwrap_or (file_of (names_in volume before) section.path) []) (filled_file (names_in volume before) section.initrd) (command_line true section.label (middle_text section) [])) tt first in
      let kernel = kernel-accepted (unwrap_or (file_of (names_in volume before) section.path) []) (filled_file (names_in volume before) section.initrd) section.label (middle_text section) fits in
      let long : length (unwrap_or (file_of (names_in volume before) section.path) []) ≡ (parts.node number).size = ap (λ found. length (unwrap_or found [])) there ∙ length-content volume before sound number named.0 named.1 in
      let some : 512 ≤ (parts.node number).size = subst (λ n. 512 ≤ n) long kernel.0 in
      let left : IsSectionLeft before image line_place (record { section = section; main = main; initrd = initrd }) None = subst (IsSectionLeft before image line_place (record { section = section; main = main; initrd = initrd })) is ready.left in (
        kernel.1,
        (
          is,
          refl,
          refl,
          accepted_file_law before image machine volume config line_place zero_place options.Image number sound has z named.0 named.1 (omega (arith, some)) ready.small.0 main_is left.0,
          optional-lies before image machine volume config line_place zero_place options.Initrd sound has z section.initrd ready.small.1 address.2 left.1,
        ),
      )

  -- ---- another system

  -- a device that is accepted has a first sector
  found-sector : (device : Device) → IsDevice device → device_check before machine device ≡ Ok tt
      → (place : DiskSector) × (first_sector before machine device ≡ Some place) × IsInside machine place × (devices_in before machine device ≡ bytes_at before place)
  unfolding devices_in
  found-sector device named is =
      let both = both-pass (with_fault plans.Table (span_of before machine device)) (λ span. Ok tt) tt is in
      let found = told-ok plans.Table (span_of before machine device) both.0 both.1 in
      let first : first_sector before machine device ≡ Some (record { disk = both.0.disk; sector = both.0.start }) = ap (λ found. option_map (λ (span : Span). record { disk = span.disk; sector = span.start }) (result_ok found)) found in
      (record { disk = both.0.disk; sector = both.0.start }, first, devices device both.0 named found, ap (λ place. unwrap_or (option_map (bytes_at before) place) []) first)

  one-slot : (place : DiskSector) → slots_for config machine (record { size = 512; places = Some place ∷ [] }) ≤ 4128705
  unfolding slots_for
  one-slot place = by config.compact
    where
      by : (compact : Bool) → (if compact then slots_after machine None (Some (slot_to config.mode machine place) ∷ []) else 1) ≤ 4128705
      by true = omega arith
      by false = omega arith

  two-slots : (place other : DiskSector) → slots_for config machine (record { size = 1024; places = Some place ∷ (Some other ∷ []) }) ≤ 4128705
  unfolding slots_for
  two-slots place other = by config.compact
    where
      one : Slot
      one = slot_to config.mode machine place

      two : Slot
      two = slot_to config.mode machine other

      joined : (test : Bool) → 1 + (if test then slots_after machine (Some (record one { count = one.count + two.count })) [] else 1 + slots_after machine (Some two) []) ≤ 4128705
      joined true = omega arith
      joined false = omega arith

      by : (compact : Bool) → (if compact then slots_after machine None (Some (slot_to config.mode machine place) ∷ (Some (slot_to config.mode machine other) ∷ [])) else 2) ≤ 4128705
      by true = joined (could_be_one (machine.geometry_of (slot_to config.mode machine place).disk) (slot_to config.mode machine place) (slot_to config.mode machine other))
      by false = omega arith

  not-line : (place : DiskSector) → Some place ≢ Some line_place → line_place ≢ place
  not-line place other same = other (ap Some (sym same))

  one-long : (place : DiskSector) → IsInside machine place → length (bytes_at image place ++ []) ≡ 512
  one-long place inside = ap length (append-nil (bytes_at image place)) ∙ whole place inside

  one-lies : (place : DiskSector) → IsInside machine place → place_check config machine options.OtherDevice place ≡ Ok tt → Some place ≢ Some line_place
      → FileLies image machine config line_place zero_place (record { size = 512; places = Some place ∷ [] }) (bytes_at image place ++ [])
  one-lies place inside accepted other =
      let long = one-long place inside in
      record {
        size = sym long;
        some = omega (arith, long);
        few = omega (arith, long);
        slots = one-slot place;
        count = rw long refl;
        named = (place-named machine config has.geometries options.OtherDevice place inside accepted, tt);
        apart = (not-line place other, tt);
        lies = take-length (bytes_at image place ++ []);
      }

  two-long : (place table : DiskSector) → IsInside machine place → IsInside machine table → length (bytes_at image place ++ (bytes_at image table ++ [])) ≡ 1024
  two-long place table inside within =
      let first = whole place inside in
      let second = one-long table within in
      length-append (bytes_at image place) (bytes_at image table ++ []) ∙ omega (arith, first, second)

  two-lie : (place table : DiskSector) → IsInside machine place → IsInside machine table → place_check config machine options.OtherDevice place ≡ Ok tt → place_check config machine options.Table table ≡ Ok tt
      → Some place ≢ Some line_place → Some table ≢ Some line_place
      → FileLies image machine config line_place zero_place (record { size = 1024; places = Some place ∷ (Some table ∷ []) }) (bytes_at image place ++ (bytes_at image table ++ []))
  two-lie place table inside within accepted taken other another =
      let long = two-long place table inside within in
      record {
        size = sym long;
        some = omega (arith, long);
        few = omega (arith, long);
        slots = two-slots place table;
        count = rw long refl;
        named = (place-named machine config has.geometries options.OtherDevice place inside accepted, (place-named machine config has.geometries options.Table table within taken, tt));
        apart = (not-line place other, (not-line table another, tt));
        lies = take-length (bytes_at image place ++ (bytes_at image table ++ []));
      }

  system-lies : (device : Device) (table : Option Device) → IsDevice device → IfSome table IsDevice → device_check before machine device ≡ Ok tt → if_there (device_check before machine) table ≡ Ok tt
      → system_places_check config machine (system_places before machine device table) ≡ Ok tt → IsSystemLeft before image line_place (system_places before machine device table)
      → SystemLies image machine config line_place zero_place (record { size = system_size table; places = system_places before machine device table }) (devices_in before machine device) (option_map (devices_in before machine) table)
  system-lies device None named none is there accepted left =
      let found = found-sector device named is in
      let place = found.0 in
      let checks = both-pass (if_there (place_check config machine options.OtherDevice) (Some place)) (λ a. Ok tt) tt (subst (λ first. system_places_check config machine (first ∷ []) ≡ Ok tt) found.1 accepted) in
      let left : IsSystemLeft before image line_place (Some place ∷ []) = subst (λ first. IsSystemLeft before image line_place (first ∷ [])) found.1 left in
      subst (λ first. SystemLies image machine config line_place zero_place (record { size = 512; places = first ∷ [] }) (devices_in before machine device) None) (sym found.1)
      (record {
        bytes = bytes_at image place ++ [];
        lies = one-lies place found.2 checks.1 left.0.1;
        long = one-long place found.2;
        prefix = part-prefix (bytes_at image place) [] 512 (whole place found.2) ∙ left.0.0 ∙ sym found.3;
        suffix = tt;
      })
  system-lies device (Some other) named known is there accepted left =
      let found = found-sector device named is in
      let second = found-sector other known there in
      let place = found.0 in
      let table = second.0 in
      let accepted : system_places_check config machine (Some place ∷ (Some table ∷ [])) ≡ Ok tt = subst (λ last. system_places_check config machine (Some place ∷ (last ∷ [])) ≡ Ok tt) second.1 (subst (λ first. system_places_check config machine (first ∷ (first_sector before machine other ∷ [])) ≡ Ok tt) found.1 accepted) in
      let checks = both-pass (if_there (place_check config machine options.OtherDevice) (Some place)) (λ a. each_passes (if_there (place_check config machine options.Table)) (Some table ∷ [])) tt accepted in
      let last = all-pass (if_there (place_check config machine options.Table)) (Some table ∷ []) checks.2 in
      let left : IsSystemLeft before image line_place (Some place ∷ (Some table ∷ [])) = subst (λ last. IsSystemLeft before image line_place (Some place ∷ (last ∷ []))) second.1 (subst (λ first. IsSystemLeft before image line_place (first ∷ (first_sector before machine other ∷ []))) found.1 left) in
      let first_long = whole place found.2 in
      subst (λ first. SystemLies image machine config line_place zero_place (record { size = 1024; places = first ∷ (first_sector before machine other ∷ []) }) (devices_in before machine device) (Some (devices_in before machine other))) (sym found.1)
      (subst (λ last. SystemLies image machine config line_place zero_place (record { size = 1024; places = Some place ∷ (last ∷ []) }) (devices_in before machine device) (Some (devices_in before machine other))) (sym second.1)
      (record {
        bytes = bytes_at image place ++ (bytes_at image table ++ []);
        lies = two-lie place table found.2 second.2 checks.1 last.0 left.0.1 left.1.0.1;
        long = two-long place table found.2 second.2;
        prefix = part-prefix (bytes_at image place) (bytes_at image table ++ []) 512 first_long ∙ left.0.0 ∙ sym found.3;
        suffix =
            part-after (bytes_at image place) (bytes_at image table ++ []) 958 446 64 (omega (arith, first_long))
            ∙ ap (λ bytes. part_of bytes 446 64) (append-nil (bytes_at image table)) ∙ left.1.0.0 ∙ ap (λ bytes. part_of bytes 446 64) (sym second.3);
      }))

  -- ---- sections

  middle-none : (section : ConfSection) (device : Device) → IsOfKind section (Some device) → length (middle_text section) ≤ text_limit
  unfolding middle_text
  middle-none section device kind = rw (kind.literal, kind.mount, kind.root, kind.append) (omega arith)

  table-there : (table : Option Device) → is_some table ≡ is_some (option_map (devices_in before machine) table)
  table-there None = refl
  table-there (Some device) = refl

  section-files : (section : ConfSection) (rest : List MappedSection) (targets : List Target) → lawful.IsLawfulSection section → section_check before machine volume section section.other ≡ Ok tt
      → AreReady (mapped_section before machine volume section ++ rest) → (AreReady rest → FilesLie image machine config line_place zero_place rest targets)
      → FilesLie image machine config line_place zero_place (mapped_section before machine volume section ++ rest) (some_target (target_of section (names_in volume before) (devices_in before machine)) ++ targets)
  unfolding mapped_section target_of
  section-files section rest targets is check ready others = by-other section.other refl is.kind check ready
    where
      by-inode : section.other ≡ None → (inode : Option ℕ) → file_inode volume (parts_of volume before) section.path ≡ inode → AreReady (kernel_section volume (parts_of volume before) section inode ++ rest)
          → FilesLie image machine config line_place zero_place (kernel_section volume (parts_of volume before) section inode ++ rest) (some_target (kernel_target section (names_in volume before) (option_map (content volume.layout (parts_of volume before)) inode)) ++ targets)
      by-inode none None is ready = others ready
      by-inode none (Some number) is ready = let lies = kernel-lies section number none is ready.0 in (lies.0, lies.1, others ready.1)

      by-other : (other : Option Device) → section.other ≡ other → IsOfKind section other → section_check before machine volume section other ≡ Ok tt → AreReady (mapped_by before machine volume section other ++ rest)
          → FilesLie image machine config line_place zero_place (mapped_by before machine volume section other ++ rest) (some_target (target_by section (names_in volume before) (devices_in before machine) other) ++ targets)
      by-other None none kind check ready =
          subst (λ found. FilesLie image machine config line_place zero_place (kernel_section volume (parts_of volume before) section (file_inode volume (parts_of volume before) section.path) ++ rest) (some_target (kernel_target section (names_in volume before) found) ++ targets)) (sym (file-both volume before sound section.path))
          (by-inode none (file_inode volume (parts_of volume before) section.path) refl ready)
      by-other (Some device) one kind check ready =
          let places = system_places before machine device section.table in
          let main : MappedFile = record { size = system_size section.table; places = places } in
          let mapped : MappedSection = record { section = section; main = main; initrd = None } in
          let both = both-pass (device_check before machine device) (λ a. if_there (device_check before machine) section.table) tt check in
          let address = both-pass (main_address_check config machine mapped) (λ a. Ok tt) tt ready.0.address in
          let accepted : system_places_check config machine places ≡ Ok tt = subst (λ other. (if is_some other then system_places_check config machine places else mapped_file_check config machine options.Image main) ≡ Ok tt) one address.1 in
          let left : IsSectionLeft before image line_place mapped (Some device) = subst (IsSectionLeft before image line_place mapped) one ready.0.left in
          (middle-none section device kind, (ap is_some one, table-there section.table, refl, system-lies device section.table kind.named kind.table both.1 both.2 accepted left), others ready.1)

  pub files-lie : (sections : List ConfSection) → AllByRecursion lawful.IsLawfulSection sections → AllByRecursion (λ (section : ConfSection). section_check before machine volume section section.other ≡ Ok tt) sections
      → AreReady (flat_map (mapped_section before machine volume) sections)
      → FilesLie image machine config line_place zero_place (flat_map (mapped_section before machine volume) sections) (targets_for (names_in volume before) (devices_in before machine) sections)
  files-lie [] all checks ready = tt
  files-lie (section ∷ sections) all checks ready =
      section-files section (flat_map (mapped_section before machine volume) sections) (targets_for (names_in volume before) (devices_in before machine) sections) all.0 checks.0 ready
      (λ rest. files-lie sections all.1 checks.1 rest)

  pub all-ready : (sections : List MappedSection) → AllByRecursion (λ mapped. mapped_address_check config machine mapped ≡ Ok tt) sections → AllByRecursion (λ mapped. mapped_check before volume span mapped ≡ Ok tt) sections
      → AllByRecursion (λ (mapped : MappedSection). IsSectionLeft before image line_place mapped mapped.section.other) sections → AllByRecursion AreSmall sections → AreReady sections
  all-ready [] address held left small = tt
  all-ready (mapped ∷ sections) address held left small = (record { address = address.0; held = held.0; left = left.0; small = small.0 }, all-ready sections address.1 held.1 left.1 small.1)
