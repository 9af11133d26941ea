-- A planned map lies where its sectors stay.
use Rattle.std.proofs.Common.{ℕ, List, [], ◌∷◌, ◌++◌, take, length, drop, ap, ◌∙◌, Option, None, Some}
use Rattle.std.specs.Prelude.{unwrap_or}
use Rattle.std.specs.List.{concat}
use Rattle.lilo_model.specs.Disks.{Image, Machine, DiskSector}
use Rattle.lilo_model.specs.Conf.{Config}
use Rattle.boot_laws.proofs.Same.{Same, same-from_all, same-front, same-back, same-bytes}
use Rattle.lilo_model.specs.Meant.{Target, Kernel, System}
use Rattle.lilo_model.specs.Plan.{MappedFile, MappedSection, Plan, filled_places}
use Rattle.lilo_model.specs.Lays.{AreAt}
use Rattle.map_laws.specs.Lies.{after_line, all_places, FileLies, OptionalLies, TargetLies, TargetsLie}
use Rattle.map_laws.specs.MapStays.{file_sectors_of, section_places, fixed_places, MapStaysLaw}

module _ (image c : Image) (machine : Machine) (config : Config) (line_place zero_place : DiskSector) where
  lie-same : (places : List DiskSector) (sectors : List (List ℕ)) → Same image c places → AreAt image places sectors → AreAt c places sectors
  lie-same places [] same lie = tt
  lie-same [] (bytes ∷ sectors) same lie = absurd lie
  lie-same (place ∷ places) (bytes ∷ sectors) same lie = (same.0 ∙ lie.0, lie-same places sectors same.1 lie.1)

  file-same : (file : MappedFile) (bytes : List ℕ) → Same image c (filled_places zero_place file.places) → FileLies image machine config line_place zero_place file bytes → FileLies c machine config line_place zero_place file bytes
  file-same file bytes same s = record {
    size = s.size;
    some = s.some;
    few = s.few;
    slots = s.slots;
    count = s.count;
    named = s.named;
    apart = s.apart;
    lies = ap (λ sectors. take (length bytes) (concat sectors)) (same-bytes image c (filled_places zero_place file.places) same) ∙ s.lies;
  }

  optional-same : (file : Option MappedFile) (bytes : Option (List ℕ)) → Same image c (file_sectors_of zero_place file) → OptionalLies image machine config line_place zero_place file bytes → OptionalLies c machine config line_place zero_place file bytes
  optional-same None None same s = tt
  optional-same None (Some bytes) same s = absurd s
  optional-same (Some file) None same s = absurd s
  optional-same (Some file) (Some bytes) same s = file-same file bytes same s

  target-same : (mapped : MappedSection) (target : Target) → Same image c (section_places zero_place mapped) → TargetLies image machine config line_place zero_place mapped target → TargetLies c machine config line_place zero_place mapped target
  target-same mapped (Kernel bytes initrd middle video) same s =
      let main = filled_places zero_place mapped.main.places in
      let ramdisk = file_sectors_of zero_place mapped.initrd in
      (s.0, s.1, s.2, file-same mapped.main bytes (same-front image c main ramdisk same) s.3, optional-same mapped.initrd initrd (same-back image c main ramdisk same) s.4)
  target-same mapped (System sector table) same s =
      let main = filled_places zero_place mapped.main.places in
      (s.0, s.1, s.2, record { bytes = s.3.bytes; lies = file-same mapped.main s.3.bytes (same-front image c main (file_sectors_of zero_place mapped.initrd) same) s.3.lies; long = s.3.long; prefix = s.3.prefix; suffix = s.3.suffix })

  targets-same : (sections : List MappedSection) (targets : List Target) → Same image c (Rattle.std.specs.Prelude.flat_map (section_places zero_place) sections) → TargetsLie image machine config line_place zero_place sections targets → TargetsLie c machine config line_place zero_place sections targets
  targets-same [] [] same s = tt
  targets-same [] (target ∷ targets) same s = absurd s
  targets-same (mapped ∷ sections) [] same s = absurd s
  targets-same (mapped ∷ sections) (target ∷ targets) same s =
      let here = section_places zero_place mapped in
      let others = Rattle.std.specs.Prelude.flat_map (section_places zero_place) sections in
      (s.0, target-same mapped target (same-front image c here others same) s.1, targets-same sections targets (same-back image c here others same) s.2)

pub map_stays_law : MapStaysLaw
map_stays_law image c machine span plan menu targets line other places present s all is =
    let after = after_line places in
    let files = file_sectors_of places.zero_place plan.message ++ Rattle.std.specs.Prelude.flat_map (section_places places.zero_place) plan.sections in
    let same = same-from_all image c (fixed_places span plan places) all in
    let same_files = same-back image c after files same.1 in
    record {
      boot = same.0 ∙ s.boot;
      present_long = s.present_long;
      code_long = s.code_long;
      line_is = is;
      lies = lie-same image c machine plan.config places.line places.zero_place after (drop 1 (Rattle.lilo_model.specs.Plan.plan_sectors plan machine (all_places places))) (same-front image c after files same.1) s.lies;
      named = s.named;
      apart = s.apart;
      time = s.time;
      delay = s.delay;
      timeout = s.timeout;
      names = s.names;
      some_name = s.some_name;
      few_names = s.few_names;
      default = s.default;
      message_few = s.message_few;
      message = optional-same image c machine plan.config places.line places.zero_place plan.message menu.message (same-front image c (file_sectors_of places.zero_place plan.message) (Rattle.std.specs.Prelude.flat_map (section_places places.zero_place) plan.sections) same_files) s.message;
      targets_lie = targets-same image c machine plan.config places.line places.zero_place plan.sections targets (same-back image c (file_sectors_of places.zero_place plan.message) (Rattle.std.specs.Prelude.flat_map (section_places places.zero_place) plan.sections) same_files) s.targets_lie;
      entries = s.entries;
      prompt_is = s.prompt_is;
    }
