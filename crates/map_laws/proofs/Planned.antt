-- What is planned boots as is meant.
use Rattle.std.proofs.Common.{◌≡◌, ◌≢◌, ◌≤◌, ◌<◌, ℕ, List, [], ◌∷◌, length, take, drop, Option, None, Some, refl, sym, subst, arith}
use Rattle.std.specs.Prelude.{IfSome, flat_map}
use Rattle.std.proofs.lemmas.List.{length-take, length-take-le, length-drop}
use Rattle.lilo_model.specs.Bytes.{part_of}
use Rattle.lilo_model.specs.Disks.{Image, Machine, Span}
use Rattle.lilo_model.specs.Devices.{Device}
use Rattle.lilo_model.specs.Conf.{Config}
use Rattle.lilo_model.specs.DefaultLine.{DefaultLine}
use Rattle.lilo_model.specs.ConfLawful.{names_of_section}
use Rattle.lilo_model.specs.MinixParts.{Volume}
use Rattle.lilo_model.specs.MinixNames.{names_in, IsSound}
use Rattle.lilo_model.specs.Meant.{menu_of, meant}
use Rattle.lilo_model.specs.Plan.{MappedSection, plan_names}
use Rattle.lilo_model.specs.Planned.{code_in, planned}
use Rattle.map_laws.specs.Lies.{MapPlaces, TargetsLie, MapLies}
use Rattle.map_laws.specs.PlannedLies.{targets_for, PlannedLies, PlannedLaw}
use Rattle.map_laws.proofs.Whole.{map_law}
use Rattle.map_laws.proofs.MeantMenu.{menu-entries, menu-settings}
use Rattle.map_laws.proofs.Lawful.{targets-lie, sections-lawful, planned-names, few-names, default-below}

tenths-below : (timeout : Option ℕ) → IfSome timeout (λ tenths. tenths ≤ 65534) → IfSome timeout (λ tenths. tenths < 0xFFFF)
tenths-below None is = tt
tenths-below (Some tenths) is = omega (arith, is)

-- a section that is left has a name
some-name : (sections : List MappedSection) → sections ≢ [] → 1 ≤ length (flat_map (λ (mapped : MappedSection). names_of_section mapped.section) sections)
unfolding names_of_section
some-name [] left = absurd (left refl)
some-name (mapped ∷ sections) left = omega arith

take-most : (n : ℕ) (bytes : List ℕ) → length (take n bytes) ≤ n
take-most n bytes = subst (λ long. long ≤ n) (sym (length-take n bytes)) (grind arith)

part-long : (sector : List ℕ) → length sector ≡ 512 → length (part_of sector 440 70) ≡ 70
part-long sector long = length-take-le 70 (drop 440 sector) (let dropped = length-drop 440 sector in omega (arith, long, dropped))

code-long : (before : Image) (machine : Machine) (volume : Volume) (config : Config) (time : ℕ) → length (planned before machine volume config time).code ≤ 512
unfolding planned code_in
code-long before machine volume config time = take-most 512 _

-- it lies as a map whose menu is the configuration's
pub map-lies : (before image : Image) (machine : Machine) (volume : Volume) (span : Span) (config : Config) (time : ℕ) (devices : Device → List ℕ) (line : DefaultLine) (places : MapPlaces) (present : List ℕ)
    → IsSound volume before → PlannedLies before image machine volume span config time devices line places present
    → MapLies image machine span (planned before machine volume config time) (menu_of config (names_in volume before) devices) (targets_for (names_in volume before) devices config.sections) line places present
unfolding menu_of planned plan_names
map-lies before image machine volume span config time devices line places present sound s =
    let targets = targets_for (names_in volume before) devices config.sections in
    let lie : TargetsLie image machine config places.line places.zero_place (planned before machine volume config time).sections targets = targets-lie image machine config places.line places.zero_place (planned before machine volume config time).sections targets (sections-lawful before machine volume config time s.lawful) s.files in
    let some : 1 ≤ length (plan_names (planned before machine volume config time)) = some-name (planned before machine volume config time).sections s.left in
    record {
      boot = s.boot;
      present_long = let long = s.present_long in part-long present long;
      code_long = code-long before machine volume config time;
      line_is = s.line_is;
      lies = s.lies;
      named = s.named;
      apart = s.apart;
      time = s.time_fits;
      delay = let most = s.lawful.delay in omega (arith, most);
      timeout = tenths-below config.timeout s.lawful.timeout;
      names = planned-names before machine volume config time s.lawful;
      some_name = some;
      few_names = few-names before machine volume config time s.lawful;
      default = default-below config.default_name (plan_names (planned before machine volume config time)) some;
      message_few = s.message_few;
      message = s.message;
      targets_lie = lie;
      entries = menu-entries before machine volume sound config time devices;
      prompt_is = menu-settings before image machine volume sound config time devices places.line places.zero_place lie;
    }

pub planned_law : PlannedLaw
unfolding meant
planned_law before image machine volume span config time devices line places present keys memory sound s =
    map_law image machine span (planned before machine volume config time) (menu_of config (names_in volume before) devices) (targets_for (names_in volume before) devices config.sections) line places present keys memory
    (map-lies before image machine volume span config time devices line places present sound s)
