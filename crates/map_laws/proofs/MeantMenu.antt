-- The menu of a configuration is that of what is mapped for it.
use Rattle.std.proofs.Common.{◌≡◌, ℕ, List, [], ◌∷◌, ◌++◌, map, Option, None, Some, refl, sym, ap, ◌∙◌}
use Rattle.std.specs.Prelude.{option_map, flat_map}
use Rattle.lilo_model.specs.Disks.{Image, Machine, DiskSector}
use Rattle.lilo_model.specs.Devices.{Device}
use Rattle.lilo_model.specs.Conf.{Config, ConfSection}
use Rattle.lilo_model.specs.MinixParts.{Volume, parts_of}
use Rattle.lilo_model.specs.MinixNames.{content, names_in, IsSound}
use Rattle.lilo_model.specs.MinixFindNames.{Names}
use Rattle.lilo_model.specs.Meant.{Target, MenuEntry, menu_entry, menu_entries, target_of, target_by, kernel_target, entries_by, menu_of, default_place}
use Rattle.lilo_model.specs.ConfLawful.{names_of_section}
use Rattle.lilo_model.specs.Plan.{MappedSection, plan_names}
use Rattle.lilo_model.specs.Planned.{file_inode, mapped_section, mapped_by, kernel_section, planned}
use Rattle.std.proofs.lemmas.List.{map-append}
use Rattle.map_laws.specs.PlannedLies.{some_target, targets_for}
use Rattle.map_laws.specs.Lies.{entries_for, TargetsLie}
use Rattle.map_laws.proofs.MeantFiles.{file-both}

module _ (image : Image) (machine : Machine) (volume : Volume) (sound : IsSound volume image) (devices : Device → List ℕ) where
  abbrev names : Names
  names = names_in volume image

  section-entries : (section : ConfSection) (sections : List MappedSection) (targets : List Target)
      → entries_for (mapped_section image machine volume section ++ sections) (some_target (target_of section names devices) ++ targets)
      ≡ entries_by section (target_of section names devices) ++ entries_for sections targets
  unfolding mapped_section target_of
  section-entries section sections targets = by-other section.other
    where
      by-file : (inode : Option ℕ) → entries_for (kernel_section volume (parts_of volume image) section inode ++ sections) (some_target (kernel_target section names (option_map (content volume.layout (parts_of volume image)) inode)) ++ targets)
          ≡ entries_by section (kernel_target section names (option_map (content volume.layout (parts_of volume image)) inode)) ++ entries_for sections targets
      by-file None = refl
      by-file (Some number) = refl

      by-other : (other : Option Device) → entries_for (mapped_by image machine volume section other ++ sections) (some_target (target_by section names devices other) ++ targets)
          ≡ entries_by section (target_by section names devices other) ++ entries_for sections targets
      by-other (Some device) = refl
      by-other None = rw (file-both volume image sound section.path) (by-file (file_inode volume (parts_of volume image) section.path))

  pub entries-are : (sections : List ConfSection)
      → entries_for (flat_map (mapped_section image machine volume) sections) (targets_for names devices sections) ≡ flat_map (λ section. entries_by section (target_of section names devices)) sections
  entries-are [] = refl
  entries-are (section ∷ sections) =
      section-entries section (flat_map (mapped_section image machine volume) sections) (targets_for names devices sections)
      ∙ ap (λ others. entries_by section (target_of section names devices) ++ others) (entries-are sections)

-- the names of the entries are those of the sections
names-of-menu : (image : Image) (machine : Machine) (config : Config) (line_place zero_place : DiskSector) (sections : List MappedSection) (targets : List Target) → TargetsLie image machine config line_place zero_place sections targets
    → map (λ (entry : MenuEntry). entry.listed.name) (entries_for sections targets) ≡ flat_map (λ (mapped : MappedSection). names_of_section mapped.section) sections
names-of-menu image machine config line_place zero_place [] [] lies = refl
names-of-menu image machine config line_place zero_place [] (target ∷ targets) lies = absurd lies
names-of-menu image machine config line_place zero_place (mapped ∷ sections) [] lies = absurd lies
names-of-menu image machine config line_place zero_place (mapped ∷ sections) (target ∷ targets) lies =
    map-append (λ (entry : MenuEntry). entry.listed.name) (map (menu_entry mapped.section target) (names_of_section mapped.section)) (entries_for sections targets)
    ∙ ap (λ names. names ++ map (λ (entry : MenuEntry). entry.listed.name) (entries_for sections targets)) (own (names_of_section mapped.section))
    ∙ ap (λ others. names_of_section mapped.section ++ others) (names-of-menu image machine config line_place zero_place sections targets lies.2)
  where
    own : (names : List (List ℕ)) → map (λ (entry : MenuEntry). entry.listed.name) (map (menu_entry mapped.section target) names) ≡ names
    own [] = refl
    own (name ∷ names) = ap (λ names. name ∷ names) (own names)

-- the menu's entries and settings are those of what is planned, whatever image the map is to lie on
pub menu-entries : (image : Image) (machine : Machine) (volume : Volume) (sound : IsSound volume image) (config : Config) (time : ℕ) (devices : Device → List ℕ)
    → (menu_of config (names_in volume image) devices).entries ≡ entries_for (planned image machine volume config time).sections (targets_for (names_in volume image) devices config.sections)
unfolding menu_of menu_entries planned
menu-entries image machine volume sound config time devices = sym (entries-are image machine volume sound devices config.sections)

pub menu-settings : (image c : Image) (machine : Machine) (volume : Volume) (sound : IsSound volume image) (config : Config) (time : ℕ) (devices : Device → List ℕ) (line_place zero_place : DiskSector)
    → TargetsLie c machine config line_place zero_place (planned image machine volume config time).sections (targets_for (names_in volume image) devices config.sections)
    → (menu_of config (names_in volume image) devices).settings ≡ record { prompt = config.prompt; delay = config.delay; timeout = config.timeout; default_entry = default_place config.default_name (plan_names (planned image machine volume config time)); capacity = 255 }
unfolding menu_of plan_names planned menu_entries
menu-settings image c machine volume sound config time devices line_place zero_place lies =
    ap (λ names. record { prompt = config.prompt; delay = config.delay; timeout = config.timeout; default_entry = default_place config.default_name names; capacity = 255 })
    (ap (map (λ (entry : MenuEntry). entry.listed.name)) (sym (entries-are image machine volume sound devices config.sections))
    ∙ names-of-menu c machine config line_place zero_place (flat_map (mapped_section image machine volume) config.sections) (targets_for (names_in volume image) devices config.sections) lies)
