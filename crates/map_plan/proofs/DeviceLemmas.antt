-- What is planned of another system is what the model maps of it, and refuses.
use Rattle.std.proofs.Common.{◌≡◌, List, [], ◌∷◌, Option, Some, None, Result, Ok, Err, refl, sym, ap, subst, ◌∙◌}
use Rattle.std.specs.Option.{option_map}
use Rattle.std.specs.Result.{result_ok}
use Rattle.disk_trait.specs.Past.{Past, Told, now_of}
use Rattle.lilo_model.specs.Checks.{◌>>=◌, with_fault}
use Rattle.lilo_model.specs.Disks.{Image, Machine, Span, DiskSector}
use Rattle.lilo_model.specs.Devices.{Device}
use Rattle.lilo_model.specs.Partitions.{TableFault, span_of}
use Rattle.lilo_model.specs.Conf.{ConfSection}
use Rattle.lilo_model.specs.MinixParts.{Volume}
use Rattle.lilo_model.specs.Plan.{MappedSection}
use Rattle.lilo_model.specs.Planned.{system_size, system_places}
use Rattle.lilo_model.specs.PlanRefusal.{PlanFault, Table, device_check, if_there}
use Rattle.map_plan.specs.Devices.{device_planned, table_planned, places_with, system_planned, system_section, IsSystemPlan, SystemPlanLaw}
use Rattle.map_plan.specs.declared.fault.PlanFault as plans
use Rattle.map_plan.specs.Files.{passed}
use Rattle.map_plan.specs.View.{Refuses}
use Rattle.map_plan.proofs.SoundLemmas.{refused_first}

-- a device by its span
abbrev sector_of : Span → DiskSector
sector_of span = record { disk = span.disk; sector = span.start }

abbrev found : Result Span TableFault → Result DiskSector PlanFault
found span = with_fault Table span >>= λ span. Ok (sector_of span)

abbrev checked : Result Span TableFault → Result (Unit {0}) PlanFault
checked span = with_fault Table span >>= λ span. Ok tt

module _ (image : Image) (machine : Machine) where
  table-check : (table : Option Device) → if_there (device_check image machine) table ≡ passed (table_planned image machine table)
  table-check None = refl
  table-check (Some device) = by (span_of image machine device)
    where
      by : (span : Result Span TableFault) → checked span ≡ passed (found span >>= λ place. Ok (Some place))
      by (Ok span) = refl
      by (Err fault) = refl

  both-check : (first : Result Span TableFault) (rest : Result (Option DiskSector) PlanFault)
      → (checked first >>= λ a. passed rest) ≡ passed (found first >>= λ first. rest >>= λ table. Ok (places_with first table))
  both-check (Err fault) rest = refl
  both-check (Ok span) (Err fault) = refl
  both-check (Ok span) (Ok table) = refl

  module _ (section : ConfSection) (device : Device) where
    -- a section with these devices
    abbrev mapped_with : Option Device → List MappedSection
    mapped_with table =
        record { section = section; main = record { size = system_size table; places = system_places image machine device table }; initrd = None } ∷ []

    one-mapped : (first : Result Span TableFault) (places : List (Option DiskSector)) → (found first >>= λ first. Ok (places_with first None)) ≡ Ok places
        → option_map sector_of (result_ok first) ∷ [] ≡ places
    one-mapped (Ok span) places is = cc
    one-mapped (Err fault) places is = cc

    two-mapped : (first second : Result Span TableFault) (places : List (Option DiskSector))
        → (found first >>= λ first. (found second >>= λ place. Ok (Some place)) >>= λ table. Ok (places_with first table)) ≡ Ok places
        → option_map sector_of (result_ok first) ∷ (option_map sector_of (result_ok second) ∷ []) ≡ places
    two-mapped (Ok span) (Ok other) places is = cc
    two-mapped (Ok span) (Err fault) places is = cc
    two-mapped (Err fault) second places is = cc

    with-mapped : (table : Option Device) (places : List (Option DiskSector)) → system_planned image machine device table ≡ Ok places
        → mapped_with table ≡ system_section section places
    unfolding system_planned
    with-mapped None places is = ap (system_section section) (one-mapped (span_of image machine device) places is)
    with-mapped (Some other) places is =
        ap (system_section section) (two-mapped (span_of image machine device) (span_of image machine other) places is)

    system-plan : (volume : Volume) → IsSystemPlan image machine volume section device
    unfolding system_planned
    system-plan volume = record {
      check =
          ap (λ rest. device_check image machine device >>= λ a. rest) (table-check section.table)
          ∙ both-check (span_of image machine device) (table_planned image machine section.table);
      mapped = λ places is. with-mapped section.table places is;
    }

pub system_plan_law : SystemPlanLaw
system_plan_law image machine volume section device = system-plan image machine section device volume

-- ---- where the past is told

module _ (machine : Machine) (device : Device) (table : Option Device) where
  abbrev behind : Image → DiskSector → Result (List (Option DiskSector)) PlanFault
  behind image first = table_planned image machine table >>= λ table. Ok (places_with first table)

  pub first-refused : (past : Option Past) (fault : plans.PlanFault) → Told past (λ now. Refuses fault (device_planned now machine device))
      → Told past (λ now. Refuses fault (system_planned now machine device table))
  unfolding system_planned
  first-refused None fault refused = tt
  first-refused (Some past) fault refused = refused_first fault (device_planned (now_of past) machine device) (behind (now_of past)) refused

  pub table-refused : (past : Option Past) (fault : plans.PlanFault) (first : DiskSector) → Told past (λ now. device_planned now machine device ≡ Ok first)
      → Told past (λ now. Refuses fault (table_planned now machine table)) → Told past (λ now. Refuses fault (system_planned now machine device table))
  unfolding system_planned
  table-refused None fault first is refused = tt
  table-refused (Some past) fault first is refused =
      subst (Refuses fault) (ap (λ (found : Result DiskSector PlanFault). found >>= behind (now_of past)) (sym is))
      (refused_first fault (table_planned (now_of past) machine table) (λ table. Ok (places_with first table)) refused)

  pub system-found : (past : Option Past) (first : DiskSector) (second : Option DiskSector) → Told past (λ now. device_planned now machine device ≡ Ok first)
      → Told past (λ now. table_planned now machine table ≡ Ok second)
      → Told past (λ now. system_planned now machine device table ≡ Ok (places_with first second))
  unfolding system_planned
  system-found None first second is and = tt
  system-found (Some past) first second is and =
      ap (λ (found : Result DiskSector PlanFault). found >>= behind (now_of past)) is
      ∙ ap (λ (found : Result (Option DiskSector) PlanFault). found >>= λ table. Ok (places_with first table)) and
