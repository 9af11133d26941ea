-- A planned map boots as is meant with each other default line.
use Rattle.std.proofs.Common.{◌≡◌, ◌≢◌, ℕ, ◌==◌, true, List, [], ◌∷◌, ◌++◌, Option, None, Some, Ok, refl, sym, ap, subst, ◌∙◌, arith}
use Rattle.std.specs.Prelude.{flat_map}
use Rattle.std.specs.List.{AllByRecursion}
use Rattle.std.proofs.lemmas.List.Elements.{All-from_recursion}
use Rattle.std.proofs.lemmas.Bool.Decides.{nat_tests}
use Rattle.lilo_model.specs.Disks.{Image, Machine, Span, DiskSector, bytes_at, with_sector}
use Rattle.lilo_model.specs.Conf.{Config}
use Rattle.lilo_model.specs.LineSector.{line_at}
use Rattle.lilo_model.specs.DefaultLine.{DefaultLine}
use Rattle.lilo_model.specs.MinixNames.{names_in}
use Rattle.lilo_model.specs.Meant.{Target, Kernel, System, Menu, meant, menu_of}
use Rattle.lilo_model.specs.Plan.{MappedFile, MappedSection, Plan, plan_boot}
use Rattle.lilo_model.specs.Planned.{planned}
use Rattle.boot_laws.proofs.Unlisted.{unlisted_law}
use Rattle.map_laws.specs.Lies.{MapPlaces, after_line, all_places, IsNone, OptionalLies, TargetLies, TargetsLie, MapLies}
use Rattle.map_laws.specs.MapStays.{file_sectors_of, section_places, fixed_places}
use Rattle.map_laws.specs.PlannedLies.{targets_for}
use Rattle.map_laws.specs.Lines.{LinesLaw}
use Rattle.map_laws.proofs.Whole.{map_law, boot-read}
use Rattle.map_laws.proofs.Stays.{map_stays_law}
use Rattle.map_laws.proofs.Planned.{map-lies}

module _ (image : Image) (machine : Machine) (config : Config) (line_place zero_place : DiskSector) where
  abbrev Others : List DiskSector → Type 0
  Others places = AllByRecursion (λ place. place ≢ line_place) places

  joined : (first second : List DiskSector) → Others first → Others second → Others (first ++ second)
  joined [] second none others = others
  joined (place ∷ first) second none others = (none.0, joined first second none.1 others)

  from-none : (places : List DiskSector) → IsNone line_place places → Others places
  from-none [] none = tt
  from-none (place ∷ places) none = ((λ same. none.0 (sym same)), from-none places none.1)

  of-optional : (file : Option MappedFile) (bytes : Option (List ℕ)) → OptionalLies image machine config line_place zero_place file bytes → Others (file_sectors_of zero_place file)
  of-optional None None lies = tt
  of-optional None (Some bytes) lies = absurd lies
  of-optional (Some file) None lies = absurd lies
  of-optional (Some file) (Some bytes) lies = from-none _ lies.apart

  of-target : (mapped : MappedSection) (target : Target) → TargetLies image machine config line_place zero_place mapped target → Others (section_places zero_place mapped)
  of-target mapped (Kernel bytes initrd middle video) lies = joined _ _ (from-none _ lies.3.apart) (of-optional mapped.initrd initrd lies.4)
  of-target mapped (System sector table) lies =
      joined _ _ (from-none _ lies.3.lies.apart) (subst (λ initrd. Others (file_sectors_of zero_place initrd)) (sym lies.2) tt)

  of-targets : (sections : List MappedSection) (targets : List Target) → TargetsLie image machine config line_place zero_place sections targets → Others (flat_map (section_places zero_place) sections)
  of-targets [] [] lie = tt
  of-targets [] (target ∷ targets) lie = absurd lie
  of-targets (mapped ∷ sections) [] lie = absurd lie
  of-targets (mapped ∷ sections) (target ∷ targets) lie = joined _ _ (of-target mapped target lie.1) (of-targets sections targets lie.2)

-- the sector that was written has its bytes
written : (image : Image) (place : DiskSector) (bytes : List ℕ) → bytes_at (with_sector image place bytes) place ≡ bytes
written image place bytes =
    let disk : (place.disk == place.disk) ≡ true = grind (arith, nat_tests) in
    let sector : (place.sector == place.sector) ≡ true = grind (arith, nat_tests) in
    rw (disk, sector) refl

-- none of the sectors that the map, its boot sector and its files lie in is the default line's
pub fixed-apart : (image : Image) (machine : Machine) (span : Span) (plan : Plan) (menu : Menu) (targets : List Target) (line : DefaultLine) (places : MapPlaces) (present : List ℕ)
    → MapLies image machine span plan menu targets line places present → places.line ≢ record { disk = span.disk; sector = span.start }
    → AllByRecursion (λ place. place ≢ places.line) (fixed_places span plan places)
fixed-apart image machine span plan menu targets line places present s elsewhere =
    let files = joined image machine plan.config places.line places.zero_place (file_sectors_of places.zero_place plan.message) (flat_map (section_places places.zero_place) plan.sections) (of-optional image machine plan.config places.line places.zero_place plan.message menu.message s.message) (of-targets image machine plan.config places.line places.zero_place plan.sections targets s.targets_lie) in
    ((λ same. elsewhere (sym same)), joined image machine plan.config places.line places.zero_place (after_line places) _ (from-none image machine plan.config places.line places.zero_place (after_line places) s.apart) files)

-- so the map lies with each other default line
pub other-line : (image : Image) (machine : Machine) (span : Span) (plan : Plan) (menu : Menu) (targets : List Target) (line other : DefaultLine) (places : MapPlaces) (present bytes : List ℕ)
    → MapLies image machine span plan menu targets line places present → places.line ≢ record { disk = span.disk; sector = span.start } → line_at bytes ≡ Ok other
    → MapLies (with_sector image places.line bytes) machine span plan menu targets other places present
other-line image machine span plan menu targets line other places present bytes s elsewhere is =
    map_stays_law image (with_sector image places.line bytes) machine span plan menu targets line other places present s
    (unlisted_law (fixed_places span plan places) image places.line bytes
    (All-from_recursion _ (fixed_places span plan places) (fixed-apart image machine span plan menu targets line places present s elsewhere)))
    (ap line_at (written image places.line bytes) ∙ is)

pub lines_law : LinesLaw
unfolding meant plan_boot
lines_law before image machine volume span config time devices line places present sound s elsewhere =
    let plan = planned before machine volume config time in
    let menu = menu_of config (names_in volume before) devices in
    let targets = targets_for (names_in volume before) devices config.sections in
    let lies : MapLies image machine span plan menu targets line places present = map-lies before image machine volume span config time devices line places present sound s in
    record {
      names = record { boot = plan_boot plan machine (all_places places); says = boot-read image machine span plan menu targets line places present lies; named = lies.named.0.names };
      boots = λ bytes other keys memory is. map_law (with_sector image places.line bytes) machine span plan menu targets other places present keys memory (other-line image machine span plan menu targets line other places present bytes lies elsewhere is);
    }
