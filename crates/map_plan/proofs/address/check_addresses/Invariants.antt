use Rattle.std.proofs.Common.{◌≡◌, Ok, take}
use Rattle.std.specs.Prelude.{All}
use Rattle.lilo_model.specs.Conf.{Config}
use Rattle.lilo_model.specs.PlanRefusal.{each_passes, mapped_address_check}
use Rattle.map_plan.specs.Named.{NamesAs, SectionLiesOnDisk}
use Rattle.map_plan.specs.Sections.{planned_view, planned_views}
use Rattle.map_plan.specs.Sound.{machine_for}
use Rattle.map_plan.proofs.address.check_addresses.Given as goal

-- the sections so far are accepted
abbrev pub invariant-loop-planned : goal.invariant-loop-planned
invariant-loop-planned g l =
    (config : Config) → NamesAs l.naming config → All (λ planned. SectionLiesOnDisk l.volume.span.disk (planned_view planned)) l.sections
    → each_passes (mapped_address_check config (machine_for l.volume)) (planned_views (take l.planned-index l.sections)) ≡ Ok tt
