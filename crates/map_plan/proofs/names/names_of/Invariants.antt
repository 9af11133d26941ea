use Rattle.std.proofs.Common.{◌≡◌, take}
use Rattle.map_plan.specs.Names.{names_of}
use Rattle.map_plan.specs.Sections.{planned_views}
use Rattle.map_plan.proofs.names.names_of.Given as goal

-- the names so far are those of the sections so far
abbrev pub invariant-loop-planned : goal.invariant-loop-planned
invariant-loop-planned l = l.names.items ≡ names_of (planned_views (take l.planned-index l.sections))
