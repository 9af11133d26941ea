use Rattle.std.proofs.Common.{◌≡◌, map}
use Rattle.std.specs.List.{range_with_len}
use Rattle.minix_layout.specs.View.{kind_view}
use Rattle.write_model.specs.Growth.{promised_zone}
use Rattle.minix_choice.proofs.growth.promised_zones.Given as goal

-- the levels so far
abbrev pub invariant-loop-level : goal.invariant-loop-level
invariant-loop-level l =
    l.zones.items ≡ map (promised_zone (kind_view l.kind) l.taken.promises l.directory l.block) (range_with_len 0 l.level)
