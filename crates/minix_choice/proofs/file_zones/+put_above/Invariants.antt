use Rattle.std.proofs.Common.{◌≡◌, ◌++◌, ◌-◌, length}
use Rattle.std.specs.List.{flat_map}
use Rattle.lilo_model.specs.MinixLayout.{numbers_in_zone}
use Rattle.minix_layout.specs.View.{kind_view}
use Rattle.write_model.specs.FileZones.{all_pieces, made_above}
use Rattle.minix_choice.proofs.file_zones.+put_above.Given as goal

-- what was made so far, and what the blocks that are left make
abbrev pub invariant-loop-rest : goal.invariant-loop-rest
invariant-loop-rest l =
    l.made.items ++ flat_map (made_above (numbers_in_zone (kind_view l.kind)) (l.level - 1)) (all_pieces l.size l.rest)
    ≡ l.fn.made.items ++ made_above (numbers_in_zone (kind_view l.kind)) l.level l.blocks

abbrev pub decreases-loop-rest : goal.decreases-loop-rest
decreases-loop-rest l = length l.rest

abbrev pub decreases-put_above : goal.decreases-put_above
decreases-put_above l = l.level
