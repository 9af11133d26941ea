use Rattle.std.proofs.Common.{ℕ, ◌+◌, ◌-◌, ◌*◌, Ok}
use Rattle.lilo_model.specs.MinixEntries.{entries_per_block}
use Rattle.minix_layout.specs.View.{kind_view}
use Rattle.minix_tree.specs.Found.{places_before}
use Rattle.minix_survey.specs.Step.{Steps, entries_from}
use Rattle.minix_survey.proofs.walk.+below.Given as goal

abbrev pub decreases-meet_all : goal.decreases-meet_all
decreases-meet_all g l = 4 * (65 - l.spot.level) + 3

abbrev pub decreases-meet_directory : goal.decreases-meet_directory
decreases-meet_directory g l = 4 * (65 - l.spot.level) + 2

abbrev pub decreases-meet_block : goal.decreases-meet_block
decreases-meet_block g l = 4 * (65 - l.spot.level) + 1

abbrev pub decreases-meet_entry : goal.decreases-meet_entry
decreases-meet_entry g l = 4 * (65 - l.spot.level)

abbrev pub invariant-meet_block-loop-at : goal.invariant-meet_block-loop-at
invariant-meet_block-loop-at g l =
    Steps l.fn.volume l.volume l.fn.tables l.tables (Ok tt) (entries_from l.spot (entries_per_block (kind_view l.fn.volume.layout.kind) * l.index) l.at)

abbrev pub invariant-meet_directory-loop-index : goal.invariant-meet_directory-loop-index
invariant-meet_directory-loop-index g l =
    Steps l.fn.volume l.volume l.fn.tables l.tables (Ok tt)
    (entries_from l.spot 0 (places_before (kind_view l.fn.volume.layout.kind) l.node.size l.index))
