-- A refusal of the block is one of its entries.
use Rattle.lilo_model.specs.Checks.{with_fault}
use Rattle.lilo_model.specs.MinixFind.{Zone}
use Rattle.lilo_model.specs.MinixParts.{parts_of}
use Rattle.lilo_model.specs.LdiskVerdict.{silent}
use Rattle.minix_layout.specs.View.{super_view, inode_view}
use Rattle.minix_zones.specs.Volume.{volume_view, past_of}
use Rattle.minix_tree.specs.Directory.{block_entries}
use Rattle.minix_tree.specs.View.{Refuses}
use Rattle.ldisk_run.specs.Listing.{lines_behind, block_verdict}
use Rattle.ldisk_run.specs.Pieces.{held_by}
use Rattle.ldisk_run.specs.Run.{Halts}
use Rattle.ldisk_run.proofs.HaltLemmas.{tree_halts, halts_untold}
use Rattle.ldisk_run.proofs.StepLemmas.{told_halted}
use Rattle.disk_trait.proofs.ToldLemmas.{told_map}
use Rattle.ldisk_run.proofs.ls.put_entries.Goals as goal

pub returns-in-Err-clause-does : goal.returns-in-Err-clause-does
unfolding block_verdict
returns-in-Err-clause-does g c =
    let volume = c.args.volume.now in
    let fault = c.in-Err.fault in
    let halt = c.tree_halt.result in
    let super = super_view volume.layout in
    told_halted (past_of volume) (λ now. block_entries super (parts_of (volume_view volume) now) (inode_view c.args.stat.now.node) c.args.index)
    (λ now. lines_behind super (parts_of (volume_view volume) now) (silent 0)) halt (held_by g.O.Sink c.args.out.now)
    (told_map (past_of volume) (λ now. Refuses fault (with_fault Zone (block_entries super (parts_of (volume_view volume) now) (inode_view c.args.stat.now.node) c.args.index)))
    (λ now. Halts halt (block_entries super (parts_of (volume_view volume) now) (inode_view c.args.stat.now.node) c.args.index))
    (λ now refused. halts_untold halt Zone (block_entries super (parts_of (volume_view volume) now) (inode_view c.args.stat.now.node) c.args.index)
    (tree_halts _ _ fault halt _ c.in-Err.ensures.cause refused c.tree_halt.ensures)) c.in-Err.ensures.entries)
