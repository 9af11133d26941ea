-- A refusal of the block is one of the piece.
use Rattle.std.proofs.Common.{Err}
use Rattle.disk_trait.specs.Past.{Image}
use Rattle.lilo_model.specs.MinixParts.{parts_of}
use Rattle.lilo_model.specs.MinixFind.{file_block}
use Rattle.lilo_model.specs.LdiskVerdict.{piece_verdict}
use Rattle.minix_layout.specs.View.{super_view, inode_view}
use Rattle.minix_zones.specs.Volume.{volume_view, past_of, faults_of}
use Rattle.minix_tree.specs.View.{Refuses}
use Rattle.ldisk_run.specs.Pieces.{held_by}
use Rattle.ldisk_run.specs.Run.{Does}
use Rattle.ldisk_run.proofs.AddsLemmas.{piece_halted}
use Rattle.ldisk_run.proofs.HaltLemmas.{tree_halts}
use Rattle.disk_trait.proofs.ToldLemmas.{told_map}
use Rattle.ldisk_run.proofs.get.put_block.Goals as goal

pub returns-in-Err-clause-does : goal.returns-in-Err-clause-does
returns-in-Err-clause-does g c =
    let volume = c.args.volume.now in
    let held = held_by g.O.Sink c.args.out.now in
    let fault = c.in-Err.fault in
    let halt = c.tree_halt.result in
    let block = λ (now : Image). file_block (super_view volume.layout) (parts_of (volume_view volume) now) (inode_view c.args.stat.now.node) c.args.index in
    told_map (past_of volume) (λ now. Refuses fault (block now)) (λ now. Does (piece_verdict (block now)) (Err halt) held held)
    (λ now refused. piece_halted halt (block now) held
    (tree_halts (faults_of volume) (faults_of c.read_block_through.new.volume) fault halt (block now) c.in-Err.ensures.cause refused c.tree_halt.ensures))
    c.in-Err.ensures.bytes
