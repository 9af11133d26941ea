-- A refusal of the inode is one of the entry.
use Rattle.std.proofs.Common.{◌≡◌, ◌≢◌, false, Err, rules}
use Rattle.lilo_model.specs.MinixParts.{parts_of}
use Rattle.lilo_model.specs.MinixEntries.{entry_with, is_dots}
use Rattle.lilo_model.specs.LdiskVerdict.{piece_verdict, named_node, entry_text}
use Rattle.minix_layout.specs.View.{super_view}
use Rattle.minix_zones.specs.Volume.{volume_view, past_of}
use Rattle.ldisk_run.specs.Pieces.{held_by}
use Rattle.ldisk_run.specs.Run.{Halts, Does}
use Rattle.ldisk_run.proofs.EntryLemmas.{entry_halted}
use Rattle.disk_trait.proofs.ToldLemmas.{told_map}
use Rattle.ldisk_run.proofs.ls.put_entry.Goals as goal

pub returns-in_err-stat-clause-does : goal.returns-in_err-stat-clause-does
returns-in_err-stat-clause-does g c =
    let volume = c.args.volume.now in
    let inode = c.args.entry.now.inode in
    let name = c.args.entry.now.name.now in
    let held = held_by g.O.Sink c.args.out.now in
    let halt = c.in_err-stat.field-0.0 in
    let given : c.from_residual.result ≡ Err halt = search rules in
    let used : inode ≢ 0 = search rules in
    let plain : is_dots name ≡ false = search rules in
    rw given
    (told_map (past_of volume) (λ now. Halts halt (named_node (super_view volume.layout) (parts_of (volume_view volume) now) inode))
    (λ now. Does (piece_verdict (entry_text (super_view volume.layout) (parts_of (volume_view volume) now) (entry_with inode name))) (Err halt) held held)
    (λ now halts. entry_halted (super_view volume.layout) (parts_of (volume_view volume) now) inode name halt held used plain halts) c.in_err-stat.ensures.found)
