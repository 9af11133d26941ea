-- The three texts of a line go one after the other.
use Rattle.std.proofs.Common.{◌∷◌, ◌++◌, ◌∙◌}
use Rattle.std.specs.Prelude.{codes, decimal}
use Rattle.lilo_model.specs.LdiskVerdict.{entry_line, kind_letter}
use Rattle.minix_layout.specs.View.{inode_view}
use Rattle.ldisk_run.specs.Pieces.{held_by}
use Rattle.ldisk_run.proofs.AddsLemmas.{adds_join, adds_same}
use Rattle.ldisk_run.proofs.ls.put_line.Goals as goal

pub returns-clause-adds : goal.returns-clause-adds
unfolding entry_line
returns-clause-adds g c =
    let held = held_by g.O.Sink in
    let inode = inode_view c.args.inode.now in
    let head = kind_letter inode ∷ (codes " " ++ decimal inode.size ++ codes " ") in
    let name = c.args.name.now in
    let start = held c.args.out.now in
    let first = adds_same start (held c.put.new.self) _ head (c.as_slice.ensures.value ∙ c.line_head.ensures) c.put.ensures.adds in
    let second = adds_join start (held c.put.new.self) (held c.put-2.new.self) head name first c.put-2.ensures.adds in
    adds_join start (held c.put-2.new.self) (held c.put-3.new.self) (head ++ name) (codes "\n") second c.put-3.ensures.adds
