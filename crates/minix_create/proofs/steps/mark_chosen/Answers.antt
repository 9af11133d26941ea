use Rattle.std.proofs.Common.{◌≡◌, Err, rules}
use Rattle.minix_create.proofs.MarkLemmas.{marks_no_inode, marks_no_zones, marks_done}
use Rattle.minix_create.proofs.steps.mark_chosen.Goals as goal

pub returns-in_err-put_inode_mark : goal.returns-in_err-put_inode_mark
returns-in_err-put_inode_mark g c =
    let fault = c.in_err-put_inode_mark.field-0.0 in
    let given : c.from_residual.result ≡ Err fault = search rules in
    let writes = rw c.inode.ensures at c.in_err-put_inode_mark.ensures.writes in
    rw given
    (marks_no_inode c.args.volume.now c.args.chosen.now c.requires.suits.there c.requires.ready c.put_inode_mark.new.volume _ _ c.put_inode_mark.ensures.steps writes fault writes.device)

pub returns-in_err-mark_zones : goal.returns-in_err-mark_zones
returns-in_err-mark_zones g c =
    let fault = c.in_err-mark_zones.field-0.0 in
    let given : c.from_residual-in_err-mark_zones.result ≡ Err fault = search rules in
    let writes = rw c.inode.ensures at c.in_ok-put_inode_mark.ensures.writes in
    let marks = rw c.zones.ensures at c.in_err-mark_zones.ensures in
    rw given
    (marks_no_zones c.args.volume.now c.args.chosen.now c.requires.suits.there c.requires.ready c.put_inode_mark.new.volume _ _ c.put_inode_mark.ensures.steps writes c.mark_zones.new.volume _ marks fault marks.device)

pub returns : goal.returns
returns g c =
    let writes = rw c.inode.ensures at c.in_ok-put_inode_mark.ensures.writes in
    let one = rw c.inode.ensures at c.in_ok-put_inode_mark.ensures.parts in
    let marks = rw c.zones.ensures at c.in_ok-mark_zones.ensures in
    marks_done c.args.volume.now c.args.chosen.now c.requires.suits.there c.requires.ready c.put_inode_mark.new.volume _ _ c.put_inode_mark.ensures.steps writes c.mark_zones.new.volume _ marks
    c.settle.new.volume c.settle.result c.settle.ensures.steps c.settle.ensures.syncs one (λ told. marks.marked told)
