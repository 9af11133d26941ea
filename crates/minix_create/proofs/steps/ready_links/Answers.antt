use Rattle.std.proofs.Common.{◌≡◌, ◌==◌, ◌/◌, true, false}
use Rattle.minix_create.proofs.EnterLemmas.{ready_file, ready_directory}
use Rattle.minix_create.proofs.steps.ready_links.Goals as goal

pub returns-then-is_directory-clause-readies : goal.returns-then-is_directory-clause-readies
returns-then-is_directory-clause-readies g c is =
    let dir : (c.args.chosen.now.mode / 4096 == 4) ≡ true = rw c.is_directory.ensures at c.if-is_directory.true in
    ready_directory c.args.volume.now c.args.chosen.now c.requires.quiet is dir c.raise_links.new.volume c.raise_links.result (c.raise_links.ensures.raises is)

pub returns-else-is_directory-clause-readies : goal.returns-else-is_directory-clause-readies
returns-else-is_directory-clause-readies g c is =
    let file : (c.args.chosen.now.mode / 4096 == 4) ≡ false = rw c.is_directory.ensures at c.if-is_directory.false in
    ready_file c.args.volume.now c.args.chosen.now c.requires.quiet is file
