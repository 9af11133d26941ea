use Rattle.std.proofs.Common.{◌∙◌}
use Rattle.minix_layout.specs.View.{kind_view}
use Rattle.minix_create.proofs.DotsLemmas.{dots_made, all_bytes}
use Rattle.minix_create.proofs.dots.directory_block.Goals as goal

pub returns-clause-dots : goal.returns-clause-dots
returns-clause-dots c = dots_made (kind_view c.args.kind) c.args.inode c.args.directory _ _ (c.copy_from_slice.ensures.after ∙ c.dots.ensures) c.ranges.inode.fits c.ranges.directory.fits

pub returns-clause-bytes : goal.returns-clause-bytes
returns-clause-bytes c = all_bytes (kind_view c.args.kind) c.args.inode c.args.directory _ (c.copy_from_slice.ensures.after ∙ c.dots.ensures)
