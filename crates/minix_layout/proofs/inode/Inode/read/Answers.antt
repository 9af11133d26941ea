use Rattle.std.proofs.Common.{rules}
use Rattle.minix_layout.specs.View.{kind_view, inode_view}
use Rattle.minix_layout.proofs.Fits.{fits-v2}
use Rattle.minix_layout.proofs.inode.Inode.read.Goals as goal

pub returns-then-not-is_v1-clause-fits : goal.returns-then-not-is_v1-clause-fits
returns-then-not-is_v1-clause-fits c = fits-v2 (kind_view c.args.kind) (inode_view c.v2_inode.result) (search rules) c.v2_inode.ensures.fits
