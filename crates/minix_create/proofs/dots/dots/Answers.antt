use Rattle.std.proofs.Common.{rules}
use Rattle.minix_layout.specs.View.{kind_view}
use Rattle.minix_create.proofs.DotsLemmas.{dots_put}
use Rattle.minix_create.proofs.dots.dots.Goals as goal

pub returns : goal.returns
returns c =
    dots_put (kind_view c.args.kind) c.args.inode c.args.directory c.from-size.result _ _ _ _ (search rules)
    c.put_u16.ensures c.put_name.ensures c.put_u16-2.ensures c.put_name-2.ensures
