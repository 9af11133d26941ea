use Rattle.std.proofs.Common.{rules}
use Rattle.minix_layout.specs.View.{inode_view}
use Rattle.minix_layout.proofs.Fields.{v2_written}
use Rattle.minix_layout.proofs.inode.Inode.put_v2.Goals as goal

pub returns-clause-bytes : goal.returns-clause-bytes
returns-clause-bytes c = v2_written (inode_view c.args.self.now) c.args.part.now.bytes.now _ _ _ _ _ _ _ c.requires (search rules) (search rules) c.put_u16.ensures.bytes c.put_u16-2.ensures.bytes c.put_u16-3.ensures.bytes c.put_u16-4.ensures.bytes c.put_u32.ensures.bytes c.put_numbers32.ensures.bytes c.put_numbers32-2.ensures.bytes
