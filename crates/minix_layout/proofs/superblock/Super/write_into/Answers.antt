use Rattle.std.proofs.Common.{◌∙◌, ap}
use Rattle.lilo_model.specs.Bytes.{with_part, bytes16}
use Rattle.minix_layout.specs.View.{super_view}
use Rattle.minix_layout.proofs.Fields.{super_written}
use Rattle.minix_layout.proofs.superblock.Super.write_into.Goals as goal

pub returns : goal.returns
returns c =
    let magic = c.put_u16-5.ensures ∙ ap (λ n. with_part c.put_u32.new.sector 16 (bytes16 n)) c.magic.ensures in
    super_written (super_view c.args.self.now) c.args.sector.now _ _ _ _ _ _ _ _ c.put_counts.array_long c.put_counts.ensures c.put_u16.ensures c.put_u16-2.ensures c.put_u16-3.ensures c.put_u16-4.ensures c.put_u32.ensures magic c.put_u16-6.ensures
