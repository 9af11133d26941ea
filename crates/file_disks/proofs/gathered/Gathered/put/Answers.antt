use Rattle.std.proofs.Common.{arith, rules}
use Rattle.file_disks.proofs.Put.{put_whole}
use Rattle.file_disks.proofs.gathered.Gathered.put.Goals as goal

pub returns : goal.returns
returns c =
    put_whole c.args.self.now c.args.sector c.first_with-first.result c.max-self-inside.result _ c.args.from.now c.self.inside.bytes
    c.copy_from_slice.new.self (search rules) (search rules) c.first_with-first.ensures.begun c.first_with-first.ensures.near
    c.first_with-first.ensures.same (omega arith) (search rules) (omega arith) (search rules)
