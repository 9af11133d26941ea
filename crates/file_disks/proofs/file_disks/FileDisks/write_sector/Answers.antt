use Rattle.std.proofs.Common.{ap}
use Rattle.file_disks.specs.FileDisks.{FileState}
use Rattle.file_disks.proofs.Disks.{write_taken, write_failed, write_not_durable}
use Rattle.file_disks.proofs.file_disks.FileDisks.write_sector.Goals as goal

pub returns-clause-ok : goal.returns-clause-ok
returns-clause-ok g c = write_taken c.write.result c.args.self.now.disks c.forget_all.new.self.disks c.write_out_others.new.self.disks c.self.inside.disks.items c.args.disk c.from.result c.from-2.result
    c.args.sector c.args.from.now c.index_mut.result.now c.write.new.disk (ap (λ (files : FileState). files.disks) c.forget_all.ensures) c.from.ensures c.from-2.ensures
    (ap (λ (files : FileState). files.disks) c.self.view_is) c.requires c.index_mut.ensures.value c.write.ensures.shape c.in_ok-write_out_others.ensures.disks
    c.in_ok-write_out_others.ensures.own c.write.ensures.ok c.write.ensures.err c.in_ok-write_out_others.ensures.ok

pub returns-clause-err : goal.returns-clause-err
returns-clause-err g c = write_failed c.write.result c.args.self.now.disks c.forget_all.new.self.disks c.write_out_others.new.self.disks c.self.inside.disks.items c.args.disk c.from.result c.from-2.result
    c.args.sector c.args.from.now c.index_mut.result.now c.write.new.disk (ap (λ (files : FileState). files.disks) c.forget_all.ensures) c.from.ensures c.from-2.ensures
    (ap (λ (files : FileState). files.disks) c.self.view_is) c.requires c.index_mut.ensures.value c.write.ensures.shape c.in_ok-write_out_others.ensures.disks
    c.in_ok-write_out_others.ensures.own c.write.ensures.ok c.write.ensures.err

pub returns-clause-durable : goal.returns-clause-durable
returns-clause-durable g c = write_not_durable c.write.result c.args.self.now.disks c.forget_all.new.self.disks c.write_out_others.new.self.disks c.self.inside.disks.items c.args.disk c.from.result c.from-2.result
    c.args.sector c.args.from.now c.index_mut.result.now c.write.new.disk (ap (λ (files : FileState). files.disks) c.forget_all.ensures) c.from.ensures c.from-2.ensures
    (ap (λ (files : FileState). files.disks) c.self.view_is) c.requires c.index_mut.ensures.value c.write.ensures.shape c.in_ok-write_out_others.ensures.disks
    c.in_ok-write_out_others.ensures.own c.write.ensures.ok c.write.ensures.err
