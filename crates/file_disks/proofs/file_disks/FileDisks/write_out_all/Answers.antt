use Rattle.std.proofs.Common.{◌≡◌, ◌&&◌, length, arith, ap, inl, refl, ◌∙◌}
use Rattle.file_disks.specs.FileDisks.{FileState}
use Rattle.file_disks.proofs.Disks.{OutWhere, through_more, through_all, out_less, out_one}
use Rattle.file_disks.proofs.file_disks.FileDisks.write_out_all.Goals as goal

pub loop-disk-preserved : goal.loop-disk-preserved
loop-disk-preserved g c =
    let done = c.loop-disk.done in
    let well = c.is_ok-done.result in
    record {
      faults = c.write_out_one.ensures.faults ∙ c.loop-disk.invariant.faults;
      through = through_more (OutWhere (done && well)) c.loop-disk.disk _ c.loop-disk.self.disks c.write_out_one.new.self.disks
          (out_less done well c.loop-disk.disk _ c.loop-disk.self.disks c.loop-disk.invariant.through) c.write_out_one.ensures.only
          (out_one c.write_out_one.result well done c.loop-disk.disk _ _ c.is_ok-done.ensures.value c.write_out_one.ensures.ok c.write_out_one.ensures.err);
    }

pub returns-clause-ok : goal.returns-clause-ok
returns-clause-ok g c done disk =
    let size : length c.self.inside.disks.items ≡ length c.args.self.now.disks = ap (λ (files : FileState). length files.disks) c.self.view_is in
    (through_all (OutWhere c.loop-disk.done) _ _ _ c.loop-disk.invariant.through (omega arith) (λ _. (inl refl, λ _. refl)) disk).1 done
