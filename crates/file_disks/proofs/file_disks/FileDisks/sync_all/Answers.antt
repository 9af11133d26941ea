use Rattle.std.proofs.Common.{◌≡◌, ◌≤◌, length, arith, ap, inl, refl, ◌∙◌}
use Rattle.file_disks.specs.FileDisks.{FileState, MaySync}
use Rattle.file_disks.proofs.Disks.{count_same, SyncedHere, through_more, through_each, well_from, durable_step, durable_all}
use Rattle.file_disks.proofs.file_disks.FileDisks.sync_all.Goals as goal

pub sync-requires : goal.sync-requires
sync-requires g c =
    let size : length c.self.inside.disks.items ≡ length c.args.self.now.disks = ap (λ (files : FileState). length files.disks) c.self.view_is in
    let same : length c.loop-disk.self.disks ≡ length c.args.self.now.disks = count_same c.args.self.now.disks c.loop-disk.self.disks c.loop-disk.invariant.through.shapes in
    omega arith

pub loop-disk-preserved : goal.loop-disk-preserved
loop-disk-preserved g c = record {
  faults = c.sync.ensures.faults ∙ c.loop-disk.invariant.faults;
  through = through_more SyncedHere _ _ _ _ c.loop-disk.invariant.through c.sync.ensures.only c.sync.ensures.kept;
  durable = durable_step c.loop-disk.done c.is_ok-done.result _ _ _ c.loop-disk.invariant.durable c.sync.ensures.only
      (well_from c.sync.result c.is_ok-done.result _ c.is_ok-done.ensures.value c.sync.ensures.ok c.sync.ensures.err);
}

pub returns-clause-disks : goal.returns-clause-disks
returns-clause-disks g c = record {
  shapes = c.loop-disk.invariant.through.shapes;
  each = through_each SyncedHere MaySync _ _ _ c.loop-disk.invariant.through (λ _ _ _ synced. synced) (λ _. inl refl);
}

pub returns-clause-durable : goal.returns-clause-durable
returns-clause-durable g c =
    let size : length c.self.inside.disks.items ≡ length c.args.self.now.disks = ap (λ (files : FileState). length files.disks) c.self.view_is in
    let same : length c.loop-disk.self.disks ≡ length c.args.self.now.disks = count_same c.args.self.now.disks c.loop-disk.self.disks c.loop-disk.invariant.through.shapes in
    let enough : length c.loop-disk.self.disks ≤ c.loop-disk.disk = omega arith in
    (λ done. durable_all c.loop-disk.disk c.loop-disk.self.disks enough (c.loop-disk.invariant.durable.0 done), λ all. c.loop-disk.invariant.durable.1 (λ disk _. all disk))
