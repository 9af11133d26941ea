-- The flush, then the removal.
use Rattle.std.proofs.Common.{Ok, Err, None, sym, ◌∙◌}
use Rattle.disk_trait.specs.Moments.{IsQuiet}
use Rattle.lilo_model.specs.MinixParts as model
use Rattle.disk_trait.specs.Past.{Image}
use Rattle.minix_zones.specs.Volume.{past_of}
use Rattle.ldisk_files.specs.Answer.{IsRemovable, write_fault}
use Rattle.ldisk_files.proofs.FlushLemmas.{forth, not-flushed, then-changed, when-ok}
use Rattle.ldisk_files.proofs.InodeLemmas.{inode-flushed}
use Rattle.ldisk_files.proofs.RemoveLemmas.{removed, not-removed, inode-removed}
use Rattle.ldisk_files.proofs.removal.remove_name.Goals as goal

pub returns-then-is_err-clause-changes : goal.returns-then-is_err-clause-changes
returns-then-is_err-clause-changes g c = λ path may.
    not-flushed c.args.volume c.sync.new.self c.sync.result c.sync.ensures.syncs path None (λ told. (may told).sound)

pub returns-in-Ok-clause-changes : goal.returns-in-Ok-clause-changes
returns-in-Ok-clause-changes g c = λ path may.
    let quiet : IsQuiet (past_of c.sync.new.self) = when-ok c.sync.result (sym c.is_err.ensures.value ∙ c.if-is_err.false) c.sync.ensures.syncs.flushes.quiet in
    then-changed c.args.volume c.sync.new.self c.sync.result c.sync.ensures.syncs path None (λ told. (may told).sound) quiet c.in-Ok.volume (Ok tt)
    (removed c.sync.new.self c.in-Ok.volume c.args.place.now.directory.inode c.args.place.now.name.now path c.sync.new.self.whole
    (λ told. forth c.args.volume c.sync.new.self c.sync.result c.sync.ensures.syncs
    (λ (v : model.Volume) (i : Image). IsRemovable v i path c.args.place.now.directory.inode c.args.place.now.name.now) (may (c.sync.ensures.syncs.flushes.goes_on.told_before told)))
    c.in-Ok.ensures.removed)

pub returns-in-Err-clause-changes : goal.returns-in-Err-clause-changes
returns-in-Err-clause-changes g c = λ path may.
    let quiet : IsQuiet (past_of c.sync.new.self) = when-ok c.sync.result (sym c.is_err.ensures.value ∙ c.if-is_err.false) c.sync.ensures.syncs.flushes.quiet in
    rw c.write_fault.ensures
    (then-changed c.args.volume c.sync.new.self c.sync.result c.sync.ensures.syncs path None (λ told. (may told).sound) quiet c.in-Err.halt.volume (Err (write_fault c.in-Err.halt.fault))
    (not-removed c.sync.new.self c.in-Err.halt.volume c.args.place.now.directory.inode c.args.place.now.name.now path c.sync.new.self.whole
    (λ told. forth c.args.volume c.sync.new.self c.sync.result c.sync.ensures.syncs
    (λ (v : model.Volume) (i : Image). IsRemovable v i path c.args.place.now.directory.inode c.args.place.now.name.now) (may (c.sync.ensures.syncs.flushes.goes_on.told_before told)))
    c.in-Err.halt.fault c.in-Err.ensures.halted))

pub returns-in-Ok-clause-inode : goal.returns-in-Ok-clause-inode
returns-in-Ok-clause-inode g c = λ path may.
    inode-flushed c.args.volume c.sync.new.self c.sync.result c.sync.ensures.syncs c.in-Ok.volume path None (Ok tt)
    (inode-removed c.sync.new.self c.in-Ok.volume c.args.place.now.directory.inode c.args.place.now.name.now path
    (λ told. forth c.args.volume c.sync.new.self c.sync.result c.sync.ensures.syncs
    (λ (v : model.Volume) (i : Image). IsRemovable v i path c.args.place.now.directory.inode c.args.place.now.name.now) (may (c.sync.ensures.syncs.flushes.goes_on.told_before told)))
    c.in-Ok.ensures.removed)
