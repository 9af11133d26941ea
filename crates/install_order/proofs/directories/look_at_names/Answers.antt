-- The directories of all names.
use Rattle.std.proofs.Common.{sym, subst}
use Rattle.minix_layout.specs.declared.superblock.Super.{Super}
use Rattle.minix_zones.specs.Volume.{faults_of}
use Rattle.install_apart.specs.Own.{IsBackupInside}
use Rattle.install_order.proofs.PlanLemmas.{cause_later}
use Rattle.install_order.proofs.WishedLemmas.{names_looked}
use Rattle.install_order.proofs.directories.look_at_names.Goals as goal

pub look_at_backup-requires-clause-inside : goal.look_at_backup-requires-clause-inside
look_at_backup-requires-clause-inside g c =
    subst (λ (layout : Super). IsBackupInside layout c.args.own.now.backup) (sym c.look_at_pair.ensures.same.same_layout) c.requires.inside.1

pub returns-clause-lie : goal.returns-clause-lie
returns-clause-lie g c =
    names_looked c.look_at_pair.new.volume c.look_at_backup.new.volume c.look_at_backup.ensures.same c.args.own.now c.look_at_backup.result
    c.in_ok-look_at_pair.ensures.lies c.look_at_backup.ensures.lies

pub returns-clause-cause : goal.returns-clause-cause
returns-clause-cause g c =
    cause_later c.look_at_backup.result (faults_of c.args.volume.now) (faults_of c.look_at_pair.new.volume) (faults_of c.look_at_backup.new.volume)
    c.look_at_pair.ensures.later c.look_at_backup.ensures.cause
