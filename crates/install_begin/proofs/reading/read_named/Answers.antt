-- The file is read first, and then its text.
use Rattle.std.specs.Prelude.{option_map}
use Rattle.disk_trait.proofs.ToldLemmas.{told_map}
use Rattle.lilo_model.specs.ConfVerdict.{conf_file}
use Rattle.mbr_table.specs.View.{device_view}
use Rattle.sector_address.specs.Machine.{machine_of}
use Rattle.install_begin.specs.Begin.{named_conf}
use Rattle.install_begin.specs.declared.fault.BeginFault.TheVariants.{File}
use Rattle.install_begin.proofs.BeginLemmas.{refused_later}
use Rattle.install_begin.proofs.reading.read_named.Goals as goal

pub returns-in-Ok-clause-named : goal.returns-in-Ok-clause-named
unfolding named_conf
returns-in-Ok-clause-named g c =
    told_map (g.D.Disks.past c.args.disks.now) _ _
    (λ now is. rw is (rw c.bytes.ensures at (c.named_text.ensures.named c.args.path.now)))
    c.in-Ok.ensures.file

pub returns-in-Ok-clause-cause : goal.returns-in-Ok-clause-cause
returns-in-Ok-clause-cause g c = c.named_text.ensures.cause (g.D.Disks.faults c.args.disks.now) (g.D.Disks.faults c.read_conf_file.new.disks)

pub returns-in-Err-clause-named : goal.returns-in-Err-clause-named
unfolding named_conf
returns-in-Err-clause-named g c =
    told_map (g.D.Disks.past c.args.disks.now) _ _
    (λ now refuses. refused_later c.args.path.now (File c.in-Err.fault) (conf_file now (machine_of g.D.Disks c.args.disks.now) (option_map device_view c.args.root) c.args.path.now) _ refuses)
    c.in-Err.ensures.file
