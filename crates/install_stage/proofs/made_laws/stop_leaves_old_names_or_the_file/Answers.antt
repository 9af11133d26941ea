use Rattle.install_stage.proofs.Named.{names_files}
use Rattle.install_stage.proofs.made_laws.stop_leaves_old_names_or_the_file.Goals as goal

pub returns : goal.returns
returns g c = names_files c.args.start.now c.args.volume.now c.args.chosen.now c.requires.sound
