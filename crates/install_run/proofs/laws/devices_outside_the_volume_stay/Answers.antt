use Rattle.install_run.proofs.laws.devices_outside_the_volume_stay.Goals as goal

pub returns : goal.returns
returns c = λ image machine settled begun found is outside. outside settled is.outside
