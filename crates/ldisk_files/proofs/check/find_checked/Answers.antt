-- The survey, then the name.
use Rattle.disk_trait.proofs.ToldLemmas.{told_both}
use Rattle.lilo_model.specs.Disks.{Image}
use Rattle.lilo_model.specs.MinixNames.{IsSound}
use Rattle.lilo_model.specs.MinixParts as model
use Rattle.minix_zones.specs.Volume.{volume_view, past_of}
use Rattle.minix_zones.proofs.SameLemmas.{told_back}
use Rattle.ldisk_files.specs.Answer.{GivesName}
use Rattle.ldisk_files.proofs.NameLemmas.{checked}
use Rattle.ldisk_files.proofs.check.find_checked.Goals as goal

pub returns-clause-found : goal.returns-clause-found
returns-clause-found g c =
    let old = c.args.volume.now in
    let mid = c.check_sound.new.volume in
    told_both (past_of old) _ _ _ (λ now is gives. checked (volume_view old) now c.args.path.now c.find_name.result is (gives is.sound))
    c.in_ok-check_sound.ensures.sound
    (told_back old mid (λ (volume : model.Volume) (now : Image). IsSound volume now → GivesName volume now c.args.path.now c.find_name.result)
    c.in_ok-check_sound.ensures.same c.find_name.ensures.found)
