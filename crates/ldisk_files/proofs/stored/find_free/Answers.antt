-- The survey, then the name.
use Rattle.disk_trait.proofs.ToldLemmas.{told_both}
use Rattle.disk_trait.specs.Past.{Image}
use Rattle.lilo_model.specs.MinixNames.{IsSound}
use Rattle.lilo_model.specs.MinixParts as model
use Rattle.minix_zones.specs.Volume.{volume_view, past_of}
use Rattle.minix_zones.proofs.SameLemmas.{told_back}
use Rattle.ldisk_files.specs.Made.{GivesNew}
use Rattle.ldisk_files.proofs.StoredLemmas.{free-by}
use Rattle.ldisk_files.proofs.stored.find_free.Goals as goal

pub returns-clause-free : goal.returns-clause-free
returns-clause-free g c =
    let old = c.args.volume.now in
    let mid = c.check_sound.new.volume in
    told_both (past_of old) _ _ _
    (λ now is gives. free-by (volume_view old) now c.args.path.now c.find_new.result is (gives is.sound))
    c.in_ok-check_sound.ensures.sound
    (told_back old mid (λ (volume : model.Volume) (now : Image). IsSound volume now → GivesNew volume now c.args.path.now c.find_new.result)
    c.in_ok-check_sound.ensures.same c.find_new.ensures.found)
