-- A survey finds a volume sound, or refuses it.
use Rattle.disk_trait.proofs.ToldLemmas.{told_three}
use Rattle.minix_zones.specs.Volume.{volume_view, past_of}
use Rattle.ldisk_files.proofs.NameLemmas.{survey-answered}
use Rattle.ldisk_files.proofs.check.check_sound.Goals as goal

pub returns-clause-sound : goal.returns-clause-sound
returns-clause-sound g c =
    let volume = volume_view c.args.volume.now in
    rw c.without_findings.ensures
    (told_three (past_of c.args.volume.now) _ _ _ _ (λ now laid says finds. survey-answered volume now c.survey.result laid says finds)
    c.requires.laid c.survey.ensures.sound c.survey.ensures.found)
