-- Without holes each block gets a zone.
use Rattle.std.proofs.Common.{refl}
use Rattle.std.proofs.lemmas.Result.{IfOk-weaker}
use Rattle.install_room.proofs.FreeLemmas.{told_stays}
use Rattle.install_room.proofs.choices.choose_for.Goals as goal

pub returns-clause-whole : goal.returns-clause-whole
returns-clause-whole g c told =
    IfOk-weaker c.choose.result _ _ (λ chosen each. each (told_stays c.args.volume.now c.choose.new.volume c.choose.ensures.same told) refl) c.choose.ensures.whole
