-- A refusal of the path is one of the command.
use Rattle.std.proofs.Common.{◌≡◌, Err, rules}
use Rattle.lilo_model.specs.MinixParts.{parts_of}
use Rattle.lilo_model.specs.LdiskVerdict.{file_found, file_verdict, get_verdict}
use Rattle.minix_layout.specs.View.{super_view}
use Rattle.minix_zones.specs.Volume.{volume_view, past_of}
use Rattle.ldisk_run.specs.Pieces.{held_by}
use Rattle.ldisk_run.proofs.StepLemmas.{told_halted}
use Rattle.ldisk_run.proofs.get.get.Goals as goal

pub returns-in_err-stat-clause-does : goal.returns-in_err-stat-clause-does
unfolding get_verdict
returns-in_err-stat-clause-does g c =
    let volume = c.args.volume.now in
    let halt = c.in_err-stat.field-0.0 in
    let given : c.from_residual.result ≡ Err halt = search rules in
    rw given
    (told_halted (past_of volume) (λ now. file_found (super_view volume.layout) (parts_of (volume_view volume) now) c.args.path.now)
    (λ now. file_verdict (super_view volume.layout) (parts_of (volume_view volume) now)) halt (held_by g.O.Sink c.args.out.now) c.in_err-stat.ensures.found)
