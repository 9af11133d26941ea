use Rattle.std.proofs.Common.{◌≡◌, Err, rules}
use Rattle.install_stage.proofs.backup.make_backup.Goals as goal

pub returns-in_err-volume-clause-halted : goal.returns-in_err-volume-clause-halted
returns-in_err-volume-clause-halted g c =
    let halt = c.in_err-volume.field-0.0 in
    let is : c.from_residual.result ≡ Err halt = search rules in
    rw is (record { creates = rw c.block_of-block.ensures at c.in_err-volume.ensures.halted; quiet = tt })

pub returns-clause-made : goal.returns-clause-made
returns-clause-made g c = record {
  creates = let made = c.in_ok-volume.ensures.created.creates in rw c.block_of-block.ensures at made;
  quiet = c.in_ok-volume.ensures.created.quiet;
}
