-- What was answered, as it is reported.
use Rattle.std.proofs.Common.{Ok, Err, refl, rules}
use Rattle.ldisk_files.proofs.freeing.reclaim_on.Goals as goal

pub returns-in-Ok : goal.returns-in-Ok
returns-in-Ok g c = record {
  frees = record { answer = Ok c.in-Ok.freed; is = refl; does = c.in-Ok.ensures.reclaims };
  same_reference = c.in-Ok.ensures.reclaims.kept.same_reference;
}

pub returns-in-Err : goal.returns-in-Err
returns-in-Err g c = record {
  frees = record { answer = Err c.in-Err.halt.fault; is = rw c.reclaim_fault.ensures refl; does = c.in-Err.ensures.reclaims };
  same_reference = c.in-Err.ensures.reclaims.kept.same_reference;
}
