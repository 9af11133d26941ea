-- A refusal is that of what comes after.
use Rattle.std.proofs.Common.{Result, Ok, refl}
use Rattle.lilo_model.specs.Checks.{◌>>=◌}
use Rattle.lilo_model.specs.MinixFind as model
use Rattle.minix_zones.specs.declared.zone_fault.ZoneFault.TheVariants as zones
use Rattle.minix_tree.specs.declared.tree_fault.TreeFault.{TreeFault}
use Rattle.minix_tree.specs.declared.tree_fault.TreeFault.TheVariants as faults
use Rattle.minix_tree.specs.View.{Refuses}

-- what gave a value isn't refused, unless the disk failed or there was no memory
pub refused_ok : {A B : Type 0} (fault : TreeFault) (value : A) (other : Result B model.TreeFault) → Refuses {B = A} fault (Ok value) → Refuses fault other
refused_ok (faults.NotFound position) value other refused = cc
refused_ok (faults.NotDirectory position) value other refused = cc
refused_ok faults.NotFile value other refused = cc
refused_ok faults.TooManyLinks value other refused = cc
refused_ok (faults.BadEntry directory) value other refused = cc
refused_ok faults.PathTooLong value other refused = cc
refused_ok (faults.Zone (zones.Layout fault)) value other refused = cc
refused_ok (faults.Zone (zones.ZoneOutside zone)) value other refused = cc
refused_ok (faults.Zone zones.Device) value other refused = tt
refused_ok faults.Memory value other refused = tt

pub refused_then : {A B : Type 0} (fault : TreeFault) (found : Result A model.TreeFault) (next : A → Result B model.TreeFault)
    → Refuses fault found → Refuses fault (found >>= next)
refused_then (faults.NotFound position) found next refused = rw refused refl
refused_then (faults.NotDirectory position) found next refused = rw refused refl
refused_then faults.NotFile found next refused = rw refused refl
refused_then faults.TooManyLinks found next refused = rw refused refl
refused_then (faults.BadEntry directory) found next refused = rw refused refl
refused_then faults.PathTooLong found next refused = rw refused refl
refused_then (faults.Zone (zones.Layout fault)) found next refused = rw refused refl
refused_then (faults.Zone (zones.ZoneOutside zone)) found next refused = rw refused refl
refused_then (faults.Zone zones.Device) found next refused = tt
refused_then faults.Memory found next refused = tt
