-- When a refusal is the model's, and its cause.
use Rattle.std.specs.Prelude.{◌≡◌, ℕ, List, Result, Ok, Err}
use Rattle.lilo_model.specs.Faults.{Rose}
use Rattle.lilo_model.specs.Settled.{PathRefusal}
use Rattle.minix_zones.specs.declared.zone_fault.ZoneFault.TheVariants as zones
use Rattle.minix_tree.specs.declared.tree_fault.TreeFault.{TreeFault}
use Rattle.minix_tree.specs.declared.tree_fault.TreeFault.TheVariants as faults
use Rattle.minix_tree.specs.View.{Refuses}
use Rattle.install_apart.specs.declared.fault.NameFault.{NameFault}
use Rattle.install_apart.specs.declared.fault.NameFault.TheVariants as names

-- a path was refused for a fault, unless the disk failed or memory ended
abbrev pub RefusesPath : List ℕ → TreeFault → NameFault → Type 0
RefusesPath path fault (names.Path text why) = (text ≡ path) × (why ≡ fault)
RefusesPath path fault names.Device = Unit {0}
RefusesPath path fault names.Memory = Unit {0}

-- a path is refused as it is given, for the model's reason, unless the disk failed or memory ended
abbrev pub RefusesNames : {B : Type 0} → NameFault → Result B PathRefusal → Type 0
RefusesNames (names.Path text fault) (Ok value) = ⊥
RefusesNames (names.Path text fault) (Err refusal) = (refusal.path ≡ text) × Refuses {B = ℕ} fault (Err refusal.fault)
RefusesNames names.Device given = Unit {0}
RefusesNames names.Memory given = Unit {0}

-- the disk failed, or memory ended
abbrev pub IsStopped : TreeFault → Type 0
IsStopped (faults.NotFound position) = ⊥
IsStopped (faults.NotDirectory position) = ⊥
IsStopped faults.NotFile = ⊥
IsStopped faults.TooManyLinks = ⊥
IsStopped (faults.BadEntry directory) = ⊥
IsStopped faults.PathTooLong = ⊥
IsStopped (faults.Zone (zones.Layout fault)) = ⊥
IsStopped (faults.Zone (zones.ZoneOutside zone)) = ⊥
IsStopped (faults.Zone zones.Device) = Unit {0}
IsStopped faults.Memory = Unit {0}

-- the cause of a path's refusal isn't one of these
abbrev pub IsOfPath : TreeFault → Type 0
IsOfPath fault = IsStopped fault → ⊥

-- the cause of a refusal: where the disk failed, the count of faults rose
abbrev pub HasNameCause : ℕ → ℕ → NameFault → Type 0
HasNameCause before now (names.Path text fault) = IsOfPath fault
HasNameCause before now names.Device = Rose before now
HasNameCause before now names.Memory = Unit {0}
