-- The texts and the exit status of refused installations are the model's.
use Rattle.std.specs.Prelude.{◌≡◌, ◌++◌, codes}
use Rattle.disk_trait.specs.declared.disks.Phase.{Phase}
use Rattle.install_apart.specs.Faults.{IsOfPath}
use Rattle.install_laws.specs.InstallVerdict.{InstallRefusal, install_line, install_status}
use Rattle.install_order.specs.Faults.{IsOfFile, RefusesFor}
use Rattle.install_order.specs.declared.fault.InstallFault.{InstallFault}
use Rattle.install_order.specs.declared.fault.InstallFault.TheVariants as faults
use Rattle.install_run.specs.Texts.{fault_status, fault_text}

-- it is a refusal: neither a disk failed nor memory ended
abbrev pub IsRefusal : InstallFault → Type 0
IsRefusal (faults.Survey fault) = Unit {0}
IsRefusal (faults.NotApart which) = Unit {0}
IsRefusal (faults.Path path fault) = IsOfPath fault
IsRefusal (faults.Plan fault) = Unit {0}
IsRefusal (faults.Write fault) = IsOfFile fault
IsRefusal faults.Device = ⊥
IsRefusal faults.Memory = ⊥

-- what is printed of a refusal is its line
abbrev pub TextLaw : Type 0
TextLaw =
    (fault : InstallFault) (phase : Phase) (refusal : InstallRefusal) → RefusesFor fault refusal → IsRefusal fault
    → codes "lilo: " ++ fault_text fault phase ≡ install_line refusal

-- and so is its status
abbrev pub StatusLaw : Type 0
StatusLaw =
    (fault : InstallFault) (phase : Phase) (refusal : InstallRefusal) → RefusesFor fault refusal → IsRefusal fault
    → fault_status fault phase ≡ install_status refusal
