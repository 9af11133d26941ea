-- What is printed of an installation that is refused, after `lilo: `, and its exit status (this project's own).
use Rattle.std.specs.Prelude.{ℕ, List, ◌++◌, codes, decimal}
use Rattle.disk_trait.specs.declared.disks.Phase.{Phase}
use Rattle.disk_trait.specs.declared.disks.Phase.TheVariants.{Before, Commit, After}
use Rattle.lilo_model.specs.ConfOptions.{opt_name}
use Rattle.lilo_model.specs.Partitions.{device_fault}
use Rattle.lilo_model.specs.PlanRefusal.{address_text}
use Rattle.lilo_model.specs.Refusal.{device_text}
use Rattle.conf_settings.specs.View.{opt_view}
use Rattle.mbr_table.specs.View.{table_fault_view}
use Rattle.sector_address.specs.View.{address_fault_view}
use Rattle.minix_tree.specs.declared.tree_fault.TreeFault.{TreeFault}
use Rattle.minix_tree.specs.declared.tree_fault.TreeFault.TheVariants as trees
use Rattle.minix_choice.specs.declared.write_fault.WriteFault.{WriteFault}
use Rattle.minix_choice.specs.declared.write_fault.WriteFault.TheVariants as writes
use Rattle.map_plan.specs.declared.fault.PlanFault.{PlanFault}
use Rattle.map_plan.specs.declared.fault.PlanFault.TheVariants as plans
use Rattle.install_order.specs.declared.fault.InstallFault.{InstallFault}
use Rattle.install_order.specs.declared.fault.InstallFault.TheVariants as faults

-- ---- texts

-- of a path that can't be followed, or leads to no regular file
abbrev pub path_text : List ℕ → TreeFault → List ℕ
path_text path (trees.NotFound position) = codes "volume: missing " ++ path ++ codes "\n"
path_text path (trees.NotDirectory position) = codes "volume: path " ++ path ++ codes "\n"
path_text path trees.NotFile = codes "volume: not a file\n"
path_text path trees.TooManyLinks = codes "volume: path " ++ path ++ codes "\n"
path_text path (trees.BadEntry directory) = codes "volume: path " ++ path ++ codes "\n"
path_text path trees.PathTooLong = codes "volume: path " ++ path ++ codes "\n"
path_text path (trees.Zone fault) = codes "volume: layout\n"
path_text path trees.Memory = codes "volume: path " ++ path ++ codes "\n"

-- of a plan
abbrev pub plan_text : PlanFault → List ℕ
plan_text (plans.Missing text) = codes "volume: missing " ++ text ++ codes "\n"
plan_text plans.NoImagesLeft = codes "volume: no images left\n"
plan_text (plans.Header path fault) = codes "address: header " ++ path ++ codes "\n"
plan_text (plans.Address which fault) =
    codes "address: " ++ opt_name (opt_view which) ++ address_text (address_fault_view fault) ++ codes "\n"
plan_text (plans.TooManySlots which slots) =
    codes "address: " ++ opt_name (opt_view which) ++ codes " slots " ++ decimal slots ++ codes " over 4128705\n"
plan_text (plans.GeometryDiffers which have) =
    codes "address: geometry " ++ opt_name (opt_view which) ++ codes " is " ++ decimal have ++ codes "\n"
plan_text (plans.OtherIsBoot path) = codes "address: other is boot " ++ path ++ codes "\n"
plan_text (plans.NoSignature path) = codes "address: no signature " ++ path ++ codes "\n"
plan_text (plans.MessageTooLong size) = codes "address: message " ++ decimal size ++ codes " over 65535\n"
plan_text (plans.Table fault) = codes "volume: " ++ device_text (device_fault (table_fault_view fault)) ++ codes "\n"
plan_text (plans.Tree path fault) = codes "volume: path " ++ path ++ codes "\n"
plan_text plans.Device = codes "device\n"
plan_text plans.Memory = codes "memory\n"

-- of the room for a file, or of a link
abbrev pub write_text : WriteFault → List ℕ
write_text (writes.NoSpace need found) = codes "space: need " ++ decimal need ++ codes ", found " ++ decimal found ++ codes "\n"
write_text writes.NoInode = codes "space: no inode\n"
write_text writes.NameTooLong = codes "space: name\n"
write_text writes.Exists = codes "space: \n"
write_text writes.Links = codes "space: links\n"
write_text (writes.Tree fault) = codes "space: \n"
write_text writes.Device = codes "device\n"
write_text writes.Memory = codes "memory\n"

-- of a disk that failed, by how far the installation came
abbrev pub device_line : Phase → List ℕ
device_line Before = codes "device\n"
device_line Commit = codes "device at commit\n"
device_line After = codes "device after commit\n"

abbrev pub fault_text : InstallFault → Phase → List ℕ
fault_text (faults.Survey fault) phase = codes "volume: survey\n"
fault_text (faults.NotApart which) phase = codes "address: " ++ opt_name (opt_view which) ++ codes " is not apart\n"
fault_text (faults.Path path fault) phase = path_text path fault
fault_text (faults.Plan fault) phase = plan_text fault
fault_text (faults.Write fault) phase = write_text fault
fault_text faults.Device phase = device_line phase
fault_text faults.Memory phase = codes "memory\n"

-- ---- the exit status

abbrev pub device_status : Phase → ℕ
device_status Before = 8
device_status Commit = 9
device_status After = 10

abbrev pub plan_status : PlanFault → ℕ
plan_status (plans.Missing text) = 3
plan_status plans.NoImagesLeft = 3
plan_status (plans.Header path fault) = 4
plan_status (plans.Address which fault) = 4
plan_status (plans.TooManySlots which slots) = 4
plan_status (plans.GeometryDiffers which have) = 4
plan_status (plans.OtherIsBoot path) = 4
plan_status (plans.NoSignature path) = 4
plan_status (plans.MessageTooLong size) = 4
plan_status (plans.Table fault) = 3
plan_status (plans.Tree path fault) = 3
plan_status plans.Device = 8
plan_status plans.Memory = 13

abbrev pub fault_status : InstallFault → Phase → ℕ
fault_status (faults.Survey fault) phase = 3
fault_status (faults.NotApart which) phase = 4
fault_status (faults.Path path fault) phase = 3
fault_status (faults.Plan fault) phase = plan_status fault
fault_status (faults.Write fault) phase = 5
fault_status faults.Device phase = device_status phase
fault_status faults.Memory phase = 13
