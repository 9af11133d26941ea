-- When an answer is the model's, and where memory may be lacking.
use Rattle.std.specs.Prelude.{◌≡◌, ℕ, List, Option, Result, Ok, Err}
use Rattle.lilo_model.specs.Devices.{Device}
use Rattle.lilo_model.specs.Disks.{Image, Machine, Span}
use Rattle.lilo_model.specs.Faults.{Rose}
use Rattle.lilo_model.specs.ConfVerdict as model
use Rattle.lilo_model.specs.Refusal as refusals
use Rattle.lilo_model.specs.Refusal.{Refusal}
use Rattle.lilo_model.specs.MinixParts.{Volume, volume_at, parts_of}
use Rattle.lilo_model.specs.VolumeSearch.{Located, volume_place}
use Rattle.mbr_table.specs.View.{device_view}
use Rattle.mbr_table.specs.declared.table_fault.TableFault.TheVariants as tables
use Rattle.minix_tree.specs.File.{LeadsToFile}
use Rattle.minix_tree.specs.declared.tree_fault.TreeFault.{TreeFault}
use Rattle.minix_tree.specs.declared.tree_fault.TreeFault.TheVariants as trees
use Rattle.minix_zones.specs.declared.zone_fault.ZoneFault.TheVariants as zones
use Rattle.minix_search.specs.View.{Tells}
use Rattle.conf_file.specs.declared.conf_file.ConfFile.{ConfFile}
use Rattle.conf_file.specs.declared.file_fault.FileFault.{FileFault}
use Rattle.conf_file.specs.declared.file_fault.FileFault.TheVariants as faults

-- a file of this path was refused as the model refuses it, or a disk failed, or there was no memory
abbrev pub Refuses : {A : Type 0} → List ℕ → FileFault → Result A Refusal → Type 0
Refuses path faults.NoVolume given = given ≡ Err refusals.NoVolume
Refuses path (faults.Place fault) given = Tells fault (λ told. Err (refusals.Device told)) given
Refuses path faults.Device given = Unit {0}
Refuses path faults.Layout given = given ≡ Err refusals.Layout
Refuses path faults.Missing given = given ≡ Err (refusals.Missing path)
Refuses path faults.BadPath given = given ≡ Err (refusals.BadPath path)
Refuses path faults.Memory given = Unit {0}

-- a file
abbrev pub file_view : ConfFile → model.ConfFile
file_view file = record { device = device_view file.device; text = file.text }

-- what was answered is what the model gives, unless a disk failed or there was no memory
abbrev pub Gives : List ℕ → Result ConfFile FileFault → Result model.ConfFile Refusal → Type 0
Gives path (Ok file) given = given ≡ Ok (file_view file)
Gives path (Err fault) given = Refuses path fault given

-- the same of its bytes
abbrev pub GivesText : List ℕ → Result (List ℕ) FileFault → Result (List ℕ) Refusal → Type 0
GivesText path (Ok text) given = given ≡ Ok text
GivesText path (Err fault) given = Refuses path fault given

-- the cause of a refusal: where a disk failed, the count of faults rose
abbrev pub HasCause : ℕ → ℕ → FileFault → Type 0
HasCause before now (faults.Place tables.Device) = Rose before now
HasCause before now faults.Device = Rose before now
HasCause before now fault = Unit {0}

-- a path leads to a regular file on the volume that lies here
abbrev pub LeadsToFileOn : Image → Span → List ℕ → Type 0
LeadsToFileOn image span path =
    (volume : Volume) × (volume_at image span ≡ Ok volume) × LeadsToFile volume.layout (parts_of volume image) path

-- a path leads to a regular file on the volume of a run
abbrev pub LeadsToConf : Image → Machine → Option Device → List ℕ → Type 0
LeadsToConf image machine root path =
    (place : Located) × (volume_place image machine root ≡ Ok place) × LeadsToFileOn image place.span path

-- a refusal of a path is reported so
abbrev pub IsTreeFault : TreeFault → FileFault → Type 0
IsTreeFault (trees.NotFound position) told = told ≡ faults.Missing
IsTreeFault (trees.Zone zones.Device) told = told ≡ faults.Device
IsTreeFault (trees.Zone fault) told = told ≡ faults.Layout
IsTreeFault trees.Memory told = told ≡ faults.Memory
IsTreeFault fault told = told ≡ faults.BadPath
