-- The machine of some disks, and what is said of it and of what they hold.
use Rattle.std.specs.Prelude.{ℕ}
use Rattle.disk_trait.specs.Past.{Told}
use Rattle.disk_trait.specs.declared.disks.Disks.{Ghosts}
use Rattle.disk_trait.specs.declared.geometry.Geometry.{Geometry}
use Rattle.lilo_model.specs.Disks.{Image, Machine}
use Rattle.sector_address.specs.View.{geometry_view}

-- a machine whose disks have these sizes and geometries
abbrev pub machine_with : (ℕ → ℕ) → (ℕ → Geometry) → Machine
machine_with size geometry = record { size_of = size; geometry_of = λ disk. geometry_view (geometry disk) }

-- the machine of some disks
abbrev pub machine_of : {D : Type 0} → Ghosts D → D → Machine
machine_of g disks = machine_with (g.size_of disks) (g.geometry_of disks)

-- a fact about what disks hold and about their machine, where they report their past
abbrev pub OnDisks : {D : Type 0} → Ghosts D → D → (Image → Machine → Type 0) → Type 0
OnDisks g disks P = Told (g.past disks) (λ now. P now (machine_of g disks))
