-- Where the new map lies once an installation is committed, and once it is done.
use Rattle.std.proofs.Common.{◌≡◌, ◌⊎◌, ℕ, List, None, Some, Ok, inl, inr, subst}
use Rattle.disk_trait.specs.declared.disks.Disks.{Ghosts}
use Rattle.disk_trait.proofs.LawLemmas.{end_of_run_law}
use Rattle.disk_trait.proofs.MomentLemmas.{leaves_weaker}
use Rattle.lilo_model.specs.Disks.{Image}
use Rattle.lilo_model.specs.Lays.{Lays}
use Rattle.lilo_model.specs.MinixNames.{names_in, reached}
use Rattle.lilo_model.specs.MinixParts.{Volume, parts_of}
use Rattle.lilo_model.specs.NamePlaces.{with_tilde}
use Rattle.minix_zones.specs.View.{span_view}
use Rattle.minix_zones.specs.Volume.{volume_view, past_of}
use Rattle.install_join_laws.proofs.Leads.{leads-none}
use Rattle.install_join_laws.specs.LaidLaws.{CommittedLaysLaw, InstalledLaysLaw, LaysPlanned, planned_on}
use Rattle.install_join_laws.specs.Steps.{machine_on}
use Rattle.install_join_laws.proofs.Kept.{boot-is}
use Rattle.install_join_laws.proofs.KeptInstalled.{installed_law, map-run}

-- the boot sector that was there once names were settled is the one at the entry
pub committed_lays_law : {D : Type 0} (disks : Ghosts D) → CommittedLaysLaw disks
committed_lays_law disks entry new config boot time surveyed planned staged committed names result is has lies own did commits tidies =
    leaves_weaker (past_of committed.volume) (past_of new) _ _
    (map-run entry config boot time surveyed planned staged is has lies did names own committed commits new result tidies)
    (λ c map.
    subst (λ (present : List ℕ). Lays c (machine_on entry) (volume_view entry) (span_view surveyed.boot) (planned_on entry surveyed) names.map present)
    (boot-is entry config boot time surveyed is lies.there names own) map.lays)

-- of the two paths it is the first that leads to the map, where nothing is at the other
at-map : (volume : Volume) (c : Image) (path : List (List ℕ)) (holder : ℕ) → names_in volume c (with_tilde path) ≡ None
    → (reached volume.layout (parts_of volume c) path ≡ Some holder) ⊎ (reached volume.layout (parts_of volume c) (with_tilde path) ≡ Some holder)
    → reached volume.layout (parts_of volume c) path ≡ Some holder
at-map volume c path holder gone (inl leads) = leads
at-map volume c path holder gone (inr leads) = absurd (leads-none volume c (with_tilde path) holder leads gone)

pub installed_lays_law : {D : Type 0} (disks : Ghosts D) → InstalledLaysLaw disks
installed_lays_law disks entry new config boot time surveyed planned staged committed names is has lies own did commits tidies quiet c left =
    let lays =
    end_of_run_law (LaysPlanned entry surveyed names) (past_of committed.volume) (past_of new)
    (committed_lays_law disks entry new config boot time surveyed planned staged committed names (Ok tt) is has lies own did commits tidies) c left in
    let there = installed_law disks entry new config boot time surveyed planned staged committed names is has lies own did commits tidies quiet c left in
    record { lays = lays; leads = at-map (volume_view entry) c names.map lays.holder there.tilde lays.leads }
