-- What is at a name of a directory.
use Rattle.std.proofs.Common.{◌≡◌, ℕ, Bool, true, false, List, ◌∷◌, bytes_eq, Option, Some, None, Result, Ok, Err, refl, ◌∙◌, ap, subst}
use Rattle.std.specs.Prelude.{IfErr}
use Rattle.disk_trait.specs.Past.{Past, Told, now_of}
use Rattle.lilo_model.specs.MinixLayout.{Super}
use Rattle.lilo_model.specs.MinixParts as volumes
use Rattle.lilo_model.specs.MinixParts.{Parts, parts_of, is_directory}
use Rattle.lilo_model.specs.MinixEntries.{here_name, above_name}
use Rattle.lilo_model.specs.MinixFind as model
use Rattle.lilo_model.specs.MinixFind.{child}
use Rattle.lilo_model.specs.MinixNames.{reached, thing, names, Sound, IsSound}
use Rattle.lilo_model.specs.MinixFindNames.{leads_to_directory, path_above, path_there, path_below, child_path, AgreesOn}
use Rattle.lilo_model.specs.NamePlaces.{plain_path}
use Rattle.minix_zones.specs.declared.zone_fault.ZoneFault.TheVariants as zones
use Rattle.minix_tree.specs.declared.stat.Stat.{Stat}
use Rattle.minix_tree.specs.declared.tree_fault.TreeFault.{TreeFault}
use Rattle.minix_tree.specs.declared.tree_fault.TreeFault.TheVariants as faults
use Rattle.minix_tree.specs.View.{Gives, Refuses, HasTreeCause}
use Rattle.minix_laws.proofs.FindNames.{thing-directory, names-reached, child-agrees}
use Rattle.minix_names.specs.Ends.{found_or_last}
use Rattle.minix_names.specs.Places.{LeadsToDirectory, GivesThere, number_found}

module _ (super : Super) (parts : Parts) (sound : Sound super parts) where
  -- what a component of a directory gives
  abbrev IsThere : List (List ℕ) → Result (Option ℕ) model.TreeFault → Type 0
  IsThere path (Ok found) = reached super parts (plain_path path) ≡ found
  IsThere path (Err fault) = ⊥

  dots-there : (above path : List (List ℕ)) (found : Result ℕ model.TreeFault) → AgreesOn super parts found (Ok path)
      → plain_path above ≡ path → IsThere above (found_or_last true found)
  dots-there above path (Ok inode) h is = ap (reached super parts) is ∙ h
  dots-there above path (Err fault) h is = absurd h

  nowhere : (path : List (List ℕ)) (thing_there : Option ℕ) → reached super parts path ≡ thing_there
      → (found : Result ℕ model.TreeFault) → (plain : List (List ℕ)) → plain_path plain ≡ path
      → AgreesOn super parts found (path_there 0 path (names super parts path)) → IsThere plain (found_or_last true found)
  unfolding names
  nowhere path None is (Ok inode) plain same h = absurd (rw is at h)
  nowhere path None is (Err fault) plain same h =
      let none : fault ≡ model.NotFound 0 = rw is at h in
      rw none (ap (reached super parts) same ∙ is)
  nowhere path (Some number) is (Ok inode) plain same h =
      let here : reached super parts path ≡ Some inode = rw is at h in
      ap (reached super parts) same ∙ here
  nowhere path (Some number) is (Err fault) plain same h = absurd (rw is at h)

  there-by : (above : List (List ℕ)) (name : List ℕ) (here up : Bool) → bytes_eq here_name name ≡ here → bytes_eq above_name name ≡ up
      → (found : Result ℕ model.TreeFault) → AgreesOn super parts found (path_below (names super parts) above 0 name)
      → IsThere (name ∷ above) (found_or_last true found)
  there-by above name true up is_here is_up found h = dots-there (name ∷ above) above found (rw is_here at h) (rw is_here refl)
  there-by above name false true is_here is_up found h = dots-there (name ∷ above) (path_above above) found (rw (is_here, is_up) at h) (rw (is_here, is_up) refl)
  there-by above name false false is_here is_up found h =
      nowhere (name ∷ above) (reached super parts (name ∷ above)) refl found (name ∷ above) (rw (is_here, is_up) refl) (rw (is_here, is_up) at h)

  there : (above : List (List ℕ)) (directory : ℕ) (name : List ℕ) → LeadsToDirectory super parts above directory
      → IsThere (name ∷ above) (found_or_last true (child super parts directory 0 name))
  unfolding child_path
  there above directory name is =
      let dir : leads_to_directory (Some (thing super parts directory)) ≡ true = thing-directory super parts directory ∙ is.is in
      let below : child_path (names super parts) above 0 name ≡ path_below (names super parts) above 0 name =
      rw (names-reached super parts above directory is.leads, dir) refl in
      there-by above name (bytes_eq here_name name) (bytes_eq above_name name) refl refl (child super parts directory 0 name)
      (subst (AgreesOn super parts (child super parts directory 0 name)) below (child-agrees super parts sound above directory 0 name is.leads))

  -- what isn't refused is refused only where the disk failed
  only-device : (path : List (List ℕ)) (found : Result (Option ℕ) model.TreeFault) (fault : TreeFault) (before after : ℕ) → IsThere path found
      → Refuses fault found → HasTreeCause before after fault → fault ≡ faults.Zone zones.Device
  only-device path found (faults.NotFound position) before after is refused cause = absurd (subst (IsThere path) refused is)
  only-device path found (faults.NotDirectory position) before after is refused cause = absurd (subst (IsThere path) refused is)
  only-device path found faults.NotFile before after is refused cause = absurd (subst (IsThere path) refused is)
  only-device path found faults.TooManyLinks before after is refused cause = absurd (subst (IsThere path) refused is)
  only-device path found (faults.BadEntry directory) before after is refused cause = absurd (subst (IsThere path) refused is)
  only-device path found faults.PathTooLong before after is refused cause = absurd (subst (IsThere path) refused is)
  only-device path found (faults.Zone (zones.Layout fault)) before after is refused cause = absurd (subst (IsThere path) refused is)
  only-device path found (faults.Zone (zones.ZoneOutside zone)) before after is refused cause = absurd (subst (IsThere path) refused is)
  only-device path found (faults.Zone zones.Device) before after is refused cause = refl
  only-device path found faults.Memory before after is refused cause = absurd cause

  pub gives-there : (above : List (List ℕ)) (directory : ℕ) (name : List ℕ) (result : Result (Option Stat) TreeFault) (before after : ℕ)
      → LeadsToDirectory super parts above directory
      → Gives number_found result (found_or_last true (child super parts directory 0 name)) → IfErr result (HasTreeCause before after)
      → GivesThere super parts (name ∷ above) result
  gives-there above directory name (Ok found) before after is gives cause =
      subst (IsThere (name ∷ above)) gives (there above directory name is)
  gives-there above directory name (Err fault) before after is gives cause =
      only-device (name ∷ above) (found_or_last true (child super parts directory 0 name)) fault before after (there above directory name is) gives cause

-- ---- where the past is told

pub told-there : (past : Option Past) (volume : volumes.Volume) (directory : ℕ) (name : List ℕ) (result : Result (Option Stat) TreeFault) (before after : ℕ)
    → Told past (λ now. Gives number_found result (found_or_last true (child volume.layout (parts_of volume now) directory 0 name)))
    → IfErr result (HasTreeCause before after)
    → Told past (λ now. IsSound volume now → (above : List (List ℕ)) → LeadsToDirectory volume.layout (parts_of volume now) above directory
    → GivesThere volume.layout (parts_of volume now) (name ∷ above) result)
unfolding IsSound
told-there None volume directory name result before after gives cause = tt
told-there (Some past) volume directory name result before after gives cause = λ sound above is.
    gives-there volume.layout (parts_of volume (now_of past)) sound.parts above directory name result before after is gives cause
