-- A file by its path.
use Rattle.std.proofs.Common.{◌≡◌, ℕ, Bool, true, false, ◌||◌, List, Option, None, Some, Result, Ok, Err, refl, sym, ap, ◌∙◌}
use Rattle.disk_trait.specs.Past.{Past, Told, now_of}
use Rattle.lilo_model.specs.Checks.{◌>>=◌, require, with_fault}
use Rattle.lilo_model.specs.Disks.{Image, DiskSector}
use Rattle.lilo_model.specs.MinixLayout.{Inode}
use Rattle.lilo_model.specs.MinixParts as volumes
use Rattle.lilo_model.specs.MinixParts.{Volume, Parts, parts_of, is_file, is_link, is_directory}
use Rattle.lilo_model.specs.MinixNames.{Named, IsSound}
use Rattle.lilo_model.specs.MinixFind as model
use Rattle.lilo_model.specs.MinixFind.{NotFile, Zone, find}
use Rattle.lilo_model.specs.MinixFindNames.{path_of, AgreesOn}
use Rattle.lilo_model.specs.MinixNames.{names_in}
use Rattle.lilo_model.specs.Plan.{MappedFile}
use Rattle.lilo_model.specs.Planned.{mapped_inode}
use Rattle.minix_laws.proofs.WalkNames.{find_law}
use Rattle.minix_tree.specs.declared.tree_fault.TreeFault.{TreeFault}
use Rattle.minix_tree.specs.View.{Refuses}
use Rattle.minix_tree.proofs.RefuseLemmas.{refused_then}
use Rattle.file_runs.specs.Places.{file_places}
use Rattle.file_runs.specs.Mapped.{file_mapped, MappedLaw}
use Rattle.file_runs.proofs.PlacesLemmas.{places_law}

module _ (volume : Volume) (path : List ℕ) where
  -- the path is refused
  pub path-refused : (past : Option Past) (fault : TreeFault)
      → Told past (λ now. Refuses fault (find volume.layout (parts_of volume now) path))
      → Told past (λ now. Refuses fault (file_mapped volume (parts_of volume now) path))
  unfolding file_mapped
  path-refused None fault refused = tt
  path-refused (Some past) fault refused =
      refused_then fault (find volume.layout (parts_of volume (now_of past)) path)
      (λ number. require (is_file ((parts_of volume (now_of past)).node number)) NotFile
      >>= λ a. with_fault Zone (file_places volume (parts_of volume (now_of past)) ((parts_of volume (now_of past)).node number))
      >>= λ places. Ok (record { size = ((parts_of volume (now_of past)).node number).size; places = places })) refused

  module _ (inode : ℕ) (node : Inode) where
    -- it leads to no file
    pub not-file : (past : Option Past)
        → Told past (λ now. find volume.layout (parts_of volume now) path ≡ Ok inode)
        → Told past (λ now. node ≡ (parts_of volume now).node inode) → is_file node ≡ false
        → Told past (λ now. file_mapped volume (parts_of volume now) path ≡ Err NotFile)
    unfolding file_mapped
    not-file None found is file = tt
    not-file (Some past) found is file =
        let here : is_file ((parts_of volume (now_of past)).node inode) ≡ false = sym (ap is_file is) ∙ file in
        rw (found, here) refl

    -- it leads to a file, whose sectors lie somewhere or are refused
    pub file-there : (past : Option Past)
        → Told past (λ now. find volume.layout (parts_of volume now) path ≡ Ok inode)
        → Told past (λ now. node ≡ (parts_of volume now).node inode) → is_file node ≡ true
        → Told past (λ now. file_mapped volume (parts_of volume now) path
        ≡ (with_fault Zone (file_places volume (parts_of volume now) node) >>= λ places. Ok (record { size = node.size; places = places })))
    unfolding file_mapped
    file-there None found is file = tt
    file-there (Some past) found is file =
        let C : Inode → Result MappedFile model.TreeFault = λ n. with_fault Zone (file_places volume (parts_of volume (now_of past)) n) >>= λ places. Ok (record { size = n.size; places = places }) in
        let here : is_file ((parts_of volume (now_of past)).node inode) ≡ true = sym (ap is_file is) ∙ file in
        rw (found, here) (ap C (sym is))

-- the sectors' refusal is the file's
pub sectors-refused : (past : Option Past) (fault : TreeFault) (found : Image → Result (List (Option DiskSector)) model.TreeFault) (next : List (Option DiskSector) → Result MappedFile model.TreeFault)
    → Told past (λ now. Refuses fault (found now)) → Told past (λ now. Refuses fault (found now >>= next))
sectors-refused None fault found next refused = tt
sectors-refused (Some past) fault found next refused = refused_then fault (found (now_of past)) next refused

-- and their places
pub sectors-found : (past : Option Past) (found : Image → Result (List (Option DiskSector)) model.TreeFault) (next : List (Option DiskSector) → Result MappedFile model.TreeFault) (places : List (Option DiskSector))
    → Told past (λ now. found now ≡ Ok places) → Told past (λ now. (found now >>= next) ≡ next places)
sectors-found None found next places is = tt
sectors-found (Some past) found next places is = ap (λ (one : Result (List (Option DiskSector)) model.TreeFault). one >>= next) is

-- ---- on a sound volume

zones-of : (directory file link : Bool) → file ≡ true → (directory || file || link) ≡ true
zones-of true true link is = refl
zones-of false true link is = refl
zones-of directory false link is = cc

module _ (volume : Volume) (image : Image) (sound : IsSound volume image) where
  abbrev parts : Parts
  parts = parts_of volume image

  -- what is mapped of an inode that is a file or isn't
  abbrev mapped-by : ℕ → Bool → Result MappedFile model.TreeFault
  mapped-by number regular =
      require regular NotFile
      >>= λ a. with_fault Zone (file_places volume parts (parts.node number))
      >>= λ places. Ok (record { size = (parts.node number).size; places = places })

  by-file : (number : ℕ) (regular : Bool) → is_file (parts.node number) ≡ regular → Named volume.layout parts number
      → mapped-by number regular ≡ (require regular NotFile >>= λ a. Ok (mapped_inode volume parts number))
  unfolding mapped_inode
  by-file number false is named = refl
  by-file number true is named =
      ap (λ (found : Result (List (Option DiskSector)) volumes.ZoneFault). with_fault Zone found >>= λ places. Ok (record { size = (parts.node number).size; places = places }))
      (places_law volume image number sound named (zones-of (is_directory (parts.node number)) (is_file (parts.node number)) (is_link (parts.node number)) is))

  by-found : (found : Result ℕ model.TreeFault) (at : Result (List (List ℕ)) model.TreeFault) → AgreesOn volume.layout parts found at
      → (found >>= λ number. mapped-by number (is_file (parts.node number)))
      ≡ (found >>= λ number. require (is_file (parts.node number)) NotFile >>= λ a. Ok (mapped_inode volume parts number))
  by-found (Ok number) (Ok name) agrees = by-file number (is_file (parts.node number)) refl (record { path = name; leads = agrees })
  by-found (Ok number) (Err fault) agrees = absurd agrees
  by-found (Err fault) (Ok name) agrees = absurd agrees
  by-found (Err fault) (Err other) agrees = refl

pub mapped_law : MappedLaw
unfolding file_mapped
mapped_law volume image path sound =
    by-found volume image sound (find volume.layout (parts_of volume image) path) (path_of (names_in volume image) true path) (find_law volume image sound true path)
