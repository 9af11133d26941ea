-- Where the name is that a path ends with.
use Rattle.std.proofs.Common.{◌≡◌, ℕ, Bool, true, false, List, ◌∷◌, length, Option, Some, None, Result, Ok, Err, refl, sym, ◌∙◌, ap, subst}
use Rattle.disk_trait.specs.Past.{Past, Told, now_of}
use Rattle.lilo_model.specs.Disks.{Image}
use Rattle.lilo_model.specs.MinixLayout.{Inode}
use Rattle.lilo_model.specs.MinixParts.{Volume, parts_of, is_directory}
use Rattle.lilo_model.specs.MinixFind as model
use Rattle.lilo_model.specs.MinixFind.{NotFile, NotDirectory, components, find_path}
use Rattle.lilo_model.specs.MinixNames.{reached, names_in, IsSound}
use Rattle.lilo_model.specs.MinixFindNames.{Names, leads_to_directory, path_of, AgreesOn}
use Rattle.lilo_model.specs.NamePlaces.{NameSplit, split_at_last, name_path}
use Rattle.minix_zones.specs.declared.zone_fault.ZoneFault.TheVariants as zones
use Rattle.minix_tree.specs.declared.tree_fault.TreeFault.{TreeFault}
use Rattle.minix_tree.specs.declared.tree_fault.TreeFault.TheVariants as faults
use Rattle.minix_tree.specs.View.{Refuses}
use Rattle.minix_tree.proofs.RefuseLemmas.{refused_ok, refused_then}
use Rattle.minix_laws.proofs.FindNames.{thing-directory, names-reached}
use Rattle.minix_laws.proofs.WalkNames.{find_law}
use Rattle.minix_names.specs.declared.place.NamePlace.{NamePlace}
use Rattle.minix_names.specs.Places.{GivesPath}

-- a path before its last component, and that
abbrev split_with : List ℕ → List ℕ → NameSplit
split_with before name = record { before = before; name = name }

pub no-name : (past : Option Past) (volume : Volume) (path : List ℕ) → None ≡ split_at_last path (components path)
    → Told past (λ now. IsSound volume now → name_path (names_in volume now) path ≡ Err NotFile)
unfolding name_path
no-name None volume path none = tt
no-name (Some past) volume path none = λ sound. rw (sym none) refl

-- a refusal is one whatever was asked for
same-refused : (fault : TreeFault) (why : model.TreeFault) → Refuses {B = ℕ} fault (Err why) → Refuses {B = List (List ℕ)} fault (Err why)
same-refused (faults.NotFound position) why refused = cc
same-refused (faults.NotDirectory position) why refused = cc
same-refused faults.NotFile why refused = cc
same-refused faults.TooManyLinks why refused = cc
same-refused (faults.BadEntry directory) why refused = cc
same-refused faults.PathTooLong why refused = cc
same-refused (faults.Zone (zones.Layout fault)) why refused = cc
same-refused (faults.Zone (zones.ZoneOutside zone)) why refused = cc
same-refused (faults.Zone zones.Device) why refused = tt
same-refused faults.Memory why refused = tt

refused-alike : (volume : Volume) (image : Image) (fault : TreeFault) (found : Result ℕ model.TreeFault) (place : Result (List (List ℕ)) model.TreeFault)
    → AgreesOn volume.layout (parts_of volume image) found place → Refuses fault found → Refuses fault place
refused-alike volume image fault (Ok inode) (Ok path) h refused = refused_ok fault inode (Ok path) refused
refused-alike volume image fault (Ok inode) (Err why) h refused = absurd h
refused-alike volume image fault (Err why) (Ok path) h refused = absurd h
refused-alike volume image fault (Err why) (Err other) h refused =
    subst (λ (f : model.TreeFault). Refuses {B = List (List ℕ)} fault (Err f)) h (same-refused fault why refused)

pub above-refused : (past : Option Past) (volume : Volume) (path before name : List ℕ) (fault : TreeFault)
    → Some (split_with before name) ≡ split_at_last path (components path)
    → Told past (λ now. Refuses fault (find_path volume.layout (parts_of volume now) true before))
    → Told past (λ now. IsSound volume now → Refuses fault (name_path (names_in volume now) path))
unfolding name_path
above-refused None volume path before name fault is refused = tt
above-refused (Some past) volume path before name fault is refused = λ sound.
    rw (sym is)
    (refused_then fault (path_of (names_in volume (now_of past)) true before) _
    (refused-alike volume (now_of past) fault (find_path volume.layout (parts_of volume (now_of past)) true before) (path_of (names_in volume (now_of past)) true before)
    (find_law volume (now_of past) sound true before) refused))

same-inode : (found : Result ℕ model.TreeFault) (one other : ℕ) → found ≡ Ok one → found ≡ Ok other → Some one ≡ Some other
same-inode found one other a b = cc

-- the path of the directory
path-found : (volume : Volume) (image : Image) (inode : ℕ) (found : Result ℕ model.TreeFault) (place : Result (List (List ℕ)) model.TreeFault)
    → AgreesOn volume.layout (parts_of volume image) found place → found ≡ Ok inode
    → (path : List (List ℕ)) × (place ≡ Ok path) × (reached volume.layout (parts_of volume image) path ≡ Some inode)
path-found volume image inode (Ok other) (Ok path) h is = (path, refl, h ∙ same-inode (Ok other) other inode refl is)
path-found volume image inode (Ok other) (Err fault) h is = absurd h
path-found volume image inode (Err fault) place h is = cc

thing-found : (volume : Volume) (image : Image) (path : List (List ℕ)) (inode : ℕ) (node : Inode) (is : Bool)
    → reached volume.layout (parts_of volume image) path ≡ Some inode → node ≡ (parts_of volume image).node inode → is_directory node ≡ is
    → leads_to_directory (names_in volume image path) ≡ is
unfolding names_in
thing-found volume image path inode node is there same dir =
    rw (names-reached volume.layout (parts_of volume image) path inode there)
    (thing-directory volume.layout (parts_of volume image) inode ∙ sym (ap (λ (n : Inode). is_directory n) same) ∙ dir)

pub no-directory : (past : Option Past) (volume : Volume) (path before name : List ℕ) (inode : ℕ) (node : Inode) (count : ℕ)
    → Some (split_with before name) ≡ split_at_last path (components path)
    → Told past (λ now. find_path volume.layout (parts_of volume now) true before ≡ Ok inode)
    → Told past (λ now. node ≡ (parts_of volume now).node inode) → is_directory node ≡ false → count ≡ length (components before)
    → Told past (λ now. IsSound volume now → name_path (names_in volume now) path ≡ Err (NotDirectory count))
unfolding name_path
no-directory None volume path before name inode node count is found same dir many = tt
no-directory (Some past) volume path before name inode node count is found same dir many = λ sound.
    let at = path-found volume (now_of past) inode (find_path volume.layout (parts_of volume (now_of past)) true before) (path_of (names_in volume (now_of past)) true before)
    (find_law volume (now_of past) sound true before) found in
    let no = thing-found volume (now_of past) at.0 inode node false at.2 same dir in
    rw (sym is, at.1, no) (ap (λ (n : ℕ). Err (NotDirectory n)) (sym many))

placed : (names : Names) (path before name : List ℕ) (directory : List (List ℕ)) → Some (split_with before name) ≡ split_at_last path (components path)
    → path_of names true before ≡ Ok directory → leads_to_directory (names directory) ≡ true → name_path names path ≡ Ok (name ∷ directory)
unfolding name_path
placed names path before name directory is at folder = rw (sym is, at, folder) refl

pub is-there : (past : Option Past) (volume : Volume) (path : List ℕ) (place : NamePlace) (before : List ℕ) (node : Inode)
    → Some (split_with before place.name.now) ≡ split_at_last path (components path)
    → Told past (λ now. find_path volume.layout (parts_of volume now) true before ≡ Ok place.directory.inode)
    → Told past (λ now. node ≡ (parts_of volume now).node place.directory.inode) → is_directory node ≡ true
    → Told past (λ now. IsSound volume now → GivesPath volume.layout (parts_of volume now) (name_path (names_in volume now) path) place)
is-there None volume path place before node is found same dir = tt
is-there (Some past) volume path place before node is found same dir = λ sound.
    let at = path-found volume (now_of past) place.directory.inode (find_path volume.layout (parts_of volume (now_of past)) true before) (path_of (names_in volume (now_of past)) true before)
    (find_law volume (now_of past) sound true before) found in
    let yes = thing-found volume (now_of past) at.0 place.directory.inode node true at.2 same dir in
    record {
      path = place.name.now ∷ at.0;
      is = placed (names_in volume (now_of past)) path before place.name.now at.0 is at.1 yes;
      ends = record {
        above = at.0;
        is = refl;
        there = record {
          leads = at.2;
          is = sym (ap (λ (n : Inode). is_directory n) same) ∙ dir;
        };
      };
    }
