-- Names that an installation replaces, as they are found and judged.
use Rattle.std.proofs.Common.{◌≡◌, ℕ, Bool, true, false, not, ◌&&◌, ◌||◌, if◌then◌else◌, List, ◌∷◌, ◌++◌, codes, is_some, option_map, Option, Some, None, Result, Ok, Err, refl, sym, ◌∙◌, ap, subst}
use Rattle.std.specs.Prelude.{IfSome}
use Rattle.disk_trait.specs.Past.{Past, Told, now_of}
use Rattle.lilo_model.specs.Checks.{◌>>=◌, require, with_fault}
use Rattle.lilo_model.specs.Conf.{Config}
use Rattle.lilo_model.specs.Devices.{Device}
use Rattle.lilo_model.specs.Disks.{Image}
use Rattle.lilo_model.specs.MinixLayout.{Super, Inode}
use Rattle.lilo_model.specs.MinixParts.{Volume, Parts, parts_of, is_file, is_link, is_directory}
use Rattle.lilo_model.specs.MinixFind as model
use Rattle.lilo_model.specs.MinixFind.{NotFile}
use Rattle.lilo_model.specs.MinixNames.{thing, names, names_in, IsSound}
use Rattle.lilo_model.specs.MinixFindNames.{Names}
use Rattle.lilo_model.specs.NamePlaces.{name_path, plain_path, with_tilde, backup_path}
use Rattle.lilo_model.specs.Settled.{PathRefusal, refused_path, file_or_nothing, replaceable_name, backup_name, own_names}
use Rattle.minix_layout.specs.View.{inode_view}
use Rattle.minix_zones.specs.declared.zone_fault.ZoneFault.TheVariants as zones
use Rattle.minix_tree.specs.declared.stat.Stat.{Stat}
use Rattle.minix_tree.specs.declared.tree_fault.TreeFault.{TreeFault}
use Rattle.minix_tree.specs.declared.tree_fault.TreeFault.TheVariants as faults
use Rattle.minix_tree.specs.View.{Refuses}
use Rattle.minix_tree.proofs.RefuseLemmas.{refused_then}
use Rattle.minix_names.specs.Places.{IsPlace, LeadsToDirectory, GivesPath, number_found}
use Rattle.minix_names.specs.declared.place.NamePlace.{NamePlace}
use Rattle.install_apart.specs.Faults.{IsStopped, IsOfPath, RefusesPath, RefusesNames, HasNameCause}
use Rattle.install_apart.specs.Names.{IsOwnName, IsPair, GivesNamePair, GivesPairAt, GivesPair, is_replaceable, is_pair_replaceable, is_file_found}
use Rattle.install_apart.specs.Own.{AreOwnNames, GivesBackupAt}
use Rattle.install_apart.specs.declared.fault.NameFault.{NameFault}
use Rattle.install_apart.specs.declared.fault.NameFault.TheVariants as refusals
use Rattle.install_apart.specs.declared.name.OwnName.{OwnName}
use Rattle.install_apart.specs.declared.name.NamePair.{NamePair}

-- ---- a pair

pub pair-found : (past : Option Past) (volume : Volume) (directory : ℕ) (name short longer : List ℕ) (plain tilde : OwnName) → short ≡ name → longer ≡ name ++ codes "~"
    → Told past (λ now. IsSound volume now → (above : List (List ℕ)) → LeadsToDirectory volume.layout (parts_of volume now) above directory
    → IsOwnName volume.layout (parts_of volume now) (short ∷ above) plain)
    → Told past (λ now. IsSound volume now → (above : List (List ℕ)) → LeadsToDirectory volume.layout (parts_of volume now) above directory
    → IsOwnName volume.layout (parts_of volume now) (longer ∷ above) tilde)
    → Told past (λ now. IsSound volume now → (path : List (List ℕ)) → IsPlace volume.layout (parts_of volume now) path directory name
    → IsPair volume.layout (parts_of volume now) path (record { plain = plain; tilde = tilde }))
pair-found None volume directory name short longer plain tilde same long first second = tt
pair-found (Some past) volume directory name short longer plain tilde same long first second = λ sound path place.
    let P : List (List ℕ) → Type 0 = λ p. IsOwnName volume.layout (parts_of volume (now_of past)) p plain in
    let Q : List (List ℕ) → Type 0 = λ p. IsOwnName volume.layout (parts_of volume (now_of past)) (with_tilde p) tilde in
    let L : List ℕ → Type 0 = λ n. IsOwnName volume.layout (parts_of volume (now_of past)) (n ∷ place.above) tilde in
    let S : List ℕ → Type 0 = λ n. IsOwnName volume.layout (parts_of volume (now_of past)) (n ∷ place.above) plain in
    record {
      plain = subst P (sym place.is) (subst S same (first sound place.above place.there));
      tilde = subst Q (sym place.is) (subst L long (second sound place.above place.there));
    }

stop-refuses : {B : Type 0} (fault : TreeFault) (given : Result B model.TreeFault) → IsStopped fault → Refuses fault given
stop-refuses (faults.NotFound position) given is = absurd is
stop-refuses (faults.NotDirectory position) given is = absurd is
stop-refuses faults.NotFile given is = absurd is
stop-refuses faults.TooManyLinks given is = absurd is
stop-refuses (faults.BadEntry directory) given is = absurd is
stop-refuses faults.PathTooLong given is = absurd is
stop-refuses (faults.Zone (zones.Layout fault)) given is = absurd is
stop-refuses (faults.Zone (zones.ZoneOutside zone)) given is = absurd is
stop-refuses (faults.Zone zones.Device) given is = tt
stop-refuses faults.Memory given is = tt

pair-in : (super : Super) (parts : Parts) (given : Result (List (List ℕ)) model.TreeFault) (place : NamePlace) (result : Result NamePair TreeFault)
    → GivesPath super parts given place
    → ((path : List (List ℕ)) → IsPlace super parts path place.directory.inode place.name.now → GivesNamePair super parts path result)
    → GivesPair super parts result given
pair-in super parts given place (Ok pair) at names = record { path = at.path; is = at.is; names = names at.path at.ends }
pair-in super parts given place (Err fault) at names = stop-refuses fault given (names at.path at.ends)

pub pair-of-path : (past : Option Past) (volume : Volume) (text : List ℕ) (place : NamePlace) (result : Result NamePair TreeFault)
    → Told past (λ now. IsSound volume now → GivesPath volume.layout (parts_of volume now) (name_path (names_in volume now) text) place)
    → Told past (λ now. IsSound volume now → (path : List (List ℕ)) → IsPlace volume.layout (parts_of volume now) path place.directory.inode place.name.now
    → GivesNamePair volume.layout (parts_of volume now) path result)
    → Told past (λ now. IsSound volume now → GivesPair volume.layout (parts_of volume now) result (name_path (names_in volume now) text))
pair-of-path None volume text place result at names = tt
pair-of-path (Some past) volume text place result at names = λ sound.
    pair-in volume.layout (parts_of volume (now_of past)) (name_path (names_in volume (now_of past)) text) place result (at sound) (names sound)

-- ---- what may be replaced

module _ (super : Super) (parts : Parts) where
  thing-file : (number : ℕ) (file link directory : Bool) → is_file (parts.node number) ≡ file → is_link (parts.node number) ≡ link → is_directory (parts.node number) ≡ directory
      → file_or_nothing (Some (thing super parts number)) ≡ require file NotFile
  unfolding thing
  thing-file number true link directory f l d = rw f refl
  thing-file number false true directory f l d = rw (f, l) refl
  thing-file number false false true f l d = rw (f, l, d) refl
  thing-file number false false false f l d = rw (f, l, d) refl

  found-file : (there : Option Stat) → IfSome there (λ stat. inode_view stat.node ≡ parts.node stat.inode)
      → file_or_nothing (option_map (thing super parts) (number_found there)) ≡ require (is_file_found there) NotFile
  found-file None node = refl
  found-file (Some stat) node =
      thing-file stat.inode (is_file (parts.node stat.inode)) (is_link (parts.node stat.inode)) (is_directory (parts.node stat.inode)) refl refl refl
      ∙ ap (λ (n : Inode). require (is_file n) NotFile) (sym node)

  own-file : (path : List (List ℕ)) (own : OwnName) → IsOwnName super parts path own
      → file_or_nothing (names super parts (plain_path path)) ≡ require (is_replaceable own) NotFile
  unfolding names
  own-file path own is = ap (λ (found : Option ℕ). file_or_nothing (option_map (thing super parts) found)) is.there ∙ found-file own.there is.node

in-file : (volume : Volume) (image : Image) (path : List (List ℕ)) (own : OwnName) → IsOwnName volume.layout (parts_of volume image) path own
    → file_or_nothing (names_in volume image (plain_path path)) ≡ require (is_replaceable own) NotFile
unfolding names_in
in-file volume image path own is = own-file volume.layout (parts_of volume image) path own is

-- a path's name by whether what is there may be replaced
judged : (names : Names) (both : Bool) (text : List ℕ) (path : List (List ℕ)) (one two : Bool) → name_path names text ≡ Ok path
    → file_or_nothing (names (plain_path path)) ≡ require one NotFile → file_or_nothing (names (plain_path (with_tilde path))) ≡ require two NotFile
    → replaceable_name names both text ≡ (require one NotFile >>= λ a. (if both then require two NotFile else Ok tt) >>= λ b. Ok path)
unfolding replaceable_name
judged names both text path one two is first second = rw (is, first, second) refl

module _ (volume : Volume) (image : Image) (both : Bool) (text : List ℕ) (pair : NamePair) (at : GivesPairAt volume.layout (parts_of volume image) (name_path (names_in volume image) text) pair) where
  judged-pair : (one two : Bool) → is_replaceable pair.plain ≡ one → is_replaceable pair.tilde ≡ two
      → replaceable_name (names_in volume image) both text ≡ (require one NotFile >>= λ a. (if both then require two NotFile else Ok tt) >>= λ b. Ok at.path)
  judged-pair one two is_one is_two =
      judged (names_in volume image) both text at.path one two at.is
      (in-file volume image at.path pair.plain at.names.plain ∙ ap (λ (t : Bool). require t NotFile) is_one)
      (in-file volume image (with_tilde at.path) pair.tilde at.names.tilde ∙ ap (λ (t : Bool). require t NotFile) is_two)

  by-tests : (one two asked : Bool) → asked ≡ both → is_replaceable pair.plain ≡ one → is_replaceable pair.tilde ≡ two
      → replaceable_name (names_in volume image) both text ≡ (require (one && (not asked || two)) NotFile >>= λ a. Ok at.path)
  by-tests true true true is is_one is_two = judged-pair true true is_one is_two ∙ rw (sym is) refl
  by-tests true false true is is_one is_two = judged-pair true false is_one is_two ∙ rw (sym is) refl
  by-tests true two false is is_one is_two = judged-pair true two is_one is_two ∙ rw (sym is) refl
  by-tests false two asked is is_one is_two = judged-pair false two is_one is_two

  by-test : (fits : Bool) → is_pair_replaceable both pair ≡ fits
      → replaceable_name (names_in volume image) both text ≡ (require fits NotFile >>= λ a. Ok at.path)
  by-test fits is =
      by-tests (is_replaceable pair.plain) (is_replaceable pair.tilde) both refl refl refl
      ∙ ap (λ (test : Bool). require test NotFile >>= λ a. Ok at.path) is

pub told-refused : (past : Option Past) (volume : Volume) (both : Bool) (text : List ℕ) (pair : NamePair) → is_pair_replaceable both pair ≡ false
    → Told past (λ now. IsSound volume now → GivesPairAt volume.layout (parts_of volume now) (name_path (names_in volume now) text) pair)
    → Told past (λ now. IsSound volume now → replaceable_name (names_in volume now) both text ≡ Err NotFile)
told-refused None volume both text pair is at = tt
told-refused (Some past) volume both text pair is at = λ sound. by-test volume (now_of past) both text pair (at sound) false is

pub told-fits : (past : Option Past) (volume : Volume) (both : Bool) (text : List ℕ) (pair : NamePair) → is_pair_replaceable both pair ≡ true
    → Told past (λ now. IsSound volume now → GivesPairAt volume.layout (parts_of volume now) (name_path (names_in volume now) text) pair)
    → Told past (λ now. IsSound volume now → GivesPairAt volume.layout (parts_of volume now) (replaceable_name (names_in volume now) both text) pair)
told-fits None volume both text pair is at = tt
told-fits (Some past) volume both text pair is at = λ sound. record {
  path = (at sound).path;
  is = by-test volume (now_of past) both text pair (at sound) true is;
  names = (at sound).names;
}

-- what refuses the path refuses the name
pub told-path : (past : Option Past) (volume : Volume) (both : Bool) (text : List ℕ) (fault : TreeFault)
    → Told past (λ now. IsSound volume now → Refuses fault (name_path (names_in volume now) text))
    → Told past (λ now. IsSound volume now → Refuses fault (replaceable_name (names_in volume now) both text))
unfolding replaceable_name
told-path None volume both text fault refused = tt
told-path (Some past) volume both text fault refused = λ sound. refused_then fault (name_path (names_in volume (now_of past)) text) _ (refused sound)

-- ---- a path's refusal

named-by : (path : List ℕ) (fault : TreeFault) (given : Result (List (List ℕ)) model.TreeFault) → IsOfPath fault → Refuses fault given
    → RefusesNames (refusals.Path path fault) (with_fault (refused_path path) given)
named-by path (faults.NotFound position) given of refused = rw refused (refl, refl)
named-by path (faults.NotDirectory position) given of refused = rw refused (refl, refl)
named-by path faults.NotFile given of refused = rw refused (refl, refl)
named-by path faults.TooManyLinks given of refused = rw refused (refl, refl)
named-by path (faults.BadEntry directory) given of refused = rw refused (refl, refl)
named-by path faults.PathTooLong given of refused = rw refused (refl, refl)
named-by path (faults.Zone (zones.Layout fault)) given of refused = rw refused (refl, refl)
named-by path (faults.Zone (zones.ZoneOutside zone)) given of refused = rw refused (refl, refl)
named-by path (faults.Zone zones.Device) given of refused = absurd (of tt)
named-by path faults.Memory given of refused = absurd (of tt)

named-refused : (path : List ℕ) (fault : TreeFault) (result : NameFault) (given : Result (List (List ℕ)) model.TreeFault) (before after : ℕ)
    → RefusesPath path fault result → HasNameCause before after result → Refuses fault given → RefusesNames result (with_fault (refused_path path) given)
named-refused path fault (refusals.Path text why) given before after is cause refused =
    let W : TreeFault → Type 0 = λ w. Refuses w given in
    let T : List ℕ → Type 0 = λ t. RefusesNames (refusals.Path t why) (with_fault (refused_path path) given) in
    subst T (sym is.0) (named-by path why given cause (subst W (sym is.1) refused))
named-refused path fault refusals.Device given before after is cause refused = tt
named-refused path fault refusals.Memory given before after is cause refused = tt

pub told-named : (past : Option Past) (volume : Volume) (both : Bool) (text : List ℕ) (fault : TreeFault) (result : NameFault) (before after : ℕ)
    → RefusesPath text fault result → HasNameCause before after result
    → Told past (λ now. IsSound volume now → Refuses fault (replaceable_name (names_in volume now) both text))
    → Told past (λ now. IsSound volume now → RefusesNames result (with_fault (refused_path text) (replaceable_name (names_in volume now) both text)))
told-named None volume both text fault result before after is cause refused = tt
told-named (Some past) volume both text fault result before after is cause refused = λ sound.
    named-refused text fault result (replaceable_name (names_in volume (now_of past)) both text) before after is cause (refused sound)

-- ---- the backup

backup-is : (names : Names) (config : Config) (device : Device) (foreign both : Bool) (text : List ℕ) (path : List (List ℕ)) → foreign ≡ true
    → text ≡ backup_path config device → both ≡ is_some config.force_backup → replaceable_name names both text ≡ Ok path
    → backup_name names config device foreign ≡ Ok (Some path)
backup-is names config device foreign both text path is same asked found =
    let B : Bool → Type 0 = λ b. replaceable_name names b text ≡ Ok path in
    let T : List ℕ → Type 0 = λ t. replaceable_name names (is_some config.force_backup) t ≡ Ok path in
    let e : replaceable_name names (is_some config.force_backup) (backup_path config device) ≡ Ok path = subst T same (subst B asked found) in
    rw (is, e) refl

pub told-none : (past : Option Past) (volume : Volume) (config : Config) (device : Device) (foreign : Bool) → foreign ≡ false
    → Told past (λ now. IsSound volume now → GivesBackupAt volume.layout (parts_of volume now) (backup_name (names_in volume now) config device foreign) None)
told-none None volume config device foreign is = tt
told-none (Some past) volume config device foreign is = λ sound. record { path = None; is = rw is refl; names = tt }

pub told-backup : (past : Option Past) (volume : Volume) (config : Config) (device : Device) (foreign both : Bool) (text : List ℕ) (pair : NamePair) → foreign ≡ true
    → text ≡ backup_path config device → both ≡ is_some config.force_backup
    → Told past (λ now. IsSound volume now → GivesPairAt volume.layout (parts_of volume now) (replaceable_name (names_in volume now) both text) pair)
    → Told past (λ now. IsSound volume now → GivesBackupAt volume.layout (parts_of volume now) (backup_name (names_in volume now) config device foreign) (Some pair))
told-backup None volume config device foreign both text pair is same asked found = tt
told-backup (Some past) volume config device foreign both text pair is same asked found = λ sound. record {
  path = Some (found sound).path;
  is = backup-is (names_in volume (now_of past)) config device foreign both text (found sound).path is same asked (found sound).is;
  names = (found sound).names;
}

names-then : {A B : Type 0} (fault : NameFault) (first : Result A PathRefusal) (next : A → Result B PathRefusal) → RefusesNames fault first → RefusesNames fault (first >>= next)
names-then (refusals.Path text why) (Ok value) next refused = absurd refused
names-then (refusals.Path text why) (Err refusal) next refused = refused
names-then refusals.Device first next refused = tt
names-then refusals.Memory first next refused = tt

backup-refused : (names : Names) (config : Config) (device : Device) (foreign both : Bool) (text : List ℕ) (fault : NameFault) → foreign ≡ true
    → text ≡ backup_path config device → both ≡ is_some config.force_backup
    → RefusesNames fault (with_fault (refused_path text) (replaceable_name names both text))
    → RefusesNames fault (backup_name names config device foreign)
backup-refused names config device foreign both text fault is same asked refused =
    let B : Bool → Type 0 = λ b. RefusesNames fault (with_fault (refused_path text) (replaceable_name names b text)) in
    let T : List ℕ → Type 0 = λ t. RefusesNames fault (with_fault (refused_path t) (replaceable_name names (is_some config.force_backup) t)) in
    let F : Bool → Type 0 = λ f. RefusesNames fault (backup_name names config device f) in
    subst F (sym is)
    (names-then fault (with_fault (refused_path (backup_path config device)) (replaceable_name names (is_some config.force_backup) (backup_path config device))) (λ path. Ok (Some path))
    (subst T same (subst B asked refused)))

pub told-no-backup : (past : Option Past) (volume : Volume) (config : Config) (device : Device) (foreign both : Bool) (text : List ℕ) (fault : NameFault) → foreign ≡ true
    → text ≡ backup_path config device → both ≡ is_some config.force_backup
    → Told past (λ now. IsSound volume now → RefusesNames fault (with_fault (refused_path text) (replaceable_name (names_in volume now) both text)))
    → Told past (λ now. IsSound volume now → RefusesNames fault (backup_name (names_in volume now) config device foreign))
told-no-backup None volume config device foreign both text fault is same asked refused = tt
told-no-backup (Some past) volume config device foreign both text fault is same asked refused = λ sound.
    backup-refused (names_in volume (now_of past)) config device foreign both text fault is same asked (refused sound)

-- ---- all names

own-is : (names : Names) (config : Config) (device : Device) (foreign : Bool) (text : List ℕ) (map : List (List ℕ)) (backup : Option (List (List ℕ)))
    → text ≡ config.map → replaceable_name names true text ≡ Ok map → backup_name names config device foreign ≡ Ok backup
    → own_names names config device foreign ≡ Ok (record { map = map; backup = backup })
unfolding own_names
own-is names config device foreign text map backup same first second =
    let e : replaceable_name names true config.map ≡ Ok map = subst (λ (t : List ℕ). replaceable_name names true t ≡ Ok map) same first in
    rw (e, second) refl

pub told-own : (past : Option Past) (volume : Volume) (config : Config) (device : Device) (foreign : Bool) (text : List ℕ) (map : NamePair) (backup : Option NamePair)
    → text ≡ config.map
    → Told past (λ now. IsSound volume now → GivesPairAt volume.layout (parts_of volume now) (replaceable_name (names_in volume now) true text) map)
    → Told past (λ now. IsSound volume now → GivesBackupAt volume.layout (parts_of volume now) (backup_name (names_in volume now) config device foreign) backup)
    → Told past (λ now. IsSound volume now → AreOwnNames volume.layout (parts_of volume now) (own_names (names_in volume now) config device foreign) (record { map = map; backup = backup }))
told-own None volume config device foreign text map backup same first second = tt
told-own (Some past) volume config device foreign text map backup same first second = λ sound. record {
  names = record { map = (first sound).path; backup = (second sound).path };
  is = own-is (names_in volume (now_of past)) config device foreign text (first sound).path (second sound).path same (first sound).is (second sound).is;
  map = (first sound).names;
  backup = (second sound).names;
}

pub told-no-map : (past : Option Past) (volume : Volume) (config : Config) (device : Device) (foreign : Bool) (text : List ℕ) (fault : NameFault) → text ≡ config.map
    → Told past (λ now. IsSound volume now → RefusesNames fault (with_fault (refused_path text) (replaceable_name (names_in volume now) true text)))
    → Told past (λ now. IsSound volume now → RefusesNames fault (own_names (names_in volume now) config device foreign))
unfolding own_names
told-no-map None volume config device foreign text fault same refused = tt
told-no-map (Some past) volume config device foreign text fault same refused = λ sound.
    names-then fault _ _ (subst (λ (t : List ℕ). RefusesNames fault (with_fault (refused_path t) (replaceable_name (names_in volume (now_of past)) true t))) same (refused sound))

own-second : (names : Names) (config : Config) (device : Device) (foreign : Bool) (text : List ℕ) (map : List (List ℕ)) (fault : NameFault)
    → text ≡ config.map → replaceable_name names true text ≡ Ok map → RefusesNames fault (backup_name names config device foreign)
    → RefusesNames fault (own_names names config device foreign)
unfolding own_names
own-second names config device foreign text map fault same first refused =
    let e : replaceable_name names true config.map ≡ Ok map = subst (λ (t : List ℕ). replaceable_name names true t ≡ Ok map) same first in
    rw e (names-then fault (backup_name names config device foreign) _ refused)

pub told-second : (past : Option Past) (volume : Volume) (config : Config) (device : Device) (foreign : Bool) (text : List ℕ) (map : NamePair) (fault : NameFault) → text ≡ config.map
    → Told past (λ now. IsSound volume now → GivesPairAt volume.layout (parts_of volume now) (replaceable_name (names_in volume now) true text) map)
    → Told past (λ now. IsSound volume now → RefusesNames fault (backup_name (names_in volume now) config device foreign))
    → Told past (λ now. IsSound volume now → RefusesNames fault (own_names (names_in volume now) config device foreign))
told-second None volume config device foreign text map fault same first refused = tt
told-second (Some past) volume config device foreign text map fault same first refused = λ sound.
    own-second (names_in volume (now_of past)) config device foreign text (first sound).path fault same (first sound).is (refused sound)
