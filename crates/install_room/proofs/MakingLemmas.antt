-- What is chosen may be made where its names lie on a sound volume.
use Rattle.std.proofs.Common.{◌≡◌, ◌≢◌, ◌≤◌, ◌*◌, ℕ, Bool, true, false, is_some, List, [], ◌∷◌, Option, Some, None, refl, sym, ◌∙◌, ap, subst}
use Rattle.std.specs.Prelude.{IfSome}
use Rattle.disk_trait.specs.declared.disks.Disks.{Ghosts}
use Rattle.disk_trait.specs.Moments.{IsTold, now}
use Rattle.lilo_model.specs.Disks.{DiskSector}
use Rattle.lilo_model.specs.MinixFindNames.{path_above}
use Rattle.lilo_model.specs.MinixLayout.{Super, reach}
use Rattle.lilo_model.specs.MinixNames.{reached, Sound, IsSound}
use Rattle.lilo_model.specs.MinixParts as parts
use Rattle.lilo_model.specs.MinixParts.{Parts, blocks_for, is_directory}
use Rattle.lilo_model.specs.NamePlaces.{with_tilde}
use Rattle.minix_choice_laws.specs.Growth.{ArePromised}
use Rattle.minix_create.specs.Chosen.{IsPromisedNow, IsFreeWhereSound, LinksWhereSound}
use Rattle.minix_create.specs.declared.chosen.Chosen.{Chosen}
use Rattle.minix_layout.specs.View.{super_view}
use Rattle.minix_change_laws.proofs.Seen.{opened}
use Rattle.minix_steps.specs.Written.{parts_now}
use Rattle.minix_tree.proofs.StatLemmas.{blocks_reached}
use Rattle.minix_zones.specs.Volume.{volume_view, past_of}
use Rattle.minix_zones.specs.declared.volume.Volume.{Volume}
use Rattle.write_model.specs.Choice.{taken_with}
use Rattle.write_model.specs.Places.{is_overlooked}
use Rattle.write_model.specs.Wish.{Taken, Overlooked}
use Rattle.install_laws.specs.InstallVerdict.{made_backup}
use Rattle.install_apart.specs.declared.name.OwnName.{OwnName}
use Rattle.install_apart.specs.declared.name.NamePair.{NamePair}
use Rattle.install_apart.specs.declared.own.OwnNames.{OwnNames}
use Rattle.install_room.specs.Names.{IsBackupOf, IsBackupAt, backup_at, backup_of}
use Rattle.install_room.specs.Room.{IsForName, IsForBackup, first_of, taken_beside}
use Rattle.install_room.specs.Making.{LiesIn, LiePaired, LiesBackup, MayMake, MayMakeBackup, MayMakeWhereSound}
use Rattle.install_room.specs.declared.room.Room.{Room}
use Rattle.install_room.proofs.FreeLemmas.{none_promised}

-- ---- where the backup's name lies

abbrev LiesAs : Super → Parts → Option (List (List ℕ)) → Option OwnName → Type 0
LiesAs super parts None None = Unit {0}
LiesAs super parts None (Some own) = ⊥
LiesAs super parts (Some path) None = ⊥
LiesAs super parts (Some path) (Some own) = LiesIn super parts path own

lies-at : (super : Super) (parts : Parts) (path : List (List ℕ)) (pair : NamePair) → IsBackupAt super parts path pair → LiePaired super parts path pair → (forced : Bool)
    → LiesAs super parts (made_backup super parts forced (Some path)) (backup_at forced pair)
lies-at super parts path pair is lies true = lies.tilde
lies-at super parts path pair is lies false = by _ refl
  where
    by : (there : Bool) → is_some pair.plain.there ≡ there → LiesAs super parts (made_backup super parts false (Some path)) (backup_at false pair)
    by true t = rw (is.there, t) tt
    by false t = rw (is.there, t) lies.plain

lies-as : (super : Super) (parts : Parts) (forced : Bool) (path : Option (List (List ℕ))) (pair : Option NamePair) → IsBackupOf super parts path pair → LiesBackup super parts path pair
    → LiesAs super parts (made_backup super parts forced path) (backup_of forced pair)
lies-as super parts forced None None is lies = tt
lies-as super parts forced (Some path) (Some pair) is lies = lies-at super parts path pair is lies forced
lies-as super parts forced None (Some pair) is lies = elim is [ ]
lies-as super parts forced (Some path) None is lies = elim is [ ]

-- ---- what is taken

-- no name is overlooked for a choice
beside-overlooked : (taken : Taken) (backup : Option Chosen) → (taken_beside taken backup).overlooked ≡ taken.overlooked
unfolding taken_with
beside-overlooked taken None = refl
beside-overlooked taken (Some chosen) = refl

none-overlooked : (overlooked : List Overlooked) (directory : ℕ) (name : List ℕ) → overlooked ≡ [] → is_overlooked overlooked directory name ≡ false
unfolding is_overlooked
none-overlooked overlooked directory name none = ap (λ (all : List Overlooked). is_overlooked all directory name) none

-- ---- what may be made

module _ {D : Type 0} {disks : Ghosts D} (volume : Volume D disks) (told : IsTold (past_of volume)) (sound : IsSound (volume_view volume) (now (past_of volume))) where
  abbrev On : Super
  On = super_view volume.layout

  abbrev Is : Parts
  Is = parts_now volume

  holds : Sound On Is
  holds = (opened (volume_view volume) (now (past_of volume)) sound).parts

  module _ (path : List (List ℕ)) (own : OwnName) (lies : LiesIn On Is path own) (long time : ℕ) (chosen : Chosen) (made : IsForName own long time chosen) where
    abbrev There : ℕ → Type 0
    There directory = (reached On Is (path_above path) ≡ Some directory) × (is_directory (Is.node directory) ≡ true) × (blocks_for (Is.node directory).size ≤ reach On.kind)

    above-is : path_above path ≡ lies.ends.above
    above-is = ap path_above lies.ends.is

    leads : reached On Is (path_above path) ≡ Some own.directory
    leads = ap (reached On Is) above-is ∙ lies.ends.there.leads

    pub there : There chosen.directory
    there =
        let sized = holds.size own.directory (record { path = path_above path; leads = leads }) in
        subst There (sym made.directory) (leads, lies.ends.there.is, blocks_reached On.kind (Is.node own.directory).size lies.small sized)

    pub ends : chosen.name ∷ path_above path ≡ path
    ends = ap (λ (name : List ℕ). name ∷ path_above path) made.name ∙ (ap (λ (above : List (List ℕ)). own.name ∷ above) above-is ∙ sym lies.ends.is)

    pub may_make : (taken : Taken) → taken.overlooked ≡ [] → ArePromised On Is taken → IsFreeWhereSound volume taken chosen → LinksWhereSound volume taken chosen → MayMake volume path chosen
    may_make taken none promised free links =
        let needs : IsPromisedNow volume taken (path_above path) chosen = record {
          sound = sound;
          leads = there.0;
          is = there.1;
          reached = there.2;
          seen = none-overlooked taken.overlooked chosen.directory chosen.name none;
          promised = promised;
        } in
        record { free = free (path_above path) told needs; name = links (path_above path) told needs; ends = ends }

  -- two paths that differ don't end with one name in one directory
  pub differ : (path other : List (List ℕ)) (own own' : OwnName) → LiesIn On Is path own → LiesIn On Is other own' → path ≢ other → own'.directory ≡ own.directory → own'.name ≢ own.name
  differ path other own own' lies lies' apart here named =
      let one = lies.ends in
      let two = lies'.ends in
      let above : one.above ≡ two.above =
      holds.one_name own.directory one.above two.above one.there.is one.there.leads (subst (λ (d : ℕ). reached On Is two.above ≡ Some d) here two.there.leads) in
      apart
      (one.is
      ∙ (ap (λ (name : List ℕ). name ∷ one.above) (sym named)
      ∙ (ap (λ (rest : List (List ℕ)). own'.name ∷ rest) above ∙ sym two.is)))

  backup-may : (taken : Taken) → taken.overlooked ≡ [] → taken.promises ≡ [] → (time : ℕ) (path : Option (List (List ℕ))) (own : Option OwnName) (backup : Option Chosen)
      → LiesAs On Is path own → IsForBackup own time backup → IfSome backup (λ chosen. IsFreeWhereSound volume taken chosen × LinksWhereSound volume taken chosen) → MayMakeBackup volume path backup
  backup-may taken none nothing time None None None lies made free = tt
  backup-may taken none nothing time (Some path) (Some own) (Some chosen) lies made free =
      may_make path own lies 512 time chosen made taken none (none_promised On Is taken nothing) free.0 free.1
  backup-may taken none nothing time None None (Some chosen) lies made free = elim made [ ]
  backup-may taken none nothing time (Some path) (Some own) None lies made free = elim made [ ]
  backup-may taken none nothing time None (Some own) backup lies made free = elim lies [ ]
  backup-may taken none nothing time (Some path) None backup lies made free = elim lies [ ]

  names-differ : (other : List (List ℕ)) (own' : OwnName) → LiesIn On Is other own' → (m time : ℕ) (map : Chosen) → IsForName own' m time map
      → (path : Option (List (List ℕ))) (own : Option OwnName) (backup : Option Chosen) → LiesAs On Is path own → IsForBackup own time backup → path ≢ Some other
      → IfSome backup (λ chosen. map.directory ≡ chosen.directory → map.name ≢ chosen.name)
  names-differ other own' lies' m time map made' path own None lies made apart = tt
  names-differ other own' lies' m time map made' (Some path) (Some own) (Some chosen) lies made apart = λ here named.
      differ path other own own' lies lies' (λ same. apart (ap (λ (p : List (List ℕ)). Some p) same))
      (sym made'.directory ∙ (here ∙ made.directory)) (sym made'.name ∙ (named ∙ made.name))
  names-differ other own' lies' m time map made' None None (Some chosen) lies made apart = elim made [ ]
  names-differ other own' lies' m time map made' None (Some own) (Some chosen) lies made apart = elim lies [ ]
  names-differ other own' lies' m time map made' (Some path) None (Some chosen) lies made apart = elim lies [ ]

settled-first : (view : parts.Volume) (places : List DiskSector) (unsettled forced : Bool) (own : OwnNames)
    → unsettled ≡ false → (first_of view places unsettled forced own).overlooked ≡ []
settled-first view places unsettled forced own settled = ap (λ (test : Bool). (first_of view places test forced own).overlooked) settled

pub may_make_room : {D : Type 0} {disks : Ghosts D} (volume : Volume D disks) (room : Room) → MayMakeWhereSound volume room
may_make_room volume room names own wish view places made free settled lie =
    let first : Taken = first_of view places wish.unsettled wish.forced own in
    let none : first.overlooked ≡ [] = settled-first view places wish.unsettled wish.forced own settled in
    let path : Option (List (List ℕ)) = made_backup (super_view volume.layout) (parts_now volume) wish.forced names.backup in
    let lies = lies-as (super_view volume.layout) (parts_now volume) wish.forced names.backup own.backup lie.are.backup lie.backup in
    record {
      backup = backup-may volume lie.told lie.sound first none refl wish.time path (backup_of wish.forced own.backup) room.backup lies made.backup free.backup_free;
      map = may_make volume lie.told lie.sound (with_tilde names.map) own.map.tilde lie.map (512 * wish.sectors) wish.time room.map made.map
          (taken_beside first room.backup) (beside-overlooked first room.backup ∙ none) (free.promised lie.told) free.map_free free.map_name;
      apart = free.apart lie.told;
      names_differ = names-differ volume lie.told lie.sound (with_tilde names.map) own.map.tilde lie.map (512 * wish.sectors) wish.time room.map made.map
          path (backup_of wish.forced own.backup) room.backup lies made.backup lie.apart;
    }
