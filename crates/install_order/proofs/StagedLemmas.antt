-- Once its files are staged, what is at the map's names may be tidied.
use Rattle.std.proofs.Common.{◌≡◌, ◌≢◌, ◌⊎◌, ◌<◌, ◌/◌, ◌==◌, ℕ, Bool, true, false, IfSome, if◌then◌else◌, is_some, List, ◌∷◌, ◌++◌, length, codes, Option, None, Some, Ok, inl, inr, refl, sym, ◌∙◌, ap, subst, arith}
use Rattle.std.specs.Option.{option_map}
use Rattle.std.proofs.lemmas.Bool.{true≢false}
use Rattle.disk_trait.specs.declared.disks.Disks.{Ghosts}
use Rattle.disk_trait.specs.Moments.{IsTold, now}
use Rattle.disk_trait.specs.Past.{Image}
use Rattle.lilo_model.specs.Disks.{Machine}
use Rattle.lilo_model.specs.MinixLayout as layouts
use Rattle.lilo_model.specs.MinixLayout.{Inode, Kind, is_v1, most_links}
use Rattle.lilo_model.specs.MinixNames.{File, Thing, thing, names, names_in, reached, then_lookup, IsSound}
use Rattle.lilo_model.specs.MinixParts as model
use Rattle.lilo_model.specs.MinixParts.{Parts, is_directory, is_file, parts_of}
use Rattle.lilo_model.specs.NamePlaces.{same_path, with_tilde}
use Rattle.minix_create.specs.Chosen.{IsNewInode, new_inode}
use Rattle.minix_create.specs.declared.chosen.Chosen.{Chosen}
use Rattle.minix_layout.specs.View.{super_view}
use Rattle.minix_names.specs.Places.{IsPlace}
use Rattle.minix_names.proofs.PathLemmas.{name-other}
use Rattle.minix_change_laws.specs.Tree.{KeepsNamed}
use Rattle.minix_steps.specs.Written.{parts_now}
use Rattle.minix_zones.specs.Volume.{volume_view, past_of, KeepsVolume}
use Rattle.minix_zones.specs.declared.volume.Volume.{Volume}
use Rattle.sector_address.specs.Machine.{machine_of}
use Rattle.install_apart.specs.declared.name.OwnName.{OwnName}
use Rattle.install_stage.specs.BackupStaged.{with_backup}
use Rattle.install_room.specs.Making.{MayMake}
use Rattle.install_settle.proofs.NamesLemmas.{apart-of}
use Rattle.install_settle.proofs.PathLemmas.{tilde-differs}
use Rattle.install_settle.specs.Settles.{HasNames}
use Rattle.install_stage.specs.MapFile.{map_bytes}
use Rattle.install_stage.specs.Stages.{HasStagedRoom, IsNoneOfBackup, IsStagingRoom, KeepsButBackup, KeepsOtherPaths, MayStageBackup, MayStageRoom, StagesRoom, with_room}
use Rattle.install_stage_laws.proofs.Sectors.{file-not-directory}
use Rattle.install_settle.specs.Tidies.{AreMaps, MayTidy}
use Rattle.install_order.specs.Stageable.{IsReady, MayStageNow, MayTakeMap, path_made}
use Rattle.install_order.specs.States.{is_forced, StagesFrom}
use Rattle.install_order.specs.declared.planned.Planned.{Planned}
use Rattle.install_order.proofs.StagingLemmas.{forth, room_forth}

-- ---- from an image to one in which the files are staged

module _ {D : Type 0} {disks : Ghosts D} (volume : Volume D disks) (name : List (List ℕ)) (own : OwnName) (takes : MayTakeMap (super_view volume.layout) (parts_now volume) name own) where
  abbrev View : model.Volume
  View = volume_view volume

  abbrev Was : Image
  Was = now (past_of volume)

  abbrev Old : Parts
  Old = parts_of View Was

  abbrev above : List (List ℕ)
  above = takes.place.above

  -- nothing is there where a file may be made
  absent : (path : List (List ℕ)) (chosen : Chosen) → MayMake volume path chosen → reached View.layout Old path ≡ None
  unfolding reached
  absent path chosen may =
      ap (reached View.layout Old) (sym may.ends) ∙ ap (then_lookup View.layout Old chosen.name) may.name.leads ∙ may.name.absent

  -- a directory has no path of a file
  above-other : (path : List (List ℕ)) → IfSome (reached View.layout Old path) (λ number. is_file (Old.node number) ≡ true) → above ≢ path
  above-other path file same =
      let leads : reached View.layout Old path ≡ Some own.directory = ap (reached View.layout Old) (sym same) ∙ takes.place.there.leads in
      let is = subst (λ (found : Option ℕ). IfSome found (λ number. is_file (Old.node number) ≡ true)) leads file in
      file-not-directory (Old.node own.directory).mode is takes.place.there.is

  none-there : (path : List (List ℕ)) → reached View.layout Old path ≡ None → IfSome (reached View.layout Old path) (λ number. is_file (Old.node number) ≡ true)
  none-there path none = rw none tt

  above-none : (forced : Bool) (backup : Option (List (List ℕ))) (made : Option Chosen) (other : Chosen) → MayStageBackup volume backup name forced made other → IsNoneOfBackup forced backup above
  above-none forced None made other may = tt
  above-none forced (Some path) None other may = absurd may
  above-none true (Some path) (Some chosen) other may =
      (above-other (with_tilde path) (none-there (with_tilde path) (absent (with_tilde path) chosen may.may.make)), above-other path (may.may.over refl).file)
  above-none false (Some path) (Some chosen) other may =
      let not = above-other path (none-there path (absent path chosen may.may.make)) in
      (not, not)

  own-not-tilde : name ≢ with_tilde name
  own-not-tilde = tilde-differs name own.name above takes.place.is

  module _ (forced : Bool) (present bytes : List ℕ) (c : Image) where
    abbrev New : Parts
    New = parts_of View c

    nowhere : names_in View c name ≡ None → reached View.layout New name ≡ None
    unfolding names_in names
    nowhere none = by (reached View.layout New name) refl
      where
        by : (found : Option ℕ) → reached View.layout New name ≡ found → reached View.layout New name ≡ None
        by None is = is
        by (Some number) is =
            let some = subst (λ (o : Option Thing). is_some o ≡ true) none (ap (λ (o : Option ℕ). is_some (option_map (thing View.layout New) o)) is) in
            absurd (true≢false (sym some))

    keeps-named : (backup : Option (List (List ℕ))) → KeepsButBackup View backup Was c → KeepsNamed View.layout Old New
    keeps-named None files = files.keeps
    keeps-named (Some path) files = files.keeps

    -- the path of the map leads where it led, or nowhere
    leads-or-none : (backup : Option (List (List ℕ))) (made : Option Chosen) (other : Chosen) → MayStageBackup volume backup name forced made other → KeepsOtherPaths View Was forced backup name c
        → HasNames View c (with_room forced backup present name bytes (names_in View Was))
        → (reached View.layout New name ≡ reached View.layout Old name) ⊎ (reached View.layout New name ≡ None)
    leads-or-none None made other may paths has = inl (paths name own-not-tilde tt)
    leads-or-none (Some path) None other may paths has = absurd may
    leads-or-none (Some path) (Some chosen) other may paths has = by-forced forced refl
      where
        plain : name ≢ path
        plain same = may.plain (sym same)

        by-same : forced ≡ true → (same : Bool) → same_path (with_tilde path) name ≡ same → (reached View.layout New name ≡ reached View.layout Old name) ⊎ (reached View.layout New name ≡ None)
        by-same on true same =
            let at : names_in View c name ≡ None =
            has name ∙ (name-other (with_tilde name) name (Some (File bytes)) (with_backup forced path present (names_in View Was)) (λ is. own-not-tilde (sym is))
            ∙ (ap (λ (f : Bool). with_backup f path present (names_in View Was) name) on ∙ rw same refl)) in
            inr (nowhere at)
        by-same on false same = inl (paths name own-not-tilde (rw on (apart-of (with_tilde path) name same), plain))

        by-forced : (f : Bool) → forced ≡ f → (reached View.layout New name ≡ reached View.layout Old name) ⊎ (reached View.layout New name ≡ None)
        by-forced true on = by-same on (same_path (with_tilde path) name) refl
        by-forced false off = inl (paths name own-not-tilde (rw off plain, plain))

    module _ (keeps : KeepsNamed View.layout Old New) where
      same-mode : (path there : List (List ℕ)) (number : ℕ) → reached View.layout Old path ≡ Some number → reached View.layout New there ≡ Some number → (New.node number).mode ≡ (Old.node number).mode
      same-mode path there number was is = keeps.modes number (record { path = path; leads = was }) (record { path = there; leads = is })

      place-then : reached View.layout New above ≡ reached View.layout Old above → IsPlace View.layout New name own.directory own.name
      place-then still =
          let leads : reached View.layout New above ≡ Some own.directory = still ∙ takes.place.there.leads in
          let mode = same-mode above above own.directory takes.place.there.leads leads in
          record { above = above; is = takes.place.is; there = record { leads = leads; is = rw mode takes.place.there.is } }

      former-then : (reached View.layout New name ≡ reached View.layout Old name) ⊎ (reached View.layout New name ≡ None) → IfSome (reached View.layout New name) (λ number. is_file (New.node number) ≡ true)
      former-then (inr none) = rw none tt
      former-then (inl still) = by (reached View.layout Old name) refl takes.former
        where
          by : (found : Option ℕ) → reached View.layout Old name ≡ found → IfSome found (λ number. is_file (Old.node number) ≡ true) → IfSome (reached View.layout New name) (λ number. is_file (New.node number) ≡ true)
          by None is file = rw (still, is) tt
          by (Some former) is file =
              let mode = same-mode name name former is (still ∙ is) in
              subst (λ (found : Option ℕ). IfSome found (λ number. is_file (New.node number) ≡ true)) (sym (still ∙ is)) (rw mode file)

-- ---- on a volume

pub view_kept : {D : Type 0} {disks : Ghosts D} (old new : Volume D disks) → KeepsVolume old new → volume_view new ≡ volume_view old
view_kept old new kept = rw (kept.same_span, kept.same_layout) refl

-- a new file has few links
few-links : (chosen : Chosen) (node : Inode) (kind : Kind) → IsNewInode chosen node → is_file (new_inode chosen) ≡ true → node.links < most_links kind
few-links chosen node kind is file = by (is_v1 kind)
  where
    one : node.links ≡ 1
    one =
        let links : node.links ≡ (new_inode chosen).links = ap (λ (i : Inode). i.links) is in
        by-mode (chosen.mode / 4096 == 4) refl links
      where
        by-mode : (directory : Bool) → (chosen.mode / 4096 == 4) ≡ directory → node.links ≡ (if chosen.mode / 4096 == 4 then 2 else 1) → node.links ≡ 1
        by-mode true mode links = absurd (file-not-directory chosen.mode file mode)
        by-mode false mode links = rw mode at links

    by : (v1 : Bool) → node.links < (if v1 then 255 else 65535)
    by true = omega (arith, one)
    by false = omega (arith, one)

module _ {D : Type 0} {disks : Ghosts D} (planned : Planned D disks) (new : Volume D disks) (ready : IsReady planned) (settled : planned.settled ≡ true)
    (stages : StagesFrom planned.volume new (is_forced planned) planned.present planned.plan planned.room (Ok tt)) (told : IsTold (past_of planned.volume)) where
  abbrev Mid : Volume D disks
  Mid = stages.flushed

  abbrev On : Machine
  On = machine_of disks planned.volume.disks.now

  abbrev is : MayStageNow planned
  is = ready.may told settled

  abbrev pub path : List (List ℕ)
  path = is.names.map

  abbrev Backup : Option (List (List ℕ))
  Backup = path_made planned.room.backup is.names.backup

  held : now (past_of Mid) ≡ now (past_of planned.volume)
  held = stages.syncs.flushes.same_now

  room-may : MayStageRoom Mid On Backup path (is_forced planned) planned.plan planned.room
  room-may = room_forth planned.volume Mid stages.syncs.kept held On Backup path (is_forced planned) planned.plan planned.room is.room

  takes : MayTakeMap (super_view Mid.layout) (parts_now Mid) path planned.own.map.plain
  takes = forth planned.volume Mid stages.syncs.kept held (λ v i. MayTakeMap v.layout (parts_of v i) path planned.own.map.plain) is.may.takes

  staged : StagesRoom Mid new On (is_forced planned) Backup planned.present path planned.plan planned.room (Ok tt)
  staged = stages.stages On Backup path (λ t. is.room)

  told-mid : IsTold (past_of Mid)
  told-mid = stages.syncs.flushes.goes_on.told told

  left : IsStagingRoom (volume_view Mid) (now (past_of Mid)) (is_forced planned) Backup planned.present path (map_bytes On planned.plan planned.room.places.items) (now (past_of new))
  left = staged.left told-mid

  done : HasStagedRoom Mid new On (is_forced planned) Backup planned.present path planned.plan planned.room
  done = staged.done told-mid

  abbrev Node : Inode
  Node = (parts_of (volume_view Mid) (now (past_of new))).node planned.room.map.choice.inode

  abbrev Super : layouts.Super
  Super = (volume_view Mid).layout

  abbrev Then : Parts
  Then = parts_of (volume_view Mid) (now (past_of new))

  maps : AreMaps Super Then path planned.own.map
  maps =
      let c = now (past_of new) in
      let bytes = map_bytes On planned.plan planned.room.places.items in
      let keeps = keeps-named Mid path planned.own.map.plain takes (is_forced planned) planned.present bytes c Backup left.files in
      let backup-may = room-may.backup_may in
      record {
        place = place-then Mid path planned.own.map.plain takes (is_forced planned) planned.present bytes c keeps
            (left.paths takes.place.above above-tilde (above-none Mid path planned.own.map.plain takes (is_forced planned) Backup planned.room.backup planned.room.map backup-may));
        named = takes.named;
        map = planned.room.map.choice.inode;
        leads = done.leads;
        regular = rw done.node is.may.whole.map.file;
        former = former-then Mid path planned.own.map.plain takes (is_forced planned) planned.present bytes c keeps
            (leads-or-none Mid path planned.own.map.plain takes (is_forced planned) planned.present bytes c Backup planned.room.backup planned.room.map backup-may left.paths done.names);
        link = link-by (reached Super Then path);
      }
    where
      above-tilde : takes.place.above ≢ with_tilde path
      above-tilde same =
          let tilde : with_tilde path ≡ (planned.own.map.plain.name ++ codes "~") ∷ takes.place.above = ap with_tilde takes.place.is in
          let long = ap length (same ∙ tilde) in
          omega (arith, long)

      link-by : (former : Option ℕ) → IfSome former (λ former. Node.links < most_links Super.kind)
      link-by None = tt
      link-by (Some former) = few-links planned.room.map Node Super.kind done.node is.may.whole.map.file

  pub may_tidy_then : MayTidy new path planned.own.map
  may_tidy_then =
      let view = view_kept Mid new staged.kept in
      record {
        sound = subst (λ (v : model.Volume). IsSound v (now (past_of new))) (sym view) left.sound;
        maps = subst (λ (v : model.Volume). AreMaps v.layout (parts_of v (now (past_of new))) path planned.own.map) (sym view) maps;
      }
