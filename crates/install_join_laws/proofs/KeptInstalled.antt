-- What an installation keeps of names once its files are staged, and what is there once it is done.
use Rattle.std.proofs.Common.{◌≡◌, ◌≢◌, ◌≤◌, ◌⊎◌, ⊎_elim, ℕ, Bool, true, false, if◌then◌else◌, inl, inr, is_some, List, Option, None, Some, Result, Ok, Err, refl, sym, ◌∙◌, ap, subst, subst₂}
use Rattle.std.specs.Prelude.{IfSome}
use Rattle.std.specs.Option.{option_map}
use Rattle.std.proofs.lemmas.Bool.{eqb-true, false_from_ne_true, or_cases}
use Rattle.disk_trait.specs.declared.disks.Disks.{Ghosts}
use Rattle.disk_trait.specs.declared.disks.DiskFault.{DiskFault}
use Rattle.disk_trait.specs.declared.disks.DiskFault.TheVariants.{Failed}
use Rattle.disk_trait.specs.declared.disks.Span as spans
use Rattle.disk_trait.specs.Moments.{IsTold, now, LeavesOnly}
use Rattle.disk_trait.specs.Past.{Past, with_sector}
use Rattle.disk_trait.proofs.LawLemmas.{end_of_run_law}
use Rattle.disk_trait.proofs.MomentLemmas.{leaves_join, leaves_weaker}
use Rattle.lilo_model.specs.Conf.{Config}
use Rattle.lilo_model.specs.Devices.{Device}
use Rattle.lilo_model.specs.Disks.{Image, Machine, Span}
use Rattle.lilo_model.specs.Mapped.{mapped_sectors}
use Rattle.lilo_model.specs.MinixNames.{File, Sound, Thing, names, names_in, reached, thing, IsSound}
use Rattle.lilo_model.specs.MinixParts as model
use Rattle.lilo_model.specs.MinixParts.{Parts, is_file, parts_of}
use Rattle.lilo_model.specs.NamePlaces.{with_tilde}
use Rattle.lilo_model.specs.Planned as plans
use Rattle.lilo_model.specs.Settled.{Held, OwnNames}
use Rattle.lilo_conf.specs.View.{config_view}
use Rattle.lilo_conf.specs.declared.config.Config as configs
use Rattle.map_laws.proofs.Holder.{lays_held_law}
use Rattle.map_laws.specs.Lies.{MapPlaces}
use Rattle.mbr_table.specs.View.{device_view}
use Rattle.minix_change_laws.specs.Beside.{SoundAsIn}
use Rattle.minix_change_laws.specs.Sees.{SeenAsIn}
use Rattle.minix_change_laws.specs.Tree.{KeepsNamed, TreeAs}
use Rattle.minix_change_laws.proofs.Seen.{opened}
use Rattle.minix_change_laws.proofs.Tree.{sees_tree_law}
use Rattle.minix_create.specs.Chosen.{IsFreeNow}
use Rattle.minix_create.specs.declared.chosen.Chosen.{Chosen}
use Rattle.minix_layout.specs.View.{super_view}
use Rattle.minix_remove.specs.Renamed.{RenamesFiles}
use Rattle.minix_steps.specs.Written.{parts_now}
use Rattle.minix_names.proofs.PathLemmas.{name-here}
use Rattle.minix_choice.specs.declared.write_fault.WriteFault.{WriteFault}
use Rattle.minix_zones.specs.View.{span_view}
use Rattle.minix_zones.specs.Volume.{volume_view, past_of}
use Rattle.minix_zones.specs.declared.volume.Volume.{Volume}
use Rattle.sector_address.specs.Machine.{machine_of}
use Rattle.install_apart.specs.declared.name.NamePair.{NamePair}
use Rattle.install_join_laws.proofs.Walks.{value-is}
use Rattle.install_stage_laws.specs.BeginLaws.{GainsNothing, IsNoneOfMap}
use Rattle.install_stage_laws.specs.Marked.{FreesAt, IsFreed, KeepsMarked, KeepsMarkedBut}
use Rattle.install_stage_laws.specs.Staged.{AreFree}
use Rattle.install_stage_laws.proofs.Marked.{but_join, but_none, freed_still, marked_join}
use Rattle.install_stage_laws.proofs.Spared.{leaves_both}
use Rattle.install_order.specs.Commits.{Commits}
use Rattle.install_laws.specs.Boots.{IsWithOrWithout}
use Rattle.install_laws.specs.InstallVerdict.{Begun, made_backup}
use Rattle.install_laws.specs.Writes.{IsApartSector, WritesOnly}
use Rattle.install_order.specs.Begins.{AreOwn}
use Rattle.install_order.specs.Stageable.{IsReady, MayStage, MayStageNow, path_made}
use Rattle.install_order.specs.States.{IsCommitted, StagesFrom, TidiesFrom, is_forced}
use Rattle.install_order.specs.declared.committed.Committed.{Committed}
use Rattle.install_order.specs.declared.planned.Planned.{Planned}
use Rattle.install_order.specs.declared.staged.Staged.{Staged}
use Rattle.install_order.specs.declared.surveyed.Surveyed.{Surveyed}
use Rattle.install_order.proofs.CommittedLemmas.{may_tidy}
use Rattle.install_order.proofs.ReadyLemmas.{stageable}
use Rattle.install_order.proofs.StagedLemmas.{may_tidy_then}
use Rattle.install_room.specs.Making.{MayMakeBackup, MayMakeRoom}
use Rattle.install_settle.specs.Settles.{HasNames, IsBeside, stale_of}
use Rattle.install_stage.specs.Staged.{IsStagedRoom}
use Rattle.install_stage.proofs.Marked.{replaced_freed}
use Rattle.install_stage.specs.Stages.{FreesBackup, HasStagedRoom, IsNoneOfBackup, IsStagingRoom, KeepsButBackup, LeadsBackup, backup_inodes, room_inodes, room_zones, with_room}
use Rattle.install_stage.specs.Within.{is_inode_of}
use Rattle.install_stage_laws.proofs.Committed as committing
use Rattle.install_stage_laws.proofs.Committed.{commit_marked, commit_seen_law, staged_lays_law}
use Rattle.install_settle.specs.Tidied.{IsTidiedMap}
use Rattle.install_settle.specs.Tidies.{AreTidying, IsTidied, IsTidying, MayTidy, Tidies}
use Rattle.install_settle.proofs.TidiedLemmas.{tidied_map_law}
use Rattle.install_join_laws.specs.Kept.{HasBackup, HasOldMap, IsAbsent, IsAsBefore, IsFile, IsInstalled, IsOwnInode, Keeps, MarksOwn, backup_then}
use Rattle.install_join_laws.specs.KeptLaws.{CommitKeepsLaw, CommitMapLaw, CommittedBackupLaw, InstallationKeepsLaw, InstalledLaw, map_of}
use Rattle.install_join_laws.specs.Steps.{HasPlanned, HasStaged, IsBegunWith, LiesOnDisks, begun_from, machine_on}
use Rattle.install_join_laws.proofs.Begun.{begun, boot-apart, plan-machine-same, plan-view-same}
use Rattle.install_join_laws.proofs.Kept as keeping
use Rattle.install_join_laws.proofs.KeptNames.{IsNoBackup, finished-map, room-backup, room-copy, room-map, room-other, settled-beside, settled-tilde, with-other}
use Rattle.install_join_laws.proofs.KeptOwn.{backup-beside, backup-differs, stale-is}
use Rattle.install_join_laws.proofs.Staged as staging
use Rattle.install_join_laws.proofs.Staged.{five, staged-room, told-staged}

module _ {D : Type 0} {disks : Ghosts D} (entry : Volume D disks) (config : configs.Config) (boot : spans.Span) (time : ℕ) (surveyed : Surveyed D disks) (planned : Planned D disks)
    (staged : Staged D disks) (is : IsBegunWith entry config boot time surveyed) (has : HasPlanned surveyed planned) (lies : LiesOnDisks entry surveyed) (did : HasStaged planned staged) (own-names : OwnNames)
    (own : AreOwn (now (past_of entry)) (begun_from entry surveyed) own-names) where
  abbrev View : model.Volume
  View = volume_view entry

  abbrev M : Machine
  M = machine_on entry

  abbrev S : Span
  S = span_view surveyed.boot

  abbrev C : Config
  C = config_view surveyed.config

  abbrev Dev : Device
  Dev = device_view surveyed.device

  abbrev Was : Image
  Was = now (past_of entry)

  abbrev Is : Image
  Is = now (past_of surveyed.volume)

  abbrev There : Image
  There = now (past_of staged.volume)

  abbrev From : Begun
  From = begun_from entry surveyed

  abbrev Forced : Bool
  Forced = is_some From.config.force_backup

  abbrev Stale : Option (List (List ℕ))
  Stale = stale_of Forced own-names

  abbrev Present : List ℕ
  Present = Was S.disk S.start

  abbrev Bytes : List ℕ
  Bytes = map_of entry planned

  abbrev Map : List (List ℕ)
  Map = own-names.map

  abbrev Made : Option (List (List ℕ))
  Made = path_made planned.room.backup own-names.backup

  abbrev Kept : Image → Type 0
  Kept = Keeps Was M From own-names Bytes

  abbrev Room : Image → Type 0
  Room c = HasNames View c (with_room Forced Made Present Map Bytes (names_in View Is))

  -- ---- what was staged

  abbrev from : StagesFrom planned.volume staged.volume (is_forced planned) planned.present planned.plan planned.room (Ok tt)
  from = did.stages.stages

  told : IsTold (past_of staged.volume)
  told = told-staged entry config boot time surveyed planned staged is has lies did.stages

  told-plan : IsTold (past_of planned.volume)
  told-plan = keeping.told-plan entry config boot time surveyed is lies.there own-names own planned has

  told-flushed : IsTold (past_of from.flushed)
  told-flushed = from.syncs.flushes.goes_on.told told-plan

  forth : (P : model.Volume → Image → Bool → List ℕ → Type 0) → P (volume_view from.flushed) (now (past_of from.flushed)) (is_forced planned) planned.present → P View Is Forced Present
  forth = keeping.forth entry config boot time surveyed is lies.there own-names own planned has staged.volume (Ok tt) from

  staged-left : IsStagingRoom View Is Forced Made Present Map Bytes There
  staged-left =
      forth (λ v i f b. IsStagingRoom v i f Made b Map Bytes There)
      ((keeping.calls entry config boot time surveyed is lies.there own-names own planned has staged.volume (Ok tt) from).left told-flushed)

  staged-has : Room There
  staged-has =
      forth (λ v i f b. HasNames v There (with_room f Made b Map Bytes (names_in v i)))
      ((keeping.calls entry config boot time surveyed is lies.there own-names own planned has staged.volume (Ok tt) from).done told-flushed).names

  -- what is marked of it, and where its names lead
  abbrev Inodes : ℕ → Bool
  Inodes = room_inodes planned.room

  abbrev Zones : ℕ → Bool
  Zones = room_zones planned.room

  staged-room-has : HasStagedRoom from.flushed staged.volume M (is_forced planned) Made planned.present Map planned.plan planned.room
  staged-room-has = (keeping.calls entry config boot time surveyed is lies.there own-names own planned has staged.volume (Ok tt) from).done told-flushed

  staged-marks : KeepsMarkedBut View.layout Inodes Zones (parts_of View Is) (parts_of View There)
  staged-marks = forth (λ v i f b. KeepsMarkedBut v.layout Inodes Zones (parts_of v i) (parts_of v There)) staged-room-has.marks

  staged-leads : reached View.layout (parts_of View There) (with_tilde Map) ≡ Some planned.room.map.choice.inode
  staged-leads = forth (λ v i f b. reached v.layout (parts_of v There) (with_tilde Map) ≡ Some planned.room.map.choice.inode) staged-room-has.leads

  staged-backup : LeadsBackup View There Made planned.room.backup
  staged-backup = forth (λ v i f b. LeadsBackup v There Made planned.room.backup) staged-room-has.backup_leads

  -- what was named before it stays
  staged-keeps : KeepsNamed View.layout (parts_of View Is) (parts_of View There)
  staged-keeps = by Made staged-left.files
    where
      by : (made : Option (List (List ℕ))) → KeepsButBackup View made Is There → KeepsNamed View.layout (parts_of View Is) (parts_of View There)
      by None files = files.keeps
      by (Some path) files = files.keeps

  -- the map's own name leads where it led
  staged-map-leads : reached View.layout (parts_of View There) Map ≡ reached View.layout (parts_of View Is) Map
  staged-map-leads =
      staged-left.paths Map (keeping.own-differs entry config boot time surveyed is lies.there own-names own)
      (by Forced Made (keeping.map-no-backup entry config boot time surveyed is lies.there own-names own planned has))
    where
      by : (forced : Bool) (made : Option (List (List ℕ))) → IsNoBackup forced made Map → IsNoneOfBackup forced made Map
      by forced None none = tt
      by true (Some path) none = (none.1 refl, none.0)
      by false (Some path) none = (none.0, none.0)

  -- no inode that was chosen was marked
  free-inode : (chosen : Chosen) → IsFreeNow planned.volume chosen → (parts_of View Is).has_inode chosen.choice.inode ≡ false
  free-inode chosen free =
      subst₂ (λ (v : model.Volume) (p : Option Past). (parts_of v (now p)).has_inode chosen.choice.inode ≡ false) (plan-view-same entry config boot time surveyed is planned has)
      (keeping.past-same entry config boot time surveyed is lies.there own-names own planned has) free.inode

  unmarked : (number : ℕ) → Inodes number ≡ true → (parts_of View Is).has_inode number ≡ false
  unmarked number its = ⊎_elim
      (λ (map : is_inode_of planned.room.map number ≡ true). free-one planned.room.map makes.map.free map)
      (λ (other : backup_inodes planned.room.backup number ≡ true).
      by planned.room.backup (made_backup (super_view planned.volume.layout) (parts_now planned.volume) (is_forced planned) own-names.backup) makes.backup other)
      (or_cases (is_inode_of planned.room.map number) (backup_inodes planned.room.backup number) its)
    where
      makes : MayMakeRoom planned.volume own-names (is_forced planned) planned.room
      makes = (keeping.may entry config boot time surveyed is lies.there own-names own planned has).makes

      free-one : (chosen : Chosen) → IsFreeNow planned.volume chosen → is_inode_of chosen number ≡ true → (parts_of View Is).has_inode number ≡ false
      free-one chosen free same = subst (λ (n : ℕ). (parts_of View Is).has_inode n ≡ false) (sym (eqb-true number chosen.choice.inode same)) (free-inode chosen free)

      by : (made : Option Chosen) (path : Option (List (List ℕ))) → MayMakeBackup planned.volume path made → backup_inodes made number ≡ true
          → (parts_of View Is).has_inode number ≡ false
      by None path may other = absurd (cc)
      by (Some chosen) None may other = absurd may
      by (Some chosen) (Some path) may other = free-one chosen may.free other

  abbrev places : MapPlaces
  places = (five entry config boot time surveyed planned staged is has lies did.stages).at

  room : IsStagedRoom Is There M View S C Dev surveyed.time (room_zones planned.room) places staged.sector Map
  room =
      subst (λ (n : OwnNames).
      IsStagedRoom Is There M View S C Dev surveyed.time (room_zones planned.room) places staged.sector n.map)
      (value-is (staging.names entry config boot time surveyed planned staged is has lies did.stages) own-names
      (sym (staging.names-are entry config boot time surveyed planned staged is has lies did.stages) ∙ own))
      (staged-room entry config boot time surveyed planned staged is has lies did.stages)

  -- what the backup replaced is freed
  staged-frees : FreesBackup View Is Made There
  staged-frees = forth (λ v i f b. AreFree v i Zones → FreesBackup v i Made There) staged-room-has.frees room.is.map.free

  outside : IsApartSector View S.disk S.start
  outside = boot-apart entry config boot time surveyed is lies.there

  -- the new map is Held once its boot sector is written
  held-with : Held (with_sector There S.disk S.start staged.sector) M View S Map
  held-with =
      lays_held_law (with_sector There S.disk S.start staged.sector) M View S (plans.planned Is M View C surveyed.time) Map (Is S.disk S.start)
      (staged_lays_law Is There M View S C Dev surveyed.time (room_zones planned.room) places staged.sector Map room.is)

  boot-same : staged.boot ≡ surveyed.boot
  boot-same = did.stages.boot_is ∙ has.held.boot_is

  view-staged : volume_view staged.volume ≡ View
  view-staged =
      let one : volume_view staged.volume ≡ volume_view planned.volume = rw (from.kept.same_span, from.kept.same_layout) refl in
      one ∙ plan-view-same entry config boot time surveyed is planned has

  -- ---- the commit

  commit-kept : (c : Image) → IsWithOrWithout There S staged.sector c → SoundAsIn View There c → Kept c
  commit-kept c either same-as =
      keeping.room-kept entry config boot time surveyed is lies.there own-names own planned has c same-as.sound (λ name. same-as.same name ∙ staged-has name) (by either)
    where
      by : IsWithOrWithout There S staged.sector c → Held Is M View S Map → Held c M View S Map
      by (inl same) held = subst (λ (c : Image). Held c M View S Map) (sym same) (staged-left.held M S outside held)
      by (inr same) held = subst (λ (c : Image). Held c M View S Map) (sym same) held-with

  module _ (ended : Volume D disks) (result : Result (Unit {0}) DiskFault) (commits : Commits staged.volume ended staged.boot staged.sector result) where
    either-run : LeavesOnly (past_of staged.volume) (past_of ended) (IsWithOrWithout There S staged.sector)
    either-run =
        subst (λ (b : spans.Span). LeavesOnly (past_of staged.volume) (past_of ended) (IsWithOrWithout There (span_view b) staged.sector)) boot-same
        (commits.any_moment did.quiet)

    sound-run : LeavesOnly (past_of staged.volume) (past_of ended) (SoundAsIn View There)
    sound-run =
        subst (λ (v : model.Volume). LeavesOnly (past_of staged.volume) (past_of ended) (SoundAsIn v There)) view-staged
        (commits.sound did.quiet (subst (λ (v : model.Volume). IsSound v There) (sym view-staged) staged-left.sound)
        (subst₂ (λ (v : model.Volume) (b : spans.Span). IsApartSector v b.disk b.start) (sym view-staged) (sym boot-same) outside))

    commit-run : LeavesOnly (past_of entry) (past_of ended) Kept
    commit-run =
        leaves_join (past_of entry) (past_of staged.volume) (past_of ended) Kept
        (keeping.staged-run entry config boot time surveyed is lies.there own-names own planned has staged.volume (Ok tt) from)
        (leaves_weaker (past_of staged.volume) (past_of ended) _ _ (leaves_both (past_of staged.volume) (past_of ended) _ _ either-run sound-run)
        (λ c both. commit-kept c both.0 both.1))

    -- the old map stays at its name
    commit-map : LeavesOnly (past_of entry) (past_of ended) (HasOldMap Was M From own-names)
    commit-map =
        leaves_join (past_of entry) (past_of staged.volume) (past_of ended) _
        (keeping.staged-map entry config boot time surveyed is lies.there own-names own planned has staged.volume (Ok tt) from)
        (leaves_weaker (past_of staged.volume) (past_of ended) _ _ sound-run
        (λ c same-as. keeping.old-map entry config boot time surveyed is lies.there own-names own c
        (same-as.same Map ∙ keeping.staging-map entry config boot time surveyed is lies.there own-names own planned has There staged-left)))

  -- ---- the backup

  -- what is at a name, by whether its path leads anywhere
  named-by : (path : List (List ℕ)) (found : Option ℕ) → reached View.layout (parts_of View Is) path ≡ found → names_in View Is path ≡ option_map (thing View.layout (parts_of View Is)) found
  unfolding names_in names
  named-by path found same = ap (λ (o : Option ℕ). option_map (thing View.layout (parts_of View Is)) o) same

  abbrev MayBeMade : Bool → Option (List (List ℕ)) → Option Chosen → Type 0
  MayBeMade forced backup made = MayMakeBackup planned.volume (made_backup View.layout (parts_of View Is) forced backup) made

  made-now : MayBeMade Forced own-names.backup planned.room.backup
  made-now =
      subst (λ (f : Bool). MayBeMade f own-names.backup planned.room.backup) (keeping.forced-same entry config boot time surveyed is lies.there own-names own planned has)
      (subst₂ (λ (v : model.Volume) (p : Option Past). MayMakeBackup planned.volume (made_backup v.layout (parts_of v (now p)) (is_forced planned) own-names.backup) planned.room.backup)
      (plan-view-same entry config boot time surveyed is planned has) (keeping.past-same entry config boot time surveyed is lies.there own-names own planned has)
      (keeping.may entry config boot time surveyed is lies.there own-names own planned has).makes.backup)

  abbrev IsMade : Bool → Option Chosen → Option (List (List ℕ)) → List (List ℕ) → Type 0
  IsMade forced made backup path =
      with_room forced (path_made made backup) Present Map Bytes (names_in View Is) path ≡ backup_then forced Present (names_in View Was path)

  forced-then : (what : Option Thing) → backup_then true Present what ≡ Some (File Present)
  forced-then None = refl
  forced-then (Some thing) = refl

  made-by : (forced : Bool) (made : Option Chosen) (backup : Option (List (List ℕ))) → MayBeMade forced backup made
      → IfSome backup (λ path. IsNoneOfMap Map path × IsNoneOfMap Map (with_tilde path)) → IfSome backup (λ path. path ≢ with_tilde path) → IfSome backup (λ path. IsAsBefore View Was Is path)
      → IfSome backup (IsMade forced made backup)
  made-by forced made None may apart differs same = tt
  made-by true None (Some path) may apart differs same = absurd may
  made-by true (Some chosen) (Some path) may apart differs same =
      room-backup true path Present Map Bytes (names_in View Is) apart.0.0 differs ∙ sym (forced-then (names_in View Was path))
  made-by false made (Some path) may apart differs same =
      at made (reached View.layout (parts_of View Is) path) refl may
    where
      at : (made : Option Chosen) (found : Option ℕ) → reached View.layout (parts_of View Is) path ≡ found → MayBeMade false (Some path) made → IsMade false made (Some path) path
      at made found leads may = by made found leads (subst (λ (o : Option ℕ). MayMakeBackup planned.volume (if is_some o then None else Some path) made) leads may)
        where
          by : (made : Option Chosen) (found : Option ℕ) → reached View.layout (parts_of View Is) path ≡ found → MayMakeBackup planned.volume (if is_some found then None else Some path) made
              → IsMade false made (Some path) path
          by None None leads may = absurd may
          by (Some chosen) None leads may =
              room-backup false path Present Map Bytes (names_in View Is) apart.0.0 differs ∙ ap (backup_then false Present) (sym (sym same ∙ named-by path None leads))
          by None (Some number) leads may =
              room-other false None Present Map Bytes (names_in View Is) path apart.0.0 tt
              ∙ (named-by path (Some number) leads ∙ ap (backup_then false Present) (sym (sym same ∙ named-by path (Some number) leads)))
          by (Some chosen) (Some number) leads may = absurd may

  -- what is staged at the backup's name
  backup-made : IfSome own-names.backup (λ path. with_room Forced Made Present Map Bytes (names_in View Is) path ≡ backup_then Forced Present (names_in View Was path))
  backup-made =
      made-by Forced planned.room.backup own-names.backup made-now (keeping.apart entry config boot time surveyed is lies.there own-names own) (backup-differs Was M From own-names own)
      (beside own-names.backup (backup-beside Was M From own-names own (keeping.apart entry config boot time surveyed is lies.there own-names own)))
    where
      beside : (backup : Option (List (List ℕ))) → IfSome backup (IsBeside own-names Forced) → IfSome backup (λ path. IsAsBefore View Was Is path)
      beside None is-beside = tt
      beside (Some path) is-beside = keeping.mid-beside entry config boot time surveyed is lies.there own-names own path is-beside

  -- ---- the stale copy

  forced-on : (forced : Bool) (path : List (List ℕ)) → stale_of forced own-names ≡ Some path → forced ≡ true
  forced-on true path same = refl
  forced-on false path same = cc

  copies-differ : (path : List (List ℕ)) → Stale ≡ Some path → IsNoneOfMap Map (with_tilde path)
  copies-differ path stale =
      (subst (λ (o : Option (List (List ℕ))). IfSome o (λ path. IsNoneOfMap Map path × IsNoneOfMap Map (with_tilde path))) (stale-is Was M From own-names own path stale)
      (keeping.apart entry config boot time surveyed is lies.there own-names own)).1

  copy-by : (made : Option Chosen) (path : List (List ℕ)) → MayBeMade true (Some path) made → with_tilde path ≢ with_tilde Map
      → with_room true (path_made made (Some path)) Present Map Bytes (names_in View Is) (with_tilde path) ≡ None
  copy-by None path may other = absurd may
  copy-by (Some chosen) path may other = room-copy path Present Map Bytes (names_in View Is) other

  -- nothing is staged there
  copy-gone : (path : List (List ℕ)) → Stale ≡ Some path → with_room Forced Made Present Map Bytes (names_in View Is) (with_tilde path) ≡ None
  copy-gone path stale =
      let on = forced-on Forced path stale in
      let some = stale-is Was M From own-names own path stale in
      subst₂ (λ (f : Bool) (o : Option (List (List ℕ))). with_room f (path_made planned.room.backup o) Present Map Bytes (names_in View Is) (with_tilde path) ≡ None) (sym on) (sym some)
      (copy-by planned.room.backup path (subst₂ (λ (f : Bool) (o : Option (List (List ℕ))). MayBeMade f o planned.room.backup) on some made-now) (copies-differ path stale).0)

  -- ---- what was committed

  module _ (committed : Committed D disks) (commits : IsCommitted staged committed) where
    abbrev Com : Image
    Com = now (past_of committed.volume)

    told-committed : IsTold (past_of committed.volume)
    told-committed = commits.commits.goes_on.told told

    same-com : SoundAsIn View There Com
    same-com =
        end_of_run_law (SoundAsIn View There) (past_of staged.volume) (past_of committed.volume) (sound-run committed.volume (Ok tt) commits.commits) Com
        (commits.commits.goes_on.at_now told-committed)

    com-has : Room Com
    com-has name = same-com.same name ∙ staged-has name

    committed-is : Com ≡ with_sector There S.disk S.start staged.sector
    committed-is = subst (λ (b : spans.Span). Com ≡ with_sector There b.disk b.start staged.sector) boot-same (commits.commits.written told)

    seen-com : SeenAsIn View There Com
    seen-com =
        subst (SeenAsIn View There) (sym committed-is)
        (commit_seen_law View There S staged.sector staged-left.sound outside
        (committing.size-is Is There M View S C Dev surveyed.time (room_zones planned.room) places staged.sector Map room.is))

    tree-com : TreeAs View.layout (parts_of View There) (parts_of View Com)
    tree-com = sees_tree_law View.layout (parts_of View There) (parts_of View Com) (opened View There staged-left.sound).parts seen-com.sees

    commit-marks : KeepsMarked View.layout (parts_of View There) (parts_of View Com)
    commit-marks =
        subst (λ (c : Image). KeepsMarked View.layout (parts_of View There) (parts_of View c)) (sym committed-is)
        (commit_marked View There S staged.sector staged-left.sound outside)

    view-committed : volume_view committed.volume ≡ View
    view-committed =
        let one : volume_view committed.volume ≡ volume_view staged.volume = rw (commits.commits.kept.same_span, commits.commits.kept.same_layout) refl in
        one ∙ view-staged

    -- what may be tidied, by these names
    abbrev now-may : MayStageNow planned
    now-may =
        let here =
        subst₂ (λ (past : Option Past) (machine : Machine). MayStage (now past) machine own-names (mapped_sectors Was M S) planned)
        (sym (keeping.past-same entry config boot time surveyed is lies.there own-names own planned has)) (sym (plan-machine-same entry config boot time surveyed is planned has))
        (keeping.may entry config boot time surveyed is lies.there own-names own planned has) in
        record {
          names = own-names;
          places = mapped_sectors Was M S;
          may = here;
          room = stageable (now (past_of planned.volume)) (machine_of disks planned.volume.disks.now) own-names (mapped_sectors Was M S) planned has.ready.files here;
        }

    abbrev ready : IsReady planned
    ready = record { files = has.ready.files; may = λ told settled. now-may }

    may-staged : MayTidy staged.volume Map planned.own.map
    may-staged = may_tidy_then planned staged.volume ready (has.held.settled_is ∙ is.held.settled_is) from told-plan

    may-committed : MayTidy committed.volume Map committed.map
    may-committed =
        subst (λ (pair : NamePair). MayTidy committed.volume Map pair) (sym (commits.map_is ∙ did.stages.map_is))
        (may_tidy staged.volume committed.volume staged.boot staged.sector
        (committing.size-is Is There M View S C Dev surveyed.time (room_zones planned.room) places staged.sector Map room.is)
        commits.commits told Map planned.own.map
        (subst₂ (λ (v : model.Volume) (b : spans.Span). IsApartSector v b.disk b.start) (sym view-staged) (sym boot-same) outside) may-staged)

    -- ---- an image that tidying leaves

    abbrev differs : Map ≢ with_tilde Map
    differs = keeping.own-differs entry config boot time surveyed is lies.there own-names own

    module _ (c : Image) where
      tidy-other : AreTidying View Com Map c → (name : List (List ℕ)) → name ≢ Map → name ≢ with_tilde Map → IsAsBefore View Com c name
      tidy-other (inl same) name map tilde = same name
      tidy-other (inr (inl both)) name map tilde = both name ∙ with-other Map name (names_in View Com (with_tilde Map)) (names_in View Com) map
      tidy-other (inr (inr alone)) name map tilde = alone name ∙ settled-beside true Map None (names_in View Com) name map tilde tt

      tidy-map : AreTidying View Com Map c → IsAsBefore View Is c Map ⊎ IsFile View c Bytes Map
      tidy-map (inl same) =
          inl (same Map ∙ keeping.room-at entry config boot time surveyed is lies.there own-names own planned has Com same-com.sound com-has Map differs
          (keeping.map-no-backup entry config boot time surveyed is lies.there own-names own planned has))
      tidy-map (inr (inl both)) =
          inr (both Map ∙ (name-here Map (names_in View Com (with_tilde Map)) (names_in View Com)
          ∙ (com-has (with_tilde Map) ∙ room-map Forced Made Present Map Bytes (names_in View Is))))
      tidy-map (inr (inr alone)) =
          inr (alone Map ∙ (finished-map Map None (names_in View Com) differs tt
          ∙ (com-has (with_tilde Map) ∙ room-map Forced Made Present Map Bytes (names_in View Is))))

      -- the backup is as it was staged
      tidy-backup : AreTidying View Com Map c → IfSome own-names.backup (λ backup. IsAsBefore View Com c backup)
      tidy-backup tidying = by own-names.backup (backup-beside Was M From own-names own (keeping.apart entry config boot time surveyed is lies.there own-names own))
        where
          by : (backup : Option (List (List ℕ))) → IfSome backup (IsBeside own-names Forced) → IfSome backup (λ path. IsAsBefore View Com c path)
          by None beside = tt
          by (Some path) beside = tidy-other tidying path beside.map beside.tilde

      tidy-kept : IsTidying View Com Map c → Held c M View S Map → Kept c
      tidy-kept tidying held =
          keeping.kept entry config boot time surveyed is lies.there own-names own Bytes c
          (record {
            sound = tidying.sound;
            others = λ name other.
                tidy-other tidying.has name other.beside.map other.beside.tilde
                ∙ keeping.room-at entry config boot time surveyed is lies.there own-names own planned has Com same-com.sound com-has name other.beside.tilde
                (keeping.no-backup entry config boot time surveyed is lies.there own-names own planned has name other.backup other.beside.stale);
            map = tidy-map tidying.has;
            backup = each own-names.backup (tidy-backup tidying.has)
                (keeping.room-backup-at entry config boot time surveyed is lies.there own-names own planned has Com same-com.sound com-has);
            held = λ h. held;
          })
        where
          each : (backup : Option (List (List ℕ))) → IfSome backup (λ path. IsAsBefore View Com c path) → IfSome backup (λ path. IsAsBefore View Is Com path ⊎ IsFile View Com Present path)
              → IfSome backup (λ path. IsAsBefore View Is c path ⊎ IsFile View c Present path)
          each None same two = tt
          each (Some path) same (inl before) = inl (same ∙ before)
          each (Some path) same (inr made) = inr (same ∙ made)

      backup-there : AreTidying View Com Map c → HasBackup Was From own-names c
      backup-there tidying = each own-names.backup (tidy-backup tidying) backup-made
        where
          each : (backup : Option (List (List ℕ))) → IfSome backup (λ path. IsAsBefore View Com c path)
              → IfSome backup (λ path. with_room Forced Made Present Map Bytes (names_in View Is) path ≡ backup_then Forced Present (names_in View Was path))
              → IfSome backup (λ path. names_in View c path ≡ backup_then Forced Present (names_in View Was path))
          each None same made = tt
          each (Some path) same made = same ∙ (com-has path ∙ made)

    -- ---- a run that tidies

    module _ (new : Volume D disks) (result : Result (Unit {0}) WriteFault) (does : TidiesFrom committed new result) where
      tidies : Tidies committed.volume new Map committed.map.tilde.directory result
      tidies = does Map (λ t. may-committed)

      tidy-run : LeavesOnly (past_of committed.volume) (past_of new) (IsTidying View Com Map)
      tidy-run = subst (λ (v : model.Volume). LeavesOnly (past_of committed.volume) (past_of new) (IsTidying v Com Map)) view-committed tidies.any_moment

      pub map-run : LeavesOnly (past_of committed.volume) (past_of new) (IsTidiedMap Is M View S C surveyed.time places.line Map)
      map-run =
          tidied_map_law Is M View S C Dev surveyed.time (room_zones planned.room) places staged.sector Map
          (past_of staged.volume) (past_of committed.volume) (past_of new) room.is room.leads committed-is
          (subst (λ (v : model.Volume). WritesOnly v (λ zone. false) (past_of committed.volume) (past_of new)) view-committed tidies.only) tidy-run

      installed-run : LeavesOnly (past_of entry) (past_of new) Kept
      installed-run =
          leaves_join (past_of entry) (past_of committed.volume) (past_of new) Kept (commit-run committed.volume (Ok tt) commits.commits)
          (leaves_weaker (past_of committed.volume) (past_of new) _ _ (leaves_both (past_of committed.volume) (past_of new) _ _ tidy-run map-run)
          (λ c both. tidy-kept c both.0 both.1.held))

      backup-run : LeavesOnly (past_of committed.volume) (past_of new) (HasBackup Was From own-names)
      backup-run = leaves_weaker (past_of committed.volume) (past_of new) _ _ tidy-run (λ c tidying. backup-there c tidying.has)

    -- once it is done

    module _ (new : Volume D disks) (does : TidiesFrom committed new (Ok tt)) where
      done : IsTidied View Com Map (now (past_of new))
      done = subst (λ (v : model.Volume). IsTidied v Com Map (now (past_of new))) view-committed ((does Map (λ t. may-committed)).done told-committed)

      abbrev End : Image
      End = now (past_of new)

      tidied : Tidies committed.volume new Map committed.map.tilde.directory (Ok tt)
      tidied = does Map (λ t. may-committed)

      tidied-gains : GainsNothing View Com End
      tidied-gains = subst (λ (v : model.Volume). GainsNothing v Com End) view-committed (tidied.gains told-committed)

      -- ---- what is marked since the entry

      marked-since : KeepsMarkedBut View.layout Inodes Zones (parts_of View Was) (parts_of View End)
      marked-since =
          but_join View.layout Inodes Zones (parts_of View Was) (parts_of View Is) (parts_of View End)
          (but_none View.layout Inodes Zones (parts_of View Was) (parts_of View Is) (begun entry config boot time surveyed is).gains.marked)
          (but_join View.layout Inodes Zones (parts_of View Is) (parts_of View There) (parts_of View End) staged-marks
          (but_none View.layout Inodes Zones (parts_of View There) (parts_of View End)
          (marked_join View.layout (parts_of View There) (parts_of View Com) (parts_of View End) commit-marks tidied-gains.marked)))

      map-leads : reached View.layout (parts_of View End) Map ≡ Some planned.room.map.choice.inode
      map-leads = done.leads.tree.here ∙ (tree-com.leads (with_tilde Map) ∙ staged-leads)

      -- what was made is the map's and the backup's
      is-own : (number : ℕ) → Inodes number ≡ true → IsOwnInode View own-names End number
      is-own number its = ⊎_elim
          (λ (map : is_inode_of planned.room.map number ≡ true). inl (map-leads ∙ ap Some (sym (eqb-true number planned.room.map.choice.inode map))))
          (λ (other : backup_inodes planned.room.backup number ≡ true).
          inr (by planned.room.backup own-names.backup refl staged-backup (keeping.apart entry config boot time surveyed is lies.there own-names own) other))
          (or_cases (is_inode_of planned.room.map number) (backup_inodes planned.room.backup number) its)
        where
          by : (made : Option Chosen) (backup : Option (List (List ℕ))) → own-names.backup ≡ backup → LeadsBackup View There (path_made made backup) made
              → IfSome backup (λ path. IsNoneOfMap Map path × IsNoneOfMap Map (with_tilde path)) → backup_inodes made number ≡ true
              → (path : List (List ℕ)) × (own-names.backup ≡ Some path) × (reached View.layout (parts_of View End) path ≡ Some number)
          by None backup same leads apart other = absurd (cc)
          by (Some chosen) None same leads apart other = absurd leads
          by (Some chosen) (Some path) same leads apart other =
              let at : reached View.layout (parts_of View End) path ≡ reached View.layout (parts_of View There) path =
              done.leads.tree.others path apart.0.0 apart.0.1 ∙ tree-com.leads path in
              (path, same, at ∙ (leads ∙ ap Some (sym (eqb-true number chosen.choice.inode other))))

      marks-own : MarksOwn View Was own-names End
      marks-own = record {
        marks = λ number is-inode set. ⊎_elim
            (λ before. inl before)
            (λ its. inr (is-own number its))
            (or_cases ((parts_of View Was).has_inode number) (Inodes number) (marked-since.marks number is-inode set));
        owners = λ number is-inode set other. marked-since.owners number is-inode set (none number other);
        files = λ number is-inode set other plain. marked-since.files number is-inode set (none number other) plain;
      }
        where
          none : (number : ℕ) → (IsOwnInode View own-names End number → ⊥) → Inodes number ≡ false
          none number other = false_from_ne_true (Inodes number) (λ its. other (is-own number its))

      -- ---- what was replaced is freed

      abbrev sound-is : Sound View.layout (parts_of View Is)
      sound-is = (opened View Is (begun entry config boot time surveyed is).sound).parts

      marked-com : KeepsMarkedBut View.layout Inodes Zones (parts_of View Is) (parts_of View Com)
      marked-com =
          but_join View.layout Inodes Zones (parts_of View Is) (parts_of View There) (parts_of View Com) staged-marks
          (but_none View.layout Inodes Zones (parts_of View There) (parts_of View Com) commit-marks)

      view-new : volume_view new ≡ View
      view-new =
          let one : volume_view new ≡ volume_view committed.volume = rw (tidied.kept.same_span, tidied.kept.same_layout) refl in
          one ∙ view-committed

      renames : RenamesFiles View.layout (parts_of View Com) (parts_of View End) committed.map.tilde.directory (reached View.layout (parts_of View Com) Map)
      renames =
          subst₂ (λ (v w : model.Volume). RenamesFiles v.layout (parts_of v Com) (parts_of w End) committed.map.tilde.directory (reached v.layout (parts_of v Com) Map)) view-committed view-new
          (tidied.files told-committed)

      file-com : IfSome (reached View.layout (parts_of View Com) Map) (λ former. is_file ((parts_of View Com).node former) ≡ true)
      file-com = subst (λ (v : model.Volume). IfSome (reached v.layout (parts_of v Com) Map) (λ former. is_file ((parts_of v Com).node former) ≡ true)) view-committed may-committed.maps.former

      freed-map : (former : ℕ) → reached View.layout (parts_of View Is) Map ≡ Some former → ((parts_of View Is).node former).links ≤ 1
          → IsFreed View.layout (parts_of View Is) former (parts_of View End)
      freed-map former at few =
          let there : reached View.layout (parts_of View There) Map ≡ Some former = staged-map-leads ∙ at in
          let leads-com : reached View.layout (parts_of View Com) Map ≡ Some former = tree-com.leads Map ∙ there in
          let F : Option ℕ → Type 0 = λ o. IfSome o (λ number. is_file ((parts_of View Com).node number) ≡ true) in
          replaced_freed View.layout (parts_of View Is) (parts_of View Com) (parts_of View End) Inodes Zones committed.map.tilde.directory former Map
          sound-is (opened View Com same-com.sound).parts at leads-com marked-com unmarked
          (λ pointer zone to.
          tree-com.keeps.stays former pointer zone
          (record {
            named = record { path = Map; leads = there };
            to = staged-keeps.stays former pointer zone (record { named = record { path = Map; leads = at }; to = to }) (record { path = Map; leads = there });
          })
          (record { path = Map; leads = leads-com }))
          (subst F leads-com file-com) renames few

      frees-map : FreesAt View.layout (parts_of View Is) Map (parts_of View End)
      frees-map = by (reached View.layout (parts_of View Is) Map) refl
        where
          by : (found : Option ℕ) → reached View.layout (parts_of View Is) Map ≡ found
              → IfSome found (λ former. ((parts_of View Is).node former).links ≤ 1 → IsFreed View.layout (parts_of View Is) former (parts_of View End))
          by None at = tt
          by (Some former) at = λ few. freed-map former at few

      -- the backup's is free since it was staged
      freed-backup : (path : List (List ℕ)) → FreesAt View.layout (parts_of View Is) path (parts_of View There) → FreesAt View.layout (parts_of View Is) path (parts_of View End)
      freed-backup path frees = by (reached View.layout (parts_of View Is) path) refl frees
        where
          still : (former : ℕ) → reached View.layout (parts_of View Is) path ≡ Some former → IsFreed View.layout (parts_of View Is) former (parts_of View There)
              → IsFreed View.layout (parts_of View Is) former (parts_of View End)
          still former at freed =
              freed_still View.layout (λ number. false) (λ zone. false) (parts_of View Is) (parts_of View There) (parts_of View End) former
              (sound-is.in_range former (record { path = path; leads = at })) refl
              (λ pointer zone to. (sound-is.zone_range former pointer zone (record { named = record { path = path; leads = at }; to = to }), refl))
              freed
              (but_none View.layout (λ number. false) (λ zone. false) (parts_of View There) (parts_of View End)
              (marked_join View.layout (parts_of View There) (parts_of View Com) (parts_of View End) commit-marks tidied-gains.marked))

          by : (found : Option ℕ) → reached View.layout (parts_of View Is) path ≡ found
              → IfSome found (λ former. ((parts_of View Is).node former).links ≤ 1 → IsFreed View.layout (parts_of View Is) former (parts_of View There))
              → IfSome found (λ former. ((parts_of View Is).node former).links ≤ 1 → IsFreed View.layout (parts_of View Is) former (parts_of View End))
          by None at frees = tt
          by (Some former) at frees = λ few. still former at (frees few)

      frees-backup : Forced ≡ true → IfSome own-names.backup (λ path. FreesAt View.layout (parts_of View Is) path (parts_of View End))
      frees-backup on =
          by planned.room.backup own-names.backup (subst (λ (f : Bool). MayBeMade f own-names.backup planned.room.backup) on made-now) staged-frees
        where
          by : (made : Option Chosen) (backup : Option (List (List ℕ))) → MayBeMade true backup made → FreesBackup View Is (path_made made backup) There
              → IfSome backup (λ path. FreesAt View.layout (parts_of View Is) path (parts_of View End))
          by made None may frees = tt
          by None (Some path) may frees = absurd may
          by (Some chosen) (Some path) may frees = freed-backup path frees

      installed : IsInstalled Was Is From own-names Bytes (now (past_of new))
      installed = record {
        marks = marks-own;
        frees = record { map = frees-map; backup = frees-backup };
        map = done.has Map ∙ (finished-map Map None (names_in View Com) differs tt ∙ (com-has (with_tilde Map) ∙ room-map Forced Made Present Map Bytes (names_in View Is)));
        tilde = done.has (with_tilde Map) ∙ settled-tilde true Map None (names_in View Com);
        copy = by Stale refl;
        backup = backup-there (now (past_of new)) (inr (inr done.has));
      }
        where
          by : (stale : Option (List (List ℕ))) → Stale ≡ stale → IfSome stale (λ backup. IsAbsent View (now (past_of new)) (with_tilde backup))
          by None same = tt
          by (Some path) same =
              let other = copies-differ path same in
              tidy-other (now (past_of new)) (inr (inr done.has)) (with_tilde path) other.1 other.0 ∙ (com-has (with_tilde path) ∙ copy-gone path same)

pub commit_keeps_law : {D : Type 0} (disks : Ghosts D) → CommitKeepsLaw disks
commit_keeps_law disks entry config boot time surveyed planned staged halt names is has lies own did halts =
    commit-run entry config boot time surveyed planned staged is has lies did names own halt.volume (Err Failed) halts.commits

pub commit_map_law : {D : Type 0} (disks : Ghosts D) → CommitMapLaw disks
commit_map_law disks entry ended config boot time surveyed planned staged names result is has lies own did commits =
    commit-map entry config boot time surveyed planned staged is has lies did names own ended result commits

pub installation_keeps_law : {D : Type 0} (disks : Ghosts D) → InstallationKeepsLaw disks
installation_keeps_law disks entry new config boot time surveyed planned staged committed names result is has lies own did commits tidies =
    installed-run entry config boot time surveyed planned staged is has lies did names own committed commits new result tidies

pub committed_backup_law : {D : Type 0} (disks : Ghosts D) → CommittedBackupLaw disks
committed_backup_law disks entry new config boot time surveyed planned staged committed names result is has lies own did commits tidies =
    backup-run entry config boot time surveyed planned staged is has lies did names own committed commits new result tidies

pub installed_law : {D : Type 0} (disks : Ghosts D) → InstalledLaw disks
installed_law disks entry new config boot time surveyed planned staged committed names is has lies own did commits tidies quiet c left =
    subst (IsInstalled (now (past_of entry)) (now (past_of surveyed.volume)) (begun_from entry surveyed) names (map_of entry planned)) (sym (quiet c left))
    (installed entry config boot time surveyed planned staged is has lies did names own committed commits new tidies)
