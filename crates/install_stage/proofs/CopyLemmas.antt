-- The file of a backup is made: what a stop leaves, what is written, and what is left free.
use Rattle.std.proofs.Common.{◌≡◌, ◌≤◌, ◌⊎◌, ℕ, Bool, false, List, ◌∷◌, length, Option, None, Some, Result, Ok, Err, OnOk, sym, ◌∙◌, ap, subst, inl, inr}
use Rattle.std.specs.Prelude.{IfSome}
use Rattle.disk_trait.specs.declared.disks.Disks.{Ghosts}
use Rattle.disk_trait.specs.Moments.{IsTold, now, IsQuiet, LeavesOnly}
use Rattle.disk_trait.proofs.MomentLemmas.{leaves_weaker, told_or_not}
use Rattle.lilo_model.specs.Disks.{Image, DiskSector, bytes_at}
use Rattle.lilo_model.specs.MinixFindNames.{path_above}
use Rattle.lilo_model.specs.MinixNames.{Thing, File, names_in, reached, then_lookup, IsSound}
use Rattle.lilo_model.specs.MinixParts as model
use Rattle.lilo_model.specs.MinixParts.{parts_of, is_directory}
use Rattle.minix_create.specs.Chosen.{Suits, block_of}
use Rattle.minix_create.specs.Linked.{Creates}
use Rattle.minix_create.specs.Several.{WasMade}
use Rattle.minix_create.specs.States.{CreatesOn}
use Rattle.minix_create.specs.declared.chosen.Chosen.{Chosen}
use Rattle.minix_create.proofs.SeveralLemmas.{left_free}
use Rattle.minix_turns.specs.Joined.{LeadsPath}
use Rattle.minix_choice.specs.declared.write_fault.WriteFault.{WriteFault}
use Rattle.minix_zones.specs.Volume.{volume_view, past_of}
use Rattle.minix_zones.specs.declared.volume.Volume.{Volume}
use Rattle.install_stage_laws.proofs.Spared.{leaves_both}
use Rattle.install_laws.specs.InstallVerdict.{file_mode}
use Rattle.install_laws.specs.Writes.{IsWritable, WritesOnly}
use Rattle.install_stage.specs.Within.{is_chosen, is_inode_of, IsFreeFile, WritesWithin, WritesJoin}
use Rattle.install_stage_laws.specs.Marked.{IsFreed, KeepsMarkedBut}
use Rattle.install_stage.proofs.After.{writes_join}
use Rattle.install_stage.proofs.Kept.{apart_law}
use Rattle.install_stage.proofs.Within.{zones_data, writes_within}
use Rattle.install_room.specs.Making.{MayMake}
use Rattle.install_room.specs.Room.{HasNoHole}
use Rattle.install_settle.specs.Settles.{HasNames}
use Rattle.install_settle.proofs.RenameLemmas.{leaves-untold}
use Rattle.install_stage_laws.proofs.Sectors.{keeps_rest_law}
use Rattle.install_stage.specs.Halves.{backup_blocks}
use Rattle.install_stage.specs.BackupStaged.{made_at, with_backup, KeepsApart, IsStaging}
use Rattle.install_stage.specs.BackupStages.{MayStageFile, LeavesRoom, MarksFile, StagesFile}
use Rattle.install_stage.proofs.Marked.{made_marks}
use Rattle.install_stage.proofs.FileLemmas.{no-directory, file-is}
use Rattle.install_stage.proofs.BackupImageLemmas.{making-staging, made-names}

-- what is known of what is chosen for a backup, and of the boot sector
pub record IsForFile {D : Type 0} {disks : Ghosts D} (volume : Volume D disks) (chosen : Chosen) (present : List ℕ) : Type 0 where
  pub suits : Suits volume.layout volume.span chosen
  pub mode : chosen.mode ≡ file_mode
  pub size : chosen.length ≡ 512
  pub whole : IsTold (past_of volume) → HasNoHole chosen
  pub long : length present ≡ 512

absent-at : (volume : model.Volume) (image : Image) (outer : List (List ℕ)) (name : List ℕ) (directory : ℕ) → reached volume.layout (parts_of volume image) outer ≡ Some directory
    → Rattle.lilo_model.specs.MinixNames.lookup volume.layout (parts_of volume image) name directory ≡ None → reached volume.layout (parts_of volume image) (name ∷ outer) ≡ None
unfolding reached
absent-at volume image outer name directory leads none = ap (then_lookup volume.layout (parts_of volume image) name) leads ∙ none

module _ {D : Type 0} {disks : Ghosts D} (start mid : Volume D disks) (chosen : Chosen) (forced : Bool) (path : List (List ℕ)) (present : List ℕ) (is : IsForFile start chosen present)
    (quiet : IsQuiet (past_of start)) (may : IsTold (past_of start) → MayStageFile start path forced chosen) where
  abbrev View : model.Volume
  View = volume_view start

  abbrev Was : Image
  Was = now (past_of start)

  abbrev Given : ℕ → List ℕ
  Given = block_of (backup_blocks present)

  abbrev At : List (List ℕ)
  At = made_at forced path

  -- no file is nested
  pub creates-at : (result : Result (Unit {0}) WriteFault) → CreatesOn start mid chosen Given result → Creates start mid (path_above At) chosen Given result
  creates-at result makes = makes (path_above At) (λ nested. let none = no-directory chosen is.mode in absurd (cc)) (λ told. (may told).make.name)

  module _ (told : IsTold (past_of start)) where
    make : MayMake start At chosen
    make = (may told).make

    pub sound-was : IsSound View Was
    sound-was = make.free.sound

    pub free-file : IsFreeFile start chosen
    free-file = record { suits = is.suits; free = make.free; file = no-directory chosen is.mode }

    pub absent-was : reached View.layout (parts_of View Was) At ≡ None
    absent-was = subst (λ (p : List (List ℕ)). reached View.layout (parts_of View Was) p ≡ None) make.ends
        (absent-at View Was (path_above At) chosen.name chosen.directory make.name.leads make.name.absent)

    pub apart-kept : (c : Image) → ((place : DiskSector) → (IsWritable View Was (is_chosen chosen) place → ⊥) → bytes_at c place ≡ bytes_at Was place) → KeepsApart View Was c
    apart-kept c kept d s apart = kept (record { disk = d; sector = s }) (apart_law View Was (is_chosen chosen) d s sound-was (zones_data start chosen free-file) apart)

    pub was-made : Creates start mid (path_above At) chosen Given (Ok tt) → WasMade start mid chosen
    was-made creates = record { outer = path_above At; given = Given; told = told; might = make.name; creates = creates }

    -- what is marked once it is made
    pub marked : Creates start mid (path_above At) chosen Given (Ok tt)
        → KeepsMarkedBut View.layout (is_inode_of chosen) (is_chosen chosen) (parts_of View Was) (parts_of View (now (past_of mid)))
    marked creates = made_marks View.layout (parts_of View Was) (parts_of View (now (past_of mid))) chosen (creates.marks told) (creates.nodes told) make.name.is

    module _ (result : Result (Unit {0}) WriteFault) (creates : Creates start mid (path_above At) chosen Given result) where
      pub wrote : WritesWithin start mid chosen
      wrote = writes_within start mid chosen free-file (record { told = told; outer = path_above At; given = Given; result = result; creates = creates })

      pub leads-at : LeadsPath start mid At (Some chosen.choice.inode) (Some (File present)) result
      leads-at =
          let L : List (List ℕ) → Thing → Type 0 = λ p what. LeadsPath start mid p (Some chosen.choice.inode) (Some what) result in
          subst (λ (p : List (List ℕ)). L p (File present)) make.ends
          (subst (L (chosen.name ∷ path_above At)) (file-is chosen is.mode is.size (is.whole told) present is.long) creates.leads)

      any-told : LeavesOnly (past_of start) (past_of mid) (IsStaging View Was forced path present)
      any-told =
          leaves_weaker (past_of start) (past_of mid) _ _
          (leaves_both (past_of start) (past_of mid) _ _ leads-at.any_moment (wrote.only quiet))
          (λ c both. making-staging View Was forced path present sound-was absent-was c (Some chosen.choice.inode) both.0 (apart-kept c both.1))

      pub left-told : IsStaging View Was forced path present (now (past_of mid))
      left-told =
          making-staging View Was forced path present sound-was absent-was (now (past_of mid)) (Some chosen.choice.inode) (leads-at.held told)
          (apart-kept (now (past_of mid)) ((keeps_rest_law View (is_chosen chosen) (past_of start) (past_of mid) (wrote.only quiet)).1 (creates.leads.goes_on.told told)))

  module _ (result : Result (Unit {0}) WriteFault) (creates : Creates start mid (path_above At) chosen Given result) where
    pub making-any : LeavesOnly (past_of start) (past_of mid) (IsStaging View Was forced path present)
    making-any = by (told_or_not (past_of start))
      where
        by : IsTold (past_of start) ⊎ (IsTold (past_of start) → ⊥) → LeavesOnly (past_of start) (past_of mid) (IsStaging View Was forced path present)
        by (inl told) = any-told told result creates
        by (inr none) = leaves-untold (past_of start) (past_of mid) _ none (λ told. none (creates.leads.goes_on.told_before told))

    pub making-only : WritesOnly View (is_chosen chosen) (past_of start) (past_of mid)
    making-only = by (told_or_not (past_of start))
      where
        by : IsTold (past_of start) ⊎ (IsTold (past_of start) → ⊥) → WritesOnly View (is_chosen chosen) (past_of start) (past_of mid)
        by (inl told) = (wrote told result creates).only quiet
        by (inr none) = leaves-untold (past_of start) (past_of mid) _ none (λ told. none (creates.leads.goes_on.told_before told))

    -- what is staged of it
    pub stages-by : (IsTold (past_of start) → OnOk result (HasNames View (now (past_of mid)) (with_backup forced path present (names_in View Was))))
        → (IsTold (past_of start) → OnOk result (WritesJoin start mid chosen)) → (IsTold (past_of start) → OnOk result (MarksFile View path chosen Was (now (past_of mid))))
        → (IsTold (past_of start) → OnOk result (LeavesRoom start mid path chosen)) → StagesFile start mid path forced present chosen result
    stages-by done joins marks room = record {
      any_moment = making-any;
      left = λ told. left-told told result creates;
      done = done;
      others = λ told. (wrote told result creates).others;
      only = making-only;
      apart = λ told. (wrote told result creates).apart;
      joins = joins;
      marks = marks;
      room = room;
      device = creates.device;
      goes_on = creates.leads.goes_on;
      kept = creates.leads.kept;
    }

  -- it was refused
  pub stages-halted : (fault : WriteFault) → CreatesOn start mid chosen Given (Err fault) → StagesFile start mid path forced present chosen (Err fault)
  stages-halted fault makes = stages-by (Err fault) (creates-at (Err fault) makes) (λ told. tt) (λ told. tt) (λ told. tt) (λ told. tt)

-- ---- where it has its own name at once

module _ {D : Type 0} {disks : Ghosts D} (start new : Volume D disks) (chosen : Chosen) (path : List (List ℕ)) (present : List ℕ) (is : IsForFile start chosen present)
    (quiet : IsQuiet (past_of start)) (may : IsTold (past_of start) → MayStageFile start path false chosen) (makes : CreatesOn start new chosen (block_of (backup_blocks present)) (Ok tt)) where
  creates : Creates start new (path_above path) chosen (block_of (backup_blocks present)) (Ok tt)
  creates = creates-at start new chosen false path present is quiet may (Ok tt) makes

  was : IsTold (past_of start) → WasMade start new chosen
  was told = was-made start new chosen false path present is quiet may told creates

  pub stages-new : StagesFile start new path false present chosen (Ok tt)
  stages-new =
      stages-by start new chosen false path present is quiet may (Ok tt) creates
      (λ told. made-names (volume_view start) (now (past_of start)) false path present (sound-was start new chosen false path present is quiet may told) (absent-was start new chosen false path present is quiet may told)
      (now (past_of new)) (Some chosen.choice.inode) ((leads-at start new chosen false path present is quiet may told (Ok tt) creates).done told))
      (λ told. writes_join start new chosen (free-file start new chosen false path present is quiet may told) (was told))
      (λ told. record {
        leads = ((leads-at start new chosen false path present is quiet may told (Ok tt) creates).done told).tree.here;
        only = marked start new chosen false path present is quiet may told creates;
        frees =
            let V = volume_view start in
            let old = parts_of V (now (past_of start)) in
            subst (λ (o : Option ℕ). IfSome o (λ former. (old.node former).links ≤ 1 → IsFreed V.layout old former (parts_of V (now (past_of new)))))
            (sym (absent-was start new chosen false path present is quiet may told)) tt;
      })
      (λ told other suits apart.
      let left = left_free start new chosen other suits apart (was told) in
      record { suits = left.suits; free = left.free; name = λ outer may names. left.name outer may names.made })
