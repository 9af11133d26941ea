-- What the calls of a staging need and give, by the names that were found.
use Rattle.std.proofs.Common.{◌≡◌, ◌≤◌, ◌⊎◌, ℕ, Bool, true, false, List, [], codes, length, Option, None, Some, Result, Ok, Err, sym, ◌∙◌, subst, inl, inr}
use Rattle.std.proofs.lemmas.List.{append_cancel_right}
use Rattle.disk_trait.specs.declared.disks.Disks.{Ghosts}
use Rattle.disk_trait.specs.Calls.{GoesOn}
use Rattle.disk_trait.specs.Moments.{IsTold, IsQuiet}
use Rattle.disk_trait.proofs.MomentLemmas.{told_or_not}
use Rattle.minix_create.specs.Chosen.{Suits, block_of}
use Rattle.minix_create.specs.States.{CreatesOn}
use Rattle.minix_create.specs.declared.chosen.Chosen.{Chosen}
use Rattle.minix_remove.specs.Renamed.{Renames}
use Rattle.minix_remove.specs.Target.{IsDirectoryNow}
use Rattle.minix_choice.specs.declared.write_fault.WriteFault.{WriteFault}
use Rattle.minix_zones.specs.Volume.{past_of, faults_of, KeepsVolume}
use Rattle.minix_zones.specs.declared.volume.Volume.{Volume}
use Rattle.install_apart.specs.Names.{AreTwins}
use Rattle.install_apart.specs.declared.name.NamePair.{NamePair}
use Rattle.install_apart.specs.declared.name.OwnName.{OwnName}
use Rattle.install_laws.specs.InstallVerdict.{file_mode, last_name}
use Rattle.install_room.specs.Names.{backup_of}
use Rattle.install_room.specs.Room.{HasNoHole, IsForBackup, IsForName}
use Rattle.install_stage.specs.Halves.{backup_blocks}
use Rattle.install_stage.specs.BackupStages.{MayStage, MayStageFile, MayStageSome, StagesBackup, StagesFile}
use Rattle.install_stage.proofs.CopyLemmas.{IsForFile, creates-at, stages-halted, stages-new}
use Rattle.install_stage.proofs.OverLemmas.{tilde-of, in-directory, stages-over}

-- a file of 512 bytes is chosen by whatever name is found
pub sized-by : (own : Option OwnName) (time : ℕ) (chosen : Chosen) → IsForBackup own time (Some chosen) → (chosen.mode ≡ file_mode) × (chosen.length ≡ 512)
sized-by None time chosen is = absurd is
sized-by (Some own) time chosen is = (is.mode, is.size)

pub for-file : {D : Type 0} {disks : Ghosts D} (volume : Volume D disks) (chosen : Chosen) (present : List ℕ) → Suits volume.layout volume.span chosen
    → (IsTold (past_of volume) → HasNoHole chosen)
    → (chosen.mode ≡ file_mode) × (chosen.length ≡ 512) → length present ≡ 512 → IsForFile volume chosen present
for-file volume chosen present suits whole sized long = record { suits = suits; mode = sized.0; size = sized.1; whole = whole; long = long }

-- without a name none takes the place of another
pub not-forced : (forced : Bool) (pair : Option NamePair) (time : ℕ) (chosen : Chosen) → IsForBackup (backup_of forced pair) time (Some chosen) → pair ≡ None → forced ≡ false
not-forced forced pair time chosen is none = absurd (subst (λ (p : Option NamePair). IsForBackup (backup_of forced p) time (Some chosen)) none is)

-- a backup under its own name
pub stages-plain : {D : Type 0} {disks : Ghosts D} (start new : Volume D disks) (chosen : Chosen) (present : List ℕ) → IsForFile start chosen present → IsQuiet (past_of start)
    → CreatesOn start new chosen (block_of (backup_blocks present)) (Ok tt) → (forced : Bool) → forced ≡ false
    → (path : List (List ℕ)) → (IsTold (past_of start) → MayStageFile start path forced chosen) → StagesFile start new path forced present chosen (Ok tt)
stages-plain start new chosen present is quiet makes true not path may = absurd (cc)
stages-plain start new chosen present is quiet makes false not path may = stages-new start new chosen path present is quiet may makes

-- what is staged of what is chosen is that of the whole
pub stages-asked : {D : Type 0} {disks : Ghosts D} (start new : Volume D disks) (chosen : Chosen) (backup : Option Chosen) (forced : Bool) (present : List ℕ) (result : Result (Unit {0}) WriteFault)
    → backup ≡ Some chosen → forced ≡ true
    → ((path : List (List ℕ)) → (IsTold (past_of start) → MayStageFile start path true chosen) → StagesFile start new path true present chosen result)
    → (path : List (List ℕ)) → (IsTold (past_of start) → MayStage start path forced backup) → StagesBackup start new path forced present backup result
stages-asked start new chosen backup forced present result some asked staged path may =
    subst (λ (b : Option Chosen). StagesBackup start new path forced present b result) (sym some)
    (subst (λ (f : Bool). StagesFile start new path f present chosen result) (sym asked)
    (staged path (λ told. subst (λ (f : Bool). MayStageFile start path f chosen) asked (subst (MayStage start path forced) some (may told)))))

module _ {D : Type 0} {disks : Ghosts D} (start new : Volume D disks) (chosen : Chosen) (backup : Option Chosen) (forced : Bool) (present : List ℕ) (is : IsForFile start chosen present)
    (quiet : IsQuiet (past_of start)) (some : backup ≡ Some chosen) (path : List (List ℕ)) (may : IsTold (past_of start) → MayStage start path forced backup) where
  may-file : IsTold (past_of start) → MayStageFile start path forced chosen
  may-file told = subst (MayStage start path forced) some (may told)

  pub stages-unasked : forced ≡ false → CreatesOn start new chosen (block_of (backup_blocks present)) (Ok tt) → StagesBackup start new path forced present backup (Ok tt)
  stages-unasked not makes = subst (λ (b : Option Chosen). StagesBackup start new path forced present b (Ok tt)) (sym some) (stages-plain start new chosen present is quiet makes forced not path may-file)

  pub stages-refused : (fault : WriteFault) → CreatesOn start new chosen (block_of (backup_blocks present)) (Err fault) → StagesBackup start new path forced present backup (Err fault)
  stages-refused fault makes = subst (λ (b : Option Chosen). StagesBackup start new path forced present b (Err fault)) (sym some) (stages-halted start new chosen forced path present is quiet may-file fault makes)

module _ {D : Type 0} {disks : Ghosts D} (start mid : Volume D disks) (chosen : Chosen) (present : List ℕ) (is : IsForFile start chosen present)
    (quiet : IsQuiet (past_of start)) (some : IsTold (past_of start) → MayStageSome start true (Some chosen))
    (makes : CreatesOn start mid chosen (block_of (backup_blocks present)) (Ok tt)) where
  -- what the making keeps
  made-keeps : KeepsVolume start mid × GoesOn disks start.disks.now mid.disks.now
  made-keeps = by (told_or_not (past_of start))
    where
      by : IsTold (past_of start) ⊎ (IsTold (past_of start) → ⊥) → KeepsVolume start mid × GoesOn disks start.disks.now mid.disks.now
      by (inl told) =
          let creates = creates-at start mid chosen true (some told).path present is quiet (λ t. (some told).may) (Ok tt) makes in
          (creates.leads.kept, creates.leads.goes_on)
      by (inr none) =
          let creates = creates-at start mid chosen true [] present is quiet (λ t. absurd (none t)) (Ok tt) makes in
          (creates.leads.kept, creates.leads.goes_on)

  pub later-mid : faults_of start ≤ faults_of mid
  later-mid = made-keeps.1.later

  pub inside-mid : (directory : ℕ) → directory ≤ start.layout.inodes → directory ≤ mid.layout.inodes
  inside-mid directory inside = rw made-keeps.0.same_layout inside

  module _ (pair : NamePair) (twins : AreTwins pair) (time : ℕ) (named : IsForName pair.tilde 512 time chosen) (quiet-mid : IsQuiet (past_of mid)) where
    pub directory-mid : IsTold (past_of mid) → IsDirectoryNow mid pair.tilde.directory
    directory-mid told-mid =
        let told = made-keeps.1.told_before told-mid in
        subst (IsDirectoryNow mid) named.directory
        (in-directory start mid chosen (some told).path present is quiet (λ t. (some told).may) makes quiet-mid told)

    -- the backup's name is the path's last one
    last-is : (path : List (List ℕ)) → MayStageFile start path true chosen → pair.plain.name ≡ last_name path
    last-is path may =
        append_cancel_right pair.plain.name (last_name path) (codes "~")
        (sym twins.name ∙ (sym named.name ∙ (tilde-of path chosen.name may.make.ends).1))

    pub stages-renamed : (new : Volume D disks) (result : Result (Unit {0}) WriteFault) → Renames mid new pair.tilde.directory pair.tilde.name pair.plain.name result
        → (path : List (List ℕ)) → (IsTold (past_of start) → MayStageFile start path true chosen) → StagesFile start new path true present chosen result
    stages-renamed new result renames path may =
        let R : ℕ → List ℕ → Type 0 = λ directory from. Renames mid new directory from pair.plain.name result in
        stages-over start mid chosen path present is quiet may makes quiet-mid new pair.plain.name (λ told. last-is path (may told)) result
        (subst (λ (directory : ℕ). R directory chosen.name) (sym named.directory) (subst (R pair.tilde.directory) (sym named.name) renames))
