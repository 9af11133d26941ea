-- What a change of one name leaves of a volume, at any moment of it and once it is done (a rule of this project's own). A
-- path is a list of components, the last one first.
use Rattle.std.specs.Prelude.{◌≡◌, ◌⊎◌, ℕ, true, List, Option, Result, Ok, OnOk, IfErr}
use Rattle.disk_trait.specs.declared.disks.Disks.{Ghosts}
use Rattle.disk_trait.specs.Calls.{GoesOn}
use Rattle.disk_trait.specs.Moments.{IsTold, now, IsQuiet, LeavesOnly}
use Rattle.disk_trait.specs.NotWritten.{NotWritten}
use Rattle.disk_trait.specs.Range.{IsOutside}
use Rattle.lilo_model.specs.Disks.{Image, Span}
use Rattle.lilo_model.specs.MinixNames.{Thing, names_in, IsSound}
use Rattle.lilo_model.specs.MinixParts.{Volume, volume_at}
use Rattle.lilo_model.specs.NamePlaces.{name_path}
use Rattle.minix_change_laws.specs.Tree.{HasNamesWith}
use Rattle.minix_zones.specs.Volume.{volume_view, past_of, faults_of, KeepsVolume}
use Rattle.minix_zones.specs.declared.volume.Volume as held
use Rattle.ldisk_files.specs.Answer.{is_refusal, HasFileCause}
use Rattle.ldisk_files.specs.declared.fault.FileFault.{FileFault}
use Rattle.ldisk_files.specs.declared.fault.FileFault.TheVariants.{Device}

-- ---- images

-- in an image a volume is sound, with the Names that it has in another
pub record HasNamesOf (volume : Volume) (old image : Image) : Type 0 where
  pub sound : IsSound volume image
  pub same : (path : List (List ℕ)) → names_in volume image path ≡ names_in volume old path

-- it is sound, with those Names, or with them but for what one path leads to
abbrev pub HasNamesBetween : Volume → Image → List (List ℕ) → Option Thing → Image → Type 0
HasNamesBetween volume old path what image = HasNamesOf volume old image ⊎ HasNamesWith volume old image path what

-- it is sound, with its Names in another image, but that at the path of a text there is what is said
pub record HasNamed (volume : Volume) (old : Image) (text : List ℕ) (what : Option Thing) (image : Image) : Type 0 where
  pub path : List (List ℕ)
  pub at : name_path (names_in volume old) text ≡ Ok path
  pub has : HasNamesWith volume old image path what

-- it is sound, with its Names before such a change or after it
abbrev pub HasEither : Volume → Image → List ℕ → Option Thing → Image → Type 0
HasEither volume old text what image = HasNamesOf volume old image ⊎ HasNamed volume old text what image

-- ---- what is left of the volume in a span

-- there is a volume in a span, and it is sound
pub record HasSoundVolume (span : Span) (image : Image) : Type 0 where
  pub volume : Volume
  pub is : volume_at image span ≡ Ok volume
  pub sound : IsSound volume image

-- the volume that an image had in a span has its Names but for what is at the path of a text
pub record IsNamed (span : Span) (old : Image) (text : List ℕ) (what : Option Thing) (image : Image) : Type 0 where
  pub volume : Volume
  pub is : volume_at old span ≡ Ok volume
  pub has : HasNamed volume old text what image

-- it has those before the change, or those after it
pub record IsEither (span : Span) (old : Image) (text : List ℕ) (what : Option Thing) (image : Image) : Type 0 where
  pub volume : Volume
  pub is : volume_at old span ≡ Ok volume
  pub has : HasEither volume old text what image

-- ---- the whole

-- What a change of the name at a text's path leaves, by its answer.
pub record LeavesNames {D : Type 0} (disks : Ghosts D) (old new : D) (span : Span) (text : List ℕ) (what : Option Thing)
    (result : Result (Unit {0}) FileFault) : Type 0 where
  -- from a quiet moment and a sound volume on, each image that a stop leaves has the Names before or after
  pub any_moment : IsQuiet (disks.past old) → HasSoundVolume span (now (disks.past old))
      → LeavesOnly (disks.past old) (disks.past new) (IsEither span (now (disks.past old)) text what)
  -- once it is done the disks have those after it, and all is durable
  pub done : IsTold (disks.past old) → OnOk result (IsNamed span (now (disks.past old)) text what (now (disks.past new)))
  pub quiet : OnOk result (IsQuiet (disks.past new))
  -- where it was refused there was no event, and no sector outside the span is written
  pub refused : IfErr result (λ fault. is_refusal fault ≡ true → disks.past new ≡ disks.past old)
  pub outside : (d s : ℕ) → IsOutside span.disk span.start span.count d s → NotWritten (disks.past old) (disks.past new) d s
  pub goes_on : GoesOn disks old new
  -- a failure of the disks was counted
  pub cause : IfErr result (HasFileCause (disks.faults old) (disks.faults new))

-- ---- on the way there

-- The same of a volume that is held.
pub record LeavesOn {D : Type 0} {disks : Ghosts D} (old new : held.Volume D disks) (text : List ℕ) (what : Option Thing)
    (result : Result (Unit {0}) FileFault) : Type 0 where
  pub any_moment : IsQuiet (past_of old) → IsSound (volume_view old) (now (past_of old))
      → LeavesOnly (past_of old) (past_of new) (HasEither (volume_view old) (now (past_of old)) text what)
  pub done : IsTold (past_of old) → OnOk result (HasNamed (volume_view old) (now (past_of old)) text what (now (past_of new)))
  pub quiet : OnOk result (IsQuiet (past_of new))
  pub refused : IfErr result (λ fault. is_refusal fault ≡ true → past_of new ≡ past_of old)
  pub outside : (d s : ℕ) → IsOutside old.span.disk old.span.start old.span.count d s → NotWritten (past_of old) (past_of new) d s
  pub goes_on : GoesOn disks old.disks.now new.disks.now
  pub cause : IfErr result (HasFileCause (faults_of old) (faults_of new))

-- What a change of the name at a path of a sound volume leaves; it is refused as the disk failed.
pub record ChangesName {D : Type 0} {disks : Ghosts D} (old new : held.Volume D disks) (path : List (List ℕ)) (what : Option Thing)
    (result : Result (Unit {0}) FileFault) : Type 0 where
  pub any_moment : IsQuiet (past_of old) → LeavesOnly (past_of old) (past_of new) (HasNamesBetween (volume_view old) (now (past_of old)) path what)
  pub done : IsTold (past_of old) → OnOk result (HasNamesWith (volume_view old) (now (past_of old)) (now (past_of new)) path what)
  pub device : IsTold (past_of old) → IfErr result (λ fault. fault ≡ Device)
  pub outside : (d s : ℕ) → IsOutside old.span.disk old.span.start old.span.count d s → NotWritten (past_of old) (past_of new) d s
  pub goes_on : GoesOn disks old.disks.now new.disks.now
  pub kept : KeepsVolume old new
