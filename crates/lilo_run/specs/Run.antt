-- How what was done relates to what the definitions give.
use Rattle.std.specs.Prelude.{◌≡◌, ◌≢◌, ◌≤◌, ◌⊎◌, ℕ, ◌==◌, Bool, true, false, List, [], ◌∷◌, ◌++◌, length, All, Option, None, Some, Result, Ok, Err, IsErr}
use Rattle.std.specs.List.{list_any}
use Rattle.std.specs.Option.{option_map}
use Rattle.disk_trait.specs.declared.disks.Span.{Span}
use Rattle.disk_trait.specs.declared.disks.Disks.{Ghosts}
use Rattle.disk_trait.specs.Past.{Told}
use Rattle.sector_address.specs.Machine.{machine_of, OnDisks}
use Rattle.bios_model.specs.Memory.{memory_of}
use Rattle.loader_core.specs.Start.{OnKeys}
use Rattle.lilo_model.specs.Disks as disks
use Rattle.lilo_model.specs.Place.{Memory, memory_after}
use Rattle.lilo_model.specs.Prompt.{Key, AreLastKeys}
use Rattle.lilo_model.specs.Refusal as model
use Rattle.boot_map.specs.declared.map_fault.MapFault.{MapFault}
use Rattle.boot_map.specs.declared.map_fault.MapFault.TheVariants as maps
use Rattle.mbr_table.specs.View.{span_view}
use Rattle.mbr_table.specs.declared.table_fault.TableFault.{TableFault}
use Rattle.mbr_table.specs.declared.table_fault.TableFault.TheVariants as faults
use Rattle.section_loader.specs.declared.reason.Reason.TheVariants as reasons
use Rattle.lilo_model.specs.Faults.{Rose}
use Rattle.stream_trait.specs.Shows.{SinkState, Shows, ShowsOne, Prints, PrintsOne, answer_of, sink_of}
use Rattle.stream_trait.specs.declared.shown.Shown.{Shown}
use Rattle.stream_trait.specs.declared.sink.Sink as sinks
use Rattle.stream_trait.specs.declared.source.Source as sources
use Rattle.stream_trait.specs.Sink.{TakesFront}
use Rattle.section_loader.specs.View.{reason_view}
use Rattle.lilo_run.specs.declared.refusal.Halt.{Halt}
use Rattle.lilo_run.specs.declared.refusal.Halt.TheVariants.{Device, NoPlace, NotOurs, Boot}
use Rattle.lilo_run.specs.declared.refusal.PlaceFault.TheVariants as variants
use Rattle.lilo_run.specs.Refusal.{place_fault_view, phase_verdict}
use Rattle.disk_trait.specs.declared.disks.Phase.TheVariants.{Before, Commit, After}
use Rattle.disk_trait.specs.Calls.{SameOf, GoesOn}
use Rattle.disk_trait.specs.Moments.{now, IsQuiet, LeavesOnly}
use Rattle.disk_trait.specs.NotWritten.{IsOther, NotWritten}
use Rattle.loader_core.specs.Leaves.{HasPut, CameTo}
use Rattle.loader_core.specs.Report.{LineWrite, image_with}
use Rattle.lilo_model.specs.Disks.{Image}
use Rattle.lilo_model.specs.MinixParts.{Volume, volume_at}
use Rattle.disk_trait.specs.declared.disks.Phase.{Phase}
use Rattle.install_begin.specs.Begin as begins
use Rattle.install_begin.specs.Begin.{begun_at, begun_with}
use Rattle.install_laws.specs.InstallVerdict.{Begun}
use Rattle.install_run.specs.Answers.{IsSettledFrom}
use Rattle.install_run.specs.Installs.{Leaves, StaysRefused, StaysUnsettled}
use Rattle.install_run.specs.Keeps.{WritesInside}
use Rattle.install_run.specs.Phases.{FailsBy}
use Rattle.install_run.specs.Staged.{IsStagedFrom}
use Rattle.lilo_run.specs.Verdict.{Effect, Installation, Left, leaving, effects_of, run_verdict, run_image}

-- ---- a reader

-- what a reader returned, seen by view, is what the model gives, unless a disk failed
abbrev pub Halts : {B : Type 0} → Halt → Result B model.Refusal → Type 0
Halts Device read = Unit {0}
Halts (NoPlace fault) read = read ≡ Err (model.Device (place_fault_view fault))
Halts NotOurs read = read ≡ Err model.NotOurs
Halts (Boot reason) read = read ≡ Err (model.Boot (reason_view reason))

abbrev pub Gives : {A B : Type 0} → (A → B) → Result A Halt → Result B model.Refusal → Type 0
Gives view (Ok value) read = read ≡ Ok (view value)
Gives view (Err halt) read = Halts halt read

-- a device's sectors that were found are those that the model gives, unless a disk failed
abbrev pub HaltsAt : Halt → Result disks.Span model.DeviceFault → Type 0
HaltsAt Device place = Unit {0}
HaltsAt (NoPlace fault) place = place ≡ Err (place_fault_view fault)
HaltsAt _ place = ⊥

abbrev pub GivesPlace : Result Span Halt → Result disks.Span model.DeviceFault → Type 0
GivesPlace (Ok span) place = place ≡ Ok (span_view span)
GivesPlace (Err halt) place = HaltsAt halt place

-- a refusal of partition tables is reported so
abbrev pub IsPlaceHalt : TableFault → Halt → Type 0
IsPlaceHalt faults.Device halt = halt ≡ Device
IsPlaceHalt (faults.NoDisk disk) halt = halt ≡ NoPlace variants.NoDisk
IsPlaceHalt (faults.NoPartition number) halt = halt ≡ NoPlace variants.NoPartition
IsPlaceHalt _ halt = halt ≡ NoPlace variants.BadTable

-- a refusal of a map is reported so
abbrev pub IsMapHalt : MapFault → Halt → Type 0
IsMapHalt maps.NotOurs halt = halt ≡ NotOurs
IsMapHalt (maps.BadVersion version) halt = halt ≡ NotOurs
IsMapHalt (maps.BadTable entry) halt = halt ≡ Boot (reasons.BadTable entry)
IsMapHalt maps.BadLine halt = halt ≡ Boot reasons.BadLine

-- ---- a command

-- It was done as the definitions say: its status and text are the verdict's, and after 0 memory has what it puts there.
pub record IsDone (effect : Effect) (status : ℕ) (memory memory' : Memory) (old new : SinkState) : Type 0 where
  pub answer : status ≡ effect.verdict.status
  pub shown : Shows old effect.verdict.text new
  pub placed : status ≡ 0 → memory' ≡ memory_after memory effect.written

-- it ended with this status, and one of these texts
pub record IsFailed (code : ℕ) (texts : List (List ℕ)) (status : ℕ) (old new : SinkState) : Type 0 where
  pub answer : status ≡ code
  pub shown : ShowsOne old texts new

-- it was done, a disk failed, or memory didn't suffice
abbrev pub Does : Effect → ℕ → Memory → Memory → SinkState → SinkState → Type 0
Does effect status memory memory' old new =
    IsDone effect status memory memory' old new ⊎ (IsFailed 8 effect.failures status old new ⊎ IsFailed 13 effect.starved status old new)

-- the same of what disks hold, where they report their past: by the memory and the sink before it and after it
abbrev pub DoesOn : {D O : Type 0} → Ghosts D → sinks.Ghosts O → D → ℕ → List ℕ × Shown O → List ℕ × Shown O
    → (disks.Image → disks.Machine → ℕ → Effect) → Type 0
DoesOn g o disks status old new effect =
    Told (g.past disks) (λ now. Does (effect now (machine_of g disks) (length old.0)) status (memory_of old.0) (memory_of new.0) (sink_of o old.1)
    (sink_of o new.1))

-- the same of a command that leaves this memory alone
abbrev pub DoesBeside : {D O : Type 0} → Ghosts D → sinks.Ghosts O → D → Memory → ℕ → Shown O → Shown O → (disks.Image → disks.Machine → Effect) → Type 0
DoesBeside g o disks memory status old new effect =
    Told (g.past disks) (λ now. Does (effect now (machine_of g disks)) status memory memory (sink_of o old) (sink_of o new))

-- ---- what a part makes of the disks

-- What settling leaves is found out where that decided the answer, and from a quiet moment on a stop leaves what the status
-- says. Where a check up to settling refuses, nothing was written, nor where nothing is left to settle and another check refuses. Outside
-- of the volume only the boot device's first sector is written. Where a disk failed the count of its faults rose in the phase that the status names.
pub record IsLeftBy {D : Type 0} (g : Ghosts D) (found : Installation) (begun : Begun) (own : ℕ) (old new : D) : Type 0 where
  pub settled : found.left.answered ≡ true → IsSettledFrom found.image found.machine begun found.left.settled
  pub leaves : IsQuiet (g.past old) → Leaves found.machine begun found.left.settled found.time (g.past old) (g.past new) own
  pub refused : StaysRefused found.image found.machine begun (g.past old) (g.past new)
  pub unsettled : StaysUnsettled found.machine begun found.time found.left.settled (g.past old) (g.past new) own
  pub outside : WritesInside begun.volume begun.span (g.past old) (g.past new) own
  pub phase : IsQuiet (g.past old) → FailsBy g own (IsStagedFrom found.machine begun (g.past old)) begun.span old new

-- An installation ended with this status. Where what it begins with is refused, it did nothing.
pub record EndsAs {D : Type 0} (g : Ghosts D) (found : Installation) (own : ℕ) (old new : D) : Type 0 where
  pub begun : (read : begins.Begun) → begun_at found.image found.machine found.root found.path ≡ Ok read
      → (volume : Volume) → volume_at found.image read.volume ≡ Ok volume → IsLeftBy g found (begun_with read volume) own old new
  pub unread : IsErr (begun_at found.image found.machine found.root found.path) → g.past new ≡ g.past old
  pub no_volume : (read : begins.Begun) → begun_at found.image found.machine found.root found.path ≡ Ok read
      → IsErr (volume_at found.image read.volume) → g.past new ≡ g.past old
  -- only a disk that failed, or memory that ended, keeps it from an answer
  pub answered : own ≢ 8 → own ≢ 13 → found.left.answered ≡ true
  pub ended : now (g.past new) ≡ found.left.ended
  pub goes_on : GoesOn g old new

-- what is to be installed was, with this status, or the sector was written
abbrev pub MakesBy : {D : Type 0} → Ghosts D → Option Installation → Option LineWrite → ℕ → D → D → Type 0
MakesBy g None write own old new = HasPut g old new write
MakesBy g (Some found) write own old new = EndsAs g found own old new

-- a disk failed in this phase
abbrev pub ComesBy : {D : Type 0} → Ghosts D → Option Installation → Option LineWrite → Phase → D → D → Type 0
ComesBy g None write phase old new = CameTo g old new write phase
ComesBy g (Some found) write phase old new = EndsAs g found (phase_verdict phase).status old new × Rose (g.faults old) (g.faults new)

-- memory didn't suffice
abbrev pub StarvesBy : {D : Type 0} → Ghosts D → Option Installation → D → D → Type 0
StarvesBy g None old new = SameOf g old new
StarvesBy g (Some found) old new = EndsAs g found 13 old new

-- the same of a command
abbrev pub Makes : {D : Type 0} → Ghosts D → Effect → ℕ → D → D → Type 0
Makes g effect own old new = MakesBy g effect.installs effect.write own old new

abbrev pub Comes : {D : Type 0} → Ghosts D → Effect → Phase → D → D → Type 0
Comes g effect phase old new = ComesBy g effect.installs effect.write phase old new

abbrev pub Starves : {D : Type 0} → Ghosts D → Effect → D → D → Type 0
Starves g effect old new = StarvesBy g effect.installs old new

-- ---- keys

-- the disks, the memory and the sink at a moment, and how often the source of keys has failed
pub record State (D : Type 0) : Type 0 where
  pub disks : D
  pub memory : Memory
  pub sink : SinkState
  pub key_faults : ℕ

-- It was done, left the keys that it is to leave, and made of the disks what it is to make. Or memory didn't suffice, or the source of
-- keys or a disk failed: before the write, in it, or after it. Then its count of faults rose, the disks' in that phase.
pub data Carries {D : Type 0} (g : Ghosts D) (effect : Effect) (status : ℕ) (left : List Key) (old new : State D) : Type 0 where
  CarriedOut : IsDone effect status old.memory new.memory old.sink new.sink → effect.left ≡ left → Makes g effect status old.disks new.disks
      → Carries g effect status left old new
  LostBefore : IsFailed 8 effect.failures status old.sink new.sink → Comes g effect Before old.disks new.disks
      → Carries g effect status left old new
  LostAtCommit : IsFailed 9 effect.at_commit status old.sink new.sink → Comes g effect Commit old.disks new.disks
      → Carries g effect status left old new
  LostAfter : IsFailed 10 effect.after_commit status old.sink new.sink → Comes g effect After old.disks new.disks
      → Carries g effect status left old new
  Starved : IsFailed 13 effect.starved status old.sink new.sink → Starves g effect old.disks new.disks → Carries g effect status left old new
  Unheard : IsFailed 11 effect.unheard status old.sink new.sink → Rose old.key_faults new.key_faults → SameOf g old.disks new.disks
      → Carries g effect status left old new

-- the same, and no key was taken that it isn't to take: those that it is to leave are the last of those that are left
pub record CarriesKeys {D : Type 0} (g : Ghosts D) (effect : Effect) (status : ℕ) (left : List Key) (old new : State D) : Type 0 where
  pub does : Carries g effect status left old new
  pub keys : AreLastKeys left effect.left

-- the state of disks, a source, a memory and a sink
abbrev pub state_of : {D I O : Type 0} → sources.Ghosts I → sinks.Ghosts O → D × I × List ℕ × Shown O → State D
state_of i o (disks, keys, ram, out) =
    record { disks = disks; memory = memory_of ram; sink = sink_of o out; key_faults = i.faults keys }

-- The same of disks, a source, the memory and the sink before and after: whichever keys the source leaves, those that it
-- left before were carried out so.
abbrev pub CarriesBy : {D I O : Type 0} → Ghosts D → sources.Ghosts I → sinks.Ghosts O → ℕ → (List Key → Effect) → D × I × List ℕ × Shown O
    → D × I × List ℕ × Shown O → Type 0
CarriesBy g i o status effect old new =
    OnKeys i (old.1, new.1) (λ all left. CarriesKeys g (effect all) status left (state_of i o old) (state_of i o new))

-- the same of what the disks held, where they report their past
abbrev pub CarriesOn : {D I O : Type 0} → Ghosts D → sources.Ghosts I → sinks.Ghosts O → ℕ → D × I × List ℕ × Shown O → D × I × List ℕ × Shown O
    → (disks.Image → disks.Machine → ℕ → List Key → Effect) → Type 0
CarriesOn g i o status old new effect =
    OnDisks g old.0 (λ now machine. CarriesBy g i o status (effect now machine (length old.2)) old new)

-- the same of a part, by what is found out
abbrev pub CarriesPart : {D I O : Type 0} → Ghosts D → sources.Ghosts I → sinks.Ghosts O → ℕ → D × I × List ℕ × Shown O → D × I × List ℕ × Shown O
    → (disks.Image → disks.Machine → ℕ → Left → List Key → Effect) → Type 0
CarriesPart g i o status old new effect =
    OnDisks g old.0 (λ now machine. OnKeys i (old.1, new.1) (λ all left. (found : Left)
    × CarriesKeys g (effect now machine (length old.2) found all) status left (state_of i o old) (state_of i o new)))

-- the same of a command that leaves this memory and all keys alone, by the disks and the sink before it and after it
abbrev pub CarriesBeside : {D O : Type 0} → Ghosts D → sinks.Ghosts O → Memory → ℕ → D × Shown O → D × Shown O → (disks.Image → disks.Machine → Effect) → Type 0
CarriesBeside g o memory status old new effect =
    OnDisks g old.0 (λ now machine. (keys : List Key) (key_faults : ℕ) → Carries g (leaving keys (effect now machine)) status keys
    (record { disks = old.0; memory = memory; sink = sink_of o old.1; key_faults = key_faults })
    (record { disks = new.0; memory = memory; sink = sink_of o new.1; key_faults = key_faults }))

-- the same by what is found out
abbrev pub CarriesFound : {D O : Type 0} → Ghosts D → sinks.Ghosts O → Memory → ℕ → D × Shown O → D × Shown O
    → (disks.Image → disks.Machine → Left → Effect) → Type 0
CarriesFound g o memory status old new effect =
    OnDisks g old.0 (λ now machine. (found : Left) × ((keys : List Key) (key_faults : ℕ) → Carries g (leaving keys (effect now machine found)) status keys
    (record { disks = old.0; memory = memory; sink = sink_of o old.1; key_faults = key_faults })
    (record { disks = new.0; memory = memory; sink = sink_of o new.1; key_faults = key_faults })))

-- a disk failed in a write or after it, by the status
abbrev pub IsWriteLost : ℕ → Type 0
IsWriteLost status = (status ≡ 9) ⊎ (status ≡ 10)

-- a disk failed, by the status
abbrev pub IsLost : ℕ → Type 0
IsLost status = (status ≡ 8) ⊎ IsWriteLost status

-- ---- a run

-- A run ended at a part, with a status other than 0: the part's own, or 12 where that is 0 and its text wasn't shown.
pub record EndsAt {D : Type 0} (g : Ghosts D) (part : Effect) (status : ℕ) (left : List Key) (old new : State D) : Type 0 where
  pub own : ℕ
  pub does : Carries g part own left old new
  pub keys : AreLastKeys left part.left
  pub answer : status ≡ answer_of own new.sink.failed
  pub some : status ≢ 0
  -- no part has 12 of its own
  pub own_not_12 : own ≢ 12
  -- only a boot changes memory
  pub quiet : part.boots ≡ false → new.memory ≡ old.memory

-- a part was done with 0, and its text was shown whole
pub record IsPassed {D : Type 0} (g : Ghosts D) (part : Effect) (old new : State D) : Type 0 where
  pub done : IsDone part 0 old.memory new.memory old.sink new.sink
  pub wrote : Makes g part 0 old.disks new.disks
  pub whole : new.sink.failed ≡ false

-- no part more was done: these keys are left
pub record IsOver {D : Type 0} (status : ℕ) (keys left : List Key) (old new : State D) : Type 0 where
  pub zero : status ≡ 0
  pub memory : new.memory ≡ old.memory
  pub kept : keys ≡ left
  pub sink : new.sink ≡ old.sink
  pub disks : new.disks ≡ old.disks

-- The parts run in order until one answers other than 0, and that status is the answer: each before it was done with 0,
-- and its text was shown whole. Where there are no more these keys are left.
abbrev pub Runs : {D : Type 0} → Ghosts D → List Effect → ℕ → List Key → List Key → State D → State D → Type 0
Runs g [] status keys left old new = IsOver status keys left old new
Runs {D} g (part ∷ parts) status keys left old new =
    EndsAt g part status left old new
    ⊎ ((mid : State D) × IsPassed g part old mid × Runs g parts status part.left left mid new)

-- the same, by the disks, the source, the memory and the sink before them and after them
abbrev pub RunsAll : {D I O : Type 0} → Ghosts D → sources.Ghosts I → sinks.Ghosts O → List Effect → ℕ → List Key → List Key
    → D × I × List ℕ × Shown O → D × I × List ℕ × Shown O → Type 0
RunsAll g i o parts status keys left old new = Runs g parts status keys left (state_of i o old) (state_of i o new)

-- a fact about what the parts of arguments do by keys over what disks hold, with a memory of so many bytes and at a time,
-- where the disks report their past: whichever keys the source leaves, it holds of those that it left before, by what each
-- part finds out
abbrev pub OnParts : {D I : Type 0} → Ghosts D → sources.Ghosts I → D → I × I → ℕ → ℕ → List (List ℕ) → (List Effect → List Key → List Key → Type 0) → Type 0
OnParts g i disks keys memory time words P =
    Told (g.past disks) (λ now. OnKeys i keys (λ all left. (lefts : List Left) × P (effects_of now (machine_of g disks) memory time words lefts all) all left))

-- ---- the whole

-- the first of some parts would answer 0
abbrev pub BeginsWith0 : List Effect → Type 0
BeginsWith0 [] = ⊥
BeginsWith0 (part ∷ parts) = part.verdict.status ≡ 0

-- the status is the verdict's, or 8, 9, 10, 11 or 13, or where the first part would answer 0 it is 12
abbrev pub Answers : List Effect → ℕ → Type 0
Answers parts status =
    (status ≡ (run_verdict parts).status)
    ⊎ (IsLost status ⊎ ((status ≡ 11) ⊎ ((status ≡ 13) ⊎ ((status ≡ 12) × BeginsWith0 parts))))

-- what a sink has taken, and how often it failed and the source of keys did, with the disks and the memory at that moment
pub record Scene (D : Type 0) : Type 0 where
  pub disks : D
  pub memory : Memory
  pub taken : Option (List ℕ)
  pub faults : ℕ
  pub key_faults : ℕ

-- a text was taken whole, or the sink's faults rose and a prefix of it was
abbrev pub TellsText : {D : Type 0} → List ℕ → Scene D → Scene D → Type 0
TellsText text old new = Prints old.taken text new.taken old.faults new.faults

-- one of some texts
abbrev pub TellsOne : {D : Type 0} → List (List ℕ) → Scene D → Scene D → Type 0
TellsOne texts old new = PrintsOne old.taken texts new.taken old.faults new.faults

-- A part showed its text, as far as the sink took it: the verdict's with its status, a text of a failure with 8 to 11, one
-- that memory ended with 13, and with 12 in the place of 0 a prefix of the verdict's. Where it wasn't a failure's, these
-- keys are left, and what is to be written was; a failure before the write left the disks, one in it has written it or
-- hasn't, and one after it left it written: the disks' count of faults rose from the part's entry, from the write's start
-- or from its end on. What an installation leaves goes with its status, which is 0 in the place of 12. The source's count
-- rose from the part's entry on.
pub data Tells {D : Type 0} (g : Ghosts D) (part : Effect) (status : ℕ) (left : List Key) (old new : Scene D) : Type 0 where
  TellsVerdict : status ≡ part.verdict.status → part.left ≡ left → TellsText part.verdict.text old new → Makes g part status old.disks new.disks
      → Tells g part status left old new
  TellsLost : status ≡ 8 → TellsOne part.failures old new → Comes g part Before old.disks new.disks → Tells g part status left old new
  TellsLostAtCommit : status ≡ 9 → TellsOne part.at_commit old new → Comes g part Commit old.disks new.disks → Tells g part status left old new
  TellsLostAfter : status ≡ 10 → TellsOne part.after_commit old new → Comes g part After old.disks new.disks → Tells g part status left old new
  TellsUnheard : status ≡ 11 → TellsOne part.unheard old new → Rose old.key_faults new.key_faults → SameOf g old.disks new.disks
      → Tells g part status left old new
  TellsStarved : status ≡ 13 → TellsOne part.starved old new → Starves g part old.disks new.disks → Tells g part status left old new
  TellsCut : status ≡ 12 → part.verdict.status ≡ 0 → part.left ≡ left → Rose old.faults new.faults → TakesFront old.taken part.verdict.text new.taken
      → Makes g part 0 old.disks new.disks → Tells g part status left old new

-- what a sink has taken after a text that it took whole
abbrev pub taken_behind : Option (List ℕ) → List ℕ → Option (List ℕ)
taken_behind old text = option_map (λ taken. taken ++ text) old

-- A run ended at a part, which took no key that it isn't to take: with 12 memory has what the part puts there, and where it
-- doesn't boot memory stays.
pub record TellsEnd {D : Type 0} (g : Ghosts D) (part : Effect) (status : ℕ) (left : List Key) (old new : Scene D) : Type 0 where
  pub some : status ≢ 0
  pub tells : Tells g part status left old new
  pub keys : AreLastKeys left part.left
  pub placed : status ≡ 12 → new.memory ≡ memory_after old.memory part.written
  pub quiet : part.boots ≡ false → new.memory ≡ old.memory

-- a part answered 0: it made of the disks what it is to make, its text was taken whole, and memory has what it puts there
pub record TellsPassed {D : Type 0} (g : Ghosts D) (part : Effect) (old new : Scene D) : Type 0 where
  pub zero : part.verdict.status ≡ 0
  pub wrote : Makes g part 0 old.disks new.disks
  pub placed : new.memory ≡ memory_after old.memory part.written
  pub taken : new.taken ≡ taken_behind old.taken part.verdict.text
  pub later : old.faults ≤ new.faults

-- no part more showed a text
pub record TellsNone {D : Type 0} (status : ℕ) (keys left : List Key) (old new : Scene D) : Type 0 where
  pub zero : status ≡ 0
  pub memory : new.memory ≡ old.memory
  pub kept : keys ≡ left
  pub taken : new.taken ≡ old.taken
  pub disks : new.disks ≡ old.disks

-- Parts in order showed their texts: those that answer 0 whole, and then the one that answers otherwise, at which the run
-- ends. Memory has what they put there where the status is 0 or 12, and what the parts before it put there where the
-- part at which the run ended doesn't boot. Each part that answers 0 wrote what it is to write.
abbrev pub TellsRun : {D : Type 0} → Ghosts D → List Effect → ℕ → List Key → List Key → Scene D → Scene D → Type 0
TellsRun g [] status keys left old new = TellsNone status keys left old new
TellsRun {D} g (part ∷ parts) status keys left old new =
    TellsEnd g part status left old new
    ⊎ ((mid : Scene D) × TellsPassed g part old mid × TellsRun g parts status part.left left mid new)

-- disks, a source, a memory and a sink at a moment
abbrev pub scene_of : {D I O : Type 0} → sources.Ghosts I → sinks.Ghosts O → D × I × List ℕ × O → Scene D
scene_of i o (disks, keys, ram, out) =
    record { disks = disks; memory = memory_of ram; taken = o.taken out; faults = o.faults out; key_faults = i.faults keys }

-- the same, by the disks, the source, the memory and the sink before them and after them
abbrev pub TellsAll : {D I O : Type 0} → Ghosts D → sources.Ghosts I → sinks.Ghosts O → List Effect → ℕ → List Key → List Key → D × I × List ℕ × O
    → D × I × List ℕ × O → Type 0
TellsAll g i o parts status keys left old new = TellsRun g parts status keys left (scene_of i o old) (scene_of i o new)

-- ---- what is left of the disks

-- the disks hold what they held, with what some parts wrote or installed
abbrev pub HoldsWritten : {D : Type 0} → Ghosts D → List Effect → D → D → Type 0
HoldsWritten g parts old new = now (g.past new) ≡ run_image (now (g.past old)) parts

-- an image is what disks held, or what they hold once the first of some parts, or the first two, and so on, have written
-- what they write
abbrev pub IsWritten : List Effect → Image → Image → Type 0
IsWritten [] now c = c ≡ now
IsWritten (part ∷ parts) now c = (c ≡ now) ⊎ IsWritten parts (image_with now part.write) c

-- no part installs: what an installation leaves goes with its status
abbrev pub InstallsNothing : List Effect → Type 0
InstallsNothing parts = All (λ part. part.installs ≡ None) parts

-- a sector isn't the one that is written
abbrev pub IsBeside : ℕ → ℕ → Option LineWrite → Type 0
IsBeside d s None = Unit {0}
IsBeside d s (Some write) = IsOther write.place.disk write.place.sector d s

-- from a quiet moment, where no part installs, a stop at any moment leaves what was held before some part
abbrev pub LeavesWritten : {D : Type 0} → Ghosts D → List Effect → D → D → Type 0
LeavesWritten g parts old new = InstallsNothing parts → IsQuiet (g.past old) → LeavesOnly (g.past old) (g.past new) (IsWritten parts (now (g.past old)))

-- where no part installs, every sector but those that the parts write is never written
abbrev pub LeavesOthers : {D : Type 0} → Ghosts D → List Effect → D → D → Type 0
LeavesOthers g parts old new =
    InstallsNothing parts → (d s : ℕ) → All (λ part. IsBeside d s part.write) parts → NotWritten (g.past old) (g.past new) d s

-- whether a part that reads no configuration and doesn't boot may end with this status
abbrev pub is_plain_status : ℕ → Bool
is_plain_status status = list_any (λ known. known == status) (0 ∷ 3 ∷ 6 ∷ 7 ∷ 8 ∷ [])

-- whether one that reads a configuration may
abbrev pub is_conf_status : ℕ → Bool
is_conf_status status = list_any (λ known. known == status) (0 ∷ 2 ∷ 3 ∷ 6 ∷ 7 ∷ 8 ∷ 13 ∷ [])

-- whether `-t` may
abbrev pub is_test_status : ℕ → Bool
is_test_status status = list_any (λ known. known == status) (0 ∷ 2 ∷ 3 ∷ 4 ∷ 5 ∷ 8 ∷ 13 ∷ [])

-- whether an installation may
abbrev pub is_install_status : ℕ → Bool
is_install_status status = list_any (λ known. known == status) (0 ∷ 2 ∷ 3 ∷ 4 ∷ 5 ∷ 8 ∷ 9 ∷ 10 ∷ 13 ∷ [])

-- whether a device that isn't found may
abbrev pub is_place_status : ℕ → Bool
is_place_status status = list_any (λ known. known == status) (3 ∷ 8 ∷ [])

-- whether `-u` may
abbrev pub is_restore_status : ℕ → Bool
is_restore_status status = list_any (λ known. known == status) (0 ∷ 3 ∷ 6 ∷ 8 ∷ 9 ∷ [])

-- whether `-R` may
abbrev pub is_line_status : ℕ → Bool
is_line_status status = list_any (λ known. known == status) (0 ∷ 2 ∷ 3 ∷ 4 ∷ 6 ∷ 7 ∷ 8 ∷ 9 ∷ 13 ∷ [])

-- whether a boot may
abbrev pub is_boot_status : ℕ → Bool
is_boot_status status = list_any (λ known. known == status) (0 ∷ 3 ∷ 6 ∷ 7 ∷ 8 ∷ 9 ∷ 10 ∷ 11 ∷ [])

-- whether a part may
abbrev pub is_part_status : ℕ → Bool
is_part_status status = list_any (λ known. known == status) (0 ∷ 2 ∷ 3 ∷ 4 ∷ 5 ∷ 6 ∷ 7 ∷ 8 ∷ 9 ∷ 10 ∷ 11 ∷ 13 ∷ [])

-- whether parts in order may
abbrev pub is_run_status : ℕ → Bool
is_run_status status = list_any (λ known. known == status) (0 ∷ 2 ∷ 3 ∷ 4 ∷ 5 ∷ 6 ∷ 7 ∷ 8 ∷ 9 ∷ 10 ∷ 11 ∷ 12 ∷ 13 ∷ [])

-- whether arguments may
abbrev pub is_status : ℕ → Bool
is_status status = list_any (λ known. known == status) (0 ∷ 1 ∷ 2 ∷ 3 ∷ 4 ∷ 5 ∷ 6 ∷ 7 ∷ 8 ∷ 9 ∷ 10 ∷ 11 ∷ 12 ∷ 13 ∷ [])
