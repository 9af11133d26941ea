-- What a boot answers, the keys that it leaves and what it writes are the model's.
use Rattle.std.specs.Prelude.{◌≡◌, ℕ, Bool, false, List, [], ◌∷◌, Option, None, Result, Ok, Err}
use Rattle.lilo_model.specs.Boot.{whole_boot}
use Rattle.lilo_model.specs.Devices.{Device}
use Rattle.lilo_model.specs.Disks.{Image, Machine, Span}
use Rattle.lilo_model.specs.Prompt.{Key}
use Rattle.lilo_model.specs.Refusal.{DeviceFault}
use Rattle.lilo_model.specs.Verdict.{boot_verdict}
use Rattle.lilo_model.specs.Words.{Part, Boot, run_at}
use Rattle.stream_trait.specs.declared.sink.Sink.{Ghosts}
use Rattle.stream_trait.specs.declared.source.Source as sources
use Rattle.disk_trait.specs.declared.disks.Disks as disks
use Rattle.loader_core.specs.Report.{LineWrite, boot_write}
use Rattle.lilo_run.specs.Run.{Tells, scene_of}
use Rattle.lilo_run.specs.Verdict.{Effect, Left, boot_effect, effects_of, run_left, run_boots}

-- the arguments are one part, which boots this device
abbrev pub IsBootRun : List (List ℕ) → Device → Bool → Type 0
IsBootRun words device dump = (part : Part) × (run_at words ≡ Ok (part ∷ [])) × (part.command ≡ Boot device dump)

-- the keys that the model's boot from a device leaves
abbrev pub boot_left : Image → Machine → Result Span DeviceFault → List Key → ℕ → List Key
boot_left now machine (Ok span) keys memory = (whole_boot now machine span keys memory).left
boot_left now machine (Err fault) keys memory = keys

-- what it writes of the default line
abbrev pub line_written : Image → Machine → Result Span DeviceFault → List Key → ℕ → Option LineWrite
line_written now machine (Ok span) keys memory = boot_write now machine span (whole_boot now machine span keys memory).line
line_written now machine (Err fault) keys memory = None

-- what the model's boot does by these keys, and what today's may print where something failed
abbrev pub model_effect : Image → Machine → ℕ → Result Span DeviceFault → Bool → List Key → Effect
model_effect now machine memory place dump keys =
    record (boot_effect now machine memory dump place keys) {
      verdict = boot_verdict now machine place dump keys memory;
      left = boot_left now machine place keys memory;
      write = line_written now machine place keys memory;
    }

-- the status, the text, the keys left and what was written go with the model's boot by these keys
abbrev pub TellsBoot : {D I O : Type 0} → disks.Ghosts D → sources.Ghosts I → Ghosts O → Image → Machine → ℕ → Result Span DeviceFault → Bool
    → List Key → List Key → ℕ → D × I × List ℕ × O → D × I × List ℕ × O → Type 0
TellsBoot g i o now machine memory place dump keys left status old new =
    Tells g (model_effect now machine memory place dump keys) status left (scene_of i o old) (scene_of i o new)

-- where no part boots, what arguments do is the same in a memory of any size
abbrev pub NoMemoryLaw : Type 0
NoMemoryLaw = (now : Image) (machine : Machine) (memory other time : ℕ) (words : List (List ℕ)) (lefts : List Left) (keys : List Key)
    → run_boots (run_at words) ≡ false
    → effects_of now machine memory time words lefts keys ≡ effects_of now machine other time words lefts keys

-- where no part boots, all keys are left
abbrev pub NoKeysLaw : Type 0
NoKeysLaw = (now : Image) (machine : Machine) (memory time : ℕ) (words : List (List ℕ)) (lefts : List Left) (keys : List Key) → run_boots (run_at words) ≡ false
    → run_left keys (effects_of now machine memory time words lefts keys) ≡ keys

-- the verdict of a boot is the model's, and so are the keys that it leaves and what it writes of the default line
abbrev pub BootVerdictLaw : Type 0
BootVerdictLaw =
    (now : Image) (machine : Machine) (memory : ℕ) (dump : Bool) (place : Result Span DeviceFault) (keys : List Key)
    → boot_effect now machine memory dump place keys ≡ model_effect now machine memory place dump keys
