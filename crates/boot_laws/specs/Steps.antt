-- What holds of the steps of a boot, each by itself: of a section, of the choice, and of what is loaded.
use Rattle.std.specs.Prelude.{◌≡◌, ◌≤◌, ℕ, ◌+◌, Bool, List, length, Option, None, option_map, Ok}
use Rattle.lilo_model.specs.Checks.{◌>>=◌, with_fault}
use Rattle.lilo_model.specs.Disks.{Image, Machine, IsImage}
use Rattle.lilo_model.specs.Slots.{Slot}
use Rattle.lilo_model.specs.Section.{Content, section, file_content}
use Rattle.lilo_model.specs.Table.{Descriptor}
use Rattle.lilo_model.specs.DefaultLine.{DefaultLine}
use Rattle.lilo_model.specs.Prompt.{Key, AreLastKeys, Settings, ListedEntry}
use Rattle.lilo_model.specs.Choice.{Setup, most_turns, course_opened, choice}
use Rattle.lilo_model.specs.Place.{place}
use Rattle.lilo_model.specs.Reason as reasons
use Rattle.lilo_model.specs.Boot.{Loaded, initrd_size, loaded_ending}

-- a section never lists more sectors than are needed
abbrev pub FewSectorsLaw : Type 0
FewSectorsLaw =
    (image : Image) (machine : Machine) (first : Slot) (sectors chain : ℕ)
    → length (section image machine first sectors chain).places ≤ sectors

-- a file whose section isn't refused has as many bytes as were asked for
abbrev pub ContentLaw : Type 0
ContentLaw =
    (image : Image) (machine : Machine) (first : Slot) (len chain : ℕ)
    → IsImage image
    → (file_content image machine first len chain).refusal ≡ None
    → length (file_content image machine first len chain).bytes ≡ len

-- the keys that a choice leaves are the last of those that it was given
abbrev pub LastKeysLaw : Type 0
LastKeysLaw =
    (settings : Settings) (entries : List ListedEntry) (line : DefaultLine) (message : Option (List ℕ)) (keys : List Key)
    → AreLastKeys keys (choice settings entries line message keys).left

-- as many lines as a choice counts on are enough: with more its course is the same
abbrev pub EnoughLinesLaw : Type 0
EnoughLinesLaw =
    (setup : Setup) (more : ℕ) (opens : Bool) (keys : List Key)
    → course_opened setup (more + most_turns keys) opens keys ≡ course_opened setup (most_turns keys) opens keys

-- a file that is there as a whole
abbrev pub whole_content : List ℕ → Content
whole_content bytes = record { bytes = bytes; refusal = None }

-- what an entry loads from whole files is what a kernel, its initrd and its line put into memory
abbrev pub PlaceLaw : Type 0
PlaceLaw =
    (entry : Descriptor) (kernel : List ℕ) (initrd : Option (List ℕ)) (line : List ℕ) (video : Option ℕ) (memory : ℕ)
    → entry.main_length ≡ length kernel
    → initrd_size entry ≡ option_map length initrd
    → loaded_ending entry (whole_content kernel) (option_map whole_content initrd) line video memory
    ≡ (with_fault reasons.Header (place kernel initrd line video memory)
    >>= λ loading. Ok (record { outcome = Loaded loading.layout; written = loading.written }))
