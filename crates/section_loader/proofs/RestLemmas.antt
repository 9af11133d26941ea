-- What is left of a file.
use Rattle.std.proofs.Common.{◌≡◌, ◌≤◌, ◌-◌, ◌∙◌, min, ℕ, zero, suc, true, refl, ap, List, [], map, take, length, None, Ok, arith}
use Rattle.std.specs.Prelude.{◌==◌}
use Rattle.std.specs.List.{concat}
use Rattle.std.proofs.lemmas.List.{length-take}
use Rattle.lilo_model.specs.Disks.{Image, Machine, bytes_at}
use Rattle.lilo_model.specs.Section.{sectors_for}
use Rattle.map_section.specs.Reader.{ReaderState, Done, next_of, turns_left}
use Rattle.sector_address.specs.View.{slot_view}
use Rattle.section_loader.specs.declared.file.FileReader.{FileReader}
use Rattle.section_loader.specs.File.{IsCounted, held_in, rest_in}
use Rattle.section_loader.specs.Reading.{ended_reading, reading_answer, reading_named, reading_turns, reading_ahead, rest_of}

take-none : (n : ℕ) → ◌≡◌ {A = List ℕ} (take n []) []
take-none zero = refl
take-none (suc n) = refl

ended_next : (state : ReaderState) → state.needed ≡ 0 → (next_of state).answer ≡ Ok Done
ended_next state none = let is : (state.needed == 0) ≡ true = grind arith in rw is refl

-- after its last byte a file has ended
pub ended_rest :
    (now : Image) (machine : Machine) (file : FileReader) → file.left ≡ 0 → IsCounted file
    → rest_in now machine file ≡ record { bytes = []; stop = None }
unfolding reading_ahead
ended_rest now machine file none counted =
    let first = slot_view file.first in
    let slot = slot_view file.slot in
    let index = file.index in
    let left = file.left in
    let held = held_in file in
    let state = file.section in
    let wanted : sectors_for left ≡ 0 = grind arith in
    let done : (next_of state).answer ≡ Ok Done = ended_next state (grind (arith, counted.needed)) in
    let few : min held (sectors_for left) ≡ 0 = grind arith in
    let ahead : reading_turns now machine first (suc (turns_left state)) (sectors_for left - held) state ≡ ended_reading None =
    ap (λ answer. reading_answer now machine first (sectors_for left - held) (reading_turns now machine first (turns_left state)) (next_of state).state answer) done in
    ap (λ n. rest_of now left (reading_named machine slot index n (reading_turns now machine first (suc (turns_left state)) (sectors_for left - held) state))) few
    ∙ ap (λ reading. rest_of now left reading) ahead ∙ ap (λ bytes. record { bytes = bytes; stop = None }) (take-none left)

-- a file is no longer than what is left of it
pub rest_most :
    (now : Image) (machine : Machine) (file : FileReader) → length (rest_in now machine file).bytes ≤ file.left
rest_most now machine file =
    let wanted = sectors_for file.left in
    let ahead = reading_ahead now machine (slot_view file.first) (wanted - held_in file) file.section in
    let reading = reading_named machine (slot_view file.slot) file.index (min (held_in file) wanted) ahead in
    let bytes = concat (map (bytes_at now) reading.places) in
    rw (length-take file.left bytes) (omega arith)
