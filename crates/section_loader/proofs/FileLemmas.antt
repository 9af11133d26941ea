-- The steps of reading a file.
use Rattle.std.proofs.Common.{◌≡◌, ◌≤◌, ◌+◌, ◌-◌, ◌∙◌, ℕ, zero, suc, true, refl, sym, ap, List, [], ◌++◌, map, take, length, Option, None, Some, Result, Ok, Err, arith, rules}
use Rattle.std.specs.Prelude.{min, Bool, false, nat_le, ◌<◌, IsErr}
use Rattle.std.specs.List.{concat}
use Rattle.std.proofs.lemmas.List.{take-append-le, append-nil}
use Rattle.std.proofs.Math.Seq.{take-append-add, take-length}
use Rattle.lilo_model.specs.Checks.{◌>>=◌}
use Rattle.lilo_model.specs.Disks.{Image, Machine, DiskSector, bytes_at}
use Rattle.lilo_model.specs.Slots as slots
use Rattle.lilo_model.specs.Slots.{place_at}
use Rattle.lilo_model.specs.Section.{sectors_for}
use Rattle.lilo_model.specs.Reason.{NotFound}
use Rattle.sector_address.specs.declared.slot.Slot.{Slot}
use Rattle.bios_model.specs.Machine.{sector_bytes_at}
use Rattle.map_section.specs.Reader.{ReaderState}
use Rattle.section_loader.specs.declared.reason.Halt.{Halt}
use Rattle.section_loader.specs.declared.reason.Halt.TheVariants.{Device, Refused}
use Rattle.section_loader.specs.Reading.{Reading, reading_place, reading_named, reading_sector, reading_ahead, FileRest, rest_of, rest_behind}
use Rattle.section_loader.specs.File.{Turns, FindsSector, ReadsAt, Yields}

-- a turn at which a section sector is fed
pub fed_turn :
    (now : Image) (machine : Machine) (first : slots.Slot) (wanted : ℕ) (old mid new : ReaderState) (link : slots.Slot) (result : Result (Option Slot) Halt)
    → reading_ahead now machine first wanted old ≡ reading_sector now (reading_ahead now machine first wanted) mid (place_at machine link 0)
    → ((slot : Slot) → result ≡ Ok (Some slot) → ⊥)
    → FindsSector now result (place_at machine link 0) mid new
    → Turns machine wanted result (reading_ahead now machine first wanted old) (λ w. reading_ahead now machine first w new)
fed_turn now machine first wanted old mid new link (Ok None) ahead none found = ahead ∙ found (reading_ahead now machine first wanted)
fed_turn now machine first wanted old mid new link (Ok (Some slot)) ahead none found = absurd (none slot refl)
fed_turn now machine first wanted old mid new link (Err Device) ahead none found = tt
fed_turn now machine first wanted old mid new link (Err (Refused reason)) ahead none found = ahead ∙ found (reading_ahead now machine first wanted)

-- the first of some bytes and others after them
take-parts :
    (small : Bool) (left size : ℕ) (bytes rest : List ℕ) → nat_le left 512 ≡ small → length bytes ≡ 512 → size ≡ min 512 left
    → take left (bytes ++ rest) ≡ take size bytes ++ take (left - size) rest
take-parts true left size bytes rest is long least =
    let few : left ≤ 512 = grind arith in
    let same : size ≡ left = omega arith in
    let none : left - size ≡ 0 = omega arith in
    rw (none, same) (take-append-le left bytes rest (omega arith) ∙ sym (append-nil (take left bytes)))
take-parts false left size bytes rest is long least =
    let many : 512 ≤ left = grind arith in
    let same : size ≡ length bytes = omega arith in
    let more : left ≡ length bytes + (left - size) = omega arith in
    ap (λ n. take n (bytes ++ rest)) more
    ∙ take-append-add bytes rest (left - size)
    ∙ ap (λ front. front ++ take (left - size) rest) (sym (ap (λ n. take n bytes) same ∙ take-length bytes))

-- what is left where a sector was found and read
found_rest :
    (now : Image) (left size : ℕ) (behind : Reading) (found : Result DiskSector slots.AddressFault) (bytes : List ℕ)
    → (found >>= λ place. Ok (bytes_at now place)) ≡ Ok bytes → length bytes ≡ 512 → size ≡ min 512 left
    → rest_of now left (reading_place behind found) ≡ rest_behind (take size bytes) (rest_of now (left - size) behind)
found_rest now left size behind (Ok place) bytes read long least =
    let here : bytes_at now place ≡ bytes = cc in
    let parts = take-parts _ left size bytes (concat (map (bytes_at now) behind.places)) refl long least in
    ap (λ all. record { bytes = all; stop = behind.stop })
    (ap (λ first. take left (first ++ concat (map (bytes_at now) behind.places))) here ∙ parts)
found_rest now left size behind (Err fault) bytes read long least = let h : ⊥ = cc in absurd h

-- what is left after a sector of a slot that was read
pub read_rest :
    (now : Image) (machine : Machine) (slot : slots.Slot) (index held left size : ℕ) (ahead : ℕ → Reading) (bytes : List ℕ)
    → 0 < held → 0 < left → sector_bytes_at now machine slot index ≡ Ok bytes → length bytes ≡ 512 → size ≡ min 512 left
    → rest_of now left (reading_named machine slot index (min held (sectors_for left)) (ahead (sectors_for left - held)))
    ≡ rest_behind (take size bytes) (rest_of now (left - size)
    (reading_named machine slot (index + 1) (min (held - 1) (sectors_for (left - size))) (ahead (sectors_for (left - size) - (held - 1)))))
read_rest now machine slot index held left size ahead bytes more some read long least =
    let first : min held (sectors_for left) ≡ suc (min (held - 1) (sectors_for (left - size))) = grind arith in
    let fewer : sectors_for left - held ≡ sectors_for (left - size) - (held - 1) = grind arith in
    let behind = reading_named machine slot (index + 1) (min (held - 1) (sectors_for (left - size))) (ahead (sectors_for (left - size) - (held - 1))) in
    rw (first, fewer) (found_rest now left size behind (place_at machine slot index) bytes read long least)

-- where a sector of a slot isn't there
pub lost_rest :
    (now : Image) (machine : Machine) (slot : slots.Slot) (index held left : ℕ) (ahead : ℕ → Reading)
    → 0 < held → 0 < left → IsErr (place_at machine slot index)
    → rest_of now left (reading_named machine slot index (min held (sectors_for left)) (ahead (sectors_for left - held)))
    ≡ record { bytes = []; stop = Some NotFound }
lost_rest now machine slot index held left ahead more some lost =
    let first : min held (sectors_for left) ≡ suc (min (held - 1) (sectors_for left - 1)) = grind arith in
    rw first (lost_by now left _ (place_at machine slot index) lost)
  where
    take-none : (n : ℕ) → ◌≡◌ {A = List ℕ} (take n []) []
    take-none zero = refl
    take-none (suc n) = refl

    lost_by :
        (now : Image) (left : ℕ) (behind : Reading) (found : Result DiskSector slots.AddressFault) → IsErr found
        → rest_of now left (reading_place behind found) ≡ record { bytes = []; stop = Some NotFound }
    lost_by now left behind (Ok place) lost = absurd (search rules)
    lost_by now left behind (Err fault) lost = ap (λ bytes. record { bytes = bytes; stop = Some NotFound }) (take-none left)

-- the same, as what is read of the file
pub lost_yields :
    (now : Image) (machine : Machine) (slot : slots.Slot) (index held left : ℕ) (ahead : ℕ → Reading) (old new : FileRest) (bytes : List ℕ) (halt : Halt)
    → old ≡ rest_of now left (reading_named machine slot index (min held (sectors_for left)) (ahead (sectors_for left - held)))
    → 0 < held → 0 < left → ReadsAt now machine slot index (Err halt) bytes
    → Yields (Err halt) old bytes new
lost_yields now machine slot index held left ahead old new bytes Device kept more some lost = tt
lost_yields now machine slot index held left ahead old new bytes (Refused reason) kept more some (lost, is) =
    kept ∙ lost_rest now machine slot index held left ahead more some lost
    ∙ ap (λ r. record { bytes = []; stop = Some r }) (sym is)
