-- What a part that boots, sets a line, restores or looks answers and writes.
use Rattle.std.proofs.Common.{◌≡◌, ◌≢◌, ℕ, Bool, List, Option, None, Some, Result, Ok, Err, refl, sym, ap, ◌∙◌, subst}
use Rattle.std.specs.Option.{option_and_then}
use Rattle.std.specs.Result.{result_ok}
use Rattle.boot_backup.specs.Restore.{boot_place, restored_in}
use Rattle.lilo_model.specs.Boot.{Outcome, Loaded, Handed, Refused, whole_boot}
use Rattle.lilo_model.specs.ConfVerdict.{conf_device, place_at}
use Rattle.lilo_model.specs.Devices.{Device}
use Rattle.lilo_model.specs.Disks.{Image, Machine, Span, DiskSector}
use Rattle.lilo_model.specs.LineShots.{ShotFault, NotOurs, LineTooLong, BadTable, NotFound, shot_place}
use Rattle.lilo_model.specs.LineWords.{joined_words}
use Rattle.lilo_model.specs.Checks.{with_fault}
use Rattle.lilo_model.specs.Prompt.{Key}
use Rattle.lilo_model.specs.Refusal as refusals
use Rattle.lilo_model.specs.Refusal.{DeviceFault, Refusal}
use Rattle.lilo_model.specs.Verdict.{Verdict, boot_verdict, verdict_of}
use Rattle.lilo_model.specs.Words as words
use Rattle.loader_core.specs.Report.{LineWrite, boot_write}
use Rattle.session_model.specs.Step.{Boot, SetLine, Restore, Answered, Done, extent_of}
use Rattle.lilo_run.specs.Refusal.{line_refused}
use Rattle.lilo_run.specs.Turn.{found_span}
use Rattle.lilo_run.specs.Verdict.{Effect, Left, boot_effect, report_effect, line_effect, line_by, line_on, line_verdict, shot_write, shot_effect, restore_effect, restored_on, restored_effect, restored_verdict, written_at, query_effect, conf_query_effect, test_effect, command_effect}
use Rattle.lilo_run.proofs.LawLemmas.{boot_verdict_law}

-- it installs nothing, would answer this, and writes this
pub record Does (effect : Effect) (verdict : ℕ) (written : Option LineWrite) : Type 0 where
  pub installs : effect.installs ≡ None
  pub status : effect.verdict.status ≡ verdict
  pub write : effect.write ≡ written

-- ---- answers

-- a boot from a device that is there answers 0 or 7
pub boot-extent : (image : Image) (machine : Machine) (span : Span) (dump : Bool) (keys all : List Key) (memory size : ℕ)
    → extent_of (Boot all size) (Answered (boot_verdict image machine (Ok span) dump keys memory).status) ≡ Done
unfolding boot_verdict
boot-extent image machine span dump keys all memory size = by (whole_boot image machine span keys memory).outcome refl
  where
    by : (outcome : Outcome) → (whole_boot image machine span keys memory).outcome ≡ outcome
        → extent_of (Boot all size) (Answered (boot_verdict image machine (Ok span) dump keys memory).status) ≡ Done
    by (Loaded layout) is = rw is refl
    by Handed is = rw is refl
    by (Refused reason) is = rw is refl

pub shot-refused : (text : List ℕ) (fault : ShotFault) → extent_of (SetLine text) (Answered (line_refused fault).status) ≢ Done
shot-refused text NotOurs is = cc
shot-refused text (LineTooLong size) is = cc
shot-refused text (BadTable entry) is = cc
shot-refused text NotFound is = cc

pub restore-refused : (device : Device) (refusal : Refusal) → extent_of (Restore device) (Answered (verdict_of (Err refusal)).status) ≢ Done
restore-refused device (refusals.Device fault) is = cc
restore-refused device refusals.NotOurs is = cc
restore-refused device (refusals.Boot reason) is = cc
restore-refused device refusals.NoVolume is = cc
restore-refused device refusals.Layout is = cc
restore-refused device (refusals.Missing path) is = cc
restore-refused device (refusals.BadPath path) is = cc
restore-refused device (refusals.Config refusal) is = cc

-- ---- a device that is found

pub some-ok : {A F : Type 0} (found : Result A F) (value : A) → result_ok found ≡ Some value → found ≡ Ok value
some-ok (Ok found) value is = cc
some-ok (Err fault) value is = absurd cc

none-err : {A F : Type 0} (found : Result A F) → result_ok found ≡ None → (fault : F) × (found ≡ Err fault)
none-err (Ok found) is = absurd cc
none-err (Err fault) is = (fault, refl)

module _ (image : Image) (machine : Machine) where
  abbrev span_by : Result Device Refusal → Option Span
  span_by device = option_and_then (λ device. result_ok (place_at image machine device)) (result_ok device)

  pub shot-device : (span : Span) (device : Result Device Refusal) → span_by device ≡ Some span
      → (found : Device) × (device ≡ Ok found) × (place_at image machine found ≡ Ok span)
  shot-device span (Ok device) is = (device, refl, some-ok (place_at image machine device) span is)
  shot-device span (Err refusal) is = absurd cc

  -- where none is, a line goes nowhere
  line-none : (text : List ℕ) (device : Result Device Refusal) → span_by device ≡ None → (refused : Verdict) × (line_by image machine text device ≡ Err refused)
  line-none text (Ok device) is =
      let gone = none-err (place_at image machine device) is in
      (verdict_of (Err (refusals.Device gone.0)), ap (line_on image machine text) gone.1)
  line-none text (Err refusal) is = (verdict_of (Err refusal), refl)

-- ---- what is done

-- a line that goes to a place, or nowhere
abbrev pub shot_status : Result DiskSector ShotFault → ℕ
shot_status place = (line_verdict (with_fault line_refused place)).status

abbrev pub restored_write : Span → Result (List ℕ) Refusal → Option LineWrite
restored_write span bytes = result_ok (written_at (boot_place span) bytes)

abbrev pub restored_status : Span → Result (List ℕ) Refusal → ℕ
restored_status span bytes = (restored_verdict (written_at (boot_place span) bytes)).status

module _ (image : Image) (machine : Machine) (memory time : ℕ) (root : Option Device) (path : List ℕ) (found : Left) (keys : List Key) where
  abbrev effect : words.Command → Effect
  effect command = command_effect image machine memory time root path command found keys

  boot-does : (dump : Bool) (span : Span)
      → Does (boot_effect image machine memory dump (Ok span) keys) (boot_verdict image machine (Ok span) dump keys memory).status
      (boot_write image machine span (whole_boot image machine span keys memory).line)
  unfolding boot_effect report_effect
  boot-does dump span =
      let law = boot_verdict_law image machine memory dump (Ok span) keys in
      record { installs = refl; status = ap (λ (e : Effect). e.verdict.status) law; write = ap (λ (e : Effect). e.write) law }

  pub boot_does : (device : Device) (dump : Bool) (span : Span) → place_at image machine device ≡ Ok span
      → Does (effect (words.Boot device dump)) (boot_verdict image machine (Ok span) dump keys memory).status
      (boot_write image machine span (whole_boot image machine span keys memory).line)
  unfolding command_effect
  boot_does device dump span at =
      subst (λ (place : Result Span DeviceFault). Does (boot_effect image machine memory dump place keys) (boot_verdict image machine (Ok span) dump keys memory).status
      (boot_write image machine span (whole_boot image machine span keys memory).line)) (sym at) (boot-does dump span)

  shot-does : (text : List ℕ) (to : Result DiskSector Verdict) → line_by image machine text (conf_device image machine root path) ≡ to
      → Does (line_effect image machine root path text) (line_verdict to).status (shot_write text to)
  unfolding line_effect
  shot-does text to is =
      record { installs = refl; status = ap (λ (to : Result DiskSector Verdict). (line_verdict to).status) is; write = ap (shot_write text) is }

  pub shot_does : (line : List (List ℕ)) (device : Device) (span : Span) → conf_device image machine root path ≡ Ok device → place_at image machine device ≡ Ok span
      → (place : Result DiskSector ShotFault) → shot_place image machine span (joined_words line) ≡ place
      → Does (effect (words.SetLine line)) (shot_status place) (shot_write (joined_words line) (with_fault line_refused place))
  unfolding command_effect
  shot_does line device span configured at place is =
      let to : line_by image machine (joined_words line) (conf_device image machine root path) ≡ with_fault line_refused place =
      ap (line_by image machine (joined_words line)) configured ∙ ap (line_on image machine (joined_words line)) at ∙ ap (with_fault line_refused) is in
      let does = shot-does (joined_words line) (with_fault line_refused place) to in
      record { installs = does.installs; status = does.status; write = does.write }

  restore-does : (device : Device) (span : Span) (bytes : Result (List ℕ) Refusal) → restored_in image machine root device span ≡ bytes
      → Does (restore_effect image machine root device (Ok span)) (restored_status span bytes) (restored_write span bytes)
  unfolding restore_effect
  restore-does device span bytes is =
      record { installs = refl; status = ap (restored_status span) is; write = ap (restored_write span) is }

  pub restore_does : (device : Device) (span : Span) → place_at image machine device ≡ Ok span
      → (bytes : Result (List ℕ) Refusal) → restored_in image machine root device span ≡ bytes
      → Does (effect (words.Restore device)) (restored_status span bytes) (restored_write span bytes)
  unfolding command_effect
  restore_does device span at bytes is =
      let does = subst (λ (place : Result Span DeviceFault). Does (restore_effect image machine root device place) (restored_status span bytes) (restored_write span bytes)) (sym at)
      (restore-does device span bytes is) in
      record { installs = does.installs; status = does.status; write = does.write }

  -- what finds no device writes nothing
  none-boot : (dump : Bool) (fault : DeviceFault) → Does (boot_effect image machine memory dump (Err fault) keys) (boot_effect image machine memory dump (Err fault) keys).verdict.status None
  unfolding boot_effect
  none-boot dump fault = record { installs = refl; status = refl; write = refl }

  none-restore : (device : Device) (fault : DeviceFault) → Does (restore_effect image machine root device (Err fault)) (restore_effect image machine root device (Err fault)).verdict.status None
  unfolding restore_effect
  none-restore device fault = record { installs = refl; status = refl; write = refl }

  pub none_does : (command : words.Command) → found_span image machine root path command ≡ None → command ≢ words.Install → Does (effect command) (effect command).verdict.status None
  unfolding command_effect
  none_does (words.Boot device dump) none other =
      let gone = none-err (place_at image machine device) none in
      subst (λ (place : Result Span DeviceFault). Does (boot_effect image machine memory dump place keys) (boot_effect image machine memory dump place keys).verdict.status None) (sym gone.1) (none-boot dump gone.0)
  none_does (words.SetLine line) none other =
      let gone = line-none image machine (joined_words line) (conf_device image machine root path) none in
      let does = shot-does (joined_words line) (Err gone.0) gone.1 in
      record { installs = does.installs; status = refl; write = does.write }
  none_does (words.Restore device) none other =
      let gone = none-err (place_at image machine device) none in
      let does = subst (λ (place : Result Span DeviceFault). Does (restore_effect image machine root device place) (restore_effect image machine root device place).verdict.status None) (sym gone.1) (none-restore device gone.0) in
      record { installs = does.installs; status = refl; write = does.write }
  none_does words.Install none other = absurd (other refl)
  none_does words.Test none other = record { installs = refl; status = refl; write = refl }
  none_does (words.Query device) none other = record { installs = refl; status = refl; write = refl }
