-- A command on a device, and the whole call.
use Rattle.std.proofs.Common.{◌≡◌, ◌==◌, ◌&&◌, ◌∙◌, ◌⊎◌, if◌then◌else◌, ℕ, inl, inr, Bool, true, false, List, [], ◌++◌, Option, Ok, Err, refl, sym, ap, subst}
use Rattle.stream_trait.specs.Sink.{Takes, TakesFront}
use Rattle.stream_trait.specs.Shows.{SinkState, Shows, Prints, answer_of}
use Rattle.stream_trait.proofs.SinkLemmas.{TakesFront-whole, TakesFront-before}
use Rattle.stream_trait.proofs.ShowsLemmas.{shows_join, shows_same, prints_of, answered}
use Rattle.lilo_model.specs.Checks.{with_fault}
use Rattle.lilo_model.specs.Devices.{Device}
use Rattle.lilo_model.specs.Disks.{Image, Machine, Span}
use Rattle.lilo_model.specs.Verdict.{Verdict}
use Rattle.lilo_model.specs.MinixParts.{parts_of, volume_at}
use Rattle.lilo_model.specs.LdiskWords.{Command, device_of}
use Rattle.lilo_model.specs.LdiskVerdict.{NoVolume, room_of, volume_on, verdict_on, command_verdict}
use Rattle.minix_zones.specs.View as volumes
use Rattle.minix_zones.specs.declared.zone_fault.ZoneFault as zones
use Rattle.ldisk_run.specs.Pieces.{Held, Adds}
use Rattle.ldisk_run.specs.Run.{Halts, IsZoneHalt, Does, DoesAs, IsFailure, Answers, Tells}
use Rattle.ldisk_run.specs.declared.halt.Halt.{Halt}
use Rattle.ldisk_run.proofs.AddsLemmas.{does_halted}
use Rattle.ldisk_run.proofs.HaltLemmas.{halts_behind, halts_told, zone_halts}

-- what holds of a value holds of another that is the same
pub held_of : {A : Type 0} (P : A → Type 0) (one : A) {other : A} → P one → one ≡ other → P other
held_of P one held same = subst P same held

-- ---- a command

-- no room was found
pub room_halted :
    (now : Image) (machine : Machine) (command : Command) (device : Device) (halt : Halt) (a : Held) → device ≡ device_of command
    → Halts halt (room_of now machine device) → Does (command_verdict now machine command) (Err halt) a a
unfolding command_verdict volume_on
room_halted now machine command device halt a is halts =
    does_halted halt (volume_on now machine (device_of command)) (λ volume. verdict_on volume.layout (parts_of volume now) command) a
    (halts_behind halt (room_of now machine (device_of command)) (λ span. with_fault NoVolume (volume_at now span))
    (subst (λ (found : Device). Halts halt (room_of now machine found)) is halts))

volume_halts :
    (now : Image) (machine : Machine) (device : Device) (span : Span) (halt : Halt)
    → room_of now machine device ≡ Ok span → Halts halt (volume_at now span) → Halts halt (volume_on now machine device)
unfolding volume_on
volume_halts now machine device span halt room halts = rw room (halts_told halt NoVolume (volume_at now span) halts)

-- there is no volume
pub volume_halted :
    (now : Image) (machine : Machine) (command : Command) (device : Device) (span : Span) (fault : zones.ZoneFault) (halt : Halt) (a : Held)
    → device ≡ device_of command → room_of now machine device ≡ Ok span → volumes.Refuses fault (volume_at now span) → IsZoneHalt fault halt
    → Does (command_verdict now machine command) (Err halt) a a
unfolding command_verdict
volume_halted now machine command device span fault halt a is room refused told =
    does_halted halt (volume_on now machine (device_of command)) (λ volume. verdict_on volume.layout (parts_of volume now) command) a
    (subst (λ (found : Device). Halts halt (volume_on now machine found)) is
    (volume_halts now machine device span halt room (zone_halts fault halt (volume_at now span) refused told)))

-- ---- the whole

-- what was added and what was still held are shown
shows_all :
    (a b : Held) (c : SinkState) (text : List ℕ) → a.text ≡ [] → Adds a text b → Shows b.sink b.text c → Shows a.sink text c
shows_all a b c text none (shown, shows, is) rest =
    shows_same a.sink c (shown ++ b.text) text (sym is ∙ ap (λ l. l ++ text) none) (shows_join a.sink b.sink c shown b.text shows rest)

front_by :
    (old new : Option (List ℕ)) (before now : ℕ) (front rest text : List ℕ) → text ≡ front ++ rest → Prints old front new before now
    → TakesFront old text new
front_by old new before now front rest text is (inl whole) =
    subst (λ l. TakesFront old l new) (sym is) (TakesFront-before old new front rest (TakesFront-whole old new front whole))
front_by old new before now front rest text is (inr (rose, some)) =
    subst (λ l. TakesFront old l new) (sym is) (TakesFront-before old new front rest some)

failure_stays : (status : ℕ) (failed : Bool) → IsFailure status → IsFailure (answer_of status failed)
failure_stays status failed (inl is) = rw is (inl refl)
failure_stays status failed (inr (inl is)) = rw is (inr (inl refl))
failure_stays status failed (inr (inr is)) = rw is (inr (inr refl))

pub answers : (v : Verdict) (status : ℕ) (failed : Bool) (a b : Held) → DoesAs v status a b → Answers v (answer_of status failed)
answers v status failed a b (inl (is, added)) = by (answered (status == 0) failed status v.status refl is)
  where
    by : (answer_of status failed ≡ v.status) ⊎ ((answer_of status failed ≡ 12) × (v.status ≡ 0)) → Answers v (answer_of status failed)
    by (inl same) = inl same
    by (inr twelve) = inr (inr twelve)
answers v status failed a b (inr (failure, front)) = inr (inl (failure_stays status failed failure))

pub tells :
    (v : Verdict) (status : ℕ) (failed : Bool) (a b : Held) (c : SinkState) → DoesAs v status a b → a.text ≡ [] → a.sink.failed ≡ false
    → Shows b.sink b.text c → Tells v (answer_of status failed) a.sink.taken c.taken a.sink.faults c.faults
tells v status failed a b c (inl (is, added)) none fine rest =
    inl (answered (status == 0) failed status v.status refl is, prints_of a.sink c v.text (shows_all a b c v.text none added rest) fine)
tells v status failed a b c (inr (failure, (front, behind, is, added))) none fine rest =
    inr (
      failure_stays status failed failure,
      front_by a.sink.taken c.taken a.sink.faults c.faults front behind v.text is
          (prints_of a.sink c front (shows_all a b c front none added rest) fine),
    )

-- it is 0 only where that is the status and the sink didn't fail
plain : (status : ℕ) (failed : Bool) → answer_of status failed ≡ 0 → (failed ≡ false) × (status ≡ 0)
plain status failed is = by (status == 0) failed refl is
  where
    by : (test f : Bool) → (status == 0) ≡ test → (if test && f then 12 else status) ≡ 0 → (f ≡ false) × (status ≡ 0)
    by true true one is = absurd (let no : 12 ≡ 0 = is in cc)
    by true false one is = (refl, is)
    by false true one is = absurd (let no : (0 == 0) ≡ false = subst (λ (s : ℕ). (s == 0) ≡ false) is one in cc)
    by false false one is = (refl, is)

-- then the sink took all of it
pub takes_whole :
    (v : Verdict) (status : ℕ) (failed : Bool) (a b : Held) (c : SinkState) → DoesAs v status a b → a.text ≡ [] → Shows b.sink b.text c → c.failed ≡ failed
    → answer_of status failed ≡ 0 → Takes a.sink.taken v.text c.taken
takes_whole v status failed a b c does none rest last ends = let both = plain status failed ends in by status both.1 does (last ∙ both.0)
  where
    by : (s : ℕ) → s ≡ 0 → DoesAs v s a b → c.failed ≡ false → Takes a.sink.taken v.text c.taken
    by s is (inl (is_verdict, added)) same = (shows_all a b c v.text none added rest).whole same
    by s is (inr (inl eight, front)) same = absurd (let no : 8 ≡ 0 = sym eight ∙ is in cc)
    by s is (inr (inr (inl thirteen), front)) same = absurd (let no : 13 ≡ 0 = sym thirteen ∙ is in cc)
    by s is (inr (inr (inr eleven), front)) same = absurd (let no : 11 ≡ 0 = sym eleven ∙ is in cc)
