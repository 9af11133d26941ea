-- `-R`: the words of a line, and how its write ends.
use Rattle.std.proofs.Common.{◌≡◌, ◌≤◌, ◌<◌, eqb, ◌⊎◌, ◌∙◌, ◌+◌, ◌-◌, ℕ, inl, inr, min, Bool, true, false, List, [], ◌∷◌, ◌++◌, length, take, drop, get_or, Option, Some, Result, Ok, Err, refl, sym, ap, arith, append_assoc, length-drop, take_all}
use Rattle.std.specs.Prelude.{slice_get, slice_range}
use Rattle.std.proofs.lemmas.Bool.{cases_lt, ne_eqb, eq-eqb}
use Rattle.std.proofs.lemmas.List.{take_more, get_or-drop}
use Rattle.std.proofs.lemmas.Option.{slice_get_within, get_or_from_slice_get}
use Rattle.lilo_model.specs.Checks.{with_fault}
use Rattle.lilo_model.specs.ConfVerdict.{conf_device, place_at}
use Rattle.lilo_model.specs.Devices.{Device}
use Rattle.lilo_model.specs.Disks.{Image, Machine, Span, DiskSector}
use Rattle.lilo_model.specs.Faults.{Rose}
use Rattle.lilo_model.specs.LineSector.{line_bytes}
use Rattle.lilo_model.specs.LineShots as model
use Rattle.lilo_model.specs.LineShots.{shot_line, shot_place}
use Rattle.lilo_model.specs.LineWords.{joined_words, is_empty_list}
use Rattle.lilo_model.specs.Prompt.{Key}
use Rattle.lilo_model.specs.Refusal.{DeviceFault}
use Rattle.lilo_model.specs.Verdict.{Verdict}
use Rattle.lilo_words.proofs.Ranges.{range_empty, range_some}
use Rattle.stream_trait.specs.Shows.{Shows}
use Rattle.disk_trait.specs.declared.disks.Disks.{Ghosts}
use Rattle.disk_trait.specs.declared.disks.Phase.{Phase}
use Rattle.disk_trait.specs.declared.disks.Phase.TheVariants.{Before, Commit, After}
use Rattle.disk_trait.specs.Calls.{SameOf}
use Rattle.bios_model.proofs.WriteLemmas.{made_as}
use Rattle.one_shot.specs.Shot.{Puts}
use Rattle.one_shot.specs.declared.shot.ShotFault.{ShotFault}
use Rattle.one_shot.specs.declared.shot.ShotFault.TheVariants as shots
use Rattle.lilo_run.specs.Line.{spaced}
use Rattle.lilo_run.specs.Refusal.{line_refused, shot_verdict, halt_verdict}
use Rattle.lilo_run.specs.Run.{State, Does, Carries, CarriedOut, LostBefore, LostAtCommit, Starved, HaltsAt}
use Rattle.lilo_run.specs.Verdict.{leaving, conf_effect, line_on, line_verdict, shot_effect, line_effect}
use Rattle.lilo_run.specs.declared.refusal.Halt.{Halt}
use Rattle.lilo_run.specs.declared.refusal.Halt.TheVariants.{Device as DeviceHalt, NoPlace, NotOurs, Boot}
use Rattle.lilo_run.proofs.RunLemmas.{carries_after}

-- ---- words

-- the arguments up to the next one
range_more :
    (words : List (List ℕ)) (from at : ℕ) (word : List ℕ) → from ≤ at → slice_get words at ≡ Some word
    → slice_range words from (at + 1) ≡ slice_range words from at ++ word ∷ []
range_more words from at word before is =
    let inside = slice_get_within words at word is in
    let size = length-drop from words in
    let there : at - from < length (drop from words) = omega (arith, size, inside, before) in
    let gap : at + 1 - from ≡ (at - from) + 1 = omega (arith, before) in
    let whole : from + (at - from) ≡ at = omega (arith, before) in
    let same : get_or (drop from words) (at - from) [] ≡ word =
    get_or-drop from words (at - from) [] ∙ ap (λ i. get_or words i []) whole ∙ get_or_from_slice_get words at word [] is in
    rw gap (take_more (drop from words) (at - from) [] there ∙ ap (λ w. take (at - from) (drop from words) ++ w ∷ []) same)

-- all arguments from one place to before another were looked at
pub range_stop :
    (words : List (List ℕ)) (from to at : ℕ) → from ≤ at → (at ≤ to) ⊎ (at ≡ from) → min to (length words) ≤ at
    → slice_range words from at ≡ slice_range words from to
range_stop words from to at before (inl within) past =
    let size = length-drop from words in
    elim (cases_lt at to) [
      | inl less ↦
          (let short : length (drop from words) ≤ at - from = omega (arith, size, less, past) in
          let shorter : length (drop from words) ≤ to - from = omega (arith, size, less, past) in
          take_all (at - from) (drop from words) short ∙ sym (take_all (to - from) (drop from words) shorter))
      | inr over ↦ (let same : at ≡ to = omega (arith, within, over) in rw same refl)
    ]
range_stop words from to at before (inr start) past =
    let size = length-drop from words in
    elim (cases_lt from to) [
      | inl less ↦
          (let short : length (drop from words) ≤ at - from = omega (arith, size, less, past, start) in
          let shorter : length (drop from words) ≤ to - from = omega (arith, size, less, past, start) in
          take_all (at - from) (drop from words) short ∙ sym (take_all (to - from) (drop from words) shorter))
      | inr over ↦ rw (range_empty words from at (omega (arith, start)), range_empty words from to over) refl
    ]

joined_later :
    (first : List ℕ) (words : List (List ℕ)) (word : List ℕ) → joined_words ((first ∷ words) ++ word ∷ []) ≡ joined_words (first ∷ words) ++ (32 ∷ word)
joined_later first [] word = refl
joined_later first (next ∷ words) word =
    ap (λ rest. first ++ (32 ∷ rest)) (joined_later next words word) ∙ sym (append_assoc first (32 ∷ joined_words (next ∷ words)) (32 ∷ word))

-- a word after those so far
step_by :
    (done : List (List ℕ)) (first : Bool) (word text : List ℕ) → text ≡ joined_words done → is_empty_list done ≡ first
    → text ++ spaced first word ≡ joined_words (done ++ word ∷ [])
step_by [] true word text is none = rw is refl
step_by [] false word text is none = absurd cc
step_by (one ∷ others) true word text is none = absurd cc
step_by (one ∷ others) false word text is none = rw is (sym (joined_later one others word))

none_yet :
    (words : List (List ℕ)) (from at : ℕ) (word : List ℕ) → from ≤ at → slice_get words at ≡ Some word
    → is_empty_list (slice_range words from at) ≡ eqb at from
none_yet words from at word before is =
    let inside = slice_get_within words at word is in
    elim (cases_lt from at) [
      | inl less ↦ rw (range_some words from at less (omega (arith, inside)), ne_eqb at from (λ same. omega (arith, same, less))) refl
      | inr past ↦ (let same : at ≡ from = omega (arith, before, past) in rw (range_empty words from at past, eq-eqb at from same) refl)
    ]

pub joined_more :
    (words : List (List ℕ)) (from at : ℕ) (word text : List ℕ) → text ≡ joined_words (slice_range words from at) → from ≤ at → slice_get words at ≡ Some word
    → text ++ spaced (eqb at from) word ≡ joined_words (slice_range words from (at + 1))
joined_more words from at word text is before found =
    step_by (slice_range words from at) (eqb at from) word text is (none_yet words from at word before found)
    ∙ ap joined_words (sym (range_more words from at word before found))

pub joined_none : (words : List (List ℕ)) (from : ℕ) → [] ≡ joined_words (slice_range words from from)
joined_none words from = rw (range_empty words from from (omega arith)) refl

-- ---- the write

module _ {D : Type 0} (g : Ghosts D) (text : List ℕ) (status : ℕ) (keys : List Key) (old new : State D) where
  -- a refusal, before a device was looked for
  pub shot_refused :
      (place : Result DiskSector Verdict) → SameOf g old.disks new.disks → (status ≡ 8 → Rose (g.faults old.disks) (g.faults new.disks)) → 1 ≤ status
      → Does (conf_effect (line_verdict place)) status old.memory new.memory old.sink new.sink
      → Carries g (leaving keys (shot_effect text place)) status keys old new
  shot_refused (Ok place) same failed some (inl done) = absurd (let zero = done.answer in omega (arith, zero, some))
  shot_refused (Err verdict) same failed some (inl done) = CarriedOut (record { answer = done.answer; shown = done.shown; placed = done.placed }) refl same
  shot_refused place same failed some (inr (inl lost)) = LostBefore lost (record { same = same; rose = failed lost.answer })
  shot_refused place same failed some (inr (inr starved)) = Starved starved same

  -- no device was found
  pub shot_unplaced :
      (now : Image) (machine : Machine) (place : Result Span DeviceFault) (halt : Halt) → HaltsAt halt place → SameOf g old.disks new.disks
      → (halt ≡ DeviceHalt → Rose (g.faults old.disks) (g.faults new.disks)) → status ≡ (halt_verdict halt).status → 1 ≤ status → Shows old.sink (halt_verdict halt).text new.sink
      → Carries g (leaving keys (shot_effect text (line_on now machine text place))) status keys old new
  shot_unplaced now machine place DeviceHalt halts same failed answer some told = LostBefore (record { answer = answer; shown = inl told }) (record { same = same; rose = failed refl })
  shot_unplaced now machine place (NoPlace fault) halts same failed answer some told =
      rw halts (CarriedOut (record { answer = answer; shown = told; placed = λ zero. absurd (omega (arith, zero, some)) }) refl same)
  shot_unplaced now machine place NotOurs halts same failed answer some told = absurd halts
  shot_unplaced now machine place (Boot reason) halts same failed answer some told = absurd halts

  -- the line was written
  pub shot_done :
      (place : Result DiskSector model.ShotFault) → Puts g old.disks new.disks (line_bytes (shot_line text)) place (Ok tt)
      → status ≡ 0 → new.memory ≡ old.memory → Shows old.sink [] new.sink
      → Carries g (leaving keys (shot_effect text (with_fault line_refused place))) status keys old new
  shot_done (Ok place) puts zero kept shown =
      CarriedOut (record { answer = zero; shown = shown; placed = λ is. kept }) refl (made_as g old.disks new.disks place (line_bytes (shot_line text)) puts.writes)
  shot_done (Err fault) puts zero kept shown = let is = puts.answer in absurd cc

  -- it wasn't
  pub shot_failed :
      (fault : ShotFault) (place : Result DiskSector model.ShotFault) → Puts g old.disks new.disks (line_bytes (shot_line text)) place (Err fault)
      → (let result : Result (Unit {0}) ShotFault = Err fault in result ≡ Err (shots.Device Before) → SameOf g old.disks new.disks)
      → ((phase : Phase) → (let result : Result (Unit {0}) ShotFault = Err fault in result ≡ Err (shots.Device phase)) → Rose (g.faults old.disks) (g.faults new.disks))
      → status ≡ (shot_verdict fault).status → 1 ≤ status → Shows old.sink (shot_verdict fault).text new.sink
      → Carries g (leaving keys (shot_effect text (with_fault line_refused place))) status keys old new
  shot_failed shots.NotOurs (Ok place) puts same failed answer some told = let is = puts.answer in absurd cc
  shot_failed (shots.LineTooLong size) (Ok place) puts same failed answer some told = let is = puts.answer in absurd cc
  shot_failed (shots.BadTable entry) (Ok place) puts same failed answer some told = let is = puts.answer in absurd cc
  shot_failed shots.NotFound (Ok place) puts same failed answer some told = let is = puts.answer in absurd cc
  shot_failed (shots.Device Commit) (Ok place) puts same failed answer some told =
      let lost = puts.lost refl in
      LostAtCommit (record { answer = answer; shown = inl told })
      (record { some = refl; before = lost.before; same = lost.same; later = lost.later; puts = lost.writes; rose = lost.rose })
  shot_failed (shots.Device Before) place puts same failed answer some told = LostBefore (record { answer = answer; shown = inl told }) (record { same = same refl; rose = failed Before refl })
  shot_failed (shots.Device After) place puts same failed answer some told = absurd puts.answer
  shot_failed (shots.Device Commit) (Err refusal) puts same failed answer some told = let is = puts.answer in absurd cc
  shot_failed shots.NotOurs (Err refusal) puts same failed answer some told =
      let found = puts.answer in let is : refusal ≡ model.NotOurs = cc in
      rw is (CarriedOut (record { answer = answer; shown = told; placed = λ zero. absurd (omega (arith, zero, some)) }) refl puts.writes)
  shot_failed (shots.LineTooLong size) (Err refusal) puts same failed answer some told =
      let found = puts.answer in let is : refusal ≡ model.LineTooLong size = cc in
      rw is (CarriedOut (record { answer = answer; shown = told; placed = λ zero. absurd (omega (arith, zero, some)) }) refl puts.writes)
  shot_failed (shots.BadTable entry) (Err refusal) puts same failed answer some told =
      let found = puts.answer in let is : refusal ≡ model.BadTable entry = cc in
      rw is (CarriedOut (record { answer = answer; shown = told; placed = λ zero. absurd (omega (arith, zero, some)) }) refl puts.writes)
  shot_failed shots.NotFound (Err refusal) puts same failed answer some told =
      let found = puts.answer in let is : refusal ≡ model.NotFound = cc in
      rw is (CarriedOut (record { answer = answer; shown = told; placed = λ zero. absurd (omega (arith, zero, some)) }) refl puts.writes)

  -- ---- the device that a configuration boots

  -- it was found, and then what was written is what is written on it
  pub shot_booted :
      (now : Image) (machine : Machine) (root : Option Device) (path : List ℕ) (device : Device) (first : D)
      → conf_device now machine root path ≡ Ok device → SameOf g first old.disks → g.faults first ≤ g.faults old.disks
      → Carries g (leaving keys (shot_effect text (line_on now machine text (place_at now machine device)))) status keys old new
      → Carries g (leaving keys (line_effect now machine root path text)) status keys (record { disks = first; memory = old.memory; sink = old.sink; key_faults = old.key_faults }) new
  unfolding line_effect
  shot_booted now machine root path device first is same later carries =
      rw is (carries_after g (leaving keys (shot_effect text (line_on now machine text (place_at now machine device)))) status keys first old new same later carries)

  -- a device lies here
  pub shot_placed :
      (now : Image) (machine : Machine) (place : Result Span DeviceFault) (span : Span) (first : D)
      → place ≡ Ok span → SameOf g first old.disks → g.faults first ≤ g.faults old.disks
      → Carries g (leaving keys (shot_effect text (with_fault line_refused (shot_place now machine span text)))) status keys old new
      → Carries g (leaving keys (shot_effect text (line_on now machine text place))) status keys (record { disks = first; memory = old.memory; sink = old.sink; key_faults = old.key_faults }) new
  shot_placed now machine place span first is same later carries =
      rw is (carries_after g (leaving keys (shot_effect text (with_fault line_refused (shot_place now machine span text)))) status keys first old new same later carries)
