-- From the start on, the prompt does with keys what the list of them does that is cut.
use Rattle.std.proofs.Common.{◌≡◌, ℕ, zero, suc, ◌-◌, ◌≤◌, ◌<◌, ◌==◌, List, [], ◌∷◌, ◌++◌, length, Bool, true, false, ◌&&◌, if◌then◌else◌, Option, None, Some, refl, sym, ◌∙◌, ap, arith}
use Rattle.std.specs.Prelude.{nat_le, is_none, unwrap_or}
use Rattle.std.proofs.lemmas.Bool.Decides.{nat_tests}
use Rattle.lilo_model.specs.DefaultLine.{line_text}
use Rattle.lilo_model.specs.Prompt.{Key, Byte, Tick}
use Rattle.lilo_model.specs.KeyCuts.{cut_wait, is_enter_key, is_erase_key, is_list_key}
use Rattle.lilo_model.specs.LineWords.{Meaning, Nothing, Names, NoSuch, meaning}
use Rattle.lilo_model.specs.Choice.{Setup, default_candidate, meant_candidate, automatic_candidate, newline, Turn, Takes, Idles, Again, turn_behind, candidate_turn, delay_turn, timeout_turn, opened_turn, course_from, most_turns, course_opened, opens_at_once, course_of}
use Rattle.prompt_core.specs.declared.reply.Answer.TheVariants as answers
use Rattle.prompt_core.specs.Steps.{Chosen, Delaying, Timing, stepped, opening, prompt_text, chosen_of, default_choice, Meant, Blank, Means, Unknown, meant_of, line_meant, opens_by, meant_or, password_of, question_step, choice_step, meant_step, line_step, delayed_step, timed_step, key_step, shown_step, waiting_step, start_step}
use Rattle.prompt_core.specs.Run.{Mark, Opened, text_marks, said_marks, run_behind, silenced, driven, after_step, run_of, seen, KeysLaw}
use Rattle.prompt_core.proofs.GatherLemmas.{AreFilled}
use Rattle.prompt_core.proofs.RunLemmas.{candidate_goes, meaning_filled, goes}

-- ---- a prompt that opens

abbrev opened_marks : List Key → List Mark
opened_marks keys = Opened keys ∷ text_marks prompt_text

opened_question : (setup : Setup) (keys : List Key) (chosen : Chosen) (asked : Option (List ℕ))
    → after_step setup keys (opening (question_step (prompt_text ++ newline) true chosen asked))
    ≡ run_behind (opened_marks keys) (after_step setup keys (question_step newline true chosen asked))
opened_question setup keys chosen None = refl
opened_question setup keys chosen (Some password) = refl

opened_choice : (setup : Setup) (keys : List Key) (chosen : Chosen)
    → after_step setup keys (opening (choice_step setup.entries (prompt_text ++ newline) true chosen))
    ≡ run_behind (opened_marks keys) (after_step setup keys (choice_step setup.entries newline true chosen))
opened_choice setup keys chosen = opened_question setup keys chosen (password_of setup.entries chosen)

opened_meant : (setup : Setup) (keys : List Key) (means : Meant)
    → after_step setup keys (opening (meant_step setup (prompt_text ++ newline) means))
    ≡ run_behind (opened_marks keys) (after_step setup keys (meant_step setup newline means))
opened_meant setup keys Blank = opened_choice setup keys (default_choice setup false)
opened_meant setup keys (Means chosen) = opened_choice setup keys chosen
opened_meant setup keys Unknown = refl

opened_line : (setup : Setup) (keys : List Key) (text : List ℕ) (first : Bool) (byte : ℕ)
    → after_step setup keys (opening (line_step setup prompt_text text first byte))
    ≡ run_behind (opened_marks keys) (after_step setup keys (line_step setup [] text first byte))
opened_line setup keys text first byte = by (is_enter_key byte) (is_erase_key byte) (first && is_list_key byte) refl refl refl
  where
    by : (enter erase list : Bool) → is_enter_key byte ≡ enter → is_erase_key byte ≡ erase → (first && is_list_key byte) ≡ list
        → after_step setup keys (opening (line_step setup prompt_text text first byte))
        ≡ run_behind (opened_marks keys) (after_step setup keys (line_step setup [] text first byte))
    by true erase list is_enter is_erase is_list =
        rw is_enter (opened_meant setup keys (meant_of setup.entries false (meaning setup.entries text)))
    by false true list is_enter is_erase is_list = rw (is_enter, is_erase) refl
    by false false true is_enter is_erase is_list = rw (is_enter, is_erase, is_list) refl
    by false false false is_enter is_erase is_list = rw (is_enter, is_erase, is_list) refl

-- ---- silence

silent_question : (setup : Setup) (before : List ℕ) (opened : Bool) (chosen : Chosen) (asked : Option (List ℕ))
    → silenced setup 2 (question_step before opened chosen asked).state ≡ silenced setup 3 (question_step before opened chosen asked).state
unfolding key_step
silent_question setup before opened chosen None = refl
silent_question setup before true chosen (Some password) = refl
silent_question setup before false chosen (Some password) = refl

silent_choice : (setup : Setup) (before : List ℕ) (opened : Bool) (chosen : Chosen)
    → silenced setup 2 (choice_step setup.entries before opened chosen).state ≡ silenced setup 3 (choice_step setup.entries before opened chosen).state
silent_choice setup before opened chosen = silent_question setup before opened chosen (password_of setup.entries chosen)

-- ---- the delay

automatic_by : (setup : Setup) (means : Meaning)
    → chosen_of setup.entries (unwrap_or (meant_candidate means) (default_candidate setup true))
    ≡ meant_or (default_choice setup true) (meant_of setup.entries true means)
automatic_by setup Nothing = refl
automatic_by setup (Names place words) = refl
automatic_by setup NoSuch = refl

filled_by : (setup : Setup) (means : Meaning) → ((place : ℕ) (words : List (List ℕ)) → means ≡ Names place words → AreFilled words)
    → AreFilled (unwrap_or (meant_candidate means) (default_candidate setup true)).words
filled_by setup Nothing filled = tt
filled_by setup (Names place words) filled = filled place words refl
filled_by setup NoSuch filled = tt

behind_nothing : (turn : Turn) → turn_behind [] turn ≡ turn
behind_nothing (Takes candidate shown keys) = refl
behind_nothing (Idles shown) = refl
behind_nothing (Again shown left keys) = refl

delayed_goes : (setup : Setup) (most : ℕ) (keys : List Key) → length keys < most
    → seen setup (course_from setup most false (candidate_turn setup (automatic_candidate setup) keys)) ≡ after_step setup keys (delayed_step setup)
delayed_goes setup most keys enough =
    let text : List ℕ = line_text setup.line in
    let filled = filled_by setup (meaning setup.entries text) (λ place words is. meaning_filled setup.entries text place words is) in
    ap (λ turn. seen setup (course_from setup most false turn)) (sym (behind_nothing (candidate_turn setup (automatic_candidate setup) keys)))
    ∙ candidate_goes setup most keys false (automatic_candidate setup) [] filled ((goes setup keys).asks most enough)
    ∙ ap (λ chosen. after_step setup keys (choice_step setup.entries [] false chosen)) (automatic_by setup (meaning setup.entries text))

delay_byte : (setup : Setup) (wait byte most : ℕ) (keys : List Key) → suc (length keys) < most
    → seen setup (course_from setup most false (Again [] keys (Byte byte ∷ keys))) ≡ driven setup (Byte byte ∷ keys) (Delaying wait)
unfolding key_step
delay_byte setup wait byte zero keys enough = absurd (omega arith)
delay_byte setup wait byte (suc most) keys enough =
    ap (run_behind (opened_marks keys)) ((goes setup (Byte byte ∷ keys)).lines most (omega arith) [] true)
    ∙ sym (opened_line setup keys [] true byte)

delay_last : (setup : Setup) (most : ℕ) (keys : List Key) → length keys < most
    → seen setup (course_from setup most false (candidate_turn setup (automatic_candidate setup) keys)) ≡ driven setup (Tick ∷ keys) (Delaying 1)
unfolding key_step
delay_last setup most keys enough = delayed_goes setup most keys enough

delay_silent : (setup : Setup) (wait most : ℕ) → 0 < most
    → seen setup (course_from setup most false (candidate_turn setup (automatic_candidate setup) [])) ≡ driven setup [] (Delaying wait)
unfolding key_step
delay_silent setup wait most enough =
    delayed_goes setup most [] enough
    ∙ ap (run_behind (said_marks setup.entries [] (delayed_step setup).said)) (sym (silent_choice setup [] false (meant_or (default_choice setup true) (line_meant setup))))

delay_more : (setup : Setup) (wait : ℕ) (keys : List Key) → driven setup keys (Delaying (suc wait)) ≡ driven setup (Tick ∷ keys) (Delaying (suc (suc wait)))
unfolding key_step
delay_more setup wait keys =
    let above : nat_le (suc (suc wait)) 1 ≡ false = grind (arith, nat_tests) in
    let less : suc (suc wait) - 1 ≡ suc wait = omega arith in
    rw (above, less) refl

delay_goes : (setup : Setup) (wait most : ℕ) (keys : List Key) → length keys < most
    → seen setup (course_from setup most false (delay_turn setup (cut_wait (suc wait) keys))) ≡ driven setup keys (Delaying (suc wait))
delay_goes setup wait most [] enough = delay_silent setup (suc wait) most enough
delay_goes setup wait most (Byte byte ∷ keys) enough = delay_byte setup (suc wait) byte most keys enough
delay_goes setup zero most (Tick ∷ keys) enough = delay_last setup most keys (omega arith)
delay_goes setup (suc wait) most (Tick ∷ keys) enough = delay_goes setup wait most keys (omega arith) ∙ delay_more setup wait keys

-- ---- the timeout

timed_goes : (setup : Setup) (most : ℕ) (keys : List Key) → length keys < most
    → seen setup (course_from setup most true (turn_behind newline (candidate_turn setup (default_candidate setup true) keys)))
    ≡ after_step setup keys (timed_step setup [])
timed_goes setup most keys enough =
    candidate_goes setup most keys true (default_candidate setup true) newline tt ((goes setup keys).asks most enough)

timing_byte : (setup : Setup) (wait byte most : ℕ) (keys : List Key) → suc (length keys) ≤ most
    → seen setup (course_from setup most true (timeout_turn setup (cut_wait (suc wait) (Byte byte ∷ keys)))) ≡ driven setup (Byte byte ∷ keys) (Timing (suc wait))
unfolding key_step
timing_byte setup wait byte most keys enough = (goes setup (Byte byte ∷ keys)).lines most enough [] true

timing_last : (setup : Setup) (most : ℕ) (keys : List Key) → length keys < most
    → seen setup (course_from setup most true (turn_behind newline (candidate_turn setup (default_candidate setup true) keys)))
    ≡ driven setup (Tick ∷ keys) (Timing 1)
unfolding key_step
timing_last setup most keys enough = timed_goes setup most keys enough

timing_silent : (setup : Setup) (wait most : ℕ) → 0 < most
    → seen setup (course_from setup most true (turn_behind newline (candidate_turn setup (default_candidate setup true) [])))
    ≡ driven setup [] (Timing wait)
unfolding key_step
timing_silent setup wait most enough =
    timed_goes setup most [] enough
    ∙ ap (run_behind (said_marks setup.entries [] (timed_step setup []).said)) (sym (silent_choice setup newline true (default_choice setup true)))

timing_more : (setup : Setup) (wait : ℕ) (keys : List Key) → driven setup keys (Timing (suc wait)) ≡ driven setup (Tick ∷ keys) (Timing (suc (suc wait)))
unfolding key_step
timing_more setup wait keys =
    let above : nat_le (suc (suc wait)) 1 ≡ false = grind (arith, nat_tests) in
    let less : suc (suc wait) - 1 ≡ suc wait = omega arith in
    rw (above, less) refl

timing_goes : (setup : Setup) (wait most : ℕ) (keys : List Key) → length keys < most
    → seen setup (course_from setup most true (timeout_turn setup (cut_wait (suc wait) keys))) ≡ driven setup keys (Timing (suc wait))
timing_goes setup wait most [] enough = timing_silent setup (suc wait) most enough
timing_goes setup wait most (Byte byte ∷ keys) enough = timing_byte setup wait byte most keys (omega arith)
timing_goes setup zero most (Tick ∷ keys) enough = timing_last setup most keys (omega arith)
timing_goes setup (suc wait) most (Tick ∷ keys) enough = timing_goes setup wait most keys (omega arith) ∙ timing_more setup wait keys

-- ---- the start

opens_by_meaning : (setup : Setup) (prompt : Bool) (means : Meaning)
    → opens_by prompt (meant_of setup.entries true means) ≡ (prompt && is_none (meant_candidate means))
opens_by_meaning setup true Nothing = refl
opens_by_meaning setup false Nothing = refl
opens_by_meaning setup true (Names place words) = refl
opens_by_meaning setup false (Names place words) = refl
opens_by_meaning setup true NoSuch = refl
opens_by_meaning setup false NoSuch = refl

shown_goes : (setup : Setup) (timeout : Option ℕ) (keys : List Key)
    → after_step setup keys (shown_step setup timeout)
    ≡ run_behind (opened_marks keys) (seen setup (course_from setup (most_turns keys) true (opened_turn setup timeout keys)))
shown_goes setup None keys = ap (run_behind (opened_marks keys)) (sym ((goes setup keys).lines (most_turns keys) (omega arith) [] true))
shown_goes setup (Some zero) keys =
    opened_choice setup keys (default_choice setup true)
    ∙ ap (run_behind (opened_marks keys)) (sym (timed_goes setup (most_turns keys) keys (omega arith)))
shown_goes setup (Some (suc wait)) keys =
    let more : (suc wait == 0) ≡ false = grind (arith, nat_tests) in
    rw more (ap (run_behind (opened_marks keys)) (sym (timing_goes setup wait (most_turns keys) keys (omega arith))))

waiting_at : (setup : Setup) (delay : ℕ) (keys : List Key)
    → after_step setup keys (if delay == 0 then delayed_step setup else stepped (Delaying delay) answers.More [])
    ≡ seen setup (course_from setup (most_turns keys) false (delay_turn setup (cut_wait delay keys)))
waiting_at setup zero keys = sym (delayed_goes setup (most_turns keys) keys (omega arith))
waiting_at setup (suc wait) keys =
    let more : (suc wait == 0) ≡ false = grind (arith, nat_tests) in
    rw more (sym (delay_goes setup wait (most_turns keys) keys (omega arith)))

started : (setup : Setup) (keys : List Key) (opens : Bool) → opens_at_once setup ≡ opens
    → after_step setup keys (if opens then shown_step setup setup.settings.timeout else waiting_step setup)
    ≡ seen setup (course_opened setup (most_turns keys) opens keys)
started setup keys true is = shown_goes setup setup.settings.timeout keys
started setup keys false is = waiting_at setup setup.settings.delay keys

-- given any keys one by one, the prompt does what the list does that is cut
pub keys_law : KeysLaw
unfolding run_of start_step course_of
keys_law setup keys =
    rw (opens_by_meaning setup setup.settings.prompt (meaning setup.entries (line_text setup.line)))
    (started setup keys (opens_at_once setup) refl)
