-- A prompt that is given silence again and again.
use Rattle.std.proofs.Common.{◌≡◌, ◌<◌, refl, ap, ℕ, Bool, true, false, List, [], ◌∷◌, Option, None, Some, arith}
use Rattle.bios_model.specs.declared.key.Key.TheVariants as keys
use Rattle.prompt_core.specs.Steps.{Chosen, State, Delaying, Timing, Typing, Asking, Decided, Over, question_step, password_of, default_choice, line_meant, meant_or, key_step}
use Rattle.lilo_model.specs.Choice.{Setup}
use Rattle.prompt_core.specs.Run.{is_done, run_behind, said_marks, silenced, driven}

-- how often a prompt may be given silence at most
abbrev pub silences : State → ℕ
silences (Delaying wait) = 3
silences (Timing wait) = 3
silences (Asking question) = 2
silences (Typing text first) = 1
silences (Decided chosen) = 0
silences Over = 0

-- a choice waits for an answer at most
abbrev AsksAtMost : State → Type 0
AsksAtMost (Delaying wait) = ⊥
AsksAtMost (Timing wait) = ⊥
AsksAtMost _ = Unit {0}

question_asks : (before : List ℕ) (opened : Bool) (chosen : Chosen) (asked : Option (List ℕ)) → AsksAtMost (question_step before opened chosen asked).state
question_asks before opened chosen None = tt
question_asks before opened chosen (Some password) = tt

question_few : (before : List ℕ) (opened : Bool) (chosen : Chosen) (asked : Option (List ℕ)) → silences (question_step before opened chosen asked).state < 3
question_few before opened chosen None = omega arith
question_few before opened chosen (Some password) = omega arith

-- two silences suffice where no wait runs
enough : (setup : Setup) (state : State) → AsksAtMost state → silenced setup 2 state ≡ silenced setup 3 state
unfolding key_step
enough setup (Delaying wait) asks = absurd asks
enough setup (Timing wait) asks = absurd asks
enough setup (Typing text first) asks = refl
enough setup (Decided chosen) asks = refl
enough setup Over asks = refl
enough setup (Asking question) asks = by question.opened refl
  where
    by : (opened : Bool) → question.opened ≡ opened → silenced setup 2 (Asking question) ≡ silenced setup 3 (Asking question)
    by true is = rw is refl
    by false is = rw is refl

-- after a silence no wait runs
asks_then : (setup : Setup) (state : State) → AsksAtMost (key_step setup state keys.Silence).state
unfolding key_step
asks_then setup (Delaying wait) =
    let chosen : Chosen = meant_or (default_choice setup true) (line_meant setup) in
    question_asks [] false chosen (password_of setup.entries chosen)
asks_then setup (Timing wait) =
    let chosen : Chosen = default_choice setup true in
    question_asks (10 ∷ []) true chosen (password_of setup.entries chosen)
asks_then setup (Typing text first) = tt
asks_then setup (Decided chosen) = tt
asks_then setup Over = tt
asks_then setup (Asking question) = by question.opened refl
  where
    by : (opened : Bool) → question.opened ≡ opened → AsksAtMost (key_step setup (Asking question) keys.Silence).state
    by true is = rw is tt
    by false is = rw is tt

-- a silence, and those after it
pub silence_first :
    (setup : Setup) (state : State) → is_done state ≡ false
    → driven setup [] state
    ≡ run_behind (said_marks setup.entries [] (key_step setup state keys.Silence).said) (driven setup [] (key_step setup state keys.Silence).state)
silence_first setup state waits =
    let next : State = (key_step setup state keys.Silence).state in
    rw waits (ap (λ run. run_behind (said_marks setup.entries [] (key_step setup state keys.Silence).said) run) (enough setup next (asks_then setup state)))

-- each takes one of them
pub silences_fall : (setup : Setup) (state : State) → is_done state ≡ false → silences (key_step setup state keys.Silence).state < silences state
unfolding key_step
silences_fall setup (Delaying wait) waits =
    let chosen : Chosen = meant_or (default_choice setup true) (line_meant setup) in
    question_few [] false chosen (password_of setup.entries chosen)
silences_fall setup (Timing wait) waits =
    let chosen : Chosen = default_choice setup true in
    question_few (10 ∷ []) true chosen (password_of setup.entries chosen)
silences_fall setup (Typing text first) waits = omega arith
silences_fall setup (Decided chosen) waits = cc
silences_fall setup Over waits = cc
silences_fall setup (Asking question) waits = by question.opened refl
  where
    by : (opened : Bool) → question.opened ≡ opened → silences (key_step setup (Asking question) keys.Silence).state < 2
    by true is = rw is (omega arith)
    by false is = rw is (omega arith)
