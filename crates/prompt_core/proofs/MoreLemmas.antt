-- When more keys are wanted.
use Rattle.std.proofs.Common.{◌≡◌, ℕ, suc, ◌==◌, List, [], ◌++◌, Bool, true, false, not, ◌&&◌, ◌||◌, Option, None, Some, refl, sym, ◌∙◌}
use Rattle.std.specs.Prelude.{nat_le, codes}
use Rattle.std.proofs.lemmas.Bool.{eqb-true}
use Rattle.lilo_model.specs.KeyCuts.{is_enter_key, is_erase_key, is_list_key, most_quiet_ticks}
use Rattle.lilo_model.specs.LineWords.{meaning}
use Rattle.lilo_model.specs.Choice.{Setup, newline, is_right}
use Rattle.bios_model.specs.declared.key.Key.TheVariants as keys
use Rattle.prompt_core.specs.Steps.{Chosen, Question, Delaying, Timing, Typing, Asking, Decided, Over, Meant, Blank, Means, Unknown, meant_of, line_meant, meant_or, default_choice, password_of, question_step, meant_step, line_step, reopened_step, answer_step, quiet_step, delayed_step, timed_step, prompt_text, key_step, wants_more, MoreLaw}

asked : (before : List ℕ) (opened : Bool) (chosen : Chosen) (password : Option (List ℕ)) → wants_more (question_step before opened chosen password).said.answer ≡ false
asked before opened chosen None = refl
asked before opened chosen (Some password) = refl

finished : (setup : Setup) (before : List ℕ) (means : Meant) → wants_more (meant_step setup before means).said.answer ≡ false
finished setup before Blank = asked before true (default_choice setup false) (password_of setup.entries (default_choice setup false))
finished setup before (Means chosen) = asked before true chosen (password_of setup.entries chosen)
finished setup before Unknown = refl

-- what empties a line is no key that lists
erase_lists : (first : Bool) (byte : ℕ) → is_erase_key byte ≡ true → (first && is_list_key byte) ≡ false
erase_lists false byte erase = refl
erase_lists true byte erase = rw (eqb-true byte 21 erase) refl

at_line : (setup : Setup) (before text : List ℕ) (first : Bool) (byte : ℕ)
    → wants_more (line_step setup before text first byte).said.answer ≡ not (is_enter_key byte || (first && is_list_key byte))
at_line setup before text first byte = by (is_enter_key byte) (is_erase_key byte) (first && is_list_key byte) refl refl refl
  where
    by : (enter erase list : Bool) → is_enter_key byte ≡ enter → is_erase_key byte ≡ erase → (first && is_list_key byte) ≡ list
        → wants_more (line_step setup before text first byte).said.answer ≡ not (is_enter_key byte || (first && is_list_key byte))
    by true erase list is_enter is_erase is_list =
        rw is_enter (finished setup (before ++ newline) (meant_of setup.entries false (meaning setup.entries text)))
    by false true true is_enter is_erase is_list = let never : true ≡ false = sym is_list ∙ erase_lists first byte is_erase in cc
    by false true false is_enter is_erase is_list = rw (is_enter, is_erase, is_list) refl
    by false false true is_enter is_erase is_list = rw (is_enter, is_erase, is_list) refl
    by false false false is_enter is_erase is_list = rw (is_enter, is_erase, is_list) refl

reopened : (opened : Bool) (before : List ℕ) → wants_more (reopened_step opened before).said.answer ≡ false
reopened true before = refl
reopened false before = refl

at_answer : (question : Question) (byte : ℕ) → wants_more (answer_step question byte).said.answer ≡ not (is_enter_key byte)
at_answer question byte = by (is_enter_key byte) (is_right question.password question.answer) refl refl
  where
    by : (enter right : Bool) → is_enter_key byte ≡ enter → is_right question.password question.answer ≡ right
        → wants_more (answer_step question byte).said.answer ≡ not (is_enter_key byte)
    by true true is_enter right = rw (is_enter, right) refl
    by true false is_enter right = rw (is_enter, right) (reopened question.opened (newline ++ codes "Sorry." ++ newline))
    by false right is_enter is_right = rw is_enter refl

at_quiet : (question : Question) → wants_more (quiet_step question).said.answer ≡ not (suc question.quiet == most_quiet_ticks)
at_quiet question = by (suc question.quiet == most_quiet_ticks) refl
  where
    by : (over : Bool) → (suc question.quiet == most_quiet_ticks) ≡ over → wants_more (quiet_step question).said.answer ≡ not (suc question.quiet == most_quiet_ticks)
    by true is = rw is (reopened question.opened newline)
    by false is = rw is refl

delayed : (setup : Setup) → wants_more (delayed_step setup).said.answer ≡ false
delayed setup =
    let chosen : Chosen = meant_or (default_choice setup true) (line_meant setup) in
    asked [] false chosen (password_of setup.entries chosen)

timed : (setup : Setup) (before : List ℕ) → wants_more (timed_step setup before).said.answer ≡ false
timed setup before = asked (before ++ newline) true (default_choice setup true) (password_of setup.entries (default_choice setup true))

pub more_law : MoreLaw
unfolding key_step
more_law setup (Delaying wait) (keys.Byte byte) = at_line setup prompt_text [] true byte
more_law setup (Timing wait) (keys.Byte byte) = at_line setup [] [] true byte
more_law setup (Typing text first) (keys.Byte byte) = at_line setup [] text first byte
more_law setup (Asking question) (keys.Byte byte) = at_answer question byte
more_law setup (Decided chosen) (keys.Byte byte) = refl
more_law setup Over (keys.Byte byte) = refl
more_law setup (Delaying wait) keys.Tick = by (nat_le wait 1) refl
  where
    by : (over : Bool) → nat_le wait 1 ≡ over → wants_more (key_step setup (Delaying wait) keys.Tick).said.answer ≡ not (nat_le wait 1)
    by true is = rw is (delayed setup)
    by false is = rw is refl
more_law setup (Timing wait) keys.Tick = by (nat_le wait 1) refl
  where
    by : (over : Bool) → nat_le wait 1 ≡ over → wants_more (key_step setup (Timing wait) keys.Tick).said.answer ≡ not (nat_le wait 1)
    by true is = rw is (timed setup [])
    by false is = rw is refl
more_law setup (Typing text first) keys.Tick = refl
more_law setup (Asking question) keys.Tick = at_quiet question
more_law setup (Decided chosen) keys.Tick = refl
more_law setup Over keys.Tick = refl
more_law setup (Delaying wait) keys.Silence = delayed setup
more_law setup (Timing wait) keys.Silence = timed setup []
more_law setup (Typing text first) keys.Silence = refl
more_law setup (Asking question) keys.Silence = reopened question.opened newline
more_law setup (Decided chosen) keys.Silence = refl
more_law setup Over keys.Silence = refl
