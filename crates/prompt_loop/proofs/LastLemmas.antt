-- The keys that a tale leaves are the last of those that the prompt was given.
use Rattle.std.proofs.Common.{◌≡◌, refl, sym, ap, subst, ℕ, zero, suc, Bool, true, false, List, [], ◌∷◌, ◌++◌, take, drop, Option, None, Some}
use Rattle.lilo_model.specs.Choice.{Setup}
use Rattle.lilo_model.specs.Prompt.{Key, AreLastKeys, ListedEntry}
use Rattle.lilo_model.specs.Reason.{Reason}
use Rattle.bios_model.specs.declared.key.Key.TheVariants as heard
use Rattle.prompt_core.specs.Run.{Mark, Shown, Opened, text_marks, with_names, first_prompt, Run, is_done, said_marks, heard_key, silenced, driven, run_of}
use Rattle.prompt_core.specs.Steps.{State, Said, key_step, start_step}
use Rattle.section_loader.specs.Reading.{FileRest}
use Rattle.prompt_loop.specs.Tale.{Tale, message_tale, marks_tale, tale_of}
use Rattle.prompt_loop.proofs.TaleLemmas.{marks_both, text_tale, run_tale}

-- all keys are the last of them
pub all_last : (keys : List Key) → AreLastKeys keys keys
all_last keys = record { taken = []; joined = refl }

-- a text leaves the keys that the tale after it leaves
text_left : (message : FileRest) (text : List ℕ) (tale : Tale) → (marks_tale message (text_marks text) tale).left ≡ tale.left
text_left message text tale = ap (λ t. t.left) (text_tale message text tale)

-- so do the keys that were left where the message lies, where it is refused
opened_last : (bytes : List ℕ) (stop : Option Reason) (left : List Key) (tale : Tale) → AreLastKeys left tale.left
    → AreLastKeys left (message_tale bytes stop left tale).left
opened_last bytes None left tale last = last
opened_last bytes (Some why) left tale last = all_last left

-- so are those after what is said
pub said_last : (message : FileRest) (entries : List ListedEntry) (left : List Key) (said : Said) (tale : Tale) → AreLastKeys left tale.left
    → AreLastKeys left (marks_tale message (said_marks entries left said) tale).left
said_last message entries left said tale last = by said.opened refl
  where
    after_text : (text : List ℕ) (tale : Tale) → AreLastKeys left tale.left → AreLastKeys left (marks_tale message (text_marks text) tale).left
    after_text text tale last = subst (λ keys. AreLastKeys left keys) (sym (text_left message text tale)) last

    by : (opened : Bool) → said.opened ≡ opened → AreLastKeys left (marks_tale message (said_marks entries left said) tale).left
    by false is = rw is (after_text (with_names entries said.answer said.show) tale last)
    by true is =
        let one : List ℕ = take (first_prompt said.show) said.show in
        let two : List ℕ = with_names entries said.answer (drop (first_prompt said.show) said.show) in
        let rest : Tale = marks_tale message (text_marks two) tale in
        let opened : Tale = message_tale message.bytes message.stop left rest in
        rw is
        (subst (λ t. AreLastKeys left t.left) (sym (marks_both message (text_marks one) (Opened left ∷ text_marks two) tale))
        (after_text one opened (opened_last message.bytes message.stop left rest (after_text two tale last))))

silenced_last : (message : FileRest) (setup : Setup) (most : ℕ) (state : State) → AreLastKeys [] (tale_of message (silenced setup most state)).left
silenced_last message setup zero state = all_last []
silenced_last message setup (suc most) state =
    by (is_done state) refl (silenced_last message setup most (key_step setup state heard.Silence).state)
  where
    said : Said
    said = (key_step setup state heard.Silence).said

    next : Run
    next = silenced setup most (key_step setup state heard.Silence).state

    by : (done : Bool) → is_done state ≡ done → AreLastKeys [] (tale_of message next).left
        → AreLastKeys [] (tale_of message (silenced setup (suc most) state)).left
    by true is rest = rw is (all_last [])
    by false is rest =
        rw is
        (subst (λ t. AreLastKeys [] t.left) (sym (run_tale message (said_marks setup.entries [] said) next))
        (said_last message setup.entries [] said (tale_of message next) rest))

-- the keys that are left, from a state on
pub driven_last : (message : FileRest) (setup : Setup) (left : List Key) (state : State) → AreLastKeys left (tale_of message (driven setup left state)).left
driven_last message setup [] state = silenced_last message setup 3 state
driven_last message setup (key ∷ left) state =
    by (is_done state) refl (driven_last message setup left (key_step setup state (heard_key key)).state)
  where
    said : Said
    said = (key_step setup state (heard_key key)).said

    next : Run
    next = driven setup left (key_step setup state (heard_key key)).state

    by : (done : Bool) → is_done state ≡ done → AreLastKeys left (tale_of message next).left
        → AreLastKeys (key ∷ left) (tale_of message (driven setup (key ∷ left) state)).left
    by true is rest = rw is (all_last (key ∷ left))
    by false is rest =
        let last = said_last message setup.entries left said (tale_of message next) rest in
        rw is
        (subst (λ t. AreLastKeys (key ∷ left) t.left) (sym (run_tale message (said_marks setup.entries left said) next))
        (record { taken = key ∷ last.taken; joined = ap (λ keys. key ∷ keys) last.joined }))

-- the same from the start on
pub run_last : (message : FileRest) (setup : Setup) (keys : List Key) → AreLastKeys keys (tale_of message (run_of setup keys)).left
unfolding run_of
run_last message setup keys =
    let said : Said = (start_step setup).said in
    let next : Run = driven setup keys (start_step setup).state in
    subst (λ t. AreLastKeys keys t.left) (sym (run_tale message (said_marks setup.entries keys said) next))
    (said_last message setup.entries keys said (tale_of message next) (driven_last message setup keys (start_step setup).state))
