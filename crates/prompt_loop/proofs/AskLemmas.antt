-- How asking goes on, key by key.
use Rattle.std.proofs.Common.{◌≡◌, ◌∙◌, refl, sym, ap, subst, ℕ, true, false, List, [], ◌∷◌, ◌++◌, append_assoc, Option, None, Some, Result, Ok, Err, ◌≤◌, arith}
use Rattle.std.specs.Prelude.{IsTrue}
use Rattle.lilo_model.specs.Faults.{Rose}
use Rattle.lilo_model.specs.Prompt.{Key, Byte, Tick, AreLastKeys}
use Rattle.lilo_model.specs.Choice.{Setup}
use Rattle.stream_trait.specs.declared.source.Source.{Ghosts}
use Rattle.stream_trait.specs.Shows.{SinkState, Shows}
use Rattle.stream_trait.proofs.ShowsLemmas.{shows_nothing, shows_join}
use Rattle.bios_model.specs.declared.bios.BiosFault.{BiosFault}
use Rattle.bios_model.specs.declared.key.Key as heard
use Rattle.bios_model.specs.declared.key.Key.TheVariants as keys
use Rattle.bios_model.specs.Keys.{keys_in, GivesKey, MayBe, MayLeave}
use Rattle.prompt_core.specs.Steps.{State, key_step, start_step}
use Rattle.prompt_core.specs.Run.{is_done, said_marks, driven, run_of}
use Rattle.section_loader.specs.Reading.{FileRest}
use Rattle.section_loader.specs.declared.reason.Halt.{Halt}
use Rattle.section_loader.specs.declared.reason.Halt.TheVariants.{Device, Refused}
use Rattle.prompt_loop.specs.declared.asking.Stop.{Stop}
use Rattle.prompt_loop.specs.declared.asking.Stop.TheVariants as stops
use Rattle.prompt_loop.specs.Message.{ShowsPrefix}
use Rattle.prompt_loop.specs.Tale.{Tale, tale_behind, marks_tale, tale_of, Says}
use Rattle.prompt_loop.specs.Asking.{Comes, ComesBy, ComesInSilence}
use Rattle.prompt_loop.proofs.TaleLemmas.{behind_behind, run_tale}
use Rattle.prompt_loop.proofs.LastLemmas.{said_last, driven_last}
use Rattle.prompt_loop.proofs.SilenceLemmas.{silence_first}

-- ---- keys

-- a key that was heard, before those that are left
abbrev pub before : heard.Key → List Key → List Key
before (keys.Byte byte) left = Byte byte ∷ left
before keys.Tick left = Tick ∷ left
before keys.Silence left = left

told_before :
    (old new : Option (List Key)) (key : heard.Key) (left : List Key) → (key ≡ keys.Silence → ⊥)
    → GivesKey old (Ok key) new → MayBe new left → MayBe old (before key left)
told_before None new key left some gives may = tt
told_before (Some told) new (keys.Byte byte) left some (after, was, is) may =
    let same : left ≡ after = rw is at may in rw same (sym was)
told_before (Some told) new keys.Tick left some (after, was, is) may =
    let same : left ≡ after = rw is at may in rw same (sym was)
told_before (Some told) new keys.Silence left some gives may = absurd (some refl)

-- what a source may leave after a key, it may leave with the key before it
pub may_before :
    {I : Type 0} (i : Ghosts I) (old new : I) (key : heard.Key) → (key ≡ keys.Silence → ⊥)
    → GivesKey (keys_in i old) (Ok key) (keys_in i new)
    → (IsTrue (i.ended old) → let given : Result heard.Key BiosFault = Ok key in given ≡ Ok keys.Silence)
    → (left : List Key) → MayLeave i new left → MayLeave i old (before key left)
may_before i old new key some gives stays left may = record {
  told = told_before (keys_in i old) (keys_in i new) key left some gives may.told;
  ended = λ end. absurd (some (let same = stays end in cc));
}

told_silence :
    (old new : Option (List Key)) → GivesKey old (Ok keys.Silence) new → MayBe old []
told_silence None new gives = tt
told_silence (Some told) new (after, was, is) = sym was.0

-- at silence it leaves no key
pub may_silence :
    {I : Type 0} (i : Ghosts I) (old new : I) → GivesKey (keys_in i old) (Ok keys.Silence) (keys_in i new) → MayLeave i old []
may_silence i old new gives = record { told = told_silence (keys_in i old) (keys_in i new) gives; ended = λ end. refl }

told_failed :
    (old new : Option (List Key)) (fault : BiosFault) (left : List Key) → GivesKey old (Err fault) new → MayBe new left → MayBe old left
told_failed None new fault left gives may = tt
told_failed (Some told) new fault left gives may = rw gives at may

-- ---- what asking comes to, after a text

prefix_behind : (text tale : List ℕ) (a b c : SinkState) → Shows a text b → ShowsPrefix b tale c → ShowsPrefix a (text ++ tale) c
prefix_behind text tale a b c first second = record {
  prefix = text ++ second.prefix;
  rest = second.rest;
  joined = ap (λ t. text ++ t) second.joined ∙ sym (append_assoc text second.prefix second.rest);
  shown = shows_join a b c text second.prefix first second.shown;
}

pub comes_behind :
    (result : Result (Unit {0}) Stop) (text : List ℕ) (tale : Tale) (state : State) (left : List Key) (a b c : SinkState)
    → Shows a text b → Comes result tale state left b c → Comes result (tale_behind text tale) state left a c
comes_behind (Ok done) text tale state left a b c first comes = (comes.0, comes.1, shows_join a b c text tale.shown first comes.2)
comes_behind (Err stops.Keys) text tale state left a b c first comes = (comes.0, prefix_behind text tale.shown a b c first comes.1)
comes_behind (Err (stops.Halt Device)) text tale state left a b c first comes = (comes.0, prefix_behind text tale.shown a b c first comes.1)
comes_behind (Err (stops.Halt (Refused reason))) text tale state left a b c first comes =
    (comes.0, comes.1, shows_join a b c text tale.shown first comes.2)

comes_same :
    (result : Result (Unit {0}) Stop) (tale other : Tale) (state : State) (left : List Key) (a b : SinkState)
    → tale ≡ other → Comes result other state left a b → Comes result tale state left a b
comes_same result tale other state left a b same comes = subst (λ t. Comes result t state left a b) (sym same) comes

-- ---- what was shown so far

-- Asking went on from a state to another: whichever keys the source leaves now, what it left before comes to the tale of
-- these after the text that was shown.
pub record Goes {I : Type 0} (i : Ghosts I) (message : FileRest) (tale : List Key → Tale) (setup : Setup) (state : State) (old new : I) (a b : SinkState) : Type 0 where
  pub text : List ℕ
  pub shows : Shows a text b
  pub goes :
      (left : List Key) → MayLeave i new left
      → (all : List Key) × MayLeave i old all × (tale all ≡ tale_behind text (tale_of message (driven setup left state)))

pub goes_begin :
    {I : Type 0} (i : Ghosts I) (message : FileRest) (setup : Setup) (state : State) (keys : I) (a : SinkState)
    → Goes i message (λ keys. tale_of message (driven setup keys state)) setup state keys keys a a
goes_begin i message setup state keys a = record {
  text = [];
  shows = shows_nothing a;
  goes = λ left may. (left, may, refl);
}

-- a key, and what comes of those after it
key_first :
    (message : FileRest) (setup : Setup) (state : State) (key : heard.Key) (left : List Key)
    → is_done state ≡ false → (key ≡ keys.Silence → ⊥)
    → tale_of message (driven setup (before key left) state)
    ≡ marks_tale message (said_marks setup.entries left (key_step setup state key).said) (tale_of message (driven setup left (key_step setup state key).state))
key_first message setup state (keys.Byte byte) left waits some =
    rw waits (run_tale message (said_marks setup.entries left (key_step setup state (keys.Byte byte)).said) (driven setup left (key_step setup state (keys.Byte byte)).state))
key_first message setup state keys.Tick left waits some =
    rw waits (run_tale message (said_marks setup.entries left (key_step setup state keys.Tick).said) (driven setup left (key_step setup state keys.Tick).state))
key_first message setup state keys.Silence left waits some = absurd (some refl)

-- one key more was taken, and its answer shown
pub goes_on :
    {I : Type 0} (i : Ghosts I) (message : FileRest) (tale : List Key → Tale) (setup : Setup) (state : State) (key : heard.Key) (old mid new : I) (a b c : SinkState)
    → Goes i message tale setup state old mid a b → is_done state ≡ false → (key ≡ keys.Silence → ⊥)
    → GivesKey (keys_in i mid) (Ok key) (keys_in i new)
    → (IsTrue (i.ended mid) → let given : Result heard.Key BiosFault = Ok key in given ≡ Ok keys.Silence)
    → Says (Ok tt) message setup.entries (key_step setup state key).said b c
    → Goes i message tale setup (key_step setup state key).state old new a c
goes_on i message tale setup state key old mid new a b c far waits some gives stays says = record {
  text = far.text ++ says.text;
  shows = shows_join a b c far.text says.text far.shows says.shows;
  goes = λ left may.
      let (all, may_all, same) = far.goes (before key left) (may_before i mid new key some gives stays left may) in
      let rest : Tale = tale_of message (driven setup left (key_step setup state key).state) in (
        all,
        may_all,
        same
            ∙ ap (λ t. tale_behind far.text t) (key_first message setup state key left waits some ∙ says.says left rest)
            ∙ behind_behind far.text says.text rest,
      );
}

-- ---- the end

ended_tale : (message : FileRest) (setup : Setup) (state : State) (left : List Key) (a : SinkState) → is_done state ≡ true
    → Comes (Ok tt) (tale_of message (driven setup left state)) state left a a
ended_tale message setup state [] a done = rw done (refl, refl, shows_nothing a)
ended_tale message setup state (key ∷ left) a done = rw done (refl, refl, shows_nothing a)

-- the prompt is done
pub comes_done :
    {I : Type 0} (i : Ghosts I) (message : FileRest) (tale : List Key → Tale) (setup : Setup) (state : State) (old new : I) (a b : SinkState)
    → Goes i message tale setup state old new a b → is_done state ≡ true → ComesBy i (Ok tt) tale state (old, new) a b
comes_done i message tale setup state old new a b far done left may =
    let (all, may_all, same) = far.goes left may in
    let rest : Tale = tale_of message (driven setup left state) in (
      all,
      may_all,
      comes_same (Ok tt) (tale all) (tale_behind far.text rest) state left a b same
          (comes_behind (Ok tt) far.text rest state left a b b far.shows (ended_tale message setup state left b done)),
    )

-- the source failed
pub comes_unheard :
    {I : Type 0} (i : Ghosts I) (message : FileRest) (tale : List Key → Tale) (setup : Setup) (state : State) (fault : BiosFault) (old mid new : I) (a b : SinkState)
    → Goes i message tale setup state old mid a b → GivesKey (keys_in i mid) (Err fault) (keys_in i new)
    → (IsTrue (i.ended mid) → let given : Result heard.Key BiosFault = Err fault in given ≡ Ok keys.Silence)
    → ComesBy i (Err stops.Keys) tale state (old, new) a b
comes_unheard i message tale setup state fault old mid new a b far gives stays left may =
    let here : MayLeave i mid left = record {
      told = told_failed (keys_in i mid) (keys_in i new) fault left gives may.told;
      ended = λ end. absurd (let same = stays end in cc);
    } in
    let (all, may_all, same) = far.goes left here in
    let rest : Tale = tale_of message (driven setup left state) in
    let last : AreLastKeys left (tale all).left =
    subst (λ t. AreLastKeys left t.left) (sym same) (driven_last message setup left state) in
    (all, may_all, (last, record { prefix = far.text; rest = rest.shown; joined = ap (λ t. t.shown) same; shown = far.shows }))

-- an answer wasn't shown whole
says_comes :
    (halt : Halt) (message : FileRest) (setup : Setup) (state : State) (left : List Key) (said : Tale → Tale) (tale : Tale) (a b : SinkState)
    → (key : heard.Key) → (marks_tale message (said_marks setup.entries left (key_step setup state key).said) tale ≡ said tale)
    → AreLastKeys left tale.left → Says (Err halt) message setup.entries (key_step setup state key).said a b
    → Comes (Err (stops.Halt halt)) (marks_tale message (said_marks setup.entries left (key_step setup state key).said) tale) (key_step setup state key).state left a b
says_comes Device message setup state left said tale a b key same last says =
    let (rest, joined) = says.says left tale in
    let is = said_last message setup.entries left (key_step setup state key).said tale last in
    (is, record { prefix = says.text; rest = rest; joined = joined; shown = says.shows })
says_comes (Refused reason) message setup state left said tale a b key same last says =
    rw (says.says left tale) (refl, refl, says.shows)

pub comes_halted :
    {I : Type 0} (i : Ghosts I) (message : FileRest) (tale : List Key → Tale) (setup : Setup) (state : State) (key : heard.Key) (halt : Halt) (old mid new : I) (a b c : SinkState)
    → Goes i message tale setup state old mid a b → is_done state ≡ false → (key ≡ keys.Silence → ⊥)
    → GivesKey (keys_in i mid) (Ok key) (keys_in i new)
    → (IsTrue (i.ended mid) → let given : Result heard.Key BiosFault = Ok key in given ≡ Ok keys.Silence)
    → Says (Err halt) message setup.entries (key_step setup state key).said b c
    → ComesBy i (Err (stops.Halt halt)) tale (key_step setup state key).state (old, new) a c
comes_halted i message tale setup state key halt old mid new a b c far waits some gives stays says left may =
    let (all, may_all, same) = far.goes (before key left) (may_before i mid new key some gives stays left may) in
    let rest : Tale = tale_of message (driven setup left (key_step setup state key).state) in
    let marks : Tale = marks_tale message (said_marks setup.entries left (key_step setup state key).said) rest in
    let next : State = (key_step setup state key).state in (
      all,
      may_all,
      comes_same (Err (stops.Halt halt)) (tale all) (tale_behind far.text marks) next left a c
          (same ∙ ap (λ t. tale_behind far.text t) (key_first message setup state key left waits some))
          (comes_behind (Err (stops.Halt halt)) far.text marks next left a b c far.shows (says_comes halt message setup state left (λ t. marks) rest b c key refl (driven_last message setup left next) says)),
    )

-- silence, from which on no key is taken
pub comes_silent :
    {I : Type 0} (i : Ghosts I) (message : FileRest) (tale : List Key → Tale) (setup : Setup) (state next : State) (result : Result (Unit {0}) Stop) (old mid new : I) (a b c : SinkState)
    → Goes i message tale setup state old mid a b
    → GivesKey (keys_in i mid) (Ok keys.Silence) (keys_in i new) → IsTrue (i.ended new)
    → ComesInSilence result (tale_of message (driven setup [] state)) next b c
    → ComesBy i result tale next (old, new) a c
comes_silent i message tale setup state next result old mid new a b c far gives ended comes left may =
    let none : left ≡ [] = may.ended ended in
    let (all, may_all, same) = far.goes [] (may_silence i mid new gives) in
    let rest : Tale = tale_of message (driven setup [] state) in (
      all,
      may_all,
      rw none
          (comes_same result (tale all) (tale_behind far.text rest) next [] a c same
          (comes_behind result far.text rest next [] a b c far.shows comes)),
    )

-- ---- silence

-- what was shown so far in silence
pub record GoesSilent (message : FileRest) (tale : Tale) (setup : Setup) (state : State) (a b : SinkState) : Type 0 where
  pub text : List ℕ
  pub shows : Shows a text b
  pub goes : tale ≡ tale_behind text (tale_of message (driven setup [] state))

pub silent_begin :
    (message : FileRest) (setup : Setup) (state : State) (a : SinkState)
    → GoesSilent message (tale_of message (driven setup [] state)) setup state a a
silent_begin message setup state a = record { text = []; shows = shows_nothing a; goes = refl }

silence_tale :
    (message : FileRest) (setup : Setup) (state : State) → is_done state ≡ false
    → tale_of message (driven setup [] state)
    ≡ marks_tale message (said_marks setup.entries [] (key_step setup state keys.Silence).said) (tale_of message (driven setup [] (key_step setup state keys.Silence).state))
silence_tale message setup state waits =
    ap (λ run. tale_of message run) (silence_first setup state waits)
    ∙ run_tale message (said_marks setup.entries [] (key_step setup state keys.Silence).said) (driven setup [] (key_step setup state keys.Silence).state)

pub silent_on :
    (message : FileRest) (tale : Tale) (setup : Setup) (state : State) (a b c : SinkState)
    → GoesSilent message tale setup state a b → is_done state ≡ false
    → Says (Ok tt) message setup.entries (key_step setup state keys.Silence).said b c
    → GoesSilent message tale setup (key_step setup state keys.Silence).state a c
silent_on message tale setup state a b c far waits says =
    let rest : Tale = tale_of message (driven setup [] (key_step setup state keys.Silence).state) in
    record {
      text = far.text ++ says.text;
      shows = shows_join a b c far.text says.text far.shows says.shows;
      goes = far.goes ∙ ap (λ t. tale_behind far.text t) (silence_tale message setup state waits ∙ says.says [] rest) ∙ behind_behind far.text says.text rest;
    }

pub silent_done :
    (message : FileRest) (tale : Tale) (setup : Setup) (state : State) (a b : SinkState)
    → GoesSilent message tale setup state a b → is_done state ≡ true → ComesInSilence (Ok tt) tale state a b
silent_done message tale setup state a b far done =
    let rest : Tale = tale_of message (driven setup [] state) in
    comes_same (Ok tt) tale (tale_behind far.text rest) state [] a b far.goes
    (comes_behind (Ok tt) far.text rest state [] a b b far.shows (ended_tale message setup state [] b done))

pub silent_halted :
    (message : FileRest) (tale : Tale) (setup : Setup) (state : State) (halt : Halt) (a b c : SinkState)
    → GoesSilent message tale setup state a b → is_done state ≡ false
    → Says (Err halt) message setup.entries (key_step setup state keys.Silence).said b c
    → ComesInSilence (Err (stops.Halt halt)) tale (key_step setup state keys.Silence).state a c
silent_halted message tale setup state halt a b c far waits says =
    let next : State = (key_step setup state keys.Silence).state in
    let rest : Tale = tale_of message (driven setup [] next) in
    let marks : Tale = marks_tale message (said_marks setup.entries [] (key_step setup state keys.Silence).said) rest in
    comes_same (Err (stops.Halt halt)) tale (tale_behind far.text marks) next [] a c
    (far.goes ∙ ap (λ t. tale_behind far.text t) (silence_tale message setup state waits))
    (comes_behind (Err (stops.Halt halt)) far.text marks next [] a b c far.shows (says_comes halt message setup state [] (λ t. marks) rest b c keys.Silence refl (driven_last message setup [] next) says))

-- ---- the start

-- what comes of the start, after what it shows
pub started_comes :
    {I : Type 0} (i : Ghosts I) (message : FileRest) (setup : Setup) (state : State) (result : Result (Unit {0}) Stop) (old new : I) (a b c : SinkState)
    → Says (Ok tt) message setup.entries (start_step setup).said a b
    → ComesBy i result (λ keys. tale_of message (driven setup keys (start_step setup).state)) state (old, new) b c
    → ComesBy i result (λ keys. tale_of message (run_of setup keys)) state (old, new) a c
unfolding run_of
started_comes i message setup state result old new a b c says comes left may =
    let (all, may_all, rest) = comes left may in
    let behind : Tale = tale_of message (driven setup all (start_step setup).state) in (
      all,
      may_all,
      comes_same result (tale_of message (run_of setup all)) (tale_behind says.text behind) state left a c
          (run_tale message (said_marks setup.entries all (start_step setup).said) (driven setup all (start_step setup).state) ∙ says.says all behind)
          (comes_behind result says.text behind state left a b c says.shows rest),
    )

start_comes :
    (halt : Halt) (message : FileRest) (setup : Setup) (state : State) (left : List Key) (tale : Tale) (a b : SinkState)
    → AreLastKeys left tale.left → Says (Err halt) message setup.entries (start_step setup).said a b
    → Comes (Err (stops.Halt halt)) (marks_tale message (said_marks setup.entries left (start_step setup).said) tale) state left a b
start_comes Device message setup state left tale a b last says =
    let (rest, joined) = says.says left tale in
    let is = said_last message setup.entries left (start_step setup).said tale last in
    (is, record { prefix = says.text; rest = rest; joined = joined; shown = says.shows })
start_comes (Refused reason) message setup state left tale a b last says = rw (says.says left tale) (refl, refl, says.shows)

pub started_halted :
    {I : Type 0} (i : Ghosts I) (message : FileRest) (setup : Setup) (state : State) (halt : Halt) (keys : I) (a b : SinkState)
    → Says (Err halt) message setup.entries (start_step setup).said a b
    → ComesBy i (Err (stops.Halt halt)) (λ keys. tale_of message (run_of setup keys)) state (keys, keys) a b
unfolding run_of
started_halted i message setup state halt keys a b says left may =
    let behind : Tale = tale_of message (driven setup left (start_step setup).state) in (
      left,
      may,
      comes_same (Err (stops.Halt halt)) (tale_of message (run_of setup left)) (marks_tale message (said_marks setup.entries left (start_step setup).said) behind) state left a b
          (run_tale message (said_marks setup.entries left (start_step setup).said) (driven setup left (start_step setup).state))
          (start_comes halt message setup state left behind a b (driven_last message setup left (start_step setup).state) says),
    )

-- ---- what failed

-- an answer that ended as a disk failed
pub lost_halt : (halt : Halt) → (let result : Result (Unit {0}) Stop = Err (stops.Halt halt) in result ≡ Err (stops.Halt Device)) → halt ≡ Device
lost_halt Device same = refl
lost_halt (Refused reason) same = cc

-- is counted
pub lost_counted :
    (halt : Halt) (a b c : ℕ) → a ≤ b → (halt ≡ Device → Rose b c) → b ≤ c
    → (let result : Result (Unit {0}) Stop = Err (stops.Halt halt) in result ≡ Err (stops.Halt Device)) → Rose a c
lost_counted halt a b c before counts later lost =
    let rose = counts (lost_halt halt lost) in λ below. omega (arith, rose)
