-- What is reported of a prompt, by what asking came to.
use Rattle.std.proofs.Common.{◌≡◌, inl, inr, ◌∙◌, ℕ, refl, sym, ap, subst, List, [], ◌∷◌, ◌++◌, map, append-nil, Option, None, Some, option_map, Result, Ok, Err}
use Rattle.std.specs.Prelude.{codes}
use Rattle.std.proofs.lemmas.List.{map-id}
use Rattle.std.proofs.lemmas.Simd.{map-map}
use Rattle.lilo_model.specs.Disks.{Image, Machine}
use Rattle.lilo_model.specs.BootSector.{BootSector}
use Rattle.lilo_model.specs.Slots as slots
use Rattle.lilo_model.specs.Prompt.{Key, AreLastKeys, Decision, Opening}
use Rattle.lilo_model.specs.Place.{Memory}
use Rattle.lilo_model.specs.Boot.{GoodMap, error_text, settings_of, listed_entries, opening_at}
use Rattle.lilo_model.specs.Reason as reasons
use Rattle.prompt_core.specs.Decided.{plain_setup, picked_by, line_behind}
use Rattle.prompt_core.specs.Run.{chosen_in, run_of}
use Rattle.prompt_core.specs.Steps.{Chosen, State}
use Rattle.prompt_loop.specs.declared.asking.Stop.{Stop}
use Rattle.prompt_loop.specs.declared.asking.Stop.TheVariants as stops
use Rattle.prompt_loop.specs.Asking.{Comes}
use Rattle.prompt_loop.specs.Laws.{ComesTo}
use Rattle.prompt_loop.specs.Message.{ShowsPrefix}
use Rattle.prompt_loop.specs.Tale.{Tale, tale_of}
use Rattle.prompt_loop.proofs.LastLemmas.{all_last, run_last}
use Rattle.prompt_loop.proofs.LawLemmas.{ask_law}
use Rattle.section_loader.specs.declared.reason.Reason.{Reason}
use Rattle.section_loader.specs.declared.reason.Halt.{Halt}
use Rattle.section_loader.specs.declared.reason.Halt.TheVariants.{Device, Refused}
use Rattle.section_loader.specs.Reading.{FileRest}
use Rattle.section_loader.specs.View.{reason_view}
use Rattle.stream_trait.specs.Shows.{SinkState, Shows, ShowsOne}
use Rattle.stream_trait.proofs.ShowsLemmas.{shows_join, shows_one_join, shows_same}
use Rattle.disk_trait.specs.declared.disks.Disks.{Ghosts}
use Rattle.disk_trait.specs.declared.disks.Phase.{Phase}
use Rattle.disk_trait.specs.declared.disks.Phase.TheVariants.{Before}
use Rattle.disk_trait.specs.Calls.{SameOf}
use Rattle.loader_core.specs.declared.outcome.Started.{Started}
use Rattle.lilo_model.specs.Faults.{Rose}
use Rattle.loader_core.specs.Leaves.{Leaves}
use Rattle.loader_core.proofs.LeavesLemmas.{read_leaves}
use Rattle.loader_core.specs.Start.{Reports, Went, unasked, stop_text}
use Rattle.loader_core.specs.Report.{Report, prefixes, asking_report, refused_report, decided_report, message_read, prompt_report, asked_report, decision_read}

-- ---- a prefix that was shown

-- a text among others
one_among :
    (f : List ℕ → List ℕ) (text : List ℕ) (more : List (List ℕ)) (a c : SinkState) → Shows a (f []) c
    → ShowsOne a (map f (prefixes text) ++ more) c
one_among f [] more a c shown = inl shown
one_among f (byte ∷ text) more a c shown = inl shown

-- a prefix of a text, as these texts have it
pub prefix_among :
    (f : List ℕ → List ℕ) (front rest : List ℕ) (more : List (List ℕ)) (a c : SinkState) → Shows a (f front) c
    → ShowsOne a (map f (prefixes (front ++ rest)) ++ more) c
prefix_among f [] rest more a c shown = one_among f rest more a c shown
prefix_among f (byte ∷ front) rest more a c shown =
    let fused = map-map f (λ t. byte ∷ t) (prefixes (front ++ rest)) in
    inr (subst (λ texts. ShowsOne a (texts ++ more) c) (sym fused) (prefix_among (λ t. f (byte ∷ t)) front rest more a c shown))

one_of_more : (texts more : List (List ℕ)) (a c : SinkState) → ShowsOne a more c → ShowsOne a (texts ++ more) c
one_of_more [] more a c one = one
one_of_more (text ∷ texts) more a c one = inr (one_of_more texts more a c one)

-- ---- what comes after a prompt

-- what was chosen was started, or not
pub asked_chosen :
    (text : List ℕ) (left : List Key) (report : Report) (result : Result Started Halt) (m : Memory) (ram : List ℕ) (a b c : SinkState)
    → Shows a text b → Reports report result m ram b c
    → Went (unasked result) (asking_report text left report) m ram left a c
asked_chosen text left report (Ok started) m ram a b c first second =
    (refl, record { starts = second.starts; shows = shows_join a b c text report.shown first second.shows })
asked_chosen text left report (Err Device) m ram a b c first second =
    let lost = map (λ front. front ++ codes "Error 80\n") (prefixes text) in (
      all_last left,
      record {
        starts = tt;
        shows = one_of_more lost (map (λ shown. text ++ shown) report.device) a c (shows_one_join a b c text report.device first second.shows);
      },
    )
asked_chosen text left report (Err (Refused reason)) m ram a b c first second =
    (refl, record { starts = second.starts; shows = shows_join a b c text report.shown first second.shows })

-- the message is refused
asked_refused :
    (text : List ℕ) (left : List Key) (why : reasons.Reason) (reason : Reason) (m : Memory) (ram : List ℕ) (a b c : SinkState)
    → reason_view reason ≡ why → Shows a text b → Shows b (error_text (reason_view reason)) c
    → Went (Err (stops.Halt (Refused reason))) (asking_report text left (refused_report (error_text why) why [])) m ram left a c
asked_refused text left why reason m ram a b c is first second =
    (refl, record { starts = ap (λ w. Err w) (sym is); shows = shows_join a b c text (error_text why) first (subst (λ w. Shows b (error_text w) c) is second) })

-- a disk failed
asked_lost :
    (text : List ℕ) (left left' : List Key) (report : Report) (m : Memory) (ram : List ℕ) (a b c : SinkState)
    → AreLastKeys left' left → ShowsPrefix a text b → Shows b (codes "Error 80\n") c
    → Went (Err (stops.Halt Device)) (asking_report text left report) m ram left' a c
asked_lost text left left' report m ram a b c last first second =
    let joined = shows_join a b c first.prefix (codes "Error 80\n") first.shown second in (
      last,
      record {
        starts = tt;
        shows =
            subst (λ t. ShowsOne a (map (λ front. front ++ codes "Error 80\n") (prefixes t) ++ map (λ shown. text ++ shown) report.device) c) (sym first.joined)
            (prefix_among (λ front. front ++ codes "Error 80\n") first.prefix first.rest (map (λ shown. text ++ shown) report.device) a c joined);
      },
    )

-- the source of keys failed
asked_unheard :
    (text : List ℕ) (left left' : List Key) (report : Report) (m : Memory) (ram : List ℕ) (a b c : SinkState)
    → AreLastKeys left' left → ShowsPrefix a text b → Shows b [] c
    → Went (Err stops.Keys) (asking_report text left report) m ram left' a c
asked_unheard text left left' report m ram a b c last first second =
    let joined = shows_same a c (first.prefix ++ []) first.prefix (append-nil first.prefix) (shows_join a b c first.prefix [] first.shown second) in
    let among = prefix_among (λ front. front) first.prefix first.rest [] a c joined in
    let plain = append-nil (map (λ front. front) (prefixes (first.prefix ++ first.rest))) ∙ map-id (prefixes (first.prefix ++ first.rest)) in
    (last, subst (λ t. ShowsOne a (prefixes t) c) (sym first.joined) (subst (λ texts. ShowsOne a texts c) plain among))

-- ---- by the tale

-- a tale of a choice
tale_chosen :
    (image : Image) (machine : Machine) (slot : slots.Slot) (good : GoodMap) (memory : ℕ) (message : FileRest) (decision : Decision) (tale : Tale) (chosen : Option Chosen)
    (stop : Option reasons.Reason) (opens : Option Opening) → ComesTo (listed_entries image machine good) good.line message stop opens tale decision → tale.end ≡ Ok chosen
    → prompt_report image machine slot good memory message decision stop opens
    ≡ asking_report tale.shown tale.left
    (decided_report image machine slot good memory (line_behind (listed_entries image machine good) good.line chosen) (option_map picked_by chosen))
tale_chosen image machine slot good memory message decision tale chosen None opens comes is =
    let same : comes.chosen ≡ chosen = let both : Ok comes.chosen ≡ Ok chosen = sym comes.end ∙ is in cc in
    rw (comes.decided, same) refl
tale_chosen image machine slot good memory message decision tale chosen (Some why) None comes is =
    let same : comes.chosen ≡ chosen = let both : Ok comes.chosen ≡ Ok chosen = sym comes.end ∙ is in cc in
    rw (comes.decided, same) refl
tale_chosen image machine slot good memory message decision tale chosen (Some why) (Some opens) comes is =
    let both : Err why ≡ Ok chosen = sym (ap (λ t. t.end) comes) ∙ is in let h : ⊥ = cc in absurd h

-- a tale of a message that is refused
tale_stopped :
    (image : Image) (machine : Machine) (slot : slots.Slot) (good : GoodMap) (memory : ℕ) (message : FileRest) (decision : Decision) (tale : Tale) (why : reasons.Reason)
    (stop : Option reasons.Reason) (opens : Option Opening) → ComesTo (listed_entries image machine good) good.line message stop opens tale decision → tale.end ≡ Err why
    → prompt_report image machine slot good memory message decision stop opens ≡ asking_report tale.shown tale.left (refused_report (error_text why) why [])
tale_stopped image machine slot good memory message decision tale why None opens comes is =
    let both : Ok comes.chosen ≡ Err why = sym comes.end ∙ is in let h : ⊥ = cc in absurd h
tale_stopped image machine slot good memory message decision tale why (Some other) None comes is =
    let both : Ok comes.chosen ≡ Err why = sym comes.end ∙ is in let h : ⊥ = cc in absurd h
tale_stopped image machine slot good memory message decision tale why (Some other) (Some opens) comes is =
    let both : Err other ≡ Err why = sym (ap (λ t. t.end) comes) ∙ is in
    let same : other ≡ why = cc in
    rw (comes, same) refl

-- any tale
record IsAsking (report : Report) (text : List ℕ) (left : List Key) : Type 0 where
  pub behind : Report
  pub is : report ≡ asking_report text left behind

tale_any :
    (image : Image) (machine : Machine) (slot : slots.Slot) (good : GoodMap) (memory : ℕ) (message : FileRest) (decision : Decision) (tale : Tale)
    (stop : Option reasons.Reason) (opens : Option Opening) → ComesTo (listed_entries image machine good) good.line message stop opens tale decision
    → (end : Result (Option Chosen) reasons.Reason) → tale.end ≡ end
    → IsAsking (prompt_report image machine slot good memory message decision stop opens) tale.shown tale.left
tale_any image machine slot good memory message decision tale stop opens comes (Ok chosen) is =
    record { behind = decided_report image machine slot good memory (line_behind (listed_entries image machine good) good.line chosen) (option_map picked_by chosen); is = tale_chosen image machine slot good memory message decision tale chosen stop opens comes is }
tale_any image machine slot good memory message decision tale stop opens comes (Err why) is =
    record { behind = refused_report (error_text why) why []; is = tale_stopped image machine slot good memory message decision tale why stop opens comes is }

-- ---- what asking came to

-- the tale of these keys
abbrev pub asked_tale : Image → Machine → BootSector → GoodMap → List Key → Tale
asked_tale image machine boot good keys =
    tale_of (message_read image machine boot) (run_of (plain_setup (settings_of boot) (listed_entries image machine good) good.line) keys)

asked_law :
    (image : Image) (machine : Machine) (boot : BootSector) (good : GoodMap) (keys : List Key)
    → ComesTo (listed_entries image machine good) good.line (message_read image machine boot) (message_read image machine boot).stop
    (opening_at image machine boot good keys) (asked_tale image machine boot good keys) (decision_read image machine boot good keys)
unfolding opening_at decision_read
asked_law image machine boot good keys = ask_law (settings_of boot) (listed_entries image machine good) good.line (message_read image machine boot) keys

-- the keys that it leaves are the last of these
pub asked_last :
    (image : Image) (machine : Machine) (boot : BootSector) (good : GoodMap) (memory : ℕ) (keys : List Key)
    → AreLastKeys keys (asked_report image machine boot memory good keys).left
unfolding asked_report
asked_last image machine boot good memory keys =
    let tale = asked_tale image machine boot good keys in
    let message = message_read image machine boot in
    let any = tale_any image machine boot.line good memory message (decision_read image machine boot good keys) tale message.stop
    (opening_at image machine boot good keys) (asked_law image machine boot good keys) tale.end refl in
    rw any.is (run_last message (plain_setup (settings_of boot) (listed_entries image machine good) good.line) keys)

-- asking came to a choice, or to none
pub asked_ok :
    (image : Image) (machine : Machine) (boot : BootSector) (good : GoodMap) (memory : ℕ) (keys left : List Key) (state : State) (result : Result Started Halt) (m : Memory) (ram : List ℕ) (a b c : SinkState)
    → Comes (Ok tt) (asked_tale image machine boot good keys) state left a b
    → Reports (decided_report image machine boot.line good memory (line_behind (listed_entries image machine good) good.line (chosen_in state)) (option_map picked_by (chosen_in state))) result m ram b c
    → Went (unasked result) (asked_report image machine boot memory good keys) m ram left a c
unfolding asked_report
asked_ok image machine boot good memory keys left state result m ram a b c comes rest =
    let tale = asked_tale image machine boot good keys in
    let message = message_read image machine boot in
    let is = tale_chosen image machine boot.line good memory message (decision_read image machine boot good keys) tale (chosen_in state) message.stop
    (opening_at image machine boot good keys) (asked_law image machine boot good keys) comes.0 in
    rw (is, comes.1)
    (asked_chosen tale.shown left (decided_report image machine boot.line good memory (line_behind (listed_entries image machine good) good.line (chosen_in state)) (option_map picked_by (chosen_in state))) result m ram a b c comes.2 rest)

-- it was stopped
pub asked_err :
    (image : Image) (machine : Machine) (boot : BootSector) (good : GoodMap) (memory : ℕ) (keys left : List Key) (state : State) (stop : Stop) (m : Memory) (ram : List ℕ) (a b c : SinkState)
    → Comes (Err stop) (asked_tale image machine boot good keys) state left a b → Shows b (stop_text stop) c
    → Went (Err stop) (asked_report image machine boot memory good keys) m ram left a c
unfolding asked_report
asked_err image machine boot good memory keys left state stops.Keys m ram a b c comes shown =
    let tale = asked_tale image machine boot good keys in
    let message = message_read image machine boot in
    let any = tale_any image machine boot.line good memory message (decision_read image machine boot good keys) tale message.stop
    (opening_at image machine boot good keys) (asked_law image machine boot good keys) tale.end refl in
    rw any.is (asked_unheard tale.shown tale.left left any.behind m ram a b c comes.0 comes.1 shown)
asked_err image machine boot good memory keys left state (stops.Halt Device) m ram a b c comes shown =
    let tale = asked_tale image machine boot good keys in
    let message = message_read image machine boot in
    let any = tale_any image machine boot.line good memory message (decision_read image machine boot good keys) tale message.stop
    (opening_at image machine boot good keys) (asked_law image machine boot good keys) tale.end refl in
    rw any.is (asked_lost tale.shown tale.left left any.behind m ram a b c comes.0 comes.1 shown)
asked_err image machine boot good memory keys left state (stops.Halt (Refused reason)) m ram a b c comes shown =
    let tale = asked_tale image machine boot good keys in
    let message = message_read image machine boot in
    let why = reason_view reason in
    let is = tale_stopped image machine boot.line good memory message (decision_read image machine boot good keys) tale why message.stop
    (opening_at image machine boot good keys) (asked_law image machine boot good keys) comes.0 in
    rw (is, comes.1) (asked_refused tale.shown left why reason m ram a b c refl comes.2 shown)

-- ---- what is written of the default line

pub asked_write :
    (image : Image) (machine : Machine) (boot : BootSector) (good : GoodMap) (memory : ℕ) (keys left : List Key) (state : State) (a b : SinkState)
    → Comes (Ok tt) (asked_tale image machine boot good keys) state left a b
    → (asked_report image machine boot memory good keys).write
    ≡ (decided_report image machine boot.line good memory (line_behind (listed_entries image machine good) good.line (chosen_in state)) (option_map picked_by (chosen_in state))).write
unfolding asked_report
asked_write image machine boot good memory keys left state a b comes =
    let message = message_read image machine boot in
    ap (λ r. r.write)
    (tale_chosen image machine boot.line good memory message (decision_read image machine boot good keys) (asked_tale image machine boot good keys) (chosen_in state) message.stop
    (opening_at image machine boot good keys) (asked_law image machine boot good keys) comes.0)

pub asked_unwritten :
    (image : Image) (machine : Machine) (boot : BootSector) (good : GoodMap) (memory : ℕ) (keys left : List Key) (state : State) (reason : Reason) (a b : SinkState)
    → Comes (Err (stops.Halt (Refused reason))) (asked_tale image machine boot good keys) state left a b
    → (asked_report image machine boot memory good keys).write ≡ None
unfolding asked_report
asked_unwritten image machine boot good memory keys left state reason a b comes =
    let message = message_read image machine boot in
    ap (λ r. r.write)
    (tale_stopped image machine boot.line good memory message (decision_read image machine boot good keys) (asked_tale image machine boot good keys) (reason_view reason) message.stop
    (opening_at image machine boot good keys) (asked_law image machine boot good keys) comes.0)

-- what is left where asking was stopped
pub asked_leaves :
    {D : Type 0} (g : Ghosts D) (old new : D) (image : Image) (machine : Machine) (boot : BootSector) (good : GoodMap) (memory : ℕ) (keys left : List Key) (state : State) (stop : Stop) (phase : Phase) (a b : SinkState)
    → Comes (Err stop) (asked_tale image machine boot good keys) state left a b → SameOf g old new
    → (stop ≡ stops.Halt Device → Rose (g.faults old) (g.faults new)) → phase ≡ Before
    → Leaves g old new (asked_report image machine boot memory good keys).write (Err stop) phase
asked_leaves g old new image machine boot good memory keys left state stops.Keys phase a b comes same failed begins = same
asked_leaves g old new image machine boot good memory keys left state (stops.Halt Device) phase a b comes same failed begins =
    read_leaves g old new (asked_report image machine boot memory good keys).write Device phase same (λ is. failed refl) begins (λ reason is. let h : ⊥ = cc in absurd h)
asked_leaves g old new image machine boot good memory keys left state (stops.Halt (Refused reason)) phase a b comes same failed begins =
    read_leaves g old new (asked_report image machine boot memory good keys).write (Refused reason) phase same (λ is. let h : ⊥ = cc in absurd h) begins
    (λ other is. asked_unwritten image machine boot good memory keys left state reason a b comes)
