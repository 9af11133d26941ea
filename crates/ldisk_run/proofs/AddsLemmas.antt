-- Texts that are added one after the other, and commands.
use Rattle.std.proofs.Common.{◌≡◌, ◌≢◌, ◌==◌, ◌+◌, ◌≤◌, ◌-◌, ◌∙◌, ℕ, zero, suc, Bool, true, false, List, [], ◌++◌, Result, Ok, Err, IsErr, refl, sym, ap, subst, arith, append-nil, append_assoc, inl, inr}
use Rattle.std.proofs.lemmas.Bool.{eqb-true, ne_eqb}
use Rattle.stream_trait.proofs.ShowsLemmas.{shows_nothing, shows_join}
use Rattle.lilo_model.specs.Verdict.{Verdict, verdict_behind}
use Rattle.lilo_model.specs.LdiskVerdict.{silent, checked, piece_verdict, then_piece, printed}
use Rattle.ldisk_run.specs.Pieces.{Held, Adds, AddsFront}
use Rattle.ldisk_run.specs.Run.{Does, DoesAs, Halts, status_of}
use Rattle.ldisk_run.specs.declared.halt.Halt.{Halt}
use Rattle.ldisk_run.specs.declared.halt.Halt.TheVariants.{Device, Refused}

-- ---- texts

pub adds_nothing : (a : Held) → Adds a [] a
adds_nothing a = ([], shows_nothing a.sink, append-nil a.text)

pub adds_same : (a b : Held) (one other : List ℕ) → one ≡ other → Adds a one b → Adds a other b
adds_same a b one other same added = subst (λ text. Adds a text b) same added

pub adds_join : (a b c : Held) (one other : List ℕ) → Adds a one b → Adds b other c → Adds a (one ++ other) c
adds_join a b c one other (first, shown, is) (second, shown', is') = (
  first ++ second,
  shows_join a.sink b.sink c.sink first second shown shown',
  sym (append_assoc a.text one other) ∙ ap (λ l. l ++ other) is ∙ append_assoc first b.text other
      ∙ ap (λ l. first ++ l) is' ∙ sym (append_assoc first second c.text),
)

pub front_join : (a b c : Held) (one other : List ℕ) → Adds a one b → AddsFront b other c → AddsFront a (one ++ other) c
front_join a b c one other first (front, rest, is, second) = (
  one ++ front,
  rest,
  ap (λ l. one ++ l) is ∙ sym (append_assoc one front rest),
  adds_join a b c one front first second,
)

pub front_before : (a b : Held) (one other : List ℕ) → AddsFront a one b → AddsFront a (one ++ other) b
front_before a b one other (front, rest, is, added) =
    (front, rest ++ other, ap (λ l. l ++ other) is ∙ append_assoc front rest other, added)

pub front_nothing : (a : Held) (text : List ℕ) → AddsFront a text a
front_nothing a text = ([], text, refl, adds_nothing a)

-- ---- verdicts

alike : (v w : Verdict) → v.status ≡ w.status → v.text ≡ w.text → v ≡ w
alike v w status text = rw (status, text) refl

-- a piece after others of which none was refused
pub piece_behind :
    {F : Type 0} (before : Verdict) (piece : Result (List ℕ) F) → before.status ≡ 0
    → then_piece before piece ≡ verdict_behind before.text (piece_verdict piece)
unfolding then_piece
piece_behind before piece fine = rw fine refl

-- .. and after others of which one was
pub piece_stuck :
    {F : Type 0} (before : Verdict) (piece : Result (List ℕ) F) → before.status ≢ 0 → then_piece before piece ≡ before
unfolding then_piece
piece_stuck before piece ended = let other = ne_eqb before.status 0 ended in rw other refl

-- ---- commands

pub does_same :
    (v w : Verdict) (result : Result (Unit {0}) Halt) (a b : Held) → v ≡ w → Does v result a b → Does w result a b
does_same v w result a b same done = subst (λ verdict. Does verdict result a b) same done

pub does_behind :
    (text : List ℕ) (v : Verdict) (result : Result (Unit {0}) Halt) (a b c : Held)
    → Adds a text b → Does v result b c → Does (verdict_behind text v) result a c
does_behind text v (Ok done) a b c first second = (second.0, adds_join a b c text v.text first second.1)
does_behind text v (Err Refused) a b c first second = (second.0, adds_join a b c text v.text first second.1)
does_behind text v (Err Device) a b c first second = front_join a b c text v.text first second

-- a further piece
pub does_piece :
    {F : Type 0} (before : Verdict) (piece : Result (List ℕ) F) (result : Result (Unit {0}) Halt) (a b c : Held)
    → before.status ≡ 0 → Adds a before.text b → Does (piece_verdict piece) result b c
    → Does (then_piece before piece) result a c
does_piece before piece result a b c fine first second =
    does_same (verdict_behind before.text (piece_verdict piece)) (then_piece before piece) result a c
    (sym (piece_behind before piece fine)) (does_behind before.text (piece_verdict piece) result a b c first second)

-- One verdict goes on another, with more text: where the first is refused, it is the same.
pub record GoesOn (v w : Verdict) : Type 0 where
  pub rest : List ℕ
  pub text : w.text ≡ v.text ++ rest
  pub stuck : v.status ≢ 0 → w ≡ v

pub goes_nowhere : (v : Verdict) → GoesOn v v
goes_nowhere v = record { rest = []; text = sym (append-nil v.text); stuck = λ ended. refl }

more_by :
    {F : Type 0} (v : Verdict) (piece : Result (List ℕ) F) (fine : Bool) → v.status == 0 ≡ fine → GoesOn v (then_piece v piece)
more_by v piece true is =
    let none = eqb-true v.status 0 is in
    record {
      rest = (piece_verdict piece).text;
      text = ap (λ w. w.text) (piece_behind v piece none);
      stuck = λ ended. absurd (ended none);
    }
more_by v piece false is =
    let ended : v.status ≢ 0 = λ none. absurd (let same = rw none at is in cc) in
    let same = piece_stuck v piece ended in
    record { rest = []; text = ap (λ w. w.text) same ∙ sym (append-nil v.text); stuck = λ also. same }

pub goes_more : {F : Type 0} (v : Verdict) (piece : Result (List ℕ) F) → GoesOn v (then_piece v piece)
goes_more v piece = more_by v piece (v.status == 0) refl

pub goes_twice : (u v w : Verdict) → GoesOn u v → GoesOn v w → GoesOn u w
goes_twice u v w first second = record {
  rest = first.rest ++ second.rest;
  text = second.text ∙ ap (λ l. l ++ second.rest) first.text ∙ append_assoc u.text first.rest second.rest;
  stuck = λ ended. let same = first.stuck ended in
      second.stuck (λ none. ended (sym (ap (λ x. x.status) same) ∙ none)) ∙ same;
}

three_not_zero : (n : ℕ) → n ≡ 3 → n ≢ 0
three_not_zero n three none = omega (arith, three, none)

-- a command that ended early did so in all that goes on it
pub does_ended :
    (v w : Verdict) (halt : Halt) (a b : Held) → GoesOn v w → Does v (Err halt) a b → Does w (Err halt) a b
does_ended v w Refused a b on done =
    does_same v w (Err Refused) a b (sym (on.stuck (three_not_zero v.status done.0))) done
does_ended v w Device a b on done =
    subst (λ text. AddsFront a text b) (sym on.text) (front_before a b v.text on.rest done)

-- pieces go on their first ones
pub printed_on : {F : Type 0} (piece : ℕ → Result (List ℕ) F) (count more : ℕ) → GoesOn (printed piece count) (printed piece (more + count))
unfolding printed
printed_on piece count zero =
    let e : count ≡ 0 + count = omega arith in
    subst (λ (n : ℕ). GoesOn (printed piece count) (printed piece n)) e (goes_nowhere (printed piece count))
printed_on piece count (suc more) =
    let e : suc (more + count) ≡ suc more + count = omega arith in
    subst (λ (n : ℕ). GoesOn (printed piece count) (printed piece n)) e
    (goes_twice (printed piece count) (printed piece (more + count)) (printed piece (suc (more + count)))
    (printed_on piece count more) (goes_more (printed piece (more + count)) (piece (more + count))))

pub printed_to : {F : Type 0} (piece : ℕ → Result (List ℕ) F) (count all : ℕ) → count ≤ all → GoesOn (printed piece count) (printed piece all)
printed_to piece count all within =
    let e : (all - count) + count ≡ all = omega arith in
    subst (λ (n : ℕ). GoesOn (printed piece count) (printed piece n)) e (printed_on piece count (all - count))

pub printed_more : {F : Type 0} (piece : ℕ → Result (List ℕ) F) (count : ℕ) → printed piece (suc count) ≡ then_piece (printed piece count) (piece count)
unfolding printed
printed_more piece count = refl

-- ---- checks

checked_refused : {A F : Type 0} (found : Result A F) (next : A → Verdict) → IsErr found → checked found next ≡ silent 3
checked_refused (Ok value) next refused = absurd cc
checked_refused (Err fault) next refused = refl

-- a check that is refused, or that the disk failed in
pub does_halted :
    {A F : Type 0} (halt : Halt) (found : Result A F) (next : A → Verdict) (a : Held) → Halts halt found
    → Does (checked found next) (Err halt) a a
does_halted Refused found next a refused =
    does_same (silent 3) (checked found next) (Err Refused) a a (sym (checked_refused found next refused)) (refl, adds_nothing a)
does_halted Device found next a halts = front_nothing a (checked found next).text

-- the same of a piece of text
piece_refused : {F : Type 0} (piece : Result (List ℕ) F) → IsErr piece → piece_verdict piece ≡ silent 3
piece_refused (Ok text) refused = absurd cc
piece_refused (Err fault) refused = refl

pub piece_halted :
    {F : Type 0} (halt : Halt) (piece : Result (List ℕ) F) (a : Held) → Halts halt piece → Does (piece_verdict piece) (Err halt) a a
piece_halted Refused piece a refused =
    does_same (silent 3) (piece_verdict piece) (Err Refused) a a (sym (piece_refused piece refused)) (refl, adds_nothing a)
piece_halted Device piece a halts = front_nothing a (piece_verdict piece).text

pub does_as :
    (v : Verdict) (result : Result (Unit {0}) Halt) (a b : Held) → Does v result a b → DoesAs v (status_of result) a b
does_as v (Ok done) a b does = inl (sym does.0, does.1)
does_as v (Err Refused) a b does = inl (sym does.0, does.1)
does_as v (Err Device) a b does = inr (inl refl, does)
