-- The slot of the next sector is made, and grows where slots are joined.
use Rattle.std.proofs.Common.{◌∙◌, true, false, length, Ok, Some, refl, sym, ap, arith}
use Rattle.slot_lists.specs.Made.{place_view}
use Rattle.slot_lists.specs.Cursor.{left_of, Answered}
use Rattle.slot_lists.proofs.CursorLemmas.{next-with}
use Rattle.slot_lists.proofs.RunLemmas.{left-none}
use Rattle.slot_lists.proofs.cursor.SlotCursor.next_in.Goals as goal

pub returns-then-self-clause-answer : goal.returns-then-self-clause-answer
returns-then-self-clause-answer c =
    ap (λ slot. Ok (Some slot)) c.grow.ensures.slot
    ∙ sym (ap (λ (next : Answered). next.answer) (next-with c.args.self.now c.place.new.self c.args.runs.now (place_view c.args.zero) (place_view c.in-Some.place) c.place.ensures.same c.place.ensures.left c.in-Some.ensures.place true c.if-self.true _ c.in-Ok.ensures.made))

pub returns-then-self-clause-left : goal.returns-then-self-clause-left
returns-then-self-clause-left c =
    c.grow.ensures.left
    ∙ sym (ap (λ (next : Answered). next.left) (next-with c.args.self.now c.place.new.self c.args.runs.now (place_view c.args.zero) (place_view c.in-Some.place) c.place.ensures.same c.place.ensures.left c.in-Some.ensures.place true c.if-self.true _ c.in-Ok.ensures.made))

pub returns-else-self-clause-left : goal.returns-else-self-clause-left
returns-else-self-clause-left c =
    sym (ap (λ (next : Answered). next.left) (next-with c.args.self.now c.place.new.self c.args.runs.now (place_view c.args.zero) (place_view c.in-Some.place) c.place.ensures.same c.place.ensures.left c.in-Some.ensures.place false c.if-self.false _ c.in-Ok.ensures.made))

pub returns-in-Err-clause-left : goal.returns-in-Err-clause-left
unfolding left_of
returns-in-Err-clause-left c =
    left-none (place_view c.args.zero) c.args.runs.now (length c.args.runs.now) 0 (omega arith)
    ∙ sym (ap (λ (next : Answered). next.left) (next-with c.args.self.now c.place.new.self c.args.runs.now (place_view c.args.zero) (place_view c.in-Some.place) c.place.ensures.same c.place.ensures.left c.in-Some.ensures.place _ refl _ c.in-Err.ensures.made))
