-- The next sector's slot is taken into the one that is held.
use Rattle.std.proofs.Common.{◌≡◌, ◌+◌, ◌∙◌, drop, true, refl, sym, ap}
use Rattle.lilo_model.specs.Slots.{could_be_one}
use Rattle.sector_address.specs.View.{mode_view, geometry_view, slot_view}
use Rattle.slot_lists.specs.Made.{place_view}
use Rattle.slot_lists.specs.Cursor.{left_of, grown}
use Rattle.slot_lists.proofs.CursorLemmas.{grown-takes}
use Rattle.slot_lists.proofs.JoinLemmas.{longer-writable}
use Rattle.slot_lists.proofs.RunLemmas.{left-less}
use Rattle.slot_lists.proofs.cursor.SlotCursor.grow.Goals as goal

pub loop-next-preserved : goal.loop-next-preserved
unfolding left_of
loop-next-preserved c =
    let old = c.loop-next.self in
    let new = c.peek.new.self in
    let place = place_view c.args.zero in
    let held = slot_view c.loop-next.held in
    let next = slot_view c.in-Some.next in
    let one : could_be_one (geometry_view new.geometry) held next ≡ true = sym c.could_be_one.ensures ∙ c.if-not-could_be_one.false in
    let whole = record held { count = held.count + next.count } in
    let rest = left_of (record new { offset = new.offset + 1 }) c.args.runs.now place in
    record {
      grows =
          ap (λ mode. grown (mode_view mode) (geometry_view new.geometry) whole rest) c.peek.ensures.same.mode
          ∙ ap (grown (mode_view old.mode) (geometry_view new.geometry) whole) (left-less place c.args.runs.now new.run new.offset ∙ ap (drop 1) c.peek.ensures.left)
          ∙ ap (λ geometry. grown (mode_view old.mode) (geometry_view geometry) whole (drop 1 (left_of old c.args.runs.now place))) c.peek.ensures.same.geometry
          ∙ sym (grown-takes (mode_view old.mode) (geometry_view old.geometry) held next (left_of old c.args.runs.now place) (sym c.in-Some.ensures.slot) (ap (λ geometry. could_be_one (geometry_view geometry) held next) (sym c.peek.ensures.same.geometry) ∙ one))
          ∙ c.loop-next.invariant.grows;
      writable = longer-writable (geometry_view new.geometry) c.loop-next.held c.in-Some.next _ one c.loop-next.invariant.writable refl;
      same = record {
        mode = c.peek.ensures.same.mode ∙ c.loop-next.invariant.same.mode;
        geometry = c.peek.ensures.same.geometry ∙ c.loop-next.invariant.same.geometry;
        compact = c.peek.ensures.same.compact ∙ c.loop-next.invariant.same.compact;
      };
    }
