-- What the buffer holds is what is left, before what the reader has left.
use Rattle.std.proofs.Common.{◌≡◌, ◌+◌, ◌-◌, ◌<◌, ◌≤◌, ℕ, min, ◌++◌, length, take, drop, slice_range, arith, refl, ap, ◌∙◌, length-append, length-drop}
use Rattle.std.specs.Io.KnownBytes.{Keeps, prepend_known}
use Rattle.std.proofs.KnownBytes.{Keeps-refl}
use Rattle.std.proofs.lemmas.List.{take_at, length-take-le}
use Rattle.stream_trait.specs.declared.source.Taken.TheVariants.{Got}
use Rattle.stream_trait.proofs.Unread.{Keeps-read, GivesManyKnown-from_buffer}
use Rattle.stream_trait.proofs.std_source.StdSourceSource.next_bytes.Goals.{then-self-2+in-Ok, else-self-2}
use Rattle.stream_trait.proofs.std_source.StdSourceSource.next_bytes.Goals as goal

-- how many bytes were copied
copied-some : (count room left can_give there given : ℕ) → room ≡ min left can_give → count ≡ min room there → 0 < left → 0 < can_give → 0 < there
    → count ≡ given → (0 < given) × (given ≤ left) × (given ≤ there) × (given ≤ can_give)
copied-some count room left can_give there given is-room is-count some-left some-give some-there same =
    (omega (arith, is-room, is-count, some-left, some-give, some-there, same), omega (arith, is-room, is-count, same), omega (arith, is-room, is-count, same), omega (arith, is-room, is-count, same))

got-same : (count given : ℕ) → Got count ≡ Got given → count ≡ given
got-same count given same = cc

pub returns-clause-some : goal.returns-clause-some
returns-clause-some g c given same =
    let after = c.if-self-2.self-inside in
    let below : after.at < after.filled = elim c.if-self-2.branch [
      | then-self-2+in-Ok w ↦ rw w.self-inside-is (omega (arith, w.in-Ok.count-test.1))
      | else-self-2 w ↦ rw w.self-inside-is (omega (arith, c.self.invariant.0, w.if-self-2.false))
    ] in
    let gives : 0 < after.can_give = elim c.if-self-2.branch [
      | then-self-2+in-Ok w ↦ rw w.self-inside-is (omega (arith, c.if-self-eq0.false))
      | else-self-2 w ↦ rw w.self-inside-is (omega (arith, c.if-self-eq0.false))
    ] in
    let parts = copied-some c.min-count.result c.min-room.result (length c.args.into.now) after.can_give (after.filled - after.at) given c.min-room.ensures c.min-count.ensures c.requires.room gives (omega (arith, below)) (got-same c.min-count.result given same) in
    let front = c.copy_from_slice.new.self in
    let rest = drop c.min-count.result c.args.into.now in
    let is = got-same c.min-count.result given same in
    let fits = parts.1 in
    let copied : length front ≡ c.min-count.result = c.copy_from_slice.ensures.len ∙ length-take-le c.min-count.result c.args.into.now (omega (arith, fits, is)) in
    let whole = length-append front rest in
    (parts.0, omega (arith, whole, copied, is))

pub returns-clause-fewer : goal.returns-clause-fewer
returns-clause-fewer g c given same =
    let after = c.if-self-2.self-inside in
    let some = returns-clause-some g c given same in
    let count = got-same c.min-count.result given same in
    let gives : after.can_give ≡ c.args.self.now.can_give = elim c.if-self-2.branch [
      | then-self-2+in-Ok w ↦ rw (w.self-inside-is, ← c.self.view_is) refl
      | else-self-2 w ↦ rw (w.self-inside-is, ← c.self.view_is) refl
    ] in
    let most : c.min-room.result ≡ min (length c.args.into.now) after.can_give = c.min-room.ensures in
    let least : c.min-count.result ≡ min c.min-room.result (after.filled - after.at) = c.min-count.ensures in
    let some-given = some.0 in
    omega (arith, some-given, count, gives, most, least)

pub returns-clause-known : goal.returns-clause-known
returns-clause-known g c =
    let after = c.if-self-2.self-inside in
    let count = c.min-count.result in
    let least : count ≡ min c.min-room.result (after.filled - after.at) = c.min-count.ensures in
    let ordered : after.at ≤ after.filled = elim c.if-self-2.branch [
      | then-self-2+in-Ok w ↦ rw w.self-inside-is (omega arith)
      | else-self-2 w ↦ rw w.self-inside-is c.self.invariant.0
    ] in
    let within : after.at + count ≤ after.filled = omega (arith, least, ordered) in
    let inside : after.filled ≤ length after.buffer = elim c.if-self-2.branch [
      | then-self-2+in-Ok w ↦ rw w.self-inside-is w.in-Ok.ensures.bound.0
      | else-self-2 w ↦ rw w.self-inside-is (omega (arith, c.self.invariant.1, c.self.told))
    ] in
    let kept : Keeps c.args.self.now.unread (prepend_known (slice_range after.buffer after.at after.filled) (g.R.Read.remaining after.reader)) = elim c.if-self-2.branch [
      | then-self-2+in-Ok w ↦ rw (w.self-inside-is, ← c.self.view_is) (Keeps-read _ _ _ _ _ _ _ w.if-self-2.true w.in-Ok.ensures.bytes.0)
      | else-self-2 w ↦ rw (w.self-inside-is, ← c.self.view_is) (Keeps-refl _)
    ] in
    let front = c.copy_from_slice.new.self in
    let is : front ≡ take count (drop after.at after.buffer) = c.copy_from_slice.ensures.after ∙ ap (λ n. take n (drop after.at after.buffer)) {y = count} (omega arith) in
    let rest = length-drop after.at after.buffer in
    let long : length front ≡ count = ap length is ∙ length-take-le count (drop after.at after.buffer) (omega (arith, within, inside, rest)) in
    let given : take count (front ++ drop count c.args.into.now) ≡ take count (drop after.at after.buffer) = take_at front (drop count c.args.into.now) count long ∙ is in
    GivesManyKnown-from_buffer c.args.self.now.unread (g.R.Read.remaining after.reader) after.buffer (front ++ drop count c.args.into.now) after.at after.filled count within inside kept given
