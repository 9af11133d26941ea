-- Where all writes are made, what is left is what the disks hold now.
use Rattle.std.proofs.Common.{◌≡◌, ◌++◌, map, ℕ, ◌+◌, ◌<◌, Bool, true, false, List, [], ◌∷◌, ◌-◌, length, replicate, slice_index_or, refl, ap, ◌∙◌, drop, arith}
use Rattle.std.proofs.lemmas.List.{get_or-replicate}
use Rattle.std.proofs.lemmas.List.FromFn.{length-map-range_with_len, map-range_with_len_more}
use Rattle.std.specs.List.{range_with_len}
use Rattle.test_disks.specs.Kept.{is_kept, kept}
use Rattle.disk_trait.specs.declared.event.Event.{Event}
use Rattle.disk_trait.specs.declared.event.Event.TheVariants.{Write, Flush}
use Rattle.disk_trait.specs.Past.{Image, Past, with_sector, now_after, first_events}
use Rattle.disk_trait.specs.Left.{unflushed_count, made_if, left_after, left_image}

pub all_made : (start : Image) (events : List Event) (n : ℕ) → (unflushed_count events < n + 1) → left_after start events (replicate n true) ≡ now_after start events
all_made start [] n few = refl
all_made start (Flush ∷ older) n few = refl
all_made start (Write disk sector bytes ∷ older) n few =
    let is : slice_index_or (replicate n true) (unflushed_count older) false ≡ true = get_or-replicate n (unflushed_count older) true false (omega (arith, few)) in
    let rest : left_after start older (replicate n true) ≡ now_after start older = all_made start older n (omega (arith, few)) in
    let K : Bool → Image = λ kept. made_if kept disk sector bytes (left_after start older (replicate n true)) in
    let W : Image → Image = λ image. with_sector image disk sector bytes in
    ap K is ∙ ap W rest

-- so it is of all events
pub all_is_now : (past : Past) (k n : ℕ) (keep : List Bool) → k ≡ length past.events → n ≡ unflushed_count (first_events k past.events) → keep ≡ replicate n true
    → left_image past k keep ≡ now_after past.start past.events
all_is_now past k n keep all few made =
    let none : length past.events - k ≡ 0 = omega (arith, all) in
    let D : ℕ → List Event = λ skipped. drop skipped past.events in
    let whole : first_events k past.events ≡ past.events = ap D none in
    let count : n ≡ unflushed_count past.events = few ∙ ap unflushed_count whole in
    let L : List Event → Image = λ events. left_after past.start events keep in
    let M : List Bool → Image = λ kept. left_after past.start past.events kept in
    ap L whole ∙ ap M made ∙ all_made past.start past.events n (omega (arith, count))

-- ---- the choice

pub kept_more : (choice count at : ℕ) → map (is_kept choice count) (range_with_len 0 (at + 1)) ≡ map (is_kept choice count) (range_with_len 0 at) ++ (is_kept choice count at ∷ [])
kept_more choice count at = map-range_with_len_more (is_kept choice count) 0 at at (omega arith)

pub kept_length : (choice count : ℕ) → length (kept choice count) ≡ count
kept_length choice count = length-map-range_with_len (is_kept choice count) 0 count
