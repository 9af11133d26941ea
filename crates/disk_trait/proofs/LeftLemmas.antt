-- The image that a stop leaves.
use Rattle.std.proofs.Common.{◌≡◌, inl, inr, ⊎_elim, ℕ, zero, suc, ◌+◌, ◌-◌, ◌<◌, ◌≤◌, Bool, true, false, List, [], ◌∷◌, ◌++◌, length, take, drop, get_or, All, refl, sym, ◌∙◌, ap, ap₂, subst, arith, length-append, length-drop}
use Rattle.std.proofs.Math.ListN.{get_or-append}
use Rattle.std.proofs.Math.Seq.{get_or-append_seam, take-append_seam}
use Rattle.std.proofs.lemmas.Bool.{cases_Bool, cond_both}
use Rattle.std.proofs.lemmas.List.{drop-drop, drop_more}
use Rattle.std.proofs.lemmas.List.Elements.{All-head, All-same, All-drop}
use Rattle.std.specs.Str.{bytes_eq}
use Rattle.std.proofs.lemmas.Slice.Eq.{bytes_eq-Decides}
use Rattle.disk_trait.specs.declared.event.Event.{Event}
use Rattle.disk_trait.specs.declared.event.Event.TheVariants.{Write, Flush}
use Rattle.disk_trait.specs.Past.{Image, Past, with_sector, now_after, IsQuietAfter, MayHold, first_events, Leaves}
use Rattle.disk_trait.specs.MemDisks.{StartDisk, HasWholeSectors, WritesWholeSector, IsInRange}
use Rattle.disk_trait.specs.Left.{unflushed_count, made_if, left_after, left_image, SameShape}
use Rattle.disk_trait.specs.Laws.{LeftImagesLaw}
use Rattle.disk_trait.proofs.MomentLemmas.{here, here_true, with_same, with_other, other_holds}
use Rattle.disk_trait.proofs.Changed.{whole-with_sector, whole-now_after, older_whole}

-- how many events there are

pub unflushed_few : (events : List Event) → unflushed_count events ≤ length events
unflushed_few [] = omega arith
unflushed_few (Write disk sector bytes ∷ older) = omega (arith, unflushed_few older)
unflushed_few (Flush ∷ older) = omega arith

pub length-first_events : (k : ℕ) (events : List Event) → k ≤ length events → length (first_events k events) ≡ k
length-first_events k events le = omega (arith, length-drop (length events - k) events)

pub unflushed_within : (k : ℕ) (events : List Event) → k ≤ length events → unflushed_count (first_events k events) ≤ k
unflushed_within k events le = omega (arith, unflushed_few (first_events k events), length-first_events k events le)

-- without the newest of the events after the last flush

unflushed_drop : (events : List Event) (newer : ℕ) → newer ≤ unflushed_count events → unflushed_count (drop newer events) ≡ unflushed_count events - newer
unflushed_drop events zero le = omega arith
unflushed_drop [] (suc newer) le = absurd (omega arith)
unflushed_drop (Write disk sector bytes ∷ older) (suc newer) le = let rest : unflushed_count (drop newer older) ≡ unflushed_count older - newer = unflushed_drop older newer (omega arith) in omega arith
unflushed_drop (Flush ∷ older) (suc newer) le = absurd (omega arith)

quiet_unflushed : (events : List Event) → unflushed_count events ≡ 0 → IsQuietAfter events
quiet_unflushed [] none = tt
quiet_unflushed (Write disk sector bytes ∷ older) none = absurd (omega arith)
quiet_unflushed (Flush ∷ older) none = tt

-- of the events after the last flush, the first i
module _ (events : List Event) (first count : ℕ) (within : first + count ≤ length events) (each : count ≡ unflushed_count (first_events (first + count) events)) where
  fewer : (i : ℕ) → i ≤ count → first_events (first + i) events ≡ drop (count - i) (first_events (first + count) events)
  fewer i le = let same : length events - (first + i) ≡ (length events - (first + count)) + (count - i) = omega arith in ap (λ (n : ℕ). drop n events) same ∙ sym (drop-drop (count - i) (length events - (first + count)) events)

  pub unflushed_first : (i : ℕ) → i ≤ count → unflushed_count (first_events (first + i) events) ≡ i
  unflushed_first i le =
      ap unflushed_count (fewer i le) ∙ unflushed_drop (first_events (first + count) events) (count - i) (omega arith) ∙ ap (λ (n : ℕ). n - (count - i)) (sym each) ∙ omega arith

  pub quiet_first : IsQuietAfter (first_events first events)
  quiet_first = quiet_unflushed (first_events first events) (ap (λ (k : ℕ). unflushed_count (first_events k events)) none ∙ unflushed_first 0 (omega arith))
    where
      none : first ≡ first + 0
      none = omega arith

-- after a flush nothing is left out
pub left_quiet : (start : Image) (events : List Event) (keep : List Bool) → IsQuietAfter events → left_after start events keep ≡ now_after start events
left_quiet start [] keep quiet = refl
left_quiet start (Write disk sector bytes ∷ older) keep quiet = absurd quiet
left_quiet start (Flush ∷ older) keep quiet = refl

-- one event after some others
pub now_one_more : (start : Image) (event : Event) (older : List Event) → now_after (now_after start older) (event ∷ []) ≡ now_after start (event ∷ older)
now_one_more start (Write disk sector bytes) older = refl
now_one_more start Flush older = refl

-- one write more that is kept, or isn't

pub left_with : (start mid new : Image) (event : Event) (older : List Event) (keep : List Bool) (i : ℕ) → unflushed_count older ≡ i → unflushed_count (event ∷ older) ≡ i + 1 → get_or keep i false ≡ true
    → mid ≡ left_after start older keep → new ≡ now_after mid (event ∷ []) → new ≡ left_after start (event ∷ older) keep
left_with start mid new (Write disk sector bytes) older keep i before after kept is made =
    let at : get_or keep (unflushed_count older) false ≡ true = ap (λ (n : ℕ). get_or keep n false) before ∙ kept in
    made ∙ ap (λ (image : Image). with_sector image disk sector bytes) is ∙ sym (ap (λ (b : Bool). made_if b disk sector bytes (left_after start older keep)) at)
left_with start mid new Flush older keep i before after kept is made = absurd (omega arith)

pub left_without : (start mid : Image) (event : Event) (older : List Event) (keep : List Bool) (i : ℕ) → unflushed_count older ≡ i → unflushed_count (event ∷ older) ≡ i + 1 → get_or keep i false ≡ false
    → mid ≡ left_after start older keep → mid ≡ left_after start (event ∷ older) keep
left_without start mid (Write disk sector bytes) older keep i before after kept is =
    let at : get_or keep (unflushed_count older) false ≡ false = ap (λ (n : ℕ). get_or keep n false) before ∙ kept in
    is ∙ sym (ap (λ (b : Bool). made_if b disk sector bytes (left_after start older keep)) at)
left_without start mid Flush older keep i before after kept is = absurd (omega arith)

-- the first events are the one made last and those before
next_of_first : (events : List Event) (k : ℕ) → k < length events → first_events (k + 1) events ≡ get_or events (length events - (k + 1)) Flush ∷ first_events k events
next_of_first events k lt =
    let same : (length events - (k + 1)) + 1 ≡ length events - k = omega arith in
    drop_more events (length events - (k + 1)) Flush (omega arith) ∙ ap (λ (n : ℕ). get_or events (length events - (k + 1)) Flush ∷ drop n events) same

-- of the events after the last flush, none and then one more
module _ (events : List Event) (first count : ℕ) (within : first + count ≤ length events) (each : count ≡ unflushed_count (first_events (first + count) events)) (start : Image) where
  pub kept_none : (image : Image) (keep : List Bool) → image ≡ now_after start (first_events first events) → image ≡ left_after start (first_events (first + 0) events) keep
  kept_none image keep is =
      let none : first + 0 ≡ first = omega arith in
      is ∙ sym (left_quiet start (first_events first events) keep (quiet_first events first count within each)) ∙ sym (ap (λ (k : ℕ). left_after start (first_events k events) keep) none)

  module _ (keep : List Bool) (i : ℕ) (lt : i < count) (event : Event) (is_next : first_events ((first + i) + 1) events ≡ event ∷ first_events (first + i) events) where
    next : first_events (first + (i + 1)) events ≡ event ∷ first_events (first + i) events
    next = let same : first + (i + 1) ≡ (first + i) + 1 = omega arith in ap (λ (k : ℕ). first_events k events) same ∙ is_next

    before : unflushed_count (first_events (first + i) events) ≡ i
    before = unflushed_first events first count within each i (omega arith)

    after : unflushed_count (event ∷ first_events (first + i) events) ≡ i + 1
    after = sym (ap unflushed_count next) ∙ unflushed_first events first count within each (i + 1) (omega arith)

    pub kept_more : (mid new : Image) → get_or keep i false ≡ true → mid ≡ left_after start (first_events (first + i) events) keep → new ≡ now_after mid (event ∷ []) → new ≡ left_after start (first_events (first + (i + 1)) events) keep
    kept_more mid new kept is made = left_with start mid new event (first_events (first + i) events) keep i before after kept is made ∙ sym (ap (λ (l : List Event). left_after start l keep) next)

    left_so : (mid : Image) → get_or keep i false ≡ false → mid ≡ left_after start (first_events (first + i) events) keep → mid ≡ left_after start (first_events (first + (i + 1)) events) keep
    left_so mid kept is = left_without start mid event (first_events (first + i) events) keep i before after kept is ∙ sym (ap (λ (l : List Event). left_after start l keep) next)

  pub kept_less : (keep : List Bool) (i : ℕ) → i < count → (mid : Image) → get_or keep i false ≡ false → mid ≡ left_after start (first_events (first + i) events) keep → mid ≡ left_after start (first_events (first + (i + 1)) events) keep
  kept_less keep i lt mid kept is = left_so keep i lt _ (next_of_first events (first + i) (omega arith)) mid kept is

-- those before the last flush and those after it
pub rejoined : (events : List Event) (prefix count : ℕ) → prefix ≤ length events → count ≡ unflushed_count (first_events prefix events) → prefix - count + count ≡ prefix
rejoined events prefix count within each = omega (arith, unflushed_within prefix events within)

-- each event writes to a sector that is there
pub event_in_range : (size_of sizes : ℕ → ℕ) (events : List Event) (i : ℕ) (event : Event) → sizes ≡ size_of → All (IsInRange size_of) events → first_events (i + 1) events ≡ event ∷ first_events i events → IsInRange sizes event
event_in_range size_of sizes events i event same all is =
    let some : All (IsInRange size_of) (event ∷ first_events i events) = All-same (IsInRange size_of) (event ∷ first_events i events) (first_events (i + 1) events) (sym is) (All-drop (IsInRange size_of) (length events - (i + 1)) events all) in
    subst (λ (count : ℕ → ℕ). IsInRange count event) (sym same) (All-head (IsInRange size_of) event (first_events i events) some)

-- sectors of 512 bytes

pub whole-left_after : (start : Image) (events : List Event) (keep : List Bool) → HasWholeSectors start → All WritesWholeSector events → HasWholeSectors (left_after start events keep)
whole-left_after start [] keep whole all = whole
whole-left_after start (Write disk sector bytes ∷ older) keep whole all =
    let rest : HasWholeSectors (left_after start older keep) = whole-left_after start older keep whole (older_whole _ older all) in
    elim (get_or keep (unflushed_count older) false) as (λ kept. HasWholeSectors (made_if kept disk sector bytes (left_after start older keep))) [
      | true ↦ whole-with_sector (left_after start older keep) disk sector bytes rest (all 0 Flush (omega arith))
      | false ↦ rest
    ]
whole-left_after start (Flush ∷ older) keep whole all = whole-now_after start older whole (older_whole _ older all)

pub whole-first : (k : ℕ) (events : List Event) → All WritesWholeSector events → All WritesWholeSector (first_events k events)
whole-first k events all = All-drop WritesWholeSector (length events - k) events all

-- what a slice wrote back into a list
pub put_back : {A : Type 0} (n : ℕ) (new old : List A) → n ≡ length new → take n (new ++ drop (length new) old) ≡ new
put_back n new old is = ap (λ (k : ℕ). take k (new ++ drop (length new) old)) is ∙ take-append_seam new (drop (length new) old)

pub same_shape : (old mid new : List StartDisk) → SameShape old mid → SameShape mid new → SameShape old new
same_shape old mid new first next = record { size = next.size ∙ first.size; count = next.count ∙ first.count; geometry = next.geometry ∙ first.geometry }

-- each choice makes an image that a stop may leave

may_hold_with : (start image : Image) (older : List Event) (disk sector : ℕ) (bytes : List ℕ) (d s : ℕ) → MayHold start older d s (image d s) → MayHold start (Write disk sector bytes ∷ older) d s (with_sector image disk sector bytes d s)
may_hold_with start image older disk sector bytes d s holds = cond_both (here disk sector d s) bytes (image d s)
    (λ (held : List ℕ). MayHold start (Write disk sector bytes ∷ older) d s held)
    (λ is. let place = here_true disk sector d s is in inl (place.0, place.1, refl))
    (λ other. inr holds)

pub may_hold_left : (start : Image) (events : List Event) (keep : List Bool) (d s : ℕ) → MayHold start events d s (left_after start events keep d s)
may_hold_left start [] keep d s = refl
may_hold_left start (Write disk sector bytes ∷ older) keep d s =
    elim (get_or keep (unflushed_count older) false) as (λ kept. MayHold start (Write disk sector bytes ∷ older) d s (made_if kept disk sector bytes (left_after start older keep) d s)) [
      | true ↦ may_hold_with start (left_after start older keep) older disk sector bytes d s (may_hold_left start older keep d s)
      | false ↦ inr (may_hold_left start older keep d s)
    ]
may_hold_left start (Flush ∷ older) keep d s = refl

pub leaves_left : (past : Past) (k : ℕ) (keep : List Bool) (c : Image) → c ≡ left_image past k keep → Leaves past k c
leaves_left past k keep c is = subst (Leaves past k) (sym is) (may_hold_left past.start (first_events k past.events) keep)

-- each image that a stop may leave has a choice that makes it: a write is kept where the image has its bytes
module _ (c : Image) where
  keep_for : List Event → List Bool
  keep_for [] = []
  keep_for (Write disk sector bytes ∷ older) = keep_for older ++ bytes_eq (c disk sector) bytes ∷ []
  keep_for (Flush ∷ older) = []

  length-keep_for : (events : List Event) → length (keep_for events) ≡ unflushed_count events
  unfolding keep_for
  length-keep_for [] = refl
  length-keep_for (Write disk sector bytes ∷ older) = length-append (keep_for older) (bytes_eq (c disk sector) bytes ∷ []) ∙ ap (λ (n : ℕ). n + 1) (length-keep_for older)
  length-keep_for (Flush ∷ older) = refl

  -- entries past the last write say nothing
  left_more : (start : Image) (events : List Event) (keep more : List Bool) → unflushed_count events ≤ length keep → left_after start events (keep ++ more) ≡ left_after start events keep
  left_more start [] keep more le = refl
  left_more start (Write disk sector bytes ∷ older) keep more le =
      let at : get_or (keep ++ more) (unflushed_count older) false ≡ get_or keep (unflushed_count older) false = get_or-append keep more false (unflushed_count older) (omega arith) in
      let rest : left_after start older (keep ++ more) ≡ left_after start older keep = left_more start older keep more (omega arith) in
      ap (λ (b : Bool). made_if b disk sector bytes (left_after start older (keep ++ more))) at ∙ ap (λ (image : Image). made_if (get_or keep (unflushed_count older) false) disk sector bytes image) rest
  left_more start (Flush ∷ older) keep more le = refl

  -- the newest write is made where the last entry says so
  left_newest : (start : Image) (disk sector : ℕ) (bytes : List ℕ) (older : List Event) (kept : Bool) → left_after start (Write disk sector bytes ∷ older) (keep_for older ++ kept ∷ []) ≡ made_if kept disk sector bytes (left_after start older (keep_for older))
  left_newest start disk sector bytes older kept =
      let long : length (keep_for older) ≡ unflushed_count older = length-keep_for older in
      let at : get_or (keep_for older ++ kept ∷ []) (unflushed_count older) false ≡ kept = ap (λ (n : ℕ). get_or (keep_for older ++ kept ∷ []) n false) (sym long) ∙ get_or-append_seam (keep_for older) kept [] false in
      let rest : left_after start older (keep_for older ++ kept ∷ []) ≡ left_after start older (keep_for older) = left_more start older (keep_for older) (kept ∷ []) (omega arith) in
      ap (λ (b : Bool). made_if b disk sector bytes (left_after start older (keep_for older ++ kept ∷ []))) at ∙ ap (λ (image : Image). made_if kept disk sector bytes image) rest

  -- one sector, where the newest write is made just if the image has its bytes
  module _ (start image : Image) (older : List Event) (disk sector : ℕ) (bytes : List ℕ) (d s : ℕ)
      (before : MayHold start older d s (c d s) → c d s ≡ image d s) (holds : MayHold start (Write disk sector bytes ∷ older) d s (c d s)) where
    at_other : here disk sector d s ≡ false → c d s ≡ image d s
    at_other other = before (other_holds start older disk sector bytes d s (c d s) other holds)

    at_kept : c disk sector ≡ bytes → c d s ≡ with_sector image disk sector bytes d s
    at_kept same = ⊎_elim
        (λ is. let place = here_true disk sector d s is in ap₂ c (sym place.0) (sym place.1) ∙ same ∙ sym (with_same image disk sector bytes d s is))
        (λ other. at_other other ∙ sym (with_other image disk sector bytes d s other))
        (cases_Bool (here disk sector d s))

    at_unkept : (c disk sector ≡ bytes → ⊥) → c d s ≡ image d s
    at_unkept not_same = ⊎_elim (λ new. absurd (not_same (ap₂ c new.0 new.1 ∙ new.2))) before holds

    at_newest : (kept : Bool) → (kept ≡ true → c disk sector ≡ bytes) → (c disk sector ≡ bytes → kept ≡ true) → c d s ≡ made_if kept disk sector bytes image d s
    at_newest true so back = at_kept (so refl)
    at_newest false so back = at_unkept (λ same. let no : false ≡ true = back same in cc)

  at_each : (start : Image) (events : List Event) (d s : ℕ) → MayHold start events d s (c d s) → c d s ≡ left_after start events (keep_for events) d s
  unfolding keep_for
  at_each start [] d s holds = holds
  at_each start (Write disk sector bytes ∷ older) d s holds =
      let tested = bytes_eq-Decides (c disk sector) bytes in
      at_newest start (left_after start older (keep_for older)) older disk sector bytes d s (at_each start older d s) holds (bytes_eq (c disk sector) bytes) tested.0 tested.1
      ∙ sym (ap (λ (image : Image). image d s) (left_newest start disk sector bytes older (bytes_eq (c disk sector) bytes)))
  at_each start (Flush ∷ older) d s holds = holds

pub left_images_law : LeftImagesLaw
left_images_law past k c = (
  (λ left. (keep_for c (first_events k past.events), length-keep_for c (first_events k past.events), λ i d s. at_each c past.start (first_events k past.events) d s (left d s) i)),
  (λ chosen. leaves_left past k chosen.0 c chosen.2),
)
