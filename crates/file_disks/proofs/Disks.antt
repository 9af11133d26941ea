-- Disks of which one after another is changed.
use Rattle.std.proofs.Common.{◌≡◌, ◌≢◌, inl, inr, ℕ, ◌+◌, ◌<◌, ◌≤◌, ◌==◌, ◌&&◌, ◌↔◌, Bool, List, length, get_or, set, refl, sym, ap, subst, ◌∙◌, arith, get_or-set_same, get_or-set_other}
use Rattle.std.specs.Prelude.{Option, Some, None, Result, Ok, Err, IsTrue, IsOk, OnOk, OnErr, option_map}
use Rattle.std.specs.Result.{is_ok}
use mathlib.Core.Path.{fun_ext}
use Rattle.std.proofs.lemmas.Bool.{cases_eq, cases_lt, and_parts, and_from, false≢true, eqb-true}
use Rattle.std.proofs.lemmas.List.{get_or_read, get_or_past, length-map}
use Rattle.std.proofs.Math.ListN.{get_or-map}
use Rattle.std.proofs.Math.Seq.{map-set_same}
use Rattle.disk_trait.specs.declared.geometry.Geometry.{Geometry}
use Rattle.disk_trait.specs.Absent.{absent_geometry}
use Rattle.file_disks.specs.FileDisks.{HeldSectors, DiskShape, DiskState, FileState, shape_of, absent_disk, disk_of, disk_at, shapes_of, file_sizes_of, file_geometries_of, IsDurable, AreDurable, touched, written_out, HandsOn, MaySync, Takes, IsOnlyAt, AllHandOn, OthersWrittenOut, WriteTaken, HasRoom, IsPut, IsHeld, emptied}

-- what a shape says of a disk
sectors_in : Option DiskShape → ℕ
sectors_in None = 0
sectors_in (Some shape) = shape.sectors

geometry_in : Option DiskShape → Geometry
geometry_in None = absent_geometry
geometry_in (Some shape) = shape.geometry

shape_sectors : (disk : Option DiskState) → sectors_in (option_map shape_of disk) ≡ (disk_of disk).sectors
unfolding sectors_in
shape_sectors None = refl
shape_sectors (Some disk) = refl

shape_geometry : (disk : Option DiskState) → geometry_in (option_map shape_of disk) ≡ (disk_of disk).geometry
unfolding geometry_in
shape_geometry None = refl
shape_geometry (Some disk) = refl

-- disks of the same shapes have the same shape at each place
at_same : (old new : List (Option DiskState)) (disk : ℕ) → shapes_of new ≡ shapes_of old → option_map shape_of (get_or new disk None) ≡ option_map shape_of (get_or old disk None)
at_same old new disk same =
    sym (get_or-map (option_map shape_of) new disk None) ∙ ap (λ (shapes : List (Option DiskShape)). get_or shapes disk None) same ∙ get_or-map (option_map shape_of) old disk None

size_same : (old new : List (Option DiskState)) (disk : ℕ) → shapes_of new ≡ shapes_of old → (disk_at new disk).sectors ≡ (disk_at old disk).sectors
size_same old new disk same = sym (shape_sectors (get_or new disk None)) ∙ ap sectors_in (at_same old new disk same) ∙ shape_sectors (get_or old disk None)

geometry_same : (old new : List (Option DiskState)) (disk : ℕ) → shapes_of new ≡ shapes_of old → (disk_at new disk).geometry ≡ (disk_at old disk).geometry
geometry_same old new disk same = sym (shape_geometry (get_or new disk None)) ∙ ap geometry_in (at_same old new disk same) ∙ shape_geometry (get_or old disk None)

-- so they have the sizes, geometries and number that the trait speaks of
pub sizes_same : (old new : FileState) → shapes_of new.disks ≡ shapes_of old.disks → file_sizes_of new ≡ file_sizes_of old
sizes_same old new same = fun_ext (λ disk. size_same old.disks new.disks disk same)

pub geometries_same : (old new : FileState) → shapes_of new.disks ≡ shapes_of old.disks → file_geometries_of new ≡ file_geometries_of old
geometries_same old new same = fun_ext (λ disk. geometry_same old.disks new.disks disk same)

pub count_same : (old new : List (Option DiskState)) → shapes_of new ≡ shapes_of old → length new ≡ length old
count_same old new same = sym (length-map new (option_map shape_of)) ∙ ap (λ (shapes : List (Option DiskShape)). length shapes) same ∙ length-map old (option_map shape_of)

-- a disk with a sector is there
pub is_there : (disks : List (Option DiskState)) (disk sector : ℕ) → sector < (disk_at disks disk).sectors → disk < length disks
is_there disks disk sector inside =
    elim (cases_lt disk (length disks)) [
      | inl there ↦ there
      | inr past ↦ absurd (let none : sector < 0 = subst (λ (d : Option DiskState). sector < (disk_of d).sectors) (get_or_past disks disk None past) inside in omega (arith, none))
    ]

-- What one disk that is read and set makes of all.
pub record IsSet (disk : ℕ) (read written : Option DiskState) (old new : List (Option DiskState)) : Type 0 where
  pub was : disk_of read ≡ disk_at old disk
  pub is : disk_at new disk ≡ disk_of written
  pub only : IsOnlyAt disk old new

pub set_one : (disks old : List (Option DiskState)) (at disk : ℕ) (read written : Option DiskState) → disks ≡ old → at ≡ disk → disk < length old → read ≡ get_or disks at read
    → option_map shape_of written ≡ option_map shape_of read → IsSet disk read written old (set disks at written)
set_one disks old at disk read written same place there is shape =
    let here : read ≡ get_or old disk read = cc in
    let found : read ≡ get_or old disk None = get_or_read old disk read there here None in
    let all : set disks at written ≡ set old disk written = cc in
    rw all (record {
      was = ap disk_of found;
      is = ap disk_of (get_or-set_same old disk written None there);
      only = record {
        shapes = map-set_same (option_map shape_of) old disk written None (shape ∙ ap (option_map shape_of) found);
        others = λ other differs. ap disk_of (get_or-set_other old disk other written None differs);
      };
    })

-- Disks of which those before a place were changed so, and the others are as they were.
pub record Through (R : ℕ → DiskState → DiskState → Type 0) (at : ℕ) (old new : List (Option DiskState)) : Type 0 where
  pub shapes : shapes_of new ≡ shapes_of old
  pub done : (disk : ℕ) → disk < at → R disk (disk_at old disk) (disk_at new disk)
  pub rest : (disk : ℕ) → at ≤ disk → disk_at new disk ≡ disk_at old disk

-- one more
pub through_more : (R : ℕ → DiskState → DiskState → Type 0) (at : ℕ) (old mid new : List (Option DiskState)) → Through R at old mid → IsOnlyAt at mid new → R at (disk_at mid at) (disk_at new at) → Through R (at + 1) old new
through_more R at old mid new before only one = record {
  shapes = only.shapes ∙ before.shapes;
  done = λ disk lt. elim (cases_lt disk at) [
    | inl sooner ↦ subst (λ (d : DiskState). R disk (disk_at old disk) d) (sym (only.others disk (λ e. omega (arith, e, sooner)))) (before.done disk sooner)
    | inr later ↦
        let here : at ≡ disk = omega (arith, lt, later) in
        subst (λ (k : ℕ). R k (disk_at old k) (disk_at new k)) here (subst (λ (d : DiskState). R at d (disk_at new at)) (before.rest at (omega arith)) one)
  ];
  rest = λ disk le. only.others disk (λ e. omega (arith, e, le)) ∙ before.rest disk (omega (arith, le));
}

-- all of them
past_end : (disks : List (Option DiskState)) (disk : ℕ) → length disks ≤ disk → disk_at disks disk ≡ absent_disk
past_end disks disk past = ap disk_of (get_or_past disks disk None past)

pub through_all : (R : ℕ → DiskState → DiskState → Type 0) (at : ℕ) (old new : List (Option DiskState)) → Through R at old new → length old ≤ at → ((k : ℕ) → R k absent_disk absent_disk) → (disk : ℕ) → R disk (disk_at old disk) (disk_at new disk)
through_all R at old new all enough none disk =
    elim (cases_lt disk at) [
      | inl before ↦ all.done disk before
      | inr past ↦
          let beyond : disk_at old disk ≡ absent_disk = past_end old disk (omega arith) in
          subst (λ (d : DiskState). R disk d (disk_at new disk)) (sym beyond) (subst (λ (d : DiskState). R disk absent_disk d) (sym (all.rest disk past ∙ beyond)) (none disk))
    ]

-- what is so of each that was changed, and of each that wasn't
pub through_each : (R : ℕ → DiskState → DiskState → Type 0) (P : DiskState → DiskState → Type 0) (at : ℕ) (old new : List (Option DiskState)) → Through R at old new
    → ((k : ℕ) (a b : DiskState) → R k a b → P a b) → ((a : DiskState) → P a a) → (disk : ℕ) → P (disk_at old disk) (disk_at new disk)
through_each R P at old new all changed same disk =
    elim (cases_lt disk at) [
      | inl before ↦ changed disk (disk_at old disk) (disk_at new disk) (all.done disk before)
      | inr past ↦ subst (λ (d : DiskState). P (disk_at old disk) d) (sym (all.rest disk past)) (same (disk_at old disk))
    ]

-- a file that was given a part isn't synced
pub touched_not : (disk : DiskState) → IsDurable (touched disk) → ⊥
touched_not disk durable = false≢true durable.1

-- nothing becomes durable by what is handed on
hands_durable : (old new : DiskState) → HandsOn old new → IsDurable new → IsDurable old
hands_durable old new hands durable = elim hands [
  | inl same ↦ subst IsDurable same durable
  | inr (inl part) ↦ absurd (touched_not old (subst IsDurable part durable))
  | inr (inr all) ↦
      let is : IsDurable (written_out old) = subst IsDurable all durable in
      let parts : IsTrue old.synced × IsTrue (old.gathered.count == 0) = and_parts old.synced (old.gathered.count == 0) is.1 in
      (eqb-true old.gathered.count 0 parts.1, parts.0)
]

pub all_hand_durable : (old new : List (Option DiskState)) → AllHandOn old new → AreDurable new → AreDurable old
all_hand_durable old new all durable disk = hands_durable (disk_at old disk) (disk_at new disk) (all.each disk) (durable disk)

-- each disk but one is written out
abbrev pub OthersChange : ℕ → ℕ → DiskState → DiskState → Type 0
OthersChange kept disk old new = (disk ≡ kept → new ≡ old) × (disk ≢ kept → new ≡ written_out old)

-- a disk is handed on, and where all went well it is written out
abbrev pub OutWhere : Bool → ℕ → DiskState → DiskState → Type 0
OutWhere done disk old new = HandsOn old new × (IsTrue done → new ≡ written_out old)

-- after one more, which went well or didn't
pub out_less : (done more : Bool) (at : ℕ) (old new : List (Option DiskState)) → Through (OutWhere done) at old new → Through (OutWhere (done && more)) at old new
out_less done more at old new before = record {
  shapes = before.shapes;
  done = λ disk lt. (let one = before.done disk lt in one.0, λ all. (before.done disk lt).1 (and_parts done more all).0);
  rest = before.rest;
}

-- a disk is synced or failed to be
abbrev pub SyncedHere : ℕ → DiskState → DiskState → Type 0
SyncedHere disk old new = MaySync old new

-- each disk before a place is durable
abbrev pub DurableTo : ℕ → List (Option DiskState) → Type 0
DurableTo at disks = (disk : ℕ) → disk < at → IsDurable (disk_at disks disk)

pub durable_more : (at : ℕ) (disks : List (Option DiskState)) → DurableTo at disks → IsDurable (disk_at disks at) → DurableTo (at + 1) disks
durable_more at disks before here disk lt = elim (cases_lt disk at) [
  | inl sooner ↦ before disk sooner
  | inr later ↦ let same : at ≡ disk = omega (arith, lt, later) in subst (λ (k : ℕ). IsDurable (disk_at disks k)) same here
]

pub durable_all : (at : ℕ) (disks : List (Option DiskState)) → length disks ≤ at → DurableTo at disks → AreDurable disks
durable_all at disks enough before disk = elim (cases_lt disk at) [
  | inl sooner ↦ before disk sooner
  | inr past ↦ subst IsDurable (sym (past_end disks disk (omega arith))) (refl, refl)
]

-- after one more was synced all are durable exactly where those before it were, and its sync went well
pub durable_step : (done well : Bool) (at : ℕ) (mid new : List (Option DiskState)) → (IsTrue done ↔ DurableTo at mid) → IsOnlyAt at mid new → (IsTrue well ↔ IsDurable (disk_at new at))
    → IsTrue (done && well) ↔ DurableTo (at + 1) new
durable_step done well at mid new before only here = (
  λ all.
      let parts : IsTrue done × IsTrue well = and_parts done well all in
      let first : DurableTo at mid = before.0 parts.0 in
      durable_more at new (λ disk lt. subst IsDurable (sym (only.others disk (λ e. omega (arith, e, lt)))) (first disk lt)) (here.0 parts.1),
  λ all.
      let first : DurableTo at mid = λ disk lt. subst IsDurable (only.others disk (λ e. omega (arith, e, lt))) (all disk (omega (arith, lt))) in
      and_from done well (before.1 first) (here.1 (all at (omega arith))),
)

-- what a call answered, and what `is_ok` made of it
pub well_from : {T E : Type 0} → (r : Result T E) (well : Bool) (P : Type 0) → well ≡ is_ok r → OnOk r P → OnErr r (P → ⊥) → IsTrue well ↔ P
well_from (Ok x) well P is ok err = (λ _. ok, λ _. is)
well_from (Err e) well P is ok err = (λ yes. absurd (false≢true (sym is ∙ yes)), λ p. absurd (err p))

pub out_one : {T E : Type 0} → (r : Result T E) (well done : Bool) (disk : ℕ) (old new : DiskState) → well ≡ is_ok r → OnOk r (new ≡ written_out old) → OnErr r (new ≡ touched old)
    → OutWhere (done && well) disk old new
out_one (Ok x) well done disk old new is ok err = (inr (inr ok), λ _. ok)
out_one (Err e) well done disk old new is ok err = (inr (inl err), λ all. absurd (false≢true (sym is ∙ (and_parts done well all).1)))

-- a sector is taken where there is room, and after what is gathered was written out where there is none
pub takes_from : {T E : Type 0} → (r : Result T E) (A B C D : Type 0) (old new : DiskState) (sector : ℕ) (bytes : List ℕ) → shape_of new ≡ shape_of old
    → (HasRoom old.gathered sector → IsOk r × IsPut old.gathered sector bytes new.gathered × A × B)
    → ((HasRoom old.gathered sector → ⊥) → OnOk r (IsPut (emptied old.gathered) sector bytes new.gathered × C × D))
    → OnOk r (IsTrue new.synced → IsTrue old.synced) → OnOk r (Takes old sector bytes new)
takes_from (Ok x) A B C D old new sector bytes shape near far synced = record {
  shape = shape;
  near = λ room. (near room).1;
  far = λ none. (far none).0;
  synced = synced;
}
takes_from (Err e) A B C D old new sector bytes shape near far synced = tt

-- then something is gathered
put_some : (old new : HeldSectors) (sector : ℕ) (bytes : List ℕ) → IsPut old sector bytes new → new.count ≡ 0 → ⊥
put_some old new sector bytes put none = let held : IsHeld new sector = put.held in omega (arith, held.0, held.1, none)

takes_not : (old new : DiskState) (sector : ℕ) (bytes : List ℕ) → Takes old sector bytes new → IsDurable new → ⊥
takes_not old new sector bytes takes durable =
    let none : HasRoom old.gathered sector → ⊥ = λ room. put_some old.gathered new.gathered sector bytes (takes.near room) durable.0 in
    put_some (emptied old.gathered) new.gathered sector bytes (takes.far none) durable.0

on_ok : {T E P Q : Type 0} → (r : Result T E) → OnOk r P → (P → Q) → OnOk r Q
on_ok (Ok x) p f = f p
on_ok (Err e) p f = tt

on_err : {T E P Q : Type 0} → (r : Result T E) → OnErr r P → (P → Q) → OnErr r Q
on_err (Ok x) p f = tt
on_err (Err e) p f = f p

either : {T E P Q R : Type 0} → (r : Result T E) → OnOk r P → OnErr r Q → (P → R) → (Q → R) → R
either (Ok x) p q f g = f p
either (Err e) p q f g = g q

-- What a write of one disk makes of all, once the others were written out.
module _ {T E : Type 0} (r : Result T E) (old first mid items : List (Option DiskState)) (disk from at sector : ℕ) (bytes : List ℕ) (read written : Option DiskState)
    (begun : first ≡ old) (named : from ≡ disk) (placed : at ≡ disk) (inside : items ≡ mid) (in_range : sector < (disk_at old disk).sectors)
    (value : read ≡ get_or items at read) (shape : option_map shape_of written ≡ option_map shape_of read)
    (hands : AllHandOn first mid) (own : disk_at mid from ≡ disk_at first from)
    (ok : OnOk r (Takes (disk_of read) sector bytes (disk_of written))) (err : OnErr r (disk_of written ≡ touched (disk_of read))) where
  kept : disk_at mid disk ≡ disk_at old disk
  kept = ap (λ (k : ℕ). disk_at mid k) (sym named) ∙ own ∙ ap (λ (k : ℕ). disk_at first k) named ∙ ap (λ (l : List (Option DiskState)). disk_at l disk) begun

  there : disk < length mid
  there = is_there mid disk sector (subst (λ (d : DiskState). sector < d.sectors) (sym kept) in_range)

  one : IsSet disk read written mid (set items at written)
  one = set_one items mid at disk read written inside placed there value shape

  was : disk_of read ≡ disk_at old disk
  was = one.was ∙ kept

  shapes_stay : shapes_of (set items at written) ≡ shapes_of old
  shapes_stay = one.only.shapes ∙ hands.shapes ∙ ap (λ (l : List (Option DiskState)). shapes_of l) begun

  pub write_taken : OthersWrittenOut first from mid → OnOk r (WriteTaken old disk sector bytes (set items at written))
  write_taken others = on_ok r ok (λ takes. record {
    shapes = shapes_stay;
    taken = subst (λ (d : DiskState). Takes d sector bytes (disk_at (set items at written) disk)) was (subst (λ (d : DiskState). Takes (disk_of read) sector bytes d) (sym one.is) takes);
    others = λ other differs. one.only.others other differs ∙ others other (λ e. differs (e ∙ named)) ∙ ap (λ (l : List (Option DiskState)). written_out (disk_at l other)) begun;
  })

  pub write_failed : OnErr r (AllHandOn old (set items at written))
  write_failed = on_err r err (λ part. record {
    shapes = shapes_stay;
    each = λ other. elim (cases_eq other disk) [
      | inl e ↦ subst (λ (k : ℕ). HandsOn (disk_at old k) (disk_at (set items at written) k)) (sym e) (inr (inl (one.is ∙ part ∙ ap touched was)))
      | inr n ↦ subst (λ (l : List (Option DiskState)). HandsOn (disk_at l other) (disk_at (set items at written) other)) begun
          (subst (λ (d : DiskState). HandsOn (disk_at first other) d) (sym (one.only.others other n)) (hands.each other))
    ];
  })

  pub write_not_durable : AreDurable (set items at written) → ⊥
  write_not_durable all =
      let durable : IsDurable (disk_of written) = subst IsDurable one.is (all disk) in
      either r ok err (λ takes. takes_not (disk_of read) (disk_of written) sector bytes takes durable) (λ part. touched_not (disk_of read) (subst IsDurable part durable))
