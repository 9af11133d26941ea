-- What the bits of many zones change of the parts of a volume.
use Rattle.std.proofs.Common.{◌≡◌, ◌≢◌, ◌≤◌, ◌<◌, ◌⊎◌, ◌+◌, ◌%◌, ◌||◌, ◌==◌, ℕ, suc, Bool, true, false, List, [], ◌∷◌, ◌++◌, length, All, refl, sym, ap, ap₂, ◌∙◌, subst, arith, ⊎_elim}
use Rattle.std.proofs.lemmas.Bool.{cases_Bool, cases_eq}
use Rattle.std.proofs.lemmas.Bool.Decides.{nat_tests}
use Rattle.std.proofs.lemmas.List.{length-set}
use Rattle.disk_trait.specs.Past.{with_sector}
use Rattle.disk_trait.proofs.MomentLemmas.{here, here_true, here_is, with_same, with_other}
use Rattle.lilo_model.specs.Disks.{Image}
use Rattle.lilo_model.specs.MinixLayout.{Super, IsSuper}
use Rattle.lilo_model.specs.MinixParts.{Parts, Volume, sector_of, parts_of, zone_bit, zone_mark_sector, bit, with_bit}
use Rattle.minix_change_laws.specs.Beside.{IsDataZone, IsOfBitmaps, Harmless}
use Rattle.minix_change_laws.proofs.Harmless.{set_bit_law}
use Rattle.lilo_model.specs.MinixNames.{IsSound}
use Rattle.minix_steps.specs.BitLaws.{OneZoneMark, with_mark}
use Rattle.minix_steps.specs.Numbers.{has_number}
use Rattle.minix_steps.proofs.BitLemmas.{bit_elsewhere}
use Rattle.minix_steps.proofs.MarkLaws.{one_zone_mark}
use Rattle.minix_steps.specs.Written.{with_sector_of}
use Rattle.minix_fill.specs.Marks.{with_marks, ZonesMarked}

-- ---- sectors that are written twice, or as they are

same_at : (image : Image) (disk sector d s : ℕ) → with_sector image disk sector (image disk sector) d s ≡ image d s
same_at image disk sector d s = ⊎_elim
    (λ is.
    let at = here_true disk sector d s is in
    with_same image disk sector (image disk sector) d s is ∙ ap₂ (λ (x y : ℕ). image x y) at.0 at.1)
    (λ isnt. with_other image disk sector (image disk sector) d s isnt)
    (cases_Bool (here disk sector d s))

pub same_written : (image : Image) (disk sector : ℕ) → with_sector image disk sector (image disk sector) ≡ image
same_written image disk sector = λ i d s. same_at image disk sector d s i

twice_at : (image : Image) (disk sector : ℕ) (one two : List ℕ) (d s : ℕ)
    → with_sector (with_sector image disk sector one) disk sector two d s ≡ with_sector image disk sector two d s
twice_at image disk sector one two d s = ⊎_elim
    (λ is. with_same (with_sector image disk sector one) disk sector two d s is ∙ sym (with_same image disk sector two d s is))
    (λ isnt.
    with_other (with_sector image disk sector one) disk sector two d s isnt
    ∙ with_other image disk sector one d s isnt
    ∙ sym (with_other image disk sector two d s isnt))
    (cases_Bool (here disk sector d s))

pub twice_written : (image : Image) (disk sector : ℕ) (one two : List ℕ)
    → with_sector (with_sector image disk sector one) disk sector two ≡ with_sector image disk sector two
twice_written image disk sector one two = λ i d s. twice_at image disk sector one two d s i

pub sector_written : (volume : Volume) (image : Image) (sector : ℕ) (bytes : List ℕ) → sector_of volume (with_sector_of volume image sector bytes) sector ≡ bytes
sector_written volume image sector bytes =
    with_same image volume.span.disk (volume.span.start + sector) bytes volume.span.disk (volume.span.start + sector)
    (here_is volume.span.disk (volume.span.start + sector) volume.span.disk (volume.span.start + sector) refl refl)

-- ---- bitmap bits join

or_assoc : (a b c : Bool) → ((a || b) || c) ≡ (a || (b || c))
or_assoc true b c = refl
or_assoc false b c = refl

or_false : (a : Bool) → a ≡ (a || false)
or_false true = refl
or_false false = refl

or_true : (a b : Bool) → true ≡ (a || (true || b))
or_true true b = refl
or_true false b = refl

has_append : (xs ys : List ℕ) (n : ℕ) → has_number (xs ++ ys) n ≡ (has_number xs n || has_number ys n)
unfolding has_number
has_append [] ys n = refl
has_append (x ∷ xs) ys n = ap (λ b. (n == x) || b) (has_append xs ys n) ∙ sym (or_assoc (n == x) (has_number xs n) (has_number ys n))

has_first : (zone other : ℕ) (zones : List ℕ) → has_number (zone ∷ zones) other ≡ ((other == zone) || has_number zones other)
unfolding has_number
has_first zone other zones = refl

pub marked_none : (volume : Volume) (parts : Parts) → ZonesMarked volume parts parts []
unfolding has_number
marked_none volume parts = record {
  marks = λ zone data_zone. or_false (parts.has_zone zone);
  others = λ zone out. refl;
  inodes = λ number there. refl;
  nodes = λ number. refl;
  bytes = λ zone from. refl;
}

pub marked_join : (volume : Volume) (old mid new : Parts) (xs ys : List ℕ) → ZonesMarked volume old mid xs → ZonesMarked volume mid new ys → ZonesMarked volume old new (xs ++ ys)
marked_join volume old mid new xs ys one two = record {
  marks = λ zone data_zone.
      two.marks zone data_zone
      ∙ ap (λ b. b || has_number ys zone) (one.marks zone data_zone)
      ∙ or_assoc (old.has_zone zone) (has_number xs zone) (has_number ys zone)
      ∙ ap (λ b. old.has_zone zone || b) (sym (has_append xs ys zone));
  others = λ zone out. two.others zone out ∙ one.others zone out;
  inodes = λ number there. two.inodes number there ∙ one.inodes number there;
  nodes = λ number. two.nodes number ∙ one.nodes number;
  bytes = λ zone from. two.bytes zone from ∙ one.bytes zone from;
}

-- bit 0 and those past the last zone stay
abbrev KeepsOthers : Volume → Parts → Parts → Type 0
KeepsOthers volume old new =
    (zone : ℕ) → (zone < volume.layout.first) ⊎ (volume.layout.zones ≤ zone) → new.has_zone zone ≡ old.has_zone zone

marked_first : (volume : Volume) (old mid new : Parts) (zone : ℕ) (zones : List ℕ) → OneZoneMark volume old mid zone true → KeepsOthers volume old mid → ZonesMarked volume mid new zones → ZonesMarked volume old new (zone ∷ zones)
marked_first volume old mid new zone zones one keeps two = record {
  others = λ other out. two.others other out ∙ keeps other out;
  marks = λ other data_zone. two.marks other data_zone ∙ ⊎_elim
      (λ is.
      let t : (other == zone) ≡ true = grind (arith, nat_tests) in
      let marked : mid.has_zone other ≡ true = ap mid.has_zone is ∙ one.here in
      ap (λ b. b || has_number zones other) marked
      ∙ or_true (old.has_zone other) (has_number zones other)
      ∙ ap (λ b. old.has_zone other || (b || has_number zones other)) (sym t)
      ∙ ap (λ b. old.has_zone other || b) (sym (has_first zone other zones)))
      (λ apart.
      let f : (other == zone) ≡ false = grind (arith, nat_tests) in
      ap (λ b. b || has_number zones other) (one.other_zones other data_zone.0 data_zone.1 apart)
      ∙ ap (λ b. old.has_zone other || (b || has_number zones other)) (sym f)
      ∙ ap (λ b. old.has_zone other || b) (sym (has_first zone other zones)))
      (cases_eq other zone);
  inodes = λ number there. two.inodes number there ∙ one.inodes number there;
  nodes = λ number. two.nodes number ∙ one.nodes number;
  bytes = λ other from. two.bytes other from ∙ one.bytes other from;
}

-- ---- in one sector

abbrev pub AreIn : Super → ℕ → List ℕ → Type 0
AreIn super sector zones = All (λ zone. IsDataZone super zone × (zone_mark_sector super zone ≡ sector)) zones

-- another bit than a zone's stays where that one is set
module _ (volume : Volume) (image : Image) (zone other : ℕ) (apart : zone_bit volume.layout other ≢ zone_bit volume.layout zone)
    (long : length (sector_of volume image (zone_mark_sector volume.layout zone)) ≡ 512) where
  abbrev sector : ℕ
  sector = zone_mark_sector volume.layout zone

  abbrev marked : Image
  marked = with_mark volume image (zone_mark_sector volume.layout zone) (zone_bit volume.layout zone % 4096) true

  beside : zone_mark_sector volume.layout other ≡ zone_mark_sector volume.layout zone → (parts_of volume marked).has_zone other ≡ (parts_of volume image).has_zone other
  unfolding parts_of
  beside same =
      let k : ℕ = zone_bit volume.layout other % 4096 in
      let differ : k ≢ zone_bit volume.layout zone % 4096 = λ e. apart (omega arith) in
      let bytes : List ℕ = sector_of volume image sector in
      ap (λ (s : ℕ). bit (sector_of volume marked s) k) same
      ∙ (ap (λ (b : List ℕ). bit b k) (sector_written volume image sector (with_bit bytes (zone_bit volume.layout zone % 4096) true))
      ∙ (bit_elsewhere bytes (zone_bit volume.layout zone % 4096) k true (omega (arith, long)) differ
      ∙ sym (ap (λ (s : ℕ). bit (sector_of volume image s) k) same)))

  elsewhere : zone_mark_sector volume.layout other ≢ zone_mark_sector volume.layout zone → (parts_of volume marked).has_zone other ≡ (parts_of volume image).has_zone other
  unfolding parts_of
  elsewhere differ =
      let isnt : here volume.span.disk (volume.span.start + sector) volume.span.disk (volume.span.start + zone_mark_sector volume.layout other) ≡ false =
      (let start : volume.span.start + sector ≢ volume.span.start + zone_mark_sector volume.layout other = λ e. differ (omega arith) in grind (arith, nat_tests)) in
      ap (λ (b : List ℕ). bit b (zone_bit volume.layout other % 4096))
      (with_other image volume.span.disk (volume.span.start + sector) (with_bit (sector_of volume image sector) (zone_bit volume.layout zone % 4096) true) volume.span.disk (volume.span.start + zone_mark_sector volume.layout other) isnt)

  other_bit : (parts_of volume marked).has_zone other ≡ (parts_of volume image).has_zone other
  other_bit = ⊎_elim beside elsewhere (cases_eq (zone_mark_sector volume.layout other) (zone_mark_sector volume.layout zone))

others_kept : (volume : Volume) (image : Image) (zone : ℕ) → IsDataZone volume.layout zone → length (sector_of volume image (zone_mark_sector volume.layout zone)) ≡ 512
    → KeepsOthers volume (parts_of volume image) (parts_of volume (with_mark volume image (zone_mark_sector volume.layout zone) (zone_bit volume.layout zone % 4096) true))
others_kept volume image zone range long other out =
    other_bit volume image zone other
    (⊎_elim (λ low. λ e. let r = range.0 in omega (arith, low, e, r)) (λ high. λ e. let r = range.0 in let b = range.1 in omega (arith, high, e, r, b)) out)
    long

pub bit_length : (bytes : List ℕ) (at : ℕ) → length (with_bit bytes at true) ≡ length bytes
unfolding with_bit
bit_length bytes at = length-set bytes _ _

module _ (volume : Volume) (is : IsSuper volume.layout volume.span.count) (sector : ℕ) where
  pub marked_here : (zones : List ℕ) (image : Image) → AreIn volume.layout sector zones → length (sector_of volume image sector) ≡ 512
      → ZonesMarked volume (parts_of volume image) (parts_of volume (with_sector_of volume image sector (with_marks volume.layout (sector_of volume image sector) zones))) zones
  marked_here [] image within long =
      subst (λ (i : Image). ZonesMarked volume (parts_of volume image) (parts_of volume i) [])
      (sym (same_written image volume.span.disk (volume.span.start + sector)))
      (marked_none volume (parts_of volume image))
  marked_here (zone ∷ zones) image within long =
      let head = within 0 0 (omega arith) in
      let at : ℕ = zone_bit volume.layout zone % 4096 in
      let bytes : List ℕ = with_bit (sector_of volume image sector) at true in
      let mid : Image = with_sector_of volume image sector bytes in
      let held : sector_of volume mid sector ≡ bytes = sector_written volume image sector bytes in
      let O : ℕ → Type 0 = λ s. OneZoneMark volume (parts_of volume image) (parts_of volume (with_mark volume image s at true)) zone true in
      let L : ℕ → Type 0 = λ s. length (sector_of volume image s) ≡ 512 in
      let one = subst O head.1 (one_zone_mark volume image zone true is head.0.0 head.0.1 (subst L (sym head.1) long)) in
      let K : ℕ → Type 0 = λ s. KeepsOthers volume (parts_of volume image) (parts_of volume (with_mark volume image s at true)) in
      let keeps = subst K head.1 (others_kept volume image zone head.0 (subst L (sym head.1) long)) in
      let rest = marked_here zones mid (λ k d inside. within (suc k) d (omega (arith, inside)))
      (ap (λ (b : List ℕ). length b) held ∙ bit_length (sector_of volume image sector) at ∙ long) in
      let same : with_sector_of volume mid sector (with_marks volume.layout (sector_of volume mid sector) zones)
      ≡ with_sector_of volume image sector (with_marks volume.layout bytes zones) =
      ap (λ (b : List ℕ). with_sector_of volume mid sector (with_marks volume.layout b zones)) held
      ∙ twice_written image volume.span.disk (volume.span.start + sector) bytes (with_marks volume.layout bytes zones) in
      marked_first volume (parts_of volume image) (parts_of volume mid) _ zone zones one keeps
      (subst (λ (i : Image). ZonesMarked volume (parts_of volume mid) (parts_of volume i) zones) same rest)

-- ---- bits may be set

pub marks_harmless : (volume : Volume) (old : Image) (sector : ℕ) → IsSound volume old → IsOfBitmaps volume.layout sector
    → (zones bytes : List ℕ) → Harmless volume old sector bytes → Harmless volume old sector (with_marks volume.layout bytes zones)
marks_harmless volume old sector sound range [] bytes harmless = harmless
marks_harmless volume old sector sound range (zone ∷ zones) bytes harmless =
    marks_harmless volume old sector sound range zones (with_bit bytes (zone_bit volume.layout zone % 4096) true)
    (set_bit_law volume old sector (zone_bit volume.layout zone % 4096) bytes sound range (omega arith) harmless)
