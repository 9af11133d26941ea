-- New zones that are marked and written, one after the other.
use Rattle.std.proofs.Common.{◌≡◌, ◌≢◌, ◌≤◌, ◌<◌, ◌+◌, ◌⊎◌, ◌^◌, ℕ, true, List, length, refl, sym, ◌∙◌, ap, subst, arith, inl, inr}
use Rattle.std.specs.Prelude.{slice_index}
use Rattle.std.proofs.lemmas.Bool.{cases_eq}
use Rattle.disk_trait.specs.declared.disks.Disks.{Ghosts}
use Rattle.disk_trait.specs.Past.{Image}
use Rattle.disk_trait.specs.Moments.{IsTold, now, begun}
use Rattle.lilo_model.specs.MinixLayout as model-layout
use Rattle.lilo_model.specs.MinixLayout.{Kind, IsSuper, number_size}
use Rattle.lilo_model.specs.MinixNames.{Refers}
use Rattle.lilo_model.specs.MinixParts as model
use Rattle.minix_steps.specs.BitLaws.{OneZoneMark}
use Rattle.minix_layout.specs.View.{kind_view, super_view}
use Rattle.minix_layout.specs.declared.superblock.Super.{Super}
use Rattle.minix_steps.specs.StepLaws.{OneZone}
use Rattle.minix_steps.specs.Steps.{IsReady, Steps}
use Rattle.minix_steps.specs.Written.{parts_now}
use Rattle.minix_steps.proofs.StepLemmas.{no_step, same_view}
use Rattle.minix_steps.proofs.RegionLemmas.{zone_behind}
use Rattle.minix_zones.specs.Volume.{volume_view, past_of, KeepsVolume}
use Rattle.minix_zones.specs.declared.volume.Volume.{Volume}
use Rattle.minix_grow.specs.Others.{IsOneOf, IsNoneOf, ChangesZones, ChangesZonesNow}
use Rattle.minix_grow.specs.Way.{grown_bytes}
use Rattle.minix_grow.specs.Zones.{AreData, AreUnused, AreMarked, AreWritten, AreGrownNow}

-- no step is a step
pub no_steps : {D : Type 0} {disks : Ghosts D} (volume : Volume D disks) → IsReady volume → Steps volume volume
no_steps volume ready =
    no_step volume volume ready
    (record { same_disks = record { same_past = refl; same_size = refl; same_count = refl; same_geometry = refl }; same_span = refl; same_layout = refl; same_reference = refl })
    (omega arith)

pub data_stay : {D : Type 0} {disks : Ghosts D} (old mid : Volume D disks) (zones : List ℕ) → KeepsVolume old mid → AreData old.layout zones → AreData mid.layout zones
data_stay old mid zones kept those = let P : Super → Type 0 = λ layout. AreData layout zones in subst P (sym kept.same_layout) those

pub unused_stay : {D : Type 0} {disks : Ghosts D} (old mid : Volume D disks) (zones : List ℕ) → Steps old mid → AreUnused old zones → AreUnused mid zones
unused_stay old mid zones steps unused = λ level low. steps.unused (slice_index zones level) (unused level low)

-- one more zone
module _ {D : Type 0} {disks : Ghosts D} (mid new : Volume D disks) (zones : List ℕ) (count zone : ℕ) (those : AreData mid.layout zones) (is : zone ≡ slice_index zones count) (there : count < length zones) where
  marked-by : OneZoneMark (volume_view mid) (parts_now mid) (parts_now new) zone true → AreMarked mid zones count → (level : ℕ) → level < count + 1 → (slice_index zones level ≡ zone) ⊎ (slice_index zones level ≢ zone)
      → (level ≡ count) ⊎ (level ≢ count) → (parts_now new).has_zone (slice_index zones level) ≡ true
  marked-by mark marked level low (inl same) either = ap (parts_now new).has_zone same ∙ mark.here
  marked-by mark marked level low (inr apart) (inl last) = absurd (apart (ap (slice_index zones) last ∙ sym is))
  marked-by mark marked level low (inr apart) (inr lower) =
      let below : level < count = omega (arith, low, lower) in
      let inside : level < length zones = omega (arith, below, there) in
      mark.other_zones (slice_index zones level) (those.from level inside) (those.below level inside) apart ∙ marked level below

  pub marked_more : OneZoneMark (volume_view mid) (parts_now mid) (parts_now new) zone true → AreMarked mid zones count → AreMarked new zones (count + 1)
  marked_more mark marked level low = marked-by mark marked level low (cases_eq (slice_index zones level) zone) (cases_eq level count)

  module _ (bytes : List ℕ) (one : OneZone (volume_view mid) (parts_now mid) (parts_now new) zone bytes) where
    written-by : (kind : Kind) (block : ℕ) → bytes ≡ grown_bytes kind block zones count → AreWritten kind mid block zones count → (level : ℕ) → level < count + 1 → (level ≡ count) ⊎ (level ≢ count)
        → (parts_now new).zone (slice_index zones level) ≡ grown_bytes kind block zones level
    written-by kind block same written level low (inl last) =
        ap (λ l. (parts_now new).zone (slice_index zones l)) last
        ∙ (ap (parts_now new).zone (sym is) ∙ (one.here ∙ (same ∙ ap (grown_bytes kind block zones) (sym last))))
    written-by kind block same written level low (inr lower) =
        let below : level < count = omega (arith, low, lower) in
        one.others (slice_index zones level) (λ e. those.apart level count below there (sym is ∙ sym e)) ∙ written level below

    pub written_more : (kind : Kind) (block : ℕ) → bytes ≡ grown_bytes kind block zones count → AreWritten kind mid block zones count → AreWritten kind new block zones (count + 1)
    written_more kind block same written level low = written-by kind block same written level low (cases_eq level count)

    pub marked_stay : (all : ℕ) → all ≤ length zones → AreMarked mid zones all → AreMarked new zones all
    marked_stay all few marked level low =
        let inside : level < length zones = omega (arith, low, few) in
        one.zone_marks (slice_index zones level) (those.below level inside) ∙ marked level low

-- ---- all that changes

changes-join : (super : model-layout.Super) (old mid new : model.Parts) (zones : List ℕ) → ChangesZones super old mid zones → ChangesZones super mid new zones → ChangesZones super old new zones
changes-join super old mid new zones one two = record {
  bytes = λ zone is none. two.bytes zone is none ∙ one.bytes zone is none;
  nodes = λ number is. two.nodes number is ∙ one.nodes number is;
  marks = λ number is. two.marks number is ∙ one.marks number is;
  zone_marks = λ zone is none. two.zone_marks zone is none ∙ one.zone_marks zone is none;
  stay_marked = λ zone is set. two.stay_marked zone is (one.stay_marked zone is set);
}

module _ (view : model.Volume) (old new : model.Parts) (zones : List ℕ) (zone : ℕ) (one : IsOneOf zones zone) where
  another : (other : ℕ) → IsNoneOf zones other → other ≢ zone
  another other none same = none one.at one.low (one.is ∙ sym same)

  changes-mark : OneZoneMark view old new zone true → ChangesZones view.layout old new zones
  changes-mark mark = record {
    bytes = λ other is none. mark.bytes other is.0;
    nodes = λ number is. mark.nodes number;
    marks = λ number is. mark.inodes number is.1;
    zone_marks = λ other is none. mark.other_zones other is.0 is.1 (another other none);
    stay_marked = λ other is set. by other is.0 is.1 set (cases_eq other zone);
  }
    where
      by : (other : ℕ) → view.layout.first ≤ other → other < view.layout.zones → old.has_zone other ≡ true → (other ≡ zone) ⊎ (other ≢ zone) → new.has_zone other ≡ true
      by other from below set (inl same) = ap new.has_zone same ∙ mark.here
      by other from below set (inr apart) = mark.other_zones other from below apart ∙ set

  changes-bytes : (bytes : List ℕ) → OneZone view old new zone bytes → ChangesZones view.layout old new zones
  changes-bytes bytes change = record {
    bytes = λ other is none. change.others other (another other none);
    nodes = λ number is. change.nodes number is.0 is.1;
    marks = λ number is. change.marks number is.1;
    zone_marks = λ other is none. change.zone_marks other is.1;
    stay_marked = λ other is set. change.zone_marks other is.1 ∙ set;
  }

module _ {D : Type 0} {disks : Ghosts D} (old new : Volume D disks) (zones : List ℕ) where
  pub changes_same : now (past_of new) ≡ now (past_of old) → ChangesZonesNow old new zones
  changes_same same =
      let P : Image → Type 0 = λ image. ChangesZones (super_view old.layout) (parts_now old) (model.parts_of (volume_view old) image) zones in
      subst P (sym same) (record { bytes = λ zone is none. refl; nodes = λ number is. refl; marks = λ number is. refl; zone_marks = λ zone is none. refl; stay_marked = λ zone is set. set })

  pub changes_marked : (zone : ℕ) → KeepsVolume old new → IsOneOf zones zone → OneZoneMark (volume_view old) (parts_now old) (parts_now new) zone true → ChangesZonesNow old new zones
  changes_marked zone kept one mark =
      let P : model.Volume → Type 0 = λ view. OneZoneMark (volume_view old) (parts_now old) (model.parts_of view (now (past_of new))) zone true in
      changes-mark (volume_view old) (parts_now old) _ zones zone one (subst P (same_view old new kept) mark)

  pub changes_written : (zone : ℕ) (bytes : List ℕ) → KeepsVolume old new → IsOneOf zones zone → OneZone (volume_view old) (parts_now old) (parts_now new) zone bytes → ChangesZonesNow old new zones
  changes_written zone bytes kept one change =
      let P : model.Volume → Type 0 = λ view. OneZone (volume_view old) (parts_now old) (model.parts_of view (now (past_of new))) zone bytes in
      changes-bytes (volume_view old) (parts_now old) _ zones zone one bytes (subst P (same_view old new kept) change)

pub changes_after : {D : Type 0} {disks : Ghosts D} (old mid new : Volume D disks) (zones : List ℕ) → KeepsVolume old mid → ChangesZonesNow old mid zones → ChangesZonesNow mid new zones → ChangesZonesNow old new zones
changes_after old mid new zones kept one two =
    let P : model.Volume → Type 0 = λ view. ChangesZones view.layout (model.parts_of view (now (past_of mid))) (model.parts_of view (now (past_of new))) zones in
    changes-join (super_view old.layout) (parts_now old) (model.parts_of (volume_view old) (now (past_of mid))) _ zones one (subst P (same_view old mid kept) two)

-- ---- numbers

-- numbers of zones fit where they lie
pub zones_fit : (layout : Super) (sectors : ℕ) (zones : List ℕ) → IsSuper (super_view layout) sectors → AreData layout zones → (level : ℕ) → level < length zones → slice_index zones level < 256 ^ number_size (kind_view layout.kind)
zones_fit layout sectors zones whole those level low = let a = those.below level low in let b = whole.zones_fit in omega (arith, a, b)

-- a flush changes no part
pub parts_same : {D : Type 0} {disks : Ghosts D} (old new : Volume D disks) → KeepsVolume old new → now (past_of new) ≡ now (past_of old) → parts_now new ≡ parts_now old
parts_same old new kept same =
    ap (λ view. model.parts_of view (now (past_of new))) (same_view old new kept) ∙ ap (model.parts_of (volume_view old)) same

-- once they are durable they complete the way
pub are_grown : {D : Type 0} {disks : Ghosts D} (new : Volume D disks) (block : ℕ) (zones : List ℕ) → AreData new.layout zones → AreUnused new zones → IsTold (past_of new) → begun (past_of new) ≡ now (past_of new)
    → AreMarked new zones (length zones) → AreWritten (kind_view new.layout.kind) new block zones (length zones) → AreGrownNow new block zones
are_grown new block zones those unused told same marked written = record {
  some = λ level low none. let a = those.from level low in let b = zone_behind (super_view new.layout) new.span.count new.whole in omega (arith, a, b, none);
  apart = those.apart;
  fresh = λ level low. record {
    range = (those.from level low, those.below level low);
    marked = marked level low;
    unused = λ number at refers.
        let P : Image → Type 0 = λ image. Refers (super_view new.layout) (model.parts_of (volume_view new) image) number at (slice_index zones level) in
        (unused level low).unused told number at (subst P (sym same) refers);
  };
  bytes = written;
}

-- what was marked and written is so after a flush
module _ {D : Type 0} {disks : Ghosts D} (old new : Volume D disks) (zones : List ℕ) (count : ℕ) (kept : KeepsVolume old new) (same : now (past_of new) ≡ now (past_of old)) where
  pub marked_after : AreMarked old zones count → AreMarked new zones count
  marked_after marked level low = ap (λ (parts : model.Parts). parts.has_zone (slice_index zones level)) (parts_same old new kept same) ∙ marked level low

  pub written_after : (kind : Kind) (block : ℕ) → AreWritten kind old block zones count → AreWritten kind new block zones count
  written_after kind block written level low = ap (λ (parts : model.Parts). parts.zone (slice_index zones level)) (parts_same old new kept same) ∙ written level low

-- zones of a kind of volume
pub written_of : {D : Type 0} {disks : Ghosts D} (old new volume : Volume D disks) (block : ℕ) (zones : List ℕ) (count : ℕ) → KeepsVolume old new → AreWritten (kind_view old.layout.kind) volume block zones count → AreWritten (kind_view new.layout.kind) volume block zones count
written_of old new volume block zones count kept = let P : Super → Type 0 = λ layout. AreWritten (kind_view layout.kind) volume block zones count in subst P (sym kept.same_layout)
