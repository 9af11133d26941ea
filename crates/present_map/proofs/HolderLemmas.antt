-- What a file holds of a map.
use Rattle.std.proofs.Common.{◌≡◌, ◌<◌, ◌+◌, ◌-◌, ◌/◌, ◌==◌, ◌&&◌, ◌||◌, ◌∙◌, ℕ, Bool, true, false, refl, sym, ap, subst, List, [], ◌∷◌, map, drop, length, add-one, Option, None, Some, Result, Ok, Err, if◌then◌else◌}
use Rattle.std.specs.Prelude.{slice_index_or}
use Rattle.std.specs.List.{list_all}
use Rattle.std.proofs.Math.Seq.{drop-cons}
use Rattle.disk_trait.specs.declared.disks.Disks.{Ghosts}
use Rattle.disk_trait.specs.Past.{Told}
use Rattle.lilo_model.specs.Disks.{Image, Machine, DiskSector}
use Rattle.lilo_model.specs.MinixLayout.{Inode}
use Rattle.lilo_model.specs.MinixParts as model
use Rattle.lilo_model.specs.MinixParts.{parts_of}
use Rattle.lilo_model.specs.MinixWalk as walks
use Rattle.lilo_model.specs.MinixWalk.{visits}
use Rattle.lilo_model.specs.Slots.{AddressFault, place_at}
use Rattle.lilo_model.specs.Slots as slots
use Rattle.minix_zones.specs.declared.visit.Visit.{Visit}
use Rattle.minix_zones.specs.declared.volume.Volume.{Volume}
use Rattle.minix_zones.specs.Volume.{volume_view, past_of, SameVolume}
use Rattle.minix_zones.specs.Walk.{Meets}
use Rattle.minix_zones.proofs.SameLemmas.{told_back}
use Rattle.sector_address.specs.Machine.{machine_of, OnDisks}
use Rattle.sector_address.specs.View.{slot_view}
use Rattle.sector_address.specs.declared.slot.Slot as declared
use Rattle.install_laws.specs.InstallVerdict.{is_of_volume, is_in_walk}
use Rattle.present_map.specs.Holder.{meets_zone, Seeks, zone_of_place}

-- the sector of a slot lies in a file's zones
abbrev pub is_within : model.Volume → Image → Machine → Inode → slots.Slot → Bool
is_within volume image machine node slot =
    is_in_walk volume (visits volume.layout (parts_of volume image) node) (place_at machine slot 0)

-- a fact on disks and their machine, before a call that left the volume alone
pub on_back : {D : Type 0} {disks : Ghosts D} (old new : Volume D disks) (P : model.Volume → Image → Machine → Type 0)
    → SameVolume old new → OnDisks disks new.disks.now (P (volume_view new)) → OnDisks disks old.disks.now (P (volume_view old))
on_back {disks = disks} old new P same told =
    let machine : machine_of disks new.disks.now ≡ machine_of disks old.disks.now = rw (same.same_disks.same_size, same.same_disks.same_geometry) refl in
    let M : Machine → Type 0 = λ machine. Told (past_of new) (λ now. P (volume_view new) now machine) in
    told_back old new (λ volume now. P volume now (machine_of disks old.disks.now)) same (subst M machine told)

-- ---- a walk

pub seeks-met :
    (met : Option Visit) (before after : List (Result walks.Visit model.ZoneFault)) → Meets (Ok met) before after → Seeks met before after
seeks-met None before after is = λ zone. rw is refl
seeks-met (Some visit) before after is = λ zone. rw is refl

pub seeks-refused : (fault : model.ZoneFault) (before after : List (Result walks.Visit model.ZoneFault)) → before ≡ Err fault ∷ [] → Seeks None before after
seeks-refused fault before after is = λ zone. rw is refl

pub met-here : (n zone : ℕ) (all rest : Bool) → all ≡ ((n == zone) || rest) → (n == zone) ≡ true → true ≡ all
met-here n zone all rest is same = sym (is ∙ ap (λ test. test || rest) same)

pub met-later : (n zone : ℕ) (all rest : Bool) → all ≡ ((n == zone) || rest) → (n == zone) ≡ false → all ≡ rest
met-later n zone all rest is other = is ∙ ap (λ test. test || rest) other

-- ---- a slot

pub in-none :
    (volume : model.Volume) (walked : List (Result walks.Visit model.ZoneFault)) (found : Result DiskSector AddressFault)
    → None ≡ zone_of_place volume found → false ≡ is_in_walk volume walked found
in-none volume walked (Err fault) none = refl
in-none volume walked (Ok place) none = by (is_of_volume volume place) none
  where
    by : (of : Bool) → None ≡ (if of then Some ((place.sector - volume.span.start) / 2) else None)
        → false ≡ (of && meets_zone ((place.sector - volume.span.start) / 2) walked)
    by true none = cc
    by false none = refl

pub in-some :
    (volume : model.Volume) (walked : List (Result walks.Visit model.ZoneFault)) (found : Result DiskSector AddressFault) (zone : ℕ)
    → Some zone ≡ zone_of_place volume found → meets_zone zone walked ≡ is_in_walk volume walked found
in-some volume walked (Err fault) zone is = cc
in-some volume walked (Ok place) zone is = by (is_of_volume volume place) is
  where
    by : (of : Bool) → Some zone ≡ (if of then Some ((place.sector - volume.span.start) / 2) else None)
        → meets_zone zone walked ≡ (of && meets_zone ((place.sector - volume.span.start) / 2) walked)
    by true is = let same : zone ≡ (place.sector - volume.span.start) / 2 = cc in ap (λ zone. meets_zone zone walked) same
    by false is = cc

-- ---- slots one after another

module _ (test : slots.Slot → Bool) (some : List declared.Slot) (index : ℕ) (other : declared.Slot) where
  split : index < length some → drop index some ≡ slice_index_or some index other ∷ drop (index + 1) some
  split below = rw add-one (drop-cons some index other below)

  pub all-next :
      (all : Bool) → index < length some → test (slot_view (slice_index_or some index other)) ≡ true
      → all ≡ list_all test (map slot_view (drop index some)) → all ≡ list_all test (map slot_view (drop (index + 1) some))
  all-next all below here is =
      is ∙ ap (λ left. list_all test (map slot_view left)) (split below) ∙ ap (λ first. first && list_all test (map slot_view (drop (index + 1) some))) here

  pub all-not :
      (all : Bool) → index < length some → test (slot_view (slice_index_or some index other)) ≡ false
      → all ≡ list_all test (map slot_view (drop index some)) → false ≡ all
  all-not all below here is =
      sym (is ∙ ap (λ left. list_all test (map slot_view left)) (split below) ∙ ap (λ first. first && list_all test (map slot_view (drop (index + 1) some))) here)
