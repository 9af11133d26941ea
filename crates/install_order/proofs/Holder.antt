-- A file whose walk meets the table's zones is the Holder.
use Rattle.std.proofs.Common.{◌≡◌, ◌≢◌, ◌≤◌, ◌<◌, ℕ, ◌+◌, ◌-◌, ◌*◌, ◌/◌, ◌==◌, Bool, true, false, not, ◌&&◌, List, [], ◌∷◌, Option, None, Some, Result, Ok, Err, refl, sym, ap, subst, ◌∙◌, arith, inl, inr}
use Rattle.std.specs.Prelude.{nat_le, nat_lt, ◌||◌, slice_index_or}
use Rattle.std.specs.List.{list_any, list_all}
use Rattle.std.proofs.lemmas.Bool.Decides.{nat_tests}
use Rattle.std.proofs.lemmas.Bool.{and_parts}
use Rattle.std.proofs.lemmas.List.Sums.{AllPass-from_list_all, list_all-from_AllPass}
use Rattle.lilo_model.specs.BootSector.{BootSector, MapFault, boot_at}
use Rattle.lilo_model.specs.Clear.{IsOfZone}
use Rattle.lilo_model.specs.Disks.{Image, Machine, Span, DiskSector}
use Rattle.lilo_model.specs.MinixLayout.{Inode}
use Rattle.lilo_model.specs.MinixNames.{PointsTo, Named, reached, IsSound}
use Rattle.lilo_model.specs.MinixParts.{Volume, Parts, Pointer, ZoneFault, parts_of, is_file, has_zones}
use Rattle.lilo_model.specs.MinixWalk.{Visit, visits}
use Rattle.lilo_model.specs.NamePlaces.{with_tilde}
use Rattle.lilo_model.specs.Settled.{IsInFile, NamesInFile, Holds}
use Rattle.lilo_model.specs.Slots.{AddressFault, Slot, place_at}
use Rattle.minix_fill.specs.Freed.{zones_met}
use Rattle.minix_fill.proofs.WalkLemmas.{visit_pointed, pointed_met}
use Rattle.minix_change_laws.proofs.Inode.{file-zones}
use Rattle.minix_change_laws.proofs.Seen.{opened}
use Rattle.minix_sound_laws.specs.Laws.{HasNumbers}
use Rattle.minix_sound_laws.proofs.Lists.{In, Passes, any-some}
use Rattle.install_laws.specs.InstallVerdict.{is_of_volume, is_visited, is_in_walk, holds_table, is_holder}
use Rattle.install_order.specs.HolderLaws.{HolderLaw, FinishLaw}

-- ---- halves of a zone

zone-of : (zone sector : ℕ) → IsOfZone zone sector → sector / 2 ≡ zone
zone-of zone sector (inl is) = omega (arith, is)
zone-of zone sector (inr is) = omega (arith, is)

in-zone : (sector : ℕ) → IsOfZone (sector / 2) sector
in-zone sector = by (2 * (sector / 2) == sector) refl
  where
    by : (even : Bool) → (2 * (sector / 2) == sector) ≡ even → IsOfZone (sector / 2) sector
    by true is = inl (grind (arith, nat_tests))
    by false is = let other : 2 * (sector / 2) ≢ sector = grind (arith, nat_tests) in inr (omega (arith, other))

-- ---- visits

met-visited : (walked : List (Result Visit ZoneFault)) (zone : ℕ) → In zone (zones_met walked) → list_any (is_visited zone) walked ≡ true
met-visited [] zone has = absurd has
met-visited (Err fault ∷ rest) zone has = met-visited rest zone has
met-visited (Ok visit ∷ rest) zone (inl same) = let is : (visit.zone == zone) ≡ true = grind (arith, nat_tests, same) in rw is refl
met-visited (Ok visit ∷ rest) zone (inr has) = or-true (visit.zone == zone) (list_any (is_visited zone) rest) (met-visited rest zone has)
  where
    or-true : (one other : Bool) → other ≡ true → (one || other) ≡ true
    or-true true other is = refl
    or-true false other is = is

-- ---- the file of a named inode

module _ (volume : Volume) (image : Image) (numbers : HasNumbers volume.layout (parts_of volume image)) (sound : IsSound volume image) (number : ℕ) (path : List (List ℕ))
    (leads : reached volume.layout (parts_of volume image) path ≡ Some number) (regular : is_file ((parts_of volume image).node number) ≡ true) where
  abbrev parts : Parts
  parts = parts_of volume image

  named : Named volume.layout parts number
  named = record { path = path; leads = leads }

  range : (at : Pointer) (zone : ℕ) → PointsTo volume.layout parts number at zone → (volume.layout.first ≤ zone) × (zone < volume.layout.zones)
  range at zone to = (opened volume image sound).parts.zone_range number at zone (record { named = named; to = to })

  abbrev walked : List (Result Visit ZoneFault)
  walked = visits volume.layout parts (parts.node number)

  abbrev kind : has_zones (parts.node number) ≡ true
  kind = file-zones parts number regular

  to-file : (place : DiskSector) → is_in_walk volume walked (Ok place) ≡ true → IsInFile volume image number place
  to-file place is = by (any-some (is_visited zone) walked tests.1) (any-some (is_visited zone) walked tests.1).item refl
    where
      zone : ℕ
      zone = (place.sector - volume.span.start) / 2

      tests : (is_of_volume volume place ≡ true) × (list_any (is_visited zone) walked ≡ true)
      tests = and_parts (is_of_volume volume place) (list_any (is_visited zone) walked) is

      by : (found : Passes (is_visited zone) walked) (item : Result Visit ZoneFault) → found.item ≡ item → IsInFile volume image number place
      by found (Err fault) same = let bad : is_visited zone (Err fault) ≡ true = subst (λ i. is_visited zone i ≡ true) same found.is in cc
      by found (Ok visit) same =
          let has : In (Ok visit) walked = subst (λ i. In i walked) same found.has in
          let met : is_visited zone (Ok visit) ≡ true = subst (λ i. is_visited zone i ≡ true) same found.is in
          let equal : visit.zone ≡ zone = grind (arith, nat_tests, met) in
          let pointed = visit_pointed volume.layout parts number kind range visit has in
          let first = and_parts (place.disk == volume.span.disk && nat_le volume.span.start place.sector) (nat_lt place.sector (volume.span.start + 2 * volume.layout.zones)) tests.0 in
          let second = and_parts (place.disk == volume.span.disk) (nat_le volume.span.start place.sector) first.0 in
          let disk_test = second.0 in
          let from_test = second.1 in
          let disk : place.disk ≡ volume.span.disk = grind (arith, nat_tests, disk_test) in
          let from : volume.span.start ≤ place.sector = grind (arith, nat_tests, from_test) in
          let sum : place.sector ≡ volume.span.start + (place.sector - volume.span.start) = omega (arith, from) in
          let made : ℕ → ℕ → DiskSector = λ disk sector. record { disk = disk; sector = sector } in
          record {
            at = pointed.at;
            zone = zone;
            sector = place.sector - volume.span.start;
            points = subst (λ z. PointsTo volume.layout parts number pointed.at z) equal pointed.to;
            is = ap (λ disk. made disk place.sector) disk ∙ ap (made volume.span.disk) sum;
            of = in-zone (place.sector - volume.span.start);
          }

  from-file : (place : DiskSector) → IsInFile volume image number place → is_in_walk volume walked (Ok place) ≡ true
  from-file place file = subst (λ place. is_in_walk volume walked (Ok place) ≡ true) (sym file.is) here
    where
      met : list_any (is_visited file.zone) walked ≡ true
      met = met-visited walked file.zone (pointed_met volume.layout parts number kind range numbers file.at file.zone file.points)

      less : volume.span.start + file.sector - volume.span.start ≡ file.sector
      less = omega arith

      half : (volume.span.start + file.sector - volume.span.start) / 2 ≡ file.zone
      half = ap (λ n. n / 2) less ∙ zone-of file.zone file.sector file.of

      inside-by : IsOfZone file.zone file.sector → file.zone < volume.layout.zones → volume.span.start + file.sector < volume.span.start + 2 * volume.layout.zones
      inside-by (inl is) below = omega (arith, is, below)
      inside-by (inr is) below = omega (arith, is, below)

      inside : volume.span.start + file.sector < volume.span.start + 2 * volume.layout.zones
      inside = inside-by file.of (range file.at file.zone file.points).1

      here : is_in_walk volume walked (Ok (record { disk = volume.span.disk; sector = volume.span.start + file.sector })) ≡ true
      here =
          let disk : (volume.span.disk == volume.span.disk) ≡ true = grind (arith, nat_tests) in
          let from : nat_le volume.span.start (volume.span.start + file.sector) ≡ true = grind (arith, nat_tests) in
          let below : nat_lt (volume.span.start + file.sector) (volume.span.start + 2 * volume.layout.zones) ≡ true = grind (arith, nat_tests, inside) in
          let walk : list_any (is_visited ((volume.span.start + file.sector - volume.span.start) / 2)) walked ≡ true = subst (λ z. list_any (is_visited z) walked ≡ true) (sym half) met in
          rw (disk, from, below) walk

  to-slot : (machine : Machine) (place : Result DiskSector AddressFault) → is_in_walk volume walked place ≡ true → NamesInFile machine volume image number place
  to-slot machine (Ok place) is = to-file place is
  to-slot machine (Err fault) is = cc

  from-slot : (machine : Machine) (place : Result DiskSector AddressFault) → NamesInFile machine volume image number place → is_in_walk volume walked place ≡ true
  from-slot machine (Ok place) is = from-file place is
  from-slot machine (Err fault) is = absurd is

-- ---- the table

module _ (volume : Volume) (image : Image) (machine : Machine) (span : Span) (path : List (List ℕ)) (numbers : HasNumbers volume.layout (parts_of volume image)) (sound : IsSound volume image) where
  abbrev the_walk : Inode → List (Result Visit ZoneFault)
  the_walk = visits volume.layout (parts_of volume image)

  abbrev in_slot : ℕ → Slot → Bool
  in_slot number slot = is_in_walk volume (the_walk ((parts_of volume image).node number)) (place_at machine slot 0)

  to-holds : (boot : Result BootSector MapFault) (found : Option ℕ) → boot_at (image span.disk span.start) ≡ boot
      → reached volume.layout (parts_of volume image) path ≡ found → holds_table image machine volume the_walk boot found ≡ true → Holds image machine volume span path
  to-holds (Ok boot) (Some number) says leads is =
      let tests = and_parts (is_file ((parts_of volume image).node number)) (list_all (in_slot number) boot.table) is in
      record {
        boot = boot;
        says = says;
        number = number;
        leads = leads;
        regular = tests.0;
        table = λ index other below. to-slot volume image numbers sound number path leads tests.0 machine (place_at machine (slice_index_or boot.table index other) 0) (AllPass-from_list_all (in_slot number) boot.table tests.1 index other below);
      }
  to-holds (Ok boot) None says leads is = cc
  to-holds (Err fault) found says leads is = cc

  from-holds : Holds image machine volume span path → holds_table image machine volume the_walk (boot_at (image span.disk span.start)) (reached volume.layout (parts_of volume image) path) ≡ true
  from-holds holds =
      let all : list_all (in_slot holds.number) holds.boot.table ≡ true =
      list_all-from_AllPass (in_slot holds.number) holds.boot.table
      (λ index other below. from-slot volume image numbers sound holds.number path holds.leads holds.regular machine (place_at machine (slice_index_or holds.boot.table index other) 0) (holds.table index other below)) in
      let here : holds_table image machine volume the_walk (Ok holds.boot) (Some holds.number) ≡ true = rw (holds.regular, all) refl in
      ap (λ boot. holds_table image machine volume the_walk boot (reached volume.layout (parts_of volume image) path)) holds.says
      ∙ ap (λ found. holds_table image machine volume the_walk (Ok holds.boot) found) holds.leads
      ∙ here

pub holder_law : HolderLaw
unfolding is_holder
holder_law volume image machine span path numbers sound = (
  λ is. to-holds volume image machine span path numbers sound (boot_at (image span.disk span.start)) (reached volume.layout (parts_of volume image) path) refl refl is,
  λ holds. from-holds volume image machine span path numbers sound holds,
)

-- ---- a rename

both-parts : (one other : Bool) → (one && not other) ≡ true → (one ≡ true) × (other ≡ true → ⊥)
both-parts true false is = (refl, λ e. cc)
both-parts true true is = cc
both-parts false other is = cc

neither : (one other : Bool) → (one && not other) ≡ false → one ≡ true → other ≡ true
neither true true none is = refl
neither true false none is = cc
neither false other none is = cc

pub finish_law : FinishLaw
finish_law volume image machine span path numbers sound =
    let tilde = holder_law volume image machine span (with_tilde path) numbers sound in
    let plain = holder_law volume image machine span path numbers sound in
    let walk = visits volume.layout (parts_of volume image) in
    let one : Bool = is_holder image machine volume walk span (with_tilde path) in
    let other : Bool = is_holder image machine volume walk span path in
    record {
      yes = λ is. let parts = both-parts one other is in (tilde.0 parts.0, λ holds. parts.1 (plain.1 holds));
      no = λ none holds. plain.0 (neither one other none (tilde.1 holds));
    }
