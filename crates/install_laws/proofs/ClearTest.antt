-- The test of Clear passes exactly where a map is Clear.
use Rattle.std.proofs.Common.{◌≡◌, ◌≢◌, ◌≤◌, ◌<◌, ℕ, ◌+◌, ◌-◌, ◌*◌, ◌/◌, ◌==◌, Bool, true, false, not, ◌&&◌, ◌||◌, List, Option, None, Some, refl, sym, ap, subst, ◌∙◌, arith, ◌⊎◌, inl, inr}
use Rattle.std.specs.Prelude.{nat_le, nat_lt}
use Rattle.std.proofs.lemmas.Bool.Decides.{nat_tests}
use Rattle.std.proofs.lemmas.List.Sums.{AllPass-from_list_all, list_all-from_AllPass}
use Rattle.std.proofs.lemmas.Bool.{and_parts, not-true}
use Rattle.lilo_model.specs.Disks.{Image, DiskSector}
use Rattle.lilo_model.specs.MinixLayout.{table_start, table_blocks, super_sector}
use Rattle.lilo_model.specs.MinixParts.{Volume, Parts, Pointer, parts_of, is_directory}
use Rattle.lilo_model.specs.MinixNames.{Refers, Sound}
use Rattle.lilo_model.specs.MinixSurvey.{Met, owner, is_indirect}
use Rattle.lilo_model.specs.Mapped.{mapped_sectors}
use Rattle.lilo_model.specs.Clear.{IsOfZone, IsIndirect, IsPlain, IsClearPlace}
use Rattle.minix_sound_laws.specs.Laws.{SaysVolume}
use Rattle.minix_sound_laws.proofs.Law.{sound_law}
use Rattle.minix_sound_laws.proofs.Findings.{met_law}
use Rattle.install_laws.specs.InstallVerdict.{is_of_volume, is_plain_owner, is_plain_sector, is_clear}
use Rattle.install_laws.specs.ClearTest.{ClearTestLaw}

-- ---- tests

or-false : (one other : Bool) → one ≡ false → (one || other) ≡ true → other ≡ true
or-false one other none is = subst (λ test. (test || other) ≡ true) none is

or-left : (one other : Bool) → one ≡ true → (one || other) ≡ true
or-left one other is = rw is refl

or-right : (one other : Bool) → other ≡ true → (one || other) ≡ true
or-right true other is = refl
or-right false other is = is

-- ---- halves of a zone

zone-of : (zone sector : ℕ) → IsOfZone zone sector → sector / 2 ≡ zone
zone-of zone sector (inl is) = omega (arith, is)
zone-of zone sector (inr is) = omega (arith, is)

in-zone : (sector : ℕ) → IsOfZone (sector / 2) sector
in-zone sector = by (2 * (sector / 2) == sector) refl
  where
    by : (even : Bool) → (2 * (sector / 2) == sector) ≡ even → IsOfZone (sector / 2) sector
    by true is = inl (grind (arith, nat_tests))
    by false is = let other : 2 * (sector / 2) ≢ sector = grind (arith, nat_tests) in inr (omega (arith, other))

-- a sector below a bound or from another one on
apart : (sector low high : ℕ) → (nat_lt sector low || nat_le high sector) ≡ true → (sector < low) ⊎ (high ≤ sector)
apart sector low high is = by (nat_lt sector low) refl is
  where
    by : (below : Bool) → nat_lt sector low ≡ below → (below || nat_le high sector) ≡ true → (sector < low) ⊎ (high ≤ sector)
    by true test is = inl (grind (arith, nat_tests))
    by false test is = inr (grind (arith, nat_tests, is))

apart-test : (sector low high : ℕ) → (sector < low) ⊎ (high ≤ sector) → (nat_lt sector low || nat_le high sector) ≡ true
apart-test sector low high (inl below) = let test : nat_lt sector low ≡ true = grind (arith, nat_tests) in or-left (nat_lt sector low) (nat_le high sector) test
apart-test sector low high (inr from) = let test : nat_le high sector ≡ true = grind (arith, nat_tests) in or-right (nat_lt sector low) (nat_le high sector) test

module _ (volume : Volume) (image : Image) (met : List Met) (sound : Sound volume.layout (parts_of volume image)) (says : SaysVolume volume.layout (parts_of volume image) met) where
  abbrev parts : Parts
  parts = parts_of volume image

  -- ---- a sector

  to-plain : (sector : ℕ) → is_plain_sector volume parts met sector ≡ true → IsPlain volume image sector
  to-plain sector is =
      let tests = and_parts (nat_lt sector super_sector || nat_le (2 * (table_start volume.layout + table_blocks volume.layout)) sector) (is_plain_owner parts (owner met (sector / 2)) (is_indirect met (sector / 2))) is in
      record {
        tables = apart sector super_sector (2 * (table_start volume.layout + table_blocks volume.layout)) tests.0;
        zones = λ number at zone refers of. by number at zone refers (zone-of zone sector of) (owner met (sector / 2)) refl tests.1;
      }
    where
      by : (number : ℕ) (at : Pointer) (zone : ℕ) → Refers volume.layout parts number at zone → sector / 2 ≡ zone → (found : Option ℕ) → owner met (sector / 2) ≡ found
          → is_plain_owner parts found (is_indirect met (sector / 2)) ≡ true → (is_directory (parts.node number) ≡ false) × (IsIndirect at → ⊥)
      by number at zone refers half None none plain = absurd (says.free zone (subst (λ zone. owner met zone ≡ None) half none) number at refers)
      by number at zone refers half (Some inode) found plain =
          let there = says.owned zone inode (subst (λ zone. owner met zone ≡ Some inode) half found) in
          let same = sound.once number inode at there.0 zone refers there.1 in
          let tests = and_parts (not (is_directory (parts.node inode))) (not (is_indirect met (sector / 2))) plain in (
            subst (λ number. is_directory (parts.node number) ≡ false) (sym same.0) (not-true (is_directory (parts.node inode)) tests.0),
            λ indirect. both (is_indirect met zone) (subst (λ zone. is_indirect met zone ≡ false) half (not-true (is_indirect met (sector / 2)) tests.1)) ((says.indirect zone).1 (record { number = number; at = at; refers = refers; short = indirect })),
          )
        where
          both : (test : Bool) → test ≡ false → test ≡ true → ⊥
          both test none is = grind (arith, none, is)

  from-plain : (sector : ℕ) → IsPlain volume image sector → is_plain_sector volume parts met sector ≡ true
  from-plain sector plain =
      rw (apart-test sector super_sector (2 * (table_start volume.layout + table_blocks volume.layout)) plain.tables) (by (owner met (sector / 2)) refl)
    where
      indirect : (found : Bool) → is_indirect met (sector / 2) ≡ found → found ≡ false
      indirect false is = refl
      indirect true is =
          let r = (says.indirect (sector / 2)).0 is in
          absurd ((plain.zones r.number r.at (sector / 2) r.refers (in-zone sector)).1 r.short)

      by : (found : Option ℕ) → owner met (sector / 2) ≡ found → is_plain_owner parts found (is_indirect met (sector / 2)) ≡ true
      by None none = refl
      by (Some inode) found =
          let there = says.owned (sector / 2) inode found in
          rw ((plain.zones inode there.0 (sector / 2) there.1 (in-zone sector)).0, indirect (is_indirect met (sector / 2)) refl) refl

  -- ---- a place

  abbrev passes : DiskSector → Bool
  passes place = not (is_of_volume volume place) || is_plain_sector volume parts met (place.sector - volume.span.start)

  to-place : (place : DiskSector) → passes place ≡ true → IsClearPlace volume image place
  to-place place is sector same inside = to-plain sector (subst (λ n. is_plain_sector volume parts met n ≡ true) less (or-false (not (is_of_volume volume (record { disk = volume.span.disk; sector = volume.span.start + sector }))) _ none (subst (λ place. passes place ≡ true) same is)))
    where
      less : volume.span.start + sector - volume.span.start ≡ sector
      less = omega arith

      none : not (is_of_volume volume (record { disk = volume.span.disk; sector = volume.span.start + sector })) ≡ false
      none =
          let disk : (volume.span.disk == volume.span.disk) ≡ true = grind (arith, nat_tests) in
          let from : nat_le volume.span.start (volume.span.start + sector) ≡ true = grind (arith, nat_tests) in
          let below : nat_lt (volume.span.start + sector) (volume.span.start + 2 * volume.layout.zones) ≡ true = grind (arith, nat_tests, inside) in
          rw (disk, from, below) refl

  from-place : (place : DiskSector) → IsClearPlace volume image place → passes place ≡ true
  from-place place clear = by (is_of_volume volume place) refl
    where
      by : (of : Bool) → is_of_volume volume place ≡ of → (not of || is_plain_sector volume parts met (place.sector - volume.span.start)) ≡ true
      by false is = refl
      by true is =
          let first = and_parts (place.disk == volume.span.disk && nat_le volume.span.start place.sector) (nat_lt place.sector (volume.span.start + 2 * volume.layout.zones)) is in
          let second = and_parts (place.disk == volume.span.disk) (nat_le volume.span.start place.sector) first.0 in
          let disk_test = second.0 in
          let from_test = second.1 in
          let below_test = first.1 in
          let disk : place.disk ≡ volume.span.disk = grind (arith, nat_tests, disk_test) in
          let from : volume.span.start ≤ place.sector = grind (arith, nat_tests, from_test) in
          let below : place.sector < volume.span.start + 2 * volume.layout.zones = grind (arith, nat_tests, below_test) in
          let sum : place.sector ≡ volume.span.start + (place.sector - volume.span.start) = omega (arith, from) in
          let made : ℕ → ℕ → DiskSector = λ disk sector. record { disk = disk; sector = sector } in
          from-plain (place.sector - volume.span.start)
          (clear (place.sector - volume.span.start) (ap (λ disk. made disk place.sector) disk ∙ ap (made volume.span.disk) sum) (omega (arith, from, below)))

pub clear_test_law : ClearTestLaw
unfolding is_clear
clear_test_law volume image machine span met numbers given =
    let sound = (sound_law volume.layout (parts_of volume image) numbers).sound met given in
    let says = met_law volume.layout (parts_of volume image) met numbers given in
    let places = mapped_sectors image machine span in
    let test : DiskSector → Bool = passes volume image met sound says in (
      λ is index other below. to-place volume image met sound says (Rattle.std.specs.Prelude.slice_index_or places index other) (AllPass-from_list_all test places is index other below),
      λ clear. list_all-from_AllPass test places (λ index other below. from-place volume image met sound says (Rattle.std.specs.Prelude.slice_index_or places index other) (clear index other below)),
    )
