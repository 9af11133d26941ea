-- What a survey met says which zones and inodes are waste.
use Rattle.std.proofs.Common.{◌≡◌, ◌≢◌, ◌≤◌, ◌==◌, ◌&&◌, ◌||◌, ℕ, nat_le, nat_lt, Bool, true, false, not, List, [], ◌∷◌, length, Option, Some, None, refl, sym, ◌∙◌, ap, arith}
use Rattle.std.specs.Prelude.{is_none}
use Rattle.std.proofs.lemmas.Bool.{and_parts, leb-true, ltb-true, le-leb, lt-ltb, eqb-true, eq-eqb, ne_eqb, eqb-false}
use Rattle.lilo_model.specs.MinixLayout.{Super}
use Rattle.lilo_model.specs.MinixNames.{reached, AllLead}
use Rattle.lilo_model.specs.MinixParts.{Parts}
use Rattle.lilo_model.specs.MinixSurvey.{Met, owner, names_of}
use Rattle.minix_survey_laws.specs.Count.{HasNames}
use Rattle.minix_sound_laws.specs.Laws.{SaysVolume}
use Rattle.minix_sound_laws.proofs.Findings.{met_law}
use Rattle.ldisk_model.specs.Waste.{IsWasteZone, IsWasteInode, is_met, is_waste_zone, is_waste_inode, AreWaste}
use Rattle.minix_reclaim.specs.Laws.{WasteLaw}

none-from : (found : Option ℕ) → is_none found ≡ true → found ≡ None
none-from None is = refl
none-from (Some inode) is = cc

not-false : (b : Bool) → not b ≡ true → b ≡ false
not-false true is = cc
not-false false is = refl

not-true : (b : Bool) → b ≡ false → not b ≡ true
not-true true is = cc
not-true false is = refl

or-false : (a b : Bool) → (a || b) ≡ false → (a ≡ false) × (b ≡ false)
or-false true b is = cc
or-false false b is = (refl, is)

from-not : (b : Bool) → not b ≡ false → b ≡ true
from-not true is = refl
from-not false is = cc

module _ (super : Super) (parts : Parts) (met : List Met) (says : SaysVolume super parts met) where
  -- ---- zones

  zone-waste : (zone : ℕ) → is_waste_zone super parts met zone ≡ true → IsWasteZone super parts zone
  zone-waste zone is =
      let one = and_parts (nat_le super.first zone && nat_lt zone super.zones && parts.has_zone zone) (is_none (owner met zone)) is in
      let two = and_parts (nat_le super.first zone && nat_lt zone super.zones) (parts.has_zone zone) one.0 in
      let three = and_parts (nat_le super.first zone) (nat_lt zone super.zones) two.0 in
      record {
        from = leb-true super.first zone three.0;
        below = ltb-true zone super.zones three.1;
        marked = two.1;
        unused = says.free zone (none-from (owner met zone) one.1);
      }

  no-owner : (zone : ℕ) → IsWasteZone super parts zone → (found : Option ℕ) → owner met zone ≡ found → is_none found ≡ true
  no-owner zone waste None is = refl
  no-owner zone waste (Some inode) is = let owned = says.owned zone inode is in absurd (waste.unused inode owned.0 owned.1)

  waste-zone : (zone : ℕ) → IsWasteZone super parts zone → is_waste_zone super parts met zone ≡ true
  waste-zone zone waste =
      rw (le-leb super.first zone waste.from, lt-ltb zone super.zones waste.below, waste.marked) (no-owner zone waste (owner met zone) refl)

  -- ---- inodes

  inode-waste : (number : ℕ) → is_waste_inode super parts met number ≡ true → IsWasteInode super parts number
  inode-waste number is =
      let one = and_parts (nat_le 1 number && nat_le number super.inodes && parts.has_inode number) (not (is_met met number)) is in
      let two = and_parts (nat_le 1 number && nat_le number super.inodes) (parts.has_inode number) one.0 in
      let three = and_parts (nat_le 1 number) (nat_le number super.inodes) two.0 in
      let none = or-false (number == 1) (not (names_of met number == 0)) (not-false (is_met met number) one.1) in
      let zero : names_of met number ≡ 0 = eqb-true (names_of met number) 0 (from-not (names_of met number == 0) none.1) in
      let apart : number ≢ 1 = eqb-false number 1 none.0 in
      let has : HasNames super parts number (names_of met number) = says.names number apart in
      record {
        some = leb-true 1 number three.0;
        there = leb-true number super.inodes three.1;
        marked = two.1;
        unnamed = λ named.
            let most : length (named.path ∷ []) ≤ names_of met number = has.most (named.path ∷ []) (tt, tt) (named.leads, tt) in
            omega (arith, most, zero);
      }

  not-root : (number : ℕ) → IsWasteInode super parts number → number ≢ 1
  unfolding reached
  not-root number waste is = waste.unnamed (record { path = []; leads = ap (λ (n : ℕ). Some n) (sym is) })

  no-paths : (number : ℕ) → IsWasteInode super parts number → (paths : List (List (List ℕ))) → AllLead super parts number paths → length paths ≡ 0
  no-paths number waste [] lead = refl
  no-paths number waste (path ∷ paths) lead = absurd (waste.unnamed (record { path = path; leads = lead.0 }))

  waste-inode : (number : ℕ) → IsWasteInode super parts number → is_waste_inode super parts met number ≡ true
  waste-inode number waste =
      let apart : number ≢ 1 = not-root number waste in
      let has : HasNames super parts number (names_of met number) = says.names number apart in
      let zero : names_of met number ≡ 0 = sym has.is ∙ no-paths number waste has.paths has.lead in
      rw (le-leb 1 number waste.some, le-leb number super.inodes waste.there, waste.marked, ne_eqb number 1 apart, eq-eqb (names_of met number) 0 zero) refl

  waste-law : AreWaste super parts met
  waste-law = record {
    zones = λ zone. (zone-waste zone, waste-zone zone);
    inodes = λ number. (inode-waste number, waste-inode number);
  }

pub waste_law : WasteLaw
waste_law super parts met numbers is = waste-law super parts met (met_law super parts met numbers is)
