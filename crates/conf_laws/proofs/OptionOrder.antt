-- What is refused of an option is the first test that it fails: of where it is, and then of its value.
use Rattle.std.proofs.Common.{◌≡◌, ℕ, ◌<◌, ◌≤◌, Bool, true, false, ◌&&◌, List, length, Some, None, Option, inl, inr, refl, sym, subst, arith}
use Rattle.std.specs.Prelude.{◌⊎◌, nat_lt}
use Rattle.std.specs.List.{list_any}
use Rattle.std.proofs.lemmas.Bool.{ltb-true, lt-ltb, and_parts, both_ways}
use Rattle.lilo_model.specs.ConfOptions as options
use Rattle.lilo_model.specs.ConfOptions.{Opt, takes_of, stands_in, opens, is_of_disk, is_of_name, same_option}
use Rattle.lilo_model.specs.ConfValues.{is_value, name_limit}
use Rattle.lilo_model.specs.ConfRefusal as reasons
use Rattle.lilo_model.specs.ConfRefusal.{ConfReason, ConfRefusal}
use Rattle.lilo_model.specs.ConfSettings.{Given, Bare, Sign, Value, Setting}
use Rattle.lilo_model.specs.ConfJudge.{part_kind, has_option, setting_disk, is_same_disk, details_of, group_disk, excluded_in, takes_nothing, text_reason, given_reason, value_reason, disk_reason, detail_reason, part_reason, setting_reason}
use Rattle.conf_laws.specs.Order.{IsOfPart, IsDetail, IsGroup, disk_behind, PlaceFails, misplaced, misplaced_disk, misplaced_detail, repeated, repeated_disk, repeated_detail, excluded, ValueFails, no_value, unwanted, bad_value, long_name, OptionFails}
use Rattle.conf_laws.proofs.First.{Answers, first_or, answers-join}

-- ---- the value of an option

value-late : (disk : ℕ) (setting : Setting) (t : ℕ) (r : ConfReason) → ValueFails disk setting t r → 6 ≤ t
value-late disk setting t r (no_value a b) = omega arith
value-late disk setting t r (unwanted a b) = omega arith
value-late disk setting t r (bad_value a b c) = omega arith
value-late disk setting t r (long_name a b c d) = omega arith

module _ (disk : ℕ) (setting : Setting) where
  answers-text : (text : List ℕ) → setting.given ≡ Value text → Answers ◌<◌ (ValueFails disk setting) (text_reason setting.option disk text)
  unfolding text_reason
  answers-text text is = first _ refl
    where
      is-text : (other : List ℕ) → setting.given ≡ Value other → other ≡ text
      is-text other same = cc

      -- a good value fails nothing but its length
      good-fails : is_value (takes_of setting.option) disk text ≡ true → (t : ℕ) (r : ConfReason) → ValueFails disk setting t r
          → (t ≡ 8) × (is_of_name setting.option ≡ true) × (name_limit < length text)
      good-fails good t r (no_value takes (inl bare)) = absurd (cc)
      good-fails good t r (no_value takes (inr sign)) = absurd (cc)
      good-fails good t r (unwanted takes sign) = absurd (cc)
      good-fails good t r (bad_value other same bad) = absurd (let e = is-text other same in let f = rw e at bad in cc)
      good-fails good t r (long_name other same named long) = (refl, named, rw (is-text other same) at long)

      -- a bad one fails nothing before
      bad-fails : (t : ℕ) (r : ConfReason) → ValueFails disk setting t r → 7 ≤ t
      bad-fails t r (no_value takes (inl bare)) = absurd (cc)
      bad-fails t r (no_value takes (inr sign)) = absurd (cc)
      bad-fails t r (unwanted takes sign) = absurd (cc)
      bad-fails t r (bad_value other same bad) = omega arith
      bad-fails t r (long_name other same named long) = omega arith

      named : is_value (takes_of setting.option) disk text ≡ true → (long : Bool) → (is_of_name setting.option && nat_lt name_limit (length text)) ≡ long
          → Answers ◌<◌ (ValueFails disk setting) (text_reason setting.option disk text)
      named good true long =
          let parts = and_parts (is_of_name setting.option) (nat_lt name_limit (length text)) long in
          rw (good, long) (
            8,
            long_name text is parts.0 (ltb-true name_limit (length text) parts.1),
            λ before other less f. let g = good-fails good before other f in omega (arith, less, g.0),
          )
      named good false long = rw (good, long) (λ at r f. let g = good-fails good at r f in
          let e : (is_of_name setting.option && nat_lt name_limit (length text)) ≡ true = rw (g.1, lt-ltb name_limit (length text) g.2) refl in
          both_ways _ long e)

      first : (good : Bool) → is_value (takes_of setting.option) disk text ≡ good → Answers ◌<◌ (ValueFails disk setting) (text_reason setting.option disk text)
      first false bad = rw bad (7, bad_value text is bad, λ before other less f. let g = bad-fails before other f in omega (arith, less, g))
      first true good = named good _ refl

  answers-value : Answers ◌<◌ (ValueFails disk setting) (value_reason disk setting)
  unfolding value_reason given_reason
  answers-value = by setting.given refl
    where
      -- nothing but a value may be bad or long
      without : (setting.given ≡ Bare) ⊎ (setting.given ≡ Sign) → (t : ℕ) (r : ConfReason) → ValueFails disk setting t r
          → ((t ≡ 6) × (takes_nothing (takes_of setting.option) ≡ false)) ⊎ ((t ≡ 7) × (takes_nothing (takes_of setting.option) ≡ true) × (setting.given ≡ Sign))
      without given t r (no_value takes some) = inl (refl, takes)
      without given t r (unwanted takes sign) = inr (refl, takes, sign)
      without (inl bare) t r (bad_value text is bad) = absurd (cc)
      without (inr sign) t r (bad_value text is bad) = absurd (cc)
      without (inl bare) t r (long_name text is named long) = absurd (cc)
      without (inr sign) t r (long_name text is named long) = absurd (cc)

      bare : setting.given ≡ Bare → (nothing : Bool) → takes_nothing (takes_of setting.option) ≡ nothing → Answers ◌<◌ (ValueFails disk setting) (given_reason setting.option disk Bare)
      bare is true nothing = rw nothing (λ at r f. elim (without (inl is) at r f) [ inl g ↦ both_ways _ g.1 nothing | inr g ↦ absurd (let e = g.2 in cc) ])
      bare is false nothing = rw nothing (6, no_value nothing (inl is), λ before other less f. let g = value-late disk setting before other f in omega (arith, less, g))

      sign : setting.given ≡ Sign → (nothing : Bool) → takes_nothing (takes_of setting.option) ≡ nothing → Answers ◌<◌ (ValueFails disk setting) (given_reason setting.option disk Sign)
      sign is true nothing = rw nothing (7, unwanted nothing is, λ before other less f. elim (without (inr is) before other f) [ inl g ↦ both_ways _ g.1 nothing | inr g ↦ omega (arith, less, g.0) ])
      sign is false nothing = rw nothing (6, no_value nothing (inr is), λ before other less f. let g = value-late disk setting before other f in omega (arith, less, g))

      by : (given : Given) → setting.given ≡ given → Answers ◌<◌ (ValueFails disk setting) (given_reason setting.option disk setting.given)
      by Bare is = subst (λ g. Answers ◌<◌ (ValueFails disk setting) (given_reason setting.option disk g)) (sym is) (bare is _ refl)
      by Sign is = subst (λ g. Answers ◌<◌ (ValueFails disk setting) (given_reason setting.option disk g)) (sym is) (sign is _ refl)
      by (Value text) is = subst (λ g. Answers ◌<◌ (ValueFails disk setting) (given_reason setting.option disk g)) (sym is) (answers-text text is)

-- ---- an option

place-early : (own : List Setting) (setting : Setting) (t : ℕ) (r : ConfReason) → PlaceFails own setting t r → t ≤ 5
place-early own setting t r (misplaced a b) = omega arith
place-early own setting t r (misplaced_disk a b) = omega arith
place-early own setting t r (misplaced_detail a b) = omega arith
place-early own setting t r (repeated a b) = omega arith
place-early own setting t r (repeated_disk a b) = omega arith
place-early own setting t r (repeated_detail a b) = omega arith
place-early own setting t r (excluded beside a fresh b) = omega arith

-- where it is, and then its value
record Judged (own : List Setting) (setting : Setting) : Type 0 where
  place : Option ConfReason
  placed : Answers ◌<◌ (PlaceFails own setting) place
  same : setting_reason own setting ≡ first_or place (value_reason (disk_behind own setting) setting)

module _ (own : List Setting) (setting : Setting) where
  opening-judged : opens setting.option ≡ true → Judged own setting
  unfolding disk_behind setting_reason
  opening-judged opening = record { place = None; placed = nothing; same = rw opening refl }
    where
      nothing : (t : ℕ) (r : ConfReason) → PlaceFails own setting t r → ⊥
      nothing t r (misplaced a b) = both_ways _ a.0 opening
      nothing t r (misplaced_disk a b) = both_ways _ a.0 opening
      nothing t r (misplaced_detail a b) = both_ways _ a.0 opening
      nothing t r (repeated a b) = both_ways _ a.0 opening
      nothing t r (repeated_disk a b) = both_ways _ a.0 opening
      nothing t r (repeated_detail a b) = both_ways _ a.0 opening
      nothing t r (excluded beside a fresh b) = both_ways _ a.0 opening

  disk-judged : IsGroup setting → Judged own setting
  unfolding disk_behind setting_reason disk_reason
  disk-judged group = first _ refl
    where
      is-late : (t : ℕ) (r : ConfReason) → PlaceFails own setting t r
          → ((t ≡ 4) × (r ≡ reasons.Misplaced) × (stands_in (part_kind own) options.Disk ≡ false)) ⊎ ((t ≡ 5) × (list_any (λ other. is_same_disk (setting_disk setting) (setting_disk other)) own ≡ true))
      is-late t r (misplaced a b) = absurd (both_ways _ a.1 group.1)
      is-late t r (misplaced_disk a b) = inl (refl, refl, b)
      is-late t r (misplaced_detail a b) = absurd (both_ways _ a.1 group.1)
      is-late t r (repeated a b) = absurd (both_ways _ a.1 group.1)
      is-late t r (repeated_disk a b) = inr (refl, b)
      is-late t r (repeated_detail a b) = absurd (both_ways _ a.1 group.1)
      is-late t r (excluded beside a fresh b) = absurd (both_ways _ a.1 group.1)

      second : stands_in (part_kind own) options.Disk ≡ true → (again : Bool) → list_any (λ other. is_same_disk (setting_disk setting) (setting_disk other)) own ≡ again → Judged own setting
      second stands true again = record {
        place = Some reasons.Repeated;
        placed = (5, repeated_disk group again, λ before other less f. elim (is-late before other f) [ inl g ↦ both_ways _ g.2 stands | inr g ↦ omega (arith, less, g.0) ]);
        same = rw (group.0, group.1, stands, again) refl;
      }
      second stands false again = record {
        place = None;
        placed = λ at r f. elim (is-late at r f) [ inl g ↦ both_ways _ g.2 stands | inr g ↦ both_ways _ again g.1 ];
        same = rw (group.0, group.1, stands, again) refl;
      }

      first : (stands : Bool) → stands_in (part_kind own) options.Disk ≡ stands → Judged own setting
      first true stands = second stands _ refl
      first false stands = record {
        place = Some reasons.Misplaced;
        placed = (4, misplaced_disk group stands, λ before other less f. elim (is-late before other f) [ inl g ↦ omega (arith, less, g.0) | inr g ↦ omega (arith, less, g.0) ]);
        same = rw (group.0, group.1, stands) refl;
      }

  detail-judged : IsDetail setting → Judged own setting
  unfolding disk_behind setting_reason detail_reason
  detail-judged detail = first _ refl
    where
      is-late : (t : ℕ) (r : ConfReason) → PlaceFails own setting t r
          → ((t ≡ 4) × (group_disk own ≡ None)) ⊎ ((t ≡ 5) × (has_option setting.option (details_of own) ≡ true))
      is-late t r (misplaced a b) = absurd (both_ways _ a.2 detail.2)
      is-late t r (misplaced_disk a b) = absurd (both_ways _ detail.1 a.1)
      is-late t r (misplaced_detail a b) = inl (refl, b)
      is-late t r (repeated a b) = absurd (both_ways _ a.2 detail.2)
      is-late t r (repeated_disk a b) = absurd (both_ways _ detail.1 a.1)
      is-late t r (repeated_detail a b) = inr (refl, b)
      is-late t r (excluded beside a fresh b) = absurd (both_ways _ a.2 detail.2)

      second : (disk : ℕ) → group_disk own ≡ Some disk → (again : Bool) → has_option setting.option (details_of own) ≡ again → Judged own setting
      second disk group true again = record {
        place = Some reasons.Repeated;
        placed = (5, repeated_detail detail again, λ before other less f. elim (is-late before other f) [ inl g ↦ absurd (let e = g.1 in cc) | inr g ↦ omega (arith, less, g.0) ]);
        same = rw (detail.0, detail.1, detail.2, group, again) refl;
      }
      second disk group false again = record {
        place = None;
        placed = λ at r f. elim (is-late at r f) [ inl g ↦ absurd (let e = g.1 in cc) | inr g ↦ both_ways _ again g.1 ];
        same = rw (detail.0, detail.1, detail.2, group, again) refl;
      }

      first : (group : Option ℕ) → group_disk own ≡ group → Judged own setting
      first (Some disk) group = second disk group _ refl
      first None group = record {
        place = Some reasons.Misplaced;
        placed = (4, misplaced_detail detail group, λ before other less f. elim (is-late before other f) [ inl g ↦ omega (arith, less, g.0) | inr g ↦ omega (arith, less, g.0) ]);
        same = rw (detail.0, detail.1, detail.2, group) refl;
      }

  part-judged : IsOfPart setting → Judged own setting
  unfolding disk_behind setting_reason part_reason
  part-judged part = first _ refl
    where
      is-late : (t : ℕ) (r : ConfReason) → PlaceFails own setting t r
          → ((t ≡ 4) × (stands_in (part_kind own) setting.option ≡ false)) ⊎ ((t ≡ 5) × (has_option setting.option own ≡ true)) ⊎ ((t ≡ 5) × ((other : Opt) × (excluded_in own setting.option ≡ Some other)))
      is-late t r (misplaced a b) = inl (refl, b)
      is-late t r (misplaced_disk a b) = absurd (both_ways _ part.1 a.1)
      is-late t r (misplaced_detail a b) = absurd (both_ways _ part.2 a.2)
      is-late t r (repeated a b) = inr (inl (refl, b))
      is-late t r (repeated_disk a b) = absurd (both_ways _ part.1 a.1)
      is-late t r (repeated_detail a b) = absurd (both_ways _ part.2 a.2)
      is-late t r (excluded beside a fresh b) = inr (inr (refl, (beside, b)))

      third : stands_in (part_kind own) setting.option ≡ true → has_option setting.option own ≡ false → (other : Option Opt) → excluded_in own setting.option ≡ other → Judged own setting
      third stands fresh (Some other) excludes = record {
        place = Some (reasons.Excludes other);
        placed = (
          5,
          excluded other part fresh excludes,
          λ before why less f. elim (is-late before why f) [
            | inl g ↦ both_ways _ g.1 stands
            | inr g ↦ elim g [ inl h ↦ both_ways _ fresh h.1 | inr h ↦ omega (arith, less, h.0) ]
          ],
        );
        same = rw (part.0, part.1, part.2, stands, fresh, excludes) refl;
      }
      third stands fresh None excludes = record {
        place = None;
        placed = λ at r f. elim (is-late at r f) [
          | inl g ↦ both_ways _ g.1 stands
          | inr g ↦ elim g [ inl h ↦ both_ways _ fresh h.1 | inr h ↦ absurd (let e = h.1.1 in cc) ]
        ];
        same = rw (part.0, part.1, part.2, stands, fresh, excludes) refl;
      }

      second : stands_in (part_kind own) setting.option ≡ true → (again : Bool) → has_option setting.option own ≡ again → Judged own setting
      second stands true again = record {
        place = Some reasons.Repeated;
        placed = (
          5,
          repeated part again,
          λ before other less f. elim (is-late before other f) [
            | inl g ↦ both_ways _ g.1 stands
            | inr g ↦ elim g [ inl h ↦ omega (arith, less, h.0) | inr h ↦ omega (arith, less, h.0) ]
          ],
        );
        same = rw (part.0, part.1, part.2, stands, again) refl;
      }
      second stands false fresh = third stands fresh _ refl

      first : (stands : Bool) → stands_in (part_kind own) setting.option ≡ stands → Judged own setting
      first true stands = second stands _ refl
      first false stands = record {
        place = Some reasons.Misplaced;
        placed = (
          4,
          misplaced part stands,
          λ before other less f. elim (is-late before other f) [
            | inl g ↦ omega (arith, less, g.0)
            | inr g ↦ elim g [ inl h ↦ omega (arith, less, h.0) | inr h ↦ omega (arith, less, h.0) ]
          ],
        );
        same = rw (part.0, part.1, part.2, stands) refl;
      }

  judged : Judged own setting
  judged = first _ refl
    where
      third : opens setting.option ≡ false → same_option setting.option options.Disk ≡ false → (detail : Bool) → is_of_disk setting.option ≡ detail → Judged own setting
      third inside other true detail = detail-judged (inside, other, detail)
      third inside other false detail = part-judged (inside, other, detail)

      second : opens setting.option ≡ false → (disk : Bool) → same_option setting.option options.Disk ≡ disk → Judged own setting
      second inside true disk = disk-judged (inside, disk)
      second inside false disk = third inside disk _ refl

      first : (opening : Bool) → opens setting.option ≡ opening → Judged own setting
      first true opening = opening-judged opening
      first false opening = second opening _ refl

  pub answers-option : Answers ◌<◌ (OptionFails own setting) (setting_reason own setting)
  answers-option =
      let j = judged in
      rw (j.same) (answers-join ◌<◌ (PlaceFails own setting) (ValueFails (disk_behind own setting) setting) j.place (value_reason (disk_behind own setting) setting)
      (λ a b r s f g less. let e = place-early own setting a r f in let h = value-late (disk_behind own setting) setting b s g in omega (arith, less, e, h))
      j.placed (answers-value (disk_behind own setting) setting))
