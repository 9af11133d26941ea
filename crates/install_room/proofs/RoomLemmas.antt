-- What an installation keeps out, as the model has it.
use Rattle.std.proofs.Common.{◌≡◌, ◌≤◌, ◌+◌, ◌-◌, ◌*◌, ◌/◌, ◌==◌, ◌||◌, ◌&&◌, nat_le, nat_lt, ℕ, Bool, true, false, List, [], ◌∷◌, refl, sym, ◌∙◌, ap, subst, arith}
use Rattle.std.proofs.lemmas.Bool.Decides.{nat_tests}
use Rattle.lilo_model.specs.Disks.{DiskSector}
use Rattle.lilo_model.specs.MinixParts.{Volume}
use Rattle.minix_steps.specs.Numbers.{has_number, with_number}
use Rattle.minix_choice.specs.View.{Promised, taken_view}
use Rattle.install_laws.specs.InstallVerdict.{is_of_places, is_of_volume, taken_first}
use Rattle.present_map.specs.Old.{Old}
use Rattle.present_map.proofs.NumbersLemmas.{has-with}
use Rattle.install_room.specs.Room.{KeepsOut}

-- a zone past the last one has no sector of the volume
module _ (volume : Volume) (zone : ℕ) (high : volume.layout.zones ≤ zone) where
  past-by : (place : DiskSector) (disk from below here : Bool) → (place.disk == volume.span.disk) ≡ disk → nat_le volume.span.start place.sector ≡ from
      → nat_lt place.sector (volume.span.start + 2 * volume.layout.zones) ≡ below → ((place.sector - volume.span.start) / 2 == zone) ≡ here
      → (is_of_volume volume place && ((place.sector - volume.span.start) / 2 == zone)) ≡ false
  past-by place false from below here d f b h = rw d refl
  past-by place true false below here d f b h = rw (d, f) refl
  past-by place true true false here d f b h = rw (d, f, b) refl
  past-by place true true true false d f b h = rw (d, f, b, h) refl
  past-by place true true true true d f b h = absurd (grind (arith, nat_tests))

  pub past_places : (places : List DiskSector) → is_of_places volume places zone ≡ false
  past_places [] = refl
  past_places (place ∷ places) =
      let here = past-by place _ _ _ _ refl refl refl refl in
      rw here (past_places places)

-- ---- one zone more

module _ (numbers kept : List ℕ) (n z : ℕ) (so-far : has_number numbers z ≡ (nat_lt z n && has_number kept z)) where
  abbrev Next : Type 0
  Next = ((nat_lt z n && has_number kept z) || (z == n)) ≡ (nat_lt z (n + 1) && has_number kept z)

  pub kept_with : has_number kept n ≡ true → has_number (with_number numbers n) z ≡ (nat_lt z (n + 1) && has_number kept z)
  kept_with is = has-with n z numbers ∙ (ap (λ (test : Bool). test || (z == n)) so-far ∙ by _ _ _ _ refl refl refl refl)
    where
      by : (below here next has : Bool) → nat_lt z n ≡ below → (z == n) ≡ here → nat_lt z (n + 1) ≡ next → has_number kept z ≡ has → Next
      by true true next has b e x h = absurd (grind (arith, nat_tests))
      by true false false has b e x h = absurd (grind (arith, nat_tests))
      by true false true true b e x h = rw (b, e, x, h) refl
      by true false true false b e x h = rw (b, e, x, h) refl
      by false true false has b e x h = absurd (grind (arith, nat_tests))
      by false true true true b e x h = rw (b, e, x, h) refl
      by false true true false b e x h =
          let same : z ≡ n = grind (arith, nat_tests) in
          let both : true ≡ false = sym is ∙ (ap (has_number kept) (sym same) ∙ h) in
          absurd cc
      by false false true has b e x h = absurd (grind (arith, nat_tests))
      by false false false has b e x h = rw (b, e, x) refl

  pub kept_without : has_number kept n ≡ false → has_number numbers z ≡ (nat_lt z (n + 1) && has_number kept z)
  kept_without isnt = so-far ∙ by _ _ _ refl refl refl
    where
      by : (below next has : Bool) → nat_lt z n ≡ below → nat_lt z (n + 1) ≡ next → has_number kept z ≡ has → (nat_lt z n && has_number kept z) ≡ (nat_lt z (n + 1) && has_number kept z)
      by true true has b x h = rw (b, x) refl
      by true false has b x h = absurd (grind (arith, nat_tests))
      by false false has b x h = rw (b, x) refl
      by false true false b x h = rw (b, x, h) refl
      by false true true b x h =
          let same : z ≡ n = grind (arith, nat_tests) in
          let both : true ≡ false = sym h ∙ (ap (has_number kept) same ∙ isnt) in
          absurd cc

-- ---- all of them

-- where nothing was taken
pub none_kept : (kept : List ℕ) (z : ℕ) (numbers : List ℕ) → numbers ≡ [] → has_number numbers z ≡ (nat_lt z 0 && has_number kept z)
unfolding has_number
none_kept kept z numbers none =
    let H : List ℕ → Type 0 = λ ns. has_number ns z ≡ (nat_lt z 0 && has_number kept z) in
    subst H (sym none) (by _ refl)
  where
    by : (below : Bool) → nat_lt z 0 ≡ below → false ≡ (nat_lt z 0 && has_number kept z)
    by true b = absurd (grind (arith, nat_tests))
    by false b = rw b refl

-- what is taken then is what the model takes first
module _ (volume : Volume) (places : List DiskSector) (old : Old) (keeps : KeepsOut volume places old) (taken : Promised)
    (kept : (zone : ℕ) → has_number taken.zones.numbers zone ≡ (nat_lt zone volume.layout.zones && has_number old.met.zones zone))
    (inodes : taken.inodes.numbers ≡ []) (promises : taken.promises ≡ []) (overlooked : taken.overlooked ≡ []) where
  same-zone : (zone : ℕ) → has_number taken.zones.numbers zone ≡ is_of_places volume places zone
  same-zone zone = kept zone ∙ by _ refl
    where
      by : (below : Bool) → nat_lt zone volume.layout.zones ≡ below → (nat_lt zone volume.layout.zones && has_number old.met.zones zone) ≡ is_of_places volume places zone
      by true b = rw b (keeps zone)
      by false b = rw b (sym (past_places volume zone (grind (arith, nat_tests)) places))

  no-inode : (number : ℕ) → has_number taken.inodes.numbers number ≡ false
  unfolding has_number
  no-inode number = ap (λ (ns : List ℕ). has_number ns number) inodes

  pub taken_as_first : taken_view taken ≡ taken_first volume places []
  taken_as_first = λ i. record {
    has_zone = λ zone. same-zone zone i;
    has_inode = λ number. no-inode number i;
    promises = promises i;
    overlooked = overlooked i;
  }
