-- The zones of a file's blocks.
use Rattle.std.proofs.Common.{◌≡◌, ◌≤◌, nat_le, Ok, refl, ◌<◌, ◌+◌, ◌*◌, ◌/◌, ◌^◌, ℕ, zero, suc, Bool, true, false, List, [], ◌∷◌, length, slice_index_or, All, sym, ◌∙◌, ap, subst, arith}
use Rattle.std.proofs.lemmas.Bool.Decides.{nat_tests}
use Rattle.lilo_model.specs.MinixLayout as layouts
use Rattle.lilo_model.specs.MinixLayout.{IsSuper, super_checks}
use Rattle.minix_create.specs.Chosen.{Suits}
use Rattle.minix_create.specs.declared.chosen.Chosen.{Chosen}
use Rattle.minix_choice_laws.proofs.Given.{given_length}
use Rattle.minix_layout.specs.View.{super_view}
use Rattle.minix_layout.specs.declared.superblock.Super.{Super}
use Rattle.disk_trait.specs.declared.disks.Span.{Span}
use Rattle.minix_zones.proofs.ZoneLemmas.{zones_fit}
use Rattle.write_model.specs.FileZones.{given}

-- a zone that is given, or 0, is below what each zone is below
given-below : (made : List Bool) (zones : List ℕ) (n : ℕ) → 0 < n → All (λ zone. zone < n) zones → (k d : ℕ) → k < length (given made zones) → slice_index_or (given made zones) k d < n
given-below [] zones n some below k d low = absurd (omega (arith, low))
given-below (false ∷ made) zones n some below zero d low = some
given-below (false ∷ made) zones n some below (suc k) d low = given-below made zones n some below k d (omega (arith, low))
given-below (true ∷ made) [] n some below zero d low = some
given-below (true ∷ made) [] n some below (suc k) d low = given-below made [] n some below k d (omega (arith, low))
given-below (true ∷ made) (zone ∷ zones) n some below zero d low = below 0 d (omega arith)
given-below (true ∷ made) (zone ∷ zones) n some below (suc k) d low =
    given-below made zones n some (λ j e less. below (suc j) e (omega (arith, less))) k d (omega (arith, low))

-- a volume has a zone
some-zone : (super : layouts.Super) (sectors : ℕ) → super_checks super sectors ≡ Ok tt → 0 < super.zones
unfolding super_checks
some-zone super sectors passes = by _ _ refl refl
  where
    by : (inodes zones : Bool) → nat_le 1 super.inodes ≡ inodes → nat_le 1 super.zones ≡ zones → 0 < super.zones
    by false zones i z = let none = rw i at passes in absurd cc
    by true false i z = let none = rw (i, z) at passes in absurd cc
    by true true i z = grind (arith, nat_tests)

module _ (layout : Super) (span : Span) (chosen : Chosen) (suits : Suits layout span chosen) where
  -- a file of so many sectors has a block for two of them
  pub enough_blocks : (sectors : ℕ) → chosen.length ≡ 512 * sectors → sectors ≤ 2 * length chosen.choice.blocks
  enough_blocks sectors size =
      let long : length chosen.choice.blocks ≡ length suits.made = ap length suits.file.blocks_are ∙ given_length suits.made chosen.choice.zones in
      let many : length suits.made ≡ (chosen.length + 1023) / 1024 = suits.many in
      omega (arith, long, many, size)

  -- each lies in the span
  pub blocks_lie : IsSuper (super_view layout) span.count → span.start + span.count < 2 ^ 64 → All (λ zone. span.start + 2 * zone + 1 < 2 ^ 64) chosen.choice.blocks
  blocks_lie whole numbered k d low =
      let fit : 2 * layout.zones ≤ span.count = zones_fit (super_view layout) span.count whole.passes in
      let some : 0 < layout.zones = some-zone (super_view layout) span.count whole.passes in
      let here : slice_index_or chosen.choice.blocks k d < layout.zones =
      let B : List ℕ → Type 0 = λ blocks. k < length blocks → slice_index_or blocks k d < layout.zones in
      subst B (sym suits.file.blocks_are) (given-below suits.made chosen.choice.zones layout.zones some (λ j e less. (suits.are_data j e less).below) k d) low in
      omega (arith, fit, here, numbered)
