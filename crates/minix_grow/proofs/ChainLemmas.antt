-- Zones by which a way is completed are a chain.
use Rattle.std.proofs.Common.{◌≤◌, ◌<◌, ◌/◌, ◌^◌, ℕ, zero, suc, List, replicate, ap, ◌∙◌, arith}
use Rattle.std.specs.Prelude.{slice_index}
use Rattle.std.proofs.lemmas.List.{length-replicate}
use Rattle.std.proofs.lemmas.Nat.{mod_below}
use Rattle.lilo_model.specs.MinixLayout.{Super, numbers_in_zone, number_size}
use Rattle.lilo_model.specs.MinixParts.{Parts, number_in}
use Rattle.lilo_model.specs.MinixWalk.{place_in_branch}
use Rattle.minix_change_laws.specs.Grows.{HoldsOnly, IsApart, IsChain}
use Rattle.minix_change_laws.proofs.Zeros.{number-zeros}
use Rattle.minix_change_laws.proofs.Numbers.{number_bytes_law}
use Rattle.minix_grow.specs.Way.{index_above, zones_below, grown_bytes, AreGrown}

module _ (super : Super) (parts : Parts) (block : ℕ) (growth : List ℕ) (count : ℕ) (grown : AreGrown super parts block growth count) (small : (level : ℕ) → level < count → slice_index growth level < 256 ^ number_size super.kind)
    (per : 0 < numbers_in_zone super.kind) where
  pub holds : (level : ℕ) → suc level < count → HoldsOnly super parts (slice_index growth (suc level)) (record { index = index_above super.kind block level; zone = slice_index growth level })
  unfolding grown_bytes
  holds level low =
      let lower : level < count = omega (arith, low) in
      let index : ℕ = index_above super.kind block level in
      let near : index < numbers_in_zone super.kind = mod_below (place_in_branch (numbers_in_zone super.kind) block / numbers_in_zone super.kind ^ level) (numbers_in_zone super.kind) per in
      let number = number_bytes_law super (replicate 1024 0) index (slice_index growth level) (length-replicate {A = ℕ} 1024 0) near (small level lower) in
      record {
        here = ap (λ b. number_in super.kind b index) (grown.bytes (suc level) low) ∙ number.here;
        others = λ other low' apart. ap (λ b. number_in super.kind b other) (grown.bytes (suc level) low) ∙ (number.others other low' apart ∙ number-zeros super.kind other);
      }

  apart-by : (level other : ℕ) → level ≤ other → other < count → IsApart (slice_index growth other) (zones_below super.kind block growth level)
  apart-by zero other below low = tt
  apart-by (suc level) other below low = (grown.apart level other below low, apart-by level other (omega (arith, below)) low)

  pub chain : (level : ℕ) → level < count → IsChain super parts parts (slice_index growth level) (zones_below super.kind block growth level)
  unfolding grown_bytes
  chain zero low = grown.bytes zero low
  chain (suc level) low =
      let lower : level < count = omega (arith, low) in
      (holds level low, grown.some level lower, grown.fresh level lower, apart-by (suc level) (suc level) (omega arith) low, chain level lower)
