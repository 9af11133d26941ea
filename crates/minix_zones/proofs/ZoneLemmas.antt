-- What the checks of a superblock say of zones.
use Rattle.std.proofs.Common.{◌∙◌, ⊎_elim, ◌≡◌, ◌≤◌, ◌<◌, ◌+◌, ◌*◌, ◌-◌, ◌/◌, ◌%◌, ℕ, zero, suc, List, ap, Bool, true, false, nat_le, nat_lt, ◌&&◌, Result, Ok, refl, arith}
use Rattle.lilo_model.specs.Checks.{◌>>=◌, require}
use Rattle.lilo_model.specs.MinixLayout.{Kind, Super, super_checks, zone_map_holds, table_start, table_blocks, BadSize, Inodes, Zones, InodeMap, ZoneMap, FirstZone}
use Rattle.lilo_model.specs.MinixParts.{follow_at, trail_of, inside, number_in, number_below}
use Rattle.std.proofs.lemmas.Bool.{cases_lt}
use Rattle.std.proofs.lemmas.Bool.Decides.{nat_tests}

-- of two checks that were passed before others the second
second-passed : {F : Type 0} (first second : Bool) (fault other : F) (rest : Result (Unit {0}) F)
    → (require first fault >>= λ a. require second other >>= λ b. rest) ≡ Ok tt → second ≡ true
second-passed true true fault other rest passed = refl
second-passed true false fault other rest passed = cc
second-passed false second fault other rest passed = cc

-- the zones of a volume lie in its sectors
pub zones_fit : (super : Super) (sectors : ℕ) → super_checks super sectors ≡ Ok tt → 2 * super.zones ≤ sectors
unfolding super_checks
zones_fit super sectors passes =
    let both = second-passed (nat_le 1 super.inodes) (nat_le 1 super.zones && nat_le (2 * super.zones) sectors) (BadSize Inodes) (BadSize Zones)
    (require (nat_lt super.inodes (8192 * super.imap)) (BadSize InodeMap) >>= λ c. require (zone_map_holds super) (BadSize ZoneMap) >>= λ d. require (nat_le (table_start super + table_blocks super) super.first && nat_lt super.first super.zones) (BadSize FirstZone)) passes in
    grind (arith, nat_tests)

-- the last step of the way to a block
pub follow_at_below : (super : Super) (bytes_of : ℕ → List ℕ) (zone per depth index : ℕ) → 0 < depth
    → follow_at super bytes_of zone (trail_of per depth index)
    ≡ (follow_at super bytes_of zone (trail_of per (depth - 1) (index / per)) >>= λ above. inside super (number_below super.kind bytes_of above (index % per)))
unfolding follow_at
follow_at_below super bytes_of zone per zero index some = absurd (omega arith)
follow_at_below super bytes_of zone per (suc depth) index some =
    let e : depth ≡ suc depth - 1 = omega arith in
    ap (λ left. follow_at super bytes_of zone (trail_of per left (index / per)) >>= λ above. inside super (number_below super.kind bytes_of above (index % per))) e

-- numbers in a row that are 0, and the next one
pub zeros_more : (kind : Kind) (bytes : List ℕ) (index at k : ℕ) → ((j : ℕ) → index + j < at → number_in kind bytes (index + j) ≡ 0)
    → number_in kind bytes at ≡ 0 → index + k < at + 1 → number_in kind bytes (index + k) ≡ 0
zeros_more kind bytes index at k zeros here within = ⊎_elim
    (λ below. zeros k below)
    (λ last. let same : index + k ≡ at = omega arith in ap (number_in kind bytes) same ∙ here)
    (cases_lt (index + k) at)
