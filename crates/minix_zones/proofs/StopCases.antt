-- The stops of a few blocks and their pointers, computed (Minix file system: seven numbers, then those of one, two
-- and three levels of indirect zones).
use Rattle.std.proofs.Common.{◌≡◌, ℕ, List, [], ◌∷◌, refl}
use Rattle.lilo_model.specs.MinixParts.{Pointer}
use Rattle.lilo_model.specs.MinixWalk.{Stop, branch_of, begins, stops_at, stop_pointer}

abbrev at : ℕ → ℕ → Stop
at index level = record { index = index; level = level }

abbrev to : ℕ → List ℕ → Pointer
to top trail = record { top = top; trail = trail }

a_block_by_itself : stops_at 256 6 3 ≡ at 6 0 ∷ []
unfolding stops_at begins branch_of
a_block_by_itself = refl

first_of_the_single_zone : stops_at 256 7 3 ≡ at 7 1 ∷ (at 7 0 ∷ [])
unfolding stops_at begins branch_of
first_of_the_single_zone = refl

last_of_the_single_zone : stops_at 256 262 3 ≡ at 262 0 ∷ []
unfolding stops_at begins branch_of
last_of_the_single_zone = refl

first_of_the_double_zone : stops_at 256 263 3 ≡ at 263 2 ∷ (at 263 1 ∷ (at 263 0 ∷ []))
unfolding stops_at begins branch_of
first_of_the_double_zone = refl

second_zone_below_the_double_zone : stops_at 256 519 3 ≡ at 519 1 ∷ (at 519 0 ∷ [])
unfolding stops_at begins branch_of
second_zone_below_the_double_zone = refl

first_of_the_double_zone_in_version_1 : stops_at 512 519 3 ≡ at 519 2 ∷ (at 519 1 ∷ (at 519 0 ∷ []))
unfolding stops_at begins branch_of
first_of_the_double_zone_in_version_1 = refl

first_of_the_triple_zone : stops_at 256 65799 3 ≡ at 65799 3 ∷ (at 65799 2 ∷ (at 65799 1 ∷ (at 65799 0 ∷ [])))
unfolding stops_at begins branch_of
first_of_the_triple_zone = refl

pointer_of_a_block : stop_pointer 256 (at 780 0) ≡ to 8 (5 ∷ (2 ∷ []))
unfolding stop_pointer branch_of
pointer_of_a_block = refl

pointer_of_a_zone_between : stop_pointer 256 (at 775 1) ≡ to 8 (2 ∷ [])
unfolding stop_pointer branch_of
pointer_of_a_zone_between = refl

pointer_of_the_triple_zone : stop_pointer 256 (at 65799 3) ≡ to 9 []
unfolding stop_pointer branch_of
pointer_of_the_triple_zone = refl
