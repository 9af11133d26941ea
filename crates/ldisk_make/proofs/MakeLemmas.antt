-- The checks before a table is written.
use Rattle.std.proofs.Common.{◌≡◌, ◌≢◌, ◌==◌, ℕ, true, false, List, refl}
use Rattle.std.proofs.lemmas.Bool.{ne_eqb}
use Rattle.lilo_model.specs.Disks.{Machine}
use Rattle.ldisk_model.specs.Arguments.{PartWish}
use Rattle.ldisk_model.specs.DiskTable.{are_placed}
use Rattle.ldisk_model.specs.Verdict.{status_of, make_check}

module _ (machine : Machine) (sectors : ℕ) (parts : List PartWish) where
  pub misplaced : are_placed sectors parts ≡ false → status_of (make_check machine sectors parts) ≡ 1
  unfolding make_check
  misplaced is = rw is refl

  pub no_disk : are_placed sectors parts ≡ true → machine.size_of 0 ≡ 0 → status_of (make_check machine sectors parts) ≡ 3
  unfolding make_check
  no_disk is none = rw (is, none) refl

  pub fine : are_placed sectors parts ≡ true → machine.size_of 0 ≢ 0 → status_of (make_check machine sectors parts) ≡ 0
  unfolding make_check
  fine is some = let there : (machine.size_of 0 == 0) ≡ false = ne_eqb (machine.size_of 0) 0 some in rw (is, there) refl
