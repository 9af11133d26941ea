-- A test that is both true and false.
use Rattle.std.proofs.Common.{◌≡◌, Bool, true, false}

-- then anything holds
pub clash : {A : Type 0} → (b : Bool) → b ≡ true → b ≡ false → A
clash b holds fails = cc
