-- Steps along the bytes of a quoted text.
use Rattle.std.proofs.Common.{◌≡◌, ℕ, ◌+◌, ◌<◌, List, [], ◌∷◌, ◌++◌, Bool, false, true, refl, length, drop, get_or, add-one}
use Rattle.std.proofs.Math.Seq.{drop-cons, drop-length}
use Rattle.lilo_model.specs.ConfTokens.{is_escape, unescaped_byte, unescaped}

pub unescaped-cons : (escaped : Bool) (byte : ℕ) (bytes : List ℕ)
    → unescaped escaped (byte ∷ bytes) ≡ unescaped_byte escaped byte ++ unescaped (is_escape escaped byte) bytes
unfolding unescaped
unescaped-cons escaped byte bytes = refl

-- a byte, and those after it
pub unescaped_step : (escaped : Bool) (bytes : List ℕ) (index : ℕ) → index < length bytes
    → unescaped escaped (drop index bytes)
    ≡ unescaped_byte escaped (get_or bytes index 0) ++ unescaped (is_escape escaped (get_or bytes index 0)) (drop (index + 1) bytes)
unescaped_step escaped bytes index within =
    rw (drop-cons bytes index 0 within, unescaped-cons, add-one) refl

-- at the end a backslash that escapes nothing is left
pub unescaped_last : (bytes : List ℕ) (index : ℕ) → index ≡ length bytes → unescaped true (drop index bytes) ≡ 92 ∷ []
unfolding unescaped
unescaped_last bytes index all = rw (all, drop-length) refl

pub unescaped_none : (bytes : List ℕ) (index : ℕ) → index ≡ length bytes → unescaped false (drop index bytes) ≡ []
unfolding unescaped
unescaped_none bytes index all = rw (all, drop-length) refl
