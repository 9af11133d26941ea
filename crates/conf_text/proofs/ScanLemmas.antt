-- Steps along blanks and along quoted texts.
use Rattle.std.proofs.Common.{◌≡◌, ℕ, ◌+◌, suc, ◌<◌, List, ◌∷◌, Bool, true, false, refl, length, drop, get_or, add-one, add-zero, arith}
use Rattle.std.proofs.Math.Seq.{drop-cons, drop-length}
use Rattle.lilo_model.specs.ConfTokens.{is_blank, in_comment, blank_length, ends_quoted, is_escape, quoted_length}

pub blank_length-blank : (comment : Bool) (byte : ℕ) (bytes : List ℕ) → is_blank comment byte ≡ true
    → blank_length comment (byte ∷ bytes) ≡ suc (blank_length (in_comment comment byte) bytes)
unfolding blank_length
blank_length-blank comment byte bytes blank = rw blank refl

pub blank_length-token : (comment : Bool) (byte : ℕ) (bytes : List ℕ) → is_blank comment byte ≡ false
    → blank_length comment (byte ∷ bytes) ≡ 0
unfolding blank_length
blank_length-token comment byte bytes token = rw token refl

pub quoted_length-end : (escaped : Bool) (byte : ℕ) (bytes : List ℕ) → ends_quoted escaped byte ≡ true
    → quoted_length escaped (byte ∷ bytes) ≡ 0
unfolding quoted_length
quoted_length-end escaped byte bytes end = rw end refl

pub quoted_length-inside : (escaped : Bool) (byte : ℕ) (bytes : List ℕ) → ends_quoted escaped byte ≡ false
    → quoted_length escaped (byte ∷ bytes) ≡ suc (quoted_length (is_escape escaped byte) bytes)
unfolding quoted_length
quoted_length-inside escaped byte bytes inside = rw inside refl

-- after a blank byte the count goes on
pub blank_step : (comment : Bool) (bytes : List ℕ) (index : ℕ) → index < length bytes
    → is_blank comment (get_or bytes index 0) ≡ true
    → index + blank_length comment (drop index bytes)
    ≡ index + 1 + blank_length (in_comment comment (get_or bytes index 0)) (drop (index + 1) bytes)
blank_step comment bytes index within blank =
    rw (drop-cons bytes index 0 within, blank_length-blank comment (get_or bytes index 0) (drop (suc index) bytes) blank, add-one)
    (omega arith)

-- at a token's first byte it ends
pub blank_end : (comment : Bool) (bytes : List ℕ) (index : ℕ) → index < length bytes
    → is_blank comment (get_or bytes index 0) ≡ false
    → index + blank_length comment (drop index bytes) ≡ index
blank_end comment bytes index within token =
    rw (drop-cons bytes index 0 within, blank_length-token comment (get_or bytes index 0) (drop (suc index) bytes) token)
    (omega arith)

-- inside a quoted text the count goes on
pub quoted_step : (escaped : Bool) (bytes : List ℕ) (index : ℕ) → index < length bytes
    → ends_quoted escaped (get_or bytes index 0) ≡ false
    → index + quoted_length escaped (drop index bytes)
    ≡ index + 1 + quoted_length (is_escape escaped (get_or bytes index 0)) (drop (index + 1) bytes)
quoted_step escaped bytes index within inside =
    rw (drop-cons bytes index 0 within, quoted_length-inside escaped (get_or bytes index 0) (drop (suc index) bytes) inside, add-one)
    (omega arith)

-- at its end it ends
pub quoted_end : (escaped : Bool) (bytes : List ℕ) (index : ℕ) → index < length bytes
    → ends_quoted escaped (get_or bytes index 0) ≡ true
    → index + quoted_length escaped (drop index bytes) ≡ index
quoted_end escaped bytes index within end =
    rw (drop-cons bytes index 0 within, quoted_length-end escaped (get_or bytes index 0) (drop (suc index) bytes) end)
    (omega arith)

pub blank_length-all : (comment : Bool) (bytes : List ℕ) (index : ℕ) → index ≡ length bytes
    → index + blank_length comment (drop index bytes) ≡ length bytes
unfolding blank_length
blank_length-all comment bytes index all = rw (all, drop-length, add-zero) refl

pub quoted_length-all : (escaped : Bool) (bytes : List ℕ) (index : ℕ) → index ≡ length bytes
    → index + quoted_length escaped (drop index bytes) ≡ length bytes
unfolding quoted_length
quoted_length-all escaped bytes index all = rw (all, drop-length, add-zero) refl
