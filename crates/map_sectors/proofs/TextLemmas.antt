-- The texts of a section are short.
use Rattle.std.proofs.Common.{◌≡◌, ◌≤◌, ℕ, Bool, true, false, ◌&&◌, List, [], length, Option, None, Some, refl, arith}
use Rattle.std.specs.Prelude.{IfSome, IsTrue, nat_le, unwrap_or}
use Rattle.std.specs.List.{list_all}
use Rattle.std.proofs.lemmas.Bool.Decides.{nat_tests}
use Rattle.lilo_model.specs.Bytes.{is_between}
use Rattle.lilo_model.specs.ConfValues.{is_shown}

shown-few : (most : ℕ) (text : List ℕ) → IsTrue (is_shown most text) → length text ≤ most
unfolding is_shown
shown-few most text is = by (nat_le 1 (length text)) (nat_le (length text) most) (list_all (is_between 32 126) text) refl is
  where
    by : (some few shown : Bool) → nat_le (length text) most ≡ few → ((some && few) && shown) ≡ true → length text ≤ most
    by true true shown test both = grind (arith, nat_tests)
    by true false shown test both = cc
    by false few shown test both = cc

-- a password or a fallback, where there is one
pub few-bytes : (most : ℕ) (text : Option (List ℕ)) → IfSome text (λ text. IsTrue (is_shown most text)) → length (unwrap_or text []) ≤ most
few-bytes most None is = omega arith
few-bytes most (Some text) is = shown-few most text is
