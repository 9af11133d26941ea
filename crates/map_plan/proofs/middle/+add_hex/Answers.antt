-- A digit for each power of 16.
use Rattle.std.proofs.Common.{◌≡◌, ◌<◌, ◌≤◌, ℕ, zero, suc, ◌*◌, ◌^◌, ◌/◌, ◌%◌, ◌==◌, true, false, List, [], ◌∷◌, ◌++◌, refl, sym, ap, ◌∙◌, arith, append_assoc}
use Rattle.std.proofs.lemmas.Bool.Decides.{nat_tests}
use Rattle.lilo_model.specs.Bytes.{hex_digit}
use Rattle.lilo_model.specs.Meant.{hex_digits}
use Rattle.map_plan.proofs.middle.+add_hex.Goals as goal

few : (number more : ℕ) → number < 16 → hex_digits (suc more) number ≡ hex_digit number ∷ []
few number more small =
    let none : number / 16 ≡ 0 = omega arith in
    let is : (number / 16 == 0) ≡ true = grind (arith, nat_tests) in
    rw is refl

many : (number more : ℕ) → 16 ≤ number → hex_digits (suc more) number ≡ hex_digits more (number / 16) ++ (hex_digit (number % 16) ∷ [])
many number more great =
    let some : 1 ≤ number / 16 = omega arith in
    let is : (number / 16 == 0) ≡ false = grind (arith, nat_tests) in
    rw is refl

after : (old all new : List ℕ) (number more : ℕ) → 16 ≤ number → number < 16 * 16 ^ more
    → ((less : ℕ) → number / 16 < 16 * 16 ^ less → all ≡ old ++ hex_digits (suc less) (number / 16))
    → new ≡ all ++ (hex_digit (number % 16) ∷ []) → new ≡ old ++ hex_digits (suc more) number
after old all new number zero great small before last = absurd (omega (arith, great, small))
after old all new number (suc less) great small before last =
    let power : 16 ^ suc less ≡ 16 * 16 ^ less = omega arith in
    last ∙ ap (λ all. all ++ (hex_digit (number % 16) ∷ [])) (before less (omega (arith, small, power)))
    ∙ append_assoc old (hex_digits (suc less) (number / 16)) (hex_digit (number % 16) ∷ [])
    ∙ ap (λ digits. old ++ digits) (sym (many number (suc less) great))

pub returns-then-number-lt16 : goal.returns-then-number-lt16
returns-then-number-lt16 n c more small =
    c.in_ok-push.ensures.items ∙ ap (λ digit. c.args.bytes.now.items ++ (digit ∷ [])) c.hex_digit.ensures
    ∙ ap (λ digits. c.args.bytes.now.items ++ digits) (sym (few c.args.number more c.if-number-lt16.true))

pub returns : goal.returns
returns n c more small =
    after c.args.bytes.now.items c.add_hex.new.bytes.items c.push-2.new.self.items c.args.number more (omega (arith, c.if-number-lt16.false)) small
    c.in_ok-add_hex.ensures
    (c.in_ok-push-2.ensures.items ∙ ap (λ digit. c.add_hex.new.bytes.items ++ (digit ∷ [])) c.hex_digit-2.ensures)
