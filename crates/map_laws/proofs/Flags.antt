-- The flags of a section, and what is asked of them.
use Rattle.std.proofs.Common.{◌≡◌, ◌<◌, ℕ, ◌+◌, Bool, true, false, ◌&&◌, not, refl, arith}
use Rattle.std.specs.Prelude.{nat_lt}
use Rattle.std.proofs.lemmas.Bool.Decides.{nat_tests}
use Rattle.lilo_model.specs.Table.{has_flag}
use Rattle.lilo_model.specs.Plan.{flag_if}

abbrev same : Bool → Bool → Bool
same true b = b
same false b = not b

same-is : (a b : Bool) → same a b ≡ true → a ≡ b
same-is true true e = refl
same-is true false e = cc
same-is false true e = cc
same-is false false e = refl

abbrev pub sum_of : (a b c d e f g h : Bool) → ℕ
sum_of a b c d e f g h =
    flag_if a 0x01 + flag_if b 0x02 + flag_if c 0x04 + flag_if d 0x08 + flag_if e 0x10 + flag_if f 0x20 + flag_if g 0x40 + flag_if h 0x80

abbrev test_flags : (a b c d e f g h : Bool) → Bool
test_flags a b c d e f g h =
    same (has_flag (sum_of a b c d e f g h) 0x01) a && same (has_flag (sum_of a b c d e f g h) 0x02) b && same (has_flag (sum_of a b c d e f g h) 0x04) c
    && same (has_flag (sum_of a b c d e f g h) 0x08) d && same (has_flag (sum_of a b c d e f g h) 0x10) e && same (has_flag (sum_of a b c d e f g h) 0x20) f
    && same (has_flag (sum_of a b c d e f g h) 0x40) g && same (has_flag (sum_of a b c d e f g h) 0x80) h && nat_lt (sum_of a b c d e f g h) 0x100

abbrev both : (Bool → Bool) → Bool
both test = test true && test false

both-at : (test : Bool → Bool) → both test ≡ true → (b : Bool) → test b ≡ true
both-at test all true = left (test true) (test false) all
  where
    left : (x y : Bool) → (x && y) ≡ true → x ≡ true
    left true y e = refl
    left false y e = e
both-at test all false = right (test true) (test false) all
  where
    right : (x y : Bool) → (x && y) ≡ true → y ≡ true
    right true y e = e
    right false y e = cc

every-flag : both (λ a. both (λ b. both (λ c. both (λ d. both (λ e. both (λ f. both (λ g. both (λ h. test_flags a b c d e f g h)))))))) ≡ true
every-flag = refl

flags-tested : (a b c d e f g h : Bool) → test_flags a b c d e f g h ≡ true
flags-tested a b c d e f g h =
    let p1 = both-at (λ a. both (λ b. both (λ c. both (λ d. both (λ e. both (λ f. both (λ g. both (λ h. test_flags a b c d e f g h)))))))) every-flag a in
    let p2 = both-at (λ b. both (λ c. both (λ d. both (λ e. both (λ f. both (λ g. both (λ h. test_flags a b c d e f g h))))))) p1 b in
    let p3 = both-at (λ c. both (λ d. both (λ e. both (λ f. both (λ g. both (λ h. test_flags a b c d e f g h)))))) p2 c in
    let p4 = both-at (λ d. both (λ e. both (λ f. both (λ g. both (λ h. test_flags a b c d e f g h))))) p3 d in
    let p5 = both-at (λ e. both (λ f. both (λ g. both (λ h. test_flags a b c d e f g h)))) p4 e in
    let p6 = both-at (λ f. both (λ g. both (λ h. test_flags a b c d e f g h))) p5 f in
    let p7 = both-at (λ g. both (λ h. test_flags a b c d e f g h)) p6 g in
    both-at (λ h. test_flags a b c d e f g h) p7 h

pub record FlagsAre (flags : ℕ) (a b c d e f g h : Bool) : Type 0 where
  pub other : has_flag flags 0x01 ≡ a
  pub password : has_flag flags 0x02 ≡ b
  pub restricted : has_flag flags 0x04 ≡ c
  pub lock : has_flag flags 0x08 ≡ d
  pub fallback : has_flag flags 0x10 ≡ e
  pub video : has_flag flags 0x20 ≡ f
  pub initrd : has_flag flags 0x40 ≡ g
  pub table : has_flag flags 0x80 ≡ h
  pub small : flags < 0x100

nine : (a b c d e f g h i : Bool) → (a && b && c && d && e && f && g && h && i) ≡ true → (a ≡ true) × (b ≡ true) × (c ≡ true) × (d ≡ true) × (e ≡ true) × (f ≡ true) × (g ≡ true) × (h ≡ true) × (i ≡ true)
nine true true true true true true true true true is = (refl, refl, refl, refl, refl, refl, refl, refl, refl)
nine false _ _ _ _ _ _ _ _ is = cc
nine true false _ _ _ _ _ _ _ is = cc
nine true true false _ _ _ _ _ _ is = cc
nine true true true false _ _ _ _ _ is = cc
nine true true true true false _ _ _ _ is = cc
nine true true true true true false _ _ _ is = cc
nine true true true true true true false _ _ is = cc
nine true true true true true true true false _ is = cc
nine true true true true true true true true false is = cc

pub flags-are : (a b c d e f g h : Bool) → FlagsAre (sum_of a b c d e f g h) a b c d e f g h
flags-are a b c d e f g h =
    let flags = sum_of a b c d e f g h in
    let all = nine (same (has_flag flags 0x01) a) (same (has_flag flags 0x02) b) (same (has_flag flags 0x04) c) (same (has_flag flags 0x08) d) (same (has_flag flags 0x10) e) (same (has_flag flags 0x20) f) (same (has_flag flags 0x40) g) (same (has_flag flags 0x80) h) (nat_lt flags 0x100) (flags-tested a b c d e f g h) in
    record {
      other = same-is _ _ all.0;
      password = same-is _ _ all.1;
      restricted = same-is _ _ all.2;
      lock = same-is _ _ all.3;
      fallback = same-is _ _ all.4;
      video = same-is _ _ all.5;
      initrd = same-is _ _ all.6;
      table = same-is _ _ all.7;
      small = less flags all.8;
    }
  where
    less : (n : ℕ) → nat_lt n 0x100 ≡ true → n < 0x100
    less n is = grind (arith, nat_tests)
