-- Quotients and remainders of neighbouring numbers.
use Rattle.std.proofs.Common.{◌≡◌, ◌≤◌, ◌<◌, ◌+◌, ◌*◌, ◌-◌, ◌/◌, ◌%◌, ◌^◌, ℕ, suc, sym, ap, ◌∙◌, arith}
use Rattle.std.proofs.lemmas.Nat.{div-mul-add, mod-mul-add, div-add-mod', div_below, row_fits, pow-add}
use Rattle.std.proofs.Math.Nat.{mul-mod_left, div-div-eq-div-mul, pow-succ'}

-- a number, from a multiple below it that is near
above_multiple : (x y m : ℕ) → x % m ≡ 0 → x ≤ y → y ≡ x / m * m + (y - x)
above_multiple x y m whole above = omega (arith, div-add-mod' x m)

-- numbers between two multiples have one quotient
pub same_quotient : (x y m : ℕ) → x % m ≡ 0 → x ≤ y → y < x + m → y / m ≡ x / m
same_quotient x y m whole above below =
    ap (λ n. n / m) (above_multiple x y m whole above) ∙ div-mul-add (x / m) m (y - x) (omega arith)

-- and what is left of them is how far they are above the lower one
pub left_over : (x y m : ℕ) → x % m ≡ 0 → x ≤ y → y < x + m → y % m ≡ y - x
left_over x y m whole above below =
    ap (λ n. n % m) (above_multiple x y m whole above) ∙ mod-mul-add (x / m) m (y - x) (omega arith)

-- a multiple of a product is one of its factor
pub multiple_of_factor : (y m k : ℕ) → y % (m * k) ≡ 0 → y % m ≡ 0
multiple_of_factor y m k whole =
    let e : y ≡ y / (m * k) * k * m = omega (arith, div-add-mod' y (m * k)) in
    ap (λ n. n % m) e ∙ mul-mod_left (y / (m * k) * k) m

-- after a multiple that lies below a product there is room for another
pub room_behind : (x m k : ℕ) → 0 < m → x % m ≡ 0 → x < m * k → x + m ≤ m * k
room_behind x m k some whole below =
    let q : x / m < k = div_below x m k some (omega arith) in
    omega (arith, div-add-mod' x m, row_fits (x / m) m k m q (omega arith))

-- a power, from a smaller one
pub power_above : (per low high : ℕ) → low ≤ high → per ^ high ≡ per ^ low * per ^ (high - low)
power_above per low high above =
    let e : high ≡ low + (high - low) = omega arith in
    ap (λ n. per ^ n) e ∙ pow-add per low (high - low)

-- a quotient by a power, in two steps
pub power_quotient : (per x low high : ℕ) → low ≤ high → x / per ^ low / per ^ (high - low) ≡ x / per ^ high
power_quotient per x low high above =
    div-div-eq-div-mul x (per ^ low) (per ^ (high - low)) ∙ ap (λ m. x / m) (sym (power_above per low high above))

-- the same, where the first step is by one
pub step_quotient : (per x more : ℕ) → x / per / per ^ more ≡ x / per ^ suc more
step_quotient per x more =
    div-div-eq-div-mul x per (per ^ more) ∙ ap (λ m. x / m) (sym (pow-succ' per more))
