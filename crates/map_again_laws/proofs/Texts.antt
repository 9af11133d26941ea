-- Texts of a map's sectors, written and read again.
use Rattle.std.proofs.Common.{◌≡◌, ◌≤◌, ℕ, ◌-◌, ◌==◌, true, false, List, ◌++◌, length, replicate, codes, Ok, refl, ap, ◌∙◌, arith, append_assoc}
use Rattle.std.specs.Prelude.{nat_le}
use Rattle.std.proofs.lemmas.Nat.{from_le_bytes-to_le_bytes_2}
use Rattle.lilo_model.specs.Bytes.{part_of, number16, bytes16, filled_bytes}
use Rattle.lilo_model.specs.Options.{Extra, options_at, options_bytes, extra_at, extra_bytes}
use Rattle.lilo_model.specs.LineSector.{is_line, line_of, line_at, line_bytes}
use Rattle.lilo_model.specs.DefaultLine.{DefaultLine, Empty, Once, Kept}
use Rattle.map_again_laws.specs.Fits.{IsLine}
use Rattle.map_again_laws.proofs.Parts.{part-prefix, part-between, length-filled}

pub options_again : (middle : List ℕ) → length middle ≤ 255 → options_at (options_bytes middle) ≡ Ok middle
unfolding options_at options_bytes number16
options_again middle short =
    let n : nat_le (length middle) 255 ≡ true = grind arith in
    rw (from_le_bytes-to_le_bytes_2 (length middle) (omega (arith, short)), n) (ap Ok (part-prefix middle (replicate (512 - length (bytes16 (length middle) ++ replicate 6 0 ++ middle)) 0) (length middle) refl))

pub extra_again : (extra : Extra) → length extra.fallback ≤ 255 → length extra.password ≤ 31 → extra_at (extra_bytes extra) ≡ Ok extra
unfolding extra_at extra_bytes number16
extra_again extra short small =
    let n : nat_le (length extra.fallback) 255 ≡ true = grind arith in
    let m : nat_le (length extra.password) 31 ≡ true = grind arith in
    let head : List ℕ = bytes16 (length extra.fallback) ++ bytes16 (length extra.password) ++ extra.fallback in
    let long : length (filled_bytes 480 head) ≡ 480 = length-filled 480 head (omega (arith, short)) in
    rw (from_le_bytes-to_le_bytes_2 (length extra.fallback) (omega (arith, short)), from_le_bytes-to_le_bytes_2 (length extra.password) (omega (arith, small)), n, m)
    (ap (λ fallback. Ok (record { fallback = fallback; password = part_of (extra_bytes extra) 480 (length extra.password) }))
    (ap (λ bytes. part_of (bytes) 4 (length extra.fallback)) (append_assoc (filled_bytes 480 head) extra.password _ ∙ append_assoc head _ _) ∙ part-prefix extra.fallback _ (length extra.fallback) refl)
    ∙ ap (λ password. Ok (record { fallback = extra.fallback; password = password }))
    (ap (λ bytes. part_of bytes 480 (length extra.password)) (append_assoc (filled_bytes 480 head) extra.password _) ∙ part-between (filled_bytes 480 head) extra.password _ 480 (length extra.password) long refl))

pub line_again : (line : DefaultLine) → IsLine line → line_at (line_bytes line) ≡ Ok line
unfolding line_at is_line line_of line_bytes number16
line_again Empty is = refl
line_again (Once text) is =
    let n : nat_le (length text) 255 ≡ true = grind arith in
    let some : (length text == 0) ≡ false = grind arith in
    rw (from_le_bytes-to_le_bytes_2 (length text) (omega (arith, is)), n, some) (ap (λ text. Ok (Once text)) (part-prefix text (replicate (512 - length (codes "LINE" ++ bytes16 1 ++ bytes16 (length text) ++ text)) 0) (length text) refl))
line_again (Kept text) is =
    let n : nat_le (length text) 255 ≡ true = grind arith in
    let some : (length text == 0) ≡ false = grind arith in
    rw (from_le_bytes-to_le_bytes_2 (length text) (omega (arith, is)), n, some) (ap (λ text. Ok (Kept text)) (part-prefix text (replicate (512 - length (codes "LINE" ++ bytes16 2 ++ bytes16 (length text) ++ text)) 0) (length text) refl))
