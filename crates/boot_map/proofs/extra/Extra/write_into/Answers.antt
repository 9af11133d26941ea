-- The parts of the sector, one after the other.
use Rattle.std.proofs.Common.{◌≡◌, ◌≤◌, ℕ, ◌-◌, List, ◌++◌, length, refl, sym, ap, subst, ◌∙◌, arith}
use Rattle.lilo_model.specs.Bytes.{with_part, bytes16, filled_bytes}
use Rattle.lilo_model.specs.Options.{extra_at, extra_bytes}
use Rattle.map_again_laws.proofs.Parts.{written-first, written-next, written-whole, filled-after, length-filled}
use Rattle.map_again_laws.proofs.Texts.{extra_again}
use Rattle.boot_map.specs.View.{extra_view}
use Rattle.boot_map.proofs.extra.Extra.write_into.Goals as goal

pub returns-clause-bytes : goal.returns-clause-bytes
unfolding extra_bytes
returns-clause-bytes c =
    let fallback = c.args.self.now.fallback.items in
    let password = c.args.self.now.password.items in
    let lengths = bytes16 (length fallback) ++ bytes16 (length password) in
    let few : length fallback ≤ 470 = subst (λ (text : List ℕ). length text ≤ 470) c.deref.ensures.0 c.deref.ensures.1 in
    let small : length password ≤ 31 = subst (λ (text : List ℕ). length text ≤ 31) c.deref-2.ensures.0 c.deref-2.ensures.1 in
    let fallback_length_is : c.put_u16.new.sector ≡ with_part c.args.sector.now 0 (bytes16 (length fallback)) = cc in
    let password_length_is : c.put_u16-2.new.sector ≡ with_part c.put_u16.new.sector 2 (bytes16 (length password)) = cc in
    let fallback_is : c.put_name.new.sector ≡ with_part c.put_u16-2.new.sector 4 (filled_bytes 476 fallback) = cc in
    let password_is : c.put_name-2.new.sector ≡ with_part c.put_name.new.sector 480 (filled_bytes 32 password) = cc in
    let a = written-first c.args.sector.now (bytes16 (length fallback)) c.put_u16.new.sector 0 2 c.told-sector fallback_length_is refl in
    let b = written-next a (bytes16 (length password)) c.put_u16-2.new.sector 2 2 password_length_is refl refl (omega arith) in
    let d = written-next b (filled_bytes 476 fallback) c.put_name.new.sector 4 476 fallback_is (length-filled 476 fallback (omega (arith, few))) refl (omega arith) in
    let e = written-next d (filled_bytes 32 password) c.put_name-2.new.sector 480 32 password_is (length-filled 32 password (omega (arith, small))) refl (omega arith) in
    let first : filled_bytes 480 (lengths ++ fallback) ≡ lengths ++ filled_bytes 476 fallback = filled-after 480 lengths fallback in
    let long : length (filled_bytes 480 (lengths ++ fallback)) ≡ 480 = ap length first ∙ d.long in
    written-whole e
    ∙ ap (λ head. head ++ filled_bytes 32 password) (sym first)
    ∙ ap (λ n. filled_bytes 480 (lengths ++ fallback) ++ filled_bytes (512 - n) password) (sym long)
    ∙ sym (filled-after 512 (filled_bytes 480 (lengths ++ fallback)) password)

pub returns-clause-again : goal.returns-clause-again
returns-clause-again c = λ short small. ap extra_at (returns-clause-bytes c) ∙ extra_again (extra_view c.args.self.now) short small
