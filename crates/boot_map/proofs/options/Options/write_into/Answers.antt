-- The parts of the sector, one after the other.
use Rattle.std.proofs.Common.{◌≡◌, ◌≤◌, ℕ, List, ◌++◌, length, replicate, refl, sym, ap, subst, ◌∙◌, arith}
use Rattle.lilo_model.specs.Bytes.{with_part, bytes16, filled_bytes}
use Rattle.lilo_model.specs.Options.{options_at, options_bytes}
use Rattle.map_again_laws.proofs.Parts.{written-first, written-next, written-whole, filled-after, length-filled}
use Rattle.map_again_laws.proofs.Texts.{options_again}
use Rattle.boot_map.proofs.options.Options.write_into.Goals as goal

pub returns-clause-bytes : goal.returns-clause-bytes
unfolding options_bytes
returns-clause-bytes c =
    let middle = c.args.self.now.middle.items in
    let size : length c.args.sector.now ≡ 512 = c.told-sector in
    let few : length middle ≤ 500 = subst (λ (text : List ℕ). length text ≤ 500) c.deref.ensures.0 c.deref.ensures.1 in
    let length_is : c.put_u16.new.sector ≡ with_part c.args.sector.now 0 (bytes16 (length middle)) = cc in
    let text_is : c.put_name.new.sector ≡ with_part c.put_part.new.sector 8 (filled_bytes 504 middle) = cc in
    let a = written-first c.args.sector.now (bytes16 (length middle)) c.put_u16.new.sector 0 2 size length_is refl in
    let b = written-next a (replicate 6 0) c.put_part.new.sector 2 6 c.put_part.ensures refl refl (omega arith) in
    let d = written-next b (filled_bytes 504 middle) c.put_name.new.sector 8 504 text_is (length-filled 504 middle (omega (arith, few))) refl (omega arith) in
    written-whole d ∙ sym (filled-after 512 (bytes16 (length middle) ++ replicate 6 0) middle)

pub returns-clause-again : goal.returns-clause-again
returns-clause-again c = λ short. ap options_at (returns-clause-bytes c) ∙ options_again c.args.self.now.middle.items short
