-- The parts of the sector, one after the other.
use Rattle.std.proofs.Common.{◌≡◌, ◌≤◌, ℕ, List, ◌++◌, length, codes, refl, sym, ap, subst, ◌∙◌, arith}
use Rattle.lilo_model.specs.Bytes.{with_part, bytes16, filled_bytes}
use Rattle.lilo_model.specs.DefaultLine.{line_text}
use Rattle.lilo_model.specs.LineSector.{line_at, line_bytes, state_number}
use Rattle.map_again_laws.specs.Fits as fits
use Rattle.map_again_laws.proofs.Parts.{written-first, written-next, written-whole, filled-after, length-filled}
use Rattle.map_again_laws.proofs.Texts.{line_again}
use Rattle.boot_map.specs.View.{line_view}
use Rattle.boot_map.specs.Ranges.{IsLine}
use Rattle.boot_map.specs.declared.default_line.DefaultLine.{DefaultLine}
use Rattle.boot_map.specs.declared.default_line.DefaultLine.TheVariants.{Empty, Once, Kept}
use Rattle.boot_map.proofs.default_line.DefaultLine.write_into.Goals as goal

pub returns-clause-bytes : goal.returns-clause-bytes
unfolding line_bytes
returns-clause-bytes c =
    let line = line_view c.args.self.now in
    let text = line_text line in
    let few : length text ≤ 470 = subst (λ (text : List ℕ). length text ≤ 470) c.text-text.ensures.text c.text-text.ensures.fits in
    let state_is : c.put_u16.new.sector ≡ with_part c.put_part.new.sector 4 (bytes16 (state_number line)) = cc in
    let length_is : c.put_u16-2.new.sector ≡ with_part c.put_u16.new.sector 6 (bytes16 (length text)) = cc in
    let text_is : c.put_name.new.sector ≡ with_part c.put_u16-2.new.sector 8 (filled_bytes 504 text) = cc in
    let a = written-first c.args.sector.now (codes "LINE") c.put_part.new.sector 0 4 c.told-sector c.put_part.ensures refl in
    let b = written-next a (bytes16 (state_number line)) c.put_u16.new.sector 4 2 state_is refl refl (omega arith) in
    let d = written-next b (bytes16 (length text)) c.put_u16-2.new.sector 6 2 length_is refl refl (omega arith) in
    let e = written-next d (filled_bytes 504 text) c.put_name.new.sector 8 504 text_is (length-filled 504 text (omega (arith, few))) refl (omega arith) in
    written-whole e ∙ sym (filled-after 512 (codes "LINE" ++ bytes16 (state_number line) ++ bytes16 (length text)) text)

line-fits : (line : DefaultLine) → IsLine line → fits.IsLine (line_view line)
line-fits Empty is = tt
line-fits (Once text) is = is
line-fits (Kept text) is = is

pub returns-clause-again : goal.returns-clause-again
returns-clause-again c = λ is. ap line_at (returns-clause-bytes c) ∙ line_again (line_view c.args.self.now) (line-fits c.args.self.now is)
