-- Four digits suffice.
use Rattle.std.proofs.Common.{◌++◌, ap, ◌∙◌, arith, append_assoc}
use Rattle.std.specs.Prelude.{codes}
use Rattle.lilo_model.specs.Meant.{hex_digits}
use Rattle.map_plan.proofs.middle.add_number.Goals as goal

pub returns : goal.returns
returns c =
    c.in_ok-add_hex.ensures 3 (omega (arith, c.ranges.number.fits))
    ∙ ap (λ first. first ++ hex_digits 4 c.args.number) c.in_ok-extend_from_slice.ensures.items
    ∙ append_assoc c.args.bytes.now.items (codes " root=") (hex_digits 4 c.args.number)
