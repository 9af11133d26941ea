use Rattle.std.proofs.Common.{◌∙◌, refl}
use Rattle.install_stage.proofs.HalfLemmas.{two_halves}
use Rattle.install_stage.proofs.halves.block_of.Goals as goal

pub returns : goal.returns
returns c =
    two_halves c.copy_from_slice.new.self c.copy_from_slice-2.new.self _ c.copy_from_slice.ensures.len refl
    ∙ rw (c.copy_from_slice.ensures.after, c.copy_from_slice-2.ensures.after) refl
