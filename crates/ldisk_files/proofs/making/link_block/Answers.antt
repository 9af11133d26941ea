-- The target was copied over zeros.
use Rattle.std.proofs.Common.{◌++◌, ℕ, List, length, drop, replicate, ap, ◌∙◌}
use Rattle.std.proofs.lemmas.List.{drop-replicate}
use Rattle.ldisk_files.proofs.making.link_block.Goals as goal

pub returns : goal.returns
returns c =
    let target = c.args.target.now in
    ap (λ (front : List ℕ). front ++ drop (length target) (replicate 1024 0)) c.copy_from_slice.ensures.after ∙ ap (λ (rest : List ℕ). target ++ rest) (drop-replicate (length target) 1024 0)
