-- The block was copied over zeros.
use Rattle.std.proofs.Common.{◌++◌, ◌-◌, ℕ, List, length, drop, replicate, ap, ◌∙◌}
use Rattle.std.proofs.lemmas.List.{drop-replicate}
use Rattle.ldisk_files.proofs.content.padded_block.Goals as goal

pub returns : goal.returns
returns c =
    let stored = c.stored_block-stored.result.now in
    let copied = ap (λ (front : List ℕ). front ++ drop (length stored) (replicate 1024 0)) c.copy_from_slice.ensures.after ∙ ap (λ (rest : List ℕ). stored ++ rest) (drop-replicate (length stored) 1024 0) in
    copied ∙ ap (λ (block : List ℕ). block ++ replicate (1024 - length block) 0) c.stored_block-stored.ensures.is
