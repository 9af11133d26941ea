-- The two sectors of a block are its bytes.
use Rattle.std.proofs.Common.{◌≡◌, ◌++◌, ◌-◌, ℕ, List, length, take, drop, replicate, sym, ap, ◌∙◌, arith, length-drop, length-take}
use Rattle.std.proofs.lemmas.List.{take-append-drop, take_all}
use Rattle.lilo_model.specs.Bytes.{part_of}
use Rattle.map_plan.specs.Starts.{FileStart}
use Rattle.map_plan.proofs.start.start_with.Goals as goal

halves : (bytes : List ℕ) → length bytes ≡ 1024 → part_of bytes 0 512 ++ part_of bytes 512 512 ≡ bytes
halves bytes long =
    ap (λ last. take 512 bytes ++ last) (take_all 512 (drop 512 bytes) (simp length-drop (omega (arith, long)))) ∙ take-append-drop 512 bytes

pub returns : goal.returns
returns c =
    let block : List ℕ = c.clear_after.new.block in
    let both : part_of block 0 512 ++ part_of block 512 512 ≡ block = halves block c.clear_after.ensures.size in
    let short : length (take c.args.count c.args.block.now) ≡ c.args.count = simp length-take (omega (arith, c.requires)) in
    let with : List ℕ → FileStart = λ bytes. record { size = c.args.size; bytes = bytes } in
    ap with
    (ap (λ first. first ++ c.half-2.result.now) c.half.ensures
    ∙ ap (λ second. part_of block 0 512 ++ second) c.half-2.ensures ∙ both ∙ c.clear_after.ensures.bytes
    ∙ ap (λ n. take c.args.count c.args.block.now ++ replicate (1024 - n) 0) (sym short))
