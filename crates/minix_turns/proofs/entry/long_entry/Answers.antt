use Rattle.std.proofs.Common.{ℕ, List, replicate, ◌∙◌, ap}
use Rattle.lilo_model.specs.Bytes.{part_of, with_part, filled_bytes}
use Rattle.minix_turns.proofs.EntryLemmas.{entry_made}
use Rattle.minix_turns.proofs.entry.long_entry.Goals as goal

pub returns : goal.returns
returns c =
    ap (λ (sector : List ℕ). part_of sector 0 32) (c.put_name.ensures ∙ ap (λ (sector : List ℕ). with_part sector 2 (filled_bytes 30 c.args.name.now)) c.put_u16.ensures)
    ∙ entry_made (replicate 512 0) c.args.number 30 c.args.name.now c.requires
