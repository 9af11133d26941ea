use Rattle.std.proofs.Common.{sym, ◌∙◌, ap, ⊎_elim}
use Rattle.minix_layout.specs.declared.kind.FsKind.TheVariants.{V1Short, V1Long, V2Short, V2Long}
use Rattle.minix_layout.specs.declared.superblock.Super.{Super}
use Rattle.minix_change_laws.specs.Part.{free_bytes}
use Rattle.minix_zones.specs.declared.zone_fault.ZoneFault.TheVariants.{Device}
use Rattle.minix_turns.proofs.PartLemmas.{entry_turns}
use Rattle.minix_turns.proofs.entry.write_free.Goals as goal

pub returns-in-V1Short : goal.returns-in-V1Short
returns-in-V1Short g c =
    let layout = ap (λ (l : Super). l.kind) c.layout.ensures.value in
    ⊎_elim
    (λ is. entry_turns c.args.volume.now c.turn_part.new.volume c.args.zone c.args.index free_bytes V1Short Device c.turn_part.result (sym layout ∙ is) c.turn_part.ensures.turns)
    (λ is. entry_turns c.args.volume.now c.turn_part.new.volume c.args.zone c.args.index free_bytes V2Short Device c.turn_part.result (sym layout ∙ is) c.turn_part.ensures.turns)
    c.in-V1Short.is

pub returns-in-V1Long : goal.returns-in-V1Long
returns-in-V1Long g c =
    let layout = ap (λ (l : Super). l.kind) c.layout.ensures.value in
    ⊎_elim
    (λ is. entry_turns c.args.volume.now c.turn_part-in-V1Long.new.volume c.args.zone c.args.index free_bytes V1Long Device c.turn_part-in-V1Long.result (sym layout ∙ is) c.turn_part-in-V1Long.ensures.turns)
    (λ is. entry_turns c.args.volume.now c.turn_part-in-V1Long.new.volume c.args.zone c.args.index free_bytes V2Long Device c.turn_part-in-V1Long.result (sym layout ∙ is) c.turn_part-in-V1Long.ensures.turns)
    c.in-V1Long.is
