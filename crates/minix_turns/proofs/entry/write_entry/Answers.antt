use Rattle.std.proofs.Common.{◌*◌, ℕ, List, sym, ◌∙◌, ap, subst, ⊎_elim}
use Rattle.lilo_model.specs.MinixLayout as model
use Rattle.lilo_model.specs.MinixLayout.{Kind}
use Rattle.minix_change_laws.specs.Written.{entry_bytes}
use Rattle.minix_layout.specs.declared.kind.FsKind.TheVariants.{V1Short, V1Long, V2Short, V2Long}
use Rattle.minix_layout.specs.declared.superblock.Super.{Super}
use Rattle.minix_zones.specs.declared.zone_fault.ZoneFault.TheVariants.{Device}
use Rattle.minix_turns.specs.Part.{TurnsPart}
use Rattle.minix_turns.proofs.PartLemmas.{entry_turns}
use Rattle.minix_turns.proofs.entry.write_entry.Goals as goal

pub returns-in-V1Short : goal.returns-in-V1Short
returns-in-V1Short g c =
    let layout = ap (λ (l : Super). l.kind) c.layout.ensures.value in
    let old = c.args.volume.now in
    let new = c.turn_part.new.volume in
    let P : List ℕ → Type 0 = λ bytes. TurnsPart old new c.args.zone (16 * c.args.index) bytes Device c.turn_part.result in
    let turns : P (entry_bytes model.V1Short c.args.number c.args.name.now) = subst P (c.part.ensures.bytes ∙ c.short_entry.ensures) c.turn_part.ensures.turns in
    let bytes : Kind → List ℕ = λ kind. entry_bytes kind c.args.number c.args.name.now in
    ⊎_elim
    (λ is. entry_turns old new c.args.zone c.args.index bytes V1Short Device c.turn_part.result (sym layout ∙ is) turns)
    (λ is. entry_turns old new c.args.zone c.args.index bytes V2Short Device c.turn_part.result (sym layout ∙ is) turns)
    c.in-V1Short.is

pub returns-in-V1Long : goal.returns-in-V1Long
returns-in-V1Long g c =
    let layout = ap (λ (l : Super). l.kind) c.layout.ensures.value in
    let old = c.args.volume.now in
    let new = c.turn_part-in-V1Long.new.volume in
    let P : List ℕ → Type 0 = λ bytes. TurnsPart old new c.args.zone (32 * c.args.index) bytes Device c.turn_part-in-V1Long.result in
    let turns : P (entry_bytes model.V1Long c.args.number c.args.name.now) = subst P (c.part-in-V1Long.ensures.bytes ∙ c.long_entry.ensures) c.turn_part-in-V1Long.ensures.turns in
    let bytes : Kind → List ℕ = λ kind. entry_bytes kind c.args.number c.args.name.now in
    ⊎_elim
    (λ is. entry_turns old new c.args.zone c.args.index bytes V1Long Device c.turn_part-in-V1Long.result (sym layout ∙ is) turns)
    (λ is. entry_turns old new c.args.zone c.args.index bytes V2Long Device c.turn_part-in-V1Long.result (sym layout ∙ is) turns)
    c.in-V1Long.is
