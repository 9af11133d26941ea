-- The slots of an accepted file fill at most 65,535 section sectors.
use Rattle.std.proofs.Common.{◌≤◌, ◌∙◌, sym, ap, subst}
use Rattle.lilo_model.specs.Plan.{chain_for, section_sectors}
use Rattle.file_runs.specs.Mapped.{file_view}
use Rattle.map_sectors.proofs.FileLemmas.{few-sectors}
use Rattle.map_sectors.proofs.map.MapPlan.file_chain.Goals as goal

pub returns : goal.returns
unfolding chain_for
returns c machine has named =
    let sectors = c.section_sectors.ensures ∙ ap section_sectors (c.slots_of.ensures machine has named) in
    c.capped.ensures (subst (λ n. n ≤ 65535) (sym sectors) (few-sectors machine c.args.self.now (file_view c.args.file.now) named)) ∙ sectors
