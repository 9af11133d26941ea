-- Another system has one section sector.
use Rattle.std.proofs.Common.{◌∙◌, sym, ap}
use Rattle.std.specs.Option.{option_map}
use Rattle.lilo_model.specs.Plan.{chain_for}
use Rattle.lilo_conf.specs.View.{config_view}
use Rattle.slot_lists.specs.Made.{place_view}
use Rattle.map_plan.specs.Sections.{main_view}
use Rattle.map_sectors.proofs.FileLemmas.{system-chain}
use Rattle.map_sectors.proofs.map.MapPlan.main_chain.Goals as goal

pub returns-in-System : goal.returns-in-System
returns-in-System c machine has named =
    system-chain (config_view c.args.self.now.config) machine (place_view c.in-System.field-0.first) (option_map place_view c.in-System.field-0.table)
    ∙ ap (λ files. chain_for (config_view c.args.self.now.config) machine (main_view files)) (sym c.in-System.is)
