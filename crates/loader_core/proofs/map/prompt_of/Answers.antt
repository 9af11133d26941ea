use Rattle.std.proofs.Common.{◌∙◌}
use Rattle.boot_map.specs.View.{boot_view, line_view}
use Rattle.loader_core.proofs.ChoiceLemmas.{prompt_setup}
use Rattle.loader_core.proofs.map.prompt_of.Goals as goal

pub returns : goal.returns
returns c = λ model line list now machine.
    c.new.ensures.setup
    ∙ prompt_setup now machine (boot_view c.args.boot.now) model c.settings_of.result c.args.choices.items (line_view c.args.line.now) c.settings_of.ensures.settings line list
