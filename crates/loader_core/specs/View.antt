-- Which plain value of the model each value of this crate stands for.
use Rattle.std.specs.Prelude.{ℕ, List}
use Rattle.lilo_model.specs.Boot as boots
use Rattle.lilo_model.specs.Prompt as prompts
use Rattle.prompt_core.specs.declared.reply.Picked.{Picked}
use Rattle.setup_header.specs.View.{layout_view}
use Rattle.loader_core.specs.declared.outcome.Started.{Started}
use Rattle.loader_core.specs.declared.outcome.Started.TheVariants as starts

-- what was started
abbrev pub started_view : Started → boots.Outcome
started_view (starts.Loaded layout) = boots.Loaded (layout_view layout)
started_view starts.Handed = boots.Handed

-- what was picked, with the words to pass on
abbrev pub picked_view : Picked → List ℕ → prompts.Picked
picked_view picked words =
    record { entry = picked.entry; words = words; automatic = picked.automatic; vga = picked.vga }
