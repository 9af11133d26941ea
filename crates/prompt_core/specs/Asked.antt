-- A prompt, as its caller sees it.
use Rattle.lilo_model.specs.Choice.{Setup}
use Rattle.prompt_core.specs.Steps.{State}

-- what is chosen from, and where the prompt is
pub record Asked : Type 0 where
  pub setup : Setup
  pub state : State
