use Rattle.std.proofs.Common.{◌≡◌, ◌+◌, drop}
use Rattle.prompt_core.specs.Run.{first_prompt}
use Rattle.prompt_core.proofs.parts.first_prompt.Given as goal

-- no prompt begins before this place
abbrev pub invariant-loop-place : goal.invariant-loop-place
invariant-loop-place l = first_prompt l.text ≡ l.place + first_prompt (drop l.place l.text)
