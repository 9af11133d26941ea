use Rattle.std.proofs.Common.{◌≡◌, ◌≤◌, drop, length}
use Rattle.prompt_core.specs.Run.{last_found, last_prompt}
use Rattle.prompt_core.proofs.PartsLemmas.{settled}
use Rattle.prompt_core.proofs.parts.last_prompt.Given as goal

-- what was found so far is the last prompt, unless a later one comes
abbrev pub invariant-loop-place : goal.invariant-loop-place
invariant-loop-place l = record {
  last : last_prompt l.text ≡ settled l.found l.place (last_found (drop l.place l.text));
  within : l.found ≤ length l.text;
}
