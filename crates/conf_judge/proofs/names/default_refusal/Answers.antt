use Rattle.std.proofs.Common.{◌∙◌, sym, refl}
use Rattle.conf_judge.proofs.SectionLemmas.{default_refusal-empty, default_refusal-at, default_refusal-none}
use Rattle.conf_judge.proofs.names.default_refusal.Goals as goal

pub returns-then-is_empty : goal.returns-then-is_empty
returns-then-is_empty c = rw (default_refusal-empty _ c.args.sections.now (sym c.is_empty.ensures ∙ c.if-is_empty.true)) refl

pub returns-in-Some : goal.returns-in-Some
returns-in-Some c =
    rw (default_refusal-at _ c.args.sections.now c.in-Some.wanted.now (sym c.is_empty.ensures ∙ c.if-is_empty.false) (sym c.in-Some.ensures))
    c.wanted_refusal.ensures

pub returns-in-None : goal.returns-in-None
returns-in-None c =
    rw (default_refusal-none _ c.args.sections.now (sym c.is_empty.ensures ∙ c.if-is_empty.false) (sym c.in-None.ensures)) refl
