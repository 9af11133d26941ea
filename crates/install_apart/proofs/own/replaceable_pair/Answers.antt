-- The names at a path, where they may be replaced.
use Rattle.std.proofs.Common.{◌≡◌, Err, rules, sym, ◌∙◌}
use Rattle.minix_zones.specs.Volume.{volume_view, past_of}
use Rattle.install_apart.proofs.OwnLemmas.{told-path, told-refused, told-fits}
use Rattle.install_apart.proofs.own.replaceable_pair.Goals as goal

pub returns-in_err-pair-clause-pair : goal.returns-in_err-pair-clause-pair
returns-in_err-pair-clause-pair g c =
    let given : c.from_residual.result ≡ Err (c.in_err-pair.field-0.0) = search rules in
    rw given (told-path (past_of c.args.volume.now) (volume_view c.args.volume.now) c.args.both c.args.path.now (c.in_err-pair.field-0.0) c.in_err-pair.ensures.pair)

pub returns-then-not-is_pair_replaceable-clause-pair : goal.returns-then-not-is_pair_replaceable-clause-pair
returns-then-not-is_pair_replaceable-clause-pair g c =
    told-refused (past_of c.args.volume.now) (volume_view c.args.volume.now) c.args.both c.args.path.now c.in_ok-pair.pair
    (sym c.is_pair_replaceable.ensures ∙ c.if-not-is_pair_replaceable.true) c.in_ok-pair.ensures.pair

pub returns-clause-pair : goal.returns-clause-pair
returns-clause-pair g c =
    told-fits (past_of c.args.volume.now) (volume_view c.args.volume.now) c.args.both c.args.path.now c.in_ok-pair.pair
    (sym c.is_pair_replaceable.ensures ∙ c.if-not-is_pair_replaceable.false) c.in_ok-pair.ensures.pair
