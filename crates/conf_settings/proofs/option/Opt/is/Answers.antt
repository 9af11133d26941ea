use Rattle.std.proofs.Common.{refl}
use Rattle.conf_settings.proofs.OptionLemmas.{tag_of-number}
use Rattle.conf_settings.proofs.option.Opt.is.Goals as goal

pub returns : goal.returns
returns c = rw (tag_of-number c.args.self, tag_of-number c.args.other) refl
