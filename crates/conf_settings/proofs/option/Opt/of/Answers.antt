use Rattle.std.proofs.Common.{refl}
use Rattle.lilo_model.specs.ConfOptions.{all_options}
use Rattle.conf_settings.specs.declared.option.TheConstants.{ALL}
use Rattle.conf_settings.proofs.OptionLemmas.{option_at-found}
use Rattle.conf_settings.proofs.option.Opt.of.Goals as goal

pub returns : goal.returns
unfolding all_options
returns c = rw c.unwrap_or.ensures (option_at-found c.args.word.now ALL.now c.find_option.result refl c.find_option.ensures)
