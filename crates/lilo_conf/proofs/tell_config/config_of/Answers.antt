use Rattle.std.proofs.Common.{◌∙◌}
use Rattle.lilo_model.specs.Conf.{config_of}
use Rattle.lilo_conf.proofs.tell_config.config_of.Goals as goal

pub returns : goal.returns
unfolding config_of
returns c =
    let map = c.in_ok-map.ensures ∙ c.map_path.ensures in
    let sections = rw c.as_slice.ensures.value at c.in_ok-sections.ensures in
    λ i. record {
      boot = c.device_from.ensures i;
      map = map i;
      install = c.in_ok-install.ensures i;
      backup = c.in_ok-backup.ensures i;
      force_backup = c.in_ok-force_backup.ensures i;
      compact = c.has_option.ensures i;
      mode = c.mode_of.ensures i;
      default_name = c.in_ok-default_name.ensures i;
      delay = c.delay_of.ensures i;
      timeout = c.number_of.ensures i;
      prompt = c.has_option-2.ensures i;
      message = c.in_ok-message.ensures i;
      disks = c.in_ok-disks.ensures i;
      sections = sections i;
    }
