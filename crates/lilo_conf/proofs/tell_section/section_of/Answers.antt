use Rattle.std.proofs.Common.{◌∙◌}
use Rattle.lilo_model.specs.Conf.{section_of}
use Rattle.lilo_conf.proofs.tell_section.section_of.Goals as goal

pub returns : goal.returns
unfolding section_of
returns c =
    let path = c.in_ok-path.ensures ∙ c.section_path.ensures in
    let label = c.in_ok-label.ensures ∙ c.section_label.ensures in
    λ i. record {
      other = c.section_device.ensures i;
      path = path i;
      label = label i;
      alias = c.in_ok-alias.ensures i;
      initrd = c.in_ok-initrd.ensures i;
      root = c.effect_root.ensures i;
      mount = c.effect_mount.ensures i;
      append = c.in_ok-append.ensures i;
      literal = c.in_ok-literal.ensures i;
      vga = c.effect_vga.ensures i;
      password = c.in_ok-password.ensures i;
      restricted = c.effect_flag.ensures i;
      optional = c.effect_flag-2.ensures i;
      lock = c.effect_flag-3.ensures i;
      fallback = c.in_ok-fallback.ensures i;
      table = c.device_from.ensures i;
      line = c.opening_line.ensures i;
    }
