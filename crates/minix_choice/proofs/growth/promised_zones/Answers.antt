-- One level more.
use Rattle.minix_layout.specs.View.{kind_view}
use Rattle.write_model.specs.Growth.{promised_zone}
use Rattle.minix_choice.proofs.GrowthLemmas.{level_more}
use Rattle.minix_choice.proofs.growth.promised_zones.Goals as goal

pub loop-level-preserved : goal.loop-level-preserved
loop-level-preserved c =
    level_more (promised_zone (kind_view c.args.kind) c.args.taken.now.promises c.args.directory c.args.block) c.loop-level.level c.loop-level.zones.items c.push.new.self.items c.promised_zone.result
    c.loop-level.invariant c.promised_zone.ensures c.in_ok-push.ensures.items
