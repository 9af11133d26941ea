use Rattle.std.proofs.Common.{rules, ap}
use Rattle.disk_trait.proofs.Changed.{set-changes}
use Rattle.disk_trait.proofs.mem_disks.MemDisks.set.Goals as goal

pub returns : goal.returns
returns c =
    let all = set-changes _ _ _ _ _ _ _ _ _ (ap (λ m. m.start) c.self.view_is) c.from.ensures c.from-2.ensures c.requires.in_range c.index_mut.ensures.value c.set.ensures in
    record {
      start = all.image;
      others = search rules;
      size = all.sizes;
      count = search rules;
      geometry = all.geometries;
    }
