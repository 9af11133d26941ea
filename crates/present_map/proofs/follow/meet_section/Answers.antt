-- Turn by turn.
use Rattle.std.proofs.Common.{replicate, rules}
use Rattle.lilo_model.specs.Section.{section}
use Rattle.sector_address.specs.Machine.{machine_of}
use Rattle.sector_address.specs.View.{slot_view}
use Rattle.present_map.specs.Follow.{ahead_of}
use Rattle.present_map.proofs.FollowLemmas.{section_ahead, meets_on-more}
use Rattle.disk_trait.proofs.ToldLemmas.{told_all, told_both}
use Rattle.present_map.proofs.follow.meet_section.Goals as goal

pub loop-goes_on-init : goal.loop-goes_on-init
loop-goes_on-init g c = record {
  met = told_all (g.D.Disks.past c.args.disks.now) _ (λ now end rest. rw (c.new.ensures, section_ahead now (machine_of g.D.Disks c.args.disks.now) (slot_view c.args.first.now) c.args.sectors c.args.chain (replicate 512 0)) at rest);
  counted = search rules;
  first = search rules;
  same = search rules;
  later = search rules;
}

pub loop-goes_on-preserved : goal.loop-goes_on-preserved
loop-goes_on-preserved g c =
    let same = c.loop-goes_on.invariant.same in
    let machine = machine_of g.D.Disks c.args.disks.now in
    let here = rw (same.same_past, same.same_size, same.same_geometry) at c.in_ok-goes_on.ensures.met in
    record {
      met = told_both (g.D.Disks.past c.args.disks.now) _ _ _ (λ now far here.
          meets_on-more c.in_ok-goes_on.goes_on c.args.met.now c.loop-goes_on.met c.turn.new.met (ahead_of now machine c.loop-goes_on.following)
          (ahead_of now machine c.turn.new.following) (section now machine (slot_view c.args.first.now) c.args.sectors c.args.chain)
          (rw c.loop-goes_on-test.true at far) here) c.loop-goes_on.invariant.met here;
      counted = search rules;
      first = search rules;
      same = search rules;
      later = search rules;
    }
