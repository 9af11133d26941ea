-- The slots one after the other, and the link.
use Rattle.map_section.proofs.WriteLemmas.{slots-next, slots-all, linked-bytes, last-bytes, slots-read, link-read}
use Rattle.map_section.proofs.sectors.write_section.Goals as goal

pub loop-index-preserved : goal.loop-index-preserved
loop-index-preserved c =
    slots-next c.args.slots.now c.loop-index.index _ c.loop-index.into c.put.new.sector c.requires.few c.loop-index-test.true c.loop-index.invariant c.put.ensures

pub returns-in-Some-clause-bytes : goal.returns-in-Some-clause-bytes
returns-in-Some-clause-bytes c =
    let all = slots-all c.args.slots.now c.loop-index.index c.loop-index.into c.loop-index-test.false c.loop-index.auto.index-end c.loop-index.invariant in
    linked-bytes c.args.slots.now c.requires.few c.args.link c.in-Some.link c.loop-index.into c.put-in-Some.new.sector c.in-Some.is all c.put-in-Some.ensures

pub returns-in-Some-clause-slots : goal.returns-in-Some-clause-slots
returns-in-Some-clause-slots c = slots-read c.args.slots.now c.requires.few c.args.link c.put-in-Some.new.sector (returns-in-Some-clause-bytes c) c.requires.slots

pub returns-in-Some-clause-link : goal.returns-in-Some-clause-link
returns-in-Some-clause-link c = link-read c.args.slots.now c.requires.few c.args.link c.put-in-Some.new.sector (returns-in-Some-clause-bytes c) c.requires.link

pub returns-in-None-clause-bytes : goal.returns-in-None-clause-bytes
returns-in-None-clause-bytes c =
    let all = slots-all c.args.slots.now c.loop-index.index c.loop-index.into c.loop-index-test.false c.loop-index.auto.index-end c.loop-index.invariant in
    last-bytes c.args.slots.now c.requires.few c.args.link c.loop-index.into c.in-None.is all

pub returns-in-None-clause-slots : goal.returns-in-None-clause-slots
returns-in-None-clause-slots c = slots-read c.args.slots.now c.requires.few c.args.link c.loop-index.into (returns-in-None-clause-bytes c) c.requires.slots

pub returns-in-None-clause-link : goal.returns-in-None-clause-link
returns-in-None-clause-link c = link-read c.args.slots.now c.requires.few c.args.link c.loop-index.into (returns-in-None-clause-bytes c) c.requires.link
