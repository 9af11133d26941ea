use Rattle.minix_fill.specs.Numbers.{zones_view}
use Rattle.minix_choice_laws.specs.Sources.{Indirect}
use Rattle.minix_fill.proofs.FillSteps.{fit_numbers, writes_hole, writes_zone}
use Rattle.minix_fill.proofs.fill.write_place.Goals as goal

pub returns-then-zone-eq0 : goal.returns-then-zone-eq0
returns-then-zone-eq0 g c = writes_hole c.args.volume.now (zones_view c.args.zones.now) c.requires.ready c.args.place c.if-zone-eq0.true

pub put_numbers-requires-clause-small : goal.put_numbers-requires-clause-small
put_numbers-requires-clause-small g c =
    rw c.layout.ensures.value (fit_numbers c.args.volume.now (zones_view c.args.zones.now) c.requires.free)

pub write_zone-requires-clause-from : goal.write_zone-requires-clause-from
write_zone-requires-clause-from g c = (c.requires.free.range (Indirect c.args.place) c.if-zone-eq0.false).0

pub write_zone-requires-clause-below : goal.write_zone-requires-clause-below
write_zone-requires-clause-below g c = (c.requires.free.range (Indirect c.args.place) c.if-zone-eq0.false).1

pub write_zone-requires-clause-unused : goal.write_zone-requires-clause-unused
write_zone-requires-clause-unused g c = c.requires.free.unused (Indirect c.args.place) c.if-zone-eq0.false

pub returns : goal.returns
returns g c =
    let has = rw c.layout.ensures.value at c.put_numbers.ensures in
    writes_zone c.args.volume.now (zones_view c.args.zones.now) c.write_zone.new.volume c.args.place c.put_numbers.new.into c.write_zone.result c.if-zone-eq0.false has
    c.write_zone.ensures.steps c.write_zone.ensures.parts c.write_zone.ensures.begun c.write_zone.ensures.others c.write_zone.ensures.device
