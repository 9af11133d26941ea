use Rattle.std.proofs.Common.{rules}
use Rattle.minix_fill.proofs.MarkSteps.{are_in, marks_range, marks_there, marks_inside_mid, marks_harmless_mid, marks_written, marks_refused}
use Rattle.minix_fill.proofs.mark.mark_together.Goals as goal

pub read_sector-requires : goal.read_sector-requires
read_sector-requires g c =
    let old = c.args.volume.now in
    let at = rw c.layout.ensures.value at c.zone_bit_sector-sector.ensures in
    let range = marks_range old c.args.zones.now c.zone_bit_sector-sector.result c.requires.some c.requires.data at in
    marks_there old c.requires.ready c.args.zones.now c.zone_bit_sector-sector.result range

pub returns-in_err-read_sector : goal.returns-in_err-read_sector
returns-in_err-read_sector g c =
    marks_refused c.args.volume.now c.read_sector.new.self c.args.zones.now _ c.requires.ready (λ P. search rules) c.read_sector.ensures.same c.read_sector.ensures.later (search rules)

pub write_beside-requires-clause-inside : goal.write_beside-requires-clause-inside
write_beside-requires-clause-inside g c =
    let old = c.args.volume.now in
    let at = rw c.layout.ensures.value at c.zone_bit_sector-sector.ensures in
    let range = marks_range old c.args.zones.now c.zone_bit_sector-sector.result c.requires.some c.requires.data at in
    let put = rw (c.layout-2.ensures.value, c.read_sector.ensures.same.same_layout) at c.set_marks.ensures in
    marks_inside_mid old c.requires.ready c.args.zones.now c.zone_bit_sector-sector.result range
    c.read_sector.new.self c.read_sector.ensures.same c.read_sector.new.into c.set_marks.new.bytes c.in_ok-read_sector.ensures.bytes put

pub write_beside-requires-clause-harmless : goal.write_beside-requires-clause-harmless
write_beside-requires-clause-harmless g c =
    let old = c.args.volume.now in
    let at = rw c.layout.ensures.value at c.zone_bit_sector-sector.ensures in
    let range = marks_range old c.args.zones.now c.zone_bit_sector-sector.result c.requires.some c.requires.data at in
    let put = rw (c.layout-2.ensures.value, c.read_sector.ensures.same.same_layout) at c.set_marks.ensures in
    marks_harmless_mid old c.requires.ready c.args.zones.now c.zone_bit_sector-sector.result range
    c.read_sector.new.self c.read_sector.ensures.same c.read_sector.new.into c.set_marks.new.bytes c.in_ok-read_sector.ensures.bytes put

pub returns : goal.returns
returns g c =
    let old = c.args.volume.now in
    let at = rw c.layout.ensures.value at c.zone_bit_sector-sector.ensures in
    let range = marks_range old c.args.zones.now c.zone_bit_sector-sector.result c.requires.some c.requires.data at in
    let put = rw (c.layout-2.ensures.value, c.read_sector.ensures.same.same_layout) at c.set_marks.ensures in
    marks_written old c.requires.ready c.args.zones.now c.zone_bit_sector-sector.result range
    c.read_sector.new.self c.read_sector.ensures.same c.read_sector.new.into c.set_marks.new.bytes c.in_ok-read_sector.ensures.bytes put
    (are_in old.layout c.args.zones.now c.zone_bit_sector-sector.result c.requires.data c.requires.together at) c.requires.some
    c.write_beside.new.volume c.write_beside.result c.read_sector.ensures.later c.write_beside.ensures.steps c.write_beside.ensures.writes
