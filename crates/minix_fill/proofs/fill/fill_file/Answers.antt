use Rattle.std.proofs.Common.{◌≡◌, Err, refl, rules}
use Rattle.minix_layout.specs.View.{kind_view, inode_view}
use Rattle.minix_fill.specs.Numbers.{zones_view}
use Rattle.minix_fill.proofs.FillLemmas.{fits_with}
use Rattle.minix_fill.proofs.FillSteps.{fit_numbers, written_zones, fills_no_inode, fills_done, is_fit_then, gets_name}
use Rattle.minix_fill.proofs.fill.fill_file.Goals as goal

pub write_inode-requires-clause-zones : goal.write_inode-requires-clause-zones
write_inode-requires-clause-zones g c =
    let old = c.args.volume.now in
    let zones = zones_view c.args.zones.now in
    let kept = c.write_indirect.ensures.steps.kept in
    let is = rw (c.layout.ensures.value, kept.same_layout) at c.with_zones-filled.ensures in
    written_zones old c.write_indirect.new.volume kept (inode_view c.args.inode.now) zones c.with_zones-filled.result is
    (fits_with (kind_view old.layout.kind) zones (inode_view c.args.inode.now) (fit_numbers old zones c.requires.free) c.requires.fits)

pub returns-in_err-write_inode-clause-fills : goal.returns-in_err-write_inode-clause-fills
returns-in_err-write_inode-clause-fills g c =
    let fault = c.in_err-write_inode.field-0.0 in
    let given : c.from_residual-in_err-write_inode.result ≡ Err fault = search rules in
    rw given (fills_no_inode c.args.volume.now (zones_view c.args.zones.now) c.args.number (inode_view c.args.inode.now) c.requires.some c.requires.there c.requires.ready c.requires.may c.requires.free
    c.write_indirect.new.volume c.write_inode.new.volume _ _ _ c.in_ok-write_indirect.ensures c.write_inode.ensures.steps c.in_err-write_inode.ensures.writes fault c.in_err-write_inode.ensures.writes.device)

pub returns-clause-fills : goal.returns-clause-fills
returns-clause-fills g c =
    let old = c.args.volume.now in
    let zones = zones_view c.args.zones.now in
    let kept = c.write_indirect.ensures.steps.kept in
    let is = rw (c.layout.ensures.value, kept.same_layout) at c.with_zones-filled.ensures in
    fills_done old zones c.args.number (inode_view c.args.inode.now) c.requires.some c.requires.there c.requires.ready c.requires.may c.requires.free
    c.write_indirect.new.volume c.write_inode.new.volume _ _ _ c.in_ok-write_indirect.ensures c.write_inode.ensures.steps c.in_ok-write_inode.ensures.writes
    c.settle.new.volume c.settle.result refl (inode_view c.with_zones-filled.result) is
    (fits_with (kind_view old.layout.kind) zones (inode_view c.args.inode.now) (fit_numbers old zones c.requires.free) c.requires.fits) c.requires.size
    c.in_ok-write_inode.ensures.parts c.settle.ensures.steps c.settle.ensures.syncs

pub returns-clause-fit : goal.returns-clause-fit
returns-clause-fit g c =
    is_fit_then c.args.volume.now (zones_view c.args.zones.now) c.args.number (inode_view c.args.inode.now) c.requires.some c.requires.there c.requires.ready c.requires.may c.requires.free
    c.settle.new.volume c.settle.result c.requires.unnamed c.requires.size (returns-clause-fills g c)

pub returns-clause-stands : goal.returns-clause-stands
returns-clause-stands g c =
    gets_name c.args.volume.now (zones_view c.args.zones.now) c.args.number (inode_view c.args.inode.now) c.requires.some c.requires.there c.requires.ready c.requires.may c.requires.free
    c.settle.new.volume c.settle.result c.requires.unnamed c.requires.size (returns-clause-fills g c)
