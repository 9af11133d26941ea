use Rattle.std.proofs.Common.{◌≡◌, ◌+◌, None, refl, sym, inr, arith, rules}
use Rattle.disk_trait.proofs.CallLemmas.{goes_on_same}
use Rattle.disk_trait.proofs.MomentLemmas.{leaves_none, leaves_weaker}
use Rattle.disk_trait.proofs.NotWrittenLemmas.{not_written_flushed}
use Rattle.minix_layout.specs.View.{kind_view, super_view}
use Rattle.minix_zones.specs.View.{span_view}
use Rattle.ldisk_model.specs.MinixFormat.{format_layout}
use Rattle.minix_format.proofs.LayoutLemmas.{layout-laid}
use Rattle.minix_format.proofs.WriteLemmas.{count-within, outside-span, made_at, made_empty, not_made, partly_made}
use Rattle.minix_format.proofs.volume.format.Goals as goal

pub returns-in_default-clause-outside : goal.returns-in_default-clause-outside
returns-in_default-clause-outside g c = λ d s out. not_written_flushed (g.D.Disks.past c.args.disks.now) (g.D.Disks.past c.args.disks.now) (inr refl) d s

pub returns-in_default-clause-goes_on : goal.returns-in_default-clause-goes_on
returns-in_default-clause-goes_on g c =
    goes_on_same g.D.Disks c.args.disks.now c.args.disks.now refl record { later = omega arith; size = refl; count = refl; geometry = refl }

pub returns-in_default-clause-any_moment : goal.returns-in_default-clause-any_moment
returns-in_default-clause-any_moment g c =
    let none : format_layout (kind_view c.args.kind) c.args.span.count c.args.inodes ≡ None = search rules in
    leaves_none (g.D.Disks.past c.args.disks.now) _ (λ image left. (image, left, not_made (span_view c.args.span) (kind_view c.args.kind) c.args.inodes c.args.time image none))

pub write_volume-requires-clause-laid : goal.write_volume-requires-clause-laid
write_volume-requires-clause-laid g c =
    layout-laid (kind_view c.args.kind) c.args.span.count c.args.inodes (super_view c.in-Some.layout) (sym c.in-Some.ensures)

pub write_volume-requires-clause-there : goal.write_volume-requires-clause-there
write_volume-requires-clause-there g c =
    let within = count-within (kind_view c.args.kind) c.args.span.count c.args.inodes (super_view c.in-Some.layout) c.in-Some.ensures in
    omega (arith, within, c.requires)

pub write_volume-requires-clause-numbered : goal.write_volume-requires-clause-numbered
write_volume-requires-clause-numbered g c =
    let within = count-within (kind_view c.args.kind) c.args.span.count c.args.inodes (super_view c.in-Some.layout) c.in-Some.ensures in
    omega (arith, within, c.requires, c.size-size.ensures.size)

pub returns-clause-made : goal.returns-clause-made
returns-clause-made g c = λ told.
    made_at (span_view c.args.span) (super_view c.in-Some.layout) c.args.time _ _ (c.in_ok-write_volume.ensures.writes.written told) (kind_view c.args.kind) c.args.inodes c.in-Some.ensures

pub returns-clause-empty : goal.returns-clause-empty
returns-clause-empty g c = λ told whole.
    made_empty (span_view c.args.span) (super_view c.in-Some.layout) c.args.time _ _ (c.in_ok-write_volume.ensures.writes.written told) (kind_view c.args.kind) c.args.inodes c.in-Some.ensures
    (omega (arith, c.ranges.time)) (λ sector below. whole c.args.span.disk (c.args.span.start + sector) (omega (arith, below, c.requires)))

pub returns-clause-outside : goal.returns-clause-outside
returns-clause-outside g c = λ d s out.
    let within = count-within (kind_view c.args.kind) c.args.span.count c.args.inodes (super_view c.in-Some.layout) c.in-Some.ensures in
    c.write_volume.ensures.writes.others d s (outside-span c.args.span.disk c.args.span.start c.args.span.count (super_view c.in-Some.layout) c.args.time d s within out)

pub returns-in_err-write_volume-clause-outside : goal.returns-in_err-write_volume-clause-outside
returns-in_err-write_volume-clause-outside g c = λ d s out.
    let within = count-within (kind_view c.args.kind) c.args.span.count c.args.inodes (super_view c.in-Some.layout) c.in-Some.ensures in
    c.write_volume.ensures.writes.others d s (outside-span c.args.span.disk c.args.span.start c.args.span.count (super_view c.in-Some.layout) c.args.time d s within out)

pub returns-clause-any_moment : goal.returns-clause-any_moment
returns-clause-any_moment g c =
    leaves_weaker (g.D.Disks.past c.args.disks.now) (g.D.Disks.past c.write_volume.new.disks) _ _ c.write_volume.ensures.writes.any_moment
    (λ image from. (from.0, from.1, partly_made (span_view c.args.span) (super_view c.in-Some.layout) c.args.time from.0 image from.2 (kind_view c.args.kind) c.args.inodes c.in-Some.ensures))

pub returns-in_err-write_volume-clause-any_moment : goal.returns-in_err-write_volume-clause-any_moment
returns-in_err-write_volume-clause-any_moment g c =
    leaves_weaker (g.D.Disks.past c.args.disks.now) (g.D.Disks.past c.write_volume.new.disks) _ _ c.write_volume.ensures.writes.any_moment
    (λ image from. (from.0, from.1, partly_made (span_view c.args.span) (super_view c.in-Some.layout) c.args.time from.0 image from.2 (kind_view c.args.kind) c.args.inodes c.in-Some.ensures))
