use Rattle.std.proofs.Common.{◌+◌, ◌*◌, refl, ◌∙◌, ap, arith}
use Rattle.std.specs.Int.{div_ceil}
use Rattle.minix_layout.specs.View.{kind_view}
use Rattle.ldisk_model.specs.MinixFormat.{size_for}
use Rattle.minix_format.proofs.LayoutLemmas.{layout-none, layout-some}
use Rattle.minix_format.proofs.layout.format_layout.Goals as goal

pub returns-then-inodes-eq0 : goal.returns-then-inodes-eq0
returns-then-inodes-eq0 c =
    layout-none (kind_view c.args.kind) c.args.sectors c.args.inodes c.args.inodes c.zones_for-zones.result c.div_ceil-imap.result c.div_ceil-zmap.result c.from-4.result (size_for (kind_view c.args.kind))
    refl c.zones_for-zones.ensures (c.div_ceil-imap.ensures ∙ ap (λ n. div_ceil (n + 1) 8192) c.from.ensures) c.div_ceil-zmap.ensures
    (c.from-4.ensures ∙ c.div_ceil-table.ensures ∙ ap (λ n. div_ceil (n * c.from-3.result) 1024) c.from-2.ensures
    ∙ ap (λ n. div_ceil (c.args.inodes * n) 1024) (c.from-3.ensures ∙ c.inode_size.ensures))
    refl
    c.then-inodes-eq0.either

pub returns : goal.returns
returns c =
    layout-some (kind_view c.args.kind) c.args.sectors c.args.inodes c.from-5.result c.zones_for-zones.result c.div_ceil-imap.result c.div_ceil-zmap.result c.from-4.result c.size_for.result
    c.from-5.ensures c.zones_for-zones.ensures (c.div_ceil-imap.ensures ∙ ap (λ n. div_ceil (n + 1) 8192) c.from.ensures) c.div_ceil-zmap.ensures
    (c.from-4.ensures ∙ c.div_ceil-table.ensures ∙ ap (λ n. div_ceil (n * c.from-3.result) 1024) c.from-2.ensures
    ∙ ap (λ n. div_ceil (c.args.inodes * n) 1024) (c.from-3.ensures ∙ c.inode_size.ensures))
    c.size_for.ensures
    c.if-inodes-eq0.false (omega (arith, c.ranges.inodes)) c.if-first-zones.false c.if-first-gt-LAST.false
