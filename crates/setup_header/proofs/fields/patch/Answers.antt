use Rattle.setup_header.specs.View.{header_view, layout_view}
use Rattle.setup_header.proofs.Replaced.{patched-line_address, patched-line_offset}
use Rattle.setup_header.proofs.fields.patch.Goals as goal

pub returns-then-is_from : goal.returns-then-is_from
returns-then-is_from c =
    patched-line_address c.args.first.now c.args.second.now
    c.put_video.new.first c.put_loader.new.second c.put_heap.new.second c.put_line_address.new.second
    (header_view c.args.header.now) (layout_view c.args.layout.now) c.args.vga c.is_from.result c.is_from-2.result
    c.told-first c.is_from.ensures c.is_from-2.ensures c.if-is_from.true
    c.put_video.ensures c.put_loader.ensures c.put_heap.ensures c.put_line_address.ensures

pub returns-else-is_from : goal.returns-else-is_from
returns-else-is_from c =
    patched-line_offset c.args.first.now c.args.second.now
    c.put_video.new.first c.put_line_offset.new.first c.put_loader.new.second c.put_heap.new.second
    (header_view c.args.header.now) (layout_view c.args.layout.now) c.args.vga c.is_from.result c.is_from-2.result
    c.told-first c.is_from.ensures c.is_from-2.ensures c.if-is_from.false
    c.put_video.ensures c.put_loader.ensures c.put_heap.ensures c.put_line_offset.ensures
