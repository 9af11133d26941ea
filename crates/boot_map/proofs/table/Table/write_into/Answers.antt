-- The entries, one after the other.
use Rattle.std.proofs.Common.{◌≡◌, ◌≤◌, ◌<◌, ◌+◌, List, length, map, take, refl, sym, ap, subst, ◌∙◌, arith, length-append}
use Rattle.std.specs.Prelude.{flat_map, slice_index_or}
use Rattle.lilo_model.specs.Table.{table_at, descriptor_bytes}
use Rattle.lilo_model.specs.Plan.{sectors_of_table}
use Rattle.std.proofs.Math.Seq.{take-length}
use Rattle.boot_map.specs.View.{table_view, descriptor_view}
use Rattle.boot_map.specs.declared.descriptor.Descriptor.{Descriptor}
use Rattle.boot_map.proofs.TableWritten.{ThreeSectors, three-are, three-zeros, three-next, entries-more, table_read}
use Rattle.boot_map.proofs.table.Table.write_into.Goals as goal

pub loop-index-init : goal.loop-index-init
loop-index-init c = record { sectors = three-zeros _ c.copy_from_slice.ensures.after; long = refl }

pub loop-index-preserved : goal.loop-index-preserved
loop-index-preserved c =
    let entries = c.args.self.now.entries.items in
    let before = flat_map descriptor_bytes (map descriptor_view (take c.loop-index.index entries)) in
    let new = descriptor_bytes (descriptor_view c.entry-item.result) in
    let below : c.loop-index.index < length entries = subst (λ (entries : List Descriptor). c.loop-index.index < length entries) c.deref-entry-items.ensures.0 c.loop-index-test.true in
    let more = entries-more entries c.loop-index.index c.entry-item.result below (subst (λ (entries : List Descriptor). c.entry-item.result ≡ slice_index_or entries c.loop-index.index c.entry-item.result) c.deref-entry-items.ensures.0 c.entry-item.is) in
    record {
      sectors =
          subst (ThreeSectors _) (sym more)
          (three-next c.loop-index.sectors before new c.put.new.sector _ c.loop-index.index c.loop-index.invariant.sectors c.loop-index.invariant.long c.put.ensures.long (omega (arith, below, c.requires.fits)) c.put.ensures.bytes);
      long = ap length more ∙ length-append before new ∙ omega (arith, c.loop-index.invariant.long, c.put.ensures.long);
    }

pub returns-clause-bytes : goal.returns-clause-bytes
unfolding sectors_of_table
returns-clause-bytes c =
    let entries = c.args.self.now.entries.items in
    let some : c.loop-index.index ≤ length entries = subst (λ (entries : List Descriptor). c.loop-index.index ≤ length entries) c.deref-entry-items.ensures.0 c.loop-index.auto.index-end in
    let all : length entries ≤ c.loop-index.index = subst (λ (entries : List Descriptor). length entries ≤ c.loop-index.index) c.deref-entry-items.ensures.0 c.loop-index-test.false in
    let same : c.loop-index.index ≡ length entries = omega (arith, some, all) in
    three-are c.loop-index.sectors (flat_map descriptor_bytes (table_view c.args.self.now))
    (subst (λ (entries : List Descriptor). ThreeSectors c.loop-index.sectors (flat_map descriptor_bytes (map descriptor_view entries))) (ap (λ n. take n entries) same ∙ take-length entries) c.loop-index.invariant.sectors)

pub returns-clause-again : goal.returns-clause-again
returns-clause-again c =
    λ fit names. ap (table_at (length c.args.self.now.entries.items)) (returns-clause-bytes c)
    ∙ table_read c.args.self.now.entries.items c.requires.fits fit names
