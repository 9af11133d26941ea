-- The first entry that breaks the format, or the descriptors of all.
use Rattle.std.proofs.Common.{◌≡◌, true, false, refl, add-one, arith}
use Rattle.std.proofs.lemmas.List.{map-append}
use Rattle.std.proofs.lemmas.List.Elements.{All-push}
use Rattle.lilo_model.specs.Table.{table_at, breaks, entry_bytes, descriptor_of}
use Rattle.boot_map.specs.View.{descriptor_view}
use Rattle.boot_map.specs.Ranges.{IsNamed, HasSectors, FitsFlags}
use Rattle.boot_map.proofs.FirstBelow.{first_below-none, first_below-found}
use Rattle.boot_map.proofs.TableLemmas.{breaks_entry}
use Rattle.boot_map.proofs.table.Table.read.Goals as goal

pub returns-then-breaks-clause-read : goal.returns-then-breaks-clause-read
unfolding table_at
returns-then-breaks-clause-read c =
    let passes : breaks c.args.sectors.now c.loop-entry.entry ≡ true = cc in
    let found = first_below-found (breaks c.args.sectors.now) c.loop-entry.entry c.args.boot.now.names
    c.loop-entry.invariant.none passes c.loop-entry-test.true in
    rw found refl

pub descriptor_of-requires-clause-entry : goal.descriptor_of-requires-clause-entry
descriptor_of-requires-clause-entry c =
    let keeps : breaks c.args.sectors.now c.loop-entry.entry ≡ false = cc in
    let entry = breaks_entry c.args.sectors.now c.loop-entry.entry keeps in cc

pub loop-entry-preserved : goal.loop-entry-preserved
loop-entry-preserved c =
    let keeps : breaks c.args.sectors.now c.loop-entry.entry ≡ false = cc in
    let same : descriptor_view c.descriptor_of.result ≡ descriptor_of (entry_bytes c.args.sectors.now c.loop-entry.entry) = cc in
    record {
      none = first_below-none (breaks c.args.sectors.now) c.loop-entry.entry c.loop-entry.invariant.none keeps;
      descriptors = rw (add-one, c.push.ensures.items, map-append, same, c.loop-entry.invariant.descriptors) refl;
      count = omega (arith, c.push.ensures.len, c.loop-entry.invariant.count);
      names =
          rw c.push.ensures.items
          (All-push IsNamed c.loop-entry.entries.items c.descriptor_of.result c.loop-entry.invariant.names
          c.descriptor_of.ensures.name);
      sectors =
          rw c.push.ensures.items
          (All-push HasSectors c.loop-entry.entries.items c.descriptor_of.result
          c.loop-entry.invariant.sectors c.descriptor_of.ensures.sectors);
      flags =
          rw c.push.ensures.items
          (All-push FitsFlags c.loop-entry.entries.items c.descriptor_of.result c.loop-entry.invariant.flags
          c.descriptor_of.ensures.flags);
    }
