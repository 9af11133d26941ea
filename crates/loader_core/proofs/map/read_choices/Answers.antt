-- One more sector was read.
use Rattle.std.proofs.Common.{◌≡◌, ◌∙◌, ◌+◌, ◌∷◌, suc, sym, ap, map, drop, add-one, arith, rules}
use Rattle.std.proofs.Math.Seq.{drop-cons}
use Rattle.lilo_model.specs.Checks.{each}
use Rattle.sector_address.specs.Machine.{machine_of}
use Rattle.boot_map.specs.View.{descriptor_view}
use Rattle.loader_core.specs.Map.{password_sector}
use Rattle.disk_trait.proofs.ToldLemmas.{told_all, told_both}
use Rattle.loader_core.proofs.MapLemmas.{so_far-begun, so_far-next}
use Rattle.loader_core.proofs.map.read_choices.Goals as goal

pub loop-entry-init : goal.loop-entry-init
loop-entry-init g c = record {
  choices = told_all (g.D.Disks.past c.args.disks.now) _ (λ now. so_far-begun _ c.new.ensures (map descriptor_view c.args.entries.now) _);
  few = search rules;
  same = search rules;
  later = search rules;
}

pub loop-entry-preserved : goal.loop-entry-preserved
loop-entry-preserved g c =
    let same = c.loop-entry.invariant.same in
    let machine = machine_of g.D.Disks c.args.disks.now in
    let entry = c.entry-item.result in
    let read = rw (same.same_past, same.same_size, same.same_geometry) at c.in_ok-choice.ensures.choice in
    let split : drop c.loop-entry.entry-index c.args.entries.now ≡ entry ∷ drop (c.loop-entry.entry-index + 1) c.args.entries.now =
    rw add-one
    (drop-cons c.args.entries.now c.loop-entry.entry-index entry c.loop-entry-test.true
    ∙ ap (λ e. e ∷ drop (suc c.loop-entry.entry-index) c.args.entries.now) (sym c.entry-item.is)) in
    record {
      choices =
          told_both (g.D.Disks.past c.args.disks.now) _ _ _
          (λ now far here.
          so_far-next c.loop-entry.choices c.add_choice.new.choices c.in_ok-choice.choice (map descriptor_view c.args.entries.now)
          (map descriptor_view (drop (c.loop-entry.entry-index + 1) c.args.entries.now)) (descriptor_view entry)
          (password_sector now machine (descriptor_view entry))
          (each (map (password_sector now machine) (map descriptor_view c.args.entries.now)))
          (each (map (password_sector now machine) (map descriptor_view (drop (c.loop-entry.entry-index + 1) c.args.entries.now))))
          c.add_choice.ensures.added (rw split at far) here)
          c.loop-entry.invariant.choices read;
      few = omega (arith, c.add_choice.ensures.few, c.loop-entry.invariant.few);
      same = search rules;
      later = search rules;
    }
