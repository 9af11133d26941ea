-- Entry by entry.
use Rattle.std.proofs.Common.{◌≡◌, ◌∙◌, ◌+◌, ◌≤◌, [], ◌∷◌, suc, sym, ap, map, drop, length, add-one, rules}
use Rattle.std.specs.Prelude.{flat_map}
use Rattle.std.proofs.Math.Seq.{drop-cons}
use Rattle.std.proofs.Math.ListN.{drop_of_length-le}
use Rattle.lilo_model.specs.Mapped.{entry_places}
use Rattle.sector_address.specs.Machine.{machine_of}
use Rattle.boot_map.specs.View.{descriptor_view}
use Rattle.disk_trait.proofs.ToldLemmas.{told_both, told_map}
use Rattle.present_map.proofs.ZonesLemmas.{meets_none, meets_more}
use Rattle.present_map.proofs.map.meet_entries.Goals as goal

pub loop-entry-preserved : goal.loop-entry-preserved
loop-entry-preserved g c =
    let same = c.loop-entry.invariant.same in
    let machine = machine_of g.D.Disks c.args.disks.now in
    let entry = c.entry-item.result in
    let here = rw (same.same_past, same.same_size, same.same_geometry) at c.in_ok-meet_entry.ensures.met in
    let split : drop c.loop-entry.entry-index c.args.entries.now ≡ entry ∷ drop (c.loop-entry.entry-index + 1) c.args.entries.now =
    rw add-one
    (drop-cons c.args.entries.now c.loop-entry.entry-index entry c.loop-entry-test.true
    ∙ ap (λ e. e ∷ drop (suc c.loop-entry.entry-index) c.args.entries.now) (sym c.entry-item.is)) in
    record {
      met = told_both (g.D.Disks.past c.args.disks.now) _ _ _ (λ now far here end rest.
          far end
          (rw split
          (meets_more c.loop-entry.met c.meet_entry.new.met end (entry_places now machine (descriptor_view entry))
          (flat_map (entry_places now machine) (map descriptor_view (drop (c.loop-entry.entry-index + 1) c.args.entries.now))) here rest)))
          c.loop-entry.invariant.met here;
      same = search rules;
      later = search rules;
    }

pub returns-clause-met : goal.returns-clause-met
returns-clause-met g c =
    let past : length c.args.entries.now ≤ c.loop-entry.entry-index = search rules in
    let none : drop c.loop-entry.entry-index c.args.entries.now ≡ [] = drop_of_length-le c.args.entries.now past in
    told_map (g.D.Disks.past c.args.disks.now) _ _ (λ now far. far c.loop-entry.met (rw none (meets_none c.loop-entry.met))) c.loop-entry.invariant.met
