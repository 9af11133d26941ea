-- As many slots as are counted, where each sector has one.
use Rattle.std.proofs.Common.{◌∙◌, length, Ok, refl, sym, ap}
use Rattle.sector_address.specs.View.{geometry_view, address_fault_view}
use Rattle.lilo_conf.specs.View.{config_view}
use Rattle.slot_lists.specs.Runs.{places_in}
use Rattle.map_sectors.proofs.FileLemmas.{plain-slots, counted-by, ok-same, not-counted}
use Rattle.map_sectors.proofs.map.MapPlan.slots_of.Goals as goal

pub returns-then-not-self : goal.returns-then-not-self
returns-then-not-self c machine has named =
    c.sectors_of.ensures ∙ ap (λ runs. length (places_in runs)) c.items.ensures
    ∙ sym (plain-slots (config_view c.args.self.now.config) machine (record { size = c.args.size; places = places_in c.args.runs.now }) c.if-not-self.true)

pub returns-in-Ok : goal.returns-in-Ok
returns-in-Ok c machine has named =
    ok-same c.in-Ok.count _ (Ok c.in-Ok.count) _ refl
    (counted-by machine c.args.self.now (record { size = c.args.size; places = places_in c.args.runs.now }) named c.naming.result c.naming.ensures.mode c.naming.ensures.compact
    (ap geometry_view (c.naming.ensures.geometry c.naming.result.geometry) ∙ sym (has c.args.self.now.disk c.naming.result.geometry c.args.self.now.disk_is)))
    c.in-Ok.ensures

pub returns-in-Err : goal.returns-in-Err
returns-in-Err c machine has named =
    absurd (not-counted (address_fault_view c.in-Err.field-0) _
    (c.in-Err.ensures
    ∙ counted-by machine c.args.self.now (record { size = c.args.size; places = places_in c.args.runs.now }) named c.naming.result c.naming.ensures.mode c.naming.ensures.compact
    (ap geometry_view (c.naming.ensures.geometry c.naming.result.geometry) ∙ sym (has c.args.self.now.disk c.naming.result.geometry c.args.self.now.disk_is))))
