-- Its slots are those after the ones of the section sectors before it; there is none after the last.
use Rattle.std.proofs.Common.{◌<◌, ◌-◌, ◌+◌, ◌*◌, map, take, drop, sym, ap, subst, ◌∙◌, arith}
use Rattle.std.proofs.lemmas.List.{get_or_past}
use Rattle.lilo_model.specs.Section.{section_bytes}
use Rattle.lilo_model.specs.Plan.{chain_for, file_sectors, link_to, slot_to}
use Rattle.map_laws.proofs.Entries.{length-file}
use Rattle.sector_address.specs.View.{geometry_view}
use Rattle.lilo_conf.specs.View.{config_view}
use Rattle.slot_lists.specs.Made.{place_view}
use Rattle.file_runs.specs.Mapped.{file_view}
use Rattle.map_sectors.proofs.SlotLemmas.{file-slots, file-sector, made-as}
use Rattle.map_sectors.proofs.map.MapPlan.write_file.Goals as goal

pub returns-then-index-chain : goal.returns-then-index-chain
returns-then-index-chain c machine has named =
    let config = config_view c.args.self.now.config in
    let zero_place = place_view c.args.zero in
    let file = file_view c.args.file.now in
    let places = map place_view c.args.places.now in
    let chain = c.from-chain.ensures ∙ c.file_chain.ensures machine has.geometries named in
    let long = length-file config machine zero_place file places in
    sym (get_or_past (file_sectors config machine zero_place file places) c.args.index c.args.into.now (omega (arith, long, chain, c.if-index-chain.true)))

pub returns : goal.returns
returns c machine has named =
    let plan = c.args.self.now in
    let config = config_view plan.config in
    let zero_place = place_view c.args.zero in
    let file = file_view c.args.file.now in
    let places = map place_view c.args.places.now in
    let index = c.args.index in
    let chain = c.from-chain.ensures ∙ c.file_chain.ensures machine has.geometries named in
    let below : index < chain_for config machine file = subst (λ n. index < n) chain c.if-index-chain.false in
    let found = file-slots machine plan zero_place file named has.zero_sector in
    let geometry = ap geometry_view (c.naming.ensures.geometry c.naming.result.geometry) ∙ sym (has.geometries plan.disk c.naming.result.geometry plan.disk_is) in
    c.write_linked.ensures found.slots (made-as machine plan zero_place file named has.zero_sector found.slots found.has c.naming.result c.naming.ensures.mode c.naming.ensures.compact geometry)
    ∙ ap (section_bytes (take 63 (drop (63 * index) found.slots)))
    (c.link_in-link.ensures.link machine has.geometries has.four
    ∙ ap (λ n. link_to (slot_to config.mode machine) (n - 1 - index) (drop (index + 1) places)) chain)
    ∙ sym (file-sector machine plan zero_place file named has.zero_sector found.slots found.has places index c.args.into.now below)
