use Rattle.std.proofs.Common.{◌≡◌, ◌/◌, Ok}
use Rattle.std.proofs.lemmas.Result.{err_from_is_err_and}
use Rattle.lilo_model.specs.MinixParts.{parts_of, zone_at}
use Rattle.minix_layout.specs.View.{inode_view}
use Rattle.minix_zones.specs.View.{Refuses, zone_number}
use Rattle.minix_zones.proofs.SameLemmas.{told_back}
use Rattle.minix_create.proofs.EntryLemmas.{no_inode, no_zone, zone_found}
use Rattle.minix_create.proofs.place_at.place_at.Goals as goal

pub returns-in_err-stat-clause-finds : goal.returns-in_err-stat-clause-finds
returns-in_err-stat-clause-finds g c =
    let p = err_from_is_err_and c.from_residual.result c.from_residual.ensures.1 in
    rw (p.1, p.2) (no_inode c.args.volume.now c.args.directory c.args.place _ _ c.in_err-stat.field-0.0 c.in_err-stat.ensures.found c.in_err-stat.ensures.cause)

pub returns-in_err-zone-clause-finds : goal.returns-in_err-zone-clause-finds
returns-in_err-zone-clause-finds g c =
    let p = err_from_is_err_and c.from_residual-in_err-zone.result c.from_residual-in_err-zone.ensures.1 in
    let node = rw c.in_ok-stat.ensures.number at c.in_ok-stat.ensures.node in
    let refused = told_back c.args.volume.now c.stat_of.new.volume
    (λ volume now. Refuses c.in_err-zone.field-0.0 (zone_at volume.layout (parts_of volume now) (inode_view c.in_ok-stat.stat.node) (c.args.place / c.from.result)))
    c.stat_of.ensures.same c.in_err-zone.ensures.zone in
    rw (p.1, p.2) (no_zone c.args.volume.now c.args.directory c.args.place c.in_ok-stat.stat.node node c.in_err-zone.field-0.0
    (rw (c.from.ensures, c.entries_per_block.ensures.value, c.layout.ensures.value) at refused))

pub returns-in-Zone-clause-finds : goal.returns-in-Zone-clause-finds
returns-in-Zone-clause-finds g c =
    let node = rw c.in_ok-stat.ensures.number at c.in_ok-stat.ensures.node in
    let found = told_back c.args.volume.now c.stat_of.new.volume
    (λ volume now. zone_at volume.layout (parts_of volume now) (inode_view c.in_ok-stat.stat.node) (c.args.place / c.from.result) ≡ Ok (zone_number c.in_ok-zone.field-0))
    c.stat_of.ensures.same c.in_ok-zone.ensures.zone in
    zone_found c.args.volume.now c.args.directory c.args.place c.in_ok-stat.stat.node node c.in-Zone.zone
    (rw (c.from.ensures, c.entries_per_block.ensures.value, c.layout.ensures.value, c.in-Zone.is) at found)

pub returns-in-Hole-clause-finds : goal.returns-in-Hole-clause-finds
returns-in-Hole-clause-finds g c =
    let node = rw c.in_ok-stat.ensures.number at c.in_ok-stat.ensures.node in
    let found = told_back c.args.volume.now c.stat_of.new.volume
    (λ volume now. zone_at volume.layout (parts_of volume now) (inode_view c.in_ok-stat.stat.node) (c.args.place / c.from.result) ≡ Ok (zone_number c.in_ok-zone.field-0))
    c.stat_of.ensures.same c.in_ok-zone.ensures.zone in
    zone_found c.args.volume.now c.args.directory c.args.place c.in_ok-stat.stat.node node 0
    (rw (c.from.ensures, c.entries_per_block.ensures.value, c.layout.ensures.value, c.in-Hole.is) at found)
