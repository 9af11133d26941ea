use Rattle.std.proofs.Common.{◌≡◌, Ok, Err, rules}
use Rattle.minix_reclaim.specs.declared.fault.ReclaimFault.TheVariants.{Device}
use Rattle.minix_reclaim.proofs.BothLemmas.{first_failed, second_failed, sync_failed, all_freed, zones_as, inodes_as}
use Rattle.minix_reclaim.proofs.waste.free_waste.Goals as goal

pub returns-in_err-zones : goal.returns-in_err-zones
returns-in_err-zones g c =
    let old = c.args.volume.now in
    let found = c.args.found.now in
    let fault = c.in_err-zones.field-0.0 in
    let given : c.from_residual.result ≡ Err Device = search rules in
    rw given (first_failed old found c.free_unused.new.volume fault
    (zones_as old c.free_unused.new.volume found c.zone_bitmap-bitmap.result (Err fault) c.zone_bitmap-bitmap.ensures c.in_err-zones.ensures))

pub returns-in_err-inodes : goal.returns-in_err-inodes
returns-in_err-inodes g c =
    let old = c.args.volume.now in
    let found = c.args.found.now in
    let mid = c.free_unused.new.volume in
    let fault = c.in_err-inodes.field-0.0 in
    let given : c.from_residual-in_err-inodes.result ≡ Err Device = search rules in
    let first = zones_as old mid found c.zone_bitmap-bitmap.result (Ok c.in_ok-zones.zones) c.zone_bitmap-bitmap.ensures c.in_ok-zones.ensures in
    rw given (second_failed old found mid c.in_ok-zones.zones first c.free_unused-2.new.volume fault
    (inodes_as old mid c.free_unused-2.new.volume found c.inode_bitmap-bitmap.result (Err fault) first.kept c.inode_bitmap-bitmap.ensures c.in_err-inodes.ensures))

pub returns-in_err-sync : goal.returns-in_err-sync
returns-in_err-sync g c =
    let old = c.args.volume.now in
    let found = c.args.found.now in
    let mid = c.free_unused.new.volume in
    let last = c.free_unused-2.new.volume in
    let fault = c.in_err-sync.field-0.0 in
    let given : c.from_residual-in_err-sync.result ≡ Err Device = search rules in
    let first = zones_as old mid found c.zone_bitmap-bitmap.result (Ok c.in_ok-zones.zones) c.zone_bitmap-bitmap.ensures c.in_ok-zones.ensures in
    let second = inodes_as old mid last found c.inode_bitmap-bitmap.result (Ok c.in_ok-inodes.inodes) first.kept c.inode_bitmap-bitmap.ensures c.in_ok-inodes.ensures in
    rw given (sync_failed old found mid c.in_ok-zones.zones first last c.in_ok-inodes.inodes second c.sync.new.self fault c.in_err-sync.ensures.syncs)

pub returns : goal.returns
returns g c =
    let old = c.args.volume.now in
    let found = c.args.found.now in
    let mid = c.free_unused.new.volume in
    let last = c.free_unused-2.new.volume in
    let first = zones_as old mid found c.zone_bitmap-bitmap.result (Ok c.in_ok-zones.zones) c.zone_bitmap-bitmap.ensures c.in_ok-zones.ensures in
    let second = inodes_as old mid last found c.inode_bitmap-bitmap.result (Ok c.in_ok-inodes.inodes) first.kept c.inode_bitmap-bitmap.ensures c.in_ok-inodes.ensures in
    all_freed old found mid c.in_ok-zones.zones first last c.in_ok-inodes.inodes second c.sync.new.self c.in_ok-sync.ensures.syncs
