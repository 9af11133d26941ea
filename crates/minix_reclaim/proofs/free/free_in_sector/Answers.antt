use Rattle.std.proofs.Common.{◌≡◌, ◌<◌, ◌+◌, ◌*◌, ℕ, Ok, Err, refl, sym, subst, arith, rules}
use Rattle.disk_trait.specs.declared.disks.Span.{Span}
use Rattle.minix_layout.specs.View.{super_view}
use Rattle.minix_zones.specs.Volume.{WritesSector}
use Rattle.minix_zones.specs.declared.zone_fault.ZoneFault.TheVariants.{Device}
use Rattle.minix_reclaim.proofs.FreesLemmas.{map_there, map_range, sector_refused, sector_same, sector_written, sector_failed}
use Rattle.minix_reclaim.proofs.free.free_in_sector.Goals as goal

pub read_sector-requires : goal.read_sector-requires
read_sector-requires g c =
    let old = c.args.volume.now in
    let there = map_there (super_view old.layout) old.span.count old.whole c.args.bitmap.now c.args.index c.requires.bitmap c.requires.inside in
    omega (arith, there, c.from.ensures)

pub returns-in_err-read_sector : goal.returns-in_err-read_sector
returns-in_err-read_sector g c =
    let fault = c.in_err-read_sector.field-0.0 in
    let given : c.from_residual.result ≡ Err fault = search rules in
    rw given (sector_refused c.args.volume.now c.read_sector.new.self c.args.bitmap.now c.args.found.now c.args.index fault c.read_sector.ensures.same c.read_sector.ensures.later c.in_err-read_sector.ensures.device)

pub write_sector-requires-clause-inside : goal.write_sector-requires-clause-inside
write_sector-requires-clause-inside g c =
    let old = c.args.volume.now in
    let there = map_there (super_view old.layout) old.span.count old.whole c.args.bitmap.now c.args.index c.requires.bitmap c.requires.inside in
    let P : Span → Type 0 = λ span. c.args.bitmap.now.sector + c.from.result < span.count in
    subst P (sym c.read_sector.ensures.same.same_span) (omega (arith, there, c.from.ensures))

pub write_sector-requires-clause-no_super : goal.write_sector-requires-clause-no_super
write_sector-requires-clause-no_super g c =
    let old = c.args.volume.now in
    let range = map_range (super_view old.layout) old.span.count old.whole c.args.bitmap.now c.args.index c.requires.bitmap c.requires.inside in
    λ e. omega (arith, range.0, c.from.ensures, e)

pub returns-in_err-write_sector : goal.returns-in_err-write_sector
returns-in_err-write_sector g c =
    let fault = c.in_err-write_sector.field-0.0 in
    let given : c.from_residual-in_err-write_sector.result ≡ Err fault = search rules in
    let old = c.args.volume.now in
    let base = c.args.bitmap.now.origin + 4096 * c.args.index in
    let W : ℕ → Type 0 = λ index. WritesSector c.read_sector.new.self c.write_sector.new.self (c.args.bitmap.now.sector + index) c.clear_unused-freed.new.bytes Device (Err fault) in
    let index-is : c.from.result ≡ c.args.index = search rules in
    rw given (sector_failed old c.args.bitmap.now c.args.found.now c.args.index c.requires.bitmap c.requires.inside c.read_sector.new.self c.read_sector.ensures.same c.read_sector.ensures.later
    base c.first_bit-from.result c.min-to.result refl c.first_bit-from.ensures (omega (arith, c.min-to.ensures)) c.read_sector.new.into c.clear_unused-freed.new.bytes c.clear_unused-freed.result
    (rw index-is at c.in_ok-read_sector.ensures.bytes) c.clear_unused-freed.ensures.long c.clear_unused-freed.ensures.clears c.write_sector.new.self (Err fault) (subst W index-is c.in_err-write_sector.ensures.writes) fault refl)

pub returns-in_ok-write_sector : goal.returns-in_ok-write_sector
returns-in_ok-write_sector g c =
    let old = c.args.volume.now in
    let base = c.args.bitmap.now.origin + 4096 * c.args.index in
    let W : ℕ → Type 0 = λ index. WritesSector c.read_sector.new.self c.write_sector.new.self (c.args.bitmap.now.sector + index) c.clear_unused-freed.new.bytes Device (Ok tt) in
    let index-is : c.from.result ≡ c.args.index = search rules in
    sector_written old c.args.bitmap.now c.args.found.now c.args.index c.requires.bitmap c.requires.inside c.read_sector.new.self c.read_sector.ensures.same c.read_sector.ensures.later
    base c.first_bit-from.result c.min-to.result refl c.first_bit-from.ensures (omega (arith, c.min-to.ensures)) c.read_sector.new.into c.clear_unused-freed.new.bytes c.clear_unused-freed.result
    (rw index-is at c.in_ok-read_sector.ensures.bytes) c.clear_unused-freed.ensures.long c.clear_unused-freed.ensures.clears c.write_sector.new.self (Ok tt) (subst W index-is c.in_ok-write_sector.ensures.writes) refl

pub returns-else-freed-ne0 : goal.returns-else-freed-ne0
returns-else-freed-ne0 g c =
    let old = c.args.volume.now in
    let base = c.args.bitmap.now.origin + 4096 * c.args.index in
    let index-is : c.from.result ≡ c.args.index = search rules in
    sector_same old c.args.bitmap.now c.args.found.now c.args.index c.requires.bitmap c.requires.inside c.read_sector.new.self c.read_sector.ensures.same c.read_sector.ensures.later
    base c.first_bit-from.result c.min-to.result refl c.first_bit-from.ensures (omega (arith, c.min-to.ensures)) c.read_sector.new.into c.clear_unused-freed.new.bytes c.clear_unused-freed.result
    (rw index-is at c.in_ok-read_sector.ensures.bytes) c.clear_unused-freed.ensures.long c.clear_unused-freed.ensures.clears (search rules)
