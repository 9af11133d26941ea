use Rattle.std.proofs.Common.{rules, ◌<◌, ℕ, sym, subst}
use Rattle.disk_trait.specs.declared.disks.Span.{Span}
use Rattle.lilo_model.specs.MinixLayout.{inode_bytes, inode_place}
use Rattle.minix_layout.specs.View.{kind_view, super_view, inode_view}
use Rattle.minix_steps.specs.Written.{inode_rewritten}
use Rattle.minix_steps.proofs.InodeLemmas.{stands, inode_there, inode_no_super, rewritten}
use Rattle.minix_zones.specs.declared.zone_fault.ZoneFault.TheVariants.{Device}
use Rattle.minix_turns.specs.Turns.{Turns}
use Rattle.minix_turns.proofs.FieldLemmas.{gid_small}
use Rattle.minix_turns.proofs.TurnLemmas.{turn_unread, turn_after}
use Rattle.minix_turns.proofs.inode.turn_inode.Goals as goal

pub read_sector-requires : goal.read_sector-requires
read_sector-requires g c =
    let place = rw c.layout-2.ensures.value at c.where_inode-place.ensures.place in
    inode_there c.args.volume.now c.args.number c.requires.some c.requires.there _ _ place

pub put_inode-requires-clause-links : goal.put_inode-requires-clause-links
put_inode-requires-clause-links g c = rw c.layout.ensures.value c.requires.fits.links_fit

pub put_inode-requires-clause-gid : goal.put_inode-requires-clause-gid
put_inode-requires-clause-gid g c = rw c.layout.ensures.value (gid_small (kind_view c.args.volume.now.layout.kind) (inode_view c.args.inode.now) c.requires.fits)

pub put_inode-requires-clause-zones : goal.put_inode-requires-clause-zones
put_inode-requires-clause-zones g c = rw c.layout.ensures.value c.requires.fits.zones_fit

pub turn-requires-clause-inside : goal.turn-requires-clause-inside
turn-requires-clause-inside g c =
    let place = rw c.layout-2.ensures.value at c.where_inode-place.ensures.place in
    let P : Span → Type 0 = λ span. c.where_inode-place.result.sector < span.count in
    subst P (sym c.read_sector.ensures.same.same_span) (inode_there c.args.volume.now c.args.number c.requires.some c.requires.there _ _ place)

pub turn-requires-clause-no_super : goal.turn-requires-clause-no_super
turn-requires-clause-no_super g c =
    let place = rw c.layout-2.ensures.value at c.where_inode-place.ensures.place in
    inode_no_super c.args.volume.now c.args.number c.requires.some c.requires.there _ _ place

pub returns-in_err-read_sector : goal.returns-in_err-read_sector
returns-in_err-read_sector g c = record {
  turns =
      let old = c.args.volume.now in
      turn_unread old c.read_sector.new.self c.read_sector.ensures.same c.read_sector.ensures.later
      (inode_place (super_view old.layout) c.args.number).sector (inode_rewritten old c.args.number (inode_view c.args.inode.now)) Device c.from_residual.result (λ P. search rules) c.requires.quiet (search rules);
}

pub returns : goal.returns
returns g c = record {
  turns =
      let old = c.args.volume.now in
      let mid = c.read_sector.new.self in
      let place = rw c.layout-2.ensures.value at c.where_inode-place.ensures.place in
      let put = rw (c.layout.ensures.value, c.from.ensures) at c.put_inode.ensures.bytes in
      let S : ℕ → Type 0 = λ s. Turns mid c.turn.new.volume s c.put_inode.new.sector Device c.turn.result in
      turn_after old mid c.read_sector.ensures.same c.read_sector.ensures.later c.turn.new.volume
      (inode_place (super_view old.layout) c.args.number).sector c.put_inode.new.sector (inode_rewritten old c.args.number (inode_view c.args.inode.now)) Device
      (rewritten old c.args.number c.requires.some c.requires.there _ _ place mid c.read_sector.ensures.same c.read_sector.new.into c.put_inode.new.sector
      (inode_bytes (kind_view old.layout.kind) (inode_view c.args.inode.now)) c.in_ok-read_sector.ensures.bytes put)
      c.turn.result
      (subst S (stands old c.args.number c.requires.some c.requires.there _ _ place) c.turn.ensures.turns);
}
