use Rattle.std.proofs.Common.{map, refl, sym, inl, inr, arith}
use Rattle.disk_trait.proofs.CallLemmas.{goes_on_same}
use Rattle.disk_trait.proofs.MomentLemmas.{leaves_none}
use Rattle.disk_trait.proofs.NotWrittenLemmas.{not_written_flushed}
use Rattle.sector_address.specs.Machine.{machine_of}
use Rattle.ldisk_words.specs.View.{part_view}
use Rattle.ldisk_make.proofs.MakeLemmas.{misplaced, no_disk, fine}
use Rattle.ldisk_make.proofs.table.make.Goals as goal

pub returns-then-not-are_placed-clause-status : goal.returns-then-not-are_placed-clause-status
returns-then-not-are_placed-clause-status g c =
    misplaced (machine_of g.D.Disks c.args.disks.now) c.args.sectors (map part_view c.args.parts.now) (sym c.if-not-are_placed.ensures)

pub returns-then-not-are_placed-clause-any_moment : goal.returns-then-not-are_placed-clause-any_moment
returns-then-not-are_placed-clause-any_moment g c = leaves_none (g.D.Disks.past c.args.disks.now) _ (λ image left. (image, left, inl refl))

pub returns-then-not-are_placed-clause-others : goal.returns-then-not-are_placed-clause-others
returns-then-not-are_placed-clause-others g c = λ d s other. not_written_flushed (g.D.Disks.past c.args.disks.now) (g.D.Disks.past c.args.disks.now) (inr refl) d s

pub returns-then-not-are_placed-clause-goes_on : goal.returns-then-not-are_placed-clause-goes_on
returns-then-not-are_placed-clause-goes_on g c =
    goes_on_same g.D.Disks c.args.disks.now c.args.disks.now refl record { later = omega arith; size = refl; count = refl; geometry = refl }

pub returns-then-size-eq0-clause-status : goal.returns-then-size-eq0-clause-status
returns-then-size-eq0-clause-status g c =
    no_disk (machine_of g.D.Disks c.args.disks.now) c.args.sectors (map part_view c.args.parts.now) (sym c.if-not-are_placed.ensures)
    (omega (arith, c.size.ensures.size, c.if-size-eq0.true))

pub returns-then-size-eq0-clause-any_moment : goal.returns-then-size-eq0-clause-any_moment
returns-then-size-eq0-clause-any_moment g c = leaves_none (g.D.Disks.past c.args.disks.now) _ (λ image left. (image, left, inl refl))

pub returns-then-size-eq0-clause-others : goal.returns-then-size-eq0-clause-others
returns-then-size-eq0-clause-others g c = λ d s other. not_written_flushed (g.D.Disks.past c.args.disks.now) (g.D.Disks.past c.args.disks.now) (inr refl) d s

pub returns-then-size-eq0-clause-goes_on : goal.returns-then-size-eq0-clause-goes_on
returns-then-size-eq0-clause-goes_on g c =
    goes_on_same g.D.Disks c.args.disks.now c.args.disks.now refl record { later = omega arith; size = refl; count = refl; geometry = refl }

pub returns-clause-status : goal.returns-clause-status
returns-clause-status g c =
    fine (machine_of g.D.Disks c.args.disks.now) c.args.sectors (map part_view c.args.parts.now) (sym c.if-not-are_placed.ensures)
    (λ none. omega (arith, c.size.ensures.size, c.if-size-eq0.false, none))
