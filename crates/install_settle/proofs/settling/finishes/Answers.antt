-- Whether a rename is to be finished, by who holds the table.
use Rattle.std.proofs.Common.{◌≡◌, Bool, true, false, Some, None, rules, subst}
use Rattle.disk_trait.specs.Past.{Told}
use Rattle.lilo_model.specs.Disks.{Image, Machine}
use Rattle.lilo_model.specs.MinixParts as volumes
use Rattle.lilo_model.specs.MinixParts.{parts_of}
use Rattle.lilo_model.specs.MinixWalk.{visits}
use Rattle.lilo_model.specs.BootSector.{boot_at}
use Rattle.minix_zones.specs.View.{span_view}
use Rattle.minix_zones.specs.Volume.{volume_view, past_of}
use Rattle.sector_address.specs.Machine.{machine_of}
use Rattle.install_laws.specs.InstallVerdict.{holds_table}
use Rattle.install_settle.proofs.FoundLemmas.{HoldsIt, finish_absent, finish_other, finish_alone, finish_both, on_disks_back}
use Rattle.install_settle.proofs.settling.finishes.Goals as goal

pub returns-in_default-clause-finishes : goal.returns-in_default-clause-finishes
returns-in_default-clause-finishes g c =
    let none : None ≡ c.args.pair.now.tilde.there = search rules in
    finish_absent (past_of c.args.volume.now) (machine_of g.D.Disks c.args.volume.now.disks.now) (volume_view c.args.volume.now) (span_view c.args.boot) c.args.pair.now none

pub returns-then-not-branch-clause-finishes : goal.returns-then-not-branch-clause-finishes
returns-then-not-branch-clause-finishes g c =
    let past = past_of c.args.volume.now in
    let machine = machine_of g.D.Disks c.args.volume.now.disks.now in
    let view = volume_view c.args.volume.now in
    let some : Some c.in-Some.tilde ≡ c.args.pair.now.tilde.there = search rules in
    let no : c.in_ok-holds_table.field-0 ≡ false = search rules in
    finish_other past machine view (span_view c.args.boot) c.args.pair.now c.in-Some.tilde some
    (subst (λ (holds : Bool). Told past (HoldsIt past machine view (span_view c.args.boot) c.args.pair.now holds c.in-Some.tilde)) no c.in_ok-holds_table.ensures.holds)

pub returns-in_ok-holds_table-in-Some-there-clause-finishes : goal.returns-in_ok-holds_table-in-Some-there-clause-finishes
returns-in_ok-holds_table-in-Some-there-clause-finishes g c =
    let past = past_of c.args.volume.now in
    let machine = machine_of g.D.Disks c.args.volume.now.disks.now in
    let view = volume_view c.args.volume.now in
    let some : Some c.in-Some.tilde ≡ c.args.pair.now.tilde.there = search rules in
    let more : Some c.in-Some-there.plain ≡ c.args.pair.now.plain.there = search rules in
    let does : c.in_ok-holds_table.field-0 ≡ true = search rules in
    finish_both past machine view (span_view c.args.boot) c.args.pair.now c.in-Some.tilde c.in-Some-there.plain (c.in_ok-holds_table-in-Some-there.field-0) some more
    (subst (λ (holds : Bool). Told past (HoldsIt past machine view (span_view c.args.boot) c.args.pair.now holds c.in-Some.tilde)) does c.in_ok-holds_table.ensures.holds)
    (on_disks_back c.args.volume.now c.holds_table.new.volume
    (λ (volume : volumes.Volume) (machine : Machine) (image : Image). c.in_ok-holds_table-in-Some-there.field-0
    ≡ holds_table image machine volume (visits volume.layout (parts_of volume image)) (boot_at (image c.args.boot.disk c.args.boot.start)) (Some c.in-Some-there.plain.inode))
    c.in_ok-holds_table.ensures.same c.in_ok-holds_table-in-Some-there.ensures.holds)

pub returns-in-None-clause-finishes : goal.returns-in-None-clause-finishes
returns-in-None-clause-finishes g c =
    let past = past_of c.args.volume.now in
    let machine = machine_of g.D.Disks c.args.volume.now.disks.now in
    let view = volume_view c.args.volume.now in
    let some : Some c.in-Some.tilde ≡ c.args.pair.now.tilde.there = search rules in
    let none : None ≡ c.args.pair.now.plain.there = search rules in
    let does : c.in_ok-holds_table.field-0 ≡ true = search rules in
    finish_alone past machine view (span_view c.args.boot) c.args.pair.now c.in-Some.tilde some none
    (subst (λ (holds : Bool). Told past (HoldsIt past machine view (span_view c.args.boot) c.args.pair.now holds c.in-Some.tilde)) does c.in_ok-holds_table.ensures.holds)
