-- What was looked at is settled.
use Rattle.std.proofs.Common.{◌≡◌, ◌∙◌, false, Some, Err, rules}
use Rattle.std.proofs.lemmas.Option.{IfSome_then}
use Rattle.std.specs.Prelude.{IfSome, Option, None}
use Rattle.disk_trait.proofs.ToldLemmas.{told_all, told_map}
use Rattle.mbr_table.specs.declared.device.Device.{Device}
use Rattle.minix_zones.specs.Volume.{past_of}
use Rattle.sector_address.specs.Machine.{machine_of}
use Rattle.install_order.specs.Answers.{volume_in}
use Rattle.install_order.specs.View.{begun_of}
use Rattle.install_order.proofs.AnswerLemmas.{leaves_nothing, quiet_forth, leaves_back, settled_back, clear_back, found_back, refused_back, cause_back, promises_of}
use Rattle.install_order.proofs.BeginLemmas.{none_refused, nothing_to_settle}
use Rattle.install_order.proofs.NamedLemmas.{surveys_of}
use Rattle.install_order.proofs.surveyed.Surveyed.begin.Goals as goal

some-all : (o : Option Device) (P : Device → Type 0) → ((device : Device) → P device) → IfSome o P
some-all None P all = tt
some-all (Some device) P all = all device

pub returns-in_err-looked-clause-leaves : goal.returns-in_err-looked-clause-leaves
returns-in_err-looked-clause-leaves g c =
    let given : c.from_residual.result ≡ Err c.in_err-looked.field-0.0 = search rules in
    rw given
    (some-all c.args.config.boot _
    (λ device. leaves_nothing c.args.volume c.in_err-looked.field-0.0.volume c.in_err-looked.ensures.same c.in_err-looked.ensures.later (begun_of c.args.volume c.args.config device c.args.boot)))

pub returns-in_err-looked-clause-nothing : goal.returns-in_err-looked-clause-nothing
returns-in_err-looked-clause-nothing g c =
    let given : c.from_residual.result ≡ Err c.in_err-looked.field-0.0 = search rules in
    rw given
    (some-all c.args.config.boot _ (λ device. told_all (past_of c.args.volume) _ (λ image none. c.in_err-looked.ensures.same.same_disks.same_past)))

pub returns-in_err-looked-clause-unbegun : goal.returns-in_err-looked-clause-unbegun
returns-in_err-looked-clause-unbegun g c =
    let given : c.from_residual.result ≡ Err c.in_err-looked.field-0.0 = search rules in
    rw given
    (some-all c.args.config.boot _ (λ device. told_all (past_of c.args.volume) _ (λ image refused. c.in_err-looked.ensures.same.same_disks.same_past)))

pub returns-clause-unbegun : goal.returns-clause-unbegun
returns-clause-unbegun g c =
    IfSome_then c.args.config.boot c.in_ok-looked.ensures.found
    (λ device found. told_map (past_of c.args.volume) _ _
    (λ image examined refused.
    absurd (none_refused image (machine_of g.D.Disks c.args.volume.disks.now) (begun_of c.args.volume c.args.config device c.args.boot) c.in_ok-looked.looked.found examined refused)) found)

pub returns-clause-nothing : goal.returns-clause-nothing
returns-clause-nothing g c =
    let e = c.in_ok-looked.ensures in
    IfSome_then c.args.config.boot e.found
    (λ device found. told_map (past_of c.args.volume) _ _
    (λ image examined none.
    c.settle_names.ensures.nothing
    (nothing_to_settle image (machine_of g.D.Disks c.args.volume.disks.now) (begun_of c.args.volume c.args.config device c.args.boot) c.in_ok-looked.looked.found examined none)
    ∙ e.same.same_disks.same_past) found)

pub returns-clause-found : goal.returns-clause-found
returns-clause-found g c =
    let e = c.in_ok-looked.ensures in
    found_back c.args.volume c.args.config c.args.boot c.args.now c.in_ok-looked.looked e.same e.later false e.held c.settle_names.result c.settle_names.ensures.held c.settle_names.ensures.device e.found

pub returns-clause-refused : goal.returns-clause-refused
returns-clause-refused g c =
    let e = c.in_ok-looked.ensures in
    refused_back c.args.volume c.args.config c.args.boot c.args.now c.in_ok-looked.looked e.same e.later false e.held c.settle_names.result c.settle_names.ensures.held c.settle_names.ensures.device c.settle_names.ensures.leaves

pub returns-clause-cause : goal.returns-clause-cause
returns-clause-cause g c =
    let e = c.in_ok-looked.ensures in
    cause_back c.args.volume c.args.config c.args.boot c.args.now c.in_ok-looked.looked e.same e.later false e.held c.settle_names.result c.settle_names.ensures.held c.settle_names.ensures.cause

pub returns-clause-leaves : goal.returns-clause-leaves
returns-clause-leaves g c =
    let e = c.in_ok-looked.ensures in
    leaves_back c.args.volume c.args.config c.args.boot c.args.now c.in_ok-looked.looked e.same e.later false e.held (volume_in c.settle_names.result) c.settle_names.ensures.leaves

pub returns-clause-settled : goal.returns-clause-settled
returns-clause-settled g c =
    let e = c.in_ok-looked.ensures in
    settled_back c.args.volume c.args.config c.args.boot c.args.now c.in_ok-looked.looked e.same e.later false e.held c.settle_names.result c.settle_names.ensures.held c.settle_names.ensures.settled

pub returns-clause-quiet : goal.returns-clause-quiet
returns-clause-quiet g c = λ quiet. c.settle_names.ensures.quiet (quiet_forth c.args.volume c.in_ok-looked.looked.volume c.in_ok-looked.ensures.same quiet)

pub returns-clause-clear : goal.returns-clause-clear
returns-clause-clear g c =
    let e = c.in_ok-looked.ensures in
    clear_back c.args.volume c.args.config c.args.boot c.args.now c.in_ok-looked.looked e.same e.later false e.held c.settle_names.result c.settle_names.ensures.held e.clear

pub returns-clause-promises : goal.returns-clause-promises
returns-clause-promises g c = λ quiet.
    promises_of c.args.volume (λ device. begun_of c.args.volume c.args.config device c.args.boot) c.args.config.boot c.settle_names.result quiet (returns-clause-leaves g c) (returns-clause-settled g c)

pub returns-clause-surveyed : goal.returns-clause-surveyed
returns-clause-surveyed g c =
    surveys_of c.args.volume c.args.config c.args.boot c.args.now c.in_ok-looked.looked c.in_ok-looked.ensures.held c.settle_names.result c.settle_names.ensures.held
    (returns-clause-leaves g c) (returns-clause-settled g c) (returns-clause-found g c)
