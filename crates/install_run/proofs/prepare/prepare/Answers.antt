-- What is begun and planned is answered so.
use Rattle.std.proofs.Common.{◌≡◌, ◌∙◌, Option, Ok, Err, rules, subst, sym}
use Rattle.std.proofs.lemmas.Option.{IfSome_then}
use Rattle.disk_trait.specs.Moments.{IsQuiet, now}
use Rattle.disk_trait.specs.Past.{Past}
use Rattle.disk_trait.proofs.MomentLemmas.{told_now}
use Rattle.disk_trait.proofs.ToldLemmas.{told_map}
use Rattle.minix_zones.specs.Volume.{volume_view, past_of, faults_of}
use Rattle.sector_address.specs.Machine.{machine_of}
use Rattle.install_settle.proofs.GainLemmas.{gains_none}
use Rattle.install_stage_laws.specs.BeginLaws.{GainsNothing}
use Rattle.install_order.specs.Answers.{Leaves}
use Rattle.install_order.specs.View.{begun_of}
use Rattle.install_run.proofs.PreparedLemmas.{Begins, are, begin_stays, begun_leaves, cause_from, gives_back, gives_planned, gives_refused, planned_goes_on, planned_kept, planned_reference, planned_stays, ready_to_stage, refused_begin, settled_gains, some_of, told_after}
use Rattle.install_run.proofs.prepare.prepare.Goals as goal

is-surveyed : (g : Rattle.install_run.proofs.prepare.prepare.Given.Over) (c : goal.After-from_residual g) → c.from_residual.result ≡ Err c.in_err-surveyed.field-0.0
is-surveyed g c = search rules

is-planned : (g : Rattle.install_run.proofs.prepare.prepare.Given.Over) (c : goal.After-from_residual-in_err-planned g) → c.from_residual-in_err-planned.result ≡ Err c.in_err-planned.field-0.0
is-planned g c = search rules

pub returns-in_err-surveyed-clause-gives : goal.returns-in_err-surveyed-clause-gives
returns-in_err-surveyed-clause-gives g c =
    let halt = c.in_err-surveyed.field-0.0 in
    rw (is-surveyed g c)
    (IfSome_then c.args.config.boot c.in_err-surveyed.ensures.found
    (λ device found.
    told_map (past_of c.args.volume) _ _
    (λ now refused. refused_begin now (machine_of g.D.Disks c.args.volume.disks.now) (begun_of c.args.volume c.args.config device c.args.boot) c.args.now _ halt.fault refused) found))

-- ---- nothing was written where a check up to settling refused

pub returns-in_err-surveyed-clause-unbegun : goal.returns-in_err-surveyed-clause-unbegun
returns-in_err-surveyed-clause-unbegun g c =
    let halt = c.in_err-surveyed.field-0.0 in
    rw (is-surveyed g c) c.in_err-surveyed.ensures.unbegun

pub returns-in_err-planned-clause-unbegun : goal.returns-in_err-planned-clause-unbegun
returns-in_err-planned-clause-unbegun g c =
    let halt = c.in_err-planned.field-0.0 in
    let is : c.from_residual-in_err-planned.result ≡ Err halt = is-planned g c in
    rw is
    (IfSome_then c.args.config.boot c.in_ok-surveyed.ensures.unbegun
    (λ device stays. told_map (past_of c.args.volume) _ _ (λ image same refused. c.in_err-planned.ensures.same.same_disks.same_past ∙ same refused) stays))

pub returns-clause-unbegun : goal.returns-clause-unbegun
returns-clause-unbegun g c =
    IfSome_then c.args.config.boot c.in_ok-surveyed.ensures.unbegun
    (λ device stays. told_map (past_of c.args.volume) _ _ (λ image same refused. c.in_ok-planned.ensures.same.same_disks.same_past ∙ same refused) stays)

pub returns-in_err-surveyed-clause-nothing : goal.returns-in_err-surveyed-clause-nothing
returns-in_err-surveyed-clause-nothing g c =
    let halt = c.in_err-surveyed.field-0.0 in
    rw (is-surveyed g c) c.in_err-surveyed.ensures.nothing

pub returns-in_err-planned-clause-nothing : goal.returns-in_err-planned-clause-nothing
returns-in_err-planned-clause-nothing g c =
    let halt = c.in_err-planned.field-0.0 in
    let is : c.from_residual-in_err-planned.result ≡ Err halt = is-planned g c in
    rw is
    (IfSome_then c.args.config.boot c.in_ok-surveyed.ensures.nothing
    (λ device stays. told_map (past_of c.args.volume) _ _ (λ image same none. c.in_err-planned.ensures.same.same_disks.same_past ∙ same none) stays))

pub returns-clause-nothing : goal.returns-clause-nothing
returns-clause-nothing g c =
    IfSome_then c.args.config.boot c.in_ok-surveyed.ensures.nothing
    (λ device stays. told_map (past_of c.args.volume) _ _ (λ image same none. c.in_ok-planned.ensures.same.same_disks.same_past ∙ same none) stays)

-- ---- a refusal that no failed disk caused is quiet

pub returns-in_err-surveyed-clause-quiet : goal.returns-in_err-surveyed-clause-quiet
returns-in_err-surveyed-clause-quiet g c quiet =
    rw (is-surveyed g c) (λ other. subst (λ (p : Option Past). IsQuiet p) (sym (c.in_err-surveyed.ensures.refused other)) quiet)

pub returns-in_err-planned-clause-quiet : goal.returns-in_err-planned-clause-quiet
returns-in_err-planned-clause-quiet g c quiet =
    let halt = c.in_err-planned.field-0.0 in
    let is : c.from_residual-in_err-planned.result ≡ Err halt = is-planned g c in
    rw is (λ other. subst (λ (p : Option Past). IsQuiet p) (sym c.in_err-planned.ensures.same.same_disks.same_past) (c.in_ok-surveyed.ensures.quiet quiet))

-- ---- nor did settling gain anything by then

pub returns-in_err-surveyed-clause-gains : goal.returns-in_err-surveyed-clause-gains
returns-in_err-surveyed-clause-gains g c =
    let entry = c.args.volume in
    rw (is-surveyed g c)
    (λ told other.
    subst (λ (p : Option Past). GainsNothing (volume_view entry) (now (past_of entry)) (now p)) (sym (c.in_err-surveyed.ensures.refused other))
    (gains_none (volume_view entry) (now (past_of entry))))

pub returns-in_err-planned-clause-gains : goal.returns-in_err-planned-clause-gains
returns-in_err-planned-clause-gains g c =
    let halt = c.in_err-planned.field-0.0 in
    let is : c.from_residual-in_err-planned.result ≡ Err halt = is-planned g c in
    let s = c.in_ok-surveyed.surveyed in
    let did = c.in_ok-surveyed.ensures in
    let begins : Begins c.args.volume c.args.config c.args.boot c.args.now s =
    record { found = did.found; held = did.held; leaves = did.leaves; settled = did.settled; surveys = did.surveyed } in
    rw is (λ told other. settled_gains c.args.volume c.args.config c.args.boot c.args.now s begins told halt.volume c.in_err-planned.ensures.same)

-- ---- what is left, and the disks

pub returns-in_err-surveyed-clause-stays : goal.returns-in_err-surveyed-clause-stays
returns-in_err-surveyed-clause-stays g c =
    let halt = c.in_err-surveyed.field-0.0 in
    rw (is-surveyed g c)
    (IfSome_then c.args.config.boot c.in_err-surveyed.ensures.leaves
    (λ device leaves. begin_stays c.args.volume halt.volume c.args.config device c.args.boot leaves))

pub returns-in_err-surveyed-clause-goes_on : goal.returns-in_err-surveyed-clause-goes_on
returns-in_err-surveyed-clause-goes_on g c =
    let halt = c.in_err-surveyed.field-0.0 in
    rw (is-surveyed g c)
    (some_of c.args.config.boot (λ device. Leaves c.args.volume halt.volume (begun_of c.args.volume c.args.config device c.args.boot)) _ c.requires.device
    c.in_err-surveyed.ensures.leaves (λ device leaves. leaves.goes_on))

pub returns-in_err-planned-clause-gives : goal.returns-in_err-planned-clause-gives
returns-in_err-planned-clause-gives g c =
    let halt = c.in_err-planned.field-0.0 in
    let is : c.from_residual-in_err-planned.result ≡ Err halt = is-planned g c in
    let s = c.in_ok-surveyed.surveyed in
    let did = c.in_ok-surveyed.ensures in
    let begins : Begins c.args.volume c.args.config c.args.boot c.args.now s =
    record { found = did.found; held = did.held; leaves = did.leaves; settled = did.settled; surveys = did.surveyed } in
    rw is
    (gives_back c.args.volume c.args.config c.args.boot c.args.now s begins (Err halt)
    (gives_refused c.args.volume c.args.config c.args.boot c.args.now s begins halt c.in_err-planned.ensures.same
    (λ told. told_now (past_of s.volume) _ c.in_err-planned.ensures.planned (told_after c.args.volume c.args.config c.args.boot c.args.now s begins told) _ _
    (are c.args.volume c.args.config c.args.boot c.args.now s begins told))))

pub returns-in_err-planned-clause-stays : goal.returns-in_err-planned-clause-stays
returns-in_err-planned-clause-stays g c =
    let halt = c.in_err-planned.field-0.0 in
    let is : c.from_residual-in_err-planned.result ≡ Err halt = is-planned g c in
    let s = c.in_ok-surveyed.surveyed in
    let did = c.in_ok-surveyed.ensures in
    let begins : Begins c.args.volume c.args.config c.args.boot c.args.now s =
    record { found = did.found; held = did.held; leaves = did.leaves; settled = did.settled; surveys = did.surveyed } in
    rw is (planned_stays c.args.volume c.args.config c.args.boot c.args.now s begins halt.volume c.in_err-planned.ensures.same)

pub returns-in_err-planned-clause-goes_on : goal.returns-in_err-planned-clause-goes_on
returns-in_err-planned-clause-goes_on g c =
    let halt = c.in_err-planned.field-0.0 in
    let is : c.from_residual-in_err-planned.result ≡ Err halt = is-planned g c in
    let s = c.in_ok-surveyed.surveyed in
    let did = c.in_ok-surveyed.ensures in
    let begins : Begins c.args.volume c.args.config c.args.boot c.args.now s =
    record { found = did.found; held = did.held; leaves = did.leaves; settled = did.settled; surveys = did.surveyed } in
    rw is (planned_goes_on c.args.volume c.args.config c.args.boot c.args.now s begins halt.volume c.in_err-planned.ensures.same c.in_err-planned.ensures.later)

pub returns-in_err-planned-clause-cause : goal.returns-in_err-planned-clause-cause
returns-in_err-planned-clause-cause g c =
    let halt = c.in_err-planned.field-0.0 in
    let is : c.from_residual-in_err-planned.result ≡ Err halt = is-planned g c in
    let s = c.in_ok-surveyed.surveyed in
    let did = c.in_ok-surveyed.ensures in
    let begins : Begins c.args.volume c.args.config c.args.boot c.args.now s =
    record { found = did.found; held = did.held; leaves = did.leaves; settled = did.settled; surveys = did.surveyed } in
    let leaves = begun_leaves c.args.volume c.args.config c.args.boot c.args.now s begins in
    rw is (cause_from halt.fault (faults_of c.args.volume) (faults_of s.volume) (faults_of halt.volume) leaves.goes_on.later c.in_err-planned.ensures.cause)

pub returns-clause-gives : goal.returns-clause-gives
returns-clause-gives g c =
    let s = c.in_ok-surveyed.surveyed in
    let did = c.in_ok-surveyed.ensures in
    let planned = c.in_ok-planned.planned in
    let has = c.in_ok-planned.ensures in
    let begins : Begins c.args.volume c.args.config c.args.boot c.args.now s =
    record { found = did.found; held = did.held; leaves = did.leaves; settled = did.settled; surveys = did.surveyed } in
    gives_back c.args.volume c.args.config c.args.boot c.args.now s begins (Ok (planned, c.clear-clear.result))
    (gives_planned c.args.volume c.args.config c.args.boot c.args.now s begins planned c.clear-clear.result has.same
    (λ told. told_now (past_of s.volume) _ has.planned (told_after c.args.volume c.args.config c.args.boot c.args.now s begins told) _ _
    (are c.args.volume c.args.config c.args.boot c.args.now s begins told))
    (λ told. told_now (past_of s.volume) _ has.found told) has.held c.clear-clear.ensures)

pub returns-clause-prepared : goal.returns-clause-prepared
returns-clause-prepared g c =
    let s = c.in_ok-surveyed.surveyed in
    let did = c.in_ok-surveyed.ensures in
    let has = c.in_ok-planned.ensures in
    let begins : Begins c.args.volume c.args.config c.args.boot c.args.now s =
    record { found = did.found; held = did.held; leaves = did.leaves; settled = did.settled; surveys = did.surveyed } in
    record {
      surveyed = s;
      begun = λ told quiet. record {
        told = told;
        quiet = quiet;
        held = did.held;
        known = did.known;
        found = did.found;
        leaves = did.leaves;
        settled = did.settled;
        promises = did.promises quiet;
        surveys = did.surveyed;
        quiet_after = did.quiet quiet;
      };
      has = record { held = has.held; may = has.may; ready = has.ready; same = has.same };
      boot_is = has.held.boot_is ∙ did.held.boot_is;
      kept = planned_kept c.args.volume c.args.config c.args.boot c.args.now s begins c.in_ok-planned.planned.volume has.same;
    }

pub returns-clause-ready : goal.returns-clause-ready
returns-clause-ready g c =
    let s = c.in_ok-surveyed.surveyed in
    let did = c.in_ok-surveyed.ensures in
    let has = c.in_ok-planned.ensures in
    let begins : Begins c.args.volume c.args.config c.args.boot c.args.now s =
    record { found = did.found; held = did.held; leaves = did.leaves; settled = did.settled; surveys = did.surveyed } in
    ready_to_stage c.args.volume c.args.config c.args.boot c.args.now s begins c.in_ok-planned.planned has.held has.same has.ready c.requires.there

pub returns-clause-stays : goal.returns-clause-stays
returns-clause-stays g c =
    let s = c.in_ok-surveyed.surveyed in
    let did = c.in_ok-surveyed.ensures in
    let has = c.in_ok-planned.ensures in
    let begins : Begins c.args.volume c.args.config c.args.boot c.args.now s =
    record { found = did.found; held = did.held; leaves = did.leaves; settled = did.settled; surveys = did.surveyed } in
    planned_stays c.args.volume c.args.config c.args.boot c.args.now s begins c.in_ok-planned.planned.volume has.same

pub returns-clause-goes_on : goal.returns-clause-goes_on
returns-clause-goes_on g c =
    let s = c.in_ok-surveyed.surveyed in
    let did = c.in_ok-surveyed.ensures in
    let has = c.in_ok-planned.ensures in
    let begins : Begins c.args.volume c.args.config c.args.boot c.args.now s =
    record { found = did.found; held = did.held; leaves = did.leaves; settled = did.settled; surveys = did.surveyed } in
    planned_goes_on c.args.volume c.args.config c.args.boot c.args.now s begins c.in_ok-planned.planned.volume has.same has.later

-- ---- the same disks

pub returns-in_err-surveyed-clause-same_reference : goal.returns-in_err-surveyed-clause-same_reference
returns-in_err-surveyed-clause-same_reference g c =
    let halt = c.in_err-surveyed.field-0.0 in
    rw (is-surveyed g c)
    (some_of c.args.config.boot (λ device. Leaves c.args.volume halt.volume (begun_of c.args.volume c.args.config device c.args.boot)) _ c.requires.device
    c.in_err-surveyed.ensures.leaves (λ device leaves. leaves.kept.same_reference))

pub returns-in_err-planned-clause-same_reference : goal.returns-in_err-planned-clause-same_reference
returns-in_err-planned-clause-same_reference g c =
    let halt = c.in_err-planned.field-0.0 in
    let is : c.from_residual-in_err-planned.result ≡ Err halt = is-planned g c in
    let s = c.in_ok-surveyed.surveyed in
    let did = c.in_ok-surveyed.ensures in
    let begins : Begins c.args.volume c.args.config c.args.boot c.args.now s =
    record { found = did.found; held = did.held; leaves = did.leaves; settled = did.settled; surveys = did.surveyed } in
    rw is (planned_reference c.args.volume c.args.config c.args.boot c.args.now s begins halt.volume c.in_err-planned.ensures.same)

pub returns-clause-same_reference : goal.returns-clause-same_reference
returns-clause-same_reference g c =
    let s = c.in_ok-surveyed.surveyed in
    let did = c.in_ok-surveyed.ensures in
    let begins : Begins c.args.volume c.args.config c.args.boot c.args.now s =
    record { found = did.found; held = did.held; leaves = did.leaves; settled = did.settled; surveys = did.surveyed } in
    planned_reference c.args.volume c.args.config c.args.boot c.args.now s begins c.in_ok-planned.planned.volume c.in_ok-planned.ensures.same
