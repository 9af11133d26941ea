-- What is planned is ready to be staged, and is staged for its boot device, its names and its boot sector.
use Rattle.std.proofs.Common.{◌≡◌, ◌<◌, ℕ, Bool, is_some, Ok, refl, sym, ◌∙◌, ap, subst}
use Rattle.lilo_conf.specs.declared.config.Config.{Config}
use Rattle.lilo_model.specs.MinixParts.{Volume}
use Rattle.sector_address.specs.Machine.{machine_of}
use Rattle.install_laws.specs.Writes.{IsApartSector}
use Rattle.install_stage.specs.Stages.{MayStageSomeRoom}
use Rattle.install_order.specs.Stageable.{path_made}
use Rattle.install_order.specs.States.{is_forced, StagesFrom, StopsStaging}
use Rattle.install_order.proofs.StagedLemmas.{may_tidy_then, path, view_kept}
use Rattle.install_order.proofs.planned.Planned.stage.Goals as goal

pub stage_flushed-staged-requires-clause-holes : goal.stage_flushed-staged-requires-clause-holes
stage_flushed-staged-requires-clause-holes g c = λ told. (c.requires.ready.files.holes told).backup

pub stage_flushed-staged-requires-clause-inside : goal.stage_flushed-staged-requires-clause-inside
stage_flushed-staged-requires-clause-inside g c = c.requires.ready.files.inside.1

pub stage_flushed-staged-requires-clause-twins : goal.stage_flushed-staged-requires-clause-twins
stage_flushed-staged-requires-clause-twins g c = c.requires.ready.files.twins.1

pub stage_flushed-staged-requires-clause-called : goal.stage_flushed-staged-requires-clause-called
stage_flushed-staged-requires-clause-called g c = c.requires.ready.files.backup_called

pub stage_flushed-staged-requires-clause-may : goal.stage_flushed-staged-requires-clause-may
stage_flushed-staged-requires-clause-may g c = λ told.
    let is = c.requires.ready.may told c.requires.settled in
    let forced : c.is_some-forced.result ≡ is_forced c.args.self = c.is_some-forced.ensures ∙ ap (λ (config : Config). is_some config.force_backup) c.config.ensures in
    subst (λ (forced : Bool). MayStageSomeRoom c.args.self.volume forced c.args.self.plan c.args.self.room) (sym forced)
    (record { machine = machine_of g.D.Disks c.args.self.volume.disks.now; backup = path_made c.args.self.room.backup is.names.backup; map = is.names.map; may = is.room })

pub invariant_of-result : goal.invariant_of-result
invariant_of-result g c =
    record { on_disk = subst (λ (size : ℕ → ℕ). c.args.self.boot.start < size c.args.self.boot.disk) (sym c.in-Ok.ensures.staged.goes_on.size) c.args.self.on_disk }

pub returns-in-Ok-clause-staged : goal.returns-in-Ok-clause-staged
returns-in-Ok-clause-staged g c =
    let forced : c.is_some-forced.result ≡ is_forced c.args.self = c.is_some-forced.ensures ∙ ap (λ (config : Config). is_some config.force_backup) c.config.ensures in
    let items : c.as_slice.result.now ≡ c.args.self.room.places.items = c.as_slice.ensures.value in
    record {
      stages = subst (λ (forced : Bool). StagesFrom c.args.self.volume c.in-Ok.volume forced c.args.self.present c.args.self.plan c.args.self.room (Ok tt)) forced c.in-Ok.ensures.staged;
      boot_is = refl;
      map_is = refl;
      sector_is = λ machine is. rw items at (c.boot_sector.ensures.sector machine is);
    }

pub returns-in-Err-clause-halted : goal.returns-in-Err-clause-halted
returns-in-Err-clause-halted g c =
    let forced : c.is_some-forced.result ≡ is_forced c.args.self = c.is_some-forced.ensures ∙ ap (λ (config : Config). is_some config.force_backup) c.config.ensures in
    record {
      fault = c.in-Err.field-0.fault;
      fault_is = c.write_refusal.ensures.is;
      stops = subst (λ (forced : Bool). StopsStaging c.args.self.volume forced c.args.self.present c.args.self.plan c.args.self.room c.in-Err.field-0) forced c.in-Err.ensures.halted;
    }

pub returns-in-Ok-clause-ready : goal.returns-in-Ok-clause-ready
returns-in-Ok-clause-ready g c = λ apart.
    let old = c.args.self in
    let new = c.in-Ok.volume in
    let forced : c.is_some-forced.result ≡ is_forced old = c.is_some-forced.ensures ∙ ap (λ (config : Config). is_some config.force_backup) c.config.ensures in
    let stages = subst (λ (forced : Bool). StagesFrom old.volume new forced old.present old.plan old.room (Ok tt)) forced c.in-Ok.ensures.staged in
    let view = view_kept old.volume new stages.kept in
    record {
      inside = rw stages.kept.same_layout c.requires.ready.files.inside.0.1;
      twins = c.requires.ready.files.twins.0;
      called = c.requires.ready.files.called;
      may = λ told.
          let before = stages.goes_on.told_before told in
          record {
            path = path old new c.requires.ready c.requires.settled stages before;
            may = may_tidy_then old new c.requires.ready c.requires.settled stages before;
            apart = subst (λ (v : Volume). IsApartSector v old.boot.disk old.boot.start) (sym view) (apart before);
          };
    }
