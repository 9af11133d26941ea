-- What is planned for what was surveyed.
use Rattle.std.proofs.Common.{◌<◌, ◌^◌, ◌∙◌, refl, rules, sym, ap, subst₂}
use Rattle.std.specs.Prelude.{is_some}
use Rattle.disk_trait.specs.declared.disks.Span.{Span}
use Rattle.disk_trait.proofs.MomentLemmas.{told_now}
use Rattle.disk_trait.proofs.ToldLemmas.{told_map, told_both}
use Rattle.map_plan.specs.Sound.{machine_for}
use Rattle.minix_layout.specs.declared.superblock.Super.{Super}
use Rattle.minix_zones.specs.Volume.{past_of}
use Rattle.install_room.specs.Room.{SuitRoom}
use Rattle.install_order.proofs.PlanLemmas.{are_called, plan_of, refusal_of, sound_told, told-by}
use Rattle.install_order.proofs.ReadyLemmas.{has_files, is_ready, may_stage}
use Rattle.install_order.proofs.surveyed.Surveyed.plan.Goals as goal

pub choose_apart-requires-clause-lawful : goal.choose_apart-requires-clause-lawful
choose_apart-requires-clause-lawful g c = c.requires.known.lawful

pub choose_apart-requires-clause-inside : goal.choose_apart-requires-clause-inside
choose_apart-requires-clause-inside g c = c.requires.known.fits.inside

pub choose_apart-requires-clause-called : goal.choose_apart-requires-clause-called
choose_apart-requires-clause-called g c =
    are_called c.args.self.volume.layout (is_some c.args.self.config.force_backup) c.args.self.found c.requires.known.fits

pub returns-in-Ok-clause-found : goal.returns-in-Ok-clause-found
returns-in-Ok-clause-found g c =
    told_both (past_of c.args.self.volume) _ _ _ (λ now sound gives. let both = gives sound in record { devices = both.devices; chosen = both.chosen }) (sound_told c.args.self c.requires.known) c.in-Ok.ensures.found

pub returns-clause-found : goal.returns-clause-found
returns-clause-found g c =
    told_both (past_of c.args.self.volume) _ _ _ (λ now sound gives. gives sound) (sound_told c.args.self c.requires.known) c.in-Err.ensures.found

pub returns-in-Ok-clause-planned : goal.returns-in-Ok-clause-planned
returns-in-Ok-clause-planned g c =
    told_map (past_of c.args.self.volume) _ _ (λ now is. plan_of now (machine_for c.args.self.volume) c.args.self c.requires.known _ is refl) (returns-in-Ok-clause-found g c)

pub returns-clause-planned : goal.returns-clause-planned
returns-clause-planned g c =
    told_both (past_of c.args.self.volume) _ _ _
    (λ now sound gives. refusal_of now (machine_for c.args.self.volume) c.args.self c.requires.known c.in-Err.fault (gives sound)) (sound_told c.args.self c.requires.known) c.in-Err.ensures.found

pub choose_apart-requires-clause-twins : goal.choose_apart-requires-clause-twins
choose_apart-requires-clause-twins g c = c.requires.known.fits.twins

pub returns-in-Ok-clause-may : goal.returns-in-Ok-clause-may
returns-in-Ok-clause-may g c =
    let s = c.args.self in
    let same = c.in-Ok.ensures.same in
    let suits = subst₂ (λ (layout : Super) (span : Span). SuitRoom layout span c.in-Ok.choices.room) (sym same.same_layout) (sym same.same_span) c.in-Ok.ensures.suits in
    let on = c.in-Ok.ensures.volume_disk ∙ ap (λ (span : Span). span.disk) (sym same.same_span) in
    let small : s.time < 2 ^ 32 = search rules in
    told-by (past_of s.volume) _ (λ told names places are settled.
    may_stage s _ (record { config_is = c.in-Ok.ensures.config; device_is = refl; boot_is = refl; time_is = refl; own_is = refl; settled_is = refl })
    c.in-Ok.ensures.wished suits c.in-Ok.ensures.disk c.requires.known same on small c.in-Ok.ensures.lie told (told_now (past_of s.volume) _ (returns-in-Ok-clause-found g c) told) names places are settled)

pub returns-in-Ok-clause-ready : goal.returns-in-Ok-clause-ready
returns-in-Ok-clause-ready g c =
    let s = c.args.self in
    let same = c.in-Ok.ensures.same in
    let suits = subst₂ (λ (layout : Super) (span : Span). SuitRoom layout span c.in-Ok.choices.room) (sym same.same_layout) (sym same.same_span) c.in-Ok.ensures.suits in
    is_ready s _ c.requires.known (record { config_is = c.in-Ok.ensures.config; device_is = refl; boot_is = refl; time_is = refl; own_is = refl; settled_is = refl }) same
    (has_files s _ (record { config_is = c.in-Ok.ensures.config; device_is = refl; boot_is = refl; time_is = refl; own_is = refl; settled_is = refl })
    c.in-Ok.ensures.wished suits c.in-Ok.ensures.disk c.requires.known same)
    (returns-in-Ok-clause-may g c)
