-- What is to be settled, and whether it may be.
use Rattle.std.proofs.Common.{◌≡◌, ◌&&◌, ◌||◌, Bool, true, false, not, refl, rules, sym, ◌∙◌, ap}
use Rattle.minix_layout.specs.View.{kind_view}
use Rattle.minix_zones.specs.View.{span_view}
use Rattle.minix_zones.specs.Volume.{volume_view, past_of}
use Rattle.sector_address.specs.Machine.{machine_of}
use Rattle.minix_layout.specs.declared.superblock.Super.{Super}
use Rattle.install_settle.specs.Found.{has_copy, has_link_left}
use Rattle.install_settle.proofs.FoundLemmas.{to_settle, may_pass, may_refuse}
use Rattle.install_settle.proofs.settling.find_settling.Goals as goal
use Rattle.install_settle.proofs.settling.find_settling.Goals.{else-finishes-via-then-finishes+else-not-has_link_left, else-finishes-via-else-finishes}

passes : (finishes link : Bool) → finishes ≡ false → (not finishes || link) ≡ true
passes finishes link off = rw off refl

linked : (finishes link : Bool) → link ≡ true → (not finishes || link) ≡ true
linked true link is = is
linked false link is = refl

refused : (finishes link : Bool) → finishes ≡ true → link ≡ false → (not finishes || link) ≡ false
refused finishes link on off = rw (on, off) refl

pub returns-then-not-has_link_left-clause-links : goal.returns-then-not-has_link_left-clause-links
returns-then-not-has_link_left-clause-links g c =
    let on : c.in-Ok.finishes ≡ true = search rules in
    let off : has_link_left (kind_view c.args.volume.now.layout.kind) c.args.own.now.map ≡ false = sym (ap (λ (super : Super). has_link_left (kind_view super.kind) c.args.own.now.map) (c.layout.ensures.value ∙ c.in-Ok.ensures.same.same_layout)) ∙ (sym c.has_link_left.ensures ∙ c.if-not-has_link_left.true) in
    may_refuse (past_of c.args.volume.now) (machine_of g.D.Disks c.args.volume.now.disks.now) (volume_view c.args.volume.now) (span_view c.args.boot) c.args.own.now c.args.forced c.in-Ok.finishes
    c.in-Ok.ensures.there c.in-Ok.ensures.finishes
    (refused c.in-Ok.finishes (has_link_left (kind_view c.args.volume.now.layout.kind) c.args.own.now.map) on off)

pub returns-then-forced-clause-settling : goal.returns-then-forced-clause-settling
returns-then-forced-clause-settling g c =
    let copy : c.has_copy.result ≡ (c.args.forced && has_copy c.args.own.now.backup) = search rules in
    to_settle (past_of c.args.volume.now) (machine_of g.D.Disks c.args.volume.now.disks.now) (volume_view c.args.volume.now) (span_view c.args.boot) c.args.own.now c.args.forced c.in-Ok.finishes
    c.in-Ok.ensures.there c.in-Ok.ensures.finishes (record { map = c.left_map.result; copy = c.has_copy.result }) c.left_map.ensures copy

pub returns-then-forced-clause-links : goal.returns-then-forced-clause-links
returns-then-forced-clause-links g c =
    may_pass (past_of c.args.volume.now) (machine_of g.D.Disks c.args.volume.now.disks.now) (volume_view c.args.volume.now) (span_view c.args.boot) c.args.own.now c.args.forced c.in-Ok.finishes
    c.in-Ok.ensures.there c.in-Ok.ensures.finishes
    (elim c.else-finishes.branch [
      | else-finishes-via-then-finishes+else-not-has_link_left w ↦ linked c.in-Ok.finishes _
          (sym (ap (λ (super : Super). has_link_left (kind_view super.kind) c.args.own.now.map) (w.layout.ensures.value ∙ c.in-Ok.ensures.same.same_layout)) ∙ (sym w.has_link_left.ensures ∙ w.if-not-has_link_left.false))
      | else-finishes-via-else-finishes w ↦ passes c.in-Ok.finishes _ w.if-finishes.false
    ])

pub returns-else-forced-clause-links : goal.returns-else-forced-clause-links
returns-else-forced-clause-links g c =
    may_pass (past_of c.args.volume.now) (machine_of g.D.Disks c.args.volume.now.disks.now) (volume_view c.args.volume.now) (span_view c.args.boot) c.args.own.now c.args.forced c.in-Ok.finishes
    c.in-Ok.ensures.there c.in-Ok.ensures.finishes
    (elim c.else-finishes.branch [
      | else-finishes-via-then-finishes+else-not-has_link_left w ↦ linked c.in-Ok.finishes _
          (sym (ap (λ (super : Super). has_link_left (kind_view super.kind) c.args.own.now.map) (w.layout.ensures.value ∙ c.in-Ok.ensures.same.same_layout)) ∙ (sym w.has_link_left.ensures ∙ w.if-not-has_link_left.false))
      | else-finishes-via-else-finishes w ↦ passes c.in-Ok.finishes _ w.if-finishes.false
    ])
