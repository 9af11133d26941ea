-- Facts on what a volume's disks hold, carried over calls that change none of them.
use Rattle.std.proofs.Common.{◌≡◌, Option, None, Some, Result, refl, subst}
use Rattle.disk_trait.specs.declared.disks.Disks.{Ghosts}
use Rattle.disk_trait.specs.Past.{Past, Told, now_of}
use Rattle.lilo_model.specs.Checks.{◌>>=◌}
use Rattle.lilo_model.specs.Disks.{Image, Machine}
use Rattle.lilo_model.specs.MinixNames.{IsSound}
use Rattle.lilo_model.specs.MinixParts as model
use Rattle.lilo_model.specs.PlanRefusal as plan
use Rattle.minix_zones.specs.declared.volume.Volume.{Volume}
use Rattle.minix_zones.specs.Volume.{volume_view, past_of, SameVolume}
use Rattle.minix_zones.proofs.SameLemmas.{same_view}
use Rattle.map_plan.specs.declared.fault.PlanFault.{PlanFault}
use Rattle.map_plan.specs.Sound.{machine_for, OnVolume, OnSound}
use Rattle.map_plan.specs.View.{IsRefusal, Refuses, plan_refusal}

-- a fact that follows from others
pub told_map : (past : Option Past) (P Q : Image → Type 0) → ((now : Image) → P now → Q now) → Told past P → Told past Q
told_map None P Q next fact = tt
told_map (Some past) P Q next fact = next (now_of past) fact

pub told_both : (past : Option Past) (P Q R : Image → Type 0) → ((now : Image) → P now → Q now → R now) → Told past P → Told past Q → Told past R
told_both None P Q R next one other = tt
told_both (Some past) P Q R next one other = next (now_of past) one other

pub told_all : (past : Option Past) (P : Image → Type 0) → ((now : Image) → P now) → Told past P
told_all None P all = tt
told_all (Some past) P all = all (now_of past)

-- the machine is the same
pub same_machine : {D : Type 0} {disks : Ghosts D} (old new : Volume D disks) → SameVolume old new → machine_for new ≡ machine_for old
same_machine old new same = rw (same.same_disks.same_size, same.same_disks.same_geometry) refl

-- so a fact on the disks after a call is one on those before it
pub volume_back : {D : Type 0} {disks : Ghosts D} (old new : Volume D disks) (P : model.Volume → Image → Machine → Type 0)
    → SameVolume old new → OnVolume new (P (volume_view new)) → OnVolume old (P (volume_view old))
volume_back old new P same told =
    let Q : Option Past → Type 0 = λ past. Told past (λ now. P (volume_view old) now (machine_for old)) in
    let R : model.Volume → Type 0 = λ volume. Told (past_of new) (λ now. P volume now (machine_for old)) in
    let M : Machine → Type 0 = λ machine. Told (past_of new) (λ now. P (volume_view new) now machine) in
    subst Q same.same_disks.same_past (subst R (same_view old new same) (subst M (same_machine old new same) told))

pub sound_back : {D : Type 0} {disks : Ghosts D} (old new : Volume D disks) (P : model.Volume → Image → Machine → Type 0)
    → SameVolume old new → OnSound new (P (volume_view new)) → OnSound old (P (volume_view old))
sound_back old new P same told = volume_back old new (λ volume now machine. IsSound volume now → P volume now machine) same told

-- ---- refusals

-- what refuses a first step refuses all
pub refused_first : {A B : Type 0} (fault : PlanFault) (found : Result A plan.PlanFault) (next : A → Result B plan.PlanFault)
    → Refuses fault found → Refuses fault (found >>= next)
refused_first fault found next is = by (plan_refusal fault) is
  where
    by : (refusal : Option plan.PlanFault) → IsRefusal refusal found → IsRefusal refusal (found >>= next)
    by None is = tt
    by (Some refusal) is = rw is refl
