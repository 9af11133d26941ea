-- What a test answers by what was read.
use Rattle.std.proofs.Common.{◌≡◌, ◌≤◌, ◌+◌, ℕ, inl, inr, length, Option, None, Some, Result, Ok, Err, sym, ap, subst, arith}
use Rattle.std.specs.Prelude.{IfSome}
use Rattle.disk_trait.specs.Calls.{SameOf}
use Rattle.disk_trait.specs.Moments.{IsTold, IsWhole, IsWholeImage, now}
use Rattle.disk_trait.specs.Past.{Past, Told}
use Rattle.disk_trait.specs.declared.disks.Disks.{Ghosts}
use Rattle.disk_trait.proofs.MomentLemmas.{at_now}
use Rattle.lilo_model.specs.Checks.{◌>>=◌, with_fault}
use Rattle.lilo_model.specs.Disks.{Image, Machine, Span}
use Rattle.lilo_model.specs.MinixLayout.{Super, LayoutFault, IsSuper, super_at, super_sector}
use Rattle.lilo_model.specs.MinixParts as model
use Rattle.lilo_model.specs.MinixParts.{Layout, volume_at, volume_with}
use Rattle.install_laws.specs.InstallVerdict.{install_line}
use Rattle.install_order.specs.Checks.{IsLaid}
use Rattle.install_begin.specs.Begin.{Begun, begun_with, test_on}
use Rattle.minix_zones.specs.View as volumes
use Rattle.minix_zones.specs.declared.zone_fault.ZoneFault.{ZoneFault}
use Rattle.minix_zones.specs.declared.zone_fault.ZoneFault.TheVariants as zones
use Rattle.minix_zones.proofs.ZoneLemmas.{zones_fit}
use Rattle.stream_trait.specs.Shows.{SinkState}
use Rattle.install_run.specs.Previews.{AnswersPreview, AnswersVerdict, preview_answer, zone_verdict}

-- ---- answers

-- a fact on what there is
pub of_some : {A : Type 0} → (option : Option A) (value : A) (P : A → Type 0) → option ≡ Some value → IfSome option P → P value
of_some option value P is holds = rw is at holds

-- where no volume lies
pub no_volume : (image : Image) (machine : Machine) (time : ℕ) (begun : Begun) (fault : ZoneFault) (status : ℕ) (old new : SinkState) → volumes.Refuses fault (volume_at image begun.volume)
    → AnswersVerdict (zone_verdict fault) status old new → AnswersPreview (test_on image machine time begun) status old new
unfolding test_on install_line
no_volume image machine time begun zones.Device status old new refuses is = inr (inl (is.status_is, is.shown))
no_volume image machine time begun (zones.Layout fault) status old new refuses is = rw refuses (inl (record { status_is = is.status_is; shown = is.shown }))
no_volume image machine time begun (zones.ZoneOutside zone) status old new refuses is = rw refuses (inl (record { status_is = is.status_is; shown = is.shown }))

-- where one does
pub on_volume : (image : Image) (machine : Machine) (time : ℕ) (begun : Begun) (volume : model.Volume) (status : ℕ) (old new : SinkState) → volume_at image begun.volume ≡ Ok volume
    → AnswersPreview (preview_answer image machine (begun_with begun volume) time) status old new → AnswersPreview (test_on image machine time begun) status old new
unfolding test_on
on_volume image machine time begun volume status old new is answers = rw is answers

-- ---- the volume

volume-by : (span : Span) (given : Result Super LayoutFault) (volume : model.Volume) → (with_fault Layout given >>= λ super. Ok (volume_with span super)) ≡ Ok volume
    → (given ≡ Ok volume.layout) × (volume.span ≡ span)
volume-by span (Ok super) volume is = let same : volume_with span super ≡ volume = cc in (ap (λ (v : model.Volume). Ok v.layout) same, sym (ap (λ (v : model.Volume). v.span) same))
volume-by span (Err fault) volume is = absurd cc

-- a volume that was read has its superblock and whole sectors
pub laid_at : (size_of : ℕ → ℕ) (image : Image) (span : Span) (volume : model.Volume) → volume_at image span ≡ Ok volume → IsWholeImage size_of image
    → span.start + span.count ≤ size_of span.disk → IsSuper volume.layout volume.span.count → IsLaid volume image
unfolding volume_at
laid_at size_of image span volume is whole on_disk super =
    let both = volume-by span (super_at (image span.disk (span.start + super_sector)) span.count) volume is in
    let count : volume.span.count ≡ span.count = ap (λ (s : Span). s.count) both.1 in
    let within = zones_fit volume.layout volume.span.count super.passes in
    record {
      super = subst (λ (place : Span). super_at (image place.disk (place.start + super_sector)) place.count ≡ Ok volume.layout) (sym both.1) both.0;
      whole = λ sector below. subst (λ (place : Span). length (image place.disk (place.start + sector)) ≡ 512) (sym both.1) (whole span.disk (span.start + sector) (omega (arith, below, on_disk, within, count)));
    }

told-whole : (past : Option Past) (P Q : Image → Type 0) → (IsTold past → P (now past) → Q (now past)) → Told past P → Told past Q
unfolding IsTold now
told-whole None P Q f holds = tt
told-whole (Some past) P Q f holds = f tt holds

pub laid_told : {D : Type 0} → (g : Ghosts D) (old new : D) (span : Span) (volume : model.Volume) → SameOf g old new
    → Told (g.past old) (λ now. volume_at now span ≡ Ok volume) → IsWhole (g.size_of old) (g.past old)
    → span.start + span.count ≤ g.size_of old span.disk → IsSuper volume.layout volume.span.count → Told (g.past new) (IsLaid volume)
laid_told g old new span volume same is whole on_disk super = subst (λ (past : Option Past). Told past (IsLaid volume)) (sym same.same_past)
    (told-whole (g.past old) (λ now. volume_at now span ≡ Ok volume) (IsLaid volume)
    (λ told found. laid_at (g.size_of old) (now (g.past old)) span volume found (whole (now (g.past old)) (at_now (g.past old) told)) on_disk super) is)
