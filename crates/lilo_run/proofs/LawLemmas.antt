-- The verdict of a boot is the model's.
use Rattle.std.proofs.Common.{◌≡◌, ℕ, Bool, List, [], ◌∷◌, Result, Ok, Err, refl, subst}
use Rattle.lilo_model.specs.Boot as boots
use Rattle.lilo_model.specs.Boot.{Ending}
use Rattle.lilo_model.specs.ConfVerdict.{place_at}
use Rattle.lilo_model.specs.Devices.{Device}
use Rattle.lilo_model.specs.Disks.{Image, Machine}
use Rattle.lilo_model.specs.Prompt.{Key}
use Rattle.lilo_model.specs.Verdict.{Verdict, dump_text, verdict_of, verdict_behind, boot_text, boot_verdict}
use Rattle.loader_core.specs.Laws.{EndsSo, IsReported}
use Rattle.lilo_model.specs.Reason.{Reason}
use Rattle.disk_trait.specs.declared.disks.Disks.{Ghosts}
use Rattle.loader_core.specs.Report.{boot_report, boot_write}
use Rattle.loader_core.proofs.ReportLemmas.{report_law}
use Rattle.lilo_run.specs.Laws.{IsBootRun, model_effect, BootVerdictLaw}
use Rattle.lilo_run.specs.Run.{Scene, Tells, TellsRun}
use Rattle.lilo_run.specs.Verdict.{Left, end_verdict, report_effect, boot_effect, command_effect, effects_of}
use Rattle.lilo_run.proofs.TellLemmas.{told_alone}

ends_alike :
    (dump : Bool) (boot : boots.Boot) (today : Result Ending Reason) → EndsSo boot today
    → end_verdict dump today ≡ verdict_of (boot_text dump boot)
unfolding dump_text
ends_alike dump boot (Ok ending) ends = rw (ends.0, ends.1) refl
ends_alike dump boot (Err reason) ends = rw ends refl

behind_alike : (a b : List ℕ) (v w : Verdict) → b ≡ a → v ≡ w → verdict_behind a v ≡ verdict_behind b w
behind_alike a b v w same alike = rw (same, alike) refl

pub boot_verdict_law : BootVerdictLaw
unfolding boot_effect report_effect boot_verdict
boot_verdict_law now machine memory dump (Err fault) keys = refl
boot_verdict_law now machine memory dump (Ok span) keys =
    let report = boot_report now machine span memory keys in
    let boot = boots.whole_boot now machine span keys memory in
    let reported : IsReported boot report (boot_write now machine span) = report_law now machine span keys memory in
    let verdict = behind_alike report.shown boot.shown (end_verdict dump report.result) (verdict_of (boot_text dump boot)) reported.shown
    (ends_alike dump boot report.result reported.ends) in
    rw (verdict, reported.left, ← reported.written) refl

-- a boot by itself is one part
boot_alone :
    (now : Image) (machine : Machine) (size time : ℕ) (words : List (List ℕ)) (lefts : List Left) (keys : List Key) (device : Device) (dump : Bool)
    → IsBootRun words device dump
    → effects_of now machine size time words lefts keys ≡ boot_effect now machine size dump (place_at now machine device) keys ∷ []
unfolding effects_of command_effect
boot_alone now machine size time words lefts keys device dump (part, is, command) = rw (is, command) refl

-- what a boot by itself reports is the model's
pub boot_tells :
    {D : Type 0} → (g : Ghosts D) (now : Image) (machine : Machine) (size time : ℕ) (words : List (List ℕ)) (device : Device) (dump : Bool) (lefts : List Left) (keys left : List Key)
    (status : ℕ) (old new : Scene D)
    → IsBootRun words device dump → TellsRun g (effects_of now machine size time words lefts keys) status keys left old new
    → Tells g (model_effect now machine size (place_at now machine device) dump keys) status left old new
boot_tells g now machine size time words device dump lefts keys left status old new run told =
    let place = place_at now machine device in
    let effect = boot_effect now machine size dump place keys in
    let tells = told_alone g effect status keys left old new
    (subst (λ parts. TellsRun g parts status keys left old new) (boot_alone now machine size time words lefts keys device dump run) told) in
    subst (λ e. Tells g e status left old new) (boot_verdict_law now machine size dump place keys) tells
