-- A run that writes only what a writer of files may keeps what a session does.
use Rattle.std.proofs.Common.{◌≡◌, ℕ, Bool, false, List, sym, subst, ◌∙◌}
use Rattle.disk_trait.proofs.MomentLemmas.{leaves_weaker}
use Rattle.disk_trait.specs.Moments.{now}
use Rattle.lilo_model.specs.Boot.{Boot}
use Rattle.lilo_model.specs.DefaultLine.{DefaultLine}
use Rattle.lilo_model.specs.Disks.{Image}
use Rattle.lilo_model.specs.Prompt.{Key}
use Rattle.install_laws.proofs.Writes.{spares_law}
use Rattle.install_stage_laws.proofs.Spared.{leaves_both}
use Rattle.session_model.specs.Keeps.{Keeps}
use Rattle.session_model.specs.Site.{Site}
use Rattle.session_model.specs.State.{BodyMeans, KeepsBoot}
use Rattle.session_laws.proofs.Kept.{writer_law}
use Rattle.session_install_laws.specs.Planned.{BootsAnew}
use Rattle.session_install_laws.specs.Runs.{FileRunLaw, TidiedKeepsLaw}
use Rattle.session_install_laws.proofs.Committed.{committed_keeps_law, committed_means_law}

pub file_run_law : FileRunLaw
file_run_law site chosen old new keeps run =
    leaves_weaker old new _ _
    (leaves_both old new _ _ (spares_law site.volume site.machine site.boot chosen old new keeps.clear run.avoided run.writes)
    (leaves_both old new _ _ run.whole (leaves_both old new _ _ run.sound run.gains)))
    (λ c all. writer_law site (now old) c keeps all.0 all.1.0 all.1.1.0 all.1.1.1)

-- an image with the same body and line boots so too
anew-still : (site : Site) (intended : DefaultLine → List Key → ℕ → Boot) (old c : Image) → BootsAnew site intended old → KeepsBoot site old c → BootsAnew site intended c
anew-still site intended old c anew kept = record {
  boots = subst (λ body. BodyMeans site body intended) (sym kept.body) anew.boots;
  line = kept.line ∙ anew.line;
}

pub tidied_keeps_law : TidiedKeepsLaw
tidied_keeps_law site before config device time chosen places bytes path staged committed tidied whole s is run =
    let keeps = subst (Keeps site) (sym is) (committed_keeps_law site before (now staged) config device time chosen places bytes path whole s) in
    let anew = subst (BootsAnew site _) (sym is) (committed_means_law site before (now staged) config device time chosen places bytes path s) in
    leaves_weaker committed tidied _ _ (file_run_law site (λ zone. false) committed tidied keeps run)
    (λ c left. (left.0, anew-still site _ (now committed) c anew left.1))
