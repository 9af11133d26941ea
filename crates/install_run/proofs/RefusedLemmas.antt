-- What is reported of a refusal is the model's verdict, unless a disk failed or memory ended.
use Rattle.std.proofs.Common.{◌≡◌, refl, ℕ, ◌++◌, codes, Result, Ok, Err, inl, inr, ◌∙◌, subst, sym}
use Rattle.std.specs.Prelude.{IsTrue}
use Rattle.disk_trait.specs.declared.disks.Phase.TheVariants.{Before}
use Rattle.stream_trait.specs.Shows.{SinkState, Shows}
use Rattle.lilo_model.specs.Faults.{Rose}
use Rattle.install_run.specs.AnswerLaws.{IsRefusal}
use Rattle.install_run.specs.Texts.{fault_status, fault_text}
use Rattle.install_run.proofs.LawLemmas.{status_law, text_law}
use Rattle.install_run.proofs.StatusLemmas.{of_status, rose_by}
use Rattle.install_laws.specs.InstallVerdict.{Answer, InstallRefusal}
use Rattle.install_order.specs.Faults.{HasInstallCause, Refuses, IsStopped}
use Rattle.install_order.specs.declared.fault.InstallFault.{InstallFault}
use Rattle.install_order.specs.declared.fault.InstallFault.TheVariants as faults
use Rattle.install_run.specs.Previews.{AnswersPreview, is_preview_status}

module _ (fault : InstallFault) (refusal : IsRefusal fault) (status : ℕ) (old new : SinkState) (is : status ≡ fault_status fault Before)
    (shown : Shows old (codes "lilo: " ++ fault_text fault Before) new) (stays : IsStopped fault → ⊥) where
  refused : (given : Result Answer InstallRefusal) → Refuses fault given → AnswersPreview given status old new
  refused (Ok answer) refuses = absurd (stays refuses)
  refused (Err why) refuses = inl (record {
    status_is = is ∙ status_law fault Before why refuses refusal;
    shown = subst (λ text. Shows old text new) (text_law fault Before why refuses refusal) shown;
  })

pub answers_refusal : (fault : InstallFault) (before now : ℕ) → HasInstallCause before now fault → (status : ℕ) (old new : SinkState) → status ≡ fault_status fault Before
    → Shows old (codes "lilo: " ++ fault_text fault Before) new → (given : Result Answer InstallRefusal) → Refuses fault given → AnswersPreview given status old new
answers_refusal (faults.Survey fault) before now cause status old new is shown = refused (faults.Survey fault) tt status old new is shown (λ s. s)
answers_refusal (faults.NotApart opt) before now cause status old new is shown = refused (faults.NotApart opt) tt status old new is shown (λ s. s)
answers_refusal (faults.Path path fault) before now cause status old new is shown = refused (faults.Path path fault) cause status old new is shown (λ s. s)
answers_refusal (faults.Plan fault) before now cause status old new is shown = refused (faults.Plan fault) tt status old new is shown (λ s. s)
answers_refusal (faults.Write fault) before now cause status old new is shown = refused (faults.Write fault) cause status old new is shown (λ s. s)
answers_refusal faults.Device before now cause status old new is shown = λ given refuses. inr (inl (is, shown))
answers_refusal faults.Memory before now cause status old new is shown = λ given refuses. inr (inr (is, shown))

-- a status 8 is that of a disk that failed
pub lost_rose : (fault : InstallFault) (before now : ℕ) → HasInstallCause before now fault → fault_status fault Before ≡ 8 → Rose before now
lost_rose fault = rose_by (λ status. status ≡ 8) (λ is. cc) (λ is. cc) (λ is. cc) (λ is. cc) fault Before

-- each refusal has one of these
pub status_known : (fault : InstallFault) (status : ℕ) → status ≡ fault_status fault Before → IsTrue (is_preview_status status)
status_known fault status is =
    subst (λ given. IsTrue (is_preview_status given)) (sym is)
    (of_status (λ f given. IsTrue (is_preview_status given)) Before (λ f. refl) (λ f. refl) (λ f. refl) (λ f. refl) refl refl fault)
