-- The names are settled.
use Rattle.std.proofs.Common.{◌≡◌, ◌<◌, Result, ℕ, Ok, Err, rules, refl, sym, ◌∙◌, ap, subst}
use Rattle.minix_zones.specs.Volume.{past_of}
use Rattle.install_order.specs.Answers.{Leaves}
use Rattle.install_order.specs.Faults.{write_refusal}
use Rattle.install_order.proofs.SurveyedLemmas.{begun_here, names_now, settles_told, leaves_of, settled_of, fits_of, surveyed_of}
use Rattle.install_order.proofs.surveyed.Surveyed.settle_names.Goals as goal

pub settle-requires-clause-found : goal.settle-requires-clause-found
settle-requires-clause-found g c = names_now c.args.self c.requires.looked c.requires.known

pub invariant_of-result : goal.invariant_of-result
invariant_of-result g c =
    let left = leaves_of c.args.self c.requires.looked c.requires.known c.in-Ok.volume (Ok tt) c.in-Ok.ensures.settled in
    record { on_disk = subst (λ (size : ℕ → ℕ). c.args.self.boot.start < size c.args.self.boot.disk) (sym left.goes_on.size) c.args.self.on_disk }

pub returns-in-Ok-clause-nothing : goal.returns-in-Ok-clause-nothing
returns-in-Ok-clause-nothing g c = λ none. let result = c.in-Ok.ensures.nothing none in let same : c.in-Ok.volume ≡ c.args.self.volume = cc in ap past_of same

err-not-ok : {A F : Type 0} (fault : F) (value : A) (result : Result A F) → result ≡ Err fault → result ≡ Ok value → ⊥
err-not-ok fault value result is other = cc

pub returns-in-Err-clause-nothing : goal.returns-in-Err-clause-nothing
returns-in-Err-clause-nothing g c = λ none. absurd (err-not-ok _ _ _ refl (c.in-Err.ensures.nothing none))

pub returns-in-Ok-clause-leaves : goal.returns-in-Ok-clause-leaves
returns-in-Ok-clause-leaves g c = leaves_of c.args.self c.requires.looked c.requires.known c.in-Ok.volume (Ok tt) c.in-Ok.ensures.settled

pub returns-in-Ok-clause-settled : goal.returns-in-Ok-clause-settled
returns-in-Ok-clause-settled g c = settled_of c.args.self c.requires.looked c.requires.known c.in-Ok.volume (Ok tt) c.in-Ok.ensures.settled refl

pub returns-in-Ok-clause-known : goal.returns-in-Ok-clause-known
returns-in-Ok-clause-known g c = record {
  lawful = c.requires.known.lawful;
  device = c.requires.known.device;
  fits = fits_of c.args.self c.requires.looked c.requires.known c.in-Ok.volume (Ok tt) c.in-Ok.ensures.settled;
  known = surveyed_of c.args.self c.requires.looked c.requires.known c.in-Ok.volume (Ok tt) c.in-Ok.ensures.settled refl;
}

pub returns-in-Err-clause-leaves : goal.returns-in-Err-clause-leaves
returns-in-Err-clause-leaves g c =
    let same : c.stopped.result.volume ≡ c.in-Err.field-0.volume = search rules in
    subst (λ v. Leaves c.args.self.volume v (begun_here c.args.self c.requires.looked c.requires.known)) (sym same)
    (leaves_of c.args.self c.requires.looked c.requires.known c.in-Err.field-0.volume (Err c.in-Err.field-0.fault) c.in-Err.ensures.halted)

pub returns-in-Err-clause-device : goal.returns-in-Err-clause-device
returns-in-Err-clause-device g c = λ told.
    let device = (settles_told c.args.self c.requires.looked c.requires.known c.in-Err.field-0.volume (Err c.in-Err.field-0.fault) c.in-Err.ensures.halted told).device told in
    c.stopped.ensures.fault ∙ (c.write_refusal.ensures.is ∙ ap write_refusal device.0)
