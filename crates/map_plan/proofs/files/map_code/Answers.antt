-- The code is the first sector of its file.
use Rattle.std.proofs.Common.{◌≡◌, ℕ, List, Option, Ok, sym, subst}
use Rattle.disk_trait.specs.Past.{Told}
use Rattle.lilo_model.specs.MinixParts.{parts_of}
use Rattle.lilo_model.specs.MinixNames.{IsSound}
use Rattle.minix_zones.specs.Volume.{volume_view, past_of}
use Rattle.map_plan.specs.Starts.{start_view, start_planned, code_planned}
use Rattle.map_plan.specs.View.{Refuses}
use Rattle.map_plan.specs.Whole.{code_view}
use Rattle.map_plan.proofs.StartLemmas.{code-found, code-refused}
use Rattle.map_plan.proofs.files.map_code.Goals as goal

pub returns-in-Ok-clause-code : goal.returns-in-Ok-clause-code
returns-in-Ok-clause-code g c =
    let volume = volume_view c.args.volume.now in
    let read = subst (λ (path : List ℕ). Told (past_of c.args.volume.now) (λ now. IsSound volume now → start_planned volume (parts_of volume now) path ≡ Ok (start_view c.in-Ok.start)))
    c.bytes.ensures c.in-Ok.ensures.start in
    subst (λ (install : Option (List ℕ)). Told (past_of c.args.volume.now) (λ now. IsSound volume now → code_planned volume (parts_of volume now) install ≡ Ok (code_view c.code_of.result)))
    (sym c.in-Some.is)
    (code-found volume c.in-Some.path (past_of c.args.volume.now) (start_view c.in-Ok.start) (code_view c.code_of.result) read c.code_of.ensures.code)

pub returns-in-Err-clause-code : goal.returns-in-Err-clause-code
returns-in-Err-clause-code g c =
    let volume = volume_view c.args.volume.now in
    let read = subst (λ (path : List ℕ). Told (past_of c.args.volume.now) (λ now. IsSound volume now → Refuses c.in-Err.fault (start_planned volume (parts_of volume now) path)))
    c.bytes.ensures c.in-Err.ensures.start in
    subst (λ (install : Option (List ℕ)). Told (past_of c.args.volume.now) (λ now. IsSound volume now → Refuses c.in-Err.fault (code_planned volume (parts_of volume now) install)))
    (sym c.in-Some.is)
    (code-refused volume c.in-Some.path (past_of c.args.volume.now) c.in-Err.fault read)
