-- Turns of a loop that adds one piece after another, where disks report what they hold.
use Rattle.std.proofs.Common.{◌≡◌, ◌+◌, ◌∙◌, ℕ, suc, List, Option, Result, Err, sym, ap, arith}
use Rattle.disk_trait.specs.declared.disks.Disks.{Ghosts}
use Rattle.disk_trait.specs.Past.{Past, Image, Told}
use Rattle.lilo_model.specs.MinixParts as model
use Rattle.lilo_model.specs.Verdict.{Verdict, verdict_behind}
use Rattle.lilo_model.specs.LdiskVerdict.{checked, piece_verdict, printed}
use Rattle.minix_zones.specs.declared.volume.Volume.{Volume}
use Rattle.minix_zones.specs.Volume.{volume_view, past_of, SameVolume}
use Rattle.minix_zones.proofs.SameLemmas.{told_back}
use Rattle.ldisk_run.specs.Pieces.{Held, Adds}
use Rattle.ldisk_run.specs.Run.{Halts, Does}
use Rattle.ldisk_run.specs.declared.halt.Halt.{Halt}
use Rattle.disk_trait.proofs.ToldLemmas.{told_map, told_both}
use Rattle.ldisk_run.proofs.AddsLemmas.{GoesOn, does_behind, does_halted, does_ended, piece_behind, does_same, printed_more}

-- verdicts of what a volume holds
abbrev pub Verdicts : Type 0
Verdicts = model.Volume → Image → Verdict

-- what was printed so far was added, and nothing of it was refused
abbrev pub Added : Verdict → Held → Held → Type 0
Added so_far a b = (so_far.status ≡ 0) × Adds a so_far.text b

-- a further part, after a verdict that stays as it is
pub told_behind :
    {D : Type 0} {disks : Ghosts D} (old mid : Volume D disks) (before part whole : Verdicts)
    (result : Result (Unit {0}) Halt) (a b c : Held)
    → ((volume : model.Volume) (now : Image) → (before volume now).status ≡ 0 → verdict_behind (before volume now).text (part volume now) ≡ whole volume now)
    → SameVolume old mid
    → Told (past_of old) (λ now. Added (before (volume_view old) now) a b)
    → Told (past_of mid) (λ now. Does (part (volume_view mid) now) result b c)
    → Told (past_of old) (λ now. Does (whole (volume_view old) now) result a c)
told_behind old mid before part whole result a b c goes same so_far step =
    told_both (past_of old) (λ now. Added (before (volume_view old) now) a b) (λ now. Does (part (volume_view old) now) result b c) _
    (λ now added done. does_same _ _ result a c (goes (volume_view old) now added.0) (does_behind (before (volume_view old) now).text (part (volume_view old) now) result a b c added.1 done))
    so_far
    (told_back old mid (λ volume now. Does (part volume now) result b c) same step)

-- an early end of a verdict is one of what goes on it
pub told_ended :
    (past : Option Past) (v w : Image → Verdict) (halt : Halt) (a b : Held) → ((now : Image) → GoesOn (v now) (w now))
    → Told past (λ now. Does (v now) (Err halt) a b) → Told past (λ now. Does (w now) (Err halt) a b)
told_ended past v w halt a b on ended =
    told_map past _ _ (λ now done. does_ended (v now) (w now) halt a b (on now) done) ended

-- the same verdict in another form
pub told_verdict :
    (past : Option Past) (v w : Image → Verdict) (result : Result (Unit {0}) Halt) (a b : Held) → ((now : Image) → v now ≡ w now)
    → Told past (λ now. Does (v now) result a b) → Told past (λ now. Does (w now) result a b)
told_verdict past v w result a b same done =
    told_map past _ _ (λ now does. does_same (v now) (w now) result a b (same now) does) done

-- a further piece
pub piece_more :
    {F : Type 0} (piece : ℕ → Result (List ℕ) F) (index : ℕ) → (printed piece index).status ≡ 0
    → verdict_behind (printed piece index).text (piece_verdict (piece index)) ≡ printed piece (index + 1)
piece_more piece index fine =
    let e : suc index ≡ index + 1 = omega arith in
    sym (piece_behind (printed piece index) (piece index) fine) ∙ sym (printed_more piece index) ∙ ap (printed piece) e

-- a check that was refused, or that the disk failed in
pub told_halted :
    {A F : Type 0} (past : Option Past) (found : Image → Result A F) (next : Image → A → Verdict) (halt : Halt) (a : Held)
    → Told past (λ now. Halts halt (found now)) → Told past (λ now. Does (checked (found now) (next now)) (Err halt) a a)
told_halted past found next halt a halts =
    told_map past _ _ (λ now halted. does_halted halt (found now) (next now) a halted) halts
