-- Pasts that aren't known.
use Rattle.std.proofs.Common.{◌≡◌, ℕ, Option, Some, None, refl}
use Rattle.disk_trait.specs.Moments.{IsTold, MayLeave, now, LeavesOnly}
use Rattle.disk_trait.specs.NotWritten.{NotWritten}
use Rattle.disk_trait.specs.Past.{Image, Past, Told}
use Rattle.disk_trait.proofs.MomentLemmas.{leaves_none}

pub untold-none : (past : Option Past) → (IsTold past → ⊥) → past ≡ None
unfolding IsTold
untold-none None none = refl
untold-none (Some past) none = absurd (none tt)

no-image : (P : Image → Type 0) → LeavesOnly None None P
unfolding MayLeave
no-image P = leaves_none None P (λ c left. absurd left)

pub leaves-untold : (old new : Option Past) (P : Image → Type 0) → (IsTold old → ⊥) → (IsTold new → ⊥) → LeavesOnly old new P
leaves-untold old new P one other = rw (untold-none old one, untold-none new other) (no-image P)

none-written : (d s : ℕ) → NotWritten None None d s
unfolding NotWritten
none-written d s = tt

pub untouched-untold : (old new : Option Past) (d s : ℕ) → (IsTold old → ⊥) → (IsTold new → ⊥) → NotWritten old new d s
untouched-untold old new d s one other = rw (untold-none old one, untold-none new other) (none-written d s)

-- a fact of what disks hold now, where they report it
pub told-from : (past : Option Past) (P : Image → Type 0) → (IsTold past → P (now past)) → Told past P
unfolding IsTold now
told-from None P f = tt
told-from (Some past) P f = f tt
