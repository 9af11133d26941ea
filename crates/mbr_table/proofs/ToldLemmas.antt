-- Calls that change no disk.
use Rattle.std.proofs.Common.{◌≡◌, ℕ, ◌∙◌, subst}
use Rattle.std.specs.Prelude.{Option}
use Rattle.disk_trait.specs.Past.{Image, Past, Told, SameDisks}

-- what is reported of disks was reported of them before they were left as they are
pub told_before : (old new : Option Past) (P : Image → Type 0) → new ≡ old → Told new P → Told old P
told_before old new P same known = subst (λ past. Told past P) same known

-- two calls that changed no disk are one
pub same_twice :
    {D G : Type 0} (past : D → Option Past) (size_of : D → ℕ → ℕ) (count_of : D → ℕ) (geometry_of : D → ℕ → G)
    (old mid new : D) → SameDisks past size_of count_of geometry_of old mid
    → SameDisks past size_of count_of geometry_of mid new → SameDisks past size_of count_of geometry_of old new
same_twice past size_of count_of geometry_of old mid new first second = record {
  same_past = second.same_past ∙ first.same_past;
  same_size = second.same_size ∙ first.same_size;
  same_count = second.same_count ∙ first.same_count;
  same_geometry = second.same_geometry ∙ first.same_geometry;
}
