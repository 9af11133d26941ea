-- Sectors that are held, where disks report their past.
use Rattle.std.proofs.Common.{◌≡◌, ℕ, List, Option, None, Some, refl, subst}
use Rattle.disk_trait.specs.Past.{Past, Image, now_of, Told}
use Rattle.minix_zones.specs.declared.held_sectors.HeldSectors.{HeldSectors}
use Rattle.minix_zones.specs.Sectors.{HaveSectors, AreNow}

told-at : (told : Option Past) (P : Image → Type 0) (past : Past) → told ≡ Some past → Told told P → P (now_of past)
told-at told P past is fact = subst (λ other. Told other P) is fact

-- what is so of the bytes that are held is so of the sector's
pub held_told : (P : List ℕ → Type 0) (past : Option Past) (disk sector : ℕ) (held : HeldSectors)
    → ((at : ℕ) (now : Image) → HaveSectors at now held → P (now at sector))
    → AreNow past disk held → Told past (λ now. P (now disk sector))
held_told P None disk sector held is all = tt
held_told P (Some past) disk sector held is all = is disk (now_of past) (all past refl)

-- a sector that was read is held with the others
pub hold_told : (before past : Option Past) (disk sector : ℕ) (old new : HeldSectors) (bytes : List ℕ) → past ≡ before
    → ((at : ℕ) (now : Image) → HaveSectors at now old → bytes ≡ now at sector → HaveSectors at now new)
    → AreNow before disk old → Told before (λ now. bytes ≡ now disk sector) → AreNow past disk new
hold_told before past disk sector old new bytes same is all read told at =
    let there : before ≡ Some told = subst (λ other. other ≡ Some told) same at in
    is disk (now_of told) (all told there) (told-at before (λ now. bytes ≡ now disk sector) told there read)
