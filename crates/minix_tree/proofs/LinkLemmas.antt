-- The text of a link, and the bytes of a file.
use Rattle.std.proofs.Common.{◌≡◌, ◌≢◌, ◌≤◌, ℕ, List, [], ◌++◌, Option, None, Some, Ok, take, refl, sym, subst, arith}
use Rattle.disk_trait.specs.Past.{Past, Told, now_of}
use Rattle.lilo_model.specs.Checks.{◌>>=◌, with_fault}
use Rattle.lilo_model.specs.MinixLayout.{Inode}
use Rattle.lilo_model.specs.MinixParts.{Volume, parts_of, block_at, blocks_at, blocks_for, content_at}
use Rattle.lilo_model.specs.MinixFind.{Zone}
use Rattle.minix_zones.specs.View as zones
use Rattle.minix_zones.specs.declared.zone_fault.ZoneFault.{ZoneFault}
use Rattle.minix_tree.specs.View.{RefusesZone}
use Rattle.minix_tree.proofs.ReadLemmas.{refused_before, zone_refused}

-- ---- a file of one block, or of none

pub empty_content : (past : Option Past) (volume : Volume) (inode : Inode) (bytes : List ℕ) → inode.size ≡ 0
    → Told past (λ now. with_fault Zone (content_at volume.layout (parts_of volume now) inode) ≡ Ok (take inode.size bytes))
unfolding content_at
empty_content None volume inode bytes none = tt
empty_content (Some past) volume inode bytes none = rw none refl

one_block : (size : ℕ) → size ≢ 0 → size ≤ 1024 → blocks_for size ≡ 1
one_block size some few = omega arith

pub short_content : (past : Option Past) (volume : Volume) (inode : Inode) (bytes : List ℕ) → inode.size ≢ 0 → inode.size ≤ 1024
    → Told past (λ now. block_at volume.layout (parts_of volume now) inode 0 ≡ Ok bytes)
    → Told past (λ now. with_fault Zone (content_at volume.layout (parts_of volume now) inode) ≡ Ok (take inode.size bytes))
unfolding content_at
short_content None volume inode bytes some few read = tt
short_content (Some past) volume inode bytes some few read = rw (one_block inode.size some few, read) refl

pub short_refused : (past : Option Past) (volume : Volume) (inode : Inode) (fault : ZoneFault) → inode.size ≢ 0 → inode.size ≤ 1024
    → Told past (λ now. zones.Refuses fault (block_at volume.layout (parts_of volume now) inode 0))
    → Told past (λ now. RefusesZone fault (with_fault Zone (content_at volume.layout (parts_of volume now) inode)))
unfolding content_at
short_refused None volume inode fault some few refused = tt
short_refused (Some past) volume inode fault some few refused =
    let B : ℕ → Type 0 = λ n. RefusesZone fault (with_fault Zone (blocks_at (block_at volume.layout (parts_of volume (now_of past)) inode) n >>= λ bytes. Ok (take inode.size bytes))) in
    subst B (sym (one_block inode.size some few))
    (refused_before fault (block_at volume.layout (parts_of volume (now_of past)) inode 0 >>= λ block. Ok ([] ++ block)) (λ bytes. Ok (take inode.size bytes))
    (zone_refused fault (block_at volume.layout (parts_of volume (now_of past)) inode 0) (λ block. Ok ([] ++ block)) refused))
