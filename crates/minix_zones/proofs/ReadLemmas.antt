-- The bytes of a block, where disks report their past.
use Rattle.std.proofs.Common.{◌≡◌, ℕ, List, Option, None, Some, Result, Ok, sym, ap, ◌∙◌}
use Rattle.std.specs.Prelude.{replicate}
use Rattle.disk_trait.specs.Past.{Past, Told, now_of}
use Rattle.lilo_model.specs.Checks.{◌>>=◌}
use Rattle.lilo_model.specs.MinixLayout.{Super, Inode}
use Rattle.lilo_model.specs.MinixParts.{Volume, Parts, ZoneFault, parts_of, zone_at, zone_bytes, block_at}

hole_bytes : (super : Super) (parts : Parts) (inode : Inode) (index : ℕ) (bytes : List ℕ)
    → bytes ≡ replicate 1024 0 → zone_at super parts inode index ≡ Ok 0 → block_at super parts inode index ≡ Ok bytes
unfolding block_at
hole_bytes super parts inode index bytes zeros hole =
    let P : Result ℕ ZoneFault → Result (List ℕ) ZoneFault = λ at. at >>= λ zone. Ok (zone_bytes parts zone) in
    let F : List ℕ → Result (List ℕ) ZoneFault = λ found. Ok found in
    ap P hole ∙ ap F (sym zeros)

-- a hole's bytes are zeros
pub read_hole : (past : Option Past) (volume : Volume) (inode : Inode) (index : ℕ) (bytes : List ℕ)
    → bytes ≡ replicate 1024 0
    → Told past (λ now. zone_at volume.layout (parts_of volume now) inode index ≡ Ok 0)
    → Told past (λ now. block_at volume.layout (parts_of volume now) inode index ≡ Ok bytes)
read_hole None volume inode index bytes zeros hole = tt
read_hole (Some past) volume inode index bytes zeros hole =
    hole_bytes volume.layout (parts_of volume (now_of past)) inode index bytes zeros hole
