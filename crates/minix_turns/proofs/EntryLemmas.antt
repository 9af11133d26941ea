-- The bytes of an entry, put together at the start of a sector.
use Rattle.std.proofs.Common.{◌≡◌, ℕ, ◌+◌, ◌-◌, ◌≤◌, List, ◌++◌, length, take, drop, replicate, refl, sym, ◌∙◌, ap, arith, length-append, append_assoc}
use Rattle.std.proofs.lemmas.List.{length-replicate}
use Rattle.std.proofs.Math.Seq.{take-append_seam}
use Rattle.lilo_model.specs.Bytes.{with_part, number16, bytes16, filled_bytes}
use Rattle.lilo_model.specs.MinixEntries.{entry_of}
use Rattle.lilo_model.specs.MinixLayout.{Kind, V1Short, V1Long, V2Short, V2Long, name_size, entry_size}
use Rattle.minix_change_laws.specs.Written.{entry_bytes}
use Rattle.minix_change_laws.specs.Part.{free_bytes}
use Rattle.minix_turns.specs.Part.{IsEntry}

pub filled-long : (len : ℕ) (name : List ℕ) → length name ≤ len → length (filled_bytes len name) ≡ len
filled-long len name short = length-append name (replicate (len - length name) 0) ∙ (let more = length-replicate {A = ℕ} (len - length name) 0 in omega (arith, more, short))

-- two parts, one after the other
two-parts : (first last rest : List ℕ) → take (length first + length last) (first ++ (last ++ rest)) ≡ first ++ last
two-parts first last rest =
    ap (take (length first + length last)) (sym (append_assoc first last rest))
    ∙ (ap (λ n. take n ((first ++ last) ++ rest)) (sym (length-append first last)) ∙ take-append_seam (first ++ last) rest)

pub entry_made : (sector : List ℕ) (number len : ℕ) (name : List ℕ) → length name ≤ len → IsEntry (with_part (with_part sector 0 (bytes16 number)) 2 (filled_bytes len name)) number len name
entry_made sector number len name short =
    let first : List ℕ = bytes16 number in
    let last : List ℕ = filled_bytes len name in
    let after : List ℕ = drop 2 (drop 0 sector) in
    let rest : List ℕ = drop (length last) (drop 2 (first ++ after)) in
    let long = filled-long len name short in
    let size : len + 2 ≡ length first + length last = omega (arith, long) in
    ap (λ start. take (len + 2) (start ++ (last ++ rest))) (take-append_seam first after)
    ∙ (ap (λ n. take n (first ++ (last ++ rest))) size ∙ two-parts first last rest)

-- ---- how long they are

pub entry-long : (kind : Kind) (number : ℕ) (name : List ℕ) → length name ≤ name_size kind → length (entry_bytes kind number name) ≡ entry_size kind
entry-long kind number name short = let long = filled-long (name_size kind) name short in omega (arith, long)

pub free-long : (kind : Kind) → length (free_bytes kind) ≡ entry_size kind
free-long kind = length-replicate {A = ℕ} (entry_size kind) 0

-- an entry of zeros is free
pub free-inode : (kind : Kind) → (entry_of kind (free_bytes kind)).inode ≡ 0
unfolding entry_of number16
free-inode V1Short = refl
free-inode V1Long = refl
free-inode V2Short = refl
free-inode V2Long = refl
