-- Bytes that are placed one after the other.
use Rattle.std.proofs.Common.{◌≡◌, ◌≤◌, ◌<◌, ◌+◌, ◌-◌, ◌%◌, ◌⊎◌, inl, inr, ◌∙◌, ℕ, sym, ap, List, ◌++◌, length, append_assoc, length-append, arith}
use Rattle.std.specs.Prelude.{min}
use Rattle.std.proofs.Math.Path.{fun_ext}
use Rattle.std.proofs.lemmas.List.{get_or_append_left, get_or-append_right}
use Rattle.std.proofs.lemmas.Grind.{common_steps}
use Rattle.lilo_model.specs.Place.{Memory, with_bytes}
use Rattle.section_loader.specs.Reading.{FileRest, rest_behind}
use Rattle.section_loader.specs.Load.{IsCut, IsLoaded}

joined_at :
    (memory : Memory) (at address : ℕ) (one other : List ℕ)
    → with_bytes (with_bytes memory (record { address = at; bytes = one })) (record { address = at + length one; bytes = other }) address
    ≡ with_bytes memory (record { address = at; bytes = one ++ other }) address
joined_at memory at address one other = grind (arith, common_steps, get_or_append_left, get_or-append_right, length-append)

-- bytes, and others directly after them
pub with_bytes-join :
    (memory : Memory) (at : ℕ) (one other : List ℕ)
    → with_bytes (with_bytes memory (record { address = at; bytes = one })) (record { address = at + length one; bytes = other })
    ≡ with_bytes memory (record { address = at; bytes = one ++ other })
with_bytes-join memory at one other = fun_ext (λ address. joined_at memory at address one other)

-- one more piece of a file
pub load_more :
    (done size at : ℕ) (old rest new : FileRest) (memory memory1 memory2 : Memory) (bytes : List ℕ)
    → IsLoaded done at old memory rest memory1
    → rest ≡ rest_behind bytes new → length bytes ≡ size
    → memory2 ≡ with_bytes memory1 (record { address = at + done; bytes = bytes })
    → IsLoaded (done + size) at old memory new memory2
load_more done size at old rest new memory memory1 memory2 bytes loaded read long placed =
    let whole : old ≡ rest_behind (loaded.bytes ++ bytes) new =
    loaded.read ∙ ap (λ r. rest_behind loaded.bytes r) read
    ∙ ap (λ all. record { bytes = all; stop = new.stop }) (sym (append_assoc loaded.bytes bytes new.bytes)) in
    record {
      bytes = loaded.bytes ++ bytes;
      long = rw length-append (omega (arith, long, loaded.long));
      read = whole;
      placed =
          placed
          ∙ ap (λ m. with_bytes m (record { address = at + done; bytes = bytes })) loaded.placed
          ∙ ap (λ n. with_bytes (with_bytes memory (record { address = at; bytes = loaded.bytes })) (record { address = at + n; bytes = bytes })) (sym loaded.long)
          ∙ with_bytes-join memory at loaded.bytes bytes;
    }

-- a read takes no more than is wanted, and leaves what ends with a sector or with the file
read_whole :
    (more left read : ℕ) → (more % 512 ≡ 0) ⊎ (more ≡ left) → more ≤ left → 0 < more → read ≡ min 512 left → read ≤ more
read_whole more left read (inl e) there some is = grind arith
read_whole more left read (inr e) there some is = omega arith

read_ends :
    (more left read : ℕ) → (more % 512 ≡ 0) ⊎ (more ≡ left) → more ≤ left → 0 < more → read ≡ min 512 left
    → ((more - read) % 512 ≡ 0) ⊎ (more - read ≡ left - read)
read_ends more left read (inl e) there some is = inl (grind arith)
read_ends more left read (inr e) there some is = inr (omega arith)

pub cut_less :
    (size done left read : ℕ) → IsCut (size - done) left → done < size → read ≡ min 512 left
    → done + read ≤ size
cut_less size done left read cut less is =
    let whole = read_whole (size - done) left read cut.ends cut.there (omega arith) is in omega arith

pub cut_more :
    (size done left read left' : ℕ) → IsCut (size - done) left → done < size → read ≡ min 512 left → left' ≡ left - read
    → IsCut (size - (done + read)) left'
cut_more size done left read left' cut less is rest =
    let more : size - (done + read) ≡ size - done - read = omega arith in
    let there : size - done - read ≤ left - read = omega (arith, cut.there) in
    rw (more, rest) (record { there = there; ends = read_ends (size - done) left read cut.ends cut.there (omega arith) is })
