-- The sector of a table, entry after entry.
use Rattle.std.proofs.Common.{◌≡◌, ◌≤◌, ◌<◌, ℕ, suc, ◌+◌, ◌-◌, ◌*◌, List, [], ◌∷◌, ◌++◌, length, take, drop, map, get_or, replicate, append_assoc, append-nil, refl, sym, ◌∙◌, ap, arith}
use Rattle.std.specs.Prelude.{flat_map}
use Rattle.std.proofs.Math.Seq.{take-append_seam, drop-append_seam, take-suc, take-length}
use Rattle.std.proofs.lemmas.List.{drop-replicate, length-append, length-replicate, length-map, length-take-le, replicate-append-replicate, map-append}
use Rattle.std.proofs.lemmas.Grind.{flat_map-append}
use Rattle.lilo_model.specs.Bytes.{with_part, filled_bytes}
use Rattle.ldisk_model.specs.Arguments.{PartWish}
use Rattle.ldisk_model.specs.DiskTable.{entry_bytes, table_sector}

-- bytes that are put where zeros begin
put_seam : (front new : List ℕ) (at n : ℕ) → at ≡ length front → with_part (front ++ replicate n 0) at new ≡ (front ++ new) ++ replicate (n - length new) 0
put_seam front new at n is =
    let before : take at (front ++ replicate n 0) ≡ front = rw is (take-append_seam front (replicate n 0)) in
    let after : drop at (front ++ replicate n 0) ≡ replicate n 0 = rw is (drop-append_seam front (replicate n 0)) in
    rw (before, after, drop-replicate {X = ℕ} (length new) n 0) (sym (append_assoc front new (replicate (n - length new) 0)))

entry-long : (part : PartWish) → length (entry_bytes part) ≡ 16
unfolding entry_bytes
entry-long part = refl

-- the sector up to the end of some entries
abbrev pub front_of : List PartWish → List ℕ
front_of parts = replicate 446 0 ++ flat_map entry_bytes parts

entries-long : (parts : List PartWish) → length (flat_map entry_bytes parts) ≡ 16 * length parts
entries-long [] = refl
entries-long (part ∷ parts) =
    let one = entry-long part in
    let rest = entries-long parts in
    let all = length-append (entry_bytes part) (flat_map entry_bytes parts) in
    omega (arith, one, rest, all)

pub front-long : (parts : List PartWish) → length (front_of parts) ≡ 446 + 16 * length parts
front-long parts =
    let all = length-append (replicate 446 0) (flat_map entry_bytes parts) in
    let none : ℕ = 0 in
    let zeros : length (replicate 446 none) ≡ 446 = length-replicate 446 none in
    omega (arith, all, zeros, entries-long parts)

-- one more entry
pub entry_put : (parts : List PartWish) (part : PartWish) (n : ℕ) (old new : List ℕ) (at : ℕ) → at ≡ 446 + 16 * length parts
    → old ≡ front_of parts ++ replicate n 0 → new ≡ with_part old at (entry_bytes part)
    → new ≡ front_of (parts ++ part ∷ []) ++ replicate (n - 16) 0
entry_put parts part n old new at is before put =
    let here : at ≡ length (front_of parts) = omega (arith, is, front-long parts) in
    let more : front_of parts ++ entry_bytes part ≡ front_of (parts ++ part ∷ []) =
    append_assoc (replicate 446 0) (flat_map entry_bytes parts) (entry_bytes part)
    ∙ ap (λ bytes. replicate 446 0 ++ bytes)
    (ap (λ bytes. flat_map entry_bytes parts ++ bytes) (sym (append-nil (entry_bytes part))) ∙ sym (flat_map-append entry_bytes parts (part ∷ []))) in
    put ∙ ap (λ bytes. with_part bytes at (entry_bytes part)) before ∙ put_seam (front_of parts) (entry_bytes part) at n here
    ∙ ap (λ bytes. bytes ++ replicate (n - length (entry_bytes part)) 0) more
    ∙ ap (λ k. front_of (parts ++ part ∷ []) ++ replicate (n - k) 0) (entry-long part)

-- the signature after the last entry
pub signed : (parts : List PartWish) (n : ℕ) (old new : List ℕ) → length parts ≤ 4 → n ≡ 66 - 16 * length parts
    → old ≡ front_of parts ++ replicate n 0 → new ≡ with_part old 510 (0x55 ∷ (0xaa ∷ [])) → new ≡ table_sector parts
unfolding table_sector
signed parts n old new few is before put =
    let entries : List ℕ = flat_map entry_bytes parts in
    let rest : ℕ = 64 - 16 * length parts in
    let cut : replicate n 0 ≡ replicate rest 0 ++ replicate 2 0 =
    ap (λ k. replicate k 0) (omega (arith, is, few)) ∙ sym (replicate-append-replicate {A = ℕ} rest 2 0) in
    let filled : filled_bytes 64 entries ≡ entries ++ replicate rest 0 = ap (λ k. entries ++ replicate (64 - k) 0) (entries-long parts) in
    let split : old ≡ (front_of parts ++ replicate rest 0) ++ replicate 2 0 =
    before ∙ ap (λ zeros. front_of parts ++ zeros) cut ∙ sym (append_assoc (front_of parts) (replicate rest 0) (replicate 2 0)) in
    let long : 510 ≡ length (front_of parts ++ replicate rest 0) =
    let all = length-append (front_of parts) (replicate rest 0) in
    let none : ℕ = 0 in
    let zeros : length (replicate rest none) ≡ rest = length-replicate rest none in
    omega (arith, all, zeros, front-long parts, few) in
    put ∙ ap (λ bytes. with_part bytes 510 (0x55 ∷ (0xaa ∷ []))) split
    ∙ put_seam (front_of parts ++ replicate rest 0) (0x55 ∷ (0xaa ∷ [])) 510 2 long
    ∙ append-nil ((front_of parts ++ replicate rest 0) ++ (0x55 ∷ (0xaa ∷ [])))
    ∙ append_assoc (front_of parts) (replicate rest 0) (0x55 ∷ (0xaa ∷ []))
    ∙ append_assoc (replicate 446 0) entries (replicate rest 0 ++ (0x55 ∷ (0xaa ∷ [])))
    ∙ ap (λ bytes. replicate 446 0 ++ bytes) (sym (append_assoc entries (replicate rest 0) (0x55 ∷ (0xaa ∷ []))))
    ∙ ap (λ bytes. replicate 446 0 ++ (bytes ++ (0x55 ∷ (0xaa ∷ [])))) (sym filled)

-- ---- the loop

module _ {P : Type 0} (view : P → PartWish) (parts : List P) (at : ℕ) (old new : List ℕ)
    (so_far : old ≡ front_of (map view (take at parts)) ++ replicate (66 - 16 * at) 0) where
  pub table_step : (d : P) (bytes : List ℕ) → at < length parts → bytes ≡ entry_bytes (view (get_or parts at d)) → new ≡ with_part old (446 + 16 * at) bytes
      → new ≡ front_of (map view (take (at + 1) parts)) ++ replicate (66 - 16 * (at + 1)) 0
  table_step d bytes below is put =
      let part : P = get_or parts at d in
      let next : at + 1 ≡ suc at = omega arith in
      let more : take (at + 1) parts ≡ take at parts ++ part ∷ [] = ap (λ n. take n parts) next ∙ take-suc parts at d below in
      let viewed : map view (take (at + 1) parts) ≡ map view (take at parts) ++ view part ∷ [] = ap (map view) more ∙ map-append view (take at parts) (part ∷ []) in
      let long : length (map view (take at parts)) ≡ at = length-map (take at parts) view ∙ length-take-le at parts (omega (arith, below)) in
      let count : 66 - 16 * at - 16 ≡ 66 - 16 * (at + 1) = omega arith in
      entry_put (map view (take at parts)) (view part) (66 - 16 * at) old new (446 + 16 * at) (omega (arith, long)) so_far (put ∙ ap (with_part old (446 + 16 * at)) is)
      ∙ ap (λ parts. front_of parts ++ replicate (66 - 16 * at - 16) 0) (sym viewed)
      ∙ ap (λ n. front_of (map view (take (at + 1) parts)) ++ replicate n 0) count

  pub table_end : at ≡ length parts → length parts ≤ 4 → new ≡ with_part old 510 (0x55 ∷ (0xaa ∷ [])) → new ≡ table_sector (map view parts)
  table_end is few put =
      let all : take at parts ≡ parts = ap (λ n. take n parts) is ∙ take-length parts in
      let long : length (map view parts) ≡ at = length-map parts view ∙ sym is in
      signed (map view parts) (66 - 16 * at) old new (omega (arith, long, is, few)) (omega (arith, long))
      (so_far ∙ ap (λ parts. front_of (map view parts) ++ replicate (66 - 16 * at) 0) all) put
