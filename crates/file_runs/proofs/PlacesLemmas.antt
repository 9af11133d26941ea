-- The sectors of a file, block by block.
use Rattle.std.proofs.Common.{◌≡◌, ◌<◌, ◌≤◌, ℕ, zero, suc, ◌+◌, ◌-◌, ◌*◌, ◌/◌, ◌%◌, ◌==◌, Bool, true, false, if◌then◌else◌, List, [], ◌∷◌, ◌++◌, map, Option, Some, None, Result, Ok, Err, append_assoc, refl, sym, ap, subst, ◌∙◌, arith}
use Rattle.std.specs.Prelude.{min, nat_lt}
use Rattle.std.specs.List.{range_with_len}
use Rattle.std.proofs.lemmas.Bool.Decides.{nat_tests}
use Rattle.std.proofs.lemmas.List.FromFn.{map-range_with_len_more}
use Rattle.disk_trait.specs.Past.{Past, Told, now_of}
use Rattle.lilo_model.specs.Checks.{◌>>=◌, each, with_fault}
use Rattle.lilo_model.specs.Disks.{Span, DiskSector}
use Rattle.lilo_model.specs.Section.{sectors_for}
use Rattle.lilo_model.specs.MinixLayout.{Inode}
use Rattle.lilo_model.specs.MinixParts.{Volume, Parts, ZoneFault, parts_of, blocks_for, zone_at}
use Rattle.lilo_model.specs.MinixNames.{zone_number, IsSound}
use Rattle.lilo_model.specs.MinixFind.{Zone}
use Rattle.lilo_model.specs.Planned.{sector_in_zone, inode_places}
use Rattle.minix_laws.proofs.Inside.{sound_law}
use Rattle.minix_tree.specs.declared.tree_fault.TreeFault.{TreeFault}
use Rattle.minix_tree.specs.View.{Refuses}
use Rattle.minix_tree.proofs.RefuseLemmas.{refused_ok}
use Rattle.slot_lists.specs.declared.runs.Run.{Run}
use Rattle.slot_lists.specs.Runs.{stretch_places, places_in}
use Rattle.file_runs.specs.Places.{placed, first_places, file_places, sectors_in_block, places_with_block, PlacesLaw}

-- one check more
each-more : {A F : Type 0} (checks : List (Result A F)) (check : Result A F)
    → each (checks ++ check ∷ []) ≡ (each checks >>= λ before. check >>= λ value. Ok (before ++ value ∷ []))
each-more [] (Ok value) = refl
each-more [] (Err fault) = refl
each-more (Err fault ∷ checks) check = refl
each-more {A = A} {F = F} (Ok first ∷ checks) check = ap (λ rest. rest >>= λ values. Ok (first ∷ values)) (each-more checks check) ∙ by (each checks) check
  where
    by : (rest : Result (List A) F) (check : Result A F)
        → ((rest >>= λ before. check >>= λ value. Ok (before ++ value ∷ [])) >>= λ values. Ok (first ∷ values))
        ≡ ((rest >>= λ values. Ok (first ∷ values)) >>= λ before. check >>= λ value. Ok (before ++ value ∷ []))
    by (Err fault) check = refl
    by (Ok before) (Err fault) = refl
    by (Ok before) (Ok value) = refl

-- checks that all pass
each-passes : {A B F : Type 0} (check : A → Result B F) (value : A → B) → ((x : A) → check x ≡ Ok (value x)) → (xs : List A) → each (map check xs) ≡ Ok (map value xs)
each-passes check value passes [] = refl
each-passes check value passes (x ∷ xs) = rw (passes x, each-passes check value passes xs) refl

-- the sector in a half of a zone
abbrev in_half : Span → ℕ → ℕ → Option DiskSector
in_half span zone half = if zone == 0 then None else Some (record { disk = span.disk; sector = span.start + (2 * zone + half) })

abbrev Placed : Type 0
Placed = Result (List (Option DiskSector)) ZoneFault

module _ (volume : Volume) (parts : Parts) (inode : Inode) where
  abbrev sectors : ℕ
  sectors = sectors_for inode.size

  abbrev firsts : ℕ → Placed
  firsts count = first_places volume parts inode count

  one-more : (count : ℕ) → firsts (count + 1) ≡ (firsts count >>= λ before. placed volume parts inode count >>= λ place. Ok (before ++ place ∷ []))
  unfolding first_places
  one-more count =
      ap each (map-range_with_len_more (placed volume parts inode) 0 count count (omega arith))
      ∙ each-more (map (placed volume parts inode) (range_with_len 0 count)) (placed volume parts inode count)

  half-of : (index block half : ℕ) → index / 2 ≡ block → index % 2 ≡ half
      → placed volume parts inode index ≡ (zone_at volume.layout parts inode block >>= λ zone. Ok (in_half volume.span zone half))
  half-of index block half is rest =
      ap (λ n. zone_at volume.layout parts inode n >>= λ zone. Ok (in_half volume.span zone (index % 2))) is
      ∙ ap (λ n. zone_at volume.layout parts inode block >>= λ zone. Ok (in_half volume.span zone n)) rest

  -- so many sectors of a block after others
  abbrev with-block : ℕ → ℕ → List (Option DiskSector) → Placed
  with-block index count before =
      (zone_at volume.layout parts inode index >>= λ zone. Ok (map (sector_in_zone volume.span zone) (range_with_len 0 count)))
      >>= λ here. Ok (before ++ here)

  one-sector : (index : ℕ) → firsts (2 * index + 1) ≡ (firsts (2 * index) >>= λ before. with-block index 1 before)
  one-sector index =
      one-more (2 * index)
      ∙ ap (λ (place : Result (Option DiskSector) ZoneFault). firsts (2 * index) >>= λ before. place >>= λ place. Ok (before ++ place ∷ [])) (half-of (2 * index) index 0 (omega arith) (omega arith))
      ∙ by (firsts (2 * index)) (zone_at volume.layout parts inode index)
    where
      by : (first : Placed) (zone : Result ℕ ZoneFault)
          → (first >>= λ before. (zone >>= λ zone. Ok (in_half volume.span zone 0)) >>= λ place. Ok (before ++ place ∷ []))
          ≡ (first >>= λ before. (zone >>= λ zone. Ok (map (sector_in_zone volume.span zone) (range_with_len 0 1))) >>= λ here. Ok (before ++ here))
      by (Err fault) zone = refl
      by (Ok before) (Err fault) = refl
      by (Ok before) (Ok zone) = refl

  two-sectors : (index : ℕ) → firsts (2 * index + 1 + 1) ≡ (firsts (2 * index) >>= λ before. with-block index 2 before)
  two-sectors index =
      one-more (2 * index + 1)
      ∙ ap (λ (first : Placed). first >>= λ before. placed volume parts inode (2 * index + 1) >>= λ place. Ok (before ++ place ∷ [])) (one-sector index)
      ∙ ap (λ (place : Result (Option DiskSector) ZoneFault). (firsts (2 * index) >>= λ before. with-block index 1 before) >>= λ before. place >>= λ place. Ok (before ++ place ∷ [])) (half-of (2 * index + 1) index 1 (omega arith) (omega arith))
      ∙ by (firsts (2 * index)) (zone_at volume.layout parts inode index)
    where
      by : (first : Placed) (zone : Result ℕ ZoneFault)
          → ((first >>= λ before. (zone >>= λ zone. Ok (map (sector_in_zone volume.span zone) (range_with_len 0 1))) >>= λ here. Ok (before ++ here))
          >>= λ before. (zone >>= λ zone. Ok (in_half volume.span zone 1)) >>= λ place. Ok (before ++ place ∷ []))
          ≡ (first >>= λ before. (zone >>= λ zone. Ok (map (sector_in_zone volume.span zone) (range_with_len 0 2))) >>= λ here. Ok (before ++ here))
      by (Err fault) zone = refl
      by (Ok before) (Err fault) = refl
      by (Ok before) (Ok zone) = ap Ok (append_assoc before (sector_in_zone volume.span zone 0 ∷ []) (sector_in_zone volume.span zone 1 ∷ []))

  -- the sectors of a block more
  block-more : (index : ℕ) → 2 * index < sectors
      → firsts (2 * index + sectors_in_block inode.size index) ≡ (firsts (2 * index) >>= λ before. places_with_block volume parts inode index before)
  block-more index below = by (nat_lt (2 * index + 1) sectors) refl
    where
      by : (more : Bool) → nat_lt (2 * index + 1) sectors ≡ more
          → firsts (2 * index + sectors_in_block inode.size index) ≡ (firsts (2 * index) >>= λ before. places_with_block volume parts inode index before)
      by true is =
          let less : 2 * index + 1 < sectors = grind (arith, nat_tests) in
          let count : 2 ≡ sectors_in_block inode.size index = omega (arith, less) in
          let whole : 2 * index + sectors_in_block inode.size index ≡ 2 * index + 1 + 1 = omega (arith, less) in
          ap firsts whole ∙ two-sectors index ∙ ap (λ n. firsts (2 * index) >>= λ before. with-block index n before) count
      by false is =
          let less : sectors ≤ 2 * index + 1 = grind (arith, nat_tests) in
          let count : 1 ≡ sectors_in_block inode.size index = omega (arith, less, below) in
          let whole : 2 * index + sectors_in_block inode.size index ≡ 2 * index + 1 = omega (arith, less, below) in
          ap firsts whole ∙ one-sector index ∙ ap (λ n. firsts (2 * index) >>= λ before. with-block index n before) count

  refuse-more : (fault : ZoneFault) (count more : ℕ) → firsts count ≡ Err fault → firsts (count + more) ≡ Err fault
  refuse-more fault count zero refused =
      let same : count + zero ≡ count = omega arith in
      ap firsts same ∙ refused
  refuse-more fault count (suc more) refused =
      ap firsts one ∙ one-more (count + more)
      ∙ ap (λ (first : Placed). first >>= λ before. placed volume parts inode (count + more) >>= λ place. Ok (before ++ place ∷ [])) (refuse-more fault count more refused)
    where
      one : count + suc more ≡ count + more + 1
      one = omega arith

  start-of : (index : ℕ) → 2 * index < sectors → min (2 * index) sectors ≡ 2 * index
  start-of index below = omega (arith, below)

  more-found : (index : ℕ) (before after : List (Option DiskSector)) → 2 * index < sectors → firsts (min (2 * index) sectors) ≡ Ok before
      → (here : Placed) → places_with_block volume parts inode index before ≡ here → with_fault Zone here ≡ Ok after
      → firsts (min (2 * (index + 1)) sectors) ≡ Ok after
  more-found index before after below so (Err fault) is found = cc
  more-found index before after below so (Ok now) is found =
      let same : now ≡ after = cc in
      let end : min (2 * (index + 1)) sectors ≡ 2 * index + sectors_in_block inode.size index = omega (arith, below) in
      ap firsts end ∙ block-more index below
      ∙ ap (λ (first : Placed). first >>= λ before. places_with_block volume parts inode index before) (ap firsts (sym (start-of index below)) ∙ so)
      ∙ is ∙ ap Ok same

  more-refused : (index : ℕ) (before : List (Option DiskSector)) (fault : TreeFault) → 2 * index < sectors → firsts (min (2 * index) sectors) ≡ Ok before
      → (here : Placed) → places_with_block volume parts inode index before ≡ here → Refuses fault (with_fault Zone here)
      → Refuses fault (with_fault Zone (file_places volume parts inode))
  unfolding file_places
  more-refused index before fault below so (Ok now) is refused = refused_ok fault now (with_fault Zone (firsts sectors)) refused
  more-refused index before fault below so (Err why) is refused =
      let here : firsts (2 * index + sectors_in_block inode.size index) ≡ Err why =
      block-more index below
      ∙ ap (λ (first : Placed). first >>= λ before. places_with_block volume parts inode index before) (ap firsts (sym (start-of index below)) ∙ so)
      ∙ is in
      let end : sectors ≡ 2 * index + sectors_in_block inode.size index + (sectors - (2 * index + sectors_in_block inode.size index)) = omega (arith, below) in
      let whole : Err why ≡ firsts sectors = sym (ap firsts end ∙ refuse-more why (2 * index + sectors_in_block inode.size index) (sectors - (2 * index + sectors_in_block inode.size index)) here) in
      subst (λ (found : Placed). Refuses fault (with_fault Zone found)) whole refused

-- ---- where the past is told

module _ (volume : Volume) (inode : Inode) where
  pub none-before : (past : Option Past) (runs : List Run) → runs ≡ []
      → Told past (λ now. first_places volume (parts_of volume now) inode (min 0 (sectors_for inode.size)) ≡ Ok (places_in runs))
  unfolding first_places
  none-before None runs is = tt
  none-before (Some past) runs is =
      let none : min 0 (sectors_for inode.size) ≡ 0 = omega arith in
      ap (λ n. first_places volume (parts_of volume (now_of past)) inode n) none ∙ ap (λ runs. Ok (places_in runs)) (sym is)

  pub found-more : (past : Option Past) (index : ℕ) (before after : List (Option DiskSector)) → index < blocks_for inode.size
      → Told past (λ now. first_places volume (parts_of volume now) inode (min (2 * index) (sectors_for inode.size)) ≡ Ok before)
      → Told past (λ now. with_fault Zone (places_with_block volume (parts_of volume now) inode index before) ≡ Ok after)
      → Told past (λ now. first_places volume (parts_of volume now) inode (min (2 * (index + 1)) (sectors_for inode.size)) ≡ Ok after)
  found-more None index before after below so found = tt
  found-more (Some past) index before after below so found =
      more-found volume (parts_of volume (now_of past)) inode index before after (omega (arith, below)) so _ refl found

  pub refused-more : (past : Option Past) (index : ℕ) (before : List (Option DiskSector)) (fault : TreeFault) → index < blocks_for inode.size
      → Told past (λ now. first_places volume (parts_of volume now) inode (min (2 * index) (sectors_for inode.size)) ≡ Ok before)
      → Told past (λ now. Refuses fault (with_fault Zone (places_with_block volume (parts_of volume now) inode index before)))
      → Told past (λ now. Refuses fault (with_fault Zone (file_places volume (parts_of volume now) inode)))
  refused-more None index before fault below so refused = tt
  refused-more (Some past) index before fault below so refused =
      more-refused volume (parts_of volume (now_of past)) inode index before fault (omega (arith, below)) so _ refl refused

  pub found-all : (past : Option Past) (index : ℕ) (runs all : List Run) → blocks_for inode.size ≤ index → all ≡ runs
      → Told past (λ now. first_places volume (parts_of volume now) inode (min (2 * index) (sectors_for inode.size)) ≡ Ok (places_in runs))
      → Told past (λ now. with_fault Zone (file_places volume (parts_of volume now) inode) ≡ Ok (places_in all))
  unfolding file_places
  found-all None index runs all end is so = tt
  found-all (Some past) index runs all end is so =
      let whole : sectors_for inode.size ≡ min (2 * index) (sectors_for inode.size) = omega (arith, end) in
      ap (λ n. with_fault Zone (first_places volume (parts_of volume (now_of past)) inode n)) whole ∙ ap (with_fault Zone) so
      ∙ ap (λ runs. Ok (places_in runs)) (sym is)

-- ---- the sectors of a zone

pub zone-places : (span : Span) (zone count : ℕ) → 0 < zone → count ≤ 2
    → stretch_places span.disk (span.start + 2 * zone) count ≡ map (sector_in_zone span zone) (range_with_len 0 count)
zone-places span zone zero some few = refl
zone-places span zone (suc zero) some few =
    let there : (zone == 0) ≡ false = grind (arith, nat_tests) in
    let first : span.start + 2 * zone ≡ span.start + (2 * zone + 0) = omega arith in
    rw there (ap (λ n. Some (record { disk = span.disk; sector = n }) ∷ []) first)
zone-places span zone (suc (suc zero)) some few =
    let there : (zone == 0) ≡ false = grind (arith, nat_tests) in
    let first : span.start + 2 * zone ≡ span.start + (2 * zone + 0) = omega arith in
    let second : span.start + 2 * zone + 1 ≡ span.start + (2 * zone + 1) = omega arith in
    rw there
    (ap (λ n. Some (record { disk = span.disk; sector = n }) ∷ (Some (record { disk = span.disk; sector = span.start + 2 * zone + 1 }) ∷ [])) first
    ∙ ap (λ n. Some (record { disk = span.disk; sector = span.start + (2 * zone + 0) }) ∷ (Some (record { disk = span.disk; sector = n }) ∷ [])) second)
zone-places span zone (suc (suc (suc count))) some few = absurd (omega (arith, few))

-- ---- on a sound volume

pub places_law : PlacesLaw
unfolding file_places first_places inode_places IsSound
places_law volume image number sound named zones =
    let given = sound_law volume.layout (parts_of volume image) number sound.parts named zones in
    each-passes (placed volume (parts_of volume image) ((parts_of volume image).node number))
    (λ index. sector_in_zone volume.span (zone_number volume.layout (parts_of volume image) number (index / 2)) index)
    (λ index. ap (λ (found : Result ℕ ZoneFault). found >>= λ zone. Ok (sector_in_zone volume.span zone index)) (given.zone (index / 2)))
    (range_with_len 0 (sectors_for ((parts_of volume image).node number).size))
