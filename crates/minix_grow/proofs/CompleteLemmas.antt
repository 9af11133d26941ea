-- The way to a block that new zones complete, from a level down.
use Rattle.std.proofs.Common.{◌≡◌, ◌≢◌, ◌≤◌, ◌<◌, ◌+◌, ◌-◌, ◌/◌, ◌%◌, ◌^◌, ◌==◌, ℕ, zero, suc, Bool, true, false, List, replicate, refl, sym, ◌∙◌, ap, subst, arith}
use Rattle.std.specs.Prelude.{slice_index}
use Rattle.std.proofs.lemmas.Bool.{eqb-true}
use Rattle.lilo_model.specs.MinixEntries.{entry_in, entries_per_block}
use Rattle.lilo_model.specs.MinixLayout.{Kind, Super, Inode, number_size}
use Rattle.lilo_model.specs.MinixNames.{pointer, zone_number, block, entry, Named, PointsTo}
use Rattle.lilo_model.specs.MinixParts.{Parts, Pointer, IsPointer, block_pointer, follow, number_below, number_in, zone_at_pointer, zone_bytes, is_directory}
use Rattle.minix_change_laws.specs.Changes.{MayHook}
use Rattle.minix_change_laws.specs.Grows.{down}
use Rattle.minix_change_laws.proofs.Zeros.{entry-zeros}
use Rattle.minix_laws.proofs.Inside.{some_numbers}
use Rattle.minix_laws.proofs.Pointers.{pointer_law}
use Rattle.minix_change_laws.proofs.Inode.{shorter, directory-zones}
use Rattle.minix_grow.specs.Way.{depth_of, pointer_above, index_above, number_on_way, number_above, zones_below, grown_bytes, AreGrown}
use Rattle.minix_grow.proofs.ChainLemmas.{holds, chain}
use Rattle.minix_grow.proofs.WayLemmas.{pointer_below, pointer_lowest, down_below}

-- each number on the way is one that an inode has
pub way_is_pointer : (super : Super) (place-block level : ℕ) → level ≤ depth_of super.kind place-block → IsPointer super.kind (pointer_above super.kind place-block level)
way_is_pointer super place-block zero low = subst (IsPointer super.kind) (sym (pointer_lowest super.kind place-block)) ((pointer_law super.kind).is place-block)
way_is_pointer super place-block (suc level) low =
    let lower : level < depth_of super.kind place-block = omega (arith, low) in
    let outer : Pointer = pointer_above super.kind place-block (suc level) in
    shorter super outer.top (index_above super.kind place-block level) outer.trail
    (subst (IsPointer super.kind) (pointer_below super.kind place-block level lower) (way_is_pointer super place-block level (omega (arith, low))))

-- a number below a zone that is there
pub number_there : (kind : Kind) (bytes_of : ℕ → List ℕ) (zone index : ℕ) → zone ≢ 0 → number_below kind bytes_of zone index ≡ number_in kind (bytes_of zone) index
number_there kind bytes_of zone index some = by _ refl
  where
    by : (hole : Bool) → (zone == 0) ≡ hole → number_below kind bytes_of zone index ≡ number_in kind (bytes_of zone) index
    by true hole = absurd (some (eqb-true zone 0 hole))
    by false hole = rw hole refl

-- a number on the way is in the zone above it
pub way_step : (super : Super) (parts : Parts) (node : Inode) (place-block level : ℕ) → level < depth_of super.kind place-block
    → number_on_way super parts node place-block level
    ≡ number_below super.kind parts.zone (number_on_way super parts node place-block (suc level)) (index_above super.kind place-block level)
unfolding follow
way_step super parts node place-block level low = ap (zone_at_pointer super parts node) (pointer_below super.kind place-block level low)

pub number_step : (super : Super) (parts : Parts) (directory place-block level : ℕ) → level < depth_of super.kind place-block
    → number_above super parts directory place-block level
    ≡ number_below super.kind parts.zone (number_above super parts directory place-block (suc level)) (index_above super.kind place-block level)
number_step super parts directory place-block level low = way_step super parts (parts.node directory) place-block level low

module _ (super : Super) (parts : Parts) (directory place-block : ℕ) (growth : List ℕ) (high : ℕ) (deep : high ≤ depth_of super.kind place-block)
    (grown : AreGrown super parts place-block growth (suc high)) (small : (level : ℕ) → level < suc high → slice_index growth level < 256 ^ number_size super.kind) where
  down-all : down (pointer_above super.kind place-block high) (zones_below super.kind place-block growth high) ≡ block_pointer super.kind place-block
  down-all = down_below super.kind place-block growth high deep ∙ pointer_lowest super.kind place-block

  -- the highest may be hooked where the way has a hole
  pub may_hook_high : Named super parts directory → is_directory (parts.node directory) ≡ true → number_above super parts directory place-block high ≡ 0
      → MayHook super parts directory (pointer_above super.kind place-block high) (slice_index growth high) (zones_below super.kind place-block growth high)
  may_hook_high named is hole = record {
    named = named;
    is = is;
    place = subst (IsPointer super.kind) (sym down-all) ((pointer_law super.kind).is place-block);
    hole = hole;
    some = grown.some high (omega arith);
    fresh = grown.fresh high (omega arith);
    chain = chain super parts place-block growth (suc high) grown small (some_numbers super.kind) high (omega arith);
  }

  -- in parts where these zones stay and the number of the highest one is found, that of each is
  module _ (new : Parts) (zones : (level : ℕ) → level < suc high → new.zone (slice_index growth level) ≡ parts.zone (slice_index growth level))
      (top : number_above super new directory place-block high ≡ slice_index growth high) where
    step : (level : ℕ) → suc level < suc high → number_above super new directory place-block (suc level) ≡ slice_index growth (suc level)
        → number_above super new directory place-block level ≡ slice_index growth level
    step level low upper =
        let index : ℕ = index_above super.kind place-block level in
        number_step super new directory place-block level (omega (arith, low, deep))
        ∙ (ap (λ z. number_below super.kind new.zone z index) upper
        ∙ (number_there super.kind new.zone (slice_index growth (suc level)) index (grown.some (suc level) low)
        ∙ (ap (λ b. number_in super.kind b index) (zones (suc level) low) ∙ (holds super parts place-block growth (suc high) grown small (some_numbers super.kind) level low).here)))

    leads : (level more : ℕ) → level + more ≡ high → number_above super new directory place-block level ≡ slice_index growth level
    leads level zero same =
        let e : high ≡ level = omega (arith, same) in
        let P : ℕ → Type 0 = λ l. number_above super new directory place-block l ≡ slice_index growth l in
        subst P e top
    leads level (suc more) same = step level (omega (arith, same)) (leads (suc level) more (omega (arith, same)))

    -- the directory has each of them
    pub has_each : is_directory (new.node directory) ≡ true → (level : ℕ) → level < suc high → PointsTo super new directory (pointer_above super.kind place-block level) (slice_index growth level)
    has_each is level low = record {
      kind = directory-zones new directory is;
      place = way_is_pointer super place-block level (omega (arith, low, deep));
      is = leads level (high - level) (omega (arith, low));
      some = grown.some level low;
    }

    lowest : zone_number super new directory place-block ≡ slice_index growth 0
    unfolding zone_number
    lowest = ap (pointer super new directory) (sym (pointer_lowest super.kind place-block)) ∙ leads 0 high (omega arith)

    pub some_zone : zone_number super new directory place-block ≢ 0
    some_zone none = grown.some 0 (omega arith) (sym lowest ∙ none)

    bytes-by : (hole : Bool) → (slice_index growth 0 == 0) ≡ hole → zone_bytes new (slice_index growth 0) ≡ replicate 1024 0
    unfolding grown_bytes
    bytes-by true hole = absurd (grown.some 0 (omega arith) (eqb-true (slice_index growth 0) 0 hole))
    bytes-by false hole = rw hole (zones 0 (omega arith) ∙ grown.bytes 0 (omega arith))

    -- and each of the block's entries is free
    pub entry_free : (place : ℕ) → place / entries_per_block super.kind ≡ place-block → (entry super new directory place).inode ≡ 0
    unfolding entry block
    entry_free place here =
        let E : List ℕ → ℕ = λ bytes. (entry_in super.kind bytes (place % entries_per_block super.kind)).inode in
        let B : ℕ → List ℕ = λ index. zone_bytes new (zone_number super new directory index) in
        ap E (ap B here ∙ (ap (zone_bytes new) lowest ∙ bytes-by _ refl)) ∙ entry-zeros super.kind (place % entries_per_block super.kind)
