-- What the sectors of a bitmap say of the free numbers of a volume.
use Rattle.std.proofs.Common.{◌≡◌, ◌≤◌, ◌<◌, ◌+◌, ◌*◌, ◌-◌, ◌/◌, ◌%◌, ◌&&◌, not, nat_le, ℕ, Bool, true, false, List, [], ◌++◌, length, take, Option, None, Some, Result, Ok, Err, ap, ap₂, sym, ◌∙◌, subst, arith, ⊎_elim}
use Rattle.std.specs.Prelude.{All, min, is_some}
use Rattle.std.specs.List.{range_with_len}
use Rattle.std.proofs.lemmas.Bool.{cases_lt}
use Rattle.std.proofs.lemmas.List.{length-take}
use Rattle.std.proofs.lemmas.List.Elements.{All-append, All-filter, All-take}
use Rattle.std.proofs.lemmas.List.FromFn.{length-range_with_len, get_or-range_with_len}
use Rattle.std.proofs.lemmas.Bool.Decides.{nat_tests}
use Rattle.disk_trait.specs.Past.{Past, Told}
use Rattle.disk_trait.proofs.ToldLemmas.{told_map, told_both, told_all}
use Rattle.lilo_model.specs.Disks.{Image}
use Rattle.lilo_model.specs.MinixLayout.{Super}
use Rattle.lilo_model.specs.MinixParts.{Parts, Volume, sector_of, bit, parts_of}
use Rattle.minix_steps.specs.declared.bitmap.Bitmap.{Bitmap}
use Rattle.minix_steps.specs.declared.bit_fault.BitFault.{BitFault}
use Rattle.minix_steps.specs.declared.bit_fault.BitFault.TheVariants as faults
use Rattle.minix_steps.specs.Bitmap.{base_of, end_of, sector_with, marked, zone_bitmap, inode_bitmap}
use Rattle.minix_steps.specs.Find.{Gives, HasBitCause, HasSectorCause}
use Rattle.minix_steps.specs.Numbers.{has_number}
use Rattle.minix_steps.specs.Free.{free_from, is_free, free_zones, Shortage, enough, lowest_zones, lowest_inode, is_free_on, is_free_in, IsLowest}
use Rattle.minix_steps.proofs.RangeLemmas.{same_free, same_lowest, find_lowest, took_all, took_more, took_so_many, free_split}

-- ---- one sector

module _ (volume : Volume) (image : Image) (bitmap : Bitmap) (bytes : List ℕ) (avoid : List ℕ) (at : ℕ)
    (from : bitmap.origin ≤ at) (is : bytes ≡ sector_of volume image (sector_with bitmap at)) where
  marked_in : (n : ℕ) → base_of bitmap at ≤ n → n < base_of bitmap at + 4096 → bit bytes (n - base_of bitmap at) ≡ marked volume image bitmap n
  unfolding marked
  marked_in n low high =
      let sector : (at - bitmap.origin) / 4096 ≡ (n - bitmap.origin) / 4096 = omega arith in
      let place : n - base_of bitmap at ≡ (n - bitmap.origin) % 4096 = omega arith in
      ap₂ bit (is ∙ ap (λ (s : ℕ). sector_of volume image (bitmap.sector + s)) sector) place

  free_in : (n : ℕ) → base_of bitmap at ≤ n → n < base_of bitmap at + 4096 → is_free_in bytes (base_of bitmap at) avoid n ≡ is_free_on volume image bitmap avoid n
  unfolding is_free_in is_free_on
  free_in n low high = ap (λ (mark : Bool). not mark && not (has_number avoid n)) (marked_in n low high)

  same_in : (base end n : ℕ) → base ≡ base_of bitmap at → end ≡ end_of bitmap at → at ≤ n → n < end → is_free_in bytes base avoid n ≡ is_free_on volume image bitmap avoid n
  same_in base end n base_is end_is low high =
      ap (λ (b : ℕ). is_free_in bytes b avoid n) base_is ∙ free_in n (omega arith) (omega arith)

pub sector_taken : (past : Option Past) (volume : Volume) (bitmap : Bitmap) (bytes avoid old new : List ℕ) (at base end need : ℕ)
    → bitmap.origin ≤ at → base ≡ base_of bitmap at → end ≡ end_of bitmap at → at ≤ end
    → Told past (λ now. bytes ≡ sector_of volume now (sector_with bitmap at))
    → new ≡ take need (old ++ free_from (is_free_in bytes base avoid) at (end - at))
    → Told past (λ now. new ≡ take need (old ++ free_from (is_free_on volume now bitmap avoid) at (end_of bitmap at - at)))
sector_taken past volume bitmap bytes avoid old new at base end need from base_is end_is order held taken =
    told_map past (λ now. bytes ≡ sector_of volume now (sector_with bitmap at)) (λ now. new ≡ take need (old ++ free_from (is_free_on volume now bitmap avoid) at (end_of bitmap at - at)))
    (λ now is. taken ∙ ap (λ (xs : List ℕ). take need (old ++ xs)) (
    same_free (is_free_in bytes base avoid) (is_free_on volume now bitmap avoid) at (end - at) (λ m low high. same_in volume now bitmap bytes avoid at from is base end m base_is end_is low (omega arith))
    ∙ ap (λ (e : ℕ). free_from (is_free_on volume now bitmap avoid) at (e - at)) end_is))
    held

pub sector_lowest : (past : Option Past) (volume : Volume) (bitmap : Bitmap) (bytes avoid : List ℕ) (found : Option ℕ) (at base end : ℕ)
    → bitmap.origin ≤ at → base ≡ base_of bitmap at → end ≡ end_of bitmap at
    → Told past (λ now. bytes ≡ sector_of volume now (sector_with bitmap at))
    → IsLowest (is_free_in bytes base avoid) at end found
    → Told past (λ now. IsLowest (is_free_on volume now bitmap avoid) at (end_of bitmap at) found)
sector_lowest past volume bitmap bytes avoid found at base end from base_is end_is held lowest =
    told_map past (λ now. bytes ≡ sector_of volume now (sector_with bitmap at)) (λ now. IsLowest (is_free_on volume now bitmap avoid) at (end_of bitmap at) found)
    (λ now is.
    let P : ℕ → Type 0 = λ e. IsLowest (is_free_on volume now bitmap avoid) at e found in
    subst P end_is (same_lowest (is_free_in bytes base avoid) (is_free_on volume now bitmap avoid) at end found (λ m low high. same_in volume now bitmap bytes avoid at from is base end m base_is end_is low high) lowest))
    held

-- ---- the bitmap bits of a volume

zone_marks : (volume : Volume) (image : Image) (n : ℕ) → 1 ≤ volume.layout.first → marked volume image (zone_bitmap volume.layout) n ≡ (parts_of volume image).has_zone n
unfolding marked parts_of
zone_marks volume image n some =
    let sector : 4 + 2 * volume.layout.imap + (n - (volume.layout.first - 1)) / 4096 ≡ 2 * (2 + volume.layout.imap) + (n + 1 - volume.layout.first) / 4096 = omega arith in
    let place : (n - (volume.layout.first - 1)) % 4096 ≡ (n + 1 - volume.layout.first) % 4096 = omega arith in
    ap₂ bit (ap (sector_of volume image) sector) place

inode_marks : (volume : Volume) (image : Image) (n : ℕ) → marked volume image (inode_bitmap volume.layout) n ≡ (parts_of volume image).has_inode n
unfolding marked parts_of
inode_marks volume image n =
    let sector : 4 + (n - 0) / 4096 ≡ 4 + n / 4096 = omega arith in
    let place : (n - 0) % 4096 ≡ n % 4096 = omega arith in
    ap₂ bit (ap (sector_of volume image) sector) place

free_zone : (volume : Volume) (image : Image) (avoid : List ℕ) (n : ℕ) → 1 ≤ volume.layout.first → is_free_on volume image (zone_bitmap volume.layout) avoid n ≡ is_free (parts_of volume image).has_zone avoid n
unfolding is_free_on
free_zone volume image avoid n some = ap (λ (mark : Bool). not mark && not (has_number avoid n)) (zone_marks volume image n some)

free_inode : (volume : Volume) (image : Image) (avoid : List ℕ) (n : ℕ) → is_free_on volume image (inode_bitmap volume.layout) avoid n ≡ is_free (parts_of volume image).has_inode avoid n
unfolding is_free_on
free_inode volume image avoid n = ap (λ (mark : Bool). not mark && not (has_number avoid n)) (inode_marks volume image n)

-- ---- what was found

-- what holds of numbers and of a range holds of what is taken of both
range_all : (P : ℕ → Type 0) (a n : ℕ) → ((m : ℕ) → a ≤ m → m < a + n → P m) → All P (range_with_len a n)
range_all P a n each k d within =
    let long = length-range_with_len a n in
    let inside : k < n = omega (arith, within, long) in
    subst P (sym (get_or-range_with_len a n k d inside)) (each (a + k) (omega arith) (omega arith))

pub all_taken : (P : ℕ → Type 0) (p : ℕ → Bool) (old new : List ℕ) (a n need : ℕ) → All P old → ((m : ℕ) → a ≤ m → m < a + n → P m)
    → new ≡ take need (old ++ free_from p a n) → All P new
all_taken P p old new a n need all each is =
    subst (All P) (sym is) (All-take P need (old ++ free_from p a n) (All-append P old (free_from p a n) all (All-filter p P (range_with_len a n) (range_all P a n each))))

-- the numbers of a bitmap that were taken, where all are looked at or there are enough
abbrev pub Taken : Volume → Image → Bitmap → List ℕ → ℕ → ℕ → List ℕ → Type 0
Taken volume image bitmap avoid need at found =
    found ≡ take need (free_from (is_free_on volume image bitmap avoid) (bitmap.origin + 1) (at - (bitmap.origin + 1)))

module _ (volume : Volume) (image : Image) (bitmap : Bitmap) (avoid : List ℕ) (is : bitmap ≡ zone_bitmap volume.layout) (some : bitmap.origin + 1 ≡ volume.layout.first) where
  bitmap_zones : free_from (is_free_on volume image bitmap avoid) (bitmap.origin + 1) (bitmap.end - (bitmap.origin + 1)) ≡ free_zones volume.layout (parts_of volume image) avoid
  unfolding free_zones
  bitmap_zones =
      let ends : Bitmap → ℕ = λ b. b.end in
      let count : bitmap.end - (bitmap.origin + 1) ≡ volume.layout.zones - volume.layout.first = omega (arith, ap ends is, some) in
      ap₂ (free_from (is_free_on volume image bitmap avoid)) some count
      ∙ same_free (is_free_on volume image bitmap avoid) (is_free (parts_of volume image).has_zone avoid) volume.layout.first (volume.layout.zones - volume.layout.first)
      (λ m low high. ap (λ (b : Bitmap). is_free_on volume image b avoid m) is ∙ free_zone volume image avoid m (omega (arith, some)))

  all_zones : (need at : ℕ) (found : List ℕ) → bitmap.origin + 1 ≤ at → at ≤ bitmap.end → Taken volume image bitmap avoid need at found
      → (at < bitmap.end → need ≤ length found) → found ≡ take need (free_zones volume.layout (parts_of volume image) avoid)
  all_zones need at found from order taken enough = ⊎_elim
      (λ left. took_so_many (is_free_on volume image bitmap avoid) need (bitmap.origin + 1) at bitmap.end [] found from taken order (enough left) ∙ ap (take need) bitmap_zones)
      (λ behind.
      let ended : at ≡ bitmap.end = omega arith in
      taken ∙ ap (λ (e : ℕ). take need (free_from (is_free_on volume image bitmap avoid) (bitmap.origin + 1) (e - (bitmap.origin + 1)))) ended ∙ ap (take need) bitmap_zones)
      (cases_lt at bitmap.end)

-- enough zones
gives_enough : (super : Super) (parts : Parts) (avoid found : List ℕ) (need : ℕ) → found ≡ take need (free_zones super parts avoid) → need ≤ length found
    → lowest_zones super parts avoid need ≡ Ok found
unfolding lowest_zones
gives_enough super parts avoid found need is long =
    let free : List ℕ = free_zones super parts avoid in
    let length_is : length (take need free) ≡ min need (length free) = length-take need free in
    let fits : need ≤ length free = omega (arith, ap length is, length_is, long) in
    let test : nat_le need (length free) ≡ true = grind (arith, nat_tests) in
    let O : List ℕ → Result (List ℕ) Shortage = λ xs. Ok xs in
    ap (λ (b : Bool). enough b need free) test ∙ ap O (sym is)

-- too few
gives_short : (super : Super) (parts : Parts) (avoid found : List ℕ) (need short : ℕ) → found ≡ take need (free_zones super parts avoid) → length found < need
    → short ≡ length found → lowest_zones super parts avoid need ≡ Err (record { need = need; found = short })
unfolding lowest_zones
gives_short super parts avoid found need short is few same =
    let free : List ℕ = free_zones super parts avoid in
    let all : found ≡ free = took_all need free found is few in
    let long : length found ≡ length free = ap length all in
    let test : nat_le need (length free) ≡ false = grind (arith, nat_tests) in
    let number : length free ≡ short = omega arith in
    let E : ℕ → Result (List ℕ) Shortage = λ n. Err (record { need = need; found = n }) in
    ap (λ (b : Bool). enough b need free) test ∙ ap E number

module _ (past : Option Past) (volume : Volume) (bitmap : Bitmap) (avoid found : List ℕ) (need at : ℕ)
    (is : bitmap ≡ zone_bitmap volume.layout) (some : bitmap.origin + 1 ≡ volume.layout.first)
    (from : bitmap.origin + 1 ≤ at) (order : at ≤ bitmap.end)
    (taken : Told past (λ now. Taken volume now bitmap avoid need at found)) where
  pub zones_found : need ≤ length found → Told past (λ now. lowest_zones volume.layout (parts_of volume now) avoid need ≡ Ok found)
  zones_found long =
      told_map past (λ now. Taken volume now bitmap avoid need at found) (λ now. lowest_zones volume.layout (parts_of volume now) avoid need ≡ Ok found)
      (λ now took. gives_enough volume.layout (parts_of volume now) avoid found need (all_zones volume now bitmap avoid is some need at found from order took (λ left. long)) long)
      taken

  pub zones_short : (short : ℕ) → length found < need → (at < bitmap.end → need ≤ length found) → short ≡ length found
      → Told past (λ now. lowest_zones volume.layout (parts_of volume now) avoid need ≡ Err (record { need = need; found = short }))
  zones_short short few looked same =
      told_map past (λ now. Taken volume now bitmap avoid need at found) (λ now. lowest_zones volume.layout (parts_of volume now) avoid need ≡ Err (record { need = need; found = short }))
      (λ now took. gives_short volume.layout (parts_of volume now) avoid found need short (all_zones volume now bitmap avoid is some need at found from order took looked) few same)
      taken

  -- a sector more
  pub zones_more : (next : List ℕ) (behind : ℕ) → at ≤ behind → Told past (λ now. next ≡ take need (found ++ free_from (is_free_on volume now bitmap avoid) at (behind - at)))
      → Told past (λ now. Taken volume now bitmap avoid need behind next)
  zones_more next behind later then =
      told_both past (λ now. Taken volume now bitmap avoid need at found) (λ now. next ≡ take need (found ++ free_from (is_free_on volume now bitmap avoid) at (behind - at))) (λ now. Taken volume now bitmap avoid need behind next)
      (λ now took more.
      let test : ℕ → Bool = is_free_on volume now bitmap avoid in
      took_more need (free_from test (bitmap.origin + 1) (at - (bitmap.origin + 1))) found took (free_from test at (behind - at)) next more
      ∙ ap (take need) (sym (free_split test (bitmap.origin + 1) (at - (bitmap.origin + 1)) (behind - at) (behind - (bitmap.origin + 1)) at (omega (arith, from, later)) (omega (arith, from)))))
      taken then

-- ---- the lowest inode

inode_is : (volume : Volume) (image : Image) (bitmap : Bitmap) (avoid : List ℕ) (found : Option ℕ) → bitmap ≡ inode_bitmap volume.layout
    → IsLowest (is_free_on volume image bitmap avoid) 1 bitmap.end found → found ≡ lowest_inode volume.layout (parts_of volume image) avoid
unfolding lowest_inode
inode_is volume image bitmap avoid found is lowest =
    let ends : Bitmap → ℕ = λ b. b.end in
    let test : ℕ → Bool = is_free (parts_of volume image).has_inode avoid in
    let same : IsLowest test 1 bitmap.end found =
    same_lowest (is_free_on volume image bitmap avoid) test 1 bitmap.end found (λ m low high. ap (λ (b : Bitmap). is_free_on volume image b avoid m) is ∙ free_inode volume image avoid m) lowest in
    sym (find_lowest test 1 volume.layout.inodes bitmap.end found (omega (arith, ap ends is)) same)

lowest_behind : (p : ℕ → Bool) (at end last : ℕ) (found : Option ℕ) → is_some found ≡ true → 1 ≤ at → end ≤ last → ((m : ℕ) → 1 ≤ m → m < at → p m ≡ false)
    → IsLowest p at end found → IsLowest p 1 last found
lowest_behind p at end last None some from order none lowest = cc
lowest_behind p at end last (Some n) some from order none lowest = record {
  from_on = omega (arith, lowest.from_on, from);
  below = omega (arith, lowest.below, order);
  passes = lowest.passes;
  none_before = λ m low high. ⊎_elim (λ before. none m low before) (λ on. lowest.none_before m on high) (cases_lt m at);
}

module _ (past : Option Past) (volume : Volume) (bitmap : Bitmap) (avoid : List ℕ) (at : ℕ) (is : bitmap ≡ inode_bitmap volume.layout)
    (none : Told past (λ now. (m : ℕ) → 1 ≤ m → m < at → is_free_on volume now bitmap avoid m ≡ false)) where
  pub inode_found : (found : Option ℕ) (end : ℕ) → is_some found ≡ true → 1 ≤ at → end ≤ bitmap.end
      → Told past (λ now. IsLowest (is_free_on volume now bitmap avoid) at end found)
      → Told past (λ now. found ≡ lowest_inode volume.layout (parts_of volume now) avoid)
  inode_found found end some from order lowest =
      told_both past (λ now. (m : ℕ) → 1 ≤ m → m < at → is_free_on volume now bitmap avoid m ≡ false) (λ now. IsLowest (is_free_on volume now bitmap avoid) at end found) (λ now. found ≡ lowest_inode volume.layout (parts_of volume now) avoid)
      (λ now before low. inode_is volume now bitmap avoid found is (lowest_behind (is_free_on volume now bitmap avoid) at end bitmap.end found some from order before low))
      none lowest

  pub no_inode : bitmap.end ≤ at → Told past (λ now. None ≡ lowest_inode volume.layout (parts_of volume now) avoid)
  no_inode ended =
      told_map past (λ now. (m : ℕ) → 1 ≤ m → m < at → is_free_on volume now bitmap avoid m ≡ false) (λ now. None ≡ lowest_inode volume.layout (parts_of volume now) avoid)
      (λ now before. inode_is volume now bitmap avoid None is (λ m low high. before m low (omega (arith, high, ended))))
      none

  pub none_more : (found : Option ℕ) (end : ℕ) → is_some found ≡ false
      → Told past (λ now. IsLowest (is_free_on volume now bitmap avoid) at end found)
      → Told past (λ now. (m : ℕ) → 1 ≤ m → m < end → is_free_on volume now bitmap avoid m ≡ false)
  none_more None end some lowest =
      told_both past (λ now. (m : ℕ) → 1 ≤ m → m < at → is_free_on volume now bitmap avoid m ≡ false) (λ now. IsLowest (is_free_on volume now bitmap avoid) at end None) (λ now. (m : ℕ) → 1 ≤ m → m < end → is_free_on volume now bitmap avoid m ≡ false)
      (λ now before low m from below. ⊎_elim (λ early. before m from early) (λ on. low m on below) (cases_lt m at))
      none lowest
  none_more (Some n) end some lowest = cc

-- ---- refusals

pub not_short : (super : Super) (parts : Parts) (avoid : List ℕ) (need before after : ℕ) (fault : BitFault) → HasSectorCause before after fault → Gives (Err fault) (lowest_zones super parts avoid need)
not_short super parts avoid need before after (faults.NoSpace n f) cause = absurd cause
not_short super parts avoid need before after faults.Device cause = tt
not_short super parts avoid need before after faults.Memory cause = tt

pub not_short_told : (past : Option Past) (volume : Volume) (avoid : List ℕ) (need before after : ℕ) (fault : BitFault) → HasSectorCause before after fault
    → Told past (λ now. Gives (Err fault) (lowest_zones volume.layout (parts_of volume now) avoid need))
not_short_told past volume avoid need before after fault cause =
    told_all past (λ now. Gives (Err fault) (lowest_zones volume.layout (parts_of volume now) avoid need)) (λ now. not_short volume.layout (parts_of volume now) avoid need before after fault cause)

pub cause_by : (need first before after : ℕ) (fault : BitFault) → first ≤ before → 0 < need
    → HasSectorCause before after fault → HasBitCause need first after fault
cause_by need first before after (faults.NoSpace n f) later some cause = absurd cause
cause_by need first before after faults.Device later some cause = λ room. let rose : before < after = cause room in omega arith
cause_by need first before after faults.Memory later some cause = some

-- the numbers of a sector are below the bitmap's end
pub end_within : (bitmap : Bitmap) (at : ℕ) → at < bitmap.end → end_of bitmap at ≤ bitmap.end
end_within bitmap at below = omega arith
