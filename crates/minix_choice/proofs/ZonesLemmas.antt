-- The free zones for a file and for the growth of its directory.
use Rattle.std.proofs.Common.{◌≡◌, ◌≤◌, ◌+◌, ◌/◌, ℕ, Bool, true, false, if◌then◌else◌, nat_le, List, length, take, Option, None, Some, Result, Ok, Err, refl, sym, ap, ◌∙◌, subst, arith}
use Rattle.std.proofs.lemmas.List.FromFn.{length-map-range_with_len}
use Rattle.disk_trait.specs.Past.{Past, Told, now_of}
use Rattle.lilo_model.specs.Checks.{◌>>=◌, with_fault}
use Rattle.lilo_model.specs.MinixLayout.{Kind, Super, Inode}
use Rattle.lilo_model.specs.MinixParts as volumes
use Rattle.lilo_model.specs.MinixParts.{Parts, Volume, parts_of}
use Rattle.lilo_model.specs.MinixEntries.{entries_per_block}
use Rattle.minix_steps.specs.Find as bits
use Rattle.minix_steps.specs.Free.{Shortage, enough, free_zones, lowest_zones}
use Rattle.minix_steps.specs.Numbers.{has_number}
use Rattle.minix_steps.specs.declared.bit_fault.BitFault.{BitFault}
use Rattle.minix_steps.specs.declared.bit_fault.BitFault.TheVariants as bitfaults
use Rattle.minix_zones.specs.View as zones
use Rattle.minix_zones.specs.declared.zone_fault.ZoneFault as faults
use Rattle.minix_zones.specs.declared.zone_fault.ZoneFault.TheVariants as variants
use Rattle.write_model.specs.Wish.{Taken, Promise, Refusal, NoSpace}
use Rattle.write_model.specs.Growth.{missing_on_way, promised_zone, promised_zones, count_fresh}
use Rattle.write_model.specs.Choice.{in_zone, first_zones, left_zones}
use Rattle.minix_choice.specs.Chosen.{zones_for, zones_with}
use Rattle.minix_choice.specs.View.{Promised, taken_view, zone_refusal, bit_refusal, Refuses}

-- ---- zones

abbrev of_shortage : Shortage → Refusal
of_shortage short = NoSpace short.need short.found

enough_is : (test : Bool) (need : ℕ) (free : List ℕ)
    → (if test then Ok (take need free) else Err (NoSpace need (length free))) ≡ with_fault of_shortage (enough test need free)
enough_is true need free = refl
enough_is false need free = refl

-- the lowest zones are the first that are left
zones_same : (super : Super) (parts : Parts) (numbers : List ℕ) (need : ℕ)
    → first_zones need (left_zones super parts (has_number numbers)) ≡ with_fault of_shortage (lowest_zones super parts numbers need)
unfolding lowest_zones free_zones left_zones
zones_same super parts numbers need =
    enough_is (nat_le need (length (left_zones super parts (has_number numbers)))) need (left_zones super parts (has_number numbers))

-- ---- refusals

zone_next : {A B : Type 0} (fault : faults.ZoneFault) (found : Result A volumes.ZoneFault) (next : A → Result B Refusal)
    → zones.Refuses fault found → Refuses (zone_refusal fault) (in_zone found >>= next)
zone_next (variants.Layout fault) found next refused = rw refused refl
zone_next (variants.ZoneOutside zone) found next refused = rw refused refl
zone_next variants.Device found next refused = tt

bits_next : {B : Type 0} (fault : BitFault) (found : Result (List ℕ) Shortage) (next : List ℕ → Result B Refusal)
    → bits.Gives (Err fault) found → Refuses (bit_refusal fault) (with_fault of_shortage found >>= next)
bits_next (bitfaults.NoSpace need short) found next refused = rw refused refl
bits_next bitfaults.Device found next refused = tt
bits_next bitfaults.Memory found next refused = tt

-- ---- how many are missing

pub few_promised : (kind : Kind) (promises : List Promise) (directory block missing : ℕ) (zones : List (Option ℕ))
    → zones ≡ promised_zones kind promises directory block missing → missing ≤ 4 → length zones ≤ 4
few_promised kind promises directory block missing zones is few =
    let L : List (Option ℕ) → ℕ = λ l. length l in
    omega (arith, ap L is, length-map-range_with_len (promised_zone kind promises directory block) 0 missing, few)

-- the block of a place
pub place_block : (kind : Kind) (place per size : ℕ) → per ≡ entries_per_block kind → size ≡ per → place / size ≡ place / entries_per_block kind
place_block kind place per size is is' = rw (is', is) refl

pub total_is : (need fresh counted : ℕ) → fresh ≡ counted → need + fresh ≡ need + counted
total_is need fresh counted is = rw is refl

way_bad_by : (super : Super) (parts : Parts) (taken : Taken) (directory need place block : ℕ) (node : Inode) (fault : faults.ZoneFault)
    → block ≡ place / entries_per_block super.kind → node ≡ parts.node directory
    → zones.Refuses fault (missing_on_way super parts node block)
    → Refuses (zone_refusal fault) (zones_for super parts taken directory need place)
unfolding zones_for
way_bad_by super parts taken directory need place block node fault at is refused =
    let R : Inode → Type 0 = λ n. zones.Refuses fault (missing_on_way super parts n block) in
    let Q : ℕ → Type 0 = λ b. zones.Refuses fault (missing_on_way super parts (parts.node directory) b) in
    zone_next fault (missing_on_way super parts (parts.node directory) (place / entries_per_block super.kind)) _ (subst Q at (subst R is refused))

-- the way to the place's block can't be read
pub way_bad : (past : Option Past) (volume : Volume) (taken : Taken) (directory need place block : ℕ) (node : Inode) (fault : faults.ZoneFault)
    → block ≡ place / entries_per_block volume.layout.kind
    → Told past (λ now. node ≡ (parts_of volume now).node directory)
    → Told past (λ now. zones.Refuses fault (missing_on_way volume.layout (parts_of volume now) node block))
    → Told past (λ now. Refuses (zone_refusal fault) (zones_for volume.layout (parts_of volume now) taken directory need place))
way_bad None volume taken directory need place block node fault at is refused = tt
way_bad (Some past) volume taken directory need place block node fault at is refused =
    way_bad_by volume.layout (parts_of volume (now_of past)) taken directory need place block node fault at is refused

-- what is known before zones are searched
pub record Grows (super : Super) (parts : Parts) (promises : List Promise) (directory place : ℕ) (promised : List (Option ℕ)) : Type 0 where
  pub missing : ℕ
  pub way : missing_on_way super parts (parts.node directory) (place / entries_per_block super.kind) ≡ Ok missing
  pub zones : promised ≡ promised_zones super.kind promises directory (place / entries_per_block super.kind) missing

grows_by : (super : Super) (parts : Parts) (promises : List Promise) (directory place block missing : ℕ) (node : Inode) (promised : List (Option ℕ))
    → block ≡ place / entries_per_block super.kind → node ≡ parts.node directory
    → missing_on_way super parts node block ≡ Ok missing → promised ≡ promised_zones super.kind promises directory block missing
    → Grows super parts promises directory place promised
grows_by super parts promises directory place block missing node promised at is way zones =
    let M : Inode → Result ℕ volumes.ZoneFault = λ n. missing_on_way super parts n block in
    let N : ℕ → Result ℕ volumes.ZoneFault = λ b. missing_on_way super parts (parts.node directory) b in
    let P : ℕ → List (Option ℕ) = λ b. promised_zones super.kind promises directory b missing in
    record { missing = missing; way = sym (ap N at) ∙ sym (ap M is) ∙ way; zones = zones ∙ ap P at }

pub grows : (past : Option Past) (volume : Volume) (promises : List Promise) (directory place block missing : ℕ) (node : Inode) (promised : List (Option ℕ))
    → block ≡ place / entries_per_block volume.layout.kind
    → Told past (λ now. node ≡ (parts_of volume now).node directory)
    → Told past (λ now. missing_on_way volume.layout (parts_of volume now) node block ≡ Ok missing)
    → promised ≡ promised_zones volume.layout.kind promises directory block missing
    → Told past (λ now. Grows volume.layout (parts_of volume now) promises directory place promised)
grows None volume promises directory place block missing node promised at is way zones = tt
grows (Some past) volume promises directory place block missing node promised at is way zones =
    grows_by volume.layout (parts_of volume (now_of past)) promises directory place block missing node promised at is way zones

zones_for_is : (super : Super) (parts : Parts) (taken : Promised) (directory need place : ℕ) (promised : List (Option ℕ))
    → Grows super parts taken.promises directory place promised
    → zones_for super parts (taken_view taken) directory need place
    ≡ (with_fault of_shortage (lowest_zones super parts taken.zones.numbers (need + count_fresh promised)) >>= λ zones. Ok (zones_with promised zones))
unfolding zones_for
zones_for_is super parts taken directory need place promised known =
    rw (known.way, sym known.zones, zones_same super parts taken.zones.numbers (need + count_fresh promised)) refl

-- too few zones are free
pub zones_bad : (past : Option Past) (volume : Volume) (taken : Promised) (directory need place total : ℕ) (promised : List (Option ℕ)) (fault : BitFault)
    → total ≡ need + count_fresh promised
    → Told past (λ now. Grows volume.layout (parts_of volume now) taken.promises directory place promised)
    → Told past (λ now. bits.Gives (Err fault) (lowest_zones volume.layout (parts_of volume now) taken.zones.numbers total))
    → Told past (λ now. Refuses (bit_refusal fault) (zones_for volume.layout (parts_of volume now) (taken_view taken) directory need place))
zones_bad None volume taken directory need place total promised fault sum known refused = tt
zones_bad (Some past) volume taken directory need place total promised fault sum known refused =
    let B : ℕ → Type 0 = λ n. bits.Gives (Err fault) (lowest_zones volume.layout (parts_of volume (now_of past)) taken.zones.numbers n) in
    rw (zones_for_is volume.layout (parts_of volume (now_of past)) taken directory need place promised known)
    (bits_next fault (lowest_zones volume.layout (parts_of volume (now_of past)) taken.zones.numbers (need + count_fresh promised)) _ (subst B sum refused))

-- the zones are found
pub zones_are : (past : Option Past) (volume : Volume) (taken : Promised) (directory need place total : ℕ) (promised : List (Option ℕ)) (found : List ℕ)
    → total ≡ need + count_fresh promised
    → Told past (λ now. Grows volume.layout (parts_of volume now) taken.promises directory place promised)
    → Told past (λ now. lowest_zones volume.layout (parts_of volume now) taken.zones.numbers total ≡ Ok found)
    → Told past (λ now. zones_for volume.layout (parts_of volume now) (taken_view taken) directory need place ≡ Ok (zones_with promised found))
zones_are None volume taken directory need place total promised found sum known are = tt
zones_are (Some past) volume taken directory need place total promised found sum known are =
    let L : ℕ → Result (List ℕ) Shortage = λ n. lowest_zones volume.layout (parts_of volume (now_of past)) taken.zones.numbers n in
    zones_for_is volume.layout (parts_of volume (now_of past)) taken directory need place promised known
    ∙ rw (sym (ap L sum) ∙ are) refl
