-- The tables of a chain.
use Rattle.std.proofs.Common.{◌≡◌, ◌<◌, ◌≤◌, ℕ, zero, suc, ◌+◌, ◌-◌, List, [], ◌∷◌, ◌++◌, Bool, true, false, refl, sym, ap, ◌∙◌, arith}
use Rattle.std.specs.Prelude.{All, Option, Some, None, nat_eq}
use Rattle.std.specs.List.{list_any}
use Rattle.std.proofs.lemmas.Bool.{ne_eqb}
use Rattle.std.proofs.lemmas.List.Elements.{All-same, All-push, All-weaker}
use Rattle.std.proofs.lemmas.List.Folds.{list_any_none}
use Rattle.disk_trait.specs.Past.{Image, Past, now_of, Told}
use Rattle.lilo_model.specs.Partitions.{linked_sector, chain_from}

-- one table of those that are left
pub chain_from-step :
    (linked : ℕ → Option ℕ) (most tables sector : ℕ) → tables < most
    → chain_from linked (most - tables) (Some sector) ≡ sector ∷ chain_from linked (most - (tables + 1)) (linked sector)
chain_from-step linked most tables sector left =
    let one : most - tables ≡ suc (most - (tables + 1)) = omega arith in rw one refl

-- after a table with no link there is none
pub chain_from-none : (linked : ℕ → Option ℕ) (most : ℕ) → chain_from linked most None ≡ []
chain_from-none linked zero = refl
chain_from-none linked (suc most) = refl

-- a sector is that of the table at hand
pub among_here :
    (linked : ℕ → Option ℕ) (most tables at sector : ℕ) → tables < most → at ≡ sector
    → list_any (nat_eq sector) (chain_from linked (most - tables) (Some at)) ≡ true
among_here linked most tables at sector left same =
    let equal : nat_eq sector at ≡ true = grind arith in
    rw (chain_from-step linked most tables at left, equal) refl

-- a sector isn't that of the table at hand
pub among_later :
    (linked : ℕ → Option ℕ) (most tables at sector : ℕ) (next : Option ℕ) → tables < most → (at ≡ sector → ⊥)
    → next ≡ linked at
    → list_any (nat_eq sector) (chain_from linked (most - tables) (Some at))
    ≡ list_any (nat_eq sector) (chain_from linked (most - (tables + 1)) next)
among_later linked most tables at sector next left differs is =
    let other : nat_eq sector at ≡ false = ne_eqb sector at (λ e. differs (sym e)) in
    rw (chain_from-step linked most tables at left, other, is) refl

-- the tables up to the next one
tail_of : (a : ℕ) (xs ys : List ℕ) → ◌≡◌ {A = List ℕ} (a ∷ xs) (a ∷ ys) → xs ≡ ys
tail_of a xs ys e = cc

chain_from-more :
    (linked : ℕ → Option ℕ) (tables : ℕ) (at : Option ℕ) (sector next : ℕ)
    → chain_from linked (suc tables) at ≡ chain_from linked tables at ++ (sector ∷ [])
    → Some next ≡ linked sector
    → chain_from linked (suc (suc tables)) at ≡ chain_from linked (suc tables) at ++ (next ∷ [])
chain_from-more linked zero None sector next last is = cc
chain_from-more linked zero (Some first) sector next last is =
    let same : linked first ≡ linked sector = ap linked (cc) in
    rw (same, ← is) refl
chain_from-more linked (suc tables) None sector next last is = cc
chain_from-more linked (suc tables) (Some first) sector next last is =
    let deeper = chain_from-more linked tables (linked first) sector next (tail_of first _ _ last) is in
    ap (λ later. first ∷ later) deeper

pub chain_from-next :
    (linked : ℕ → Option ℕ) (tables : ℕ) (at : Option ℕ) (sector next : ℕ)
    → chain_from linked (tables + 1) at ≡ chain_from linked tables at ++ (sector ∷ [])
    → Some next ≡ linked sector
    → chain_from linked (tables + 1 + 1) at ≡ chain_from linked (tables + 1) at ++ (next ∷ [])
chain_from-next linked tables at sector next last is =
    let one : suc tables ≡ tables + 1 = omega arith in
    let two : tables + 1 + 1 ≡ suc (suc tables) = omega arith in
    ap (λ n. chain_from linked n at) two
    ∙ chain_from-more linked tables at sector next (ap (λ n. chain_from linked n at) one ∙ last) is
    ∙ ap (λ n. chain_from linked n at ++ (next ∷ [])) one

-- ---- the same of what disks hold, where they report it

-- whether a sector is among some tables
abbrev pub is_in : Image → ℕ → ℕ → ℕ → ℕ → ℕ → Option ℕ → Bool
is_in now disk size outer sector most at = list_any (nat_eq sector) (chain_from (linked_sector (now disk) size outer) most at)

pub told_here :
    (past : Option Past) (disk size outer tables counter at sector : ℕ) → counter < tables → at ≡ sector
    → Told past (λ now. is_in now disk size outer sector tables (Some outer) ≡ is_in now disk size outer sector (tables - counter) (Some at))
    → Told past (λ now. true ≡ is_in now disk size outer sector tables (Some outer))
told_here None disk size outer tables counter at sector left same so_far = tt
told_here (Some past) disk size outer tables counter at sector left same so_far =
    sym (so_far ∙ among_here (linked_sector (now_of past disk) size outer) tables counter at sector left same)

pub told_later :
    (past : Option Past) (disk size outer tables counter at sector : ℕ) (next after : Option ℕ) → counter < tables
    → (at ≡ sector → ⊥) → next ≡ after
    → Told past (λ now. is_in now disk size outer sector tables (Some outer) ≡ is_in now disk size outer sector (tables - counter) (Some at))
    → Told past (λ now. next ≡ linked_sector (now disk) size outer at)
    → Told past (λ now. is_in now disk size outer sector tables (Some outer) ≡ is_in now disk size outer sector (tables - (counter + 1)) after)
told_later None disk size outer tables counter at sector next after left differs same so_far is = tt
told_later (Some past) disk size outer tables counter at sector next after left differs same so_far is =
    so_far ∙ among_later (linked_sector (now_of past disk) size outer) tables counter at sector after left differs (sym same ∙ is)

pub told_nowhere :
    (past : Option Past) (disk size outer tables most sector : ℕ)
    → Told past (λ now. is_in now disk size outer sector tables (Some outer) ≡ is_in now disk size outer sector most None)
    → Told past (λ now. false ≡ is_in now disk size outer sector tables (Some outer))
told_nowhere None disk size outer tables most sector so_far = tt
told_nowhere (Some past) disk size outer tables most sector so_far =
    sym (so_far ∙ ap (list_any (nat_eq sector)) (chain_from-none (linked_sector (now_of past disk) size outer) most))

-- a sector above all those of some tables isn't one of them
above_none : (highest sector : ℕ) (tables : List ℕ) → All (λ earlier. earlier ≤ highest) tables → highest < sector → list_any (nat_eq sector) tables ≡ false
above_none highest sector tables below above =
    list_any_none (nat_eq sector) tables
    (All-weaker (λ earlier. earlier ≤ highest) (λ earlier. nat_eq sector earlier ≡ false)
    (λ earlier small. ne_eqb sector earlier (λ same. omega arith)) tables below)

pub told_above :
    (past : Option Past) (disk size outer tables highest sector : ℕ) → highest < sector
    → Told past (λ now. All (λ earlier. earlier ≤ highest) (chain_from (linked_sector (now disk) size outer) tables (Some outer)))
    → Told past (λ now. false ≡ is_in now disk size outer sector tables (Some outer))
told_above None disk size outer tables highest sector above below = tt
told_above (Some past) disk size outer tables highest sector above below = sym (above_none highest sector _ below above)

-- the highest of one more table
pub told_highest :
    (past : Option Past) (disk size outer tables highest sector after : ℕ) → highest ≤ after → sector ≤ after
    → Told past (λ now. All (λ earlier. earlier ≤ highest) (chain_from (linked_sector (now disk) size outer) tables (Some outer)))
    → Told past (λ now. chain_from (linked_sector (now disk) size outer) (tables + 1) (Some outer) ≡ chain_from (linked_sector (now disk) size outer) tables (Some outer) ++ (sector ∷ []))
    → Told past (λ now. All (λ earlier. earlier ≤ after) (chain_from (linked_sector (now disk) size outer) (tables + 1) (Some outer)))
told_highest None disk size outer tables highest sector after over here below earlier = tt
told_highest (Some past) disk size outer tables highest sector after over here below earlier =
    All-same (λ (s : ℕ). s ≤ after) _ _ earlier
    (All-push (λ (s : ℕ). s ≤ after) _ sector
    (All-weaker (λ (s : ℕ). s ≤ highest) (λ (s : ℕ). s ≤ after) (λ s small. omega arith) _ below) here)
