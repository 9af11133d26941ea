-- There are sound parts on which a directory may grow in each way.
use Rattle.std.proofs.Common.{◌≡◌, ◌≢◌, ℕ, zero, suc, ◌*◌, ◌<◌, ◌≤◌, ◌^◌, ◌-◌, ◌==◌, Bool, true, false, not, List, [], ◌∷◌, length, replicate, get_or, refl, sym, ◌∙◌, ap, subst, arith}
use Rattle.std.proofs.lemmas.Bool.{eqb-true, ne_eqb}
use Rattle.lilo_model.specs.Bytes.{number16}
use Rattle.lilo_model.specs.MinixLayout.{Kind, V1Short, V1Long, V2Short, V2Long, numbers_in_zone, number_size, entry_size}
use Rattle.lilo_model.specs.MinixParts.{Parts, Pointer, IsPointer, number_in, follow, pointer_by}
use Rattle.lilo_model.specs.MinixEntries.{entry_of}
use Rattle.lilo_model.specs.MinixNames.{pointer, zone_number, block, entry, reached, Named, Refers, Sound}
use Rattle.minix_laws.specs.RootVolume.{root_inode}
use Rattle.minix_laws.proofs.BareRoot.{BareRoot, bare-sound}
use Rattle.minix_laws.proofs.RootBytes.{read, bare_read, read_bare}
use Rattle.minix_change_laws.specs.Keeps.{Keeps}
use Rattle.minix_change_laws.proofs.Keeps.{keeps_law, refers-old}
use Rattle.minix_change_laws.specs.Sees.{IsFresh, Sees}
use Rattle.minix_change_laws.proofs.Sees.{named-new, sees_law}
use Rattle.minix_change_laws.specs.Grows.{pointer_at, below, HoldsOnly}
use Rattle.minix_change_laws.specs.Changes.{MaySize, MayHook}
use Rattle.minix_change_laws.proofs.Zeros.{number-zeros}
use Rattle.minix_change_laws.proofs.Changes.{top_law}
use Rattle.minix_change_laws.specs.Part.{IsPast}
use Rattle.minix_change_laws.specs.PartSample.{sample_layout, number_zone, parts_with, sample_parts, deeper, grown_with, grown_parts}
use Rattle.minix_change_laws.specs.ZoneBytesLaws.{GrowthSampleLaw}
use Rattle.minix_change_laws.proofs.Numbers.{number_bytes_law}
use Rattle.minix_laws.proofs.Inside.{some_numbers}

-- the bitmap bit of the zone in use alone
abbrev used : ℕ → Bool
used zone = zone == 5

root-read : (kind : Kind) → read (sample_layout kind) (parts_with kind used) 5 ≡ bare_read 5
unfolding zone_number block entry entry_of number16 follow pointer_by
root-read V1Short = refl
root-read V1Long = refl
root-read V2Short = refl
root-read V2Long = refl

root : (kind : Kind) → BareRoot (sample_layout kind) (parts_with kind used) 5 2
root kind = read_bare (sample_layout kind) (parts_with kind used) 5 (root-read kind) (omega arith) (omega arith) (omega arith)

first-sound : (kind : Kind) → Sound (sample_layout kind) (parts_with kind used)
first-sound kind = bare-sound (sample_layout kind) (parts_with kind used) 5 2 (root kind)

module _ (kind : Kind) (marks : ℕ → Bool) (five : marks 5 ≡ true) where
  keeps : Keeps (sample_layout kind) (parts_with kind used) (parts_with kind marks)
  keeps = record {
    nodes = λ number named. refl;
    marks = λ number named. refl;
    zones = λ number at zone refers. refl;
    zone_marks = λ number at zone refers.
        let marked : used zone ≡ true = (first-sound kind).zone_marked number at zone refers in
        let is : zone ≡ 5 = eqb-true zone 5 marked in
        ap marks is ∙ (five ∙ sym marked);
  }

  marked-sound : Sound (sample_layout kind) (parts_with kind marks)
  marked-sound = (keeps_law (sample_layout kind) (parts_with kind used) (parts_with kind marks) (first-sound kind) keeps).sound

  -- a zone but the one in use is unused
  unused : (zone : ℕ) → (zone == 5) ≡ false → (number : ℕ) (at : Pointer) → Refers (sample_layout kind) (parts_with kind marks) number at zone → ⊥
  unused zone other number at refers =
      let marked : used zone ≡ true = (first-sound kind).zone_marked number at zone (refers-old (sample_layout kind) (parts_with kind used) (parts_with kind marks) keeps number at zone refers) in
      let t = sym marked ∙ other in
      cc

  fresh : (zone : ℕ) → 5 ≤ zone → zone < 16 → (zone == 5) ≡ false → marks zone ≡ true → IsFresh (sample_layout kind) (parts_with kind marks) (parts_with kind marks) zone
  fresh zone low high other marked = record { range = (low, high); marked = marked; unused = unused zone other }

  root-named : Named (sample_layout kind) (parts_with kind marks) 1
  unfolding reached
  root-named = record { path = []; leads = refl }

abbrev all : ℕ → Bool
all zone = true

-- ---- pointers

abbrev firsts : ℕ → List ℕ
firsts count = replicate count 0

within-firsts : (kind : Kind) (count k d : ℕ) → k < length (firsts count) → get_or (firsts count) k d < numbers_in_zone kind
within-firsts kind zero k d low = absurd (omega (arith, low))
within-firsts kind (suc count) zero d low = some_numbers kind
within-firsts kind (suc count) (suc k) d low = within-firsts kind count k d (omega (arith, low))

is-pointer : (kind : Kind) (top count : ℕ) → top < 10 → length (firsts count) ≤ top - 6 → IsPointer kind (pointer_at top (replicate count 0))
is-pointer kind top count ten deep = record { ten = ten; deep = deep; within = within-firsts kind count }

-- ---- indirect zones

numbers-fit : (kind : Kind) (number : ℕ) → number < 16 → number < 256 ^ number_size kind
numbers-fit V1Short number low = omega (arith, low)
numbers-fit V1Long number low = omega (arith, low)
numbers-fit V2Short number low = omega (arith, low)
numbers-fit V2Long number low = omega (arith, low)

holds : (kind : Kind) (parts : Parts) (zone next : ℕ) → parts.zone zone ≡ number_zone kind next → next < 16 → HoldsOnly (sample_layout kind) parts zone (deeper next)
holds kind parts zone next is low =
    let has = number_bytes_law (sample_layout kind) (replicate 1024 0) 0 next refl (some_numbers kind) (numbers-fit kind next low) in
    record {
      here = ap (λ bytes. number_in kind bytes 0) is ∙ has.here;
      others = λ index inside apart. ap (λ bytes. number_in kind bytes index) is ∙ (has.others index inside apart ∙ number-zeros kind index);
    }

not-zero : (n : ℕ) → 0 < n → n ≢ 0
not-zero n low e = omega (arith, low, e)

-- ---- the ways

alone : (kind : Kind) → MayHook (sample_layout kind) (sample_parts kind) 1 (pointer_at 1 []) 6 []
unfolding follow
alone kind = record { named = root-named kind all refl; is = refl; place = is-pointer kind 1 0 (omega arith) (omega arith); hole = refl; some = not-zero 6 (omega arith); fresh = fresh kind all refl 6 (omega arith) (omega arith) refl refl; chain = refl }

one-with : (kind : Kind) (marks : ℕ → Bool) → marks 5 ≡ true → marks 9 ≡ true → marks 10 ≡ true → MayHook (sample_layout kind) (parts_with kind marks) 1 (pointer_at 7 []) 9 (deeper 10 ∷ [])
unfolding follow
one-with kind marks five nine ten = record {
  named = root-named kind marks five;
  is = refl;
  place = is-pointer kind 7 1 (omega arith) (omega arith);
  hole = refl;
  some = not-zero 9 (omega arith);
  fresh = fresh kind marks five 9 (omega arith) (omega arith) refl nine;
  chain = (holds kind (parts_with kind marks) 9 10 refl (omega arith), not-zero 10 (omega arith), fresh kind marks five 10 (omega arith) (omega arith) refl ten, (λ e. omega (arith, e), tt), refl);
}

one : (kind : Kind) → MayHook (sample_layout kind) (sample_parts kind) 1 (pointer_at 7 []) 9 (deeper 10 ∷ [])
one kind = one-with kind all refl refl refl

two : (kind : Kind) → MayHook (sample_layout kind) (sample_parts kind) 1 (pointer_at 8 []) 8 (deeper 9 ∷ (deeper 10 ∷ []))
unfolding follow
two kind = record {
  named = root-named kind all refl;
  is = refl;
  place = is-pointer kind 8 2 (omega arith) (omega arith);
  hole = refl;
  some = not-zero 8 (omega arith);
  fresh = fresh kind all refl 8 (omega arith) (omega arith) refl refl;
  chain = (holds kind (sample_parts kind) 8 9 refl (omega arith), not-zero 9 (omega arith), fresh kind all refl 9 (omega arith) (omega arith) refl refl, (λ e. omega (arith, e), (λ e. omega (arith, e), tt)), (one kind).chain);
}

three : (kind : Kind) → MayHook (sample_layout kind) (sample_parts kind) 1 (pointer_at 9 []) 7 (deeper 8 ∷ (deeper 9 ∷ (deeper 10 ∷ [])))
unfolding follow
three kind = record {
  named = root-named kind all refl;
  is = refl;
  place = is-pointer kind 9 3 (omega arith) (omega arith);
  hole = refl;
  some = not-zero 7 (omega arith);
  fresh = fresh kind all refl 7 (omega arith) (omega arith) refl refl;
  chain = (holds kind (sample_parts kind) 7 8 refl (omega arith), not-zero 8 (omega arith), fresh kind all refl 8 (omega arith) (omega arith) refl refl, (λ e. omega (arith, e), (λ e. omega (arith, e), (λ e. omega (arith, e), tt))), (two kind).chain);
}

-- the third entry is free
third : (kind : Kind) → (entry (sample_layout kind) (sample_parts kind) 1 2).inode ≡ 0
unfolding zone_number block entry entry_of number16 follow pointer_by
third V1Short = refl
third V1Long = refl
third V2Short = refl
third V2Long = refl

free-by : (kind : Kind) (place : ℕ) → 2 ≤ place → place < 3 → (entry (sample_layout kind) (sample_parts kind) 1 place).inode ≡ 0
free-by kind place from below = let is : 2 ≡ place = omega (arith, from, below) in subst (λ p. (entry (sample_layout kind) (sample_parts kind) 1 p).inode ≡ 0) is (third kind)

size : (kind : Kind) → MaySize (sample_layout kind) (sample_parts kind) 1 (3 * entry_size kind)
size V1Short = record { named = root-named V1Short all refl; is = refl; sized = refl; room = omega arith; reaches = λ low. omega arith; free = λ place from below. free-by V1Short place from below }
size V1Long = record { named = root-named V1Long all refl; is = refl; sized = refl; room = omega arith; reaches = λ low. omega arith; free = λ place from below. free-by V1Long place from below }
size V2Short = record { named = root-named V2Short all refl; is = refl; sized = refl; room = omega arith; reaches = λ low. omega arith; free = λ place from below. free-by V2Short place from below }
size V2Long = record { named = root-named V2Long all refl; is = refl; sized = refl; room = omega arith; reaches = λ low. omega arith; free = λ place from below. free-by V2Long place from below }

past : (kind : Kind) → IsPast (sample_layout kind) (sample_parts kind) 1 2
unfolding zone_number follow pointer_by
past V1Short = record { named = root-named V1Short all refl; is = refl; past = omega arith; some = λ e. omega (arith, e); reached = omega arith; near = omega arith }
past V1Long = record { named = root-named V1Long all refl; is = refl; past = omega arith; some = λ e. omega (arith, e); reached = omega arith; near = omega arith }
past V2Short = record { named = root-named V2Short all refl; is = refl; past = omega arith; some = λ e. omega (arith, e); reached = omega arith; near = omega arith }
past V2Long = record { named = root-named V2Long all refl; is = refl; past = omega arith; some = λ e. omega (arith, e); reached = omega arith; near = omega arith }

-- ---- once it has an indirect zone

node-other : (kind : Kind) (marks : ℕ → Bool) (other : ℕ) → other ≢ 1 → (grown_with kind marks).node other ≡ root_inode kind
node-other kind marks other apart = rw (ne_eqb other 1 apart) refl

same-size : (kind : Kind) (marks : ℕ → Bool) → marks 5 ≡ true → MaySize (sample_layout kind) (parts_with kind marks) 1 (2 * entry_size kind)
same-size kind marks five = record {
  named = root-named kind marks five;
  is = refl;
  sized = (marked-sound kind marks five).size 1 (root-named kind marks five);
  room = omega arith;
  reaches = λ low. low;
  free = λ place from below. absurd (omega (arith, from, below));
}

module _ (kind : Kind) (marks : ℕ → Bool) (five : marks 5 ≡ true) (nine : marks 9 ≡ true) (ten : marks 10 ≡ true) where
  grown : Sees (sample_layout kind) (parts_with kind marks) (grown_with kind marks)
  grown = top_law (sample_layout kind) (parts_with kind marks) (grown_with kind marks) 1 7 9 (2 * entry_size kind) (deeper 10 ∷ []) (marked-sound kind marks five) (one-with kind marks five nine ten) (same-size kind marks five) (omega arith) (record {
    here = refl;
    others = λ other is apart. node-other kind marks other apart;
    zones = λ zone is. refl;
    marks = λ other is. refl;
    zone_marks = λ zone is. refl;
  })

  grown-marked : Sound (sample_layout kind) (grown_with kind marks)
  grown-marked = (sees_law (sample_layout kind) (parts_with kind marks) (grown_with kind marks) (marked-sound kind marks five) grown).sound

-- all bitmap bits but one
abbrev but_six : ℕ → Bool
but_six zone = not (zone == 6)

grown-sound : (kind : Kind) → Sound (sample_layout kind) (grown_parts kind)
grown-sound kind = grown-marked kind all refl refl refl

six-sound : (kind : Kind) → Sound (sample_layout kind) (grown_with kind but_six)
six-sound kind = grown-marked kind but_six refl refl refl

six-keeps : (kind : Kind) → Keeps (sample_layout kind) (grown_with kind but_six) (grown_parts kind)
six-keeps kind = record {
  nodes = λ number named. refl;
  marks = λ number named. refl;
  zones = λ number at zone refers. refl;
  zone_marks = λ number at zone refers. sym ((six-sound kind).zone_marked number at zone refers);
}

six-unused : (kind : Kind) (number : ℕ) (at : Pointer) → Refers (sample_layout kind) (grown_parts kind) number at 6 → ⊥
six-unused kind number at refers =
    let marked : but_six 6 ≡ true = (six-sound kind).zone_marked number at 6 (refers-old (sample_layout kind) (grown_with kind but_six) (grown_parts kind) (six-keeps kind) number at 6 refers) in
    cc

within-one : (kind : Kind) (k d : ℕ) → k < 1 → get_or {A = ℕ} (1 ∷ []) k d < numbers_in_zone kind
within-one V1Short zero d low = omega arith
within-one V1Long zero d low = omega arith
within-one V2Short zero d low = omega arith
within-one V2Long zero d low = omega arith
within-one kind (suc k) d low = absurd (omega (arith, low))

one-inside : (kind : Kind) → 1 < numbers_in_zone kind
one-inside V1Short = omega arith
one-inside V1Long = omega arith
one-inside V2Short = omega arith
one-inside V2Long = omega arith

outer-is : (kind : Kind) → pointer (sample_layout kind) (grown_parts kind) 1 (pointer_at 7 []) ≡ 9
unfolding follow
outer-is kind = refl

number-hole : (kind : Kind) → pointer (sample_layout kind) (grown_parts kind) 1 (below (pointer_at 7 []) 1) ≡ 0
unfolding follow
number-hole kind = (holds kind (grown_parts kind) 9 10 refl (omega arith)).others 1 (one-inside kind) (λ e. omega (arith, e))

number-hook : (kind : Kind) → MayHook (sample_layout kind) (grown_parts kind) 1 (below (pointer_at 7 []) 1) 6 []
number-hook kind = record {
  named = named-new (sample_layout kind) (sample_parts kind) (grown_parts kind) (grown kind all refl refl refl) 1 (root-named kind all refl);
  is = refl;
  place = record { ten = omega arith; deep = omega arith; within = within-one kind };
  hole = number-hole kind;
  some = not-zero 6 (omega arith);
  fresh = record { range = (omega arith, omega arith); marked = refl; unused = six-unused kind };
  chain = refl;
}

pub growth_sample_law : GrowthSampleLaw
growth_sample_law kind = record {
  sound = marked-sound kind all refl;
  alone = alone kind;
  one = one kind;
  two = two kind;
  three = three kind;
  size = size kind;
  past = past kind;
  links = λ paths other distinct lead. absurd (other refl);
  grown_sound = grown-sound kind;
  outer = λ e. let t = sym (outer-is kind) ∙ e in omega (arith, t);
  number = number-hook kind;
}
