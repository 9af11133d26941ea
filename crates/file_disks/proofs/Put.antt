-- A sector that is put among those that are held.
use Rattle.std.proofs.Common.{◌≡◌, ◌≢◌, ◌⊎◌, inl, inr, ℕ, ◌+◌, ◌-◌, ◌*◌, ◌≤◌, max, List, ◌++◌, arith, length, take, drop, sym, ap, subst, ◌∙◌, drop_at, length-take-le, take_all}
use Rattle.std.proofs.lemmas.Slice.{take-put_mid_below, drop-put_mid}
use Rattle.std.proofs.lemmas.List.{drop-take}
use Rattle.std.proofs.lemmas.Bool.{cases_lt}
use borrow.Rule.Slice.PartMut.{put_mid, post_of}
use lib.Seq.{take-append-le}
use Rattle.lilo_model.specs.Bytes.{part_of}
use Rattle.file_disks.specs.FileDisks.{HeldSectors, IsPut}

part-put : (a k n : ℕ) (xs ys : List ℕ) → a ≤ length xs → length ys ≡ n → part_of (put_mid a k xs ys) a n ≡ ys
part-put a k n xs ys within whole =
    let after = post_of a k xs in
    ap (take n) (drop_at (take a xs) (ys ++ after) a (length-take-le a xs within)) ∙ take-append-le n ys after (omega arith) ∙ take_all n ys (omega arith)

part-put_below : (a k b n : ℕ) (xs ys : List ℕ) → b + n ≤ a → a ≤ length xs → part_of (put_mid a k xs ys) b n ≡ part_of xs b n
part-put_below a k b n xs ys before within =
    sym (drop-take b n (put_mid a k xs ys)) ∙ ap (drop b) (take-put_mid_below a k xs ys (b + n) before within) ∙ drop-take b n xs

part-put_above : (a k b n : ℕ) (xs ys : List ℕ) → a + k ≤ b → a ≤ length xs → length ys ≡ k → part_of (put_mid a k xs ys) b n ≡ part_of xs b n
part-put_above a k b n xs ys after within whole = ap (take n) (drop-put_mid a k xs ys b after within whole)

-- another sector of those from a first one on stays
other_part : (first sector other k : ℕ) (bytes from : List ℕ) → other ≢ sector → first ≤ other → first ≤ sector
    → (sector - first) * 512 + 512 ≤ length bytes → length from ≡ 512 → k ≡ 512
    → part_of (put_mid ((sector - first) * 512) k bytes from) ((other - first) * 512) 512 ≡ part_of bytes ((other - first) * 512) 512
other_part first sector other k bytes from differs above begun within whole size =
    elim (cases_lt sector other) [
      | inl later ↦ part-put_above _ k ((other - first) * 512) 512 bytes from (omega arith) (omega arith) (omega arith)
      | inr sooner ↦ part-put_below _ k ((other - first) * 512) 512 bytes from (omega arith) (omega arith)
    ]

-- what is held once a sector's bytes are at its place, where it is the first one, or held, or the next one
put_at : (old : HeldSectors) (sector first count k : ℕ) (from : List ℕ)
    → first ≤ sector → sector ≤ first + old.count → (old.count ≡ 0) ⊎ (first ≡ old.first)
    → (sector - first) * 512 + 512 ≤ length old.bytes → length from ≡ 512 → k ≡ 512 → count ≡ max old.count (sector - first + 1)
    → IsPut old sector from (record { first = first; count = count; bytes = put_mid ((sector - first) * 512) k old.bytes from })
put_at old sector first count k from begun near same_first within whole size counts = record {
  held = (begun, omega arith);
  same = part-put _ k 512 old.bytes from (omega arith) whole;
  others = λ other differs was. elim same_first [
    | inl none ↦ absurd (let no : ⊥ = omega (arith, was.0, was.1) in no)
    | inr e ↦ (
      (omega (arith, was.0), omega (arith, was.0, was.1)),
      subst (λ f. part_of (put_mid ((sector - first) * 512) k old.bytes from) ((other - first) * 512) 512 ≡ part_of old.bytes ((other - f) * 512) 512) e
          (other_part first sector other k old.bytes from differs (omega (arith, was.0)) begun within whole size),
    )
  ];
  only = λ other differs now. elim same_first [
    | inl none ↦ absurd (let no : ⊥ = omega (arith, differs, now.0, now.1) in no)
    | inr e ↦ (omega (arith, now.0), omega (arith, differs, now.0, now.1))
  ];
}

-- the same, by the names that a method has for the bytes
pub put_whole : (old : HeldSectors) (sector first count k : ℕ) (from bytes new : List ℕ) → bytes ≡ old.bytes → new ≡ from
    → first ≤ sector → sector ≤ first + old.count → (old.count ≡ 0) ⊎ (first ≡ old.first)
    → (sector - first) * 512 + 512 ≤ length bytes → length from ≡ 512 → k ≡ 512 → count ≡ max old.count (sector - first + 1)
    → IsPut old sector from (record { first = first; count = count; bytes = put_mid ((sector - first) * 512) k bytes new })
put_whole old sector first count k from bytes new e n begun near same_first within whole size counts =
    let place = (sector - first) * 512 in
    let fits : place + 512 ≤ length old.bytes = subst (λ b. place + 512 ≤ length b) e within in
    let put = put_at old sector first count k from begun near same_first fits whole size counts in
    subst (λ b. IsPut old sector from (record { first = first; count = count; bytes = put_mid place k b new })) (sym e)
    (subst (λ y. IsPut old sector from (record { first = first; count = count; bytes = put_mid place k old.bytes y })) (sym n) put)
