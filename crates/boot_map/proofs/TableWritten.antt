-- A table that is written entry by entry.
use Rattle.std.proofs.Common.{◌≡◌, ◌≤◌, ◌<◌, ℕ, zero, suc, ◌+◌, ◌*◌, ◌/◌, ◌%◌, List, [], ◌∷◌, ◌++◌, length, map, take, replicate, add-one, refl, sym, ap, subst, ◌∙◌, arith, append_assoc, append-nil, length-append}
use Rattle.std.specs.Prelude.{flat_map, slice_set, slice_index_or, Ok}
use Rattle.std.specs.List.{range_with_len}
use Rattle.std.proofs.Math.Seq.{take-suc}
use Rattle.std.proofs.lemmas.Grind.{flat_map-append}
use Rattle.std.proofs.lemmas.List.{map-append, length-map}
use Rattle.lilo_model.specs.Bytes.{part_of, with_part, filled_bytes}
use Rattle.lilo_model.specs.Table.{descriptor_bytes, table_at}
use Rattle.lilo_model.specs.Plan.{sectors_of_table}
use Rattle.map_again_laws.specs.Fits.{FitEntries, HaveNames}
use Rattle.map_again_laws.proofs.TableAgain.{table_again}
use Rattle.map_again_laws.proofs.Parts.{length-part, part-prefix, part-between, part-in, filled-next}
use Rattle.boot_map.specs.declared.descriptor.Descriptor.{Descriptor}
use Rattle.boot_map.specs.View.{descriptor_view}

-- three sectors begin with some bytes, and zeros fill the rest
pub record ThreeSectors (sectors : List (List ℕ)) (bytes : List ℕ) : Type 0 where
  pub one : List ℕ
  pub two : List ℕ
  pub three : List ℕ
  pub are : sectors ≡ one ∷ (two ∷ (three ∷ []))
  pub long_one : length one ≡ 512
  pub long_two : length two ≡ 512
  pub long_three : length three ≡ 512
  pub hold : one ++ (two ++ three) ≡ filled_bytes 1536 bytes

-- what the three are then
pub three-are :
    (sectors : List (List ℕ)) (bytes : List ℕ) → ThreeSectors sectors bytes
    → sectors ≡ map (λ index. part_of (filled_bytes 1536 bytes) (512 * index) 512) (range_with_len 0 3)
three-are sectors bytes all =
    all.are
    ∙ ap (λ sector. sector ∷ (all.two ∷ (all.three ∷ []))) (sym (part-prefix all.one (all.two ++ all.three) 512 all.long_one))
    ∙ ap (λ sector. part_of whole 0 512 ∷ (sector ∷ (all.three ∷ []))) (sym (part-between all.one all.two all.three 512 512 all.long_one all.long_two))
    ∙ ap (λ sector. part_of whole 0 512 ∷ (part_of whole 512 512 ∷ (sector ∷ []))) (sym third)
    ∙ ap (λ whole. part_of whole 0 512 ∷ (part_of whole 512 512 ∷ (part_of whole 1024 512 ∷ []))) all.hold
  where
    whole : List ℕ
    whole = all.one ++ (all.two ++ all.three)

    third : part_of whole 1024 512 ≡ all.three
    third =
        ap (λ bytes. part_of bytes 1024 512) (sym (append_assoc all.one all.two all.three) ∙ ap (λ last. (all.one ++ all.two) ++ last) (sym (append-nil all.three)))
        ∙ part-between (all.one ++ all.two) all.three [] 1024 512 (length-append all.one all.two ∙ omega (arith, all.long_one, all.long_two)) all.long_three

-- before the first entry
pub three-zeros : (sectors : List (List ℕ)) → sectors ≡ replicate 3 (replicate 512 0) → ThreeSectors sectors []
three-zeros sectors is = record {
  one = replicate 512 0;
  two = replicate 512 0;
  three = replicate 512 0;
  are = is;
  long_one = refl;
  long_two = refl;
  long_three = refl;
  hold = refl;
}

-- one entry more is written, in the sector that its place is in
pub three-next :
    (sectors : List (List ℕ)) (bytes new put other : List ℕ) (index : ℕ) → ThreeSectors sectors bytes
    → length bytes ≡ 64 * index → length new ≡ 64 → index < 24
    → put ≡ with_part (slice_index_or sectors (index / 8) other) (index % 8 * 64) new
    → ThreeSectors (slice_set sectors (index / 8) put) (bytes ++ new)
three-next sectors bytes new put other index all long size below is =
    by-sector (index / 8) (index % 8 * 64) (omega arith) (omega arith) (omega (arith, below))
    (subst (λ sectors. put ≡ with_part (slice_index_or sectors (index / 8) other) (index % 8 * 64) new) all.are is)
  where
    one : List ℕ
    one = all.one

    two : List ℕ
    two = all.two

    three : List ℕ
    three = all.three

    filled : with_part (filled_bytes 1536 bytes) (64 * index) new ≡ filled_bytes 1536 (bytes ++ new)
    filled = filled-next 1536 bytes new (64 * index) long (omega (arith, size, below))

    length-with : (sector : List ℕ) (at : ℕ) → length sector ≡ 512 → at + 64 ≤ 512 → length (with_part sector at new) ≡ 512
    length-with sector at whole fits = length-part sector new at (omega (arith, whole, size, fits)) ∙ whole

    by-sector : (place at : ℕ) → 64 * index ≡ 512 * place + at → at + 64 ≤ 512 → place < 3
        → put ≡ with_part (slice_index_or (one ∷ (two ∷ (three ∷ []))) place other) at new
        → ThreeSectors (slice_set sectors place put) (bytes ++ new)
    by-sector zero at total fits less is = record {
      one = put;
      two = two;
      three = three;
      are = ap (λ sectors. slice_set sectors 0 put) all.are;
      long_one = ap length is ∙ length-with one at all.long_one fits;
      long_two = all.long_two;
      long_three = all.long_three;
      hold =
          ap (λ put. put ++ (two ++ three)) is
          ∙ sym (part-in [] one (two ++ three) at (64 * index) new (omega (arith, total)) (omega (arith, size, fits, all.long_one)))
          ∙ ap (λ whole. with_part whole (64 * index) new) all.hold ∙ filled;
    }
    by-sector (suc zero) at total fits less is = record {
      one = one;
      two = put;
      three = three;
      are = ap (λ sectors. slice_set sectors 1 put) all.are;
      long_one = all.long_one;
      long_two = ap length is ∙ length-with two at all.long_two fits;
      long_three = all.long_three;
      hold =
          ap (λ put. one ++ (put ++ three)) is
          ∙ sym (part-in one two three at (64 * index) new (omega (arith, total, all.long_one)) (omega (arith, size, fits, all.long_two)))
          ∙ ap (λ whole. with_part whole (64 * index) new) all.hold ∙ filled;
    }
    by-sector (suc (suc zero)) at total fits less is = record {
      one = one;
      two = two;
      three = put;
      are = ap (λ sectors. slice_set sectors 2 put) all.are;
      long_one = all.long_one;
      long_two = all.long_two;
      long_three = ap length is ∙ length-with three at all.long_three fits;
      hold =
          ap (λ put. one ++ (two ++ put)) is
          ∙ sym (append_assoc one two (with_part three at new))
          ∙ ap (λ last. (one ++ two) ++ last) (sym (append-nil (with_part three at new)))
          ∙ sym (part-in (one ++ two) three [] at (64 * index) new (omega (arith, total, all.long_one, all.long_two, length-append one two)) (omega (arith, size, fits, all.long_three)))
          ∙ ap (λ whole. with_part whole (64 * index) new) (ap (λ last. (one ++ two) ++ last) (append-nil three) ∙ append_assoc one two three ∙ all.hold) ∙ filled;
    }
    by-sector (suc (suc (suc place))) at total fits less is = absurd (omega (arith, less))

-- the bytes of one entry more
pub entries-more :
    (entries : List Descriptor) (index : ℕ) (entry : Descriptor) → index < length entries → entry ≡ slice_index_or entries index entry
    → flat_map descriptor_bytes (map descriptor_view (take (index + 1) entries))
    ≡ flat_map descriptor_bytes (map descriptor_view (take index entries)) ++ descriptor_bytes (descriptor_view entry)
entries-more entries index entry below is =
    ap (λ n. flat_map descriptor_bytes (map descriptor_view (take n entries))) (add-one index)
    ∙ ap (λ entries. flat_map descriptor_bytes (map descriptor_view entries)) (take-suc entries index entry below ∙ ap (λ entry. take index entries ++ (entry ∷ [])) (sym is))
    ∙ ap (flat_map descriptor_bytes) (map-append descriptor_view (take index entries) (entry ∷ []))
    ∙ flat_map-append descriptor_bytes (map descriptor_view (take index entries)) (descriptor_view entry ∷ [])
    ∙ ap (λ last. flat_map descriptor_bytes (map descriptor_view (take index entries)) ++ last) (append-nil (descriptor_bytes (descriptor_view entry)))

-- entries that are written are read again
pub table_read :
    (entries : List Descriptor) → length entries ≤ 24 → FitEntries (map descriptor_view entries) → HaveNames (map descriptor_view entries)
    → table_at (length entries) (sectors_of_table (map descriptor_view entries)) ≡ Ok (map descriptor_view entries)
table_read entries few fit names =
    let long : length (map descriptor_view entries) ≡ length entries = length-map entries descriptor_view in
    subst (λ n. table_at n (sectors_of_table (map descriptor_view entries)) ≡ Ok (map descriptor_view entries)) long
    (table_again (map descriptor_view entries) fit names (omega (arith, long, few)))
