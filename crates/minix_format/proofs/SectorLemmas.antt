-- The sectors of an empty volume, by what lies there.
use Rattle.std.proofs.Common.{◌≡◌, ◌<◌, ◌≤◌, ℕ, ◌+◌, ◌-◌, ◌*◌, ◌==◌, nat_le, nat_lt, true, false, ◌&&◌, List, ◌++◌, length, refl, sym, ◌∙◌, ap, subst, arith, length-append}
use Rattle.std.proofs.lemmas.Bool.{le-leb, lt-ltb, le-ltb, eq-eqb, ne_eqb}
use Rattle.std.proofs.lemmas.List.{length-replicate}
use Rattle.lilo_model.specs.Bytes.{with_part, bytes16, filled_bytes}
use Rattle.lilo_model.specs.Disks.{Image, Span}
use Rattle.lilo_model.specs.MinixLayout.{Kind, V1Short, V1Long, V2Short, V2Long, Super, entry_size, inode_size, table_start, super_bytes, with_counts, inode_bytes, v1_inode_bytes, v2_inode_bytes, zone_sector}
use Rattle.lilo_model.specs.MinixParts.{volume_with, sector_of}
use Rattle.lilo_model.specs.MinixEntries.{here_name, above_name}
use Rattle.minix_laws.proofs.RootBytes.{length-choice}
use Rattle.ldisk_model.specs.MinixFormat.{zeros, map_sector, first_inode, root_entry, formatted_sector, formatted_count, formatted}
use Rattle.minix_format.proofs.MapLemmas.{length-map_sector}

-- ---- in an image

module _ (span : Span) (layout : Super) (time : ℕ) (image : Image) where
  pub formatted-in : (sector : ℕ) → 2 ≤ sector → sector < 2 + formatted_count layout → sector_of (volume_with span layout) (formatted span layout time image) sector ≡ formatted_sector layout time sector
  unfolding formatted
  formatted-in sector from below =
      let a : (span.disk == span.disk) ≡ true = eq-eqb span.disk span.disk refl in
      let b : nat_le (span.start + 2) (span.start + sector) ≡ true = le-leb (span.start + 2) (span.start + sector) (omega (arith, from)) in
      let c : nat_lt (span.start + sector) (span.start + 2 + formatted_count layout) ≡ true = lt-ltb (span.start + sector) (span.start + 2 + formatted_count layout) (omega (arith, below)) in
      let d : span.start + sector - span.start ≡ sector = omega arith in
      rw (a, b, c, d) refl

-- ---- what lies where

pub at-super : (layout : Super) (time : ℕ) → formatted_sector layout time 2 ≡ super_bytes layout zeros
unfolding formatted_sector
at-super layout time = refl

module _ (layout : Super) (time : ℕ) where
  pub at-inode_map : (k : ℕ) → k < 2 * layout.imap → formatted_sector layout time (4 + k) ≡ map_sector layout.inodes k
  unfolding formatted_sector
  at-inode_map k below =
      let a : (4 + k == 2) ≡ false = ne_eqb (4 + k) 2 (λ same. omega (arith, same)) in
      let b : nat_lt (4 + k) 4 ≡ false = le-ltb (4 + k) 4 (omega arith) in
      let c : nat_lt (4 + k) (4 + 2 * layout.imap) ≡ true = lt-ltb (4 + k) (4 + 2 * layout.imap) (omega (arith, below)) in
      let d : 4 + k - 4 ≡ k = omega arith in
      rw (a, b, c, d) refl

  pub at-zone_map : (sector k : ℕ) → k < 2 * layout.zmap → sector ≡ 2 * (2 + layout.imap) + k → formatted_sector layout time sector ≡ map_sector (layout.zones - layout.first) k
  unfolding formatted_sector
  at-zone_map sector k below is =
      let a : (sector == 2) ≡ false = ne_eqb sector 2 (λ same. omega (arith, same, is)) in
      let b : nat_lt sector 4 ≡ false = le-ltb sector 4 (omega (arith, is)) in
      let c : nat_lt sector (4 + 2 * layout.imap) ≡ false = le-ltb sector (4 + 2 * layout.imap) (omega (arith, is)) in
      let d : nat_lt sector (2 * table_start layout) ≡ true = lt-ltb sector (2 * table_start layout) (omega (arith, is, below)) in
      let e : sector - (4 + 2 * layout.imap) ≡ k = omega (arith, is) in
      rw (a, b, c, d, e) refl

  pub at-table : formatted_sector layout time (2 * table_start layout) ≡ filled_bytes 512 (inode_bytes layout.kind (first_inode layout time))
  unfolding formatted_sector
  at-table =
      let a : (2 * table_start layout == 2) ≡ false = ne_eqb (2 * table_start layout) 2 (λ same. omega (arith, same)) in
      let b : nat_lt (2 * table_start layout) 4 ≡ false = le-ltb (2 * table_start layout) 4 (omega arith) in
      let c : nat_lt (2 * table_start layout) (4 + 2 * layout.imap) ≡ false = le-ltb (2 * table_start layout) (4 + 2 * layout.imap) (omega arith) in
      let d : nat_lt (2 * table_start layout) (2 * table_start layout) ≡ false = le-ltb (2 * table_start layout) (2 * table_start layout) (omega arith) in
      let e : (2 * table_start layout == 2 * table_start layout) ≡ true = eq-eqb (2 * table_start layout) (2 * table_start layout) refl in
      rw (a, b, c, d, e) refl

  module _ (after : table_start layout < layout.first) where
    pub at-root : formatted_sector layout time (zone_sector layout.first) ≡ filled_bytes 512 (root_entry layout.kind here_name ++ root_entry layout.kind above_name)
    unfolding formatted_sector
    at-root =
        let a : (2 * layout.first == 2) ≡ false = ne_eqb (2 * layout.first) 2 (λ same. omega (arith, same, after)) in
        let b : nat_lt (2 * layout.first) 4 ≡ false = le-ltb (2 * layout.first) 4 (omega (arith, after)) in
        let c : nat_lt (2 * layout.first) (4 + 2 * layout.imap) ≡ false = le-ltb (2 * layout.first) (4 + 2 * layout.imap) (omega (arith, after)) in
        let d : nat_lt (2 * layout.first) (2 * table_start layout) ≡ false = le-ltb (2 * layout.first) (2 * table_start layout) (omega (arith, after)) in
        let e : (2 * layout.first == 2 * table_start layout) ≡ false = ne_eqb (2 * layout.first) (2 * table_start layout) (λ same. omega (arith, same, after)) in
        let f : (2 * layout.first == 2 * layout.first) ≡ true = eq-eqb (2 * layout.first) (2 * layout.first) refl in
        rw (a, b, c, d, e, f) refl

    pub at-root_end : formatted_sector layout time (zone_sector layout.first + 1) ≡ zeros
    unfolding formatted_sector
    at-root_end =
        let a : (2 * layout.first + 1 == 2) ≡ false = ne_eqb (2 * layout.first + 1) 2 (λ same. omega (arith, same, after)) in
        let b : nat_lt (2 * layout.first + 1) 4 ≡ false = le-ltb (2 * layout.first + 1) 4 (omega (arith, after)) in
        let c : nat_lt (2 * layout.first + 1) (4 + 2 * layout.imap) ≡ false = le-ltb (2 * layout.first + 1) (4 + 2 * layout.imap) (omega (arith, after)) in
        let d : nat_lt (2 * layout.first + 1) (2 * table_start layout) ≡ false = le-ltb (2 * layout.first + 1) (2 * table_start layout) (omega (arith, after)) in
        let e : (2 * layout.first + 1 == 2 * table_start layout) ≡ false = ne_eqb (2 * layout.first + 1) (2 * table_start layout) (λ same. omega (arith, same, after)) in
        let f : (2 * layout.first + 1 == 2 * layout.first) ≡ false = ne_eqb (2 * layout.first + 1) (2 * layout.first) (λ same. omega (arith, same)) in
        rw (a, b, c, d, e, f) refl

-- ---- their lengths

super-long : (kind : Kind) (layout : Super) → layout.kind ≡ kind → length (super_bytes layout zeros) ≡ 512
unfolding super_bytes with_counts
super-long V1Short layout is = rw is refl
super-long V1Long layout is = rw is refl
super-long V2Short layout is = rw is refl
super-long V2Long layout is = rw is refl

pub length-first_inode : (kind : Kind) (layout : Super) (time : ℕ) → length (inode_bytes kind (first_inode layout time)) ≡ inode_size kind
unfolding inode_bytes v1_inode_bytes v2_inode_bytes
length-first_inode V1Short layout time = refl
length-first_inode V1Long layout time = refl
length-first_inode V2Short layout time = refl
length-first_inode V2Long layout time = refl

length-filled : (bytes : List ℕ) (len : ℕ) → length bytes ≤ len → length (filled_bytes len bytes) ≡ len
length-filled bytes len fits = simp (length-append, length-replicate) (omega (arith, fits))

inode_small : (kind : Kind) → inode_size kind ≤ 512
inode_small V1Short = omega arith
inode_small V1Long = omega arith
inode_small V2Short = omega arith
inode_small V2Long = omega arith

entries-long : (kind : Kind) → length (filled_bytes 512 (root_entry kind here_name ++ root_entry kind above_name)) ≡ 512
entries-long V1Short = refl
entries-long V1Long = refl
entries-long V2Short = refl
entries-long V2Long = refl

pub length-formatted_sector : (layout : Super) (time sector : ℕ) → length (formatted_sector layout time sector) ≡ 512
unfolding formatted_sector
length-formatted_sector layout time sector =
    length-choice (sector == 2) _ _ (super-long layout.kind layout refl)
    (length-choice (nat_lt sector 4) _ _ refl
    (length-choice (nat_lt sector (4 + 2 * layout.imap)) _ _ (length-map_sector layout.inodes (sector - 4))
    (length-choice (nat_lt sector (2 * table_start layout)) _ _ (length-map_sector (layout.zones - layout.first) (sector - (4 + 2 * layout.imap)))
    (length-choice (sector == 2 * table_start layout) _ _
    (length-filled (inode_bytes layout.kind (first_inode layout time)) 512 (omega (arith, length-first_inode layout.kind layout time, inode_small layout.kind)))
    (length-choice (sector == zone_sector layout.first) _ _ (entries-long layout.kind) refl)))))

pub length-formatted : (span : Span) (layout : Super) (time : ℕ) (image : Image) (sector : ℕ) → length (image span.disk (span.start + sector)) ≡ 512
    → length (sector_of (volume_with span layout) (formatted span layout time image) sector) ≡ 512
unfolding formatted
length-formatted span layout time image sector long =
    length-choice (span.disk == span.disk && nat_le (span.start + 2) (span.start + sector) && nat_lt (span.start + sector) (span.start + 2 + formatted_count layout))
    (formatted_sector layout time (span.start + sector - span.start)) (image span.disk (span.start + sector))
    (length-formatted_sector layout time (span.start + sector - span.start)) long

-- ---- the root's entries, as they are put

entries-whole : (kind : Kind)
    → with_part (with_part (with_part (with_part zeros 0 (bytes16 1)) 2 (filled_bytes (entry_size kind - 2) here_name)) (entry_size kind) (bytes16 1)) (entry_size kind + 2) (filled_bytes (entry_size kind - 2) above_name)
    ≡ filled_bytes 512 (root_entry kind here_name ++ root_entry kind above_name)
entries-whole V1Short = refl
entries-whole V1Long = refl
entries-whole V2Short = refl
entries-whole V2Long = refl

pub entries_put : (kind : Kind) (size : ℕ) (one two three four : List ℕ) → size ≡ entry_size kind
    → one ≡ with_part zeros 0 (bytes16 1) → two ≡ with_part one 2 (filled_bytes (size - 2) here_name)
    → three ≡ with_part two size (bytes16 1) → four ≡ with_part three (size + 2) (filled_bytes (size - 2) above_name)
    → four ≡ filled_bytes 512 (root_entry kind here_name ++ root_entry kind above_name)
entries_put kind size one two three four is first second third fourth =
    let P : ℕ → Type 0 = λ n. with_part (with_part (with_part (with_part zeros 0 (bytes16 1)) 2 (filled_bytes (n - 2) here_name)) n (bytes16 1)) (n + 2) (filled_bytes (n - 2) above_name)
    ≡ filled_bytes 512 (root_entry kind here_name ++ root_entry kind above_name) in
    fourth
    ∙ ap (λ bytes. with_part bytes (size + 2) (filled_bytes (size - 2) above_name))
    (third ∙ ap (λ bytes. with_part bytes size (bytes16 1)) (second ∙ ap (λ bytes. with_part bytes 2 (filled_bytes (size - 2) here_name)) first))
    ∙ subst P (sym is) (entries-whole kind)
