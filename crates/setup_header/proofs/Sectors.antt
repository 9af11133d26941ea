-- Parts of two sectors, one after the other, lie in one of them.
use Rattle.std.proofs.Common.{◌≡◌, ℕ, ◌+◌, ◌<◌, ◌≤◌, ◌%◌, ◌==◌, ◌&&◌, Bool, min, if◌then◌else◌, Option, Some, None, is_some, bytes_eq, codes, List, ◌++◌, length, take, drop, refl, ◌∙◌, ap, subst, arith, length-drop}
use Rattle.std.specs.Prelude.{slice_index}
use Rattle.std.specs.Int.{w16, w32, from_le_bytes}
use Rattle.std.proofs.Math.Seq.{drop-append-add}
use Rattle.std.proofs.lemmas.List.{take-append-le, drop-append-le, get_or-append-add, get_or_append_left}
use Rattle.lilo_model.specs.Bytes.{part_of, number16, number32}
use Rattle.lilo_model.specs.Header.{setup_of, version_of, is_from, header_of}

-- a byte of the second
pub byte-second : (a b : List ℕ) (at : ℕ) → length a ≡ 512 → slice_index (a ++ b) (512 + at) ≡ slice_index b at
byte-second a b at size =
    let P : ℕ → Type 0 = λ n. slice_index (a ++ b) (n + at) ≡ slice_index b at in
    subst P size (get_or-append-add a b at 0)

-- what lies after the first
pub drop-second : (a b : List ℕ) (at : ℕ) → length a ≡ 512 → drop (512 + at) (a ++ b) ≡ drop at b
drop-second a b at size =
    let P : ℕ → Type 0 = λ n. drop (n + at) (a ++ b) ≡ drop at b in
    subst P size (drop-append-add a b at)

-- a part of the first
pub part_of-first : (a b : List ℕ) (at len : ℕ) → at + len ≤ length a → part_of (a ++ b) at len ≡ part_of a at len
part_of-first a b at len inside =
    let before : at ≤ length a = omega arith in
    let behind : len ≤ length (drop at a) = simp length-drop (omega arith) in
    ap (take len) (drop-append-le at a b before) ∙ take-append-le len (drop at a) b behind

-- a part of the second
pub part_of-second : (a b : List ℕ) (at len : ℕ) → length a ≡ 512 → part_of (a ++ b) (512 + at) len ≡ part_of b at len
part_of-second a b at len size = ap (take len) (drop-second a b at size)

pub number16-first : (a b : List ℕ) (at : ℕ) → at + 2 ≤ length a → number16 (a ++ b) at ≡ number16 a at
unfolding number16
number16-first a b at inside = ap (from_le_bytes w16) (part_of-first a b at 2 inside)

number16-second : (a b : List ℕ) (at : ℕ) → length a ≡ 512 → number16 (a ++ b) (512 + at) ≡ number16 b at
unfolding number16
number16-second a b at size = ap (from_le_bytes w16) (part_of-second a b at 2 size)

number32-second : (a b : List ℕ) (at : ℕ) → length a ≡ 512 → number32 (a ++ b) (512 + at) ≡ number32 b at
unfolding number32
number32-second a b at size = ap (from_le_bytes w32) (part_of-second a b at 4 size)

-- ---- the header

-- the version, from the second sector
abbrev pub version_in : List ℕ → Option ℕ
version_in b = if bytes_eq (part_of b 0x2 4) (codes "HdrS") then Some (number16 b 0x6) else None

-- the last byte that an initrd may take, from the second sector
abbrev pub initrd_max_in : List ℕ → Option ℕ → ℕ
initrd_max_in b version = if is_from 0x203 version then number32 b 0x2C else 0x37FFFFFF

-- the most bytes of a line, from the second sector
abbrev pub line_limit_in : List ℕ → Option ℕ → ℕ
line_limit_in b version = if is_from 0x206 version then min 255 (number32 b 0x38) else 255

pub setup_of-first : (a b : List ℕ) → length a ≡ 512 → setup_of (a ++ b) ≡ setup_of a
unfolding setup_of
setup_of-first a b size =
    let inside : 0x1F1 < length a = omega arith in
    let byte : slice_index (a ++ b) 0x1F1 ≡ slice_index a 0x1F1 = get_or_append_left a b 0 0x1F1 inside in
    ap (λ (n : ℕ). if n == 0 then 4 else n) byte

version_of-second : (a b : List ℕ) → length a ≡ 512 → version_of (a ++ b) ≡ version_in b
unfolding version_of
version_of-second a b size =
    let mark : part_of (a ++ b) 0x202 4 ≡ part_of b 0x2 4 = part_of-second a b 0x2 4 size in
    let number : number16 (a ++ b) 0x206 ≡ number16 b 0x6 = number16-second a b 0x6 size in
    ap (λ (bytes : List ℕ). if bytes_eq bytes (codes "HdrS") then Some (number16 (a ++ b) 0x206) else None) mark
    ∙ ap (λ (n : ℕ). if bytes_eq (part_of b 0x2 4) (codes "HdrS") then Some n else None) number

-- the header, from each sector's own bytes
pub header_of-sectors :
    (a b : List ℕ) → length a ≡ 512
    → header_of (a ++ b)
    ≡ record {
      setup = setup_of a;
      version = version_in b;
      high = is_some (version_in b) && (slice_index b 0x11 % 2 == 1);
      initrd_max = initrd_max_in b (version_in b);
      line_limit = line_limit_in b (version_in b);
    }
unfolding header_of
header_of-sectors a b size =
    let setup = setup_of-first a b size in
    let version = version_of-second a b size in
    let flags : slice_index (a ++ b) 0x211 ≡ slice_index b 0x11 = byte-second a b 0x11 size in
    let last : number32 (a ++ b) 0x22C ≡ number32 b 0x2C = number32-second a b 0x2C size in
    let limit : number32 (a ++ b) 0x238 ≡ number32 b 0x38 = number32-second a b 0x38 size in
    rw (setup, version, flags, last, limit) refl

-- the header, from what was read of each sector
pub header_of-read :
    (a b : List ℕ) (setup : ℕ) (version : Option ℕ) (high : Bool) (last limit : ℕ) → length a ≡ 512
    → setup ≡ setup_of a → version ≡ version_in b
    → high ≡ (is_some version && (slice_index b 0x11 % 2 == 1))
    → last ≡ initrd_max_in b version → limit ≡ line_limit_in b version
    → record { setup = setup; version = version; high = high; initrd_max = last; line_limit = limit } ≡ header_of (a ++ b)
header_of-read a b setup version high last limit size setup_is version_is high_is last_is limit_is =
    rw (header_of-sectors a b size, setup_is, high_is, last_is, limit_is, version_is) refl
