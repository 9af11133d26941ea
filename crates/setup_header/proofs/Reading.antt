-- What the checks of a header answer, from what was read of the first sector: its last two bytes, and the
-- number of setup sectors.
use Rattle.std.proofs.Common.{◌≡◌, ◌≢◌, ℕ, ◌+◌, ◌*◌, ◌<◌, ◌≤◌, List, ◌++◌, Ok, Err, length, refl, sym, ◌∙◌, arith}
use Rattle.std.proofs.lemmas.Bool.{le-leb, lt-leb, ne_eqb}
use Rattle.lilo_model.specs.Bytes.{number16}
use Rattle.lilo_model.specs.Header.{Header, TooShort, NoBootFlag, SetupTooLarge, setup_of, header_of, header_at}
use Rattle.setup_header.proofs.Sectors.{number16-first, setup_of-first}

flag-first : (a b : List ℕ) (flag : ℕ) → length a ≡ 512 → flag ≡ number16 a 0x1FE → number16 (a ++ b) 0x1FE ≡ flag
flag-first a b flag size is = number16-first a b 0x1FE (omega arith) ∙ sym is

setup-first : (a b : List ℕ) (setup : ℕ) → length a ≡ 512 → setup ≡ setup_of a → setup_of (a ++ b) ≡ setup
setup-first a b setup size is = setup_of-first a b size ∙ sym is

-- another flag
pub header_at-no_flag :
    (a b : List ℕ) (len flag : ℕ) → length a ≡ 512 → 512 ≤ len → flag ≡ number16 a 0x1FE → flag ≢ 0xAA55
    → Err NoBootFlag ≡ header_at (a ++ b) len
unfolding header_at
header_at-no_flag a b len flag size long flag_is other =
    rw (le-leb 512 len long, flag-first a b flag size flag_is, ne_eqb flag 0xAA55 other) refl

-- too many setup sectors
pub header_at-large :
    (a b : List ℕ) (len flag setup : ℕ) → length a ≡ 512 → 512 ≤ len → flag ≡ number16 a 0x1FE → flag ≡ 0xAA55
    → setup ≡ setup_of a → 64 < setup
    → Err (SetupTooLarge setup) ≡ header_at (a ++ b) len
unfolding header_at
header_at-large a b len flag setup size long flag_is boots setup_is large =
    rw (le-leb 512 len long, flag-first a b flag size flag_is, boots, setup-first a b setup size setup_is, lt-leb setup 64 large) refl

-- no whole real-mode part
pub header_at-short :
    (a b : List ℕ) (len flag setup real : ℕ) → length a ≡ 512 → 512 ≤ len → flag ≡ number16 a 0x1FE → flag ≡ 0xAA55
    → setup ≡ setup_of a → setup ≤ 64 → real ≡ (setup + 1) * 512 → len < real
    → Err TooShort ≡ header_at (a ++ b) len
unfolding header_at
header_at-short a b len flag setup real size long flag_is boots setup_is small real_is short =
    rw (le-leb 512 len long, flag-first a b flag size flag_is, boots, setup-first a b setup size setup_is, le-leb setup 64 small, sym real_is, lt-leb real len short) refl

-- no fault
pub header_at-read :
    (a b : List ℕ) (len flag setup real : ℕ) (header : Header) → length a ≡ 512 → 512 ≤ len → flag ≡ number16 a 0x1FE
    → flag ≡ 0xAA55 → setup ≡ setup_of a → setup ≤ 64 → real ≡ (setup + 1) * 512 → real ≤ len
    → header ≡ header_of (a ++ b)
    → Ok header ≡ header_at (a ++ b) len
unfolding header_at
header_at-read a b len flag setup real header size long flag_is boots setup_is small real_is fits header_is =
    rw (le-leb 512 len long, flag-first a b flag size flag_is, boots, setup-first a b setup size setup_is, le-leb setup 64 small, sym real_is, le-leb real len fits, header_is) refl
