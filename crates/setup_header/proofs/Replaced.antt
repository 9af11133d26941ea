-- Fields that are replaced in two sectors, one after the other, are replaced in one of them.
use Rattle.std.proofs.Common.{◌≡◌, ℕ, ◌+◌, ◌-◌, ◌<◌, ◌≤◌, Bool, true, false, Option, Some, None, List, [], ◌∷◌, ◌++◌, length, take, drop, refl, sym, ◌∙◌, ap, subst, arith, append_assoc, length-append, length-drop}
use Rattle.std.specs.Prelude.{slice_index}
use Rattle.std.proofs.Math.Seq.{take-append-add}
use Rattle.std.proofs.lemmas.List.{take-append-le, drop-append-le, length-take-le, get_or_append_left}
use Rattle.lilo_model.specs.Bytes.{with_part}
use Rattle.lilo_model.specs.Header.{Header, Layout, Region, Field, is_from, with_fields, video_fields, initrd_fields, loader_fields, heap_fields, line_fields, replaced_fields, patch}
use Rattle.setup_header.specs.Halves.{in_second}
use Rattle.setup_header.proofs.Sectors.{byte-second, drop-second}

-- ---- one field

with_part-first :
    (a b : List ℕ) (at : ℕ) (new : List ℕ) → at + length new ≤ length a
    → with_part (a ++ b) at new ≡ with_part a at new ++ b
with_part-first a b at new inside =
    let before : at ≤ length a = omega arith in
    let behind : length new ≤ length (drop at a) = simp length-drop (omega arith) in
    let start = take-append-le at a b before in
    let rest = ap (drop (length new)) (drop-append-le at a b before) ∙ drop-append-le (length new) (drop at a) b behind in
    rw (start, rest) (simp append_assoc)

length-with_part :
    (a : List ℕ) (at : ℕ) (new : List ℕ) → at + length new ≤ length a → length (with_part a at new) ≡ length a
length-with_part a at new inside =
    let before : at ≤ length a = omega arith in
    let start = length-take-le at a before in
    simp (length-append, length-drop) (omega arith)

with_part-second :
    (a b : List ℕ) (at : ℕ) (new : List ℕ) → length a ≡ 512
    → with_part (a ++ b) (512 + at) new ≡ a ++ with_part b at new
with_part-second a b at new size =
    let P : ℕ → Type 0 = λ n. take (n + at) (a ++ b) ≡ a ++ take at b in
    let start = subst P size (take-append-add a b at) in
    let rest = drop-second a b at size in
    rw (start, rest) (simp append_assoc)

-- ---- fields

-- all of these fields lie in the first bytes
abbrev AreWithin : ℕ → List Field → Type 0
AreWithin size [] = Unit {0}
AreWithin size (field ∷ fields) = (field.at + length field.bytes ≤ size) × AreWithin size fields

-- all of these fields begin after the first 512 bytes
abbrev AreBehind : List Field → Type 0
AreBehind [] = Unit {0}
AreBehind (field ∷ fields) = (512 ≤ field.at) × AreBehind fields

with_fields-append :
    (bytes : List ℕ) (one other : List Field) → with_fields bytes (one ++ other) ≡ with_fields (with_fields bytes one) other
with_fields-append bytes [] other = refl
with_fields-append bytes (field ∷ one) other = with_fields-append (with_part bytes field.at field.bytes) one other

with_fields-first :
    (fields : List Field) (size : ℕ) (a b : List ℕ) → AreWithin size fields → length a ≡ size
    → with_fields (a ++ b) fields ≡ with_fields a fields ++ b
with_fields-first [] size a b _ long = refl
with_fields-first (field ∷ fields) size a b inside long =
    let here : field.at + length field.bytes ≤ length a = omega (arith, inside.0, long) in
    let same : length (with_part a field.at field.bytes) ≡ size = length-with_part a field.at field.bytes here ∙ long in
    ap (λ bytes. with_fields bytes fields) (with_part-first a b field.at field.bytes here)
    ∙ with_fields-first fields size (with_part a field.at field.bytes) b inside.1 same

length-with_fields :
    (fields : List Field) (size : ℕ) (a : List ℕ) → AreWithin size fields → length a ≡ size
    → length (with_fields a fields) ≡ size
length-with_fields [] size a _ long = long
length-with_fields (field ∷ fields) size a inside long =
    let here : field.at + length field.bytes ≤ length a = omega (arith, inside.0, long) in
    let same : length (with_part a field.at field.bytes) ≡ size = length-with_part a field.at field.bytes here ∙ long in
    length-with_fields fields size (with_part a field.at field.bytes) inside.1 same

with_fields-second :
    (fields : List Field) (a b : List ℕ) → AreBehind fields → length a ≡ 512
    → with_fields (a ++ b) fields ≡ a ++ with_fields b (in_second fields)
with_fields-second [] a b _ size = refl
with_fields-second (field ∷ fields) a b behind size =
    let at : 512 + (field.at - 512) ≡ field.at = omega (arith, behind.0) in
    let P : ℕ → Type 0 = λ n. with_part (a ++ b) n field.bytes ≡ a ++ with_part b (field.at - 512) field.bytes in
    let here = subst P at (with_part-second a b (field.at - 512) field.bytes size) in
    ap (λ bytes. with_fields bytes fields) here
    ∙ with_fields-second fields a (with_part b (field.at - 512) field.bytes) behind.1 size

-- ---- where the header's fields lie

video-in_first : (video : Option ℕ) → AreWithin 512 (video_fields video)
video-in_first None = tt
video-in_first (Some mode) = (omega arith, tt)

line-in_first : AreWithin 512 (line_fields false)
line-in_first = (omega arith, (omega arith, tt))

line-behind : AreBehind (line_fields true)
line-behind = (omega arith, tt)

initrd-behind : (initrd : Option Region) → AreBehind (initrd_fields initrd)
initrd-behind None = tt
initrd-behind (Some region) = (omega arith, (omega arith, tt))

loader-behind : (version : Option ℕ) (initrd : Option Region) → AreBehind (loader_fields version initrd)
loader-behind None initrd = tt
loader-behind (Some version) initrd = (omega arith, initrd-behind initrd)

heap-behind : (has_heap : Bool) (flags : ℕ) → AreBehind (heap_fields has_heap flags)
heap-behind false flags = tt
heap-behind true flags = (omega arith, (omega arith, tt))

-- ---- all of them

-- the fields before the line's
with_all :
    (a b : List ℕ) (video : List Field) (loader heap line : List Field) → AreWithin 512 video → AreBehind loader → AreBehind heap → length a ≡ 512
    → with_fields (a ++ b) (video ++ loader ++ heap ++ line)
    ≡ with_fields (with_fields a video ++ with_fields (with_fields b (in_second loader)) (in_second heap)) line
with_all a b video loader heap line video_in loader_in heap_in size =
    let a1 = with_fields a video in
    let b1 = with_fields b (in_second loader) in
    let size1 : length a1 ≡ 512 = length-with_fields video 512 a video_in size in
    with_fields-append (a ++ b) (video ++ loader ++ heap) line
    ∙ ap (λ bytes. with_fields bytes line)
    (with_fields-append (a ++ b) (video ++ loader) heap
    ∙ ap (λ bytes. with_fields bytes heap)
    (with_fields-append (a ++ b) video loader
    ∙ ap (λ bytes. with_fields bytes loader) (with_fields-first video 512 a b video_in size)
    ∙ with_fields-second loader a1 b loader_in size1)
    ∙ with_fields-second heap a1 b1 heap_in size1)

-- the second sector with the fields before the line's
abbrev second_with : Header → Option Region → List ℕ → List ℕ
second_with header initrd b =
    with_fields (with_fields b (in_second (loader_fields header.version initrd))) (in_second (heap_fields (is_from 0x201 header.version) (slice_index b 0x11)))

patch-before :
    (a b : List ℕ) (header : Header) (layout : Layout) (video : Option ℕ) → length a ≡ 512
    → patch header layout video (a ++ b)
    ≡ with_fields (with_fields a (video_fields video) ++ second_with header layout.initrd b) (line_fields (is_from 0x202 header.version))
unfolding patch replaced_fields
patch-before a b header layout video size =
    let flags : slice_index (a ++ b) 0x211 ≡ slice_index b 0x11 = byte-second a b 0x11 size in
    ap (λ (n : ℕ). with_fields (a ++ b) (video_fields video ++ loader_fields header.version layout.initrd ++ heap_fields (is_from 0x201 header.version) n ++ line_fields (is_from 0x202 header.version))) flags
    ∙ with_all a b (video_fields video) (loader_fields header.version layout.initrd) (heap_fields (is_from 0x201 header.version) (slice_index b 0x11)) (line_fields (is_from 0x202 header.version))
    (video-in_first video) (loader-behind header.version layout.initrd) (heap-behind (is_from 0x201 header.version) (slice_index b 0x11)) size

-- from 2.02 on
patch-line_address :
    (a b : List ℕ) (header : Header) (layout : Layout) (video : Option ℕ) → length a ≡ 512 → is_from 0x202 header.version ≡ true
    → patch header layout video (a ++ b)
    ≡ with_fields a (video_fields video) ++ with_fields (second_with header layout.initrd b) (in_second (line_fields true))
patch-line_address a b header layout video size from =
    patch-before a b header layout video size
    ∙ ap (λ (new : Bool). with_fields (with_fields a (video_fields video) ++ second_with header layout.initrd b) (line_fields new)) from
    ∙ with_fields-second (line_fields true) (with_fields a (video_fields video)) (second_with header layout.initrd b) line-behind
    (length-with_fields (video_fields video) 512 a (video-in_first video) size)

-- before 2.02, or without a version
patch-line_offset :
    (a b : List ℕ) (header : Header) (layout : Layout) (video : Option ℕ) → length a ≡ 512 → is_from 0x202 header.version ≡ false
    → patch header layout video (a ++ b)
    ≡ with_fields (with_fields a (video_fields video)) (line_fields false) ++ second_with header layout.initrd b
patch-line_offset a b header layout video size before =
    patch-before a b header layout video size
    ∙ ap (λ (new : Bool). with_fields (with_fields a (video_fields video) ++ second_with header layout.initrd b) (line_fields new)) before
    ∙ with_fields-first (line_fields false) 512 (with_fields a (video_fields video)) (second_with header layout.initrd b) line-in_first
    (length-with_fields (video_fields video) 512 a (video-in_first video) size)

-- the sectors after each write, from 2.02 on
pub patched-line_address :
    (a b a1 b1 b2 b3 : List ℕ) (header : Header) (layout : Layout) (video : Option ℕ) (has_heap has_address : Bool)
    → length a ≡ 512 → has_heap ≡ is_from 0x201 header.version → has_address ≡ is_from 0x202 header.version → has_address ≡ true
    → a1 ≡ with_fields a (video_fields video)
    → b1 ≡ with_fields b (in_second (loader_fields header.version layout.initrd))
    → b2 ≡ with_fields b1 (in_second (heap_fields has_heap (slice_index b 0x11)))
    → b3 ≡ with_fields b2 (in_second (line_fields true))
    → a1 ++ b3 ≡ patch header layout video (a ++ b)
patched-line_address a b a1 b1 b2 b3 header layout video has_heap has_address size heap address from one two three four =
    rw (patch-line_address a b header layout video size (sym address ∙ from), one, four, three, two, heap) refl

-- the sectors after each write, before 2.02 or without a version
pub patched-line_offset :
    (a b a1 a2 b1 b2 : List ℕ) (header : Header) (layout : Layout) (video : Option ℕ) (has_heap has_address : Bool)
    → length a ≡ 512 → has_heap ≡ is_from 0x201 header.version → has_address ≡ is_from 0x202 header.version → has_address ≡ false
    → a1 ≡ with_fields a (video_fields video)
    → b1 ≡ with_fields b (in_second (loader_fields header.version layout.initrd))
    → b2 ≡ with_fields b1 (in_second (heap_fields has_heap (slice_index b 0x11)))
    → a2 ≡ with_fields a1 (line_fields false)
    → a2 ++ b2 ≡ patch header layout video (a ++ b)
patched-line_offset a b a1 a2 b1 b2 header layout video has_heap has_address size heap address from one two three four =
    rw (patch-line_offset a b header layout video size (sym address ∙ from), four, one, three, two, heap) refl

-- ---- a whole kernel

AreWithin-append :
    (size : ℕ) (one other : List Field) → AreWithin size one → AreWithin size other → AreWithin size (one ++ other)
AreWithin-append size [] other _ last = last
AreWithin-append size (field ∷ one) other first last = (first.0, AreWithin-append size one other first.1 last)

video-within : (video : Option ℕ) → AreWithin 1024 (video_fields video)
video-within None = tt
video-within (Some mode) = (omega arith, tt)

initrd-within : (initrd : Option Region) → AreWithin 1024 (initrd_fields initrd)
initrd-within None = tt
initrd-within (Some region) = (omega arith, (omega arith, tt))

loader-within : (version : Option ℕ) (initrd : Option Region) → AreWithin 1024 (loader_fields version initrd)
loader-within None initrd = tt
loader-within (Some version) initrd = (omega arith, initrd-within initrd)

heap-within : (has_heap : Bool) (flags : ℕ) → AreWithin 1024 (heap_fields has_heap flags)
heap-within false flags = tt
heap-within true flags = (omega arith, (omega arith, tt))

line-within : (has_address : Bool) → AreWithin 1024 (line_fields has_address)
line-within true = (omega arith, tt)
line-within false = (omega arith, (omega arith, tt))

replaced-within :
    (header : Header) (initrd : Option Region) (video : Option ℕ) (bytes : List ℕ)
    → AreWithin 1024 (replaced_fields header initrd video bytes)
unfolding replaced_fields
replaced-within header initrd video bytes =
    let loader = loader-within header.version initrd in
    let heap = heap-within (is_from 0x201 header.version) (slice_index bytes 0x211) in
    let start = AreWithin-append 1024 (video_fields video) (loader_fields header.version initrd) (video-within video) loader in
    let most = AreWithin-append 1024 (video_fields video ++ loader_fields header.version initrd) (heap_fields (is_from 0x201 header.version) (slice_index bytes 0x211)) start heap in
    AreWithin-append 1024
    (video_fields video ++ loader_fields header.version initrd ++ heap_fields (is_from 0x201 header.version) (slice_index bytes 0x211))
    (line_fields (is_from 0x202 header.version)) most (line-within (is_from 0x202 header.version))

replaced-whole :
    (header : Header) (initrd : Option Region) (video : Option ℕ) (sectors rest : List ℕ) → length sectors ≡ 1024
    → replaced_fields header initrd video (sectors ++ rest) ≡ replaced_fields header initrd video sectors
unfolding replaced_fields
replaced-whole header initrd video sectors rest size =
    let inside : 0x211 < length sectors = omega arith in
    let flags : slice_index (sectors ++ rest) 0x211 ≡ slice_index sectors 0x211 = get_or_append_left sectors rest 0 0x211 inside in
    ap (λ (n : ℕ). video_fields video ++ loader_fields header.version initrd ++ heap_fields (is_from 0x201 header.version) n ++ line_fields (is_from 0x202 header.version)) flags

-- in a whole kernel the fields of its first two sectors are replaced, and nothing after them
pub patch-whole :
    (header : Header) (layout : Layout) (video : Option ℕ) (sectors rest : List ℕ) → length sectors ≡ 1024
    → patch header layout video (sectors ++ rest) ≡ patch header layout video sectors ++ rest
unfolding patch
patch-whole header layout video sectors rest size =
    ap (λ fields. with_fields (sectors ++ rest) fields) (replaced-whole header layout.initrd video sectors rest size)
    ∙ with_fields-first (replaced_fields header layout.initrd video sectors) 1024 sectors rest
    (replaced-within header layout.initrd video sectors) size
