-- The steps of loading a kernel, one after the other.
use Rattle.std.proofs.Common.{◌≡◌, ◌≤◌, ◌<◌, ◌+◌, ◌-◌, ◌∙◌, ◌⊎◌, inl, inr, ℕ, zero, suc, Bool, true, false, refl, sym, ap, List, [], ◌∷◌, ◌++◌, length, Option, None, Some, Result, Ok, Err, append_assoc, length-append, arith}
use Rattle.std.specs.Prelude.{min, nat_le, replicate, is_some}
use Rattle.std.proofs.lemmas.List.{append-nil}
use Rattle.lilo_model.specs.Bytes.{filled_bytes}
use Rattle.lilo_model.specs.Header as headers
use Rattle.lilo_model.specs.Place.{Memory, with_bytes}
use Rattle.setup_header.specs.declared.layout.Layout.{Layout}
use Rattle.section_loader.specs.declared.reason.Halt.{Halt}
use Rattle.section_loader.specs.declared.reason.Halt.TheVariants.{Device, Refused}
use Rattle.section_loader.specs.Reading.{FileRest, rest_behind}
use Rattle.section_loader.specs.Load.{Loads, IsLoaded, IsCutSector, ReadsCut}
use Rattle.loader_core.specs.Kernel.{ReadsTwo, PlacesKernel, PlacesInitrd}
use Rattle.loader_core.specs.Report.{initrd_read}
use Rattle.section_loader.proofs.LoadLemmas.{with_bytes-join}

-- ---- the first two sectors

replicate-join : (one other : ℕ) → ◌≡◌ {A = List ℕ} (replicate one 0 ++ replicate other 0) (replicate (one + other) 0)
replicate-join zero other = let same : 0 + other ≡ other = omega arith in rw same refl
replicate-join (suc one) other =
    let same : suc one + other ≡ suc (one + other) = omega arith in
    rw same (ap (λ bytes. 0 ∷ bytes) (replicate-join one other))

filled-two :
    (one other : List ℕ) → (length one ≡ 512) ⊎ ((length other ≡ 0) × (length one ≤ 512)) → length other ≤ 512
    → filled_bytes 512 one ++ filled_bytes 512 other ≡ filled_bytes 1024 (one ++ other)
filled-two one other (inl full) few =
    let none : 512 - length one ≡ 0 = omega arith in
    let rest : 1024 - length (one ++ other) ≡ 512 - length other = rw length-append (omega arith) in
    rw (none, rest) (ap (λ front. front ++ filled_bytes 512 other) (append-nil one) ∙ sym (append_assoc one other (replicate (512 - length other) 0)))
filled-two one [] (inr less) few =
    let rest : 1024 - length one ≡ (512 - length one) + 512 = omega (arith, less.1) in
    rw (append-nil one, rest)
    (append_assoc one (replicate (512 - length one) 0) (replicate 512 0)
    ∙ ap (λ zeros. one ++ zeros) (replicate-join (512 - length one) 512))
filled-two one (byte ∷ other) (inr less) few = absurd (omega (arith, less.0))

two_kind :
    (large : Bool) (left one other : ℕ) → nat_le 512 left ≡ large → one ≡ min 512 left → other ≡ min 512 (left - min 512 left)
    → (one ≡ 512) ⊎ ((other ≡ 0) × (one ≤ 512))
two_kind true left one other is first second = let more : 512 ≤ left = grind arith in inl (omega arith)
two_kind false left one other is first second = let less : left < 512 = grind arith in inr (omega arith, omega arith)

-- two sectors, or what is in place of the second
pub two_read :
    (left more : ℕ) (result : Result (Unit {0}) Halt) (old mid new : FileRest) (first second : List ℕ)
    → more ≡ left - min 512 left → IsCutSector (min 512 left) old first mid → ReadsCut result (min 512 more) mid second new
    → ReadsTwo result (min 1024 left) old (first ++ second) new
two_read left more (Ok done) old mid new first second rest one other =
    let kind : (length one.bytes ≡ 512) ⊎ ((length other.bytes ≡ 0) × (length one.bytes ≤ 512)) =
    two_kind _ left (length one.bytes) (length other.bytes) refl one.long (other.long ∙ ap (λ n. min 512 n) rest) in
    record {
      bytes = one.bytes ++ other.bytes;
      long = rw length-append (omega (arith, rest, one.long, other.long));
      read =
          one.read ∙ ap (λ r. rest_behind one.bytes r) other.read
          ∙ ap (λ all. record { bytes = all; stop = new.stop }) (sym (append_assoc one.bytes other.bytes new.bytes));
      filled = rw (one.filled, other.filled) (filled-two one.bytes other.bytes kind (omega (arith, other.long)));
    }
two_read left more (Err Device) old mid new first second rest one other = tt
two_read left more (Err (Refused reason)) old mid new first second rest one other =
    let size : length old.bytes ≡ length one.bytes + length mid.bytes = ap (λ r. length r.bytes) one.read ∙ length-append one.bytes mid.bytes in
    record {
      stops = ap (λ r. r.stop) one.read ∙ other.stops;
      short = omega (arith, rest, size, one.long, other.short);
    }

-- ---- a kernel

-- the pieces of a kernel, one after the other
pub kernel_placed :
    (layout : Layout) (first second : List ℕ) (result : Result (Unit {0}) Halt) (old mid new : FileRest) (m0 m1 m2 m3 m4 : Memory)
    → length first ≡ 512 → length second ≡ 512 → 1024 ≤ layout.real.length
    → m1 ≡ with_bytes m0 (record { address = layout.real.address; bytes = first })
    → m2 ≡ with_bytes m1 (record { address = layout.real.address + 512; bytes = second })
    → IsLoaded (layout.real.length - 1024) (layout.real.address + 1024) old m2 mid m3
    → Loads result layout.protected.length layout.protected.address mid m3 new m4
    → ((done : Unit {0}) → result ≡ Ok done → new ≡ record { bytes = []; stop = None })
    → PlacesKernel result layout (first ++ second) old m0 m4
kernel_placed layout first second (Ok done) old mid new m0 m1 m2 m3 m4 long1 long2 least at1 at2 real protected ends =
    let at : ℕ = layout.real.address in
    let two : m2 ≡ with_bytes m0 (record { address = at; bytes = first ++ second }) =
    at2
    ∙ ap (λ m. with_bytes m (record { address = at + 512; bytes = second })) at1
    ∙ ap (λ n. with_bytes (with_bytes m0 (record { address = at; bytes = first })) (record { address = at + n; bytes = second })) (sym long1)
    ∙ with_bytes-join m0 at first second in
    let size : 1024 ≡ length (first ++ second) = rw length-append (omega (arith, long1, long2)) in
    let three : m3 ≡ with_bytes m0 (record { address = at; bytes = (first ++ second) ++ real.bytes }) =
    real.placed
    ∙ ap (λ m. with_bytes m (record { address = at + 1024; bytes = real.bytes })) two
    ∙ ap (λ n. with_bytes (with_bytes m0 (record { address = at; bytes = first ++ second })) (record { address = at + n; bytes = real.bytes })) size
    ∙ with_bytes-join m0 at (first ++ second) real.bytes in
    record {
      real = real.bytes;
      protected = protected.bytes;
      real_long = omega (arith, real.long);
      protected_long = protected.long;
      read =
          real.read
          ∙ ap (λ r. rest_behind real.bytes r) (protected.read ∙ ap (λ r. rest_behind protected.bytes r) (ends done refl))
          ∙ ap (λ b. record { bytes = real.bytes ++ b; stop = None }) (append-nil protected.bytes);
      placed =
          protected.placed
          ∙ ap (λ m. with_bytes m (record { address = layout.protected.address; bytes = protected.bytes })) three;
    }
kernel_placed layout first second (Err Device) old mid new m0 m1 m2 m3 m4 long1 long2 least at1 at2 real protected ends = tt
kernel_placed layout first second (Err (Refused reason)) old mid new m0 m1 m2 m3 m4 long1 long2 least at1 at2 real protected ends =
    ap (λ r. r.stop) real.read ∙ protected.stops

-- an initrd that was loaded
pub initrd_placed :
    (region : headers.Region) (result : Result (Unit {0}) Halt) (old new : FileRest) (m m' : Memory)
    → Loads result region.size region.address old m new m'
    → ((done : Unit {0}) → result ≡ Ok done → new ≡ record { bytes = []; stop = None })
    → PlacesInitrd result (Some region) (initrd_read (Some old)) m m'
initrd_placed region (Ok done) old new m m' loaded ends =
    let whole : old ≡ record { bytes = loaded.bytes; stop = None } =
    loaded.read ∙ ap (λ r. rest_behind loaded.bytes r) (ends done refl)
    ∙ ap (λ b. record { bytes = b; stop = None }) (append-nil loaded.bytes) in
    record {
      bytes = Some loaded.bytes;
      is = ap (λ r. initrd_read (Some r)) whole;
      fits = loaded.long;
      placed = loaded.placed;
    }
initrd_placed region (Err Device) old new m m' loaded ends = tt
initrd_placed region (Err (Refused reason)) old new m m' short ends =
    rw short.stops refl

-- there is no initrd where its region isn't there
pub none_from : {A B : Type 0} → (region : Option A) (slot : Option B) → region ≡ None → is_some region ≡ is_some slot → slot ≡ None
none_from region None none same = refl
none_from region (Some slot) none same = let h : ⊥ = (let e = rw none at same in cc) in absurd h
