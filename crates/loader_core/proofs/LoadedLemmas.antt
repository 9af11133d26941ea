-- What a kernel's loading comes to, at each step that may end it.
use Rattle.std.proofs.Common.{◌≡◌, ◌≤◌, ◌<◌, ◌+◌, ◌∙◌, ℕ, Bool, true, false, refl, sym, ap, subst, List, [], ◌∷◌, ◌++◌, take, drop, length, suc, Option, None, Some, Result, Ok, Err, append_assoc, length-append, arith}
use Rattle.std.specs.Prelude.{min, nat_le, nat_lt}
use Rattle.std.specs.Option.{option_map}
use Rattle.std.proofs.lemmas.List.{append-nil, take_all}
use Rattle.std.proofs.Math.Seq.{take-append_seam, drop-append_seam}
use Rattle.lilo_model.specs.Bytes.{filled_bytes}
use Rattle.lilo_model.specs.Checks.{◌>>=◌, with_fault}
use Rattle.lilo_model.specs.Header as headers
use Rattle.lilo_model.specs.Header.{header_at, plan_memory, patch}
use Rattle.lilo_model.specs.Table.{Descriptor}
use Rattle.lilo_model.specs.Place.{Memory, first_two, initrd_written, written_by}
use Rattle.lilo_model.specs.Reason as reasons
use Rattle.lilo_model.specs.Boot.{Ending, Loaded, initrd_size}
use Rattle.setup_header.proofs.Replaced.{patch-whole}
use Rattle.section_loader.specs.declared.reason.Reason.{Reason}
use Rattle.setup_header.specs.declared.layout.Layout.{Layout}
use Rattle.setup_header.specs.View.{region_view, layout_view}
use Rattle.section_loader.specs.declared.reason.Halt.{Halt}
use Rattle.section_loader.specs.declared.reason.Halt.TheVariants.{Device, Refused}
use Rattle.section_loader.specs.Reading.{FileRest}
use Rattle.lilo_model.specs.Disks.{Image, Machine}
use Rattle.section_loader.specs.declared.file.FileReader.{FileReader}
use Rattle.section_loader.specs.File.{rest_in}
use Rattle.section_loader.proofs.RestLemmas.{rest_most}
use Rattle.loader_core.specs.Kernel.{IsTwo, ReadsTwo, GivesHeader, GivesLayout, IsPlaced, PlacesKernel, PlacesInitrd, LoadsKernel, IsSetupRefusal}
use Rattle.loader_core.specs.Report.{whole_read, initrd_read, loaded_by}
use Rattle.section_loader.specs.View.{reason_view}

-- ---- the first two sectors

is_less : (a b : ℕ) → a < b → nat_lt a b ≡ true
is_less a b less = grind arith

not_less : (a b : ℕ) → b ≤ a → nat_lt a b ≡ false
not_less a b more = grind arith

front_two :
    (large : Bool) (len : ℕ) (bytes rest : List ℕ) → nat_le 1024 len ≡ large → length bytes ≡ min 1024 len → length (bytes ++ rest) ≤ len
    → take 1024 (bytes ++ rest) ≡ bytes
front_two true len bytes rest is long most =
    let more : 1024 ≤ len = grind arith in
    let size : length bytes ≡ 1024 = omega arith in
    ap (λ n. take n (bytes ++ rest)) (sym size) ∙ take-append_seam bytes rest
front_two false len bytes [] is long most =
    let less : len < 1024 = grind arith in
    let size : length bytes ≤ 1024 = omega arith in
    ap (λ all. take 1024 all) (append-nil bytes) ∙ take_all 1024 bytes size
front_two false len bytes (byte ∷ rest) is long most =
    let less : len < 1024 = grind arith in
    let size : length bytes + suc (length rest) ≤ len = rw length-append at most in
    absurd (omega arith)

-- ---- what is loaded

-- a kernel that is loaded, from the reading of its first two sectors on: what is read of its file, those sectors and what
-- is left behind them, what is read of its initrd, and what it is loaded with
pub record Loading : Type 0 where
  pub entry : Descriptor
  pub main : FileRest
  pub sectors : List ℕ
  pub rest : FileRest
  pub initrd : Option FileRest
  pub line : List ℕ
  pub video : Option ℕ
  pub memory : ℕ

-- its header, its layout, and what it comes to
abbrev pub header_of : Loading → Result headers.Header headers.SetupFault
header_of load = header_at load.sectors load.entry.main_length

abbrev pub layout_of : Loading → headers.Header → Result headers.Layout headers.SetupFault
layout_of load header = plan_memory header load.entry.main_length (initrd_size load.entry) (length load.line) load.memory

abbrev pub ending : Loading → Result Ending reasons.Reason
ending load = loaded_by load.entry load.main load.initrd load.line load.video load.memory

-- what it comes to once the first two sectors are judged
abbrev loaded_from : Loading → Result Ending reasons.Reason
loaded_from load =
    with_fault (λ fault. reasons.Header fault) (header_of load) >>= λ header.
    (with_fault (λ fault. reasons.Header fault) (layout_of load header) >>= λ layout.
    (whole_read load.main >>= λ a.
    (initrd_read load.initrd >>= λ bytes.
    Ok (record { outcome = Loaded layout; written = written_by header layout load.main.bytes bytes load.line load.video }))))

-- its first two sectors are there
pub record IsBegun (load : Loading) : Type 0 where
  pub two : IsTwo (min 1024 load.entry.main_length) load.main load.sectors load.rest
  pub most : length load.main.bytes ≤ load.entry.main_length

-- the sectors that were read are those that are judged
two_sectors : (load : Loading) → IsBegun load → load.sectors ≡ first_two load.main.bytes
two_sectors load begun =
    let two = begun.two in
    let bytes : load.main.bytes ≡ two.bytes ++ load.rest.bytes = ap (λ r. r.bytes) two.read in
    let fits : length (two.bytes ++ load.rest.bytes) ≤ load.entry.main_length = rw bytes at begun.most in
    two.filled
    ∙ ap (λ b. filled_bytes 1024 b) (sym (ap (λ b. take 1024 b) bytes ∙ front_two _ load.entry.main_length two.bytes load.rest.bytes refl two.long fits))

two_there : (load : Loading) → IsBegun load → nat_lt (length load.main.bytes) (min load.entry.main_length 1024) ≡ false
two_there load begun =
    let two = begun.two in
    let size : length load.main.bytes ≡ length two.bytes + length load.rest.bytes = ap (λ r. length r.bytes) two.read ∙ length-append two.bytes load.rest.bytes in
    not_less (length load.main.bytes) (min load.entry.main_length 1024) (omega (arith, two.long))

loaded_begun : (load : Loading) → IsBegun load → ending load ≡ loaded_from load
unfolding loaded_by
loaded_begun load begun = rw (two_there load begun, two_sectors load begun) refl

-- it has a layout
pub record IsPlanned (load : Loading) (header : headers.Header) (layout : headers.Layout) : Type 0 where
  pub begun : IsBegun load
  pub header_is : header_of load ≡ Ok header
  pub layout_is : layout_of load header ≡ Ok layout

loaded_planned :
    (load : Loading) (header : headers.Header) (layout : headers.Layout) → IsPlanned load header layout
    → ending load
    ≡ (whole_read load.main >>= λ a. (initrd_read load.initrd >>= λ bytes. Ok (record { outcome = Loaded layout; written = written_by header layout load.main.bytes bytes load.line load.video })))
loaded_planned load header layout planned = loaded_begun load planned.begun ∙ rw (planned.header_is, planned.layout_is) refl

-- all of it is there
pub loaded_whole :
    (load : Loading) (header : headers.Header) (layout : headers.Layout) (bytes : Option (List ℕ)) → IsPlanned load header layout → load.rest.stop ≡ None → initrd_read load.initrd ≡ Ok bytes
    → ending load ≡ Ok (record { outcome = Loaded layout; written = written_by header layout load.main.bytes bytes load.line load.video })
loaded_whole load header layout bytes planned whole read =
    let stop : load.main.stop ≡ None = ap (λ r. r.stop) planned.begun.two.read ∙ whole in
    loaded_planned load header layout planned ∙ rw (stop, read) refl

-- ---- what is written

-- a kernel in pieces is written piece by piece
pub written_pieces :
    (header : headers.Header) (layout : headers.Layout) (sectors patched real protected line : List ℕ) (bytes : Option (List ℕ)) (video : Option ℕ)
    → length sectors ≡ 1024 → patched ≡ patch header layout video sectors → length patched ≡ 1024 → length real + 1024 ≡ layout.real.size
    → written_by header layout (sectors ++ (real ++ protected)) bytes line video
    ≡ record { address = layout.real.address; bytes = patched ++ real }
    ∷ (record { address = layout.protected.address; bytes = protected }
    ∷ (initrd_written layout.initrd bytes ++ (record { address = layout.line.address; bytes = line ++ (0 ∷ []) } ∷ [])))
unfolding written_by
written_pieces header layout sectors patched real protected line bytes video long is size real_long =
    let whole : patch header layout video (sectors ++ (real ++ protected)) ≡ (patched ++ real) ++ protected =
    patch-whole header layout video sectors (real ++ protected) long
    ∙ ap (λ b. b ++ (real ++ protected)) (sym is) ∙ sym (append_assoc patched real protected) in
    let front : layout.real.size ≡ length (patched ++ real) = rw length-append (omega (arith, size, real_long)) in
    let same_front : layout.real.size ≡ length (sectors ++ real) = rw length-append (omega (arith, long, real_long)) in
    let first : take layout.real.size (patch header layout video (sectors ++ (real ++ protected))) ≡ patched ++ real =
    rw whole (ap (λ n. take n ((patched ++ real) ++ protected)) front ∙ take-append_seam (patched ++ real) protected) in
    let second : drop layout.real.size (sectors ++ (real ++ protected)) ≡ protected =
    ap (λ b. drop layout.real.size b) (sym (append_assoc sectors real protected))
    ∙ ap (λ n. drop n ((sectors ++ real) ++ protected)) same_front ∙ drop-append_seam (sectors ++ real) protected in
    rw (first, second) refl

-- ---- how the steps end

refused_by :
    {A : Type 0} → (read : Result A headers.SetupFault) (next : A → Result Ending reasons.Reason) (reason : Reason) → IsSetupRefusal reason read
    → (with_fault (λ fault. reasons.Header fault) read >>= next) ≡ Err (reason_view reason)
refused_by (Ok value) next reason refused = absurd refused
refused_by (Err fault) next reason refused = ap (λ why. Err why) (sym refused)

-- the first two sectors aren't there
pub ends_short :
    (load : Loading) (now : Image) (machine : Machine) (file : FileReader) (m : Memory) (ram : List ℕ) (halt : Halt)
    → rest_in now machine file ≡ load.main → file.left ≡ load.entry.main_length → ReadsTwo (Err halt) (min 1024 file.left) (rest_in now machine file) load.sectors load.rest
    → LoadsKernel (Err halt) (ending load) m ram
unfolding loaded_by
ends_short load now machine file m ram Device is left read = tt
ends_short load now machine file m ram (Refused reason) is left read =
    let short = rw (is, left) at read in
    let less : nat_lt (length load.main.bytes) (min load.entry.main_length 1024) ≡ true = is_less (length load.main.bytes) (min load.entry.main_length 1024) (omega (arith, short.short)) in
    rw (less, short.stops) refl

-- the header is refused
pub ends_header :
    (load : Loading) (m : Memory) (ram : List ℕ) (halt : Halt) → IsBegun load → GivesHeader (Err halt) (header_of load)
    → LoadsKernel (Err halt) (ending load) m ram
ends_header load m ram Device begun refused = absurd refused
ends_header load m ram (Refused reason) begun refused = loaded_begun load begun ∙ refused_by (header_of load) _ reason refused

-- the layout is refused
pub ends_layout :
    (load : Loading) (header : headers.Header) (m : Memory) (ram : List ℕ) (halt : Halt) → IsBegun load → header_of load ≡ Ok header → GivesLayout (Err halt) (layout_of load header)
    → LoadsKernel (Err halt) (ending load) m ram
ends_layout load header m ram Device begun read refused = absurd refused
ends_layout load header m ram (Refused reason) begun read refused = loaded_begun load begun ∙ rw read (refused_by (layout_of load header) _ reason refused)

-- the others of the kernel's sectors aren't all there
pub ends_kernel :
    (load : Loading) (header : headers.Header) (layout : Layout) (patched : List ℕ) (m m1 : Memory) (ram : List ℕ) (halt : Halt)
    → IsPlanned load header (layout_view layout) → PlacesKernel (Err halt) layout patched load.rest m m1
    → LoadsKernel (Err halt) (ending load) m ram
ends_kernel load header layout patched m m1 ram Device planned stops = tt
ends_kernel load header layout patched m m1 ram (Refused reason) planned stops =
    let stop : load.main.stop ≡ Some (reason_view reason) = ap (λ r. r.stop) planned.begun.two.read ∙ stops in
    loaded_planned load header (layout_view layout) planned ∙ rw stop refl

-- the initrd isn't there
pub ends_initrd :
    (load : Loading) (header : headers.Header) (layout : Layout) (patched : List ℕ) (m m1 m2 : Memory) (ram : List ℕ) (halt : Halt)
    → IsPlanned load header (layout_view layout) → IsPlaced layout patched load.rest m m1
    → PlacesInitrd (Err halt) (option_map region_view layout.initrd) (initrd_read load.initrd) m1 m2
    → LoadsKernel (Err halt) (ending load) m ram
ends_initrd load header layout patched m m1 m2 ram Device planned placed refused = tt
ends_initrd load header layout patched m m1 m2 ram (Refused reason) planned placed refused =
    let stop : load.main.stop ≡ None = ap (λ r. r.stop) planned.begun.two.read ∙ ap (λ r. r.stop) placed.read in
    loaded_planned load header (layout_view layout) planned ∙ rw (stop, refused) refl

-- a file of which the first two sectors were read
pub begun_by :
    (load : Loading) (now : Image) (machine : Machine) (file : FileReader) → rest_in now machine file ≡ load.main → file.left ≡ load.entry.main_length
    → IsTwo (min 1024 file.left) (rest_in now machine file) load.sectors load.rest → IsBegun load
begun_by load now machine file is left two =
    record {
      two = rw (is, left) at two;
      most = subst (λ n. length load.main.bytes ≤ n) left (subst (λ (r : FileRest). length r.bytes ≤ file.left) is (rest_most now machine file));
    }
