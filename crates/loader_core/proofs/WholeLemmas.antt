-- A kernel that was loaded as a whole lies in memory as its report has it.
use Rattle.std.proofs.Common.{◌≡◌, ◌≤◌, ◌+◌, ◌-◌, ◌∙◌, inl, inr, ℕ, refl, sym, ap, List, [], ◌∷◌, ◌++◌, length, Option, None, Some, Ok, length-append, arith}
use Rattle.std.specs.Prelude.{IfSome}
use Rattle.std.specs.Option.{option_map}
use Rattle.std.proofs.lemmas.List.{append-nil}
use Rattle.lilo_model.specs.Bytes.{part_of, filled_bytes}
use Rattle.lilo_model.specs.Header as headers
use Rattle.lilo_model.specs.Header.{patch}
use Rattle.lilo_model.specs.Place.{Memory, Written, with_bytes, memory_after, initrd_written, written_by}
use Rattle.lilo_model.specs.Boot.{Loaded}
use Rattle.bios_model.specs.Memory.{memory_of}
use Rattle.setup_header.specs.declared.layout.Region.{Region}
use Rattle.setup_header.specs.declared.layout.Layout.{Layout}
use Rattle.setup_header.specs.View.{region_view, layout_view}
use Rattle.setup_header.specs.Words.{EndsBy, LiesIn, IsApartFrom, AreApart}
use Rattle.loader_core.specs.Kernel.{IsPlaced, IsSized, IsInitrd, region_in, optional_region, regions_in, IsKernel}
use Rattle.loader_core.specs.Report.{initrd_read}
use Rattle.section_loader.proofs.LoadLemmas.{with_bytes-join}
use Rattle.loader_core.proofs.LoadedLemmas.{Loading, ending, IsPlanned, loaded_whole, written_pieces}
use Rattle.loader_core.proofs.MemoryLemmas.{IsApart, AreApartFrom, held, memory_after-append}

-- ---- apart

apart_by :
    (one other : Region) (bytes bytes' : List ℕ) → IsApartFrom one other → length bytes ≡ one.length → length bytes' ≡ other.length
    → IsApart (record { address = one.address; bytes = bytes }) (record { address = other.address; bytes = bytes' })
apart_by one other bytes bytes' (inl before) long long' = inl (omega arith)
apart_by one other bytes bytes' (inr behind) long long' = inr (omega arith)

apart_sym : (one other : Region) → IsApartFrom one other → IsApartFrom other one
apart_sym one other (inl before) = inr before
apart_sym one other (inr behind) = inl behind

-- ---- regions

-- a region holds the bytes that were placed there
region_held :
    (ram : List ℕ) (m : Memory) (region : Region) (bytes : List ℕ) (others : List Written)
    → memory_of ram ≡ memory_after (with_bytes m (record { address = region.address; bytes = bytes })) others
    → AreApartFrom (record { address = region.address; bytes = bytes }) others → length bytes ≡ region.length → EndsBy (length ram) region
    → ◌≡◌ {A = Written} (record { address = region.address; bytes = bytes }) (region_in ram (region_view region))
region_held ram m region bytes others is apart long inside =
    let here = held ram m (record { address = region.address; bytes = bytes }) others is apart (omega arith) in
    let there : bytes ≡ part_of ram region.address region.length = sym here ∙ ap (λ n. part_of ram region.address n) long in
    ap (λ b. record { address = region.address; bytes = b }) there

-- all regions hold what was placed there, without an initrd
held_none :
    (ram : List ℕ) (m : Memory) (real protected line : Region) (b1 b2 b4 : List ℕ)
    → length b1 ≡ real.length → length b2 ≡ protected.length → length b4 ≡ line.length
    → EndsBy (length ram) real → EndsBy (length ram) protected → EndsBy (length ram) line
    → IsApartFrom real line → IsApartFrom real protected → IsApartFrom line protected
    → memory_of ram ≡ memory_after m
    (record { address = real.address; bytes = b1 } ∷ (record { address = protected.address; bytes = b2 } ∷ (record { address = line.address; bytes = b4 } ∷ [])))
    → ◌≡◌ {A = List Written}
    (record { address = real.address; bytes = b1 } ∷ (record { address = protected.address; bytes = b2 } ∷ (record { address = line.address; bytes = b4 } ∷ [])))
    (region_in ram (region_view real) ∷ (region_in ram (region_view protected) ∷ (region_in ram (region_view line) ∷ [])))
held_none ram m real protected line b1 b2 b4 l1 l2 l4 e1 e2 e4 a14 a12 a42 is =
    let w1 : Written = record { address = real.address; bytes = b1 } in
    let w2 : Written = record { address = protected.address; bytes = b2 } in
    let w4 : Written = record { address = line.address; bytes = b4 } in
    let h1 = region_held ram m real b1 (w2 ∷ (w4 ∷ [])) is (apart_by real protected b1 b2 a12 l1 l2, (apart_by real line b1 b4 a14 l1 l4, tt)) l1 e1 in
    let h2 = region_held ram (with_bytes m w1) protected b2 (w4 ∷ []) is (apart_by protected line b2 b4 (apart_sym line protected a42) l2 l4, tt) l2 e2 in
    let h4 = region_held ram (with_bytes (with_bytes m w1) w2) line b4 [] is tt l4 e4 in
    rw (← h1, ← h2, ← h4) refl

-- the same with one
held_some :
    (ram : List ℕ) (m : Memory) (real protected initrd line : Region) (b1 b2 b3 b4 : List ℕ)
    → length b1 ≡ real.length → length b2 ≡ protected.length → length b3 ≡ initrd.length → length b4 ≡ line.length
    → EndsBy (length ram) real → EndsBy (length ram) protected → EndsBy (length ram) initrd → EndsBy (length ram) line
    → IsApartFrom real line → IsApartFrom real protected → IsApartFrom line protected
    → IsApartFrom initrd real → IsApartFrom initrd line → IsApartFrom initrd protected
    → memory_of ram ≡ memory_after m
    (record { address = real.address; bytes = b1 } ∷ (record { address = protected.address; bytes = b2 } ∷ (record { address = initrd.address; bytes = b3 } ∷ (record { address = line.address; bytes = b4 } ∷ []))))
    → ◌≡◌ {A = List Written}
    (record { address = real.address; bytes = b1 } ∷ (record { address = protected.address; bytes = b2 } ∷ (record { address = initrd.address; bytes = b3 } ∷ (record { address = line.address; bytes = b4 } ∷ []))))
    (region_in ram (region_view real) ∷ (region_in ram (region_view protected) ∷ (region_in ram (region_view initrd) ∷ (region_in ram (region_view line) ∷ []))))
held_some ram m real protected initrd line b1 b2 b3 b4 l1 l2 l3 l4 e1 e2 e3 e4 a14 a12 a42 a31 a34 a32 is =
    let w1 : Written = record { address = real.address; bytes = b1 } in
    let w2 : Written = record { address = protected.address; bytes = b2 } in
    let w3 : Written = record { address = initrd.address; bytes = b3 } in
    let w4 : Written = record { address = line.address; bytes = b4 } in
    let h1 = region_held ram m real b1 (w2 ∷ (w3 ∷ (w4 ∷ []))) is
    (apart_by real protected b1 b2 a12 l1 l2, (apart_by real initrd b1 b3 (apart_sym initrd real a31) l1 l3, (apart_by real line b1 b4 a14 l1 l4, tt))) l1 e1 in
    let h2 = region_held ram (with_bytes m w1) protected b2 (w3 ∷ (w4 ∷ [])) is
    (apart_by protected initrd b2 b3 (apart_sym initrd protected a32) l2 l3, (apart_by protected line b2 b4 (apart_sym line protected a42) l2 l4, tt)) l2 e2 in
    let h3 = region_held ram (with_bytes (with_bytes m w1) w2) initrd b3 (w4 ∷ []) is (apart_by initrd line b3 b4 a34 l3 l4, tt) l3 e3 in
    let h4 = region_held ram (with_bytes (with_bytes (with_bytes m w1) w2) w3) line b4 [] is tt l4 e4 in
    rw (← h1, ← h2, ← h3, ← h4) refl

-- whether there is an initrd or none
held_all :
    (ram : List ℕ) (m : Memory) (real protected line : Region) (initrd : Option Region) (b1 b2 b4 : List ℕ) (b3 : Option (List ℕ))
    → length b1 ≡ real.length → length b2 ≡ protected.length → IsSized (option_map region_view initrd) b3 → length b4 ≡ line.length
    → EndsBy (length ram) real → EndsBy (length ram) protected → IfSome initrd (EndsBy (length ram)) → EndsBy (length ram) line
    → IsApartFrom real line → IsApartFrom real protected → IsApartFrom line protected
    → IfSome initrd (λ region. IsApartFrom region real × IsApartFrom region line × IsApartFrom region protected)
    → memory_of ram ≡ memory_after m
    (record { address = real.address; bytes = b1 } ∷ (record { address = protected.address; bytes = b2 } ∷ (initrd_written (option_map region_view initrd) b3 ++ (record { address = line.address; bytes = b4 } ∷ []))))
    → ◌≡◌ {A = List Written}
    (record { address = real.address; bytes = b1 } ∷ (record { address = protected.address; bytes = b2 } ∷ (initrd_written (option_map region_view initrd) b3 ++ (record { address = line.address; bytes = b4 } ∷ []))))
    (region_in ram (region_view real) ∷ (region_in ram (region_view protected) ∷ (optional_region ram (option_map region_view initrd) ++ (region_in ram (region_view line) ∷ []))))
held_all ram m real protected line None b1 b2 b4 None l1 l2 l3 l4 e1 e2 e3 e4 a14 a12 a42 a3 is =
    held_none ram m real protected line b1 b2 b4 l1 l2 l4 e1 e2 e4 a14 a12 a42 is
held_all ram m real protected line None b1 b2 b4 (Some b3) l1 l2 l3 l4 e1 e2 e3 e4 a14 a12 a42 a3 is = absurd l3
held_all ram m real protected line (Some initrd) b1 b2 b4 None l1 l2 l3 l4 e1 e2 e3 e4 a14 a12 a42 a3 is = absurd l3
held_all ram m real protected line (Some initrd) b1 b2 b4 (Some b3) l1 l2 l3 l4 e1 e2 e3 e4 a14 a12 a42 a3 is =
    held_some ram m real protected initrd line b1 b2 b3 b4 l1 l2 l3 l4 e1 e2 e3 e4 a14 a12 a42 a3.0 a3.1 a3.2 is

-- ---- the whole

whole_regions :
    (ram : List ℕ) (layout : Layout) → {written : List Written}
    → written ≡ region_in ram (region_view layout.real) ∷ (region_in ram (region_view layout.protected) ∷ (optional_region ram (option_map region_view layout.initrd) ++ (region_in ram (region_view layout.line) ∷ [])))
    → written ≡ regions_in ram (layout_view layout)
unfolding regions_in
whole_regions ram layout is = is

filled-all : (bytes : List ℕ) → length bytes ≡ 1024 → filled_bytes 1024 bytes ≡ bytes
filled-all bytes long = let none : 1024 - length bytes ≡ 0 = omega arith in rw none (append-nil bytes)

pub kernel_whole :
    (load : Loading) (header : headers.Header) (layout : Layout) (patched : List ℕ) (m0 m1 m2 m3 : Memory) (ram : List ℕ)
    → IsPlanned load header (layout_view layout)
    → patched ≡ patch header (layout_view layout) load.video load.sectors → length patched ≡ 1024 → 1024 ≤ load.entry.main_length
    → IsPlaced layout patched load.rest m0 m1
    → IsInitrd (option_map region_view layout.initrd) (initrd_read load.initrd) m1 m2
    → m3 ≡ with_bytes m2 (record { address = layout.line.address; bytes = load.line })
    → memory_of ram ≡ with_bytes m3 (record { address = layout.line.address + length load.line; bytes = 0 ∷ [] })
    → layout.line.length ≡ length load.line + 1 → LiesIn (length ram) layout → AreApart layout
    → IsKernel layout (ending load) m0 ram
kernel_whole load header layout patched m0 m1 m2 m3 ram planned is size least placed read at end long inside apart =
    let two = planned.begun.two in
    let first : length two.bytes ≡ 1024 = omega (arith, two.long) in
    let same : load.sectors ≡ two.bytes = two.filled ∙ filled-all two.bytes first in
    let sized : length load.sectors ≡ 1024 = ap length same ∙ first in
    let bytes : load.main.bytes ≡ load.sectors ++ (placed.real ++ placed.protected) =
    ap (λ r. r.bytes) two.read ∙ ap (λ r. two.bytes ++ r.bytes) placed.read ∙ ap (λ b. b ++ (placed.real ++ placed.protected)) (sym same) in
    let pieces = written_pieces header (layout_view layout) load.sectors patched placed.real placed.protected load.line read.bytes load.video sized is size placed.real_long in
    let w1 : Written = record { address = layout.real.address; bytes = patched ++ placed.real } in
    let w2 : Written = record { address = layout.protected.address; bytes = placed.protected } in
    let w3 = initrd_written (option_map region_view layout.initrd) read.bytes in
    let w4 : Written = record { address = layout.line.address; bytes = load.line ++ (0 ∷ []) } in
    let joined : memory_of ram ≡ with_bytes m2 w4 =
    end ∙ ap (λ m. with_bytes m (record { address = layout.line.address + length load.line; bytes = 0 ∷ [] })) at
    ∙ with_bytes-join m2 layout.line.address load.line (0 ∷ []) in
    let all : memory_of ram ≡ memory_after m0 (w1 ∷ (w2 ∷ (w3 ++ (w4 ∷ [])))) =
    joined ∙ ap (λ m. with_bytes m w4) (read.placed ∙ ap (λ m. memory_after m w3) placed.placed)
    ∙ sym (memory_after-append (with_bytes (with_bytes m0 w1) w2) w3 (w4 ∷ [])) in
    record {
      written = w1 ∷ (w2 ∷ (w3 ++ (w4 ∷ [])));
      is =
          loaded_whole load header (layout_view layout) read.bytes planned (ap (λ r. r.stop) placed.read) read.is
          ∙ ap (λ b. Ok (record { outcome = Loaded (layout_view layout); written = written_by header (layout_view layout) b read.bytes load.line load.video })) bytes
          ∙ ap (λ w. Ok (record { outcome = Loaded (layout_view layout); written = w })) pieces;
      placed = all;
      held =
          whole_regions ram layout
          (held_all ram m0 layout.real layout.protected layout.line layout.initrd (patched ++ placed.real) placed.protected (load.line ++ (0 ∷ [])) read.bytes
          (rw length-append (omega (arith, size, placed.real_long))) placed.protected_long read.fits (rw length-append (omega (arith, long)))
          inside.real_inside inside.protected_inside inside.initrd_inside inside.line_inside
          apart.real_line apart.real_protected apart.line_protected apart.initrd_others all);
    }
