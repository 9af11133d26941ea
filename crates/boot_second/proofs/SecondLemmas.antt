-- Records that are handed over one after the other, and where a boot hands none over.
use Rattle.std.proofs.Common.{◌≡◌, ◌≤◌, ◌∙◌, ℕ, inl, inr, arith, false, List, [], ◌∷◌, ◌++◌, map, length, drop, Result, Ok, sym, ap, subst, append-nil, length-drop}
use Rattle.std.specs.List.{flat_map}
use Rattle.std.specs.Option.{option_to_list}
use Rattle.std.proofs.lemmas.List.{map-append, length-take-le}
use Rattle.std.proofs.lemmas.List.Concat.{flat_map-append}
use Rattle.disk_trait.specs.declared.disks.Disks.{Ghosts}
use Rattle.disk_trait.specs.Calls.{SameOf}
use Rattle.lilo_model.specs.Boot as boots
use Rattle.lilo_model.specs.Bytes.{bytes32, part_of}
use Rattle.lilo_model.specs.Disks.{Image, Machine, Span}
use Rattle.lilo_model.specs.Place.{Written}
use Rattle.lilo_model.specs.Refusal.{DeviceFault}
use Rattle.setup_header.specs.declared.layout.Layout.{Layout}
use Rattle.setup_header.specs.declared.layout.Region.{Region}
use Rattle.setup_header.specs.View.{layout_view}
use Rattle.setup_header.specs.Words.{EndsBy}
use Rattle.stream_trait.specs.Shows.{SinkState, Shows, sink_of}
use Rattle.stream_trait.specs.declared.shown.Shown.{Shown}
use Rattle.stream_trait.specs.declared.sink.Sink as sinks
use Rattle.stream_trait.specs.declared.source.Source as sources
use Rattle.stream_trait.proofs.ShowsLemmas.{shows_join, shows_same}
use Rattle.memory_dump.specs.Dump.{written_in, regions_of}
use Rattle.loader_core.specs.Report.{Report, boot_report}
use Rattle.loader_core.specs.Start.{OnKeys}
use Rattle.loader_core.proofs.BootLemmas.{keys_map}
use Rattle.lilo_run.specs.Run.{State, Carries, IsLost}
use Rattle.lilo_run.specs.Verdict.{boot_effect, report_effect}
use Rattle.lilo_run.proofs.EffectLemmas.{regions_same}
use Rattle.lilo_run.proofs.RunLemmas.{carries_after}
use Rattle.boot_second.specs.Second.{region_record, entry_record, kernel_entry, kernel_records, sector_records, started_records, report_records, place_records}

-- regions, handed over one after the other
regions_join :
    (memory : List ℕ) (one other : List Region) (a b c : SinkState)
    → Shows a (flat_map region_record (map (written_in memory) one)) b
    → Shows b (flat_map region_record (map (written_in memory) other)) c
    → Shows a (flat_map region_record (map (written_in memory) (one ++ other))) c
regions_join memory one other a b c first second =
    let told : List Region → List ℕ = λ regions. flat_map region_record (map (written_in memory) regions) in
    shows_same a c (told one ++ told other) (told (one ++ other))
    (sym (ap (flat_map region_record) (map-append (written_in memory) one other) ∙ flat_map-append region_record (map (written_in memory) one) (map (written_in memory) other)))
    (shows_join a b c (told one) (told other) first second)

pub region_alone :
    (memory : List ℕ) (region : Region) (a b : SinkState) → Shows a (region_record (written_in memory region)) b
    → Shows a (flat_map region_record (map (written_in memory) (region ∷ []))) b
region_alone memory region a b shown =
    let text = region_record (written_in memory region) in
    shows_same a b text (text ++ []) (sym (append-nil text)) shown

-- all of a kernel, and where it is entered
pub kernel_handed :
    (layout : Layout) (memory : List ℕ) (a b c d e f : SinkState)
    → Shows a (region_record (written_in memory layout.real)) b
    → Shows b (region_record (written_in memory layout.protected)) c
    → Shows c (flat_map region_record (map (written_in memory) (option_to_list layout.initrd))) d
    → Shows d (region_record (written_in memory layout.line)) e
    → Shows e (entry_record kernel_entry) f
    → Shows a (kernel_records memory (layout_view layout)) f
unfolding kernel_records
kernel_handed layout memory a b c d e f real protected initrd line entry =
    let last = option_to_list layout.initrd ++ (layout.line ∷ []) in
    let regions =
    regions_join memory (layout.real ∷ []) (layout.protected ∷ last) a b e (region_alone memory layout.real a b real)
    (regions_join memory (layout.protected ∷ []) last b c e (region_alone memory layout.protected b c protected)
    (regions_join memory (option_to_list layout.initrd) (layout.line ∷ []) c d e initrd (region_alone memory layout.line d e line))) in
    shows_join a e f _ _ (shows_same a e _ _ (ap (flat_map region_record) (sym (regions_same memory layout))) regions) entry

-- a region of one memory is that of another with the same bytes
pub handed_in :
    {one : List ℕ} (other : List ℕ) (region : Region) (a b : SinkState) → one ≡ other
    → Shows a (region_record (written_in one region)) b → Shows a (region_record (written_in other region)) b
handed_in other region a b same shown = subst (λ memory. Shows a (region_record (written_in memory region)) b) same shown

-- what a boot started was handed over, as its report says
pub started_handed :
    (report : Report) (outcome : boots.Outcome) (written : List Written) (ram : List ℕ) (a b : SinkState)
    → report.result ≡ Ok (record { outcome = outcome; written = written })
    → Shows a (started_records ram outcome) b → Shows a (report_records report ram) b
started_handed report outcome written ram a b is shown = rw is shown

-- a device was found, and booted
pub place_booted :
    {D I R : Type 0} → (g : Ghosts D) (i : sources.Ghosts I) (r : sinks.Ghosts R) (now : Image) (machine : Machine) (size : ℕ) (place : Result Span DeviceFault)
    (span : Span) (status : ℕ) (keys : I × I) (first : D) (old new : State D) (ram : List ℕ) (to to' : Shown R)
    → place ≡ Ok span → SameOf g first old.disks → g.faults first ≤ g.faults old.disks
    → OnKeys i keys (λ all left. Carries g (report_effect false (boot_report now machine span size all)) status left old new
    × (status ≡ 0 → Shows (sink_of r to) (report_records (boot_report now machine span size all) ram) (sink_of r to')))
    → OnKeys i keys (λ all left. Carries g (boot_effect now machine size false place all) status left (record { disks = first; memory = old.memory; sink = old.sink; key_faults = old.key_faults }) new
    × (status ≡ 0 → Shows (sink_of r to) (place_records now machine size place all ram) (sink_of r to')))
unfolding boot_effect
place_booted g i r now machine size place span status keys first old new ram to to' is same later goes =
    keys_map i keys _ _
    (λ all left went. rw is (carries_after g (report_effect false (boot_report now machine span size all)) status left first old new same later went.0, went.1)) goes

-- where a disk failed the status isn't 0
pub not_zero : (status : ℕ) → status ≡ 0 → IsLost status → ⊥
not_zero status zero (inl eight) = omega (arith, zero, eight)
not_zero status zero (inr (inl nine)) = omega (arith, zero, nine)
not_zero status zero (inr (inr ten)) = omega (arith, zero, ten)

-- ---- the parts of a record

pub region_handed :
    (memory : List ℕ) (region : Region) (first second bytes : List ℕ) (a b c d : SinkState) → EndsBy (length memory) region
    → first ≡ bytes32 region.address → second ≡ bytes32 region.length → bytes ≡ part_of memory region.address region.length
    → Shows a first b → Shows b second c → Shows c bytes d → Shows a (region_record (written_in memory region)) d
unfolding region_record
region_handed memory region first second bytes a b c d inside is long are one two three =
    let size : length (part_of memory region.address region.length) ≡ region.length =
    length-take-le region.length (drop region.address memory) (omega (arith, inside, length-drop region.address memory)) in
    shows_join a b d _ _ (shows_same a b _ _ is one)
    (shows_join b c d _ _ (shows_same b c _ _ (long ∙ ap bytes32 (sym size)) two) (shows_same c d _ _ are three))

pub entry_handed :
    (entry : ℕ) (first second : List ℕ) (a b c : SinkState) → first ≡ bytes32 entry → second ≡ bytes32 0xFFFFFFFF
    → Shows a first b → Shows b second c → Shows a (entry_record entry) c
unfolding entry_record
entry_handed entry first second a b c is end one two = shows_join a b c _ _ (shows_same a b _ _ is one) (shows_same b c _ _ end two)

pub sector_handed :
    (memory : List ℕ) (a b c d : SinkState)
    → Shows a (region_record (written_in memory (record { address = 0x7BE; length = 64 }))) b
    → Shows b (region_record (written_in memory (record { address = 0x7C00; length = 512 }))) c
    → Shows c (entry_record 0x7C00) d → Shows a (sector_records memory) d
unfolding sector_records
sector_handed memory a b c d table sector entry = shows_join a b d _ _ table (shows_join b c d _ _ sector entry)
