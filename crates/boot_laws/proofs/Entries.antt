-- What a boot reads of an entry is the same on images that are the same on its sectors.
use Rattle.std.proofs.Common.{◌≡◌, ℕ, zero, suc, Bool, true, false, if◌then◌else◌, List, [], ◌∷◌, ◌++◌, map, Option, None, Some, option_map, Result, Ok, Err, refl, ap, subst, ◌∙◌}
use Rattle.std.specs.Prelude.{option_and_then}
use Rattle.std.specs.List.{flat_map, zip, slice_get}
use Rattle.std.specs.Result.{result_ok}
use Rattle.lilo_model.specs.Checks.{◌>>=◌}
use Rattle.lilo_model.specs.Disks.{Image, Machine, DiskSector, bytes_at}
use Rattle.lilo_model.specs.Slots as slots
use Rattle.lilo_model.specs.Slots.{Slot, place_at}
use Rattle.lilo_model.specs.Table.{Descriptor, fallback_flag}
use Rattle.lilo_model.specs.Options.{extra_at}
use Rattle.lilo_model.specs.Prompt.{Picked}
use Rattle.lilo_model.specs.Section.{file_listing, file_content}
use Rattle.lilo_model.specs.Mapped.{found_places, slot_places, optional_places, listing_places, file_places, entry_places}
use Rattle.lilo_model.specs.Boot.{slot_bytes_at, optional_at, entry_has, extra_slot, GoodMap, listed_entry, listed_entries, middle_of, main_of, kernel_ending, entry_ending, picked_entry}
use Rattle.boot_laws.proofs.Same.{Same, same-front, same-back}
use Rattle.boot_laws.proofs.Listings.{content-same}

module _ (image other : Image) (machine : Machine) where
  -- ---- one sector

  bytes-by_place : (place : Result DiskSector slots.AddressFault) → Same image other (found_places (place ∷ [])) → (place >>= λ at. Ok (bytes_at other at)) ≡ (place >>= λ at. Ok (bytes_at image at))
  bytes-by_place (Ok place) same = ap Ok same.0
  bytes-by_place (Err fault) same = refl

  pub slot_bytes_at-same : (slot : Slot) → Same image other (slot_places machine slot) → slot_bytes_at other machine slot ≡ slot_bytes_at image machine slot
  unfolding slot_bytes_at
  slot_bytes_at-same slot same = bytes-by_place (place_at machine slot 0) same

  optional_at-same : (slot : Option Slot) → Same image other (optional_places machine slot) → optional_at other machine slot ≡ optional_at image machine slot
  optional_at-same None same = refl
  optional_at-same (Some slot) same = ap (λ found. found >>= λ bytes. Ok (Some bytes)) (slot_bytes_at-same slot same)

  -- ---- one file

  -- the content of a file that may be absent
  pub file-same : (len chain : ℕ) (slot : Option Slot) → Same image other (file_places (λ slot. file_listing image machine slot len chain) slot)
      → option_map (λ slot. file_content other machine slot len chain) slot ≡ option_map (λ slot. file_content image machine slot len chain) slot
  file-same len chain None same = refl
  file-same len chain (Some slot) same = ap Some (content-same image other machine slot len chain same)

  -- ---- one entry

  -- the same on each part of an entry's sectors
  pub record EntrySame (entry : Descriptor) : Type 0 where
    pub options : Same image other (slot_places machine entry.options)
    pub extra : Same image other (optional_places machine entry.extra)
    pub main : Same image other (listing_places (file_listing image machine entry.first entry.main_length entry.chain))
    pub initrd : Same image other (file_places (λ slot. file_listing image machine slot entry.initrd_length entry.initrd_chain) entry.initrd)

  pub entry-parts : (entry : Descriptor) → Same image other (entry_places image machine entry) → EntrySame entry
  unfolding entry_places
  entry-parts entry same =
      let options = slot_places machine entry.options in
      let extra = optional_places machine entry.extra in
      let main = listing_places (file_listing image machine entry.first entry.main_length entry.chain) in
      let initrd = file_places (λ slot. file_listing image machine slot entry.initrd_length entry.initrd_chain) entry.initrd in
      let main_before : Same image other ((options ++ extra) ++ main) = same-front image other ((options ++ extra) ++ main) initrd same in
      let texts : Same image other (options ++ extra) = same-front image other (options ++ extra) main main_before in
      record {
        options = same-front image other options extra texts;
        extra = same-back image other options extra texts;
        main = same-back image other (options ++ extra) main main_before;
        initrd = same-back image other ((options ++ extra) ++ main) initrd same;
      }

  flagged-same : (set : Bool) (slot : Option Slot) → Same image other (optional_places machine slot) → optional_at other machine (if set then slot else None) ≡ optional_at image machine (if set then slot else None)
  flagged-same true slot same = optional_at-same slot same
  flagged-same false slot same = refl

  -- the extra sector, where a flag asks for it
  extra-same : (flag : ℕ) (entry : Descriptor) → EntrySame entry → optional_at other machine (extra_slot flag entry) ≡ optional_at image machine (extra_slot flag entry)
  extra-same flag entry same = flagged-same (entry_has entry flag) entry.extra same.extra

  -- the fallback of an extra sector that was read
  abbrev fallback_in : Result (List ℕ) slots.AddressFault → Option (List ℕ)
  fallback_in found = option_and_then (λ bytes. option_map (λ extra. extra.fallback) (result_ok (extra_at bytes))) (result_ok found)

  fallback-flagged : (set : Bool) (slot : Option Slot) → Same image other (optional_places machine slot)
      → option_and_then (λ slot. fallback_in (slot_bytes_at other machine slot)) (if set then slot else None) ≡ option_and_then (λ slot. fallback_in (slot_bytes_at image machine slot)) (if set then slot else None)
  fallback-flagged true None same = refl
  fallback-flagged true (Some slot) same = ap fallback_in (slot_bytes_at-same slot same)
  fallback-flagged false slot same = refl

  listed_entry-same : (entry : Descriptor) (password : Option (List ℕ)) → EntrySame entry → listed_entry other machine (entry, password) ≡ listed_entry image machine (entry, password)
  listed_entry-same entry password same =
      ap (λ fallback. record (listed_entry image machine (entry, password)) { fallback = fallback }) (fallback-flagged (entry_has entry fallback_flag) entry.extra same.extra)

  pub middle_of-same : (entry : Descriptor) → EntrySame entry → middle_of other machine entry ≡ middle_of image machine entry
  unfolding middle_of
  middle_of-same entry same =
      rw (slot_bytes_at-same entry.options same.options, extra-same fallback_flag entry same) refl

  pub entry_ending-same : (entry : Descriptor) (picked : Picked) (middle : List ℕ) (memory : ℕ)
      → Same image other (listing_places (file_listing image machine entry.first entry.main_length entry.chain))
      → Same image other (file_places (λ slot. file_listing image machine slot entry.initrd_length entry.initrd_chain) entry.initrd)
      → entry_ending other machine entry picked middle memory ≡ entry_ending image machine entry picked middle memory
  unfolding entry_ending kernel_ending main_of
  entry_ending-same entry picked middle memory main initrd =
      rw (content-same image other machine entry.first entry.main_length entry.chain main, file-same entry.initrd_length entry.initrd_chain entry.initrd initrd) refl

  -- ---- the entries

  -- the same on the sectors of each entry
  abbrev pub EntriesSame : List Descriptor → Type 0
  EntriesSame entries = Same image other (flat_map (entry_places image machine) entries)

  pub extras-same : (flag : ℕ) (entries : List Descriptor) → EntriesSame entries → map (λ entry. optional_at other machine (extra_slot flag entry)) entries ≡ map (λ entry. optional_at image machine (extra_slot flag entry)) entries
  extras-same flag [] same = refl
  extras-same flag (entry ∷ entries) same =
      let head = entry-parts entry (same-front image other (entry_places image machine entry) (flat_map (entry_places image machine) entries) same) in
      let tail = same-back image other (entry_places image machine entry) (flat_map (entry_places image machine) entries) same in
      ap (λ extra. extra ∷ map (λ entry. optional_at other machine (extra_slot flag entry)) entries) (extra-same flag entry head)
      ∙ ap (λ extras. optional_at image machine (extra_slot flag entry) ∷ extras) (extras-same flag entries tail)

  listed-same : (entries : List Descriptor) (passwords : List (Option (List ℕ))) → EntriesSame entries → map (listed_entry other machine) (zip entries passwords) ≡ map (listed_entry image machine) (zip entries passwords)
  listed-same [] passwords same = refl
  listed-same (entry ∷ entries) [] same = refl
  listed-same (entry ∷ entries) (password ∷ passwords) same =
      let head = entry-parts entry (same-front image other (entry_places image machine entry) (flat_map (entry_places image machine) entries) same) in
      let tail = same-back image other (entry_places image machine entry) (flat_map (entry_places image machine) entries) same in
      ap (λ listed. listed ∷ map (listed_entry other machine) (zip entries passwords)) (listed_entry-same entry password head)
      ∙ ap (λ listed. listed_entry image machine (entry, password) ∷ listed) (listed-same entries passwords tail)

  pub listed_entries-same : (good : GoodMap) → EntriesSame good.entries → listed_entries other machine good ≡ listed_entries image machine good
  unfolding listed_entries
  listed_entries-same good same = listed-same good.entries good.passwords same

  at-same : (entries : List Descriptor) (index : ℕ) (entry : Descriptor) → EntriesSame entries → slice_get entries index ≡ Some entry → EntrySame entry
  at-same [] index entry same is = absurd (cc)
  at-same (first ∷ entries) zero entry same is =
      let head = entry-parts first (same-front image other (entry_places image machine first) (flat_map (entry_places image machine) entries) same) in
      let first-is : first ≡ entry = cc in
      subst EntrySame first-is head
  at-same (first ∷ entries) (suc index) entry same is =
      at-same entries index entry (same-back image other (entry_places image machine first) (flat_map (entry_places image machine) entries) same) is

  picked-from : (found : Option Descriptor) (by picked : Picked) (entry : Descriptor) → option_map {U = Descriptor × Picked} (λ entry. (entry, by)) found ≡ Some (entry, picked) → found ≡ Some entry
  picked-from None by picked entry is = absurd (cc)
  picked-from (Some found) by picked entry is =
      let pairs : ◌≡◌ {A = Descriptor × Picked} (found, by) (entry, picked) = cc in
      ap (λ (pair : Descriptor × Picked). Some pair.0) pairs

  -- the entry that is picked is one of them
  pub picked-same : (entries : List Descriptor) (by : Option Picked) (entry : Descriptor) (picked : Picked) → EntriesSame entries → picked_entry entries by ≡ Some (entry, picked) → EntrySame entry
  picked-same entries None entry picked same is = absurd (cc)
  picked-same entries (Some by) entry picked same is = at-same entries by.entry entry same (picked-from (slice_get entries by.entry) by picked entry is)
