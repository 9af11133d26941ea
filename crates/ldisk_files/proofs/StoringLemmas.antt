-- Bytes of a source are stored at a path of the volume in a span.
use Rattle.std.proofs.Common.{◌≡◌, ◌≢◌, ◌≤◌, ◌<◌, ◌*◌, ℕ, Bool, true, false, nat_lt, List, ◌∷◌, length, Option, Some, None, Result, Ok, Err, refl, sym, ◌∙◌, ap, subst, arith}
use Rattle.std.specs.Prelude.{if◌then◌else◌, OnOk, IfErr}
use Rattle.std.proofs.lemmas.Bool.{ltb-true}
use Rattle.disk_trait.specs.declared.disks.Disks.{Ghosts}
use Rattle.disk_trait.specs.declared.disks.Span as declared
use Rattle.disk_trait.specs.Calls.{SameOf}
use Rattle.disk_trait.specs.Moments.{IsTold, IsQuiet}
use Rattle.disk_trait.specs.Past.{Past, Told}
use Rattle.disk_trait.proofs.ToldLemmas.{told_all, told_map, told_both}
use Rattle.lilo_model.specs.Disks.{Span}
use Rattle.lilo_model.specs.Faults.{Rose}
use Rattle.lilo_model.specs.MinixNames.{File}
use Rattle.lilo_model.specs.MinixParts.{volume_at, blocks_for}
use Rattle.minix_create.proofs.StateLemmas.{next_is}
use Rattle.minix_create.specs.Chosen.{Suits, block_of}
use Rattle.minix_layout.specs.declared.superblock.Super as layouts
use Rattle.minix_create.specs.declared.chosen.Chosen.{Chosen}
use Rattle.minix_zones.specs.View as volumes
use Rattle.minix_zones.specs.View.{span_view}
use Rattle.minix_zones.specs.Volume.{volume_view, past_of, faults_of, SameVolume}
use Rattle.minix_zones.specs.declared.volume.Volume.{Volume}
use Rattle.minix_zones.specs.declared.zone_fault.ZoneFault.{ZoneFault}
use Rattle.minix_zones.specs.declared.zone_fault.ZoneFault.TheVariants as zones
use Rattle.ldisk_model.specs.FileVerdict.{Making, NewFile, checked_status, thing_made, sound_check, new_check, made_check}
use Rattle.ldisk_files.specs.Answer.{HasFileCause, zone_fault}
use Rattle.ldisk_files.specs.Inode.{ChangesInodeBy}
use Rattle.ldisk_files.specs.Left.{ChangesName}
use Rattle.ldisk_files.specs.Made.{MayMake, MayMakeSome, MayMakeAt}
use Rattle.ldisk_files.specs.Stored.{padded_block, padded_blocks, IsGiven, OnGiven, HasDiskCause, GivesStored, IsStorable, IsUnread, IsUnreadAt, StoresOn, Stores, file_fault}
use Rattle.ldisk_files.specs.declared.fault.FileFault.{FileFault}
use Rattle.ldisk_files.specs.declared.put_fault.PutFault.{PutFault}
use Rattle.ldisk_files.specs.declared.stored.Stored.{Stored}
use Rattle.ldisk_files.proofs.ContentLemmas.{block-there}
use Rattle.ldisk_files.proofs.InodeLemmas.{inode-at, inode-in}
use Rattle.ldisk_files.proofs.MakeLemmas.{may-some, made-on, made-answer}
use Rattle.ldisk_files.proofs.PathLemmas.{refused-on, answers-at, leaves-at, no-volume, refused-names, check-is, unwritten-same, unwritten-span, unwritten-passed, unwritten-at}
use Rattle.ldisk_files.proofs.StoredLemmas.{on-given, given-all, given-map, answers-as}

-- ---- the next block

next-low : (next len index : ℕ) (answer : Option ℕ) → answer ≡ (if nat_lt next len then Some next else None) → answer ≡ Some index → index < len
next-low next len index answer is some = by (nat_lt next len) refl
  where
    by : (test : Bool) → nat_lt next len ≡ test → index < len
    by true e = let low : next < len = ltb-true next len e in let same : index ≡ next = next_is next len index answer is some in omega (arith, low, same)
    by false e = absurd (let t = rw e at is in cc)

module _ (kept chosen : Chosen) (same : kept ≡ chosen) (bytes : List ℕ) (few : length chosen.choice.blocks ≤ blocks_for (length bytes))
    (next index : ℕ) (answer : Option ℕ) (is : answer ≡ (if nat_lt next (length kept.choice.blocks) then Some next else None)) (some : answer ≡ Some index) where
  -- it is one that the bytes have
  pub next-there : index < blocks_for (length bytes)
  next-there =
      let low : index < length kept.choice.blocks = next-low next (length kept.choice.blocks) index answer is some in
      let long : length kept.choice.blocks ≡ length chosen.choice.blocks = ap (λ (it : Chosen). length it.choice.blocks) same in
      omega (arith, low, long, few)

  pub next-within : 1024 * index ≤ length bytes
  next-within = let there = next-there in omega (arith, there)

  -- and is given there
  pub next-block : (block : List ℕ) → block ≡ padded_block bytes index → block ≡ block_of (padded_blocks bytes) next
  next-block block made =
      made ∙ (sym (block-there bytes index next-there) ∙ ap (block_of (padded_blocks bytes)) (next_is next (length kept.choice.blocks) index answer is some))

-- ---- on a held volume

module _ {D : Type 0} {disks : Ghosts D} (old mid : Volume D disks) (same : SameVolume old mid) (later : faults_of old ≤ faults_of mid) (text : List ℕ) (left : Option (List ℕ)) where
  -- nothing was stored
  pub not-stored : (time : ℕ) (fault : PutFault) → HasDiskCause (faults_of old) (faults_of mid) fault
      → OnGiven left (λ given. GivesStored {B = Stored} (past_of old) (volume_view old) text given (Err (file_fault fault)))
      → OnGiven left (λ given. StoresOn old mid text given time (Err (file_fault fault)))
  not-stored time fault cause takes = given-map (λ given. GivesStored {B = Stored} (past_of old) (volume_view old) text given (Err (file_fault fault))) (λ given. StoresOn old mid text given time (Err (file_fault fault))) left
      (λ given gives. record {
        answers = told_map (past_of old) _ _ (λ now is. answers-as Stored (Unit {0}) (sound_check (made_check (NewFile given) text) (volume_view old) now) (file_fault fault) is) gives;
        leaves = refused-on old mid same later text (Some (File given)) (file_fault fault) cause;
        inode = λ told. tt;
        unwritten = unwritten-same (past_of old) (past_of mid) (made_check (NewFile given) text) (volume_view old) same.same_disks.same_past;
      }) takes

  -- it was stored, or the disk failed
  module _ (stored : Stored) (is : IsGiven left stored.bytes.items)
      (may : IsTold (past_of old) → MayMakeAt old text (NewFile stored.bytes.items) stored.chosen (padded_blocks stored.bytes.items))
      (takes : GivesStored {B = Stored} (past_of old) (volume_view old) text stored.bytes.items (Ok stored))
      (bytes : List ℕ) (held : bytes ≡ stored.bytes.items) where
    pub stored-suits : IsStorable old.layout old.span stored → Suits mid.layout mid.span stored.chosen
    stored-suits suits = subst (λ (layout : layouts.Super). Suits layout mid.span stored.chosen) (sym same.same_layout) (subst (λ (span : declared.Span). Suits old.layout span stored.chosen) (sym same.same_span) suits.suits)

    pub stored-few : IsStorable old.layout old.span stored → length stored.chosen.choice.blocks ≤ blocks_for (length bytes)
    stored-few suits = subst (λ (b : List ℕ). length stored.chosen.choice.blocks ≤ blocks_for (length b)) (sym held) suits.few

    pub stored-may : IsTold (past_of mid) → MayMakeSome mid stored.chosen (padded_blocks bytes)
    stored-may told = subst (λ (b : List ℕ). MayMakeSome mid stored.chosen (padded_blocks b)) (sym held)
        (may-some old mid same text (NewFile stored.bytes.items) stored.chosen (padded_blocks stored.bytes.items) stored may takes told)

    module _ (time : ℕ) (wished : stored.chosen.time ≡ time) (new : Volume D disks) (result : Result (Unit {0}) FileFault)
        (changes-held : (made : Making) (outer : List (List ℕ)) → (IsTold (past_of mid) → MayMake mid outer made stored.chosen (padded_blocks bytes))
        → ChangesName mid new (stored.chosen.name ∷ outer) (Some (thing_made made)) result)
        (makes-held : (made : Making) (outer : List (List ℕ)) → (IsTold (past_of mid) → MayMake mid outer made stored.chosen (padded_blocks bytes))
        → ChangesInodeBy mid new (stored.chosen.name ∷ outer) (Some (made, stored.chosen.time)) result)
        (quiet : OnOk result (IsQuiet (past_of new))) (cause : IfErr result (HasFileCause (faults_of mid) (faults_of new))) where
      changes : (made : Making) (outer : List (List ℕ)) → (IsTold (past_of mid) → MayMake mid outer made stored.chosen (padded_blocks stored.bytes.items))
          → ChangesName mid new (stored.chosen.name ∷ outer) (Some (thing_made made)) result
      changes = subst (λ (b : List ℕ). (made : Making) (outer : List (List ℕ)) → (IsTold (past_of mid) → MayMake mid outer made stored.chosen (padded_blocks b))
          → ChangesName mid new (stored.chosen.name ∷ outer) (Some (thing_made made)) result) held changes-held

      makes : (made : Making) (outer : List (List ℕ)) → (IsTold (past_of mid) → MayMake mid outer made stored.chosen (padded_blocks stored.bytes.items))
          → ChangesInodeBy mid new (stored.chosen.name ∷ outer) (Some (made, stored.chosen.time)) result
      makes = subst (λ (b : List ℕ). (made : Making) (outer : List (List ℕ)) → (IsTold (past_of mid) → MayMake mid outer made stored.chosen (padded_blocks b))
          → ChangesInodeBy mid new (stored.chosen.name ∷ outer) (Some (made, stored.chosen.time)) result) held makes-held

      pub is-stored : OnGiven left (λ given. StoresOn old new text given time result)
      is-stored = on-given (λ given. StoresOn old new text given time result) left stored.bytes.items is
          (record {
            answers = made-answer old mid same text (NewFile stored.bytes.items) stored.chosen (padded_blocks stored.bytes.items) stored may takes later new result changes quiet cause;
            leaves = made-on old mid same text (NewFile stored.bytes.items) stored.chosen (padded_blocks stored.bytes.items) stored may takes later new result changes quiet cause;
            inode = inode-at old mid same text (NewFile stored.bytes.items) stored.chosen (padded_blocks stored.bytes.items) may time wished new result makes;
            unwritten = unwritten-passed (past_of old) (past_of new) (made_check (NewFile stored.bytes.items) text) (volume_view old) takes;
          })

-- ---- on the volume in a span

module _ {D : Type 0} (disks : Ghosts D) (old : D) (span : Span) (text : List ℕ) (left : Option (List ℕ)) where
  -- there is no volume
  pub not-there : (time : ℕ) (new : D) → SameOf disks old new → disks.faults old ≤ disks.faults new → (fault : ZoneFault) → (fault ≡ zones.Device → Rose (disks.faults old) (disks.faults new))
      → Told (disks.past old) (λ now. volumes.Refuses fault (volume_at now span))
      → OnGiven left (λ given. Stores disks old new span text given time (Err (zone_fault fault)))
  not-there time new same later fault rose refuses = given-all (λ given. Stores disks old new span text given time (Err (zone_fault fault))) left (λ given. record {
    answers = told_map (disks.past old) _ _ (λ now is. no-volume (made_check (NewFile given) text) now span fault is) refuses;
    leaves = refused-names disks old span text (Some (File given)) new same later fault rose;
    inode = λ told. tt;
    unwritten = unwritten-span (disks.past old) (disks.past new) (made_check (NewFile given) text) span same.same_past;
  })

  module _ (volume new : Volume D disks) (same : SameOf disks old volume.disks.now) (later : disks.faults old ≤ faults_of volume) (place : span_view volume.span ≡ span)
      (is : Told (disks.past old) (λ now. volume_at now span ≡ Ok (volume_view volume))) where
    pub stores-at : (time : ℕ) (result : Result (Unit {0}) FileFault) → OnGiven left (λ given. StoresOn volume new text given time result)
        → OnGiven left (λ given. Stores disks old new.disks.now span text given time result)
    stores-at time result stores = given-map (λ given. StoresOn volume new text given time result) (λ given. Stores disks old new.disks.now span text given time result) left
        (λ given on. record {
          answers = answers-at disks old span text (Some (File given)) volume new same later place is result (made_check (NewFile given) text) on.answers;
          leaves = leaves-at disks old span text (Some (File given)) volume new same later place is result on.leaves;
          inode = inode-in disks old span text (Some (NewFile given, time)) volume new same is result on.inode;
          unwritten = unwritten-at disks old span text (Some (File given)) volume new same later place is (made_check (NewFile given) text) on.unwritten;
        }) stores

    pub unread-at : {I : Type 0} (before after : I) → IsUnread (past_of volume) (volume_view volume) text before after → IsUnreadAt (disks.past old) span text before after
    unread-at before after unread = told_both (disks.past old) (λ now. volume_at now span ≡ Ok (volume_view volume))
        (λ now. checked_status (sound_check (new_check text) (volume_view volume) now) ≢ 0 → after ≡ before) _
        (λ now at left_alone some. left_alone (λ none. some (ap checked_status (check-is (new_check text) now span (volume_view volume) at) ∙ none)))
        is (subst (λ (past : Option Past). Told past (λ now. checked_status (sound_check (new_check text) (volume_view volume) now) ≢ 0 → after ≡ before)) same.same_past unread)

  pub unread-none : {I : Type 0} (source : I) → IsUnreadAt (disks.past old) span text source source
  unread-none source = told_all (disks.past old) _ (λ now some. refl)
