-- The steps of an inode, of an entry, of a block's entries and of a directory.
use Rattle.std.proofs.Common.{◌≡◌, ◌≢◌, ◌≤◌, ◌<◌, ℕ, suc, ◌+◌, ◌-◌, ◌*◌, Bool, true, false, List, ◌∷◌, Result, Ok, Err, refl, sym, ◌∙◌, ap, subst, arith}
use Rattle.std.proofs.lemmas.Bool.{ne_eqb}
use Rattle.disk_trait.specs.declared.disks.Disks.{Ghosts}
use Rattle.disk_trait.specs.Past.{Image, Told}
use Rattle.lilo_model.specs.MinixLayout.{Inode as NodeOf, is_size}
use Rattle.lilo_model.specs.MinixParts.{parts_of, is_directory, block_at}
use Rattle.lilo_model.specs.MinixEntries.{Entry, entry_in, entries_per_block, places, is_dots}
use Rattle.lilo_model.specs.MinixNames.{entry}
use Rattle.lilo_model.specs.MinixSurvey as model
use Rattle.lilo_model.specs.MinixSurvey.{Surveyable, Met, SurveyFault as Refusal, Reaches, Stands, Ends, judged, was_reached, zones_of, with_zones, with_all, with_entry, with_entries, places_of, spot_below}
use Rattle.minix_layout.specs.View.{kind_view, super_view}
use Rattle.minix_layout.specs.declared.superblock.Super.{Super as SuperOf}
use Rattle.minix_tree.specs.Directory.{places_in, directory_blocks}
use Rattle.minix_tree.specs.Found.{places_before}
use Rattle.minix_tree.proofs.FindLemmas.{round}
use Rattle.minix_zones.specs.declared.volume.Volume.{Volume}
use Rattle.minix_zones.specs.Volume.{volume_view, past_of, faults_of}
use Rattle.minix_survey.specs.declared.spot.Spot.{Spot}
use Rattle.minix_survey.specs.declared.survey_fault.SurveyFault.{SurveyFault}
use Rattle.minix_survey.specs.declared.tables.Tables.{Tables}
use Rattle.minix_survey.specs.Step.{Steps, StepsAlone, seen_in, all_from, entry_from, entries_from, directory_from, more_entries}
use Rattle.minix_survey.specs.View.{spot_view}
use Rattle.minix_survey.proofs.AllLemmas.{inode-as, directory-as, dots-as, new-as, entries-then, entries-as}
use Rattle.minix_survey.proofs.PlaceLemmas.{entry-as, next-places}
use Rattle.minix_survey.proofs.RefusedLemmas.{bad-more, bad-all, bad-entry, bad-more_entries}
use Rattle.minix_survey.proofs.StepLemmas.{then_steps, stop_as, steps_as, alone_steps, told_any, told_both}

-- ---- what comes after a refusal

module _ (volume : Surveyable) (fault : Refusal) (visit : model.Spot → List Met → List Met)
    (keeps : (spot : model.Spot) (met : List Met) → judged volume met ≡ Err fault → judged volume (visit spot met) ≡ Err fault) (directory : model.Spot) where
  -- an entry that is refused is so with all below it
  below-by : (place : ℕ) (what : Entry) (known : Bool) (met : List Met) → judged volume (Stands directory place what ∷ met) ≡ Err fault
      → judged volume (model.entry_then visit directory place what false known met) ≡ Err fault
  below-by place what true met bad = bad
  below-by place what false met bad = keeps (spot_below directory what.inode) (Stands directory place what ∷ met) bad

  -- entries that are refused are so with others after them
  bad-others : (at : ℕ → Entry) (start count all : ℕ) (met : List Met) → count ≤ all → judged volume (more_entries visit directory at start count met) ≡ Err fault
      → judged volume (more_entries visit directory at start all met) ≡ Err fault
  bad-others at start count all met few bad =
      let e : count + (all - count) ≡ all = omega (arith, few) in
      subst
      (λ (m : List Met). judged volume m ≡ Err fault)
      (entries-then visit directory at start count (all - count) met ∙ ap (λ n. more_entries visit directory at start n met) e)
      (bad-more_entries volume fault visit keeps directory at (start + count) (all - count) (more_entries visit directory at start count met) bad)

pub bad-entry_from : (volume : Surveyable) (fault : Refusal) (spot : Spot) (place : ℕ) (what : Entry) (met : List Met) → what.inode ≢ 0
    → judged volume (Stands (spot_view spot) place what ∷ met) ≡ Err fault → judged volume (entry_from spot place what volume met) ≡ Err fault
bad-entry_from volume fault spot place what met some bad =
    rw (ne_eqb what.inode 0 some)
    (below-by volume fault (with_all volume (64 - spot.level)) (bad-all volume fault (64 - spot.level)) (spot_view spot) place what (model.is_known what met) met bad)

-- ---- steps

module _ {D : Type 0} {disks : Ghosts D} (old : Volume D disks) (spot : Spot) where
  -- what an inode is on the disks
  abbrev pub IsAt : NodeOf → Image → Type 0
  IsAt node now = node ≡ (parts_of (volume_view old) now).node spot.inode

  -- a directory, its zones, and its entries
  pub all_steps : (mid high new : Volume D disks) (one two three four : Tables) (result : Result (Unit {0}) SurveyFault) (node : NodeOf)
      → Told (past_of old) (IsAt node) → is_directory node ≡ true → is_size (kind_view old.layout.kind) node.size ≡ true → spot.level ≤ 64
      → Steps old mid one two (Ok tt) (λ seen met. Reaches (spot_view spot) ∷ met)
      → Steps mid high two three (Ok tt) (λ seen met. with_zones spot.inode (zones_of seen spot.inode) met)
      → Steps high new three four result (directory_from spot) → Steps old new one four result (all_from spot)
  all_steps mid high new one two three four result node at directory sized low first second third =
      steps_as old new one four result
      (λ seen met. directory_from spot seen (with_zones spot.inode (zones_of seen spot.inode) (Reaches (spot_view spot) ∷ met))) (all_from spot)
      (IsAt node) at
      (λ now met is tells.
      ap (directory_from spot (seen_in old now)) (inode-as (seen_in old now) (spot_view spot) met)
      ∙ directory-as (seen_in old now) spot met low (subst (λ (n : NodeOf). is_directory n ≡ true) is directory)
      (subst (λ (n : NodeOf). is_size (kind_view old.layout.kind) n.size ≡ true) is sized))
      (then_steps old high new one three four result
      (λ seen met. with_zones spot.inode (zones_of seen spot.inode) (Reaches (spot_view spot) ∷ met)) (directory_from spot)
      (then_steps old mid high one two three (Ok tt)
      (λ seen met. Reaches (spot_view spot) ∷ met) (λ seen met. with_zones spot.inode (zones_of seen spot.inode) met) first second)
      third)

  -- an entry that is `.` or `..`
  pub dots_step : (one two : Tables) (result : Result (Unit {0}) SurveyFault) (place : ℕ) (what : Entry) → what.inode ≢ 0 → is_dots what.name ≡ true
      → StepsAlone one two result (λ met. Stands (spot_view spot) place what ∷ met) → Steps old old one two result (entry_from spot place what)
  dots_step one two result place what some dots alone =
      steps_as old old one two result (λ seen met. Stands (spot_view spot) place what ∷ met) (entry_from spot place what)
      (λ now. Unit {0}) (told_any (past_of old) (λ now. Unit {0}) (λ now. tt))
      (λ now met any tells. dots-as (seen_in old now) spot place what met some dots)
      (alone_steps old one two result (λ seen met. Stands (spot_view spot) place what ∷ met) alone.meets (alone.cause (faults_of old) (faults_of old)))

  -- an entry that is refused
  pub name_stop : (new : Volume D disks) (one two : Tables) (fault : SurveyFault) (place : ℕ) (what : Entry) → what.inode ≢ 0
      → Steps old new one two (Err fault) (λ seen met. Stands (spot_view spot) place what ∷ met) → Steps old new one two (Err fault) (entry_from spot place what)
  name_stop new one two fault place what some steps =
      stop_as old new one two fault (λ seen met. Stands (spot_view spot) place what ∷ met) (entry_from spot place what)
      (λ now met refusal tells bad. bad-entry_from (seen_in old now) refusal spot place what met some bad)
      steps

  -- the entry that a block's bytes have is the directory's
  pub entry_told : (node : NodeOf) (index at : ℕ) (bytes : List ℕ) (what : Entry) → Told (past_of old) (IsAt node)
      → Told (past_of old) (λ now. block_at (super_view old.layout) (parts_of (volume_view old) now) node index ≡ Ok bytes)
      → at < entries_per_block (kind_view old.layout.kind) → what ≡ entry_in (kind_view old.layout.kind) bytes at
      → Told (past_of old) (λ now. entry (super_view old.layout) (parts_of (volume_view old) now) spot.inode (entries_per_block (kind_view old.layout.kind) * index + at) ≡ what)
  entry_told node index at bytes what told read below is =
      told_both
      {A = IsAt node}
      {B = λ now. block_at (super_view old.layout) (parts_of (volume_view old) now) node index ≡ Ok bytes}
      {C = λ now. entry (super_view old.layout) (parts_of (volume_view old) now) spot.inode (entries_per_block (kind_view old.layout.kind) * index + at) ≡ what}
      (past_of old)
      (λ now here bytes_are.
      entry-as (super_view old.layout) (parts_of (volume_view old) now) spot.inode index at bytes
      (ap (λ (n : NodeOf). block_at (super_view old.layout) (parts_of (volume_view old) now) n index) (sym here) ∙ bytes_are) below
      ∙ sym is)
      told read

  -- one more entry
  pub entry_step : (mid new : Volume D disks) (one two three : Tables) (result : Result (Unit {0}) SurveyFault) (start at : ℕ) (what : Entry)
      → Told (past_of old) (λ now. entry (super_view old.layout) (parts_of (volume_view old) now) spot.inode (start + at) ≡ what)
      → Steps old mid one two (Ok tt) (entries_from spot start at) → Steps mid new two three result (entry_from spot (start + at) what)
      → Steps old new one three result (entries_from spot start (at + 1))
  entry_step mid new one two three result start at what is first second =
      let more : suc at ≡ at + 1 = omega arith in
      steps_as old new one three result (λ seen met. entry_from spot (start + at) what seen (entries_from spot start at seen met)) (entries_from spot start (at + 1))
      (λ now. entry (super_view old.layout) (parts_of (volume_view old) now) spot.inode (start + at) ≡ what) is
      (λ now met here tells.
      ap (λ (w : Entry). entry_from spot (start + at) w (seen_in old now) (entries_from spot start at (seen_in old now) met)) (sym here)
      ∙ ap (λ n. entries_from spot start n (seen_in old now) met) more)
      (then_steps old mid new one two three result (entries_from spot start at) (entry_from spot (start + at) what) first second)

  -- the entries of one more block
  pub block_step : (mid new : Volume D disks) (one two three : Tables) (result : Result (Unit {0}) SurveyFault) (start before count next : ℕ)
      → start ≡ before → before + count ≡ next
      → Steps old mid one two (Ok tt) (entries_from spot 0 before) → Steps mid new two three result (entries_from spot start count)
      → Steps old new one three result (entries_from spot 0 next)
  block_step mid new one two three result start before count next here is first second =
      let from : start ≡ 0 + before = omega (arith, here) in
      steps_as old new one three result (λ seen met. entries_from spot start count seen (entries_from spot 0 before seen met)) (entries_from spot 0 next)
      (λ now. Unit {0}) (told_any (past_of old) (λ now. Unit {0}) (λ now. tt))
      (λ now met any tells.
      ap (λ n. entries_from spot n count (seen_in old now) (entries_from spot 0 before (seen_in old now) met)) from
      ∙ entries-then (with_all (seen_in old now) (64 - spot.level)) (spot_view spot) (entry (super_view old.layout) (parts_of (volume_view old) now) spot.inode) 0 before count met
      ∙ ap (λ n. entries_from spot 0 n (seen_in old now) met) is)
      (then_steps old mid new one two three result (entries_from spot 0 before) (entries_from spot start count) first second)

  -- one more block of a directory
  pub next_block : (mid new : Volume D disks) (one two three : Tables) (result : Result (Unit {0}) SurveyFault) (size index count : ℕ)
      → mid.layout ≡ old.layout → index < directory_blocks (kind_view old.layout.kind) size → count ≡ places_in (kind_view old.layout.kind) size index
      → Steps old mid one two (Ok tt) (entries_from spot 0 (places_before (kind_view old.layout.kind) size index))
      → Steps mid new two three result (entries_from spot (entries_per_block (kind_view mid.layout.kind) * index) count)
      → Steps old new one three result (entries_from spot 0 (places_before (kind_view old.layout.kind) size (index + 1)))
  next_block mid new one two three result size index count same below is first second =
      let at = round (kind_view old.layout.kind) size index below in
      block_step mid new one two three result (entries_per_block (kind_view mid.layout.kind) * index) (places_before (kind_view old.layout.kind) size index) count
      (places_before (kind_view old.layout.kind) size (index + 1))
      (ap (λ (l : SuperOf). entries_per_block (kind_view l.kind) * index) same ∙ sym at.here)
      (next-places (kind_view old.layout.kind) size index count below is)
      first second

  -- entries that are refused, and others after them
  pub entries_stop : (new : Volume D disks) (one two : Tables) (fault : SurveyFault) (start count all : ℕ) → count ≤ all
      → Steps old new one two (Err fault) (entries_from spot start count) → Steps old new one two (Err fault) (entries_from spot start all)
  entries_stop new one two fault start count all few steps =
      stop_as old new one two fault (entries_from spot start count) (entries_from spot start all)
      (λ now met refusal tells bad.
      bad-others (seen_in old now) refusal (with_all (seen_in old now) (64 - spot.level)) (bad-all (seen_in old now) refusal (64 - spot.level)) (spot_view spot)
      (entry (super_view old.layout) (parts_of (volume_view old) now) spot.inode) start count all met few bad)
      steps

  places_are : (node : NodeOf) (now : Image) → IsAt node now → places (kind_view old.layout.kind) node.size ≡ places_of (seen_in old now) spot.inode
  places_are node now is = ap (λ (n : NodeOf). places (kind_view old.layout.kind) n.size) is

  -- a directory with an entry that is refused
  pub directory_stop : (new : Volume D disks) (one two : Tables) (fault : SurveyFault) (count : ℕ) (node : NodeOf) → Told (past_of old) (IsAt node)
      → count ≤ places (kind_view old.layout.kind) node.size
      → Steps old new one two (Err fault) (entries_from spot 0 count) → Steps old new one two (Err fault) (directory_from spot)
  directory_stop new one two fault count node at few steps =
      stop_as old new one two fault (λ seen met. entries_from spot 0 (places_of seen spot.inode) seen met) (directory_from spot)
      (λ now met refusal tells bad.
      bad-more (seen_in old now) refusal (Ends (spot_view spot) (places_of (seen_in old now) spot.inode))
      (with_entries (with_all (seen_in old now) (64 - spot.level)) (spot_view spot) (entry (super_view old.layout) (parts_of (volume_view old) now) spot.inode) (places_of (seen_in old now) spot.inode) met)
      (subst (λ (m : List Met). judged (seen_in old now) m ≡ Err refusal)
      (entries-as (with_all (seen_in old now) (64 - spot.level)) (spot_view spot) (entry (super_view old.layout) (parts_of (volume_view old) now) spot.inode) (places_of (seen_in old now) spot.inode) met)
      bad))
      (steps_as old new one two (Err fault) (entries_from spot 0 (places (kind_view old.layout.kind) node.size)) (λ seen met. entries_from spot 0 (places_of seen spot.inode) seen met)
      (IsAt node) at
      (λ now met is tells. ap (λ n. entries_from spot 0 n (seen_in old now) met) (places_are node now is))
      (entries_stop new one two fault 0 count (places (kind_view old.layout.kind) node.size) few steps))

  -- all entries of a directory, and its end
  pub directory_steps : (new : Volume D disks) (one two : Tables) (result : Result (Unit {0}) SurveyFault) (all : ℕ) (node : NodeOf) → Told (past_of old) (IsAt node)
      → all ≡ places (kind_view old.layout.kind) node.size
      → Steps old new one two (Ok tt) (entries_from spot 0 all) → StepsAlone two two result (λ met. Ends (spot_view spot) all ∷ met)
      → Steps old new one two result (directory_from spot)
  directory_steps new one two result all node at whole steps alone =
      steps_as old new one two result (λ seen met. Ends (spot_view spot) all ∷ entries_from spot 0 all seen met) (directory_from spot)
      (IsAt node) at
      (λ now met is tells.
      ap (λ n. Ends (spot_view spot) n ∷ entries_from spot 0 n (seen_in old now) met) (whole ∙ places_are node now is)
      ∙ ap (λ (m : List Met). Ends (spot_view spot) (places_of (seen_in old now) spot.inode) ∷ m)
      (entries-as (with_all (seen_in old now) (64 - spot.level)) (spot_view spot) (entry (super_view old.layout) (parts_of (volume_view old) now) spot.inode) (places_of (seen_in old now) spot.inode) met))
      (then_steps old new new one two two result (entries_from spot 0 all) (λ seen met. Ends (spot_view spot) all ∷ met) steps
      (alone_steps new two two result (λ seen met. Ends (spot_view spot) all ∷ met) alone.meets (alone.cause (faults_of new) (faults_of new))))
