-- All from an inode on, and from an entry on, step by step.
use Rattle.std.proofs.Common.{◌≡◌, ◌≢◌, ◌≤◌, ◌<◌, ℕ, zero, suc, ◌+◌, ◌-◌, ◌*◌, ◌/◌, ◌%◌, ◌==◌, ◌&&◌, ◌||◌, Bool, true, false, List, [], ◌∷◌, Result, Ok, Err, refl, sym, ◌∙◌, ap, subst, arith}
use Rattle.std.proofs.lemmas.Bool.{ne_eqb}
use Rattle.lilo_model.specs.MinixLayout.{Kind, V1Short, V1Long, V2Short, V2Long, Super, is_size}
use Rattle.lilo_model.specs.MinixParts.{Parts, is_directory}
use Rattle.lilo_model.specs.MinixEntries.{Entry, entry_in, entries_per_block, places, is_dots}
use Rattle.lilo_model.specs.MinixNames.{entry, block}
use Rattle.lilo_model.specs.MinixSurvey as model
use Rattle.lilo_model.specs.MinixSurvey.{Surveyable, Met, Reaches, Stands, Ends, was_reached, with_inode, with_zones, zones_of, entry_then, with_entry, with_entries, with_directory, has_entries, places_of, with_all, spot_below}
use Rattle.minix_tree.specs.Directory.{directory_blocks}
use Rattle.minix_survey.specs.declared.spot.Spot.{Spot}
use Rattle.minix_survey.specs.Step.{all_from, entry_from, directory_from, more_entries}
use Rattle.minix_survey.specs.View.{spot_view}

-- ---- an inode

pub inode-as : (volume : Surveyable) (spot : model.Spot) (met : List Met) → with_zones spot.inode (zones_of volume spot.inode) (Reaches spot ∷ met) ≡ with_inode volume spot met
unfolding with_inode
inode-as volume spot met = refl

file-by : (volume : Surveyable) (left : ℕ) (spot : model.Spot) (met : List Met) → is_directory (volume.parts.node spot.inode) ≡ false → with_inode volume spot met ≡ with_all volume left spot met
file-by volume zero spot met is = refl
file-by volume (suc left) spot met is = rw is refl

pub file-as : (volume : Surveyable) (spot : Spot) (met : List Met) → is_directory (volume.parts.node spot.inode) ≡ false → with_inode volume (spot_view spot) met ≡ all_from spot volume met
file-as volume spot met is = file-by volume (65 - spot.level) (spot_view spot) met is

pub directory-as : (volume : Surveyable) (spot : Spot) (met : List Met) → spot.level ≤ 64 → is_directory (volume.parts.node spot.inode) ≡ true
    → is_size volume.super.kind (volume.parts.node spot.inode).size ≡ true → directory_from spot volume (with_inode volume (spot_view spot) met) ≡ all_from spot volume met
directory-as volume spot met low is sized =
    let left : suc (64 - spot.level) ≡ 65 - spot.level = omega (arith, low) in
    subst (λ n. directory_from spot volume (with_inode volume (spot_view spot) met) ≡ with_all volume n (spot_view spot) met) left (rw (is, sized) refl)

-- ---- an entry

pub free-as : (volume : Surveyable) (spot : Spot) (place : ℕ) (what : Entry) (met : List Met) → what.inode ≡ 0 → met ≡ entry_from spot place what volume met
free-as volume spot place what met free = rw free refl

pub dots-as : (volume : Surveyable) (spot : Spot) (place : ℕ) (what : Entry) (met : List Met) → what.inode ≢ 0 → is_dots what.name ≡ true
    → (Stands (spot_view spot) place what ∷ met) ≡ entry_from spot place what volume met
dots-as volume spot place what met some dots = rw (ne_eqb what.inode 0 some, dots) refl

pub known-as : (volume : Surveyable) (spot : Spot) (place : ℕ) (what : Entry) (met : List Met) → what.inode ≢ 0 → is_dots what.name ≡ false → was_reached met what.inode ≡ true
    → (Stands (spot_view spot) place what ∷ met) ≡ entry_from spot place what volume met
known-as volume spot place what met some plain known = rw (ne_eqb what.inode 0 some, plain, known) refl

pub new-as : (volume : Surveyable) (spot below : Spot) (place : ℕ) (what : Entry) (met : List Met) → what.inode ≢ 0 → is_dots what.name ≡ false → was_reached met what.inode ≡ false
    → spot_view below ≡ spot_below (spot_view spot) what.inode → all_from below volume (Stands (spot_view spot) place what ∷ met) ≡ entry_from spot place what volume met
new-as volume spot below place what met some plain known is =
    let level : below.level ≡ suc spot.level = ap (λ (s : model.Spot). s.level) is in
    let left : 65 - below.level ≡ 64 - spot.level = omega (arith, level) in
    ap (λ n. with_all volume n (spot_view below) (Stands (spot_view spot) place what ∷ met)) left
    ∙ ap (λ s. with_all volume (64 - spot.level) s (Stands (spot_view spot) place what ∷ met)) is
    ∙ rw (ne_eqb what.inode 0 some, plain, known) refl

-- ---- entries

pub entries-then : (visit : model.Spot → List Met → List Met) (directory : model.Spot) (at : ℕ → Entry) (start one two : ℕ) (met : List Met)
    → more_entries visit directory at (start + one) two (more_entries visit directory at start one met) ≡ more_entries visit directory at start (one + two) met
entries-then visit directory at start one zero met = ap (λ n. more_entries visit directory at start n met) (omega arith)
entries-then visit directory at start one (suc two) met =
    let place : start + one + two ≡ start + (one + two) = omega arith in
    let count : suc (one + two) ≡ one + suc two = omega arith in
    ap (with_entry visit directory (start + one + two) (at (start + one + two))) (entries-then visit directory at start one two met)
    ∙ ap (λ n. with_entry visit directory n (at n) (more_entries visit directory at start (one + two) met)) place
    ∙ ap (λ n. more_entries visit directory at start n met) count

pub entries-as : (visit : model.Spot → List Met → List Met) (directory : model.Spot) (at : ℕ → Entry) (count : ℕ) (met : List Met)
    → more_entries visit directory at 0 count met ≡ with_entries visit directory at count met
entries-as visit directory at zero met = refl
entries-as visit directory at (suc count) met =
    let place : 0 + count ≡ count = omega arith in
    ap (λ n. with_entry visit directory n (at n) (more_entries visit directory at 0 count met)) place
    ∙ ap (with_entry visit directory count (at count)) (entries-as visit directory at count met)
