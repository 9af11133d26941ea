-- Places and blocks of a directory.
use Rattle.std.proofs.Common.{◌≡◌, ◌≤◌, ◌<◌, ℕ, ◌+◌, ◌-◌, ◌*◌, min, List, Result, Ok, Err, sym, ◌∙◌, ap, arith}
use Rattle.lilo_model.specs.Checks.{◌>>=◌}
use Rattle.lilo_model.specs.MinixLayout.{Kind, Super, reach}
use Rattle.lilo_model.specs.MinixParts.{Parts, ZoneFault, zone_bytes, block_at}
use Rattle.lilo_model.specs.MinixEntries.{entry_in, entries_per_block, places}
use Rattle.lilo_model.specs.MinixNames.{entry}
use Rattle.lilo_model.specs.MinixSurvey.{Surveyable, SurveyFault as Refusal}
use Rattle.minix_laws.proofs.Given.{given_law}
use Rattle.minix_tree.proofs.FindLemmas.{entry_of_block, round}
use Rattle.minix_tree.specs.Directory.{places_in, directory_blocks}
use Rattle.minix_tree.specs.Found.{places_before}
use Rattle.minix_tree.specs.declared.tree_fault.TreeFault.TheVariants as trees
use Rattle.minix_zones.specs.declared.zone_fault.ZoneFault.TheVariants as zones
use Rattle.minix_survey.specs.declared.survey_fault.SurveyFault.{SurveyFault}
use Rattle.minix_survey.specs.declared.survey_fault.SurveyFault.TheVariants as faults
use Rattle.minix_survey.specs.Step.{AreGiven, IsBlockRefusal}
use Rattle.minix_survey.specs.View.{Refuses}

below-both : (a b : ℕ) → min a b ≤ a
below-both a b = omega arith

pub low-min : (n a b : ℕ) → n ≡ min a b → n ≤ b
low-min n a b is = omega (arith, is)

either-way : (a b : ℕ) → min a b ≡ min b a
either-way a b = omega arith

-- the entry at a place of a block that was read
pub entry-as : (super : Super) (parts : Parts) (inode index at : ℕ) (bytes : List ℕ) → block_at super parts (parts.node inode) index ≡ Ok bytes
    → at < entries_per_block super.kind → entry super parts inode (entries_per_block super.kind * index + at) ≡ entry_in super.kind bytes at
entry-as super parts inode index at bytes read below =
    let given = given_law super parts inode in
    given.at (entries_per_block super.kind * index + at) (entry_in super.kind bytes at) (entry_of_block super parts (parts.node inode) index at bytes read below)

-- the entries of a block are those before it and its own
pub next-places : (kind : Kind) (size index count : ℕ) → index < directory_blocks kind size → count ≡ places_in kind size index
    → places_before kind size index + count ≡ places_before kind size (index + 1)
next-places kind size index count below is =
    let at = round kind size index below in
    ap (λ n. n + count) at.here ∙ ap (λ n. entries_per_block kind * index + n) is ∙ sym at.next

pub few-places : (kind : Kind) (size index : ℕ) → places_before kind size index ≤ places kind size
few-places kind size index = below-both (places kind size) (entries_per_block kind * index)

-- the number that the code counts
pub count-as : (kind : Kind) (size index per whole left count : ℕ) → per ≡ entries_per_block kind → whole ≡ places kind size → left ≡ whole - per * index
    → count ≡ min left per → count ≡ places_in kind size index
count-as kind size index per whole left count one two three four =
    four ∙ ap (λ n. min n per) three ∙ ap (λ n. min (n - per * index) per) two ∙ ap (λ n. min (places kind size - n * index) n) one
    ∙ either-way (places kind size - entries_per_block kind * index) (entries_per_block kind)

-- no block of a directory is refused
pub block-given : (volume : Surveyable) (inode index : ℕ) → AreGiven volume inode → index < reach volume.super.kind
    → (bytes : List ℕ) × (block_at volume.super volume.parts (volume.parts.node inode) index ≡ Ok bytes)
unfolding block_at
block-given volume inode index given below =
    let one = given index below in
    (zone_bytes volume.parts one.0, ap (λ (r : Result ℕ ZoneFault). r >>= λ zone. Ok (zone_bytes volume.parts zone)) one.1)

-- so only the disk refuses one
pub block-refused : (fault : SurveyFault) (judgment : Result (Unit {0}) Refusal) (bytes : List ℕ) (read : Result (List ℕ) ZoneFault) → read ≡ Ok bytes
    → IsBlockRefusal fault read → Refuses fault judgment
block-refused (faults.Tree (trees.Zone zones.Device)) judgment bytes read is refused = tt
block-refused (faults.Tree (trees.Zone (zones.Layout fault))) judgment bytes read is refused = cc
block-refused (faults.Tree (trees.Zone (zones.ZoneOutside zone))) judgment bytes read is refused = cc
block-refused (faults.Tree (trees.NotFound position)) judgment bytes read is refused = absurd refused
block-refused (faults.Tree (trees.NotDirectory position)) judgment bytes read is refused = absurd refused
block-refused (faults.Tree trees.NotFile) judgment bytes read is refused = absurd refused
block-refused (faults.Tree trees.TooManyLinks) judgment bytes read is refused = absurd refused
block-refused (faults.Tree (trees.BadEntry directory)) judgment bytes read is refused = absurd refused
block-refused (faults.Tree trees.PathTooLong) judgment bytes read is refused = absurd refused
block-refused (faults.Tree trees.Memory) judgment bytes read is refused = absurd refused
block-refused faults.Memory judgment bytes read is refused = absurd refused
block-refused (faults.Crossed zone one other) judgment bytes read is refused = absurd refused
block-refused (faults.Unmarked zone) judgment bytes read is refused = absurd refused
block-refused (faults.UnmarkedInode number) judgment bytes read is refused = absurd refused
block-refused (faults.BadLink directory place) judgment bytes read is refused = absurd refused
block-refused (faults.FewLinks number) judgment bytes read is refused = absurd refused
block-refused faults.TooDeep judgment bytes read is refused = absurd refused
