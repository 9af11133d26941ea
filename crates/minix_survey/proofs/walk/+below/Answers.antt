-- All from an inode on.
use Rattle.std.proofs.Common.{◌≡◌, ◌≢◌, ◌≤◌, ◌<◌, ◌+◌, ◌-◌, ◌*◌, ◌∷◌, List, Ok, Err, true, false, refl, sym, ◌∙◌, ap, subst, arith, rules}
use Rattle.disk_trait.specs.Past.{Image}
use Rattle.lilo_model.specs.MinixLayout.{Inode as NodeOf, is_size, reach}
use Rattle.lilo_model.specs.MinixParts.{parts_of, block_at, is_directory}
use Rattle.lilo_model.specs.MinixEntries.{entry_in, entries_per_block, places}
use Rattle.lilo_model.specs.MinixSurvey.{Reaches, Stands, judged, zones_of, with_zones, with_inode}
use Rattle.minix_layout.specs.View.{kind_view, super_view, inode_view}
use Rattle.minix_layout.specs.declared.superblock.Super.{Super as SuperOf}
use Rattle.minix_tree.specs.Directory.{places_in, directory_blocks, without_place}
use Rattle.minix_tree.specs.Found.{places_before}
use Rattle.minix_tree.proofs.FindLemmas.{all_before}
use Rattle.minix_zones.specs.Volume.{volume_view, past_of, faults_of}
use Rattle.minix_survey.specs.Step.{Steps, AreGiven, IsBlockRefusal, seen_in, all_from, entry_from, entries_from, entry_seen, directory_from}
use Rattle.minix_survey.specs.View.{spot_view}
use Rattle.minix_survey.proofs.AllLemmas.{inode-as, file-as, new-as}
use Rattle.minix_survey.proofs.CarryLemmas.{node_on, given_on, directory-zones}
use Rattle.minix_survey.proofs.CycleLemmas.{all_steps, dots_step, name_stop, entry_told, entry_step, next_block, entries_stop, directory_stop, directory_steps}
use Rattle.minix_survey.proofs.PlaceLemmas.{count-as, few-places, low-min, block-given, block-refused}
use Rattle.minix_survey.proofs.RefusedLemmas.{bad-after_reach, bad-after_zones}
use Rattle.minix_survey.proofs.StepLemmas.{then_steps, stop_as, steps_as, one_step, same_then, told_any, told_both, told_pair}
use Rattle.minix_survey.proofs.walk.+below.Goals as goal

pub meet_all-returns-in_err-meet_inode : goal.meet_all-returns-in_err-meet_inode
meet_all-returns-in_err-meet_inode g t c =
    let old = c.args.volume.now in
    let spot = c.args.spot in
    let fault = c.in_err-meet_inode.field-0.0 in
    let given : c.from_residual.result ≡ Err fault = search rules in
    rw given
    (stop_as old c.meet_inode.new.volume c.args.tables.now c.meet_inode.new.tables fault (λ seen met. Reaches (spot_view spot) ∷ met) (all_from spot)
    (λ now met refusal tells bad. bad-after_reach (seen_in old now) refusal (65 - spot.level) (spot_view spot) met bad)
    c.in_err-meet_inode.ensures.steps)

pub meet_all-returns-in_err-meet_zones : goal.meet_all-returns-in_err-meet_zones
meet_all-returns-in_err-meet_zones g t c =
    let old = c.args.volume.now in
    let spot = c.args.spot in
    let fault = c.in_err-meet_zones.field-0.0 in
    let given : c.from_residual-in_err-meet_zones.result ≡ Err fault = search rules in
    rw given
    (stop_as old c.meet_zones.new.volume c.args.tables.now c.meet_zones.new.tables fault
    (λ seen met. with_zones spot.inode (zones_of seen spot.inode) (Reaches (spot_view spot) ∷ met)) (all_from spot)
    (λ now met refusal tells bad.
    bad-after_zones (seen_in old now) refusal (65 - spot.level) (spot_view spot) met (subst (λ m. judged (seen_in old now) m ≡ Err refusal) (inode-as (seen_in old now) (spot_view spot) met) bad))
    (then_steps old c.meet_inode.new.volume c.meet_zones.new.volume c.args.tables.now c.meet_inode.new.tables c.meet_zones.new.tables (Err fault)
    (λ seen met. Reaches (spot_view spot) ∷ met) (λ seen met. with_zones spot.inode (zones_of seen spot.inode) met)
    c.in_ok-meet_inode.ensures.steps c.in_err-meet_zones.ensures.steps))

pub meet_all-returns-else-is_directory : goal.meet_all-returns-else-is_directory
meet_all-returns-else-is_directory g t c =
    let old = c.args.volume.now in
    let spot = c.args.spot in
    let node = inode_view c.args.node.now in
    let file : is_directory node ≡ false = sym c.is_directory.ensures ∙ c.if-is_directory.false in
    steps_as old c.meet_zones.new.volume c.args.tables.now c.meet_zones.new.tables (Ok tt)
    (λ seen met. with_zones spot.inode (zones_of seen spot.inode) (Reaches (spot_view spot) ∷ met)) (all_from spot)
    (λ now. node ≡ (parts_of (volume_view old) now).node spot.inode)
    c.requires.node.is
    (λ now met is tells.
    inode-as (seen_in old now) (spot_view spot) met ∙ file-as (seen_in old now) spot met (subst (λ n. is_directory n ≡ false) is file))
    (then_steps old c.meet_inode.new.volume c.meet_zones.new.volume c.args.tables.now c.meet_inode.new.tables c.meet_zones.new.tables (Ok tt)
    (λ seen met. Reaches (spot_view spot) ∷ met) (λ seen met. with_zones spot.inode (zones_of seen spot.inode) met)
    c.in_ok-meet_inode.ensures.steps c.in_ok-meet_zones.ensures.steps)

pub meet_entry-returns-in_ok-meet_all : goal.meet_entry-returns-in_ok-meet_all
meet_entry-returns-in_ok-meet_all g t c =
    let old = c.args.volume.now in
    let spot = c.args.spot in
    let what = entry_seen c.args.entry.now in
    let plain = sym c.is_dots.ensures ∙ c.if-is_dots.false in
    let known = sym c.has_reached-known.ensures ∙ c.if-not-known.true in
    steps_as old c.meet_all.new.volume c.args.tables.now c.meet_all.new.tables (Ok tt)
    (λ seen met. all_from c.below.result seen (Stands (spot_view spot) c.args.place what ∷ met)) (entry_from spot c.args.place what)
    (λ now. Unit {0}) (told_any (past_of old) (λ now. Unit {0}) (λ now. tt))
    (λ now met any tells. new-as (seen_in old now) spot c.below.result c.args.place what met c.if-entry-eq0.false plain (sym (tells.reached what.inode) ∙ known) c.below.ensures)
    (then_steps old c.meet_name.new.volume c.meet_all.new.volume c.args.tables.now c.meet_name.new.tables c.meet_all.new.tables (Ok tt)
    (λ seen met. Stands (spot_view spot) c.args.place what ∷ met) (all_from c.below.result) c.in_ok-node.ensures.steps c.in_ok-meet_all.ensures)

pub meet_entry-returns-then-is_dots : goal.meet_entry-returns-then-is_dots
meet_entry-returns-then-is_dots g t c =
    dots_step c.args.volume.now c.args.spot c.args.tables.now c.meet_dots.new.tables c.meet_dots.result c.args.place (entry_seen c.args.entry.now)
    c.if-entry-eq0.false (sym c.is_dots.ensures ∙ c.if-is_dots.true) c.meet_dots.ensures

pub meet_entry-returns-in_err-node : goal.meet_entry-returns-in_err-node
meet_entry-returns-in_err-node g t c =
    let fault = c.in_err-node.field-0.0 in
    let given : c.from_residual.result ≡ Err fault = search rules in
    rw given
    (name_stop c.args.volume.now c.args.spot c.meet_name.new.volume c.args.tables.now c.meet_name.new.tables fault c.args.place (entry_seen c.args.entry.now)
    c.if-entry-eq0.false c.in_err-node.ensures.steps)

pub meet_entry-returns-in_err-meet_all : goal.meet_entry-returns-in_err-meet_all
meet_entry-returns-in_err-meet_all g t c =
    let old = c.args.volume.now in
    let spot = c.args.spot in
    let what = entry_seen c.args.entry.now in
    let fault = c.in_err-meet_all.field-0.0 in
    let given : c.from_residual-in_err-meet_all.result ≡ Err fault = search rules in
    let plain = sym c.is_dots.ensures ∙ c.if-is_dots.false in
    let known = sym c.has_reached-known.ensures ∙ c.if-not-known.true in
    rw given
    (steps_as old c.meet_all.new.volume c.args.tables.now c.meet_all.new.tables (Err fault)
    (λ seen met. all_from c.below.result seen (Stands (spot_view spot) c.args.place what ∷ met)) (entry_from spot c.args.place what)
    (λ now. Unit {0}) (told_any (past_of old) (λ now. Unit {0}) (λ now. tt))
    (λ now met any tells. new-as (seen_in old now) spot c.below.result c.args.place what met c.if-entry-eq0.false plain (sym (tells.reached what.inode) ∙ known) c.below.ensures)
    (then_steps old c.meet_name.new.volume c.meet_all.new.volume c.args.tables.now c.meet_name.new.tables c.meet_all.new.tables (Err fault)
    (λ seen met. Stands (spot_view spot) c.args.place what ∷ met) (all_from c.below.result) c.in_ok-node.ensures.steps c.in_err-meet_all.ensures))

-- ---- a directory after its zones

pub meet_all-meet_directory-requires : goal.meet_all-meet_directory-requires
meet_all-meet_directory-requires g t c κs within =
    let old = c.args.volume.now in
    let mid = c.meet_inode.new.volume in
    let high = c.meet_zones.new.volume in
    let spot = c.args.spot in
    let directory : is_directory (inode_view c.args.node.now) ≡ true = sym c.is_directory.ensures ∙ c.if-is_directory.true in
    let first = c.in_ok-meet_inode.ensures.steps.same in
    let second = c.in_ok-meet_zones.ensures.steps.same in
    let low : spot.level ≤ 64 = c.in_ok-meet_inode.ensures.level directory in
    let node = node_on old high spot c.args.node.now (same_then old mid high first second) c.requires.node in
    let given = given_on mid high spot.inode second (c.in_ok-meet_zones.ensures.given (directory-zones (inode_view c.args.node.now) directory)) in
    (first_of (omega arith, search rules), (search rules, (low, (node, given))))

pub meet_all-returns-in_err-meet_directory : goal.meet_all-returns-in_err-meet_directory
meet_all-returns-in_err-meet_directory g t c =
    let fault = c.in_err-meet_directory.field-0.0 in
    let given : c.from_residual-in_err-meet_directory.result ≡ Err fault = search rules in
    let directory : is_directory (inode_view c.args.node.now) ≡ true = sym c.is_directory.ensures ∙ c.if-is_directory.true in
    rw given
    (all_steps c.args.volume.now c.args.spot c.meet_inode.new.volume c.meet_zones.new.volume c.meet_directory.new.volume
    c.args.tables.now c.meet_inode.new.tables c.meet_zones.new.tables c.meet_directory.new.tables (Err fault) (inode_view c.args.node.now)
    c.requires.node.is directory c.requires.node.sized (c.in_ok-meet_inode.ensures.level directory)
    c.in_ok-meet_inode.ensures.steps c.in_ok-meet_zones.ensures.steps c.in_err-meet_directory.ensures)

pub meet_all-returns-in_ok-meet_directory : goal.meet_all-returns-in_ok-meet_directory
meet_all-returns-in_ok-meet_directory g t c =
    let directory : is_directory (inode_view c.args.node.now) ≡ true = sym c.is_directory.ensures ∙ c.if-is_directory.true in
    all_steps c.args.volume.now c.args.spot c.meet_inode.new.volume c.meet_zones.new.volume c.meet_directory.new.volume
    c.args.tables.now c.meet_inode.new.tables c.meet_zones.new.tables c.meet_directory.new.tables (Ok tt) (inode_view c.args.node.now)
    c.requires.node.is directory c.requires.node.sized (c.in_ok-meet_inode.ensures.level directory)
    c.in_ok-meet_inode.ensures.steps c.in_ok-meet_zones.ensures.steps c.in_ok-meet_directory.ensures

-- ---- the entries of a block

pub meet_block-returns-in_err-read_block : goal.meet_block-returns-in_err-read_block
meet_block-returns-in_err-read_block g t c =
    let old = c.args.volume.now in
    let spot = c.args.spot in
    let index = c.args.index in
    let node = inode_view c.args.node.now in
    let fault = c.in_err-read_block.field-0.0 in
    let given : c.from_residual.result ≡ Err fault = search rules in
    let below : index < reach (kind_view old.layout.kind) = c.requires.index in
    let G : Image → Type 0 = λ now. AreGiven (seen_in old now) spot.inode in
    let N : Image → Type 0 = λ now. node ≡ (parts_of (volume_view old) now).node spot.inode in
    let R : Image → Type 0 = λ now. IsBlockRefusal fault (block_at (super_view old.layout) (parts_of (volume_view old) now) node index) in
    rw given
    (one_step old c.read_block.new.volume c.args.tables.now c.args.tables.now (Err fault)
    (entries_from spot (entries_per_block (kind_view old.layout.kind) * index) c.args.count)
    (λ now. (G now × N now) × R now)
    (told_pair (past_of old) (λ now. G now × N now) R (told_pair (past_of old) G N c.requires.given c.requires.node.is) c.in_err-read_block.ensures.refused)
    (λ now facts met tells good.
    let one = block-given (seen_in old now) spot.inode index facts.0.0 below in
    let read = ap (λ (n : NodeOf). block_at (super_view old.layout) (parts_of (volume_view old) now) n index) facts.0.1 ∙ one.1 in
    block-refused fault (judged (seen_in old now) (entries_from spot (entries_per_block (kind_view old.layout.kind) * index) c.args.count (seen_in old now) met)) one.0
    (block_at (super_view old.layout) (parts_of (volume_view old) now) node index) read facts.1)
    c.in_err-read_block.ensures.cause c.in_err-read_block.ensures.later c.in_err-read_block.ensures.same)

pub meet_block-loop-at-preserved : goal.meet_block-loop-at-preserved
meet_block-loop-at-preserved g t c =
    let old = c.args.volume.now in
    let spot = c.args.spot in
    let at = c.loop-at.at in
    let start = entries_per_block (kind_view old.layout.kind) * c.args.index in
    let block = c.read_block.new.into in
    let what = entry_seen c.entry_at-entry.result in
    let few : c.args.count ≤ entries_per_block (kind_view old.layout.kind) = c.requires.count in
    let more : at < c.args.count = c.loop-at-test.true in
    let per : c.from.result ≡ entries_per_block (kind_view old.layout.kind) =
    c.from.ensures ∙ c.entries_per_block.ensures.value ∙ ap (λ (l : SuperOf). entries_per_block (kind_view l.kind)) c.layout.ensures.value in
    let place : c.from.result * c.args.index + c.from-in-loop-at.result ≡ start + at =
    ap (λ n. n * c.args.index + c.from-in-loop-at.result) per ∙ ap (λ n. start + n) c.from-in-loop-at.ensures in
    let is : what ≡ entry_in (kind_view old.layout.kind) block at =
    ap without_place c.entry_at-entry.ensures ∙ ap (λ (l : SuperOf). entry_in (kind_view l.kind) block at) c.layout.ensures.value in
    let told = entry_told old spot (inode_view c.args.node.now) c.args.index at block what c.requires.node.is c.in_ok-read_block.ensures.bytes (omega (arith, few, more)) is in
    entry_step old spot c.loop-at.volume c.meet_entry.new.volume c.args.tables.now c.loop-at.tables c.meet_entry.new.tables (Ok tt) start at what told c.loop-at.invariant
    (subst (λ n. Steps c.loop-at.volume c.meet_entry.new.volume c.loop-at.tables c.meet_entry.new.tables (Ok tt) (entry_from spot n what)) place c.in_ok-meet_entry.ensures)

pub meet_block-returns-in_err-meet_entry : goal.meet_block-returns-in_err-meet_entry
meet_block-returns-in_err-meet_entry g t c =
    let fault = c.in_err-meet_entry.field-0.0 in
    let given : c.from_residual-in_err-meet_entry.result ≡ Err fault = search rules in
    let old = c.args.volume.now in
    let spot = c.args.spot in
    let at = c.loop-at.at in
    let start = entries_per_block (kind_view old.layout.kind) * c.args.index in
    let block = c.read_block.new.into in
    let what = entry_seen c.entry_at-entry.result in
    let few : c.args.count ≤ entries_per_block (kind_view old.layout.kind) = c.requires.count in
    let more : at < c.args.count = c.loop-at-test.true in
    let per : c.from.result ≡ entries_per_block (kind_view old.layout.kind) =
    c.from.ensures ∙ c.entries_per_block.ensures.value ∙ ap (λ (l : SuperOf). entries_per_block (kind_view l.kind)) c.layout.ensures.value in
    let place : c.from.result * c.args.index + c.from-in-loop-at.result ≡ start + at =
    ap (λ n. n * c.args.index + c.from-in-loop-at.result) per ∙ ap (λ n. start + n) c.from-in-loop-at.ensures in
    let is : what ≡ entry_in (kind_view old.layout.kind) block at =
    ap without_place c.entry_at-entry.ensures ∙ ap (λ (l : SuperOf). entry_in (kind_view l.kind) block at) c.layout.ensures.value in
    let told = entry_told old spot (inode_view c.args.node.now) c.args.index at block what c.requires.node.is c.in_ok-read_block.ensures.bytes (omega (arith, few, more)) is in
    rw given
    (entries_stop old spot c.meet_entry.new.volume c.args.tables.now c.meet_entry.new.tables fault start (at + 1) c.args.count (omega (arith, more))
    (entry_step old spot c.loop-at.volume c.meet_entry.new.volume c.args.tables.now c.loop-at.tables c.meet_entry.new.tables (Err fault) start at what told c.loop-at.invariant
    (subst (λ n. Steps c.loop-at.volume c.meet_entry.new.volume c.loop-at.tables c.meet_entry.new.tables (Err fault) (entry_from spot n what)) place c.in_err-meet_entry.ensures)))

-- ---- the blocks of a directory

pub meet_directory-meet_block-requires : goal.meet_directory-meet_block-requires
meet_directory-meet_block-requires g t c κs within =
    let old = c.args.volume.now in
    let spot = c.args.spot in
    let mid = c.loop-index.volume in
    let index = c.loop-index.index in
    let size = c.args.node.now.size in
    let layout = c.layout.ensures.value in
    let kind = kind_view old.layout.kind in
    let per : c.from-per.result ≡ entries_per_block kind =
    c.from-per.ensures ∙ c.entries_per_block.ensures.value ∙ ap (λ (l : SuperOf). entries_per_block (kind_view l.kind)) layout in
    let whole : c.places-places.result ≡ places kind size = c.places-places.ensures.value ∙ ap (λ (l : SuperOf). places (kind_view l.kind) size) layout in
    let same = c.loop-index.invariant.same in
    let node = node_on old mid spot c.args.node.now same c.requires.node in
    let given = given_on old mid spot.inode same c.requires.given in
    let sized = subst (λ (l : SuperOf). is_size (kind_view l.kind) size ≡ true) (sym layout) c.requires.node.sized in
    let end : c.directory_blocks-index-end.result ≤ reach (kind_view mid.layout.kind) =
    subst (λ (l : SuperOf). c.directory_blocks-index-end.result ≤ reach (kind_view l.kind)) (layout ∙ sym same.same_layout) (c.directory_blocks-index-end.ensures.reached sized) in
    let less : index < c.directory_blocks-index-end.result = c.loop-index-test.true in
    let there : index < reach (kind_view mid.layout.kind) = omega (arith, end, less) in
    let few : c.min-count.result ≤ c.from-per.result = low-min c.min-count.result c.saturating_sub.result c.from-per.result c.min-count.ensures in
    let most : c.min-count.result ≤ entries_per_block (kind_view mid.layout.kind) =
    subst (λ (l : SuperOf). c.min-count.result ≤ entries_per_block (kind_view l.kind)) (sym same.same_layout) (subst (λ n. c.min-count.result ≤ n) per few) in
    (first_of (omega arith, search rules), (search rules, (c.requires.level, (node, (given, (there, most))))))

pub meet_directory-loop-index-preserved : goal.meet_directory-loop-index-preserved
meet_directory-loop-index-preserved g t c =
    let old = c.args.volume.now in
    let spot = c.args.spot in
    let mid = c.loop-index.volume in
    let index = c.loop-index.index in
    let size = c.args.node.now.size in
    let layout = c.layout.ensures.value in
    let kind = kind_view old.layout.kind in
    let per : c.from-per.result ≡ entries_per_block kind =
    c.from-per.ensures ∙ c.entries_per_block.ensures.value ∙ ap (λ (l : SuperOf). entries_per_block (kind_view l.kind)) layout in
    let whole : c.places-places.result ≡ places kind size = c.places-places.ensures.value ∙ ap (λ (l : SuperOf). places (kind_view l.kind) size) layout in
    let blocks : c.directory_blocks-index-end.result ≡ directory_blocks kind size =
    c.directory_blocks-index-end.ensures.value ∙ ap (λ (l : SuperOf). directory_blocks (kind_view l.kind) size) layout in
    let less : index < c.directory_blocks-index-end.result = c.loop-index-test.true in
    let below : index < directory_blocks kind size = subst (λ n. index < n) blocks less in
    let count : c.min-count.result ≡ places_in kind size index =
    count-as kind size index c.from-per.result c.places-places.result c.saturating_sub.result c.min-count.result per whole c.saturating_sub.ensures c.min-count.ensures in
    next_block old spot mid c.meet_block.new.volume c.args.tables.now c.loop-index.tables c.meet_block.new.tables (Ok tt) size index c.min-count.result
    c.loop-index.invariant.same.same_layout below count c.loop-index.invariant c.in_ok-meet_block.ensures

pub meet_directory-returns-in_err-meet_block : goal.meet_directory-returns-in_err-meet_block
meet_directory-returns-in_err-meet_block g t c =
    let fault = c.in_err-meet_block.field-0.0 in
    let given : c.from_residual.result ≡ Err fault = search rules in
    let old = c.args.volume.now in
    let spot = c.args.spot in
    let mid = c.loop-index.volume in
    let index = c.loop-index.index in
    let size = c.args.node.now.size in
    let layout = c.layout.ensures.value in
    let kind = kind_view old.layout.kind in
    let per : c.from-per.result ≡ entries_per_block kind =
    c.from-per.ensures ∙ c.entries_per_block.ensures.value ∙ ap (λ (l : SuperOf). entries_per_block (kind_view l.kind)) layout in
    let whole : c.places-places.result ≡ places kind size = c.places-places.ensures.value ∙ ap (λ (l : SuperOf). places (kind_view l.kind) size) layout in
    let blocks : c.directory_blocks-index-end.result ≡ directory_blocks kind size =
    c.directory_blocks-index-end.ensures.value ∙ ap (λ (l : SuperOf). directory_blocks (kind_view l.kind) size) layout in
    let less : index < c.directory_blocks-index-end.result = c.loop-index-test.true in
    let below : index < directory_blocks kind size = subst (λ n. index < n) blocks less in
    let count : c.min-count.result ≡ places_in kind size index =
    count-as kind size index c.from-per.result c.places-places.result c.saturating_sub.result c.min-count.result per whole c.saturating_sub.ensures c.min-count.ensures in
    rw given
    (directory_stop old spot c.meet_block.new.volume c.args.tables.now c.meet_block.new.tables fault (places_before kind size (index + 1)) (inode_view c.args.node.now)
    c.requires.node.is (few-places kind size (index + 1))
    (next_block old spot mid c.meet_block.new.volume c.args.tables.now c.loop-index.tables c.meet_block.new.tables (Err fault) size index c.min-count.result
    c.loop-index.invariant.same.same_layout below count c.loop-index.invariant c.in_err-meet_block.ensures))

pub meet_directory-returns : goal.meet_directory-returns
meet_directory-returns g t c =
    let old = c.args.volume.now in
    let spot = c.args.spot in
    let mid = c.loop-index.volume in
    let index = c.loop-index.index in
    let size = c.args.node.now.size in
    let layout = c.layout.ensures.value in
    let kind = kind_view old.layout.kind in
    let per : c.from-per.result ≡ entries_per_block kind =
    c.from-per.ensures ∙ c.entries_per_block.ensures.value ∙ ap (λ (l : SuperOf). entries_per_block (kind_view l.kind)) layout in
    let whole : c.places-places.result ≡ places kind size = c.places-places.ensures.value ∙ ap (λ (l : SuperOf). places (kind_view l.kind) size) layout in
    let blocks : c.directory_blocks-index-end.result ≡ directory_blocks kind size =
    c.directory_blocks-index-end.ensures.value ∙ ap (λ (l : SuperOf). directory_blocks (kind_view l.kind) size) layout in
    let last : index ≡ c.directory_blocks-index-end.result = let past = c.loop-index-test.false in let within = c.loop-index.auto.index-end in omega (arith, past, within) in
    let all : places_before kind size index ≡ c.places-places.result =
    ap (λ n. places_before kind size n) (last ∙ blocks) ∙ all_before kind size ∙ sym whole in
    directory_steps old spot mid c.args.tables.now c.loop-index.tables c.meet_end.result c.places-places.result (inode_view c.args.node.now) c.requires.node.is whole
    (subst (λ n. Steps old mid c.args.tables.now c.loop-index.tables (Ok tt) (entries_from spot 0 n)) all c.loop-index.invariant)
    c.meet_end.ensures
