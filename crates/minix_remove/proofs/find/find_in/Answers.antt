-- The first entry of the name in a block.
use Rattle.std.proofs.Common.{◌≡◌, ◌∙◌, arith}
use Rattle.lilo_model.specs.MinixEntries.{entries_per_block, places}
use Rattle.minix_layout.specs.View.{kind_view, inode_view}
use Rattle.minix_tree.specs.Directory.{places_in}
use Rattle.minix_tree.proofs.FindLemmas.{found_refused, round}
use Rattle.minix_zones.specs.Volume.{volume_view, past_of}
use Rattle.minix_remove.proofs.FindLemmas.{block_begins, block_count, some_left, found_block}
use Rattle.minix_remove.proofs.find.find_in.Goals as goal

pub overflow_mul-first : goal.overflow_mul-first
overflow_mul-first g c =
    let kind = kind_view c.args.volume.now.layout.kind in
    let per : c.from-per.result ≡ entries_per_block (kind_view c.args.volume.now.layout.kind) = c.from-per.ensures ∙ (rw c.layout.ensures.value at c.entries_per_block.ensures.value) in
    let all : c.places-all.result ≡ places (kind_view c.args.volume.now.layout.kind) c.args.directory.now.size = rw c.layout.ensures.value at c.places-all.ensures.value in
    let begins = block_begins kind c.args.index c.from-per.result per in
    let low = some_left kind c.args.directory.now.size c.args.index _ c.requires.inside begins in
    omega (arith, low, all, c.places-all.ensures.few)

pub returns-in-Err-clause-found : goal.returns-in-Err-clause-found
returns-in-Err-clause-found g c =
    found_refused (past_of c.args.volume.now) (volume_view c.args.volume.now) (inode_view c.args.directory.now) c.args.name.now c.args.index c.in-Err.fault c.in-Err.ensures.bytes

pub returns-clause-found : goal.returns-clause-found
returns-clause-found g c =
    let kind = kind_view c.args.volume.now.layout.kind in
    let per : c.from-per.result ≡ entries_per_block (kind_view c.args.volume.now.layout.kind) = c.from-per.ensures ∙ (rw c.layout.ensures.value at c.entries_per_block.ensures.value) in
    let all : c.places-all.result ≡ places (kind_view c.args.volume.now.layout.kind) c.args.directory.now.size = rw c.layout.ensures.value at c.places-all.ensures.value in
    let begins = block_begins kind c.args.index c.from-per.result per in
    let counted : c.min-count.result ≡ places_in (kind_view c.args.volume.now.layout.kind) c.args.directory.now.size c.args.index =
    block_count kind c.args.directory.now.size c.args.index c.from-per.result c.places-all.result c.min-count.result per all c.min-count.ensures in
    let at = round kind c.args.directory.now.size c.args.index c.requires.inside in
    found_block (volume_view c.args.volume.now) (inode_view c.args.directory.now) c.args.name.now c.args.index c.min-count.result _ c.read_at.new.into c.requires.inside (omega (arith, counted, at.few)) begins counted
    (past_of c.args.volume.now) c.find_among.result c.in_default.ensures.bytes (rw c.layout.ensures.value at c.find_among.ensures.found) (rw c.layout.ensures.value at c.find_among.ensures.place)
