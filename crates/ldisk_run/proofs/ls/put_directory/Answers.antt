-- Each block goes after those before it.
use Rattle.std.proofs.Common.{◌≡◌, ◌+◌, ◌<◌, ◌∙◌, ℕ, [], Result, Ok, Err, sym, ap, rules}
use Rattle.disk_trait.specs.declared.disks.Disks.{Ghosts}
use Rattle.disk_trait.specs.Past.{Image, Told}
use Rattle.lilo_model.specs.MinixParts as model
use Rattle.lilo_model.specs.MinixParts.{parts_of}
use Rattle.lilo_model.specs.Verdict.{Verdict}
use Rattle.lilo_model.specs.LdiskVerdict.{listing_verdict}
use Rattle.minix_layout.specs.View.{inode_view}
use Rattle.minix_layout.specs.declared.inode.Inode.{Inode}
use Rattle.minix_zones.specs.declared.volume.Volume.{Volume}
use Rattle.minix_zones.specs.Volume.{volume_view, past_of, SameVolume}
use Rattle.minix_zones.proofs.SameLemmas.{told_back}
use Rattle.minix_tree.specs.Directory.{directory_blocks}
use Rattle.ldisk_run.specs.Listing.{block_verdict}
use Rattle.ldisk_run.specs.Pieces.{Held, held_by}
use Rattle.ldisk_run.specs.Run.{Does}
use Rattle.ldisk_run.specs.declared.halt.Halt.{Halt}
use Rattle.ldisk_run.proofs.AddsLemmas.{adds_nothing, adds_same, does_behind, does_same}
use Rattle.ldisk_run.proofs.ListingLemmas.{blocks_printed, blocks_more, blocks_none, blocks_all, blocks_on}
use Rattle.ldisk_run.proofs.StepLemmas.{Added, told_ended, told_verdict}
use Rattle.disk_trait.proofs.ToldLemmas.{told_all, told_both}
use Rattle.ldisk_run.proofs.ls.put_directory.Goals as goal

abbrev blocks : Inode → ℕ → model.Volume → Image → Verdict
blocks node index volume now = blocks_printed volume.layout (parts_of volume now) (inode_view node) index

abbrev block : Inode → ℕ → model.Volume → Image → Verdict
block node index volume now = block_verdict volume.layout (parts_of volume now) (inode_view node) index

abbrev listing : Inode → model.Volume → Image → Verdict
listing node volume now = listing_verdict volume.layout (parts_of volume now) (inode_view node)

-- a further block: the volume's kind never changes
told_blocks :
    {D : Type 0} {disks : Ghosts D} (old mid : Volume D disks) (node : Inode) (index : ℕ) (result : Result (Unit {0}) Halt) (a b c : Held)
    → index < directory_blocks (volume_view old).layout.kind (inode_view node).size → SameVolume old mid
    → Told (past_of old) (λ now. Added (blocks node index (volume_view old) now) a b)
    → Told (past_of mid) (λ now. Does (block node index (volume_view mid) now) result b c)
    → Told (past_of old) (λ now. Does (blocks node (index + 1) (volume_view old) now) result a c)
told_blocks old mid node index result a b c below same so_far step =
    told_both (past_of old) (λ now. Added (blocks node index (volume_view old) now) a b) (λ now. Does (block node index (volume_view old) now) result b c) _
    (λ now added done. does_same _ _ result a c (blocks_more (volume_view old).layout (parts_of (volume_view old) now) (inode_view node) index below added.0)
    (does_behind (blocks node index (volume_view old) now).text (block node index (volume_view old) now) result a b c added.1 done))
    so_far
    (told_back old mid (λ volume now. Does (block node index volume now) result b c) same step)

pub loop-index-init : goal.loop-index-init
loop-index-init g c =
    let node = c.args.stat.now.node in
    let volume = c.args.volume.now in
    let held = held_by g.O.Sink c.args.out.now in
    record {
      told = told_all _ (λ now. Added (blocks node 0 (volume_view volume) now) held held)
          (λ now. let none = blocks_none (volume_view volume).layout (parts_of (volume_view volume) now) (inode_view node) in
          (ap (λ v. v.status) none, adds_same held held [] _ (sym (ap (λ v. v.text) none)) (adds_nothing held)));
      same = search rules;
      later = search rules;
      failed = search rules;
      same_reference = search rules;
    }

pub returns-in_err-put_entries-clause-does : goal.returns-in_err-put_entries-clause-does
returns-in_err-put_entries-clause-does g c =
    let node = c.args.stat.now.node in
    let index = c.loop-index.index in
    let old = c.args.volume.now in
    let held = held_by g.O.Sink in
    let halt = c.in_err-put_entries.field-0.0 in
    let given : c.from_residual.result ≡ Err halt = search rules in
    let below : index < directory_blocks (volume_view old).layout.kind (inode_view node).size = search rules in
    rw given
    (told_ended (past_of old) (blocks node (index + 1) (volume_view old)) (listing node (volume_view old)) halt (held c.args.out.now) (held c.put_entries.new.out)
    (λ now. blocks_on (volume_view old).layout (parts_of (volume_view old) now) (inode_view node) (index + 1))
    (told_blocks old c.loop-index.volume node index (Err halt) (held c.args.out.now) (held c.loop-index.out) (held c.put_entries.new.out)
    below c.loop-index.invariant.same c.loop-index.invariant.told c.in_err-put_entries.ensures.does))

pub loop-index-preserved : goal.loop-index-preserved
loop-index-preserved g c =
    let node = c.args.stat.now.node in
    let index = c.loop-index.index in
    let old = c.args.volume.now in
    let held = held_by g.O.Sink in
    let below : index < directory_blocks (volume_view old).layout.kind (inode_view node).size = search rules in
    record {
      told = told_blocks old c.loop-index.volume node index (Ok tt) (held c.args.out.now) (held c.loop-index.out) (held c.put_entries.new.out)
          below c.loop-index.invariant.same c.loop-index.invariant.told c.in_ok-put_entries.ensures.does;
      same = search rules;
      later = search rules;
      failed = search rules;
      same_reference = search rules;
    }

pub returns-clause-does : goal.returns-clause-does
returns-clause-does g c =
    let node = c.args.stat.now.node in
    let old = c.args.volume.now in
    let held = held_by g.O.Sink in
    let all : c.loop-index.index ≡ directory_blocks (volume_view old).layout.kind (inode_view node).size = search rules in
    told_verdict (past_of old) (blocks node c.loop-index.index (volume_view old)) (listing node (volume_view old)) (Ok tt) (held c.args.out.now) (held c.loop-index.out)
    (λ now. ap (blocks_printed (volume_view old).layout (parts_of (volume_view old) now) (inode_view node)) all
    ∙ blocks_all (volume_view old).layout (parts_of (volume_view old) now) (inode_view node)) c.loop-index.invariant.told
