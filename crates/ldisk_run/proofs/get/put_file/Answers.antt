-- Each block goes after those before it.
use Rattle.std.proofs.Common.{◌≡◌, ◌+◌, ◌≤◌, ℕ, List, Result, Ok, Err, refl, ap, arith, rules}
use Rattle.disk_trait.specs.Past.{Image}
use Rattle.lilo_model.specs.MinixParts as model
use Rattle.lilo_model.specs.MinixParts.{parts_of, blocks_for}
use Rattle.lilo_model.specs.MinixFind.{TreeFault, file_block}
use Rattle.lilo_model.specs.LdiskVerdict.{piece_verdict, printed, file_verdict}
use Rattle.minix_layout.specs.View.{inode_view}
use Rattle.minix_layout.specs.declared.inode.Inode.{Inode}
use Rattle.minix_zones.specs.Volume.{volume_view, past_of}
use Rattle.ldisk_run.specs.Pieces.{held_by}
use Rattle.ldisk_run.proofs.AddsLemmas.{adds_nothing, printed_to}
use Rattle.ldisk_run.proofs.StepLemmas.{Added, told_behind, told_ended, told_verdict, piece_more}
use Rattle.disk_trait.proofs.ToldLemmas.{told_all}
use Rattle.ldisk_run.proofs.get.put_file.Goals as goal

abbrev blocks : Inode → model.Volume → Image → ℕ → Result (List ℕ) TreeFault
blocks node volume now = file_block volume.layout (parts_of volume now) (inode_view node)

pub loop-index-init : goal.loop-index-init
unfolding printed
loop-index-init g c = record {
  told = told_all _ (λ now. Added (printed (blocks c.args.stat.now.node (volume_view c.args.volume.now) now) 0) (held_by g.O.Sink c.args.out.now) (held_by g.O.Sink c.args.out.now)) (λ now. (refl, adds_nothing _));
  same = search rules;
  held = search rules;
  later = search rules;
  failed = search rules;
  same_reference = search rules;
}

pub returns-in_err-put_block-clause-does : goal.returns-in_err-put_block-clause-does
unfolding file_verdict
returns-in_err-put_block-clause-does g c =
    let node = c.args.stat.now.node in
    let index = c.loop-index.index in
    let old = c.args.volume.now in
    let held = held_by g.O.Sink in
    let halt = c.in_err-put_block.field-0.0 in
    let given : c.from_residual.result ≡ Err halt = search rules in
    let fits : index + 1 ≤ blocks_for node.size = omega (arith, c.div_ceil-blocks.ensures) in
    rw given (told_ended (past_of old) (λ now. printed (blocks node (volume_view old) now) (index + 1)) (λ now. printed (blocks node (volume_view old) now) (blocks_for node.size)) halt (held c.args.out.now) (held c.put_block.new.out)
    (λ now. printed_to (blocks node (volume_view old) now) (index + 1) (blocks_for node.size) fits)
    (told_behind old c.loop-index.volume (λ v now. printed (blocks node v now) index) (λ v now. piece_verdict (blocks node v now index)) (λ v now. printed (blocks node v now) (index + 1)) (Err halt) (held c.args.out.now) (held c.loop-index.out) (held c.put_block.new.out)
    (λ v now. piece_more (blocks node v now) index) c.loop-index.invariant.same c.loop-index.invariant.told c.in_err-put_block.ensures.does))

pub loop-index-preserved : goal.loop-index-preserved
loop-index-preserved g c =
    let node = c.args.stat.now.node in
    let index = c.loop-index.index in
    let held = held_by g.O.Sink in
    record {
      told = told_behind c.args.volume.now c.loop-index.volume (λ v now. printed (blocks node v now) index) (λ v now. piece_verdict (blocks node v now index)) (λ v now. printed (blocks node v now) (index + 1)) (Ok tt) (held c.args.out.now) (held c.loop-index.out) (held c.put_block.new.out)
          (λ v now. piece_more (blocks node v now) index) c.loop-index.invariant.same c.loop-index.invariant.told c.in_ok-put_block.ensures.does;
      same = search rules;
      held = search rules;
      later = search rules;
      failed = search rules;
      same_reference = search rules;
    }

pub returns-clause-does : goal.returns-clause-does
unfolding file_verdict
returns-clause-does g c =
    let node = c.args.stat.now.node in
    let held = held_by g.O.Sink in
    let all : c.loop-index.index ≡ blocks_for node.size = omega (arith, c.div_ceil-blocks.ensures) in
    told_verdict (past_of c.args.volume.now) (λ now. printed (blocks node (volume_view c.args.volume.now) now) c.loop-index.index) (λ now. printed (blocks node (volume_view c.args.volume.now) now) (blocks_for node.size)) (Ok tt) (held c.args.out.now) (held c.loop-index.out)
    (λ now. ap (printed (blocks node (volume_view c.args.volume.now) now)) all) c.loop-index.invariant.told
