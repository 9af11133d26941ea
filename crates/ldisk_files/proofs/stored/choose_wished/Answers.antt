-- The wish is one of a file.
use Rattle.std.proofs.Common.{◌≡◌, ◌<◌, ℕ, true, All, length, sym, subst, arith}
use Rattle.std.proofs.lemmas.Result.{IfOk-weaker}
use Rattle.lilo_model.specs.MinixLayout.{is_size}
use Rattle.lilo_model.specs.MinixParts.{blocks_for}
use Rattle.minix_layout.specs.View.{kind_view}
use Rattle.minix_names.specs.Component.{HasNoZero}
use Rattle.minix_zones.specs.Volume.{volume_view, past_of}
use Rattle.ldisk_files.proofs.ContentLemmas.{holes-below}
use Rattle.ldisk_files.proofs.StoredLemmas.{file-made-all, file-room, file-size, file-blocks}
use Rattle.ldisk_files.proofs.stored.choose_wished.Goals as goal

pub choose_wish-requires : goal.choose_wish-requires
choose_wish-requires g c =
    let wish = c.requires.wish in
    let bytes = c.args.bytes.now in
    record {
      some = rw wish.directory c.requires.fits.some;
      there = rw wish.directory c.requires.fits.there;
      holes = subst (λ (n : ℕ). All (λ hole. hole < blocks_for n) c.args.wish.now.holes.now) (sym wish.long)
          (subst (All (λ hole. hole < blocks_for (length bytes))) (sym wish.holes) (holes-below bytes (blocks_for (length bytes)) (blocks_for (length bytes)) (omega arith)));
      no_zero = subst HasNoZero (sym wish.name) c.requires.name.plain;
      sized = subst (λ (n : ℕ). is_size (kind_view c.args.volume.now.layout.kind) n ≡ true) (sym wish.long) (file-size (kind_view c.args.volume.now.layout.kind) (length bytes) c.requires.few);
    }

pub returns-clause-may : goal.returns-clause-may
returns-clause-may g c =
    let old = c.args.volume.now in
    let last = c.choose_wish.new.volume in
    let same = c.choose_wish.ensures.same in
    file-made-all old last same c.args.place.now c.args.bytes.now c.args.wish.now c.requires.fits c.requires.node c.requires.wish c.choose_wish.result
    c.choose_wish.ensures.made c.choose_wish.ensures.choice c.choose_wish.ensures.free c.choose_wish.ensures.name

pub returns-clause-room : goal.returns-clause-room
returns-clause-room g c =
    file-room (past_of c.args.volume.now) (volume_view c.args.volume.now) c.args.place.now c.args.bytes.now c.requires.few c.args.wish.now c.requires.wish c.choose_wish.result c.choose_wish.ensures.choice

pub returns-clause-blocks : goal.returns-clause-blocks
returns-clause-blocks g c =
    file-blocks c.args.volume.now.layout c.args.volume.now.span c.args.place.now c.args.bytes.now c.args.wish.now c.requires.wish c.choose_wish.result c.choose_wish.ensures.made c.choose_wish.ensures.suits

pub returns-clause-time : goal.returns-clause-time
returns-clause-time g c = IfOk-weaker c.choose_wish.result _ _ (λ chosen made. made.time) c.choose_wish.ensures.made
