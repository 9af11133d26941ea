-- The choice, and the block.
use Rattle.std.proofs.Common.{◌≡◌, ◌<◌, ℕ, All, Ok, Err, sym, ◌∙◌, subst, ap, rules}
use Rattle.std.proofs.lemmas.List.Elements.{All-nil}
use Rattle.lilo_model.specs.MinixLayout.{is_size}
use Rattle.disk_trait.specs.Past.{Image}
use Rattle.lilo_model.specs.MinixParts as model
use Rattle.lilo_model.specs.MinixParts.{blocks_for}
use Rattle.minix_layout.specs.View.{kind_view}
use Rattle.minix_names.specs.Component.{HasNoZero}
use Rattle.minix_zones.specs.Volume.{volume_view, past_of}
use Rattle.minix_zones.proofs.SameLemmas.{told_forth}
use Rattle.ldisk_files.specs.Made.{GivesChoice, IsWishFor, making_view}
use Rattle.ldisk_files.specs.declared.room.Ready.{Ready}
use Rattle.ldisk_files.proofs.MadeLemmas.{size-fits, one-block, few-blocks}
use Rattle.ldisk_files.proofs.NamedLemmas.{named-made, told-passes, told-short}
use Rattle.minix_layout.specs.declared.superblock.Super.{Super}
use Rattle.ldisk_files.specs.Made.{IsFirstBlock}
use Rattle.ldisk_files.proofs.room.choose_ready.Goals as goal

pub choose_wish-requires : goal.choose_wish-requires
choose_wish-requires g c =
    let wish = c.requires.wish in
    record {
      some = rw wish.directory c.requires.fits.some;
      there = rw wish.directory c.requires.fits.there;
      holes = subst (All (λ hole. hole < blocks_for c.args.wish.now.length)) (sym wish.holes) (All-nil (λ hole. hole < blocks_for c.args.wish.now.length));
      no_zero = subst HasNoZero (sym wish.name) c.requires.name.plain;
      sized = subst (λ (n : ℕ). is_size (kind_view c.args.volume.now.layout.kind) n ≡ _) (sym wish.long) (size-fits (kind_view c.args.volume.now.layout.kind) c.args.making.now wish.short);
    }

pub returns-in_err-chosen-clause-answers : goal.returns-in_err-chosen-clause-answers
returns-in_err-chosen-clause-answers g c =
    let given : c.from_residual.result ≡ Err (c.in_err-chosen.field-0.0) = search rules in
    rw given
    (told-short (past_of c.args.volume.now) (volume_view c.args.volume.now) c.args.place.now c.args.making.now c.args.wish.now c.requires.wish Ready (c.in_err-chosen.field-0.0) c.in_err-chosen.ensures.choice)

pub returns-clause-answers : goal.returns-clause-answers
returns-clause-answers g c =
    told-passes (past_of c.args.volume.now) (volume_view c.args.volume.now) c.args.place.now c.args.making.now c.args.wish.now c.requires.wish (Unit {0}) c.in_ok-chosen.chosen tt c.in_ok-chosen.ensures.choice

pub returns-clause-may : goal.returns-clause-may
returns-clause-may g c = λ told sound outer new fits.
    let old = c.args.volume.now in
    let last = c.choose_wish.new.volume in
    let same = c.in_ok-chosen.ensures.same in
    let place = c.args.place.now in
    let first : IsFirstBlock (kind_view last.layout.kind) (making_view c.args.making.now) c.in_ok-chosen.chosen.choice.inode place.directory.inode c.first_block-block.result = search rules in
    named-made old last same place c.args.making.now c.args.wish.now c.in_ok-chosen.chosen c.first_block-block.result c.requires.fits c.requires.node
    record {
      made = c.in_ok-chosen.ensures.made;
      choice = told_forth old last (λ (volume : model.Volume) (now : Image). GivesChoice volume now c.args.wish.now (Ok c.in_ok-chosen.chosen)) same c.in_ok-chosen.ensures.choice;
      whole = c.in_ok-chosen.ensures.whole;
      free = c.in_ok-chosen.ensures.free;
      links = c.in_ok-chosen.ensures.name;
      wish_is = subst (λ (layout : Super). IsWishFor (kind_view layout.kind) place (making_view c.args.making.now) c.args.wish.now) (sym same.same_layout) c.requires.wish;
      first = first;
    }
    told sound outer new fits

pub returns-clause-suits : goal.returns-clause-suits
returns-clause-suits g c =
    let chosen = c.in_ok-chosen.chosen in
    record {
      suits = c.in_ok-chosen.ensures.suits;
      one = few-blocks c.args.volume.now.layout c.args.volume.now.span chosen c.in_ok-chosen.ensures.suits
          (ap blocks_for (c.in_ok-chosen.ensures.made.size ∙ c.requires.wish.long) ∙ one-block (kind_view c.args.volume.now.layout.kind) c.args.making.now c.requires.wish.short);
    }

pub returns-clause-time : goal.returns-clause-time
returns-clause-time g c = c.in_ok-chosen.ensures.made.time
