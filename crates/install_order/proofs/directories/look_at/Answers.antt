-- What is read of a directory.
use Rattle.std.proofs.Common.{◌<◌, ◌^◌, ℕ, subst}
use Rattle.disk_trait.proofs.ToldLemmas.{told_map}
use Rattle.lilo_model.specs.MinixLayout.{Inode}
use Rattle.lilo_model.specs.MinixParts.{parts_of}
use Rattle.minix_layout.specs.View.{super_view}
use Rattle.minix_zones.specs.Volume.{volume_view, past_of, faults_of}
use Rattle.install_order.proofs.WishedLemmas.{small_read}
use Rattle.install_order.proofs.directories.look_at.Goals as goal

pub returns-in-Ok-clause-small : goal.returns-in-Ok-clause-small
returns-in-Ok-clause-small g c =
    let volume = c.args.volume.now in
    told_map (past_of volume) _ _ (λ now is sized.
    let S : Inode → Type 0 = λ node. node.size < 2 ^ 32 in
    subst (λ (number : ℕ). S ((parts_of (volume_view volume) now).node number)) c.in-Ok.ensures.number (subst S is c.in-Ok.ensures.fits.fields.size_fits))
    c.in-Ok.ensures.node

pub returns-in-Err-clause-small : goal.returns-in-Err-clause-small
returns-in-Err-clause-small g c =
    let volume = c.args.volume.now in
    told_map (past_of volume) _ _ (λ now refuses.
    small_read (super_view volume.layout) (parts_of (volume_view volume) now) c.args.directory c.unless_failed.result
    (c.unless_failed.ensures.refused _ _ _ c.in-Err.ensures.cause refuses))
    c.in-Err.ensures.found

pub returns-in-Err-clause-cause : goal.returns-in-Err-clause-cause
returns-in-Err-clause-cause g c =
    c.unless_failed.ensures.cause (faults_of c.args.volume.now) (faults_of c.stat_of.new.volume) c.in-Err.ensures.cause
