use Rattle.std.proofs.Common.{◌∙◌, ap}
use Rattle.disk_trait.specs.MemDisks.{image_of, past_of}
use Rattle.disk_trait.specs.Moments.{now}
use Rattle.disk_trait.specs.Past.{with_sector}
use Rattle.minix_layout.specs.View.{kind_view}
use Rattle.minix_stops.proofs.SmallLemmas.{small_sound, made_sectors, made_quiet}
use Rattle.minix_stops.proofs.small.small_disks.Goals as goal

pub returns-clause-sectors : goal.returns-clause-sectors
returns-clause-sectors c =
    made_sectors (kind_view c.args.kind) (image_of c.in_ok-disks.disks.start) _ _ _ _ c.put-5.new.disks
    c.in_ok-disks.ensures.image c.put-5.ensures.empty
    (c.put.ensures.image ∙ ap (λ bytes. with_sector (image_of c.in_ok-disks.disks.start) 0 10 bytes) c.superblock.ensures)
    (c.put-2.ensures.image ∙ ap (λ bytes. with_sector (image_of c.put.new.disks.start) 0 12 bytes) c.two_bits.ensures)
    (c.put-3.ensures.image ∙ ap (λ bytes. with_sector (image_of c.put-2.new.disks.start) 0 14 bytes) c.two_bits-2.ensures)
    (c.put-4.ensures.image ∙ ap (λ bytes. with_sector (image_of c.put-3.new.disks.start) 0 16 bytes) c.inodes.ensures)
    (c.put-5.ensures.image ∙ ap (λ bytes. with_sector (image_of c.put-4.new.disks.start) 0 18 bytes) c.entries.ensures)

pub returns-clause-sound : goal.returns-clause-sound
returns-clause-sound c = small_sound (kind_view c.args.kind) (now (past_of c.put-5.new.disks)) (returns-clause-sectors c)

pub returns-clause-quiet : goal.returns-clause-quiet
returns-clause-quiet c =
    made_quiet (kind_view c.args.kind) (image_of c.in_ok-disks.disks.start) _ _ _ _ c.put-5.new.disks
    c.in_ok-disks.ensures.image c.put-5.ensures.empty
    (c.put.ensures.image ∙ ap (λ bytes. with_sector (image_of c.in_ok-disks.disks.start) 0 10 bytes) c.superblock.ensures)
    (c.put-2.ensures.image ∙ ap (λ bytes. with_sector (image_of c.put.new.disks.start) 0 12 bytes) c.two_bits.ensures)
    (c.put-3.ensures.image ∙ ap (λ bytes. with_sector (image_of c.put-2.new.disks.start) 0 14 bytes) c.two_bits-2.ensures)
    (c.put-4.ensures.image ∙ ap (λ bytes. with_sector (image_of c.put-3.new.disks.start) 0 16 bytes) c.inodes.ensures)
    (c.put-5.ensures.image ∙ ap (λ bytes. with_sector (image_of c.put-4.new.disks.start) 0 18 bytes) c.entries.ensures)
