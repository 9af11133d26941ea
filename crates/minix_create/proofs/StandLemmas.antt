-- What has no name yet stays where a directory gets a place in a zone that it has, below a greater size, or other links.
use Rattle.std.proofs.Common.{ℕ, refl, sym, ◌∙◌, subst}
use Rattle.lilo_model.specs.MinixLayout.{Super, Inode}
use Rattle.lilo_model.specs.MinixNames.{Named, PointsTo, Sound}
use Rattle.lilo_model.specs.MinixParts.{Parts, Pointer}
use Rattle.minix_change_laws.specs.Comes.{IsFit}
use Rattle.minix_change_laws.specs.Only.{KeepsInode}
use Rattle.minix_change_laws.specs.Changes.{ChangesNode}
use Rattle.minix_change_laws.proofs.Extends.{of-node}
use Rattle.minix_change_laws.specs.Sees.{Sees}
use Rattle.minix_change_laws.proofs.Inode.{HasSameNumbers, same-node, keeps-above, points-old}
use Rattle.minix_change_laws.proofs.Sees.{named-old}
use Rattle.minix_create.specs.Brought.{StillFits, KeepsFiles}

-- ---- one inode

module _ (super : Super) (old new : Parts) (sees : Sees super old new)
    (was : (number : ℕ) (at : Pointer) (zone : ℕ) → Named super old number → PointsTo super new number at zone → PointsTo super old number at zone)
    (number : ℕ) (kept : KeepsInode super old new number) where
  points-was : (at : Pointer) (zone : ℕ) → PointsTo super new number at zone → PointsTo super old number at zone
  points-was = points-old super old new number (same-node (old.node number) (new.node number) kept.node).numbers (keeps-above super old new number kept.zones)

  pub still : IsFit super old number → StillFits super old new number
  still fit = record {
    fit = record {
      range = fit.range;
      marked = kept.mark ∙ fit.marked;
      mode = rw kept.node fit.mode;
      size = rw kept.node fit.size;
      zone_range = λ at zone to. fit.zone_range at zone (points-was at zone to);
      zone_marked = λ at zone to. let to' = points-was at zone to in kept.zone_marks at zone to' ∙ fit.zone_marked at zone to';
      once = λ at there zone one two. fit.once at there zone (points-was at zone one) (points-was there zone two);
      apart = λ other at there zone to refers.
          let named = named-old super old new sees other refers.named in
          fit.apart other at there zone (points-was at zone to) (record { named = named; to = was other there zone named refers.to });
    };
    kept = kept;
  }

-- ---- in a row, and where nothing changes

pub keeps_none : (super : Super) (parts : Parts) (directory : ℕ) → KeepsFiles super parts parts directory
keeps_none super parts directory = record {
  points = λ number at zone named to. to;
  files = λ number apart fit. record {
    fit = fit;
    kept = record { node = refl; mark = refl; zones = λ at zone to. refl; zone_marks = λ at zone to. refl };
  };
}

-- ---- another inode with the same numbers, of another size or with other links

module _ (super : Super) (old new : Parts) (directory : ℕ) (inode : Inode) (sound : Sound super old) (same : HasSameNumbers (old.node directory) inode) (sees : Sees super old new)
    (change : ChangesNode super old new directory inode) where
  numbers-here : HasSameNumbers (old.node directory) (new.node directory)
  numbers-here = subst (λ (i : Inode). HasSameNumbers (old.node directory) i) (sym change.here) same

  numbers-changed : (number : ℕ) → Named super old number → HasSameNumbers (old.node number) (new.node number)
  numbers-changed number named = of-node directory (λ n. HasSameNumbers (old.node n) (new.node n)) number
      numbers-here
      (λ apart. (same-node (old.node number) (new.node number) (change.others number (sound.in_range number named) apart)).numbers)

  points-changed : (number : ℕ) (at : Pointer) (zone : ℕ) → Named super old number → PointsTo super new number at zone → PointsTo super old number at zone
  points-changed number at zone named to =
      points-old super old new number (numbers-changed number named)
      (keeps-above super old new number (λ at' zone' to'. change.zones zone' (sound.zone_range number at' zone' (record { named = named; to = to' }))))
      at zone to

  pub keeps_changed : KeepsFiles super old new directory
  keeps_changed = record {
    points = points-changed;
    files = λ number apart fit. still super old new sees points-changed number (record {
      node = change.others number fit.range apart;
      mark = change.marks number fit.range;
      zones = λ at zone to. change.zones zone (fit.zone_range at zone to);
      zone_marks = λ at zone to. change.zone_marks zone (fit.zone_range at zone to);
    }) fit;
  }
