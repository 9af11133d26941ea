-- The sectors of a Clear map stay until the commit.
use Rattle.std.proofs.Common.{◌≡◌, ◌∙◌, List, Option, subst}
use Rattle.disk_trait.specs.Moments.{now, LeavesOnly}
use Rattle.disk_trait.specs.Past.{Past}
use Rattle.disk_trait.proofs.MomentLemmas.{leaves_join, leaves_weaker}
use Rattle.lilo_model.specs.Clear.{Clear}
use Rattle.lilo_model.specs.Disks.{Image, Machine, DiskSector, Span}
use Rattle.lilo_model.specs.Mapped.{mapped_sectors}
use Rattle.lilo_model.specs.MinixParts.{Volume}
use Rattle.boot_laws.specs.SameOn.{SameOn}
use Rattle.boot_laws.proofs.Mapped.{same_mapped_law}
use Rattle.install_laws.specs.Boots.{SparesMapped}
use Rattle.install_laws.specs.Stopped.{Prepares}
use Rattle.install_laws.proofs.Stopped.{at-end}

same-join : (places : List DiskSector) (one two three : Image) → SameOn places one two → SameOn places two three → SameOn places one three
same-join places one two three first next = λ k d below. next k d below ∙ first k d below

module _ (machine : Machine) (volume : Volume) (span : Span) (entry begun staged : Option Past) (p : Prepares machine volume span entry begun staged) where
  abbrev Places : List DiskSector
  Places = mapped_sectors (now entry) machine span

  pub spares_since : Clear volume (now entry) machine span → SparesMapped machine span entry staged
  spares_since clear =
      let then : SameOn Places (now entry) (now begun) = at-end (SameOn Places (now entry)) entry begun p.told.0 (p.begin clear) in
      leaves_join entry begun staged (SameOn Places (now entry)) (p.begin clear)
      (leaves_weaker begun staged _ _ (p.stage clear)
      (λ c same. same-join Places (now entry) (now begun) c then
      (subst (λ (places : List DiskSector). SameOn places (now begun) c) (same_mapped_law (now entry) (now begun) machine span then) same)))
