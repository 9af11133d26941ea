-- The Holder stays.
use Rattle.std.proofs.Common.{◌≡◌, ℕ, true, false, List, Option, Some, Result, Ok, Err, refl, ◌∙◌, ap, inl, inr, get_or}
use Rattle.lilo_model.specs.BootSector.{boot_at}
use Rattle.lilo_model.specs.Disks.{Image, Machine, Span, DiskSector}
use Rattle.lilo_model.specs.MinixLayout.{Inode}
use Rattle.lilo_model.specs.MinixNames.{reached, Named}
use Rattle.lilo_model.specs.MinixParts.{Volume, parts_of}
use Rattle.lilo_model.specs.NamePlaces.{with_tilde}
use Rattle.lilo_model.specs.Settled.{Holds, NamesInFile, is_foreign}
use Rattle.lilo_model.specs.Slots.{AddressFault, place_at}
use Rattle.minix_remove_laws.specs.Held.{is_removable}
use Rattle.minix_remove_laws.proofs.Held.{no-directory}
use Rattle.minix_change_laws.specs.Tree.{KeepsNamed}
use Rattle.install_laws.specs.Boots.{HasBootOf}
use Rattle.install_settle.specs.Settles.{finishes, KeepsHeld}
use Rattle.install_settle.specs.declared.settling.Settling.{Settling}

module _ (volume : Volume) (old c : Image) (machine : Machine) (boot : Span) (same : HasBootOf boot old c) where
  -- a boot sector of another system stays one
  pub foreign-stays : is_foreign (old boot.disk boot.start) ≡ true → is_foreign (c boot.disk boot.start) ≡ true
  foreign-stays is = ap is_foreign same ∙ is

  module _ (keeps : KeepsNamed volume.layout (parts_of volume old) (parts_of volume c)) where
    in-file : (number : ℕ) → Named volume.layout (parts_of volume old) number → Named volume.layout (parts_of volume c) number → (place : Result DiskSector AddressFault)
        → NamesInFile machine volume old number place → NamesInFile machine volume c number place
    in-file number was now (Ok place) is = record {
      at = is.at;
      zone = is.zone;
      sector = is.sector;
      points = keeps.stays number is.at is.zone (record { named = was; to = is.points }) now;
      is = is.is;
      of = is.of;
    }
    in-file number was now (Err fault) is = is

    -- a file holds the table by another path that leads to it
    pub holds-by : (path other : List (List ℕ)) → reached volume.layout (parts_of volume c) other ≡ reached volume.layout (parts_of volume old) path
        → Holds old machine volume boot path → Holds c machine volume boot other
    holds-by path other leads holds =
        let was : Named volume.layout (parts_of volume old) holds.number = record { path = path; leads = holds.leads } in
        let there : reached volume.layout (parts_of volume c) other ≡ Some holds.number = leads ∙ holds.leads in
        let now : Named volume.layout (parts_of volume c) holds.number = record { path = other; leads = there } in
        let removable : is_removable ((parts_of volume old).node holds.number) ≡ true = rw holds.regular refl in
        let node = keeps.files holds.number was now (no-directory ((parts_of volume old).node holds.number) removable) in
        let mode : ((parts_of volume c).node holds.number).mode ≡ ((parts_of volume old).node holds.number).mode = ap (λ (i : Inode). i.mode) node in
        record {
          boot = holds.boot;
          says = ap boot_at same ∙ holds.says;
          number = holds.number;
          leads = there;
          regular = rw mode holds.regular;
          table = λ k d below. in-file holds.number was now (place_at machine (get_or holds.boot.table k d) 0) (holds.table k d below);
        }

-- ---- at each moment

module _ (volume : Volume) (old c : Image) (path : List (List ℕ)) where
  abbrev Leads : Image → List (List ℕ) → Option ℕ
  Leads image name = reached volume.layout (parts_of volume image) name

  -- what is held by its paths still
  pub held-same : (settling : Settling) → KeepsNamed volume.layout (parts_of volume old) (parts_of volume c)
      → Leads c path ≡ Leads old path → Leads c (with_tilde path) ≡ Leads old (with_tilde path) → KeepsHeld volume old path settling c
  held-same settling keeps here there machine boot right same (inl foreign) = inl (foreign-stays volume old c machine boot same foreign)
  held-same settling keeps here there machine boot right same (inr (inl holds)) = inr (inl (holds-by volume old c machine boot same keeps path path here holds))
  held-same settling keeps here there machine boot right same (inr (inr holds)) = inr (inr (holds-by volume old c machine boot same keeps (with_tilde path) (with_tilde path) there holds))

  -- a removal of `~` leaves the other
  pub held-gone : (settling : Settling) → KeepsNamed volume.layout (parts_of volume old) (parts_of volume c)
      → Leads c path ≡ Leads old path → finishes settling.map ≡ false → KeepsHeld volume old path settling c
  held-gone settling keeps here off machine boot right same (inl foreign) = inl (foreign-stays volume old c machine boot same foreign)
  held-gone settling keeps here off machine boot right same (inr (inl holds)) = inr (inl (holds-by volume old c machine boot same keeps path path here holds))
  held-gone settling keeps here off machine boot right same (inr (inr holds)) = inr (inl (holds-by volume old c machine boot same keeps path path here (right.holder.no off holds)))

  -- a rename that is begun or done leads the one to what the other led to
  pub held-both : (settling : Settling) → KeepsNamed volume.layout (parts_of volume old) (parts_of volume c)
      → Leads c path ≡ Leads old (with_tilde path) → finishes settling.map ≡ true → KeepsHeld volume old path settling c
  held-both settling keeps here on machine boot right same held =
      inr (inl (holds-by volume old c machine boot same keeps (with_tilde path) path here (right.holder.yes on).0))

  -- where a copy is removed the boot sector is another system's
  pub held-foreign : (settling : Settling) → settling.copy ≡ true → KeepsHeld volume old path settling c
  held-foreign settling copy machine boot right same held = inl (foreign-stays volume old c machine boot same (right.foreign copy))
