-- What a run of a writer of files leaves.
use Rattle.std.proofs.Common.{◌≡◌, ◌⊎◌, ℕ, List, [], ◌∷◌, Option, ap, subst, inl, inr, ⊎_elim, get_or}
use Rattle.std.specs.List.{AllByRecursion}
use Rattle.std.proofs.lemmas.List.Elements.{recursion_from_All, All-from_recursion}
use Rattle.disk_trait.specs.Past.{Past}
use Rattle.disk_trait.specs.Moments.{now, LeavesOnly}
use Rattle.disk_trait.specs.NotWritten.{NotWritten}
use Rattle.disk_trait.proofs.MomentLemmas.{leaves_weaker}
use Rattle.disk_trait.proofs.NotWrittenLemmas.{not_written_stays}
use Rattle.lilo_model.specs.Disks.{Image, DiskSector, bytes_at}
use Rattle.lilo_model.specs.Mapped.{mapped_sectors}
use Rattle.boot_laws.specs.SameOn.{SameOn}
use Rattle.boot_laws.proofs.Same.{Same}
use Rattle.session_model.specs.Keeps.{Keeps}
use Rattle.session_model.specs.Site.{Site}
use Rattle.session_model.specs.State.{KeepsBoot}
use Rattle.session_laws.specs.Kept.{IsUnmapped, WasThere, GainsUnmapped}
use Rattle.session_laws.specs.Writers.{GainsWritten, WritesZone, IsWriterRun, WriterRunLaw}
use Rattle.session_laws.proofs.Kept.{kept-new}

-- what is left has both of two facts
both : (old new : Option Past) (P Q : Image → Type 0) → LeavesOnly old new P → LeavesOnly old new Q → LeavesOnly old new (λ c. P c × Q c)
both old new P Q one two = record {
  later = one.later;
  each = λ c left. (one.each c left, two.each c left);
  before = λ t c le left. ⊎_elim (λ before. inl before) (λ p. ⊎_elim (λ before. inl before) (λ q. inr (p, q)) (two.before t c le left)) (one.before t c le left);
}

module _ (site : Site) (old new : Option Past) (run : IsWriterRun site old new) where
  stays : (place : DiskSector) → NotWritten old new place.disk place.sector → LeavesOnly old new (λ c. bytes_at c place ≡ bytes_at (now old) place)
  stays place none = (not_written_stays old new place.disk place.sector none).1.stays (bytes_at (now old) place) (λ c left. ap (λ (c : Image). c place.disk place.sector) (run.quiet c left))

  all-stay : (places : List DiskSector) → AllByRecursion (λ (place : DiskSector). NotWritten old new place.disk place.sector) places → LeavesOnly old new (λ c. Same (now old) c places)
  all-stay [] none = leaves_weaker old new _ _ run.whole (λ c whole. tt)
  all-stay (place ∷ places) none = both old new _ _ (stays place none.0) (all-stay places none.1)

  abbrev mapped : List DiskSector
  mapped = mapped_sectors (now old) site.machine site.boot

  spared : LeavesOnly old new (SameOn mapped (now old))
  spared =
      leaves_weaker old new _ _ (all-stay mapped (recursion_from_All (λ (place : DiskSector). NotWritten old new place.disk place.sector) mapped run.spares))
      (λ c same. All-from_recursion (λ (place : DiskSector). bytes_at c place ≡ bytes_at (now old) place) mapped same)

  -- a zone that was written has no Mapped sector
  unmapped : (zone : ℕ) → WritesZone site old new zone → IsUnmapped site (now old) zone
  unmapped zone writes sector of index default below is =
      let at : DiskSector = get_or mapped index default in
      let none : NotWritten old new at.disk at.sector = run.spares index default below in
      writes sector of (subst (λ (place : DiskSector). NotWritten old new place.disk place.sector) is none)

  gains : (c : Image) → GainsWritten site old new c → GainsUnmapped site (now old) c
  gains c gained number at zone refers = by (gained number at zone refers)
    where
      by : WasThere site (now old) c number at zone ⊎ WritesZone site old new zone → WasThere site (now old) c number at zone ⊎ IsUnmapped site (now old) zone
      by (inl there) = inl there
      by (inr writes) = inr (unmapped zone writes)

  kept : Keeps site (now old) → LeavesOnly old new (λ c. Keeps site c × KeepsBoot site (now old) c)
  kept keeps =
      leaves_weaker old new _ _ (both old new _ _ (both old new _ _ spared run.whole) (both old new _ _ run.sound run.gains))
      (λ c all. kept-new site (now old) c keeps all.0.0 all.0.1 all.1.0 (gains c all.1.1))

pub writer_run_law : WriterRunLaw
writer_run_law site old new keeps run = kept site old new run keeps
