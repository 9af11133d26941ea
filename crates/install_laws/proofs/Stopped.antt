-- What follows for an installation that ends before it is done.
use Rattle.std.proofs.Common.{ℕ, List, ap, subst, sym, ◌∙◌, inl, inr}
use Rattle.std.specs.Prelude.{◌⊎◌, Option}
use Rattle.disk_trait.specs.Past.{Past, with_sector}
use Rattle.disk_trait.specs.Moments.{IsTold, now, LeavesOnly}
use Rattle.disk_trait.proofs.MomentLemmas.{leaves_weaker, leaves_join}
use Rattle.disk_trait.proofs.LawLemmas.{now_and_begun_law, end_of_run_law}
use Rattle.lilo_model.specs.Disks.{Image, Machine, Span, DiskSector}
use Rattle.lilo_model.specs.DefaultLine.{DefaultLine, Empty}
use Rattle.lilo_model.specs.Prompt.{Key}
use Rattle.lilo_model.specs.Boot.{Boot, whole_boot}
use Rattle.lilo_model.specs.MinixParts.{Volume}
use Rattle.boot_laws.proofs.Boots.{mapped_law}
use Rattle.lilo_model.specs.Clear.{Clear}
use Rattle.install_laws.specs.Boots.{BootsAs, BootsAsBeforeOrMeant, SparesMapped, IsWithOrWithout, HasBootOf}
use Rattle.install_laws.specs.Headline.{Means}
use Rattle.install_laws.specs.Stopped.{Prepares, StaysAsBefore, PreparesLaw, BootsAsEither, CommitEndsLaw}

-- what holds in whatever a run leaves holds now
pub at-end : (P : Image → Type 0) (old new : Option Past) → IsTold new → LeavesOnly old new P → P (now new)
at-end P old new told leaves = end_of_run_law P old new leaves (now new) (now_and_begun_law new told).0

module _ (machine : Machine) (volume : Volume) (span : Span) (entry begun staged : Option Past) (p : Prepares machine volume span entry begun staged) where
  spares-boots : (old new : Option Past) → SparesMapped machine span old new → LeavesOnly old new (BootsAs machine span (now old))
  spares-boots old new spares = leaves_weaker old new _ _ spares (λ c same keys memory. mapped_law (now old) c machine span keys memory same)

  -- the boot sector
  abbrev H : Image → Type 0
  H = HasBootOf span (now entry)

  begun-boot : H (now begun)
  begun-boot = at-end H entry begun p.told.0 p.begin_boot

  boot-stays : LeavesOnly entry staged H
  boot-stays = leaves_join entry begun staged H p.begin_boot (leaves_weaker begun staged _ _ p.stage_boot (λ c same. same ∙ begun-boot))

  -- what boots, where the map is Clear
  module _ (clear : Clear volume (now entry) machine span) where
    abbrev B : Image → Type 0
    B = BootsAs machine span (now entry)

    begun-boots : B (now begun)
    begun-boots = at-end B entry begun p.told.0 (spares-boots entry begun (p.begin clear))

    boots-stay : LeavesOnly entry staged B
    boots-stay =
        leaves_join entry begun staged B (spares-boots entry begun (p.begin clear))
        (leaves_weaker begun staged _ _ (spares-boots begun staged (p.stage clear)) (λ c same keys memory. same keys memory ∙ begun-boots keys memory))

  pub stays : StaysAsBefore machine volume span entry staged
  stays = record { boots = boots-stay; boot = boot-stays }

  -- the commit
  module _ (place : DiskSector) (meant : DefaultLine → List Key → ℕ → Boot) (bytes : List ℕ) (ended : Option Past)
      (means : Means machine span place meant (with_sector (now staged) span.disk span.start bytes)) (commit : LeavesOnly staged ended (IsWithOrWithout (now staged) span bytes)) where
    abbrev M : Image → Type 0
    M = Means machine span place meant

    boot-cases : (c : Image) → IsWithOrWithout (now staged) span bytes c → H c ⊎ M c
    boot-cases c (inl same) = inl (ap (λ (c : Image). c span.disk span.start) same ∙ at-end H entry staged p.told.1 boot-stays)
    boot-cases c (inr same) = inr (subst M (sym same) means)

    cases : (clear : Clear volume (now entry) machine span) (c : Image) → IsWithOrWithout (now staged) span bytes c → BootsAsBeforeOrMeant machine span (now entry) (meant Empty) c
    cases clear c (inl same) = inl (λ keys memory. ap (λ c. whole_boot c machine span keys memory) same ∙ at-end (B clear) entry staged p.told.1 (boots-stay clear) keys memory)
    cases clear c (inr same) = inr (λ keys memory. ap (λ c. whole_boot c machine span keys memory) same ∙ means.empty keys memory)

    pub either : BootsAsEither machine volume span place meant entry ended
    either = record {
      any_moment = λ clear.
          leaves_join entry staged ended _ (leaves_weaker entry staged _ _ (boots-stay clear) (λ c same. inl same))
          (leaves_weaker staged ended _ _ commit (cases clear));
      boot_or_meant =
          leaves_join entry staged ended _ (leaves_weaker entry staged _ _ boot-stays (λ c same. inl same))
          (leaves_weaker staged ended _ _ commit boot-cases);
    }

pub prepares_law : PreparesLaw
prepares_law machine volume span entry begun staged p = stays machine volume span entry begun staged p

pub commit_ends_law : CommitEndsLaw
commit_ends_law machine volume span place meant bytes entry begun staged ended p means commit =
    either machine volume span entry begun staged p place meant bytes ended means commit
