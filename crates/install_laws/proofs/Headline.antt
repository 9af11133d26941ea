-- How the headline follows.
use Rattle.std.proofs.Common.{ℕ, List, inr}
use Rattle.std.specs.Prelude.{◌⊎◌, Option}
use Rattle.disk_trait.specs.Past.{Past}
use Rattle.disk_trait.specs.Moments.{now, LeavesOnly}
use Rattle.disk_trait.proofs.MomentLemmas.{leaves_weaker, leaves_join}
use Rattle.disk_trait.proofs.LawLemmas.{end_of_run_law}
use Rattle.lilo_model.specs.Disks.{Image, Machine, Span, DiskSector}
use Rattle.lilo_model.specs.DefaultLine.{DefaultLine, Empty}
use Rattle.lilo_model.specs.Prompt.{Key}
use Rattle.lilo_model.specs.Boot.{Boot}
use Rattle.lilo_model.specs.MinixParts.{Volume}
use Rattle.lilo_model.specs.Clear.{Clear}
use Rattle.install_laws.specs.Boots.{BootsAsBeforeOrMeant, HasBootOf}
use Rattle.install_laws.specs.Headline.{Means, Installs, Headline, HeadlineLaw}
use Rattle.install_laws.specs.Stopped.{Prepares, StaysAsBefore, BootsAsEither}
use Rattle.install_laws.proofs.Stopped.{stays, either}

module _ (machine : Machine) (volume : Volume) (span : Span) (place : DiskSector) (meant : DefaultLine → List Key → ℕ → Boot) (bytes : List ℕ) (entry begun staged committed tidied : Option Past) (i : Installs machine volume span place meant bytes entry begun staged committed tidied) where
  abbrev M : Image → Type 0
  M = Means machine span place meant

  prepares : Prepares machine volume span entry begun staged
  prepares = record {
    told = (i.told.0, i.told.1);
    begin = i.begin;
    begin_boot = i.begin_boot;
    stage = i.stage;
    stage_boot = i.stage_boot;
  }

  before : StaysAsBefore machine volume span entry staged
  before = stays machine volume span entry begun staged prepares

  until : BootsAsEither machine volume span place meant entry committed
  until = either machine volume span entry begun staged prepares place meant bytes committed i.means i.commit

  whole : (clear : Clear volume (now entry) machine span) → LeavesOnly entry tidied (BootsAsBeforeOrMeant machine span (now entry) (meant Empty))
  whole clear = leaves_join entry committed tidied _ (until.any_moment clear) (leaves_weaker committed tidied _ _ i.tidy (λ c means. inr means.empty))

  always : LeavesOnly entry tidied (λ c. HasBootOf span (now entry) c ⊎ M c)
  always = leaves_join entry committed tidied _ until.boot_or_meant (leaves_weaker committed tidied _ _ i.tidy (λ c means. inr means))

  pub headline : Headline machine volume span place meant entry staged committed tidied
  headline = record {
    before_commit = before.boots;
    any_moment = whole;
    boot_or_meant = always;
    from_commit = i.tidy;
    after = λ c left. end_of_run_law M committed tidied i.tidy c left;
  }

pub headline_law : HeadlineLaw
headline_law machine volume span place meant bytes entry begun staged committed tidied i = headline machine volume span place meant bytes entry begun staged committed tidied i
