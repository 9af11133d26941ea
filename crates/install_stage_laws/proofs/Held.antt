-- The Holder stays where its name and its file do.
use Rattle.std.proofs.Common.{◌≡◌, ◌≢◌, inl, inr, ℕ, ◌/◌, ◌==◌, List, None, Some, Result, Ok, Err, sym, ap, subst, ◌∙◌, arith, get_or}
use Rattle.lilo_model.specs.BootSector.{boot_at}
use Rattle.lilo_model.specs.Disks.{Image, Machine, DiskSector}
use Rattle.lilo_model.specs.MinixNames.{Named, reached}
use Rattle.lilo_model.specs.MinixParts.{Volume, parts_of}
use Rattle.lilo_model.specs.NamePlaces.{with_tilde}
use Rattle.lilo_model.specs.Settled.{Holds, Held, NamesInFile, is_foreign}
use Rattle.lilo_model.specs.Slots.{AddressFault, place_at}
use Rattle.minix_change_laws.specs.Tree.{KeepsNamed, TreeAs}
use Rattle.minix_change_laws.proofs.Seen.{opened}
use Rattle.minix_change_laws.proofs.Tree.{sees_tree_law}
use Rattle.install_stage_laws.specs.StageLaws.{HolderStaysLaw, HoldsBesideLaw, StagedHeldLaw, SeenHeldLaw}

module _ (old c : Image) (machine : Machine) (volume : Volume) (keeps : KeepsNamed volume.layout (parts_of volume old) (parts_of volume c)) where
  in-file : (number : ℕ) → Named volume.layout (parts_of volume old) number → Named volume.layout (parts_of volume c) number → (place : Result DiskSector AddressFault)
      → NamesInFile machine volume old number place → NamesInFile machine volume c number place
  in-file number was now (Ok place) is = record {
    at = is.at;
    zone = is.zone;
    sector = is.sector;
    points = keeps.stays number is.at is.zone (record { named = was; to = is.points }) now;
    is = is.is;
    of = is.of;
  }
  in-file number was now (Err fault) is = is

pub holder_stays_law : HolderStaysLaw
holder_stays_law old c machine volume span path other same keeps leads holds =
    let was : Named volume.layout (parts_of volume old) holds.number = record { path = path; leads = holds.leads } in
    let there : reached volume.layout (parts_of volume c) other ≡ Some holds.number = leads ∙ holds.leads in
    let now : Named volume.layout (parts_of volume c) holds.number = record { path = other; leads = there } in
    record {
      boot = holds.boot;
      says = ap boot_at same ∙ holds.says;
      number = holds.number;
      leads = there;
      regular = ap (λ mode. mode / 4096 == 8) (keeps.modes holds.number was now) ∙ holds.regular;
      table = λ k d below. in-file old c machine volume keeps holds.number was now (place_at machine (get_or holds.boot.table k d) 0) (holds.table k d below);
    }

pub holds_beside_law : HoldsBesideLaw
holds_beside_law old c machine volume span name path found what same tree other holds =
    holder_stays_law old c machine volume span name name same tree.tree.keeps (tree.tree.others name other) holds

pub staged_held_law : StagedHeldLaw
staged_held_law old c machine volume span map path found what same tree free held = by held
  where
    not-there : (name : List (List ℕ)) → ((path ≡ name) → reached volume.layout (parts_of volume old) path ≡ None) → Holds old machine volume span name → name ≢ path
    not-there name none holds is =
        let led : reached volume.layout (parts_of volume old) path ≡ Some holds.number = subst (λ p. reached volume.layout (parts_of volume old) p ≡ Some holds.number) is holds.leads in
        let both : None ≡ Some holds.number = sym (none (sym is)) ∙ led in
        grind (arith, both)

    by : Held old machine volume span map → Held c machine volume span map
    by (inl foreign) = inl (ap is_foreign same ∙ foreign)
    by (inr (inl holds)) = inr (inl (holds_beside_law old c machine volume span map path found what same tree (not-there map (λ is. free (inl is)) holds) holds))
    by (inr (inr holds)) =
        inr (inr (holds_beside_law old c machine volume span (with_tilde map) path found what same tree (not-there (with_tilde map) (λ is. free (inr is)) holds) holds))

pub seen_held_law : SeenHeldLaw
seen_held_law old c machine volume span map sound same seen held = by held
  where
    tree : TreeAs volume.layout (parts_of volume old) (parts_of volume c)
    tree = sees_tree_law volume.layout (parts_of volume old) (parts_of volume c) (opened volume old sound).parts seen.sees

    by : Held old machine volume span map → Held c machine volume span map
    by (inl foreign) = inl (ap is_foreign same ∙ foreign)
    by (inr (inl holds)) = inr (inl (holder_stays_law old c machine volume span map map same tree.keeps (tree.leads map) holds))
    by (inr (inr holds)) = inr (inr (holder_stays_law old c machine volume span (with_tilde map) (with_tilde map) same tree.keeps (tree.leads (with_tilde map)) holds))
