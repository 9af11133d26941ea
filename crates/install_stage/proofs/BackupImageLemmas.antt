-- An image of the staging of a backup, by what its paths lead to.
use Rattle.std.proofs.Common.{◌≡◌, ◌≢◌, ℕ, Bool, true, false, if◌then◌else◌, List, Option, None, Some, refl, sym, ◌∙◌, ap, subst, inl, inr, arith}
use Rattle.lilo_model.specs.Disks.{Image, Machine, Span}
use Rattle.lilo_model.specs.MinixFindNames.{Names}
use Rattle.lilo_model.specs.MinixNames.{Thing, File, names_in, reached, IsSound}
use Rattle.lilo_model.specs.MinixParts.{Volume, parts_of}
use Rattle.lilo_model.specs.NamePlaces.{same_path, with_name, with_tilde}
use Rattle.lilo_model.specs.Settled.{Holds, Held, is_foreign}
use Rattle.minix_remove.specs.Moves.{IsMoving, LeadsBoth}
use Rattle.minix_change_laws.specs.Sees.{SeenAsIn}
use Rattle.minix_change_laws.specs.Tree.{KeepsNamed, TreeAs, HasTreeWith, HasTreeMoved}
use Rattle.minix_change_laws.proofs.Seen.{opened, seen_sound_law}
use Rattle.minix_change_laws.proofs.Tree.{sees_tree_law, keeps_join_law, has_names_law, has_moved_law}
use Rattle.minix_turns.specs.Joined.{SeenOrWith}
use Rattle.install_laws.specs.Writes.{IsApartSector}
use Rattle.install_settle.specs.Settles.{HasNames}
use Rattle.install_settle.proofs.NamesLemmas.{with-as, names-with, names-moved}
use Rattle.install_stage_laws.specs.ClearMap.{KeepsFiles}
use Rattle.install_stage_laws.proofs.Clear.{added_keeps_law}
use Rattle.install_stage_laws.proofs.Held.{holder_stays_law}
use Rattle.install_stage.specs.BackupStaged.{made_at, with_made, with_both, with_backup, AreStaging, KeepsBeside, KeepsApart, KeepsHeld, IsStaging}

module _ (volume : Volume) (old : Image) (forced : Bool) (path : List (List ℕ)) (present : List ℕ) (sound : IsSound volume old)
    (absent : reached volume.layout (parts_of volume old) (made_at forced path) ≡ None) where
  abbrev Leads : Image → List (List ℕ) → Option ℕ
  Leads image name = reached volume.layout (parts_of volume image) name

  abbrev Keeps : Image → Image → Type 0
  Keeps one other = KeepsNamed volume.layout (parts_of volume one) (parts_of volume other)

  tree : (one c : Image) → IsSound volume one → SeenAsIn volume one c → TreeAs volume.layout (parts_of volume one) (parts_of volume c)
  tree one c s seen = sees_tree_law volume.layout (parts_of volume one) (parts_of volume c) (opened volume one s).parts seen.sees

  -- nothing was where the file is made
  not-there : (name : List (List ℕ)) (number : ℕ) → Leads old name ≡ Some number → name ≢ made_at forced path
  not-there name number leads is =
      let both : None ≡ Some number = sym absent ∙ subst (λ p. Leads old p ≡ Some number) is leads in
      grind (arith, both)

  -- ---- from paths

  module _ (c : Image) (paths : KeepsBeside volume old forced path c) (keeps : Keeps old c) (apart : KeepsApart volume old c) where
    still : (machine : Machine) (boot : Span) (name : List (List ℕ)) → IsApartSector volume boot.disk boot.start → path ≢ name → Holds old machine volume boot name → Holds c machine volume boot name
    still machine boot name outside other holds =
        holder_stays_law old c machine volume boot name name (apart boot.disk boot.start outside) keeps
        (paths name (not-there name holds.number holds.leads) (λ same. other (sym same))) holds

    held-by : KeepsHeld volume old path c
    held-by machine boot map outside one two held = by held
      where
        by : Held old machine volume boot map → Held c machine volume boot map
        by (inl foreign) = inl (ap is_foreign (apart boot.disk boot.start outside) ∙ foreign)
        by (inr (inl holds)) = inr (inl (still machine boot map outside one holds))
        by (inr (inr holds)) = inr (inr (still machine boot (with_tilde map) outside two holds))

    pub staging-by : IsSound volume c → AreStaging volume old forced path present c → IsStaging volume old forced path present c
    staging-by s names = record {
      sound = s;
      names = names;
      paths = paths;
      files = record {
        sound = s;
        named = λ name number other leads. record { path = name; leads = paths name (not-there name number leads) other ∙ leads };
        keeps = keeps;
      };
      apart = apart;
      held = held-by;
    }

  -- ---- while the file is made

  pub seen-staging : (c : Image) → SeenAsIn volume old c → KeepsApart volume old c → IsStaging volume old forced path present c
  seen-staging c seen apart =
      let t = tree old c sound seen in
      staging-by c (λ name one two. t.leads name) t.keeps apart seen.sound (inl (seen_sound_law volume old c sound seen).same)

  module _ (c : Image) (found : Option ℕ) (made : HasTreeWith volume old c (made_at forced path) found (Some (File present))) where
    pub made-names : HasNames volume c (with_made forced path present (names_in volume old))
    made-names = names-with volume old c (made_at forced path) (Some (File present)) (has_names_law volume old c (made_at forced path) found (Some (File present)) made)

    pub made-staging : KeepsApart volume old c → IsStaging volume old forced path present c
    made-staging apart = staging-by c (λ name one two. made.tree.others name one) made.tree.keeps apart made.sound (inr (inl made-names))

  pub making-staging : (c : Image) (found : Option ℕ) → SeenOrWith volume old (made_at forced path) found (Some (File present)) c → KeepsApart volume old c → IsStaging volume old forced path present c
  making-staging c found (inl seen) apart = seen-staging c seen apart
  making-staging c found (inr made) apart = made-staging c found made apart

-- ---- while it takes the place of another

module _ (volume : Volume) (old : Image) (path : List (List ℕ)) (present : List ℕ) (sound : IsSound volume old)
    (absent : reached volume.layout (parts_of volume old) (with_tilde path) ≡ None)
    (mid : Image) (found : Option ℕ) (made : HasTreeWith volume old mid (with_tilde path) found (Some (File present))) where
  abbrev Old : Names
  Old = names_in volume old

  abbrev Mid : Names
  Mid = names_in volume mid

  mid-names : HasNames volume mid (with_made true path present Old)
  mid-names = made-names volume old true path present sound absent mid found made

  mid-here : Mid (with_tilde path) ≡ Some (File present)
  mid-here = (has_names_law volume old mid (with_tilde path) found (Some (File present)) made).here

  files : KeepsFiles volume old mid
  files = added_keeps_law volume old mid (with_tilde path) found (Some (File present)) made absent

  joined : (c : Image) → KeepsNamed volume.layout (parts_of volume mid) (parts_of volume c) → KeepsNamed volume.layout (parts_of volume old) (parts_of volume c)
  joined c keeps = keeps_join_law volume.layout (parts_of volume old) (parts_of volume mid) (parts_of volume c) made.tree.keeps keeps (λ number was now. files.named number was)

  module _ (c : Image) (apart : KeepsApart volume old c) where
    by-tree : (keeps : KeepsNamed volume.layout (parts_of volume mid) (parts_of volume c))
        → ((name : List (List ℕ)) → name ≢ with_tilde path → name ≢ path → reached volume.layout (parts_of volume c) name ≡ reached volume.layout (parts_of volume mid) name)
        → IsSound volume c → AreStaging volume old true path present c → IsStaging volume old true path present c
    by-tree keeps paths s names =
        staging-by volume old true path present sound absent c (λ name one two. paths name one two ∙ made.tree.others name one) (joined c keeps) apart s names

    seen-after : SeenAsIn volume mid c → IsStaging volume old true path present c
    seen-after seen =
        let t = tree volume old true path present sound absent mid c made.sound seen in
        by-tree t.keeps (λ name one two. t.leads name) seen.sound
        (inr (inl (λ name. (seen_sound_law volume mid c made.sound seen).same name ∙ mid-names name)))

    both-after : LeadsBoth volume mid (with_tilde path) path c → IsStaging volume old true path present c
    both-after both =
        by-tree both.tree.tree.keeps (λ name one two. both.tree.tree.others name two) both.tree.sound (inr (inr (inl (refl, names))))
      where
        names : HasNames volume c (with_both path present Old)
        names name =
            names-with volume mid c path (Mid (with_tilde path)) (has_names_law volume mid c path _ (Mid (with_tilde path)) both.tree) name
            ∙ (with-as path name (Mid (with_tilde path)) Mid (with_made true path present Old) mid-names
            ∙ ap (λ (what : Option Thing). with_name path what (with_made true path present Old) name) mid-here)

    module _ (moved : HasTreeMoved volume mid c (with_tilde path) path) where
      pub moved-names : HasNames volume c (with_backup true path present Old)
      moved-names name = names-moved volume mid c (with_tilde path) path (has_moved_law volume mid c (with_tilde path) path moved) name ∙ by _ _ refl refl
        where
          by : (gone here : Bool) → same_path (with_tilde path) name ≡ gone → same_path path name ≡ here
              → (if gone then None else (if here then Mid (with_tilde path) else Mid name)) ≡ (if gone then None else (if here then Some (File present) else Old name))
          by true here is at = refl
          by false true is at = mid-here
          by false false is at = mid-names name ∙ rw is refl

      moved-after : IsStaging volume old true path present c
      moved-after =
          by-tree moved.tree.keeps (λ name one two. moved.tree.others name one two) moved.sound (inr (inr (inr (refl, moved-names))))

    pub moving-staging : IsMoving volume mid (with_tilde path) path c → IsStaging volume old true path present c
    moving-staging (inl seen) = seen-after seen
    moving-staging (inr (inl both)) = both-after both
    moving-staging (inr (inr moved)) = moved-after moved
