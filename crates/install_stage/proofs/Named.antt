-- Names once a file is made.
use Rattle.std.proofs.Common.{◌≡◌, ℕ, Bool, true, false, if◌then◌else◌, List, ◌∷◌, Option, Some, refl, sym, ◌∙◌, ap, subst, inl, inr, ⊎_elim}
use Rattle.disk_trait.specs.declared.disks.Disks.{Ghosts}
use Rattle.disk_trait.specs.Moments.{now}
use Rattle.disk_trait.proofs.MomentLemmas.{leaves_weaker, on_ok}
use Rattle.lilo_model.specs.Disks.{Image}
use Rattle.lilo_model.specs.MinixNames.{Thing, names_in, IsSound}
use Rattle.lilo_model.specs.MinixParts as model
use Rattle.lilo_model.specs.NamePlaces.{same_path}
use Rattle.minix_create.specs.Chosen.{thing_with}
use Rattle.minix_create.specs.declared.chosen.Chosen.{Chosen}
use Rattle.minix_names.proofs.PathLemmas.{path-same, same-is}
use Rattle.minix_change_laws.specs.Tree.{HasNamesWith}
use Rattle.minix_change_laws.proofs.Seen.{seen_sound_law}
use Rattle.minix_change_laws.proofs.Tree.{has_names_law}
use Rattle.minix_turns.specs.Joined.{SeenOrWith}
use Rattle.minix_zones.specs.Volume.{volume_view, past_of}
use Rattle.minix_zones.specs.declared.volume.Volume.{Volume}
use Rattle.install_stage.specs.Named.{HasNamesBut, NamesLaw, HasOldOrNew, NamesFiles}

module _ (volume : model.Volume) (old image : Image) (path : List (List ℕ)) (what : Option Thing) (has : HasNamesWith volume old image path what) where
  names-but : HasNamesBut volume old image path what
  names-but name = by _ refl
    where
      by : (test : Bool) → same_path path name ≡ test → names_in volume image name ≡ (if test then what else names_in volume old name)
      by true is = ap (names_in volume image) (sym (same-is path name is)) ∙ has.here
      by false is = has.others name (λ same.
          let here : same_path path path ≡ true = path-same path in
          let other : same_path path path ≡ false = subst (λ (n : List (List ℕ)). same_path path n ≡ false) same is in
          cc)

pub names_law : NamesLaw
names_law volume old image path found what tree = names-but volume old image path what (has_names_law volume old image path found what tree)

old-or-new : (volume : model.Volume) (old : Image) (path : List (List ℕ)) (found : Option ℕ) (what : Option Thing) (c : Image) → IsSound volume old → SeenOrWith volume old path found what c → HasOldOrNew volume old path what c
old-or-new volume old path found what c sound either = ⊎_elim
    (λ seen. let s = seen_sound_law volume old c sound seen in record { sound = s.sound; names = inl s.same })
    (λ tree. record { sound = tree.sound; names = inr (names_law volume old c path found what tree) })
    either

pub names_files : {D : Type 0} {disks : Ghosts D} (start volume : Volume D disks) (chosen : Chosen) → IsSound (volume_view start) (now (past_of start)) → NamesFiles start volume chosen
names_files start volume chosen sound outer given result creates = record {
  any_moment = leaves_weaker (past_of start) (past_of volume) _ _ creates.leads.any_moment (λ c either.
      old-or-new (volume_view start) (now (past_of start)) (chosen.name ∷ outer) (Some chosen.choice.inode) (Some (thing_with chosen given)) c sound either);
  done = λ told. on_ok result _ _ (creates.leads.done told) (λ tree.
      names_law (volume_view start) (now (past_of start)) (now (past_of volume)) (chosen.name ∷ outer) (Some chosen.choice.inode) (Some (thing_with chosen given)) tree);
}
