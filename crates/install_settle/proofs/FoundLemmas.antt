-- What there is to settle, by what was found.
use Rattle.std.proofs.Common.{◌≡◌, ◌&&◌, ◌||◌, ℕ, Bool, true, false, not, List, Option, Some, None, Result, Ok, Err, refl, sym, ◌∙◌, ap, subst}
use Rattle.std.specs.Prelude.{IfSome, is_some, nat_lt}
use Rattle.disk_trait.specs.declared.disks.Disks.{Ghosts}
use Rattle.disk_trait.specs.Past.{Image, Past, Told}
use Rattle.disk_trait.proofs.ToldLemmas.{told_map, told_both, told_all}
use Rattle.lilo_model.specs.BootSector.{BootSector, MapFault, boot_at}
use Rattle.lilo_model.specs.Disks.{Machine, Span}
use Rattle.lilo_model.specs.MinixLayout.{Inode}
use Rattle.lilo_model.specs.MinixNames.{reached, IsSound}
use Rattle.lilo_model.specs.MinixParts.{Volume, parts_of, ZoneFault}
use Rattle.lilo_model.specs.MinixWalk.{Visit, visits}
use Rattle.lilo_model.specs.NamePlaces.{with_tilde}
use Rattle.lilo_model.specs.Settled as model
use Rattle.minix_layout.specs.View.{inode_view}
use Rattle.minix_names.specs.Places.{number_found}
use Rattle.minix_tree.specs.declared.stat.Stat.{Stat}
use Rattle.minix_zones.specs.Volume.{volume_view, past_of, SameVolume}
use Rattle.minix_zones.specs.declared.volume.Volume as Disked
use Rattle.minix_zones.proofs.SameLemmas.{told_back}
use Rattle.sector_address.specs.Machine.{machine_of}
use Rattle.install_apart.specs.Names.{IsPair, is_replaceable}
use Rattle.install_apart.specs.Own.{IsBackup}
use Rattle.install_apart.specs.declared.name.NamePair.{NamePair}
use Rattle.install_apart.specs.declared.own.OwnNames.{OwnNames}
use Rattle.install_laws.specs.InstallVerdict.{holds_table, is_holder, is_to_finish, inode_of, may_settle, most_links}
use Rattle.install_settle.specs.Found.{AreFound, IsToSettle, has_copy, has_link_by, has_link_left, is_there, is_copy_there, left_map}
use Rattle.install_settle.specs.declared.settling.Settling.{Settling}
use Rattle.install_settle.proofs.LeadLemmas.{plain-at, tilde-at}

-- nothing holds no table
pub none-holds : (image : Image) (machine : Machine) (volume : Volume) (walk : Inode → List (Result Visit ZoneFault)) (boot : Result BootSector MapFault) → holds_table image machine volume walk boot None ≡ false
none-holds image machine volume walk (Ok boot) = refl
none-holds image machine volume walk (Err fault) = refl

module _ (volume : Volume) (image : Image) (machine : Machine) (span : Span) (pair : NamePair) (path : List (List ℕ)) (names : IsPair volume.layout (parts_of volume image) path pair) (file : is_replaceable pair.plain ≡ true) where
  abbrev Walk : Inode → List (Result Visit ZoneFault)
  Walk = visits volume.layout (parts_of volume image)

  abbrev Holds : Option ℕ → Bool
  Holds found = holds_table image machine volume Walk (boot_at (image span.disk span.start)) found

  lead-plain : reached volume.layout (parts_of volume image) path ≡ number_found pair.plain.there
  lead-plain = (plain-at volume.layout (parts_of volume image) path pair.plain names.plain file).there

  lead-tilde : reached volume.layout (parts_of volume image) (with_tilde path) ≡ number_found pair.tilde.there
  lead-tilde = (tilde-at volume.layout (parts_of volume image) path pair.tilde names.tilde).there

  finish-of : (one other : Bool) → Holds (number_found pair.tilde.there) ≡ one → Holds (number_found pair.plain.there) ≡ other → (one && not other) ≡ is_to_finish image machine volume Walk span path
  unfolding is_holder
  finish-of one other is_one is_other =
      let tilde : Holds (reached volume.layout (parts_of volume image) (with_tilde path)) ≡ one = ap Holds lead-tilde ∙ is_one in
      let plain : Holds (reached volume.layout (parts_of volume image) path) ≡ other = ap Holds lead-plain ∙ is_other in
      rw (tilde, plain) refl

  -- whether a link is left, by what was found
  link-by : (plain tilde : Option Stat) → IfSome tilde (λ stat. inode_view stat.node ≡ (parts_of volume image).node stat.inode) → is_some tilde ≡ true
      → (not (is_some (number_found plain)) || Rattle.install_laws.specs.InstallVerdict.has_link_left volume (parts_of volume image) (number_found tilde)) ≡ has_link_by volume.layout.kind plain tilde
  link-by None tilde node there = refl
  link-by (Some plain) None node there = cc
  link-by (Some plain) (Some stat) node there = ap (λ (i : Inode). nat_lt i.links (most_links volume.layout.kind)) (sym node)

  may-is : (finishes : Bool) → finishes ≡ is_to_finish image machine volume Walk span path → (finishes ≡ true → is_there pair.tilde ≡ true)
      → may_settle image machine volume Walk span path ≡ (not finishes || has_link_left volume.layout.kind pair)
  unfolding may_settle
  may-is finishes is there = by finishes is there
    where
      by : (f : Bool) → f ≡ is_to_finish image machine volume Walk span path → (f ≡ true → is_there pair.tilde ≡ true)
          → (not (is_to_finish image machine volume Walk span path) || not (is_some (inode_of image volume path))
          || Rattle.install_laws.specs.InstallVerdict.has_link_left volume (parts_of volume image) (inode_of image volume (with_tilde path))) ≡ (not f || has_link_left volume.layout.kind pair)
      by false is there = rw (sym is) refl
      by true is there = rw (sym is, lead-plain, lead-tilde) (link-by pair.plain.there pair.tilde.there names.tilde.node (there refl))

-- ---- where the past is told

module _ (past : Option Past) (machine : Machine) (volume : Volume) (span : Span) (pair : NamePair) where
  abbrev Finishing : Bool → Image → Type 0
  Finishing finishes image =
      (path : List (List ℕ)) → IsSound volume image → IsPair volume.layout (parts_of volume image) path pair → is_replaceable pair.plain ≡ true
      → finishes ≡ is_to_finish image machine volume (visits volume.layout (parts_of volume image)) span path

  abbrev pub HoldsIt : Bool → Stat → Image → Type 0
  HoldsIt holds stat image = holds ≡ holds_table image machine volume (visits volume.layout (parts_of volume image)) (boot_at (image span.disk span.start)) (Some stat.inode)

  pub finish_absent : None ≡ pair.tilde.there → Told past (Finishing false)
  finish_absent none = told_all past (Finishing false) (λ image path sound names file.
      finish-of volume image machine span pair path names file false _
      (ap (λ (f : Option Stat). holds_table image machine volume (visits volume.layout (parts_of volume image)) (boot_at (image span.disk span.start)) (number_found f)) (sym none)
      ∙ none-holds image machine volume (visits volume.layout (parts_of volume image)) (boot_at (image span.disk span.start))) refl)

  pub finish_other : (stat : Stat) → Some stat ≡ pair.tilde.there → Told past (HoldsIt false stat) → Told past (Finishing false)
  finish_other stat some holds = told_map past (HoldsIt false stat) (Finishing false) (λ image is path sound names file.
      finish-of volume image machine span pair path names file false _
      (ap (λ (f : Option Stat). holds_table image machine volume (visits volume.layout (parts_of volume image)) (boot_at (image span.disk span.start)) (number_found f)) (sym some) ∙ sym is) refl) holds

  pub finish_alone : (stat : Stat) → Some stat ≡ pair.tilde.there → None ≡ pair.plain.there → Told past (HoldsIt true stat) → Told past (Finishing true)
  finish_alone stat some none holds = told_map past (HoldsIt true stat) (Finishing true) (λ image is path sound names file.
      finish-of volume image machine span pair path names file true false
      (ap (λ (f : Option Stat). holds_table image machine volume (visits volume.layout (parts_of volume image)) (boot_at (image span.disk span.start)) (number_found f)) (sym some) ∙ sym is)
      (ap (λ (f : Option Stat). holds_table image machine volume (visits volume.layout (parts_of volume image)) (boot_at (image span.disk span.start)) (number_found f)) (sym none)
      ∙ none-holds image machine volume (visits volume.layout (parts_of volume image)) (boot_at (image span.disk span.start)))) holds

  pub finish_both : (stat other : Stat) (holds : Bool) → Some stat ≡ pair.tilde.there → Some other ≡ pair.plain.there → Told past (HoldsIt true stat) → Told past (HoldsIt holds other) → Told past (Finishing (not holds))
  finish_both stat other holds some more first second = told_both past (HoldsIt true stat) (HoldsIt holds other) (Finishing (not holds)) (λ image one two path sound names file.
      finish-of volume image machine span pair path names file true holds
      (ap (λ (f : Option Stat). holds_table image machine volume (visits volume.layout (parts_of volume image)) (boot_at (image span.disk span.start)) (number_found f)) (sym some) ∙ sym one)
      (ap (λ (f : Option Stat). holds_table image machine volume (visits volume.layout (parts_of volume image)) (boot_at (image span.disk span.start)) (number_found f)) (sym more) ∙ sym two))
      first second

-- what is to be settled, and whether it may be
module _ (past : Option Past) (machine : Machine) (volume : Volume) (span : Span) (own : OwnNames) (forced finishes : Bool) (there : finishes ≡ true → is_there own.map.tilde ≡ true)
    (is : Told past (Finishing past machine volume span own.map finishes)) where
  copy-by : (image : Image) (backup : Option (List (List ℕ))) (pair : Option NamePair) → IsBackup volume.layout (parts_of volume image) backup pair → has_copy pair ≡ is_copy_there image volume backup
  copy-by image None None same = refl
  copy-by image None (Some pair) same = absurd same
  copy-by image (Some path) None same = absurd same
  copy-by image (Some path) (Some pair) same =
      let at = tilde-at volume.layout (parts_of volume image) path pair.tilde same.tilde in
      some-by pair.tilde.there ∙ ap (λ (f : Option ℕ). is_some f) (sym at.there)
    where
      some-by : (found : Option Stat) → is_some found ≡ is_some (number_found found)
      some-by None = refl
      some-by (Some stat) = refl

  abbrev Settled : (Image → model.OwnNames → Type 0) → Image → Type 0
  Settled R image = (names : model.OwnNames) → IsSound volume image → AreFound volume.layout (parts_of volume image) names own → is_replaceable own.map.plain ≡ true → R image names

  some-same : (found : Option Stat) → is_some found ≡ is_some (number_found found)
  some-same None = refl
  some-same (Some stat) = refl

  pub to_settle : (settling : Settling) → settling.map ≡ left_map finishes (is_there own.map.tilde) → settling.copy ≡ (forced && has_copy own.backup)
      → Told past (Settled (λ image names. IsToSettle image machine volume span names forced settling))
  to_settle settling map copy = told_map past _ _ (λ image so names sound found file. record {
    map =
        let at = tilde-at volume.layout (parts_of volume image) names.map own.map.tilde found.map.tilde in
        map ∙ (ap (λ (f : Bool). left_map f (is_there own.map.tilde)) (so names.map sound found.map file)
        ∙ ap (left_map (is_to_finish image machine volume (visits volume.layout (parts_of volume image)) span names.map)) (some-same own.map.tilde.there ∙ ap (λ (f : Option ℕ). is_some f) (sym at.there)));
    copy = copy ∙ ap (λ (f : Bool). forced && f) (copy-by image names.backup own.backup found.backup);
  }) is

  may-of : (image : Image) (names : model.OwnNames) → Finishing past machine volume span own.map finishes image → IsSound volume image → AreFound volume.layout (parts_of volume image) names own → is_replaceable own.map.plain ≡ true
      → may_settle image machine volume (visits volume.layout (parts_of volume image)) span names.map ≡ (not finishes || has_link_left volume.layout.kind own.map)
  may-of image names so sound found file = may-is volume image machine span own.map names.map found.map file finishes (so names.map sound found.map file) there

  pub may_pass : (not finishes || has_link_left volume.layout.kind own.map) ≡ true
      → Told past (Settled (λ image names. may_settle image machine volume (visits volume.layout (parts_of volume image)) span names.map ≡ true))
  may_pass test = told_map past _ _ (λ image so names sound found file. may-of image names so sound found file ∙ test) is

  pub may_refuse : (not finishes || has_link_left volume.layout.kind own.map) ≡ false
      → Told past (Settled (λ image names. may_settle image machine volume (visits volume.layout (parts_of volume image)) span names.map ≡ false))
  may_refuse test = told_map past _ _ (λ image so names sound found file. may-of image names so sound found file ∙ test) is

-- what is said of disks after a call that left them alone
pub on_disks_back : {D : Type 0} {disks : Ghosts D} (old new : Disked.Volume D disks) (P : Volume → Machine → Image → Type 0)
    → SameVolume old new → Told (past_of new) (P (volume_view new) (machine_of disks new.disks.now)) → Told (past_of old) (P (volume_view old) (machine_of disks old.disks.now))
on_disks_back {disks} old new P same told =
    let machine : machine_of disks new.disks.now ≡ machine_of disks old.disks.now = rw (same.same_disks.same_size, same.same_disks.same_geometry) refl in
    told_back old new (λ volume image. P volume (machine_of disks old.disks.now) image) same
    (subst (λ (m : Machine). Told (past_of new) (P (volume_view new) m)) machine told)
