-- An inode of which a name is gone: what no name sees of it.
use Rattle.std.proofs.Common.{◌≡◌, ◌≤◌, ◌<◌, ◌+◌, ◌-◌, ℕ, true, List, length, Result, OnOk, sym, ◌∙◌, ap, subst, arith, ⊎_elim}
use Rattle.std.proofs.lemmas.Bool.{cases_eq}
use Rattle.disk_trait.specs.declared.disks.Disks.{Ghosts}
use Rattle.disk_trait.specs.Past.{Image}
use Rattle.disk_trait.specs.Moments.{IsTold, now, begun, IsQuiet}
use Rattle.disk_trait.proofs.LawLemmas.{quiet_begun}
use Rattle.disk_trait.proofs.MomentLemmas.{on_ok}
use Rattle.lilo_model.specs.MinixLayout.{IsSuper, Inode, FitsInode, is_size, most_links, inode_bytes, inode_place, inode_size, kept_inode, super_sector}
use Rattle.lilo_model.specs.MinixNames.{HasSound, IsSound}
use Rattle.lilo_model.specs.MinixParts as model
use Rattle.lilo_model.specs.MinixParts.{Parts, Pointer, sector_of, inode_part, parts_of}
use Rattle.minix_change_laws.specs.Beside.{NamedIn, RefersIn}
use Rattle.minix_change_laws.proofs.Replaced.{length-with_part}
use Rattle.minix_change_laws.specs.Enter.{IsLeft}
use Rattle.minix_fill.specs.Changes.{Changes}
use Rattle.minix_fill.specs.Freed.{FreesFile, MayFree, IsOffFile}
use Rattle.minix_fill.proofs.ChangeLemmas.{cause_of}
use Rattle.minix_change_laws.specs.Changes.{AreEnough, ChangesNode}
use Rattle.minix_layout.specs.View.{kind_view, super_view}
use Rattle.minix_remove_laws.proofs.Links.{any_links_law}
use Rattle.minix_change_laws.specs.SeesLaws.{KeepsSectors}
use Rattle.minix_change_laws.specs.Sees.{with_links, SeenAsIn}
use Rattle.minix_change_laws.proofs.Seen.{opened, seen_parts_law}
use Rattle.minix_steps.specs.StepLaws.{OneInode}
use Rattle.minix_steps.specs.Steps.{IsUnnamedInode}
use Rattle.minix_steps.specs.Written.{with_sector_of, with_inode, inode_rewritten, parts_now}
use Rattle.minix_steps.proofs.PartLemmas.{at_sector, other_sector, fits, inode_bytes_law, kept_inode_law}
use Rattle.minix_steps.proofs.RegionLemmas.{place_there, place_from}
use Rattle.minix_steps.proofs.StepLemmas.{same_view}
use Rattle.minix_turns.specs.Inode.{TurnsInode}
use Rattle.minix_turns.specs.Joined.{Unseen}
use Rattle.minix_turns.proofs.FieldLemmas.{inode_long, fits_links, kept_read, kept_links}
use Rattle.minix_turns.proofs.JoinedLemmas.{turn_unseen, steps_unseen}
use Rattle.minix_zones.specs.Volume.{volume_view, past_of}
use Rattle.minix_zones.specs.declared.volume.Volume.{Volume}
use Rattle.minix_zones.specs.declared.zone_fault.ZoneFault.{ZoneFault}
use Rattle.minix_zones.specs.declared.zone_fault.ZoneFault.TheVariants.{Device}
use Rattle.minix_remove.specs.Released.{MayRelease, Releases}

-- ---- an image in which the inode has other links, whether it has a name or not

module _ (volume : model.Volume) (old : Image) (is : IsSuper volume.layout volume.span.count) (sound : IsSound volume old) (number : ℕ)
    (some : 1 ≤ number) (there : number ≤ volume.layout.inodes) (links : ℕ) where
  abbrev Was : Parts
  Was = parts_of volume old

  abbrev Sector : ℕ
  Sector = (inode_place volume.layout number).sector

  abbrev Bytes : List ℕ
  Bytes = inode_bytes volume.layout.kind (with_links (Was.node number) links)

  abbrev With : Image
  With = with_sector_of volume old Sector (with_inode volume old number Bytes)

  has : HasSound volume old
  has = opened volume old sound

  long : length (sector_of volume old Sector) ≡ 512
  long = has.whole Sector (place_there volume.layout volume.span.count is number some there)

  module _ (fit : FitsInode volume.layout.kind (Was.node number)) (few : links ≤ most_links volume.layout.kind) where
    fit-with : FitsInode volume.layout.kind (with_links (Was.node number) links)
    fit-with = fits_links volume.layout.kind (Was.node number) links fit few

    part-long : length Bytes ≡ inode_size volume.layout.kind
    part-long = inode_long volume.layout.kind (with_links (Was.node number) links) fit-with

    sectors : KeepsSectors volume old With
    sectors = record {
      super = let from = place_from volume.layout volume.span.count is number in
          other_sector volume old Sector (with_inode volume old number Bytes) super_sector (λ same. absurd (omega (arith, from, same)));
      whole = λ sector below. ⊎_elim
          (λ same. ap (λ s. length (sector_of volume With s)) same
          ∙ (ap length (at_sector volume old Sector (with_inode volume old number Bytes))
          ∙ (length-with_part (sector_of volume old Sector) (inode_place volume.layout number).at Bytes (fits volume old number Bytes is some there part-long long) ∙ long)))
          (λ differ. ap length (other_sector volume old Sector (with_inode volume old number Bytes) sector differ) ∙ has.whole sector below)
          (cases_eq sector Sector);
    }

    module _ (sized : is_size volume.layout.kind (Was.node number).size ≡ true) where
      kept : kept_inode volume.layout.kind (Was.node number) ≡ Was.node number
      unfolding parts_of
      kept = kept_read volume.layout.kind (inode_part volume old (inode_place volume.layout number)) sized

      pub lowers_node : ChangesNode volume.layout Was (parts_of volume With) number (with_links (Was.node number) links)
      lowers_node =
          let one : OneInode volume Was (parts_of volume With) number Bytes = inode_bytes_law volume old number Bytes is some there part-long long in
          record {
            here = one.here ∙ (kept_inode_law volume.layout.kind (with_links (Was.node number) links) fit-with sized ∙ kept_links volume.layout.kind (Was.node number) links kept);
            others = λ other in' apart. one.others other in'.0 in'.1 apart;
            zones = λ zone in'. one.zones zone in'.0;
            marks = λ other in'. one.marks other in'.1;
            zone_marks = λ zone in'. one.zone_marks zone in'.1;
          }

      pub lowers_unseen : AreEnough volume.layout Was number links → SeenAsIn volume old With
      lowers_unseen enough = seen_parts_law volume old With sound sectors (any_links_law volume.layout Was (parts_of volume With) number links has.parts enough lowers_node)

-- ---- a turn of it

-- the links of an inode change, whether it has a name or not
module _ {D : Type 0} {disks : Ghosts D} (old new : Volume D disks) (number links : ℕ) (inode : Inode) (some : 1 ≤ number) (there : number ≤ old.layout.inodes)
    (fit : FitsInode (kind_view old.layout.kind) inode) (few : links ≤ most_links (kind_view old.layout.kind)) (result : Result (Unit {0}) ZoneFault)
    (turns : TurnsInode old new number (with_links inode links) Device result) (sound : IsTold (past_of old) → IsSound (volume_view old) (now (past_of old)))
    (is : IsTold (past_of old) → (parts_now old).node number ≡ inode) (sized : is_size (kind_view old.layout.kind) inode.size ≡ true) where
  abbrev pub image_with : Inode → Image
  image_with node = with_sector_of (volume_view old) (now (past_of old)) (inode_place (super_view old.layout) number).sector (inode_rewritten old number (with_links node links))

  pub fit_now : IsTold (past_of old) → FitsInode (kind_view old.layout.kind) ((parts_now old).node number)
  fit_now told = subst (FitsInode (kind_view old.layout.kind)) (sym (is told)) fit

  pub sized_now : IsTold (past_of old) → is_size (kind_view old.layout.kind) ((parts_now old).node number).size ≡ true
  sized_now told = let S : Inode → Type 0 = λ i. is_size (kind_view old.layout.kind) i.size ≡ true in subst S (sym (is told)) sized

  changes-with : IsTold (past_of old) → ChangesNode (super_view old.layout) (parts_now old) (parts_of (volume_view old) (image_with inode)) number (with_links inode links)
  changes-with told =
      let P : Inode → Type 0 = λ i. ChangesNode (super_view old.layout) (parts_now old) (parts_of (volume_view old) (image_with i)) number (with_links i links) in
      subst P (is told)
      (lowers_node (volume_view old) (now (past_of old)) old.whole (sound told) number some there links (fit_now told) few (sized_now told))

  -- once it is done, on the volume as it was and as it is
  pub links_changed_in : IsTold (past_of old) → OnOk result (ChangesNode (super_view old.layout) (parts_now old) (parts_of (volume_view old) (now (past_of new))) number (with_links inode links))
  links_changed_in told =
      let I : Image → Type 0 = λ image. ChangesNode (super_view old.layout) (parts_now old) (parts_of (volume_view old) image) number (with_links inode links) in
      on_ok result _ _ (turns.written told) (λ is'. subst I (sym is') (changes-with told))

  pub links_changed : IsTold (past_of old) → OnOk result (ChangesNode (super_view old.layout) (parts_now old) (parts_now new) number (with_links inode links))
  links_changed told =
      let V : model.Volume → Type 0 = λ view. ChangesNode (super_view old.layout) (parts_now old) (parts_of view (now (past_of new))) number (with_links inode links) in
      on_ok result _ _ (links_changed_in told) (λ changes. subst V (sym (same_view old new turns.kept)) changes)

module _ {D : Type 0} {disks : Ghosts D} (old new : Volume D disks) (number links : ℕ) (inode : Inode) (some : 1 ≤ number) (there : number ≤ old.layout.inodes)
    (fit : FitsInode (kind_view old.layout.kind) inode) (is_more : inode.links ≡ links + 1) (result : Result (Unit {0}) ZoneFault)
    (turns : TurnsInode old new number (with_links inode links) Device result) (may : IsTold (past_of old) → MayRelease old number inode) where
  few : links ≤ most_links (kind_view old.layout.kind)
  few = let low = fit.links_fit in omega (arith, low, is_more)

  sized-told : IsTold (past_of old) → is_size (kind_view old.layout.kind) ((parts_now old).node number).size ≡ true
  sized-told told = let S : Inode → Type 0 = λ i. is_size (kind_view old.layout.kind) i.size ≡ true in subst S (sym (may told).is) (may told).sized

  fit-told : IsTold (past_of old) → FitsInode (kind_view old.layout.kind) ((parts_now old).node number)
  fit-told told = subst (FitsInode (kind_view old.layout.kind)) (sym (may told).is) fit

  abbrev Image' : Inode → Image
  Image' node = with_sector_of (volume_view old) (now (past_of old)) (inode_place (super_view old.layout) number).sector (inode_rewritten old number (with_links node links))

  pub lower_unseen : Unseen old new
  lower_unseen =
      turn_unseen old new (inode_place (super_view old.layout) number).sector (inode_rewritten old number (with_links inode links)) Device result turns
      (λ told. (may told).sound)
      (λ told.
      let P : Inode → Type 0 = λ i. SeenAsIn (volume_view old) (now (past_of old)) (Image' i) in
      subst P (may told).is
      (lowers_unseen (volume_view old) (now (past_of old)) old.whole (may told).sound number some there links (fit-told told) few (sized-told told) ((may told).enough links is_more)))

  pub lower_changes : IsTold (past_of old) → OnOk result (ChangesNode (super_view old.layout) (parts_now old) (parts_now new) number (with_links inode links))
  lower_changes told =
      links_changed old new number links inode some there fit few result turns (λ told'. (may told').sound) (λ told'. (may told').is) (may told).sized told

-- ---- a link less

module _ {D : Type 0} {disks : Ghosts D} (old new : Volume D disks) (number : ℕ) (inode : Inode) (result : Result (Unit {0}) ZoneFault)
    (some : 1 ≤ number) (there : number ≤ old.layout.inodes) (fit : FitsInode (kind_view old.layout.kind) inode)
    (may : IsTold (past_of old) → MayRelease old number inode) where
  module _ (more : 1 < inode.links) (turns : TurnsInode old new number (with_links inode (inode.links - 1)) Device result) where
    one_more : inode.links ≡ inode.links - 1 + 1
    one_more = omega (arith, more)

    pub lowered_unseen : Unseen old new
    lowered_unseen = lower_unseen old new number (inode.links - 1) inode some there fit one_more result turns may

    pub releases_lowered : Releases old new number inode result
    releases_lowered = record {
      unseen = lowered_unseen;
      changed = λ told. on_ok result _ _ (lower_changes old new number (inode.links - 1) inode some there fit one_more result turns may told)
          (λ changes. record { lowered = λ again. changes; freed = λ few. absurd (omega (arith, more, few)) });
      others = λ d s off. turns.others d s off.inode;
      device = λ told. turns.device;
      cause = cause_of old new result turns.device;
    }

  -- ---- or none left

  module _ (few : inode.links ≤ 1) (quiet : IsQuiet (past_of old)) where
    begun-is : IsTold (past_of old) → begun (past_of old) ≡ now (past_of old)
    begun-is told = quiet_begun (past_of old) told quiet

    left : (told : IsTold (past_of old)) → IsLeft (super_view old.layout) (parts_now old) number
    left told = (may told).left few

    pub is_unnamed : IsUnnamedInode old number
    is_unnamed = record {
      unnamed = λ told.
          let P : Image → Type 0 = λ image. NamedIn (volume_view old) image number → ⊥ in
          subst P (sym (begun-is told)) (left told).unnamed;
    }

    pub may_free : IsTold (past_of old) → MayFree old number inode
    may_free told = record {
      is = (may told).is;
      kind = (may told).kind;
      range = (may told).range;
      unused = λ at zone to. record {
        unused = λ told'.
            let P : Image → Type 0 = λ image. (other : ℕ) (there : Pointer) → RefersIn (volume_view old) image other there zone → ⊥ in
            subst P (sym (begun-is told)) (λ other there' refers. (left told).unused at zone to other there' refers);
      };
    }

    pub releases_freed : Changes old new (IsOffFile old number) (FreesFile number) result → Releases old new number inode result
    releases_freed changes = record {
      unseen = steps_unseen old new quiet (λ told. (may told).sound) changes.steps;
      changed = λ told. on_ok result _ _ (changes.changed told) (λ frees. record { lowered = λ more. absurd (omega (arith, more, few)); freed = λ again. frees });
      others = changes.others;
      device = changes.device;
      cause = changes.cause;
    }
