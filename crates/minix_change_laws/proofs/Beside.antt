-- Images beside a sound one.
use Rattle.std.proofs.Common.{◌≡◌, ℕ, ◌+◌, ◌*◌, ◌%◌, ◌<◌, ◌==◌, ◌&&◌, Bool, true, false, List, ◌++◌, refl, sym, ◌∙◌, ap, subst, arith, eq-eqb, inl, inr}
use Rattle.std.proofs.lemmas.Bool.{eqb-true, ne_eqb, and_right}
use Rattle.lilo_model.specs.Bytes.{part_of}
use Rattle.lilo_model.specs.Disks.{Image, with_sector}
use Rattle.lilo_model.specs.MinixLayout.{inode_size, super_at, inode_of, inode_place, zone_sector, super_sector}
use Rattle.lilo_model.specs.MinixParts.{Volume, Pointer, sector_of, bit, inode_mark_sector, zone_bit, zone_mark_sector, parts_of}
use Rattle.lilo_model.specs.MinixNames.{names_in, HasSound, IsSound}
use Rattle.minix_change_laws.specs.Keeps.{Keeps, SoundAs}
use Rattle.minix_change_laws.specs.Beside.{NamedIn, RefersIn, Harmless, IsOutside, Beside, SoundAsIn, NamedAsIn}
use Rattle.minix_change_laws.specs.BesideLaws.{BesideLaw, NamedLaw, SameLaw, JoinLaw, WriteLaw}
use Rattle.minix_change_laws.proofs.Keeps.{reached-same, named-old, named-new, refers-old, refers-new, keeps_law}
use Rattle.minix_change_laws.proofs.Laid.{Laid, laid, mark-below, zone_mark-below, place-below}

module _ (volume : Volume) (old : Image) (sound : HasSound volume old) where
  pub lies : Laid volume.layout
  lies = laid (sector_of volume old super_sector) volume.span.count volume.layout sound.super

  -- ---- sectors of what has a name are the volume's

  place-inside : (number : ℕ) → NamedIn volume old number → (inode_place volume.layout number).sector < 2 * volume.layout.zones
  place-inside number named =
      let range = sound.parts.in_range number named in
      let low = place-below volume.layout lies number range.0 range.1 in
      omega (arith, low, lies.first)

  mark-inside : (number : ℕ) → NamedIn volume old number → inode_mark_sector number < 2 * volume.layout.zones
  mark-inside number named =
      let range = sound.parts.in_range number named in
      let low = mark-below volume.layout lies number range.1 in
      omega (arith, low, lies.table, lies.first)

  zone-inside : (number : ℕ) (at : Pointer) (zone : ℕ) → RefersIn volume old number at zone → zone < volume.layout.zones
  zone-inside number at zone refers = (sound.parts.zone_range number at zone refers).1

  zone_mark-inside : (zone : ℕ) → zone < volume.layout.zones → zone_mark_sector volume.layout zone < 2 * volume.layout.zones
  zone_mark-inside zone range =
      let low = zone_mark-below volume.layout lies zone range in
      omega (arith, low, lies.table, lies.first)

  -- ---- what is there is harmless

  same-harmless : (sector : ℕ) → sector < 2 * volume.layout.zones → Harmless volume old sector (sector_of volume old sector)
  unfolding parts_of
  same-harmless sector below = record {
    long = sound.whole sector below;
    super = λ is. refl;
    nodes = λ number named is. ap (λ n. part_of (sector_of volume old n) (inode_place volume.layout number).at (inode_size volume.layout.kind)) (sym is);
    zones = λ number at zone refers is. refl;
    marks = λ number named is. ap (λ n. bit (sector_of volume old n) (number % 4096)) (sym is) ∙ sound.parts.marked number named;
    zone_marks = λ number at zone refers is. ap (λ n. bit (sector_of volume old n) (zone_bit volume.layout zone % 4096)) (sym is) ∙ sound.parts.zone_marked number at zone refers;
  }

  pub same-beside : Beside volume old old
  same-beside = record { inside = same-harmless; outside = λ disk sector out. refl }

  module _ (image : Image) (beside : Beside volume old image) where
    -- ---- harmless bytes keep what has a name

    pub keeps : Keeps volume.layout (parts_of volume old) (parts_of volume image)
    unfolding parts_of
    keeps = record {
      nodes = λ number named. ap (inode_of volume.layout.kind) ((beside.inside (inode_place volume.layout number).sector (place-inside number named)).nodes number named refl);
      marks = λ number named. (beside.inside (inode_mark_sector number) (mark-inside number named)).marks number named refl ∙ sym (sound.parts.marked number named);
      zones = λ number at zone refers.
          let range : zone < volume.layout.zones = zone-inside number at zone refers in
          let low : sector_of volume image (zone_sector zone) ≡ sector_of volume old (zone_sector zone) = (beside.inside (zone_sector zone) (omega (arith, range))).zones number at zone refers (inl refl) in
          let high : sector_of volume image (zone_sector zone + 1) ≡ sector_of volume old (zone_sector zone + 1) = (beside.inside (zone_sector zone + 1) (omega (arith, range))).zones number at zone refers (inr refl) in
          ap (λ bytes. bytes ++ sector_of volume image (zone_sector zone + 1)) low ∙ ap (λ bytes. sector_of volume old (zone_sector zone) ++ bytes) high;
      zone_marks = λ number at zone refers.
          (beside.inside (zone_mark_sector volume.layout zone) (zone_mark-inside zone (zone-inside number at zone refers))).zone_marks number at zone refers refl
          ∙ sym (sound.parts.zone_marked number at zone refers);
    }

    parts-sound : SoundAs volume.layout (parts_of volume old) (parts_of volume image)
    parts-sound = keeps_law volume.layout (parts_of volume old) (parts_of volume image) sound.parts keeps

    super-inside : super_sector < 2 * volume.layout.zones
    super-inside = omega (arith, lies.table, lies.first)

    pub beside-sound : SoundAsIn volume old image
    unfolding IsSound names_in
    beside-sound = record {
      sound = record {
        super = ap (λ bytes. super_at bytes volume.span.count) ((beside.inside super_sector super-inside).super refl) ∙ sound.super;
        whole = λ sector below. (beside.inside sector below).long;
        parts = parts-sound.sound;
      };
      same = parts-sound.same;
    }

    pub beside-named : NamedAsIn volume old image
    beside-named = record {
      leads = reached-same volume.layout (parts_of volume old) (parts_of volume image) keeps;
      named = λ number. (named-old volume.layout (parts_of volume old) (parts_of volume image) keeps number, named-new volume.layout (parts_of volume old) (parts_of volume image) keeps number);
      nodes = keeps.nodes;
      refers = λ number at zone. (refers-old volume.layout (parts_of volume old) (parts_of volume image) keeps number at zone, refers-new volume.layout (parts_of volume old) (parts_of volume image) keeps number at zone);
    }

    -- ---- harmless to what harmless bytes left

    pub harmless-join : (sector : ℕ) (bytes : List ℕ) → sector < 2 * volume.layout.zones → Harmless volume image sector bytes → Harmless volume old sector bytes
    harmless-join sector bytes below harmless = record {
      long = harmless.long;
      super = λ is. harmless.super is ∙ (beside.inside sector below).super is;
      nodes = λ number named is.
          harmless.nodes number (named-new volume.layout (parts_of volume old) (parts_of volume image) keeps number named) is
          ∙ (beside.inside (inode_place volume.layout number).sector (place-inside number named)).nodes number named refl;
      zones = λ number at zone refers is.
          harmless.zones number at zone (refers-new volume.layout (parts_of volume old) (parts_of volume image) keeps number at zone refers) is
          ∙ (beside.inside sector below).zones number at zone refers is;
      marks = λ number named is. harmless.marks number (named-new volume.layout (parts_of volume old) (parts_of volume image) keeps number named) is;
      zone_marks = λ number at zone refers is. harmless.zone_marks number at zone (refers-new volume.layout (parts_of volume old) (parts_of volume image) keeps number at zone refers) is;
    }

    pub beside-join : (last : Image) → Beside volume image last → Beside volume old last
    beside-join last next = record {
      inside = λ sector below. harmless-join sector (sector_of volume last sector) below (next.inside sector below);
      outside = λ disk sector out. next.outside disk sector out ∙ beside.outside disk sector out;
    }

-- ---- one write

module _ (volume : Volume) (old image : Image) (beside : Beside volume old image) (sector : ℕ) (bytes : List ℕ) (harmless : Harmless volume old sector bytes) where
  abbrev Written : Image
  Written = with_sector image (record { disk = volume.span.disk; sector = volume.span.start + sector }) bytes

  written-by : (other : ℕ) → other < 2 * volume.layout.zones → (here : Bool) → (volume.span.start + sector == volume.span.start + other) ≡ here → Harmless volume old other (sector_of volume Written other)
  written-by other below true is =
      let same : sector ≡ other = let e = eqb-true (volume.span.start + sector) (volume.span.start + other) is in omega (arith, e) in
      let P : ℕ → Type 0 = λ n. Harmless volume old n bytes in
      rw (eq-eqb volume.span.disk volume.span.disk refl, is) (subst P same harmless)
  written-by other below false is = rw (and_right (volume.span.disk == volume.span.disk) (volume.span.start + sector == volume.span.start + other) is) (beside.inside other below)

  other-sector : (inside : sector < 2 * volume.layout.zones) (disk other : ℕ) → IsOutside volume disk other → (volume.span.disk == disk && volume.span.start + sector == other) ≡ false
  other-sector inside disk other (inl apart) = rw (ne_eqb volume.span.disk disk (λ e. apart (sym e))) refl
  other-sector inside disk other (inr (inl low)) = and_right (volume.span.disk == disk) (volume.span.start + sector == other) (ne_eqb (volume.span.start + sector) other (λ e. absurd (omega (arith, e, low))))
  other-sector inside disk other (inr (inr high)) = and_right (volume.span.disk == disk) (volume.span.start + sector == other) (ne_eqb (volume.span.start + sector) other (λ e. absurd (omega (arith, e, high))))

  written-beside : sector < 2 * volume.layout.zones → Beside volume old Written
  written-beside inside = record {
    inside = λ other below. written-by other below _ refl;
    outside = λ disk other out. rw (other-sector inside disk other out) (beside.outside disk other out);
  }

-- ---- the laws

pub beside_law : BesideLaw
unfolding IsSound
beside_law volume old image sound beside = beside-sound volume old sound image beside

pub named_law : NamedLaw
unfolding IsSound
named_law volume old image sound beside = beside-named volume old sound image beside

pub same_law : SameLaw
unfolding IsSound
same_law volume old sound = same-beside volume old sound

pub join_law : JoinLaw
unfolding IsSound
join_law volume old middle image sound first next = beside-join volume old sound middle first image next

pub write_law : WriteLaw
write_law volume old image sector bytes sound beside inside harmless = written-beside volume old image beside sector bytes harmless inside
