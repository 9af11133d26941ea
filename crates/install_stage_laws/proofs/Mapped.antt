-- The files that a configuration's plan maps, in a later image.
use Rattle.std.proofs.Common.{◌≡◌, ◌≢◌, ℕ, true, List, [], ◌∷◌, Option, None, Some, refl, ◌∙◌, subst}
use Rattle.std.specs.Prelude.{IfSome}
use Rattle.std.specs.List.{AllByRecursion}
use Rattle.lilo_model.specs.Conf.{Config, ConfSection}
use Rattle.lilo_model.specs.Devices.{Device}
use Rattle.lilo_model.specs.Disks.{Image}
use Rattle.lilo_model.specs.MinixNames.{Named, reached, IsSound}
use Rattle.lilo_model.specs.MinixParts.{Volume, parts_of, is_file}
use Rattle.lilo_model.specs.Planned.{file_inode}
use Rattle.minix_change_laws.specs.Beside.{NamedIn}
use Rattle.minix_change_laws.specs.Tree.{KeepsNamed}
use Rattle.map_laws.proofs.MeantFiles.{inode-named}
use Rattle.install_stage_laws.specs.ClearMap.{KeepsFiles}
use Rattle.install_stage_laws.specs.Mapped.{OnFile, OnKernel, OnSection, OnMapped, StaysThere, FilesKeepMappedLaw, ButKeepMappedLaw, MappedJoinedLaw}

-- ---- a fact of each named file is one of each that is mapped

module _ (image : Image) (volume : Volume) (sound : IsSound volume image) (P : ℕ → Type 0)
    (each : (number : ℕ) → Named volume.layout (parts_of volume image) number → is_file ((parts_of volume image).node number) ≡ true → P number) where
  on-inode : (text : List ℕ) (inode : Option ℕ) → file_inode volume (parts_of volume image) text ≡ inode → IfSome inode P
  on-inode text None is = tt
  on-inode text (Some number) is =
      let named = inode-named volume image sound text number is in
      each number named.0 named.1

  on-file : (text : List ℕ) → OnFile image volume text P
  on-file text = on-inode text (file_inode volume (parts_of volume image) text) refl

  pub on-path : (path : Option (List ℕ)) → IfSome path (λ text. OnFile image volume text P)
  on-path None = tt
  on-path (Some text) = on-file text

  on-kernel : (text : List ℕ) (other : Option Device) → OnKernel image volume text other P
  on-kernel text None = on-file text
  on-kernel text (Some device) = tt

  on-sections : (sections : List ConfSection) → AllByRecursion (OnSection image volume P) sections
  on-sections [] = tt
  on-sections (section ∷ sections) = (record { kernel = on-kernel section.path section.other; initrd = on-path section.initrd }, on-sections sections)

  pub on-mapped : (config : Config) → OnMapped image volume config P
  on-mapped config = record { message = on-path config.message; sections = on-sections config.sections }

-- ---- a fact that follows

module _ (image : Image) (volume : Volume) (P Q : ℕ → Type 0)
    (next : (text : List ℕ) (number : ℕ) → file_inode volume (parts_of volume image) text ≡ Some number → P number → Q number) where
  next-inode : (text : List ℕ) (inode : Option ℕ) → file_inode volume (parts_of volume image) text ≡ inode → IfSome inode P → IfSome inode Q
  next-inode text None is on = tt
  next-inode text (Some number) is on = next text number is on

  next-file : (text : List ℕ) → OnFile image volume text P → OnFile image volume text Q
  next-file text = next-inode text (file_inode volume (parts_of volume image) text) refl

  next-path : (path : Option (List ℕ)) → IfSome path (λ text. OnFile image volume text P) → IfSome path (λ text. OnFile image volume text Q)
  next-path None on = tt
  next-path (Some text) on = next-file text on

  next-kernel : (text : List ℕ) (other : Option Device) → OnKernel image volume text other P → OnKernel image volume text other Q
  next-kernel text None on = next-file text on
  next-kernel text (Some device) on = tt

  next-sections : (sections : List ConfSection) → AllByRecursion (OnSection image volume P) sections → AllByRecursion (OnSection image volume Q) sections
  next-sections [] on = tt
  next-sections (section ∷ sections) on =
      (record { kernel = next-kernel section.path section.other on.0.kernel; initrd = next-path section.initrd on.0.initrd }, next-sections sections on.1)

  pub next-mapped : (config : Config) → OnMapped image volume config P → OnMapped image volume config Q
  next-mapped config on = record { message = next-path config.message on.message; sections = next-sections config.sections on.sections }

-- ---- what stays

stays-named : (volume : Volume) (before c : Image) (number : ℕ) → KeepsNamed volume.layout (parts_of volume before) (parts_of volume c)
    → NamedIn volume before number → NamedIn volume c number → StaysThere volume before c number
stays-named volume before c number keeps was now = record {
  named = now;
  mode = keeps.modes number was now;
  to = λ at zone refers. keeps.stays number at zone refers now;
}

pub stays-there : (volume : Volume) (before c : Image) (number : ℕ) → KeepsFiles volume before c → NamedIn volume before number → StaysThere volume before c number
stays-there volume before c number keeps was = stays-named volume before c number keeps.keeps was (keeps.named number was)

pub files_keep_mapped_law : FilesKeepMappedLaw
files_keep_mapped_law volume config before c sound keeps = record {
  sound = keeps.sound;
  mapped = on-mapped before volume sound (StaysThere volume before c) (λ number was regular. stays-there volume before c number keeps was) config;
}

pub but_keep_mapped_law : ButKeepMappedLaw
but_keep_mapped_law volume config but before c sound keeps others = record {
  sound = keeps.sound;
  mapped = next-mapped before volume (λ number. reached volume.layout (parts_of volume before) but ≢ Some number) (StaysThere volume before c) next config others;
}
  where
    next : (text : List ℕ) (number : ℕ) → file_inode volume (parts_of volume before) text ≡ Some number
        → reached volume.layout (parts_of volume before) but ≢ Some number → StaysThere volume before c number
    next text number is other =
        let was = (inode-named volume before sound text number is).0 in
        stays-named volume before c number keeps.keeps was
        (keeps.named was.path number
        (λ same. other (subst (λ (p : List (List ℕ)). reached volume.layout (parts_of volume before) p ≡ Some number) same was.leads)) was.leads)

pub mapped_joined_law : MappedJoinedLaw
mapped_joined_law volume config before middle c one two = record {
  sound = two.sound;
  mapped = next-mapped before volume (StaysThere volume before middle) (StaysThere volume before c) next config one.mapped;
}
  where
    next : (text : List ℕ) (number : ℕ) → file_inode volume (parts_of volume before) text ≡ Some number
        → StaysThere volume before middle number → StaysThere volume before c number
    next text number is stays =
        let later = stays-there volume middle c number two stays.named in
        record {
          named = later.named;
          mode = later.mode ∙ stays.mode;
          to = λ at zone refers. later.to at zone (record { named = stays.named; to = stays.to at zone refers });
        }
