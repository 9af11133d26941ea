-- Names that the bytes of one entry make, remove, lead elsewhere and change.
use Rattle.std.proofs.Common.{◌≡◌, ◌≢◌, ℕ, true, false, List, ◌∷◌, Option, sym, ◌∙◌, ap, subst}
use Rattle.lilo_model.specs.Disks.{Image}
use Rattle.lilo_model.specs.MinixParts.{Volume, is_directory, parts_of}
use Rattle.lilo_model.specs.MinixEntries.{Entry, entry_of}
use Rattle.lilo_model.specs.MinixNames.{Thing, Named, IsSound}
use Rattle.minix_change_laws.specs.Tree.{TreeWith, TreeMoved, HasTreeWith, HasTreeMoved}
use Rattle.minix_change_laws.proofs.Seen.{opened}
use Rattle.minix_change_laws.specs.Enter.{Becomes}
use Rattle.minix_change_laws.specs.Written.{IsPlaced, HasEntryBytes, EntryIsWritten}
use Rattle.minix_change_laws.specs.EntryBytesLaws.{EnterBytesLaw, EnterDirectoryBytesLaw, RemoveBytesLaw, RedirectBytesLaw, RenameBytesLaw, RemoveLastBytesLaw, RedirectLastBytesLaw}
use Rattle.minix_change_laws.proofs.Written.{written_law}
use Rattle.minix_change_laws.proofs.Names.{enter_law, enter_directory_law, remove_law, redirect_law, rename_law, remove_last_law, redirect_last_law}

module _ (volume : Volume) (old image : Image) (directory place : ℕ) (bytes : List ℕ) (sound : IsSound volume old) (placed : IsPlaced volume old directory place) (has : HasEntryBytes volume old image directory place bytes) where
  written : EntryIsWritten volume old image directory place bytes
  written = written_law volume old image directory place bytes sound placed has

  becomes : (what : Entry) → entry_of volume.layout.kind bytes ≡ what → Becomes volume.layout (parts_of volume old) (parts_of volume image) directory place what
  becomes what is = record { only = written.only; says = written.says ∙ is }

  -- an inode that is no directory, or has no name, isn't the directory
  file-apart : (number : ℕ) → is_directory ((parts_of volume old).node number) ≡ false → number ≢ directory
  file-apart number file same =
      let is : is_directory ((parts_of volume old).node number) ≡ true = ap (λ n. is_directory ((parts_of volume old).node n)) same ∙ placed.is in
      cc

  unnamed-apart : (number : ℕ) → (Named volume.layout (parts_of volume old) number → ⊥) → number ≢ directory
  unnamed-apart number unnamed same = unnamed (subst (Named volume.layout (parts_of volume old)) (sym same) placed.named)

  has-tree : (path : List (List ℕ)) (found : Option ℕ) (what : Option Thing) → TreeWith volume.layout (parts_of volume old) (parts_of volume image) path found what → HasTreeWith volume old image path found what
  has-tree path found what tree = record { sound = written.sound tree.sound; tree = tree }

  has-moved : (former path : List (List ℕ)) → TreeMoved volume.layout (parts_of volume old) (parts_of volume image) former path → HasTreeMoved volume old image former path
  has-moved former path tree = record { sound = written.sound tree.sound; tree = tree }

-- ---- the laws

pub enter_bytes_law : EnterBytesLaw
enter_bytes_law volume old image outer directory place number name bytes sound placed has says enter stand =
    let what = (written volume old image directory place bytes sound placed has).kept number stand.fit (file-apart volume old image directory place bytes sound placed has number stand.file) in
    has-tree volume old image directory place bytes sound placed has (name ∷ outer) _ _
    (enter_law volume.layout (parts_of volume old) (parts_of volume image) outer directory place number name (opened volume old sound).parts enter stand
    (becomes volume old image directory place bytes sound placed has _ says) what)

pub enter_directory_bytes_law : EnterDirectoryBytesLaw
enter_directory_bytes_law volume old image outer directory place number name bytes sound placed has says enter stand =
    let what = (written volume old image directory place bytes sound placed has).kept number stand.fit (unnamed-apart volume old image directory place bytes sound placed has number stand.fresh.unnamed) in
    has-tree volume old image directory place bytes sound placed has (name ∷ outer) _ _
    (enter_directory_law volume.layout (parts_of volume old) (parts_of volume image) outer directory place number name (opened volume old sound).parts enter stand
    (becomes volume old image directory place bytes sound placed has _ says) what)

pub remove_bytes_law : RemoveBytesLaw
remove_bytes_law volume old image outer directory place number name bytes sound placed has free remove =
    let all = written volume old image directory place bytes sound placed has in
    has-tree volume old image directory place bytes sound placed has (name ∷ outer) _ _
    (remove_law volume.layout (parts_of volume old) (parts_of volume image) outer directory place number name (opened volume old sound).parts remove
    (record { only = all.only; free = ap (λ (e : Entry). e.inode) all.says ∙ free }))

pub redirect_bytes_law : RedirectBytesLaw
redirect_bytes_law volume old image outer directory place former number name bytes sound placed has says remove stand =
    let what = (written volume old image directory place bytes sound placed has).kept number stand.fit (file-apart volume old image directory place bytes sound placed has number stand.file) in
    has-tree volume old image directory place bytes sound placed has (name ∷ outer) _ _
    (redirect_law volume.layout (parts_of volume old) (parts_of volume image) outer directory place former number name (opened volume old sound).parts remove stand
    (becomes volume old image directory place bytes sound placed has _ says) what)

pub rename_bytes_law : RenameBytesLaw
rename_bytes_law volume old image outer directory place number former name bytes sound placed has says rename =
    has-moved volume old image directory place bytes sound placed has (former ∷ outer) (name ∷ outer)
    (rename_law volume.layout (parts_of volume old) (parts_of volume image) outer directory place number former name (opened volume old sound).parts rename
    (becomes volume old image directory place bytes sound placed has _ says))

pub remove_last_bytes_law : RemoveLastBytesLaw
remove_last_bytes_law volume old image outer directory place number name bytes sound placed has free remove last =
    let all = written volume old image directory place bytes sound placed has in
    remove_last_law volume.layout (parts_of volume old) (parts_of volume image) outer directory place number name (opened volume old sound).parts remove last
    (record { only = all.only; free = ap (λ (e : Entry). e.inode) all.says ∙ free })

pub redirect_last_bytes_law : RedirectLastBytesLaw
redirect_last_bytes_law volume old image outer directory place former number name bytes sound placed has says remove last stand apart =
    let what = (written volume old image directory place bytes sound placed has).kept number stand.fit (file-apart volume old image directory place bytes sound placed has number stand.file) in
    redirect_last_law volume.layout (parts_of volume old) (parts_of volume image) outer directory place former number name (opened volume old sound).parts remove last stand apart
    (becomes volume old image directory place bytes sound placed has _ says) what
