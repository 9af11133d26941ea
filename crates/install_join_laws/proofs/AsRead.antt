-- What a plan reads of the file at a path is what it read, where the path leads where it led.
use Rattle.std.proofs.Common.{◌≡◌, ℕ, Bool, true, false, if◌then◌else◌, List, [], take, Option, Some, None, Result, Ok, Err, option_map, refl, sym, ◌∙◌, ap, subst}
use Rattle.std.specs.Prelude.{IfSome, option_and_then, unwrap_or}
use Rattle.std.specs.Result.{result_ok}
use Rattle.lilo_model.specs.Checks.{◌>>=◌, require, with_fault}
use Rattle.lilo_model.specs.Disks.{Image}
use Rattle.lilo_model.specs.Meant.{file_of, filled_file, some_bytes}
use Rattle.lilo_model.specs.MinixFind as trees
use Rattle.lilo_model.specs.MinixFind.{TreeFault, find_in}
use Rattle.lilo_model.specs.MinixNames.{Named, content, names_in, IsSound}
use Rattle.lilo_model.specs.MinixParts.{Parts, Volume, parts_of, is_file}
use Rattle.lilo_model.specs.Planned.{mapped_inode, file_inode, some_file, optional_file, code_in}
use Rattle.lilo_model.specs.PlanRefusal.{Tree, path_fault, file_check, if_there}
use Rattle.minix_change_laws.specs.Tree.{KeepsNamed}
use Rattle.install_stage_laws.specs.BeginLaws.{GainsNothing}
use Rattle.map_laws.proofs.MeantFiles.{file-both}
use Rattle.install_join_laws.proofs.Inodes.{regular-same, mapped-same, content-same}

-- a path is read as it was
pub record ReadsAs (volume : Volume) (old c : Image) (text : List ℕ) : Type 0 where
  pub inode : file_inode volume (parts_of volume c) text ≡ file_inode volume (parts_of volume old) text
  pub mapped : option_map (mapped_inode volume (parts_of volume c)) (file_inode volume (parts_of volume old) text)
      ≡ option_map (mapped_inode volume (parts_of volume old)) (file_inode volume (parts_of volume old) text)
  pub contents : option_map (content volume.layout (parts_of volume c)) (file_inode volume (parts_of volume old) text)
      ≡ option_map (content volume.layout (parts_of volume old)) (file_inode volume (parts_of volume old) text)
  pub check : file_check volume (parts_of volume c) text ≡ file_check volume (parts_of volume old) text
  pub file : file_of (names_in volume c) text ≡ file_of (names_in volume old) text

module _ (volume : Volume) (old c : Image) where
  abbrev Was : Parts
  Was = parts_of volume old

  abbrev Now : Parts
  Now = parts_of volume c

  module _ (keeps : KeepsNamed volume.layout Was Now) (gains : GainsNothing volume old c)
      (before : IsSound volume old) (after : IsSound volume c) (text : List ℕ) (same : find_in c volume text ≡ find_in old volume text)
      (named : (number : ℕ) → find_in old volume text ≡ Ok number → Named volume.layout Was number × Named volume.layout Now number) where
    abbrev Found : Type 0
    Found = (number : ℕ) → find_in old volume text ≡ Ok number → is_file (Now.node number) ≡ is_file (Was.node number)

    kinds : Found
    kinds number found = let both = named number found in regular-same volume old c keeps gains number both.0 both.1

    inode-by : (found : Result ℕ TreeFault) → ((number : ℕ) → found ≡ Ok number → is_file (Now.node number) ≡ is_file (Was.node number))
        → option_and_then (λ number. if is_file (Now.node number) then Some number else None) (result_ok found)
        ≡ option_and_then (λ number. if is_file (Was.node number) then Some number else None) (result_ok found)
    inode-by (Ok number) kind = ap (λ file. if file then Some number else None) (kind number refl)
    inode-by (Err fault) kind = refl

    inode-same : file_inode volume Now text ≡ file_inode volume Was text
    unfolding file_inode
    inode-same =
        ap (λ found. option_and_then (λ number. if is_file (Now.node number) then Some number else None) (result_ok found)) same
        ∙ inode-by (find_in old volume text) kinds

    check-by : (found : Result ℕ TreeFault) → ((number : ℕ) → found ≡ Ok number → is_file (Now.node number) ≡ is_file (Was.node number))
        → (with_fault (path_fault text) found >>= λ number. require (is_file (Now.node number)) (Tree text trees.NotFile))
        ≡ (with_fault (path_fault text) found >>= λ number. require (is_file (Was.node number)) (Tree text trees.NotFile))
    check-by (Ok number) kind = ap (λ file. require file (Tree text trees.NotFile)) (kind number refl)
    check-by (Err fault) kind = refl

    check-same : file_check volume Now text ≡ file_check volume Was text
    check-same =
        ap (λ found. with_fault (path_fault text) found >>= λ number. require (is_file (Now.node number)) (Tree text trees.NotFile)) same
        ∙ check-by (find_in old volume text) kinds

    -- a regular file's inode keeps its name
    regular-by : (found : Result ℕ TreeFault) → ((number : ℕ) → found ≡ Ok number → Named volume.layout Was number × Named volume.layout Now number) → (number : ℕ)
        → option_and_then (λ number. if is_file (Was.node number) then Some number else None) (result_ok found) ≡ Some number
        → Named volume.layout Was number × Named volume.layout Now number × (is_file (Was.node number) ≡ true)
    regular-by (Err fault) names number is = cc
    regular-by (Ok other) names number is = by (is_file (Was.node other)) refl is
      where
        by : (file : Bool) → is_file (Was.node other) ≡ file → (if file then Some other else None) ≡ Some number
            → Named volume.layout Was number × Named volume.layout Now number × (is_file (Was.node number) ≡ true)
        by false off is = cc
        by true on is =
            let one : other ≡ number = ap (λ o. unwrap_or o 0) is in
            let both = names other refl in
            subst (λ n. Named volume.layout Was n × Named volume.layout Now n × (is_file (Was.node n) ≡ true)) one (both.0, both.1, on)

    regular : (number : ℕ) → file_inode volume Was text ≡ Some number → Named volume.layout Was number × Named volume.layout Now number × (is_file (Was.node number) ≡ true)
    unfolding file_inode
    regular number is = regular-by (find_in old volume text) named number is

    each-same : {A : Type 0} (one other : ℕ → A) (found : Option ℕ) → ((number : ℕ) → found ≡ Some number → one number ≡ other number) → option_map one found ≡ option_map other found
    each-same one other None is = refl
    each-same one other (Some number) is = ap Some (is number refl)

    mapped-is : option_map (mapped_inode volume Now) (file_inode volume Was text) ≡ option_map (mapped_inode volume Was) (file_inode volume Was text)
    mapped-is = each-same (mapped_inode volume Now) (mapped_inode volume Was) (file_inode volume Was text) (λ number is.
        let three = regular number is in mapped-same volume old c keeps gains number three.0 three.1 three.2)

    contents-are : option_map (content volume.layout Now) (file_inode volume Was text) ≡ option_map (content volume.layout Was) (file_inode volume Was text)
    contents-are = each-same (content volume.layout Now) (content volume.layout Was) (file_inode volume Was text) (λ number is.
        let three = regular number is in content-same volume old c keeps gains number three.0 three.1 three.2)

    pub reads-as : ReadsAs volume old c text
    reads-as = record {
      inode = inode-same;
      mapped = mapped-is;
      contents = contents-are;
      check = check-same;
      file = file-both volume c after text ∙ (ap (option_map (content volume.layout Now)) inode-same ∙ (contents-are ∙ sym (file-both volume old before text)));
    }

  -- ---- what is mapped of it

  pub mapped-as : (text : List ℕ) → ReadsAs volume old c text
      → option_map (mapped_inode volume Now) (file_inode volume Now text) ≡ option_map (mapped_inode volume Was) (file_inode volume Was text)
  mapped-as text reads = ap (option_map (mapped_inode volume Now)) reads.inode ∙ reads.mapped

  pub optional-as : (path : Option (List ℕ)) → IfSome path (ReadsAs volume old c) → optional_file volume Now path ≡ optional_file volume Was path
  optional-as None reads = refl
  optional-as (Some text) reads = ap (option_and_then some_file) (mapped-as text reads)

  pub code-as : (path : Option (List ℕ)) → IfSome path (ReadsAs volume old c) → code_in volume Now path ≡ code_in volume Was path
  unfolding code_in
  code-as None reads = refl
  code-as (Some text) reads =
      ap (λ bytes. take 512 (unwrap_or bytes [])) (ap (option_map (content volume.layout Now)) reads.inode ∙ reads.contents)

  pub if-check-as : (path : Option (List ℕ)) → IfSome path (ReadsAs volume old c) → if_there (file_check volume Now) path ≡ if_there (file_check volume Was) path
  if-check-as None reads = refl
  if-check-as (Some text) reads = reads.check

  pub filled-as : (path : Option (List ℕ)) → IfSome path (ReadsAs volume old c) → filled_file (names_in volume c) path ≡ filled_file (names_in volume old) path
  filled-as None reads = refl
  filled-as (Some text) reads = ap (option_and_then some_bytes) reads.file
