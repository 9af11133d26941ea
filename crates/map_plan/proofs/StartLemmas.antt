-- The start of a file on a sound volume, and what is asked of it.
use Rattle.std.proofs.Common.{◌≡◌, ◌≤◌, ℕ, zero, suc, ◌-◌, ◌/◌, Bool, true, false, List, [], ◌∷◌, length, take, Option, Some, None, Result, Ok, Err, refl, sym, ap, subst, if◌then◌else◌, ◌∙◌, arith, length-append}
use Rattle.std.specs.Prelude.{min, unwrap_or}
use Rattle.std.specs.Option.{option_map, option_and_then}
use Rattle.std.proofs.Math.Seq.{take-nil}
use Rattle.std.proofs.lemmas.List.{take-append-le, take-take, take_min, length-take}
use Rattle.lilo_model.specs.Checks.{◌>>=◌, require, with_fault}
use Rattle.lilo_model.specs.Disks.{Image}
use Rattle.lilo_model.specs.Conf.{ConfSection}
use Rattle.lilo_model.specs.ConfLawful.{names_of_section}
use Rattle.lilo_model.specs.Header.{SetupFault, header_at, fit_checks}
use Rattle.lilo_model.specs.MinixLayout.{Inode}
use Rattle.lilo_model.specs.MinixParts.{Volume, Parts, parts_of, is_file, is_link, is_directory, blocks_for}
use Rattle.lilo_model.specs.MinixNames.{block, blocks, content, names_in, Named, IsSound}
use Rattle.lilo_model.specs.MinixFind.{TreeFault, NotFile, find, file_block, first_of_block, bytes_in_block}
use Rattle.lilo_model.specs.Meant.{file_of, filled_file, middle_text}
use Rattle.lilo_model.specs.Place.{first_two, command_line, kernel_fit}
use Rattle.lilo_model.specs.Plan.{MappedFile, MappedSection}
use Rattle.lilo_model.specs.Planned.{code_in, file_inode, mapped_inode, optional_file, kernel_section}
use Rattle.lilo_model.specs.PlanRefusal.{PlanFault, Header, Tree, path_fault, file_check, each_passes, kernel_check, name_check}
use Rattle.minix_laws.proofs.Inside.{sound_law}
use Rattle.map_laws.proofs.FileAgain.{blocks-sectors, length-sectors}
use Rattle.map_laws.proofs.MeantFiles.{zones-of, file-both, length-content, sector-long, inode-named, optional_file_law}
use Rattle.map_plan.specs.Files.{file_planned, optional_planned, kernel_by, kernel_planned, passed}
use Rattle.map_plan.specs.Starts.{FileStart, block_start, start_found, start_planned, code_planned, CodePlanLaw, fit_by, line_size, names_fit, HeaderLaw}
use Rattle.map_plan.proofs.FileLemmas.{kernel_plan_law}
use Rattle.map_plan.proofs.KernelLemmas.{kernel-none}
use Rattle.map_plan.proofs.SoundLemmas.{refused_first}
use Rattle.disk_trait.specs.Past.{Past, Told, now_of}
use Rattle.minix_tree.specs.declared.tree_fault.TreeFault as code
use Rattle.minix_tree.specs.View as trees
use Rattle.minix_tree.proofs.RefuseLemmas.{refused_then}
use Rattle.map_plan.specs.declared.fault.PlanFault as plans
use Rattle.map_plan.specs.View as plan

-- ---- the first block

longer : (at : ℕ → List ℕ) (count : ℕ) → length (at 0) ≤ length (blocks at (suc count))
longer at zero = omega arith
longer at (suc count) = omega (arith, longer at count, length-append (blocks at (suc count)) (at (suc count)))

-- the first blocks begin with the first one
front : (at : ℕ → List ℕ) (few : ℕ) → few ≤ length (at 0) → (count : ℕ) → take few (blocks at (suc count)) ≡ take few (at 0)
front at few fits zero = refl
front at few fits (suc count) =
    take-append-le few (blocks at (suc count)) (at (suc count)) (omega (arith, fits, longer at count)) ∙ front at few fits count

module _ (volume : Volume) (image : Image) (sound : IsSound volume image) (number : ℕ) (named : Named volume.layout (parts_of volume image) number)
    (is_regular : is_file ((parts_of volume image).node number) ≡ true) where
  abbrev parts : Parts
  parts = parts_of volume image

  abbrev size : ℕ
  size = (parts.node number).size

  abbrev bytes : List ℕ
  bytes = content volume.layout parts number

  abbrev at : ℕ → List ℕ
  at index = block volume.layout parts number index

  long : length bytes ≡ size
  long = length-content volume image sound number named is_regular

  first-long : length (at 0) ≡ 1024
  first-long =
      ap length (sym (blocks-sectors volume image number 1)) ∙ length-sectors volume image number (sector-long volume image sound number named is_regular) 2

  -- the bytes of the first block that are the file's
  first-bytes : take (min 1024 size) (at 0) ≡ take 1024 bytes
  unfolding content
  first-bytes = sym (take_short ∙ by-size size refl)
    where
      take_short : take 1024 bytes ≡ take (min 1024 size) bytes
      take_short = sym (take_min 1024 bytes) ∙ ap (λ n. take (min 1024 n) bytes) long

      by-size : (n : ℕ) → size ≡ n → take (min 1024 size) bytes ≡ take (min 1024 size) (at 0)
      by-size zero none =
          let few : min 1024 size ≡ 0 = omega (arith, none) in
          rw few refl
      by-size (suc n) some =
          let count : blocks_for size ≡ suc ((size - 1) / 1024) = omega (arith, some) in
          take-take (min 1024 size) size (blocks at (blocks_for size)) (omega arith)
          ∙ ap (λ n. take (min 1024 size) (blocks at n)) count
          ∙ front at (min 1024 size) (omega (arith, first-long)) ((size - 1) / 1024)

  -- what is read of the first block
  pub first-block : file_block volume.layout parts (parts.node number) 0 ≡ Ok (take 1024 bytes)
  unfolding file_block IsSound
  first-block =
      rw is_regular (by-count (bytes_in_block size 0) (omega arith) ∙ ap Ok first-bytes)
    where
      by-count : (count : ℕ) → count ≡ min 1024 size → first_of_block volume.layout parts (parts.node number) 0 count ≡ Ok (take (min 1024 size) (at 0))
      by-count zero is = rw (sym is) refl
      by-count (suc count) is =
          let given = sound_law volume.layout parts number sound.parts named (zones-of (is_directory (parts.node number)) (is_file (parts.node number)) (is_link (parts.node number)) is_regular) in
          rw (given.bytes 0, sym is) refl

module _ (volume : Volume) (image : Image) (sound : IsSound volume image) (path : List ℕ) where
  -- a start is that of the file of a path
  pub record IsStartOf (start : FileStart) : Type 0 where
    pub number : ℕ
    pub is : file_inode volume (parts_of volume image) path ≡ Some number
    pub size : start.size ≡ length (content volume.layout (parts_of volume image) number)
    pub bytes : start.bytes ≡ first_two (content volume.layout (parts_of volume image) number)

  start-of : (start : FileStart) → start_planned volume (parts_of volume image) path ≡ Ok start → IsStartOf start
  unfolding start_planned file_inode
  start-of start is = by-found (find volume.layout (parts_of volume image) path) refl is
    where
      by-file : (number : ℕ) (regular : Bool) → is_file ((parts_of volume image).node number) ≡ regular
          → file_inode volume (parts_of volume image) path ≡ (if regular then Some number else None)
          → with_fault (path_fault path) (require regular NotFile >>= λ a. Ok (record { size = ((parts_of volume image).node number).size; bytes = first_two (content volume.layout (parts_of volume image) number) })) ≡ Ok start
          → IsStartOf start
      by-file number true file at made =
          let same : record { size = ((parts_of volume image).node number).size; bytes = first_two (content volume.layout (parts_of volume image) number) } ≡ start = cc in
          let named = inode-named volume image sound path number at in
          record {
            number = number;
            is = at;
            size = ap (λ (start : FileStart). start.size) (sym same) ∙ sym (length-content volume image sound number named.0 named.1);
            bytes = ap (λ (start : FileStart). start.bytes) (sym same);
          }
      by-file number false file at made = cc

      by-found : (found : Result ℕ TreeFault) → find volume.layout (parts_of volume image) path ≡ found
          → with_fault (path_fault path) (found >>= λ number. require (is_file ((parts_of volume image).node number)) NotFile
          >>= λ a. Ok (record { size = ((parts_of volume image).node number).size; bytes = first_two (content volume.layout (parts_of volume image) number) })) ≡ Ok start
          → IsStartOf start
      by-found (Ok number) at made = by-file number (is_file ((parts_of volume image).node number)) refl (rw at refl) made
      by-found (Err fault) at made = cc

-- ---- a kernel's header

-- the bytes of a line
line-long : (name middle : List ℕ) → length (command_line true name middle []) ≡ line_size name (length middle)
unfolding command_line
line-long name middle = simp length-append (omega arith)

-- the same check at each of some values, by another name
each-same : {A F G : Type 0} (told : F → G) (one : A → Result (Unit {0}) G) (other : A → Result (Unit {0}) F) → ((value : A) → one value ≡ with_fault told (other value))
    → (values : List A) → each_passes one values ≡ with_fault told (each_passes other values)
each-same told one other same [] = refl
each-same told one other same (value ∷ values) = by (other value) (same value) (each-same told one other same values)
  where
    by : (first : Result (Unit {0}) _) → one value ≡ with_fault told first → each_passes one values ≡ with_fault told (each_passes other values)
        → (one value >>= λ a. each_passes one values) ≡ with_fault told (first >>= λ a. each_passes other values)
    by (Ok done) is rest = rw is rest
    by (Err fault) is rest = rw is refl

module _ (volume : Volume) (image : Image) (section : ConfSection) (mapped : MappedSection) (start : FileStart) (sound : IsSound volume image)
    (planned : kernel_planned volume (parts_of volume image) section ≡ Ok (mapped ∷ []))
    (of : IsStartOf volume image sound section.path start) where
  abbrev kernel : List ℕ
  kernel = unwrap_or (file_of (names_in volume image) section.path) []

  abbrev initrd : Option (List ℕ)
  initrd = filled_file (names_in volume image) section.initrd

  abbrev size_of : Option MappedFile → Option ℕ
  size_of file = option_map (λ file. file.size) file

  kernel-is : kernel ≡ content volume.layout (parts_of volume image) of.number
  kernel-is = rw (file-both volume image sound section.path, of.is) refl

  initrd-is : size_of mapped.initrd ≡ option_map length initrd
  initrd-is =
      let plan = kernel_plan_law volume (parts_of volume image) section in
      let here : kernel_section volume (parts_of volume image) section (file_inode volume (parts_of volume image) section.path) ≡ mapped ∷ [] = plan.mapped (mapped ∷ []) planned in
      let there : record { section = section; main = mapped_inode volume (parts_of volume image) of.number; initrd = optional_file volume (parts_of volume image) section.initrd } ∷ [] ≡ mapped ∷ [] = rw of.is at here in
      let one : record { section = section; main = mapped_inode volume (parts_of volume image) of.number; initrd = optional_file volume (parts_of volume image) section.initrd } ≡ mapped = cc in
      ap (λ (mapped : MappedSection). size_of mapped.initrd) (sym one) ∙ optional_file_law volume image section.initrd sound

  abbrev by_parts : List ℕ → ℕ → Option ℕ → ℕ → Result (Unit {0}) SetupFault
  by_parts bytes size ramdisk line = header_at bytes size >>= λ header. fit_checks header size ramdisk line

  fit : (line : List ℕ) → kernel_fit kernel initrd line ≡ by_parts (first_two kernel) (length kernel) (option_map length initrd) (length line)
  unfolding kernel_fit
  fit line = refl

  abbrev line_of : List ℕ → List ℕ
  line_of name = command_line true name (middle_text section) []

  name-same : (name : List ℕ) → name_check section kernel initrd name
      ≡ with_fault (Header section.path) (fit_by start (size_of mapped.initrd) (line_size name (length (middle_text section))))
  name-same name =
      ap (with_fault (Header section.path)) (fit (line_of name)
      ∙ ap (λ bytes. by_parts bytes (length kernel) (option_map length initrd) (length (line_of name))) (ap first_two kernel-is ∙ sym of.bytes)
      ∙ ap (λ size. by_parts start.bytes size (option_map length initrd) (length (line_of name))) (ap length kernel-is ∙ sym of.size)
      ∙ ap (λ ramdisk. by_parts start.bytes start.size ramdisk (length (line_of name))) (sym initrd-is)
      ∙ ap (by_parts start.bytes start.size (size_of mapped.initrd)) (line-long name (middle_text section)))

  all-same : kernel_check (names_in volume image) section
      ≡ with_fault (Header section.path) (names_fit start (size_of mapped.initrd) (length (middle_text section)) (names_of_section section))
  all-same =
      each-same (Header section.path) (name_check section kernel initrd) (λ name. fit_by start (size_of mapped.initrd) (line_size name (length (middle_text section)))) name-same (names_of_section section)

pub header_law : HeaderLaw
header_law volume image section mapped start sound planned is =
    all-same volume image section mapped start sound planned (start-of volume image sound section.path start is)

-- ---- the code

-- the start of an inode's file, if it is one
abbrev start_if : Volume → Parts → ℕ → Bool → Result FileStart TreeFault
start_if volume parts number regular =
    require regular NotFile >>= λ a. Ok (record { size = (parts.node number).size; bytes = first_two (content volume.layout parts number) })

abbrev code_of : Result FileStart PlanFault → Result (List ℕ) PlanFault
code_of start = start >>= λ start. Ok (take (min 512 start.size) start.bytes)

pub code_plan_law : CodePlanLaw
unfolding code_in start_planned
code_plan_law volume image None sound = record { check = refl; code = λ code is. take-nil 512 ∙ cc }
code_plan_law volume image (Some path) sound = record { check = check; code = code-is }
  where
    check : file_check volume (parts_of volume image) path ≡ passed (code_of (start_planned volume (parts_of volume image) path))
    check = by-found (find volume.layout (parts_of volume image) path)
      where
        by-file : (number : ℕ) (regular : Bool)
            → require regular (Tree path NotFile) ≡ passed (code_of (with_fault (path_fault path) (start_if volume (parts_of volume image) number regular)))
        by-file number true = refl
        by-file number false = refl

        by-found : (found : Result ℕ TreeFault)
            → (with_fault (path_fault path) found >>= λ number. require (is_file ((parts_of volume image).node number)) (Tree path NotFile))
            ≡ passed (code_of (with_fault (path_fault path) (found >>= λ number. start_if volume (parts_of volume image) number (is_file ((parts_of volume image).node number)))))
        by-found (Ok number) = by-file number (is_file ((parts_of volume image).node number))
        by-found (Err fault) = refl

    code-is : (code : List ℕ) → code_of (start_planned volume (parts_of volume image) path) ≡ Ok code
        → take 512 (unwrap_or (option_map (content volume.layout (parts_of volume image)) (option_and_then (file_inode volume (parts_of volume image)) (Some path))) []) ≡ code
    code-is code is = by-start (start_planned volume (parts_of volume image) path) refl is
      where
        by-start : (planned : Result FileStart PlanFault) → start_planned volume (parts_of volume image) path ≡ planned
            → code_of planned ≡ Ok code
            → take 512 (unwrap_or (option_map (content volume.layout (parts_of volume image)) (file_inode volume (parts_of volume image) path)) []) ≡ code
        by-start (Ok start) there made =
            let of = start-of volume image sound path start there in
            let bytes = content volume.layout (parts_of volume image) of.number in
            let all : take (min 512 start.size) start.bytes ≡ code = cc in
            let cut : take 512 bytes ≡ take (min 512 start.size) start.bytes =
            sym (take_min 512 bytes) ∙ ap (λ n. take (min 512 n) bytes) (sym of.size)
            ∙ sym (take-take (min 512 start.size) 1024 bytes (omega arith))
            ∙ sym (take-append-le (min 512 start.size) (take 1024 bytes) _ (simp length-take (omega (arith, of.size))))
            ∙ ap (take (min 512 start.size)) (sym of.bytes) in
            rw of.is (cut ∙ all)
        by-start (Err fault) there made = cc

-- ---- what was read of a file's first block is its start

module _ (volume : Volume) (image : Image) (sound : IsSound volume image) (path : List ℕ) (inode : ℕ) (node : Inode)
    (found : find volume.layout (parts_of volume image) path ≡ Ok inode) (is : node ≡ (parts_of volume image).node inode) where
  abbrev block-read : Inode → Result FileStart TreeFault
  block-read node = file_block volume.layout (parts_of volume image) node 0 >>= λ bytes. Ok (block_start node.size bytes)

  none : is_file ((parts_of volume image).node inode) ≡ false → Err NotFile ≡ block-read ((parts_of volume image).node inode)
  unfolding file_block
  none file = rw file refl

  pub start-by : start_found volume (parts_of volume image) path ≡ block-read node
  unfolding file_inode
  start-by = rw found (by (is_file ((parts_of volume image).node inode)) refl ∙ ap block-read (sym is))
    where
      by : (regular : Bool) → is_file ((parts_of volume image).node inode) ≡ regular
          → (require regular NotFile >>= λ a. Ok (record { size = ((parts_of volume image).node inode).size; bytes = first_two (content volume.layout (parts_of volume image) inode) }))
          ≡ block-read ((parts_of volume image).node inode)
      by true file =
          let there : file_inode volume (parts_of volume image) path ≡ Some inode = rw (found, file) refl in
          let named = inode-named volume image sound path inode there in
          rw (first-block volume image sound inode named.0 named.1) refl
      by false file = none file

-- ---- where a kernel's section is planned, its kernel has a start

pub start-there : (volume : Volume) (parts : Parts) (section : ConfSection) (mapped : MappedSection) → kernel_planned volume parts section ≡ Ok (mapped ∷ [])
    → (start : FileStart) × (start_planned volume parts section.path ≡ Ok start)
unfolding kernel_planned file_planned start_planned
start-there volume parts section mapped is =
    by-found (find volume.layout parts section.path) is
  where
    by-file : (number : ℕ) (regular : Bool)
        → kernel_by section section.optional (with_fault (path_fault section.path) (require regular NotFile >>= λ a. Ok (mapped_inode volume parts number))) (optional_planned volume parts section.initrd) ≡ Ok (mapped ∷ [])
        → (start : FileStart) × (with_fault (path_fault section.path) (require regular NotFile >>= λ a. Ok (record { size = (parts.node number).size; bytes = first_two (content volume.layout parts number) })) ≡ Ok start)
    by-file number true made = (_, refl)
    by-file number false made = absurd (kernel-none section _ section.optional _ mapped made)

    by-found : (found : Result ℕ TreeFault)
        → kernel_by section section.optional (with_fault (path_fault section.path) (found >>= λ number. require (is_file (parts.node number)) NotFile >>= λ a. Ok (mapped_inode volume parts number)))
        (optional_planned volume parts section.initrd) ≡ Ok (mapped ∷ [])
        → (start : FileStart) × (with_fault (path_fault section.path) (found >>= λ number. require (is_file (parts.node number)) NotFile
        >>= λ a. Ok (record { size = (parts.node number).size; bytes = first_two (content volume.layout parts number) })) ≡ Ok start)
    by-found (Ok number) made = by-file number (is_file (parts.node number)) made
    by-found (Err fault) made = absurd (kernel-none section _ section.optional _ mapped made)

-- ---- the same of what was read

module _ (volume : Volume) (path : List ℕ) where
  pub path-refused : (past : Option Past) (fault : code.TreeFault) → Told past (λ now. trees.Refuses fault (find volume.layout (parts_of volume now) path))
      → Told past (λ now. IsSound volume now → trees.Refuses fault (start_found volume (parts_of volume now) path))
  path-refused None fault refused = tt
  path-refused (Some past) fault refused = λ sound.
      refused_then fault (find volume.layout (parts_of volume (now_of past)) path)
      (λ number. require (is_file ((parts_of volume (now_of past)).node number)) NotFile
      >>= λ a. Ok (record { size = ((parts_of volume (now_of past)).node number).size; bytes = first_two (content volume.layout (parts_of volume (now_of past)) number) })) refused

  module _ (inode : ℕ) (node : Inode) where
    pub block-refused : (past : Option Past) (fault : code.TreeFault)
        → Told past (λ now. find volume.layout (parts_of volume now) path ≡ Ok inode) → Told past (λ now. node ≡ (parts_of volume now).node inode)
        → Told past (λ now. trees.Refuses fault (file_block volume.layout (parts_of volume now) node 0))
        → Told past (λ now. IsSound volume now → trees.Refuses fault (start_found volume (parts_of volume now) path))
    block-refused None fault found is refused = tt
    block-refused (Some past) fault found is refused = λ sound.
        subst (trees.Refuses fault) (sym (start-by volume (now_of past) sound path inode node found is))
        (refused_then fault (file_block volume.layout (parts_of volume (now_of past)) node 0) (λ bytes. Ok (block_start node.size bytes)) refused)

    pub block-found : (past : Option Past) (bytes : List ℕ) (start : FileStart)
        → Told past (λ now. find volume.layout (parts_of volume now) path ≡ Ok inode) → Told past (λ now. node ≡ (parts_of volume now).node inode)
        → Told past (λ now. file_block volume.layout (parts_of volume now) node 0 ≡ Ok bytes) → start ≡ block_start node.size bytes
        → Told past (λ now. IsSound volume now → start_found volume (parts_of volume now) path ≡ Ok start)
    block-found None read-bytes start found is read made = tt
    block-found (Some past) read-bytes start found is read made = λ sound.
        start-by volume (now_of past) sound path inode node found is
        ∙ ap (λ (read : Result (List ℕ) TreeFault). read >>= λ bytes. Ok (block_start node.size bytes)) read ∙ ap Ok (sym made)

  -- as a plan reports it
  pub start-refused : (past : Option Past) (fault : code.TreeFault) (refusal : plans.PlanFault)
      → Told past (λ now. IsSound volume now → trees.Refuses fault (start_found volume (parts_of volume now) path))
      → ((found : Result FileStart TreeFault) → trees.Refuses fault found → plan.Refuses refusal (with_fault (path_fault path) found))
      → Told past (λ now. IsSound volume now → plan.Refuses refusal (start_planned volume (parts_of volume now) path))
  unfolding start_planned
  start-refused None fault refusal refused after = tt
  start-refused (Some past) fault refusal refused after = λ sound. after (start_found volume (parts_of volume (now_of past)) path) (refused sound)

  pub start-found : (past : Option Past) (start : FileStart) → Told past (λ now. IsSound volume now → start_found volume (parts_of volume now) path ≡ Ok start)
      → Told past (λ now. IsSound volume now → start_planned volume (parts_of volume now) path ≡ Ok start)
  unfolding start_planned
  start-found None start found = tt
  start-found (Some past) start found = λ sound. ap (with_fault (path_fault path)) (found sound)

module _ (volume : Volume) (path : List ℕ) where
  pub code-found : (past : Option Past) (start : FileStart) (bytes : List ℕ) → Told past (λ now. IsSound volume now → start_planned volume (parts_of volume now) path ≡ Ok start)
      → bytes ≡ take (min 512 start.size) start.bytes
      → Told past (λ now. IsSound volume now → code_planned volume (parts_of volume now) (Some path) ≡ Ok bytes)
  code-found None start cut read is = tt
  code-found (Some past) start cut read is = λ sound. ap code_of (read sound) ∙ ap Ok (sym is)

  pub code-refused : (past : Option Past) (fault : plans.PlanFault) → Told past (λ now. IsSound volume now → plan.Refuses fault (start_planned volume (parts_of volume now) path))
      → Told past (λ now. IsSound volume now → plan.Refuses fault (code_planned volume (parts_of volume now) (Some path)))
  code-refused None fault read = tt
  code-refused (Some past) fault read = λ sound.
      refused_first fault (start_planned volume (parts_of volume (now_of past)) path) (λ start. Ok (take (min 512 start.size) start.bytes)) (read sound)
