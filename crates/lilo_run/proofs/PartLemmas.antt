-- Facts about the parts of a run, by what each finds out.
use Rattle.std.proofs.Common.{ℕ, List, Option}
use Rattle.disk_trait.specs.Moments.{IsTold}
use Rattle.disk_trait.specs.Past.{Image, Past, Told}
use Rattle.disk_trait.specs.declared.disks.Disks.{Ghosts}
use Rattle.disk_trait.proofs.ToldLemmas.{told_map}
use Rattle.sector_address.specs.Machine.{machine_of}
use Rattle.bios_model.specs.Memory.{memory_of}
use Rattle.lilo_model.specs.Devices.{Device}
use Rattle.lilo_model.specs.Prompt.{Key}
use Rattle.prompt_loop.proofs.LastLemmas.{all_last}
use Rattle.loader_core.proofs.BootLemmas.{keys_map, keys_still}
use Rattle.loader_core.specs.Start.{OnKeys}
use Rattle.stream_trait.specs.Shows.{sink_of}
use Rattle.stream_trait.specs.declared.shown.Shown.{Shown}
use Rattle.stream_trait.specs.declared.sink.Sink as sinks
use Rattle.stream_trait.specs.declared.source.Source as sources
use Rattle.lilo_run.specs.Run.{Carries, CarriesKeys, CarriesFound, CarriesPart, state_of}
use Rattle.lilo_run.specs.Verdict.{Left, install_effect, leaving}
use Rattle.lilo_run.proofs.LineLemmas.{told_using}

-- a fact by what disks hold, the keys and what the parts found out gives another, which may use that the disks report their
-- past
module _ {I : Type 0} (past : Option Past) (i : sources.Ghosts I) (keys : I × I) (P : Image → List Key → List Key → List Left → Type 0) where
  pub parts_then :
      Told past (λ now. OnKeys i keys (λ all left. (lefts : List Left) × P now all left lefts)) → (Q : Image → List Key → List Key → List Left → Type 0)
      → (IsTold past → (now : Image) (all left : List Key) (lefts : List Left) → P now all left lefts → Q now all left lefts)
      → Told past (λ now. OnKeys i keys (λ all left. (lefts : List Left) × Q now all left lefts))
  parts_then holds Q f = told_using past _ _ (λ is now tells. keys_map i keys _ _ (λ all left found. by is now all left found) tells) holds
    where
      by : IsTold past → (now : Image) (all left : List Key) → (lefts : List Left) × P now all left lefts → (lefts : List Left) × Q now all left lefts
      by is now all left (lefts, told) = (lefts, f is now all left lefts told)

  -- the other may name something else that was found out
  pub parts_alone :
      Told past (λ now. OnKeys i keys (λ all left. (lefts : List Left) × P now all left lefts)) → (Q : Image → List Key → List Key → Type 0)
      → ((now : Image) (all left : List Key) (lefts : List Left) → P now all left lefts → Q now all left)
      → Told past (λ now. OnKeys i keys (λ all left. Q now all left))
  parts_alone holds Q f = told_map past _ _ (λ now tells. keys_map i keys _ _ (λ all left found. by now all left found) tells) holds
    where
      by : (now : Image) (all left : List Key) → (lefts : List Left) × P now all left lefts → Q now all left
      by now all left (lefts, told) = f now all left lefts told

-- an installation takes no key
pub part_installs :
    {D I O : Type 0} (g : Ghosts D) (i : sources.Ghosts I) (o : sinks.Ghosts O) (status : ℕ) (keys : I) (ram : List ℕ) (old new : D × Shown O)
    (root : Option Device) (path : List ℕ) (time : ℕ)
    → CarriesFound g o (memory_of ram) status old new (λ now machine. install_effect now machine root path time)
    → CarriesPart g i o status (old.0, keys, ram, old.1) (new.0, keys, ram, new.1)
    (λ now machine size found all. leaving all (install_effect now machine root path time found))
part_installs {D} {I} {O} g i o status keys ram old new root path time carries = told_map (g.past old.0) _ _ (λ now found. by now found) carries
  where
    by :
        (now : Image)
        → (found : Left) × ((all : List Key) (key_faults : ℕ) → Carries g (leaving all (install_effect now (machine_of g old.0) root path time found)) status all
        (record { disks = old.0; memory = memory_of ram; sink = sink_of o old.1; key_faults = key_faults })
        (record { disks = new.0; memory = memory_of ram; sink = sink_of o new.1; key_faults = key_faults }))
        → OnKeys i (keys, keys) (λ all left. (found : Left) × CarriesKeys g (leaving all (install_effect now (machine_of g old.0) root path time found)) status left
        (state_of i o (old.0, keys, ram, old.1)) (state_of i o (new.0, keys, ram, new.1)))
    by now (found, carries) = keys_still i keys _ (λ all. (found, record { does = carries all (i.faults keys); keys = all_last all }))
