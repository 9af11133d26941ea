-- What was read so far is in memory.
use Rattle.std.proofs.Common.{◌≡◌, ◌≤◌, ◌-◌, ◌+◌, length}
use Rattle.disk_trait.specs.Past.{Told, SameDisks}
use Rattle.sector_address.specs.Machine.{machine_of}
use Rattle.bios_model.specs.Memory.{memory_of}
use Rattle.section_loader.specs.File.{IsCounted, rest_in}
use Rattle.section_loader.specs.Load.{IsCut, IsLoaded}
use Rattle.section_loader.proofs.load.load_bytes.Given as goal

abbrev pub invariant-loop-done : goal.invariant-loop-done
invariant-loop-done g l =
    let disks = g.D.Disks in
    let machine = machine_of disks l.fn.disks in
    record {
      loaded : Told (disks.past l.fn.disks) (λ now. IsLoaded l.done l.at (rest_in now machine l.fn.file) (memory_of l.fn.ram) (rest_in now machine l.file) (memory_of l.ram));
      done : l.done ≤ l.size;
      cut : IsCut (l.size - l.done) l.file.left;
      left : l.file.left + l.done ≡ l.fn.file.left;
      counted : IsCounted l.file;
      memory : length l.ram ≡ length l.fn.ram;
      same : SameDisks disks.past disks.size_of disks.count_of disks.geometry_of l.fn.disks l.disks;
      later : disks.faults l.fn.disks ≤ disks.faults l.disks;
    }

abbrev pub decreases-loop-done : goal.decreases-loop-done
decreases-loop-done g l = l.size - l.done
