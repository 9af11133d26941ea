-- Which plain value of the model each value of this crate stands for.
use Rattle.lilo_model.specs.LdiskWords as model
use Rattle.mbr_table.specs.View.{device_view}
use Rattle.ldisk_run.specs.declared.reading.Reading.{Reading}
use Rattle.ldisk_run.specs.declared.reading.Reading.TheVariants.{Get, Ls}

-- a command that only reads
abbrev pub reading_view : Reading → model.Command
reading_view (Get device path) = model.Get (device_view device) path.now
reading_view (Ls device path) = model.Ls (device_view device) path.now
