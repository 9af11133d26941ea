use Rattle.std.proofs.Common.{◌<◌, ◌^◌, sym, subst, Result, arith}
use Rattle.std.specs.Prelude.{IfOk}
use Rattle.lilo_model.specs.Disks.{IsGeometry}
use Rattle.lilo_model.specs.Slots as model
use Rattle.lilo_model.specs.Slots.{address_in}
use Rattle.sector_address.specs.View.{geometry_view, mode_view}
use Rattle.sector_address.specs.Whole.{IsAddress}
use Rattle.sector_address.proofs.MakeLemmas.{address_in-whole}
use Rattle.sector_address.proofs.slot.Slot.make.Goals as goal

pub returns-clause-whole : goal.returns-clause-whole
returns-clause-whole c =
    let geometry : IsGeometry (geometry_view c.args.geometry) = record {
      some_head = c.args.geometry.some_heads;
      most_heads = c.args.geometry.few_heads;
      some_sector = c.args.geometry.some_sectors;
      most_sectors = c.args.geometry.few_sectors;
    } in
    let narrow : c.args.sector < 2 ^ 32 = omega arith in
    let found = address_in-whole (mode_view c.args.mode) (geometry_view c.args.geometry) c.args.sector geometry narrow in
    let P : Result model.Address model.AddressFault → Type 0 = λ answer. IfOk answer IsAddress in
    record {
      disk = c.requires.disk;
      some = c.requires.some;
      few = c.requires.few;
      address = subst P (sym c.in_ok-address.ensures) found;
    }
