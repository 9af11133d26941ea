-- The texts of an entry, by what each read gave.
use Rattle.std.proofs.Common.{◌≡◌, Ok, Err}
use Rattle.std.proofs.lemmas.Result.{err_from_is_err_and}
use Rattle.lilo_model.specs.Boot.{middle_of, fallback_of, optional_at, extra_slot}
use Rattle.lilo_model.specs.Table.{fallback_flag}
use Rattle.sector_address.specs.View.{slot_view}
use Rattle.sector_address.specs.Machine.{machine_of}
use Rattle.bios_model.specs.Machine.{sector_bytes_at}
use Rattle.boot_map.specs.View.{descriptor_view}
use Rattle.section_loader.specs.File.{ReadsOne}
use Rattle.disk_trait.proofs.ToldLemmas.{told_map, told_both}
use Rattle.loader_core.specs.Map.{IsExtra, ReadsExtra, ReadsTexts}
use Rattle.loader_core.proofs.MapLemmas.{options_halt, extra_halt, texts_read}
use Rattle.loader_core.proofs.map.read_texts.Goals as goal

pub returns-in_err-read_one-clause-texts : goal.returns-in_err-read_one-clause-texts
returns-in_err-read_one-clause-texts g c =
    let machine = machine_of g.D.Disks c.args.disks.now in
    let entry = descriptor_view c.args.entry.now in
    let halt = c.in_err-read_one.field-0.0 in
    let p = err_from_is_err_and c.from_residual.result c.from_residual.ensures.1 in
    rw (p.1, p.2)
    (told_map (g.D.Disks.past c.args.disks.now)
    (λ now. ReadsOne now machine (slot_view c.args.entry.now.options) (Err halt) c.read_one.new.into)
    (λ now. ReadsTexts (Err halt) (middle_of now machine entry) (fallback_of now machine entry))
    (λ now read. options_halt now machine entry c.read_one.new.into (fallback_of now machine entry) halt read)
    c.in_err-read_one.ensures.sector)

pub returns-in_err-extra-clause-texts : goal.returns-in_err-extra-clause-texts
returns-in_err-extra-clause-texts g c =
    let machine = machine_of g.D.Disks c.args.disks.now in
    let entry = descriptor_view c.args.entry.now in
    let halt = c.in_err-extra.field-0.0 in
    let same = c.in_ok-read_one.ensures.reads.same in
    let read = rw (same.same_past, same.same_size, same.same_geometry) at c.in_err-extra.ensures.extra in
    let p = err_from_is_err_and c.from_residual-in_err-extra.result c.from_residual-in_err-extra.ensures.1 in
    rw (p.1, p.2)
    (told_both (g.D.Disks.past c.args.disks.now)
    (λ now. sector_bytes_at now machine entry.options 0 ≡ Ok c.read_one.new.into)
    (λ now. ReadsExtra (Err halt) (optional_at now machine (extra_slot fallback_flag entry)))
    (λ now. ReadsTexts (Err halt) (middle_of now machine entry) (fallback_of now machine entry))
    (λ now there lost. extra_halt now machine entry c.read_one.new.into (fallback_of now machine entry) halt there lost)
    c.in_ok-read_one.ensures.sector read)

pub returns-clause-texts : goal.returns-clause-texts
returns-clause-texts g c =
    let machine = machine_of g.D.Disks c.args.disks.now in
    let entry = descriptor_view c.args.entry.now in
    let same = c.in_ok-read_one.ensures.reads.same in
    let extra = rw (same.same_past, same.same_size, same.same_geometry) at c.in_ok-extra.ensures.extra in
    told_both (g.D.Disks.past c.args.disks.now)
    (λ now. sector_bytes_at now machine entry.options 0 ≡ Ok c.read_one.new.into)
    (λ now. IsExtra c.in_ok-extra.extra (optional_at now machine (extra_slot fallback_flag entry)))
    (λ now. ReadsTexts c.judge_texts.result (middle_of now machine entry) (fallback_of now machine entry))
    (λ now there found. texts_read now machine entry c.judge_texts.result c.read_one.new.into _ _ found.bytes there found.is c.read.ensures.read found.said c.judge_texts.ensures.texts)
    c.in_ok-read_one.ensures.sector extra
