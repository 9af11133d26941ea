-- Which plain value each value of this crate stands for.
use Rattle.std.specs.Prelude.{Option, None, Some}
use Rattle.std.specs.Option.{option_map}
use Rattle.std.specs.Borrow.{Bor}
use Rattle.lilo_model.specs.Slots as slots
use Rattle.sector_address.specs.Whole.{IsSlot}
use Rattle.sector_address.specs.declared.slot.Slot.{Slot}
use Rattle.lilo_model.specs.Section as model
use Rattle.sector_address.specs.View.{slot_view}
use Rattle.map_section.specs.Reader as reader
use Rattle.map_section.specs.declared.section_reader.Ask.{Ask}
use Rattle.map_section.specs.declared.section_reader.Ask.TheVariants as asks
use Rattle.map_section.specs.declared.section_reader.SectionFault.{SectionFault}
use Rattle.map_section.specs.declared.section_reader.SectionFault.TheVariants as faults
use Rattle.map_section.specs.declared.section_reader.Stage.{Stage}
use Rattle.map_section.specs.declared.section_reader.Stage.TheVariants as stages

-- a slot that eight bytes can name
abbrev pub IsWritable : Slot → Type 0
IsWritable slot = IsSlot (slot_view slot)

-- a slot that is lent, or none
abbrev pub lent_view : Option (Bor Slot) → Option slots.Slot
lent_view link = option_map (λ link. slot_view link.now) link

-- an answer
abbrev pub ask_view : Ask → reader.Ask
ask_view (asks.Slot slot) = reader.Slot (slot_view slot)
ask_view (asks.Sector link) = reader.Sector (slot_view link)
ask_view asks.First = reader.First
ask_view asks.Done = reader.Done

-- a refusal
abbrev pub section_fault_view : SectionFault → model.SectionFault
section_fault_view (faults.BadSlot place) = model.BadSlot place
section_fault_view (faults.ChainTooLong chain) = model.ChainTooLong chain
section_fault_view (faults.ShortChain sectors) = model.ShortChain sectors

-- where a reader is
abbrev pub stage_view : Stage → reader.Stage
stage_view (stages.Wanted link) = reader.Wanted (option_map slot_view link)
stage_view (stages.Slots index) = reader.Slots index
stage_view (stages.Refused fault) = reader.Refused (section_fault_view fault)

-- a link that is kept is a slot of one sector
abbrev pub IsKeptLink : Option Slot → Type 0
IsKeptLink None = Unit {0}
IsKeptLink (Some link) = reader.IsLink (slot_view link)

-- the link at which a section sector is wanted is one
abbrev pub HoldsLink : Stage → Type 0
HoldsLink (stages.Wanted link) = IsKeptLink link
HoldsLink (stages.Slots index) = Unit {0}
HoldsLink (stages.Refused fault) = Unit {0}
