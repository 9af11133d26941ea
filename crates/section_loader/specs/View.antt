-- Which reason of the model each reason is.
use Rattle.lilo_model.specs.Reason as reasons
use Rattle.setup_header.specs.View.{setup_fault_view}
use Rattle.section_loader.specs.declared.reason.Reason.{Reason}
use Rattle.section_loader.specs.declared.reason.Reason.TheVariants as variants

-- why nothing is started
abbrev pub reason_view : Reason → reasons.Reason
reason_view variants.NotBootable = reasons.NotBootable
reason_view (variants.BadTable entry) = reasons.BadTable entry
reason_view variants.BadLine = reasons.BadLine
reason_view (variants.BadSlot place) = reasons.BadSlot place
reason_view (variants.ChainTooLong chain) = reasons.ChainTooLong chain
reason_view (variants.ShortChain sectors) = reasons.ShortChain sectors
reason_view variants.NotFound = reasons.NotFound
reason_view (variants.Header fault) = reasons.Header (setup_fault_view fault)
reason_view variants.Idle = reasons.Idle
