-- Refusals of the model, and those that stand for them.
use Rattle.std.proofs.Common.{◌≡◌}
use Rattle.std.specs.Prelude.{Result, Err}
use Rattle.lilo_model.specs.Partitions as model
use Rattle.mbr_table.specs.declared.table_fault.TableFault.{TableFault}
use Rattle.mbr_table.specs.declared.table_fault.TableFault.TheVariants.{NoSignature, OutsideDisk, LoopedChain, TooMany, UnknownDevice, NoPartition, NoDisk, Device}
use Rattle.mbr_table.specs.Gives.{Refuses}
use Rattle.mbr_table.specs.View.{table_fault_view}

-- a refusal that one check gives is that of the whole
pub refuses_too :
    {A B : Type 0} (fault : TableFault) (part : Result A model.TableFault) (whole : Result B model.TableFault)
    → ((refusal : model.TableFault) → part ≡ Err refusal → whole ≡ Err refusal) → Refuses fault part → Refuses fault whole
refuses_too (NoSignature sector) part whole passes is = passes _ is
refuses_too (OutsideDisk number) part whole passes is = passes _ is
refuses_too (LoopedChain sector) part whole passes is = passes _ is
refuses_too TooMany part whole passes is = passes _ is
refuses_too UnknownDevice part whole passes is = passes _ is
refuses_too (NoPartition number) part whole passes is = passes _ is
refuses_too (NoDisk disk) part whole passes is = passes _ is
refuses_too Device part whole passes is = tt

-- the refusal that it stands for
pub refuses_view :
    {A : Type 0} (fault : TableFault) (given : Result A model.TableFault) → given ≡ Err (table_fault_view fault)
    → Refuses fault given
refuses_view (NoSignature sector) given is = is
refuses_view (OutsideDisk number) given is = is
refuses_view (LoopedChain sector) given is = is
refuses_view TooMany given is = is
refuses_view UnknownDevice given is = is
refuses_view (NoPartition number) given is = is
refuses_view (NoDisk disk) given is = is
refuses_view Device given is = tt
