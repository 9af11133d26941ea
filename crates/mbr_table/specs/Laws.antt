-- What the definitions of devices and of chains of tables say, as laws.
use Rattle.std.specs.Prelude.{◌≡◌, ◌↔◌, ◌≤◌, ℕ, ◌+◌, List, [], Some}
use Rattle.lilo_model.specs.Devices.{Device, IsDevice, device_name, device_at}
use Rattle.lilo_model.specs.Partitions.{linked_sector, chain_from, chain_tables, logical_from}

-- a device is looked up by its name, and by no other
abbrev pub NamesLaw : Type 0
NamesLaw =
    (name : List ℕ) (device : Device)
    → (device_at name ≡ Some device) ↔ (IsDevice device × (name ≡ device_name device))

-- a chain ends, is refused or comes back within as many tables as there are sectors: further ones change nothing
abbrev pub ChainEndsLaw : Type 0
ChainEndsLaw =
    (sectors : ℕ → List ℕ) (size disk outer more : ℕ) → 1 ≤ size
    → logical_from sectors size disk 5 [] (chain_from (linked_sector sectors size outer) (size + more) (Some outer))
    ≡ logical_from sectors size disk 5 [] (chain_tables sectors size outer)
