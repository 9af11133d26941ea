-- Parts of lines, joined to the left, and the lines of some refusals that have the same.
use Rattle.std.proofs.Common.{◌≡◌, ℕ, List, ◌++◌, codes, refl, sym, ◌∙◌, ap, append_assoc, inl, inr, ◌⊎◌}
use Rattle.lilo_model.specs.Partitions.{device_fault}
use Rattle.lilo_model.specs.Refusal.{device_text}
use Rattle.mbr_table.specs.View.{table_fault_view}
use Rattle.mbr_table.specs.declared.table_fault.TableFault.{TableFault}
use Rattle.mbr_table.specs.declared.table_fault.TableFault.TheVariants as tables
use Rattle.minix_tree.specs.declared.tree_fault.TreeFault.{TreeFault}
use Rattle.minix_tree.specs.declared.tree_fault.TreeFault.TheVariants as trees
use Rattle.install_run.specs.Texts.{path_text}

pub end_joined : (front middle end : List ℕ) → front ++ (middle ++ end) ≡ front ++ middle ++ end
end_joined front middle end = sym (append_assoc front middle end)

pub three_joined : (front one two end : List ℕ) → front ++ (one ++ two ++ end) ≡ front ++ one ++ two ++ end
three_joined front one two end =
    end_joined front (one ++ two) end ∙ ap (λ (l : List ℕ). l ++ end) (end_joined front one two)

-- a path that can't be followed
abbrev pub IsOtherPath : TreeFault → Type 0
IsOtherPath fault =
    ((position : ℕ) × (fault ≡ trees.NotDirectory position))
    ⊎ ((fault ≡ trees.TooManyLinks) ⊎ (((directory : ℕ) × (fault ≡ trees.BadEntry directory)) ⊎ ((fault ≡ trees.PathTooLong) ⊎ (fault ≡ trees.Memory))))

pub path_other : (path : List ℕ) (fault : TreeFault) → IsOtherPath fault → codes "volume: path " ++ path ++ codes "\n" ≡ path_text path fault
path_other path fault (inl is) = rw is.1 refl
path_other path fault (inr (inl is)) = rw is refl
path_other path fault (inr (inr (inl is))) = rw is.1 refl
path_other path fault (inr (inr (inr (inl is)))) = rw is refl
path_other path fault (inr (inr (inr (inr is)))) = rw is refl

-- a partition table that is refused
abbrev pub IsOtherTable : TableFault → Type 0
IsOtherTable fault =
    ((sector : ℕ) × (fault ≡ tables.NoSignature sector))
    ⊎ (((number : ℕ) × (fault ≡ tables.OutsideDisk number)) ⊎ (((sector : ℕ) × (fault ≡ tables.LoopedChain sector))
    ⊎ ((fault ≡ tables.TooMany) ⊎ ((fault ≡ tables.UnknownDevice) ⊎ (fault ≡ tables.Device)))))

pub table_other : (fault : TableFault) → IsOtherTable fault → codes "volume: table\n" ≡ codes "volume: " ++ device_text (device_fault (table_fault_view fault)) ++ codes "\n"
table_other fault (inl is) = rw is.1 refl
table_other fault (inr (inl is)) = rw is.1 refl
table_other fault (inr (inr (inl is))) = rw is.1 refl
table_other fault (inr (inr (inr (inl is)))) = rw is refl
table_other fault (inr (inr (inr (inr (inl is))))) = rw is refl
table_other fault (inr (inr (inr (inr (inr is))))) = rw is refl
