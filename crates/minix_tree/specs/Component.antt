-- How a text begins: with slashes, or with a name; its first component; and which names a file may be given.
use Rattle.std.specs.Prelude.{◌≢◌, ◌≤◌, ℕ, ◌==◌, not, List, length, All}
use Rattle.std.specs.List.{prefix_len}
use Rattle.lilo_model.specs.MinixFind.{slash}
use Rattle.lilo_model.specs.MinixFind as model
use Rattle.minix_tree.specs.declared.component.Component.{Component}

-- how many slashes are at the start of a text
abbrev pub slashes : List ℕ → ℕ
slashes text = prefix_len (λ byte. byte == slash) text

-- how many bytes come before the first slash
abbrev pub name_length : List ℕ → ℕ
name_length text = prefix_len (λ byte. not (byte == slash)) text

-- a component
abbrev pub component_view : Component → model.Component
component_view component = record { name = component.name.now; rest = component.rest.now }

-- no byte of a text is 0
abbrev pub HasNoZero : List ℕ → Type 0
HasNoZero text = All (λ byte. byte ≢ 0) text

-- a name that a file may be given, if it isn't too long: it has a byte, and none is 0
pub record IsFileName (name : List ℕ) : Type 0 where
  pub some : 1 ≤ length name
  pub plain : HasNoZero name
