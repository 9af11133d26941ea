-- The fields of a descriptor.
use Rattle.std.proofs.Common.{◌≡◌, ℕ, List, true, Option, Some, None, refl}
use Rattle.std.specs.Prelude.{is_some}
use Rattle.std.specs.Option.{option_map}
use Rattle.lilo_model.specs.Slots.{Slot}
use Rattle.lilo_model.specs.Table.{Descriptor}

-- a value for what is there
pub some-mapped : {A B : Type 0} (found : Option A) (value : B) → is_some found ≡ true → Some value ≡ option_map (λ any. value) found
some-mapped None value is = cc
some-mapped (Some any) value is = refl

abbrev pub entry-of : List ℕ → (flags vga main_length initrd_length : ℕ) (options first : Slot) → Option Slot → (chain initrd_chain : ℕ) → Option Slot → Descriptor
entry-of name flags vga main_length initrd_length options first initrd chain initrd_chain extra = record {
  name = name;
  flags = flags;
  vga = vga;
  main_length = main_length;
  initrd_length = initrd_length;
  options = options;
  first = first;
  initrd = initrd;
  chain = chain;
  initrd_chain = initrd_chain;
  extra = extra;
}

-- descriptors of the same fields
pub same-entry : (name name' : List ℕ) (flags flags' vga vga' size size' more more' : ℕ) (options options' first first' : Slot) (initrd initrd' : Option Slot)
    (chain chain' other other' : ℕ) (extra extra' : Option Slot)
    → name ≡ name' → flags ≡ flags' → vga ≡ vga' → size ≡ size' → more ≡ more' → options ≡ options' → first ≡ first' → initrd ≡ initrd'
    → chain ≡ chain' → other ≡ other' → extra ≡ extra'
    → entry-of name flags vga size more options first initrd chain other extra ≡ entry-of name' flags' vga' size' more' options' first' initrd' chain' other' extra'
same-entry name name' flags flags' vga vga' size size' more more' options options' first first' initrd initrd' chain chain' other other' extra extra' a b c d e f g h i j k = cc
