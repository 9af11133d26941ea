-- The keys that a source of bytes gives (this project's own: byte 0x16 is a tick, and its end is endless silence).
use Rattle.std.specs.Prelude.{◌≡◌, ℕ, ◌==◌, if◌then◌else◌, List, [], ◌∷◌, map, Option, None, Some, Result, Ok, Err, IsTrue, ⊤}
use Rattle.std.specs.Option.{option_map}
use Rattle.lilo_model.specs.Prompt as prompts
use Rattle.lilo_model.specs.Prompt.{Byte, Tick}
use Rattle.stream_trait.specs.declared.source.Source.{Ghosts}
use Rattle.bios_model.specs.declared.bios.BiosFault.{BiosFault}
use Rattle.bios_model.specs.declared.key.Key as heard
use Rattle.bios_model.specs.declared.key.Key.TheVariants as keys

-- the key that a byte is
abbrev pub key_of : ℕ → prompts.Key
key_of byte = if byte == 0x16 then Tick else Byte byte

-- the keys that bytes are, where they are known
abbrev pub keys_of : Option (List ℕ) → Option (List prompts.Key)
keys_of bytes = option_map (map key_of) bytes

-- the keys that are left in a source, where it reports them
abbrev pub keys_in : {I : Type 0} → Ghosts I → I → Option (List prompts.Key)
keys_in source keys = keys_of (source.left keys)

-- what was heard, and the keys that are left after it, were so many keys before: nothing is left of them at silence
abbrev pub Heard : List prompts.Key → heard.Key → List prompts.Key → Type 0
Heard before (keys.Byte byte) after = before ≡ Byte byte ∷ after
Heard before keys.Tick after = before ≡ Tick ∷ after
Heard before keys.Silence after = (before ≡ []) × (after ≡ [])

-- what a call gave of the keys that are left, where they are known, and what is left after it; a failure leaves them
abbrev pub GivesKey : Option (List prompts.Key) → Result heard.Key BiosFault → Option (List prompts.Key) → Type 0
GivesKey None result new = new ≡ None
GivesKey (Some before) (Ok key) new = (after : List prompts.Key) × Heard before key after × (new ≡ Some after)
GivesKey (Some before) (Err fault) new = new ≡ Some before

-- these may be the keys that are left: all that are reported are among them in order, and no others
abbrev pub MayBe : Option (List prompts.Key) → List prompts.Key → Type 0
MayBe None keys = ⊤
MayBe (Some told) keys = keys ≡ told

-- these may be the keys that a source leaves: it reports no others, and none after its end
pub record MayLeave {I : Type 0} (source : Ghosts I) (keys : I) (left : List prompts.Key) : Type 0 where
  pub told : MayBe (keys_in source keys) left
  pub ended : IsTrue (source.ended keys) → left ≡ []
