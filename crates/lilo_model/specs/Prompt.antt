-- What the prompt is given and what it answers. Its rules are this project's own; the texts, as
-- `boot: `, and the keys that edit a line follow LILO's manners.
use Rattle.std.specs.Prelude.{◌≡◌, ℕ, List, ◌++◌, Bool, Option}
use Rattle.lilo_model.specs.DefaultLine.{DefaultLine}

-- a key; a list of keys is followed by endless silence
pub data Key : Type 0 where
  -- a byte that was typed
  Byte : ℕ → Key
  -- a tenth of a second without a byte
  Tick : Key

-- the keys that are left are the last of all of them, after those that are taken
pub record AreLastKeys (keys left : List Key) : Type 0 where
  pub taken : List Key
  pub joined : keys ≡ taken ++ left

-- how the prompt is set up
pub record Settings : Type 0 where
  -- whether the prompt is shown without a key
  pub prompt : Bool
  -- how long a key is waited for before the choice is made without one, in tenths of a second
  pub delay : ℕ
  -- how long a key is waited for once the prompt is shown, in tenths of a second
  pub timeout : Option ℕ
  -- the place in the list of the entry that is chosen without words
  pub default_entry : ℕ
  -- the most bytes of a typed line
  pub capacity : ℕ

-- an entry of the list that is chosen from
pub record ListedEntry : Type 0 where
  pub name : List ℕ
  pub password : Option (List ℕ)
  -- whether the password is asked only where words are typed that are passed on
  pub restricted : Bool
  -- whether a choice of it is kept for later boots
  pub lock : Bool
  -- the line that is kept for later boots
  pub fallback : Option (List ℕ)

-- what was chosen
pub record Picked : Type 0 where
  -- the place of the entry in the list
  pub entry : ℕ
  -- the words to pass on, with a single space between each two
  pub words : List ℕ
  -- whether it was chosen without a typed line
  pub automatic : Bool
  -- the video mode that a word gave
  pub vga : Option ℕ

-- how the prompt ends
pub record Decision : Type 0 where
  -- what was chosen, or nothing where the keys end at the prompt
  pub picked : Option Picked
  -- the text that was shown
  pub shown : List ℕ
  -- the default line from then on
  pub line : DefaultLine
  -- the keys that were not taken
  pub left : List Key

-- where the prompt is shown for the first time
pub record Opening : Type 0 where
  -- the text that was shown before the message and the prompt
  pub before : List ℕ
  -- the keys that are not taken then
  pub left : List Key
