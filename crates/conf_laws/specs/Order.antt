-- The one order in which what is wrong with a lilo.conf is looked for (this project's own; docs/FORMATS.md has it,
-- under Refusals): stages, in a stage its options or sections in turn, and at each of these its tests. The tests at an
-- option have that page's numbers, 1 to 8. The answer is the first test that fails. Which settings a text has is a
-- relation here too, over its tokens.
use Rattle.std.specs.Prelude.{◌≡◌, ◌⊎◌, ◌↔◌, ◌<◌, ℕ, zero, suc, Bool, true, false, List, [], ◌∷◌, ◌++◌, length, flat_map, is_some, unwrap_or, IsOk, None, Some}
use Rattle.std.specs.Prelude.{◌≢◌, Ok, Err}
use Rattle.lilo_model.specs.ConfTokens.{Word, Equals, Token, TextFault, Piece, is_equals, line_at, plain_bytes, text_pieces}
use Rattle.lilo_model.specs.ConfOptions as options
use Rattle.lilo_model.specs.ConfOptions.{Opt, Takes, option_at, takes_of, stands_in, opens, is_of_disk, is_of_name, same_option}
use Rattle.lilo_model.specs.ConfValues.{is_value, is_name, last_part, name_limit, names_limit}
use Rattle.lilo_model.specs.ConfRefusal as reasons
use Rattle.lilo_model.specs.ConfRefusal.{ConfReason, ConfRefusal}
use Rattle.lilo_model.specs.ConfSettings.{Given, Bare, Sign, Value, Setting, fault_place}
use Rattle.lilo_model.specs.ConfJudge.{part_after, part_kind, has_option, setting_disk, is_same_disk, details_of, group_disk, excluded_in, takes_nothing}
use Rattle.lilo_model.specs.Conf.{parts_of, value_of, section_path, section_label, section_names, opener_of, opening_line, line_of, excludes_line}
use Rattle.lilo_model.specs.Conf.{is_locked_fallback, is_open_restricted, has_name, conf_limit, too_long, conf_at}
use Rattle.std.specs.List.{list_any}

-- An item of a list, counted from 0, fails a test. What the test looks at besides goes from item to item.
abbrev pub ItemFails : {S X R : Type 0} → (S → X → ℕ → R → Type 0) → (S → X → S) → S → List X → ℕ → ℕ → R → Type 0
ItemFails one next state [] item test refusal = ⊥
ItemFails one next state (x ∷ xs) zero test refusal = one state x test refusal
ItemFails one next state (x ∷ xs) (suc item) test refusal = ItemFails one next (next state x) xs item test refusal

-- ---- the settings of a text, over its pieces (an option alone, or with an equals sign and a value: lilo.conf(5); what
-- ---- belongs to an option that lacks them is this project's own)

-- whether an option has an equals sign and a value
abbrev pub takes_value : Takes → Bool
takes_value options.Nothing = false
takes_value options.LeftOut = false
takes_value options.Unknown = false
takes_value _ = true

-- whether an equals sign is first
abbrev pub has_sign : List Piece → Bool
has_sign [] = false
has_sign (Err fault ∷ pieces) = false
has_sign (Ok token ∷ pieces) = is_equals token.kind

-- What an option takes, the pieces after its word, what is given to it there, and the pieces that are left then.
pub data Reads : Takes → List Piece → Given → List Piece → Type 0 where
  -- one without a value is its word alone
  flag : (behind : List Piece) → has_sign behind ≡ false → Reads options.Nothing behind Bare behind
  -- an equals sign after it is seen, and left
  flag_sign : (behind : List Piece) → has_sign behind ≡ true → Reads options.Nothing behind Sign behind
  -- one with a value has none at the text's end
  ends : (takes : Takes) → takes_value takes ≡ true → Reads takes [] Bare []
  -- nor where another token is next than an equals sign; that is read with it
  unsigned :
      (takes : Takes) (token : Token) (behind : List Piece) → takes_value takes ≡ true → token.kind ≢ Equals
      → Reads takes (Ok token ∷ behind) Bare behind
  -- nor where the text ends after the equals sign, or where another one is there
  sign_ends :
      (takes : Takes) (sign : Token) → takes_value takes ≡ true → sign.kind ≡ Equals → Reads takes (Ok sign ∷ []) Sign []
  two_signs :
      (takes : Takes) (sign other : Token) (behind : List Piece) → takes_value takes ≡ true → sign.kind ≡ Equals
      → other.kind ≡ Equals → Reads takes (Ok sign ∷ Ok other ∷ behind) Sign behind
  -- else the token after the equals sign is its value
  valued :
      (takes : Takes) (sign token : Token) (behind : List Piece) → takes_value takes ≡ true → sign.kind ≡ Equals
      → token.kind ≢ Equals
      → Reads takes (Ok sign ∷ Ok token ∷ behind) (Value (plain_bytes token.kind token.bytes)) behind

-- Once these settings of a text are read, the option that was begun last is `begun`, and these pieces are left.
pub data Reaches (text : List ℕ) : List Setting → Opt → List Piece → Type 0 where
  start : Reaches text [] options.Other (text_pieces text)
  next :
      (read : List Setting) (begun : Opt) (word : Token) (behind : List Piece) (given : Given) (left : List Piece)
      → Reaches text read begun (Ok word ∷ behind) → word.kind ≡ Word → Reads (takes_of (option_at word.bytes)) behind given left
      → Reaches text (read ++ record { option = option_at word.bytes; given = given; line = word.line } ∷ [])
      (option_at word.bytes) left

-- these are the settings of the whole text
abbrev pub AreSettings : List ℕ → List Setting → Type 0
AreSettings text settings = (begun : Opt) × Reaches text settings begun []

-- ---- the tests in reading an option

-- a word that is an option with a value
abbrev pub IsValued : Token → Type 0
IsValued word = (word.kind ≡ Word) × (takes_value (takes_of (option_at word.bytes)) ≡ true)

-- A fault of the text is met in reading the option that pieces begin with, and its value. The option that was begun
-- last is `begun` before these pieces, and the one of the word after it.
pub data MeetsFault (begun : Opt) : List Piece → Opt → TextFault → Type 0 where
  in_word : (fault : TextFault) (behind : List Piece) → MeetsFault begun (Err fault ∷ behind) begun fault
  in_sign :
      (word : Token) (fault : TextFault) (behind : List Piece) → IsValued word
      → MeetsFault begun (Ok word ∷ Err fault ∷ behind) (option_at word.bytes) fault
  in_value :
      (word sign : Token) (fault : TextFault) (behind : List Piece) → IsValued word → sign.kind ≡ Equals
      → MeetsFault begun (Ok word ∷ Ok sign ∷ Err fault ∷ behind) (option_at word.bytes) fault

-- a token that is no option: none but a word is one
abbrev pub IsNoOption : Token → Type 0
IsNoOption token = (token.kind ≢ Word) ⊎ (takes_of (option_at token.bytes) ≡ options.Unknown)

-- ---- the tests at an option, after the options `own` of its part

-- an option that belongs to a part as a whole, and neither opens one nor speaks of a disk
abbrev pub IsOfPart : Setting → Type 0
IsOfPart setting = (opens setting.option ≡ false) × (same_option setting.option options.Disk ≡ false) × (is_of_disk setting.option ≡ false)

-- an option that speaks of the disk of its group
abbrev pub IsDetail : Setting → Type 0
IsDetail setting = (opens setting.option ≡ false) × (same_option setting.option options.Disk ≡ false) × (is_of_disk setting.option ≡ true)

-- the option that begins a group
abbrev pub IsGroup : Setting → Type 0
IsGroup setting = (opens setting.option ≡ false) × (same_option setting.option options.Disk ≡ true)

-- the disk by which a value is judged
unfoldable pub disk_behind : List Setting → Setting → ℕ
disk_behind own setting = by (opens setting.option) (same_option setting.option options.Disk) (is_of_disk setting.option)
  where
    by : Bool → Bool → Bool → ℕ
    by false false true = unwrap_or (group_disk own) 0
    by _ _ _ = 0

-- tests 4 and 5: where the option is
pub data PlaceFails (own : List Setting) (setting : Setting) : ℕ → ConfReason → Type 0 where
  misplaced : IsOfPart setting → stands_in (part_kind own) setting.option ≡ false → PlaceFails own setting 4 reasons.Misplaced
  misplaced_disk : IsGroup setting → stands_in (part_kind own) options.Disk ≡ false → PlaceFails own setting 4 reasons.Misplaced
  misplaced_detail : IsDetail setting → group_disk own ≡ None → PlaceFails own setting 4 reasons.Misplaced
  repeated : IsOfPart setting → has_option setting.option own ≡ true → PlaceFails own setting 5 reasons.Repeated
  repeated_disk :
      IsGroup setting → list_any (λ other. is_same_disk (setting_disk setting) (setting_disk other)) own ≡ true
      → PlaceFails own setting 5 reasons.Repeated
  repeated_detail : IsDetail setting → has_option setting.option (details_of own) ≡ true → PlaceFails own setting 5 reasons.Repeated
  -- it is there for the first time, next to one that it excludes
  excluded :
      (other : Opt) → IsOfPart setting → has_option setting.option own ≡ false → excluded_in own setting.option ≡ Some other
      → PlaceFails own setting 5 (reasons.Excludes other)

-- tests 6 to 8: its value, judged by the disk of its group
pub data ValueFails (disk : ℕ) (setting : Setting) : ℕ → ConfReason → Type 0 where
  no_value :
      takes_nothing (takes_of setting.option) ≡ false → (setting.given ≡ Bare) ⊎ (setting.given ≡ Sign)
      → ValueFails disk setting 6 reasons.NoValue
  unwanted : takes_nothing (takes_of setting.option) ≡ true → setting.given ≡ Sign → ValueFails disk setting 7 reasons.BadValue
  bad_value :
      (text : List ℕ) → setting.given ≡ Value text → is_value (takes_of setting.option) disk text ≡ false
      → ValueFails disk setting 7 reasons.BadValue
  long_name :
      (text : List ℕ) → setting.given ≡ Value text → is_of_name setting.option ≡ true → name_limit < length text
      → ValueFails disk setting 8 reasons.NameTooLong

abbrev pub OptionFails : List Setting → Setting → ℕ → ConfReason → Type 0
OptionFails own setting test reason = PlaceFails own setting test reason ⊎ ValueFails (disk_behind own setting) setting test reason

-- the same, with the refusal that says so
abbrev pub SettingFails : List Setting → Setting → ℕ → ConfRefusal → Type 0
SettingFails own setting test refusal =
    (reason : ConfReason) × OptionFails own setting test reason
    × (record { reason = reason; option = setting.option; line = setting.line } ≡ refusal)

-- ---- the tests of a section as a whole

-- its name is the last part of its path
abbrev pub IsNamedByPath : List Setting → Type 0
IsNamedByPath section = is_some (value_of options.Label section) ≡ false

pub data WholeFails (front section : List Setting) : ℕ → ConfRefusal → Type 0 where
  bad_path_name :
      IsNamedByPath section → is_name (last_part (section_path section)) ≡ false
      → WholeFails front section 1 (record { reason = reasons.BadValue; option = opener_of section; line = opening_line section })
  long_path_name :
      IsNamedByPath section → name_limit < length (last_part (section_path section))
      → WholeFails front section 2 (record { reason = reasons.NameTooLong; option = opener_of section; line = opening_line section })
  locked :
      is_locked_fallback front section ≡ true
      → WholeFails front section 3 (record { reason = reasons.Excludes options.Lock; option = options.Fallback; line = excludes_line section })
  restricted :
      is_open_restricted front section ≡ true
      → WholeFails front section 4 (record { reason = reasons.Needs options.Password; option = options.Restricted; line = opening_line section })

-- ---- the tests of a section's names, after those of the sections before

pub data NewNameFails (names : List (List ℕ)) (section : List Setting) : ℕ → ConfRefusal → Type 0 where
  label :
      has_name (section_label section) names ≡ true
      → NewNameFails names section 1 (record { reason = reasons.RepeatedName; option = options.Label; line = opening_line section })
  alias :
      (name : List ℕ) → value_of options.Alias section ≡ Some name → has_name name (names ++ section_label section ∷ []) ≡ true
      → NewNameFails names section 2 (record { reason = reasons.RepeatedName; option = options.Alias; line = opening_line section })
  many :
      names_limit < length (names ++ section_names section)
      → NewNameFails names section 3 (record { reason = reasons.TooManyNames; option = opener_of section; line = opening_line section })

-- the names after those of one more section
abbrev pub names_after : List (List ℕ) → List Setting → List (List ℕ)
names_after names section = names ++ section_names section

-- ---- all tests in one order

-- a test's place in the order
pub record Place : Type 0 where
  pub stage : ℕ
  pub item : ℕ
  pub test : ℕ

abbrev pub place : ℕ → ℕ → ℕ → Place
place stage item test = record { stage = stage; item = item; test = test }

-- by stage, in a stage by item, and at an item by test
abbrev pub IsBefore : Place → Place → Type 0
IsBefore a b = (a.stage < b.stage) ⊎ ((a.stage ≡ b.stage) × ((a.item < b.item) ⊎ ((a.item ≡ b.item) × (a.test < b.test))))

-- A text fails the test at this place, and this refusal says so.
pub data Fails (text : List ℕ) : Place → ConfRefusal → Type 0 where
  -- its length
  is_long : conf_limit < length text → Fails text (place 0 0 0) (too_long (length text))
  -- at each option in turn, test 1: a fault of the text that is met in reading the option and its value
  faulty :
      (read : List Setting) (begun option : Opt) (left : List Piece) (fault : TextFault) → Reaches text read begun left
      → MeetsFault begun left option fault
      → Fails text (place 1 (length read) 1)
      (record { reason = reasons.Text fault; option = option; line = line_at text (fault_place fault) })
  -- 2: what is there is no option
  unknown :
      (read : List Setting) (begun : Opt) (token : Token) (behind : List Piece) → Reaches text read begun (Ok token ∷ behind)
      → IsNoOption token
      → Fails text (place 1 (length read) 2) (record { reason = reasons.Unknown; option = options.Other; line = token.line })
  -- 3: it is an option that is refused by name
  left_out :
      (read : List Setting) (begun : Opt) (word : Token) (behind : List Piece) → Reaches text read begun (Ok word ∷ behind)
      → word.kind ≡ Word → takes_of (option_at word.bytes) ≡ options.LeftOut
      → Fails text (place 1 (length read) 3)
      (record { reason = reasons.LeftOut; option = option_at word.bytes; line = word.line })
  -- 4 to 8, of an option that is read: where it is, and its value
  of_option :
      (read : List Setting) (begun : Opt) (left : List Piece) (item test : ℕ) (refusal : ConfRefusal)
      → Reaches text read begun left → ItemFails SettingFails part_after [] read item test refusal
      → Fails text (place 1 item test) refusal
  -- once the whole text is read, each section as a whole
  of_section :
      (settings : List Setting) (item test : ℕ) (refusal : ConfRefusal) → AreSettings text settings
      → ItemFails WholeFails (λ front _. front) (parts_of settings).front (parts_of settings).sections item test refusal
      → Fails text (place 2 item test) refusal
  -- each section's names
  of_names :
      (settings : List Setting) (item test : ℕ) (refusal : ConfRefusal) → AreSettings text settings
      → ItemFails NewNameFails names_after [] (parts_of settings).sections item test refusal
      → Fails text (place 3 item test) refusal
  -- that there is a section
  no_section :
      (settings : List Setting) → AreSettings text settings → (parts_of settings).sections ≡ []
      → Fails text (place 4 0 0) (record { reason = reasons.NoImages; option = options.Image; line = 0 })
  -- that the default is a name
  of_default :
      (settings : List Setting) (wanted : List ℕ) → AreSettings text settings
      → value_of options.Default (parts_of settings).front ≡ Some wanted
      → has_name wanted (flat_map section_names (parts_of settings).sections) ≡ false
      → Fails text (place 5 0 0)
      (record { reason = reasons.NoDefault; option = options.Default; line = line_of options.Default (parts_of settings).front })

-- the first test that fails: there is none before it that does
pub record FailsFirst (text : List ℕ) (refusal : ConfRefusal) : Type 0 where
  pub at : Place
  pub fails : Fails text at refusal
  pub first : (before : Place) (other : ConfRefusal) → IsBefore before at → Fails text before other → ⊥

-- A refusal is that of the first test that fails, and a text is accepted where none does.
pub record OrderLaw : Type 0 where
  pub refused : (text : List ℕ) (refusal : ConfRefusal) → (conf_at text ≡ Err refusal) ↔ FailsFirst text refusal
  pub accepted : (text : List ℕ) → IsOk (conf_at text) ↔ ((at : Place) (refusal : ConfRefusal) → Fails text at refusal → ⊥)
