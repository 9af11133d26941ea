-- The tests in reading an option, over the pieces of the text: the settings of a text end with a refusal where one of them fails.
use Rattle.std.proofs.Common.{◌≡◌, ℕ, zero, suc, ◌<◌, ◌≤◌, true, Bool, false, Option, List, [], ◌∷◌, ◌++◌, length, Some, None, Ok, Err, inl, inr, refl, sym, ◌∙◌, subst, append_assoc, append-nil, arith}
use Rattle.std.specs.Prelude.{◌≢◌}
use Rattle.lilo_model.specs.ConfTokens.{TokenKind, Word, Quoted, Equals, Token, TextFault, Piece, is_equals, plain_bytes, text_pieces}
use Rattle.lilo_model.specs.ConfOptions as options
use Rattle.lilo_model.specs.ConfOptions.{Opt, Takes, option_at, takes_of}
use Rattle.lilo_model.specs.ConfRefusal as reasons
use Rattle.lilo_model.specs.ConfRefusal.{ConfReason, ConfRefusal}
use Rattle.lilo_model.specs.ConfSettings.{Given, Bare, Sign, Value, Setting, flag_given, given_of, SettingCut, End, Refused, First, text_refusal, flag_cut, signed_cut, valued_cut, taken_cut, word_cut, token_cut, setting_cut, with_setting, settings_from, text_settings}
use Rattle.conf_laws.specs.Order.{takes_value, has_sign, Reads, flag, flag_sign, ends, unsigned, sign_ends, two_signs, valued, Reaches, AreSettings, start, next, MeetsFault, in_word, in_sign, in_value, IsNoOption, place, Fails, faulty, unknown, left_out}

-- the test that a reason in reading is of
abbrev pub reading_test : ConfReason → ℕ
reading_test (reasons.Text fault) = 1
reading_test reasons.Unknown = 2
reading_test _ = 3

-- ---- a setting by its pieces

-- an option with a value is cut as one
taken-valued : (text : List ℕ) (chosen : Opt) (takes : Takes) (line : ℕ) (pieces : List Piece) → takes_value takes ≡ true
    → taken_cut text chosen takes line pieces ≡ valued_cut text chosen line pieces
unfolding taken_cut
taken-valued text chosen options.Unknown line pieces is = absurd (cc)
taken-valued text chosen options.LeftOut line pieces is = absurd (cc)
taken-valued text chosen options.Nothing line pieces is = absurd (cc)
taken-valued text chosen _ line pieces is = refl

word-cut : (text : List ℕ) (begun : Opt) (word : Token) (behind : List Piece) → word.kind ≡ Word
    → setting_cut text begun (Ok word ∷ behind) ≡ taken_cut text (option_at word.bytes) (takes_of (option_at word.bytes)) word.line behind
unfolding setting_cut token_cut word_cut
word-cut text begun word behind is = rw is refl

-- a sign after an option with a value
valued-sign : (text : List ℕ) (chosen : Opt) (line : ℕ) (sign : Token) (pieces : List Piece) → sign.kind ≡ Equals
    → valued_cut text chosen line (Ok sign ∷ pieces) ≡ signed_cut text chosen line pieces
unfolding valued_cut
valued-sign text chosen line sign pieces is = rw is refl

-- and another token
valued-unsigned : (text : List ℕ) (chosen : Opt) (line : ℕ) (token : Token) (pieces : List Piece) → token.kind ≢ Equals
    → valued_cut text chosen line (Ok token ∷ pieces) ≡ First (record { option = chosen; given = Bare; line = line }) pieces
unfolding valued_cut
valued-unsigned text chosen line token pieces other = by token.kind refl
  where
    by : (kind : TokenKind) → token.kind ≡ kind
        → valued_cut text chosen line (Ok token ∷ pieces) ≡ First (record { option = chosen; given = Bare; line = line }) pieces
    by Word is = rw is refl
    by Quoted is = rw is refl
    by Equals is = absurd (other is)

-- the token after the sign
signed-sign : (text : List ℕ) (chosen : Opt) (line : ℕ) (token : Token) (pieces : List Piece) → token.kind ≡ Equals
    → signed_cut text chosen line (Ok token ∷ pieces) ≡ First (record { option = chosen; given = Sign; line = line }) pieces
unfolding signed_cut given_of
signed-sign text chosen line token pieces is = rw is refl

signed-value : (text : List ℕ) (chosen : Opt) (line : ℕ) (token : Token) (pieces : List Piece) → token.kind ≢ Equals
    → signed_cut text chosen line (Ok token ∷ pieces)
    ≡ First (record { option = chosen; given = Value (plain_bytes token.kind token.bytes); line = line }) pieces
unfolding signed_cut given_of
signed-value text chosen line token pieces other = by token.kind refl
  where
    by : (kind : TokenKind) → token.kind ≡ kind
        → signed_cut text chosen line (Ok token ∷ pieces)
        ≡ First (record { option = chosen; given = Value (plain_bytes token.kind token.bytes); line = line }) pieces
    by Word is = rw is refl
    by Quoted is = rw is refl
    by Equals is = absurd (other is)

-- an option without a value, by whether an equals sign is next
flag-bare : (chosen : Opt) (line : ℕ) (pieces : List Piece) → has_sign pieces ≡ false
    → flag_cut chosen line pieces ≡ First (record { option = chosen; given = Bare; line = line }) pieces
unfolding flag_cut is_equals flag_given
flag-bare chosen line [] none = refl
flag-bare chosen line (Err fault ∷ pieces) none = refl
flag-bare chosen line (Ok token ∷ pieces) none = by token.kind none
  where
    by : (kind : TokenKind) → is_equals kind ≡ false
        → ◌≡◌ {A = SettingCut} (First (record { option = chosen; given = flag_given kind; line = line }) (Ok token ∷ pieces))
        (First (record { option = chosen; given = Bare; line = line }) (Ok token ∷ pieces))
    by Word is = refl
    by Quoted is = refl
    by Equals is = absurd (cc)

flag-sign : (chosen : Opt) (line : ℕ) (pieces : List Piece) → has_sign pieces ≡ true
    → flag_cut chosen line pieces ≡ First (record { option = chosen; given = Sign; line = line }) pieces
unfolding flag_cut is_equals flag_given
flag-sign chosen line [] sign = absurd (cc)
flag-sign chosen line (Err fault ∷ pieces) sign = absurd (cc)
flag-sign chosen line (Ok token ∷ pieces) sign = by token.kind sign
  where
    by : (kind : TokenKind) → is_equals kind ≡ true
        → ◌≡◌ {A = SettingCut} (First (record { option = chosen; given = flag_given kind; line = line }) (Ok token ∷ pieces))
        (First (record { option = chosen; given = Sign; line = line }) (Ok token ∷ pieces))
    by Word is = absurd (cc)
    by Quoted is = absurd (cc)
    by Equals is = refl

-- what the relation reads is what the cut reads
reads-cut : (text : List ℕ) (chosen : Opt) (takes : Takes) (line : ℕ) (behind : List Piece) (given : Given) (left : List Piece)
    → Reads takes behind given left
    → (taken_cut text chosen takes line behind ≡ First (record { option = chosen; given = given; line = line }) left) × (length left ≤ length behind)
unfolding taken_cut valued_cut signed_cut
reads-cut text chosen takes line behind given left (flag pieces none) = (flag-bare chosen line pieces none, omega arith)
reads-cut text chosen takes line behind given left (flag_sign pieces sign) = (flag-sign chosen line pieces sign, omega arith)
reads-cut text chosen takes line behind given left (ends kind value) = (taken-valued text chosen kind line [] value, omega arith)
reads-cut text chosen takes line behind given left (unsigned kind token pieces value other) =
    (taken-valued text chosen kind line _ value ∙ valued-unsigned text chosen line token pieces other, omega arith)
reads-cut text chosen takes line behind given left (sign_ends kind sign value is) =
    (taken-valued text chosen kind line _ value ∙ valued-sign text chosen line sign [] is, omega arith)
reads-cut text chosen takes line behind given left (two_signs kind sign token pieces value is other) = (
  taken-valued text chosen kind line _ value ∙ valued-sign text chosen line sign (Ok token ∷ pieces) is ∙ signed-sign text chosen line token pieces other,
  omega arith,
)
reads-cut text chosen takes line behind given left (valued kind sign token pieces value is other) = (
  taken-valued text chosen kind line _ value ∙ valued-sign text chosen line sign (Ok token ∷ pieces) is ∙ signed-value text chosen line token pieces other,
  omega arith,
)

-- ---- a refusal by its pieces

pub meets-cut : (text : List ℕ) (begun : Opt) (left : List Piece) (chosen : Opt) (fault : TextFault) → MeetsFault begun left chosen fault
    → setting_cut text begun left ≡ Refused (text_refusal text chosen fault)
unfolding setting_cut valued_cut signed_cut
meets-cut text begun left chosen fault (in_word same behind) = refl
meets-cut text begun left chosen fault (in_sign word same behind value) =
    word-cut text begun word _ value.0 ∙ taken-valued text _ _ word.line _ value.1
meets-cut text begun left chosen fault (in_value word sign same behind value is) =
    word-cut text begun word _ value.0 ∙ taken-valued text _ _ word.line _ value.1 ∙ valued-sign text _ word.line sign _ is

pub unknown-cut : (text : List ℕ) (begun : Opt) (token : Token) (behind : List Piece) → IsNoOption token
    → setting_cut text begun (Ok token ∷ behind) ≡ Refused (record { reason = reasons.Unknown; option = options.Other; line = token.line })
unfolding setting_cut token_cut taken_cut
unknown-cut text begun token behind none = by token.kind refl none
  where
    by : (kind : TokenKind) → token.kind ≡ kind → IsNoOption token
        → setting_cut text begun (Ok token ∷ behind) ≡ Refused (record { reason = reasons.Unknown; option = options.Other; line = token.line })
    by Word is (inl other) = absurd (other is)
    by Word is (inr takes) = word-cut text begun token behind is ∙ rw takes refl
    by Quoted is other = rw is refl
    by Equals is other = rw is refl

pub left_out-cut : (text : List ℕ) (begun : Opt) (word : Token) (behind : List Piece) → word.kind ≡ Word → takes_of (option_at word.bytes) ≡ options.LeftOut
    → setting_cut text begun (Ok word ∷ behind) ≡ Refused (record { reason = reasons.LeftOut; option = option_at word.bytes; line = word.line })
unfolding taken_cut
left_out-cut text begun word behind is takes = word-cut text begun word behind is ∙ rw takes refl

-- ---- what is reached

module _ (text : List ℕ) where
  -- the settings of the text are these, and then those of the pieces that are left
  record Behind (own : List Setting) (begun : Opt) (left : List Piece) : Type 0 where
    most : ℕ
    room : length left < most
    settings : (text_settings text).settings ≡ own ++ (settings_from most text begun left).settings
    refusal : (text_settings text).refusal ≡ (settings_from most text begun left).refusal

  -- they go on after one more
  behind-next : (own : List Setting) (begun : Opt) (pieces left : List Piece) (setting : Setting) → setting_cut text begun pieces ≡ First setting left
      → length left < length pieces → Behind own begun pieces → Behind (own ++ setting ∷ []) setting.option left
  unfolding with_setting settings_from
  behind-next own begun pieces left setting is short b = by b.most b.room b.settings b.refusal
    where
      by : (most : ℕ) → length pieces < most
          → (text_settings text).settings ≡ own ++ (settings_from most text begun pieces).settings
          → (text_settings text).refusal ≡ (settings_from most text begun pieces).refusal → Behind (own ++ setting ∷ []) setting.option left
      by zero room settings refusal = absurd (omega (arith, room))
      by (suc most) room settings refusal =
          let cut : settings_from (suc most) text begun pieces ≡ with_setting setting (settings_from most text setting.option left) =
          rw (is, settings_from) refl in
          record {
            most = most;
            room = omega (arith, room, short);
            settings = rw append_assoc (rw cut at settings);
            refusal = rw cut at refusal;
          }

  reached : {own : List Setting} {begun : Opt} {left : List Piece} → Reaches text own begun left → Behind own begun left
  unfolding text_settings
  reached start = record { most = suc (length (text_pieces text)); room = omega arith; settings = refl; refusal = refl }
  reached (next own begun word behind given left at kind reads) =
      let found = reads-cut text (option_at word.bytes) (takes_of (option_at word.bytes)) word.line behind given left reads in
      let cut = word-cut text begun word behind kind ∙ found.0 in
      behind-next own begun (Ok word ∷ behind) left _ cut (let e = found.1 in omega (arith, e)) (reached at)

  -- settings that are reached are the first of the text's
  pub read-before : {own : List Setting} {begun : Opt} {left : List Piece} → Reaches text own begun left
      → (more : List Setting) × ((text_settings text).settings ≡ own ++ more)
  read-before at = let b = reached at in (_, b.settings)

  -- a refusal that is reached is that of the text's settings, which end there
  pub refused-read : {own : List Setting} {begun : Opt} (left : List Piece) (r : ConfRefusal) → Reaches text own begun left
      → setting_cut text begun left ≡ Refused r → ((text_settings text).settings ≡ own) × ((text_settings text).refusal ≡ Some r)
  unfolding settings_from
  refused-read {own} {begun} left r at is = let b = reached at in by b.most b.room b.settings b.refusal
    where
      by : (most : ℕ) → length left < most
          → (text_settings text).settings ≡ own ++ (settings_from most text begun left).settings
          → (text_settings text).refusal ≡ (settings_from most text begun left).refusal
          → ((text_settings text).settings ≡ own) × ((text_settings text).refusal ≡ Some r)
      by zero room settings refusal = absurd (omega (arith, room))
      by (suc most) room settings refusal =
          let cut : settings_from (suc most) text begun left ≡ record { settings = []; refusal = Some r } = rw (is, settings_from) refl in
          ((rw cut at settings) ∙ append-nil own, rw cut at refusal)

  -- so are all of them, once no piece is left
  pub whole-read : {own : List Setting} → AreSettings text own → ((text_settings text).settings ≡ own) × ((text_settings text).refusal ≡ None)
  unfolding settings_from setting_cut
  whole-read {own} (begun, at) = let b = reached at in by b.most b.room b.settings b.refusal
    where
      by : (most : ℕ) → length {A = Piece} [] < most
          → (text_settings text).settings ≡ own ++ (settings_from most text begun []).settings
          → (text_settings text).refusal ≡ (settings_from most text begun []).refusal
          → ((text_settings text).settings ≡ own) × ((text_settings text).refusal ≡ None)
      by zero room settings refusal = absurd (omega (arith, room))
      by (suc most) room settings refusal = (settings ∙ append-nil own, refusal)

  -- ---- each refusal of the settings is one that is reached

  -- what comes first in pieces, and what it is by the relation
  data Seen (begun : Opt) (left : List Piece) : Type 0 where
    ended : left ≡ [] → setting_cut text begun left ≡ End → Seen begun left
    refused :
        (r : ConfRefusal) → setting_cut text begun left ≡ Refused r
        → ((own : List Setting) → Reaches text own begun left → Fails text (place 1 (length own) (reading_test r.reason)) r) → Seen begun left
    goes :
        (setting : Setting) (rest : List Piece) → setting_cut text begun left ≡ First setting rest → length rest < length left
        → ((own : List Setting) → Reaches text own begun left → Reaches text (own ++ setting ∷ []) setting.option rest) → Seen begun left

  seen : (begun : Opt) (left : List Piece) → Seen begun left
  unfolding setting_cut text_refusal is_equals
  seen begun [] = ended refl refl
  seen begun (Err fault ∷ behind) = refused (text_refusal text begun fault) refl (λ own at. faulty own begun begun _ fault at (in_word fault behind))
  seen begun (Ok word ∷ behind) = by_kind word.kind refl
    where
      no_option : IsNoOption word → Seen begun (Ok word ∷ behind)
      no_option none = refused _ (unknown-cut text begun word behind none) (λ own at. unknown own begun word behind at none)

      goes-on : word.kind ≡ Word → (given : Given) (rest : List Piece) → Reads (takes_of (option_at word.bytes)) behind given rest
          → Seen begun (Ok word ∷ behind)
      goes-on is given rest reads =
          let found = reads-cut text (option_at word.bytes) (takes_of (option_at word.bytes)) word.line behind given rest reads in
          goes _ rest (word-cut text begun word behind is ∙ found.0) (let e = found.1 in omega (arith, e))
          (λ own at. next own begun word behind given rest at is reads)

      meets : (o : Opt) (fault : TextFault) → MeetsFault begun (Ok word ∷ behind) o fault → Seen begun (Ok word ∷ behind)
      meets o fault m = refused (text_refusal text o fault) (meets-cut text begun _ o fault m) (λ own at. faulty own begun o _ fault at m)

      IsTaken : Type 0
      IsTaken = (word.kind ≡ Word) × (takes_value (takes_of (option_at word.bytes)) ≡ true)

      not_sign : (one kind : TokenKind) → one ≡ kind → is_equals kind ≡ false → one ≢ Equals
      not_sign one Word other none e = let f = sym other ∙ e in absurd (cc)
      not_sign one Quoted other none e = let f = sym other ∙ e in absurd (cc)
      not_sign one Equals other none e = absurd (cc)

      by_value : IsTaken → (sign : Token) → sign.kind ≡ Equals → (token : Token) (more : List Piece) → behind ≡ Ok sign ∷ Ok token ∷ more
          → (kind : TokenKind) → token.kind ≡ kind → Seen begun (Ok word ∷ behind)
      by_value (is, value) sign equals token more same Equals other = goes-on is Sign more (rw same (two_signs _ sign token more value equals other))
      by_value (is, value) sign equals token more same Word other =
          goes-on is (Value (plain_bytes token.kind token.bytes)) more (rw same (valued _ sign token more value equals (not_sign _ _ other refl)))
      by_value (is, value) sign equals token more same Quoted other =
          goes-on is (Value (plain_bytes token.kind token.bytes)) more (rw same (valued _ sign token more value equals (not_sign _ _ other refl)))

      by_sign : IsTaken → (sign : Token) (more : List Piece) → behind ≡ Ok sign ∷ more → sign.kind ≡ Equals → Seen begun (Ok word ∷ behind)
      by_sign (is, value) sign [] same equals = goes-on is Sign [] (rw same (sign_ends _ sign value equals))
      by_sign taken sign (Err fault ∷ more) same equals = meets (option_at word.bytes) fault (rw same (in_value word sign fault more taken equals))
      by_sign taken sign (Ok token ∷ more) same equals = by_value taken sign equals token more same _ refl

      by_token : IsTaken → (token : Token) (more : List Piece) → behind ≡ Ok token ∷ more → (kind : TokenKind) → token.kind ≡ kind
          → Seen begun (Ok word ∷ behind)
      by_token taken token more same Equals equals = by_sign taken token more same equals
      by_token (is, value) token more same Word other = goes-on is Bare more (rw same (unsigned _ token more value (not_sign _ _ other refl)))
      by_token (is, value) token more same Quoted other = goes-on is Bare more (rw same (unsigned _ token more value (not_sign _ _ other refl)))

      by_behind : IsTaken → (pieces : List Piece) → behind ≡ pieces → Seen begun (Ok word ∷ behind)
      by_behind (is, value) [] same = goes-on is Bare [] (rw same (ends _ value))
      by_behind taken (Err fault ∷ more) same = meets (option_at word.bytes) fault (rw same (in_sign word fault more taken))
      by_behind taken (Ok token ∷ more) same = by_token taken token more same _ refl

      by_flag : word.kind ≡ Word → takes_of (option_at word.bytes) ≡ options.Nothing → (sign : Bool) → has_sign behind ≡ sign → Seen begun (Ok word ∷ behind)
      by_flag is takes true sign = goes-on is Sign behind (rw takes (flag_sign behind sign))
      by_flag is takes false sign = goes-on is Bare behind (rw takes (flag behind sign))

      by_takes : word.kind ≡ Word → (takes : Takes) → takes_of (option_at word.bytes) ≡ takes → Seen begun (Ok word ∷ behind)
      by_takes is options.Unknown same = no_option (inr same)
      by_takes is options.LeftOut same = refused _ (left_out-cut text begun word behind is same) (λ own at. left_out own begun word behind at is same)
      by_takes is options.Nothing same = by_flag is same _ refl
      by_takes is takes same = by_behind (is, rw same refl) behind refl

      by_kind : (kind : TokenKind) → word.kind ≡ kind → Seen begun (Ok word ∷ behind)
      by_kind Word is = by_takes is _ refl
      by_kind Quoted is = no_option (inl (λ e. let f = sym is ∙ e in absurd (cc)))
      by_kind Equals is = no_option (inl (λ e. let f = sym is ∙ e in absurd (cc)))

  -- the settings end with the pieces, or where a test fails
  data Ended (own : List Setting) : Option ConfRefusal → Type 0 where
    whole : AreSettings text own → Ended own None
    stopped :
        (r : ConfRefusal) (begun : Opt) (left : List Piece) → Reaches text own begun left
        → Fails text (place 1 (length own) (reading_test r.reason)) r → Ended own (Some r)

  ends-behind : (most : ℕ) (own : List Setting) (begun : Opt) (left : List Piece) → Reaches text own begun left → length left < most
      → Ended (own ++ (settings_from most text begun left).settings) (settings_from most text begun left).refusal
  unfolding settings_from with_setting
  ends-behind zero own begun left at room = absurd (omega (arith, room))
  ends-behind (suc most) own begun left at room =
      by (seen begun left) (λ setting rest short reaches. ends-behind most (own ++ setting ∷ []) setting.option rest reaches (omega (arith, room, short)))
    where
      by : Seen begun left
          → ((setting : Setting) (rest : List Piece) → length rest < length left → Reaches text (own ++ setting ∷ []) setting.option rest
          → Ended ((own ++ setting ∷ []) ++ (settings_from most text setting.option rest).settings) (settings_from most text setting.option rest).refusal)
          → Ended (own ++ (settings_from (suc most) text begun left).settings) (settings_from (suc most) text begun left).refusal
      by (ended none cut) more =
          let end : settings_from (suc most) text begun left ≡ record { settings = []; refusal = None } = rw (cut, settings_from) refl in
          rw (end, append-nil own) (whole (begun, subst (λ l. Reaches text own begun l) none at))
      by (refused r cut fails) more =
          let end : settings_from (suc most) text begun left ≡ record { settings = []; refusal = Some r } = rw (cut, settings_from) refl in
          rw (end, append-nil own) (stopped r begun left at (fails own at))
      by (goes setting rest cut short on) more =
          let step : settings_from (suc most) text begun left ≡ with_setting setting (settings_from most text setting.option rest) =
          rw (cut, settings_from) refl in
          rw step (rw append_assoc at (more setting rest short (on own at)))

  all-ended : Ended (text_settings text).settings (text_settings text).refusal
  unfolding text_settings
  all-ended = ends-behind (suc (length (text_pieces text))) [] options.Other (text_pieces text) start (omega arith)

  -- all settings of the text are reached
  pub all-reached : (begun : Opt) × (left : List Piece) × Reaches text (text_settings text).settings begun left
  all-reached = by all-ended
    where
      by : {o : Option ConfRefusal} → Ended (text_settings text).settings o
          → (begun : Opt) × (left : List Piece) × Reaches text (text_settings text).settings begun left
      by (whole (begun, at)) = (begun, [], at)
      by (stopped r begun left at fails) = (begun, left, at)

  -- without a refusal they are all there are
  pub all-read : (text_settings text).refusal ≡ None → AreSettings text (text_settings text).settings
  all-read none = by (text_settings text).refusal none all-ended
    where
      by : (o : Option ConfRefusal) → o ≡ None → Ended (text_settings text).settings o → AreSettings text (text_settings text).settings
      by None is (whole all) = all
      by (Some r) is end = absurd (cc)

  -- and a refusal is of a test that fails
  pub read-fails : (r : ConfRefusal) → (text_settings text).refusal ≡ Some r
      → Fails text (place 1 (length (text_settings text).settings) (reading_test r.reason)) r
  read-fails r is = by (text_settings text).refusal is all-ended
    where
      by : (o : Option ConfRefusal) → o ≡ Some r → Ended (text_settings text).settings o
          → Fails text (place 1 (length (text_settings text).settings) (reading_test r.reason)) r
      by None same end = absurd (cc)
      by (Some other) same (stopped s begun left at fails) =
          let e : other ≡ r = cc in subst (λ q. Fails text (place 1 (length (text_settings text).settings) (reading_test q.reason)) q) e fails
