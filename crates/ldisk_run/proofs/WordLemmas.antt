-- Paths that arguments give.
use Rattle.std.proofs.Common.{◌≡◌, ◌≢◌, ◌==◌, ℕ, Bool, true, false, List, [], ◌∷◌, Some, refl, sym, ◌∙◌}
use Rattle.std.specs.List.{list_any}
use Rattle.std.proofs.lemmas.List.Elements.{All-nil, All-cons}
use Rattle.std.proofs.lemmas.Bool.{eq-eqb}
use Rattle.lilo_model.specs.Words.{is_path}
use Rattle.lilo_model.specs.LdiskWords.{is_volume_path}
use Rattle.minix_names.specs.Component.{HasNoZero}
use Rattle.ldisk_model.specs.Arguments as model
use Rattle.lilo_model.specs.Devices.{Device}
use Rattle.ldisk_model.specs.Arguments.{Command, Asked, IsAsked, IsPathWord, asked_at}
use Rattle.ldisk_words.proofs.GrammarLemmas.{asked_law}
use Rattle.ldisk_run.specs.Run.{HasPlainPath}

no-zero : (word : List ℕ) → list_any (λ byte. byte == 0) word ≡ false → HasNoZero word
no-zero [] is = All-nil (λ byte. byte ≢ 0)
no-zero (first ∷ word) is = by (first == 0) refl (no-zero word)
  where
    by : (zero : Bool) → (first == 0) ≡ zero → (list_any (λ byte. byte == 0) word ≡ false → HasNoZero word) → HasNoZero (first ∷ word)
    by true says rest = absurd (let no = rw says at is in cc)
    by false says rest = All-cons (λ byte. byte ≢ 0) first word (λ same. let yes = eq-eqb first 0 same in let no = sym says ∙ yes in cc) (rest (rw says at is))

path-plain : (path : List ℕ) → is_volume_path path ≡ true → HasNoZero path
unfolding is_volume_path
path-plain path is = by (is_path path) (list_any (λ byte. byte == 0) path) refl refl
  where
    by : (one other : Bool) → is_path path ≡ one → list_any (λ byte. byte == 0) path ≡ other → HasNoZero path
    by true false says none = no-zero path none
    by true true says some = absurd (let no = rw (says, some) at is in cc)
    by false other says some = absurd (let no = rw says at is in cc)

by-word : (word : List ℕ) (command : Device → List ℕ → Command) → IsPathWord word command → (device : Device) (path : List ℕ) → HasNoZero path → HasPlainPath (command device path)
by-word word command model.put device path none = none
by-word word command model.get device path none = tt
by-word word command model.ls device path none = tt
by-word word command model.rm device path none = tt
by-word word command model.mkdir device path none = none

plain : (words : List (List ℕ)) (asked : Asked) → IsAsked words asked → HasPlainPath asked.command
plain words asked (model.make image digits sectors rest parts number few are) = tt
plain words asked (model.mkfs image name digits device kind inodes named number) = tt
plain words asked (model.ln image name path target device named good) = path-plain path good
plain words asked (model.reclaim image name device named) = tt
plain words asked (model.on_path word image name path device command is named good) = by-word word command is device path (path-plain path good)

-- what arguments ask for has such a path
pub plain_path : (words : List (List ℕ)) (asked : Asked) → asked_at words ≡ Some asked → HasPlainPath asked.command
plain_path words asked is = plain words asked ((asked_law words asked).0 is)
