-- The text that is walked in place of a link's name and what comes after it.
use Rattle.std.specs.Prelude.{ℕ, ◌+◌, nat_le, Bool, List, ◌++◌, length, take, Result, Ok}
use Rattle.lilo_model.specs.Checks.{◌>>=◌, require, with_fault}
use Rattle.lilo_model.specs.MinixLayout.{Super, Inode}
use Rattle.lilo_model.specs.MinixParts.{Parts, content_at}
use Rattle.lilo_model.specs.MinixFind.{TreeFault, PathTooLong, Zone, begins_with_slash, text_limit}
use Rattle.minix_tree.specs.declared.find.NextText.{NextText}

pub record LinkText : Type 0 where
  -- whether it is walked from the root
  pub from_root : Bool
  pub text : List ℕ

-- it, with the text after the link
abbrev pub text_with : List ℕ → List ℕ → LinkText
text_with rest text = record { from_root = begins_with_slash text; text = text ++ rest }

-- the text of a link and the one after it, where they aren't too long
abbrev pub link_text : Super → Parts → Inode → List ℕ → Result LinkText TreeFault
link_text super parts link rest =
    require (nat_le (link.size + length rest) text_limit) PathTooLong
    >>= λ a. with_fault Zone (content_at super parts link) >>= λ text. Ok (text_with rest text)

-- what was written, by its length
abbrev pub next_view : List ℕ → NextText → LinkText
next_view bytes next = record { from_root = next.from_root; text = take next.length bytes }
