-- The end of a walk and what Find leads to, on any volume.
use Rattle.std.proofs.Common.{◌≡◌, ℕ, zero, suc, ◌+◌, ◌&&◌, ◌||◌, Bool, true, false, not, nat_le, if◌then◌else◌, List, [], ◌∷◌, ◌++◌, length, Result, Ok, Err, refl, subst}
use Rattle.lilo_model.specs.Checks.{◌>>=◌, require, with_fault}
use Rattle.lilo_model.specs.MinixLayout.{Super}
use Rattle.lilo_model.specs.MinixParts.{Parts, is_link, content_at}
use Rattle.lilo_model.specs.MinixFind as model
use Rattle.lilo_model.specs.MinixFind.{TreeFault, NotFound, NotDirectory, NotFile, TooManyLinks, BadEntry, PathTooLong, Zone, Component, components, child, readable, is_last, walk, begins_with_slash, end_of, through_link, find_through, find_path, text_limit, link_limit}
use Rattle.minix_tree.specs.LinkText.{text_with}
use Rattle.minix_names.specs.Ends.{PathEnd, At, Misses, TextEnd, Ends, Meets, Lacks, found_or_last, stop_at, text_end, last_end, start_of, end_through, ends_through, path_end}

module _ (super : Super) (parts : Parts) where
  abbrev WalksLike : Result TextEnd TreeFault → Result model.Walked TreeFault → Type 0
  WalksLike (Ok (Ends inode)) (Ok (model.Ends other)) = inode ≡ other
  WalksLike (Ok (Ends inode)) (Ok (model.Meets holder link rest)) = ⊥
  WalksLike (Ok (Ends inode)) (Err fault) = ⊥
  WalksLike (Ok (Meets directory link rest)) (Ok (model.Ends inode)) = ⊥
  WalksLike (Ok (Meets directory link rest)) (Ok (model.Meets holder other text)) = (directory ≡ holder) × (link ≡ other) × (rest ≡ text)
  WalksLike (Ok (Meets directory link rest)) (Err fault) = ⊥
  WalksLike (Ok (Lacks directory name)) (Ok walked) = ⊥
  WalksLike (Ok (Lacks directory name)) (Err fault) = Unit {0}
  WalksLike (Err fault) (Ok walked) = ⊥
  WalksLike (Err fault) (Err other) = Unit {0}

  abbrev pub EndsLike : Result PathEnd TreeFault → Result ℕ TreeFault → Type 0
  EndsLike (Ok (At inode)) (Ok other) = inode ≡ other
  EndsLike (Ok (At inode)) (Err fault) = ⊥
  EndsLike (Ok (Misses directory name)) (Ok inode) = ⊥
  EndsLike (Ok (Misses directory name)) (Err fault) = Unit {0}
  EndsLike (Err fault) (Ok inode) = ⊥
  EndsLike (Err fault) (Err other) = Unit {0}

  turn : (directory inode : ℕ) (component : Component) (link : Bool) (on : ℕ → Result TextEnd TreeFault) (walk_on : Result model.Walked TreeFault)
      → WalksLike (on inode) walk_on
      → WalksLike (if link then Ok (Meets directory inode component.rest) else on inode) (if link && true then Ok (model.Meets directory inode component.rest) else walk_on)
  turn directory inode component true on walk_on further = (refl, refl, refl)
  turn directory inode component false on walk_on further = further

  refused : (directory : ℕ) (component : Component) (is_end : Bool) (fault other : TreeFault) (on : ℕ → Result TextEnd TreeFault)
      → WalksLike (found_or_last is_end (Err fault) >>= stop_at parts directory component on) (Err other)
  refused directory component true (NotFound position) other on = tt
  refused directory component false (NotFound position) other on = tt
  refused directory component is_end (NotDirectory position) other on = tt
  refused directory component is_end NotFile other on = tt
  refused directory component is_end TooManyLinks other on = tt
  refused directory component is_end (BadEntry number) other on = tt
  refused directory component is_end PathTooLong other on = tt
  refused directory component is_end (Zone fault) other on = tt

  after-child : (directory position : ℕ) (component : Component) (others : List Component)
      → ((inode : ℕ) → WalksLike (text_end super parts inode (position + 1) others) (walk super parts true inode (position + 1) others))
      → (found : Result ℕ TreeFault)
      → WalksLike
      (found_or_last (is_last others) found >>= stop_at parts directory component (λ inode. text_end super parts inode (position + 1) others))
      (found >>= λ inode. if is_link (parts.node inode) && (true || not (is_last others)) then Ok (model.Meets directory inode component.rest) else walk super parts true inode (position + 1) others)
  after-child directory position component others on (Ok inode) =
      turn directory inode component (is_link (parts.node inode)) (λ inode. text_end super parts inode (position + 1) others) _ (on inode)
  after-child directory position component others on (Err fault) =
      refused directory component (is_last others) fault fault (λ inode. text_end super parts inode (position + 1) others)

  walk-like : (directory position : ℕ) (others : List Component) → WalksLike (text_end super parts directory position others) (walk super parts true directory position others)
  walk-like directory position [] = refl
  walk-like directory position (component ∷ others) =
      after-child directory position component others (λ inode. walk-like inode (position + 1) others) (child super parts directory position component.name)

  end-like : (one : Result TextEnd TreeFault) (other : Result model.Walked TreeFault) → WalksLike one other → EndsLike (one >>= last_end) (other >>= end_of)
  end-like (Ok (Ends inode)) (Ok (model.Ends other)) h = h
  end-like (Ok (Ends inode)) (Ok (model.Meets holder link rest)) h = absurd h
  end-like (Ok (Ends inode)) (Err fault) h = absurd h
  end-like (Ok (Meets directory link rest)) (Ok (model.Ends inode)) h = absurd h
  end-like (Ok (Meets directory link rest)) (Ok (model.Meets holder other text)) h = tt
  end-like (Ok (Meets directory link rest)) (Err fault) h = absurd h
  end-like (Ok (Lacks directory name)) (Ok walked) h = absurd h
  end-like (Ok (Lacks directory name)) (Err fault) h = tt
  end-like (Err fault) (Ok walked) h = absurd h
  end-like (Err fault) (Err other) h = tt

  both-require : (test : Bool) (fault other : TreeFault) (one : Result PathEnd TreeFault) (found : Result ℕ TreeFault) → EndsLike one found
      → EndsLike (require test fault >>= λ a. one) (require test other >>= λ a. found)
  both-require true fault other one found h = h
  both-require false fault other one found h = tt

  module _ (further : ℕ → List ℕ → Result PathEnd TreeFault) (find : ℕ → List ℕ → Result ℕ TreeFault)
      (on : (directory : ℕ) (text : List ℕ) → EndsLike (further directory text) (find directory text)) where
    text-like : (directory : ℕ) (rest : List ℕ) (few : Bool) (text : Result (List ℕ) TreeFault)
        → EndsLike ((require few PathTooLong >>= λ a. text >>= λ t. Ok (text_with rest t)) >>= λ next. further (start_of directory next) next.text)
        (require few PathTooLong >>= λ a. text >>= λ t. find (if begins_with_slash t then 1 else directory) (t ++ rest))
    text-like directory rest true (Ok text) = on (if begins_with_slash text then 1 else directory) (text ++ rest)
    text-like directory rest true (Err fault) = tt
    text-like directory rest false text = tt

    meets-like : (directory link holder other : ℕ) (rest text : List ℕ) → directory ≡ holder → link ≡ other → rest ≡ text
        → EndsLike (end_through super parts further (Meets directory link rest)) (through_link super parts find (model.Meets holder other text))
    meets-like directory link holder other rest text one two three =
        let F : ℕ → ℕ → List ℕ → Type 0 = λ d l r. EndsLike (end_through super parts further (Meets directory link rest)) (through_link super parts find (model.Meets d l r)) in
        let so : F directory link rest = text-like directory rest (nat_le ((parts.node link).size + length rest) text_limit) (with_fault Zone (content_at super parts (parts.node link))) in
        subst (λ (d : ℕ). F d other text) one (subst (λ (l : ℕ). F directory l text) two (subst (λ (r : List ℕ). F directory link r) three so))

    through-like : (one : Result TextEnd TreeFault) (other : Result model.Walked TreeFault) → WalksLike one other
        → EndsLike (one >>= end_through super parts further) (other >>= through_link super parts find)
    through-like (Ok (Ends inode)) (Ok (model.Ends other)) h = h
    through-like (Ok (Ends inode)) (Ok (model.Meets holder link rest)) h = absurd h
    through-like (Ok (Ends inode)) (Err fault) h = absurd h
    through-like (Ok (Meets directory link rest)) (Ok (model.Ends inode)) h = absurd h
    through-like (Ok (Meets directory link rest)) (Ok (model.Meets holder other text)) h = meets-like directory link holder other rest text h.0 h.1 h.2
    through-like (Ok (Meets directory link rest)) (Err fault) h = absurd h
    through-like (Ok (Lacks directory name)) (Ok walked) h = absurd h
    through-like (Ok (Lacks directory name)) (Err fault) h = tt
    through-like (Err fault) (Ok walked) h = absurd h
    through-like (Err fault) (Err other) h = tt

  ends-like : (more directory : ℕ) (text : List ℕ) → EndsLike (ends_through super parts more directory text) (find_through super parts true more directory text)
  ends-like zero directory text = end-like _ _ (walk-like directory 0 (components text))
  ends-like (suc more) directory text =
      through-like (ends_through super parts more) (find_through super parts true more) (λ at next. ends-like more at next) _ _ (walk-like directory 0 (components text))

  pub path-like : (text : List ℕ) → EndsLike (path_end super parts text) (find_path super parts true text)
  unfolding path_end find_path
  path-like text =
      both-require (begins_with_slash text) _ _ _ _
      (both-require (nat_le (length text) text_limit) _ _ _ _
      (root-like (readable super parts 1)))
    where
      root-like : (root : Result ℕ TreeFault) → EndsLike (root >>= λ c. ends_through super parts link_limit 1 text) (root >>= λ c. find_through super parts true link_limit 1 text)
      root-like (Ok root) = ends-like link_limit 1 text
      root-like (Err fault) = tt
