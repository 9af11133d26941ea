-- Tables after one more thing was met.
use Rattle.std.proofs.Common.{◌≡◌, ◌≢◌, ℕ, suc, ◌+◌, ◌==◌, ◌&&◌, ◌||◌, nat_eq, cond, Bool, true, false, not, List, [], ◌∷◌, length, filter, bytes_eq, if◌then◌else◌, Option, Some, None, Result, Ok, Err, refl, sym, ◌∙◌, ap, subst, arith, eq-eqb}
use Rattle.std.specs.Bool.{OnTrue}
use Rattle.std.specs.Global.{Vec}
use Rattle.std.specs.HashMap.{get}
use Rattle.std.specs.HashSet.{PutsKey, contains_by}
use Rattle.std.specs.Option.{option_or, option_map}
use Rattle.std.specs.List.{list_any}
use Rattle.std.proofs.lemmas.Bool.{eqb-true, ne_eqb}
use Rattle.lilo_model.specs.MinixParts.{ZoneFault}
use Rattle.lilo_model.specs.MinixEntries.{Entry, is_dots}
use Rattle.lilo_model.specs.MinixWalk.{Visit}
use Rattle.lilo_model.specs.MinixSurvey.{Spot, Met, Refers, Reaches, Stands, Ends, was_reached, owner, names_of, has_name, is_indirect}
use Rattle.minix_survey.specs.declared.tables.Tables.{Tables}
use Rattle.std.proofs.lemmas.List.Sorted.{list_any-IsPermutation}
use Rattle.minix_survey.specs.declared.findings.Owner.{Owner}
use Rattle.minix_survey.specs.Findings.{owner_in, names_in, indirect_in, is_indirect_by, owner_with}
use Rattle.minix_survey.specs.Tables.{Tells, Enters, Renames, is_name, reached_in, entry_in}

or_cond : (a b : Bool) → cond a true b ≡ (a || b)
or_cond true b = refl
or_cond false b = refl

option_or-none : {A : Type 0} (first : Option A) → option_or first None ≡ first
option_or-none None = refl
option_or-none (Some value) = refl

-- an inode is reached
pub tells-reaches : (old new : Tables) (spot : Spot) → ((inode : ℕ) → reached_in new inode ≡ cond (nat_eq spot.inode inode) true (reached_in old inode))
    → new.entries ≡ old.entries → new.found ≡ old.found → (met : List Met) → Tells old met → Tells new (Reaches spot ∷ met)
unfolding was_reached owner names_of has_name is_indirect
tells-reaches old new spot updates entries found met tells = record {
  reached = λ inode. updates inode ∙ or_cond (nat_eq spot.inode inode) (reached_in old inode) ∙ ap (λ b. nat_eq spot.inode inode || b) (tells.reached inode);
  entries = λ directory name. rw entries (tells.entries directory name);
  found = record {
    owner = λ zone. rw found (tells.found.owner zone ∙ sym (option_or-none (owner met zone)));
    names = λ inode. rw found (tells.found.names inode);
    indirect = λ zone. rw found (tells.found.indirect zone);
  };
}

-- the end of a directory changes nothing
pub tells-ends : (tables : Tables) (directory : Spot) (places : ℕ) (met : List Met) → Tells tables met → Tells tables (Ends directory places ∷ met)
unfolding was_reached owner names_of has_name is_indirect
tells-ends tables directory places met tells = record {
  reached = tells.reached;
  entries = tells.entries;
  found = record {
    owner = λ zone. tells.found.owner zone ∙ sym (option_or-none (owner met zone));
    names = tells.found.names;
    indirect = tells.found.indirect;
  };
}

or-false : (b : Bool) → (b || false) ≡ b
or-false true = refl
or-false false = refl

module _ (old new : Tables) (inode : ℕ) (visit : Visit)
    (updates : (zone : ℕ) → get nat_eq new.found.owners zone ≡ cond (nat_eq visit.zone zone) (Some (owner_with inode visit.indirect)) (get nat_eq old.found.owners zone))
    (free : get nat_eq old.found.owners visit.zone ≡ None) (met : List Met) (tells : Tells old met) where
  is-free : (zone : ℕ) → nat_eq visit.zone zone ≡ true → get nat_eq old.found.owners zone ≡ None
  is-free zone same = subst (λ n. get nat_eq old.found.owners n ≡ None) (eqb-true visit.zone zone same) free

  owner-by : (zone : ℕ) (here : Bool) → nat_eq visit.zone zone ≡ here → owner_in new.found zone ≡ option_or (owner met zone) (if nat_eq visit.zone zone then Some inode else None)
  owner-by zone true here =
      let none : owner met zone ≡ None = sym (tells.found.owner zone) ∙ ap (λ o. option_map (λ (w : Owner). w.inode) o) (is-free zone here) in
      ap (λ o. option_map (λ (w : Owner). w.inode) o) (updates zone) ∙ rw (here, none) refl
  owner-by zone false here =
      ap (λ o. option_map (λ (w : Owner). w.inode) o) (updates zone) ∙ rw here (tells.found.owner zone ∙ sym (option_or-none (owner met zone)))

  indirect-by : (zone : ℕ) (here : Bool) → nat_eq visit.zone zone ≡ here → indirect_in new.found zone ≡ ((nat_eq visit.zone zone && visit.indirect) || is_indirect met zone)
  indirect-by zone true here =
      let none : is_indirect met zone ≡ false = sym (tells.found.indirect zone) ∙ ap is_indirect_by (is-free zone here) in
      ap is_indirect_by (updates zone) ∙ rw (here, none) (sym (or-false visit.indirect))
  indirect-by zone false here = ap is_indirect_by (updates zone) ∙ rw here (tells.found.indirect zone)

  -- a zone that nothing referred to gets an owner
  pub tells-refers : new.found.names ≡ old.found.names → new.reached ≡ old.reached → new.entries ≡ old.entries → Tells new (Refers inode (Ok visit) ∷ met)
  unfolding was_reached owner names_of has_name is_indirect
  tells-refers names reached entries = record {
    reached = λ number. rw reached (tells.reached number);
    entries = λ directory name. rw entries (tells.entries directory name);
    found = record {
      owner = λ zone. owner-by zone _ refl;
      names = λ number. rw names (tells.found.names number);
      indirect = λ zone. indirect-by zone _ refl;
    };
  }

-- a name that is new to a directory
pub enters-by : (old new : Tables) (directory : ℕ) (name : List ℕ) (key : ℕ × Vec ℕ) (added : Bool) → key.0 ≡ directory → key.1.items ≡ name
    → PutsKey old.entries new.entries key added → new.reached ≡ old.reached → new.found ≡ old.found → OnTrue added (Enters old new directory name)
enters-by old new directory name key true here named puts reached found = record {
  entries = λ other text.
      sym (list_any-IsPermutation (is_name other text) _ _ puts) ∙ ap (λ d. (nat_eq d other && bytes_eq key.1.items text) || entry_in old other text) here
      ∙ ap (λ n. (nat_eq directory other && bytes_eq n text) || entry_in old other text) named;
  reached = reached;
  found = found;
}
enters-by old new directory name key false here named puts reached found = tt

and-false : (b : Bool) → (b && false) ≡ false
and-false true = refl
and-false false = refl

and-true : (b : Bool) → (b && true) ≡ b
and-true true = refl
and-true false = refl

module _ (old mid : Tables) (spot : Spot) (place : ℕ) (what : Entry) (enters : Enters old mid spot.inode what.name) (met : List Met) (tells : Tells old met) where
  -- an entry whose name is `.` or `..` is no name of its inode
  pub tells-dots : is_dots what.name ≡ true → Tells mid (Stands spot place what ∷ met)
  unfolding was_reached owner names_of has_name is_indirect
  tells-dots dots = record {
    reached = λ inode. rw enters.reached (tells.reached inode);
    entries = λ directory name. enters.entries directory name ∙ ap (λ b. (nat_eq spot.inode directory && bytes_eq what.name name) || b) (tells.entries directory name);
    found = record {
      owner = λ zone. rw enters.found (tells.found.owner zone ∙ sym (option_or-none (owner met zone)));
      names = λ inode. rw (enters.found, dots, and-false (nat_eq what.inode inode)) (tells.found.names inode);
      indirect = λ zone. rw enters.found (tells.found.indirect zone);
    };
  }

  module _ (new : Tables) (renames : Renames mid new what.inode (names_in old.found what.inode + 1)) (plain : is_dots what.name ≡ false) where
    names-by : (inode : ℕ) (here : Bool) → nat_eq what.inode inode ≡ here → names_in new.found inode ≡ names_of (Stands spot place what ∷ met) inode
    unfolding names_of
    names-by inode true here =
        let same : what.inode ≡ inode = eqb-true what.inode inode here in
        let count : names_in new.found inode ≡ names_in old.found inode + 1 =
        subst (λ n. names_in new.found n ≡ names_in old.found n + 1) same renames.here in
        let was : names_in old.found inode ≡ names_of met inode = tells.found.names inode in
        rw (here, plain) (omega (arith, count, was))
    names-by inode false here =
        let apart : inode ≢ what.inode = λ e. let t = eq-eqb what.inode inode (sym e) in cc in
        rw here (renames.others inode apart ∙ ap (λ f. names_in f inode) enters.found ∙ tells.found.names inode)

    -- another entry is one more name of its inode
    pub tells-named : Tells new (Stands spot place what ∷ met)
    unfolding was_reached owner has_name is_indirect
    tells-named = record {
      reached = λ inode. rw (renames.reached, enters.reached) (tells.reached inode);
      entries = λ directory name.
          ap (λ set. contains_by (is_name directory name) set) renames.entries ∙ enters.entries directory name
          ∙ ap (λ b. (nat_eq spot.inode directory && bytes_eq what.name name) || b) (tells.entries directory name);
      found = record {
        owner = λ zone. ap (λ m. option_map (λ (w : Owner). w.inode) (get nat_eq m zone)) (renames.owners ∙ ap (λ f. f.owners) enters.found)
            ∙ tells.found.owner zone ∙ sym (option_or-none (owner met zone));
        names = λ inode. names-by inode _ refl;
        indirect = λ zone. ap (λ m. is_indirect_by (get nat_eq m zone)) (renames.owners ∙ ap (λ f. f.owners) enters.found) ∙ tells.found.indirect zone;
      };
    }
