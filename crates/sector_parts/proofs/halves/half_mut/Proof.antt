-- `half_mut` lends bytes of an array as a sector. The borrow checker does not cover the raw pointer that it
-- makes, so this proof walks the code by hand.
use mathlib.Core.Path.{◌≡◌, refl, sym, ap, subst}
use mathlib.Core.Bool.{Bool, true, false}
use Prim.Native.Nat.{ℕ, ◌+◌, ◌*◌, ◌^◌, ◌<◌, ◌≤◌}
use mathlib.Core.List.{List, [], ◌∷◌}
use lib.Dec.{lit<, lit≤}
use seplogic.Ra.Ura.{Ura}
use mir.Syntax.{Args, Body, Fn, named, a_number, w64, seq, assign, place, rv_opd, copy, return, cast, unsigned}
use mir.MapTy.{inst_fn}
use mir.Val.{Val, vptr, vint, vbool, Dom, op1_chk, op1_val}
use base.Logic.{SProp, ent, emp}
use base.Fml.{Lft, GName, Share, ftrue, flft}
use prog.Memory.{Memory, size}
use prog.Routine.{Routine}
use prog.Wp.{Env, Calls, Loops, WpFn, Tables}
use types.Logic.{Logic}
use types.Kit.{‵, ◌⊛◌, raw, given, some, later, at_ret, ◌$◌, ◌∵◌, !, qed, by, move, keep, drop, split, split3, join, learn, fsplit, fjoin, use0, use2, await, pick, suffices, frame, done}
use types.Run.{stop, addr, bin, un, lit, of_opd, first, blocks, exec, returns, enter}
use types.ByLocal.{alloc_all, pass_all, free_all, look_at, get, through, sets, sets_last, is, env}
use contract.BorrowLft.{◌⊑◌}
use contract.Lifetimes.{AllOutlive}
use contract.Monad.{Fun, fact, fact_i}
use contract.Running.{tables, tables_of}
use sound.WpLaws.{WpFn-mono}
use denote.Builtin.{RefMutOf, u8, bool}
use denote.Exit.{yes, no}
use denote.Param.{number, layout, layouts, param, ArrayAt}
use denote.Plain.{bool_vals, bool_Tells}
use denote.RattleType.{RattleType, owns}
use denote.Ref.{MutBor, MutRef, mut_vals, mut_Tells}
use denote.Signature.{plain}
use denote.Steps.{nothing}
use denote.Triple.Clauses.{Clauses, Ended, closing}
use denote.Triple.Entry.{on_entry}
use denote.Triple.Spec.{Meets, triple_of}
use denote.Triple.Table.{entered}
use denote.Triple.Walked.{Stays, stay_dropped, walk_of, ends_at, walked, Goes-dropped, Goes-spent_ref, walk_Meets}
use borrow.Table.Elements.{at_byte}
use Rattle.lilo_model.specs.Bytes.{part_of}
use Rattle.sector_parts.specs.Halves.{half_at}
use Rattle.sector_parts.proofs.RangeLent.{part, array_lent, lends_array}
use Rattle.sector_parts.specs.contracts.halves.half_mut as F
use Rattle.sector_parts.specs.contracts.halves.half_mut.Key.{name as #self}
use Rattle.sector_parts.proofs.halves.half_mut.Statement as stated
use Rattle.sector_parts.proofs.halves.half_mut.Code as code

abbrev rest : Body
rest = seq (assign (place 0 []) (rv_opd (copy (place 5 [])))) return

module _ (n : ℕ) where
  abbrev args : Args
  args = layouts (a_number ∷ []) (number n, tt)

  abbrev function : Fn
  function = inst_fn args code.function

  abbrev ended : Ended
  ended = F.ended (number n)

  abbrev Bytes : RattleType
  Bytes = ArrayAt u8 (param 0 (number n))

  abbrev stayed : Stays ended.signature.params ended.kept
  stayed = (
    stay_dropped (RefMutOf (0 ∷ []) tt (plain (λ _. Bytes)) (λ _. tt)) no,
    (stay_dropped (plain (λ _. bool)) yes, tt),
  )

module _ (n : ℕ) {M : Type 1} {𝓤 : Ura M} (𝓛 : Logic 𝓤) (at_mem : Memory → SProp 𝓤) (run : Routine → Fun 𝓤) where
  open 𝓛 use {H}

  abbrev clauses : Clauses 𝓤 (ended n)
  clauses = F.clauses (number n) 𝓛 at_mem run

  module _ (C : Calls 𝓤 H) (Λ : Loops 𝓤 H) (κ κN : Lft) (q qN : Share) (bd : AllOutlive 2 (ended n).signature.outlives (κ, (κN, tt)))
      (b o : ℕ) (γ : GName) (xs : List ℕ) (second : Bool) where
    abbrev self : MutBor (List ℕ)
    self = record { ref_ptr = (b, o); ghost_name = γ; now = xs }

    abbrev from : ℕ
    from = half_at second

    abbrev bound : (walk_of 𝓛 (ended n) (stayed n) clauses).Ghost
    bound = (((κ, (κN, tt)), (q, (qN, tt)), bd, (self, (second, tt)), (mut_vals self, (bool_vals second, tt))), tt)

    abbrev Post : Val → SProp 𝓤
    Post = (walk_of 𝓛 (ended n) (stayed n) clauses).post bound

    walk : (k : ℕ) → Dom (op1_chk (cast unsigned unsigned w64) (vbool second)) → op1_val (cast unsigned unsigned w64) (vbool second) ≡ vint w64 k
        → k < 2 ^ 64 → k * 512 ≡ from → k * 512 < 2 ^ 64 → from + 512 ≤ n → from < 2 ^ 64
        → ent 𝓤 (on_entry 𝓛 (ended n).signature (κ, (κN, tt)) (q, (qN, tt)) (self, (second, tt)) (mut_vals self, (bool_vals second, tt))) (WpFn 𝓤 H C Λ (function n) (vptr b o ∷ vbool second ∷ []) Post)
    walk k may cast_is fits_k times fits_times within fits_from =
        qed 𝓛 ((‵ (flft κ q) ⊛ ‵ (flft κN qN) ⊛ ‵ ftrue) ∷ ‵ (owns (MutRef (named 0) κ (Bytes n) ∷ bool ∷ []) (self, (second, tt)) (mut_vals self, (bool_vals second, tt))) ∷ []) ∵
        enter ! C Λ (function n) (vptr b o ∷ vbool second ∷ []) _ $
        alloc_all ! (λ l. pass_all ! refl ((tt, tt), ((tt, tt), tt)) $
        let En : Env 𝓤 H = env (function n).locals l in
        sets ! (is ! (un ! (get ! refl) may) cast_is) refl (tt, record { fits = fits_k }) $
        sets ! (is ! (bin ! (get ! refl) (lit ! tt) (record { fits = fits_times })) (ap (vint w64) times)) refl (tt, record { fits = fits_from }) $
        first ! $ blocks ! $
        sets ! (addr ! (through ! refl (stop !))) refl (tt, tt) $
        sets ! (of_opd ! (get ! refl)) refl (tt, tt) $
        sets ! (bin ! (get ! refl) (get ! refl) tt) refl (tt, tt) $
        sets ! (of_opd ! (get ! refl)) refl (tt, tt) $
        sets_last ! (addr ! (through ! refl (stop !))) refl (tt, tt) $
        exec ! C Λ En rest (at_ret En Post) $
        sets ! (of_opd ! (get ! refl)) refl (tt, tt) $
        split ! $ move ! (2 ∷ []) $ fsplit ! $ move ! (0 ∷ 2 ∷ []) $
        use2 𝓛 (later (some (array_lent 𝓛 u8 tt n κ q b o (from + o) γ xs from 512))) (lends_array 𝓛 u8 tt n κ q b o (from + o) γ xs from 512 within (at_byte o from) (mut_vals self)) $
        await ! tt $ pick ! (λ δ.
        returns ! (look_at ! 0 refl) $ free_all ! refl $ keep ! (0 ∷ 2 ∷ []) $ split3 ! $
        suffices ! _ (ends_at 𝓛 (ended n) (stayed n) clauses bound (vptr b (from + o)) (record { ref_ptr = (b, from + o); ghost_name = δ; now = part xs from 512 }) (tt, (tt, tt)) (tt, (tt, tt))) $
        nothing ! $ nothing ! $ fjoin ! $ nothing ! $ fjoin ! $ join ! $ move ! (1 ∷ 3 ∷ []) $ join ! $ join ! $ frame ! $
        use0 𝓛 (raw (fact 𝓤 (part xs from 512 ≡ part_of xs from 512))) (fact_i 𝓤 _ (emp 𝓤) refl) $ frame ! $ done !))

  -- either half
  either : (C : Calls 𝓤 H) (Λ : Loops 𝓤 H) (κ κN : Lft) (q qN : Share) (bd : AllOutlive 2 (ended n).signature.outlives (κ, (κN, tt))) (b o : ℕ) (γ : GName) (xs : List ℕ) (second : Bool) → n ≡ 1024
      → ent 𝓤 (on_entry 𝓛 (ended n).signature (κ, (κN, tt)) (q, (qN, tt)) (self C Λ κ κN q qN bd b o γ xs second, (second, tt)) (mut_vals (self C Λ κ κN q qN bd b o γ xs second), (bool_vals second, tt)))
      (WpFn 𝓤 H C Λ (function n) (vptr b o ∷ vbool second ∷ []) (Post C Λ κ κN q qN bd b o γ xs second))
  either C Λ κ κN q qN bd b o γ xs true is = walk C Λ κ κN q qN bd b o γ xs true 1 tt refl (lit< tt) refl (lit< tt) (subst (λ m. 1024 ≤ m) (sym is) (lit≤ tt)) (lit< tt)
  either C Λ κ κN q qN bd b o γ xs false is = walk C Λ κ κN q qN bd b o γ xs false 0 tt refl (lit< tt) refl (lit< tt) (subst (λ m. 512 ≤ m) (sym is) (lit≤ tt)) (lit< tt)

  meets : (𝓣 : Tables 𝓤 H) → Meets 𝓛 (ended n).signature (WpFn 𝓤 H 𝓣.C 𝓣.Λ (function n)) (closing 𝓛 (ended n) clauses)
  meets 𝓣 =
      walk_Meets 𝓛 (ended n) (stayed n) (Goes-spent_ref 𝓛 2 (0 ∷ []) tt (plain (λ _. Bytes n)), (Goes-dropped 𝓛 2 (plain (λ _. bool)) yes (λ κs x f. refl), tt)) clauses (WpFn 𝓤 H 𝓣.C 𝓣.Λ (function n)) (WpFn-mono 𝓤 H 𝓛.laws 𝓣 (function n))
      (walked 𝓛 (ended n) (stayed n) clauses (WpFn 𝓤 H 𝓣.C 𝓣.Λ (function n)) (λ κs. (mut_vals, (bool_vals, tt))) (λ κs. (mut_Tells (named 0) κs.0 (Bytes n), (bool_Tells, tt)))
      (λ κs qs bounds a g are.
      qed 𝓛 (raw (on_entry 𝓛 (ended n).signature κs qs a (mut_vals a.0, (bool_vals a.1.0, tt))) ∷ (given (κs.1.0 ⊑ []) (‵ ftrue) ⊛ given (size (layout (Bytes n)) < 2 ^ 63) (‵ ftrue) ⊛ given (n ≡ 1024) (‵ ftrue)) ∷ []) ∵
      move ! (1 ∷ []) $ split3 ! $ drop ! $ drop ! $ learn ! (λ is_block. drop ! $
      by ! (either 𝓣.C 𝓣.Λ κs.0 κs.1.0 qs.0 qs.1.0 bounds a.0.ref_ptr.0 a.0.ref_ptr.1 a.0.ghost_name a.0.now a.1.0 is_block))))

pub half_mut_spec : {M : Type 1} → stated.statement M
unfolding tables_of
half_mut_spec 𝓤 𝓛 𝓜 𝓡 wired n few =
    let 𝓣 : Tables 𝓤 𝓛.H = tables_of 𝓤 𝓛.H 𝓜 (tables 𝓤 𝓛.H 𝓜 𝓡 𝓡.env) in
    entered 𝓤 𝓛.H (triple_of 𝓛 (ended n).signature (F.spec (number n) 𝓛 𝓜.mem 𝓡.returns)) 𝓣.C 𝓣.Λ (#self (args n)) (function n) (code.unfolded 𝓤 𝓛.H 𝓜 𝓡 wired (number n, tt))
    (meets n 𝓛 𝓜.mem 𝓡.returns 𝓣)
