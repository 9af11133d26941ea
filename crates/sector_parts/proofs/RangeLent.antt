-- A range of an array behind a `&mut` is lent as a slice, and the array ends with what the slice shows
-- last in the range's place. It is for any type of element and any length. Assumes `Logic`.
--     lends      the reference and its lifetime's token give the slice, the token, and how the array follows
--     lends_array      the same of a range that is lent as an array
use mathlib.Core.Path.{◌≡◌, refl, sym, ap, ◌∙◌}
use Prim.Native.Nat.{ℕ, ◌+◌, ◌*◌, ◌^◌, ◌<◌, ◌≤◌}
use native.Mathlib.Nat.{mul-le-mul_right}
use native.Mathlib.Omega.{arith}
use mathlib.Core.List.{List, [], ◌∷◌, ◌++◌}
use lib.ListN.{length, take, drop as drop_list, take-append-drop, length-drop, length-append}
use seplogic.Ra.Ura.{Ura}
use mir.Syntax.{named}
use mir.Val.{Val, vptr}
use base.Logic.{SProp, ent, sep, ex, guard}
use base.Fraction.{full_share}
use base.Stored.{coded_list}
use base.Fml.{Fml, Lft, GName, Share, fsep, feq, flft, fobs, fbor}
use types.Logic.{Logic, sem}
use types.Mut.{open_ref}
use types.Kit.{Item, ‵, ◌⊛◌, given, later, some, ◌$◌, ◌∵◌, !, qed, by, move, drop, split, split3, join, group, use1, use2, updating, await, pick, now, show, check, done, rewrite, fsplit, fsplit3, fjoin, fjoin3, feq_l, feq_i}
use denote.RattleType.{RattleType}
use denote.Memory.{mem}
use denote.Ref.{MutRef}
use denote.Array.{Array}
use denote.ArrayMemory.{Single, Array-apart, Array-whole}
use denote.Index.{row, whole_in, whole_out}
use denote.Slice.{MutSlice, Room, slice_val}
use denote.Follow.{follows}
use denote.FollowSlice.{lends_Elements}
use types.SemTy.{cells, Body}
use types.Follow.{takes_part}
use borrow.Table.Elements.{at, cut_app, join_app, length-take-le}

module _ {X : Type 0} (xs : List X) (from len : ℕ) where
  abbrev pub front : List X
  front = take from xs

  abbrev pub part : List X
  part = take len (drop_list from xs)

  abbrev pub back : List X
  back = drop_list len (drop_list from xs)

  -- the elements with those from an index replaced by as many others
  abbrev pub written : List X → List X
  written ws = front ++ (ws ++ drop_list (length ws) (drop_list from xs))

  cut : xs ≡ front ++ (part ++ back)
  cut = sym (take-append-drop from xs) ∙ ap (λ (l : List X). front ++ l) (sym (take-append-drop len (drop_list from xs)))

  pub length-part : from + len ≤ length xs → length part ≡ len
  length-part within = let rest = length-drop from xs in length-take-le len (drop_list from xs) (omega arith)

  length-written : (ws : List X) → from + len ≤ length xs → length ws ≡ len → length (written ws) ≡ length xs
  length-written ws within long =
      let tail = drop_list (length ws) (drop_list from xs) in
      let before = length-take-le from xs (omega arith) in
      let joined = length-append front (ws ++ tail) in
      let rest = length-append ws tail in
      let after = length-drop (length ws) (drop_list from xs) in
      let beyond = length-drop from xs in
      omega arith

module _ {M : Type 1} {𝓤 : Ura M} (𝓛 : Logic 𝓤) (R : RattleType) (single : Single R.mir) (n : ℕ) where
  open 𝓛 use {H, A}

  module _ (κ : Lft) (q : Share) (b o p : ℕ) (γ : GName) (xs : List R.Denot) (from len : ℕ) where
    abbrev stride : ℕ
    stride = (mem R).size

    abbrev elements : List R.Denot → ℕ → Fml
    elements ws = cells (mem R) ws b

    abbrev end : ℕ
    end = at p stride (length (part xs from len))

    abbrev Rest : SProp 𝓤
    Rest = sep 𝓤 (sem 𝓛 (elements (back xs from len) end)) (sem 𝓛 (elements (front xs from len) o))

    -- other elements in the range, and the rest, are the array again
    put : from + len ≤ n → length xs ≡ n → at o stride from ≡ p → (ws : List R.Denot) → length ws ≡ length (part xs from len)
        → ent 𝓤 (sep 𝓤 (sem 𝓛 (elements ws p)) Rest) (sem 𝓛 ((mem (Array R n)).own_at (written xs from len ws) b o))
    put within long on ws e =
        let count = length-part xs from len (omega arith) in
        let before : length (front xs from len) ≡ from = length-take-le from xs (omega arith) in
        let all = written xs from len ws in
        qed 𝓛 (‵ (elements ws p) ∷ ‵ (elements (back xs from len) end) ∷ ‵ (elements (front xs from len) o) ∷ []) ∵
        rewrite ! 1 (λ (k : ℕ). ‵ (elements (back xs from len) (at p stride k))) (sym e) refl $
        use2 𝓛 (‵ (elements (ws ++ back xs from len) p)) (join_app 𝓛 (mem R) ws (back xs from len) b p) $
        rewrite ! 0 (λ (l : List R.Denot). ‵ (elements l p)) (ap (λ k. ws ++ drop_list k (drop_list from xs)) (sym (e ∙ count))) refl $
        rewrite ! 0 (λ (k : ℕ). ‵ (elements (ws ++ drop_list (length ws) (drop_list from xs)) k)) (sym on ∙ ap (at o stride) (sym before)) refl $
        move ! (1 ∷ 0 ∷ []) $
        use2 𝓛 (‵ (elements all o)) (join_app 𝓛 (mem R) (front xs from len) (ws ++ drop_list (length ws) (drop_list from xs)) b o) $
        use1 𝓛 (‵ (row R full_share all b o)) (whole_out 𝓛 R all b o) $
        feq_i ! ℕ (length all) n (length-written xs from len ws (omega arith) (e ∙ count) ∙ long) $ fjoin ! $
        by ! (Array-whole 𝓛 R full_share n all b o)

    abbrev LentAs : GName → SProp 𝓤
    LentAs δ = sep 𝓤 (sem 𝓛 ((MutSlice (named 0) κ R).own_val (record { ref_ptr = (b, p); ghost_name = δ; now = part xs from len }) (slice_val (b, p) len ∷ []))) (sep 𝓤 (A.lft κ q) (sem 𝓛 (follows (Array R 0) (Array R 0) γ δ (written xs from len))))

    -- the slice that shows the range, and the array's length
    abbrev pub Lent : GName → SProp 𝓤
    Lent δ = guard 𝓤 (length xs ≡ n) (LentAs δ)

    abbrev lent_at : ℕ → GName → Item 𝓤
    lent_at k δ = ‵ ((MutSlice (named 0) κ R).own_val (record { ref_ptr = (b, p); ghost_name = δ; now = part xs from len }) (slice_val (b, p) k ∷ [])) ⊛ ‵ (flft κ q) ⊛ ‵ (follows (Array R 0) (Array R 0) γ δ (written xs from len))

    abbrev pub lent : GName → Item 𝓤
    lent δ = given (length xs ≡ n) (lent_at len δ)

    pub lends : from + len ≤ n → n < 2 ^ 64 → n * stride < 2 ^ 63 → at o stride from ≡ p → (vs : List Val)
        → ent 𝓤 (sep 𝓤 (sem 𝓛 ((MutRef (named 0) κ (Array R n)).own_val (record { ref_ptr = (b, o); ghost_name = γ; now = xs }) vs)) (A.lft κ q)) (H.⇛ (ex 𝓤 Lent))
    lends within few small on vs =
        qed 𝓛 (‵ ((MutRef (named 0) κ (Array R n)).own_val (record { ref_ptr = (b, o); ghost_name = γ; now = xs }) vs) ∷ ‵ (flft κ q) ∷ []) ∵
        updating ! $ fsplit3 ! $ drop ! $ open_ref ! tt (mem (Array R n)) {b = b} {o = o} $
        use1 𝓛 (‵ (fsep (feq ℕ (length xs) n) (row R full_share xs b o))) (Array-apart 𝓛 R full_share single n xs b o) $
        fsplit ! $ feq_l ! (λ long.
        let count : length (part xs from len) ≡ len = length-part xs from len (omega arith) in
        let before : length (front xs from len) ≡ from = length-take-le from xs (omega arith) in
        let bytes : length (part xs from len) * stride ≤ n * stride = mul-le-mul_right stride (omega arith) in
        let room : Room R (length (part xs from len)) = (omega arith, omega arith) in
        use1 𝓛 (‵ (elements xs o)) (whole_in 𝓛 R xs b o) $
        rewrite ! 0 (λ (l : List R.Denot). ‵ (elements l o)) (cut xs from len) refl $
        use1 𝓛 (‵ (elements (front xs from len) o) ⊛ ‵ (elements (part xs from len ++ back xs from len) (at o stride (length (front xs from len))))) (cut_app 𝓛 (mem R) (front xs from len) (part xs from len ++ back xs from len) b o) $
        split ! $
        rewrite ! 1 (λ (k : ℕ). ‵ (elements (part xs from len ++ back xs from len) k)) (ap (at o stride) before ∙ on) refl $
        move ! (1 ∷ []) $
        use1 𝓛 (‵ (elements (part xs from len) p) ⊛ ‵ (elements (back xs from len) end)) (cut_app 𝓛 (mem R) (part xs from len) (back xs from len) b p) $
        split ! $ move ! (1 ∷ 2 ∷ []) $ join ! $ move ! (2 ∷ 3 ∷ 4 ∷ 1 ∷ 0 ∷ []) $ group ! 5 $
        use1 𝓛 (later (some (lent_at (length (part xs from len)))))
        (lends_Elements 𝓛 (Array R n) R (written xs from len) (named 0) κ q b o b p γ (part xs from len) room Rest (put within long on) ((Array R n).coded.code xs) ((Array R n).coded.code xs)) $
        await ! tt $ pick ! (λ δ. rewrite ! 0 (λ (k : ℕ). lent_at k δ) count refl $ now ! $ show ! Lent δ $ check ! long $ done !))

  -- ---- the range as an array
  array_in : (k b : ℕ) (ws : List R.Denot) (o : ℕ) → length ws ≡ k → ent 𝓤 (sem 𝓛 (cells (mem R) ws b o)) (sem 𝓛 ((mem (Array R k)).own_at ws b o))
  array_in k b ws o e = qed 𝓛 (‵ (cells (mem R) ws b o) ∷ []) ∵ use1 𝓛 (‵ (row R full_share ws b o)) (whole_out 𝓛 R ws b o) $
      feq_i ! ℕ (length ws) k e $ fjoin ! $ by ! (Array-whole 𝓛 R full_share k ws b o)

  module _ (κ : Lft) (q : Share) (b o p : ℕ) (γ : GName) (xs : List R.Denot) (from k : ℕ) where
    abbrev edge : ℕ
    edge = at p (mem R).size (length (part xs from k))

    abbrev Others : SProp 𝓤
    Others = sep 𝓤 (sem 𝓛 (cells (mem R) (back xs from k) b edge)) (sem 𝓛 (cells (mem R) (front xs from k) b o))

    put_array : from + k ≤ n → length xs ≡ n → at o (mem R).size from ≡ p → (ws : List R.Denot)
        → ent 𝓤 (sep 𝓤 (sem 𝓛 ((mem (Array R k)).own_at ws b p)) Others) (sem 𝓛 ((mem (Array R n)).own_at (written xs from k ws) b o))
    put_array within long on ws =
        let count = length-part xs from k (omega arith) in
        qed 𝓛 (‵ ((mem (Array R k)).own_at ws b p) ∷ ‵ (cells (mem R) (back xs from k) b edge) ∷ ‵ (cells (mem R) (front xs from k) b o) ∷ []) ∵
        use1 𝓛 (‵ (fsep (feq ℕ (length ws) k) (row R full_share ws b p))) (Array-apart 𝓛 R full_share single k ws b p) $ fsplit ! $ feq_l ! (λ e.
        use1 𝓛 (‵ (cells (mem R) ws b p)) (whole_in 𝓛 R ws b p) $ group ! 3 $
        by ! (put κ q b o p γ xs from k within long on ws (e ∙ sym count)))

    abbrev ArrayLentAs : GName → SProp 𝓤
    ArrayLentAs δ = sep 𝓤 (sem 𝓛 ((MutRef (named 0) κ (Array R k)).own_val (record { ref_ptr = (b, p); ghost_name = δ; now = part xs from k }) (vptr b p ∷ []))) (sep 𝓤 (A.lft κ q) (sem 𝓛 (follows (Array R 0) (Array R 0) γ δ (written xs from k))))

    -- the array that shows the range
    abbrev pub ArrayLent : GName → SProp 𝓤
    ArrayLent δ = ArrayLentAs δ

    abbrev pub array_lent : GName → Item 𝓤
    array_lent δ = ‵ ((MutRef (named 0) κ (Array R k)).own_val (record { ref_ptr = (b, p); ghost_name = δ; now = part xs from k }) (vptr b p ∷ [])) ⊛ ‵ (flft κ q) ⊛ ‵ (follows (Array R 0) (Array R 0) γ δ (written xs from k))

    pub lends_array : from + k ≤ n → at o (mem R).size from ≡ p → (vs : List Val)
        → ent 𝓤 (sep 𝓤 (sem 𝓛 ((MutRef (named 0) κ (Array R n)).own_val (record { ref_ptr = (b, o); ghost_name = γ; now = xs }) vs)) (A.lft κ q)) (H.⇛ (ex 𝓤 ArrayLent))
    lends_array within on vs =
        qed 𝓛 (‵ ((MutRef (named 0) κ (Array R n)).own_val (record { ref_ptr = (b, o); ghost_name = γ; now = xs }) vs) ∷ ‵ (flft κ q) ∷ []) ∵
        updating ! $ fsplit3 ! $ drop ! $ open_ref ! tt (mem (Array R n)) {b = b} {o = o} $
        use1 𝓛 (‵ (fsep (feq ℕ (length xs) n) (row R full_share xs b o))) (Array-apart 𝓛 R full_share single n xs b o) $
        fsplit ! $ feq_l ! (λ long.
        let count : length (part xs from k) ≡ k = length-part xs from k (omega arith) in
        let before : length (front xs from k) ≡ from = length-take-le from xs (omega arith) in
        use1 𝓛 (‵ (cells (mem R) xs b o)) (whole_in 𝓛 R xs b o) $
        rewrite ! 0 (λ (l : List R.Denot). ‵ (cells (mem R) l b o)) (cut xs from k) refl $
        use1 𝓛 (‵ (cells (mem R) (front xs from k) b o) ⊛ ‵ (cells (mem R) (part xs from k ++ back xs from k) b (at o (mem R).size (length (front xs from k))))) (cut_app 𝓛 (mem R) (front xs from k) (part xs from k ++ back xs from k) b o) $
        split ! $
        rewrite ! 1 (λ (j : ℕ). ‵ (cells (mem R) (part xs from k ++ back xs from k) b j)) (ap (at o (mem R).size) before ∙ on) refl $
        move ! (1 ∷ []) $
        use1 𝓛 (‵ (cells (mem R) (part xs from k) b p) ⊛ ‵ (cells (mem R) (back xs from k) b edge)) (cut_app 𝓛 (mem R) (part xs from k) (back xs from k) b p) $
        split ! $ move ! (1 ∷ 2 ∷ []) $ join ! $ move ! (1 ∷ []) $
        use1 𝓛 (‵ ((mem (Array R k)).own_at (part xs from k) b p)) (array_in k b (part xs from k) p count) $
        move ! (2 ∷ 3 ∷ 4 ∷ 0 ∷ 1 ∷ []) $ group ! 5 $
        use1 𝓛 (later (some (λ (δ : GName). ‵ (fobs δ ((coded_list R.coded).code (part xs from k))) ⊛ ‵ (fbor κ (Body (mem (Array R k)) b p δ)) ⊛ ‵ (flft κ q) ⊛ ‵ (follows (Array R 0) (Array R 0) γ δ (written xs from k)))))
        (takes_part 𝓛 (mem (Array R n)) (mem (Array R k)) (written xs from k) κ q b o b p γ Others (put_array within long on) ((Array R n).coded.code xs) ((Array R n).coded.code xs) (part xs from k)) $
        await ! tt $ pick ! (λ δ. split3 ! $
        feq_i ! (List Val) (vptr b p ∷ []) (vptr b p ∷ []) refl $ fjoin3 ! $ now ! $ show ! ArrayLent δ $ done !))
