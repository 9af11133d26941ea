-- What a sink takes by several calls.
use Rattle.std.proofs.Common.{ℕ, ◌+◌, List, ◌++◌, length, take, Option, None, Some, sym, ap, subst, ◌∙◌, arith, append_assoc, length-append, take_all}
use Rattle.std.proofs.lemmas.List.{take-append-le}
use Rattle.std.proofs.Math.Seq.{take-append-add}
use Rattle.std.specs.Option.{option_map}
use Rattle.stream_trait.specs.Sink.{Takes, TakesFront}

-- two texts, one after the other
pub Takes-trans : (a b c : Option (List ℕ)) (s t : List ℕ) → Takes a s b → Takes b t c → Takes a (s ++ t) c
Takes-trans None b c s t p q = q ∙ ap (option_map (λ l. l ++ t)) p
Takes-trans (Some x) b c s t p q = q ∙ ap (option_map (λ l. l ++ t)) p ∙ ap (λ l. Some l) (append_assoc x s t)

-- a text is a prefix of itself
pub TakesFront-whole : (a b : Option (List ℕ)) (s : List ℕ) → Takes a s b → TakesFront a s b
TakesFront-whole None b s p = p
TakesFront-whole (Some x) b s p = (length s, omega arith, p ∙ ap (λ l. Some (x ++ l)) (sym (take_all (length s) s (omega arith))))

-- a prefix of a text is a prefix of a longer one
pub TakesFront-before : (a b : Option (List ℕ)) (s t : List ℕ) → TakesFront a s b → TakesFront a (s ++ t) b
TakesFront-before None b s t p = p
TakesFront-before (Some x) b s t (k, within, e) =
    (k, omega (arith, length-append s t), e ∙ ap (λ l. Some (x ++ l)) (sym (take-append-le k s t within)))

-- a text, and then a prefix of the next
pub TakesFront-after : (a b c : Option (List ℕ)) (s t : List ℕ) → Takes a s b → TakesFront b t c → TakesFront a (s ++ t) c
TakesFront-after None b c s t p q = subst (λ o. TakesFront o t c) p q
TakesFront-after (Some x) b c s t p q =
    let (k, within, e) = subst (λ o. TakesFront o t c) p q in
    (length s + k, omega (arith, length-append s t), e ∙ ap (λ l. Some l) (append_assoc x s (take k t)) ∙ ap (λ l. Some (x ++ l)) (sym (take-append-add s t k)))
