-- By what comes next.
use Rattle.std.proofs.Common.{◌≡◌, refl, sym, ◌∙◌, ap, false, [], ◌∷◌}
use Rattle.std.specs.Prelude.{None, Some, Ok, Err}
use Rattle.std.specs.Option.{option_map}
use Rattle.lilo_model.specs.ConfTokens.{next_piece, is_equals, token_end}
use Rattle.conf_text.specs.View.{pieces_left, token_view, text_fault_view, piece_view}
use Rattle.conf_text.proofs.TokensLemmas.{pieces_left-none, pieces_left-fault, pieces_left-token}
use Rattle.conf_text.proofs.tokens.Tokens.is_before_equals.Goals as goal

pub returns-in_default : goal.returns-in_default
returns-in_default c =
    let next : next_piece c.self.inside.text.now c.self.inside.value c.self.inside.place ≡ None =
    sym c.next_piece-ahead.ensures.piece ∙ ap (option_map piece_view) c.in_default.is in
    let none = pieces_left-none c.self.inside.text.now c.self.inside.value c.self.inside.place next in
    let left : c.args.self.now ≡ [] = sym c.self.view_is ∙ rw c.if-self.false none in
    rw left refl

pub returns-in-Ok : goal.returns-in-Ok
returns-in-Ok c =
    let next : next_piece c.self.inside.text.now c.self.inside.value c.self.inside.place ≡ Some (Ok (token_view c.in-Ok.token)) =
    sym c.next_piece-ahead.ensures.piece ∙ ap (option_map piece_view) (c.in-Some.is ∙ ap Some c.in-Ok.is) in
    let token = pieces_left-token c.self.inside.text.now c.self.inside.value c.self.inside.place (token_view c.in-Ok.token) next in
    let left : c.args.self.now ≡ Ok (token_view c.in-Ok.token) ∷ pieces_left false c.self.inside.text.now (is_equals (token_view c.in-Ok.token).kind) (token_end (token_view c.in-Ok.token)) =
    sym c.self.view_is ∙ rw c.if-self.false token in
    rw left c.is_equals.ensures

pub returns-in-Err : goal.returns-in-Err
returns-in-Err c =
    let next : next_piece c.self.inside.text.now c.self.inside.value c.self.inside.place ≡ Some (Err (text_fault_view c.in-Err.field-0)) =
    sym c.next_piece-ahead.ensures.piece ∙ ap (option_map piece_view) (c.in-Some.is ∙ ap Some c.in-Err.is) in
    let fault = pieces_left-fault c.self.inside.text.now c.self.inside.value c.self.inside.place (text_fault_view c.in-Err.field-0) next in
    let left : c.args.self.now ≡ Err (text_fault_view c.in-Err.field-0) ∷ [] =
    sym c.self.view_is ∙ rw c.if-self.false fault in
    rw left refl
