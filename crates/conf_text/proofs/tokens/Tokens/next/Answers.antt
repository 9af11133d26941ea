-- What is left, by what comes next.
use Rattle.std.proofs.Common.{◌≡◌, refl, sym, ◌∙◌, ap, false, [], ◌∷◌}
use Rattle.std.specs.Prelude.{None, Some, Ok, Err}
use Rattle.std.specs.Option.{option_map}
use Rattle.lilo_model.specs.ConfTokens.{next_piece, is_equals, token_end}
use Rattle.conf_text.specs.View.{pieces_left, token_view, text_fault_view, piece_view}
use Rattle.conf_text.proofs.TokensLemmas.{pieces_left-none, pieces_left-fault, pieces_left-token, pieces_left-same}
use Rattle.conf_text.proofs.tokens.Tokens.next.Goals as goal
use Rattle.conf_text.proofs.tokens.Tokens.next.Goals.{in-Ok, in-Err}

pub returns-in_default-clause-given : goal.returns-in_default-clause-given
returns-in_default-clause-given c =
    let next : next_piece c.self.inside.text.now c.self.inside.value c.self.inside.place ≡ None =
    sym c.next_piece-ahead.ensures.piece ∙ ap (option_map piece_view) c.in_default.is in
    let none = pieces_left-none c.self.inside.text.now c.self.inside.value c.self.inside.place next in
    let left : c.args.self.now ≡ [] = sym c.self.view_is ∙ rw c.if-self.false none in
    rw left refl

pub returns-in_default-clause-left : goal.returns-in_default-clause-left
returns-in_default-clause-left c =
    let next : next_piece c.self.inside.text.now c.self.inside.value c.self.inside.place ≡ None =
    sym c.next_piece-ahead.ensures.piece ∙ ap (option_map piece_view) c.in_default.is in
    let none = pieces_left-none c.self.inside.text.now c.self.inside.value c.self.inside.place next in
    let left : c.args.self.now ≡ [] = sym c.self.view_is ∙ rw c.if-self.false none in
    rw left refl

pub returns-clause-given : goal.returns-clause-given
returns-clause-given c =
    elim c.match-piece.branch [
      | in-Ok w ↦
          let next : next_piece c.self.inside.text.now c.self.inside.value c.self.inside.place ≡ Some (Ok (token_view w.in-Ok.token)) =
          sym c.next_piece-ahead.ensures.piece ∙ ap (option_map piece_view) (c.in-Some.is ∙ ap Some w.in-Ok.is) in
          let token = pieces_left-token c.self.inside.text.now c.self.inside.value c.self.inside.place (token_view w.in-Ok.token) next in
          let left : c.args.self.now ≡ Ok (token_view w.in-Ok.token) ∷ pieces_left false c.self.inside.text.now (is_equals (token_view w.in-Ok.token).kind) (token_end (token_view w.in-Ok.token)) =
          sym c.self.view_is ∙ rw c.if-self.false token in
          rw (left, w.in-Ok.is) refl
      | in-Err w ↦
          let next : next_piece c.self.inside.text.now c.self.inside.value c.self.inside.place ≡ Some (Err (text_fault_view w.in-Err.field-0)) =
          sym c.next_piece-ahead.ensures.piece ∙ ap (option_map piece_view) (c.in-Some.is ∙ ap Some w.in-Err.is) in
          let fault = pieces_left-fault c.self.inside.text.now c.self.inside.value c.self.inside.place (text_fault_view w.in-Err.field-0) next in
          let left : c.args.self.now ≡ Err (text_fault_view w.in-Err.field-0) ∷ [] =
          sym c.self.view_is ∙ rw c.if-self.false fault in
          rw (left, w.in-Err.is) refl
    ]

pub returns-clause-left : goal.returns-clause-left
returns-clause-left c =
    elim c.match-piece.branch [
      | in-Ok w ↦
          let next : next_piece c.self.inside.text.now c.self.inside.value c.self.inside.place ≡ Some (Ok (token_view w.in-Ok.token)) =
          sym c.next_piece-ahead.ensures.piece ∙ ap (option_map piece_view) (c.in-Some.is ∙ ap Some w.in-Ok.is) in
          let token = pieces_left-token c.self.inside.text.now c.self.inside.value c.self.inside.place (token_view w.in-Ok.token) next in
          let left : c.args.self.now ≡ Ok (token_view w.in-Ok.token) ∷ pieces_left false c.self.inside.text.now (is_equals (token_view w.in-Ok.token).kind) (token_end (token_view w.in-Ok.token)) =
          sym c.self.view_is ∙ rw c.if-self.false token in
          rw (left, w.self-is)
          (pieces_left-same c.self.inside.text.now c.if-self.false w.is_equals-self-inside.ensures w.end-self-inside.ensures)
      | in-Err w ↦
          let next : next_piece c.self.inside.text.now c.self.inside.value c.self.inside.place ≡ Some (Err (text_fault_view w.in-Err.field-0)) =
          sym c.next_piece-ahead.ensures.piece ∙ ap (option_map piece_view) (c.in-Some.is ∙ ap Some w.in-Err.is) in
          let fault = pieces_left-fault c.self.inside.text.now c.self.inside.value c.self.inside.place (text_fault_view w.in-Err.field-0) next in
          let left : c.args.self.now ≡ Err (text_fault_view w.in-Err.field-0) ∷ [] =
          sym c.self.view_is ∙ rw c.if-self.false fault in
          rw (left, w.self-is) refl
    ]
