-- What a token can't be where an expression is whole: a part of it.
use Rattle.std.proofs.Common.{◌≡◌, ◌&&◌, Bool, true, false, List, [], ◌∷◌, ℕ, Option, Some, None, refl, sym, ap, ◌∙◌}
use Rattle.std.specs.Prelude.{is_some, option_map, option_and_then}
use Rattle.jr_lex.specs.declared.items.Symbol.TheVariants.{Semicolon}
use Rattle.jr_text.specs.declared.spans.Span.{Span}
use Rattle.jr_ast.specs.StatementTree.{Stmts}
use Rattle.jr_ast.specs.Tree.{Exp, TypeName, name, field}
use Rattle.jr_grammar.specs.Tokens.{Token, word, symbol}
use Rattle.jr_pexpr.specs.Machine as E
use Rattle.jr_pexpr.specs.Machine.{begun, extended}
use Rattle.jr_pexpr.specs.Marked.{join}
use Rattle.jr_pexpr.specs.Pieces.{piece_of}
use Rattle.jr_pexpr.specs.Pieces as Pieces
use Rattle.jr_pexpr.specs.Starts.{type_read}
use Rattle.jr_pexpr.specs.Walks.{is_end}
use Rattle.jr_pexpr.proofs.Walking.{step_none}
use Rattle.jr_pstmt.specs.Cues.{Cue, a_word, a_close, a_semicolon, at_semicolon, at_close, cue_of, cue_token}
use Rattle.jr_pstmt.specs.CueTests.{ends_eval}
use Rattle.jr_pstmt.specs.Inside.{inner}
use Rattle.jr_pstmt.specs.Slots.{is_semicolon, is_close, closer, closes}
use Rattle.jr_pstmt.specs.StatementMachine.{Frame, State, Slot, for_local, for_return, for_head, filled, in_exp, in_eval, from_exp, from_eval, eval_ended, evaluated, begin_local}
use Rattle.jr_pstmt.proofs.CueTokens.{cue_back}
use Rattle.jr_pstmt.proofs.Inside.{map_inner}

pub token_is : (t : Token) (c : Cue) → cue_of t ≡ c → t ≡ cue_token c
token_is t c h = sym (cue_back t) ∙ ap cue_token h

-- ---- expressions that are parts

and-true : (a : Bool) → (a && true) ≡ a
and-true true = refl
and-true false = refl

not_semicolon : {N : Type 0} (c : Cue) (n : N) → is_semicolon c ≡ false → at_semicolon c n ≡ None
not_semicolon a_semicolon n h = absurd cc
not_semicolon _ n h = refl

not_close : {N : Type 0} (c : Cue) (n : N) → is_close c ≡ false → at_close c n ≡ None
not_close a_close n h = absurd cc
not_close _ n h = refl

semicolon_is : (c : Cue) → is_semicolon c ≡ true → c ≡ a_semicolon
semicolon_is a_semicolon h = refl
semicolon_is _ h = absurd cc

close_is : (c : Cue) → is_close c ≡ true → c ≡ a_close
close_is a_close h = refl
close_is _ h = absurd cc

closer_is : (slot : Slot Span) (c : Cue) → closes slot c ≡ true → c ≡ closer slot
closer_is (for_local m f t w) c h = semicolon_is c h
closer_is (for_return m) c h = semicolon_is c h
closer_is (for_head m h) c k = close_is c k

closer_ends : (slot : Slot Span) → is_end (piece_of (cue_token (closer slot))) ≡ true
closer_ends (for_local m f t w) = refl
closer_ends (for_return m) = refl
closer_ends (for_head m h) = refl

module _ (fs : List (Frame Span)) (all : Stmts Span) (slot : Slot Span) (s : E.State Span) (at : Span) where
  pub value_ends : (t : Token) → closes slot (cue_of t) ≡ true → is_some (E.whole join s) ≡ true
      → option_and_then (filled join fs all slot at (closer slot)) (E.whole join s) ≡ from_exp join fs all slot s at t (cue_of t)
  value_ends t h w =
      let c : cue_of t ≡ closer slot = closer_is slot (cue_of t) h in
      let e : t ≡ cue_token (closer slot) = token_is t (closer slot) c in
      let n : E.step join s at t ≡ None = step_none s at t (ap (λ (t : Token). is_end (piece_of t)) e ∙ closer_ends slot) w in
      ap (λ (c : Cue). option_and_then (filled join fs all slot at c) (E.whole join s)) (sym c)
      ∙ ap (inner (in_exp fs all slot) (option_and_then (filled join fs all slot at (cue_of t)) (E.whole join s))) (sym n)

  not_filled : (slot : Slot Span) (c : Cue) (e : Exp Span) → closes slot c ≡ false → filled join fs all slot at c e ≡ None
  not_filled (for_local m f t w) c e h = not_semicolon c _ h
  not_filled (for_return m) c e h = not_semicolon c _ h
  not_filled (for_head m k) c e h = not_close c _ h

  not_taken : (c : Cue) (o : Option (Exp Span)) → (closes slot c && is_some o) ≡ false → option_and_then (filled join fs all slot at c) o ≡ None
  not_taken c None h = refl
  not_taken c (Some e) h = not_filled slot c e (sym (and-true (closes slot c)) ∙ h)

  pub value_goes_on : (t : Token) → (closes slot (cue_of t) && is_some (E.whole join s)) ≡ false
      → option_map (in_exp fs all slot) (E.step join s at t) ≡ from_exp join fs all slot s at t (cue_of t)
  value_goes_on t h =
      map_inner (in_exp fs all slot) (E.step join s at t)
      ∙ ap (λ (o : Option (State Span)). inner (in_exp fs all slot) o (E.step join s at t)) (sym (not_taken (cue_of t) (E.whole join s) h))

-- ---- statement expressions

no_semicolon : (s : E.State Span) (at : Span) → E.step join s at (symbol Semicolon) ≡ None
unfolding begun extended
no_semicolon (E.want fs) at = refl
no_semicolon (E.have fs e) at = refl
no_semicolon _ at = refl

named_no_word : (e : Exp Span) (at : Span) (w : List ℕ) → is_some (E.name_type e) ≡ true → extended join [] e at (Pieces.a_word w) ≡ None
unfolding begun extended
named_no_word (name m v) at w h = refl
named_no_word (field m (name n o) v) at w h = refl
named_no_word (field m _ v) at w h = absurd cc
named_no_word _ at w h = absurd cc

no_word : (s : E.State Span) (at : Span) (w : List ℕ) → is_some (type_read s) ≡ true → E.step join s at (word w) ≡ None
no_word (E.have [] e) at w h = named_no_word e at w h
no_word (E.have (f ∷ fs) e) at w h = absurd cc
no_word _ at w h = absurd cc

module _ (fs : List (Frame Span)) (all : Stmts Span) (s : E.State Span) (at : Span) where
  pub eval_ends : (t : Token) → cue_of t ≡ a_semicolon → option_map (evaluated join fs all at) (E.statement_whole join s) ≡ from_eval join fs all s at t (cue_of t)
  eval_ends t h =
      let n : E.step join s at t ≡ None = ap (λ (t : Token). E.step join s at t) (token_is t a_semicolon h) ∙ no_semicolon s at in
      ap (inner (in_eval fs all) (option_map (evaluated join fs all at) (E.statement_whole join s))) (sym (ap E.kept_open n))
      ∙ ap (λ (c : Cue). from_eval join fs all s at t c) (sym h)

  pub eval_word : (t : Token) (w : List ℕ) → cue_of t ≡ a_word w → from_eval join fs all s at (word w) (a_word w) ≡ from_eval join fs all s at t (cue_of t)
  eval_word t w h =
      ap (λ (t : Token). from_eval join fs all s at t (a_word w)) (sym (token_is t (a_word w) h)) ∙ ap (λ (c : Cue). from_eval join fs all s at t c) (sym h)

  pub type_ends : (w : List ℕ) → is_some (type_read s) ≡ true → option_and_then (begin_local fs all (E.marked at w)) (type_read s) ≡ from_eval join fs all s at (word w) (a_word w)
  type_ends w h =
      ap (inner (in_eval fs all) (option_and_then (begin_local fs all (E.marked at w)) (type_read s))) (sym (ap E.kept_open (no_word s at w h)))

  pub eval_goes_on : (w : List ℕ) → is_some (type_read s) ≡ false → inner (in_eval fs all) None (E.statement_step join s at (word w)) ≡ from_eval join fs all s at (word w) (a_word w)
  eval_goes_on w h = go (type_read s) h
    where
      go : (o : Option (TypeName Span)) → is_some o ≡ false
          → inner (in_eval fs all) None (E.statement_step join s at (word w)) ≡ inner (in_eval fs all) (option_and_then (begin_local fs all (E.marked at w)) o) (E.statement_step join s at (word w))
      go None h = refl
      go (Some t) h = absurd cc

  pub eval_goes : (t : Token) → ends_eval (cue_of t) ≡ false → option_map (in_eval fs all) (E.statement_step join s at t) ≡ from_eval join fs all s at t (cue_of t)
  eval_goes t h =
      map_inner (in_eval fs all) (E.statement_step join s at t)
      ∙ ap (λ (o : Option (State Span)). inner (in_eval fs all) o (E.statement_step join s at t)) (sym (no_end (cue_of t) h))
    where
      no_end : (c : Cue) → ends_eval c ≡ false → eval_ended join fs all s at c ≡ None
      no_end a_semicolon h = absurd cc
      no_end (a_word w) h = absurd cc
      no_end _ h = refl
