-- One item of a walk.
use Rattle.std.proofs.Common.{◌≡◌, ℕ, suc, ◌+◌, ◌-◌, ◌<◌, ◌≤◌, Bool, true, false, List, [], ◌∷◌, ◌++◌, length, take, drop, get_or, Option, Some, None, refl, sym, ap, subst, ◌∙◌, add-one, arith}
use Rattle.std.proofs.Math.Seq.{drop-cons}
use Rattle.std.proofs.lemmas.List.{take-append-drop}
use Rattle.std.specs.Prelude.{is_some, option_map, unwrap_or, slice_range}
use Rattle.jr_text.specs.declared.spans.Span.{Span}
use Rattle.jr_lex.specs.declared.items.Item.{Item}
use Rattle.jr_lex.specs.declared.items.ItemKind.TheVariants.{Token as TokenItem}
use Rattle.jr_lex.specs.declared.items.TokenKind.TheVariants.{Word}
use Rattle.jr_lex.specs.Lexes.{Lexes}
use Rattle.jr_lex.specs.Places.{IsPlaced, ItemsPlaced}
use Rattle.jr_grammar.specs.Tokens.{Token, token_of, placed_of}
use Rattle.jr_ast.specs.Tree.{Exp}
use Rattle.jr_pexpr.specs.declared.rules.Rule.{Rule}
use Rattle.jr_pexpr.specs.declared.rules.Rule.TheVariants.{Expression, StatementExpression}
use Rattle.jr_pexpr.specs.Pieces.{Piece, a_close, a_comma, a_class, another, piece_of}
use Rattle.jr_pexpr.specs.Machine.{Frame, State, have, reduced, whole_of, extended, closed, continued, stepped, kept_open, kept_statement}
use Rattle.jr_pexpr.specs.Marked.{join, span_step, span_whole}
use Rattle.jr_pexpr.specs.ExpView.{placed}
use Rattle.jr_pexpr.specs.Walks.{rule_step, rule_whole, rule_run, is_end, end_at, walk_end, walk_stop, walk_last}

-- what stands for the item behind the last
abbrev pub no_item : Item
no_item = record { kind = TokenItem Word; span = record { from = 0; to = 0 } }

-- ---- the item at i

pub drop_at : (items : List Item) (i : ℕ) → i < length items → drop i items ≡ get_or items i no_item ∷ drop (i + 1) items
drop_at items i h = rw add-one (drop-cons items i no_item h)

pub placed_at : (bytes : List ℕ) (items : List Item) (i : ℕ) → ItemsPlaced → Lexes bytes items → i < length items → IsPlaced bytes (get_or items i no_item)
placed_at bytes items i p l h =
    let split : items ≡ take i items ++ get_or items i no_item ∷ drop (i + 1) items =
    sym (take-append-drop i items) ∙ ap (λ (is : List Item). take i items ++ is) (drop_at items i h) in
    (p bytes (take i items) (get_or items i no_item) (drop (i + 1) items) (subst (Lexes bytes) split l)).0

module _ (r : Rule) (bytes : List ℕ) (items : List Item) (i : ℕ) (s : State Span) (end : Option ℕ) where
  abbrev item : Item
  item = get_or items i no_item

  -- with the item at i the walk goes on in another state
  pub record GoesOn (n : State Span) (more : Option ℕ) : Type 0 where
    pub ends : walk_end r bytes n (i + 1) more (drop (i + 1) items) ≡ walk_end r bytes s i end (drop i items)
    pub stops : walk_stop r bytes n (i + 1) (drop (i + 1) items) ≡ walk_stop r bytes s i (drop i items)
    pub last : walk_last r bytes n (drop (i + 1) items) ≡ walk_last r bytes s (drop i items)

  -- or stops there
  pub record Halts : Type 0 where
    pub ends : end ≡ walk_end r bytes s i end (drop i items)
    pub stops : i ≡ walk_stop r bytes s i (drop i items)
    pub last : s ≡ walk_last r bytes s (drop i items)

  pub by_token : (t : Token) (n : State Span) (more : Option ℕ) → i < length items → token_of bytes item.span item.kind ≡ Some t → rule_step r s (placed item.span t) ≡ Some n → more ≡ end_at r bytes n (i + 1) end
      → GoesOn n more
  by_token t n more h e f m =
      let at = drop_at items i h in
      record {
        ends = rw (at, e, f, m) refl;
        stops = rw (at, e, f) refl;
        last = rw (at, e, f) refl;
      }

  pub by_blank : i < length items → token_of bytes item.span item.kind ≡ None → GoesOn s end
  by_blank h e =
      let at = drop_at items i h in
      record {
        ends = rw (at, e) refl;
        stops = rw (at, e) refl;
        last = rw (at, e) refl;
      }

  pub by_halt : (t : Token) → i < length items → token_of bytes item.span item.kind ≡ Some t → rule_step r s (placed item.span t) ≡ None → Halts
  by_halt t h e f =
      let at = drop_at items i h in
      record {
        ends = rw (at, e, f) refl;
        stops = rw (at, e, f) refl;
        last = rw (at, e, f) refl;
      }

-- ---- a run over the items up to another

slice_at : (items : List Item) (i to : ℕ) → i < to → to ≤ length items → slice_range items i to ≡ get_or items i no_item ∷ slice_range items (i + 1) to
slice_at items i to h w =
    let n : to - i ≡ suc (to - (i + 1)) = omega arith in
    ap (λ (k : ℕ). take k (drop i items)) n ∙ ap (λ (is : List Item). take (suc (to - (i + 1))) is) (drop_at items i (omega arith))

module _ (r : Rule) (bytes : List ℕ) (items : List Item) (i to : ℕ) (s : State Span) where
  abbrev here : Item
  here = get_or items i no_item

  pub run_token : (t : Token) (n : State Span) → i < to → to ≤ length items → token_of bytes here.span here.kind ≡ Some t → rule_step r s (placed here.span t) ≡ Some n
      → rule_run r n (placed_of bytes (slice_range items (i + 1) to)) ≡ rule_run r s (placed_of bytes (slice_range items i to))
  run_token t n h w e f = let at = slice_at items i to h w in rw (at, e, f) refl

  pub run_blank : i < to → to ≤ length items → token_of bytes here.span here.kind ≡ None → rule_run r s (placed_of bytes (slice_range items (i + 1) to)) ≡ rule_run r s (placed_of bytes (slice_range items i to))
  run_blank h w e = let at = slice_at items i to h w in rw (at, e) refl

  pub run_halt : (t : Token) → i < to → to ≤ length items → token_of bytes here.span here.kind ≡ Some t → rule_step r s (placed here.span t) ≡ None → rule_run r s (placed_of bytes (slice_range items i to)) ≡ None
  run_halt t h w e f = let at = slice_at items i to h w in rw (at, e, f) refl

-- ---- nothing whole goes on with an end

closed_none : (at : Span) (o : Option (State Span)) → is_some (whole_of o) ≡ true → closed join at o ≡ None
closed_none at (Some (have [] e)) h = refl
closed_none at (Some (have (f ∷ fs) e)) h = absurd cc
closed_none at (Some _) h = absurd cc
closed_none at None h = refl

continued_none : (o : Option (State Span)) → is_some (whole_of o) ≡ true → continued o ≡ None
continued_none (Some (have [] e)) h = refl
continued_none (Some (have (f ∷ fs) e)) h = absurd cc
continued_none (Some _) h = absurd cc
continued_none None h = refl

extended_none : (fs : List (Frame Span)) (e : Exp Span) (at : Span) (p : Piece) → is_end p ≡ true → is_some (whole_of (reduced join 1 fs e)) ≡ true → extended join fs e at p ≡ None
unfolding extended
extended_none fs e at a_close h w = closed_none at (reduced join 1 fs e) w
extended_none fs e at a_comma h w = continued_none (reduced join 1 fs e) w
extended_none fs e at a_class h w = refl
extended_none fs e at (another t) h w = refl
extended_none fs e at _ h w = absurd cc

pub step_none : (s : State Span) (at : Span) (t : Token) → is_end (piece_of t) ≡ true → is_some (span_whole s) ≡ true → span_step s (placed at t) ≡ None
step_none (have fs e) at t h w = extended_none fs e at (piece_of t) h w
step_none _ at t h w = absurd cc

kept_some : (o : Option (Exp Span)) → is_some (kept_statement o) ≡ true → is_some o ≡ true
kept_some (Some e) h = refl
kept_some None h = absurd cc

pub halted : (r : Rule) (s : State Span) (at : Span) (t : Token) → is_end (piece_of t) ≡ true → is_some (rule_whole r s) ≡ true → rule_step r s (placed at t) ≡ None
halted Expression s at t h w = step_none s at t h w
halted StatementExpression s at t h w = ap kept_open (step_none s at t h (kept_some (span_whole s) w))
