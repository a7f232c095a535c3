-- Spans that lie on tokens of names: words, `super` and dots.
use Rattle.std.proofs.Common.{◌≡◌, ℕ, ◌≤◌, List, [], ◌∷◌, ◌++◌, refl, sym, ap, subst, ◌∙◌, inl, inr, arith}
use Rattle.std.specs.Prelude.{◌⊎◌}
use Rattle.jr_text.specs.declared.spans.Span.{Span}
use Rattle.jr_lex.specs.declared.items.Keyword.TheVariants.{Super}
use Rattle.jr_lex.specs.declared.items.Symbol.TheVariants.{Dot}
use Rattle.jr_ast.specs.declared.operators.BumpOp.TheVariants.{PreInc, PreDec, PostInc, PostDec}
use Rattle.jr_ast.specs.Tree as tree
use Rattle.jr_ast.specs.Marks.{exp_mark}
use Rattle.jr_grammar.specs.Tokens.{Token, Placed, word, keyword, symbol}
use Rattle.jr_grammar.specs.Stands.{Tokens, first_from, last_to, span_of, IsAlone, InOrder, IsNode, Stands, StandInOrder}
use Rattle.jr_grammar.specs.Layout.{done}
use Rattle.jr_grammar.specs.ExpressionLayout.{word_layout, exp_layout}
use Rattle.jr_program_laws.proofs.TokenOrder.{StartsIn, Rising, in_back, rising_back, Filled}
use Rattle.jr_rewrite.specs.Suitable.{IsPath}
use Rattle.jr_reference_changes.specs.Names.{Meet}

-- ---- tokens

abbrev pub IsNameToken : Token → Type 0
IsNameToken t = ((text : List ℕ) × (t ≡ word text)) ⊎ ((t ≡ keyword Super) ⊎ (t ≡ symbol Dot))

abbrev pub Has : Tokens → Placed Span → Type 0
Has [] p = ⊥
Has (q ∷ ps) p = (q ≡ p) ⊎ Has ps p

-- one of them begins or ends there
abbrev pub Bounds : Tokens → ℕ → Type 0
Bounds [] k = ⊥
Bounds (p ∷ ps) k = (k ≡ p.mark.from) ⊎ ((k ≡ p.mark.to) ⊎ Bounds ps k)

-- it begins and ends where tokens do, and those that it meets are of names
pub record OnNames (ps : Tokens) (s : Span) : Type 0 where
  pub from : Bounds ps s.from
  pub to : Bounds ps s.to
  pub names : (p : Placed Span) → Has ps p → Meet p.mark s → IsNameToken p.token

pub bounds_front : (a b : Tokens) (k : ℕ) → Bounds a k → Bounds (a ++ b) k
bounds_front [] b k h = absurd h
bounds_front (p ∷ a) b k (inl e) = inl e
bounds_front (p ∷ a) b k (inr (inl e)) = inr (inl e)
bounds_front (p ∷ a) b k (inr (inr h)) = inr (inr (bounds_front a b k h))

pub bounds_back : (a b : Tokens) (k : ℕ) → Bounds b k → Bounds (a ++ b) k
bounds_back [] b k h = h
bounds_back (p ∷ a) b k h = inr (inr (bounds_back a b k h))

pub has_either : (a b : Tokens) (p : Placed Span) → Has (a ++ b) p → Has a p ⊎ Has b p
has_either [] b p h = inr h
has_either (q ∷ a) b p (inl e) = inl (inl e)
has_either (q ∷ a) b p (inr h) = elim (has_either a b p h) [ inl l ↦ inl (inr l) | inr r ↦ inr r ]

pub has_starts : (ps : Tokens) (p : Placed Span) → Has ps p → StartsIn ps p.mark.from
has_starts [] p h = absurd h
has_starts (q ∷ ps) p (inl e) = inl (ap (λ (x : Placed Span). x.mark.from) (sym e))
has_starts (q ∷ ps) p (inr h) = inr (has_starts ps p h)

-- a bound is where a token begins, or behind that
bound_behind_start : (ps : Tokens) → Rising ps → (k : ℕ) → Bounds ps k → (at : ℕ) × (StartsIn ps at × (at ≤ k))
bound_behind_start [] h k b = absurd b
bound_behind_start (p ∷ ps) h k (inl e) = (p.mark.from, (inl refl, omega arith))
bound_behind_start (p ∷ ps) h k (inr (inl e)) = (let less = h.0 in (p.mark.from, (inl refl, omega arith)))
bound_behind_start (p ∷ ps) h k (inr (inr b)) = (let r = bound_behind_start ps h.2 k b in (r.0, (inr r.1.0, r.1.1)))

-- bounds in front come before tokens behind, and bounds behind come behind tokens in front
bound_before : (a b : Tokens) → Rising (a ++ b) → (k : ℕ) (p : Placed Span) → Bounds a k → Has b p → k ≤ p.mark.from
bound_before [] b h k p l r = absurd l
bound_before (q ∷ a) b h k p (inl e) r = let less = h.0 in let to = h.1 p.mark.from (in_back a b p.mark.from (has_starts b p r)) in omega arith
bound_before (q ∷ a) b h k p (inr (inl e)) r = let to = h.1 p.mark.from (in_back a b p.mark.from (has_starts b p r)) in omega arith
bound_before (q ∷ a) b h k p (inr (inr l)) r = bound_before a b h.2 k p l r

bound_behind : (a b : Tokens) → Rising (a ++ b) → (k : ℕ) (p : Placed Span) → Has a p → Bounds b k → p.mark.to ≤ k
bound_behind [] b h k p l r = absurd l
bound_behind (q ∷ a) b h k p (inl e) r =
    let s = bound_behind_start b (rising_back a b h.2) k r in
    let to = h.1 s.0 (in_back a b s.0 s.1.0) in
    let least = s.1.1 in
    let same = ap (λ (x : Placed Span). x.mark.to) e in
    omega arith
bound_behind (q ∷ a) b h k p (inr l) r = bound_behind a b h.2 k p l r

module _ (a b ps : Tokens) (w : ps ≡ a ++ b) (rising : Rising ps) (s : Span) where
  two : Rising (a ++ b)
  two = subst Rising w rising

  pub front_names : OnNames a s → OnNames ps s
  front_names h = record {
    from = subst (λ (qs : Tokens). Bounds qs s.from) (sym w) (bounds_front a b s.from h.from);
    to = subst (λ (qs : Tokens). Bounds qs s.to) (sym w) (bounds_front a b s.to h.to);
    names = λ p has meet. by p meet (has_either a b p (subst (λ (qs : Tokens). Has qs p) w has));
  }
    where
      by : (p : Placed Span) → Meet p.mark s → Has a p ⊎ Has b p → IsNameToken p.token
      by p meet (inl l) = h.names p l meet
      by p meet (inr r) = let first = bound_before a b two s.to p h.to r in let less = meet.0 in absurd (omega arith)

  pub back_names : OnNames b s → OnNames ps s
  back_names h = record {
    from = subst (λ (qs : Tokens). Bounds qs s.from) (sym w) (bounds_back a b s.from h.from);
    to = subst (λ (qs : Tokens). Bounds qs s.to) (sym w) (bounds_back a b s.to h.to);
    names = λ p has meet. by p meet (has_either a b p (subst (λ (qs : Tokens). Has qs p) w has));
  }
    where
      by : (p : Placed Span) → Meet p.mark s → Has a p ⊎ Has b p → IsNameToken p.token
      by p meet (inl l) = let last = bound_behind a b two s.from p l h.from in let less = meet.1 in absurd (omega arith)
      by p meet (inr r) = h.names p r meet

-- ---- tokens of names alone

abbrev pub AllNames : Tokens → Type 0
AllNames ps = (p : Placed Span) → Has ps p → IsNameToken p.token

pub all_names : (ps : Tokens) (s : Span) → Bounds ps s.from → Bounds ps s.to → AllNames ps → OnNames ps s
all_names ps s from to all = record { from = from; to = to; names = λ p has meet. all p has }

pub first_bounds : (ps : Tokens) → Filled ps → Bounds ps (first_from ps)
first_bounds [] f = absurd f
first_bounds (p ∷ ps) f = inl refl

pub last_bounds : (ps : Tokens) → Filled ps → Bounds ps (last_to ps)
last_bounds [] f = absurd f
last_bounds (p ∷ []) f = inr (inl refl)
last_bounds (p ∷ q ∷ ps) f = inr (inr (last_bounds (q ∷ ps) tt))

pub record Named (P : Tokens → Type 0) : Type 0 where
  pub named : (ps : Tokens) → P ps → AllNames ps

pub alone_named : {t : Token} → IsNameToken t → Named (IsAlone t)
alone_named {t} is = record { named = λ ps h p has. by h p (subst (λ (qs : Tokens). Has qs p) h.alone has) }
  where
    by : {ps : Tokens} (h : IsAlone t ps) (p : Placed Span) → (h.placed ≡ p) ⊎ ⊥ → IsNameToken p.token
    by h p (inl e) = subst IsNameToken (sym h.is ∙ ap (λ (x : Placed Span). x.token) e) is
    by h p (inr none) = absurd none

pub order_named : {P Q : Tokens → Type 0} → Named P → Named Q → Named (InOrder P Q)
order_named f g = record {
  named = λ ps h p has. elim (has_either h.front h.back p (subst (λ (qs : Tokens). Has qs p) h.whole has)) [ inl l ↦ f.named h.front h.first p l | inr r ↦ g.named h.back h.rest p r ];
}

pub done_named : Named (StandInOrder done)
done_named = record { named = λ ps h p has. absurd (subst (λ (qs : Tokens). Has qs p) h has) }

pub node_named : {m : Span} {P : Tokens → Type 0} → Named P → Named (IsNode m P)
node_named f = record { named = λ ps h. f.named ps h.parts }

pub word_named : (w : tree.Word Span) → Named (Stands (word_layout w))
word_named w = node_named (order_named (alone_named (inl (w.text, refl))) done_named)

pub dot_named : Named (IsAlone (symbol Dot))
dot_named = alone_named (inr (inr refl))

pub super_named : Named (IsAlone (keyword Super))
super_named = alone_named (inr (inl refl))

pub path_named : (e : tree.Exp Span) → IsPath e → Named (Stands (exp_layout e))
path_named (tree.name m w) is = node_named (order_named (word_named w) done_named)
path_named (tree.field m e w) is = node_named (order_named (path_named e is) (order_named dot_named (order_named (word_named w) done_named)))
path_named (tree.number m n) is = absurd is
path_named (tree.truth m b) is = absurd is
path_named (tree.null m) is = absurd is
path_named (tree.string m s) is = absurd is
path_named (tree.super_field m w) is = absurd is
path_named (tree.this m) is = absurd is
path_named (tree.class_literal m t) is = absurd is
path_named (tree.call m to w args) is = absurd is
path_named (tree.super_call m w args) is = absurd is
path_named (tree.create m t args) is = absurd is
path_named (tree.paren m e) is = absurd is
path_named (tree.cast m t e) is = absurd is
path_named (tree.unary m op e) is = absurd is
path_named (tree.bump m op e) is = absurd is
path_named (tree.binary m op x y) is = absurd is
path_named (tree.assign m x y) is = absurd is
path_named (tree.compound m op x y) is = absurd is

-- ---- the span of an expression's tokens

pub exp_node : (e : tree.Exp Span) (ps : Tokens) → Stands (exp_layout e) ps → exp_mark e ≡ span_of ps
exp_node (tree.number m n) ps h = h.mark
exp_node (tree.truth m b) ps h = h.mark
exp_node (tree.null m) ps h = h.mark
exp_node (tree.string m s) ps h = h.mark
exp_node (tree.name m w) ps h = h.mark
exp_node (tree.field m e w) ps h = h.mark
exp_node (tree.super_field m w) ps h = h.mark
exp_node (tree.this m) ps h = h.mark
exp_node (tree.class_literal m t) ps h = h.mark
exp_node (tree.call m to w args) ps h = h.mark
exp_node (tree.super_call m w args) ps h = h.mark
exp_node (tree.create m t args) ps h = h.mark
exp_node (tree.paren m e) ps h = h.mark
exp_node (tree.cast m t e) ps h = h.mark
exp_node (tree.unary m op e) ps h = h.mark
exp_node (tree.bump m PreInc e) ps h = h.mark
exp_node (tree.bump m PreDec e) ps h = h.mark
exp_node (tree.bump m PostInc e) ps h = h.mark
exp_node (tree.bump m PostDec e) ps h = h.mark
exp_node (tree.binary m op x y) ps h = h.mark
exp_node (tree.assign m x y) ps h = h.mark
exp_node (tree.compound m op x y) ps h = h.mark
