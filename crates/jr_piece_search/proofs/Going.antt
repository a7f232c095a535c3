-- How far a search within an expression has come: each way from here on goes on one from the start,
-- and a search by spans finds there what it finds here.
use Rattle.std.proofs.Common.{◌≡◌, ℕ, Bool, true, false, List, [], ◌∷◌, ◌++◌, Option, Some, None, option_map, if◌then◌else◌, refl, ap, sym, subst, ◌∙◌, append_assoc, append-nil}
use Rattle.jr_text.specs.declared.spans.Span.{Span}
use Rattle.jr_ast.specs.Tree as tree
use Rattle.jr_ast.specs.Marks.{exp_mark}
use Rattle.jr_grammar.specs.Layout.{itself}
use Rattle.jr_pieces.specs.Ways.{ExpWay, here, in_front, in_target, in_argument, in_super_argument, in_created, in_paren, in_cast, in_unary, in_bump, in_left, in_right, in_assigned, in_value, in_changed, in_change}
use Rattle.jr_pieces.specs.Finding.{same_span, onto, find_exp, exp_path}
use Rattle.jr_pieces.specs.Uses.{Use, exp_use}
use Rattle.jr_pieces.specs.Bars.{exp_barred}
use Rattle.jr_piece_search.specs.Steps.{Step, inward}
use Rattle.jr_piece_search.specs.Sought.{begins, Bars, barred, IsFoundIn}
use Rattle.jr_piece_search.proofs.Leading.{Of, Leads, Goes, leads, follow, follows}

-- the bars don't depend on where the parent begins
bars_alike : (f e : tree.Exp Span) (d : ExpWay f e) (a b : ℕ) (o : Option ℕ) → exp_barred begins a o d ≡ exp_barred begins b o d
bars_alike f e here a b o = refl
bars_alike f e (in_front m x w d) a b o = refl
bars_alike f e (in_target m x w es d) a b o = refl
bars_alike f e (in_argument m t w es d) a b o = refl
bars_alike f e (in_super_argument m w es d) a b o = refl
bars_alike f e (in_created m t es d) a b o = refl
bars_alike f e (in_paren m x d) a b o = refl
bars_alike f e (in_cast m t x d) a b o = refl
bars_alike f e (in_unary m p x d) a b o = refl
bars_alike f e (in_bump m p x d) a b o = refl
bars_alike f e (in_left m p l r d) a b o = refl
bars_alike f e (in_right m p l r d) a b o = refl
bars_alike f e (in_assigned m t x d) a b o = refl
bars_alike f e (in_value m t x d) a b o = refl
bars_alike f e (in_changed m p t x d) a b o = refl
bars_alike f e (in_change m p t x d) a b o = refl

finds_alike : (s : Span) (e : tree.Exp Span) (a b : ℕ) → find_exp itself s a e ≡ find_exp itself s b e
finds_alike s (tree.number m n) a b = refl
finds_alike s (tree.truth m t) a b = refl
finds_alike s (tree.null m) a b = refl
finds_alike s (tree.string m t) a b = refl
finds_alike s (tree.name m w) a b = refl
finds_alike s (tree.super_field m w) a b = refl
finds_alike s (tree.this m) a b = refl
finds_alike s (tree.class_literal m t) a b = refl
finds_alike s (tree.field m e w) a b = refl
finds_alike s (tree.paren m e) a b = refl
finds_alike s (tree.cast m t e) a b = refl
finds_alike s (tree.unary m o e) a b = refl
finds_alike s (tree.bump m o e) a b = refl
finds_alike s (tree.binary m o l r) a b = refl
finds_alike s (tree.assign m l r) a b = refl
finds_alike s (tree.compound m o l r) a b = refl
finds_alike s (tree.super_call m w es) a b = refl
finds_alike s (tree.create m t es) a b = refl
finds_alike s (tree.call m tree.no_target w es) a b = refl
finds_alike s (tree.call m (tree.on e) w es) a b = refl

-- behind a path
abbrev pub behind : List ℕ → Option (List ℕ) → Option (List ℕ)
behind p o = option_map (λ q. p ++ q) o

behind_nothing : (o : Option (List ℕ)) → o ≡ behind [] o
behind_nothing None = refl
behind_nothing (Some q) = refl

pub behind_onto : (p : List ℕ) (i : ℕ) (o : Option (List ℕ)) → behind p (onto i o) ≡ behind (p ++ i ∷ []) o
behind_onto p i None = refl
behind_onto p i (Some q) = ap (λ (x : List ℕ). Some x) (sym (append_assoc p (i ∷ []) q))

-- from an expression that is used so and has these bars, to one that is used so and has these
module _ (s : Span) (u0 : Use) (b0 : Bars) (e0 : tree.Exp Span) (old : List ℕ) where
  pub record GoesOn (u : Use) (b : Bars) (e : tree.Exp Span) (pushed : List ℕ) (f : tree.Exp Span) (d : ExpWay f e) : Type 0 where
    pub way : ExpWay f e0
    pub path : exp_path way ≡ pushed ++ exp_path d
    pub used : exp_use u0 way ≡ exp_use u d
    pub outer : (x y : ℕ) → exp_barred begins x b0.outer way ≡ exp_barred begins y b.outer d
    pub own : (x y : ℕ) → exp_barred begins x b0.own way ≡ exp_barred begins y b.own d

  pub record Going (u : Use) (b : Bars) (e : tree.Exp Span) (new : List ℕ) : Type 0 where
    pub pushed : List ℕ
    pub path : new ≡ old ++ pushed
    pub finds : (x y : ℕ) → find_exp itself s x e0 ≡ behind pushed (find_exp itself s y e)
    pub ways : (f : tree.Exp Span) (d : ExpWay f e) → GoesOn u b e pushed f d

  pub starts : Going u0 b0 e0 old
  starts = record {
    pushed = [];
    path = sym (append-nil old);
    finds = λ x y. finds_alike s e0 x y ∙ behind_nothing (find_exp itself s y e0);
    ways = λ f d. record { way = d; path = refl; used = refl; outer = λ x y. bars_alike f e0 d x y b0.outer; own = λ x y. bars_alike f e0 d x y b0.own };
  }

  pub goes : (u : Use) (b : Bars) (e : tree.Exp Span) (new : List ℕ) (x : Step) → Going u b e new → same_span (exp_mark e) s ≡ false → inward s e ≡ Some x
      → Going x.usage (barred b x.lazy (exp_mark e).from) x.part (new ++ x.number ∷ [])
  goes u b e new x g other is = record {
    pushed = g.pushed ++ x.number ∷ [];
    path = ap (λ p. p ++ x.number ∷ []) g.path ∙ append_assoc old g.pushed (x.number ∷ []);
    finds = λ i j. g.finds i i ∙ ap (behind g.pushed) (follows s i e other ∙ ap (follow s (exp_mark e).from) is) ∙ behind_onto g.pushed x.number (find_exp itself s (exp_mark e).from x.part)
        ∙ ap (behind (g.pushed ++ x.number ∷ [])) (finds_alike s x.part (exp_mark e).from j);
    ways = λ f d. on f d (step f d) (g.ways f (step f d).way);
  }
    where
      step : Leads e x
      step = subst (Of (Leads e)) is (leads s e)

      own_of : (l : Bool) (at : ℕ) → (barred b l at).own ≡ (if l then Some at else b.own)
      own_of true at = refl
      own_of false at = refl

      outer_of : (l : Bool) (at : ℕ) → (barred b l at).outer ≡ (if l then Some at else b.outer)
      outer_of true at = refl
      outer_of false at = refl

      on : (f : tree.Exp Span) (d : ExpWay f x.part) (t : Goes e x f d) → GoesOn u b e g.pushed f t.way → GoesOn x.usage (barred b x.lazy (exp_mark e).from) x.part (g.pushed ++ x.number ∷ []) f d
      on f d t r = record {
        way = r.way;
        path = r.path ∙ ap (λ p. g.pushed ++ p) t.path ∙ sym (append_assoc g.pushed (x.number ∷ []) (exp_path d));
        used = r.used ∙ t.used u;
        outer = λ i j. r.outer i i ∙ t.barred i b.outer ∙ ap (λ o. exp_barred begins (exp_mark e).from o d) (sym (outer_of x.lazy (exp_mark e).from)) ∙ bars_alike f x.part d (exp_mark e).from j (barred b x.lazy (exp_mark e).from).outer;
        own = λ i j. r.own i i ∙ t.barred i b.own ∙ ap (λ o. exp_barred begins (exp_mark e).from o d) (sym (own_of x.lazy (exp_mark e).from)) ∙ bars_alike f x.part d (exp_mark e).from j (barred b x.lazy (exp_mark e).from).own;
      }

  -- it is the expression itself
  pub found : (u : Use) (b : Bars) (e : tree.Exp Span) (new : List ℕ) → Going u b e new → exp_mark e ≡ s → IsFoundIn s u0 b0 e0 old new (Some (record { value = e; usage = u; bars = b }))
  found u b e new g is = let r = g.ways e here in (
    is,
    record {
      way = r.way;
      path = g.path ∙ ap (λ p. old ++ p) (sym (r.path ∙ append-nil g.pushed));
      used = sym r.used;
      outer = λ x. sym (r.outer x x);
      own = λ x. sym (r.own x x);
    },
  )

  -- it has no part for the span
  pub none : (u : Use) (b : Bars) (e : tree.Exp Span) (new : List ℕ) → Going u b e new → same_span (exp_mark e) s ≡ false → inward s e ≡ None → IsFoundIn s u0 b0 e0 old new None
  none u b e new g other is = λ x. g.finds x x ∙ ap (behind g.pushed) (follows s x e other ∙ ap (follow s (exp_mark e).from) is)

  -- by equal values
  pub same_place : (u : Use) (b c : Bars) (e : tree.Exp Span) (new other : List ℕ) → c ≡ b → other ≡ new → Going u b e new → Going u c e other
  same_place u b c e new other p q g = subst (λ (n : List ℕ). Going u c e n) (sym q) (subst (λ (d : Bars). Going u d e new) (sym p) g)
