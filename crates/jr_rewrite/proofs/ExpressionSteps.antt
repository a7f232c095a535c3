-- Steps of types and expressions: the changes of a rewritten tree lead from its tokens to those of
-- the new tree.
use Rattle.std.proofs.Common.{◌≡◌, ℕ, false, inl, inr, List, [], ◌∷◌, ◌++◌, Some, None, sym, ap, ◌∙◌, subst, append_assoc}
use Rattle.jr_text.specs.declared.spans.Span.{Span}
use Rattle.jr_lex.specs.declared.items.Symbol.TheVariants.{OpenParen, CloseParen, Dot, Equals, PlusPlus, MinusMinus}
use Rattle.jr_lex.specs.declared.items.Keyword.TheVariants.{Class, Super}
use Rattle.jr_ast.specs.declared.operators.BumpOp.TheVariants.{PreInc, PreDec, PostInc, PostDec}
use Rattle.jr_ast.specs.Tree as tree
use Rattle.jr_ast.specs.Marks.{exp_mark}
use Rattle.jr_grammar.specs.Tokens.{Token, word, keyword, symbol}
use Rattle.jr_grammar.specs.Spelling.{toks, target_toks, args_toks, more_toks, type_toks, binary_symbol, compound_symbol}
use Rattle.jr_grammar.specs.Layout.{spans_from}
use Rattle.jr_grammar.specs.ExpressionLayout.{type_layout, exp_layout, target_layout, args_layout, more_args_layout}
use Rattle.jr_grammar.specs.Stands.{Tokens, first_from, span_of, IsAlone, InOrder, IsNode, Stands}
use Rattle.jr_table.specs.Context.{Context}
use Rattle.jr_table.specs.Binding.{Role, value, left}
use Rattle.jr_rewrite.specs.Respellings.{Front, same, alone, by_this, by_super, by_cast_this, by_class, by_outer_class, by_cast, Choice, front_of, text_of}
use Rattle.jr_rewrite.specs.Rewritten.{Rewritten, word_changes, dotted_changes, super_changes, qualified_changes, word_to, operand_to, variable_on, variable_to, super_to, target_of, qualifier_to, Called}
use Rattle.jr_rewrite.specs.Suitable.{Suits, MayStandAlone, MayStandBeforeVariable, MayStandBeforeMethod, MayStandBeforeType, MayStandFor, IsPath, SuitsCall, AreSuitable}
use Rattle.jr_rewrite.specs.Spots.{Asks, operand_asks, Spotted, nowhere, spotted, OrPart}
use Rattle.jr_rewrite.specs.Rewrites.{Choosing, TypeOut, RewritesType, TransformsExp, TransformsTarget, TransformsRow, TransformsPart}
use Rattle.jr_rewrite.specs.Woven.{Weaving}
use Rattle.jr_rewrite.specs.SuitableSpots.{SpotsSuit}
use Rattle.jr_rewrite.proofs.ExpressionShapes.{this_is}
use Rattle.jr_rewrite.proofs.Steps.{BeginWordLike, IsWordLike, Stepped}
use Rattle.jr_rewrite.proofs.Stepping.{part_woven, stepped_new, none_steps, both_steps, token_steps, closing_steps, last_steps, end_steps, alone_steps, IsSome, first_some, token_some, rest_some, IsOneWord, one_word, dotted, regrouped, dotted_target}
use Rattle.jr_rewrite.proofs.WordSteps.{chosen, word_steps, dotted_chosen, dotted_steps, MayBehindDot, qualified_chosen, qualified_dotted, super_chosen, super_dotted}
use Rattle.jr_rewrite.proofs.NewTokens.{chosen_alone, name_toks, super_field_toks, simple_call_toks, simple_type_toks, qualified_type_toks, field_toks, dotted_call_toks}

-- ---- which fronts may stand

pub alone_variable : (f : Front) → MayStandAlone f → MayStandBeforeVariable f
alone_variable same may = tt
alone_variable alone may = tt
alone_variable by_this may = tt
alone_variable by_super may = tt
alone_variable (by_cast_this k) may = tt
alone_variable (by_class k) may = tt
alone_variable (by_outer_class o k) may = tt
alone_variable (by_cast k) may = may

type_variable : (f : Front) → MayStandBeforeType f → MayStandBeforeVariable f
type_variable (by_cast k) may = may
type_variable same may = tt
type_variable alone may = tt
type_variable by_this may = tt
type_variable by_super may = tt
type_variable (by_cast_this k) may = tt
type_variable (by_class k) may = tt
type_variable (by_outer_class o k) may = tt

method_variable : (f : Front) → MayStandBeforeMethod f → MayStandBeforeVariable f
method_variable (by_cast k) may = may
method_variable same may = tt
method_variable alone may = tt
method_variable by_this may = tt
method_variable by_super may = tt
method_variable (by_cast_this k) may = tt
method_variable (by_class k) may = tt
method_variable (by_outer_class o k) may = tt

for_dotted : {A : Type 0} (e : tree.Exp A) (ps : Tokens) → (IsPath e → BeginWordLike ps) → (f : Front) → MayStandFor e f → MayBehindDot ps f
for_dotted e ps begins same may = tt
for_dotted e ps begins alone may = begins may
for_dotted e ps begins by_this may = begins may
for_dotted e ps begins by_super may = absurd may
for_dotted e ps begins (by_cast_this k) may = begins may
for_dotted e ps begins (by_class k) may = begins may
for_dotted e ps begins (by_outer_class o k) may = begins may
for_dotted e ps begins (by_cast k) may = tt

module _ {A : Type 0} (tells : A → ℕ → Span) where
  -- ---- the tokens of a tree

  type_some : (base : ℕ) (t : tree.TypeName A) (ps : Tokens) → Stands (spans_from tells base (type_layout t)) ps → IsSome ps
  type_some base (tree.int m) ps h = token_some ps h.parts
  type_some base (tree.boolean m) ps h = token_some ps h.parts
  type_some base (tree.named m None w) ps h = first_some ps h.parts (λ qs k. token_some qs k.parts)
  type_some base (tree.named m (Some o) w) ps h = first_some ps h.parts (λ qs k. token_some qs k.parts)

  mutual
    pub exp_some : (base : ℕ) (e : tree.Exp A) (ps : Tokens) → Stands (spans_from tells base (exp_layout e)) ps → IsSome ps
    exp_some base (tree.number m n) ps h = token_some ps h.parts
    exp_some base (tree.truth m b) ps h = token_some ps h.parts
    exp_some base (tree.null m) ps h = token_some ps h.parts
    exp_some base (tree.string m s) ps h = token_some ps h.parts
    exp_some base (tree.name m w) ps h = first_some ps h.parts (λ qs k. token_some qs k.parts)
    exp_some base (tree.field m e w) ps h = first_some ps h.parts (exp_some (tells m base).from e)
    exp_some base (tree.super_field m w) ps h = token_some ps h.parts
    exp_some base (tree.this m) ps h = token_some ps h.parts
    exp_some base (tree.class_literal m t) ps h = first_some ps h.parts (type_some (tells m base).from t)
    exp_some base (tree.call m to w args) ps h = rest_some ps h.parts (λ qs k. first_some qs k (λ rs l. token_some rs l.parts))
    exp_some base (tree.super_call m w args) ps h = token_some ps h.parts
    exp_some base (tree.create m t args) ps h = token_some ps h.parts
    exp_some base (tree.paren m e) ps h = token_some ps h.parts
    exp_some base (tree.cast m t e) ps h = token_some ps h.parts
    exp_some base (tree.unary m op e) ps h = token_some ps h.parts
    exp_some base (tree.bump m PreInc e) ps h = token_some ps h.parts
    exp_some base (tree.bump m PreDec e) ps h = token_some ps h.parts
    exp_some base (tree.bump m PostInc e) ps h = first_some ps h.parts (exp_some (tells m base).from e)
    exp_some base (tree.bump m PostDec e) ps h = first_some ps h.parts (exp_some (tells m base).from e)
    exp_some base (tree.binary m op x y) ps h = first_some ps h.parts (exp_some (tells m base).from x)
    exp_some base (tree.assign m x y) ps h = first_some ps h.parts (exp_some (tells m base).from x)
    exp_some base (tree.compound m op x y) ps h = first_some ps h.parts (exp_some (tells m base).from x)

  -- where an expression stands
  exp_span : (base : ℕ) (e : tree.Exp A) (ps : Tokens) → Stands (spans_from tells base (exp_layout e)) ps → tells (exp_mark e) base ≡ span_of ps
  exp_span base (tree.number m n) ps h = h.mark
  exp_span base (tree.truth m b) ps h = h.mark
  exp_span base (tree.null m) ps h = h.mark
  exp_span base (tree.string m s) ps h = h.mark
  exp_span base (tree.name m w) ps h = h.mark
  exp_span base (tree.field m e w) ps h = h.mark
  exp_span base (tree.super_field m w) ps h = h.mark
  exp_span base (tree.this m) ps h = h.mark
  exp_span base (tree.class_literal m t) ps h = h.mark
  exp_span base (tree.call m to w args) ps h = h.mark
  exp_span base (tree.super_call m w args) ps h = h.mark
  exp_span base (tree.create m t args) ps h = h.mark
  exp_span base (tree.paren m e) ps h = h.mark
  exp_span base (tree.cast m t e) ps h = h.mark
  exp_span base (tree.unary m op e) ps h = h.mark
  exp_span base (tree.bump m PreInc e) ps h = h.mark
  exp_span base (tree.bump m PreDec e) ps h = h.mark
  exp_span base (tree.bump m PostInc e) ps h = h.mark
  exp_span base (tree.bump m PostDec e) ps h = h.mark
  exp_span base (tree.binary m op x y) ps h = h.mark
  exp_span base (tree.assign m x y) ps h = h.mark
  exp_span base (tree.compound m op x y) ps h = h.mark

  begins_word : (s : Span) (t : List ℕ) (ps : Tokens) → IsOneWord s t ps → BeginWordLike ps
  begins_word s t ps h = subst BeginWordLike (sym h.whole) (subst IsWordLike (sym h.is) tt)

  begin_more : (ps qs : Tokens) → BeginWordLike ps → BeginWordLike (ps ++ qs)
  begin_more [] qs h = absurd h
  begin_more (p ∷ ps) qs h = h

  first_begins : {P Q : Tokens → Type 0} (ps : Tokens) → InOrder P Q ps → ((qs : Tokens) → P qs → BeginWordLike qs) → BeginWordLike ps
  first_begins ps h first = subst BeginWordLike (sym h.whole) (begin_more h.front h.back (first h.front h.first))

  -- names with dots between them begin with a word
  path_begins : (base : ℕ) (e : tree.Exp A) (ps : Tokens) → Stands (spans_from tells base (exp_layout e)) ps → IsPath e → BeginWordLike ps
  path_begins base (tree.name m w) ps h path = first_begins ps h.parts (λ qs k. begins_word (tells w.mark (tells m base).from) w.text qs (one_word (tells w.mark (tells m base).from) w.text qs k))
  path_begins base (tree.field m e w) ps h path = first_begins ps h.parts (λ qs k. path_begins (tells m base).from e qs k path)
  path_begins base (tree.number m n) ps h path = absurd path
  path_begins base (tree.truth m b) ps h path = absurd path
  path_begins base (tree.null m) ps h path = absurd path
  path_begins base (tree.string m s) ps h path = absurd path
  path_begins base (tree.super_field m w) ps h path = absurd path
  path_begins base (tree.this m) ps h path = absurd path
  path_begins base (tree.class_literal m t) ps h path = absurd path
  path_begins base (tree.call m to w args) ps h path = absurd path
  path_begins base (tree.super_call m w args) ps h path = absurd path
  path_begins base (tree.create m t args) ps h path = absurd path
  path_begins base (tree.paren m e) ps h path = absurd path
  path_begins base (tree.cast m t e) ps h path = absurd path
  path_begins base (tree.unary m op e) ps h path = absurd path
  path_begins base (tree.bump m op e) ps h path = absurd path
  path_begins base (tree.binary m op x y) ps h path = absurd path
  path_begins base (tree.assign m x y) ps h path = absurd path
  path_begins base (tree.compound m op x y) ps h path = absurd path

  -- what a spot makes of an expression, or the other way
  or_part : (S : Spotted A) (C : Choosing A) (W : Weaving) → SpotsSuit tells C W S → (k : Asks) {N : Type 0} (c : Context) (r : Role) (base : ℕ) (e : tree.Exp A) (o : Rewritten (tree.Exp A)) (ps : Tokens)
      → OrPart S k c r base e o N → Stands (spans_from tells base (exp_layout e)) ps → (N → Stepped W false ps o.changes (toks o.tree)) → Stepped W false ps o.changes (toks o.tree)
  or_part nowhere C W suit k c r base e o ps w h go = go w
  or_part (spotted s) C W suit k c r base e o ps w h go =
      elim w [ inl x ↦ go x.1 | inr x ↦ part_woven ps o.changes (toks o.tree) (exp_some base e ps h) (suit.part k c r base e o ps x h) ]

  module _ (C : Choosing A) (S : Spotted A) (W : Weaving) (fit : AreSuitable C) (suit : SpotsSuit tells C W S) where
    -- ---- names and types

    -- the span of the word, and how it stands
    abbrev Word : Span → List ℕ → Tokens → Type 0
    Word s t ps = IsNode s (InOrder (IsAlone (word t)) (λ qs. qs ≡ [])) ps

    -- a declared name, a method by `super`, a class in front of another
    pub alone_word_steps : (at : ℕ) (w : tree.Word A) (h : Choice) (ps : Tokens) → Suits MayStandAlone h → Word (tells w.mark at) w.text ps
        → Stepped W false ps (word_changes h (tells w.mark at)) (word (text_of h w.text) ∷ [])
    alone_word_steps at w h ps suits k =
        stepped_new ps (word_changes h (tells w.mark at)) (chosen h w.text) (word (text_of h w.text) ∷ []) (chosen_alone h w.text suits)
        (word_steps MayStandAlone alone_variable h (tells w.mark at) w.text ps suits (one_word (tells w.mark at) w.text ps k))

    pub type_steps : (Q N : Choice → Type 0) → ((h : Choice) → Q h → Suits MayStandAlone h) → ((h : Choice) → N h → Suits MayStandBeforeType h) → (base : ℕ) (t : tree.TypeName A)
        (o : Rewritten (tree.TypeName A)) (ps : Tokens) → TypeOut tells C Q N base t o → Stands (spans_from tells base (type_layout t)) ps → Stepped W false ps o.changes (type_toks o.tree)
    type_steps Q N q n base (tree.int m) o ps w h = subst (λ z. Stepped W false ps z.changes (type_toks z.tree)) (sym w) (end_steps ps h.parts)
    type_steps Q N q n base (tree.boolean m) o ps w h = subst (λ z. Stepped W false ps z.changes (type_toks z.tree)) (sym w) (end_steps ps h.parts)
    type_steps Q N q n base (tree.named m None v) o ps w h =
        let s : Span = tells v.mark (tells m base).from in
        subst (λ z. Stepped W false ps z.changes (type_toks z.tree)) (sym w.2)
        (stepped_new ps (word_changes w.0 s) (chosen w.0 v.text) (type_toks (tree.named m (qualifier_to m (front_of w.0) None) (word_to w.0 v))) (simple_type_toks m v w.0 (n w.0 w.1))
        (last_steps ps (word_changes w.0 s) (chosen w.0 v.text) h.parts (λ qs k. word_steps MayStandBeforeType type_variable w.0 s v.text qs (n w.0 w.1) (one_word s v.text qs k))))
    type_steps Q N q n base (tree.named m (Some u) v) o ps w h =
        let at : ℕ = (tells m base).from in
        let su : Span = tells u.mark at in
        let sv : Span = tells v.mark at in
        let d = dotted {P = Word su u.text} sv v.text ps h.parts in
        let one = one_word su u.text d.front d.operand in
        let front_from : su.from ≡ first_from d.front = ap (λ (z : Span). z.from) one.mark ∙ sym (ap first_from one.whole) in
        subst (λ z. Stepped W false ps z.changes (type_toks z.tree)) (sym w.4)
        (stepped_new ps (qualified_changes tells w.1 su sv (word_changes w.0 su)) (qualified_chosen w.1 v.text (word (text_of w.0 u.text) ∷ []))
        (type_toks (tree.named m (qualifier_to m (front_of w.1) (Some (word_to w.0 u))) (word_to w.1 v))) (qualified_type_toks m v u w.0 w.1 (n w.1 w.3))
        (qualified_dotted tells sv v.text ps d (word_changes w.0 su) (word (text_of w.0 u.text) ∷ []) (alone_word_steps at u w.0 d.front (q w.0 w.2) d.operand) w.1 su front_from
        (begins_word su u.text d.front one) (n w.1 w.3)))

    pub type_in : (c : Context) (base : ℕ) (t : tree.TypeName A) (o : Rewritten (tree.TypeName A)) (ps : Tokens) → RewritesType tells C c base t o
        → Stands (spans_from tells base (type_layout t)) ps → Stepped W false ps o.changes (type_toks o.tree)
    type_in c base t o ps w h = type_steps (C.qualifier c base t) (C.type c base t) (fit.qualifier c base t) (fit.type c base t) base t o ps w h

    -- ---- expressions

    -- the tokens of a call's target and name
    abbrev called_toks : Called tells → List Token
    called_toks c = target_toks c.target ++ (word c.word.text ∷ [])

    call_grouped : (m : A) (c : Called tells) (es : tree.Exps A)
        → called_toks c ++ (symbol OpenParen ∷ (args_toks es ++ (symbol CloseParen ∷ []))) ≡ toks (tree.call m c.target c.word es)
    call_grouped m c es = append_assoc (target_toks c.target) (word c.word.text ∷ []) (symbol OpenParen ∷ (args_toks es ++ (symbol CloseParen ∷ [])))

    in_part : (k : Asks) {N : Type 0} (c : Context) (r : Role) (base : ℕ) (e : tree.Exp A) (o : Rewritten (tree.Exp A)) (ps : Tokens) → OrPart S k c r base e o N
        → Stands (spans_from tells base (exp_layout e)) ps → (N → Stepped W false ps o.changes (toks o.tree)) → Stepped W false ps o.changes (toks o.tree)
    in_part k c r base e o ps w h go = or_part S C W suit k c r base e o ps w h go

    mutual
      unfolding TransformsExp TransformsTarget TransformsRow

      pub exp_steps : (c : Context) (r : Role) (base : ℕ) (e : tree.Exp A) (o : Rewritten (tree.Exp A)) (ps : Tokens) → TransformsExp tells C S c r base e o
          → Stands (spans_from tells base (exp_layout e)) ps → Stepped W false ps o.changes (toks o.tree)
      exp_steps c r base (tree.number m n) o ps w h = subst (λ z. Stepped W false ps z.changes (toks z.tree)) (sym w) (end_steps ps h.parts)
      exp_steps c r base (tree.truth m b) o ps w h = subst (λ z. Stepped W false ps z.changes (toks z.tree)) (sym w) (end_steps ps h.parts)
      exp_steps c r base (tree.null m) o ps w h = subst (λ z. Stepped W false ps z.changes (toks z.tree)) (sym w) (end_steps ps h.parts)
      exp_steps c r base (tree.string m s) o ps w h = subst (λ z. Stepped W false ps z.changes (toks z.tree)) (sym w) (end_steps ps h.parts)
      exp_steps c r base (tree.this m) o ps w h = subst (λ z. Stepped W false ps z.changes (toks z.tree)) (sym (this_is S w)) (end_steps ps h.parts)
      exp_steps c r base (tree.name m v) o ps w h =
          let s : Span = tells v.mark (tells m base).from in
          let suits = fit.expression c r base (tree.name m v) w.0 w.1 in
          subst (λ z. Stepped W false ps z.changes (toks z.tree)) (sym w.2)
          (stepped_new ps (word_changes w.0 s) (chosen w.0 v.text) (toks (variable_to m (front_of w.0) None (word_to w.0 v))) (name_toks m v w.0 suits)
          (last_steps ps (word_changes w.0 s) (chosen w.0 v.text) h.parts (λ qs k. word_steps MayStandBeforeVariable (λ f may. may) w.0 s v.text qs suits (one_word s v.text qs k))))
      exp_steps c r base (tree.field m e v) o ps w h =
          let at : ℕ = (tells m base).from in
          let s : Span = tells v.mark at in
          let d = dotted {P = Stands (spans_from tells at (exp_layout e))} s v.text ps h.parts in
          let suits = fit.expression c r base (tree.field m e v) w.0 w.2 in
          let ts : List Token = toks w.1.tree in
          subst (λ z. Stepped W false ps z.changes (toks z.tree)) (sym w.4)
          (stepped_new ps (dotted_changes w.0 (tells (exp_mark e) at) s w.1.changes) (dotted_chosen w.0 v.text ts) (toks (variable_on m (operand_to m (front_of w.0) (Some w.1.tree)) (word_to w.0 v)))
          (field_toks m v e w.1.tree w.0 suits)
          (dotted_steps s v.text ps d w.1.changes ts (in_part _ c left at e w.1 d.front w.3 d.operand (λ x0. exp_steps c left at e w.1 d.front x0 d.operand)) (MayStandFor e)
          (for_dotted e d.front (path_begins at e d.front d.operand)) w.0 (tells (exp_mark e) at) (exp_span at e d.front d.operand) (exp_some at e d.front d.operand) suits))
      exp_steps c r base (tree.super_field m v) o ps w h =
          let at : ℕ = (tells m base).from in
          let s : Span = tells v.mark at in
          let d = dotted {P = IsAlone (keyword Super)} s v.text ps h.parts in
          let suits = fit.expression c r base (tree.super_field m v) w.0 w.1 in
          let front_is : d.front ≡ d.operand.placed ∷ [] = d.operand.alone in
          let all_is : ps ≡ d.operand.placed ∷ d.dot ∷ d.last ∷ [] = d.whole ∙ ap (λ xs. xs ++ d.dot ∷ d.last ∷ []) front_is in
          let front_from : (tells m base).from ≡ first_from d.front = ap (λ (z : Span). z.from) h.mark ∙ ap first_from all_is ∙ sym (ap first_from front_is) in
          let begins : BeginWordLike d.front = subst BeginWordLike (sym front_is) (subst IsWordLike (sym d.operand.is) tt) in
          subst (λ z. Stepped W false ps z.changes (toks z.tree)) (sym w.2)
          (stepped_new ps (super_changes w.0 (tells m base) s) (super_chosen w.0 v.text (keyword Super ∷ [])) (toks (super_to m (front_of w.0) (word_to w.0 v))) (super_field_toks m v w.0 suits)
          (super_dotted s v.text ps d (keyword Super ∷ []) (alone_steps (keyword Super) d.front d.operand) w.0 (tells m base) front_from begins suits))
      exp_steps c r base (tree.class_literal m t) o ps w h =
          subst (λ z. Stepped W false ps z.changes (toks z.tree)) (sym w.2)
          (closing_steps ps w.0.changes (type_toks w.0.tree) (symbol Dot ∷ keyword Class ∷ []) h.parts (λ qs k. type_in c (tells m base).from t w.0 qs w.1 k)
          (λ qs k. token_steps qs [] (keyword Class ∷ []) k end_steps))
      exp_steps c r base (tree.call m to v args) o ps w h =
          let at : ℕ = (tells m base).from in
          let suits = fit.expression c r base (tree.call m to v args) w.0 w.3 in
          let grouped = regrouped ps h.parts in
          subst (λ z. Stepped W false ps z.changes (toks z.tree)) (sym w.6)
          (stepped_new ps (w.1.changes ++ w.2.changes) (called_toks w.1.tree ++ (symbol OpenParen ∷ (args_toks w.2.tree ++ (symbol CloseParen ∷ [])))) (toks (tree.call m w.1.tree.target w.1.tree.word w.2.tree))
          (call_grouped m w.1.tree w.2.tree)
          (both_steps ps w.1.changes w.2.changes (called_toks w.1.tree) (symbol OpenParen ∷ (args_toks w.2.tree ++ (symbol CloseParen ∷ []))) grouped
          (λ qs k. target_steps c w.0 m base to v w.1 qs w.4 suits k)
          (λ qs k. token_steps qs w.2.changes (args_toks w.2.tree ++ (symbol CloseParen ∷ [])) k
          (λ rs l. closing_steps rs w.2.changes (args_toks w.2.tree) (symbol CloseParen ∷ []) l (λ xs i. args_steps c at args w.2 xs w.5 i) end_steps))))
      exp_steps c r base (tree.super_call m v args) o ps w h =
          let at : ℕ = (tells m base).from in
          let s : Span = tells v.mark at in
          let suits = fit.expression c r base (tree.super_call m v args) w.0 w.2 in
          let rest : List Token = symbol OpenParen ∷ (args_toks w.1.tree ++ (symbol CloseParen ∷ [])) in
          subst (λ z. Stepped W false ps z.changes (toks z.tree)) (sym w.4)
          (token_steps ps (word_changes w.0 s ++ w.1.changes) (symbol Dot ∷ word (text_of w.0 v.text) ∷ rest) h.parts
          (λ qs k. token_steps qs (word_changes w.0 s ++ w.1.changes) (word (text_of w.0 v.text) ∷ rest) k
          (λ rs l. both_steps rs (word_changes w.0 s) w.1.changes (word (text_of w.0 v.text) ∷ []) rest l (λ xs i. alone_word_steps at v w.0 xs suits i)
          (λ xs i. token_steps xs w.1.changes (args_toks w.1.tree ++ (symbol CloseParen ∷ [])) i
          (λ ys j. closing_steps ys w.1.changes (args_toks w.1.tree) (symbol CloseParen ∷ []) j (λ zs n. args_steps c at args w.1 zs w.3 n) end_steps)))))
      exp_steps c r base (tree.create m t args) o ps w h =
          let at : ℕ = (tells m base).from in
          let rest : List Token = symbol OpenParen ∷ (args_toks w.2.tree ++ (symbol CloseParen ∷ [])) in
          subst (λ z. Stepped W false ps z.changes (toks z.tree)) (sym w.6)
          (token_steps ps (w.1.changes ++ w.2.changes) (type_toks w.1.tree ++ rest) h.parts
          (λ qs k. both_steps qs w.1.changes w.2.changes (type_toks w.1.tree) rest k (λ rs l. type_in c at t w.1 rs w.4 l)
          (λ rs l. token_steps rs w.2.changes (args_toks w.2.tree ++ (symbol CloseParen ∷ [])) l
          (λ xs i. closing_steps xs w.2.changes (args_toks w.2.tree) (symbol CloseParen ∷ []) i (λ ys j. args_steps c at args w.2 ys w.5 j) end_steps))))
      exp_steps c r base (tree.paren m e) o ps w h =
          subst (λ z. Stepped W false ps z.changes (toks z.tree)) (sym w.2)
          (token_steps ps w.0.changes (toks w.0.tree ++ (symbol CloseParen ∷ [])) h.parts
          (λ qs k. closing_steps qs w.0.changes (toks w.0.tree) (symbol CloseParen ∷ []) k (λ rs l. in_part _ c value (tells m base).from e w.0 rs w.1 l (λ x0. exp_steps c value (tells m base).from e w.0 rs x0 l)) end_steps))
      exp_steps c r base (tree.cast m t e) o ps w h =
          let at : ℕ = (tells m base).from in
          subst (λ z. Stepped W false ps z.changes (toks z.tree)) (sym w.4)
          (token_steps ps (w.0.changes ++ w.1.changes) (type_toks w.0.tree ++ (symbol CloseParen ∷ toks w.1.tree)) h.parts
          (λ qs k. both_steps qs w.0.changes w.1.changes (type_toks w.0.tree) (symbol CloseParen ∷ toks w.1.tree) k (λ rs l. type_in c at t w.0 rs w.2 l)
          (λ rs l. token_steps rs w.1.changes (toks w.1.tree) l (λ xs i. last_steps xs w.1.changes (toks w.1.tree) i (λ ys j. in_part _ c value at e w.1 ys w.3 j (λ x0. exp_steps c value at e w.1 ys x0 j))))))
      exp_steps c r base (tree.unary m op e) o ps w h =
          subst (λ z. Stepped W false ps z.changes (toks z.tree)) (sym w.2)
          (token_steps ps w.0.changes (toks w.0.tree) h.parts (λ qs k. last_steps qs w.0.changes (toks w.0.tree) k (λ rs l. in_part _ c value (tells m base).from e w.0 rs w.1 l (λ x0. exp_steps c value (tells m base).from e w.0 rs x0 l))))
      exp_steps c r base (tree.bump m PreInc e) o ps w h =
          subst (λ z. Stepped W false ps z.changes (toks z.tree)) (sym w.2)
          (token_steps ps w.0.changes (toks w.0.tree) h.parts (λ qs k. last_steps qs w.0.changes (toks w.0.tree) k (λ rs l. in_part _ c value (tells m base).from e w.0 rs w.1 l (λ x0. exp_steps c value (tells m base).from e w.0 rs x0 l))))
      exp_steps c r base (tree.bump m PreDec e) o ps w h =
          subst (λ z. Stepped W false ps z.changes (toks z.tree)) (sym w.2)
          (token_steps ps w.0.changes (toks w.0.tree) h.parts (λ qs k. last_steps qs w.0.changes (toks w.0.tree) k (λ rs l. in_part _ c value (tells m base).from e w.0 rs w.1 l (λ x0. exp_steps c value (tells m base).from e w.0 rs x0 l))))
      exp_steps c r base (tree.bump m PostInc e) o ps w h =
          subst (λ z. Stepped W false ps z.changes (toks z.tree)) (sym w.2)
          (closing_steps ps w.0.changes (toks w.0.tree) (symbol PlusPlus ∷ []) h.parts (λ rs l. in_part _ c value (tells m base).from e w.0 rs w.1 l (λ x0. exp_steps c value (tells m base).from e w.0 rs x0 l)) end_steps)
      exp_steps c r base (tree.bump m PostDec e) o ps w h =
          subst (λ z. Stepped W false ps z.changes (toks z.tree)) (sym w.2)
          (closing_steps ps w.0.changes (toks w.0.tree) (symbol MinusMinus ∷ []) h.parts (λ rs l. in_part _ c value (tells m base).from e w.0 rs w.1 l (λ x0. exp_steps c value (tells m base).from e w.0 rs x0 l)) end_steps)
      exp_steps c r base (tree.binary m op x y) o ps w h =
          subst (λ z. Stepped W false ps z.changes (toks z.tree)) (sym w.4)
          (both_steps ps w.0.changes w.1.changes (toks w.0.tree) (symbol (binary_symbol op) ∷ toks w.1.tree) h.parts (λ qs k. in_part _ c value (tells m base).from x w.0 qs w.2 k (λ x0. exp_steps c value (tells m base).from x w.0 qs x0 k))
          (λ qs k. token_steps qs w.1.changes (toks w.1.tree) k (λ rs l. last_steps rs w.1.changes (toks w.1.tree) l (λ xs i. in_part _ c value (tells m base).from y w.1 xs w.3 i (λ x0. exp_steps c value (tells m base).from y w.1 xs x0 i)))))
      exp_steps c r base (tree.assign m x y) o ps w h =
          subst (λ z. Stepped W false ps z.changes (toks z.tree)) (sym w.4)
          (both_steps ps w.0.changes w.1.changes (toks w.0.tree) (symbol Equals ∷ toks w.1.tree) h.parts (λ qs k. in_part _ c value (tells m base).from x w.0 qs w.2 k (λ x0. exp_steps c value (tells m base).from x w.0 qs x0 k))
          (λ qs k. token_steps qs w.1.changes (toks w.1.tree) k (λ rs l. last_steps rs w.1.changes (toks w.1.tree) l (λ xs i. in_part _ c value (tells m base).from y w.1 xs w.3 i (λ x0. exp_steps c value (tells m base).from y w.1 xs x0 i)))))
      exp_steps c r base (tree.compound m op x y) o ps w h =
          subst (λ z. Stepped W false ps z.changes (toks z.tree)) (sym w.4)
          (both_steps ps w.0.changes w.1.changes (toks w.0.tree) (symbol (compound_symbol op) ∷ toks w.1.tree) h.parts (λ qs k. in_part _ c value (tells m base).from x w.0 qs w.2 k (λ x0. exp_steps c value (tells m base).from x w.0 qs x0 k))
          (λ qs k. token_steps qs w.1.changes (toks w.1.tree) k (λ rs l. last_steps rs w.1.changes (toks w.1.tree) l (λ xs i. in_part _ c value (tells m base).from y w.1 xs w.3 i (λ x0. exp_steps c value (tells m base).from y w.1 xs x0 i)))))

      target_steps : (c : Context) (h : Choice) (m : A) (base : ℕ) (to : tree.Target A) (v : tree.Word A) (o : Rewritten (Called tells)) (ps : Tokens) → TransformsTarget tells C S c h m base to v o
          → SuitsCall to h → InOrder (Stands (spans_from tells (tells m base).from (target_layout to))) (Word (tells v.mark (tells m base).from) v.text) ps
          → Stepped W false ps o.changes (called_toks o.tree)
      target_steps c h m base tree.no_target v o ps w suits k =
          let s : Span = tells v.mark (tells m base).from in
          subst (λ z. Stepped W false ps z.changes (called_toks z.tree)) (sym w)
          (stepped_new ps (word_changes h s) (chosen h v.text) (target_toks (target_of (operand_to m (front_of h) None)) ++ (word (text_of h v.text) ∷ [])) (simple_call_toks m v h suits)
          (both_steps ps [] (word_changes h s) [] (chosen h v.text) k none_steps (λ qs l. word_steps MayStandBeforeMethod method_variable h s v.text qs suits (one_word s v.text qs l))))
      target_steps c h m base (tree.on e) v o ps w suits k =
          let at : ℕ = (tells m base).from in
          let s : Span = tells v.mark at in
          let d = dotted_target {P = Stands (spans_from tells at (exp_layout e))} s v.text ps k in
          let ts : List Token = toks w.0.tree in
          subst (λ z. Stepped W false ps z.changes (called_toks z.tree)) (sym w.2)
          (stepped_new ps (dotted_changes h (tells (exp_mark e) at) s w.0.changes) (dotted_chosen h v.text ts)
          (target_toks (target_of (operand_to m (front_of h) (Some w.0.tree))) ++ (word (text_of h v.text) ∷ [])) (dotted_call_toks m v e w.0.tree h suits)
          (dotted_steps s v.text ps d w.0.changes ts (in_part (operand_asks (front_of h)) c left at e w.0 d.front w.1 d.operand (λ x0. exp_steps c left at e w.0 d.front x0 d.operand)) (MayStandFor e)
          (for_dotted e d.front (path_begins at e d.front d.operand)) h (tells (exp_mark e) at) (exp_span at e d.front d.operand) (exp_some at e d.front d.operand) suits))

      pub args_steps : (c : Context) (at : ℕ) (es : tree.Exps A) (o : Rewritten (tree.Exps A)) (ps : Tokens) → TransformsRow tells C S c at es o
          → Stands (spans_from tells at (args_layout es)) ps → Stepped W false ps o.changes (args_toks o.tree)
      args_steps c at tree.end o ps w h = subst (λ z. Stepped W false ps z.changes (args_toks z.tree)) (sym w) (none_steps ps h)
      args_steps c at (tree.more e es) o ps w h =
          subst (λ z. Stepped W false ps z.changes (args_toks z.tree)) (sym w.4)
          (both_steps ps w.0.changes w.1.changes (toks w.0.tree) (more_toks w.1.tree) h (λ qs k. in_part _ c value at e w.0 qs w.2 k (λ x0. exp_steps c value at e w.0 qs x0 k))
          (λ qs k. last_steps qs w.1.changes (more_toks w.1.tree) k (λ rs l. more_args_steps c at es w.1 rs w.3 l)))

      more_args_steps : (c : Context) (at : ℕ) (es : tree.Exps A) (o : Rewritten (tree.Exps A)) (ps : Tokens) → TransformsRow tells C S c at es o
          → Stands (spans_from tells at (more_args_layout es)) ps → Stepped W false ps o.changes (more_toks o.tree)
      more_args_steps c at tree.end o ps w h = subst (λ z. Stepped W false ps z.changes (more_toks z.tree)) (sym w) (none_steps ps h)
      more_args_steps c at (tree.more e es) o ps w h =
          subst (λ z. Stepped W false ps z.changes (more_toks z.tree)) (sym w.4)
          (token_steps ps (w.0.changes ++ w.1.changes) (toks w.0.tree ++ more_toks w.1.tree) h
          (λ qs k. both_steps qs w.0.changes w.1.changes (toks w.0.tree) (more_toks w.1.tree) k (λ rs l. in_part _ c value at e w.0 rs w.2 l (λ x0. exp_steps c value at e w.0 rs x0 l))
          (λ rs l. last_steps rs w.1.changes (more_toks w.1.tree) l (λ xs i. more_args_steps c at es w.1 xs w.3 i))))

    pub part_steps : (k : Asks) (c : Context) (r : Role) (base : ℕ) (e : tree.Exp A) (o : Rewritten (tree.Exp A)) (ps : Tokens) → TransformsPart tells C S k c r base e o
        → Stands (spans_from tells base (exp_layout e)) ps → Stepped W false ps o.changes (toks o.tree)
    part_steps k c r base e o ps w h = in_part k c r base e o ps w h (λ x. exp_steps c r base e o ps x h)
