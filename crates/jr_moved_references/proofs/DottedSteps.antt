-- Steps of a word behind a dot, of which what is in front is stepped by itself.
use Rattle.std.proofs.Common.{◌≡◌, ℕ, false, List, [], ◌∷◌, ◌++◌, refl, sym, ap, ◌∙◌, subst}
use Rattle.jr_text.specs.declared.spans.Span.{Span}
use Rattle.jr_lex.specs.declared.items.Symbol.TheVariants.{Dot}
use Rattle.jr_ast.specs.Tree as tree
use Rattle.jr_ast.specs.Marks.{exp_mark}
use Rattle.jr_ast.specs.Remarked.{map_target}
use Rattle.jr_grammar.specs.Bare.{bare, bare_target}
use Rattle.jr_grammar.specs.Tokens.{Token, word, symbol, kinds}
use Rattle.jr_grammar.specs.Spelling.{toks, target_toks}
use Rattle.jr_grammar.specs.Layout.{itself, spans_from}
use Rattle.jr_grammar.specs.ExpressionLayout.{exp_layout, target_layout}
use Rattle.jr_grammar.specs.Stands.{Tokens, IsAlone, InOrder, Stands}
use Rattle.jr_grammar.proofs.Layouts.{spans_from-span}
use Rattle.jr_rewrite.specs.Respellings.{Front, same, alone, by_this, by_super, by_cast_this, by_class, by_outer_class, by_cast, Choice, Change}
use Rattle.jr_rewrite.specs.Rewritten.{dotted_changes}
use Rattle.jr_rewrite.specs.Suitable.{MayStandFor, IsPath, Suits}
use Rattle.jr_rewrite.proofs.Steps.{BeginWordLike, IsWordLike, Stepped}
use Rattle.jr_rewrite.proofs.Stepping.{IsOneWord, one_word, IsDotted}
use Rattle.jr_rewrite.proofs.WordSteps.{MayBehindDot, dotted_chosen, dotted_steps}
use Rattle.jr_moved_tokens.proofs.StepRuns.{never}
use Rattle.jr_moved_references.proofs.Carrying.{kinds-append}
use Rattle.jr_moved_references.proofs.Backs.{exp_kinds}
use Rattle.jr_moved_references.proofs.Worded.{exp_span, some_exp}

for_dotted : {A : Type 0} (e : tree.Exp A) (ps : Tokens) → (IsPath e → BeginWordLike ps) → (f : Front) → MayStandFor e f → MayBehindDot ps f
for_dotted e ps begins same may = tt
for_dotted e ps begins alone may = begins may
for_dotted e ps begins by_this may = begins may
for_dotted e ps begins by_super may = absurd may
for_dotted e ps begins (by_cast_this k) may = begins may
for_dotted e ps begins (by_class k) may = begins may
for_dotted e ps begins (by_outer_class o k) may = begins may
for_dotted e ps begins (by_cast k) may = tt

module _ {A : Type 0} (tells : A → ℕ → Span) where
  begins_word : (s : Span) (t : List ℕ) (ps : Tokens) → IsOneWord s t ps → BeginWordLike ps
  begins_word s t ps h = subst BeginWordLike (sym h.whole) (subst IsWordLike (sym h.is) tt)

  begin_more : (ps qs : Tokens) → BeginWordLike ps → BeginWordLike (ps ++ qs)
  begin_more [] qs h = absurd h
  begin_more (p ∷ ps) qs h = h

  first_begins : {P Q : Tokens → Type 0} (ps : Tokens) → InOrder P Q ps → ((qs : Tokens) → P qs → BeginWordLike qs) → BeginWordLike ps
  first_begins ps h first = subst BeginWordLike (sym h.whole) (begin_more h.front h.back (first h.front h.first))

  -- names with dots between them begin with a word
  path_begins : (base : ℕ) (e : tree.Exp A) (ps : Tokens) → Stands (spans_from tells base (exp_layout e)) ps → IsPath e → BeginWordLike ps
  path_begins base (tree.name m w) ps h path = first_begins ps h.parts (λ qs k. begins_word (tells w.mark (tells m base).from) w.text qs (one_word (tells w.mark (tells m base).from) w.text qs k))
  path_begins base (tree.field m e w) ps h path = first_begins ps h.parts (λ qs k. path_begins (tells m base).from e qs k path)
  path_begins base (tree.number m n) ps h path = absurd path
  path_begins base (tree.truth m b) ps h path = absurd path
  path_begins base (tree.null m) ps h path = absurd path
  path_begins base (tree.string m s) ps h path = absurd path
  path_begins base (tree.super_field m w) ps h path = absurd path
  path_begins base (tree.this m) ps h path = absurd path
  path_begins base (tree.class_literal m t) ps h path = absurd path
  path_begins base (tree.call m to w args) ps h path = absurd path
  path_begins base (tree.super_call m w args) ps h path = absurd path
  path_begins base (tree.create m t args) ps h path = absurd path
  path_begins base (tree.paren m e) ps h path = absurd path
  path_begins base (tree.cast m t e) ps h path = absurd path
  path_begins base (tree.unary m op e) ps h path = absurd path
  path_begins base (tree.bump m op e) ps h path = absurd path
  path_begins base (tree.binary m op x y) ps h path = absurd path
  path_begins base (tree.assign m x y) ps h path = absurd path
  path_begins base (tree.compound m op x y) ps h path = absurd path

-- of an expression
pub operand_steps : (e : tree.Exp Span) (s : Span) (t : List ℕ) (ps : Tokens) (d : IsDotted (Stands (exp_layout e)) s t ps) (cs : List Change) (ts : List Token) → Stepped never false d.front cs ts → (h : Choice) → Suits (MayStandFor e) h
    → Stepped never false ps (dotted_changes h (exp_mark e) s cs) (dotted_chosen h t ts)
operand_steps e s t ps d cs ts inside h suits =
    dotted_steps s t ps d cs ts inside (MayStandFor e) (for_dotted e d.front (path_begins itself 0 e d.front (subst (λ z. Stands z d.front) (sym (spans_from-span 0 (exp_layout e))) d.operand))) h (exp_mark e) (exp_span e d.front d.operand) (some_exp e d.front d.operand) suits

-- the tokens of what a call is made on
pub target_kinds : (aim to : tree.Target Span) → bare_target aim ≡ bare_target to → (ps : Tokens) → Stands (target_layout aim) ps → kinds ps ≡ target_toks to
unfolding map_target
target_kinds tree.no_target tree.no_target e ps h = ap kinds h
target_kinds (tree.on z) (tree.on y) e ps h =
    let dot : h.back ≡ h.rest.first.placed ∷ [] = h.rest.whole ∙ (λ i. h.rest.first.alone i ++ h.rest.rest i) in
    let dots : kinds h.back ≡ symbol Dot ∷ [] = ap kinds dot ∙ ap (λ (t : Token). t ∷ []) h.rest.first.is in
    let same_exp : bare z ≡ bare y = cc in
    ap kinds h.whole ∙ kinds-append h.front h.back ∙ (λ i. exp_kinds z y same_exp h.front h.first i ++ dots i)
target_kinds tree.no_target (tree.on y) e ps h = absurd cc
target_kinds (tree.on z) tree.no_target e ps h = absurd cc
