-- What is carried where a word is chosen anew: it stays, or a change touches it.
use Rattle.std.proofs.Common.{◌≡◌, ℕ, ◌≤◌, ◌<◌, Bool, true, false, List, [], ◌∷◌, ◌++◌, refl, sym, ap, ◌∙◌, subst, inl, inr, arith}
use Rattle.std.specs.Prelude.{◌⊎◌}
use Rattle.std.proofs.lemmas.List.{append_assoc, append-nil}
use Rattle.jr_text.specs.declared.spans.Span.{Span}
use Rattle.jr_ast.specs.declared.operators.BumpOp.TheVariants.{PreInc, PreDec, PostInc, PostDec}
use Rattle.jr_ast.specs.Tree as tree
use Rattle.jr_ast.specs.Marks.{exp_mark}
use Rattle.jr_lex.specs.declared.items.Symbol.TheVariants.{Dot}
use Rattle.jr_lex.specs.Replacing.{IsName}
use Rattle.jr_grammar.specs.Tokens.{Token, word, symbol, Placed, kinds}
use Rattle.jr_grammar.specs.Layout.{itself, spans_from}
use Rattle.jr_grammar.specs.ExpressionLayout.{word_layout, exp_layout}
use Rattle.jr_grammar.specs.Stands.{Tokens, first_from, last_to, span_of, IsAlone, InOrder, IsNode, Stands}
use Rattle.jr_grammar.proofs.Layouts.{spans_from-span}
use Rattle.jr_program_laws.proofs.TokenOrder.{StartsIn, Rising, in_front, in_back}
use Rattle.jr_rewrite.specs.Respellings.{Front, same, alone, by_this, by_super, by_cast_this, by_class, by_outer_class, by_cast, Choice, stays, becomes, loses, Loss, front_text, Change, Respelling}
use Rattle.jr_rewrite.specs.Rewritten.{change, word_changes, losses_of}
use Rattle.jr_rewrite.specs.Suitable.{MayStandBeforeVariable, MayStandBeforeMethod}
use Rattle.jr_rewrite.proofs.ExpressionSteps.{exp_some}
use Rattle.jr_rewrite.proofs.Steps.{Stepped}
use Rattle.jr_rewrite.proofs.Stepping.{stepped_new, IsSome, one_word, IsDotted, dotted, dotted_target}
use Rattle.jr_rewrite.proofs.WordSteps.{chosen, word_steps}
use Rattle.jr_moved_tokens.proofs.StepRuns.{never}
use Rattle.jr_moved_tokens.proofs.MovedTokens.{Untouched}
use Rattle.jr_moved_references.proofs.Carrying.{Carries, AreNone, WordStands, word_starts, turn, touched, own_word}

-- ---- one part alone

pub alone_of : {P : Tokens → Type 0} (ps : Tokens) → InOrder P AreNone ps → P ps
alone_of {P = P} ps h = subst P (sym (h.whole ∙ ap (λ (xs : Tokens). h.front ++ xs) h.rest ∙ append-nil h.front)) h.first

pub behind_none : {P : Tokens → Type 0} (ps : Tokens) → InOrder AreNone P ps → P ps
behind_none {P = P} ps h = subst P (sym (h.whole ∙ ap (λ (xs : Tokens). xs ++ h.back) h.first)) h.rest

-- the same grouped otherwise
pub to_left : {P Q R : Tokens → Type 0} (ps : Tokens) → InOrder P (InOrder Q R) ps → InOrder (InOrder P Q) R ps
to_left ps h = record {
  front = h.front ++ h.rest.front;
  back = h.rest.back;
  whole = h.whole ∙ ap (λ (xs : Tokens). h.front ++ xs) h.rest.whole ∙ sym (append_assoc h.front h.rest.front h.rest.back);
  first = record { front = h.front; back = h.rest.front; whole = refl; first = h.first; rest = h.rest.first };
  rest = h.rest.rest;
}

-- ---- where what stands begins

pub first_starts : {P Q : Tokens → Type 0} (at : ℕ) → ((ps : Tokens) → P ps → StartsIn ps at) → (ps : Tokens) → InOrder P Q ps → StartsIn ps at
first_starts at f ps h = subst (λ (qs : Tokens). StartsIn qs at) (sym h.whole) (in_front h.front h.back at (f h.front h.first))

pub rest_starts : {P Q : Tokens → Type 0} (at : ℕ) → ((ps : Tokens) → Q ps → StartsIn ps at) → (ps : Tokens) → InOrder P Q ps → StartsIn ps at
rest_starts at f ps h = subst (λ (qs : Tokens). StartsIn qs at) (sym h.whole) (in_back h.front h.back at (f h.back h.rest))

-- ---- a word

some_loss : (l : Loss) → l ∷ [] ≡ [] → ⊥
some_loss l e = cc

-- a change of it touches it
pub word_gone : (s : Span) (t text : List ℕ) (ps : Tokens) → Rising ps → WordStands s t ps → Untouched (change s text ∷ []) s.from → ⊥
word_gone s t text ps rising h u =
    let w = one_word s t ps h in
    let wide : w.placed.mark.from < w.placed.mark.to = (subst Rising w.whole rising).0 in
    let here : s.from < s.to = subst (λ (z : Span). z.from < z.to) (sym w.mark) wide in
    u.0 (omega arith, here)

-- Among tokens of which one is the word; where it stays, what is carried is given.
pub chosen_word : {L L' : Tokens → Type 0} {Old New : ℕ → Type 0} (h : Choice) (s : Span) (t : List ℕ) → losses_of h ≡ [] → ((ps : Tokens) → L ps → WordStands s t ps)
    → ((ps ps' : Tokens) → L ps → L' ps' → Stepped never false ps (word_changes h s) (kinds ps')) → ((at : ℕ) → Old at → at ≡ s.from) → (h ≡ stays → Carries false L L' [] Old New) → Carries false L L' (word_changes h s) Old New
chosen_word stays s t none to step there keeps = keeps refl
chosen_word (loses l) s t none to step there keeps = absurd (some_loss l none)
chosen_word (becomes r) s t none to step there keeps =
    touched step (λ ps h at o. subst (StartsIn ps) (sym (there at o)) (word_starts s t ps (to ps h)))
    (λ ps rising h at o u. word_gone s t (front_text r.front ++ r.text) ps rising (to ps h) (subst (λ n. Untouched (change s (front_text r.front ++ r.text) ∷ []) n) (there at o) u))

-- it stays, with its text
pub same_word : {l : Bool} {Old New : ℕ → Type 0} (w v : tree.Word Span) → v.text ≡ w.text → ((at : ℕ) → Old at → at ≡ w.mark.from) → ((at : ℕ) → Old at → New v.mark.from) → Carries l (Stands (word_layout w)) (Stands (word_layout v)) [] Old New
same_word w v e there gives = turn (λ ps h. h) (λ ps h. subst (λ t. WordStands v.mark t ps) e h) (own_word w.mark v.mark w.text there gives)

-- it gets another name, with nothing else in front of it
pub named_word : {Old New : ℕ → Type 0} (w v : tree.Word Span) (x : List ℕ) → v.text ≡ x → IsName x → ((at : ℕ) → Old at → at ≡ w.mark.from) → Carries false (Stands (word_layout w)) (Stands (word_layout v)) (change w.mark x ∷ []) Old New
named_word w v x e name there =
    touched (λ ps ps' h k. stepped_new ps (change w.mark x ∷ []) (word x ∷ []) (kinds ps') (sym (new ps' k)) (word_steps (λ f. MayStandBeforeVariable f) (λ f may. may) (becomes (record { text = x; front = same })) w.mark w.text ps (name, tt, tt) (one_word w.mark w.text ps h)))
    (λ ps h at o. subst (StartsIn ps) (sym (there at o)) (word_starts w.mark w.text ps h))
    (λ ps rising h at o u. word_gone w.mark w.text x ps rising h (subst (λ n. Untouched (change w.mark x ∷ []) n) (there at o) u))
  where
    new : (ps : Tokens) → Stands (word_layout v) ps → kinds ps ≡ word x ∷ []
    new ps h = (let o = one_word v.mark v.text ps h in ap kinds o.whole ∙ ap (λ u. u ∷ []) o.is ∙ ap (λ t. word t ∷ []) e)

-- ---- in front of a method

pub method_variable : (f : Front) → MayStandBeforeMethod f → MayStandBeforeVariable f
method_variable (by_cast k) may = may
method_variable same may = tt
method_variable alone may = tt
method_variable by_this may = tt
method_variable by_super may = tt
method_variable (by_cast_this k) may = tt
method_variable (by_class k) may = tt
method_variable (by_outer_class o k) may = tt

-- ---- an expression

pub exp_span : (e : tree.Exp Span) (ps : Tokens) → Stands (exp_layout e) ps → exp_mark e ≡ span_of ps
exp_span (tree.number m n) ps h = h.mark
exp_span (tree.truth m b) ps h = h.mark
exp_span (tree.null m) ps h = h.mark
exp_span (tree.string m s) ps h = h.mark
exp_span (tree.name m w) ps h = h.mark
exp_span (tree.field m e w) ps h = h.mark
exp_span (tree.super_field m w) ps h = h.mark
exp_span (tree.this m) ps h = h.mark
exp_span (tree.class_literal m t) ps h = h.mark
exp_span (tree.call m to w args) ps h = h.mark
exp_span (tree.super_call m w args) ps h = h.mark
exp_span (tree.create m t args) ps h = h.mark
exp_span (tree.paren m e) ps h = h.mark
exp_span (tree.cast m t e) ps h = h.mark
exp_span (tree.unary m op e) ps h = h.mark
exp_span (tree.bump m PreInc e) ps h = h.mark
exp_span (tree.bump m PreDec e) ps h = h.mark
exp_span (tree.bump m PostInc e) ps h = h.mark
exp_span (tree.bump m PostDec e) ps h = h.mark
exp_span (tree.binary m op x y) ps h = h.mark
exp_span (tree.assign m x y) ps h = h.mark
exp_span (tree.compound m op x y) ps h = h.mark

pub some_exp : (e : tree.Exp Span) (ps : Tokens) → Stands (exp_layout e) ps → IsSome ps
some_exp e ps h = exp_some itself 0 e ps (subst (λ x. Stands x ps) (sym (spans_from-span 0 (exp_layout e))) h)
