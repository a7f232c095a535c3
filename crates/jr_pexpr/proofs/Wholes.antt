-- Whether what stands on a stack is whole.
use Rattle.std.proofs.Common.{◌≡◌, ◌&&◌, ℕ, Bool, true, false, cond, ltb, List, [], ◌∷◌, Option, Some, None, refl, sym, ap, ◌∙◌}
use Rattle.std.specs.Prelude.{is_some}
use Rattle.jr_text.specs.declared.spans.Span.{Span}
use Rattle.jr_ast.specs.declared.operators.UnOp.{UnOp}
use Rattle.jr_ast.specs.declared.operators.UnOp.TheVariants.{Plus, Minus, Not}
use Rattle.jr_ast.specs.declared.operators.BinOp.{BinOp}
use Rattle.jr_ast.specs.declared.operators.BinOp.TheVariants.{Or, And, Eq, Ne, Lt, Gt, Le, Ge, Add, Sub, Mul, Div, Rem}
use Rattle.jr_ast.specs.Tree.{Exp}
use Rattle.jr_grammar.specs.Shape.{rank_of, unary_level}
use Rattle.jr_pexpr.specs.Machine.{Frame, in_unary, in_bump, in_binary, in_assign, in_compound, in_cast, in_paren, in_args, State, have, binds, fits, plug, reduced, whole_of, is_target, is_bottom, is_open, is_statement, kept_statement}
use Rattle.jr_pexpr.specs.Marked.{join}
use Rattle.jr_pexpr.specs.Stacks.{ends_when, all_end, ends, is_form}

abbrev Spans : Type 0
Spans = List (Frame Span)

abbrev ended : Spans → Exp Span → Option (Exp Span)
ended fs e = whole_of (reduced join 1 fs e)

-- ---- an operand is no bracket

unary_low : (o : UnOp) → ltb (unary_level o) 1 ≡ false
unary_low Plus = refl
unary_low Minus = refl
unary_low Not = refl

binary_low : (o : BinOp) → ltb (rank_of o) 1 ≡ false
binary_low Or = refl
binary_low And = refl
binary_low Eq = refl
binary_low Ne = refl
binary_low Lt = refl
binary_low Gt = refl
binary_low Le = refl
binary_low Ge = refl
binary_low Add = refl
binary_low Sub = refl
binary_low Mul = refl
binary_low Div = refl
binary_low Rem = refl

-- what ends with whatever stands in it
step : (f : Frame Span) (fs : Spans) (e : Exp Span) → ltb (binds f) 1 ≡ false → fits f e ≡ true → ended (f ∷ fs) e ≡ ended fs (plug join f e)
step f fs e low h =
    ap (λ (b : Bool). whole_of (cond b (Some (have (f ∷ fs) e)) (cond (fits f e) (reduced join 1 fs (plug join f e)) None))) low
    ∙ ap (λ (b : Bool). whole_of (cond b (reduced join 1 fs (plug join f e)) None)) h

ends_all : (fs : Spans) → ends false fs ≡ all_end fs
ends_all [] = refl
ends_all (f ∷ fs) = refl

-- ---- whether an expression ends here

pub ends_is : (fs : Spans) (e : Exp Span) → ends (is_target e) fs ≡ is_some (ended fs e)
ends_is [] e = refl
ends_is (in_unary m o ∷ fs) e = sym (ends_all fs) ∙ ends_is fs (plug join (in_unary m o) e) ∙ ap is_some (sym (step (in_unary m o) fs e (unary_low o) refl))
ends_is (in_bump m w ∷ fs) e = go (is_target e) (sym (ends_all fs) ∙ ends_is fs (plug join (in_bump m w) e))
  where
    go : (b : Bool) → all_end fs ≡ is_some (ended fs (plug join (in_bump m w) e)) → (b && all_end fs) ≡ is_some (whole_of (cond b (reduced join 1 fs (plug join (in_bump m w) e)) None))
    go true h = h
    go false h = refl
ends_is (in_binary o l ∷ fs) e = sym (ends_all fs) ∙ ends_is fs (plug join (in_binary o l) e) ∙ ap is_some (sym (step (in_binary o l) fs e (binary_low o) refl))
ends_is (in_assign t ∷ fs) e = sym (ends_all fs) ∙ ends_is fs (plug join (in_assign t) e)
ends_is (in_compound o t ∷ fs) e = sym (ends_all fs) ∙ ends_is fs (plug join (in_compound o t) e)
ends_is (in_cast m t ∷ fs) e = sym (ends_all fs) ∙ ends_is fs (plug join (in_cast m t) e)
ends_is (in_paren m ∷ fs) e = refl
ends_is (in_args h es ∷ fs) e = refl

-- ---- and whether it is a statement expression

abbrev kept : Spans → Exp Span → Bool
kept fs e = is_some (kept_statement (ended fs e))

form_of : (f : Frame Span) (fs : Spans) (b : Bool) → b ≡ is_bottom f → is_form b fs ≡ is_open (f ∷ fs)
form_of f [] b h = h
form_of f (g ∷ fs) b h = refl

-- what an operand becomes is no target, and a statement expression where the operand may stand at the bottom
under : (f : Frame Span) (fs : Spans) (e : Exp Span) → is_target e ≡ false → is_statement e ≡ is_bottom f → (ends (is_target e) fs && is_form (is_statement e) fs) ≡ (all_end fs && is_open (f ∷ fs))
under f fs e t h =
    ap (λ (b : Bool). ends b fs && is_form (is_statement e) fs) t ∙ ap (λ (b : Bool). b && is_form (is_statement e) fs) (ends_all fs)
    ∙ ap (λ (b : Bool). all_end fs && b) (form_of f fs (is_statement e) h)

pub form_is : (fs : Spans) (e : Exp Span) → (ends (is_target e) fs && is_form (is_statement e) fs) ≡ kept fs e
form_is [] e = go (is_statement e)
  where
    go : (b : Bool) → b ≡ is_some (cond b (Some e) None)
    go true = refl
    go false = refl
form_is (in_unary m o ∷ fs) e =
    let d = plug join (in_unary m o) e in
    sym (under (in_unary m o) fs d refl refl) ∙ form_is fs d ∙ ap (λ (x : Option (Exp Span)). is_some (kept_statement x)) (sym (step (in_unary m o) fs e (unary_low o) refl))
form_is (in_bump m w ∷ fs) e = let d = plug join (in_bump m w) e in go (is_target e) (sym (under (in_bump m w) fs d refl refl) ∙ form_is fs d)
  where
    go : (b : Bool) → (all_end fs && is_open (in_bump m w ∷ fs)) ≡ kept fs (plug join (in_bump m w) e)
        → ((b && all_end fs) && is_open (in_bump m w ∷ fs)) ≡ is_some (kept_statement (whole_of (cond b (reduced join 1 fs (plug join (in_bump m w) e)) None)))
    go true h = h
    go false h = refl
form_is (in_binary o l ∷ fs) e =
    let d = plug join (in_binary o l) e in
    sym (under (in_binary o l) fs d refl refl) ∙ form_is fs d ∙ ap (λ (x : Option (Exp Span)). is_some (kept_statement x)) (sym (step (in_binary o l) fs e (binary_low o) refl))
form_is (in_assign t ∷ fs) e = let d = plug join (in_assign t) e in sym (under (in_assign t) fs d refl refl) ∙ form_is fs d
form_is (in_compound o t ∷ fs) e = let d = plug join (in_compound o t) e in sym (under (in_compound o t) fs d refl refl) ∙ form_is fs d
form_is (in_cast m t ∷ fs) e = let d = plug join (in_cast m t) e in sym (under (in_cast m t) fs d refl refl) ∙ form_is fs d
form_is (in_paren m ∷ fs) e = refl
form_is (in_args h es ∷ fs) e = refl
