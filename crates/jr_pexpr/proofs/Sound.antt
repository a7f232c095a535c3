-- What the machine has read is what stands on its stack.
use Rattle.std.proofs.Common.{◌≡◌, ℕ, ◌<◌, ◌≤◌, Bool, true, false, cond, ltb, List, [], ◌∷◌, ◌++◌, Option, Some, None, refl, sym, ap, subst, ◌∙◌, arith}
use Rattle.std.specs.Prelude.{option_and_then, IfSome}
use Rattle.std.proofs.lemmas.Bool.{ltb-true, ltb-false, cond_both}
use Rattle.jr_lex.specs.declared.items.Keyword.TheVariants.{Class, New, Super}
use Rattle.jr_lex.specs.declared.items.Symbol.TheVariants.{OpenParen, CloseParen, Comma, Dot, Equals, PlusPlus, MinusMinus}
use Rattle.jr_ast.specs.declared.operators.UnOp.TheVariants.{Plus, Minus, Not}
use Rattle.jr_ast.specs.declared.operators.BinOp.{BinOp}
use Rattle.jr_ast.specs.declared.operators.BinOp.TheVariants.{Add, Sub}
use Rattle.jr_ast.specs.declared.operators.BumpOp.TheVariants.{PreInc, PreDec, PostInc, PostDec}
use Rattle.jr_ast.specs.Tree.{Word, TypeName, named, Exp, number, truth, null, string, name, field, super_field, this, class_literal, paren, cast, unary, bump, binary, assign, compound, Exps, end, more}
use Rattle.jr_grammar.specs.Tokens.{Token, word, keyword, integer, symbol}
use Rattle.jr_grammar.specs.Spelling.{unary_symbol, binary_symbol, compound_symbol}
use Rattle.jr_grammar.specs.Shape.{rank_of, unary_level, level_of, IsTarget, IsCompound, IsNamed, ShapedBehind, ShapedTarget, AllShaped, greatest}
use Rattle.jr_pexpr.specs.Pieces.{Way, up, down, way_symbol, Atom, a_number, a_truth, a_null, a_string, a_this, Piece, a_word, an_atom, a_super, a_new, a_class, an_open, a_close, a_comma, a_dot, a_bang, a_bump, an_operator, an_equals, a_compound, piece_of, piece_token}
use Rattle.jr_pexpr.specs.Machine.{Head, call_head, super_head, create_head, Frame, in_unary, in_bump, in_binary, in_assign, in_compound, in_cast, in_paren, in_args, State, want, have, dotted, at_super, super_dotted, at_new, new_named, new_dotted, with_last, binds, needs, needed, is_behind_minus, behind_minus, plug, fits, reduced, operated, closed, continued, applied, at_most, atom_exp, atom_fits, signed, emptied, is_target, is_compound, assigned, bumped, begun, cast_of, casted, opened, name_type, extended, literal_of, member, behind_super, super_member, behind_new, new_outer, behind_new_name, new_inner, stepped}
use Rattle.jr_grammar.specs.Bare.{Bare}
use Rattle.jr_pexpr.specs.BareMachine.{no_join, bare_step, bare_run}
use Rattle.jr_pexpr.proofs.Spell.{spell, spell_type, spell_target, spell_args, spell_more}
use Rattle.jr_pexpr.proofs.Levels.{rank_low, unary_low, needed_low, target_is, compound_is}
use Rattle.jr_pexpr.proofs.Complete.{Frames}
use Rattle.jr_pexpr.proofs.PieceTokens.{piece_back}

-- ---- what has been read

-- arguments, each with a comma behind it
abbrev pub spell_done : Exps Bare → List Token → List Token
spell_done end x = x
spell_done (more e es) x = spell e (symbol Comma ∷ spell_done es x)

abbrev pub spell_head : Head Bare → List Token → List Token
spell_head (call_head m t w) x = spell_target t (word w.text ∷ symbol OpenParen ∷ x)
spell_head (super_head m w) x = keyword Super ∷ symbol Dot ∷ word w.text ∷ symbol OpenParen ∷ x
spell_head (create_head m t) x = keyword New ∷ spell_type t (symbol OpenParen ∷ x)

abbrev pub spell_frame : Frame Bare → List Token → List Token
spell_frame (in_unary m o) x = symbol (unary_symbol o) ∷ x
spell_frame (in_bump m w) x = symbol (way_symbol w) ∷ x
spell_frame (in_binary o l) x = spell l (symbol (binary_symbol o) ∷ x)
spell_frame (in_assign t) x = spell t (symbol Equals ∷ x)
spell_frame (in_compound o t) x = spell t (symbol (compound_symbol o) ∷ x)
spell_frame (in_cast m t) x = symbol OpenParen ∷ spell_type t (symbol CloseParen ∷ x)
spell_frame (in_paren m) x = symbol OpenParen ∷ x
spell_frame (in_args d es) x = spell_head d (spell_done es x)

abbrev pub spell_stack : Frames → List Token → List Token
spell_stack [] x = x
spell_stack (f ∷ fs) x = spell_stack fs (spell_frame f x)

abbrev pub spell_state : State Bare → List Token → List Token
spell_state (want fs) x = spell_stack fs x
spell_state (have fs e) x = spell_stack fs (spell e x)
spell_state (dotted fs e) x = spell_stack fs (spell e (symbol Dot ∷ x))
spell_state (at_super fs m) x = spell_stack fs (keyword Super ∷ x)
spell_state (super_dotted fs m) x = spell_stack fs (keyword Super ∷ symbol Dot ∷ x)
spell_state (at_new fs m) x = spell_stack fs (keyword New ∷ x)
spell_state (new_named fs m t) x = spell_stack fs (keyword New ∷ spell_type t x)
spell_state (new_dotted fs m o) x = spell_stack fs (keyword New ∷ word o.text ∷ symbol Dot ∷ x)

-- ---- what stands there is well formed

-- the level of what the frame becomes
abbrev pub gives : Frame Bare → ℕ
gives (in_unary m o) = unary_level o
gives (in_bump m w) = 8
gives (in_binary o l) = rank_of o
gives (in_assign t) = 1
gives (in_compound o t) = 1
gives (in_cast m t) = 9
gives (in_paren m) = 10
gives (in_args d es) = 10

abbrev pub GoodHead : Bool → Head Bare → Type 0
GoodHead b (call_head m t w) = ShapedTarget b t
GoodHead b (super_head m w) = Unit {0}
GoodHead b (create_head m t) = IsNamed t

-- b says whether it stands directly behind a unary minus
abbrev pub GoodFrame : Bool → Frame Bare → Type 0
GoodFrame b (in_binary o l) = (rank_of o ≤ level_of l) × ShapedBehind b l
GoodFrame b (in_assign t) = IsTarget t × ShapedBehind b t
GoodFrame b (in_compound o t) = IsCompound o × IsTarget t × ShapedBehind b t
GoodFrame b (in_cast m t) = IsNamed t
GoodFrame b (in_args d es) = GoodHead b d × AllShaped es
GoodFrame b _ = Unit {0}

abbrev pub GoodStack : Frames → Type 0
GoodStack [] = Unit {0}
GoodStack (f ∷ fs) = GoodFrame (behind_minus fs) f × (needed fs ≤ gives f) × GoodStack fs

-- what can stand extended: a primary, or `++` or `--` behind its operand
abbrev pub IsTip : Exp Bare → Type 0
IsTip (unary m o e) = ⊥
IsTip (bump m PreInc e) = ⊥
IsTip (bump m PreDec e) = ⊥
IsTip (cast m t e) = ⊥
IsTip (binary m o l r) = ⊥
IsTip (assign m t e) = ⊥
IsTip (compound m o t e) = ⊥
IsTip _ = Unit {0}

pub tip_level : (e : Exp Bare) → IsTip e → 9 ≤ level_of e
tip_level (unary m o e) h = absurd h
tip_level (bump m PreInc e) h = absurd h
tip_level (bump m PreDec e) h = absurd h
tip_level (bump m PostInc e) h = omega arith
tip_level (bump m PostDec e) h = omega arith
tip_level (cast m t e) h = absurd h
tip_level (binary m o l r) h = absurd h
tip_level (assign m t e) h = absurd h
tip_level (compound m o t e) h = absurd h
tip_level _ h = omega arith

pub record GoodTip (fs : Frames) (e : Exp Bare) : Type 0 where
  pub is_tip : IsTip e
  pub shaped : ShapedBehind (behind_minus fs) e
  pub admitted : needed fs ≤ level_of e
  pub stack : GoodStack fs

abbrev pub Good : State Bare → Type 0
Good (want fs) = GoodStack fs
Good (have fs e) = GoodTip fs e
Good (dotted fs e) = (10 ≤ level_of e) × ShapedBehind (behind_minus fs) e × GoodStack fs
Good (at_super fs m) = GoodStack fs
Good (super_dotted fs m) = GoodStack fs
Good (at_new fs m) = GoodStack fs
Good (new_named fs m t) = IsNamed t × GoodStack fs
Good (new_dotted fs m o) = GoodStack fs

-- a primary stands anywhere
primary_good : (fs : Frames) (e : Exp Bare) → IsTip e → 10 ≤ level_of e → ShapedBehind (behind_minus fs) e → GoodStack fs → GoodTip fs e
primary_good fs e t l h g = record { is_tip = t; shaped = h; admitted = omega (arith, needed_low fs); stack = g }

-- an expression ended down to level k
pub record Ended (k : ℕ) (fs : Frames) (e : Exp Bare) : Type 0 where
  pub level : k ≤ level_of e
  pub admitted : needed fs ≤ level_of e
  pub below : needed fs ≤ k
  pub shaped : ShapedBehind (behind_minus fs) e
  pub stack : GoodStack fs

abbrev pub IsEnded : ℕ → Option (State Bare) → Type 0
IsEnded k None = Unit {0}
IsEnded k (Some (have fs e)) = Ended k fs e
IsEnded k _ = ⊥

abbrev pub SameText : Option (State Bare) → (List Token → List Token) → Type 0
SameText None xs = Unit {0}
SameText (Some s) xs = (x : List Token) → spell_state s x ≡ xs x

same_after : (o : Option (State Bare)) (xs ys : List Token → List Token) → ((x : List Token) → xs x ≡ ys x) → SameText o xs → SameText o ys
same_after None xs ys e h = tt
same_after (Some s) xs ys e h = λ x. h x ∙ e x

spell_plug : (f : Frame Bare) (e : Exp Bare) (x : List Token) → 1 ≤ binds f → spell (plug no_join f e) x ≡ spell_frame f (spell e x)
spell_plug (in_unary m o) e x h = refl
spell_plug (in_bump m up) e x h = refl
spell_plug (in_bump m down) e x h = refl
spell_plug (in_binary o l) e x h = refl
spell_plug (in_assign t) e x h = refl
spell_plug (in_compound o t) e x h = refl
spell_plug (in_cast m t) e x h = refl
spell_plug (in_paren m) e x h = absurd (omega arith)
spell_plug (in_args d es) e x h = absurd (omega arith)

pub spell_reduced : (k : ℕ) (fs : Frames) (e : Exp Bare) → 1 ≤ k → SameText (reduced no_join k fs e) (λ x. spell_stack fs (spell e x))
spell_reduced k [] e h = λ x. refl
spell_reduced k (f ∷ fs) e h =
    cond_both (ltb (binds f) k) (Some (have (f ∷ fs) e)) (cond (fits f e) (reduced no_join k fs (plug no_join f e)) None) (λ (o : Option (State Bare)). SameText o (λ x. spell_stack (f ∷ fs) (spell e x)))
    (λ _ x. refl)
    (λ b.
    let low = ltb-false (binds f) k b in
    cond_both (fits f e) (reduced no_join k fs (plug no_join f e)) None (λ (o : Option (State Bare)). SameText o (λ x. spell_stack (f ∷ fs) (spell e x)))
    (λ _. same_after (reduced no_join k fs (plug no_join f e)) (λ x. spell_stack fs (spell (plug no_join f e) x)) (λ x. spell_stack (f ∷ fs) (spell e x))
    (λ x. ap (spell_stack fs) (spell_plug f e x (omega arith))) (spell_reduced k fs (plug no_join f e) h))
    (λ _. tt))

pub record Plugs (b : Bool) (f : Frame Bare) (e : Exp Bare) : Type 0 where
  pub level : level_of (plug no_join f e) ≡ gives f
  pub shaped : ShapedBehind b (plug no_join f e)
  pub binds_gives : binds f ≡ gives f

pub plugs : (b : Bool) (f : Frame Bare) (e : Exp Bare) → fits f e ≡ true → 1 ≤ binds f → GoodFrame b f → needs f ≤ level_of e → ShapedBehind (is_behind_minus f) e → Plugs b f e
plugs b (in_unary m o) e t p g n h = record { level = refl; shaped = (n, h); binds_gives = refl }
plugs b (in_bump m up) e t p g n h = record { level = refl; shaped = (target_is e t, h); binds_gives = refl }
plugs b (in_bump m down) e t p g n h = record { level = refl; shaped = (target_is e t, h); binds_gives = refl }
plugs b (in_binary o l) e t p g n h = record { level = refl; shaped = ((g.0, omega arith), g.1, h); binds_gives = refl }
plugs b (in_assign d) e t p g n h = record { level = refl; shaped = (g.0, g.1, h); binds_gives = refl }
plugs b (in_compound o d) e t p g n h = record { level = refl; shaped = (g.0, g.1, g.2, h); binds_gives = refl }
plugs b (in_cast m d) e t p g n h = record { level = refl; shaped = (g, n, h); binds_gives = refl }
plugs b (in_paren m) e t p g n h = absurd (omega arith)
plugs b (in_args d es) e t p g n h = absurd (omega arith)

needs_below : (k : ℕ) (f : Frame Bare) → 1 ≤ k → k ≤ 7 → binds f < k → needs f ≤ k
needs_below k (in_unary m o) p q h = absurd (omega (arith, unary_low o))
needs_below k (in_bump m w) p q h = absurd (omega arith)
needs_below k (in_binary o l) p q h = omega arith
needs_below k (in_assign t) p q h = omega arith
needs_below k (in_compound o t) p q h = omega arith
needs_below k (in_cast m t) p q h = absurd (omega arith)
needs_below k (in_paren m) p q h = omega arith
needs_below k (in_args d es) p q h = omega arith

pub reduced_ended : (k : ℕ) (fs : Frames) (e : Exp Bare) → 1 ≤ k → k ≤ 7 → k ≤ level_of e → needed fs ≤ level_of e → ShapedBehind (behind_minus fs) e → GoodStack fs → IsEnded k (reduced no_join k fs e)
reduced_ended k [] e p q l n h g = record { level = l; admitted = n; below = p; shaped = h; stack = tt }
reduced_ended k (f ∷ fs) e p q l n h g =
    cond_both (ltb (binds f) k) (Some (have (f ∷ fs) e)) (cond (fits f e) (reduced no_join k fs (plug no_join f e)) None) (IsEnded k)
    (λ b. let low = ltb-true (binds f) k b in record { level = l; admitted = n; below = needs_below k f p q low; shaped = h; stack = g })
    (λ b.
    let low = ltb-false (binds f) k b in
    cond_both (fits f e) (reduced no_join k fs (plug no_join f e)) None (IsEnded k)
    (λ t.
    let d = plugs (behind_minus fs) f e t (omega arith) g.0 n h in
    reduced_ended k fs (plug no_join f e) p q (omega (arith, d.level, d.binds_gives)) (omega (arith, d.level, g.1)) d.shaped g.2)
    (λ _. tt))

-- ---- one step

pub record Sound (s : State Bare) (t : Token) (n : State Bare) : Type 0 where
  pub good : Good n
  pub spelled : (x : List Token) → spell_state s (t ∷ x) ≡ spell_state n x

abbrev pub StepSound : State Bare → Token → Option (State Bare) → Type 0
StepSound s t o = IfSome o (Sound s t)

operated_sound : (o : BinOp) (fs : Frames) (e : Exp Bare) (r : Option (State Bare)) → IsEnded (rank_of o) r → SameText r (λ x. spell_stack fs (spell e x))
    → StepSound (have fs e) (symbol (binary_symbol o)) (operated o r)
operated_sound o fs e None h m = tt
operated_sound o fs e (Some (have gs d)) h m = record { good = ((h.level, h.shaped), h.below, h.stack); spelled = λ x. sym (m (symbol (binary_symbol o) ∷ x)) }
operated_sound o fs e (Some _) h m = absurd h

ended : (k : ℕ) (fs : Frames) (e : Exp Bare) → 1 ≤ k → k ≤ 7 → GoodTip fs e → IsEnded k (reduced no_join k fs e)
ended k fs e p q g = reduced_ended k fs e p q (omega (arith, tip_level e g.is_tip)) g.admitted g.shaped g.stack

operator_sound : (o : BinOp) (fs : Frames) (e : Exp Bare) → GoodTip fs e → StepSound (have fs e) (symbol (binary_symbol o)) (operated o (reduced no_join (rank_of o) fs e))
operator_sound o fs e g =
    let low = rank_low o in
    operated_sound o fs e (reduced no_join (rank_of o) fs e) (ended (rank_of o) fs e (omega arith) low.1 g) (spell_reduced (rank_of o) fs e (omega arith))

-- ---- arguments

spell_more-with_last : (es : Exps Bare) (e : Exp Bare) (x : List Token) → spell_more (with_last es e) x ≡ symbol Comma ∷ spell_done es (spell e x)
spell_more-with_last end e x = refl
spell_more-with_last (more d es) e x = ap (λ (y : List Token). symbol Comma ∷ spell d y) (spell_more-with_last es e x)

pub spell_args-with_last : (es : Exps Bare) (e : Exp Bare) (x : List Token) → spell_args (with_last es e) x ≡ spell_done es (spell e x)
spell_args-with_last end e x = refl
spell_args-with_last (more d es) e x = ap (spell d) (spell_more-with_last es e x)

spell_done-with_last : (es : Exps Bare) (e : Exp Bare) (x : List Token) → spell_done (with_last es e) x ≡ spell_done es (spell e (symbol Comma ∷ x))
spell_done-with_last end e x = refl
spell_done-with_last (more d es) e x = ap (λ (y : List Token). spell d (symbol Comma ∷ y)) (spell_done-with_last es e x)

pub AllShaped-with_last : (es : Exps Bare) (e : Exp Bare) → AllShaped es → ShapedBehind false e → AllShaped (with_last es e)
AllShaped-with_last end e g h = (h, tt)
AllShaped-with_last (more d es) e g h = (g.0, AllShaped-with_last es e g.1 h)

pub spell_applied : (d : Head Bare) (es : Exps Bare) (x : List Token) → spell (applied no_join tt d es) x ≡ spell_head d (spell_args es (symbol CloseParen ∷ x))
spell_applied (call_head m t w) es x = refl
spell_applied (super_head m w) es x = refl
spell_applied (create_head m t) es x = refl

pub applied_tip : (d : Head Bare) (es : Exps Bare) → IsTip (applied no_join tt d es)
applied_tip (call_head m t w) es = tt
applied_tip (super_head m w) es = tt
applied_tip (create_head m t) es = tt

pub applied_level : (d : Head Bare) (es : Exps Bare) → 10 ≤ level_of (applied no_join tt d es)
applied_level (call_head m t w) es = omega arith
applied_level (super_head m w) es = omega arith
applied_level (create_head m t) es = omega arith

pub applied_shaped : (b : Bool) (d : Head Bare) (es : Exps Bare) → GoodHead b d → AllShaped es → ShapedBehind b (applied no_join tt d es)
applied_shaped b (call_head m t w) es g h = (g, h)
applied_shaped b (super_head m w) es g h = h
applied_shaped b (create_head m t) es g h = (g, h)

applied_good : (fs : Frames) (d : Head Bare) (es : Exps Bare) → GoodHead (behind_minus fs) d → AllShaped es → GoodStack fs → GoodTip fs (applied no_join tt d es)
applied_good fs d es g h k = primary_good fs (applied no_join tt d es) (applied_tip d es) (applied_level d es) (applied_shaped (behind_minus fs) d es g h) k

-- ---- brackets

closed_sound : (fs : Frames) (e : Exp Bare) (r : Option (State Bare)) → IsEnded 1 r → SameText r (λ x. spell_stack fs (spell e x)) → StepSound (have fs e) (symbol CloseParen) (closed no_join tt r)
closed_sound fs e (Some (have (in_paren m ∷ gs) d)) h k = record { good = primary_good gs (paren tt d) tt (omega arith) h.shaped h.stack.2; spelled = λ x. sym (k (symbol CloseParen ∷ x)) }
closed_sound fs e (Some (have (in_args c es ∷ gs) d)) h k =
    record {
      good = applied_good gs c (with_last es d) h.stack.0.0 (AllShaped-with_last es d h.stack.0.1 h.shaped) h.stack.2;
      spelled = λ x. sym (k (symbol CloseParen ∷ x)) ∙ ap (λ (y : List Token). spell_stack gs (spell_head c y)) (sym (spell_args-with_last es d (symbol CloseParen ∷ x))) ∙ ap (spell_stack gs) (sym (spell_applied c (with_last es d) x));
    }
closed_sound fs e _ h k = tt

continued_sound : (fs : Frames) (e : Exp Bare) (r : Option (State Bare)) → IsEnded 1 r → SameText r (λ x. spell_stack fs (spell e x)) → StepSound (have fs e) (symbol Comma) (continued r)
continued_sound fs e (Some (have (in_args c es ∷ gs) d)) h k =
    record {
      good = ((h.stack.0.0, AllShaped-with_last es d h.stack.0.1 h.shaped), h.stack.1, h.stack.2);
      spelled = λ x. sym (k (symbol Comma ∷ x)) ∙ ap (λ (y : List Token). spell_stack gs (spell_head c y)) (sym (spell_done-with_last es d x));
    }
continued_sound fs e _ h k = tt

emptied_sound : (fs : Frames) → GoodStack fs → StepSound (want fs) (symbol CloseParen) (emptied no_join tt fs)
emptied_sound (in_args d end ∷ fs) g = record { good = applied_good fs d end g.0.0 tt g.2; spelled = λ x. ap (spell_stack fs) (sym (spell_applied d end x)) }
emptied_sound _ g = tt

-- ---- where an expression is to come

at_most_sound : (k : ℕ) (fs : Frames) (s n : State Bare) (t : Token) → (needed fs ≤ k → Sound s t n) → StepSound s t (at_most k fs n)
at_most_sound k fs s n t h = cond_both (ltb k (needed fs)) None (Some n) (StepSound s t) (λ _. tt) (λ b. h (ltb-false k (needed fs) b))

atom_sound : (fs : Frames) (a : Atom) → GoodStack fs → StepSound (want fs) (piece_token (an_atom a)) (cond (atom_fits (behind_minus fs) a) (Some (have fs (atom_exp tt a))) None)
atom_sound fs (a_number n) g =
    cond_both (ltb (greatest (behind_minus fs)) n) false true (λ (c : Bool). StepSound (want fs) (integer n) (cond c (Some (have fs (number tt n))) None))
    (λ _. tt)
    (λ b. record { good = primary_good fs (number tt n) tt (omega arith) (ltb-false (greatest (behind_minus fs)) n b) g; spelled = λ x. refl })
atom_sound fs (a_truth b) g = record { good = primary_good fs (truth tt b) tt (omega arith) tt g; spelled = λ x. refl }
atom_sound fs a_null g = record { good = primary_good fs (null tt) tt (omega arith) tt g; spelled = λ x. refl }
atom_sound fs (a_string s) g = record { good = primary_good fs (string tt s) tt (omega arith) tt g; spelled = λ x. refl }
atom_sound fs a_this g = record { good = primary_good fs (this tt) tt (omega arith) tt g; spelled = λ x. refl }

signed_sound : (fs : Frames) (o : BinOp) → GoodStack fs → StepSound (want fs) (symbol (binary_symbol o)) (signed fs tt o)
signed_sound fs Add g = at_most_sound 8 fs (want fs) (want (in_unary tt Plus ∷ fs)) (symbol (binary_symbol Add)) (λ n. record { good = (tt, n, g); spelled = λ x. refl })
signed_sound fs Sub g = at_most_sound 8 fs (want fs) (want (in_unary tt Minus ∷ fs)) (symbol (binary_symbol Sub)) (λ n. record { good = (tt, n, g); spelled = λ x. refl })
signed_sound fs _ g = tt

begun_sound : (fs : Frames) (p : Piece) → GoodStack fs → StepSound (want fs) (piece_token p) (begun no_join fs tt p)
unfolding begun
begun_sound fs (a_word w) g = record { good = primary_good fs (name tt (record { mark = tt; text = w })) tt (omega arith) tt g; spelled = λ x. refl }
begun_sound fs (an_atom a) g = atom_sound fs a g
begun_sound fs a_super g = record { good = g; spelled = λ x. refl }
begun_sound fs a_new g = record { good = g; spelled = λ x. refl }
begun_sound fs an_open g = record { good = (tt, needed_low fs, g); spelled = λ x. refl }
begun_sound fs a_close g = emptied_sound fs g
begun_sound fs a_bang g = at_most_sound 9 fs (want fs) (want (in_unary tt Not ∷ fs)) (piece_token a_bang) (λ n. record { good = (tt, n, g); spelled = λ x. refl })
begun_sound fs (a_bump w) g = at_most_sound 8 fs (want fs) (want (in_bump tt w ∷ fs)) (piece_token (a_bump w)) (λ n. record { good = (tt, n, g); spelled = λ x. refl })
begun_sound fs (an_operator o) g = signed_sound fs o g
begun_sound fs _ g = tt

-- ---- behind an expression

again : (s r : State Bare) (t : Token) (o : Option (State Bare)) → ((x : List Token) → spell_state s x ≡ spell_state r x) → StepSound r t o → StepSound s t o
again s r t None e h = tt
again s r t (Some n) e h = record { good = h.good; spelled = λ x. e (t ∷ x) ∙ h.spelled x }

record IsCast (e : Exp Bare) (f : Frame Bare) : Type 0 where
  good : (b : Bool) → GoodFrame b f
  gives_nine : 9 ≤ gives f
  spelled : (x : List Token) → spell e x ≡ spell_frame f x

named_cast : (n : Exp Bare) (m : Bare) → IfSome (cast_of (paren m n)) (IsCast (paren m n))
named_cast (name a w) m = record { good = λ b. tt; gives_nine = omega arith; spelled = λ x. refl }
named_cast (field a (name b v) w) m = record { good = λ b. tt; gives_nine = omega arith; spelled = λ x. refl }
named_cast _ m = tt

is_cast : (e : Exp Bare) → IfSome (cast_of e) (IsCast e)
is_cast (paren m n) = named_cast n m
is_cast _ = tt

casted_sound : (fs : Frames) (e : Exp Bare) (p : Piece) → GoodTip fs e → StepSound (have fs e) (piece_token p) (casted no_join (cast_of e) fs tt p)
casted_sound fs e p g = go (cast_of e) (is_cast e)
  where
    go : (c : Option (Frame Bare)) → IfSome c (IsCast e) → StepSound (have fs e) (piece_token p) (casted no_join c fs tt p)
    go None h = tt
    go (Some f) h =
        cond_both (ltb 9 (needed fs)) None (begun no_join (f ∷ fs) tt p) (StepSound (have fs e) (piece_token p)) (λ _. tt)
        (λ b.
        let low = ltb-false 9 (needed fs) b in
        again (have fs e) (want (f ∷ fs)) (piece_token p) (begun no_join (f ∷ fs) tt p) (λ x. ap (spell_stack fs) (h.spelled x))
        (begun_sound (f ∷ fs) p (h.good (behind_minus fs), omega (arith, h.gives_nine), g.stack)))

opened_sound : (fs : Frames) (e : Exp Bare) → GoodTip fs e → StepSound (have fs e) (symbol OpenParen) (opened no_join fs e tt)
opened_sound fs (name m w) g = record { good = ((tt, tt), needed_low fs, g.stack); spelled = λ x. refl }
opened_sound fs (field m e w) g = record { good = ((g.shaped, tt), needed_low fs, g.stack); spelled = λ x. refl }
opened_sound fs (super_field m w) g = record { good = ((tt, tt), needed_low fs, g.stack); spelled = λ x. refl }
opened_sound fs (paren m e) g = casted_sound fs (paren m e) an_open g
opened_sound fs _ g = tt

assigned_sound : (fs : Frames) (e : Exp Bare) (f : Frame Bare) (t : Token) → GoodTip fs e → (IsTarget e → GoodFrame (behind_minus fs) f) → gives f ≡ 1 → ((x : List Token) → spell e (t ∷ x) ≡ spell_frame f x)
    → StepSound (have fs e) t (assigned fs e f)
assigned_sound fs e f t g h n q =
    cond_both (is_target e) (at_most 1 fs (want (f ∷ fs))) None (StepSound (have fs e) t)
    (λ b. at_most_sound 1 fs (have fs e) (want (f ∷ fs)) t (λ l. record { good = (h (target_is e b), omega arith, g.stack); spelled = λ x. ap (spell_stack fs) (q x) }))
    (λ _. tt)

compound_sound : (fs : Frames) (e : Exp Bare) (o : BinOp) → GoodTip fs e → StepSound (have fs e) (symbol (compound_symbol o)) (cond (is_compound o) (assigned fs e (in_compound o e)) None)
compound_sound fs e o g =
    cond_both (is_compound o) (assigned fs e (in_compound o e)) None (StepSound (have fs e) (symbol (compound_symbol o)))
    (λ b. assigned_sound fs e (in_compound o e) (symbol (compound_symbol o)) g (λ t. (compound_is o b, t, g.shaped)) refl (λ x. refl))
    (λ _. tt)

bumped_sound : (fs : Frames) (e : Exp Bare) (w : Way) → GoodTip fs e → StepSound (have fs e) (symbol (way_symbol w)) (bumped no_join fs e tt w)
bumped_sound fs e up g =
    cond_both (is_target e) (at_most 9 fs (have fs (bump tt PostInc e))) None (StepSound (have fs e) (symbol PlusPlus))
    (λ t. at_most_sound 9 fs (have fs e) (have fs (bump tt PostInc e)) (symbol PlusPlus) (λ n. record { good = record { is_tip = tt; shaped = (target_is e t, g.shaped); admitted = n; stack = g.stack }; spelled = λ x. refl }))
    (λ _. tt)
bumped_sound fs e down g =
    cond_both (is_target e) (at_most 9 fs (have fs (bump tt PostDec e))) None (StepSound (have fs e) (symbol MinusMinus))
    (λ t. at_most_sound 9 fs (have fs e) (have fs (bump tt PostDec e)) (symbol MinusMinus) (λ n. record { good = record { is_tip = tt; shaped = (target_is e t, g.shaped); admitted = n; stack = g.stack }; spelled = λ x. refl }))
    (λ _. tt)

dot_sound : (fs : Frames) (e : Exp Bare) → GoodTip fs e → StepSound (have fs e) (symbol Dot) (cond (ltb (level_of e) 10) None (Some (dotted fs e)))
dot_sound fs e g =
    cond_both (ltb (level_of e) 10) None (Some (dotted fs e)) (StepSound (have fs e) (symbol Dot)) (λ _. tt)
    (λ b. record { good = (ltb-false (level_of e) 10 b, g.shaped, g.stack); spelled = λ x. refl })

extended_sound : (fs : Frames) (e : Exp Bare) (p : Piece) → GoodTip fs e → StepSound (have fs e) (piece_token p) (extended no_join fs e tt p)
unfolding extended
extended_sound fs e a_dot g = dot_sound fs e g
extended_sound fs e (a_bump w) g = bumped_sound fs e w g
extended_sound fs e (an_operator o) g = operator_sound o fs e g
extended_sound fs e an_equals g = assigned_sound fs e (in_assign e) (symbol Equals) g (λ t. (t, g.shaped)) refl (λ x. refl)
extended_sound fs e (a_compound o) g = compound_sound fs e o g
extended_sound fs e a_close g = closed_sound fs e (reduced no_join 1 fs e) (ended 1 fs e (omega arith) (omega arith) g) (spell_reduced 1 fs e (omega arith))
extended_sound fs e a_comma g = continued_sound fs e (reduced no_join 1 fs e) (ended 1 fs e (omega arith) (omega arith) g) (spell_reduced 1 fs e (omega arith))
extended_sound fs e an_open g = opened_sound fs e g
extended_sound fs e (a_word w) g = casted_sound fs e (a_word w) g
extended_sound fs e (an_atom a) g = casted_sound fs e (an_atom a) g
extended_sound fs e a_super g = casted_sound fs e a_super g
extended_sound fs e a_new g = casted_sound fs e a_new g
extended_sound fs e a_bang g = casted_sound fs e a_bang g
extended_sound fs e _ g = tt

-- ---- behind a dot, `super` and `new`

literal_sound : (fs : Frames) (e : Exp Bare) → GoodStack fs → StepSound (dotted fs e) (keyword Class) (literal_of fs tt (name_type e))
literal_sound fs (name m w) g = record { good = primary_good fs (class_literal tt (named m None w)) tt (omega arith) tt g; spelled = λ x. refl }
literal_sound fs (field m (name n o) w) g = record { good = primary_good fs (class_literal tt (named m (Some o) w)) tt (omega arith) tt g; spelled = λ x. refl }
literal_sound fs _ g = tt

member_sound : (fs : Frames) (e : Exp Bare) (p : Piece) → Good (dotted fs e) → StepSound (dotted fs e) (piece_token p) (member no_join fs e tt p)
member_sound fs e (a_word w) g = record { good = primary_good fs (field tt e (record { mark = tt; text = w })) tt (omega arith) (g.0, g.1) g.2; spelled = λ x. refl }
member_sound fs e a_class g = literal_sound fs e g.2
member_sound fs e _ g = tt

behind_super_sound : (fs : Frames) (m : Bare) (p : Piece) → GoodStack fs → StepSound (at_super fs m) (piece_token p) (behind_super fs m p)
behind_super_sound fs m a_dot g = record { good = g; spelled = λ x. refl }
behind_super_sound fs m _ g = tt

super_member_sound : (fs : Frames) (m : Bare) (p : Piece) → GoodStack fs → StepSound (super_dotted fs m) (piece_token p) (super_member no_join fs m tt p)
super_member_sound fs m (a_word w) g = record { good = primary_good fs (super_field tt (record { mark = tt; text = w })) tt (omega arith) tt g; spelled = λ x. refl }
super_member_sound fs m _ g = tt

behind_new_sound : (fs : Frames) (m : Bare) (p : Piece) → GoodStack fs → StepSound (at_new fs m) (piece_token p) (behind_new fs m tt p)
behind_new_sound fs m (a_word w) g = record { good = (tt, g); spelled = λ x. refl }
behind_new_sound fs m _ g = tt

new_outer_sound : (fs : Frames) (m : Bare) (t : TypeName Bare) → GoodStack fs → StepSound (new_named fs m t) (symbol Dot) (new_outer fs m t)
new_outer_sound fs m (named n None w) g = record { good = g; spelled = λ x. refl }
new_outer_sound fs m _ g = tt

behind_new_name_sound : (fs : Frames) (m : Bare) (t : TypeName Bare) (p : Piece) → IsNamed t → GoodStack fs → StepSound (new_named fs m t) (piece_token p) (behind_new_name fs m t p)
behind_new_name_sound fs m t a_dot h g = new_outer_sound fs m t g
behind_new_name_sound fs m t an_open h g = record { good = ((h, tt), needed_low fs, g); spelled = λ x. refl }
behind_new_name_sound fs m t _ h g = tt

new_inner_sound : (fs : Frames) (m : Bare) (o : Word Bare) (p : Piece) → GoodStack fs → StepSound (new_dotted fs m o) (piece_token p) (new_inner no_join fs m o tt p)
new_inner_sound fs m o (a_word w) g = record { good = (tt, g); spelled = λ x. refl }
new_inner_sound fs m o _ g = tt

piece_sound : (s : State Bare) (p : Piece) → Good s → StepSound s (piece_token p) (stepped no_join s tt p)
piece_sound (want fs) p g = begun_sound fs p g
piece_sound (have fs e) p g = extended_sound fs e p g
piece_sound (dotted fs e) p g = member_sound fs e p g
piece_sound (at_super fs m) p g = behind_super_sound fs m p g
piece_sound (super_dotted fs m) p g = super_member_sound fs m p g
piece_sound (at_new fs m) p g = behind_new_sound fs m p g
piece_sound (new_named fs m t) p g = behind_new_name_sound fs m t p g.0 g.1
piece_sound (new_dotted fs m o) p g = new_inner_sound fs m o p g

pub step_sound : (s : State Bare) (t : Token) → Good s → StepSound s t (bare_step s t)
step_sound s t g = subst (λ (u : Token). StepSound s u (bare_step s t)) (piece_back t) (piece_sound s (piece_of t) g)

-- ---- runs

pub record RunSound (s : State Bare) (ts : List Token) (n : State Bare) : Type 0 where
  pub good : Good n
  pub spelled : (x : List Token) → spell_state s (ts ++ x) ≡ spell_state n x

pub run_sound : (s : State Bare) (ts : List Token) → Good s → IfSome (bare_run s ts) (RunSound s ts)
run_sound s [] g = record { good = g; spelled = λ x. refl }
run_sound s (t ∷ ts) g = go (λ n h. run_sound n ts h) (bare_step s t) (step_sound s t g)
  where
    then : (n : State Bare) → Sound s t n → (o : Option (State Bare)) → IfSome o (RunSound n ts) → IfSome o (RunSound s (t ∷ ts))
    then n h None k = tt
    then n h (Some m) k = record { good = k.good; spelled = λ x. h.spelled (ts ++ x) ∙ k.spelled x }

    go : ((n : State Bare) → Good n → IfSome (bare_run n ts) (RunSound n ts)) → (o : Option (State Bare)) → StepSound s t o → IfSome (option_and_then (λ (n : State Bare). bare_run n ts) o) (RunSound s (t ∷ ts))
    go f None h = tt
    go f (Some n) h = then n h (bare_run n ts) (f n h.good)
