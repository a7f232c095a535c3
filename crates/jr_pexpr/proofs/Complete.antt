-- The machine reads every shaped tree.
use Rattle.std.proofs.Common.{◌≡◌, ℕ, ◌<◌, ◌≤◌, Bool, true, false, List, [], ◌∷◌, Option, Some, None, refl, sym, ap, ◌∙◌, arith}
use Rattle.std.specs.Prelude.{option_and_then}
use Rattle.std.proofs.lemmas.Bool.{lt-ltb, le-ltb}
use Rattle.jr_lex.specs.declared.items.Keyword.TheVariants.{Class, New, Super}
use Rattle.jr_lex.specs.declared.items.Symbol.TheVariants.{OpenParen, CloseParen, Comma, Dot, Equals, PlusPlus, MinusMinus}
use Rattle.jr_ast.specs.declared.operators.UnOp.TheVariants.{Plus, Minus, Not}
use Rattle.jr_ast.specs.declared.operators.BinOp.{BinOp}
use Rattle.jr_ast.specs.declared.operators.BinOp.TheVariants.{Or, Add, Sub, Mul, Div, Rem}
use Rattle.jr_ast.specs.declared.operators.BumpOp.TheVariants.{PreInc, PreDec, PostInc, PostDec}
use Rattle.jr_ast.specs.Tree.{Word, TypeName, int, boolean, named, Exp, number, truth, null, string, name, field, super_field, this, class_literal, call, super_call, create, paren, cast, unary, bump, binary, assign, compound, no_target, on, Exps, end, more}
use Rattle.jr_grammar.specs.Tokens.{Token, word, keyword, symbol}
use Rattle.jr_grammar.specs.Spelling.{binary_symbol, compound_symbol}
use Rattle.jr_grammar.specs.Shape.{rank_of, level_of, IsTarget, IsCompound, IsNamed, ShapedBehind, AllShaped, is_minus}
use Rattle.jr_pexpr.specs.Pieces.{Way, up, down, way_symbol, a_number, a_truth, a_null, a_string, a_this, Piece, a_word, an_atom, a_super, a_new, an_open, a_bang}
use Rattle.jr_pexpr.specs.Machine.{Head, call_head, super_head, create_head, Frame, in_unary, in_bump, in_binary, in_assign, in_compound, in_cast, in_paren, in_args, State, want, have, dotted, with_last, behind, binds, needs, needed, behind_minus, plug, fits, reduced, operated, closed, continued, applied, assigned, begun, cast_of, casted, name_type, extended}
use Rattle.jr_grammar.specs.Bare.{Bare}
use Rattle.jr_pexpr.specs.BareMachine.{no_join, bare_step, bare_run}
use Rattle.jr_pexpr.proofs.Spell.{spell, spell_type, spell_args, spell_more}
use Rattle.jr_pexpr.proofs.Levels.{rank_low, unary_low, bump_low, level_pos, needed_low, target_level, target_true, at_most_is, number_fits}

-- ---- what stands on the stack once a tree is read

abbrev pub tops : {A : Type 0} → List (Frame A) → Exp A → List (Frame A)
tops fs (unary m o e) = tops (in_unary m o ∷ fs) e
tops fs (bump m PreInc e) = tops (in_bump m up ∷ fs) e
tops fs (bump m PreDec e) = tops (in_bump m down ∷ fs) e
tops fs (cast m t e) = tops (in_cast m t ∷ fs) e
tops fs (binary m o l r) = tops (in_binary o l ∷ fs) r
tops fs (assign m t e) = tops (in_assign t ∷ fs) e
tops fs (compound m o t e) = tops (in_compound o t ∷ fs) e
tops fs _ = fs

abbrev pub tip : {A : Type 0} → Exp A → Exp A
tip (unary m o e) = tip e
tip (bump m PreInc e) = tip e
tip (bump m PreDec e) = tip e
tip (cast m t e) = tip e
tip (binary m o l r) = tip r
tip (assign m t e) = tip e
tip (compound m o t e) = tip e
tip e = e

abbrev pub Frames : Type 0
Frames = List (Frame Bare)

-- ---- reducing

ends : (k : ℕ) (f : Frame Bare) (fs : Frames) (e : Exp Bare) → fits f e ≡ true → k ≤ binds f → reduced no_join k (f ∷ fs) e ≡ reduced no_join k fs (plug no_join f e)
ends k f fs e t h = rw (le-ltb (binds f) k h, t) refl

-- what a tree left on the stack becomes the tree again
pub unwound : (e : Exp Bare) (b : Bool) (fs : Frames) (k : ℕ) → ShapedBehind b e → k ≤ 7 → k ≤ level_of e → reduced no_join k (tops fs e) (tip e) ≡ reduced no_join k fs e
unwound (unary m o e) b fs k h s n = unwound e (is_minus o) (in_unary m o ∷ fs) k h.1 s (omega (arith, h.0)) ∙ ends k (in_unary m o) fs e refl n
unwound (bump m PreInc e) b fs k h s n = unwound e false (in_bump m up ∷ fs) k h.1 s (omega (arith, target_level e h.0)) ∙ ends k (in_bump m up) fs e (target_true e h.0) n
unwound (bump m PreDec e) b fs k h s n = unwound e false (in_bump m down ∷ fs) k h.1 s (omega (arith, target_level e h.0)) ∙ ends k (in_bump m down) fs e (target_true e h.0) n
unwound (cast m t e) b fs k h s n = unwound e false (in_cast m t ∷ fs) k h.2 s (omega (arith, h.1)) ∙ ends k (in_cast m t) fs e refl n
unwound (binary m o l r) b fs k h s n = unwound r false (in_binary o l ∷ fs) k h.2 s (omega (arith, h.0.1)) ∙ ends k (in_binary o l) fs r refl n
unwound (assign m t e) b fs k h s n = unwound e false (in_assign t ∷ fs) k h.2 s (omega (arith, level_pos e)) ∙ ends k (in_assign t) fs e refl n
unwound (compound m o t e) b fs k h s n = unwound e false (in_compound o t ∷ fs) k h.3 s (omega (arith, level_pos e)) ∙ ends k (in_compound o t) fs e refl n
unwound _ b fs k h s n = refl

-- what binds less tightly stays
stays : (k : ℕ) (f : Frame Bare) (fs : Frames) (e : Exp Bare) → binds f < k → reduced no_join k (f ∷ fs) e ≡ Some (have (f ∷ fs) e)
stays k f fs e h = rw (lt-ltb (binds f) k h) refl

binds_less : (k : ℕ) (f : Frame Bare) → 2 ≤ k → k ≤ 7 → needs f ≤ k → binds f < k
binds_less k (in_unary m o) a b h = absurd (omega arith)
binds_less k (in_bump m w) a b h = absurd (omega arith)
binds_less k (in_binary o l) a b h = omega arith
binds_less k (in_assign t) a b h = omega arith
binds_less k (in_compound o t) a b h = omega arith
binds_less k (in_cast m t) a b h = absurd (omega arith)
binds_less k (in_paren m) a b h = omega arith
binds_less k (in_args d es) a b h = omega arith

pub stopped : (k : ℕ) (fs : Frames) (e : Exp Bare) → 2 ≤ k → k ≤ 7 → needed fs ≤ k → reduced no_join k fs e ≡ Some (have fs e)
stopped k [] e a b h = refl
stopped k (f ∷ fs) e a b h = stays k f fs e (binds_less k f a b h)

-- ---- an operator behind a tree

operator_step : (o : BinOp) (fs : Frames) (e : Exp Bare) → bare_step (have fs e) (symbol (binary_symbol o)) ≡ operated o (reduced no_join (rank_of o) fs e)
unfolding extended
operator_step Or fs e = refl
operator_step _ fs e = refl

operator_after : (o : BinOp) (l : Exp Bare) (b : Bool) (fs : Frames) → ShapedBehind b l → rank_of o ≤ level_of l → needed fs ≤ rank_of o
    → bare_step (have (tops fs l) (tip l)) (symbol (binary_symbol o)) ≡ Some (want (in_binary o l ∷ fs))
operator_after o l b fs h n m =
    let low = rank_low o in
    operator_step o (tops fs l) (tip l) ∙ ap (operated o) (unwound l b fs (rank_of o) h low.1 n ∙ stopped (rank_of o) fs l low.0 low.1 m)

-- ---- primaries and targets

pub bare_tops : (e : Exp Bare) (fs : Frames) → 10 ≤ level_of e → (tops fs e ≡ fs) × (tip e ≡ e)
bare_tops (unary m o e) fs h = absurd (omega (arith, unary_low o))
bare_tops (bump m o e) fs h = absurd (omega (arith, bump_low o))
bare_tops (cast m t e) fs h = absurd (omega arith)
bare_tops (binary m o l r) fs h = absurd (omega (arith, rank_low o))
bare_tops (assign m t e) fs h = absurd (omega arith)
bare_tops (compound m o t e) fs h = absurd (omega arith)
bare_tops _ fs h = (refl, refl)

assign_step : (t : Exp Bare) (fs : Frames) → bare_step (have fs t) (symbol Equals) ≡ assigned fs t (in_assign t)
unfolding extended
assign_step t fs = refl

compound_step : (o : BinOp) (t : Exp Bare) (fs : Frames) → IsCompound o → bare_step (have fs t) (symbol (compound_symbol o)) ≡ assigned fs t (in_compound o t)
unfolding extended
compound_step Add t fs h = refl
compound_step Sub t fs h = refl
compound_step Mul t fs h = refl
compound_step Div t fs h = refl
compound_step Rem t fs h = refl
compound_step _ t fs h = absurd h

assigned_is : (t : Exp Bare) (f : Frame Bare) (fs : Frames) → IsTarget t → needed fs ≤ 1 → assigned fs t f ≡ Some (want (f ∷ fs))
assigned_is t f fs h n = rw (target_true t h) (at_most_is 1 fs (want (f ∷ fs)) n)

-- a token behind a primary
behind_primary : (e : Exp Bare) (fs : Frames) (t : Token) (s : Option (State Bare)) → 10 ≤ level_of e → bare_step (have fs e) t ≡ s → bare_step (have (tops fs e) (tip e)) t ≡ s
behind_primary e fs t s h k = let b = bare_tops e fs h in rw (b.0, b.1) k

dot_step : (e : Exp Bare) (fs : Frames) → 10 ≤ level_of e → bare_step (have fs e) (symbol Dot) ≡ Some (dotted fs e)
unfolding extended
dot_step e fs h = rw (le-ltb (level_of e) 10 h) refl

dot_after : (e : Exp Bare) (fs : Frames) → 10 ≤ level_of e → bare_step (have (tops fs e) (tip e)) (symbol Dot) ≡ Some (dotted fs e)
dot_after e fs h = behind_primary e fs (symbol Dot) _ h (dot_step e fs h)

bump_step : (w : Way) (e : Exp Bare) (fs : Frames) → IsTarget e → needed fs ≤ 9 → bare_step (have fs e) (symbol (way_symbol w)) ≡ Some (have fs (bump tt (behind w) e))
unfolding extended
bump_step up e fs t n = rw (target_true e t) (at_most_is 9 fs (have fs (bump tt PostInc e)) n)
bump_step down e fs t n = rw (target_true e t) (at_most_is 9 fs (have fs (bump tt PostDec e)) n)

-- ---- brackets

close_after : (e : Exp Bare) (m : Bare) (fs : Frames) → ShapedBehind false e → bare_step (have (tops (in_paren m ∷ fs) e) (tip e)) (symbol CloseParen) ≡ Some (have fs (paren tt e))
unfolding extended
close_after e m fs h = ap (closed no_join tt) (unwound e false (in_paren m ∷ fs) 1 h (omega arith) (level_pos e))

args_after : (e : Exp Bare) (d : Head Bare) (es : Exps Bare) (fs : Frames) → ShapedBehind false e
    → bare_step (have (tops (in_args d es ∷ fs) e) (tip e)) (symbol CloseParen) ≡ Some (have fs (applied no_join tt d (with_last es e)))
unfolding extended
args_after e d es fs h = ap (closed no_join tt) (unwound e false (in_args d es ∷ fs) 1 h (omega arith) (level_pos e))

comma_after : (e : Exp Bare) (d : Head Bare) (es : Exps Bare) (fs : Frames) → ShapedBehind false e
    → bare_step (have (tops (in_args d es ∷ fs) e) (tip e)) (symbol Comma) ≡ Some (want (in_args d (with_last es e) ∷ fs))
unfolding extended
comma_after e d es fs h = ap continued (unwound e false (in_args d es ∷ fs) 1 h (omega arith) (level_pos e))

-- ---- casts: what may follow one begins with a token that goes on behind no parenthesis

abbrev pub then_run : List Token → Option (State Bare) → Option (State Bare)
then_run x s = option_and_then (λ (next : State Bare). bare_run next x) s

casted_is : (n : Exp Bare) (m : Bare) (t : TypeName Bare) (fs : Frames) (p : Piece) → name_type n ≡ Some t → needed fs ≤ 9
    → casted no_join (cast_of (paren m n)) fs tt p ≡ begun no_join (in_cast m t ∷ fs) tt p
casted_is n m t fs p h q = rw (h, le-ltb 9 (needed fs) q) refl

-- the tokens with which an operand of a cast begins
word_cast : (n : Exp Bare) (m : Bare) (t : TypeName Bare) (fs : Frames) (w : List ℕ) (x : List Token) → name_type n ≡ Some t → needed fs ≤ 9
    → bare_run (have fs (paren m n)) (word w ∷ x) ≡ bare_run (want (in_cast m t ∷ fs)) (word w ∷ x)
unfolding extended
word_cast n m t fs w x h q = ap (then_run x) (casted_is n m t fs (a_word w) h q)

cast_begins : (e : Exp Bare) (n : Exp Bare) (m : Bare) (t : TypeName Bare) (fs : Frames) (x : List Token) → name_type n ≡ Some t → needed fs ≤ 9 → ShapedBehind false e → 9 ≤ level_of e
    → bare_run (have fs (paren m n)) (spell e x) ≡ bare_run (want (in_cast m t ∷ fs)) (spell e x)
unfolding extended
cast_begins (number a v) n m t fs x d q h l = ap (then_run x) (casted_is n m t fs (an_atom (a_number v)) d q)
cast_begins (truth a true) n m t fs x d q h l = ap (then_run x) (casted_is n m t fs (an_atom (a_truth true)) d q)
cast_begins (truth a false) n m t fs x d q h l = ap (then_run x) (casted_is n m t fs (an_atom (a_truth false)) d q)
cast_begins (null a) n m t fs x d q h l = ap (then_run x) (casted_is n m t fs (an_atom a_null) d q)
cast_begins (string a s) n m t fs x d q h l = ap (then_run x) (casted_is n m t fs (an_atom (a_string s)) d q)
cast_begins (name a w) n m t fs x d q h l = word_cast n m t fs w.text x d q
cast_begins (field a e w) n m t fs x d q h l = cast_begins e n m t fs (symbol Dot ∷ word w.text ∷ x) d q h.1 (omega (arith, h.0))
cast_begins (super_field a w) n m t fs x d q h l = ap (then_run (symbol Dot ∷ word w.text ∷ x)) (casted_is n m t fs a_super d q)
cast_begins (this a) n m t fs x d q h l = ap (then_run x) (casted_is n m t fs (an_atom a_this) d q)
cast_begins (class_literal a (named b None w)) n m t fs x d q h l = word_cast n m t fs w.text (symbol Dot ∷ keyword Class ∷ x) d q
cast_begins (class_literal a (named b (Some o) w)) n m t fs x d q h l = word_cast n m t fs o.text (symbol Dot ∷ word w.text ∷ symbol Dot ∷ keyword Class ∷ x) d q
cast_begins (class_literal a (int b)) n m t fs x d q h l = absurd h
cast_begins (class_literal a (boolean b)) n m t fs x d q h l = absurd h
cast_begins (call a no_target w es) n m t fs x d q h l = word_cast n m t fs w.text (symbol OpenParen ∷ spell_args es (symbol CloseParen ∷ x)) d q
cast_begins (call a (on e) w es) n m t fs x d q h l = cast_begins e n m t fs (symbol Dot ∷ word w.text ∷ symbol OpenParen ∷ spell_args es (symbol CloseParen ∷ x)) d q h.0.1 (omega (arith, h.0.0))
cast_begins (super_call a w es) n m t fs x d q h l = ap (then_run (symbol Dot ∷ word w.text ∷ symbol OpenParen ∷ spell_args es (symbol CloseParen ∷ x))) (casted_is n m t fs a_super d q)
cast_begins (create a c es) n m t fs x d q h l = ap (then_run (spell_type c (symbol OpenParen ∷ spell_args es (symbol CloseParen ∷ x)))) (casted_is n m t fs a_new d q)
cast_begins (paren a e) n m t fs x d q h l = ap (then_run (spell e (symbol CloseParen ∷ x))) (casted_is n m t fs an_open d q)
cast_begins (cast a c e) n m t fs x d q h l = ap (then_run (spell_type c (symbol CloseParen ∷ spell e x))) (casted_is n m t fs an_open d q)
cast_begins (unary a Plus e) n m t fs x d q h l = absurd (omega arith)
cast_begins (unary a Minus e) n m t fs x d q h l = absurd (omega arith)
cast_begins (unary a Not e) n m t fs x d q h l = ap (then_run (spell e x)) (casted_is n m t fs a_bang d q)
cast_begins (bump a PreInc e) n m t fs x d q h l = absurd (omega arith)
cast_begins (bump a PreDec e) n m t fs x d q h l = absurd (omega arith)
cast_begins (bump a PostInc e) n m t fs x d q h l = cast_begins e n m t fs (symbol PlusPlus ∷ x) d q h.1 (omega (arith, target_level e h.0))
cast_begins (bump a PostDec e) n m t fs x d q h l = cast_begins e n m t fs (symbol MinusMinus ∷ x) d q h.1 (omega (arith, target_level e h.0))
cast_begins (binary a o u v) n m t fs x d q h l = absurd (omega (arith, rank_low o))
cast_begins (assign a u e) n m t fs x d q h l = absurd (omega arith)
cast_begins (compound a o u e) n m t fs x d q h l = absurd (omega arith)

-- ---- arguments

abbrev joined : Exps Bare → Exps Bare → Exps Bare
joined end es = es
joined (more d ds) es = more d (joined ds es)

joined-end : (ds : Exps Bare) → joined ds end ≡ ds
joined-end end = refl
joined-end (more d ds) = ap (more d) (joined-end ds)

joined-with_last : (ds : Exps Bare) (e : Exp Bare) (es : Exps Bare) → joined (with_last ds e) es ≡ joined ds (more e es)
joined-with_last end e es = refl
joined-with_last (more d ds) e es = ap (more d) (joined-with_last ds e es)

-- ---- the whole

cast_opens : (t : TypeName Bare) (fs : Frames) (y : List Token) → IsNamed t → (n : Exp Bare) × (name_type n ≡ Some t) × (bare_run (want fs) (symbol OpenParen ∷ spell_type t (symbol CloseParen ∷ y)) ≡ bare_run (have fs (paren tt n)) y)
unfolding begun extended
cast_opens (named m None w) fs y h = (name tt w, refl, refl)
cast_opens (named m (Some o) w) fs y h = (field tt (name tt o) w, refl, refl)
cast_opens (int m) fs y h = absurd h
cast_opens (boolean m) fs y h = absurd h

literal_reads : (t : TypeName Bare) (fs : Frames) (x : List Token) → IsNamed t → bare_run (want fs) (spell_type t (symbol Dot ∷ keyword Class ∷ x)) ≡ bare_run (have fs (class_literal tt t)) x
unfolding begun extended
literal_reads (named m None w) fs x h = refl
literal_reads (named m (Some o) w) fs x h = refl
literal_reads (int m) fs x h = absurd h
literal_reads (boolean m) fs x h = absurd h

new_reads : (t : TypeName Bare) (fs : Frames) (x : List Token) → IsNamed t → bare_run (want fs) (keyword New ∷ spell_type t (symbol OpenParen ∷ x)) ≡ bare_run (want (in_args (create_head tt t) end ∷ fs)) x
unfolding begun extended
new_reads (named m None w) fs x h = refl
new_reads (named m (Some o) w) fs x h = refl
new_reads (int m) fs x h = absurd h
new_reads (boolean m) fs x h = absurd h

call_reads : (w : Word Bare) (fs : Frames) (x : List Token) → bare_run (want fs) (word w.text ∷ symbol OpenParen ∷ x) ≡ bare_run (want (in_args (call_head tt no_target w) end ∷ fs)) x
unfolding begun extended
call_reads w fs x = refl

call_on_reads : (e : Exp Bare) (w : Word Bare) (fs : Frames) (x : List Token) → bare_run (dotted fs e) (word w.text ∷ symbol OpenParen ∷ x) ≡ bare_run (want (in_args (call_head tt (on e) w) end ∷ fs)) x
unfolding begun extended
call_on_reads e w fs x = refl

super_reads : (w : Word Bare) (fs : Frames) (x : List Token) → bare_run (want fs) (keyword Super ∷ symbol Dot ∷ word w.text ∷ symbol OpenParen ∷ x) ≡ bare_run (want (in_args (super_head tt w) end ∷ fs)) x
unfolding begun extended
super_reads w fs x = refl

mutual
  unfolding begun extended

  pub complete : (e : Exp Bare) (fs : Frames) (x : List Token) → ShapedBehind (behind_minus fs) e → needed fs ≤ level_of e → bare_run (want fs) (spell e x) ≡ bare_run (have (tops fs e) (tip e)) x
  complete (number m n) fs x h l = rw (number_fits (behind_minus fs) n h) refl
  complete (truth m true) fs x h l = refl
  complete (truth m false) fs x h l = refl
  complete (null m) fs x h l = refl
  complete (string m s) fs x h l = refl
  complete (name m w) fs x h l = refl
  complete (field m e w) fs x h l = complete e fs (symbol Dot ∷ word w.text ∷ x) h.1 (omega (arith, h.0, needed_low fs)) ∙ ap (then_run (word w.text ∷ x)) (dot_after e fs h.0)
  complete (super_field m w) fs x h l = refl
  complete (this m) fs x h l = refl
  complete (class_literal m t) fs x h l = literal_reads t fs x h
  complete (call m no_target w es) fs x h l = call_reads w fs (spell_args es (symbol CloseParen ∷ x)) ∙ complete_args es (call_head tt no_target w) fs x h.1
  complete (call m (on e) w es) fs x h l =
      complete e fs (symbol Dot ∷ word w.text ∷ symbol OpenParen ∷ spell_args es (symbol CloseParen ∷ x)) h.0.1 (omega (arith, h.0.0, needed_low fs))
      ∙ ap (then_run (word w.text ∷ symbol OpenParen ∷ spell_args es (symbol CloseParen ∷ x))) (dot_after e fs h.0.0)
      ∙ call_on_reads e w fs (spell_args es (symbol CloseParen ∷ x))
      ∙ complete_args es (call_head tt (on e) w) fs x h.1
  complete (super_call m w es) fs x h l = super_reads w fs (spell_args es (symbol CloseParen ∷ x)) ∙ complete_args es (super_head tt w) fs x h
  complete (create m t es) fs x h l = new_reads t fs (spell_args es (symbol CloseParen ∷ x)) h.0 ∙ complete_args es (create_head tt t) fs x h.1
  complete (paren m e) fs x h l = complete e (in_paren tt ∷ fs) (symbol CloseParen ∷ x) h (level_pos e) ∙ ap (then_run x) (close_after e tt fs h)
  complete (cast m t e) fs x h l =
      let c = cast_opens t fs (spell e x) h.0 in
      c.2 ∙ cast_begins e c.0 tt t fs x c.1 l h.2 h.1 ∙ complete e (in_cast tt t ∷ fs) x h.2 h.1
  complete (unary m Plus e) fs x h l = ap (then_run (spell e x)) (at_most_is 8 fs (want (in_unary tt Plus ∷ fs)) l) ∙ complete e (in_unary tt Plus ∷ fs) x h.1 h.0
  complete (unary m Minus e) fs x h l = ap (then_run (spell e x)) (at_most_is 8 fs (want (in_unary tt Minus ∷ fs)) l) ∙ complete e (in_unary tt Minus ∷ fs) x h.1 h.0
  complete (unary m Not e) fs x h l = ap (then_run (spell e x)) (at_most_is 9 fs (want (in_unary tt Not ∷ fs)) l) ∙ complete e (in_unary tt Not ∷ fs) x h.1 h.0
  complete (bump m PreInc e) fs x h l = ap (then_run (spell e x)) (at_most_is 8 fs (want (in_bump tt up ∷ fs)) l) ∙ complete e (in_bump tt up ∷ fs) x h.1 (target_level e h.0)
  complete (bump m PreDec e) fs x h l = ap (then_run (spell e x)) (at_most_is 8 fs (want (in_bump tt down ∷ fs)) l) ∙ complete e (in_bump tt down ∷ fs) x h.1 (target_level e h.0)
  complete (bump m PostInc e) fs x h l =
      complete e fs (symbol PlusPlus ∷ x) h.1 (omega (arith, target_level e h.0, needed_low fs))
      ∙ ap (then_run x) (behind_primary e fs (symbol PlusPlus) _ (target_level e h.0) (bump_step up e fs h.0 l))
  complete (bump m PostDec e) fs x h l =
      complete e fs (symbol MinusMinus ∷ x) h.1 (omega (arith, target_level e h.0, needed_low fs))
      ∙ ap (then_run x) (behind_primary e fs (symbol MinusMinus) _ (target_level e h.0) (bump_step down e fs h.0 l))
  complete (binary m o u v) fs x h l =
      complete u fs (symbol (binary_symbol o) ∷ spell v x) h.1 (omega (arith, h.0.0))
      ∙ ap (then_run (spell v x)) (operator_after o u (behind_minus fs) fs h.1 h.0.0 l)
      ∙ complete v (in_binary o u ∷ fs) x h.2 (omega (arith, h.0.1))
  complete (assign m t e) fs x h l =
      complete t fs (symbol Equals ∷ spell e x) h.1 (omega (arith, level_pos t))
      ∙ ap (then_run (spell e x)) (behind_primary t fs (symbol Equals) _ (target_level t h.0) (assign_step t fs ∙ assigned_is t (in_assign t) fs h.0 l))
      ∙ complete e (in_assign t ∷ fs) x h.2 (level_pos e)
  complete (compound m o t e) fs x h l =
      complete t fs (symbol (compound_symbol o) ∷ spell e x) h.2 (omega (arith, level_pos t))
      ∙ ap (then_run (spell e x)) (behind_primary t fs (symbol (compound_symbol o)) _ (target_level t h.1) (compound_step o t fs h.0 ∙ assigned_is t (in_compound o t) fs h.1 l))
      ∙ complete e (in_compound o t ∷ fs) x h.3 (level_pos e)

  complete_args : (es : Exps Bare) (d : Head Bare) (fs : Frames) (x : List Token) → AllShaped es → bare_run (want (in_args d end ∷ fs)) (spell_args es (symbol CloseParen ∷ x)) ≡ bare_run (have fs (applied no_join tt d es)) x
  complete_args end d fs x h = refl
  complete_args (more e es) d fs x h =
      complete e (in_args d end ∷ fs) (spell_more es (symbol CloseParen ∷ x)) h.0 (level_pos e) ∙ complete_more es d end e fs x h.0 h.1

  complete_more : (es : Exps Bare) (d : Head Bare) (ds : Exps Bare) (e : Exp Bare) (fs : Frames) (x : List Token) → ShapedBehind false e → AllShaped es
      → bare_run (have (tops (in_args d ds ∷ fs) e) (tip e)) (spell_more es (symbol CloseParen ∷ x)) ≡ bare_run (have fs (applied no_join tt d (joined (with_last ds e) es))) x
  complete_more end d ds e fs x h k =
      ap (then_run x) (args_after e d ds fs h) ∙ ap (λ (gs : Exps Bare). bare_run (have fs (applied no_join tt d gs)) x) (sym (joined-end (with_last ds e)))
  complete_more (more g es) d ds e fs x h k =
      ap (then_run (spell g (spell_more es (symbol CloseParen ∷ x)))) (comma_after e d ds fs h)
      ∙ complete g (in_args d (with_last ds e) ∷ fs) (spell_more es (symbol CloseParen ∷ x)) k.0 (level_pos g)
      ∙ complete_more es d (with_last ds e) g fs x k.0 k.1
      ∙ ap (λ (gs : Exps Bare). bare_run (have fs (applied no_join tt d gs)) x) (joined-with_last (with_last ds e) g es)
