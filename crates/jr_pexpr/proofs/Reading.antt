-- What the machine answers is the longest expression, and where it stops.
use Rattle.std.proofs.Common.{◌≡◌, ℕ, ◌<◌, ◌≤◌, true, false, List, [], ◌∷◌, ◌++◌, Option, Some, None, refl, sym, ap, subst, ◌∙◌, arith, ◌⊎◌, inl, inr}
use Rattle.std.specs.Prelude.{option_and_then}
use Rattle.std.proofs.lemmas.List.{append-nil}
use Rattle.std.proofs.lemmas.Bool.{cases_lt}
use Rattle.jr_lex.specs.declared.items.Symbol.TheVariants.{OpenParen, CloseParen, Dot}
use Rattle.jr_ast.specs.declared.operators.BumpOp.TheVariants.{PreInc, PreDec, PostInc, PostDec}
use Rattle.jr_ast.specs.Tree.{Word, named, Exp, name, field, super_field, create, paren, cast, unary, bump, binary, assign, compound, end}
use Rattle.jr_grammar.specs.Tokens.{Token, word, symbol}
use Rattle.jr_grammar.specs.Spelling.{toks}
use Rattle.jr_grammar.specs.Shape.{level_of, IsTarget, ShapedBehind, Shaped, IsStatementForm}
use Rattle.jr_grammar.specs.Readings.{Begins}
use Rattle.jr_pexpr.specs.Pieces.{up, down}
use Rattle.jr_pexpr.specs.Machine.{Frame, in_unary, in_bump, in_binary, in_assign, in_compound, in_cast, in_paren, in_args, State, want, have, dotted, at_super, super_dotted, at_new, new_named, new_dotted, with_last, needed, behind_minus, binds, plug, fits, applied, reduced, whole_of, is_bottom, is_open, frames_of}
use Rattle.jr_grammar.specs.Bare.{Bare}
use Rattle.jr_pexpr.specs.BareMachine.{no_join, bare_run, bare_whole}
use Rattle.jr_pexpr.proofs.Spell.{spell, spell-is}
use Rattle.jr_pexpr.proofs.Levels.{rank_low, unary_low, level_pos, needed_low, target_true}
use Rattle.jr_pexpr.proofs.Complete.{Frames, tops, tip, unwound, complete}
use Rattle.jr_pexpr.proofs.Sound.{Good, GoodTip, GoodStack, IsTip, plugs, gives, IsEnded, SameText, spell_state, spell_stack, spell_head, spell_reduced, reduced_ended, spell_args-with_last, AllShaped-with_last, spell_applied, applied_level, applied_shaped, RunSound, run_sound}
use Rattle.jr_pexpr.proofs.Found.{at_some}

-- ---- a tree read from nothing

abbrev pub start : State Bare
start = want []

abbrev pub after : Exp Bare → State Bare
after e = have (tops [] e) (tip e)

pub toks_run : (e : Exp Bare) → Shaped e → bare_run start (toks e) ≡ Some (after e)
toks_run e h = ap (bare_run start) (sym (append-nil (toks e)) ∙ sym (spell-is e [])) ∙ complete e [] [] h (level_pos e)

pub whole_after : (e : Exp Bare) → Shaped e → bare_whole (after e) ≡ Some e
whole_after e h = ap whole_of (unwound e false [] 1 h (omega arith) (level_pos e))

pub reads : (e : Exp Bare) → Shaped e → option_and_then bare_whole (bare_run start (toks e)) ≡ Some e
reads e h = ap (option_and_then bare_whole) (toks_run e h) ∙ whole_after e h

-- ---- what is whole

whole_of_is : (r : Option (State Bare)) (e : Exp Bare) → whole_of r ≡ Some e → r ≡ Some (have [] e)
whole_of_is (Some (have [] d)) e h = cc
whole_of_is (Some (have (f ∷ fs) d)) e h = absurd cc
whole_of_is (Some _) e h = absurd cc
whole_of_is None e h = absurd cc

pub whole_is : (s : State Bare) (e : Exp Bare) → Good s → bare_whole s ≡ Some e → Shaped e × ((x : List Token) → spell_state s x ≡ spell e x)
whole_is (have fs d) e g h =
    let r = whole_of_is (reduced no_join 1 fs d) e h in
    let k = subst (IsEnded 1) r (reduced_ended 1 fs d (omega arith) (omega arith) (level_pos d) g.admitted g.shaped g.stack) in
    let m = subst (λ (o : Option (State Bare)). SameText o (λ x. spell_stack fs (spell d x))) r (spell_reduced 1 fs d (omega arith)) in
    (k.shaped, λ x. sym (m x))
whole_is _ e g h = absurd cc

nil_spell : (u : List Token) (e : Exp Bare) → u ++ [] ≡ spell e [] → toks e ≡ u
nil_spell u e h = sym (append-nil (toks e)) ∙ sym (spell-is e []) ∙ sym h ∙ append-nil u

pub from_nothing : Good start
from_nothing = tt

pub sound : (ts : List Token) (n : State Bare) (e : Exp Bare) → bare_run start ts ≡ Some n → bare_whole n ≡ Some e → Shaped e × (toks e ≡ ts)
sound ts n e h k =
    let r = at_some (bare_run start ts) n (RunSound start ts) h (run_sound start ts from_nothing) in
    let w = whole_is n e r.good k in
    (w.0, nil_spell ts e (r.spelled [] ∙ w.1 []))

-- ---- what has been begun can be ended

-- a name
abbrev a : List ℕ
a = 97 ∷ []

abbrev pub a_word : Word Bare
a_word = record { mark = tt; text = a }

-- a statement expression, or what can still become one
abbrev pub IsTop : Exp Bare → Type 0
IsTop e = IsStatementForm e ⊎ (10 ≤ level_of e)

abbrev pub Topped : Frames → Exp Bare → Type 0
Topped [] e = IsTop e
Topped (f ∷ fs) e = is_open (f ∷ fs) ≡ true

topped_next : (f : Frame Bare) (fs : Frames) (d : Exp Bare) → (is_bottom f ≡ true → IsTop d) → is_open (f ∷ fs) ≡ true → Topped fs d
topped_next f [] d h k = h k
topped_next f (g ∷ fs) d h k = k

topped_primary : (fs : Frames) (e : Exp Bare) → 10 ≤ level_of e → is_open fs ≡ true → Topped fs e
topped_primary [] e l h = inr l
topped_primary (f ∷ fs) e l h = h

plug_top : (f : Frame Bare) (e : Exp Bare) → 1 ≤ binds f → is_bottom f ≡ true → IsTop (plug no_join f e)
plug_top (in_bump m up) e l h = inl tt
plug_top (in_bump m down) e l h = inl tt
plug_top (in_assign t) e l h = inl tt
plug_top (in_compound o t) e l h = inl tt
plug_top (in_paren m) e l h = absurd (omega arith)
plug_top (in_args d es) e l h = absurd (omega arith)
plug_top _ e l h = absurd cc

pub record Ends (xs : List Token → List Token) (Open : Type 0) : Type 0 where
  pub rest : List Token
  pub tree : Exp Bare
  pub shaped : Shaped tree
  pub spelled : (x : List Token) → xs (rest ++ x) ≡ spell tree x
  pub top : Open → IsTop tree

-- whether the innermost takes e
abbrev Fit : Frames → Exp Bare → Type 0
Fit [] e = Unit {0}
Fit (f ∷ fs) e = fits f e ≡ true

low_fits : (fs : Frames) (e : Exp Bare) → needed fs ≤ 9 → Fit fs e
low_fits [] e h = tt
low_fits (in_bump m w ∷ fs) e h = absurd (omega arith)
low_fits (_ ∷ fs) e h = refl

target_fits : (fs : Frames) (e : Exp Bare) → IsTarget e → Fit fs e
target_fits [] e h = tt
target_fits (in_bump m w ∷ fs) e h = target_true e h
target_fits (_ ∷ fs) e h = refl

plug_low : (f : Frame Bare) → 1 ≤ binds f → gives f ≤ 9
plug_low (in_unary m o) h = omega (arith, unary_low o)
plug_low (in_bump m w) h = omega arith
plug_low (in_binary o l) h = omega (arith, rank_low o)
plug_low (in_assign t) h = omega arith
plug_low (in_compound o t) h = omega arith
plug_low (in_cast m t) h = omega arith
plug_low (in_paren m) h = absurd (omega arith)
plug_low (in_args d es) h = absurd (omega arith)

plugged : (f : Frame Bare) (fs : Frames) (e : Exp Bare) → 1 ≤ binds f → GoodStack (f ∷ fs) → ShapedBehind (behind_minus (f ∷ fs)) e → needed (f ∷ fs) ≤ level_of e → fits f e ≡ true
    → ((d : Exp Bare) → ShapedBehind (behind_minus fs) d → needed fs ≤ level_of d → Fit fs d → Ends (λ x. spell_stack fs (spell d x)) (Topped fs d))
    → Ends (λ x. spell_stack fs (spell (plug no_join f e) x)) (is_open (f ∷ fs) ≡ true)
plugged f fs e b g h n t more =
    let p = plugs (behind_minus fs) f e t b g.0 n h in
    let k = more (plug no_join f e) p.shaped (omega (arith, p.level, g.1)) (low_fits fs (plug no_join f e) (omega (arith, g.1, plug_low f b))) in
    record { rest = k.rest; tree = k.tree; shaped = k.shaped; spelled = k.spelled; top = λ o. k.top (topped_next f fs (plug no_join f e) (plug_top f e b) o) }

ends : (fs : Frames) (e : Exp Bare) → GoodStack fs → ShapedBehind (behind_minus fs) e → needed fs ≤ level_of e → Fit fs e → Ends (λ x. spell_stack fs (spell e x)) (Topped fs e)
ends [] e g h n t = record { rest = []; tree = e; shaped = h; spelled = λ x. refl; top = λ o. o }
ends (in_paren m ∷ fs) e g h n t =
    let d : Exp Bare = field tt (paren tt e) a_word in
    let k = ends fs d g.2 (omega arith, h) (needed_low fs) (target_fits fs d tt) in
    record { rest = symbol CloseParen ∷ symbol Dot ∷ word a ∷ k.rest; tree = k.tree; shaped = k.shaped; spelled = k.spelled; top = λ o. k.top (topped_next (in_paren m) fs d (λ _. inr (omega arith)) o) }
ends (in_args c es ∷ fs) e g h n t =
    let call_of = applied no_join tt c (with_last es e) in
    let d : Exp Bare = field tt call_of a_word in
    let k = ends fs d g.2 (applied_level c (with_last es e), applied_shaped (behind_minus fs) c (with_last es e) g.0.0 (AllShaped-with_last es e g.0.1 h)) (needed_low fs) (target_fits fs d tt) in
    record {
      rest = symbol CloseParen ∷ symbol Dot ∷ word a ∷ k.rest;
      tree = k.tree;
      shaped = k.shaped;
      spelled = λ x.
          ap (λ (y : List Token). spell_stack fs (spell_head c y)) (sym (spell_args-with_last es e (symbol CloseParen ∷ symbol Dot ∷ word a ∷ (k.rest ++ x))))
          ∙ ap (spell_stack fs) (sym (spell_applied c (with_last es e) (symbol Dot ∷ word a ∷ (k.rest ++ x)))) ∙ k.spelled x;
      top = λ o. k.top (topped_next (in_args c es) fs d (λ _. inr (omega arith)) o);
    }
ends (in_unary m o ∷ fs) e g h n t = plugged (in_unary m o) fs e (omega (arith, unary_low o)) g h n t (λ d p q r. ends fs d g.2 p q r)
ends (in_bump m up ∷ fs) e g h n t = plugged (in_bump m up) fs e (omega arith) g h n t (λ d p q r. ends fs d g.2 p q r)
ends (in_bump m down ∷ fs) e g h n t = plugged (in_bump m down) fs e (omega arith) g h n t (λ d p q r. ends fs d g.2 p q r)
ends (in_binary o l ∷ fs) e g h n t = plugged (in_binary o l) fs e (omega (arith, rank_low o)) g h n t (λ d p q r. ends fs d g.2 p q r)
ends (in_assign l ∷ fs) e g h n t = plugged (in_assign l) fs e (omega arith) g h n t (λ d p q r. ends fs d g.2 p q r)
ends (in_compound o l ∷ fs) e g h n t = plugged (in_compound o l) fs e (omega arith) g h n t (λ d p q r. ends fs d g.2 p q r)
ends (in_cast m c ∷ fs) e g h n t = plugged (in_cast m c) fs e (omega arith) g h n t (λ d p q r. ends fs d g.2 p q r)

pub state_ends : (s : State Bare) → Good s → Ends (spell_state s) (is_open (frames_of s) ≡ true)
state_ends (want fs) g =
    let k = ends fs (name tt a_word) g tt (needed_low fs) (target_fits fs (name tt a_word) tt) in
    record { rest = word a ∷ k.rest; tree = k.tree; shaped = k.shaped; spelled = k.spelled; top = λ o. k.top (topped_primary fs (name tt a_word) (omega arith) o) }
state_ends (have fs e) g = tip_ends fs e g (cases_lt (level_of e) 10)
  where
    low_top : (fs : Frames) (e : Exp Bare) → IsTip e → level_of e < 10 → is_open fs ≡ true → Topped fs e
    low_top (f ∷ fs) e t l o = o
    low_top [] (bump m PostInc e) t l o = inl tt
    low_top [] (bump m PostDec e) t l o = inl tt
    low_top [] (bump m PreInc e) t l o = absurd t
    low_top [] (bump m PreDec e) t l o = absurd t
    low_top [] (unary m u e) t l o = absurd t
    low_top [] (cast m c e) t l o = absurd t
    low_top [] (binary m b u v) t l o = absurd t
    low_top [] (assign m u v) t l o = absurd t
    low_top [] (compound m b u v) t l o = absurd t
    low_top [] _ t l o = absurd (omega arith)

    tip_ends : (fs : Frames) (e : Exp Bare) → GoodTip fs e → (level_of e < 10) ⊎ (10 ≤ level_of e) → Ends (λ x. spell_stack fs (spell e x)) (is_open fs ≡ true)
    tip_ends fs e g (inl l) =
        let k = ends fs e g.stack g.shaped g.admitted (low_fits fs e (omega (arith, g.admitted))) in
        record { rest = k.rest; tree = k.tree; shaped = k.shaped; spelled = k.spelled; top = λ o. k.top (low_top fs e g.is_tip l o) }
    tip_ends fs e g (inr l) =
        let d : Exp Bare = field tt e a_word in
        let k = ends fs d g.stack (l, g.shaped) (needed_low fs) (target_fits fs d tt) in
        record { rest = symbol Dot ∷ word a ∷ k.rest; tree = k.tree; shaped = k.shaped; spelled = k.spelled; top = λ o. k.top (topped_primary fs d (omega arith) o) }
state_ends (dotted fs e) g =
    let d : Exp Bare = field tt e a_word in
    let k = ends fs d g.2 (g.0, g.1) (needed_low fs) (target_fits fs d tt) in
    record { rest = word a ∷ k.rest; tree = k.tree; shaped = k.shaped; spelled = k.spelled; top = λ o. k.top (topped_primary fs d (omega arith) o) }
state_ends (at_super fs m) g =
    let d : Exp Bare = super_field tt a_word in
    let k = ends fs d g tt (needed_low fs) (target_fits fs d tt) in
    record { rest = symbol Dot ∷ word a ∷ k.rest; tree = k.tree; shaped = k.shaped; spelled = k.spelled; top = λ o. k.top (topped_primary fs d (omega arith) o) }
state_ends (super_dotted fs m) g =
    let d : Exp Bare = super_field tt a_word in
    let k = ends fs d g tt (needed_low fs) (target_fits fs d tt) in
    record { rest = word a ∷ k.rest; tree = k.tree; shaped = k.shaped; spelled = k.spelled; top = λ o. k.top (topped_primary fs d (omega arith) o) }
state_ends (at_new fs m) g =
    let d : Exp Bare = field tt (create tt (named tt None a_word) end) a_word in
    let k = ends fs d g (omega arith, (tt, tt)) (needed_low fs) (target_fits fs d tt) in
    record { rest = word a ∷ symbol OpenParen ∷ symbol CloseParen ∷ symbol Dot ∷ word a ∷ k.rest; tree = k.tree; shaped = k.shaped; spelled = k.spelled; top = λ o. k.top (topped_primary fs d (omega arith) o) }
state_ends (new_named fs m t) g =
    let d : Exp Bare = field tt (create tt t end) a_word in
    let k = ends fs d g.1 (omega arith, (g.0, tt)) (needed_low fs) (target_fits fs d tt) in
    record { rest = symbol OpenParen ∷ symbol CloseParen ∷ symbol Dot ∷ word a ∷ k.rest; tree = k.tree; shaped = k.shaped; spelled = k.spelled; top = λ o. k.top (topped_primary fs d (omega arith) o) }
state_ends (new_dotted fs m o) g =
    let d : Exp Bare = field tt (create tt (named tt (Some o) a_word) end) a_word in
    let k = ends fs d g (omega arith, (tt, tt)) (needed_low fs) (target_fits fs d tt) in
    record { rest = word a ∷ symbol OpenParen ∷ symbol CloseParen ∷ symbol Dot ∷ word a ∷ k.rest; tree = k.tree; shaped = k.shaped; spelled = k.spelled; top = λ q. k.top (topped_primary fs d (omega arith) q) }

pub begins_of : (ts : List Token) (n : State Bare) (k : Ends (spell_state n) (is_open (frames_of n) ≡ true)) → bare_run start ts ≡ Some n → toks k.tree ≡ ts ++ k.rest
begins_of ts n k h =
    let r = at_some (bare_run start ts) n (RunSound start ts) h (run_sound start ts from_nothing) in
    sym (append-nil (toks k.tree)) ∙ sym (spell-is k.tree []) ∙ sym (k.spelled []) ∙ ap (spell_state n) (append-nil k.rest) ∙ sym (r.spelled k.rest)

pub run_good : (ts : List Token) (n : State Bare) → bare_run start ts ≡ Some n → Good n
run_good ts n h =
    let r = at_some (bare_run start ts) n (RunSound start ts) h (run_sound start ts from_nothing) in r.good

pub closes : (ts : List Token) (n : State Bare) → bare_run start ts ≡ Some n → (e : Exp Bare) × Begins (Exp Bare) toks Shaped ts e
closes ts n h =
    let k = state_ends n (run_good ts n h) in
    (k.tree, record { meant = k.shaped; rest = k.rest; spells = begins_of ts n k h })
