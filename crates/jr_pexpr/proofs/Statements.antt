-- The machine that reads statement expressions reads what the machine for expressions does, where that is one.
use Rattle.std.proofs.Common.{◌≡◌, Bool, true, false, cond, List, [], ◌∷◌, ◌++◌, Option, Some, None, refl, sym, ap, subst, ◌∙◌, append_assoc, inl, inr}
use Rattle.std.specs.Prelude.{option_and_then}
use Rattle.jr_lex.specs.declared.items.Symbol.TheVariants.{OpenParen, CloseParen, Dot}
use Rattle.jr_ast.specs.declared.operators.BumpOp.TheVariants.{PreInc, PreDec, PostInc, PostDec}
use Rattle.jr_ast.specs.Tree.{Exp, call, super_call, create, cast, unary, bump, binary, assign, compound, on, end}
use Rattle.jr_grammar.specs.Tokens.{Token, word, symbol}
use Rattle.jr_grammar.specs.Spelling.{toks}
use Rattle.jr_grammar.specs.Shape.{Shaped, IsStatementForm, ShapedStatement}
use Rattle.jr_grammar.specs.Readings.{Begins}
use Rattle.jr_pexpr.specs.Pieces.{up, down}
use Rattle.jr_pexpr.specs.Machine.{Frame, in_unary, in_bump, in_binary, in_assign, in_compound, in_cast, State, is_open, frames_of, kept_open, is_statement, kept_statement}
use Rattle.jr_grammar.specs.Bare.{Bare}
use Rattle.jr_pexpr.specs.BareMachine.{no_join, bare_step, bare_run, bare_whole, bare_statement_step, bare_statement_run, bare_statement_whole}
use Rattle.jr_pexpr.proofs.Complete.{Frames, tops}
use Rattle.jr_pexpr.proofs.Opens.{Opens, step_opens}
use Rattle.jr_pexpr.proofs.Reading.{start, after, toks_run, whole_after, sound, IsTop, a_word, state_ends, begins_of, run_good}
use Rattle.jr_pexpr.proofs.Found.{both_some}

-- ---- runs

-- what is open at the end was so all along
open_run : (s : State Bare) (ts : List Token) (n : State Bare) → bare_run s ts ≡ Some n → is_open (frames_of n) ≡ true → is_open (frames_of s) ≡ true
open_run s [] n e h = let k : s ≡ n = cc in ap (λ (s : State Bare). is_open (frames_of s)) k ∙ h
open_run s (t ∷ ts) n e h = go (λ m k. open_run m ts n k h) (bare_step s t) (step_opens no_join s tt t) e
  where
    go : ((m : State Bare) → bare_run m ts ≡ Some n → is_open (frames_of m) ≡ true) → (o : Option (State Bare)) → Opens (frames_of s) o → option_and_then (λ (m : State Bare). bare_run m ts) o ≡ Some n → is_open (frames_of s) ≡ true
    go f None q k = absurd cc
    go f (Some m) q k = q (f m k)

kept_is : (s : State Bare) → is_open (frames_of s) ≡ true → kept_open (Some s) ≡ Some s
kept_is s h = rw h refl

pub kept_run : (s : State Bare) (ts : List Token) (n : State Bare) → bare_run s ts ≡ Some n → is_open (frames_of n) ≡ true → bare_statement_run s ts ≡ Some n
kept_run s [] n e h = e
kept_run s (t ∷ ts) n e h = go (λ m k. kept_run m ts n k h) (bare_step s t) e
  where
    go : ((m : State Bare) → bare_run m ts ≡ Some n → bare_statement_run m ts ≡ Some n) → (o : Option (State Bare)) → option_and_then (λ (m : State Bare). bare_run m ts) o ≡ Some n
        → option_and_then (λ (m : State Bare). bare_statement_run m ts) (kept_open o) ≡ Some n
    go f None k = absurd cc
    go f (Some m) k = ap (option_and_then (λ (m : State Bare). bare_statement_run m ts)) (kept_is m (open_run m ts n k h)) ∙ f m k

kept_some : (o : Option (State Bare)) (m : State Bare) → kept_open o ≡ Some m → (o ≡ Some m) × (is_open (frames_of m) ≡ true)
kept_some None m e = absurd cc
kept_some (Some s) m e = go (is_open (frames_of s)) refl e
  where
    go : (b : Bool) → is_open (frames_of s) ≡ b → cond b (Some s) None ≡ Some m → (Some s ≡ Some m) × (is_open (frames_of m) ≡ true)
    go true h k = let q : s ≡ m = cc in (k, ap (λ (s : State Bare). is_open (frames_of s)) (sym q) ∙ h)
    go false h k = absurd cc

pub run_kept : (s : State Bare) (ts : List Token) (n : State Bare) → bare_statement_run s ts ≡ Some n → is_open (frames_of s) ≡ true → (bare_run s ts ≡ Some n) × (is_open (frames_of n) ≡ true)
run_kept s [] n e h = let k : s ≡ n = cc in (e, ap (λ (s : State Bare). is_open (frames_of s)) (sym k) ∙ h)
run_kept s (t ∷ ts) n e h = go (λ m k q. run_kept m ts n k q) (both_some (λ (m : State Bare). bare_statement_run m ts) (bare_statement_step s t) n e)
  where
    go : ((m : State Bare) → bare_statement_run m ts ≡ Some n → is_open (frames_of m) ≡ true → (bare_run m ts ≡ Some n) × (is_open (frames_of n) ≡ true))
        → (m : State Bare) × (bare_statement_step s t ≡ Some m) × (bare_statement_run m ts ≡ Some n) → (bare_run s (t ∷ ts) ≡ Some n) × (is_open (frames_of n) ≡ true)
    go f b =
        let q = kept_some (bare_step s t) b.0 b.1 in
        let r = f b.0 b.2 q.1 in
        (ap (option_and_then (λ (m : State Bare). bare_run m ts)) q.0 ∙ r.0, r.1)

-- ---- every statement expression is read

tops_open : (f : Frame Bare) (fs : Frames) (e : Exp Bare) → is_open (f ∷ fs) ≡ true → is_open (tops (f ∷ fs) e) ≡ true
tops_open f fs (unary m o e) h = tops_open (in_unary m o) (f ∷ fs) e h
tops_open f fs (bump m PreInc e) h = tops_open (in_bump m up) (f ∷ fs) e h
tops_open f fs (bump m PreDec e) h = tops_open (in_bump m down) (f ∷ fs) e h
tops_open f fs (bump m PostInc e) h = h
tops_open f fs (bump m PostDec e) h = h
tops_open f fs (cast m t e) h = tops_open (in_cast m t) (f ∷ fs) e h
tops_open f fs (binary m o l r) h = tops_open (in_binary o l) (f ∷ fs) r h
tops_open f fs (assign m t e) h = tops_open (in_assign t) (f ∷ fs) e h
tops_open f fs (compound m o t e) h = tops_open (in_compound o t) (f ∷ fs) e h
tops_open f fs _ h = h

statement_open : (e : Exp Bare) → IsStatementForm e → is_open (tops [] e) ≡ true
statement_open (assign m t e) h = tops_open (in_assign t) [] e refl
statement_open (compound m o t e) h = tops_open (in_compound o t) [] e refl
statement_open (bump m PreInc e) h = tops_open (in_bump m up) [] e refl
statement_open (bump m PreDec e) h = tops_open (in_bump m down) [] e refl
statement_open (bump m PostInc e) h = refl
statement_open (bump m PostDec e) h = refl
statement_open (call m t w es) h = refl
statement_open (super_call m w es) h = refl
statement_open (create m t es) h = refl
statement_open _ h = absurd h

statement_true : (e : Exp Bare) → IsStatementForm e → is_statement e ≡ true
statement_true (assign m t e) h = refl
statement_true (compound m o t e) h = refl
statement_true (bump m o e) h = refl
statement_true (call m t w es) h = refl
statement_true (super_call m w es) h = refl
statement_true (create m t es) h = refl
statement_true _ h = absurd h

pub statement_is : (e : Exp Bare) → is_statement e ≡ true → IsStatementForm e
statement_is (assign m t e) h = tt
statement_is (compound m o t e) h = tt
statement_is (bump m o e) h = tt
statement_is (call m t w es) h = tt
statement_is (super_call m w es) h = tt
statement_is (create m t es) h = tt
statement_is _ h = absurd cc

pub statement_toks_run : (e : Exp Bare) → ShapedStatement e → bare_statement_run start (toks e) ≡ Some (after e)
statement_toks_run e h = kept_run start (toks e) (after e) (toks_run e h.1) (statement_open e h.0)

kept_statement_is : (e : Exp Bare) → IsStatementForm e → kept_statement (Some e) ≡ Some e
kept_statement_is e h = rw (statement_true e h) refl

pub statement_whole_after : (e : Exp Bare) → ShapedStatement e → bare_statement_whole (after e) ≡ Some e
statement_whole_after e h = ap kept_statement (whole_after e h.1) ∙ kept_statement_is e h.0

pub statement_reads : (e : Exp Bare) → ShapedStatement e → option_and_then bare_statement_whole (bare_statement_run start (toks e)) ≡ Some e
statement_reads e h = ap (option_and_then bare_statement_whole) (statement_toks_run e h) ∙ statement_whole_after e h

-- ---- and nothing else

kept_whole : (o : Option (Exp Bare)) (e : Exp Bare) → kept_statement o ≡ Some e → (o ≡ Some e) × IsStatementForm e
kept_whole None e h = absurd cc
kept_whole (Some d) e h = go (is_statement d) refl h
  where
    go : (b : Bool) → is_statement d ≡ b → cond b (Some d) None ≡ Some e → (Some d ≡ Some e) × IsStatementForm e
    go true k q = let r : d ≡ e = cc in (q, subst IsStatementForm r (statement_is d k))
    go false k q = absurd cc

pub statement_whole_is : (s : State Bare) (e : Exp Bare) → bare_statement_whole s ≡ Some e → (bare_whole s ≡ Some e) × IsStatementForm e
statement_whole_is s e h = kept_whole (bare_whole s) e h

pub statement_sound : (ts : List Token) (n : State Bare) (e : Exp Bare) → bare_statement_run start ts ≡ Some n → bare_statement_whole n ≡ Some e → ShapedStatement e × (toks e ≡ ts)
statement_sound ts n e h k =
    let r = run_kept start ts n h refl in
    let w = statement_whole_is n e k in
    let q = sound ts n e r.0 w.0 in
    ((w.1, q.0), q.1)

-- ---- what has been begun can be ended

statement_ends : (ts : List Token) (tree : Exp Bare) (rest : List Token) → Shaped tree → toks tree ≡ ts ++ rest → IsTop tree → (e : Exp Bare) × Begins (Exp Bare) toks ShapedStatement ts e
statement_ends ts tree rest h k (inl s) = (tree, record { meant = (s, h); rest = rest; spells = k })
statement_ends ts tree rest h k (inr l) =
    let tail = symbol Dot ∷ word (97 ∷ []) ∷ symbol OpenParen ∷ symbol CloseParen ∷ [] in
    let d : Exp Bare = call tt (on tree) a_word end in (
      d,
      record {
        meant = (tt, ((l, h), tt));
        rest = rest ++ tail;
        spells = append_assoc (toks tree) (symbol Dot ∷ []) (word (97 ∷ []) ∷ symbol OpenParen ∷ symbol CloseParen ∷ []) ∙ ap (λ (y : List Token). y ++ tail) k ∙ append_assoc ts rest tail;
      },
    )

pub statement_closes : (ts : List Token) (n : State Bare) → bare_statement_run start ts ≡ Some n → (e : Exp Bare) × Begins (Exp Bare) toks ShapedStatement ts e
statement_closes ts n h =
    let r = run_kept start ts n h refl in
    let k = state_ends n (run_good ts n r.0) in
    statement_ends ts k.tree k.rest k.shaped (begins_of ts n k r.0) (k.top r.1)
