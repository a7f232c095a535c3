-- The machine reads every list of statements.
use Rattle.std.proofs.Common.{◌≡◌, Bool, true, false, List, [], ◌∷◌, ◌++◌, Option, Some, None, refl, sym, ap, ◌∙◌, ◌⊎◌, inl, inr}
use Rattle.std.specs.Prelude.{option_and_then, option_map}
use Rattle.std.proofs.lemmas.List.{append-nil}
use Rattle.std.proofs.lemmas.Bool.{cond-true}
use Rattle.jr_lex.specs.declared.items.Keyword.TheVariants.{Boolean, Else, Final, If, Int, While, Return, Synchronized, Public, Protected, Private, Static, Volatile}
use Rattle.jr_lex.specs.declared.items.Symbol.TheVariants.{CloseParen, OpenBrace, CloseBrace, Semicolon, Equals}
use Rattle.jr_ast.specs.Tree.{Word, TypeName, int, boolean, named as named_type, Exp}
use Rattle.jr_ast.specs.StatementTree.{Stmt, local, eval, branch, loop, return, block, sync, empty, Else as Otherwise, no_else, otherwise, Stmts, end, more}
use Rattle.jr_grammar.specs.Tokens.{Token, word, keyword, symbol}
use Rattle.jr_grammar.specs.Spelling.{type_toks, toks}
use Rattle.jr_grammar.specs.Shape.{Shaped, ShapedStatement}
use Rattle.jr_pexpr.specs.Machine as E
use Rattle.jr_pexpr.specs.Machine.{begun, extended}
use Rattle.jr_grammar.specs.Bare.{Bare}
use Rattle.jr_pexpr.specs.BareMachine.{no_join, bare_step, bare_whole, bare_statement_step, bare_statement_run, bare_statement_whole}
use Rattle.jr_grammar.specs.StatementSpelling.{final_toks, stmts_toks}
use Rattle.jr_grammar.specs.StatementShape.{IsNoDeclaration, TakesNoElse, EndsTaken, StmtShaped, ElseShaped, StmtsShaped}
use Rattle.jr_pstmt.specs.Cues.{cue_of}
use Rattle.jr_pstmt.specs.TypeMachine as T
use Rattle.jr_pstmt.specs.StatementMachine.{Frame, in_block, in_sync, in_then, in_else, in_loop, if_head, while_head, sync_head, Slot, for_local, for_return, for_head, State, ready, done, returning, in_exp, in_eval, in_type, named, start, with_stmt, Place, ended, taken_by_if, list_closed, may_declare, declared, from_ready, filled, behind_head, evaluated, eval_ended, local_named, whole_at}
use Rattle.jr_punit_laws.specs.Machines.{list_step, list_whole, list_run}
use Rattle.jr_pstmt.proofs.Inside.{read_in, read_first}
use Rattle.jr_punit_laws.proofs.Expressions.{exp_read, eval_read}
use Rattle.jr_punit_laws.proofs.Types.{type_step, any_read}
use Rattle.jr_punit_laws.proofs.StatementSpell.{spell, spell_else, spells, spells-is, joined, joined-with_stmt, joined-end}

abbrev pub Frames : Type 0
Frames = List (Frame Bare)

abbrev pub then_run : List Token → Option (State Bare) → Option (State Bare)
then_run x o = option_and_then (λ (n : State Bare). list_run n x) o

-- ---- expressions inside

abbrev exp_taken : Frames → Stmts Bare → Slot Bare → E.State Bare → Token → Option (State Bare)
exp_taken fs all slot s t = option_and_then (filled no_join fs all slot tt (cue_of t)) (bare_whole s)

-- what the slot becomes once it is filled, and the token behind it
abbrev closer : Slot Bare → Token
closer (for_local m f t w) = symbol Semicolon
closer (for_return m) = symbol Semicolon
closer (for_head m h) = symbol CloseParen

abbrev filling : Frames → Stmts Bare → Slot Bare → Exp Bare → State Bare
filling fs all (for_local m f t w) e = done fs all (local tt f t w e)
filling fs all (for_return m) e = done fs all (return tt (Some e))
filling fs all (for_head m h) e = behind_head fs all m h e

filled_is : (fs : Frames) (all : Stmts Bare) (slot : Slot Bare) (e : Exp Bare) → filled no_join fs all slot tt (cue_of (closer slot)) e ≡ Some (filling fs all slot e)
filled_is fs all (for_local m f t w) e = refl
filled_is fs all (for_return m) e = refl
filled_is fs all (for_head m h) e = refl

shut : (slot : Slot Bare) (e : Exp Bare) (h : Shaped e) → bare_step (exp_read e h).last (closer slot) ≡ None
shut (for_local m f t w) e h = (exp_read e h).at_semicolon
shut (for_return m) e h = (exp_read e h).at_semicolon
shut (for_head m k) e h = (exp_read e h).at_close

-- an expression, to the token behind it
exp_reads : (fs : Frames) (all : Stmts Bare) (slot : Slot Bare) (e : Exp Bare) (x : List Token) → Shaped e
    → list_run (in_exp fs all slot (E.want [])) (toks e ++ (closer slot ∷ x)) ≡ list_run (filling fs all slot e) x
exp_reads fs all slot e x h =
    let r = exp_read e h in
    read_in (E.State Bare) (Exp Bare) (State Bare) (Stmts Bare) bare_step bare_whole list_step list_whole (in_exp fs all slot) (exp_taken fs all slot) (λ s t. refl)
    (toks e) (E.want []) r.last (closer slot) x (filling fs all slot e) r.runs (shut slot e h) (ap (option_and_then (filled no_join fs all slot tt (cue_of (closer slot)))) r.is_whole ∙ filled_is fs all slot e)

-- ---- an expression behind `return`

value_first : (fs : Frames) (all : Stmts Bare) (m : Bare) (t : Token) (n : E.State Bare) → bare_step (E.want []) t ≡ Some n → list_step (returning fs all m) t ≡ Some (in_exp fs all (for_return m) n)
unfolding begun
value_first fs all m (symbol Semicolon) n h = absurd cc
value_first fs all m (keyword Else) n h = absurd cc
value_first fs all m t n h = ap (option_map (in_exp fs all (for_return m))) h

value_reads : (fs : Frames) (all : Stmts Bare) (m : Bare) (e : Exp Bare) (x : List Token) → Shaped e → list_run (returning fs all m) (toks e ++ (symbol Semicolon ∷ x)) ≡ list_run (done fs all (return tt (Some e))) x
value_reads fs all m e x h =
    let r = exp_read e h in
    read_first (E.State Bare) (Exp Bare) (State Bare) (Stmts Bare) bare_step bare_whole list_step list_whole (in_exp fs all (for_return m)) (exp_taken fs all (for_return m)) (λ s t. refl)
    (toks e) (returning fs all m) (E.want []) r.last e (symbol Semicolon) x (done fs all (return tt (Some e))) refl r.is_whole (value_first fs all m) r.runs r.at_semicolon
    (ap (option_and_then (filled no_join fs all (for_return m) tt (cue_of (symbol Semicolon)))) r.is_whole)

-- ---- a statement expression

eval_first : (fs : Frames) (all : Stmts Bare) (t : Token) (n : E.State Bare) → bare_statement_step (E.want []) t ≡ Some n → list_step (ready fs all) t ≡ Some (in_eval fs all n)
unfolding begun from_ready
eval_first fs all (symbol Semicolon) n h = absurd cc
eval_first fs all (symbol OpenBrace) n h = absurd cc
eval_first fs all (symbol CloseBrace) n h = absurd cc
eval_first fs all (keyword If) n h = absurd cc
eval_first fs all (keyword While) n h = absurd cc
eval_first fs all (keyword Return) n h = absurd cc
eval_first fs all (keyword Int) n h = absurd cc
eval_first fs all (keyword Boolean) n h = absurd cc
eval_first fs all (keyword Public) n h = absurd cc
eval_first fs all (keyword Protected) n h = absurd cc
eval_first fs all (keyword Private) n h = absurd cc
eval_first fs all (keyword Static) n h = absurd cc
eval_first fs all (keyword Final) n h = absurd cc
eval_first fs all (keyword Volatile) n h = absurd cc
eval_first fs all (keyword Synchronized) n h = absurd cc
eval_first fs all t n h = ap (option_map (in_eval fs all)) h

abbrev eval_taken : Frames → Stmts Bare → E.State Bare → Token → Option (State Bare)
eval_taken fs all s t = eval_ended no_join fs all s tt (cue_of t)

eval_reads : (fs : Frames) (all : Stmts Bare) (e : Exp Bare) (x : List Token) → ShapedStatement e → list_run (ready fs all) (toks e ++ (symbol Semicolon ∷ x)) ≡ list_run (done fs all (eval tt e)) x
eval_reads fs all e x h =
    let r = eval_read e h in
    read_first (E.State Bare) (Exp Bare) (State Bare) (Stmts Bare) bare_statement_step bare_statement_whole list_step list_whole (in_eval fs all) (eval_taken fs all) (λ s t. refl)
    (toks e) (ready fs all) (E.want []) r.last e (symbol Semicolon) x (done fs all (eval tt e)) refl r.is_whole (eval_first fs all) r.runs r.at_semicolon
    (ap (option_map (evaluated no_join fs all tt)) r.is_whole)

-- ---- locals

abbrev type_taken : Frames → Stmts Bare → Bool → T.State Bare → Token → Option (State Bare)
type_taken fs all f s t = option_and_then (local_named fs all tt f tt (cue_of t)) (T.whole s)

-- a type behind `final`, to the word
final_reads : (fs : Frames) (all : Stmts Bare) (t : TypeName Bare) (w : Word Bare) (x : List Token) → list_run (in_type fs all tt true (T.want true)) (type_toks t ++ (word w.text ∷ x)) ≡ list_run (named fs all tt true t w) x
final_reads fs all t w x =
    read_in (T.State Bare) (TypeName Bare) (State Bare) (Stmts Bare) type_step T.whole list_step list_whole (in_type fs all tt true) (type_taken fs all true) (λ s t. refl)
    (type_toks t) (T.want true) (T.have t) (word w.text) x (named fs all tt true t w) (any_read t) refl refl

declared_is : (fs : Frames) (s : State Bare) → may_declare fs ≡ true → declared fs s ≡ Some s
declared_is fs s h = cond-true (may_declare fs) (Some s) None h

-- a type and a word, at the beginning
local_reads : (fs : Frames) (all : Stmts Bare) (f : Bool) (t : TypeName Bare) (w : Word Bare) (x : List Token) → may_declare fs ≡ true
    → list_run (ready fs all) (final_toks f ++ (type_toks t ++ (word w.text ∷ x))) ≡ list_run (named fs all tt f t w) x
unfolding begun extended from_ready
local_reads fs all true t w x h = ap (then_run (type_toks t ++ (word w.text ∷ x))) (declared_is fs (in_type fs all tt true (T.want true)) h) ∙ final_reads fs all t w x
local_reads fs all false (int m) w x h = ap (then_run (word w.text ∷ x)) (declared_is fs (in_type fs all tt false (T.have (int tt))) h)
local_reads fs all false (boolean m) w x h = ap (then_run (word w.text ∷ x)) (declared_is fs (in_type fs all tt false (T.have (boolean tt))) h)
local_reads fs all false (named_type m None v) w x h = ap (then_run x) (declared_is fs (named fs all tt false (named_type tt None v) w) h)
local_reads fs all false (named_type m (Some o) v) w x h = ap (then_run x) (declared_is fs (named fs all tt false (named_type tt (Some o) v) w) h)

-- ---- what stands open once a statement is read

abbrev mutual
  pub tops : Frames → Stmt Bare → Frames
  tops fs (branch m c first other) = tops_else fs m c first (tops (in_then m c ∷ fs) first) other
  tops fs (loop m c body) = tops (in_loop m c ∷ fs) body
  tops fs _ = fs

  pub tops_else : Frames → Bare → Exp Bare → Stmt Bare → Frames → Otherwise Bare → Frames
  tops_else fs m c first gs no_else = gs
  tops_else fs m c first gs (otherwise s) = tops (in_else m c first ∷ fs) s

abbrev mutual
  pub tip : Stmt Bare → Stmt Bare
  tip (branch m c first other) = tip_else (tip first) other
  tip (loop m c body) = tip body
  tip s = s

  pub tip_else : Stmt Bare → Otherwise Bare → Stmt Bare
  tip_else d no_else = d
  tip_else d (otherwise s) = tip s

mutual
  pub ended_tops : (s : Stmt Bare) (fs : Frames) (all : Stmts Bare) → ended no_join (tops fs s) all (tip s) ≡ ended no_join fs all s
  ended_tops (branch m c first other) fs all = ended_tops_else other m c first fs all (ended_tops first (in_then m c ∷ fs) all)
  ended_tops (loop m c body) fs all = ended_tops body (in_loop m c ∷ fs) all
  ended_tops _ fs all = refl

  ended_tops_else : (other : Otherwise Bare) (m : Bare) (c : Exp Bare) (first : Stmt Bare) (fs : Frames) (all : Stmts Bare) → ended no_join (tops (in_then m c ∷ fs) first) all (tip first) ≡ ended no_join (in_then m c ∷ fs) all first
      → ended no_join (tops_else fs m c first (tops (in_then m c ∷ fs) first) other) all (tip_else (tip first) other) ≡ ended no_join fs all (branch m c first other)
  ended_tops_else no_else m c first fs all h = h
  ended_tops_else (otherwise s) m c first fs all h = ended_tops s (in_else m c first ∷ fs) all

mutual
  taken_tops : (s : Stmt Bare) (fs : Frames) (all : Stmts Bare) → TakesNoElse s → taken_by_if no_join (tops fs s) all (tip s) ≡ taken_by_if no_join fs all s
  taken_tops (branch m c first other) fs all h = taken_tops_else other m c first fs all h
  taken_tops (loop m c body) fs all h = taken_tops body (in_loop m c ∷ fs) all h
  taken_tops _ fs all h = refl

  taken_tops_else : (other : Otherwise Bare) (m : Bare) (c : Exp Bare) (first : Stmt Bare) (fs : Frames) (all : Stmts Bare) → EndsTaken other
      → taken_by_if no_join (tops_else fs m c first (tops (in_then m c ∷ fs) first) other) all (tip_else (tip first) other) ≡ taken_by_if no_join fs all (branch m c first other)
  taken_tops_else no_else m c first fs all h = absurd h
  taken_tops_else (otherwise s) m c first fs all h = taken_tops s (in_else m c first ∷ fs) all h

else_after : (m : Bare) (c : Exp Bare) (first : Stmt Bare) (fs : Frames) (all : Stmts Bare) → TakesNoElse first
    → list_step (done (tops (in_then m c ∷ fs) first) all (tip first)) (keyword Else) ≡ Some (ready (in_else m c first ∷ fs) all)
else_after m c first fs all h = taken_tops first (in_then m c ∷ fs) all h

-- ---- the next statement

-- the tokens begin, and not with `else`
abbrev pub NoElse : List Token → Type 0
NoElse [] = ⊥
NoElse (keyword Else ∷ ts) = ⊥
NoElse (t ∷ ts) = Unit {0}

goes_on : (fs : Frames) (all : Stmts Bare) (s : Stmt Bare) (y : List Token) → NoElse y → list_run (done fs all s) y ≡ list_run (ready (ended no_join fs all s).on (ended no_join fs all s).all) y
goes_on fs all s [] h = absurd h
goes_on fs all s (keyword Else ∷ ts) h = absurd h
goes_on fs all s (symbol Semicolon ∷ ts) h = refl
goes_on fs all s (t ∷ ts) h = refl

-- a statement expression doesn't begin with `else`
run_no_else : (ts y : List Token) (s : E.State Bare) (e : Exp Bare) → bare_statement_run (E.want []) ts ≡ Some s → bare_statement_whole s ≡ Some e → NoElse (ts ++ y)
unfolding begun
run_no_else [] y s e h k = let q : E.want [] ≡ s = cc in let r = ap bare_statement_whole q ∙ k in absurd cc
run_no_else (keyword Else ∷ ts) y s e h k = absurd cc
run_no_else (t ∷ ts) y s e h k = tt

type_no_else : (t : TypeName Bare) (y : List Token) → NoElse (type_toks t ++ y)
type_no_else (int m) y = tt
type_no_else (boolean m) y = tt
type_no_else (named_type m None w) y = tt
type_no_else (named_type m (Some o) w) y = tt

pub no_else_first : (s : Stmt Bare) (x : List Token) → StmtShaped s → NoElse (spell s x)
no_else_first (local m true t w e) x h = tt
no_else_first (local m false t w e) x h = type_no_else t (word w.text ∷ symbol Equals ∷ (toks e ++ (symbol Semicolon ∷ x)))
no_else_first (eval m e) x h = let r = eval_read e h in run_no_else (toks e) (symbol Semicolon ∷ x) r.last e r.runs r.is_whole
no_else_first (branch m c first other) x h = tt
no_else_first (loop m c body) x h = tt
no_else_first (return m None) x h = tt
no_else_first (return m (Some e)) x h = tt
no_else_first (block m body) x h = tt
no_else_first (sync m e body) x h = tt
no_else_first (empty m) x h = tt

no_else_rest : (ss : Stmts Bare) (x : List Token) → StmtsShaped ss → NoElse x → NoElse (spells ss x)
no_else_rest end x h k = k
no_else_rest (more s ss) x h k = no_else_first s (spells ss x) h.0

-- ---- the whole

-- a local may stand there, or the statement is none
abbrev pub Admits : Frames → Stmt Bare → Type 0
Admits fs s = (may_declare fs ≡ true) ⊎ IsNoDeclaration s

abbrev list_at : Frames → Stmts Bare → List Token → Option (State Bare)
list_at fs all y = list_run (ready fs all) y

mutual
  unfolding from_ready

  pub complete : (s : Stmt Bare) (fs : Frames) (all : Stmts Bare) (x : List Token) → StmtShaped s → Admits fs s → list_run (ready fs all) (spell s x) ≡ list_run (done (tops fs s) all (tip s)) x
  complete (local m f t w e) fs all x h (inl d) = local_reads fs all f t w (symbol Equals ∷ (toks e ++ (symbol Semicolon ∷ x))) d ∙ exp_reads fs all (for_local tt f t w) e x h
  complete (local m f t w e) fs all x h (inr d) = absurd d
  complete (eval m e) fs all x h a = eval_reads fs all e x h
  complete (branch m c first other) fs all x h a =
      exp_reads fs all (for_head tt if_head) c (spell first (spell_else other x)) h.0
      ∙ complete first (in_then m c ∷ fs) all (spell_else other x) h.2 (inr h.1)
      ∙ complete_else other m c first fs all x h.3
  complete (loop m c body) fs all x h a = exp_reads fs all (for_head tt while_head) c (spell body x) h.0 ∙ complete body (in_loop m c ∷ fs) all x h.2 (inr h.1)
  complete (return m None) fs all x h a = refl
  complete (return m (Some e)) fs all x h a = value_reads fs all tt e x h
  complete (block m body) fs all x h a = complete_in body end fs all x h
  complete (sync m e body) fs all x h a = exp_reads fs all (for_head tt sync_head) e (symbol OpenBrace ∷ spells body (symbol CloseBrace ∷ x)) h.0 ∙ complete_sync body end e fs all x h.1
  complete (empty m) fs all x h a = refl

  complete_else : (other : Otherwise Bare) (m : Bare) (c : Exp Bare) (first : Stmt Bare) (fs : Frames) (all : Stmts Bare) (x : List Token) → ElseShaped first other
      → list_run (done (tops (in_then m c ∷ fs) first) all (tip first)) (spell_else other x) ≡ list_run (done (tops_else fs m c first (tops (in_then m c ∷ fs) first) other) all (tip_else (tip first) other)) x
  complete_else no_else m c first fs all x h = refl
  complete_else (otherwise s) m c first fs all x h = ap (then_run (spell s x)) (else_after m c first fs all h.0) ∙ complete s (in_else m c first ∷ fs) all x h.2 (inr h.1)

  complete_in : (ss ds : Stmts Bare) (fs : Frames) (all : Stmts Bare) (x : List Token) → StmtsShaped ss
      → list_run (ready (in_block tt ds ∷ fs) all) (spells ss (symbol CloseBrace ∷ x)) ≡ list_run (done fs all (block tt (joined ds ss))) x
  complete_in end ds fs all x h = ap (λ (ss : Stmts Bare). list_run (done fs all (block tt ss)) x) (sym (joined-end ds))
  complete_in (more s ss) ds fs all x h =
      complete s (in_block tt ds ∷ fs) all (spells ss (symbol CloseBrace ∷ x)) h.0 (inl refl)
      ∙ goes_on (tops (in_block tt ds ∷ fs) s) all (tip s) (spells ss (symbol CloseBrace ∷ x)) (no_else_rest ss (symbol CloseBrace ∷ x) h.1 tt)
      ∙ ap (λ (p : Place Bare). list_at p.on p.all (spells ss (symbol CloseBrace ∷ x))) (ended_tops s (in_block tt ds ∷ fs) all)
      ∙ complete_in ss (with_stmt ds s) fs all x h.1
      ∙ ap (λ (rs : Stmts Bare). list_run (done fs all (block tt rs)) x) (joined-with_stmt ds s ss)

  complete_sync : (ss ds : Stmts Bare) (e : Exp Bare) (fs : Frames) (all : Stmts Bare) (x : List Token) → StmtsShaped ss
      → list_run (ready (in_sync tt e ds ∷ fs) all) (spells ss (symbol CloseBrace ∷ x)) ≡ list_run (done fs all (sync tt e (joined ds ss))) x
  complete_sync end ds e fs all x h = ap (λ (ss : Stmts Bare). list_run (done fs all (sync tt e ss)) x) (sym (joined-end ds))
  complete_sync (more s ss) ds e fs all x h =
      complete s (in_sync tt e ds ∷ fs) all (spells ss (symbol CloseBrace ∷ x)) h.0 (inl refl)
      ∙ goes_on (tops (in_sync tt e ds ∷ fs) s) all (tip s) (spells ss (symbol CloseBrace ∷ x)) (no_else_rest ss (symbol CloseBrace ∷ x) h.1 tt)
      ∙ ap (λ (p : Place Bare). list_at p.on p.all (spells ss (symbol CloseBrace ∷ x))) (ended_tops s (in_sync tt e ds ∷ fs) all)
      ∙ complete_sync ss (with_stmt ds s) e fs all x h.1
      ∙ ap (λ (rs : Stmts Bare). list_run (done fs all (sync tt e rs)) x) (joined-with_stmt ds s ss)

-- ---- lists

-- behind the statements ds, the machine reads those of ss
pub record ListRead (ds ss : Stmts Bare) : Type 0 where
  pub last : State Bare
  pub runs : list_run (ready [] ds) (spells ss []) ≡ Some last
  pub is_whole : list_whole last ≡ Some (joined ds ss)
  pub at_brace : list_step last (symbol CloseBrace) ≡ None

abbrev whole_place : Frames → Stmts Bare → Stmt Bare → Option (Stmts Bare)
whole_place fs all s = whole_at (ended no_join fs all s)

lists_read : (ss ds : Stmts Bare) → StmtsShaped ss → ListRead ds ss
unfolding from_ready
lists_read end ds h = record { last = ready [] ds; runs = refl; is_whole = ap (λ (ss : Stmts Bare). Some ss) (sym (joined-end ds)); at_brace = refl }
lists_read (more s end) ds h = record {
  last = done (tops [] s) ds (tip s);
  runs = complete s [] ds [] h.0 (inl refl);
  is_whole = ap whole_at (ended_tops s [] ds) ∙ ap (λ (ss : Stmts Bare). Some ss) (sym (joined-end (with_stmt ds s)) ∙ joined-with_stmt ds s end);
  at_brace = ap (λ (p : Place Bare). list_closed no_join p.on p.all tt) (ended_tops s [] ds);
}
lists_read (more s (more t ss)) ds h =
    let k = lists_read (more t ss) (with_stmt ds s) h.1 in
    record {
      last = k.last;
      runs = complete s [] ds (spells (more t ss) []) h.0 (inl refl)
          ∙ goes_on (tops [] s) ds (tip s) (spells (more t ss) []) (no_else_first t (spells ss []) h.1.0)
          ∙ ap (λ (p : Place Bare). list_at p.on p.all (spells (more t ss) [])) (ended_tops s [] ds)
          ∙ k.runs;
      is_whole = k.is_whole ∙ ap (λ (rs : Stmts Bare). Some rs) (joined-with_stmt ds s (more t ss));
      at_brace = k.at_brace;
    }

-- every list of statements
pub record ListReads (ss : Stmts Bare) : Type 0 where
  pub last : State Bare
  pub runs : list_run start (stmts_toks ss) ≡ Some last
  pub is_whole : list_whole last ≡ Some ss
  pub at_brace : list_step last (symbol CloseBrace) ≡ None

pub list_reads : (ss : Stmts Bare) → StmtsShaped ss → ListReads ss
list_reads ss h =
    let k = lists_read ss end h in
    record { last = k.last; runs = ap (list_run start) (sym (append-nil (stmts_toks ss)) ∙ sym (spells-is ss [])) ∙ k.runs; is_whole = k.is_whole; at_brace = k.at_brace }
