-- What the machine has read of a list of statements is what stands on its stack.
use Rattle.std.proofs.Common.{◌≡◌, Bool, true, false, List, [], ◌∷◌, ◌++◌, Option, Some, None, refl, sym, ap, subst, ◌∙◌, append_assoc, inl, inr}
use Rattle.std.specs.Prelude.{option_and_then, option_map, IfSome}
use Rattle.std.proofs.lemmas.Bool.{cond_both}
use Rattle.jr_lex.specs.declared.items.Keyword.{Keyword}
use Rattle.jr_lex.specs.declared.items.Keyword.TheVariants.{Else, If, While, Return, Synchronized as SynchronizedWord}
use Rattle.jr_lex.specs.declared.items.Symbol.TheVariants.{OpenParen, CloseParen, OpenBrace, CloseBrace, Semicolon, Equals}
use Rattle.jr_ast.specs.declared.operators.ModWord.{ModWord}
use Rattle.jr_ast.specs.declared.operators.ModWord.TheVariants.{Final, Synchronized}
use Rattle.jr_ast.specs.Tree.{TypeName, Exp}
use Rattle.jr_ast.specs.StatementTree.{Stmt, local, branch, loop, return, no_else, otherwise, Stmts, end}
use Rattle.jr_grammar.specs.Tokens.{Token, word, keyword, symbol}
use Rattle.jr_grammar.specs.Spelling.{type_toks, toks}
use Rattle.jr_grammar.specs.Shape.{Shaped}
use Rattle.jr_grammar.specs.StatementSpelling.{final_toks}
use Rattle.jr_grammar.specs.StatementShape.{IsNoDeclaration, TakesNoElse, StmtShaped, StmtsShaped}
use Rattle.jr_grammar.specs.Bare.{Bare}
use Rattle.jr_pexpr.specs.Machine as E
use Rattle.jr_pexpr.specs.BareMachine.{no_join, bare_step, bare_run, bare_whole, bare_statement_step, bare_statement_run, bare_statement_whole}
use Rattle.jr_pstmt.specs.Cues.{Primitive, an_int, a_boolean, Cue, a_word, a_primitive, a_modifier, an_if, an_else, a_while, a_return, an_open_brace, a_close_brace, a_semicolon, cue_token, cue_of}
use Rattle.jr_pstmt.specs.Inside.{inner}
use Rattle.jr_pstmt.specs.TypeMachine as T
use Rattle.jr_pexpr.specs.Starts.{type_read}
use Rattle.jr_pstmt.specs.StatementMachine.{Frame, in_block, in_sync, in_then, in_else, in_loop, Head, if_head, while_head, sync_head, Slot, for_local, for_return, for_head, State, ready, done, headed, returning, in_exp, in_eval, locked, in_type, named, Place, ended, taken_by_if, may_declare, declared, list_closed, begin_modified, from_ready, from_place, from_done, from_returning, behind_head, filled, from_exp, begin_local, evaluated, eval_ended, from_eval, local_named, from_type, cue_step}
use Rattle.jr_punit_laws.specs.Machines.{list_step}
use Rattle.jr_pstmt.proofs.CueTokens.{cue_back, semicolon_both, open_both, close_both, open_brace_both, equals_both}
use Rattle.jr_pstmt.proofs.Inside.{inner_both, run_one}
use Rattle.jr_punit_laws.proofs.Expressions.{exp_sound, eval_sound, eval_runs, name_toks}
use Rattle.jr_punit_laws.proofs.Types as Types
use Rattle.jr_punit_laws.proofs.StatementSpell.{spell, spells, spells-with_stmt, shaped-with_stmt}
use Rattle.jr_punit_laws.proofs.StatementComplete.{Frames, Admits}

-- ---- what has been read

abbrev pub spell_frame : Frame Bare → List Token → List Token
spell_frame (in_block m ss) x = symbol OpenBrace ∷ spells ss x
spell_frame (in_sync m e ss) x = keyword SynchronizedWord ∷ symbol OpenParen ∷ (toks e ++ (symbol CloseParen ∷ symbol OpenBrace ∷ spells ss x))
spell_frame (in_then m c) x = keyword If ∷ symbol OpenParen ∷ (toks c ++ (symbol CloseParen ∷ x))
spell_frame (in_else m c s) x = keyword If ∷ symbol OpenParen ∷ (toks c ++ (symbol CloseParen ∷ spell s (keyword Else ∷ x)))
spell_frame (in_loop m c) x = keyword While ∷ symbol OpenParen ∷ (toks c ++ (symbol CloseParen ∷ x))

abbrev pub spell_stack : Frames → Stmts Bare → List Token → List Token
spell_stack [] all x = spells all x
spell_stack (f ∷ fs) all x = spell_stack fs all (spell_frame f x)

abbrev pub head_keyword : Head → Keyword
head_keyword if_head = If
head_keyword while_head = While
head_keyword sync_head = SynchronizedWord

abbrev pub spell_slot : Slot Bare → List Token → List Token
spell_slot (for_local m f t w) x = final_toks f ++ (type_toks t ++ (word w.text ∷ symbol Equals ∷ x))
spell_slot (for_return m) x = keyword Return ∷ x
spell_slot (for_head m h) x = keyword (head_keyword h) ∷ symbol OpenParen ∷ x

-- b has what the machine inside has read
abbrev pub spell_state : State Bare → List Token → List Token → List Token
spell_state (ready fs all) b x = spell_stack fs all x
spell_state (done fs all s) b x = spell_stack fs all (spell s x)
spell_state (headed fs all m h) b x = spell_stack fs all (keyword (head_keyword h) ∷ x)
spell_state (returning fs all m) b x = spell_stack fs all (keyword Return ∷ x)
spell_state (in_exp fs all slot s) b x = spell_stack fs all (spell_slot slot (b ++ x))
spell_state (in_eval fs all s) b x = spell_stack fs all (b ++ x)
spell_state (locked fs all m e) b x = spell_stack fs all (keyword SynchronizedWord ∷ symbol OpenParen ∷ (toks e ++ (symbol CloseParen ∷ x)))
spell_state (in_type fs all m f s) b x = spell_stack fs all (final_toks f ++ Types.spell_state s x)
spell_state (named fs all m f t w) b x = spell_stack fs all (final_toks f ++ (type_toks t ++ (word w.text ∷ x)))

-- ---- what stands there is well formed

abbrev pub GoodFrame : Frame Bare → Type 0
GoodFrame (in_block m ss) = StmtsShaped ss
GoodFrame (in_sync m e ss) = Shaped e × StmtsShaped ss
GoodFrame (in_then m c) = Shaped c
GoodFrame (in_else m c s) = Shaped c × IsNoDeclaration s × StmtShaped s × TakesNoElse s
GoodFrame (in_loop m c) = Shaped c

abbrev pub GoodStack : Frames → Stmts Bare → Type 0
GoodStack [] all = StmtsShaped all
GoodStack (f ∷ fs) all = GoodFrame f × GoodStack fs all

pub record GoodDone (fs : Frames) (all : Stmts Bare) (s : Stmt Bare) : Type 0 where
  pub stack : GoodStack fs all
  pub shaped : StmtShaped s
  pub taken : TakesNoElse s
  pub admitted : Admits fs s

abbrev pub GoodSlot : Frames → Slot Bare → Type 0
GoodSlot fs (for_local m f t w) = may_declare fs ≡ true
GoodSlot fs (for_return m) = Unit {0}
GoodSlot fs (for_head m h) = Unit {0}

abbrev pub Good : State Bare → List Token → Type 0
Good (ready fs all) b = GoodStack fs all
Good (done fs all s) b = GoodDone fs all s
Good (headed fs all m h) b = GoodStack fs all
Good (returning fs all m) b = GoodStack fs all
Good (in_exp fs all slot s) b = GoodStack fs all × GoodSlot fs slot × (bare_run (E.want []) b ≡ Some s)
Good (in_eval fs all s) b = GoodStack fs all × (bare_statement_run (E.want []) b ≡ Some s)
Good (locked fs all m e) b = GoodStack fs all × Shaped e
Good (in_type fs all m f s) b = GoodStack fs all × (may_declare fs ≡ true) × Types.Good true s
Good (named fs all m f t w) b = GoodStack fs all × (may_declare fs ≡ true)

-- ---- one step

pub record Sound (s : State Bare) (b : List Token) (t : Token) (n : State Bare) : Type 0 where
  pub inside : List Token
  pub good : Good n inside
  pub spelled : (x : List Token) → spell_state s b (t ∷ x) ≡ spell_state n inside x

abbrev pub StepSound : State Bare → List Token → Token → Option (State Bare) → Type 0
StepSound s b t o = IfSome o (Sound s b t)

again : (s r : State Bare) (b c : List Token) (t : Token) (o : Option (State Bare)) → ((x : List Token) → spell_state s b x ≡ spell_state r c x) → StepSound r c t o → StepSound s b t o
again s r b c t None e h = tt
again s r b c t (Some n) e h = record { inside = h.inside; good = h.good; spelled = λ x. e (t ∷ x) ∙ h.spelled x }

-- ---- the end of a statement

pub no_declaration : (fs : Frames) (s : Stmt Bare) → may_declare fs ≡ false → Admits fs s → IsNoDeclaration s
no_declaration fs s h (inl k) = let e : true ≡ false = sym k ∙ h in absurd cc
no_declaration fs s h (inr k) = k

pub record EndedOk (fs : Frames) (all : Stmts Bare) (s : Stmt Bare) (p : Place Bare) : Type 0 where
  pub good : GoodStack p.on p.all
  pub spelled : (x : List Token) → spell_stack fs all (spell s x) ≡ spell_stack p.on p.all x

again_ended : (fs gs : Frames) (all : Stmts Bare) (s d : Stmt Bare) (p : Place Bare) → ((x : List Token) → spell_stack fs all (spell s x) ≡ spell_stack gs all (spell d x)) → EndedOk gs all d p → EndedOk fs all s p
again_ended fs gs all s d p e h = record { good = h.good; spelled = λ x. e x ∙ h.spelled x }

pub ended_ok : (fs : Frames) (all : Stmts Bare) (s : Stmt Bare) → GoodStack fs all → StmtShaped s → Admits fs s → EndedOk fs all s (ended no_join fs all s)
ended_ok [] all s g h a = record { good = shaped-with_stmt all s g h; spelled = λ x. sym (spells-with_stmt all s x) }
ended_ok (in_block m ss ∷ fs) all s g h a =
    record { good = (shaped-with_stmt ss s g.0 h, g.1); spelled = λ x. ap (λ (y : List Token). spell_stack fs all (symbol OpenBrace ∷ y)) (sym (spells-with_stmt ss s x)) }
ended_ok (in_sync m e ss ∷ fs) all s g h a = record {
  good = ((g.0.0, shaped-with_stmt ss s g.0.1 h), g.1);
  spelled = λ x. ap (λ (y : List Token). spell_stack fs all (keyword SynchronizedWord ∷ symbol OpenParen ∷ (toks e ++ (symbol CloseParen ∷ symbol OpenBrace ∷ y)))) (sym (spells-with_stmt ss s x));
}
ended_ok (in_then m c ∷ fs) all s g h a =
    again_ended (in_then m c ∷ fs) fs all s (branch tt c s no_else) (ended no_join fs all (branch tt c s no_else)) (λ x. refl)
    (ended_ok fs all (branch tt c s no_else) g.1 (g.0, no_declaration (in_then m c ∷ fs) s refl a, h, tt) (inr tt))
ended_ok (in_else m c first ∷ fs) all s g h a =
    again_ended (in_else m c first ∷ fs) fs all s (branch tt c first (otherwise s)) (ended no_join fs all (branch tt c first (otherwise s))) (λ x. refl)
    (ended_ok fs all (branch tt c first (otherwise s)) g.1 (g.0.0, g.0.1, g.0.2, (g.0.3, no_declaration (in_else m c first ∷ fs) s refl a, h)) (inr tt))
ended_ok (in_loop m c ∷ fs) all s g h a =
    again_ended (in_loop m c ∷ fs) fs all s (loop tt c s) (ended no_join fs all (loop tt c s)) (λ x. refl)
    (ended_ok fs all (loop tt c s) g.1 (g.0, no_declaration (in_loop m c ∷ fs) s refl a, h) (inr tt))

taken_sound : (fs : Frames) (all : Stmts Bare) (s : Stmt Bare) (b : List Token) → GoodDone fs all s → StepSound (done fs all s) b (keyword Else) (taken_by_if no_join fs all s)
taken_sound [] all s b g = tt
taken_sound (in_block m ss ∷ fs) all s b g = tt
taken_sound (in_sync m e ss ∷ fs) all s b g = tt
taken_sound (in_then m c ∷ fs) all s b g =
    record { inside = []; good = ((g.stack.0, no_declaration (in_then m c ∷ fs) s refl g.admitted, g.shaped, g.taken), g.stack.1); spelled = λ x. refl }
taken_sound (in_else m c first ∷ fs) all s b g =
    let d : Stmt Bare = branch tt c first (otherwise s) in
    again (done (in_else m c first ∷ fs) all s) (done fs all d) b b (keyword Else) (taken_by_if no_join fs all d) (λ x. refl)
    (taken_sound fs all d b (record {
      stack = g.stack.1;
      shaped = (g.stack.0.0, g.stack.0.1, g.stack.0.2, (g.stack.0.3, no_declaration (in_else m c first ∷ fs) s refl g.admitted, g.shaped));
      taken = g.taken;
      admitted = inr tt;
    }))
taken_sound (in_loop m c ∷ fs) all s b g =
    let d : Stmt Bare = loop tt c s in
    again (done (in_loop m c ∷ fs) all s) (done fs all d) b b (keyword Else) (taken_by_if no_join fs all d) (λ x. refl)
    (taken_sound fs all d b (record { stack = g.stack.1; shaped = (g.stack.0, no_declaration (in_loop m c ∷ fs) s refl g.admitted, g.shaped); taken = g.taken; admitted = inr tt }))

-- ---- where a statement may come

declared_sound : (fs : Frames) (s n : State Bare) (b : List Token) (t : Token) → (may_declare fs ≡ true → Sound s b t n) → StepSound s b t (declared fs n)
declared_sound fs s n b t f = cond_both (may_declare fs) (Some n) None (StepSound s b t) f (λ _. tt)

closed_sound : (fs : Frames) (all : Stmts Bare) (b : List Token) → GoodStack fs all → StepSound (ready fs all) b (symbol CloseBrace) (list_closed no_join fs all tt)
closed_sound [] all b g = tt
closed_sound (in_block m ss ∷ fs) all b g = record { inside = []; good = record { stack = g.1; shaped = g.0; taken = tt; admitted = inr tt }; spelled = λ x. refl }
closed_sound (in_sync m e ss ∷ fs) all b g = record { inside = []; good = record { stack = g.1; shaped = g.0; taken = tt; admitted = inr tt }; spelled = λ x. refl }
closed_sound (in_then m c ∷ fs) all b g = tt
closed_sound (in_else m c s ∷ fs) all b g = tt
closed_sound (in_loop m c ∷ fs) all b g = tt

modified_sound : (fs : Frames) (all : Stmts Bare) (b : List Token) (w : ModWord) → GoodStack fs all → StepSound (ready fs all) b (cue_token (a_modifier w)) (begin_modified fs all tt w)
modified_sound fs all b Synchronized g = record { inside = []; good = g; spelled = λ x. refl }
modified_sound fs all b Final g =
    declared_sound fs (ready fs all) (in_type fs all tt true (T.want true)) b (cue_token (a_modifier Final)) (λ d. record { inside = []; good = (g, d, refl); spelled = λ x. refl })
modified_sound fs all b _ g = tt

primitive_sound : (fs : Frames) (all : Stmts Bare) (b : List Token) (p : Primitive) → GoodStack fs all → StepSound (ready fs all) b (cue_token (a_primitive p)) (declared fs (in_type fs all tt false (T.have (T.primitive_type tt p))))
primitive_sound fs all b an_int g =
    declared_sound fs (ready fs all) (in_type fs all tt false (T.have (T.primitive_type tt an_int))) b (cue_token (a_primitive an_int)) (λ d. record { inside = []; good = (g, d, tt); spelled = λ x. refl })
primitive_sound fs all b a_boolean g =
    declared_sound fs (ready fs all) (in_type fs all tt false (T.have (T.primitive_type tt a_boolean))) b (cue_token (a_primitive a_boolean)) (λ d. record { inside = []; good = (g, d, tt); spelled = λ x. refl })

eval_begun_sound : (fs : Frames) (all : Stmts Bare) (b : List Token) (t : Token) → GoodStack fs all → StepSound (ready fs all) b t (option_map (in_eval fs all) (bare_statement_step (E.want []) t))
eval_begun_sound fs all b t g = go (bare_statement_step (E.want []) t) refl
  where
    go : (o : Option (E.State Bare)) → bare_statement_step (E.want []) t ≡ o → StepSound (ready fs all) b t (option_map (in_eval fs all) o)
    go None e = tt
    go (Some n) e = record { inside = t ∷ []; good = (g, ap (option_and_then (λ (r : E.State Bare). Some r)) e); spelled = λ x. refl }

ready_sound : (fs : Frames) (all : Stmts Bare) (b : List Token) (q : Cue) → GoodStack fs all → StepSound (ready fs all) b (cue_token q) (from_ready no_join fs all tt (cue_token q) q)
unfolding from_ready
ready_sound fs all b a_semicolon g = record { inside = []; good = record { stack = g; shaped = tt; taken = tt; admitted = inr tt }; spelled = λ x. refl }
ready_sound fs all b an_open_brace g = record { inside = []; good = (tt, g); spelled = λ x. refl }
ready_sound fs all b a_close_brace g = closed_sound fs all b g
ready_sound fs all b an_if g = record { inside = []; good = g; spelled = λ x. refl }
ready_sound fs all b a_while g = record { inside = []; good = g; spelled = λ x. refl }
ready_sound fs all b a_return g = record { inside = []; good = g; spelled = λ x. refl }
ready_sound fs all b (a_modifier w) g = modified_sound fs all b w g
ready_sound fs all b (a_primitive p) g = primitive_sound fs all b p g
ready_sound fs all b q g = eval_begun_sound fs all b (cue_token q) g

place_sound : (fs : Frames) (all : Stmts Bare) (s : Stmt Bare) (b : List Token) (q : Cue) → GoodDone fs all s → StepSound (done fs all s) b (cue_token q) (from_place no_join (ended no_join fs all s) tt (cue_token q) q)
place_sound fs all s b q g =
    let p = ended no_join fs all s in
    let k = ended_ok fs all s g.stack g.shaped g.admitted in
    again (done fs all s) (ready p.on p.all) b b (cue_token q) (from_place no_join p tt (cue_token q) q) k.spelled (ready_sound p.on p.all b q k.good)

done_sound : (fs : Frames) (all : Stmts Bare) (s : Stmt Bare) (b : List Token) (q : Cue) → GoodDone fs all s → StepSound (done fs all s) b (cue_token q) (from_done no_join fs all s tt (cue_token q) q)
done_sound fs all s b an_else g = taken_sound fs all s b g
done_sound fs all s b q g = place_sound fs all s b q g

-- ---- expressions inside

filled_sound : (fs : Frames) (all : Stmts Bare) (slot : Slot Bare) (s : E.State Bare) (b : List Token) (q : Cue) (e : Exp Bare) → GoodStack fs all → GoodSlot fs slot → Shaped e → toks e ≡ b
    → StepSound (in_exp fs all slot s) b (cue_token q) (filled no_join fs all slot tt q e)
filled_sound fs all (for_local m f t w) s b q e g d h k =
    let n : State Bare = done fs all (local tt f t w e) in
    semicolon_both q n (StepSound (in_exp fs all (for_local m f t w) s) b)
    (record {
      inside = [];
      good = record { stack = g; shaped = h; taken = tt; admitted = inl d };
      spelled = λ x. ap (λ (ts : List Token). spell_stack fs all (spell_slot (for_local m f t w) (ts ++ (symbol Semicolon ∷ x)))) (sym k);
    })
    (λ u. tt)
filled_sound fs all (for_return m) s b q e g d h k =
    let n : State Bare = done fs all (return tt (Some e)) in
    semicolon_both q n (StepSound (in_exp fs all (for_return m) s) b)
    (record {
      inside = [];
      good = record { stack = g; shaped = h; taken = tt; admitted = inr tt };
      spelled = λ x. ap (λ (ts : List Token). spell_stack fs all (spell_slot (for_return m) (ts ++ (symbol Semicolon ∷ x)))) (sym k);
    })
    (λ u. tt)
filled_sound fs all (for_head m r) s b q e g d h k = close_both q (behind_head fs all m r e) (StepSound (in_exp fs all (for_head m r) s) b) (behind r) (λ u. tt)
  where
    read : (r : Head) (x : List Token) → spell_stack fs all (spell_slot (for_head m r) (b ++ (symbol CloseParen ∷ x))) ≡ spell_stack fs all (spell_slot (for_head m r) (toks e ++ (symbol CloseParen ∷ x)))
    read r x = ap (λ (ts : List Token). spell_stack fs all (spell_slot (for_head m r) (ts ++ (symbol CloseParen ∷ x)))) (sym k)

    behind : (r : Head) → Sound (in_exp fs all (for_head m r) s) b (symbol CloseParen) (behind_head fs all m r e)
    behind if_head = record { inside = []; good = (h, g); spelled = read if_head }
    behind while_head = record { inside = []; good = (h, g); spelled = read while_head }
    behind sync_head = record { inside = []; good = (g, h); spelled = read sync_head }

exp_step_sound : (fs : Frames) (all : Stmts Bare) (slot : Slot Bare) (s : E.State Bare) (b : List Token) (q : Cue) → Good (in_exp fs all slot s) b
    → StepSound (in_exp fs all slot s) b (cue_token q) (from_exp no_join fs all slot s tt (cue_token q) q)
exp_step_sound fs all slot s b q g =
    inner_both (in_exp fs all slot) (option_and_then (filled no_join fs all slot tt q) (bare_whole s)) (bare_step s (cue_token q)) (StepSound (in_exp fs all slot s) b (cue_token q))
    (λ n e. record {
      inside = b ++ (cue_token q ∷ []);
      good = (g.0, g.1, run_one (E.State Bare) (Exp Bare) bare_step bare_whole (E.want []) s n b (cue_token q) g.2 e);
      spelled = λ x. ap (λ (y : List Token). spell_stack fs all (spell_slot slot y)) (sym (append_assoc b (cue_token q ∷ []) x));
    })
    (λ _. go (bare_whole s) refl)
  where
    go : (o : Option (Exp Bare)) → bare_whole s ≡ o → StepSound (in_exp fs all slot s) b (cue_token q) (option_and_then (filled no_join fs all slot tt q) o)
    go None e = tt
    go (Some d) e = let w = exp_sound b s d g.2 e in filled_sound fs all slot s b q d g.0 g.1 w.0 w.1

returning_sound : (fs : Frames) (all : Stmts Bare) (m : Bare) (b : List Token) (q : Cue) → GoodStack fs all → StepSound (returning fs all m) b (cue_token q) (from_returning no_join fs all m tt (cue_token q) q)
returning_sound fs all m b a_semicolon g = record { inside = []; good = record { stack = g; shaped = tt; taken = tt; admitted = inr tt }; spelled = λ x. refl }
returning_sound fs all m b q g = go (cue_token q) (bare_step (E.want []) (cue_token q)) refl
  where
    go : (t : Token) (o : Option (E.State Bare)) → bare_step (E.want []) t ≡ o → StepSound (returning fs all m) b t (option_map (in_exp fs all (for_return m)) o)
    go t None e = tt
    go t (Some n) e = record { inside = t ∷ []; good = (g, tt, ap (option_and_then (λ (r : E.State Bare). Some r)) e); spelled = λ x. refl }

-- ---- statement expressions, and locals of a named type

named_sound : (fs : Frames) (all : Stmts Bare) (s : E.State Bare) (b w : List _) (t : TypeName Bare) → GoodStack fs all → b ≡ type_toks t
    → StepSound (in_eval fs all s) b (word w) (begin_local fs all (E.marked tt w) t)
named_sound fs all s b w t g k =
    declared_sound fs (in_eval fs all s) (named fs all tt false t (E.marked tt w)) b (word w) (λ d. record { inside = []; good = (g, d); spelled = λ x. ap (λ (ts : List Token). spell_stack fs all (ts ++ (word w ∷ x))) k })

eval_ended_sound : (fs : Frames) (all : Stmts Bare) (s : E.State Bare) (b : List Token) (q : Cue) → Good (in_eval fs all s) b → StepSound (in_eval fs all s) b (cue_token q) (eval_ended no_join fs all s tt q)
eval_ended_sound fs all s b a_semicolon g = go (bare_statement_whole s) refl
  where
    go : (o : Option (Exp Bare)) → bare_statement_whole s ≡ o → StepSound (in_eval fs all s) b (symbol Semicolon) (option_map (evaluated no_join fs all tt) o)
    go None e = tt
    go (Some d) e =
        let w = eval_sound b s d g.1 e in
        record {
          inside = [];
          good = record { stack = g.0; shaped = w.0; taken = tt; admitted = inr tt };
          spelled = λ x. ap (λ (ts : List Token). spell_stack fs all (ts ++ (symbol Semicolon ∷ x))) (sym w.1);
        }
eval_ended_sound fs all s b (a_word w) g = type_sound s b g
  where
    type_sound : (s : E.State Bare) (b : List Token) → Good (in_eval fs all s) b → StepSound (in_eval fs all s) b (word w) (option_and_then (begin_local fs all (E.marked tt w)) (type_read s))
    type_sound (E.have [] e) b g =
        let r = exp_sound b (E.have [] e) e (eval_runs b (E.have [] e) g.1) refl in go (E.name_type e) refl
      where
        go : (o : Option (TypeName Bare)) → E.name_type e ≡ o → StepSound (in_eval fs all (E.have [] e)) b (word w) (option_and_then (begin_local fs all (E.marked tt w)) o)
        go None k = tt
        go (Some t) k = let r = exp_sound b (E.have [] e) e (eval_runs b (E.have [] e) g.1) refl in named_sound fs all (E.have [] e) b w t g.0 (sym r.1 ∙ name_toks e t k)
    type_sound _ b g = tt
eval_ended_sound fs all s b _ g = tt

eval_step_sound : (fs : Frames) (all : Stmts Bare) (s : E.State Bare) (b : List Token) (q : Cue) → Good (in_eval fs all s) b → StepSound (in_eval fs all s) b (cue_token q) (from_eval no_join fs all s tt (cue_token q) q)
eval_step_sound fs all s b q g =
    inner_both (in_eval fs all) (eval_ended no_join fs all s tt q) (bare_statement_step s (cue_token q)) (StepSound (in_eval fs all s) b (cue_token q))
    (λ n e. record {
      inside = b ++ (cue_token q ∷ []);
      good = (g.0, run_one (E.State Bare) (Exp Bare) bare_statement_step bare_statement_whole (E.want []) s n b (cue_token q) g.1 e);
      spelled = λ x. ap (spell_stack fs all) (sym (append_assoc b (cue_token q ∷ []) x));
    })
    (λ _. eval_ended_sound fs all s b q g)

-- ---- locals

local_named_sound : (fs : Frames) (all : Stmts Bare) (m : Bare) (f : Bool) (s : T.State Bare) (b : List Token) (q : Cue) → Good (in_type fs all m f s) b
    → StepSound (in_type fs all m f s) b (cue_token q) (option_and_then (local_named fs all m f tt q) (T.whole s))
local_named_sound fs all m f (T.have t) b (a_word w) g = record { inside = []; good = (g.0, g.1); spelled = λ x. refl }
local_named_sound fs all m f (T.have t) b _ g = tt
local_named_sound fs all m f (T.want c) b q g = tt
local_named_sound fs all m f (T.dotted o) b q g = tt

type_step_sound : (fs : Frames) (all : Stmts Bare) (m : Bare) (f : Bool) (s : T.State Bare) (b : List Token) (q : Cue) → Good (in_type fs all m f s) b
    → StepSound (in_type fs all m f s) b (cue_token q) (from_type no_join fs all m f s tt q)
type_step_sound fs all m f s b q g = go (T.cue_step no_join s tt q) (Types.cue_sound true s q g.2)
  where
    go : (o : Option (T.State Bare)) → Types.StepSound true s (cue_token q) o → StepSound (in_type fs all m f s) b (cue_token q) (inner (in_type fs all m f) (option_and_then (local_named fs all m f tt q) (T.whole s)) o)
    go None h = local_named_sound fs all m f s b q g
    go (Some n) h = record { inside = []; good = (g.0, g.1, h.good); spelled = λ x. ap (λ (y : List Token). spell_stack fs all (final_toks f ++ y)) (h.spelled x) }

-- ---- the whole

cue_sound : (s : State Bare) (b : List Token) (q : Cue) → Good s b → StepSound s b (cue_token q) (cue_step no_join s tt (cue_token q) q)
cue_sound (ready fs all) b q g = ready_sound fs all b q g
cue_sound (done fs all s) b q g = done_sound fs all s b q g
cue_sound (headed fs all m h) b q g =
    open_both q (in_exp fs all (for_head m h) (E.want [])) (StepSound (headed fs all m h) b) (record { inside = []; good = (g, tt, refl); spelled = λ x. refl }) (λ u. tt)
cue_sound (returning fs all m) b q g = returning_sound fs all m b q g
cue_sound (in_exp fs all slot s) b q g = exp_step_sound fs all slot s b q g
cue_sound (in_eval fs all s) b q g = eval_step_sound fs all s b q g
cue_sound (locked fs all m e) b q g = open_brace_both q (ready (in_sync m e end ∷ fs) all) (StepSound (locked fs all m e) b) (record { inside = []; good = ((g.1, tt), g.0); spelled = λ x. refl }) (λ u. tt)
cue_sound (in_type fs all m f s) b q g = type_step_sound fs all m f s b q g
cue_sound (named fs all m f t w) b q g =
    equals_both q (in_exp fs all (for_local m f t w) (E.want [])) (StepSound (named fs all m f t w) b)
    (record { inside = []; good = (g.0, g.1, refl); spelled = λ x. refl })
    (λ u. tt)

pub step_sound : (s : State Bare) (b : List Token) (t : Token) → Good s b → StepSound s b t (list_step s t)
step_sound s b t g = subst (λ (u : Token). StepSound s b u (cue_step no_join s tt u (cue_of t))) (cue_back t) (cue_sound s b (cue_of t) g)
