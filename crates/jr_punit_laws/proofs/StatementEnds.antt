-- Lists of statements: what the machine reads is the list, and what it has begun can be ended.
use Rattle.std.proofs.Common.{◌≡◌, true, List, [], ◌∷◌, ◌++◌, Option, Some, None, refl, sym, ap, subst, ◌∙◌, append_assoc, inl, inr}
use Rattle.std.specs.Prelude.{option_and_then, IfSome}
use Rattle.std.proofs.lemmas.List.{append-nil}
use Rattle.std.proofs.lemmas.Option.{same_Some}
use Rattle.jr_lex.specs.declared.items.Symbol.TheVariants.{OpenParen, CloseParen, OpenBrace, CloseBrace, Semicolon, Equals}
use Rattle.jr_ast.specs.Tree.{Exp, name}
use Rattle.jr_ast.specs.StatementTree.{Stmt, local, eval, branch, loop, return, block, sync, empty, no_else, otherwise, Stmts, end}
use Rattle.jr_grammar.specs.Tokens.{Token, word, keyword, symbol}
use Rattle.jr_grammar.specs.Spelling.{toks}
use Rattle.jr_grammar.specs.Shape.{Shaped}
use Rattle.jr_grammar.specs.Readings.{Begins}
use Rattle.jr_grammar.specs.StatementSpelling.{final_toks, stmts_toks}
use Rattle.jr_grammar.specs.StatementShape.{StmtShaped, StmtsShaped}
use Rattle.jr_grammar.specs.Bare.{Bare}
use Rattle.jr_pexpr.specs.BareMachine.{no_join}
use Rattle.jr_pexpr.proofs.Found.{at_some}
use Rattle.jr_pstmt.specs.StatementMachine.{in_block, in_sync, in_then, in_else, in_loop, Head, if_head, while_head, sync_head, Slot, for_local, for_return, for_head, State, ready, done, headed, returning, in_exp, in_eval, locked, in_type, named, start, with_stmt, ended, whole_in}
use Rattle.jr_punit_laws.specs.Machines.{list_step, list_whole, list_run}
use Rattle.jr_punit_laws.proofs.Expressions.{exp_closes, eval_closes}
use Rattle.jr_punit_laws.proofs.Types as Types
use Rattle.jr_punit_laws.proofs.Types.{a_name}
use Rattle.jr_punit_laws.proofs.StatementSpell.{spell, spells, spells-is, spells-with_stmt, shaped-with_stmt}
use Rattle.jr_punit_laws.proofs.StatementComplete.{Frames, Admits, list_reads}
use Rattle.jr_punit_laws.proofs.StatementSound.{spell_stack, spell_slot, head_keyword, spell_state, GoodStack, GoodSlot, Good, Sound, StepSound, no_declaration, ended_ok, step_sound}

-- ---- runs

pub record RunSound (s : State Bare) (b : List Token) (ts : List Token) (n : State Bare) : Type 0 where
  pub inside : List Token
  pub good : Good n inside
  pub spelled : (x : List Token) → spell_state s b (ts ++ x) ≡ spell_state n inside x

pub run_sound : (s : State Bare) (b ts : List Token) → Good s b → IfSome (list_run s ts) (RunSound s b ts)
run_sound s b [] g = record { inside = b; good = g; spelled = λ x. refl }
run_sound s b (t ∷ ts) g = go (λ n c h. run_sound n c ts h) (list_step s t) (step_sound s b t g)
  where
    then : (n : State Bare) (h : Sound s b t n) (o : Option (State Bare)) → IfSome o (RunSound n h.inside ts) → IfSome o (RunSound s b (t ∷ ts))
    then n h None k = tt
    then n h (Some m) k = record { inside = k.inside; good = k.good; spelled = λ x. h.spelled (ts ++ x) ∙ k.spelled x }

    go : ((n : State Bare) (c : List Token) → Good n c → IfSome (list_run n ts) (RunSound n c ts)) → (o : Option (State Bare)) → StepSound s b t o → IfSome (option_and_then (λ (n : State Bare). list_run n ts) o) (RunSound s b (t ∷ ts))
    go f None h = tt
    go f (Some n) h = then n h (list_run n ts) (f n h.inside h.good)

pub run_is : (ts : List Token) (n : State Bare) → list_run start ts ≡ Some n → RunSound start [] ts n
run_is ts n h = at_some (list_run start ts) n (RunSound start [] ts) h (run_sound start [] ts tt)

-- ---- what is whole

record IsRead (xs : List Token → List Token) (ss : Stmts Bare) : Type 0 where
  shaped : StmtsShaped ss
  spelled : (x : List Token) → xs x ≡ spells ss x

whole_in_is : (fs : Frames) (all ss : Stmts Bare) → GoodStack fs all → whole_in fs all ≡ Some ss → IsRead (spell_stack fs all) ss
whole_in_is [] all ss g h = let e = same_Some all ss h in record { shaped = subst StmtsShaped e g; spelled = λ x. ap (λ (rs : Stmts Bare). spells rs x) e }
whole_in_is (f ∷ fs) all ss g h = absurd cc

whole_is : (n : State Bare) (b : List Token) (ss : Stmts Bare) → Good n b → list_whole n ≡ Some ss → IsRead (spell_state n b) ss
whole_is (ready fs all) b ss g h = whole_in_is fs all ss g h
whole_is (done fs all s) b ss g h =
    let p = ended no_join fs all s in
    let k = ended_ok fs all s g.stack g.shaped g.admitted in
    let r = whole_in_is p.on p.all ss k.good h in
    record { shaped = r.shaped; spelled = λ x. k.spelled x ∙ r.spelled x }
whole_is _ b ss g h = absurd cc

pub list_sound : (ts : List Token) (n : State Bare) (ss : Stmts Bare) → list_run start ts ≡ Some n → list_whole n ≡ Some ss → StmtsShaped ss × (stmts_toks ss ≡ ts)
list_sound ts n ss h k =
    let r = run_is ts n h in
    let w = whole_is n r.inside ss r.good k in
    (w.shaped, sym (append-nil (stmts_toks ss)) ∙ sym (spells-is ss []) ∙ sym (w.spelled []) ∙ sym (r.spelled []) ∙ append-nil ts)

-- ---- what has been begun can be ended

pub record Ends (xs : List Token → List Token) : Type 0 where
  pub rest : List Token
  pub tree : Stmts Bare
  pub shaped : StmtsShaped tree
  pub spelled : xs rest ≡ spells tree []

stack_ends : (fs : Frames) (all : Stmts Bare) (s : Stmt Bare) → GoodStack fs all → StmtShaped s → Admits fs s → Ends (λ x. spell_stack fs all (spell s x))
stack_ends [] all s g h a = record { rest = []; tree = with_stmt all s; shaped = shaped-with_stmt all s g h; spelled = sym (spells-with_stmt all s []) }
stack_ends (in_block m ss ∷ fs) all s g h a =
    let k = stack_ends fs all (block tt (with_stmt ss s)) g.1 (shaped-with_stmt ss s g.0 h) (inr tt) in
    record {
      rest = symbol CloseBrace ∷ k.rest;
      tree = k.tree;
      shaped = k.shaped;
      spelled = ap (λ (y : List Token). spell_stack fs all (symbol OpenBrace ∷ y)) (sym (spells-with_stmt ss s (symbol CloseBrace ∷ k.rest))) ∙ k.spelled;
    }
stack_ends (in_sync m e ss ∷ fs) all s g h a =
    let k = stack_ends fs all (sync tt e (with_stmt ss s)) g.1 (g.0.0, shaped-with_stmt ss s g.0.1 h) (inr tt) in
    record {
      rest = symbol CloseBrace ∷ k.rest;
      tree = k.tree;
      shaped = k.shaped;
      spelled = ap (λ (y : List Token). spell_stack fs all (spell_slot (for_head m sync_head) (toks e ++ (symbol CloseParen ∷ symbol OpenBrace ∷ y)))) (sym (spells-with_stmt ss s (symbol CloseBrace ∷ k.rest))) ∙ k.spelled;
    }
stack_ends (in_then m c ∷ fs) all s g h a =
    let k = stack_ends fs all (branch tt c s no_else) g.1 (g.0, no_declaration (in_then m c ∷ fs) s refl a, h, tt) (inr tt) in record { rest = k.rest; tree = k.tree; shaped = k.shaped; spelled = k.spelled }
stack_ends (in_else m c first ∷ fs) all s g h a =
    let k = stack_ends fs all (branch tt c first (otherwise s)) g.1 (g.0.0, g.0.1, g.0.2, (g.0.3, no_declaration (in_else m c first ∷ fs) s refl a, h)) (inr tt) in
    record { rest = k.rest; tree = k.tree; shaped = k.shaped; spelled = k.spelled }
stack_ends (in_loop m c ∷ fs) all s g h a =
    let k = stack_ends fs all (loop tt c s) g.1 (g.0, no_declaration (in_loop m c ∷ fs) s refl a, h) (inr tt) in record { rest = k.rest; tree = k.tree; shaped = k.shaped; spelled = k.spelled }

-- a statement on the stack, with some tokens in front of what ends it
with_front : (fs : Frames) (all : Stmts Bare) (s : Stmt Bare) (xs : List Token → List Token) (front : List Token) → GoodStack fs all → StmtShaped s → Admits fs s
    → ((y : List Token) → xs (front ++ y) ≡ spell_stack fs all (spell s y)) → Ends xs
with_front fs all s xs front g h a e = let p = stack_ends fs all s g h a in record { rest = front ++ p.rest; tree = p.tree; shaped = p.shaped; spelled = e p.rest ∙ p.spelled }

abbrev a_token : Token
a_token = word (97 ∷ [])

head_ends : (fs : Frames) (all : Stmts Bare) (h : Head) (e : Exp Bare) (xs : List Token → List Token) (front : List Token) → GoodStack fs all → Shaped e
    → ((y : List Token) → xs (front ++ y) ≡ spell_stack fs all (keyword (head_keyword h) ∷ symbol OpenParen ∷ (toks e ++ (symbol CloseParen ∷ y)))) → Ends xs
head_ends fs all if_head e xs front g h q =
    with_front fs all (branch tt e (empty tt) no_else) xs (front ++ (symbol Semicolon ∷ [])) g (h, tt, tt, tt) (inr tt) (λ y. ap xs (append_assoc front (symbol Semicolon ∷ []) y) ∙ q (symbol Semicolon ∷ y))
head_ends fs all while_head e xs front g h q =
    with_front fs all (loop tt e (empty tt)) xs (front ++ (symbol Semicolon ∷ [])) g (h, tt, tt) (inr tt) (λ y. ap xs (append_assoc front (symbol Semicolon ∷ []) y) ∙ q (symbol Semicolon ∷ y))
head_ends fs all sync_head e xs front g h q =
    with_front fs all (sync tt e end) xs (front ++ (symbol OpenBrace ∷ symbol CloseBrace ∷ [])) g (h, tt) (inr tt)
    (λ y. ap xs (append_assoc front (symbol OpenBrace ∷ symbol CloseBrace ∷ []) y) ∙ q (symbol OpenBrace ∷ symbol CloseBrace ∷ y))

-- an expression that goes on from b, and a token behind it
goes_to : (b rest y : List Token) (e : Exp Bare) (t : Token) → toks e ≡ b ++ rest → b ++ ((rest ++ (t ∷ [])) ++ y) ≡ toks e ++ (t ∷ y)
goes_to b rest y e t h = ap (λ (z : List Token). b ++ z) (append_assoc rest (t ∷ []) y) ∙ sym (append_assoc b rest (t ∷ y)) ∙ ap (λ (z : List Token). z ++ (t ∷ y)) (sym h)

slot_ends : (fs : Frames) (all : Stmts Bare) (slot : Slot Bare) (b rest : List Token) (e : Exp Bare) → GoodStack fs all → GoodSlot fs slot → Shaped e → toks e ≡ b ++ rest → Ends (λ x. spell_stack fs all (spell_slot slot (b ++ x)))
slot_ends fs all (for_local m f t w) b rest e g d h k =
    with_front fs all (local tt f t w e) (λ x. spell_stack fs all (spell_slot (for_local m f t w) (b ++ x))) (rest ++ (symbol Semicolon ∷ [])) g h (inl d)
    (λ y. ap (λ (z : List Token). spell_stack fs all (spell_slot (for_local m f t w) z)) (goes_to b rest y e (symbol Semicolon) k))
slot_ends fs all (for_return m) b rest e g d h k =
    with_front fs all (return tt (Some e)) (λ x. spell_stack fs all (spell_slot (for_return m) (b ++ x))) (rest ++ (symbol Semicolon ∷ [])) g h (inr tt)
    (λ y. ap (λ (z : List Token). spell_stack fs all (spell_slot (for_return m) z)) (goes_to b rest y e (symbol Semicolon) k))
slot_ends fs all (for_head m r) b rest e g d h k =
    head_ends fs all r e (λ x. spell_stack fs all (spell_slot (for_head m r) (b ++ x))) (rest ++ (symbol CloseParen ∷ [])) g h
    (λ y. ap (λ (z : List Token). spell_stack fs all (spell_slot (for_head m r) z)) (goes_to b rest y e (symbol CloseParen) k))

state_ends : (s : State Bare) (b : List Token) → Good s b → Ends (spell_state s b)
state_ends (ready fs all) b g = with_front fs all (empty tt) (spell_stack fs all) (symbol Semicolon ∷ []) g tt (inr tt) (λ y. refl)
state_ends (done fs all s) b g = with_front fs all s (λ x. spell_stack fs all (spell s x)) [] g.stack g.shaped g.admitted (λ y. refl)
state_ends (headed fs all m h) b g = head_ends fs all h (name tt a_name) (λ x. spell_stack fs all (keyword (head_keyword h) ∷ x)) (symbol OpenParen ∷ a_token ∷ symbol CloseParen ∷ []) g tt (λ y. refl)
state_ends (returning fs all m) b g = with_front fs all (return tt None) (spell_state (returning fs all m) b) (symbol Semicolon ∷ []) g tt (inr tt) (λ y. refl)
state_ends (in_exp fs all slot s) b g = let c = exp_closes b s g.2 in slot_ends fs all slot b c.1.rest c.0 g.0 g.1 c.1.meant c.1.spells
state_ends (in_eval fs all s) b g =
    let c = eval_closes b s g.1 in
    with_front fs all (eval tt c.0) (λ x. spell_stack fs all (b ++ x)) (c.1.rest ++ (symbol Semicolon ∷ [])) g.0 c.1.meant (inr tt)
    (λ y. ap (spell_stack fs all) (goes_to b c.1.rest y c.0 (symbol Semicolon) c.1.spells))
state_ends (locked fs all m e) b g = with_front fs all (sync tt e end) (spell_state (locked fs all m e) b) (symbol OpenBrace ∷ symbol CloseBrace ∷ []) g.0 (g.1, tt) (inr tt) (λ y. refl)
state_ends (in_type fs all m f s) b g =
    let c = Types.ends true s g.2 in
    let tail = a_token ∷ symbol Equals ∷ a_token ∷ symbol Semicolon ∷ [] in
    with_front fs all (local tt f c.tree a_name (name tt a_name)) (spell_state (in_type fs all m f s) b) (c.rest ++ tail) g.0 tt (inl g.1)
    (λ y. ap (λ (z : List Token). spell_stack fs all (final_toks f ++ Types.spell_state s z)) (append_assoc c.rest tail y) ∙ ap (λ (z : List Token). spell_stack fs all (final_toks f ++ z)) (c.spelled (tail ++ y)))
state_ends (named fs all m f t w) b g =
    with_front fs all (local tt f t w (name tt a_name)) (spell_state (named fs all m f t w) b) (symbol Equals ∷ a_token ∷ symbol Semicolon ∷ []) g.0 tt (inl g.1) (λ y. refl)

pub list_closes : (ts : List Token) (n : State Bare) → list_run start ts ≡ Some n → (ss : Stmts Bare) × Begins (Stmts Bare) stmts_toks StmtsShaped ts ss
list_closes ts n h =
    let r = run_is ts n h in
    let k = state_ends n r.inside r.good in
    (k.tree, record { meant = k.shaped; rest = k.rest; spells = sym (append-nil (stmts_toks k.tree)) ∙ sym (spells-is k.tree []) ∙ sym k.spelled ∙ sym (r.spelled k.rest) })

-- ---- every list is read

pub list_answers : (ss : Stmts Bare) → StmtsShaped ss → option_and_then list_whole (list_run start (stmts_toks ss)) ≡ Some ss
list_answers ss h = let r = list_reads ss h in ap (option_and_then list_whole) r.runs ∙ r.is_whole
