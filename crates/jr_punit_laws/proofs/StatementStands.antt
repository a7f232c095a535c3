-- What the machine for statements builds over tokens with places has its spans.
use Rattle.std.proofs.Common.{◌≡◌, Bool, true, false, List, [], ◌∷◌, ◌++◌, Option, Some, None, refl, sym, ap, subst, ◌∙◌, append_assoc}
use Rattle.std.specs.Prelude.{option_and_then, option_map, IfSome}
use Rattle.std.proofs.lemmas.Bool.{cond_both}
use Rattle.std.proofs.lemmas.List.{append-nil}
use Rattle.std.proofs.lemmas.Option.{same_Some}
use Rattle.jr_text.specs.declared.spans.Span.{Span}
use Rattle.jr_lex.specs.declared.items.Keyword.TheVariants.{Else, If, While, Return, Synchronized as SynchronizedWord, Final as FinalWord}
use Rattle.jr_lex.specs.declared.items.Symbol.TheVariants.{OpenParen, CloseParen, OpenBrace, CloseBrace, Semicolon, Equals}
use Rattle.jr_ast.specs.declared.operators.ModWord.{ModWord}
use Rattle.jr_ast.specs.declared.operators.ModWord.TheVariants.{Final, Synchronized}
use Rattle.jr_ast.specs.Tree.{Word, TypeName, Exp}
use Rattle.jr_ast.specs.StatementTree.{Stmt, local, branch, loop, return, block, sync, no_else, otherwise, Stmts, end, more}
use Rattle.jr_ast.specs.Marks.{type_mark, exp_mark, stmt_mark}
use Rattle.jr_grammar.specs.Tokens.{Token, keyword, symbol, Placed}
use Rattle.jr_grammar.specs.Layout.{token, node, row, Layouts, done as nothing, ◌then◌}
use Rattle.jr_grammar.specs.Stands.{Tokens, InOrder, Stands, StandInOrder}
use Rattle.jr_grammar.specs.ExpressionLayout.{word_layout, type_layout, exp_layout}
use Rattle.jr_grammar.specs.StatementLayout.{final_layout, stmt_layout, else_layout, stmts_layout}
use Rattle.jr_pexpr.specs.Machine as E
use Rattle.jr_pexpr.specs.Marked.{join, span_step, span_whole, span_run, span_statement_step, span_statement_whole, span_statement_run}
use Rattle.jr_pstmt.specs.Cues.{Primitive, Cue, a_word, a_primitive, a_modifier, an_if, an_else, a_while, a_return, an_open_brace, a_close_brace, a_semicolon, cue_token, cue_of}
use Rattle.jr_pstmt.specs.TypeMachine as T
use Rattle.jr_pexpr.specs.Starts.{type_read}
use Rattle.jr_pstmt.specs.StatementMachine.{Frame, in_block, in_sync, in_then, in_else, in_loop, Head, if_head, while_head, sync_head, Slot, for_local, for_return, for_head, State, ready, done, headed, returning, in_exp, in_eval, locked, in_type, named, start, with_stmt, Place, ended, taken_by_if, may_declare, declared, list_closed, begin_modified, begin_primitive, begin_eval, from_ready, from_place, from_done, from_returning, behind_head, filled, from_exp, begin_local, evaluated, eval_ended, from_eval, local_named, from_type, cue_step, whole_in}
use Rattle.jr_punit_laws.specs.Marked.{span_list_step, span_list_whole, span_list_run}
use Rattle.jr_pexpr.proofs.Found.{at_some}
use Rattle.jr_pstmt.proofs.CueTokens.{cue_back, semicolon_both, open_both, close_both, open_brace_both, equals_both}
use Rattle.jr_pstmt.proofs.Inside.{inner_both}
use Rattle.jr_punit_laws.proofs.StatementSound.{head_keyword}
use Rattle.jr_punit_laws.proofs.Standing.{more_after, behind, grow, absorb, joined, mapped, last_to-append, both, stand_token, stand_one, stand_last, last_stands, stand_word, Whole, Open, open_one, open_more, open_end, open_ended, one_whole, whole_open}
use Rattle.jr_punit_laws.proofs.TypeStands.{StoodTyped, primitive_type, typed_more, typed_word}
use Rattle.jr_punit_laws.proofs.ExpressionStands.{span_run_one, exp_whole_stands, eval_whole_stands, type_read_stands}

-- ---- what has been read

abbrev StoodStmt : Stmt Span → Tokens → Type 0
StoodStmt s ps = Whole (stmt_layout s) (stmt_mark s) ps

abbrev then_parts : Exp Span → Layouts Span
then_parts c = token (keyword If) then token (symbol OpenParen) then exp_layout c then token (symbol CloseParen) then nothing

abbrev head_parts : Head → Layouts Span
head_parts h = token (keyword (head_keyword h)) then nothing

abbrev sync_parts : Exp Span → Layouts Span
sync_parts e = token (keyword SynchronizedWord) then token (symbol OpenParen) then exp_layout e then token (symbol CloseParen) then nothing

abbrev lock_parts : Exp Span → Layouts Span
lock_parts e = token (keyword SynchronizedWord) then token (symbol OpenParen) then exp_layout e then token (symbol CloseParen) then token (symbol OpenBrace) then nothing

abbrev loop_parts : Exp Span → Layouts Span
loop_parts c = token (keyword While) then token (symbol OpenParen) then exp_layout c then token (symbol CloseParen) then nothing

abbrev else_parts : Exp Span → Stmt Span → Layouts Span
else_parts c s = token (keyword If) then token (symbol OpenParen) then exp_layout c then token (symbol CloseParen) then stmt_layout s then nothing

abbrev named_parts : Bool → TypeName Span → Word Span → Layouts Span
named_parts f t w = final_layout f then type_layout t then word_layout w then nothing

abbrev local_parts : Bool → TypeName Span → Word Span → Layouts Span
local_parts f t w = final_layout f then type_layout t then word_layout w then token (symbol Equals) then nothing

abbrev StoodFrame : Frame Span → Tokens → Type 0
StoodFrame (in_block m ss) ps = InOrder (Open m (token (symbol OpenBrace) then nothing)) (Stands (stmts_layout ss)) ps
StoodFrame (in_sync m e ss) ps = InOrder (Open m (lock_parts e)) (Stands (stmts_layout ss)) ps
StoodFrame (in_then m c) ps = Open m (then_parts c) ps
StoodFrame (in_else m c s) ps = InOrder (Open m (else_parts c s)) (Stands (token (keyword Else))) ps
StoodFrame (in_loop m c) ps = Open m (loop_parts c) ps

abbrev StoodStack : List (Frame Span) → Stmts Span → Tokens → Type 0
StoodStack [] all ps = Stands (stmts_layout all) ps
StoodStack (f ∷ fs) all ps = InOrder (StoodStack fs all) (StoodFrame f) ps

abbrev slot_mark : Slot Span → Span
slot_mark (for_local m f t w) = m
slot_mark (for_return m) = m
slot_mark (for_head m h) = m

abbrev slot_parts : Slot Span → Layouts Span
slot_parts (for_local m f t w) = local_parts f t w
slot_parts (for_return m) = token (keyword Return) then nothing
slot_parts (for_head m h) = token (keyword (head_keyword h)) then token (symbol OpenParen) then nothing

abbrev StoodLocal : Span → Bool → T.State Span → Tokens → Type 0
StoodLocal m f s ps = StoodTyped m (final_layout f) s ps

abbrev pub Stood : State Span → Tokens → Type 0
Stood (ready fs all) ps = StoodStack fs all ps
Stood (done fs all s) ps = InOrder (StoodStack fs all) (StoodStmt s) ps
Stood (headed fs all m h) ps = InOrder (StoodStack fs all) (Open m (head_parts h)) ps
Stood (returning fs all m) ps = InOrder (StoodStack fs all) (Open m (token (keyword Return) then nothing)) ps
Stood (in_exp fs all slot s) ps = InOrder (StoodStack fs all) (InOrder (Open (slot_mark slot) (slot_parts slot)) (λ (b : Tokens). span_run (E.want []) b ≡ Some s)) ps
Stood (in_eval fs all s) ps = InOrder (StoodStack fs all) (λ (b : Tokens). span_statement_run (E.want []) b ≡ Some s) ps
Stood (locked fs all m e) ps = InOrder (StoodStack fs all) (Open m (sync_parts e)) ps
Stood (in_type fs all m f s) ps = InOrder (StoodStack fs all) (StoodLocal m f s) ps
Stood (named fs all m f t w) ps = InOrder (StoodStack fs all) (Open m (named_parts f t w)) ps

abbrev After : Tokens → Placed Span → Option (State Span) → Type 0
After ps i o = IfSome o (λ (n : State Span). Stood n (ps ++ (i ∷ [])))

-- ---- the end of a statement

stmts_with : (ss : Stmts Span) (s : Stmt Span) (a b : Tokens) → Stands (stmts_layout ss) a → Stands (stmt_layout s) b → Stands (stmts_layout (with_stmt ss s)) (a ++ b)
stmts_with end s a b h k = subst (λ (c : Tokens). Stands (stmts_layout (more s end)) (c ++ b)) (sym h) (record { front = b; back = []; whole = sym (append-nil b); first = k; rest = behind [] [] refl refl })
stmts_with (more d ss) s a b h k = grow b h (λ c g. stand_last (stmts_layout (with_stmt ss s)) (c ++ b) (stmts_with ss s c b (last_stands (stmts_layout ss) c g) k))

-- a frame and the statement in it
then_ended : (m : Span) (c : Exp Span) (s : Stmt Span) (a b : Tokens) → Open m (then_parts c) a → StoodStmt s b → StoodStmt (branch (join m (stmt_mark s)) c s no_else) (a ++ b)
then_ended m c s a b h k =
    open_end (stmt_mark s) (stmt_layout s then row nothing then nothing) b h (record { front = b; back = []; whole = sym (append-nil b); first = k.stands; rest = behind [] [] refl refl }) k.more (ap (λ (x : Span). x.to) k.mark)

else_ended : (m : Span) (c : Exp Span) (first s : Stmt Span) (a b : Tokens) → StoodFrame (in_else m c first) a → StoodStmt s b → StoodStmt (branch (join m (stmt_mark s)) c first (otherwise s)) (a ++ b)
else_ended m c first s a b h k =
    let x = branch (join m (stmt_mark s)) c first (otherwise s) in
    let tail : StandInOrder (else_layout (otherwise s) then nothing) (h.back ++ b) = stand_last (else_layout (otherwise s)) (h.back ++ b) (behind h.back b h.rest (stand_last (stmt_layout s) b k.stands)) in
    subst (StoodStmt x) (sym (ap (λ (y : Tokens). y ++ b) h.whole ∙ append_assoc h.front h.back b))
    (open_end (stmt_mark s) (else_layout (otherwise s) then nothing) (h.back ++ b) h.first tail (more_after h.back b k.more) (ap (λ (y : Span). y.to) k.mark ∙ sym (last_to-append h.back b k.more)))

loop_ended : (m : Span) (c : Exp Span) (s : Stmt Span) (a b : Tokens) → Open m (loop_parts c) a → StoodStmt s b → StoodStmt (loop (join m (stmt_mark s)) c s) (a ++ b)
loop_ended m c s a b h k = open_end (stmt_mark s) (stmt_layout s then nothing) b h (stand_last (stmt_layout s) b k.stands) k.more (ap (λ (x : Span). x.to) k.mark)

abbrev StoodPlace : Place Span → Tokens → Type 0
StoodPlace p ps = StoodStack p.on p.all ps

ended_stands : (fs : List (Frame Span)) (all : Stmts Span) (s : Stmt Span) (ps : Tokens) → InOrder (StoodStack fs all) (StoodStmt s) ps → StoodPlace (ended join fs all s) ps
ended_stands [] all s ps h = joined (Stands (stmts_layout (with_stmt all s))) h (λ a b f g. stmts_with all s a b f g.stands)
ended_stands (in_block m ss ∷ fs) all s ps h = absorb h (λ a b f g. grow b f (λ c k. stmts_with ss s c b k g.stands))
ended_stands (in_sync m e ss ∷ fs) all s ps h = absorb h (λ a b f g. grow b f (λ c k. stmts_with ss s c b k g.stands))
ended_stands (in_then m c ∷ fs) all s ps h = ended_stands fs all (branch (join m (stmt_mark s)) c s no_else) ps (absorb h (then_ended m c s))
ended_stands (in_else m c first ∷ fs) all s ps h = ended_stands fs all (branch (join m (stmt_mark s)) c first (otherwise s)) ps (absorb h (else_ended m c first s))
ended_stands (in_loop m c ∷ fs) all s ps h = ended_stands fs all (loop (join m (stmt_mark s)) c s) ps (absorb h (loop_ended m c s))

taken_stands : (fs : List (Frame Span)) (all : Stmts Span) (s : Stmt Span) (i : Placed Span) (ps : Tokens) → i.token ≡ keyword Else → InOrder (StoodStack fs all) (StoodStmt s) ps → After ps i (taken_by_if join fs all s)
taken_stands [] all s i ps t h = tt
taken_stands (in_block m ss ∷ fs) all s i ps t h = tt
taken_stands (in_sync m e ss ∷ fs) all s i ps t h = tt
taken_stands (in_then m c ∷ fs) all s i ps t h =
    grow (i ∷ []) (absorb {R = Open m (else_parts c s)} h (λ a b f g. open_more (stmt_layout s then nothing) b f (stand_last (stmt_layout s) b g.stands))) (λ b k. behind b (i ∷ []) k (stand_token (keyword Else) i t))
taken_stands (in_else m c first ∷ fs) all s i ps t h = taken_stands fs all (branch (join m (stmt_mark s)) c first (otherwise s)) i ps t (absorb h (else_ended m c first s))
taken_stands (in_loop m c ∷ fs) all s i ps t h = taken_stands fs all (loop (join m (stmt_mark s)) c s) i ps t (absorb h (loop_ended m c s))

-- ---- where a statement may come

declared_stands : (fs : List (Frame Span)) (n : State Span) (i : Placed Span) (ps : Tokens) → Stood n (ps ++ (i ∷ [])) → After ps i (declared fs n)
declared_stands fs n i ps h = cond_both (may_declare fs) (Some n) None (After ps i) (λ _. h) (λ _. tt)

closed_stands : (fs : List (Frame Span)) (all : Stmts Span) (i : Placed Span) (ps : Tokens) → i.token ≡ symbol CloseBrace → StoodStack fs all ps → After ps i (list_closed join fs all i.mark)
closed_stands [] all i ps t h = tt
closed_stands (in_block m ss ∷ fs) all i ps t h = grow (i ∷ []) h (λ b k. block_ended b k)
  where
    block_ended : (b : Tokens) → StoodFrame (in_block m ss) b → StoodStmt (block (join m i.mark) ss) (b ++ (i ∷ []))
    block_ended b k =
        subst (StoodStmt (block (join m i.mark) ss)) (sym (ap (λ (y : Tokens). y ++ (i ∷ [])) k.whole ∙ append_assoc k.front k.back (i ∷ [])))
        (open_end i.mark (stmts_layout ss then token (symbol CloseBrace) then nothing) (k.back ++ (i ∷ [])) k.first (behind k.back (i ∷ []) k.rest (stand_one (symbol CloseBrace) i t)) (more_after k.back (i ∷ []) tt)
        (sym (last_to-append k.back (i ∷ []) tt)))
closed_stands (in_sync m e ss ∷ fs) all i ps t h = grow (i ∷ []) h (λ b k. sync_ended b k)
  where
    sync_ended : (b : Tokens) → StoodFrame (in_sync m e ss) b → StoodStmt (sync (join m i.mark) e ss) (b ++ (i ∷ []))
    sync_ended b k =
        subst (StoodStmt (sync (join m i.mark) e ss)) (sym (ap (λ (y : Tokens). y ++ (i ∷ [])) k.whole ∙ append_assoc k.front k.back (i ∷ [])))
        (open_end i.mark (stmts_layout ss then token (symbol CloseBrace) then nothing) (k.back ++ (i ∷ [])) k.first (behind k.back (i ∷ []) k.rest (stand_one (symbol CloseBrace) i t)) (more_after k.back (i ∷ []) tt)
        (sym (last_to-append k.back (i ∷ []) tt)))
closed_stands (in_then m c ∷ fs) all i ps t h = tt
closed_stands (in_else m c s ∷ fs) all i ps t h = tt
closed_stands (in_loop m c ∷ fs) all i ps t h = tt

modified_stands : (fs : List (Frame Span)) (all : Stmts Span) (i : Placed Span) (w : ModWord) (ps : Tokens) → i.token ≡ cue_token (a_modifier w) → StoodStack fs all ps → After ps i (begin_modified fs all i.mark w)
modified_stands fs all i Synchronized ps t h = behind ps (i ∷ []) h (open_one (keyword SynchronizedWord) i t)
modified_stands fs all i Final ps t h =
    declared_stands fs (in_type fs all i.mark true (T.want true)) i ps (behind ps (i ∷ []) h (record { parts = behind (i ∷ []) [] (stand_one (keyword FinalWord) i t) refl; more = tt; from = refl }))
modified_stands fs all i _ ps t h = tt

primitive_stands : (fs : List (Frame Span)) (all : Stmts Span) (i : Placed Span) (p : Primitive) (ps : Tokens) → i.token ≡ cue_token (a_primitive p) → StoodStack fs all ps → After ps i (begin_primitive fs all i.mark p)
primitive_stands fs all i p ps t h =
    declared_stands fs (in_type fs all i.mark false (T.have (T.primitive_type i.mark p))) i ps (behind ps (i ∷ []) h (record { parts = behind [] (i ∷ []) refl (primitive_type p i t); more = tt; from = refl }))

one_run : {S : Type 0} (o : Option S) (n : S) → o ≡ Some n → option_and_then (λ (r : S). Some r) o ≡ Some n
one_run o n e = ap (option_and_then (λ r. Some r)) e

eval_begun_stands : (fs : List (Frame Span)) (all : Stmts Span) (i : Placed Span) (ps : Tokens) → StoodStack fs all ps → After ps i (begin_eval join fs all i.mark i.token)
eval_begun_stands fs all i ps h = go (span_statement_step (E.want []) i) refl
  where
    go : (o : Option (E.State Span)) → span_statement_step (E.want []) i ≡ o → After ps i (option_map (in_eval fs all) o)
    go None e = tt
    go (Some n) e = behind ps (i ∷ []) h (one_run (span_statement_step (E.want []) i) n e)

ready_stands : (fs : List (Frame Span)) (all : Stmts Span) (i : Placed Span) (q : Cue) (ps : Tokens) → i.token ≡ cue_token q → StoodStack fs all ps → After ps i (from_ready join fs all i.mark i.token q)
unfolding from_ready
ready_stands fs all i a_semicolon ps t h = behind ps (i ∷ []) h (one_whole (symbol Semicolon) i t)
ready_stands fs all i an_open_brace ps t h = behind ps (i ∷ []) h (behind (i ∷ []) [] (open_one (symbol OpenBrace) i t) refl)
ready_stands fs all i a_close_brace ps t h = closed_stands fs all i ps t h
ready_stands fs all i an_if ps t h = behind ps (i ∷ []) h (open_one (keyword If) i t)
ready_stands fs all i a_while ps t h = behind ps (i ∷ []) h (open_one (keyword While) i t)
ready_stands fs all i a_return ps t h = behind ps (i ∷ []) h (open_one (keyword Return) i t)
ready_stands fs all i (a_modifier w) ps t h = modified_stands fs all i w ps t h
ready_stands fs all i (a_primitive p) ps t h = primitive_stands fs all i p ps t h
ready_stands fs all i _ ps t h = eval_begun_stands fs all i ps h

place_stands : (fs : List (Frame Span)) (all : Stmts Span) (s : Stmt Span) (i : Placed Span) (q : Cue) (ps : Tokens) → i.token ≡ cue_token q → InOrder (StoodStack fs all) (StoodStmt s) ps
    → After ps i (from_place join (ended join fs all s) i.mark i.token q)
place_stands fs all s i q ps t h = let p = ended join fs all s in ready_stands p.on p.all i q ps t (ended_stands fs all s ps h)

done_stands : (fs : List (Frame Span)) (all : Stmts Span) (s : Stmt Span) (i : Placed Span) (q : Cue) (ps : Tokens) → i.token ≡ cue_token q → InOrder (StoodStack fs all) (StoodStmt s) ps → After ps i (from_done join fs all s i.mark i.token q)
done_stands fs all s i an_else ps t h = taken_stands fs all s i ps t h
done_stands fs all s i q ps t h = place_stands fs all s i q ps t h

-- ---- expressions inside

-- an expression behind what a node has so far, and a token that ends the node, or goes on
abbrev BehindOpen : Span → Layouts Span → Exp Span → Tokens → Type 0
BehindOpen m xs e b = InOrder (Open m xs) (Whole (exp_layout e) (exp_mark e)) b

exp_and : (e : Exp Span) (t : Token) (i : Placed Span) (c : Tokens) → i.token ≡ t → Whole (exp_layout e) (exp_mark e) c → StandInOrder (exp_layout e then token t then nothing) (c ++ (i ∷ []))
exp_and e t i c u h = behind c (i ∷ []) h.stands (stand_one t i u)

open_exp_ended : (m : Span) (xs : Layouts Span) (e : Exp Span) (t : Token) (i : Placed Span) (b : Tokens) → i.token ≡ t → BehindOpen m xs e b
    → Whole (node (join m i.mark) (both xs (exp_layout e then token t then nothing))) (join m i.mark) (b ++ (i ∷ []))
open_exp_ended m xs e t i b u k =
    subst (Whole (node (join m i.mark) (both xs (exp_layout e then token t then nothing))) (join m i.mark)) (sym (ap (λ (y : Tokens). y ++ (i ∷ [])) k.whole ∙ append_assoc k.front k.back (i ∷ [])))
    (open_end i.mark (exp_layout e then token t then nothing) (k.back ++ (i ∷ [])) k.first (exp_and e t i k.back u k.rest) (more_after k.back (i ∷ []) tt) (sym (last_to-append k.back (i ∷ []) tt)))

open_exp_more : (m : Span) (xs : Layouts Span) (e : Exp Span) (i : Placed Span) (b : Tokens) → i.token ≡ symbol CloseParen → BehindOpen m xs e b → Open m (both xs (exp_layout e then token (symbol CloseParen) then nothing)) (b ++ (i ∷ []))
open_exp_more m xs e i b u k =
    subst (Open m (both xs (exp_layout e then token (symbol CloseParen) then nothing))) (sym (ap (λ (y : Tokens). y ++ (i ∷ [])) k.whole ∙ append_assoc k.front k.back (i ∷ [])))
    (open_more (exp_layout e then token (symbol CloseParen) then nothing) (k.back ++ (i ∷ [])) k.first (exp_and e (symbol CloseParen) i k.back u k.rest))

filled_stands : (fs : List (Frame Span)) (all : Stmts Span) (slot : Slot Span) (e : Exp Span) (i : Placed Span) (q : Cue) (ps : Tokens) → i.token ≡ cue_token q
    → InOrder (StoodStack fs all) (InOrder (Open (slot_mark slot) (slot_parts slot)) (Whole (exp_layout e) (exp_mark e))) ps → After ps i (filled join fs all slot i.mark q e)
filled_stands fs all (for_local m f t w) e i q ps u h =
    semicolon_both q (done fs all (local (join m i.mark) f t w e)) (λ (k : Token) (o : Option (State Span)). i.token ≡ k → After ps i o)
    (λ c. grow (i ∷ []) h (λ b k. open_exp_ended m (local_parts f t w) e (symbol Semicolon) i b c k))
    (λ k c. tt) u
filled_stands fs all (for_return m) e i q ps u h =
    semicolon_both q (done fs all (return (join m i.mark) (Some e))) (λ (k : Token) (o : Option (State Span)). i.token ≡ k → After ps i o)
    (λ c. grow (i ∷ []) h (λ b k. open_exp_ended m (token (keyword Return) then nothing) e (symbol Semicolon) i b c k))
    (λ k c. tt) u
filled_stands fs all (for_head m r) e i q ps u h = close_both q (behind_head fs all m r e) (λ (k : Token) (o : Option (State Span)). i.token ≡ k → After ps i o) (headed_stands r h) (λ k c. tt) u
  where
    headed_stands : (r : Head) → InOrder (StoodStack fs all) (InOrder (Open m (slot_parts (for_head m r))) (Whole (exp_layout e) (exp_mark e))) ps → i.token ≡ symbol CloseParen → Stood (behind_head fs all m r e) (ps ++ (i ∷ []))
    headed_stands if_head h c = grow (i ∷ []) h (λ b k. open_exp_more m (slot_parts (for_head m if_head)) e i b c k)
    headed_stands while_head h c = grow (i ∷ []) h (λ b k. open_exp_more m (slot_parts (for_head m while_head)) e i b c k)
    headed_stands sync_head h c = grow (i ∷ []) h (λ b k. open_exp_more m (slot_parts (for_head m sync_head)) e i b c k)

exp_stands : (fs : List (Frame Span)) (all : Stmts Span) (slot : Slot Span) (s : E.State Span) (i : Placed Span) (q : Cue) (ps : Tokens) → i.token ≡ cue_token q → Stood (in_exp fs all slot s) ps
    → After ps i (from_exp join fs all slot s i.mark i.token q)
exp_stands fs all slot s i q ps t h =
    inner_both (in_exp fs all slot) (option_and_then (filled join fs all slot i.mark q) (span_whole s)) (span_step s i) (After ps i)
    (λ n e. grow (i ∷ []) h (λ b k. grow (i ∷ []) k (λ c g. span_run_one (E.State Span) (Exp Span) span_step span_whole (E.want []) s n c i g e)))
    (λ _. go (span_whole s) refl)
  where
    go : (o : Option (Exp Span)) → span_whole s ≡ o → After ps i (option_and_then (filled join fs all slot i.mark q) o)
    go None e = tt
    go (Some d) e = filled_stands fs all slot d i q ps t (mapped h (λ b k. mapped k (λ c g. exp_whole_stands c s d g e)))

returning_stands : (fs : List (Frame Span)) (all : Stmts Span) (m : Span) (i : Placed Span) (q : Cue) (ps : Tokens) → i.token ≡ cue_token q → Stood (returning fs all m) ps → After ps i (from_returning join fs all m i.mark i.token q)
returning_stands fs all m i a_semicolon ps t h = grow (i ∷ []) h (λ b k. open_ended (symbol Semicolon) i k t)
returning_stands fs all m i q ps t h = go (span_step (E.want []) i) refl
  where
    go : (o : Option (E.State Span)) → span_step (E.want []) i ≡ o → After ps i (option_map (in_exp fs all (for_return m)) o)
    go None e = tt
    go (Some n) e = grow (i ∷ []) h (λ b k. behind b (i ∷ []) k (one_run (span_step (E.want []) i) n e))

-- ---- statement expressions, and locals of a named type

eval_ended_stands : (fs : List (Frame Span)) (all : Stmts Span) (s : E.State Span) (i : Placed Span) (q : Cue) (ps : Tokens) → i.token ≡ cue_token q → Stood (in_eval fs all s) ps → After ps i (eval_ended join fs all s i.mark q)
eval_ended_stands fs all s i a_semicolon ps t h = go (span_statement_whole s) refl
  where
    go : (o : Option (Exp Span)) → span_statement_whole s ≡ o → After ps i (option_map (evaluated join fs all i.mark) o)
    go None e = tt
    go (Some d) e = grow (i ∷ []) h (λ b k. open_ended (symbol Semicolon) i (whole_open (eval_whole_stands b s d k e)) t)
eval_ended_stands fs all s i (a_word w) ps t h = go (type_read s) refl
  where
    read : (ty : TypeName Span) → type_read s ≡ Some ty → (b : Tokens) → span_statement_run (E.want []) b ≡ Some s → Open (type_mark ty) (named_parts false ty (E.marked i.mark w)) (b ++ (i ∷ []))
    read ty e b k =
        let n = type_read_stands b s ty k e in
        let o = open_more (word_layout (E.marked i.mark w) then nothing) (i ∷ []) (whole_open n) (stand_last (word_layout (E.marked i.mark w)) (i ∷ []) (stand_word (E.marked i.mark w) i t refl)) in
        record { parts = behind [] (b ++ (i ∷ [])) refl o.parts; more = o.more; from = o.from }

    go : (o : Option (TypeName Span)) → type_read s ≡ o → After ps i (option_and_then (begin_local fs all (E.marked i.mark w)) o)
    go None e = tt
    go (Some ty) e = declared_stands fs (named fs all (type_mark ty) false ty (E.marked i.mark w)) i ps (grow (i ∷ []) h (read ty e))
eval_ended_stands fs all s i _ ps t h = tt

eval_stands : (fs : List (Frame Span)) (all : Stmts Span) (s : E.State Span) (i : Placed Span) (q : Cue) (ps : Tokens) → i.token ≡ cue_token q → Stood (in_eval fs all s) ps → After ps i (from_eval join fs all s i.mark i.token q)
eval_stands fs all s i q ps t h =
    inner_both (in_eval fs all) (eval_ended join fs all s i.mark q) (span_statement_step s i) (After ps i)
    (λ n e. grow (i ∷ []) h (λ b k. span_run_one (E.State Span) (Exp Span) span_statement_step span_statement_whole (E.want []) s n b i k e))
    (λ _. eval_ended_stands fs all s i q ps t h)

-- ---- locals

local_named_stands : (fs : List (Frame Span)) (all : Stmts Span) (m : Span) (f : Bool) (s : T.State Span) (i : Placed Span) (q : Cue) (ps : Tokens) → i.token ≡ cue_token q → Stood (in_type fs all m f s) ps
    → After ps i (option_and_then (local_named fs all m f i.mark q) (T.whole s))
local_named_stands fs all m f (T.have ty) i (a_word w) ps t h = grow (i ∷ []) h (λ b k. typed_word m (final_layout f) ty w i b t k)
local_named_stands fs all m f (T.have ty) i _ ps t h = tt
local_named_stands fs all m f (T.want c) i q ps t h = tt
local_named_stands fs all m f (T.dotted o) i q ps t h = tt

type_stands : (fs : List (Frame Span)) (all : Stmts Span) (m : Span) (f : Bool) (s : T.State Span) (i : Placed Span) (q : Cue) (ps : Tokens) → i.token ≡ cue_token q → Stood (in_type fs all m f s) ps
    → After ps i (from_type join fs all m f s i.mark q)
type_stands fs all m f s i q ps t h =
    inner_both (in_type fs all m f) (option_and_then (local_named fs all m f i.mark q) (T.whole s)) (T.cue_step join s i.mark q) (After ps i)
    (λ n e. grow (i ∷ []) h (λ b k. typed_more m (final_layout f) s n i q b t e k))
    (λ _. local_named_stands fs all m f s i q ps t h)

-- ---- the whole

abbrev Next : Tokens → Placed Span → Token → Option (State Span) → Type 0
Next ps i k o = i.token ≡ k → After ps i o

cue_stands : (s : State Span) (i : Placed Span) (q : Cue) (ps : Tokens) → i.token ≡ cue_token q → Stood s ps → After ps i (cue_step join s i.mark i.token q)
cue_stands (ready fs all) i q ps t h = ready_stands fs all i q ps t h
cue_stands (done fs all s) i q ps t h = done_stands fs all s i q ps t h
cue_stands (headed fs all m r) i q ps t h =
    open_both q (in_exp fs all (for_head m r) (E.want [])) (Next ps i)
    (λ c. grow (i ∷ []) h (λ b k. record {
      front = b ++ (i ∷ []);
      back = [];
      whole = sym (append-nil (b ++ (i ∷ [])));
      first = open_more (token (symbol OpenParen) then nothing) (i ∷ []) k (stand_one (symbol OpenParen) i c);
      rest = refl;
    }))
    (λ k c. tt) t
cue_stands (returning fs all m) i q ps t h = returning_stands fs all m i q ps t h
cue_stands (in_exp fs all slot s) i q ps t h = exp_stands fs all slot s i q ps t h
cue_stands (in_eval fs all s) i q ps t h = eval_stands fs all s i q ps t h
cue_stands (locked fs all m e) i q ps t h =
    open_brace_both q (ready (in_sync m e end ∷ fs) all) (Next ps i)
    (λ c. grow (i ∷ []) h (λ b k. record {
      front = b ++ (i ∷ []);
      back = [];
      whole = sym (append-nil (b ++ (i ∷ [])));
      first = open_more (token (symbol OpenBrace) then nothing) (i ∷ []) k (stand_one (symbol OpenBrace) i c);
      rest = refl;
    }))
    (λ k c. tt) t
cue_stands (in_type fs all m f s) i q ps t h = type_stands fs all m f s i q ps t h
cue_stands (named fs all m f ty w) i q ps t h =
    equals_both q (in_exp fs all (for_local m f ty w) (E.want [])) (Next ps i)
    (λ c. grow (i ∷ []) h (λ b k. record {
      front = b ++ (i ∷ []);
      back = [];
      whole = sym (append-nil (b ++ (i ∷ [])));
      first = open_more (token (symbol Equals) then nothing) (i ∷ []) k (stand_one (symbol Equals) i c);
      rest = refl;
    }))
    (λ k c. tt) t

step_stands : (s : State Span) (i : Placed Span) (ps : Tokens) → Stood s ps → After ps i (span_list_step s i)
step_stands s i ps h = cue_stands s i (cue_of i.token) ps (sym (cue_back i.token)) h

-- what a run has read stands there
run_stands : (s : State Span) (ps is : Tokens) → Stood s ps → IfSome (span_list_run s is) (λ (n : State Span). Stood n (ps ++ is))
run_stands s ps [] h = subst (Stood s) (sym (append-nil ps)) h
run_stands s ps (i ∷ is) h = go (λ n k. run_stands n (ps ++ (i ∷ [])) is k) (span_list_step s i) (step_stands s i ps h)
  where
    onward : (o : Option (State Span)) → IfSome o (λ (n : State Span). Stood n ((ps ++ (i ∷ [])) ++ is)) → IfSome o (λ (n : State Span). Stood n (ps ++ (i ∷ is)))
    onward None k = tt
    onward (Some n) k = subst (Stood n) (append_assoc ps (i ∷ []) is) k

    go : ((n : State Span) → Stood n (ps ++ (i ∷ [])) → IfSome (span_list_run n is) (λ (m : State Span). Stood m ((ps ++ (i ∷ [])) ++ is))) → (o : Option (State Span)) → After ps i o
        → IfSome (option_and_then (λ (n : State Span). span_list_run n is) o) (λ (n : State Span). Stood n (ps ++ (i ∷ is)))
    go f None k = tt
    go f (Some n) k = onward (span_list_run n is) (f n k)

pub list_stands : (ps : Tokens) (s : State Span) → span_list_run start ps ≡ Some s → Stood s ps
list_stands ps s h = at_some (span_list_run start ps) s (λ (n : State Span). Stood n ps) h (run_stands start [] ps refl)

whole_in_stands : (fs : List (Frame Span)) (all ss : Stmts Span) (ps : Tokens) → StoodStack fs all ps → whole_in fs all ≡ Some ss → Stands (stmts_layout ss) ps
whole_in_stands [] all ss ps h k = subst (λ (r : Stmts Span). Stands (stmts_layout r) ps) (same_Some all ss k) h
whole_in_stands (f ∷ fs) all ss ps h k = absurd cc

pub list_whole_stands : (s : State Span) (ss : Stmts Span) (ps : Tokens) → Stood s ps → span_list_whole s ≡ Some ss → Stands (stmts_layout ss) ps
list_whole_stands (ready fs all) ss ps h k = whole_in_stands fs all ss ps h k
list_whole_stands (done fs all s) ss ps h k = let p = ended join fs all s in whole_in_stands p.on p.all ss ps (ended_stands fs all s ps h) k
list_whole_stands _ ss ps h k = absurd cc
