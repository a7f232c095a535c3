-- Statements: the machine with marks steps as the one without.
use Rattle.std.proofs.Common.{◌≡◌, Bool, true, false, cond, List, [], ◌∷◌, Option, Some, None, refl, sym, ap, ◌∙◌}
use Rattle.std.specs.Prelude.{option_map, option_and_then}
use Rattle.jr_text.specs.declared.spans.Span.{Span}
use Rattle.jr_ast.specs.declared.operators.ModWord.{ModWord}
use Rattle.jr_ast.specs.declared.operators.ModWord.TheVariants.{Final, Synchronized}
use Rattle.jr_ast.specs.Tree.{Word, TypeName, Exp}
use Rattle.jr_ast.specs.StatementTree.{Stmt, local, branch, loop, return, no_else, otherwise, Stmts, end, more}
use Rattle.jr_ast.specs.Marks.{type_mark, stmt_mark}
use Rattle.jr_ast.specs.Remarked.{map_stmt, map_stmts}
use Rattle.jr_grammar.specs.Tokens.{Token}
use Rattle.jr_grammar.specs.Bare.{Bare, bare_word, bare_type, bare, bare_stmt, bare_stmts}
use Rattle.jr_pexpr.specs.Machine as E
use Rattle.jr_pexpr.specs.Marked.{join}
use Rattle.jr_pexpr.specs.BareMachine.{no_join, bare_state, bare_whole}
use Rattle.jr_pstmt.specs.Cues.{Primitive, an_int, a_boolean, Cue, a_word, a_primitive, a_modifier, an_if, an_else, a_while, a_return, an_open_brace, a_close_brace, a_semicolon, at_close, cue_of}
use Rattle.jr_pstmt.specs.Inside.{inner}
use Rattle.jr_pstmt.specs.TypeMachine as T
use Rattle.jr_pexpr.specs.Starts.{type_read}
use Rattle.jr_pstmt.specs.StatementMachine.{Frame, in_block, in_sync, in_then, in_else, in_loop, Head, if_head, while_head, sync_head, Slot, for_local, for_return, for_head, State, ready, done, headed, returning, in_exp, in_eval, locked, in_type, named, with_stmt, Place, place, ended, taken_by_if, may_declare, declared, list_closed, begin_modified, begin_primitive, begin_eval, from_ready, from_place, from_done, begin_value, from_returning, behind_head, filled, from_exp, begin_local, evaluated, eval_ended, from_eval, local_named, from_type, cue_step, step, whole, whole_in, whole_at}
use Rattle.jr_punit_laws.proofs.Expressions.{exp_step-bare, eval_step-bare, exp_whole-bare, eval_whole-bare, name_type-bare}
use Rattle.jr_punit_laws.proofs.MapSteps.{map-inner, map-and_then, map-map, map-semicolon, map-open, map-close, map-open_brace, map-equals}
use Rattle.jr_punit_laws.proofs.BareParts.{bare_type_state, type_step-bare, type_whole-bare}

-- ---- states without marks

abbrev pub bare_frame : Frame Span → Frame Bare
bare_frame (in_block m ss) = in_block tt (bare_stmts ss)
bare_frame (in_sync m e ss) = in_sync tt (bare e) (bare_stmts ss)
bare_frame (in_then m c) = in_then tt (bare c)
bare_frame (in_else m c s) = in_else tt (bare c) (bare_stmt s)
bare_frame (in_loop m c) = in_loop tt (bare c)

abbrev pub bare_frames : List (Frame Span) → List (Frame Bare)
bare_frames [] = []
bare_frames (f ∷ fs) = bare_frame f ∷ bare_frames fs

abbrev bare_slot : Slot Span → Slot Bare
bare_slot (for_local m f t w) = for_local tt f (bare_type t) (bare_word w)
bare_slot (for_return m) = for_return tt
bare_slot (for_head m h) = for_head tt h

abbrev pub bare_list_state : State Span → State Bare
bare_list_state (ready fs all) = ready (bare_frames fs) (bare_stmts all)
bare_list_state (done fs all s) = done (bare_frames fs) (bare_stmts all) (bare_stmt s)
bare_list_state (headed fs all m h) = headed (bare_frames fs) (bare_stmts all) tt h
bare_list_state (returning fs all m) = returning (bare_frames fs) (bare_stmts all) tt
bare_list_state (in_exp fs all slot s) = in_exp (bare_frames fs) (bare_stmts all) (bare_slot slot) (bare_state s)
bare_list_state (in_eval fs all s) = in_eval (bare_frames fs) (bare_stmts all) (bare_state s)
bare_list_state (locked fs all m e) = locked (bare_frames fs) (bare_stmts all) tt (bare e)
bare_list_state (in_type fs all m f s) = in_type (bare_frames fs) (bare_stmts all) tt f (bare_type_state s)
bare_list_state (named fs all m f t w) = named (bare_frames fs) (bare_stmts all) tt f (bare_type t) (bare_word w)

abbrev some : Option (State Span) → Option (State Bare)
some o = option_map bare_list_state o

abbrev Spans : Type 0
Spans = List (Frame Span)

abbrev Items : Type 0
Items = Stmts Span

-- ---- the end of a statement

with_stmt-bare : (ss : Items) (s : Stmt Span) → bare_stmts (with_stmt ss s) ≡ with_stmt (bare_stmts ss) (bare_stmt s)
unfolding map_stmt
with_stmt-bare end s = refl
with_stmt-bare (more d ss) s = ap (more (bare_stmt d)) (with_stmt-bare ss s)

abbrev bare_place : Place Span → Place Bare
bare_place p = place (bare_frames p.on) (bare_stmts p.all)

ended-bare : (fs : Spans) (all : Items) (s : Stmt Span) → bare_place (ended join fs all s) ≡ ended no_join (bare_frames fs) (bare_stmts all) (bare_stmt s)
unfolding map_stmt
ended-bare [] all s = ap (λ (ss : Stmts Bare). place [] ss) (with_stmt-bare all s)
ended-bare (in_block m ss ∷ fs) all s = ap (λ (ds : Stmts Bare). place (in_block tt ds ∷ bare_frames fs) (bare_stmts all)) (with_stmt-bare ss s)
ended-bare (in_sync m e ss ∷ fs) all s = ap (λ (ds : Stmts Bare). place (in_sync tt (bare e) ds ∷ bare_frames fs) (bare_stmts all)) (with_stmt-bare ss s)
ended-bare (in_then m c ∷ fs) all s = ended-bare fs all (branch (join m (stmt_mark s)) c s no_else)
ended-bare (in_else m c first ∷ fs) all s = ended-bare fs all (branch (join m (stmt_mark s)) c first (otherwise s))
ended-bare (in_loop m c ∷ fs) all s = ended-bare fs all (loop (join m (stmt_mark s)) c s)

taken-bare : (fs : Spans) (all : Items) (s : Stmt Span) → some (taken_by_if join fs all s) ≡ taken_by_if no_join (bare_frames fs) (bare_stmts all) (bare_stmt s)
unfolding map_stmt
taken-bare [] all s = refl
taken-bare (in_block m ss ∷ fs) all s = refl
taken-bare (in_sync m e ss ∷ fs) all s = refl
taken-bare (in_then m c ∷ fs) all s = refl
taken-bare (in_else m c first ∷ fs) all s = taken-bare fs all (branch (join m (stmt_mark s)) c first (otherwise s))
taken-bare (in_loop m c ∷ fs) all s = taken-bare fs all (loop (join m (stmt_mark s)) c s)

-- ---- where a statement may come

may_declare-bare : (fs : Spans) → may_declare (bare_frames fs) ≡ may_declare fs
may_declare-bare [] = refl
may_declare-bare (in_block m ss ∷ fs) = refl
may_declare-bare (in_sync m e ss ∷ fs) = refl
may_declare-bare (in_then m c ∷ fs) = refl
may_declare-bare (in_else m c s ∷ fs) = refl
may_declare-bare (in_loop m c ∷ fs) = refl

declared-bare : (fs : Spans) (s : State Span) → some (declared fs s) ≡ declared (bare_frames fs) (bare_list_state s)
declared-bare fs s = go (may_declare fs) ∙ ap (λ (b : Bool). cond b (Some (bare_list_state s)) None) (sym (may_declare-bare fs))
  where
    go : (b : Bool) → some (cond b (Some s) None) ≡ cond b (Some (bare_list_state s)) None
    go true = refl
    go false = refl

closed-bare : (fs : Spans) (all : Items) (at : Span) → some (list_closed join fs all at) ≡ list_closed no_join (bare_frames fs) (bare_stmts all) tt
unfolding map_stmt
closed-bare [] all at = refl
closed-bare (in_block m ss ∷ fs) all at = refl
closed-bare (in_sync m e ss ∷ fs) all at = refl
closed-bare (in_then m c ∷ fs) all at = refl
closed-bare (in_else m c s ∷ fs) all at = refl
closed-bare (in_loop m c ∷ fs) all at = refl

modified-bare : (fs : Spans) (all : Items) (at : Span) (w : ModWord) → some (begin_modified fs all at w) ≡ begin_modified (bare_frames fs) (bare_stmts all) tt w
modified-bare fs all at Synchronized = refl
modified-bare fs all at Final = declared-bare fs (in_type fs all at true (T.want true))
modified-bare fs all at _ = refl

primitive-bare : (fs : Spans) (all : Items) (at : Span) (p : Primitive) → some (begin_primitive fs all at p) ≡ begin_primitive (bare_frames fs) (bare_stmts all) tt p
primitive-bare fs all at an_int = declared-bare fs (in_type fs all at false (T.have (T.primitive_type at an_int)))
primitive-bare fs all at a_boolean = declared-bare fs (in_type fs all at false (T.have (T.primitive_type at a_boolean)))

eval_begun-bare : (fs : Spans) (all : Items) (at : Span) (t : Token) → some (begin_eval join fs all at t) ≡ begin_eval no_join (bare_frames fs) (bare_stmts all) tt t
eval_begun-bare fs all at t =
    map-map bare_list_state bare_state (in_eval fs all) (in_eval (bare_frames fs) (bare_stmts all)) (E.statement_step join (E.want []) at t) (λ s. refl)
    ∙ ap (option_map (in_eval (bare_frames fs) (bare_stmts all))) (eval_step-bare (E.want []) at t)

ready-bare : (fs : Spans) (all : Items) (at : Span) (t : Token) (q : Cue) → some (from_ready join fs all at t q) ≡ from_ready no_join (bare_frames fs) (bare_stmts all) tt t q
unfolding from_ready map_stmt
ready-bare fs all at t a_semicolon = refl
ready-bare fs all at t an_open_brace = refl
ready-bare fs all at t a_close_brace = closed-bare fs all at
ready-bare fs all at t an_if = refl
ready-bare fs all at t a_while = refl
ready-bare fs all at t a_return = refl
ready-bare fs all at t (a_modifier w) = modified-bare fs all at w
ready-bare fs all at t (a_primitive p) = primitive-bare fs all at p
ready-bare fs all at t _ = eval_begun-bare fs all at t

place-bare : (fs : Spans) (all : Items) (s : Stmt Span) (at : Span) (t : Token) (q : Cue)
    → some (from_place join (ended join fs all s) at t q) ≡ from_place no_join (ended no_join (bare_frames fs) (bare_stmts all) (bare_stmt s)) tt t q
place-bare fs all s at t q =
    let p = ended join fs all s in ready-bare p.on p.all at t q ∙ ap (λ (r : Place Bare). from_place no_join r tt t q) (ended-bare fs all s)

done-bare : (fs : Spans) (all : Items) (s : Stmt Span) (at : Span) (t : Token) (q : Cue) → some (from_done join fs all s at t q) ≡ from_done no_join (bare_frames fs) (bare_stmts all) (bare_stmt s) tt t q
done-bare fs all s at t an_else = taken-bare fs all s
done-bare fs all s at t q = place-bare fs all s at t q

-- ---- expressions inside

value_begun-bare : (fs : Spans) (all : Items) (m at : Span) (t : Token) → some (begin_value join fs all m at t) ≡ begin_value no_join (bare_frames fs) (bare_stmts all) tt tt t
value_begun-bare fs all m at t =
    let w = in_exp (bare_frames fs) (bare_stmts all) (for_return tt) in
    map-map bare_list_state bare_state (in_exp fs all (for_return m)) w (E.step join (E.want []) at t) (λ s. refl) ∙ ap (option_map w) (exp_step-bare (E.want []) at t)

returning-bare : (fs : Spans) (all : Items) (m at : Span) (t : Token) (q : Cue) → some (from_returning join fs all m at t q) ≡ from_returning no_join (bare_frames fs) (bare_stmts all) tt tt t q
unfolding map_stmt
returning-bare fs all m at t a_semicolon = refl
returning-bare fs all m at t _ = value_begun-bare fs all m at t

behind_head-bare : (fs : Spans) (all : Items) (m : Span) (h : Head) (e : Exp Span) → bare_list_state (behind_head fs all m h e) ≡ behind_head (bare_frames fs) (bare_stmts all) tt h (bare e)
behind_head-bare fs all m if_head e = refl
behind_head-bare fs all m while_head e = refl
behind_head-bare fs all m sync_head e = refl

filled-bare : (fs : Spans) (all : Items) (slot : Slot Span) (at : Span) (q : Cue) (e : Exp Span) → some (filled join fs all slot at q e) ≡ filled no_join (bare_frames fs) (bare_stmts all) (bare_slot slot) tt q (bare e)
unfolding map_stmt
filled-bare fs all (for_local m f t w) at q e = map-semicolon bare_list_state q (done fs all (local (join m at) f t w e))
filled-bare fs all (for_return m) at q e = map-semicolon bare_list_state q (done fs all (return (join m at) (Some e)))
filled-bare fs all (for_head m h) at q e = map-close bare_list_state q (behind_head fs all m h e) ∙ ap (at_close q) (behind_head-bare fs all m h e)

exp-bare : (fs : Spans) (all : Items) (slot : Slot Span) (s : E.State Span) (at : Span) (t : Token) (q : Cue)
    → some (from_exp join fs all slot s at t q) ≡ from_exp no_join (bare_frames fs) (bare_stmts all) (bare_slot slot) (bare_state s) tt t q
exp-bare fs all slot s at t q =
    let w = in_exp (bare_frames fs) (bare_stmts all) (bare_slot slot) in
    let f = filled no_join (bare_frames fs) (bare_stmts all) (bare_slot slot) tt q in
    map-inner bare_list_state bare_state (in_exp fs all slot) w (option_and_then (filled join fs all slot at q) (E.whole join s)) (option_and_then f (bare_whole (bare_state s))) (E.step join s at t) (λ r. refl)
    (map-and_then bare_list_state bare (filled join fs all slot at q) f (E.whole join s) (filled-bare fs all slot at q) ∙ ap (option_and_then f) (exp_whole-bare s))
    ∙ ap (inner w (option_and_then f (bare_whole (bare_state s)))) (exp_step-bare s at t)

-- ---- statement expressions, and locals of a named type

type_read-bare : (s : E.State Span) → option_map bare_type (type_read s) ≡ type_read (bare_state s)
type_read-bare (E.have [] e) = sym (name_type-bare e)
type_read-bare (E.have (f ∷ fs) e) = refl
type_read-bare _ = refl

local_begun-bare : (fs : Spans) (all : Items) (w : Word Span) (t : TypeName Span) → some (begin_local fs all w t) ≡ begin_local (bare_frames fs) (bare_stmts all) (bare_word w) (bare_type t)
local_begun-bare fs all w t = declared-bare fs (named fs all (type_mark t) false t w)

evaluated-bare : (fs : Spans) (all : Items) (at : Span) (e : Exp Span) → bare_list_state (evaluated join fs all at e) ≡ evaluated no_join (bare_frames fs) (bare_stmts all) tt (bare e)
unfolding map_stmt
evaluated-bare fs all at e = refl

eval_ended-bare : (fs : Spans) (all : Items) (s : E.State Span) (at : Span) (q : Cue) → some (eval_ended join fs all s at q) ≡ eval_ended no_join (bare_frames fs) (bare_stmts all) (bare_state s) tt q
eval_ended-bare fs all s at a_semicolon =
    let v = evaluated no_join (bare_frames fs) (bare_stmts all) tt in
    map-map bare_list_state bare (evaluated join fs all at) v (E.statement_whole join s) (evaluated-bare fs all at) ∙ ap (option_map v) (eval_whole-bare s)
eval_ended-bare fs all s at (a_word w) =
    let v = begin_local (bare_frames fs) (bare_stmts all) (E.marked tt w) in
    map-and_then bare_list_state bare_type (begin_local fs all (E.marked at w)) v (type_read s) (local_begun-bare fs all (E.marked at w)) ∙ ap (option_and_then v) (type_read-bare s)
eval_ended-bare fs all s at _ = refl

eval-bare : (fs : Spans) (all : Items) (s : E.State Span) (at : Span) (t : Token) (q : Cue) → some (from_eval join fs all s at t q) ≡ from_eval no_join (bare_frames fs) (bare_stmts all) (bare_state s) tt t q
eval-bare fs all s at t q =
    let w = in_eval (bare_frames fs) (bare_stmts all) in
    let k = eval_ended no_join (bare_frames fs) (bare_stmts all) (bare_state s) tt q in
    map-inner bare_list_state bare_state (in_eval fs all) w (eval_ended join fs all s at q) k (E.statement_step join s at t) (λ r. refl) (eval_ended-bare fs all s at q) ∙ ap (inner w k) (eval_step-bare s at t)

local_named-bare : (fs : Spans) (all : Items) (m : Span) (f : Bool) (at : Span) (q : Cue) (t : TypeName Span) → some (local_named fs all m f at q t) ≡ local_named (bare_frames fs) (bare_stmts all) tt f tt q (bare_type t)
local_named-bare fs all m f at (a_word w) t = refl
local_named-bare fs all m f at _ t = refl

type-bare : (fs : Spans) (all : Items) (m : Span) (f : Bool) (s : T.State Span) (at : Span) (q : Cue) → some (from_type join fs all m f s at q) ≡ from_type no_join (bare_frames fs) (bare_stmts all) tt f (bare_type_state s) tt q
type-bare fs all m f s at q =
    let w = in_type (bare_frames fs) (bare_stmts all) tt f in
    let g = local_named (bare_frames fs) (bare_stmts all) tt f tt q in
    let k = option_and_then g (T.whole (bare_type_state s)) in
    map-inner bare_list_state bare_type_state (in_type fs all m f) w (option_and_then (local_named fs all m f at q) (T.whole s)) k (T.cue_step join s at q) (λ r. refl)
    (map-and_then bare_list_state bare_type (local_named fs all m f at q) g (T.whole s) (local_named-bare fs all m f at q) ∙ ap (option_and_then g) (type_whole-bare s))
    ∙ ap (inner w k) (type_step-bare s at q)

-- ---- the whole

cue-bare : (s : State Span) (at : Span) (t : Token) (q : Cue) → some (cue_step join s at t q) ≡ cue_step no_join (bare_list_state s) tt t q
unfolding map_stmts
cue-bare (ready fs all) at t q = ready-bare fs all at t q
cue-bare (done fs all s) at t q = done-bare fs all s at t q
cue-bare (headed fs all m h) at t q = map-open bare_list_state q (in_exp fs all (for_head m h) (E.want []))
cue-bare (returning fs all m) at t q = returning-bare fs all m at t q
cue-bare (in_exp fs all slot s) at t q = exp-bare fs all slot s at t q
cue-bare (in_eval fs all s) at t q = eval-bare fs all s at t q
cue-bare (locked fs all m e) at t q = map-open_brace bare_list_state q (ready (in_sync m e end ∷ fs) all)
cue-bare (in_type fs all m f s) at t q = type-bare fs all m f s at q
cue-bare (named fs all m f ty w) at t q = map-equals bare_list_state q (in_exp fs all (for_local m f ty w) (E.want []))

pub list_step-bare : (s : State Span) (at : Span) (t : Token) → option_map bare_list_state (step join s at t) ≡ step no_join (bare_list_state s) tt t
list_step-bare s at t = cue-bare s at t (cue_of t)

whole_in-bare : (fs : Spans) (all : Items) → option_map bare_stmts (whole_in fs all) ≡ whole_in (bare_frames fs) (bare_stmts all)
whole_in-bare [] all = refl
whole_in-bare (f ∷ fs) all = refl

pub list_whole-bare : (s : State Span) → option_map bare_stmts (whole join s) ≡ whole no_join (bare_list_state s)
list_whole-bare (ready fs all) = whole_in-bare fs all
list_whole-bare (done fs all s) = let p = ended join fs all s in whole_in-bare p.on p.all ∙ ap whole_at (ended-bare fs all s)
list_whole-bare (headed fs all m h) = refl
list_whole-bare (returning fs all m) = refl
list_whole-bare (in_exp fs all slot s) = refl
list_whole-bare (in_eval fs all s) = refl
list_whole-bare (locked fs all m e) = refl
list_whole-bare (in_type fs all m f s) = refl
list_whole-bare (named fs all m f t w) = refl
