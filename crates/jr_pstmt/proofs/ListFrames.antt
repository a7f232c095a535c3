-- A vector of what has been begun as a stack.
use Rattle.std.proofs.Common.{◌≡◌, ℕ, zero, suc, ◌+◌, ◌-◌, Bool, true, false, cond, ◌&&◌, List, [], ◌∷◌, ◌++◌, length, take, Option, Some, None, refl, sym, ap, ◌∙◌, zero-add, arith}
use Rattle.std.proofs.lemmas.Bool.{ne_eqb}
use Rattle.std.proofs.lemmas.List.Sums.{sum_by-append}
use Rattle.std.specs.Prelude.{◌==◌, not, is_some, MatchOption, option_to_list, slice_get}
use Rattle.std.specs.List.{count_by}
use Rattle.jr_text.specs.declared.spans.Span.{Span}
use Rattle.jr_ast.specs.declared.stmts.Stmt.{Stmt as RustStmt}
use Rattle.jr_ast.specs.StatementTree.{Stmt, Stmts, more, branch, loop, no_else, otherwise}
use Rattle.jr_ast.specs.Marks.{stmt_mark}
use Rattle.jr_ast.specs.View.{stmt_of, stmts_of}
use Rattle.jr_pexpr.specs.Marked.{join}
use Rattle.jr_pstmt.specs.declared.frames.Frame.{Frame}
use Rattle.jr_pstmt.specs.declared.frames.Branch.{Branch}
use Rattle.jr_pstmt.specs.declared.frames.Branch.TheVariants as branches
use Rattle.jr_pstmt.specs.Blocks.{is_list, has_no_list, holds, with_body}
use Rattle.jr_pstmt.specs.FrameView.{branch_view, frame_view, onto, frames_view}
use Rattle.jr_pstmt.specs.StatementMachine as machine
use Rattle.jr_pstmt.specs.StatementMachine.{in_block, in_sync, in_then, in_else, in_loop, with_stmt, ended, may_declare, whole_in, whole_at}

abbrev Below : Type 0
Below = List (machine.Frame Span)

onto-append : (fs : List Frame) (f : Frame) (below : Below) → onto (fs ++ f ∷ []) below ≡ frame_view f ∷ onto fs below
onto-append [] f below = refl
onto-append (g ∷ fs) f below = onto-append fs f (frame_view g ∷ below)

-- ---- pushing and popping

pub pushed : (fs gs : List Frame) (f : Frame) → gs ≡ fs ++ f ∷ [] → frames_view gs ≡ frame_view f ∷ frames_view fs
pushed fs gs f e = ap frames_view e ∙ onto-append fs f []

nothing : (fs : List Frame) → length fs ≡ 0 → frames_view fs ≡ []
nothing [] h = refl
nothing (f ∷ fs) h = absurd (omega arith)

pub popped : (old new : List Frame) (o : Option Frame) (m k : ℕ) → old ≡ new ++ option_to_list o → m ≡ length old → MatchOption o ((m ≡ 0) × (k ≡ 0)) (λ _. k + 1 ≡ m)
    → k ≡ length new → MatchOption o ((frames_view old ≡ []) × (frames_view new ≡ [])) (λ f. frames_view old ≡ frame_view f ∷ frames_view new)
popped old new None m k e len h len2 = (nothing old (omega (arith, h.0)), nothing new (omega (arith, h.1)))
popped old new (Some f) m k e len h len2 = pushed new old f e

-- ---- the innermost

one_more : (fs : List Frame) (n : ℕ) (f : Frame) → slice_get fs n ≡ Some f → frames_view (take (suc n) fs) ≡ frame_view f ∷ frames_view (take n fs)
one_more fs n f h = go fs n [] h
  where
    go : (fs : List Frame) (n : ℕ) (below : Below) → slice_get fs n ≡ Some f → onto (take (suc n) fs) below ≡ frame_view f ∷ onto (take n fs) below
    go [] n below h = absurd cc
    go (g ∷ fs) zero below h = let e : g ≡ f = cc in ap (λ (g : Frame). frame_view g ∷ below) e
    go (g ∷ fs) (suc n) below h = go fs n (frame_view g ∷ below) h

take_all : {A : Type 0} (xs : List A) (n : ℕ) → length xs ≡ n → take n xs ≡ xs
take_all [] zero h = refl
take_all [] (suc n) h = absurd (omega arith)
take_all (x ∷ xs) zero h = absurd (omega arith)
take_all (x ∷ xs) (suc n) h = ap (λ (ys : List _). x ∷ ys) (take_all xs n (omega arith))

pub innermost : (fs : List Frame) (f : Frame) → slice_get fs (length fs - 1) ≡ Some f → frames_view fs ≡ frame_view f ∷ frames_view (take (length fs - 1) fs)
innermost [] f h = absurd cc
innermost (g ∷ fs) f h =
    let n = length (g ∷ fs) - 1 in
    ap frames_view (sym (take_all (g ∷ fs) (suc n) (omega arith))) ∙ one_more (g ∷ fs) n f h

may_declare_on : (f : machine.Frame Span) (fs : Below) → is_list f ≡ may_declare (f ∷ fs)
may_declare_on (in_block m ss) fs = refl
may_declare_on (in_sync m e ss) fs = refl
may_declare_on (in_then m c) fs = refl
may_declare_on (in_else m c s) fs = refl
may_declare_on (in_loop m c) fs = refl

pub may_declare_in : (fs : List Frame) (f : Frame) → slice_get fs (length fs - 1) ≡ Some f → is_list (frame_view f) ≡ may_declare (frames_view fs)
may_declare_in fs f h = may_declare_on (frame_view f) (frames_view (take (length fs - 1) fs)) ∙ ap may_declare (sym (innermost fs f h))

-- ---- whether there are any, and any lists

not_nil : (fs : List Frame) (f : machine.Frame Span) (below : Below) (all : Stmts Span) → whole_in (onto fs (f ∷ below)) all ≡ None
not_nil [] f below all = refl
not_nil (g ∷ fs) f below all = not_nil fs (frame_view g) (f ∷ below) all

pub whole_is : (fs : List Frame) (n : ℕ) (all : Stmts Span) → n ≡ length fs → (n == 0) ≡ is_some (whole_in (frames_view fs) all)
whole_is [] n all h = ap (λ (n : ℕ). n == 0) h
whole_is (f ∷ fs) n all h = ne_eqb n 0 (λ e. absurd (omega (arith, e, h))) ∙ ap is_some (sym (not_nil fs (frame_view f) [] all))

pub some_whole : (fs : List Frame) (n : ℕ) (all : Stmts Span) → n ≡ length fs → (n == 0) ≡ true → Some all ≡ whole_in (frames_view fs) all
some_whole [] n all h e = refl
some_whole (f ∷ fs) n all h e = absurd (let k : (n == 0) ≡ false = ne_eqb n 0 (λ e. absurd (omega (arith, e, h))) in cc)

pub none_whole : (fs : List Frame) (n : ℕ) (all : Stmts Span) → n ≡ length fs → (n == 0) ≡ false → None ≡ whole_in (frames_view fs) all
none_whole [] n all h e = absurd (let k : (n == 0) ≡ true = ap (λ (n : ℕ). n == 0) h in cc)
none_whole (f ∷ fs) n all h e = sym (not_nil fs (frame_view f) [] all)

abbrev one : Frame → ℕ
one f = cond (holds f) 1 0

and-false : (a : Bool) → (a && false) ≡ false
and-false true = refl
and-false false = refl

and-true : (a : Bool) → (a && true) ≡ a
and-true true = refl
and-true false = refl

-- one more
counted_more : (f : Frame) (fs : List Frame) (b : Bool) → is_list (frame_view f) ≡ b → (count_by holds (f ∷ fs) == 0) ≡ ((count_by holds fs == 0) && not b)
counted_more f fs false e =
    let n : count_by holds (f ∷ fs) ≡ 0 + count_by holds fs = sum_by-append one (f ∷ []) fs ∙ ap (λ (b : Bool). (0 + cond b 1 0) + count_by holds fs) e in
    ap (λ (k : ℕ). k == 0) (n ∙ zero-add (count_by holds fs)) ∙ sym (and-true (count_by holds fs == 0))
counted_more f fs true e =
    let n : count_by holds (f ∷ fs) ≡ 1 + count_by holds fs = sum_by-append one (f ∷ []) fs ∙ ap (λ (b : Bool). (0 + cond b 1 0) + count_by holds fs) e in
    ne_eqb (count_by holds (f ∷ fs)) 0 (λ z. absurd (omega arith)) ∙ sym (and-false (count_by holds fs == 0))

and_swap : (a b c : Bool) → (a && (b && c)) ≡ ((a && b) && c)
and_swap true b c = refl
and_swap false b c = refl

no_list_onto : (fs : List Frame) (below : Below) → has_no_list (onto fs below) ≡ ((count_by holds fs == 0) && has_no_list below)
no_list_onto [] below = refl
no_list_onto (f ∷ fs) below =
    no_list_onto fs (frame_view f ∷ below)
    ∙ and_swap (count_by holds fs == 0) (not (is_list (frame_view f))) (has_no_list below)
    ∙ ap (λ (b : Bool). b && has_no_list below) (sym (counted_more f fs (is_list (frame_view f)) refl))

pub no_list_counted : (fs : List Frame) → (count_by holds fs == 0) ≡ has_no_list (frames_view fs)
no_list_counted fs = sym (no_list_onto fs [] ∙ and-true (count_by holds fs == 0))

-- a list is whole behind a statement exactly where no other is open
pub ended_whole : (fs : Below) (all : Stmts Span) (s : Stmt Span) → has_no_list fs ≡ is_some (whole_at (ended join fs all s))
ended_whole [] all s = refl
ended_whole (in_block m ss ∷ fs) all s = refl
ended_whole (in_sync m e ss ∷ fs) all s = refl
ended_whole (in_then m c ∷ fs) all s = ended_whole fs all (branch (join m (stmt_mark s)) c s no_else)
ended_whole (in_else m c first ∷ fs) all s = ended_whole fs all (branch (join m (stmt_mark s)) c first (otherwise s))
ended_whole (in_loop m c ∷ fs) all s = ended_whole fs all (loop (join m (stmt_mark s)) c s)

-- ---- statements as a list

pub stmts-append : (ss : List (RustStmt Span)) (s : RustStmt Span) → stmts_of (ss ++ s ∷ []) ≡ with_stmt (stmts_of ss) (stmt_of s)
stmts-append [] s = refl
stmts-append (d ∷ ss) s = ap (more (stmt_of d)) (stmts-append ss s)

-- ---- what has been begun ends

pub ended_on : (b : Branch) (fs : Below) (all : Stmts Span) (s : Stmt Span) → ended join (branch_view b ∷ fs) all s ≡ ended join fs all (with_body join (branch_view b) s)
ended_on (branches.Then m c) fs all s = refl
ended_on (branches.Else m c first) fs all s = refl
ended_on (branches.Loop m c) fs all s = refl
