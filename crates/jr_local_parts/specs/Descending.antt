-- The way down a path with what is known at each place on it: exact.
use Rattle.std.specs.Prelude.{◌≡◌, ℕ, suc, ◌+◌, ◌==◌, if◌then◌else◌}
use Rattle.jr_text.specs.declared.spans.Span.{Span}
use Rattle.jr_ast.specs.StatementTree as statement
use Rattle.jr_ast.specs.View.{stmt_of, stmts_of}
use Rattle.jr_pieces.specs.Standings.{Standing, behind}
use Rattle.jr_bodies.specs.Bodies.{begins}
use Rattle.jr_table.specs.Context.{Context, in_own, local_of, locals_in}
use Rattle.jr_new_bodies.specs.declared.here.Here as raw_here
use Rattle.jr_new_bodies.specs.Known.{context_of}
use Rattle.jr_new_bodies.specs.Moves.{Goes}
use Rattle.jr_local_parts.specs.declared.elements.Reached as raw
use Rattle.jr_local_parts.specs.declared.elements.Reached.TheVariants as variant
use Rattle.jr_local_parts.specs.declared.elements.ElementPlace.{ElementPlace}

-- in front of a list, whose elements have numbers from one on; at an element of a list; at another
-- statement; in no statement any more, with what is known there
pub data Place : Type 0 where
  in_list : Standing → (first : ℕ) → statement.Stmts Span → Place
  at_element : Standing → statement.Stmt Span → Place
  at_part : Standing → statement.Stmt Span → Place
  ended : Context → Place

abbrev pub standing : Context → (next base : ℕ) → Standing
standing c n base = record { next = n; context = c; base = base }

abbrev pub place_of : Context → raw.Reached → Place
place_of c (variant.List n base i b) = in_list (standing c n base) i (stmts_of b.now)
place_of c (variant.Element n base s) = at_element (standing c n base) (stmt_of s.now)
place_of c (variant.Part n base s) = at_part (standing c n base) (stmt_of s.now)
place_of c variant.Ended = ended c

-- the place has moved, and has come to this
pub record GoesTo (old new : raw_here.Here) (x : raw.Reached) (to : Place) : Type 0 where
  pub goes : Goes old new (context_of new)
  pub is : place_of (context_of new) x ≡ to

-- what is known in the initializer of the local that a statement declares, if it does (JLS 6.3)
abbrev pub entered : (next : ℕ) → Context → statement.Stmt Span → Context
entered n c (statement.local m is_final t w e) = in_own c (local_of c n is_final t w)
entered n c (statement.eval m e) = c
entered n c (statement.branch m e s o) = c
entered n c (statement.loop m e s) = c
entered n c (statement.return m e) = c
entered n c (statement.block m b) = c
entered n c (statement.sync m e b) = c
entered n c (statement.empty m) = c

-- to the element of the number k, where the first has the number i
unfoldable pub pick : Standing → (i k : ℕ) → statement.Stmts Span → Place
pick p i k statement.end = ended p.context
pick p i k (statement.more s ss) =
    if i == k then at_element p s else pick (behind begins s p) (suc i) k ss

-- ---- within a statement

abbrev pub past : statement.Stmt Span → Standing → Standing
past s p = record { next = p.next + locals_in s; context = p.context; base = p.base }

abbrev pub else_step : Standing → statement.Else Span → Place
else_step p statement.no_else = ended p.context
else_step p (statement.otherwise s) = at_part p s

-- behind `else` the locals of the other branch have their numbers
abbrev pub branch_step : Standing → statement.Stmt Span → statement.Else Span → (k : ℕ) → Place
branch_step p s o k =
    if k == 0 then ended p.context else (if k == 1 then at_part p s else else_step (past s p) o)

abbrev pub turning_step : Standing → statement.Stmt Span → (k : ℕ) → Place
turning_step p s k = if k == 0 then ended p.context else at_part p s

abbrev pub locked_step : Standing → statement.Stmts Span → (k : ℕ) → Place
locked_step p b k = if k == 0 then ended p.context else pick p 1 k b

-- from a statement, where the next local has the number, to the child of the number k
abbrev pub stmt_step : Context → (next : ℕ) → statement.Stmt Span → (k : ℕ) → Place
stmt_step c n (statement.local m is_final t w e) k = ended c
stmt_step c n (statement.eval m e) k = ended c
stmt_step c n (statement.branch m e s o) k = branch_step (standing c n m.from) s o k
stmt_step c n (statement.loop m e s) k = turning_step (standing c n m.from) s k
stmt_step c n (statement.return m e) k = ended c
stmt_step c n (statement.block m b) k = pick (standing c n m.from) 0 k b
stmt_step c n (statement.sync m e b) k = locked_step (standing c n m.from) b k
stmt_step c n (statement.empty m) k = ended c

abbrev pub step : Place → (k : ℕ) → Place
step (in_list p i b) k = pick p i k b
step (at_element p s) k = stmt_step p.context p.next s k
step (at_part p s) k = stmt_step p.context p.next s k
step (ended c) k = ended c

-- the element to which the last of so many steps has led, or the earlier one
abbrev pub element_or : Place → (step depth : ℕ) → ElementPlace → ElementPlace
element_or (in_list p i b) k d at = at
element_or (at_element p s) k d at =
    record { next = p.next; base = p.base; step = k; depth = d }
element_or (at_part p s) k d at = at
element_or (ended c) k d at = at
