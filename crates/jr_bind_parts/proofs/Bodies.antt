-- A list of statements, walked one by one.
use Rattle.std.proofs.Common.{◌≡◌, ℕ, zero, suc, ◌+◌, ◌*◌, ◌<◌, ◌≤◌, List, [], ◌∷◌, ◌++◌, length, get_or, drop, take, map, Option, Bool, true, false, refl, ap, sym, subst, ◌∙◌, arith, length-append, inl, inr}
use Rattle.std.proofs.lemmas.List.{drop_all, drop_more, take_all, take-append-le, take-map, length-map}
use Rattle.std.specs.Prelude.{option_map, ◌&&◌, ◌⊎◌, ◌↔◌}
use Rattle.jr_ast.specs.StatementTree as statement
use Rattle.jr_ast.specs.declared.stmts.Stmt.{Stmt}
use Rattle.jr_ast.specs.View.{stmt_of, stmts_of}
use Rattle.jr_ast.specs.Marks.{stmt_mark}
use Rattle.jr_ast.proofs.Rows.{stmt_mark_is}
use Rattle.jr_ast.proofs.Sizes.{stmt_size, stmts_size, else_size}
use Rattle.jr_table.specs.Decls.{MemberKey}
use Rattle.jr_table.specs.Rows.{Row}
use Rattle.jr_table.specs.Context.{Local, Context, after, locals_in, locals_in_else, locals_in_row}
use Rattle.jr_table.specs.Notes.{Note, Has, breaks, unless, completes, else_completes, list_completes}
use Rattle.jr_table.specs.Notes as notes
use Rattle.jr_table.specs.Walks.{stmt_notes, else_notes, stmts_notes, body_notes}
use Rattle.jr_table.specs.declared.rules.Rule.TheVariants as rule
use Rattle.jr_table.proofs.Breaking.{has_append}
use Rattle.jr_bind_parts.specs.declared.completing.Behind.{Behind}
use Rattle.jr_bind_expr.specs.declared.places.Place.{Place}
use Rattle.jr_scopes.specs.declared.locals.Locals.{Locals}
use Rattle.jr_bind_expr.specs.declared.findings.Note as raw
use Rattle.jr_scopes.specs.Helds.{Held, held_of, key_of, local_of}
use Rattle.jr_scopes.specs.Tracked.{Tracked, locals_of}
use Rattle.jr_bind_expr.specs.Places.{member_of, context_of, AreTyped, Knows}
use Rattle.jr_bind_expr.specs.Fits.{FitsStmt, FitsElse, FitsStmts}
use Rattle.jr_bind_expr.specs.Logs.{Adds}
use Rattle.jr_bind_expr.specs.Logs as logs
use Rattle.jr_bind_parts.specs.Flow.{reached, ItemPasses, BodyPasses}

pub falls_first : (whole n size shown t : ℕ) → shown ≡ size → whole ≡ suc (size + n) → 4 * whole ≡ t → 4 * shown + 1 < t
falls_first whole n size shown t e w h = omega arith

pub falls_second : (whole n size shown t : ℕ) → shown ≡ size → whole ≡ suc (n + size) → 4 * whole ≡ t → 4 * shown + 2 < t
falls_second whole n size shown t e w h = omega arith

pub falls_only : (whole size shown t : ℕ) → shown ≡ size → whole ≡ suc size → 4 * whole ≡ t → 4 * shown + 1 < t
falls_only whole size shown t e w h = omega arith

pub falls_list : (whole size shown t : ℕ) → shown ≡ size → whole ≡ suc size → 4 * whole ≡ t → 4 * shown + 2 < t
falls_list whole size shown t e w h = omega arith

pub falls_held : (n n' t : ℕ) → n ≡ n' → 4 * n' + 2 ≡ t → 4 * n + 1 < t
falls_held n n' t e h = omega arith

module _ {A : Type 0} where
  left_is : (xs : List (Stmt A)) (i : ℕ) (x : Stmt A) → i < length xs → x ≡ get_or xs i x → stmts_of (drop i xs) ≡ statement.more (stmt_of x) (stmts_of (drop (i + 1) xs))
  left_is xs i x lt is = ap stmts_of (drop_more xs i x lt) ∙ ap (λ (y : Stmt A). statement.more (stmt_of y) (stmts_of (drop (i + 1) xs))) (sym is)

  size_within : (row : List (Stmt A)) (i : ℕ) (x : Stmt A) → i < length row → x ≡ get_or row i x → stmt_size (stmt_of x) ≤ stmts_size (stmts_of row)
  unfolding stmt_size stmts_size else_size
  size_within [] i x lt e = absurd (omega arith)
  size_within (y ∷ ys) zero x lt e = let s = ap (λ (z : Stmt A). stmt_size (stmt_of z)) e in omega arith
  size_within (y ∷ ys) (suc i) x lt e = let h = size_within ys i x (omega arith) e in omega arith

  pub falls_item : (row : List (Stmt A)) (i : ℕ) (x : Stmt A) (t : ℕ) → i < length row → x ≡ get_or row i x → 4 * stmts_size (stmts_of row) + 2 ≡ t → 4 * stmt_size (stmt_of x) + 1 < t
  falls_item row i x t lt e h = let s = size_within row i x lt e in omega arith

module _ {A : Type 0} (B : A → ℕ → ℕ) (F : A → ℕ → Type 0) where
  pub mark_fits : (base : ℕ) (x : statement.Stmt A) → FitsStmt B F base x → F (stmt_mark x) base
  unfolding FitsStmt
  mark_fits base (statement.local m f t w e) h = h.0
  mark_fits base (statement.eval m e) h = h.0
  mark_fits base (statement.branch m e x other) h = h.0
  mark_fits base (statement.loop m e x) h = h.0
  mark_fits base (statement.return m value) h = h.0
  mark_fits base (statement.block m body) h = h.0
  mark_fits base (statement.sync m e body) h = h.0
  mark_fits base (statement.empty m) h = h

  pub own_fits_stmt : (base : ℕ) (x : Stmt A) → FitsStmt B F base (stmt_of x) → F x.mark base
  own_fits_stmt base x h = subst (λ (m : A). F m base) (stmt_mark_is x) (mark_fits base (stmt_of x) h)

  pub shown_fits_stmt : (a a' : ℕ) (x y : Stmt A) → a ≡ a' → x ≡ y → FitsStmt B F a' (stmt_of y) → FitsStmt B F a (stmt_of x)
  shown_fits_stmt a a' x y e d h = subst (λ (n : ℕ). FitsStmt B F n (stmt_of x)) (sym e) (subst (λ (z : Stmt A). FitsStmt B F a' (stmt_of z)) (sym d) h)

  pub shown_fits_body : (a a' : ℕ) (x y : List (Stmt A)) → a ≡ a' → x ≡ y → FitsStmts B F a' (stmts_of y) → FitsStmts B F a (stmts_of x)
  shown_fits_body a a' x y e d h = subst (λ (n : ℕ). FitsStmts B F n (stmts_of x)) (sym e) (subst (λ (z : List (Stmt A)). FitsStmts B F a' (stmts_of z)) (sym d) h)

  pub left_fits_stmt : (at : ℕ) (xs : List (Stmt A)) (i : ℕ) (x : Stmt A) → i < length xs → x ≡ get_or xs i x → FitsStmts B F at (stmts_of (drop i xs)) → FitsStmt B F at (stmt_of x) × FitsStmts B F at (stmts_of (drop (i + 1) xs))
  unfolding FitsStmt FitsElse FitsStmts
  left_fits_stmt at xs i x lt is h = subst (λ (z : statement.Stmts A). FitsStmts B F at z) (left_is xs i x lt is) h

-- what is left of a log's notes

pub record Left (old more now rest : List Note) : Type 0 where
  pub each : (n : Note) → (Has old n ⊎ Has more n) ↔ (Has now n ⊎ Has rest n)

pub left_start : (old more : List Note) → Left old more old more
left_start old more = record { each = λ n. (λ h. h, λ h. h) }

module _ (old more now next u us s ss : List Note) (l : Left old more now ((u ++ us) ++ (s ++ ss))) (adds : Adds now (u ++ s) next) (n : Note) where
  step_right : Has ((u ++ us) ++ (s ++ ss)) n → Has next n ⊎ Has (us ++ ss) n
  step_right h = by ((has_append (u ++ us) (s ++ ss) n).0 h)
    where
      first : (Has u n ⊎ Has us n) → Has next n ⊎ Has (us ++ ss) n
      first (inl g) = inl ((adds.each n).1 (inr ((has_append u s n).1 (inl g))))
      first (inr g) = inr ((has_append us ss n).1 (inl g))

      second : (Has s n ⊎ Has ss n) → Has next n ⊎ Has (us ++ ss) n
      second (inl g) = inl ((adds.each n).1 (inr ((has_append u s n).1 (inr g))))
      second (inr g) = inr ((has_append us ss n).1 (inr g))

      by : (Has (u ++ us) n ⊎ Has (s ++ ss) n) → Has next n ⊎ Has (us ++ ss) n
      by (inl g) = first ((has_append u us n).0 g)
      by (inr g) = second ((has_append s ss n).0 g)

  step_to : (Has now n ⊎ Has ((u ++ us) ++ (s ++ ss)) n) → Has next n ⊎ Has (us ++ ss) n
  step_to (inl h) = inl ((adds.each n).1 (inl h))
  step_to (inr h) = step_right h

  step_both : (Has (u ++ us) n ⊎ Has (s ++ ss) n) → Has now n ⊎ Has ((u ++ us) ++ (s ++ ss)) n
  step_both h = inr ((has_append (u ++ us) (s ++ ss) n).1 h)

  step_back : (Has next n ⊎ Has (us ++ ss) n) → Has now n ⊎ Has ((u ++ us) ++ (s ++ ss)) n
  step_back (inl h) = by ((adds.each n).0 h)
    where
      one : (Has u n ⊎ Has s n) → Has now n ⊎ Has ((u ++ us) ++ (s ++ ss)) n
      one (inl g) = step_both (inl ((has_append u us n).1 (inl g)))
      one (inr g) = step_both (inr ((has_append s ss n).1 (inl g)))

      by : (Has now n ⊎ Has (u ++ s) n) → Has now n ⊎ Has ((u ++ us) ++ (s ++ ss)) n
      by (inl g) = inl g
      by (inr g) = one ((has_append u s n).0 g)
  step_back (inr h) = by ((has_append us ss n).0 h)
    where
      by : (Has us n ⊎ Has ss n) → Has now n ⊎ Has ((u ++ us) ++ (s ++ ss)) n
      by (inl g) = step_both (inl ((has_append u us n).1 (inr g)))
      by (inr g) = step_both (inr ((has_append s ss n).1 (inr g)))

pub left_step : (old more now next u us s ss : List Note) → Left old more now ((u ++ us) ++ (s ++ ss)) → Adds now (u ++ s) next → Left old more next (us ++ ss)
left_step old more now next u us s ss l adds = record { each = λ n. (λ h. step_to old more now next u us s ss l adds n ((l.each n).0 h), λ h. (l.each n).1 (step_back old more now next u us s ss l adds n h)) }

pub left_end : (old more now : List Note) → Left old more now [] → Adds old more now
left_end old more now l = record { each = λ n. (λ h. (l.each n).1 (inl h), λ h. none n ((l.each n).0 h)) }
  where
    none : (n : Note) → (Has now n ⊎ ⊥) → Has now n
    none n (inl h) = h
    none n (inr h) = absurd h

-- contexts

-- what is known in a list has what is known before it, and more locals
pub record Inside (c d : Context) : Type 0 where
  pub member_is : d.member ≡ c.member
  pub static_is : d.is_static ≡ c.is_static
  pub front : take (length c.locals) d.locals ≡ c.locals
  pub longer : length c.locals ≤ length d.locals

take_front : (xs ys : List Local) (n : ℕ) → n ≤ length xs → take n (xs ++ ys) ≡ take n xs
take_front xs ys n h = grind (arith, take-append-le)

take_whole : (xs : List Local) → take (length xs) xs ≡ xs
take_whole xs = grind (arith, take_all)

pub inside_same : (c : Context) → Inside c c
inside_same c = record { member_is = refl; static_is = refl; front = take_whole c.locals; longer = omega arith }

-- a statement declares behind what was there
pub inside_after : {A : Type 0} (number : ℕ) (c d : Context) (x : statement.Stmt A) → Inside c d → Inside c (after number d x)
inside_after number c d (statement.local m f t w e) h = record {
  member_is = h.member_is;
  static_is = h.static_is;
  front = take_front d.locals _ (length c.locals) h.longer ∙ h.front;
  longer = let more = length-append d.locals in let n = h.longer in omega (arith, length-append d.locals, n);
}
inside_after number c d (statement.eval m e) h = h
inside_after number c d (statement.branch m e x other) h = h
inside_after number c d (statement.loop m e x) h = h
inside_after number c d (statement.return m value) h = h
inside_after number c d (statement.block m body) h = h
inside_after number c d (statement.sync m e body) h = h
inside_after number c d (statement.empty m) h = h

-- the place behind a list, its locals cut back
abbrev pub cut_back : Place → Locals → Option ℕ → Place
cut_back q v own = record { member = q.member; row = q.row; class = q.class; is_static = q.is_static; locals = v; own = own }

pub inside_member : (p q : Place) → Inside (context_of p) (context_of q) → member_of q ≡ member_of p
unfolding context_of
inside_member p q h = h.member_is

pub cut_context : (p q : Place) (v : Locals) → Inside (context_of p) (context_of q) → locals_of v ≡ take (length (locals_of p.locals)) (locals_of q.locals) → context_of (cut_back q v p.own) ≡ context_of p
unfolding context_of
cut_context p q v h is =
    let k = member_of q in
    let long : length (map (local_of (member_of p)) (map held_of (locals_of p.locals))) ≡ length (locals_of p.locals) = length-map (map held_of (locals_of p.locals)) (local_of (member_of p)) ∙ length-map (locals_of p.locals) held_of in
    let cut : map (local_of k) (map held_of (locals_of v)) ≡ map (local_of (member_of p)) (map held_of (locals_of p.locals)) =
    ap (λ xs. map (local_of k) (map held_of xs)) is
    ∙ ap (map (local_of k)) (sym (take-map held_of (length (locals_of p.locals)) (locals_of q.locals)))
    ∙ sym (take-map (local_of k) (length (locals_of p.locals)) (map held_of (locals_of q.locals)))
    ∙ ap (λ n. take n (map (local_of k) (map held_of (locals_of q.locals)))) (sym long)
    ∙ h.front in
    λ i. record { member = h.member_is i; is_static = h.static_is i; locals = cut i; own = option_map (key_of (h.member_is i)) p.own }

typed_take : (rows : List Row) (k : MemberKey) (n : ℕ) (hs : List Held) → AreTyped rows k hs → AreTyped rows k (take n hs)
typed_take rows k zero hs h = tt
typed_take rows k (suc n) [] h = tt
typed_take rows k (suc n) (x ∷ hs) h = (h.0, typed_take rows k n hs h.1)

pub cut_knows : (rows : List Row) (q : Place) (v : Locals) (n : ℕ) (own : Option ℕ) → locals_of v ≡ take n (locals_of q.locals) → Tracked v → Knows rows q → Knows rows (cut_back q v own)
cut_knows rows q v n own is tracked h = record {
  row = h.row;
  class = h.class;
  typed = subst (λ hs. AreTyped rows (member_of q) hs) (take-map held_of n (locals_of q.locals) ∙ ap (map held_of) (sym is)) (typed_take rows (member_of q) n (map held_of (locals_of q.locals)) h.typed);
  tracked = tracked;
}

-- the walk over a list

regroup_tests : (a b c : Bool) → ((a && b) && c) ≡ (a && (b && c))
regroup_tests true b c = refl
regroup_tests false b c = refl

and_true : (b : Bool) → (b && true) ≡ b
and_true true = refl
and_true false = refl

step_count : (b b' n x rest : ℕ) → b' ≡ b + x → b + (x + rest) ≡ n → b' + rest ≡ n
step_count b b' n x rest h k = omega (arith, h, k)

module _ {A : Type 0} (B : A → ℕ → ℕ) (rows : List Row) (number : ℕ) (p : Place) (at : ℕ) (whole : statement.Stmts A) (first : List raw.Note) where
  abbrev N : List raw.Note → List Note
  N log = logs.notes_of rows (member_of p) log

  abbrev pub rest_notes : Behind → Context → statement.Stmts A → List Note
  rest_notes b c xs = notes.unreached B at b.completes xs ++ stmts_notes B rows b.number c at xs

  -- what holds where the rest of the list is still to be walked
  pub record Going (b : Behind) (q : Place) (log : List raw.Note) (rest : statement.Stmts A) : Type 0 where
    pub knows : Knows rows q
    pub inside : Inside (context_of p) (context_of q)
    pub count : b.number + locals_in_row rest ≡ number + locals_in_row whole
    pub reach : (b.completes && list_completes rest) ≡ list_completes whole
    pub noted : Left (N first) (body_notes B rows number (context_of p) at whole) (N log) (rest_notes b (context_of q) rest)

  pub going_start : Knows rows p → Going (reached number) p first whole
  going_start knows = record {
    knows = knows;
    inside = inside_same (context_of p);
    count = refl;
    reach = refl;
    noted = left_start (N first) (body_notes B rows number (context_of p) at whole);
  }

  pub going_step : (b b' : Behind) (q q' : Place) (log next : List raw.Note) (x : statement.Stmt A) (rest : statement.Stmts A)
      → Going b q log (statement.more x rest) → ItemPasses B rows b.number q at b.completes x log b' q' next → Going b' q' next rest
  unfolding locals_in locals_in_else locals_in_row completes else_completes list_completes stmt_notes else_notes stmts_notes
  going_step b b' q q' log next x rest g h =
      let same = inside_member p q g.inside in
      let more = unless b.completes (breaks (B (stmt_mark x) at) rule.Unreachable) ++ stmt_notes B rows b.number (context_of q) at x in
      let adds : Adds (N log) more (N next) = subst (λ (j : MemberKey). Adds (logs.notes_of rows j log) more (logs.notes_of rows j next)) same h.notes in
      record {
        knows = h.knows;
        inside = subst (λ (d : Context). Inside (context_of p) d) (sym h.context) (inside_after b.number (context_of p) (context_of q) x g.inside);
        count = step_count b.number b'.number (number + locals_in_row whole) (locals_in x) (locals_in_row rest) h.number_is g.count;
        reach = ap (λ t. t && list_completes rest) h.completes_is ∙ regroup_tests b.completes (completes x) (list_completes rest) ∙ g.reach;
        noted = subst (λ (ns : List Note). Left (N first) (body_notes B rows number (context_of p) at whole) (N next) ns)
            (λ i. notes.unreached B at (sym h.completes_is i) rest ++ stmts_notes B rows (sym h.number_is i) (sym h.context i) at rest)
            (left_step (N first) (body_notes B rows number (context_of p) at whole) (N log) (N next)
            (unless b.completes (breaks (B (stmt_mark x) at) rule.Unreachable)) (notes.unreached B at (b.completes && completes x) rest)
            (stmt_notes B rows b.number (context_of q) at x) (stmts_notes B rows (b.number + locals_in x) (after b.number (context_of q) x) at rest)
            g.noted adds);
      }

  pub going_end : (b : Behind) (q : Place) (log : List raw.Note) → Going b q log statement.end
      → (v : Locals) → locals_of v ≡ take (length (locals_of p.locals)) (locals_of q.locals) → Tracked v
      → BodyPasses B rows number p at whole first b (cut_back q v p.own) log
  unfolding locals_in locals_in_else locals_in_row completes else_completes list_completes stmt_notes else_notes stmts_notes
  going_end b q log g v is tracked =
      let n = g.count in
      record {
        number_is = omega (arith, n);
        completes_is = sym (and_true b.completes) ∙ g.reach;
        context = cut_context p q v g.inside is;
        knows = cut_knows rows q v (length (locals_of p.locals)) p.own is tracked g.knows;
        notes = left_end (N first) (body_notes B rows number (context_of p) at whole) (N log) g.noted;
      }

module _ {A : Type 0} (B : A → ℕ → ℕ) (rows : List Row) (number : ℕ) (p : Place) (at : ℕ) (body : List (Stmt A)) (first : List raw.Note) where
  pub item_goes : (i : ℕ) (x : Stmt A) → i < length body → x ≡ get_or body i x → (b b' : Behind) (q q' : Place) (log next : List raw.Note)
      → Going B rows number p at (stmts_of body) first b q log (stmts_of (drop i body))
      → ItemPasses B rows b.number q at b.completes (stmt_of x) log b' q' next
      → Going B rows number p at (stmts_of body) first b' q' next (stmts_of (drop (i + 1) body))
  item_goes i x lt is b b' q q' log next g h = going_step B rows number p at (stmts_of body) first b b' q q' log next (stmt_of x) (stmts_of (drop (i + 1) body))
      (subst (λ (z : statement.Stmts A). Going B rows number p at (stmts_of body) first b q log z) (left_is body i x lt is) g) h

  pub list_ends : (i : ℕ) → length body ≤ i → (b : Behind) (q : Place) (log : List raw.Note)
      → Going B rows number p at (stmts_of body) first b q log (stmts_of (drop i body))
      → (v : Locals) → locals_of v ≡ take (length (locals_of p.locals)) (locals_of q.locals) → Tracked v
      → BodyPasses B rows number p at (stmts_of body) first b (cut_back q v p.own) log
  list_ends i past b q log g v is tracked = going_end B rows number p at (stmts_of body) first b q log
      (subst (λ (z : List (Stmt A)). Going B rows number p at (stmts_of body) first b q log (stmts_of z)) (drop_all i body past) g) v is tracked
