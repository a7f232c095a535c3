-- The way down a path leads to the nearest element of each expression to which the path leads.
use Rattle.std.proofs.Common.{◌≡◌, ℕ, suc, ◌+◌, ◌<◌, ◌≤◌, ◌==◌, List, [], ◌∷◌, ◌++◌, length, get_or, drop, take, if◌then◌else◌, refl, ap, sym, subst, ◌∙◌, arith, add-one}
use Rattle.std.proofs.lemmas.List.{drop_all, length-take-le, take-append-drop}
use Rattle.jr_text.specs.declared.spans.Span.{Span}
use Rattle.jr_ast.specs.declared.stmts.Stmt.{Stmt}
use Rattle.jr_ast.specs.Tree as tree
use Rattle.jr_ast.specs.StatementTree as statement
use Rattle.jr_ast.specs.View.{stmt_of, stmts_of}
use Rattle.jr_table.specs.Context.{Context}
use Rattle.jr_pieces.specs.Ways.{StmtWay, in_init, in_eval, in_condition, in_then, in_else, in_turning, in_body, in_returned, in_block, in_lock, in_locked, ListWay, first, later}
use Rattle.jr_pieces.specs.Standings.{Standing, inside, behind}
use Rattle.jr_pieces.specs.Nearest.{Element, or_element, element_within, nearest}
use Rattle.jr_pieces.specs.Finding.{exp_path, stmt_path, list_path}
use Rattle.jr_bodies.specs.Bodies.{begins}
use Rattle.jr_bodies.specs.CodeView.{code_of}
use Rattle.jr_local_search.proofs.Descents.{same, apart, if_true, if_false, left_read}
use Rattle.jr_local_moves.proofs.Referring.{left_is}
use Rattle.jr_new_bodies.specs.declared.here.Here as raw_here
use Rattle.jr_new_bodies.specs.Known.{context_of}
use Rattle.jr_new_bodies.specs.Moves.{Goes}
use Rattle.jr_local_parts.specs.declared.bodies.WalkedBody as raw_body
use Rattle.jr_local_parts.specs.declared.elements.Reached as raw
use Rattle.jr_local_parts.specs.declared.elements.Reached.TheVariants as variant
use Rattle.jr_local_parts.specs.declared.elements.ElementPlace.{ElementPlace}
use Rattle.jr_local_parts.specs.Descending.{Place, in_list, at_element, at_part, ended, standing, place_of, pick, past, else_step, stmt_step, step, element_or}
use Rattle.jr_local_parts.specs.ElementPlaces.{IsElementPlace}
use Rattle.jr_local_parts.proofs.Goings.{goes_so}

heads : (k i : ℕ) (ks is : List ℕ) → k ∷ ks ≡ i ∷ is → k ≡ i
heads k i ks is e = cc

tails : (k i : ℕ) (ks is : List ℕ) → k ∷ ks ≡ i ∷ is → ks ≡ is
tails k i ks is e = cc

gone : (i : ℕ) (is : List ℕ) → [] ≡ i ∷ is → ⊥
gone i is e = cc

-- ---- the loop over elements

module _ (xs : List (Stmt Span)) (i : ℕ) (p : Standing) (n k : ℕ) where
  pick_step : (s : Stmt Span) → i < length xs → s ≡ get_or xs i s
      → pick p n k (stmts_of (drop i xs)) ≡ (if n == k then at_element p (stmt_of s) else pick (behind begins (stmt_of s) p) (suc n) k (stmts_of (drop (i + 1) xs)))
  unfolding pick
  pick_step s lt is = ap (λ z. pick p n k (stmts_of z)) (left_is xs i s lt is)

  pub pick_here : (s : Stmt Span) → i < length xs → s ≡ get_or xs i s → n ≡ k → pick p n k (stmts_of (drop i xs)) ≡ at_element p (stmt_of s)
  pick_here s lt is e = pick_step s lt is ∙ if_true (n == k) (at_element p (stmt_of s)) (pick (behind begins (stmt_of s) p) (suc n) k (stmts_of (drop (i + 1) xs))) (same n k e)

  pub pick_goes : (s : Stmt Span) → i < length xs → s ≡ get_or xs i s → (n ≡ k → ⊥) → pick p n k (stmts_of (drop i xs)) ≡ pick (behind begins (stmt_of s) p) (suc n) k (stmts_of (drop (i + 1) xs))
  pick_goes s lt is e = pick_step s lt is ∙ if_false (n == k) (at_element p (stmt_of s)) (pick (behind begins (stmt_of s) p) (suc n) k (stmts_of (drop (i + 1) xs))) (apart n k e)

  pub pick_ends : length xs ≤ i → pick p n k (stmts_of (drop i xs)) ≡ ended p.context
  unfolding pick
  pick_ends over = ap (λ z. pick p n k (stmts_of z)) (drop_all i xs over)

-- ---- the way down

-- what is known at a place
abbrev pub context_in : Place → Context
context_in (in_list p i b) = p.context
context_in (at_element p s) = p.context
context_in (at_part p s) = p.context
context_in (ended c) = c

context_is : (c : Context) (x : raw.Reached) → context_in (place_of c x) ≡ c
context_is c (variant.List n base i b) = refl
context_is c (variant.Element n base s) = refl
context_is c (variant.Part n base s) = refl
context_is c variant.Ended = refl

least : {f : tree.Exp Span} (b : statement.Stmts Span) (i k : ℕ) (rest : List ℕ) (way : ListWay f b) → k ∷ rest ≡ list_path i way → i ≤ k
least b i k rest (first s ss d) e = let h = heads k i rest (stmt_path d) e in omega (arith, h)
least b i k rest (later s ss d) e = let h = least ss (suc i) k rest d e in omega (arith, h)

no_list : {f : tree.Exp Span} (b : statement.Stmts Span) (i : ℕ) (way : ListWay f b) → [] ≡ list_path i way → ⊥
no_list b i (first s ss d) e = gone i (stmt_path d) e
no_list b i (later s ss d) e = no_list ss (suc i) d e

no_stmt : {f : tree.Exp Span} (s : statement.Stmt Span) (way : StmtWay f s) → [] ≡ stmt_path way → ⊥
no_stmt s (in_init m is_final t w e d) h = gone 2 (exp_path d) h
no_stmt s (in_eval m e d) h = gone 0 (exp_path d) h
no_stmt s (in_condition m c y o d) h = gone 0 (exp_path d) h
no_stmt s (in_then m c y o d) h = gone 1 (stmt_path d) h
no_stmt s (in_else m c y o d) h = gone 2 (stmt_path d) h
no_stmt s (in_turning m c y d) h = gone 0 (exp_path d) h
no_stmt s (in_body m c y d) h = gone 1 (stmt_path d) h
no_stmt s (in_returned m e d) h = gone 0 (exp_path d) h
no_stmt s (in_block m b d) h = no_list b 0 d h
no_stmt s (in_lock m e b d) h = gone 0 (exp_path d) h
no_stmt s (in_locked m e b d) h = no_list b 1 d h

module _ {f : tree.Exp Span} (path : List ℕ) where
  -- It is the element, and the steps in front lead to the node around its list.
  pub record IsElement (el : Element f) (at : ElementPlace) : Type 0 where
    pub next : el.at.next ≡ at.next
    pub base : el.at.base ≡ at.base
    pub front : List ℕ
    pub path_is : path ≡ front ++ at.step ∷ stmt_path el.way
    pub depth : suc (length front) ≡ at.depth

  pub record IsThere (c : Context) (el : Element f) (at : ElementPlace) : Type 0 where
    pub context : el.at.context ≡ c
    pub element : IsElement el at

  -- in front of a list
  pub record InList (p : Standing) (i : ℕ) (b : statement.Stmts Span) (rest : List ℕ) (el : Element f) : Type 0 where
    pub way : ListWay f b
    pub leads : rest ≡ list_path i way
    pub is : el ≡ nearest begins p way

  -- at a statement, within this element if no list is met within
  pub record InStmt (p : Standing) (s : statement.Stmt Span) (rest : List ℕ) (el : Element f) (at : ElementPlace) : Type 0 where
    pub way : StmtWay f s
    pub leads : rest ≡ stmt_path way
    pub own : Element f
    pub there : IsThere p.context own at
    pub is : el ≡ or_element (element_within begins p way) own

  abbrev pub Holds : Place → (rest : List ℕ) → Element f → ElementPlace → Type 0
  Holds (in_list p i b) rest el at = InList p i b rest el
  Holds (at_element p s) rest el at = InStmt p s rest el at
  Holds (at_part p s) rest el at = InStmt p s rest el at
  Holds (ended c) rest el at = IsThere c el at

  own_there : (c : Context) (el own : Element f) (at : ElementPlace) → el ≡ own → IsThere c own at → IsThere c el at
  own_there c el own at is h = subst (λ (x : Element f). IsThere c x at) (sym is) h

  module _ (k d : ℕ) (rest done : List ℕ) (path_is : path ≡ done ++ k ∷ rest) (deep : suc (length done) ≡ d) (el : Element f) (at : ElementPlace) where
    abbrev Arrives : Place → Type 0
    Arrives q = Holds q rest el (element_or q k d at)

    picks : (b : statement.Stmts Span) (p : Standing) (i : ℕ) (way : ListWay f b) → k ∷ rest ≡ list_path i way → el ≡ nearest begins p way → Arrives (pick p i k b)
    unfolding pick
    picks b p i (first s ss w) e is =
        let t : rest ≡ stmt_path w = tails k i rest (stmt_path w) e in
        let here : Element f = record { at = p; stmt = s; rest = ss; way = w } in
        let elsewhere = pick (behind begins s p) (suc i) k ss in
        subst (λ (q : Place). Arrives q) (sym (if_true (i == k) (at_element p s) elsewhere (same i k (sym (heads k i rest (stmt_path w) e))))) (record {
          way = w;
          leads = t;
          own = here;
          there = record {
            context = refl;
            element = record { next = refl; base = refl; front = done; path_is = path_is ∙ ap (λ (r : List ℕ). done ++ k ∷ r) t; depth = deep };
          };
          is = is;
        })
    picks b p i (later s ss w) e is =
        let h = least ss (suc i) k rest w e in
        let elsewhere = pick (behind begins s p) (suc i) k ss in
        subst (λ (q : Place). Arrives q) (sym (if_false (i == k) (at_element p s) elsewhere (apart i k (λ j. omega (arith, j, h))))) (picks ss (behind begins s p) (suc i) w e is)

    module _ (c : Context) where
      zero_ends : (q : Place) → k ≡ 0 → IsThere c el at → Arrives (if k == 0 then ended c else q)
      zero_ends q e h = subst (λ (r : Place). Arrives r) (sym (if_true (k == 0) (ended c) q (same k 0 e))) h

      goes_past : (j : ℕ) (q : Place) → k ≡ suc j → Arrives q → Arrives (if k == 0 then ended c else q)
      goes_past j q e h = subst (λ (r : Place). Arrives r) (sym (if_false (k == 0) (ended c) q (apart k 0 (λ i. omega (arith, i, e))))) h

    stmt_steps : (p : Standing) (s : statement.Stmt Span) → InStmt p s (k ∷ rest) el at → Arrives (stmt_step p.context p.next s k)
    stmt_steps p s h = by s h.way h.leads h.is
      where
        by : (s : statement.Stmt Span) (w : StmtWay f s) → k ∷ rest ≡ stmt_path w → el ≡ or_element (element_within begins p w) h.own → Arrives (stmt_step p.context p.next s k)
        by s (in_init m is_final t w e v) leads is = own_there p.context el h.own at is h.there
        by s (in_eval m e v) leads is = own_there p.context el h.own at is h.there
        by s (in_condition m e y o v) leads is =
            let q = inside begins m p in
            zero_ends p.context (if k == 1 then at_part q y else else_step (past y q) o) (heads k 0 rest (exp_path v) leads) (own_there p.context el h.own at is h.there)
        by s (in_then m e y o v) leads is =
            let q = inside begins m p in
            let one = heads k 1 rest (stmt_path v) leads in
            goes_past p.context 0 (if k == 1 then at_part q y else else_step (past y q) o) one
            (subst (λ (r : Place). Arrives r) (sym (if_true (k == 1) (at_part q y) (else_step (past y q) o) (same k 1 one))) (record { way = v; leads = tails k 1 rest (stmt_path v) leads; own = h.own; there = h.there; is = is }))
        by s (in_else m e y o v) leads is =
            let q = inside begins m p in
            let two = heads k 2 rest (stmt_path v) leads in
            goes_past p.context 1 (if k == 1 then at_part q y else at_part (past y q) o) two
            (subst (λ (r : Place). Arrives r) (sym (if_false (k == 1) (at_part q y) (at_part (past y q) o) (apart k 1 (λ i. omega (arith, i, two))))) (record { way = v; leads = tails k 2 rest (stmt_path v) leads; own = h.own; there = h.there; is = is }))
        by s (in_turning m e y v) leads is = zero_ends p.context (at_part (inside begins m p) y) (heads k 0 rest (exp_path v) leads) (own_there p.context el h.own at is h.there)
        by s (in_body m e y v) leads is =
            goes_past p.context 0 (at_part (inside begins m p) y) (heads k 1 rest (stmt_path v) leads) (record { way = v; leads = tails k 1 rest (stmt_path v) leads; own = h.own; there = h.there; is = is })
        by s (in_returned m e v) leads is = own_there p.context el h.own at is h.there
        by s (in_block m b v) leads is = picks b (inside begins m p) 0 v leads is
        by s (in_lock m e b v) leads is = zero_ends p.context (pick (inside begins m p) 1 k b) (heads k 0 rest (exp_path v) leads) (own_there p.context el h.own at is h.there)
        by s (in_locked m e b v) leads is =
            let l = least b 1 k rest v leads in
            subst (λ (r : Place). Arrives r) (sym (if_false (k == 0) (ended p.context) (pick (inside begins m p) 1 k b) (apart k 0 (λ i. omega (arith, i, l))))) (picks b (inside begins m p) 1 v leads is)

    pub steps : (q : Place) → Holds q (k ∷ rest) el at → Arrives (step q k)
    steps (in_list p i b) h = picks b p i h.way h.leads h.is
    steps (at_element p s) h = stmt_steps p s h
    steps (at_part p s) h = stmt_steps p s h
    steps (ended c) h = h

  -- at the end of a path
  pub arrived : (q : Place) (el : Element f) (at : ElementPlace) → Holds q [] el at → IsThere (context_in q) el at
  arrived (in_list p i b) el at h = absurd (no_list b i h.way h.leads)
  arrived (at_element p s) el at h = absurd (no_stmt s h.way h.leads)
  arrived (at_part p s) el at h = absurd (no_stmt s h.way h.leads)
  arrived (ended c) el at h = h

-- ---- from where a list begins

module _ (start : Standing) (i : ℕ) (b : statement.Stmts Span) (ks : List ℕ) where
  -- what holds of each expression to which the rest of a path leads
  abbrev pub Leads : Place → (rest : List ℕ) → ElementPlace → Type 0
  Leads q rest at = (f : tree.Exp Span) (way : ListWay f b) → ks ≡ list_path i way → Holds ks q rest (nearest begins start way) at

  pub starts : (at : ElementPlace) → Leads (in_list start i b) ks at
  starts at = λ f way e. record { way = way; leads = e; is = refl }

  pub goes_down : (q r : Place) (j d depth : ℕ) (at new : ElementPlace) → j < length ks → r ≡ step q (get_or ks j d) → depth ≡ j + 1 → new ≡ element_or r (get_or ks j d) depth at
      → Leads q (drop j ks) at → Leads r (drop (j + 1) ks) new
  goes_down q r j d depth at new lt to deep is h = λ f way e.
      let k = get_or ks j d in
      let rest = drop (j + 1) ks in
      let el : Element f = nearest begins start way in
      let split : ks ≡ take j ks ++ k ∷ rest = sym (take-append-drop j ks) ∙ ap (λ (z : List ℕ). take j ks ++ z) (left_read ks j d lt) in
      let le : j ≤ length ks = omega (arith, lt) in
      let many : suc (length (take j ks)) ≡ depth = ap suc (length-take-le j ks le) ∙ sym (add-one j) ∙ sym deep in
      let there : Holds ks (step q k) rest el (element_or (step q k) k depth at) = steps ks k depth rest (take j ks) split many el at q (subst (λ (z : List ℕ). Holds ks q z el at) (left_read ks j d lt) (h f way e)) in
      subst (λ (z : ElementPlace). Holds ks r rest el z) (sym is) (subst (λ (z : Place). Holds ks z rest el (element_or z k depth at)) (sym to) there)

  pub ends_there : (c : Context) (x : raw.Reached) (j : ℕ) (at : ElementPlace) → length ks ≤ j → Leads (place_of c x) (drop j ks) at
      → (f : tree.Exp Span) (way : ListWay f b) → ks ≡ list_path i way → IsThere ks c (nearest begins start way) at
  ends_there c x j at over h = λ f way e.
      let el : Element f = nearest begins start way in
      subst (λ (d : Context). IsThere ks d el at) (context_is c x) (arrived ks (place_of c x) el at (subst (λ (z : List ℕ). Holds ks (place_of c x) z el at) (drop_all j ks over) (h f way e)))

-- of a body, from this place on
module _ (w : raw_body.WalkedBody) (n : ℕ) (old : raw_here.Here) where
  abbrev pub begun : Standing
  begun = standing (context_of old) n w.from

  pub is_place : (new : raw_here.Here) (ks : List ℕ) (at : ElementPlace) → Goes old new (context_of new)
      → ((f : tree.Exp Span) (way : ListWay f (code_of w.code).list) → ks ≡ list_path (code_of w.code).front way → IsThere ks (context_of new) (nearest begins begun way) at)
      → IsElementPlace w ks n old new at
  is_place new ks at goes h = λ f way e.
      let t = h f way e in
      let el : Element f = nearest begins begun way in
      record {
        goes = goes_so old new (context_of new) el.at.context (sym t.context) goes;
        next = t.element.next;
        base = t.element.base;
        front = t.element.front;
        path_is = t.element.path_is;
        depth = t.element.depth;
      }
