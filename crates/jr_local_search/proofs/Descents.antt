-- The way down a path leads to the nearest element of each expression to which the path leads.
use Rattle.std.proofs.Common.{◌≡◌, ℕ, zero, suc, ◌+◌, ◌<◌, ◌≤◌, ◌==◌, nat_eq, Bool, true, false, List, [], ◌∷◌, ◌++◌, length, get_or, drop, map, Option, Some, None, option_map, if◌then◌else◌, refl, ap, sym, subst, ◌∙◌, arith, add-one}
use Rattle.std.proofs.Math.Seq.{drop-cons}
use Rattle.std.proofs.lemmas.Bool.{eqb-true, eq-eqb}
use Rattle.std.proofs.lemmas.List.{drop_all}
use Rattle.jr_text.specs.declared.spans.Span.{Span}
use Rattle.jr_ast.specs.declared.stmts.Stmt.{Stmt}
use Rattle.jr_ast.specs.Tree as tree
use Rattle.jr_ast.specs.StatementTree as statement
use Rattle.jr_ast.specs.View.{stmt_of, stmts_of}
use Rattle.jr_table.specs.SameKeys.{same_name}
use Rattle.jr_table.specs.Decls.{LocalKey}
use Rattle.jr_table.specs.Scope.{ScopeLocal}
use Rattle.jr_table.specs.Context.{Context, Local, scope_local, scope_of, local_key, local_of, locals_in, locals_in_else, locals_in_row}
use Rattle.jr_pieces.specs.Ways.{StmtWay, in_init, in_eval, in_condition, in_then, in_else, in_turning, in_body, in_returned, in_block, in_lock, in_locked, ListWay, first, later}
use Rattle.jr_pieces.specs.Standings.{Standing, inside, behind, in_other}
use Rattle.jr_pieces.specs.Nearest.{Element, or_element, element_within, nearest}
use Rattle.jr_pieces.specs.Declared.{first_named}
use Rattle.jr_pieces.specs.Finding.{exp_path, stmt_path, list_path}
use Rattle.jr_piece_search.specs.Sought.{begins}
use Rattle.jr_piece_search.proofs.Choosing.{left_is}
use Rattle.jr_local_search.specs.Scopes.{AtElement, IsAt, IsAtElement}
use Rattle.jr_local_search.specs.Descending.{Place, in_list, in_stmt, ended, element_of, or_next, declares, past, pick, within, else_step, stmt_step, step}

-- ---- numbers and rows

pub same : (i k : ℕ) → i ≡ k → (i == k) ≡ true
same i k e = eq-eqb i k e

pub apart : (i k : ℕ) → (i ≡ k → ⊥) → (i == k) ≡ false
apart i k n = by (i == k) refl
  where
    by : (b : Bool) → (i == k) ≡ b → (i == k) ≡ false
    by true h = absurd (n (eqb-true i k h))
    by false h = h

heads : (k i : ℕ) (ks is : List ℕ) → k ∷ ks ≡ i ∷ is → k ≡ i
heads k i ks is e = cc

tails : (k i : ℕ) (ks is : List ℕ) → k ∷ ks ≡ i ∷ is → ks ≡ is
tails k i ks is e = cc

pub if_true : {X : Type 0} (b : Bool) (x y : X) → b ≡ true → (if b then x else y) ≡ x
if_true b x y e = ap (λ c. if c then x else y) e

pub if_false : {X : Type 0} (b : Bool) (x y : X) → b ≡ false → (if b then x else y) ≡ y
if_false b x y e = ap (λ c. if c then x else y) e

gone : (i : ℕ) (is : List ℕ) → [] ≡ i ∷ is → ⊥
gone i is e = cc

-- an element that is read, whatever is read past the end
pub left_read : {T : Type 0} (xs : List T) (i : ℕ) (d : T) → i < length xs → drop i xs ≡ get_or xs i d ∷ drop (i + 1) xs
left_read xs i d lt = drop-cons xs i d lt ∙ ap (λ n. get_or xs i d ∷ drop n xs) (sym (add-one i))

-- ---- behind an element

abbrev key_if : Bool → LocalKey → Option LocalKey
key_if true k = Some k
key_if false k = None

abbrev or_key : Option LocalKey → Option LocalKey → Option LocalKey
or_key None o = o
or_key (Some k) o = Some k

module _ (name : List ℕ) where
  alone : (l : ScopeLocal) → first_named name (l ∷ []) ≡ key_if (same_name l.name name) l.key
  alone l = by (same_name l.name name)
    where
      by : (b : Bool) → (if b then Some l.key else None) ≡ key_if b l.key
      by true = refl
      by false = refl

  first_behind : (ls : List Local) (l : Local) → first_named name (map scope_local (ls ++ l ∷ [])) ≡ or_key (first_named name (map scope_local ls)) (key_if (same_name l.name name) l.key)
  first_behind [] l = alone (scope_local l)
  first_behind (m ∷ ls) l = by (same_name m.name name) (first_behind ls l)
    where
      by : (b : Bool) → first_named name (map scope_local (ls ++ l ∷ [])) ≡ or_key (first_named name (map scope_local ls)) (key_if (same_name l.name name) l.key) → (if b then Some m.key else first_named name (map scope_local (ls ++ l ∷ []))) ≡ or_key (if b then Some m.key else first_named name (map scope_local ls)) (key_if (same_name l.name name) l.key)
      by true on = refl
      by false on = on

  numbered : (c : Context) (o : Option ℕ) (b : Bool) (n k : ℕ) → k ≡ n → or_key (option_map (local_key c) o) (key_if b (local_key c k)) ≡ option_map (local_key c) (or_next o b n)
  numbered c (Some x) b n k e = refl
  numbered c None true n k e = ap (λ j. Some (local_key c j)) e
  numbered c None false n k e = refl

  unnamed : (o : Option ℕ) (n : ℕ) → or_next o false n ≡ o
  unnamed (Some x) n = refl
  unnamed None n = refl

  module _ (p : Standing) (x : AtElement) (h : IsAt name p x) where
    still : (s : statement.Stmt Span) (q : Standing) → q.next ≡ p.next + locals_in s → q.context ≡ p.context → declares name s ≡ false → IsAt name q (past name s x)
    still s q count context none = record {
      next = let k = h.next in omega (arith, count, k);
      named = subst (λ (c : Context). first_named name (scope_of c).locals ≡ option_map (local_key c) (or_next x.named (declares name s) x.next)) (sym context)
          (h.named ∙ ap (option_map (local_key p.context)) (sym (unnamed x.named x.next) ∙ ap (λ b. or_next x.named b x.next) (sym none)));
    }

    pub passes : (s : statement.Stmt Span) → IsAt name (behind begins s p) (past name s x)
    passes (statement.local m f t w e) = record {
      next = ap (λ n. n + locals_in (statement.local m f t w e)) h.next;
      named = first_behind p.context.locals (local_of p.context p.next f t w)
          ∙ ap (λ o. or_key o (key_if (same_name w.text name) (local_key p.context p.next))) h.named
          ∙ numbered p.context x.named (same_name w.text name) x.next p.next h.next;
    }
    passes (statement.eval m e) = still (statement.eval m e) (behind begins (statement.eval m e) p) refl refl refl
    passes (statement.branch m c s o) = still (statement.branch m c s o) (behind begins (statement.branch m c s o) p) refl refl refl
    passes (statement.loop m c s) = still (statement.loop m c s) (behind begins (statement.loop m c s) p) refl refl refl
    passes (statement.return m e) = still (statement.return m e) (behind begins (statement.return m e) p) refl refl refl
    passes (statement.block m b) = still (statement.block m b) (behind begins (statement.block m b) p) refl refl refl
    passes (statement.sync m e b) = still (statement.sync m e b) (behind begins (statement.sync m e b) p) refl refl refl
    passes (statement.empty m) = still (statement.empty m) (behind begins (statement.empty m) p) refl refl refl

-- ---- the loop over elements

module _ (name : List ℕ) (xs : List (Stmt Span)) (i : ℕ) (x : AtElement) (n k : ℕ) where
  pick_step : (s : Stmt Span) → i < length xs → s ≡ get_or xs i s
      → pick name x n k (stmts_of (drop i xs)) ≡ (if n == k then in_stmt x x.next (stmt_of s) else pick name (past name (stmt_of s) x) (suc n) k (stmts_of (drop (i + 1) xs)))
  unfolding pick
  pick_step s lt is = ap (λ z. pick name x n k (stmts_of z)) (left_is xs i s lt is)

  pub pick_here : (s : Stmt Span) → i < length xs → s ≡ get_or xs i s → n ≡ k → pick name x n k (stmts_of (drop i xs)) ≡ in_stmt x x.next (stmt_of s)
  pick_here s lt is e = pick_step s lt is ∙ if_true (n == k) (in_stmt x x.next (stmt_of s)) (pick name (past name (stmt_of s) x) (suc n) k (stmts_of (drop (i + 1) xs))) (same n k e)

  pub pick_goes : (s : Stmt Span) → i < length xs → s ≡ get_or xs i s → (n ≡ k → ⊥) → pick name x n k (stmts_of (drop i xs)) ≡ pick name (past name (stmt_of s) x) (suc n) k (stmts_of (drop (i + 1) xs))
  pick_goes s lt is e = pick_step s lt is ∙ if_false (n == k) (in_stmt x x.next (stmt_of s)) (pick name (past name (stmt_of s) x) (suc n) k (stmts_of (drop (i + 1) xs))) (apart n k e)

  pub pick_ends : length xs ≤ i → pick name x n k (stmts_of (drop i xs)) ≡ ended x
  unfolding pick
  pick_ends over = ap (λ z. pick name x n k (stmts_of z)) (drop_all i xs over)

-- ---- the way down

module _ (name : List ℕ) {f : tree.Exp Span} where
  -- in front of a list
  pub record InList (x : AtElement) (i : ℕ) (b : statement.Stmts Span) (path : List ℕ) (el : Element f) : Type 0 where
    pub way : ListWay f b
    pub p : Standing
    pub leads : path ≡ list_path i way
    pub at : IsAt name p x
    pub is : el ≡ nearest begins p way

  -- at a statement, within this element if no list is met within
  pub record InStmt (x : AtElement) (n : ℕ) (s : statement.Stmt Span) (path : List ℕ) (el : Element f) : Type 0 where
    pub way : StmtWay f s
    pub p : Standing
    pub leads : path ≡ stmt_path way
    pub next : p.next ≡ n
    pub named : first_named name (scope_of p.context).locals ≡ option_map (local_key p.context) x.named
    pub own : Element f
    pub at : IsAt name own.at x
    pub is : el ≡ or_element (element_within begins p way) own

  abbrev pub Holds : Place → (path : List ℕ) → Element f → Type 0
  Holds (in_list x i b) path el = InList x i b path el
  Holds (in_stmt x n s) path el = InStmt x n s path el
  Holds (ended x) path el = IsAt name el.at x

  least : (b : statement.Stmts Span) (i k : ℕ) (rest : List ℕ) (way : ListWay f b) → k ∷ rest ≡ list_path i way → i ≤ k
  least b i k rest (first s ss d) e = let h = heads k i rest (stmt_path d) e in omega (arith, h)
  least b i k rest (later s ss d) e = let h = least ss (suc i) k rest d e in omega (arith, h)

  picks : (b : statement.Stmts Span) (x : AtElement) (i k : ℕ) (rest : List ℕ) (el : Element f) (way : ListWay f b) (p : Standing) → k ∷ rest ≡ list_path i way → IsAt name p x → el ≡ nearest begins p way
      → Holds (pick name x i k b) rest el
  unfolding pick
  picks b x i k rest el (first s ss d) p e at is =
      subst (λ (q : Place). Holds q rest el) (sym (if_true (i == k) (in_stmt x x.next s) (pick name (past name s x) (suc i) k ss) (same i k (sym (heads k i rest (stmt_path d) e))))) (record {
        way = d;
        p = p;
        leads = tails k i rest (stmt_path d) e;
        next = at.next;
        named = at.named;
        own = record { at = p; stmt = s; rest = ss; way = d };
        at = at;
        is = is;
      })
  picks b x i k rest el (later s ss d) p e at is =
      let h = least ss (suc i) k rest d e in
      subst (λ (q : Place). Holds q rest el) (sym (if_false (i == k) (in_stmt x x.next s) (pick name (past name s x) (suc i) k ss) (apart i k (λ j. omega (arith, j, h)))))
      (picks ss (past name s x) (suc i) k rest el d (behind begins s p) e (passes name p x at s) is)

  -- no list is met within, so the element is its own
  its_own : (x : AtElement) (el own : Element f) → el ≡ own → IsAt name own.at x → IsAt name el.at x
  its_own x el own is at = subst (λ (y : Element f). IsAt name y.at x) (sym is) at

  zero_ends : (x : AtElement) (k : ℕ) (q : Place) (rest : List ℕ) (el : Element f) → k ≡ 0 → IsAt name el.at x → Holds (if k == 0 then ended x else q) rest el
  zero_ends x k q rest el e at = subst (λ (r : Place). Holds r rest el) (sym (if_true (k == 0) (ended x) q (same k 0 e))) at

  else_goes : (x : AtElement) (k j : ℕ) (q : Place) (rest : List ℕ) (el : Element f) → k ≡ suc j → Holds q rest el → Holds (if k == 0 then ended x else q) rest el
  else_goes x k j q rest el e h = subst (λ (r : Place). Holds r rest el) (sym (if_false (k == 0) (ended x) q (apart k 0 (λ i. omega (arith, i, e))))) h

  stmt_steps : (x : AtElement) (n : ℕ) (s : statement.Stmt Span) (k : ℕ) (rest : List ℕ) (el : Element f) → InStmt x n s (k ∷ rest) el → Holds (stmt_step name x n s k) rest el
  stmt_steps x n s k rest el h = by s h.way h.leads h.is h.next h.named
    where
      by : (s : statement.Stmt Span) (d : StmtWay f s) → k ∷ rest ≡ stmt_path d → el ≡ or_element (element_within begins h.p d) h.own → h.p.next ≡ n → first_named name (scope_of h.p.context).locals ≡ option_map (local_key h.p.context) x.named
          → Holds (stmt_step name x n s k) rest el
      by s (in_init m is_final t w e d) path is next named = its_own x el h.own is h.at
      by s (in_eval m e d) path is next named = its_own x el h.own is h.at
      by s (in_condition m c y o d) path is next named = zero_ends x k (if k == 1 then in_stmt x n y else else_step name x (n + locals_in y) o) rest el (heads k 0 rest (exp_path d) path) (its_own x el h.own is h.at)
      by s (in_then m c y o d) path is next named =
          let one = heads k 1 rest (stmt_path d) path in
          else_goes x k 0 (if k == 1 then in_stmt x n y else else_step name x (n + locals_in y) o) rest el one
          (subst (λ (r : Place). Holds r rest el) (sym (if_true (k == 1) (in_stmt x n y) (else_step name x (n + locals_in y) o) (same k 1 one))) (record {
            way = d;
            p = inside begins m h.p;
            leads = tails k 1 rest (stmt_path d) path;
            next = next;
            named = named;
            own = h.own;
            at = h.at;
            is = is;
          }))
      by s (in_else m c y o d) path is next named =
          let two = heads k 2 rest (stmt_path d) path in
          else_goes x k 1 (if k == 1 then in_stmt x n y else in_stmt x (n + locals_in y) o) rest el two
          (subst (λ (r : Place). Holds r rest el) (sym (if_false (k == 1) (in_stmt x n y) (in_stmt x (n + locals_in y) o) (apart k 1 (λ i. omega (arith, i, two))))) (record {
            way = d;
            p = in_other begins m y h.p;
            leads = tails k 2 rest (stmt_path d) path;
            next = ap (λ j. j + locals_in y) next;
            named = named;
            own = h.own;
            at = h.at;
            is = is;
          }))
      by s (in_turning m c y d) path is next named = zero_ends x k (in_stmt x n y) rest el (heads k 0 rest (exp_path d) path) (its_own x el h.own is h.at)
      by s (in_body m c y d) path is next named =
          let one = heads k 1 rest (stmt_path d) path in
          else_goes x k 0 (in_stmt x n y) rest el one (record {
            way = d;
            p = inside begins m h.p;
            leads = tails k 1 rest (stmt_path d) path;
            next = next;
            named = named;
            own = h.own;
            at = h.at;
            is = is;
          })
      by s (in_returned m e d) path is next named = its_own x el h.own is h.at
      by s (in_block m b d) path is next named = picks b (within name x n) 0 k rest el d (inside begins m h.p) path (record { next = next; named = named }) is
      by s (in_lock m e b d) path is next named = zero_ends x k (pick name (within name x n) 1 k b) rest el (heads k 0 rest (exp_path d) path) (its_own x el h.own is h.at)
      by s (in_locked m e b d) path is next named =
          let h1 = least b 1 k rest d path in
          subst (λ (r : Place). Holds r rest el) (sym (if_false (k == 0) (ended x) (pick name (within name x n) 1 k b) (apart k 0 (λ i. omega (arith, i, h1)))))
          (picks b (within name x n) 1 k rest el d (inside begins m h.p) path (record { next = next; named = named }) is)

  pub steps : (q : Place) (k : ℕ) (rest : List ℕ) (el : Element f) → Holds q (k ∷ rest) el → Holds (step name q k) rest el
  steps (in_list x i b) k rest el h = picks b x i k rest el h.way h.p h.leads h.at h.is
  steps (in_stmt x n s) k rest el h = stmt_steps x n s k rest el h
  steps (ended x) k rest el h = h

  no_list : (b : statement.Stmts Span) (i : ℕ) (way : ListWay f b) → [] ≡ list_path i way → ⊥
  no_list b i (first s ss d) e = gone i (stmt_path d) e
  no_list b i (later s ss d) e = no_list ss (suc i) d e

  no_stmt : (s : statement.Stmt Span) (way : StmtWay f s) → [] ≡ stmt_path way → ⊥
  no_stmt s (in_init m is_final t w e d) h = gone 2 (exp_path d) h
  no_stmt s (in_eval m e d) h = gone 0 (exp_path d) h
  no_stmt s (in_condition m c y o d) h = gone 0 (exp_path d) h
  no_stmt s (in_then m c y o d) h = gone 1 (stmt_path d) h
  no_stmt s (in_else m c y o d) h = gone 2 (stmt_path d) h
  no_stmt s (in_turning m c y d) h = gone 0 (exp_path d) h
  no_stmt s (in_body m c y d) h = gone 1 (stmt_path d) h
  no_stmt s (in_returned m e d) h = gone 0 (exp_path d) h
  no_stmt s (in_block m b d) h = no_list b 0 d h
  no_stmt s (in_lock m e b d) h = gone 0 (exp_path d) h
  no_stmt s (in_locked m e b d) h = no_list b 1 d h

  -- at the end of a path
  pub arrived : (q : Place) (el : Element f) → Holds q [] el → IsAt name el.at (element_of q)
  arrived (in_list x i b) el h = absurd (no_list b i h.way h.leads)
  arrived (in_stmt x n s) el h = absurd (no_stmt s h.way h.leads)
  arrived (ended x) el h = h

-- what holds of each expression to which the rest of a path leads
abbrev pub Leads : List ℕ → ℕ → statement.Stmts Span → List ℕ → AtElement → Place → List ℕ → Type 0
Leads name i b path outer q rest = (f : tree.Exp Span) (way : ListWay f b) (p : Standing) → path ≡ list_path i way → IsAt name p outer → Holds name q rest (nearest begins p way)

module _ (name : List ℕ) (i : ℕ) (b : statement.Stmts Span) (path : List ℕ) (outer : AtElement) where
  pub starts : Leads name i b path outer (in_list outer i b) path
  starts = λ f way p path at. record { way = way; p = p; leads = path; at = at; is = refl }

  pub goes_on : (q r : Place) (ks : List ℕ) (j d : ℕ) → j < length ks → r ≡ step name q (get_or ks j d) → Leads name i b path outer q (drop j ks) → Leads name i b path outer r (drop (j + 1) ks)
  goes_on q r ks j d lt next h = λ f way p path at.
      subst (λ (z : Place). Holds name z (drop (j + 1) ks) (nearest begins p way)) (sym next)
      (steps name q (get_or ks j d) (drop (j + 1) ks) (nearest begins p way) (subst (λ (z : List ℕ). Holds name q z (nearest begins p way)) (left_read ks j d lt) (h f way p path at)))

  pub ends_there : (q : Place) (ks : List ℕ) (j : ℕ) → length ks ≤ j → Leads name i b path outer q (drop j ks) → IsAtElement name i b path outer (element_of q)
  ends_there q ks j over h = λ f way p path at. arrived name q (nearest begins p way) (subst (λ (z : List ℕ). Holds name q z (nearest begins p way)) (drop_all j ks over) (h f way p path at))
