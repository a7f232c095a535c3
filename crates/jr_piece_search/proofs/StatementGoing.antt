-- How far a search among statements has come: each way from here on goes on one from the start, and
-- a search by spans finds there what it finds here.
use Rattle.std.proofs.Common.{◌≡◌, ℕ, suc, ◌<◌, ◌≤◌, Bool, true, false, List, [], ◌∷◌, ◌++◌, Option, Some, None, option_map, if◌then◌else◌, refl, ap, sym, subst, ◌∙◌, append_assoc, arith}
use Rattle.jr_text.specs.declared.spans.Span.{Span}
use Rattle.jr_ast.specs.Tree as tree
use Rattle.jr_ast.specs.StatementTree as statement
use Rattle.jr_ast.specs.Marks.{stmt_mark}
use Rattle.jr_ast.proofs.Sizes.{stmt_size, stmts_size}
use Rattle.jr_grammar.specs.Layout.{itself}
use Rattle.jr_pieces.specs.Ways.{StmtWay, in_init, in_eval, in_condition, in_then, in_else, in_turning, in_body, in_returned, in_block, in_lock, in_locked, ListWay}
use Rattle.jr_pieces.specs.Standings.{Standing}
use Rattle.jr_pieces.specs.Nearest.{Element, or_element, element_within, nearest}
use Rattle.jr_pieces.specs.Finding.{onto, find_stmt, find_list, exp_path, stmt_path, list_path}
use Rattle.jr_pieces.specs.Uses.{Use, stmt_use, list_use}
use Rattle.jr_pieces.specs.Bars.{exp_barred, stmt_barred, list_barred}
use Rattle.jr_piece_search.specs.Sought.{begins, Bars, barred, InExp, IsPlaceIn, IsFoundIn}
use Rattle.jr_piece_search.specs.SoughtStatements.{Place, IsPlace, IsFound}
use Rattle.jr_piece_search.specs.StatementSteps.{Inward, nowhere, to_exp, to_stmt, to_list, Chosen, inward, choose}
use Rattle.jr_piece_search.specs.Turning.{Turn, ended, at, with_list, ToElement, Turned, TurnsFrom}
use Rattle.jr_piece_search.proofs.Leading.{Of}
use Rattle.jr_piece_search.proofs.Going.{behind, behind_onto}
use Rattle.jr_piece_search.proofs.StatementLeading.{ToExp, ToStmt, ToList, Leads, LeadsIn, leads, list_leads, follow, follow_chosen, follows, list_follows, Falls, falls, list_falls}

-- where the parent begins is the same for all
bars_alike : (f : tree.Exp Span) (x : statement.Stmt Span) (d : StmtWay f x) (a b : ℕ) (o : Option ℕ) → stmt_barred begins a o d ≡ stmt_barred begins b o d
bars_alike f x (in_init m is_final t w e d) a b o = refl
bars_alike f x (in_eval m e d) a b o = refl
bars_alike f x (in_condition m c s e d) a b o = refl
bars_alike f x (in_then m c s e d) a b o = refl
bars_alike f x (in_else m c s e d) a b o = refl
bars_alike f x (in_turning m c s d) a b o = refl
bars_alike f x (in_body m c s d) a b o = refl
bars_alike f x (in_returned m e d) a b o = refl
bars_alike f x (in_block m l d) a b o = refl
bars_alike f x (in_lock m e l d) a b o = refl
bars_alike f x (in_locked m e l d) a b o = refl

finds_alike : (s : Span) (x : statement.Stmt Span) (a b : ℕ) → find_stmt itself s a x ≡ find_stmt itself s b x
finds_alike s (statement.local m is_final t w e) a b = refl
finds_alike s (statement.eval m e) a b = refl
finds_alike s (statement.branch m c x statement.no_else) a b = refl
finds_alike s (statement.branch m c x (statement.otherwise y)) a b = refl
finds_alike s (statement.loop m c x) a b = refl
finds_alike s (statement.return m None) a b = refl
finds_alike s (statement.return m (Some e)) a b = refl
finds_alike s (statement.block m l) a b = refl
finds_alike s (statement.sync m e l) a b = refl
finds_alike s (statement.empty m) a b = refl

onto_behind : (i : ℕ) (o : Option (List ℕ)) → onto i o ≡ behind (i ∷ []) o
onto_behind i None = refl
onto_behind i (Some q) = refl

outer_of : (b : Bars) (l : Bool) (n : ℕ) → (barred b l n).outer ≡ (if l then Some n else b.outer)
outer_of b true n = refl
outer_of b false n = refl

own_of : (b : Bars) (l : Bool) (n : ℕ) → (barred b l n).own ≡ (if l then Some n else b.own)
own_of b true n = refl
own_of b false n = refl

module _ (s : Span) (b0 : statement.Stmts Span) (i0 : ℕ) (old : List ℕ) where
  pub record Reached (x : Place) (pushed : List ℕ) (elt : statement.Stmt Span) (rest : statement.Stmts Span) (f : tree.Exp Span) (d : StmtWay f x.stmt) : Type 0 where
    pub way : ListWay f b0
    pub path : list_path i0 way ≡ pushed ++ stmt_path d
    pub used : list_use way ≡ stmt_use d
    pub outer : (p q : ℕ) → list_barred begins p None way ≡ stmt_barred begins q x.bars.outer d
    pub inner : StmtWay f elt
    pub own : (p q : ℕ) → stmt_barred begins p None inner ≡ stmt_barred begins q x.bars.own d
    pub at : Standing → Standing
    pub here : Standing → Standing
    pub nearest : (p : Standing) → nearest begins p way ≡ or_element (element_within begins (here p) d) (record { at = at p; stmt = elt; rest = rest; way = inner })

  pub record Reaching (x : Place) (new : List ℕ) : Type 0 where
    pub pushed : List ℕ
    pub path : new ≡ old ++ pushed
    pub elt : statement.Stmt Span
    pub rest : statement.Stmts Span
    pub list : x.list ≡ statement.more elt rest
    pub finds : (p q : ℕ) → find_list itself s p i0 b0 ≡ behind pushed (find_stmt itself s q x.stmt)
    pub ways : (f : tree.Exp Span) (d : StmtWay f x.stmt) → Reached x pushed elt rest f d

  abbrev pub Holds : List ℕ → Turn → Type 0
  Holds new (ended o) = IsFound s b0 i0 old new o
  Holds new (at x) = Reaching x new

  -- ---- the first turn

  abbrev first_place : Chosen → Place
  first_place w = record { bars = record { outer = None; own = None }; list = w.list; stmt = w.stmt }

  first_reaching : (w : Chosen) (new : List ℕ) → choose s i0 b0 ≡ Some w → new ≡ old ++ w.number ∷ [] → LeadsIn b0 i0 w → Reaching (first_place w) new
  first_reaching w new eq path l = record {
    pushed = w.number ∷ [];
    path = path;
    elt = w.stmt;
    rest = l.rest;
    list = l.list;
    finds = λ p q. list_follows s b0 p i0 ∙ ap (follow_chosen s p) eq ∙ onto_behind w.number (find_stmt itself s p w.stmt) ∙ ap (behind (w.number ∷ [])) (finds_alike s w.stmt p q);
    ways = λ f d. let r = l.ways f d in record {
      way = r.way;
      path = r.path;
      used = r.used;
      outer = λ p q. r.barred p None ∙ bars_alike f w.stmt d p q None;
      inner = d;
      own = λ p q. bars_alike f w.stmt d p q None;
      at = r.at;
      here = r.at;
      nearest = r.nearest;
    };
  }

  pub starts : (new : List ℕ) (t : Turn) → ToElement None old new t (choose s i0 b0) → Holds new t
  starts new t h = by (choose s i0 b0) refl h
    where
      by : (o : Option Chosen) → choose s i0 b0 ≡ o → ToElement None old new t o → Holds new t
      by None eq is = subst (Holds new) (sym is) (λ base. list_follows s b0 base i0 ∙ ap (follow_chosen s base) eq)
      by (Some w) eq (path, is) = subst (Holds new) (sym is) (first_reaching w new eq path (subst (Of (LeadsIn b0 i0)) eq (list_leads s b0 i0)))

  -- ---- a further turn

  module _ (x : Place) (mid new : List ℕ) (g : Reaching x mid) where
    abbrev here_at : ℕ
    here_at = (stmt_mark x.stmt).from

    goes_to : (i : Inward) → inward s x.stmt ≡ i → (p : ℕ) → find_list itself s p i0 b0 ≡ behind g.pushed (follow s here_at i)
    goes_to i eq p = g.finds p p ∙ ap (behind g.pushed) (follows s p x.stmt ∙ ap (follow s here_at) eq)

    -- the element is the nearest one, where no list is met behind it
    module _ (f : tree.Exp Span) (d : StmtWay f x.stmt) (r : Reached x g.pushed g.elt g.rest f d) where
      abbrev element_at : Standing → Element f
      element_at p = record { at = r.at p; stmt = g.elt; rest = g.rest; way = r.inner }

      is_nearest : ((p : Standing) → element_within begins p d ≡ None) → (p : Standing) → nearest begins p r.way ≡ element_at p
      is_nearest within p = r.nearest p ∙ ap (λ (o : Option (Element f)). or_element o (element_at p)) (within (r.here p))

    ends_in : (i : ℕ) (u : Use) (again : Bool) (e : tree.Exp Span) (y : InExp) → Leads x.stmt (to_exp i u again e) → IsPlaceIn u (barred x.bars again here_at) e (mid ++ i ∷ []) new y
        → IsPlace b0 i0 old new (with_list x.list y)
    ends_in i u again e y l place = by (l y.value place.way) (g.ways y.value (l y.value place.way).way)
      where
        by : (t : ToExp x.stmt i u again y.value e place.way) (r : Reached x g.pushed g.elt g.rest y.value t.way) → IsPlace b0 i0 old new (with_list x.list y)
        by t r = record {
          way = r.way;
          path = place.path ∙ ap (λ p. (p ++ i ∷ []) ++ exp_path place.way) g.path ∙ append_assoc (old ++ g.pushed) (i ∷ []) (exp_path place.way) ∙ append_assoc old g.pushed (i ∷ exp_path place.way)
              ∙ ap (λ p. old ++ p) (sym (r.path ∙ ap (λ p. g.pushed ++ p) t.path));
          used = place.used ∙ sym (r.used ∙ t.used);
          outer = λ base. place.outer here_at ∙ ap (λ o. exp_barred begins here_at o place.way) (outer_of x.bars again here_at) ∙ sym (r.outer base base ∙ t.barred base x.bars.outer);
          element = λ p. g.list ∙ ap (λ (el : Element y.value). statement.more el.stmt el.rest) (sym (is_nearest y.value t.way r t.within p));
          own = λ p base. place.own here_at ∙ ap (λ o. exp_barred begins here_at o place.way) (own_of x.bars again here_at) ∙ sym (r.own base base ∙ t.barred base x.bars.own)
              ∙ ap (λ (el : Element y.value). stmt_barred begins base None el.way) (sym (is_nearest y.value t.way r t.within p));
        }

    abbrev part_place : statement.Stmt Span → Place
    part_place y = record { bars = barred x.bars true here_at; list = x.list; stmt = y }

    to_part : (i : ℕ) (y : statement.Stmt Span) → inward s x.stmt ≡ to_stmt i y → Leads x.stmt (to_stmt i y) → new ≡ mid ++ i ∷ [] → Reaching (part_place y) new
    to_part i y eq l path = record {
      pushed = g.pushed ++ i ∷ [];
      path = path ∙ ap (λ p. p ++ i ∷ []) g.path ∙ append_assoc old g.pushed (i ∷ []);
      elt = g.elt;
      rest = g.rest;
      list = g.list;
      finds = λ p q. goes_to (to_stmt i y) eq p ∙ behind_onto g.pushed i (find_stmt itself s here_at y) ∙ ap (behind (g.pushed ++ i ∷ [])) (finds_alike s y here_at q);
      ways = λ f d. by f d (l f d) (g.ways f (l f d).way);
    }
      where
        by : (f : tree.Exp Span) (d : StmtWay f y) (t : ToStmt x.stmt i f y d) (r : Reached x g.pushed g.elt g.rest f t.way) → Reached (part_place y) (g.pushed ++ i ∷ []) g.elt g.rest f d
        by f d t r = record {
          way = r.way;
          path = r.path ∙ ap (λ p. g.pushed ++ p) t.path ∙ sym (append_assoc g.pushed (i ∷ []) (stmt_path d));
          used = r.used ∙ t.used;
          outer = λ p q. r.outer p p ∙ t.barred p x.bars.outer ∙ bars_alike f y d here_at q (Some here_at);
          inner = r.inner;
          own = λ p q. r.own p p ∙ t.barred p x.bars.own ∙ bars_alike f y d here_at q (Some here_at);
          at = r.at;
          here = λ p. t.at (r.here p);
          nearest = λ p. r.nearest p ∙ ap (λ (o : Option (Element f)). or_element o (record { at = r.at p; stmt = g.elt; rest = g.rest; way = r.inner })) (t.within (r.here p));
        }

    abbrev element_place : Chosen → Place
    element_place w = record { bars = record { outer = x.bars.outer; own = None }; list = w.list; stmt = w.stmt }

    to_inner : (i : ℕ) (b : statement.Stmts Span) (w : Chosen) → inward s x.stmt ≡ to_list i b → choose s i b ≡ Some w → Leads x.stmt (to_list i b) → LeadsIn b i w → new ≡ mid ++ w.number ∷ []
        → Reaching (element_place w) new
    to_inner i b w eq chosen l m path = record {
      pushed = g.pushed ++ w.number ∷ [];
      path = path ∙ ap (λ p. p ++ w.number ∷ []) g.path ∙ append_assoc old g.pushed (w.number ∷ []);
      elt = w.stmt;
      rest = m.rest;
      list = m.list;
      finds = λ p q. goes_to (to_list i b) eq p ∙ ap (behind g.pushed) (list_follows s b here_at i ∙ ap (follow_chosen s here_at) chosen) ∙ behind_onto g.pushed w.number (find_stmt itself s here_at w.stmt)
          ∙ ap (behind (g.pushed ++ w.number ∷ [])) (finds_alike s w.stmt here_at q);
      ways = λ f d. by f d (l f (m.ways f d).way) (g.ways f (l f (m.ways f d).way).way);
    }
      where
        by : (f : tree.Exp Span) (d : StmtWay f w.stmt) (t : ToList x.stmt i f b (m.ways f d).way) (r : Reached x g.pushed g.elt g.rest f t.way) → Reached (element_place w) (g.pushed ++ w.number ∷ []) w.stmt m.rest f d
        by f d t r = let k = m.ways f d in record {
          way = r.way;
          path = r.path ∙ ap (λ p. g.pushed ++ p) (t.path ∙ k.path) ∙ sym (append_assoc g.pushed (w.number ∷ []) (stmt_path d));
          used = r.used ∙ t.used ∙ k.used;
          outer = λ p q. r.outer p p ∙ t.barred p x.bars.outer ∙ k.barred here_at x.bars.outer ∙ bars_alike f w.stmt d here_at q x.bars.outer;
          inner = d;
          own = λ p q. bars_alike f w.stmt d p q None;
          at = λ p. k.at (t.at (r.here p));
          here = λ p. k.at (t.at (r.here p));
          nearest = λ p. r.nearest p ∙ ap (λ (o : Option (Element f)). or_element o (record { at = r.at p; stmt = g.elt; rest = g.rest; way = r.inner })) (t.within (r.here p)) ∙ k.nearest (t.at (r.here p));
        }

    to_element : (i : ℕ) (b : statement.Stmts Span) (t : Turn) (o : Option Chosen) → inward s x.stmt ≡ to_list i b → choose s i b ≡ o → Leads x.stmt (to_list i b) → ToElement x.bars.outer mid new t o → Holds new t
    to_element i b t None eq chosen l is = subst (Holds new) (sym is) (λ base. goes_to (to_list i b) eq base ∙ ap (behind g.pushed) (list_follows s b here_at i ∙ ap (follow_chosen s here_at) chosen))
    to_element i b t (Some w) eq chosen l (path, is) = subst (Holds new) (sym is) (to_inner i b w eq chosen l (subst (Of (LeadsIn b i)) chosen (list_leads s b i)) path)

    to_value : (i : ℕ) (u : Use) (again : Bool) (e : tree.Exp Span) (r : Option InExp) → inward s x.stmt ≡ to_exp i u again e → Leads x.stmt (to_exp i u again e)
        → IsFoundIn s u (barred x.bars again here_at) e (mid ++ i ∷ []) new r → IsFound s b0 i0 old new (option_map (with_list x.list) r)
    to_value i u again e None eq l none = λ base. goes_to (to_exp i u again e) eq base ∙ ap (behind g.pushed) (ap (onto i) (none here_at))
    to_value i u again e (Some y) eq l (is, place) = (is, ends_in i u again e y l place)

    pub turns : (t : Turn) → TurnsFrom s x mid new t → Holds new t
    turns t h = by (inward s x.stmt) refl h
      where
        lead : (i : Inward) → inward s x.stmt ≡ i → Leads x.stmt i
        lead i eq = subst (Leads x.stmt) eq (leads s x.stmt)

        by : (i : Inward) → inward s x.stmt ≡ i → Turned s x mid new t i → Holds new t
        by nowhere eq is = subst (Holds new) (sym is) (λ base. goes_to nowhere eq base)
        by (to_exp i u again e) eq (r, found, is) = subst (Holds new) (sym is) (to_value i u again e r eq (lead (to_exp i u again e) eq) found)
        by (to_stmt i y) eq (path, is) = subst (Holds new) (sym is) (to_part i y eq (lead (to_stmt i y) eq) path)
        by (to_list i b) eq is = to_element i b t (choose s i b) eq refl (lead (to_list i b) eq) is

-- ---- it gets smaller

abbrev pub turn_size : Turn → ℕ
turn_size (ended o) = 0
turn_size (at x) = suc (stmt_size x.stmt)

pub smaller : (s : Span) (x : Place) (old new : List ℕ) (t : Turn) → TurnsFrom s x old new t → turn_size t < turn_size (at x)
smaller s x old new t h = by (inward s x.stmt) (falls s x.stmt) h
  where
    chosen : (b : statement.Stmts Span) (o : Option Chosen) → Of (λ (w : Chosen). stmt_size w.stmt ≤ stmts_size b) o → stmts_size b < stmt_size x.stmt → ToElement x.bars.outer old new t o → turn_size t < turn_size (at x)
    chosen b None k l is = subst (λ u. turn_size u < turn_size (at x)) (sym is) (omega arith)
    chosen b (Some w) k l (path, is) = subst (λ u. turn_size u < turn_size (at x)) (sym is) (omega (arith, k, l))

    by : (i : Inward) → Falls (stmt_size x.stmt) i → Turned s x old new t i → turn_size t < turn_size (at x)
    by nowhere k is = subst (λ u. turn_size u < turn_size (at x)) (sym is) (omega arith)
    by (to_exp i u again e) k (r, found, is) = subst (λ u. turn_size u < turn_size (at x)) (sym is) (omega arith)
    by (to_stmt i y) k (path, is) = subst (λ u. turn_size u < turn_size (at x)) (sym is) (omega (arith, k))
    by (to_list i b) k is = chosen b (choose s i b) (list_falls s b i) k is
