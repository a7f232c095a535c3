-- Of the part of an expression into which a search goes: its ways are ways of the whole; a search
-- by spans goes there; and it is smaller.
use Rattle.std.proofs.Common.{◌≡◌, ℕ, suc, ◌<◌, ◌+◌, Bool, true, false, List, ◌∷◌, Option, Some, None, option_map, if◌then◌else◌, refl, ◌∙◌, arith}
use Rattle.jr_text.specs.declared.spans.Span.{Span}
use Rattle.jr_ast.specs.declared.operators.BinOp.{BinOp}
use Rattle.jr_ast.specs.declared.operators.BinOp.TheVariants.{Or, And, Eq, Ne, Lt, Gt, Le, Ge, Add, Sub, Mul, Div, Rem}
use Rattle.jr_ast.specs.Tree as tree
use Rattle.jr_ast.specs.Marks.{exp_mark}
use Rattle.jr_ast.proofs.Sizes.{exp_size, exps_size, target_size}
use Rattle.jr_grammar.specs.Layout.{itself}
use Rattle.jr_pieces.specs.Ways.{ExpWay, in_front, in_target, in_argument, in_super_argument, in_created, in_paren, in_cast, in_unary, in_bump, in_left, in_right, in_assigned, in_value, in_changed, in_change}
use Rattle.jr_pieces.specs.Ways.{ExpsWay, first_argument, later_argument}
use Rattle.jr_pieces.specs.Finding.{same_span, onto, here_or, is_behind, find_exp, find_exps, exp_path, exps_path}
use Rattle.jr_pieces.specs.Uses.{Use, valued, assigned, changed, exp_use, exps_use}
use Rattle.jr_pieces.specs.Bars.{exp_barred, exps_barred}
use Rattle.jr_piece_search.specs.Steps.{Step, Chosen, into, is_lazy, as_argument, in_two, choose, in_row, inward}
use Rattle.jr_piece_search.specs.Sought.{begins}

-- of what there is
abbrev pub Of : {X : Type 0} → (X → Type 0) → Option X → Type 0
Of P None = Unit {0}
Of P (Some x) = P x

either : {X : Type 0} (P : Option X → Type 0) (b : Bool) (x y : Option X) → P x → P y → P (if b then x else y)
either P true x y p q = p
either P false x y p q = q

-- ---- ways

-- a way of the part is one of the whole
pub record Goes (e : tree.Exp Span) (x : Step) (f : tree.Exp Span) (d : ExpWay f x.part) : Type 0 where
  pub way : ExpWay f e
  pub path : exp_path way ≡ x.number ∷ exp_path d
  pub used : (u : Use) → exp_use u way ≡ exp_use x.usage d
  pub barred : (base : ℕ) (o : Option ℕ) → exp_barred begins base o way ≡ exp_barred begins (exp_mark e).from (if x.lazy then Some (exp_mark e).from else o) d

abbrev pub Leads : tree.Exp Span → Step → Type 0
Leads e x = (f : tree.Exp Span) (d : ExpWay f x.part) → Goes e x f d

pub record RowGoes (es : tree.Exps Span) (i : ℕ) (x : Chosen) (f : tree.Exp Span) (d : ExpWay f x.part) : Type 0 where
  pub way : ExpsWay f es
  pub path : exps_path i way ≡ x.number ∷ exp_path d
  pub used : exps_use way ≡ exp_use valued d
  pub barred : (base : ℕ) (o : Option ℕ) → exps_barred begins base o way ≡ exp_barred begins base o d

abbrev pub RowLeads : tree.Exps Span → ℕ → Chosen → Type 0
RowLeads es i x = (f : tree.Exp Span) (d : ExpWay f x.part) → RowGoes es i x f d

module _ (s : Span) where
  later_leads : (e : tree.Exp Span) (es : tree.Exps Span) (i : ℕ) (o : Option Chosen) → Of (RowLeads es (suc i)) o → Of (RowLeads (tree.more e es) i) o
  later_leads e es i None h = tt
  later_leads e es i (Some x) h = λ f d. let r = h f d in record { way = later_argument e es r.way; path = r.path; used = r.used; barred = r.barred }

  row_leads : (es : tree.Exps Span) (i : ℕ) → Of (RowLeads es i) (choose s i es)
  unfolding choose
  row_leads tree.end i = tt
  row_leads (tree.more e es) i = either (Of (RowLeads (tree.more e es) i)) (is_behind itself s (exp_mark e)) (choose s (suc i) es) (Some (record { number = i; part = e }))
      (later_leads e es i (choose s (suc i) es) (row_leads es (suc i)))
      (λ f d. record { way = first_argument e es d; path = refl; used = refl; barred = λ base o. refl })

  -- in a node whose arguments these are
  module _ (e : tree.Exp Span) (es : tree.Exps Span) (i : ℕ) (build : (f : tree.Exp Span) → ExpsWay f es → ExpWay f e)
      (path : (f : tree.Exp Span) (d : ExpsWay f es) → exp_path (build f d) ≡ exps_path i d)
      (used : (f : tree.Exp Span) (d : ExpsWay f es) (u : Use) → exp_use u (build f d) ≡ exps_use d)
      (bars : (f : tree.Exp Span) (d : ExpsWay f es) (base : ℕ) (o : Option ℕ) → exp_barred begins base o (build f d) ≡ exps_barred begins (exp_mark e).from o d) where
    as_step : (o : Option Chosen) → Of (RowLeads es i) o → Of (Leads e) (option_map as_argument o)
    as_step None h = tt
    as_step (Some x) h = λ f d. let r = h f d in record {
      way = build f r.way;
      path = path f r.way ∙ r.path;
      used = λ u. used f r.way u ∙ r.used;
      barred = λ base o. bars f r.way base o ∙ r.barred (exp_mark e).from o;
    }

    argument_leads : Of (Leads e) (in_row s i es)
    argument_leads = as_step (choose s i es) (row_leads es i)

  two_lead : (e : tree.Exp Span) (u : Use) (lazy : Bool) (l r : tree.Exp Span) → Leads e (record { number = 1; usage = valued; lazy = lazy; part = r }) → Leads e (record { number = 0; usage = u; lazy = false; part = l })
      → Of (Leads e) (in_two s u lazy l r)
  two_lead e u lazy l r p q = either (Of (Leads e)) (is_behind itself s (exp_mark l)) (into 1 valued lazy r) (into 0 u false l) p q

  -- the right operand of an operator
  right_barred : (m : Span) (o : BinOp) (l r f : tree.Exp Span) (d : ExpWay f r) (base : ℕ) (z : Option ℕ) → exp_barred begins base z (in_right m o l r d) ≡ exp_barred begins m.from (if is_lazy o then Some m.from else z) d
  right_barred m Or l r f d base z = refl
  right_barred m And l r f d base z = refl
  right_barred m Eq l r f d base z = refl
  right_barred m Ne l r f d base z = refl
  right_barred m Lt l r f d base z = refl
  right_barred m Gt l r f d base z = refl
  right_barred m Le l r f d base z = refl
  right_barred m Ge l r f d base z = refl
  right_barred m Add l r f d base z = refl
  right_barred m Sub l r f d base z = refl
  right_barred m Mul l r f d base z = refl
  right_barred m Div l r f d base z = refl
  right_barred m Rem l r f d base z = refl

  pub leads : (e : tree.Exp Span) → Of (Leads e) (inward s e)
  leads (tree.number m n) = tt
  leads (tree.truth m b) = tt
  leads (tree.null m) = tt
  leads (tree.string m t) = tt
  leads (tree.name m w) = tt
  leads (tree.super_field m w) = tt
  leads (tree.this m) = tt
  leads (tree.class_literal m t) = tt
  leads (tree.field m e w) = λ f d. record { way = in_front m e w d; path = refl; used = λ u. refl; barred = λ base o. refl }
  leads (tree.paren m e) = λ f d. record { way = in_paren m e d; path = refl; used = λ u. refl; barred = λ base o. refl }
  leads (tree.cast m t e) = λ f d. record { way = in_cast m t e d; path = refl; used = λ u. refl; barred = λ base o. refl }
  leads (tree.unary m o e) = λ f d. record { way = in_unary m o e d; path = refl; used = λ u. refl; barred = λ base z. refl }
  leads (tree.bump m o e) = λ f d. record { way = in_bump m o e d; path = refl; used = λ u. refl; barred = λ base z. refl }
  leads (tree.binary m o l r) = two_lead (tree.binary m o l r) valued (is_lazy o) l r
      (λ f d. record { way = in_right m o l r d; path = refl; used = λ u. refl; barred = λ base z. right_barred m o l r f d base z })
      (λ f d. record { way = in_left m o l r d; path = refl; used = λ u. refl; barred = λ base z. refl })
  leads (tree.assign m l r) = two_lead (tree.assign m l r) assigned false l r
      (λ f d. record { way = in_value m l r d; path = refl; used = λ u. refl; barred = λ base z. refl })
      (λ f d. record { way = in_assigned m l r d; path = refl; used = λ u. refl; barred = λ base z. refl })
  leads (tree.compound m o l r) = two_lead (tree.compound m o l r) changed false l r
      (λ f d. record { way = in_change m o l r d; path = refl; used = λ u. refl; barred = λ base z. refl })
      (λ f d. record { way = in_changed m o l r d; path = refl; used = λ u. refl; barred = λ base z. refl })
  leads (tree.super_call m w es) = argument_leads (tree.super_call m w es) es 1 (λ f d. in_super_argument m w es d) (λ f d. refl) (λ f d u. refl) (λ f d base o. refl)
  leads (tree.create m t es) = argument_leads (tree.create m t es) es 1 (λ f d. in_created m t es d) (λ f d. refl) (λ f d u. refl) (λ f d base o. refl)
  leads (tree.call m tree.no_target w es) = argument_leads (tree.call m tree.no_target w es) es 1 (λ f d. in_argument m tree.no_target w es d) (λ f d. refl) (λ f d u. refl) (λ f d base o. refl)
  leads (tree.call m (tree.on e) w es) = either (Of (Leads (tree.call m (tree.on e) w es))) (is_behind itself s (exp_mark e)) (in_row s 2 es) (into 0 valued false e)
      (argument_leads (tree.call m (tree.on e) w es) es 2 (λ f d. in_argument m (tree.on e) w es d) (λ f d. refl) (λ f d u. refl) (λ f d base o. refl))
      (λ f d. record { way = in_target m e w es d; path = refl; used = λ u. refl; barred = λ base o. refl })

-- ---- a search by spans

-- what it finds in the part
abbrev pub follow : Span → (at : ℕ) → Option Step → Option (List ℕ)
follow s at None = None
follow s at (Some x) = onto x.number (find_exp itself s at x.part)

module _ (s : Span) where
  not_here : (b : Bool) (w : Option (List ℕ)) → b ≡ false → here_or b w ≡ w
  not_here false w e = refl
  not_here true w e = absurd (apart e)
    where
      apart : true ≡ false → ⊥
      apart j = cc

  row_follows : (es : tree.Exps Span) (at i : ℕ) → find_exps itself s at i es ≡ follow s at (in_row s i es)
  unfolding choose
  row_follows tree.end at i = refl
  row_follows (tree.more e es) at i = by (is_behind itself s (exp_mark e)) (row_follows es at (suc i))
    where
      by : (b : Bool) → find_exps itself s at (suc i) es ≡ follow s at (in_row s (suc i) es)
          → (if b then find_exps itself s at (suc i) es else onto i (find_exp itself s at e))
          ≡ follow s at (option_map as_argument (if b then choose s (suc i) es else Some (record { number = i; part = e })))
      by true h = h
      by false h = refl

  two_follow : (b : Bool) (at : ℕ) (u : Use) (lazy : Bool) (l r : tree.Exp Span)
      → (if b then onto 1 (find_exp itself s at r) else onto 0 (find_exp itself s at l)) ≡ follow s at (if b then into 1 valued lazy r else into 0 u false l)
  two_follow true at u lazy l r = refl
  two_follow false at u lazy l r = refl

  call_follows : (b : Bool) (at : ℕ) (e : tree.Exp Span) (es : tree.Exps Span)
      → (if b then find_exps itself s at 2 es else onto 0 (find_exp itself s at e)) ≡ follow s at (if b then in_row s 2 es else into 0 valued false e)
  call_follows true at e es = row_follows es at 2
  call_follows false at e es = refl

  -- the expression itself has another span
  pub follows : (base : ℕ) (e : tree.Exp Span) → same_span (exp_mark e) s ≡ false → find_exp itself s base e ≡ follow s (exp_mark e).from (inward s e)
  follows base (tree.number m n) h = not_here (same_span m s) None h
  follows base (tree.truth m b) h = not_here (same_span m s) None h
  follows base (tree.null m) h = not_here (same_span m s) None h
  follows base (tree.string m t) h = not_here (same_span m s) None h
  follows base (tree.name m w) h = not_here (same_span m s) None h
  follows base (tree.super_field m w) h = not_here (same_span m s) None h
  follows base (tree.this m) h = not_here (same_span m s) None h
  follows base (tree.class_literal m t) h = not_here (same_span m s) None h
  follows base (tree.field m e w) h = not_here (same_span m s) (onto 0 (find_exp itself s m.from e)) h
  follows base (tree.paren m e) h = not_here (same_span m s) (onto 0 (find_exp itself s m.from e)) h
  follows base (tree.cast m t e) h = not_here (same_span m s) (onto 1 (find_exp itself s m.from e)) h
  follows base (tree.unary m o e) h = not_here (same_span m s) (onto 0 (find_exp itself s m.from e)) h
  follows base (tree.bump m o e) h = not_here (same_span m s) (onto 0 (find_exp itself s m.from e)) h
  follows base (tree.binary m o l r) h =
      not_here (same_span m s) (if is_behind itself s (exp_mark l) then onto 1 (find_exp itself s m.from r) else onto 0 (find_exp itself s m.from l)) h
      ∙ two_follow (is_behind itself s (exp_mark l)) m.from valued (is_lazy o) l r
  follows base (tree.assign m l r) h =
      not_here (same_span m s) (if is_behind itself s (exp_mark l) then onto 1 (find_exp itself s m.from r) else onto 0 (find_exp itself s m.from l)) h
      ∙ two_follow (is_behind itself s (exp_mark l)) m.from assigned false l r
  follows base (tree.compound m o l r) h =
      not_here (same_span m s) (if is_behind itself s (exp_mark l) then onto 1 (find_exp itself s m.from r) else onto 0 (find_exp itself s m.from l)) h
      ∙ two_follow (is_behind itself s (exp_mark l)) m.from changed false l r
  follows base (tree.super_call m w es) h = not_here (same_span m s) (find_exps itself s m.from 1 es) h ∙ row_follows es m.from 1
  follows base (tree.create m t es) h = not_here (same_span m s) (find_exps itself s m.from 1 es) h ∙ row_follows es m.from 1
  follows base (tree.call m tree.no_target w es) h = not_here (same_span m s) (find_exps itself s m.from 1 es) h ∙ row_follows es m.from 1
  follows base (tree.call m (tree.on e) w es) h =
      not_here (same_span m s) (if is_behind itself s (exp_mark e) then find_exps itself s m.from 2 es else onto 0 (find_exp itself s m.from e)) h
      ∙ call_follows (is_behind itself s (exp_mark e)) m.from e es

-- ---- it is smaller

abbrev pub Falls : tree.Exp Span → Step → Type 0
Falls e x = exp_size x.part < exp_size e

module _ (s : Span) where
  row_falls : (n : ℕ) (es : tree.Exps Span) (i : ℕ) → exps_size es < n → Of (λ (x : Step). exp_size x.part < n) (in_row s i es)
  unfolding exp_size exps_size target_size choose
  row_falls n tree.end i h = tt
  row_falls n (tree.more e es) i h = by (is_behind itself s (exp_mark e)) (row_falls n es (suc i) (omega (arith, h)))
    where
      by : (b : Bool) → Of (λ (x : Step). exp_size x.part < n) (in_row s (suc i) es) → Of (λ (x : Step). exp_size x.part < n) (option_map as_argument (if b then choose s (suc i) es else Some (record { number = i; part = e })))
      by true k = k
      by false k = omega (arith, h)

  pub falls : (e : tree.Exp Span) → Of (Falls e) (inward s e)
  unfolding exp_size exps_size target_size
  falls (tree.number m n) = tt
  falls (tree.truth m b) = tt
  falls (tree.null m) = tt
  falls (tree.string m t) = tt
  falls (tree.name m w) = tt
  falls (tree.super_field m w) = tt
  falls (tree.this m) = tt
  falls (tree.class_literal m t) = tt
  falls (tree.field m e w) = omega arith
  falls (tree.paren m e) = omega arith
  falls (tree.cast m t e) = omega arith
  falls (tree.unary m o e) = omega arith
  falls (tree.bump m o e) = omega arith
  falls (tree.binary m o l r) = either (Of (Falls (tree.binary m o l r))) (is_behind itself s (exp_mark l)) (into 1 valued (is_lazy o) r) (into 0 valued false l) (omega arith) (omega arith)
  falls (tree.assign m l r) = either (Of (Falls (tree.assign m l r))) (is_behind itself s (exp_mark l)) (into 1 valued false r) (into 0 assigned false l) (omega arith) (omega arith)
  falls (tree.compound m o l r) = either (Of (Falls (tree.compound m o l r))) (is_behind itself s (exp_mark l)) (into 1 valued false r) (into 0 changed false l) (omega arith) (omega arith)
  falls (tree.super_call m w es) = row_falls (suc (exps_size es)) es 1 (omega arith)
  falls (tree.create m t es) = row_falls (suc (exps_size es)) es 1 (omega arith)
  falls (tree.call m tree.no_target w es) = row_falls (suc (0 + exps_size es)) es 1 (omega arith)
  falls (tree.call m (tree.on e) w es) = either (Of (Falls (tree.call m (tree.on e) w es))) (is_behind itself s (exp_mark e)) (in_row s 2 es) (into 0 valued false e)
      (row_falls (suc (exp_size e + exps_size es)) es 2 (omega arith)) (omega arith)
