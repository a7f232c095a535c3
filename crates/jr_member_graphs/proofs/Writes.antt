-- The locals that an expression writes are those of its sites, whatever else is known.
use Rattle.std.proofs.Common.{◌≡◌, ℕ, suc, Bool, true, false, List, [], ◌∷◌, ◌++◌, Option, Some, None, refl, ap, ◌∙◌}
use Rattle.std.specs.Prelude.{◌&&◌, ◌||◌, not, is_none}
use Rattle.std.proofs.lemmas.List.{append-nil}
use Rattle.jr_text.specs.declared.spans.Span.{Span}
use Rattle.jr_ast.specs.declared.operators.BinOp.{BinOp}
use Rattle.jr_ast.specs.declared.operators.BinOp.TheVariants as op
use Rattle.jr_ast.specs.Tree as tree
use Rattle.jr_runs.specs.Keys.{Keys}
use Rattle.jr_table.specs.Rows.{Row}
use Rattle.jr_code.specs.RunKeys.{RunKeys, Place}
use Rattle.jr_cover.specs.Facts.{Variable, is_local, is_static_field, is_instance_field}
use Rattle.jr_cover.specs.Ways.{Way, pass, row, fork, sites_of}
use Rattle.jr_cover.specs.Sites as sites
use Rattle.jr_cover.specs.Sites.{What, Site, Known, at_place, is_class_name, exp_way, exps_way, operand_way}
use Rattle.jr_cover.specs.Spots.{Spot, onto, spot_exp, spot_exps}
use Rattle.jr_expr_sites.specs.Meanings as meaning
use Rattle.jr_expr_sites.specs.Meanings.{Meaning, local, field, class, nothing, is_class, field_variable, variable_of}
use Rattle.jr_expr_sites.specs.KnownFacts.{Given, Others, known_of, meaning_at, place, is_checked}
use Rattle.jr_expr_sites.specs.Routes.{begins_by, ends_by}
use Rattle.jr_member_graphs.specs.Notes.{unless, local_in, names_class, target_locals, exp_locals, receiver_locals, exps_locals, operand_locals}
use Rattle.jr_member_graphs.specs.NotesView.{with_written, written}

-- ---- of ways

module _ {K : Keys} where
  with_append : (w : What K) (l m : List ℕ) → with_written w (l ++ m) ≡ with_written w l ++ m
  with_append (sites.reads n) l m = refl
  with_append (sites.writes n) l m = refl
  with_append (sites.loads f) l m = refl
  with_append (sites.stores f) l m = refl
  with_append sites.enters l m = refl
  with_append sites.exits l m = refl
  with_append sites.creates l m = refl
  with_append sites.checks l m = refl
  with_append sites.calls l m = refl
  with_append sites.loops l m = refl

  pub written_append : (xs ys : List (Site K)) → written (xs ++ ys) ≡ written xs ++ written ys
  written_append [] ys = refl
  written_append (x ∷ xs) ys = ap (with_written x.what) (written_append xs ys) ∙ with_append x.what (written xs) (written ys)

  pub record Written (w : Way (Site K)) (ns : List ℕ) : Type 0 where
    pub is : written (sites_of w) ≡ ns

  row_written : {a b : Way (Site K)} {l m : List ℕ} → Written a l → Written b m → Written (row a b) (l ++ m)
  row_written {a = a} {b = b} e f = record { is = written_append (sites_of a) (sites_of b) ∙ (λ i. e.is i ++ f.is i) }

  fork_written : {a b : Way (Site K)} {l m : List ℕ} → Written a l → Written b m → Written (fork a b) (l ++ m)
  fork_written {a = a} {b = b} e f = record { is = written_append (sites_of a) (sites_of b) ∙ (λ i. e.is i ++ f.is i) }

  -- one of the two writes nothing
  row_first : {a b : Way (Site K)} {l : List ℕ} → Written a l → Written b [] → Written (row a b) l
  row_first {l = l} e f = record { is = (row_written e f).is ∙ append-nil l }

  row_second : {a b : Way (Site K)} {m : List ℕ} → Written a [] → Written b m → Written (row a b) m
  row_second e f = row_written e f

  fork_first : {a b : Way (Site K)} {l : List ℕ} → Written a l → Written b [] → Written (fork a b) l
  fork_first {l = l} e f = record { is = (fork_written e f).is ∙ append-nil l }

  unless_written : (b : Bool) (w : Way (Site K)) (l : List ℕ) → Written w l → Written (sites.unless b w) (unless b l)
  unless_written true w l h = record { is = refl }
  unless_written false w l h = h

  check_silent : (b : Bool) (p : K.place) → Written (sites.unless b (at_place {K = K} p sites.checks)) []
  check_silent true p = record { is = refl }
  check_silent false p = record { is = refl }

  field_check_silent : (w : Way (Site K)) (v : Option (Variable K)) → Written w [] → Written (sites.field_check w v) []
  field_check_silent w None h = record { is = refl }
  field_check_silent w (Some (is_local n)) h = record { is = refl }
  field_check_silent w (Some (is_static_field f)) h = h
  field_check_silent w (Some (is_instance_field f)) h = h

  load_silent : (p : K.place) (v : Option (Variable K)) → Written (sites.load_of p v) []
  load_silent p None = record { is = refl }
  load_silent p (Some (is_local n)) = record { is = refl }
  load_silent p (Some (is_static_field f)) = record { is = refl }
  load_silent p (Some (is_instance_field f)) = record { is = refl }

  field_load_silent : (p : K.place) (v : Option (Variable K)) → Written (sites.field_load p v) []
  field_load_silent p None = record { is = refl }
  field_load_silent p (Some (is_local n)) = record { is = refl }
  field_load_silent p (Some (is_static_field f)) = record { is = refl }
  field_load_silent p (Some (is_instance_field f)) = record { is = refl }

  field_store_silent : (p : K.place) (v : Option (Variable K)) → Written (sites.field_store p v) []
  field_store_silent p None = record { is = refl }
  field_store_silent p (Some (is_local n)) = record { is = refl }
  field_store_silent p (Some (is_static_field f)) = record { is = refl }
  field_store_silent p (Some (is_instance_field f)) = record { is = refl }

  operands_written : (of : BinOp) (l r c : Way (Site K)) (x y : List ℕ) → Written l x → Written r y → Written c [] → Written (sites.operands of l r c) (x ++ y)
  operands_written op.Or l r c x y e f h = row_written e (fork_first f (record { is = refl }))
  operands_written op.And l r c x y e f h = row_written e (fork_first f (record { is = refl }))
  operands_written op.Eq l r c x y e f h = row_written e (row_first f h)
  operands_written op.Ne l r c x y e f h = row_written e (row_first f h)
  operands_written op.Lt l r c x y e f h = row_written e (row_first f h)
  operands_written op.Gt l r c x y e f h = row_written e (row_first f h)
  operands_written op.Le l r c x y e f h = row_written e (row_first f h)
  operands_written op.Ge l r c x y e f h = row_written e (row_first f h)
  operands_written op.Add l r c x y e f h = row_written e (row_first f h)
  operands_written op.Sub l r c x y e f h = row_written e (row_first f h)
  operands_written op.Mul l r c x y e f h = row_written e (row_first f h)
  operands_written op.Div l r c x y e f h = row_written e (row_first f h)
  operands_written op.Rem l r c x y e f h = row_written e (row_first f h)

-- ---- of names

store_written : (rows : List Row) (p : Place) (m : Meaning) → Written {K = RunKeys} (sites.store_of p (variable_of rows m)) (local_in m)
store_written rows p (local n) = record { is = refl }
store_written rows p (field k) = by (meaning.is_static_field rows k)
  where
    by : (b : Bool) → Written {K = RunKeys} (sites.store_of p (Some (field_variable b k))) []
    by true = record { is = refl }
    by false = record { is = refl }
store_written rows p class = record { is = refl }
store_written rows p nothing = record { is = refl }

class_is : (rows : List Row) (m : Meaning) → (is_none (variable_of rows m) && is_class m) ≡ is_class m
class_is rows (local n) = refl
class_is rows (field k) = refl
class_is rows class = refl
class_is rows nothing = refl

-- ---- of expressions

module _ {A : Type 0} (tells : A → ℕ → Span) (g : Given) (o : Others) where
  abbrev B : A → ℕ → ℕ
  B = begins_by tells

  abbrev E : A → ℕ → ℕ
  E = ends_by tells

  abbrev X : Known RunKeys Spot
  X = known_of g o

  abbrev M : ℕ → Meaning
  M = meaning_at g

  abbrev byte : tree.Word A → ℕ → ℕ
  byte w at = B w.mark at

  abbrev variable : ℕ → Option (Variable RunKeys)
  variable at = variable_of g.rows (M at)

  class_same : (e : tree.Exp A) (base : ℕ) (p : List ℕ) → is_class_name X (spot_exp B E e base p) ≡ names_class tells M base e
  unfolding spot_exp spot_exps
  class_same (tree.name m w) base p = class_is g.rows (M (byte w (B m base)))
  class_same (tree.field m e w) base p = class_is g.rows (M (byte w (B m base)))
  class_same (tree.number m n) base p = refl
  class_same (tree.truth m b) base p = refl
  class_same (tree.null m) base p = refl
  class_same (tree.string m s) base p = refl
  class_same (tree.super_field m w) base p = refl
  class_same (tree.this m) base p = refl
  class_same (tree.class_literal m t) base p = refl
  class_same (tree.call m tree.no_target w es) base p = refl
  class_same (tree.call m (tree.on e) w es) base p = refl
  class_same (tree.super_call m w es) base p = refl
  class_same (tree.create m t es) base p = refl
  class_same (tree.paren m e) base p = refl
  class_same (tree.cast m t e) base p = refl
  class_same (tree.unary m of e) base p = refl
  class_same (tree.bump m of t) base p = refl
  class_same (tree.binary m of l r) base p = refl
  class_same (tree.assign m t e) base p = refl
  class_same (tree.compound m of t e) base p = refl

  left_written : (e : tree.Exp A) (base : ℕ) (p : List ℕ) → Written (exp_way X (spot_exp B E e base p)) (exp_locals tells M base e)
      → Written (sites.unless (is_class_name X (spot_exp B E e base p)) (exp_way X (spot_exp B E e base p))) (unless (names_class tells M base e) (exp_locals tells M base e))
  left_written e base p h = record {
    is = ap (λ (b : Bool). written (sites_of (sites.unless b (exp_way X (spot_exp B E e base p))))) (class_same e base p)
        ∙ (unless_written (names_class tells M base e) (exp_way X (spot_exp B E e base p)) (exp_locals tells M base e) h).is;
  }

  null_silent : (e : tree.Exp Spot) (q : Place) → Written (sites.null_check X e q) []
  null_silent e q = check_silent (is_class_name X e || X.never_null e) q

  store_target : (t : tree.Exp A) (base : ℕ) (p : List ℕ) → Written (sites.target_store X (spot_exp B E t base p)) (target_locals tells M base t)
  unfolding spot_exp spot_exps
  store_target (tree.name m w) base p = store_written g.rows (place g (byte w (B m base))) (M (byte w (B m base)))
  store_target (tree.field m e w) base p = field_store_silent (place g (byte w (B m base))) (variable (byte w (B m base)))
  store_target (tree.super_field m w) base p = field_store_silent (place g (byte w (B m base))) (variable (byte w (B m base)))
  store_target (tree.number m n) base p = record { is = refl }
  store_target (tree.truth m b) base p = record { is = refl }
  store_target (tree.null m) base p = record { is = refl }
  store_target (tree.string m s) base p = record { is = refl }
  store_target (tree.this m) base p = record { is = refl }
  store_target (tree.class_literal m t) base p = record { is = refl }
  store_target (tree.call m tree.no_target w es) base p = record { is = refl }
  store_target (tree.call m (tree.on e) w es) base p = record { is = refl }
  store_target (tree.super_call m w es) base p = record { is = refl }
  store_target (tree.create m t es) base p = record { is = refl }
  store_target (tree.paren m e) base p = record { is = refl }
  store_target (tree.cast m t e) base p = record { is = refl }
  store_target (tree.unary m of e) base p = record { is = refl }
  store_target (tree.bump m of t) base p = record { is = refl }
  store_target (tree.binary m of l r) base p = record { is = refl }
  store_target (tree.assign m t e) base p = record { is = refl }
  store_target (tree.compound m of t e) base p = record { is = refl }

  check_target : (t : tree.Exp Spot) → Written (sites.target_check X t) []
  check_target (tree.field m e w) = field_check_silent (sites.null_check X e (X.facts.first w.mark)) (X.facts.variable w.mark) (null_silent e (X.facts.first w.mark))
  check_target (tree.name m w) = record { is = refl }
  check_target (tree.super_field m w) = record { is = refl }
  check_target (tree.number m n) = record { is = refl }
  check_target (tree.truth m b) = record { is = refl }
  check_target (tree.null m) = record { is = refl }
  check_target (tree.string m s) = record { is = refl }
  check_target (tree.this m) = record { is = refl }
  check_target (tree.class_literal m t) = record { is = refl }
  check_target (tree.call m t w es) = record { is = refl }
  check_target (tree.super_call m w es) = record { is = refl }
  check_target (tree.create m t es) = record { is = refl }
  check_target (tree.paren m e) = record { is = refl }
  check_target (tree.cast m t e) = record { is = refl }
  check_target (tree.unary m of e) = record { is = refl }
  check_target (tree.bump m of t) = record { is = refl }
  check_target (tree.binary m of l r) = record { is = refl }
  check_target (tree.assign m t e) = record { is = refl }
  check_target (tree.compound m of t e) = record { is = refl }

  load_target : (t : tree.Exp Spot) → Written (sites.target_load X t) []
  load_target (tree.name m w) = load_silent (X.facts.first w.mark) (X.facts.variable w.mark)
  load_target (tree.field m e w) =
      row_first (field_check_silent (sites.null_check X e (X.facts.first w.mark)) (X.facts.variable w.mark) (null_silent e (X.facts.first w.mark))) (field_load_silent (X.facts.first w.mark) (X.facts.variable w.mark))
  load_target (tree.super_field m w) = field_load_silent (X.facts.first w.mark) (X.facts.variable w.mark)
  load_target (tree.number m n) = record { is = refl }
  load_target (tree.truth m b) = record { is = refl }
  load_target (tree.null m) = record { is = refl }
  load_target (tree.string m s) = record { is = refl }
  load_target (tree.this m) = record { is = refl }
  load_target (tree.class_literal m t) = record { is = refl }
  load_target (tree.call m t w es) = record { is = refl }
  load_target (tree.super_call m w es) = record { is = refl }
  load_target (tree.create m t es) = record { is = refl }
  load_target (tree.paren m e) = record { is = refl }
  load_target (tree.cast m t e) = record { is = refl }
  load_target (tree.unary m of e) = record { is = refl }
  load_target (tree.bump m of t) = record { is = refl }
  load_target (tree.binary m of l r) = record { is = refl }
  load_target (tree.assign m t e) = record { is = refl }
  load_target (tree.compound m of t e) = record { is = refl }

  divisor_silent : (of : BinOp) (e : tree.Exp Spot) → Written (sites.divisor_check X of e) []
  divisor_silent of e = check_silent (not (sites.divides of) || sites.is_nonzero e) (X.facts.first (sites.mark_of e))

  mutual
    unfolding spot_exp spot_exps exp_locals receiver_locals exps_locals operand_locals

    pub exp_written : (e : tree.Exp A) (base : ℕ) (p : List ℕ) → Written (exp_way X (spot_exp B E e base p)) (exp_locals tells M base e)
    exp_written (tree.number m n) base p = record { is = refl }
    exp_written (tree.truth m b) base p = record { is = refl }
    exp_written (tree.null m) base p = record { is = refl }
    exp_written (tree.string m s) base p = record { is = refl }
    exp_written (tree.name m w) base p = load_silent (place g (byte w (B m base))) (variable (byte w (B m base)))
    exp_written (tree.field m e w) base p =
        let at = B m base in
        let q = place g (byte w at) in
        let v = variable (byte w at) in
        row_first (left_written e at (onto p 0) (exp_written e at (onto p 0)))
        (row_first (field_check_silent (sites.null_check X (spot_exp B E e at (onto p 0)) q) v (null_silent (spot_exp B E e at (onto p 0)) q)) (field_load_silent q v))
    exp_written (tree.super_field m w) base p = field_load_silent (place g (byte w (B m base))) (variable (byte w (B m base)))
    exp_written (tree.this m) base p = record { is = refl }
    exp_written (tree.class_literal m t) base p = record { is = refl }
    exp_written (tree.call m tree.no_target w es) base p =
        row_second (record { is = refl }) (row_first (exps_written es (B m base) p 1) (row_first {a = pass} (record { is = refl }) (record { is = refl })))
    exp_written (tree.call m (tree.on e) w es) base p =
        let at = B m base in
        row_written (left_written e at (onto p 0) (exp_written e at (onto p 0)))
        (row_first (exps_written es at p 2) (row_first (null_silent (spot_exp B E e at (onto p 0)) (place g (byte w at))) (record { is = refl })))
    exp_written (tree.super_call m w es) base p = row_first (exps_written es (B m base) p 1) (record { is = refl })
    exp_written (tree.create m t es) base p = row_second (record { is = refl }) (row_first (exps_written es (B m base) p 1) (record { is = refl }))
    exp_written (tree.paren m e) base p = exp_written e (B m base) (onto p 0)
    exp_written (tree.cast m t e) base p =
        row_first (exp_written e (B m base) (onto p 1)) (check_silent (not (is_checked g.rows (g.types (p ++ 1 ∷ [])) (g.types p))) (place g (B m base)))
    exp_written (tree.unary m of e) base p = exp_written e (B m base) (onto p 0)
    exp_written (tree.bump m of t) base p =
        let at = B m base in
        row_written (operand_written t at (onto p 0)) (row_second (load_target (spot_exp B E t at (onto p 0))) (store_target t at (onto p 0)))
    exp_written (tree.binary m of l r) base p =
        let at = B m base in
        operands_written of (exp_way X (spot_exp B E l at (onto p 0))) (exp_way X (spot_exp B E r at (onto p 1))) (sites.divisor_check X of (spot_exp B E r at (onto p 1)))
        (exp_locals tells M at l) (exp_locals tells M at r) (exp_written l at (onto p 0)) (exp_written r at (onto p 1)) (divisor_silent of (spot_exp B E r at (onto p 1)))
    exp_written (tree.assign m t e) base p =
        let at = B m base in
        row_written (operand_written t at (onto p 0)) (row_written (exp_written e at (onto p 1)) (row_second (check_target (spot_exp B E t at (onto p 0))) (store_target t at (onto p 0))))
    exp_written (tree.compound m of t e) base p =
        let at = B m base in
        row_written (operand_written t at (onto p 0))
        (row_second (load_target (spot_exp B E t at (onto p 0))) (row_written (exp_written e at (onto p 1)) (row_second (divisor_silent of (spot_exp B E e at (onto p 1))) (store_target t at (onto p 0)))))

    pub exps_written : (es : tree.Exps A) (at : ℕ) (p : List ℕ) (i : ℕ) → Written (exps_way X (spot_exps B E es at p i)) (exps_locals tells M at es)
    exps_written tree.end at p i = record { is = refl }
    exps_written (tree.more e es) at p i = row_written (exp_written e at (onto p i)) (exps_written es at p (suc i))

    operand_written : (t : tree.Exp A) (base : ℕ) (p : List ℕ) → Written (operand_way X (spot_exp B E t base p)) (operand_locals tells M base t)
    operand_written (tree.field m e w) base p = left_written e (B m base) (onto p 0) (exp_written e (B m base) (onto p 0))
    operand_written (tree.name m w) base p = record { is = refl }
    operand_written (tree.super_field m w) base p = record { is = refl }
    operand_written (tree.number m n) base p = record { is = refl }
    operand_written (tree.truth m b) base p = record { is = refl }
    operand_written (tree.null m) base p = record { is = refl }
    operand_written (tree.string m s) base p = record { is = refl }
    operand_written (tree.this m) base p = record { is = refl }
    operand_written (tree.class_literal m t) base p = record { is = refl }
    operand_written (tree.call m tree.no_target w es) base p = record { is = refl }
    operand_written (tree.call m (tree.on e) w es) base p = record { is = refl }
    operand_written (tree.super_call m w es) base p = record { is = refl }
    operand_written (tree.create m t es) base p = record { is = refl }
    operand_written (tree.paren m e) base p = record { is = refl }
    operand_written (tree.cast m t e) base p = record { is = refl }
    operand_written (tree.unary m of e) base p = record { is = refl }
    operand_written (tree.bump m of t) base p = record { is = refl }
    operand_written (tree.binary m of l r) base p = record { is = refl }
    operand_written (tree.assign m t e) base p = record { is = refl }
    operand_written (tree.compound m of t e) base p = record { is = refl }
