-- An expression is found by its span: by induction on its way, each part that ends in front of the
-- span's end is passed, and the first that doesn't holds it.
use Rattle.std.proofs.Common.{◌≡◌, ◌⊎◌, ℕ, suc, ◌<◌, ◌≤◌, nat_lt, nat_eq, Bool, true, false, ◌&&◌, List, [], ◌∷◌, Option, Some, if◌then◌else◌, refl, ap, subst, inl, inr, arith}
use Rattle.std.proofs.lemmas.Bool.{lt-ltb, le-ltb, ne_eqb, eq-eqb}
use Rattle.jr_text.specs.declared.spans.Span.{Span}
use Rattle.jr_ast.specs.Tree as tree
use Rattle.jr_ast.specs.StatementTree as statement
use Rattle.jr_pieces.specs.Ways.{ExpWay, here, in_front, in_target, in_argument, in_super_argument, in_created, in_paren, in_cast, in_unary, in_bump, in_left, in_right, in_assigned, in_value, in_changed, in_change}
use Rattle.jr_pieces.specs.Ways.{ExpsWay, first_argument, later_argument, StmtWay, in_init, in_eval, in_condition, in_then, in_else, in_turning, in_body, in_returned, in_block, in_lock, in_locked, ListWay, first, later}
use Rattle.jr_pieces.specs.Finding.{same_span, onto, here_or, exp_span, stmt_span, is_behind, find_exp, find_exps, find_stmt, find_list, exp_end, exps_end, stmt_end, list_end, exp_path, exps_path, stmt_path, list_path}
use Rattle.jr_pieces.specs.Nesting.{Within, ExpNested, PartNested, PartsNested, StmtNested, ListNested, SpansTellWays}

-- ---- tests

same_number : (a b : ℕ) → a ≡ b → nat_eq a b ≡ true
same_number a b e = eq-eqb a b e

is_same : (x s : Span) → x ≡ s → same_span x s ≡ true
is_same x s e = both (nat_eq x.from s.from) (nat_eq x.to s.to) (same_number x.from s.from (ap (λ (y : Span). y.from) e)) (same_number x.to s.to (ap (λ (y : Span). y.to) e))
  where
    both : (a b : Bool) → a ≡ true → b ≡ true → (a && b) ≡ true
    both true b p q = q
    both false b p q = cc

left_false : (a b : Bool) → a ≡ false → (a && b) ≡ false
left_false false b e = refl
left_false true b e = cc

right_false : (a b : Bool) → b ≡ false → (a && b) ≡ false
right_false false b e = refl
right_false true b e = e

no_number : (a b : ℕ) → (a ≡ b → ⊥) → nat_eq a b ≡ false
no_number a b n = ne_eqb a b n

less_differs : (a b : ℕ) → a < b → a ≡ b → ⊥
less_differs a b l e = absurd (omega (arith, l, e))

more_differs : (a b : ℕ) → b < a → a ≡ b → ⊥
more_differs a b l e = absurd (omega (arith, l, e))

-- a whole isn't what stands within it
is_other : (lo : ℕ) (t whole : Span) → Within lo t whole → same_span whole t ≡ false
is_other lo t whole w = by w.more
  where
    by : (whole.from < t.from) ⊎ (t.to < whole.to) → same_span whole t ≡ false
    by (inl l) = left_false _ (nat_eq whole.to t.to) (no_number whole.from t.from (less_differs whole.from t.from l))
    by (inr l) = right_false (nat_eq whole.from t.from) _ (no_number whole.to t.to (more_differs whole.to t.to l))

found_here : (b : Bool) (w : Option (List ℕ)) → b ≡ true → here_or b w ≡ Some []
found_here true w e = refl
found_here false w e = cc

not_here : (b : Bool) (w r : Option (List ℕ)) → b ≡ false → w ≡ r → here_or b w ≡ r
not_here false w r e p = p
not_here true w r e p = cc

then_is : (b : Bool) (x y r : Option (List ℕ)) → b ≡ true → x ≡ r → (if b then x else y) ≡ r
then_is true x y r e p = p
then_is false x y r e p = cc

else_is : (b : Bool) (x y r : Option (List ℕ)) → b ≡ false → y ≡ r → (if b then x else y) ≡ r
else_is false x y r e p = p
else_is true x y r e p = cc

-- ---- spans within spans

-- it may be the whole
record Held (t part : Span) : Type 0 where
  from : part.from ≤ t.from
  ordered : t.from < t.to
  to : t.to ≤ part.to

all_held : (t : Span) → t.from < t.to → Held t t
all_held t o = record { from = omega arith; ordered = o; to = omega arith }

within_held : {lo : ℕ} {t whole : Span} → Within lo t whole → Held t whole
within_held w = record { from = w.starts; ordered = w.ordered; to = w.ends }

held_within : (lo : ℕ) (t part whole : Span) → Within lo part whole → Held t part → Within lo t whole
held_within lo t part whole w h = record {
  from = omega (arith, w.from, h.from);
  ordered = h.ordered;
  starts = omega (arith, w.starts, h.from);
  ends = omega (arith, w.ends, h.to);
  more = by w.more;
}
  where
    by : (whole.from < part.from) ⊎ (part.to < whole.to) → (whole.from < t.from) ⊎ (t.to < whole.to)
    by (inl l) = inl (omega (arith, l, h.from))
    by (inr l) = inr (omega (arith, l, h.to))

-- the same from an earlier place on
pub from_earlier : (lo mid : ℕ) (t whole : Span) → lo ≤ mid → Within mid t whole → Within lo t whole
from_earlier lo mid t whole l w = record {
  from = omega (arith, l, w.from);
  ordered = w.ordered;
  starts = w.starts;
  ends = w.ends;
  more = w.more;
}

-- what doesn't end behind a part, and what does
stays : (s t part : Span) → t ≡ s → Held t part → nat_lt part.to s.to ≡ false
stays s t part e h = le-ltb part.to s.to (subst (λ (y : Span). y.to ≤ part.to) e h.to)

goes_on : (s t part whole : Span) → t ≡ s → Within part.to t whole → nat_lt part.to s.to ≡ true
goes_on s t part whole e w = lt-ltb part.to s.to (subst (λ (y : Span). part.to < y.to) e (omega (arith, w.from, w.ordered)))

-- ---- what is found

-- t is the span of what is looked for
record Done (t part : Span) (Find : Span → Option (List ℕ)) (path : List ℕ) : Type 0 where
  held : Held t part
  finds : (s : Span) → t ≡ s → Find s ≡ Some path

record Among (lo : ℕ) (t whole : Span) (Find : Span → Option (List ℕ)) (path : List ℕ) : Type 0 where
  within : Within lo t whole
  finds : (s : Span) → t ≡ s → Find s ≡ Some path

-- within a node, where nothing else is looked for first
goes_in : (lo : ℕ) (t whole : Span) (Find : Span → Option (List ℕ)) (path : List ℕ) → Among lo t whole Find path
    → Done t whole (λ s. here_or (same_span whole s) (Find s)) path
goes_in lo t whole Find path a = record {
  held = within_held a.within;
  finds = λ s e. not_here (same_span whole s) (Find s) (Some path)
      (subst (λ (y : Span). same_span whole y ≡ false) e (is_other lo t whole a.within)) (a.finds s e);
}

-- what stands within a node is done in it
all_in : (lo : ℕ) (t whole : Span) (Find : Span → Option (List ℕ)) (path : List ℕ) → Among lo t whole Find path → Done t whole Find path
all_in lo t whole Find path a = record { held = within_held a.within; finds = a.finds }

-- in a part, by the number of the child
one_part : (i lo : ℕ) (t part whole : Span) (Find : Span → Option (List ℕ)) (path : List ℕ) → Within lo part whole
    → Done t part Find path → Among lo t whole (λ s. onto i (Find s)) (i ∷ path)
one_part i lo t part whole Find path w d = record {
  within = held_within lo t part whole w d.held;
  finds = λ s e. ap (onto i) (d.finds s e);
}

-- in the first of two parts, and behind it
in_the_first : (i lo : ℕ) (t part whole : Span) (Find Other : Span → Option (List ℕ)) (path : List ℕ) → Within lo part whole
    → Done t part Find path → Among lo t whole (λ s. if nat_lt part.to s.to then Other s else onto i (Find s)) (i ∷ path)
in_the_first i lo t part whole Find Other path w d = record {
  within = held_within lo t part whole w d.held;
  finds = λ s e. else_is (nat_lt part.to s.to) (Other s) (onto i (Find s)) (Some (i ∷ path)) (stays s t part e d.held) (ap (onto i) (d.finds s e));
}

behind_it : (lo : ℕ) (t part whole : Span) (Find Other : Span → Option (List ℕ)) (path : List ℕ) → Within lo part whole
    → Among part.to t whole Find path → Among lo t whole (λ s. if nat_lt part.to s.to then Find s else Other s) path
behind_it lo t part whole Find Other path w a = record {
  within = from_earlier lo part.to t whole (omega (arith, w.from, w.ordered)) a.within;
  finds = λ s e. then_is (nat_lt part.to s.to) (Find s) (Other s) (Some path) (goes_on s t part whole e a.within) (a.finds s e);
}

-- ---- expressions

module _ {A : Type 0} (tells : A → ℕ → Span) (f : tree.Exp A) where
  itself : (e : tree.Exp A) (base : ℕ) (s : Span) → exp_span tells base e ≡ s → find_exp tells s base e ≡ Some []
  itself (tree.number m n) base s q = found_here (same_span (tells m base) s) _ (is_same (tells m base) s q)
  itself (tree.truth m b) base s q = found_here (same_span (tells m base) s) _ (is_same (tells m base) s q)
  itself (tree.null m) base s q = found_here (same_span (tells m base) s) _ (is_same (tells m base) s q)
  itself (tree.string m t) base s q = found_here (same_span (tells m base) s) _ (is_same (tells m base) s q)
  itself (tree.name m w) base s q = found_here (same_span (tells m base) s) _ (is_same (tells m base) s q)
  itself (tree.field m e w) base s q = found_here (same_span (tells m base) s) _ (is_same (tells m base) s q)
  itself (tree.super_field m w) base s q = found_here (same_span (tells m base) s) _ (is_same (tells m base) s q)
  itself (tree.this m) base s q = found_here (same_span (tells m base) s) _ (is_same (tells m base) s q)
  itself (tree.class_literal m t) base s q = found_here (same_span (tells m base) s) _ (is_same (tells m base) s q)
  itself (tree.super_call m w es) base s q = found_here (same_span (tells m base) s) _ (is_same (tells m base) s q)
  itself (tree.create m t es) base s q = found_here (same_span (tells m base) s) _ (is_same (tells m base) s q)
  itself (tree.paren m e) base s q = found_here (same_span (tells m base) s) _ (is_same (tells m base) s q)
  itself (tree.cast m t e) base s q = found_here (same_span (tells m base) s) _ (is_same (tells m base) s q)
  itself (tree.unary m o e) base s q = found_here (same_span (tells m base) s) _ (is_same (tells m base) s q)
  itself (tree.bump m o e) base s q = found_here (same_span (tells m base) s) _ (is_same (tells m base) s q)
  itself (tree.binary m o l r) base s q = found_here (same_span (tells m base) s) _ (is_same (tells m base) s q)
  itself (tree.assign m l r) base s q = found_here (same_span (tells m base) s) _ (is_same (tells m base) s q)
  itself (tree.compound m o l r) base s q = found_here (same_span (tells m base) s) _ (is_same (tells m base) s q)
  itself (tree.call m tree.no_target w es) base s q = found_here (same_span (tells m base) s) _ (is_same (tells m base) s q)
  itself (tree.call m (tree.on e) w es) base s q = found_here (same_span (tells m base) s) _ (is_same (tells m base) s q)

  -- the same, as it is said of ways
  abbrev ExpDone : (e : tree.Exp A) → ExpWay f e → (base : ℕ) → Type 0
  ExpDone e d base = Done (exp_end tells base d) (exp_span tells base e) (λ s. find_exp tells s base e) (exp_path d)

  abbrev RowDone : (es : tree.Exps A) → ExpsWay f es → (whole : Span) → (lo i : ℕ) → Type 0
  RowDone es d whole lo i = Among lo (exps_end tells whole.from d) whole (λ s. find_exps tells s whole.from i es) (exps_path i d)

  mutual
    exp_done : (e : tree.Exp A) (d : ExpWay f e) (base : ℕ) → (exp_span tells base e).from < (exp_span tells base e).to → ExpNested tells base e
        → ExpDone e d base
    exp_done e here base up n = record { held = all_held (exp_span tells base e) up; finds = itself e base }
    exp_done _ (in_front m e w d) base up (w1, n) =
        goes_in (tells m base).from (exp_end tells (tells m base).from d) (tells m base) (λ s. onto 0 (find_exp tells s (tells m base).from e)) (0 ∷ exp_path d)
        (one_part 0 (tells m base).from (exp_end tells (tells m base).from d) (exp_span tells (tells m base).from e) (tells m base) (λ s. find_exp tells s (tells m base).from e) (exp_path d) w1 (exp_done e d (tells m base).from w1.ordered n))
    exp_done _ (in_paren m e d) base up (w1, n) =
        goes_in (tells m base).from (exp_end tells (tells m base).from d) (tells m base) (λ s. onto 0 (find_exp tells s (tells m base).from e)) (0 ∷ exp_path d)
        (one_part 0 (tells m base).from (exp_end tells (tells m base).from d) (exp_span tells (tells m base).from e) (tells m base) (λ s. find_exp tells s (tells m base).from e) (exp_path d) w1 (exp_done e d (tells m base).from w1.ordered n))
    exp_done _ (in_cast m t e d) base up (w1, n) =
        goes_in (tells m base).from (exp_end tells (tells m base).from d) (tells m base) (λ s. onto 1 (find_exp tells s (tells m base).from e)) (1 ∷ exp_path d)
        (one_part 1 (tells m base).from (exp_end tells (tells m base).from d) (exp_span tells (tells m base).from e) (tells m base) (λ s. find_exp tells s (tells m base).from e) (exp_path d) w1 (exp_done e d (tells m base).from w1.ordered n))
    exp_done _ (in_unary m o e d) base up (w1, n) =
        goes_in (tells m base).from (exp_end tells (tells m base).from d) (tells m base) (λ s. onto 0 (find_exp tells s (tells m base).from e)) (0 ∷ exp_path d)
        (one_part 0 (tells m base).from (exp_end tells (tells m base).from d) (exp_span tells (tells m base).from e) (tells m base) (λ s. find_exp tells s (tells m base).from e) (exp_path d) w1 (exp_done e d (tells m base).from w1.ordered n))
    exp_done _ (in_bump m o e d) base up (w1, n) =
        goes_in (tells m base).from (exp_end tells (tells m base).from d) (tells m base) (λ s. onto 0 (find_exp tells s (tells m base).from e)) (0 ∷ exp_path d)
        (one_part 0 (tells m base).from (exp_end tells (tells m base).from d) (exp_span tells (tells m base).from e) (tells m base) (λ s. find_exp tells s (tells m base).from e) (exp_path d) w1 (exp_done e d (tells m base).from w1.ordered n))
    exp_done _ (in_target m e w es d) base up ((w1, n), n2) =
        goes_in (tells m base).from (exp_end tells (tells m base).from d) (tells m base) (λ s. if is_behind tells s (exp_span tells (tells m base).from e) then find_exps tells s (tells m base).from 2 es else onto 0 (find_exp tells s (tells m base).from e)) (0 ∷ exp_path d)
        (in_the_first 0 (tells m base).from (exp_end tells (tells m base).from d) (exp_span tells (tells m base).from e) (tells m base) (λ s. find_exp tells s (tells m base).from e) (λ s. find_exps tells s (tells m base).from 2 es) (exp_path d) w1 (exp_done e d (tells m base).from w1.ordered n))
    exp_done _ (in_left m o l r d) base up ((w1, n), n2) =
        goes_in (tells m base).from (exp_end tells (tells m base).from d) (tells m base) (λ s. if is_behind tells s (exp_span tells (tells m base).from l) then onto 1 (find_exp tells s (tells m base).from r) else onto 0 (find_exp tells s (tells m base).from l)) (0 ∷ exp_path d)
        (in_the_first 0 (tells m base).from (exp_end tells (tells m base).from d) (exp_span tells (tells m base).from l) (tells m base) (λ s. find_exp tells s (tells m base).from l) (λ s. onto 1 (find_exp tells s (tells m base).from r)) (exp_path d) w1 (exp_done l d (tells m base).from w1.ordered n))
    exp_done _ (in_assigned m t e d) base up ((w1, n), n2) =
        goes_in (tells m base).from (exp_end tells (tells m base).from d) (tells m base) (λ s. if is_behind tells s (exp_span tells (tells m base).from t) then onto 1 (find_exp tells s (tells m base).from e) else onto 0 (find_exp tells s (tells m base).from t)) (0 ∷ exp_path d)
        (in_the_first 0 (tells m base).from (exp_end tells (tells m base).from d) (exp_span tells (tells m base).from t) (tells m base) (λ s. find_exp tells s (tells m base).from t) (λ s. onto 1 (find_exp tells s (tells m base).from e)) (exp_path d) w1 (exp_done t d (tells m base).from w1.ordered n))
    exp_done _ (in_changed m o t e d) base up ((w1, n), n2) =
        goes_in (tells m base).from (exp_end tells (tells m base).from d) (tells m base) (λ s. if is_behind tells s (exp_span tells (tells m base).from t) then onto 1 (find_exp tells s (tells m base).from e) else onto 0 (find_exp tells s (tells m base).from t)) (0 ∷ exp_path d)
        (in_the_first 0 (tells m base).from (exp_end tells (tells m base).from d) (exp_span tells (tells m base).from t) (tells m base) (λ s. find_exp tells s (tells m base).from t) (λ s. onto 1 (find_exp tells s (tells m base).from e)) (exp_path d) w1 (exp_done t d (tells m base).from w1.ordered n))
    exp_done _ (in_right m o l r d) base up ((w1, n), (w2, n2)) =
        goes_in (tells m base).from (exp_end tells (tells m base).from d) (tells m base) (λ s. if is_behind tells s (exp_span tells (tells m base).from l) then onto 1 (find_exp tells s (tells m base).from r) else onto 0 (find_exp tells s (tells m base).from l)) (1 ∷ exp_path d)
        (behind_it (tells m base).from (exp_end tells (tells m base).from d) (exp_span tells (tells m base).from l) (tells m base) (λ s. onto 1 (find_exp tells s (tells m base).from r)) (λ s. onto 0 (find_exp tells s (tells m base).from l)) (1 ∷ exp_path d) w1
        (one_part 1 (exp_span tells (tells m base).from l).to (exp_end tells (tells m base).from d) (exp_span tells (tells m base).from r) (tells m base) (λ s. find_exp tells s (tells m base).from r) (exp_path d) w2 (exp_done r d (tells m base).from w2.ordered n2)))
    exp_done _ (in_value m t e d) base up ((w1, n), (w2, n2)) =
        goes_in (tells m base).from (exp_end tells (tells m base).from d) (tells m base) (λ s. if is_behind tells s (exp_span tells (tells m base).from t) then onto 1 (find_exp tells s (tells m base).from e) else onto 0 (find_exp tells s (tells m base).from t)) (1 ∷ exp_path d)
        (behind_it (tells m base).from (exp_end tells (tells m base).from d) (exp_span tells (tells m base).from t) (tells m base) (λ s. onto 1 (find_exp tells s (tells m base).from e)) (λ s. onto 0 (find_exp tells s (tells m base).from t)) (1 ∷ exp_path d) w1
        (one_part 1 (exp_span tells (tells m base).from t).to (exp_end tells (tells m base).from d) (exp_span tells (tells m base).from e) (tells m base) (λ s. find_exp tells s (tells m base).from e) (exp_path d) w2 (exp_done e d (tells m base).from w2.ordered n2)))
    exp_done _ (in_change m o t e d) base up ((w1, n), (w2, n2)) =
        goes_in (tells m base).from (exp_end tells (tells m base).from d) (tells m base) (λ s. if is_behind tells s (exp_span tells (tells m base).from t) then onto 1 (find_exp tells s (tells m base).from e) else onto 0 (find_exp tells s (tells m base).from t)) (1 ∷ exp_path d)
        (behind_it (tells m base).from (exp_end tells (tells m base).from d) (exp_span tells (tells m base).from t) (tells m base) (λ s. onto 1 (find_exp tells s (tells m base).from e)) (λ s. onto 0 (find_exp tells s (tells m base).from t)) (1 ∷ exp_path d) w1
        (one_part 1 (exp_span tells (tells m base).from t).to (exp_end tells (tells m base).from d) (exp_span tells (tells m base).from e) (tells m base) (λ s. find_exp tells s (tells m base).from e) (exp_path d) w2 (exp_done e d (tells m base).from w2.ordered n2)))
    exp_done _ (in_super_argument m w es d) base up n =
        goes_in (tells m base).from (exps_end tells (tells m base).from d) (tells m base) (λ s. find_exps tells s (tells m base).from 1 es) (exps_path 1 d)
        (row_done es d (tells m base) (tells m base).from 1 n)
    exp_done _ (in_created m t es d) base up n =
        goes_in (tells m base).from (exps_end tells (tells m base).from d) (tells m base) (λ s. find_exps tells s (tells m base).from 1 es) (exps_path 1 d)
        (row_done es d (tells m base) (tells m base).from 1 n)
    exp_done _ (in_argument m tree.no_target w es d) base up n =
        goes_in (tells m base).from (exps_end tells (tells m base).from d) (tells m base) (λ s. find_exps tells s (tells m base).from 1 es) (exps_path 1 d)
        (row_done es d (tells m base) (tells m base).from 1 n)
    exp_done _ (in_argument m (tree.on e) w es d) base up ((w1, n), n2) =
        goes_in (tells m base).from (exps_end tells (tells m base).from d) (tells m base) (λ s. if is_behind tells s (exp_span tells (tells m base).from e) then find_exps tells s (tells m base).from 2 es else onto 0 (find_exp tells s (tells m base).from e)) (exps_path 2 d)
        (behind_it (tells m base).from (exps_end tells (tells m base).from d) (exp_span tells (tells m base).from e) (tells m base) (λ s. find_exps tells s (tells m base).from 2 es) (λ s. onto 0 (find_exp tells s (tells m base).from e)) (exps_path 2 d) w1
        (row_done es d (tells m base) (exp_span tells (tells m base).from e).to 2 n2))

    row_done : (es : tree.Exps A) (d : ExpsWay f es) (whole : Span) (lo i : ℕ) → PartsNested tells whole lo es → RowDone es d whole lo i
    row_done _ (first_argument e es d) whole lo i ((w1, n), n2) =
        in_the_first i lo (exp_end tells whole.from d) (exp_span tells whole.from e) whole (λ s. find_exp tells s whole.from e)
        (λ s. find_exps tells s whole.from (suc i) es) (exp_path d) w1 (exp_done e d whole.from w1.ordered n)
    row_done _ (later_argument e es d) whole lo i ((w1, n), n2) =
        behind_it lo (exps_end tells whole.from d) (exp_span tells whole.from e) whole (λ s. find_exps tells s whole.from (suc i) es)
        (λ s. onto i (find_exp tells s whole.from e)) (exps_path (suc i) d) w1 (row_done es d whole (exp_span tells whole.from e).to (suc i) n2)

  -- ---- statements

  abbrev StmtDone : (x : statement.Stmt A) → StmtWay f x → (base : ℕ) → Type 0
  StmtDone x d base = Done (stmt_end tells base d) (stmt_span tells base x) (λ s. find_stmt tells s base x) (stmt_path d)

  abbrev ListDone : (b : statement.Stmts A) → ListWay f b → (whole : Span) → (lo i : ℕ) → Type 0
  ListDone b d whole lo i = Among lo (list_end tells whole.from d) whole (λ s. find_list tells s whole.from i b) (list_path i d)

  -- in an expression of a statement, by the number of the child
  in_only : (i : ℕ) (whole : Span) (e : tree.Exp A) (d : ExpWay f e) → PartNested tells whole whole.from e
      → Done (exp_end tells whole.from d) whole (λ s. onto i (find_exp tells s whole.from e)) (i ∷ exp_path d)
  in_only i whole e d (w1, n) = all_in whole.from (exp_end tells whole.from d) whole (λ s. onto i (find_exp tells s whole.from e)) (i ∷ exp_path d)
      (one_part i whole.from (exp_end tells whole.from d) (exp_span tells whole.from e) whole (λ s. find_exp tells s whole.from e) (exp_path d) w1 (exp_done e d whole.from w1.ordered n))

  -- in a condition or lock, in front of the rest
  in_condition_of : (whole : Span) (e : tree.Exp A) (d : ExpWay f e) (Other : Span → Option (List ℕ)) → PartNested tells whole whole.from e
      → Done (exp_end tells whole.from d) whole (λ s. if is_behind tells s (exp_span tells whole.from e) then Other s else onto 0 (find_exp tells s whole.from e)) (0 ∷ exp_path d)
  in_condition_of whole e d Other (w1, n) = all_in whole.from (exp_end tells whole.from d) whole _ (0 ∷ exp_path d)
      (in_the_first 0 whole.from (exp_end tells whole.from d) (exp_span tells whole.from e) whole (λ s. find_exp tells s whole.from e) Other (exp_path d) w1 (exp_done e d whole.from w1.ordered n))

  -- behind it
  behind_condition : (whole : Span) (e : tree.Exp A) (t : Span) (Find : Span → Option (List ℕ)) (path : List ℕ) → PartNested tells whole whole.from e
      → Among (exp_span tells whole.from e).to t whole Find path
      → Done t whole (λ s. if is_behind tells s (exp_span tells whole.from e) then Find s else onto 0 (find_exp tells s whole.from e)) path
  behind_condition whole e t Find path (w1, n) a = all_in whole.from t whole _ path
      (behind_it whole.from t (exp_span tells whole.from e) whole Find (λ s. onto 0 (find_exp tells s whole.from e)) path w1 a)

  -- the second statement, where the first ends in front, and else the first
  abbrev either : (x y : statement.Stmt A) → (base : ℕ) → Span → Option (List ℕ)
  either x y base s = if is_behind tells s (stmt_span tells base x) then onto 2 (find_stmt tells s base y) else onto 1 (find_stmt tells s base x)

  mutual
    stmt_done : (x : statement.Stmt A) (d : StmtWay f x) (base : ℕ) → StmtNested tells base x → StmtDone x d base
    stmt_done _ (in_init m is_final t w e d) base n = in_only 2 (tells m base) e d n
    stmt_done _ (in_eval m e d) base n = in_only 0 (tells m base) e d n
    stmt_done _ (in_returned m e d) base n = in_only 0 (tells m base) e d n
    stmt_done _ (in_condition m c x statement.no_else d) base (n1, n2) =
        in_condition_of (tells m base) c d (λ s. onto 1 (find_stmt tells s (tells m base).from x)) n1
    stmt_done _ (in_condition m c x (statement.otherwise y) d) base (n1, n2, n3) =
        in_condition_of (tells m base) c d (either x y (tells m base).from) n1
    stmt_done _ (in_turning m c x d) base (n1, n2) =
        in_condition_of (tells m base) c d (λ s. onto 1 (find_stmt tells s (tells m base).from x)) n1
    stmt_done _ (in_lock m e b d) base (n1, n2) =
        in_condition_of (tells m base) e d (λ s. find_list tells s (tells m base).from 1 b) n1
    stmt_done _ (in_body m c x d) base (n1, (w2, n2)) =
        behind_condition (tells m base) c (stmt_end tells (tells m base).from d) (λ s. onto 1 (find_stmt tells s (tells m base).from x)) (1 ∷ stmt_path d) n1
        (one_part 1 (exp_span tells (tells m base).from c).to (stmt_end tells (tells m base).from d) (stmt_span tells (tells m base).from x) (tells m base)
        (λ s. find_stmt tells s (tells m base).from x) (stmt_path d) w2 (stmt_done x d (tells m base).from n2))
    stmt_done _ (in_locked m e b d) base (n1, n2) =
        behind_condition (tells m base) e (list_end tells (tells m base).from d) (λ s. find_list tells s (tells m base).from 1 b) (list_path 1 d) n1
        (list_done b d (tells m base) (exp_span tells (tells m base).from e).to 1 n2)
    stmt_done _ (in_block m b d) base n =
        all_in (tells m base).from (list_end tells (tells m base).from d) (tells m base) (λ s. find_list tells s (tells m base).from 0 b) (list_path 0 d)
        (list_done b d (tells m base) (tells m base).from 0 n)
    stmt_done _ (in_then m c x statement.no_else d) base (n1, (w2, n2)) =
        behind_condition (tells m base) c (stmt_end tells (tells m base).from d) (λ s. onto 1 (find_stmt tells s (tells m base).from x)) (1 ∷ stmt_path d) n1
        (one_part 1 (exp_span tells (tells m base).from c).to (stmt_end tells (tells m base).from d) (stmt_span tells (tells m base).from x) (tells m base)
        (λ s. find_stmt tells s (tells m base).from x) (stmt_path d) w2 (stmt_done x d (tells m base).from n2))
    stmt_done _ (in_then m c x (statement.otherwise y) d) base (n1, (w2, n2), n3) =
        behind_condition (tells m base) c (stmt_end tells (tells m base).from d) (either x y (tells m base).from) (1 ∷ stmt_path d) n1
        (in_the_first 1 (exp_span tells (tells m base).from c).to (stmt_end tells (tells m base).from d) (stmt_span tells (tells m base).from x) (tells m base)
        (λ s. find_stmt tells s (tells m base).from x) (λ s. onto 2 (find_stmt tells s (tells m base).from y)) (stmt_path d) w2 (stmt_done x d (tells m base).from n2))
    stmt_done _ (in_else m c x y d) base (n1, (w2, n2), (w3, n3)) =
        behind_condition (tells m base) c (stmt_end tells (tells m base).from d) (either x y (tells m base).from) (2 ∷ stmt_path d) n1
        (behind_it (exp_span tells (tells m base).from c).to (stmt_end tells (tells m base).from d) (stmt_span tells (tells m base).from x) (tells m base)
        (λ s. onto 2 (find_stmt tells s (tells m base).from y)) (λ s. onto 1 (find_stmt tells s (tells m base).from x)) (2 ∷ stmt_path d) w2
        (one_part 2 (stmt_span tells (tells m base).from x).to (stmt_end tells (tells m base).from d) (stmt_span tells (tells m base).from y) (tells m base)
        (λ s. find_stmt tells s (tells m base).from y) (stmt_path d) w3 (stmt_done y d (tells m base).from n3)))

    list_done : (b : statement.Stmts A) (d : ListWay f b) (whole : Span) (lo i : ℕ) → ListNested tells whole lo b → ListDone b d whole lo i
    list_done _ (first x xs d) whole lo i ((w1, n), n2) =
        in_the_first i lo (stmt_end tells whole.from d) (stmt_span tells whole.from x) whole (λ s. find_stmt tells s whole.from x)
        (λ s. find_list tells s whole.from (suc i) xs) (stmt_path d) w1 (stmt_done x d whole.from n)
    list_done _ (later x xs d) whole lo i ((w1, n), n2) =
        behind_it lo (list_end tells whole.from d) (stmt_span tells whole.from x) whole (λ s. find_list tells s whole.from (suc i) xs)
        (λ s. onto i (find_stmt tells s whole.from x)) (list_path (suc i) d) w1 (list_done xs d whole (stmt_span tells whole.from x).to (suc i) n2)

pub spans_tell_ways : {A : Type 0} → SpansTellWays A
spans_tell_ways tells whole lo i b n f d s e = (list_done tells f b d whole lo i n).finds s e
