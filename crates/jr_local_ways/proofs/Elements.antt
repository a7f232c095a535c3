-- The nearest element of an expression: what it is in the list, and what stands in it.
use Rattle.std.proofs.Common.{◌≡◌, ℕ, Option, Some, None, refl, sym, ap, subst, ◌∙◌}
use Rattle.jr_ast.specs.declared.operators.BinOp.{BinOp}
use Rattle.jr_ast.specs.declared.operators.BinOp.TheVariants as op
use Rattle.jr_ast.specs.Tree as tree
use Rattle.jr_ast.specs.StatementTree as statement
use Rattle.jr_pieces.specs.Ways.{ExpWay, here, in_front, in_target, in_argument, in_super_argument, in_created, in_paren, in_cast, in_unary, in_bump, in_left, in_right, in_assigned, in_value, in_changed, in_change}
use Rattle.jr_pieces.specs.Ways.{ExpsWay, first_argument, later_argument, StmtWay, in_init, in_eval, in_condition, in_then, in_else, in_turning, in_body, in_returned, in_block, in_lock, in_locked, ListWay, first, later}
use Rattle.jr_pieces.specs.Standings.{Standing, inside, behind, in_other, in_initializer, at_stmt, at_list}
use Rattle.jr_pieces.specs.Nearest.{Element, or_element, element_within, nearest}
use Rattle.jr_pieces.specs.Bars.{by_operator, exp_barred, exps_barred, stmt_barred, list_barred}
use Rattle.jr_way_places.proofs.Walked.{exp_context}
use Rattle.jr_local_ways.specs.Elements.{entered, ElementsHoldIt}

no_element : {A : Type 0} {f : tree.Exp A} {P : Type 0} (x : Element f) → (let none : Option (Element f) = None in none ≡ Some x) → P
no_element x e = absurd cc

is_element : {A : Type 0} {f : tree.Exp A} {P : Type 0} (x : Element f) → (let some : Option (Element f) = Some x in some ≡ None) → P
is_element x e = absurd cc

same_element : {A : Type 0} {f : tree.Exp A} (x y : Element f) → (let o : Option (Element f) = Some x in o ≡ Some y) → x ≡ y
same_element x y e = cc

-- ---- what bars the whole bars all of it

barred_still : (o : BinOp) (at n : ℕ) → (k : ℕ) × (by_operator o at (Some n) ≡ Some k)
barred_still op.Or at n = (at, refl)
barred_still op.And at n = (at, refl)
barred_still op.Eq at n = (n, refl)
barred_still op.Ne at n = (n, refl)
barred_still op.Lt at n = (n, refl)
barred_still op.Gt at n = (n, refl)
barred_still op.Le at n = (n, refl)
barred_still op.Ge at n = (n, refl)
barred_still op.Add at n = (n, refl)
barred_still op.Sub at n = (n, refl)
barred_still op.Mul at n = (n, refl)
barred_still op.Div at n = (n, refl)
barred_still op.Rem at n = (n, refl)

some_isnt : {P : Type 0} (n : ℕ) → Some n ≡ None → P
some_isnt n e = absurd cc

abbrev IsBarred : Option ℕ → Type 0
IsBarred o = o ≡ None → ⊥

module _ {A : Type 0} (begins : A → ℕ → ℕ) {f : tree.Exp A} where
  mutual
    exp_stays : {e : tree.Exp A} (base n : ℕ) (d : ExpWay f e) → IsBarred (exp_barred begins base (Some n) d)
    exp_stays base n here = some_isnt n
    exp_stays base n (in_front m e w d) = exp_stays (begins m base) n d
    exp_stays base n (in_target m e w es d) = exp_stays (begins m base) n d
    exp_stays base n (in_argument m t w es d) = exps_stay (begins m base) n d
    exp_stays base n (in_super_argument m w es d) = exps_stay (begins m base) n d
    exp_stays base n (in_created m t es d) = exps_stay (begins m base) n d
    exp_stays base n (in_paren m e d) = exp_stays (begins m base) n d
    exp_stays base n (in_cast m t e d) = exp_stays (begins m base) n d
    exp_stays base n (in_unary m o e d) = exp_stays (begins m base) n d
    exp_stays base n (in_bump m o e d) = exp_stays (begins m base) n d
    exp_stays base n (in_left m o x y d) = exp_stays (begins m base) n d
    exp_stays base n (in_right m o x y d) =
        let k = barred_still o (begins m base) n in
        subst (λ (q : Option ℕ). IsBarred (exp_barred begins (begins m base) q d)) (sym k.1) (exp_stays (begins m base) k.0 d)
    exp_stays base n (in_assigned m x y d) = exp_stays (begins m base) n d
    exp_stays base n (in_value m x y d) = exp_stays (begins m base) n d
    exp_stays base n (in_changed m o x y d) = exp_stays (begins m base) n d
    exp_stays base n (in_change m o x y d) = exp_stays (begins m base) n d

    exps_stay : {es : tree.Exps A} (base n : ℕ) (d : ExpsWay f es) → IsBarred (exps_barred begins base (Some n) d)
    exps_stay base n (first_argument e es d) = exp_stays base n d
    exps_stay base n (later_argument e es d) = exps_stay base n d

  mutual
    stmt_stays : {s : statement.Stmt A} (base n : ℕ) (d : StmtWay f s) → IsBarred (stmt_barred begins base (Some n) d)
    stmt_stays base n (in_init m is_final t w e d) = exp_stays (begins m base) n d
    stmt_stays base n (in_eval m e d) = exp_stays (begins m base) n d
    stmt_stays base n (in_condition m c s o d) = exp_stays (begins m base) n d
    stmt_stays base n (in_then m c s o d) = stmt_stays (begins m base) (begins m base) d
    stmt_stays base n (in_else m c s o d) = stmt_stays (begins m base) (begins m base) d
    stmt_stays base n (in_turning m c s d) = exp_stays (begins m base) (begins m base) d
    stmt_stays base n (in_body m c s d) = stmt_stays (begins m base) (begins m base) d
    stmt_stays base n (in_returned m e d) = exp_stays (begins m base) n d
    stmt_stays base n (in_block m b d) = list_stays (begins m base) n d
    stmt_stays base n (in_lock m e b d) = exp_stays (begins m base) n d
    stmt_stays base n (in_locked m e b d) = list_stays (begins m base) n d

    list_stays : {b : statement.Stmts A} (base n : ℕ) (d : ListWay f b) → IsBarred (list_barred begins base (Some n) d)
    list_stays base n (first s ss d) = stmt_stays base n d
    list_stays base n (later s ss d) = list_stays base n d

  -- ---- where nothing bars it

  straight : {s : statement.Stmt A} (p : Standing) (d : StmtWay f s) → element_within begins p d ≡ None → stmt_barred begins p.base None d ≡ None → (at_stmt begins p d).context ≡ entered p.next s p.context
  straight p (in_init m is_final t w e d) last free = exp_context begins (in_initializer begins m is_final t w p) d
  straight p (in_eval m e d) last free = exp_context begins (inside begins m p) d
  straight p (in_condition m c s o d) last free = exp_context begins (inside begins m p) d
  straight p (in_then m c s o d) last free = absurd (stmt_stays (begins m p.base) (begins m p.base) d free)
  straight p (in_else m c s o d) last free = absurd (stmt_stays (begins m p.base) (begins m p.base) d free)
  straight p (in_turning m c s d) last free = exp_context begins (inside begins m p) d
  straight p (in_body m c s d) last free = absurd (stmt_stays (begins m p.base) (begins m p.base) d free)
  straight p (in_returned m e d) last free = exp_context begins (inside begins m p) d
  straight p (in_block m b d) last free = is_element (nearest begins (inside begins m p) d) last
  straight p (in_lock m e b d) last free = exp_context begins (inside begins m p) d
  straight p (in_locked m e b d) last free = is_element (nearest begins (inside begins m p) d) last

  -- ---- in the list

  -- the expression stands there, and its way meets no further list
  record Stands (there : Standing) (x : Element f) : Type 0 where
    at : at_stmt begins x.at x.way ≡ there
    last : element_within begins x.at x.way ≡ None

  first_stands : (p : Standing) (s : statement.Stmt A) (ss : statement.Stmts A) (d : StmtWay f s) (o : Option (Element f)) → element_within begins p d ≡ o → ((x : Element f) → o ≡ Some x → Stands (at_stmt begins p d) x)
      → Stands (at_stmt begins p d) (or_element o (record { at = p; stmt = s; rest = ss; way = d }))
  first_stands p s ss d None is go = record { at = refl; last = is }
  first_stands p s ss d (Some x) is go = go x refl

  mutual
    within_stands : {s : statement.Stmt A} (p : Standing) (d : StmtWay f s) (x : Element f) → element_within begins p d ≡ Some x → Stands (at_stmt begins p d) x
    within_stands p (in_init m is_final t w e d) x is = no_element x is
    within_stands p (in_eval m e d) x is = no_element x is
    within_stands p (in_condition m c s o d) x is = no_element x is
    within_stands p (in_then m c s o d) x is = within_stands (inside begins m p) d x is
    within_stands p (in_else m c s o d) x is = within_stands (in_other begins m s p) d x is
    within_stands p (in_turning m c s d) x is = no_element x is
    within_stands p (in_body m c s d) x is = within_stands (inside begins m p) d x is
    within_stands p (in_returned m e d) x is = no_element x is
    within_stands p (in_block m b d) x is = subst (Stands (at_list begins (inside begins m p) d)) (same_element (nearest begins (inside begins m p) d) x is) (list_stands (inside begins m p) d)
    within_stands p (in_lock m e b d) x is = no_element x is
    within_stands p (in_locked m e b d) x is = subst (Stands (at_list begins (inside begins m p) d)) (same_element (nearest begins (inside begins m p) d) x is) (list_stands (inside begins m p) d)

    list_stands : {b : statement.Stmts A} (p : Standing) (d : ListWay f b) → Stands (at_list begins p d) (nearest begins p d)
    list_stands p (first s ss d) = first_stands p s ss d (element_within begins p d) refl (λ x is. within_stands p d x is)
    list_stands p (later s ss d) = list_stands (behind begins s p) d

pub elements_hold_it : {A : Type 0} → ElementsHoldIt A
elements_hold_it begins p b f way =
    let s = list_stands begins p way in
    record { at = s.at; last = s.last; straight = λ free. ap (λ (q : Standing). q.context) (sym s.at) ∙ straight begins (nearest begins p way).at (nearest begins p way).way s.last free }
