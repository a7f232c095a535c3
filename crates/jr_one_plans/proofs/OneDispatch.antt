-- Of changes of dispatch one is the first.
use Rattle.std.proofs.Common.{◌≡◌, ℕ, List, sym, ap, subst, ◌∙◌, le_antisymm}
use Rattle.std.specs.Prelude.{slice_get}
use Rattle.std.proofs.lemmas.Option.{same_Some}
use Rattle.jr_table.specs.Keys.{ClassKey, MethodKey}
use Rattle.jr_table.specs.Decls.{Decl, class_decl, method_decl}
use Rattle.jr_table.specs.Rows.{Row}
use Rattle.jr_table.specs.Entries.{IsRowOf}
use Rattle.jr_images.specs.Regions.{Images}
use Rattle.jr_plan.specs.Reasons.{ChangesDispatch, IsFirstChange}
use Rattle.jr_one_plans.specs.OneAnswer.{OneFirstChange}

class_key : (a b : ClassKey) → class_decl a ≡ class_decl b → a ≡ b
class_key a b e = cc

method_key : (a b : MethodKey) → method_decl a ≡ method_decl b → a ≡ b
method_key a b e = cc

-- a row declares one thing
pub one_of_row : (rows : List Row) (d e : Decl) (i j : ℕ) → i ≡ j → IsRowOf rows d i → IsRowOf rows e j → d ≡ e
one_of_row rows d e i j same x y = sym x.declares ∙ ap (λ (r : Row). r.decl) (same_Some x.row y.row (sym x.stands ∙ ap (slice_get rows) same ∙ y.stands)) ∙ y.declares

pub one_first_change : OneFirstChange
one_first_change rows m k l i j x y =
    let class = class_key k l (one_of_row rows (class_decl k) (class_decl l) x.class_at y.class_at (le_antisymm (x.first_class l j y.class_at y.changes y.class_row) (y.first_class k i x.class_at x.changes x.class_row)) x.class_row y.class_row) in
    let below = x.first_method j y.method_at (subst (λ (z : ClassKey). ChangesDispatch rows m z j) (sym class) y.changes) y.method_row in
    let over = y.first_method i x.method_at (subst (λ (z : ClassKey). ChangesDispatch rows m z i) class x.changes) x.method_row in
    (class, method_key i j (one_of_row rows (method_decl i) (method_decl j) x.method_at y.method_at (le_antisymm below over) x.method_row y.method_row))

-- by images that are the same
pub one_change : (rows : List Row) (m n : Images) → m ≡ n → (k l : ClassKey) (i j : MethodKey) → IsFirstChange rows m k i → IsFirstChange rows n l j → (k ≡ l) × (i ≡ j)
one_change rows m n same k l i j x y = one_first_change rows m k l i j x (subst (λ (z : Images). IsFirstChange rows z l j) (sym same) y)
