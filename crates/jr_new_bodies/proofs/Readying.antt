-- What a walk rests on holds of the parts of an expression.
use Rattle.std.proofs.Common.{◌≡◌, ℕ, suc, ◌+◌, List, [], ◌∷◌, ◌++◌, inl, inr}
use Rattle.std.specs.Prelude.{◌⊎◌}
use Rattle.jr_text.specs.declared.spans.Span.{Span}
use Rattle.jr_ast.specs.Tree as tree
use Rattle.jr_ast.specs.Nodes.{node_at, exp_children}
use Rattle.jr_table.specs.Keys.{Ty}
use Rattle.jr_table.specs.Binding.{Role, value, left, HasType}
use Rattle.jr_table.specs.TypesAt.{TypeBelow}
use Rattle.jr_table.specs.Somewhere.{Somewhere, InTarget, InRow}
use Rattle.jr_bind_expr.specs.Fits.{FitsExp, FitsTarget, FitsExps, FitsType}
use Rattle.jr_new_bodies.specs.declared.here.Here as raw
use Rattle.jr_new_bodies.specs.Known.{rows_of, context_of, ExpReady, RowReady, TargetReady, TypesExp, TypesCreation, first_of}
use Rattle.jr_new_bodies.proofs.Typed.{own_type, part, row_one, row_two, row_first, row_rest}

module _ {A : Type 0} (tells : A → ℕ → Span) (Fits : A → ℕ → Type 0) (h : raw.Here) (role : Role) (path : List ℕ) (base : ℕ) (m : A) where
  abbrev pub at : ℕ
  at = (tells m base).from

  abbrev Ready : tree.Exp A → Type 0
  Ready e = ExpReady tells Fits h role path base e

  abbrev Part : Role → (step : ℕ) → tree.Exp A → Type 0
  Part r step e = ExpReady tells Fits h r (path ++ step ∷ []) at e

  pub in_field : (e : tree.Exp A) (w : tree.Word A) → Ready (tree.field m e w) → Part left 0 e × Fits w.mark at
  unfolding FitsExp FitsTarget FitsExps Somewhere InTarget InRow node_at exp_children
  in_field e w (fits, sound, refers, types) = ((fits.1, λ i r x. sound i r (inr x), λ i d x. refers i d (inr x), part h path 0 (λ q t. TypeBelow (rows_of h) (context_of h) e q t) (λ q t. types (0 ∷ q) t)), fits.2)

  pub in_name : (w : tree.Word A) → Ready (tree.name m w) → Fits w.mark at
  unfolding FitsExp FitsTarget FitsExps Somewhere InTarget InRow node_at exp_children
  in_name w (fits, sound, refers, types) = fits.1

  pub in_super_field : (w : tree.Word A) → Ready (tree.super_field m w) → Fits w.mark at
  unfolding FitsExp FitsTarget FitsExps Somewhere InTarget InRow node_at exp_children
  in_super_field w (fits, sound, refers, types) = fits.1

  pub in_literal : (u : tree.TypeName A) → Ready (tree.class_literal m u) → FitsType (λ m b. (tells m b).from) Fits at u
  unfolding FitsExp FitsTarget FitsExps Somewhere InTarget InRow node_at exp_children
  in_literal u (fits, sound, refers, types) = fits.1

  pub in_call : (to : tree.Target A) (w : tree.Word A) (args : tree.Exps A) → Ready (tree.call m to w args) → TargetReady tells Fits h path at to × (RowReady tells Fits h path (first_of to) at args × Fits w.mark at)
  unfolding FitsExp FitsTarget FitsExps Somewhere InTarget InRow node_at exp_children
  in_call tree.no_target w args (fits, sound, refers, types) =
      ((fits.1, λ i r x. sound i r (inr (inl x)), λ i d x. refers i d (inr (inl x)), tt), ((fits.3, λ i r x. sound i r (inr (inr x)), λ i d x. refers i d (inr (inr x)), row_one h (context_of h) path args (λ step q t. types (suc step ∷ q) t)), fits.2))
  in_call (tree.on e) w args (fits, sound, refers, types) = (
    (fits.1, λ i r x. sound i r (inr (inl x)), λ i d x. refers i d (inr (inl x)), part h path 0 (λ q t. TypeBelow (rows_of h) (context_of h) e q t) (λ q t. types (0 ∷ q) t)),
    ((fits.3, λ i r x. sound i r (inr (inr x)), λ i d x. refers i d (inr (inr x)), row_two h (context_of h) path args (λ step q t. types (suc (suc step) ∷ q) t)), fits.2),
  )

  pub in_super_call : (w : tree.Word A) (args : tree.Exps A) → Ready (tree.super_call m w args) → RowReady tells Fits h path 1 at args × Fits w.mark at
  unfolding FitsExp FitsTarget FitsExps Somewhere InTarget InRow node_at exp_children
  in_super_call w args (fits, sound, refers, types) = ((fits.2, λ i r x. sound i r (inr x), λ i d x. refers i d (inr x), row_one h (context_of h) path args (λ step q t. types (suc step ∷ q) t)), fits.1)

  pub in_create : (u : tree.TypeName A) (args : tree.Exps A) → Ready (tree.create m u args) → RowReady tells Fits h path 1 at args × FitsType (λ m b. (tells m b).from) Fits at u
  unfolding FitsExp FitsTarget FitsExps Somewhere InTarget InRow node_at exp_children
  in_create u args (fits, sound, refers, types) = ((fits.2, λ i r x. sound i r (inr x), λ i d x. refers i d (inr x), row_one h (context_of h) path args (λ step q t. types (suc step ∷ q) t)), fits.1)

  pub creation_types : (u : tree.TypeName A) (args : tree.Exps A) → Ready (tree.create m u args) → TypesCreation h (context_of h) path u args
  unfolding HasType
  creation_types u args (fits, sound, refers, types) = λ t. own_type h (context_of h) path (tree.create m u args) types t

  pub in_paren : (e : tree.Exp A) → Ready (tree.paren m e) → Part value 0 e
  unfolding FitsExp FitsTarget FitsExps Somewhere InTarget InRow node_at exp_children
  in_paren e (fits, sound, refers, types) = (fits.1, λ i r x. sound i r (inr x), λ i d x. refers i d (inr x), part h path 0 (λ q t. TypeBelow (rows_of h) (context_of h) e q t) (λ q t. types (0 ∷ q) t))

  pub in_unary : (op : _) (e : tree.Exp A) → Ready (tree.unary m op e) → Part value 0 e
  unfolding FitsExp FitsTarget FitsExps Somewhere InTarget InRow node_at exp_children
  in_unary op e (fits, sound, refers, types) = (fits.1, λ i r x. sound i r (inr x), λ i d x. refers i d (inr x), part h path 0 (λ q t. TypeBelow (rows_of h) (context_of h) e q t) (λ q t. types (0 ∷ q) t))

  pub in_bump : (op : _) (e : tree.Exp A) → Ready (tree.bump m op e) → Part value 0 e
  unfolding FitsExp FitsTarget FitsExps Somewhere InTarget InRow node_at exp_children
  in_bump op e (fits, sound, refers, types) = (fits.1, λ i r x. sound i r (inr x), λ i d x. refers i d (inr x), part h path 0 (λ q t. TypeBelow (rows_of h) (context_of h) e q t) (λ q t. types (0 ∷ q) t))

  pub in_cast : (u : tree.TypeName A) (e : tree.Exp A) → Ready (tree.cast m u e) → Part value 1 e × FitsType (λ m b. (tells m b).from) Fits at u
  unfolding FitsExp FitsTarget FitsExps Somewhere InTarget InRow node_at exp_children
  in_cast u e (fits, sound, refers, types) = ((fits.2, λ i r x. sound i r (inr x), λ i d x. refers i d (inr x), part h path 1 (λ q t. TypeBelow (rows_of h) (context_of h) e q t) (λ q t. types (1 ∷ q) t)), fits.1)

  pub in_binary : (op : _) (y z : tree.Exp A) → Ready (tree.binary m op y z) → Part value 0 y × Part value 1 z
  unfolding FitsExp FitsTarget FitsExps Somewhere InTarget InRow node_at exp_children
  in_binary op y z (fits, sound, refers, types) = ((fits.1, λ i r x. sound i r (inr (inl x)), λ i d x. refers i d (inr (inl x)), part h path 0 (λ q t. TypeBelow (rows_of h) (context_of h) y q t) (λ q t. types (0 ∷ q) t)), (fits.2, λ i r x. sound i r (inr (inr x)), λ i d x. refers i d (inr (inr x)), part h path 1 (λ q t. TypeBelow (rows_of h) (context_of h) z q t) (λ q t. types (1 ∷ q) t)))

  pub in_assign : (y z : tree.Exp A) → Ready (tree.assign m y z) → Part value 0 y × Part value 1 z
  unfolding FitsExp FitsTarget FitsExps Somewhere InTarget InRow node_at exp_children
  in_assign y z (fits, sound, refers, types) = ((fits.1, λ i r x. sound i r (inr (inl x)), λ i d x. refers i d (inr (inl x)), part h path 0 (λ q t. TypeBelow (rows_of h) (context_of h) y q t) (λ q t. types (0 ∷ q) t)), (fits.2, λ i r x. sound i r (inr (inr x)), λ i d x. refers i d (inr (inr x)), part h path 1 (λ q t. TypeBelow (rows_of h) (context_of h) z q t) (λ q t. types (1 ∷ q) t)))

  pub in_compound : (op : _) (y z : tree.Exp A) → Ready (tree.compound m op y z) → Part value 0 y × Part value 1 z
  unfolding FitsExp FitsTarget FitsExps Somewhere InTarget InRow node_at exp_children
  in_compound op y z (fits, sound, refers, types) = ((fits.1, λ i r x. sound i r (inr (inl x)), λ i d x. refers i d (inr (inl x)), part h path 0 (λ q t. TypeBelow (rows_of h) (context_of h) y q t) (λ q t. types (0 ∷ q) t)), (fits.2, λ i r x. sound i r (inr (inr x)), λ i d x. refers i d (inr (inr x)), part h path 1 (λ q t. TypeBelow (rows_of h) (context_of h) z q t) (λ q t. types (1 ∷ q) t)))

module _ {A : Type 0} (tells : A → ℕ → Span) (Fits : A → ℕ → Type 0) (h : raw.Here) (path : List ℕ) (at : ℕ) where
  pub in_target : (e : tree.Exp A) → TargetReady tells Fits h path at (tree.on e) → ExpReady tells Fits h left (path ++ 0 ∷ []) at e
  unfolding FitsExp FitsTarget FitsExps Somewhere InTarget InRow node_at exp_children
  in_target e (fits, sound, refers, types) = (fits, sound, refers, types)

  pub in_row : (first : ℕ) (e : tree.Exp A) (es : tree.Exps A) → RowReady tells Fits h path first at (tree.more e es) → ExpReady tells Fits h value (path ++ first ∷ []) at e × RowReady tells Fits h path (first + 1) at es
  unfolding FitsExp FitsTarget FitsExps Somewhere InTarget InRow node_at exp_children
  in_row first e es (fits, sound, refers, types) = (
    (fits.0, λ i r x. sound i r (inl x), λ i d x. refers i d (inl x), row_first h (context_of h) path first e es types),
    (fits.1, λ i r x. sound i r (inr x), λ i d x. refers i d (inr x), row_rest h (context_of h) path first e es types),
  )
