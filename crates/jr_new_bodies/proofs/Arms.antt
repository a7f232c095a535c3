-- What each arm of the walk over an expression needs and gives, where a place and a part are shown
-- as they are.
use Rattle.std.proofs.Common.{◌≡◌, ℕ, ◌+◌, ◌*◌, ◌<◌, List, [], ◌∷◌, ◌++◌, Option, Some, None, refl, sym, ap, subst, suc, arith}
use Rattle.std.specs.declared.boxed.Box.{Box}
use Rattle.std.specs.Global.{Global}
use Rattle.jr_text.specs.declared.spans.Span.{Span}
use Rattle.jr_ast.specs.Tree as tree
use Rattle.jr_ast.specs.declared.exprs.Expr.{Expr}
use Rattle.jr_ast.specs.View.{expr_of, exprs_of, target_of}
use Rattle.jr_ast.proofs.Sizes.{exp_size, exps_size, target_size}
use Rattle.jr_table.specs.Binding.{Role, value, left}
use Rattle.jr_bind_expr.specs.Fits.{FitsType, FitsExps}
use Rattle.jr_rewrite.specs.Spots.{Asks}
use Rattle.jr_new_bodies.specs.declared.here.Here as raw
use Rattle.jr_new_bodies.specs.Effects.{Effect}
use Rattle.jr_new_bodies.specs.Known.{rows_of, context_of, ExpReady, RowReady, TargetReady, TypesCreation, first_of, NameIsBound, DottedIsBound, SuperFieldIsBound, CallIsBound, SuperCallIsBound, CreationIsBound, TypeIsBound}
use Rattle.jr_new_bodies.specs.Walks.{ExpGathers, PartGathers, TypeGathers, PairGathers, CastGathers, SimpleGathers, SuperGathers, FieldGathers, CallGathers, SuperCallGathers, CreateGathers}
use Rattle.jr_new_bodies.proofs.Bound.{name_bound, dotted_bound, super_field_bound, call_bound, super_call_bound, creation_bound, created_type_bound, cast_bound, literal_bound}
use Rattle.jr_new_bodies.proofs.Readying.{in_field, in_name, in_super_field, in_literal, in_call, in_super_call, in_create, creation_types, in_paren, in_unary, in_bump, in_cast, in_binary, in_assign, in_compound}
use Rattle.jr_new_bodies.proofs.Giving.{name_gives, field_gives, super_field_gives, literal_gives, paren_gives, unary_gives, bump_gives, cast_gives, binary_gives, assign_gives, compound_gives, call_gives, super_call_gives, create_gives}

-- measures

pub falls_one : (whole size shown n t : ℕ) → shown ≡ size → whole ≡ suc size → 6 * whole ≡ t → n < 6 → 6 * shown + n < t
falls_one whole size shown n t e w h l = omega (arith, e, w, h, l)

pub falls_two : (whole a b x y n t : ℕ) → x ≡ a → y ≡ b → whole ≡ suc (a + b) → 6 * whole ≡ t → n < 6 → 6 * (x + y) + n < t
falls_two whole a b x y n t e f w h l = omega (arith, e, f, w, h, l)

pub falls_target : {A : Type 0} (to : Option (Box (Expr A) Global)) (b : Box (Expr A) Global) (x : Expr A) (t : ℕ) → to ≡ Some b → x ≡ b.value → 6 * target_size (target_of to) + 4 ≡ t → 6 * exp_size (expr_of x) + 3 < t
unfolding exp_size exps_size target_size
falls_target to b x t is same h =
    let e : target_size (target_of to) ≡ exp_size (expr_of b.value) = ap (λ (o : Option (Box (Expr _) Global)). target_size (target_of o)) is in
    let s = ap (λ (z : Expr _). exp_size (expr_of z)) same in
    omega (arith, e, s, h)

module _ {A : Type 0} (tells : A → ℕ → Span) (F : A → ℕ → Type 0) (h : raw.Here) (role : Role) (path : List ℕ) (base : ℕ) (m : A) (at : ℕ) (start : at ≡ (tells m base).from) where
  abbrev pub B : A → ℕ → ℕ
  B k b = (tells k b).from

  abbrev pub Ready : tree.Exp A → Type 0
  Ready e = ExpReady tells F h role path base e

  -- a part at a place
  abbrev pub Part : Role → (step place : ℕ) → tree.Exp A → Type 0
  Part r step place e = ExpReady tells F h r (path ++ step ∷ []) place e

  -- at the place as it is shown
  there : (P : ℕ → Type 0) → P (B m base) → P at
  there P x = subst P (sym start) x

  here : (P : ℕ → Type 0) → P at → P (B m base)
  here P x = subst P start x

  -- ---- names

  pub name_needs : (w : tree.Word A) → Ready (tree.name m w) → F w.mark at × NameIsBound (rows_of h) (context_of h) role w.text
  name_needs w ready = (there (λ n. F w.mark n) (in_name tells F h role path base m w ready), name_bound B (rows_of h) (context_of h) role base m w ready.1)

  pub name_returns : (w : tree.Word A) (old new : Effect) → SimpleGathers tells h role at w old new → ExpGathers tells h role base (tree.name m w) old new
  name_returns w old new x = name_gives tells h role base m w old new (here (λ n. SimpleGathers tells h role n w old new) x)

  pub field_needs : (x y : Expr A) (w : tree.Word A) → x ≡ y → Ready (tree.field m (expr_of y) w)
      → Part left 0 at (expr_of x) × (F w.mark at × DottedIsBound B (rows_of h) (context_of h) role (expr_of x) w.text)
  field_needs x y w same ready =
      subst (λ z. Part left 0 at (expr_of z) × (F w.mark at × DottedIsBound B (rows_of h) (context_of h) role (expr_of z) w.text)) (sym same)
      (let p = in_field tells F h role path base m (expr_of y) w ready in
      (there (λ n. Part left 0 n (expr_of y)) p.0, (there (λ n. F w.mark n) p.1, dotted_bound B (rows_of h) (context_of h) role base m (expr_of y) w ready.1)))

  pub field_returns : (x y : Expr A) (w : tree.Word A) (old new : Effect) → x ≡ y → FieldGathers tells h role at (expr_of x) w old new → ExpGathers tells h role base (tree.field m (expr_of y) w) old new
  field_returns x y w old new same g = field_gives tells h role base m (expr_of y) w old new (here (λ n. FieldGathers tells h role n (expr_of y) w old new) (subst (λ z. FieldGathers tells h role at (expr_of z) w old new) same g))

  pub super_needs : (w : tree.Word A) → Ready (tree.super_field m w) → F w.mark at × SuperFieldIsBound (rows_of h) (context_of h) w.text
  super_needs w ready = (there (λ n. F w.mark n) (in_super_field tells F h role path base m w ready), super_field_bound B (rows_of h) (context_of h) role base m w ready.1)

  pub super_returns : (span : Span) → span ≡ tells m base → (w : tree.Word A) (old new : Effect) → SuperGathers tells h span w old new → ExpGathers tells h role base (tree.super_field m w) old new
  super_returns span is w old new g = super_field_gives tells h role base m w old new (subst (λ s. SuperGathers tells h s w old new) is g)

  -- ---- types

  pub literal_needs : (t : tree.TypeName A) → Ready (tree.class_literal m t) → FitsType B F at t × TypeIsBound B (rows_of h) (context_of h) at t
  literal_needs t ready = (there (λ n. FitsType B F n t) (in_literal tells F h role path base m t ready), there (λ n. TypeIsBound B (rows_of h) (context_of h) n t) (literal_bound B (rows_of h) (context_of h) role base m t ready.1))

  pub literal_returns : (t : tree.TypeName A) (old new : Effect) → TypeGathers tells h at t old new → ExpGathers tells h role base (tree.class_literal m t) old new
  literal_returns t old new g = literal_gives tells h role base m t old new (here (λ n. TypeGathers tells h n t old new) g)

  pub cast_needs : (t : tree.TypeName A) (x y : Expr A) → x ≡ y → Ready (tree.cast m t (expr_of y))
      → FitsType B F at t × (TypeIsBound B (rows_of h) (context_of h) at t × Part value 1 at (expr_of x))
  cast_needs t x y same ready =
      let p = in_cast tells F h role path base m t (expr_of y) ready in (
        there (λ n. FitsType B F n t) p.1,
        (
          there (λ n. TypeIsBound B (rows_of h) (context_of h) n t) (cast_bound B (rows_of h) (context_of h) role base m t (expr_of y) ready.1),
          subst (λ z. Part value 1 at (expr_of z)) (sym same) (there (λ n. Part value 1 n (expr_of y)) p.0),
        ),
      )

  pub cast_returns : (t : tree.TypeName A) (x y : Expr A) (old new : Effect) → x ≡ y → CastGathers tells h at t (expr_of x) old new → ExpGathers tells h role base (tree.cast m t (expr_of y)) old new
  cast_returns t x y old new same g = cast_gives tells h role base m t (expr_of y) old new (here (λ n. CastGathers tells h n t (expr_of y) old new) (subst (λ z. CastGathers tells h at t (expr_of z) old new) same g))

  -- ---- operators

  pub one_needs : (e : tree.Exp A) (x y : Expr A) → x ≡ y → (Ready e → Part value 0 (B m base) (expr_of y)) → Ready e → Part value 0 at (expr_of x)
  one_needs e x y same part ready = subst (λ z. Part value 0 at (expr_of z)) (sym same) (there (λ n. Part value 0 n (expr_of y)) (part ready))

  pub one_returns : (k : Asks) (e : tree.Exp A) (x y : Expr A) (old new : Effect) → x ≡ y → (PartGathers tells h k value (B m base) (expr_of y) old new → ExpGathers tells h role base e old new)
      → PartGathers tells h k value at (expr_of x) old new → ExpGathers tells h role base e old new
  one_returns k e x y old new same to g = to (here (λ n. PartGathers tells h k value n (expr_of y) old new) (subst (λ z. PartGathers tells h k value at (expr_of z) old new) same g))

  pub two_need : (e : tree.Exp A) (x y u v : Expr A) → x ≡ u → y ≡ v → (Ready e → Part value 0 (B m base) (expr_of u) × Part value 1 (B m base) (expr_of v)) → Ready e
      → Part value 0 at (expr_of x) × Part value 1 at (expr_of y)
  two_need e x y u v one other parts ready =
      let p = parts ready in (
        subst (λ z. Part value 0 at (expr_of z)) (sym one) (there (λ n. Part value 0 n (expr_of u)) p.0),
        subst (λ z. Part value 1 at (expr_of z)) (sym other) (there (λ n. Part value 1 n (expr_of v)) p.1),
      )

  pub two_return : (j k : Asks) (e : tree.Exp A) (x y u v : Expr A) (old new : Effect) → x ≡ u → y ≡ v → (PairGathers tells h j k (B m base) (expr_of u) (expr_of v) old new → ExpGathers tells h role base e old new)
      → PairGathers tells h j k at (expr_of x) (expr_of y) old new → ExpGathers tells h role base e old new
  two_return j k e x y u v old new one other to g =
      to (here (λ n. PairGathers tells h j k n (expr_of u) (expr_of v) old new) (subst (λ z. PairGathers tells h j k at (expr_of u) (expr_of z) old new) other (subst (λ z. PairGathers tells h j k at (expr_of z) (expr_of y) old new) one g)))

  -- ---- calls

  pub call_needs : (to : Option (Box (Expr A) Global)) (w : tree.Word A) (x y : List (Expr A)) → x ≡ y → Ready (tree.call m (target_of to) w (exprs_of y))
      → TargetReady tells F h path at (target_of to) × (RowReady tells F h path (first_of (target_of to)) at (exprs_of x) × (F w.mark at × CallIsBound B (rows_of h) (context_of h) (target_of to) w.text (exprs_of x)))
  call_needs to w x y same ready =
      let p = in_call tells F h role path base m (target_of to) w (exprs_of y) ready in (
        there (λ n. TargetReady tells F h path n (target_of to)) p.0,
        subst (λ z. RowReady tells F h path (first_of (target_of to)) at (exprs_of z) × (F w.mark at × CallIsBound B (rows_of h) (context_of h) (target_of to) w.text (exprs_of z))) (sym same)
            (there (λ n. RowReady tells F h path (first_of (target_of to)) n (exprs_of y)) p.1.0, (there (λ n. F w.mark n) p.1.1, call_bound B (rows_of h) (context_of h) role base m (target_of to) w (exprs_of y) ready.1)),
      )

  pub call_returns : (to : tree.Target A) (w : tree.Word A) (x y : List (Expr A)) (old new : Effect) → x ≡ y → CallGathers tells h at to w (exprs_of x) old new → ExpGathers tells h role base (tree.call m to w (exprs_of y)) old new
  call_returns to w x y old new same g = call_gives tells h role base m to w (exprs_of y) old new (here (λ n. CallGathers tells h n to w (exprs_of y) old new) (subst (λ z. CallGathers tells h at to w (exprs_of z) old new) same g))

  pub super_call_needs : (w : tree.Word A) (x y : List (Expr A)) → x ≡ y → Ready (tree.super_call m w (exprs_of y))
      → RowReady tells F h path 1 at (exprs_of x) × (F w.mark at × SuperCallIsBound B (rows_of h) (context_of h) w.text (exprs_of x))
  super_call_needs w x y same ready =
      let p = in_super_call tells F h role path base m w (exprs_of y) ready in
      subst (λ z. RowReady tells F h path 1 at (exprs_of z) × (F w.mark at × SuperCallIsBound B (rows_of h) (context_of h) w.text (exprs_of z))) (sym same)
      (there (λ n. RowReady tells F h path 1 n (exprs_of y)) p.0, (there (λ n. F w.mark n) p.1, super_call_bound B (rows_of h) (context_of h) role base m w (exprs_of y) ready.1))

  pub super_call_returns : (w : tree.Word A) (x y : List (Expr A)) (old new : Effect) → x ≡ y → SuperCallGathers tells h at w (exprs_of x) old new → ExpGathers tells h role base (tree.super_call m w (exprs_of y)) old new
  super_call_returns w x y old new same g = super_call_gives tells h role base m w (exprs_of y) old new (here (λ n. SuperCallGathers tells h n w (exprs_of y) old new) (subst (λ z. SuperCallGathers tells h at w (exprs_of z) old new) same g))

  pub create_needs : (t : tree.TypeName A) (x y : List (Expr A)) → x ≡ y → Ready (tree.create m t (exprs_of y))
      → FitsType B F at t × (RowReady tells F h path 1 at (exprs_of x) × (TypesCreation h (context_of h) path t (exprs_of x) × (TypeIsBound B (rows_of h) (context_of h) at t × CreationIsBound B (rows_of h) (context_of h) t (exprs_of x))))
  create_needs t x y same ready =
      let p = in_create tells F h role path base m t (exprs_of y) ready in (
        there (λ n. FitsType B F n t) p.1,
        subst (λ z. RowReady tells F h path 1 at (exprs_of z) × (TypesCreation h (context_of h) path t (exprs_of z) × (TypeIsBound B (rows_of h) (context_of h) at t × CreationIsBound B (rows_of h) (context_of h) t (exprs_of z)))) (sym same) (
          there (λ n. RowReady tells F h path 1 n (exprs_of y)) p.0,
          (creation_types tells F h role path base m t (exprs_of y) ready, (there (λ n. TypeIsBound B (rows_of h) (context_of h) n t) (created_type_bound B (rows_of h) (context_of h) role base m t (exprs_of y) ready.1), creation_bound B (rows_of h) (context_of h) role base m t (exprs_of y) ready.1)),
        ),
      )

  pub create_returns : (t : tree.TypeName A) (x y : List (Expr A)) (old new : Effect) → x ≡ y → CreateGathers tells h at t (exprs_of x) old new → ExpGathers tells h role base (tree.create m t (exprs_of y)) old new
  create_returns t x y old new same g = create_gives tells h role base m t (exprs_of y) old new (here (λ n. CreateGathers tells h n t (exprs_of y) old new) (subst (λ z. CreateGathers tells h at t (exprs_of z) old new) same g))
