-- Each kind of expression from its parts, where a place and a part are shown as they are; measures;
-- arguments one by one.
use Rattle.std.proofs.Common.{◌≡◌, ℕ, zero, suc, ◌+◌, ◌*◌, ◌<◌, ◌≤◌, Bool, true, false, List, [], ◌∷◌, ◌++◌, length, get_or, drop, Option, Some, refl, sym, ap, subst, ◌∙◌, append_assoc, add-one, arith}
use Rattle.std.proofs.lemmas.List.{append-nil, drop_all}
use Rattle.std.specs.declared.boxed.Box.{Box}
use Rattle.std.specs.Global.{Global}
use Rattle.jr_text.specs.declared.spans.Span.{Span}
use Rattle.jr_ast.specs.declared.operators.BinOp.{BinOp}
use Rattle.jr_ast.specs.declared.operators.UnOp.{UnOp}
use Rattle.jr_ast.specs.declared.operators.BumpOp.{BumpOp}
use Rattle.jr_ast.specs.Tree as tree
use Rattle.jr_ast.specs.declared.exprs.Expr.{Expr}
use Rattle.jr_ast.specs.View.{expr_of, exprs_of, target_of}
use Rattle.jr_ast.proofs.Sizes.{exp_size, exps_size, target_size}
use Rattle.jr_bind_expr.specs.Fits.{FitsExp, FitsTarget, FitsExps}
use Rattle.jr_bind_expr.proofs.Steps.{left_is}
use Rattle.jr_cover.specs.Spots.{spot_exp, spot_exps}
use Rattle.jr_expr_sites.specs.Steps.{steps_of, rows}
use Rattle.jr_expr_sites.specs.Steps as step
use Rattle.jr_expr_sites.specs.StepView.{steps_in}
use Rattle.jr_expr_sites.specs.KnownFacts.{Given, Others}
use Rattle.jr_expr_sites.specs.Routes.{Route, Steps, Walked, begins_by}
use Rattle.jr_expr_sites.specs.Routes as route
use Rattle.jr_expr_sites.specs.Aims.{Aim, dotted, aim_of}
use Rattle.jr_expr_sites.specs.KnownFacts.{known_of, is_never_null}
use Rattle.jr_expr_sites.specs.Routes.{spots}
use Rattle.jr_cover.specs.Ways as way
use Rattle.jr_cover.specs.Sites as sites
use Rattle.jr_cover.specs.Sites.{unless}
use Rattle.jr_ast.specs.Marks.{exp_mark}
use Rattle.jr_expr_sites.proofs.Spotted.{operand_by, operand_spots, aim_falls, aim_fits}
use Rattle.jr_expr_sites.proofs.Walking.{Seen, rows_front, walked_as}

-- ---- measures

pub falls_one : (whole size shown n t : ℕ) → shown ≡ size → whole ≡ suc size → 5 * whole ≡ t → n < 5 → 5 * shown + n < t
falls_one whole size shown n t e w h l = omega (arith, e, w, h, l)

pub falls_two : (whole a b x y n t : ℕ) → x ≡ a → y ≡ b → whole ≡ suc (a + b) → 5 * whole ≡ t → n < 5 → 5 * (x + y) + n < t
falls_two whole a b x y n t e f w h l = omega (arith, e, f, w, h, l)

pub falls_target : {A : Type 0} (to : Option (Box (Expr A) Global)) (b : Box (Expr A) Global) (x : Expr A) (t : ℕ) → to ≡ Some b → x ≡ b.value → 5 * target_size (target_of to) + 3 ≡ t → 5 * exp_size (expr_of x) + 2 < t
unfolding exp_size exps_size target_size
falls_target to b x t is same h =
    let e : target_size (target_of to) ≡ exp_size (expr_of b.value) = ap (λ (o : Option (Box (Expr _) Global)). target_size (target_of o)) is in
    let s = ap (λ (z : Expr _). exp_size (expr_of z)) same in
    omega (arith, e, s, h)

size_within : {A : Type 0} (row : List (Expr A)) (i : ℕ) (x : Expr A) → i < length row → x ≡ get_or row i x → exp_size (expr_of x) ≤ exps_size (exprs_of row)
unfolding exp_size exps_size target_size
size_within [] i x lt e = absurd (omega arith)
size_within (y ∷ ys) zero x lt e = let s = ap (λ (z : Expr _). exp_size (expr_of z)) e in omega arith
size_within (y ∷ ys) (suc i) x lt e = let h = size_within ys i x (omega arith) e in omega arith

pub falls_item : {A : Type 0} (row : List (Expr A)) (i : ℕ) (x : Expr A) (t : ℕ) → i < length row → x ≡ get_or row i x → 5 * exps_size (exprs_of row) + 2 ≡ t → 5 * exp_size (expr_of x) + 1 < t
falls_item row i x t lt e h = let s = size_within row i x lt e in omega (arith, s, h)

-- ---- what fits

module _ {A : Type 0} (tells : A → ℕ → Span) (F : A → ℕ → Type 0) (base : ℕ) (m : A) (at : ℕ) (start : at ≡ (tells m base).from) where
  abbrev B : A → ℕ → ℕ
  B = begins_by tells

  abbrev Fits : tree.Exp A → Type 0
  Fits e = FitsExp B F base e

  there : (P : ℕ → Type 0) → P (B m base) → P at
  there P x = subst P (sym start) x

  part : (x y : Expr A) → x ≡ y → FitsExp B F (B m base) (expr_of y) → FitsExp B F at (expr_of x)
  part x y same h = there (λ k. FitsExp B F k (expr_of x)) (subst (λ (z : Expr A). FitsExp B F (B m base) (expr_of z)) (sym same) h)

  parts : (x y : List (Expr A)) → x ≡ y → FitsExps B F (B m base) (exprs_of y) → FitsExps B F at (exprs_of x)
  parts x y same h = there (λ k. FitsExps B F k (exprs_of x)) (subst (λ (z : List (Expr A)). FitsExps B F (B m base) (exprs_of z)) (sym same) h)

  pub name_fits : (w : tree.Word A) → Fits (tree.name m w) → F w.mark at
  unfolding FitsExp FitsTarget FitsExps
  name_fits w h = there (λ k. F w.mark k) h.1

  pub super_fits : (w : tree.Word A) → Fits (tree.super_field m w) → F w.mark at
  unfolding FitsExp FitsTarget FitsExps
  super_fits w h = there (λ k. F w.mark k) h.1

  pub field_fits : (x y : Expr A) (w : tree.Word A) → x ≡ y → Fits (tree.field m (expr_of y) w) → FitsExp B F at (expr_of x) × F w.mark at
  unfolding FitsExp FitsTarget FitsExps
  field_fits x y w same h = (part x y same h.1, there (λ k. F w.mark k) h.2)

  pub call_fits : (to : tree.Target A) (w : tree.Word A) (x y : List (Expr A)) → x ≡ y → Fits (tree.call m to w (exprs_of y)) → FitsTarget B F at to × F w.mark at × FitsExps B F at (exprs_of x)
  unfolding FitsExp FitsTarget FitsExps
  call_fits to w x y same h = (there (λ k. FitsTarget B F k to) h.1, there (λ k. F w.mark k) h.2, parts x y same h.3)

  pub super_call_fits : (w : tree.Word A) (x y : List (Expr A)) → x ≡ y → Fits (tree.super_call m w (exprs_of y)) → F w.mark at × FitsExps B F at (exprs_of x)
  unfolding FitsExp FitsTarget FitsExps
  super_call_fits w x y same h = (there (λ k. F w.mark k) h.1, parts x y same h.2)

  pub create_fits : (t : tree.TypeName A) (x y : List (Expr A)) → x ≡ y → Fits (tree.create m t (exprs_of y)) → FitsExps B F at (exprs_of x)
  unfolding FitsExp FitsTarget FitsExps
  create_fits t x y same h = parts x y same h.2

  pub paren_fits : (x y : Expr A) → x ≡ y → Fits (tree.paren m (expr_of y)) → FitsExp B F at (expr_of x)
  unfolding FitsExp FitsTarget FitsExps
  paren_fits x y same h = part x y same h.1

  pub unary_fits : (op : UnOp) (x y : Expr A) → x ≡ y → Fits (tree.unary m op (expr_of y)) → FitsExp B F at (expr_of x)
  unfolding FitsExp FitsTarget FitsExps
  unary_fits op x y same h = part x y same h.1

  pub bump_fits : (op : BumpOp) (x y : Expr A) → x ≡ y → Fits (tree.bump m op (expr_of y)) → FitsExp B F at (expr_of x)
  unfolding FitsExp FitsTarget FitsExps
  bump_fits op x y same h = part x y same h.1

  pub cast_fits : (t : tree.TypeName A) (x y : Expr A) → x ≡ y → Fits (tree.cast m t (expr_of y)) → FitsExp B F at (expr_of x)
  unfolding FitsExp FitsTarget FitsExps
  cast_fits t x y same h = part x y same h.2

  pub binary_fits : (op : BinOp) (x y u v : Expr A) → x ≡ y → u ≡ v → Fits (tree.binary m op (expr_of y) (expr_of v)) → FitsExp B F at (expr_of x) × FitsExp B F at (expr_of u)
  unfolding FitsExp FitsTarget FitsExps
  binary_fits op x y u v e f h = (part x y e h.1, part u v f h.2)

  pub assign_fits : (x y u v : Expr A) → x ≡ y → u ≡ v → Fits (tree.assign m (expr_of y) (expr_of v)) → FitsExp B F at (expr_of x) × FitsExp B F at (expr_of u)
  unfolding FitsExp FitsTarget FitsExps
  assign_fits x y u v e f h = (part x y e h.1, part u v f h.2)

  pub compound_fits : (op : BinOp) (x y u v : Expr A) → x ≡ y → u ≡ v → Fits (tree.compound m op (expr_of y) (expr_of v)) → FitsExp B F at (expr_of x) × FitsExp B F at (expr_of u)
  unfolding FitsExp FitsTarget FitsExps
  compound_fits op x y u v e f h = (part x y e h.1, part u v f h.2)

-- ---- what is put

module _ {A : Type 0} (tells : A → ℕ → Span) (g : Given) (path : List ℕ) (base : ℕ) (m : A) (at : ℕ) (start : at ≡ (tells m base).from) (old new : Steps) where
  abbrev Whole : tree.Exp A → Type 0
  Whole e = Walked g (route.exp tells path base e) old new

  here : (P : ℕ → Type 0) → P at → P (begins_by tells m base)
  here P x = subst P start x

  pub name_puts : (w : tree.Word A) → Walked g (route.load (begins_by tells w.mark at)) old new → Whole (tree.name m w)
  unfolding spot_exp spot_exps
  name_puts w h = here (λ k. Walked g (route.load (begins_by tells w.mark k)) old new) h

  pub super_puts : (w : tree.Word A) → Walked g (route.field_load (begins_by tells w.mark at)) old new → Whole (tree.super_field m w)
  unfolding spot_exp spot_exps
  super_puts w h = here (λ k. Walked g (route.field_load (begins_by tells w.mark k)) old new) h

  pub field_puts : (x y : Expr A) (w : tree.Word A) → x ≡ y → Walked g (route.field tells path at (expr_of x) (begins_by tells w.mark at)) old new → Whole (tree.field m (expr_of y) w)
  unfolding spot_exp spot_exps
  field_puts x y w same h =
      here (λ k. Walked g (route.field tells path k (expr_of y) (begins_by tells w.mark k)) old new)
      (subst (λ (z : Expr A). Walked g (route.field tells path at (expr_of z) (begins_by tells w.mark at)) old new) same h)

  call_whole : (to : tree.Target A) (w : tree.Word A) (es : tree.Exps A) → Walked g (route.call tells path (begins_by tells m base) to (begins_by tells w.mark (begins_by tells m base)) es) old new → Whole (tree.call m to w es)
  unfolding spot_exp spot_exps
  call_whole tree.no_target w es h = h
  call_whole (tree.on e) w es h = h

  pub call_puts : (to : tree.Target A) (w : tree.Word A) (x y : List (Expr A)) → x ≡ y → Walked g (route.call tells path at to (begins_by tells w.mark at) (exprs_of x)) old new → Whole (tree.call m to w (exprs_of y))
  call_puts to w x y same h =
      call_whole to w (exprs_of y) (here (λ k. Walked g (route.call tells path k to (begins_by tells w.mark k) (exprs_of y)) old new)
      (subst (λ (z : List (Expr A)). Walked g (route.call tells path at to (begins_by tells w.mark at) (exprs_of z)) old new) same h))

  pub super_call_puts : (w : tree.Word A) (x y : List (Expr A)) → x ≡ y → Walked g (route.super_call tells path at (begins_by tells w.mark at) (exprs_of x)) old new → Whole (tree.super_call m w (exprs_of y))
  unfolding spot_exp spot_exps
  super_call_puts w x y same h =
      here (λ k. Walked g (route.super_call tells path k (begins_by tells w.mark k) (exprs_of y)) old new)
      (subst (λ (z : List (Expr A)). Walked g (route.super_call tells path at (begins_by tells w.mark at) (exprs_of z)) old new) same h)

  pub create_puts : (t : tree.TypeName A) (x y : List (Expr A)) → x ≡ y → Walked g (route.create tells path at (exprs_of x)) old new → Whole (tree.create m t (exprs_of y))
  unfolding spot_exp spot_exps
  create_puts t x y same h =
      here (λ k. Walked g (route.create tells path k (exprs_of y)) old new)
      (subst (λ (z : List (Expr A)). Walked g (route.create tells path at (exprs_of z)) old new) same h)

  one_part : (x y : Expr A) → x ≡ y → Walked g (route.exp tells (path ++ 0 ∷ []) at (expr_of x)) old new → Walked g (route.exp tells (path ++ 0 ∷ []) (begins_by tells m base) (expr_of y)) old new
  one_part x y same h =
      here (λ k. Walked g (route.exp tells (path ++ 0 ∷ []) k (expr_of y)) old new)
      (subst (λ (z : Expr A). Walked g (route.exp tells (path ++ 0 ∷ []) at (expr_of z)) old new) same h)

  pub paren_puts : (x y : Expr A) → x ≡ y → Walked g (route.exp tells (path ++ 0 ∷ []) at (expr_of x)) old new → Whole (tree.paren m (expr_of y))
  unfolding spot_exp spot_exps
  paren_puts x y same h = one_part x y same h

  pub unary_puts : (op : UnOp) (x y : Expr A) → x ≡ y → Walked g (route.exp tells (path ++ 0 ∷ []) at (expr_of x)) old new → Whole (tree.unary m op (expr_of y))
  unfolding spot_exp spot_exps
  unary_puts op x y same h = one_part x y same h

  pub cast_puts : (t : tree.TypeName A) (x y : Expr A) → x ≡ y → Walked g (route.cast tells path at (expr_of x)) old new → Whole (tree.cast m t (expr_of y))
  unfolding spot_exp spot_exps
  cast_puts t x y same h =
      here (λ k. Walked g (route.cast tells path k (expr_of y)) old new)
      (subst (λ (z : Expr A). Walked g (route.cast tells path at (expr_of z)) old new) same h)

  pub bump_puts : (op : BumpOp) (x y : Expr A) → x ≡ y → Walked g (route.bump tells path at (expr_of x)) old new → Whole (tree.bump m op (expr_of y))
  unfolding spot_exp spot_exps
  bump_puts op x y same h =
      here (λ k. Walked g (route.bump tells path k (expr_of y)) old new)
      (subst (λ (z : Expr A). Walked g (route.bump tells path at (expr_of z)) old new) same h)

  two_parts : (R : ℕ → tree.Exp A → tree.Exp A → Type 0) (x y u v : Expr A) → x ≡ y → u ≡ v → R at (expr_of x) (expr_of u) → R (begins_by tells m base) (expr_of y) (expr_of v)
  two_parts R x y u v e f h =
      here (λ k. R k (expr_of y) (expr_of v))
      (subst (λ (z : Expr A). R at (expr_of y) (expr_of z)) f (subst (λ (z : Expr A). R at (expr_of z) (expr_of u)) e h))

  pub binary_puts : (op : BinOp) (x y u v : Expr A) → x ≡ y → u ≡ v → Walked g (route.binary tells op path at (expr_of x) (expr_of u)) old new → Whole (tree.binary m op (expr_of y) (expr_of v))
  unfolding spot_exp spot_exps
  binary_puts op x y u v e f h = two_parts (λ k a b. Walked g (route.binary tells op path k a b) old new) x y u v e f h

  pub assign_puts : (x y u v : Expr A) → x ≡ y → u ≡ v → Walked g (route.assign tells path at (expr_of x) (expr_of u)) old new → Whole (tree.assign m (expr_of y) (expr_of v))
  unfolding spot_exp spot_exps
  assign_puts x y u v e f h = two_parts (λ k a b. Walked g (route.assign tells path k a b) old new) x y u v e f h

  pub compound_puts : (op : BinOp) (x y u v : Expr A) → x ≡ y → u ≡ v → Walked g (route.compound tells op path at (expr_of x) (expr_of u)) old new → Whole (tree.compound m op (expr_of y) (expr_of v))
  unfolding spot_exp spot_exps
  compound_puts op x y u v e f h = two_parts (λ k a b. Walked g (route.compound tells op path k a b) old new) x y u v e f h

-- ---- in front of a dot, and targets

module _ {A : Type 0} (tells : A → ℕ → Span) (g : Given) (path : List ℕ) (at : ℕ) (e : tree.Exp A) (old new : Steps) where
  pub left_passes : ((o : Others) → sites.is_class_name (known_of g o) (spots tells path at e) ≡ true) → Walked g route.nothing old new → Walked g (route.left tells path at e) old new
  left_passes is h = walked_as g route.nothing (route.left tells path at e) old new (λ o. ap (λ (b : Bool). unless b (route.exp tells path at e g o)) (sym (is o))) h

  pub left_stays : ((o : Others) → sites.is_class_name (known_of g o) (spots tells path at e) ≡ false) → Walked g (route.exp tells path at e) old new → Walked g (route.left tells path at e) old new
  left_stays is h = walked_as g (route.exp tells path at e) (route.left tells path at e) old new (λ o. ap (λ (b : Bool). unless b (route.exp tells path at e g o)) (sym (is o))) h

  pub no_operand : (a : Aim A) → aim_of e ≡ a → ((o : Others) → way.pass ≡ operand_by tells g o path at (exp_mark e) a) → Walked g route.nothing old new → Walked g (route.target_operand tells path at e) old new
  no_operand a is none h = walked_as g route.nothing (route.target_operand tells path at e) old new (λ o. none o ∙ ap (operand_by tells g o path at (exp_mark e)) (sym is) ∙ sym (operand_spots tells g o path at e)) h

pub dotted_operand : {A : Type 0} (tells : A → ℕ → Span) (g : Given) (path : List ℕ) (at : ℕ) (e : tree.Exp A) (from : ℕ) → from ≡ (tells (exp_mark e) at).from → (x : tree.Exp A) (w : tree.Word A) (inner : List ℕ) (old new : Steps) → inner ≡ path ++ 0 ∷ [] → aim_of e ≡ dotted x w
    → Walked g (route.left tells (inner ++ 0 ∷ []) from x) old new → Walked g (route.target_operand tells (path ++ 0 ∷ []) at e) old new
dotted_operand tells g path at e from start x w inner old new there is h =
    walked_as g (route.left tells (inner ++ 0 ∷ []) from x) (route.target_operand tells (path ++ 0 ∷ []) at e) old new
    (λ o. (λ i. route.left tells (there i ++ 0 ∷ []) (start i) x g o) ∙ ap (operand_by tells g o (path ++ 0 ∷ []) at (exp_mark e)) (sym is) ∙ sym (operand_spots tells g o (path ++ 0 ∷ []) at e)) h

pub falls_aim : {A : Type 0} (e x : tree.Exp A) (w : tree.Word A) (t : ℕ) → aim_of e ≡ dotted x w → 5 * exp_size e + 1 ≡ t → 5 * exp_size x + 2 < t
falls_aim e x w t is h = let s = aim_falls e x w is in omega (arith, s, h)

pub target_fits : {A : Type 0} (tells : A → ℕ → Span) (F : A → ℕ → Type 0) (at : ℕ) (to : Option (Box (Expr A) Global)) (b : Box (Expr A) Global) (x : Expr A) → to ≡ Some b → x ≡ b.value → FitsTarget (begins_by tells) F at (target_of to) → FitsExp (begins_by tells) F at (expr_of x)
unfolding FitsExp FitsTarget FitsExps
target_fits tells F at to b x is same h =
    subst (λ (z : Expr _). FitsExp (begins_by tells) F at (expr_of z)) (sym same) (subst (λ (o : Option (Box (Expr _) Global)). FitsTarget (begins_by tells) F at (target_of o)) is h)

pub dotted_fits : {A : Type 0} (tells : A → ℕ → Span) (F : A → ℕ → Type 0) (at : ℕ) (e : tree.Exp A) (from : ℕ) → from ≡ (tells (exp_mark e) at).from → (x : tree.Exp A) (w : tree.Word A) → aim_of e ≡ dotted x w → FitsExp (begins_by tells) F at e → FitsExp (begins_by tells) F from x
dotted_fits tells F at e from start x w is h = subst (λ k. FitsExp (begins_by tells) F k x) (sym start) ((aim_fits tells F at e x w is h).0)

pub no_call : {A : Type 0} (g : Given) (tells : A → ℕ → Span) (path : List ℕ) (base : ℕ) (m : A) (to : tree.Target A) (w : tree.Word A) (es : tree.Exps A) → false ≡ is_never_null g (spots tells path base (tree.call m to w es))
unfolding spot_exp spot_exps
no_call g tells path base m tree.no_target w es = refl
no_call g tells path base m (tree.on e) w es = refl

-- ---- arguments

turn : (n e r q : Seen) → (n ++ e) ++ (r ++ (step.row ∷ q)) ≡ n ++ ((e ++ (r ++ step.row ∷ [])) ++ q)
turn n e r q =
    append_assoc n e (r ++ (step.row ∷ q))
    ∙ ap (λ (l : Seen). n ++ l) (sym (append_assoc e (r ++ step.row ∷ []) q ∙ ap (λ (l : Seen). e ++ l) (append_assoc r (step.row ∷ []) q)))

module _ {A : Type 0} (tells : A → ℕ → Span) (F : A → ℕ → Type 0) (g : Given) (path : List ℕ) (first at : ℕ) (parts : List (Expr A)) where
  -- what is left, and the ends of those that are done, make the whole
  abbrev pub Left : (old now : Steps) → (step i : ℕ) → Type 0
  Left old now next i = (o : Others)
      → steps_in g.member now ++ (steps_of (route.exps tells path next at (exprs_of (drop i parts)) g o) ++ rows i) ≡ steps_in g.member old ++ steps_of (route.exps tells path first at (exprs_of parts) g o)

  pub left_all : (old : Steps) → Left old old first 0
  left_all old o = ap (λ (l : Seen). steps_in g.member old ++ l) (append-nil (steps_of (route.exps tells path first at (exprs_of parts) g o)))

  pub left_more : (old now new : Steps) (next after i : ℕ) (x : Expr A) → i < length parts → x ≡ get_or parts i x → after ≡ next + 1 → Left old now next i → Walked g (route.exp tells (path ++ next ∷ []) at (expr_of x)) now new → Left old new after (i + 1)
  unfolding spot_exp spot_exps
  left_more old now new next after i x lt is more left one o =
      let rest = exprs_of (drop (i + 1) parts) in
      let e = steps_of (route.exp tells (path ++ next ∷ []) at (expr_of x) g o) in
      let r = steps_of (route.exps tells path (suc next) at rest g o) in
      let n = steps_in g.member now in
      let there : after ≡ suc next = more ∙ add-one next in
      (λ j. one o j ++ (steps_of (route.exps tells path (there j) at rest g o) ++ rows_front i j))
      ∙ turn n e r (rows i)
      ∙ ap (λ (l : List (Expr A)). n ++ (steps_of (route.exps tells path next at (exprs_of l) g o) ++ rows i)) (sym (left_is parts i x lt is))
      ∙ left o

  pub left_none : (old now mid new : Steps) (next i count : ℕ) → length parts ≤ i → i ≤ length parts → count ≡ length parts → Left old now next i → Walked g route.nothing now mid → steps_in g.member new ≡ steps_in g.member mid ++ rows count → Walked g (route.exps tells path first at (exprs_of parts)) old new
  unfolding spot_exp spot_exps
  left_none old now mid new next i count past within all left none ends o =
      let n = steps_in g.member now in
      let same : count ≡ i = omega (arith, past, within, all) in
      ends ∙ (λ j. none o j ++ rows (same j)) ∙ append_assoc n (step.pass ∷ []) (rows i)
      ∙ ap (λ (l : List (Expr A)). n ++ (steps_of (route.exps tells path next at (exprs_of l) g o) ++ rows i)) (sym (drop_all i parts past))
      ∙ left o

  pub item_fits : (i : ℕ) (x : Expr A) → i < length parts → x ≡ get_or parts i x → FitsExps (begins_by tells) F at (exprs_of (drop i parts)) → FitsExp (begins_by tells) F at (expr_of x) × FitsExps (begins_by tells) F at (exprs_of (drop (i + 1) parts))
  unfolding FitsExp FitsTarget FitsExps
  item_fits i x lt is h = subst (λ (z : List (Expr A)). FitsExps (begins_by tells) F at (exprs_of z)) (left_is parts i x lt is) h
