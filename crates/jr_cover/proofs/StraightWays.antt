-- Expressions have no return, and class names no code.
use Rattle.std.proofs.Common.{◌≡◌, Bool, true, false, ◌&&◌, ◌||◌, not, Option, Some, None, is_none, refl, ap}
use Rattle.jr_ast.specs.declared.operators.BinOp.{BinOp}
use Rattle.jr_ast.specs.declared.operators.BinOp.TheVariants.{Or, And, Eq, Ne, Lt, Gt, Le, Ge, Add, Sub, Mul, Div, Rem}
use Rattle.jr_ast.specs.Tree as tree
use Rattle.jr_runs.specs.Keys.{Keys}
use Rattle.jr_cover.specs.Facts.{Variable, is_local, is_static_field, is_instance_field}
use Rattle.jr_cover.specs.Translation.{exp_code, nothing, read_of, named_target, field_target}
use Rattle.jr_cover.specs.Ways.{Way, Straight}
use Rattle.jr_cover.specs.Sites.{What, Site, at_place, Known, unless, is_class_name, null_check, load_of, store_of, field_load, field_store, field_check, mark_of, divisor_check, operands, exp_way, receiver_way, exps_way, receiver_check, operand_way, target_check, target_load, target_store}

module _ {K : Keys} where
  pub unless_straight : (b : Bool) (w : Way (Site K)) → Straight w → Straight (unless b w)
  unless_straight true w s = tt
  unless_straight false w s = s

  pub load_straight : (p : K.place) (v : Option (Variable K)) → Straight (load_of p v)
  load_straight p None = tt
  load_straight p (Some (is_local n)) = tt
  load_straight p (Some (is_static_field f)) = tt
  load_straight p (Some (is_instance_field f)) = tt

  pub store_straight : (p : K.place) (v : Option (Variable K)) → Straight (store_of p v)
  store_straight p None = tt
  store_straight p (Some (is_local n)) = tt
  store_straight p (Some (is_static_field f)) = tt
  store_straight p (Some (is_instance_field f)) = tt

  pub field_load_straight : (p : K.place) (v : Option (Variable K)) → Straight (field_load p v)
  field_load_straight p None = tt
  field_load_straight p (Some (is_local n)) = tt
  field_load_straight p (Some (is_static_field f)) = tt
  field_load_straight p (Some (is_instance_field f)) = tt

  pub field_store_straight : (p : K.place) (v : Option (Variable K)) → Straight (field_store p v)
  field_store_straight p None = tt
  field_store_straight p (Some (is_local n)) = tt
  field_store_straight p (Some (is_static_field f)) = tt
  field_store_straight p (Some (is_instance_field f)) = tt

  pub field_check_straight : (w : Way (Site K)) (v : Option (Variable K)) → Straight w → Straight (field_check w v)
  field_check_straight w None s = tt
  field_check_straight w (Some (is_local n)) s = tt
  field_check_straight w (Some (is_static_field f)) s = s
  field_check_straight w (Some (is_instance_field f)) s = s

  pub operands_straight : (op : BinOp) (l r c : Way (Site K)) → Straight l → Straight r → Straight c → Straight (operands op l r c)
  operands_straight Or l r c i j k = (i, (j, tt))
  operands_straight And l r c i j k = (i, (j, tt))
  operands_straight Eq l r c i j k = (i, (j, k))
  operands_straight Ne l r c i j k = (i, (j, k))
  operands_straight Lt l r c i j k = (i, (j, k))
  operands_straight Gt l r c i j k = (i, (j, k))
  operands_straight Le l r c i j k = (i, (j, k))
  operands_straight Ge l r c i j k = (i, (j, k))
  operands_straight Add l r c i j k = (i, (j, k))
  operands_straight Sub l r c i j k = (i, (j, k))
  operands_straight Mul l r c i j k = (i, (j, k))
  operands_straight Div l r c i j k = (i, (j, k))
  operands_straight Rem l r c i j k = (i, (j, k))

module _ {K : Keys} {A : Type 0} (X : Known K A) where
  pub null_check_straight : (e : tree.Exp A) (p : K.place) → Straight (null_check X e p)
  null_check_straight e p = unless_straight (is_class_name X e || X.never_null e) (at_place p What.checks) tt

  pub divisor_straight : (op : BinOp) (e : tree.Exp A) → Straight (divisor_check X op e)
  divisor_straight op e = unless_straight _ (at_place (X.facts.first (mark_of e)) What.checks) tt

  pub receiver_check_straight : (t : tree.Target A) (p : K.place) → Straight (receiver_check X t p)
  receiver_check_straight tree.no_target p = tt
  receiver_check_straight (tree.on e) p = null_check_straight e p

  mutual
    pub exp_straight : (e : tree.Exp A) → Straight (exp_way X e)
    exp_straight (tree.number a n) = tt
    exp_straight (tree.truth a b) = tt
    exp_straight (tree.null a) = tt
    exp_straight (tree.string a s) = tt
    exp_straight (tree.name a w) = load_straight (X.facts.first w.mark) (X.facts.variable w.mark)
    exp_straight (tree.field a e w) = (
      unless_straight (is_class_name X e) (exp_way X e) (exp_straight e),
      (field_check_straight (null_check X e (X.facts.first w.mark)) (X.facts.variable w.mark) (null_check_straight e (X.facts.first w.mark)), field_load_straight (X.facts.first w.mark) (X.facts.variable w.mark)),
    )
    exp_straight (tree.super_field a w) = field_load_straight (X.facts.first w.mark) (X.facts.variable w.mark)
    exp_straight (tree.this a) = tt
    exp_straight (tree.class_literal a t) = tt
    exp_straight (tree.call a t w es) = (receiver_straight t, (exps_straight es, (receiver_check_straight t (X.facts.first w.mark), tt)))
    exp_straight (tree.super_call a w es) = (exps_straight es, tt)
    exp_straight (tree.create a t es) = (tt, (exps_straight es, tt))
    exp_straight (tree.paren a e) = exp_straight e
    exp_straight (tree.cast a t e) = (exp_straight e, unless_straight (not (X.facts.is_checked a)) (at_place (X.facts.first a) What.checks) tt)
    exp_straight (tree.unary a op e) = exp_straight e
    exp_straight (tree.bump a op t) = (operand_straight t, (target_load_straight t, target_store_straight t))
    exp_straight (tree.binary a op l r) = operands_straight op (exp_way X l) (exp_way X r) (divisor_check X op r) (exp_straight l) (exp_straight r) (divisor_straight op r)
    exp_straight (tree.assign a t e) = (operand_straight t, (exp_straight e, (target_check_straight t, target_store_straight t)))
    exp_straight (tree.compound a op t e) = (operand_straight t, (target_load_straight t, (exp_straight e, (divisor_straight op e, target_store_straight t))))

    pub receiver_straight : (t : tree.Target A) → Straight (receiver_way X t)
    receiver_straight tree.no_target = tt
    receiver_straight (tree.on e) = unless_straight (is_class_name X e) (exp_way X e) (exp_straight e)

    pub exps_straight : (es : tree.Exps A) → Straight (exps_way X es)
    exps_straight tree.end = tt
    exps_straight (tree.more e es) = (exp_straight e, exps_straight es)

    pub operand_straight : (t : tree.Exp A) → Straight (operand_way X t)
    operand_straight (tree.field a e w) = unless_straight (is_class_name X e) (exp_way X e) (exp_straight e)
    operand_straight (tree.number a n) = tt
    operand_straight (tree.truth a b) = tt
    operand_straight (tree.null a) = tt
    operand_straight (tree.string a s) = tt
    operand_straight (tree.name a w) = tt
    operand_straight (tree.super_field a w) = tt
    operand_straight (tree.this a) = tt
    operand_straight (tree.class_literal a t) = tt
    operand_straight (tree.call a t w es) = tt
    operand_straight (tree.super_call a w es) = tt
    operand_straight (tree.create a t es) = tt
    operand_straight (tree.paren a e) = tt
    operand_straight (tree.cast a t e) = tt
    operand_straight (tree.unary a op e) = tt
    operand_straight (tree.bump a op t) = tt
    operand_straight (tree.binary a op l r) = tt
    operand_straight (tree.assign a t e) = tt
    operand_straight (tree.compound a op t e) = tt

    pub target_check_straight : (t : tree.Exp A) → Straight (target_check X t)
    target_check_straight (tree.field a e w) = field_check_straight (null_check X e (X.facts.first w.mark)) (X.facts.variable w.mark) (null_check_straight e (X.facts.first w.mark))
    target_check_straight (tree.number a n) = tt
    target_check_straight (tree.truth a b) = tt
    target_check_straight (tree.null a) = tt
    target_check_straight (tree.string a s) = tt
    target_check_straight (tree.name a w) = tt
    target_check_straight (tree.super_field a w) = tt
    target_check_straight (tree.this a) = tt
    target_check_straight (tree.class_literal a t) = tt
    target_check_straight (tree.call a t w es) = tt
    target_check_straight (tree.super_call a w es) = tt
    target_check_straight (tree.create a t es) = tt
    target_check_straight (tree.paren a e) = tt
    target_check_straight (tree.cast a t e) = tt
    target_check_straight (tree.unary a op e) = tt
    target_check_straight (tree.bump a op t) = tt
    target_check_straight (tree.binary a op l r) = tt
    target_check_straight (tree.assign a t e) = tt
    target_check_straight (tree.compound a op t e) = tt

    pub target_load_straight : (t : tree.Exp A) → Straight (target_load X t)
    target_load_straight (tree.field a e w) = (field_check_straight (null_check X e (X.facts.first w.mark)) (X.facts.variable w.mark) (null_check_straight e (X.facts.first w.mark)), field_load_straight (X.facts.first w.mark) (X.facts.variable w.mark))
    target_load_straight (tree.name a w) = load_straight (X.facts.first w.mark) (X.facts.variable w.mark)
    target_load_straight (tree.super_field a w) = field_load_straight (X.facts.first w.mark) (X.facts.variable w.mark)
    target_load_straight (tree.number a n) = tt
    target_load_straight (tree.truth a b) = tt
    target_load_straight (tree.null a) = tt
    target_load_straight (tree.string a s) = tt
    target_load_straight (tree.this a) = tt
    target_load_straight (tree.class_literal a t) = tt
    target_load_straight (tree.call a t w es) = tt
    target_load_straight (tree.super_call a w es) = tt
    target_load_straight (tree.create a t es) = tt
    target_load_straight (tree.paren a e) = tt
    target_load_straight (tree.cast a t e) = tt
    target_load_straight (tree.unary a op e) = tt
    target_load_straight (tree.bump a op t) = tt
    target_load_straight (tree.binary a op l r) = tt
    target_load_straight (tree.assign a t e) = tt
    target_load_straight (tree.compound a op t e) = tt

    pub target_store_straight : (t : tree.Exp A) → Straight (target_store X t)
    target_store_straight (tree.field a e w) = field_store_straight (X.facts.first w.mark) (X.facts.variable w.mark)
    target_store_straight (tree.name a w) = store_straight (X.facts.first w.mark) (X.facts.variable w.mark)
    target_store_straight (tree.super_field a w) = field_store_straight (X.facts.first w.mark) (X.facts.variable w.mark)
    target_store_straight (tree.number a n) = tt
    target_store_straight (tree.truth a b) = tt
    target_store_straight (tree.null a) = tt
    target_store_straight (tree.string a s) = tt
    target_store_straight (tree.this a) = tt
    target_store_straight (tree.class_literal a t) = tt
    target_store_straight (tree.call a t w es) = tt
    target_store_straight (tree.super_call a w es) = tt
    target_store_straight (tree.create a t es) = tt
    target_store_straight (tree.paren a e) = tt
    target_store_straight (tree.cast a t e) = tt
    target_store_straight (tree.unary a op e) = tt
    target_store_straight (tree.bump a op t) = tt
    target_store_straight (tree.binary a op l r) = tt
    target_store_straight (tree.assign a t e) = tt
    target_store_straight (tree.compound a op t e) = tt

  -- ---- a class in front of a dot has no code

  no : {B : Type 0} → false ≡ true → B
  no e = absurd (false_is_not_true e)
    where
      false_is_not_true : false ≡ true → ⊥
      false_is_not_true i = cc

  unbound : (v : Option (Variable K)) (b : Bool) → (is_none v && b) ≡ true → v ≡ None
  unbound None b e = refl
  unbound (Some v) b e = no e

  pub class_code : (e : tree.Exp A) → is_class_name X e ≡ true → (p : K.place) × (exp_code X.facts e ≡ nothing p)
  class_code (tree.name a w) h = (X.facts.first a, ap (λ v. read_of (X.facts.first a) (named_target (X.facts.first w.mark) v)) (unbound (X.facts.variable w.mark) (X.is_class w.mark) h))
  class_code (tree.field a e w) h = (X.facts.first a, ap (λ v. read_of (X.facts.first a) (field_target (X.facts.first w.mark) (exp_code X.facts e) v)) (unbound (X.facts.variable w.mark) (X.is_class w.mark) h))
  class_code (tree.number a n) h = no h
  class_code (tree.truth a b) h = no h
  class_code (tree.null a) h = no h
  class_code (tree.string a s) h = no h
  class_code (tree.super_field a w) h = no h
  class_code (tree.this a) h = no h
  class_code (tree.class_literal a t) h = no h
  class_code (tree.call a t w es) h = no h
  class_code (tree.super_call a w es) h = no h
  class_code (tree.create a t es) h = no h
  class_code (tree.paren a e) h = no h
  class_code (tree.cast a t e) h = no h
  class_code (tree.unary a op e) h = no h
  class_code (tree.bump a op t) h = no h
  class_code (tree.binary a op l r) h = no h
  class_code (tree.assign a t e) h = no h
  class_code (tree.compound a op t e) h = no h
