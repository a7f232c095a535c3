-- The code of expressions, by what binding says of marks. What is bound to nothing is null, which
-- no sound program has.
use Rattle.std.specs.Prelude.{Bool, true, false, Option, Some, None, pos}
use Rattle.jr_ast.specs.Tree as tree
use Rattle.jr_ast.specs.Tree.{TypeName}
use Rattle.jr_runs.specs.Keys.{Keys}
use Rattle.jr_runs.specs.Values.{int, truth, null, text, class_object}
use Rattle.jr_runs.specs.Arithmetic.{wrapped}
use Rattle.jr_runs.specs.Core.{Arithmetic, Bump, Exp, literal, this, read, assign, compound, bump}
use Rattle.jr_runs.specs.Core.{signed, cast, static_call, instance_call, super_call, create}
use Rattle.jr_runs.specs.Core.{Target, local, static_field, field_of, Exps, end, more}
use Rattle.jr_runs.specs.Translation.{unescaped, sign_of, bump_of, arithmetic_of, operation}
use Rattle.jr_cover.specs.Facts.{Variable, is_local, is_static_field, is_instance_field, Called}
use Rattle.jr_cover.specs.Facts.{is_static_method, is_instance_method, Created, Facts}

abbrev pub nothing : {K : Keys} → K.place → Exp K
nothing p = literal (Some p) null

-- A name: a local, or a field of `this`, or a static field. at: the name's place.
abbrev pub named_target : {K : Keys} → K.place → Option (Variable K) → Option (Target K)
named_target at None = None
named_target at (Some (is_local n)) = Some (local (Some at) n)
named_target at (Some (is_static_field f)) = Some (static_field (Some at) f)
named_target at (Some (is_instance_field f)) = Some (field_of (Some at) (this None) f)

-- A field behind a dot: what stands in front of a static one is a class, and is dropped.
abbrev pub field_target : {K : Keys} → K.place → Exp K → Option (Variable K) → Option (Target K)
field_target at e None = None
field_target at e (Some (is_local n)) = None
field_target at e (Some (is_static_field f)) = Some (static_field (Some at) f)
field_target at e (Some (is_instance_field f)) = Some (field_of (Some at) e f)

-- `super.x` is the field x of `this` that is found from the superclass
abbrev pub super_target : {K : Keys} → K.place → Option (Variable K) → Option (Target K)
super_target at v = field_target at (this None) v

abbrev pub read_of : {K : Keys} → K.place → Option (Target K) → Exp K
read_of p None = nothing p
read_of p (Some t) = read (Some p) t

abbrev pub assign_of : {K : Keys} → K.place → Option (Target K) → Exp K → Exp K
assign_of p None e = nothing p
assign_of p (Some t) e = assign (Some p) t e

abbrev pub compound_of : {K : Keys} → K.place → Option Arithmetic → Option (Target K)
    → Exp K → Exp K
compound_of p None t e = nothing p
compound_of p (Some op) None e = nothing p
compound_of p (Some op) (Some t) e = compound (Some p) op t e

abbrev pub bump_at : {K : Keys} → K.place → Bump → Option (Target K) → Exp K
bump_at p op None = nothing p
bump_at p op (Some t) = bump (Some p) op t

-- A call stands at its name. What stands in front of a static method is a class, and is dropped.
abbrev pub call_at : {K : Keys} → K.place → Exp K → Option (Called K) → Exps K → Exp K
call_at at e None es = nothing at
call_at at e (Some (is_static_method m)) es = static_call (Some at) m es
call_at at e (Some (is_instance_method m)) es = instance_call (Some at) e m es

abbrev pub super_call_at : {K : Keys} → K.place → Option (Called K) → Exps K → Exp K
super_call_at at None es = nothing at
super_call_at at (Some (is_static_method m)) es = static_call (Some at) m es
super_call_at at (Some (is_instance_method m)) es = super_call (Some at) (this None) m es

abbrev pub create_at : {K : Keys} → K.place → Option (Created K) → Exps K → Exp K
create_at at None es = nothing at
create_at at (Some k) es = create (Some at) k.class k.constructor es

abbrev pub class_literal_at : {K : Keys} → K.place → Option K.class → Exp K
class_literal_at at None = nothing at
class_literal_at at (Some c) = literal (Some at) (class_object c)

-- A cast that can't fail is dropped.
abbrev pub cast_at : {K : Keys} → K.place → Bool → Option K.class → Exp K → Exp K
cast_at at false c e = e
cast_at at true None e = nothing at
cast_at at true (Some c) e = cast (Some at) c e

abbrev pub mark_of_type : {A : Type 0} → TypeName A → A
mark_of_type (tree.int a) = a
mark_of_type (tree.boolean a) = a
mark_of_type (tree.named a outer w) = a

abbrev mutual
  pub exp_code : {K : Keys} {A : Type 0} → Facts K A → tree.Exp A → Exp K
  exp_code F (tree.number a n) = literal (Some (F.first a)) (int (wrapped (pos n)))
  exp_code F (tree.truth a b) = literal (Some (F.first a)) (truth b)
  exp_code F (tree.null a) = literal (Some (F.first a)) null
  exp_code F (tree.string a s) = literal (Some (F.first a)) (text (unescaped false s))
  exp_code F (tree.name a w) = read_of (F.first a)
      (named_target (F.first w.mark) (F.variable w.mark))
  exp_code F (tree.field a e w) =
      read_of (F.first a) (field_target (F.first w.mark) (exp_code F e) (F.variable w.mark))
  exp_code F (tree.super_field a w) =
      read_of (F.first a) (super_target (F.first w.mark) (F.variable w.mark))
  exp_code F (tree.this a) = this (Some (F.first a))
  exp_code F (tree.class_literal a t) = class_literal_at (F.first a) (F.class (mark_of_type t))
  exp_code F (tree.call a t w es) =
      call_at (F.first w.mark) (receiver_code F t) (F.called w.mark) (exps_code F es)
  exp_code F (tree.super_call a w es) =
      super_call_at (F.first w.mark) (F.called w.mark) (exps_code F es)
  exp_code F (tree.create a t es) = create_at (F.first a) (F.created a) (exps_code F es)
  exp_code F (tree.paren a e) = exp_code F e
  exp_code F (tree.cast a t e) =
      cast_at (F.first a) (F.is_checked a) (F.class (mark_of_type t)) (exp_code F e)
  exp_code F (tree.unary a op e) = signed (Some (F.first a)) (sign_of op) (exp_code F e)
  exp_code F (tree.bump a op t) = bump_at (F.first a) (bump_of op) (target_code F t)
  exp_code F (tree.binary a op l r) = operation (F.first a) op (exp_code F l) (exp_code F r)
  exp_code F (tree.assign a t e) = assign_of (F.first a) (target_code F t) (exp_code F e)
  exp_code F (tree.compound a op t e) =
      compound_of (F.first a) (arithmetic_of op) (target_code F t) (exp_code F e)

  -- A call without a target is one on `this`.
  pub receiver_code : {K : Keys} {A : Type 0} → Facts K A → tree.Target A → Exp K
  receiver_code F tree.no_target = this None
  receiver_code F (tree.on e) = exp_code F e

  -- what may be assigned or bumped: a name or a field, and nothing else (JLS 15.26, without
  -- parentheses)
  pub target_code : {K : Keys} {A : Type 0} → Facts K A → tree.Exp A → Option (Target K)
  target_code F (tree.name a w) = named_target (F.first w.mark) (F.variable w.mark)
  target_code F (tree.field a e w) =
      field_target (F.first w.mark) (exp_code F e) (F.variable w.mark)
  target_code F (tree.super_field a w) = super_target (F.first w.mark) (F.variable w.mark)
  target_code F (tree.number a n) = None
  target_code F (tree.truth a b) = None
  target_code F (tree.null a) = None
  target_code F (tree.string a s) = None
  target_code F (tree.this a) = None
  target_code F (tree.class_literal a t) = None
  target_code F (tree.call a t w es) = None
  target_code F (tree.super_call a w es) = None
  target_code F (tree.create a t es) = None
  target_code F (tree.paren a e) = None
  target_code F (tree.cast a t e) = None
  target_code F (tree.unary a op e) = None
  target_code F (tree.bump a op t) = None
  target_code F (tree.binary a op l r) = None
  target_code F (tree.assign a t e) = None
  target_code F (tree.compound a op t e) = None

  pub exps_code : {K : Keys} {A : Type 0} → Facts K A → tree.Exps A → Exps K
  exps_code F tree.end = end
  exps_code F (tree.more e es) = more (exp_code F e) (exps_code F es)
