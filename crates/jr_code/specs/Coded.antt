-- The resolved code of expressions, as a relation on trees and on what binding says at each place:
-- which declaration a reference finds, which type an operand has (JLS 6.5, 15). What isn't bound
-- has no code, and a class in front of a dot has none.
use Rattle.std.specs.Prelude.{◌≡◌, ℕ, List, Some, None, pos, false, ◌⊎◌}
use Rattle.jr_ast.specs.Tree as tree
use Rattle.jr_runs.specs.Values.{int, truth, null, text, class_object}
use Rattle.jr_runs.specs.Arithmetic.{wrapped}
use Rattle.jr_runs.specs.Core as core
use Rattle.jr_runs.specs.Core.{Arithmetic}
use Rattle.jr_runs.specs.Translation.{unescaped, sign_of, bump_of, arithmetic_of, operation}
use Rattle.jr_table.specs.Keys.{ClassKey, CtorKey, Ty, class}
use Rattle.jr_table.specs.Decls.{Decl, field_decl, method_decl, constructor_decl, local_decl}
use Rattle.jr_table.specs.Rows.{Row}
use Rattle.jr_table.specs.Keyed.{IsAssignable}
use Rattle.jr_table.specs.Found.{one}
use Rattle.jr_table.specs.Lookup.{FindsVariable}
use Rattle.jr_table.specs.Context.{
  Context,
  scope_of,
  WritesType,
  IsStaticDecl,
  IsInstanceDecl,
}
use Rattle.jr_table.specs.Binding.{
  HasType,
  FieldFinds,
  SuperFieldFinds,
  CallFinds,
  SuperCallFinds,
  CreationFinds,
  word_at,
}
use Rattle.jr_code.specs.RunKeys.{RunKeys, Place}

abbrev pub Code : Type 0
Code = core.Exp RunKeys

abbrev pub TargetCode : Type 0
TargetCode = core.Target RunKeys

-- `this`, implicit or in place of `super`
abbrev pub IsOwn : Code → Type 0
IsOwn z = z ≡ core.this None

module _ (rows : List Row) where
  -- A field at a place. In front of a static one stands a class at most, which is dropped: a value
  -- there breaks a rule (`StaticThroughValue`).
  abbrev pub FieldCode : (Receiver : Code → Type 0) → Decl → Place → TargetCode → Type 0
  FieldCode Receiver (field_decl k) p t =
      (IsStaticDecl rows (field_decl k) × (t ≡ core.static_field (Some p) k))
      ⊎ (IsInstanceDecl rows (field_decl k)
      × ((z : Code) × Receiver z × (t ≡ core.field_of (Some p) z k)))
  FieldCode Receiver _ p t = ⊥

  abbrev pub VariableCode : Decl → Place → TargetCode → Type 0
  VariableCode (local_decl k) p t = t ≡ core.local (Some p) k.number
  VariableCode (field_decl k) p t = FieldCode IsOwn (field_decl k) p t
  VariableCode _ p t = ⊥

  abbrev pub CallCode : (Receiver : Code → Type 0) → Decl → Place → core.Exps RunKeys → Code
      → Type 0
  CallCode Receiver (method_decl k) p es x =
      (IsStaticDecl rows (method_decl k) × (x ≡ core.static_call (Some p) k es))
      ⊎ (IsInstanceDecl rows (method_decl k)
      × ((z : Code) × Receiver z × (x ≡ core.instance_call (Some p) z k es)))
  CallCode Receiver _ p es x = ⊥

  -- by `super`: of this very method
  abbrev pub SuperCallCode : Decl → Place → core.Exps RunKeys → Code → Type 0
  SuperCallCode (method_decl k) p es x =
      (IsStaticDecl rows (method_decl k) × (x ≡ core.static_call (Some p) k es))
      ⊎ (IsInstanceDecl rows (method_decl k)
      × (x ≡ core.super_call (Some p) (core.this None) k es))
  SuperCallCode _ p es x = ⊥

  -- A cast to what the operand's type is assignable to is dropped (JLS 5.5.1).
  abbrev pub CastCode : (of to : Ty) → Place → (operand whole : Code) → Type 0
  CastCode t u p z x = (IsAssignable rows t u × (x ≡ z))
      ⊎ ((IsAssignable rows t u → ⊥) × ((k : ClassKey) × (u ≡ class k)
      × (x ≡ core.cast (Some p) k z)))

module _ {A : Type 0} (begins : A → ℕ → ℕ) (rows : List Row) (c : Context) where
  abbrev pub place : ℕ → Place
  place at = record { member = c.member; at = at }

  abbrev pub NameTarget : (base : ℕ) → A → tree.Word A → TargetCode → Type 0
  NameTarget b m w t = (d : Decl) × FindsVariable rows (scope_of c) w.text (one d)
      × VariableCode rows d (place (word_at begins m b w)) t

  abbrev pub SuperTarget : (base : ℕ) → A → tree.Word A → TargetCode → Type 0
  SuperTarget b m w t = (d : Decl) × SuperFieldFinds rows c w.text (one d)
      × FieldCode rows IsOwn d (place (word_at begins m b w)) t

  -- behind a dot, by the code of what stands in front
  abbrev pub DottedTarget : (Operand : Code → Type 0) → (base : ℕ) → A → tree.Exp A → tree.Word A
      → TargetCode → Type 0
  DottedTarget Operand b m e w t = (d : Decl) × FieldFinds rows c e w.text (one d)
      × FieldCode rows Operand d (place (word_at begins m b w)) t

  abbrev pub Reads : (base : ℕ) → A → (TargetCode → Type 0) → Code → Type 0
  Reads b m Target x =
      (t : TargetCode) × Target t × (x ≡ core.read (Some (place (begins m b))) t)

  unfoldable mutual
    -- the code of an expression whose parent begins at base
    pub ExpCode : (base : ℕ) → tree.Exp A → Code → Type 0
    ExpCode b (tree.number m n) x =
        x ≡ core.literal (Some (place (begins m b))) (int (wrapped (pos n)))
    ExpCode b (tree.truth m v) x = x ≡ core.literal (Some (place (begins m b))) (truth v)
    ExpCode b (tree.null m) x = x ≡ core.literal (Some (place (begins m b))) null
    ExpCode b (tree.string m s) x =
        x ≡ core.literal (Some (place (begins m b))) (text (unescaped false s))
    ExpCode b (tree.this m) x = x ≡ core.this (Some (place (begins m b)))
    ExpCode b (tree.class_literal m of) x = (k : ClassKey)
        × WritesType rows (scope_of c) of (class k)
        × (x ≡ core.literal (Some (place (begins m b))) (class_object k))
    ExpCode b (tree.name m w) x = Reads b m (NameTarget b m w) x
    ExpCode b (tree.field m e w) x =
        Reads b m (DottedTarget (λ z. ExpCode (begins m b) e z) b m e w) x
    ExpCode b (tree.super_field m w) x = Reads b m (SuperTarget b m w) x
    ExpCode b (tree.call m to w args) x = (d : Decl) × (es : core.Exps RunKeys)
        × CallFinds rows c to w.text args (one d) × RowCode (begins m b) args es
        × CallCode rows (λ z. ReceiverCode (begins m b) to z) d (place (word_at begins m b w)) es x
    ExpCode b (tree.super_call m w args) x = (d : Decl) × (es : core.Exps RunKeys)
        × SuperCallFinds rows c w.text args (one d) × RowCode (begins m b) args es
        × SuperCallCode rows d (place (word_at begins m b w)) es x
    ExpCode b (tree.create m of args) x = (k : ClassKey) × (q : CtorKey)
        × (es : core.Exps RunKeys) × WritesType rows (scope_of c) of (class k)
        × CreationFinds rows c of args (one (constructor_decl q)) × RowCode (begins m b) args es
        × (x ≡ core.create (Some (place (begins m b))) k q es)
    ExpCode b (tree.paren m e) x = ExpCode (begins m b) e x
    ExpCode b (tree.cast m of e) x = (t : Ty) × (u : Ty) × (z : Code) × HasType rows c e t
        × WritesType rows (scope_of c) of u × ExpCode (begins m b) e z
        × CastCode rows t u (place (begins m b)) z x
    ExpCode b (tree.unary m o e) x = (z : Code) × ExpCode (begins m b) e z
        × (x ≡ core.signed (Some (place (begins m b))) (sign_of o) z)
    ExpCode b (tree.bump m o e) x = (t : TargetCode) × TargetOf (begins m b) e t
        × (x ≡ core.bump (Some (place (begins m b))) (bump_of o) t)
    ExpCode b (tree.binary m o l r) x = (y z : Code) × ExpCode (begins m b) l y
        × ExpCode (begins m b) r z × (x ≡ operation (place (begins m b)) o y z)
    ExpCode b (tree.assign m l r) x = (t : TargetCode) × (z : Code) × TargetOf (begins m b) l t
        × ExpCode (begins m b) r z × (x ≡ core.assign (Some (place (begins m b))) t z)
    ExpCode b (tree.compound m o l r) x = (a : Arithmetic) × (t : TargetCode) × (z : Code)
        × (arithmetic_of o ≡ Some a) × TargetOf (begins m b) l t × ExpCode (begins m b) r z
        × (x ≡ core.compound (Some (place (begins m b))) a t z)

    -- what is assigned or bumped
    pub TargetOf : (base : ℕ) → tree.Exp A → TargetCode → Type 0
    TargetOf b (tree.name m w) t = NameTarget b m w t
    TargetOf b (tree.field m e w) t =
        DottedTarget (λ z. ExpCode (begins m b) e z) b m e w t
    TargetOf b (tree.super_field m w) t = SuperTarget b m w t
    TargetOf b _ t = ⊥

    -- a call without a target is one on `this`
    pub ReceiverCode : (at : ℕ) → tree.Target A → Code → Type 0
    ReceiverCode at tree.no_target z = IsOwn z
    ReceiverCode at (tree.on e) z = ExpCode at e z

    pub RowCode : (at : ℕ) → tree.Exps A → core.Exps RunKeys → Type 0
    RowCode at tree.end xs = xs ≡ core.Exps.end
    RowCode at (tree.more e es) xs = (y : Code) × (ys : core.Exps RunKeys) × ExpCode at e y
        × RowCode at es ys × (xs ≡ core.Exps.more y ys)
