-- What static fields begin with, as a relation on trees: what a literal stands for, an object of
-- the field's own for `new Object()`, and else the default of the type (JLS 4.12.5, 12.4.2). No
-- action of a run gives it to them.
use Rattle.std.specs.Prelude.{◌≡◌, ℕ, List, [], ◌∷◌, Option, Some, None, Bool, true, false, pos}
use Rattle.std.specs.Prelude.{neg_ℤ, codes}
use Rattle.jr_ast.specs.declared.operators.UnOp.{UnOp}
use Rattle.jr_ast.specs.declared.operators.UnOp.TheVariants.{Minus}
use Rattle.jr_ast.specs.Tree as tree
use Rattle.jr_ast.specs.MemberTree as syntax
use Rattle.jr_runs.specs.Values.{int, truth, null, text}
use Rattle.jr_runs.specs.Arithmetic.{wrapped}
use Rattle.jr_runs.specs.FirstValues.{First, gives, makes, default_of}
use Rattle.jr_runs.specs.Rows as core
use Rattle.jr_runs.specs.Translation.{unescaped}
use Rattle.jr_table.specs.Keys.{ClassKey, FieldKey}
use Rattle.jr_table.specs.Decls.{field_decl}
use Rattle.jr_table.specs.Rows.{Row}
use Rattle.jr_table.specs.Prelude.{object_key}
use Rattle.jr_table.specs.Entries.{IsRowOf}
use Rattle.jr_table.specs.Context.{IsStaticDecl}
use Rattle.jr_table.specs.HeadRules.{is_static_member}
use Rattle.jr_table.specs.DeclaredItems.{class_key}
use Rattle.jr_code.specs.RunKeys.{RunKeys}

module _ {A : Type 0} where
  abbrev pub NegatedFirst : tree.Exp A → First RunKeys → Type 0
  NegatedFirst (tree.number m n) x = x ≡ gives (int (wrapped (neg_ℤ (pos n))))
  NegatedFirst _ x = ⊥

  abbrev pub SignedFirst : UnOp → tree.Exp A → First RunKeys → Type 0
  SignedFirst Minus e x = NegatedFirst e x
  SignedFirst _ e x = ⊥

  -- `new Object()` alone
  abbrev pub CreatedFirst : tree.TypeName A → tree.Exps A → First RunKeys → Type 0
  CreatedFirst (tree.named m None w) tree.end x =
      (w.text ≡ codes "Object") × (x ≡ makes object_key)
  CreatedFirst _ _ x = ⊥

  -- the forms that a static field's initializer may have (`DeclaredItems: is_simple`)
  abbrev pub FirstOf : tree.Exp A → First RunKeys → Type 0
  FirstOf (tree.number m n) x = x ≡ gives (int (wrapped (pos n)))
  FirstOf (tree.truth m b) x = x ≡ gives (truth b)
  FirstOf (tree.null m) x = x ≡ gives null
  FirstOf (tree.string m s) x = x ≡ gives (text (unescaped false s))
  FirstOf (tree.unary m sign e) x = SignedFirst sign e x
  FirstOf (tree.create m t args) x = CreatedFirst t args x
  FirstOf _ x = ⊥

module _ {A : Type 0} (begins : A → ℕ → ℕ) (first : FieldKey → First RunKeys) where
  abbrev pub StaticFirst : (is_static : Bool) → ClassKey → tree.Word A → tree.Exp A → Type 0
  StaticFirst true of w e = FirstOf e (first (record { class = of; name = w.text }))
  StaticFirst false of w e = Unit {0}

  unfoldable mutual
    -- Each static field with an initializer begins with its value. The class's parent begins at
    -- base.
    pub ClassFirsts : (base : ℕ) → Option (List ℕ) → syntax.Class A → Type 0
    ClassFirsts b outer (syntax.class m mods w t ms) =
        MembersFirsts (begins m b) (class_key begins outer w.text) ms

    pub MembersFirsts : (base : ℕ) → ClassKey → syntax.Members A → Type 0
    MembersFirsts b of syntax.end = Unit {0}
    MembersFirsts b of (syntax.more x xs) = MemberFirst b of x × MembersFirsts b of xs

    pub MemberFirst : (base : ℕ) → ClassKey → syntax.Member A → Type 0
    MemberFirst b of (syntax.field m mods t w (Some e)) =
        StaticFirst (is_static_member begins mods) of w e
    MemberFirst b of (syntax.inner m c) = ClassFirsts (begins m b) (Some of.name) c
    MemberFirst b of _ = Unit {0}

  abbrev pub ClassesFirsts : (base : ℕ) → List (syntax.Class A) → Type 0
  ClassesFirsts b [] = Unit {0}
  ClassesFirsts b (c ∷ cs) = ClassFirsts b None c × ClassesFirsts b cs

  abbrev pub UnitsFirsts : List (syntax.Unit A) → Type 0
  UnitsFirsts [] = Unit {0}
  UnitsFirsts (u ∷ us) = ClassesFirsts (begins u.mark 0) u.classes × UnitsFirsts us

-- a static field with an initializer
pub record HasFirst (rows : List Row) (k : FieldKey) : Type 0 where
  pub number : ℕ
  pub row : IsRowOf rows (field_decl k) number
  pub static : IsStaticDecl rows (field_decl k)
  pub init : row.row.has_init ≡ true

-- what each static field begins with
pub record AreFirstValues {A : Type 0} (begins : A → ℕ → ℕ) (rows : List Row)
    (units : List (syntax.Unit A)) (R : core.Rows RunKeys) (first : FieldKey → First RunKeys)
    : Type 0 where
  pub initializers : UnitsFirsts begins first units
  pub default : (k : FieldKey) → (HasFirst rows k → ⊥)
      → first k ≡ gives (default_of (R.field_type k))
