-- The resolved code of members and of a whole program, as a relation (JLS 8.3.2, 8.4, 8.8, 12.5).
use Rattle.std.specs.Prelude.{◌≡◌, ℕ, List, [], ◌∷◌, ◌++◌, length, Option, Some, None, Bool, true}
use Rattle.std.specs.Prelude.{false, codes}
use Rattle.jr_ast.specs.Tree as tree
use Rattle.jr_ast.specs.MemberTree as syntax
use Rattle.jr_runs.specs.Core as core
use Rattle.jr_runs.specs.MemberTranslation.{is_synchronized, locked, monitor, in_front, no_code}
use Rattle.jr_table.specs.Keys.{ClassKey, FieldKey, MethodKey, CtorKey}
use Rattle.jr_table.specs.Decls.{MemberKey, field, method, constructor, head, constructor_decl}
use Rattle.jr_table.specs.Rows.{Row}
use Rattle.jr_table.specs.Prelude.{top_key, object_key, thread_key}
use Rattle.jr_table.specs.Found.{one}
use Rattle.jr_table.specs.Lookup.{FindsCtorOf}
use Rattle.jr_table.specs.Context.{Context, scope_of, IsSuperclass}
use Rattle.jr_table.specs.Binding.{FindsIn, SuperCtorFinds, word_at}
use Rattle.jr_table.specs.HeadRules.{plain, with_parameters, is_static_member}
use Rattle.jr_table.specs.DeclaredItems.{DeclaredItem, class_key, writes_ctor}
use Rattle.jr_table.specs.Errors.{Declares}
use Rattle.jr_code.specs.RunKeys.{RunKeys, Place}
use Rattle.jr_code.specs.Coded.{Code, ExpCode, RowCode}
use Rattle.jr_code.specs.CodedStatements.{StatementCode, ListCode, StmtsCode}

abbrev pub MemberCode : Type 0
MemberCode = core.Code RunKeys

-- what an implicit `super()` finds
abbrev pub ImplicitFinds : List Row → Context → CtorKey → Type 0
ImplicitFinds rows c q = FindsIn (IsSuperclass rows (scope_of c).class)
    (λ k f. FindsCtorOf rows (scope_of c) k [] f) (one (constructor_decl q))

module _ {A : Type 0} (begins ends : A → ℕ → ℕ) (rows : List Row) (super_at : MemberKey → ℕ) where
  abbrev pub at_in : MemberKey → ℕ → Place
  at_in k at = record { member = k; at = at }

  -- ---- methods

  abbrev pub MethodCoded : MethodKey → (base : ℕ) → syntax.Member A → core.Method RunKeys → Type 0
  MethodCoded k b (syntax.method m mods t w ps body) code = (z : ListCode)
      × StmtsCode begins ends rows (length ps)
      (with_parameters (method k) (is_static_member begins mods) ps) (begins m b) body z
      × (code ≡ core.written (record {
        params = length ps;
        body = locked (is_synchronized mods) (Some (at_in (method k) (word_at begins m b w)))
            (Some (at_in (method k) (ends m b)))
            (monitor k.class (is_static_member begins mods)) z;
      }))
  MethodCoded k b _ code = ⊥

  -- ---- constructors

  -- an instance field's initializer: a store to the field of `this`, at its name
  abbrev pub stored : Place → FieldKey → Code → StatementCode
  stored p k z = core.eval (Some p) (core.assign (Some p)
      (core.field_of (Some p) (core.this None) k) z)

  abbrev pub InitBy : (is_static : Bool) → ClassKey → (base : ℕ) → A → tree.Word A → tree.Exp A
      → List StatementCode → Type 0
  InitBy true of b m w e ss = ss ≡ []
  InitBy false of b m w e ss = (z : Code) × ExpCode begins rows
      (plain (field (record { class = of; name = w.text })) false) (begins m b) e z
      × (ss ≡ stored (at_in (field (record { class = of; name = w.text })) (word_at begins m b w))
      (record { class = of; name = w.text }) z ∷ [])

  abbrev pub InitCoded : ClassKey → (base : ℕ) → syntax.Member A → List StatementCode → Type 0
  InitCoded of b (syntax.field m mods t w (Some e)) ss =
      InitBy (is_static_member begins mods) of b m w e ss
  InitCoded of b _ ss = ss ≡ []

  -- the initializers of a class's instance fields, in text order
  unfoldable pub InitsCoded : ClassKey → (base : ℕ) → syntax.Members A → List StatementCode → Type 0
  InitsCoded of b syntax.end ss = ss ≡ []
  InitsCoded of b (syntax.more x xs) ss = (here rest : List StatementCode) × InitCoded of b x here
      × InitsCoded of b xs rest × (ss ≡ here ++ rest)

  -- the superclass's constructor, with arguments, and where its run stands
  abbrev pub ParentCoded : CtorKey → Context → (base : ℕ) → (name : Place)
      → Option (tree.Exps A) → StatementCode → Type 0
  ParentCoded k c b name None s = (q : CtorKey) × ImplicitFinds rows c q
      × (s ≡ core.eval (Some name)
      (core.super_constructor (Some name) (core.this None) q core.Exps.end))
  ParentCoded k c b name (Some args) s = (q : CtorKey) × (es : core.Exps RunKeys)
      × SuperCtorFinds rows c args (one (constructor_decl q)) × RowCode begins rows c b args es
      × (s ≡ core.eval (Some (at_in (constructor k) (super_at (constructor k))))
      (core.super_constructor (Some (at_in (constructor k) (super_at (constructor k))))
      (core.this None) q es))

  abbrev pub ConstructorCoded : CtorKey → (base : ℕ) → List StatementCode → syntax.Member A
      → MemberCode → Type 0
  ConstructorCoded k b inits (syntax.constructor m mods w ps args body) code =
      (s : StatementCode) × (z : ListCode)
      × ParentCoded k (with_parameters (constructor k) true ps) (begins m b)
      (at_in (constructor k) (word_at begins m b w)) args s
      × StmtsCode begins ends rows (length ps) (with_parameters (constructor k) false ps)
      (begins m b) body z
      × (code ≡ record { params = length ps; body = core.Stmts.more s (in_front inits z) })
  ConstructorCoded k b inits _ code = ⊥

  -- of a class in which none is written (JLS 8.8.9): it has no place
  abbrev pub DefaultCoded : ClassKey → List StatementCode → MemberCode → Type 0
  DefaultCoded of inits code = (q : CtorKey) × ImplicitFinds rows (plain (head of) true) q
      × (code ≡ record {
        params = 0;
        body = core.Stmts.more (core.eval None
            (core.super_constructor None (core.this None) q core.Exps.end))
            (in_front inits core.Stmts.end);
      })

  -- ---- all that a program declares

  module _ (declarations : List DeclaredItem) (P : core.Program RunKeys) where
    abbrev pub OneCoded : ClassKey → (base : ℕ) → List StatementCode → syntax.Member A → Type 0
    OneCoded of b inits x = ((k : MethodKey) → Declares begins declarations b of x (method k)
        → MethodCoded k b x (P.method k))
        × ((k : CtorKey) → Declares begins declarations b of x (constructor k)
        → ConstructorCoded k b inits x (P.constructor k))

    unfoldable mutual
      pub ClassCoded : (base : ℕ) → Option (List ℕ) → syntax.Class A → Type 0
      ClassCoded b outer (syntax.class m mods w t ms) = (inits : List StatementCode)
          × InitsCoded (class_key begins outer w.text) (begins m b) ms inits
          × (writes_ctor begins ms ≡ false → DefaultCoded (class_key begins outer w.text) inits
          (P.constructor (record { class = class_key begins outer w.text; params = [] })))
          × MembersCoded (begins m b) (class_key begins outer w.text) inits ms

      pub MembersCoded : (base : ℕ) → ClassKey → List StatementCode → syntax.Members A → Type 0
      MembersCoded b of inits syntax.end = Unit {0}
      MembersCoded b of inits (syntax.more x xs) =
          InnerCoded b of x × OneCoded of b inits x × MembersCoded b of inits xs

      pub InnerCoded : (base : ℕ) → ClassKey → syntax.Member A → Type 0
      InnerCoded b of (syntax.inner m c) = ClassCoded (begins m b) (Some of.name) c
      InnerCoded b of _ = Unit {0}

    abbrev pub ClassesCoded : (base : ℕ) → List (syntax.Class A) → Type 0
    ClassesCoded b [] = Unit {0}
    ClassesCoded b (c ∷ cs) = ClassCoded b None c × ClassesCoded b cs

    abbrev pub UnitsCoded : List (syntax.Unit A) → Type 0
    UnitsCoded [] = Unit {0}
    UnitsCoded (u ∷ us) = ClassesCoded (begins u.mark 0) u.classes × UnitsCoded us

-- the prelude's constructors and Thread's `run` do nothing, and its `start` starts (JLS 17.4.2)
pub record HasPrelude (P : core.Program RunKeys) : Type 0 where
  pub object : P.constructor (record { class = object_key; params = [] }) ≡ no_code
  pub thread : P.constructor (record { class = top_key (codes "Thread"); params = [] }) ≡ no_code
  pub run : P.method (thread_key (codes "run")) ≡ core.written no_code
  pub start : P.method (thread_key (codes "start")) ≡ core.starts
