-- An expression that breaks no rule, nor does any in it, has code, unless it is a class in front of a dot.
use Rattle.std.proofs.Common.{◌≡◌, ◌≢◌, ℕ, List, Some, None, Bool, false, refl, subst, inl, inr}
use Rattle.std.specs.Prelude.{◌⊎◌}
use Rattle.jr_ast.specs.declared.operators.BinOp.{BinOp}
use Rattle.jr_ast.specs.declared.operators.BinOp.TheVariants as op
use Rattle.jr_ast.specs.Tree as tree
use Rattle.jr_grammar.specs.Shape.{IsNamed, IsTarget, IsCompound, ShapedBehind, AllShaped, is_minus, behind_of}
use Rattle.jr_runs.specs.Core as core
use Rattle.jr_runs.specs.Translation.{arithmetic_of}
use Rattle.jr_table.specs.Keys.{ClassKey, FieldKey, MethodKey, CtorKey, Ty, class}
use Rattle.jr_table.specs.Decls.{Decl, field_decl, method_decl, constructor_decl}
use Rattle.jr_table.specs.Rows.{Row}
use Rattle.jr_table.specs.Keyed.{IsAssignable}
use Rattle.jr_table.specs.Found.{Found, one, nothing, many, not_accessible, from_static}
use Rattle.jr_table.specs.Lookup.{FindsVariable}
use Rattle.jr_table.specs.Context.{Context, scope_of, WritesType, IsStaticDecl, IsInstanceDecl}
use Rattle.jr_table.specs.Binding.{HasType, IsClassName, FieldFinds, SuperFieldFinds, CallFinds, SuperCallFinds, CreationFinds, Role, value, left, statement, variable, method}
use Rattle.jr_table.specs.Somewhere.{Somewhere, InTarget, InRow}
use Rattle.jr_table.specs.ExpressionRules.{ExpBreaks}
use Rattle.jr_table.specs.declared.rules.Rule.{Rule}
use Rattle.jr_table.specs.declared.rules.Rule.TheVariants as rule
use Rattle.jr_code.specs.RunKeys.{RunKeys, Place}
use Rattle.jr_code.specs.Coded.{Code, TargetCode, VariableCode, place, ExpCode, TargetOf, ReceiverCode, RowCode}

-- what the laws of lookup give: each question has an answer, and what is found is of its sort and has a row
pub record Answers (A : Type 0) (rows : List Row) (c : Context) : Type 0 where
  pub some_variable : (name : List ℕ) → (f : Found) × FindsVariable rows (scope_of c) name f
  pub is_variable : (name : List ℕ) (d : Decl) → FindsVariable rows (scope_of c) name (one d) → (p : Place) → (t : TargetCode) × VariableCode rows d p t
  pub some_field : (e : tree.Exp A) (name : List ℕ) → (f : Found) × FieldFinds rows c e name f
  pub is_field : (e : tree.Exp A) (name : List ℕ) (d : Decl) → FieldFinds rows c e name (one d) → (k : FieldKey) × (d ≡ field_decl k) × (IsStaticDecl rows (field_decl k) ⊎ IsInstanceDecl rows (field_decl k))
  pub some_super : (name : List ℕ) → (f : Found) × SuperFieldFinds rows c name f
  pub is_super : (name : List ℕ) (d : Decl) → SuperFieldFinds rows c name (one d) → (k : FieldKey) × (d ≡ field_decl k) × (IsStaticDecl rows (field_decl k) ⊎ IsInstanceDecl rows (field_decl k))
  pub some_call : (to : tree.Target A) (name : List ℕ) (args : tree.Exps A) → (f : Found) × CallFinds rows c to name args f
  pub is_method : (to : tree.Target A) (name : List ℕ) (args : tree.Exps A) (d : Decl) → CallFinds rows c to name args (one d) → (k : MethodKey) × (d ≡ method_decl k) × (IsStaticDecl rows (method_decl k) ⊎ IsInstanceDecl rows (method_decl k))
  pub some_super_call : (name : List ℕ) (args : tree.Exps A) → (f : Found) × SuperCallFinds rows c name args f
  pub is_super_method : (name : List ℕ) (args : tree.Exps A) (d : Decl) → SuperCallFinds rows c name args (one d) → (k : MethodKey) × (d ≡ method_decl k) × (IsStaticDecl rows (method_decl k) ⊎ IsInstanceDecl rows (method_decl k))
  pub class_or : (e : tree.Exp A) → ((k : ClassKey) × IsClassName rows c e k) ⊎ ((k : ClassKey) → IsClassName rows c e k → ⊥)
  -- in front of a dot, what breaks no rule is a class, or finds a variable
  pub left_name : (begins : A → ℕ → ℕ) (b : ℕ) (m : A) (w : tree.Word A) → ((at : ℕ) (q : Rule) → ExpBreaks begins rows c left b (tree.name m w) at q → ⊥)
      → ((k : ClassKey) × IsClassName rows c (tree.name m w) k) ⊎ ((d : Decl) × FindsVariable rows (scope_of c) w.text (one d))
  pub left_field : (begins : A → ℕ → ℕ) (b : ℕ) (m : A) (e : tree.Exp A) (w : tree.Word A) → ((at : ℕ) (q : Rule) → ExpBreaks begins rows c left b (tree.field m e w) at q → ⊥)
      → ((k : ClassKey) × IsClassName rows c (tree.field m e w) k) ⊎ ((d : Decl) × FieldFinds rows c e w.text (one d))
  pub assignable_or : (t u : Ty) → IsAssignable rows t u ⊎ (IsAssignable rows t u → ⊥)
  -- the written type and that of the operand: the written one is a class
  pub cast_types : (r : Role) (b : ℕ) (begins : A → ℕ → ℕ) (m : A) (of : tree.TypeName A) (e : tree.Exp A) → ((at : ℕ) (q : Rule) → ExpBreaks begins rows c r b (tree.cast m of e) at q → ⊥)
      → (t u : Ty) × WritesType rows (scope_of c) of t × HasType rows c e u × ((k : ClassKey) × (t ≡ class k))
  pub class_written : (r : Role) (b : ℕ) (begins : A → ℕ → ℕ) (m : A) (t : tree.TypeName A) → IsNamed t → ((at : ℕ) (q : Rule) → ExpBreaks begins rows c r b (tree.class_literal m t) at q → ⊥) → (k : ClassKey) × WritesType rows (scope_of c) t (class k)
  pub created : (r : Role) (b : ℕ) (begins : A → ℕ → ℕ) (m : A) (t : tree.TypeName A) (args : tree.Exps A) → ((at : ℕ) (q : Rule) → ExpBreaks begins rows c r b (tree.create m t args) at q → ⊥)
      → (k : ClassKey) × (q : CtorKey) × WritesType rows (scope_of c) t (class k) × CreationFinds rows c t args (one (constructor_decl q))

-- the operators of the grammar's compound assignments are arithmetic
pub compound_is : (o : BinOp) → IsCompound o → (a : core.Arithmetic) × (arithmetic_of o ≡ Some a)
compound_is op.Add h = (core.add, refl)
compound_is op.Sub h = (core.subtract, refl)
compound_is op.Mul h = (core.multiply, refl)
compound_is op.Div h = (core.divide, refl)
compound_is op.Rem h = (core.remainder, refl)
compound_is op.Or h = absurd h
compound_is op.And h = absurd h
compound_is op.Eq h = absurd h
compound_is op.Ne h = absurd h
compound_is op.Lt h = absurd h
compound_is op.Gt h = absurd h
compound_is op.Le h = absurd h
compound_is op.Ge h = absurd h

module _ {A : Type 0} (begins : A → ℕ → ℕ) (rows : List Row) (c : Context) (a : Answers A rows c) where
  abbrev Clean : Role → ℕ → tree.Exp A → Type 0
  Clean r b e = (at : ℕ) (q : Rule) → Somewhere begins (λ r b x. ExpBreaks begins rows c r b x at q) r b e → ⊥

  -- code, and as a target too where it is a variable
  abbrev HasCode : ℕ → tree.Exp A → Type 0
  HasCode i e = ((z : Code) × ExpCode begins rows c i e z) × (IsTarget e → (t : TargetCode) × TargetOf begins rows c i e t)

  abbrev IsCoded : Role → ℕ → tree.Exp A → Type 0
  IsCoded r i e = HasCode i e ⊎ ((r ≡ left) × ((k : ClassKey) × IsClassName rows c e k))

  abbrev HasRow : ℕ → tree.Exps A → Type 0
  HasRow i es = (zs : core.Exps RunKeys) × RowCode begins rows c i es zs

  pub no_left : (r : Role) (i : ℕ) (e : tree.Exp A) → IsCoded r i e → r ≢ left → HasCode i e
  no_left r i e (inl h) not = h
  no_left r i e (inr h) not = absurd (not h.0)

  variable_one : (i : ℕ) (m : A) (w : tree.Word A) (d : Decl) → FindsVariable rows (scope_of c) w.text (one d) → HasCode i (tree.name m w)
  unfolding ExpCode TargetOf
  variable_one i m w d finds = let t = a.is_variable w.text d finds (place begins rows c (begins w.mark (begins m i))) in ((core.read _ t.0, (t.0, (d, finds, t.1), refl)), λ ok. (t.0, (d, finds, t.1)))

  variable_case : (r : Role) → r ≢ left → (b i : ℕ) (m : A) (w : tree.Word A) → ((at : ℕ) (q : Rule) → ExpBreaks begins rows c r b (tree.name m w) at q → ⊥) → (f : Found) → FindsVariable rows (scope_of c) w.text f → HasCode i (tree.name m w)
  variable_case left never b i m w clean f finds = absurd (never refl)
  variable_case value never b i m w clean (one d) finds = variable_one i m w d finds
  variable_case value never b i m w clean nothing finds = absurd (clean _ rule.NoVariable (nothing, (refl, (refl, finds)), refl))
  variable_case value never b i m w clean (many d e) finds = absurd (clean _ rule.Ambiguous (variable, (many d e, (refl, (refl, finds)), tt)))
  variable_case value never b i m w clean (not_accessible d) finds = absurd (clean _ rule.Private (variable, (not_accessible d, (refl, (refl, finds)), tt)))
  variable_case value never b i m w clean (from_static d) finds = absurd (clean _ rule.StaticContext (inl (variable, (from_static d, (refl, (refl, finds)), tt))))
  variable_case statement never b i m w clean (one d) finds = variable_one i m w d finds
  variable_case statement never b i m w clean nothing finds = absurd (clean _ rule.NoVariable (nothing, (refl, (refl, finds)), refl))
  variable_case statement never b i m w clean (many d e) finds = absurd (clean _ rule.Ambiguous (variable, (many d e, (refl, (refl, finds)), tt)))
  variable_case statement never b i m w clean (not_accessible d) finds = absurd (clean _ rule.Private (variable, (not_accessible d, (refl, (refl, finds)), tt)))
  variable_case statement never b i m w clean (from_static d) finds = absurd (clean _ rule.StaticContext (inl (variable, (from_static d, (refl, (refl, finds)), tt))))

  -- a field on an expression: a static one needs no code of it, an instance one isn't named through a class
  field_one : (r : Role) (b i : ℕ) (m : A) (e : tree.Exp A) (w : tree.Word A) → ((at : ℕ) (q : Rule) → ExpBreaks begins rows c r b (tree.field m e w) at q → ⊥) → IsCoded left (begins m i) e → (d : Decl) → FieldFinds rows c e w.text (one d) → HasCode i (tree.field m e w)
  unfolding ExpCode TargetOf
  field_one r b i m e w clean operand d finds = by (a.is_field e w.text d finds)
    where
      whole : (t : TargetCode) → TargetOf begins rows c i (tree.field m e w) t → HasCode i (tree.field m e w)
      whole t code = ((core.read _ t, (t, code, refl)), λ ok. (t, code))

      on_value : (k : FieldKey) → d ≡ field_decl k → IsInstanceDecl rows (field_decl k) → IsCoded left (begins m i) e → HasCode i (tree.field m e w)
      on_value k is instance (inl h) = whole (core.field_of (Some (place begins rows c (begins w.mark (begins m i)))) h.0.0 k) (field_decl k, subst (λ (z : Decl). FieldFinds rows c e w.text (one z)) is finds, inr (instance, (h.0.0, h.0.1, refl)))
      on_value k is instance (inr (role, (j, named))) =
          absurd (clean _ rule.InstanceThroughType (refl, (field_decl k, (subst (λ (z : Decl). FieldFinds rows c e w.text (one z)) is finds, (j, named)), instance)))

      by : ((k : FieldKey) × (d ≡ field_decl k) × (IsStaticDecl rows (field_decl k) ⊎ IsInstanceDecl rows (field_decl k))) → HasCode i (tree.field m e w)
      by (k, is, inl static) = whole (core.static_field (Some (place begins rows c (begins w.mark (begins m i)))) k) (field_decl k, subst (λ (z : Decl). FieldFinds rows c e w.text (one z)) is finds, inl (static, refl))
      by (k, is, inr instance) = on_value k is instance operand

  field_case : (r : Role) → r ≢ left → (b i : ℕ) (m : A) (e : tree.Exp A) (w : tree.Word A) → ((at : ℕ) (q : Rule) → ExpBreaks begins rows c r b (tree.field m e w) at q → ⊥) → IsCoded left (begins m i) e → (f : Found) → FieldFinds rows c e w.text f → HasCode i (tree.field m e w)
  field_case left never b i m e w clean operand f finds = absurd (never refl)
  field_case value never b i m e w clean operand (one d) finds = field_one value b i m e w clean operand d finds
  field_case value never b i m e w clean operand nothing finds = absurd (clean _ rule.NoVariable (nothing, (refl, (refl, finds)), refl))
  field_case value never b i m e w clean operand (many d q) finds = absurd (clean _ rule.Ambiguous (variable, (many d q, (refl, (refl, finds)), tt)))
  field_case value never b i m e w clean operand (not_accessible d) finds = absurd (clean _ rule.Private (variable, (not_accessible d, (refl, (refl, finds)), tt)))
  field_case value never b i m e w clean operand (from_static d) finds = absurd (clean _ rule.StaticContext (inl (variable, (from_static d, (refl, (refl, finds)), tt))))
  field_case statement never b i m e w clean operand (one d) finds = field_one statement b i m e w clean operand d finds
  field_case statement never b i m e w clean operand nothing finds = absurd (clean _ rule.NoVariable (nothing, (refl, (refl, finds)), refl))
  field_case statement never b i m e w clean operand (many d q) finds = absurd (clean _ rule.Ambiguous (variable, (many d q, (refl, (refl, finds)), tt)))
  field_case statement never b i m e w clean operand (not_accessible d) finds = absurd (clean _ rule.Private (variable, (not_accessible d, (refl, (refl, finds)), tt)))
  field_case statement never b i m e w clean operand (from_static d) finds = absurd (clean _ rule.StaticContext (inl (variable, (from_static d, (refl, (refl, finds)), tt))))

  super_case : (r : Role) (b i : ℕ) (m : A) (w : tree.Word A) → ((at : ℕ) (q : Rule) → ExpBreaks begins rows c r b (tree.super_field m w) at q → ⊥) → (f : Found) → SuperFieldFinds rows c w.text f → HasCode i (tree.super_field m w)
  unfolding ExpCode TargetOf
  super_case r b i m w clean (one d) finds = by (a.is_super w.text d finds)
    where
      whole : (t : TargetCode) → TargetOf begins rows c i (tree.super_field m w) t → HasCode i (tree.super_field m w)
      whole t code = ((core.read _ t, (t, code, refl)), λ ok. (t, code))

      by : ((k : FieldKey) × (d ≡ field_decl k) × (IsStaticDecl rows (field_decl k) ⊎ IsInstanceDecl rows (field_decl k))) → HasCode i (tree.super_field m w)
      by (k, is, inl static) = whole (core.static_field (Some (place begins rows c (begins w.mark (begins m i)))) k) (field_decl k, subst (λ (z : Decl). SuperFieldFinds rows c w.text (one z)) is finds, inl (static, refl))
      by (k, is, inr instance) = whole (core.field_of (Some (place begins rows c (begins w.mark (begins m i)))) (core.this None) k) (field_decl k, subst (λ (z : Decl). SuperFieldFinds rows c w.text (one z)) is finds, inr (instance, (core.this None, refl, refl)))
  super_case r b i m w clean nothing finds = absurd (clean _ rule.NoVariable (nothing, (refl, refl, finds), refl))
  super_case r b i m w clean (many d e) finds = absurd (clean _ rule.Ambiguous (variable, (many d e, (refl, refl, finds), tt)))
  super_case r b i m w clean (not_accessible d) finds = absurd (clean _ rule.Private (variable, (not_accessible d, (refl, refl, finds), tt)))
  super_case r b i m w clean (from_static d) finds = absurd (clean _ rule.StaticContext (inl (variable, (from_static d, (refl, refl, finds), tt))))

  -- a call: as a field
  call_case : (r : Role) (b i : ℕ) (m : A) (to : tree.Target A) (w : tree.Word A) (args : tree.Exps A) → ((at : ℕ) (q : Rule) → ExpBreaks begins rows c r b (tree.call m to w args) at q → ⊥)
      → ((k : MethodKey) → CallFinds rows c to w.text args (one (method_decl k)) → IsInstanceDecl rows (method_decl k) → (z : Code) × ReceiverCode begins rows c (begins m i) to z) → HasRow (begins m i) args → (f : Found) → CallFinds rows c to w.text args f → HasCode i (tree.call m to w args)
  unfolding ExpCode
  call_case r b i m to w args clean receiver row (one d) finds = by (a.is_method to w.text args d finds)
    where
      by : ((k : MethodKey) × (d ≡ method_decl k) × (IsStaticDecl rows (method_decl k) ⊎ IsInstanceDecl rows (method_decl k))) → HasCode i (tree.call m to w args)
      by (k, is, inl static) = ((core.static_call _ k row.0, (method_decl k, row.0, subst (λ (z : Decl). CallFinds rows c to w.text args (one z)) is finds, row.1, inl (static, refl))), λ ok. absurd ok)
      by (k, is, inr instance) =
          let there = subst (λ (z : Decl). CallFinds rows c to w.text args (one z)) is finds in
          let z = receiver k there instance in
          ((core.instance_call _ z.0 k row.0, (method_decl k, row.0, there, row.1, inr (instance, (z.0, z.1, refl)))), λ ok. absurd ok)
  call_case r b i m to w args clean receiver row nothing finds = absurd (clean _ rule.NoMethod (nothing, (refl, refl, finds), refl))
  call_case r b i m to w args clean receiver row (many d e) finds = absurd (clean _ rule.Ambiguous (method, (many d e, (refl, refl, finds), tt)))
  call_case r b i m to w args clean receiver row (not_accessible d) finds = absurd (clean _ rule.Private (method, (not_accessible d, (refl, refl, finds), tt)))
  call_case r b i m to w args clean receiver row (from_static d) finds = absurd (clean _ rule.StaticContext (inl (method, (from_static d, (refl, refl, finds), tt))))

  super_call_case : (r : Role) (b i : ℕ) (m : A) (w : tree.Word A) (args : tree.Exps A) → ((at : ℕ) (q : Rule) → ExpBreaks begins rows c r b (tree.super_call m w args) at q → ⊥) → HasRow (begins m i) args → (f : Found) → SuperCallFinds rows c w.text args f → HasCode i (tree.super_call m w args)
  unfolding ExpCode
  super_call_case r b i m w args clean row (one d) finds = by (a.is_super_method w.text args d finds)
    where
      by : ((k : MethodKey) × (d ≡ method_decl k) × (IsStaticDecl rows (method_decl k) ⊎ IsInstanceDecl rows (method_decl k))) → HasCode i (tree.super_call m w args)
      by (k, is, inl static) = ((core.static_call _ k row.0, (method_decl k, row.0, subst (λ (z : Decl). SuperCallFinds rows c w.text args (one z)) is finds, row.1, inl (static, refl))), λ ok. absurd ok)
      by (k, is, inr instance) = ((core.super_call _ (core.this None) k row.0, (method_decl k, row.0, subst (λ (z : Decl). SuperCallFinds rows c w.text args (one z)) is finds, row.1, inr (instance, refl))), λ ok. absurd ok)
  super_call_case r b i m w args clean row nothing finds = absurd (clean _ rule.NoMethod (nothing, (refl, refl, finds), refl))
  super_call_case r b i m w args clean row (many d e) finds = absurd (clean _ rule.Ambiguous (method, (many d e, (refl, refl, finds), tt)))
  super_call_case r b i m w args clean row (not_accessible d) finds = absurd (clean _ rule.Private (method, (not_accessible d, (refl, refl, finds), tt)))
  super_call_case r b i m w args clean row (from_static d) finds = absurd (clean _ rule.StaticContext (inl (method, (from_static d, (refl, refl, finds), tt))))

  -- an instance method isn't named through a class
  receiver : (r : Role) (b i : ℕ) (m : A) (e : tree.Exp A) (w : tree.Word A) (args : tree.Exps A) → ((at : ℕ) (q : Rule) → ExpBreaks begins rows c r b (tree.call m (tree.on e) w args) at q → ⊥) → IsCoded left (begins m i) e
      → (k : MethodKey) → CallFinds rows c (tree.on e) w.text args (one (method_decl k)) → IsInstanceDecl rows (method_decl k) → (z : Code) × ReceiverCode begins rows c (begins m i) (tree.on e) z
  unfolding ReceiverCode
  receiver r b i m e w args clean (inl h) k found instance = h.0
  receiver r b i m e w args clean (inr (role, (j, named))) k found instance = absurd (clean _ rule.InstanceThroughType (refl, (method_decl k, (found, (j, named)), instance)))

  -- ---- all expressions

  simple : (r : Role) (i : ℕ) (e : tree.Exp A) → (IsTarget e → ⊥) → (z : Code) → ExpCode begins rows c i e z → IsCoded r i e
  simple r i e never z code = inl ((z, code), λ ok. absurd (never ok))

  mutual
    unfolding ExpCode TargetOf RowCode ReceiverCode Somewhere InTarget InRow

    pub code_stands : (n : Bool) (r : Role) (b i : ℕ) (e : tree.Exp A) → ShapedBehind n e → Clean r b e → IsCoded r i e
    code_stands n r b i (tree.number m v) fit clean = simple r i (tree.number m v) (λ ok. ok) _ refl
    code_stands n r b i (tree.truth m v) fit clean = simple r i (tree.truth m v) (λ ok. ok) _ refl
    code_stands n r b i (tree.null m) fit clean = simple r i (tree.null m) (λ ok. ok) _ refl
    code_stands n r b i (tree.string m s) fit clean = simple r i (tree.string m s) (λ ok. ok) _ refl
    code_stands n r b i (tree.this m) fit clean = simple r i (tree.this m) (λ ok. ok) _ refl
    code_stands n left b i (tree.name m w) fit clean = elim (a.left_name begins b m w clean) [
      | inl named ↦ inr (refl, named)
      | inr found ↦ inl (variable_one i m w found.0 found.1)
    ]
    code_stands n value b i (tree.name m w) fit clean = let f = a.some_variable w.text in inl (variable_case value (λ e. cc) b i m w clean f.0 f.1)
    code_stands n statement b i (tree.name m w) fit clean = let f = a.some_variable w.text in inl (variable_case statement (λ e. cc) b i m w clean f.0 f.1)
    code_stands n left b i (tree.field m e w) fit clean = elim (a.left_field begins b m e w (λ at q h. clean at q (inl h))) [
      | inl named ↦ inr (refl, named)
      | inr found ↦ inl (field_one left b i m e w (λ at q h. clean at q (inl h)) (code_stands n left (begins m b) (begins m i) e fit.1 (λ at q h. clean at q (inr h))) found.0 found.1)
    ]
    code_stands n value b i (tree.field m e w) fit clean = let f = a.some_field e w.text in
        inl (field_case value (λ e. cc) b i m e w (λ at q h. clean at q (inl h)) (code_stands n left (begins m b) (begins m i) e fit.1 (λ at q h. clean at q (inr h))) f.0 f.1)
    code_stands n statement b i (tree.field m e w) fit clean = let f = a.some_field e w.text in
        inl (field_case statement (λ e. cc) b i m e w (λ at q h. clean at q (inl h)) (code_stands n left (begins m b) (begins m i) e fit.1 (λ at q h. clean at q (inr h))) f.0 f.1)
    code_stands n r b i (tree.super_field m w) fit clean = let f = a.some_super w.text in inl (super_case r b i m w clean f.0 f.1)
    code_stands n r b i (tree.class_literal m t) fit clean = let k = a.class_written r b begins m t fit clean in simple r i (tree.class_literal m t) (λ ok. ok) _ (k.0, k.1, refl)
    code_stands n r b i (tree.call m tree.no_target w args) fit clean =
        let f = a.some_call tree.no_target w.text args in
        inl (call_case r b i m tree.no_target w args (λ at q h. clean at q (inl h)) (λ k found instance. (core.this None, refl)) (row_stands (begins m b) (begins m i) args fit.1 (λ at q h. clean at q (inr (inr h)))) f.0 f.1)
    code_stands n r b i (tree.call m (tree.on e) w args) fit clean =
        let f = a.some_call (tree.on e) w.text args in
        inl (call_case r b i m (tree.on e) w args (λ at q h. clean at q (inl h))
        (receiver r b i m e w args (λ at q h. clean at q (inl h)) (code_stands n left (begins m b) (begins m i) e fit.0.1 (λ at q h. clean at q (inr (inl h)))))
        (row_stands (begins m b) (begins m i) args fit.1 (λ at q h. clean at q (inr (inr h)))) f.0 f.1)
    code_stands n r b i (tree.super_call m w args) fit clean =
        let f = a.some_super_call w.text args in inl (super_call_case r b i m w args (λ at q h. clean at q (inl h)) (row_stands (begins m b) (begins m i) args fit (λ at q h. clean at q (inr h))) f.0 f.1)
    code_stands n r b i (tree.create m t args) fit clean =
        let k = a.created r b begins m t args (λ at q h. clean at q (inl h)) in
        let row = row_stands (begins m b) (begins m i) args fit.1 (λ at q h. clean at q (inr h)) in
        simple r i (tree.create m t args) (λ ok. ok) _ (k.0, k.1, row.0, k.2, k.3, row.1, refl)
    code_stands n r b i (tree.paren m e) fit clean = let h = no_left value (begins m i) e (code_stands false value (begins m b) (begins m i) e fit (λ at q h. clean at q (inr h))) (λ e. cc) in simple r i (tree.paren m e) (λ ok. ok) h.0.0 h.0.1
    code_stands n r b i (tree.cast m t e) fit clean =
        let h = no_left value (begins m i) e (code_stands false value (begins m b) (begins m i) e fit.2 (λ at q h. clean at q (inr h))) (λ e. cc) in
        let known = a.cast_types r b begins m t e (λ at q h. clean at q (inl h)) in
        elim (a.assignable_or known.1 known.0) [
          | inl sure ↦ simple r i (tree.cast m t e) (λ ok. ok) h.0.0 (known.1, known.0, h.0.0, known.3, known.2, h.0.1, inl (sure, refl))
          | inr fails ↦ let k = known.4 in simple r i (tree.cast m t e) (λ ok. ok) (core.cast (Some (place begins rows c (begins m i))) k.0 h.0.0) (known.1, known.0, h.0.0, known.3, known.2, h.0.1, inr (fails, (k.0, k.1, refl)))
        ]
    code_stands n r b i (tree.unary m o e) fit clean = let h = no_left value (begins m i) e (code_stands (is_minus o) value (begins m b) (begins m i) e fit.1 (λ at q h. clean at q (inr h))) (λ e. cc) in simple r i (tree.unary m o e) (λ ok. ok) _ (h.0.0, h.0.1, refl)
    code_stands n r b i (tree.bump m o e) fit clean = let h = no_left value (begins m i) e (code_stands (behind_of n o) value (begins m b) (begins m i) e fit.1 (λ at q h. clean at q (inr h))) (λ e. cc) in let t = h.1 fit.0 in simple r i (tree.bump m o e) (λ ok. ok) _ (t.0, t.1, refl)
    code_stands n r b i (tree.binary m o x y) fit clean =
        let h = no_left value (begins m i) x (code_stands n value (begins m b) (begins m i) x fit.1 (λ at q h. clean at q (inr (inl h)))) (λ e. cc) in
        let g = no_left value (begins m i) y (code_stands false value (begins m b) (begins m i) y fit.2 (λ at q h. clean at q (inr (inr h)))) (λ e. cc) in simple r i (tree.binary m o x y) (λ ok. ok) _ (h.0.0, g.0.0, h.0.1, g.0.1, refl)
    code_stands n r b i (tree.assign m x y) fit clean =
        let h = no_left value (begins m i) x (code_stands n value (begins m b) (begins m i) x fit.1 (λ at q h. clean at q (inr (inl h)))) (λ e. cc) in
        let g = no_left value (begins m i) y (code_stands false value (begins m b) (begins m i) y fit.2 (λ at q h. clean at q (inr (inr h)))) (λ e. cc) in
        let t = h.1 fit.0 in simple r i (tree.assign m x y) (λ ok. ok) _ (t.0, g.0.0, t.1, g.0.1, refl)
    code_stands n r b i (tree.compound m o x y) fit clean =
        let h = no_left value (begins m i) x (code_stands n value (begins m b) (begins m i) x fit.2 (λ at q h. clean at q (inr (inl h)))) (λ e. cc) in
        let g = no_left value (begins m i) y (code_stands false value (begins m b) (begins m i) y fit.3 (λ at q h. clean at q (inr (inr h)))) (λ e. cc) in
        let known = compound_is o fit.0 in let t = h.1 fit.1 in simple r i (tree.compound m o x y) (λ ok. ok) _ (known.0, t.0, g.0.0, known.1, t.1, g.0.1, refl)

    pub row_stands : (b i : ℕ) (es : tree.Exps A) → AllShaped es → ((at : ℕ) (q : Rule) → InRow begins (λ r b x. ExpBreaks begins rows c r b x at q) b es → ⊥) → HasRow i es
    row_stands b i tree.end fit clean = (core.Exps.end, refl)
    row_stands b i (tree.more e es) fit clean =
        let h = no_left value i e (code_stands false value b i e fit.0 (λ at q h. clean at q (inl h))) (λ e. cc) in
        let rest = row_stands b i es fit.1 (λ at q h. clean at q (inr h)) in (core.Exps.more h.0.0 rest.0, (h.0.0, rest.0, h.0.1, rest.1, refl))
