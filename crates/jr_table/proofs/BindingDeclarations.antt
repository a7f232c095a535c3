-- What the references in the declaration of a member are bound to is what is noted of them.
use Rattle.std.proofs.Common.{◌≡◌, ℕ, List, [], ◌∷◌, ◌++◌, Option, Some, None, Bool, true, false, refl, inl, inr}
use Rattle.std.specs.Prelude.{◌⊎◌, ◌↔◌}
use Rattle.jr_ast.specs.Tree as tree
use Rattle.jr_ast.specs.StatementTree as statement
use Rattle.jr_ast.specs.MemberTree as syntax
use Rattle.jr_ast.specs.Marks.{exp_mark}
use Rattle.jr_table.specs.Decls.{MemberKey, head, field, method, constructor, Decl, field_decl}
use Rattle.jr_table.specs.Rows.{Row}
use Rattle.jr_table.specs.Conditions.{AreRows}
use Rattle.jr_table.specs.Found.{Found, one}
use Rattle.jr_table.specs.LookupLaws.{KeysAreFound}
use Rattle.jr_table.specs.Binding.{Sought, TypeRefers, SuperCtorFinds}
use Rattle.jr_table.specs.Binding as sought
use Rattle.jr_table.specs.HeadRules.{plain, with_parameters, is_static_member, ParamsRefer, DeclarationRefers}
use Rattle.jr_table.specs.Meanings.{type_of, type_of_decl, reference, type_references}
use Rattle.jr_table.specs.Notes.{Note, refers, breaks, Has, when, suits, list_completes, is_object_method}
use Rattle.jr_table.specs.HeadNotes.{overrides_badly, lacks_super_ctor, override_notes, declared_notes, param_references, result_references, init_notes, missing_return_notes, super_notes, declaration_notes}
use Rattle.jr_table.proofs.RowTypes.{chain}
use Rattle.jr_table.proofs.Referring.{type_iff}
use Rattle.jr_table.proofs.Breaking.{two, unless_binds_none, when_binds_none}
use Rattle.jr_table.proofs.BindingNothing.{none_of}
use Rattle.jr_table.proofs.BreakingReferences.{references_bind}
use Rattle.jr_table.proofs.TypeNotes.{declared_binds}
use Rattle.jr_table.proofs.DeclaredReferences.{params_iff, MethodRefers, method_iff, written_super, only_super}
use Rattle.jr_table.specs.declared.rules.Rule.TheVariants as rule

-- behind these, nothing is bound
left_alone : (xs ys : List Note) (n : Note) (P : Type 0) → (Has xs n ↔ P) → (Has ys n → ⊥) → Has (xs ++ ys) n ↔ P
left_alone xs ys n P f none = chain (two xs ys n P ⊥ f (λ h. none h, λ h. absurd h)) (to, λ p. inl p)
  where
    to : (P ⊎ ⊥) → P
    to (inl p) = p
    to (inr h) = absurd h

module _ {A : Type 0} (begins : A → ℕ → ℕ) (rows : List Row) where
  init_binds : (j : MemberKey) (is_static : Bool) (base : ℕ) (init : Option (tree.Exp A)) (at : ℕ) (d : Decl) → Has (init_notes begins rows j is_static base init) (refers at d) → ⊥
  init_binds (field f) is_static base (Some e) at d h = unless_binds_none (suits rows (type_of rows (plain (field f) is_static) e) (type_of_decl rows (plain (field f) is_static) (field_decl f))) (begins (exp_mark e) base) at rule.TypeMismatch d h
  init_binds (field f) is_static base None at d h = h
  init_binds (head f) is_static base init at d h = h
  init_binds (method f) is_static base init at d h = h
  init_binds (constructor f) is_static base init at d h = h

  missing_binds : (here : ℕ) (t : Option (tree.TypeName A)) (body : statement.Stmts A) (at : ℕ) (d : Decl) → Has (missing_return_notes begins rows here t body) (refers at d) → ⊥
  missing_binds here None body at d h = h
  missing_binds here (Some t) body at d h = when_binds_none (list_completes body) here at rule.MissingReturn d h

  override_binds : (j : MemberKey) (here at : ℕ) (d : Decl) → Has (override_notes rows j here) (refers at d) → ⊥
  override_binds (method f) here at d h = when_binds_none (overrides_badly rows f) here at rule.Override d h
  override_binds (head f) here at d h = h
  override_binds (field f) here at d h = h
  override_binds (constructor f) here at d h = h

  module _ (super_at : ℕ) (k : MemberKey) (base : ℕ) (fit : AreRows rows) (found : KeysAreFound rows) where
    abbrev CtorRefers : A → List (syntax.Param A) → ℕ → Found → Type 0
    CtorRefers m ps at f = ParamsRefer begins rows (plain k false) (begins m base) ps at f

    ctor_binds : (m : A) (w : tree.Word A) (ps : List (syntax.Param A)) (args : Option (tree.Exps A)) (mods : List (syntax.Modifier A)) (body : statement.Stmts A) (at : ℕ) (d : Decl)
        → Has (declaration_notes begins rows super_at k base (syntax.constructor m mods w ps args body)) (refers at d) ↔ DeclarationRefers begins rows super_at k base (syntax.constructor m mods w ps args body) at (one d)
    ctor_binds m w ps args mods body at d = chain (two (declared_notes (param_references begins rows (plain k false) (begins m base) ps)) _ (refers at d) (CtorRefers m ps at (one d)) (Super args)
        (declared_binds (param_references begins rows (plain k false) (begins m base) ps) (CtorRefers m ps) (params_iff rows fit found begins (plain k false) (begins m base) ps) at d) (supers args)) (by args)
      where
        Super : Option (tree.Exps A) → Type 0
        Super None = ⊥
        Super (Some es) = (q : Sought) × ((at ≡ super_at) × (q ≡ sought.method) × SuperCtorFinds rows (with_parameters k true ps) es (one d))

        supers : (o : Option (tree.Exps A)) → Has (super_notes begins rows super_at (begins w.mark (begins m base)) k ps o) (refers at d) ↔ Super o
        supers None = (λ h. when_binds_none (lacks_super_ctor rows (plain k false)) (begins w.mark (begins m base)) at rule.SuperCtor d h, λ h. absurd h)
        supers (Some es) = references_bind (reference super_at sought.method (written_super rows fit found begins k ps es) ∷ []) _ (only_super rows fit found begins super_at k ps es) at d

        by : (o : Option (tree.Exps A)) → (CtorRefers m ps at (one d) ⊎ Super o) ↔ DeclarationRefers begins rows super_at k base (syntax.constructor m mods w ps o body) at (one d)
        by None = (to, back)
          where
            to : (CtorRefers m ps at (one d) ⊎ ⊥) → DeclarationRefers begins rows super_at k base (syntax.constructor m mods w ps None body) at (one d)
            to (inl h) = inl h
            to (inr h) = absurd h

            back : DeclarationRefers begins rows super_at k base (syntax.constructor m mods w ps None body) at (one d) → CtorRefers m ps at (one d) ⊎ ⊥
            back (inl h) = inl h
            back (inr h) = inr h.1
        by (Some es) = (to, back)
          where
            to : (CtorRefers m ps at (one d) ⊎ Super (Some es)) → DeclarationRefers begins rows super_at k base (syntax.constructor m mods w ps (Some es) body) at (one d)
            to (inl h) = inl h
            to (inr h) = inr (h.1.0, h.1.2)

            back : DeclarationRefers begins rows super_at k base (syntax.constructor m mods w ps (Some es) body) at (one d) → CtorRefers m ps at (one d) ⊎ Super (Some es)
            back (inl h) = inl h
            back (inr h) = inr (sought.method, (h.0, refl, h.1))

    pub declaration_binds : (x : syntax.Member A) (at : ℕ) (d : Decl) → Has (declaration_notes begins rows super_at k base x) (refers at d) ↔ DeclarationRefers begins rows super_at k base x at (one d)
    declaration_binds (syntax.field m mods t w init) at d = left_alone (declared_notes (type_references begins rows (plain k false) (begins m base) t)) (init_notes begins rows k (is_static_member begins mods) (begins m base) init) (refers at d) _
        (declared_binds (type_references begins rows (plain k false) (begins m base) t) (λ a f. TypeRefers begins rows (plain k false) (begins m base) t a f) (type_iff rows fit found (plain k false) begins (begins m base) t) at d)
        (init_binds k (is_static_member begins mods) (begins m base) init at d)
    declaration_binds (syntax.method m mods t w ps body) at d = left_alone (declared_notes (result_references begins rows (plain k false) (begins m base) t ++ param_references begins rows (plain k false) (begins m base) ps)) _ (refers at d) _
        (declared_binds _ (λ a f. MethodRefers rows fit found begins (plain k false) (begins m base) t ps a f) (method_iff rows fit found begins (plain k false) (begins m base) t ps) at d)
        (none_of (missing_return_notes begins rows (begins w.mark (begins m base)) t body) _ (refers at d) (missing_binds (begins w.mark (begins m base)) t body at d)
        (none_of (override_notes rows k (begins w.mark (begins m base))) (when (is_object_method w.text) (breaks (begins w.mark (begins m base)) rule.ObjectMethod)) (refers at d) (override_binds k (begins w.mark (begins m base)) at d)
        (when_binds_none (is_object_method w.text) (begins w.mark (begins m base)) at rule.ObjectMethod d)))
    declaration_binds (syntax.constructor m mods w ps args body) at d = ctor_binds m w ps args mods body at d
    declaration_binds (syntax.inner m of) at d = (λ h. h, λ h. h)
