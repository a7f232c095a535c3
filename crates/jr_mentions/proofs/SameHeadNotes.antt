-- The notes on the head of a class, and on the declaration of a member that avoids the names.
use Rattle.std.proofs.Common.{◌≡◌, ℕ, List, [], ◌∷◌, ◌++◌, refl, ap, ◌∙◌, Option, Some, None, Bool, true, false}
use Rattle.std.specs.Prelude.{◌&&◌, not, is_some, if◌then◌else◌}
use Rattle.jr_ast.specs.Tree as tree
use Rattle.jr_ast.specs.StatementTree as statement
use Rattle.jr_ast.specs.MemberTree as syntax
use Rattle.jr_ast.specs.Marks.{exp_mark, type_mark}
use Rattle.jr_table.specs.Keys.{ClassKey}
use Rattle.jr_table.specs.Decls.{MemberKey, head, field, method, constructor, class_decl, field_decl}
use Rattle.jr_table.specs.Rows.{Row}
use Rattle.jr_table.specs.Entries.{top_class}
use Rattle.jr_table.specs.Prelude.{top_key}
use Rattle.jr_table.specs.DeclaredItems.{writes_ctor}
use Rattle.jr_table.specs.Found.{one, nothing}
use Rattle.jr_table.specs.Context.{Context, scope_of}
use Rattle.jr_table.specs.Binding.{type}
use Rattle.jr_table.specs.Binding as sought
use Rattle.jr_table.specs.HeadRules.{plain, with_parameters, is_static_member}
use Rattle.jr_table.specs.Meanings.{type_of_decl, type_of, types_of, superclass_of, ctor_found, own_superclass, reference}
use Rattle.jr_table.specs.Notes.{breaks, reference_notes, unless, when, is_object_method}
use Rattle.jr_table.specs.HeadNotes.{lacks_super_ctor, top_found, is_final_super, override_notes, declared_notes, parent_references, head_notes, param_references, result_references, init_notes, missing_return_notes, super_notes, declaration_notes}
use Rattle.jr_table.specs.declared.rules.Rule.TheVariants as rule
use Rattle.jr_mentions.specs.Apart.{IsCleanMember}
use Rattle.jr_mentions.specs.Alike.{Finds, LookAlike}
use Rattle.jr_mentions.specs.Avoids.{AvoidsMaybe, AvoidsArgs, AvoidsMember}
use Rattle.jr_mentions.proofs.SameMeanings.{superclasses, decl_types, ctors, types, row_types, type_refs}
use Rattle.jr_mentions.proofs.SameTests.{found_tests, moved, suits_at, final_words}

module _ (names : List (List ℕ)) (rows after : List Row) (alike : LookAlike names rows after) where
  super_ctors : (c : Context) → Finds names (ctor_found rows c (own_superclass rows c) (Some [])) (ctor_found after c (own_superclass after c) (Some []))
  super_ctors c = moved names (ctor_found rows c (own_superclass rows c) (Some [])) (ctor_found after c (own_superclass rows c) (Some [])) (ctor_found after c (own_superclass after c) (Some []))
      (ctors names rows after alike c (own_superclass rows c) (Some [])) (ap (λ o. ctor_found after c o (Some [])) (superclasses names rows after alike (scope_of c).class))

  lacking : (c : Context) → lacks_super_ctor rows c ≡ lacks_super_ctor after c
  lacking c = ap not (found_tests names (λ d. true) (λ d. true) (λ d clean. refl)
      (ctor_found rows c (own_superclass rows c) (Some [])) (ctor_found after c (own_superclass after c) (Some [])) (super_ctors c))

  tops : (name : List ℕ) → top_found rows name ≡ top_found after name
  tops name = ap (λ o. if is_some o then one (top_class name) else nothing) (alike.number (top_class name) tt)

  final_supers : (o : Option ClassKey) → is_final_super rows o ≡ is_final_super after o
  final_supers None = refl
  final_supers (Some p) = final_words names rows after alike (class_decl p) tt

  final_super : (k : ClassKey) → is_final_super rows (superclass_of rows k) ≡ is_final_super after (superclass_of after k)
  final_super k = final_supers (superclass_of rows k) ∙ ap (is_final_super after) (superclasses names rows after alike k)

  overridden : (k : MemberKey) (at : ℕ) → IsCleanMember names k → override_notes rows k at ≡ override_notes after k at
  overridden (method k) at this = λ i. when (alike.overrides k this i) (breaks at rule.Override)
  overridden (head k) at this = refl
  overridden (field k) at this = refl
  overridden (constructor k) at this = refl

  module _ {A : Type 0} (begins : A → ℕ → ℕ) where
    parents : (o : Option (List ℕ)) (base : ℕ) (t : tree.TypeName A) → parent_references begins rows o base t ≡ parent_references begins after o base t
    parents (Some outer) base (tree.int m) = refl
    parents (Some outer) base (tree.boolean m) = refl
    parents (Some outer) base (tree.named m o w) = type_refs names rows after alike begins (plain (head (top_key outer)) false) base (tree.named m o w)
    parents None base (tree.named m None w) = λ i. reference (begins w.mark (begins m base)) type (tops w.text i) ∷ []
    parents None base (tree.named m (Some o) w) = refl
    parents None base (tree.int m) = refl
    parents None base (tree.boolean m) = refl

    -- the notes on the head of a class
    pub heads : (k : ClassKey) (base : ℕ) (of : syntax.Class A) → head_notes begins rows k base of ≡ head_notes begins after k base of
    heads k base (syntax.class m mods w None ms) =
        λ i. when (not (writes_ctor begins ms) && lacking (plain (head k) false) i) (breaks (begins w.mark (begins m base)) rule.SuperCtor)
    heads k base (syntax.class m mods w (Some t) ms) = λ i. (declared_notes (parents k.outer (begins m base) t i)
        ++ when (final_super k i) (breaks (begins (type_mark t) (begins m base)) rule.FinalClass))
        ++ when (not (writes_ctor begins ms) && lacking (plain (head k) false) i) (breaks (begins w.mark (begins m base)) rule.SuperCtor)

    params : (c : Context) (base : ℕ) (ps : List (syntax.Param A)) → param_references begins rows c base ps ≡ param_references begins after c base ps
    params c base [] = refl
    params c base (p ∷ ps) = λ i. type_refs names rows after alike begins c (begins p.mark base) p.type i ++ params c base ps i

    results : (c : Context) (base : ℕ) (t : Option (tree.TypeName A)) → result_references begins rows c base t ≡ result_references begins after c base t
    results c base None = refl
    results c base (Some t) = type_refs names rows after alike begins c base t

    inits : (k : MemberKey) (is_static : Bool) (base : ℕ) (e : Option (tree.Exp A)) → IsCleanMember names k → AvoidsMaybe names e → init_notes begins rows k is_static base e ≡ init_notes begins after k is_static base e
    inits (field k) is_static base None this h = refl
    inits (field k) is_static base (Some e) this h = λ i. unless (suits_at names rows after alike (type_of rows (plain (field k) is_static) e) (type_of_decl rows (plain (field k) is_static) (field_decl k))
        (type_of after (plain (field k) is_static) e) (type_of_decl after (plain (field k) is_static) (field_decl k))
        (types names rows after alike (plain (field k) is_static) e h) (decl_types names rows after alike (plain (field k) is_static) (field_decl k) this) i) (breaks (begins (exp_mark e) base) rule.TypeMismatch)
    inits (head k) is_static base e this h = refl
    inits (method k) is_static base e this h = refl
    inits (constructor k) is_static base e this h = refl

    missing : (at : ℕ) (t : Option (tree.TypeName A)) (body : statement.Stmts A) → missing_return_notes begins rows at t body ≡ missing_return_notes begins after at t body
    missing at None body = refl
    missing at (Some t) body = refl

    supers : (super_at at : ℕ) (k : MemberKey) (ps : List (syntax.Param A)) (args : Option (tree.Exps A)) → AvoidsArgs names args → super_notes begins rows super_at at k ps args ≡ super_notes begins after super_at at k ps args
    supers super_at at k ps None h = λ i. when (lacking (plain k false) i) (breaks at rule.SuperCtor)
    supers super_at at k ps (Some args) h = ap (λ f. reference_notes (reference super_at sought.method f ∷ []))
        ((ctors names rows after alike (with_parameters k true ps) (own_superclass rows (plain k false)) (types_of rows (with_parameters k true ps) args)).same
        ∙ (λ i. ctor_found after (with_parameters k true ps) (superclasses names rows after alike (scope_of (plain k false)).class i) (row_types names rows after alike (with_parameters k true ps) args h i)))

    -- the notes on a member's own declaration
    pub declarations : (super_at : ℕ) (k : MemberKey) (base : ℕ) (x : syntax.Member A) → IsCleanMember names k → AvoidsMember names x
        → declaration_notes begins rows super_at k base x ≡ declaration_notes begins after super_at k base x
    declarations super_at k base (syntax.field m mods t w init) this h = λ i. declared_notes (type_refs names rows after alike begins (plain k false) (begins m base) t i)
        ++ inits k (is_static_member begins mods) (begins m base) init this h i
    declarations super_at k base (syntax.method m mods t w ps body) this h = λ i. declared_notes (results (plain k false) (begins m base) t i ++ params (plain k false) (begins m base) ps i)
        ++ (missing (begins w.mark (begins m base)) t body i ++ (overridden k (begins w.mark (begins m base)) this i
        ++ when (is_object_method w.text) (breaks (begins w.mark (begins m base)) rule.ObjectMethod)))
    declarations super_at k base (syntax.constructor m mods w ps args body) this h = λ i. declared_notes (params (plain k false) (begins m base) ps i)
        ++ supers super_at (begins w.mark (begins m base)) k ps args h.0 i
    declarations super_at k base (syntax.inner m of) this h = refl
