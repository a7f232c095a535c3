-- References in the declaration of a member: those that are computed are those of the relations.
use Rattle.std.proofs.Common.{◌≡◌, ℕ, List, [], ◌∷◌, ◌++◌, Option, Some, None, true, false, inl, inr}
use Rattle.std.specs.Prelude.{◌⊎◌, ◌↔◌}
use Rattle.jr_ast.specs.Tree as tree
use Rattle.jr_ast.specs.MemberTree as syntax
use Rattle.jr_table.specs.declared.answers.Answer.TheVariants as number
use Rattle.jr_table.specs.Keys.{ClassKey, Ty}
use Rattle.jr_table.specs.Decls.{MemberKey, Decl}
use Rattle.jr_table.specs.Rows.{Row}
use Rattle.jr_table.specs.Conditions.{AreRows}
use Rattle.jr_table.specs.Found.{Found, from_static}
use Rattle.jr_table.specs.Scope.{Scope}
use Rattle.jr_table.specs.Lookup.{FindsCtorOf, find_ctor_of}
use Rattle.jr_table.specs.LookupLaws.{Decided, KeysAreFound}
use Rattle.jr_table.specs.Context.{Context, scope_of, IsSuperclass}
use Rattle.jr_table.specs.Binding.{HaveTypes, FindsIn, FindsFor, Sought, type, SuperCtorFinds}
use Rattle.jr_table.specs.Binding as sought
use Rattle.jr_table.specs.HeadRules.{plain, with_parameters, ParamsRefer, MaybeTypeRefers}
use Rattle.jr_table.specs.Meanings.{types_of, find_for, own_superclass, ctor_found, Reference, reference, InReferences, type_references}
use Rattle.jr_table.specs.HeadNotes.{param_references, result_references}
use Rattle.jr_table.proofs.RowTypes.{chain}
use Rattle.jr_table.proofs.Typing.{in_iff, own_super_iff, ctors_iff, types}
use Rattle.jr_table.proofs.Referring.{only_iff, type_iff}

-- two lists of references
in_both : (xs ys : List Reference) (at : ℕ) (q : Sought) (f : Found) → InReferences (xs ++ ys) at q f ↔ (InReferences xs at q f ⊎ InReferences ys at q f)
in_both [] ys at q f = (λ h. inr h, back)
  where
    back : (⊥ ⊎ InReferences ys at q f) → InReferences ys at q f
    back (inl h) = absurd h
    back (inr h) = h
in_both (x ∷ xs) ys at q f = (to (in_both xs ys at q f), back (in_both xs ys at q f))
  where
    later : (InReferences xs at q f ⊎ InReferences ys at q f) → InReferences (x ∷ xs) at q f ⊎ InReferences ys at q f
    later (inl h) = inl (inr h)
    later (inr h) = inr h

    to : (InReferences (xs ++ ys) at q f ↔ (InReferences xs at q f ⊎ InReferences ys at q f)) → InReferences (x ∷ (xs ++ ys)) at q f → InReferences (x ∷ xs) at q f ⊎ InReferences ys at q f
    to again (inl e) = inl (inl e)
    to again (inr h) = later (again.0 h)

    back : (InReferences (xs ++ ys) at q f ↔ (InReferences xs at q f ⊎ InReferences ys at q f)) → (InReferences (x ∷ xs) at q f ⊎ InReferences ys at q f) → InReferences (x ∷ (xs ++ ys)) at q f
    back again (inl (inl e)) = inl e
    back again (inl (inr h)) = inr (again.1 (inl h))
    back again (inr h) = inr (again.1 (inr h))

module _ (rows : List Row) (fit : AreRows rows) (found : KeysAreFound rows) where
  module _ {A : Type 0} (begins : A → ℕ → ℕ) where
    -- references in the types of parameters and of a result
    pub params_iff : (c : Context) (base : ℕ) (ps : List (syntax.Param A)) (at : ℕ) (q : Sought) (f : Found) → InReferences (param_references begins rows c base ps) at q f ↔ ((q ≡ type) × ParamsRefer begins rows c base ps at f)
    params_iff c base [] at q f = (λ h. absurd h, λ h. h.1)
    params_iff c base (p ∷ ps) at q f = chain (in_both (type_references begins rows c (begins p.mark base) p.type) (param_references begins rows c base ps) at q f) (to (params_iff c base ps at q f), back (params_iff c base ps at q f))
      where
        to : (InReferences (param_references begins rows c base ps) at q f ↔ ((q ≡ type) × ParamsRefer begins rows c base ps at f)) → (InReferences (type_references begins rows c (begins p.mark base) p.type) at q f ⊎ InReferences (param_references begins rows c base ps) at q f)
            → (q ≡ type) × ParamsRefer begins rows c base (p ∷ ps) at f
        to again (inl h) = let g = (type_iff rows fit found c begins (begins p.mark base) p.type at q f).0 h in (g.0, inl g.1)
        to again (inr h) = let g = again.0 h in (g.0, inr g.1)

        back : (InReferences (param_references begins rows c base ps) at q f ↔ ((q ≡ type) × ParamsRefer begins rows c base ps at f)) → (q ≡ type) × ParamsRefer begins rows c base (p ∷ ps) at f
            → InReferences (type_references begins rows c (begins p.mark base) p.type) at q f ⊎ InReferences (param_references begins rows c base ps) at q f
        back again (e, inl h) = inl ((type_iff rows fit found c begins (begins p.mark base) p.type at q f).1 (e, h))
        back again (e, inr h) = inr (again.1 (e, h))

    result_iff : (c : Context) (base : ℕ) (o : Option (tree.TypeName A)) (at : ℕ) (q : Sought) (f : Found) → InReferences (result_references begins rows c base o) at q f ↔ ((q ≡ type) × MaybeTypeRefers begins rows c base o at f)
    result_iff c base None at q f = (λ h. absurd h, λ h. h.1)
    result_iff c base (Some t) at q f = type_iff rows fit found c begins base t at q f

    -- those of a method
    abbrev pub MethodRefers : Context → (base : ℕ) → Option (tree.TypeName A) → List (syntax.Param A) → (at : ℕ) → Found → Type 0
    MethodRefers c base o ps at f = MaybeTypeRefers begins rows c base o at f ⊎ ParamsRefer begins rows c base ps at f

    pub method_iff : (c : Context) (base : ℕ) (o : Option (tree.TypeName A)) (ps : List (syntax.Param A)) (at : ℕ) (q : Sought) (f : Found)
        → InReferences (result_references begins rows c base o ++ param_references begins rows c base ps) at q f ↔ ((q ≡ type) × MethodRefers c base o ps at f)
    method_iff c base o ps at q f = chain (in_both (result_references begins rows c base o) (param_references begins rows c base ps) at q f) (to, back)
      where
        to : (InReferences (result_references begins rows c base o) at q f ⊎ InReferences (param_references begins rows c base ps) at q f) → (q ≡ type) × MethodRefers c base o ps at f
        to (inl h) = let g = (result_iff c base o at q f).0 h in (g.0, inl g.1)
        to (inr h) = let g = (params_iff c base ps at q f).0 h in (g.0, inr g.1)

        back : (q ≡ type) × MethodRefers c base o ps at f → InReferences (result_references begins rows c base o) at q f ⊎ InReferences (param_references begins rows c base ps) at q f
        back (e, inl h) = inl ((result_iff c base o at q f).1 (e, h))
        back (e, inr h) = inr ((params_iff c base ps at q f).1 (e, h))

    -- what a written `super(..)` finds
    abbrev pub written_super : MemberKey → List (syntax.Param A) → tree.Exps A → Found
    written_super k ps args = ctor_found rows (with_parameters k true ps) (own_superclass rows (plain k false)) (types_of rows (with_parameters k true ps) args)

    super_decided : (k : MemberKey) (ps : List (syntax.Param A)) (args : tree.Exps A) → Decided (written_super k ps args) (λ f. SuperCtorFinds rows (with_parameters k true ps) args f)
    super_decided k ps args = in_iff (own_superclass rows (plain k false)) (λ j. find_for (types_of rows (with_parameters k true ps) args) (λ ts. find_ctor_of rows (scope_of (with_parameters k true ps)) j ts))
        (IsSuperclass rows (scope_of (plain k false)).class) _ (own_super_iff rows fit found (plain k false))
        (λ j. ctors_iff rows fit found (with_parameters k true ps) j (types_of rows (with_parameters k true ps) args) (HaveTypes rows (with_parameters k true ps) args) (types rows fit found (with_parameters k true ps) args))

    pub only_super : (super_at : ℕ) (k : MemberKey) (ps : List (syntax.Param A)) (args : tree.Exps A) (at : ℕ) (q : Sought) (f : Found)
        → InReferences (reference super_at sought.method (written_super k ps args) ∷ []) at q f ↔ ((at ≡ super_at) × (q ≡ sought.method) × SuperCtorFinds rows (with_parameters k true ps) args f)
    only_super super_at k ps args at q f = only_iff super_at sought.method (written_super k ps args) (λ g. SuperCtorFinds rows (with_parameters k true ps) args g) (super_decided k ps args) at q f

    -- a constructor never wants an object
    ctor_answer : (s : Scope) (of : ClassKey) (ts : List Ty) (d : Decl) → FindsCtorOf rows s of ts (from_static d) → ⊥
    ctor_answer s of ts d (number.One j, finds, shows) = shows
    ctor_answer s of ts d (number.Nothing, finds, shows) = shows
    ctor_answer s of ts d (number.Many j k, finds, shows) = shows
    ctor_answer s of ts d (number.NotAccessible j, finds, shows) = shows
    ctor_answer s of ts d (number.FromStatic j, finds, shows) = finds

    typed_answer : (s : Scope) (of : ClassKey) (Types : List Ty → Type 0) (d : Decl) → FindsFor Types (λ ts f. FindsCtorOf rows s of ts f) (from_static d) → ⊥
    typed_answer s of Types d (inl (ts, are, h)) = ctor_answer s of ts d h
    typed_answer s of Types d (inr (none, e)) = absurd cc

    pub super_answer : (k : MemberKey) (ps : List (syntax.Param A)) (args : tree.Exps A) (d : Decl) → SuperCtorFinds rows (with_parameters k true ps) args (from_static d) → ⊥
    super_answer k ps args d (inl (j, is, h)) = typed_answer (scope_of (with_parameters k true ps)) j (HaveTypes rows (with_parameters k true ps) args) d h
    super_answer k ps args d (inr (none, e)) = absurd cc
