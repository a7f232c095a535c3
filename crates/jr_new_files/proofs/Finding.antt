-- Declared types, and the constructor of a written `super(..)`, find one declaration where no rule
-- is broken.
use Rattle.std.proofs.Common.{◌≡◌, ℕ, List, [], ◌∷◌, Option, Some, None, Bool, true, false, refl, sym, ap, subst, ◌∙◌, inl, inr}
use Rattle.std.specs.Prelude.{◌⊎◌}
use Rattle.jr_text.specs.declared.spans.Span.{Span}
use Rattle.jr_ast.specs.Tree as tree
use Rattle.jr_ast.specs.MemberTree as syntax
use Rattle.jr_table.specs.declared.answers.Answer.TheVariants as number
use Rattle.jr_table.specs.Keys.{ClassKey, Ty}
use Rattle.jr_table.specs.Decls.{Decl, class_decl}
use Rattle.jr_table.specs.Rows.{Row}
use Rattle.jr_table.specs.Found.{Found, one, nothing, many, not_accessible, from_static}
use Rattle.jr_table.specs.Scope.{Scope}
use Rattle.jr_table.specs.Lookup.{FindsTypeNamed, FindsTypeOf, FindsCtorOf}
use Rattle.jr_table.specs.LookupLaws.{EachHasOne}
use Rattle.jr_table.specs.Context.{Context, scope_of}
use Rattle.jr_table.specs.Binding.{TypeRefers, FindsIn, FindsFor, SuperCtorFinds}
use Rattle.jr_table.specs.HeadRules.{ParamsRefer, MaybeTypeRefers}
use Rattle.jr_bind_expr.specs.Fits.{FitsType}
use Rattle.jr_bind_parts.specs.DeclaredTypes.{FitsParams, FitsMaybeType}
use Rattle.jr_program_laws.specs.FileParts.{begins}
use Rattle.jr_new_bodies.specs.Known.{IsOne, SuperCtorIsBound}
use Rattle.jr_new_bodies.proofs.Bound.{type_bound}
use Rattle.jr_program_laws.specs.FoundTypes.{Tells, TypeIsFound, MaybeTypeIsFound, ParamTypesAreFound}
use Rattle.jr_new_files.specs.Ready.{Anywhere, TypeReady, ResultReady, ParamsReady, TopReady, TopNameReady}

-- what a class is found by isn't nothing
one_thing : (k : ClassKey) → one (class_decl k) ≡ nothing → ⊥
one_thing k e = absurd cc

hidden_thing : (k : ClassKey) → not_accessible (class_decl k) ≡ nothing → ⊥
hidden_thing k e = absurd cc

told_thing : (k : ClassKey) (Finds : Found → Type 0) → ((a b : Found) → Finds a → Finds b → a ≡ b) → Tells k Finds → Finds nothing → ⊥
told_thing k Finds once (inl h) none = one_thing k (once (one (class_decl k)) nothing h none)
told_thing k Finds once (inr h) none = hidden_thing k (once (not_accessible (class_decl k)) nothing h none)

same_class : (k j : ClassKey) → one (class_decl k) ≡ one (class_decl j) → k ≡ j
same_class k j e = cc

module _ (rows : List Row) (has : EachHasOne rows) (c : Context) where
  -- what no name of the type finds
  abbrev Seen : (at : ℕ) → tree.TypeName Span → Type 0
  Seen at t = (i : ℕ) (d : Decl) → TypeRefers begins rows c at t i (not_accessible d) → ⊥

  some_found : (at : ℕ) (t : tree.TypeName Span) → TypeIsFound rows (scope_of c) t → Seen at t → (i : ℕ) → TypeRefers begins rows c at t i nothing → ⊥
  some_found at (tree.int m) found seen i h = absurd h
  some_found at (tree.boolean m) found seen i h = absurd h
  some_found at (tree.named m None w) (k, tells) seen i h = told_thing k (FindsTypeNamed rows (scope_of c) w.text) (has.type_named (scope_of c) w.text) tells h.1
  some_found at (tree.named m (Some v) w) (o, k, outer, inner) seen i (inl h) = told_thing o (FindsTypeNamed rows (scope_of c) v.text) (has.type_named (scope_of c) v.text) outer h.1
  some_found at (tree.named m (Some v) w) (o, k, outer, inner) seen i (inr h) = by outer h.1
    where
      Named : Found → Type 0
      Named f = FindsTypeNamed rows (scope_of c) v.text f

      by : Tells o (λ f. FindsTypeNamed rows (scope_of c) v.text f) → FindsIn (λ j. FindsTypeNamed rows (scope_of c) v.text (one (class_decl j))) (λ j f. FindsTypeOf rows (scope_of c) j w.text f) nothing → ⊥
      by (inl there) (inl (j, is, finds)) =
          let same = same_class j o (has.type_named (scope_of c) v.text (one (class_decl j)) (one (class_decl o)) is there) in
          told_thing k (FindsTypeOf rows (scope_of c) o w.text) (has.type_of (scope_of c) o w.text) inner (subst (λ (q : ClassKey). FindsTypeOf rows (scope_of c) q w.text nothing) same finds)
      by (inl there) (inr (lacks, is)) = lacks o there
      by (inr there) x = seen v.mark.from (class_decl o) (inl (refl, there))

  pub type_ready : (at : ℕ) (t : tree.TypeName Span) → FitsType begins Anywhere at t → TypeIsFound rows (scope_of c) t
      → ((i : ℕ) (d : Decl) → TypeRefers begins rows c at t i (not_accessible d) → ⊥) → TypeReady rows c at t
  type_ready at t fits found seen = (fits, type_bound begins rows c at t (some_found at t found seen) seen)

  pub result_ready : (at : ℕ) (t : Option (tree.TypeName Span)) → FitsMaybeType begins Anywhere at t → MaybeTypeIsFound rows (scope_of c) t
      → ((i : ℕ) (d : Decl) → MaybeTypeRefers begins rows c at t i (not_accessible d) → ⊥) → ResultReady rows c at t
  result_ready at None fits found seen = tt
  result_ready at (Some t) fits found seen = type_ready at t fits found seen

  pub params_ready : (at : ℕ) (ps : List (syntax.Param Span)) → FitsParams begins Anywhere at ps → ParamTypesAreFound rows (scope_of c) ps
      → ((i : ℕ) (d : Decl) → ParamsRefer begins rows c at ps i (not_accessible d) → ⊥) → ParamsReady rows c ps
  params_ready at [] fits found seen = tt
  params_ready at (p ∷ ps) fits found seen =
      (type_ready p.mark.from p.type fits.1 found.0 (λ i d h. seen i d (inl h)), params_ready at ps fits.2 found.1 (λ i d h. seen i d (inr h)))

-- ---- the constructor of a written `super(..)`

module _ (rows : List Row) (c : Context) (args : tree.Exps Span) where
  static_ctor : (s : Scope) (k : ClassKey) (ts : List Ty) (d : Decl) → FindsCtorOf rows s k ts (from_static d) → ⊥
  static_ctor s k ts d (number.FromStatic j, finds, shows) = absurd finds
  static_ctor s k ts d (number.One j, finds, shows) = absurd shows
  static_ctor s k ts d (number.Nothing, finds, shows) = absurd shows
  static_ctor s k ts d (number.NotAccessible j, finds, shows) = absurd shows
  static_ctor s k ts d (number.Many i j, finds, shows) = absurd shows

  never_static : (d : Decl) → SuperCtorFinds rows c args (from_static d) → ⊥
  never_static d (inl (k, is, inl (ts, have, finds))) = static_ctor (scope_of c) k ts d finds
  never_static d (inl (k, is, inr (lacks, e))) = absurd cc
  never_static d (inr (lacks, e)) = absurd cc

  pub ctor_bound : (SuperCtorFinds rows c args nothing → ⊥) → ((d e : Decl) → SuperCtorFinds rows c args (many d e) → ⊥)
      → ((d : Decl) → SuperCtorFinds rows c args (not_accessible d) → ⊥) → SuperCtorIsBound rows c args
  ctor_bound some few seen = λ f h. by f h
    where
      by : (f : Found) → SuperCtorFinds rows c args f → IsOne f
      by (one d) h = (d, refl)
      by nothing h = absurd (some h)
      by (many d e) h = absurd (few d e h)
      by (not_accessible d) h = absurd (seen d h)
      by (from_static d) h = absurd (never_static d h)

-- ---- the superclass of a top-level class

pub top_alone : (rows : List Row) (m : Span) (outer : Option (tree.Word Span)) (w : tree.Word Span) → TopReady rows (tree.named m outer w) → (outer ≡ None) × TopNameReady rows w.text
top_alone rows m None w ready = (refl, ready)
top_alone rows m (Some v) w ready = absurd ready
