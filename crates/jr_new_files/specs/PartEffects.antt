-- What a walk gathers of the parts of a head or member: exactly what a rewriting of them gives.
use Rattle.std.specs.Prelude.{◌≡◌, ℕ, List, length, Option, Some, None, Bool, true, false}
use Rattle.jr_text.specs.declared.spans.Span.{Span}
use Rattle.jr_ast.specs.Tree as tree
use Rattle.jr_ast.specs.StatementTree as statement
use Rattle.jr_ast.specs.MemberTree as syntax
use Rattle.jr_table.specs.Keys.{ClassKey}
use Rattle.jr_table.specs.Decls.{MemberKey, Decl, local_decl}
use Rattle.jr_table.specs.Rows.{Row}
use Rattle.jr_table.specs.Entries.{class_of_member}
use Rattle.jr_table.specs.Errors.{Part, class_part, member_part}
use Rattle.jr_table.specs.Context.{Context}
use Rattle.jr_table.specs.HeadRules.{plain, with_parameters, is_static_member}
use Rattle.jr_bind.specs.Programs.{Program}
use Rattle.jr_program_laws.specs.FileParts.{begins}
use Rattle.jr_rewrite.specs.Respellings.{Choice}
use Rattle.jr_rewrite.specs.Rewrites.{
  Choosing,
  declared_by,
  DeclaredOut,
  TypeOut,
  RewritesType,
  RewritesMaybe,
  RewritesRow,
  RewritesStmts,
  RewritesParams,
  RewritesResult,
  RewritesSuper,
  RewritesParent,
  RewritesHead,
  RewritesMember,
}
use Rattle.jr_new_words.specs.Mappings.{Mapping}
use Rattle.jr_new_words.specs.Spelled.{spelling}
use Rattle.jr_new_words.specs.Chosen.{TopParentIsChosen}
use Rattle.jr_new_bodies.specs.Effects.{Effect, both, Gathers}
use Rattle.jr_new_bodies.specs.OutputView.{alone}
use Rattle.jr_grammar.specs.Layout.{itself}

module _ (rows : List Row) (g : Mapping) where
  abbrev pub choosing : (Context → ℕ) → Choosing Span
  choosing s = spelling begins rows g s

  -- ---- wherever a written `super(..)` stands

  abbrev pub WordGathers : Decl → tree.Word Span → (old new : Effect) → Type 0
  WordGathers d w old new = (s : Context → ℕ) (at : ℕ)
      → Gathers (DeclaredOut itself (choosing s) d at w) old new

  abbrev pub TypeGathers : Context → (at : ℕ) → tree.TypeName Span → (old new : Effect) → Type 0
  TypeGathers c at t old new =
      (s : Context → ℕ) → Gathers (RewritesType itself (choosing s) c at t) old new

  abbrev pub InitGathers : Context → (at : ℕ) → Option (tree.Exp Span) → (old new : Effect)
      → Type 0
  InitGathers c at e old new =
      (s : Context → ℕ) → Gathers (RewritesMaybe itself (choosing s) c at e) old new

  abbrev pub ArgsGather : Context → (at : ℕ) → tree.Exps Span → (old new : Effect) → Type 0
  ArgsGather c at es old new =
      (s : Context → ℕ) → Gathers (RewritesRow itself (choosing s) c at es) old new

  abbrev pub BodyGathers : Context → (number at : ℕ) → statement.Stmts Span → (old new : Effect)
      → Type 0
  BodyGathers c number at xs old new = (s : Context → ℕ)
      → Gathers (RewritesStmts itself (choosing s) number c at xs) old new

  abbrev pub ResultGathers : MemberKey → (at : ℕ) → Option (tree.TypeName Span)
      → (old new : Effect) → Type 0
  ResultGathers k at t old new =
      (s : Context → ℕ) → Gathers (RewritesResult itself (choosing s) k at t) old new

  abbrev pub ParamGathers : MemberKey → (number : ℕ) → syntax.Param Span → (old new : Effect)
      → Type 0
  ParamGathers k n p old new = (mid : Effect)
      × TypeGathers (plain k false) p.mark.from p.type old mid
      × WordGathers (local_decl (record { member = k; number = n })) p.name mid new

  abbrev pub ParamsGather : MemberKey → (number at : ℕ) → List (syntax.Param Span)
      → (old new : Effect) → Type 0
  ParamsGather k n at ps old new =
      (s : Context → ℕ) → Gathers (RewritesParams itself (choosing s) k n at ps) old new

  -- the name of a top-level class as a superclass
  abbrev pub TopNameGathers : Span → List ℕ → (old new : Effect) → Type 0
  TopNameGathers word name old new = (c : Choice)
      × TopParentIsChosen rows g word.from name (Some c) × (new ≡ both old (alone c word))

  abbrev pub TopParentGathers : (at : ℕ) → tree.TypeName Span → (old new : Effect) → Type 0
  TopParentGathers at t old new = (s : Context → ℕ)
      → Gathers (TypeOut itself (choosing s) ((choosing s).parent_qualifier None at t)
      ((choosing s).parent None at t) at t) old new

  abbrev pub ParentGathers : Option (List ℕ) → (at : ℕ) → tree.TypeName Span
      → (old new : Effect) → Type 0
  ParentGathers outer at t old new = (s : Context → ℕ)
      → Gathers (TypeOut itself (choosing s) ((choosing s).parent_qualifier outer at t)
      ((choosing s).parent outer at t) at t) old new

  abbrev pub MaybeParentGathers : Option (List ℕ) → (at : ℕ) → Option (tree.TypeName Span)
      → (old new : Effect) → Type 0
  MaybeParentGathers outer at t old new = (s : Context → ℕ)
      → Gathers (RewritesParent itself (choosing s) outer at t) old new

  abbrev pub HeadGathers : ClassKey → (base : ℕ) → syntax.Class Span → (old new : Effect) → Type 0
  HeadGathers k base c old new = (s : Context → ℕ)
      → Gathers (RewritesHead itself (choosing s) k.outer base c) old new

  -- ---- where it stands there

  abbrev pub SuperGathers : Context → (super_at at : ℕ) → tree.Exps Span → (old new : Effect)
      → Type 0
  SuperGathers c super_at at args old new = (s : Context → ℕ) → s c ≡ super_at
      → Gathers (RewritesSuper itself (choosing s) c at (Some args)) old new

  abbrev pub MaybeSuperGathers : Context → (super_at at : ℕ) → Option (tree.Exps Span)
      → (old new : Effect) → Type 0
  MaybeSuperGathers c super_at at args old new = (s : Context → ℕ) → s c ≡ super_at
      → Gathers (RewritesSuper itself (choosing s) c at args) old new

  -- ---- members, part by part

  abbrev pub FieldGathers : MemberKey → (at : ℕ) → List (syntax.Modifier Span)
      → tree.TypeName Span → tree.Word Span → Option (tree.Exp Span) → (old new : Effect)
      → Type 0
  FieldGathers k at mods t w init old new = (a : Effect) × (b : Effect)
      × TypeGathers (plain k false) at t old a × WordGathers (declared_by k) w a b
      × InitGathers (plain k (is_static_member begins mods)) at init b new

  -- what stands in front of a method's body, and a constructor's
  abbrev pub MethodHeadGathers : MemberKey → (at : ℕ) → Option (tree.TypeName Span)
      → tree.Word Span → List (syntax.Param Span) → (old new : Effect) → Type 0
  MethodHeadGathers k at t w ps old new = (a : Effect) × (b : Effect)
      × ResultGathers k at t old a × WordGathers (declared_by k) w a b
      × ParamsGather k 0 at ps b new

  abbrev pub CtorHeadGathers : MemberKey → (at : ℕ) → tree.Word Span → List (syntax.Param Span)
      → (old new : Effect) → Type 0
  CtorHeadGathers k at w ps old new = (a : Effect) × WordGathers (declared_by k) w old a
      × ParamsGather k 0 at ps a new

  abbrev pub MethodGathers : MemberKey → (at : ℕ) → List (syntax.Modifier Span)
      → Option (tree.TypeName Span) → tree.Word Span → List (syntax.Param Span)
      → statement.Stmts Span → (old new : Effect) → Type 0
  MethodGathers k at mods t w ps body old new = (mid : Effect)
      × MethodHeadGathers k at t w ps old mid
      × BodyGathers (with_parameters k (is_static_member begins mods) ps) (length ps) at body mid
      new

  abbrev pub CtorGathers : MemberKey → (super_at at : ℕ) → tree.Word Span
      → List (syntax.Param Span) → Option (tree.Exps Span) → statement.Stmts Span
      → (old new : Effect) → Type 0
  CtorGathers k super_at at w ps args body old new = (a : Effect) × (b : Effect)
      × CtorHeadGathers k at w ps old a
      × MaybeSuperGathers (with_parameters k true ps) super_at at args a b
      × BodyGathers (with_parameters k false ps) (length ps) at body b new

-- a member, where written `super(..)` stand as the program says
abbrev pub MemberGathers : Program Span → List Row → Mapping → MemberKey → (base : ℕ)
    → syntax.Member Span → (old new : Effect) → Type 0
MemberGathers p rows g k base x old new = Gathers (RewritesMember itself
    (spelling begins rows g (λ (c : Context). p.super_at c.member)) k base x) old new

-- a part of a file
abbrev pub PartGathers : Program Span → List Row → Mapping → MemberKey → (base : ℕ) → Part Span
    → (old new : Effect) → Type 0
PartGathers p rows g k base (class_part c) old new =
    HeadGathers rows g (class_of_member k) base c old new
PartGathers p rows g k base (member_part x) old new = MemberGathers p rows g k base x old new
