-- What a walk over a head or a member rests on, part by part: no rule is broken, each name in a
-- declared type finds one declaration, and binding knows each reference by its place and each type
-- by its path. The marks are spans, which fit anywhere.
use Rattle.std.specs.Prelude.{
  ◌≡◌,
  ◌↔◌,
  ℕ,
  ◌+◌,
  List,
  [],
  ◌∷◌,
  length,
  Option,
  Some,
  None,
  Bool,
  true,
  false,
  slice_get,
}
use Rattle.jr_text.specs.declared.spans.Span.{Span}
use Rattle.jr_lex.specs.declared.items.Item.{Item}
use Rattle.jr_lex.specs.Lexes.{Lexes}
use Rattle.jr_ast.specs.Tree as tree
use Rattle.jr_ast.specs.StatementTree as statement
use Rattle.jr_ast.specs.MemberTree as syntax
use Rattle.jr_table.specs.Keys.{ClassKey, Ty}
use Rattle.jr_table.specs.Decls.{MemberKey, Decl, class_decl}
use Rattle.jr_table.specs.Rows.{Row}
use Rattle.jr_table.specs.Prelude.{top_key}
use Rattle.jr_table.specs.Found.{one}
use Rattle.jr_table.specs.Context.{Context}
use Rattle.jr_table.specs.HeadRules.{plain, with_parameters, is_static_member, TopFinds}
use Rattle.jr_table.specs.Decls as decls
use Rattle.jr_table.specs.Errors.{Part, class_part, member_part, Breaks, Binds}
use Rattle.jr_table.specs.Binding.{value}
use Rattle.jr_table.specs.TypesAt.{count_type, count_super}
use Rattle.jr_table.specs.declared.rules.Rule.{Rule}
use Rattle.jr_expr_types.specs.Slots.{find_type}
use Rattle.jr_bind_expr.specs.Fits.{FitsType, FitsExps}
use Rattle.jr_bind.specs.Bounds.{Bound, FitsWhole, TypeInPart}
use Rattle.jr_bind.specs.Programs.{File, Program}
use Rattle.jr_bind.specs.SuperPlaces.{IsSuperAt}
use Rattle.jr_program_laws.specs.FileParts.{begins}
use Rattle.jr_new_bodies.specs.Known.{
  found_in,
  SoundRow,
  RefersRowIn,
  TypesRowIn,
  TypeIsBound,
  SuperCtorIsBound,
}
use Rattle.jr_new_bodies.specs.Ready.{ExpReadyIn, StmtsReadyIn}
use Rattle.jr_grammar.specs.Layout.{itself}
use Rattle.jr_program_laws.specs.FoundTypes.{DeclaresFound}

abbrev pub Anywhere : Span → ℕ → Type 0
Anywhere m base = Unit {0}

-- ---- a whole part, whose `super(..)`, where one is written, stands at `super_at`

pub record IsReady (rows : List Row) (b : Bound) (from super_at : ℕ) (k : MemberKey) (base : ℕ)
    (part : Part Span) : Type 0 where
  pub fits : FitsWhole begins Anywhere base part
  pub sound : (at : ℕ) (r : Rule) → Breaks begins rows super_at k base part at r → ⊥
  pub refers : (at : ℕ) (d : Decl) → Binds begins rows super_at k base part at d
      → found_in b from at ≡ Some d
  pub types : (path : List ℕ) (t : Ty) → (find_type b.types path ≡ Some t)
      ↔ TypeInPart begins rows k part path t
  pub found : DeclaresFound rows k part

-- where the word `super` of a span of a file stands
abbrev pub IsFirstSuper : Program Span → (file : ℕ) → Span → (at : ℕ) → Type 0
IsFirstSuper p file span at = (f : File Span) → slice_get p.files file ≡ Some f
    → (items : List Item) → Lexes f.text items → IsSuperAt items span at

-- ---- its parts

module _ (rows : List Row) where
  abbrev pub TypeReady : Context → (at : ℕ) → tree.TypeName Span → Type 0
  TypeReady c at t = FitsType begins Anywhere at t × TypeIsBound begins rows c at t

  abbrev pub ResultReady : Context → (at : ℕ) → Option (tree.TypeName Span) → Type 0
  ResultReady c at None = Unit {0}
  ResultReady c at (Some t) = TypeReady c at t

  abbrev pub ParamsReady : Context → List (syntax.Param Span) → Type 0
  ParamsReady c [] = Unit {0}
  ParamsReady c (p ∷ ps) = TypeReady c p.mark.from p.type × ParamsReady c ps

  -- the superclass of a top-level class is a class's simple name
  abbrev pub TopNameReady : List ℕ → Type 0
  TopNameReady name = (k : ClassKey) × TopFinds rows name (one (class_decl k))

  abbrev pub TopReady : tree.TypeName Span → Type 0
  TopReady (tree.int m) = Unit {0}
  TopReady (tree.boolean m) = Unit {0}
  TopReady (tree.named m None w) = TopNameReady w.text
  TopReady (tree.named m (Some v) w) = ⊥

  abbrev pub ParentReady : Option (List ℕ) → (at : ℕ) → tree.TypeName Span → Type 0
  ParentReady None at t = TopReady t
  ParentReady (Some outer) at t = TypeReady (plain (decls.head (top_key outer)) false) at t

  abbrev pub MaybeParentReady : Option (List ℕ) → (at : ℕ) → Option (tree.TypeName Span) → Type 0
  MaybeParentReady outer at None = Unit {0}
  MaybeParentReady outer at (Some t) = ParentReady outer at t

  -- the key is that of a class's head, and has the written name
  abbrev pub HeadReady : MemberKey → syntax.Class Span → Type 0
  HeadReady of (syntax.class m mods w t ms) = (k : ClassKey) × (of ≡ decls.head k)
      × (k.name ≡ w.text) × MaybeParentReady k.outer m.from t

module _ (rows : List Row) (b : Bound) (from : ℕ) where
  -- an initializer, which is the part of this number
  abbrev pub InitReady : Context → (step at : ℕ) → Option (tree.Exp Span) → Type 0
  InitReady c step at None = Unit {0}
  InitReady c step at (Some e) =
      ExpReadyIn itself Anywhere rows b from c value (step ∷ []) at e

  -- arguments and statements, the first of which is the part of this number
  abbrev pub ArgsReady : Context → (first at : ℕ) → tree.Exps Span → Type 0
  ArgsReady c first at es = FitsExps begins Anywhere at es × SoundRow begins rows c at es
      × RefersRowIn begins rows b from c at es × TypesRowIn rows b c [] first es

  abbrev pub SuperReady : Context → (first at : ℕ) → tree.Exps Span → Type 0
  SuperReady c first at args = ArgsReady c first at args × SuperCtorIsBound rows c args

  abbrev pub MaybeSuperReady : Context → (first at : ℕ) → Option (tree.Exps Span) → Type 0
  MaybeSuperReady c first at None = Unit {0}
  MaybeSuperReady c first at (Some args) = SuperReady c first at args

  abbrev pub BodyReady : Context → (number first at : ℕ) → statement.Stmts Span → Type 0
  BodyReady c number first at xs =
      StmtsReadyIn itself Anywhere rows b from number c [] first at xs

  -- ---- members

  abbrev pub FieldReady : MemberKey → (at : ℕ) → List (syntax.Modifier Span)
      → tree.TypeName Span → Option (tree.Exp Span) → Type 0
  FieldReady k at mods t init = TypeReady rows (plain k false) at t
      × InitReady (plain k (is_static_member begins mods)) (length mods + 2) at init

  abbrev pub MethodReady : MemberKey → (at : ℕ) → List (syntax.Modifier Span)
      → Option (tree.TypeName Span) → List (syntax.Param Span) → statement.Stmts Span → Type 0
  MethodReady k at mods t ps body = ResultReady rows (plain k false) at t
      × (ParamsReady rows (plain k false) ps
      × BodyReady (with_parameters k (is_static_member begins mods) ps) (length ps)
      (length mods + count_type rows t + 1 + length ps) at body)

  abbrev pub CtorReady : MemberKey → (at : ℕ) → List (syntax.Modifier Span)
      → List (syntax.Param Span) → Option (tree.Exps Span) → statement.Stmts Span → Type 0
  CtorReady k at mods ps args body = ParamsReady rows (plain k false) ps
      × (MaybeSuperReady (with_parameters k true ps) (length mods + 1 + length ps) at args
      × BodyReady (with_parameters k false ps) (length ps)
      (length mods + 1 + length ps + count_super rows args) at body)

  abbrev pub MemberReady : MemberKey → syntax.Member Span → Type 0
  MemberReady k (syntax.field m mods t w init) = FieldReady k m.from mods t init
  MemberReady k (syntax.method m mods t w ps body) = MethodReady k m.from mods t ps body
  MemberReady k (syntax.constructor m mods w ps args body) = CtorReady k m.from mods ps args body
  MemberReady k (syntax.inner m of) = ⊥

-- a written `super(..)` of a member stands there
abbrev pub IsMaybeSuper : Program Span → (file : ℕ) → Span → Option (tree.Exps Span) → (at : ℕ)
    → Type 0
IsMaybeSuper p file span None at = Unit {0}
IsMaybeSuper p file span (Some args) at = IsFirstSuper p file span at

abbrev pub HasSuperAt : Program Span → (file : ℕ) → syntax.Member Span → (at : ℕ) → Type 0
HasSuperAt p file (syntax.field m mods t w init) at = Unit {0}
HasSuperAt p file (syntax.method m mods t w ps body) at = Unit {0}
HasSuperAt p file (syntax.constructor m mods w ps args body) at = IsMaybeSuper p file m args at
HasSuperAt p file (syntax.inner m of) at = Unit {0}

-- ---- a part of a file

abbrev pub PartReady : Program Span → (file : ℕ) → List Row → Bound → (from : ℕ) → MemberKey
    → Part Span → Type 0
PartReady p file rows b from k (class_part c) = HeadReady rows k c
PartReady p file rows b from k (member_part x) =
    MemberReady rows b from k x × HasSuperAt p file x (p.super_at k)
