-- Members that break no rule have code: methods, constructors, the constructor that isn't written, initializers of fields.
use Rattle.std.proofs.Common.{◌≡◌, ℕ, List, [], length, Option, Some, None, Bool, true, false, refl, sym, subst, ◌∙◌, inl, inr}
use Rattle.jr_ast.specs.Tree as tree
use Rattle.jr_ast.specs.StatementTree as statement
use Rattle.jr_ast.specs.MemberTree as syntax
use Rattle.jr_grammar.specs.Shape.{Shaped}
use Rattle.jr_grammar.specs.StatementShape.{StmtsShaped}
use Rattle.jr_grammar.specs.MemberShape.{ShapedArgs, MembersShaped}
use Rattle.jr_runs.specs.Core as core
use Rattle.jr_table.specs.Keys.{ClassKey, MethodKey, CtorKey}
use Rattle.jr_table.specs.Decls.{MemberKey, head, field, method, constructor, Decl, constructor_decl}
use Rattle.jr_table.specs.Rows.{Row}
use Rattle.jr_table.specs.Conditions.{AreRows}
use Rattle.jr_table.specs.Found.{Found, one, nothing, many, not_accessible, from_static}
use Rattle.jr_table.specs.Lookup.{FindsCtorOf, find_ctor_of}
use Rattle.jr_table.specs.LookupLaws.{Decided, KeysAreFound}
use Rattle.jr_table.specs.Context.{Context, scope_of, IsSuperclass}
use Rattle.jr_table.specs.Binding.{value, HaveTypes, FindsIn, SuperCtorFinds}
use Rattle.jr_table.specs.HeadRules.{plain, with_parameters, is_static_member, LacksSuperCtor}
use Rattle.jr_table.specs.Meanings.{find_in, find_for, types_of, own_superclass}
use Rattle.jr_table.specs.Errors.{Part, class_part, member_part, Breaks}
use Rattle.jr_table.specs.DeclaredItems.{writes_ctor}
use Rattle.jr_table.specs.declared.answers.Answer.TheVariants as number
use Rattle.jr_table.specs.declared.rules.Rule.{Rule}
use Rattle.jr_table.specs.declared.rules.Rule.TheVariants as rule
use Rattle.jr_table.proofs.Typing.{in_iff, ctors_iff, own_super_iff, types}
use Rattle.jr_code.specs.RunKeys.{RunKeys, Place}
use Rattle.jr_code.specs.CodedStatements.{StatementCode}
use Rattle.jr_code.specs.CodedMembers.{MemberCode, ImplicitFinds, MethodCoded, InitBy, InitsCoded, ParentCoded, ConstructorCoded, DefaultCoded}
use Rattle.jr_sound_code.proofs.Finding.{ctor_of}
use Rattle.jr_sound_code.proofs.StatementsStand.{CleanExp, value_stands, args_stand, stmts_stand}

module _ (rows : List Row) (are : AreRows rows) (found : KeysAreFound rows) where
  -- ---- constructors of the superclass

  implicit_decided : (c : Context) → Decided (find_in (own_superclass rows c) (λ k. find_ctor_of rows (scope_of c) k [])) (FindsIn (IsSuperclass rows (scope_of c).class) (λ k f. FindsCtorOf rows (scope_of c) k [] f))
  implicit_decided c = in_iff (own_superclass rows c) (λ k. find_ctor_of rows (scope_of c) k []) (IsSuperclass rows (scope_of c).class) (λ k f. FindsCtorOf rows (scope_of c) k [] f) (own_super_iff rows are found c)
      (λ k. found.ctor_of (scope_of c) k [])

  implicit_key : (c : Context) (d : Decl) → FindsIn (IsSuperclass rows (scope_of c).class) (λ k f. FindsCtorOf rows (scope_of c) k [] f) (one d) → (q : CtorKey) × ImplicitFinds rows c q
  implicit_key c d (inl (k, over, finds)) =
      let q = ctor_of rows are (scope_of c) k [] d finds in
      (q.key, inl (k, over, subst (λ (z : Decl). FindsCtorOf rows (scope_of c) k [] (one z)) q.is finds))
  implicit_key c d (inr (not, is)) = absurd cc

  pub implicit_stands : (c : Context) → (LacksSuperCtor rows c → ⊥) → (q : CtorKey) × ImplicitFinds rows c q
  implicit_stands c has = by (find_in (own_superclass rows c) (λ k. find_ctor_of rows (scope_of c) k [])) refl
    where
      lacks : (f : Found) → find_in (own_superclass rows c) (λ k. find_ctor_of rows (scope_of c) k []) ≡ f → ((d : Decl) → f ≡ one d → ⊥) → ⊥
      lacks f is not = has (λ d finds. not d (sym is ∙ (implicit_decided c (one d)).1 finds))

      by : (f : Found) → find_in (own_superclass rows c) (λ k. find_ctor_of rows (scope_of c) k []) ≡ f → (q : CtorKey) × ImplicitFinds rows c q
      by (one d) is = implicit_key c d ((implicit_decided c (one d)).0 is)
      by nothing is = absurd (lacks nothing is (λ d e. cc))
      by (many x y) is = absurd (lacks (many x y) is (λ d e. cc))
      by (not_accessible x) is = absurd (lacks (not_accessible x) is (λ d e. cc))
      by (from_static x) is = absurd (lacks (from_static x) is (λ d e. cc))

  module _ {A : Type 0} where
    super_decided : (c : Context) (args : tree.Exps A) → Decided (find_in (own_superclass rows c) (λ k. find_for (types_of rows c args) (λ ts. find_ctor_of rows (scope_of c) k ts))) (SuperCtorFinds rows c args)
    super_decided c args = in_iff (own_superclass rows c) (λ k. find_for (types_of rows c args) (λ ts. find_ctor_of rows (scope_of c) k ts)) (IsSuperclass rows (scope_of c).class) _ (own_super_iff rows are found c)
        (λ k. ctors_iff rows are found c k (types_of rows c args) (HaveTypes rows c args) (types rows are found c args))

    super_key : (c : Context) (args : tree.Exps A) (d : Decl) → SuperCtorFinds rows c args (one d) → (q : CtorKey) × SuperCtorFinds rows c args (one (constructor_decl q))
    super_key c args d (inl (k, over, inl (ts, types, finds))) =
        let q = ctor_of rows are (scope_of c) k ts d finds in
        (q.key, subst (λ (z : Decl). SuperCtorFinds rows c args (one z)) q.is (inl (k, over, inl (ts, types, finds))))
    super_key c args d (inl (k, over, inr (not, is))) = absurd cc
    super_key c args d (inr (not, is)) = absurd cc

    no_static : (c : Context) (args : tree.Exps A) (d : Decl) → SuperCtorFinds rows c args (from_static d) → ⊥
    no_static c args d (inl (k, over, inl (ts, types, (number.FromStatic j, finds, shows)))) = finds
    no_static c args d (inl (k, over, inl (ts, types, (number.One j, finds, shows)))) = shows
    no_static c args d (inl (k, over, inl (ts, types, (number.Nothing, finds, shows)))) = shows
    no_static c args d (inl (k, over, inl (ts, types, (number.Many i j, finds, shows)))) = shows
    no_static c args d (inl (k, over, inl (ts, types, (number.NotAccessible j, finds, shows)))) = shows
    no_static c args d (inl (k, over, inr (not, is))) = absurd cc
    no_static c args d (inr (not, is)) = absurd cc

    pub super_stands : (c : Context) (args : tree.Exps A) → (SuperCtorFinds rows c args nothing → ⊥) → ((x y : Decl) → SuperCtorFinds rows c args (many x y) → ⊥) → ((x : Decl) → SuperCtorFinds rows c args (not_accessible x) → ⊥)
        → (q : CtorKey) × SuperCtorFinds rows c args (one (constructor_decl q))
    super_stands c args some few shown = by (find_in (own_superclass rows c) (λ k. find_for (types_of rows c args) (λ ts. find_ctor_of rows (scope_of c) k ts))) ((super_decided c args _).0 refl)
      where
        by : (f : Found) → SuperCtorFinds rows c args f → (q : CtorKey) × SuperCtorFinds rows c args (one (constructor_decl q))
        by (one d) h = super_key c args d h
        by nothing h = absurd (some h)
        by (many x y) h = absurd (few x y h)
        by (not_accessible x) h = absurd (shown x h)
        by (from_static x) h = absurd (no_static c args x h)

-- a member that breaks no rule
abbrev pub Sound : {A : Type 0} → (A → ℕ → ℕ) → List Row → (MemberKey → ℕ) → MemberKey → ℕ → Part A → Type 0
Sound begins rows super_at k b part = (at : ℕ) (r : Rule) → Breaks begins rows (super_at k) k b part at r → ⊥

module _ {A : Type 0} (begins : A → ℕ → ℕ) (rows : List Row) (super_at : MemberKey → ℕ) where
  abbrev pub SoundMember : MemberKey → ℕ → syntax.Member A → Type 0
  SoundMember k b x = Sound begins rows super_at k b (member_part x)

  -- each field of a class, by its key
  abbrev pub SoundFields : ClassKey → ℕ → syntax.Members A → Type 0
  SoundFields of b syntax.end = Unit {0}
  SoundFields of b (syntax.more (syntax.field m mods t w init) xs) = SoundMember (field (record { class = of; name = w.text })) b (syntax.field m mods t w init) × SoundFields of b xs
  SoundFields of b (syntax.more (syntax.method m mods t w ps body) xs) = SoundFields of b xs
  SoundFields of b (syntax.more (syntax.constructor m mods w ps args body) xs) = SoundFields of b xs
  SoundFields of b (syntax.more (syntax.inner m c) xs) = SoundFields of b xs

module _ {A : Type 0} (begins ends : A → ℕ → ℕ) (rows : List Row) (are : AreRows rows) (found : KeysAreFound rows) (super_at : MemberKey → ℕ) where
  pub method_stands : (k : MethodKey) (b : ℕ) (m : A) (mods : List (syntax.Modifier A)) (t : Option (tree.TypeName A)) (w : tree.Word A) (ps : List (syntax.Param A)) (body : statement.Stmts A) → StmtsShaped body
      → SoundMember begins rows super_at (method k) b (syntax.method m mods t w ps body) → (code : core.Method RunKeys) × MethodCoded begins ends rows super_at k b (syntax.method m mods t w ps body) code
  method_stands k b m mods t w ps body shaped sound =
      let z = stmts_stand begins ends rows are found (length ps) (with_parameters (method k) (is_static_member begins mods) ps) (begins m b) body shaped (λ at q h. sound at q (inr (inr h))) in
      (_, (z.0, z.1, refl))

  parent_stands : (k : CtorKey) (b : ℕ) (m : A) (mods : List (syntax.Modifier A)) (w : tree.Word A) (ps : List (syntax.Param A)) (args : Option (tree.Exps A)) (body : statement.Stmts A) → ShapedArgs args
      → SoundMember begins rows super_at (constructor k) b (syntax.constructor m mods w ps args body) → (name : Place) → (s : StatementCode) × ParentCoded begins ends rows super_at k (with_parameters (constructor k) true ps) (begins m b) name args s
  parent_stands k b m mods w ps None body shaped sound name =
      let q = implicit_stands rows are found (plain (constructor k) false) (λ lacks. sound _ rule.SuperCtor (inl (refl, lacks))) in
      (_, (q.0, q.1, refl))
  parent_stands k b m mods w ps (Some args) body shaped sound name =
      let c = with_parameters (constructor k) true ps in
      let q = super_stands rows are found c args (λ h. sound _ rule.NoMethod (inl (refl, h))) (λ x y h. sound _ rule.Ambiguous (inl (refl, (x, y, h)))) (λ x h. sound _ rule.Private (inl (x, inr (refl, h)))) in
      let row = args_stand begins ends rows are found c (begins m b) args shaped (λ at r h. sound at r (inr (inl h))) in
      (_, (q.0, row.0, q.1, row.1, refl))

  pub constructor_stands : (k : CtorKey) (b : ℕ) (inits : List StatementCode) (m : A) (mods : List (syntax.Modifier A)) (w : tree.Word A) (ps : List (syntax.Param A)) (args : Option (tree.Exps A)) (body : statement.Stmts A) → ShapedArgs args → StmtsShaped body
      → SoundMember begins rows super_at (constructor k) b (syntax.constructor m mods w ps args body) → (code : MemberCode) × ConstructorCoded begins ends rows super_at k b inits (syntax.constructor m mods w ps args body) code
  constructor_stands k b inits m mods w ps args body shaped_args shaped sound =
      let s = parent_stands k b m mods w ps args body shaped_args sound _ in
      let z = stmts_stand begins ends rows are found (length ps) (with_parameters (constructor k) false ps) (begins m b) body shaped (λ at q h. sound at q (inr (inr (inr h)))) in
      (_, (s.0, z.0, s.1, z.1, refl))

  pub default_stands : (of : ClassKey) (inits : List StatementCode) (b : ℕ) (m : A) (mods : List (syntax.Modifier A)) (w : tree.Word A) (t : Option (tree.TypeName A)) (ms : syntax.Members A) → writes_ctor begins ms ≡ false
      → Sound begins rows super_at (head of) b (class_part (syntax.class m mods w t ms)) → (code : MemberCode) × DefaultCoded begins ends rows super_at of inits code
  default_stands of inits b m mods w t ms none sound =
      let q = implicit_stands rows are found (plain (head of) false) (λ lacks. sound _ rule.SuperCtor (refl, none, lacks)) in
      (_, (q.0, q.1, refl))

  -- ---- initializers

  init_by : (is : Bool) (of : ClassKey) (b : ℕ) (m : A) (w : tree.Word A) (e : tree.Exp A) → Shaped e
      → CleanExp begins rows (plain (field (record { class = of; name = w.text })) is) value (begins m b) e → (ss : List StatementCode) × InitBy begins ends rows super_at is of b m w e ss
  init_by true of b m w e shaped clean = (_, refl)
  init_by false of b m w e shaped clean =
      let z = value_stands begins ends rows are found (plain (field (record { class = of; name = w.text })) false) (begins m b) e shaped clean in
      (_, (z.0, z.1, refl))

  pub inits_stand : (nested : Bool) (name : List ℕ) (of : ClassKey) (b : ℕ) (xs : syntax.Members A) → MembersShaped nested name xs → SoundFields begins rows super_at of b xs → (ss : List StatementCode) × InitsCoded begins ends rows super_at of b xs ss
  unfolding InitsCoded
  inits_stand nested name of b syntax.end shaped sound = (_, refl)
  inits_stand nested name of b (syntax.more (syntax.field m mods t w None) xs) shaped sound =
      let rest = inits_stand nested name of b xs shaped.1 sound.1 in (_, ([], rest.0, refl, rest.1, refl))
  inits_stand nested name of b (syntax.more (syntax.field m mods t w (Some e)) xs) shaped sound =
      let here = init_by (is_static_member begins mods) of b m w e shaped.0 (λ at q h. sound.0 at q (inr h)) in
      let rest = inits_stand nested name of b xs shaped.1 sound.1 in
      (_, (here.0, rest.0, here.1, rest.1, refl))
  inits_stand nested name of b (syntax.more (syntax.method m mods t w ps body) xs) shaped sound =
      let rest = inits_stand nested name of b xs shaped.1 sound in (_, ([], rest.0, refl, rest.1, refl))
  inits_stand nested name of b (syntax.more (syntax.constructor m mods w ps args body) xs) shaped sound =
      let rest = inits_stand nested name of b xs shaped.1 sound in (_, ([], rest.0, refl, rest.1, refl))
  inits_stand nested name of b (syntax.more (syntax.inner m c) xs) shaped sound =
      let rest = inits_stand nested name of b xs shaped.1 sound in (_, ([], rest.0, refl, rest.1, refl))
