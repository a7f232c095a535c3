-- Where no rule is broken, each reference finds one declaration, and each written type names its
-- classes.
use Rattle.std.proofs.Common.{◌≡◌, ℕ, List, [], ◌∷◌, Option, Some, None, Bool, true, false, refl, sym, subst, ◌∙◌, inl, inr}
use Rattle.std.specs.Prelude.{◌⊎◌}
use Rattle.jr_ast.specs.Tree as tree
use Rattle.jr_table.specs.declared.rules.Rule.{Rule}
use Rattle.jr_table.specs.declared.rules.Rule.TheVariants as rule
use Rattle.jr_table.specs.Rows.{Row}
use Rattle.jr_table.specs.Keys.{ClassKey, Ty}
use Rattle.jr_table.specs.Decls.{Decl, class_decl}
use Rattle.jr_table.specs.Found.{Found, one, nothing, many, not_accessible, from_static}
use Rattle.jr_table.specs.Scope.{Scope}
use Rattle.jr_table.specs.Lookup.{FindsTypeNamed, FindsTypeOf, find_type_named, find_type_of}
use Rattle.jr_table.specs.LookupLaws.{Decided, KeysAreFound}
use Rattle.jr_table.specs.BindingLaws.{IsBound}
use Rattle.jr_table.specs.Meanings.{type_of}
use Rattle.jr_table.specs.Context.{Context, scope_of}
use Rattle.jr_table.specs.Binding.{Role, Sought, variable, type, method, HaveTypes, Refers, TypeRefers, word_at}
use Rattle.jr_table.specs.Somewhere.{Somewhere, InRow}
use Rattle.jr_table.specs.ExpressionRules.{ExpBreaks, NamesObject}
use Rattle.jr_program_laws.specs.FoundTypes.{TypeIsFound}
use Rattle.jr_new_files.proofs.Namesakes.{found_type, found_inner, many_named, static_named, many_inner, static_inner}

abbrev pub IsOne : Found → Type 0
IsOne f = (d : Decl) × (f ≡ one d)

pub one_inside : (d e : Decl) → one d ≡ one e → d ≡ e
one_inside d e h = cc

-- what is found, where it is one declaration
pub the_one : (find : Found) (Finds : Found → Type 0) → Decided find Finds → ((f : Found) → Finds f → IsOne f) → (d : Decl) × Finds (one d)
the_one find Finds exact bound = let h = (exact find).0 refl in let o = bound find h in (o.0, subst Finds o.1 h)

module _ {A : Type 0} (begins : A → ℕ → ℕ) (rows : List Row) (c : Context) where
  -- no rule is broken in it
  abbrev pub Sound : Role → (base : ℕ) → tree.Exp A → Type 0
  Sound role base e = (at : ℕ) (r : Rule) → Somewhere begins (λ o b x. ExpBreaks begins rows c o b x at r) role base e → ⊥

  abbrev pub SoundRow : (at : ℕ) → tree.Exps A → Type 0
  SoundRow from es = (at : ℕ) (r : Rule) → InRow begins (λ o b x. ExpBreaks begins rows c o b x at r) from es → ⊥

  -- nor by itself
  abbrev pub SoundItself : Role → (base : ℕ) → tree.Exp A → Type 0
  SoundItself role base e = (at : ℕ) (r : Rule) → ExpBreaks begins rows c role base e at r → ⊥

  pub one_found : (role : Role) (base : ℕ) (e : tree.Exp A) → SoundItself role base e → (at : ℕ) (q : Sought) (f : Found) → Refers begins rows c role base e at q f → IsOne f
  one_found role base e none at q (one d) h = (d, refl)
  one_found role base e none at variable nothing h = absurd (none at rule.NoVariable (nothing, h, refl))
  one_found role base e none at type nothing h = absurd (none at rule.NoType (nothing, h, refl))
  one_found role base e none at method nothing h = absurd (none at rule.NoMethod (nothing, h, refl))
  one_found role base e none at q (many d x) h = absurd (none at rule.Ambiguous (q, (many d x, h, tt)))
  one_found role base e none at q (not_accessible d) h = absurd (none at rule.Private (q, (not_accessible d, h, tt)))
  one_found role base e none at q (from_static d) h = absurd (none at rule.StaticContext (inl (q, (from_static d, h, tt))))

  -- where `super` stands there is an object
  pub object_there : (role : Role) (base : ℕ) (e : tree.Exp A) (at : ℕ) → NamesObject begins rows c role base e at → SoundItself role base e → c.is_static ≡ false
  object_there role base e at names none = by c.is_static refl
    where
      by : (b : Bool) → c.is_static ≡ b → c.is_static ≡ false
      by true is = absurd (none at rule.StaticContext (inr (is, names)))
      by false is = is

-- ---- written types

module _ {A : Type 0} (rows : List Row) (s : Scope) where
  -- each name in the type finds a class
  abbrev pub TypeMeans : tree.TypeName A → Type 0
  TypeMeans (tree.int m) = Unit {0}
  TypeMeans (tree.boolean m) = Unit {0}
  TypeMeans (tree.named m None w) = (q : ClassKey) × FindsTypeNamed rows s w.text (one (class_decl q))
  TypeMeans (tree.named m (Some v) w) = (o : ClassKey) × (q : ClassKey) × FindsTypeNamed rows s v.text (one (class_decl o)) × FindsTypeOf rows s o w.text (one (class_decl q))

module _ {A : Type 0} (begins : A → ℕ → ℕ) (rows : List Row) (keys : KeysAreFound rows) (c : Context) (base : ℕ) where
  module _ (t : tree.TypeName A) (some : (at : ℕ) → TypeRefers begins rows c base t at nothing → ⊥) (seen : (at : ℕ) (d : Decl) → TypeRefers begins rows c base t at (not_accessible d) → ⊥) where
    class_there : (name : List ℕ) (at : ℕ) → ((f : Found) → FindsTypeNamed rows (scope_of c) name f → TypeRefers begins rows c base t at f) → (q : ClassKey) × FindsTypeNamed rows (scope_of c) name (one (class_decl q))
    class_there name at refers = by (find_type_named rows (scope_of c) name) ((keys.type_named (scope_of c) name (find_type_named rows (scope_of c) name)).0 refl)
      where
        by : (f : Found) → FindsTypeNamed rows (scope_of c) name f → (q : ClassKey) × FindsTypeNamed rows (scope_of c) name (one (class_decl q))
        by (one d) h = let q = found_type rows (scope_of c) name d h in (q.0, subst (λ x. FindsTypeNamed rows (scope_of c) name (one x)) q.1 h)
        by nothing h = absurd (some at (refers nothing h))
        by (many d e) h = absurd (many_named rows (scope_of c) name d e h)
        by (not_accessible d) h = absurd (seen at d (refers (not_accessible d) h))
        by (from_static d) h = absurd (static_named rows (scope_of c) name d h)

    inner_there : (o : ClassKey) (name : List ℕ) (at : ℕ) → ((f : Found) → FindsTypeOf rows (scope_of c) o name f → TypeRefers begins rows c base t at f) → (q : ClassKey) × FindsTypeOf rows (scope_of c) o name (one (class_decl q))
    inner_there o name at refers = by (find_type_of rows (scope_of c) o name) ((keys.type_of (scope_of c) o name (find_type_of rows (scope_of c) o name)).0 refl)
      where
        by : (f : Found) → FindsTypeOf rows (scope_of c) o name f → (q : ClassKey) × FindsTypeOf rows (scope_of c) o name (one (class_decl q))
        by (one d) h = let q = found_inner rows (scope_of c) o name d h in (q.0, subst (λ x. FindsTypeOf rows (scope_of c) o name (one x)) q.1 h)
        by nothing h = absurd (some at (refers nothing h))
        by (many d e) h = absurd (many_inner rows (scope_of c) o name d e h)
        by (not_accessible d) h = absurd (seen at d (refers (not_accessible d) h))
        by (from_static d) h = absurd (static_inner rows (scope_of c) o name d h)

  -- a type each of whose names finds something, which is accessible
  pub type_means : (t : tree.TypeName A) → ((at : ℕ) → TypeRefers begins rows c base t at nothing → ⊥) → ((at : ℕ) (d : Decl) → TypeRefers begins rows c base t at (not_accessible d) → ⊥) → TypeMeans rows (scope_of c) t
  type_means (tree.int m) some seen = tt
  type_means (tree.boolean m) some seen = tt
  type_means (tree.named m None w) some seen = class_there (tree.named m None w) some seen w.text (word_at begins m base w) (λ f h. (refl, h))
  type_means (tree.named m (Some v) w) some seen =
      let o = class_there (tree.named m (Some v) w) some seen v.text (word_at begins m base v) (λ f h. inl (refl, h)) in
      let q = inner_there (tree.named m (Some v) w) some seen o.0 w.text (word_at begins m base w) (λ f h. inr (refl, inl (o.0, o.1, h))) in
      (o.0, q.0, o.1, q.1)

  -- the same in an expression that refers to it
  pub type_within : (t : tree.TypeName A) → ((at : ℕ) (f : Found) → TypeRefers begins rows c base t at f → IsOne f) → TypeMeans rows (scope_of c) t
  type_within t bound = type_means t (λ at h. let o = bound at nothing h in absurd cc) (λ at d h. let o = bound at (not_accessible d) h in absurd cc)

-- a type whose names are found, and accessible
module _ {A : Type 0} (begins : A → ℕ → ℕ) (rows : List Row) (c : Context) (base : ℕ) where
  pub found_means : (t : tree.TypeName A) → TypeIsFound rows (scope_of c) t → ((at : ℕ) (d : _) → TypeRefers begins rows c base t at (not_accessible d) → ⊥) → TypeMeans rows (scope_of c) t
  found_means (tree.int m) found seen = tt
  found_means (tree.boolean m) found seen = tt
  found_means (tree.named m None w) (q, inl h) seen = (q, h)
  found_means (tree.named m None w) (q, inr h) seen = absurd (seen _ (class_decl q) (refl, h))
  found_means (tree.named m (Some v) w) (o, q, inl h, inl i) seen = (o, q, h, i)
  found_means (tree.named m (Some v) w) (o, q, inl h, inr i) seen = absurd (seen _ (class_decl q) (inr (refl, inl (o, h, i))))
  found_means (tree.named m (Some v) w) (o, q, inr h, i) seen = absurd (seen _ (class_decl o) (inl (refl, h)))

-- ---- arguments

-- arguments have types, or have none
module _ {A : Type 0} (rows : List Row) (c : Context) where
  abbrev pub AreTyped : tree.Exps A → Type 0
  AreTyped es = ((ts : List Ty) × HaveTypes rows c es ts) ⊎ ((ts : List Ty) → HaveTypes rows c es ts → ⊥)

  module _ (bound : IsBound A rows c) where
    untyped_rest : (e : tree.Exp A) (es : tree.Exps A) → ((us : List Ty) → HaveTypes rows c es us → ⊥) → (ts : List Ty) → HaveTypes rows c (tree.more e es) ts → ⊥
    unfolding HaveTypes
    untyped_rest e es never [] h = absurd h
    untyped_rest e es never (u ∷ us) h = never us h.1

    untyped_first : (e : tree.Exp A) (es : tree.Exps A) → type_of rows c e ≡ None → (ts : List Ty) → HaveTypes rows c (tree.more e es) ts → ⊥
    unfolding HaveTypes
    untyped_first e es is [] h = absurd h
    untyped_first e es is (u ∷ us) h = let p : None ≡ Some u = sym is ∙ (bound.types e u).1 h.0 in absurd cc

    more_typed : (e : tree.Exp A) (es : tree.Exps A) (o : Option Ty) → type_of rows c e ≡ o → AreTyped es → AreTyped (tree.more e es)
    unfolding HaveTypes
    more_typed e es (Some t) is (inl (ts, have)) = inl (t ∷ ts, ((bound.types e t).0 is, have))
    more_typed e es (Some t) is (inr never) = inr (untyped_rest e es never)
    more_typed e es None is rest = inr (untyped_first e es is)

    pub args_typed : (args : tree.Exps A) → AreTyped args
    unfolding HaveTypes
    args_typed tree.end = inl ([], refl)
    args_typed (tree.more e es) = more_typed e es (type_of rows c e) refl (args_typed es)
