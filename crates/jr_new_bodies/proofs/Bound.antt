-- Where nothing breaks a rule, each reference finds one declaration.
use Rattle.std.proofs.Common.{◌≡◌, ℕ, List, Option, Some, None, refl, ap, subst, inl, inr}
use Rattle.std.specs.Prelude.{◌⊎◌}
use Rattle.jr_ast.specs.Tree as tree
use Rattle.jr_table.specs.declared.rules.Rule.{Rule}
use Rattle.jr_table.specs.declared.rules.Rule.TheVariants as rule
use Rattle.jr_table.specs.Rows.{Row}
use Rattle.jr_table.specs.declared.answers.Answer.TheVariants as number
use Rattle.jr_table.specs.Keys.{ClassKey}
use Rattle.jr_table.specs.Decls.{Decl, class_decl}
use Rattle.jr_table.specs.Scope.{Scope}
use Rattle.jr_table.specs.Lookup.{FindsTypeNamed, FindsTypeOf}
use Rattle.jr_table.specs.Found.{Found, one, nothing, many, not_accessible, from_static}
use Rattle.jr_table.specs.Context.{Context, scope_of}
use Rattle.jr_table.specs.Binding.{Role, value, left, statement, Sought, variable, type, method, NameFinds, Refers, TypeRefers, FindsIn}
use Rattle.jr_table.specs.Somewhere.{Somewhere, InTarget, InRow}
use Rattle.jr_table.specs.ExpressionRules.{ExpBreaks}
use Rattle.jr_new_words.specs.Chosen.{unmarked}
use Rattle.jr_new_bodies.specs.Known.{SoundExp, IsOne, NameIsBound, DottedIsBound, SuperFieldIsBound, CallIsBound, SuperCallIsBound, CreationIsBound, TypeIsBound, NamedIsBound}

module _ {A : Type 0} (begins : A → ℕ → ℕ) (rows : List Row) (c : Context) where
  -- what an expression refers to itself
  one_found : (role : Role) (base : ℕ) (e : tree.Exp A) → ((at : ℕ) (r : Rule) → ExpBreaks begins rows c role base e at r → ⊥)
      → (at : ℕ) (q : Sought) (f : Found) → Refers begins rows c role base e at q f → IsOne f
  one_found role base e none at q (one d) h = (d, refl)
  one_found role base e none at variable nothing h = absurd (none at rule.NoVariable (nothing, h, refl))
  one_found role base e none at type nothing h = absurd (none at rule.NoType (nothing, h, refl))
  one_found role base e none at method nothing h = absurd (none at rule.NoMethod (nothing, h, refl))
  one_found role base e none at q (many d x) h = absurd (none at rule.Ambiguous (q, (many d x, h, tt)))
  one_found role base e none at q (not_accessible d) h = absurd (none at rule.Private (q, (not_accessible d, h, tt)))
  one_found role base e none at q (from_static d) h = absurd (none at rule.StaticContext (inl (q, (from_static d, h, tt))))

  to_marked : (role : Role) (name : List ℕ) (q : Sought) (f : Found) → NameFinds unmarked rows c role name q f → NameFinds begins rows c role name q f
  to_marked value name q f h = h
  to_marked left name q f h = h
  to_marked statement name q f h = h

  pub name_bound : (role : Role) (base : ℕ) (m : A) (w : tree.Word A) → SoundExp begins rows c role base (tree.name m w) → NameIsBound rows c role w.text
  unfolding Somewhere InTarget InRow
  name_bound role base m w sound = λ q f h. one_found role base (tree.name m w) (λ at r x. sound at r x) _ q f (refl, to_marked role w.text q f h)

  pub dotted_bound : (role : Role) (base : ℕ) (m : A) (e : tree.Exp A) (w : tree.Word A) → SoundExp begins rows c role base (tree.field m e w) → DottedIsBound begins rows c role e w.text
  unfolding Somewhere InTarget InRow
  dotted_bound role base m e w sound = λ q f h. one_found role base (tree.field m e w) (λ at r x. sound at r (inl x)) _ q f (refl, h)

  pub super_field_bound : (role : Role) (base : ℕ) (m : A) (w : tree.Word A) → SoundExp begins rows c role base (tree.super_field m w) → SuperFieldIsBound rows c w.text
  unfolding Somewhere InTarget InRow
  super_field_bound role base m w sound = λ f h. one_found role base (tree.super_field m w) (λ at r x. sound at r x) _ variable f (refl, refl, h)

  pub call_bound : (role : Role) (base : ℕ) (m : A) (to : tree.Target A) (w : tree.Word A) (args : tree.Exps A) → SoundExp begins rows c role base (tree.call m to w args) → CallIsBound begins rows c to w.text args
  unfolding Somewhere InTarget InRow
  call_bound role base m to w args sound = λ f h. one_found role base (tree.call m to w args) (λ at r x. sound at r (inl x)) _ method f (refl, refl, h)

  pub super_call_bound : (role : Role) (base : ℕ) (m : A) (w : tree.Word A) (args : tree.Exps A) → SoundExp begins rows c role base (tree.super_call m w args) → SuperCallIsBound begins rows c w.text args
  unfolding Somewhere InTarget InRow
  super_call_bound role base m w args sound = λ f h. one_found role base (tree.super_call m w args) (λ at r x. sound at r (inl x)) _ method f (refl, refl, h)

  pub creation_bound : (role : Role) (base : ℕ) (m : A) (t : tree.TypeName A) (args : tree.Exps A) → SoundExp begins rows c role base (tree.create m t args) → CreationIsBound begins rows c t args
  unfolding Somewhere InTarget InRow
  creation_bound role base m t args sound = λ f h. one_found role base (tree.create m t args) (λ at r x. sound at r (inl x)) _ method f (inl (refl, refl, h))

  pub created_type_bound : (role : Role) (base : ℕ) (m : A) (t : tree.TypeName A) (args : tree.Exps A) → SoundExp begins rows c role base (tree.create m t args) → TypeIsBound begins rows c (begins m base) t
  unfolding Somewhere InTarget InRow
  created_type_bound role base m t args sound = λ at f h. one_found role base (tree.create m t args) (λ at r x. sound at r (inl x)) at type f (inr (refl, h))

  pub cast_bound : (role : Role) (base : ℕ) (m : A) (t : tree.TypeName A) (e : tree.Exp A) → SoundExp begins rows c role base (tree.cast m t e) → TypeIsBound begins rows c (begins m base) t
  unfolding Somewhere InTarget InRow
  cast_bound role base m t e sound = λ at f h. one_found role base (tree.cast m t e) (λ at r x. sound at r (inl x)) at type f (refl, h)

  pub literal_bound : (role : Role) (base : ℕ) (m : A) (t : tree.TypeName A) → SoundExp begins rows c role base (tree.class_literal m t) → TypeIsBound begins rows c (begins m base) t
  unfolding Somewhere InTarget InRow
  literal_bound role base m t sound = λ at f h. one_found role base (tree.class_literal m t) (λ at r x. sound at r x) at type f (refl, h)

-- ---- written types

module _ (rows : List Row) (s : Scope) where
  many_named : (name : List ℕ) (d e : Decl) → FindsTypeNamed rows s name (many d e) → ⊥
  many_named name d e (number.Many i j, finds, shows) = absurd finds
  many_named name d e (number.One j, finds, shows) = absurd shows
  many_named name d e (number.Nothing, finds, shows) = absurd shows
  many_named name d e (number.NotAccessible j, finds, shows) = absurd shows
  many_named name d e (number.FromStatic j, finds, shows) = absurd shows

  static_named : (name : List ℕ) (d : Decl) → FindsTypeNamed rows s name (from_static d) → ⊥
  static_named name d (number.FromStatic j, finds, shows) = absurd finds
  static_named name d (number.One j, finds, shows) = absurd shows
  static_named name d (number.Nothing, finds, shows) = absurd shows
  static_named name d (number.NotAccessible j, finds, shows) = absurd shows
  static_named name d (number.Many i j, finds, shows) = absurd shows

  many_inner : (of : ClassKey) (name : List ℕ) (d e : Decl) → FindsTypeOf rows s of name (many d e) → ⊥
  many_inner of name d e (number.Many i j, finds, shows) = absurd finds
  many_inner of name d e (number.One j, finds, shows) = absurd shows
  many_inner of name d e (number.Nothing, finds, shows) = absurd shows
  many_inner of name d e (number.NotAccessible j, finds, shows) = absurd shows
  many_inner of name d e (number.FromStatic j, finds, shows) = absurd shows

  static_inner : (of : ClassKey) (name : List ℕ) (d : Decl) → FindsTypeOf rows s of name (from_static d) → ⊥
  static_inner of name d (number.FromStatic j, finds, shows) = absurd finds
  static_inner of name d (number.One j, finds, shows) = absurd shows
  static_inner of name d (number.Nothing, finds, shows) = absurd shows
  static_inner of name d (number.NotAccessible j, finds, shows) = absurd shows
  static_inner of name d (number.Many i j, finds, shows) = absurd shows

module _ {A : Type 0} (begins : A → ℕ → ℕ) (rows : List Row) (c : Context) (base : ℕ) where
  abbrev Inner : (outer name : List ℕ) → Found → Type 0
  Inner outer name f = FindsIn (λ k. FindsTypeNamed rows (scope_of c) outer (one (class_decl k))) (λ k g. FindsTypeOf rows (scope_of c) k name g) f

  never_many : (t : tree.TypeName A) (at : ℕ) (d e : Decl) → TypeRefers begins rows c base t at (many d e) → ⊥
  never_many (tree.int m) at d e h = absurd h
  never_many (tree.boolean m) at d e h = absurd h
  never_many (tree.named m None w) at d e h = many_named rows (scope_of c) w.text d e h.1
  never_many (tree.named m (Some v) w) at d e (inl h) = many_named rows (scope_of c) v.text d e h.1
  never_many (tree.named m (Some v) w) at d e (inr h) = by h.1
    where
      by : Inner v.text w.text (many d e) → ⊥
      by (inl (k, is, finds)) = many_inner rows (scope_of c) k w.text d e finds
      by (inr (lacks, is)) = absurd cc

  never_static : (t : tree.TypeName A) (at : ℕ) (d : Decl) → TypeRefers begins rows c base t at (from_static d) → ⊥
  never_static (tree.int m) at d h = absurd h
  never_static (tree.boolean m) at d h = absurd h
  never_static (tree.named m None w) at d h = static_named rows (scope_of c) w.text d h.1
  never_static (tree.named m (Some v) w) at d (inl h) = static_named rows (scope_of c) v.text d h.1
  never_static (tree.named m (Some v) w) at d (inr h) = by h.1
    where
      by : Inner v.text w.text (from_static d) → ⊥
      by (inl (k, is, finds)) = static_inner rows (scope_of c) k w.text d finds
      by (inr (lacks, is)) = absurd cc

  -- a type of which each name finds something that is accessible
  pub type_bound : (t : tree.TypeName A) → ((at : ℕ) → TypeRefers begins rows c base t at nothing → ⊥) → ((at : ℕ) (d : Decl) → TypeRefers begins rows c base t at (not_accessible d) → ⊥) → TypeIsBound begins rows c base t
  type_bound t some open_to = λ at f h. by at f h
    where
      by : (at : ℕ) (f : Found) → TypeRefers begins rows c base t at f → IsOne f
      by at (one d) h = (d, refl)
      by at nothing h = absurd (some at h)
      by at (many d e) h = absurd (never_many t at d e h)
      by at (not_accessible d) h = absurd (open_to at d h)
      by at (from_static d) h = absurd (never_static t at d h)

  -- its names
  pub named_bound : (m : A) (outer : Option (tree.Word A)) (w : tree.Word A) → TypeIsBound begins rows c base (tree.named m outer w) → NamedIsBound rows c outer w
  named_bound m None w bound = λ f h. bound _ f (refl, h)
  named_bound m (Some v) w bound = ((λ f h. bound _ f (inl (refl, h))), (λ f h. bound _ f (inr (refl, h))))
