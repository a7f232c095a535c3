-- What static fields begin with in one file of top-level classes, computed. `new Object()` is not.
use Rattle.std.proofs.lemmas.Bool.{and_parts}
use Rattle.std.proofs.Common.{◌≡◌, ℕ, List, [], ◌∷◌, Option, Some, None, Bool, true, false, pos, cond, ◌&&◌, refl, sym, ap, subst, ◌∙◌}
use Rattle.std.specs.Prelude.{neg_ℤ, unwrap_or, slice_get, option_and_then}
use Rattle.std.specs.List.{list_any}
use Rattle.jr_ast.specs.declared.operators.UnOp.{UnOp}
use Rattle.jr_ast.specs.declared.operators.UnOp.TheVariants.{Plus, Minus, Not}
use Rattle.jr_ast.specs.Tree as tree
use Rattle.jr_ast.specs.MemberTree as syntax
use Rattle.jr_runs.specs.Values.{Value, int, truth, null, text}
use Rattle.jr_runs.specs.Arithmetic.{wrapped}
use Rattle.jr_runs.specs.FirstValues.{First, gives, makes, default_of}
use Rattle.jr_runs.specs.Rows as core
use Rattle.jr_runs.specs.Translation.{unescaped}
use Rattle.jr_table.specs.Keys.{ClassKey, FieldKey}
use Rattle.jr_table.specs.SameKeys.{same_field, field_decides}
use Rattle.jr_table.specs.Decls.{field_decl}
use Rattle.jr_table.specs.Rows.{Row}
use Rattle.jr_table.specs.Entries.{number_of, is_static_word}
use Rattle.jr_table.specs.DeclaredItems.{class_key}
use Rattle.jr_table.specs.HeadRules.{is_static_member}
use Rattle.jr_table.specs.Meanings.{row_of}
use Rattle.jr_table.proofs.RowLaws.{number_stands}
use Rattle.jr_code.specs.RunKeys.{RunKeys}
use Rattle.jr_code.specs.CodedFields.{UnitsFirsts, HasFirst, AreFirstValues}

abbrev V : Type 0
V = Value RunKeys

-- ---- an initializer's value

module _ {A : Type 0} where
  abbrev negated : tree.Exp A → Option V
  negated (tree.number m n) = Some (int (wrapped (neg_ℤ (pos n))))
  negated _ = None

  abbrev signed : UnOp → tree.Exp A → Option V
  signed Minus e = negated e
  signed Plus e = None
  signed Not e = None

  abbrev value_of : tree.Exp A → Option V
  value_of (tree.number m n) = Some (int (wrapped (pos n)))
  value_of (tree.truth m b) = Some (truth b)
  value_of (tree.null m) = Some null
  value_of (tree.string m s) = Some (text (unescaped false s))
  value_of (tree.unary m sign e) = signed sign e
  value_of _ = None

abbrev Valued : Type 0
Valued = FieldKey × V

-- the first of the key
abbrev value_in : List Valued → FieldKey → V → V
value_in [] k default = default
value_in (e ∷ es) k default = cond (same_field e.0 k) e.1 (value_in es k default)

module _ {A : Type 0} (begins : A → ℕ → ℕ) where
  abbrev if_static : Bool → FieldKey → tree.Exp A → List Valued → List Valued
  if_static true k e rest = (k, unwrap_or (value_of e) null) ∷ rest
  if_static false k e rest = rest

  abbrev member_values : ClassKey → syntax.Member A → List Valued → List Valued
  member_values of (syntax.field m mods t w (Some e)) rest = if_static (is_static_member begins mods) (record { class = of; name = w.text }) e rest
  member_values of _ rest = rest

  abbrev members_values : ClassKey → syntax.Members A → List Valued → List Valued
  members_values of syntax.end rest = rest
  members_values of (syntax.more x xs) rest = member_values of x (members_values of xs rest)

  abbrev pub classes_values : List (syntax.Class A) → List Valued
  classes_values [] = []
  classes_values (syntax.class m mods w t ms ∷ cs) = members_values (class_key begins None w.text) ms (classes_values cs)

-- ---- each is a static field with an initializer

abbrev begins_so : Option Row → Bool
begins_so None = false
begins_so (Some r) = list_any is_static_word r.modifiers && r.has_init

module _ (rows : List Row) where
  abbrev pub values_declared : List Valued → Bool
  values_declared [] = true
  values_declared (e ∷ es) = begins_so (row_of rows (field_decl e.0)) && values_declared es

  has_first : (k : FieldKey) → begins_so (row_of rows (field_decl k)) ≡ true → HasFirst rows k
  unfolding row_of
  has_first k e = by (number_of rows (field_decl k)) refl e
    where
      by : (o : Option ℕ) → number_of rows (field_decl k) ≡ o → begins_so (option_and_then (λ j. slice_get rows j) o) ≡ true → HasFirst rows k
      by None is h = absurd cc
      by (Some j) is h =
          let i = number_stands rows (field_decl k) j is in
          let t = and_parts (list_any is_static_word i.row.modifiers) i.row.has_init (sym (ap begins_so i.stands) ∙ h) in
          record { number = j; row = i; static = (j, i, t.0); init = t.1 }

  no_value : (es : List Valued) → values_declared es ≡ true → (k : FieldKey) (default : V) → (HasFirst rows k → ⊥) → value_in es k default ≡ default
  no_value [] all k default never = refl
  no_value (e ∷ es) all k default never = by (same_field e.0 k) refl (no_value es (and_parts (begins_so (row_of rows (field_decl e.0))) (values_declared es) all).1 k default never)
    where
      by : (b : Bool) → same_field e.0 k ≡ b → value_in es k default ≡ default → cond b e.1 (value_in es k default) ≡ default
      by false is rest = rest
      by true is rest = absurd (never (subst (λ (j : FieldKey). HasFirst rows j) ((field_decides e.0 k).0 is) (has_first e.0 (and_parts (begins_so (row_of rows (field_decl e.0))) (values_declared es) all).0)))

module _ {A : Type 0} (begins : A → ℕ → ℕ) (rows : List Row) (R : core.Rows RunKeys) (u : syntax.Unit A) where
  abbrev pub first : FieldKey → First RunKeys
  first k = gives (value_in (classes_values begins u.classes) k (default_of (R.field_type k)))

  pub gives_all : (k : FieldKey) (c : ClassKey) → first k ≡ makes c → ⊥
  gives_all k c e = cc

  pub are_first : values_declared rows (classes_values begins u.classes) ≡ true → UnitsFirsts begins first (u ∷ []) → AreFirstValues begins rows (u ∷ []) R first
  are_first declared is = record { initializers = is; default = λ k never. ap gives (no_value rows (classes_values begins u.classes) declared k (default_of (R.field_type k)) never) }
