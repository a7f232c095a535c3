-- What a name finds that breaks no rule: one declaration, at its word.
use Rattle.std.proofs.Common.{◌≡◌, inl, inr, ℕ, List, refl, sym, ap, ◌∙◌}
use Rattle.std.proofs.lemmas.Option.{same_Some}
use Rattle.jr_ast.specs.Tree as tree
use Rattle.jr_table.specs.declared.answers.Answer.TheVariants as number
use Rattle.jr_table.specs.declared.entries.Entry.{Entry}
use Rattle.jr_table.specs.declared.entries.Sort.TheVariants as sort
use Rattle.jr_table.specs.Decls.{Decl, LocalKey, class_decl, field_decl, method_decl, constructor_decl, local_decl}
use Rattle.jr_table.specs.Rows.{Row}
use Rattle.jr_table.specs.Entries.{entries_of, top_class, sort_of}
use Rattle.jr_table.specs.Found.{Found, one, nothing, many, not_accessible, from_static}
use Rattle.jr_table.specs.Scope.{Scope}
use Rattle.jr_table.specs.Members.{DeclaresType}
use Rattle.jr_table.specs.Lookup.{FindsVariable, FindsTypeNamed, FindsLeft, find_variable, find_type_named}
use Rattle.jr_table.specs.LookupLaws.{KeysAreFound}
use Rattle.jr_table.specs.Context.{Context, scope_of}
use Rattle.jr_table.specs.Binding.{Role, value, left, Sought, variable, type, word_at, NameFinds, Refers, BindsItself}
use Rattle.jr_table.specs.Binding as role
use Rattle.jr_table.specs.ExpressionRules.{ExpBreaks}
use Rattle.jr_table.specs.declared.rules.Rule.{Rule}
use Rattle.jr_table.specs.declared.rules.Rule.TheVariants as rule
use Rattle.jr_table.proofs.RowLaws.{row_at}
use Rattle.jr_table.proofs.Border.{member_declares}

not_nothing : (d : Decl) → (let o : Found = one d in o ≡ nothing) → ⊥
not_nothing d e = cc

-- ---- no class is a local

no_local : (d : Decl) (k : LocalKey) → sort_of d ≡ sort.Class → d ≡ local_decl k → ⊥
no_local (class_decl c) k s e = cc
no_local (field_decl c) k s e = cc
no_local (method_decl c) k s e = cc
no_local (constructor_decl c) k s e = cc
no_local (local_decl c) k s e = cc

module _ (rows : List Row) where
  type_no_local : (s : Scope) (name : List ℕ) (k : LocalKey) → FindsTypeNamed rows s name (one (local_decl k)) → ⊥
  type_no_local s name k (number.One j, inl (e, inner, member), shows) =
      let o = member_declares (entries_of rows) (DeclaresType (entries_of rows) name) member.chain j member.among in
      let r = row_at rows j o.1.row o.1.stands in
      no_local r.row.decl k (sym (ap (λ (x : Entry). x.sort) r.is) ∙ o.1.type) (ap (λ (x : Row). x.decl) (same_Some r.row shows.row (sym r.stands ∙ shows.stands)) ∙ shows.declares)
  type_no_local s name k (number.One j, inr (none, is), shows) =
      no_local (top_class name) k refl (sym is.declares ∙ ap (λ (x : Row). x.decl) (same_Some is.row shows.row (sym is.stands ∙ shows.stands)) ∙ shows.declares)
  type_no_local s name k (number.Nothing, finds, shows) = shows
  type_no_local s name k (number.Many i j, finds, shows) = shows
  type_no_local s name k (number.NotAccessible j, finds, shows) = shows
  type_no_local s name k (number.FromStatic j, finds, shows) = shows

module _ {A : Type 0} (begins : A → ℕ → ℕ) (rows : List Row) (c : Context) (base : ℕ) (m : A) (w : tree.Word A) where
  abbrev at : ℕ
  at = word_at begins m base w

  abbrev name : tree.Exp A
  name = tree.name m w

  abbrev IsCalm : Role → Type 0
  IsCalm r = (n : ℕ) (k : Rule) → ExpBreaks begins rows c r base name n k → ⊥

  -- the reference finds one declaration
  abbrev FindsOne : Role → Type 0
  FindsOne r = (d : Decl) × BindsItself begins rows c r base name at d

  as_variable : (r : Role) → IsCalm r → (f : Found) → Refers begins rows c r base name at variable f → FindsOne r
  as_variable r calm (one d) h = (d, (variable, h))
  as_variable r calm nothing h = absurd (calm at rule.NoVariable (nothing, h, refl))
  as_variable r calm (many d e) h = absurd (calm at rule.Ambiguous (variable, (many d e, h, tt)))
  as_variable r calm (not_accessible d) h = absurd (calm at rule.Private (variable, (not_accessible d, h, tt)))
  as_variable r calm (from_static d) h = absurd (calm at rule.StaticContext (inl (variable, (from_static d, h, tt))))

  as_type : (r : Role) → IsCalm r → (f : Found) → Refers begins rows c r base name at type f → FindsOne r
  as_type r calm (one d) h = (d, (type, h))
  as_type r calm nothing h = absurd (calm at rule.NoType (nothing, h, refl))
  as_type r calm (many d e) h = absurd (calm at rule.Ambiguous (type, (many d e, h, tt)))
  as_type r calm (not_accessible d) h = absurd (calm at rule.Private (type, (not_accessible d, h, tt)))
  as_type r calm (from_static d) h = absurd (calm at rule.StaticContext (inl (type, (from_static d, h, tt))))

  module _ (found : KeysAreFound rows) where
    some_variable : FindsVariable rows (scope_of c) w.text (find_variable rows (scope_of c) w.text)
    some_variable = (found.variable (scope_of c) w.text (find_variable rows (scope_of c) w.text)).0 refl

    some_type : FindsTypeNamed rows (scope_of c) w.text (find_type_named rows (scope_of c) w.text)
    some_type = (found.type_named (scope_of c) w.text (find_type_named rows (scope_of c) w.text)).0 refl

    some_left : (f : Found) → FindsVariable rows (scope_of c) w.text f → (g : Found) × FindsLeft rows (scope_of c) w.text g
    some_left (one d) h = (one d, inl (h, not_nothing d))
    some_left nothing h = (find_type_named rows (scope_of c) w.text, inr (h, some_type))
    some_left (many d e) h = (many d e, inl (h, λ e. cc))
    some_left (not_accessible d) h = (not_accessible d, inl (h, λ e. cc))
    some_left (from_static d) h = (from_static d, inl (h, λ e. cc))

    pub finds_one : (r : Role) → IsCalm r → FindsOne r
    finds_one value calm = as_variable value calm (find_variable rows (scope_of c) w.text) (refl, (refl, some_variable))
    finds_one role.statement calm = as_variable role.statement calm (find_variable rows (scope_of c) w.text) (refl, (refl, some_variable))
    finds_one left calm = (let g = some_left (find_variable rows (scope_of c) w.text) some_variable in as_type left calm g.0 (refl, (refl, g.1)))

  pub binds_local : (r : Role) (k : LocalKey) → FindsVariable rows (scope_of c) w.text (one (local_decl k)) → BindsItself begins rows c r base name at (local_decl k)
  binds_local value k h = (variable, (refl, (refl, h)))
  binds_local role.statement k h = (variable, (refl, (refl, h)))
  binds_local left k h = (type, (refl, (refl, inl (h, not_nothing (local_decl k)))))

  pub local_bound : (r : Role) (k : LocalKey) → BindsItself begins rows c r base name at (local_decl k) → FindsVariable rows (scope_of c) w.text (one (local_decl k))
  local_bound value k (q, (place, (sort, h))) = h
  local_bound role.statement k (q, (place, (sort, h))) = h
  local_bound left k (q, (place, (sort, inl h))) = h.0
  local_bound left k (q, (place, (sort, inr h))) = absurd (type_no_local rows (scope_of c) w.text k h.1)
