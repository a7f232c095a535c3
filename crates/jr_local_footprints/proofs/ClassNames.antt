-- In front of a dot, what binding has as a class at an expression's word is a class's name; and in a
-- class's name stand class's names alone (JLS 6.5.2).
use Rattle.std.proofs.Common.{◌≡◌, ◌⊎◌, inl, inr, ℕ, ◌+◌, ◌-◌, ◌≤◌, Bool, true, false, List, Option, Some, None, refl, sym, ap, subst, ◌∙◌, arith}
use Rattle.std.proofs.lemmas.Option.{none-some, same_Some}
use Rattle.jr_text.specs.declared.spans.Span.{Span}
use Rattle.jr_ast.specs.Tree as tree
use Rattle.jr_grammar.specs.Layout.{itself}
use Rattle.jr_table.specs.Keys.{ClassKey}
use Rattle.jr_table.specs.Decls.{Decl, class_decl}
use Rattle.jr_table.specs.Rows.{Row}
use Rattle.jr_table.specs.Found.{Found, one, nothing, many, not_accessible, from_static}
use Rattle.jr_table.specs.Scope.{Scope}
use Rattle.jr_table.specs.Lookup.{FindsTypeOf, FindsFieldIn, FindsLeftOf, find_field_in, find_type_of}
use Rattle.jr_table.specs.LookupLaws.{KeysAreFound, KeysFound}
use Rattle.jr_table.specs.Context.{Context, scope_of}
use Rattle.jr_table.specs.Binding.{HasType, IsClassName, TargetFinds, HaveTypes, FieldFinds, Role, left, Sought, variable, type, method, Refers, BindsItself}
use Rattle.jr_table.specs.BindingLaws.{IsBound, AreBound}
use Rattle.jr_table.specs.Meanings.{class_name_of, class_on, field_found}
use Rattle.jr_table.specs.ExpressionRules.{ExpBreaks}
use Rattle.jr_table.specs.Errors.{Binds, Breaks, part_mark}
use Rattle.jr_table.specs.declared.rules.Rule.{Rule}
use Rattle.jr_table.specs.declared.rules.Rule.TheVariants as rule
use Rattle.jr_members.specs.WrittenLaws.{MembersAreWritten}
use Rattle.jr_bind.specs.Bounds.{decl_in}
use Rattle.jr_bind.specs.Programs.{Program, IsProgram}
use Rattle.jr_program_laws.specs.PlaceLaws.{PartsArePlaced}
use Rattle.jr_pieces.specs.Ways.{ExpWay, here, in_front, in_target, in_argument, in_super_argument, in_created, in_paren, in_cast, in_unary, in_bump, in_left, in_right, in_assigned, in_value, in_changed, in_change, ListWay}
use Rattle.jr_pieces.specs.Standings.{Standing, at_list}
use Rattle.jr_way_places.specs.PlacedWays.{list_role, WaysAreWalked}
use Rattle.jr_way_places.proofs.Valued.{no_field_in}
use Rattle.jr_bodies.proofs.Typed.{is_bound}
use Rattle.jr_local_names.proofs.Finding.{finds_one}
use Rattle.jr_local_names.proofs.Parts.{part_binds, part_breaks, starts_there}
use Rattle.jr_local_names.proofs.NamesBound as names
use Rattle.jr_local.specs.Bodies.{begins, Body, HasBody}

not_nothing : (d : Decl) → (let o : Found = one d in o ≡ nothing) → ⊥
not_nothing d e = cc

-- ---- in a class's name

module _ (rows : List Row) (c : Context) where
  -- What a way leads to from a class's name is one.
  pub class_within : (f e : tree.Exp Span) (d : ExpWay f e) (k : ClassKey) → IsClassName rows c e k → (o : ClassKey) × IsClassName rows c f o
  unfolding HasType IsClassName TargetFinds HaveTypes
  class_within f _ here k h = (k, h)
  class_within f _ (in_front m e w d) k h = class_within f e d h.0 h.1
  class_within f _ (in_target m e w es d) k h = absurd h
  class_within f _ (in_argument m t w es d) k h = absurd h
  class_within f _ (in_super_argument m w es d) k h = absurd h
  class_within f _ (in_created m t es d) k h = absurd h
  class_within f _ (in_paren m e d) k h = absurd h
  class_within f _ (in_cast m t e d) k h = absurd h
  class_within f _ (in_unary m o e d) k h = absurd h
  class_within f _ (in_bump m o e d) k h = absurd h
  class_within f _ (in_left m o x y d) k h = absurd h
  class_within f _ (in_right m o x y d) k h = absurd h
  class_within f _ (in_assigned m x y d) k h = absurd h
  class_within f _ (in_value m x y d) k h = absurd h
  class_within f _ (in_changed m o x y d) k h = absurd h
  class_within f _ (in_change m o x y d) k h = absurd h

-- ---- what a field in front of a dot finds that breaks no rule

module _ (rows : List Row) (c : Context) (base : ℕ) (m : Span) (e : tree.Exp Span) (w : tree.Word Span) where
  abbrev dotted : tree.Exp Span
  dotted = tree.field m e w

  abbrev IsCalm : Type 0
  IsCalm = (n : ℕ) (k : Rule) → ExpBreaks begins rows c left base dotted n k → ⊥

  nothing_there : IsCalm → (q : Sought) → Refers begins rows c left base dotted w.mark.from q nothing → ⊥
  nothing_there calm variable h = calm w.mark.from rule.NoVariable (nothing, h, refl)
  nothing_there calm type h = calm w.mark.from rule.NoType (nothing, h, refl)
  nothing_there calm method h = calm w.mark.from rule.NoMethod (nothing, h, refl)

  one_there : IsCalm → (q : Sought) (f : Found) → Refers begins rows c left base dotted w.mark.from q f → (d : Decl) × BindsItself begins rows c left base dotted w.mark.from d
  one_there calm q (one d) h = (d, (q, h))
  one_there calm q nothing h = absurd (nothing_there calm q h)
  one_there calm q (many d g) h = absurd (calm w.mark.from rule.Ambiguous (q, (many d g, h, tt)))
  one_there calm q (not_accessible d) h = absurd (calm w.mark.from rule.Private (q, (not_accessible d, h, tt)))
  one_there calm q (from_static d) h = absurd (calm w.mark.from rule.StaticContext (inl (q, (from_static d, h, tt))))

  module _ (found : KeysAreFound rows) (bound : IsBound Span rows c) where
    class_or_not : ((k : ClassKey) × IsClassName rows c e k) ⊎ ((k : ClassKey) → IsClassName rows c e k → ⊥)
    class_or_not = by (class_name_of rows c e) refl
      where
        by : (o : Option ClassKey) → class_name_of rows c e ≡ o → ((k : ClassKey) × IsClassName rows c e k) ⊎ ((k : ClassKey) → IsClassName rows c e k → ⊥)
        by (Some k) is = inl (k, (bound.names e k).0 is)
        by None is = inr (λ k h. none-some k (sym is ∙ (bound.names e k).1 h))

    some_left : (o : ClassKey) (f : Found) → FindsFieldIn rows (scope_of c) o w.text f → (g : Found) × FindsLeftOf rows (scope_of c) o w.text g
    some_left o (one d) h = (one d, inl (h, not_nothing d))
    some_left o nothing h = (find_type_of rows (scope_of c) o w.text, inr (h, (found.type_of (scope_of c) o w.text (find_type_of rows (scope_of c) o w.text)).0 refl))
    some_left o (many d g) h = (many d g, inl (h, λ i. cc))
    some_left o (not_accessible d) h = (not_accessible d, inl (h, λ i. cc))
    some_left o (from_static d) h = (from_static d, inl (h, λ i. cc))

    -- it is bound to one declaration
    pub field_one : IsCalm → (d : Decl) × BindsItself begins rows c left base dotted w.mark.from d
    field_one calm = elim class_or_not [
      | inl (o, is) ↦ (
          let g = some_left o (find_field_in rows (scope_of c) o w.text) ((found.field_in (scope_of c) o w.text (find_field_in rows (scope_of c) o w.text)).0 refl) in
          one_there calm type g.0 (refl, inl (o, is, refl, g.1))
          )
      | inr none ↦ (
          let f = field_found rows c (class_on rows c e) w.text in
          one_there calm variable f (refl, inr (none, refl, (bound.fields e w.text f).0 refl))
          )
    ]

  -- and if that is a class, the expression is its name
  pub field_class : (k : ClassKey) → BindsItself begins rows c left base dotted w.mark.from (class_decl k) → IsClassName rows c dotted k
  unfolding HasType IsClassName TargetFinds HaveTypes
  field_class k (q, (at, inl (o, is, sort, finds))) = (o, is, finds)
  field_class k (q, (at, inr (none, sort, inl (o, on, finds)))) = absurd (no_field_in rows (scope_of c) o w.text k finds)
  field_class k (q, (at, inr (none, sort, inr (neither, is)))) = absurd (not_nothing (class_decl k) is)

  pub name_class : (k : ClassKey) (n : Span) (v : tree.Word Span) → BindsItself begins rows c left base (tree.name n v) v.mark.from (class_decl k) → IsClassName rows c (tree.name n v) k
  unfolding HasType IsClassName TargetFinds HaveTypes
  name_class k n v (q, (at, (sort, finds))) = finds

-- ---- in a body

module _ (written : MembersAreWritten Span) (placed : PartsArePlaced) (walked : WaysAreWalked Span) (found : KeysFound) (are_bound : AreBound Span)
    (p : Program Span) (program : IsProgram itself (λ m b. Unit {0}) p) (file : ℕ) (b : Body) (h : HasBody p file b) where
  abbrev there : {x : tree.Exp Span} → ListWay x b.list → Standing
  there d = at_list begins b.at d

  module _ (x : tree.Exp Span) (d : ListWay x b.list) where
    abbrev c : Context
    c = (there d).context

    abbrev base : ℕ
    base = (there d).base

    x_calm : (n : ℕ) (k : Rule) → ExpBreaks begins p.rows c (list_role d) base x n k → ⊥
    x_calm n k breaks =
        let w = h.member in
        let all = part_breaks p.rows (p.super_at w.key) n w.key w.base w.part k b.bound b h.is ((walked begins p.rows x b.list b.at d).breaks n k breaks) in
        let le = (names.places written placed p program file b h).breaks_within n k all in
        let place : (part_mark w.part).from + (n - (part_mark w.part).from) ≡ n = omega (arith, le) in
        names.calm written placed p program file b h (n - (part_mark w.part).from) k (subst (λ (i : ℕ). Breaks begins p.rows (p.super_at w.key) w.key w.base w.part i k) (sym place) all)

    -- what the expression binds, binding has there
    x_bound : (at : ℕ) (e : Decl) → BindsItself begins p.rows c (list_role d) base x at e → decl_in b.bound.references (at - b.at.base) ≡ Some e
    x_bound at e binds =
        let w = h.member in
        let all = part_binds p.rows (p.super_at w.key) at w.key w.base w.part e b.bound b h.is ((walked begins p.rows x b.list b.at d).binds at e binds) in
        let le = (names.places written placed p program file b h).within at e all in
        let start : (part_mark w.part).from ≡ b.at.base = starts_there w.key w.base w.part b.bound b h.is in
        let place : (part_mark w.part).from + (at - b.at.base) ≡ at = omega (arith, le, start) in
        ((is_bound p program file b h).declarations (at - b.at.base) e).1 (subst (λ (i : ℕ). Binds begins p.rows (p.super_at w.key) w.key w.base w.part i e) (sym place) all)

  abbrev HasClass : Span → ClassKey → Type 0
  HasClass s k = decl_in b.bound.references (s.from - b.at.base) ≡ Some (class_decl k)

  -- the word of a name, and of a field
  pub name_is_class : (m : Span) (w : tree.Word Span) (d : ListWay (tree.name m w) b.list) → list_role d ≡ left → (k : ClassKey) → HasClass w.mark k → IsClassName p.rows (c (tree.name m w) d) (tree.name m w) k
  name_is_class m w d role k is =
      let x = tree.name m w in
      let calm : (n : ℕ) (r : Rule) → ExpBreaks begins p.rows (c x d) left (base x d) x n r → ⊥ = subst (λ (l : Role). (n : ℕ) (r : Rule) → ExpBreaks begins p.rows (c x d) l (base x d) x n r → ⊥) role (x_calm x d) in
      let o = finds_one begins p.rows (c x d) (base x d) m w (found p.rows program.are_rows) left calm in
      let has = x_bound x d w.mark.from o.0 (subst (λ (l : Role). BindsItself begins p.rows (c x d) l (base x d) x w.mark.from o.0) (sym role) o.1) in
      let same : o.0 ≡ class_decl k = same_Some o.0 (class_decl k) (sym has ∙ is) in
      name_class p.rows (c x d) (base x d) m x w k m w (subst (λ (e : Decl). BindsItself begins p.rows (c x d) left (base x d) x w.mark.from e) same o.1)

  pub field_is_class : (m : Span) (e : tree.Exp Span) (w : tree.Word Span) (d : ListWay (tree.field m e w) b.list) → list_role d ≡ left → (k : ClassKey) → HasClass w.mark k → IsClassName p.rows (c (tree.field m e w) d) (tree.field m e w) k
  field_is_class m e w d role k is =
      let x = tree.field m e w in
      let calm : (n : ℕ) (r : Rule) → ExpBreaks begins p.rows (c x d) left (base x d) x n r → ⊥ = subst (λ (l : Role). (n : ℕ) (r : Rule) → ExpBreaks begins p.rows (c x d) l (base x d) x n r → ⊥) role (x_calm x d) in
      let o = field_one p.rows (c x d) (base x d) m e w (found p.rows program.are_rows) (are_bound p.rows program.are_rows (found p.rows program.are_rows) (c x d)) calm in
      let has = x_bound x d w.mark.from o.0 (subst (λ (l : Role). BindsItself begins p.rows (c x d) l (base x d) x w.mark.from o.0) (sym role) o.1) in
      let same : o.0 ≡ class_decl k = same_Some o.0 (class_decl k) (sym has ∙ is) in
      field_class p.rows (c x d) (base x d) m e w k (subst (λ (g : Decl). BindsItself begins p.rows (c x d) left (base x d) x w.mark.from g) same o.1)
