-- References of a file: no two begin at one place.
use Rattle.std.proofs.Common.{ℕ, List, [], ◌∷◌, Some, None, sym, subst, ◌∙◌, inl, inr}
use Rattle.std.specs.Prelude.{◌⊎◌, Option}
use Rattle.jr_text.specs.declared.spans.Span.{Span}
use Rattle.jr_lex.specs.declared.items.Item.{Item}
use Rattle.jr_ast.specs.Tree as tree
use Rattle.jr_ast.specs.StatementTree as statement
use Rattle.jr_ast.specs.MemberTree as syntax
use Rattle.jr_grammar.specs.Tokens.{placed_of}
use Rattle.jr_grammar.specs.Stands.{Tokens, Stands, StandInOrder}
use Rattle.jr_grammar.specs.MemberLayout.{extends_layout, class_layout, member_layout, members_layout, classes_layout, unit_layouts}
use Rattle.jr_table.specs.Keys.{ClassKey}
use Rattle.jr_table.specs.Decls.{MemberKey, head, field, method, constructor, Decl}
use Rattle.jr_table.specs.Rows.{Row}
use Rattle.jr_table.specs.Conditions.{AreRows}
use Rattle.jr_table.specs.LookupLaws.{HasOne, EachHasOne}
use Rattle.jr_table.specs.BindingLaws.{IsBound}
use Rattle.jr_table.specs.Context.{Context}
use Rattle.jr_table.specs.DeclaredItems.{DeclaredItem, class_key}
use Rattle.jr_table.specs.Errors.{class_part, member_part, Binds, Declares, InClass, InMembers, InInner, InClasses}
use Rattle.jr_program_laws.specs.FileParts.{begins, IsSuperAt, BindsAt}
use Rattle.jr_program_laws.proofs.TokenOrder.{Rising}
use Rattle.jr_program_laws.proofs.Holding.{Over, join, pass, only, node, turn, empty}
use Rattle.jr_program_laws.proofs.Filling.{member_fills}
use Rattle.jr_program_laws.proofs.Supers.{Knowing}
use Rattle.jr_program_laws.proofs.ItemTokens.{first_of_span}
use Rattle.jr_program_laws.proofs.MembersHold.{field_over, method_over, plain_ctor_over, super_ctor_over, parent_over}
use Rattle.jr_program_laws.proofs.MemberParts.{member_binds}
use Rattle.jr_program_laws.proofs.SuperPlaces.{super_once}

-- ---- what has a key of its own

pub sum_out : {K : Type 0} {A B : K → Type 0} → ((k : K) × (A k ⊎ B k)) → ((k : K) × A k) ⊎ ((k : K) × B k)
sum_out (k, inl a) = inl (k, a)
sum_out (k, inr b) = inr (k, b)

pub key_first : {K : Type 0} {A B : K → Type 0} → ((k : K) → B k → ⊥) → ((k : K) × (A k ⊎ B k)) → (k : K) × A k
key_first none (k, inl a) = (k, a)
key_first none (k, inr b) = absurd (none k b)

pub key_second : {K : Type 0} {A B : K → Type 0} → ((k : K) → A k → ⊥) → ((k : K) × (A k ⊎ B k)) → (k : K) × B k
key_second none (k, inl a) = absurd (none k a)
key_second none (k, inr b) = (k, b)

-- a key that only one may be
pub keyed : {all : Tokens} {K : Type 0} {P : Tokens → Type 0} {D : K → Type 0} {R : K → ℕ → Decl → Type 0} → HasOne D → ((k : K) → D k → Over all P (R k)) → Over all P (λ at d. (k : K) × (D k × R k at d))
keyed {all} {K} {P} {D} {R} single f = record {
  over = λ ps rising piece h. record {
    within = λ at d r. ((f r.0 r.1.0).over ps rising piece h).within at d r.1.1;
    one = λ at d e r t. ((f r.0 r.1.0).over ps rising piece h).one at d e r.1.1 (subst (λ (k : K). R k at e) (sym (single r.0 t.0 r.1.0 t.1.0)) t.1.1);
  };
}

module _ (text : List ℕ) (items : List Item) (rising : Rising (placed_of text items)) (rows : List Row) (fit : AreRows rows) (lookups : EachHasOne rows) (bounds : (c : Context) → IsBound Span rows c) where
  abbrev All : Tokens
  All = placed_of text items

  -- where a written `super(..)` stands, the first word `super` of the constructor does
  pub known : (s : ℕ) (m : Span) (mods : List (syntax.Modifier Span)) (w : tree.Word Span) (ps : List (syntax.Param Span)) (args : Option (tree.Exps Span)) (body : statement.Stmts Span) {R : ℕ → Decl → Type 0} → IsSuperAt items m s
      → Over All (Knowing s (Stands (member_layout (syntax.constructor m mods w ps args body)))) R → Over All (Stands (member_layout (syntax.constructor m mods w ps args body))) R
  known s m mods w ps args body is f = record {
    over = λ qs rises piece h.
        f.over qs rises piece (record { is = h; first = first_of_span text items qs m s rising piece ((member_fills (syntax.constructor m mods w ps args body)).fills qs h) h.mark is });
  }

  super_part_over : (k : MemberKey) (base : ℕ) (m : Span) (mods : List (syntax.Modifier Span)) (w : tree.Word Span) (ps : List (syntax.Param Span)) (args : tree.Exps Span) (body : statement.Stmts Span)
      → Over All (Stands (member_layout (syntax.constructor m mods w ps (Some args) body))) (λ at d. (s : ℕ) × (IsSuperAt items m s × Binds begins rows s k base (member_part (syntax.constructor m mods w ps (Some args) body)) at d))
  super_part_over k base m mods w ps args body = keyed (super_once items m)
      (λ s is. known s m mods w ps (Some args) body is
      (turn (super_ctor_over All rows fit lookups bounds s k base m mods w ps args body) (λ at d. (member_binds rows s k base (syntax.constructor m mods w ps (Some args) body) at d).0)))

  -- ---- parts

  -- a field, a method or a constructor
  pub part_over : (k : MemberKey) (base : ℕ) (x : syntax.Member Span) → Over All (Stands (member_layout x)) (λ at d. BindsAt rows items k base (member_part x) at d)
  part_over k base (syntax.field m mods t w init) = turn (field_over All rows fit lookups bounds 0 k base m mods t w init) (λ at d. (member_binds rows 0 k base (syntax.field m mods t w init) at d).0)
  part_over k base (syntax.method m mods t w ps body) = turn (method_over All rows fit lookups bounds 0 k base m mods t w ps body) (λ at d. (member_binds rows 0 k base (syntax.method m mods t w ps body) at d).0)
  part_over k base (syntax.constructor m mods w ps None body) = turn (plain_ctor_over All rows fit lookups bounds 0 k base m mods w ps body) (λ at d. (member_binds rows 0 k base (syntax.constructor m mods w ps None body) at d).0)
  part_over k base (syntax.constructor m mods w ps (Some args) body) = turn (super_part_over k base m mods w ps args body) (λ at d h. (h.0, (h.1, h.2)))
  part_over k base (syntax.inner m c) = empty (λ at d h. nothing ((member_binds rows 0 k base (syntax.inner m c) at d).0 h))
    where
      nothing : (⊥ ⊎ ⊥) → ⊥
      nothing (inl h) = h
      nothing (inr h) = h

  -- the head of a class
  pub head_over : (k : MemberKey) (base : ℕ) (m : Span) (mods : List (syntax.Modifier Span)) (w : tree.Word Span) (t : Option (tree.TypeName Span)) (ms : syntax.Members Span)
      → Over All (Stands (extends_layout t)) (λ at d. BindsAt rows items k base (class_part (syntax.class m mods w t ms)) at d)
  head_over (head k) base m mods w None ms = empty (λ at d h. h)
  head_over (head k) base m mods w (Some t) ms = pass (only (parent_over All rows fit lookups bounds k.outer (begins m base) t))
  head_over (field k) base m mods w t ms = empty (λ at d h. h)
  head_over (method k) base m mods w t ms = empty (λ at d h. h)
  head_over (constructor k) base m mods w t ms = empty (λ at d h. h)

  -- ---- classes

  module _ (declarations : List DeclaredItem) (keys : (base : ℕ) (of : ClassKey) (x : syntax.Member Span) → HasOne (Declares begins declarations base of x)) where
    mutual
      unfolding InClass InMembers InInner

      class_over : (base : ℕ) (outer : Option (List ℕ)) (c : syntax.Class Span) → Over All (Stands (class_layout c)) (λ at d. (k : MemberKey) × InClass begins declarations (λ l b part. BindsAt rows items l b part at d) base outer c k)
      class_over base outer (syntax.class m mods w t ms) = turn
          (node (pass (pass (pass (join (keyed (λ k l x y. x ∙ sym y) (λ k is. head_over k base m mods w t ms)) (pass (only (members_over (begins m base) (class_key begins outer w.text) ms))))))))
          (λ at d. sum_out)

      members_over : (base : ℕ) (of : ClassKey) (ms : syntax.Members Span) → Over All (Stands (members_layout ms)) (λ at d. (k : MemberKey) × InMembers begins declarations (λ l b part. BindsAt rows items l b part at d) base of ms k)
      members_over base of syntax.end = empty (λ at d h. h.1)
      members_over base of (syntax.more x xs) = turn (join (member_over base of x) (only (members_over base of xs))) (λ at d. sum_out)

      member_over : (base : ℕ) (of : ClassKey) (x : syntax.Member Span) → Over All (Stands (member_layout x))
          (λ at d. (k : MemberKey) × ((Declares begins declarations base of x k × BindsAt rows items k base (member_part x) at d) ⊎ InInner begins declarations (λ l b part. BindsAt rows items l b part at d) base of x k))
      member_over base of (syntax.field m mods t w init) = turn (keyed (keys base of (syntax.field m mods t w init)) (λ k is. part_over k base (syntax.field m mods t w init))) (λ at d. key_first (λ k h. h))
      member_over base of (syntax.method m mods t w ps body) = turn (keyed (keys base of (syntax.method m mods t w ps body)) (λ k is. part_over k base (syntax.method m mods t w ps body))) (λ at d. key_first (λ k h. h))
      member_over base of (syntax.constructor m mods w ps args body) =
          turn (keyed (keys base of (syntax.constructor m mods w ps args body)) (λ k is. part_over k base (syntax.constructor m mods w ps args body))) (λ at d. key_first (λ k h. h))
      member_over base of (syntax.inner m c) = turn (node (only (class_over (begins m base) (Some of.name) c))) (λ at d. key_second (λ k h. h.0))

    classes_over : (base : ℕ) (cs : List (syntax.Class Span)) → Over All (Stands (classes_layout cs)) (λ at d. (k : MemberKey) × InClasses begins declarations (λ l b part. BindsAt rows items l b part at d) base cs k)
    classes_over base [] = empty (λ at d h. h.1)
    classes_over base (c ∷ cs) = turn (join (class_over base None c) (only (classes_over base cs))) (λ at d. sum_out)

    pub unit_over : (u : syntax.Unit Span) → Over All (StandInOrder (unit_layouts u)) (λ at d. (k : MemberKey) × InClasses begins declarations (λ l b part. BindsAt rows items l b part at d) (begins u.mark 0) u.classes k)
    unit_over u = pass (only (classes_over (begins u.mark 0) u.classes))
