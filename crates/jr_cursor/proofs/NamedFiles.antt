-- Names that a file declares, and what it refers to: no two begin at one place.
use Rattle.std.proofs.Common.{ℕ, List, [], ◌∷◌, Some, None, sym, subst, ◌∙◌, inl, inr}
use Rattle.std.specs.Prelude.{◌⊎◌, Option}
use Rattle.jr_text.specs.declared.spans.Span.{Span}
use Rattle.jr_lex.specs.declared.items.Item.{Item}
use Rattle.jr_ast.specs.Tree as tree
use Rattle.jr_ast.specs.StatementTree as statement
use Rattle.jr_ast.specs.MemberTree as syntax
use Rattle.jr_grammar.specs.Tokens.{placed_of}
use Rattle.jr_grammar.specs.Stands.{Tokens, Stands, StandInOrder}
use Rattle.jr_grammar.specs.ExpressionLayout.{word_layout}
use Rattle.jr_grammar.specs.MemberLayout.{extends_layout, class_layout, member_layout, members_layout, classes_layout, unit_layouts}
use Rattle.jr_table.specs.Keys.{ClassKey}
use Rattle.jr_table.specs.Decls.{MemberKey, head, field, method, constructor, Decl, class_decl}
use Rattle.jr_table.specs.Rows.{Row}
use Rattle.jr_table.specs.Conditions.{AreRows}
use Rattle.jr_table.specs.LookupLaws.{HasOne, EachHasOne}
use Rattle.jr_table.specs.BindingLaws.{IsBound}
use Rattle.jr_table.specs.Context.{Context}
use Rattle.jr_table.specs.DeclaredItems.{DeclaredItem, class_key}
use Rattle.jr_table.specs.Errors.{Part, class_part, member_part, Binds, Declares, InClass, InMembers, InInner, InClasses}
use Rattle.jr_program_laws.specs.FileParts.{begins, IsSuperAt, SuperStands, WithSuper}
use Rattle.jr_program_laws.proofs.TokenOrder.{Rising}
use Rattle.jr_program_laws.proofs.Holding.{Over, join, pass, only, node, turn, empty}
use Rattle.jr_program_laws.proofs.MembersHold.{parent_over}
use Rattle.jr_program_laws.proofs.MemberParts.{member_binds}
use Rattle.jr_program_laws.proofs.SuperPlaces.{super_once}
use Rattle.jr_program_laws.proofs.FileHolds.{sum_out, key_first, key_second, keyed, known}
use Rattle.jr_images.specs.Targets.{PartDeclares}
use Rattle.jr_cursor.proofs.Nowhere.{neither}
use Rattle.jr_cursor.proofs.Declaring.{from_part}
use Rattle.jr_cursor.proofs.NamedParts.{nothing, name_over}
use Rattle.jr_cursor.proofs.NamedMembers.{MemberHas, field_has, method_has, plain_ctor_has, super_ctor_has}

-- a part declares it there, or refers to it
abbrev pub PartHas : List Row → List Item → MemberKey → (base : ℕ) → Part Span → (at : ℕ) → Decl → Type 0
PartHas rows items k base part at d = WithSuper rows items part (λ s. PartDeclares begins k base part at d ⊎ Binds begins rows s k base part at d)

-- where a written `super(..)` of it stands there
pub with_super : (rows : List Row) (items : List Item) (k : MemberKey) (base : ℕ) (part : Part Span) (s at : ℕ) (d : Decl) → SuperStands items part s → PartDeclares begins k base part at d → PartHas rows items k base part at d
with_super rows items k base (class_part c) s at d stands h = inl h
with_super rows items k base (member_part (syntax.field m mods t w init)) s at d stands h = inl h
with_super rows items k base (member_part (syntax.method m mods t w ps body)) s at d stands h = inl h
with_super rows items k base (member_part (syntax.constructor m mods w ps None body)) s at d stands h = inl h
with_super rows items k base (member_part (syntax.constructor m mods w ps (Some args) body)) s at d stands h = (s, stands, inl h)
with_super rows items k base (member_part (syntax.inner m c)) s at d stands h = inl h

pub with_reference : (rows : List Row) (items : List Item) (k : MemberKey) (base : ℕ) (part : Part Span) (at : ℕ) (d : Decl) → WithSuper rows items part (λ s. Binds begins rows s k base part at d) → PartHas rows items k base part at d
with_reference rows items k base (class_part c) at d h = inr h
with_reference rows items k base (member_part (syntax.field m mods t w init)) at d h = inr h
with_reference rows items k base (member_part (syntax.method m mods t w ps body)) at d h = inr h
with_reference rows items k base (member_part (syntax.constructor m mods w ps None body)) at d h = inr h
with_reference rows items k base (member_part (syntax.constructor m mods w ps (Some args) body)) at d h = (h.0, h.1, inr h.2)
with_reference rows items k base (member_part (syntax.inner m c)) at d h = inr h

-- ---- what has a key of its own

-- the name of a class, what stands behind it, and its members
head_parts : {K : Type 0} {D N P M : K → Type 0} → ((k : K) × ((D k × (N k ⊎ P k)) ⊎ M k)) → ((k : K) × (D k × N k)) ⊎ (((k : K) × (D k × P k)) ⊎ ((k : K) × M k))
head_parts (k, inl (is, inl n)) = inl (k, (is, n))
head_parts (k, inl (is, inr p)) = inr (inl (k, (is, p)))
head_parts (k, inr m) = inr (inr (k, m))

module _ (text : List ℕ) (items : List Item) (rising : Rising (placed_of text items)) (rows : List Row) (fit : AreRows rows) (lookups : EachHasOne rows) (bounds : (c : Context) → IsBound Span rows c) where
  abbrev All : Tokens
  All = placed_of text items

  -- whatever its key is
  in_words : (s : ℕ) (k : MemberKey) (base : ℕ) (x : syntax.Member Span) (at : ℕ) (d : Decl) → PartDeclares begins k base (member_part x) at d ⊎ Binds begins rows s k base (member_part x) at d → MemberHas rows s k base x at d
  in_words s k base x at d (inl h) = inl (from_part k base x at d h)
  in_words s k base x at d (inr h) = inr ((member_binds rows s k base x at d).0 h)

  super_part_has : (k : MemberKey) (base : ℕ) (m : Span) (mods : List (syntax.Modifier Span)) (w : tree.Word Span) (ps : List (syntax.Param Span)) (args : tree.Exps Span) (body : statement.Stmts Span)
      → Over All (Stands (member_layout (syntax.constructor m mods w ps (Some args) body)))
      (λ at d. (s : ℕ) × (IsSuperAt items m s × (PartDeclares begins k base (member_part (syntax.constructor m mods w ps (Some args) body)) at d ⊎ Binds begins rows s k base (member_part (syntax.constructor m mods w ps (Some args) body)) at d)))
  super_part_has k base m mods w ps args body = keyed (super_once items m)
      (λ s is. known text items rising rows fit lookups bounds s m mods w ps (Some args) body is (turn (super_ctor_has All rows fit lookups bounds s k base m mods w ps args body) (λ at d. in_words s k base (syntax.constructor m mods w ps (Some args) body) at d)))

  -- ---- parts

  -- a field, a method or a constructor
  part_has : (k : MemberKey) (base : ℕ) (x : syntax.Member Span) → Over All (Stands (member_layout x)) (λ at d. PartHas rows items k base (member_part x) at d)
  part_has k base (syntax.field m mods t w init) = turn (field_has All rows fit lookups bounds 0 k base m mods t w init) (λ at d. in_words 0 k base (syntax.field m mods t w init) at d)
  part_has k base (syntax.method m mods t w ps body) = turn (method_has All rows fit lookups bounds 0 k base m mods t w ps body) (λ at d. in_words 0 k base (syntax.method m mods t w ps body) at d)
  part_has k base (syntax.constructor m mods w ps None body) = turn (plain_ctor_has All rows fit lookups bounds 0 k base m mods w ps body) (λ at d. in_words 0 k base (syntax.constructor m mods w ps None body) at d)
  part_has k base (syntax.constructor m mods w ps (Some args) body) = turn (super_part_has k base m mods w ps args body) (λ at d h. (h.0, (h.1, h.2)))
  part_has k base (syntax.inner m c) = empty (λ at d h. neither nothing nothing (in_words 0 k base (syntax.inner m c) at d h))

  -- the name of a class
  head_name : (k : MemberKey) (base : ℕ) (m : Span) (mods : List (syntax.Modifier Span)) (w : tree.Word Span) (t : Option (tree.TypeName Span)) (ms : syntax.Members Span)
      → Over All (Stands (word_layout w)) (λ at d. PartDeclares begins k base (class_part (syntax.class m mods w t ms)) at d)
  head_name (head k) base m mods w t ms = name_over All rows fit lookups bounds (begins m base) w (class_decl k)
  head_name (field k) base m mods w t ms = empty (λ at d h. h)
  head_name (method k) base m mods w t ms = empty (λ at d h. h)
  head_name (constructor k) base m mods w t ms = empty (λ at d h. h)

  -- its superclass
  head_parent : (k : MemberKey) (base : ℕ) (m : Span) (mods : List (syntax.Modifier Span)) (w : tree.Word Span) (t : Option (tree.TypeName Span)) (ms : syntax.Members Span)
      → Over All (Stands (extends_layout t)) (λ at d. Binds begins rows 0 k base (class_part (syntax.class m mods w t ms)) at d)
  head_parent (head k) base m mods w None ms = empty (λ at d h. h)
  head_parent (head k) base m mods w (Some t) ms = pass (only (parent_over All rows fit lookups bounds k.outer (begins m base) t))
  head_parent (field k) base m mods w t ms = empty (λ at d h. h)
  head_parent (method k) base m mods w t ms = empty (λ at d h. h)
  head_parent (constructor k) base m mods w t ms = empty (λ at d h. h)

  -- ---- classes

  module _ (declarations : List DeclaredItem) (keys : (base : ℕ) (of : ClassKey) (x : syntax.Member Span) → HasOne (Declares begins declarations base of x)) where
    mutual
      unfolding InClass InMembers InInner

      class_has : (base : ℕ) (outer : Option (List ℕ)) (c : syntax.Class Span) → Over All (Stands (class_layout c)) (λ at d. (k : MemberKey) × InClass begins declarations (λ l b part. PartHas rows items l b part at d) base outer c k)
      class_has base outer (syntax.class m mods w t ms) = turn
          (node (pass (pass (join (keyed (λ k l x y. x ∙ sym y) (λ k is. head_name k base m mods w t ms)) (join (keyed (λ k l x y. x ∙ sym y) (λ k is. head_parent k base m mods w t ms))
          (pass (only (members_have (begins m base) (class_key begins outer w.text) ms))))))))
          (λ at d. head_parts)

      members_have : (base : ℕ) (of : ClassKey) (ms : syntax.Members Span) → Over All (Stands (members_layout ms)) (λ at d. (k : MemberKey) × InMembers begins declarations (λ l b part. PartHas rows items l b part at d) base of ms k)
      members_have base of syntax.end = empty (λ at d h. h.1)
      members_have base of (syntax.more x xs) = turn (join (member_has base of x) (only (members_have base of xs))) (λ at d. sum_out)

      member_has : (base : ℕ) (of : ClassKey) (x : syntax.Member Span) → Over All (Stands (member_layout x))
          (λ at d. (k : MemberKey) × ((Declares begins declarations base of x k × PartHas rows items k base (member_part x) at d) ⊎ InInner begins declarations (λ l b part. PartHas rows items l b part at d) base of x k))
      member_has base of (syntax.field m mods t w init) = turn (keyed (keys base of (syntax.field m mods t w init)) (λ k is. part_has k base (syntax.field m mods t w init))) (λ at d. key_first (λ k h. h))
      member_has base of (syntax.method m mods t w ps body) = turn (keyed (keys base of (syntax.method m mods t w ps body)) (λ k is. part_has k base (syntax.method m mods t w ps body))) (λ at d. key_first (λ k h. h))
      member_has base of (syntax.constructor m mods w ps args body) =
          turn (keyed (keys base of (syntax.constructor m mods w ps args body)) (λ k is. part_has k base (syntax.constructor m mods w ps args body))) (λ at d. key_first (λ k h. h))
      member_has base of (syntax.inner m c) = turn (node (only (class_has (begins m base) (Some of.name) c))) (λ at d. key_second (λ k h. h.0))

    classes_have : (base : ℕ) (cs : List (syntax.Class Span)) → Over All (Stands (classes_layout cs)) (λ at d. (k : MemberKey) × InClasses begins declarations (λ l b part. PartHas rows items l b part at d) base cs k)
    classes_have base [] = empty (λ at d h. h.1)
    classes_have base (c ∷ cs) = turn (join (class_has base None c) (only (classes_have base cs))) (λ at d. sum_out)

    pub unit_has : (u : syntax.Unit Span) → Over All (StandInOrder (unit_layouts u)) (λ at d. (k : MemberKey) × InClasses begins declarations (λ l b part. PartHas rows items l b part at d) (begins u.mark 0) u.classes k)
    unit_has u = pass (only (classes_have (begins u.mark 0) u.classes))
