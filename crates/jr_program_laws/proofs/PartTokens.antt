-- Each part of a file stands over some of the file's tokens.
use Rattle.std.proofs.Common.{ℕ, List, [], ◌∷◌, Some, None, inl, inr}
use Rattle.std.specs.Prelude.{Option}
use Rattle.jr_text.specs.declared.spans.Span.{Span}
use Rattle.jr_ast.specs.MemberTree as syntax
use Rattle.jr_grammar.specs.Stands.{Tokens, InOrder, IsNode, Stands, StandInOrder}
use Rattle.jr_grammar.specs.MemberLayout.{class_layout, member_layout, members_layout, classes_layout, unit_layouts}
use Rattle.jr_table.specs.Keys.{ClassKey}
use Rattle.jr_table.specs.Decls.{MemberKey}
use Rattle.jr_table.specs.DeclaredItems.{DeclaredItem, class_key}
use Rattle.jr_table.specs.Errors.{Part, class_part, member_part, InClass, InMembers, InInner, InClasses}
use Rattle.jr_program_laws.specs.FileParts.{begins}
use Rattle.jr_program_laws.proofs.TokenOrder.{Piece, front_piece, back_piece}

abbrev pub StandsPart : Part Span → Tokens → Type 0
StandsPart (class_part c) ps = Stands (class_layout c) ps
StandsPart (member_part x) ps = Stands (member_layout x) ps

pub record PartStands (all : Tokens) (part : Part Span) : Type 0 where
  pub tokens : Tokens
  pub piece : Piece all tokens
  pub stands : StandsPart part tokens

-- what holds wherever such tokens are among them
record Among (all : Tokens) (P : Tokens → Type 0) (T : Type 0) : Type 0 where
  among : (ps : Tokens) → Piece all ps → P ps → T

in_first : {all : Tokens} {P Q : Tokens → Type 0} {T : Type 0} → Among all P T → Among all (InOrder P Q) T
in_first {all} f = record { among = λ ps piece h. f.among h.front (front_piece all h.front h.back ps h.whole piece) h.first }

in_rest : {all : Tokens} {P Q : Tokens → Type 0} {T : Type 0} → Among all Q T → Among all (InOrder P Q) T
in_rest {all} f = record { among = λ ps piece h. f.among h.back (back_piece all h.front h.back ps h.whole piece) h.rest }

in_node : {all : Tokens} {m : Span} {P : Tokens → Type 0} {T : Type 0} → Among all P T → Among all (IsNode m P) T
in_node f = record { among = λ ps piece h. f.among ps piece h.parts }

module _ (all : Tokens) (declarations : List DeclaredItem) (P : MemberKey → (base : ℕ) → Part Span → Type 0) where
  -- a part has the property, and stands there
  abbrev pub SomePart : MemberKey → Type 0
  SomePart k = (base : ℕ) × (part : Part Span) × (P k base part × PartStands all part)

  mutual
    unfolding InClass InMembers InInner

    class_parts : (base : ℕ) (outer : Option (List ℕ)) (c : syntax.Class Span) (k : MemberKey) → InClass begins declarations P base outer c k → Among all (Stands (class_layout c)) (SomePart k)
    class_parts base outer (syntax.class m mods w t ms) k (inl h) =
        record { among = λ ps piece s. (base, class_part (syntax.class m mods w t ms), (h.1, record { tokens = ps; piece = piece; stands = s })) }
    class_parts base outer (syntax.class m mods w t ms) k (inr h) = in_node (in_rest (in_rest (in_rest (in_rest (in_rest (in_first (members_parts (begins m base) (class_key begins outer w.text) ms k h)))))))

    members_parts : (base : ℕ) (of : ClassKey) (ms : syntax.Members Span) (k : MemberKey) → InMembers begins declarations P base of ms k → Among all (Stands (members_layout ms)) (SomePart k)
    members_parts base of syntax.end k h = absurd h
    members_parts base of (syntax.more x xs) k (inl (inl h)) = in_first (record { among = λ ps piece s. (base, member_part x, (h.1, record { tokens = ps; piece = piece; stands = s })) })
    members_parts base of (syntax.more x xs) k (inl (inr h)) = in_first (inner_parts base of x k h)
    members_parts base of (syntax.more x xs) k (inr h) = in_rest (in_first (members_parts base of xs k h))

    inner_parts : (base : ℕ) (of : ClassKey) (x : syntax.Member Span) (k : MemberKey) → InInner begins declarations P base of x k → Among all (Stands (member_layout x)) (SomePart k)
    inner_parts base of (syntax.inner m c) k h = in_node (in_first (class_parts (begins m base) (Some of.name) c k h))
    inner_parts base of (syntax.field m mods t w init) k h = absurd h
    inner_parts base of (syntax.method m mods t w ps body) k h = absurd h
    inner_parts base of (syntax.constructor m mods w ps args body) k h = absurd h

  classes_parts : (base : ℕ) (cs : List (syntax.Class Span)) (k : MemberKey) → InClasses begins declarations P base cs k → Among all (Stands (classes_layout cs)) (SomePart k)
  classes_parts base [] k h = absurd h
  classes_parts base (c ∷ cs) k (inl h) = in_first (class_parts base None c k h)
  classes_parts base (c ∷ cs) k (inr h) = in_rest (in_first (classes_parts base cs k h))

  unit_among : (u : syntax.Unit Span) (k : MemberKey) → InClasses begins declarations P (begins u.mark 0) u.classes k → Among all (StandInOrder (unit_layouts u)) (SomePart k)
  unit_among u k h = in_rest (in_first (classes_parts (begins u.mark 0) u.classes k h))

  pub unit_parts : (u : syntax.Unit Span) (k : MemberKey) → InClasses begins declarations P (begins u.mark 0) u.classes k → (ps : Tokens) → Piece all ps → StandInOrder (unit_layouts u) ps → SomePart k
  unit_parts u k h = (unit_among u k h).among
