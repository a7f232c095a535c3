-- The lists of bodies are shaped, as their files are, and so are the elements in them.
use Rattle.std.proofs.Common.{◌≡◌, inl, inr, ℕ, Bool, true, false, List, [], ◌∷◌, Option, Some, None, refl, subst}
use Rattle.std.proofs.lemmas.Option.{same_Some}
use Rattle.jr_text.specs.declared.spans.Span.{Span}
use Rattle.jr_ast.specs.Tree as tree
use Rattle.jr_ast.specs.StatementTree as statement
use Rattle.jr_ast.specs.MemberTree as syntax
use Rattle.jr_grammar.specs.Layout.{itself}
use Rattle.jr_grammar.specs.StatementShape.{StmtShaped, StmtsShaped}
use Rattle.jr_grammar.specs.MemberShape.{ClassShaped, MemberShaped, MembersShaped, ClassesShaped}
use Rattle.jr_table.specs.Keys.{ClassKey}
use Rattle.jr_table.specs.Decls.{MemberKey}
use Rattle.jr_table.specs.DeclaredItems.{DeclaredItem, class_key, declarations_of}
use Rattle.jr_table.specs.Errors.{Part, class_part, member_part, InClass, InMembers, InInner, InClasses}
use Rattle.jr_members.specs.WrittenMembers.{written_members}
use Rattle.jr_members.specs.WrittenLaws.{MembersAreWritten}
use Rattle.jr_bind.specs.Bounds.{Bound}
use Rattle.jr_bind.specs.Programs.{Program, IsProgram, units_of}
use Rattle.jr_pieces.specs.Ways.{StmtWay, in_init, in_eval, in_condition, in_then, in_else, in_turning, in_body, in_returned, in_block, in_lock, in_locked, ListWay}
use Rattle.jr_pieces.specs.Ways as ways
use Rattle.jr_pieces.specs.Standings.{Standing, inside, behind, in_other}
use Rattle.jr_pieces.specs.Nearest.{Element, or_element, element_within, nearest}
use Rattle.jr_local.specs.Bodies.{begins, Body, body_of, HasBody}
use Rattle.jr_local_texts.proofs.StandingBodies.{file_of_unit, contains_at, no_body, same_body}

-- ---- elements of lists

module _ {f : tree.Exp Span} where
  abbrev Shaped : Element f → Type 0
  Shaped el = StmtsShaped (statement.more el.stmt el.rest)

  no_element : (x : Element f) → (let none : Option (Element f) = None in none ≡ Some x) → ⊥
  no_element x e = cc

  mutual
    stmt_element : (p : Standing) (s : statement.Stmt Span) (d : StmtWay f s) → StmtShaped s → (el : Element f) → element_within begins p d ≡ Some el → Shaped el
    stmt_element p _ (in_init m is_final t w e d) h el is = absurd (no_element el is)
    stmt_element p _ (in_eval m e d) h el is = absurd (no_element el is)
    stmt_element p _ (in_condition m c s o d) h el is = absurd (no_element el is)
    stmt_element p _ (in_then m c s o d) h el is = stmt_element (inside begins m p) s d h.2 el is
    stmt_element p _ (in_else m c s o d) h el is = stmt_element (in_other begins m s p) o d h.3.2 el is
    stmt_element p _ (in_turning m c s d) h el is = absurd (no_element el is)
    stmt_element p _ (in_body m c s d) h el is = stmt_element (inside begins m p) s d h.2 el is
    stmt_element p _ (in_returned m e d) h el is = absurd (no_element el is)
    stmt_element p _ (in_block m b d) h el is = subst Shaped (same_Some _ el is) (list_element (inside begins m p) b d h)
    stmt_element p _ (in_lock m e b d) h el is = absurd (no_element el is)
    stmt_element p _ (in_locked m e b d) h el is = subst Shaped (same_Some _ el is) (list_element (inside begins m p) b d h.1)

    pub list_element : (p : Standing) (b : statement.Stmts Span) (d : ListWay f b) → StmtsShaped b → Shaped (nearest begins p d)
    list_element p _ (ways.first s ss d) h = by_element (element_within begins p d) refl (λ el is. stmt_element p s d h.0 el is)
      where
        by_element : (o : Option (Element f)) → element_within begins p d ≡ o → ((el : Element f) → element_within begins p d ≡ Some el → Shaped el) → Shaped (or_element o (record { at = p; stmt = s; rest = ss; way = d }))
        by_element None e go = h
        by_element (Some el) e go = go el e
    list_element p _ (ways.later s ss d) h = list_element (behind begins s p) ss d h.1

-- ---- members

abbrev PartShaped : Part Span → Type 0
PartShaped (class_part c) = Unit {0}
PartShaped (member_part x) = (nested : Bool) × (name : List ℕ) × MemberShaped nested name x

body_shaped : (k : MemberKey) (base : ℕ) (part : Part Span) (bound : Bound) (b : Body) → body_of k base part bound ≡ Some b → PartShaped part → StmtsShaped b.list
body_shaped k base (class_part c) bound b e h = absurd (no_body b e)
body_shaped k base (member_part (syntax.field m mods t w init)) bound b e h = absurd (no_body b e)
body_shaped k base (member_part (syntax.inner m c)) bound b e h = absurd (no_body b e)
body_shaped k base (member_part (syntax.method m mods t w qs body)) bound b e h = subst (λ (x : Body). StmtsShaped x.list) (same_body _ b e) h.2
body_shaped k base (member_part (syntax.constructor m mods w qs args body)) bound b e h = subst (λ (x : Body). StmtsShaped x.list) (same_body _ b e) h.2.2

module _ (declarations : List DeclaredItem) (P : MemberKey → (base : ℕ) → Part Span → Type 0) where
  abbrev SomePart : MemberKey → Type 0
  SomePart k = (base : ℕ) × (part : Part Span) × (P k base part × PartShaped part)

  mutual
    unfolding InClass InMembers InInner

    class_parts : (base : ℕ) (outer : Option (List ℕ)) (c : syntax.Class Span) (k : MemberKey) → InClass begins declarations P base outer c k → (nested : Bool) → ClassShaped nested c → SomePart k
    class_parts base outer (syntax.class m mods w t ms) k (inl h) nested s = (base, class_part (syntax.class m mods w t ms), (h.1, tt))
    class_parts base outer (syntax.class m mods w t ms) k (inr h) nested s = members_parts (begins m base) (class_key begins outer w.text) ms k h nested w.text s.1

    members_parts : (base : ℕ) (of : ClassKey) (ms : syntax.Members Span) (k : MemberKey) → InMembers begins declarations P base of ms k → (nested : Bool) (name : List ℕ) → MembersShaped nested name ms → SomePart k
    members_parts base of syntax.end k h nested name s = absurd h
    members_parts base of (syntax.more x xs) k (inl (inl h)) nested name s = (base, member_part x, (h.1, (nested, name, s.0)))
    members_parts base of (syntax.more x xs) k (inl (inr h)) nested name s = inner_parts base of x k h nested name s.0
    members_parts base of (syntax.more x xs) k (inr h) nested name s = members_parts base of xs k h nested name s.1

    inner_parts : (base : ℕ) (of : ClassKey) (x : syntax.Member Span) (k : MemberKey) → InInner begins declarations P base of x k → (nested : Bool) (name : List ℕ) → MemberShaped nested name x → SomePart k
    inner_parts base of (syntax.inner m c) k h nested name s = class_parts (begins m base) (Some of.name) c k h true s.1
    inner_parts base of (syntax.field m mods t w init) k h nested name s = absurd h
    inner_parts base of (syntax.method m mods t w ps body) k h nested name s = absurd h
    inner_parts base of (syntax.constructor m mods w ps args body) k h nested name s = absurd h

  classes_parts : (base : ℕ) (cs : List (syntax.Class Span)) (k : MemberKey) → InClasses begins declarations P base cs k → ClassesShaped cs → SomePart k
  classes_parts base [] k h s = absurd h
  classes_parts base (c ∷ cs) k (inl h) s = class_parts base None c k h false s.0
  classes_parts base (c ∷ cs) k (inr h) s = classes_parts base cs k h s.1

-- The list of a body that a file writes is shaped.
pub list_shaped : (p : Program Span) → IsProgram itself (λ m b. Unit {0}) p → MembersAreWritten Span → (file : ℕ) (b : Body) → HasBody p file b → StmtsShaped b.list
list_shaped p program written file b h =
    let w = h.member in
    let is = (written begins (units_of p) p.rows program.are_rows program.rows).each w (contains_at (written_members begins p.rows (units_of p)) h.number w h.written) in
    let found = file_of_unit p w.file is.unit is.stands in
    let shaped : ClassesShaped is.unit.classes = subst (λ (u : syntax.Unit Span). ClassesShaped u.classes) found.2 (program.reads w.file found.0 found.1).is.shaped in
    let some = classes_parts (declarations_of begins (units_of p)) (λ j n q. (n ≡ w.base) × (q ≡ w.part)) (begins is.unit.mark 0) is.unit.classes w.key is.writes shaped in
    body_shaped w.key w.base w.part b.bound b h.is (subst PartShaped some.2.0.1 some.2.1)
