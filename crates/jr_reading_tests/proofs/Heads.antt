-- A unit that reads from a text has the heads that a table is built of.
use Rattle.std.proofs.Common.{◌≡◌, ℕ, List, [], ◌∷◌, ◌++◌, Option, Some, None, Bool, true, false, Result, Ok, map, subst}
use Rattle.std.specs.Prelude.{IfOk}
use Rattle.jr_text.specs.declared.spans.Span.{Span}
use Rattle.jr_ast.specs.declared.members.Unit.{Unit}
use Rattle.jr_ast.specs.View.{unit_of}
use Rattle.jr_pexpr.specs.declared.faults.ParseFault.{ParseFault}
use Rattle.jr_grammar.specs.Reads.{Reads}
use Rattle.jr_ast.specs.Tree as tree
use Rattle.jr_ast.specs.MemberTree as syntax
use Rattle.jr_grammar.specs.MemberShape.{IsParent, HoldsClasses, ClassShaped, MemberShaped, MembersShaped, ClassesShaped}
use Rattle.jr_build_rows.specs.Heads.{NamesClass, MayHold, ClassHeads, MemberHeads, MembersHeads, ClassesHeads, UnitsHeads}

parent_named : {A : Type 0} (t : Option (tree.TypeName A)) → IsParent t → NamesClass t
parent_named None h = tt
parent_named (Some (tree.int m)) h = absurd h
parent_named (Some (tree.boolean m)) h = absurd h
parent_named (Some (tree.named m outer w)) h = tt

may_hold : (nested : Bool) → HoldsClasses nested → MayHold nested
may_hold true h = absurd h
may_hold false h = tt

mutual
  unfolding ClassHeads MemberHeads MembersHeads

  class_heads : {A : Type 0} (nested : Bool) (c : syntax.Class A) → ClassShaped nested c → ClassHeads nested c
  class_heads nested (syntax.class m mods w t ms) h = (parent_named t h.0, members_heads nested w.text ms h.1)

  member_heads : {A : Type 0} (nested : Bool) (name : List ℕ) (d : syntax.Member A) → MemberShaped nested name d → MemberHeads nested d
  member_heads nested name (syntax.field m mods t w init) h = tt
  member_heads nested name (syntax.method m mods t w ps body) h = tt
  member_heads nested name (syntax.constructor m mods w ps args body) h = tt
  member_heads nested name (syntax.inner m c) h = (may_hold nested h.0, class_heads true c h.1)

  members_heads : {A : Type 0} (nested : Bool) (name : List ℕ) (ds : syntax.Members A) → MembersShaped nested name ds → MembersHeads nested ds
  members_heads nested name syntax.end h = tt
  members_heads nested name (syntax.more d ds) h = (member_heads nested name d h.0, members_heads nested name ds h.1)

pub classes_heads : {A : Type 0} (cs : List (syntax.Class A)) → ClassesShaped cs → ClassesHeads cs
classes_heads [] h = tt
classes_heads (c ∷ cs) h = (class_heads false c h.0, classes_heads cs h.1)

-- of a tree that was read
pub from_reads : (text : List ℕ) (r : Result (Unit Span) ParseFault) (u : Unit Span) → r ≡ Ok u → IfOk r (λ read. Reads text (unit_of read)) → ClassesHeads (unit_of u).classes
from_reads text r u e h =
    let reads : Reads text (unit_of u) = subst (λ (x : Result (Unit Span) ParseFault). IfOk x (λ read. Reads text (unit_of read))) e h in
    classes_heads (unit_of u).classes reads.is.shaped

pub units_pushed : (us : List (Unit Span)) (u : Unit Span) → UnitsHeads (map unit_of us) → ClassesHeads (unit_of u).classes → UnitsHeads (map unit_of (us ++ u ∷ []))
units_pushed [] u h k = (k, tt)
units_pushed (v ∷ vs) u h k = (h.0, units_pushed vs u h.1 k)
