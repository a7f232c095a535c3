-- What is used for its value and has a type may be walked as a value: in front of a dot it notes the
-- same as elsewhere.
use Rattle.std.proofs.Common.{◌≡◌, ℕ, List, [], ◌∷◌, ◌++◌, Option, Some, None, refl, sym, ap, subst, ◌∙◌, inl, inr}
use Rattle.std.specs.Prelude.{◌⊎◌}
use Rattle.jr_text.specs.declared.spans.Span.{Span}
use Rattle.jr_ast.specs.Tree as tree
use Rattle.jr_ast.specs.StatementTree as statement
use Rattle.jr_grammar.specs.Layout.{itself}
use Rattle.jr_table.specs.Keys.{ClassKey, Ty}
use Rattle.jr_table.specs.Rows.{Row}
use Rattle.jr_table.specs.Decls.{Decl}
use Rattle.jr_table.specs.Found.{Found, one}
use Rattle.jr_table.specs.Conditions.{AreRows}
use Rattle.jr_table.specs.LookupLaws.{KeysFound}
use Rattle.jr_table.specs.BindingLaws.{AreBound, ExpressionsAreNoted}
use Rattle.jr_table.specs.Lookup.{find_variable, find_type_named, find_type_of, find_field_in}
use Rattle.jr_table.specs.Context.{Context, scope_of}
use Rattle.jr_table.specs.Binding.{Role, value, left, HasType, variable, type}
use Rattle.jr_table.specs.Binding as role
use Rattle.jr_table.specs.Meanings.{find_in, find_left, find_left_of, or_type, on_class, at_word, left_reference, class_name_of, type_of}
use Rattle.jr_table.specs.Notes.{Note, found_note, own_notes, object_notes, member_notes, operand_notes, target_notes, forward_notes, call_notes}
use Rattle.jr_members.specs.Fitting.{begins_by}
use Rattle.jr_bind.specs.Bounds.{Bound}
use Rattle.jr_pieces.specs.Ways.{ExpWay, here, in_front, in_target, in_argument, in_super_argument, in_created, in_paren, in_cast, in_unary, in_bump, in_left, in_right, in_assigned, in_value, in_changed, in_change}
use Rattle.jr_pieces.specs.Ways.{ExpsWay, first_argument, later_argument, StmtWay, in_init, in_eval, in_condition, in_then, in_else, in_turning, in_body, in_returned, in_block, in_lock, in_locked, ListWay, first, later}
use Rattle.jr_pieces.specs.Standings.{at_list}
use Rattle.jr_pieces.specs.Finding.{list_path}
use Rattle.jr_pieces.specs.Uses.{Use, valued, assigned, changed, stated, exp_use, exps_use, stmt_use, list_use}
use Rattle.jr_way_places.specs.PlacedWays.{exp_role, exps_role, stmt_role, list_role}
use Rattle.jr_new_bodies.specs.Ready.{ExpReadyIn}
use Rattle.jr_local_ways.specs.ReadyWays.{ValuesAreReady}
use Rattle.jr_local_ways.proofs.Ready.{ways_are_ready}
use Rattle.jr_local_ways.proofs.Unbased.{Anywhere, ready_so, unbased_ready}

-- ---- how it stands

-- what is valued stands as a value, or in front of a dot
abbrev Suits : Use → Role → Type 0
Suits u r = u ≡ valued → (r ≡ value) ⊎ (r ≡ left)

as_value : (u : Use) → Suits u value
as_value u e = inl refl

in_dots : (u : Use) → Suits u left
in_dots u e = inr refl

whole : (r : Role) → Suits stated r
whole r e = absurd cc

module _ {A : Type 0} {f : tree.Exp A} where
  mutual
    exp_suits : {e : tree.Exp A} (u : Use) (r : Role) (d : ExpWay f e) → Suits u r → Suits (exp_use u d) (exp_role r d)
    exp_suits u r here h = h
    exp_suits u r (in_front m e w d) h = exp_suits valued left d (in_dots valued)
    exp_suits u r (in_target m e w es d) h = exp_suits valued left d (in_dots valued)
    exp_suits u r (in_argument m t w es d) h = exps_suit d
    exp_suits u r (in_super_argument m w es d) h = exps_suit d
    exp_suits u r (in_created m t es d) h = exps_suit d
    exp_suits u r (in_paren m e d) h = exp_suits valued value d (as_value valued)
    exp_suits u r (in_cast m t e d) h = exp_suits valued value d (as_value valued)
    exp_suits u r (in_unary m o e d) h = exp_suits valued value d (as_value valued)
    exp_suits u r (in_bump m o e d) h = exp_suits changed value d (as_value changed)
    exp_suits u r (in_left m o x y d) h = exp_suits valued value d (as_value valued)
    exp_suits u r (in_right m o x y d) h = exp_suits valued value d (as_value valued)
    exp_suits u r (in_assigned m x y d) h = exp_suits assigned value d (as_value assigned)
    exp_suits u r (in_value m x y d) h = exp_suits valued value d (as_value valued)
    exp_suits u r (in_changed m o x y d) h = exp_suits changed value d (as_value changed)
    exp_suits u r (in_change m o x y d) h = exp_suits valued value d (as_value valued)

    exps_suit : {es : tree.Exps A} (d : ExpsWay f es) → Suits (exps_use d) (exps_role d)
    exps_suit (first_argument e es d) = exp_suits valued value d (as_value valued)
    exps_suit (later_argument e es d) = exps_suit d

  mutual
    stmt_suits : {s : statement.Stmt A} (d : StmtWay f s) → Suits (stmt_use d) (stmt_role d)
    stmt_suits (in_init m is_final t w e d) = exp_suits valued value d (as_value valued)
    stmt_suits (in_eval m e d) = exp_suits stated role.statement d (whole role.statement)
    stmt_suits (in_condition m c s o d) = exp_suits valued value d (as_value valued)
    stmt_suits (in_then m c s o d) = stmt_suits d
    stmt_suits (in_else m c s o d) = stmt_suits d
    stmt_suits (in_turning m c s d) = exp_suits valued value d (as_value valued)
    stmt_suits (in_body m c s d) = stmt_suits d
    stmt_suits (in_returned m e d) = exp_suits valued value d (as_value valued)
    stmt_suits (in_block m b d) = list_suits d
    stmt_suits (in_lock m e b d) = exp_suits valued value d (as_value valued)
    stmt_suits (in_locked m e b d) = list_suits d

    list_suits : {b : statement.Stmts A} (d : ListWay f b) → Suits (list_use d) (list_role d)
    list_suits (first s ss d) = stmt_suits d
    list_suits (later s ss d) = list_suits d

-- ---- what it notes

-- what is found as a variable is found in front of a dot
found_before : (at : ℕ) (x g : Found) (d : Decl) → x ≡ one d → found_note at variable x ≡ found_note at type (or_type x g)
found_before at x g d is = ap (found_note at variable) is ∙ sym (ap (λ (y : Found). found_note at type (or_type y g)) is)

module _ (rows : List Row) (c : Context) (base : ℕ) where
  -- all but what is noted of its references
  abbrev others : Role → tree.Exp Span → List Note
  others r e =
      object_notes (begins_by itself) rows c r base e
      ++ (member_notes (begins_by itself) rows c r base e ++ (operand_notes (begins_by itself) rows c r base e ++ (target_notes (begins_by itself) rows c r base e ++ (forward_notes (begins_by itself) rows c r base e ++ call_notes (begins_by itself) rows c r base e))))

  -- a field of what a name finds as a class, if it does, or of a value
  field_before : (at : ℕ) (name : List ℕ) (o : Option ClassKey) (t : Option Ty) (d : Decl) → find_in (on_class o t) (λ k. find_field_in rows (scope_of c) k name) ≡ one d
      → found_note at variable (find_in (on_class o t) (λ k. find_field_in rows (scope_of c) k name))
      ≡ found_note (left_reference (begins_by itself) rows c at o (on_class o t) name).at (left_reference (begins_by itself) rows c at o (on_class o t) name).sought (left_reference (begins_by itself) rows c at o (on_class o t) name).found
  unfolding find_left_of
  field_before at name None t d is = refl
  field_before at name (Some k) t d is = found_before at (find_field_in rows (scope_of c) k name) (find_type_of rows (scope_of c) k name) d is

  module _ (are : AreRows rows) (found : KeysFound) (bound : AreBound Span) where
    name_notes : (m : Span) (w : tree.Word Span) (t : Ty) → HasType rows c (tree.name m w) t → own_notes (begins_by itself) rows c value base (tree.name m w) ≡ own_notes (begins_by itself) rows c left base (tree.name m w)
    unfolding own_notes HasType find_left
    name_notes m w t h =
        ap (λ (n : Note). (n ∷ []) ++ others value (tree.name m w))
        (found_before (at_word (begins_by itself) m base w) (find_variable rows (scope_of c) w.text) (find_type_named rows (scope_of c) w.text) h.0 (((found rows are).variable (scope_of c) w.text (one h.0)).1 h.1))

    field_notes : (m : Span) (e : tree.Exp Span) (w : tree.Word Span) (t : Ty) → HasType rows c (tree.field m e w) t → own_notes (begins_by itself) rows c value base (tree.field m e w) ≡ own_notes (begins_by itself) rows c left base (tree.field m e w)
    unfolding own_notes HasType
    field_notes m e w t h =
        ap (λ (n : Note). (n ∷ []) ++ others value (tree.field m e w))
        (field_before (at_word (begins_by itself) m base w) w.text (class_name_of rows c e) (type_of rows c e) h.0 (((bound rows are (found rows are) c).fields e w.text (one h.0)).1 h.1))

    left_notes : (e : tree.Exp Span) (t : Ty) → HasType rows c e t → own_notes (begins_by itself) rows c value base e ≡ own_notes (begins_by itself) rows c left base e
    unfolding own_notes
    left_notes (tree.name m w) t h = name_notes m w t h
    left_notes (tree.field m e w) t h = field_notes m e w t h
    left_notes (tree.number m n) t h = refl
    left_notes (tree.truth m b) t h = refl
    left_notes (tree.null m) t h = refl
    left_notes (tree.string m s) t h = refl
    left_notes (tree.super_field m w) t h = refl
    left_notes (tree.this m) t h = refl
    left_notes (tree.class_literal m u) t h = refl
    left_notes (tree.call m tree.no_target w es) t h = refl
    left_notes (tree.call m (tree.on e) w es) t h = refl
    left_notes (tree.super_call m w es) t h = refl
    left_notes (tree.create m u es) t h = refl
    left_notes (tree.paren m e) t h = refl
    left_notes (tree.cast m u e) t h = refl
    left_notes (tree.unary m o e) t h = refl
    left_notes (tree.bump m o e) t h = refl
    left_notes (tree.binary m o x y) t h = refl
    left_notes (tree.assign m x y) t h = refl
    left_notes (tree.compound m o x y) t h = refl

-- ---- as a value

module _ (noted : ExpressionsAreNoted Span) (found : KeysFound) (bound : AreBound Span) (rows : List Row) (are : AreRows rows) (b : Bound) (from : ℕ) (c : Context) (path : List ℕ) (base : ℕ) (e : tree.Exp Span) (t : Ty) (typed : HasType rows c e t) where
  of_role : (r : Role) → (r ≡ value) ⊎ (r ≡ left) → ExpReadyIn itself Anywhere rows b from c r path base e → ExpReadyIn itself Anywhere rows b from c value path base e
  of_role r (inl is) h = subst (λ (s : Role). ExpReadyIn itself Anywhere rows b from c s path base e) is h
  of_role r (inr is) h =
      ready_so noted found rows are b from c left value path base base e (left_notes rows c base are found bound e t typed) (subst (λ (s : Role). ExpReadyIn itself Anywhere rows b from c s path base e) is h)

pub values_are_ready : ExpressionsAreNoted Span → KeysFound → AreBound Span → ValuesAreReady
values_are_ready noted found bound rows are b from p path i xs ready f way used t typed base =
    let there = at_list (begins_by itself) p way in
    let as_it_stands = (ways_are_ready rows b from p path i xs ready f way).expression in
    unbased_ready noted found rows are b from there.context value (path ++ list_path i way) there.base base f
    (of_role noted found bound rows are b from there.context (path ++ list_path i way) there.base f t typed (list_role way) (list_suits way used) as_it_stands)
