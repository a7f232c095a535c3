-- The locals that expressions and statements of a body write are those that names on its ways assign or
-- change: in a class's name stands no assignment, and a target is a name or a field.
use Rattle.std.proofs.Common.{◌≡◌, ◌⊎◌, inl, inr, ℕ, ◌-◌, nat_eq, Bool, true, false, ◌||◌, List, [], ◌∷◌, ◌++◌, Option, Some, None, refl, sym, ap, subst, ◌∙◌}
use Rattle.std.specs.Prelude.{◌↔◌}
use Rattle.std.proofs.lemmas.Bool.{eq-eqb, eqb-true, false≢true, or_left, or_right}
use Rattle.std.proofs.lemmas.List.Folds.{list_any-append}
use Rattle.jr_text.specs.declared.spans.Span.{Span}
use Rattle.jr_ast.specs.Tree as tree
use Rattle.jr_ast.specs.StatementTree as statement
use Rattle.jr_grammar.specs.Layout.{itself}
use Rattle.jr_grammar.specs.Shape.{IsTarget, ShapedBehind, AllShaped, is_minus, behind_of}
use Rattle.jr_grammar.specs.StatementShape.{StmtShaped, StmtsShaped}
use Rattle.jr_table.specs.Keys.{ClassKey, FieldKey}
use Rattle.jr_table.specs.Rows.{Row}
use Rattle.jr_table.specs.Decls.{class_decl}
use Rattle.jr_table.specs.LookupLaws.{KeysFound}
use Rattle.jr_table.specs.Context.{Context}
use Rattle.jr_table.specs.Binding.{HasType, IsClassName, TargetFinds, HaveTypes, Role, value, left}
use Rattle.jr_table.specs.Binding as role
use Rattle.jr_table.specs.BindingLaws.{AreBound}
use Rattle.jr_members.specs.WrittenLaws.{MembersAreWritten}
use Rattle.jr_bind.specs.Bounds.{decl_in}
use Rattle.jr_bind.specs.Programs.{Program, IsProgram}
use Rattle.jr_code.specs.RunKeys.{RunKeys}
use Rattle.jr_cover.specs.Facts.{Variable, is_local}
use Rattle.jr_expr_sites.specs.Meanings as meaning
use Rattle.jr_expr_sites.specs.Meanings.{Meaning, local, is_class, is_static_field, field_variable, variable_of}
use Rattle.jr_program_laws.specs.PlaceLaws.{PartsArePlaced}
use Rattle.jr_pieces.specs.Ways.{ExpWay, here, in_front, in_target, in_argument, in_super_argument, in_created, in_paren, in_cast, in_unary, in_bump, in_left, in_right, in_assigned, in_value, in_changed, in_change, ExpsWay, first_argument, later_argument}
use Rattle.jr_pieces.specs.Ways.{StmtWay, in_init, in_eval, in_condition, in_then, in_else, in_turning, in_body, in_returned, in_block, in_lock, in_locked, ListWay}
use Rattle.jr_pieces.specs.Ways as ways
use Rattle.jr_pieces.specs.Standings.{Standing, inside, behind, in_other, in_initializer, at_exp, at_stmt, at_list}
use Rattle.jr_pieces.specs.Uses.{Use, valued, assigned, changed, stated, exp_use, exps_use, stmt_use, list_use}
use Rattle.jr_way_places.specs.PlacedWays.{exp_role, exps_role, stmt_role, list_role, WaysAreWalked}
use Rattle.jr_way_places.proofs.Walked.{exp_context}
use Rattle.jr_member_graphs.specs.FlagRows.{is_among}
use Rattle.jr_member_graphs.specs.Notes as notes
use Rattle.jr_member_graphs.specs.Notes.{local_in, names_class, target_locals, exp_locals, receiver_locals, exps_locals, operand_locals, maybe_locals, stmt_notes, else_notes, stmts_notes}
use Rattle.jr_local.specs.Bodies.{begins, Body, HasBody}
use Rattle.jr_local.specs.BodyFacts.{meaning_at, variable_at, Assigns}
use Rattle.jr_local_footprints.proofs.ClassNames.{class_within, name_is_class, field_is_class}
use Rattle.jr_local_footprints.proofs.Evaluated.{class_meant}

-- ---- among numbers

abbrev pub Among : List ℕ → ℕ → Type 0
Among ns n = is_among ns n ≡ true

pub nobody : {T : Type 0} (n : ℕ) → Among [] n → T
nobody n e = absurd (false≢true e)

or_true : (b c : Bool) → (b || c) ≡ true → (b ≡ true) ⊎ (c ≡ true)
or_true true c e = inl refl
or_true false c e = inr e

pub split : (xs ys : List ℕ) (n : ℕ) → Among (xs ++ ys) n → Among xs n ⊎ Among ys n
split xs ys n e = or_true (is_among xs n) (is_among ys n) (sym (list_any-append (nat_eq n) xs ys) ∙ e)

pub in_front_of : (xs ys : List ℕ) (n : ℕ) → Among xs n → Among (xs ++ ys) n
in_front_of xs ys n e = list_any-append (nat_eq n) xs ys ∙ or_left (is_among xs n) (is_among ys n) e

pub in_back_of : (xs ys : List ℕ) (n : ℕ) → Among ys n → Among (xs ++ ys) n
in_back_of xs ys n e = list_any-append (nat_eq n) xs ys ∙ or_right (is_among xs n) (is_among ys n) e

among_unless : (c : Bool) (ns : List ℕ) (n : ℕ) → Among (notes.unless c ns) n → Among ns n
among_unless true ns n e = nobody n e
among_unless false ns n e = e

-- ---- what a name means

written_local : (m : Meaning) (n : ℕ) → Among (local_in m) n → m ≡ local n
written_local (local k) n e = ap local (by (or_true (nat_eq n k) false e))
  where
    by : ((nat_eq n k ≡ true) ⊎ (false ≡ true)) → k ≡ n
    by (inl same) = sym (eqb-true n k same)
    by (inr un) = absurd (false≢true un)
written_local (meaning.field k) n e = nobody n e
written_local meaning.class n e = nobody n e
written_local meaning.nothing n e = nobody n e

pub local_written : (m : Meaning) (n : ℕ) → m ≡ local n → Among (local_in m) n
local_written m n e = subst (λ (x : Meaning). Among (local_in x) n) (sym e) (ap (λ (b : Bool). b || false) (eq-eqb n n refl))

module _ (rows : List Row) where
  pub to_variable : (m : Meaning) (n : ℕ) → m ≡ local n → variable_of rows m ≡ Some (is_local n)
  to_variable m n e = ap (variable_of rows) e

  of_static : (c : Bool) (k : FieldKey) (n : ℕ) → (let v : Option (Variable RunKeys) = Some (field_variable c k) in v ≡ Some (is_local n)) → ⊥
  of_static true k n e = cc
  of_static false k n e = cc

  pub to_meaning : (m : Meaning) (n : ℕ) → variable_of rows m ≡ Some (is_local n) → m ≡ local n
  to_meaning (local k) n e = ap local (same k e)
    where
      same : (j : ℕ) → (let v : Option (Variable RunKeys) = Some (is_local j) in v ≡ Some (is_local n)) → j ≡ n
      same j h = cc
  to_meaning (meaning.field k) n e = absurd (of_static (is_static_field rows k) k n e)
  to_meaning meaning.class n e = absurd (no e)
    where
      no : (let v : Option (Variable RunKeys) = None in v ≡ Some (is_local n)) → ⊥
      no h = cc
  to_meaning meaning.nothing n e = absurd (no e)
    where
      no : (let v : Option (Variable RunKeys) = None in v ≡ Some (is_local n)) → ⊥
      no h = cc

-- it is assigned, or changed
abbrev pub IsTargetUse : Use → Type 0
IsTargetUse u = (u ≡ assigned) ⊎ (u ≡ changed)

pub not_valued : (let u : Use = valued in IsTargetUse u) → ⊥
not_valued (inl e) = cc
not_valued (inr e) = cc

pub not_stated : (let u : Use = stated in IsTargetUse u) → ⊥
not_stated (inl e) = cc
not_stated (inr e) = cc

-- ---- from what is written to a name

module _ (M : ℕ → Meaning) (n : ℕ) where
  pub record ExpAt (e : tree.Exp Span) (u : Use) : Type 0 where
    pub mark : Span
    pub word : tree.Word Span
    pub way : ExpWay (tree.name mark word) e
    pub means : M word.mark.from ≡ local n
    pub used : IsTargetUse (exp_use u way)

  pub record ExpsAt (es : tree.Exps Span) : Type 0 where
    pub mark : Span
    pub word : tree.Word Span
    pub way : ExpsWay (tree.name mark word) es
    pub means : M word.mark.from ≡ local n
    pub used : IsTargetUse (exps_use way)

  target_at : (t : tree.Exp Span) (at : ℕ) (u : Use) → IsTargetUse u → Among (target_locals itself M at t) n → ExpAt t u
  target_at (tree.name m w) at u is e = record { mark = m; word = w; way = here; means = written_local (M w.mark.from) n e; used = is }
  target_at (tree.field m x w) at u is e = nobody n e
  target_at (tree.number m v) at u is e = nobody n e
  target_at (tree.truth m v) at u is e = nobody n e
  target_at (tree.null m) at u is e = nobody n e
  target_at (tree.string m s) at u is e = nobody n e
  target_at (tree.super_field m w) at u is e = nobody n e
  target_at (tree.this m) at u is e = nobody n e
  target_at (tree.class_literal m t) at u is e = nobody n e
  target_at (tree.call m t w es) at u is e = nobody n e
  target_at (tree.super_call m w es) at u is e = nobody n e
  target_at (tree.create m t es) at u is e = nobody n e
  target_at (tree.paren m x) at u is e = nobody n e
  target_at (tree.cast m t x) at u is e = nobody n e
  target_at (tree.unary m o x) at u is e = nobody n e
  target_at (tree.bump m o x) at u is e = nobody n e
  target_at (tree.binary m o x y) at u is e = nobody n e
  target_at (tree.assign m x y) at u is e = nobody n e
  target_at (tree.compound m o x y) at u is e = nobody n e

  mutual
    unfolding exp_locals receiver_locals exps_locals operand_locals

    pub exp_at : (e : tree.Exp Span) (at : ℕ) (u : Use) → Among (exp_locals itself M at e) n → ExpAt e u
    exp_at (tree.number m v) at u a = nobody n a
    exp_at (tree.truth m v) at u a = nobody n a
    exp_at (tree.null m) at u a = nobody n a
    exp_at (tree.string m s) at u a = nobody n a
    exp_at (tree.name m w) at u a = nobody n a
    exp_at (tree.field m e w) at u a =
        let r = exp_at e m.from valued (among_unless (names_class itself M m.from e) (exp_locals itself M m.from e) n a) in
        record { mark = r.mark; word = r.word; way = in_front m e w r.way; means = r.means; used = r.used }
    exp_at (tree.super_field m w) at u a = nobody n a
    exp_at (tree.this m) at u a = nobody n a
    exp_at (tree.class_literal m t) at u a = nobody n a
    exp_at (tree.call m tree.no_target w es) at u a = elim (split [] (exps_locals itself M m.from es) n a) [
      | inl h ↦ nobody n h
      | inr h ↦ (let r = exps_at es m.from h in record { mark = r.mark; word = r.word; way = in_argument m tree.no_target w es r.way; means = r.means; used = r.used })
    ]
    exp_at (tree.call m (tree.on e) w es) at u a = elim (split (receiver_locals itself M m.from (tree.on e)) (exps_locals itself M m.from es) n a) [
      | inl h ↦ (let r = exp_at e m.from valued (among_unless (names_class itself M m.from e) (exp_locals itself M m.from e) n h) in record { mark = r.mark; word = r.word; way = in_target m e w es r.way; means = r.means; used = r.used })
      | inr h ↦ (let r = exps_at es m.from h in record { mark = r.mark; word = r.word; way = in_argument m (tree.on e) w es r.way; means = r.means; used = r.used })
    ]
    exp_at (tree.super_call m w es) at u a = (let r = exps_at es m.from a in record { mark = r.mark; word = r.word; way = in_super_argument m w es r.way; means = r.means; used = r.used })
    exp_at (tree.create m t es) at u a = (let r = exps_at es m.from a in record { mark = r.mark; word = r.word; way = in_created m t es r.way; means = r.means; used = r.used })
    exp_at (tree.paren m e) at u a = (let r = exp_at e m.from valued a in record { mark = r.mark; word = r.word; way = in_paren m e r.way; means = r.means; used = r.used })
    exp_at (tree.cast m t e) at u a = (let r = exp_at e m.from valued a in record { mark = r.mark; word = r.word; way = in_cast m t e r.way; means = r.means; used = r.used })
    exp_at (tree.unary m o e) at u a = (let r = exp_at e m.from valued a in record { mark = r.mark; word = r.word; way = in_unary m o e r.way; means = r.means; used = r.used })
    exp_at (tree.bump m o t) at u a = bumped (elim (split (operand_locals itself M m.from t) (target_locals itself M m.from t) n a) [
      | inl h ↦ operand_at t m.from changed h
      | inr h ↦ target_at t m.from changed (inr refl) h
    ])
      where
        bumped : ExpAt t changed → ExpAt (tree.bump m o t) u
        bumped r = record { mark = r.mark; word = r.word; way = in_bump m o t r.way; means = r.means; used = r.used }
    exp_at (tree.binary m o x y) at u a = elim (split (exp_locals itself M m.from x) (exp_locals itself M m.from y) n a) [
      | inl h ↦ (let r = exp_at x m.from valued h in record { mark = r.mark; word = r.word; way = in_left m o x y r.way; means = r.means; used = r.used })
      | inr h ↦ (let r = exp_at y m.from valued h in record { mark = r.mark; word = r.word; way = in_right m o x y r.way; means = r.means; used = r.used })
    ]
    exp_at (tree.assign m x y) at u a = elim (split (operand_locals itself M m.from x) (exp_locals itself M m.from y ++ target_locals itself M m.from x) n a) [
      | inl h ↦ to_target (operand_at x m.from assigned h)
      | inr h ↦ elim (split (exp_locals itself M m.from y) (target_locals itself M m.from x) n h) [
        | inl k ↦ (let r = exp_at y m.from valued k in record { mark = r.mark; word = r.word; way = in_value m x y r.way; means = r.means; used = r.used })
        | inr k ↦ to_target (target_at x m.from assigned (inl refl) k)
      ]
    ]
      where
        to_target : ExpAt x assigned → ExpAt (tree.assign m x y) u
        to_target r = record { mark = r.mark; word = r.word; way = in_assigned m x y r.way; means = r.means; used = r.used }
    exp_at (tree.compound m o x y) at u a = elim (split (operand_locals itself M m.from x) (exp_locals itself M m.from y ++ target_locals itself M m.from x) n a) [
      | inl h ↦ to_target (operand_at x m.from changed h)
      | inr h ↦ elim (split (exp_locals itself M m.from y) (target_locals itself M m.from x) n h) [
        | inl k ↦ (let r = exp_at y m.from valued k in record { mark = r.mark; word = r.word; way = in_change m o x y r.way; means = r.means; used = r.used })
        | inr k ↦ to_target (target_at x m.from changed (inr refl) k)
      ]
    ]
      where
        to_target : ExpAt x changed → ExpAt (tree.compound m o x y) u
        to_target r = record { mark = r.mark; word = r.word; way = in_changed m o x y r.way; means = r.means; used = r.used }

    pub exps_at : (es : tree.Exps Span) (at : ℕ) → Among (exps_locals itself M at es) n → ExpsAt es
    exps_at tree.end at a = nobody n a
    exps_at (tree.more e es) at a = elim (split (exp_locals itself M at e) (exps_locals itself M at es) n a) [
      | inl h ↦ (let r = exp_at e at valued h in record { mark = r.mark; word = r.word; way = first_argument e es r.way; means = r.means; used = r.used })
      | inr h ↦ (let r = exps_at es at h in record { mark = r.mark; word = r.word; way = later_argument e es r.way; means = r.means; used = r.used })
    ]

    operand_at : (t : tree.Exp Span) (at : ℕ) (u : Use) → Among (operand_locals itself M at t) n → ExpAt t u
    operand_at (tree.field m e w) at u a =
        let r = exp_at e m.from valued (among_unless (names_class itself M m.from e) (exp_locals itself M m.from e) n a) in
        record { mark = r.mark; word = r.word; way = in_front m e w r.way; means = r.means; used = r.used }
    operand_at (tree.name m w) at u a = nobody n a
    operand_at (tree.number m v) at u a = nobody n a
    operand_at (tree.truth m v) at u a = nobody n a
    operand_at (tree.null m) at u a = nobody n a
    operand_at (tree.string m s) at u a = nobody n a
    operand_at (tree.super_field m w) at u a = nobody n a
    operand_at (tree.this m) at u a = nobody n a
    operand_at (tree.class_literal m t) at u a = nobody n a
    operand_at (tree.call m t w es) at u a = nobody n a
    operand_at (tree.super_call m w es) at u a = nobody n a
    operand_at (tree.create m t es) at u a = nobody n a
    operand_at (tree.paren m x) at u a = nobody n a
    operand_at (tree.cast m t x) at u a = nobody n a
    operand_at (tree.unary m o x) at u a = nobody n a
    operand_at (tree.bump m o x) at u a = nobody n a
    operand_at (tree.binary m o x y) at u a = nobody n a
    operand_at (tree.assign m x y) at u a = nobody n a
    operand_at (tree.compound m o x y) at u a = nobody n a
