-- From names that a body assigns or changes to the locals that are gathered as written, and both ways.
use Rattle.std.proofs.Common.{◌≡◌, ◌⊎◌, inl, inr, ℕ, ◌-◌, Bool, true, false, ◌++◌, List, Option, Some, None, refl, sym, ap, subst, ◌∙◌}
use Rattle.std.specs.Prelude.{◌↔◌}
use Rattle.jr_text.specs.declared.spans.Span.{Span}
use Rattle.jr_ast.specs.Tree as tree
use Rattle.jr_ast.specs.StatementTree as statement
use Rattle.jr_grammar.specs.Layout.{itself}
use Rattle.jr_grammar.specs.Shape.{IsTarget, ShapedBehind, AllShaped, is_minus, behind_of}
use Rattle.jr_grammar.specs.StatementShape.{StmtShaped, ElseShaped, StmtsShaped}
use Rattle.jr_table.specs.Keys.{ClassKey}
use Rattle.jr_table.specs.Rows.{Row}
use Rattle.jr_table.specs.Decls.{class_decl}
use Rattle.jr_table.specs.LookupLaws.{KeysFound}
use Rattle.jr_table.specs.Context.{Context}
use Rattle.jr_table.specs.Binding.{HasType, IsClassName, TargetFinds, HaveTypes, Role, value, left}
use Rattle.jr_table.specs.Binding as role
use Rattle.jr_table.specs.BindingLaws.{AreBound}
use Rattle.jr_members.specs.WrittenLaws.{MembersAreWritten}
use Rattle.jr_bind.specs.Bounds.{decl_in}
use Rattle.jr_bind.specs.Programs.{Program, IsProgram}
use Rattle.jr_expr_sites.specs.Meanings.{Meaning, local, is_class}
use Rattle.jr_program_laws.specs.PlaceLaws.{PartsArePlaced}
use Rattle.jr_pieces.specs.Ways.{ExpWay, here, in_front, in_target, in_argument, in_super_argument, in_created, in_paren, in_cast, in_unary, in_bump, in_left, in_right, in_assigned, in_value, in_changed, in_change, ExpsWay, first_argument, later_argument}
use Rattle.jr_pieces.specs.Ways.{StmtWay, in_init, in_eval, in_condition, in_then, in_else, in_turning, in_body, in_returned, in_block, in_lock, in_locked, ListWay}
use Rattle.jr_pieces.specs.Ways as ways
use Rattle.jr_pieces.specs.Standings.{at_list}
use Rattle.jr_pieces.specs.Uses.{Use, valued, assigned, changed, stated, exp_use, exps_use, stmt_use, list_use}
use Rattle.jr_way_places.specs.PlacedWays.{exp_role, exps_role, stmt_role, list_role, WaysAreWalked}
use Rattle.jr_member_graphs.specs.Notes as notes
use Rattle.jr_member_graphs.specs.Notes.{names_class, target_locals, exp_locals, receiver_locals, exps_locals, operand_locals, maybe_locals, stmt_notes, else_notes, stmts_notes}
use Rattle.jr_local.specs.Bodies.{begins, Body, HasBody}
use Rattle.jr_local.specs.BodyFacts.{meaning_at, Assigns}
use Rattle.jr_local_footprints.proofs.ClassNames.{name_is_class, field_is_class}
use Rattle.jr_local_footprints.proofs.Evaluated.{or_false, class_meant}
use Rattle.jr_local_footprints.proofs.Assigns.{Among, nobody, split, in_front_of, in_back_of, local_written, to_variable, to_meaning, IsTargetUse, not_valued, not_stated, ExpAt, exp_at}

unless_among : (c : Bool) (ns : List ℕ) (n : ℕ) → c ≡ false → Among ns n → Among (notes.unless c ns) n
unless_among c ns n e a = subst (λ (x : Bool). Among (notes.unless x ns) n) (sym e) a

-- what stands in a class's name is used for its value
path_use : (rows : List Row) (c : Context) (f e : tree.Exp Span) (d : ExpWay f e) (k : ClassKey) → IsClassName rows c e k → exp_use valued d ≡ valued
unfolding HasType IsClassName TargetFinds HaveTypes
path_use rows c f _ here k h = refl
path_use rows c f _ (in_front m e w d) k h = path_use rows c f e d h.0 h.1
path_use rows c f _ (in_target m e w es d) k h = absurd h
path_use rows c f _ (in_argument m t w es d) k h = absurd h
path_use rows c f _ (in_super_argument m w es d) k h = absurd h
path_use rows c f _ (in_created m t es d) k h = absurd h
path_use rows c f _ (in_paren m e d) k h = absurd h
path_use rows c f _ (in_cast m t e d) k h = absurd h
path_use rows c f _ (in_unary m o e d) k h = absurd h
path_use rows c f _ (in_bump m o e d) k h = absurd h
path_use rows c f _ (in_left m o x y d) k h = absurd h
path_use rows c f _ (in_right m o x y d) k h = absurd h
path_use rows c f _ (in_assigned m x y d) k h = absurd h
path_use rows c f _ (in_value m x y d) k h = absurd h
path_use rows c f _ (in_changed m o x y d) k h = absurd h
path_use rows c f _ (in_change m o x y d) k h = absurd h

module _ (written : MembersAreWritten Span) (placed : PartsArePlaced) (walked : WaysAreWalked Span) (found : KeysFound) (are_bound : AreBound Span)
    (p : Program Span) (program : IsProgram itself (λ m b. Unit {0}) p) (file : ℕ) (b : Body) (has : HasBody p file b) where
  abbrev M : ℕ → Meaning
  M = meaning_at p b

  abbrev ExpLeads : tree.Exp Span → Role → Type 0
  ExpLeads e r = (g : tree.Exp Span) (v : ExpWay g e) → (d : ListWay g b.list) × (list_role d ≡ exp_role r v)

  abbrev ExpsLead : tree.Exps Span → Type 0
  ExpsLead es = (g : tree.Exp Span) (v : ExpsWay g es) → (d : ListWay g b.list) × (list_role d ≡ exps_role v)

  abbrev StmtLeads : statement.Stmt Span → Type 0
  StmtLeads s = (g : tree.Exp Span) (v : StmtWay g s) → (d : ListWay g b.list) × (list_role d ≡ stmt_role v)

  abbrev ListLeads : statement.Stmts Span → Type 0
  ListLeads ss = (g : tree.Exp Span) (v : ListWay g ss) → (d : ListWay g b.list) × (list_role d ≡ list_role v)

  module _ (n : ℕ) (mark : Span) (word : tree.Word Span) (means : M word.mark.from ≡ local n) where
    abbrev x : tree.Exp Span
    x = tree.name mark word

    -- in front of a dot stands no class's name, if a target stands in it
    no_class : (e : tree.Exp Span) (at : ℕ) (d : ExpWay x e) → ExpLeads e left → IsTargetUse (exp_use valued d) → names_class itself M at e ≡ false
    no_class (tree.name m w) at d leads used = or_false (is_class (M w.mark.from)) (λ t. is_name (class_meant (decl_in b.bound.references (w.mark.from - b.at.base)) t))
      where
        is_name : ((k : ClassKey) × (decl_in b.bound.references (w.mark.from - b.at.base) ≡ Some (class_decl k))) → ⊥
        is_name (k, is) =
            let l = leads (tree.name m w) here in
            let named = name_is_class written placed walked found are_bound p program file b has m w l.0 l.1 k is in
            not_valued (subst IsTargetUse (path_use p.rows (at_list begins b.at l.0).context x (tree.name m w) d k named) used)
    no_class (tree.field m e w) at d leads used = or_false (is_class (M w.mark.from)) (λ t. is_field (class_meant (decl_in b.bound.references (w.mark.from - b.at.base)) t))
      where
        is_field : ((k : ClassKey) × (decl_in b.bound.references (w.mark.from - b.at.base) ≡ Some (class_decl k))) → ⊥
        is_field (k, is) =
            let l = leads (tree.field m e w) here in
            let named = field_is_class written placed walked found are_bound p program file b has m e w l.0 l.1 k is in
            not_valued (subst IsTargetUse (path_use p.rows (at_list begins b.at l.0).context x (tree.field m e w) d k named) used)
    no_class (tree.number m v) at d leads used = refl
    no_class (tree.truth m v) at d leads used = refl
    no_class (tree.null m) at d leads used = refl
    no_class (tree.string m s) at d leads used = refl
    no_class (tree.super_field m w) at d leads used = refl
    no_class (tree.this m) at d leads used = refl
    no_class (tree.class_literal m t) at d leads used = refl
    no_class (tree.call m t w es) at d leads used = refl
    no_class (tree.super_call m w es) at d leads used = refl
    no_class (tree.create m t es) at d leads used = refl
    no_class (tree.paren m e) at d leads used = refl
    no_class (tree.cast m t e) at d leads used = refl
    no_class (tree.unary m o e) at d leads used = refl
    no_class (tree.bump m o e) at d leads used = refl
    no_class (tree.binary m o y z) at d leads used = refl
    no_class (tree.assign m y z) at d leads used = refl
    no_class (tree.compound m o y z) at d leads used = refl

    -- written in the expression, or the expression is the target itself
    abbrev ExpWrites : tree.Exp Span → ℕ → Use → Type 0
    ExpWrites e at u = Among (exp_locals itself M at e) n ⊎ (IsTargetUse u × Among (target_locals itself M at e) n)

    within : (e : tree.Exp Span) (at : ℕ) → ExpWrites e at valued → Among (exp_locals itself M at e) n
    within e at (inl h) = h
    within e at (inr h) = absurd (not_valued h.0)

    mutual
      unfolding exp_locals receiver_locals exps_locals operand_locals

      exp_back : (c : Bool) (e : tree.Exp Span) (r : Role) (u : Use) (at : ℕ) (d : ExpWay x e) → ShapedBehind c e → ExpLeads e r → IsTargetUse (exp_use u d) → ExpWrites e at u
      exp_back c _ r u at here h l used = inr (used, local_written (M word.mark.from) n means)
      exp_back c _ r u at (in_front m e w d) h l used =
          let k = λ (g : tree.Exp Span) (v : ExpWay g e). l g (in_front m e w v) in
          inl (unless_among (names_class itself M m.from e) (exp_locals itself M m.from e) n (no_class e m.from d k used) (within e m.from (exp_back c e left valued m.from d h.1 k used)))
      exp_back c _ r u at (in_target m e w es d) h l used =
          let k = λ (g : tree.Exp Span) (v : ExpWay g e). l g (in_target m e w es v) in
          inl (in_front_of (receiver_locals itself M m.from (tree.on e)) (exps_locals itself M m.from es) n (unless_among (names_class itself M m.from e) (exp_locals itself M m.from e) n (no_class e m.from d k used) (within e m.from (exp_back c e left valued m.from d h.0.1 k used))))
      exp_back c _ r u at (in_argument m t w es d) h l used = inl (in_back_of (receiver_locals itself M m.from t) (exps_locals itself M m.from es) n (exps_back es m.from d h.1 (λ g v. l g (in_argument m t w es v)) used))
      exp_back c _ r u at (in_super_argument m w es d) h l used = inl (exps_back es m.from d h (λ g v. l g (in_super_argument m w es v)) used)
      exp_back c _ r u at (in_created m t es d) h l used = inl (exps_back es m.from d h.1 (λ g v. l g (in_created m t es v)) used)
      exp_back c _ r u at (in_paren m e d) h l used = inl (within e m.from (exp_back false e value valued m.from d h (λ g v. l g (in_paren m e v)) used))
      exp_back c _ r u at (in_cast m t e d) h l used = inl (within e m.from (exp_back false e value valued m.from d h.2 (λ g v. l g (in_cast m t e v)) used))
      exp_back c _ r u at (in_unary m o e d) h l used = inl (within e m.from (exp_back (is_minus o) e value valued m.from d h.1 (λ g v. l g (in_unary m o e v)) used))
      exp_back c _ r u at (in_bump m o e d) h l used = inl (elim (target_back (behind_of c o) e changed m.from d h.0 h.1 (λ g v. l g (in_bump m o e v)) used) [
        | inl k ↦ in_front_of (operand_locals itself M m.from e) (target_locals itself M m.from e) n k
        | inr k ↦ in_back_of (operand_locals itself M m.from e) (target_locals itself M m.from e) n k
      ])
      exp_back c _ r u at (in_left m o y z d) h l used = inl (in_front_of (exp_locals itself M m.from y) (exp_locals itself M m.from z) n (within y m.from (exp_back c y value valued m.from d h.1 (λ g v. l g (in_left m o y z v)) used)))
      exp_back c _ r u at (in_right m o y z d) h l used = inl (in_back_of (exp_locals itself M m.from y) (exp_locals itself M m.from z) n (within z m.from (exp_back false z value valued m.from d h.2 (λ g v. l g (in_right m o y z v)) used)))
      exp_back c _ r u at (in_assigned m y z d) h l used = inl (elim (target_back c y assigned m.from d h.0 h.1 (λ g v. l g (in_assigned m y z v)) used) [
        | inl k ↦ in_front_of (operand_locals itself M m.from y) (exp_locals itself M m.from z ++ target_locals itself M m.from y) n k
        | inr k ↦ in_back_of (operand_locals itself M m.from y) (exp_locals itself M m.from z ++ target_locals itself M m.from y) n (in_back_of (exp_locals itself M m.from z) (target_locals itself M m.from y) n k)
      ])
      exp_back c _ r u at (in_value m y z d) h l used =
          inl (in_back_of (operand_locals itself M m.from y) (exp_locals itself M m.from z ++ target_locals itself M m.from y) n (in_front_of (exp_locals itself M m.from z) (target_locals itself M m.from y) n (within z m.from (exp_back false z value valued m.from d h.2 (λ g v. l g (in_value m y z v)) used))))
      exp_back c _ r u at (in_changed m o y z d) h l used = inl (elim (target_back c y changed m.from d h.1 h.2 (λ g v. l g (in_changed m o y z v)) used) [
        | inl k ↦ in_front_of (operand_locals itself M m.from y) (exp_locals itself M m.from z ++ target_locals itself M m.from y) n k
        | inr k ↦ in_back_of (operand_locals itself M m.from y) (exp_locals itself M m.from z ++ target_locals itself M m.from y) n (in_back_of (exp_locals itself M m.from z) (target_locals itself M m.from y) n k)
      ])
      exp_back c _ r u at (in_change m o y z d) h l used =
          inl (in_back_of (operand_locals itself M m.from y) (exp_locals itself M m.from z ++ target_locals itself M m.from y) n (in_front_of (exp_locals itself M m.from z) (target_locals itself M m.from y) n (within z m.from (exp_back false z value valued m.from d h.3 (λ g v. l g (in_change m o y z v)) used))))

      exps_back : (es : tree.Exps Span) (at : ℕ) (d : ExpsWay x es) → AllShaped es → ExpsLead es → IsTargetUse (exps_use d) → Among (exps_locals itself M at es) n
      exps_back _ at (first_argument e es d) h l used = in_front_of (exp_locals itself M at e) (exps_locals itself M at es) n (within e at (exp_back false e value valued at d h.0 (λ g v. l g (first_argument e es v)) used))
      exps_back _ at (later_argument e es d) h l used = in_back_of (exp_locals itself M at e) (exps_locals itself M at es) n (exps_back es at d h.1 (λ g v. l g (later_argument e es v)) used)

      target_back : (c : Bool) (t : tree.Exp Span) (u : Use) (at : ℕ) (d : ExpWay x t) → IsTarget t → ShapedBehind c t → ExpLeads t value → IsTargetUse (exp_use u d) → Among (operand_locals itself M at t) n ⊎ Among (target_locals itself M at t) n
      target_back c _ u at here is h l used = inr (local_written (M word.mark.from) n means)
      target_back c _ u at (in_front m e w d) is h l used =
          let k = λ (g : tree.Exp Span) (v : ExpWay g e). l g (in_front m e w v) in
          inl (unless_among (names_class itself M m.from e) (exp_locals itself M m.from e) n (no_class e m.from d k used) (within e m.from (exp_back c e left valued m.from d h.1 k used)))
      target_back c _ u at (in_target m e w es d) is h l used = absurd is
      target_back c _ u at (in_argument m t w es d) is h l used = absurd is
      target_back c _ u at (in_super_argument m w es d) is h l used = absurd is
      target_back c _ u at (in_created m t es d) is h l used = absurd is
      target_back c _ u at (in_paren m e d) is h l used = absurd is
      target_back c _ u at (in_cast m t e d) is h l used = absurd is
      target_back c _ u at (in_unary m o e d) is h l used = absurd is
      target_back c _ u at (in_bump m o e d) is h l used = absurd is
      target_back c _ u at (in_left m o y z d) is h l used = absurd is
      target_back c _ u at (in_right m o y z d) is h l used = absurd is
      target_back c _ u at (in_assigned m y z d) is h l used = absurd is
      target_back c _ u at (in_value m y z d) is h l used = absurd is
      target_back c _ u at (in_changed m o y z d) is h l used = absurd is
      target_back c _ u at (in_change m o y z d) is h l used = absurd is

    part_back : (c : Bool) (e : tree.Exp Span) (at : ℕ) (d : ExpWay x e) → ShapedBehind c e → ExpLeads e value → IsTargetUse (exp_use valued d) → Among (exp_locals itself M at e) n
    part_back c e at d h l used = within e at (exp_back c e value valued at d h l used)

    whole_back : (e : tree.Exp Span) (at : ℕ) → ExpWrites e at stated → Among (exp_locals itself M at e) n
    whole_back e at (inl h) = h
    whole_back e at (inr h) = absurd (not_stated h.0)

    mutual
      unfolding stmt_notes else_notes stmts_notes

      stmt_back : (s : statement.Stmt Span) (at : ℕ) (d : StmtWay x s) → StmtShaped s → StmtLeads s → IsTargetUse (stmt_use d) → Among (stmt_notes itself M at s).writes n
      stmt_back _ at (in_init m is_final t w e d) h l used = part_back false e m.from d h (λ g v. l g (in_init m is_final t w e v)) used
      stmt_back _ at (in_eval m e d) h l used = whole_back e m.from (exp_back false e role.statement stated m.from d h.1 (λ g v. l g (in_eval m e v)) used)
      stmt_back _ at (in_condition m y s o d) h l used =
          in_front_of (exp_locals itself M m.from y) ((stmt_notes itself M m.from s).writes ++ (else_notes itself M m.from o).writes) n (part_back false y m.from d h.0 (λ g v. l g (in_condition m y s o v)) used)
      stmt_back _ at (in_then m y s o d) h l used =
          in_back_of (exp_locals itself M m.from y) ((stmt_notes itself M m.from s).writes ++ (else_notes itself M m.from o).writes) n (in_front_of (stmt_notes itself M m.from s).writes (else_notes itself M m.from o).writes n (stmt_back s m.from d h.2 (λ g v. l g (in_then m y s o v)) used))
      stmt_back _ at (in_else m y s o d) h l used =
          in_back_of (exp_locals itself M m.from y) ((stmt_notes itself M m.from s).writes ++ (stmt_notes itself M m.from o).writes) n (in_back_of (stmt_notes itself M m.from s).writes (stmt_notes itself M m.from o).writes n (stmt_back o m.from d h.3.2 (λ g v. l g (in_else m y s o v)) used))
      stmt_back _ at (in_turning m y s d) h l used = in_front_of (exp_locals itself M m.from y) (stmt_notes itself M m.from s).writes n (part_back false y m.from d h.0 (λ g v. l g (in_turning m y s v)) used)
      stmt_back _ at (in_body m y s d) h l used = in_back_of (exp_locals itself M m.from y) (stmt_notes itself M m.from s).writes n (stmt_back s m.from d h.2 (λ g v. l g (in_body m y s v)) used)
      stmt_back _ at (in_returned m e d) h l used = part_back false e m.from d h (λ g v. l g (in_returned m e v)) used
      stmt_back _ at (in_block m ss d) h l used = list_back ss m.from d h (λ g v. l g (in_block m ss v)) used
      stmt_back _ at (in_lock m e ss d) h l used = in_front_of (exp_locals itself M m.from e) (stmts_notes itself M m.from ss).writes n (part_back false e m.from d h.0 (λ g v. l g (in_lock m e ss v)) used)
      stmt_back _ at (in_locked m e ss d) h l used = in_back_of (exp_locals itself M m.from e) (stmts_notes itself M m.from ss).writes n (list_back ss m.from d h.1 (λ g v. l g (in_locked m e ss v)) used)

      list_back : (ss : statement.Stmts Span) (at : ℕ) (d : ListWay x ss) → StmtsShaped ss → ListLeads ss → IsTargetUse (list_use d) → Among (stmts_notes itself M at ss).writes n
      list_back _ at (ways.first s ss d) h l used = in_front_of (stmt_notes itself M at s).writes (stmts_notes itself M at ss).writes n (stmt_back s at d h.0 (λ g v. l g (ways.first s ss v)) used)
      list_back _ at (ways.later s ss d) h l used = in_back_of (stmt_notes itself M at s).writes (stmts_notes itself M at ss).writes n (list_back ss at d h.1 (λ g v. l g (ways.later s ss v)) used)

  -- ---- from what is gathered of statements to a name

  module _ (n : ℕ) where
    record StmtAt (s : statement.Stmt Span) : Type 0 where
      mark : Span
      word : tree.Word Span
      way : StmtWay (tree.name mark word) s
      means : M word.mark.from ≡ local n
      used : IsTargetUse (stmt_use way)

    record ListAt (ss : statement.Stmts Span) : Type 0 where
      mark : Span
      word : tree.Word Span
      way : ListWay (tree.name mark word) ss
      means : M word.mark.from ≡ local n
      used : IsTargetUse (list_use way)

    exp_there : (e : tree.Exp Span) (at : ℕ) (u : Use) → Among (exp_locals itself M at e) n → ExpAt M n e u
    exp_there e at u a = exp_at M n e at u a

    mutual
      unfolding stmt_notes else_notes stmts_notes

      stmt_there : (s : statement.Stmt Span) (at : ℕ) → Among (stmt_notes itself M at s).writes n → StmtAt s
      stmt_there (statement.local m f t w e) at a = (let r = exp_there e m.from valued a in record { mark = r.mark; word = r.word; way = in_init m f t w e r.way; means = r.means; used = r.used })
      stmt_there (statement.eval m e) at a = (let r = exp_there e m.from stated a in record { mark = r.mark; word = r.word; way = in_eval m e r.way; means = r.means; used = r.used })
      stmt_there (statement.branch m y s o) at a = elim (split (exp_locals itself M m.from y) ((stmt_notes itself M m.from s).writes ++ (else_notes itself M m.from o).writes) n a) [
        | inl h ↦ (let r = exp_there y m.from valued h in record { mark = r.mark; word = r.word; way = in_condition m y s o r.way; means = r.means; used = r.used })
        | inr h ↦ elim (split (stmt_notes itself M m.from s).writes (else_notes itself M m.from o).writes n h) [
          | inl k ↦ (let r = stmt_there s m.from k in record { mark = r.mark; word = r.word; way = in_then m y s o r.way; means = r.means; used = r.used })
          | inr k ↦ else_there m y s o k
        ]
      ]
      stmt_there (statement.loop m y s) at a = elim (split (exp_locals itself M m.from y) (stmt_notes itself M m.from s).writes n a) [
        | inl h ↦ (let r = exp_there y m.from valued h in record { mark = r.mark; word = r.word; way = in_turning m y s r.way; means = r.means; used = r.used })
        | inr h ↦ (let r = stmt_there s m.from h in record { mark = r.mark; word = r.word; way = in_body m y s r.way; means = r.means; used = r.used })
      ]
      stmt_there (statement.return m None) at a = nobody n a
      stmt_there (statement.return m (Some e)) at a = (let r = exp_there e m.from valued a in record { mark = r.mark; word = r.word; way = in_returned m e r.way; means = r.means; used = r.used })
      stmt_there (statement.block m ss) at a = (let r = list_there ss m.from a in record { mark = r.mark; word = r.word; way = in_block m ss r.way; means = r.means; used = r.used })
      stmt_there (statement.sync m e ss) at a = elim (split (exp_locals itself M m.from e) (stmts_notes itself M m.from ss).writes n a) [
        | inl h ↦ (let r = exp_there e m.from valued h in record { mark = r.mark; word = r.word; way = in_lock m e ss r.way; means = r.means; used = r.used })
        | inr h ↦ (let r = list_there ss m.from h in record { mark = r.mark; word = r.word; way = in_locked m e ss r.way; means = r.means; used = r.used })
      ]
      stmt_there (statement.empty m) at a = nobody n a

      else_there : (m : Span) (y : tree.Exp Span) (s : statement.Stmt Span) (o : statement.Else Span) → Among (else_notes itself M m.from o).writes n → StmtAt (statement.branch m y s o)
      else_there m y s statement.no_else a = nobody n a
      else_there m y s (statement.otherwise z) a = (let r = stmt_there z m.from a in record { mark = r.mark; word = r.word; way = in_else m y s z r.way; means = r.means; used = r.used })

      list_there : (ss : statement.Stmts Span) (at : ℕ) → Among (stmts_notes itself M at ss).writes n → ListAt ss
      list_there statement.end at a = nobody n a
      list_there (statement.more s ss) at a = elim (split (stmt_notes itself M at s).writes (stmts_notes itself M at ss).writes n a) [
        | inl h ↦ (let r = stmt_there s at h in record { mark = r.mark; word = r.word; way = ways.first s ss r.way; means = r.means; used = r.used })
        | inr h ↦ (let r = list_there ss at h in record { mark = r.mark; word = r.word; way = ways.later s ss r.way; means = r.means; used = r.used })
      ]

  -- ---- both ways

  pub assigns_or_not : StmtsShaped b.list → (n : ℕ) → Among (stmts_notes itself M b.at.base b.list).writes n ↔ Assigns p b n
  assigns_or_not shaped n = (to, back)
    where
      to : Among (stmts_notes itself M b.at.base b.list).writes n → Assigns p b n
      to a =
          let r = list_there n b.list b.at.base a in
          record { at = tree.name r.mark r.word; way = r.way; mark = r.mark; word = r.word; is = refl; local = to_variable p.rows (M r.word.mark.from) n r.means; used = r.used }

      -- the expression is the name
      named : (at : tree.Exp Span) (way : ListWay at b.list) (mark : Span) (word : tree.Word Span) → at ≡ tree.name mark word → M word.mark.from ≡ local n → IsTargetUse (list_use way) → (w : ListWay (tree.name mark word) b.list) × IsTargetUse (list_use w)
      named at way mark word is means used = subst (λ (z : tree.Exp Span). (w : ListWay z b.list) × IsTargetUse (list_use w)) is (way, used)

      back : Assigns p b n → Among (stmts_notes itself M b.at.base b.list).writes n
      back a =
          let means = to_meaning p.rows (M a.word.mark.from) n a.local in
          let w = named a.at a.way a.mark a.word a.is means a.used in
          list_back n a.mark a.word means b.list b.at.base w.0 shaped (λ g v. (v, refl)) w.1
