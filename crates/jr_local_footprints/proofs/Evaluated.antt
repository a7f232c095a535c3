-- What is used for its value, and is no class's name, is evaluated: it stands in no class's name, and is
-- no target (JLS 6.5.2, 15.26).
use Rattle.std.proofs.Common.{◌≡◌, ◌≢◌, ℕ, ◌-◌, Bool, true, false, ◌&&◌, Option, Some, None, refl, sym, ap, subst, ◌∙◌}
use Rattle.std.specs.Prelude.{is_none}
use Rattle.std.proofs.lemmas.Bool.{false≢true}
use Rattle.std.proofs.lemmas.Option.{none-some, same_Some}
use Rattle.jr_text.specs.declared.spans.Span.{Span}
use Rattle.jr_ast.specs.Tree as tree
use Rattle.jr_ast.specs.StatementTree as statement
use Rattle.jr_grammar.specs.Layout.{itself}
use Rattle.jr_grammar.specs.Shape.{IsTarget, ShapedBehind, AllShaped, is_minus, behind_of}
use Rattle.jr_grammar.specs.StatementShape.{StmtShaped, StmtsShaped}
use Rattle.jr_table.specs.Keys.{ClassKey}
use Rattle.jr_table.specs.Decls.{Decl, class_decl, field_decl, method_decl, constructor_decl, local_decl}
use Rattle.jr_table.specs.LookupLaws.{KeysFound}
use Rattle.jr_table.specs.Context.{Context}
use Rattle.jr_table.specs.Binding.{IsClassName, Role, value, left}
use Rattle.jr_table.specs.Binding as role
use Rattle.jr_table.specs.BindingLaws.{AreBound}
use Rattle.jr_members.specs.WrittenLaws.{MembersAreWritten}
use Rattle.jr_bind.specs.Bounds.{decl_in}
use Rattle.jr_bind.specs.Programs.{Program, IsProgram}
use Rattle.jr_code.specs.RunKeys.{RunKeys}
use Rattle.jr_cover.specs.Sites.{Known, is_class_name}
use Rattle.jr_expr_sites.specs.Meanings.{meaning_of, is_class}
use Rattle.jr_program_laws.specs.PlaceLaws.{PartsArePlaced}
use Rattle.jr_pieces.specs.Ways.{ExpWay, here, in_front, in_target, in_argument, in_super_argument, in_created, in_paren, in_cast, in_unary, in_bump, in_left, in_right, in_assigned, in_value, in_changed, in_change, ExpsWay, first_argument, later_argument}
use Rattle.jr_pieces.specs.Ways.{StmtWay, in_init, in_eval, in_condition, in_then, in_else, in_turning, in_body, in_returned, in_block, in_lock, in_locked, ListWay}
use Rattle.jr_pieces.specs.Ways as ways
use Rattle.jr_pieces.specs.Standings.{Standing, inside, behind, in_other, in_initializer, at_exp, at_stmt, at_list}
use Rattle.jr_pieces.specs.Nearest.{Element, or_element, element_within, nearest}
use Rattle.jr_pieces.specs.Uses.{Use, valued, assigned, changed, stated, exp_use, exps_use, stmt_use, list_use}
use Rattle.jr_pieces.specs.Before.{ExpEvaluated, TargetEvaluated, ExpsEvaluated, StmtEvaluated, ListEvaluated}
use Rattle.jr_way_places.specs.PlacedWays.{exp_role, exps_role, stmt_role, list_role, WaysAreWalked}
use Rattle.jr_way_places.proofs.Walked.{exp_context}
use Rattle.jr_local.specs.Bodies.{begins, Body, HasBody}
use Rattle.jr_local.specs.BodyFacts.{known}
use Rattle.jr_local_footprints.specs.Ranges.{own}
use Rattle.jr_local_footprints.proofs.ClassNames.{class_within, name_is_class, field_is_class}

and_right : (a c : Bool) → (a && c) ≡ true → c ≡ true
and_right true c e = e
and_right false c e = absurd (false≢true e)

pub or_false : (c : Bool) → (c ≡ true → ⊥) → c ≡ false
or_false true un = absurd (un refl)
or_false false un = refl

-- what means a class is one
pub class_meant : (o : Option Decl) → is_class (meaning_of o) ≡ true → (k : ClassKey) × (o ≡ Some (class_decl k))
class_meant None e = absurd (false≢true e)
class_meant (Some (class_decl k)) e = (k, refl)
class_meant (Some (field_decl k)) e = absurd (false≢true e)
class_meant (Some (method_decl k)) e = absurd (false≢true e)
class_meant (Some (constructor_decl k)) e = absurd (false≢true e)
class_meant (Some (local_decl k)) e = absurd (false≢true e)

assigned_apart : (let u : Use = assigned in u ≡ valued) → ⊥
assigned_apart e = cc

changed_apart : (let u : Use = changed in u ≡ valued) → ⊥
changed_apart e = cc

module _ (written : MembersAreWritten Span) (placed : PartsArePlaced) (walked : WaysAreWalked Span) (found : KeysFound) (are_bound : AreBound Span)
    (p : Program Span) (program : IsProgram itself (λ m b. Unit {0}) p) (file : ℕ) (b : Body) (has : HasBody p file b) (test : tree.Exp Span → Bool) (f : tree.Exp Span) where
  abbrev X : Known RunKeys Span
  X = known p b test

  -- The whole stands so, in the context, and each way from it is one of the body.
  abbrev ExpLeads : Context → tree.Exp Span → Role → Type 0
  ExpLeads c e r = (g : tree.Exp Span) (v : ExpWay g e) → (d : ListWay g b.list) × (list_role d ≡ exp_role r v) × ((at_list begins b.at d).context ≡ c)

  abbrev ExpsLead : Context → tree.Exps Span → Type 0
  ExpsLead c es = (g : tree.Exp Span) (v : ExpsWay g es) → (d : ListWay g b.list) × (list_role d ≡ exps_role v) × ((at_list begins b.at d).context ≡ c)

  abbrev NoClass : Context → Type 0
  NoClass c = (k : ClassKey) → IsClassName p.rows c f k → ⊥

  module _ (c : Context) (none : NoClass c) where
    -- an expression in front of a dot from which a way leads to f
    class_free : (e : tree.Exp Span) → ExpWay f e → ExpLeads c e left → is_class_name X e ≡ false
    class_free (tree.name m w) v leads = or_false (is_class_name X (tree.name m w)) (λ t. is_name (class_meant (decl_in b.bound.references (w.mark.from - b.at.base)) (and_right (is_none (X.facts.variable w.mark)) (X.is_class w.mark) t)))
      where
        is_name : ((k : ClassKey) × (decl_in b.bound.references (w.mark.from - b.at.base) ≡ Some (class_decl k))) → ⊥
        is_name (k, is) =
            let d = leads (tree.name m w) here in
            let named = name_is_class written placed walked found are_bound p program file b has m w d.0 d.1 k is in
            let o = class_within p.rows c f (tree.name m w) v k (subst (λ (z : Context). IsClassName p.rows z (tree.name m w) k) d.2 named) in
            none o.0 o.1
    class_free (tree.field m e w) v leads = or_false (is_class_name X (tree.field m e w)) (λ t. is_field (class_meant (decl_in b.bound.references (w.mark.from - b.at.base)) (and_right (is_none (X.facts.variable w.mark)) (X.is_class w.mark) t)))
      where
        is_field : ((k : ClassKey) × (decl_in b.bound.references (w.mark.from - b.at.base) ≡ Some (class_decl k))) → ⊥
        is_field (k, is) =
            let d = leads (tree.field m e w) here in
            let named = field_is_class written placed walked found are_bound p program file b has m e w d.0 d.1 k is in
            let o = class_within p.rows c f (tree.field m e w) v k (subst (λ (z : Context). IsClassName p.rows z (tree.field m e w) k) d.2 named) in
            none o.0 o.1
    class_free (tree.number m n) v leads = refl
    class_free (tree.truth m t) v leads = refl
    class_free (tree.null m) v leads = refl
    class_free (tree.string m s) v leads = refl
    class_free (tree.super_field m w) v leads = refl
    class_free (tree.this m) v leads = refl
    class_free (tree.class_literal m t) v leads = refl
    class_free (tree.call m t w es) v leads = refl
    class_free (tree.super_call m w es) v leads = refl
    class_free (tree.create m t es) v leads = refl
    class_free (tree.paren m e) v leads = refl
    class_free (tree.cast m t e) v leads = refl
    class_free (tree.unary m o e) v leads = refl
    class_free (tree.bump m o e) v leads = refl
    class_free (tree.binary m o x y) v leads = refl
    class_free (tree.assign m x y) v leads = refl
    class_free (tree.compound m o x y) v leads = refl

    mutual
      exp_evaluated : (n : Bool) (e : tree.Exp Span) (r : Role) (u : Use) (d : ExpWay f e) → ShapedBehind n e → ExpLeads c e r → exp_use u d ≡ valued → ExpEvaluated X d
      exp_evaluated n _ r u here h l used = tt
      exp_evaluated n _ r u (in_front m e w d) h l used = (class_free e d (λ g v. l g (in_front m e w v)), exp_evaluated n e left valued d h.1 (λ g v. l g (in_front m e w v)) used)
      exp_evaluated n _ r u (in_target m e w es d) h l used = (class_free e d (λ g v. l g (in_target m e w es v)), exp_evaluated n e left valued d h.0.1 (λ g v. l g (in_target m e w es v)) used)
      exp_evaluated n _ r u (in_argument m t w es d) h l used = exps_evaluated es d h.1 (λ g v. l g (in_argument m t w es v)) used
      exp_evaluated n _ r u (in_super_argument m w es d) h l used = exps_evaluated es d h (λ g v. l g (in_super_argument m w es v)) used
      exp_evaluated n _ r u (in_created m t es d) h l used = exps_evaluated es d h.1 (λ g v. l g (in_created m t es v)) used
      exp_evaluated n _ r u (in_paren m e d) h l used = exp_evaluated false e value valued d h (λ g v. l g (in_paren m e v)) used
      exp_evaluated n _ r u (in_cast m t e d) h l used = exp_evaluated false e value valued d h.2 (λ g v. l g (in_cast m t e v)) used
      exp_evaluated n _ r u (in_unary m o e d) h l used = exp_evaluated (is_minus o) e value valued d h.1 (λ g v. l g (in_unary m o e v)) used
      exp_evaluated n _ r u (in_bump m o e d) h l used = target_evaluated (behind_of n o) e changed (λ i. changed_apart i) d h.0 h.1 (λ g v. l g (in_bump m o e v)) used
      exp_evaluated n _ r u (in_left m o x y d) h l used = exp_evaluated n x value valued d h.1 (λ g v. l g (in_left m o x y v)) used
      exp_evaluated n _ r u (in_right m o x y d) h l used = exp_evaluated false y value valued d h.2 (λ g v. l g (in_right m o x y v)) used
      exp_evaluated n _ r u (in_assigned m x y d) h l used = target_evaluated n x assigned (λ i. assigned_apart i) d h.0 h.1 (λ g v. l g (in_assigned m x y v)) used
      exp_evaluated n _ r u (in_value m x y d) h l used = exp_evaluated false y value valued d h.2 (λ g v. l g (in_value m x y v)) used
      exp_evaluated n _ r u (in_changed m o x y d) h l used = target_evaluated n x changed (λ i. changed_apart i) d h.1 h.2 (λ g v. l g (in_changed m o x y v)) used
      exp_evaluated n _ r u (in_change m o x y d) h l used = exp_evaluated false y value valued d h.3 (λ g v. l g (in_change m o x y v)) used

      exps_evaluated : (es : tree.Exps Span) (d : ExpsWay f es) → AllShaped es → ExpsLead c es → exps_use d ≡ valued → ExpsEvaluated X d
      exps_evaluated _ (first_argument e es d) h l used = exp_evaluated false e value valued d h.0 (λ g v. l g (first_argument e es v)) used
      exps_evaluated _ (later_argument e es d) h l used = exps_evaluated es d h.1 (λ g v. l g (later_argument e es v)) used

      -- of what is assigned or changed what stands in front of its dot
      target_evaluated : (n : Bool) (t : tree.Exp Span) (u : Use) → (u ≡ valued → ⊥) → (d : ExpWay f t) → IsTarget t → ShapedBehind n t → ExpLeads c t value → exp_use u d ≡ valued → TargetEvaluated X d
      target_evaluated n _ u apart here is h l used = absurd (apart used)
      target_evaluated n _ u apart (in_front m e w d) is h l used = (class_free e d (λ g v. l g (in_front m e w v)), exp_evaluated n e left valued d h.1 (λ g v. l g (in_front m e w v)) used)
      target_evaluated n _ u apart (in_target m e w es d) is h l used = absurd is
      target_evaluated n _ u apart (in_argument m t w es d) is h l used = absurd is
      target_evaluated n _ u apart (in_super_argument m w es d) is h l used = absurd is
      target_evaluated n _ u apart (in_created m t es d) is h l used = absurd is
      target_evaluated n _ u apart (in_paren m e d) is h l used = absurd is
      target_evaluated n _ u apart (in_cast m t e d) is h l used = absurd is
      target_evaluated n _ u apart (in_unary m o e d) is h l used = absurd is
      target_evaluated n _ u apart (in_bump m o e d) is h l used = absurd is
      target_evaluated n _ u apart (in_left m o x y d) is h l used = absurd is
      target_evaluated n _ u apart (in_right m o x y d) is h l used = absurd is
      target_evaluated n _ u apart (in_assigned m x y d) is h l used = absurd is
      target_evaluated n _ u apart (in_value m x y d) is h l used = absurd is
      target_evaluated n _ u apart (in_changed m o x y d) is h l used = absurd is
      target_evaluated n _ u apart (in_change m o x y d) is h l used = absurd is

  -- ---- statements: what is known at one, and that each way from it is one of the body

  abbrev StmtLeads : Standing → statement.Stmt Span → Type 0
  StmtLeads q s = (g : tree.Exp Span) (v : StmtWay g s) → (d : ListWay g b.list) × (list_role d ≡ stmt_role v) × ((at_list begins b.at d).context ≡ (at_stmt begins q v).context)

  abbrev ListLeads : Standing → statement.Stmts Span → Type 0
  ListLeads q ss = (g : tree.Exp Span) (v : ListWay g ss) → (d : ListWay g b.list) × (list_role d ≡ list_role v) × ((at_list begins b.at d).context ≡ (at_list begins q v).context)

  -- an expression in a statement, which stands there
  part_evaluated : (q : Standing) (n : Bool) (e : tree.Exp Span) (r : Role) (u : Use) (d : ExpWay f e) → ShapedBehind n e
      → ((g : tree.Exp Span) (v : ExpWay g e) → (k : ListWay g b.list) × (list_role k ≡ exp_role r v) × ((at_list begins b.at k).context ≡ (at_exp begins q v).context))
      → NoClass (at_exp begins q d).context → exp_use u d ≡ valued → ExpEvaluated X d
  part_evaluated q n e r u d h l none used =
      exp_evaluated q.context (λ k i. none k (subst (λ (z : Context). IsClassName p.rows z f k) (sym (exp_context begins q d)) i)) n e r u d h (λ g v. let x = l g v in (x.0, x.1, x.2 ∙ exp_context begins q v)) used

  mutual
    stmt_evaluated : (q : Standing) (s : statement.Stmt Span) (d : StmtWay f s) → StmtShaped s → StmtLeads q s → NoClass (at_stmt begins q d).context → stmt_use d ≡ valued → StmtEvaluated X d
    stmt_evaluated q _ (in_init m is_final t w e d) h l none used = part_evaluated (in_initializer begins m is_final t w q) false e value valued d h (λ g v. l g (in_init m is_final t w e v)) none used
    stmt_evaluated q _ (in_eval m e d) h l none used = part_evaluated (inside begins m q) false e role.statement stated d h.1 (λ g v. l g (in_eval m e v)) none used
    stmt_evaluated q _ (in_condition m x s o d) h l none used = part_evaluated (inside begins m q) false x value valued d h.0 (λ g v. l g (in_condition m x s o v)) none used
    stmt_evaluated q _ (in_then m x s o d) h l none used = stmt_evaluated (inside begins m q) s d h.2 (λ g v. l g (in_then m x s o v)) none used
    stmt_evaluated q _ (in_else m x s o d) h l none used = stmt_evaluated (in_other begins m s q) o d h.3.2 (λ g v. l g (in_else m x s o v)) none used
    stmt_evaluated q _ (in_turning m x s d) h l none used = part_evaluated (inside begins m q) false x value valued d h.0 (λ g v. l g (in_turning m x s v)) none used
    stmt_evaluated q _ (in_body m x s d) h l none used = stmt_evaluated (inside begins m q) s d h.2 (λ g v. l g (in_body m x s v)) none used
    stmt_evaluated q _ (in_returned m e d) h l none used = part_evaluated (inside begins m q) false e value valued d h (λ g v. l g (in_returned m e v)) none used
    stmt_evaluated q _ (in_block m ss d) h l none used = list_evaluated (inside begins m q) ss d h (λ g v. l g (in_block m ss v)) none used
    stmt_evaluated q _ (in_lock m e ss d) h l none used = part_evaluated (inside begins m q) false e value valued d h.0 (λ g v. l g (in_lock m e ss v)) none used
    stmt_evaluated q _ (in_locked m e ss d) h l none used = list_evaluated (inside begins m q) ss d h.1 (λ g v. l g (in_locked m e ss v)) none used

    list_evaluated : (q : Standing) (ss : statement.Stmts Span) (d : ListWay f ss) → StmtsShaped ss → ListLeads q ss → NoClass (at_list begins q d).context → list_use d ≡ valued → ListEvaluated X d
    list_evaluated q _ (ways.first s ss d) h l none used = stmt_evaluated q s d h.0 (λ g v. l g (ways.first s ss v)) none used
    list_evaluated q _ (ways.later s ss d) h l none used = list_evaluated (behind begins s q) ss d h.1 (λ g v. l g (ways.later s ss v)) none used

  -- ---- so it is in the nearest element

  no_element : (x : Element f) → (let no : Option (Element f) = None in no ≡ Some x) → ⊥
  no_element x e = none-some x e

  mutual
    stmt_held : (q : Standing) (s : statement.Stmt Span) (d : StmtWay f s) → StmtEvaluated X d → (el : Element f) → element_within begins q d ≡ Some el → StmtEvaluated X el.way
    stmt_held q _ (in_init m is_final t w e d) h el is = absurd (no_element el is)
    stmt_held q _ (in_eval m e d) h el is = absurd (no_element el is)
    stmt_held q _ (in_condition m x s o d) h el is = absurd (no_element el is)
    stmt_held q _ (in_then m x s o d) h el is = stmt_held (inside begins m q) s d h el is
    stmt_held q _ (in_else m x s o d) h el is = stmt_held (in_other begins m s q) o d h el is
    stmt_held q _ (in_turning m x s d) h el is = absurd (no_element el is)
    stmt_held q _ (in_body m x s d) h el is = stmt_held (inside begins m q) s d h el is
    stmt_held q _ (in_returned m e d) h el is = absurd (no_element el is)
    stmt_held q _ (in_block m ss d) h el is = subst (λ (z : Element f). StmtEvaluated X z.way) (same_Some _ el is) (list_held (inside begins m q) ss d h)
    stmt_held q _ (in_lock m e ss d) h el is = absurd (no_element el is)
    stmt_held q _ (in_locked m e ss d) h el is = subst (λ (z : Element f). StmtEvaluated X z.way) (same_Some _ el is) (list_held (inside begins m q) ss d h)

    list_held : (q : Standing) (ss : statement.Stmts Span) (d : ListWay f ss) → ListEvaluated X d → StmtEvaluated X (nearest begins q d).way
    list_held q _ (ways.first s ss d) h = by (element_within begins q d) refl (λ el is. stmt_held q s d h el is)
      where
        by : (o : Option (Element f)) → element_within begins q d ≡ o → ((el : Element f) → element_within begins q d ≡ Some el → StmtEvaluated X el.way) → StmtEvaluated X (or_element o (record { at = q; stmt = s; rest = ss; way = d })).way
        by None e go = h
        by (Some el) e go = go el e
    list_held q _ (ways.later s ss d) h = list_held (behind begins s q) ss d h

  pub evaluated : (d : ListWay f b.list) → StmtsShaped b.list → NoClass (at_list begins b.at d).context → list_use d ≡ valued → StmtEvaluated X (nearest begins b.at d).way
  evaluated d shaped none used = list_held b.at b.list d (list_evaluated b.at b.list d shaped (λ g v. (v, refl, refl)) none used)

  -- ---- and in the list from the nearest element of another way on

  abbrev HeldLeads : {h : tree.Exp Span} → Element h → Type 0
  HeldLeads el = ListLeads el.at (statement.more el.stmt el.rest)

  abbrev HeldShaped : {h : tree.Exp Span} → Element h → Type 0
  HeldShaped el = StmtsShaped (statement.more el.stmt el.rest)

  module _ (h : tree.Exp Span) where
    no_other : (x : Element h) → (let no : Option (Element h) = None in no ≡ Some x) → ⊥
    no_other x e = none-some x e

    mutual
      stmt_leads : (q : Standing) (s : statement.Stmt Span) (d : StmtWay h s) → StmtLeads q s → (el : Element h) → element_within begins q d ≡ Some el → HeldLeads el
      stmt_leads q _ (in_init m is_final t w e d) l el is = absurd (no_other el is)
      stmt_leads q _ (in_eval m e d) l el is = absurd (no_other el is)
      stmt_leads q _ (in_condition m x s o d) l el is = absurd (no_other el is)
      stmt_leads q _ (in_then m x s o d) l el is = stmt_leads (inside begins m q) s d (λ g v. l g (in_then m x s o v)) el is
      stmt_leads q _ (in_else m x s o d) l el is = stmt_leads (in_other begins m s q) o d (λ g v. l g (in_else m x s o v)) el is
      stmt_leads q _ (in_turning m x s d) l el is = absurd (no_other el is)
      stmt_leads q _ (in_body m x s d) l el is = stmt_leads (inside begins m q) s d (λ g v. l g (in_body m x s v)) el is
      stmt_leads q _ (in_returned m e d) l el is = absurd (no_other el is)
      stmt_leads q _ (in_block m ss d) l el is = subst (λ (z : Element h). HeldLeads z) (same_Some _ el is) (list_leads (inside begins m q) ss d (λ g v. l g (in_block m ss v)))
      stmt_leads q _ (in_lock m e ss d) l el is = absurd (no_other el is)
      stmt_leads q _ (in_locked m e ss d) l el is = subst (λ (z : Element h). HeldLeads z) (same_Some _ el is) (list_leads (inside begins m q) ss d (λ g v. l g (in_locked m e ss v)))

      list_leads : (q : Standing) (ss : statement.Stmts Span) (d : ListWay h ss) → ListLeads q ss → HeldLeads (nearest begins q d)
      list_leads q _ (ways.first s ss d) l = by (element_within begins q d) refl (λ el is. stmt_leads q s d (λ g v. l g (ways.first s ss v)) el is)
        where
          by : (o : Option (Element h)) → element_within begins q d ≡ o → ((el : Element h) → element_within begins q d ≡ Some el → HeldLeads el) → HeldLeads (or_element o (record { at = q; stmt = s; rest = ss; way = d }))
          by None e go = l
          by (Some el) e go = go el e
      list_leads q _ (ways.later s ss d) l = list_leads (behind begins s q) ss d (λ g v. l g (ways.later s ss v))

    mutual
      stmt_shaped : (q : Standing) (s : statement.Stmt Span) (d : StmtWay h s) → StmtShaped s → (el : Element h) → element_within begins q d ≡ Some el → HeldShaped el
      stmt_shaped q _ (in_init m is_final t w e d) l el is = absurd (no_other el is)
      stmt_shaped q _ (in_eval m e d) l el is = absurd (no_other el is)
      stmt_shaped q _ (in_condition m x s o d) l el is = absurd (no_other el is)
      stmt_shaped q _ (in_then m x s o d) l el is = stmt_shaped (inside begins m q) s d l.2 el is
      stmt_shaped q _ (in_else m x s o d) l el is = stmt_shaped (in_other begins m s q) o d l.3.2 el is
      stmt_shaped q _ (in_turning m x s d) l el is = absurd (no_other el is)
      stmt_shaped q _ (in_body m x s d) l el is = stmt_shaped (inside begins m q) s d l.2 el is
      stmt_shaped q _ (in_returned m e d) l el is = absurd (no_other el is)
      stmt_shaped q _ (in_block m ss d) l el is = subst (λ (z : Element h). HeldShaped z) (same_Some _ el is) (list_shaped (inside begins m q) ss d l)
      stmt_shaped q _ (in_lock m e ss d) l el is = absurd (no_other el is)
      stmt_shaped q _ (in_locked m e ss d) l el is = subst (λ (z : Element h). HeldShaped z) (same_Some _ el is) (list_shaped (inside begins m q) ss d l.1)

      list_shaped : (q : Standing) (ss : statement.Stmts Span) (d : ListWay h ss) → StmtsShaped ss → HeldShaped (nearest begins q d)
      list_shaped q _ (ways.first s ss d) l = by (element_within begins q d) refl (λ el is. stmt_shaped q s d l.0 el is)
        where
          by : (o : Option (Element h)) → element_within begins q d ≡ o → ((el : Element h) → element_within begins q d ≡ Some el → HeldShaped el) → HeldShaped (or_element o (record { at = q; stmt = s; rest = ss; way = d }))
          by None e go = l
          by (Some el) e go = go el e
      list_shaped q _ (ways.later s ss d) l = list_shaped (behind begins s q) ss d l.1

  own_evaluated : (ss : statement.Stmts Span) (w : ListWay f ss) → ListEvaluated X w → StmtEvaluated X (own w).way
  own_evaluated _ (ways.first s ss d) h = h
  own_evaluated _ (ways.later s ss d) h = own_evaluated ss d h

  pub behind_evaluated : (h : tree.Exp Span) (d : ListWay h b.list) → StmtsShaped b.list → (w : ListWay f (statement.more (nearest begins b.at d).stmt (nearest begins b.at d).rest))
      → NoClass (at_list begins (nearest begins b.at d).at w).context → list_use w ≡ valued → StmtEvaluated X (own w).way
  behind_evaluated h d shaped w none used =
      let el = nearest begins b.at d in
      let ss = statement.more el.stmt el.rest in
      own_evaluated ss w (list_evaluated el.at ss w (list_shaped h b.at b.list d shaped) (list_leads h b.at b.list d (λ g v. (v, refl, refl))) none used)
