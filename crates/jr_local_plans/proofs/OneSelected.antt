-- In one written member a span selects one expression, in one way.
use Rattle.std.proofs.Common.{◌≡◌, ℕ, List, ◌++◌, Option, None, refl, sym, ap, ◌∙◌, subst}
use Rattle.std.specs.Prelude.{slice_get}
use Rattle.std.proofs.lemmas.Option.{same_Some}
use Rattle.jr_text.specs.declared.spans.Span.{Span}
use Rattle.jr_lex.specs.Places.{ItemsPlaced}
use Rattle.jr_ast.specs.Tree as tree
use Rattle.jr_ast.specs.StatementTree as statement
use Rattle.jr_ast.specs.Marks.{exp_mark}
use Rattle.jr_grammar.specs.Layout.{itself}
use Rattle.jr_members.specs.WrittenMembers.{written_members}
use Rattle.jr_members.specs.WrittenLaws.{MembersAreWritten}
use Rattle.jr_bind.specs.Programs.{Program, IsProgram, units_of}
use Rattle.jr_pieces.specs.Ways.{ExpWay, here, in_front, in_target, in_argument, in_super_argument, in_created, in_paren, in_cast, in_unary, in_bump, in_left, in_right, in_assigned, in_value, in_changed, in_change, ExpsWay, first_argument, later_argument, StmtWay, in_init, in_eval, in_condition, in_then, in_else, in_turning, in_body, in_returned, in_block, in_lock, in_locked, ListWay, first, later}
use Rattle.jr_pieces.specs.Finding.{exp_end, exps_end, stmt_end, list_end}
use Rattle.jr_pieces.specs.Nesting.{StandingListsAreNested}
use Rattle.jr_pieces.specs.Nearest.{nearest}
use Rattle.jr_pieces.specs.Bars.{stmt_barred}
use Rattle.jr_pieces.specs.Declared.{declared_in_list}
use Rattle.jr_table.specs.Scope.{ScopeLocal}
use Rattle.jr_table.specs.Context.{scope_of}
use Rattle.jr_told_ways.specs.Told.{In, OneWayHasASpan}
use Rattle.jr_local.specs.Bodies.{begins, Body, body_of, HasBody}
use Rattle.jr_local.specs.Selecting.{Selected}
use Rattle.jr_local_plans.specs.OneSelected.{Chosen, chosen, AreOne, OneIsSelected}
use Rattle.jr_local_texts.proofs.StandingBodies.{same_body}
use Rattle.jr_local_plans.proofs.BodyLists.{body_nested}

-- ---- a way ends at the span of what it leads to

module _ {f : tree.Exp Span} where
  mutual
    exp_ends : {e : tree.Exp Span} (base : ℕ) (d : ExpWay f e) → exp_end itself base d ≡ exp_mark f
    exp_ends base here = refl
    exp_ends base (in_front m e w d) = exp_ends m.from d
    exp_ends base (in_target m e w es d) = exp_ends m.from d
    exp_ends base (in_argument m t w es d) = exps_ends m.from d
    exp_ends base (in_super_argument m w es d) = exps_ends m.from d
    exp_ends base (in_created m t es d) = exps_ends m.from d
    exp_ends base (in_paren m e d) = exp_ends m.from d
    exp_ends base (in_cast m t e d) = exp_ends m.from d
    exp_ends base (in_unary m o e d) = exp_ends m.from d
    exp_ends base (in_bump m o e d) = exp_ends m.from d
    exp_ends base (in_left m o l r d) = exp_ends m.from d
    exp_ends base (in_right m o l r d) = exp_ends m.from d
    exp_ends base (in_assigned m t e d) = exp_ends m.from d
    exp_ends base (in_value m t e d) = exp_ends m.from d
    exp_ends base (in_changed m o t e d) = exp_ends m.from d
    exp_ends base (in_change m o t e d) = exp_ends m.from d

    exps_ends : {es : tree.Exps Span} (base : ℕ) (d : ExpsWay f es) → exps_end itself base d ≡ exp_mark f
    exps_ends base (first_argument e es d) = exp_ends base d
    exps_ends base (later_argument e es d) = exps_ends base d

  mutual
    stmt_ends : {s : statement.Stmt Span} (base : ℕ) (d : StmtWay f s) → stmt_end itself base d ≡ exp_mark f
    stmt_ends base (in_init m is_final t w e d) = exp_ends m.from d
    stmt_ends base (in_eval m e d) = exp_ends m.from d
    stmt_ends base (in_condition m c s o d) = exp_ends m.from d
    stmt_ends base (in_then m c s o d) = stmt_ends m.from d
    stmt_ends base (in_else m c s o d) = stmt_ends m.from d
    stmt_ends base (in_turning m c s d) = exp_ends m.from d
    stmt_ends base (in_body m c s d) = stmt_ends m.from d
    stmt_ends base (in_returned m e d) = exp_ends m.from d
    stmt_ends base (in_block m b d) = list_ends m.from d
    stmt_ends base (in_lock m e b d) = exp_ends m.from d
    stmt_ends base (in_locked m e b d) = list_ends m.from d

    pub list_ends : {b : statement.Stmts Span} (base : ℕ) (d : ListWay f b) → list_end itself base d ≡ exp_mark f
    list_ends base (first s ss d) = stmt_ends base d
    list_ends base (later s ss d) = list_ends base d

-- ---- a written member has one body

same_bodies : (p : Program Span) (file : ℕ) (a b : Body) (h : HasBody p file a) (k : HasBody p file b) → h.number ≡ k.number → a ≡ b
same_bodies p file a b h k e =
    let member : h.member ≡ k.member = same_Some h.member k.member (sym h.written ∙ ap (slice_get (written_members begins p.rows (units_of p))) e ∙ k.written) in
    let bound : a.bound ≡ b.bound = same_Some a.bound b.bound (sym h.bound ∙ ap (slice_get p.bounds) e ∙ k.bound) in
    same_body a b (sym h.is ∙ (λ i. body_of (member i).key (member i).base (member i).part (bound i)) ∙ k.is)

-- ---- so one is selected

abbrev chosen_in : (b : Body) → In (λ (h : tree.Exp Span). ListWay h b.list) → Chosen
chosen_in b i = record { body = b; value = i.value; way = i.way }

abbrev Alike : {p : Program Span} {file from to : ℕ} → Selected p file from to → Body → Type 0
Alike {from = from} {to = to} x b = (g : tree.Exp Span) (e : ListWay g b.list) → exp_mark g ≡ record { from = from; to = to }
    → (let c : Chosen = chosen x in c ≡ record { body = b; value = g; way = e })

abbrev barred : Chosen → Option ℕ
barred c = (let n = nearest begins c.body.at c.way in stmt_barred begins n.at.base None n.way)

abbrev names : Chosen → List ScopeLocal
names c = (let n = nearest begins c.body.at c.way in (scope_of n.at.context).locals ++ declared_in_list c.body.key n.at.next (statement.more n.stmt n.rest))

module _ (placed : ItemsPlaced) (written : MembersAreWritten Span) (law : StandingListsAreNested Span) (one : OneWayHasASpan Span) (p : Program Span) (program : IsProgram itself (λ m b. Unit {0}) p) (file from to : ℕ) where
  chosen_once : (x y : Selected p file from to) → x.body ≡ y.body → chosen x ≡ chosen y
  chosen_once x y same = subst (Alike x) same here_alike y.value y.way y.span
    where
      here_alike : Alike x x.body
      here_alike g e span =
          let n = body_nested placed written law p program file x.body x.has in
          let ends : list_end itself 0 x.way ≡ list_end itself 0 e = list_ends 0 x.way ∙ x.span ∙ sym span ∙ sym (list_ends 0 e) in
          ap (chosen_in x.body) (one itself (record { from = 0; to = n.to }) 1 x.body.list n.nested x.value g x.way e ends)

  pub selected_once : (x y : Selected p file from to) → x.body ≡ y.body → AreOne x y
  selected_once x y same =
      let is = chosen_once x y same in
      record { chosen_is = is; bar_is = ap barred is; taken_is = ap names is }

pub one_is_selected : ItemsPlaced → MembersAreWritten Span → StandingListsAreNested Span → OneWayHasASpan Span → OneIsSelected
one_is_selected placed written law one p program file from to x y number =
    selected_once placed written law one p program file from to x y (same_bodies p file x.body y.body x.has y.has number)
