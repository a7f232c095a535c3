-- A tree stands over tokens with one choice of marks, and each tree that spells them with some.
use Rattle.std.proofs.Common.{◌≡◌, ℕ, refl, sym, ap, subst, ◌∙◌}
use Rattle.jr_text.specs.declared.spans.Span.{Span}
use Rattle.jr_ast.specs.Tree.{Exp}
use Rattle.jr_ast.specs.StatementTree.{Stmt, Stmts}
use Rattle.jr_ast.specs.MemberTree.{Member, Unit as UnitTree}
use Rattle.jr_grammar.specs.Tokens.{kinds}
use Rattle.jr_grammar.specs.Bare.{Bare, no_mark, bare, bare_stmt, bare_stmts, bare_member, bare_unit}
use Rattle.jr_grammar.specs.Layout.{Layout, Layouts, laid, itself, spans_from, all_spans_from}
use Rattle.jr_grammar.specs.Stands.{Tokens, Stands, StandInOrder}
use Rattle.jr_grammar.specs.ExpressionLayout.{exp_layout}
use Rattle.jr_grammar.specs.StatementLayout.{stmt_layout, stmts_layout}
use Rattle.jr_grammar.specs.MemberLayout.{member_layout, unit_layouts}
use Rattle.jr_grammar.specs.MarksAreOne.{TellsApart, MarksAreOne, MarksAreThere, StandsSpells, SpansTellThemselves}
use Rattle.jr_ast.specs.Marks.{exp_mark, stmt_mark, member_mark}
use Rattle.jr_grammar.proofs.Layouts.{told_apart, all_told_apart, spans_from-map, all_spans_from-map, map_layouts, map_layout, lay, lay_all, lay-map, lay_all-map, stands_so, stand_so, stands_laid, stand_laid, lay_stands, lay_stand, spans_from-span, all_spans_from-span}
use Rattle.jr_grammar.proofs.ExpressionLayouts.{exp_laid, exp_layout-map}
use Rattle.jr_grammar.proofs.StatementLayouts.{stmt_laid, stmts_laid, stmt_layout-map, stmts_layout-map}
use Rattle.jr_grammar.proofs.MemberLayouts.{member_laid, unit_laid, member_layout-map, unit_layouts-map}
use Rattle.jr_grammar.proofs.ExpressionMarks.{exp_at, exp_again, exp_stays, exp_bare}
use Rattle.jr_grammar.proofs.StatementMarks.{stmt_at, stmts_at, stmt_again, stmts_again, stmt_stays, stmts_stays, stmt_bare, stmts_bare}
use Rattle.jr_grammar.proofs.MemberMarks.{member_at, unit_at, member_again, unit_again, member_stays, unit_stays, member_bare, unit_bare}

-- ---- any kind of tree

-- its spans are those that its parts have over the tokens
so : {A : Type 0} (tells : A → ℕ → Span) (x : Layout A) (y : Layout Bare) (ps : Tokens) → map_layout no_mark x ≡ y → Stands (spans_from tells 0 x) ps → spans_from tells 0 x ≡ lay y ps
so tells x y ps e h =
    sym (stands_so (spans_from tells 0 x) ps h) ∙ sym (lay-map no_mark (spans_from tells 0 x) ps) ∙ ap (λ (z : Layout Bare). lay z ps) (spans_from-map tells 0 x ∙ e)

all_so : {A : Type 0} (tells : A → ℕ → Span) (xs : Layouts A) (ys : Layouts Bare) (ps : Tokens) → map_layouts no_mark xs ≡ ys → StandInOrder (all_spans_from tells 0 xs) ps
    → all_spans_from tells 0 xs ≡ lay_all ys ps
all_so tells xs ys ps e h =
    sym (stand_so (all_spans_from tells 0 xs) ps h) ∙ sym (lay_all-map no_mark (all_spans_from tells 0 xs) ps) ∙ ap (λ (zs : Layouts Bare). lay_all zs ps) (all_spans_from-map tells 0 xs ∙ e)

module _ {A : Type 0} (tells : A → ℕ → Span) (apart : TellsApart tells) where
  -- equal without marks, and standing over the same tokens
  one : (T B : Type 0) (without : T → B) (layout : T → Layout A) (bare_layout : B → Layout Bare) (mark : T → A) (at : A → B → Layout A → T)
      → ((t : T) → map_layout no_mark (layout t) ≡ bare_layout (without t)) → ((d : A) (t : T) → at d (without t) (layout t) ≡ t)
      → (a b : T) (ps : Tokens) → without a ≡ without b → Stands (spans_from tells 0 (layout a)) ps → Stands (spans_from tells 0 (layout b)) ps → a ≡ b
  one T B without layout bare_layout mark at maps again a b ps e h k =
      let spans : spans_from tells 0 (layout a) ≡ spans_from tells 0 (layout b) =
      so tells (layout a) (bare_layout (without a)) ps (maps a) h ∙ ap (λ (t : B). lay (bare_layout t) ps) e ∙ sym (so tells (layout b) (bare_layout (without b)) ps (maps b) k) in
      let parts : layout a ≡ layout b = told_apart tells apart 0 (layout a) (layout b) (maps a ∙ ap bare_layout e ∙ sym (maps b)) spans in
      sym (again (mark a) a) ∙ (λ i. at (mark a) (e i) (parts i)) ∙ again (mark a) b

  pub one_expression : (a b : Exp A) (ps : Tokens) → bare a ≡ bare b → Stands (spans_from tells 0 (exp_layout a)) ps → Stands (spans_from tells 0 (exp_layout b)) ps → a ≡ b
  one_expression = one (Exp A) (Exp Bare) bare exp_layout exp_layout exp_mark exp_at (exp_layout-map no_mark) exp_again

  pub one_statement : (a b : Stmt A) (ps : Tokens) → bare_stmt a ≡ bare_stmt b → Stands (spans_from tells 0 (stmt_layout a)) ps → Stands (spans_from tells 0 (stmt_layout b)) ps → a ≡ b
  one_statement = one (Stmt A) (Stmt Bare) bare_stmt stmt_layout stmt_layout stmt_mark stmt_at (stmt_layout-map no_mark) stmt_again

  pub one_member : (a b : Member A) (ps : Tokens) → bare_member a ≡ bare_member b → Stands (spans_from tells 0 (member_layout a)) ps → Stands (spans_from tells 0 (member_layout b)) ps → a ≡ b
  one_member = one (Member A) (Member Bare) bare_member member_layout member_layout member_mark member_at (member_layout-map no_mark) member_again

  pub one_unit : (a b : UnitTree A) (ps : Tokens) → a.mark ≡ b.mark → bare_unit a ≡ bare_unit b
      → StandInOrder (all_spans_from tells 0 (unit_layouts a)) ps → StandInOrder (all_spans_from tells 0 (unit_layouts b)) ps → a ≡ b
  one_unit a b ps m e h k =
      let spans : all_spans_from tells 0 (unit_layouts a) ≡ all_spans_from tells 0 (unit_layouts b) =
      all_so tells (unit_layouts a) (unit_layouts (bare_unit a)) ps (unit_layouts-map no_mark a) h ∙ ap (λ (t : UnitTree Bare). lay_all (unit_layouts t) ps) e
      ∙ sym (all_so tells (unit_layouts b) (unit_layouts (bare_unit b)) ps (unit_layouts-map no_mark b) k) in
      let parts : unit_layouts a ≡ unit_layouts b =
      all_told_apart tells apart 0 (unit_layouts a) (unit_layouts b) (unit_layouts-map no_mark a ∙ ap unit_layouts e ∙ sym (unit_layouts-map no_mark b)) spans in
      sym (unit_again a) ∙ (λ i. unit_at (m i) (e i) (parts i)) ∙ unit_again b

-- ---- marks that are spans

itself_apart : TellsApart itself
itself_apart m n base e = e

none : Span
none = record { from = 0; to = 0 }

told : (x : Layout Span) (ps : Tokens) → Stands x ps → Stands (spans_from itself 0 x) ps
told x ps h = subst (λ (y : Layout Span). Stands y ps) (sym (spans_from-span 0 x)) h

all_told : (xs : Layouts Span) (ps : Tokens) → StandInOrder xs ps → StandInOrder (all_spans_from itself 0 xs) ps
all_told xs ps h = subst (λ (ys : Layouts Span). StandInOrder ys ps) (sym (all_spans_from-span 0 xs)) h

pub marks_are_one : MarksAreOne
marks_are_one = record {
  expression = λ a b ps e h k. one_expression itself itself_apart a b ps e (told (exp_layout a) ps h) (told (exp_layout b) ps k);
  statement = λ a b ps e h k. one_statement itself itself_apart a b ps e (told (stmt_layout a) ps h) (told (stmt_layout b) ps k);
  statements = λ a b ps e h k.
      one itself itself_apart (Stmts Span) (Stmts Bare) bare_stmts stmts_layout stmts_layout (λ (s : Stmts Span). none) stmts_at (stmts_layout-map no_mark) stmts_again a b ps e (told (stmts_layout a) ps h)
      (told (stmts_layout b) ps k);
  member = λ a b ps e h k. one_member itself itself_apart a b ps e (told (member_layout a) ps h) (told (member_layout b) ps k);
  unit = λ a b ps m e h k. one_unit itself itself_apart a b ps m e (all_told (unit_layouts a) ps h) (all_told (unit_layouts b) ps k);
}

-- the parts stand where their tokens are
there : (x : Layout Bare) (y : Layout Span) (ps : Tokens) → y ≡ lay x ps → kinds ps ≡ laid x → Stands y ps
there x y ps e h = subst (λ (z : Layout Span). Stands z ps) (sym e) (lay_stands x ps h)

pub marks_are_there : MarksAreThere
marks_are_there = record {
  expression = λ e ps h. (exp_at none e (lay (exp_layout e) ps), exp_bare none e (lay (exp_layout e) ps), there (exp_layout e) _ ps (exp_stays none e ps) (sym h ∙ sym (exp_laid e)));
  statement = λ s ps h. (stmt_at none s (lay (stmt_layout s) ps), stmt_bare none s (lay (stmt_layout s) ps), there (stmt_layout s) _ ps (stmt_stays none s ps) (sym h ∙ sym (stmt_laid s)));
  statements = λ s ps h. (stmts_at none s (lay (stmts_layout s) ps), stmts_bare none s (lay (stmts_layout s) ps), there (stmts_layout s) _ ps (stmts_stays none s ps) (sym h ∙ sym (stmts_laid s)));
  member = λ d ps h. (member_at none d (lay (member_layout d) ps), member_bare none d (lay (member_layout d) ps), there (member_layout d) _ ps (member_stays none d ps) (sym h ∙ sym (member_laid d)));
  unit = λ m u ps h. (
    unit_at m u (lay_all (unit_layouts u) ps),
    refl,
    unit_bare m u (lay_all (unit_layouts u) ps),
    subst (λ (xs : Layouts Span). StandInOrder xs ps) (sym (unit_stays m u ps)) (lay_stand (unit_layouts u) ps (sym h ∙ sym (unit_laid u))),
  );
}

pub stands_spells : StandsSpells
stands_spells = record {
  expression = λ e ps h. sym (exp_laid e) ∙ sym (stands_laid (exp_layout e) ps h);
  statement = λ s ps h. sym (stmt_laid s) ∙ sym (stands_laid (stmt_layout s) ps h);
  statements = λ s ps h. sym (stmts_laid s) ∙ sym (stands_laid (stmts_layout s) ps h);
  member = λ d ps h. sym (member_laid d) ∙ sym (stands_laid (member_layout d) ps h);
  unit = λ u ps h. sym (unit_laid u) ∙ sym (stand_laid (unit_layouts u) ps h);
}

pub spans_tell_themselves : SpansTellThemselves
spans_tell_themselves = record { part = spans_from-span; parts = all_spans_from-span }
