-- Trees that spell the same tokens are the same but for their marks, and equal where they have the same spans.
use Rattle.std.proofs.Common.{◌≡◌, ℕ, Bool, List, [], ◌++◌, refl, sym, ap, ◌∙◌}
use Rattle.jr_text.specs.declared.spans.Span.{Span}
use Rattle.jr_lex.specs.declared.items.Item.{Item}
use Rattle.jr_lex.specs.Lexes.{Lexes}
use Rattle.jr_ast.specs.StatementTree.{Stmt, Stmts, end, more}
use Rattle.jr_ast.specs.MemberTree.{Member, Unit as UnitTree}
use Rattle.jr_grammar.specs.Tokens.{Token, tokens_of}
use Rattle.jr_grammar.specs.StatementSpelling.{stmt_toks, stmts_toks}
use Rattle.jr_grammar.specs.StatementShape.{StmtShaped, StmtsShaped}
use Rattle.jr_grammar.specs.MemberSpelling.{member_toks, unit_toks}
use Rattle.jr_grammar.specs.MemberShape.{MemberShaped, UnitShaped}
use Rattle.jr_grammar.specs.Bare.{Bare, no_mark, bare_stmt, bare_stmts, bare_member, bare_unit}
use Rattle.jr_grammar.specs.IgnoresMarks.{StatementIgnoresMarks, MemberIgnoresMarks, UnitIgnoresMarks}
use Rattle.jr_grammar.specs.MarksAreOne.{MarksAreOne}
use Rattle.jr_punit_laws.specs.OneReading.{OneReading, OneMarkedTree}
use Rattle.jr_punit_laws.proofs.Readings.{one_list, one_member, one_unit}

-- what holds of trees whatever their marks
pub record Ignores (A : Type 0) : Type 0 where
  pub statements : StatementIgnoresMarks A Bare
  pub members : MemberIgnoresMarks A Bare
  pub units : UnitIgnoresMarks A Bare

-- no text has two lists of items
abbrev pub OneLexing : Type 0
OneLexing = (bytes : List ℕ) (items others : List Item) → Lexes bytes items → Lexes bytes others → items ≡ others

first_stmt : Stmts Bare → Stmt Bare → Stmt Bare
first_stmt end d = d
first_stmt (more s ss) d = s

first_is : (s : Stmt Bare) (ss : Stmts Bare) (d : Stmt Bare) → first_stmt (more s ss) d ≡ s
unfolding first_stmt
first_is s ss d = refl

module _ (A : Type 0) (g : Ignores A) where
  abbrev no : A → Bare
  no m = no_mark m

  same_unit : (a b : UnitTree A) → UnitShaped a → UnitShaped b → unit_toks a ≡ unit_toks b → bare_unit a ≡ bare_unit b
  same_unit a b h k e = one_unit (bare_unit a) (bare_unit b) ((g.units.shape no a).1 h) ((g.units.shape no b).1 k) (g.units.spelling no a ∙ e ∙ sym (g.units.spelling no b))

  same_member : (nested : Bool) (name : List ℕ) (a b : Member A) → MemberShaped nested name a → MemberShaped nested name b → member_toks a ≡ member_toks b → bare_member a ≡ bare_member b
  same_member nested name a b h k e =
      one_member nested name (bare_member a) (bare_member b) ((g.members.shape no nested name a).1 h) ((g.members.shape no nested name b).1 k) (g.members.spelling no a ∙ e ∙ sym (g.members.spelling no b))

  same_list : (a b : Stmts A) → StmtsShaped a → StmtsShaped b → stmts_toks a ≡ stmts_toks b → bare_stmts a ≡ bare_stmts b
  same_list a b h k e =
      one_list (bare_stmts a) (bare_stmts b) ((g.statements.list_shape no a).1 h) ((g.statements.list_shape no b).1 k) (g.statements.list_spelling no a ∙ e ∙ sym (g.statements.list_spelling no b))

  same_statement : (a b : Stmt A) → StmtShaped a → StmtShaped b → stmt_toks a ≡ stmt_toks b → bare_stmt a ≡ bare_stmt b
  same_statement a b h k e =
      let f = g.statements.spelling no a ∙ e ∙ sym (g.statements.spelling no b) in
      let lists : more (bare_stmt a) end ≡ more (bare_stmt b) end =
      one_list (more (bare_stmt a) end) (more (bare_stmt b) end) ((g.statements.shape no a).1 h, tt) ((g.statements.shape no b).1 k, tt) (ap (λ (ts : List Token). ts ++ []) f) in
      sym (first_is (bare_stmt a) end (bare_stmt a)) ∙ ap (λ (ss : Stmts Bare). first_stmt ss (bare_stmt a)) lists ∙ first_is (bare_stmt b) end (bare_stmt a)

  pub one_reading : OneLexing → OneReading A
  one_reading one = record {
    unit = λ bytes a b h k. same_unit a b h.is.shaped k.is.shaped (h.is.spells ∙ ap (tokens_of bytes) (one bytes h.items k.items h.lexes k.lexes) ∙ sym k.is.spells);
    member = λ nested name bytes a b h k. same_member nested name a b h.is.shaped k.is.shaped (h.is.spells ∙ ap (tokens_of bytes) (one bytes h.items k.items h.lexes k.lexes) ∙ sym k.is.spells);
    statement = λ bytes a b h k. same_statement a b h.is.shaped k.is.shaped (h.is.spells ∙ ap (tokens_of bytes) (one bytes h.items k.items h.lexes k.lexes) ∙ sym k.is.spells);
  }

pub one_marked_tree : Ignores Span → MarksAreOne → OneMarkedTree
one_marked_tree g m = record {
  unit = λ size ts a b h k. m.unit a b ts (h.file ∙ sym k.file) (same_unit Span g a b h.shaped k.shaped (h.spells ∙ sym k.spells)) h.marks k.marks;
  member = λ nested name ts a b h k. m.member a b ts (same_member Span g nested name a b h.shaped k.shaped (h.spells ∙ sym k.spells)) h.marks k.marks;
  list = λ ts a b h k. m.statements a b ts (same_list Span g a b h.shaped k.shaped (h.spells ∙ sym k.spells)) h.marks k.marks;
  statement = λ ts a b h k. m.statement a b ts (same_statement Span g a b h.shaped k.shaped (h.spells ∙ sym k.spells)) h.marks k.marks;
}
