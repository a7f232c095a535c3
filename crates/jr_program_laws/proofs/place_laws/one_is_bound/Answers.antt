use Rattle.std.proofs.Common.{sym, subst, ◌∙◌}
use Rattle.std.proofs.lemmas.Option.{same_Some}
use Rattle.jr_text.specs.declared.spans.Span.{Span}
use Rattle.jr_lex.specs.Places.{ItemsPlaced}
use Rattle.jr_ast.specs.MemberTree.{Unit as UnitTree}
use Rattle.jr_grammar.specs.Tokens.{placed_of}
use Rattle.jr_table.specs.Decls.{Decl}
use Rattle.jr_table.specs.LookupLaws.{KeysFound, OneAnswer}
use Rattle.jr_table.specs.BindingLaws.{AreBound}
use Rattle.jr_table.specs.DeclaredItems.{declarations_of}
use Rattle.jr_table.specs.Errors.{InClasses}
use Rattle.jr_program_laws.specs.FileParts.{begins, BindsAt, InFile}
use Rattle.jr_program_laws.specs.PlaceLaws.{OneIsBound}
use Rattle.jr_program_laws.proofs.TokenOrder.{whole_piece}
use Rattle.jr_program_laws.proofs.ItemTokens.{tokens_rise}
use Rattle.jr_program_laws.proofs.MeansOnce.{declares_once}
use Rattle.jr_program_laws.proofs.FileHolds.{unit_over}
use Rattle.jr_program_laws.proofs.place_laws.one_is_bound.Goals as goal

one_is_bound : ItemsPlaced → KeysFound → OneAnswer → AreBound Span → OneIsBound
one_is_bound placed keys single bound packages units file text items rows is clean fit at d e x y =
    let rises = tokens_rise text placed items is.lexes in
    let holds = (unit_over text items rises rows fit (single rows fit) (bound rows fit (keys rows fit)) (declarations_of begins units) (declares_once packages (declarations_of begins units) clean) is.unit).over
    (placed_of text items) rises (whole_piece (placed_of text items)) is.is.marks in
    holds.one at d e (x.member, in_unit d x) (y.member, in_unit e y)
  where
    in_unit : (d : Decl) (x : InFile units file (λ k base part. BindsAt rows items k base part at d)) → InClasses begins (declarations_of begins units) (λ k base part. BindsAt rows items k base part at d) (begins is.unit.mark 0) is.unit.classes x.member
    in_unit d x = subst (λ (u : UnitTree Span). InClasses begins (declarations_of begins units) (λ k base part. BindsAt rows items k base part at d) (begins u.mark 0) u.classes x.member) (same_Some _ _ (sym x.stands ∙ is.stands)) x.has

pub returns : goal.returns
returns c = one_is_bound c.items_are_placed.ensures.items c.lookups_are_exact.ensures.keys c.lookups_are_exact.ensures.one c.types_are_exact.ensures.bound
