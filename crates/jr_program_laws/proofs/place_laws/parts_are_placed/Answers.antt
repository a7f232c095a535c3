use Rattle.std.proofs.Common.{◌≡◌, ℕ, List, sym, subst, ◌∙◌}
use Rattle.std.proofs.lemmas.Option.{same_Some}
use Rattle.jr_text.specs.declared.spans.Span.{Span}
use Rattle.jr_lex.specs.declared.items.Item.{Item}
use Rattle.jr_lex.specs.Places.{ItemsPlaced}
use Rattle.jr_ast.specs.MemberTree.{Unit as UnitTree}
use Rattle.jr_grammar.specs.Tokens.{placed_of}
use Rattle.jr_table.specs.Decls.{MemberKey}
use Rattle.jr_table.specs.LookupLaws.{KeysFound, OneAnswer}
use Rattle.jr_table.specs.BindingLaws.{AreBound}
use Rattle.jr_table.specs.DeclaredItems.{declarations_of}
use Rattle.jr_table.specs.Errors.{Part, InClasses}
use Rattle.jr_program_laws.specs.FileParts.{begins}
use Rattle.jr_program_laws.specs.PlaceLaws.{IsFile, IsPart, PartsArePlaced, SupersStand}
use Rattle.jr_program_laws.proofs.TokenOrder.{Rising, whole_piece, piece_rises}
use Rattle.jr_program_laws.proofs.ItemTokens.{tokens_rise}
use Rattle.jr_program_laws.proofs.SuperPlaces.{part_binds, part_breaks}
use Rattle.jr_program_laws.proofs.PartTokens.{PartStands, unit_parts}
use Rattle.jr_program_laws.proofs.PartPlaces.{binds_within, breaks_within, binds_token, breaks_token, whole_over, super_there}
use Rattle.jr_program_laws.proofs.place_laws.parts_are_placed.Goals as goal

module _ (units : List (UnitTree Span)) (file : ℕ) (text : List ℕ) (items : List Item) (is : IsFile units file text items) (rises : Rising (placed_of text items)) where
  part_stands : (k : MemberKey) (base : ℕ) (part : Part Span) → IsPart units file k base part → PartStands (placed_of text items) part
  part_stands k base part x =
      let has = subst (λ (u : UnitTree Span). InClasses begins (declarations_of begins units) (λ l b p. (l ≡ k) × (b ≡ base) × (p ≡ part)) (begins u.mark 0) u.classes x.member) (same_Some _ _ (sym x.stands ∙ is.stands)) x.has in
      let found = unit_parts (placed_of text items) (declarations_of begins units) (λ l b p. (l ≡ k) × (b ≡ base) × (p ≡ part)) is.unit x.member has (placed_of text items) (whole_piece (placed_of text items)) is.is.marks in
      subst (PartStands (placed_of text items)) found.2.0.2 found.2.1

placed : ItemsPlaced → KeysFound → OneAnswer → AreBound Span → PartsArePlaced
placed items_placed keys single bound units file text items is k base part x s super rows =
    let rises = tokens_rise text items_placed items is.lexes in
    let stands = part_stands units file text items is rises k base part x in
    let ps = stands.tokens in
    let rise = piece_rises (placed_of text items) ps rises stands.piece in
    record {
      binds_there = part_binds rows items s k base part super;
      breaks_there = part_breaks rows items s k base part super;
      binds_within = binds_within text items rises s rows base ps stands.piece rise k part stands.stands super;
      breaks_within = breaks_within text items rises s rows base ps stands.piece rise k part stands.stands super;
      binds_token = binds_token text items rises s rows base ps stands.piece rise k part stands.stands super;
      breaks_token = breaks_token text items rises s rows base ps stands.piece rise k part stands.stands super;
      one = λ fit at d e b c.
          let holds = (whole_over text items rises rows fit (single rows fit) (bound rows fit (keys rows fit)) k base part).over ps rise stands.piece stands.stands in
          holds.one at d e ((part_binds rows items s k base part super at d).1 b) ((part_binds rows items s k base part super at e).1 c);
    }

supers : ItemsPlaced → SupersStand
supers items_placed units file text items is k base part x =
    let rises = tokens_rise text items_placed items is.lexes in
    let stands = part_stands units file text items is rises k base part x in
    super_there text items rises stands.tokens stands.piece (piece_rises (placed_of text items) stands.tokens rises stands.piece) part stands.stands

pub returns-clause-parts : goal.returns-clause-parts
returns-clause-parts c = placed c.items_are_placed.ensures.items c.lookups_are_exact.ensures.keys c.lookups_are_exact.ensures.one c.types_are_exact.ensures.bound

pub returns-clause-supers : goal.returns-clause-supers
returns-clause-supers c = supers c.items_are_placed.ensures.items
