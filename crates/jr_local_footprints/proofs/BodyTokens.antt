-- The tokens of a body's list: they rise, and begin behind the member's first byte. So its spans are
-- nested, also from there on.
use Rattle.std.proofs.Common.{◌≡◌, inl, inr, ℕ, suc, ◌+◌, ◌<◌, ◌≤◌, [], ◌∷◌, ◌++◌, Some, refl, sym, ap, subst, ◌∙◌, arith}
use Rattle.std.specs.Prelude.{slice_get}
use Rattle.std.proofs.lemmas.Option.{slice_get-map}
use Rattle.jr_text.specs.declared.spans.Span.{Span}
use Rattle.jr_lex.specs.Places.{ItemsPlaced}
use Rattle.jr_ast.specs.StatementTree as statement
use Rattle.jr_ast.specs.MemberTree as syntax
use Rattle.jr_grammar.specs.Tokens.{placed_of}
use Rattle.jr_grammar.specs.Layout.{itself}
use Rattle.jr_grammar.specs.Stands.{Tokens, first_from, last_to, span_of, Stands, StandInOrder}
use Rattle.jr_grammar.specs.StatementLayout.{stmts_layout}
use Rattle.jr_grammar.specs.MemberLayout.{unit_layouts}
use Rattle.jr_grammar.proofs.Layouts.{spans_from-span, all_spans_from-span}
use Rattle.jr_table.specs.DeclaredItems.{declarations_of}
use Rattle.jr_table.specs.Errors.{Part, class_part, member_part, part_mark}
use Rattle.jr_members.specs.WrittenMembers.{written_members}
use Rattle.jr_members.specs.WrittenLaws.{MembersAreWritten}
use Rattle.jr_bind.specs.Programs.{File, Program, IsProgram, units_of}
use Rattle.jr_program.proofs.Standing.{at_contains, map_some}
use Rattle.jr_program_laws.proofs.TokenOrder.{StartsIn, Rising, Filled, starts_first, to_last, last_before, rising_front, rising_back, in_front, whole_piece}
use Rattle.jr_program_laws.proofs.ItemTokens.{tokens_rise}
use Rattle.jr_program_laws.proofs.PartTokens.{StandsPart, unit_parts}
use Rattle.jr_pieces.specs.Nesting as nesting
use Rattle.jr_pieces.specs.Nesting.{ListNested, StandingListsAreNested, end_from}
use Rattle.jr_bodies.proofs.Nested.{Inner, member_list, rises_from}
use Rattle.jr_local_names.proofs.Parts.{starts_there}
use Rattle.jr_local.specs.Bodies.{begins, Body, HasBody}

-- tokens over which the list stands, and which begin behind the byte
pub record ListStands (at : ℕ) (ss : statement.Stmts Span) : Type 0 where
  pub tokens : Tokens
  pub stands : Stands (stmts_layout ss) tokens
  pub rise : Rising tokens
  pub behind : (i : ℕ) → StartsIn tokens i → at < i

part_begins : (part : Part Span) (ps : Tokens) → StandsPart part ps → part_mark part ≡ span_of ps
part_begins (class_part (syntax.class m mods w t ms)) ps h = h.mark
part_begins (member_part (syntax.field m mods t w init)) ps h = h.mark
part_begins (member_part (syntax.method m mods t w ps body)) qs h = h.mark
part_begins (member_part (syntax.constructor m mods w ps args body)) qs h = h.mark
part_begins (member_part (syntax.inner m c)) ps h = h.mark

same_first : (xs ys : Tokens) → Filled xs → first_from (xs ++ ys) ≡ first_from xs
same_first [] ys f = absurd f
same_first (x ∷ xs) ys f = refl

inner_stands : (b : statement.Stmts Span) (ps : Tokens) (at : ℕ) → first_from ps ≡ at → Rising ps → Inner b ps → ListStands at b
inner_stands b ps at first rise i =
    let front = i.among.front in
    let rest : Tokens = i.among.part ++ i.among.back in
    let all : Rising (front ++ rest) = subst Rising i.among.whole rise in
    let begins_at : first_from front ≡ at = sym (same_first front rest i.filled) ∙ ap first_from (sym i.among.whole) ∙ first in
    record {
      tokens = i.among.part;
      stands = i.among.stands;
      rise = rising_front i.among.part i.among.back (rising_back front rest all);
      behind = λ k s.
          let wide : first_from front < last_to front = to_last front (rising_front front rest all) (first_from front) (starts_first front i.filled) in
          let late : last_to front ≤ k = last_before front rest all i.filled k (in_front i.among.part i.among.back k s) in
          omega (arith, wide, late, begins_at);
    }

pub body_stands : ItemsPlaced → MembersAreWritten Span → (p : Program Span) → IsProgram itself (λ m b. Unit {0}) p → (file : ℕ) (b : Body) → HasBody p file b → ListStands b.at.base b.list
body_stands placed written p program file b h =
    let w = h.member in
    let is = (written begins (units_of p) p.rows program.are_rows program.rows).each w (at_contains (written_members begins p.rows (units_of p)) h.number w h.written) in
    let g = map_some (λ (x : File Span). x.unit) (slice_get p.files w.file) is.unit (sym (slice_get-map (λ (x : File Span). x.unit) p.files w.file) ∙ is.stands) in
    let r = program.reads w.file g.0 g.1 in
    let all = placed_of g.0.text r.items in
    let stands : StandInOrder (unit_layouts is.unit) all = subst (λ u. StandInOrder (unit_layouts u) all) g.2 (subst (λ x. StandInOrder x all) (all_spans_from-span 0 (unit_layouts g.0.unit)) r.spans) in
    let some = unit_parts all (declarations_of begins (units_of p)) (λ j n q. (n ≡ w.base) × (q ≡ w.part)) is.unit w.key is.writes all (whole_piece all) stands in
    let piece = some.2.1.piece in
    let tokens = some.2.1.tokens in
    let rises = rising_front tokens piece.back (rising_back piece.front (tokens ++ piece.back) (subst Rising piece.whole (tokens_rise g.0.text placed r.items r.lexes))) in
    let there = subst (λ q. StandsPart q tokens) some.2.0.1 some.2.1.stands in
    let first : first_from tokens ≡ b.at.base = ap (λ (s : Span). s.from) (sym (part_begins w.part tokens there)) ∙ starts_there w.key w.base w.part b.bound b h.is in
    inner_stands b.list tokens b.at.base first rises (member_list w.key w.base w.part b.bound b h.is tokens there)

-- spans in it are nested in one that begins at the byte
pub nested_from : StandingListsAreNested Span → (at : ℕ) (ss : statement.Stmts Span) (l : ListStands at ss) → ListNested itself (record { from = at; to = end_from (suc at) l.tokens }) (suc at) ss
nested_from law at ss l =
    let there = subst (λ x. Stands x l.tokens) (sym (spans_from-span at (stmts_layout ss))) l.stands in
    law itself (record { from = at; to = end_from (suc at) l.tokens }) (suc at) ss l.tokens there (let less : at < suc at = omega arith in less)
    (rises_from l.tokens (suc at) l.rise (λ i s. let less = l.behind i s in let up : suc at ≤ i = omega (arith, less) in up)) (let ends : end_from (suc at) l.tokens ≤ end_from (suc at) l.tokens = omega arith in ends)
