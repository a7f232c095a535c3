-- Where the list of a body stands among its file's tokens: behind a brace, so not where they begin.
use Rattle.std.proofs.Common.{◌≡◌, inl, ℕ, ◌<◌, ◌≤◌, [], ◌∷◌, ◌++◌, Some, refl, sym, ap, subst, ◌∙◌, arith}
use Rattle.std.proofs.lemmas.List.{append_assoc, append-nil}
use Rattle.std.specs.Prelude.{slice_get}
use Rattle.std.proofs.lemmas.Option.{slice_get-map}
use Rattle.jr_text.specs.declared.spans.Span.{Span}
use Rattle.jr_lex.specs.declared.items.Symbol.TheVariants.{OpenBrace}
use Rattle.jr_lex.specs.Places.{ItemsPlaced}
use Rattle.jr_ast.specs.StatementTree as statement
use Rattle.jr_ast.specs.MemberTree as syntax
use Rattle.jr_grammar.specs.Tokens.{symbol, placed_of}
use Rattle.jr_grammar.specs.Layout.{itself}
use Rattle.jr_grammar.specs.Stands.{Tokens, first_from, last_to, IsAlone, InOrder, Stands, StandInOrder}
use Rattle.jr_grammar.specs.StatementLayout.{stmts_layout}
use Rattle.jr_grammar.specs.MemberLayout.{unit_layouts}
use Rattle.jr_grammar.proofs.Layouts.{spans_from-span, all_spans_from-span}
use Rattle.jr_table.specs.Decls.{MemberKey}
use Rattle.jr_table.specs.DeclaredItems.{declarations_of}
use Rattle.jr_table.specs.Errors.{Part, class_part, member_part}
use Rattle.jr_members.specs.WrittenMembers.{written_members}
use Rattle.jr_members.specs.WrittenLaws.{MembersAreWritten}
use Rattle.jr_bind.specs.Bounds.{Bound}
use Rattle.jr_bind.specs.Programs.{File, units_of}
use Rattle.jr_program.proofs.Standing.{at_contains, map_some}
use Rattle.jr_program_laws.proofs.TokenOrder.{StartsIn, Rising, Filled, starts_first, to_last, last_before, rising_front, rising_back, in_front, whole_piece, filled_back, filled_front}
use Rattle.jr_program_laws.proofs.ItemTokens.{tokens_rise}
use Rattle.jr_program_laws.proofs.PartTokens.{StandsPart, unit_parts}
use Rattle.jr_pieces.specs.Nesting as nesting
use Rattle.jr_pieces.specs.Nesting.{ListNested, StandingListsAreNested, end_from}
use Rattle.jr_bodies.specs.Bodies.{begins, Body, body_of}
use Rattle.jr_bodies.specs.BodyLaws.{IsNested, BodiesAreNested}
use Rattle.jr_bodies.proofs.Coded.{no_body, same_body}

-- ---- among tokens

-- some of the tokens, one behind the other
pub record Among (Part : Tokens → Type 0) (ps : Tokens) : Type 0 where
  pub front : Tokens
  pub part : Tokens
  pub back : Tokens
  pub whole : ps ≡ front ++ (part ++ back)
  pub stands : Part part

pub grouped_back : (a b c d : Tokens) → (a ++ (b ++ c)) ++ d ≡ a ++ (b ++ (c ++ d))
grouped_back a b c d = simp append_assoc

pub grouped_front : (a b c d : Tokens) → a ++ (b ++ (c ++ d)) ≡ (a ++ b) ++ (c ++ d)
grouped_front a b c d = simp append_assoc

abbrev pub among_first : {Part P Q : Tokens → Type 0} (ps : Tokens) → InOrder P Q ps → ((qs : Tokens) → P qs → Among Part qs) → Among Part ps
among_first ps h go =
    let a = go h.front h.first in
    record {
      front = a.front;
      part = a.part;
      back = a.back ++ h.back;
      whole = h.whole ∙ ap (λ x. x ++ h.back) a.whole ∙ grouped_back a.front a.part a.back h.back;
      stands = a.stands;
    }

abbrev pub among_rest : {Part P Q : Tokens → Type 0} (ps : Tokens) → InOrder P Q ps → ((qs : Tokens) → Q qs → Among Part qs) → Among Part ps
among_rest ps h go =
    let a = go h.back h.rest in
    record {
      front = h.front ++ a.front;
      part = a.part;
      back = a.back;
      whole = h.whole ∙ ap (λ x. h.front ++ x) a.whole ∙ grouped_front h.front a.front a.part a.back;
      stands = a.stands;
    }

-- the list stands among the tokens, and not where they begin
pub record Inner (b : statement.Stmts Span) (ps : Tokens) : Type 0 where
  pub among : Among (Stands (stmts_layout b)) ps
  pub filled : Filled among.front

deeper : {b : statement.Stmts Span} {P Q : Tokens → Type 0} (ps : Tokens) → InOrder P Q ps → ((qs : Tokens) → Q qs → Inner b qs) → Inner b ps
deeper ps h go =
    let i = go h.back h.rest in
    record { among = among_rest ps h (λ qs k. (go qs k).among); filled = filled_back h.front i.among.front i.filled }

abbrev all_there : {Holds : Tokens → Type 0} (ps : Tokens) → Holds ps → Among Holds ps
all_there ps h = record { front = []; part = ps; back = []; whole = sym (append-nil ps); stands = h }

open_filled : (ps more : Tokens) → IsAlone (symbol OpenBrace) ps → Filled (ps ++ more)
open_filled ps more h = filled_front ps more (subst Filled (sym h.alone) tt)

braced : {b : statement.Stmts Span} {Q : Tokens → Type 0} (ps : Tokens) → InOrder (IsAlone (symbol OpenBrace)) (InOrder (Stands (stmts_layout b)) Q) ps → Inner b ps
braced ps h =
    let a = among_rest ps h (λ qs k. among_first qs k all_there) in
    record { among = a; filled = open_filled h.front [] h.first }

behind_call : {b : statement.Stmts Span} {C Q : Tokens → Type 0} (ps : Tokens) → InOrder (IsAlone (symbol OpenBrace)) (InOrder C (InOrder (Stands (stmts_layout b)) Q)) ps → Inner b ps
behind_call ps h =
    let a = among_rest ps h (λ qs k. among_rest qs k (λ rs l. among_first rs l all_there)) in
    record { among = a; filled = open_filled h.front (h.rest.front ++ []) h.first }

pub member_list : (k : MemberKey) (base : ℕ) (part : Part Span) (bound : Bound) (b : Body) → body_of k base part bound ≡ Some b → (ps : Tokens) → StandsPart part ps → Inner b.list ps
member_list k base (class_part c) bound b e ps h = absurd (no_body b e)
member_list k base (member_part (syntax.field m mods t w init)) bound b e ps h = absurd (no_body b e)
member_list k base (member_part (syntax.inner m c)) bound b e ps h = absurd (no_body b e)
member_list k base (member_part (syntax.method m mods t w qs body)) bound b e ps h =
    subst (λ (x : Body). Inner x.list ps) (same_body _ b e)
    (deeper ps h.parts (λ q1 h1. deeper q1 h1 (λ q2 h2. deeper q2 h2 (λ q3 h3. deeper q3 h3 (λ q4 h4. deeper q4 h4 (λ q5 h5. deeper q5 h5 (λ q6 h6. braced q6 h6)))))))
member_list k base (member_part (syntax.constructor m mods w qs args body)) bound b e ps h =
    subst (λ (x : Body). Inner x.list ps) (same_body _ b e)
    (deeper ps h.parts (λ q1 h1. deeper q1 h1 (λ q2 h2. deeper q2 h2 (λ q3 h3. deeper q3 h3 (λ q4 h4. deeper q4 h4 (λ q5 h5. behind_call q5 h5))))))

-- ---- nested spans

pub rises_from : (ps : Tokens) (lo : ℕ) → Rising ps → ((at : ℕ) → StartsIn ps at → lo ≤ at) → nesting.Rising lo ps
rises_from [] lo r h = tt
rises_from (p ∷ ps) lo r h = (h p.mark.from (inl refl), r.0, rises_from ps p.mark.to r.2 r.1)

parts_rise : (front part back : Tokens) → Rising (front ++ (part ++ back)) → Filled front → nesting.Rising 1 part
parts_rise front part back r filled = rises_from part 1 (rising_front part back (rising_back front (part ++ back) r)) later
  where
    later : (at : ℕ) → StartsIn part at → 1 ≤ at
    later at s =
        let wide : first_from front < last_to front = to_last front (rising_front front (part ++ back) r) (first_from front) (starts_first front filled) in
        let behind : last_to front ≤ at = last_before front (part ++ back) r filled at (in_front part back at s) in
        omega (arith, wide, behind)

pub inner_nested : StandingListsAreNested Span → (b : statement.Stmts Span) (ps : Tokens) → Rising ps → Inner b ps → IsNested b
inner_nested law b ps r i =
    let whole : Tokens = i.among.part in
    let there = subst (λ l. Stands l whole) (sym (spans_from-span 0 (stmts_layout b))) i.among.stands in
    let rise : nesting.Rising 1 whole = parts_rise i.among.front whole i.among.back (subst Rising i.among.whole r) i.filled in
    record { to = end_from 1 whole; nested = law itself (record { from = 0; to = end_from 1 whole }) 1 b whole there (let one : 0 < 1 = omega arith in one) rise (let ends : end_from 1 whole ≤ end_from 1 whole = omega arith in ends) }

pub bodies_are_nested : ItemsPlaced → MembersAreWritten Span → StandingListsAreNested Span → BodiesAreNested
bodies_are_nested placed written law p program file b h =
    let w = h.member in
    let is = (written begins (units_of p) p.rows program.are_rows program.rows).each w (at_contains (written_members begins p.rows (units_of p)) h.number w h.written) in
    let g = map_some (λ (x : File Span). x.unit) (slice_get p.files w.file) is.unit (sym (slice_get-map (λ (x : File Span). x.unit) p.files w.file) ∙ is.stands) in
    let r = program.reads w.file g.0 g.1 in
    let all = placed_of g.0.text r.items in
    let stands : StandInOrder (unit_layouts is.unit) all = subst (λ u. StandInOrder (unit_layouts u) all) g.2 (subst (λ x. StandInOrder x all) (all_spans_from-span 0 (unit_layouts g.0.unit)) r.spans) in
    let some = unit_parts all (declarations_of begins (units_of p)) (λ j n q. (n ≡ w.base) × (q ≡ w.part)) is.unit w.key is.writes all (whole_piece all) stands in
    let piece = some.2.1.piece in
    let rises = rising_front some.2.1.tokens piece.back (rising_back piece.front (some.2.1.tokens ++ piece.back) (subst Rising piece.whole (tokens_rise g.0.text placed r.items r.lexes))) in
    inner_nested law b.list some.2.1.tokens rises (member_list w.key w.base w.part b.bound b h.is some.2.1.tokens (subst (λ q. StandsPart q some.2.1.tokens) some.2.0.1 some.2.1.stands))
