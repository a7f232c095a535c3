-- What stands behind an element of a body among its file's tokens.
use Rattle.std.proofs.Common.{◌≡◌, ◌⊎◌, inl, inr, ℕ, [], ◌∷◌, ◌++◌, Bool, true, false, Some, None, refl, sym, ap, subst, ◌∙◌}
use Rattle.std.specs.Prelude.{slice_get, option_map}
use Rattle.std.proofs.lemmas.Option.{slice_get-map}
use Rattle.std.proofs.lemmas.List.{append_assoc}
use Rattle.jr_text.specs.declared.spans.Span.{Span}
use Rattle.jr_lex.specs.Lexes.{Lexes}
use Rattle.jr_lex.specs.Places.{ItemsPlaced}
use Rattle.jr_ast.specs.Tree as tree
use Rattle.jr_ast.specs.StatementTree as statement
use Rattle.jr_ast.specs.MemberTree as syntax
use Rattle.jr_grammar.specs.Layout.{itself}
use Rattle.jr_grammar.specs.Reads.{ReadsWithSpans}
use Rattle.jr_grammar.specs.Tokens.{Token, placed_of}
use Rattle.jr_grammar.specs.Stands.{Tokens, Stands}
use Rattle.jr_grammar.specs.ExpressionLayout.{word_layout, exp_layout}
use Rattle.jr_grammar.specs.StatementLayout.{stmt_layout, stmts_layout}
use Rattle.jr_members.specs.WrittenMembers.{written_members}
use Rattle.jr_members.specs.WrittenLaws.{MembersAreWritten}
use Rattle.jr_bind.specs.Programs.{File, Program, IsProgram, units_of}
use Rattle.jr_program.proofs.Standing.{at_contains, map_some}
use Rattle.jr_program_laws.proofs.TokenOrder.{Rising, Filled}
use Rattle.jr_program_laws.proofs.ItemTokens.{tokens_rise}
use Rattle.jr_pieces.specs.Ways.{ListWay, later}
use Rattle.jr_pieces.specs.Nearest.{Element, nearest}
use Rattle.jr_pieces.specs.Nesting.{StandingListsAreNested}
use Rattle.jr_bodies.specs.Bodies.{begins, Body, HasBody}
use Rattle.jr_bodies.specs.BodyLaws.{IsNested}
use Rattle.jr_bodies.proofs.Nested.{inner_nested}
use Rattle.jr_bodies.proofs.Nested as low
use Rattle.jr_local_texts.proofs.StandingParts.{Among, among_first, among_rest, among_both, list_among, LastIs, ListFront, ElementWithin}
use Rattle.jr_local_texts.proofs.StandingBodies.{element_stands}
use Rattle.jr_local_marks.specs.MarkLaws.{IsWhole, IsSpelled, IsSpelledBehind, BodiesAreSpelled}
use Rattle.jr_local_marks.proofs.Spelling.{word_whole, name_spelled}

filled_last : (P : Token → Type 0) (ps : Tokens) → LastIs P ps → Filled ps
filled_last P [] h = h
filled_last P (p ∷ ps) h = tt

-- the word that a declaration declares
declared_word : (mark : Span) (is_final : Bool) (type : tree.TypeName Span) (word : tree.Word Span) (init : tree.Exp Span) (ps : Tokens) → Stands (stmt_layout (statement.local mark is_final type word init)) ps → Among (Stands (word_layout word)) ps
declared_word mark is_final type word init ps h = among_rest ps h.parts (λ qs k. among_rest qs k (λ rs l. among_first rs l (λ us i. record { front = []; part = us; back = []; whole = none us; stands = i })))
  where
    none : (us : Tokens) → us ≡ [] ++ (us ++ [])
    none [] = refl
    none (u ∷ us) = ap (λ (xs : Tokens). u ∷ xs) (none us)

module _ (placed : ItemsPlaced) (written : MembersAreWritten Span) (law : StandingListsAreNested Span) (p : Program Span) (program : IsProgram itself (λ m b. Unit {0}) p) (file : ℕ) (b : Body) (h : HasBody p file b) {g : tree.Exp Span} (d : ListWay g b.list) where
  abbrev el : Element g
  el = nearest begins b.at d

  abbrev held : statement.Stmts Span
  held = statement.more el.stmt el.rest

  -- the file that holds it
  found_file : (f : File Span) × (slice_get p.files file ≡ Some f) × ReadsWithSpans itself f.text f.unit
  found_file =
      let is = (written begins (units_of p) p.rows program.are_rows program.rows).each h.member (at_contains (written_members begins p.rows (units_of p)) h.number h.member h.written) in
      let stands = ap (slice_get (units_of p)) (sym h.in_file) ∙ is.stands in
      let f = map_some (λ (x : File Span). x.unit) (slice_get p.files file) is.unit (sym (slice_get-map (λ (x : File Span). x.unit) p.files file) ∙ stands) in
      (f.0, f.1, program.reads file f.0 f.1)

  spelled : IsSpelledBehind b d
  spelled =
      let f = found_file in
      let text = f.0.text in
      let r = f.2 in
      let all = placed_of text r.items in
      let e : ElementWithin el all = element_stands p program written file text r.items (f.0, f.1, refl) r.lexes b h d in
      let there : Among (Stands (stmts_layout held)) all = e.among in
      record {
        names = λ m w way. name_spelled placed text r.items r.lexes m w (among_both all there (λ ps k. list_among (tree.name m w) held (later el.stmt el.rest way) ps k));
        declared = λ mark is_final type word init is. word_whole placed text r.items r.lexes word (among_both all there (λ ps k. among_first ps k (λ qs i. declared_word mark is_final type word init qs (subst (λ (s : statement.Stmt Span). Stands (stmt_layout s) qs) is i))));
        nested = nested_rest all (tokens_rise text placed r.items r.lexes) e;
      }
    where
      nested_rest : (all : Tokens) → Rising all → ElementWithin el all → IsNested el.rest
      nested_rest all rise e =
          let k = e.among.stands in
          let rest = k.rest in
          inner_nested law el.rest all rise (record {
            among = record {
              front = e.among.front ++ k.front;
              part = rest.front;
              back = rest.back ++ e.among.back;
              whole = e.among.whole ∙ ap (λ (xs : Tokens). e.among.front ++ (xs ++ e.among.back)) (k.whole ∙ ap (λ (xs : Tokens). k.front ++ xs) rest.whole) ∙ regroup e.among.front k.front rest.front rest.back e.among.back;
              stands = rest.first;
            };
            filled = filled_more e.among.front k.front (filled_last ListFront e.among.front e.front);
          })
        where
          regroup : (v w x y z : Tokens) → v ++ ((w ++ (x ++ y)) ++ z) ≡ (v ++ w) ++ (x ++ (y ++ z))
          regroup v w x y z = simp append_assoc

          filled_more : (xs ys : Tokens) → Filled xs → Filled (xs ++ ys)
          filled_more [] ys h = absurd h
          filled_more (x ∷ xs) ys h = tt

pub bodies_are_spelled : ItemsPlaced → MembersAreWritten Span → StandingListsAreNested Span → BodiesAreSpelled
bodies_are_spelled placed written law p program file b h g d = spelled placed written law p program file b h d
