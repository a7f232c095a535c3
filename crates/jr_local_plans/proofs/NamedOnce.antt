-- Behind a declaration: ways to expressions of one span are one, and so are ways to names that begin at
-- one byte.
use Rattle.std.proofs.Common.{◌≤◌, ◌<◌, ◌≡◌, ◌⊎◌, inl, inr, ℕ, [], ◌∷◌, ◌++◌, Some, refl, sym, ap, ◌∙◌, subst, arith}
use Rattle.std.specs.Prelude.{slice_get}
use Rattle.std.proofs.lemmas.List.{append_assoc, append-nil}
use Rattle.jr_text.specs.declared.spans.Span.{Span}
use Rattle.jr_ast.specs.Tree as tree
use Rattle.jr_ast.specs.StatementTree as statement
use Rattle.jr_ast.specs.Marks.{exp_mark}
use Rattle.jr_grammar.specs.Tokens.{placed_of}
use Rattle.jr_grammar.specs.Layout.{itself}
use Rattle.jr_grammar.specs.Stands.{Tokens, first_from, span_of, Stands}
use Rattle.jr_grammar.specs.ExpressionLayout.{exp_layout}
use Rattle.jr_grammar.specs.StatementLayout.{stmts_layout}
use Rattle.jr_grammar.proofs.Layouts.{spans_from-span}
use Rattle.jr_members.specs.WrittenMembers.{written_members}
use Rattle.jr_bind.specs.Programs.{Program, units_of}
use Rattle.jr_program_laws.proofs.TokenOrder.{StartsIn, Rising, Filled, in_front as starts_in_front, rising_front, starts_first, to_last, last_before, piece_rises}
use Rattle.jr_program_laws.proofs.ItemTokens.{tokens_rise}
use Rattle.jr_pieces.specs.Ways.{ListWay}
use Rattle.jr_pieces.specs.Nearest.{Element, nearest}
use Rattle.jr_pieces.specs.Nesting as nesting
use Rattle.jr_pieces.specs.Nesting.{ListNested, end_from}
use Rattle.jr_told_ways.specs.Told.{In}
use Rattle.jr_local.specs.Bodies.{begins, Body, HasBody}
use Rattle.jr_local.specs.Texts.{HasText}
use Rattle.jr_local_texts.proofs.StandingParts.{Among, LastIs, ListFront, ElementWithin, list_among}
use Rattle.jr_local_texts.proofs.StandingBodies.{element_stands, file_of_unit, contains_at}
use Rattle.jr_one_plans.proofs.Beside.{IsWhole}
use Rattle.jr_local_plans.proofs.OneSelected.{list_ends}
use Rattle.jr_local_plans.proofs.BodiesOnce.{Laws}

-- ---- tokens that begin at one byte end at one

abbrev EndsIn : Tokens → (from to : ℕ) → Type 0
EndsIn [] from to = ⊥
EndsIn (p ∷ ps) from to = ((from ≡ p.mark.from) × (to ≡ p.mark.to)) ⊎ EndsIn ps from to

starts_too : (ps : Tokens) (from to : ℕ) → EndsIn ps from to → StartsIn ps from
starts_too [] from to h = absurd h
starts_too (p ∷ ps) from to (inl h) = inl h.0
starts_too (p ∷ ps) from to (inr h) = inr (starts_too ps from to h)

ends_once : (ps : Tokens) → Rising ps → (from to other : ℕ) → EndsIn ps from to → EndsIn ps from other → to ≡ other
ends_once [] r from to other x y = absurd x
ends_once (p ∷ ps) r from to other (inl x) (inl y) = x.1 ∙ sym y.1
ends_once (p ∷ ps) r from to other (inl x) (inr y) = let later = r.1 from (starts_too ps from other y) in let wide = r.0 in let e = x.0 in absurd (omega (arith, later, wide, e))
ends_once (p ∷ ps) r from to other (inr x) (inl y) = let later = r.1 from (starts_too ps from to x) in let wide = r.0 in let e = y.0 in absurd (omega (arith, later, wide, e))
ends_once (p ∷ ps) r from to other (inr x) (inr y) = ends_once ps r.2 from to other x y

ends_behind : (front ps : Tokens) (from to : ℕ) → EndsIn ps from to → EndsIn (front ++ ps) from to
ends_behind [] ps from to h = h
ends_behind (q ∷ front) ps from to h = inr (ends_behind front ps from to h)

-- a name is one token
name_ends : (m : Span) (w : tree.Word Span) (ps : Tokens) (a : Among (Stands (exp_layout (tree.name m w))) ps) → EndsIn ps m.from m.to
name_ends m w ps a =
    let word = a.stands.parts in
    let one = word.first.parts in
    let token = one.first in
    let front : one.front ≡ token.placed ∷ [] = token.alone in
    let part : a.part ≡ token.placed ∷ [] = word.whole ∙ (λ i. word.front ++ word.rest i) ∙ append-nil word.front ∙ one.whole ∙ (λ i. front i ++ one.rest i) in
    let mark : m ≡ span_of (token.placed ∷ []) = a.stands.mark ∙ ap span_of part in
    let here : EndsIn (a.part ++ a.back) m.from m.to =
    subst (λ (qs : Tokens). EndsIn (qs ++ a.back) m.from m.to) (sym part) (inl (ap (λ (s : Span). s.from) mark, ap (λ (s : Span). s.to) mark)) in
    subst (λ (qs : Tokens). EndsIn qs m.from m.to) (sym a.whole) (ends_behind a.front (a.part ++ a.back) m.from m.to here)

some_front : (xs ys : Tokens) → LastIs ListFront xs → Filled (xs ++ ys)
some_front [] ys l = absurd l
some_front (x ∷ xs) ys l = tt

-- an expression of the list, with the way to it
abbrev pub there_in : {b : statement.Stmts Span} {f : tree.Exp Span} → ListWay f b → In (λ (h : tree.Exp Span). ListWay h b)
there_in {b} {f} d = record { value = f; way = d }

-- behind other tokens, none of these begins at the first byte
rises_from : (ps : Tokens) (lo : ℕ) → Rising ps → ((at : ℕ) → StartsIn ps at → lo ≤ at) → nesting.Rising lo ps
rises_from [] lo r h = tt
rises_from (p ∷ ps) lo r h = (h p.mark.from (inl refl), r.0, rises_from ps p.mark.to r.2 r.1)

behind_first : (front run back : Tokens) → Rising (front ++ (run ++ back)) → Filled front → (at : ℕ) → StartsIn run at → 1 ≤ at
behind_first front run back r filled at s =
    let wide = to_last front (rising_front front (run ++ back) r) (first_from front) (starts_first front filled) in
    let less = last_before front (run ++ back) r filled at (starts_in_front run back at s) in
    omega (arith, wide, less)

module _ (laws : Laws) (p : Program Span) (is : IsWhole p) (file : ℕ) (b : Body) (h : HasBody p file b) {f : tree.Exp Span} (d : ListWay f b.list) where
  abbrev el : Element f
  el = nearest begins b.at d

  -- the list behind the element, among its file's tokens
  record Behind : Type 0 where
    all : Tokens
    rises : Rising all
    among : Among (Stands (stmts_layout el.rest)) all
    filled : Filled among.front

  behind : Behind
  behind =
      let w = h.member in
      let own = (laws.written begins (units_of p) p.rows is.are_rows is.rows).each w (contains_at (written_members begins p.rows (units_of p)) h.number w h.written) in
      let g = file_of_unit p w.file own.unit own.stands in
      let there : slice_get p.files file ≡ Some g.0 = ap (slice_get p.files) (sym h.in_file) ∙ g.1 in
      let r = is.reads file g.0 there in
      let text : HasText p file g.0.text = (g.0, there, refl) in
      let held : ElementWithin el (placed_of g.0.text r.items) = element_stands p is laws.written file g.0.text r.items text r.lexes b h d in
      let parts = held.among.stands in
      record {
        all = placed_of g.0.text r.items;
        rises = tokens_rise g.0.text laws.items r.items r.lexes;
        among = record {
          front = held.among.front ++ parts.front;
          part = parts.rest.front;
          back = parts.rest.back ++ held.among.back;
          whole = held.among.whole ∙ ap (λ y. held.among.front ++ (y ++ held.among.back)) (parts.whole ∙ ap (λ y. parts.front ++ y) parts.rest.whole) ∙ grouped held.among.front parts.front parts.rest.front parts.rest.back held.among.back;
          stands = parts.rest.first;
        };
        filled = some_front held.among.front parts.front held.front;
      }
    where
      grouped : (a b c d e : Tokens) → a ++ ((b ++ (c ++ d)) ++ e) ≡ (a ++ b) ++ (c ++ (d ++ e))
      grouped a b c d e = simp append_assoc

  -- the tokens of the list
  abbrev run : Tokens
  run = behind.among.part

  run_rises : Rising run
  run_rises = piece_rises behind.all run behind.rises (record { front = behind.among.front; back = behind.among.back; whole = behind.among.whole })

  abbrev whole : Span
  whole = record { from = 0; to = end_from 1 run }

  nested : ListNested itself whole 1 el.rest
  nested = laws.nested itself whole 1 el.rest run (subst (λ l. Stands l run) (sym (spans_from-span 0 (stmts_layout el.rest))) behind.among.stands) (let one : 0 < 1 = omega arith in one)
      (rises_from run 1 run_rises (behind_first behind.among.front run behind.among.back (subst Rising behind.among.whole behind.rises) behind.filled)) (let ends : end_from 1 run ≤ end_from 1 run = omega arith in ends)

  pub by_span : {g k : tree.Exp Span} (x : ListWay g el.rest) (y : ListWay k el.rest) → exp_mark g ≡ exp_mark k → there_in x ≡ there_in y
  by_span {g} {k} x y same = laws.ways itself whole 1 el.rest nested g k x y (list_ends 0 x ∙ same ∙ sym (list_ends 0 y))

  name_there : {g : tree.Exp Span} (x : ListWay g el.rest) (m : Span) (w : tree.Word Span) → g ≡ tree.name m w → EndsIn run (exp_mark g).from (exp_mark g).to
  name_there {g} x m w e =
      let a : Among (Stands (exp_layout g)) run = list_among g el.rest x run behind.among.stands in
      subst (λ (k : tree.Exp Span). EndsIn run (exp_mark k).from (exp_mark k).to) (sym e) (name_ends m w run (subst (λ (k : tree.Exp Span). Among (Stands (exp_layout k)) run) e a))

  pub by_byte : {g k : tree.Exp Span} (x : ListWay g el.rest) (y : ListWay k el.rest) (m n : Span) (v w : tree.Word Span) → g ≡ tree.name m v → k ≡ tree.name n w → (exp_mark g).from ≡ (exp_mark k).from → there_in x ≡ there_in y
  by_byte {g} {k} x y m n v w e i same =
      let other : EndsIn run (exp_mark g).from (exp_mark k).to = subst (λ (z : ℕ). EndsIn run z (exp_mark k).to) (sym same) (name_there y n w i) in
      let to : (exp_mark g).to ≡ (exp_mark k).to = ends_once run run_rises (exp_mark g).from (exp_mark g).to (exp_mark k).to (name_there x m v e) other in
      by_span x y (λ j. record { from = same j; to = to j })
