-- Cases of the definitions of steps, of their refusals and of shown lines. No law stands on them.
use Rattle.std.proofs.Common.{◌≡◌, ◌<◌, ℕ, List, [], ◌∷◌, refl, inl, inr, arith}
use Rattle.std.proofs.Common.{append_assoc, ◌++◌}
use Rattle.std.specs.Prelude.{Some, None, codes, decimal}
use Rattle.jr_text.specs.Spans.{CanCut}
use Rattle.jr_lex.specs.declared.items.ItemKind.TheVariants as item
use Rattle.jr_lex.specs.declared.items.TokenKind.TheVariants as token
use Rattle.jr_lex.specs.declared.items.Keyword.TheVariants as keyword
use Rattle.jr_table.specs.Keys.{ClassKey, int}
use Rattle.jr_table.specs.Decls.{class_decl, field_decl, constructor_decl}
use Rattle.jr_table.specs.declared.rules.Rule.TheVariants as rule
use Rattle.jr_names.specs.declared.steps.Step.TheVariants as step
use Rattle.jr_names.specs.declared.steps.What.TheVariants as what
use Rattle.jr_names.specs.Refusals.{bad_span, too_long, would_not_compile, source_error, report_full}
use Rattle.jr_session.specs.States.{State, begun, changed, IsUndone, IsRedone}
use Rattle.jr_sources.specs.ReadingFaults.{first_token_at}
use Rattle.jr_session.specs.Refusing.{IsFirstRefusal, rank_of}
use Rattle.jr_lines.specs.Lines.{reference, broken, line_text, bytes_of, ComesBefore, AreInOrder}
use Rattle.jr_session.proofs.EditLaws.{first_bad_span}

-- ---- lines

abbrev top : List ℕ → ClassKey
top name = record { outer = None; name = name }

-- a class, a field, a constructor and an error, wherever they stand
line_of_class : (at : ℕ) → line_text (reference at (codes "B") (class_decl (top (codes "B")))) ≡ decimal at ++ codes " B B"
line_of_class at = simp append_assoc

line_of_field : (at : ℕ) → line_text (reference at (codes "x") (field_decl (record { class = top (codes "O"); name = codes "x" }))) ≡ decimal at ++ codes " x O.x"
line_of_field at = simp append_assoc

line_of_new : (at : ℕ) → line_text (reference at (codes "new") (constructor_decl (record { class = record { outer = Some (codes "O"); name = codes "C" }; params = int ∷ [] }))) ≡ decimal at ++ codes " new O.C.new(int)"
line_of_new at = simp append_assoc

line_of_error : (at : ℕ) → line_text (broken at rule.TypeMismatch) ≡ decimal at ++ codes " error TypeMismatch"
line_of_error at = simp append_assoc

bytes_of_two : bytes_of (codes "44 B B" ∷ codes "61 x B.x" ∷ []) ≡ 14
bytes_of_two = refl

-- a reference stands before an error of its place, and errors of one place in the order of the rules
in_order : AreInOrder (reference 3 (codes "x") (class_decl (record { outer = None; name = codes "B" })) ∷ broken 3 rule.NoVariable ∷ broken 3 rule.TypeMismatch ∷ broken 4 rule.NoVariable ∷ [])
in_order = (inr (refl, omega arith), (inr (refl, omega arith), (inl (omega arith), tt)))

not_before : ComesBefore (broken 3 rule.NoVariable) (reference 3 (codes "x") (class_decl (record { outer = None; name = codes "B" }))) → ⊥
not_before (inl h) = absurd (omega (arith, h))
not_before (inr h) = let k = h.1 in absurd (omega (arith, k))

-- ---- the place of the first token

no_token : first_token_at (record { kind = item.Blank; span = record { from = 0; to = 3 } } ∷ record { kind = item.Comment; span = record { from = 3; to = 9 } } ∷ []) ≡ 0
no_token = refl

behind_blank : first_token_at (record { kind = item.Blank; span = record { from = 0; to = 3 } } ∷ record { kind = item.Token (token.Keyword keyword.Package); span = record { from = 3; to = 10 } } ∷ []) ≡ 3
behind_blank = refl

-- ---- states

-- an edit of the second file, undone: both texts are as before, and the edit can be redone
undone_edit : (a b c : List ℕ) → IsUndone (changed (begun (record { name = codes "A"; text = a } ∷ record { name = codes "B"; text = b } ∷ [])) 1 c) (record {
  files = record { name = codes "A"; text = a } ∷ record { name = codes "B"; text = b } ∷ [];
  undo = [];
  redo = (a ∷ c ∷ []) ∷ [];
  shown = 0;
})
undone_edit a b c = record { front = []; texts = a ∷ b ∷ []; had = refl; names = refl; back = refl; undo = refl; redo = refl; shown = refl }

-- and redone
redone_edit : (a b c : List ℕ) → IsRedone (record {
  files = record { name = codes "A"; text = a } ∷ record { name = codes "B"; text = b } ∷ [];
  undo = [];
  redo = (a ∷ c ∷ []) ∷ [];
  shown = 0;
}) (changed (begun (record { name = codes "A"; text = a } ∷ record { name = codes "B"; text = b } ∷ [])) 1 c)
redone_edit a b c = record { front = []; texts = a ∷ c ∷ []; had = refl; names = refl; back = refl; redo = refl; undo = refl; shown = refl }

-- an edit empties the redo list
emptied : (s : State) (text : List ℕ) → (changed s 0 text).redo ≡ []
emptied s text = refl

-- ---- the order of refusals

-- a text that is too long is the last of an edit, and of a refactoring the first behind 16
after_the_span : rank_of (step.Edit (codes "A") 3 2 []) (bad_span 3 2) < rank_of (step.Edit (codes "A") 3 2 []) (too_long 9)
after_the_span = omega arith

before_the_reading : rank_of (step.PullUp (codes "A") 3) (too_long 9) < rank_of (step.PullUp (codes "A") 3) (would_not_compile (record { file = 0; at = 0 }) [])
before_the_reading = omega arith

fault_before_lines : rank_of (step.Show (codes "A") what.Bindings) (source_error [] 0 []) < rank_of (step.Show (codes "A") what.Bindings) (report_full 9)
fault_before_lines = omega arith

-- ---- an edit whose end stands before its start

nothing_cut : (bytes : List ℕ) → CanCut bytes (record { from = 3; to = 2 }) → ⊥
nothing_cut bytes h = let o = h.ordered in absurd (omega arith)

span_3_2 : (text : List ℕ) → IsFirstRefusal (begun (record { name = codes "A"; text = text } ∷ [])) (step.Edit (codes "A") 3 2 []) (bad_span 3 2)
span_3_2 text = first_bad_span (begun (record { name = codes "A"; text = text } ∷ [])) (codes "A") 3 2 [] 0 text (λ i j d p q. absurd (omega arith)) refl (nothing_cut text)
