-- Small programs in which a static method is moved: which words it loses, which text comes of it, and
-- how the class in front of its calls is asked.
use Rattle.std.proofs.Common.{◌≡◌, ℕ, true, false, List, [], ◌∷◌, ◌++◌, Some, None, codes, refl}
use Rattle.jr_text.specs.declared.spans.Span.{Span}
use Rattle.jr_text.specs.Splices.{splice}
use Rattle.jr_ast.specs.declared.operators.ModWord.TheVariants.{Private, Public, Synchronized}
use Rattle.jr_ast.specs.Tree as tree
use Rattle.jr_grammar.specs.Layout.{itself}
use Rattle.jr_names.specs.DeclTexts.{class_text}
use Rattle.jr_rewrite.specs.Respellings.{stays, becomes, by_class}
use Rattle.jr_rewrite.specs.Rewritten.{plain, change, dotted_call_out}
use Rattle.jr_rewrite.specs.Woven.{with_changes}
use Rattle.jr_rewrite.specs.Edited.{entries_of}
use Rattle.jr_member_moves.specs.Texts.{at_byte, open_monitor}
use Rattle.jr_member_moves.specs.Calls.{asked_front, front_out, last_word}
use Rattle.jr_member_moves.specs.Moves.{upward, aside, drops_if}

abbrev span : ℕ → ℕ → Span
span from to = record { from = from; to = to }

abbrev word : Span → List ℕ → tree.Word Span
word m name = record { mark = m; text = name }

-- ---- words that are dropped

private_goes : drops_if aside false Private ≡ true
private_goes = refl

synchronized_goes : drops_if aside true Synchronized ≡ true
synchronized_goes = refl

public_stays : drops_if aside true Public ≡ false
public_stays = refl

-- pulled up, a private method stays so
private_goes_up : drops_if upward true Private ≡ false
private_goes_up = refl

-- a class by its name behind that of the class around it
member_class_is_named : class_text (record { outer = Some (codes "D"); name = codes "K" }) ≡ codes "D.K"
member_class_is_named = refl

-- ---- class C{static int f;private static synchronized void m(){f=1;}}class D{}

abbrev text : List ℕ
text = codes "class C{static int f;private static synchronized void m(){f=1;}}class D{}"

abbrev of_C : tree.TypeName Span
of_C = tree.named (span 21 63) None (word (span 21 63) (codes "C"))

-- two words go with their blanks, the field is named through its class, and the body stands in the
-- old class's monitor
abbrev moved_text : List ℕ
moved_text = with_changes text (span 21 63) (change (span 21 29) []
    ∷ change (span 36 49) [] ∷ change (at_byte 58) (open_monitor of_C)
    ∷ change (at_byte 58) (codes "C.") ∷ change (at_byte 62) (codes "} ") ∷ [])

body_is_wrapped : moved_text ≡ codes "static void m(){ synchronized (C.class) {C.f=1;} }"
body_is_wrapped = refl

method_goes_over : splice text (entries_of (change (span 21 63) []
    ∷ change (at_byte 72) (codes " " ++ (moved_text ++ codes " ")) ∷ []))
    ≡ codes "class C{static int f;}class D{ static void m(){ synchronized (C.class) {C.f=1;} } }"
method_goes_over = refl

-- ---- O.C.m()

abbrev simple : tree.Exp Span
simple = tree.name (span 0 1) (word (span 0 1) (codes "C"))

abbrev dotted : tree.Exp Span
dotted = tree.field (span 0 3) (tree.name (span 0 1) (word (span 0 1) (codes "O"))) (word (span 2 3) (codes "C"))

-- the old class is told at its own word
old_class_is_told : last_word dotted ≡ Some (word (span 2 3) (codes "C"))
old_class_is_told = refl

-- both words go, and the new class stands there, which counts as asked
new_class_in_front : front_out stays (codes "D") dotted ≡ record {
  tree = tree.name (span 0 3) (word (span 0 3) (codes "D"));
  changes = change (span 0 3) (codes "D") ∷ [];
  respelled = 0;
  losses = [];
}
new_class_in_front = refl

call_is_asked : splice (codes "O.C.m()") (entries_of (dotted_call_out itself stays (span 0 7) 0 dotted
    (front_out stays (codes "D") dotted) (word (span 4 5) (codes "m"))).changes) ≡ codes "D.m()"
call_is_asked = refl

-- behind the class around it, it is respelled
outer_class_in_front : front_out (becomes (record { text = codes "K"; front = by_class (codes "D") })) (codes "K") simple
    ≡ record {
      tree = tree.field (span 0 1) (tree.name (span 0 1) (word (span 0 1) (codes "D"))) (word (span 0 1) (codes "K"));
      changes = change (span 0 1) (codes "D.K") ∷ [];
      respelled = 1;
      losses = [];
    }
outer_class_in_front = refl

-- a word that is there already stays
same_word_stays : asked_front (codes "C") simple ≡ plain simple
same_word_stays = refl
