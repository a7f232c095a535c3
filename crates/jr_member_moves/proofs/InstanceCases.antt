-- Small programs of which a method's body goes to a static method of another class: which words the
-- new method has, how `this` is named in it, and which text comes of both.
use Rattle.std.proofs.Common.{◌≡◌, ℕ, false, List, [], ◌∷◌, ◌++◌, Some, None, codes, refl}
use Rattle.jr_text.specs.declared.spans.Span.{Span}
use Rattle.jr_text.specs.Splices.{splice}
use Rattle.jr_ast.specs.declared.operators.ModWord.TheVariants.{Private, Protected, Static, Final, Synchronized}
use Rattle.jr_ast.specs.Tree as tree
use Rattle.jr_ast.specs.StatementTree as statement
use Rattle.jr_ast.specs.MemberTree as syntax
use Rattle.jr_table.specs.Keys.{ClassKey, FieldKey, MethodKey, int, class}
use Rattle.jr_bind.specs.Programs.{Program}
use Rattle.jr_rewrite.specs.Respellings.{stays, becomes, by_class, by_cast, Change}
use Rattle.jr_rewrite.specs.Rewritten.{change}
use Rattle.jr_rewrite.specs.Woven.{with_changes}
use Rattle.jr_rewrite.specs.Edited.{entries_of}
use Rattle.jr_member_moves.specs.Texts.{at_byte}
use Rattle.jr_images.specs.Regions.{Region}
use Rattle.jr_member_parts.specs.Receivers.{put_in_front, on_cast}
use Rattle.jr_member_moves.specs.Delegates.{made_call, body_of_call}
use Rattle.jr_member_moves.specs.InstanceMoves.{static_key, static_words}
use Rattle.jr_member_parts.specs.Heads.{marked_words, MethodTree, head_text}

abbrev span : ℕ → ℕ → Span
span from to = record { from = from; to = to }

abbrev word : Span → List ℕ → tree.Word Span
word m name = record { mark = m; text = name }

abbrev top : List ℕ → ClassKey
top name = record { outer = None; name = name }

-- ---- keys and words

abbrev old : MethodKey
old = record { class = top (codes "C"); name = codes "m"; params = int ∷ [] }

abbrev new : MethodKey
new = static_key old (top (codes "D"))

old_class_comes_first : new ≡ record { class = top (codes "D"); name = codes "m"; params = class (top (codes "C")) ∷ int ∷ [] }
old_class_comes_first = refl

access_stays : static_words (Protected ∷ Final ∷ Synchronized ∷ []) ≡ Protected ∷ Static ∷ []
access_stays = refl

private_goes : static_words (Private ∷ []) ≡ Static ∷ []
private_goes = refl

-- ---- class C{int f;synchronized int m(int a){return f+a;}}class D{}

abbrev text : List ℕ
text = codes "class C{int f;synchronized int m(int a){return f+a;}}class D{}"

abbrev method : Span
method = span 14 52

abbrev param : Span → tree.TypeName Span → List ℕ → syntax.Param Span
param m t name = record { mark = m; is_final = false; type = t; name = word m name }

abbrev a : syntax.Param Span
a = param (span 33 38) (tree.int (span 33 36)) (codes "a")

-- the call stands in the old method, whose head and monitor stay
call_is_written : (body_of_call method (Some (tree.int method)) (made_call stays stays method (codes "D") (codes "m") (a ∷ []))).text
    ≡ codes "{ return D.m(this, a); }"
call_is_written = refl

void_call_is_written : (body_of_call method None (made_call stays stays method (codes "D") (codes "m") [])).text
    ≡ codes "{ D.m(this); }"
void_call_is_written = refl

-- a member class, in front of whose name the class around it has to stand, by its own choice or by
-- that of the method, counts once
outer_class_counts : (made_call (becomes (record { text = codes "D"; front = by_class (codes "O") })) stays method (codes "D") (codes "m") []).respelled ≡ 1
outer_class_counts = refl

method_brings_the_class : (made_call (becomes (record { text = codes "D"; front = by_class (codes "O") }))
    (becomes (record { text = codes "m"; front = by_class (codes "E") })) method (codes "D") (codes "m") []).respelled ≡ 1
method_brings_the_class = refl

abbrev new_method : MethodTree
new_method = record {
  mark = method;
  modifiers = marked_words method (static_words (Synchronized ∷ []));
  result = Some (tree.int method);
  word = word method (codes "m");
  params = param method (tree.named method None (word method (codes "C"))) (codes "self") ∷ a ∷ [];
  body = statement.end;
}

head_is_written : head_text new_method ≡ codes "static int m(C self, int a)"
head_is_written = refl

-- ---- how `this` is named

module _ (p : Program Span) (R : Region Span) where
  -- a field of the old class, on the parameter; so asked, it isn't counted
  field_on_parameter : put_in_front p R (codes "self") (top (codes "C")) (λ e. tree.field (span 47 48) e (word (span 47 48) (codes "f"))) (span 47 48) stays (span 47 48)
      ≡ record {
        tree = tree.field (span 47 48) (tree.name (span 47 48) (word (span 47 48) (codes "self"))) (word (span 47 48) (codes "f"));
        changes = change (at_byte 47) (codes "self.") ∷ [];
        respelled = 0;
        losses = [];
      }
  field_on_parameter = refl

  -- behind a cast it is
  field_on_cast : (put_in_front p R (codes "self") (top (codes "C")) (λ e. tree.field (span 4 5) e (word (span 4 5) (codes "f"))) (span 4 5) (becomes (record { text = codes "f"; front = by_cast (codes "B") })) (span 4 5)).respelled ≡ 1
  field_on_cast = refl

  abbrev hidden : FieldKey
  hidden = record { class = top (codes "B"); name = codes "f" }

  -- super.f+f
  abbrev sum_changes : List Change
  sum_changes = (on_cast p R (codes "self") (top (codes "C")) (span 0 7) hidden (word (span 6 7) (codes "f"))).changes
      ++ (put_in_front p R (codes "self") (top (codes "C")) (λ e. tree.field (span 8 9) e (word (span 8 9) (codes "f"))) (span 8 9) stays (span 8 9)).changes

  super_is_a_cast : splice (codes "super.f+f") (entries_of sum_changes) ≡ codes "((B) self).f+self.f"
  super_is_a_cast = refl

-- ---- the texts

abbrev body_text : List ℕ
body_text = with_changes text (span 39 52) (change (at_byte 47) (codes "self.") ∷ [])

body_goes : body_text ≡ codes "{return self.f+a;}"
body_goes = refl

method_delegates : splice text (entries_of (change (span 39 52) (codes "{ return D.m(this, a); }")
    ∷ change (at_byte 61) (codes " " ++ ((head_text new_method ++ (codes " " ++ body_text)) ++ codes " ")) ∷ []))
    ≡ codes "class C{int f;synchronized int m(int a){ return D.m(this, a); }}class D{ static int m(C self, int a) {return self.f+a;} }"
method_delegates = refl
