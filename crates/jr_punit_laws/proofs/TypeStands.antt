-- What the machine for types builds over tokens with places has its spans.
use Rattle.std.proofs.Common.{◌≡◌, ℕ, Bool, true, false, List, [], ◌∷◌, ◌++◌, Option, Some, None, refl, sym, ap, subst, ◌∙◌, append_assoc}
use Rattle.std.specs.Prelude.{IfSome}
use Rattle.jr_text.specs.declared.spans.Span.{Span}
use Rattle.jr_lex.specs.declared.items.Keyword.TheVariants.{Int, Boolean}
use Rattle.jr_lex.specs.declared.items.Symbol.TheVariants.{Dot}
use Rattle.jr_ast.specs.Tree.{Word, TypeName, int, boolean, named as named_type}
use Rattle.jr_ast.specs.Marks.{type_mark}
use Rattle.jr_grammar.specs.Tokens.{word, keyword, symbol, Placed}
use Rattle.jr_grammar.specs.Layout.{Layout, token, done as nothing, ◌then◌}
use Rattle.jr_grammar.specs.Stands.{Tokens, first_from, InOrder, Stands}
use Rattle.jr_grammar.specs.ExpressionLayout.{word_layout, type_layout}
use Rattle.jr_pexpr.specs.Machine as E
use Rattle.jr_pexpr.specs.Marked.{join}
use Rattle.jr_pexpr.proofs.Found.{at_some}
use Rattle.jr_pstmt.specs.Cues.{Primitive, an_int, a_boolean, Cue, a_word, a_primitive, a_dot, cue_token}
use Rattle.jr_pstmt.specs.TypeMachine as T
use Rattle.jr_punit_laws.proofs.Standing.{IsMore, more_append, more_after, first_from-append, last_to-append, behind, grow, stand_token, stand_last, last_stands, stand_word, Whole, Open, open_end, one_whole, whole_open}

-- a type, as far as it has been read
abbrev pub StoodType : T.State Span → Tokens → Type 0
StoodType (T.want b) ps = ps ≡ []
StoodType (T.have t) ps = Whole (type_layout t) (type_mark t) ps
StoodType (T.dotted o) ps = InOrder (Whole (word_layout o) o.mark) (Stands (token (symbol Dot))) ps

-- something in front that begins at m, which may be nothing, and a type behind it
pub record StoodTyped (m : Span) (x : Layout Span) (s : T.State Span) (ps : Tokens) : Type 0 where
  pub parts : InOrder (Stands x) (StoodType s) ps
  pub more : IsMore ps
  pub from : m.from ≡ first_from ps

pub primitive_type : (p : Primitive) (i : Placed Span) → i.token ≡ cue_token (a_primitive p) → StoodType (T.have (T.primitive_type i.mark p)) (i ∷ [])
primitive_type an_int i t = one_whole (keyword Int) i t
primitive_type a_boolean i t = one_whole (keyword Boolean) i t

-- ---- types, one token more

abbrev pub TypeAfter : Tokens → Placed Span → Option (T.State Span) → Type 0
TypeAfter ps i o = IfSome o (λ (n : T.State Span). StoodType n (ps ++ (i ∷ [])))

word_whole : (w : List ℕ) (i : Placed Span) → i.token ≡ word w → Whole (word_layout (E.marked i.mark w)) i.mark (i ∷ [])
word_whole w i t = record { stands = stand_word (E.marked i.mark w) i t refl; more = tt; mark = refl }

pub named_whole : (w : List ℕ) (i : Placed Span) → i.token ≡ word w → StoodType (T.have (named_type i.mark None (E.marked i.mark w))) (i ∷ [])
named_whole w i t =
    record { stands = record { mark = refl; parts = stand_last (word_layout (E.marked i.mark w)) (i ∷ []) (stand_word (E.marked i.mark w) i t refl) }; more = tt; mark = refl }

pub type_begun : (b : Bool) (i : Placed Span) (q : Cue) → i.token ≡ cue_token q → IfSome (T.from_want b i.mark q) (λ (n : T.State Span). StoodType n (i ∷ []))
type_begun b i (a_word w) t = named_whole w i t
type_begun true i (a_primitive p) t = primitive_type p i t
type_begun false i (a_primitive p) t = tt
type_begun b i _ t = tt

-- a word alone, as a type, and a dot behind it
dot_stands : (t : TypeName Span) (i : Placed Span) (ps : Tokens) → i.token ≡ symbol Dot → StoodType (T.have t) ps → TypeAfter ps i (T.dot_behind t)
dot_stands (int m) i ps k h = tt
dot_stands (boolean m) i ps k h = tt
dot_stands (named_type m None w) i ps k h =
    let l = last_stands (word_layout w) ps h.stands.parts in behind ps (i ∷ []) (record { stands = l; more = h.more; mark = l.mark }) (stand_token (symbol Dot) i k)
dot_stands (named_type m (Some o) w) i ps k h = tt

outer_stands : (o : Word Span) (w : List ℕ) (i : Placed Span) (ps : Tokens) → i.token ≡ word w → StoodType (T.dotted o) ps → StoodType (T.have (named_type (join o.mark i.mark) (Some o) (E.marked i.mark w))) (ps ++ (i ∷ []))
outer_stands o w i ps t h =
    let x = named_type (join o.mark i.mark) (Some o) (E.marked i.mark w) in
    subst (λ (y : Tokens). StoodType (T.have x) y) (sym (ap (λ (y : Tokens). y ++ (i ∷ [])) h.whole ∙ append_assoc h.front h.back (i ∷ [])))
    (open_end i.mark (token (symbol Dot) then word_layout (E.marked i.mark w) then nothing) (h.back ++ (i ∷ [])) (whole_open h.first)
    (behind h.back (i ∷ []) h.rest (stand_last (word_layout (E.marked i.mark w)) (i ∷ []) (stand_word (E.marked i.mark w) i t refl))) (more_after h.back (i ∷ []) tt)
    (sym (last_to-append h.back (i ∷ []) tt)))

pub type_step_stands : (s : T.State Span) (i : Placed Span) (q : Cue) (ps : Tokens) → i.token ≡ cue_token q → StoodType s ps → TypeAfter ps i (T.cue_step join s i.mark q)
type_step_stands (T.want b) i q ps t h = subst (λ (x : Tokens). IfSome (T.from_want b i.mark q) (λ (n : T.State Span). StoodType n (x ++ (i ∷ [])))) (sym h) (type_begun b i q t)
type_step_stands (T.have ty) i a_dot ps t h = dot_stands ty i ps t h
type_step_stands (T.have ty) i _ ps t h = tt
type_step_stands (T.dotted o) i (a_word w) ps t h = outer_stands o w i ps t h
type_step_stands (T.dotted o) i _ ps t h = tt

-- ---- with something in front

pub typed_more : (m : Span) (x : Layout Span) (s n : T.State Span) (i : Placed Span) (q : Cue) (b : Tokens) → i.token ≡ cue_token q → T.cue_step join s i.mark q ≡ Some n → StoodTyped m x s b → StoodTyped m x n (b ++ (i ∷ []))
typed_more m x s n i q b t e k = record {
  parts = grow (i ∷ []) k.parts (λ c g. at_some (T.cue_step join s i.mark q) n (λ (n : T.State Span). StoodType n (c ++ (i ∷ []))) e (type_step_stands s i q c t g));
  more = more_append b (i ∷ []) k.more;
  from = k.from ∙ sym (first_from-append b (i ∷ []) k.more);
}

-- a word behind the type
pub typed_word : (m : Span) (x : Layout Span) (t : TypeName Span) (w : List ℕ) (i : Placed Span) (b : Tokens) → i.token ≡ word w → StoodTyped m x (T.have t) b → Open m (x then type_layout t then word_layout (E.marked i.mark w) then nothing) (b ++ (i ∷ []))
typed_word m x t w i b u k = record {
  parts = grow (i ∷ []) k.parts (λ c g. behind c (i ∷ []) g.stands (stand_last (word_layout (E.marked i.mark w)) (i ∷ []) (stand_word (E.marked i.mark w) i u refl)));
  more = more_append b (i ∷ []) k.more;
  from = k.from ∙ sym (first_from-append b (i ∷ []) k.more);
}
