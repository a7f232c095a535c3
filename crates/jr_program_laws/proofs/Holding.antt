-- What of a tree holds over its tokens: references that begin where one of these does, and at one place are bound to one declaration.
-- Of what stands one behind the other this holds where it does of each part.
use Rattle.std.proofs.Common.{◌≡◌, ℕ, ◌++◌, sym, ap, subst, ◌∙◌, inl, inr, arith}
use Rattle.std.specs.Prelude.{◌⊎◌}
use Rattle.jr_text.specs.declared.spans.Span.{Span}
use Rattle.jr_grammar.specs.Tokens.{Token}
use Rattle.jr_grammar.specs.Stands.{Tokens, first_from, IsAlone, InOrder, IsNode}
use Rattle.jr_table.specs.Decls.{Decl}
use Rattle.jr_program_laws.proofs.TokenOrder.{StartsIn, Rising, in_front, in_back, rising_front, rising_back, before, Filled, starts_first, filled_front, Piece, front_piece, back_piece}

-- ---- over some tokens

pub record Holds (R : ℕ → Decl → Type 0) (ps : Tokens) : Type 0 where
  pub within : (at : ℕ) (d : Decl) → R at d → StartsIn ps at
  pub one : (at : ℕ) (d e : Decl) → R at d → R at e → d ≡ e

module _ (R S : ℕ → Decl → Type 0) (a b ps : Tokens) (w : ps ≡ a ++ b) (rising : Rising ps) where
  parts_rise : Rising (a ++ b)
  parts_rise = subst Rising w rising

  in_parts : (f : Holds R a) (s : Holds S b) (at : ℕ) (d : Decl) → R at d ⊎ S at d → StartsIn ps at
  in_parts f s at d (inl r) = subst (λ (x : Tokens). StartsIn x at) (sym w) (in_front a b at (f.within at d r))
  in_parts f s at d (inr r) = subst (λ (x : Tokens). StartsIn x at) (sym w) (in_back a b at (s.within at d r))

  not_both : (f : Holds R a) (s : Holds S b) (at : ℕ) (d e : Decl) → R at d → S at e → ⊥
  not_both f s at d e r t = let less = before a b parts_rise at at (f.within at d r) (s.within at e t) in omega arith

  one_part : (f : Holds R a) (s : Holds S b) (at : ℕ) (d e : Decl) → R at d ⊎ S at d → R at e ⊎ S at e → d ≡ e
  one_part f s at d e (inl r) (inl t) = f.one at d e r t
  one_part f s at d e (inl r) (inr t) = absurd (not_both f s at d e r t)
  one_part f s at d e (inr r) (inl t) = absurd (not_both f s at e d t r)
  one_part f s at d e (inr r) (inr t) = s.one at d e r t

  pub both_hold : Holds R a → Holds S b → Holds (λ at d. R at d ⊎ S at d) ps
  both_hold f s = record { within = in_parts f s; one = one_part f s }

module _ (R : ℕ → Decl → Type 0) (a b ps : Tokens) (w : ps ≡ a ++ b) where
  pub front_holds : Holds R a → Holds R ps
  front_holds h = record { within = λ at d r. subst (λ (x : Tokens). StartsIn x at) (sym w) (in_front a b at (h.within at d r)); one = h.one }

  pub back_holds : Holds R b → Holds R ps
  back_holds h = record { within = λ at d r. subst (λ (x : Tokens). StartsIn x at) (sym w) (in_back a b at (h.within at d r)); one = h.one }

-- ---- over whatever tokens stand so

pub record Over (all : Tokens) (P : Tokens → Type 0) (R : ℕ → Decl → Type 0) : Type 0 where
  pub over : (ps : Tokens) → Rising ps → Piece all ps → P ps → Holds R ps

module _ {all : Tokens} where
  pub join : {P Q : Tokens → Type 0} {R S : ℕ → Decl → Type 0} → Over all P R → Over all Q S → Over all (InOrder P Q) (λ at d. R at d ⊎ S at d)
  join {P} {Q} {R} {S} f s = record {
    over = λ ps rising piece h.
        let two = subst Rising h.whole rising in
        both_hold R S h.front h.back ps h.whole rising (f.over h.front (rising_front h.front h.back two) (front_piece all h.front h.back ps h.whole piece) h.first)
        (s.over h.back (rising_back h.front h.back two) (back_piece all h.front h.back ps h.whole piece) h.rest);
  }

  -- nothing in the first part
  pub pass : {P Q : Tokens → Type 0} {R : ℕ → Decl → Type 0} → Over all Q R → Over all (InOrder P Q) R
  pass {P} {Q} {R} s = record {
    over = λ ps rising piece h.
        back_holds R h.front h.back ps h.whole (s.over h.back (rising_back h.front h.back (subst Rising h.whole rising)) (back_piece all h.front h.back ps h.whole piece) h.rest);
  }

  -- nothing behind it
  pub only : {P Q : Tokens → Type 0} {R : ℕ → Decl → Type 0} → Over all P R → Over all (InOrder P Q) R
  only {P} {Q} {R} f = record {
    over = λ ps rising piece h.
        front_holds R h.front h.back ps h.whole (f.over h.front (rising_front h.front h.back (subst Rising h.whole rising)) (front_piece all h.front h.back ps h.whole piece) h.first);
  }

  pub node : {m : Span} {P : Tokens → Type 0} {R : ℕ → Decl → Type 0} → Over all P R → Over all (IsNode m P) R
  node f = record { over = λ ps rising piece h. f.over ps rising piece h.parts }

  -- the same in other words
  pub turn : {P : Tokens → Type 0} {R S : ℕ → Decl → Type 0} → Over all P R → ((at : ℕ) (d : Decl) → S at d → R at d) → Over all P S
  turn f to = record {
    over = λ ps rising piece h.
        let holds = f.over ps rising piece h in
        record { within = λ at d s. holds.within at d (to at d s); one = λ at d e s t. holds.one at d e (to at d s) (to at e t) };
  }

  pub empty : {P : Tokens → Type 0} {R : ℕ → Decl → Type 0} → ((at : ℕ) (d : Decl) → R at d → ⊥) → Over all P R
  empty none = record { over = λ ps rising piece h. record { within = λ at d r. absurd (none at d r); one = λ at d e r s. absurd (none at d r) } }

  -- what begins where a node does whose first part is a token
  pub leading : {m : Span} {t : Token} {Q : Tokens → Type 0} {R : ℕ → Decl → Type 0} → ((at : ℕ) (d : Decl) → R at d → at ≡ m.from) → ((at : ℕ) (d e : Decl) → R at d → R at e → d ≡ e)
      → Over all (IsNode m (InOrder (IsAlone t) Q)) R
  leading {m} {t} {Q} {R} there one = record {
    over = λ ps rising piece h. record {
      within = λ at d r. subst (StartsIn ps) (sym (there at d r ∙ ap (λ (s : Span). s.from) h.mark)) (starts_first ps (alone_fills t h.parts.front h.parts.back ps h.parts.whole h.parts.first));
      one = one;
    };
  }
    where
      alone_fills : (t : Token) (a b ps : Tokens) → ps ≡ a ++ b → IsAlone t a → Filled ps
      alone_fills t a b ps w alone = subst Filled (sym w) (filled_front a b (subst Filled (sym alone.alone) tt))

  -- what begins where the first token of a node does, and what else is in it
  pub leading_with : {m : Span} {t : Token} {Q : Tokens → Type 0} {R S : ℕ → Decl → Type 0} → ((at : ℕ) (d : Decl) → R at d → at ≡ m.from) → ((at : ℕ) (d e : Decl) → R at d → R at e → d ≡ e)
      → Over all Q S → Over all (IsNode m (InOrder (IsAlone t) Q)) (λ at d. R at d ⊎ S at d)
  leading_with {m} {t} {Q} {R} {S} there one behind = record {
    over = λ ps rising piece h.
        let two = subst Rising h.parts.whole rising in
        both_hold R S h.parts.front h.parts.back ps h.parts.whole rising (first_holds ps h) (behind.over h.parts.back (rising_back h.parts.front h.parts.back two) (back_piece all h.parts.front h.parts.back ps h.parts.whole piece) h.parts.rest);
  }
    where
      begins_there : (ps a b : Tokens) → ps ≡ a ++ b → IsAlone t a → first_from ps ≡ first_from a
      begins_there ps a b w alone = ap first_from w ∙ ap (λ (x : Tokens). first_from (x ++ b)) alone.alone ∙ sym (ap first_from alone.alone)

      first_holds : (ps : Tokens) (h : IsNode m (InOrder (IsAlone t) Q) ps) → Holds R h.parts.front
      first_holds ps h = record {
        within = λ at d r.
            let a = h.parts.front in
            let is : at ≡ first_from a = there at d r ∙ ap (λ (s : Span). s.from) h.mark ∙ begins_there ps a h.parts.back h.parts.whole h.parts.first in
            subst (StartsIn a) (sym is) (starts_first a (subst Filled (sym h.parts.first.alone) tt));
        one = one;
      }
