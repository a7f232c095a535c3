-- The old program of the example is well typed: the premises of the law on types can be met.
use Rattle.std.proofs.Common.{◌≡◌, ◌+◌, ℕ, Bool, true, false, List, [], ◌∷◌, Some, IsTrue, nat_eq, refl, sym, ◌∙◌, subst}
use Rattle.std.proofs.lemmas.Bool.{eq-eqb, eqb-true}
use Rattle.jr_runs.specs.Values.{Ty, int_type}
use Rattle.jr_runs.specs.Core.{Exp, read}
use Rattle.jr_runs.specs.Typing.{HasType, StmtsTyped, SoundRows, WellTyped}
use Rattle.jr_runs.proofs.Example.{J, kind_in_old, rows_with, mine, sum, called, monitored, locked, looped, body, old}

abbrev G : List (ℕ × Ty J)
G = (1, int_type) ∷ (0, int_type) ∷ []

abbrev Int : List (ℕ × Ty J) → Exp J → Type 0
Int D e = HasType (rows_with kind_in_old) D (Some 4) e (Some int_type)

module _ (p : ℕ) (f g : Bool) where
  field_typed : (D : List (ℕ × Ty J)) (at : ℕ) (d : Bool) → Int D (read (Some at) (mine at d))
  field_typed D at d = (int_type, (4, refl, refl), refl)

  sum_typed : Int ((0, int_type) ∷ []) (sum p f)
  sum_typed = ((int_type, refl, refl), field_typed ((0, int_type) ∷ []) (p + 3) f, refl)

  called_typed : Int G (called p)
  called_typed = (4, refl, refl, refl, (int_type, [], refl, (int_type, refl, refl), refl), refl)

  monitored_typed : StmtsTyped (rows_with kind_in_old) G (Some 4) (Some int_type) (monitored p f)
  monitored_typed = (G, ((int_type, refl, called_typed, tt), refl), (G, (((4, refl, refl), tt), refl), tt))

  locked_typed : StmtsTyped (rows_with kind_in_old) G (Some 4) (Some int_type) (locked p f)
  locked_typed = (G, (4, refl, monitored_typed, refl), tt)

  looped_typed : StmtsTyped (rows_with kind_in_old) G (Some 4) (Some int_type) (looped p f g)
  looped_typed = (G, (G, ((int_type, refl, refl), field_typed G (p + 7) g, refl), (tt, locked_typed, refl), refl), (G, (int_type, refl, (int_type, refl, refl), refl), tt))

  body_typed : StmtsTyped (rows_with kind_in_old) ((0, int_type) ∷ []) (Some 4) (Some int_type) (body p f g)
  body_typed = (G, (int_type, sum_typed, refl, refl), looped_typed)

sound_rows : SoundRows (rows_with kind_in_old)
sound_rows = record {
  same = λ c d e. eqb-true c d e;
  itself = λ c. eq-eqb c c refl;
  chain = λ c d e h i. eq-eqb c e (eqb-true c d h ∙ eqb-true d e i);
  dispatch = λ c d m found o s e h. (refl, (4, refl, subst (λ x. IsTrue (nat_eq d x)) (sym (same_some 4 c o)) s), refl, refl);
}
  where
    same_some : (x y : ℕ) → Some x ≡ Some y → x ≡ y
    same_some x y e = cc

old_is_well_typed : WellTyped old
old_is_well_typed = record {
  rows = sound_rows;
  methods = λ m h. record { count = refl; body = body_typed 100 true false; completes = λ U e h. h.1.1.0 };
  constructors = λ k h. absurd (none h);
}
  where
    none : false ≡ true → ⊥
    none e = cc
