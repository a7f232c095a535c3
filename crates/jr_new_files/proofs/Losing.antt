-- The least of what is lost, as far as it was looked at.
use Rattle.std.proofs.Common.{◌≡◌, [], ℕ, zero, suc, false, ◌==◌, ◌+◌, ◌<◌, ◌≤◌, List, Option, Some, None, length, sym, ap, ◌∙◌, inl, inr, arith}
use Rattle.std.specs.Prelude.{slice_get, option_map, nat_lt, IfNone, ◌⊎◌}
use Rattle.std.proofs.lemmas.Bool.{cases_Bool, ltb-true, ltb-false}
use Rattle.std.proofs.lemmas.Option.{slice_get-map, slice_get_within, slice_get_cases}
use Rattle.jr_rewrite.specs.Respellings.{Loss}
use Rattle.jr_new_words.specs.declared.choices.Lost as raw
use Rattle.jr_new_words.specs.ChoiceView.{lost_of}
use Rattle.jr_new_bodies.specs.OutputView.{losses_in}
use Rattle.jr_new_bodies.specs.declared.outputs.Output as raw_output
use Rattle.jr_new_bodies.specs.OutputView.{gathered}
use Rattle.jr_new_bodies.specs.Effects.{Effect}
use Rattle.jr_new_files.specs.FileEffects.{effects_of}
use Rattle.jr_new_files.specs.Lost.{HasLeast, HasLeastThere, LosesNothingThere, HasFirstLost}

pub none_weaker : {X P Q : Type 0} (o : Option X) → (P → Q) → IfNone o P → IfNone o Q
none_weaker None f h = f h
none_weaker (Some x) f h = h

-- of the first n
pub record IsBest (ls : List Loss) (n best : ℕ) : Type 0 where
  pub loss : Loss
  pub stands : slice_get ls best ≡ Some loss
  pub inside : best < n
  pub before : (i : ℕ) (m : Loss) → i < best → slice_get ls i ≡ Some m → loss.at < m.at
  pub behind : (i : ℕ) (m : Loss) → i < n → slice_get ls i ≡ Some m → loss.at ≤ m.at

same_loss : (a b : Loss) → Some a ≡ Some b → a ≡ b
same_loss a b e = cc

-- the one of a number
at_number : (ls : List Loss) (i j : ℕ) (a b : Loss) → slice_get ls i ≡ Some a → slice_get ls j ≡ Some b → i ≡ j → a ≡ b
at_number ls i j a b s t e = same_loss a b (sym s ∙ ap (slice_get ls) e ∙ t)

lt_or_eq : (i n : ℕ) → i < n + 1 → (i < n) ⊎ (i ≡ n)
lt_or_eq i n k =
    elim (cases_Bool (nat_lt i n)) [
      | inl e ↦ inl (ltb-true i n e)
      | inr e ↦ inr (omega (arith, k, ltb-false i n e))
    ]

pub first_best : (ls : List Loss) (l : Loss) → slice_get ls 0 ≡ Some l → IsBest ls 1 0
first_best ls l e = record {
  loss = l;
  stands = e;
  inside = omega arith;
  before = λ i m h s. absurd (omega (arith, h));
  behind = λ i m h s. (let same : l ≡ m = at_number ls 0 i l m e s (omega (arith, h)) in omega (arith, ap (λ (x : Loss). x.at) same));
}

-- what begins before it is the best then
pub becomes_best : (ls : List Loss) (n best : ℕ) (h : IsBest ls n best) (l : Loss) → slice_get ls n ≡ Some l → l.at < h.loss.at → IsBest ls (n + 1) n
becomes_best ls n best h l e less = record {
  loss = l;
  stands = e;
  inside = omega arith;
  before = λ i m k s. omega (arith, less, h.behind i m k s);
  behind = λ i m k s.
      elim (lt_or_eq i n k) [
        | inl inside ↦ omega (arith, less, h.behind i m inside s)
        | inr last ↦ (let same : l ≡ m = at_number ls n i l m e s (sym last) in omega (arith, ap (λ (x : Loss). x.at) same))
      ];
}

-- what doesn't leaves it so
pub stays_best : (ls : List Loss) (n best : ℕ) (h : IsBest ls n best) (l : Loss) → slice_get ls n ≡ Some l → h.loss.at ≤ l.at → IsBest ls (n + 1) best
stays_best ls n best h l e more = record {
  loss = h.loss;
  stands = h.stands;
  inside = omega (arith, h.inside);
  before = h.before;
  behind = λ i m k s.
      elim (lt_or_eq i n k) [
        | inl inside ↦ h.behind i m inside s
        | inr last ↦ (let same : l ≡ m = at_number ls n i l m e s (sym last) in omega (arith, more, ap (λ (x : Loss). x.at) same))
      ];
}

pub all_best : (ls : List Loss) (n best : ℕ) → IsBest ls n best → length ls ≤ n → HasLeast ls best
all_best ls n best h e = (
  h.loss,
  record {
    stands = h.stands;
    before = h.before;
    behind = λ i m s. h.behind i m (omega (arith, e, slice_get_within ls i m s)) s;
  },
)

-- where the loss of a number begins
pub place_is : (ls : List raw.Lost) (number at : ℕ) → option_map (λ (l : raw.Lost). l.at) (slice_get ls number) ≡ Some at → (l : Loss) × (slice_get (losses_in ls) number ≡ Some l) × (l.at ≡ at)
place_is ls number at e = by (slice_get ls number) e (slice_get-map lost_of ls number)
  where
    by : (o : Option raw.Lost) → option_map (λ (l : raw.Lost). l.at) o ≡ Some at → slice_get (losses_in ls) number ≡ option_map lost_of o → (l : Loss) × (slice_get (losses_in ls) number ≡ Some l) × (l.at ≡ at)
    by None h s = absurd cc
    by (Some x) h s = let same : x.at ≡ at = cc in (lost_of x, s, same)

pub first_of : (ls : List raw.Lost) → 0 < length ls → IsBest (losses_in ls) 1 0
first_of ls h =
    elim (slice_get_cases ls 0).1 [
      | inl found ↦ first_best (losses_in ls) (lost_of found.0) (slice_get-map lost_of ls 0 ∙ ap (option_map lost_of) found.2)
      | inr past ↦ absurd (omega (arith, h, past.0))
    ]

module _ (ls : List raw.Lost) (n best a b : ℕ) (h : IsBest (losses_in ls) n best) (one : option_map (λ (l : raw.Lost). l.at) (slice_get ls n) ≡ Some a) (other : option_map (λ (l : raw.Lost). l.at) (slice_get ls best) ≡ Some b) where
  best_at : h.loss.at ≡ b
  best_at = let p = place_is ls best b other in ap (λ (l : Loss). l.at) (same_loss h.loss p.0 (sym h.stands ∙ p.1)) ∙ p.2

  pub step_then : a < b → IsBest (losses_in ls) (n + 1) n
  step_then less = let p = place_is ls n a one in becomes_best (losses_in ls) n best h p.0 p.1 (omega (arith, less, p.2, best_at))

  pub step_else : b ≤ a → IsBest (losses_in ls) (n + 1) best
  step_else more = let p = place_is ls n a one in stays_best (losses_in ls) n best h p.0 p.1 (omega (arith, more, p.2, best_at))

pub positive : (n : ℕ) → (n == 0) ≡ false → 0 < n
positive zero e = absurd cc
positive (suc n) e = omega arith

-- ---- files

effect_of_file : (os : List raw_output.Output) (file : ℕ) (o : raw_output.Output) → slice_get os file ≡ Some o → slice_get (effects_of os) file ≡ Some (gathered o)
effect_of_file os file o s = slice_get-map gathered os file ∙ ap (option_map gathered) s

same_effect : (a b : Effect) → Some a ≡ Some b → a ≡ b
same_effect a b e = cc

pub least_there : (os : List raw_output.Output) (file : ℕ) (o : raw_output.Output) (number : ℕ) → slice_get os file ≡ Some o → HasLeast (losses_in o.losses.items) number → HasLeastThere (effects_of os) file number
least_there os file o number s h = (gathered o, effect_of_file os file o s, h)

pub nothing_there : (os : List raw_output.Output) (file : ℕ) (o : raw_output.Output) → slice_get os file ≡ Some o → o.losses.items ≡ [] → LosesNothingThere (effects_of os) file
nothing_there os file o s none e t = ap (λ (x : Effect). x.losses) (same_effect e (gathered o) (sym t ∙ effect_of_file os file o s)) ∙ ap losses_in none

pub found_first : (es : List Effect) (file number : ℕ) → HasLeastThere es file number → ((i : ℕ) (e : Effect) → i < file → slice_get es i ≡ Some e → e.losses ≡ []) → HasFirstLost es file number
found_first es file number (e, s, (l, least)) before = (l, record { effect = e; stands = s; least = least; before = before })

pub none_so_far : (es : List Effect) (file : ℕ) → ((i : ℕ) (e : Effect) → i < file → slice_get es i ≡ Some e → e.losses ≡ []) → LosesNothingThere es file → (i : ℕ) (e : Effect) → i < file + 1 → slice_get es i ≡ Some e → e.losses ≡ []
none_so_far es file before here i e k s =
    elim (lt_or_eq i file k) [
      | inl inside ↦ before i e inside s
      | inr last ↦ here e (ap (slice_get es) (sym last) ∙ s)
    ]
