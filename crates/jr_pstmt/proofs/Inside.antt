-- One machine that reads inside another.
use Rattle.std.proofs.Common.{◌≡◌, List, [], ◌∷◌, ◌++◌, Option, Some, None, refl, sym, ap, ◌∙◌}
use Rattle.std.specs.Prelude.{option_and_then, option_map, unwrap_or}
use Rattle.std.proofs.lemmas.Option.{none-some, same_Some}
use Rattle.jr_grammar.specs.Tokens.{Token}
use Rattle.jr_pexpr.specs.Runs.{run}
use Rattle.jr_pexpr.proofs.Scans.{run-append}
use Rattle.jr_pexpr.proofs.Found.{both_some}
use Rattle.jr_pstmt.specs.Inside.{inner, settled}

-- what holds of each answer of a step, by whether the one inside goes on
pub inner_both : {S N : Type 0} (within : S → N) (taken : Option N) (o : Option S) (P : Option N → Type 0) → ((n : S) → o ≡ Some n → P (Some (within n))) → (o ≡ None → P taken) → P (inner within taken o)
inner_both within taken (Some n) P f g = f n refl
inner_both within taken None P f g = g refl

module _ (S T : Type 0) (step : S → Token → Option S) (whole : S → Option T) where
  -- one token more
  pub run_one : (s m n : S) (ts : List Token) (t : Token) → run S Token T step whole s ts ≡ Some m → step m t ≡ Some n → run S Token T step whole s (ts ++ (t ∷ [])) ≡ Some n
  run_one s m n ts t h k =
      run-append S Token T step whole s ts (t ∷ []) ∙ ap (option_and_then (λ (r : S). run S Token T step whole r (t ∷ []))) h ∙ ap (option_and_then (λ (r : S). Some r)) k

module _ (S T N U : Type 0) (step : S → Token → Option S) (whole : S → Option T) (out : N → Token → Option N) (out_whole : N → Option U) (within : S → N) (taken : S → Token → Option N)
    (steps : (s : S) (t : Token) → out (within s) t ≡ inner within (taken s t) (step s t)) where
  -- the other reads what is read inside
  pub driven : (ts : List Token) (s m : S) (x : List Token) → run S Token T step whole s ts ≡ Some m → run N Token U out out_whole (within s) (ts ++ x) ≡ run N Token U out out_whole (within m) x
  driven [] s m x h = ap (λ (k : S). run N Token U out out_whole (within k) x) (same_Some s m h)
  driven (t ∷ ts) s m x h = ap (option_and_then (λ (n : N). run N Token U out out_whole n (ts ++ x))) (steps s t) ∙ go (step s t) (λ n k. driven ts n m x k) h
    where
      go : (o : Option S) → ((n : S) → run S Token T step whole n ts ≡ Some m → run N Token U out out_whole (within n) (ts ++ x) ≡ run N Token U out out_whole (within m) x)
          → option_and_then (λ (n : S). run S Token T step whole n ts) o ≡ Some m
          → option_and_then (λ (n : N). run N Token U out out_whole n (ts ++ x)) (inner within (taken s t) o) ≡ run N Token U out out_whole (within m) x
      go None f k = absurd cc
      go (Some n) f k = f n k

  -- to the token that it doesn't take
  pub read_in : (ts : List Token) (s m : S) (t : Token) (x : List Token) (n : N) → run S Token T step whole s ts ≡ Some m → step m t ≡ None → taken m t ≡ Some n
      → run N Token U out out_whole (within s) (ts ++ (t ∷ x)) ≡ run N Token U out out_whole n x
  read_in ts s m t x n h k q = driven ts s m (t ∷ x) h ∙ ap (option_and_then (λ (r : N). run N Token U out out_whole r x)) (steps m t ∙ ap (inner within (taken m t)) k ∙ q)

  -- where the first token is not given to the one inside, but what comes is as if it were
  pub read_first : (ts : List Token) (o : N) (s m : S) (e : T) (t : Token) (x : List Token) (n : N) → whole s ≡ None → whole m ≡ Some e → ((u : Token) (k : S) → step s u ≡ Some k → out o u ≡ Some (within k))
      → run S Token T step whole s ts ≡ Some m → step m t ≡ None → taken m t ≡ Some n → run N Token U out out_whole o (ts ++ (t ∷ x)) ≡ run N Token U out out_whole n x
  read_first [] o s m e t x n a b f h k q = absurd (none-some e (sym a ∙ ap whole (same_Some s m h) ∙ b))
  read_first (u ∷ ts) o s m e t x n a b f h k q =
      let r = both_some (λ (r : S). run S Token T step whole r ts) (step s u) m h in
      ap (option_and_then (λ (r : N). run N Token U out out_whole r (ts ++ (t ∷ x)))) (f u r.0 r.1) ∙ read_in ts r.0 m t x n r.2 k q

-- a step that gives nothing where the one inside does not go on
pub map_inner : {S N : Type 0} (f : S → N) (o : Option S) → option_map f o ≡ inner f None o
map_inner f None = refl
map_inner f (Some n) = refl

module _ (S T N U : Type 0) (step : S → Token → Option S) (whole : S → Option T) (out : N → Token → Option N) (out_whole : N → Option U) (within : S → N) (behind : T → N) (taken : S → Token → Option N)
    (steps : (s : S) (t : Token) → out (within s) t ≡ inner (settled within behind whole) (taken s t) (step s t))
    (ended : (n : S) (e : T) (t : Token) → whole n ≡ Some e → step n t ≡ None) where
  -- what is read inside is taken as soon as it is whole
  pub settles : (ts : List Token) (s m : S) (e : T) (x : List Token) → whole s ≡ None → run S Token T step whole s ts ≡ Some m → whole m ≡ Some e → run N Token U out out_whole (within s) (ts ++ x) ≡ run N Token U out out_whole (behind e) x
  settles [] s m e x a h k = absurd (none-some e (sym a ∙ ap whole (same_Some s m h) ∙ k))
  settles (t ∷ ts) s m e x a h k =
      let r = both_some (λ (r : S). run S Token T step whole r ts) (step s t) m h in
      ap (option_and_then (λ (r : N). run N Token U out out_whole r (ts ++ x))) (steps s t ∙ ap (inner (settled within behind whole) (taken s t)) r.1)
      ∙ go ts r.0 (whole r.0) refl r.2 (λ b. settles ts r.0 m e x b r.2 k)
    where
      same : (d : T) → Some d ≡ Some e → d ≡ e
      same d q = same_Some d e q

      stops : (u : Token) (us : List Token) (n : S) (d : T) → whole n ≡ Some d → run S Token T step whole n (u ∷ us) ≡ Some m → ⊥
      stops u us n d b q = none-some m (sym (ap (option_and_then (λ (r : S). run S Token T step whole r us)) (ended n d u b)) ∙ q)

      go : (ts : List Token) (n : S) (o : Option T) → whole n ≡ o → run S Token T step whole n ts ≡ Some m
          → (whole n ≡ None → run N Token U out out_whole (within n) (ts ++ x) ≡ run N Token U out out_whole (behind e) x)
          → run N Token U out out_whole (unwrap_or (option_map behind (whole n)) (within n)) (ts ++ x) ≡ run N Token U out out_whole (behind e) x
      go ts n None b q f = ap (λ (o : Option T). run N Token U out out_whole (unwrap_or (option_map behind o) (within n)) (ts ++ x)) b ∙ f b
      go [] n (Some d) b q f =
          ap (λ (o : Option T). run N Token U out out_whole (unwrap_or (option_map behind o) (within n)) x) b
          ∙ ap (λ (d : T). run N Token U out out_whole (behind d) x) (same d (sym b ∙ ap whole (same_Some n m q) ∙ k))
      go (u ∷ us) n (Some d) b q f = absurd (stops u us n d b q)
