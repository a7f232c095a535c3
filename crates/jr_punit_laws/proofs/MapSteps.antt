-- What becomes of the steps of a machine where its states are mapped.
use Rattle.std.proofs.Common.{◌≡◌, List, [], ◌∷◌, ◌++◌, Option, Some, None, refl, ap, ◌∙◌}
use Rattle.std.specs.Prelude.{map, option_map, option_and_then, unwrap_or}
use Rattle.jr_pstmt.specs.Cues.{Cue, an_open, a_close, an_open_brace, a_close_brace, a_semicolon, a_comma, an_equals, at_semicolon, at_open, at_close, at_open_brace, at_close_brace, at_comma, at_equals}
use Rattle.jr_pstmt.specs.Inside.{inner, settled}

pub map-one : {A B : Type 0} (f : A → B) (xs : List A) (x : A) → map f (xs ++ (x ∷ [])) ≡ map f xs ++ (f x ∷ [])
map-one f [] x = refl
map-one f (y ∷ xs) x = ap (λ ys. f y ∷ ys) (map-one f xs x)

pub map-inner : {S S' N N' : Type 0} (f : N → N') (g : S → S') (within : S → N) (within' : S' → N') (taken : Option N) (taken' : Option N') (o : Option S) → ((s : S) → f (within s) ≡ within' (g s)) → option_map f taken ≡ taken'
    → option_map f (inner within taken o) ≡ inner within' taken' (option_map g o)
map-inner f g within within' taken taken' None h k = k
map-inner f g within within' taken taken' (Some s) h k = ap (λ n. Some n) (h s)

pub map-and_then : {T T' N N' : Type 0} (f : N → N') (g : T → T') (k : T → Option N) (k' : T' → Option N') (o : Option T) → ((x : T) → option_map f (k x) ≡ k' (g x)) → option_map f (option_and_then k o) ≡ option_and_then k' (option_map g o)
map-and_then f g k k' None h = refl
map-and_then f g k k' (Some x) h = h x

pub map-map : {S S' N N' : Type 0} (f : N → N') (g : S → S') (within : S → N) (within' : S' → N') (o : Option S) → ((s : S) → f (within s) ≡ within' (g s)) → option_map f (option_map within o) ≡ option_map within' (option_map g o)
map-map f g within within' None h = refl
map-map f g within within' (Some s) h = ap (λ n. Some n) (h s)

pub map-settled : {S S' T T' N N' : Type 0} (f : N → N') (g : S → S') (h : T → T') (within : S → N) (within' : S' → N') (behind : T → N) (behind' : T' → N') (whole : S → Option T) (whole' : S' → Option T') (s : S)
    → ((s : S) → f (within s) ≡ within' (g s)) → ((x : T) → f (behind x) ≡ behind' (h x)) → option_map h (whole s) ≡ whole' (g s) → f (settled within behind whole s) ≡ settled within' behind' whole' (g s)
map-settled {T = T} f g h within within' behind behind' whole whole' s a b w = go (whole s) ∙ ap (λ o. unwrap_or (option_map behind' o) (within' (g s))) w
  where
    go : (o : Option T) → f (unwrap_or (option_map behind o) (within s)) ≡ unwrap_or (option_map behind' (option_map h o)) (within' (g s))
    go None = a s
    go (Some x) = b x

pub map-semicolon : {N N' : Type 0} (f : N → N') (q : Cue) (n : N) → option_map f (at_semicolon q n) ≡ at_semicolon q (f n)
map-semicolon f a_semicolon n = refl
map-semicolon f _ n = refl

pub map-open : {N N' : Type 0} (f : N → N') (q : Cue) (n : N) → option_map f (at_open q n) ≡ at_open q (f n)
map-open f an_open n = refl
map-open f _ n = refl

pub map-close : {N N' : Type 0} (f : N → N') (q : Cue) (n : N) → option_map f (at_close q n) ≡ at_close q (f n)
map-close f a_close n = refl
map-close f _ n = refl

pub map-open_brace : {N N' : Type 0} (f : N → N') (q : Cue) (n : N) → option_map f (at_open_brace q n) ≡ at_open_brace q (f n)
map-open_brace f an_open_brace n = refl
map-open_brace f _ n = refl

pub map-close_brace : {N N' : Type 0} (f : N → N') (q : Cue) (n : N) → option_map f (at_close_brace q n) ≡ at_close_brace q (f n)
map-close_brace f a_close_brace n = refl
map-close_brace f _ n = refl

pub map-comma : {N N' : Type 0} (f : N → N') (q : Cue) (n : N) → option_map f (at_comma q n) ≡ at_comma q (f n)
map-comma f a_comma n = refl
map-comma f _ n = refl

pub map-equals : {N N' : Type 0} (f : N → N') (q : Cue) (n : N) → option_map f (at_equals q n) ≡ at_equals q (f n)
map-equals f an_equals n = refl
map-equals f _ n = refl
