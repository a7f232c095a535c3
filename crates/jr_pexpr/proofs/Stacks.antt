-- A vector of frames as a stack.
use Rattle.std.proofs.Common.{◌≡◌, ℕ, zero, suc, ◌+◌, ◌-◌, ◌<◌, ◌≤◌, Bool, true, false, cond, ◌&&◌, List, [], ◌∷◌, ◌++◌, length, take, drop, get_or, Option, Some, None, refl, sym, ap, subst, ◌∙◌, zero-add, add-zero, arith}
use Rattle.std.proofs.lemmas.Bool.{ne_eqb}
use Rattle.std.proofs.lemmas.List.Sums.{sum_by-append}
use Rattle.std.specs.Prelude.{◌==◌, not, MatchOption, option_to_list, slice_get}
use Rattle.std.specs.List.{count_by}
use Rattle.jr_text.specs.declared.spans.Span.{Span}
use Rattle.jr_pexpr.specs.declared.frames.Frame.{Frame}
use Rattle.jr_pexpr.specs.Machine as machine
use Rattle.jr_pexpr.specs.FrameView.{frame_view, onto, frames_view}
use Rattle.jr_pexpr.specs.Stacks.{is_nil, ends_when, all_end, ends}
use Rattle.jr_pexpr.specs.Waiting.{waits}

abbrev Below : Type 0
Below = List (machine.Frame Span)

onto-append : (fs : List Frame) (f : Frame) (below : Below) → onto (fs ++ f ∷ []) below ≡ frame_view f ∷ onto fs below
onto-append [] f below = refl
onto-append (g ∷ fs) f below = onto-append fs f (frame_view g ∷ below)

-- ---- pushing and popping

pub pushed : (fs gs : List Frame) (f : Frame) → gs ≡ fs ++ f ∷ [] → frames_view gs ≡ frame_view f ∷ frames_view fs
pushed fs gs f e = ap frames_view e ∙ onto-append fs f []

nothing : (fs : List Frame) → length fs ≡ 0 → frames_view fs ≡ []
nothing [] h = refl
nothing (f ∷ fs) h = absurd (omega arith)

pub popped : (old new : List Frame) (o : Option Frame) (m k : ℕ) → old ≡ new ++ option_to_list o → m ≡ length old → MatchOption o ((m ≡ 0) × (k ≡ 0)) (λ _. k + 1 ≡ m)
    → k ≡ length new → MatchOption o ((frames_view old ≡ []) × (frames_view new ≡ [])) (λ f. frames_view old ≡ frame_view f ∷ frames_view new)
popped old new None m k e len h len2 = (nothing old (omega (arith, h.0)), nothing new (omega (arith, h.1)))
popped old new (Some f) m k e len h len2 = pushed new old f e

-- ---- the innermost and the outermost

-- the stack of the first n and the one behind them
pub one_more : (fs : List Frame) (n : ℕ) (f : Frame) → slice_get fs n ≡ Some f → frames_view (take (suc n) fs) ≡ frame_view f ∷ frames_view (take n fs)
one_more fs n f h = go fs n [] h
  where
    go : (fs : List Frame) (n : ℕ) (below : Below) → slice_get fs n ≡ Some f → onto (take (suc n) fs) below ≡ frame_view f ∷ onto (take n fs) below
    go [] n below h = absurd cc
    go (g ∷ fs) zero below h = let e : g ≡ f = cc in ap (λ (g : Frame). frame_view g ∷ below) e
    go (g ∷ fs) (suc n) below h = go fs n (frame_view g ∷ below) h

take_all : {A : Type 0} (xs : List A) (n : ℕ) → length xs ≡ n → take n xs ≡ xs
take_all [] zero h = refl
take_all [] (suc n) h = absurd (omega arith)
take_all (x ∷ xs) zero h = absurd (omega arith)
take_all (x ∷ xs) (suc n) h = ap (λ (ys : List _). x ∷ ys) (take_all xs n (omega arith))

pub innermost : (fs : List Frame) (f : Frame) → slice_get fs (length fs - 1) ≡ Some f → frames_view fs ≡ frame_view f ∷ frames_view (take (length fs - 1) fs)
innermost [] f h = absurd cc
innermost (g ∷ fs) f h =
    let n = length (g ∷ fs) - 1 in
    ap frames_view (sym (take_all (g ∷ fs) (suc n) (omega arith))) ∙ one_more (g ∷ fs) n f h

-- what holds of a stack by its outermost alone
module _ {R : Type 0} (p : Below → R) (q : machine.Frame Span → R) (alone : (f : machine.Frame Span) → p (f ∷ []) ≡ q f) (deeper : (f g : machine.Frame Span) (fs : Below) → p (f ∷ g ∷ fs) ≡ p (g ∷ fs)) where
  deep : (fs : List Frame) (g : machine.Frame Span) (below : Below) → p (onto fs (g ∷ below)) ≡ p (g ∷ below)
  deep [] g below = refl
  deep (f ∷ fs) g below = deep fs (frame_view f) (g ∷ below) ∙ deeper (frame_view f) g below

  pub outermost : (fs : List Frame) (f : Frame) → slice_get fs 0 ≡ Some f → p (frames_view fs) ≡ q (frame_view f)
  outermost [] f h = absurd cc
  outermost (g ∷ fs) f h = let e : g ≡ f = cc in deep fs (frame_view g) [] ∙ alone (frame_view g) ∙ ap (λ (g : Frame). q (frame_view g)) e

-- ---- whether all end

abbrev one : Frame → ℕ
one f = cond (waits f) 1 0

and-false : (a : Bool) → (a && false) ≡ false
and-false true = refl
and-false false = refl

and-true : (a : Bool) → (a && true) ≡ a
and-true true = refl
and-true false = refl

-- one more frame
counted_more : (f : Frame) (fs : List Frame) (b : Bool) → ends_when false (frame_view f) ≡ b → (count_by waits (f ∷ fs) == 0) ≡ ((count_by waits fs == 0) && b)
counted_more f fs true e =
    let n : count_by waits (f ∷ fs) ≡ 0 + count_by waits fs = sum_by-append one (f ∷ []) fs ∙ ap (λ (b : Bool). (0 + cond (not b) 1 0) + count_by waits fs) e in
    ap (λ (k : ℕ). k == 0) (n ∙ zero-add (count_by waits fs)) ∙ sym (and-true (count_by waits fs == 0))
counted_more f fs false e =
    let n : count_by waits (f ∷ fs) ≡ 1 + count_by waits fs = sum_by-append one (f ∷ []) fs ∙ ap (λ (b : Bool). (0 + cond (not b) 1 0) + count_by waits fs) e in
    ne_eqb (count_by waits (f ∷ fs)) 0 (λ z. absurd (omega arith)) ∙ sym (and-false (count_by waits fs == 0))

and_swap : (a b c : Bool) → (a && (b && c)) ≡ ((a && b) && c)
and_swap true b c = refl
and_swap false b c = refl

ends_onto : (fs : List Frame) (below : Below) → all_end (onto fs below) ≡ ((count_by waits fs == 0) && all_end below)
ends_onto [] below = refl
ends_onto (f ∷ fs) below =
    ends_onto fs (frame_view f ∷ below)
    ∙ and_swap (count_by waits fs == 0) (ends_when false (frame_view f)) (all_end below)
    ∙ ap (λ (b : Bool). b && all_end below) (sym (counted_more f fs (ends_when false (frame_view f)) refl))

-- all end exactly where none waits
pub ends_counted : (fs : List Frame) → all_end (frames_view fs) ≡ (count_by waits fs == 0)
ends_counted fs = ends_onto fs [] ∙ and-true (count_by waits fs == 0)

-- ---- the innermost and those below it

last_apart : (fs : List Frame) (f : Frame) → slice_get fs (length fs - 1) ≡ Some f → fs ≡ take (length fs - 1) fs ++ f ∷ []
last_apart [] f h = absurd cc
last_apart (g ∷ fs) f h =
    let n : length (g ∷ fs) - 1 ≡ length fs = omega arith in
    subst (λ (k : ℕ). g ∷ fs ≡ take k (g ∷ fs) ++ f ∷ []) (sym n) (apart (g ∷ fs) (length fs) (omega arith) (ap (λ (k : ℕ). slice_get (g ∷ fs) k) (sym n) ∙ h))
  where
    apart : (xs : List Frame) (k : ℕ) → length xs ≡ k + 1 → slice_get xs k ≡ Some f → xs ≡ take k xs ++ f ∷ []
    apart [] k l e = absurd cc
    apart (x ∷ []) zero l e = ap (λ (o : Option Frame). option_to_list o) e
    apart (x ∷ y ∷ xs) zero l e = absurd (omega arith)
    apart (x ∷ xs) (suc k) l e = ap (λ (ys : List Frame). x ∷ ys) (apart xs k (omega arith) e)

counted_last : (fs : List Frame) (f : Frame) (b : Bool) → slice_get fs (length fs - 1) ≡ Some f → ends_when false (frame_view f) ≡ b → count_by waits fs ≡ count_by waits (take (length fs - 1) fs) + (0 + cond (not b) 1 0)
counted_last fs f b h e =
    let gs = take (length fs - 1) fs in
    ap (count_by waits) (last_apart fs f h) ∙ sum_by-append one gs (f ∷ []) ∙ ap (λ (b : Bool). count_by waits gs + (0 + cond (not b) 1 0)) e

ends_by : (target : Bool) (fs : List Frame) (f : Frame) → slice_get fs (length fs - 1) ≡ Some f → ends target (frames_view fs) ≡ (ends_when target (frame_view f) && (count_by waits (take (length fs - 1) fs) == 0))
ends_by target fs f h =
    ap (ends target) (innermost fs f h) ∙ ap (λ (b : Bool). ends_when target (frame_view f) && b) (ends_counted (take (length fs - 1) fs))

-- what ends with no target ends with any
ends_any : (target : Bool) (f : machine.Frame Span) → ends_when false f ≡ true → ends_when target f ≡ true
ends_any target (machine.in_bump m w) h = absurd cc
ends_any target (machine.in_paren m) h = absurd cc
ends_any target (machine.in_args h2 es) h = absurd cc
ends_any target _ h = refl

one_over : (k : ℕ) → (k + 1 == 1) ≡ (k == 0)
one_over zero = refl
one_over (suc k) = ne_eqb (suc k + 1) 1 (λ e. absurd (omega arith)) ∙ sym (ne_eqb (suc k) 0 (λ e. absurd (omega arith)))

pub ends_then : (target : Bool) (fs : List Frame) (f : Frame) (w : ℕ) → slice_get fs (length fs - 1) ≡ Some f → w ≡ count_by waits fs → ends_when false (frame_view f) ≡ true → (w == 0) ≡ ends target (frames_view fs)
ends_then target fs f w h c e =
    let k : w ≡ count_by waits (take (length fs - 1) fs) = c ∙ counted_last fs f true h e ∙ add-zero (count_by waits (take (length fs - 1) fs)) in
    ap (λ (k : ℕ). k == 0) k
    ∙ ap (λ (b : Bool). b && (count_by waits (take (length fs - 1) fs) == 0)) (sym (ends_any target (frame_view f) e))
    ∙ sym (ends_by target fs f h)

pub ends_else : (target : Bool) (fs : List Frame) (f : Frame) (w : ℕ) → slice_get fs (length fs - 1) ≡ Some f → w ≡ count_by waits fs → ends_when false (frame_view f) ≡ false
    → (ends_when target (frame_view f) && (w == 1)) ≡ ends target (frames_view fs)
ends_else target fs f w h c e =
    let k : w ≡ count_by waits (take (length fs - 1) fs) + 1 = c ∙ counted_last fs f false h e in
    ap (λ (b : Bool). ends_when target (frame_view f) && b) (ap (λ (k : ℕ). k == 1) k ∙ one_over (count_by waits (take (length fs - 1) fs)))
    ∙ sym (ends_by target fs f h)

-- ---- whether there are any

not_nil : (fs : List Frame) (f : machine.Frame Span) (below : Below) → is_nil (onto fs (f ∷ below)) ≡ false
not_nil [] f below = refl
not_nil (g ∷ fs) f below = not_nil fs (frame_view g) (f ∷ below)

pub nil_is : (fs : List Frame) (n : ℕ) → n ≡ length fs → (n == 0) ≡ is_nil (frames_view fs)
nil_is [] n h = ap (λ (k : ℕ). k == 0) h
nil_is (g ∷ fs) n h = ne_eqb n 0 (λ e. absurd (omega arith)) ∙ sym (not_nil fs (frame_view g) [])
