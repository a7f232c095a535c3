-- Stacks of what has been begun: what is asked of the innermost, and whether an expression can end
-- there.
use Rattle.std.specs.Prelude.{ℕ, ◌<◌, ◌&&◌, Bool, true, false, List, [], ◌∷◌}
use Rattle.jr_pexpr.specs.Machine.{Frame, in_bump, in_paren, in_args, State, want, binds, is_open}

module _ {A : Type 0} where
  abbrev pub is_nil : List (Frame A) → Bool
  is_nil [] = true
  is_nil (f ∷ fs) = false

  -- nothing is read: an expression is to come, and nothing has been begun
  abbrev pub is_start : State A → Bool
  is_start (want fs) = is_nil fs
  is_start _ = false

  -- how tightly the innermost binds, or 0
  abbrev pub top_binds : List (Frame A) → ℕ
  top_binds [] = 0
  top_binds (f ∷ fs) = binds f

  -- the innermost binds less tightly
  abbrev pub IsEnded : ℕ → List (Frame A) → Type 0
  IsEnded k [] = Unit {0}
  IsEnded k (f ∷ fs) = binds f < k

  abbrev pub is_bracket : Frame A → Bool
  is_bracket (in_paren m) = true
  is_bracket (in_args h es) = true
  is_bracket _ = false

  -- whether the innermost waits for its closing token
  abbrev pub has_bracket : List (Frame A) → Bool
  has_bracket [] = false
  has_bracket (f ∷ fs) = is_bracket f

  -- whether it ends with a target in it, or with what is none
  abbrev pub ends_when : Bool → Frame A → Bool
  ends_when target (in_bump m w) = target
  ends_when target (in_paren m) = false
  ends_when target (in_args h es) = false
  ends_when target _ = true

  abbrev pub all_end : List (Frame A) → Bool
  all_end [] = true
  all_end (f ∷ fs) = ends_when false f && all_end fs

  -- whether an expression can end here, where what stands there is a target or not
  abbrev pub ends : Bool → List (Frame A) → Bool
  ends target [] = true
  ends target (f ∷ fs) = ends_when target f && all_end fs

  -- whether what ends here is a statement expression, where the expression itself is one or isn't
  abbrev pub is_form : Bool → List (Frame A) → Bool
  is_form statement [] = statement
  is_form statement (f ∷ fs) = is_open (f ∷ fs)
