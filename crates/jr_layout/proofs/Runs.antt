-- Runs of bytes of one kind, and where a text can be cut beside them.
use Rattle.std.proofs.Common.{◌≡◌, ℕ, ◌+◌, ◌-◌, ◌<◌, ◌≤◌, List, length, get_or, sym, subst, inl, inr, arith}
use Rattle.std.proofs.lemmas.Bool.{cases_lt}
use Rattle.std.proofs.lemmas.Str.{IsCharBoundary-after_ascii}
use Rattle.std.specs.Str.{IsUtf8, IsCharBoundary}
use Rattle.jr_layout.specs.Lines.{HasByte, IsSpaceOrTab}
use Rattle.jr_layout.specs.Layouts.{IsBlankByte}

-- a run with one place more behind it, and in front of it
pub run_more : (P : ℕ → Type 0) (from to : ℕ) → ((k : ℕ) → from ≤ k → k < to → P k) → P to → (k : ℕ) → from ≤ k → k < to + 1 → P k
run_more P from to run last k low high =
    elim (cases_lt k to) [
      | inl b ↦ run k low b
      | inr b ↦ let e : to ≡ k = omega arith in subst P e last
    ]

pub run_more_front : (P : ℕ → Type 0) (from to : ℕ) → 0 < from → ((k : ℕ) → from ≤ k → k < to → P k) → P (from - 1) → (k : ℕ) → from - 1 ≤ k → k < to → P k
run_more_front P from to pos run first k low high =
    elim (cases_lt k from) [
      | inl b ↦ let e : from - 1 ≡ k = omega arith in subst P e first
      | inr b ↦ run k b high
    ]

-- the text has an ASCII byte there
abbrev pub HasAscii : List ℕ → ℕ → Type 0
HasAscii bytes k = (k < length bytes) × (get_or bytes k 0 < 128)

pub ascii_at : (bytes : List ℕ) (k byte : ℕ) → byte < 128 → HasByte bytes k byte → HasAscii bytes k
ascii_at bytes k byte low h = (h.0, omega (arith, h.1))

pub space_or_tab_ascii : (bytes : List ℕ) (k : ℕ) → IsSpaceOrTab bytes k → HasAscii bytes k
space_or_tab_ascii bytes k (inl h) = ascii_at bytes k 32 (omega arith) h
space_or_tab_ascii bytes k (inr h) = ascii_at bytes k 9 (omega arith) h

pub blank_ascii : (bytes : List ℕ) (k : ℕ) → IsBlankByte bytes k → HasAscii bytes k
blank_ascii bytes k (inl h) = ascii_at bytes k 32 (omega arith) h
blank_ascii bytes k (inr (inl h)) = ascii_at bytes k 9 (omega arith) h
blank_ascii bytes k (inr (inr (inl h))) = ascii_at bytes k 12 (omega arith) h
blank_ascii bytes k (inr (inr (inr (inl h)))) = ascii_at bytes k 10 (omega arith) h
blank_ascii bytes k (inr (inr (inr (inr h)))) = ascii_at bytes k 13 (omega arith) h

-- a text can be cut behind an ASCII byte
pub cut_behind : (bytes : List ℕ) (k at : ℕ) → IsUtf8 bytes → HasAscii bytes k → at ≡ k + 1 → IsCharBoundary bytes at
cut_behind bytes k at u h e = subst (IsCharBoundary bytes) (sym e) (IsCharBoundary-after_ascii bytes k u h.0 h.1)

-- and behind a run of them
pub cut_behind_run : (bytes : List ℕ) (P : ℕ → Type 0) (from to : ℕ) → ((k : ℕ) → P k → HasAscii bytes k) → IsUtf8 bytes → from ≤ to → IsCharBoundary bytes from → ((k : ℕ) → from ≤ k → k < to → P k) → IsCharBoundary bytes to
cut_behind_run bytes P from to ascii u order here run =
    elim (cases_lt from to) [
      | inl b ↦ cut_behind bytes (to - 1) to u (ascii (to - 1) (run (to - 1) (omega arith) (omega arith))) (omega arith)
      | inr b ↦ let e : from ≡ to = omega arith in subst (IsCharBoundary bytes) e here
    ]
