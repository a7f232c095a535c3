-- At the call's statement nothing is rewritten node by node.
use Rattle.std.proofs.Common.{ℕ, Bool, true, false, List}
use Rattle.std.specs.Prelude.{nat_eq}
use Rattle.jr_text.specs.declared.spans.Span.{Span}
use Rattle.jr_bind.specs.Programs.{Program}
use Rattle.jr_rewrite.specs.Spots.{SpotsAreApart}
use Rattle.jr_inline_method.specs.Refusing.{Written}
use Rattle.jr_inline_method.specs.Inlining.{Parts, spots_if}
use Rattle.jr_inline_method.specs.Laws.{InlineMethodIsApart}

spots_apart : (p : Program Span) (file at : ℕ) (x : Written p file at) (y : Parts p file at x) (text body_text gap : List ℕ) (b : Bool) → SpotsAreApart (spots_if p file at x y text body_text gap b)
spots_apart p file at x y text body_text gap false = tt
spots_apart p file at x y text body_text gap true = record {
  part = λ k c r base e o spot stays. spot;
  list = λ n c base b o spot stays. stays spot.0;
  members = λ base of ms o spot stays. spot;
  whole = λ base outer d o spot stays. spot;
}

pub inline_method_is_apart : InlineMethodIsApart
inline_method_is_apart p file at f n = spots_apart p file at f.call f.carried.parts f.carried.text f.carried.body_text f.carried.gap (nat_eq n file)
