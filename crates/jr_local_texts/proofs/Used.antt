-- The spots of extract local and inline local are used, and lists that are spots are apart.
use Rattle.std.proofs.Common.{inl, inr, ℕ, List}
use Rattle.std.specs.Prelude.{Bool, true, false, nat_eq}
use Rattle.jr_text.specs.declared.spans.Span.{Span}
use Rattle.jr_ast.specs.StatementTree as statement
use Rattle.jr_table.specs.Context.{Context}
use Rattle.jr_bind.specs.Programs.{Program}
use Rattle.jr_rewrite.specs.Rewritten.{Rewritten}
use Rattle.jr_rewrite.specs.Spots.{AreApart, SpotsAreApart}
use Rattle.jr_local.specs.Extracted as extracted
use Rattle.jr_local.specs.Inlined as inlined
use Rattle.jr_local_texts.specs.Using.{ExtractsUse, InlinesUse}

module _ (p : Program Span) (file from to : ℕ) (name : List ℕ) (f : extracted.Found p file from to name) where
  extracts_held : (n : ℕ) (c : Context) (base : ℕ) (xs : statement.Stmts Span) (o : Rewritten (statement.Stmts Span)) → extracted.Extracts p file from to name f.selected f.text f.items f.type n c base xs o
      → extracted.IsHeld p file from to name f.selected n c xs
  extracts_held n c base statement.end o w = w
  extracts_held n c base (statement.more s ss) o w = w.0

  pub extract_apart : AreApart (extracted.list_spot p file from to name f.selected f.text f.items f.type)
  extract_apart = record {
    part = λ k c r base e o spot stays. spot;
    list = λ n c base xs o spot stays. stays (extracts_held n c base xs o spot);
    members = λ base of xs o spot stays. spot;
    whole = λ base outer x o spot stays. spot;
  }

  pub extract_spots_apart : (n : ℕ) → SpotsAreApart (extracted.spots_of p file from to name f.selected f.text f.items f.type n)
  extract_spots_apart n = by (nat_eq n file)
    where
      by : (b : Bool) → SpotsAreApart (extracted.spots_if p file from to name f.selected f.text f.items f.type b)
      by true = extract_apart
      by false = tt

module _ (p : Program Span) (file at : ℕ) (f : inlined.Found p file at) where
  inlines_held : (n : ℕ) (c : Context) (base : ℕ) (xs : statement.Stmts Span) (o : Rewritten (statement.Stmts Span))
      → inlined.Inlines p file at f.asked f.type f.text f.items f.copies f.gone n c base xs o → inlined.IsHeld p file at f.asked f.type n c xs
  inlines_held n c base statement.end o w = w
  inlines_held n c base (statement.more s ss) o w = w.0

  pub inline_apart : AreApart (inlined.list_spot p file at f.asked f.type f.text f.items f.copies f.gone)
  inline_apart = record {
    part = λ k c r base e o spot stays. spot;
    list = λ n c base xs o spot stays. stays (inlines_held n c base xs o spot);
    members = λ base of xs o spot stays. spot;
    whole = λ base outer x o spot stays. spot;
  }

  pub inline_spots_apart : (n : ℕ) → SpotsAreApart (inlined.spots_of p file at f.asked f.type f.text f.items f.copies f.gone n)
  inline_spots_apart n = by (nat_eq n file)
    where
      by : (b : Bool) → SpotsAreApart (inlined.spots_if p file at f.asked f.type f.text f.items f.copies b f.gone)
      by true = inline_apart
      by false = tt

pub extracts_use : ExtractsUse
extracts_use p file from to name f = record {
  list = λ n c base xs o held w. elim w [ inl x ↦ absurd (x.0 held) | inr x ↦ x ];
  part = λ k c r base e o is w. elim w [ inl x ↦ absurd (x.0 is) | inr x ↦ x.1 ];
}

pub inlines_use : InlinesUse
inlines_use p file at f = record {
  list = λ n c base xs o held w. elim w [ inl x ↦ absurd (x.0 held) | inr x ↦ x ];
  part = λ k c r base e o n is w. elim w [ inl x ↦ absurd (x.0 n is) | inr x ↦ x ];
}
