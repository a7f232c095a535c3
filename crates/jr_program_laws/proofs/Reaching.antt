-- Where in a tree something stands: at the beginning of one of its tokens.
use Rattle.std.proofs.Common.{◌≡◌, ℕ, ◌<◌, sym, ap, subst, ◌∙◌, inl, inr}
use Rattle.std.specs.Prelude.{◌⊎◌}
use Rattle.jr_text.specs.declared.spans.Span.{Span}
use Rattle.jr_grammar.specs.Stands.{Tokens, InOrder, IsNode}
use Rattle.jr_program_laws.proofs.TokenOrder.{StartsIn, Rising, in_front, in_back, rising_back, before, starts_first}
use Rattle.jr_program_laws.proofs.Filling.{Fills}

-- where T holds, a token of theirs begins there
pub record Reach (P : Tokens → Type 0) (T : Type 0) (at : ℕ) : Type 0 where
  pub reach : (ps : Tokens) → P ps → T → StartsIn ps at

module _ {at : ℕ} where
  pub in_first : {P Q : Tokens → Type 0} {T : Type 0} → Reach P T at → Reach (InOrder P Q) T at
  in_first f = record { reach = λ ps h t. subst (λ (x : Tokens). StartsIn x at) (sym h.whole) (in_front h.front h.back at (f.reach h.front h.first t)) }

  pub in_rest : {P Q : Tokens → Type 0} {T : Type 0} → Reach Q T at → Reach (InOrder P Q) T at
  in_rest f = record { reach = λ ps h t. subst (λ (x : Tokens). StartsIn x at) (sym h.whole) (in_back h.front h.back at (f.reach h.back h.rest t)) }

  pub in_node : {m : Span} {P : Tokens → Type 0} {T : Type 0} → Reach P T at → Reach (IsNode m P) T at
  in_node f = record { reach = λ ps h t. f.reach ps h.parts t }

  pub either : {P : Tokens → Type 0} {T U : Type 0} → Reach P T at → Reach P U at → Reach P (T ⊎ U) at
  either {P} {T} {U} f g = record { reach = λ ps h t. by ps h t }
    where
      by : (ps : Tokens) → P ps → T ⊎ U → StartsIn ps at
      by ps h (inl t) = f.reach ps h t
      by ps h (inr u) = g.reach ps h u

  pub in_two : {P Q : Tokens → Type 0} {T U : Type 0} → Reach P T at → Reach Q U at → Reach (InOrder P Q) (T ⊎ U) at
  in_two f g = either (in_first f) (in_rest g)

  pub as_said : {P : Tokens → Type 0} {T U : Type 0} → Reach P T at → (U → T) → Reach P U at
  as_said f to = record { reach = λ ps h u. f.reach ps h (to u) }

  pub never : {P : Tokens → Type 0} {T : Type 0} → (T → ⊥) → Reach P T at
  never none = record { reach = λ ps h t. absurd (none t) }

  pub for_some : {P : Tokens → Type 0} {X : Type 0} {T : X → Type 0} → ((x : X) → Reach P (T x) at) → Reach P ((x : X) × T x) at
  for_some f = record { reach = λ ps h t. (f t.0).reach ps h t.1 }

  -- where a node begins
  pub at_node : {m : Span} {P : Tokens → Type 0} → Fills P → Reach (IsNode m P) (at ≡ m.from) at
  at_node {m} {P} fills = record { reach = λ ps h e. subst (StartsIn ps) (sym (e ∙ ap (λ (s : Span). s.from) h.mark)) (starts_first ps (fills.fills ps h.parts)) }

-- ---- what stands in front of what

pub record Ahead (P : Tokens → Type 0) (T U : ℕ → Type 0) : Type 0 where
  pub less : (ps : Tokens) → Rising ps → P ps → (i j : ℕ) → T i → U j → i < j

pub between : {P Q : Tokens → Type 0} {T U : ℕ → Type 0} → ((i : ℕ) → Reach P (T i) i) → ((j : ℕ) → Reach Q (U j) j) → Ahead (InOrder P Q) T U
between f g = record { less = λ ps rising h i j t u. before h.front h.back (subst Rising h.whole rising) i j ((f i).reach h.front h.first t) ((g j).reach h.back h.rest u) }

pub ahead_in_rest : {P Q : Tokens → Type 0} {T U : ℕ → Type 0} → Ahead Q T U → Ahead (InOrder P Q) T U
ahead_in_rest f = record { less = λ ps rising h i j t u. f.less h.back (rising_back h.front h.back (subst Rising h.whole rising)) h.rest i j t u }

pub ahead_in_node : {m : Span} {P : Tokens → Type 0} {T U : ℕ → Type 0} → Ahead P T U → Ahead (IsNode m P) T U
ahead_in_node f = record { less = λ ps rising h i j t u. f.less ps rising h.parts i j t u }

pub ahead_as_said : {P : Tokens → Type 0} {T U V : ℕ → Type 0} → Ahead P T U → ((i : ℕ) → V i → T i) → Ahead P V U
ahead_as_said f to = record { less = λ ps rising h i j t u. f.less ps rising h i j (to i t) u }
