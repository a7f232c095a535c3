-- References: each has one note, which is the rule that is broken by what it finds, or the declaration that it is bound to.
use Rattle.std.proofs.Common.{◌≡◌, ℕ, List, [], ◌∷◌, refl, sym, ap, subst, ◌∙◌, inl, inr}
use Rattle.std.specs.Prelude.{◌⊎◌, ◌↔◌}
use Rattle.jr_ast.specs.Tree as tree
use Rattle.jr_table.specs.Decls.{Decl}
use Rattle.jr_table.specs.Rows.{Row}
use Rattle.jr_table.specs.Found.{Found, one, nothing, many, not_accessible, from_static}
use Rattle.jr_table.specs.Conditions.{AreRows}
use Rattle.jr_table.specs.LookupLaws.{KeysAreFound}
use Rattle.jr_table.specs.Context.{Context}
use Rattle.jr_table.specs.Binding.{Role, Sought, variable, type, method, Refers, BindsItself}
use Rattle.jr_table.specs.ExpressionRules.{IsMany, IsNotAccessible, IsFromStatic, ExpBreaks}
use Rattle.jr_table.specs.Meanings.{Reference, InReferences, references}
use Rattle.jr_table.specs.Notes.{Note, refers, breaks, Has, missing_rule, found_note, reference_notes}
use Rattle.jr_table.proofs.RowTypes.{chain}
use Rattle.jr_table.proofs.Referring.{references_iff}
use Rattle.jr_table.specs.declared.rules.Rule.{Rule}
use Rattle.jr_table.specs.declared.rules.Rule.TheVariants as rule

-- a note of references is that of one of them
pub reference_has : (xs : List Reference) (n : Note) → Has (reference_notes xs) n ↔ ((at : ℕ) × (q : Sought) × (f : Found) × InReferences xs at q f × (found_note at q f ≡ n))
reference_has [] n = (λ h. absurd h, λ h. absurd h.3)
reference_has (x ∷ xs) n = (to (reference_has xs n), back (reference_has xs n))
  where
    to : (Has (reference_notes xs) n ↔ ((at : ℕ) × (q : Sought) × (f : Found) × InReferences xs at q f × (found_note at q f ≡ n)))
        → ((found_note x.at x.sought x.found ≡ n) ⊎ Has (reference_notes xs) n) → (at : ℕ) × (q : Sought) × (f : Found) × InReferences (x ∷ xs) at q f × (found_note at q f ≡ n)
    to again (inl e) = (x.at, x.sought, x.found, inl (refl, refl, refl), e)
    to again (inr h) = let g = again.0 h in (g.0, g.1, g.2, inr g.3, g.4)

    back : (Has (reference_notes xs) n ↔ ((at : ℕ) × (q : Sought) × (f : Found) × InReferences xs at q f × (found_note at q f ≡ n)))
        → ((at : ℕ) × (q : Sought) × (f : Found) × InReferences (x ∷ xs) at q f × (found_note at q f ≡ n)) → (found_note x.at x.sought x.found ≡ n) ⊎ Has (reference_notes xs) n
    back again (at, q, f, inl h, e) = let same : found_note x.at x.sought x.found ≡ found_note at q f = λ i. found_note (sym h.0 i) (sym h.1 i) (h.2 i) in inl (same ∙ e)
    back again (at, q, f, inr h, e) = inr (again.1 (at, q, f, h, e))

-- the rule that is broken by what a reference finds
abbrev pub IsRuleOf : Sought → Found → Rule → Type 0
IsRuleOf q (one d) r = ⊥
IsRuleOf q nothing r = r ≡ missing_rule q
IsRuleOf q (many d e) r = r ≡ rule.Ambiguous
IsRuleOf q (not_accessible d) r = r ≡ rule.Private
IsRuleOf q (from_static d) r = r ≡ rule.StaticContext

same_break : (here at : ℕ) (p r : Rule) → (breaks here p ≡ breaks at r) ↔ ((at ≡ here) × (r ≡ p))
same_break here at p r = (to, λ h. λ i. breaks (sym h.0 i) (sym h.1 i))
  where
    to : breaks here p ≡ breaks at r → (at ≡ here) × (r ≡ p)
    to e = (let i : here ≡ at = cc in sym i, let i : p ≡ r = cc in sym i)

note_breaks : (here : ℕ) (q : Sought) (f : Found) (at : ℕ) (r : Rule) → (found_note here q f ≡ breaks at r) ↔ ((at ≡ here) × IsRuleOf q f r)
note_breaks here q (one d) at r = (λ e. absurd cc, λ h. absurd h.1)
note_breaks here q nothing at r = same_break here at (missing_rule q) r
note_breaks here q (many d e) at r = same_break here at rule.Ambiguous r
note_breaks here q (not_accessible d) at r = same_break here at rule.Private r
note_breaks here q (from_static d) at r = same_break here at rule.StaticContext r

note_binds : (here : ℕ) (q : Sought) (f : Found) (at : ℕ) (d : Decl) → (found_note here q f ≡ refers at d) ↔ ((at ≡ here) × (f ≡ one d))
note_binds here q (one x) at d = (to, back)
  where
    to : refers here x ≡ refers at d → (at ≡ here) × (one x ≡ one d)
    to e = (let i : here ≡ at = cc in sym i, let i : x ≡ d = cc in ap one i)

    back : (at ≡ here) × (one x ≡ one d) → refers here x ≡ refers at d
    back (a, e) = let i : x ≡ d = cc in λ j. refers (sym a j) (i j)
note_binds here q nothing at d = (λ e. absurd cc, λ h. let e = h.1 in absurd cc)
note_binds here q (many x y) at d = (λ e. absurd cc, λ h. let e = h.1 in absurd cc)
note_binds here q (not_accessible x) at d = (λ e. absurd cc, λ h. let e = h.1 in absurd cc)
note_binds here q (from_static x) at d = (λ e. absurd cc, λ h. let e = h.1 in absurd cc)

-- of references that are those of a relation
module _ (xs : List Reference) (Refer : ℕ → Sought → Found → Type 0) (are : (at : ℕ) (q : Sought) (f : Found) → InReferences xs at q f ↔ Refer at q f) where
  pub references_break : (at : ℕ) (r : Rule) → Has (reference_notes xs) (breaks at r) ↔ ((q : Sought) × (f : Found) × Refer at q f × IsRuleOf q f r)
  references_break at r = chain (reference_has xs (breaks at r)) (to, back)
    where
      to : ((here : ℕ) × (q : Sought) × (f : Found) × InReferences xs here q f × (found_note here q f ≡ breaks at r)) → (q : Sought) × (f : Found) × Refer at q f × IsRuleOf q f r
      to (here, q, f, h, e) = let b = (note_breaks here q f at r).0 e in (q, f, (are at q f).0 (subst (λ a. InReferences xs a q f) (sym b.0) h), b.1)

      back : ((q : Sought) × (f : Found) × Refer at q f × IsRuleOf q f r) → (here : ℕ) × (q : Sought) × (f : Found) × InReferences xs here q f × (found_note here q f ≡ breaks at r)
      back (q, f, h, is) = (at, q, f, (are at q f).1 h, (note_breaks at q f at r).1 (refl, is))

  pub references_bind : (at : ℕ) (d : Decl) → Has (reference_notes xs) (refers at d) ↔ ((q : Sought) × Refer at q (one d))
  references_bind at d = chain (reference_has xs (refers at d)) (to, back)
    where
      to : ((here : ℕ) × (q : Sought) × (f : Found) × InReferences xs here q f × (found_note here q f ≡ refers at d)) → (q : Sought) × Refer at q (one d)
      to (here, q, f, h, e) = let b = (note_binds here q f at d).0 e in (q, (are at q (one d)).0 (subst (λ a. InReferences xs a q (one d)) (sym b.0) (subst (λ g. InReferences xs here q g) b.1 h)))

      back : ((q : Sought) × Refer at q (one d)) → (here : ℕ) × (q : Sought) × (f : Found) × InReferences xs here q f × (found_note here q f ≡ refers at d)
      back (q, h) = (at, q, one d, (are at q (one d)).1 h, refl)

many_rule : (q : Sought) (f : Found) → IsMany f → IsRuleOf q f rule.Ambiguous
many_rule q (many d e) h = refl
many_rule q _ h = absurd h

private_rule : (q : Sought) (f : Found) → IsNotAccessible f → IsRuleOf q f rule.Private
private_rule q (not_accessible d) h = refl
private_rule q _ h = absurd h

static_rule : (q : Sought) (f : Found) → IsFromStatic f → IsRuleOf q f rule.StaticContext
static_rule q (from_static d) h = refl
static_rule q _ h = absurd h

missing : (q : Sought) (f : Found) → f ≡ nothing → IsRuleOf q f (missing_rule q)
missing q f is = subst (λ g. IsRuleOf q g (missing_rule q)) (sym is) refl

-- the references of an expression itself
module _ {A : Type 0} (begins : A → ℕ → ℕ) (rows : List Row) (c : Context) (role : Role) (base : ℕ) where
  -- one of them breaks the rule
  abbrev pub FoundRule : tree.Exp A → (at : ℕ) → Rule → Type 0
  FoundRule e at r = (q : Sought) × (f : Found) × Refers begins rows c role base e at q f × IsRuleOf q f r

  pub found_rule : (e : tree.Exp A) (at : ℕ) (r : Rule) → FoundRule e at r → ExpBreaks begins rows c role base e at r
  found_rule e at r (q, one d, h, is) = absurd is
  found_rule e at r (variable, nothing, h, is) = subst (λ p. ExpBreaks begins rows c role base e at p) (sym is) (nothing, h, refl)
  found_rule e at r (type, nothing, h, is) = subst (λ p. ExpBreaks begins rows c role base e at p) (sym is) (nothing, h, refl)
  found_rule e at r (method, nothing, h, is) = subst (λ p. ExpBreaks begins rows c role base e at p) (sym is) (nothing, h, refl)
  found_rule e at r (q, many x y, h, is) = subst (λ p. ExpBreaks begins rows c role base e at p) (sym is) (q, (many x y, h, tt))
  found_rule e at r (q, not_accessible x, h, is) = subst (λ p. ExpBreaks begins rows c role base e at p) (sym is) (q, (not_accessible x, h, tt))
  found_rule e at r (q, from_static x, h, is) = subst (λ p. ExpBreaks begins rows c role base e at p) (sym is) (inl (q, (from_static x, h, tt)))

  abbrev Meeting : tree.Exp A → (at : ℕ) → Sought → (Found → Type 0) → Type 0
  Meeting e at q Is = (f : Found) × Refers begins rows c role base e at q f × Is f

  pub rule_found : (e : tree.Exp A) (at : ℕ) (q : Sought) → Meeting e at q (λ f. f ≡ nothing) → FoundRule e at (missing_rule q)
  rule_found e at q (f, h, is) = (q, f, h, missing q f is)

  pub rule_many : (e : tree.Exp A) (at : ℕ) → ((q : Sought) × Meeting e at q IsMany) → FoundRule e at rule.Ambiguous
  rule_many e at (q, (f, h, is)) = (q, f, h, many_rule q f is)

  pub rule_private : (e : tree.Exp A) (at : ℕ) → ((q : Sought) × Meeting e at q IsNotAccessible) → FoundRule e at rule.Private
  rule_private e at (q, (f, h, is)) = (q, f, h, private_rule q f is)

  pub rule_static : (e : tree.Exp A) (at : ℕ) → ((q : Sought) × Meeting e at q IsFromStatic) → FoundRule e at rule.StaticContext
  rule_static e at (q, (f, h, is)) = (q, f, h, static_rule q f is)

  module _ (fit : AreRows rows) (found : KeysAreFound rows) where
    pub found_break : (e : tree.Exp A) (at : ℕ) (r : Rule) → Has (reference_notes (references begins rows c role base e)) (breaks at r) ↔ FoundRule e at r
    found_break e at r = references_break (references begins rows c role base e) (λ a q f. Refers begins rows c role base e a q f) (λ a q f. references_iff rows fit found c begins role base e a q f) at r

    pub found_bind : (e : tree.Exp A) (at : ℕ) (d : Decl) → Has (reference_notes (references begins rows c role base e)) (refers at d) ↔ BindsItself begins rows c role base e at d
    found_bind e at d = references_bind (references begins rows c role base e) (λ a q f. Refers begins rows c role base e a q f) (λ a q f. references_iff rows fit found c begins role base e a q f) at d
