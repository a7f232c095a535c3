-- The errors of a log, as a walk over it, a sort and a second walk find them.
use Rattle.std.proofs.Common.{◌≡◌, ℕ, List, [], ◌∷◌, ◌++◌, ◌<◌, ◌≤◌, length, get_or, map, Option, Some, None, Bool, true, false, cond, refl, sym, ap, subst, ◌∙◌, append_assoc, arith}
use Rattle.std.proofs.lemmas.List.{append-nil, map-append, length-map, get_or-map}
use Rattle.std.specs.List.Sorted.{IsNonDecreasingBy}
use Rattle.jr_table.specs.declared.answers.Answer.TheVariants.{One, Nothing, Many, NotAccessible, FromStatic}
use Rattle.jr_table.specs.declared.rules.Rule.{Rule}
use Rattle.jr_table.specs.declared.rules.Rule.TheVariants as rule
use Rattle.jr_table.specs.Decls.{Decl}
use Rattle.jr_table.specs.Rows.{Row}
use Rattle.jr_table.specs.Found.{Found, one, nothing, many, not_accessible, from_static}
use Rattle.jr_table.specs.Lookup.{decl_at, shown_one, shown_two, shown}
use Rattle.jr_table.specs.Binding.{Sought}
use Rattle.jr_table.specs.Notes.{missing_rule, found_note, breaks}
use Rattle.jr_table.specs.ErrorLists.{error_of, same_error, drop_repeats, order_number}
use Rattle.jr_bind_expr.specs.Arms.{is_nothing}
use Rattle.jr_bind.specs.declared.errors.BindError as raw
use Rattle.jr_bind.specs.ErrorView.{found_rule}
use Rattle.jr_bind.specs.ErrorView.{error_of as shown_error}

-- the rule that an answer breaks, where something is found
module _ (rows : List Row) (q : Sought) where
  pub rule_one : (j : ℕ) → is_nothing (shown rows (One j)) ≡ false → None ≡ found_rule q (shown rows (One j))
  unfolding shown
  rule_one j = by (decl_at rows j)
    where
      by : (o : Option Decl) → is_nothing (shown_one one o) ≡ false → None ≡ found_rule q (shown_one one o)
      by None h = absurd cc
      by (Some d) h = refl

  pub rule_none : Some (missing_rule q) ≡ found_rule q (shown rows Nothing)
  unfolding shown
  rule_none = refl

  pub rule_many : (j k : ℕ) → is_nothing (shown rows (Many j k)) ≡ false → Some rule.Ambiguous ≡ found_rule q (shown rows (Many j k))
  unfolding shown
  rule_many j k = by (decl_at rows j) (decl_at rows k)
    where
      by : (o p : Option Decl) → is_nothing (shown_two o p) ≡ false → Some rule.Ambiguous ≡ found_rule q (shown_two o p)
      by None None h = absurd cc
      by None (Some d) h = absurd cc
      by (Some d) None h = absurd cc
      by (Some d) (Some e) h = refl

  pub rule_private : (j : ℕ) → is_nothing (shown rows (NotAccessible j)) ≡ false → Some rule.Private ≡ found_rule q (shown rows (NotAccessible j))
  unfolding shown
  rule_private j = by (decl_at rows j)
    where
      by : (o : Option Decl) → is_nothing (shown_one not_accessible o) ≡ false → Some rule.Private ≡ found_rule q (shown_one not_accessible o)
      by None h = absurd cc
      by (Some d) h = refl

  pub rule_static : (j : ℕ) → is_nothing (shown rows (FromStatic j)) ≡ false → Some rule.StaticContext ≡ found_rule q (shown rows (FromStatic j))
  unfolding shown
  rule_static j = by (decl_at rows j)
    where
      by : (o : Option Decl) → is_nothing (shown_one from_static o) ≡ false → Some rule.StaticContext ≡ found_rule q (shown_one from_static o)
      by None h = absurd cc
      by (Some d) h = refl

-- where nothing is found
pub rule_missing : (q : Sought) (f : Found) → is_nothing f ≡ true → Some (missing_rule q) ≡ found_rule q f
rule_missing q nothing h = refl
rule_missing q (one d) h = absurd cc
rule_missing q (many d e) h = absurd cc
rule_missing q (not_accessible d) h = absurd cc
rule_missing q (from_static d) h = absurd cc

-- the error of a reference is that of its rule
pub found_none : (start at : ℕ) (q : Sought) (f : Found) → None ≡ found_rule q f → [] ≡ error_of start (found_note at q f)
found_none start at q (one d) h = refl
found_none start at q nothing h = absurd cc
found_none start at q (many d e) h = absurd cc
found_none start at q (not_accessible d) h = absurd cc
found_none start at q (from_static d) h = absurd cc

pub found_some : (start at : ℕ) (q : Sought) (f : Found) (r : Rule) → Some r ≡ found_rule q f → error_of start (breaks at r) ≡ error_of start (found_note at q f)
found_some start at q (one d) r h = absurd cc
found_some start at q nothing r h = ap (λ x. error_of start (breaks at x)) cc
found_some start at q (many d e) r h = ap (λ x. error_of start (breaks at x)) cc
found_some start at q (not_accessible d) r h = ap (λ x. error_of start (breaks at x)) cc
found_some start at q (from_static d) r h = ap (λ x. error_of start (breaks at x)) cc

-- errors that stand in order still do by key
pub sorted_shown : (es : List raw.BindError) → IsNonDecreasingBy (λ e. order_number (shown_error e)) es → IsNonDecreasingBy order_number (map shown_error es)
sorted_shown es h = λ i j d le lt.
    let d' : raw.BindError = record { at = d.at; rule = d.rule } in
    let short : j < length es = omega (arith, lt, length-map es shown_error) in
    let before : i < length es = omega (arith, le, short) in
    subst (λ (n : ℕ). n ≤ order_number (get_or (map shown_error es) j d)) (sym (ap order_number (get_or-map shown_error es i d' d before)))
    (subst (λ (n : ℕ). order_number (shown_error (get_or es i d')) ≤ n) (sym (ap order_number (get_or-map shown_error es j d' d short))) (h i j d' le short))

-- one error more of those that stand in order
module _ (kept : List raw.BindError) (last x : raw.BindError) (xs : List raw.BindError) where
  pub passed : (new : List raw.BindError) (next : raw.BindError)
      → new ≡ kept ++ cond (same_error (shown_error last) (shown_error x)) [] (last ∷ [])
      → next ≡ cond (same_error (shown_error last) (shown_error x)) last x
      → map shown_error new ++ drop_repeats (shown_error next) (map shown_error xs)
      ≡ map shown_error kept ++ drop_repeats (shown_error last) (shown_error x ∷ map shown_error xs)
  passed new next h k = (λ i. map shown_error (h i) ++ drop_repeats (shown_error (k i)) (map shown_error xs)) ∙ by (same_error (shown_error last) (shown_error x))
    where
      by : (b : Bool) → map shown_error (kept ++ cond b [] (last ∷ [])) ++ drop_repeats (shown_error (cond b last x)) (map shown_error xs)
          ≡ map shown_error kept ++ cond b (drop_repeats (shown_error last) (map shown_error xs)) (shown_error last ∷ drop_repeats (shown_error x) (map shown_error xs))
      by true = ap (λ z. map shown_error z ++ drop_repeats (shown_error last) (map shown_error xs)) (append-nil kept)
      by false = ap (λ z. z ++ drop_repeats (shown_error x) (map shown_error xs)) (map-append shown_error kept (last ∷ []))
          ∙ append_assoc (map shown_error kept) (shown_error last ∷ []) (drop_repeats (shown_error x) (map shown_error xs))
