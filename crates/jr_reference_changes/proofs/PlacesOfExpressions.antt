-- The places of an expression that is rewritten.
use Rattle.std.proofs.Common.{◌≡◌, ℕ, ◌+◌, List, [], ◌++◌, Some, None, Bool, true, false, if◌then◌else◌, refl, sym, ap, subst, ◌∙◌}
use Rattle.std.specs.Prelude.{◌⊎◌, ◌↔◌}
use Rattle.jr_text.specs.declared.spans.Span.{Span}
use Rattle.jr_ast.specs.declared.operators.BumpOp.TheVariants.{PreInc, PreDec, PostInc, PostDec}
use Rattle.jr_ast.specs.Tree as tree
use Rattle.jr_ast.specs.Marks.{exp_mark}
use Rattle.jr_lex.specs.declared.items.Keyword.TheVariants.{New}
use Rattle.jr_grammar.specs.Layout.{itself}
use Rattle.jr_grammar.specs.Tokens.{keyword}
use Rattle.jr_grammar.specs.Stands.{Tokens, InOrder, Stands}
use Rattle.jr_grammar.specs.ExpressionLayout.{word_layout, type_layout, exp_layout, target_layout, args_layout, more_args_layout}
use Rattle.jr_program_laws.proofs.TokenOrder.{StartsIn, Rising}
use Rattle.jr_table.specs.Context.{Context}
use Rattle.jr_table.specs.Binding.{Role, value, left}
use Rattle.jr_rewrite.specs.Respellings.{Choice, Change, front_of}
use Rattle.jr_rewrite.specs.Rewritten.{Rewritten, plain, within, joined, losses_of, word_out, name_out, field_out, super_field_out, simple_call_out, dotted_call_out, simple_type_out, qualified_type_out, word_changes, qualified_changes, dotted_changes, drops_operand, drops_qualifier, span_in, count_of, Called}
use Rattle.jr_rewrite.specs.Rewrites.{Choosing, TypeOut, RewritesType, with_losses, RewritesExp, RewritesRow, TransformsExp, TransformsTarget, TransformsRow}
use Rattle.jr_reference_changes.specs.Places.{Place, In, of_expression, of_creation, of_qualifier, of_type, IsChosen, KeepsFront, KeepsQualifier, edits_at, count_at, type_edits, qualifier_edits, TypeStays, WrittenStays, ExpStays, RowStays}
use Rattle.jr_reference_changes.proofs.PlacesJoined.{OneEach, dotted_kept, dotted_gone, qualified_kept, qualified_gone}
use Rattle.jr_rewrite.specs.Suitable.{AreSuitable}
use Rattle.jr_reference_changes.proofs.NameTokens.{OnNames, order_named, done_named, word_named, dot_named}
use Rattle.jr_reference_changes.proofs.PlaceNames.{word_lies, super_lies, qualified_lies, dotted_lies, word_bounds_from, word_bounds_to, behind_bounds, ahead_bounds}
use Rattle.jr_reference_changes.proofs.PlacesApart.{place_from, type_from, qualifier_from, HasWord, Placed, plain_placed, moved_placed, within_placed, turn, pass, only, node, join, own_placed, behind_placed, word_starts, back_starts, front_starts, assoc, unassoc, Leads, leads, leads_start}

apart : (b : Bool) → b ≡ true → b ≡ false → ⊥
apart true h k = cc
apart false h k = cc

module _ (C : Choosing Span) (one : OneEach itself C) (suits : AreSuitable C) where
  abbrev Of : {T : Type 0} → (L : Tokens → Type 0) → (Place Span → Type 0) → Rewritten T → Type 0
  Of {T} L P o = Placed C HasWord L P {T = T} o

  -- a place that isn't kept by its own choice
  never_front : (s : Place Span) (h : Choice) → IsChosen itself C s h → drops_operand (front_of h) ≡ true → KeepsFront itself C s → ⊥
  never_front s h chosen d keeps = apart (drops_operand (front_of h)) d (ap (λ (k : Choice). drops_operand (front_of k)) (one s h keeps.0 chosen keeps.1) ∙ keeps.2)

  never_qualifier : (s : Place Span) (h : Choice) → IsChosen itself C s h → drops_qualifier itself (front_of h) ≡ true → KeepsQualifier itself C s → ⊥
  never_qualifier s h chosen d keeps = apart (drops_qualifier itself (front_of h)) d (ap (λ (k : Choice). drops_qualifier itself (front_of k)) (one s h keeps.0 chosen keeps.1) ∙ keeps.2)

  -- ---- written types

  -- by what is chosen for its names
  pub type_places : (own front : Place Span) (base : ℕ) (t : tree.TypeName Span) (o : Rewritten (tree.TypeName Span)) → ((h : Choice) → edits_at itself C own h ≡ type_edits itself C base t h) → ((h : Choice) → edits_at itself C front h ≡ qualifier_edits itself C base t h)
      → ((h : Choice) → count_at itself C own h ≡ count_of h) → ((h : Choice) → count_at itself C front h ≡ count_of h) → HasWord own → HasWord front → place_from own ≡ type_from t → place_from front ≡ qualifier_from t
      → TypeOut itself C (λ h. IsChosen itself C front h) (λ h. IsChosen itself C own h) base t o → Of (Stands (type_layout t)) (TypeStays itself C own front t) o
  type_places own front base (tree.int m) o edits fronts count counts worded known at before_at is = moved_placed C _ o _ is (plain_placed C (tree.int m))
  type_places own front base (tree.boolean m) o edits fronts count counts worded known at before_at is = moved_placed C _ o _ is (plain_placed C (tree.boolean m))
  type_places own front base (tree.named m None w) o edits fronts count counts worded known at before_at (h, chosen, is) =
      moved_placed C _ o (simple_type_out itself h m base w) is
      (node C (only C (own_placed C one own h chosen worded (simple_type_out itself h m base w) (λ ps l. subst (StartsIn ps) (sym at) (word_starts w ps l)) (λ ps rising l y i. word_lies w h ps l y (subst (λ (ys : List Change). In y ys) (edits h) i)) refl (sym (count h)) (sym (edits h)))))
  type_places own front base (tree.named m (Some v) w) o edits fronts count counts worded known at before_at (p, h, before, chosen, is) =
      let inner : Of (Stands (word_layout v)) (λ x. x ≡ front) (word_out itself p ((itself m base).from) v) = own_placed C one front p before known (word_out itself p ((itself m base).from) v) (λ ps l. subst (StartsIn ps) (sym before_at) (word_starts v ps l)) (λ ps rising l y i. word_lies v p ps l y (subst (λ (ys : List Change). In y ys) (fronts p) i)) refl (sym (counts p)) (sym (fronts p)) in
      moved_placed C _ o (qualified_type_out itself p h m base v w) is
      (node C (behind_placed C one own h chosen worded (λ x. x ≡ front) (KeepsQualifier itself C own) (word_out itself p ((itself m base).from) v) (qualified_type_out itself p h m base v w) inner
      (back_starts (place_from own) (front_starts (place_from own) (λ ps l. subst (StartsIn ps) (sym at) (word_starts w ps l)))) (λ ps rising l y i. qualified_lies v w ps l h y (subst (λ (ys : List Change). In y ys) (edits h) i)) (drops_qualifier itself (front_of h))
      (λ d. (h, chosen, d)) (never_qualifier own h chosen) refl (λ i. (if drops_qualifier itself (front_of h) then 0 else count_of p) + sym (count h) i)
      (λ d y. subst (λ (z : List Change). In y (qualified_changes itself h (span_in itself m base v) (span_in itself m base w) (word_changes p (span_in itself m base v))) ↔ (In y (word_changes p (span_in itself m base v)) ⊎ In y z)) (sym (edits h))
      (qualified_kept itself (span_in itself m base v) (span_in itself m base w) (word_changes p (span_in itself m base v)) y h d))
      (λ d. qualified_gone itself (span_in itself m base v) (span_in itself m base w) (word_changes p (span_in itself m base v)) h d ∙ sym (edits h))))

  pub written_places : (c : Context) (base : ℕ) (t : tree.TypeName Span) (o : Rewritten (tree.TypeName Span)) → RewritesType itself C c base t o → Of (Stands (type_layout t)) (WrittenStays itself C c base t) o
  written_places c base t o made = type_places (of_type c base t) (of_qualifier c base t) base t o (λ h. refl) (λ h. refl) (λ h. refl) (λ h. refl) refl refl refl refl made

  -- ---- behind a dot

  pub dotted_places : {L M : Tokens → Type 0} {T U : Type 0} (P : Place Span → Type 0) (s : Place Span) (h : Choice) → IsChosen itself C s h → HasWord s → ((ps : Tokens) → M ps → StartsIn ps (place_from s)) → ((ps : Tokens) → Rising ps → InOrder L M ps → (y : Change) → In y (edits_at itself C s h) → OnNames ps y.span) → (e w : Span) (p : Rewritten T) (o : Rewritten U) → Of L P p
      → ((k : Choice) → edits_at itself C s k ≡ dotted_changes k e w []) → ((k : Choice) → count_at itself C s k ≡ count_of k) → o.losses ≡ (if drops_operand (front_of h) then [] else p.losses) ++ losses_of h
      → o.respelled ≡ (if drops_operand (front_of h) then 0 else p.respelled) + count_of h → o.changes ≡ dotted_changes h e w p.changes → Of (InOrder L M) (λ x. (KeepsFront itself C s × P x) ⊎ (x ≡ s)) o
  dotted_places P s h chosen worded starts lie e w p o inner edits count ls n cs = behind_placed C one s h chosen worded P (KeepsFront itself C s) p o inner starts lie (drops_operand (front_of h)) (λ d. (h, chosen, d)) (never_front s h chosen) ls
      (n ∙ (λ i. (if drops_operand (front_of h) then 0 else p.respelled) + sym (count h) i))
      (λ d y. subst (λ (z : List Change). In y z ↔ (In y p.changes ⊎ In y (edits_at itself C s h))) (sym cs) (subst (λ (z : List Change). In y (dotted_changes h e w p.changes) ↔ (In y p.changes ⊎ In y z)) (sym (edits h)) (dotted_kept e w p.changes y h d)))
      (λ d. cs ∙ dotted_gone e w p.changes h d ∙ sym (edits h))

  -- ---- expressions

  mutual
    unfolding TransformsExp TransformsTarget TransformsRow ExpStays RowStays

    pub exp_places : (c : Context) (r : Role) (b : ℕ) (e : tree.Exp Span) (o : Rewritten (tree.Exp Span)) → RewritesExp itself C c r b e o → Of (Stands (exp_layout e)) (ExpStays itself C c r b e) o
    exp_places c r b (tree.number m n) o is = moved_placed C _ o _ is (plain_placed C (tree.number m n))
    exp_places c r b (tree.truth m t) o is = moved_placed C _ o _ is (plain_placed C (tree.truth m t))
    exp_places c r b (tree.null m) o is = moved_placed C _ o _ is (plain_placed C (tree.null m))
    exp_places c r b (tree.string m t) o is = moved_placed C _ o _ is (plain_placed C (tree.string m t))
    exp_places c r b (tree.this m) o is = moved_placed C _ o _ is (plain_placed C (tree.this m))
    exp_places c r b (tree.name m w) o (h, chosen, is) =
        moved_placed C _ o (name_out itself h m b w) is (node C (only C (own_placed C one (of_expression c r b (tree.name m w)) h chosen refl (name_out itself h m b w) (word_starts w) (λ ps rising l. word_lies w h ps l) refl refl refl)))
    exp_places c r b (tree.super_field m w) o (h, chosen, is) =
        let starts : (ps : Tokens) → Stands (exp_layout (tree.super_field m w)) ps → StartsIn ps w.mark.from = λ ps l. back_starts w.mark.from (back_starts w.mark.from (front_starts w.mark.from (word_starts w))) ps l.parts in
        moved_placed C _ o (super_field_out itself h m b w) is (own_placed C one (of_expression c r b (tree.super_field m w)) h chosen refl (super_field_out itself h m b w) starts (λ ps rising l. super_lies m w ps l h) refl refl refl)
    exp_places c r b (tree.field m e w) o (h, p, chosen, inner, is) =
        moved_placed C _ o (field_out itself h m b e p w) is
        (node C (dotted_places (ExpStays itself C c left m.from e) (of_expression c r b (tree.field m e w)) h chosen refl (back_starts w.mark.from (front_starts w.mark.from (word_starts w)))
        (λ ps rising l. dotted_lies e w l.front l.back ps l.whole rising l.first ((order_named dot_named (order_named (word_named w) done_named)).named l.back l.rest) (behind_bounds w.mark.from (ahead_bounds w.mark.from (word_bounds_from w)) l.back l.rest)
        (behind_bounds w.mark.to (ahead_bounds w.mark.to (word_bounds_to w)) l.back l.rest) h (suits.expression c r b (tree.field m e w) h chosen)) (itself (exp_mark e) m.from) (span_in itself m b w) p (field_out itself h m b e p w)
        (exp_places c left m.from e p inner) (λ k. refl) (λ k. refl) refl refl refl))
    exp_places c r b (tree.class_literal m t) o (p, types, is) =
        moved_placed C _ o (within (λ u. tree.class_literal m u) p) is (node C (only C (within_placed C (WrittenStays itself C c m.from t) (λ u. tree.class_literal m u) p (written_places c m.from t p types))))
    exp_places c r b (tree.call m tree.no_target w args) o (h, p, q, chosen, target, row, is) =
        let s : Place Span = of_expression c r b (tree.call m tree.no_target w args) in
        let first : Of (Stands (word_layout w)) (λ x. x ≡ s) p = moved_placed C (λ x. x ≡ s) p (simple_call_out itself h m b w) target (own_placed C one s h chosen refl (simple_call_out itself h m b w) (word_starts w) (λ ps rising l. word_lies w h ps l) refl refl refl) in
        moved_placed C _ o (joined (λ (t : Called itself) es. tree.call m t.target t.word es) p q) is
        (node C (pass C (join C (λ x. x ≡ s) (RowStays itself C c m.from args) (λ (t : Called itself) es. tree.call m t.target t.word es) p q first (pass C (only C (args_places c m.from args q row))))))
    exp_places c r b (tree.call m (tree.on e) w args) o (h, p, q, chosen, (x, inner, target), row, is) =
        let s : Place Span = of_expression c r b (tree.call m (tree.on e) w args) in
        let P : Place Span → Type 0 = ExpStays itself C c left m.from e in
        let B : Place Span → Type 0 = λ z. (KeepsFront itself C s × P z) ⊎ (z ≡ s) in
        let lie : (ps : Tokens) → Rising ps → InOrder (Stands (target_layout (tree.on e))) (Stands (word_layout w)) ps → (y : Change) → In y (edits_at itself C s h) → OnNames ps y.span =
        λ ps rising l.
        (let k = unassoc ps l in
        dotted_lies e w k.front k.back ps k.whole rising k.first ((order_named (order_named dot_named done_named) (word_named w)).named k.back k.rest) (behind_bounds w.mark.from (word_bounds_from w) k.back k.rest) (behind_bounds w.mark.to (word_bounds_to w) k.back k.rest) h
        (suits.expression c r b (tree.call m (tree.on e) w args) h chosen)) in
        let first : Of (InOrder (Stands (target_layout (tree.on e))) (Stands (word_layout w))) B p = moved_placed C B p (dotted_call_out itself h m b e x w) target
        (dotted_places P s h chosen refl (word_starts w) lie (itself (exp_mark e) m.from) (span_in itself m b w) x (dotted_call_out itself h m b e x w) (only C (exp_places c left m.from e x inner)) (λ k. refl) (λ k. refl) refl refl refl) in
        let whole : Rewritten (tree.Exp Span) = joined (λ (t : Called itself) es. tree.call m t.target t.word es) p q in
        moved_placed C _ o whole is
        (node C (turn C (λ z. B z ⊎ RowStays itself C c m.from args z) whole assoc (join C B (RowStays itself C c m.from args) (λ (t : Called itself) es. tree.call m t.target t.word es) p q first (pass C (only C (args_places c m.from args q row))))))
    exp_places c r b (tree.super_call m w args) o (h, q, chosen, row, is) =
        let s : Place Span = of_expression c r b (tree.super_call m w args) in
        moved_placed C _ o (joined (λ v es. tree.super_call m v es) (word_out itself h m.from w) q) is
        (node C (pass C (pass C (join C (λ x. x ≡ s) (RowStays itself C c m.from args) (λ v es. tree.super_call m v es) (word_out itself h m.from w) q
        (own_placed C one s h chosen refl (word_out itself h m.from w) (word_starts w) (λ ps rising l. word_lies w h ps l) refl refl refl) (pass C (only C (args_places c m.from args q row)))))))
    exp_places c r b (tree.create m t args) o (h, p, q, chosen, types, row, is) =
        let s : Place Span = of_creation c b (tree.create m t args) in
        let lost : Rewritten (Unit {0}) = record { tree = tt; changes = []; respelled = 0; losses = losses_of h } in
        let W : Place Span → Type 0 = WrittenStays itself C c m.from t in
        let R : Place Span → Type 0 = RowStays itself C c m.from args in
        let parts = join C W R (λ u es. tree.create m u es) p q (written_places c m.from t p types) (pass C (only C (args_places c m.from args q row))) in
        let whole : Rewritten (tree.Exp Span) = with_losses itself C h (joined (λ u es. tree.create m u es) p q) in
        let first : Of (Leads m (keyword New)) (λ x. x ≡ s) lost = own_placed C one s h chosen refl lost leads_start (λ ps rising l y i. absurd i) refl refl refl in
        moved_placed C _ o whole is
        (turn C (λ x. (x ≡ s) ⊎ (W x ⊎ R x)) whole leads (join C (λ x. x ≡ s) (λ x. W x ⊎ R x) (λ (x : Unit {0}) t. t) lost (joined (λ u es. tree.create m u es) p q) first parts))
    exp_places c r b (tree.paren m e) o (p, inner, is) = moved_placed C _ o _ is (node C (pass C (only C (within_placed C (ExpStays itself C c value m.from e) (λ x. tree.paren m x) p (exp_places c value m.from e p inner)))))
    exp_places c r b (tree.cast m t e) o (p, q, types, inner, is) = moved_placed C _ o _ is
        (node C (pass C (join C (WrittenStays itself C c m.from t) (ExpStays itself C c value m.from e) (λ u x. tree.cast m u x) p q (written_places c m.from t p types) (pass C (only C (exp_places c value m.from e q inner))))))
    exp_places c r b (tree.unary m op e) o (p, inner, is) = moved_placed C _ o _ is (node C (pass C (only C (within_placed C (ExpStays itself C c value m.from e) (λ x. tree.unary m op x) p (exp_places c value m.from e p inner)))))
    exp_places c r b (tree.bump m PreInc e) o (p, inner, is) = moved_placed C _ o _ is (node C (pass C (only C (within_placed C (ExpStays itself C c value m.from e) (λ x. tree.bump m PreInc x) p (exp_places c value m.from e p inner)))))
    exp_places c r b (tree.bump m PreDec e) o (p, inner, is) = moved_placed C _ o _ is (node C (pass C (only C (within_placed C (ExpStays itself C c value m.from e) (λ x. tree.bump m PreDec x) p (exp_places c value m.from e p inner)))))
    exp_places c r b (tree.bump m PostInc e) o (p, inner, is) = moved_placed C _ o _ is (node C (only C (within_placed C (ExpStays itself C c value m.from e) (λ x. tree.bump m PostInc x) p (exp_places c value m.from e p inner))))
    exp_places c r b (tree.bump m PostDec e) o (p, inner, is) = moved_placed C _ o _ is (node C (only C (within_placed C (ExpStays itself C c value m.from e) (λ x. tree.bump m PostDec x) p (exp_places c value m.from e p inner))))
    exp_places c r b (tree.binary m op e f) o (p, q, one_side, other, is) = moved_placed C _ o _ is
        (node C (join C (ExpStays itself C c value m.from e) (ExpStays itself C c value m.from f) (λ u v. tree.binary m op u v) p q (exp_places c value m.from e p one_side) (pass C (only C (exp_places c value m.from f q other)))))
    exp_places c r b (tree.assign m e f) o (p, q, one_side, other, is) = moved_placed C _ o _ is
        (node C (join C (ExpStays itself C c value m.from e) (ExpStays itself C c value m.from f) (λ u v. tree.assign m u v) p q (exp_places c value m.from e p one_side) (pass C (only C (exp_places c value m.from f q other)))))
    exp_places c r b (tree.compound m op e f) o (p, q, one_side, other, is) = moved_placed C _ o _ is
        (node C (join C (ExpStays itself C c value m.from e) (ExpStays itself C c value m.from f) (λ u v. tree.compound m op u v) p q (exp_places c value m.from e p one_side) (pass C (only C (exp_places c value m.from f q other)))))

    pub args_places : (c : Context) (b : ℕ) (es : tree.Exps Span) (o : Rewritten (tree.Exps Span)) → RewritesRow itself C c b es o → Of (Stands (args_layout es)) (RowStays itself C c b es) o
    args_places c b tree.end o is = moved_placed C _ o (plain tree.end) is (plain_placed C tree.end)
    args_places c b (tree.more e es) o (p, q, inner, rest, is) = moved_placed C _ o _ is
        (join C (ExpStays itself C c value b e) (RowStays itself C c b es) (λ x xs. tree.more x xs) p q (exp_places c value b e p inner) (only C (more_args_places c b es q rest)))

    more_args_places : (c : Context) (b : ℕ) (es : tree.Exps Span) (o : Rewritten (tree.Exps Span)) → RewritesRow itself C c b es o → Of (Stands (more_args_layout es)) (RowStays itself C c b es) o
    more_args_places c b tree.end o is = moved_placed C _ o (plain tree.end) is (plain_placed C tree.end)
    more_args_places c b (tree.more e es) o (p, q, inner, rest, is) = moved_placed C _ o _ is
        (pass C (join C (ExpStays itself C c value b e) (RowStays itself C c b es) (λ x xs. tree.more x xs) p q (exp_places c value b e p inner) (only C (more_args_places c b es q rest))))
