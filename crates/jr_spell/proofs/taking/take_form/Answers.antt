use Rattle.std.proofs.Common.{◌≡◌, ℕ, Some, sym, ap, subst, ◌∙◌, get_or, arith}
use Rattle.std.specs.Prelude.{slice_get}
use Rattle.jr_table.specs.KeyView.{decl_of}
use Rattle.jr_lookup.specs.ScopeView.{scope_of}
use Rattle.jr_spell.specs.declared.spellings.Form.{Form}
use Rattle.jr_spell.specs.declared.spellings.Form.TheVariants as variant
use Rattle.jr_spell.specs.ReferenceView.{reference_of}
use Rattle.jr_spell.specs.Binds.{Binds}
use Rattle.std.proofs.lemmas.Option.{slice_get-get_or, slice_get_within}
use Rattle.jr_spell.proofs.Deciding.{refuted}
use Rattle.jr_spell.proofs.Trying.{NoneBelow, one_more}
use Rattle.jr_spell.proofs.taking.take_form.Goals as goal

pub returns-then-branch-clause-some : goal.returns-then-branch-clause-some
returns-then-branch-clause-some c =
    let rows = c.args.table.now in
    let s = scope_of c.args.scope.now in
    let r = reference_of c.args.reference.now in
    let d = decl_of c.args.target.now in
    let n = c.loop-form.form-index in
    let items = c.forms-form-items.result.now in
    let none = subst (λ xs. NoneBelow (Binds rows s r d) xs n) c.forms-form-items.ensures c.loop-form.invariant in
    let at = ap (λ xs. slice_get xs n) (sym c.forms-form-items.ensures) ∙ slice_get-get_or items n variant.Asked c.loop-form-test.true in
    let binds = c.in_ok-binds.ensures.0 c.if-branch.true in
    record { place = n; stands = at; binds = binds; first = none }

pub loop-form-preserved : goal.loop-form-preserved
loop-form-preserved c =
    let rows = c.args.table.now in
    let s = scope_of c.args.scope.now in
    let r = reference_of c.args.reference.now in
    let d = decl_of c.args.target.now in
    one_more (Binds rows s r d) c.forms-form-items.result.now c.loop-form.form-index variant.Asked c.loop-form-test.true c.loop-form.invariant
    (refuted c.if-branch.false c.in_ok-binds.ensures)

pub returns-clause-none : goal.returns-clause-none
returns-clause-none c = λ e.
    let rows = c.args.table.now in
    let s = scope_of c.args.scope.now in
    let r = reference_of c.args.reference.now in
    let d = decl_of c.args.target.now in
    let past = c.loop-form-test.false in
    subst (λ xs. (i : ℕ) (g : Form) → slice_get xs i ≡ Some g → Binds rows s r d g → ⊥) c.forms-form-items.ensures
    (λ i g at. let below = slice_get_within c.forms-form-items.result.now i g at in c.loop-form.invariant i g (omega (arith, below, past)) at)
