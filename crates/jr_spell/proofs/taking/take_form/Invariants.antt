use Rattle.std.proofs.Common.{◌≡◌, ℕ, ◌<◌, Some}
use Rattle.std.specs.Prelude.{slice_get}
use Rattle.jr_table.specs.KeyView.{decl_of}
use Rattle.jr_lookup.specs.ScopeView.{scope_of}
use Rattle.jr_spell.specs.declared.spellings.Form.{Form}
use Rattle.jr_spell.specs.ReferenceView.{reference_of}
use Rattle.jr_spell.specs.Binds.{Binds}
use Rattle.jr_spell.proofs.taking.take_form.Given as goal

-- none of those that were tried binds
abbrev pub invariant-loop-form : goal.invariant-loop-form
invariant-loop-form l = (i : ℕ) (g : Form) → i < l.form-index → slice_get l.form-items i ≡ Some g
    → Binds l.table (scope_of l.scope) (reference_of l.reference) (decl_of l.target) g → ⊥
