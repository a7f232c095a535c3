-- The declaration as it is put.
use Rattle.std.specs.Prelude.{◌≡◌, ℕ, List, string_bytes}
use Rattle.jr_layout.specs.Layouts.{IsGap}
use Rattle.jr_rewrite.specs.Respellings.{Change}
use Rattle.jr_rewrite.specs.Rewritten.{change}
use Rattle.jr_rewrite.specs.ChangeView.{change_of}
use Rattle.jr_rewrite.specs.Woven.{with_changes}
use Rattle.jr_rewrite.specs.declared.changes.Change as raw_change
use Rattle.jr_local.specs.Extracted.{declaration_text}
use Rattle.jr_extract_lists.specs.declared.targets.Target as raw
use Rattle.jr_extract_lists.specs.declared.written_types.WrittenType as raw_type

-- in front of what begins at the byte, with the expression as it becomes by its own changes
pub record IsDeclared (t : raw.Target) (at : ℕ) (type : raw_type.WrittenType)
    (changes : List Change) (put : raw_change.Change) : Type 0 where
  pub gap : List ℕ
  pub is_gap : IsGap t.text.now at gap
  pub is : change_of put ≡ change (record { from = at; to = at })
      (declaration_text t.request.name.now (string_bytes type.text)
      (with_changes t.text.now t.value.now.mark changes) gap)
