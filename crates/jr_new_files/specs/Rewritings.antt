-- What a whole program becomes, as what is answered.
use Rattle.std.specs.Prelude.{◌≡◌, ℕ, List, map, Option, Some, None, sum_by}
use Rattle.jr_text.specs.declared.spans.Span.{Span}
use Rattle.jr_text.specs.Edits.{Entry}
use Rattle.jr_lex.specs.Replacing.{IsName}
use Rattle.jr_ast.specs.MemberTree as syntax
use Rattle.jr_bind.specs.Programs.{Program, units_of}
use Rattle.jr_rewrite.specs.Respellings.{Loss}
use Rattle.jr_rewrite.specs.Rewritten.{Rewritten}
use Rattle.jr_rewrite.specs.Edited.{entries_of}
use Rattle.jr_new_words.specs.Mappings.{KeyMapping, same_keys, renamed, Mapping}
use Rattle.jr_images.specs.Refusals.{IsFirstLoss}
use Rattle.jr_images.specs.RenameLaws.{KeepsAll}
use Rattle.jr_grammar.specs.Layout.{itself}
use Rattle.jr_new_files.specs.FileLaws.{AllRewritten}

-- the name that declarations get is an identifier (JLS 3.8)
abbrev pub GivesName : KeyMapping → Type 0
GivesName same_keys = Unit {0}
GivesName (renamed g) = IsName g.name

-- The files are rewritten with these edits, so many references are respelled in all, and this is
-- the first that is lost, with its file.
pub record IsRewriting (p : Program Span) (m : Mapping) (edits : List (List Entry)) (respelled : ℕ)
    (lost : Option (ℕ × Loss)) : Type 0 where
  pub files : List (Rewritten (syntax.Unit Span))
  pub are : AllRewritten itself p.rows p.super_at (units_of p) m files
  pub edits_are : edits
      ≡ map (λ (o : Rewritten (syntax.Unit Span)). entries_of o.changes) files
  pub respelled_is : respelled
      ≡ sum_by (λ (o : Rewritten (syntax.Unit Span)). o.respelled) files
  pub none : lost ≡ None → KeepsAll files
  pub first : (file : ℕ) (l : Loss) → lost ≡ Some (file, l) → IsFirstLoss files file l
