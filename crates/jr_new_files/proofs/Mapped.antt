-- Where keys are mapped by a rename, what is chosen is what the rename chooses; names of images are
-- identifiers.
use Rattle.std.proofs.Common.{◌≡◌, ℕ, List, refl, sym, subst, false}
use Rattle.std.specs.Cmp.Lexicographic.{bytes_decides}
use Rattle.std.proofs.lemmas.Bool.{both_ways}
use Rattle.jr_text.specs.declared.spans.Span.{Span}
use Rattle.jr_table.specs.SameKeys.{same_name}
use Rattle.jr_table.specs.Decls.{class_decl, field_decl, method_decl}
use Rattle.jr_table.specs.Rows.{Row}
use Rattle.jr_table.specs.Context.{Context}
use Rattle.jr_rewrite.specs.Rewrites.{Choosing}
use Rattle.jr_program_laws.specs.FileParts.{begins}
use Rattle.jr_images.specs.Images.{Renaming}
use Rattle.jr_images.specs.Regions.{Region}
use Rattle.jr_images.specs.Spelling as region
use Rattle.jr_images.specs.NamedImages.{AreNamedImages}
use Rattle.jr_images.specs.TextLaws.{AreNamed}
use Rattle.jr_images.proofs.SuitableSpelling.{rename_named}
use Rattle.jr_new_words.specs.Mappings.{KeyMapping, same_keys, renamed, Mapping, all_stay, images_of}
use Rattle.jr_new_words.specs.Spelled.{spelling}
use Rattle.jr_new_words.proofs.Images.{region_is}
use Rattle.jr_new_files.specs.Rewritings.{GivesName}

abbrev pub with_keys : KeyMapping → List Row → Mapping
with_keys x new = record { keys = x; locals = all_stay; new = new }

module _ (rows : List Row) (g : Renaming) (new : List Row) (super_at : Context → ℕ) (P : Choosing Span → Type 0) where
  pub as_mapping : P (region.spelling begins rows g super_at) → P (spelling begins rows (with_keys (renamed g) new) super_at)
  as_mapping x = subst (λ (r : Region Span). P (region.choosing begins rows r super_at)) (sym (region_is rows g new)) x

  pub as_rename : P (spelling begins rows (with_keys (renamed g) new) super_at) → P (region.spelling begins rows g super_at)
  as_rename x = subst (λ (r : Region Span). P (region.choosing begins rows r super_at)) (region_is rows g new) x

other_name : (old : List ℕ) → same_name old old ≡ false → ⊥
other_name old e = both_ways (same_name old old) e ((bytes_decides old old).1 refl)

pub keys_named : (rows : List Row) (x : KeyMapping) (new : List Row) → AreNamed rows → GivesName x → AreNamedImages rows (images_of rows (with_keys x new))
keys_named rows same_keys new named name = record {
  class = λ k j row. named (class_decl k) j row;
  field = λ k j row. named (field_decl k) j row;
  method = λ k j row. named (method_decl k) j row;
  declared = λ d old e. absurd (other_name old e);
}
keys_named rows (renamed g) new named name = rename_named rows g name named
