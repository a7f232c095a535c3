-- A rename is the case of one region without spots: the code of its expressions is the image, in which
-- all locals agree.
use Rattle.std.proofs.Common.{◌≡◌, ◌<◌, ℕ, List, [], refl, sym, ap, subst, inl}
use Rattle.jr_text.specs.declared.spans.Span.{Span}
use Rattle.jr_ast.specs.Tree as tree
use Rattle.jr_runs.specs.Rows as core_rows
use Rattle.jr_runs.specs.KeyMaps.{KeyMap}
use Rattle.jr_runs.specs.Sets.{NumberSet, everything}
use Rattle.jr_runs.specs.Standing.{whole}
use Rattle.jr_runs.specs.Images.{NoSpot, lists_alone, ExpTo}
use Rattle.jr_runs.proofs.Locals.{within_itself}
use Rattle.jr_runs.proofs.Numbers.{in_upto}
use Rattle.jr_table.specs.Decls.{LocalKey, local_decl, field_decl, method_decl}
use Rattle.jr_table.specs.Rows.{Row}
use Rattle.jr_table.specs.Found.{one}
use Rattle.jr_table.specs.Lookup.{FindsVariable}
use Rattle.jr_table.specs.Context.{Context, scope_of, WritesType}
use Rattle.jr_table.specs.Keys.{Ty}
use Rattle.jr_table.specs.Binding.{Role}
use Rattle.jr_rewrite.specs.Rewritten.{Rewritten}
use Rattle.jr_rewrite.specs.Spots.{nowhere, level}
use Rattle.jr_rewrite.specs.Rewrites.{Choosing, RewritesExp}
use Rattle.jr_images.specs.Images.{Renaming, local_to, rows_to}
use Rattle.jr_images.specs.Regions.{images_of, region_of}
use Rattle.jr_images.specs.Spelling.{spelling}
use Rattle.jr_images.specs.Standing.{ContextTo}
use Rattle.jr_images.specs.RenameLaws.{IsFair}
use Rattle.jr_images.proofs.Places.{row_image}
use Rattle.jr_images.proofs.World.{World}
use Rattle.jr_kept_references.proofs.Renamed.{world_of}
use Rattle.jr_code.specs.RunKeys.{RunKeys}
use Rattle.jr_code.specs.Coded.{Code, ExpCode}
use Rattle.jr_image_code.specs.KeysIn.{keys_by, MapsAs, AreDeclared, WordsStay, CastsStay}
use Rattle.jr_image_code.specs.CodeRelations.{Relations}
use Rattle.jr_image_code.specs.CodedSpots.{CastsCoded, GoesByImages, LocalsStay, SpotsCoded}
use Rattle.jr_image_code.specs.SetImages.{through}
use Rattle.jr_image_code.proofs.Through.{exps_related}
use Rattle.jr_image_code.proofs.ExpImages.{written_row, images}

-- modifiers stay
pub words_stay : (rows : List Row) (g : Renaming) → WordsStay rows (images_of rows g)
words_stay rows g = record {
  static_field = λ k (j, i, is). (j, row_image g rows (field_decl k) j i, is);
  instance_field = λ k (j, i, is). (j, row_image g rows (field_decl k) j i, is);
  static_method = λ k (j, i, is). (j, row_image g rows (method_decl k) j i, is);
  instance_method = λ k (j, i, is). (j, row_image g rows (method_decl k) j i, is);
}

-- without spots nothing is owed of them, where `this` is `this` and each local may be written
pub no_spots : {A : Type 0} (begins : A → ℕ → ℕ) (rows : List Row) (g : Renaming) (X : Relations) → X.own → ((n : ℕ) → X.free n) → (c d : Context) → SpotsCoded begins rows (region_of rows g) X nowhere c d
no_spots begins rows g X own free c d = record {
  this = λ stays. own;
  on_this = λ k r base e stays h. own;
  written = λ base e k stays h. free k.number;
  parts = λ k r b e i y h. absurd h;
  targets = λ b e i y h t code. absurd h;
}

-- where casts can fail alike
pub casts_alike : {A : Type 0} (tells : A → ℕ → Span) (rows : List Row) (g : Renaming) (X : Relations) (C : Choosing A) (c d : Context) → CastsStay rows (region_of {A = A} rows g) c → CastsCoded tells rows (region_of rows g) X C nowhere c d
casts_alike tells rows g X C c d casts k r b m of e q t u stays made none has written = inl (casts e t u has (λ i is. written_row rows (scope_of c) of i (subst (λ (l : Ty). WritesType rows (scope_of c) of l) is written)))

module _ {A : Type 0} (tells : A → ℕ → Span) (rows : List Row) (g : Renaming) (fair : IsFair rows g) (c d : Context) (stand : ContextTo g rows c d) (w : World A rows g c d)
    (r : KeyMap RunKeys) (D : core_rows.Rows RunKeys) (maps : MapsAs r (keys_by (images_of rows g)) rows) (has : AreDeclared rows D) (size : ℕ)
    (below : (k : LocalKey) (name : List ℕ) → FindsVariable rows (scope_of c) name (one (local_decl k)) → k.number < size)
    (casts : CastsStay rows (region_of {A = A} rows g) c) (super_at : Context → ℕ) where
  abbrev All : Relations
  All = through r D (lists_alone (NoSpot {K = RunKeys})) (whole size (λ n. n)) everything

  goes : GoesByImages {A = A} rows (region_of rows g) r D All
  goes = record { maps = maps; has = has; words = words_stay rows g; exps = exps_related r D (lists_alone (NoSpot {K = RunKeys})) (whole size (λ n. n)) everything }

  locals : LocalsStay {A = A} rows (region_of rows g) All c
  locals k m name finds image = (let same : local_to g k ≡ m = cc in ((in_upto size k.number (below k name finds), refl), ap (λ (l : LocalKey). l.number) (sym same)))

  pub renamed_images : (role : Role) (base : ℕ) (e : tree.Exp A) (o : Rewritten (tree.Exp A)) → RewritesExp tells (spelling (λ m b. (tells m b).from) rows g super_at) c role base e o → o.losses ≡ []
      → (i : ℕ) (x z : Code) → ExpCode (λ m b. (tells m b).from) rows c base e x → ExpCode (λ m b. (tells m b).from) (rows_to g rows) d i o.tree z → (B : NumberSet) × ExpTo r D (whole size (λ n. n)).code everything x z B
  renamed_images role base e o made none i x z old new =
      let image = (images tells rows (region_of rows g) c d (world_of rows g c d stand fair w) r D All goes locals super_at nowhere (casts_alike tells rows g All (spelling (λ m b. (tells m b).from) rows g super_at) c d casts) refl (no_spots (λ m b. (tells m b).from) rows g All refl (λ n h. h) c d)
      role base e o made (level 0, tt) none).0 i x z old new everything (within_itself everything) in
      (image.0, image.2)
