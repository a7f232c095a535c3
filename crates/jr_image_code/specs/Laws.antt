-- The law of a rename, of expressions: the code of a rewritten one is the image of the old code, in
-- which all locals agree.
use Rattle.std.specs.Prelude.{◌≡◌, ◌<◌, ℕ, List, []}
use Rattle.jr_text.specs.declared.spans.Span.{Span}
use Rattle.jr_ast.specs.Tree as tree
use Rattle.jr_runs.specs.KeyMaps.{KeyMap}
use Rattle.jr_runs.specs.Rows as core_rows
use Rattle.jr_runs.specs.Sets.{NumberSet, everything}
use Rattle.jr_runs.specs.Standing.{whole}
use Rattle.jr_runs.specs.Images.{ExpTo}
use Rattle.jr_table.specs.Decls.{LocalKey, local_decl}
use Rattle.jr_table.specs.Rows.{Row}
use Rattle.jr_table.specs.Conditions.{AreRows}
use Rattle.jr_table.specs.Found.{one}
use Rattle.jr_table.specs.Lookup.{FindsVariable}
use Rattle.jr_table.specs.Context.{Context, scope_of}
use Rattle.jr_table.specs.Binding.{Role}
use Rattle.jr_rewrite.specs.Rewritten.{Rewritten}
use Rattle.jr_rewrite.specs.Rewrites.{RewritesExp}
use Rattle.jr_images.specs.Images.{Renaming, rows_to}
use Rattle.jr_images.specs.Regions.{images_of, region_of}
use Rattle.jr_images.specs.Spelling.{spelling}
use Rattle.jr_images.specs.Standing.{ContextTo}
use Rattle.jr_images.specs.RenameLaws.{IsFair}
use Rattle.jr_code.specs.RunKeys.{RunKeys}
use Rattle.jr_code.specs.Coded.{Code, ExpCode}
use Rattle.jr_image_code.specs.KeysIn.{keys_by, MapsAs, AreDeclared, CastsStay}

-- at each place of the new program that stands for one of the old, whose locals have numbers below
-- the size, where casts can fail alike
abbrev pub RenamedExpressionsAreImages : Type 0 → Type 0
RenamedExpressionsAreImages A = (tells : A → ℕ → Span) (rows : List Row) (g : Renaming)
    (super_at : Context → ℕ) (r : KeyMap RunKeys) (D : core_rows.Rows RunKeys) (size : ℕ)
    (c d : Context) (role : Role) (base : ℕ) (e : tree.Exp A) (o : Rewritten (tree.Exp A))
    → AreRows rows → IsFair rows g → ContextTo g rows c d
    → MapsAs r (keys_by (images_of rows g)) rows → AreDeclared rows D
    → ((k : LocalKey) (name : List ℕ) → FindsVariable rows (scope_of c) name (one (local_decl k))
    → k.number < size)
    → CastsStay rows (region_of {A = A} rows g) c
    → RewritesExp tells (spelling (λ m b. (tells m b).from) rows g super_at) c role base e o
    → o.losses ≡ [] → (i : ℕ) (x z : Code)
    → ExpCode (λ m b. (tells m b).from) rows c base e x
    → ExpCode (λ m b. (tells m b).from) (rows_to g rows) d i o.tree z
    → (B : NumberSet) × ExpTo r D (whole size (λ n. n)).code everything x z B
