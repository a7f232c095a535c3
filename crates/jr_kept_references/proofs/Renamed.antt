-- A rename is the case of one region, in which all is renamed alike.
use Rattle.std.proofs.Common.{◌≡◌, ℕ, List, [], ◌∷◌, Option, Some, None, refl, ap, subst, ◌∙◌}
use Rattle.std.specs.Prelude.{option_map}
use Rattle.std.proofs.lemmas.Option.{slice_get-map}
use Rattle.jr_text.specs.declared.spans.Span.{Span}
use Rattle.jr_ast.specs.Tree as tree
use Rattle.jr_table.specs.Keys.{Ty, int, boolean, void, null, class}
use Rattle.jr_table.specs.Decls.{LocalKey, Decl, class_decl, field_decl, method_decl, constructor_decl, local_decl}
use Rattle.jr_table.specs.Rows.{Row}
use Rattle.jr_table.specs.Context.{Context, IsTypeOf}
use Rattle.jr_table.specs.Binding.{HasType, Role}
use Rattle.jr_rewrite.specs.Rewritten.{Rewritten}
use Rattle.jr_rewrite.specs.Spots.{nowhere}
use Rattle.jr_rewrite.specs.Rewrites.{RewritesExp}
use Rattle.jr_images.specs.Images.{Renaming, type_to, types_to, decl_to, local_to, row_to, rows_to}
use Rattle.jr_images.specs.Regions.{image_of_type, IsImageRow, AreImages, image_at, AreTypesNow, images_of, seen_of, region_of}
use Rattle.jr_images.specs.Spelling.{spelling}
use Rattle.jr_images.specs.Standing.{ContextTo}
use Rattle.jr_images.specs.Keeping.{IsKept, IsBoundTo}
use Rattle.jr_images.specs.RenameLaws.{IsFair}
use Rattle.jr_images.proofs.Places.{scope_image, type_image}
use Rattle.jr_images.proofs.World.{World}
use Rattle.jr_kept_references.specs.InRegions.{StandsFor, TellsTypes}
use Rattle.jr_kept_references.specs.KeptInRegions.{IsBoundToImage, IsKeptIn}
use Rattle.jr_kept_references.proofs.RegionWorlds.{RegionWorld}
use Rattle.jr_kept_references.proofs.RegionExpressions.{kept}

module _ (rows : List Row) (g : Renaming) where
  pub same_type : (t : Ty) → type_to g t ≡ image_of_type (images_of rows g) t
  same_type int = refl
  same_type boolean = refl
  same_type void = refl
  same_type null = refl
  same_type (class k) = refl

  same_maybe : (t : Option Ty) → option_map (type_to g) t ≡ option_map (image_of_type (images_of rows g)) t
  same_maybe None = refl
  same_maybe (Some t) = ap (λ (u : Ty). Some u) (same_type t)

  row_is_image : (r : Row) → IsImageRow (images_of rows g) r (row_to g r)
  row_is_image r = record {
    of_class = λ k e. ap (decl_to g) e;
    of_field = λ k e. ap (decl_to g) e;
    of_method = λ k e. ap (decl_to g) e;
    of_constructor = λ k e. ap (decl_to g) e;
    type = same_maybe r.type;
    parent = refl;
  }

  images_are : IsFair rows g → AreImages rows (images_of rows g)
  images_are fair = record {
    are = fair.are;
    images = λ r j e. (j, row_to g r, slice_get-map (row_to g) rows j ∙ ap (option_map (row_to g)) e, row_is_image r);
    string = fair.string;
    class = fair.class;
    names = fair.names;
  }

  -- the image of a declaration is what the region says
  image_is : (c : Context) (x z : Decl) → image_at (seen_of rows g) c x ≡ Some z → z ≡ decl_to g x
  image_is c (class_decl k) z e = cc
  image_is c (field_decl k) z e = cc
  image_is c (method_decl k) z e = cc
  image_is c (constructor_decl k) z e = cc
  image_is c (local_decl k) z e = cc

  module _ {A : Type 0} where
    tells_types : TellsTypes {A = A} rows (region_of rows g)
    unfolding HasType
    tells_types = record {
      own = λ c e t own h. same_type t;
      this = λ c m t stays h. ap (type_to g) h;
      bound = λ c e t x y finds image type. same_type t;
      paren = λ c m e t. refl;
      assign = λ c m e f t. refl;
    }

    types_now : (c : Context) (es : tree.Exps A) (ts : List Ty) → AreTypesNow (region_of {A = A} rows g) c es ts (types_to g ts)
    types_now c tree.end [] = refl
    types_now c tree.end (t ∷ ts) = tt
    types_now c (tree.more e es) [] = tt
    types_now c (tree.more e es) (t ∷ ts) = (types_to g ts, refl, types_now c es ts)

    module _ (c d : Context) (stand : ContextTo g rows c d) where
      pub stands_for : StandsFor (region_of {A = A} rows g) rows c d
      stands_for = record {
        scope = scope_image g rows c d stand;
        local_types = λ k m t is h.
            (let same : local_to g k ≡ m = cc in
            subst (λ (l : LocalKey). IsTypeOf (rows_to g rows) d (local_decl l) (image_of_type (images_of rows g) t)) same
            (subst (λ (u : Ty). IsTypeOf (rows_to g rows) d (local_decl (local_to g k)) u) (same_type t) (type_image g rows c d stand (local_decl k) t h)));
      }

      -- what is known of a rename is known of its region
      pub world_of : IsFair rows g → World A rows g c d → RegionWorld A rows (region_of rows g) c d
      world_of fair w = record {
        one_old = w.one_old;
        one_new = w.one_new;
        old = w.old;
        new = w.new;
        rebind = w.rebind;
        classes = w.classes;
        fronts = w.fronts;
        images = images_are fair;
        args = types_now;
        types = tells_types;
        stand = stands_for;
      }

      -- a reference that is kept in the region is kept by the rename
      bound_to : (begins : A → ℕ → ℕ) (r : Role) (i : ℕ) (y : tree.Exp A) (x : Decl) → IsBoundToImage begins rows (region_of rows g) c d r i y x → IsBoundTo begins g rows d r i y (decl_to g x)
      bound_to begins r i y x (z, image, bound) = subst (λ (u : Decl). IsBoundTo begins g rows d r i y u) (image_is c x z image) bound

      is_kept : (begins : A → ℕ → ℕ) (r : Role) (b : ℕ) (e : tree.Exp A) (i : ℕ) (y : tree.Exp A) → IsKeptIn begins rows (region_of rows g) c d r b e i y → IsKept begins begins g rows c d r b e i y
      is_kept begins r b (tree.number m n) i y h = λ at x binds. bound_to begins r i y x (h at x binds)
      is_kept begins r b (tree.truth m n) i y h = λ at x binds. bound_to begins r i y x (h at x binds)
      is_kept begins r b (tree.null m) i y h = λ at x binds. bound_to begins r i y x (h at x binds)
      is_kept begins r b (tree.string m s) i y h = λ at x binds. bound_to begins r i y x (h at x binds)
      is_kept begins r b (tree.this m) i y h = λ at x binds. bound_to begins r i y x (h at x binds)
      is_kept begins r b (tree.name m v) i y h = λ at x binds. bound_to begins r i y x (h at x binds)
      is_kept begins r b (tree.field m e v) i y h = (λ at x binds. bound_to begins r i y x (h.0 at x binds), h.1)
      is_kept begins r b (tree.super_field m v) i y h = λ at x binds. bound_to begins r i y x (h at x binds)
      is_kept begins r b (tree.class_literal m t) i y h = tt
      is_kept begins r b (tree.call m to v args) i y h = λ at x binds. bound_to begins r i y x (h at x binds)
      is_kept begins r b (tree.super_call m v args) i y h = λ at x binds. bound_to begins r i y x (h at x binds)
      is_kept begins r b (tree.create m t args) i y h = λ x finds. bound_to begins r i y x (h x finds)
      is_kept begins r b (tree.paren m e) i y h = λ at x binds. bound_to begins r i y x (h at x binds)
      is_kept begins r b (tree.cast m t e) i y h = tt
      is_kept begins r b (tree.unary m s e) i y h = λ at x binds. bound_to begins r i y x (h at x binds)
      is_kept begins r b (tree.bump m s e) i y h = λ at x binds. bound_to begins r i y x (h at x binds)
      is_kept begins r b (tree.binary m s e f) i y h = λ at x binds. bound_to begins r i y x (h at x binds)
      is_kept begins r b (tree.assign m e f) i y h = λ at x binds. bound_to begins r i y x (h at x binds)
      is_kept begins r b (tree.compound m s e f) i y h = λ at x binds. bound_to begins r i y x (h at x binds)

      pub renamed_kept : (tells : A → ℕ → Span) (super_at : Context → ℕ) → IsFair rows g → World A rows g c d → (r : Role) (base : ℕ) (e : tree.Exp A) (o : Rewritten (tree.Exp A))
          → RewritesExp tells (spelling (λ m b. (tells m b).from) rows g super_at) c r base e o → o.losses ≡ [] → (b i : ℕ) → IsKept (λ m b. (tells m b).from) (λ m b. (tells m b).from) g rows c d r b e i o.tree
      renamed_kept tells super_at fair w r base e o made none b i =
          is_kept (λ m b. (tells m b).from) r b e i o.tree ((kept tells rows (region_of rows g) c d (world_of fair w) super_at nowhere refl r base e o made none).bound b i)
