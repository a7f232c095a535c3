-- A rename is a refactoring: what it makes fits, and its files are those of `jr_images: Renames`.
use Rattle.std.proofs.Common.{◌≡◌, ℕ, zero, suc, List, [], ◌∷◌, ◌++◌, map, Option, Some, None, refl, sym, ap, ◌∙◌}
use Rattle.std.specs.Prelude.{slice_get, option_map, filter, not}
use Rattle.std.proofs.lemmas.List.{append-nil}
use Rattle.jr_text.specs.declared.spans.Span.{Span}
use Rattle.jr_lex.specs.declared.items.Item.{Item}
use Rattle.jr_lex.specs.declared.items.ItemKind.{ItemKind}
use Rattle.jr_lex.specs.declared.items.ItemKind.TheVariants.{Token as TokenItem, Blank, Comment}
use Rattle.jr_lex.specs.Replacing.{IsName}
use Rattle.jr_ast.specs.Tree as tree
use Rattle.jr_ast.specs.MemberTree as syntax
use Rattle.jr_grammar.specs.Layout.{itself}
use Rattle.jr_table.specs.Keys.{ClassKey, Ty, int, boolean, void, null, class}
use Rattle.jr_table.specs.Decls.{MemberKey, head, field, method, constructor, LocalKey, Decl, class_decl, field_decl, method_decl, constructor_decl, local_decl}
use Rattle.jr_table.specs.SameDecls.{same_decl}
use Rattle.jr_table.specs.Rows.{Row}
use Rattle.jr_table.specs.DeclaredItems.{DeclaredItem}
use Rattle.jr_table.specs.Context.{Context, Local}
use Rattle.jr_bind.specs.Programs.{Program, units_of}
use Rattle.jr_rewrite.specs.Respellings.{Loss}
use Rattle.jr_rewrite.specs.Rewritten.{Rewritten}
use Rattle.jr_rewrite.specs.Spots.{nowhere}
use Rattle.jr_rewrite.specs.Rewrites.{Choosing, RewritesUnits}
use Rattle.jr_rewrite.specs.Woven.{MayFront, Fronted}
use Rattle.jr_images.specs.Images as old
use Rattle.jr_images.specs.Images.{Renaming}
use Rattle.jr_images.specs.Regions.{image_of_type, image_of_member, IsImageRow, AreImages, LocalsTo, none, kept as stays_there, images_of, seen_of, region_of, AreTypesNow, IsSound}
use Rattle.jr_images.specs.RenameLaws.{IsFair}
use Rattle.jr_images.specs.TextLaws.{AreNamed}
use Rattle.jr_images.proofs.SuitableSpelling.{rename_named}
use Rattle.jr_images.specs.Renames as rename
use Rattle.jr_images.specs.Renames.{Rewrite}
use Rattle.jr_plan.specs.Transforms.{TransformsFiles, Transformed, choosing_of, IsFit, Lost, kept_lost, kept_from, all_lost}
use Rattle.jr_plan.specs.Reasons.{row_image, pairs_of}
use Rattle.jr_plan.specs.Renaming.{rename_of}

-- ---- images

same_types : (rows : List Row) (g : Renaming) (t : Ty) → old.type_to g t ≡ image_of_type (images_of rows g) t
same_types rows g int = refl
same_types rows g boolean = refl
same_types rows g void = refl
same_types rows g null = refl
same_types rows g (class k) = refl

same_maybe : (rows : List Row) (g : Renaming) (t : Option Ty) → option_map (old.type_to g) t ≡ option_map (image_of_type (images_of rows g)) t
same_maybe rows g None = refl
same_maybe rows g (Some t) = ap (λ (u : Ty). Some u) (same_types rows g t)

row_is_image : (rows : List Row) (g : Renaming) (r : Row) → IsImageRow (images_of rows g) r (old.row_to g r)
row_is_image rows g r = record {
  of_class = λ k e. ap (old.decl_to g) e;
  of_field = λ k e. ap (old.decl_to g) e;
  of_method = λ k e. ap (old.decl_to g) e;
  of_constructor = λ k e. ap (old.decl_to g) e;
  type = same_maybe rows g r.type;
  parent = refl;
}

mapped : (f : Row → Row) (rows : List Row) (j : ℕ) (r : Row) → slice_get rows j ≡ Some r → slice_get (map f rows) j ≡ Some (f r)
mapped f [] j r e = absurd (nothing j e)
  where
    nothing : (j : ℕ) → (let none : List Row = [] in slice_get none j ≡ Some r) → ⊥
    nothing j e = cc
mapped f (x ∷ rows) zero r e = ap (option_map f) e
mapped f (x ∷ rows) (suc j) r e = mapped f rows j r e

rename_images : (rows : List Row) (g : Renaming) → IsFair rows g → AreImages rows (images_of rows g)
rename_images rows g fair = record {
  are = fair.are;
  images = λ r j e. (j, old.row_to g r, mapped (old.row_to g) rows j r e, row_is_image rows g r);
  string = fair.string;
  class = fair.class;
  names = fair.names;
}

-- ---- places

locals_to : (rows : List Row) (g : Renaming) (c : Context) (ls : List Local) → LocalsTo (seen_of rows g) c ls (map (old.scope_local_to g) ls)
locals_to rows g c [] = none refl refl
locals_to rows g c (l ∷ ls) = stays_there refl refl (locals_to rows g c ls)

types_now : (rows : List Row) (g : Renaming) (c : Context) (es : tree.Exps Span) (ts : List Ty) → AreTypesNow (region_of {A = Span} rows g) c es ts (old.types_to g ts)
types_now rows g c tree.end [] = refl
types_now rows g c tree.end (t ∷ ts) = tt
types_now rows g c (tree.more e es) [] = tt
types_now rows g c (tree.more e es) (t ∷ ts) = (old.types_to g ts, refl, types_now rows g c es ts)

same_key : (k m : LocalKey) → (let a : Option LocalKey = Some k in a ≡ Some m) → k ≡ m
same_key k m e = cc

pub rename_is_sound : (rows : List Row) (g : Renaming) → IsFair rows g → IsSound rows (region_of {A = Span} rows g)
rename_is_sound rows g fair = record {
  images = rename_images rows g fair;
  locals = λ c. locals_to rows g c c.locals;
  classes = λ c l i m k j stands is last type row. (
    l,
    k,
    j,
    record { number = i; stands = stands; is = same_key (old.local_to g l.key) m is; last = λ n other behind there same. last n other behind there (ap (λ (x : LocalKey). Some x) same) },
    type,
    row,
    refl,
  );
  types = types_now rows g;
}

-- ---- files

pub files_of : (C : Choosing Span) (ds : List DeclaredItem) (us : List (syntax.Unit Span)) (os : List (Rewritten (syntax.Unit Span))) → RewritesUnits itself C ds us os → TransformsFiles C ds (λ n. nowhere) us os
files_of C ds [] os w = w
files_of C ds (u ∷ us) os w = (w.0, w.1, w.2, files_of C ds us w.1 w.3, w.4)

all_fronted : (items : List Item) → Fronted (λ at k. Unit {0}) items
all_fronted [] = tt
all_fronted (item ∷ items) = (by_kind item.kind, all_fronted items)
  where
    by_kind : (k : ItemKind) → MayFront (λ at k. Unit {0}) item.span.to k
    by_kind (TokenItem k) = tt
    by_kind Blank = tt
    by_kind Comment = tt

files_back : (C : Choosing Span) (ds : List DeclaredItem) (us : List (syntax.Unit Span)) (os : List (Rewritten (syntax.Unit Span))) → TransformsFiles C ds (λ n. nowhere) us os → RewritesUnits itself C ds us os
files_back C ds [] os w = w
files_back C ds (u ∷ us) os w = (w.0, w.1, w.2, files_back C ds us w.1 w.3, w.4)

abbrev pub Files : Type 0
Files = List (Rewritten (syntax.Unit Span))

abbrev pub rewrite_to : (p : Program Span) (g : Renaming) (files : Files) → Rewrite itself p.rows p.super_at (units_of p) g files → Transformed p (rename_of p g)
rewrite_to p g files w = record { files = files; rewritten = files_of (choosing_of p (rename_of p g)) _ (units_of p) files w; also_lost = []; also = refl }

pub rewrite_back : (p : Program Span) (g : Renaming) (to : Transformed p (rename_of p g)) → Rewrite itself p.rows p.super_at (units_of p) g to.files
rewrite_back p g to = files_back (choosing_of p (rename_of p g)) _ (units_of p) to.files to.rewritten

-- nothing but kept references is lost
pub all_kept_lost : (p : Program Span) (g : Renaming) (to : Transformed p (rename_of p g)) → all_lost to.files to.also_lost ≡ kept_from 0 to.files
all_kept_lost p g to = ap (λ also. kept_from 0 to.files ++ also) to.also ∙ append-nil (kept_from 0 to.files)

-- a rename is a transform
pub rename_fits : (p : Program Span) (g : Renaming) → IsFair p.rows g → AreNamed p.rows → IsName g.name → IsFit p (rename_of p g)
rename_fits p g fair named new_is = record {
  sound = rename_is_sound p.rows g fair;
  named = rename_named p.rows g new_is named;
  spots = λ n f e. tt;
  fronted = λ n f items e lexes. all_fronted items;
  apart = λ n. tt;
}

-- ---- what is lost

no_more : (ls : List Loss) (n : ℕ) (rest : List Lost) → kept_lost n ls ++ rest ≡ [] → ls ≡ []
no_more [] n rest e = refl
no_more (l ∷ ls) n rest e = cc

no_rest : (ls : List Loss) (n : ℕ) (rest : List Lost) → kept_lost n ls ++ rest ≡ [] → rest ≡ []
no_rest [] n rest e = e
no_rest (l ∷ ls) n rest e = cc

pub all_kept : (n : ℕ) (os : List (Rewritten (syntax.Unit Span))) → kept_from n os ≡ [] → (i : ℕ) (o : Rewritten (syntax.Unit Span)) → slice_get os i ≡ Some o → o.losses ≡ []
all_kept n [] e i o g = absurd (nothing i g)
  where
    nothing : (i : ℕ) → (let none : List (Rewritten (syntax.Unit Span)) = [] in slice_get none i ≡ Some o) → ⊥
    nothing i g = cc
all_kept n (x ∷ os) e zero o g = ap (λ (y : Rewritten (syntax.Unit Span)). y.losses) (sym (same_file x o g)) ∙ no_more x.losses n (kept_from (suc n) os) e
  where
    same_file : (x o : Rewritten (syntax.Unit Span)) → (let a : Option (Rewritten (syntax.Unit Span)) = Some x in a ≡ Some o) → x ≡ o
    same_file x o q = cc
all_kept n (x ∷ os) e (suc i) o g = all_kept (suc n) os (no_rest x.losses n (kept_from (suc n) os) e) i o g

-- where nothing is lost, no file loses anything
pub none_loses : (p : Program Span) (g : Renaming) (to : Transformed p (rename_of p g)) → all_lost to.files to.also_lost ≡ [] → (i : ℕ) (o : Rewritten (syntax.Unit Span)) → slice_get to.files i ≡ Some o → o.losses ≡ []
none_loses p g to e = all_kept 0 to.files (sym (all_kept_lost p g to) ∙ e)

pub none_lost : (n : ℕ) (os : Files) → ((i : ℕ) (o : Rewritten (syntax.Unit Span)) → slice_get os i ≡ Some o → o.losses ≡ []) → kept_from n os ≡ []
none_lost n [] h = refl
none_lost n (o ∷ os) h = ap (λ ls. kept_lost n ls ++ kept_from (suc n) os) (h 0 o refl) ∙ none_lost (suc n) os (λ i x e. h (suc i) x e)

same_members : (rows : List Row) (g : Renaming) (k : MemberKey) → image_of_member (images_of rows g) k ≡ old.member_to g k
same_members rows g (head k) = refl
same_members rows g (field k) = refl
same_members rows g (method k) = refl
same_members rows g (constructor k) = refl

same_image : (p : Program Span) (g : Renaming) (d : Decl) → row_image p (rename_of p g) d ≡ old.decl_to g d
same_image p g (class_decl k) = refl
same_image p g (field_decl k) = refl
same_image p g (method_decl k) = refl
same_image p g (constructor_decl k) = refl
same_image p g (local_decl k) = ap (λ (m : MemberKey). local_decl (record { member = m; number = k.number })) (same_members p.rows g k.member)

pub same_pairs : (p : Program Span) (g : Renaming) → pairs_of p (rename_of p g) ≡ rename.pairs_of p.rows g
same_pairs p g = ap (λ (f : Decl → Decl). map (λ (r : Row). (r.decl, f r.decl)) (filter (λ (r : Row). not (same_decl r.decl (f r.decl))) p.rows)) (λ i d. same_image p g d i)
