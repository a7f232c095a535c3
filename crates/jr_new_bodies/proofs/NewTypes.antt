-- Which name an expression reads, and the types of what stands at the reads of a local that is gone.
use Rattle.std.proofs.Common.{◌≡◌, ℕ, ◌<◌, ◌+◌, List, [], ◌∷◌, ◌++◌, Option, Some, None, refl, sym, ap, ◌∙◌, arith}
use Rattle.std.proofs.lemmas.List.{append_assoc, append-nil}
use Rattle.jr_ast.specs.Tree as tree
use Rattle.jr_ast.specs.declared.exprs.Expr.{Expr}
use Rattle.jr_ast.specs.View.{expr_of, exprs_of}
use Rattle.jr_ast.proofs.Sizes.{exp_size}
use Rattle.jr_table.specs.Keys.{Ty}
use Rattle.jr_table.specs.Context.{Context}
use Rattle.jr_new_words.specs.Mappings.{GoneLocal, read_name, type_where, types_where}
use Rattle.jr_new_bodies.specs.MeaningView.{within, simple_name}

module _ {A : Type 0} where
  inside : (e p : tree.Exp A) → Some e ≡ Some p → e ≡ p
  inside e p is = cc

  pub within_read : (e p : tree.Exp A) → within e ≡ Some p → read_name p ≡ read_name e
  within_read (tree.paren m e) p is = sym (ap read_name (inside e p is))
  within_read (tree.assign m e f) p is = sym (ap read_name (inside e p is))
  within_read (tree.name m v) p is = absurd cc
  within_read (tree.number m n) p is = absurd cc
  within_read (tree.truth m b) p is = absurd cc
  within_read (tree.null m) p is = absurd cc
  within_read (tree.string m t) p is = absurd cc
  within_read (tree.field m e w) p is = absurd cc
  within_read (tree.super_field m v) p is = absurd cc
  within_read (tree.this m) p is = absurd cc
  within_read (tree.class_literal m t) p is = absurd cc
  within_read (tree.call m to v args) p is = absurd cc
  within_read (tree.super_call m v args) p is = absurd cc
  within_read (tree.create m t args) p is = absurd cc
  within_read (tree.cast m t e) p is = absurd cc
  within_read (tree.unary m op e) p is = absurd cc
  within_read (tree.bump m op e) p is = absurd cc
  within_read (tree.binary m op x y) p is = absurd cc
  within_read (tree.compound m op x y) p is = absurd cc

  pub within_smaller : (e p : tree.Exp A) → within e ≡ Some p → exp_size p < exp_size e
  unfolding exp_size
  within_smaller (tree.paren m e) p is = let s = ap exp_size (inside e p is) in omega (arith, s)
  within_smaller (tree.assign m e f) p is = let s = ap exp_size (inside e p is) in omega (arith, s)
  within_smaller (tree.name m v) p is = absurd cc
  within_smaller (tree.number m n) p is = absurd cc
  within_smaller (tree.truth m b) p is = absurd cc
  within_smaller (tree.null m) p is = absurd cc
  within_smaller (tree.string m t) p is = absurd cc
  within_smaller (tree.field m e w) p is = absurd cc
  within_smaller (tree.super_field m v) p is = absurd cc
  within_smaller (tree.this m) p is = absurd cc
  within_smaller (tree.class_literal m t) p is = absurd cc
  within_smaller (tree.call m to v args) p is = absurd cc
  within_smaller (tree.super_call m v args) p is = absurd cc
  within_smaller (tree.create m t args) p is = absurd cc
  within_smaller (tree.cast m t e) p is = absurd cc
  within_smaller (tree.unary m op e) p is = absurd cc
  within_smaller (tree.bump m op e) p is = absurd cc
  within_smaller (tree.binary m op x y) p is = absurd cc
  within_smaller (tree.compound m op x y) p is = absurd cc

  pub last_read : (e : tree.Exp A) → within e ≡ None → simple_name e ≡ read_name e
  last_read (tree.paren m e) is = absurd cc
  last_read (tree.assign m e f) is = absurd cc
  last_read (tree.name m v) is = refl
  last_read (tree.number m n) is = refl
  last_read (tree.truth m b) is = refl
  last_read (tree.null m) is = refl
  last_read (tree.string m t) is = refl
  last_read (tree.field m e w) is = refl
  last_read (tree.super_field m v) is = refl
  last_read (tree.this m) is = refl
  last_read (tree.class_literal m t) is = refl
  last_read (tree.call m to v args) is = refl
  last_read (tree.super_call m v args) is = refl
  last_read (tree.create m t args) is = refl
  last_read (tree.cast m t e) is = refl
  last_read (tree.unary m op e) is = refl
  last_read (tree.bump m op e) is = refl
  last_read (tree.binary m op x y) is = refl
  last_read (tree.compound m op x y) is = refl

-- ---- arguments, one by one

module _ {A : Type 0} (g : GoneLocal) (c : Context) (done : List Ty) (parts : List (Expr A)) (olds : List Ty) (whole : List Ty) (so_far : done ++ types_where (Some g) c (exprs_of parts) olds ≡ whole) where
  pub no_types : olds ≡ [] → done ≡ whole
  no_types is = sym (append-nil done) ∙ ap (λ us. done ++ us) (sym (without parts)) ∙ ap (λ ts. done ++ types_where (Some g) c (exprs_of parts) ts) (sym is) ∙ so_far
    where
      without : (xs : List (Expr A)) → types_where (Some g) c (exprs_of xs) [] ≡ []
      without [] = refl
      without (x ∷ xs) = refl

  pub no_parts : parts ≡ [] → done ≡ whole
  no_parts is = sym (append-nil done) ∙ ap (λ xs. done ++ types_where (Some g) c (exprs_of xs) olds) (sym is) ∙ so_far

  pub one_more : (x : Expr A) (xs : List (Expr A)) (t : Ty) (ts more : List Ty) → parts ≡ x ∷ xs → olds ≡ t ∷ ts → more ≡ done ++ type_where (Some g) c (expr_of x) t ∷ []
      → more ++ types_where (Some g) c (exprs_of xs) ts ≡ whole
  one_more x xs t ts more parts_are olds_are put =
      ap (λ us. us ++ types_where (Some g) c (exprs_of xs) ts) put ∙ append_assoc done (type_where (Some g) c (expr_of x) t ∷ []) (types_where (Some g) c (exprs_of xs) ts)
      ∙ (λ i. done ++ types_where (Some g) c (exprs_of (sym parts_are i)) (sym olds_are i)) ∙ so_far
