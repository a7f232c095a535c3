-- A test of rows: it is true exactly where the two are equal.
use Rattle.std.specs.Prelude.{◌≡◌, Bool, true, false, ◌&&◌, Option, Some, None, Decides, refl}
use Rattle.std.proofs.Common.{ap}
use Rattle.std.specs.Cmp.{IsEquivalence}
use Rattle.std.specs.Cmp.Lexicographic.{pointwise, pointwise_decides}
use Rattle.std.specs.Option.{option_eq}
use Rattle.std.proofs.lemmas.Bool.Decides.{Decides-and, Decides-like}
use Rattle.jr_ast.specs.declared.operators.ModWord.{ModWord}
use Rattle.jr_ast.specs.declared.operators.ModWord.TheVariants.{Public, Protected, Private, Static}
use Rattle.jr_ast.specs.declared.operators.ModWord.TheVariants.{Final, Volatile, Synchronized}
use Rattle.jr_table.specs.Rows.{Row}
use Rattle.jr_table.specs.SameKeys.{equiv_of, same_class, same_ty, class_decides, ty_decides}
use Rattle.jr_table.specs.SameDecls.{same_decl, decl_decides}

abbrev pub same_word : ModWord → ModWord → Bool
same_word Public Public = true
same_word Protected Protected = true
same_word Private Private = true
same_word Static Static = true
same_word Final Final = true
same_word Volatile Volatile = true
same_word Synchronized Synchronized = true
same_word _ _ = false

abbrev pub same_bool : Bool → Bool → Bool
same_bool true true = true
same_bool false false = true
same_bool _ _ = false

abbrev pub same_row : Row → Row → Bool
same_row r s = same_decl r.decl s.decl && pointwise same_word r.modifiers s.modifiers
    && option_eq same_ty r.type s.type && option_eq same_class r.parent s.parent
    && same_bool r.has_init s.has_init

pub word_decides : (x y : ModWord) → Decides (same_word x y) (x ≡ y)
word_decides Public Public = (λ e. refl, λ e. refl)
word_decides Protected Protected = (λ e. refl, λ e. refl)
word_decides Private Private = (λ e. refl, λ e. refl)
word_decides Static Static = (λ e. refl, λ e. refl)
word_decides Final Final = (λ e. refl, λ e. refl)
word_decides Volatile Volatile = (λ e. refl, λ e. refl)
word_decides Synchronized Synchronized = (λ e. refl, λ e. refl)
word_decides _ _ = (λ e. absurd cc, λ e. absurd cc)

pub bool_decides : (x y : Bool) → Decides (same_bool x y) (x ≡ y)
bool_decides true true = (λ e. refl, λ e. refl)
bool_decides false false = (λ e. refl, λ e. refl)
bool_decides _ _ = (λ e. absurd cc, λ e. absurd cc)

pub maybe_decides : {K : Type 0} (E : K → K → Bool) → ((x y : K) → Decides (E x y) (x ≡ y))
    → (x y : Option K) → Decides (option_eq E x y) (x ≡ y)
maybe_decides E d None None = (λ e. refl, λ e. refl)
maybe_decides E d None (Some y) = (λ e. absurd cc, λ e. absurd cc)
maybe_decides E d (Some x) None = (λ e. absurd cc, λ e. absurd cc)
maybe_decides E d (Some x) (Some y) =
    (λ e. ap Some ((d x y).0 e), λ e. (d x y).1 cc)

-- tests of the parts make a test of the rows
pub parts_decide : (a b c d e : Bool) (r s : Row) → Decides a (r.decl ≡ s.decl)
    → Decides b (r.modifiers ≡ s.modifiers) → Decides c (r.type ≡ s.type)
    → Decides d (r.parent ≡ s.parent) → Decides e (r.has_init ≡ s.has_init)
    → Decides (a && b && c && d && e) (r ≡ s)
parts_decide a b c d e r s f g h k l = Decides-like (a && b && c && d && e)
    (λ p. λ i. record {
      decl = p.0.0.0.0 i;
      modifiers = p.0.0.0.1 i;
      type = p.0.0.1 i;
      parent = p.0.1 i;
      has_init = p.1 i;
    })
    (λ q. (
      (
        (
          (ap (λ (t : Row). t.decl) q, ap (λ (t : Row). t.modifiers) q),
          ap (λ (t : Row). t.type) q,
        ),
        ap (λ (t : Row). t.parent) q,
      ),
      ap (λ (t : Row). t.has_init) q,
    ))
    (Decides-and (a && b && c && d) e
    (Decides-and (a && b && c) d (Decides-and (a && b) c (Decides-and a b f g) h) k) l)

pub row_decides : (r s : Row) → Decides (same_row r s) (r ≡ s)
row_decides r s = parts_decide (same_decl r.decl s.decl)
    (pointwise same_word r.modifiers s.modifiers) (option_eq same_ty r.type s.type)
    (option_eq same_class r.parent s.parent) (same_bool r.has_init s.has_init) r s
    (decl_decides r.decl s.decl) (pointwise_decides word_decides r.modifiers s.modifiers)
    (maybe_decides same_ty ty_decides r.type s.type)
    (maybe_decides same_class class_decides r.parent s.parent)
    (bool_decides r.has_init s.has_init)

pub same_row_equiv : IsEquivalence same_row
same_row_equiv = equiv_of same_row row_decides
