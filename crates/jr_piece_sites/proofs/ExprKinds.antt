-- What an expression is to its parts, on its spots. Each lemma is by cases on the kind.
use Rattle.std.proofs.Common.{◌≡◌, ℕ, pred, ◌+◌, Bool, List, [], ◌∷◌, ◌++◌, refl, arith}
use Rattle.jr_text.specs.declared.spans.Span.{Span}
use Rattle.jr_ast.specs.Tree as tree
use Rattle.jr_ast.specs.Marks.{exp_mark}
use Rattle.jr_bind_expr.specs.Fits.{FitsExp, FitsTarget, FitsExps}
use Rattle.jr_cover.specs.Spots.{spot_exp, spot_exps}
use Rattle.jr_cover.specs.Ways.{size}
use Rattle.jr_expr_sites.specs.KnownFacts.{Given, Others, known_of}
use Rattle.jr_expr_sites.specs.Routes as route
use Rattle.jr_expr_sites.specs.Routes.{begins_by, ends_by, spots}
use Rattle.jr_piece_sites.specs.Fronts.{one_if, behind_first, in_front_of_second, exps_front, exp_front}
use Rattle.jr_piece_sites.specs.Parts.{changed, Parts, leaf, named, dotted, one, two, row, parts_of}

zero_plus : (n : ℕ) → 0 + n ≡ n
zero_plus n = omega arith

module _ {A : Type 0} (tells : A → ℕ → Span) where
  abbrev B : A → ℕ → ℕ
  B = begins_by tells

  abbrev E : A → ℕ → ℕ
  E = ends_by tells

  -- ---- what fits; at: where the parts begin

  module _ (F : A → ℕ → Type 0) where
    abbrev pub FitsParts : (at : ℕ) → Parts A → Type 0
    FitsParts at leaf = Unit {0}
    FitsParts at named = Unit {0}
    FitsParts at (dotted e) = Unit {0}
    FitsParts at (one k e) = Unit {0}
    FitsParts at (two b l r) = FitsExp B F at l
    FitsParts at (row c to es) = FitsTarget B F at to × FitsExps B F at es

    pub parts_fit : (base : ℕ) (e : tree.Exp A) → FitsExp B F base e → FitsParts (B (exp_mark e) base) (parts_of e)
    unfolding FitsExp FitsTarget FitsExps
    parts_fit base (tree.number m n) f = tt
    parts_fit base (tree.truth m b) f = tt
    parts_fit base (tree.null m) f = tt
    parts_fit base (tree.string m s) f = tt
    parts_fit base (tree.name m w) f = tt
    parts_fit base (tree.field m e w) f = tt
    parts_fit base (tree.super_field m w) f = tt
    parts_fit base (tree.this m) f = tt
    parts_fit base (tree.class_literal m t) f = tt
    parts_fit base (tree.call m t w es) f = (f.1, f.3)
    parts_fit base (tree.super_call m w es) f = (tt, f.2)
    parts_fit base (tree.create m t es) f = (tt, f.2)
    parts_fit base (tree.paren m e) f = tt
    parts_fit base (tree.cast m t e) f = tt
    parts_fit base (tree.unary m op e) f = tt
    parts_fit base (tree.bump m op e) f = tt
    parts_fit base (tree.binary m op l r) f = f.1
    parts_fit base (tree.assign m l r) f = f.1
    parts_fit base (tree.compound m op l r) f = f.1

  -- ---- sites; at: where the node begins

  module _ (g : Given) (o : Others) (path : List ℕ) (base : ℕ) where
    -- of what is changed; n: of its evaluation for its value
    abbrev pub read_by : (n : ℕ) → Parts A → ℕ
    read_by n leaf = 0
    read_by n named = n
    read_by n (dotted e) = n
    read_by n (one k e) = 0
    read_by n (two b l r) = 0
    read_by n (row c t es) = 0

    pub read_spots : (e : tree.Exp A) → in_front_of_second (known_of g o) changed (spots tells path base e) ≡ read_by (size (route.exp tells path base e g o)) (parts_of e)
    unfolding spot_exp spot_exps
    read_spots (tree.number m n) = refl
    read_spots (tree.truth m b) = refl
    read_spots (tree.null m) = refl
    read_spots (tree.string m s) = refl
    read_spots (tree.name m w) = zero_plus (size (route.exp tells path base (tree.name m w) g o))
    read_spots (tree.field m e w) = refl
    read_spots (tree.super_field m w) = zero_plus (size (route.exp tells path base (tree.super_field m w) g o))
    read_spots (tree.this m) = refl
    read_spots (tree.class_literal m t) = refl
    read_spots (tree.call m tree.no_target w es) = refl
    read_spots (tree.call m (tree.on e) w es) = refl
    read_spots (tree.super_call m w es) = refl
    read_spots (tree.create m t es) = refl
    read_spots (tree.paren m e) = refl
    read_spots (tree.cast m t e) = refl
    read_spots (tree.unary m op e) = refl
    read_spots (tree.bump m op e) = refl
    read_spots (tree.binary m op l r) = refl
    read_spots (tree.assign m l r) = refl
    read_spots (tree.compound m op l r) = refl

    -- in front of the part i
    abbrev pub row_by : (at i : ℕ) → Bool → tree.Target A → tree.Exps A → ℕ
    row_by at i c tree.no_target es = one_if c + exps_front (known_of g o) (spot_exps B E es at path 1) (pred i)
    row_by at i c (tree.on e) es = behind_first i (size (route.left tells (path ++ 0 ∷ []) at e g o) + (one_if c + exps_front (known_of g o) (spot_exps B E es at path 2) (pred (pred i))))

    abbrev pub front_by : (at i : ℕ) → Parts A → ℕ
    front_by at i leaf = 0
    front_by at i named = 0
    front_by at i (dotted e) = 0
    front_by at i (one k e) = 0
    front_by at i (two b l r) = behind_first i (in_front_of_second (known_of g o) b (spots tells (path ++ 0 ∷ []) at l))
    front_by at i (row c t es) = row_by at i c t es

    pub front_spots : (e : tree.Exp A) (i : ℕ) → exp_front (known_of g o) (parts_of (spots tells path base e)) i ≡ front_by (B (exp_mark e) base) i (parts_of e)
    unfolding spot_exp spot_exps
    front_spots (tree.number m n) i = refl
    front_spots (tree.truth m b) i = refl
    front_spots (tree.null m) i = refl
    front_spots (tree.string m s) i = refl
    front_spots (tree.name m w) i = refl
    front_spots (tree.field m e w) i = refl
    front_spots (tree.super_field m w) i = refl
    front_spots (tree.this m) i = refl
    front_spots (tree.class_literal m t) i = refl
    front_spots (tree.call m tree.no_target w es) i = refl
    front_spots (tree.call m (tree.on e) w es) i = refl
    front_spots (tree.super_call m w es) i = refl
    front_spots (tree.create m t es) i = refl
    front_spots (tree.paren m e) i = refl
    front_spots (tree.cast m t e) i = refl
    front_spots (tree.unary m op e) i = refl
    front_spots (tree.bump m op e) i = refl
    front_spots (tree.binary m op l r) i = refl
    front_spots (tree.assign m l r) i = refl
    front_spots (tree.compound m op l r) i = refl
