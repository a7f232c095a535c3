-- Expressions as spots have what their trees have. Each lemma is by cases on the kind.
use Rattle.std.proofs.Common.{◌≡◌, ℕ, ◌<◌, Bool, false, List, [], ◌∷◌, ◌++◌, refl, sym, ap, subst, arith}
use Rattle.jr_text.specs.declared.spans.Span.{Span}
use Rattle.jr_ast.specs.Tree as tree
use Rattle.jr_ast.specs.Marks.{exp_mark}
use Rattle.jr_ast.proofs.Sizes.{exp_size, exps_size, target_size}
use Rattle.jr_bind_expr.specs.Fits.{FitsExp, FitsTarget, FitsExps}
use Rattle.jr_code.specs.RunKeys.{RunKeys}
use Rattle.jr_cover.specs.Ways as way
use Rattle.jr_cover.specs.Ways.{Way}
use Rattle.jr_cover.specs.Sites as sites
use Rattle.jr_cover.specs.Sites.{Site}
use Rattle.jr_cover.specs.Spots.{spot_exp, spot_exps}
use Rattle.jr_expr_sites.specs.Aims.{Aim, named, dotted, on_super, other, aim_of}
use Rattle.jr_table.specs.Keys.{FieldKey}
use Rattle.jr_expr_sites.specs.Meanings.{field, is_class, is_static_field}
use Rattle.jr_expr_sites.specs.Steps.{steps_of}
use Rattle.jr_expr_sites.specs.StepView.{steps_in}
use Rattle.jr_expr_sites.specs.KnownFacts.{Given, Others, known_of, meaning_at}
use Rattle.jr_expr_sites.specs.Routes.{Route, Steps, begins_by, ends_by, spots}
use Rattle.jr_expr_sites.specs.Routes as route
use Rattle.jr_expr_sites.proofs.Names.{class_only, via, field_is}

module _ {A : Type 0} (tells : A → ℕ → Span) where
  -- the byte of a word in a node
  abbrev pub word_at : (base : ℕ) → A → tree.Word A → ℕ
  word_at base m w = (tells w.mark (tells m base).from).from

  abbrev pub start : (base : ℕ) → tree.Exp A → ℕ
  start base e = (tells (exp_mark e) base).from

  module _ (g : Given) (o : Others) (path : List ℕ) (base : ℕ) where
    abbrev pub class_by : A → Aim A → Bool
    class_by m (named w) = is_class (meaning_at g (word_at base m w))
    class_by m (dotted e w) = is_class (meaning_at g (word_at base m w))
    class_by m (on_super w) = false
    class_by m other = false

    pub class_spots : (e : tree.Exp A) → sites.is_class_name (known_of g o) (spots tells path base e) ≡ class_by (exp_mark e) (aim_of e)
    unfolding spot_exp spot_exps
    class_spots (tree.number m n) = refl
    class_spots (tree.truth m b) = refl
    class_spots (tree.null m) = refl
    class_spots (tree.string m s) = refl
    class_spots (tree.name m w) = class_only g.rows (meaning_at g (word_at base m w))
    class_spots (tree.field m e w) = class_only g.rows (meaning_at g (word_at base m w))
    class_spots (tree.super_field m w) = refl
    class_spots (tree.this m) = refl
    class_spots (tree.class_literal m t) = refl
    class_spots (tree.call m tree.no_target w es) = refl
    class_spots (tree.call m (tree.on e) w es) = refl
    class_spots (tree.super_call m w es) = refl
    class_spots (tree.create m t es) = refl
    class_spots (tree.paren m e) = refl
    class_spots (tree.cast m t e) = refl
    class_spots (tree.unary m op e) = refl
    class_spots (tree.bump m op e) = refl
    class_spots (tree.binary m op l r) = refl
    class_spots (tree.assign m e x) = refl
    class_spots (tree.compound m op e x) = refl

    -- of what is assigned or bumped: the operand
    abbrev pub operand_by : A → Aim A → Way (Site RunKeys)
    operand_by m (named w) = way.pass
    operand_by m (dotted e w) = route.left tells (path ++ 0 ∷ []) (tells m base).from e g o
    operand_by m (on_super w) = way.pass
    operand_by m other = way.pass

    pub operand_spots : (e : tree.Exp A) → route.target_operand tells path base e g o ≡ operand_by (exp_mark e) (aim_of e)
    unfolding spot_exp spot_exps
    operand_spots (tree.number m n) = refl
    operand_spots (tree.truth m b) = refl
    operand_spots (tree.null m) = refl
    operand_spots (tree.string m s) = refl
    operand_spots (tree.name m w) = refl
    operand_spots (tree.field m e w) = refl
    operand_spots (tree.super_field m w) = refl
    operand_spots (tree.this m) = refl
    operand_spots (tree.class_literal m t) = refl
    operand_spots (tree.call m tree.no_target w es) = refl
    operand_spots (tree.call m (tree.on e) w es) = refl
    operand_spots (tree.super_call m w es) = refl
    operand_spots (tree.create m t es) = refl
    operand_spots (tree.paren m e) = refl
    operand_spots (tree.cast m t e) = refl
    operand_spots (tree.unary m op e) = refl
    operand_spots (tree.bump m op e) = refl
    operand_spots (tree.binary m op l r) = refl
    operand_spots (tree.assign m e x) = refl
    operand_spots (tree.compound m op e x) = refl

    -- the test and the load
    abbrev pub load_by : A → Aim A → Way (Site RunKeys)
    load_by m (named w) = route.load (word_at base m w) g o
    load_by m (dotted e w) = route.checked_load tells (path ++ 0 ∷ []) (tells m base).from e (word_at base m w) g o
    load_by m (on_super w) = route.field_load (word_at base m w) g o
    load_by m other = way.pass

    pub load_spots : (e : tree.Exp A) → route.target_load tells path base e g o ≡ load_by (exp_mark e) (aim_of e)
    unfolding spot_exp spot_exps
    load_spots (tree.number m n) = refl
    load_spots (tree.truth m b) = refl
    load_spots (tree.null m) = refl
    load_spots (tree.string m s) = refl
    load_spots (tree.name m w) = refl
    load_spots (tree.field m e w) = refl
    load_spots (tree.super_field m w) = refl
    load_spots (tree.this m) = refl
    load_spots (tree.class_literal m t) = refl
    load_spots (tree.call m tree.no_target w es) = refl
    load_spots (tree.call m (tree.on e) w es) = refl
    load_spots (tree.super_call m w es) = refl
    load_spots (tree.create m t es) = refl
    load_spots (tree.paren m e) = refl
    load_spots (tree.cast m t e) = refl
    load_spots (tree.unary m op e) = refl
    load_spots (tree.bump m op e) = refl
    load_spots (tree.binary m op l r) = refl
    load_spots (tree.assign m e x) = refl
    load_spots (tree.compound m op e x) = refl

    -- the test alone
    abbrev pub check_by : A → Aim A → Way (Site RunKeys)
    check_by m (named w) = way.pass
    check_by m (dotted e w) = route.field_check tells (path ++ 0 ∷ []) (tells m base).from e (word_at base m w) g o
    check_by m (on_super w) = way.pass
    check_by m other = way.pass

    pub check_spots : (e : tree.Exp A) → route.target_check tells path base e g o ≡ check_by (exp_mark e) (aim_of e)
    unfolding spot_exp spot_exps
    check_spots (tree.number m n) = refl
    check_spots (tree.truth m b) = refl
    check_spots (tree.null m) = refl
    check_spots (tree.string m s) = refl
    check_spots (tree.name m w) = refl
    check_spots (tree.field m e w) = refl
    check_spots (tree.super_field m w) = refl
    check_spots (tree.this m) = refl
    check_spots (tree.class_literal m t) = refl
    check_spots (tree.call m tree.no_target w es) = refl
    check_spots (tree.call m (tree.on e) w es) = refl
    check_spots (tree.super_call m w es) = refl
    check_spots (tree.create m t es) = refl
    check_spots (tree.paren m e) = refl
    check_spots (tree.cast m t e) = refl
    check_spots (tree.unary m op e) = refl
    check_spots (tree.bump m op e) = refl
    check_spots (tree.binary m op l r) = refl
    check_spots (tree.assign m e x) = refl
    check_spots (tree.compound m op e x) = refl

    -- the store
    abbrev pub store_by : A → Aim A → Way (Site RunKeys)
    store_by m (named w) = route.store (word_at base m w) g o
    store_by m (dotted e w) = route.field_store (word_at base m w) g o
    store_by m (on_super w) = route.field_store (word_at base m w) g o
    store_by m other = way.pass

    pub store_spots : (e : tree.Exp A) → route.target_store tells path base e g o ≡ store_by (exp_mark e) (aim_of e)
    unfolding spot_exp spot_exps
    store_spots (tree.number m n) = refl
    store_spots (tree.truth m b) = refl
    store_spots (tree.null m) = refl
    store_spots (tree.string m s) = refl
    store_spots (tree.name m w) = refl
    store_spots (tree.field m e w) = refl
    store_spots (tree.super_field m w) = refl
    store_spots (tree.this m) = refl
    store_spots (tree.class_literal m t) = refl
    store_spots (tree.call m tree.no_target w es) = refl
    store_spots (tree.call m (tree.on e) w es) = refl
    store_spots (tree.super_call m w es) = refl
    store_spots (tree.create m t es) = refl
    store_spots (tree.paren m e) = refl
    store_spots (tree.cast m t e) = refl
    store_spots (tree.unary m op e) = refl
    store_spots (tree.bump m op e) = refl
    store_spots (tree.binary m op l r) = refl
    store_spots (tree.assign m e x) = refl
    store_spots (tree.compound m op e x) = refl

    pub first_spots : (e : tree.Exp A) → (sites.mark_of (spots tells path base e)).first ≡ start base e
    unfolding spot_exp spot_exps
    first_spots (tree.number m n) = refl
    first_spots (tree.truth m b) = refl
    first_spots (tree.null m) = refl
    first_spots (tree.string m s) = refl
    first_spots (tree.name m w) = refl
    first_spots (tree.field m e w) = refl
    first_spots (tree.super_field m w) = refl
    first_spots (tree.this m) = refl
    first_spots (tree.class_literal m t) = refl
    first_spots (tree.call m tree.no_target w es) = refl
    first_spots (tree.call m (tree.on e) w es) = refl
    first_spots (tree.super_call m w es) = refl
    first_spots (tree.create m t es) = refl
    first_spots (tree.paren m e) = refl
    first_spots (tree.cast m t e) = refl
    first_spots (tree.unary m op e) = refl
    first_spots (tree.bump m op e) = refl
    first_spots (tree.binary m op l r) = refl
    first_spots (tree.assign m e x) = refl
    first_spots (tree.compound m op e x) = refl

    pub nonzero_spots : (e : tree.Exp A) → sites.is_nonzero (spots tells path base e) ≡ sites.is_nonzero e
    unfolding spot_exp spot_exps
    nonzero_spots (tree.number m n) = refl
    nonzero_spots (tree.truth m b) = refl
    nonzero_spots (tree.null m) = refl
    nonzero_spots (tree.string m s) = refl
    nonzero_spots (tree.name m w) = refl
    nonzero_spots (tree.field m e w) = refl
    nonzero_spots (tree.super_field m w) = refl
    nonzero_spots (tree.this m) = refl
    nonzero_spots (tree.class_literal m t) = refl
    nonzero_spots (tree.call m tree.no_target w es) = refl
    nonzero_spots (tree.call m (tree.on e) w es) = refl
    nonzero_spots (tree.super_call m w es) = refl
    nonzero_spots (tree.create m t es) = refl
    nonzero_spots (tree.paren m e) = refl
    nonzero_spots (tree.cast m t e) = refl
    nonzero_spots (tree.unary m op e) = refl
    nonzero_spots (tree.bump m op e) = refl
    nonzero_spots (tree.binary m op l r) = refl
    nonzero_spots (tree.assign m e x) = refl
    nonzero_spots (tree.compound m op e x) = refl

abbrev IsDotted : {A : Type 0} → Aim A → Type 0
IsDotted (named w) = ⊥
IsDotted (dotted e w) = Unit {0}
IsDotted (on_super w) = ⊥
IsDotted other = ⊥

apart : {A : Type 0} {R : Type 0} (a : Aim A) (x : tree.Exp A) (w : tree.Word A) → (IsDotted a → ⊥) → a ≡ dotted x w → R
apart a x w none is = absurd (none (subst (λ (b : Aim _). IsDotted b) (sym is) tt))

abbrev part : {A : Type 0} → tree.Exp A → Aim A → tree.Exp A
part e (named w) = e
part e (dotted x w) = x
part e (on_super w) = e
part e other = e

abbrev word : {A : Type 0} → tree.Word A → Aim A → tree.Word A
word v (named w) = w
word v (dotted x w) = w
word v (on_super w) = w
word v other = v

-- the operand of a target is less than it, and fits
pub aim_falls : {A : Type 0} (e : tree.Exp A) (x : tree.Exp A) (w : tree.Word A) → aim_of e ≡ dotted x w → exp_size x < exp_size e
unfolding exp_size exps_size target_size
aim_falls (tree.number m n) x u is = apart (aim_of (tree.number m n)) x u (λ z. z) is
aim_falls (tree.truth m b) x u is = apart (aim_of (tree.truth m b)) x u (λ z. z) is
aim_falls (tree.null m) x u is = apart (aim_of (tree.null m)) x u (λ z. z) is
aim_falls (tree.string m s) x u is = apart (aim_of (tree.string m s)) x u (λ z. z) is
aim_falls (tree.name m w) x u is = apart (aim_of (tree.name m w)) x u (λ z. z) is
aim_falls (tree.field m e v) x w is = let same = ap (λ (a : Aim _). part e a) is in let size = ap exp_size same in omega (arith, size)
aim_falls (tree.super_field m w) x u is = apart (aim_of (tree.super_field m w)) x u (λ z. z) is
aim_falls (tree.this m) x u is = apart (aim_of (tree.this m)) x u (λ z. z) is
aim_falls (tree.class_literal m t) x u is = apart (aim_of (tree.class_literal m t)) x u (λ z. z) is
aim_falls (tree.call m tree.no_target w es) x u is = apart (aim_of (tree.call m tree.no_target w es)) x u (λ z. z) is
aim_falls (tree.call m (tree.on e) w es) x u is = apart (aim_of (tree.call m (tree.on e) w es)) x u (λ z. z) is
aim_falls (tree.super_call m w es) x u is = apart (aim_of (tree.super_call m w es)) x u (λ z. z) is
aim_falls (tree.create m t es) x u is = apart (aim_of (tree.create m t es)) x u (λ z. z) is
aim_falls (tree.paren m e) x u is = apart (aim_of (tree.paren m e)) x u (λ z. z) is
aim_falls (tree.cast m t e) x u is = apart (aim_of (tree.cast m t e)) x u (λ z. z) is
aim_falls (tree.unary m op e) x u is = apart (aim_of (tree.unary m op e)) x u (λ z. z) is
aim_falls (tree.bump m op e) x u is = apart (aim_of (tree.bump m op e)) x u (λ z. z) is
aim_falls (tree.binary m op l r) x u is = apart (aim_of (tree.binary m op l r)) x u (λ z. z) is
aim_falls (tree.assign m t e) x u is = apart (aim_of (tree.assign m t e)) x u (λ z. z) is
aim_falls (tree.compound m op t e) x u is = apart (aim_of (tree.compound m op t e)) x u (λ z. z) is

pub aim_fits : {A : Type 0} (tells : A → ℕ → Span) (F : A → ℕ → Type 0) (base : ℕ) (e x : tree.Exp A) (w : tree.Word A) → aim_of e ≡ dotted x w → FitsExp (begins_by tells) F base e → FitsExp (begins_by tells) F (tells (exp_mark e) base).from x × F w.mark (tells (exp_mark e) base).from
unfolding FitsExp FitsTarget FitsExps
aim_fits tells F base (tree.number m n) x u is h = apart (aim_of (tree.number m n)) x u (λ z. z) is
aim_fits tells F base (tree.truth m b) x u is h = apart (aim_of (tree.truth m b)) x u (λ z. z) is
aim_fits tells F base (tree.null m) x u is h = apart (aim_of (tree.null m)) x u (λ z. z) is
aim_fits tells F base (tree.string m s) x u is h = apart (aim_of (tree.string m s)) x u (λ z. z) is
aim_fits tells F base (tree.name m w) x u is h = apart (aim_of (tree.name m w)) x u (λ z. z) is
aim_fits tells F base (tree.field m e v) x w is h = (subst (λ (z : tree.Exp _). FitsExp (begins_by tells) F (tells m base).from z) (ap (λ (a : Aim _). part e a) is) h.1, subst (λ (u : tree.Word _). F u.mark (tells m base).from) (ap (λ (a : Aim _). word v a) is) h.2)
aim_fits tells F base (tree.super_field m w) x u is h = apart (aim_of (tree.super_field m w)) x u (λ z. z) is
aim_fits tells F base (tree.this m) x u is h = apart (aim_of (tree.this m)) x u (λ z. z) is
aim_fits tells F base (tree.class_literal m t) x u is h = apart (aim_of (tree.class_literal m t)) x u (λ z. z) is
aim_fits tells F base (tree.call m tree.no_target w es) x u is h = apart (aim_of (tree.call m tree.no_target w es)) x u (λ z. z) is
aim_fits tells F base (tree.call m (tree.on e) w es) x u is h = apart (aim_of (tree.call m (tree.on e) w es)) x u (λ z. z) is
aim_fits tells F base (tree.super_call m w es) x u is h = apart (aim_of (tree.super_call m w es)) x u (λ z. z) is
aim_fits tells F base (tree.create m t es) x u is h = apart (aim_of (tree.create m t es)) x u (λ z. z) is
aim_fits tells F base (tree.paren m e) x u is h = apart (aim_of (tree.paren m e)) x u (λ z. z) is
aim_fits tells F base (tree.cast m t e) x u is h = apart (aim_of (tree.cast m t e)) x u (λ z. z) is
aim_fits tells F base (tree.unary m op e) x u is h = apart (aim_of (tree.unary m op e)) x u (λ z. z) is
aim_fits tells F base (tree.bump m op e) x u is h = apart (aim_of (tree.bump m op e)) x u (λ z. z) is
aim_fits tells F base (tree.binary m op l r) x u is h = apart (aim_of (tree.binary m op l r)) x u (λ z. z) is
aim_fits tells F base (tree.assign m t e) x u is h = apart (aim_of (tree.assign m t e)) x u (λ z. z) is
aim_fits tells F base (tree.compound m op t e) x u is h = apart (aim_of (tree.compound m op t e)) x u (λ z. z) is

-- the word of an aim
abbrev any_word : {A : Type 0} → tree.Word A → Aim A → tree.Word A
any_word v (named w) = w
any_word v (dotted x w) = w
any_word v (on_super w) = w
any_word v other = v

abbrev IsNamed : {A : Type 0} → Aim A → Type 0
IsNamed (named w) = Unit {0}
IsNamed (dotted e w) = ⊥
IsNamed (on_super w) = ⊥
IsNamed other = ⊥

abbrev IsSuper : {A : Type 0} → Aim A → Type 0
IsSuper (named w) = ⊥
IsSuper (dotted e w) = ⊥
IsSuper (on_super w) = Unit {0}
IsSuper other = ⊥

name_fits : {A : Type 0} (tells : A → ℕ → Span) (F : A → ℕ → Type 0) (base : ℕ) (e : tree.Exp A) (w : tree.Word A) → aim_of e ≡ named w → FitsExp (begins_by tells) F base e → F w.mark (tells (exp_mark e) base).from
unfolding FitsExp FitsTarget FitsExps
name_fits tells F base (tree.number m n) w is h = absurd (subst (λ (b : Aim _). IsNamed b) (sym is) tt)
name_fits tells F base (tree.truth m b) w is h = absurd (subst (λ (b : Aim _). IsNamed b) (sym is) tt)
name_fits tells F base (tree.null m) w is h = absurd (subst (λ (b : Aim _). IsNamed b) (sym is) tt)
name_fits tells F base (tree.string m s) w is h = absurd (subst (λ (b : Aim _). IsNamed b) (sym is) tt)
name_fits tells F base (tree.name m v) w is h = subst (λ (u : tree.Word _). F u.mark (tells m base).from) (ap (λ (a : Aim _). any_word v a) is) h.1
name_fits tells F base (tree.field m e v) w is h = absurd (subst (λ (b : Aim _). IsNamed b) (sym is) tt)
name_fits tells F base (tree.super_field m v) w is h = absurd (subst (λ (b : Aim _). IsNamed b) (sym is) tt)
name_fits tells F base (tree.this m) w is h = absurd (subst (λ (b : Aim _). IsNamed b) (sym is) tt)
name_fits tells F base (tree.class_literal m t) w is h = absurd (subst (λ (b : Aim _). IsNamed b) (sym is) tt)
name_fits tells F base (tree.call m to v es) w is h = absurd (subst (λ (b : Aim _). IsNamed b) (sym is) tt)
name_fits tells F base (tree.super_call m v es) w is h = absurd (subst (λ (b : Aim _). IsNamed b) (sym is) tt)
name_fits tells F base (tree.create m t es) w is h = absurd (subst (λ (b : Aim _). IsNamed b) (sym is) tt)
name_fits tells F base (tree.paren m e) w is h = absurd (subst (λ (b : Aim _). IsNamed b) (sym is) tt)
name_fits tells F base (tree.cast m t e) w is h = absurd (subst (λ (b : Aim _). IsNamed b) (sym is) tt)
name_fits tells F base (tree.unary m op e) w is h = absurd (subst (λ (b : Aim _). IsNamed b) (sym is) tt)
name_fits tells F base (tree.bump m op e) w is h = absurd (subst (λ (b : Aim _). IsNamed b) (sym is) tt)
name_fits tells F base (tree.binary m op l r) w is h = absurd (subst (λ (b : Aim _). IsNamed b) (sym is) tt)
name_fits tells F base (tree.assign m e x) w is h = absurd (subst (λ (b : Aim _). IsNamed b) (sym is) tt)
name_fits tells F base (tree.compound m op e x) w is h = absurd (subst (λ (b : Aim _). IsNamed b) (sym is) tt)

behind_super_fits : {A : Type 0} (tells : A → ℕ → Span) (F : A → ℕ → Type 0) (base : ℕ) (e : tree.Exp A) (w : tree.Word A) → aim_of e ≡ on_super w → FitsExp (begins_by tells) F base e → F w.mark (tells (exp_mark e) base).from
unfolding FitsExp FitsTarget FitsExps
behind_super_fits tells F base (tree.number m n) w is h = absurd (subst (λ (b : Aim _). IsSuper b) (sym is) tt)
behind_super_fits tells F base (tree.truth m b) w is h = absurd (subst (λ (b : Aim _). IsSuper b) (sym is) tt)
behind_super_fits tells F base (tree.null m) w is h = absurd (subst (λ (b : Aim _). IsSuper b) (sym is) tt)
behind_super_fits tells F base (tree.string m s) w is h = absurd (subst (λ (b : Aim _). IsSuper b) (sym is) tt)
behind_super_fits tells F base (tree.name m v) w is h = absurd (subst (λ (b : Aim _). IsSuper b) (sym is) tt)
behind_super_fits tells F base (tree.field m e v) w is h = absurd (subst (λ (b : Aim _). IsSuper b) (sym is) tt)
behind_super_fits tells F base (tree.super_field m v) w is h = subst (λ (u : tree.Word _). F u.mark (tells m base).from) (ap (λ (a : Aim _). any_word v a) is) h.1
behind_super_fits tells F base (tree.this m) w is h = absurd (subst (λ (b : Aim _). IsSuper b) (sym is) tt)
behind_super_fits tells F base (tree.class_literal m t) w is h = absurd (subst (λ (b : Aim _). IsSuper b) (sym is) tt)
behind_super_fits tells F base (tree.call m to v es) w is h = absurd (subst (λ (b : Aim _). IsSuper b) (sym is) tt)
behind_super_fits tells F base (tree.super_call m v es) w is h = absurd (subst (λ (b : Aim _). IsSuper b) (sym is) tt)
behind_super_fits tells F base (tree.create m t es) w is h = absurd (subst (λ (b : Aim _). IsSuper b) (sym is) tt)
behind_super_fits tells F base (tree.paren m e) w is h = absurd (subst (λ (b : Aim _). IsSuper b) (sym is) tt)
behind_super_fits tells F base (tree.cast m t e) w is h = absurd (subst (λ (b : Aim _). IsSuper b) (sym is) tt)
behind_super_fits tells F base (tree.unary m op e) w is h = absurd (subst (λ (b : Aim _). IsSuper b) (sym is) tt)
behind_super_fits tells F base (tree.bump m op e) w is h = absurd (subst (λ (b : Aim _). IsSuper b) (sym is) tt)
behind_super_fits tells F base (tree.binary m op l r) w is h = absurd (subst (λ (b : Aim _). IsSuper b) (sym is) tt)
behind_super_fits tells F base (tree.assign m e x) w is h = absurd (subst (λ (b : Aim _). IsSuper b) (sym is) tt)
behind_super_fits tells F base (tree.compound m op e x) w is h = absurd (subst (λ (b : Aim _). IsSuper b) (sym is) tt)

module _ {A : Type 0} (tells : A → ℕ → Span) (F : A → ℕ → Type 0) (base : ℕ) (e : tree.Exp A) (at : ℕ) (begun : at ≡ (tells (exp_mark e) base).from) where
  pub named_fits : (w : tree.Word A) → aim_of e ≡ named w → FitsExp (begins_by tells) F base e → F w.mark at
  named_fits w is h = subst (λ k. F w.mark k) (sym begun) (name_fits tells F base e w is h)

  pub super_word_fits : (w : tree.Word A) → aim_of e ≡ on_super w → FitsExp (begins_by tells) F base e → F w.mark at
  super_word_fits w is h = subst (λ k. F w.mark k) (sym begun) (behind_super_fits tells F base e w is h)

  pub dotted_word_fits : (x : tree.Exp A) (w : tree.Word A) → aim_of e ≡ dotted x w → FitsExp (begins_by tells) F base e → F w.mark at
  dotted_word_fits x w is h = subst (λ k. F w.mark k) (sym begun) ((aim_fits tells F base e x w is h).1)

  pub dotted_part_fits : (x : tree.Exp A) (w : tree.Word A) → aim_of e ≡ dotted x w → FitsExp (begins_by tells) F base e → FitsExp (begins_by tells) F at x
  dotted_part_fits x w is h = subst (λ k. FitsExp (begins_by tells) F k x) (sym begun) ((aim_fits tells F base e x w is h).0)

-- a test where a field is meant
pub checked_via : {A : Type 0} (tells : A → ℕ → Span) (g : Given) (o : Others) (path : List ℕ) (base : ℕ) (e : tree.Exp A) (word : ℕ) (k : FieldKey) → meaning_at g word ≡ field k → (old new : Steps)
    → steps_in g.member new ≡ steps_in g.member old ++ steps_of (route.null_check tells path base e word g o) → steps_in g.member new ≡ steps_in g.member old ++ steps_of (route.field_check tells path base e word g o)
checked_via tells g o path base e word k is old new h =
    let w = route.null_check tells path base e word g o in
    via g word (sites.field_check w) (field k) w old new is (field_is (sites.field_check w) w (is_static_field g.rows k) k refl refl) h
