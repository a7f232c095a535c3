-- Two expressions side by side, of one shape but for their references, written types and spots:
-- something holds of each of these and of what stands in its place. jr_rewrite has the same without
-- spots (`Along`).
use Rattle.std.specs.Prelude.{◌≡◌, ◌⊎◌, ℕ, suc, []}
use Rattle.jr_ast.specs.Tree as tree
use Rattle.jr_grammar.specs.Shape.{primary_level, unsigned_level, sign_level, rank_of}
use Rattle.jr_table.specs.Context.{Context}
use Rattle.jr_table.specs.Binding.{Role, value, left}
use Rattle.jr_rewrite.specs.Rewritten.{Rewritten}
use Rattle.jr_rewrite.specs.Spots.{Asks, level, a_target, Spotted, nowhere, spotted}
use Rattle.jr_rewrite.specs.Along.{IsClassWords}

-- an expression has become what a spot makes of it, without a loss
abbrev pub SpotStands : {A : Type 0} → Spotted A → Asks → Context → Context → Role → (base : ℕ)
    → tree.Exp A → (base' : ℕ) → tree.Exp A → Type 0
SpotStands nowhere k c d r b e i y = ⊥
SpotStands {A} (spotted s) k c d r b e i y =
    (o : Rewritten (tree.Exp A)) × s.part k c r b e o × (o.losses ≡ []) × (y ≡ o.tree)

-- What stands in front of the dot: what e has become, which binds as tightly as a dot asks; or that
-- cast in parentheses, as tightly as a cast asks; or the words of a class, and e is gone.
abbrev pub DottedAlong : {B : Type 0} (Becomes : (least : ℕ) → tree.Exp B → Type 0) → tree.Exp B
    → Type 0
DottedAlong {B} Becomes y = Becomes primary_level y
    ⊎ (((k l : B) × (u : tree.TypeName B) × (x : tree.Exp B)
    × (y ≡ tree.paren k (tree.cast l u x)) × Becomes unsigned_level x) ⊎ IsClassWords y)

-- `P c c' role base x base' y`: reference x, known c, has become y, known c'. The parents begin at
-- the bases. `T`: the same of a written type. `Q`: the same of a spot, of which so much is asked.
module _ {A B : Type 0} (begins : A → ℕ → ℕ) (begins' : B → ℕ → ℕ)
    (P : Context → Context → Role → (base : ℕ) → tree.Exp A → (base' : ℕ) → tree.Exp B → Type 0)
    (T : Context → Context → (base : ℕ) → tree.TypeName A → (base' : ℕ) → tree.TypeName B → Type 0)
    (Q : Asks → Context → Context → Role → (base : ℕ) → tree.Exp A → (base' : ℕ) → tree.Exp B
    → Type 0) where
  unfoldable mutual
    pub AlongSpots : Context → Context → Role → (base base' : ℕ) → tree.Exp A → tree.Exp B → Type 0
    AlongSpots c d r b i (tree.number m n) y = (k : B) × (y ≡ tree.number k n)
    AlongSpots c d r b i (tree.truth m t) y = (k : B) × (y ≡ tree.truth k t)
    AlongSpots c d r b i (tree.null m) y = (k : B) × (y ≡ tree.null k)
    AlongSpots c d r b i (tree.string m t) y = (k : B) × (y ≡ tree.string k t)
    AlongSpots c d r b i (tree.this m) y = (k : B) × (y ≡ tree.this k)
    AlongSpots c d r b i (tree.class_literal m t) y = (k : B) × (u : tree.TypeName B)
        × (y ≡ tree.class_literal k u) × T c d (begins m b) t (begins' k i) u
    -- a simple name may become any expression, and so may a field by `super`
    AlongSpots c d r b i (tree.name m w) y = P c d r b (tree.name m w) i y
    AlongSpots c d r b i (tree.super_field m w) y = P c d r b (tree.super_field m w) i y
    -- a class in front of a dot may lose what stood in front of it
    AlongSpots c d r b i (tree.field m e w) y = ((k : B) × (x : tree.Exp B) × (v : tree.Word B)
        × (y ≡ tree.field k x v)
        × DottedAlong (λ n z. AlongSpots c d left (begins m b) (begins' k i) e z
        ⊎ Q (level n) c d left (begins m b) e (begins' k i) z) x
        × P c d r b (tree.field m e w) i (tree.field k x v))
        ⊎ ((k : B) × (v : tree.Word B) × (r ≡ left) × (y ≡ tree.name k v)
        × P c d r b (tree.field m e w) i (tree.name k v))
    AlongSpots c d r b i (tree.call m to w args) y = (k : B) × (to2 : tree.Target B)
        × (v : tree.Word B) × (es : tree.Exps B) × (y ≡ tree.call k to2 v es)
        × TargetAlong c d (begins m b) (begins' k i) to to2
        × RowAlong c d (begins m b) (begins' k i) args es
        × P c d r b (tree.call m to w args) i (tree.call k to2 v es)
    AlongSpots c d r b i (tree.super_call m w args) y = (k : B) × (v : tree.Word B)
        × (es : tree.Exps B) × (y ≡ tree.super_call k v es)
        × RowAlong c d (begins m b) (begins' k i) args es
        × P c d r b (tree.super_call m w args) i (tree.super_call k v es)
    AlongSpots c d r b i (tree.create m t args) y = (k : B) × (u : tree.TypeName B)
        × (es : tree.Exps B) × (y ≡ tree.create k u es)
        × T c d (begins m b) t (begins' k i) u × RowAlong c d (begins m b) (begins' k i) args es
        × P c d r b (tree.create m t args) i (tree.create k u es)
    AlongSpots c d r b i (tree.paren m e) y = (k : B) × (x : tree.Exp B) × (y ≡ tree.paren k x)
        × (AlongSpots c d value (begins m b) (begins' k i) e x
        ⊎ Q (level 0) c d value (begins m b) e (begins' k i) x)
    AlongSpots c d r b i (tree.cast m t e) y = (k : B) × (u : tree.TypeName B) × (x : tree.Exp B)
        × (y ≡ tree.cast k u x) × T c d (begins m b) t (begins' k i) u
        × (AlongSpots c d value (begins m b) (begins' k i) e x
        ⊎ Q (level unsigned_level) c d value (begins m b) e (begins' k i) x)
    AlongSpots c d r b i (tree.unary m op e) y = (k : B) × (x : tree.Exp B)
        × (y ≡ tree.unary k op x) × (AlongSpots c d value (begins m b) (begins' k i) e x
        ⊎ Q (level sign_level) c d value (begins m b) e (begins' k i) x)
    AlongSpots c d r b i (tree.bump m op e) y = (k : B) × (x : tree.Exp B)
        × (y ≡ tree.bump k op x) × (AlongSpots c d value (begins m b) (begins' k i) e x
        ⊎ Q a_target c d value (begins m b) e (begins' k i) x)
    AlongSpots c d r b i (tree.binary m op e f) y = (k : B) × (x z : tree.Exp B)
        × (y ≡ tree.binary k op x z) × (AlongSpots c d value (begins m b) (begins' k i) e x
        ⊎ Q (level (rank_of op)) c d value (begins m b) e (begins' k i) x)
        × (AlongSpots c d value (begins m b) (begins' k i) f z
        ⊎ Q (level (suc (rank_of op))) c d value (begins m b) f (begins' k i) z)
    AlongSpots c d r b i (tree.assign m e f) y = (k : B) × (x z : tree.Exp B)
        × (y ≡ tree.assign k x z) × (AlongSpots c d value (begins m b) (begins' k i) e x
        ⊎ Q a_target c d value (begins m b) e (begins' k i) x)
        × (AlongSpots c d value (begins m b) (begins' k i) f z
        ⊎ Q (level 0) c d value (begins m b) f (begins' k i) z)
    AlongSpots c d r b i (tree.compound m op e f) y = (k : B) × (x z : tree.Exp B)
        × (y ≡ tree.compound k op x z) × (AlongSpots c d value (begins m b) (begins' k i) e x
        ⊎ Q a_target c d value (begins m b) e (begins' k i) x)
        × (AlongSpots c d value (begins m b) (begins' k i) f z
        ⊎ Q (level 0) c d value (begins m b) f (begins' k i) z)

    -- a call without a target may get one: `this`, or a class
    pub TargetAlong : Context → Context → (at at' : ℕ) → tree.Target A → tree.Target B → Type 0
    TargetAlong c d a i tree.no_target to = (to ≡ tree.no_target)
        ⊎ (((k : B) × (to ≡ tree.on (tree.this k)))
        ⊎ ((x : tree.Exp B) × (to ≡ tree.on x) × IsClassWords x))
    TargetAlong c d a i (tree.on e) to = (x : tree.Exp B) × (to ≡ tree.on x)
        × DottedAlong (λ n z. AlongSpots c d left a i e z ⊎ Q (level n) c d left a e i z) x

    pub RowAlong : Context → Context → (at at' : ℕ) → tree.Exps A → tree.Exps B → Type 0
    RowAlong c d a i tree.end ys = ys ≡ tree.end
    RowAlong c d a i (tree.more e es) ys = (x : tree.Exp B) × (xs : tree.Exps B)
        × (ys ≡ tree.more x xs)
        × (AlongSpots c d value a i e x ⊎ Q (level 0) c d value a e i x) × RowAlong c d a i es xs

  -- an expression of which so much is asked
  abbrev pub PartAlong : Asks → Context → Context → Role → (base base' : ℕ) → tree.Exp A
      → tree.Exp B → Type 0
  PartAlong k c d r b i e y = AlongSpots c d r b i e y ⊎ Q k c d r b e i y
