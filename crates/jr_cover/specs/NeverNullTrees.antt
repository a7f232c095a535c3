-- Expressions whose value is never null: `this`, `new`, a string, a class literal, these in
-- parentheses, and a local that is never assigned and begins with such a value.
use Rattle.std.specs.Prelude.{◌≡◌, ◌<◌, ℕ, Bool, false, List, Option, Some}
use Rattle.jr_ast.specs.Tree as tree
use Rattle.jr_runs.specs.Keys.{Keys}
use Rattle.jr_cover.specs.Facts.{Facts, is_local}

-- its local, if the expression is one in any number of parentheses
abbrev pub NamesLocal : {K : Keys} {A : Type 0} → Facts K A → tree.Exp A → ℕ → Type 0
NamesLocal F (tree.name a w) n = F.variable w.mark ≡ Some (is_local n)
NamesLocal F (tree.paren a e) n = NamesLocal F e n
NamesLocal F e n = ⊥

-- init: the initializer of a local that a statement declares; is_assigned: by an assignment, `op=`
-- or bump, anywhere in the member
module _ {K : Keys} {A : Type 0} (F : Facts K A) (init : ℕ → Option (tree.Exp A))
    (is_assigned : ℕ → Bool) where
  pub data NeverNull : tree.Exp A → Type 0 where
    this : (a : A) → NeverNull (tree.this a)
    create : (a : A) (t : tree.TypeName A) (es : tree.Exps A) → NeverNull (tree.create a t es)
    string : (a : A) (s : List ℕ) → NeverNull (tree.string a s)
    class_literal : (a : A) (t : tree.TypeName A) → NeverNull (tree.class_literal a t)
    paren : (a : A) (e : tree.Exp A) → NeverNull e → NeverNull (tree.paren a e)
    local : (a : A) (w : tree.Word A) (n : ℕ) (e : tree.Exp A)
        → F.variable w.mark ≡ Some (is_local n)
        → is_assigned n ≡ false → init n ≡ Some e → ((m : ℕ) → NamesLocal F e m → m < n)
        → NeverNull e
        → NeverNull (tree.name a w)
