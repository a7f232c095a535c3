-- The forms that a static field's initializer has where it begins with something, and what it stands for: marks don't matter.
use Rattle.std.proofs.Common.{◌≡◌, ℕ, List, Some, None, Bool, true, false, refl, sym, ap, subst, ◌∙◌}
use Rattle.std.specs.Prelude.{pos, neg_ℤ, codes, ◌&&◌}
use Rattle.std.specs.Cmp.Lexicographic.{bytes_decides}
use Rattle.jr_ast.specs.declared.operators.UnOp.{UnOp}
use Rattle.jr_ast.specs.declared.operators.UnOp.TheVariants.{Plus, Minus, Not}
use Rattle.jr_ast.specs.Tree as tree
use Rattle.jr_ast.specs.Remarked.{map_exp}
use Rattle.jr_grammar.specs.Bare.{bare}
use Rattle.jr_runs.specs.Values.{int, truth, null, text}
use Rattle.jr_runs.specs.Arithmetic.{wrapped}
use Rattle.jr_runs.specs.FirstValues.{First, gives, makes}
use Rattle.jr_runs.specs.Translation.{unescaped}
use Rattle.jr_table.specs.Prelude.{object_key}
use Rattle.jr_table.specs.DeclaredItems.{is_minus, is_number, is_object, has_none, is_simple}
use Rattle.jr_code.specs.RunKeys.{RunKeys}
use Rattle.jr_code.specs.CodedFields.{NegatedFirst, SignedFirst, CreatedFirst, FirstOf}

-- ---- forms

pub data Form {A : Type 0} : tree.Exp A → First RunKeys → Type 0 where
  a_number : (m : A) (n : ℕ) → Form (tree.number m n) (gives (int (wrapped (pos n))))
  a_truth : (m : A) (b : Bool) → Form (tree.truth m b) (gives (truth b))
  a_null : (m : A) → Form (tree.null m) (gives null)
  a_string : (m : A) (s : List ℕ) → Form (tree.string m s) (gives (text (unescaped false s)))
  a_negative : (m o : A) (n : ℕ) → Form (tree.unary m Minus (tree.number o n)) (gives (int (wrapped (neg_ℤ (pos n)))))
  an_object : (m o : A) (w : tree.Word A) → Form (tree.create m (tree.named o None w) tree.end) (makes object_key)

module _ {A : Type 0} where
  is_form : (e : tree.Exp A) (x y : First RunKeys) → x ≡ y → Form e y → Form e x
  is_form e x y is h = subst (λ (z : First RunKeys). Form e z) (sym is) h

  negative : (m : A) (e : tree.Exp A) (x : First RunKeys) → NegatedFirst e x → Form (tree.unary m Minus e) x
  negative m (tree.number o n) x h = is_form _ x _ h (a_negative m o n)
  negative m (tree.truth o b) x h = absurd h
  negative m (tree.null o) x h = absurd h
  negative m (tree.string o s) x h = absurd h
  negative m (tree.name o w) x h = absurd h
  negative m (tree.field o e w) x h = absurd h
  negative m (tree.super_field o w) x h = absurd h
  negative m (tree.this o) x h = absurd h
  negative m (tree.class_literal o t) x h = absurd h
  negative m (tree.call o to w args) x h = absurd h
  negative m (tree.super_call o w args) x h = absurd h
  negative m (tree.create o t args) x h = absurd h
  negative m (tree.paren o e) x h = absurd h
  negative m (tree.cast o t e) x h = absurd h
  negative m (tree.unary o op e) x h = absurd h
  negative m (tree.bump o op e) x h = absurd h
  negative m (tree.binary o op a b) x h = absurd h
  negative m (tree.assign o a b) x h = absurd h
  negative m (tree.compound o op a b) x h = absurd h

  signed : (m : A) (op : UnOp) (e : tree.Exp A) (x : First RunKeys) → SignedFirst op e x → Form (tree.unary m op e) x
  signed m Minus e x h = negative m e x h
  signed m Plus e x h = absurd h
  signed m Not e x h = absurd h

  created : (m : A) (t : tree.TypeName A) (args : tree.Exps A) (x : First RunKeys) → CreatedFirst t args x → Form (tree.create m t args) x
  created m (tree.int o) args x h = absurd h
  created m (tree.boolean o) args x h = absurd h
  created m (tree.named o (Some v) w) args x h = absurd h
  created m (tree.named o None w) (tree.more e es) x h = absurd h
  created m (tree.named o None w) tree.end x h = is_form _ x _ h.1 (an_object m o w)

  -- what has a value has such a form
  pub form : (e : tree.Exp A) (x : First RunKeys) → FirstOf e x → Form e x
  form (tree.number m n) x h = is_form _ x _ h (a_number m n)
  form (tree.truth m b) x h = is_form _ x _ h (a_truth m b)
  form (tree.null m) x h = is_form _ x _ h (a_null m)
  form (tree.string m s) x h = is_form _ x _ h (a_string m s)
  form (tree.unary m op e) x h = signed m op e x h
  form (tree.create m t args) x h = created m t args x h
  form (tree.name m w) x h = absurd h
  form (tree.field m e w) x h = absurd h
  form (tree.super_field m w) x h = absurd h
  form (tree.this m) x h = absurd h
  form (tree.class_literal m t) x h = absurd h
  form (tree.call m to w args) x h = absurd h
  form (tree.super_call m w args) x h = absurd h
  form (tree.paren m e) x h = absurd h
  form (tree.cast m t e) x h = absurd h
  form (tree.bump m op e) x h = absurd h
  form (tree.binary m op a b) x h = absurd h
  form (tree.assign m a b) x h = absurd h
  form (tree.compound m op a b) x h = absurd h

-- ---- the value, of any expression: null where it has none

module _ {A : Type 0} where
  abbrev pub negated : tree.Exp A → First RunKeys
  negated (tree.number m n) = gives (int (wrapped (neg_ℤ (pos n))))
  negated _ = gives null

  abbrev pub value_of : tree.Exp A → First RunKeys
  value_of (tree.number m n) = gives (int (wrapped (pos n)))
  value_of (tree.truth m b) = gives (truth b)
  value_of (tree.string m s) = gives (text (unescaped false s))
  value_of (tree.unary m op e) = negated e
  value_of (tree.create m t args) = makes object_key
  value_of _ = gives null

  pub form_value : (e : tree.Exp A) (x : First RunKeys) → Form e x → x ≡ value_of e
  form_value e x (a_number m n) = refl
  form_value e x (a_truth m b) = refl
  form_value e x (a_null m) = refl
  form_value e x (a_string m s) = refl
  form_value e x (a_negative m o n) = refl
  form_value e x (an_object m o w) = refl

  -- so it is one
  pub first_value : (e : tree.Exp A) (x : First RunKeys) → FirstOf e x → x ≡ value_of e
  first_value e x h = form_value e x (form e x h)

-- ---- marks don't matter

module _ {A : Type 0} where
  negated_bare : (e : tree.Exp A) → negated e ≡ negated (bare e)
  unfolding map_exp
  negated_bare (tree.number m n) = refl
  negated_bare (tree.truth m b) = refl
  negated_bare (tree.null m) = refl
  negated_bare (tree.string m s) = refl
  negated_bare (tree.name m w) = refl
  negated_bare (tree.field m e w) = refl
  negated_bare (tree.super_field m w) = refl
  negated_bare (tree.this m) = refl
  negated_bare (tree.class_literal m t) = refl
  negated_bare (tree.call m to w args) = refl
  negated_bare (tree.super_call m w args) = refl
  negated_bare (tree.create m t args) = refl
  negated_bare (tree.paren m e) = refl
  negated_bare (tree.cast m t e) = refl
  negated_bare (tree.unary m op e) = refl
  negated_bare (tree.bump m op e) = refl
  negated_bare (tree.binary m op a b) = refl
  negated_bare (tree.assign m a b) = refl
  negated_bare (tree.compound m op a b) = refl

  value_bare : (e : tree.Exp A) → value_of e ≡ value_of (bare e)
  unfolding map_exp
  value_bare (tree.number m n) = refl
  value_bare (tree.truth m b) = refl
  value_bare (tree.null m) = refl
  value_bare (tree.string m s) = refl
  value_bare (tree.unary m op e) = negated_bare e
  value_bare (tree.create m t args) = refl
  value_bare (tree.name m w) = refl
  value_bare (tree.field m e w) = refl
  value_bare (tree.super_field m w) = refl
  value_bare (tree.this m) = refl
  value_bare (tree.class_literal m t) = refl
  value_bare (tree.call m to w args) = refl
  value_bare (tree.super_call m w args) = refl
  value_bare (tree.paren m e) = refl
  value_bare (tree.cast m t e) = refl
  value_bare (tree.bump m op e) = refl
  value_bare (tree.binary m op a b) = refl
  value_bare (tree.assign m a b) = refl
  value_bare (tree.compound m op a b) = refl

  pub same_value : (e d : tree.Exp A) → bare e ≡ bare d → value_of e ≡ value_of d
  same_value e d h = value_bare e ∙ ap value_of h ∙ sym (value_bare d)

-- ---- forms that a static field may have

module _ {A : Type 0} (begins : A → ℕ → ℕ) where
  and_parts : (a b : Bool) → a && b ≡ true → (a ≡ true) × (b ≡ true)
  and_parts true b h = (refl, h)
  and_parts false b h = absurd cc

  negative_first : (e : tree.Exp A) → is_number begins e ≡ true → NegatedFirst e (negated e)
  negative_first (tree.number m n) h = refl
  negative_first (tree.truth m b) h = absurd cc
  negative_first (tree.null m) h = absurd cc
  negative_first (tree.string m s) h = absurd cc
  negative_first (tree.name m w) h = absurd cc
  negative_first (tree.field m e w) h = absurd cc
  negative_first (tree.super_field m w) h = absurd cc
  negative_first (tree.this m) h = absurd cc
  negative_first (tree.class_literal m t) h = absurd cc
  negative_first (tree.call m to w args) h = absurd cc
  negative_first (tree.super_call m w args) h = absurd cc
  negative_first (tree.create m t args) h = absurd cc
  negative_first (tree.paren m e) h = absurd cc
  negative_first (tree.cast m t e) h = absurd cc
  negative_first (tree.unary m op e) h = absurd cc
  negative_first (tree.bump m op e) h = absurd cc
  negative_first (tree.binary m op a b) h = absurd cc
  negative_first (tree.assign m a b) h = absurd cc
  negative_first (tree.compound m op a b) h = absurd cc

  signed_first : (op : UnOp) (e : tree.Exp A) → is_minus begins op && is_number begins e ≡ true → SignedFirst op e (negated e)
  signed_first Minus e h = negative_first e h
  signed_first Plus e h = absurd cc
  signed_first Not e h = absurd cc

  object_first : (t : tree.TypeName A) (args : tree.Exps A) → is_object begins t ≡ true → has_none begins args ≡ true → CreatedFirst t args (makes object_key)
  object_first (tree.int m) args h i = absurd cc
  object_first (tree.boolean m) args h i = absurd cc
  object_first (tree.named m (Some v) w) args h i = absurd cc
  object_first (tree.named m None w) (tree.more e es) h i = absurd cc
  object_first (tree.named m None w) tree.end h i = ((bytes_decides w.text (codes "Object")).0 h, refl)

  pub simple_first : (e : tree.Exp A) → is_simple begins e ≡ true → FirstOf e (value_of e)
  simple_first (tree.number m n) h = refl
  simple_first (tree.truth m b) h = refl
  simple_first (tree.null m) h = refl
  simple_first (tree.string m s) h = refl
  simple_first (tree.unary m op e) h = signed_first op e h
  simple_first (tree.create m t args) h = let p = and_parts (is_object begins t) (has_none begins args) h in object_first t args p.0 p.1
  simple_first (tree.name m w) h = absurd cc
  simple_first (tree.field m e w) h = absurd cc
  simple_first (tree.super_field m w) h = absurd cc
  simple_first (tree.this m) h = absurd cc
  simple_first (tree.class_literal m t) h = absurd cc
  simple_first (tree.call m to w args) h = absurd cc
  simple_first (tree.super_call m w args) h = absurd cc
  simple_first (tree.paren m e) h = absurd cc
  simple_first (tree.cast m t e) h = absurd cc
  simple_first (tree.bump m op e) h = absurd cc
  simple_first (tree.binary m op a b) h = absurd cc
  simple_first (tree.assign m a b) h = absurd cc
  simple_first (tree.compound m op a b) h = absurd cc
