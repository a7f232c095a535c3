-- What a tree is that is another one but for its marks, node by node, and which tokens it has.
use Rattle.std.proofs.Common.{◌≡◌, ℕ, List, [], ◌∷◌, ◌++◌, Option, Some, None, refl, sym, ap, ◌∙◌}
use Rattle.jr_text.specs.declared.spans.Span.{Span}
use Rattle.jr_ast.specs.declared.operators.UnOp.{UnOp}
use Rattle.jr_ast.specs.declared.operators.BinOp.{BinOp}
use Rattle.jr_ast.specs.declared.operators.BumpOp.{BumpOp}
use Rattle.jr_ast.specs.Tree as tree
use Rattle.jr_ast.specs.Remarked.{map_exp, map_exps, map_target}
use Rattle.jr_grammar.specs.Bare.{Bare, no_mark, bare, bare_word, bare_type, bare_target, bare_args}
use Rattle.jr_grammar.specs.Tokens.{Token, kinds}
use Rattle.jr_grammar.specs.Spelling.{toks, args_toks, type_toks}
use Rattle.jr_grammar.specs.Layout.{Layout, laid}
use Rattle.jr_grammar.specs.ExpressionLayout.{type_layout, exp_layout, args_layout}
use Rattle.jr_grammar.specs.Stands.{Tokens, Stands}
use Rattle.jr_grammar.proofs.Layouts.{map_layout, laid-map, stands_laid}
use Rattle.jr_grammar.proofs.ExpressionLayouts.{type_laid, exp_laid, args_laid, type_layout-map, exp_layout-map, args_layout-map}

-- ---- tokens

pub same_laid : (x y : Layout Span) → map_layout {B = Bare} no_mark x ≡ map_layout no_mark y → laid x ≡ laid y
same_laid x y e = sym (laid-map no_mark x) ∙ ap laid e ∙ laid-map no_mark y

pub exp_kinds : (y z : tree.Exp Span) → bare y ≡ bare z → (ps : Tokens) → Stands (exp_layout y) ps → kinds ps ≡ toks z
exp_kinds y z e ps h = stands_laid (exp_layout y) ps h ∙ same_laid (exp_layout y) (exp_layout z) (exp_layout-map no_mark y ∙ ap exp_layout e ∙ sym (exp_layout-map no_mark z)) ∙ exp_laid z

pub args_kinds : (y z : tree.Exps Span) → bare_args y ≡ bare_args z → (ps : Tokens) → Stands (args_layout y) ps → kinds ps ≡ args_toks z
args_kinds y z e ps h = stands_laid (args_layout y) ps h ∙ same_laid (args_layout y) (args_layout z) (args_layout-map no_mark y ∙ ap args_layout e ∙ sym (args_layout-map no_mark z)) ∙ args_laid z

pub type_kinds : (y z : tree.TypeName Span) → bare_type y ≡ bare_type z → (ps : Tokens) → Stands (type_layout y) ps → kinds ps ≡ type_toks z
type_kinds y z e ps h = stands_laid (type_layout y) ps h ∙ same_laid (type_layout y) (type_layout z) (type_layout-map no_mark y ∙ ap type_layout e ∙ sym (type_layout-map no_mark z)) ∙ type_laid z

-- ---- nodes

text_of_bare : (v w : tree.Word Span) → bare_word v ≡ bare_word w → v.text ≡ w.text
text_of_bare v w e = ap (λ (x : tree.Word Bare). x.text) e

module _ (y : tree.Exp Span) (m : Span) where
  pub name_back : (w : tree.Word Span) → bare y ≡ bare (tree.name m w) → (k : Span) × (v : tree.Word Span) × (y ≡ tree.name k v) × (v.text ≡ w.text)
  unfolding map_exp
  name_back w e = go y e
    where
      go : (y : tree.Exp Span) → bare y ≡ bare (tree.name m w) → (k : Span) × (v : tree.Word Span) × (y ≡ tree.name k v) × (v.text ≡ w.text)
      go (tree.name k v) e = (k, v, refl, text_of_bare v w cc)
      go _ e = absurd cc

  pub field_back : (x : tree.Exp Span) (w : tree.Word Span) → bare y ≡ bare (tree.field m x w) → (k : Span) × (z : tree.Exp Span) × (v : tree.Word Span) × (y ≡ tree.field k z v) × (bare z ≡ bare x) × (v.text ≡ w.text)
  unfolding map_exp
  field_back x w e = go y e
    where
      go : (y : tree.Exp Span) → bare y ≡ bare (tree.field m x w) → (k : Span) × (z : tree.Exp Span) × (v : tree.Word Span) × (y ≡ tree.field k z v) × (bare z ≡ bare x) × (v.text ≡ w.text)
      go (tree.field k z v) e = (k, z, v, refl, cc, text_of_bare v w cc)
      go _ e = absurd cc

  pub super_field_back : (w : tree.Word Span) → bare y ≡ bare (tree.super_field m w) → (k : Span) × (v : tree.Word Span) × (y ≡ tree.super_field k v) × (v.text ≡ w.text)
  unfolding map_exp
  super_field_back w e = go y e
    where
      go : (y : tree.Exp Span) → bare y ≡ bare (tree.super_field m w) → (k : Span) × (v : tree.Word Span) × (y ≡ tree.super_field k v) × (v.text ≡ w.text)
      go (tree.super_field k v) e = (k, v, refl, text_of_bare v w cc)
      go _ e = absurd cc

  pub literal_back : (t : tree.TypeName Span) → bare y ≡ bare (tree.class_literal m t) → (k : Span) × (u : tree.TypeName Span) × (y ≡ tree.class_literal k u) × (bare_type u ≡ bare_type t)
  unfolding map_exp
  literal_back t e = go y e
    where
      go : (y : tree.Exp Span) → bare y ≡ bare (tree.class_literal m t) → (k : Span) × (u : tree.TypeName Span) × (y ≡ tree.class_literal k u) × (bare_type u ≡ bare_type t)
      go (tree.class_literal k u) e = (k, u, refl, cc)
      go _ e = absurd cc

  pub call_back : (to : tree.Target Span) (w : tree.Word Span) (args : tree.Exps Span) → bare y ≡ bare (tree.call m to w args)
      → (k : Span) × (aim : tree.Target Span) × (v : tree.Word Span) × (es : tree.Exps Span) × (y ≡ tree.call k aim v es) × (bare_target aim ≡ bare_target to) × (v.text ≡ w.text) × (bare_args es ≡ bare_args args)
  unfolding map_exp
  call_back to w args e = go y e
    where
      go : (y : tree.Exp Span) → bare y ≡ bare (tree.call m to w args)
          → (k : Span) × (aim : tree.Target Span) × (v : tree.Word Span) × (es : tree.Exps Span) × (y ≡ tree.call k aim v es) × (bare_target aim ≡ bare_target to) × (v.text ≡ w.text) × (bare_args es ≡ bare_args args)
      go (tree.call k aim v es) e = (k, aim, v, es, refl, cc, text_of_bare v w cc, cc)
      go _ e = absurd cc

  pub super_call_back : (w : tree.Word Span) (args : tree.Exps Span) → bare y ≡ bare (tree.super_call m w args)
      → (k : Span) × (v : tree.Word Span) × (es : tree.Exps Span) × (y ≡ tree.super_call k v es) × (v.text ≡ w.text) × (bare_args es ≡ bare_args args)
  unfolding map_exp
  super_call_back w args e = go y e
    where
      go : (y : tree.Exp Span) → bare y ≡ bare (tree.super_call m w args)
          → (k : Span) × (v : tree.Word Span) × (es : tree.Exps Span) × (y ≡ tree.super_call k v es) × (v.text ≡ w.text) × (bare_args es ≡ bare_args args)
      go (tree.super_call k v es) e = (k, v, es, refl, text_of_bare v w cc, cc)
      go _ e = absurd cc

  pub create_back : (t : tree.TypeName Span) (args : tree.Exps Span) → bare y ≡ bare (tree.create m t args)
      → (k : Span) × (u : tree.TypeName Span) × (es : tree.Exps Span) × (y ≡ tree.create k u es) × (bare_type u ≡ bare_type t) × (bare_args es ≡ bare_args args)
  unfolding map_exp
  create_back t args e = go y e
    where
      go : (y : tree.Exp Span) → bare y ≡ bare (tree.create m t args)
          → (k : Span) × (u : tree.TypeName Span) × (es : tree.Exps Span) × (y ≡ tree.create k u es) × (bare_type u ≡ bare_type t) × (bare_args es ≡ bare_args args)
      go (tree.create k u es) e = (k, u, es, refl, cc, cc)
      go _ e = absurd cc

  pub paren_back : (x : tree.Exp Span) → bare y ≡ bare (tree.paren m x) → (k : Span) × (z : tree.Exp Span) × (y ≡ tree.paren k z) × (bare z ≡ bare x)
  unfolding map_exp
  paren_back x e = go y e
    where
      go : (y : tree.Exp Span) → bare y ≡ bare (tree.paren m x) → (k : Span) × (z : tree.Exp Span) × (y ≡ tree.paren k z) × (bare z ≡ bare x)
      go (tree.paren k z) e = (k, z, refl, cc)
      go _ e = absurd cc

  pub cast_back : (t : tree.TypeName Span) (x : tree.Exp Span) → bare y ≡ bare (tree.cast m t x) → (k : Span) × (u : tree.TypeName Span) × (z : tree.Exp Span) × (y ≡ tree.cast k u z) × (bare_type u ≡ bare_type t) × (bare z ≡ bare x)
  unfolding map_exp
  cast_back t x e = go y e
    where
      go : (y : tree.Exp Span) → bare y ≡ bare (tree.cast m t x) → (k : Span) × (u : tree.TypeName Span) × (z : tree.Exp Span) × (y ≡ tree.cast k u z) × (bare_type u ≡ bare_type t) × (bare z ≡ bare x)
      go (tree.cast k u z) e = (k, u, z, refl, cc, cc)
      go _ e = absurd cc

  pub unary_back : (s : UnOp) (x : tree.Exp Span) → bare y ≡ bare (tree.unary m s x) → (k : Span) × (z : tree.Exp Span) × (y ≡ tree.unary k s z) × (bare z ≡ bare x)
  unfolding map_exp
  unary_back s x e = go y e
    where
      go : (y : tree.Exp Span) → bare y ≡ bare (tree.unary m s x) → (k : Span) × (z : tree.Exp Span) × (y ≡ tree.unary k s z) × (bare z ≡ bare x)
      go (tree.unary k o z) e = (let p : o ≡ s = cc in (k, z, ap (λ q. tree.unary k q z) p, cc))
      go _ e = absurd cc

  pub bump_back : (s : BumpOp) (x : tree.Exp Span) → bare y ≡ bare (tree.bump m s x) → (k : Span) × (z : tree.Exp Span) × (y ≡ tree.bump k s z) × (bare z ≡ bare x)
  unfolding map_exp
  bump_back s x e = go y e
    where
      go : (y : tree.Exp Span) → bare y ≡ bare (tree.bump m s x) → (k : Span) × (z : tree.Exp Span) × (y ≡ tree.bump k s z) × (bare z ≡ bare x)
      go (tree.bump k o z) e = (let p : o ≡ s = cc in (k, z, ap (λ q. tree.bump k q z) p, cc))
      go _ e = absurd cc

  pub binary_back : (s : BinOp) (x z : tree.Exp Span) → bare y ≡ bare (tree.binary m s x z) → (k : Span) × (a b : tree.Exp Span) × (y ≡ tree.binary k s a b) × (bare a ≡ bare x) × (bare b ≡ bare z)
  unfolding map_exp
  binary_back s x z e = go y e
    where
      go : (y : tree.Exp Span) → bare y ≡ bare (tree.binary m s x z) → (k : Span) × (a b : tree.Exp Span) × (y ≡ tree.binary k s a b) × (bare a ≡ bare x) × (bare b ≡ bare z)
      go (tree.binary k o a b) e = (let p : o ≡ s = cc in (k, a, b, ap (λ q. tree.binary k q a b) p, cc, cc))
      go _ e = absurd cc

  pub assign_back : (x z : tree.Exp Span) → bare y ≡ bare (tree.assign m x z) → (k : Span) × (a b : tree.Exp Span) × (y ≡ tree.assign k a b) × (bare a ≡ bare x) × (bare b ≡ bare z)
  unfolding map_exp
  assign_back x z e = go y e
    where
      go : (y : tree.Exp Span) → bare y ≡ bare (tree.assign m x z) → (k : Span) × (a b : tree.Exp Span) × (y ≡ tree.assign k a b) × (bare a ≡ bare x) × (bare b ≡ bare z)
      go (tree.assign k a b) e = (k, a, b, refl, cc, cc)
      go _ e = absurd cc

  pub compound_back : (s : BinOp) (x z : tree.Exp Span) → bare y ≡ bare (tree.compound m s x z) → (k : Span) × (a b : tree.Exp Span) × (y ≡ tree.compound k s a b) × (bare a ≡ bare x) × (bare b ≡ bare z)
  unfolding map_exp
  compound_back s x z e = go y e
    where
      go : (y : tree.Exp Span) → bare y ≡ bare (tree.compound m s x z) → (k : Span) × (a b : tree.Exp Span) × (y ≡ tree.compound k s a b) × (bare a ≡ bare x) × (bare b ≡ bare z)
      go (tree.compound k o a b) e = (let p : o ≡ s = cc in (k, a, b, ap (λ q. tree.compound k q a b) p, cc, cc))
      go _ e = absurd cc

-- ---- targets, arguments, types

pub on_back : (y : tree.Target Span) (x : tree.Exp Span) → bare_target y ≡ bare_target (tree.on x) → (z : tree.Exp Span) × (y ≡ tree.on z) × (bare z ≡ bare x)
unfolding map_target
on_back (tree.on z) x e = (z, refl, cc)
on_back tree.no_target x e = absurd cc

pub none_back : (y : tree.Target Span) → bare_target y ≡ bare_target {A = Span} tree.no_target → y ≡ tree.no_target
unfolding map_target
none_back tree.no_target e = refl
none_back (tree.on z) e = absurd cc

pub end_back : (y : tree.Exps Span) → bare_args y ≡ bare_args {A = Span} tree.end → y ≡ tree.end
unfolding map_exps
end_back tree.end e = refl
end_back (tree.more z zs) e = absurd cc

pub more_back : (y : tree.Exps Span) (x : tree.Exp Span) (xs : tree.Exps Span) → bare_args y ≡ bare_args (tree.more x xs) → (z : tree.Exp Span) × (zs : tree.Exps Span) × (y ≡ tree.more z zs) × (bare z ≡ bare x) × (bare_args zs ≡ bare_args xs)
unfolding map_exps
more_back (tree.more z zs) x xs e = (z, zs, refl, cc, cc)
more_back tree.end x xs e = absurd cc

pub simple_back : (y : tree.TypeName Span) (m : Span) (w : tree.Word Span) → bare_type y ≡ bare_type (tree.named m None w) → (k : Span) × (v : tree.Word Span) × (y ≡ tree.named k None v) × (v.text ≡ w.text)
simple_back (tree.named k None v) m w e = (k, v, refl, text_of_bare v w cc)
simple_back (tree.named k (Some u) v) m w e = absurd cc
simple_back (tree.int k) m w e = absurd cc
simple_back (tree.boolean k) m w e = absurd cc

pub qualified_back : (y : tree.TypeName Span) (m : Span) (o w : tree.Word Span) → bare_type y ≡ bare_type (tree.named m (Some o) w)
    → (k : Span) × (u v : tree.Word Span) × (y ≡ tree.named k (Some u) v) × (u.text ≡ o.text) × (v.text ≡ w.text)
qualified_back (tree.named k (Some u) v) m o w e = (k, u, v, refl, text_of_bare u o cc, text_of_bare v w cc)
qualified_back (tree.named k None v) m o w e = absurd cc
qualified_back (tree.int k) m o w e = absurd cc
qualified_back (tree.boolean k) m o w e = absurd cc
