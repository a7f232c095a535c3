-- Which members are equal to a tree without marks, and what is the same of those that are.
use Rattle.std.proofs.Common.{◌≡◌, ℕ, suc, Bool, List, [], ◌∷◌, length, map, Option, Some, None, refl, sym, ap, ◌∙◌}
use Rattle.std.specs.Prelude.{option_map}
use Rattle.std.specs.List.{list_any}
use Rattle.jr_ast.specs.Tree as tree
use Rattle.jr_ast.specs.StatementTree as statement
use Rattle.jr_ast.specs.MemberTree as syntax
use Rattle.jr_ast.specs.Remarked.{map_modifier, map_member, map_members, map_class}
use Rattle.jr_grammar.specs.Bare.{Bare, no_mark, bare_word, bare_type, bare_args, bare_stmts, bare_member}
use Rattle.jr_table.specs.Entries.{is_static_word}
use Rattle.jr_table.specs.HeadRules.{is_static_member}
use Rattle.jr_rewrite.specs.AlongMembers.{mod_words}
use Rattle.jr_rewrite.proofs.BareForms.{bare_maybe}
use Rattle.jr_moved_references.proofs.SameContexts.{bare_param, bare_params}

abbrev pub bare_modifiers : {A : Type 0} → List (syntax.Modifier A) → List (syntax.Modifier Bare)
bare_modifiers ms = map (map_modifier no_mark) ms

abbrev pub bare_maybe_type : {A : Type 0} → Option (tree.TypeName A) → Option (tree.TypeName Bare)
bare_maybe_type t = option_map bare_type t

abbrev pub bare_maybe_args : {A : Type 0} → Option (tree.Exps A) → Option (tree.Exps Bare)
bare_maybe_args es = option_map bare_args es

words_bare : {B : Type 0} (ms : List (syntax.Modifier B)) → mod_words (bare_modifiers ms) ≡ mod_words ms
words_bare [] = refl
words_bare (m ∷ ms) = ap (λ ws. m.word ∷ ws) (words_bare ms)

pub static_bare : {B D : Type 0} (b : B → ℕ → ℕ) (d : D → ℕ → ℕ) (ms : List (syntax.Modifier B)) (ns : List (syntax.Modifier D)) → bare_modifiers ns ≡ bare_modifiers ms → is_static_member b ms ≡ is_static_member d ns
static_bare b d ms ns q = ap (list_any is_static_word) (sym (words_bare ms) ∙ ap mod_words (sym q) ∙ words_bare ns)

module _ {D : Type 0} where
  pub modifiers_back : (y : List (syntax.Modifier D)) (m : syntax.Modifier Bare) (ms : List (syntax.Modifier Bare)) → bare_modifiers y ≡ m ∷ ms
      → (n : syntax.Modifier D) × (ns : List (syntax.Modifier D)) × (y ≡ n ∷ ns) × (map_modifier no_mark n ≡ m) × (bare_modifiers ns ≡ ms)
  modifiers_back [] m ms e = absurd cc
  modifiers_back (n ∷ ns) m ms e = (n, ns, refl, cc, cc)

  pub no_modifiers_back : (y : List (syntax.Modifier D)) → bare_modifiers y ≡ [] → y ≡ []
  no_modifiers_back [] e = refl
  no_modifiers_back (n ∷ ns) e = absurd cc

  pub params_back : (y : List (syntax.Param D)) (p : syntax.Param Bare) (ps : List (syntax.Param Bare)) → bare_params y ≡ p ∷ ps → (q : syntax.Param D) × (qs : List (syntax.Param D)) × (y ≡ q ∷ qs) × (bare_param q ≡ p) × (bare_params qs ≡ ps)
  params_back [] p ps e = absurd cc
  params_back (q ∷ qs) p ps e = (q, qs, refl, cc, cc)

  pub no_params_back : (y : List (syntax.Param D)) → bare_params y ≡ [] → y ≡ []
  no_params_back [] e = refl
  no_params_back (q ∷ qs) e = absurd cc

  pub no_type_back : (y : Option (tree.TypeName D)) → bare_maybe_type y ≡ None → y ≡ None
  no_type_back None e = refl
  no_type_back (Some t) e = absurd cc

  pub type_back : (y : Option (tree.TypeName D)) (t : tree.TypeName Bare) → bare_maybe_type y ≡ Some t → (u : tree.TypeName D) × (y ≡ Some u) × (bare_type u ≡ t)
  type_back None t e = absurd cc
  type_back (Some u) t e = (u, refl, cc)

  pub no_args_back : (y : Option (tree.Exps D)) → bare_maybe_args y ≡ None → y ≡ None
  no_args_back None e = refl
  no_args_back (Some t) e = absurd cc

  pub args_back : (y : Option (tree.Exps D)) (t : tree.Exps Bare) → bare_maybe_args y ≡ Some t → (u : tree.Exps D) × (y ≡ Some u) × (bare_args u ≡ t)
  args_back None t e = absurd cc
  args_back (Some u) t e = (u, refl, cc)

  pub field_back : (y : syntax.Member D) (ms : List (syntax.Modifier Bare)) (t : tree.TypeName Bare) (w : tree.Word Bare) (x : Option (tree.Exp Bare)) → bare_member y ≡ syntax.field tt ms t w x
      → (k : D) × (ns : List (syntax.Modifier D)) × (u : tree.TypeName D) × (v : tree.Word D) × (z : Option (tree.Exp D)) × (y ≡ syntax.field k ns u v z) × (bare_modifiers ns ≡ ms) × (bare_type u ≡ t) × (bare_word v ≡ w) × (bare_maybe z ≡ x)
  unfolding map_member map_members map_class
  field_back (syntax.field k ns u v z) ms t w x e = (k, ns, u, v, z, refl, cc, cc, cc, cc)
  field_back _ ms t w x e = absurd cc

  pub method_back : (y : syntax.Member D) (ms : List (syntax.Modifier Bare)) (t : Option (tree.TypeName Bare)) (w : tree.Word Bare) (ps : List (syntax.Param Bare)) (body : statement.Stmts Bare) → bare_member y ≡ syntax.method tt ms t w ps body
      → (k : D) × (ns : List (syntax.Modifier D)) × (u : Option (tree.TypeName D)) × (v : tree.Word D) × (qs : List (syntax.Param D)) × (z : statement.Stmts D) × (y ≡ syntax.method k ns u v qs z) × (bare_modifiers ns ≡ ms) × (bare_maybe_type u ≡ t) × (bare_word v ≡ w)
      × (bare_params qs ≡ ps) × (bare_stmts z ≡ body)
  unfolding map_member map_members map_class
  method_back (syntax.method k ns u v qs z) ms t w ps body e = (k, ns, u, v, qs, z, refl, cc, cc, cc, cc, cc)
  method_back _ ms t w ps body e = absurd cc

  pub constructor_back : (y : syntax.Member D) (ms : List (syntax.Modifier Bare)) (w : tree.Word Bare) (ps : List (syntax.Param Bare)) (es : Option (tree.Exps Bare)) (body : statement.Stmts Bare) → bare_member y ≡ syntax.constructor tt ms w ps es body
      → (k : D) × (ns : List (syntax.Modifier D)) × (v : tree.Word D) × (qs : List (syntax.Param D)) × (xs : Option (tree.Exps D)) × (z : statement.Stmts D) × (y ≡ syntax.constructor k ns v qs xs z) × (bare_modifiers ns ≡ ms) × (bare_word v ≡ w) × (bare_params qs ≡ ps)
      × (bare_maybe_args xs ≡ es) × (bare_stmts z ≡ body)
  unfolding map_member map_members map_class
  constructor_back (syntax.constructor k ns v qs xs z) ms w ps es body e = (k, ns, v, qs, xs, z, refl, cc, cc, cc, cc, cc)
  constructor_back _ ms w ps es body e = absurd cc
