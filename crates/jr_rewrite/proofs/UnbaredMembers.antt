-- Members, classes and files that stand along a tree stand along each that is equal to it but for
-- its marks.
use Rattle.std.proofs.Common.{◌≡◌, ℕ, suc, Bool, true, false, List, [], ◌∷◌, length, Option, Some, None, refl, sym, ap, ◌∙◌, subst}
use Rattle.std.specs.Prelude.{map, option_map}
use Rattle.std.specs.List.{list_any}
use Rattle.jr_ast.specs.Tree as tree
use Rattle.jr_ast.specs.StatementTree as statement
use Rattle.jr_ast.specs.MemberTree as syntax
use Rattle.jr_ast.specs.Remarked.{map_modifier, map_param, map_member, map_members, map_class}
use Rattle.jr_grammar.specs.Bare.{Bare, no_mark, bare, bare_word, bare_type, bare_args, bare_stmts, bare_class, bare_member, bare_unit}
use Rattle.jr_table.specs.Keys.{ClassKey, Ty}
use Rattle.jr_table.specs.Decls.{MemberKey}
use Rattle.jr_table.specs.Entries.{is_static_word}
use Rattle.jr_table.specs.Binding.{Role}
use Rattle.jr_table.specs.Context.{Context, Local, known, parameters}
use Rattle.jr_table.specs.HeadRules.{plain, types_of, with_parameters, is_static_member}
use Rattle.jr_table.specs.DeclaredItems.{DeclaredItem, class_key}
use Rattle.jr_rewrite.specs.Along.{AlongMaybe, AlongStmts}
use Rattle.jr_rewrite.specs.AlongMembers.{mod_words, AlongParams, AlongResult, AlongSuper, AlongMember, AlongParent, AlongClass, AlongMembers, AlongOne, AlongClasses, AlongUnit}
use Rattle.jr_rewrite.proofs.BareForms.{bare_maybe}
use Rattle.jr_rewrite.proofs.Unbared.{row_bare, maybe_bare, stmts_bare}

-- ---- trees without marks

abbrev bare_modifiers : {A : Type 0} → List (syntax.Modifier A) → List (syntax.Modifier Bare)
bare_modifiers ms = map (map_modifier no_mark) ms

abbrev bare_param : {A : Type 0} → syntax.Param A → syntax.Param Bare
bare_param = map_param no_mark

abbrev bare_params : {A : Type 0} → List (syntax.Param A) → List (syntax.Param Bare)
bare_params ps = map bare_param ps

abbrev bare_maybe_type : {A : Type 0} → Option (tree.TypeName A) → Option (tree.TypeName Bare)
bare_maybe_type t = option_map bare_type t

abbrev bare_maybe_args : {A : Type 0} → Option (tree.Exps A) → Option (tree.Exps Bare)
bare_maybe_args es = option_map bare_args es

abbrev bare_members : {A : Type 0} → syntax.Members A → syntax.Members Bare
bare_members = map_members no_mark

abbrev bare_classes : {A : Type 0} → List (syntax.Class A) → List (syntax.Class Bare)
bare_classes cs = map bare_class cs

words_bare : {B : Type 0} (ms : List (syntax.Modifier B)) → mod_words (bare_modifiers ms) ≡ mod_words ms
words_bare [] = refl
words_bare (m ∷ ms) = ap (λ ws. m.word ∷ ws) (words_bare ms)

words_same : {B D : Type 0} (ms : List (syntax.Modifier B)) (ns : List (syntax.Modifier D)) → bare_modifiers ns ≡ bare_modifiers ms → mod_words ns ≡ mod_words ms
words_same ms ns q = sym (words_bare ns) ∙ ap mod_words q ∙ words_bare ms

parameters_bare : {B D : Type 0} (k : MemberKey) (n : ℕ) (ps : List (syntax.Param B)) (qs : List (syntax.Param D)) (ts : List Ty) → bare_params qs ≡ bare_params ps → parameters k n ps ts ≡ parameters k n qs ts
parameters_bare k n [] [] ts q = refl
parameters_bare k n [] (y ∷ qs) ts q = absurd cc
parameters_bare k n (x ∷ ps) [] ts q = absurd cc
parameters_bare k n (x ∷ ps) (y ∷ qs) [] q = refl
parameters_bare k n (x ∷ ps) (y ∷ qs) (t ∷ ts) q =
    let first : bare_param y ≡ bare_param x = cc in
    let rest : bare_params qs ≡ bare_params ps = cc in
    let names : x.name.text ≡ y.name.text = sym (ap (λ (z : syntax.Param Bare). z.name.text) first) in
    let finals : x.is_final ≡ y.is_final = sym (ap (λ (z : syntax.Param Bare). z.is_final) first) in
    let more = parameters_bare k (suc n) ps qs ts rest in
    λ i. (let l : Local = record { name = names i; key = record { member = k; number = n }; is_final = finals i; type = known t; has_init = false } in l ∷ more i)

with_parameters_bare : {B D : Type 0} (k : MemberKey) (is_static : Bool) (ps : List (syntax.Param B)) (qs : List (syntax.Param D)) → bare_params qs ≡ bare_params ps
    → with_parameters k is_static ps ≡ with_parameters k is_static qs
with_parameters_bare k is_static ps qs q = (let same = parameters_bare k 0 ps qs (types_of k) q in λ i. record { member = k; is_static = is_static; locals = same i; own = None })

static_bare : {B D : Type 0} (b : B → ℕ → ℕ) (d : D → ℕ → ℕ) (ms : List (syntax.Modifier B)) (ns : List (syntax.Modifier D)) → bare_modifiers ns ≡ bare_modifiers ms
    → is_static_member b ms ≡ is_static_member d ns
static_bare b d ms ns q = ap (list_any is_static_word) (sym (words_same ms ns q))

-- ---- which trees are bare so

module _ {D : Type 0} where
  params_back : (y : List (syntax.Param D)) (p : syntax.Param Bare) (ps : List (syntax.Param Bare)) → bare_params y ≡ p ∷ ps
      → (q : syntax.Param D) × (qs : List (syntax.Param D)) × (y ≡ q ∷ qs) × (bare_param q ≡ p) × (bare_params qs ≡ ps)
  params_back [] p ps e = absurd cc
  params_back (q ∷ qs) p ps e = (q, qs, refl, cc, cc)

  no_params_back : (y : List (syntax.Param D)) → bare_params y ≡ [] → y ≡ []
  no_params_back [] e = refl
  no_params_back (q ∷ qs) e = absurd cc

  no_type_back : (y : Option (tree.TypeName D)) → bare_maybe_type y ≡ None → y ≡ None
  no_type_back None e = refl
  no_type_back (Some t) e = absurd cc

  type_back : (y : Option (tree.TypeName D)) (t : tree.TypeName Bare) → bare_maybe_type y ≡ Some t → (u : tree.TypeName D) × (y ≡ Some u) × (bare_type u ≡ t)
  type_back None t e = absurd cc
  type_back (Some u) t e = (u, refl, cc)

  no_args_back : (y : Option (tree.Exps D)) → bare_maybe_args y ≡ None → y ≡ None
  no_args_back None e = refl
  no_args_back (Some t) e = absurd cc

  args_back : (y : Option (tree.Exps D)) (t : tree.Exps Bare) → bare_maybe_args y ≡ Some t → (u : tree.Exps D) × (y ≡ Some u) × (bare_args u ≡ t)
  args_back None t e = absurd cc
  args_back (Some u) t e = (u, refl, cc)

  field_back : (y : syntax.Member D) (ms : List (syntax.Modifier Bare)) (t : tree.TypeName Bare) (w : tree.Word Bare) (x : Option (tree.Exp Bare)) → bare_member y ≡ syntax.field tt ms t w x
      → (k : D) × (ns : List (syntax.Modifier D)) × (u : tree.TypeName D) × (v : tree.Word D) × (z : Option (tree.Exp D)) × (y ≡ syntax.field k ns u v z) × (bare_modifiers ns ≡ ms)
      × (bare_type u ≡ t) × (bare_word v ≡ w) × (bare_maybe z ≡ x)
  unfolding map_member map_members map_class
  field_back (syntax.field k ns u v z) ms t w x e = (k, ns, u, v, z, refl, cc, cc, cc, cc)
  field_back _ ms t w x e = absurd cc

  method_back : (y : syntax.Member D) (ms : List (syntax.Modifier Bare)) (t : Option (tree.TypeName Bare)) (w : tree.Word Bare) (ps : List (syntax.Param Bare)) (body : statement.Stmts Bare)
      → bare_member y ≡ syntax.method tt ms t w ps body
      → (k : D) × (ns : List (syntax.Modifier D)) × (u : Option (tree.TypeName D)) × (v : tree.Word D) × (qs : List (syntax.Param D)) × (z : statement.Stmts D)
      × (y ≡ syntax.method k ns u v qs z) × (bare_modifiers ns ≡ ms) × (bare_maybe_type u ≡ t) × (bare_word v ≡ w) × (bare_params qs ≡ ps) × (bare_stmts z ≡ body)
  unfolding map_member map_members map_class
  method_back (syntax.method k ns u v qs z) ms t w ps body e = (k, ns, u, v, qs, z, refl, cc, cc, cc, cc, cc)
  method_back _ ms t w ps body e = absurd cc

  constructor_back : (y : syntax.Member D) (ms : List (syntax.Modifier Bare)) (w : tree.Word Bare) (ps : List (syntax.Param Bare)) (es : Option (tree.Exps Bare)) (body : statement.Stmts Bare)
      → bare_member y ≡ syntax.constructor tt ms w ps es body
      → (k : D) × (ns : List (syntax.Modifier D)) × (v : tree.Word D) × (qs : List (syntax.Param D)) × (xs : Option (tree.Exps D)) × (z : statement.Stmts D)
      × (y ≡ syntax.constructor k ns v qs xs z) × (bare_modifiers ns ≡ ms) × (bare_word v ≡ w) × (bare_params qs ≡ ps) × (bare_maybe_args xs ≡ es) × (bare_stmts z ≡ body)
  unfolding map_member map_members map_class
  constructor_back (syntax.constructor k ns v qs xs z) ms w ps es body e = (k, ns, v, qs, xs, z, refl, cc, cc, cc, cc, cc)
  constructor_back _ ms w ps es body e = absurd cc

  inner_back : (y : syntax.Member D) (c : syntax.Class Bare) → bare_member y ≡ syntax.inner tt c → (k : D) × (d : syntax.Class D) × (y ≡ syntax.inner k d) × (bare_class d ≡ c)
  unfolding map_member map_members map_class
  inner_back (syntax.inner k d) c e = (k, d, refl, cc)
  inner_back _ c e = absurd cc

  class_back : (y : syntax.Class D) (ms : List (syntax.Modifier Bare)) (w : tree.Word Bare) (t : Option (tree.TypeName Bare)) (xs : syntax.Members Bare) → bare_class y ≡ syntax.class tt ms w t xs
      → (k : D) × (ns : List (syntax.Modifier D)) × (v : tree.Word D) × (u : Option (tree.TypeName D)) × (zs : syntax.Members D) × (y ≡ syntax.class k ns v u zs) × (bare_modifiers ns ≡ ms)
      × (bare_word v ≡ w) × (bare_maybe_type u ≡ t) × (bare_members zs ≡ xs)
  unfolding map_member map_members map_class
  class_back (syntax.class k ns v u zs) ms w t xs e = (k, ns, v, u, zs, refl, cc, cc, cc, cc)

  end_back : (y : syntax.Members D) → bare_members y ≡ syntax.end → y ≡ syntax.end
  unfolding map_member map_members map_class
  end_back syntax.end e = refl
  end_back _ e = absurd cc

  more_back : (y : syntax.Members D) (x : syntax.Member Bare) (xs : syntax.Members Bare) → bare_members y ≡ syntax.more x xs
      → (z : syntax.Member D) × (zs : syntax.Members D) × (y ≡ syntax.more z zs) × (bare_member z ≡ x) × (bare_members zs ≡ xs)
  unfolding map_member map_members map_class
  more_back (syntax.more z zs) x xs e = (z, zs, refl, cc, cc)
  more_back _ x xs e = absurd cc

  no_classes_back : (y : List (syntax.Class D)) → bare_classes y ≡ [] → y ≡ []
  no_classes_back [] e = refl
  no_classes_back (z ∷ zs) e = absurd cc

  classes_back : (y : List (syntax.Class D)) (c : syntax.Class Bare) (cs : List (syntax.Class Bare)) → bare_classes y ≡ c ∷ cs
      → (z : syntax.Class D) × (zs : List (syntax.Class D)) × (y ≡ z ∷ zs) × (bare_class z ≡ c) × (bare_classes zs ≡ cs)
  classes_back [] c cs e = absurd cc
  classes_back (z ∷ zs) c cs e = (z, zs, refl, cc, cc)

-- ---- members

-- P, T, S and H hold of what is equal but for marks, wherever it begins
module _ {A B D : Type 0} (begins : A → ℕ → ℕ) (begins' : B → ℕ → ℕ) (begins'' : D → ℕ → ℕ)
    (P : Context → Context → Role → (base : ℕ) → tree.Exp A → (base' : ℕ) → tree.Exp B → Type 0)
    (T : Context → Context → (base : ℕ) → tree.TypeName A → (base' : ℕ) → tree.TypeName B → Type 0)
    (S : Context → Context → tree.Exps A → tree.Exps B → Type 0)
    (H : Option (List ℕ) → (base : ℕ) → tree.TypeName A → (base' : ℕ) → tree.TypeName B → Type 0)
    (P' : Context → Context → Role → (base : ℕ) → tree.Exp A → (base' : ℕ) → tree.Exp D → Type 0)
    (T' : Context → Context → (base : ℕ) → tree.TypeName A → (base' : ℕ) → tree.TypeName D → Type 0)
    (S' : Context → Context → tree.Exps A → tree.Exps D → Type 0)
    (H' : Option (List ℕ) → (base : ℕ) → tree.TypeName A → (base' : ℕ) → tree.TypeName D → Type 0)
    (to : MemberKey → MemberKey)
    (p : (c d : Context) (r : Role) (b : ℕ) (e : tree.Exp A) (i j : ℕ) (y : tree.Exp B) (z : tree.Exp D) → bare y ≡ bare z → P c d r b e i y → P' c d r b e j z)
    (t : (c d : Context) (b : ℕ) (u : tree.TypeName A) (i j : ℕ) (y : tree.TypeName B) (z : tree.TypeName D) → bare_type y ≡ bare_type z → T c d b u i y → T' c d b u j z)
    (s : (c d : Context) (es : tree.Exps A) (y : tree.Exps B) (z : tree.Exps D) → bare_args y ≡ bare_args z → S c d es y → S' c d es z)
    (h : (outer : Option (List ℕ)) (b : ℕ) (u : tree.TypeName A) (i j : ℕ) (y : tree.TypeName B) (z : tree.TypeName D) → bare_type y ≡ bare_type z → H outer b u i y → H' outer b u j z)
  where
    params_bare : (k : MemberKey) (b i j : ℕ) (ps : List (syntax.Param A)) (y : List (syntax.Param B)) (z : List (syntax.Param D)) → bare_params y ≡ bare_params z
        → AlongParams begins begins' P T S H to k b i ps y → AlongParams begins begins'' P' T' S' H' to k b j ps z
    params_bare k b i j [] y z q w = no_params_back z (sym q ∙ ap bare_params w)
    params_bare k b i j (x ∷ ps) y z q w =
        let r = params_back z (bare_param w.0) (bare_params w.1) (sym q ∙ ap bare_params w.2) in
        let finals : r.0.is_final ≡ w.0.is_final = ap (λ (v : syntax.Param Bare). v.is_final) r.3 in
        let types : bare_type w.0.type ≡ bare_type r.0.type = sym (ap (λ (v : syntax.Param Bare). v.type) r.3) in (
          r.0,
          r.1,
          r.2,
          finals ∙ w.3,
          t (plain k false) (plain (to k) false) (begins x.mark b) x.type (begins' w.0.mark i) (begins'' r.0.mark j) w.0.type r.0.type types w.4,
          params_bare k b i j ps w.1 r.1 (sym r.4) w.5,
        )

    result_bare : (k : MemberKey) (b i j : ℕ) (u : Option (tree.TypeName A)) (y : Option (tree.TypeName B)) (z : Option (tree.TypeName D)) → bare_maybe_type y ≡ bare_maybe_type z
        → AlongResult begins begins' P T S H to k b i u y → AlongResult begins begins'' P' T' S' H' to k b j u z
    result_bare k b i j None y z q w = no_type_back z (sym q ∙ ap bare_maybe_type w)
    result_bare k b i j (Some u) y z q w =
        let r = type_back z (bare_type w.0) (sym q ∙ ap bare_maybe_type w.1) in
        (r.0, r.1, t (plain k false) (plain (to k) false) b u i j w.0 r.0 (sym r.2) w.2)

    super_bare : (c d : Context) (b i j : ℕ) (es : Option (tree.Exps A)) (y : Option (tree.Exps B)) (z : Option (tree.Exps D)) → bare_maybe_args y ≡ bare_maybe_args z
        → AlongSuper begins begins' P T S H to c d b i es y → AlongSuper begins begins'' P' T' S' H' to c d b j es z
    super_bare c d b i j None y z q w = no_args_back z (sym q ∙ ap bare_maybe_args w)
    super_bare c d b i j (Some es) y z q w =
        let r = args_back z (bare_args w.0) (sym q ∙ ap bare_maybe_args w.1) in
        (r.0, r.1, s c d es w.0 r.0 (sym r.2) w.2, row_bare begins begins' begins'' P T P' T' p t c d b i j es w.0 r.0 (sym r.2) w.3)

    parent_bare : (outer : Option (List ℕ)) (b i j : ℕ) (u : Option (tree.TypeName A)) (y : Option (tree.TypeName B)) (z : Option (tree.TypeName D)) → bare_maybe_type y ≡ bare_maybe_type z
        → AlongParent begins begins' P T S H to outer b i u y → AlongParent begins begins'' P' T' S' H' to outer b j u z
    parent_bare outer b i j None y z q w = no_type_back z (sym q ∙ ap bare_maybe_type w)
    parent_bare outer b i j (Some u) y z q w =
        let r = type_back z (bare_type w.0) (sym q ∙ ap bare_maybe_type w.1) in
        (r.0, r.1, h outer b u i j w.0 r.0 (sym r.2) w.2)

    -- a member that is no class
    pub plain_member_bare : (k : MemberKey) (b i j : ℕ) (x : syntax.Member A) (y : syntax.Member B) (z : syntax.Member D) → bare_member y ≡ bare_member z
        → AlongMember begins begins' P T S H to k b i x y → AlongMember begins begins'' P' T' S' H' to k b j x z
    unfolding map_member map_members map_class
    plain_member_bare k b i j (syntax.field m mods u w init) y z q a =
        let r = field_back z (bare_modifiers a.1) (bare_type a.2) (bare_word a.3) (bare_maybe a.4) (sym q ∙ ap bare_member a.5) in
        let statics = static_bare begins' begins'' a.1 r.1 r.6 in
        let there = maybe_bare begins begins' begins'' P T P' T' p t (plain k (is_static_member begins mods)) (plain (to k) (is_static_member begins' a.1)) (begins m b) (begins' a.0 i) (begins'' r.0 j) init a.4 r.4 (sym r.9) a.8 in (
          r.0,
          r.1,
          r.2,
          r.3,
          r.4,
          r.5,
          words_same a.1 r.1 r.6 ∙ a.6,
          t (plain k false) (plain (to k) false) (begins m b) u (begins' a.0 i) (begins'' r.0 j) a.2 r.2 (sym r.7) a.7,
          subst (λ is_static. AlongMaybe begins begins'' P' T' (plain k (is_static_member begins mods)) (plain (to k) is_static) (begins m b) (begins'' r.0 j) init r.4) statics there,
        )
    plain_member_bare k b i j (syntax.method m mods u w ps body) y z q a =
        let r = method_back z (bare_modifiers a.1) (bare_maybe_type a.2) (bare_word a.3) (bare_params a.4) (bare_stmts a.5) (sym q ∙ ap bare_member a.6) in
        let old : Context = with_parameters k (is_static_member begins mods) ps in
        let same : with_parameters (to k) (is_static_member begins' a.1) a.4 ≡ with_parameters (to k) (is_static_member begins'' r.1) r.4 =
        with_parameters_bare (to k) (is_static_member begins' a.1) a.4 r.4 r.10 ∙ ap (λ is_static. with_parameters (to k) is_static r.4) (static_bare begins' begins'' a.1 r.1 r.7) in
        let there = stmts_bare begins begins' begins'' P T P' T' p t (length ps) old (with_parameters (to k) (is_static_member begins' a.1) a.4) (begins m b) (begins' a.0 i) (begins'' r.0 j) body a.5 r.5 (sym r.11) a.10 in (
          r.0,
          r.1,
          r.2,
          r.3,
          r.4,
          r.5,
          r.6,
          words_same a.1 r.1 r.7 ∙ a.7,
          result_bare k (begins m b) (begins' a.0 i) (begins'' r.0 j) u a.2 r.2 (sym r.8) a.8,
          params_bare k (begins m b) (begins' a.0 i) (begins'' r.0 j) ps a.4 r.4 (sym r.10) a.9,
          subst (λ c. AlongStmts begins begins'' P' T' (length ps) old c (begins m b) (begins'' r.0 j) body r.5) same there,
        )
    plain_member_bare k b i j (syntax.constructor m mods w ps args body) y z q a =
        let r = constructor_back z (bare_modifiers a.1) (bare_word a.2) (bare_params a.3) (bare_maybe_args a.4) (bare_stmts a.5) (sym q ∙ ap bare_member a.6) in
        let first = with_parameters_bare (to k) true a.3 r.3 r.9 in
        let second = with_parameters_bare (to k) false a.3 r.3 r.9 in
        let called = super_bare (with_parameters k true ps) (with_parameters (to k) true a.3) (begins m b) (begins' a.0 i) (begins'' r.0 j) args a.4 r.4 (sym r.10) a.9 in
        let there = stmts_bare begins begins' begins'' P T P' T' p t (length ps) (with_parameters k false ps) (with_parameters (to k) false a.3) (begins m b) (begins' a.0 i) (begins'' r.0 j) body a.5 r.5 (sym r.11) a.10 in (
          r.0,
          r.1,
          r.2,
          r.3,
          r.4,
          r.5,
          r.6,
          words_same a.1 r.1 r.7 ∙ a.7,
          params_bare k (begins m b) (begins' a.0 i) (begins'' r.0 j) ps a.3 r.3 (sym r.9) a.8,
          subst (λ c. AlongSuper begins begins'' P' T' S' H' to (with_parameters k true ps) c (begins m b) (begins'' r.0 j) args r.4) first called,
          subst (λ c. AlongStmts begins begins'' P' T' (length ps) (with_parameters k false ps) c (begins m b) (begins'' r.0 j) body r.5) second there,
        )
    plain_member_bare k b i j (syntax.inner m of) y z q a = absurd a

    module _ (declarations : List DeclaredItem) where
      mutual
        unfolding AlongClass AlongMembers AlongOne map_member map_members map_class

        pub class_bare : (b i j : ℕ) (outer : Option (List ℕ)) (x : syntax.Class A) (y : syntax.Class B) (z : syntax.Class D) → bare_class y ≡ bare_class z
            → AlongClass begins begins' P T S H to declarations b i outer x y → AlongClass begins begins'' P' T' S' H' to declarations b j outer x z
        class_bare b i j outer (syntax.class m mods w u xs) y z q a =
            let r = class_back z (bare_modifiers a.1) (bare_word a.2) (bare_maybe_type a.3) (bare_members a.4) (sym q ∙ ap bare_class a.5) in (
              r.0,
              r.1,
              r.2,
              r.3,
              r.4,
              r.5,
              words_same a.1 r.1 r.6 ∙ a.6,
              parent_bare outer (begins m b) (begins' a.0 i) (begins'' r.0 j) u a.3 r.3 (sym r.8) a.7,
              members_bare (begins m b) (begins' a.0 i) (begins'' r.0 j) (class_key begins outer w.text) xs a.4 r.4 (sym r.9) a.8,
            )

        members_bare : (b i j : ℕ) (of : ClassKey) (xs : syntax.Members A) (y : syntax.Members B) (z : syntax.Members D) → bare_members y ≡ bare_members z
            → AlongMembers begins begins' P T S H to declarations b i of xs y → AlongMembers begins begins'' P' T' S' H' to declarations b j of xs z
        members_bare b i j of syntax.end y z q a = end_back z (sym q ∙ ap bare_members a)
        members_bare b i j of (syntax.more x xs) y z q a =
            let r = more_back z (bare_member a.0) (bare_members a.1) (sym q ∙ ap bare_members a.2) in
            (r.0, r.1, r.2, one_bare b i j of x a.0 r.0 (sym r.3) a.3, members_bare b i j of xs a.1 r.1 (sym r.4) a.4)

        one_bare : (b i j : ℕ) (of : ClassKey) (x : syntax.Member A) (y : syntax.Member B) (z : syntax.Member D) → bare_member y ≡ bare_member z
            → AlongOne begins begins' P T S H to declarations b i of x y → AlongOne begins begins'' P' T' S' H' to declarations b j of x z
        one_bare b i j of (syntax.inner m c) y z q a =
            let r = inner_back z (bare_class a.1) (sym q ∙ ap bare_member a.2) in
            (r.0, r.1, r.2, class_bare (begins m b) (begins' a.0 i) (begins'' r.0 j) (Some of.name) c a.1 r.1 (sym r.3) a.3)
        one_bare b i j of (syntax.field m mods u w init) y z q a = (a.0, a.1, plain_member_bare a.0 b i j (syntax.field m mods u w init) y z q a.2)
        one_bare b i j of (syntax.method m mods u w ps body) y z q a = (a.0, a.1, plain_member_bare a.0 b i j (syntax.method m mods u w ps body) y z q a.2)
        one_bare b i j of (syntax.constructor m mods w ps args body) y z q a = (a.0, a.1, plain_member_bare a.0 b i j (syntax.constructor m mods w ps args body) y z q a.2)

      classes_bare : (b i j : ℕ) (xs : List (syntax.Class A)) (y : List (syntax.Class B)) (z : List (syntax.Class D)) → bare_classes y ≡ bare_classes z
          → AlongClasses begins begins' P T S H to declarations b i xs y → AlongClasses begins begins'' P' T' S' H' to declarations b j xs z
      classes_bare b i j [] y z q a = no_classes_back z (sym q ∙ ap bare_classes a)
      classes_bare b i j (c ∷ cs) y z q a =
          let r = classes_back z (bare_class a.0) (bare_classes a.1) (sym q ∙ ap bare_classes a.2) in
          (r.0, r.1, r.2, class_bare b i j None c a.0 r.0 (sym r.3) a.3, classes_bare b i j cs a.1 r.1 (sym r.4) a.4)

      pub unit_bare : (u : syntax.Unit A) (y : syntax.Unit B) (z : syntax.Unit D) → bare_unit y ≡ bare_unit z → AlongUnit begins begins' P T S H to declarations u y
          → AlongUnit begins begins'' P' T' S' H' to declarations u z
      unit_bare u y z q a =
          classes_bare (begins u.mark 0) (begins' y.mark 0) (begins'' z.mark 0) u.classes y.classes z.classes (ap (λ (v : syntax.Unit Bare). v.classes) q) a
