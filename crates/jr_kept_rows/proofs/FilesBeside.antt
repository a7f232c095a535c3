-- Where heads are rewritten to themselves, what is read as the new trees declares what the old trees
-- declare, and has the initializers of their fields.
use Rattle.std.proofs.Common.{◌≡◌, ℕ, List, [], ◌∷◌, Option, Some, None, refl, sym, ap, ◌∙◌, inl, inr}
use Rattle.std.specs.Prelude.{◌⊎◌, map, option_map, is_some}
use Rattle.std.proofs.lemmas.Option.{same_Some}
use Rattle.jr_text.specs.declared.spans.Span.{Span}
use Rattle.jr_ast.specs.Tree as tree
use Rattle.jr_ast.specs.StatementTree as statement
use Rattle.jr_ast.specs.MemberTree as syntax
use Rattle.jr_ast.specs.Remarked.{map_modifier, map_type, map_param, map_exp, map_member, map_class, map_members, map_unit}
use Rattle.jr_grammar.specs.Layout.{itself}
use Rattle.jr_table.specs.Keys.{ClassKey}
use Rattle.jr_table.specs.Decls.{MemberKey, head}
use Rattle.jr_table.specs.DeclaredItems.{written, words, param_declaration, init_declaration, class_key, member_declarations, DeclaredItem}
use Rattle.jr_table.specs.Errors.{Part, class_part, member_part, Declares, InClass, InMembers, InInner, InClasses}
use Rattle.jr_members.proofs.Anywhere.{IsAt}
use Rattle.jr_program_laws.specs.FileParts.{begins}
use Rattle.jr_rewrite.specs.Rewritten.{Rewritten}
use Rattle.jr_rewrite.specs.Spots.{Spotted, nowhere, spotted, OrMembers, OrClass}
use Rattle.jr_rewrite.specs.Rewrites.{Choosing, RewritesHead, TransformsMember, TransformsClass, TransformsMembers, TransformsOne, TransformsClasses, TransformsUnit}
use Rattle.jr_kept_references.specs.MembersAlong.{MembersStay, ClassStays}
use Rattle.jr_one_plans.proofs.OneSpot.{SpottedAgree}
use Rattle.jr_rename_laws.specs.ImageLaws.{no_mark}
use Rattle.jr_rename_laws.specs.Beside.{ClassBeside, MembersBeside, MemberBeside, ClassesBeside}
use Rattle.jr_kept_rows.proofs.BareTrees.{cons_head, cons_rest, Bare, mods_in, name_in, params_in, type_in, init_in, class_mods, class_name, class_parent, class_members, front_in, word_in, same_front}
use Rattle.jr_kept_rows.proofs.SameClasses.{Alike, MaybeAlike}
use Rattle.jr_kept_rows.proofs.SameItems.{ParamsTo}
use Rattle.jr_kept_rows.proofs.ItemsBeside.{Head, Both}
use Rattle.jr_kept_rows.proofs.Heads.{Kept}

-- ---- no spot is made of members or of a class

no_members : (S : Spotted Span) → SpottedAgree S S → ((base : ℕ) (of : ClassKey) (xs : syntax.Members Span) → MembersStay S base of xs) → (base : ℕ) (of : ClassKey) (xs : syntax.Members Span) (o : Rewritten (syntax.Members Span)) (N : Type 0) → OrMembers S base of xs o N → N
no_members nowhere agree stay base of xs o N h = h
no_members (spotted s) agree stay base of xs o N (inl h) = h.1
no_members (spotted s) agree stay base of xs o N (inr h) = absurd (agree.members_here base of xs o h (stay base of xs))

no_class : (S : Spotted Span) → SpottedAgree S S → ((base : ℕ) (outer : Option (List ℕ)) (c : syntax.Class Span) → ClassStays S base outer c) → (base : ℕ) (outer : Option (List ℕ)) (c : syntax.Class Span) (o : Rewritten (syntax.Class Span)) (N : Type 0) → OrClass S base outer c o N → N
no_class nowhere agree stay base outer c o N h = h
no_class (spotted s) agree stay base outer c o N (inl h) = h.1
no_class (spotted s) agree stay base outer c o N (inr h) = absurd (agree.whole_here base outer c o h (stay base outer c))

-- ---- what is written

abbrev nowhere_at : Bare → ℕ → ℕ
nowhere_at m b = 0

alike_types : (b i : ℕ) (t u : tree.TypeName Span) → map_type no_mark u ≡ map_type no_mark t → Alike (written begins b t) (written begins i u)
alike_types b i (tree.int m) (tree.int k) e = tt
alike_types b i (tree.int m) (tree.boolean k) e = absurd cc
alike_types b i (tree.int m) (tree.named k p v) e = absurd cc
alike_types b i (tree.boolean m) (tree.int k) e = absurd cc
alike_types b i (tree.boolean m) (tree.boolean k) e = tt
alike_types b i (tree.boolean m) (tree.named k p v) e = absurd cc
alike_types b i (tree.named m o w) (tree.int k) e = absurd cc
alike_types b i (tree.named m o w) (tree.boolean k) e = absurd cc
alike_types b i (tree.named m o w) (tree.named k p v) e = (same_front o p (ap front_in e), sym (ap word_in e))

alike_maybe : (b i : ℕ) (t u : Option (tree.TypeName Span)) → option_map (map_type no_mark) u ≡ option_map (map_type no_mark) t → MaybeAlike (option_map (written begins b) t) (option_map (written begins i) u)
alike_maybe b i None None e = tt
alike_maybe b i None (Some u) e = absurd cc
alike_maybe b i (Some t) None e = absurd cc
alike_maybe b i (Some t) (Some u) e = alike_types b i t u (same_Some _ _ e)

words_bare : (mods : List (syntax.Modifier Span)) → words nowhere_at (map (map_modifier no_mark) mods) ≡ words begins mods
words_bare [] = refl
words_bare (m ∷ ms) = ap (λ ws. m.word ∷ ws) (words_bare ms)

same_words : (mods nods : List (syntax.Modifier Span)) → map (map_modifier no_mark) nods ≡ map (map_modifier no_mark) mods → words begins nods ≡ words begins mods
same_words mods nods e = sym (words_bare nods) ∙ ap (words nowhere_at) e ∙ words_bare mods

maybe_bare : (e : Option (tree.Exp Span)) → is_some (option_map (map_exp no_mark) e) ≡ is_some e
maybe_bare None = refl
maybe_bare (Some e) = refl

maybe_declared : (at : ℕ) (e : Option (tree.Exp Span)) → is_some (option_map (init_declaration begins at) e) ≡ is_some e
maybe_declared at None = refl
maybe_declared at (Some e) = refl

params_go : (at j : ℕ) (ps qs : List (syntax.Param Span)) → map (map_param no_mark) qs ≡ map (map_param no_mark) ps → ParamsTo (map (param_declaration begins at) ps) (map (param_declaration begins j) qs)
params_go at j [] [] e = tt
params_go at j [] (q ∷ qs) e = absurd cc
params_go at j (p ∷ ps) [] e = absurd cc
params_go at j (p ∷ ps) (q ∷ qs) e =
    let here = cons_head _ _ _ _ e in
    (alike_types (begins p.mark at) (begins q.mark j) p.type q.type (ap (λ (x : syntax.Param Bare). x.type) here), params_go at j ps qs (cons_rest _ _ _ _ e))

-- ---- members that are no classes

module _ (b i : ℕ) (of of' : ClassKey) (same : of' ≡ of) where
  field_goes : (m : Span) (mods : List (syntax.Modifier Span)) (t : tree.TypeName Span) (w : tree.Word Span) (init : Option (tree.Exp Span)) (y : syntax.Member Span) → map_member no_mark y ≡ map_member no_mark (syntax.field m mods t w init)
      → Both b i of of' (syntax.field m mods t w init) y
  unfolding map_member member_declarations
  field_goes m mods t w init (syntax.field k nods u z form) e = (
    (
      record {
        of = same;
        name = ap name_in e;
        words = same_words mods nods (ap mods_in e);
        type = alike_types (begins m b) (begins k i) t u (same_Some _ _ (ap type_in e));
        init = maybe_declared (begins k i) form ∙ sym (maybe_bare form) ∙ ap (λ (x : syntax.Member Bare). is_some (init_in x)) e ∙ maybe_bare init ∙ sym (maybe_declared (begins m b) init);
      },
      tt,
    ),
    (same, e),
  )
  field_goes m mods t w init (syntax.method k nods u z ps body) e = absurd cc
  field_goes m mods t w init (syntax.constructor k nods z ps args body) e = absurd cc
  field_goes m mods t w init (syntax.inner k c) e = absurd cc

  method_goes : (m : Span) (mods : List (syntax.Modifier Span)) (t : Option (tree.TypeName Span)) (w : tree.Word Span) (ps : List (syntax.Param Span)) (body now : statement.Stmts Span) → (y : syntax.Member Span) → map_member no_mark y ≡ map_member no_mark (syntax.method m mods t w ps now) → Both b i of of' (syntax.method m mods t w ps body) y
  unfolding map_member member_declarations
  method_goes m mods t w ps body now (syntax.method k nods u z qs rest) e = (
    (
      record {
        of = same;
        words = same_words mods nods (ap mods_in e);
        result = alike_maybe (begins m b) (begins k i) t u (ap type_in e);
        name = ap name_in e;
        params = params_go (begins m b) (begins k i) ps qs (ap params_in e);
      },
      tt,
    ),
    tt,
  )
  method_goes m mods t w ps body now (syntax.field k nods u z form) e = absurd cc
  method_goes m mods t w ps body now (syntax.constructor k nods z qs args rest) e = absurd cc
  method_goes m mods t w ps body now (syntax.inner k c) e = absurd cc

  ctor_goes : (m : Span) (mods : List (syntax.Modifier Span)) (w : tree.Word Span) (ps : List (syntax.Param Span)) (args given : Option (tree.Exps Span)) (body now : statement.Stmts Span) → (y : syntax.Member Span) → map_member no_mark y ≡ map_member no_mark (syntax.constructor m mods w ps given now) → Both b i of of' (syntax.constructor m mods w ps args body) y
  unfolding map_member member_declarations
  ctor_goes m mods w ps args given body now (syntax.constructor k nods z qs others rest) e = (
    (
      record {
        of = same;
        words = same_words mods nods (ap mods_in e);
        params = params_go (begins m b) (begins k i) ps qs (ap params_in e);
      },
      tt,
    ),
    tt,
  )
  ctor_goes m mods w ps args given body now (syntax.field k nods u z form) e = absurd cc
  ctor_goes m mods w ps args given body now (syntax.method k nods u z qs rest) e = absurd cc
  ctor_goes m mods w ps args given body now (syntax.inner k c) e = absurd cc

-- ---- classes of a file

module _ (ss : List DeclaredItem) (C : Choosing Span) (S : Spotted Span) (agree : SpottedAgree S S) (no_spot : (base : ℕ) (of : ClassKey) (xs : syntax.Members Span) → MembersStay S base of xs) (no_whole : (base : ℕ) (outer : Option (List ℕ)) (c : syntax.Class Span) → ClassStays S base outer c)
    (Good : MemberKey → (base : ℕ) → Part Span → Type 0)
    (heads : (outer : Option (List ℕ)) (base : ℕ) (m : Span) (mods : List (syntax.Modifier Span)) (w : tree.Word Span) (u : Option (tree.TypeName Span)) (ms : syntax.Members Span) → Good (head (class_key begins outer w.text)) base (class_part (syntax.class m mods w u ms))
    → (o : Rewritten (tree.Word Span × Option (tree.TypeName Span))) → RewritesHead itself C outer base (syntax.class m mods w u ms) o → (o.tree.0 ≡ w) × (o.tree.1 ≡ u))
    (members : (k : MemberKey) (base : ℕ) (y : syntax.Member Span) → Good k base (member_part y) → (o : Rewritten (syntax.Member Span)) → TransformsMember itself C S k base y o → Kept y o.tree) where
  -- each member that is written there is good
  abbrev pub AllGood : ((MemberKey → ℕ → Part Span → Type 0) → MemberKey → Type 0) → Type 0
  AllGood In = (k : MemberKey) (base : ℕ) (part : Part Span) → In (IsAt base part) k → Good k base part

  mutual
    unfolding TransformsClass TransformsMembers TransformsOne ClassBeside MembersBeside MemberBeside map_member map_class map_members InClass InMembers InInner

    class_goes : (b i : ℕ) (outer outer' : Option (List ℕ)) → outer' ≡ outer → (c : syntax.Class Span) → AllGood (λ P. InClass begins ss P b outer c) → (o : Rewritten (syntax.Class Span)) → TransformsClass itself C S ss b outer c o
        → (d : syntax.Class Span) → map_class no_mark d ≡ map_class no_mark o.tree → ClassBeside begins begins Head Both b i outer outer' c d
    class_goes b i outer outer' same (syntax.class m mods w t ms) good o (p, q, made, spot, is) (syntax.class k nods x u ns) e =
        let f = e ∙ ap (λ (y : Rewritten (syntax.Class Span)). map_class no_mark y.tree) is in
        let kept = heads outer b m mods w t ms (good (head (class_key begins outer w.text)) b (class_part (syntax.class m mods w t ms)) (inl (refl, (refl, refl)))) p made in
        let text : x.text ≡ w.text = ap class_name f ∙ ap (λ (y : tree.Word Span). y.text) kept.0 in
        let key : class_key begins outer' x.text ≡ class_key begins outer w.text = λ j. record { outer = same j; name = text j } in
        let inside = no_members S agree no_spot (begins m b) (class_key begins outer w.text) ms q (TransformsMembers itself C S ss (begins m b) (class_key begins outer w.text) ms q) spot in (
          (key, same_words mods nods (ap class_mods f), alike_maybe (begins m b) (begins k i) t u (ap class_parent f ∙ ap (option_map (map_type no_mark)) kept.1)),
          members_go (begins m b) (begins k i) (class_key begins outer w.text) (class_key begins outer' x.text) key ms (λ j n part h. good j n part (inr h)) q inside ns (ap class_members f),
        )

    members_go : (b i : ℕ) (of of' : ClassKey) → of' ≡ of → (xs : syntax.Members Span) → AllGood (λ P. InMembers begins ss P b of xs) → (o : Rewritten (syntax.Members Span)) → TransformsMembers itself C S ss b of xs o
        → (ys : syntax.Members Span) → map_members no_mark ys ≡ map_members no_mark o.tree → MembersBeside begins begins Head Both b i of of' xs ys
    members_go b i of of' same syntax.end good o is syntax.end e = tt
    members_go b i of of' same syntax.end good o is (syntax.more y ys) e = let f = e ∙ ap (λ (x : Rewritten (syntax.Members Span)). map_members no_mark x.tree) is in absurd cc
    members_go b i of of' same (syntax.more x xs) good o (p, q, one, spot, is) syntax.end e = let f = e ∙ ap (λ (x : Rewritten (syntax.Members Span)). map_members no_mark x.tree) is in absurd cc
    members_go b i of of' same (syntax.more x xs) good o (p, q, one, spot, is) (syntax.more y ys) e =
        let f : syntax.more (map_member no_mark y) (map_members no_mark ys) ≡ syntax.more (map_member no_mark p.tree) (map_members no_mark q.tree) = e ∙ ap (λ (x : Rewritten (syntax.Members Span)). map_members no_mark x.tree) is in
        let here : map_member no_mark y ≡ map_member no_mark p.tree = cc in
        let rest : map_members no_mark ys ≡ map_members no_mark q.tree = cc in
        let more = no_members S agree no_spot b of xs q (TransformsMembers itself C S ss b of xs q) spot in
        (one_goes b i of of' same x (λ j n part h. good j n part (inl h)) p one y here, members_go b i of of' same xs (λ j n part h. good j n part (inr h)) q more ys rest)

    one_goes : (b i : ℕ) (of of' : ClassKey) → of' ≡ of → (x : syntax.Member Span) → AllGood (λ P k. (Declares begins ss b of x k × P k b (member_part x)) ⊎ InInner begins ss P b of x k) → (o : Rewritten (syntax.Member Span)) → TransformsOne itself C S ss b of x o
        → (y : syntax.Member Span) → map_member no_mark y ≡ map_member no_mark o.tree → MemberBeside begins begins Head Both b i of of' x y
    one_goes b i of of' same (syntax.field m mods t w init) good o (k, is, made) y e =
        let kept = members k b (syntax.field m mods t w init) (good k b (member_part (syntax.field m mods t w init)) (inl (is, (refl, refl)))) o made in
        field_goes b i of of' same m mods t w init y (e ∙ ap (map_member no_mark) kept)
    one_goes b i of of' same (syntax.method m mods t w ps body) good o (k, is, made) y e =
        let kept = members k b (syntax.method m mods t w ps body) (good k b (member_part (syntax.method m mods t w ps body)) (inl (is, (refl, refl)))) o made in
        method_goes b i of of' same m mods t w ps body kept.0 y (e ∙ ap (map_member no_mark) kept.1)
    one_goes b i of of' same (syntax.constructor m mods w ps args body) good o (k, is, made) y e =
        let kept = members k b (syntax.constructor m mods w ps args body) (good k b (member_part (syntax.constructor m mods w ps args body)) (inl (is, (refl, refl)))) o made in
        ctor_goes b i of of' same m mods w ps args kept.0 body kept.1 y (e ∙ ap (map_member no_mark) kept.2)
    one_goes b i of of' same (syntax.inner m c) good o (p, spot, is) (syntax.inner k d) e =
        let f : syntax.inner tt (map_class no_mark d) ≡ syntax.inner tt (map_class no_mark p.tree) = e ∙ ap (λ (x : Rewritten (syntax.Member Span)). map_member no_mark x.tree) is in
        let here : map_class no_mark d ≡ map_class no_mark p.tree = cc in
        let inside = no_class S agree no_whole (begins m b) (Some of.name) c p (TransformsClass itself C S ss (begins m b) (Some of.name) c p) spot in
        class_goes (begins m b) (begins k i) (Some of.name) (Some of'.name) (ap (λ (z : ClassKey). Some z.name) same) c (λ j n part h. good j n part (inr h)) p inside d here
    one_goes b i of of' same (syntax.inner m c) good o (p, spot, is) (syntax.field k nods u x form) e = let f = e ∙ ap (λ (x : Rewritten (syntax.Member Span)). map_member no_mark x.tree) is in absurd cc
    one_goes b i of of' same (syntax.inner m c) good o (p, spot, is) (syntax.method k nods u x qs rest) e = let f = e ∙ ap (λ (x : Rewritten (syntax.Member Span)). map_member no_mark x.tree) is in absurd cc
    one_goes b i of of' same (syntax.inner m c) good o (p, spot, is) (syntax.constructor k nods x qs given rest) e = let f = e ∙ ap (λ (x : Rewritten (syntax.Member Span)). map_member no_mark x.tree) is in absurd cc

  classes_go : (b i : ℕ) (cs : List (syntax.Class Span)) → AllGood (λ P. InClasses begins ss P b cs) → (o : Rewritten (List (syntax.Class Span))) → TransformsClasses itself C S ss b cs o
      → (ds : List (syntax.Class Span)) → map (map_class no_mark) ds ≡ map (map_class no_mark) o.tree → ClassesBeside begins begins Head Both b i cs ds
  classes_go b i [] good o is [] e = tt
  classes_go b i [] good o is (d ∷ ds) e = let f = e ∙ ap (λ (x : Rewritten (List (syntax.Class Span))). map (map_class no_mark) x.tree) is in absurd cc
  classes_go b i (c ∷ cs) good o (p, q, spot, more, is) [] e = let f = e ∙ ap (λ (x : Rewritten (List (syntax.Class Span))). map (map_class no_mark) x.tree) is in absurd cc
  classes_go b i (c ∷ cs) good o (p, q, spot, more, is) (d ∷ ds) e =
      let f = e ∙ ap (λ (x : Rewritten (List (syntax.Class Span))). map (map_class no_mark) x.tree) is in
      let one = no_class S agree no_whole b None c p (TransformsClass itself C S ss b None c p) spot in (
        class_goes b i None None refl c (λ j n part h. good j n part (inl h)) p one d (cons_head _ _ _ _ f),
        classes_go b i cs (λ j n part h. good j n part (inr h)) q more ds (cons_rest _ _ _ _ f),
      )

  pub unit_goes : (u : syntax.Unit Span) → AllGood (λ P. InClasses begins ss P u.mark.from u.classes) → (o : Rewritten (syntax.Unit Span)) → TransformsUnit itself C S ss u o → (v : syntax.Unit Span) → map_unit no_mark v ≡ map_unit no_mark o.tree
      → ClassesBeside begins begins Head Both (begins u.mark 0) (begins v.mark 0) u.classes v.classes
  unit_goes u good o (p, classes, made) v e =
      classes_go (begins u.mark 0) (begins v.mark 0) u.classes good p classes v.classes
      (ap (λ (x : syntax.Unit Bare). x.classes) e ∙ ap (λ (x : Rewritten (syntax.Unit Span)). map (map_class no_mark) x.tree.classes) made)
