-- The new program's classes and members beside the old ones, where no class is renamed and nothing
-- is lost: what they declare is the same but for the names that the renaming gives.
use Rattle.std.proofs.Common.{◌≡◌, ℕ, suc, List, [], ◌∷◌, ◌++◌, Option, Some, None, Bool, false, refl, sym, ap, subst, ◌∙◌}
use Rattle.std.specs.Prelude.{map, option_map, slice_get}
use Rattle.std.proofs.lemmas.Option.{same_Some}
use Rattle.jr_text.specs.declared.spans.Span.{Span}
use Rattle.jr_ast.specs.Tree as tree
use Rattle.jr_ast.specs.MemberTree as syntax
use Rattle.jr_ast.specs.Remarked.{map_modifier, map_type, map_param, map_exp, map_member, map_class, map_members, map_unit}
use Rattle.jr_table.specs.Keys.{ClassKey, Ty}
use Rattle.jr_table.specs.Decls.{MemberKey, Decl, class_decl, field_decl, method_decl, local_decl}
use Rattle.jr_table.specs.Decls as member
use Rattle.jr_table.specs.Rows.{Row}
use Rattle.jr_table.specs.Context.{Context}
use Rattle.jr_table.specs.HeadRules.{plain, is_static_member}
use Rattle.jr_table.specs.DeclaredItems.{written, words, param_declaration, init_declaration, is_simple, class_key, member_declarations, DeclaredItem}
use Rattle.jr_table.specs.ProgramRows.{MeanTypes}
use Rattle.jr_rewrite.specs.Respellings.{Choice, text_of}
use Rattle.jr_rewrite.specs.Rewritten.{Rewritten}
use Rattle.jr_rewrite.specs.Rewrites.{Choosing, DeclaredOut, RewritesParams, RewritesResult, RewritesMember, RewritesParent, RewritesClass, RewritesMembers, RewritesOne, RewritesClasses, RewritesUnits, TransformsClass, TransformsMembers, TransformsOne}
use Rattle.jr_images.specs.Images.{Renaming, name_to}
use Rattle.jr_images.proofs.KeyImages.{keeps_name}
use Rattle.jr_rename_laws.specs.ImageLaws.{no_mark}
use Rattle.jr_images.specs.Spelling.{spelling}
use Rattle.jr_rename_laws.specs.Beside.{ClassBeside, MembersBeside, MemberBeside, ClassesBeside, UnitsBeside}
use Rattle.jr_rename_laws.proofs.BareTrees.{cons_head, cons_rest, Bare, mods_in, name_in, params_in, type_in, init_in, class_mods, class_name, class_parent, class_members, front_in, word_in, same_front, nowhere, simple_bare}
use Rattle.jr_images.proofs.Chosen.{renamed_text, left_none, right_none}
use Rattle.jr_rename_laws.proofs.SameClasses.{Alike, MaybeAlike}
use Rattle.jr_rename_laws.proofs.DeclarationImages.{forms_of, ParamsTo, ItemsTo}
use Rattle.jr_rename_laws.proofs.TypesStay.{TypesKeep, type_stays, superclass_stays}
use Rattle.jr_rename_laws.proofs.InitsStay.{forms_stay}

module _ {A B : Type 0} (begins : A → ℕ → ℕ) (begins' : B → ℕ → ℕ) where
  abbrev old_type : tree.TypeName A → tree.TypeName Bare
  old_type t = map_type no_mark t

  abbrev new_type : tree.TypeName B → tree.TypeName Bare
  new_type t = map_type no_mark t

  alike_types : (b i : ℕ) (t : tree.TypeName A) (u : tree.TypeName B) → new_type u ≡ old_type t → Alike (written begins b t) (written begins' i u)
  alike_types b i (tree.int m) (tree.int k) e = tt
  alike_types b i (tree.int m) (tree.boolean k) e = absurd cc
  alike_types b i (tree.int m) (tree.named k p v) e = absurd cc
  alike_types b i (tree.boolean m) (tree.int k) e = absurd cc
  alike_types b i (tree.boolean m) (tree.boolean k) e = tt
  alike_types b i (tree.boolean m) (tree.named k p v) e = absurd cc
  alike_types b i (tree.named m o w) (tree.int k) e = absurd cc
  alike_types b i (tree.named m o w) (tree.boolean k) e = absurd cc
  alike_types b i (tree.named m o w) (tree.named k p v) e = (same_front o p (ap front_in e), sym (ap word_in e))

  alike_maybe : (b i : ℕ) (t : Option (tree.TypeName A)) (u : Option (tree.TypeName B)) → option_map new_type u ≡ option_map old_type t → MaybeAlike (option_map (written begins b) t) (option_map (written begins' i) u)
  alike_maybe b i None None e = tt
  alike_maybe b i None (Some u) e = absurd cc
  alike_maybe b i (Some t) None e = absurd cc
  alike_maybe b i (Some t) (Some u) e = alike_types b i t u (same_Some _ _ e)

words_bare : {A : Type 0} (begins : A → ℕ → ℕ) (mods : List (syntax.Modifier A)) → words nowhere (map (map_modifier no_mark) mods) ≡ words begins mods
words_bare begins [] = refl
words_bare begins (m ∷ ms) = ap (λ ws. m.word ∷ ws) (words_bare begins ms)

maybe_simple : {A : Type 0} (begins : A → ℕ → ℕ) (e : Option (tree.Exp A)) → option_map (is_simple nowhere) (option_map (map_exp no_mark) e) ≡ option_map (is_simple begins) e
maybe_simple begins None = refl
maybe_simple begins (Some e) = ap (λ (b : Bool). Some b) (simple_bare begins e)

forms_are : {A : Type 0} (begins : A → ℕ → ℕ) (at : ℕ) (e : Option (tree.Exp A)) → forms_of (option_map (init_declaration begins at) e) ≡ option_map (is_simple begins) e
forms_are begins at None = refl
forms_are begins at (Some e) = refl

module _ (rows : List Row) (g : Renaming) (keep : TypesKeep rows g) {A B : Type 0} (tells : A → ℕ → Span) (begins' : B → ℕ → ℕ) (super_at : Context → ℕ) (ss : List DeclaredItem) where
  abbrev begins : A → ℕ → ℕ
  begins m b = (tells m b).from

  abbrev Chosen : Choosing A
  Chosen = spelling begins rows g super_at

  -- the heads of classes
  abbrev pub HeadTo : (b i : ℕ) → (o p : Option (List ℕ)) → syntax.Class A → syntax.Class B → Type 0
  HeadTo b i o p (syntax.class m mods w t ms) (syntax.class k nods v u ns) =
      (class_key begins' p v.text ≡ class_key begins o w.text) × (words begins' nods ≡ words begins mods)
      × MaybeAlike (option_map (written begins (begins m b)) t) (option_map (written begins' (begins' k i)) u)

  abbrev pub MemberTo : (b i : ℕ) → (of of' : ClassKey) → syntax.Member A → syntax.Member B → Type 0
  MemberTo b i of of' x y = ItemsTo g ss (member_declarations begins b of x) (member_declarations begins' i of' y)

  declared_text : (d : Decl) (at : ℕ) (w : tree.Word A) (v : Rewritten (tree.Word A)) → DeclaredOut tells Chosen d at w v → v.tree.text ≡ name_to g d w.text
  declared_text d at w v (h, is, out) = ap (λ (x : Rewritten (tree.Word A)). x.tree.text) out ∙ ap (λ (x : Choice). text_of x w.text) is ∙ renamed_text w.text (name_to g d w.text)

  same_words : (mods : List (syntax.Modifier A)) (nods : List (syntax.Modifier B)) → map (map_modifier no_mark) nods ≡ map (map_modifier no_mark) mods → words begins' nods ≡ words begins mods
  same_words mods nods e = sym (words_bare begins' nods) ∙ ap (words nowhere) e ∙ words_bare begins mods

  params_go : (k : MemberKey) (n at j : ℕ) (ps : List (syntax.Param A)) (o : Rewritten (List (syntax.Param A))) → RewritesParams tells Chosen k n at ps o → o.losses ≡ []
      → (qs : List (syntax.Param B)) → map (map_param no_mark) qs ≡ map (map_param no_mark) o.tree → ParamsTo g k n (map (param_declaration begins at) ps) (map (param_declaration begins' j) qs)
  params_go k n at j [] o is none [] e = tt
  params_go k n at j [] o is none (q ∷ qs) e = let f = e ∙ ap (λ (x : Rewritten (List (syntax.Param A))). map (map_param no_mark) x.tree) is in absurd cc
  params_go k n at j (p ∷ ps) o (t, v, rest, type, name, more, is) none [] e = let f = e ∙ ap (λ (x : Rewritten (List (syntax.Param A))). map (map_param no_mark) x.tree) is in absurd cc
  params_go k n at j (p ∷ ps) o (t, v, rest, type, name, more, is) none (q ∷ qs) e =
      let f = e ∙ ap (λ (x : Rewritten (List (syntax.Param A))). map (map_param no_mark) x.tree) is in
      let here = cons_head _ _ _ _ f in
      let all : (t.losses ++ v.losses) ++ rest.losses ≡ [] = sym (ap (λ (x : Rewritten (List (syntax.Param A))). x.losses) is) ∙ none in
      let own = left_none (t.losses ++ v.losses) rest.losses all in (
        alike_types begins begins' (begins p.mark at) (begins' q.mark j) p.type q.type
            (ap (λ (x : syntax.Param Bare). x.type) here ∙ type_stays rows g keep tells super_at (plain k false) (begins p.mark at) p.type t type (left_none t.losses v.losses own)),
        ap (λ (x : syntax.Param Bare). x.name.text) here ∙ declared_text (local_decl (record { member = k; number = n })) (begins p.mark at) p.name v name,
        params_go k (suc n) at j ps rest more (right_none (t.losses ++ v.losses) rest.losses all) qs (cons_rest _ _ _ _ f),
      )

  result_stays : (k : MemberKey) (at : ℕ) (t : Option (tree.TypeName A)) (o : Rewritten (Option (tree.TypeName A))) → RewritesResult tells Chosen k at t o → o.losses ≡ []
      → option_map (map_type no_mark) o.tree ≡ option_map (map_type no_mark) t
  result_stays k at None o is none = ap (λ (x : Rewritten (Option (tree.TypeName A))). option_map (map_type no_mark) x.tree) is
  result_stays k at (Some t) o (p, type, is) none =
      ap (λ (x : Rewritten (Option (tree.TypeName A))). option_map (map_type no_mark) x.tree) is
      ∙ ap (λ (u : tree.TypeName Bare). Some u) (type_stays rows g keep tells super_at (plain k false) at t p type (sym (ap (λ (x : Rewritten (Option (tree.TypeName A))). x.losses) is) ∙ none))

  parent_stays : (outer : Option (List ℕ)) (at : ℕ) (t : Option (tree.TypeName A)) (o : Rewritten (Option (tree.TypeName A))) → RewritesParent tells Chosen outer at t o → o.losses ≡ []
      → option_map (map_type no_mark) o.tree ≡ option_map (map_type no_mark) t
  parent_stays outer at None o is none = ap (λ (x : Rewritten (Option (tree.TypeName A))). option_map (map_type no_mark) x.tree) is
  parent_stays outer at (Some t) o (p, type, is) none =
      ap (λ (x : Rewritten (Option (tree.TypeName A))). option_map (map_type no_mark) x.tree) is
      ∙ ap (λ (u : tree.TypeName Bare). Some u) (superclass_stays rows g keep tells super_at outer at t p type (sym (ap (λ (x : Rewritten (Option (tree.TypeName A))). x.losses) is) ∙ none))

  -- ---- members that are no classes

  module _ (b i : ℕ) (of of' : ClassKey) (same : of' ≡ of) where
    field_goes : (m : A) (mods : List (syntax.Modifier A)) (t : tree.TypeName A) (w : tree.Word A) (init : Option (tree.Exp A)) (o : Rewritten (syntax.Member A))
        → RewritesMember tells Chosen (member.field (record { class = of; name = w.text })) b (syntax.field m mods t w init) o → o.losses ≡ []
        → (y : syntax.Member B) → map_member no_mark y ≡ map_member no_mark o.tree → MemberTo b i of of' (syntax.field m mods t w init) y
    unfolding map_member member_declarations
    field_goes m mods t w init o (p, v, q, type, name, value, is) none (syntax.field k nods u z form) e =
        let f = e ∙ ap (λ (x : Rewritten (syntax.Member A)). map_member no_mark x.tree) is in
        let all : (p.losses ++ v.losses) ++ q.losses ≡ [] = sym (ap (λ (x : Rewritten (syntax.Member A)). x.losses) is) ∙ none in
        let own = left_none (p.losses ++ v.losses) q.losses all in (
          record {
            of = same;
            name = ap name_in f ∙ declared_text (field_decl (record { class = of; name = w.text })) (begins m b) w v name;
            words = same_words mods nods (ap mods_in f);
            type = alike_types begins begins' (begins m b) (begins' k i) t u
                (same_Some _ _ (ap type_in f) ∙ type_stays rows g keep tells super_at (plain (member.field (record { class = of; name = w.text })) false) (begins m b) t p type (left_none p.losses v.losses own));
            init = forms_are begins' (begins' k i) form ∙ sym (maybe_simple begins' form) ∙ ap (λ (x : syntax.Member Bare). option_map (is_simple nowhere) (init_in x)) f ∙ maybe_simple begins q.tree
                ∙ forms_stay rows g keep tells super_at (plain (member.field (record { class = of; name = w.text })) (is_static_member begins mods)) (begins m b) init q value (right_none (p.losses ++ v.losses) q.losses all)
                ∙ sym (forms_are begins (begins m b) init);
          },
          tt,
        )
    field_goes m mods t w init o (p, v, q, type, name, value, is) none (syntax.method k nods u z ps body) e = let f = e ∙ ap (λ (x : Rewritten (syntax.Member A)). map_member no_mark x.tree) is in absurd cc
    field_goes m mods t w init o (p, v, q, type, name, value, is) none (syntax.constructor k nods z ps args body) e = let f = e ∙ ap (λ (x : Rewritten (syntax.Member A)). map_member no_mark x.tree) is in absurd cc
    field_goes m mods t w init o (p, v, q, type, name, value, is) none (syntax.inner k c) e = let f = e ∙ ap (λ (x : Rewritten (syntax.Member A)). map_member no_mark x.tree) is in absurd cc

    method_goes : (m : A) (mods : List (syntax.Modifier A)) (t : Option (tree.TypeName A)) (w : tree.Word A) (ps : List (syntax.Param A)) (body : _) (o : Rewritten (syntax.Member A)) (ts : List Ty)
        → MeanTypes ss of (map (param_declaration begins (begins m b)) ps) ts
        → RewritesMember tells Chosen (member.method (record { class = of; name = w.text; params = ts })) b (syntax.method m mods t w ps body) o → o.losses ≡ []
        → (y : syntax.Member B) → map_member no_mark y ≡ map_member no_mark o.tree → MemberTo b i of of' (syntax.method m mods t w ps body) y
    unfolding map_member member_declarations
    method_goes m mods t w ps body o ts mean (p, v, q, z, type, name, params, inside, is) none (syntax.method k nods u x qs rest) e =
        let f = e ∙ ap (λ (x : Rewritten (syntax.Member A)). map_member no_mark x.tree) is in
        let all : (p.losses ++ v.losses) ++ (q.losses ++ z.losses) ≡ [] = sym (ap (λ (x : Rewritten (syntax.Member A)). x.losses) is) ∙ none in
        let front = left_none (p.losses ++ v.losses) (q.losses ++ z.losses) all in
        let back = right_none (p.losses ++ v.losses) (q.losses ++ z.losses) all in (
          record {
            of = same;
            words = same_words mods nods (ap mods_in f);
            result = alike_maybe begins begins' (begins m b) (begins' k i) t u
                (ap type_in f ∙ result_stays (member.method (record { class = of; name = w.text; params = ts })) (begins m b) t p type (left_none p.losses v.losses front));
            types = ts;
            mean = mean;
            name = ap name_in f ∙ declared_text (method_decl (record { class = of; name = w.text; params = ts })) (begins m b) w v name;
            params = params_go (member.method (record { class = of; name = w.text; params = ts })) 0 (begins m b) (begins' k i) ps q params (left_none q.losses z.losses back) qs (ap params_in f);
          },
          tt,
        )
    method_goes m mods t w ps body o ts mean (p, v, q, z, type, name, params, inside, is) none (syntax.field k nods u x form) e = let f = e ∙ ap (λ (x : Rewritten (syntax.Member A)). map_member no_mark x.tree) is in absurd cc
    method_goes m mods t w ps body o ts mean (p, v, q, z, type, name, params, inside, is) none (syntax.constructor k nods x qs args rest) e = let f = e ∙ ap (λ (x : Rewritten (syntax.Member A)). map_member no_mark x.tree) is in absurd cc
    method_goes m mods t w ps body o ts mean (p, v, q, z, type, name, params, inside, is) none (syntax.inner k c) e = let f = e ∙ ap (λ (x : Rewritten (syntax.Member A)). map_member no_mark x.tree) is in absurd cc

    ctor_goes : (m : A) (mods : List (syntax.Modifier A)) (w : tree.Word A) (ps : List (syntax.Param A)) (args : Option (tree.Exps A)) (body : _) (o : Rewritten (syntax.Member A)) (ts : List Ty)
        → MeanTypes ss of (map (param_declaration begins (begins m b)) ps) ts
        → RewritesMember tells Chosen (member.constructor (record { class = of; params = ts })) b (syntax.constructor m mods w ps args body) o → o.losses ≡ []
        → (y : syntax.Member B) → map_member no_mark y ≡ map_member no_mark o.tree → MemberTo b i of of' (syntax.constructor m mods w ps args body) y
    unfolding map_member member_declarations
    ctor_goes m mods w ps args body o ts mean (v, q, p, z, name, params, super, inside, is) none (syntax.constructor k nods x qs given rest) e =
        let f = e ∙ ap (λ (x : Rewritten (syntax.Member A)). map_member no_mark x.tree) is in
        let all : (v.losses ++ q.losses) ++ (p.losses ++ z.losses) ≡ [] = sym (ap (λ (x : Rewritten (syntax.Member A)). x.losses) is) ∙ none in
        let front = left_none (v.losses ++ q.losses) (p.losses ++ z.losses) all in (
          record {
            of = same;
            words = same_words mods nods (ap mods_in f);
            types = ts;
            mean = mean;
            params = params_go (member.constructor (record { class = of; params = ts })) 0 (begins m b) (begins' k i) ps q params (right_none v.losses q.losses front) qs (ap params_in f);
          },
          tt,
        )
    ctor_goes m mods w ps args body o ts mean (v, q, p, z, name, params, super, inside, is) none (syntax.field k nods u x form) e = let f = e ∙ ap (λ (x : Rewritten (syntax.Member A)). map_member no_mark x.tree) is in absurd cc
    ctor_goes m mods w ps args body o ts mean (v, q, p, z, name, params, super, inside, is) none (syntax.method k nods u x qs rest) e = let f = e ∙ ap (λ (x : Rewritten (syntax.Member A)). map_member no_mark x.tree) is in absurd cc
    ctor_goes m mods w ps args body o ts mean (v, q, p, z, name, params, super, inside, is) none (syntax.inner k c) e = let f = e ∙ ap (λ (x : Rewritten (syntax.Member A)). map_member no_mark x.tree) is in absurd cc

  -- ---- classes

  head_text : (outer : Option (List ℕ)) (at : ℕ) (w : tree.Word A) (v : Rewritten (tree.Word A)) → DeclaredOut tells Chosen (class_decl (class_key begins outer w.text)) at w v → v.tree.text ≡ w.text
  head_text outer at w v name = declared_text (class_decl (class_key begins outer w.text)) at w v name ∙ keeps_name g (class_decl (class_key begins outer w.text)) w.text (keep.still.class (class_key begins outer w.text))

  mutual
    unfolding TransformsClass TransformsMembers TransformsOne ClassBeside MembersBeside MemberBeside map_member map_class map_members

    pub class_goes : (b i : ℕ) (outer outer' : Option (List ℕ)) → outer' ≡ outer → (c : syntax.Class A) (o : Rewritten (syntax.Class A)) → RewritesClass tells Chosen ss b outer c o → o.losses ≡ []
        → (d : syntax.Class B) → map_class no_mark d ≡ map_class no_mark o.tree → ClassBeside begins begins' HeadTo MemberTo b i outer outer' c d
    class_goes b i outer outer' same (syntax.class m mods w t ms) o (p, q, (v, z, name, parent, head), members, is) none (syntax.class k nods x u ns) e =
        let f = e ∙ ap (λ (y : Rewritten (syntax.Class A)). map_class no_mark y.tree) is in
        let all : p.losses ++ q.losses ≡ [] = sym (ap (λ (y : Rewritten (syntax.Class A)). y.losses) is) ∙ none in
        let front : v.losses ++ z.losses ≡ [] = sym (ap (λ (y : Rewritten (tree.Word A × Option (tree.TypeName A))). y.losses) head) ∙ left_none p.losses q.losses all in
        let text : x.text ≡ w.text = ap class_name f ∙ ap (λ (y : Rewritten (tree.Word A × Option (tree.TypeName A))). y.tree.0.text) head ∙ head_text outer (begins m b) w v name in
        let key : class_key begins' outer' x.text ≡ class_key begins outer w.text = λ j. record { outer = same j; name = text j } in (
          (
            key,
            same_words mods nods (ap class_mods f),
            alike_maybe begins begins' (begins m b) (begins' k i) t u
                (ap class_parent f ∙ ap (λ (y : Rewritten (tree.Word A × Option (tree.TypeName A))). option_map (map_type no_mark) y.tree.1) head
                ∙ parent_stays outer (begins m b) t z parent (right_none v.losses z.losses front)),
          ),
          members_go (begins m b) (begins' k i) (class_key begins outer w.text) (class_key begins' outer' x.text) key ms q members (right_none p.losses q.losses all) ns (ap class_members f),
        )

    members_go : (b i : ℕ) (of of' : ClassKey) → of' ≡ of → (xs : syntax.Members A) (o : Rewritten (syntax.Members A)) → RewritesMembers tells Chosen ss b of xs o → o.losses ≡ []
        → (ys : syntax.Members B) → map_members no_mark ys ≡ map_members no_mark o.tree → MembersBeside begins begins' HeadTo MemberTo b i of of' xs ys
    members_go b i of of' same syntax.end o is none syntax.end e = tt
    members_go b i of of' same syntax.end o is none (syntax.more y ys) e = let f = e ∙ ap (λ (x : Rewritten (syntax.Members A)). map_members no_mark x.tree) is in absurd cc
    members_go b i of of' same (syntax.more x xs) o (p, q, one, more, is) none syntax.end e = let f = e ∙ ap (λ (x : Rewritten (syntax.Members A)). map_members no_mark x.tree) is in absurd cc
    members_go b i of of' same (syntax.more x xs) o (p, q, one, more, is) none (syntax.more y ys) e =
        let f : syntax.more (map_member no_mark y) (map_members no_mark ys) ≡ syntax.more (map_member no_mark p.tree) (map_members no_mark q.tree) = e ∙ ap (λ (x : Rewritten (syntax.Members A)). map_members no_mark x.tree) is in
        let all : p.losses ++ q.losses ≡ [] = sym (ap (λ (x : Rewritten (syntax.Members A)). x.losses) is) ∙ none in
        let here : map_member no_mark y ≡ map_member no_mark p.tree = cc in
        let rest : map_members no_mark ys ≡ map_members no_mark q.tree = cc in
        (one_goes b i of of' same x p one (left_none p.losses q.losses all) y here, members_go b i of of' same xs q more (right_none p.losses q.losses all) ys rest)

    one_goes : (b i : ℕ) (of of' : ClassKey) → of' ≡ of → (x : syntax.Member A) (o : Rewritten (syntax.Member A)) → RewritesOne tells Chosen ss b of x o → o.losses ≡ []
        → (y : syntax.Member B) → map_member no_mark y ≡ map_member no_mark o.tree → MemberBeside begins begins' HeadTo MemberTo b i of of' x y
    one_goes b i of of' same (syntax.field m mods t w init) o (k, is, made) none y e =
        field_goes b i of of' same m mods t w init o (subst (λ (z : MemberKey). RewritesMember tells Chosen z b (syntax.field m mods t w init) o) is made) none y e
    one_goes b i of of' same (syntax.method m mods t w ps body) o (k, (ts, mean, is), made) none y e =
        method_goes b i of of' same m mods t w ps body o ts mean (subst (λ (z : MemberKey). RewritesMember tells Chosen z b (syntax.method m mods t w ps body) o) is made) none y e
    one_goes b i of of' same (syntax.constructor m mods w ps args body) o (k, (ts, mean, is), made) none y e =
        ctor_goes b i of of' same m mods w ps args body o ts mean (subst (λ (z : MemberKey). RewritesMember tells Chosen z b (syntax.constructor m mods w ps args body) o) is made) none y e
    one_goes b i of of' same (syntax.inner m c) o (p, made, is) none (syntax.inner k d) e =
        let f : syntax.inner tt (map_class no_mark d) ≡ syntax.inner tt (map_class no_mark p.tree) = e ∙ ap (λ (x : Rewritten (syntax.Member A)). map_member no_mark x.tree) is in
        let here : map_class no_mark d ≡ map_class no_mark p.tree = cc in
        class_goes (begins m b) (begins' k i) (Some of.name) (Some of'.name) (ap (λ (z : ClassKey). Some z.name) same) c p made (sym (ap (λ (x : Rewritten (syntax.Member A)). x.losses) is) ∙ none) d here
    one_goes b i of of' same (syntax.inner m c) o (p, made, is) none (syntax.field k nods u x form) e = let f = e ∙ ap (λ (x : Rewritten (syntax.Member A)). map_member no_mark x.tree) is in absurd cc
    one_goes b i of of' same (syntax.inner m c) o (p, made, is) none (syntax.method k nods u x qs rest) e = let f = e ∙ ap (λ (x : Rewritten (syntax.Member A)). map_member no_mark x.tree) is in absurd cc
    one_goes b i of of' same (syntax.inner m c) o (p, made, is) none (syntax.constructor k nods x qs given rest) e = let f = e ∙ ap (λ (x : Rewritten (syntax.Member A)). map_member no_mark x.tree) is in absurd cc

  -- ---- files

  classes_go : (b i : ℕ) (cs : List (syntax.Class A)) (o : Rewritten (List (syntax.Class A))) → RewritesClasses tells Chosen ss b cs o → o.losses ≡ []
      → (ds : List (syntax.Class B)) → map (map_class no_mark) ds ≡ map (map_class no_mark) o.tree → ClassesBeside begins begins' HeadTo MemberTo b i cs ds
  classes_go b i [] o is none [] e = tt
  classes_go b i [] o is none (d ∷ ds) e = let f = e ∙ ap (λ (x : Rewritten (List (syntax.Class A))). map (map_class no_mark) x.tree) is in absurd cc
  classes_go b i (c ∷ cs) o (p, q, one, more, is) none [] e = let f = e ∙ ap (λ (x : Rewritten (List (syntax.Class A))). map (map_class no_mark) x.tree) is in absurd cc
  classes_go b i (c ∷ cs) o (p, q, one, more, is) none (d ∷ ds) e =
      let f = e ∙ ap (λ (x : Rewritten (List (syntax.Class A))). map (map_class no_mark) x.tree) is in
      let all : p.losses ++ q.losses ≡ [] = sym (ap (λ (x : Rewritten (List (syntax.Class A))). x.losses) is) ∙ none in (
        class_goes b i None None refl c p one (left_none p.losses q.losses all) d (cons_head _ _ _ _ f),
        classes_go b i cs q more (right_none p.losses q.losses all) ds (cons_rest _ _ _ _ f),
      )

  pub units_go : (us : List (syntax.Unit A)) (os : List (Rewritten (syntax.Unit A))) → RewritesUnits tells Chosen ss us os → ((i : ℕ) (o : Rewritten (syntax.Unit A)) → slice_get os i ≡ Some o → o.losses ≡ [])
      → (vs : List (syntax.Unit B)) → map (λ (v : syntax.Unit B). map_unit no_mark v) vs ≡ map (λ (o : Rewritten (syntax.Unit A)). map_unit no_mark o.tree) os → UnitsBeside begins begins' HeadTo MemberTo us vs
  units_go [] os is none [] e = tt
  units_go [] os is none (v ∷ vs) e = let f = e ∙ ap (λ (xs : List (Rewritten (syntax.Unit A))). map (λ (o : Rewritten (syntax.Unit A)). map_unit no_mark o.tree) xs) is in absurd cc
  units_go (u ∷ us) os (o, ps, unit, more, is) none [] e = let f = e ∙ ap (λ (xs : List (Rewritten (syntax.Unit A))). map (λ (o : Rewritten (syntax.Unit A)). map_unit no_mark o.tree) xs) is in absurd cc
  units_go (u ∷ us) os (o, ps, (p, classes, made), more, is) none (v ∷ vs) e =
      let f = e ∙ ap (λ (xs : List (Rewritten (syntax.Unit A))). map (λ (o : Rewritten (syntax.Unit A)). map_unit no_mark o.tree) xs) is in
      let here = cons_head _ _ _ _ f in
      let own : o.losses ≡ [] = none 0 o (ap (λ (xs : List (Rewritten (syntax.Unit A))). slice_get xs 0) is) in (
        classes_go (begins u.mark 0) (begins' v.mark 0) u.classes p classes (sym (ap (λ (x : Rewritten (syntax.Unit A)). x.losses) made) ∙ own) v.classes
            (ap (λ (x : syntax.Unit Bare). x.classes) here ∙ ap (λ (x : Rewritten (syntax.Unit A)). map (map_class no_mark) x.tree.classes) made),
        units_go us ps more (λ i x at. none (suc i) x (ap (λ (xs : List (Rewritten (syntax.Unit A))). slice_get xs (suc i)) is ∙ at)) vs (cons_rest _ _ _ _ f),
      )
