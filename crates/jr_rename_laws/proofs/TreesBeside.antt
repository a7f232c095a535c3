-- The new program's classes and members beside the old ones, where a class is renamed and nothing is
-- lost.
use Rattle.std.proofs.Common.{◌≡◌, ℕ, suc, List, [], ◌∷◌, Option, Some, None, Bool, true, false, refl, sym, ap, subst, ◌∙◌}
use Rattle.std.specs.Prelude.{map, option_map, is_some}
use Rattle.std.proofs.lemmas.Option.{same_Some}
use Rattle.jr_text.specs.declared.spans.Span.{Span}
use Rattle.jr_ast.specs.Tree as tree
use Rattle.jr_ast.specs.StatementTree as statement
use Rattle.jr_ast.specs.MemberTree as syntax
use Rattle.jr_ast.specs.Remarked.{map_modifier, map_type, map_param, map_exp, map_member, map_class, map_members, map_unit}
use Rattle.jr_table.specs.Keys.{ClassKey, Ty, class}
use Rattle.jr_table.specs.Keys as keys
use Rattle.jr_table.specs.Decls.{MemberKey, head, class_decl, field_decl, method_decl, local_decl}
use Rattle.jr_table.specs.Decls as member
use Rattle.jr_table.specs.Rows.{Row}
use Rattle.jr_table.specs.Prelude.{top_key}
use Rattle.jr_table.specs.Entries.{class_of_member}
use Rattle.jr_table.specs.Found.{one}
use Rattle.jr_table.specs.Context.{Context, scope_of, NamesClass, WritesType}
use Rattle.jr_table.specs.HeadRules.{plain, is_static_member, TopFinds}
use Rattle.jr_table.specs.DeclaredItems.{written, words, param_declaration, init_declaration, class_key, member_declarations, DeclaredItem}
use Rattle.jr_build_rows.specs.Heads.{NamesClass as NamesSuperclass, MayHold, ClassHeads, MemberHeads, MembersHeads, ClassesHeads, UnitsHeads}
use Rattle.jr_rewrite.specs.Rewritten.{Rewritten}
use Rattle.jr_rewrite.specs.Rewrites.{Choosing, TypeOut, RewritesType, RewritesParams, RewritesResult, RewritesMember, RewritesParent, RewritesClass, RewritesMembers, RewritesOne, RewritesClasses, RewritesUnits, TransformsClass, TransformsMembers, TransformsOne}
use Rattle.jr_rewrite.specs.AlongMembers.{mod_words, AlongParams, AlongResult, AlongMember, AlongParent, AlongClass, AlongMembers, AlongOne, AlongClasses, AlongUnits}
use Rattle.jr_rewrite.specs.Along.{AlongMaybe}
use Rattle.jr_images.specs.Images.{Renaming, name_to, outer_to, class_to, type_to, member_to, rows_to}
use Rattle.jr_images.proofs.KeyImages.{keeps_name}
use Rattle.jr_rename_laws.specs.ImageLaws.{no_mark}
use Rattle.jr_images.specs.Keeping.{IsKept, IsWritten, IsSuperKept, IsParentKept}
use Rattle.jr_images.specs.RenameLaws.{trees_of}
use Rattle.jr_images.specs.Spelling.{spelling, ParentQualifierSpells, ParentSpells}
use Rattle.jr_rename_laws.specs.Beside.{ClassBeside, MembersBeside, MemberBeside, ClassesBeside, UnitsBeside}
use Rattle.jr_rename_laws.proofs.BareTrees.{cons_head, cons_rest, Bare, mods_in, name_in, params_in, type_in, init_in, class_mods, class_name, class_parent, class_members, front_in, word_in, same_front}
use Rattle.jr_rename_laws.proofs.WrittenTypes.{place, WrittenAs}
use Rattle.jr_rename_laws.proofs.Renamed.{Keeps, declared_text}
use Rattle.jr_rename_laws.proofs.Initializers.{init_goes}
use Rattle.jr_rename_laws.proofs.ItemsBeside.{TypeTo, ParentTo, ResultTo, ParamsTo, ItemsTo}

bare_words : {A : Type 0} (mods : List (syntax.Modifier A)) → map (λ (m : syntax.Modifier Bare). m.word) (map (map_modifier no_mark) mods) ≡ mod_words mods
bare_words [] = refl
bare_words (m ∷ ms) = ap (λ ws. m.word ∷ ws) (bare_words ms)

some_map : {X Y : Type 0} (f : X → Y) (o : Option X) → is_some (option_map f o) ≡ is_some o
some_map f None = refl
some_map f (Some x) = refl

module _ (rows : List Row) (g : Renaming) (keeps : Keeps rows g) {A B : Type 0} (tells : A → ℕ → Span) (begins' : B → ℕ → ℕ) (super_at : Context → ℕ) (ss : List DeclaredItem) where
  abbrev begins : A → ℕ → ℕ
  begins m b = (tells m b).from

  abbrev Chosen : Choosing A
  Chosen = spelling begins rows g super_at

  abbrev Rows : List Row
  Rows = rows_to g rows

  -- the heads of classes
  abbrev pub HeadTo : (b i : ℕ) → (o p : Option (List ℕ)) → syntax.Class A → syntax.Class B → Type 0
  HeadTo b i o p (syntax.class m mods w t ms) (syntax.class k nods v u ns) =
      (class_key begins' p v.text ≡ class_to g (class_key begins o w.text)) × (words begins' nods ≡ words begins mods)
      × ParentTo rows g o (option_map (written begins (begins m b)) t) (option_map (written begins' (begins' k i)) u)

  abbrev pub MemberTo : (b i : ℕ) → (of of' : ClassKey) → syntax.Member A → syntax.Member B → Type 0
  MemberTo b i of of' x y = ItemsTo rows g (member_declarations begins b of x) (member_declarations begins' i of' y)

  -- ---- written types

  old_type : (c : Context) (b : ℕ) (t : tree.TypeName A) (p : Rewritten (tree.TypeName A)) → RewritesType tells Chosen c b t p → (u : Ty) × WritesType rows (scope_of c) t u
  old_type c b (tree.int m) p is = (keys.int, refl)
  old_type c b (tree.boolean m) p is = (keys.boolean, refl)
  old_type c b (tree.named m None w) p (h, (k, finds, spells), is) = (class k, (k, finds, refl))
  old_type c b (tree.named m (Some v) w) p (q, h, qualifier, (o, k, front, back, spells), is) = (class k, (k, (o, front, back), refl))

  as_written : (of : ClassKey) (b : ℕ) (t : tree.TypeName A) (u : Ty) → WritesType rows (place of) t u → WrittenAs rows of (written begins b t) u
  as_written of b (tree.int m) u h = h
  as_written of b (tree.boolean m) u h = h
  as_written of b (tree.named m o w) u h = h

  new_written : (of : ClassKey) (i : ℕ) (t : tree.TypeName A) (z : tree.TypeName B) (u : Ty) → map_type no_mark z ≡ map_type no_mark t → WritesType Rows (place of) t u → WrittenAs Rows of (written begins' i z) u
  new_written of i (tree.int m) (tree.int k) u e h = h
  new_written of i (tree.int m) (tree.boolean k) u e h = absurd cc
  new_written of i (tree.int m) (tree.named k p v) u e h = absurd cc
  new_written of i (tree.boolean m) (tree.int k) u e h = absurd cc
  new_written of i (tree.boolean m) (tree.boolean k) u e h = h
  new_written of i (tree.boolean m) (tree.named k p v) u e h = absurd cc
  new_written of i (tree.named m o w) (tree.int k) u e h = absurd cc
  new_written of i (tree.named m o w) (tree.boolean k) u e h = absurd cc
  new_written of i (tree.named m o w) (tree.named k p v) u e (j, names, is) =
      let front = same_front o p (ap front_in e) in
      let word = sym (ap word_in e) in
      (j, subst (λ (x : Option (List ℕ)). NamesClass Rows (place of) x v.text j) front (subst (λ (x : List ℕ). NamesClass Rows (place of) (option_map (λ (y : tree.Word A). y.text) o) x j) word names), is)

  image_class : (k : MemberKey) → class_of_member (member_to g k) ≡ class_to g (class_of_member k)
  image_class (head k) = refl
  image_class (member.field k) = refl
  image_class (member.method k) = refl
  image_class (member.constructor k) = refl

  type_goes : (of : ClassKey) (k j : MemberKey) → class_of_member k ≡ of → class_of_member j ≡ of → (b i : ℕ) (t : tree.TypeName A) (p : Rewritten (tree.TypeName A)) → RewritesType tells Chosen (plain k false) b t p
      → (y : tree.TypeName A) → ((u : Ty) → WritesType rows (scope_of (plain j false)) t u → WritesType Rows (scope_of (plain (member_to g j) false)) y (type_to g u))
      → (z : tree.TypeName B) → map_type no_mark z ≡ map_type no_mark y → TypeTo rows g of (written begins b t) (written begins' i z)
  type_goes of k j is was b i t p made y goes z e =
      let u = old_type (plain k false) b t p made in
      let here : WritesType rows (place of) t u.0 = subst (λ (c : ClassKey). WritesType rows (place c) t u.0) is u.1 in
      let there = goes u.0 (subst (λ (c : ClassKey). WritesType rows (place c) t u.0) (sym was) here) in
      record {
        type = u.0;
        old = as_written of b t u.0 here;
        new = new_written (class_to g of) i y z (type_to g u.0) e (subst (λ (c : ClassKey). WritesType Rows (place c) y (type_to g u.0)) (image_class j ∙ ap (class_to g) was) there);
      }

  -- ---- words

  same_words : (mods ns : List (syntax.Modifier A)) (nods : List (syntax.Modifier B)) → mod_words ns ≡ mod_words mods → map (map_modifier no_mark) nods ≡ map (map_modifier no_mark) ns → words begins' nods ≡ words begins mods
  same_words mods ns nods same e = sym (bare_words nods) ∙ ap (map (λ (m : syntax.Modifier Bare). m.word)) e ∙ bare_words ns ∙ same

  -- ---- parts of members

  abbrev ParamsAlong : MemberKey → (b n : ℕ) → List (syntax.Param A) → List (syntax.Param A) → Type 0
  ParamsAlong = AlongParams begins begins (IsKept begins begins g rows) (IsWritten begins begins g rows) (IsSuperKept g rows) (IsParentKept g rows) (member_to g)

  abbrev ResultAlong : MemberKey → (b n : ℕ) → Option (tree.TypeName A) → Option (tree.TypeName A) → Type 0
  ResultAlong = AlongResult begins begins (IsKept begins begins g rows) (IsWritten begins begins g rows) (IsSuperKept g rows) (IsParentKept g rows) (member_to g)

  abbrev ParentAlong : Option (List ℕ) → (b n : ℕ) → Option (tree.TypeName A) → Option (tree.TypeName A) → Type 0
  ParentAlong = AlongParent begins begins (IsKept begins begins g rows) (IsWritten begins begins g rows) (IsSuperKept g rows) (IsParentKept g rows) (member_to g)

  abbrev OneAlong : MemberKey → (b n : ℕ) → syntax.Member A → syntax.Member A → Type 0
  OneAlong = AlongMember begins begins (IsKept begins begins g rows) (IsWritten begins begins g rows) (IsSuperKept g rows) (IsParentKept g rows) (member_to g)

  params_go : (of : ClassKey) (k l : MemberKey) → class_of_member k ≡ of → class_of_member l ≡ of → (m at j n : ℕ) (ps : List (syntax.Param A)) (o : Rewritten (List (syntax.Param A))) → RewritesParams tells Chosen k m at ps o
      → (ys : List (syntax.Param A)) → ys ≡ o.tree → ParamsAlong l at n ps ys → (qs : List (syntax.Param B)) → map (map_param no_mark) qs ≡ map (map_param no_mark) ys
      → ParamsTo rows g of (map (param_declaration begins at) ps) (map (param_declaration begins' j) qs)
  params_go of k l is was m at j n [] o made ys whole along [] e = tt
  params_go of k l is was m at j n [] o made ys whole along (q ∷ qs) e = let f = e ∙ ap (map (map_param no_mark)) along in absurd cc
  params_go of k l is was m at j n (p ∷ ps) o made ys whole (y, rest, same, final, goes, more) [] e = let f = e ∙ ap (map (map_param no_mark)) same in absurd cc
  params_go of k l is was m at j n (p ∷ ps) o (t, v, q', type, name, more', made) ys whole (y, rest, same, final, goes, more) (q ∷ qs) e =
      let f = e ∙ ap (map (map_param no_mark)) same in
      let both = sym same ∙ whole ∙ ap (λ (x : Rewritten (List (syntax.Param A))). x.tree) made in
      let here = cons_head _ _ _ _ f in (
        type_goes of k l is was (begins p.mark at) (begins' q.mark j) p.type t type y.type goes.means q.type (ap (λ (x : syntax.Param Bare). x.type) here),
        ap (λ (x : syntax.Param Bare). x.name.text) here ∙ ap (λ (x : syntax.Param A). x.name.text) (cons_head _ _ _ _ both) ∙ declared_text tells rows g super_at (local_decl (record { member = k; number = m })) (begins p.mark at) p.name v name
            ∙ keeps_name g (local_decl (record { member = k; number = m })) p.name.text (keeps.local (record { member = k; number = m })),
        params_go of k l is was (suc m) at j n ps q' more' rest (cons_rest _ _ _ _ both) more qs (cons_rest _ _ _ _ f),
      )

  result_goes : (of : ClassKey) (k l : MemberKey) → class_of_member k ≡ of → class_of_member l ≡ of → (at j n : ℕ) (t : Option (tree.TypeName A)) (o : Rewritten (Option (tree.TypeName A))) → RewritesResult tells Chosen k at t o
      → (y : Option (tree.TypeName A)) → ResultAlong l at n t y → (z : Option (tree.TypeName B)) → option_map (map_type no_mark) z ≡ option_map (map_type no_mark) y
      → ResultTo rows g of (option_map (written begins at) t) (option_map (written begins' j) z)
  result_goes of k l is was at j n None o made y along None e = tt
  result_goes of k l is was at j n None o made y along (Some z) e = let f = e ∙ ap (option_map (map_type no_mark)) along in absurd cc
  result_goes of k l is was at j n (Some t) o made y (v, same, goes) None e = let f = e ∙ ap (option_map (map_type no_mark)) same in absurd cc
  result_goes of k l is was at j n (Some t) o (p, type, made) y (v, same, goes) (Some z) e =
      type_goes of k l is was at j t p type v goes.means z (same_Some _ _ (e ∙ ap (option_map (map_type no_mark)) same))

  no_parent : (outer : Option (List ℕ)) → ParentTo rows g outer None None
  no_parent None = tt
  no_parent (Some o) = tt

  -- a superclass of a top-level class
  top_goes : (at j : ℕ) (m : A) (w : tree.Word A) (k : ClassKey) → TopFinds rows w.text (one (class_decl k)) → (mark : A) (x : tree.Word A) → TopFinds Rows x.text (one (class_decl (class_to g k)))
      → (z : tree.TypeName B) → map_type no_mark z ≡ map_type no_mark (tree.named mark None x) → ParentTo rows g None (Some (written begins at (tree.named m None w))) (Some (written begins' j z))
  top_goes at j m w k old mark x new (tree.int i) e = absurd cc
  top_goes at j m w k old mark x new (tree.boolean i) e = absurd cc
  top_goes at j m w k old mark x new (tree.named i (Some q) z) e = absurd (let f = ap front_in e in cc)
  top_goes at j m w k old mark x new (tree.named i None z) e =
      record { class = k; old = old; new = subst (λ (text : List ℕ). TopFinds Rows text (one (class_decl (class_to g k)))) (sym (ap word_in e)) new }

  named_goes : (outer : Option (List ℕ)) (at j n : ℕ) (t : tree.TypeName A) → NamesSuperclass (Some t) → (p : Rewritten (tree.TypeName A)) → TypeOut tells Chosen (ParentQualifierSpells begins rows g outer at t) (ParentSpells begins rows g outer at t) at t p
      → (v : tree.TypeName A) → IsParentKept g rows outer at t n v → (z : tree.TypeName B) → map_type no_mark z ≡ map_type no_mark v → ParentTo rows g outer (Some (written begins at t)) (Some (written begins' j z))
  named_goes (Some of) at j n t names p type v goes z e = type_goes (top_key of) (head (top_key of)) (head (top_key of)) refl refl at j t p type v goes.means z e
  named_goes None at j n (tree.int m) names p type v goes z e = absurd names
  named_goes None at j n (tree.boolean m) names p type v goes z e = absurd names
  named_goes None at j n (tree.named m (Some q) w) names p (a, h, qualifier, never, is) v goes z e = absurd never
  named_goes None at j n (tree.named m None w) names p (h, (k, finds, spells), is) v (mark, x, form, goes) z e = top_goes at j m w k finds mark x (goes k finds) z (e ∙ ap (map_type no_mark) form)

  parent_goes : (outer : Option (List ℕ)) (at j n : ℕ) (t : Option (tree.TypeName A)) → NamesSuperclass t → (o : Rewritten (Option (tree.TypeName A))) → RewritesParent tells Chosen outer at t o
      → (y : Option (tree.TypeName A)) → ParentAlong outer at n t y → (z : Option (tree.TypeName B)) → option_map (map_type no_mark) z ≡ option_map (map_type no_mark) y
      → ParentTo rows g outer (option_map (written begins at) t) (option_map (written begins' j) z)
  parent_goes outer at j n None names o made y along None e = no_parent outer
  parent_goes outer at j n None names o made y along (Some z) e = let f = e ∙ ap (option_map (map_type no_mark)) along in absurd cc
  parent_goes outer at j n (Some t) names o made y (v, same, goes) None e = let f = e ∙ ap (option_map (map_type no_mark)) same in absurd cc
  parent_goes outer at j n (Some t) names o (p, type, made) y (v, same, goes) (Some z) e = named_goes outer at j n t names p type v goes z (same_Some _ _ (e ∙ ap (option_map (map_type no_mark)) same))

  -- ---- members that are no classes

  maybe_along : (c d : Context) (at n : ℕ) (init y : Option (tree.Exp A)) → AlongMaybe begins begins (IsKept begins begins g rows) (IsWritten begins begins g rows) c d at n init y → is_some y ≡ is_some init
  maybe_along c d at n None y h = ap is_some h
  maybe_along c d at n (Some e) y (x, is, along) = ap is_some is

  module _ (b i n : ℕ) (of of' : ClassKey) (same : of' ≡ class_to g of) where
    field_goes : (m : A) (mods : List (syntax.Modifier A)) (t : tree.TypeName A) (w : tree.Word A) (init : Option (tree.Exp A)) (o : Rewritten (syntax.Member A))
        → RewritesMember tells Chosen (member.field (record { class = of; name = w.text })) b (syntax.field m mods t w init) o
        → OneAlong (member.field (record { class = of; name = w.text })) b n (syntax.field m mods t w init) o.tree
        → (y : syntax.Member B) → map_member no_mark y ≡ map_member no_mark o.tree → MemberTo b i of of' (syntax.field m mods t w init) y
    unfolding map_member member_declarations
    field_goes m mods t w init o (p, v, q, type, name, value, is) (j, ms, u, x, z, form, same_mods, goes, maybe) (syntax.field k nods r s last) e =
        let key = member.field (record { class = of; name = w.text }) in
        let f = e ∙ ap (map_member no_mark) form in
        let f' = e ∙ ap (λ (x : Rewritten (syntax.Member A)). map_member no_mark x.tree) is in (
          record {
            of = same;
            name = ap name_in f' ∙ declared_text tells rows g super_at (field_decl (record { class = of; name = w.text })) (begins m b) w v name
                ∙ keeps_name g (field_decl (record { class = of; name = w.text })) w.text (keeps.field (record { class = of; name = w.text }));
            words = same_words mods ms nods same_mods (ap mods_in f);
            type = type_goes of key key refl refl (begins m b) (begins' k i) t p type u goes.means r (same_Some _ _ (ap type_in f));
            init = some_map (init_declaration begins' (begins' k i)) last ∙ sym (some_map (map_exp no_mark) last) ∙ ap (λ (x : syntax.Member Bare). is_some (init_in x)) f ∙ some_map (map_exp no_mark) z
                ∙ maybe_along (plain key (is_static_member begins mods)) (plain (member_to g key) (is_static_member begins ms)) (begins m b) (begins j n) init z maybe
                ∙ sym (some_map (init_declaration begins (begins m b)) init);
            simple = λ x y. init_goes rows g keeps tells begins' super_at (plain key (is_static_member begins mods)) (plain (member_to g key) (is_static_member begins ms)) (begins m b) (begins j n) (begins' k i) init z q value maybe last (ap init_in f) x y;
          },
          tt,
        )
    field_goes m mods t w init o made (j, ms, u, x, z, form, same_mods, goes, maybe) (syntax.method k nods r s ps body) e = let f = e ∙ ap (map_member no_mark) form in absurd cc
    field_goes m mods t w init o made (j, ms, u, x, z, form, same_mods, goes, maybe) (syntax.constructor k nods s ps args body) e = let f = e ∙ ap (map_member no_mark) form in absurd cc
    field_goes m mods t w init o made (j, ms, u, x, z, form, same_mods, goes, maybe) (syntax.inner k c) e = let f = e ∙ ap (map_member no_mark) form in absurd cc

    method_goes : (m : A) (mods : List (syntax.Modifier A)) (t : Option (tree.TypeName A)) (w : tree.Word A) (ps : List (syntax.Param A)) (body : statement.Stmts A) (o : Rewritten (syntax.Member A)) (ts us : List Ty)
        → RewritesMember tells Chosen (member.method (record { class = of; name = w.text; params = ts })) b (syntax.method m mods t w ps body) o
        → OneAlong (member.method (record { class = of; name = w.text; params = us })) b n (syntax.method m mods t w ps body) o.tree
        → (y : syntax.Member B) → map_member no_mark y ≡ map_member no_mark o.tree → MemberTo b i of of' (syntax.method m mods t w ps body) y
    unfolding map_member member_declarations
    method_goes m mods t w ps body o ts us (p, v, q, z, type, name, params, inside, is) (j, ms, u, x, ys, body', form, same_mods, result, along, rest) (syntax.method k nods r s qs last) e =
        let key = member.method (record { class = of; name = w.text; params = ts }) in
        let key' = member.method (record { class = of; name = w.text; params = us }) in
        let f = e ∙ ap (map_member no_mark) form in
        let f' = e ∙ ap (λ (x : Rewritten (syntax.Member A)). map_member no_mark x.tree) is in (
          record {
            of = same;
            name = ap name_in f' ∙ declared_text tells rows g super_at (method_decl (record { class = of; name = w.text; params = ts })) (begins m b) w v name
                ∙ keeps_name g (method_decl (record { class = of; name = w.text; params = ts })) w.text (keeps.method (record { class = of; name = w.text; params = ts }));
            words = same_words mods ms nods same_mods (ap mods_in f);
            result = result_goes of key key' refl refl (begins m b) (begins' k i) (begins j n) t p type u result r (ap type_in f);
            params = params_go of key key' refl refl 0 (begins m b) (begins' k i) (begins j n) ps q params ys (ap params_in (sym form ∙ ap (λ (x : Rewritten (syntax.Member A)). x.tree) is)) along qs (ap params_in f);
          },
          tt,
        )
    method_goes m mods t w ps body o ts us made (j, ms, u, x, ys, body', form, same_mods, result, along, rest) (syntax.field k nods r s last) e = let f = e ∙ ap (map_member no_mark) form in absurd cc
    method_goes m mods t w ps body o ts us made (j, ms, u, x, ys, body', form, same_mods, result, along, rest) (syntax.constructor k nods s qs args last) e = let f = e ∙ ap (map_member no_mark) form in absurd cc
    method_goes m mods t w ps body o ts us made (j, ms, u, x, ys, body', form, same_mods, result, along, rest) (syntax.inner k c) e = let f = e ∙ ap (map_member no_mark) form in absurd cc

    ctor_goes : (m : A) (mods : List (syntax.Modifier A)) (w : tree.Word A) (ps : List (syntax.Param A)) (args : Option (tree.Exps A)) (body : statement.Stmts A) (o : Rewritten (syntax.Member A)) (ts us : List Ty)
        → RewritesMember tells Chosen (member.constructor (record { class = of; params = ts })) b (syntax.constructor m mods w ps args body) o
        → OneAlong (member.constructor (record { class = of; params = us })) b n (syntax.constructor m mods w ps args body) o.tree
        → (y : syntax.Member B) → map_member no_mark y ≡ map_member no_mark o.tree → MemberTo b i of of' (syntax.constructor m mods w ps args body) y
    unfolding map_member member_declarations
    ctor_goes m mods w ps args body o ts us (v, q, p, z, name, params, super, inside, is) (j, ms, x, ys, es, body', form, same_mods, along, given, rest) (syntax.constructor k nods s qs args' last) e =
        let key = member.constructor (record { class = of; params = ts }) in
        let key' = member.constructor (record { class = of; params = us }) in
        let f = e ∙ ap (map_member no_mark) form in (
          record {
            of = same;
            words = same_words mods ms nods same_mods (ap mods_in f);
            params = params_go of key key' refl refl 0 (begins m b) (begins' k i) (begins j n) ps q params ys (ap params_in (sym form ∙ ap (λ (x : Rewritten (syntax.Member A)). x.tree) is)) along qs (ap params_in f);
          },
          tt,
        )
    ctor_goes m mods w ps args body o ts us made (j, ms, x, ys, es, body', form, same_mods, along, given, rest) (syntax.field k nods r s last) e = let f = e ∙ ap (map_member no_mark) form in absurd cc
    ctor_goes m mods w ps args body o ts us made (j, ms, x, ys, es, body', form, same_mods, along, given, rest) (syntax.method k nods r s qs last) e = let f = e ∙ ap (map_member no_mark) form in absurd cc
    ctor_goes m mods w ps args body o ts us made (j, ms, x, ys, es, body', form, same_mods, along, given, rest) (syntax.inner k c) e = let f = e ∙ ap (map_member no_mark) form in absurd cc

  -- ---- classes

  abbrev ClassAlong : (b n : ℕ) → Option (List ℕ) → syntax.Class A → syntax.Class A → Type 0
  ClassAlong = AlongClass begins begins (IsKept begins begins g rows) (IsWritten begins begins g rows) (IsSuperKept g rows) (IsParentKept g rows) (member_to g) ss

  abbrev MembersAlong : (b n : ℕ) → ClassKey → syntax.Members A → syntax.Members A → Type 0
  MembersAlong = AlongMembers begins begins (IsKept begins begins g rows) (IsWritten begins begins g rows) (IsSuperKept g rows) (IsParentKept g rows) (member_to g) ss

  abbrev EachAlong : (b n : ℕ) → ClassKey → syntax.Member A → syntax.Member A → Type 0
  EachAlong = AlongOne begins begins (IsKept begins begins g rows) (IsWritten begins begins g rows) (IsSuperKept g rows) (IsParentKept g rows) (member_to g) ss

  around_image : (of of' : ClassKey) → of' ≡ class_to g of → of.outer ≡ None → Some of'.name ≡ outer_to g (Some of.name)
  around_image of of' same top =
      let whole : of ≡ top_key of.name = λ n. record { outer = top n; name = of.name } in
      ap (λ (k : ClassKey). Some k.name) same ∙ ap (λ (k : ClassKey). Some (name_to g (class_decl k) of.name)) whole

  mutual
    unfolding TransformsClass TransformsMembers TransformsOne AlongClass AlongMembers AlongOne ClassBeside MembersBeside MemberBeside ClassHeads MembersHeads MemberHeads map_member map_class map_members

    class_goes : (nested : Bool) (b i n : ℕ) (outer outer' : Option (List ℕ)) → outer' ≡ outer_to g outer → (MayHold nested → outer ≡ None) → (c : syntax.Class A) → ClassHeads nested c
        → (o : Rewritten (syntax.Class A)) → RewritesClass tells Chosen ss b outer c o → ClassAlong b n outer c o.tree
        → (d : syntax.Class B) → map_class no_mark d ≡ map_class no_mark o.tree → ClassBeside begins begins' HeadTo MemberTo b i outer outer' c d
    class_goes nested b i n outer outer' same top (syntax.class m mods w t ms) heads o (p, q, (v, z, name, parent, front), members, is) (j, ns, x, u, ys, form, same_mods, up, along) (syntax.class k nods r s zs) e =
        let f = e ∙ ap (map_class no_mark) form in
        let f' = e ∙ ap (λ (y : Rewritten (syntax.Class A)). map_class no_mark y.tree) is in
        let text : r.text ≡ name_to g (class_decl (class_key begins outer w.text)) w.text = ap class_name f' ∙ ap (λ (y : Rewritten (tree.Word A × Option (tree.TypeName A))). y.tree.0.text) front
        ∙ declared_text tells rows g super_at (class_decl (class_key begins outer w.text)) (begins m b) w v name in
        let key : class_key begins' outer' r.text ≡ class_to g (class_key begins outer w.text) = λ l. record { outer = same l; name = text l } in
        let rest : ys ≡ q.tree = ap class_members (sym form ∙ ap (λ (y : Rewritten (syntax.Class A)). y.tree) is) in (
          (key, same_words mods ns nods same_mods (ap class_mods f), parent_goes outer (begins m b) (begins' k i) (begins j n) t heads.0 z parent u up s (ap class_parent f)),
          members_go nested (begins m b) (begins' k i) (begins j n) (class_key begins outer w.text) (class_key begins' outer' r.text) key top ms heads.1 q members
              (subst (λ (y : syntax.Members A). MembersAlong (begins m b) (begins j n) (class_key begins outer w.text) ms y) rest along) zs (ap class_members f'),
        )

    members_go : (nested : Bool) (b i n : ℕ) (of of' : ClassKey) → of' ≡ class_to g of → (MayHold nested → of.outer ≡ None) → (xs : syntax.Members A) → MembersHeads nested xs
        → (o : Rewritten (syntax.Members A)) → RewritesMembers tells Chosen ss b of xs o → MembersAlong b n of xs o.tree
        → (ys : syntax.Members B) → map_members no_mark ys ≡ map_members no_mark o.tree → MembersBeside begins begins' HeadTo MemberTo b i of of' xs ys
    members_go nested b i n of of' same top syntax.end heads o is along syntax.end e = tt
    members_go nested b i n of of' same top syntax.end heads o is along (syntax.more y ys) e = let f = e ∙ ap (λ (x : Rewritten (syntax.Members A)). map_members no_mark x.tree) is in absurd cc
    members_go nested b i n of of' same top (syntax.more x xs) heads o (p, q, one', more, is) along syntax.end e = let f = e ∙ ap (λ (x : Rewritten (syntax.Members A)). map_members no_mark x.tree) is in absurd cc
    members_go nested b i n of of' same top (syntax.more x xs) heads o (p, q, one', more, is) (z, zs, form, here, there) (syntax.more y ys) e =
        let f : syntax.more (map_member no_mark y) (map_members no_mark ys) ≡ syntax.more (map_member no_mark p.tree) (map_members no_mark q.tree) = e ∙ ap (λ (x : Rewritten (syntax.Members A)). map_members no_mark x.tree) is in
        let made : syntax.more z zs ≡ syntax.more p.tree q.tree = sym form ∙ ap (λ (x : Rewritten (syntax.Members A)). x.tree) is in
        let first : map_member no_mark y ≡ map_member no_mark p.tree = cc in
        let rest : map_members no_mark ys ≡ map_members no_mark q.tree = cc in
        let z_is : z ≡ p.tree = cc in
        let zs_are : zs ≡ q.tree = cc in (
          one_goes nested b i n of of' same top x heads.0 p one' (subst (λ (v : syntax.Member A). EachAlong b n of x v) z_is here) y first,
          members_go nested b i n of of' same top xs heads.1 q more (subst (λ (v : syntax.Members A). MembersAlong b n of xs v) zs_are there) ys rest,
        )

    one_goes : (nested : Bool) (b i n : ℕ) (of of' : ClassKey) → of' ≡ class_to g of → (MayHold nested → of.outer ≡ None) → (x : syntax.Member A) → MemberHeads nested x
        → (o : Rewritten (syntax.Member A)) → RewritesOne tells Chosen ss b of x o → EachAlong b n of x o.tree
        → (y : syntax.Member B) → map_member no_mark y ≡ map_member no_mark o.tree → MemberBeside begins begins' HeadTo MemberTo b i of of' x y
    one_goes nested b i n of of' same top (syntax.field m mods t w init) heads o (k, is, made) (l, was, along) y e =
        field_goes b i n of of' same m mods t w init o (subst (λ (z : MemberKey). RewritesMember tells Chosen z b (syntax.field m mods t w init) o) is made)
        (subst (λ (z : MemberKey). OneAlong z b n (syntax.field m mods t w init) o.tree) was along) y e
    one_goes nested b i n of of' same top (syntax.method m mods t w ps body) heads o (k, (ts, mean, is), made) (l, (us, meant, was), along) y e =
        method_goes b i n of of' same m mods t w ps body o ts us (subst (λ (z : MemberKey). RewritesMember tells Chosen z b (syntax.method m mods t w ps body) o) is made)
        (subst (λ (z : MemberKey). OneAlong z b n (syntax.method m mods t w ps body) o.tree) was along) y e
    one_goes nested b i n of of' same top (syntax.constructor m mods w ps args body) heads o (k, (ts, mean, is), made) (l, (us, meant, was), along) y e =
        ctor_goes b i n of of' same m mods w ps args body o ts us (subst (λ (z : MemberKey). RewritesMember tells Chosen z b (syntax.constructor m mods w ps args body) o) is made)
        (subst (λ (z : MemberKey). OneAlong z b n (syntax.constructor m mods w ps args body) o.tree) was along) y e
    one_goes nested b i n of of' same top (syntax.inner m c) heads o (p, made, is) (j, d', form, along) (syntax.inner k d) e =
        let f : syntax.inner tt (map_class no_mark d) ≡ syntax.inner tt (map_class no_mark p.tree) = e ∙ ap (λ (x : Rewritten (syntax.Member A)). map_member no_mark x.tree) is in
        let whole : syntax.inner j d' ≡ syntax.inner m p.tree = sym form ∙ ap (λ (x : Rewritten (syntax.Member A)). x.tree) is in
        let here : map_class no_mark d ≡ map_class no_mark p.tree = cc in
        let there : d' ≡ p.tree = cc in
        class_goes true (begins m b) (begins' k i) (begins j n) (Some of.name) (Some of'.name) (around_image of of' same (top heads.0)) (λ h. absurd h) c heads.1 p made
        (subst (λ (v : syntax.Class A). ClassAlong (begins m b) (begins j n) (Some of.name) c v) there along) d here
    one_goes nested b i n of of' same top (syntax.inner m c) heads o (p, made, is) along (syntax.field k nods u x form) e = let f = e ∙ ap (λ (x : Rewritten (syntax.Member A)). map_member no_mark x.tree) is in absurd cc
    one_goes nested b i n of of' same top (syntax.inner m c) heads o (p, made, is) along (syntax.method k nods u x qs rest) e = let f = e ∙ ap (λ (x : Rewritten (syntax.Member A)). map_member no_mark x.tree) is in absurd cc
    one_goes nested b i n of of' same top (syntax.inner m c) heads o (p, made, is) along (syntax.constructor k nods x qs given rest) e = let f = e ∙ ap (λ (x : Rewritten (syntax.Member A)). map_member no_mark x.tree) is in absurd cc

  -- ---- files

  classes_go : (b i n : ℕ) (cs : List (syntax.Class A)) → ClassesHeads cs → (o : Rewritten (List (syntax.Class A))) → RewritesClasses tells Chosen ss b cs o
      → AlongClasses begins begins (IsKept begins begins g rows) (IsWritten begins begins g rows) (IsSuperKept g rows) (IsParentKept g rows) (member_to g) ss b n cs o.tree
      → (ds : List (syntax.Class B)) → map (map_class no_mark) ds ≡ map (map_class no_mark) o.tree → ClassesBeside begins begins' HeadTo MemberTo b i cs ds
  classes_go b i n [] heads o is along [] e = tt
  classes_go b i n [] heads o is along (d ∷ ds) e = let f = e ∙ ap (λ (x : Rewritten (List (syntax.Class A))). map (map_class no_mark) x.tree) is in absurd cc
  classes_go b i n (c ∷ cs) heads o (p, q, one', more, is) along [] e = let f = e ∙ ap (λ (x : Rewritten (List (syntax.Class A))). map (map_class no_mark) x.tree) is in absurd cc
  classes_go b i n (c ∷ cs) heads o (p, q, one', more, is) (z, zs, form, here, there) (d ∷ ds) e =
      let f = e ∙ ap (λ (x : Rewritten (List (syntax.Class A))). map (map_class no_mark) x.tree) is in
      let made : z ∷ zs ≡ p.tree ∷ q.tree = sym form ∙ ap (λ (x : Rewritten (List (syntax.Class A))). x.tree) is in (
        class_goes false b i n None None refl (λ h. refl) c heads.0 p one' (subst (λ (v : syntax.Class A). ClassAlong b n None c v) (cons_head _ _ _ _ made) here) d (cons_head _ _ _ _ f),
        classes_go b i n cs heads.1 q more
            (subst (λ (v : List (syntax.Class A)). AlongClasses begins begins (IsKept begins begins g rows) (IsWritten begins begins g rows) (IsSuperKept g rows) (IsParentKept g rows) (member_to g) ss b n cs v) (cons_rest _ _ _ _ made) there)
            ds (cons_rest _ _ _ _ f),
      )

  abbrev UnitsAlong : List (syntax.Unit A) → List (syntax.Unit A) → Type 0
  UnitsAlong = AlongUnits begins begins (IsKept begins begins g rows) (IsWritten begins begins g rows) (IsSuperKept g rows) (IsParentKept g rows) (member_to g) ss

  pub units_go : (us : List (syntax.Unit A)) → UnitsHeads us → (os : List (Rewritten (syntax.Unit A))) → RewritesUnits tells Chosen ss us os → UnitsAlong us (trees_of os)
      → (vs : List (syntax.Unit B)) → map (λ (v : syntax.Unit B). map_unit no_mark v) vs ≡ map (λ (o : Rewritten (syntax.Unit A)). map_unit no_mark o.tree) os → UnitsBeside begins begins' HeadTo MemberTo us vs
  units_go [] heads os is along [] e = tt
  units_go [] heads os is along (v ∷ vs) e = let f = e ∙ ap (λ (xs : List (Rewritten (syntax.Unit A))). map (λ (o : Rewritten (syntax.Unit A)). map_unit no_mark o.tree) xs) is in absurd cc
  units_go (u ∷ us) heads os (o, ps, unit, more, is) along [] e = let f = e ∙ ap (λ (xs : List (Rewritten (syntax.Unit A))). map (λ (o : Rewritten (syntax.Unit A)). map_unit no_mark o.tree) xs) is in absurd cc
  units_go (u ∷ us) heads os (o, ps, (p, classes, made), more, is) (z, zs, form, here, there) (v ∷ vs) e =
      let f = e ∙ ap (λ (xs : List (Rewritten (syntax.Unit A))). map (λ (o : Rewritten (syntax.Unit A)). map_unit no_mark o.tree) xs) is in
      let whole : z ∷ zs ≡ o.tree ∷ trees_of ps = sym form ∙ ap (λ (xs : List (Rewritten (syntax.Unit A))). trees_of xs) is in
      let unit_is : z.classes ≡ p.tree = ap (λ (x : syntax.Unit A). x.classes) (cons_head _ _ _ _ whole) ∙ ap (λ (x : Rewritten (syntax.Unit A)). x.tree.classes) made in (
        classes_go (begins u.mark 0) (begins' v.mark 0) (begins z.mark 0) u.classes heads.0 p classes
            (subst
            (λ (x : List (syntax.Class A)). AlongClasses begins begins (IsKept begins begins g rows) (IsWritten begins begins g rows) (IsSuperKept g rows) (IsParentKept g rows) (member_to g) ss (begins u.mark 0) (begins z.mark 0) u.classes x)
            unit_is here)
            v.classes (ap (λ (x : syntax.Unit Bare). x.classes) (cons_head _ _ _ _ f) ∙ ap (λ (x : Rewritten (syntax.Unit A)). map (map_class no_mark) x.tree.classes) made),
        units_go us heads.1 ps more (subst (λ (x : List (syntax.Unit A)). UnitsAlong us x) (cons_rest _ _ _ _ whole) there) vs (cons_rest _ _ _ _ f),
      )
