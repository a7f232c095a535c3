-- In a region written types go to their images, and so does the class in front of a dot, where it
-- stands yet.
use Rattle.std.proofs.Common.{◌≡◌, ℕ, zero, suc, ◌<◌, List, [], ◌∷◌, ◌++◌, Option, Some, None, refl, sym, ap, subst, ◌∙◌, inl, inr, arith}
use Rattle.std.specs.Prelude.{◌⊎◌, slice_get, if◌then◌else◌}
use Rattle.std.proofs.lemmas.Option.{same_Some}
use Rattle.jr_text.specs.declared.spans.Span.{Span}
use Rattle.jr_ast.specs.Tree as tree
use Rattle.jr_table.specs.Keys.{ClassKey, Ty, class}
use Rattle.jr_table.specs.Decls.{Decl, class_decl}
use Rattle.jr_table.specs.Rows.{Row}
use Rattle.jr_table.specs.Entries.{IsRowOf}
use Rattle.jr_table.specs.Found.{one}
use Rattle.jr_table.specs.Scope.{Scope}
use Rattle.jr_table.specs.Lookup.{FindsTypeNamed, FindsTypeOf, Shows}
use Rattle.jr_table.specs.declared.answers.Answer.{Answer}
use Rattle.jr_table.specs.declared.answers.Answer.TheVariants as number
use Rattle.jr_table.specs.Context.{Context, scope_of, NamesClass, WritesType}
use Rattle.jr_spell.specs.declared.references.RefForm.TheVariants as ref
use Rattle.jr_spell.specs.declared.spellings.Form.{Form}
use Rattle.jr_spell.specs.declared.spellings.Form.TheVariants.{Asked, Class, OuterClass}
use Rattle.jr_spell.specs.References.{Reference}
use Rattle.jr_spell.specs.Binds.{Binds, front_word, last_word}
use Rattle.jr_spell.specs.Rebound.{IsTypeWords}
use Rattle.jr_rewrite.specs.Respellings.{Front, alone, Choice, front_of, text_of}
use Rattle.jr_rewrite.specs.Rewritten.{Rewritten, word_to, qualifier_to, new_word, losses_of, drops_qualifier}
use Rattle.jr_rewrite.specs.Rewrites.{RewritesType}
use Rattle.jr_images.specs.Regions.{Region}
use Rattle.jr_images.specs.Spelling.{renamed, respelled, outer_type, spelled, reference, dotted, choosing, TypeChoice, QualifierChoice}
use Rattle.jr_images.proofs.Types.{class_forms}
use Rattle.jr_images.proofs.Chosen.{renamed_text, renamed_front, lost_some, left_none, right_none, outer_type_is}
use Rattle.jr_images.proofs.Dotted.{IsWhole, whole_front, whole_last, dotted_front, dotted_last}
use Rattle.jr_images.proofs.Forms.{with_name}
use Rattle.jr_kept_references.specs.InRegions.{rows_in, class_in, type_in, scope_in}
use Rattle.jr_kept_references.specs.KeptInRegions.{FindBothIn, IsRespelledIn, IsFrontKeptIn, IsTypeKeptIn}
use Rattle.jr_kept_references.proofs.RegionWorlds.{RegionWorld}

-- what is found has a row
found_row : (rows : List Row) (a : Answer) (x : Decl) → Shows rows a (one x) → (j : ℕ) × IsRowOf rows x j
found_row rows (number.One j) x h = (j, h)
found_row rows number.Nothing x h = absurd h
found_row rows (number.Many j k) x h = absurd h
found_row rows (number.NotAccessible j) x h = absurd h
found_row rows (number.FromStatic j) x h = absurd h

module _ {A : Type 0} (tells : A → ℕ → Span) (rows : List Row) (R : Region A) (c d : Context) (w : RegionWorld A rows R c d) where
  pub to_scope : (r : Reference) (x : Decl) (f : Form) → Binds (rows_in R) (scope_in R c) r x f → Binds (rows_in R) (scope_of d) r x f
  to_scope r x f h = subst (λ s. Binds (rows_in R) s r x f) (sym (w.stand.scope)) h

  -- a simple name
  module _ (m n : A) (old : List ℕ) (k : ClassKey) (whole : IsWhole (class_in R k).name) where
    abbrev simple_type : Reference
    simple_type = reference ref.ClassName (class_in R k).name None []

    abbrev SimpleTo : Form → Type 0
    SimpleTo f = Binds (rows_in R) (scope_of d) simple_type (class_decl (class_in R k)) f
        → WritesType (rows_in R) (scope_of d) (tree.named m (qualifier_to m (front_of (spelled old (class_in R k).name (class_in R k) f)) None)
        (word_to (spelled old (class_in R k).name (class_in R k) f) (record { mark = n; text = old }))) (class (class_in R k))

    asked_simple : SimpleTo Asked
    asked_simple binds = subst (λ (u : tree.TypeName A). WritesType (rows_in R) (scope_of d) u (class (class_in R k)))
        (sym (with_name (λ front v. tree.named m (qualifier_to m front None) v) old (class_in R k).name n))
        (w.classes (rows_in R) d simple_type (class_decl (class_in R k)) Asked (tree.named m None (record { mark = n; text = (class_in R k).name })) binds
        (subst (λ (o : Option (List ℕ)). IsTypeWords o (last_word (class_in R k).name) (tree.named m None (record { mark = n; text = (class_in R k).name }))) (sym (whole_front (class_in R k).name whole))
        (m, record { mark = n; text = (class_in R k).name }, sym (whole_last (class_in R k).name whole), refl)))

    simple_type_kept : (place : ℕ) (f : Form) → slice_get (Asked ∷ Class ∷ OuterClass ∷ []) place ≡ Some f → SimpleTo f
    simple_type_kept place f there = class_forms SimpleTo asked_simple
        (λ binds. w.classes (rows_in R) d simple_type (class_decl (class_in R k)) Class (tree.named m None (record { mark = n; text = (class_in R k).name })) binds
        (m, record { mark = n; text = (class_in R k).name }, refl, refl))
        (λ binds. subst (λ (front : Front). WritesType (rows_in R) (scope_of d) (tree.named m (qualifier_to m front None) (record { mark = n; text = (class_in R k).name })) (class (class_in R k)))
        (sym (outer_type_is (class_in R k).outer (class_in R k).name binds.0 binds.1))
        (w.classes (rows_in R) d simple_type (class_decl (class_in R k)) OuterClass (tree.named m (Some (new_word m binds.0)) (record { mark = n; text = (class_in R k).name })) binds
        (binds.0, binds.1, (m, new_word m binds.0, record { mark = n; text = (class_in R k).name }, refl, refl, refl))))
        place f there

  -- a name behind that of the class around it, or of one below that
  module _ (m n : A) (old : List ℕ) (v : tree.Word A) (o k : ClassKey) (whole : IsWhole (class_in R o).name) where
    abbrev qualified_type : Reference
    qualified_type = reference ref.ClassName (dotted (class_in R o).name (class_in R k).name) None []

    abbrev QualifiedTo : Form → Type 0
    QualifiedTo f = (f ≡ Asked → v.text ≡ (class_in R o).name) → Binds (rows_in R) (scope_of d) qualified_type (class_decl (class_in R k)) f
        → WritesType (rows_in R) (scope_of d) (tree.named m (qualifier_to m (front_of (spelled old (class_in R k).name (class_in R k) f)) (Some v))
        (word_to (spelled old (class_in R k).name (class_in R k) f) (record { mark = n; text = old }))) (class (class_in R k))

    asked_qualified : QualifiedTo Asked
    asked_qualified text binds = subst (λ (u : tree.TypeName A). WritesType (rows_in R) (scope_of d) u (class (class_in R k)))
        (sym (with_name (λ front z. tree.named m (qualifier_to m front (Some v)) z) old (class_in R k).name n))
        (w.classes (rows_in R) d qualified_type (class_decl (class_in R k)) Asked (tree.named m (Some v) (record { mark = n; text = (class_in R k).name })) binds
        (subst (λ (x : Option (List ℕ)). IsTypeWords x (last_word (dotted (class_in R o).name (class_in R k).name)) (tree.named m (Some v) (record { mark = n; text = (class_in R k).name })))
        (sym (dotted_front (class_in R o).name (class_in R k).name whole))
        (m, v, record { mark = n; text = (class_in R k).name }, text refl, sym (dotted_last (class_in R o).name (class_in R k).name whole), refl)))

    qualified_type_kept : (place : ℕ) (f : Form) → slice_get (Asked ∷ Class ∷ OuterClass ∷ []) place ≡ Some f → QualifiedTo f
    qualified_type_kept place f there = class_forms QualifiedTo asked_qualified
        (λ text binds. w.classes (rows_in R) d qualified_type (class_decl (class_in R k)) Class (tree.named m None (record { mark = n; text = (class_in R k).name })) binds
        (m, record { mark = n; text = (class_in R k).name }, refl, refl))
        (λ text binds. subst (λ (front : Front). WritesType (rows_in R) (scope_of d) (tree.named m (qualifier_to m front (Some v)) (record { mark = n; text = (class_in R k).name })) (class (class_in R k)))
        (sym (outer_type_is (class_in R k).outer (class_in R k).name binds.0 binds.1))
        (w.classes (rows_in R) d qualified_type (class_decl (class_in R k)) OuterClass (tree.named m (Some (new_word m binds.0)) (record { mark = n; text = (class_in R k).name })) binds
        (binds.0, binds.1, (m, new_word m binds.0, record { mark = n; text = (class_in R k).name }, refl, refl, refl))))
        place f there

  -- ---- all written types

  one_class : (s : Scope) (name : List ℕ) (j k : ClassKey) → FindsTypeNamed rows s name (one (class_decl j)) → FindsTypeNamed rows s name (one (class_decl k)) → j ≡ k
  one_class s name j k a b = let p = w.one_old.type_named s name (one (class_decl j)) (one (class_decl k)) a b in cc

  one_inner : (s : Scope) (o : ClassKey) (name : List ℕ) (j k : ClassKey) → FindsTypeOf rows s o name (one (class_decl j)) → FindsTypeOf rows s o name (one (class_decl k)) → j ≡ k
  one_inner s o name j k a b = let p = w.one_old.type_of s o name (one (class_decl j)) (one (class_decl k)) a b in cc

  as_image : (u : Ty) (j k : ClassKey) (y : tree.TypeName A) → u ≡ class j → k ≡ j → WritesType (rows_in R) (scope_of d) y (class (class_in R k)) → WritesType (rows_in R) (scope_of d) y (type_in R u)
  as_image u j k y is same h = subst (λ (t : Ty). WritesType (rows_in R) (scope_of d) y t) (ap (λ (z : ClassKey). class (class_in R z)) same ∙ sym (ap (type_in R) is)) h

  module _ (super_at : Context → ℕ) (base : ℕ) where
    abbrev TypeTo : tree.TypeName A → tree.TypeName A → Type 0
    TypeTo t y = (u : Ty) → WritesType rows (scope_of c) t u → WritesType (rows_in R) (scope_of d) y (type_in R u)

    row_of_class : (name : List ℕ) (k : ClassKey) → FindsTypeNamed rows (scope_of c) name (one (class_decl k)) → (j : ℕ) × IsRowOf rows (class_decl k) j
    row_of_class name k (a, finds, shows) = found_row rows a (class_decl k) shows

    whole_class : (name : List ℕ) (k : ClassKey) → FindsTypeNamed rows (scope_of c) name (one (class_decl k)) → IsWhole (class_in R k).name
    whole_class name k finds = let r = row_of_class name k finds in w.images.names k r.0 r.1

    simple_case : (m : A) (v : tree.Word A) (h : Choice) → TypeChoice (λ m b. (tells m b).from) rows R c base (tree.named m None v) h → losses_of h ≡ []
        → TypeTo (tree.named m None v) (tree.named m (qualifier_to m (front_of h) None) (word_to h v))
    simple_case m v h (k, named, inl (f, taken, is)) none u (j, other, type) = as_image u j k (tree.named m (qualifier_to m (front_of h) None) (word_to h v)) type (one_class (scope_of c) v.text k j named other)
        (subst (λ (x : Choice). WritesType (rows_in R) (scope_of d) (tree.named m (qualifier_to m (front_of x) None) (word_to x v)) (class (class_in R k))) (sym is)
        (simple_type_kept m v.mark v.text k (whole_class v.text k named) taken.place f taken.stands
        (to_scope (reference ref.ClassName (class_in R k).name None []) (class_decl (class_in R k)) f taken.binds)))
    simple_case m v h (k, named, inr (none_binds, (f, finds, is))) none u other = absurd (lost_some _ (sym (ap losses_of is) ∙ none))

    -- the name in front has the class's new name, which finds its image, unless it is lost
    front_text : (m : A) (z v : tree.Word A) (q : Choice) (o : ClassKey) → FindsTypeNamed rows (scope_of c) z.text (one (class_decl o))
        → QualifierChoice (λ m b. (tells m b).from) rows R c base (tree.named m (Some z) v) q → losses_of q ≡ []
        → (text_of q z.text ≡ (class_in R o).name) × FindsTypeNamed (rows_in R) (scope_in R c) (class_in R o).name (one (class_decl (class_in R o)))
    front_text m z v q o named (i, other, inl (leads, is)) none =
        let same = one_class (scope_of c) z.text i o other named in (
          ap (λ (x : Choice). text_of x z.text) is ∙ renamed_text z.text (class_in R i).name ∙ ap (λ (x : ClassKey). (class_in R x).name) same,
          subst (λ (x : ClassKey). FindsTypeNamed (rows_in R) (scope_in R c) (class_in R x).name (one (class_decl (class_in R x)))) same leads,
        )
    front_text m z v q o named (i, other, inr (not_leads, (f, finds, is))) none = absurd (lost_some _ (sym (ap losses_of is) ∙ none))

    qualified_case : (m : A) (z v : tree.Word A) (q h : Choice) → QualifierChoice (λ m b. (tells m b).from) rows R c base (tree.named m (Some z) v) q
        → TypeChoice (λ m b. (tells m b).from) rows R c base (tree.named m (Some z) v) h
        → (if drops_qualifier tells (front_of h) then [] else losses_of q) ++ losses_of h ≡ []
        → TypeTo (tree.named m (Some z) v) (tree.named m (qualifier_to m (front_of h) (Some (word_to q z))) (word_to h v))
    qualified_case m z v q h qualifier (o, k, named, inner, inr (none_binds, (f, finds, is))) none u other =
        absurd (lost_some _ (sym (ap losses_of is) ∙ right_none (if drops_qualifier tells (front_of h) then [] else losses_of q) (losses_of h) none))
    qualified_case m z v q h qualifier (o, k, named, inner, inl (f, taken, is)) none u (j, (i, front, back), type) =
        let same_outer = one_class (scope_of c) z.text i o front named in
        let same = one_inner (scope_of c) o v.text k j inner (subst (λ (x : ClassKey). FindsTypeOf rows (scope_of c) x v.text (one (class_decl j))) same_outer back) in
        let left : (if drops_qualifier tells (front_of h) then [] else losses_of q) ≡ [] = left_none (if drops_qualifier tells (front_of h) then [] else losses_of q) (losses_of h) none in
        as_image u j k (tree.named m (qualifier_to m (front_of h) (Some (word_to q z))) (word_to h v)) type same
        (subst (λ (x : Choice). WritesType (rows_in R) (scope_of d) (tree.named m (qualifier_to m (front_of x) (Some (word_to q z))) (word_to x v)) (class (class_in R k))) (sym is)
        (qualified_type_kept m v.mark v.text (word_to q z) o k (whole_class z.text o named) taken.place f taken.stands
        (λ asked. (front_text m z v q o named qualifier
        (sym (ap (λ (front : Front). if drops_qualifier tells front then [] else losses_of q)
        (ap front_of (is ∙ ap (spelled v.text (class_in R k).name (class_in R k)) asked) ∙ renamed_front v.text (class_in R k).name)) ∙ left)).0)
        (to_scope (reference ref.ClassName (dotted (class_in R o).name (class_in R k).name) None []) (class_decl (class_in R k)) f taken.binds)))

    -- a written type goes to its image
    pub type_kept : (t : tree.TypeName A) (p : Rewritten (tree.TypeName A)) → RewritesType tells (choosing (λ m b. (tells m b).from) rows R super_at) c base t p → p.losses ≡ [] → TypeTo t p.tree
    type_kept (tree.int m) p is none u type = subst (λ (q : Rewritten (tree.TypeName A)). WritesType (rows_in R) (scope_of d) q.tree (type_in R u)) (sym is) (ap (type_in R) type)
    type_kept (tree.boolean m) p is none u type = subst (λ (q : Rewritten (tree.TypeName A)). WritesType (rows_in R) (scope_of d) q.tree (type_in R u)) (sym is) (ap (type_in R) type)
    type_kept (tree.named m None v) p (h, spells, is) none u type = subst (λ (q : Rewritten (tree.TypeName A)). WritesType (rows_in R) (scope_of d) q.tree (type_in R u)) (sym is)
        (simple_case m v h spells (sym (ap (λ (q : Rewritten (tree.TypeName A)). q.losses) is) ∙ none) u type)
    type_kept (tree.named m (Some z) v) p (q, h, qualifier, spells, is) none u type = subst (λ (x : Rewritten (tree.TypeName A)). WritesType (rows_in R) (scope_of d) x.tree (type_in R u)) (sym is)
        (qualified_case m z v q h qualifier spells (sym (ap (λ (x : Rewritten (tree.TypeName A)). x.losses) is) ∙ none) u type)

    -- ---- the class in front of the dot

    module _ (o k : ClassKey) (whole : IsWhole (class_in R o).name) where
      abbrev asked_type : Reference
      asked_type = reference ref.ClassName (dotted (class_in R o).name (class_in R k).name) None []

      abbrev BindsSo : Form → Type 0
      BindsSo f = Binds (rows_in R) (scope_in R c) asked_type (class_decl (class_in R k)) f

      abbrev Stand : Type 0
      Stand = FindBothIn R (scope_of d) o k (class_in R o).name (class_in R k).name

      abbrev Names : Type 0
      Names = NamesClass (rows_in R) (scope_of d) (Some (class_in R o).name) (class_in R k).name (class_in R k)

      abbrev NamesBehind : Option (List ℕ) → List ℕ → Type 0
      NamesBehind front back = NamesClass (rows_in R) (scope_in R c) front back (class_in R k)

      -- the words of the asked spelling are the two names
      words_named : NamesBehind (front_word (dotted (class_in R o).name (class_in R k).name)) (last_word (dotted (class_in R o).name (class_in R k).name)) ≡ NamesBehind (Some (class_in R o).name) (class_in R k).name
      words_named = λ i. NamesBehind (dotted_front (class_in R o).name (class_in R k).name whole i) (dotted_last (class_in R o).name (class_in R k).name whole i)

      -- where they find the image, it binds
      binds_asked : Names → BindsSo Asked
      binds_asked names = subst (λ (X : Type 0). X) (sym words_named)
          (subst (λ (s : Scope). NamesClass (rows_in R) s (Some (class_in R o).name) (class_in R k).name (class_in R k)) (w.stand.scope) names)

      -- and where it binds and the first finds its image, they find both
      asked_binds : FindsTypeNamed (rows_in R) (scope_in R c) (class_in R o).name (one (class_decl (class_in R o))) → BindsSo Asked → Stand
      asked_binds first names =
          let both : NamesBehind (Some (class_in R o).name) (class_in R k).name = subst (λ (X : Type 0). X) words_named names in
          let p = w.one_new.type_named (scope_in R c) (class_in R o).name (one (class_decl both.0)) (one (class_decl (class_in R o))) both.1 first in
          let same_class : both.0 ≡ class_in R o = cc in
          subst (λ (s : Scope). FindBothIn R s o k (class_in R o).name (class_in R k).name) (sym (w.stand.scope))
          (first, subst (λ (x : ClassKey). FindsTypeOf (rows_in R) (scope_in R c) x (class_in R k).name (one (class_decl (class_in R k)))) same_class both.2)

      module _ (m : A) (z v : tree.Word A) (q h : Choice) where
        abbrev FrontTo : tree.TypeName A → Type 0
        FrontTo u = ((j : A) × (x y : tree.Word A) × (u ≡ tree.named j (Some x) y) × FindBothIn R (scope_of d) o k x.text y.text)
            ⊎ ((Names → ⊥) × IsRespelledIn R k u)

        abbrev with_front : Front → tree.TypeName A
        with_front front = tree.named m (qualifier_to m front (Some (word_to q z))) (word_to h v)

        front_by : (n : ℕ) (f : Form) → slice_get (Asked ∷ Class ∷ OuterClass ∷ []) n ≡ Some f → BindsSo f
            → ((i : ℕ) (x : Form) → i < n → slice_get (Asked ∷ Class ∷ OuterClass ∷ []) i ≡ Some x → BindsSo x → ⊥)
            → h ≡ spelled v.text (class_in R k).name (class_in R k) f → (f ≡ Asked → (text_of q z.text ≡ (class_in R o).name) × FindsTypeNamed (rows_in R) (scope_in R c) (class_in R o).name (one (class_decl (class_in R o))))
            → FrontTo (with_front (front_of h))
        front_by zero f at binds first is text =
            let asked : f ≡ Asked = sym (same_Some _ _ at) in
            let so : h ≡ renamed v.text (class_in R k).name = is ∙ ap (spelled v.text (class_in R k).name (class_in R k)) asked in
            let back : text_of h v.text ≡ (class_in R k).name = ap (λ (x : Choice). text_of x v.text) so ∙ renamed_text v.text (class_in R k).name in
            let both = asked_binds (text asked).1 (subst BindsSo asked binds) in
            inl (
              m,
              word_to q z,
              word_to h v,
              ap with_front (ap front_of so ∙ renamed_front v.text (class_in R k).name),
              subst (λ (x : List ℕ). FindBothIn R (scope_of d) o k x (text_of h v.text)) (sym (text asked).0)
                  (subst (λ (x : List ℕ). FindBothIn R (scope_of d) o k (class_in R o).name x) (sym back) both),
            )
        front_by (suc zero) f at binds first is text =
            let alone_is : f ≡ Class = sym (same_Some _ _ at) in
            let so : h ≡ respelled (class_in R k).name alone = is ∙ ap (spelled v.text (class_in R k).name (class_in R k)) alone_is in
            inr (
              λ names. first 0 Asked (omega arith) refl (binds_asked names),
              (m, word_to h v, ap (λ (x : Choice). text_of x v.text) so, inl (ap with_front (ap front_of so))),
            )
        front_by (suc (suc zero)) f at binds first is text =
            let outer_is : f ≡ OuterClass = sym (same_Some _ _ at) in
            let so : h ≡ respelled (class_in R k).name (outer_type (class_in R k)) = is ∙ ap (spelled v.text (class_in R k).name (class_in R k)) outer_is in
            let around : BindsSo OuterClass = subst BindsSo outer_is binds in
            inr (
              λ names. first 0 Asked (omega arith) refl (binds_asked names),
              (
                m,
                word_to h v,
                ap (λ (x : Choice). text_of x v.text) so,
                inr (new_word m around.0, around.1, ap with_front (ap front_of so ∙ outer_type_is (class_in R k).outer (class_in R k).name around.0 around.1)),
              ),
            )
        front_by (suc (suc (suc n))) f at binds first is text = absurd cc

    front_case : (m : A) (z v : tree.Word A) (q h : Choice) → QualifierChoice (λ m b. (tells m b).from) rows R c base (tree.named m (Some z) v) q
        → TypeChoice (λ m b. (tells m b).from) rows R c base (tree.named m (Some z) v) h
        → (if drops_qualifier tells (front_of h) then [] else losses_of q) ++ losses_of h ≡ []
        → IsFrontKeptIn R rows (scope_of c) (scope_of d) (tree.named m (Some z) v) (tree.named m (qualifier_to m (front_of h) (Some (word_to q z))) (word_to h v))
    front_case m z v q h qualifier (o, k, named, inner, inr (none_binds, (f, finds, is))) none a b front back =
        absurd (lost_some _ (sym (ap losses_of is) ∙ right_none (if drops_qualifier tells (front_of h) then [] else losses_of q) (losses_of h) none))
    front_case m z v q h qualifier (o, k, named, inner, inl (f, taken, is)) none a b front back =
        let same_outer = one_class (scope_of c) z.text o a named front in
        let same_inner = one_inner (scope_of c) o v.text k b inner (subst (λ (x : ClassKey). FindsTypeOf rows (scope_of c) x v.text (one (class_decl b))) (sym same_outer) back) in
        let left : (if drops_qualifier tells (front_of h) then [] else losses_of q) ≡ [] = left_none (if drops_qualifier tells (front_of h) then [] else losses_of q) (losses_of h) none in
        let u = tree.named m (qualifier_to m (front_of h) (Some (word_to q z))) (word_to h v) in
        subst (λ (x : ClassKey). ((j : A) × (y w : tree.Word A) × (u ≡ tree.named j (Some y) w) × FindBothIn R (scope_of d) x b y.text w.text)
        ⊎ ((NamesClass (rows_in R) (scope_of d) (Some (class_in R x).name) (class_in R b).name (class_in R b) → ⊥) × IsRespelledIn R b u)) same_outer
        (subst (λ (x : ClassKey). ((j : A) × (y w : tree.Word A) × (u ≡ tree.named j (Some y) w) × FindBothIn R (scope_of d) o x y.text w.text)
        ⊎ ((NamesClass (rows_in R) (scope_of d) (Some (class_in R o).name) (class_in R x).name (class_in R x) → ⊥) × IsRespelledIn R x u)) same_inner
        (front_by o k (whole_class z.text o named) m z v q h taken.place f taken.stands taken.binds taken.first is
        (λ asked. front_text m z v q o named qualifier
        (sym (ap (λ (front : Front). if drops_qualifier tells front then [] else losses_of q)
        (ap front_of (is ∙ ap (spelled v.text (class_in R k).name (class_in R k)) asked) ∙ renamed_front v.text (class_in R k).name)) ∙ left))))

    front_kept : (t : tree.TypeName A) (p : Rewritten (tree.TypeName A)) → RewritesType tells (choosing (λ m b. (tells m b).from) rows R super_at) c base t p → p.losses ≡ [] → IsFrontKeptIn R rows (scope_of c) (scope_of d) t p.tree
    front_kept (tree.int m) p is none = tt
    front_kept (tree.boolean m) p is none = tt
    front_kept (tree.named m None v) p made none = tt
    front_kept (tree.named m (Some z) v) p (q, h, qualifier, spells, is) none = subst (λ (x : Rewritten (tree.TypeName A)). IsFrontKeptIn R rows (scope_of c) (scope_of d) (tree.named m (Some z) v) x.tree) (sym is)
        (front_case m z v q h qualifier spells (sym (ap (λ (x : Rewritten (tree.TypeName A)). x.losses) is) ∙ none))

    -- a written type and the class in front of its dot
    pub written_kept : (t : tree.TypeName A) (p : Rewritten (tree.TypeName A)) → RewritesType tells (choosing (λ m b. (tells m b).from) rows R super_at) c base t p → p.losses ≡ [] → IsTypeKeptIn R rows (scope_of c) (scope_of d) t p.tree
    written_kept t p made none = record { means = type_kept t p made none; front = front_kept t p made none }

  -- a written type is one type
  pub writes_one : (t : tree.TypeName A) (j k : ClassKey) → WritesType rows (scope_of c) t (class j) → WritesType rows (scope_of c) t (class k) → j ≡ k
  writes_one (tree.int m) j k a b = absurd cc
  writes_one (tree.boolean m) j k a b = absurd cc
  writes_one (tree.named m None v) j k (x, found, is) (y, other, was) = let p : x ≡ y = one_class (scope_of c) v.text x y found other in cc
  writes_one (tree.named m (Some z) v) j k (x, (o, front, back), is) (y, (i, first, last), was) =
      let q : i ≡ o = one_class (scope_of c) z.text i o first front in
      let p : x ≡ y = one_inner (scope_of c) o v.text x y back (subst (λ (u : ClassKey). FindsTypeOf rows (scope_of c) u v.text (one (class_decl y))) q last) in cc
