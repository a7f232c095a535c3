-- A rewritten program whose declarations are the images of the old ones begins with the images of what the old one begins with.
use Rattle.std.proofs.Common.{◌≡◌, ℕ, List, [], ◌∷◌, Option, Some, None, Bool, true, refl, sym, ap, subst, ◌∙◌, inl, inr, map}
use Rattle.std.specs.Prelude.{◌⊎◌, codes}
use Rattle.std.specs.List.{list_any}
use Rattle.jr_text.specs.declared.spans.Span.{Span}
use Rattle.jr_ast.specs.Tree as tree
use Rattle.jr_ast.specs.MemberTree as syntax
use Rattle.jr_ast.specs.Remarked.{map_modifier, map_class, map_member, map_members}
use Rattle.jr_grammar.specs.Bare.{Bare, no_mark, bare, bare_class, bare_member, bare_unit}
use Rattle.jr_runs.specs.FirstValues.{First, gives, makes, default_of}
use Rattle.jr_runs.specs.KeyMaps.{KeyMap}
use Rattle.jr_runs.specs.Rows as core_rows
use Rattle.jr_runs.specs.Values as core_value
use Rattle.jr_table.specs.Keys.{ClassKey, FieldKey}
use Rattle.jr_table.specs.Decls.{MemberKey, head, field, method, constructor, class_decl}
use Rattle.jr_table.specs.Rows.{Row}
use Rattle.jr_table.specs.Prelude.{object_key, class_row}
use Rattle.jr_table.specs.Entries.{IsRowOf, is_static_word}
use Rattle.jr_table.specs.Conditions.{AreRows}
use Rattle.jr_table.specs.DeclaredItems.{DeclaredItem, class_key, declarations_of}
use Rattle.jr_table.specs.HeadRules.{is_static_member}
use Rattle.jr_table.specs.ProgramRows.{AreProgramRows}
use Rattle.jr_table.specs.Errors.{Part, member_part, Declares, InClass, InMembers, InInner, InClasses, InUnits}
use Rattle.jr_table.specs.Context.{Context}
use Rattle.jr_table.specs.Binding.{Role}
use Rattle.jr_members.specs.WrittenMembers.{written_members}
use Rattle.jr_members.specs.WrittenLaws.{AreWritten}
use Rattle.jr_members.proofs.Anywhere.{written_member}
use Rattle.jr_rewrite.specs.Rewritten.{Rewritten}
use Rattle.jr_rewrite.specs.Rewrites.{Choosing, RewritesExp, RewritesMember, RewritesOne, RewritesMembers, RewritesClass, RewritesClasses, RewritesUnits, TransformsExp, TransformsClass, TransformsMembers, TransformsOne}
use Rattle.jr_images.specs.Images.{Renaming, class_to, field_to, rows_to}
use Rattle.jr_rename_laws.specs.ImageLaws.{IsClassImage, IsMemberImage}
use Rattle.jr_rename_laws.specs.Beside.{ClassBeside, MembersBeside, MemberBeside, ClassesBeside, UnitsBeside}
use Rattle.jr_histories.specs.Laws.{first_image}
use Rattle.jr_histories.proofs.Backwards.{default_image}
use Rattle.jr_code.specs.RunKeys.{RunKeys}
use Rattle.jr_code.specs.CodedFields.{FirstOf, StaticFirst, ClassFirsts, MembersFirsts, MemberFirst, ClassesFirsts, UnitsFirsts, HasFirst, AreFirstValues}
use Rattle.jr_code.specs.Exchanged.{exchanged}
use Rattle.jr_code.specs.RunRows.{AreRunRows}
use Rattle.jr_first_values.proofs.Forms.{Form, a_number, a_truth, a_null, a_string, a_negative, an_object, form, negated, value_of, first_value, same_value}
use Rattle.jr_first_values.proofs.FirstValues.{IsInit, first_or, initialized}
use Rattle.jr_kept_runs.specs.KeysTo.{keys_to}
use Rattle.jr_kept_runs.specs.TablesAgree.{TablesAgree}
use Rattle.jr_kept_runs.proofs.SameBodies.{static_same}
use Rattle.jr_kept_runs.proofs.SameTables.{maps, field_there, new_is, same_rows}
use Rattle.jr_kept_runs.proofs.KeptPrograms.{stays}

-- ---- trees side by side, whatever is chosen in them

module _ {A : Type 0} (tells : A → ℕ → Span) (C : Choosing A) (g : Renaming) (declarations declarations' : List DeclaredItem) (r : KeyMap RunKeys) (object : r.class object_key ≡ object_key) (first first' : FieldKey → First RunKeys) where
  abbrev begins : A → ℕ → ℕ
  begins m b = (tells m b).from

  abbrev IsNamed : (b i : ℕ) (o p : Option (List ℕ)) → syntax.Class A → syntax.Class A → Type 0
  IsNamed = IsClassImage tells (λ m b. (tells m b).from) g

  abbrev IsImage : (b i : ℕ) (of of' : ClassKey) → syntax.Member A → syntax.Member A → Type 0
  IsImage = IsMemberImage tells (λ m b. (tells m b).from) g declarations declarations'

  -- an initializer that has a value stays, but for what `Object` is spelled as
  rewritten : (e : tree.Exp A) (x : First RunKeys) → Form e x → (c : Context) (role : Role) (b : ℕ) (o : Rewritten (tree.Exp A)) → RewritesExp tells C c role b e o → value_of o.tree ≡ first_image r x
  unfolding TransformsExp
  rewritten e x (a_number m n) c role b o is = ap (λ (l : Rewritten (tree.Exp A)). value_of l.tree) is
  rewritten e x (a_truth m v) c role b o is = ap (λ (l : Rewritten (tree.Exp A)). value_of l.tree) is
  rewritten e x (a_null m) c role b o is = ap (λ (l : Rewritten (tree.Exp A)). value_of l.tree) is
  rewritten e x (a_string m s) c role b o is = ap (λ (l : Rewritten (tree.Exp A)). value_of l.tree) is
  rewritten e x (a_negative m n v) c role b o (p, inside, is) = ap (λ (l : Rewritten (tree.Exp A)). value_of l.tree) is ∙ ap (λ (l : Rewritten (tree.Exp A)). negated l.tree) inside
  rewritten e x (an_object m n w) c role b o (h, p, q, chosen, named, row, is) = ap (λ (l : Rewritten (tree.Exp A)). value_of l.tree) is ∙ sym (ap makes object)

  kept_first : (e d : tree.Exp A) (x y : First RunKeys) → FirstOf e x → FirstOf d y → (c : Context) (role : Role) (b : ℕ) (o : Rewritten (tree.Exp A)) → RewritesExp tells C c role b e o → bare d ≡ bare o.tree → y ≡ first_image r x
  kept_first e d x y old new c role b o made bares = first_value d y new ∙ same_value d o.tree bares ∙ rewritten e x (form e x old) c role b o made

  -- what is kept of a field
  abbrev Goal : MemberKey → Type 0
  Goal (field k) = first' (field_to g k) ≡ first_image r (first k)
  Goal (head k) = Unit {0}
  Goal (method k) = Unit {0}
  Goal (constructor k) = Unit {0}

  abbrev Static : MemberKey → (base : ℕ) → Part A → Type 0
  Static k n q = IsInit begins q

  field_walk : (b i : ℕ) (of of' : ClassKey) (m : A) (mods : List (syntax.Modifier A)) (t : tree.TypeName A) (w : tree.Word A) (e : tree.Exp A) (p : Rewritten (syntax.Member A)) (y : syntax.Member A) → bare_member y ≡ bare_member p.tree
      → (j : MemberKey) → RewritesMember tells C j b (syntax.field m mods t w (Some e)) p → IsImage b i of of' (syntax.field m mods t w (Some e)) y → is_static_member begins mods ≡ true
      → StaticFirst begins first (is_static_member begins mods) of w e → MemberFirst begins first' i of' y → Goal (field (record { class = of; name = w.text }))
  unfolding MemberFirst map_member
  field_walk b i of of' m mods t w e p (syntax.field l words u v (Some d)) same j (a, n, q, typed, named, (z, made, init), that) image static old new =
      let bares : bare_member (syntax.field l words u v (Some d)) ≡ bare_member (syntax.field m mods a.tree n.tree (Some z.tree)) =
      same ∙ ap (λ (x : Rewritten (syntax.Member A)). bare_member x.tree) that ∙ ap (λ (x : Rewritten (Option (tree.Exp A))). bare_member (syntax.field m mods a.tree n.tree x.tree)) init in
      let modifiers : map (map_modifier no_mark) words ≡ map (map_modifier no_mark) mods = cc in
      let inits : bare d ≡ bare z.tree = cc in
      let here : field (field_to g (record { class = of; name = w.text })) ≡ field (record { class = of'; name = v.text }) = image (field (record { class = of; name = w.text })) refl in
      let keys : record { class = of'; name = v.text } ≡ field_to g (record { class = of; name = w.text }) = cc in
      let mine : FirstOf e (first (record { class = of; name = w.text })) = subst (λ (s : Bool). StaticFirst begins first s of w e) static old in
      let yours : FirstOf d (first' (record { class = of'; name = v.text })) = subst (λ (s : Bool). StaticFirst begins first' s of' v d) (static_same begins words mods modifiers ∙ static) new in
      ap first' (sym keys) ∙ kept_first e d (first (record { class = of; name = w.text })) (first' (record { class = of'; name = v.text })) mine yours _ _ _ z made inits
  field_walk b i of of' m mods t w e p (syntax.field l words u v None) same j (a, n, q, typed, named, (z, made, init), that) image static old new =
      let bares : bare_member (syntax.field l words u v None) ≡ bare_member (syntax.field m mods a.tree n.tree (Some z.tree)) =
      same ∙ ap (λ (x : Rewritten (syntax.Member A)). bare_member x.tree) that ∙ ap (λ (x : Rewritten (Option (tree.Exp A))). bare_member (syntax.field m mods a.tree n.tree x.tree)) init in
      absurd cc
  field_walk b i of of' m mods t w e p (syntax.method l words u v ps body) same j (a, n, q, typed, named, made, that) image static old new =
      (let bares = same ∙ ap (λ (x : Rewritten (syntax.Member A)). bare_member x.tree) that in absurd cc)
  field_walk b i of of' m mods t w e p (syntax.constructor l words v ps args body) same j (a, n, q, typed, named, made, that) image static old new =
      (let bares = same ∙ ap (λ (x : Rewritten (syntax.Member A)). bare_member x.tree) that in absurd cc)
  field_walk b i of of' m mods t w e p (syntax.inner l c) same j (a, n, q, typed, named, made, that) image static old new = (let bares = same ∙ ap (λ (x : Rewritten (syntax.Member A)). bare_member x.tree) that in absurd cc)

  mutual
    unfolding TransformsClass TransformsMembers TransformsOne ClassBeside MembersBeside MemberBeside ClassFirsts MembersFirsts MemberFirst InClass InMembers InInner map_class map_member map_members

    class_walk : (b i : ℕ) (o p : Option (List ℕ)) (c : syntax.Class A) (q : Rewritten (syntax.Class A)) (d : syntax.Class A) → bare_class d ≡ bare_class q.tree → RewritesClass tells C declarations b o c q → ClassBeside begins begins IsNamed IsImage b i o p c d
        → ClassFirsts begins first b o c → ClassFirsts begins first' i p d → (k : MemberKey) → InClass begins declarations Static b o c k → Goal k
    class_walk b i o p (syntax.class m mods w t ms) q (syntax.class l words v u ns) e (n, z, head_made, made, is) beside old new k (inl here) = absurd here.1
    class_walk b i o p (syntax.class m mods w t ms) q (syntax.class l words v u ns) e (n, z, head_made, made, is) beside old new k (inr later) =
        let same : bare_class (syntax.class l words v u ns) ≡ bare_class (syntax.class m mods n.tree.0 n.tree.1 z.tree) = e ∙ ap (λ (x : Rewritten (syntax.Class A)). bare_class x.tree) is in
        let trees : map_members no_mark ns ≡ map_members no_mark z.tree = cc in
        members_walk (begins m b) (begins l i) (class_key begins o w.text) (class_key begins p v.text) ms z ns trees made beside.1 old new k later

    members_walk : (b i : ℕ) (of of' : ClassKey) (ms : syntax.Members A) (q : Rewritten (syntax.Members A)) (ns : syntax.Members A) → map_members no_mark ns ≡ map_members no_mark q.tree → RewritesMembers tells C declarations b of ms q
        → MembersBeside begins begins IsNamed IsImage b i of of' ms ns → MembersFirsts begins first b of ms → MembersFirsts begins first' i of' ns → (k : MemberKey) → InMembers begins declarations Static b of ms k → Goal k
    members_walk b i of of' syntax.end q ns e made beside old new k here = absurd here
    members_walk b i of of' (syntax.more x xs) q syntax.end e made beside old new k here = absurd beside
    members_walk b i of of' (syntax.more x xs) q (syntax.more y ys) e (p, z, single, rest, is) beside old new k here =
        let bares : map_members no_mark (syntax.more y ys) ≡ map_members no_mark (syntax.more p.tree z.tree) = e ∙ ap (λ (l : Rewritten (syntax.Members A)). map_members no_mark l.tree) is in
        let heads : bare_member y ≡ bare_member p.tree = cc in
        let tails : map_members no_mark ys ≡ map_members no_mark z.tree = cc in
        elim here [
          | inl mine ↦ one_walk b i of of' x p y heads single beside.0 old.0 new.0 k mine
          | inr later ↦ members_walk b i of of' xs z ys tails rest beside.1 old.1 new.1 k later
        ]

    one_walk : (b i : ℕ) (of of' : ClassKey) (x : syntax.Member A) (p : Rewritten (syntax.Member A)) (y : syntax.Member A) → bare_member y ≡ bare_member p.tree → RewritesOne tells C declarations b of x p → MemberBeside begins begins IsNamed IsImage b i of of' x y
        → MemberFirst begins first b of x → MemberFirst begins first' i of' y → (k : MemberKey) → ((Declares begins declarations b of x k × IsInit begins (member_part x)) ⊎ InInner begins declarations Static b of x k) → Goal k
    one_walk b i of of' (syntax.field m mods t w (Some e)) p y same (j, declares, made) beside old new k (inl here) =
        subst Goal (sym here.0) (field_walk b i of of' m mods t w e p y same j made beside here.1 old new)
    one_walk b i of of' (syntax.field m mods t w (Some e)) p y same made beside old new k (inr inside) = absurd inside
    one_walk b i of of' (syntax.field m mods t w None) p y same made beside old new k (inl here) = absurd here.1
    one_walk b i of of' (syntax.field m mods t w None) p y same made beside old new k (inr inside) = absurd inside
    one_walk b i of of' (syntax.method m mods t w ps body) p y same made beside old new k (inl here) = absurd here.1
    one_walk b i of of' (syntax.method m mods t w ps body) p y same made beside old new k (inr inside) = absurd inside
    one_walk b i of of' (syntax.constructor m mods w ps args body) p y same made beside old new k (inl here) = absurd here.1
    one_walk b i of of' (syntax.constructor m mods w ps args body) p y same made beside old new k (inr inside) = absurd inside
    one_walk b i of of' (syntax.inner m c) p (syntax.inner l d) same (q, made, is) beside old new k (inl here) = absurd here.1
    one_walk b i of of' (syntax.inner m c) p (syntax.inner l d) same (q, made, is) beside old new k (inr inside) =
        let bares : bare_member (syntax.inner l d) ≡ bare_member (syntax.inner m q.tree) = same ∙ ap (λ (z : Rewritten (syntax.Member A)). bare_member z.tree) is in
        let classes : bare_class d ≡ bare_class q.tree = cc in
        class_walk (begins m b) (begins l i) (Some of.name) (Some of'.name) c q d classes made beside old new k inside
    one_walk b i of of' (syntax.inner m c) p (syntax.field l words u v init) same made beside old new k here = absurd beside
    one_walk b i of of' (syntax.inner m c) p (syntax.method l words u v ps body) same made beside old new k here = absurd beside
    one_walk b i of of' (syntax.inner m c) p (syntax.constructor l words v ps args body) same made beside old new k here = absurd beside

  classes_walk : (b i : ℕ) (cs : List (syntax.Class A)) (q : Rewritten (List (syntax.Class A))) (ds : List (syntax.Class A)) → map bare_class ds ≡ map bare_class q.tree → RewritesClasses tells C declarations b cs q → ClassesBeside begins begins IsNamed IsImage b i cs ds
      → ClassesFirsts begins first b cs → ClassesFirsts begins first' i ds → (k : MemberKey) → InClasses begins declarations Static b cs k → Goal k
  classes_walk b i [] q ds e made beside old new k here = absurd here
  classes_walk b i (c ∷ cs) q [] e made beside old new k here = absurd beside
  classes_walk b i (c ∷ cs) q (d ∷ ds) e (p, z, single, rest, is) beside old new k here =
      let bares : map bare_class (d ∷ ds) ≡ map bare_class (p.tree ∷ z.tree) = e ∙ ap (λ (l : Rewritten (List (syntax.Class A))). map bare_class l.tree) is in
      let heads : bare_class d ≡ bare_class p.tree = cc in
      let tails : map bare_class ds ≡ map bare_class z.tree = cc in
      elim here [
        | inl mine ↦ class_walk b i None None c p d heads single beside.0 old.0 new.0 k mine
        | inr later ↦ classes_walk b i cs z ds tails rest beside.1 old.1 new.1 k later
      ]

  units_walk : (us : List (syntax.Unit A)) (qs : List (Rewritten (syntax.Unit A))) (vs : List (syntax.Unit A)) → map bare_unit vs ≡ map (λ (o : Rewritten (syntax.Unit A)). bare_unit o.tree) qs → RewritesUnits tells C declarations us qs
      → UnitsBeside begins begins IsNamed IsImage us vs → UnitsFirsts begins first us → UnitsFirsts begins first' vs → (k : MemberKey) → InUnits begins declarations Static us k → Goal k
  units_walk [] qs vs e made beside old new k here = absurd here
  units_walk (u ∷ us) qs [] e made beside old new k here = absurd beside
  units_walk (u ∷ us) qs (v ∷ vs) e (q, rest, (p, single, is), more, all_is) beside old new k here =
      let bares : map bare_unit (v ∷ vs) ≡ map (λ (o : Rewritten (syntax.Unit A)). bare_unit o.tree) (q ∷ rest) = e ∙ ap (map (λ (o : Rewritten (syntax.Unit A)). bare_unit o.tree)) all_is in
      let heads : bare_unit v ≡ bare_unit q.tree = cc in
      let tails : map bare_unit vs ≡ map (λ (o : Rewritten (syntax.Unit A)). bare_unit o.tree) rest = cc in
      let classes : map bare_class v.classes ≡ map bare_class p.tree = ap (λ (z : syntax.Unit Bare). z.classes) heads ∙ ap (λ (o : Rewritten (syntax.Unit A)). map bare_class o.tree.classes) is in
      elim here [
        | inl mine ↦ classes_walk (begins u.mark 0) (begins v.mark 0) u.classes p v.classes classes single beside.0 old.0 new.0 k mine
        | inr later ↦ units_walk us rest vs tails more beside.1 old.1 new.1 k later
      ]

-- ---- of two programs

module _ {A : Type 0} (tells : A → ℕ → Span) (C : Choosing A) (rows : List Row) (g : Renaming) (units news : List (syntax.Unit A)) (files : List (Rewritten (syntax.Unit A))) (are : AreRows rows) (agree : TablesAgree rows g)
    (program : AreProgramRows (declarations_of (λ (m : A) b. (tells m b).from) units) rows) (written : AreWritten (λ (m : A) b. (tells m b).from) units rows (written_members (λ (m : A) b. (tells m b).from) rows units))
    (made : RewritesUnits tells C (declarations_of (λ (m : A) b. (tells m b).from) units) units files) (read : map bare_unit news ≡ map (λ (o : Rewritten (syntax.Unit A)). bare_unit o.tree) files)
    (beside : UnitsBeside (λ (m : A) b. (tells m b).from) (λ (m : A) b. (tells m b).from) (IsClassImage tells (λ (m : A) b. (tells m b).from) g)
    (IsMemberImage tells (λ (m : A) b. (tells m b).from) g (declarations_of (λ (m : A) b. (tells m b).from) units) (declarations_of (λ (m : A) b. (tells m b).from) news)) units news)
    (R S : core_rows.Rows RunKeys) (old : AreRunRows rows R) (new : AreRunRows (rows_to g rows) S) (first first' : FieldKey → First RunKeys)
    (mine : AreFirstValues (λ (m : A) b. (tells m b).from) rows units R first) (yours : AreFirstValues (λ (m : A) b. (tells m b).from) (rows_to g rows) news S first') where
  abbrev r : KeyMap RunKeys
  r = exchanged (keys_to g) rows

  object_stays : r.class object_key ≡ object_key
  object_stays =
      let there : IsRowOf rows (class_decl object_key) 0 = subst (λ (z : List Row). IsRowOf z (class_decl object_key) 0) (sym are.prelude) (record { row = class_row [] (codes "Object") None; stands = refl; declares = refl }) in
      let p : class_decl (class_to g object_key) ≡ class_decl object_key = ap (λ (z : Row). z.decl) (stays rows g are agree.new 0 (class_row [] (codes "Object") None) refl) in
      let same : class_to g object_key ≡ object_key = cc in
      (maps rows g agree).class object_key 0 there ∙ same

  written_kept : (k : FieldKey) → HasFirst rows k → first' (r.field k) ≡ first_image r (first k)
  written_kept k h =
      let i = initialized (λ (m : A) b. (tells m b).from) units rows are program written k h in
      let here = written_member (λ (m : A) b. (tells m b).from) units (λ l n q. IsInit (λ (m : A) b. (tells m b).from) q) i.0 (field k) i.1 i.2 i.3 i.4 in
      ap first' ((maps rows g agree).field k h.number h.row)
      ∙ units_walk tells C g (declarations_of (λ (m : A) b. (tells m b).from) units) (declarations_of (λ (m : A) b. (tells m b).from) news) r object_stays first first' units files news read made beside mine.initializers yours.initializers (field k) here

  -- an image with an initializer is of a field that has one
  had : (k : FieldKey) → HasFirst (rows_to g rows) (r.field k) → HasFirst rows k
  had k h =
      let i = field_there rows g agree k h.number h.row in
      let s = field_there rows g agree k h.static.0 h.static.1 in
      record {
        number = h.number;
        row = i;
        static = (h.static.0, s, ap (λ (z : Row). list_any is_static_word z.modifiers) (sym (new_is rows g agree R S old new k h.static.0 s h.static.1)) ∙ h.static.2);
        init = ap (λ (z : Row). z.has_init) (sym (new_is rows g agree R S old new k h.number i h.row)) ∙ h.init;
      }

  default_kept : (k : FieldKey) → (HasFirst rows k → ⊥) → first' (r.field k) ≡ first_image r (first k)
  default_kept k not =
      yours.default (r.field k) (λ h. not (had k h)) ∙ ap (λ (t : core_value.Ty RunKeys). gives (default_of t)) ((same_rows rows g agree R S old new).field_type k) ∙ ap gives (default_image r (R.field_type k))
      ∙ sym (ap (first_image r) (mine.default k not))

  pub firsts_kept : (k : FieldKey) → first' (r.field k) ≡ first_image r (first k)
  firsts_kept k = elim (first_or rows are k) [
    | inl h ↦ written_kept k h
    | inr not ↦ default_kept k not
  ]
