-- Where fields or methods are renamed that collide with nothing, no two members get one name, and
-- none that of a member class beside it.
use Rattle.std.proofs.Common.{◌≡◌, ℕ, List, [], ◌∷◌, Option, Some, None, Bool, true, false, refl, sym, ap, subst, ◌∙◌, inl, inr, arith}
use Rattle.std.specs.Prelude.{◌⊎◌, slice_get}
use Rattle.jr_table.specs.declared.kinds.DeclKind.TheVariants as kind
use Rattle.jr_table.specs.Keys.{ClassKey, FieldKey, MethodKey, Ty}
use Rattle.jr_table.specs.Decls.{MemberKey, method, constructor, LocalKey, Decl, class_decl, field_decl, method_decl, local_decl}
use Rattle.jr_table.specs.Rows.{Row}
use Rattle.jr_table.specs.DeclaredItems.{DeclaredParam, DeclaredClass, DeclaredField, DeclaredMethod, Item, class_item, field_item, method_item, ctor_item, DeclaredItem}
use Rattle.jr_table.specs.ProgramRows.{MeanTypes, AreProgramRows}
use Rattle.jr_table.specs.Faults.{PackageLine, name_at, SameTypes, SameMember, params_of, ParamTwice, HasItsName, IsClean}
use Rattle.jr_images.specs.Images.{Renaming, is_renamed, name_to}
use Rattle.jr_images.proofs.KeyImages.{keeps_name}
use Rattle.jr_rename_laws.proofs.Still.{gets_name}
use Rattle.jr_program_laws.proofs.MeansOnce.{means_once, mean_types_once}
use Rattle.jr_rename_laws.proofs.DeclarationImages.{ParamsTo, ItemTo, DeclarationsTo, Beside}
use Rattle.jr_rename_laws.proofs.CleanImages.{NamesAreClear}
use Rattle.jr_rename_laws.proofs.LocalNames.{field_beside, method_beside, ctor_beside, param_at, types_back}
use Rattle.jr_rename_laws.proofs.DeclarationRows.{RowFor, has_row}

-- what is known of the renaming of fields or methods: those that get the name have one name, and
-- none takes the place of another
pub record OfMembers (g : Renaming) (rows : List Row) : Type 0 where
  pub local : (k : LocalKey) → is_renamed g (local_decl k) ≡ false
  pub fields : (f h : FieldKey) → is_renamed g (field_decl f) ≡ true → is_renamed g (field_decl h) ≡ true → f.name ≡ h.name
  pub methods : (m n : MethodKey) → is_renamed g (method_decl m) ≡ true → is_renamed g (method_decl n) ≡ true → m.name ≡ n.name
  pub clear_field : (f : FieldKey) (d : Decl) → is_renamed g (field_decl f) ≡ true → RowFor rows d
      → (d ≡ field_decl (record { class = f.class; name = g.name })) ⊎ ((f.class.outer ≡ None) × (d ≡ class_decl (record { outer = Some f.class.name; name = g.name }))) → ⊥
  pub clear_method : (m : MethodKey) (d : Decl) → is_renamed g (method_decl m) ≡ true → RowFor rows d
      → (d ≡ method_decl (record { class = m.class; name = g.name; params = m.params })) ⊎ ((m.class.outer ≡ None) × (d ≡ class_decl (record { outer = Some m.class.name; name = g.name }))) → ⊥

module _ (g : Renaming) (rows : List Row) (of : OfMembers g rows) (packages : List (Option PackageLine)) (ss : List DeclaredItem) (clean : IsClean packages ss) (are : AreProgramRows ss rows) where
  abbrev field_key : DeclaredField → FieldKey
  field_key f = record { class = f.of; name = f.name }

  abbrev method_key : DeclaredMethod → List Ty → MethodKey
  method_key m us = record { class = m.of; name = m.name; params = us }

  module _ (ts : List DeclaredItem) (to : DeclarationsTo g ss ss ts) where
    -- fields of one class that have one name had one before
    module _ (i j e f : ℕ) (c d : DeclaredField) (at_c : slice_get ss i ≡ Some (record { file = e; item = field_item c })) (at_d : slice_get ss j ≡ Some (record { file = f; item = field_item d })) (of_same : c.of ≡ d.of) where
      field_names : (a b : Bool) → is_renamed g (field_decl (field_key c)) ≡ a → is_renamed g (field_decl (field_key d)) ≡ b
          → name_to g (field_decl (field_key c)) c.name ≡ name_to g (field_decl (field_key d)) d.name → c.name ≡ d.name
      field_names false false p q h = sym (keeps_name g (field_decl (field_key c)) c.name p) ∙ h ∙ keeps_name g (field_decl (field_key d)) d.name q
      field_names true false p q h =
          let named : d.name ≡ g.name = sym (keeps_name g (field_decl (field_key d)) d.name q) ∙ sym h ∙ gets_name g (field_decl (field_key c)) c.name p in
          absurd (of.clear_field (field_key c) (field_decl (field_key d)) p (has_row ss rows are j f (field_item d) at_d) (inl (λ n. field_decl (record { class = sym of_same n; name = named n }))))
      field_names false true p q h =
          let named : c.name ≡ g.name = sym (keeps_name g (field_decl (field_key c)) c.name p) ∙ h ∙ gets_name g (field_decl (field_key d)) d.name q in
          absurd (of.clear_field (field_key d) (field_decl (field_key c)) q (has_row ss rows are i e (field_item c) at_c) (inl (λ n. field_decl (record { class = of_same n; name = named n }))))
      field_names true true p q h = of.fields (field_key c) (field_key d) p q

    -- methods of one class and one list of types
    module _ (i j e f : ℕ) (c d : DeclaredMethod) (us vs : List Ty) (mean_c : MeanTypes ss c.of c.params us) (mean_d : MeanTypes ss d.of d.params vs)
        (at_c : slice_get ss i ≡ Some (record { file = e; item = method_item c })) (at_d : slice_get ss j ≡ Some (record { file = f; item = method_item d })) (of_same : c.of ≡ d.of) (types : us ≡ vs) where
      row_of : (k f : ℕ) (m : DeclaredMethod) (ws : List Ty) → MeanTypes ss m.of m.params ws → slice_get ss k ≡ Some (record { file = f; item = method_item m }) → RowFor rows (method_decl (method_key m ws))
      row_of k f m ws mean at =
          let r = has_row ss rows are k f (method_item m) at in
          subst (λ (z : List Ty). RowFor rows (method_decl (method_key m z))) (mean_types_once packages ss clean m.of m.params r.0 ws r.1 mean) r.2

      method_names : (a b : Bool) → is_renamed g (method_decl (method_key c us)) ≡ a → is_renamed g (method_decl (method_key d vs)) ≡ b
          → name_to g (method_decl (method_key c us)) c.name ≡ name_to g (method_decl (method_key d vs)) d.name → c.name ≡ d.name
      method_names false false p q h = sym (keeps_name g (method_decl (method_key c us)) c.name p) ∙ h ∙ keeps_name g (method_decl (method_key d vs)) d.name q
      method_names true false p q h =
          let named : d.name ≡ g.name = sym (keeps_name g (method_decl (method_key d vs)) d.name q) ∙ sym h ∙ gets_name g (method_decl (method_key c us)) c.name p in
          absurd (of.clear_method (method_key c us) (method_decl (method_key d vs)) p (row_of j f d vs mean_d at_d) (inl (λ n. method_decl (record { class = sym of_same n; name = named n; params = sym types n }))))
      method_names false true p q h =
          let named : c.name ≡ g.name = sym (keeps_name g (method_decl (method_key c us)) c.name p) ∙ h ∙ gets_name g (method_decl (method_key d vs)) d.name q in
          absurd (of.clear_method (method_key d vs) (method_decl (method_key c us)) q (row_of i e c us mean_c at_c) (inl (λ n. method_decl (record { class = of_same n; name = named n; params = types n }))))
      method_names true true p q h = of.methods (method_key c us) (method_key d vs) p q

    -- lists of types that are the same, by what they mean
    one_list : (k : ClassKey) (ps rs : List DeclaredParam) (us vs : List Ty) → SameTypes ss k ps rs → MeanTypes ss k ps us → MeanTypes ss k rs vs → us ≡ vs
    one_list k [] [] [] [] h x y = refl
    one_list k [] [] [] (v ∷ vs) h x y = absurd y
    one_list k [] [] (u ∷ us) vs h x y = absurd x
    one_list k [] (r ∷ rs) us vs h x y = absurd h
    one_list k (p ∷ ps) [] us vs h x y = absurd h
    one_list k (p ∷ ps) (r ∷ rs) [] vs h x y = absurd x
    one_list k (p ∷ ps) (r ∷ rs) (u ∷ us) [] h x y = absurd y
    one_list k (p ∷ ps) (r ∷ rs) (u ∷ us) (v ∷ vs) h x y =
        let first : u ≡ v = means_once packages ss clean k p.type u h.0.0 x.0 h.0.1 ∙ sym (means_once packages ss clean k r.type v h.0.0 y.0 h.0.2) in
        let rest = one_list k ps rs us vs h.1 x.1 y.1 in
        λ n. first n ∷ rest n

    same_before : (i j e f : ℕ) (x y a b : Item) → slice_get ss i ≡ Some (record { file = e; item = x }) → slice_get ss j ≡ Some (record { file = f; item = y }) → ItemTo g ss x a → ItemTo g ss y b → SameMember ts a b → SameMember ss x y
    same_before i j e f x y (class_item a) b p q h k s = absurd s
    same_before i j e f x y (field_item a) (class_item b) p q h k s = absurd s
    same_before i j e f x y (field_item a) (field_item b) p q h k s =
        let c = field_beside g ss x a h in
        let d = field_beside g ss y b k in
        let of_same = sym c.2.of ∙ s.0 ∙ d.2.of in
        let at_c = p ∙ ap (λ (z : Item). Some (record { file = e; item = z })) c.1 in
        let at_d = q ∙ ap (λ (z : Item). Some (record { file = f; item = z })) d.1 in
        subst (λ (z : Item). SameMember ss z y) (sym c.1) (subst (λ (z : Item). SameMember ss (field_item c.0) z) (sym d.1)
        (of_same, field_names i j e f c.0 d.0 at_c at_d of_same (is_renamed g (field_decl (field_key c.0))) (is_renamed g (field_decl (field_key d.0))) refl refl (sym c.2.name ∙ s.1 ∙ d.2.name)))
    same_before i j e f x y (field_item a) (method_item b) p q h k s = absurd s
    same_before i j e f x y (field_item a) (ctor_item b) p q h k s = absurd s
    same_before i j e f x y (method_item a) (class_item b) p q h k s = absurd s
    same_before i j e f x y (method_item a) (field_item b) p q h k s = absurd s
    same_before i j e f x y (method_item a) (method_item b) p q h k s =
        let c = method_beside g ss x a h in
        let d = method_beside g ss y b k in
        let of_same = sym c.2.of ∙ s.0 ∙ d.2.of in
        let at_c = p ∙ ap (λ (z : Item). Some (record { file = e; item = z })) c.1 in
        let at_d = q ∙ ap (λ (z : Item). Some (record { file = f; item = z })) d.1 in
        let types = types_back g ss ts to c.0.of (method (method_key c.0 c.2.types)) (method (method_key d.0 d.2.types)) 0 0 c.0.params a.params d.0.params b.params c.2.params d.2.params
        (subst (λ (z : ClassKey). SameTypes ts z a.params b.params) c.2.of s.2) in
        let lists = one_list c.0.of c.0.params d.0.params c.2.types d.2.types types c.2.mean (subst (λ (z : ClassKey). MeanTypes ss z d.0.params d.2.types) (sym of_same) d.2.mean) in
        subst (λ (z : Item). SameMember ss z y) (sym c.1) (subst (λ (z : Item). SameMember ss (method_item c.0) z) (sym d.1) (
          of_same,
          method_names i j e f c.0 d.0 c.2.types d.2.types c.2.mean d.2.mean at_c at_d of_same lists (is_renamed g (method_decl (method_key c.0 c.2.types))) (is_renamed g (method_decl (method_key d.0 d.2.types))) refl refl (sym c.2.name ∙ s.1 ∙ d.2.name),
          types,
        ))
    same_before i j e f x y (method_item a) (ctor_item b) p q h k s = absurd s
    same_before i j e f x y (ctor_item a) (class_item b) p q h k s = absurd s
    same_before i j e f x y (ctor_item a) (field_item b) p q h k s = absurd s
    same_before i j e f x y (ctor_item a) (method_item b) p q h k s = absurd s
    same_before i j e f x y (ctor_item a) (ctor_item b) p q h k s =
        let c = ctor_beside g ss x a h in
        let d = ctor_beside g ss y b k in
        subst (λ (z : Item). SameMember ss z y) (sym c.1) (subst (λ (z : Item). SameMember ss (ctor_item c.0) z) (sym d.1) (
          sym c.2.of ∙ s.0 ∙ d.2.of,
          types_back g ss ts to c.0.of (constructor (record { class = c.0.of; params = c.2.types })) (constructor (record { class = d.0.of; params = d.2.types })) 0 0 c.0.params a.params d.0.params b.params c.2.params d.2.params
              (subst (λ (z : ClassKey). SameTypes ts z a.params b.params) c.2.of s.1),
        ))

    -- the name of a member class
    module _ (i e : ℕ) (c : DeclaredClass) (at_c : slice_get ss i ≡ Some (record { file = e; item = class_item c })) where
      class_is : (of_key : ClassKey) → c.key.outer ≡ Some of_key.name → g.name ≡ c.key.name → class_decl c.key ≡ class_decl (record { outer = Some of_key.name; name = g.name })
      class_is of_key outer named = λ n. class_decl (record { outer = outer n; name = sym named n })

      field_apart : (d : DeclaredField) (b : Bool) → is_renamed g (field_decl (field_key d)) ≡ b → d.of.outer ≡ None → c.key.outer ≡ Some d.of.name → name_to g (field_decl (field_key d)) d.name ≡ c.key.name → d.name ≡ c.key.name
      field_apart d false p top outer h = sym (keeps_name g (field_decl (field_key d)) d.name p) ∙ h
      field_apart d true p top outer h =
          absurd (of.clear_field (field_key d) (class_decl c.key) p (has_row ss rows are i e (class_item c) at_c) (inr (top, class_is d.of outer (sym (gets_name g (field_decl (field_key d)) d.name p) ∙ h))))

      method_apart : (d : DeclaredMethod) (us : List Ty) (b : Bool) → is_renamed g (method_decl (method_key d us)) ≡ b → d.of.outer ≡ None → c.key.outer ≡ Some d.of.name → name_to g (method_decl (method_key d us)) d.name ≡ c.key.name → d.name ≡ c.key.name
      method_apart d us false p top outer h = sym (keeps_name g (method_decl (method_key d us)) d.name p) ∙ h
      method_apart d us true p top outer h =
          absurd (of.clear_method (method_key d us) (class_decl c.key) p (has_row ss rows are i e (class_item c) at_c) (inr (top, class_is d.of outer (sym (gets_name g (method_decl (method_key d us)) d.name p) ∙ h))))

      named_before : (d : DeclaredClass) (y b : Item) → d.key ≡ c.key → ItemTo g ss y b → HasItsName d.key b → HasItsName c.key y
      named_before d y (class_item b) key h s = absurd s
      named_before d y (field_item b) key h s =
          let f = field_beside g ss y b h in
          let top = ap (λ (k : ClassKey). k.outer) (sym f.2.of) ∙ s.0 in
          let outer = ap (λ (k : ClassKey). k.outer) (sym key) ∙ s.1 ∙ ap (λ (k : ClassKey). Some k.name) f.2.of in
          subst (HasItsName c.key) (sym f.1) (top, outer, field_apart f.0 (is_renamed g (field_decl (field_key f.0))) refl top outer (sym f.2.name ∙ s.2 ∙ ap (λ (k : ClassKey). k.name) key))
      named_before d y (method_item b) key h s =
          let f = method_beside g ss y b h in
          let top = ap (λ (k : ClassKey). k.outer) (sym f.2.of) ∙ s.0 in
          let outer = ap (λ (k : ClassKey). k.outer) (sym key) ∙ s.1 ∙ ap (λ (k : ClassKey). Some k.name) f.2.of in
          subst (HasItsName c.key) (sym f.1) (top, outer, method_apart f.0 f.2.types (is_renamed g (method_decl (method_key f.0 f.2.types))) refl top outer (sym f.2.name ∙ s.2 ∙ ap (λ (k : ClassKey). k.name) key))
      named_before d y (ctor_item b) key h s = absurd s

    -- parameters keep their names
    param_name : (u : MemberKey) (n : ℕ) (q : List ℕ) (p : List ℕ) → q ≡ name_to g (local_decl (record { member = u; number = n })) p → q ≡ p
    param_name u n q p e = e ∙ keeps_name g (local_decl (record { member = u; number = n })) p (of.local (record { member = u; number = n }))

    params_before : (u : MemberKey) (ps qs : List DeclaredParam) → ParamsTo g u 0 ps qs → (at : ℕ) → ParamTwice qs at → (b : ℕ) × ParamTwice ps b
    params_before u ps qs h at t =
        let p = param_at g ss u 0 ps qs h t.i t.i t.first (omega arith) t.one in
        let q = param_at g ss u 0 ps qs h t.j t.j t.second (omega arith) t.other in (
          q.0.at,
          record {
            i = t.i;
            j = t.j;
            before = t.before;
            first = p.0;
            second = q.0;
            one = p.1;
            other = q.1;
            same = sym (param_name u t.i t.first.name p.0.name p.2) ∙ t.same ∙ param_name u t.j t.second.name q.0.name q.2;
            place = refl;
          },
        )

    none_twice : (xs : List DeclaredParam) (at : ℕ) → xs ≡ [] → ParamTwice xs at → ⊥
    none_twice xs at e h = let p = sym (ap (λ (y : List DeclaredParam). slice_get y h.i) e) ∙ h.one in absurd cc

    params_clear : (i f at : ℕ) (x a : Item) → Beside g ss i f x a ss ts → ParamTwice (params_of a) at → ⊥
    params_clear i f at x (class_item a) b h = none_twice [] at refl h
    params_clear i f at x (field_item a) b h = none_twice [] at refl h
    params_clear i f at x (method_item a) b h =
        let c = method_beside g ss x a b.to in
        let there : slice_get ss i ≡ Some (record { file = f; item = method_item c.0 }) = b.old ∙ ap (λ (z : Item). Some (record { file = f; item = z })) c.1 in
        let r = params_before (method (method_key c.0 c.2.types)) c.0.params a.params c.2.params at h in
        clean kind.TwiceMember (record { file = f; at = r.0 }) (i, method_item c.0, record { stands = there }, inr r.1)
    params_clear i f at x (ctor_item a) b h =
        let c = ctor_beside g ss x a b.to in
        let there : slice_get ss i ≡ Some (record { file = f; item = ctor_item c.0 }) = b.old ∙ ap (λ (z : Item). Some (record { file = f; item = z })) c.1 in
        let r = params_before (constructor (record { class = c.0.of; params = c.2.types })) c.0.params a.params c.2.params at h in
        clean kind.TwiceMember (record { file = f; at = r.0 }) (i, ctor_item c.0, record { stands = there }, inr r.1)

    pub member_names : NamesAreClear g ss ts
    member_names = record {
      twice = λ i j f e x y a b less p q h. clean kind.TwiceMember (record { file = e; at = name_at y })
          (j, y, record { stands = q.old }, inl (i, f, x, less, record { stands = p.old }, same_before i j f e x y a b p.old q.old p.to q.to h, refl));
      params = params_clear;
      inner = λ i j f e c d y b p q h. clean kind.MemberTypeName (record { file = f; at = c.at })
          (i, j, e, c, y, record { stands = p.old }, record { stands = q.old }, named_before i f c p.old d y b p.to.key q.to h, refl);
    }
