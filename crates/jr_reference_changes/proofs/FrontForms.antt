-- What each choice puts in front of a word.
use Rattle.std.proofs.Common.{◌≡◌, ℕ, List, [], ◌∷◌, Option, Some, None, refl, sym, ap, subst, ◌∙◌, inl, inr}
use Rattle.std.specs.Prelude.{◌⊎◌, slice_get}
use Rattle.jr_ast.specs.Tree as tree
use Rattle.jr_table.specs.Keys.{ClassKey, FieldKey, MethodKey, class}
use Rattle.jr_table.specs.Decls.{Decl, class_decl, field_decl, method_decl, local_decl, LocalKey}
use Rattle.jr_table.specs.Rows.{Row}
use Rattle.jr_table.specs.Entries.{class_of}
use Rattle.jr_table.specs.Found.{Found}
use Rattle.jr_table.specs.Scope.{Scope}
use Rattle.jr_table.specs.Context.{Context}
use Rattle.jr_table.specs.Binding.{Role, value, left}
use Rattle.jr_table.specs.Binding as role
use Rattle.jr_spell.specs.declared.spellings.Form.{Form}
use Rattle.jr_spell.specs.declared.spellings.Form.TheVariants.{Asked, OnThis, OnSuper, OnCastThis, OnCastOperand, OnClass, OnOuterClass, ClassInFront, OuterClassInFront}
use Rattle.jr_spell.specs.Spellings.{forms}
use Rattle.jr_spell.specs.Binds.{LeadsTo, Binds}
use Rattle.jr_spell.specs.References.{Reference}
use Rattle.jr_rewrite.specs.Respellings.{Front, same, alone, by_this, by_super, by_cast_this, by_class, by_outer_class, by_cast, Choice, front_of, text_of}
use Rattle.jr_rewrite.specs.Rewritten.{losses_of}
use Rattle.jr_images.specs.Regions.{Region}
use Rattle.jr_spell.specs.declared.references.RefForm.TheVariants as ref
use Rattle.jr_images.specs.Spelling.{reference, operand_of, on_type, behind_words, spelled, outer_front, OfImage, TakenChoice, VariableChoice, ClassChoice, FieldChoice, MemberClassChoice, SuperFieldChoice, SimpleCallChoice, CallChoice}
use Rattle.jr_images.proofs.Chosen.{renamed_front, lost_some, outer_front_is, outer_type_is}
use Rattle.jr_images.proofs.Forms.{one_form, two_forms, three_forms, front_forms, four_forms, six_forms}

module _ (rows : List Row) (s : Scope) where
  abbrev pub Leads : Option (List ℕ) → List ℕ → Type 0
  Leads o name = (k : ClassKey) × LeadsTo rows s o name k

  -- of a variable or a class with nothing in front of it
  abbrev pub OfSimple : Front → Type 0
  OfSimple same = Unit {0}
  OfSimple alone = Unit {0}
  OfSimple by_this = Unit {0}
  OfSimple by_super = Unit {0}
  OfSimple (by_cast_this k) = Unit {0}
  OfSimple (by_class k) = Leads None k
  OfSimple (by_outer_class o k) = Leads (Some o) k
  OfSimple (by_cast k) = ⊥

  -- of a method with nothing in front of it
  abbrev pub OfMethod : Front → Type 0
  OfMethod same = Unit {0}
  OfMethod alone = ⊥
  OfMethod by_this = Unit {0}
  OfMethod by_super = ⊥
  OfMethod (by_cast_this k) = ⊥
  OfMethod (by_class k) = Leads None k
  OfMethod (by_outer_class o k) = Leads (Some o) k
  OfMethod (by_cast k) = ⊥

  -- of a word behind a dot
  abbrev pub OfDotted : Front → Type 0
  OfDotted same = Unit {0}
  OfDotted alone = ⊥
  OfDotted by_this = ⊥
  OfDotted by_super = ⊥
  OfDotted (by_cast_this k) = ⊥
  OfDotted (by_class k) = Leads None k
  OfDotted (by_outer_class o k) = Leads (Some o) k
  OfDotted (by_cast k) = Unit {0}

-- of a field by `super`
abbrev pub OfSuper : Front → Type 0
OfSuper same = Unit {0}
OfSuper alone = ⊥
OfSuper by_this = ⊥
OfSuper by_super = ⊥
OfSuper (by_cast_this k) = Unit {0}
OfSuper (by_class k) = ⊥
OfSuper (by_outer_class o k) = ⊥
OfSuper (by_cast k) = ⊥

-- a word that gets a name has in front of it what stood there
asked : (P : Front → Type 0) → P same → (old new : List ℕ) (k : ClassKey) → P (front_of (spelled old new k Asked))
asked P may old new k = subst P (sym (renamed_front old new)) may

module _ {A : Type 0} (begins : A → ℕ → ℕ) (rows : List Row) (R : Region A) where
  abbrev new_rows : List Row
  new_rows = R.seen.images.rows

  -- what is taken has such a front
  taken_front : (P : Front → Type 0) (s : Scope) (at : ℕ) (old new : List ℕ) (d i : Decl) (r : Reference) (Finds : Found → Type 0) (h : Choice)
      → ((n : ℕ) (f : Form) → slice_get (forms r.form i) n ≡ Some f → Binds new_rows s r i f → P (front_of (spelled old new (class_of i) f)))
      → losses_of h ≡ [] → TakenChoice begins rows R s at old new d i r Finds h → P (front_of h)
  taken_front P s at old new d i r Finds h each none (inl t) = subst (λ (x : Choice). P (front_of x)) (sym t.2) (each t.1.place t.0 t.1.stands t.1.binds)
  taken_front P s at old new d i r Finds h each none (inr t) = absurd (lost_some _ (sym (ap losses_of t.1.2) ∙ none))

  outer_leads : (P : Front → Type 0) (s : Scope) (r : Reference) (i : Decl) → ((o : List ℕ) → Leads new_rows s (Some o) (class_of i).name → P (by_outer_class o (class_of i).name)) → Binds new_rows s r i OnOuterClass → P (outer_front (class_of i))
  outer_leads P s r i gives b = subst P (sym (outer_front_is (class_of i).outer (class_of i).name b.0 b.1)) (gives b.0 (class_of i, b.2))

  -- ---- with nothing in front

  of_image : {T : Type 0} {Kept : LocalKey → Type 0} {Gone : Type 0} (k : Option LocalKey) → OfImage k Kept Gone → ((i : LocalKey) → Kept i → T) → (Gone → T) → T
  of_image (Some i) h is_kept is_gone = is_kept i h
  of_image None h is_kept is_gone = is_gone h

  local_forms : (s : Scope) (r : Reference) (i : LocalKey) (old new : List ℕ) → (n : ℕ) (f : Form) → slice_get (Asked ∷ []) n ≡ Some f → Binds new_rows s r (local_decl i) f
      → OfSimple new_rows s (front_of (spelled old new (class_of (local_decl i)) f))
  local_forms s r i old new n f there = one_form (λ f. Binds new_rows s r (local_decl i) f → OfSimple new_rows s (front_of (spelled old new (class_of (local_decl i)) f))) (λ b. asked (OfSimple new_rows s) tt old new (class_of (local_decl i))) n f there

  field_forms : (s : Scope) (r : Reference) (q : FieldKey) (old : List ℕ) → (n : ℕ) (f : Form) → slice_get (Asked ∷ OnThis ∷ OnSuper ∷ OnCastThis ∷ OnClass ∷ OnOuterClass ∷ []) n ≡ Some f → Binds new_rows s r (field_decl q) f
      → OfSimple new_rows s (front_of (spelled old q.name q.class f))
  field_forms s r q old n f there =
      six_forms (λ f. Binds new_rows s r (field_decl q) f → OfSimple new_rows s (front_of (spelled old q.name q.class f))) (λ b. asked (OfSimple new_rows s) tt old q.name q.class) (λ b. tt) (λ b. tt) (λ b. tt) (λ b. (q.class, b.0))
      (λ b. outer_leads (OfSimple new_rows s) s r (field_decl q) (λ o l. l) b) n f there

  super_forms : (s : Scope) (r : Reference) (q : FieldKey) (old : List ℕ) → (n : ℕ) (f : Form) → slice_get (Asked ∷ OnCastThis ∷ []) n ≡ Some f → Binds new_rows s r (field_decl q) f → OfSuper (front_of (spelled old q.name q.class f))
  super_forms s r q old n f there = two_forms (λ f. Binds new_rows s r (field_decl q) f → OfSuper (front_of (spelled old q.name q.class f))) OnCastThis (λ b. asked OfSuper tt old q.name q.class) (λ b. tt) n f there

  method_forms : (s : Scope) (r : Reference) (q : MethodKey) (old : List ℕ) → (n : ℕ) (f : Form) → slice_get (Asked ∷ OnThis ∷ OnClass ∷ OnOuterClass ∷ []) n ≡ Some f → Binds new_rows s r (method_decl q) f
      → OfMethod new_rows s (front_of (spelled old q.name q.class f))
  method_forms s r q old n f there =
      four_forms (λ f. Binds new_rows s r (method_decl q) f → OfMethod new_rows s (front_of (spelled old q.name q.class f))) (λ b. asked (OfMethod new_rows s) tt old q.name q.class) (λ b. tt) (λ b. (q.class, b.0))
      (λ b. outer_leads (OfMethod new_rows s) s r (method_decl q) (λ o l. l) b) n f there

  pub variable_front : (c : Context) (at : ℕ) (old : List ℕ) (h : Choice) → losses_of h ≡ [] → VariableChoice begins rows R c at old h → OfSimple new_rows (R.seen.scope c) (front_of h)
  variable_front c at old h none (inl t) =
      let new : List ℕ = R.seen.images.name_to (local_decl t.0) old in
      of_image (R.seen.local_to c t.0) t.1.1
      (λ i u. taken_front (OfSimple new_rows (R.seen.scope c)) _ at old new (local_decl t.0) (local_decl i) _ _ h (local_forms (R.seen.scope c) (reference ref.AsAsked new None []) i old new) none u)
      (λ u. absurd (lost_some _ (sym (ap losses_of u.2) ∙ none)))
  variable_front c at old h none (inr t) =
      let q : FieldKey = R.seen.images.field_to t.0 in
      taken_front (OfSimple new_rows (R.seen.scope c)) _ at old q.name (field_decl t.0) (field_decl q) _ _ h (field_forms (R.seen.scope c) (reference ref.FieldSimple q.name None []) q old) none t.1.1

  -- a class in front of a dot
  class_forms : (P : Front → Type 0) → P same → P alone → (s : Scope) (r : Reference) (k : ClassKey) (old : List ℕ) → ((o : List ℕ) → Leads new_rows s None o → P (by_class o))
      → (n : ℕ) (f : Form) → slice_get (Asked ∷ ClassInFront ∷ OuterClassInFront ∷ []) n ≡ Some f → Binds new_rows s r (class_decl k) f → P (front_of (spelled old k.name k f))
  class_forms P may bare s r k old gives n f there =
      front_forms (λ f. Binds new_rows s r (class_decl k) f → P (front_of (spelled old k.name k f))) (λ b. asked P may old k.name k) (λ b. bare)
      (λ b. subst P (sym (outer_type_is k.outer k.name b.0 b.1)) (gives b.0 (b.2.0, b.2.1))) n f there

  pub class_front : (c : Context) (r : Role) (at : ℕ) (old : List ℕ) (h : Choice) → losses_of h ≡ [] → ClassChoice begins rows R c r at old h → OfSimple new_rows (R.seen.scope c) (front_of h)
  class_front c left at old h none t =
      let k : ClassKey = R.seen.images.class_to t.0 in
      taken_front (OfSimple new_rows (R.seen.scope c)) _ at old k.name (class_decl t.0) (class_decl k) _ _ h
      (class_forms (OfSimple new_rows (R.seen.scope c)) tt tt (R.seen.scope c) (behind_words t.3 (reference ref.ClassInFront k.name None [])) k old (λ o l. l)) none t.5
  class_front c value at old h none t = absurd t
  class_front c role.statement at old h none t = absurd t

  pub super_front : (c : Context) (at : ℕ) (old : List ℕ) (h : Choice) → losses_of h ≡ [] → SuperFieldChoice begins rows R c at old h → OfSuper (front_of h)
  super_front c at old h none t =
      let q : FieldKey = R.seen.images.field_to t.0 in
      taken_front OfSuper _ at old q.name (field_decl t.0) (field_decl q) _ _ h (super_forms (R.seen.scope c) (reference ref.FieldSuper q.name None []) q old) none t.2

  pub method_front : (c : Context) (at : ℕ) (old : List ℕ) (args : tree.Exps A) (h : Choice) → losses_of h ≡ [] → SimpleCallChoice begins rows R c at old args h → OfMethod new_rows (R.seen.scope c) (front_of h)
  method_front c at old args h none t =
      let q : MethodKey = R.seen.images.method_to t.0 in
      taken_front (OfMethod new_rows (R.seen.scope c)) _ at old q.name (method_decl t.0) (method_decl q) _ _ h (method_forms (R.seen.scope c) (reference ref.MethodSimple q.name None (R.types_now c args t.1)) q old) none t.4

  -- ---- behind a dot

  on_value : (s : Scope) (r : Reference) (i : Decl) (old new : List ℕ) → (n : ℕ) (f : Form) → slice_get (Asked ∷ OnCastOperand ∷ []) n ≡ Some f → Binds new_rows s r i f → OfDotted new_rows s (front_of (spelled old new (class_of i) f))
  on_value s r i old new n f there = two_forms (λ f. Binds new_rows s r i f → OfDotted new_rows s (front_of (spelled old new (class_of i) f))) OnCastOperand (λ b. asked (OfDotted new_rows s) tt old new (class_of i)) (λ b. tt) n f there

  through_class : (s : Scope) (r : Reference) (i : Decl) (old new : List ℕ) → (n : ℕ) (f : Form) → slice_get (Asked ∷ OnClass ∷ OnOuterClass ∷ []) n ≡ Some f → Binds new_rows s r i f → OfDotted new_rows s (front_of (spelled old new (class_of i) f))
  through_class s r i old new n f there = three_forms (λ f. Binds new_rows s r i f → OfDotted new_rows s (front_of (spelled old new (class_of i) f))) (λ b. asked (OfDotted new_rows s) tt old new (class_of i))
      (λ b. (class_of i, b.0)) (λ b. outer_leads (OfDotted new_rows s) s r i (λ o l. l) b) n f there

  pub field_front : (c : Context) (at : ℕ) (e : tree.Exp A) (old : List ℕ) (h : Choice) → losses_of h ≡ [] → FieldChoice begins rows R c at e old h → OfDotted new_rows (R.seen.scope c) (front_of h)
  field_front c at e old h none t =
      let q : FieldKey = R.seen.images.field_to t.0 in
      elim t.2 [
        | inl x ↦ taken_front (OfDotted new_rows (R.seen.scope c)) _ at old q.name (field_decl t.0) (field_decl q) _ _ h
            (through_class (R.seen.scope c) (behind_words x.2.0 (reference ref.ThroughClass q.name (operand_of (R.seen.images.class_to x.0)) [])) (field_decl q) old q.name) none x.2.2
        | inr x ↦ taken_front (OfDotted new_rows (R.seen.scope c)) _ at old q.name (field_decl t.0) (field_decl q) _ _ h
            (on_value (R.seen.scope c) (reference ref.FieldOn q.name (on_type (R.type_now c e (class x.1.0))) []) (field_decl q) old q.name) none x.1.2
      ]

  pub call_front : (c : Context) (at : ℕ) (e : tree.Exp A) (old : List ℕ) (args : tree.Exps A) (h : Choice) → losses_of h ≡ [] → CallChoice begins rows R c at e old args h → OfDotted new_rows (R.seen.scope c) (front_of h)
  call_front c at e old args h none t =
      let q : MethodKey = R.seen.images.method_to t.0 in
      let ts = R.types_now c args t.1 in
      elim t.4 [
        | inl x ↦ taken_front (OfDotted new_rows (R.seen.scope c)) _ at old q.name (method_decl t.0) (method_decl q) _ _ h
            (through_class (R.seen.scope c) (behind_words x.2.0 (reference ref.ThroughClass q.name (operand_of (R.seen.images.class_to x.0)) ts)) (method_decl q) old q.name) none x.2.2
        | inr x ↦ taken_front (OfDotted new_rows (R.seen.scope c)) _ at old q.name (method_decl t.0) (method_decl q) _ _ h
            (on_value (R.seen.scope c) (reference ref.MethodOn q.name (on_type (R.type_now c e (class x.1.0))) ts) (method_decl q) old q.name) none x.1.2
      ]

  -- a class in front of a further dot, with what stands in front of it, or alone
  abbrev pub AlsoAlone : Scope → Choice → (old : List ℕ) → Type 0
  AlsoAlone s h old = OfDotted new_rows s (front_of h) ⊎ ((front_of h ≡ alone) × Leads new_rows s None (text_of h old))

  alone_forms : (s : Scope) (r : Reference) (k : ClassKey) (old : List ℕ) → (n : ℕ) (f : Form) → slice_get (Asked ∷ ClassInFront ∷ OuterClassInFront ∷ []) n ≡ Some f → Binds new_rows s r (class_decl k) f → AlsoAlone s (spelled old k.name k f) old
  alone_forms s r k old n f there =
      front_forms (λ f. Binds new_rows s r (class_decl k) f → AlsoAlone s (spelled old k.name k f) old) (λ b. inl (asked (OfDotted new_rows s) tt old k.name k)) (λ b. inr (refl, (k, b)))
      (λ b. inl (subst (OfDotted new_rows s) (sym (outer_type_is k.outer k.name b.0 b.1)) (b.2.0, b.2.1))) n f there

  pub member_class_front : (c : Context) (r : Role) (at : ℕ) (e : tree.Exp A) (old : List ℕ) (h : Choice) → losses_of h ≡ [] → MemberClassChoice begins rows R c r at e old h → (r ≡ left) × AlsoAlone (R.seen.scope c) h old
  member_class_front c left at e old h none (o, k, owner, free, finds, v, before, w, stands, inl (f, taken, is)) =
      let there : ClassKey = R.seen.images.class_to k in (
        refl,
        subst (λ (x : Choice). AlsoAlone (R.seen.scope c) x old) (sym is)
            (alone_forms (R.seen.scope c) (behind_words w (reference ref.ClassInFront there.name (operand_of (R.seen.images.class_to o)) [])) there old taken.place f taken.stands taken.binds),
      )
  member_class_front c left at e old h none (o, k, owner, free, finds, v, before, w, stands, inr (none_binds, (f, found, is))) = absurd (lost_some _ (sym (ap losses_of is) ∙ none))
  member_class_front c value at e old h none t = absurd t
  member_class_front c role.statement at e old h none t = absurd t
