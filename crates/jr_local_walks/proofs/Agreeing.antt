-- Two regions that agree at a place: what is chosen there by the one is chosen by the other.
use Rattle.std.proofs.Common.{◌≡◌, ℕ, zero, suc, List, [], ◌∷◌, map, Option, Some, None, refl, sym, ap, subst, ◌∙◌, inl, inr}
use Rattle.std.specs.Prelude.{slice_get}
use Rattle.jr_ast.specs.Tree as tree
use Rattle.jr_table.specs.Keys.{ClassKey, FieldKey, MethodKey, Ty, class}
use Rattle.jr_table.specs.Decls.{LocalKey, class_decl, field_decl, method_decl, constructor_decl, local_decl}
use Rattle.jr_table.specs.Rows.{Row}
use Rattle.jr_table.specs.Found.{Found, one, nothing, many, not_accessible, from_static}
use Rattle.jr_table.specs.Scope.{Scope, ScopeLocal, FindsLocal}
use Rattle.jr_table.specs.Lookup.{FindsVariable, FindsMethodNamed, FindsMethodOf, FindsCtorOf}
use Rattle.jr_table.specs.Context.{Context, Local, IsSuperclass, scope_local, scope_of}
use Rattle.jr_table.specs.Binding.{HaveTypes, FindsIn, Role, value, left, statement}
use Rattle.jr_spell.specs.declared.references.RefForm.{RefForm}
use Rattle.jr_spell.specs.declared.references.RefForm.TheVariants as ref
use Rattle.jr_spell.specs.References.{Reference, Operand}
use Rattle.jr_rewrite.specs.Respellings.{Choice}
use Rattle.jr_new_files.proofs.Namesakes.{found_variable}
use Rattle.jr_local_walks.specs.Contexts.{Each}
use Rattle.jr_images.specs.Regions.{Images, Seen, Region, itself}
use Rattle.jr_images.specs.Words.{InFront, class_name, value_of, neither, IsOfClass, Stands, FindsBehind, FindsBetween, FirstWord, NextWord, AreWords}
use Rattle.jr_images.specs.Spelling.{TakenChoice, behind_words, reference, operand_of, on_type, FindsOn, SimpleCallChoice, SuperCallChoice, LocalChoice, VariableChoice, ClassChoice, OnValueOrClass, FieldChoice, MemberClassChoice, CallChoice, ExpChoice, CreationChoice, TypeChoice, QualifierChoice}

-- ---- locals in scope

some_is : {X : Type 0} {x y : X} → (let a : Option X = Some x in a ≡ Some y) → x ≡ y
some_is e = cc

pub each_at : {X : Type 0} (F : X → Type 0) (xs : List X) (n : ℕ) (x : X) → Each F xs → slice_get xs n ≡ Some x → F x
each_at F [] n x e is = absurd cc
each_at F (y ∷ xs) zero x e is = subst F (some_is is) e.0
each_at F (y ∷ xs) (suc n) x e is = each_at F xs n x e.1 is

mapped_at : (ls : List Local) (n : ℕ) (s : ScopeLocal) → slice_get (map scope_local ls) n ≡ Some s → (l : Local) × (slice_get ls n ≡ Some l) × (scope_local l ≡ s)
mapped_at [] n s is = absurd cc
mapped_at (l ∷ ls) zero s is = (l, refl, some_is is)
mapped_at (l ∷ ls) (suc n) s is = mapped_at ls n s is

no_field : {P : Type 0} (k : LocalKey) (q : FieldKey) → local_decl k ≡ field_decl q → P
no_field k q e = absurd cc

-- a local that a name finds
in_scope : (rows : List Row) (c : Context) (name : List ℕ) (k : LocalKey) → FindsVariable rows (scope_of c) name (one (local_decl k)) → (l : Local) × (n : ℕ) × (slice_get c.locals n ≡ Some l) × (l.key ≡ k)
in_scope rows c name k finds = elim (found_variable rows (scope_of c) name (local_decl k) finds) [ inl x ↦ by x | inr x ↦ no_field k x.0 x.1 ]
  where
    by : ((q : LocalKey) × (local_decl k ≡ local_decl q) × FindsLocal (scope_of c).locals name q) → (l : Local) × (n : ℕ) × (slice_get c.locals n ≡ Some l) × (l.key ≡ k)
    by (q, is, found) =
        let x = mapped_at c.locals found.place found.local found.stands in
        (x.0, found.place, x.1, ap (λ (s : ScopeLocal). s.key) x.2 ∙ found.is ∙ sym (key_is k q is))
      where
        key_is : (a b : LocalKey) → local_decl a ≡ local_decl b → a ≡ b
        key_is a b e = cc

-- ---- what is seen at one place, as a region
abbrev pub seen_alike : Images → Scope → (LocalKey → Option LocalKey) → (LocalKey → ClassKey → Type 0) → Seen
seen_alike i s to H = record { images = i; scope = λ c. s; local_to = λ c k. to k; HasClass = λ c k b. H k b }

abbrev pub alike : {A : Type 0} → Images → Scope → (LocalKey → Option LocalKey) → (LocalKey → ClassKey → Type 0) → (tree.Exp A → Ty → Ty) → (tree.Exps A → List Ty → List Ty) → Region A
alike i s to H t ts = record { seen = seen_alike i s to H; type_now = λ c e u. t e u; types_now = λ c es us. ts es us; receiver = itself }

-- ---- words in front of a dot

module _ (i : Images) (s : Scope) (to to' : LocalKey → Option LocalKey) (H K : LocalKey → ClassKey → Type 0) (there : (k : LocalKey) (b : ClassKey) → H k b → K k b) (c : Context) where
  of_class : (f : Found) (b : ClassKey) → IsOfClass (seen_alike i s to H) c f b → IsOfClass (seen_alike i s to' K) c f b
  of_class (one (local_decl k)) b x = there k b x
  of_class (one (field_decl q)) b x = x
  of_class (one (class_decl q)) b x = absurd x
  of_class (one (method_decl q)) b x = absurd x
  of_class (one (constructor_decl q)) b x = absurd x
  of_class nothing b x = absurd x
  of_class (many d e) b x = absurd x
  of_class (not_accessible d) b x = absurd x
  of_class (from_static d) b x = absurd x

module _ (i : Images) (s : Scope) (to to' : LocalKey → Option LocalKey) (H K : LocalKey → ClassKey → Type 0) (there : (k : LocalKey) (b : ClassKey) → H k b → K k b) (back : (k : LocalKey) (b : ClassKey) → K k b → H k b) (c : Context) where
  abbrev V : Seen
  V = seen_alike i s to H

  abbrev W : Seen
  W = seen_alike i s to' K

  stands : (f : Found) (w : InFront) → Stands V c f w → Stands W c f w
  stands f (class_name b) x = x
  stands f (value_of b) x = of_class i s to to' H K there c f b x
  stands f neither x = (x.0, λ b y. x.1 b (of_class i s to' to K H back c f b y))

  first_word : (k : ClassKey) (w : InFront) → FirstWord V c k w → FirstWord W c k w
  first_word k w (f, finds, x) = (f, finds, stands f w x)

  next_word : (v : InFront) (k : ClassKey) (w : InFront) → NextWord V c v k w → NextWord W c v k w
  next_word (class_name b) k w (f, finds, x) = (f, finds, stands f w x)
  next_word (value_of b) k w (f, finds, x) = (f, finds, stands f w x)
  next_word neither k w (f, finds, x) = (f, finds, stands f w x)

  module _ {A : Type 0} (rows : List Row) where
    words : (e : tree.Exp A) (k : ClassKey) (w : InFront) → AreWords rows V c e k w → AreWords rows W c e k w
    words (tree.field m e x) k w (o, is, v, front, next) = (o, is, v, words e o v front, next_word v k w next)
    words (tree.name m x) k w y = first_word k w y
    words (tree.number m n) k w y = first_word k w y
    words (tree.truth m b) k w y = first_word k w y
    words (tree.null m) k w y = first_word k w y
    words (tree.string m t) k w y = first_word k w y
    words (tree.super_field m x) k w y = first_word k w y
    words (tree.this m) k w y = first_word k w y
    words (tree.class_literal m t) k w y = first_word k w y
    words (tree.call m t x args) k w y = first_word k w y
    words (tree.super_call m x args) k w y = first_word k w y
    words (tree.create m t args) k w y = first_word k w y
    words (tree.paren m e) k w y = first_word k w y
    words (tree.cast m t e) k w y = first_word k w y
    words (tree.unary m op e) k w y = first_word k w y
    words (tree.bump m op e) k w y = first_word k w y
    words (tree.binary m op e f) k w y = first_word k w y
    words (tree.assign m e f) k w y = first_word k w y
    words (tree.compound m op e f) k w y = first_word k w y

  -- ---- choices

  module _ {A : Type 0} (begins : A → ℕ → ℕ) (rows : List Row) (t : tree.Exp A → Ty → Ty) (ts us : tree.Exps A → List Ty → List Ty)
      (same_types : (args : tree.Exps A) (old : List Ty) → HaveTypes rows c args old → ts args old ≡ us args old)
      (same : (name : List ℕ) (k : LocalKey) → FindsVariable rows (scope_of c) name (one (local_decl k)) → to k ≡ to' k) where
    abbrev R : Region A
    R = alike i s to H t ts

    abbrev S : Region A
    S = alike i s to' K t us

    local_choice : (at : ℕ) (old : List ℕ) (k : LocalKey) (h : Choice) → LocalChoice begins rows R c at old k h → LocalChoice begins rows S c at old k h
    local_choice at old k h (finds, x) = subst (λ (o : Option LocalKey). LocalChoice begins rows (alike i s (λ z. o) K t us) c at old k h) (same old k finds) (finds, x)

    variable_choice : (at : ℕ) (old : List ℕ) (h : Choice) → VariableChoice begins rows R c at old h → VariableChoice begins rows S c at old h
    variable_choice at old h (inl (k, x)) = inl (k, local_choice at old k h x)
    variable_choice at old h (inr (k, x)) = inr (k, x)

    class_choice : (r : Role) (at : ℕ) (old : List ℕ) (h : Choice) → ClassChoice begins rows R c r at old h → ClassChoice begins rows S c r at old h
    class_choice left at old h (k, none, finds, w, front, taken) = (k, none, finds, w, first_word k w front, taken)
    class_choice value at old h x = absurd x
    class_choice statement at old h x = absurd x

    on_operand : (e : tree.Exp A) (Value : Ty → Type 0) (From To : ClassKey → Type 0) → ((k : ClassKey) → From k → To k) → OnValueOrClass begins rows R c e Value From → OnValueOrClass begins rows S c e Value To
    on_operand e Value From To go (inl (k, is, x)) = inl (k, is, go k x)
    on_operand e Value From To go (inr x) = inr x

    field_choice : (at : ℕ) (e : tree.Exp A) (old : List ℕ) (h : Choice) → FieldChoice begins rows R c at e old h → FieldChoice begins rows S c at e old h
    field_choice at e old h (f, finds, inl (k, is, (w, front, taken))) = (f, finds, inl (k, is, (w, words rows e k w front, taken)))
    field_choice at e old h (f, finds, inr x) = (f, finds, inr x)

    abbrev TakenBehind : Region A → (at : ℕ) → (old : List ℕ) → Choice → (o k : ClassKey) → (v w : InFront) → Type 0
    TakenBehind T at old h o k v w = TakenChoice begins rows T s at old (i.class_to k).name (class_decl k) (class_decl (i.class_to k)) (behind_words w (reference ref.ClassInFront (i.class_to k).name (operand_of (i.class_to o)) [])) (FindsBetween T.seen c v (i.class_to k).name) h

    member_class_choice : (r : Role) (at : ℕ) (e : tree.Exp A) (old : List ℕ) (h : Choice) → MemberClassChoice begins rows R c r at e old h → MemberClassChoice begins rows S c r at e old h
    member_class_choice left at e old h (o, k, is, none, finds, v, front, w, next, taken) = (o, k, is, none, finds, v, words rows e o v front, w, next_word v k w next, by v taken)
      where
        by : (u : InFront) → TakenBehind R at old h o k u w → TakenBehind S at old h o k u w
        by (class_name b) x = x
        by (value_of b) x = x
        by neither x = x
    member_class_choice value at e old h x = absurd x
    member_class_choice statement at e old h x = absurd x

    -- what is taken of a method and of a constructor, with these types of arguments
    abbrev Called : (at : ℕ) → (old : List ℕ) → MethodKey → RefForm → Option Operand → (InFront → Reference → Reference) → InFront → (Finds : List Ty → Found → Type 0) → Choice → List Ty → Type 0
    Called at old q form operand front w Finds h vs =
        TakenChoice begins rows S s at old (i.method_to q).name (method_decl q) (method_decl (i.method_to q)) (front w (reference form (i.method_to q).name operand vs)) (Finds vs) h

    abbrev as_is : InFront → Reference → Reference
    as_is w r = r

    simple_call_choice : (at : ℕ) (old : List ℕ) (args : tree.Exps A) (h : Choice) → SimpleCallChoice begins rows R c at old args h → SimpleCallChoice begins rows S c at old args h
    simple_call_choice at old args h (q, vs, finds, have, taken) =
        (q, vs, finds, have, subst (Called at old q ref.MethodSimple None as_is neither (λ ws. FindsMethodNamed i.rows s (i.method_to q).name ws) h) (same_types args vs have) taken)

    super_call_choice : (at : ℕ) (old : List ℕ) (args : tree.Exps A) (h : Choice) → SuperCallChoice begins rows R c at old args h → SuperCallChoice begins rows S c at old args h
    super_call_choice at old args h (q, vs, finds, have, taken) =
        (q, vs, finds, have, subst (Called at old q ref.AsAsked None as_is neither (λ ws. FindsIn (IsSuperclass i.rows s.class) (λ k f. FindsMethodOf i.rows s k (i.method_to q).name ws f)) h) (same_types args vs have) taken)

    call_choice : (at : ℕ) (e : tree.Exp A) (old : List ℕ) (args : tree.Exps A) (h : Choice) → CallChoice begins rows R c at e old args h → CallChoice begins rows S c at e old args h
    call_choice at e old args h (q, vs, finds, have, inl (k, is, (w, front, taken))) = (
      q,
      vs,
      finds,
      have,
      inl (k, is, (w, words rows e k w front, subst (Called at old q ref.ThroughClass (operand_of (i.class_to k)) behind_words w (λ ws. FindsBehind w (λ o. FindsMethodOf i.rows s o (i.method_to q).name ws)) h) (same_types args vs have) taken)),
    )
    call_choice at e old args h (q, vs, finds, have, inr (not, (k, has, taken))) = (
      q,
      vs,
      finds,
      have,
      inr (not, (k, has, subst (Called at old q ref.MethodOn (on_type (t e (class k))) as_is neither (λ ws. FindsOn (t e (class k)) (λ o. FindsMethodOf i.rows s o (i.method_to q).name ws)) h) (same_types args vs have) taken)),
    )

    expression : (r : Role) (base : ℕ) (e : tree.Exp A) (h : Choice) → ExpChoice begins rows R c r base e h → ExpChoice begins rows S c r base e h
    expression r base (tree.name m w) h (inl x) = inl (variable_choice _ w.text h x)
    expression r base (tree.name m w) h (inr x) = inr (class_choice r _ w.text h x)
    expression r base (tree.field m e w) h (inl x) = inl (field_choice _ e w.text h x)
    expression r base (tree.field m e w) h (inr x) = inr (member_class_choice r _ e w.text h x)
    expression r base (tree.super_field m w) h x = x
    expression r base (tree.call m tree.no_target w args) h x = simple_call_choice _ w.text args h x
    expression r base (tree.call m (tree.on e) w args) h x = call_choice _ e w.text args h x
    expression r base (tree.super_call m w args) h x = super_call_choice _ w.text args h x
    expression r base (tree.number m n) h x = absurd x
    expression r base (tree.truth m b) h x = absurd x
    expression r base (tree.null m) h x = absurd x
    expression r base (tree.string m u) h x = absurd x
    expression r base (tree.this m) h x = absurd x
    expression r base (tree.class_literal m u) h x = absurd x
    expression r base (tree.create m u args) h x = absurd x
    expression r base (tree.paren m e) h x = absurd x
    expression r base (tree.cast m u e) h x = absurd x
    expression r base (tree.unary m op e) h x = absurd x
    expression r base (tree.bump m op e) h x = absurd x
    expression r base (tree.binary m op e f) h x = absurd x
    expression r base (tree.assign m e f) h x = absurd x
    expression r base (tree.compound m op e f) h x = absurd x

    creation : (base : ℕ) (e : tree.Exp A) (h : Choice) → CreationChoice begins rows R c base e h → CreationChoice begins rows S c base e h
    creation base (tree.create m u args) h (k, q, vs, is, finds, have, taken) = (k, q, vs, is, finds, have, subst Made (same_types args vs have) taken)
      where
        Made : List Ty → Type 0
        Made ws =
            TakenChoice begins rows S s (begins m base) [] [] (constructor_decl q) (constructor_decl (i.ctor_to q)) (reference ref.AsAsked [] (operand_of (i.class_to k)) ws) (FindsCtorOf i.rows s (i.class_to k) ws) h
    creation base (tree.number m n) h x = absurd x
    creation base (tree.truth m b) h x = absurd x
    creation base (tree.null m) h x = absurd x
    creation base (tree.string m u) h x = absurd x
    creation base (tree.name m w) h x = absurd x
    creation base (tree.field m e w) h x = absurd x
    creation base (tree.super_field m w) h x = absurd x
    creation base (tree.this m) h x = absurd x
    creation base (tree.class_literal m u) h x = absurd x
    creation base (tree.call m to w args) h x = absurd x
    creation base (tree.super_call m w args) h x = absurd x
    creation base (tree.paren m e) h x = absurd x
    creation base (tree.cast m u e) h x = absurd x
    creation base (tree.unary m op e) h x = absurd x
    creation base (tree.bump m op e) h x = absurd x
    creation base (tree.binary m op e f) h x = absurd x
    creation base (tree.assign m e f) h x = absurd x
    creation base (tree.compound m op e f) h x = absurd x

    qualifier_choice : (base : ℕ) (u : tree.TypeName A) (h : Choice) → QualifierChoice begins rows R c base u h → QualifierChoice begins rows S c base u h
    qualifier_choice base (tree.int m) h x = absurd x
    qualifier_choice base (tree.boolean m) h x = absurd x
    qualifier_choice base (tree.named m None w) h x = absurd x
    qualifier_choice base (tree.named m (Some v) w) h x = x

    type_choice : (base : ℕ) (u : tree.TypeName A) (h : Choice) → TypeChoice begins rows R c base u h → TypeChoice begins rows S c base u h
    type_choice base (tree.int m) h x = absurd x
    type_choice base (tree.boolean m) h x = absurd x
    type_choice base (tree.named m None w) h x = x
    type_choice base (tree.named m (Some v) w) h x = x

-- ---- two regions

module _ {A : Type 0} (begins : A → ℕ → ℕ) (rows : List Row) (R S : Region A) (c : Context) where
  -- they see the same there, of the locals in scope
  pub record Agree : Type 0 where
    pub images : R.seen.images ≡ S.seen.images
    pub scope : R.seen.scope c ≡ S.seen.scope c
    pub locals : Each (λ (l : Local). R.seen.local_to c l.key ≡ S.seen.local_to c l.key) c.locals
    pub there : (k : LocalKey) (b : ClassKey) → R.seen.HasClass c k b → S.seen.HasClass c k b
    pub back : (k : LocalKey) (b : ClassKey) → S.seen.HasClass c k b → R.seen.HasClass c k b
    pub type : (e : tree.Exp A) (u : Ty) → R.type_now c e u ≡ S.type_now c e u
    pub types : (es : tree.Exps A) (us : List Ty) → HaveTypes rows c es us → R.types_now c es us ≡ S.types_now c es us

  module _ (a : Agree) where
    -- what both see but for locals
    moved : (P : Region A → Type 0)
        → P (alike (R.seen.images) (R.seen.scope c) (R.seen.local_to c) (R.seen.HasClass c) (λ e u. R.type_now c e u) (λ es us. R.types_now c es us))
        → P (alike (S.seen.images) (S.seen.scope c) (R.seen.local_to c) (R.seen.HasClass c) (λ e u. S.type_now c e u) (λ es us. R.types_now c es us))
    moved P x = subst P (λ i. alike (a.images i) (a.scope i) (R.seen.local_to c) (R.seen.HasClass c) (λ e u. a.type e u i) (λ es us. R.types_now c es us)) x

    same_there : (name : List ℕ) (k : LocalKey) → FindsVariable rows (scope_of c) name (one (local_decl k)) → R.seen.local_to c k ≡ S.seen.local_to c k
    same_there name k finds =
        let l = in_scope rows c name k finds in
        subst (λ (q : LocalKey). R.seen.local_to c q ≡ S.seen.local_to c q) l.3 (each_at (λ (x : Local). R.seen.local_to c x.key ≡ S.seen.local_to c x.key) c.locals l.1 l.0 a.locals l.2)

    pub expression_agrees : (r : Role) (base : ℕ) (e : tree.Exp A) (h : Choice) → ExpChoice begins rows R c r base e h → ExpChoice begins rows S c r base e h
    expression_agrees r base e h x =
        expression S.seen.images (S.seen.scope c) (R.seen.local_to c) (S.seen.local_to c) (R.seen.HasClass c) (S.seen.HasClass c) a.there a.back c begins rows (λ e u. S.type_now c e u) (λ es us. R.types_now c es us) (λ es us. S.types_now c es us) a.types same_there r base e h
        (moved (λ T. ExpChoice begins rows T c r base e h) x)

    pub creation_agrees : (base : ℕ) (e : tree.Exp A) (h : Choice) → CreationChoice begins rows R c base e h → CreationChoice begins rows S c base e h
    creation_agrees base e h x =
        creation S.seen.images (S.seen.scope c) (R.seen.local_to c) (S.seen.local_to c) (R.seen.HasClass c) (S.seen.HasClass c) a.there a.back c begins rows (λ e u. S.type_now c e u) (λ es us. R.types_now c es us) (λ es us. S.types_now c es us) a.types same_there base e h
        (moved (λ T. CreationChoice begins rows T c base e h) x)

    pub type_agrees : (base : ℕ) (t : tree.TypeName A) (h : Choice) → TypeChoice begins rows R c base t h → TypeChoice begins rows S c base t h
    type_agrees base t h x =
        type_choice S.seen.images (S.seen.scope c) (R.seen.local_to c) (S.seen.local_to c) (R.seen.HasClass c) (S.seen.HasClass c) a.there a.back c begins rows (λ e u. S.type_now c e u) (λ es us. R.types_now c es us) (λ es us. S.types_now c es us) a.types same_there base t h
        (moved (λ T. TypeChoice begins rows T c base t h) x)

    pub qualifier_agrees : (base : ℕ) (t : tree.TypeName A) (h : Choice) → QualifierChoice begins rows R c base t h → QualifierChoice begins rows S c base t h
    qualifier_agrees base t h x =
        qualifier_choice S.seen.images (S.seen.scope c) (R.seen.local_to c) (S.seen.local_to c) (R.seen.HasClass c) (S.seen.HasClass c) a.there a.back c begins rows (λ e u. S.type_now c e u) (λ es us. R.types_now c es us) (λ es us. S.types_now c es us) a.types same_there base t h
        (moved (λ T. QualifierChoice begins rows T c base t h) x)
