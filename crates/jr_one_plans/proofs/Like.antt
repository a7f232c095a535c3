-- Regions that make the same of a program: what is chosen by the one is chosen by the other.
use Rattle.std.proofs.Common.{◌≡◌, ℕ, List, Option, Some, None, false, refl, sym, subst, inl, inr}
use Rattle.jr_text.specs.declared.spans.Span.{Span}
use Rattle.jr_ast.specs.Tree as tree
use Rattle.jr_table.specs.Keys.{ClassKey, Ty}
use Rattle.jr_table.specs.Decls.{head, LocalKey, class_decl, field_decl, method_decl, constructor_decl, local_decl}
use Rattle.jr_table.specs.Rows.{Row}
use Rattle.jr_table.specs.Found.{Found, one, nothing, many, not_accessible, from_static}
use Rattle.jr_table.specs.Prelude.{top_key}
use Rattle.jr_table.specs.Scope.{Scope}
use Rattle.jr_table.specs.Context.{Context}
use Rattle.jr_table.specs.Binding.{Role, value, left}
use Rattle.jr_table.specs.Binding as role
use Rattle.jr_table.specs.HeadRules.{plain}
use Rattle.jr_rewrite.specs.Respellings.{Choice}
use Rattle.jr_images.specs.Regions.{Images, Receiver, Region}
use Rattle.jr_images.specs.Words.{InFront, class_name, value_of, neither, IsOfClass, Stands, FindsBetween, FirstWord, NextWord, AreWords}
use Rattle.jr_images.specs.Spelling.{ClassChoice, FieldChoice, MemberClassChoice, CallChoice, ExpChoice, CreationChoice, SuperCtorChoice, TypeChoice, QualifierChoice, ParentChoice, ParentQualifierChoice}
use Rattle.jr_program_laws.specs.FileParts.{begins}

-- what a region makes of keys, scopes and types
pub record Made (A : Type 0) : Type 0 where
  pub images : Images
  pub scope : Context → Scope
  pub local_to : Context → LocalKey → Option LocalKey
  pub type_now : Context → tree.Exp A → Ty → Ty
  pub types_now : Context → tree.Exps A → List Ty → List Ty

abbrev pub made_of : {A : Type 0} → Region A → Made A
made_of R = record { images = R.seen.images; scope = R.seen.scope; local_to = R.seen.local_to; type_now = R.type_now; types_now = R.types_now }

-- and the region of it, in which locals are of these classes
abbrev pub region_by : {A : Type 0} → Made A → (Context → LocalKey → ClassKey → Type 0) → Receiver → Region A
region_by m H r = record { seen = record { images = m.images; scope = m.scope; local_to = m.local_to; HasClass = H }; type_now = m.type_now; types_now = m.types_now; receiver = r }

-- the same is made, and locals are of the same classes
pub record AreLike {A : Type 0} (R Q : Region A) : Type 0 where
  pub made : made_of R ≡ made_of Q
  pub there : (c : Context) (k : LocalKey) (b : ClassKey) → R.seen.HasClass c k b → Q.seen.HasClass c k b
  pub back : (c : Context) (k : LocalKey) (b : ClassKey) → Q.seen.HasClass c k b → R.seen.HasClass c k b

pub like_itself : {A : Type 0} (R : Region A) → AreLike R R
like_itself R = record { made = refl; there = λ c k b h. h; back = λ c k b h. h }

-- regions that are the same of the same
pub like_along : {A W : Type 0} (R : W → Region A) {w v : W} → w ≡ v → AreLike (R w) (R v)
like_along R {w} {v} e = subst (λ z. AreLike (R w) (R z)) e (like_itself (R w))

-- ---- where locals are of the same classes

module _ (m : Made Span) (H K : Context → LocalKey → ClassKey → Type 0) (to : (c : Context) (k : LocalKey) (b : ClassKey) → H c k b → K c k b) (r s : Receiver) where
  value_over : (c : Context) (f : Found) (b : ClassKey) → IsOfClass (region_by m H r).seen c f b → IsOfClass (region_by m K s).seen c f b
  value_over c (one (local_decl k)) b x = to c k b x
  value_over c (one (field_decl q)) b x = x
  value_over c (one (class_decl q)) b x = absurd x
  value_over c (one (method_decl q)) b x = absurd x
  value_over c (one (constructor_decl q)) b x = absurd x
  value_over c nothing b x = absurd x
  value_over c (many d e) b x = absurd x
  value_over c (not_accessible d) b x = absurd x
  value_over c (from_static d) b x = absurd x

module _ (rows : List Row) (m : Made Span) (H K : Context → LocalKey → ClassKey → Type 0) (to : (c : Context) (k : LocalKey) (b : ClassKey) → H c k b → K c k b) (from : (c : Context) (k : LocalKey) (b : ClassKey) → K c k b → H c k b) (r s : Receiver) where
  abbrev R : Region Span
  R = region_by m H r

  abbrev Q : Region Span
  Q = region_by m K s

  -- ---- words

  stands_over : (c : Context) (f : Found) (w : InFront) → Stands R.seen c f w → Stands Q.seen c f w
  stands_over c f (class_name b) x = x
  stands_over c f (value_of b) x = value_over m H K to r s c f b x
  stands_over c f neither x = (x.0, λ b v. x.1 b (value_over m K H from s r c f b v))

  between_over : (c : Context) (v : InFront) (name : List ℕ) (f : Found) → FindsBetween R.seen c v name f → FindsBetween Q.seen c v name f
  between_over c (class_name k) name f x = x
  between_over c (value_of k) name f x = x
  between_over c neither name f x = x

  first_over : (c : Context) (k : ClassKey) (w : InFront) → FirstWord R.seen c k w → FirstWord Q.seen c k w
  first_over c k w (f, x, stands) = (f, x, stands_over c f w stands)

  next_over : (c : Context) (v : InFront) (k : ClassKey) (w : InFront) → NextWord R.seen c v k w → NextWord Q.seen c v k w
  next_over c v k w (f, x, stands) = (f, between_over c v (m.images.class_to k).name f x, stands_over c f w stands)

  words_over : (c : Context) (e : tree.Exp Span) (k : ClassKey) (w : InFront) → AreWords rows R.seen c e k w → AreWords rows Q.seen c e k w
  words_over c (tree.field n e x) k w (o, named, u, words, stands) = (o, named, u, words_over c e o u words, next_over c u k w stands)
  words_over c e k w x = first_over c k w x

  -- ---- choices by words

  in_front_over : (c : Context) (l : Role) (at : ℕ) (old : List ℕ) (h : Choice) → ClassChoice begins rows R c l at old h → ClassChoice begins rows Q c l at old h
  in_front_over c left at old h (k, none, named, w, first, taken) = (k, none, named, w, first_over c k w first, taken)
  in_front_over c value at old h x = absurd x
  in_front_over c role.statement at old h x = absurd x

  field_over : (c : Context) (at : ℕ) (e : tree.Exp Span) (old : List ℕ) (h : Choice) → FieldChoice begins rows R c at e old h → FieldChoice begins rows Q c at e old h
  field_over c at e old h (q, finds, inl (k, named, (w, words, taken))) = (q, finds, inl (k, named, (w, words_over c e k w words, taken)))
  field_over c at e old h (q, finds, inr x) = (q, finds, inr x)

  member_class_over : (c : Context) (l : Role) (at : ℕ) (e : tree.Exp Span) (old : List ℕ) (h : Choice) → MemberClassChoice begins rows R c l at e old h → MemberClassChoice begins rows Q c l at e old h
  member_class_over c left at e old h (o, k, named, none, inner, v, words, w, next, inl taken) = (o, k, named, none, inner, v, words_over c e o v words, w, next_over c v k w next, inl taken)
  member_class_over c left at e old h (o, k, named, none, inner, v, words, w, next, inr (never, (f, finds, is))) =
      (o, k, named, none, inner, v, words_over c e o v words, w, next_over c v k w next, inr (never, (f, between_over c v (m.images.class_to k).name f finds, is)))
  member_class_over c value at e old h x = absurd x
  member_class_over c role.statement at e old h x = absurd x

  call_over : (c : Context) (at : ℕ) (e : tree.Exp Span) (old : List ℕ) (args : tree.Exps Span) (h : Choice) → CallChoice begins rows R c at e old args h → CallChoice begins rows Q c at e old args h
  call_over c at e old args h (q, ts, finds, types, inl (k, named, (w, words, taken))) = (q, ts, finds, types, inl (k, named, (w, words_over c e k w words, taken)))
  call_over c at e old args h (q, ts, finds, types, inr x) = (q, ts, finds, types, inr x)

  -- ---- all forms

  pub exp_over : (c : Context) (l : Role) (base : ℕ) (e : tree.Exp Span) (h : Choice) → ExpChoice begins rows R c l base e h → ExpChoice begins rows Q c l base e h
  exp_over c l base (tree.name n w) h (inl x) = inl x
  exp_over c l base (tree.name n w) h (inr x) = inr (in_front_over c l _ w.text h x)
  exp_over c l base (tree.field n e w) h (inl x) = inl (field_over c _ e w.text h x)
  exp_over c l base (tree.field n e w) h (inr x) = inr (member_class_over c l _ e w.text h x)
  exp_over c l base (tree.super_field n w) h x = x
  exp_over c l base (tree.call n tree.no_target w args) h x = x
  exp_over c l base (tree.call n (tree.on e) w args) h x = call_over c _ e w.text args h x
  exp_over c l base (tree.super_call n w args) h x = x
  exp_over c l base e h x = absurd x

  pub creation_over : (c : Context) (base : ℕ) (e : tree.Exp Span) (h : Choice) → CreationChoice begins rows R c base e h → CreationChoice begins rows Q c base e h
  creation_over c base (tree.create n t args) h x = x
  creation_over c base e h x = absurd x

  pub super_over : (at : ℕ) (c : Context) (args : tree.Exps Span) (h : Choice) → SuperCtorChoice begins rows R at c args h → SuperCtorChoice begins rows Q at c args h
  super_over at c args h x = x

  pub type_over : (c : Context) (base : ℕ) (t : tree.TypeName Span) (h : Choice) → TypeChoice begins rows R c base t h → TypeChoice begins rows Q c base t h
  type_over c base (tree.int n) h x = absurd x
  type_over c base (tree.boolean n) h x = absurd x
  type_over c base (tree.named n None w) h x = x
  type_over c base (tree.named n (Some v) w) h x = x

  pub qualifier_over : (c : Context) (base : ℕ) (t : tree.TypeName Span) (h : Choice) → QualifierChoice begins rows R c base t h → QualifierChoice begins rows Q c base t h
  qualifier_over c base (tree.int n) h x = absurd x
  qualifier_over c base (tree.boolean n) h x = absurd x
  qualifier_over c base (tree.named n None w) h x = absurd x
  qualifier_over c base (tree.named n (Some v) w) h x = x

  pub parent_over : (outer : Option (List ℕ)) (base : ℕ) (t : tree.TypeName Span) (h : Choice) → ParentChoice begins rows R outer base t h → ParentChoice begins rows Q outer base t h
  parent_over (Some outer) base t h x = type_over (plain (head (top_key outer)) false) base t h x
  parent_over None base (tree.int n) h x = absurd x
  parent_over None base (tree.boolean n) h x = absurd x
  parent_over None base (tree.named n (Some v) w) h x = absurd x
  parent_over None base (tree.named n None w) h x = x

  pub parent_qualifier_over : (outer : Option (List ℕ)) (base : ℕ) (t : tree.TypeName Span) (h : Choice) → ParentQualifierChoice begins rows R outer base t h → ParentQualifierChoice begins rows Q outer base t h
  parent_qualifier_over (Some outer) base t h x = qualifier_over (plain (head (top_key outer)) false) base t h x
  parent_qualifier_over None base t h x = absurd x

-- ---- of two regions that are alike

module _ (rows : List Row) (R Q : Region Span) (like : AreLike R Q) where
  -- what the other makes, made by this one
  abbrev By : Made Span → Region Span
  By m = region_by m Q.seen.HasClass Q.receiver

  pub exp_back : (c : Context) (l : Role) (base : ℕ) (e : tree.Exp Span) (h : Choice) → ExpChoice begins rows Q c l base e h → ExpChoice begins rows R c l base e h
  exp_back c l base e h x =
      exp_over rows (made_of R) Q.seen.HasClass R.seen.HasClass like.back like.there Q.receiver R.receiver c l base e h (subst (λ (m : Made Span). ExpChoice begins rows (By m) c l base e h) (sym like.made) x)

  pub creation_back : (c : Context) (base : ℕ) (e : tree.Exp Span) (h : Choice) → CreationChoice begins rows Q c base e h → CreationChoice begins rows R c base e h
  creation_back c base e h x =
      creation_over rows (made_of R) Q.seen.HasClass R.seen.HasClass like.back like.there Q.receiver R.receiver c base e h (subst (λ (m : Made Span). CreationChoice begins rows (By m) c base e h) (sym like.made) x)

  pub super_back : (at : ℕ) (c : Context) (args : tree.Exps Span) (h : Choice) → SuperCtorChoice begins rows Q at c args h → SuperCtorChoice begins rows R at c args h
  super_back at c args h x =
      super_over rows (made_of R) Q.seen.HasClass R.seen.HasClass like.back like.there Q.receiver R.receiver at c args h (subst (λ (m : Made Span). SuperCtorChoice begins rows (By m) at c args h) (sym like.made) x)

  pub type_back : (c : Context) (base : ℕ) (t : tree.TypeName Span) (h : Choice) → TypeChoice begins rows Q c base t h → TypeChoice begins rows R c base t h
  type_back c base t h x =
      type_over rows (made_of R) Q.seen.HasClass R.seen.HasClass like.back like.there Q.receiver R.receiver c base t h (subst (λ (m : Made Span). TypeChoice begins rows (By m) c base t h) (sym like.made) x)

  pub qualifier_back : (c : Context) (base : ℕ) (t : tree.TypeName Span) (h : Choice) → QualifierChoice begins rows Q c base t h → QualifierChoice begins rows R c base t h
  qualifier_back c base t h x =
      qualifier_over rows (made_of R) Q.seen.HasClass R.seen.HasClass like.back like.there Q.receiver R.receiver c base t h (subst (λ (m : Made Span). QualifierChoice begins rows (By m) c base t h) (sym like.made) x)

  pub parent_back : (outer : Option (List ℕ)) (base : ℕ) (t : tree.TypeName Span) (h : Choice) → ParentChoice begins rows Q outer base t h → ParentChoice begins rows R outer base t h
  parent_back outer base t h x =
      parent_over rows (made_of R) Q.seen.HasClass R.seen.HasClass like.back like.there Q.receiver R.receiver outer base t h (subst (λ (m : Made Span). ParentChoice begins rows (By m) outer base t h) (sym like.made) x)

  pub parent_qualifier_back : (outer : Option (List ℕ)) (base : ℕ) (t : tree.TypeName Span) (h : Choice) → ParentQualifierChoice begins rows Q outer base t h → ParentQualifierChoice begins rows R outer base t h
  parent_qualifier_back outer base t h x =
      parent_qualifier_over rows (made_of R) Q.seen.HasClass R.seen.HasClass like.back like.there Q.receiver R.receiver outer base t h (subst (λ (m : Made Span). ParentQualifierChoice begins rows (By m) outer base t h) (sym like.made) x)
