-- The references and declared names of a program that stay when it is rewritten, what is chosen for
-- each, and what they add to edits, to the respelled and to what is lost: as sets, where the walk
-- goes from place to place.
use Rattle.std.specs.Prelude.{◌≡◌, ◌⊎◌, ◌↔◌, ℕ, ◌+◌, List, [], ◌∷◌, ◌++◌, Option, Some, None, true, false}
use Rattle.jr_text.specs.declared.spans.Span.{Span}
use Rattle.jr_ast.specs.Tree as tree
use Rattle.jr_ast.specs.MemberTree as syntax
use Rattle.jr_ast.specs.Marks.{exp_mark}
use Rattle.jr_table.specs.Decls.{MemberKey, Decl}
use Rattle.jr_table.specs.Binding.{Role, value, left}
use Rattle.jr_table.specs.Context.{Context}
use Rattle.jr_table.specs.HeadRules.{with_parameters}
use Rattle.jr_rewrite.specs.Respellings.{Choice, Change, Loss, front_of}
use Rattle.jr_rewrite.specs.Rewritten.{
  Rewritten,
  count_of,
  losses_of,
  word_changes,
  super_changes,
  dotted_changes,
  qualified_changes,
  drops_operand,
  drops_qualifier,
  span_in,
}
use Rattle.jr_rewrite.specs.Rewrites.{Choosing}

-- where a reference or a declared name stands, with what is known there
pub data Place (A : Type 0) : Type 0 where
  -- the reference of an expression itself, and the constructors of a creation and of the
  -- `super(..)` in a constructor that begins there
  of_expression : Context → Role → (base : ℕ) → tree.Exp A → Place A
  of_creation : Context → (base : ℕ) → tree.Exp A → Place A
  of_super : MemberKey → (base : ℕ) → List (syntax.Param A) → tree.Exps A → Place A
  -- a class as a type: the one in front of its dot, and its own name
  of_qualifier : Context → (base : ℕ) → tree.TypeName A → Place A
  of_type : Context → (base : ℕ) → tree.TypeName A → Place A
  of_parent_qualifier : Option (List ℕ) → (base : ℕ) → tree.TypeName A → Place A
  of_parent : Option (List ℕ) → (base : ℕ) → tree.TypeName A → Place A
  -- a declared name, whose declaration begins there
  of_declared : Decl → (at : ℕ) → tree.Word A → Place A

-- it is one of them
abbrev pub In : {X : Type 0} → X → List X → Type 0
In x [] = ⊥
In x (y ∷ ys) = (y ≡ x) ⊎ In x ys

abbrev pub with_choice : {A : Type 0} → Place A → Choice → Place A × Choice
with_choice s h = (s, h)

-- no place stands twice
abbrev pub StandOnce : {A : Type 0} → List (Place A × Choice) → Type 0
StandOnce [] = Unit {0}
StandOnce (x ∷ xs) = ((h : Choice) → In (with_choice x.0 h) xs → ⊥) × StandOnce xs

module _ {A : Type 0} (tells : A → ℕ → Span) (C : Choosing A) where
  abbrev pub begins : A → ℕ → ℕ
  begins m base = (tells m base).from

  -- ---- what is chosen

  abbrev pub IsChosen : Place A → Choice → Type 0
  IsChosen (of_expression c r b e) h = C.expression c r b e h
  IsChosen (of_creation c b e) h = C.creation c b e h
  IsChosen (of_super k b ps args) h = C.super_call (with_parameters k true ps) args h
  IsChosen (of_qualifier c b t) h = C.qualifier c b t h
  IsChosen (of_type c b t) h = C.type c b t h
  IsChosen (of_parent_qualifier o b t) h = C.parent_qualifier o b t h
  IsChosen (of_parent o b t) h = C.parent o b t h
  IsChosen (of_declared d at w) h = C.declared d w h

  -- what stands in front of its dot stays: no spelling is taken without it
  abbrev pub KeepsFront : Place A → Type 0
  KeepsFront s = (h : Choice) × IsChosen s h × (drops_operand (front_of h) ≡ false)

  abbrev pub KeepsQualifier : Place A → Type 0
  KeepsQualifier s = (h : Choice) × IsChosen s h × (drops_qualifier tells (front_of h) ≡ false)

  -- ---- what a choice adds

  abbrev pub type_edits : (base : ℕ) → tree.TypeName A → Choice → List Change
  type_edits b (tree.int m) h = []
  type_edits b (tree.boolean m) h = []
  type_edits b (tree.named m None w) h = word_changes h (tells w.mark (tells m b).from)
  type_edits b (tree.named m (Some v) w) h =
      qualified_changes tells h (span_in tells m b v) (span_in tells m b w) []

  abbrev pub qualifier_edits : (base : ℕ) → tree.TypeName A → Choice → List Change
  qualifier_edits b (tree.named m (Some v) w) h = word_changes h (span_in tells m b v)
  qualifier_edits b _ h = []

  abbrev pub expression_edits : (base : ℕ) → tree.Exp A → Choice → List Change
  expression_edits b (tree.name m w) h = word_changes h (tells w.mark (tells m b).from)
  expression_edits b (tree.field m e w) h =
      dotted_changes h (tells (exp_mark e) (tells m b).from) (span_in tells m b w) []
  expression_edits b (tree.super_field m w) h =
      super_changes h (tells m b) (span_in tells m b w)
  expression_edits b (tree.call m tree.no_target w args) h =
      word_changes h (tells w.mark (tells m b).from)
  expression_edits b (tree.call m (tree.on e) w args) h =
      dotted_changes h (tells (exp_mark e) (tells m b).from) (span_in tells m b w) []
  expression_edits b (tree.super_call m w args) h =
      word_changes h (tells w.mark (tells m b).from)
  expression_edits b _ h = []

  -- the edits of its own words
  abbrev pub edits_at : Place A → Choice → List Change
  edits_at (of_expression c r b e) h = expression_edits b e h
  edits_at (of_creation c b e) h = []
  edits_at (of_super k b ps args) h = []
  edits_at (of_qualifier c b t) h = qualifier_edits b t h
  edits_at (of_type c b t) h = type_edits b t h
  edits_at (of_parent_qualifier o b t) h = qualifier_edits b t h
  edits_at (of_parent o b t) h = type_edits b t h
  edits_at (of_declared d at w) h = word_changes h (tells w.mark at)

  -- one if it is respelled; a constructor has no word of its own
  abbrev pub count_at : Place A → Choice → ℕ
  count_at (of_creation c b e) h = 0
  count_at (of_super k b ps args) h = 0
  count_at _ h = count_of h

  -- ---- which stay

  abbrev pub TypeStays : (own front : Place A) → tree.TypeName A → Place A → Type 0
  TypeStays own front (tree.int m) s = ⊥
  TypeStays own front (tree.boolean m) s = ⊥
  TypeStays own front (tree.named m None w) s = s ≡ own
  TypeStays own front (tree.named m (Some v) w) s =
      (KeepsQualifier own × (s ≡ front)) ⊎ (s ≡ own)

  abbrev pub WrittenStays : Context → (base : ℕ) → tree.TypeName A → Place A → Type 0
  WrittenStays c b t s = TypeStays (of_type c b t) (of_qualifier c b t) t s

  -- a class in front of a dot stays where the reference behind it stays and takes no spelling
  -- without it; every other reference stays
  unfoldable mutual
    pub ExpStays : Context → Role → (base : ℕ) → tree.Exp A → Place A → Type 0
    ExpStays c r b (tree.number m n) s = ⊥
    ExpStays c r b (tree.truth m t) s = ⊥
    ExpStays c r b (tree.null m) s = ⊥
    ExpStays c r b (tree.string m t) s = ⊥
    ExpStays c r b (tree.this m) s = ⊥
    ExpStays c r b (tree.name m w) s = s ≡ of_expression c r b (tree.name m w)
    ExpStays c r b (tree.field m e w) s =
        (KeepsFront (of_expression c r b (tree.field m e w)) × ExpStays c left (begins m b) e s)
        ⊎ (s ≡ of_expression c r b (tree.field m e w))
    ExpStays c r b (tree.super_field m w) s = s ≡ of_expression c r b (tree.super_field m w)
    ExpStays c r b (tree.class_literal m t) s = WrittenStays c (begins m b) t s
    ExpStays c r b (tree.call m tree.no_target w args) s =
        (s ≡ of_expression c r b (tree.call m tree.no_target w args))
        ⊎ RowStays c (begins m b) args s
    ExpStays c r b (tree.call m (tree.on e) w args) s =
        ((KeepsFront (of_expression c r b (tree.call m (tree.on e) w args))
        × ExpStays c left (begins m b) e s)
        ⊎ (s ≡ of_expression c r b (tree.call m (tree.on e) w args)))
        ⊎ RowStays c (begins m b) args s
    ExpStays c r b (tree.super_call m w args) s =
        (s ≡ of_expression c r b (tree.super_call m w args)) ⊎ RowStays c (begins m b) args s
    ExpStays c r b (tree.create m t args) s = (s ≡ of_creation c b (tree.create m t args))
        ⊎ (WrittenStays c (begins m b) t s ⊎ RowStays c (begins m b) args s)
    ExpStays c r b (tree.paren m e) s = ExpStays c value (begins m b) e s
    ExpStays c r b (tree.cast m t e) s =
        WrittenStays c (begins m b) t s ⊎ ExpStays c value (begins m b) e s
    ExpStays c r b (tree.unary m op e) s = ExpStays c value (begins m b) e s
    ExpStays c r b (tree.bump m op e) s = ExpStays c value (begins m b) e s
    ExpStays c r b (tree.binary m op e f) s =
        ExpStays c value (begins m b) e s ⊎ ExpStays c value (begins m b) f s
    ExpStays c r b (tree.assign m e f) s =
        ExpStays c value (begins m b) e s ⊎ ExpStays c value (begins m b) f s
    ExpStays c r b (tree.compound m op e f) s =
        ExpStays c value (begins m b) e s ⊎ ExpStays c value (begins m b) f s

    pub RowStays : Context → (at : ℕ) → tree.Exps A → Place A → Type 0
    RowStays c b tree.end s = ⊥
    RowStays c b (tree.more e es) s = ExpStays c value b e s ⊎ RowStays c b es s

  -- ---- all that is added

  abbrev pub losses_all : List (Place A × Choice) → List Loss
  losses_all [] = []
  losses_all (x ∷ xs) = losses_of x.1 ++ losses_all xs

  abbrev pub count_all : List (Place A × Choice) → ℕ
  count_all [] = 0
  count_all (x ∷ xs) = count_at x.0 x.1 + count_all xs

  abbrev pub IsEditOf : List (Place A × Choice) → Change → Type 0
  IsEditOf [] y = ⊥
  IsEditOf (x ∷ xs) y = In y (edits_at x.0 x.1) ⊎ IsEditOf xs y

  -- What is rewritten has these places in text order, each with what is chosen there, and no
  -- others; its edits are theirs, those that it loses are lost there, and it counts the respelled.
  pub record IsOfPlaces {T : Type 0} (Stays : Place A → Type 0) (o : Rewritten T) : Type 0 where
    pub all : List (Place A × Choice)
    pub are : (s : Place A) (h : Choice) → In (with_choice s h) all ↔ (Stays s × IsChosen s h)
    pub losses : o.losses ≡ losses_all all
    pub respelled : o.respelled ≡ count_all all
    pub edits : (y : Change) → In y o.changes ↔ IsEditOf all y
