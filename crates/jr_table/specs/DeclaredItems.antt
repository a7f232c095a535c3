-- Where a program declares something: one list, in file and text order.
use Rattle.std.specs.Prelude.{
  ℕ,
  suc,
  List,
  [],
  ◌∷◌,
  ◌++◌,
  Option,
  Some,
  None,
  Bool,
  true,
  false,
  ◌&&◌,
  ◌||◌,
  map,
  option_map,
  codes,
}
use Rattle.jr_ast.specs.declared.operators.ModWord.{ModWord}
use Rattle.jr_ast.specs.declared.operators.UnOp.TheVariants.{Minus}
use Rattle.jr_ast.specs.declared.operators.UnOp.{UnOp}
use Rattle.jr_ast.specs.Tree as tree
use Rattle.jr_ast.specs.MemberTree as syntax
use Rattle.jr_ast.specs.Marks.{type_mark, exp_mark}
use Rattle.jr_table.specs.Keys.{ClassKey}
use Rattle.jr_table.specs.SameKeys.{same_name}

-- a type as written, with the place of its first byte
pub data Written : Type 0 where
  int : Written
  boolean : Written
  named : (at : ℕ) (outer : Option (List ℕ)) (name : List ℕ) → Written

pub record DeclaredParam : Type 0 where
  pub at : ℕ
  pub name : List ℕ
  pub type : Written

-- an initializer: its place, and whether it has a form that a static field's may have
pub record DeclaredInit : Type 0 where
  pub at : ℕ
  pub is_simple : Bool

-- each with the place of the declared name
pub record DeclaredClass : Type 0 where
  pub at : ℕ
  pub key : ClassKey
  pub modifiers : List ModWord
  pub parent : Option Written
  -- whether a constructor is written
  pub has_ctor : Bool

pub record DeclaredField : Type 0 where
  pub at : ℕ
  pub of : ClassKey
  pub name : List ℕ
  pub modifiers : List ModWord
  pub type : Written
  pub init : Option DeclaredInit

pub record DeclaredMethod : Type 0 where
  pub at : ℕ
  pub of : ClassKey
  pub name : List ℕ
  pub modifiers : List ModWord
  -- none is `void`
  pub result : Option Written
  pub params : List DeclaredParam

pub record DeclaredCtor : Type 0 where
  pub at : ℕ
  pub of : ClassKey
  pub modifiers : List ModWord
  pub params : List DeclaredParam

pub data Item : Type 0 where
  class_item : (declaration : DeclaredClass) → Item
  field_item : (declaration : DeclaredField) → Item
  method_item : (declaration : DeclaredMethod) → Item
  ctor_item : (declaration : DeclaredCtor) → Item

pub record DeclaredItem : Type 0 where
  -- the file's number
  pub file : ℕ
  pub item : Item

-- `begins m base`: where a node with the mark begins, if its parent begins at the base
module _ {A : Type 0} (begins : A → ℕ → ℕ) where
  abbrev pub word_at : ℕ → tree.Word A → ℕ
  word_at base w = begins w.mark base

  abbrev pub written : ℕ → tree.TypeName A → Written
  written base (tree.int m) = int
  written base (tree.boolean m) = boolean
  written base (tree.named m outer w) =
      named (begins m base) (option_map (λ (o : tree.Word A). o.text) outer) w.text

  abbrev pub words : List (syntax.Modifier A) → List ModWord
  words ms = map (λ (m : syntax.Modifier A). m.word) ms

  abbrev pub param_declaration : ℕ → syntax.Param A → DeclaredParam
  param_declaration base p = let here = begins p.mark base in record
      { at = word_at here p.name; name = p.name.text; type = written here p.type }

  abbrev pub is_minus : UnOp → Bool
  is_minus Minus = true
  is_minus _ = false

  abbrev pub is_number : tree.Exp A → Bool
  is_number (tree.number m n) = true
  is_number _ = false

  abbrev pub is_object : tree.TypeName A → Bool
  is_object (tree.named m None w) = same_name w.text (codes "Object")
  is_object _ = false

  abbrev pub has_none : tree.Exps A → Bool
  has_none tree.end = true
  has_none (tree.more e es) = false

  -- an int literal, a minus and an int literal, a boolean, string or `null` literal, or `new
  -- Object()`
  abbrev pub is_simple : tree.Exp A → Bool
  is_simple (tree.number m n) = true
  is_simple (tree.truth m b) = true
  is_simple (tree.null m) = true
  is_simple (tree.string m s) = true
  is_simple (tree.unary m op e) = is_minus op && is_number e
  is_simple (tree.create m t args) = is_object t && has_none args
  is_simple _ = false

  abbrev pub init_declaration : ℕ → tree.Exp A → DeclaredInit
  init_declaration base e = record { at = begins (exp_mark e) base; is_simple = is_simple e }

  abbrev pub writes_ctor : syntax.Members A → Bool
  writes_ctor syntax.end = false
  writes_ctor (syntax.more (syntax.constructor m mods w ps args body) ms) = true
  writes_ctor (syntax.more _ ms) = writes_ctor ms

  abbrev pub class_key : Option (List ℕ) → List ℕ → ClassKey
  class_key outer name = record { outer = outer; name = name }

  -- what a member of a class declares, and what the members of a member class do
  unfoldable mutual
    pub member_declarations : ℕ → ClassKey → syntax.Member A → List Item
    member_declarations base of (syntax.field m mods t w init) =
        field_item (record {
          at = word_at (begins m base) w;
          of = of;
          name = w.text;
          modifiers =
              words mods;
          type = written (begins m base) t;
          init =
              option_map (init_declaration (begins m base)) init;
        }) ∷ []
    member_declarations base of (syntax.method m mods t w ps body) =
        method_item (record {
          at = word_at (begins m base) w;
          of = of;
          name = w.text;
          modifiers =
              words mods;
          result = option_map (written (begins m base)) t;
          params =
              map (param_declaration (begins m base)) ps;
        }) ∷ []
    member_declarations base of (syntax.constructor m mods w ps args body) =
        ctor_item (record {
          at = word_at (begins m base) w;
          of = of;
          modifiers = words mods;
          params = map (param_declaration (begins m base)) ps;
        }) ∷ []
    member_declarations base of (syntax.inner m c) = class_declarations (begins m base) (Some of.name) c

    pub class_declarations : ℕ → Option (List ℕ) → syntax.Class A → List Item
    class_declarations base outer (syntax.class m mods w t ms) =
        class_item (record {
          at = word_at (begins m base) w;
          key = class_key outer w.text;
          modifiers = words mods;
          parent = option_map (written (begins m base)) t;
          has_ctor =
              writes_ctor ms;
        })
        ∷ members_declarations (begins m base) (class_key outer w.text) ms

    pub members_declarations : ℕ → ClassKey → syntax.Members A → List Item
    members_declarations base of syntax.end = []
    members_declarations base of (syntax.more m ms) = member_declarations base of m ++ members_declarations base of ms

  abbrev pub classes_declarations : ℕ → List (syntax.Class A) → List Item
  classes_declarations base [] = []
  classes_declarations base (c ∷ cs) = class_declarations base None c ++ classes_declarations base cs

  abbrev pub declarations_from : (file : ℕ) → List (syntax.Unit A) → List DeclaredItem
  declarations_from file [] = []
  declarations_from file (u ∷ us) = map (λ i. record { file = file; item = i })
      (classes_declarations (begins u.mark 0) u.classes) ++ declarations_from (suc file) us

  -- the declarations of a program's files
  unfoldable pub declarations_of : List (syntax.Unit A) → List DeclaredItem
  declarations_of units = declarations_from 0 units
