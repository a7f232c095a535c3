-- Which choices suit the place where they are made: their words are identifiers, and with what
-- stands in front they are an expression or a type there (JLS 6.5, 15.11, 15.12, 15.16).
use Rattle.std.specs.Prelude.{◌≡◌, ℕ, List, Option}
use Rattle.jr_lex.specs.Replacing.{IsName}
use Rattle.jr_ast.specs.Tree as tree
use Rattle.jr_table.specs.Keys.{ClassKey}
use Rattle.jr_table.specs.Decls.{
  Decl,
  class_decl,
  field_decl,
  method_decl,
  constructor_decl,
  local_decl,
}
use Rattle.jr_table.specs.Binding.{Role}
use Rattle.jr_table.specs.Context.{Context}
use Rattle.jr_rewrite.specs.Respellings.{
  Front,
  same,
  alone,
  by_this,
  by_super,
  by_cast_this,
  by_class,
  by_outer_class,
  by_cast,
  Choice,
  stays,
  becomes,
  loses,
  text_of,
}
use Rattle.jr_rewrite.specs.Rewrites.{Choosing}

-- the classes that stand in front go by identifiers
abbrev pub AreNames : Front → Type 0
AreNames same = Unit {0}
AreNames alone = Unit {0}
AreNames by_this = Unit {0}
AreNames by_super = Unit {0}
AreNames (by_cast_this k) = IsName k
AreNames (by_class k) = IsName k
AreNames (by_outer_class o k) = IsName o × IsName k
AreNames (by_cast k) = IsName k

-- what is chosen is a name, with what may stand in front there
abbrev pub Suits : (Front → Type 0) → Choice → Type 0
Suits May stays = Unit {0}
Suits May (becomes r) = IsName r.text × AreNames r.front × May r.front
Suits May (loses l) = Unit {0}

-- ---- what may stand in front

-- nothing: of a declared name, a method by `super`, and the class in front of another
abbrev pub MayStandAlone : Front → Type 0
MayStandAlone same = Unit {0}
MayStandAlone alone = Unit {0}
MayStandAlone by_this = ⊥
MayStandAlone by_super = ⊥
MayStandAlone (by_cast_this k) = ⊥
MayStandAlone (by_class k) = ⊥
MayStandAlone (by_outer_class o k) = ⊥
MayStandAlone (by_cast k) = ⊥

-- of a variable with nothing, or `super`, in front of it
abbrev pub MayStandBeforeVariable : Front → Type 0
MayStandBeforeVariable same = Unit {0}
MayStandBeforeVariable alone = Unit {0}
MayStandBeforeVariable by_this = Unit {0}
MayStandBeforeVariable by_super = Unit {0}
MayStandBeforeVariable (by_cast_this k) = Unit {0}
MayStandBeforeVariable (by_class k) = Unit {0}
MayStandBeforeVariable (by_outer_class o k) = Unit {0}
MayStandBeforeVariable (by_cast k) = ⊥

-- of a method with nothing in front of it
abbrev pub MayStandBeforeMethod : Front → Type 0
MayStandBeforeMethod same = Unit {0}
MayStandBeforeMethod alone = Unit {0}
MayStandBeforeMethod by_this = Unit {0}
MayStandBeforeMethod by_super = ⊥
MayStandBeforeMethod (by_cast_this k) = Unit {0}
MayStandBeforeMethod (by_class k) = Unit {0}
MayStandBeforeMethod (by_outer_class o k) = Unit {0}
MayStandBeforeMethod (by_cast k) = ⊥

-- of a class as a type
abbrev pub MayStandBeforeType : Front → Type 0
MayStandBeforeType same = Unit {0}
MayStandBeforeType alone = Unit {0}
MayStandBeforeType by_this = ⊥
MayStandBeforeType by_super = ⊥
MayStandBeforeType (by_cast_this k) = ⊥
MayStandBeforeType (by_class k) = Unit {0}
MayStandBeforeType (by_outer_class o k) = ⊥
MayStandBeforeType (by_cast k) = ⊥

-- names with dots between them, as a class has
abbrev pub IsPath : {A : Type 0} → tree.Exp A → Type 0
IsPath (tree.number m n) = ⊥
IsPath (tree.truth m b) = ⊥
IsPath (tree.null m) = ⊥
IsPath (tree.string m s) = ⊥
IsPath (tree.name m w) = Unit {0}
IsPath (tree.field m e w) = IsPath e
IsPath (tree.super_field m w) = ⊥
IsPath (tree.this m) = ⊥
IsPath (tree.class_literal m t) = ⊥
IsPath (tree.call m to w args) = ⊥
IsPath (tree.super_call m w args) = ⊥
IsPath (tree.create m t args) = ⊥
IsPath (tree.paren m e) = ⊥
IsPath (tree.cast m t e) = ⊥
IsPath (tree.unary m op e) = ⊥
IsPath (tree.bump m op e) = ⊥
IsPath (tree.binary m op x y) = ⊥
IsPath (tree.assign m x y) = ⊥
IsPath (tree.compound m op x y) = ⊥

-- What begins with no number: 2147483648 is a literal behind a minus alone, and a cast would stand
-- between the two (JLS 3.10.1).
abbrev pub MayBeCast : {A : Type 0} → tree.Exp A → Type 0
MayBeCast (tree.number m n) = ⊥
MayBeCast (tree.truth m b) = Unit {0}
MayBeCast (tree.null m) = Unit {0}
MayBeCast (tree.string m s) = Unit {0}
MayBeCast (tree.name m w) = Unit {0}
MayBeCast (tree.field m e w) = MayBeCast e
MayBeCast (tree.super_field m w) = Unit {0}
MayBeCast (tree.this m) = Unit {0}
MayBeCast (tree.class_literal m t) = Unit {0}
MayBeCast (tree.call m tree.no_target w args) = Unit {0}
MayBeCast (tree.call m (tree.on e) w args) = MayBeCast e
MayBeCast (tree.super_call m w args) = Unit {0}
MayBeCast (tree.create m t args) = Unit {0}
MayBeCast (tree.paren m e) = Unit {0}
-- no other stands in front of a dot
MayBeCast (tree.cast m t e) = Unit {0}
MayBeCast (tree.unary m op e) = Unit {0}
MayBeCast (tree.bump m op e) = Unit {0}
MayBeCast (tree.binary m op x y) = Unit {0}
MayBeCast (tree.assign m x y) = Unit {0}
MayBeCast (tree.compound m op x y) = Unit {0}

-- of a name behind e and a dot: what takes e's place, or nothing, stands where a class stood, and a
-- cast goes around what begins with no number
abbrev pub MayStandFor : {A : Type 0} → tree.Exp A → Front → Type 0
MayStandFor e same = Unit {0}
MayStandFor e alone = IsPath e
MayStandFor e by_this = IsPath e
MayStandFor e by_super = ⊥
MayStandFor e (by_cast_this k) = IsPath e
MayStandFor e (by_class k) = IsPath e
MayStandFor e (by_outer_class o k) = IsPath e
MayStandFor e (by_cast k) = MayBeCast e

abbrev pub SuitsCall : {A : Type 0} → tree.Target A → Choice → Type 0
SuitsCall tree.no_target h = Suits MayStandBeforeMethod h
SuitsCall (tree.on e) h = Suits (MayStandFor e) h

-- of the reference of an expression itself
abbrev pub SuitsExp : {A : Type 0} → tree.Exp A → Choice → Type 0
SuitsExp (tree.number m n) h = Unit {0}
SuitsExp (tree.truth m b) h = Unit {0}
SuitsExp (tree.null m) h = Unit {0}
SuitsExp (tree.string m s) h = Unit {0}
SuitsExp (tree.name m w) h = Suits MayStandBeforeVariable h
SuitsExp (tree.field m e w) h = Suits (MayStandFor e) h
SuitsExp (tree.super_field m w) h = Suits MayStandBeforeVariable h
SuitsExp (tree.this m) h = Unit {0}
SuitsExp (tree.class_literal m t) h = Unit {0}
SuitsExp (tree.call m to w args) h = SuitsCall to h
SuitsExp (tree.super_call m w args) h = Suits MayStandAlone h
SuitsExp (tree.create m t args) h = Unit {0}
SuitsExp (tree.paren m e) h = Unit {0}
SuitsExp (tree.cast m t e) h = Unit {0}
SuitsExp (tree.unary m op e) h = Unit {0}
SuitsExp (tree.bump m op e) h = Unit {0}
SuitsExp (tree.binary m op x y) h = Unit {0}
SuitsExp (tree.assign m x y) h = Unit {0}
SuitsExp (tree.compound m op x y) h = Unit {0}

-- all that is chosen suits, and the names of a class and of its constructors become one (JLS 8.8)
pub record AreSuitable {A : Type 0} (C : Choosing A) : Type 0 where
  pub expression : (c : Context) (r : Role) (base : ℕ) (e : tree.Exp A) (h : Choice)
      → C.expression c r base e h → SuitsExp e h
  pub qualifier : (c : Context) (base : ℕ) (t : tree.TypeName A) (h : Choice)
      → C.qualifier c base t h → Suits MayStandAlone h
  pub type : (c : Context) (base : ℕ) (t : tree.TypeName A) (h : Choice) → C.type c base t h
      → Suits MayStandBeforeType h
  pub parent_qualifier : (outer : Option (List ℕ)) (base : ℕ) (t : tree.TypeName A) (h : Choice)
      → C.parent_qualifier outer base t h → Suits MayStandAlone h
  pub parent : (outer : Option (List ℕ)) (base : ℕ) (t : tree.TypeName A) (h : Choice)
      → C.parent outer base t h → Suits MayStandBeforeType h
  pub declared : (d : Decl) (w : tree.Word A) (h : Choice) → C.declared d w h
      → Suits MayStandAlone h
  pub one_name : (k : ClassKey) (v w : tree.Word A) (g h : Choice) → v.text ≡ w.text
      → C.declared (class_decl k) v g → C.declared (class_decl k) w h
      → text_of g v.text ≡ text_of h w.text

-- a class's word becomes what this function says; of other declarations it says nothing
abbrev pub IsNewName : (ClassKey → List ℕ → List ℕ) → Decl → (old new : List ℕ) → Type 0
IsNewName new_name (class_decl k) old new = new ≡ new_name k old
IsNewName new_name (field_decl k) old new = Unit {0}
IsNewName new_name (method_decl k) old new = Unit {0}
IsNewName new_name (constructor_decl k) old new = Unit {0}
IsNewName new_name (local_decl k) old new = Unit {0}

-- each choice that suits, where classes become what a function says
abbrev pub all_suitable : {A : Type 0} → (ClassKey → List ℕ → List ℕ) → Choosing A
all_suitable new_name = record {
  expression = λ c r base e h. SuitsExp e h;
  creation = λ c base e h. Unit {0};
  super_call = λ c args h. Unit {0};
  qualifier = λ c base t h. Suits MayStandAlone h;
  type = λ c base t h. Suits MayStandBeforeType h;
  parent_qualifier = λ outer base t h. Suits MayStandAlone h;
  parent = λ outer base t h. Suits MayStandBeforeType h;
  declared = λ d w h. Suits MayStandAlone h × IsNewName new_name d w.text (text_of h w.text);
}
