-- A class with an int field and two private methods m and q, for small programs that are well typed.
use Rattle.std.proofs.Common.{◌≡◌, ◌⊎◌, ℕ, Bool, true, false, List, [], ◌∷◌, Option, Some, None, IsTrue, pos, refl, sym, subst, inl, inr}
use Rattle.jr_runs.specs.Keys.{Keys, keys_of}
use Rattle.jr_runs.specs.Values.{Ty, int, int_type}
use Rattle.jr_runs.specs.Actions.{plain}
use Rattle.jr_runs.specs.Rows.{Rows}
use Rattle.jr_runs.specs.Core as core
use Rattle.jr_runs.specs.Core.{Exp, this, literal, Target, field_of, return, Stmts, Code, written, Program}
use Rattle.jr_runs.specs.Images.{Among}
use Rattle.jr_runs.specs.KeyMaps.{same_keys}
use Rattle.jr_runs.specs.KeptDeclarations.{SameDeclarations, DispatchKept}
use Rattle.jr_runs.specs.TypedImages.{IsAbove}
use Rattle.jr_runs.specs.Typing.{SoundRows}
use Rattle.jr_runs.proofs.TypedValues.{no}

pub data Class : Type 0 where
  own other : Class

pub data Name : Type 0 where
  m q : Name

abbrev pub J : Keys
J = keys_of Class Bool Name Bool ℕ

abbrev pub same : Class → Class → Bool
same own own = true
same own other = false
same other own = false
same other other = true

-- both methods are private: dispatch finds none
abbrev pub rows : (Name → Bool) → (Name → List (Ty J)) → (Name → Option (Ty J)) → Rows J
rows has params result = record {
  same_class = same;
  is_subclass = same;
  text_class = other;
  class_class = other;
  field_kind = λ f. plain;
  field_type = λ f. int_type;
  dispatch = λ c n. None;
  has_method = has;
  owner = λ n. Some own;
  params = params;
  result = result;
  has_constructor = λ k. false;
  constructor_class = λ k. other;
  constructor_params = λ k. [];
}

abbrev pub program : Rows J → (Name → Code J) → Program J
program rows code = record { rows = rows; method = λ n. written (code n); constructor = λ k. record { params = 0; body = core.Stmts.end } }

-- before q is made, and behind
abbrev pub m_alone : Name → Bool
m_alone m = true
m_alone q = false

abbrev pub both_are : Name → Bool
both_are m = true
both_are q = true

abbrev pub field : Target J
field = field_of None (this None) true

abbrev pub one : Exp J
one = literal None (int (pos 1))

-- `return e;`
abbrev pub returned : Exp J → Stmts J
returned e = core.Stmts.more (return None e) core.Stmts.end

pub none_is_some : {A B : Type 0} (x : A) → None ≡ Some x → B
none_is_some x e = absurd (apart x e)
  where
    apart : {C : Type 0} (y : C) → None ≡ Some y → ⊥
    apart y d = cc

pub neither : ⊥ ⊎ ⊥ → ⊥
neither (inl e) = e
neither (inr e) = e

same_is : (c d : Class) → same c d ≡ true → c ≡ d
same_is own own h = refl
same_is own other h = no h
same_is other own h = no h
same_is other other h = refl

same_itself : (c : Class) → same c c ≡ true
same_itself own = refl
same_itself other = refl

pub sound : (has : Name → Bool) (params : Name → List (Ty J)) (result : Name → Option (Ty J)) → SoundRows (rows has params result)
sound has params result = record {
  same = same_is;
  itself = same_itself;
  chain = λ c d e h i. subst (λ x. IsTrue (same x e)) (sym (same_is c d h)) i;
  dispatch = λ c d n found o s e h. none_is_some found e;
}

-- classes and dispatch are the same, whichever methods there are
pub declared : (has has' : Name → Bool) (params params' : Name → List (Ty J)) (result result' : Name → Option (Ty J)) → SameDeclarations same_keys (rows has params result) (rows has' params' result')
declared has has' params params' result result' = record { same_class = λ c d. refl; is_subclass = λ c d. refl; text_class = refl; class_class = refl; field_kind = λ f. refl; field_type = λ f. refl }

pub dispatched : (has has' : Name → Bool) (params params' : Name → List (Ty J)) (result result' : Name → Option (Ty J)) → DispatchKept same_keys (rows has params result) (rows has' params' result')
dispatched has has' params params' result result' = record { some = λ c n k h e. none_is_some k e; none = λ c owner n h d o b. refl }

-- `this` is known to be an object of its class
pub own_above : (has : Name → Bool) (params : Name → List (Ty J)) (result : Name → Option (Ty J)) (c : Class) → Among c (own ∷ []) → IsAbove (rows has params result) (Some own) c
own_above has params result c (inl e) = subst (λ x. IsTrue (same own x)) (sym e) refl
own_above has params result c (inr e) = absurd e
