-- Where a declared local is named behind its declaration, as calls tell it.
use Rattle.std.specs.Prelude.{◌≡◌, ℕ, ◌+◌, ◌<◌, ◌^◌, List, Some, slice_get}
use Rattle.jr_text.specs.declared.spans.Span.{Span}
use Rattle.jr_ast.specs.StatementTree as statement
use Rattle.jr_ast.specs.Marks.{exp_mark}
use Rattle.jr_table.specs.Decls.{LocalKey}
use Rattle.jr_bind.specs.Programs.{Program}
use Rattle.jr_pieces.specs.Uses.{list_use}
use Rattle.jr_local_search.specs.Namings as search
use Rattle.jr_local_search.specs.Namings.{Among, RisesBy}
use Rattle.jr_bodies.specs.CodedBodies.{body_with}
use Rattle.jr_local.specs.Inlining.{Declared, Naming, bar}
use Rattle.jr_local_asked.specs.Declaring.{DeclaredLocal, IsThere}

-- the declaration that is there
abbrev pub declared_by : {p : Program Span} → {file : ℕ} → {k : LocalKey} → {x : DeclaredLocal}
    → IsThere p file k x → Declared p file k
declared_by {p} {file} {k} {x} h = record {
  body = body_with k.member h.is_static h.base x.code h.bound;
  has = h.has;
  member = λ i. k.member;
  init = h.stands.init;
  declares = record {
    way = h.stands.way;
    mark = h.stands.mark;
    is_final = h.stands.is_final;
    type = h.stands.type;
    word = h.stands.word;
    is = (h.stands.element (body_with k.member h.is_static h.base x.code h.bound).at
        (λ i. (body_with k.member h.is_static h.base x.code h.bound).at.next)).0;
    number = (h.stands.element (body_with k.member h.is_static h.base x.code h.bound).at
        (λ i. (body_with k.member h.is_static h.base x.code h.bound).at.next)).2;
  };
}

module _ {p : Program Span} {file : ℕ} {k : LocalKey} (x : Declared p file k) where
  -- the name is told so: by its bytes, how it is used, and what bars it
  pub record IsTold (n : Naming x) (y : search.Naming) : Type 0 where
    pub span : exp_mark n.at ≡ y.span
    pub used : list_use n.way ≡ y.usage
    pub barred : bar x n ≡ y.bar

  -- each place where the local is named is told, and nothing else, in text order
  pub record AreNamings (ys : List search.Naming) : Type 0 where
    pub each : (y : search.Naming) → Among ys y → (n : Naming x) × IsTold n y
    pub all : (n : Naming x) → (y : search.Naming) × Among ys y × IsTold n y
    pub rise : RisesBy search.first_byte ys

-- by places from which so many bytes are there
pub record AreGathered (places : List ℕ) (size : ℕ) (b : statement.Stmts Span)
    (ys : List search.Naming) : Type 0 where
  pub fit : (i n : ℕ) → slice_get places i ≡ Some n → n + size < 2 ^ 32
  pub are : search.AreNamings places size b ys
