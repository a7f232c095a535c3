-- The local at a place of a program, which a statement declares.
use Rattle.std.specs.Prelude.{◌≡◌, ℕ, Option, Some, None}
use Rattle.jr_text.specs.declared.spans.Span.{Span}
use Rattle.jr_table.specs.Decls.{Decl, LocalKey, local_decl}
use Rattle.jr_bind.specs.Programs.{Program}
use Rattle.jr_bodies.specs.Bodies.{Body}
use Rattle.jr_bodies.specs.CodedBodies.{body_with}
use Rattle.jr_local.specs.Inlining.{IsAsked, Asked}
use Rattle.jr_local_asked.specs.Declaring.{DeclaredLocal, IsThere, IsNowhere}

pub record AskedLocal : Type 0 where
  pub key : LocalKey
  pub declared : DeclaredLocal

-- with its declaration, if there is one
abbrev pub with_key : LocalKey → Option DeclaredLocal → Option AskedLocal
with_key k None = None
with_key k (Some x) = Some (record { key = k; declared = x })

module _ (p : Program Span) (file : ℕ) where
  -- ---- of a key, and of a declaration

  abbrev pub LacksLocal : LocalKey → Type 0
  LacksLocal k = IsNowhere p file k

  abbrev pub HasLocal : LocalKey → AskedLocal → Type 0
  HasLocal k x = (x.key ≡ k) × IsThere p file x.key x.declared

  -- no local that a statement declares is this declaration
  abbrev pub LacksTarget : Decl → Type 0
  LacksTarget d = (k : LocalKey) → d ≡ local_decl k → IsNowhere p file k

  abbrev pub HasTarget : Decl → AskedLocal → Type 0
  HasTarget d x = (d ≡ local_decl x.key) × IsThere p file x.key x.declared

  -- ---- at a byte

  module _ (at : ℕ) where
    abbrev pub LacksAsked : Type 0
    LacksAsked = Asked p file at → ⊥

    -- the local is asked for there, and this is its declaration
    pub record HasAsked (x : AskedLocal) : Type 0 where
      pub asked : IsAsked p file at x.key
      pub there : IsThere p file x.key x.declared

    -- the body that declares it
    abbrev pub body_of_asked : {x : AskedLocal} → HasAsked x → Body
    body_of_asked {x} h =
        body_with x.key.member h.there.is_static h.there.base x.declared.code h.there.bound

    -- what inline local finds, by this
    abbrev pub asked_by : {x : AskedLocal} → HasAsked x → Asked p file at
    asked_by {x} h = record {
      key = x.key;
      asked = h.asked;
      declared = record {
        body = body_of_asked h;
        has = h.there.has;
        member = λ i. x.key.member;
        init = h.there.stands.init;
        declares = record {
          way = h.there.stands.way;
          mark = h.there.stands.mark;
          is_final = h.there.stands.is_final;
          type = h.there.stands.type;
          word = h.there.stands.word;
          is = (h.there.stands.element (body_of_asked h).at (λ i. (body_of_asked h).at.next)).0;
          number = (h.there.stands.element (body_of_asked h).at (λ i. (body_of_asked h).at.next)).2;
        };
      };
    }
