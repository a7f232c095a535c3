-- What becomes of code in a place where a local stands for `this` (JLS 15.8.3): `this`, and members
-- that are named by way of it, written or not, are spots, and are named by way of the local.
use Rattle.std.specs.Prelude.{◌≡◌, ◌⊎◌, ℕ, zero, suc, List, [], ◌∷◌, ◌++◌, codes, length, sum_by}
use Rattle.jr_text.specs.declared.spans.Span.{Span}
use Rattle.jr_ast.specs.Tree as tree
use Rattle.jr_grammar.specs.Layout.{itself}
use Rattle.jr_table.specs.Keys.{ClassKey, FieldKey, MethodKey, Ty, class}
use Rattle.jr_table.specs.Decls.{Decl, class_decl, field_decl, method_decl}
use Rattle.jr_table.specs.Rows.{Row}
use Rattle.jr_table.specs.Scope.{Scope}
use Rattle.jr_table.specs.Found.{Found, one, nothing}
use Rattle.jr_table.specs.Lookup.{FindsVariable, FindsTypeNamed, FindsFieldIn, FindsMethodOf}
use Rattle.jr_table.specs.Context.{Context, scope_of, IsInstanceDecl}
use Rattle.jr_table.specs.Binding.{HaveTypes, SuperFieldFinds, CallFinds, SuperCallFinds}
use Rattle.jr_spell.specs.declared.references.RefForm.TheVariants as ref
use Rattle.jr_bind.specs.Programs.{File, Program}
use Rattle.jr_rewrite.specs.Respellings.{Front, by_cast, Choice, front_of, cast_text, front_text}
use Rattle.jr_rewrite.specs.Rewritten.{
  Rewritten,
  joined,
  before,
  change,
  count_of,
  losses_of,
  new_word,
  cast_tree,
}
use Rattle.jr_rewrite.specs.Spots.{Spots, Spotted, spotted}
use Rattle.jr_rewrite.specs.Rewrites.{Choosing, TransformsRow}
use Rattle.jr_images.specs.Regions.{Region}
use Rattle.jr_images.specs.Spelling.{TakenChoice, choosing, there, reference, on_type}
use Rattle.jr_bodies.specs.Bodies.{begins}

-- no more calls stand within one another than the files have bytes
abbrev pub depth_of : Program Span → ℕ
depth_of p = sum_by (λ (f : File Span). length f.text) p.files

-- the program, the region of the new place, the local's name and its class
module _ (p : Program Span) (R : Region Span) (name : List ℕ) (of : ClassKey) where
  abbrev pub rows : List Row
  rows = R.seen.images.rows

  abbrev pub scope_there : Context → Scope
  scope_there c = there begins p.rows R c

  abbrev pub choices : Choosing Span
  choices = choosing begins p.rows R (λ (c : Context). p.super_at c.member)

  -- ---- what stands in front of a member's word: the local, or a cast of it

  abbrev pub receiver_tree : Span → tree.Exp Span
  receiver_tree m = tree.name m (new_word m name)

  abbrev pub front_tree : Span → Front → tree.Exp Span
  front_tree m (by_cast k) = cast_tree m k (receiver_tree m)
  front_tree m _ = receiver_tree m

  abbrev pub put_text : Front → List ℕ
  put_text (by_cast k) = cast_text k ++ (name ++ front_text (by_cast k))
  put_text _ = name ++ codes "."

  -- in front of a word
  abbrev pub put_in_front : {T : Type 0} → (tree.Exp Span → T) → Span → Choice → (word : Span)
      → Rewritten T
  put_in_front f m h word = record {
    tree = f (front_tree m (front_of h));
    changes = change (before word) (put_text (front_of h)) ∷ [];
    respelled = count_of h;
    losses = losses_of h;
  }

  -- ---- how it is chosen

  -- a field and a method on the local (JLS 15.11.1, 15.12.1)
  abbrev pub FieldOnReceiver : Context → (at : ℕ) → FieldKey → Choice → Type 0
  FieldOnReceiver c at q h = TakenChoice begins p.rows R (scope_there c) at
      q.name q.name (field_decl q) (field_decl q)
      (reference ref.FieldOn q.name (on_type (class of)) [])
      (FindsFieldIn rows (scope_there c) of q.name) h

  abbrev pub MethodOnReceiver : Context → (at : ℕ) → MethodKey → List Ty → Choice → Type 0
  MethodOnReceiver c at q ts h = TakenChoice begins p.rows R
      (scope_there c) at q.name q.name (method_decl q) (method_decl q)
      (reference ref.MethodOn q.name (on_type (class of)) ts)
      (FindsMethodOf rows (scope_there c) of q.name ts) h

  -- A field by `super` is asked as `((K) r).x`, K being the class that declares it, whose name has to
  -- mean it there. It has no other spelling.
  abbrev pub NamesItsClass : Context → FieldKey → Type 0
  NamesItsClass c q = FindsTypeNamed rows (scope_there c) q.class.name
      (one (class_decl q.class))

  abbrev pub FindsOnCast : Context → FieldKey → Found → Type 0
  FindsOnCast c q f = (NamesItsClass c q
      × FindsFieldIn rows (scope_there c) q.class q.name f)
      ⊎ ((NamesItsClass c q → ⊥) × (f ≡ nothing))

  -- `super.` goes with what stands between it and the word
  abbrev pub on_cast : Span → FieldKey → tree.Word Span → Rewritten (tree.Exp Span)
  on_cast m q w = record {
    tree = tree.field m (front_tree m (by_cast q.class.name)) w;
    changes = change (record { from = m.from; to = w.mark.from }) (put_text (by_cast q.class.name))
        ∷ [];
    respelled = 0;
    losses = [];
  }

  abbrev pub lost_there : {T : Type 0} → T → (at : ℕ) → Decl → Found → Rewritten T
  lost_there t at d f = record {
    tree = t;
    changes = [];
    respelled = 0;
    losses = (record { at = at; declaration = d; found = f }) ∷ [];
  }

  abbrev pub SuperField : Context → Span → FieldKey → tree.Word Span → Rewritten (tree.Exp Span)
      → Type 0
  SuperField c m q w o = (FindsOnCast c q (one (field_decl q)) × (o ≡ on_cast m q w))
      ⊎ ((FindsOnCast c q (one (field_decl q)) → ⊥) × (f : Found) × FindsOnCast c q f
      × (o ≡ lost_there (tree.super_field m w) w.mark.from (field_decl q) f))

  -- ---- the spots

  -- it is by way of `this`
  abbrev pub IsByThis : Context → tree.Exp Span → Type 0
  IsByThis c (tree.this m) = Unit {0}
  IsByThis c (tree.name m w) = (q : FieldKey)
      × FindsVariable p.rows (scope_of c) w.text (one (field_decl q)) × IsInstanceDecl p.rows (field_decl q)
  IsByThis c (tree.call m tree.no_target w args) = (q : MethodKey)
      × CallFinds p.rows c tree.no_target w.text args (one (method_decl q))
      × IsInstanceDecl p.rows (method_decl q)
  IsByThis c (tree.super_field m w) = Unit {0}
  IsByThis c (tree.super_call m w args) = Unit {0}
  IsByThis c e = ⊥

  -- what it becomes, by these spots of its arguments; a method by `super` is always lost
  abbrev pub ByReceiver : (inside : Spotted Span) → Context → (base : ℕ) → tree.Exp Span
      → Rewritten (tree.Exp Span) → Type 0
  ByReceiver inside c base (tree.this m) o = o ≡ record {
    tree = receiver_tree m;
    changes = change m name ∷ [];
    respelled = 0;
    losses = [];
  }
  ByReceiver inside c base (tree.name m w) o = (q : FieldKey)
      × FindsVariable p.rows (scope_of c) w.text (one (field_decl q)) × IsInstanceDecl p.rows (field_decl q)
      × (h : Choice) × FieldOnReceiver c w.mark.from q h
      × (o ≡ put_in_front (λ e. tree.field m e w) m h w.mark)
  ByReceiver inside c base (tree.call m tree.no_target w args) o = (q : MethodKey) × (ts : List Ty)
      × CallFinds p.rows c tree.no_target w.text args (one (method_decl q))
      × IsInstanceDecl p.rows (method_decl q) × HaveTypes p.rows c args ts
      × (h : Choice) × MethodOnReceiver c w.mark.from q (R.types_now c args ts) h
      × (es : Rewritten (tree.Exps Span))
      × TransformsRow itself choices inside c (begins m base) args es
      × (o ≡ joined (λ t xs. tree.call m t w xs)
      (put_in_front (λ e. tree.on e) m h w.mark) es)
  ByReceiver inside c base (tree.super_field m w) o = (q : FieldKey)
      × SuperFieldFinds p.rows c w.text (one (field_decl q)) × SuperField c m q w o
  ByReceiver inside c base (tree.super_call m w args) o = (q : MethodKey)
      × SuperCallFinds p.rows c w.text args (one (method_decl q))
      × (es : Rewritten (tree.Exps Span))
      × TransformsRow itself choices inside c (begins m base) args es
      × (o ≡ joined (λ v xs. tree.super_call m v xs)
      (lost_there w w.mark.from (method_decl q) nothing) es)
  ByReceiver inside c base e o = ⊥

  abbrev pub spots_by : (Becomes : Context → (base : ℕ) → tree.Exp Span
      → Rewritten (tree.Exp Span) → Type 0) → Spots Span
  spots_by Becomes = record {
    part = λ k c r base e o. Becomes c base e o;
    part_stays = λ k c r base e. IsByThis c e → ⊥;
    list = λ n c base xs o. ⊥;
    list_stays = λ n c base xs. Unit {0};
    members = λ base of ys o. ⊥;
    members_stay = λ base of ys. Unit {0};
    whole = λ base outer d o. ⊥;
    whole_stays = λ base outer d. Unit {0};
    this_stays = ⊥;
  }

  -- calls that stand in arguments of one another, so deep
  abbrev pub receivers_in : (depth : ℕ) → Spotted Span
  receivers_in zero = spotted (spots_by (λ c base e o. ⊥))
  receivers_in (suc n) = spotted (spots_by (λ c base e o. ByReceiver (receivers_in n) c base e o))
