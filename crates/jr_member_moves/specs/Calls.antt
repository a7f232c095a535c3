-- Calls, through a class, of a static method that goes to another class: the class in front is asked
-- as the new one (JLS 6.5.2, 15.12.1). Each such call is a spot, and within its arguments others are.
use Rattle.std.specs.Prelude.{◌≡◌, ℕ, zero, suc, List, [], ◌∷◌, ◌++◌, Option, Some, None, if◌then◌else◌}
use Rattle.jr_text.specs.declared.spans.Span.{Span}
use Rattle.jr_ast.specs.Tree as tree
use Rattle.jr_ast.specs.Marks.{exp_mark}
use Rattle.jr_grammar.specs.Layout.{itself}
use Rattle.jr_table.specs.Keys.{ClassKey, Ty}
use Rattle.jr_table.specs.Decls.{MemberKey, Decl, class_decl}
use Rattle.jr_table.specs.SameKeys.{same_name}
use Rattle.jr_table.specs.Found.{one}
use Rattle.jr_table.specs.Lookup.{FindsLeft, FindsMethodOf}
use Rattle.jr_table.specs.Context.{Context}
use Rattle.jr_table.specs.Binding.{IsClassName, HaveTypes, CallFinds}
use Rattle.jr_members.specs.WrittenMembers.{decl_of_member}
use Rattle.jr_spell.specs.declared.references.RefForm.TheVariants as ref
use Rattle.jr_bind.specs.Programs.{Program}
use Rattle.jr_rewrite.specs.Respellings.{Choice, stays, becomes, loses, front_text}
use Rattle.jr_rewrite.specs.Rewritten.{
  Rewritten,
  plain,
  joined,
  change,
  count_of,
  new_word,
  operand_to,
  variable_on,
  Called,
  dotted_call_out,
}
use Rattle.jr_rewrite.specs.Spots.{Spots, Spotted, spotted}
use Rattle.jr_rewrite.specs.Rewrites.{Choosing, TransformsRow}
use Rattle.jr_images.specs.Words.{InFront, FindsBehind, FirstWord}
use Rattle.jr_images.specs.Regions.{Region}
use Rattle.jr_images.specs.Spelling.{TakenChoice, choosing, there, reference, behind_words, operand_of}
use Rattle.jr_local.specs.Bodies.{begins}
use Rattle.jr_member_parts.specs.InTheWay.{in_class}

-- ---- the class in front

-- the last word of a class's name
abbrev pub last_word : tree.Exp Span → Option (tree.Word Span)
last_word (tree.name m w) = Some w
last_word (tree.field m e w) = Some w
last_word e = None

abbrev pub front_word : Span → (name : List ℕ) → Rewritten (tree.Exp Span)
front_word m name = record {
  tree = tree.name m (new_word m name);
  changes = change m name ∷ [];
  respelled = 0;
  losses = [];
}

-- as it is asked: the one word, which stays where it stands there
abbrev pub asked_front : (name : List ℕ) → tree.Exp Span → Rewritten (tree.Exp Span)
asked_front name (tree.name m w) =
    if same_name w.text name then plain (tree.name m w) else front_word m name
asked_front name e = front_word (exp_mark e) name

abbrev pub front_out : Choice → (name : List ℕ) → tree.Exp Span → Rewritten (tree.Exp Span)
front_out stays name e = asked_front name e
front_out (becomes r) name e = record {
  tree = variable_on (exp_mark e) (operand_to (exp_mark e) r.front None)
      (new_word (exp_mark e) r.text);
  changes = change (exp_mark e) (front_text r.front ++ r.text) ∷ [];
  respelled = count_of (becomes r);
  losses = [];
}
front_out (loses l) name e = record { tree = e; changes = []; respelled = 0; losses = l ∷ [] }

-- ---- the calls

module _ (p : Program Span) (moved : MemberKey) (to : ClassKey) where
  abbrev pub image : Decl
  image = decl_of_member (in_class to moved)

  -- it is a call of the method through a class
  abbrev pub IsThroughClass : Context → tree.Exp Span → Type 0
  IsThroughClass c (tree.call m (tree.on e) w args) =
      CallFinds p.rows c (tree.on e) w.text args (one (decl_of_member moved))
      × (k : ClassKey) × IsClassName p.rows c e k
  IsThroughClass c e = ⊥

  module _ (R : Region Span) where
    abbrev pub choices : Choosing Span
    choices = choosing begins p.rows R (λ (c : Context). p.super_at c.member)

    -- the new class in front, which is told as the old one where it has no spelling
    abbrev pub FrontChoice : Context → (at : ℕ) → (old : ClassKey) → InFront → Choice → Type 0
    FrontChoice c at old v h = TakenChoice begins p.rows R (there begins p.rows R c) at to.name
        to.name (class_decl old) (class_decl to)
        (behind_words v (reference ref.ClassInFront to.name None []))
        (FindsLeft R.seen.images.rows (there begins p.rows R c) to.name) h

    abbrev pub NewFront : Context → tree.Exp Span → InFront → Rewritten (tree.Exp Span) → Type 0
    NewFront c e v o = (k : ClassKey) × IsClassName p.rows c e k
        × (w : tree.Word Span) × (last_word e ≡ Some w)
        × (h : Choice) × FrontChoice c w.mark.from k v h × (o ≡ front_out h to.name e)

    -- the method's name behind it
    abbrev pub NameChoice : Context → (at : ℕ) → (name : List ℕ) → tree.Exps Span → InFront
        → Choice → Type 0
    NameChoice c at name args v h = (ts : List Ty) × HaveTypes p.rows c args ts
        × TakenChoice begins p.rows R (there begins p.rows R c) at name name
        (decl_of_member moved) image
        (behind_words v (reference ref.ThroughClass name (operand_of to) (R.types_now c args ts)))
        (FindsBehind v (λ (k : ClassKey) f. FindsMethodOf R.seen.images.rows
        (there begins p.rows R c) k name (R.types_now c args ts) f)) h

    -- what such a call becomes, by these spots of its arguments
    abbrev pub Calls : (inside : Spotted Span) → Context → (base : ℕ) → tree.Exp Span
        → Rewritten (tree.Exp Span) → Type 0
    Calls inside c base (tree.call m (tree.on e) w args) o =
        IsThroughClass c (tree.call m (tree.on e) w args)
        × (v : InFront) × FirstWord R.seen c to v
        × (f : Rewritten (tree.Exp Span)) × NewFront c e v f
        × (h : Choice) × NameChoice c w.mark.from w.text args v h
        × (q : Rewritten (tree.Exps Span))
        × TransformsRow itself choices inside c (begins m base) args q
        × (o ≡ joined (λ (t : Called itself) es. tree.call m t.target t.word es)
        (dotted_call_out itself h m base e f w) q)
    Calls inside c base e o = ⊥

    -- ---- the spots

    abbrev pub call_spots : (Becomes : Context → (base : ℕ) → tree.Exp Span
        → Rewritten (tree.Exp Span) → Type 0) → Spots Span
    call_spots Becomes = record {
      part = λ k c r base e o. Becomes c base e o;
      part_stays = λ k c r base e. IsThroughClass c e → ⊥;
      list = λ n c base xs o. ⊥;
      list_stays = λ n c base xs. Unit {0};
      members = λ base of ys o. ⊥;
      members_stay = λ base of ys. Unit {0};
      whole = λ base outer d o. ⊥;
      whole_stays = λ base outer d. Unit {0};
      this_stays = Unit {0};
    }

    -- calls that stand in arguments of one another, so deep
    abbrev pub calls_in : (depth : ℕ) → Spotted Span
    calls_in zero = spotted (call_spots (λ c base e o. ⊥))
    calls_in (suc n) = spotted (call_spots (λ c base e o. Calls (calls_in n) c base e o))
