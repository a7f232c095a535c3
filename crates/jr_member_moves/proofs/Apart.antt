-- Where a member goes, where it comes, and at its calls through a class nothing is rewritten node by
-- node.
use Rattle.std.proofs.Common.{ℕ, zero, suc, Bool, true, false, List, Option}
use Rattle.std.specs.Prelude.{nat_eq}
use Rattle.jr_text.specs.declared.spans.Span.{Span}
use Rattle.jr_lex.specs.declared.items.Item.{Item}
use Rattle.jr_ast.specs.Tree as tree
use Rattle.jr_ast.specs.MemberTree as syntax
use Rattle.jr_table.specs.Keys.{ClassKey, MethodKey}
use Rattle.jr_table.specs.Decls.{MemberKey}
use Rattle.jr_table.specs.Context.{Context}
use Rattle.jr_table.specs.DeclaredItems.{DeclaredItem, declarations_of}
use Rattle.jr_bind.specs.Programs.{Program, units_of}
use Rattle.jr_rewrite.specs.Respellings.{Change}
use Rattle.jr_rewrite.specs.Rewritten.{Rewritten}
use Rattle.jr_rewrite.specs.Spots.{Spotted, SpotsAreApart}
use Rattle.jr_images.specs.Regions.{Region}
use Rattle.jr_local.specs.Bodies.{begins}
use Rattle.jr_member_moves.specs.Selecting.{Declared}
use Rattle.jr_member_moves.specs.Calls.{IsThroughClass, Calls, calls_in}
use Rattle.jr_member_parts.specs.Receivers.{depth_of}
use Rattle.jr_member_parts.specs.TwoPlaces.{TwoPlaces, spots_if}
use Rattle.jr_member_moves.specs.Moves.{Journey, upward, aside, Moved, IsHeld, IsNewClass, Goes, Comes, Call, IsNoCall, around, calls_of, places, put_change}
use Rattle.jr_member_moves.specs.PullUp.{key}
use Rattle.jr_member_parts.specs.Heads.{MethodTree}
use Rattle.jr_member_moves.specs.InstanceMoves as out
use Rattle.jr_member_moves.specs.Laws.{PullUpIsApart, MoveStaticIsApart, MoveInstanceIsApart}

-- ---- calls

module _ (p : Program Span) (moved : MemberKey) (to : ClassKey) (R : Region Span) where
  through : (inside : Spotted Span) (c : Context) (base : ℕ) (e : tree.Exp Span) (o : Rewritten (tree.Exp Span)) → Calls p moved to R inside c base e o → IsThroughClass p moved to c e
  through inside c base (tree.call m (tree.on e) w args) o h = h.0
  through inside c base (tree.call m tree.no_target w args) o h = h
  through inside c base e o h = h

  calls_apart : (n : ℕ) → SpotsAreApart (calls_in p moved to R n)
  calls_apart zero = record {
    part = λ k c r base e o spot stays. spot;
    list = λ n c base xs o spot stays. spot;
    members = λ base of ys o spot stays. spot;
    whole = λ base outer d o spot stays. spot;
  }
  calls_apart (suc n) = record {
    part = λ k c r base e o spot stays. stays (through (calls_in p moved to R n) c base e o spot);
    list = λ n c base xs o spot stays. spot;
    members = λ base of ys o spot stays. spot;
    whole = λ base outer d o spot stays. spot;
  }

-- ---- two places, of which either may stand within the other

module _ (t : TwoPlaces) (beside : SpotsAreApart t.beside)
    (part : (c : Context) (base : ℕ) (e : tree.Exp Span) (o : Rewritten (tree.Exp Span)) → t.Part c base e o → t.PartStays c e → ⊥)
    (held : (rest : Spotted Span) (base : ℕ) (of : ClassKey) (ys : syntax.Members Span) (o : Rewritten (syntax.Members Span)) → t.Goes rest base of ys o → t.IsHeld of ys)
    (new_class : (inside : Spotted Span) (base : ℕ) (outer : Option (List ℕ)) (d : syntax.Class Span) (o : Rewritten (syntax.Class Span)) → t.Comes inside base outer d o → t.IsNewClass outer d) where
  two_places_apart : (goes comes : Bool) → SpotsAreApart (spots_if t goes comes)
  two_places_apart true true = record {
    part = λ k c r base e o spot stays. part c base e o spot stays;
    list = λ n c base xs o spot stays. spot;
    members = λ base of ys o spot stays. stays (held _ base of ys o spot);
    whole = λ base outer d o spot stays. stays (new_class _ base outer d o spot);
  }
  two_places_apart true false = record {
    part = λ k c r base e o spot stays. part c base e o spot stays;
    list = λ n c base xs o spot stays. spot;
    members = λ base of ys o spot stays. stays (held _ base of ys o spot);
    whole = λ base outer d o spot stays. spot;
  }
  two_places_apart false true = record {
    part = λ k c r base e o spot stays. part c base e o spot stays;
    list = λ n c base xs o spot stays. spot;
    members = λ base of ys o spot stays. spot;
    whole = λ base outer d o spot stays. stays (new_class _ base outer d o spot);
  }
  two_places_apart false false = beside

-- ---- a member goes to another class

module _ (p : Program Span) (file at : ℕ) (x : Declared p file at) (to : ClassKey) where
  call_apart : (j : Journey) (c : Context) (base : ℕ) (e : tree.Exp Span) (o : Rewritten (tree.Exp Span)) → Call p file at x to j j c base e o → IsNoCall p file at x to j j c e → ⊥
  call_apart upward c base e o spot stays = spot
  call_apart aside c base e o spot stays =
      stays (through p x.member.key to (around p file at x to aside) _ c base e o spot)

  of_calls : (j : Journey) (R : Region Span) → SpotsAreApart (calls_of p file at x to j j R)
  of_calls upward R = tt
  of_calls aside R = calls_apart p x.member.key to R (depth_of p)

module _ (p : Program Span) (file at : ℕ) (x : Declared p file at) (to : ClassKey) (j : Journey) (text : List ℕ) (items : List Item) (m : Moved p file at x to j text items) (gone : Span)
    (put : Change) (declarations : List DeclaredItem) where
  held : (rest : Spotted Span) (base : ℕ) (of : ClassKey) (ys : syntax.Members Span) (o : Rewritten (syntax.Members Span)) → Goes p file at x to j m gone put declarations rest base of ys o
      → IsHeld p file at x to j of ys
  held rest base of syntax.end o w = w
  held rest base of (syntax.more y ys) o w = w.0

  new_class : (inside : Spotted Span) (base : ℕ) (outer : Option (List ℕ)) (d : syntax.Class Span) (o : Rewritten (syntax.Class Span))
      → Comes p file at x to j m gone put declarations inside base outer d o → IsNewClass p file at x to j outer d
  new_class inside base outer (syntax.class k mods w t ms) o h = h.0

  moved_apart : (goes comes : Bool) → SpotsAreApart (spots_if (places p file at x to j m gone put declarations) goes comes)
  moved_apart = two_places_apart (places p file at x to j m gone put declarations) (of_calls p file at x to j (around p file at x to j))
      (λ c base e o spot stays. call_apart p file at x to j c base e o spot stays)
      (λ rest base of ys o spot. held rest base of ys o spot)
      (λ inside base outer d o spot. new_class inside base outer d o spot)

pub pull_up_is_apart : PullUpIsApart
pull_up_is_apart p file at f n =
    moved_apart p file at f.declared (key p file at f) upward f.carried.text f.carried.items f.carried.moved f.carried.gone (put_change p file at f.declared (key p file at f) upward f.carried)
    (declarations_of begins (units_of p)) (nat_eq n file) (nat_eq n f.carried.written.class.file)

pub move_static_is_apart : MoveStaticIsApart
move_static_is_apart p file at text f n =
    moved_apart p file at f.asked.declared f.other.key aside f.carried.text f.carried.items f.carried.moved f.carried.gone (put_change p file at f.asked.declared f.other.key aside f.carried)
    (declarations_of begins (units_of p)) (nat_eq n file) (nat_eq n f.carried.written.class.file)

-- ---- move instance

module _ (p : Program Span) (file at : ℕ) (x : Declared p file at) (old : MethodKey) (parts : MethodTree) (to : ClassKey) (name : List ℕ) {items : List Item}
    (m : out.Moved p file at x old parts to name items) (declarations : List DeclaredItem) (put : Change) where
  calls_out : (rest : Spotted Span) (base : ℕ) (of : ClassKey) (ys : syntax.Members Span) (o : Rewritten (syntax.Members Span)) → out.Goes p file at x old parts to name m declarations put rest base of ys o
      → out.IsHeld p file at x old parts to name m of ys
  calls_out rest base of syntax.end o w = w
  calls_out rest base of (syntax.more y ys) o w = w.0

  comes_in : (inside : Spotted Span) (base : ℕ) (outer : Option (List ℕ)) (d : syntax.Class Span) (o : Rewritten (syntax.Class Span))
      → out.Comes p file at x old parts to name m declarations put inside base outer d o → out.IsNewClass p file at x old parts to name m outer d
  comes_in inside base outer (syntax.class k mods w t ms) o h = h.0

  out_apart : (goes comes : Bool) → SpotsAreApart (spots_if (out.places p file at x old parts to name m declarations put) goes comes)
  out_apart = two_places_apart (out.places p file at x old parts to name m declarations put) tt
      (λ c base e o spot stays. spot)
      (λ rest base of ys o spot. calls_out rest base of ys o spot)
      (λ inside base outer d o spot. comes_in inside base outer d o spot)

pub move_instance_is_apart : MoveInstanceIsApart
move_instance_is_apart p file at text name f n =
    out_apart p file at f.asked.declared f.asked.key f.asked.parts f.other.key name f.carried.moved (declarations_of begins (units_of p))
    (out.put_change p file at f.asked.declared f.asked.key f.asked.parts f.other.key name f.carried) (nat_eq n file) (nat_eq n f.carried.written.class.file)
