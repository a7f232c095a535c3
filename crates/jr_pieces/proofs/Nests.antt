-- Trees that stand in tokens, each of a byte or more, have nested spans.
use Rattle.std.proofs.Common.{◌≡◌, ◌⊎◌, ℕ, ◌<◌, ◌≤◌, [], ◌∷◌, ◌++◌, Some, None, refl, sym, ◌∙◌, ap, subst, inl, inr, arith}
use Rattle.jr_text.specs.declared.spans.Span.{Span}
use Rattle.jr_ast.specs.declared.operators.BumpOp.TheVariants.{PreInc, PreDec, PostInc, PostDec}
use Rattle.jr_ast.specs.Tree as tree
use Rattle.jr_ast.specs.StatementTree as statement
use Rattle.jr_grammar.specs.Tokens.{Token}
use Rattle.jr_grammar.specs.Layout.{spans_from}
use Rattle.jr_grammar.specs.ExpressionLayout.{exp_layout, args_layout, more_args_layout}
use Rattle.jr_grammar.specs.StatementLayout.{stmt_layout, stmts_layout}
use Rattle.jr_grammar.specs.Stands.{Tokens, first_from, last_to, span_of, IsAlone, InOrder, Stands}
use Rattle.jr_pieces.specs.Finding.{exp_span, stmt_span}
use Rattle.jr_pieces.specs.Nesting.{Within, ExpNested, PartNested, PartsNested, StmtNested, StepNested, ListNested, Rising, end_from, StandingListsAreNested}
use Rattle.jr_pieces.proofs.Finds.{from_earlier}

-- ---- runs of tokens

abbrev HasToken : Tokens → Type 0
HasToken [] = ⊥
HasToken (p ∷ ps) = Unit {0}

rises : (lo : ℕ) (ps : Tokens) → Rising lo ps → lo ≤ end_from lo ps
rises lo [] r = omega arith
rises lo (p ∷ ps) (a, b, r) = omega (arith, a, b, rises p.mark.to ps r)

-- with a token, further than it began
rises_more : (lo : ℕ) (ps : Tokens) → HasToken ps → Rising lo ps → lo < end_from lo ps
rises_more lo [] h r = absurd h
rises_more lo (p ∷ ps) h (a, b, r) = omega (arith, a, b, rises p.mark.to ps r)

last_is_end : (lo : ℕ) (ps : Tokens) → HasToken ps → last_to ps ≡ end_from lo ps
last_is_end lo [] h = absurd h
last_is_end lo (p ∷ []) h = refl
last_is_end lo (p ∷ q ∷ ps) h = last_is_end p.mark.to (q ∷ ps) tt

first_is_later : (lo : ℕ) (ps : Tokens) → HasToken ps → Rising lo ps → lo ≤ first_from ps
first_is_later lo [] h r = absurd h
first_is_later lo (p ∷ ps) h (a, b, r) = a

first_is_before : (lo : ℕ) (ps : Tokens) → HasToken ps → Rising lo ps → first_from ps < end_from lo ps
first_is_before lo [] h r = absurd h
first_is_before lo (p ∷ ps) h (a, b, r) = omega (arith, b, rises p.mark.to ps r)

from_the_first : (lo : ℕ) (ps : Tokens) → HasToken ps → Rising lo ps → Rising (first_from ps) ps
from_the_first lo [] h r = absurd h
from_the_first lo (p ∷ ps) h (a, b, r) = (omega arith, b, r)

front_rises : (lo : ℕ) (a b : Tokens) → Rising lo (a ++ b) → Rising lo a
front_rises lo [] b r = tt
front_rises lo (p ∷ a) b (x, y, r) = (x, y, front_rises p.mark.to a b r)

back_rises : (lo : ℕ) (a b : Tokens) → Rising lo (a ++ b) → Rising (end_from lo a) b
back_rises lo [] b r = r
back_rises lo (p ∷ a) b (x, y, r) = back_rises p.mark.to a b r

end_of_both : (lo : ℕ) (a b : Tokens) → end_from lo (a ++ b) ≡ end_from (end_from lo a) b
end_of_both lo [] b = refl
end_of_both lo (p ∷ a) b = end_of_both p.mark.to a b

front_has : (a b : Tokens) → HasToken a → HasToken (a ++ b)
front_has [] b h = absurd h
front_has (p ∷ a) b h = tt

back_has : (a b : Tokens) → HasToken b → HasToken (a ++ b)
back_has [] b h = h
back_has (p ∷ a) b h = tt

alone_has : (t : Token) (ps : Tokens) → IsAlone t ps → HasToken ps
alone_has t ps h = subst HasToken (sym h.alone) tt

module _ {F R : Tokens → Type 0} {ps : Tokens} (h : InOrder F R ps) where
  by_front : HasToken h.front → HasToken ps
  by_front x = subst HasToken (sym h.whole) (front_has h.front h.back x)

  by_back : HasToken h.back → HasToken ps
  by_back x = subst HasToken (sym h.whole) (back_has h.front h.back x)

begins_with : {t : Token} {R : Tokens → Type 0} {ps : Tokens} → InOrder (IsAlone t) R ps → HasToken ps
begins_with {t = t} h = by_front h (alone_has t h.front h.first)

-- ---- room within a node

-- tokens from the place on, which end within the span
record Room (whole : Span) (lo : ℕ) (ps : Tokens) : Type 0 where
  low : whole.from ≤ lo
  rising : Rising lo ps
  ends : end_from lo ps ≤ whole.to

whole_room : (m : Span) (lo : ℕ) (ps : Tokens) → m ≡ span_of ps → HasToken ps → Rising lo ps → Room m m.from ps
whole_room m lo ps e h r = subst (λ (x : Span). Room x x.from ps) (sym e) (record {
  low = omega arith;
  rising = from_the_first lo ps h r;
  ends = omega (arith, last_is_end (first_from ps) ps h);
})

-- what the parts that stand in front and behind have
module _ {F R : Tokens → Type 0} {ps : Tokens} (h : InOrder F R ps) (whole : Span) (lo : ℕ) (room : Room whole lo ps) where
  both_rise : Rising lo (h.front ++ h.back)
  both_rise = subst (Rising lo) h.whole room.rising

  both_end : end_from (end_from lo h.front) h.back ≤ whole.to
  both_end = omega (arith, room.ends, ap (end_from lo) h.whole, end_of_both lo h.front h.back)

  back_room : Room whole (end_from lo h.front) h.back
  back_room = record {
    low = omega (arith, room.low, rises lo h.front (front_rises lo h.front h.back both_rise));
    rising = back_rises lo h.front h.back both_rise;
    ends = both_end;
  }

  front_room : Room whole lo h.front
  front_room = record {
    low = room.low;
    rising = front_rises lo h.front h.back both_rise;
    ends = omega (arith, both_end, rises (end_from lo h.front) h.back (back_rises lo h.front h.back both_rise));
  }

  -- behind it, further than in front of it
  still_past : whole.from < lo → whole.from < end_from lo h.front
  still_past l = omega (arith, l, rises lo h.front front_room.rising)

  past_front : HasToken h.front → whole.from < end_from lo h.front
  past_front x = omega (arith, room.low, rises_more lo h.front x front_room.rising)

  -- something stands behind the front
  ends_early : HasToken h.back → end_from lo h.front < whole.to
  ends_early x = omega (arith, both_end, rises_more (end_from lo h.front) h.back x (back_rises lo h.front h.back both_rise))

past_token : {t : Token} {R : Tokens → Type 0} {ps : Tokens} (h : InOrder (IsAlone t) R ps) (whole : Span) (lo : ℕ) (room : Room whole lo ps)
    → whole.from < end_from lo h.front
past_token {t = t} h whole lo room = past_front h whole lo room (alone_has t h.front h.first)

-- a part that stands in all of these tokens
record Run (part : Span) (ps : Tokens) : Type 0 where
  is : part ≡ span_of ps
  has : HasToken ps

run_within : (whole part : Span) (lo : ℕ) (ps : Tokens) → Run part ps → Room whole lo ps → (whole.from < lo) ⊎ (end_from lo ps < whole.to)
    → Within lo part whole
run_within whole part lo ps run room more = subst (λ (x : Span). Within lo x whole) (sym run.is) (record {
  from = first_is_later lo ps run.has room.rising;
  ordered = omega (arith, first_is_before lo ps run.has room.rising, last_is_end lo ps run.has);
  starts = omega (arith, room.low, first_is_later lo ps run.has room.rising);
  ends = omega (arith, room.ends, last_is_end lo ps run.has);
  more = by more;
})
  where
    by : (whole.from < lo) ⊎ (end_from lo ps < whole.to) → (whole.from < first_from ps) ⊎ (last_to ps < whole.to)
    by (inl l) = inl (omega (arith, l, first_is_later lo ps run.has room.rising))
    by (inr l) = inr (omega (arith, l, last_is_end lo ps run.has))

run_ends : (part : Span) (lo : ℕ) (ps : Tokens) → Run part ps → part.to ≡ end_from lo ps
run_ends part lo ps run = ap (λ (x : Span). x.to) run.is ∙ last_is_end lo ps run.has

-- ---- nodes are runs

module _ {A : Type 0} (tells : A → ℕ → Span) where
  abbrev StandsAs : (base : ℕ) → tree.Exp A → Tokens → Type 0
  StandsAs base e ps = Stands (spans_from tells base (exp_layout e)) ps

  exp_run : (e : tree.Exp A) (base : ℕ) (ps : Tokens) → StandsAs base e ps → Run (exp_span tells base e) ps
  exp_run (tree.number m n) base ps h = record { is = h.mark; has = begins_with h.parts }
  exp_run (tree.truth m b) base ps h = record { is = h.mark; has = begins_with h.parts }
  exp_run (tree.null m) base ps h = record { is = h.mark; has = begins_with h.parts }
  exp_run (tree.string m t) base ps h = record { is = h.mark; has = begins_with h.parts }
  exp_run (tree.super_field m w) base ps h = record { is = h.mark; has = begins_with h.parts }
  exp_run (tree.this m) base ps h = record { is = h.mark; has = begins_with h.parts }
  exp_run (tree.super_call m w es) base ps h = record { is = h.mark; has = begins_with h.parts }
  exp_run (tree.create m t es) base ps h = record { is = h.mark; has = begins_with h.parts }
  exp_run (tree.paren m e) base ps h = record { is = h.mark; has = begins_with h.parts }
  exp_run (tree.cast m t e) base ps h = record { is = h.mark; has = begins_with h.parts }
  exp_run (tree.unary m o e) base ps h = record { is = h.mark; has = begins_with h.parts }
  exp_run (tree.bump m PreInc e) base ps h = record { is = h.mark; has = begins_with h.parts }
  exp_run (tree.bump m PreDec e) base ps h = record { is = h.mark; has = begins_with h.parts }
  exp_run (tree.name m w) base ps h = record { is = h.mark; has = by_front h.parts (begins_with h.parts.first.parts) }
  exp_run (tree.field m e w) base ps h = record { is = h.mark; has = by_back h.parts (begins_with h.parts.rest) }
  exp_run (tree.class_literal m t) base ps h = record { is = h.mark; has = by_back h.parts (begins_with h.parts.rest) }
  exp_run (tree.bump m PostInc e) base ps h = record { is = h.mark; has = by_back h.parts (begins_with h.parts.rest) }
  exp_run (tree.bump m PostDec e) base ps h = record { is = h.mark; has = by_back h.parts (begins_with h.parts.rest) }
  exp_run (tree.binary m o l r) base ps h = record { is = h.mark; has = by_back h.parts (begins_with h.parts.rest) }
  exp_run (tree.assign m l r) base ps h = record { is = h.mark; has = by_back h.parts (begins_with h.parts.rest) }
  exp_run (tree.compound m o l r) base ps h = record { is = h.mark; has = by_back h.parts (begins_with h.parts.rest) }
  exp_run (tree.call m to w es) base ps h = record { is = h.mark; has = by_back h.parts (by_front h.parts.rest (begins_with h.parts.rest.first.parts)) }

  -- an expression behind the node's first byte, or with something behind it
  module _ {R : Tokens → Type 0} {ps : Tokens} (whole : Span) (lo : ℕ) (e : tree.Exp A) (h : InOrder (StandsAs whole.from e) R ps) (room : Room whole lo ps) where
    exp_past : (mid : ℕ) → mid ≤ lo → whole.from < lo → ExpNested tells whole.from e → PartNested tells whole mid e
    exp_past mid l p n = (
      from_earlier mid lo (exp_span tells whole.from e) whole l (run_within whole (exp_span tells whole.from e) lo h.front (exp_run e whole.from h.front h.first) (front_room h whole lo room) (inl p)),
      n,
    )

    exp_before : HasToken h.back → ExpNested tells whole.from e → PartNested tells whole whole.from e
    exp_before x n = (
      from_earlier whole.from lo (exp_span tells whole.from e) whole room.low
          (run_within whole (exp_span tells whole.from e) lo h.front (exp_run e whole.from h.front h.first) (front_room h whole lo room) (inr (ends_early h whole lo room x))),
      n,
    )

    -- where it ends
    exp_to : (exp_span tells whole.from e).to ≡ end_from lo h.front
    exp_to = run_ends (exp_span tells whole.from e) lo h.front (exp_run e whole.from h.front h.first)

  parts_from_earlier : (whole : Span) (lo mid : ℕ) (es : tree.Exps A) → lo ≤ mid → PartsNested tells whole mid es → PartsNested tells whole lo es
  parts_from_earlier whole lo mid tree.end l n = tt
  parts_from_earlier whole lo mid (tree.more e es) l ((w, x), n) = ((from_earlier lo mid (exp_span tells whole.from e) whole l w, x), n)

  mutual
    exp_nested : (e : tree.Exp A) (base lo : ℕ) (ps : Tokens) → StandsAs base e ps → Rising lo ps → ExpNested tells base e
    exp_nested (tree.number m n) base lo ps h r = tt
    exp_nested (tree.truth m b) base lo ps h r = tt
    exp_nested (tree.null m) base lo ps h r = tt
    exp_nested (tree.string m t) base lo ps h r = tt
    exp_nested (tree.name m w) base lo ps h r = tt
    exp_nested (tree.super_field m w) base lo ps h r = tt
    exp_nested (tree.this m) base lo ps h r = tt
    exp_nested (tree.class_literal m t) base lo ps h r = tt
    exp_nested (tree.field m e w) base lo ps h r =
        let room = whole_room (tells m base) lo ps h.mark (exp_run (tree.field m e w) base ps h).has r in
        exp_before (tells m base) (tells m base).from e h.parts room (begins_with h.parts.rest) (exp_nested e (tells m base).from (tells m base).from h.parts.front h.parts.first (front_room h.parts (tells m base) (tells m base).from room).rising)
    exp_nested (tree.bump m PostInc e) base lo ps h r =
        let room = whole_room (tells m base) lo ps h.mark (exp_run (tree.bump m PostInc e) base ps h).has r in
        exp_before (tells m base) (tells m base).from e h.parts room (begins_with h.parts.rest) (exp_nested e (tells m base).from (tells m base).from h.parts.front h.parts.first (front_room h.parts (tells m base) (tells m base).from room).rising)
    exp_nested (tree.bump m PostDec e) base lo ps h r =
        let room = whole_room (tells m base) lo ps h.mark (exp_run (tree.bump m PostDec e) base ps h).has r in
        exp_before (tells m base) (tells m base).from e h.parts room (begins_with h.parts.rest) (exp_nested e (tells m base).from (tells m base).from h.parts.front h.parts.first (front_room h.parts (tells m base) (tells m base).from room).rising)
    exp_nested (tree.paren m e) base lo ps h r =
        let room = whole_room (tells m base) lo ps h.mark (exp_run (tree.paren m e) base ps h).has r in
        let back = back_room h.parts (tells m base) (tells m base).from room in
        exp_past (tells m base) (end_from (tells m base).from h.parts.front) e h.parts.rest back (tells m base).from back.low (past_token h.parts (tells m base) (tells m base).from room)
        (exp_nested e (tells m base).from (end_from (tells m base).from h.parts.front) h.parts.rest.front h.parts.rest.first (front_room h.parts.rest (tells m base) (end_from (tells m base).from h.parts.front) back).rising)
    exp_nested (tree.unary m o e) base lo ps h r =
        let room = whole_room (tells m base) lo ps h.mark (exp_run (tree.unary m o e) base ps h).has r in
        let back = back_room h.parts (tells m base) (tells m base).from room in
        exp_past (tells m base) (end_from (tells m base).from h.parts.front) e h.parts.rest back (tells m base).from back.low (past_token h.parts (tells m base) (tells m base).from room)
        (exp_nested e (tells m base).from (end_from (tells m base).from h.parts.front) h.parts.rest.front h.parts.rest.first (front_room h.parts.rest (tells m base) (end_from (tells m base).from h.parts.front) back).rising)
    exp_nested (tree.bump m PreInc e) base lo ps h r =
        let room = whole_room (tells m base) lo ps h.mark (exp_run (tree.bump m PreInc e) base ps h).has r in
        let back = back_room h.parts (tells m base) (tells m base).from room in
        exp_past (tells m base) (end_from (tells m base).from h.parts.front) e h.parts.rest back (tells m base).from back.low (past_token h.parts (tells m base) (tells m base).from room)
        (exp_nested e (tells m base).from (end_from (tells m base).from h.parts.front) h.parts.rest.front h.parts.rest.first (front_room h.parts.rest (tells m base) (end_from (tells m base).from h.parts.front) back).rising)
    exp_nested (tree.bump m PreDec e) base lo ps h r =
        let room = whole_room (tells m base) lo ps h.mark (exp_run (tree.bump m PreDec e) base ps h).has r in
        let back = back_room h.parts (tells m base) (tells m base).from room in
        exp_past (tells m base) (end_from (tells m base).from h.parts.front) e h.parts.rest back (tells m base).from back.low (past_token h.parts (tells m base) (tells m base).from room)
        (exp_nested e (tells m base).from (end_from (tells m base).from h.parts.front) h.parts.rest.front h.parts.rest.first (front_room h.parts.rest (tells m base) (end_from (tells m base).from h.parts.front) back).rising)
    exp_nested (tree.cast m t e) base lo ps h r =
        let room = whole_room (tells m base) lo ps h.mark (exp_run (tree.cast m t e) base ps h).has r in
        let p1 = h.parts in let lo1 = end_from (tells m base).from p1.front in let room1 = back_room p1 (tells m base) (tells m base).from room in
        let p2 = p1.rest in let lo2 = end_from lo1 p2.front in let room2 = back_room p2 (tells m base) lo1 room1 in
        let p3 = p2.rest in let lo3 = end_from lo2 p3.front in let room3 = back_room p3 (tells m base) lo2 room2 in
        exp_past (tells m base) lo3 e p3.rest room3 (tells m base).from room3.low (still_past p3 (tells m base) lo2 room2 (still_past p2 (tells m base) lo1 room1 (past_token p1 (tells m base) (tells m base).from room)))
        (exp_nested e (tells m base).from lo3 p3.rest.front p3.rest.first (front_room p3.rest (tells m base) lo3 room3).rising)
    exp_nested (tree.binary m o l r) base lo ps h up =
        let room = whole_room (tells m base) lo ps h.mark (exp_run (tree.binary m o l r) base ps h).has up in
        let p1 = h.parts in let lo1 = end_from (tells m base).from p1.front in let room1 = back_room p1 (tells m base) (tells m base).from room in
        let p2 = p1.rest in let lo2 = end_from lo1 p2.front in let room2 = back_room p2 (tells m base) lo1 room1 in (
          exp_before (tells m base) (tells m base).from l p1 room (begins_with p1.rest) (exp_nested l (tells m base).from (tells m base).from p1.front p1.first (front_room p1 (tells m base) (tells m base).from room).rising),
          exp_past (tells m base) lo2 r p2.rest room2 (exp_span tells (tells m base).from l).to (omega (arith, exp_to (tells m base) (tells m base).from l p1 room, rises lo1 p2.front (front_room p2 (tells m base) lo1 room1).rising))
              (past_token p2 (tells m base) lo1 room1) (exp_nested r (tells m base).from lo2 p2.rest.front p2.rest.first (front_room p2.rest (tells m base) lo2 room2).rising),
        )
    exp_nested (tree.assign m l r) base lo ps h up =
        let room = whole_room (tells m base) lo ps h.mark (exp_run (tree.assign m l r) base ps h).has up in
        let p1 = h.parts in let lo1 = end_from (tells m base).from p1.front in let room1 = back_room p1 (tells m base) (tells m base).from room in
        let p2 = p1.rest in let lo2 = end_from lo1 p2.front in let room2 = back_room p2 (tells m base) lo1 room1 in (
          exp_before (tells m base) (tells m base).from l p1 room (begins_with p1.rest) (exp_nested l (tells m base).from (tells m base).from p1.front p1.first (front_room p1 (tells m base) (tells m base).from room).rising),
          exp_past (tells m base) lo2 r p2.rest room2 (exp_span tells (tells m base).from l).to (omega (arith, exp_to (tells m base) (tells m base).from l p1 room, rises lo1 p2.front (front_room p2 (tells m base) lo1 room1).rising))
              (past_token p2 (tells m base) lo1 room1) (exp_nested r (tells m base).from lo2 p2.rest.front p2.rest.first (front_room p2.rest (tells m base) lo2 room2).rising),
        )
    exp_nested (tree.compound m o l r) base lo ps h up =
        let room = whole_room (tells m base) lo ps h.mark (exp_run (tree.compound m o l r) base ps h).has up in
        let p1 = h.parts in let lo1 = end_from (tells m base).from p1.front in let room1 = back_room p1 (tells m base) (tells m base).from room in
        let p2 = p1.rest in let lo2 = end_from lo1 p2.front in let room2 = back_room p2 (tells m base) lo1 room1 in (
          exp_before (tells m base) (tells m base).from l p1 room (begins_with p1.rest) (exp_nested l (tells m base).from (tells m base).from p1.front p1.first (front_room p1 (tells m base) (tells m base).from room).rising),
          exp_past (tells m base) lo2 r p2.rest room2 (exp_span tells (tells m base).from l).to (omega (arith, exp_to (tells m base) (tells m base).from l p1 room, rises lo1 p2.front (front_room p2 (tells m base) lo1 room1).rising))
              (past_token p2 (tells m base) lo1 room1) (exp_nested r (tells m base).from lo2 p2.rest.front p2.rest.first (front_room p2.rest (tells m base) lo2 room2).rising),
        )
    exp_nested (tree.super_call m w es) base lo ps h r =
        let room = whole_room (tells m base) lo ps h.mark (exp_run (tree.super_call m w es) base ps h).has r in
        let p1 = h.parts in let lo1 = end_from (tells m base).from p1.front in let room1 = back_room p1 (tells m base) (tells m base).from room in
        let p2 = p1.rest in let lo2 = end_from lo1 p2.front in let room2 = back_room p2 (tells m base) lo1 room1 in
        let p3 = p2.rest in let lo3 = end_from lo2 p3.front in let room3 = back_room p3 (tells m base) lo2 room2 in
        let p4 = p3.rest in let lo4 = end_from lo3 p4.front in let room4 = back_room p4 (tells m base) lo3 room3 in
        parts_from_earlier (tells m base) (tells m base).from lo4 es room4.low (parts_nested es (tells m base) lo4 p4.rest.front p4.rest.first (past_token p4 (tells m base) lo3 room3) (front_room p4.rest (tells m base) lo4 room4))
    exp_nested (tree.create m t es) base lo ps h r =
        let room = whole_room (tells m base) lo ps h.mark (exp_run (tree.create m t es) base ps h).has r in
        let p1 = h.parts in let lo1 = end_from (tells m base).from p1.front in let room1 = back_room p1 (tells m base) (tells m base).from room in
        let p2 = p1.rest in let lo2 = end_from lo1 p2.front in let room2 = back_room p2 (tells m base) lo1 room1 in
        let p3 = p2.rest in let lo3 = end_from lo2 p3.front in let room3 = back_room p3 (tells m base) lo2 room2 in
        parts_from_earlier (tells m base) (tells m base).from lo3 es room3.low (parts_nested es (tells m base) lo3 p3.rest.front p3.rest.first (past_token p3 (tells m base) lo2 room2) (front_room p3.rest (tells m base) lo3 room3))
    exp_nested (tree.call m tree.no_target w es) base lo ps h r =
        let room = whole_room (tells m base) lo ps h.mark (exp_run (tree.call m tree.no_target w es) base ps h).has r in
        let p1 = h.parts in let lo1 = end_from (tells m base).from p1.front in let room1 = back_room p1 (tells m base) (tells m base).from room in
        let p2 = p1.rest in let lo2 = end_from lo1 p2.front in let room2 = back_room p2 (tells m base) lo1 room1 in
        let p3 = p2.rest in let lo3 = end_from lo2 p3.front in let room3 = back_room p3 (tells m base) lo2 room2 in
        parts_from_earlier (tells m base) (tells m base).from lo3 es room3.low (parts_nested es (tells m base) lo3 p3.rest.front p3.rest.first (past_token p3 (tells m base) lo2 room2) (front_room p3.rest (tells m base) lo3 room3))
    exp_nested (tree.call m (tree.on e) w es) base lo ps h r =
        let room = whole_room (tells m base) lo ps h.mark (exp_run (tree.call m (tree.on e) w es) base ps h).has r in
        let p1 = h.parts in let lo1 = end_from (tells m base).from p1.front in let room1 = back_room p1 (tells m base) (tells m base).from room in
        let p2 = p1.rest in let lo2 = end_from lo1 p2.front in let room2 = back_room p2 (tells m base) lo1 room1 in
        let p3 = p2.rest in let lo3 = end_from lo2 p3.front in let room3 = back_room p3 (tells m base) lo2 room2 in
        let t1 = p1.first in let inner = front_room p1 (tells m base) (tells m base).from room in
        let early : (exp_span tells (tells m base).from e).to ≤ lo3 = omega (
          arith,
          exp_to (tells m base) (tells m base).from e t1 inner,
          rises (end_from (tells m base).from t1.front) t1.back (back_room t1 (tells m base) (tells m base).from inner).rising,
          ap (end_from (tells m base).from) t1.whole,
          end_of_both (tells m base).from t1.front t1.back,
          rises lo1 p2.front (front_room p2 (tells m base) lo1 room1).rising,
          rises lo2 p3.front (front_room p3 (tells m base) lo2 room2).rising,
        ) in (
          exp_before (tells m base) (tells m base).from e t1 inner (begins_with t1.rest) (exp_nested e (tells m base).from (tells m base).from t1.front t1.first (front_room t1 (tells m base) (tells m base).from inner).rising),
          parts_from_earlier (tells m base) (exp_span tells (tells m base).from e).to lo3 es early (parts_nested es (tells m base) lo3 p3.rest.front p3.rest.first (past_token p3 (tells m base) lo2 room2) (front_room p3.rest (tells m base) lo3 room3)),
        )

    parts_nested : (es : tree.Exps A) (whole : Span) (lo : ℕ) (ps : Tokens) → Stands (spans_from tells whole.from (args_layout es)) ps
        → whole.from < lo → Room whole lo ps → PartsNested tells whole lo es
    parts_nested tree.end whole lo ps h p room = tt
    parts_nested (tree.more e es) whole lo ps h p room = (
      exp_past whole lo e h room lo (omega arith) p (exp_nested e whole.from lo h.front h.first (front_room h whole lo room).rising),
      subst (λ (n : ℕ). PartsNested tells whole n es) (sym (exp_to whole lo e h room))
          (more_nested es whole (end_from lo h.front) h.rest.front h.rest.first (still_past h whole lo room p) (front_room h.rest whole (end_from lo h.front) (back_room h whole lo room))),
    )

    more_nested : (es : tree.Exps A) (whole : Span) (lo : ℕ) (ps : Tokens) → Stands (spans_from tells whole.from (more_args_layout es)) ps
        → whole.from < lo → Room whole lo ps → PartsNested tells whole lo es
    more_nested tree.end whole lo ps h p room = tt
    more_nested (tree.more e es) whole lo ps h p room =
        let lo1 = end_from lo h.front in let room1 = back_room h whole lo room in let p1 = h.rest in (
          exp_past whole lo1 e p1 room1 lo (rises lo h.front (front_room h whole lo room).rising) (still_past h whole lo room p)
              (exp_nested e whole.from lo1 p1.front p1.first (front_room p1 whole lo1 room1).rising),
          subst (λ (n : ℕ). PartsNested tells whole n es) (sym (exp_to whole lo1 e p1 room1))
              (more_nested es whole (end_from lo1 p1.front) p1.rest.front p1.rest.first (still_past p1 whole lo1 room1 (still_past h whole lo room p))
              (front_room p1.rest whole (end_from lo1 p1.front) (back_room p1 whole lo1 room1))),
        )

  -- ---- statements

  abbrev StmtStands : (base : ℕ) → statement.Stmt A → Tokens → Type 0
  StmtStands base x ps = Stands (spans_from tells base (stmt_layout x)) ps

  stmt_run : (x : statement.Stmt A) (base : ℕ) (ps : Tokens) → StmtStands base x ps → Run (stmt_span tells base x) ps
  stmt_run (statement.local m f t w e) base ps h = record { is = h.mark; has = by_back h.parts (by_back h.parts.rest (by_back h.parts.rest.rest (begins_with h.parts.rest.rest.rest))) }
  stmt_run (statement.eval m e) base ps h = record { is = h.mark; has = by_back h.parts (begins_with h.parts.rest) }
  stmt_run (statement.branch m c x o) base ps h = record { is = h.mark; has = begins_with h.parts }
  stmt_run (statement.loop m c x) base ps h = record { is = h.mark; has = begins_with h.parts }
  stmt_run (statement.return m None) base ps h = record { is = h.mark; has = begins_with h.parts }
  stmt_run (statement.return m (Some e)) base ps h = record { is = h.mark; has = begins_with h.parts }
  stmt_run (statement.block m b) base ps h = record { is = h.mark; has = begins_with h.parts }
  stmt_run (statement.sync m e b) base ps h = record { is = h.mark; has = begins_with h.parts }
  stmt_run (statement.empty m) base ps h = record { is = h.mark; has = begins_with h.parts }

  module _ {R : Tokens → Type 0} {ps : Tokens} (whole : Span) (lo : ℕ) (x : statement.Stmt A) (h : InOrder (StmtStands whole.from x) R ps) (room : Room whole lo ps) where
    stmt_past : (mid : ℕ) → mid ≤ lo → whole.from < lo → StmtNested tells whole.from x → StepNested tells whole mid x
    stmt_past mid l p n = (
      from_earlier mid lo (stmt_span tells whole.from x) whole l (run_within whole (stmt_span tells whole.from x) lo h.front (stmt_run x whole.from h.front h.first) (front_room h whole lo room) (inl p)),
      n,
    )

    stmt_to : (stmt_span tells whole.from x).to ≡ end_from lo h.front
    stmt_to = run_ends (stmt_span tells whole.from x) lo h.front (stmt_run x whole.from h.front h.first)

  list_from_earlier : (whole : Span) (lo mid : ℕ) (b : statement.Stmts A) → lo ≤ mid → ListNested tells whole mid b → ListNested tells whole lo b
  list_from_earlier whole lo mid statement.end l n = tt
  list_from_earlier whole lo mid (statement.more x xs) l ((w, y), n) = ((from_earlier lo mid (stmt_span tells whole.from x) whole l w, y), n)

  mutual
    stmt_nested : (x : statement.Stmt A) (base lo : ℕ) (ps : Tokens) → StmtStands base x ps → Rising lo ps → StmtNested tells base x
    stmt_nested (statement.return m None) base lo ps h r = tt
    stmt_nested (statement.empty m) base lo ps h r = tt
    stmt_nested (statement.eval m e) base lo ps h r =
        let room = whole_room (tells m base) lo ps h.mark (stmt_run (statement.eval m e) base ps h).has r in
        exp_before (tells m base) (tells m base).from e h.parts room (begins_with h.parts.rest) (exp_nested e (tells m base).from (tells m base).from h.parts.front h.parts.first (front_room h.parts (tells m base) (tells m base).from room).rising)
    stmt_nested (statement.return m (Some e)) base lo ps h r =
        let room = whole_room (tells m base) lo ps h.mark (stmt_run (statement.return m (Some e)) base ps h).has r in
        let p1 = h.parts in let lo1 = end_from (tells m base).from p1.front in let room1 = back_room p1 (tells m base) (tells m base).from room in
        exp_past (tells m base) lo1 e p1.rest room1 (tells m base).from room1.low (past_token p1 (tells m base) (tells m base).from room) (exp_nested e (tells m base).from lo1 p1.rest.front p1.rest.first (front_room p1.rest (tells m base) lo1 room1).rising)
    stmt_nested (statement.local m f t w e) base lo ps h r =
        let room = whole_room (tells m base) lo ps h.mark (stmt_run (statement.local m f t w e) base ps h).has r in
        let p1 = h.parts in let lo1 = end_from (tells m base).from p1.front in let room1 = back_room p1 (tells m base) (tells m base).from room in
        let p2 = p1.rest in let lo2 = end_from lo1 p2.front in let room2 = back_room p2 (tells m base) lo1 room1 in
        let p3 = p2.rest in let lo3 = end_from lo2 p3.front in let room3 = back_room p3 (tells m base) lo2 room2 in
        let p4 = p3.rest in let lo4 = end_from lo3 p4.front in let room4 = back_room p4 (tells m base) lo3 room3 in
        exp_past (tells m base) lo4 e p4.rest room4 (tells m base).from room4.low (past_token p4 (tells m base) lo3 room3) (exp_nested e (tells m base).from lo4 p4.rest.front p4.rest.first (front_room p4.rest (tells m base) lo4 room4).rising)
    stmt_nested (statement.loop m c x) base lo ps h r =
        let room = whole_room (tells m base) lo ps h.mark (stmt_run (statement.loop m c x) base ps h).has r in
        let p1 = h.parts in let lo1 = end_from (tells m base).from p1.front in let room1 = back_room p1 (tells m base) (tells m base).from room in
        let p2 = p1.rest in let lo2 = end_from lo1 p2.front in let room2 = back_room p2 (tells m base) lo1 room1 in
        let p3 = p2.rest in let lo3 = end_from lo2 p3.front in let room3 = back_room p3 (tells m base) lo2 room2 in
        let p4 = p3.rest in let lo4 = end_from lo3 p4.front in let room4 = back_room p4 (tells m base) lo3 room3 in
        let past2 = past_token p2 (tells m base) lo1 room1 in (
          exp_past (tells m base) lo2 c p3 room2 (tells m base).from room2.low past2 (exp_nested c (tells m base).from lo2 p3.front p3.first (front_room p3 (tells m base) lo2 room2).rising),
          stmt_past (tells m base) lo4 x p4.rest room4 (exp_span tells (tells m base).from c).to (omega (arith, exp_to (tells m base) lo2 c p3 room2, rises lo3 p4.front (front_room p4 (tells m base) lo3 room3).rising)) (past_token p4 (tells m base) lo3 room3)
              (stmt_nested x (tells m base).from lo4 p4.rest.front p4.rest.first (front_room p4.rest (tells m base) lo4 room4).rising),
        )
    stmt_nested (statement.branch m c x statement.no_else) base lo ps h r =
        let room = whole_room (tells m base) lo ps h.mark (stmt_run (statement.branch m c x statement.no_else) base ps h).has r in
        let p1 = h.parts in let lo1 = end_from (tells m base).from p1.front in let room1 = back_room p1 (tells m base) (tells m base).from room in
        let p2 = p1.rest in let lo2 = end_from lo1 p2.front in let room2 = back_room p2 (tells m base) lo1 room1 in
        let p3 = p2.rest in let lo3 = end_from lo2 p3.front in let room3 = back_room p3 (tells m base) lo2 room2 in
        let p4 = p3.rest in let lo4 = end_from lo3 p4.front in let room4 = back_room p4 (tells m base) lo3 room3 in
        let p5 = p4.rest in (
          exp_past (tells m base) lo2 c p3 room2 (tells m base).from room2.low (past_token p2 (tells m base) lo1 room1) (exp_nested c (tells m base).from lo2 p3.front p3.first (front_room p3 (tells m base) lo2 room2).rising),
          stmt_past (tells m base) lo4 x p5 room4 (exp_span tells (tells m base).from c).to (omega (arith, exp_to (tells m base) lo2 c p3 room2, rises lo3 p4.front (front_room p4 (tells m base) lo3 room3).rising)) (past_token p4 (tells m base) lo3 room3)
              (stmt_nested x (tells m base).from lo4 p5.front p5.first (front_room p5 (tells m base) lo4 room4).rising),
        )
    stmt_nested (statement.branch m c x (statement.otherwise y)) base lo ps h r =
        let room = whole_room (tells m base) lo ps h.mark (stmt_run (statement.branch m c x (statement.otherwise y)) base ps h).has r in
        let p1 = h.parts in let lo1 = end_from (tells m base).from p1.front in let room1 = back_room p1 (tells m base) (tells m base).from room in
        let p2 = p1.rest in let lo2 = end_from lo1 p2.front in let room2 = back_room p2 (tells m base) lo1 room1 in
        let p3 = p2.rest in let lo3 = end_from lo2 p3.front in let room3 = back_room p3 (tells m base) lo2 room2 in
        let p4 = p3.rest in let lo4 = end_from lo3 p4.front in let room4 = back_room p4 (tells m base) lo3 room3 in
        let p5 = p4.rest in let lo5 = end_from lo4 p5.front in let room5 = back_room p5 (tells m base) lo4 room4 in
        let p6 = p5.rest.first in let room6 = front_room p5.rest (tells m base) lo5 room5 in let lo6 = end_from lo5 p6.front in let room7 = back_room p6 (tells m base) lo5 room6 in (
          exp_past (tells m base) lo2 c p3 room2 (tells m base).from room2.low (past_token p2 (tells m base) lo1 room1) (exp_nested c (tells m base).from lo2 p3.front p3.first (front_room p3 (tells m base) lo2 room2).rising),
          stmt_past (tells m base) lo4 x p5 room4 (exp_span tells (tells m base).from c).to (omega (arith, exp_to (tells m base) lo2 c p3 room2, rises lo3 p4.front (front_room p4 (tells m base) lo3 room3).rising)) (past_token p4 (tells m base) lo3 room3)
              (stmt_nested x (tells m base).from lo4 p5.front p5.first (front_room p5 (tells m base) lo4 room4).rising),
          stmt_past (tells m base) lo6 y p6.rest room7 (stmt_span tells (tells m base).from x).to (omega (arith, stmt_to (tells m base) lo4 x p5 room4, rises lo5 p6.front (front_room p6 (tells m base) lo5 room6).rising)) (past_token p6 (tells m base) lo5 room6)
              (stmt_nested y (tells m base).from lo6 p6.rest.front p6.rest.first (front_room p6.rest (tells m base) lo6 room7).rising),
        )
    stmt_nested (statement.block m b) base lo ps h r =
        let room = whole_room (tells m base) lo ps h.mark (stmt_run (statement.block m b) base ps h).has r in
        let p1 = h.parts in let lo1 = end_from (tells m base).from p1.front in let room1 = back_room p1 (tells m base) (tells m base).from room in
        list_from_earlier (tells m base) (tells m base).from lo1 b room1.low (list_nested b (tells m base) lo1 p1.rest.front p1.rest.first (past_token p1 (tells m base) (tells m base).from room) (front_room p1.rest (tells m base) lo1 room1))
    stmt_nested (statement.sync m e b) base lo ps h r =
        let room = whole_room (tells m base) lo ps h.mark (stmt_run (statement.sync m e b) base ps h).has r in
        let p1 = h.parts in let lo1 = end_from (tells m base).from p1.front in let room1 = back_room p1 (tells m base) (tells m base).from room in
        let p2 = p1.rest in let lo2 = end_from lo1 p2.front in let room2 = back_room p2 (tells m base) lo1 room1 in
        let p3 = p2.rest in let lo3 = end_from lo2 p3.front in let room3 = back_room p3 (tells m base) lo2 room2 in
        let p4 = p3.rest in let lo4 = end_from lo3 p4.front in let room4 = back_room p4 (tells m base) lo3 room3 in
        let p5 = p4.rest in let lo5 = end_from lo4 p5.front in let room5 = back_room p5 (tells m base) lo4 room4 in (
          exp_past (tells m base) lo2 e p3 room2 (tells m base).from room2.low (past_token p2 (tells m base) lo1 room1) (exp_nested e (tells m base).from lo2 p3.front p3.first (front_room p3 (tells m base) lo2 room2).rising),
          list_from_earlier (tells m base) (exp_span tells (tells m base).from e).to lo5 b (omega (arith, exp_to (tells m base) lo2 e p3 room2, rises lo3 p4.front (front_room p4 (tells m base) lo3 room3).rising, rises lo4 p5.front (front_room p5 (tells m base) lo4 room4).rising))
              (list_nested b (tells m base) lo5 p5.rest.front p5.rest.first (past_token p5 (tells m base) lo4 room4) (front_room p5.rest (tells m base) lo5 room5)),
        )

    list_nested : (b : statement.Stmts A) (whole : Span) (lo : ℕ) (ps : Tokens) → Stands (spans_from tells whole.from (stmts_layout b)) ps
        → whole.from < lo → Room whole lo ps → ListNested tells whole lo b
    list_nested statement.end whole lo ps h p room = tt
    list_nested (statement.more x xs) whole lo ps h p room = (
      stmt_past whole lo x h room lo (omega arith) p (stmt_nested x whole.from lo h.front h.first (front_room h whole lo room).rising),
      subst (λ (n : ℕ). ListNested tells whole n xs) (sym (stmt_to whole lo x h room))
          (list_nested xs whole (end_from lo h.front) h.rest.front h.rest.first (still_past h whole lo room p)
          (front_room h.rest whole (end_from lo h.front) (back_room h whole lo room))),
    )

pub standing_lists_are_nested : {A : Type 0} → StandingListsAreNested A
standing_lists_are_nested tells whole lo b ps h p r e = list_nested tells b whole lo ps h p (record { low = omega (arith, p); rising = r; ends = e })
