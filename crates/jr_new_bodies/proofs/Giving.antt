-- What is gathered of the parts of an expression is what its rewriting gives.
use Rattle.std.proofs.Common.{◌≡◌, ℕ, ◌+◌, List, [], ◌∷◌, ◌++◌, Bool, true, false, Option, Some, None, suc, refl, sym, ap, subst, ◌∙◌, inl, inr, arith}
use Rattle.std.specs.Prelude.{◌⊎◌, if◌then◌else◌}
use Rattle.std.proofs.lemmas.List.{append_assoc, append-nil}
use Rattle.jr_text.specs.declared.spans.Span.{Span}
use Rattle.jr_ast.specs.Tree as tree
use Rattle.jr_ast.specs.Marks.{exp_mark}
use Rattle.jr_table.specs.Rows.{Row}
use Rattle.jr_table.specs.Context.{Context}
use Rattle.jr_table.specs.Binding.{Role, value, left, statement}
use Rattle.jr_rewrite.specs.Respellings.{Front, same, alone, by_this, by_super, by_cast_this, by_class, by_outer_class, by_cast, Respelling, Choice, stays, becomes, loses, front_of, is_respelled, Loss, Change}
use Rattle.jr_rewrite.specs.Rewritten as rewritten
use Rattle.jr_rewrite.specs.Rewritten.{Rewritten, plain, within, joined, count_of, losses_of, word_out, name_out, field_out, super_field_out, Called, simple_call_out, dotted_call_out, simple_type_out, qualified_type_out, dotted_changes, super_changes, qualified_changes, word_changes, drops_operand, drops_qualifier}
use Rattle.jr_rewrite.specs.Puts.{before_changes, behind_changes, super_parts, class_changes, drops_class}
use Rattle.jr_grammar.specs.Shape.{unsigned_level, sign_level, rank_of}
use Rattle.jr_rewrite.specs.Spots.{Asks, level, a_target}
use Rattle.jr_rewrite.specs.Rewrites.{RewritesType, with_losses, TransformsExp, TransformsTarget, TransformsRow, TransformsPart}
use Rattle.jr_rewrite.proofs.Putting.{dotted_is_parts, super_is_parts, qualified_is_parts}
use Rattle.jr_new_words.specs.Mappings.{Mapping}
use Rattle.jr_new_words.specs.Spelled.{VariableSpells, ClassSpells, spelling}
use Rattle.jr_new_words.specs.Chosen.{unmarked}
use Rattle.jr_new_bodies.specs.declared.here.Here as raw
use Rattle.jr_new_bodies.specs.Effects.{Effect, no_effect, both, effect_of, Gathers}
use Rattle.jr_new_bodies.specs.OutputView as out
use Rattle.jr_new_bodies.specs.OutputView.{in_front, behind, left_of, put_behind, behind_super, class_left, put_class, qualified}
use Rattle.jr_new_bodies.specs.Known.{rows_of, mapping_of, context_of, NameSpells}
use Rattle.jr_new_bodies.specs.Spotting.{PartSpot, part_at, part_out, Unseen, PartStays}
use Rattle.jr_new_bodies.specs.SpotView.{spotting_of}
use Rattle.jr_new_bodies.specs.Walks.{choosing, spotted, ExpGathers, PartGathers, DottedGathers, RowGathers, TypeGathers, PairGathers, CastGathers, SimpleGathers, SuperGathers, FieldGathers, CalledGathers, CallOnGathers, TargetGathers, CallGathers, SuperCalledGathers, SuperCallGathers, CreatedGathers, CreateGathers, NamedGathers}
use Rattle.jr_new_bodies.proofs.Spotted.{by_node, by_spot, this_by_node}
use Rattle.jr_new_bodies.proofs.Joining.{none_both, both_none, both_assoc, gathers_none, gathers_as, gathers_within, gathers_joined}

-- ---- a word behind an operand, whole

plus_zero : (n : ℕ) → n + 0 ≡ 0 + n
plus_zero n = omega arith

zero_plus : (n : ℕ) → n ≡ 0 + n
zero_plus n = omega arith

-- what a word behind an operand and a dot gives, where e is the operand's span
abbrev dotted : Choice → (e word : Span) → Effect → Effect
dotted h e word o = record {
  changes = dotted_changes h e word o.changes;
  respelled = (if drops_operand (front_of h) then 0 else o.respelled) + count_of h;
  losses = (if drops_operand (front_of h) then [] else o.losses) ++ losses_of h;
}

kept_behind : (b : Bool) (o : Effect) (n : ℕ) (cs ds : List Change)
    → record { changes = cs ++ ((if b then [] else o.changes) ++ ds); respelled = (if b then 0 else o.respelled) + n; losses = (if b then [] else o.losses) ++ [] }
    ≡ both (record { changes = cs; respelled = 0; losses = [] }) (both (if b then no_effect else o) (record { changes = ds; respelled = n; losses = [] }))
kept_behind true o n cs ds = λ i. record { changes = cs ++ ds; respelled = zero_plus (0 + n) i; losses = [] }
kept_behind false o n cs ds = λ i. record { changes = cs ++ (o.changes ++ ds); respelled = zero_plus (o.respelled + n) i; losses = o.losses ++ [] }

dotted_is : (h : Choice) (e word : Span) (o : Effect) → dotted h e word o ≡ both (in_front h e) (behind h e word o)
dotted_is stays e word o = λ i. record { changes = o.changes; respelled = plus_zero o.respelled i; losses = append-nil o.losses i }
dotted_is (loses l) e word o = λ i. record { changes = sym (append-nil o.changes) i; respelled = zero_plus (o.respelled + 0) i; losses = o.losses ++ l ∷ [] }
dotted_is (becomes r) e word o =
    (λ i. record { changes = dotted_is_parts r e word o.changes i; respelled = (if drops_operand r.front then 0 else o.respelled) + (if is_respelled r.front then 1 else 0); losses = (if drops_operand r.front then [] else o.losses) ++ [] })
    ∙ kept_behind (drops_operand r.front) o (if is_respelled r.front then 1 else 0) (before_changes r.front e) (behind_changes r e word)

-- a class as a type, behind another
abbrev qualified_whole : {A : Type 0} (tells : A → ℕ → Span) → (p h : Choice) → (outer word : Span) → Effect
qualified_whole tells p h outer word = record {
  changes = qualified_changes tells h outer word (word_changes p outer);
  respelled = (if drops_qualifier tells (front_of h) then 0 else count_of p) + count_of h;
  losses = (if drops_qualifier tells (front_of h) then [] else losses_of p) ++ losses_of h;
}

same_drops : {A : Type 0} (tells : A → ℕ → Span) (f : Front) → drops_qualifier tells f ≡ drops_class f
same_drops tells same = refl
same_drops tells alone = refl
same_drops tells by_this = refl
same_drops tells by_super = refl
same_drops tells (by_cast_this k) = refl
same_drops tells (by_class k) = refl
same_drops tells (by_outer_class o k) = refl
same_drops tells (by_cast k) = refl

left_behind : (b : Bool) (o : Effect) (n : ℕ) (ds : List Change)
    → record { changes = (if b then [] else o.changes) ++ ds; respelled = (if b then 0 else o.respelled) + n; losses = (if b then [] else o.losses) ++ [] }
    ≡ both (if b then no_effect else o) (record { changes = ds; respelled = n; losses = [] })
left_behind true o n ds = refl
left_behind false o n ds = refl

qualified_is : {A : Type 0} (tells : A → ℕ → Span) (p h : Choice) (outer word : Span) → qualified_whole tells p h outer word ≡ qualified p h outer word
qualified_is tells p stays outer word = λ i. record { changes = word_changes p outer; respelled = plus_nothing (count_of p) i; losses = append-nil (losses_of p) i }
  where
    plus_nothing : (n : ℕ) → n + 0 ≡ n
    plus_nothing n = omega arith
qualified_is tells p (loses l) outer word = λ i. record { changes = sym (append-nil (word_changes p outer)) i; respelled = count_of p + 0; losses = losses_of p ++ l ∷ [] }
qualified_is tells p (becomes r) outer word =
    (λ i. record {
      changes = qualified_is_parts tells r outer word (word_changes p outer) i;
      respelled = (if same_drops tells r.front i then 0 else count_of p) + (if is_respelled r.front then 1 else 0);
      losses = (if same_drops tells r.front i then [] else losses_of p) ++ [];
    })
    ∙ left_behind (drops_class r.front) (out.alone p outer) (if is_respelled r.front then 1 else 0) (class_changes r outer word)

-- a field behind `super`
super_is : (h : Choice) (node word : Span) → record { changes = super_changes h node word; respelled = count_of h; losses = losses_of h } ≡ behind_super h node word
super_is stays node word = refl
super_is (loses l) node word = refl
super_is (becomes r) node word = λ i. record { changes = super_is_parts r node word i; respelled = if is_respelled r.front then 1 else 0; losses = [] }

-- ---- expressions

class_spells : {A : Type 0} (begins : A → ℕ → ℕ) (rows : List Row) (g : Mapping) (c : Context) (r : Role) (at : ℕ) (name : List ℕ) (h : Choice)
    → ClassSpells unmarked rows g c r at name h → ClassSpells begins rows g c r at name h
class_spells begins rows g c value at name h x = absurd x
class_spells begins rows g c left at name h x = x
class_spells begins rows g c statement at name h x = absurd x

name_spells : {A : Type 0} (begins : A → ℕ → ℕ) (rows : List Row) (g : Mapping) (c : Context) (r : Role) (at : ℕ) (name : List ℕ) (h : Choice)
    → NameSpells rows g c r at name h → VariableSpells begins rows g c at name h ⊎ ClassSpells begins rows g c r at name h
name_spells begins rows g c r at name h (inl x) = inl x
name_spells begins rows g c r at name h (inr x) = inr (class_spells begins rows g c r at name h x)

module _ {A : Type 0} (tells : A → ℕ → Span) (h : raw.Here) where
  abbrev pub begins : A → ℕ → ℕ
  begins m b = (tells m b).from

  -- more behind what was there
  abbrev pub More : {T : Type 0} → Rewritten T → Effect → Effect → Type 0
  More o old new = new ≡ both old (effect_of o)

  -- an operand of which so much is asked
  abbrev pub Part : Unseen A → Asks → (base : ℕ) → tree.Exp A → Rewritten (tree.Exp A) → Type 0
  Part s k base e = TransformsPart tells (choosing tells h s.super_at) (spotted tells h s) k (context_of h) value base e

  pub number_gives : (role : Role) (base : ℕ) (m : A) (n : ℕ) (e : Effect) → ExpGathers tells h role base (tree.number m n) e e
  unfolding TransformsExp TransformsTarget TransformsRow
  number_gives role base m n e = λ s. gathers_none (tree.number m n) e

  pub truth_gives : (role : Role) (base : ℕ) (m : A) (b : Bool) (e : Effect) → ExpGathers tells h role base (tree.truth m b) e e
  unfolding TransformsExp TransformsTarget TransformsRow
  truth_gives role base m b e = λ s. gathers_none (tree.truth m b) e

  pub null_gives : (role : Role) (base : ℕ) (m : A) (e : Effect) → ExpGathers tells h role base (tree.null m) e e
  unfolding TransformsExp TransformsTarget TransformsRow
  null_gives role base m e = λ s. gathers_none (tree.null m) e

  pub string_gives : (role : Role) (base : ℕ) (m : A) (t : List ℕ) (e : Effect) → ExpGathers tells h role base (tree.string m t) e e
  unfolding TransformsExp TransformsTarget TransformsRow
  string_gives role base m t e = λ s. gathers_none (tree.string m t) e

  pub this_gives : (role : Role) (base : ℕ) (m : A) (e : Effect) → ExpGathers tells h role base (tree.this m) e e
  unfolding TransformsExp TransformsTarget TransformsRow
  this_gives role base m e = λ s.
      (plain (tree.this m), this_by_node tells s (spotting_of h.spots) (plain (tree.this m) ≡ plain (tree.this m)) refl, sym (both_none e))

  pub name_gives : (role : Role) (base : ℕ) (m : A) (w : tree.Word A) (old new : Effect) → SimpleGathers tells h role (begins m base) w old new → ExpGathers tells h role base (tree.name m w) old new
  unfolding TransformsExp TransformsTarget TransformsRow
  name_gives role base m w old new (c, chosen, is) = λ s. (name_out tells c m base w, (c, name_spells begins (rows_of h) (mapping_of h) (context_of h) role (begins w.mark (begins m base)) w.text c chosen, refl), is)

  pub field_gives : (role : Role) (base : ℕ) (m : A) (e : tree.Exp A) (w : tree.Word A) (old new : Effect) → FieldGathers tells h role (begins m base) e w old new → ExpGathers tells h role base (tree.field m e w) old new
  unfolding TransformsExp TransformsTarget TransformsRow
  field_gives role base m e w old new (c, chosen, part) = λ s. let p = part s in
      (field_out tells c m base e p.0 w, (c, p.0, chosen, p.1, refl), p.2 ∙ ap (both old) (sym (dotted_is c (tells (exp_mark e) (begins m base)) (tells w.mark (begins m base)) (effect_of p.0))))

  pub super_field_gives : (role : Role) (base : ℕ) (m : A) (w : tree.Word A) (old new : Effect) → SuperGathers tells h (tells m base) w old new → ExpGathers tells h role base (tree.super_field m w) old new
  unfolding TransformsExp TransformsTarget TransformsRow
  super_field_gives role base m w old new (c, chosen, is) = λ s.
      (super_field_out tells c m base w, (c, chosen, refl), is ∙ ap (both old) (sym (super_is c (tells m base) (tells w.mark (begins m base)))))

  pub literal_gives : (role : Role) (base : ℕ) (m : A) (t : tree.TypeName A) (old new : Effect) → TypeGathers tells h (begins m base) t old new → ExpGathers tells h role base (tree.class_literal m t) old new
  unfolding TransformsExp TransformsTarget TransformsRow
  literal_gives role base m t old new part = λ s. gathers_within (λ u. tree.class_literal m u) (RewritesType tells (choosing tells h s.super_at) (context_of h) (begins m base) t) old new (part s.super_at)

  pub paren_gives : (role : Role) (base : ℕ) (m : A) (e : tree.Exp A) (old new : Effect) → PartGathers tells h (level 0) value (begins m base) e old new → ExpGathers tells h role base (tree.paren m e) old new
  unfolding TransformsExp TransformsTarget TransformsRow
  paren_gives role base m e old new part = λ s. gathers_within (λ x. tree.paren m x) (Part s (level 0) (begins m base) e) old new (part s)

  pub unary_gives : (role : Role) (base : ℕ) (m : A) (op : _) (e : tree.Exp A) (old new : Effect) → PartGathers tells h (level sign_level) value (begins m base) e old new → ExpGathers tells h role base (tree.unary m op e) old new
  unfolding TransformsExp TransformsTarget TransformsRow
  unary_gives role base m op e old new part = λ s. gathers_within (λ x. tree.unary m op x) (Part s (level sign_level) (begins m base) e) old new (part s)

  pub bump_gives : (role : Role) (base : ℕ) (m : A) (op : _) (e : tree.Exp A) (old new : Effect) → PartGathers tells h a_target value (begins m base) e old new → ExpGathers tells h role base (tree.bump m op e) old new
  unfolding TransformsExp TransformsTarget TransformsRow
  bump_gives role base m op e old new part = λ s. gathers_within (λ x. tree.bump m op x) (Part s (a_target) (begins m base) e) old new (part s)

  pub cast_gives : (role : Role) (base : ℕ) (m : A) (t : tree.TypeName A) (e : tree.Exp A) (old new : Effect) → CastGathers tells h (begins m base) t e old new → ExpGathers tells h role base (tree.cast m t e) old new
  unfolding TransformsExp TransformsTarget TransformsRow
  cast_gives role base m t e old new (mid, first, second) = λ s. gathers_joined (λ u x. tree.cast m u x) (RewritesType tells (choosing tells h s.super_at) (context_of h) (begins m base) t) (Part s (level unsigned_level) (begins m base) e) old mid new (first s.super_at) (second s)

  pub binary_gives : (role : Role) (base : ℕ) (m : A) (op : _) (x y : tree.Exp A) (old new : Effect) → PairGathers tells h (level (rank_of op)) (level (suc (rank_of op))) (begins m base) x y old new → ExpGathers tells h role base (tree.binary m op x y) old new
  unfolding TransformsExp TransformsTarget TransformsRow
  binary_gives role base m op x y old new (mid, first, second) = λ s. gathers_joined (λ u v. tree.binary m op u v) (Part s (level (rank_of op)) (begins m base) x) (Part s (level (suc (rank_of op))) (begins m base) y) old mid new (first s) (second s)

  pub assign_gives : (role : Role) (base : ℕ) (m : A) (x y : tree.Exp A) (old new : Effect) → PairGathers tells h a_target (level 0) (begins m base) x y old new → ExpGathers tells h role base (tree.assign m x y) old new
  unfolding TransformsExp TransformsTarget TransformsRow
  assign_gives role base m x y old new (mid, first, second) = λ s. gathers_joined (λ u v. tree.assign m u v) (Part s (a_target) (begins m base) x) (Part s (level 0) (begins m base) y) old mid new (first s) (second s)

  pub compound_gives : (role : Role) (base : ℕ) (m : A) (op : _) (x y : tree.Exp A) (old new : Effect) → PairGathers tells h a_target (level 0) (begins m base) x y old new → ExpGathers tells h role base (tree.compound m op x y) old new
  unfolding TransformsExp TransformsTarget TransformsRow
  compound_gives role base m op x y old new (mid, first, second) = λ s. gathers_joined (λ u v. tree.compound m op u v) (Part s (a_target) (begins m base) x) (Part s (level 0) (begins m base) y) old mid new (first s) (second s)

  pub call_gives : (role : Role) (base : ℕ) (m : A) (to : tree.Target A) (w : tree.Word A) (args : tree.Exps A) (old new : Effect) → CallGathers tells h (begins m base) to w args old new → ExpGathers tells h role base (tree.call m to w args) old new
  unfolding TransformsExp TransformsTarget TransformsRow
  call_gives role base m tree.no_target w args old new (mid, (c, chosen, is), row) = λ s. let q = row s in
      let p = simple_call_out tells c m base w in (
        joined (λ (t : Called tells) es. tree.call m t.target t.word es) p q.0,
        (c, p, q.0, chosen, refl, q.1, refl),
        q.2 ∙ ap (λ e. both e (effect_of q.0)) is ∙ both_assoc old (effect_of p) (effect_of q.0),
      )
  call_gives role base m (tree.on e) w args old new (mid, (c, chosen, part), row) = λ s. let o = part s in let q = row s in
      let p = dotted_call_out tells c m base e o.0 w in
      let is = o.2 ∙ ap (both old) (sym (dotted_is c (tells (exp_mark e) (begins m base)) (tells w.mark (begins m base)) (effect_of o.0))) in (
        joined (λ (t : Called tells) es. tree.call m t.target t.word es) p q.0,
        (c, p, q.0, chosen, (o.0, o.1, refl), q.1, refl),
        q.2 ∙ ap (λ e. both e (effect_of q.0)) is ∙ both_assoc old (effect_of p) (effect_of q.0),
      )

  pub super_call_gives : (role : Role) (base : ℕ) (m : A) (w : tree.Word A) (args : tree.Exps A) (old new : Effect) → SuperCallGathers tells h (begins m base) w args old new → ExpGathers tells h role base (tree.super_call m w args) old new
  unfolding TransformsExp TransformsTarget TransformsRow
  super_call_gives role base m w args old new (mid, (c, chosen, is), row) = λ s. let q = row s in
      let p = word_out tells c (begins m base) w in (
        joined (λ v es. tree.super_call m v es) p q.0,
        (c, q.0, chosen, q.1, refl),
        q.2 ∙ ap (λ e. both e (effect_of q.0)) is ∙ both_assoc old (effect_of p) (effect_of q.0),
      )

  pub create_gives : (role : Role) (base : ℕ) (m : A) (t : tree.TypeName A) (args : tree.Exps A) (old new : Effect) → CreateGathers tells h (begins m base) t args old new → ExpGathers tells h role base (tree.create m t args) old new
  unfolding TransformsExp TransformsTarget TransformsRow
  create_gives role base m t args old new (mid, (c, first, chosen, is, type), row) = λ s. let p = type s.super_at in let q = row s in
      let o = joined (λ u es. tree.create m u es) p.0 q.0 in (
        with_losses tells (choosing tells h s.super_at) c o,
        (c, p.0, q.0, chosen, p.1, q.1, refl),
        q.2 ∙ (λ i. both (p.2 i) (effect_of q.0)) ∙ (λ i. both (both (is i) (effect_of p.0)) (effect_of q.0))
            ∙ both_assoc (both old (out.lost c)) (effect_of p.0) (effect_of q.0) ∙ both_assoc old (out.lost c) (both (effect_of p.0) (effect_of q.0)),
      )

  -- ---- beside spots

  pub node_gives : (k : Asks) (r : Role) (base : ℕ) (e : tree.Exp A) (old new : Effect) → PartStays tells (spotting_of h.spots) k base e → ExpGathers tells h r base e old new → PartGathers tells h k r base e old new
  node_gives k r base e old new free x = λ s.
      gathers_as (TransformsExp tells (choosing tells h s.super_at) (spotted tells h s) (context_of h) r base e)
      (TransformsPart tells (choosing tells h s.super_at) (spotted tells h s) k (context_of h) r base e) old new
      (λ o w. by_node tells s (spotting_of h.spots) k (context_of h) r base e o (TransformsExp tells (choosing tells h s.super_at) (spotted tells h s) (context_of h) r base e o) free w) (x s)

  pub spot_gives : (r : Role) (base : ℕ) (e : tree.Exp A) (p : PartSpot) (least : ℕ) (old new : Effect) → part_at (tells (exp_mark e) base) (spotting_of h.spots) ≡ Some p → new ≡ both old (out.in_place p least)
      → PartGathers tells h (level least) r base e old new
  spot_gives r base e p least old new at is = λ s. (
    part_out p least (s.part p.at least),
    by_spot tells s (spotting_of h.spots) least (context_of h) r base e p (TransformsExp tells (choosing tells h s.super_at) (spotted tells h s) (context_of h) r base e (part_out p least (s.part p.at least))) at,
    is,
  )

  -- ---- arguments

  pub row_ends : (at : ℕ) (e : Effect) → RowGathers tells h at tree.end e e
  unfolding TransformsExp TransformsTarget TransformsRow
  row_ends at e = λ s. gathers_none tree.end e

  pub row_goes : (at : ℕ) (x : tree.Exp A) (xs : tree.Exps A) (old mid new : Effect) → PartGathers tells h (level 0) value at x old mid → RowGathers tells h at xs mid new → RowGathers tells h at (tree.more x xs) old new
  unfolding TransformsExp TransformsTarget TransformsRow
  row_goes at x xs old mid new first second = λ s. gathers_joined (λ y ys. tree.more y ys) (Part s (level 0) at x) (TransformsRow tells (choosing tells h s.super_at) (spotted tells h s) (context_of h) at xs) old mid new (first s) (second s)

  -- ---- types

  pub int_gives : (base : ℕ) (m : A) (e : Effect) → TypeGathers tells h base (tree.int m) e e
  int_gives base m e = λ s. gathers_none (tree.int m) e

  pub boolean_gives : (base : ℕ) (m : A) (e : Effect) → TypeGathers tells h base (tree.boolean m) e e
  boolean_gives base m e = λ s. gathers_none (tree.boolean m) e

  pub named_gives : (base : ℕ) (m : A) (outer : Option (tree.Word A)) (w : tree.Word A) (old new : Effect) → NamedGathers tells h (begins m base) outer w old new → TypeGathers tells h base (tree.named m outer w) old new
  named_gives base m None w old new (c, chosen, is) = λ s. (simple_type_out tells c m base w, (c, chosen, refl), is)
  named_gives base m (Some v) w old new (p, c, first, (k, finds, chosen), is) = λ s. (
    qualified_type_out tells p c m base v w,
    (p, c, first, (k.0, k.1, finds.0, finds.1, chosen), refl),
    is ∙ ap (both old) (sym (qualified_is tells p c (tells v.mark (begins m base)) (tells w.mark (begins m base)))),
  )
