-- Old and new expressions of a region side by side: each reference and each written type is kept,
-- and what stands in a spot's place is what the spot makes.
use Rattle.std.proofs.Common.{◌≡◌, ℕ, suc, List, [], ◌∷◌, ◌++◌, Option, Some, None, false, refl, sym, ap, subst, ◌∙◌, inl, inr}
use Rattle.std.specs.Prelude.{◌⊎◌, slice_get}
use Rattle.jr_text.specs.declared.spans.Span.{Span}
use Rattle.jr_ast.specs.Tree as tree
use Rattle.jr_grammar.specs.Shape.{unsigned_level, sign_level, rank_of}
use Rattle.jr_table.specs.Keys.{ClassKey}
use Rattle.jr_table.specs.Rows.{Row}
use Rattle.jr_table.specs.Context.{Context, scope_of}
use Rattle.jr_table.specs.Binding.{Role, value, left}
use Rattle.jr_spell.specs.declared.spellings.Form.{Form}
use Rattle.jr_spell.specs.declared.spellings.Form.TheVariants.{Asked, OnThis, OnCastOperand, OnClass, OnOuterClass, ClassInFront, OuterClassInFront}
use Rattle.jr_rewrite.specs.Respellings.{Front, same, alone, by_this, by_class, by_outer_class, by_cast, Choice, front_of}
use Rattle.jr_rewrite.specs.Rewritten.{Rewritten, within, joined, word_to, variable_on, operand_to, target_of, drops_operand, losses_of, new_word, cast_tree, word_out, field_out, simple_call_out, dotted_call_out, operand_losses, Called}
use Rattle.jr_rewrite.specs.Spots.{Asks, level, a_target, operand_asks, Spotted, nowhere, spotted, OrPart}
use Rattle.jr_rewrite.specs.Rewrites.{Choosing, TransformsExp, TransformsTarget, TransformsRow, TransformsPart, RewritesType}
use Rattle.jr_rewrite.proofs.ExpressionShapes.{this_is}
use Rattle.jr_images.specs.Regions.{Region}
use Rattle.jr_images.specs.Spelling.{spelled, outer_front, outer_type, choosing, FieldChoice, MemberClassChoice, SimpleCallChoice, CallChoice}
use Rattle.jr_images.proofs.Chosen.{renamed_front, lost_some, left_none, right_none, lost_none}
use Rattle.jr_images.proofs.Forms.{two_forms, three_forms, front_forms, four_forms}
use Rattle.jr_kept_references.specs.InRegions.{class_in, field_in, method_in}
use Rattle.jr_kept_references.specs.KeptInRegions.{IsTypeKeptIn, IsKeptIn, PartsBecome}
use Rattle.jr_kept_references.specs.AlongSpots.{SpotStands, DottedAlong, AlongSpots, TargetAlong, RowAlong}
use Rattle.jr_kept_references.proofs.RegionWorlds.{RegionWorld}
use Rattle.jr_kept_references.proofs.RegionTypes.{written_kept}
use Rattle.jr_kept_references.proofs.RegionExpressions.{operand_none, kept}

-- what may stand in front of a word behind a dot
abbrev pub IsDotted : Front → Type 0
IsDotted front = (front ≡ same) ⊎ (((k : List ℕ) × (front ≡ by_cast k)) ⊎ (((k : List ℕ) × (front ≡ by_class k)) ⊎ ((o : List ℕ) × (k : List ℕ) × (front ≡ by_outer_class o k))))

-- and in front of a simple name of a method
abbrev IsSimple : Front → Type 0
IsSimple front = (front ≡ same) ⊎ ((front ≡ by_this) ⊎ (((k : List ℕ) × (front ≡ by_class k)) ⊎ ((o : List ℕ) × (k : List ℕ) × (front ≡ by_outer_class o k))))

outer_dotted : (outer : Option (List ℕ)) (name : List ℕ) → IsDotted (outer_front (record { outer = outer; name = name }))
outer_dotted None name = inr (inr (inl (name, refl)))
outer_dotted (Some o) name = inr (inr (inr (o, name, refl)))

outer_simple : (outer : Option (List ℕ)) (name : List ℕ) → IsSimple (outer_front (record { outer = outer; name = name }))
outer_simple None name = inr (inr (inl (name, refl)))
outer_simple (Some o) name = inr (inr (inr (o, name, refl)))

value_dotted : (old new : List ℕ) (k : ClassKey) (place : ℕ) (f : Form) → slice_get (Asked ∷ OnCastOperand ∷ []) place ≡ Some f → IsDotted (front_of (spelled old new k f))
value_dotted old new k place f there = two_forms (λ f. IsDotted (front_of (spelled old new k f))) OnCastOperand (inl (renamed_front old new)) (inr (inl (k.name, refl))) place f there

through_dotted : (old new : List ℕ) (k : ClassKey) (place : ℕ) (f : Form) → slice_get (Asked ∷ OnClass ∷ OnOuterClass ∷ []) place ≡ Some f → IsDotted (front_of (spelled old new k f))
through_dotted old new k place f there = three_forms (λ f. IsDotted (front_of (spelled old new k f))) (inl (renamed_front old new)) (inr (inr (inl (k.name, refl)))) (outer_dotted k.outer k.name) place f there

-- in front of a class that stands in front of a dot nothing may be left
abbrev StandsInFront : Front → Type 0
StandsInFront front = IsDotted front ⊎ (front ≡ alone)

outer_stands : (outer : Option (List ℕ)) (name : List ℕ) → StandsInFront (outer_type (record { outer = outer; name = name }))
outer_stands None name = inr refl
outer_stands (Some o) name = inl (inr (inr (inl (o, refl))))

class_stands : (old new : List ℕ) (k : ClassKey) (place : ℕ) (f : Form) → slice_get (Asked ∷ ClassInFront ∷ OuterClassInFront ∷ []) place ≡ Some f → StandsInFront (front_of (spelled old new k f))
class_stands old new k place f there = front_forms (λ f. StandsInFront (front_of (spelled old new k f))) (inl (inl (renamed_front old new))) (inr refl) (outer_stands k.outer k.name) place f there

simple_simple : (old new : List ℕ) (k : ClassKey) (place : ℕ) (f : Form) → slice_get (Asked ∷ OnThis ∷ OnClass ∷ OnOuterClass ∷ []) place ≡ Some f → IsSimple (front_of (spelled old new k f))
simple_simple old new k place f there = four_forms (λ f. IsSimple (front_of (spelled old new k f))) (inl (renamed_front old new)) (inr (inl refl)) (inr (inr (inl (k.name, refl)))) (outer_simple k.outer k.name) place f there

module _ {A : Type 0} (begins : A → ℕ → ℕ) (rows : List Row) (R : Region A) (c : Context) where
  field_dotted : (at : ℕ) (e : tree.Exp A) (old : List ℕ) (h : Choice) → losses_of h ≡ [] → FieldChoice begins rows R c at e old h → IsDotted (front_of h)
  field_dotted at e old h none (k, finds, inl (o, named, (text, words, inl (f, taken, is)))) =
      subst (λ (x : Choice). IsDotted (front_of x)) (sym is) (through_dotted old (field_in R k).name (field_in R k).class taken.place f taken.stands)
  field_dotted at e old h none (k, finds, inl (o, named, (text, words, inr (none_binds, (f, found, is))))) = absurd (lost_some _ (sym (ap losses_of is) ∙ none))
  field_dotted at e old h none (k, finds, inr (not, (o, typing, inl (f, taken, is)))) =
      subst (λ (x : Choice). IsDotted (front_of x)) (sym is) (value_dotted old (field_in R k).name (field_in R k).class taken.place f taken.stands)
  field_dotted at e old h none (k, finds, inr (not, (o, typing, inr (none_binds, (f, found, is))))) = absurd (lost_some _ (sym (ap losses_of is) ∙ none))

  member_class_stands : (r : Role) (at : ℕ) (e : tree.Exp A) (old : List ℕ) (h : Choice) → losses_of h ≡ [] → MemberClassChoice begins rows R c r at e old h → (r ≡ left) × StandsInFront (front_of h)
  member_class_stands left at e old h none (o, k, owner, free, finds, front, before, words, stands, inl (f, taken, is)) =
      (refl, subst (λ (x : Choice). StandsInFront (front_of x)) (sym is) (class_stands old (class_in R k).name (class_in R k) taken.place f taken.stands))
  member_class_stands left at e old h none (o, k, owner, free, finds, front, before, words, stands, inr (none_binds, (f, found, is))) = absurd (lost_some _ (sym (ap losses_of is) ∙ none))
  member_class_stands value at e old h none spells = absurd spells
  member_class_stands _ at e old h none spells = absurd spells

  call_dotted : (at : ℕ) (e : tree.Exp A) (old : List ℕ) (args : tree.Exps A) (h : Choice) → losses_of h ≡ [] → CallChoice begins rows R c at e old args h → IsDotted (front_of h)
  call_dotted at e old args h none (k, ts, finds, types, inl (o, named, (text, words, inl (f, taken, is)))) =
      subst (λ (x : Choice). IsDotted (front_of x)) (sym is) (through_dotted old (method_in R k).name (method_in R k).class taken.place f taken.stands)
  call_dotted at e old args h none (k, ts, finds, types, inl (o, named, (text, words, inr (none_binds, (f, found, is))))) = absurd (lost_some _ (sym (ap losses_of is) ∙ none))
  call_dotted at e old args h none (k, ts, finds, types, inr (not, (o, typing, inl (f, taken, is)))) =
      subst (λ (x : Choice). IsDotted (front_of x)) (sym is) (value_dotted old (method_in R k).name (method_in R k).class taken.place f taken.stands)
  call_dotted at e old args h none (k, ts, finds, types, inr (not, (o, typing, inr (none_binds, (f, found, is))))) = absurd (lost_some _ (sym (ap losses_of is) ∙ none))

  call_simple : (at : ℕ) (old : List ℕ) (args : tree.Exps A) (h : Choice) → losses_of h ≡ [] → SimpleCallChoice begins rows R c at old args h → IsSimple (front_of h)
  call_simple at old args h none (k, ts, finds, types, inl (f, taken, is)) =
      subst (λ (x : Choice). IsSimple (front_of x)) (sym is) (simple_simple old (method_in R k).name (method_in R k).class taken.place f taken.stands)
  call_simple at old args h none (k, ts, finds, types, inr (none_binds, (f, found, is))) = absurd (lost_some _ (sym (ap losses_of is) ∙ none))

-- what stands in front of the dot in the new tree
module _ {A : Type 0} (m : A) (x : tree.Exp A) (Becomes : Asks → tree.Exp A → Type 0) where
  operand_along : (front : Front) → IsDotted front → (drops_operand front ≡ false → Becomes (operand_asks front) x)
      → (z : tree.Exp A) × (operand_to m front (Some x) ≡ Some z) × DottedAlong (λ n y. Becomes (level n) y) z
  operand_along front (inl is) stays = (x, ap (λ (f : Front). operand_to m f (Some x)) is, inl (subst (λ (f : Front). Becomes (operand_asks f) x) is (stays (ap drops_operand is))))
  operand_along front (inr (inl (k, is))) stays =
      (cast_tree m k x, ap (λ (f : Front). operand_to m f (Some x)) is, inr (inl (m, m, tree.named m None (new_word m k), x, refl, subst (λ (f : Front). Becomes (operand_asks f) x) is (stays (ap drops_operand is)))))
  operand_along front (inr (inr (inl (k, is)))) stays = (tree.name m (new_word m k), ap (λ (f : Front). operand_to m f (Some x)) is, inr (inr (inl (m, new_word m k, refl))))
  operand_along front (inr (inr (inr (o, k, is)))) stays =
      (tree.field m (tree.name m (new_word m o)) (new_word m k), ap (λ (f : Front). operand_to m f (Some x)) is, inr (inr (inr (m, m, new_word m o, new_word m k, refl))))

module _ {A : Type 0} (tells : A → ℕ → Span) (rows : List Row) (R : Region A) (c d : Context) (w : RegionWorld A rows R c d) (super_at : Context → ℕ) (S : Spotted A)
    (parts : PartsBecome (λ m b. (tells m b).from) rows R S c d) where
  abbrev Chosen : Choosing A
  Chosen = choosing (λ m b. (tells m b).from) rows R super_at

  abbrev Keeps : Context → Context → Role → (base : ℕ) → tree.Exp A → (base' : ℕ) → tree.Exp A → Type 0
  Keeps c d r b e i y = IsKeptIn (λ m b. (tells m b).from) rows R c d r b e i y

  abbrev Writes : Context → Context → (base : ℕ) → tree.TypeName A → (base' : ℕ) → tree.TypeName A → Type 0
  Writes c d b t i u = IsTypeKeptIn R rows (scope_of c) (scope_of d) t u

  abbrev Side : Role → (b i : ℕ) → tree.Exp A → tree.Exp A → Type 0
  Side r b i e y = AlongSpots (λ m b. (tells m b).from) (λ m b. (tells m b).from) Keeps Writes (SpotStands S) c d r b i e y

  abbrev PartSide : Asks → Role → (b i : ℕ) → tree.Exp A → tree.Exp A → Type 0
  PartSide k r b i e y = Side r b i e y ⊎ SpotStands S k c d r b e i y

  abbrev SideRow : (b i : ℕ) → tree.Exps A → tree.Exps A → Type 0
  SideRow b i es ys = RowAlong (λ m b. (tells m b).from) (λ m b. (tells m b).from) Keeps Writes (SpotStands S) c d b i es ys

  moved : (r : Role) (b i : ℕ) (e : tree.Exp A) (o p : Rewritten (tree.Exp A)) → o ≡ p → Side r b i e p.tree → Side r b i e o.tree
  moved r b i e o p is side = subst (λ (z : Rewritten (tree.Exp A)). Side r b i e z.tree) (sym is) side

  -- node by node, or as a spot has it
  pub part_side : (k : Asks) (r : Role) (b i : ℕ) (e : tree.Exp A) (p : Rewritten (tree.Exp A)) → TransformsPart tells Chosen S k c r b e p → p.losses ≡ [] → (TransformsExp tells Chosen S c r b e p → Side r b i e p.tree)
      → PartSide k r b i e p.tree
  part_side k r b i e p made none by_node = by S made (λ spot. spot)
    where
      by : (s : Spotted A) → OrPart s k c r b e p (TransformsExp tells Chosen S c r b e p) → (SpotStands s k c d r b e i p.tree → SpotStands S k c d r b e i p.tree) → PartSide k r b i e p.tree
      by nowhere inner is = inl (by_node inner)
      by (spotted s) (inl (stays, inner)) is = inl (by_node inner)
      by (spotted s) (inr spot) is = inr (is (p, spot, none, refl))

  -- a field, or a class in front of a dot
  along_field : {D : Type 0} (r : Role) (h : Choice) → (IsDotted (front_of h) → D) → (r ≡ left → front_of h ≡ alone → D) → IsDotted (front_of h) ⊎ ((r ≡ left) × StandsInFront (front_of h)) → D
  along_field r h dotted by_itself (inl f) = dotted f
  along_field r h dotted by_itself (inr (role, inl f)) = dotted f
  along_field r h dotted by_itself (inr (role, inr f)) = by_itself role f

  -- a dotted name by its operand
  field_is : (m : A) (v : tree.Word A) (z : Option (tree.Exp A)) (x : tree.Exp A) → z ≡ Some x → variable_on m z v ≡ tree.field m x v
  field_is m v z x is = ap (λ (y : Option (tree.Exp A)). variable_on m y v) is

  target_is : (z : Option (tree.Exp A)) (x : tree.Exp A) → z ≡ Some x → target_of z ≡ tree.on x
  target_is z x is = ap target_of is

  simple_target : (m : A) (front : Front) → IsSimple front → (a i : ℕ) → TargetAlong (λ m b. (tells m b).from) (λ m b. (tells m b).from) Keeps Writes (SpotStands S) c d a i tree.no_target (target_of (operand_to m front None))
  unfolding TargetAlong
  simple_target m front (inl is) a i = inl (ap (λ (f : Front). target_of (operand_to m f None)) is)
  simple_target m front (inr (inl is)) a i = inr (inl (m, ap (λ (f : Front). target_of (operand_to m f None)) is))
  simple_target m front (inr (inr (inl (k, is)))) a i = inr (inr (tree.name m (new_word m k), ap (λ (f : Front). target_of (operand_to m f None)) is, inl (m, new_word m k, refl)))
  simple_target m front (inr (inr (inr (o, k, is)))) a i = inr (inr (tree.field m (tree.name m (new_word m o)) (new_word m k), ap (λ (f : Front). target_of (operand_to m f None)) is, inr (m, m, new_word m o, new_word m k, refl)))

  -- its own reference
  own : (r : Role) (b i : ℕ) (e : tree.Exp A) (o : Rewritten (tree.Exp A)) → TransformsExp tells Chosen S c r b e o → o.losses ≡ [] → Keeps c d r b e i o.tree
  own r b i e o made none = (kept tells rows R c d w super_at S parts r b e o made none).bound b i

  type_side : (b : ℕ) (t : tree.TypeName A) (p : Rewritten (tree.TypeName A)) → RewritesType tells Chosen c b t p → p.losses ≡ [] → IsTypeKeptIn R rows (scope_of c) (scope_of d) t p.tree
  type_side b t p made none = written_kept tells rows R c d w super_at b t p made none

  mutual
    unfolding TransformsExp TransformsTarget TransformsRow AlongSpots TargetAlong RowAlong

    pub along : (r : Role) (b i : ℕ) (e : tree.Exp A) (o : Rewritten (tree.Exp A)) → TransformsExp tells Chosen S c r b e o → o.losses ≡ [] → Side r b i e o.tree
    along r b i (tree.number m n) o is none = moved r b i (tree.number m n) o _ is (m, refl)
    along r b i (tree.truth m n) o is none = moved r b i (tree.truth m n) o _ is (m, refl)
    along r b i (tree.null m) o is none = moved r b i (tree.null m) o _ is (m, refl)
    along r b i (tree.string m s) o is none = moved r b i (tree.string m s) o _ is (m, refl)
    along r b i (tree.this m) o made none = moved r b i (tree.this m) o _ (this_is S made) (m, refl)
    along r b i (tree.name m v) o made none = own r b i (tree.name m v) o made none
    along r b i (tree.super_field m v) o made none = own r b i (tree.super_field m v) o made none
    along r b i (tree.field m e v) o (h, p, spells, inner, is) none =
        let all = lost_none o (field_out tells h m b e p v) is none in
        let last = right_none (operand_losses tells h p.losses) (losses_of h) all in
        let keeps = own r b i (tree.field m e v) o (h, p, spells, inner, is) none in
        let dotted : IsDotted (front_of h) → Side r b i (tree.field m e v) o.tree = λ front.
        (let part = operand_along m p.tree (λ k y. PartSide k left ((tells m b).from) ((tells m i).from) e y) (front_of h) front
        (λ stays. (let none_lost = operand_none tells rows R c d w super_at S parts h p.losses all stays in
        part_side (operand_asks (front_of h)) left ((tells m b).from) ((tells m i).from) e p inner none_lost (λ x. along left ((tells m b).from) ((tells m i).from) e p x none_lost))) in
        let there = ap (λ (z : Rewritten (tree.Exp A)). z.tree) is ∙ field_is m (word_to h v) _ part.0 part.1 in
        inl (m, part.0, word_to h v, there, part.2, subst (λ (y : tree.Exp A). Keeps c d r b (tree.field m e v) i y) there keeps)) in
        let by_itself : r ≡ left → front_of h ≡ alone → Side r b i (tree.field m e v) o.tree = λ role front.
        (let there = ap (λ (z : Rewritten (tree.Exp A)). z.tree) is ∙ ap (λ (f : Front). variable_on m (operand_to m f (Some p.tree)) (word_to h v)) front in
        inr (m, word_to h v, role, there, subst (λ (y : tree.Exp A). Keeps c d r b (tree.field m e v) i y) there keeps)) in
        along_field {D = Side r b i (tree.field m e v) o.tree} r h dotted by_itself (elim spells [
          | inl f ↦ inl (field_dotted (λ m b. (tells m b).from) rows R c _ e v.text h last f)
          | inr f ↦ inr (member_class_stands (λ m b. (tells m b).from) rows R c r _ e v.text h last f)
        ])
    along r b i (tree.class_literal m t) o (p, types, is) none = moved r b i (tree.class_literal m t) o _ is (m, p.tree, refl, type_side _ t p types (lost_none o _ is none))
    along r b i (tree.call m tree.no_target v args) o (h, p, q, spells, target, row, is) none =
        let out = is ∙ ap (λ (z : Rewritten (Called tells)). joined (λ (t : Called tells) es. tree.call m t.target t.word es) z q) target in
        let all = lost_none o (joined (λ (t : Called tells) es. tree.call m t.target t.word es) (simple_call_out tells h m b v) q) out none in
        let there = ap (λ (z : Rewritten (tree.Exp A)). z.tree) out in (
          m,
          target_of (operand_to m (front_of h) None),
          word_to h v,
          q.tree,
          there,
          simple_target m (front_of h) (call_simple (λ m b. (tells m b).from) rows R c _ v.text args h (left_none (losses_of h) q.losses all) spells) 0 0,
          along_row _ _ args q row (right_none (losses_of h) q.losses all),
          subst (λ (y : tree.Exp A). Keeps c d r b (tree.call m tree.no_target v args) i y) there (own r b i (tree.call m tree.no_target v args) o (h, p, q, spells, target, row, is) none),
        )
    along r b i (tree.call m (tree.on e) v args) o (h, p, q, spells, (x, inner, target), row, is) none =
        let out = is ∙ ap (λ (z : Rewritten (Called tells)). joined (λ (t : Called tells) es. tree.call m t.target t.word es) z q) target in
        let all = lost_none o (joined (λ (t : Called tells) es. tree.call m t.target t.word es) (dotted_call_out tells h m b e x v) q) out none in
        let front = left_none (operand_losses tells h x.losses ++ losses_of h) q.losses all in
        let part = operand_along m x.tree (λ k y. PartSide k left ((tells m b).from) ((tells m i).from) e y) (front_of h)
        (call_dotted (λ m b. (tells m b).from) rows R c _ e v.text args h (right_none (operand_losses tells h x.losses) (losses_of h) front) spells)
        (λ stays. (let none_lost = operand_none tells rows R c d w super_at S parts h x.losses front stays in
        part_side (operand_asks (front_of h)) left ((tells m b).from) ((tells m i).from) e x inner none_lost (λ y. along left ((tells m b).from) ((tells m i).from) e x y none_lost))) in
        let there = ap (λ (z : Rewritten (tree.Exp A)). z.tree) out in (
          m,
          target_of (operand_to m (front_of h) (Some x.tree)),
          word_to h v,
          q.tree,
          there,
          (part.0, target_is _ part.0 part.1, part.2),
          along_row _ _ args q row (right_none (operand_losses tells h x.losses ++ losses_of h) q.losses all),
          subst (λ (y : tree.Exp A). Keeps c d r b (tree.call m (tree.on e) v args) i y) there (own r b i (tree.call m (tree.on e) v args) o (h, p, q, spells, (x, inner, target), row, is) none),
        )
    along r b i (tree.super_call m v args) o (h, q, spells, row, is) none =
        let all = lost_none o (joined (λ v es. tree.super_call m v es) (word_out tells h ((tells m b).from) v) q) is none in
        let there = ap (λ (z : Rewritten (tree.Exp A)). z.tree) is in (
          m,
          word_to h v,
          q.tree,
          there,
          along_row _ _ args q row (right_none (losses_of h) q.losses all),
          subst (λ (y : tree.Exp A). Keeps c d r b (tree.super_call m v args) i y) there (own r b i (tree.super_call m v args) o (h, q, spells, row, is) none),
        )
    along r b i (tree.create m t args) o (h, p, q, spells, types, row, is) none =
        let all = lost_none o _ is none in
        let inside = right_none (losses_of h) (p.losses ++ q.losses) all in
        let there = ap (λ (z : Rewritten (tree.Exp A)). z.tree) is in (
          m,
          p.tree,
          q.tree,
          there,
          type_side _ t p types (left_none p.losses q.losses inside),
          along_row _ _ args q row (right_none p.losses q.losses inside),
          subst (λ (y : tree.Exp A). Keeps c d r b (tree.create m t args) i y) there (own r b i (tree.create m t args) o (h, p, q, spells, types, row, is) none),
        )
    along r b i (tree.paren m e) o (p, inner, is) none = let all = lost_none o (within (λ x. tree.paren m x) p) is none in
        moved r b i (tree.paren m e) o (within (λ x. tree.paren m x) p) is
        (m, p.tree, refl, part_side (level 0) value ((tells m b).from) ((tells m i).from) e p inner all (λ x. along value ((tells m b).from) ((tells m i).from) e p x all))
    along r b i (tree.cast m t e) o (p, q, types, inner, is) none = let all = lost_none o (joined (λ u x. tree.cast m u x) p q) is none in let back = right_none p.losses q.losses all in
        moved r b i (tree.cast m t e) o (joined (λ u x. tree.cast m u x) p q) is
        (m, p.tree, q.tree, refl, type_side _ t p types (left_none p.losses q.losses all), part_side (level unsigned_level) value ((tells m b).from) ((tells m i).from) e q inner back (λ x. along value ((tells m b).from) ((tells m i).from) e q x back))
    along r b i (tree.unary m s e) o (p, inner, is) none = let all = lost_none o (within (λ x. tree.unary m s x) p) is none in
        moved r b i (tree.unary m s e) o (within (λ x. tree.unary m s x) p) is
        (m, p.tree, refl, part_side (level sign_level) value ((tells m b).from) ((tells m i).from) e p inner all (λ x. along value ((tells m b).from) ((tells m i).from) e p x all))
    along r b i (tree.bump m s e) o (p, inner, is) none = let all = lost_none o (within (λ x. tree.bump m s x) p) is none in
        moved r b i (tree.bump m s e) o (within (λ x. tree.bump m s x) p) is
        (m, p.tree, refl, part_side a_target value ((tells m b).from) ((tells m i).from) e p inner all (λ x. along value ((tells m b).from) ((tells m i).from) e p x all))
    along r b i (tree.binary m s e f) o (p, q, one_side, other, is) none =
        let all = lost_none o (joined (λ u v. tree.binary m s u v) p q) is none in let front = left_none p.losses q.losses all in let back = right_none p.losses q.losses all in
        moved r b i (tree.binary m s e f) o (joined (λ u v. tree.binary m s u v) p q) is (
          m,
          p.tree,
          q.tree,
          refl,
          part_side (level (rank_of s)) value ((tells m b).from) ((tells m i).from) e p one_side front (λ x. along value ((tells m b).from) ((tells m i).from) e p x front),
          part_side (level (suc (rank_of s))) value ((tells m b).from) ((tells m i).from) f q other back (λ x. along value ((tells m b).from) ((tells m i).from) f q x back),
        )
    along r b i (tree.assign m e f) o (p, q, one_side, other, is) none =
        let all = lost_none o (joined (λ u v. tree.assign m u v) p q) is none in let front = left_none p.losses q.losses all in let back = right_none p.losses q.losses all in
        moved r b i (tree.assign m e f) o (joined (λ u v. tree.assign m u v) p q) is (
          m,
          p.tree,
          q.tree,
          refl,
          part_side a_target value ((tells m b).from) ((tells m i).from) e p one_side front (λ x. along value ((tells m b).from) ((tells m i).from) e p x front),
          part_side (level 0) value ((tells m b).from) ((tells m i).from) f q other back (λ x. along value ((tells m b).from) ((tells m i).from) f q x back),
        )
    along r b i (tree.compound m s e f) o (p, q, one_side, other, is) none =
        let all = lost_none o (joined (λ u v. tree.compound m s u v) p q) is none in let front = left_none p.losses q.losses all in let back = right_none p.losses q.losses all in
        moved r b i (tree.compound m s e f) o (joined (λ u v. tree.compound m s u v) p q) is (
          m,
          p.tree,
          q.tree,
          refl,
          part_side a_target value ((tells m b).from) ((tells m i).from) e p one_side front (λ x. along value ((tells m b).from) ((tells m i).from) e p x front),
          part_side (level 0) value ((tells m b).from) ((tells m i).from) f q other back (λ x. along value ((tells m b).from) ((tells m i).from) f q x back),
        )

    pub along_row : (b i : ℕ) (es : tree.Exps A) (q : Rewritten (tree.Exps A)) → TransformsRow tells Chosen S c b es q → q.losses ≡ [] → SideRow b i es q.tree
    along_row b i tree.end q is none = ap (λ (z : Rewritten (tree.Exps A)). z.tree) is
    along_row b i (tree.more e es) q (x, xs, inner, rest, is) none = let all = lost_none q (joined (λ y ys. tree.more y ys) x xs) is none in let front = left_none x.losses xs.losses all in
        (x.tree, xs.tree, ap (λ (z : Rewritten (tree.Exps A)). z.tree) is, part_side (level 0) value b i e x inner front (λ y. along value b i e x y front), along_row b i es xs rest (right_none x.losses xs.losses all))
