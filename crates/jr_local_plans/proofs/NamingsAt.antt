-- Where a local is named, by the place of its declaration alone, and why inline local is refused by
-- what is there.
use Rattle.std.proofs.Common.{◌≡◌, inl, inr, ℕ, ◌≤◌, Option, Some, None, sym, ap, ◌∙◌, subst, le_antisymm}
use Rattle.std.specs.Prelude.{◌⊎◌, ◌≢◌, List, codes, slice_get}
use Rattle.std.proofs.lemmas.Option.{same_Some}
use Rattle.jr_text.specs.declared.spans.Span.{Span}
use Rattle.jr_text.specs.declared.spans.Place as text
use Rattle.jr_ast.specs.Tree as tree
use Rattle.jr_ast.specs.Marks.{exp_mark}
use Rattle.jr_grammar.specs.Layout.{itself}
use Rattle.jr_table.specs.Decls.{LocalKey, local_decl}
use Rattle.jr_table.specs.Rows.{Row}
use Rattle.jr_table.specs.Found.{one}
use Rattle.jr_table.specs.Lookup.{FindsVariable}
use Rattle.jr_table.specs.Context.{Context, scope_of}
use Rattle.jr_names.specs.Refusals.{Refusal, bad_target, conditional, has_return, assigned}
use Rattle.jr_pieces.specs.Ways.{ListWay}
use Rattle.jr_pieces.specs.Standings.{Standing, behind, at_list}
use Rattle.jr_pieces.specs.Uses as uses
use Rattle.jr_pieces.specs.Uses.{list_use}
use Rattle.jr_pieces.specs.Bars.{list_barred}
use Rattle.jr_pieces.specs.Returns.{returns_in_list}
use Rattle.jr_told_ways.specs.Told.{In}
use Rattle.jr_local.specs.Bodies.{begins}
use Rattle.jr_local_plans.proofs.Frames.{Placed, element_of}

abbrev pub behind_of : Placed → Standing
behind_of c = behind begins (element_of c).stmt (element_of c).at

-- a local, and the place of its declaration
pub record Spot : Type 0 where
  pub place : Placed
  pub key : LocalKey

module _ (rows : List Row) where
  -- it is named there
  pub record Named (z : Spot) : Type 0 where
    pub at : tree.Exp Span
    pub way : ListWay at (element_of z.place).rest
    pub mark : Span
    pub word : tree.Word Span
    pub is : at ≡ tree.name mark word
    pub bound : FindsVariable rows (scope_of (at_list begins (behind_of z.place) way).context) word.text (one (local_decl z.key))

  module _ (z : Spot) where
    abbrev pub known_of : Named z → Context
    known_of n = (at_list begins (behind_of z.place) n.way).context

    abbrev pub byte_of : Named z → ℕ
    byte_of n = (exp_mark n.at).from

    abbrev pub ReadAt : Named z → Type 0
    ReadAt n = list_use n.way ≢ uses.assigned

    abbrev pub TargetAt : Named z → Type 0
    TargetAt n = (list_use n.way ≡ uses.assigned) ⊎ (list_use n.way ≡ uses.changed)

    abbrev pub bar_at : Named z → Option ℕ
    bar_at n = list_barred begins (behind_of z.place).base None n.way

    abbrev pub OnlyAt : Named z → Type 0
    OnlyAt n = ReadAt n × ((o : Named z) → ReadAt o → byte_of o ≡ byte_of n)

    abbrev pub ReturnsAt : Named z → Span → Type 0
    ReturnsAt n s = (slice_get (returns_in_list itself (behind_of z.place).base (element_of z.place).rest) 0 ≡ Some s) × (s.to ≤ byte_of n)

    -- ---- why it is refused

    abbrev pub NoOnly : Type 0
    NoOnly = (n : Named z) → OnlyAt n → ⊥

    abbrev pub BarredAt : ℕ → Type 0
    BarredAt byte = (n : Named z) × OnlyAt n × (bar_at n ≡ Some byte)

    abbrev pub MeetsAt : Span → Type 0
    MeetsAt s = (n : Named z) × OnlyAt n × (bar_at n ≡ None) × ReturnsAt n s

    abbrev pub MovesAt : Type 0
    MovesAt = (n : Named z) × OnlyAt n × (bar_at n ≡ None) × ((s : Span) → ReturnsAt n s → ⊥)

    abbrev pub AssignedAt : ℕ → Type 0
    AssignedAt byte = (n : Named z) × TargetAt n × ((o : Named z) → TargetAt o → byte_of n ≤ byte_of o) × (byte ≡ byte_of n)

    abbrev pub MayMoveAt : (Plain : Type 0) → Type 0
    MayMoveAt Plain = Plain ⊎ ((Plain → ⊥) × MovesAt)

    module _ (file at : ℕ) where
      abbrev pub there : ℕ → text.Place
      there byte = record { file = file; at = byte }

      abbrev pub Used : (Plain : Type 0) → Refusal → Type 0
      Used Plain r = (Plain → ⊥) × NoOnly × (r ≡ bad_target (there at) (codes "OneUse"))

      abbrev pub Barred : (Plain : Type 0) → Refusal → Type 0
      Barred Plain r = (Plain → ⊥) × (byte : ℕ) × BarredAt byte × (r ≡ conditional (there byte))

      abbrev pub Meets : (Plain : Type 0) → Refusal → Type 0
      Meets Plain r = (Plain → ⊥) × (s : Span) × MeetsAt s × (r ≡ has_return (there s.from))

      abbrev pub Assigned : (Plain : Type 0) → Refusal → Type 0
      Assigned Plain r = MayMoveAt Plain × (byte : ℕ) × AssignedAt byte × (r ≡ assigned z.key (there byte))

      abbrev pub Why : (Plain : Type 0) → Refusal → Type 0
      Why Plain r = Used Plain r ⊎ (Barred Plain r ⊎ (Meets Plain r ⊎ Assigned Plain r))

    abbrev pub LetGo : (Plain : Type 0) → Type 0
    LetGo Plain = MayMoveAt Plain × ((n : Named z) → TargetAt n → ⊥)

    -- ---- names that begin at one byte are one

    abbrev pub way_of : Named z → In (λ (h : tree.Exp Span). ListWay h (element_of z.place).rest)
    way_of n = record { value = n.at; way = n.way }

    abbrev pub OneAtByte : Type 0
    OneAtByte = (n m : Named z) → byte_of n ≡ byte_of m → way_of n ≡ way_of m

    some_none : (n : ℕ) → (let o : Option ℕ = Some n in o ≡ None) → ⊥
    some_none n e = cc

    -- the one read
    only_byte : (n m : Named z) → OnlyAt n → OnlyAt m → byte_of n ≡ byte_of m
    only_byte n m x y = y.1 n x.0

    module _ (single : OneAtByte) where
      bar_once : (n m : Named z) → byte_of n ≡ byte_of m → bar_at n ≡ bar_at m
      bar_once n m same = ap (λ (i : In (λ (h : tree.Exp Span). ListWay h (element_of z.place).rest)). list_barred begins (behind_of z.place).base None i.way) (single n m same)

      barred_once : (a b : ℕ) → BarredAt a → BarredAt b → a ≡ b
      barred_once a b x y = same_Some a b (sym x.2 ∙ bar_once x.0 y.0 (only_byte x.0 y.0 x.1 y.1) ∙ y.2)

      barred_apart : (a : ℕ) → BarredAt a → (m : Named z) → OnlyAt m → bar_at m ≡ None → ⊥
      barred_apart a x m only none = some_none a (sym x.2 ∙ bar_once x.0 m (only_byte x.0 m x.1 only) ∙ none)

      meets_once : (a b : Span) → MeetsAt a → MeetsAt b → a ≡ b
      meets_once a b x y = same_Some a b (sym x.3.0 ∙ y.3.0)

      meets_apart : (a : Span) → MeetsAt a → MovesAt → ⊥
      meets_apart a x y = y.3 a (x.3.0, subst (λ (n : ℕ). a.to ≤ n) (only_byte x.0 y.0 x.1 y.1) x.3.1)

      assigned_once : (a b : ℕ) → AssignedAt a → AssignedAt b → a ≡ b
      assigned_once a b x y = x.3 ∙ le_antisymm (x.2 y.0 y.1) (y.2 x.0 x.1) ∙ sym y.3

      module _ (file at : ℕ) (Plain : Type 0) where
        -- what isn't plain has to move otherwise
        moves : (Plain → ⊥) → MayMoveAt Plain → MovesAt
        moves other (inl x) = absurd (other x)
        moves other (inr x) = x.1

        pub one_why : (r t : Refusal) → Why file at Plain r → Why file at Plain t → r ≡ t
        one_why r t (inl u) (inl v) = u.2 ∙ sym v.2
        one_why r t (inl u) (inr (inl v)) = absurd (u.1 v.2.0 v.2.1)
        one_why r t (inl u) (inr (inr (inl v))) = absurd (u.1 v.2.0 v.2.1)
        one_why r t (inl u) (inr (inr (inr v))) = let m = moves u.0 v.0 in absurd (u.1 m.0 m.1)
        one_why r t (inr (inl u)) (inl v) = absurd (v.1 u.2.0 u.2.1)
        one_why r t (inr (inl u)) (inr (inl v)) = u.3 ∙ ap (λ (n : ℕ). conditional (there file at n)) (barred_once u.1 v.1 u.2 v.2) ∙ sym v.3
        one_why r t (inr (inl u)) (inr (inr (inl v))) = absurd (barred_apart u.1 u.2 v.2.0 v.2.1 v.2.2)
        one_why r t (inr (inl u)) (inr (inr (inr v))) = let m = moves u.0 v.0 in absurd (barred_apart u.1 u.2 m.0 m.1 m.2)
        one_why r t (inr (inr (inl u))) (inl v) = absurd (v.1 u.2.0 u.2.1)
        one_why r t (inr (inr (inl u))) (inr (inl v)) = absurd (barred_apart v.1 v.2 u.2.0 u.2.1 u.2.2)
        one_why r t (inr (inr (inl u))) (inr (inr (inl v))) = u.3 ∙ ap (λ (s : Span). has_return (there file at s.from)) (meets_once u.1 v.1 u.2 v.2) ∙ sym v.3
        one_why r t (inr (inr (inl u))) (inr (inr (inr v))) = absurd (meets_apart u.1 u.2 (moves u.0 v.0))
        one_why r t (inr (inr (inr u))) (inl v) = let m = moves v.0 u.0 in absurd (v.1 m.0 m.1)
        one_why r t (inr (inr (inr u))) (inr (inl v)) = let m = moves v.0 u.0 in absurd (barred_apart v.1 v.2 m.0 m.1 m.2)
        one_why r t (inr (inr (inr u))) (inr (inr (inl v))) = absurd (meets_apart v.1 v.2 (moves v.0 u.0))
        one_why r t (inr (inr (inr u))) (inr (inr (inr v))) = u.3 ∙ ap (λ (n : ℕ). assigned z.key (there file at n)) (assigned_once u.1 v.1 u.2 v.2) ∙ sym v.3

        pub no_why : (r : Refusal) → Why file at Plain r → LetGo Plain → ⊥
        no_why r (inl u) go = let m = moves u.0 go.0 in u.1 m.0 m.1
        no_why r (inr (inl u)) go = let m = moves u.0 go.0 in barred_apart u.1 u.2 m.0 m.1 m.2
        no_why r (inr (inr (inl u))) go = meets_apart u.1 u.2 (moves u.0 go.0)
        no_why r (inr (inr (inr u))) go = go.1 u.2.0 u.2.1

    -- ---- what is plain in the one program is so in the other

    module _ (P Q : Type 0) (to : P → Q) (from : Q → P) where
      may_to : MayMoveAt P → MayMoveAt Q
      may_to (inl x) = inl (to x)
      may_to (inr x) = inr (λ h. x.0 (from h), x.1)

      pub why_to : (file at : ℕ) (r : Refusal) → Why file at P r → Why file at Q r
      why_to file at r (inl u) = inl (λ h. u.0 (from h), u.1, u.2)
      why_to file at r (inr (inl u)) = inr (inl (λ h. u.0 (from h), u.1, u.2, u.3))
      why_to file at r (inr (inr (inl u))) = inr (inr (inl (λ h. u.0 (from h), u.1, u.2, u.3)))
      why_to file at r (inr (inr (inr u))) = inr (inr (inr (may_to u.0, u.1, u.2, u.3)))

      pub go_to : LetGo P → LetGo Q
      go_to g = (may_to g.0, g.1)
