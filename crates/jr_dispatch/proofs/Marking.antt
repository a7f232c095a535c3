-- Rows that are marked are parted from none, and so nothing differs from one of them upwards.
use Rattle.std.proofs.Common.{◌≡◌, ◌≢◌, ◌<◌, ℕ, List, length, get_or, Option, Some, None, Bool, true, false, refl, sym, ap, subst, ◌∙◌, inl, inr}
use Rattle.std.specs.Prelude.{◌⊎◌, slice_get, unwrap_or}
use Rattle.std.proofs.lemmas.Option.{slice_get_within, get_or_from_slice_get}
use Rattle.std.proofs.lemmas.List.{get_or-replicate, length-replicate}
use Rattle.std.proofs.Math.ListN.{set, replicate}
use Rattle.jr_index.proofs.Setting.{set_there}
use Rattle.jr_table.specs.declared.entries.Kind.{Kind}
use Rattle.jr_table.specs.declared.entries.Entry.{Entry}
use Rattle.jr_table.specs.Chains.{parent_of, IsAcyclic}
use Rattle.jr_table.specs.Members.{DeclaresVirtual}
use Rattle.jr_table.specs.Looking.{is_virtual, own_row}
use Rattle.jr_table.proofs.StepsUp.{itself}
use Rattle.jr_dispatch.specs.Changes.{DiffersAbove, IsParted, AreMethodTests, AreUnparted, is_marked, MarksOne}
use Rattle.jr_dispatch.proofs.Upwards.{step}
use Rattle.jr_dispatch.proofs.Connected.{alike_or_not, declared_at, same_row}
use Rattle.jr_dispatch.proofs.Parting.{same_or_not}

-- ---- marks

pub none_marked : (n : ℕ) (marks : List Bool) → marks ≡ replicate n false → (j : ℕ) → slice_get marks j ≡ Some true → ⊥
none_marked n marks is j at =
    let within = subst (λ k. j < k) (ap length is ∙ length-replicate n false) (slice_get_within marks j true at) in
    let t = sym (get_or_from_slice_get marks j true false at) ∙ ap (λ xs. get_or xs j false) is ∙ get_or-replicate n j false false within in
    absurd cc

pub record IsMarkedAt (marks : List Bool) (o : Option ℕ) : Type 0 where
  pub number : ℕ
  pub is : o ≡ Some number
  pub marked : slice_get marks number ≡ Some true

pub marked_at : (marks : List Bool) (o : Option ℕ) → is_marked marks o ≡ true → IsMarkedAt marks o
marked_at marks None h = absurd cc
marked_at marks (Some j) h = by (slice_get marks j) refl h
  where
    by : (b : Option Bool) → slice_get marks j ≡ b → unwrap_or b false ≡ true → IsMarkedAt marks (Some j)
    by None e h = absurd cc
    by (Some b) e h = record { number = j; is = refl; marked = e ∙ ap Some h }

pub marks_one : (marks : List Bool) (n : ℕ) → MarksOne marks (Some n) (set marks n true)
marks_one marks n j h = by (alike_or_not j n)
  where
    by : ((j ≡ n) ⊎ (j ≢ n)) → (slice_get marks j ≡ Some true) ⊎ (Some n ≡ Some j)
    by (inl e) = inr (ap Some (sym e))
    by (inr other) = inl (sym (set_there marks n j true other) ∙ h)

-- ---- what is not parted

module _ (old new : List Entry) (t u : ℕ → Entry → Bool) (tests : AreMethodTests t u) where
  both_own : (at j : ℕ) → own_row old t at ≡ Some j → (own_row old t at ≢ own_row new u at → ⊥) → own_row new u at ≡ Some j
  both_own at j own same = by (same_or_not (own_row old t at) (own_row new u at))
    where
      by : ((own_row old t at ≡ own_row new u at) ⊎ (own_row old t at ≢ own_row new u at)) → own_row new u at ≡ Some j
      by (inl e) = sym e ∙ own
      by (inr other) = absurd (same other)

  before_at : (at j : ℕ) → own_row old t at ≡ Some j → DeclaresVirtual old tests.was tests.params at j
  before_at at j own = declared_at old tests.was tests.params at j (ap (λ (x : ℕ → Entry → Bool). own_row old x at) (sym tests.before) ∙ own)

  after_at : (at j : ℕ) → own_row new u at ≡ Some j → DeclaresVirtual new tests.now tests.params at j
  after_at at j own = declared_at new tests.now tests.params at j (ap (λ (x : ℕ → Entry → Bool). own_row new x at) (sym tests.after) ∙ own)

  -- from a row that is parted from none upwards nothing differs
  pub none_above : (marks : List Bool) → AreUnparted old new marks → (at : ℕ) → (own_row old t at ≢ own_row new u at → ⊥) → IsMarkedAt marks (own_row old t at) → DiffersAbove old new t u at → ⊥
  none_above marks unparted at same m d = unparted m.number at m.marked (record {
    was = tests.was;
    now = tests.now;
    params = tests.params;
    names = record { before = before_at at m.number m.is; after = after_at at m.number (both_own at m.number m.is same) };
    differs = subst (λ (y : ℕ → Entry → Bool). DiffersAbove old new (is_virtual tests.was tests.params) y at) tests.after (subst (λ (x : ℕ → Entry → Bool). DiffersAbove old new x u at) tests.before d);
  })

  -- and where nothing does so, the row is parted from none
  own_unparted : (at j : ℕ) → own_row old t at ≡ Some j → (DiffersAbove old new t u at → ⊥) → (own_row old t at ≢ own_row new u at → ⊥) → (c : ℕ) → IsParted old new c j → ⊥
  own_unparted at j own none same c h =
      let s = same_row old tests.was h.was tests.params h.params at c j (before_at at j own) h.names.before in
      let r = same_row new tests.now h.now tests.params h.params at c j (after_at at j (both_own at j own same)) h.names.after in
      let p : is_virtual h.was h.params ≡ t = (λ i. is_virtual (s.named i) (s.takes i)) ∙ sym tests.before in
      let q : is_virtual h.now h.params ≡ u = (λ i. is_virtual (r.named i) (r.takes i)) ∙ sym tests.after in
      none (subst (λ (n : ℕ). DiffersAbove old new t u n) s.class
      (subst (λ (x : ℕ → Entry → Bool). DiffersAbove old new t x c) q (subst (λ (x : ℕ → Entry → Bool). DiffersAbove old new x (is_virtual h.now h.params) c) p h.differs)))

  module _ (acyclic : IsAcyclic old) where
    same_here : (at : ℕ) → (DiffersAbove old new t u at → ⊥) → own_row old t at ≢ own_row new u at → ⊥
    same_here at none differs = none (record { at = at; above = itself old acyclic at at refl; differs = differs })

    pub one_more : (marks more : List Bool) (at : ℕ) → AreUnparted old new marks → (DiffersAbove old new t u at → ⊥) → MarksOne marks (own_row old t at) more → AreUnparted old new more
    one_more marks more at unparted none ones j c m = by (ones j m)
      where
        by : ((slice_get marks j ≡ Some true) ⊎ (own_row old t at ≡ Some j)) → IsParted old new c j → ⊥
        by (inl was) = unparted j c was
        by (inr own) = own_unparted at j own none (same_here at none) c

    pub none_higher : (at p : ℕ) → parent_of old at ≡ Some p → (DiffersAbove old new t u at → ⊥) → DiffersAbove old new t u p → ⊥
    none_higher at p up none d = none (record { at = d.at; above = step old at p d.at up d.above; differs = d.differs })

-- ---- names of rows

pub method_tests : (was now : List ℕ) (params other : List Kind) → other ≡ params → (t u : ℕ → Entry → Bool) → t ≡ is_virtual was params → u ≡ is_virtual now other → AreMethodTests t u
method_tests was now params other same t u before after = record { was = was; now = now; params = params; before = before; after = after ∙ ap (is_virtual now) same }
