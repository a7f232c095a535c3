-- The lists that code computes are those of the relations on ways.
use Rattle.std.proofs.Common.{◌≡◌, ◌⊎◌, ℕ, zero, suc, ◌+◌, Bool, true, false, ◌&&◌, ◌||◌, List, [], ◌∷◌, ◌++◌, IsTrue, refl, ap, inl, inr, ⊎_elim}
use Rattle.jr_cover.specs.Ways.{Way, pass, one, row, fork, leave, turns, inside, size, Passes, LeavesAtOnce, First, Ends, Last, Leaves, Again, Edge}
use Rattle.jr_cover.specs.Flows.{Flow, when, fan, product, is_any, row_flow, fork_flow, ends_of, again_of, turns_flow, inside_flow, flow_of}

abbrev pub In : {A : Type 0} → A → List A → Type 0
In x [] = ⊥
In x (y ∷ l) = (x ≡ y) ⊎ In x l

pub record Iff (A B : Type 0) : Type 0 where
  pub to : A → B
  pub back : B → A

iff_or : {A B A' B' : Type 0} → Iff A A' → Iff B B' → Iff (A ⊎ B) (A' ⊎ B')
iff_or f g = record { to = λ h. ⊎_elim (λ a. inl (f.to a)) (λ b. inr (g.to b)) h; back = λ h. ⊎_elim (λ a. inl (f.back a)) (λ b. inr (g.back b)) h }

iff_and : {A B A' B' : Type 0} → Iff A A' → Iff B B' → Iff (A × B) (A' × B')
iff_and f g = record { to = λ h. (f.to h.0, g.to h.1); back = λ h. (f.back h.0, g.back h.1) }

chain : {A B C : Type 0} → Iff A B → Iff B C → Iff A C
chain f g = record { to = λ a. g.to (f.to a); back = λ c. f.back (g.back c) }

same : {A : Type 0} → Iff A A
same = record { to = λ a. a; back = λ a. a }

in_both : {A : Type 0} (x : A) (l m : List A) → Iff (In x (l ++ m)) (In x l ⊎ In x m)
in_both x [] m = record { to = λ h. inr h; back = λ h. ⊎_elim (λ a. absurd a) (λ b. b) h }
in_both x (y ∷ l) m = let r = in_both x l m in record {
  to = λ h. ⊎_elim (λ e. inl (inl e)) (λ t. ⊎_elim (λ a. inl (inr a)) (λ b. inr b) (r.to t)) h;
  back = λ h. ⊎_elim (λ a. ⊎_elim (λ e. inl e) (λ t. inr (r.back (inl t))) a) (λ b. inr (r.back (inr b))) h;
}

joined : {A : Type 0} (x : A) (l m : List A) {P Q : Type 0} → Iff (In x l) P → Iff (In x m) Q → Iff (In x (l ++ m)) (P ⊎ Q)
joined x l m f g = chain (in_both x l m) (iff_or f g)

no_true : {B : Type 0} → IsTrue false → B
no_true h = absurd (apart h)
  where
    apart : false ≡ true → ⊥
    apart i = cc

in_when : {A : Type 0} (x : A) (b : Bool) (l : List A) → Iff (In x (when b l)) (IsTrue b × In x l)
in_when x true l = record { to = λ h. (refl, h); back = λ h. h.1 }
in_when x false l = record { to = λ h. absurd h; back = λ h. no_true h.0 }

if_so : {A : Type 0} (x : A) (b : Bool) (l : List A) {P Q : Type 0} → Iff (IsTrue b) P → Iff (In x l) Q → Iff (In x (when b l)) (P × Q)
if_so x b l f g = chain (in_when x b l) (iff_and f g)

abbrev pub Pair : ℕ → ℕ → ℕ × ℕ
Pair i j = (i, j)

pair_is : (i j a b : ℕ) → Pair i j ≡ Pair a b → (i ≡ a) × (j ≡ b)
pair_is i j a b e = (ap (λ (p : ℕ × ℕ). p.0) e, ap (λ (p : ℕ × ℕ). p.1) e)

is_pair : (i j a b : ℕ) → i ≡ a → j ≡ b → Pair i j ≡ Pair a b
is_pair i j a b e f = λ k. (e k, f k)

in_fan : (i j n : ℕ) (l : List ℕ) → Iff (In (Pair i j) (fan n l)) ((i ≡ n) × In j l)
in_fan i j n [] = record { to = λ h. absurd h; back = λ h. h.1 }
in_fan i j n (k ∷ l) = let r = in_fan i j n l in record {
  to = λ h. ⊎_elim (λ e. let d = pair_is i j n k e in (d.0, inl d.1)) (λ t. let d = r.to t in (d.0, inr d.1)) h;
  back = λ h. ⊎_elim (λ e. inl (is_pair i j n k h.0 e)) (λ t. inr (r.back (h.0, t))) h.1;
}

in_product : (i j : ℕ) (l m : List ℕ) → Iff (In (Pair i j) (product l m)) (In i l × In j m)
in_product i j [] m = record { to = λ h. absurd h; back = λ h. h.0 }
in_product i j (k ∷ l) m = let r = in_product i j l m in let f = in_fan i j k m in let b = in_both (Pair i j) (fan k m) (product l m) in record {
  to = λ h. ⊎_elim (λ t. let d = f.to t in (inl d.0, d.1)) (λ t. let d = r.to t in (inr d.0, d.1)) (b.to h);
  back = λ h. ⊎_elim (λ e. b.back (inl (f.back (e, h.1)))) (λ t. b.back (inr (r.back (t, h.1)))) h.0;
}

times : (i j : ℕ) (l m : List ℕ) {P Q : Type 0} → Iff (In i l) P → Iff (In j m) Q → Iff (In (Pair i j) (product l m)) (P × Q)
times i j l m f g = chain (in_product i j l m) (iff_and f g)

fanned : (i j n : ℕ) (l : List ℕ) {Q : Type 0} → Iff (In j l) Q → Iff (In (Pair i j) (fan n l)) ((i ≡ n) × Q)
fanned i j n l g = chain (in_fan i j n l) (iff_and same g)

single : (i n : ℕ) → Iff (In i (n ∷ [])) (i ≡ n)
single i n = record { to = λ h. ⊎_elim (λ e. e) (λ a. absurd a) h; back = λ e. inl e }

and_true : (a b : Bool) {P Q : Type 0} → Iff (IsTrue a) P → Iff (IsTrue b) Q → Iff (IsTrue (a && b)) (P × Q)
and_true true b f g = record { to = λ h. (f.to refl, g.to h); back = λ h. g.back h.1 }
and_true false b f g = record { to = λ h. no_true h; back = λ h. f.back h.0 }

or_true : (a b : Bool) {P Q : Type 0} → Iff (IsTrue a) P → Iff (IsTrue b) Q → Iff (IsTrue (a || b)) (P ⊎ Q)
or_true true b f g = record { to = λ h. inl (f.to refl); back = λ h. refl }
or_true false b f g = record { to = λ h. inr (g.to h); back = λ h. ⊎_elim (λ p. no_true (f.back p)) (λ q. g.back q) h }

any_true : (l : List ℕ) {P : ℕ → Type 0} → ((i : ℕ) → Iff (In i l) (P i)) → Iff (IsTrue (is_any l)) ((i : ℕ) × P i)
any_true [] f = record { to = λ h. no_true h; back = λ h. absurd ((f h.0).back h.1) }
any_true (i ∷ l) f = record { to = λ h. (i, (f i).to (inl refl)); back = λ h. refl }

turn_round : {A P Q : Type 0} → Iff A (P × Q) → Iff A (Q × P)
turn_round f = record { to = λ a. let d = f.to a in (d.1, d.0); back = λ d. f.back (d.1, d.0) }

-- `A × (B × C)` as `A × B × C`
flat : {D A B C : Type 0} → Iff D (A × (B × C)) → Iff D (A × B × C)
flat f = record { to = λ d. let h = f.to d in (h.0, h.1.0, h.1.1); back = λ h. f.back (h.0, (h.1, h.2)) }

one_pair : (i j a b : ℕ) → Iff (In (Pair i j) (Pair a b ∷ [])) ((i ≡ a) × (j ≡ b))
one_pair i j a b = record { to = λ h. ⊎_elim (λ e. pair_is i j a b e) (λ z. absurd z) h; back = λ h. inl (is_pair i j a b h.0 h.1) }

false_is : Iff (IsTrue false) ⊥
false_is = record { to = λ h. no_true h; back = λ h. absurd h }

pub record IsFlow {S : Type 0} (n : ℕ) (w : Way S) (f : Flow) : Type 0 where
  pub firsts : (i : ℕ) → Iff (In i f.firsts) (First n w i)
  pub lasts : (i : ℕ) → Iff (In i f.lasts) (Last n w i)
  pub leaves : (i : ℕ) → Iff (In i f.leaves) (Leaves n w i)
  pub passes : Iff (IsTrue f.passes) (Passes w)
  pub leaves_at_once : Iff (IsTrue f.leaves_at_once) (LeavesAtOnce w)
  pub edges : (i j : ℕ) → Iff (In (Pair i j) f.edges) (Edge n w i j)

ends_are : (m n i : ℕ) (f g : Flow) {P L B : Type 0} → Iff (IsTrue f.passes) P → Iff (In i f.lasts) L → Iff (In i g.lasts) B → Iff (In i (ends_of m n f g)) (Ends m n i P L B)
ends_are zero n i f g p l b = single i n
ends_are (suc k) n i f g p l b = joined i f.lasts (when f.passes (n ∷ g.lasts)) l (if_so i f.passes (n ∷ g.lasts) p (record { to = λ h. ⊎_elim (λ e. inl e) (λ t. inr (b.to t)) h; back = λ h. ⊎_elim (λ e. inl e) (λ t. inr (b.back t)) h }))

again_is : (m n j : ℕ) (f : Flow) {F : Type 0} → Iff (In j f.firsts) F → Iff (In j (again_of m n f)) (Again m n j F)
again_is zero n j f g = single j n
again_is (suc k) n j f g = g

module _ {S : Type 0} where
  rowed : (n : ℕ) (a b : Way S) (f g : Flow) → IsFlow n a f → IsFlow (n + size a) b g → IsFlow n (row a b) (row_flow f g)
  rowed n a b f g x y = record {
    firsts = λ i. joined i f.firsts (when f.passes g.firsts) (x.firsts i) (if_so i f.passes g.firsts x.passes (y.firsts i));
    lasts = λ i. joined i g.lasts (when g.passes f.lasts) (y.lasts i) (if_so i g.passes f.lasts y.passes (x.lasts i));
    leaves = λ i. joined i f.leaves (g.leaves ++ when g.leaves_at_once f.lasts) (x.leaves i) (joined i g.leaves (when g.leaves_at_once f.lasts) (y.leaves i) (if_so i g.leaves_at_once f.lasts y.leaves_at_once (x.lasts i)));
    passes = and_true f.passes g.passes x.passes y.passes;
    leaves_at_once = or_true f.leaves_at_once (f.passes && g.leaves_at_once) x.leaves_at_once (and_true f.passes g.leaves_at_once x.passes y.leaves_at_once);
    edges = λ i j. joined (Pair i j) f.edges (g.edges ++ product f.lasts g.firsts) (x.edges i j) (joined (Pair i j) g.edges (product f.lasts g.firsts) (y.edges i j) (times i j f.lasts g.firsts (x.lasts i) (y.firsts j)));
  }

  forked : (n : ℕ) (a b : Way S) (f g : Flow) → IsFlow n a f → IsFlow (n + size a) b g → IsFlow n (fork a b) (fork_flow f g)
  forked n a b f g x y = record {
    firsts = λ i. joined i f.firsts g.firsts (x.firsts i) (y.firsts i);
    lasts = λ i. joined i f.lasts g.lasts (x.lasts i) (y.lasts i);
    leaves = λ i. joined i f.leaves g.leaves (x.leaves i) (y.leaves i);
    passes = or_true f.passes g.passes x.passes y.passes;
    leaves_at_once = or_true f.leaves_at_once g.leaves_at_once x.leaves_at_once y.leaves_at_once;
    edges = λ i j. joined (Pair i j) f.edges g.edges (x.edges i j) (y.edges i j);
  }

  turned : (n : ℕ) (s : S) (c b : Way S) (f g : Flow) → IsFlow (suc n) c f → IsFlow (suc n + size c) b g → IsFlow n (turns s c b) (turns_flow (size c) n f g)
  turned n s c b f g x y = record {
    firsts = λ i. single i n;
    lasts = ends;
    leaves = λ i. joined i g.leaves (when g.leaves_at_once (ends_of (size c) n f g)) (y.leaves i) (if_so i g.leaves_at_once (ends_of (size c) n f g) y.leaves_at_once (ends i));
    passes = false_is;
    leaves_at_once = false_is;
    edges = λ i j.
        joined (Pair i j) f.edges _ (x.edges i j)
        (joined (Pair i j) g.edges _ (y.edges i j)
        (joined (Pair i j) (fan n f.firsts) _ (fanned i j n f.firsts (x.firsts j))
        (joined (Pair i j) (product (ends_of (size c) n f g) g.firsts) _ (times i j (ends_of (size c) n f g) g.firsts (ends i) (y.firsts j))
        (joined (Pair i j) (product g.lasts (again_of (size c) n f)) _ (times i j g.lasts (again_of (size c) n f) (y.lasts i) (again_is (size c) n j f (x.firsts j)))
        (flat (chain (if_so (Pair i j) g.passes (product (ends_of (size c) n f g) (again_of (size c) n f)) y.passes (times i j (ends_of (size c) n f g) (again_of (size c) n f) (ends i) (again_is (size c) n j f (x.firsts j)))) same))))));
  }
    where
      ends : (i : ℕ) → Iff (In i (ends_of (size c) n f g)) (Last n (turns s c b) i)
      ends i = ends_are (size c) n i f g x.passes (x.lasts i) (y.lasts i)

  entered : (n : ℕ) (e : S) (b : Way S) (x : S) (g : Flow) → IsFlow (suc n) b g → IsFlow n (inside e b x) (inside_flow n (suc n + size b) g)
  entered n e b x g y = record {
    firsts = λ i. single i n;
    lasts = λ i. turn_round (if_so i (g.passes || is_any g.lasts) ((suc n + size b) ∷ []) (or_true g.passes (is_any g.lasts) y.passes (any_true g.lasts y.lasts)) (single i (suc n + size b)));
    leaves = λ i. turn_round (if_so i (g.leaves_at_once || is_any g.leaves) ((suc n + size b) ∷ []) (or_true g.leaves_at_once (is_any g.leaves) y.leaves_at_once (any_true g.leaves y.leaves)) (single i (suc n + size b)));
    passes = false_is;
    leaves_at_once = false_is;
    edges = λ i j.
        joined (Pair i j) g.edges _ (y.edges i j)
        (joined (Pair i j) (fan n g.firsts) _ (fanned i j n g.firsts (y.firsts j))
        (joined (Pair i j) (product g.lasts ((suc n + size b) ∷ [])) _ (times i j g.lasts ((suc n + size b) ∷ []) (y.lasts i) (single j (suc n + size b)))
        (joined (Pair i j) (product g.leaves ((suc n + size b) ∷ [])) _ (times i j g.leaves ((suc n + size b) ∷ []) (y.leaves i) (single j (suc n + size b)))
        (flat (if_so (Pair i j) (g.passes || g.leaves_at_once) (Pair n (suc n + size b) ∷ []) (or_true g.passes g.leaves_at_once y.passes y.leaves_at_once) (one_pair i j n (suc n + size b)))))));
  }

  pub flow_is : (n : ℕ) (w : Way S) → IsFlow n w (flow_of n w)
  flow_is n pass = record { firsts = λ i. same; lasts = λ i. same; leaves = λ i. same; passes = record { to = λ h. tt; back = λ h. refl }; leaves_at_once = false_is; edges = λ i j. same }
  flow_is n (one s) = record { firsts = λ i. single i n; lasts = λ i. single i n; leaves = λ i. same; passes = false_is; leaves_at_once = false_is; edges = λ i j. same }
  flow_is n (row a b) = rowed n a b (flow_of n a) (flow_of (n + size a) b) (flow_is n a) (flow_is (n + size a) b)
  flow_is n (fork a b) = forked n a b (flow_of n a) (flow_of (n + size a) b) (flow_is n a) (flow_is (n + size a) b)
  flow_is n leave = record { firsts = λ i. same; lasts = λ i. same; leaves = λ i. same; passes = false_is; leaves_at_once = record { to = λ h. tt; back = λ h. refl }; edges = λ i j. same }
  flow_is n (turns s c b) = turned n s c b (flow_of (suc n) c) (flow_of (suc n + size c) b) (flow_is (suc n) c) (flow_is (suc n + size c) b)
  flow_is n (inside e b x) = entered n e b x (flow_of (suc n) b) (flow_is (suc n) b)
