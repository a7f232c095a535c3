-- An expression of any kind goes past silent code: code that makes nothing, and writes locals that the
-- expression neither reads nor writes, and reads none that it writes. What the code reads agrees before
-- the expression and behind it; what it writes agrees behind both.
use Rattle.std.proofs.Common.{◌≡◌, ◌⊎◌, ℕ, IsTrue, List, [], ◌∷◌, ◌++◌, map, refl, sym, ap, ◌∙◌, subst, inl, inr, ⊎_elim}
use Rattle.jr_plans.specs.Plan.{done}
use Rattle.jr_runs.specs.Keys.{Keys}
use Rattle.jr_runs.specs.Values.{Value}
use Rattle.jr_runs.specs.Arithmetic.{value}
use Rattle.jr_runs.specs.Core.{Exp}
use Rattle.jr_runs.specs.Evaluation.{Step, next, local_at, with_local, exp}
use Rattle.jr_runs.specs.KeyMaps.{KeyMap, value_image}
use Rattle.jr_runs.specs.Standing.{Self, itself, held, nobody, unused, SelfIn, SelfIs, Standing, Stands, In, Frame, Holding, Shifted}
use Rattle.jr_runs.specs.Sets.{NumberSet, with_all}
use Rattle.jr_runs.specs.Images.{ExpTo}
use Rattle.jr_runs.proofs.Locals.{in_all, written, not_written as elsewhere}
use Rattle.jr_runs.specs.Pairs.{ResultRel}
use Rattle.jr_runs.proofs.Numbers.{is_in, in_left, in_right, in_both, in_map, map_in}
use Rattle.jr_runs.proofs.Matching.{Setting, Matches, match_next, match_value}
use Rattle.jr_runs.proofs.ImageExps.{exp_match}
use Rattle.jr_runs_held.proofs.Steps.{next_id}

-- what silent code makes of locals, in the old member and in the new one: it reads these, and writes those
pub record Update {K : Keys} (r : KeyMap K) (s : Standing K) (reads writes : List ℕ) : Type 0 where
  pub old : List (Value K) → List (Value K)
  pub new : List (Value K) → List (Value K)
  pub old_stays : (l : List (Value K)) (i : ℕ) → (In i writes → ⊥) → local_at (old l) i ≡ local_at l i
  pub new_stays : (l' : List (Value K)) (j : ℕ) → (In j (map s.code.at writes) → ⊥) → local_at (new l') j ≡ local_at l' j
  pub old_same : (l m : List (Value K)) → ((i : ℕ) → In i reads → local_at m i ≡ local_at l i) → (i : ℕ) → In i writes → local_at (old m) i ≡ local_at (old l) i
  pub image : (l l' : List (Value K)) → ((i : ℕ) → In i reads → local_at l' (s.code.at i) ≡ value_image r (local_at l i)) → (i : ℕ) → In i writes → local_at (new l') (s.code.at i) ≡ value_image r (local_at (old l) i)

abbrev pub put_unless : {A : Type 0} → A ⊎ (A → ⊥) → ℕ → List ℕ → List ℕ
put_unless (inl a) i is = is
put_unless (inr b) i is = i ∷ is

-- all but those that are written
abbrev pub without : List ℕ → List ℕ → List ℕ
without ws [] = []
without ws (i ∷ is) = put_unless (is_in i ws) i (without ws is)

pub left_in : (ws is : List ℕ) (i : ℕ) → In i (without ws is) → In i is × (In i ws → ⊥)
left_in ws [] i h = absurd h
left_in ws (j ∷ is) i h = go (is_in j ws) h (λ g. left_in ws is i g)
  where
    go : (d : In j ws ⊎ (In j ws → ⊥)) → In i (put_unless d j (without ws is)) → (In i (without ws is) → In i is × (In i ws → ⊥)) → In i (j ∷ is) × (In i ws → ⊥)
    go (inl a) g again = (inr (again g).0, (again g).1)
    go (inr b) g again = ⊎_elim (λ (e : i ≡ j). (inl e, λ w. b (subst (λ n. In n ws) e w))) (λ k. (inr (again k).0, (again k).1)) g

pub still_in : (ws is : List ℕ) (i : ℕ) → In i is → (In i ws → ⊥) → In i (without ws is)
still_in ws [] i h never = absurd h
still_in ws (j ∷ is) i h never = go (is_in j ws) h (λ g. still_in ws is i g never)
  where
    go : (d : In j ws ⊎ (In j ws → ⊥)) → In i (j ∷ is) → (In i is → In i (without ws is)) → In i (put_unless d j (without ws is))
    go (inl a) g again = ⊎_elim (λ (e : i ≡ j). absurd (never (subst (λ n. In n ws) (sym e) a))) again g
    go (inr b) g again = ⊎_elim (λ (e : i ≡ j). inl e) (λ k. inr (again k)) g

-- How the expression stands: the locals that the code writes are none of its own; those that the code
-- reads or writes stay as they are.
abbrev pub past : {K : Keys} → Standing K → (reads writes : List ℕ) → Standing K
past s reads writes = record {
  code = record { mine = without writes s.code.mine; at = s.code.at; self = s.code.self; classes = s.code.classes; known = reads ++ (writes ++ s.code.known); holds = []; casts = [] };
  others = map s.code.at writes ++ s.others;
}

module _ {K : Keys} (g : Setting K) (s : Standing K) (stands : Stands s) (frame : Frame K) (me me' : Value K) (im : Holding g.old g.keys s.code frame me me')
    (reads writes : List ℕ) (own_writes : (i : ℕ) → In i writes → In i s.code.mine) (own_reads : (i : ℕ) → In i reads → In i s.code.mine) (unknown : (i : ℕ) → In i writes → In i s.code.known → ⊥)
    (u : Update g.keys s reads writes) (A B : NumberSet) (agree_before : (i : ℕ) → In i reads → IsTrue (A i)) (agree_behind : (i : ℕ) → In i reads → IsTrue (B i))
    (e e' : Exp K) (e_to : ExpTo g.keys g.old (past s reads writes).code A e e' B) (l l' : List (Value K)) (h : Shifted g.keys s frame A l l') where
  abbrev inner : Standing K
  inner = past s reads writes

  -- no image of one that is not written is written
  image_in : (i : ℕ) → In i s.code.mine → In (s.code.at i) (map s.code.at writes) → In i writes
  image_in i b o = let m = map_in s.code.at (s.code.at i) writes o in subst (λ n. In n writes) (sym (stands.injective i m.0 b (own_writes m.0 m.1) m.2)) m.1

  self_in : (self : Self) → SelfIn self s.others → SelfIn self inner.others
  self_in itself k = k
  self_in (held n) k = in_right n (map s.code.at writes) s.others k
  self_in nobody k = k
  self_in unused k = k

  inner_stands : Stands inner
  inner_stands = record {
    injective = λ i j a b. stands.injective i j (left_in writes s.code.mine i a).0 (left_in writes s.code.mine j b).0;
    apart = λ i a o. (let p = left_in writes s.code.mine i a in
        ⊎_elim (λ k. p.1 (image_in i p.0 k)) (λ k. stands.apart i p.0 k) (in_both (s.code.at i) (map s.code.at writes) s.others o));
    self = self_in s.code.self stands.self;
    held = tt;
    cast = tt;
  }

  abbrev inner_frame : Frame K
  inner_frame = record { here = u.old l; there = l' }

  self_is : (self : Self) → SelfIn self s.others → SelfIs g.keys self frame me me' → SelfIs g.keys self inner_frame me me'
  self_is itself k q = q
  self_is (held n) k q = h.others n k ∙ q
  self_is nobody k q = q
  self_is unused k q = q

  inner_holding : Holding g.old g.keys inner.code inner_frame me me'
  inner_holding = record { self = self_is s.code.self stands.self im.self; classes = im.classes; holds = tt; casts = tt }

  inner_shifted : Shifted g.keys inner inner_frame A (u.old l) l'
  inner_shifted = record {
    moved = λ i a c. (let p = left_in writes s.code.mine i a in h.moved i p.0 c ∙ ap (value_image g.keys) (sym (u.old_stays l i p.1)));
    others = λ j o. refl;
    known = λ i o. refl;
  }

  -- behind the expression
  module _ (m m' : List (Value K)) (q : Shifted g.keys inner inner_frame B m m') where
    kept : (i : ℕ) → In i s.code.mine → IsTrue (B i) → (In i writes → ⊥) → local_at m' (s.code.at i) ≡ value_image g.keys (local_at m i)
    kept i b c o = q.moved i (still_in writes s.code.mine i b o) c

    read_still : (j : ℕ) → In j reads → local_at m' (s.code.at j) ≡ value_image g.keys (local_at l j)
    read_still j o = ⊎_elim
        (λ (w : In j writes). q.others (s.code.at j) (in_left (s.code.at j) (map s.code.at writes) s.others (in_map s.code.at j writes w)) ∙ h.moved j (own_reads j o) (agree_before j o))
        (λ (w : In j writes → ⊥). kept j (own_reads j o) (agree_behind j o) w ∙ ap (value_image g.keys) (q.known j (in_left j reads (writes ++ s.code.known) o) ∙ u.old_stays l j w))
        (is_in j writes)

    behind : Shifted g.keys s frame (with_all B writes) m (u.new m')
    behind = record {
      moved = λ i b c. ⊎_elim
          (λ (w : In i writes). u.image l m' read_still i w ∙ ap (value_image g.keys) (sym (q.known i (in_right i reads (writes ++ s.code.known) (in_left i writes s.code.known w)))))
          (λ (w : In i writes → ⊥). u.new_stays m' (s.code.at i) (λ k. w (image_in i b k)) ∙ kept i b (in_all B writes i w c) w)
          (is_in i writes);
      others = λ j o. u.new_stays m' j (λ k. (let d = map_in s.code.at j writes k in stands.apart d.0 (own_writes d.0 d.1) (subst (λ n. In n s.others) d.2 o)))
          ∙ q.others j (in_right j (map s.code.at writes) s.others o) ∙ h.others j o;
      known = λ i o. q.known i (in_right i reads (writes ++ s.code.known) (in_right i writes s.code.known o)) ∙ u.old_stays l i (λ w. unknown i w o) ∙ h.known i o;
    }

  -- the old program has the silent code first, and the new one the expression
  pub goes_past : Matches g (ResultRel g.keys s frame (with_all B writes)) (exp g.old me e (u.old l)) (next (exp g.new me' e' l') (λ r. done (value (r.0, u.new r.1))))
  goes_past = subst (λ p. Matches g (ResultRel g.keys s frame (with_all B writes)) p (next (exp g.new me' e' l') (λ r. done (value (r.0, u.new r.1))))) (next_id (exp g.old me e (u.old l)))
      (match_next g (ResultRel g.keys inner inner_frame B) (ResultRel g.keys s frame (with_all B writes)) (exp g.old me e (u.old l)) (exp g.new me' e' l') (λ a. done (value a)) (λ r. done (value (r.0, u.new r.1)))
      (exp_match g inner inner_stands inner_frame me me' inner_holding A B e e' e_to (u.old l) l' inner_shifted)
      (λ a a' q. match_value g (ResultRel g.keys s frame (with_all B writes)) a (a'.0, u.new a'.1) (q.0, behind a.1 a'.1 q.1)))

  -- The same where a further local n of the new code first keeps what the expression comes to, and holds it behind.
  module _ (n : ℕ) (fresh : (i : ℕ) → In i s.code.mine → s.code.at i ≡ n → ⊥) (fresh_others : In n s.others → ⊥) where
    not_image : In n (map s.code.at writes) → ⊥
    not_image k = let d = map_in s.code.at n writes k in fresh d.0 (own_writes d.0 d.1) (sym d.2)

    not_number : (j : ℕ) → In j inner.others → j ≡ n → ⊥
    not_number j o e = ⊎_elim (λ k. not_image (subst (λ x. In x (map s.code.at writes)) e k)) (λ k. fresh_others (subst (λ x. In x s.others) e k)) (in_both j (map s.code.at writes) s.others o)

    -- writing it changes nothing of what is related
    kept_too : (m m' : List (Value K)) (v : Value K) → Shifted g.keys inner inner_frame B m m' → Shifted g.keys inner inner_frame B m (with_local m' n v)
    kept_too m m' v q = record {
      moved = λ i a c. elsewhere m' n (s.code.at i) v (λ e. fresh i (left_in writes s.code.mine i a).0 e) ∙ q.moved i a c;
      others = λ j o. elsewhere m' n j v (not_number j o) ∙ q.others j o;
      known = q.known;
    }

    abbrev pub keep : Value K × List (Value K) → Step K (Value K × List (Value K))
    keep r = let m = u.new (with_local r.1 n r.0) in done (value (local_at m n, m))

    pub past_and_held : Matches g (ResultRel g.keys s frame (with_all B writes)) (exp g.old me e (u.old l)) (next (exp g.new me' e' l') keep)
    past_and_held = subst (λ p. Matches g (ResultRel g.keys s frame (with_all B writes)) p (next (exp g.new me' e' l') keep)) (next_id (exp g.old me e (u.old l)))
        (match_next g (ResultRel g.keys inner inner_frame B) (ResultRel g.keys s frame (with_all B writes)) (exp g.old me e (u.old l)) (exp g.new me' e' l') (λ a. done (value a)) keep
        (exp_match g inner inner_stands inner_frame me me' inner_holding A B e e' e_to (u.old l) l' inner_shifted)
        (λ a a' q. let m = with_local a'.1 n a'.0 in
        match_value g (ResultRel g.keys s frame (with_all B writes)) a (local_at (u.new m) n, u.new m) (u.new_stays m n not_image ∙ written a'.1 n a'.0 ∙ q.0, behind a.1 m (kept_too a.1 a'.1 a'.0 q.1))))

  -- ---- and the other way round: the old program has the expression first, and the new one the silent code

  abbrev first_frame : Frame K
  first_frame = record { here = l; there = u.new l' }

  not_written : (j : ℕ) → In j s.others → In j (map s.code.at writes) → ⊥
  not_written j o k = let d = map_in s.code.at j writes k in stands.apart d.0 (own_writes d.0 d.1) (subst (λ n. In n s.others) d.2 o)

  first_self : (self : Self) → SelfIn self s.others → SelfIs g.keys self frame me me' → SelfIs g.keys self first_frame me me'
  first_self itself k q = q
  first_self (held n) k q = u.new_stays l' n (not_written n k) ∙ h.others n k ∙ q
  first_self nobody k q = q
  first_self unused k q = q

  first_holding : Holding g.old g.keys inner.code first_frame me me'
  first_holding = record { self = first_self s.code.self stands.self im.self; classes = im.classes; holds = tt; casts = tt }

  first_shifted : Shifted g.keys inner first_frame A l (u.new l')
  first_shifted = record {
    moved = λ i a c. (let p = left_in writes s.code.mine i a in u.new_stays l' (s.code.at i) (λ k. p.1 (image_in i p.0 k)) ∙ h.moved i p.0 c);
    others = λ j o. refl;
    known = λ i o. refl;
  }

  module _ (m m' : List (Value K)) (q : Shifted g.keys inner first_frame B m m') where
    in_front : Shifted g.keys s frame (with_all B writes) (u.old m) m'
    in_front = record {
      moved = λ i b c. ⊎_elim
          (λ (w : In i writes). q.others (s.code.at i) (in_left (s.code.at i) (map s.code.at writes) s.others (in_map s.code.at i writes w))
          ∙ u.image l l' (λ j o. h.moved j (own_reads j o) (agree_before j o)) i w
          ∙ ap (value_image g.keys) (sym (u.old_same l m (λ j o. q.known j (in_left j reads (writes ++ s.code.known) o)) i w)))
          (λ (w : In i writes → ⊥). q.moved i (still_in writes s.code.mine i b w) (in_all B writes i w c) ∙ ap (value_image g.keys) (sym (u.old_stays m i w)))
          (is_in i writes);
      others = λ j o. q.others j (in_right j (map s.code.at writes) s.others o) ∙ u.new_stays l' j (not_written j o) ∙ h.others j o;
      known = λ i o. u.old_stays m i (λ w. unknown i w o) ∙ q.known i (in_right i reads (writes ++ s.code.known) (in_right i writes s.code.known o)) ∙ h.known i o;
    }

  pub goes_before : Matches g (ResultRel g.keys s frame (with_all B writes)) (next (exp g.old me e l) (λ r. done (value (r.0, u.old r.1)))) (exp g.new me' e' (u.new l'))
  goes_before = subst (Matches g (ResultRel g.keys s frame (with_all B writes)) (next (exp g.old me e l) (λ r. done (value (r.0, u.old r.1))))) (next_id (exp g.new me' e' (u.new l')))
      (match_next g (ResultRel g.keys inner first_frame B) (ResultRel g.keys s frame (with_all B writes)) (exp g.old me e l) (exp g.new me' e' (u.new l')) (λ r. done (value (r.0, u.old r.1))) (λ a. done (value a))
      (exp_match g inner inner_stands first_frame me me' first_holding A B e e' e_to l (u.new l') first_shifted)
      (λ a a' q. match_value g (ResultRel g.keys s frame (with_all B writes)) (a.0, u.old a.1) a' (q.0, in_front a.1 a'.1 q.1)))
