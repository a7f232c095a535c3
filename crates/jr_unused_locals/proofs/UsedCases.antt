-- Ways to a read, step by step; where there is none, by cases on the edges.
use Rattle.std.proofs.Common.{◌≡◌, ◌⊎◌, ◌<◌, ◌≤◌, ℕ, true, false, List, [], ◌∷◌, None, refl, ap, subst, inl, inr, ⊎_elim, arith}
use Rattle.jr_cover.specs.Ways.{Way, pass, row, fork, turns, Edge}
use Rattle.jr_cover.proofs.FlowLaws.{In, flow_is}
use Rattle.jr_unused_locals.specs.Agreement.{here, in_body, Comes, reads_here, onward, InPiece}
use Rattle.jr_unused_locals.specs.UsedCases.{Use, read_site, write_site, other_site, reads_in, writes_in, piece, IsUsedIn, IsUsedBy, condition, body, loop_way, IsUsedOutside, IsReadFirstIn, StaysIn, UsedCases}

no_truth : false ≡ true → ⊥
no_truth e = cc

no_falsehood : true ≡ false → ⊥
no_falsehood e = cc

read_behind : IsUsedBy read_site
read_behind = record { from = 1; to = 2; in_piece = (omega arith, omega arith); round = inr (inr (inl refl, refl)); comes = reads_here 2 refl }

-- ---- written again

abbrev again : Way Use
again = row piece (row write_site read_site)

never_two : Comes (reads_in again) (writes_in again) (Edge 0 again) 2 → ⊥
never_two (reads_here j e) = no_truth e
never_two (onward j k w e c) = no_falsehood w

not_again : IsUsedBy (row write_site read_site) → ⊥
not_again u = from u.from u.to u.in_piece u.round u.comes
  where
    from : (i j : ℕ) → InPiece 0 piece i → ⊥ ⊎ Edge 2 (row write_site read_site) i j ⊎ ((i ≡ 1) ⊎ (⊥ × (i ≡ 0))) × ((j ≡ 2) ⊎ (⊥ × (j ≡ 3))) → Comes (reads_in again) (writes_in again) (Edge 0 again) j → ⊥
    from i j h (inl e) c = e
    from i j h (inr (inl e)) c = ⊎_elim (λ x. x) (λ y. ⊎_elim (λ x. x) (λ x. let k : i ≡ 2 = x.0 in let l : i < 2 = h.1 in omega (arith, k, l)) y) e
    from i j h (inr (inr e)) c = ⊎_elim (λ x. never_two (subst (λ n. Comes (reads_in again) (writes_in again) (Edge 0 again) n) x c)) (λ x. x.0) e.1

-- ---- a branch, a loop

abbrev branched : Way Use
branched = row piece (row (row other_site (fork write_site pass)) read_site)

-- `b` is 2, the write 3, the read 4: past the write
branch : IsUsedBy (row (row other_site (fork write_site pass)) read_site)
branch = record {
  from = 1;
  to = 2;
  in_piece = (omega arith, omega arith);
  round = inr (inr (inl refl, inl (inl refl)));
  comes = onward 2 4 refl (inr (inl (inr (inr (inr (inr tt, refl), refl))))) (reads_here 4 refl);
}

-- the loop is 2, `b` 3, the write 4, the read 5
loop_passed : IsUsedBy (row (turns None other_site write_site) read_site)
loop_passed = record {
  from = 1;
  to = 2;
  in_piece = (omega arith, omega arith);
  round = inr (inr (inl refl, inl refl));
  comes = onward 2 3 refl (inr (inl (inl (inr (inr (inl (refl, refl))))))) (onward 3 5 refl (inr (inl (inr (inr (inl refl, refl))))) (reads_here 5 refl));
}

-- ---- a loop whose condition is passed

round_loop : IsUsedIn loop_way 2 body (in_body 0 None condition body here)
round_loop = record {
  from = 6;
  to = 2;
  in_piece = (omega arith, omega arith);
  round = inr (inr (inr (inl (inr ((tt, inr tt), inr (inl (inl (inl (inl refl))))), inl refl))));
  comes = reads_here 2 refl;
}

never_one : Comes (reads_in loop_way) (writes_in loop_way) (Edge 0 loop_way) 1 → ⊥
never_one (reads_here j e) = no_truth e
never_one (onward j k w e c) = no_falsehood w

-- the edges of the loop: in its body, into the condition and the body, back to both
abbrev all_edges : List (ℕ × ℕ)
all_edges = (5, 6) ∷ (4, 5) ∷ (3, 4) ∷ (2, 3) ∷ (0, 1) ∷ (1, 2) ∷ (0, 2) ∷ (6, 2) ∷ (6, 1) ∷ []

abbrev pair : ℕ → ℕ → ℕ × ℕ
pair i j = (i, j)

pair_is : (i j a b : ℕ) → pair i j ≡ pair a b → (i ≡ a) × (j ≡ b)
pair_is i j a b e = (ap (λ (p : ℕ × ℕ). p.0) e, ap (λ (p : ℕ × ℕ). p.1) e)

module _ (i j : ℕ) (h : InPiece 2 body i) (out : InPiece 2 body j → ⊥) (c : Comes (reads_in loop_way) (writes_in loop_way) (Edge 0 loop_way) j) where
  -- an edge to a site of the piece is none to one outside
  inner : (a b : ℕ) → 2 ≤ b → b < 7 → pair i j ≡ pair a b → ⊥
  inner a b l m e =
      let q : j ≡ b = (pair_is i j a b e).1 in
      out (omega (arith, l, q), omega (arith, m, q))

  -- an edge from another site is none from the piece
  outer : (a b : ℕ) → a < 2 → pair i j ≡ pair a b → ⊥
  outer a b l e =
      let q : i ≡ a = (pair_is i j a b e).0 in
      let k : 2 ≤ i = h.0 in
      omega (arith, l, q, k)

  none_left : In (pair i j) all_edges → ⊥
  none_left (inl e) = inner 5 6 (omega arith) (omega arith) e
  none_left (inr (inl e)) = inner 4 5 (omega arith) (omega arith) e
  none_left (inr (inr (inl e))) = inner 3 4 (omega arith) (omega arith) e
  none_left (inr (inr (inr (inl e)))) = inner 2 3 (omega arith) (omega arith) e
  none_left (inr (inr (inr (inr (inl e))))) = outer 0 1 (omega arith) e
  none_left (inr (inr (inr (inr (inr (inl e)))))) = inner 1 2 (omega arith) (omega arith) e
  none_left (inr (inr (inr (inr (inr (inr (inl e))))))) = inner 0 2 (omega arith) (omega arith) e
  none_left (inr (inr (inr (inr (inr (inr (inr (inl e)))))))) = inner 6 2 (omega arith) (omega arith) e
  none_left (inr (inr (inr (inr (inr (inr (inr (inr (inl e))))))))) = never_one (subst (λ n. Comes (reads_in loop_way) (writes_in loop_way) (Edge 0 loop_way) n) (pair_is i j 6 1 e).1 c)
  none_left (inr (inr (inr (inr (inr (inr (inr (inr (inr e))))))))) = e

not_outside : IsUsedOutside loop_way 2 body → ⊥
not_outside u = none_left u.0 u.1 u.2 u.3 u.5 (((flow_is 0 loop_way).edges u.0 u.1).back u.4)

-- ---- a list alone

abbrev written : Way Use
written = row write_site read_site

not_first : IsReadFirstIn written → ⊥
not_first r = ⊎_elim (λ e. never_zero (subst (λ n. Comes (reads_in written) (writes_in written) (Edge 0 written) n) e r.comes)) (λ x. x.0) r.begins
  where
    never_zero : Comes (reads_in written) (writes_in written) (Edge 0 written) 0 → ⊥
    never_zero (reads_here j e) = no_truth e
    never_zero (onward j k w e c) = no_falsehood w

-- `b` is 0, the write 1, the read 2
past_a_branch : IsReadFirstIn (row (row other_site (fork write_site pass)) read_site)
past_a_branch = record {
  at = 0;
  begins = inl (inl refl);
  comes = onward 0 2 refl (inr (inr (inr (inr tt, refl), refl))) (reads_here 2 refl);
}

always_written : StaysIn piece → ⊥
always_written p = ⊎_elim (λ e. no_falsehood (subst (λ n. writes_in piece n ≡ false) e p.unwritten)) (λ x. x.0) p.ends

staying : StaysIn (row other_site (fork write_site pass))
staying = record { from = 0; to = 0; begins = inl refl; ends = inr (inr tt, refl); path = inl refl; unwritten = refl }

pub used_cases : UsedCases
used_cases = record {
  read_behind = read_behind;
  not_where_written_again = not_again;
  written_in_one_branch = branch;
  written_in_a_loop = loop_passed;
  round_a_loop = round_loop;
  not_by_a_site_outside = not_outside;
  not_first_behind_a_write = not_first;
  first_past_a_branch = past_a_branch;
  written_on_each_path = always_written;
  may_stay = staying;
}
