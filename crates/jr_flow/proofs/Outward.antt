-- A search on its way, and at its end.
use Rattle.std.proofs.Common.{◌≡◌, ◌⊎◌, ◌<◌, ℕ, ◌+◌, ◌*◌, ◌/◌, List, sym, subst, inl, inr, arith}
use Rattle.jr_flow.specs.Rows.{Has, Merges}
use Rattle.jr_flow.specs.Spreading.{Spread, at_once, onward, Spreads, Searches}

module _ (width : ℕ) (stops : List ℕ) where
  pub spreads_none : (rows : List ℕ) → Spreads width (64 * width) stops (λ b. ⊥) rows rows
  spreads_none rows = record {
    others = λ a c apart lt h. h;
    found = λ c lt h. at_once c h;
    kept = λ a c h. h;
    merged = λ b c none inside free has h lt. absurd none;
  }

  -- a node that isn't passed
  pub spreads_past : (node : ℕ) (rows : List ℕ) → ((Has stops width 0 node → ⊥) → Has rows width (64 * width) node → ⊥) → Spreads width (64 * width) stops (λ b. b ≡ node) rows rows
  spreads_past node rows never = record {
    others = λ a c apart lt h. h;
    found = λ c lt h. at_once c h;
    kept = λ a c h. h;
    merged = λ b c is inside free has h lt.
        absurd (never (λ stop. free (subst (λ (n : ℕ). Has stops width 0 n) (sym is) stop)) (subst (λ (n : ℕ). Has rows width (64 * width) n) is has));
  }

  pub spreads_merges : (node : ℕ) (old new : List ℕ) → node / 64 < width → (Has stops width 0 node → ⊥) → Has old width (64 * width) node
      → Merges width node (64 * width) width old new → Spreads width (64 * width) stops (λ b. b ≡ node) old new
  spreads_merges node old new inside free has m = record {
    others = λ a c apart lt h. other a c apart (m.only a c lt h);
    found = λ c lt h. by c (m.only (64 * width) c lt h);
    kept = m.kept;
    merged = λ b c is within unshut had h lt. m.has c lt (subst (λ (n : ℕ). Has old width n c) is h);
  }
    where
      other : (a c : ℕ) → (a ≡ 64 * width → ⊥) → (Has old width a c ⊎ ((a ≡ 64 * width) × Has old width node c)) → Has old width a c
      other a c apart (inl h) = h
      other a c apart (inr h) = absurd (apart h.0)

      by : (c : ℕ) → (Has old width (64 * width) c ⊎ ((64 * width ≡ 64 * width) × Has old width node c)) → Spread width (64 * width) stops old c
      by c (inl h) = at_once c h
      by c (inr h) = onward node c inside free (at_once node has) h.1

  -- what is reached through rows that a search has extended was reached before
  reached_again : (old mid : List ℕ) (M : ℕ → Type 0) → Spreads width (64 * width) stops M old mid → (c : ℕ) → c / 64 < width
      → Spread width (64 * width) stops mid c → Spread width (64 * width) stops old c
  reached_again old mid M s c lt (at_once _ h) = s.found c lt h
  reached_again old mid M s c lt (onward b _ inside free d h) =
      let apart : b ≡ 64 * width → ⊥ = λ e. absurd (omega arith) in
      onward b c inside free (reached_again old mid M s b inside d) (s.others b c apart lt h)

  pub spreads_more : (M N : ℕ → Type 0) (old mid new : List ℕ) → Spreads width (64 * width) stops M old mid → Spreads width (64 * width) stops N mid new
      → Spreads width (64 * width) stops (λ b. M b ⊎ N b) old new
  spreads_more M N old mid new first second = record {
    others = λ a c apart lt h. first.others a c apart lt (second.others a c apart lt h);
    found = λ c lt h. reached_again old mid M first c lt (second.found c lt h);
    kept = λ a c h. second.kept a c (first.kept a c h);
    merged = λ b c which inside free has h lt. either b c inside free has h lt which;
  }
    where
      either : (b c : ℕ) → b / 64 < width → (Has stops width 0 b → ⊥) → Has old width (64 * width) b → Has old width b c → c / 64 < width → (M b ⊎ N b)
          → Has new width (64 * width) c
      either b c inside free has h lt (inl m) = second.kept (64 * width) c (first.merged b c m inside free has h lt)
      either b c inside free has h lt (inr n) = second.merged b c n inside free (first.kept (64 * width) b has) (first.kept b c h) lt

  pub spreads_part : (M N : ℕ → Type 0) (old new : List ℕ) → ((b : ℕ) → b / 64 < width → N b → M b) → Spreads width (64 * width) stops M old new
      → Spreads width (64 * width) stops N old new
  spreads_part M N old new f s = record {
    others = s.others;
    found = s.found;
    kept = s.kept;
    merged = λ b c n inside free has h lt. s.merged b c (f b inside n) inside free has h lt;
  }

  one_more : (n b : ℕ) → b < n + 1 → (b < n) ⊎ (b ≡ n)
  one_more n b lt = grind arith

  pub node_next : (node : ℕ) (old mid new : List ℕ) → Spreads width (64 * width) stops (λ b. b < node) old mid → Spreads width (64 * width) stops (λ b. b ≡ node) mid new
      → Spreads width (64 * width) stops (λ b. b < node + 1) old new
  node_next node old mid new first second =
      spreads_part (λ b. (b < node) ⊎ (b ≡ node)) (λ b. b < node + 1) old new (λ b inside lt. one_more node b lt)
      (spreads_more (λ b. b < node) (λ b. b ≡ node) old mid new first second)

  -- ---- at the end

  module _ (first old new : List ℕ) (before : Spreads width (64 * width) stops (λ b. ⊥) first old) (all : Spreads width (64 * width) stops (λ b. b / 64 < width) old new) where
    pub search_goes_on : Spreads width (64 * width) stops (λ b. ⊥) first new
    search_goes_on =
        spreads_part (λ b. ⊥ ⊎ (b / 64 < width)) (λ b. ⊥) first new (λ b inside none. absurd none)
        (spreads_more (λ b. ⊥) (λ b. b / 64 < width) first old new before all)

    taken : new ≡ old → (b c : ℕ) → b / 64 < width → (Has stops width 0 b → ⊥) → Has new width (64 * width) b → Has new width b c → c / 64 < width → Has new width (64 * width) c
    taken same b c inside free has h lt =
        all.merged b c inside inside free (subst (λ (ws : List ℕ). Has ws width (64 * width) b) same has) (subst (λ (ws : List ℕ). Has ws width b c) same h) lt

    has_reached : new ≡ old → (c : ℕ) → c / 64 < width → Spread width (64 * width) stops first c → Has new width (64 * width) c
    has_reached same c lt (at_once _ h) = search_goes_on.kept (64 * width) c h
    has_reached same c lt (onward b _ inside free d h) =
        taken same b c inside free (has_reached same b inside d) (search_goes_on.kept b c h) lt

    pub searched : new ≡ old → Searches width (64 * width) stops first new
    searched same c lt = (λ h. search_goes_on.found c lt h, λ d. has_reached same c lt d)
