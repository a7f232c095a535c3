-- Lines of a member, and of members one behind the other.
use Rattle.std.proofs.Common.{◌≡◌, ◌<◌, ◌+◌, ℕ, zero, suc, List, [], ◌∷◌, ◌++◌, length, get_or, map, take, drop, Some, None, Bool, true, false, refl, sym, ap, subst, ◌∙◌, append_assoc, arith, eq-eqb}
use Rattle.std.specs.Prelude.{slice_get, option_map, ◌==◌, Ok, Err, if◌then◌else◌}
use Rattle.std.proofs.lemmas.List.{take_more, take-append-drop, drop_more, append-nil, map-append}
use Rattle.std.proofs.lemmas.List.Elements.{filter-append}
use Rattle.std.proofs.lemmas.Bool.{ne_eqb}
use Rattle.std.proofs.lemmas.Option.{same_Some, slice_get-map, slice_get_read, get_or_from_slice_get}
use Rattle.jr_text.specs.declared.spans.Span.{Span}
use Rattle.jr_lex.specs.declared.items.Item.{Item}
use Rattle.jr_ast.specs.MemberTree.{Member}
use Rattle.jr_table.specs.Decls.{MemberKey}
use Rattle.jr_table.specs.Rows.{Row}
use Rattle.jr_table.specs.Errors.{Part, member_part, part_mark}
use Rattle.jr_names.specs.DeclTexts.{member_text}
use Rattle.jr_bind.specs.Bounds.{IsBound, decl_in}
use Rattle.jr_expr_types.specs.Slots.{find_type}
use Rattle.jr_expr_sites.specs.KnownFacts.{Given}
use Rattle.jr_cfg.specs.declared.faults.CfgFault.TheVariants as fault
use Rattle.jr_cfg.specs.Graphs.{IsGraphOfMember}
use Rattle.jr_cfg.specs.MemberRoutes.{HasKey}
use Rattle.jr_member_graphs.specs.OwnFlags.{own, TellsNeverNull}
use Rattle.jr_members.specs.WrittenMembers.{WrittenMember}
use Rattle.jr_program_laws.specs.FileParts.{begins}
use Rattle.jr_program.specs.declared.bounds.MemberBound.{MemberBound}
use Rattle.jr_program.specs.Members.{EachOf, IsSuperPlace, IsEachBound, AreEachBound}
use Rattle.jr_program.proofs.Membership.{each_at}
use Rattle.jr_sites.specs.declared.sites.SiteGraph.{SiteGraph}
use Rattle.jr_dependence_lines.specs.declared.tallies.Tally.{Tally}
use Rattle.jr_dependence_lines.specs.Lines.{Line, line_text, texts_of}
use Rattle.jr_dependence_lines.specs.MemberLines.{tells, IsKnown, HasLines, HasFewSites, HaveLines, IsFirstLarge, in_file, CanShow, CanShowPart}
use Rattle.jr_dependence_lines.specs.Tallies.{Puts, PutsGraph, PutsPart, PutsMember, IsBoundMember}
use Rattle.jr_dependence_lines.proofs.Counting.{puts_then, puts_as}
use Rattle.jr_dependence_lines.proofs.OneLines.{lines_few}
use Rattle.jr_dependence_lines.proofs.WayDependences.{line_of, graph_lines, all_told_is}

-- ---- what binding knows of a member

module _ (rows : List Row) (b : MemberBound) (base : ℕ) (x : Member Span) where
  abbrev pub own_given : MemberKey → Given
  own_given key = own tells rows key (decl_in b.bound.references) (find_type b.bound.types) base x

  module _ (items : List Item) (key : MemberKey) (is : IsBoundMember rows items key base x b) where
    pub known : HasKey key x → TellsNeverNull tells base (own_given key) x → IsKnown rows items key base x b.super_at (own_given key)
    known has tests = record {
      is_key = has;
      place = is.place;
      decls = decl_in b.bound.references;
      binds = is.bound.declarations;
      types = find_type b.bound.types;
      has = is.bound.types;
      is = refl;
      tests = tests;
    }

    -- the lines of its graph were put
    pub graph_put : HasKey key x → TellsNeverNull tells base (own_given b.bound.member) x → (graph : SiteGraph) → IsGraphOfMember tells b.super_at base (own_given b.bound.member) x (Ok graph)
        → (old new : Tally) → PutsGraph (member_text b.bound.member) b.start graph old new → PutsPart rows items key base (member_part x) old new None
    graph_put has tests graph exact old new put =
        let same : b.bound.member ≡ key = is.bound.member in
        let mine : TellsNeverNull tells base (own_given key) x = subst (λ (k : MemberKey). TellsNeverNull tells base (own_given k) x) same tests in
        let answers : IsGraphOfMember tells b.super_at base (own_given key) x (Ok graph) = subst (λ (k : MemberKey). IsGraphOfMember tells b.super_at base (own_given k) x (Ok graph)) same exact in
        let list = put.0 in
        let lines : List Line = map (line_of key b.start graph.sites.items) list in
        let told = all_told_is graph b.bound.member b.start list (λ d at. (put.1.exact d).0 at) ∙ (λ i. texts_of (map (line_of (same i) b.start graph.sites.items) list)) in (
          lines,
          record {
            super_at = b.super_at;
            given = own_given key;
            known = known has mine;
            holds = λ k o own_key numbers. graph_lines (own_given key) _ graph (answers k o own_key numbers) b.start list is.start put.1;
          },
          puts_as old new _ (texts_of lines) told put.2,
        )

    -- it has too many sites
    pub sites_told : HasKey key x → TellsNeverNull tells base (own_given b.bound.member) x → (count : ℕ) → IsGraphOfMember tells b.super_at base (own_given b.bound.member) x (Err (fault.TooManySites count))
        → (old new : Tally) → PutsPart rows items key base (member_part x) old new (Some count)
    sites_told has tests count exact old new =
        let same : b.bound.member ≡ key = is.bound.member in
        record {
          super_at = b.super_at;
          given = own_given key;
          known = known has (subst (λ (k : MemberKey). TellsNeverNull tells base (own_given k) x) same tests);
          holds = subst (λ (k : MemberKey). IsGraphOfMember tells b.super_at base (own_given k) x (Err (fault.TooManySites count))) same exact;
        }

-- ---- a written member

pub bound_part : (rows : List Row) (files : List (List Item)) (w : WrittenMember Span) (x : Member Span) → w.part ≡ member_part x → (b : MemberBound) → IsEachBound rows files w b → (items : List Item) → slice_get files w.file ≡ Some items → IsBoundMember rows items w.key w.base x b
bound_part rows files w x part b is items there =
    let same : is.items ≡ items = same_Some is.items items (sym is.stands ∙ there) in
    let place = subst (λ (l : List Item). IsSuperPlace l w.part b.super_at) same is.place in
    record {
      place = subst (λ (p : Part Span). IsSuperPlace items p b.super_at) part place;
      start = is.is.start ∙ ap (λ (p : Part Span). begins (part_mark p) w.base) part;
      bound = subst (λ (p : Part Span). IsBound begins rows b.super_at w.key w.base p b.bound) part is.is.bound;
    }

-- ---- several, one behind the other

module _ (rows : List Row) (items : List Item) where
  pub lines_behind : (ws : List (WrittenMember Span)) (w : WrittenMember Span) (xs ys : List Line) → HaveLines rows items ws xs → HasLines rows items w ys → HaveLines rows items (ws ++ w ∷ []) (xs ++ ys)
  lines_behind [] w xs ys h own = (ys, [], own, refl, ap (λ l. l ++ ys) h ∙ sym (append-nil ys))
  lines_behind (v ∷ vs) w xs ys (front, back, its, rest, is) own =
      (front, back ++ ys, its, lines_behind vs w back ys rest own, ap (λ l. l ++ ys) is ∙ append_assoc front back ys)

  pub all_few : (ws : List (WrittenMember Span)) (xs : List Line) → HaveLines rows items ws xs → EachOf (HasFewSites rows items) ws
  all_few [] xs h = tt
  all_few (w ∷ ws) xs (front, back, its, rest, is) = (lines_few rows items w.key w.base w.part front its, all_few ws back rest)

-- ---- those of a file

module _ (file : ℕ) where
  abbrev IsOf : WrittenMember Span → Bool
  IsOf w = w.file == file

  one_in : (w : WrittenMember Span) → IsOf w ≡ true → in_file file (w ∷ []) ≡ w ∷ []
  one_in w is = ap (λ (b : Bool). if b then w ∷ [] else []) is

  one_out : (w : WrittenMember Span) → IsOf w ≡ false → in_file file (w ∷ []) ≡ []
  one_out w is = ap (λ (b : Bool). if b then w ∷ [] else []) is

  pub more_in : (ws : List (WrittenMember Span)) (n : ℕ) (w : WrittenMember Span) → n < length ws → w ≡ get_or ws n w → IsOf w ≡ true → in_file file (take (n + 1) ws) ≡ in_file file (take n ws) ++ w ∷ []
  more_in ws n w lt at is =
      ap (in_file file) (take_more ws n w lt ∙ ap (λ v. take n ws ++ v ∷ []) (sym at)) ∙ filter-append IsOf (take n ws) (w ∷ []) ∙ ap (λ l. in_file file (take n ws) ++ l) (one_in w is)

  pub more_out : (ws : List (WrittenMember Span)) (n : ℕ) (w : WrittenMember Span) → n < length ws → w ≡ get_or ws n w → IsOf w ≡ false → in_file file (take (n + 1) ws) ≡ in_file file (take n ws)
  more_out ws n w lt at is =
      ap (in_file file) (take_more ws n w lt ∙ ap (λ v. take n ws ++ v ∷ []) (sym at)) ∙ filter-append IsOf (take n ws) (w ∷ []) ∙ ap (λ l. in_file file (take n ws) ++ l) (one_out w is) ∙ append-nil (in_file file (take n ws))

  pub split_in : (ws : List (WrittenMember Span)) (n : ℕ) (w : WrittenMember Span) → n < length ws → w ≡ get_or ws n w → IsOf w ≡ true → in_file file ws ≡ in_file file (take n ws) ++ w ∷ in_file file (drop (n + 1) ws)
  split_in ws n w lt at is =
      let rest : drop n ws ≡ w ∷ drop (n + 1) ws = drop_more ws n w lt ∙ ap (λ v. v ∷ drop (n + 1) ws) (sym at) in
      ap (in_file file) (sym (take-append-drop n ws) ∙ ap (λ l. take n ws ++ l) rest) ∙ filter-append IsOf (take n ws) (w ∷ drop (n + 1) ws)
      ∙ ap (λ l. in_file file (take n ws) ++ l) (ap (λ (b : Bool). if b then w ∷ in_file file (drop (n + 1) ws) else in_file file (drop (n + 1) ws)) is)

-- a member and what is bound of it
pub pair_at : (rows : List Row) (files : List (List Item)) (ws : List (WrittenMember Span)) (bs : List MemberBound) (n : ℕ) (w : WrittenMember Span) (b : MemberBound) → AreEachBound rows files ws bs → n < length bs → w ≡ get_or ws n w → b ≡ get_or bs n b → IsEachBound rows files w b
pair_at rows files [] [] n w b all lt at there = absurd (omega (arith, lt))
pair_at rows files [] (c ∷ bs) n w b all lt at there = absurd all
pair_at rows files (v ∷ ws) [] n w b all lt at there = absurd all
pair_at rows files (v ∷ ws) (c ∷ bs) zero w b all lt at there = subst (λ z. IsEachBound rows files w z) (sym there) (subst (λ z. IsEachBound rows files z c) (sym at) all.0)
pair_at rows files (v ∷ ws) (c ∷ bs) (suc n) w b all lt at there = pair_at rows files ws bs n w b all.1 (omega (arith, lt)) at there

pub pair_count : (rows : List Row) (files : List (List Item)) (ws : List (WrittenMember Span)) (bs : List MemberBound) → AreEachBound rows files ws bs → length bs ≡ length ws
pair_count rows files [] [] all = refl
pair_count rows files [] (b ∷ bs) all = absurd all
pair_count rows files (w ∷ ws) [] all = absurd all
pair_count rows files (w ∷ ws) (b ∷ bs) all = ap suc (pair_count rows files ws bs all.1)

-- where it stands in a list that is seen in another way
pub mapped_at : {X Y : Type 0} (f : X → Y) (xs : List X) (n : ℕ) (x : X) → n < length xs → x ≡ get_or xs n x → f x ≡ get_or (map f xs) n (f x)
mapped_at f xs n x lt at = sym (get_or_from_slice_get (map f xs) n (f x) (f x) (slice_get-map f xs n ∙ ap (option_map f) (slice_get_read xs (length xs) n x refl lt at)))

-- ---- a walk over all members

module _ (rows : List Row) (files : List (List Item)) (ws : List (WrittenMember Span)) (bs : List MemberBound) (each : AreEachBound rows files ws bs) (n : ℕ) (w : WrittenMember Span) (b : MemberBound) (lt : n < length bs)
    (at : w ≡ get_or ws n w) (there : b ≡ get_or bs n b) where
  within : n < length ws
  within = let count = pair_count rows files ws bs each in omega (arith, lt, count)

  pub its_bound : IsEachBound rows files w b
  its_bound = pair_at rows files ws bs n w b each lt at there

  pub can_part : EachOf CanShow ws → CanShowPart b.bound.member w.base w.part
  can_part can = subst (λ (k : MemberKey). CanShowPart k w.base w.part) (sym its_bound.is.bound.member) (each_at CanShow ws n w w can within at)

  module _ (file : ℕ) (items : List Item) (lines : List Line) (have : HaveLines rows items (in_file file (take n ws)) lines) (start old new : Tally) where
    -- it is the first with too many sites
    pub first_large : w.file ≡ file → (count : ℕ) → PutsMember rows items w old new (Some count) → (key : MemberKey) → key ≡ b.bound.member → IsFirstLarge rows items (in_file file ws) key count
    first_large of count many key is = record {
      front = in_file file (take n ws);
      large = w;
      back = in_file file (drop (n + 1) ws);
      split = split_in file ws n w within at (eq-eqb w.file file of);
      few = all_few rows items (in_file file (take n ws)) lines have;
      is_key = is ∙ its_bound.is.bound.member;
      many = many;
    }

    -- its lines stand behind
    pub more_lines : w.file ≡ file → Puts start old (texts_of lines) → PutsMember rows items w old new None → (all : List Line) × HaveLines rows items (in_file file (take (n + 1) ws)) all × Puts start new (texts_of all)
    more_lines of put own = (
      lines ++ own.0,
      subst (λ l. HaveLines rows items l (lines ++ own.0)) (sym (more_in file ws n w within at (eq-eqb w.file file of))) (lines_behind rows items (in_file file (take n ws)) w lines own.0 have own.1),
      puts_as start new _ (texts_of (lines ++ own.0)) (sym (map-append line_text lines own.0)) (puts_then start old new (texts_of lines) (texts_of own.0) put own.2),
    )

    -- it is of another file
    pub same_lines : (w.file ≡ file → ⊥) → Puts start old (texts_of lines) → (all : List Line) × HaveLines rows items (in_file file (take (n + 1) ws)) all × Puts start old (texts_of all)
    same_lines other put = (lines, subst (λ l. HaveLines rows items l lines) (sym (more_out file ws n w within at (ne_eqb w.file file other))) have, put)
