-- What `clap` makes of the words of a run, and what they are where it takes them.
use Rattle.std.proofs.Common.{◌≡◌, ◌≢◌, ◌∙◌, ◌<◌, ◌&&◌, ◌||◌, ℕ, Bool, cond, true, false, not, refl, sym, ap, subst, arith, List, [], ◌∷◌, ◌++◌, length, Option, Some, None, append_assoc, inl, inr, ◌⊎◌, option_map, option_and_then, slice_get, is_some}
use Rattle.std.specs.List.{AllByRecursion, fold}
use Rattle.std.specs.Option.{option_map_or}
use Rattle.std.proofs.lemmas.List.{append-nil}
use Rattle.std.proofs.lemmas.Slice.Eq.{bytes_eq-Decides}
use Rattle.std.specs.Str.{bytes_eq}
use Rattle.clap.specs.Facts.{explicit_source}
use Rattle.clap.specs.Walk.{Row, Rule, Text, Walk, all_of, at_row, finished, first_of, has_row, more_values, nothing_held, settled, walk_from, walked, with_default, with_values, without}
use Rattle.clap.specs.Simple.{built, entered, matches_of}
use Rattle.clap.specs.Faults.{check_fault, defaults_fault, entered_fault, fault_of, settle_fault, turn_fault, walk_fault}
use Rattle.clap.specs.Kinds.{Kinds, check_kinds, or_else}
use Rattle.clap.specs.declared.error.kind.ErrorKind.TheVariants as kind
use Rattle.clap.specs.declared.parser.matches.ValueSource.TheVariants.{CommandLine}
use Rattle.jr_words.specs.Asked.{HaveTexts, run_app}
use Rattle.jr_words.specs.Words.{IsPlain, ArePlain, out_word}
use Rattle.jr_words.proofs.Rows.{find_row, row_for, no_row, a_row, added, changed, unseen, none_out}
use Rattle.jr_words.proofs.Walking.{shape, rules, out_id, operands_id, plainly, put_out, put_operand, State, fresh, has_dir, has_operand, walk_of, waiting_with, settled_of, fault_of_state, no_hyphen, plain_from, plain_fault, out_from, out_fault, settles, dir_from, dir_fault, out_twice}

-- ---- the parse from a walk on

abbrev pub end_of : Walk → List Text → Walk
end_of w words = fold (walked rules []) w words

abbrev pub rows_end : Walk → List Text → List Row
rows_end w words = finished rules (end_of w words).held

-- what is wrong behind the words
abbrev pub last_fault : Walk → List Text → Kinds
last_fault w words =
    or_else (settle_fault rules false (end_of w words).held)
    (or_else (defaults_fault (settled rules (end_of w words).held).rows rules) (check_fault shape (rows_end w words) false))

abbrev pub whole : Walk → List Text → Kinds
whole w words = or_else (walk_fault shape [] w words) (or_else [] (last_fault w words))

next : (w w' : Walk) (x : Text) (rest : List Text) → walked rules [] w x ≡ w' → turn_fault shape [] w x ≡ [] → whole w (x ∷ rest) ≡ whole w' rest
unfolding walk_fault
next w w' x rest to clean = λ i. or_else (or_else (clean i) (walk_fault shape [] (to i) rest)) (or_else [] (last_fault (to i) rest))

next_rows : (w w' : Walk) (x : Text) (rest : List Text) → walked rules [] w x ≡ w' → rows_end w (x ∷ rest) ≡ rows_end w' rest
next_rows w w' x rest to = ap (λ v. rows_end v rest) to

stops : (w : Walk) (x : Text) (rest : List Text) (fault : Kinds) → turn_fault shape [] w x ≡ fault → fault ≢ [] → whole w (x ∷ rest) ≡ [] → ⊥
unfolding walk_fault
stops w x rest [] e some clean = some refl
stops w x rest (k ∷ ks) e some clean =
    let is : whole w (x ∷ rest) ≡ k ∷ ks = λ i. or_else (or_else (e i) (walk_fault shape [] (walked rules [] w x) rest)) (or_else [] (last_fault (walked rules [] w x) rest)) in
    absurd cc

-- ---- the whole parse

none_below : (stop : Option (Text × List Text)) → entered_fault (built run_app) stop ≡ []
none_below None = refl
none_below (Some p) = refl

not_entered : (stop : Option (Text × List Text)) → is_some (entered (built run_app) stop) ≡ false
not_entered None = refl
not_entered (Some p) = refl

pub starts : (first : Text) (rest : List Text) → fault_of run_app (first ∷ rest) ≡ whole (walk_from nothing_held) rest
starts first rest =
    let stop = (end_of (walk_from nothing_held) rest).stopped in
    λ i. or_else (walk_fault shape [] (walk_from nothing_held) rest)
    (or_else (none_below stop i)
    (or_else (settle_fault rules false (end_of (walk_from nothing_held) rest).held)
    (or_else (defaults_fault (settled rules (end_of (walk_from nothing_held) rest).held).rows rules)
    (check_fault shape (rows_end (walk_from nothing_held) rest) (not_entered stop i)))))

pub starts_rows : (first : Text) (rest : List Text) → matches_of run_app (first ∷ rest) ≡ rows_end (walk_from nothing_held) rest
starts_rows first rest = refl

-- ---- what the rows say

abbrev pub operands_row : List Text → Option Row
operands_row [] = None
operands_row (t ∷ ts) = Some (row_for operands_id plainly (t ∷ ts))

pub record Has (rows : List Row) (dir : Option Text) (texts : List Text) : Type 0 where
  pub out : find_row out_id rows ≡ option_map (λ (d : Text). row_for out_id plainly (d ∷ [])) dir
  pub operands : find_row operands_id rows ≡ operands_row texts

out_apart : (r : Row) → bytes_eq r.id operands_id ≡ true → bytes_eq r.id out_id ≡ false
out_apart r e = rw ((bytes_eq-Decides r.id operands_id).0 e) refl

operands_apart : (r : Row) → bytes_eq r.id out_id ≡ true → bytes_eq r.id operands_id ≡ false
operands_apart r e = rw ((bytes_eq-Decides r.id out_id).0 e) refl

has_put_out : (dir : Text) (rows : List Row) (texts : List Text) → Has rows None texts → Has (put_out dir rows) (Some dir) texts
has_put_out dir rows texts has =
    let bare : without out_id rows ≡ rows = none_out out_id rows has.out in
    let change = more_values CommandLine (dir ∷ []) in
    let new = row_for out_id plainly (dir ∷ []) in
    record {
      out = ap (λ rs. find_row out_id (at_row out_id change (new ∷ []) rs)) bare ∙ added out_id change new rows refl has.out;
      operands = ap (λ rs. find_row operands_id (at_row out_id change (new ∷ []) rs)) bare
          ∙ unseen out_id change new rows operands_id operands_apart refl (λ r. (_, refl, refl)) ∙ has.operands;
    }

has_put_operand : (word : Text) (rows : List Row) (dir : Option Text) (texts : List Text) → Has rows dir texts → Has (put_operand word rows) dir (texts ++ word ∷ [])
has_put_operand word rows dir texts has =
    let change = more_values CommandLine (word ∷ []) in
    let new = row_for operands_id plainly (word ∷ []) in
    record {
      out = unseen operands_id change new rows out_id out_apart refl (λ r. (_, refl, refl)) ∙ has.out;
      operands = of texts has.operands;
    }
  where
    of : (ts : List Text) → find_row operands_id rows ≡ operands_row ts → find_row operands_id (put_operand word rows) ≡ operands_row (ts ++ word ∷ [])
    of [] none = added operands_id (more_values CommandLine (word ∷ [])) (row_for operands_id plainly (word ∷ [])) rows refl none
    of (t ∷ ts) one = changed operands_id (more_values CommandLine (word ∷ [])) (row_for operands_id plainly (word ∷ [])) rows
        (row_for operands_id plainly (t ∷ ts)) (row_for operands_id plainly ((t ∷ ts) ++ word ∷ [])) refl refl one

-- ---- the end of the words

same_both : (b : Bool) (rows : List Row) → cond b rows rows ≡ rows
same_both true rows = refl
same_both false rows = refl

settled_is : (s : State) → (settled rules (walk_of s).held).rows ≡ settled_of s
settled_is fresh = refl
settled_is (has_dir rows dir) = refl
settled_is (has_operand rows word) = refl

undefaulted : (rows : List Row) → fold with_default rows rules ≡ rows
undefaulted rows = ap (λ (rs : List Row). cond (has_row operands_id rs) rs rs) (same_both (has_row out_id rows) rows) ∙ same_both (has_row operands_id rows) rows

finished_as : (s : State) → rows_end (walk_of s) [] ≡ settled_of s
finished_as s = ap (λ rows. fold with_default rows rules) (settled_is s) ∙ undefaulted (settled_of s)

always : (b : Bool) → cond {A = Kinds} (b || true) [] [] ≡ []
always true = refl
always false = refl

no_default_fault : (rows : List Row) → defaults_fault rows rules ≡ []
unfolding defaults_fault
no_default_fault rows = λ i. or_else (always (has_row out_id rows) i) (or_else (always (has_row operands_id (cond (has_row out_id rows) rows rows)) i) [])

abbrev pub missing : List Text → Kinds
missing [] = kind.MissingRequiredArgument ∷ []
missing (t ∷ ts) = []

checked : (rows : List Row) (dir : Option Text) (texts : List Text) → Has rows dir texts → check_fault shape rows false ≡ missing texts
checked rows dir texts has = ap (λ o. check_kinds false false (not (option_map_or (λ (r : Row). explicit_source r.source) o false) || false)) has.operands ∙ of texts
  where
    of : (ts : List Text) → check_kinds false false (not (option_map_or (λ (r : Row). explicit_source r.source) (operands_row ts) false) || false) ≡ missing ts
    of [] = refl
    of (t ∷ ts) = refl

-- a state that may end, with what was read
pub record Stands (s : State) (dir : Option Text) (texts : List Text) : Type 0 where
  pub clean : fault_of_state s ≡ []
  pub has : Has (settled_of s) dir texts

ends : (s : State) (dir : Option Text) (texts : List Text) → Stands s dir texts → whole (walk_of s) [] ≡ missing texts
unfolding walk_fault
ends s dir texts stands =
    (λ i. or_else [] (or_else [] (or_else ((settles s ∙ stands.clean) i) (or_else (defaults_fault (settled_is s i) rules) (check_fault shape (finished_as s i) false)))))
    ∙ ap (λ k. or_else k (check_fault shape (settled_of s) false)) (no_default_fault (settled_of s))
    ∙ checked (settled_of s) dir texts stands.has

doomed : (s : State) (k : _) (ks : Kinds) → fault_of_state s ≡ k ∷ ks → whole (walk_of s) [] ≡ [] → ⊥
unfolding walk_fault
doomed s k ks fault clean =
    let is : whole (walk_of s) [] ≡ k ∷ ks = λ i. or_else [] (or_else [] (or_else ((settles s ∙ fault) i) (or_else (defaults_fault (settled rules (walk_of s).held).rows rules) (check_fault shape (rows_end (walk_of s) []) false)))) in
    absurd cc

-- ---- plain words

pub record Walked (s : State) (dir : Option Text) (texts words more : List Text) : Type 0 where
  pub state : State
  pub stands : Stands state dir (texts ++ words)
  pub fault : whole (walk_of s) (words ++ more) ≡ whole (walk_of state) more
  pub rows : rows_end (walk_of s) (words ++ more) ≡ rows_end (walk_of state) more

walks : (words more : List Text) → ArePlain words → (s : State) (dir : Option Text) (texts : List Text) → Stands s dir texts → Walked s dir texts words more
walks [] more plain s dir texts stands =
    record { state = s; stands = subst (λ ts. Stands s dir ts) (sym (append-nil texts)) stands; fault = refl; rows = refl }
walks ([] ∷ ws) more plain s dir texts stands = absurd (omega (arith, plain.0.some))
walks ((x ∷ xs) ∷ ws) more plain s dir texts stands =
    let word = x ∷ xs in
    let behind = has_operand (settled_of s) word in
    let here : Stands behind dir (texts ++ word ∷ []) = record { clean = refl; has = has_put_operand word (settled_of s) dir texts stands.has } in
    let to = plain_from x xs (no_hyphen x xs plain.0) s in
    let clean = plain_fault x xs (no_hyphen x xs plain.0) s ∙ stands.clean in
    let rest = walks ws more plain.1 behind dir (texts ++ word ∷ []) here in
    record {
      state = rest.state;
      stands = subst (λ ts. Stands rest.state dir ts) (append_assoc texts (word ∷ []) ws) rest.stands;
      fault = next (walk_of s) (walk_of behind) word (ws ++ more) to clean ∙ rest.fault;
      rows = next_rows (walk_of s) (walk_of behind) word (ws ++ more) to ∙ rest.rows;
    }

stands_fresh : Stands fresh None []
stands_fresh = record { clean = refl; has = record { out = refl; operands = refl } }

-- ---- the option and its folder

pub record Turned (s : State) (texts : List Text) (dir : Text) (back : List Text) : Type 0 where
  pub state : State
  pub stands : Stands state (Some dir) texts
  pub fault : whole (walk_of s) (out_word ∷ dir ∷ back) ≡ whole (walk_of state) back
  pub rows : rows_end (walk_of s) (out_word ∷ dir ∷ back) ≡ rows_end (walk_of state) back

turns : (s : State) (texts : List Text) → Stands s None texts → (dir : Text) → IsPlain dir → (back : List Text) → Turned s texts dir back
turns s texts stands [] plain back = absurd (omega (arith, plain.some))
turns s texts stands (x ∷ xs) plain back =
    let dir = x ∷ xs in
    let rows = settled_of s in
    let e = no_hyphen x xs plain in
    record {
      state = has_dir rows dir;
      stands = record {
        clean = rw (no_row out_id rows stands.has.out) refl;
        has = has_put_out dir rows texts stands.has;
      };
      fault = next (walk_of s) (waiting_with rows) out_word (dir ∷ back) (out_from s) (out_fault s ∙ stands.clean)
          ∙ next (waiting_with rows) (walk_of (has_dir rows dir)) dir back (dir_from x xs e rows) (dir_fault x xs e rows);
      rows = next_rows (walk_of s) (waiting_with rows) out_word (dir ∷ back) (out_from s)
          ∙ next_rows (waiting_with rows) (walk_of (has_dir rows dir)) dir back (dir_from x xs e rows);
    }

-- ---- what the words have is read

pub record Read (rest : List Text) (out : Option Text) (texts : List Text) : Type 0 where
  pub fault : whole (walk_from nothing_held) rest ≡ missing texts
  pub has : Has (rows_end (walk_from nothing_held) rest) out texts

pub reads : (rest : List Text) (out : Option Text) (texts : List Text) → HaveTexts rest out texts → Read rest out texts
reads rest None texts have =
    let all = walks rest [] have.0 fresh None [] stands_fresh in
    let whole_rest : rest ++ [] ≡ rest = append-nil rest in
    subst (λ ts. Read rest None ts) (sym have.1) (record {
      fault = ap (whole (walk_of fresh)) (sym whole_rest) ∙ all.fault ∙ ends all.state None rest all.stands;
      has = subst (λ rs. Has rs None rest) (sym (ap (rows_end (walk_of fresh)) (sym whole_rest) ∙ all.rows ∙ finished_as all.state)) all.stands.has;
    })
reads rest (Some dir) texts (front, back, split, front_plain, dir_plain, back_plain, joined) =
    let one = walks front (out_word ∷ dir ∷ back) front_plain fresh None [] stands_fresh in
    let two = turns one.state front one.stands dir dir_plain back in
    let three = walks back [] back_plain two.state (Some dir) front two.stands in
    let whole_back : back ++ [] ≡ back = append-nil back in
    subst (λ ts. Read rest (Some dir) ts) (sym joined) (record {
      fault = ap (whole (walk_of fresh)) split ∙ one.fault ∙ two.fault ∙ ap (whole (walk_of two.state)) (sym whole_back) ∙ three.fault
          ∙ ends three.state (Some dir) (front ++ back) three.stands;
      has = subst (λ rs. Has rs (Some dir) (front ++ back))
          (sym (ap (rows_end (walk_of fresh)) split ∙ one.rows ∙ two.rows ∙ ap (rows_end (walk_of two.state)) (sym whole_back) ∙ three.rows ∙ finished_as three.state))
          three.stands.has;
    })

-- ---- what is taken is what words have

-- the words are plain, or the first that isn't is the option
pub data Cut (words : List Text) : Type 0 where
  all_plain : ArePlain words → Cut words
  at_option : (front back : List Text) → ArePlain front → words ≡ front ++ out_word ∷ back → Cut words

abbrev pub AreSuch : List Text → Type 0
AreSuch words = AllByRecursion (λ word. IsPlain word ⊎ (word ≡ out_word)) words

pub cut : (words : List Text) → AreSuch words → Cut words
cut [] such = all_plain tt
cut (w ∷ ws) such = elim such.0 [
  | inl plain ↦ further plain (cut ws such.1)
  | inr option ↦ at_option [] ws tt (ap (λ v. v ∷ ws) option)
]
  where
    further : IsPlain w → Cut ws → Cut (w ∷ ws)
    further plain (all_plain rest) = all_plain (plain, rest)
    further plain (at_option front back before is) = at_option (w ∷ front) back (plain, before) (ap (λ vs. w ∷ vs) is)

-- the option without its folder is refused
unfinished : (rows : List Row) → whole (waiting_with rows) [] ≡ [] → ⊥
unfolding walk_fault
unfinished rows clean =
    let is : whole (waiting_with rows) [] ≡ kind.InvalidValue ∷ [] = refl in
    absurd cc

-- where a folder was read, the option is refused
second : (rows : List Row) → has_row out_id rows ≡ true → (words : List Text) → AreSuch words → whole (waiting_with rows) words ≡ [] → ⊥
second rows there [] such clean = unfinished rows clean
second rows there (w ∷ ws) such clean = elim such.0 [
  | inl plain ↦ of_plain w plain clean
  | inr option ↦ stops (waiting_with rows) out_word ws _ (out_twice rows) (λ e. absurd cc) (subst (λ v. whole (waiting_with rows) (v ∷ ws) ≡ []) option clean)
]
  where
    is_doomed : (dir : Text) → fault_of_state (has_dir rows dir) ≡ kind.ArgumentConflict ∷ []
    is_doomed dir = rw there refl

    behind : (dir : Text) (vs : List Text) → AreSuch vs → whole (walk_of (has_dir rows dir)) vs ≡ [] → ⊥
    behind dir [] more clean' = doomed (has_dir rows dir) _ _ (is_doomed dir) clean'
    behind dir (v ∷ vs) more clean' = elim more.0 [
      | inl plain ↦ by_plain v plain clean'
      | inr option ↦ stops (walk_of (has_dir rows dir)) out_word vs _ (out_fault (has_dir rows dir) ∙ is_doomed dir) (λ e. absurd cc)
          (subst (λ u. whole (walk_of (has_dir rows dir)) (u ∷ vs) ≡ []) option clean')
    ]
      where
        by_plain : (u : Text) → IsPlain u → whole (walk_of (has_dir rows dir)) (u ∷ vs) ≡ [] → ⊥
        by_plain [] plain clean'' = absurd (omega (arith, plain.some))
        by_plain (x ∷ xs) plain clean'' = stops (walk_of (has_dir rows dir)) (x ∷ xs) vs _ (plain_fault x xs (no_hyphen x xs plain) (has_dir rows dir) ∙ is_doomed dir) (λ e. absurd cc) clean''

    of_plain : (u : Text) → IsPlain u → whole (waiting_with rows) (u ∷ ws) ≡ [] → ⊥
    of_plain [] plain clean' = absurd (omega (arith, plain.some))
    of_plain (x ∷ xs) plain clean' =
        let e = no_hyphen x xs plain in
        behind (x ∷ xs) ws such.1 (sym (next (waiting_with rows) (walk_of (has_dir rows (x ∷ xs))) (x ∷ xs) ws (dir_from x xs e rows) (dir_fault x xs e rows)) ∙ clean')

such_behind : (front back : List Text) → AreSuch (front ++ out_word ∷ back) → AreSuch back
such_behind [] back such = such.1
such_behind (f ∷ fs) back such = such_behind fs back such.1

some_text : (texts : List Text) → missing texts ≡ [] → 0 < length texts
some_text [] e = absurd cc
some_text (t ∷ ts) e = omega arith

pub record Taken (rest : List Text) : Type 0 where
  pub out : Option Text
  pub texts : List Text
  pub have : HaveTexts rest out texts
  pub some : 0 < length texts

pub taken : (rest : List Text) → AreSuch rest → whole (walk_from nothing_held) rest ≡ [] → Taken rest
taken rest such clean = of (cut rest such)
  where
    had : (out : Option Text) (texts : List Text) → HaveTexts rest out texts → Taken rest
    had out texts have = record { out = out; texts = texts; have = have; some = some_text texts (sym (reads rest out texts have).fault ∙ clean) }

    of_dir : (front : List Text) → ArePlain front → (dir : Text) → IsPlain dir → (back : List Text) → rest ≡ front ++ out_word ∷ dir ∷ back → AreSuch back → Cut back → Taken rest
    of_dir front before dir dir_plain back is back_such (all_plain plain) = had (Some dir) (front ++ back) (front, back, is, before, dir_plain, plain, refl)
    of_dir front before dir dir_plain back is back_such (at_option front2 back2 before2 is2) =
        let one = walks front (out_word ∷ dir ∷ back) before fresh None [] stands_fresh in
        let two = turns one.state front one.stands dir dir_plain back in
        let three = walks front2 (out_word ∷ back2) before2 two.state (Some dir) front two.stands in
        let rows = settled_of three.state in
        let clean3 : whole (waiting_with rows) back2 ≡ [] =
        sym (ap (whole (walk_of fresh)) is ∙ one.fault ∙ two.fault ∙ ap (whole (walk_of two.state)) is2 ∙ three.fault
        ∙ next (walk_of three.state) (waiting_with rows) out_word back2 (out_from three.state) (out_fault three.state ∙ three.stands.clean)) ∙ clean in
        absurd (second rows (a_row out_id rows _ three.stands.has.out) back2 (such_behind front2 back2 (subst AreSuch is2 back_such)) clean3)

    of_option : (front back : List Text) → ArePlain front → rest ≡ front ++ out_word ∷ back → Taken rest
    of_option front [] before is =
        let one = walks front (out_word ∷ []) before fresh None [] stands_fresh in
        absurd (unfinished (settled_of one.state) (sym (ap (whole (walk_of fresh)) is ∙ one.fault
        ∙ next (walk_of one.state) (waiting_with (settled_of one.state)) out_word [] (out_from one.state) (out_fault one.state ∙ one.stands.clean)) ∙ clean))
    of_option front (d ∷ back) before is =
        let back_such : AreSuch (d ∷ back) = such_behind front (d ∷ back) (subst AreSuch is such) in
        let one = walks front (out_word ∷ d ∷ back) before fresh None [] stands_fresh in
        let rows = settled_of one.state in
        let clean1 : whole (waiting_with rows) (d ∷ back) ≡ [] = sym (ap (whole (walk_of fresh)) is ∙ one.fault
        ∙ next (walk_of one.state) (waiting_with rows) out_word (d ∷ back) (out_from one.state) (out_fault one.state ∙ one.stands.clean)) ∙ clean in
        elim back_such.0 [
          | inl plain ↦ of_dir front before d plain back is back_such.1 (cut back back_such.1)
          | inr option ↦ absurd (stops (waiting_with rows) out_word back _ (out_twice rows) (λ e. absurd cc) (subst (λ v. whole (waiting_with rows) (v ∷ back) ≡ []) option clean1))
        ]

    of : Cut rest → Taken rest
    of (all_plain plain) = had None rest (plain, refl)
    of (at_option front back before is) = of_option front back before is

-- what the getters find
pub dir_found : (rows : List Row) (out : Option Text) (texts : List Text) → Has rows out texts → first_of out_id rows ≡ out
dir_found rows out texts has = ap (option_and_then (λ (r : Row). slice_get r.values 0)) has.out ∙ of out
  where
    of : (dir : Option Text) → option_and_then (λ (r : Row). slice_get r.values 0) (option_map (λ (d : Text). row_for out_id plainly (d ∷ [])) dir) ≡ dir
    of None = refl
    of (Some d) = refl

pub operands_found : (rows : List Row) (out : Option Text) (texts : List Text) → Has rows out texts → 0 < length texts → all_of operands_id rows ≡ Some texts
operands_found rows out [] has some = absurd (omega (arith, some))
operands_found rows out (t ∷ ts) has some = ap (option_map (λ (r : Row). r.values)) has.operands
