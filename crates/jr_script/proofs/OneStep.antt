-- A value is one step at most, or one member is told of it, and never both.
use Rattle.std.proofs.Common.{◌≡◌, ◌≢◌, ℕ, zero, suc, inl, inr, Bool, true, false, true≢false, ◌||◌, cond, List, [], ◌∷◌, ◌++◌, get_or, map, Some, codes, bytes_eq, Contains, refl, sym, ap, ◌∙◌, subst, arith}
use Rattle.std.specs.List.{All, AllByRecursion}
use Rattle.std.specs.Ordering.{nat_cmp, ordering_reverse, is_eq}
use Rattle.std.specs.Cmp.Lexicographic.{slice_cmp}
use Rattle.std.specs.declared.cmp.Ordering.{Ordering}
use Rattle.std.specs.declared.cmp.Ordering.TheVariants.{Less, Equal, Greater}
use Rattle.std.proofs.lemmas.Cmp.{nat_list_cmp_total}
use Rattle.std.proofs.lemmas.Map.Text.{is_eq-slice_cmp}
use Rattle.std.proofs.lemmas.Slice.Eq.{bytes_eq-Decides}
use Rattle.std.proofs.lemmas.List.Elements.{All-contains, All-from_recursion, recursion_from_All, Contains-append_right}
use Rattle.serde_json.specs.Data.{Data, null, boolean, number, unsigned, negative, float, string, array, object}
use Rattle.serde_json.specs.Find.{get}
use Rattle.jr_names.specs.declared.steps.What.{What}
use Rattle.jr_names.specs.declared.steps.What.TheVariants.{Bindings, Dependences}
use Rattle.jr_names.specs.declared.steps.Step.{Step}
use Rattle.jr_names.specs.declared.steps.Step.TheVariants.{Edit, Rename, ExtractLocal, ExtractMethod, InlineLocal, InlineMethod, PullUp, MoveStatic, MoveInstance, Show, Undo, Redo}
use Rattle.jr_script.specs.Rows.{Column, column, Row, row, rows, edit_row, rename_row, show_row, extract_local_row, names_of}
use Rattle.jr_script.specs.Steps.{Cell, HasCell, Means, word_of, cells_of, columns_of}
use Rattle.jr_script.specs.StepFaults.{HasColumn, HasWord, IsRowFault, IsBad}

-- ---- a word has one row

columns_at : List ℕ → List Column
columns_at word =
    cond (bytes_eq word (codes "edit")) edit_row.columns
    (cond (bytes_eq word (codes "rename")) rename_row.columns
    (cond (bytes_eq word (codes "show")) show_row.columns (cond (bytes_eq word (codes "extract_local")) extract_local_row.columns [])))

columns_from_word : (r : Row) → Contains rows r → r.columns ≡ columns_at r.word
unfolding columns_at
columns_from_word r (zero, l, e) = subst (λ x. x.columns ≡ columns_at x.word) e refl
columns_from_word r (suc zero, l, e) = subst (λ x. x.columns ≡ columns_at x.word) e refl
columns_from_word r (suc (suc zero), l, e) = subst (λ x. x.columns ≡ columns_at x.word) e refl
columns_from_word r (suc (suc (suc zero)), l, e) = subst (λ x. x.columns ≡ columns_at x.word) e refl
columns_from_word r (suc (suc (suc (suc zero))), l, e) = subst (λ x. x.columns ≡ columns_at x.word) e refl
columns_from_word r (suc (suc (suc (suc (suc zero)))), l, e) = subst (λ x. x.columns ≡ columns_at x.word) e refl
columns_from_word r (suc (suc (suc (suc (suc (suc k))))), l, e) = absurd (omega arith)

one_word : (d : Data) (word other : List ℕ) → HasWord d word → HasWord d other → word ≡ other
one_word d word other h g = let both : Some (string word) ≡ Some (string other) = sym h ∙ g in cc

same_columns : (d : Data) (r q : Row) → Contains rows r → Contains rows q → HasWord d r.word → HasWord d q.word → r.columns ≡ q.columns
same_columns d r q there here h g = columns_from_word r there ∙ ap columns_at (one_word d r.word q.word h g) ∙ sym (columns_from_word q here)

-- ---- a step has one object

text_in : Data → List ℕ
text_in null = []
text_in (boolean b) = []
text_in (number n) = []
text_in (string s) = s
text_in (array ds) = []
text_in (object ms) = []

number_in : Data → ℕ
number_in null = 0
number_in (boolean b) = 0
number_in (number (unsigned n)) = n
number_in (number (negative z)) = 0
number_in (number (float x)) = 0
number_in (string s) = 0
number_in (array ds) = 0
number_in (object ms) = 0

what_in : Data → What
what_in d = cond (bytes_eq (text_in d) (codes "bindings")) Bindings Dependences

values_of : Step → List Data
values_of s = map (λ c. c.value) (cells_of s)

file_in : List Data → List ℕ
file_in ds = text_in (get_or ds 0 null)

-- the step that a word and the values of its members are
step_from : List ℕ → List Data → Step
step_from word ds =
    cond (bytes_eq word (codes "edit")) (Edit (file_in ds) (number_in (get_or ds 1 null)) (number_in (get_or ds 2 null)) (text_in (get_or ds 3 null)))
    (cond (bytes_eq word (codes "rename")) (Rename (file_in ds) (number_in (get_or ds 1 null)) (text_in (get_or ds 2 null)))
    (cond (bytes_eq word (codes "show")) (Show (file_in ds) (what_in (get_or ds 1 null)))
    (cond (bytes_eq word (codes "undo")) Undo
    (cond (bytes_eq word (codes "redo")) Redo (ExtractLocal (file_in ds) (number_in (get_or ds 1 null)) (number_in (get_or ds 2 null)) (text_in (get_or ds 3 null)))))))

-- whether a row has the word
is_built : List ℕ → Bool
is_built word = bytes_eq word (codes "edit") || bytes_eq word (codes "rename") || bytes_eq word (codes "show") || bytes_eq word (codes "undo") || bytes_eq word (codes "redo") || bytes_eq word (codes "extract_local")

built_from_row : (r : Row) → Contains rows r → is_built r.word ≡ true
unfolding is_built
built_from_row r (zero, l, e) = subst (λ x. is_built x.word ≡ true) e refl
built_from_row r (suc zero, l, e) = subst (λ x. is_built x.word ≡ true) e refl
built_from_row r (suc (suc zero), l, e) = subst (λ x. is_built x.word ≡ true) e refl
built_from_row r (suc (suc (suc zero)), l, e) = subst (λ x. is_built x.word ≡ true) e refl
built_from_row r (suc (suc (suc (suc zero))), l, e) = subst (λ x. is_built x.word ≡ true) e refl
built_from_row r (suc (suc (suc (suc (suc zero)))), l, e) = subst (λ x. is_built x.word ≡ true) e refl
built_from_row r (suc (suc (suc (suc (suc (suc k))))), l, e) = absurd (omega arith)

not_built : (word : List ℕ) (columns : List Column) → Contains rows (row word columns) → is_built word ≡ false → ⊥
not_built word columns there other = true≢false (sym (built_from_row (row word columns) there) ∙ other)

-- of the words that are built each gives its step again
step_again : (s : Step) → Contains rows (row (word_of s) (columns_of s)) → step_from (word_of s) (values_of s) ≡ s
unfolding step_from values_of file_in text_in number_in what_in is_built
step_again (Edit file from to new) h = refl
step_again (Rename file at name) h = refl
step_again (ExtractLocal file from to name) h = refl
step_again (ExtractMethod file from to name) h = absurd (not_built (codes "extract_method") _ h refl)
step_again (InlineLocal file at) h = absurd (not_built (codes "inline_local") _ h refl)
step_again (InlineMethod file at) h = absurd (not_built (codes "inline_method") _ h refl)
step_again (PullUp file at) h = absurd (not_built (codes "pull_up") _ h refl)
step_again (MoveStatic file at class) h = absurd (not_built (codes "move_static") _ h refl)
step_again (MoveInstance file at class name) h = absurd (not_built (codes "move_instance") _ h refl)
step_again (Show file Bindings) h = refl
step_again (Show file Dependences) h = refl
step_again Undo h = refl
step_again Redo h = refl

same_values : (d : Data) (xs ys : List Cell) → AllByRecursion (HasCell d) xs → AllByRecursion (HasCell d) ys → map (λ c. c.column) xs ≡ map (λ c. c.column) ys → map (λ c. c.value) xs ≡ map (λ c. c.value) ys
same_values d [] [] h g e = refl
same_values d [] (y ∷ ys) h g e = absurd (cc)
same_values d (x ∷ xs) [] h g e = absurd (cc)
same_values d (x ∷ xs) (y ∷ ys) h g e =
    let first : x.column ≡ y.column = cc in
    let rest : map (λ c. c.column) xs ≡ map (λ c. c.column) ys = cc in
    let both : Some x.value ≡ Some y.value = sym h.0.0 ∙ (ap (λ c. get c.name d) first ∙ g.0.0) in
    let value : x.value ≡ y.value = cc in
    let later = same_values d xs ys h.1 g.1 rest in
    cc

pub one_step : (d : Data) (s t : Step) → Means d s → Means d t → s ≡ t
unfolding values_of
one_step d s t m n =
    let words : word_of s ≡ word_of t = one_word d (word_of s) (word_of t) m.word n.word in
    let columns : columns_of s ≡ columns_of t = same_columns d (row (word_of s) (columns_of s)) (row (word_of t) (columns_of t)) m.built n.built m.word n.word in
    let values : values_of s ≡ values_of t = same_values d (cells_of s) (cells_of t) (recursion_from_All (HasCell d) (cells_of s) m.cells) (recursion_from_All (HasCell d) (cells_of t) n.cells) columns in
    sym (step_again s m.built) ∙ (ap (λ w. step_from w (values_of s)) words ∙ (ap (step_from (word_of t)) values ∙ step_again t n.built))

-- ---- a step has no member that is told

has_columns : (d : Data) (cells : List Cell) → AllByRecursion (HasCell d) cells → AllByRecursion (HasColumn d) (map (λ c. c.column) cells)
has_columns d [] h = tt
has_columns d (c ∷ cells) h = ((c.value, h.0.0, h.0.1), has_columns d cells h.1)

lacks_none : (P : Column → Type 0) (columns front back : List Column) (c : Column) → All P columns → columns ≡ front ++ c ∷ back → P c
lacks_none P columns front back c h e =
    All-contains P (front ++ c ∷ back) c (subst (All P) e h) (Contains-append_right front (c ∷ back) c (0, omega arith, refl))

pub no_fault : (d : Data) (s : Step) (name : List ℕ) → Means d s → IsBad d name → ⊥
no_fault d s name m (inl (unknown, is)) = All-contains (λ r. ¬ HasWord d r.word) rows (row (word_of s) (columns_of s)) unknown m.built m.word
no_fault d s name m (inr (r, there, word, inl missing)) =
    let columns : columns_of s ≡ r.columns = same_columns d (row (word_of s) (columns_of s)) r m.built there m.word word in
    let all : All (HasColumn d) (columns_of s) = All-from_recursion (HasColumn d) (columns_of s) (has_columns d (cells_of s) (recursion_from_All (HasCell d) (cells_of s) m.cells)) in
    missing.lacks (lacks_none (HasColumn d) r.columns missing.front missing.back (column name missing.kind) (subst (All (HasColumn d)) columns all) missing.split)
no_fault d s name m (inr (r, there, word, inr (all, surplus))) =
    let columns : columns_of s ≡ r.columns = same_columns d (row (word_of s) (columns_of s)) r m.built there m.word word in
    surplus.surplus (subst (λ cs. Contains (names_of cs) name) columns (m.only name surplus.there))

-- ---- one member is told

pub one_first : {X : Type 0} (P : X → Type 0) (front back : List X) (x : X) (front' back' : List X) (y : X) → AllByRecursion P front → ¬ P x → AllByRecursion P front' → ¬ P y → front ++ x ∷ back ≡ front' ++ y ∷ back' → (front ≡ front') × (x ≡ y)
one_first P [] back x [] back' y h n g m e = (refl, cc)
one_first P [] back x (z ∷ front') back' y h n g m e = let same : z ≡ x = cc in absurd (n (subst P same g.0))
one_first P (w ∷ front) back x [] back' y h n g m e = let same : w ≡ y = cc in absurd (m (subst P same h.0))
one_first P (w ∷ front) back x (z ∷ front') back' y h n g m e =
    let first : w ≡ z = cc in
    let rest : front ++ x ∷ back ≡ front' ++ y ∷ back' = cc in
    let later = one_first P front back x front' back' y h.1 n g.1 m rest in
    (let same = later.0 in cc, later.1)

one_least : (m n : List ℕ) (o : Ordering) → slice_cmp nat_cmp m n ≡ o → slice_cmp nat_cmp m n ≢ Less → slice_cmp nat_cmp n m ≢ Less → m ≡ n
one_least m n Less is f g = absurd (f is)
one_least m n Equal is f g = (bytes_eq-Decides m n).0 (sym (is_eq-slice_cmp m n) ∙ ap is_eq is)
one_least m n Greater is f g = absurd (g (nat_list_cmp_total.antisymm n m ∙ ap ordering_reverse is))

row_fault_one : (d : Data) (r q : Row) (m n : List ℕ) → r.columns ≡ q.columns → IsRowFault d r m → IsRowFault d q n → m ≡ n
row_fault_one d r q m n same (inl f) (inl g) =
    let split : f.front ++ column m f.kind ∷ f.back ≡ g.front ++ column n g.kind ∷ g.back = sym f.split ∙ (same ∙ g.split) in
    let one = one_first (HasColumn d) f.front f.back (column m f.kind) g.front g.back (column n g.kind) (recursion_from_All (HasColumn d) f.front f.has) f.lacks (recursion_from_All (HasColumn d) g.front g.has) g.lacks split in
    ap (λ c. c.name) one.1
row_fault_one d r q m n same (inl f) (inr (all, g)) = absurd (f.lacks (lacks_none (HasColumn d) q.columns f.front f.back (column m f.kind) all (sym same ∙ f.split)))
row_fault_one d r q m n same (inr (all, f)) (inl g) = absurd (g.lacks (lacks_none (HasColumn d) r.columns g.front g.back (column n g.kind) all (same ∙ g.split)))
row_fault_one d r q m n same (inr (all, f)) (inr (all', g)) =
    let names : names_of r.columns ≡ names_of q.columns = ap names_of same in
    let other = λ (h : Contains (names_of q.columns) m). f.surplus (subst (λ ns. Contains ns m) (sym names) h) in
    let other' = λ (h : Contains (names_of r.columns) n). g.surplus (subst (λ ns. Contains ns n) names h) in
    one_least m n (slice_cmp nat_cmp m n) refl (g.least m f.there other) (f.least n g.there other')

pub one_member : (d : Data) (m n : List ℕ) → IsBad d m → IsBad d n → m ≡ n
one_member d m n (inl (unknown, is)) (inl (unknown', is')) = is ∙ sym is'
one_member d m n (inl (unknown, is)) (inr (r, there, word, fault)) = absurd (All-contains (λ x. ¬ HasWord d x.word) rows r unknown there word)
one_member d m n (inr (r, there, word, fault)) (inl (unknown, is)) = absurd (All-contains (λ x. ¬ HasWord d x.word) rows r unknown there word)
one_member d m n (inr (r, there, word, fault)) (inr (q, here, word', fault')) = row_fault_one d r q m n (same_columns d r q there here word word') fault fault'
