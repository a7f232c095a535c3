-- Two worked edits: a local is extracted, and one is inlined, each as a spot in a list of statements
-- with spots in its expressions. The choices outside of spots all stay.
use Rattle.std.proofs.Common.{◌≡◌, ◌⊎◌, ℕ, ◌+◌, Bool, false, List, [], ◌∷◌, ◌++◌, Some, refl, sym, ap, inl, inr, arith}
use Rattle.std.specs.Prelude.{◌≢◌, nat_eq, codes}
use Rattle.std.proofs.lemmas.Bool.{both_ways}
use Rattle.jr_text.specs.declared.spans.Span.{Span}
use Rattle.jr_text.specs.Splices.{splice}
use Rattle.jr_ast.specs.declared.operators.BinOp.TheVariants.{Add, Sub}
use Rattle.jr_ast.specs.declared.operators.UnOp.TheVariants.{Minus}
use Rattle.jr_ast.specs.Tree as tree
use Rattle.jr_ast.specs.StatementTree as statement
use Rattle.jr_ast.specs.Marks.{exp_mark, stmt_mark}
use Rattle.jr_grammar.specs.Layout.{itself}
use Rattle.jr_table.specs.Binding.{value}
use Rattle.jr_table.specs.Context.{Context, after, locals_in}
use Rattle.jr_rewrite.specs.Respellings.{Change, stays}
use Rattle.jr_rewrite.specs.Rewritten.{Rewritten, plain, change, before}
use Rattle.jr_rewrite.specs.Edited.{entries_of}
use Rattle.jr_rewrite.specs.Spots.{Asks, Takes, Spots, nowhere, spotted}
use Rattle.jr_rewrite.specs.Rewrites.{Choosing, TransformsExp, TransformsTarget, TransformsRow, TransformsStmt, TransformsElse, TransformsStmts, TransformsList}
use Rattle.jr_rewrite.specs.Woven.{with_changes}

abbrev all_stay : Choosing Span
all_stay = record {
  expression = λ c r base e h. h ≡ stays;
  creation = λ c base e h. h ≡ stays;
  super_call = λ c args h. h ≡ stays;
  qualifier = λ c base t h. h ≡ stays;
  type = λ c base t h. h ≡ stays;
  parent_qualifier = λ o base t h. h ≡ stays;
  parent = λ o base t h. h ≡ stays;
  declared = λ d w h. h ≡ stays;
}

abbrev span : ℕ → ℕ → Span
span from to = record { from = from; to = to }

abbrev word : ℕ → ℕ → List ℕ → tree.Word Span
word from to text = record { mark = span from to; text = text }

-- an expression has become this, with no loss
abbrev changed : {T : Type 0} → T → List Change → Rewritten T
changed t cs = record { tree = t; changes = cs; respelled = 0; losses = [] }

-- ---- extract local

-- the place of an expression is taken by a name
abbrev named : (piece : Span) → (name written : List ℕ) → Spots Span
named piece name written = record {
  part = λ k c r base e o. (exp_mark e ≡ piece)
      × (o ≡ changed (tree.name piece (record { mark = piece; text = name })) (change piece written ∷ []));
  part_stays = λ k c r base e. exp_mark e ≢ piece;
  list = λ n c base xs o. ⊥;
  list_stays = λ n c base xs. Unit {0};
  members = λ base of xs o. ⊥;
  members_stay = λ base of xs. Unit {0};
  whole = λ base outer x o. ⊥;
  whole_stays = λ base outer x. Unit {0};
  this_stays = Unit {0};
}

module _ (C : Choosing Span) (bytes : List ℕ) (moved : tree.Exp Span) (type : tree.TypeName Span) (name written front gap : List ℕ) where
  -- the text of the declaration in front of a statement, whose initializer is this
  abbrev declared_text : List ℕ → List ℕ
  declared_text init = front ++ init ++ codes ";" ++ gap

  -- a declaration stands in front of a statement, in which the name stands for the expression
  abbrev Extracts : (next : ℕ) → Context → (base : ℕ) → (at : Span) → statement.Stmts Span → Rewritten (statement.Stmts Span) → Type 0
  Extracts n c base at statement.end o = ⊥
  Extracts n c base at (statement.more s rest) o = (q : Rewritten (tree.Exp Span)) × (s1 : Rewritten (statement.Stmt Span)) × (r : Rewritten (statement.Stmts Span))
      × TransformsExp itself C nowhere c value base moved q
      × TransformsStmt itself C (spotted (named (exp_mark moved) name written)) n c base s s1
      × TransformsList itself C nowhere (n + locals_in s) (after n c s) base rest r
      × (o ≡ record {
        tree = statement.more (statement.local at false type (record { mark = at; text = name }) q.tree) (statement.more s1.tree r.tree);
        changes = change (before at) (declared_text (with_changes bytes (exp_mark moved) q.changes)) ∷ (s1.changes ++ r.changes);
        respelled = q.respelled + (s1.respelled + r.respelled);
        losses = q.losses ++ (s1.losses ++ r.losses);
      })

abbrev sum : tree.Exp Span
sum = tree.binary (span 34 37) Add (tree.name (span 34 35) (word 34 35 (codes "a"))) (tree.name (span 36 37) (word 36 37 (codes "b")))

abbrev brackets : tree.Exp Span
brackets = tree.paren (span 33 38) sum

abbrev returned : statement.Stmts Span
returned = statement.more (statement.return (span 27 39) (Some brackets)) statement.end

abbrev returning : List ℕ
returning = codes "class A{int m(int a,int b){return(a+b);}}"

-- the list begins with a statement of this span
abbrev BeginsAt : Span → statement.Stmts Span → Type 0
BeginsAt at statement.end = ⊥
BeginsAt at (statement.more s rest) = stmt_mark s ≡ at

abbrev extraction : Spots Span
extraction = record {
  part = λ k c r base e o. ⊥;
  part_stays = λ k c r base e. Unit {0};
  list = λ n c base xs o. Extracts all_stay returning brackets (tree.int (span 27 27)) (codes "t") (codes " t") (codes "int t = ") (codes " ") n c base (span 27 39) xs o;
  list_stays = λ n c base xs. BeginsAt (span 27 39) xs → ⊥;
  members = λ base of xs o. ⊥;
  members_stay = λ base of xs. Unit {0};
  whole = λ base outer x o. ⊥;
  whole_stays = λ base outer x. Unit {0};
  this_stays = Unit {0};
}

abbrev extracted : Rewritten (statement.Stmts Span)
extracted = changed
    (statement.more (statement.local (span 27 39) false (tree.int (span 27 27)) (word 27 39 (codes "t")) brackets)
    (statement.more (statement.return (span 27 39) (Some (tree.name (span 33 38) (word 33 38 (codes "t"))))) statement.end))
    (change (span 27 27) (codes "int t = (a+b); ") ∷ change (span 33 38) (codes " t") ∷ [])

-- what stays is as it was
name_stays : (c : Context) (base from to : ℕ) (text : List ℕ) → TransformsExp itself all_stay nowhere c value base (tree.name (span from to) (word from to text)) (plain (tree.name (span from to) (word from to text)))
unfolding TransformsExp TransformsTarget TransformsRow
name_stays c base from to text = (stays, refl, refl)

sum_stays : (c : Context) (base : ℕ) → TransformsExp itself all_stay nowhere c value base brackets (plain brackets)
unfolding TransformsExp TransformsTarget TransformsRow
sum_stays c base = (plain sum, (plain _, plain _, (stays, refl, refl), (stays, refl, refl), refl), refl)

pub local_is_extracted : (c : Context) → TransformsList itself all_stay (spotted extraction) 2 c 8 returned extracted
unfolding TransformsStmt TransformsElse TransformsStmts
local_is_extracted c =
    inr (
      plain brackets,
      changed (statement.return (span 27 39) (Some (tree.name (span 33 38) (word 33 38 (codes "t"))))) (change (span 33 38) (codes " t") ∷ []),
      plain statement.end,
      sum_stays c 8,
      (
        changed (Some (tree.name (span 33 38) (word 33 38 (codes "t")))) (change (span 33 38) (codes " t") ∷ []),
        (changed (tree.name (span 33 38) (word 33 38 (codes "t"))) (change (span 33 38) (codes " t") ∷ []), inr (refl, refl), refl),
        refl,
      ),
      refl,
      refl,
    )

pub extracted_text : splice returning (entries_of extracted.changes) ≡ codes "class A{int m(int a,int b){int t = (a+b); return t;}}"
extracted_text = refl

-- ---- inline local

module _ (C : Choosing Span) (bytes : List ℕ) (init : tree.Exp Span) (name front : List ℕ) where
  -- a read of the local becomes a copy of its initializer, in parentheses where the node around asks for more
  abbrev Reads : Asks → Context → (base : ℕ) → tree.Exp Span → Rewritten (tree.Exp Span) → Type 0
  Reads k c base (tree.name m w) o = (w.text ≡ name) × ((q : Rewritten (tree.Exp Span)) × TransformsExp itself C nowhere c value base init q
      × ((Takes k q.tree × (o ≡ changed q.tree (change m (front ++ with_changes bytes (exp_mark init) q.changes) ∷ [])))
      ⊎ ((Takes k q.tree → ⊥) × (o ≡ changed (tree.paren m q.tree) (change m (codes "(" ++ with_changes bytes (exp_mark init) q.changes ++ codes ")") ∷ [])))))
  Reads k c base _ o = ⊥

  abbrev IsOther : tree.Exp Span → Type 0
  IsOther (tree.name m w) = w.text ≢ name
  IsOther _ = Unit {0}

  abbrev reads : Spots Span
  reads = record {
    part = λ k c r base e o. Reads k c base e o;
    part_stays = λ k c r base e. IsOther e;
    list = λ n c base xs o. ⊥;
    list_stays = λ n c base xs. Unit {0};
    members = λ base of xs o. ⊥;
    members_stay = λ base of xs. Unit {0};
    whole = λ base outer x o. ⊥;
    whole_stays = λ base outer x. Unit {0};
    this_stays = Unit {0};
  }

  -- the declaration, with what of its line goes along, is gone
  abbrev Inlines : (gone : Span) → (next : ℕ) → Context → (base : ℕ) → statement.Stmts Span → Rewritten (statement.Stmts Span) → Type 0
  Inlines gone n c base statement.end o = ⊥
  Inlines gone n c base (statement.more s rest) o = (r : Rewritten (statement.Stmts Span)) × TransformsList itself C (spotted reads) (n + locals_in s) (after n c s) base rest r
      × (o ≡ record { tree = r.tree; changes = change gone [] ∷ r.changes; respelled = r.respelled; losses = r.losses })

abbrev minus_one : tree.Exp Span
minus_one = tree.unary (span 27 29) Minus (tree.number (span 28 29) 1)

abbrev differing : List ℕ
differing = codes "class A{int m(int a){int t=-1;return a-t;}}"

abbrev read : tree.Exp Span
read = tree.name (span 39 40) (word 39 40 (codes "t"))

abbrev parameter : tree.Exp Span
parameter = tree.name (span 37 38) (word 37 38 (codes "a"))

abbrev held : statement.Stmts Span
held = statement.more (statement.local (span 21 30) false (tree.int (span 21 24)) (word 25 26 (codes "t")) minus_one)
    (statement.more (statement.return (span 30 41) (Some (tree.binary (span 37 40) Sub parameter read))) statement.end)

abbrev inlining : Spots Span
inlining = record {
  part = λ k c r base e o. ⊥;
  part_stays = λ k c r base e. Unit {0};
  list = λ n c base xs o. Inlines all_stay differing minus_one (codes "t") (codes " ") (span 21 30) n c base xs o;
  list_stays = λ n c base xs. BeginsAt (span 21 30) xs → ⊥;
  members = λ base of xs o. ⊥;
  members_stay = λ base of xs. Unit {0};
  whole = λ base outer x o. ⊥;
  whole_stays = λ base outer x. Unit {0};
  this_stays = Unit {0};
}

abbrev difference : Rewritten (tree.Exp Span)
difference = changed (tree.binary (span 37 40) Sub parameter minus_one) (change (span 39 40) (codes " -1") ∷ [])

abbrev inlined : Rewritten (statement.Stmts Span)
inlined = changed (statement.more (statement.return (span 30 41) (Some difference.tree)) statement.end)
    (change (span 21 30) [] ∷ change (span 39 40) (codes " -1") ∷ [])

minus_stays : (c : Context) (base : ℕ) → TransformsExp itself all_stay nowhere c value base minus_one (plain minus_one)
unfolding TransformsExp TransformsTarget TransformsRow
minus_stays c base = (plain _, refl, refl)

abbrev is_a : List ℕ → Bool
is_a [] = false
is_a (c ∷ cs) = nat_eq c 97

other_name : codes "a" ≢ codes "t"
other_name e = both_ways false refl (sym (ap is_a e))

difference_becomes : (c : Context) (base : ℕ)
    → TransformsExp itself all_stay (spotted (reads all_stay differing minus_one (codes "t") (codes " "))) c value base (tree.binary (span 37 40) Sub parameter read) difference
unfolding TransformsExp TransformsTarget TransformsRow
difference_becomes c base = (
  plain parameter,
  changed minus_one (change (span 39 40) (codes " -1") ∷ []),
  inl (other_name, (stays, refl, refl)),
  inr (refl, (plain minus_one, (plain _, refl, refl), inl (omega arith, refl))),
  refl,
)

pub local_is_inlined : (c : Context) → TransformsList itself all_stay (spotted inlining) 1 c 8 held inlined
unfolding TransformsStmt TransformsElse TransformsStmts
local_is_inlined c =
    inr (
      changed (statement.more (statement.return (span 30 41) (Some difference.tree)) statement.end) difference.changes,
      inl (
        tt,
        (
          changed (statement.return (span 30 41) (Some difference.tree)) difference.changes,
          plain statement.end,
          (changed (Some difference.tree) difference.changes, (difference, inl (tt, difference_becomes _ _), refl), refl),
          inl (tt, refl),
          refl,
        ),
      ),
      refl,
    )

pub inlined_text : splice differing (entries_of inlined.changes) ≡ codes "class A{int m(int a){return a- -1;}}"
inlined_text = refl
