-- Small examples of extract method: the numbers that locals have, which words the new method has, and
-- the texts of the call and of the body.
use Rattle.std.proofs.Common.{◌≡◌, ℕ, Bool, true, false, List, [], ◌∷◌, ◌++◌, Option, Some, None, codes, refl}
use Rattle.jr_text.specs.declared.spans.Span.{Span}
use Rattle.jr_text.specs.Splices.{splice}
use Rattle.jr_ast.specs.declared.operators.ModWord.TheVariants.{Private, Static}
use Rattle.jr_ast.specs.Tree as tree
use Rattle.jr_ast.specs.StatementTree as statement
use Rattle.jr_ast.specs.MemberTree as syntax
use Rattle.jr_table.specs.Keys.{int}
use Rattle.jr_table.specs.Decls.{MemberKey, method}
use Rattle.jr_table.specs.Context.{known}
use Rattle.jr_bind.specs.Programs.{Program}
use Rattle.jr_rewrite.specs.Respellings.{stays, becomes, by_this}
use Rattle.jr_rewrite.specs.Rewritten.{change}
use Rattle.jr_rewrite.specs.Edited.{entries_of}
use Rattle.jr_member_parts.specs.Heads.{MethodTree, head_text, marked_words}
use Rattle.jr_extract_method.specs.Selecting.{Piece, Outside}
use Rattle.jr_extract_method.specs.Results.{Inside, Returned, nothing, outer_local, inner_local, own_value}
use Rattle.jr_extract_method.specs.Regions.{method_words, number_around, position, or_number, inner_number}
use Rattle.jr_extract_method.specs.Extracting.{made_call, body_text, statement_text}

-- ---- numbers: three locals are declared in the piece, from 2 on

in_front_stays : number_around 2 3 None 1 ≡ Some 1
in_front_stays = refl

inside_goes : number_around 2 3 None 4 ≡ None
inside_goes = refl

behind_closes_up : number_around 2 3 None 5 ≡ Some 2
behind_closes_up = refl

-- the result is declared where the piece stood
result_stays : number_around 2 3 (Some 3) 3 ≡ Some 2
result_stays = refl

behind_result : number_around 2 3 (Some 3) 5 ≡ Some 3
behind_result = refl

-- locals 0 and 1 become parameters 0 and 1, and those of the piece come behind them; of others none is
-- seen there
abbrev in_method : ℕ → Option ℕ
in_method n = or_number (position (0 ∷ 1 ∷ []) n) (inner_number 2 4 2 n)

outer_is_parameter : in_method 1 ≡ Some 1
outer_is_parameter = refl

inner_comes_behind : in_method 5 ≡ Some 3
inner_comes_behind = refl

others_are_unseen : in_method 3 ≡ None
others_are_unseen = refl

-- ---- words

instance_is_private : method_words false ≡ Private ∷ []
instance_is_private = refl

static_is_both : method_words true ≡ Private ∷ Static ∷ []
static_is_both = refl

-- ---- int m(int a){int x=0;x=x+a;return x;}, of which x=x+a; becomes q

abbrev span : ℕ → ℕ → Span
span from to = record { from = from; to = to }

abbrev word : Span → List ℕ → tree.Word Span
word m name = record { mark = m; text = name }

abbrev m_key : MemberKey
m_key = method (record { class = record { outer = None; name = codes "A" }; name = codes "m"; params = int ∷ [] })

abbrev outside : ℕ → List ℕ → Outside
outside n name = record {
  local = record { name = name; key = record { member = m_key; number = n }; is_final = false; type = known int; has_init = true };
  type = int;
}

abbrev both : List Outside
both = outside 0 (codes "a") ∷ outside 1 (codes "x") ∷ []

module _ (p : Program Span) (file : ℕ) (x : Piece p file 22 28) where
  abbrev assigned : Returned
  assigned = outer_local (outside 1 (codes "x"))

  call_is_written : (made_call p file 22 28 (codes "q") x both assigned stays).text ≡ codes "q(a, x)"
  call_is_written = refl

  -- where a method of the class around has the name
  call_on_this : (made_call p file 22 28 (codes "q") x both assigned (becomes (record { text = codes "q"; front = by_this }))).text ≡ codes "this.q(a, x)"
  call_on_this = refl

  result_is_assigned : statement_text p file 22 28 (codes "q") x both assigned assigned (tree.int (span 22 28)) (codes "q(a, x)")
      ≡ codes "x = q(a, x);"
  result_is_assigned = refl

  result_is_returned : body_text p file 22 28 (codes "q") x both assigned assigned (codes "x=x+a;") ≡ codes "{ x=x+a; return x; }"
  result_is_returned = refl

  -- a piece that gives nothing back, and an expression
  call_alone : statement_text p file 22 28 (codes "q") x both nothing nothing (tree.int (span 22 28)) (codes "q(a)") ≡ codes "q(a);"
  call_alone = refl

  value_is_returned : body_text p file 22 28 (codes "q") x both (own_value int) (own_value int) (codes "x+a") ≡ codes "{ return x+a; }"
  value_is_returned = refl

  -- a local that the piece declares
  abbrev inside : Bool → Inside
  inside is_final = record {
    number = 1;
    is_final = is_final;
    type = tree.int (span 22 25);
    word = word (span 26 27) (codes "y");
    context = record { member = m_key; is_static = false; locals = []; own = None };
    base = 22;
    means = int;
  }

  local_is_declared : statement_text p file 22 28 (codes "q") x both (inner_local (inside true)) (inner_local (inside true)) (tree.int (span 22 25)) (codes "q(a)")
      ≡ codes "final int y = q(a);"
  local_is_declared = refl

-- ---- the texts

abbrev text : List ℕ
text = codes "class A{int m(int a){int x=0;x=x+a;return x;}}"

abbrev param : List ℕ → syntax.Param Span
param name = record { mark = span 29 35; is_final = false; type = tree.int (span 29 35); name = word (span 29 35) name }

abbrev new_method : MethodTree
new_method = record {
  mark = span 29 35;
  modifiers = marked_words (span 29 35) (method_words false);
  result = Some (tree.int (span 29 35));
  word = word (span 29 35) (codes "q");
  params = param (codes "a") ∷ param (codes "x") ∷ [];
  body = statement.end;
}

head_is_written : head_text new_method ≡ codes "private int q(int a, int x)"
head_is_written = refl

piece_becomes_a_method : splice text (entries_of (change (span 29 35) (codes "x = q(a, x);")
    ∷ change (span 45 45) (codes " " ++ (head_text new_method ++ codes " { x=x+a; return x; }")) ∷ []))
    ≡ codes "class A{int m(int a){int x=0;x = q(a, x);return x;} private int q(int a, int x) { x=x+a; return x; }}"
piece_becomes_a_method = refl
