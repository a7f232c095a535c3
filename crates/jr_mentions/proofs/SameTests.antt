-- Tests of declarations that have none of the names, and of types, answer the same.
use Rattle.std.proofs.Common.{◌≡◌, ℕ, List, refl, ap, ◌∙◌, Option, Some, None, Bool}
use Rattle.std.specs.Prelude.{◌&&◌, ◌||◌, not}
use Rattle.std.specs.List.{list_any}
use Rattle.jr_ast.specs.declared.operators.BinOp.{BinOp}
use Rattle.jr_ast.specs.declared.operators.BinOp.TheVariants as op
use Rattle.jr_table.specs.Keys.{ClassKey, FieldKey, Ty, int, boolean, void, null, class}
use Rattle.jr_table.specs.Decls.{MemberKey, head, field, method, constructor, Decl, class_decl, field_decl, method_decl, constructor_decl, local_decl}
use Rattle.jr_table.specs.SameKeys.{same_class, same_ty}
use Rattle.jr_table.specs.Rows.{Row}
use Rattle.jr_table.specs.Entries.{number_of, is_static_word}
use Rattle.jr_table.specs.Found.{Found, one, nothing, many, not_accessible, from_static}
use Rattle.jr_table.specs.Context.{Context, is_final_word}
use Rattle.jr_table.specs.Meanings.{row_of, test_row}
use Rattle.jr_table.specs.Notes.{breaks, when, is_reference, are_ty, is_below, widens, assigns, suits, comparable, equates, takes, has_word, is_static_decl, is_instance_decl, is_final_decl, has_init_decl, is_ctor_of, is_blank, is_fixed, test_found, is_constant_found, number_le, is_later, is_later_than, is_forward, through_notes}
use Rattle.jr_table.specs.declared.rules.Rule.TheVariants as rule
use Rattle.jr_mentions.specs.Apart.{IsOther, IsClean, IsCleanMember}
use Rattle.jr_mentions.specs.Alike.{Told, IsCleanFound, Finds, LookAlike}
use Rattle.jr_mentions.proofs.SameMeanings.{tests}

module _ (names : List (List ℕ)) where
  found_clean : (p q : Decl → Bool) → ((d : Decl) → IsClean names d → p d ≡ q d) → (f : Found) → IsCleanFound names f → test_found p f ≡ test_found q f
  found_clean p q same (one d) clean = same d clean
  found_clean p q same nothing clean = refl
  found_clean p q same (many d e) clean = refl
  found_clean p q same (not_accessible d) clean = refl
  found_clean p q same (from_static d) clean = refl

  -- a test of what both find
  pub found_tests : (p q : Decl → Bool) → ((d : Decl) → IsClean names d → p d ≡ q d) → (f g : Found) → Finds names f g → test_found p f ≡ test_found q g
  found_tests p q same f g finds = found_clean p q same f finds.clean ∙ ap (test_found q) finds.same

  -- what both find, where the one that is asked later is another
  pub moved : (f g h : Found) → Finds names f g → g ≡ h → Finds names f h
  moved f g h finds e = record { same = finds.same ∙ e; clean = finds.clean }

module _ (names : List (List ℕ)) (rows after : List Row) (alike : LookAlike names rows after) where
  -- types

  class_numbers : (k : ClassKey) → number_of rows (class_decl k) ≡ number_of after (class_decl k)
  class_numbers k = alike.number (class_decl k) tt

  widening : (s t : Ty) → widens rows s t ≡ widens after s t
  widening (class c) (class d) = alike.below (number_of rows (class_decl c)) (number_of rows (class_decl d))
      ∙ (λ i. is_below after (class_numbers c i) (class_numbers d i))
  widening (class c) int = refl
  widening (class c) boolean = refl
  widening (class c) void = refl
  widening (class c) null = refl
  widening null (class d) = refl
  widening null int = refl
  widening null boolean = refl
  widening null void = refl
  widening null null = refl
  widening int t = refl
  widening boolean t = refl
  widening void t = refl

  assigning : (s t : Ty) → assigns rows s t ≡ assigns after s t
  assigning s t = λ i. same_ty s t || widening s t i

  pub suiting : (x y : Option Ty) → suits rows x y ≡ suits after x y
  suiting None None = refl
  suiting None (Some t) = refl
  suiting (Some s) None = refl
  suiting (Some s) (Some t) = assigning s t

  comparing : (x y : Option Ty) → comparable rows x y ≡ comparable after x y
  comparing None None = refl
  comparing None (Some t) = refl
  comparing (Some s) None = refl
  comparing (Some t) (Some u) = λ i. is_reference t && is_reference u && (assigning t u i || assigning u t i)

  equating : (x y : Option Ty) → equates rows x y ≡ equates after x y
  equating x y = λ i. are_ty int x y || (are_ty boolean x y || comparing x y i)

  taking : (o : BinOp) (x y : Option Ty) → takes rows o x y ≡ takes after o x y
  taking op.Or x y = refl
  taking op.And x y = refl
  taking op.Eq x y = equating x y
  taking op.Ne x y = equating x y
  taking op.Lt x y = refl
  taking op.Gt x y = refl
  taking op.Le x y = refl
  taking op.Ge x y = refl
  taking op.Add x y = refl
  taking op.Sub x y = refl
  taking op.Mul x y = refl
  taking op.Div x y = refl
  taking op.Rem x y = refl

  -- the same of types that are the same
  pub suits_at : (x y p q : Option Ty) → x ≡ p → y ≡ q → suits rows x y ≡ suits after p q
  suits_at x y p q d e = suiting x y ∙ (λ i. suits after (d i) (e i))

  pub comparable_at : (x y p q : Option Ty) → x ≡ p → y ≡ q → comparable rows x y ≡ comparable after p q
  comparable_at x y p q d e = comparing x y ∙ (λ i. comparable after (d i) (e i))

  pub takes_at : (o : BinOp) (x y p q : Option Ty) → x ≡ p → y ≡ q → takes rows o x y ≡ takes after o p q
  takes_at o x y p q d e = taking o x y ∙ (λ i. takes after o (d i) (e i))

  -- declarations

  pub static_decls : (d : Decl) → IsClean names d → is_static_decl rows d ≡ is_static_decl after d
  static_decls d clean = tests names rows after alike (λ (t : Told). list_any is_static_word t.modifiers) d clean

  pub instance_decls : (d : Decl) → IsClean names d → is_instance_decl rows d ≡ is_instance_decl after d
  instance_decls d clean = tests names rows after alike (λ (t : Told). not (list_any is_static_word t.modifiers)) d clean

  pub final_words : (d : Decl) → IsClean names d → test_row (has_word is_final_word) (row_of rows d) ≡ test_row (has_word is_final_word) (row_of after d)
  final_words d clean = tests names rows after alike (λ (t : Told). list_any is_final_word t.modifiers) d clean

  inits : (d : Decl) → IsClean names d → test_row (λ (r : Row). r.has_init) (row_of rows d) ≡ test_row (λ (r : Row). r.has_init) (row_of after d)
  inits d clean = tests names rows after alike (λ (t : Told). t.has_init) d clean

  pub final_decls : (c : Context) (d : Decl) → IsClean names d → is_final_decl rows c d ≡ is_final_decl after c d
  final_decls c (local_decl k) clean = refl
  final_decls c (class_decl k) clean = final_words (class_decl k) clean
  final_decls c (field_decl k) clean = final_words (field_decl k) clean
  final_decls c (method_decl k) clean = final_words (method_decl k) clean
  final_decls c (constructor_decl k) clean = final_words (constructor_decl k) clean

  init_decls : (c : Context) (d : Decl) → IsClean names d → has_init_decl rows c d ≡ has_init_decl after c d
  init_decls c (local_decl k) clean = refl
  init_decls c (class_decl k) clean = inits (class_decl k) clean
  init_decls c (field_decl k) clean = inits (field_decl k) clean
  init_decls c (method_decl k) clean = inits (method_decl k) clean
  init_decls c (constructor_decl k) clean = inits (constructor_decl k) clean

  blank_decls : (c : Context) (d : Decl) → IsClean names d → is_blank rows c d ≡ is_blank after c d
  blank_decls c (field_decl k) clean = λ i. is_ctor_of c.member k.class
      && tests names rows after alike (λ (t : Told). not (list_any is_static_word t.modifiers) && not t.has_init) (field_decl k) clean i
  blank_decls c (local_decl k) clean = refl
  blank_decls c (class_decl k) clean = refl
  blank_decls c (method_decl k) clean = refl
  blank_decls c (constructor_decl k) clean = refl

  pub fixed_decls : (c : Context) (d : Decl) → IsClean names d → is_fixed rows c d ≡ is_fixed after c d
  fixed_decls c d clean = λ i. final_decls c d clean i && not (blank_decls c d clean i)

  pub constants_found : (c : Context) (f g : Found) → Finds names f g → is_constant_found rows c f ≡ is_constant_found after c g
  constants_found c f g finds = found_tests names (λ d. is_final_decl rows c d && has_init_decl rows c d) (λ d. is_final_decl after c d && has_init_decl after c d)
      (λ d clean. λ i. final_decls c d clean i && init_decls c d clean i) f g finds

  -- fields that are declared later

  later : (k q : FieldKey) → IsOther names k.name → IsOther names q.name → is_later rows k q ≡ is_later after k q
  later k q this that = λ i. same_class k.class q.class && instance_decls (field_decl q) that i
      && number_le (alike.number (field_decl k) this i) (alike.number (field_decl q) that i)

  later_than : (k : MemberKey) (q : FieldKey) → IsCleanMember names k → IsOther names q.name → is_later_than rows k q ≡ is_later_than after k q
  later_than (field k) q this that = later k q this that
  later_than (head k) q this that = refl
  later_than (method k) q this that = refl
  later_than (constructor k) q this that = refl

  pub forward_decls : (c : Context) → IsCleanMember names c.member → (d : Decl) → IsClean names d → is_forward rows c d ≡ is_forward after c d
  forward_decls c this (local_decl k) clean = refl
  forward_decls c this (field_decl q) clean = λ i. not c.is_static && later_than c.member q this clean i
  forward_decls c this (class_decl k) clean = refl
  forward_decls c this (method_decl k) clean = refl
  forward_decls c this (constructor_decl k) clean = refl

  -- how a member is named

  throughs : (at : ℕ) (o : Option ClassKey) (f g : Found) → Finds names f g → through_notes rows at o f ≡ through_notes after at o g
  throughs at None f g finds = λ i. when (found_tests names (is_static_decl rows) (is_static_decl after) static_decls f g finds i) (breaks at rule.StaticThroughValue)
  throughs at (Some k) f g finds = λ i. when (found_tests names (is_instance_decl rows) (is_instance_decl after) instance_decls f g finds i) (breaks at rule.InstanceThroughType)

  pub through_at : (at : ℕ) (o p : Option ClassKey) → o ≡ p → (f g : Found) → Finds names f g → through_notes rows at o f ≡ through_notes after at p g
  through_at at o p e f g finds = throughs at o f g finds ∙ ap (λ x. through_notes after at x g) e
