-- Errors of small programs, by place and rule: what names, calls and creations find, and from where.
use Rattle.std.proofs.Common.{◌≡◌, [], ◌∷◌, Some, None, false, refl}
use Rattle.std.specs.Prelude.{codes}
use Rattle.jr_ast.specs.declared.operators.ModWord.TheVariants as word
use Rattle.jr_ast.specs.Tree as tree
use Rattle.jr_ast.specs.StatementTree as statement
use Rattle.jr_ast.specs.MemberTree as syntax
use Rattle.jr_table.specs.Entries.{number_of, entries_of}
use Rattle.jr_table.specs.Chains.{chain_of}
use Rattle.jr_table.specs.Looking.{own_row, nearest, member}
use Rattle.jr_table.specs.Access.{is_accessible, lacks_object}
use Rattle.jr_table.specs.Calls.{assignable, as_specific, is_named, is_ctor, methods_named, ctors_in, choose_at, find_method, find_ctor, find_call}
use Rattle.jr_table.specs.Fields.{find_field, find_field_of, find_member_type}
use Rattle.jr_table.specs.TypeNames.{find_type}
use Rattle.jr_table.specs.Scope.{last_named}
use Rattle.jr_table.specs.Lookup.{shown, find_variable, find_type_named, find_type_of, find_field_in, find_method_named, find_method_of, find_ctor_of}
use Rattle.jr_table.specs.Context.{locals_in, locals_in_else, locals_in_row}
use Rattle.jr_table.specs.Meanings.{row_of, find_left, find_left_of, type_of, class_name_of, target_found, types_of}
use Rattle.jr_table.specs.Notes.{breaks, own_notes, is_constant, is_true_literal, completes, else_completes, list_completes, own_stmt_notes}
use Rattle.jr_table.specs.Walks.{notes_of, target_notes, args_notes, stmt_notes, else_notes, stmts_notes, member_notes}
use Rattle.jr_table.specs.declared.rules.Rule.TheVariants as rule
use Rattle.jr_table.proofs.BindingSamples.{w, modifier, param, class_rows, members_rows, member_rows, class_notes, members_notes, one_notes, errors}

-- `class A{int f=x;}`: javac refuses it
case_0 : errors 0 ((syntax.class 0 ([]) (w 6 (codes "A")) None (syntax.more (syntax.field 8 ([])
    (tree.int 8) (w 12 (codes "f")) (Some (tree.name 14 (w 14 (codes "x"))))) syntax.end)) ∷ []) ≡
    breaks 14 rule.NoVariable ∷ breaks 14 rule.TypeMismatch ∷ []
unfolding is_accessible lacks_object assignable as_specific is_named is_ctor methods_named ctors_in choose_at find_method find_ctor find_call find_field find_field_of find_member_type last_named find_type shown find_variable find_type_named find_type_of find_field_in find_method_named find_method_of find_ctor_of own_row nearest member number_of entries_of chain_of row_of find_left find_left_of type_of class_name_of target_found types_of own_notes is_constant is_true_literal completes else_completes list_completes own_stmt_notes notes_of target_notes args_notes stmt_notes else_notes stmts_notes member_notes locals_in locals_in_else locals_in_row class_rows members_rows member_rows class_notes members_notes one_notes
case_0 = refl

-- `class A{int x;int f=x;}`: javac takes it
case_1 : errors 0 ((syntax.class 0 ([]) (w 6 (codes "A")) None (syntax.more (syntax.field 8 ([])
    (tree.int 8) (w 12 (codes "x")) None) (syntax.more (syntax.field 14 ([]) (tree.int 14) (w 18
    (codes "f")) (Some (tree.name 20 (w 20 (codes "x"))))) syntax.end))) ∷ []) ≡ []
unfolding is_accessible lacks_object assignable as_specific is_named is_ctor methods_named ctors_in choose_at find_method find_ctor find_call find_field find_field_of find_member_type last_named find_type shown find_variable find_type_named find_type_of find_field_in find_method_named find_method_of find_ctor_of own_row nearest member number_of entries_of chain_of row_of find_left find_left_of type_of class_name_of target_found types_of own_notes is_constant is_true_literal completes else_completes list_completes own_stmt_notes notes_of target_notes args_notes stmt_notes else_notes stmts_notes member_notes locals_in locals_in_else locals_in_row class_rows members_rows member_rows class_notes members_notes one_notes
case_1 = refl

-- `class A{int m(int i){return i.f;}}`: javac refuses it
case_2 : errors 0 ((syntax.class 0 ([]) (w 6 (codes "A")) None (syntax.more (syntax.method 8 ([])
    (Some (tree.int 8)) (w 12 (codes "m")) ((param 14 false (tree.int 14) (w 18 (codes "i"))) ∷
    []) (statement.more (statement.return 21 (Some (tree.field 28 (tree.name 28 (w 28 (codes
    "i"))) (w 30 (codes "f"))))) statement.end)) syntax.end)) ∷ []) ≡ breaks 28 rule.TypeMismatch
    ∷ breaks 30 rule.NoVariable ∷ []
unfolding is_accessible lacks_object assignable as_specific is_named is_ctor methods_named ctors_in choose_at find_method find_ctor find_call find_field find_field_of find_member_type last_named find_type shown find_variable find_type_named find_type_of find_field_in find_method_named find_method_of find_ctor_of own_row nearest member number_of entries_of chain_of row_of find_left find_left_of type_of class_name_of target_found types_of own_notes is_constant is_true_literal completes else_completes list_completes own_stmt_notes notes_of target_notes args_notes stmt_notes else_notes stmts_notes member_notes locals_in locals_in_else locals_in_row class_rows members_rows member_rows class_notes members_notes one_notes
case_2 = refl

-- `class A{int f;int m(A i){return i.f;}}`: javac takes it
case_3 : errors 0 ((syntax.class 0 ([]) (w 6 (codes "A")) None (syntax.more (syntax.field 8 ([])
    (tree.int 8) (w 12 (codes "f")) None) (syntax.more (syntax.method 14 ([]) (Some (tree.int 14))
    (w 18 (codes "m")) ((param 20 false (tree.named 20 None (w 20 (codes "A"))) (w 22 (codes
    "i"))) ∷ []) (statement.more (statement.return 25 (Some (tree.field 32 (tree.name 32 (w 32
    (codes "i"))) (w 34 (codes "f"))))) statement.end)) syntax.end))) ∷ []) ≡ []
unfolding is_accessible lacks_object assignable as_specific is_named is_ctor methods_named ctors_in choose_at find_method find_ctor find_call find_field find_field_of find_member_type last_named find_type shown find_variable find_type_named find_type_of find_field_in find_method_named find_method_of find_ctor_of own_row nearest member number_of entries_of chain_of row_of find_left find_left_of type_of class_name_of target_found types_of own_notes is_constant is_true_literal completes else_completes list_completes own_stmt_notes notes_of target_notes args_notes stmt_notes else_notes stmts_notes member_notes locals_in locals_in_else locals_in_row class_rows members_rows member_rows class_notes members_notes one_notes
case_3 = refl

-- `class A{void m(){Z.n();}}`: javac refuses it
case_4 : errors 0 ((syntax.class 0 ([]) (w 6 (codes "A")) None (syntax.more (syntax.method 8 ([])
    None (w 13 (codes "m")) ([]) (statement.more (statement.eval 17 (tree.call 17 (tree.on
    (tree.name 17 (w 17 (codes "Z")))) (w 19 (codes "n")) tree.end)) statement.end)) syntax.end))
    ∷ []) ≡ breaks 17 rule.NoType ∷ breaks 19 rule.NoMethod ∷ []
unfolding is_accessible lacks_object assignable as_specific is_named is_ctor methods_named ctors_in choose_at find_method find_ctor find_call find_field find_field_of find_member_type last_named find_type shown find_variable find_type_named find_type_of find_field_in find_method_named find_method_of find_ctor_of own_row nearest member number_of entries_of chain_of row_of find_left find_left_of type_of class_name_of target_found types_of own_notes is_constant is_true_literal completes else_completes list_completes own_stmt_notes notes_of target_notes args_notes stmt_notes else_notes stmts_notes member_notes locals_in locals_in_else locals_in_row class_rows members_rows member_rows class_notes members_notes one_notes
case_4 = refl

-- `class A{static void n(){}void m(){A.n();}}`: javac takes it
case_5 : errors 0 ((syntax.class 0 ([]) (w 6 (codes "A")) None (syntax.more (syntax.method 8
    ((modifier 8 word.Static) ∷ []) None (w 20 (codes "n")) ([]) statement.end) (syntax.more
    (syntax.method 25 ([]) None (w 30 (codes "m")) ([]) (statement.more (statement.eval 34
    (tree.call 34 (tree.on (tree.name 34 (w 34 (codes "A")))) (w 36 (codes "n")) tree.end))
    statement.end)) syntax.end))) ∷ []) ≡ []
unfolding is_accessible lacks_object assignable as_specific is_named is_ctor methods_named ctors_in choose_at find_method find_ctor find_call find_field find_field_of find_member_type last_named find_type shown find_variable find_type_named find_type_of find_field_in find_method_named find_method_of find_ctor_of own_row nearest member number_of entries_of chain_of row_of find_left find_left_of type_of class_name_of target_found types_of own_notes is_constant is_true_literal completes else_completes list_completes own_stmt_notes notes_of target_notes args_notes stmt_notes else_notes stmts_notes member_notes locals_in locals_in_else locals_in_row class_rows members_rows member_rows class_notes members_notes one_notes
case_5 = refl

-- `class A{void m(){Z z=null;}}`: javac refuses it
case_6 : errors 0 ((syntax.class 0 ([]) (w 6 (codes "A")) None (syntax.more (syntax.method 8 ([])
    None (w 13 (codes "m")) ([]) (statement.more (statement.local 17 false (tree.named 17 None (w
    17 (codes "Z"))) (w 19 (codes "z")) (tree.null 21)) statement.end)) syntax.end)) ∷ []) ≡
    breaks 17 rule.NoType ∷ breaks 21 rule.TypeMismatch ∷ []
unfolding is_accessible lacks_object assignable as_specific is_named is_ctor methods_named ctors_in choose_at find_method find_ctor find_call find_field find_field_of find_member_type last_named find_type shown find_variable find_type_named find_type_of find_field_in find_method_named find_method_of find_ctor_of own_row nearest member number_of entries_of chain_of row_of find_left find_left_of type_of class_name_of target_found types_of own_notes is_constant is_true_literal completes else_completes list_completes own_stmt_notes notes_of target_notes args_notes stmt_notes else_notes stmts_notes member_notes locals_in locals_in_else locals_in_row class_rows members_rows member_rows class_notes members_notes one_notes
case_6 = refl

-- `class A{void m(){A z=null;}}`: javac takes it
case_7 : errors 0 ((syntax.class 0 ([]) (w 6 (codes "A")) None (syntax.more (syntax.method 8 ([])
    None (w 13 (codes "m")) ([]) (statement.more (statement.local 17 false (tree.named 17 None (w
    17 (codes "A"))) (w 19 (codes "z")) (tree.null 21)) statement.end)) syntax.end)) ∷ []) ≡ []
unfolding is_accessible lacks_object assignable as_specific is_named is_ctor methods_named ctors_in choose_at find_method find_ctor find_call find_field find_field_of find_member_type last_named find_type shown find_variable find_type_named find_type_of find_field_in find_method_named find_method_of find_ctor_of own_row nearest member number_of entries_of chain_of row_of find_left find_left_of type_of class_name_of target_found types_of own_notes is_constant is_true_literal completes else_completes list_completes own_stmt_notes notes_of target_notes args_notes stmt_notes else_notes stmts_notes member_notes locals_in locals_in_else locals_in_row class_rows members_rows member_rows class_notes members_notes one_notes
case_7 = refl

-- `class A{void m(){n();}}`: javac refuses it
case_8 : errors 0 ((syntax.class 0 ([]) (w 6 (codes "A")) None (syntax.more (syntax.method 8 ([])
    None (w 13 (codes "m")) ([]) (statement.more (statement.eval 17 (tree.call 17 tree.no_target
    (w 17 (codes "n")) tree.end)) statement.end)) syntax.end)) ∷ []) ≡ breaks 17 rule.NoMethod ∷
    []
unfolding is_accessible lacks_object assignable as_specific is_named is_ctor methods_named ctors_in choose_at find_method find_ctor find_call find_field find_field_of find_member_type last_named find_type shown find_variable find_type_named find_type_of find_field_in find_method_named find_method_of find_ctor_of own_row nearest member number_of entries_of chain_of row_of find_left find_left_of type_of class_name_of target_found types_of own_notes is_constant is_true_literal completes else_completes list_completes own_stmt_notes notes_of target_notes args_notes stmt_notes else_notes stmts_notes member_notes locals_in locals_in_else locals_in_row class_rows members_rows member_rows class_notes members_notes one_notes
case_8 = refl

-- `class A{void n(){}void m(){n();}}`: javac takes it
case_9 : errors 0 ((syntax.class 0 ([]) (w 6 (codes "A")) None (syntax.more (syntax.method 8 ([])
    None (w 13 (codes "n")) ([]) statement.end) (syntax.more (syntax.method 18 ([]) None (w 23
    (codes "m")) ([]) (statement.more (statement.eval 27 (tree.call 27 tree.no_target (w 27 (codes
    "n")) tree.end)) statement.end)) syntax.end))) ∷ []) ≡ []
unfolding is_accessible lacks_object assignable as_specific is_named is_ctor methods_named ctors_in choose_at find_method find_ctor find_call find_field find_field_of find_member_type last_named find_type shown find_variable find_type_named find_type_of find_field_in find_method_named find_method_of find_ctor_of own_row nearest member number_of entries_of chain_of row_of find_left find_left_of type_of class_name_of target_found types_of own_notes is_constant is_true_literal completes else_completes list_completes own_stmt_notes notes_of target_notes args_notes stmt_notes else_notes stmts_notes member_notes locals_in locals_in_else locals_in_row class_rows members_rows member_rows class_notes members_notes one_notes
case_9 = refl

-- `class A{A(int a){}void m(){new A();}}`: javac refuses it
case_10 : errors 0 ((syntax.class 0 ([]) (w 6 (codes "A")) None (syntax.more (syntax.constructor 8
    ([]) (w 8 (codes "A")) ((param 10 false (tree.int 10) (w 14 (codes "a"))) ∷ []) None
    statement.end) (syntax.more (syntax.method 18 ([]) None (w 23 (codes "m")) ([])
    (statement.more (statement.eval 27 (tree.create 27 (tree.named 31 None (w 31 (codes "A")))
    tree.end)) statement.end)) syntax.end))) ∷ []) ≡ breaks 27 rule.NoMethod ∷ []
unfolding is_accessible lacks_object assignable as_specific is_named is_ctor methods_named ctors_in choose_at find_method find_ctor find_call find_field find_field_of find_member_type last_named find_type shown find_variable find_type_named find_type_of find_field_in find_method_named find_method_of find_ctor_of own_row nearest member number_of entries_of chain_of row_of find_left find_left_of type_of class_name_of target_found types_of own_notes is_constant is_true_literal completes else_completes list_completes own_stmt_notes notes_of target_notes args_notes stmt_notes else_notes stmts_notes member_notes locals_in locals_in_else locals_in_row class_rows members_rows member_rows class_notes members_notes one_notes
case_10 = refl

-- `class A{A(int a){}void m(){new A(1);}}`: javac takes it
case_11 : errors 0 ((syntax.class 0 ([]) (w 6 (codes "A")) None (syntax.more (syntax.constructor 8
    ([]) (w 8 (codes "A")) ((param 10 false (tree.int 10) (w 14 (codes "a"))) ∷ []) None
    statement.end) (syntax.more (syntax.method 18 ([]) None (w 23 (codes "m")) ([])
    (statement.more (statement.eval 27 (tree.create 27 (tree.named 31 None (w 31 (codes "A")))
    (tree.more (tree.number 33 1) tree.end))) statement.end)) syntax.end))) ∷ []) ≡ []
unfolding is_accessible lacks_object assignable as_specific is_named is_ctor methods_named ctors_in choose_at find_method find_ctor find_call find_field find_field_of find_member_type last_named find_type shown find_variable find_type_named find_type_of find_field_in find_method_named find_method_of find_ctor_of own_row nearest member number_of entries_of chain_of row_of find_left find_left_of type_of class_name_of target_found types_of own_notes is_constant is_true_literal completes else_completes list_completes own_stmt_notes notes_of target_notes args_notes stmt_notes else_notes stmts_notes member_notes locals_in locals_in_else locals_in_row class_rows members_rows member_rows class_notes members_notes one_notes
case_11 = refl

-- `class A{void m(){new Z();}}`: javac refuses it
case_12 : errors 0 ((syntax.class 0 ([]) (w 6 (codes "A")) None (syntax.more (syntax.method 8 ([])
    None (w 13 (codes "m")) ([]) (statement.more (statement.eval 17 (tree.create 17 (tree.named 21
    None (w 21 (codes "Z"))) tree.end)) statement.end)) syntax.end)) ∷ []) ≡ breaks 17
    rule.NoMethod ∷ breaks 21 rule.NoType ∷ []
unfolding is_accessible lacks_object assignable as_specific is_named is_ctor methods_named ctors_in choose_at find_method find_ctor find_call find_field find_field_of find_member_type last_named find_type shown find_variable find_type_named find_type_of find_field_in find_method_named find_method_of find_ctor_of own_row nearest member number_of entries_of chain_of row_of find_left find_left_of type_of class_name_of target_found types_of own_notes is_constant is_true_literal completes else_completes list_completes own_stmt_notes notes_of target_notes args_notes stmt_notes else_notes stmts_notes member_notes locals_in locals_in_else locals_in_row class_rows members_rows member_rows class_notes members_notes one_notes
case_12 = refl

-- `class A{void n(A a){}void n(B b){}void m(){n(null);}}class B{}`: javac refuses it
case_13 : errors 0 ((syntax.class 0 ([]) (w 6 (codes "A")) None (syntax.more (syntax.method 8 ([])
    None (w 13 (codes "n")) ((param 15 false (tree.named 15 None (w 15 (codes "A"))) (w 17 (codes
    "a"))) ∷ []) statement.end) (syntax.more (syntax.method 21 ([]) None (w 26 (codes "n"))
    ((param 28 false (tree.named 28 None (w 28 (codes "B"))) (w 30 (codes "b"))) ∷ [])
    statement.end) (syntax.more (syntax.method 34 ([]) None (w 39 (codes "m")) ([])
    (statement.more (statement.eval 43 (tree.call 43 tree.no_target (w 43 (codes "n")) (tree.more
    (tree.null 45) tree.end))) statement.end)) syntax.end)))) ∷ (syntax.class 53 ([]) (w 59 (codes
    "B")) None syntax.end) ∷ []) ≡ breaks 43 rule.Ambiguous ∷ []
unfolding is_accessible lacks_object assignable as_specific is_named is_ctor methods_named ctors_in choose_at find_method find_ctor find_call find_field find_field_of find_member_type last_named find_type shown find_variable find_type_named find_type_of find_field_in find_method_named find_method_of find_ctor_of own_row nearest member number_of entries_of chain_of row_of find_left find_left_of type_of class_name_of target_found types_of own_notes is_constant is_true_literal completes else_completes list_completes own_stmt_notes notes_of target_notes args_notes stmt_notes else_notes stmts_notes member_notes locals_in locals_in_else locals_in_row class_rows members_rows member_rows class_notes members_notes one_notes
case_13 = refl

-- `class A{void n(A a){}void n(B b){}void m(){n(new A());}}class B{}`: javac takes it
case_14 : errors 0 ((syntax.class 0 ([]) (w 6 (codes "A")) None (syntax.more (syntax.method 8 ([])
    None (w 13 (codes "n")) ((param 15 false (tree.named 15 None (w 15 (codes "A"))) (w 17 (codes
    "a"))) ∷ []) statement.end) (syntax.more (syntax.method 21 ([]) None (w 26 (codes "n"))
    ((param 28 false (tree.named 28 None (w 28 (codes "B"))) (w 30 (codes "b"))) ∷ [])
    statement.end) (syntax.more (syntax.method 34 ([]) None (w 39 (codes "m")) ([])
    (statement.more (statement.eval 43 (tree.call 43 tree.no_target (w 43 (codes "n")) (tree.more
    (tree.create 45 (tree.named 49 None (w 49 (codes "A"))) tree.end) tree.end))) statement.end))
    syntax.end)))) ∷ (syntax.class 56 ([]) (w 62 (codes "B")) None syntax.end) ∷ []) ≡ []
unfolding is_accessible lacks_object assignable as_specific is_named is_ctor methods_named ctors_in choose_at find_method find_ctor find_call find_field find_field_of find_member_type last_named find_type shown find_variable find_type_named find_type_of find_field_in find_method_named find_method_of find_ctor_of own_row nearest member number_of entries_of chain_of row_of find_left find_left_of type_of class_name_of target_found types_of own_notes is_constant is_true_literal completes else_completes list_completes own_stmt_notes notes_of target_notes args_notes stmt_notes else_notes stmts_notes member_notes locals_in locals_in_else locals_in_row class_rows members_rows member_rows class_notes members_notes one_notes
case_14 = refl

-- `class A{private int f;}class B{int m(A a){return a.f;}}`: javac refuses it
case_15 : errors 0 ((syntax.class 0 ([]) (w 6 (codes "A")) None (syntax.more (syntax.field 8
    ((modifier 8 word.Private) ∷ []) (tree.int 16) (w 20 (codes "f")) None) syntax.end)) ∷
    (syntax.class 23 ([]) (w 29 (codes "B")) None (syntax.more (syntax.method 31 ([]) (Some
    (tree.int 31)) (w 35 (codes "m")) ((param 37 false (tree.named 37 None (w 37 (codes "A"))) (w
    39 (codes "a"))) ∷ []) (statement.more (statement.return 42 (Some (tree.field 49 (tree.name 49
    (w 49 (codes "a"))) (w 51 (codes "f"))))) statement.end)) syntax.end)) ∷ []) ≡ breaks 49
    rule.TypeMismatch ∷ breaks 51 rule.Private ∷ []
unfolding is_accessible lacks_object assignable as_specific is_named is_ctor methods_named ctors_in choose_at find_method find_ctor find_call find_field find_field_of find_member_type last_named find_type shown find_variable find_type_named find_type_of find_field_in find_method_named find_method_of find_ctor_of own_row nearest member number_of entries_of chain_of row_of find_left find_left_of type_of class_name_of target_found types_of own_notes is_constant is_true_literal completes else_completes list_completes own_stmt_notes notes_of target_notes args_notes stmt_notes else_notes stmts_notes member_notes locals_in locals_in_else locals_in_row class_rows members_rows member_rows class_notes members_notes one_notes
case_15 = refl

-- `class A{private int f;int m(A a){return a.f;}}`: javac takes it
case_16 : errors 0 ((syntax.class 0 ([]) (w 6 (codes "A")) None (syntax.more (syntax.field 8
    ((modifier 8 word.Private) ∷ []) (tree.int 16) (w 20 (codes "f")) None) (syntax.more
    (syntax.method 22 ([]) (Some (tree.int 22)) (w 26 (codes "m")) ((param 28 false (tree.named 28
    None (w 28 (codes "A"))) (w 30 (codes "a"))) ∷ []) (statement.more (statement.return 33 (Some
    (tree.field 40 (tree.name 40 (w 40 (codes "a"))) (w 42 (codes "f"))))) statement.end))
    syntax.end))) ∷ []) ≡ []
unfolding is_accessible lacks_object assignable as_specific is_named is_ctor methods_named ctors_in choose_at find_method find_ctor find_call find_field find_field_of find_member_type last_named find_type shown find_variable find_type_named find_type_of find_field_in find_method_named find_method_of find_ctor_of own_row nearest member number_of entries_of chain_of row_of find_left find_left_of type_of class_name_of target_found types_of own_notes is_constant is_true_literal completes else_completes list_completes own_stmt_notes notes_of target_notes args_notes stmt_notes else_notes stmts_notes member_notes locals_in locals_in_else locals_in_row class_rows members_rows member_rows class_notes members_notes one_notes
case_16 = refl

-- `class A{int f;static int m(){return f;}}`: javac refuses it
case_17 : errors 0 ((syntax.class 0 ([]) (w 6 (codes "A")) None (syntax.more (syntax.field 8 ([])
    (tree.int 8) (w 12 (codes "f")) None) (syntax.more (syntax.method 14 ((modifier 14
    word.Static) ∷ []) (Some (tree.int 21)) (w 25 (codes "m")) ([]) (statement.more
    (statement.return 29 (Some (tree.name 36 (w 36 (codes "f"))))) statement.end)) syntax.end))) ∷
    []) ≡ breaks 36 rule.StaticContext ∷ breaks 36 rule.TypeMismatch ∷ []
unfolding is_accessible lacks_object assignable as_specific is_named is_ctor methods_named ctors_in choose_at find_method find_ctor find_call find_field find_field_of find_member_type last_named find_type shown find_variable find_type_named find_type_of find_field_in find_method_named find_method_of find_ctor_of own_row nearest member number_of entries_of chain_of row_of find_left find_left_of type_of class_name_of target_found types_of own_notes is_constant is_true_literal completes else_completes list_completes own_stmt_notes notes_of target_notes args_notes stmt_notes else_notes stmts_notes member_notes locals_in locals_in_else locals_in_row class_rows members_rows member_rows class_notes members_notes one_notes
case_17 = refl

-- `class A{int f;int m(){return f;}}`: javac takes it
case_18 : errors 0 ((syntax.class 0 ([]) (w 6 (codes "A")) None (syntax.more (syntax.field 8 ([])
    (tree.int 8) (w 12 (codes "f")) None) (syntax.more (syntax.method 14 ([]) (Some (tree.int 14))
    (w 18 (codes "m")) ([]) (statement.more (statement.return 22 (Some (tree.name 29 (w 29 (codes
    "f"))))) statement.end)) syntax.end))) ∷ []) ≡ []
unfolding is_accessible lacks_object assignable as_specific is_named is_ctor methods_named ctors_in choose_at find_method find_ctor find_call find_field find_field_of find_member_type last_named find_type shown find_variable find_type_named find_type_of find_field_in find_method_named find_method_of find_ctor_of own_row nearest member number_of entries_of chain_of row_of find_left find_left_of type_of class_name_of target_found types_of own_notes is_constant is_true_literal completes else_completes list_completes own_stmt_notes notes_of target_notes args_notes stmt_notes else_notes stmts_notes member_notes locals_in locals_in_else locals_in_row class_rows members_rows member_rows class_notes members_notes one_notes
case_18 = refl

-- `class A{static A m(){return this;}}`: javac refuses it
case_19 : errors 0 ((syntax.class 0 ([]) (w 6 (codes "A")) None (syntax.more (syntax.method 8
    ((modifier 8 word.Static) ∷ []) (Some (tree.named 15 None (w 15 (codes "A")))) (w 17 (codes
    "m")) ([]) (statement.more (statement.return 21 (Some (tree.this 28))) statement.end))
    syntax.end)) ∷ []) ≡ breaks 28 rule.StaticContext ∷ []
unfolding is_accessible lacks_object assignable as_specific is_named is_ctor methods_named ctors_in choose_at find_method find_ctor find_call find_field find_field_of find_member_type last_named find_type shown find_variable find_type_named find_type_of find_field_in find_method_named find_method_of find_ctor_of own_row nearest member number_of entries_of chain_of row_of find_left find_left_of type_of class_name_of target_found types_of own_notes is_constant is_true_literal completes else_completes list_completes own_stmt_notes notes_of target_notes args_notes stmt_notes else_notes stmts_notes member_notes locals_in locals_in_else locals_in_row class_rows members_rows member_rows class_notes members_notes one_notes
case_19 = refl

-- `class A{A m(){return this;}}`: javac takes it
case_20 : errors 0 ((syntax.class 0 ([]) (w 6 (codes "A")) None (syntax.more (syntax.method 8 ([])
    (Some (tree.named 8 None (w 8 (codes "A")))) (w 10 (codes "m")) ([]) (statement.more
    (statement.return 14 (Some (tree.this 21))) statement.end)) syntax.end)) ∷ []) ≡ []
unfolding is_accessible lacks_object assignable as_specific is_named is_ctor methods_named ctors_in choose_at find_method find_ctor find_call find_field find_field_of find_member_type last_named find_type shown find_variable find_type_named find_type_of find_field_in find_method_named find_method_of find_ctor_of own_row nearest member number_of entries_of chain_of row_of find_left find_left_of type_of class_name_of target_found types_of own_notes is_constant is_true_literal completes else_completes list_completes own_stmt_notes notes_of target_notes args_notes stmt_notes else_notes stmts_notes member_notes locals_in locals_in_else locals_in_row class_rows members_rows member_rows class_notes members_notes one_notes
case_20 = refl

-- `class B{int f;}class A extends B{static void m(){super.f=1;}}`: javac refuses it
case_21 : errors 0 ((syntax.class 0 ([]) (w 6 (codes "B")) None (syntax.more (syntax.field 8 ([])
    (tree.int 8) (w 12 (codes "f")) None) syntax.end)) ∷ (syntax.class 15 ([]) (w 21 (codes "A"))
    (Some (tree.named 31 None (w 31 (codes "B")))) (syntax.more (syntax.method 33 ((modifier 33
    word.Static) ∷ []) None (w 45 (codes "m")) ([]) (statement.more (statement.eval 49
    (tree.assign 49 (tree.super_field 49 (w 55 (codes "f"))) (tree.number 57 1))) statement.end))
    syntax.end)) ∷ []) ≡ breaks 49 rule.StaticContext ∷ []
unfolding is_accessible lacks_object assignable as_specific is_named is_ctor methods_named ctors_in choose_at find_method find_ctor find_call find_field find_field_of find_member_type last_named find_type shown find_variable find_type_named find_type_of find_field_in find_method_named find_method_of find_ctor_of own_row nearest member number_of entries_of chain_of row_of find_left find_left_of type_of class_name_of target_found types_of own_notes is_constant is_true_literal completes else_completes list_completes own_stmt_notes notes_of target_notes args_notes stmt_notes else_notes stmts_notes member_notes locals_in locals_in_else locals_in_row class_rows members_rows member_rows class_notes members_notes one_notes
case_21 = refl

-- `class B{int f;}class A extends B{void m(){super.f=1;}}`: javac takes it
case_22 : errors 0 ((syntax.class 0 ([]) (w 6 (codes "B")) None (syntax.more (syntax.field 8 ([])
    (tree.int 8) (w 12 (codes "f")) None) syntax.end)) ∷ (syntax.class 15 ([]) (w 21 (codes "A"))
    (Some (tree.named 31 None (w 31 (codes "B")))) (syntax.more (syntax.method 33 ([]) None (w 38
    (codes "m")) ([]) (statement.more (statement.eval 42 (tree.assign 42 (tree.super_field 42 (w
    48 (codes "f"))) (tree.number 50 1))) statement.end)) syntax.end)) ∷ []) ≡ []
unfolding is_accessible lacks_object assignable as_specific is_named is_ctor methods_named ctors_in choose_at find_method find_ctor find_call find_field find_field_of find_member_type last_named find_type shown find_variable find_type_named find_type_of find_field_in find_method_named find_method_of find_ctor_of own_row nearest member number_of entries_of chain_of row_of find_left find_left_of type_of class_name_of target_found types_of own_notes is_constant is_true_literal completes else_completes list_completes own_stmt_notes notes_of target_notes args_notes stmt_notes else_notes stmts_notes member_notes locals_in locals_in_else locals_in_row class_rows members_rows member_rows class_notes members_notes one_notes
case_22 = refl

-- `class A{A(int a){}}class B extends A{int g;B(){super(g);}}`: javac refuses it
case_23 : errors 47 ((syntax.class 0 ([]) (w 6 (codes "A")) None (syntax.more (syntax.constructor
    8 ([]) (w 8 (codes "A")) ((param 10 false (tree.int 10) (w 14 (codes "a"))) ∷ []) None
    statement.end) syntax.end)) ∷ (syntax.class 19 ([]) (w 25 (codes "B")) (Some (tree.named 35
    None (w 35 (codes "A")))) (syntax.more (syntax.field 37 ([]) (tree.int 37) (w 41 (codes "g"))
    None) (syntax.more (syntax.constructor 43 ([]) (w 43 (codes "B")) ([]) (Some (tree.more
    (tree.name 53 (w 53 (codes "g"))) tree.end)) statement.end) syntax.end))) ∷ []) ≡ breaks 47
    rule.NoMethod ∷ breaks 53 rule.StaticContext ∷ []
unfolding is_accessible lacks_object assignable as_specific is_named is_ctor methods_named ctors_in choose_at find_method find_ctor find_call find_field find_field_of find_member_type last_named find_type shown find_variable find_type_named find_type_of find_field_in find_method_named find_method_of find_ctor_of own_row nearest member number_of entries_of chain_of row_of find_left find_left_of type_of class_name_of target_found types_of own_notes is_constant is_true_literal completes else_completes list_completes own_stmt_notes notes_of target_notes args_notes stmt_notes else_notes stmts_notes member_notes locals_in locals_in_else locals_in_row class_rows members_rows member_rows class_notes members_notes one_notes
case_23 = refl

-- `class A{A(int a){}}class B extends A{int g;B(int g){super(g);}}`: javac takes it
case_24 : errors 52 ((syntax.class 0 ([]) (w 6 (codes "A")) None (syntax.more (syntax.constructor
    8 ([]) (w 8 (codes "A")) ((param 10 false (tree.int 10) (w 14 (codes "a"))) ∷ []) None
    statement.end) syntax.end)) ∷ (syntax.class 19 ([]) (w 25 (codes "B")) (Some (tree.named 35
    None (w 35 (codes "A")))) (syntax.more (syntax.field 37 ([]) (tree.int 37) (w 41 (codes "g"))
    None) (syntax.more (syntax.constructor 43 ([]) (w 43 (codes "B")) ((param 45 false (tree.int
    45) (w 49 (codes "g"))) ∷ []) (Some (tree.more (tree.name 58 (w 58 (codes "g"))) tree.end))
    statement.end) syntax.end))) ∷ []) ≡ []
unfolding is_accessible lacks_object assignable as_specific is_named is_ctor methods_named ctors_in choose_at find_method find_ctor find_call find_field find_field_of find_member_type last_named find_type shown find_variable find_type_named find_type_of find_field_in find_method_named find_method_of find_ctor_of own_row nearest member number_of entries_of chain_of row_of find_left find_left_of type_of class_name_of target_found types_of own_notes is_constant is_true_literal completes else_completes list_completes own_stmt_notes notes_of target_notes args_notes stmt_notes else_notes stmts_notes member_notes locals_in locals_in_else locals_in_row class_rows members_rows member_rows class_notes members_notes one_notes
case_24 = refl

-- `class A{int f;static class K{int m(){return f;}}}`: javac refuses it
case_25 : errors 0 ((syntax.class 0 ([]) (w 6 (codes "A")) None (syntax.more (syntax.field 8 ([])
    (tree.int 8) (w 12 (codes "f")) None) (syntax.more (syntax.inner 14 (syntax.class 14
    ((modifier 14 word.Static) ∷ []) (w 27 (codes "K")) None (syntax.more (syntax.method 29 ([])
    (Some (tree.int 29)) (w 33 (codes "m")) ([]) (statement.more (statement.return 37 (Some
    (tree.name 44 (w 44 (codes "f"))))) statement.end)) syntax.end))) syntax.end))) ∷ []) ≡ breaks
    44 rule.StaticContext ∷ breaks 44 rule.TypeMismatch ∷ []
unfolding is_accessible lacks_object assignable as_specific is_named is_ctor methods_named ctors_in choose_at find_method find_ctor find_call find_field find_field_of find_member_type last_named find_type shown find_variable find_type_named find_type_of find_field_in find_method_named find_method_of find_ctor_of own_row nearest member number_of entries_of chain_of row_of find_left find_left_of type_of class_name_of target_found types_of own_notes is_constant is_true_literal completes else_completes list_completes own_stmt_notes notes_of target_notes args_notes stmt_notes else_notes stmts_notes member_notes locals_in locals_in_else locals_in_row class_rows members_rows member_rows class_notes members_notes one_notes
case_25 = refl

-- `class A{static int f;static class K{int m(){return f;}}}`: javac takes it
case_26 : errors 0 ((syntax.class 0 ([]) (w 6 (codes "A")) None (syntax.more (syntax.field 8
    ((modifier 8 word.Static) ∷ []) (tree.int 15) (w 19 (codes "f")) None) (syntax.more
    (syntax.inner 21 (syntax.class 21 ((modifier 21 word.Static) ∷ []) (w 34 (codes "K")) None
    (syntax.more (syntax.method 36 ([]) (Some (tree.int 36)) (w 40 (codes "m")) ([])
    (statement.more (statement.return 44 (Some (tree.name 51 (w 51 (codes "f"))))) statement.end))
    syntax.end))) syntax.end))) ∷ []) ≡ []
unfolding is_accessible lacks_object assignable as_specific is_named is_ctor methods_named ctors_in choose_at find_method find_ctor find_call find_field find_field_of find_member_type last_named find_type shown find_variable find_type_named find_type_of find_field_in find_method_named find_method_of find_ctor_of own_row nearest member number_of entries_of chain_of row_of find_left find_left_of type_of class_name_of target_found types_of own_notes is_constant is_true_literal completes else_completes list_completes own_stmt_notes notes_of target_notes args_notes stmt_notes else_notes stmts_notes member_notes locals_in locals_in_else locals_in_row class_rows members_rows member_rows class_notes members_notes one_notes
case_26 = refl

-- `class A{static int f;int m(){return this.f;}}`: javac takes it
case_27 : errors 0 ((syntax.class 0 ([]) (w 6 (codes "A")) None (syntax.more (syntax.field 8
    ((modifier 8 word.Static) ∷ []) (tree.int 15) (w 19 (codes "f")) None) (syntax.more
    (syntax.method 21 ([]) (Some (tree.int 21)) (w 25 (codes "m")) ([]) (statement.more
    (statement.return 29 (Some (tree.field 36 (tree.this 36) (w 41 (codes "f"))))) statement.end))
    syntax.end))) ∷ []) ≡ breaks 41 rule.StaticThroughValue ∷ []
unfolding is_accessible lacks_object assignable as_specific is_named is_ctor methods_named ctors_in choose_at find_method find_ctor find_call find_field find_field_of find_member_type last_named find_type shown find_variable find_type_named find_type_of find_field_in find_method_named find_method_of find_ctor_of own_row nearest member number_of entries_of chain_of row_of find_left find_left_of type_of class_name_of target_found types_of own_notes is_constant is_true_literal completes else_completes list_completes own_stmt_notes notes_of target_notes args_notes stmt_notes else_notes stmts_notes member_notes locals_in locals_in_else locals_in_row class_rows members_rows member_rows class_notes members_notes one_notes
case_27 = refl

-- `class A{static int f;int m(){return A.f;}}`: javac takes it
case_28 : errors 0 ((syntax.class 0 ([]) (w 6 (codes "A")) None (syntax.more (syntax.field 8
    ((modifier 8 word.Static) ∷ []) (tree.int 15) (w 19 (codes "f")) None) (syntax.more
    (syntax.method 21 ([]) (Some (tree.int 21)) (w 25 (codes "m")) ([]) (statement.more
    (statement.return 29 (Some (tree.field 36 (tree.name 36 (w 36 (codes "A"))) (w 38 (codes
    "f"))))) statement.end)) syntax.end))) ∷ []) ≡ []
unfolding is_accessible lacks_object assignable as_specific is_named is_ctor methods_named ctors_in choose_at find_method find_ctor find_call find_field find_field_of find_member_type last_named find_type shown find_variable find_type_named find_type_of find_field_in find_method_named find_method_of find_ctor_of own_row nearest member number_of entries_of chain_of row_of find_left find_left_of type_of class_name_of target_found types_of own_notes is_constant is_true_literal completes else_completes list_completes own_stmt_notes notes_of target_notes args_notes stmt_notes else_notes stmts_notes member_notes locals_in locals_in_else locals_in_row class_rows members_rows member_rows class_notes members_notes one_notes
case_28 = refl

-- `class A{static void n(){}void m(A a){a.n();}}`: javac takes it
case_29 : errors 0 ((syntax.class 0 ([]) (w 6 (codes "A")) None (syntax.more (syntax.method 8
    ((modifier 8 word.Static) ∷ []) None (w 20 (codes "n")) ([]) statement.end) (syntax.more
    (syntax.method 25 ([]) None (w 30 (codes "m")) ((param 32 false (tree.named 32 None (w 32
    (codes "A"))) (w 34 (codes "a"))) ∷ []) (statement.more (statement.eval 37 (tree.call 37
    (tree.on (tree.name 37 (w 37 (codes "a")))) (w 39 (codes "n")) tree.end)) statement.end))
    syntax.end))) ∷ []) ≡ breaks 39 rule.StaticThroughValue ∷ []
unfolding is_accessible lacks_object assignable as_specific is_named is_ctor methods_named ctors_in choose_at find_method find_ctor find_call find_field find_field_of find_member_type last_named find_type shown find_variable find_type_named find_type_of find_field_in find_method_named find_method_of find_ctor_of own_row nearest member number_of entries_of chain_of row_of find_left find_left_of type_of class_name_of target_found types_of own_notes is_constant is_true_literal completes else_completes list_completes own_stmt_notes notes_of target_notes args_notes stmt_notes else_notes stmts_notes member_notes locals_in locals_in_else locals_in_row class_rows members_rows member_rows class_notes members_notes one_notes
case_29 = refl

-- `class A{static void n(){}void m(A a){A.n();}}`: javac takes it
case_30 : errors 0 ((syntax.class 0 ([]) (w 6 (codes "A")) None (syntax.more (syntax.method 8
    ((modifier 8 word.Static) ∷ []) None (w 20 (codes "n")) ([]) statement.end) (syntax.more
    (syntax.method 25 ([]) None (w 30 (codes "m")) ((param 32 false (tree.named 32 None (w 32
    (codes "A"))) (w 34 (codes "a"))) ∷ []) (statement.more (statement.eval 37 (tree.call 37
    (tree.on (tree.name 37 (w 37 (codes "A")))) (w 39 (codes "n")) tree.end)) statement.end))
    syntax.end))) ∷ []) ≡ []
unfolding is_accessible lacks_object assignable as_specific is_named is_ctor methods_named ctors_in choose_at find_method find_ctor find_call find_field find_field_of find_member_type last_named find_type shown find_variable find_type_named find_type_of find_field_in find_method_named find_method_of find_ctor_of own_row nearest member number_of entries_of chain_of row_of find_left find_left_of type_of class_name_of target_found types_of own_notes is_constant is_true_literal completes else_completes list_completes own_stmt_notes notes_of target_notes args_notes stmt_notes else_notes stmts_notes member_notes locals_in locals_in_else locals_in_row class_rows members_rows member_rows class_notes members_notes one_notes
case_30 = refl

-- `class A{int f;int m(){return A.f;}}`: javac refuses it
case_31 : errors 0 ((syntax.class 0 ([]) (w 6 (codes "A")) None (syntax.more (syntax.field 8 ([])
    (tree.int 8) (w 12 (codes "f")) None) (syntax.more (syntax.method 14 ([]) (Some (tree.int 14))
    (w 18 (codes "m")) ([]) (statement.more (statement.return 22 (Some (tree.field 29 (tree.name
    29 (w 29 (codes "A"))) (w 31 (codes "f"))))) statement.end)) syntax.end))) ∷ []) ≡ breaks 31
    rule.InstanceThroughType ∷ []
unfolding is_accessible lacks_object assignable as_specific is_named is_ctor methods_named ctors_in choose_at find_method find_ctor find_call find_field find_field_of find_member_type last_named find_type shown find_variable find_type_named find_type_of find_field_in find_method_named find_method_of find_ctor_of own_row nearest member number_of entries_of chain_of row_of find_left find_left_of type_of class_name_of target_found types_of own_notes is_constant is_true_literal completes else_completes list_completes own_stmt_notes notes_of target_notes args_notes stmt_notes else_notes stmts_notes member_notes locals_in locals_in_else locals_in_row class_rows members_rows member_rows class_notes members_notes one_notes
case_31 = refl

-- `class A{int f;int m(){return this.f;}}`: javac takes it
case_32 : errors 0 ((syntax.class 0 ([]) (w 6 (codes "A")) None (syntax.more (syntax.field 8 ([])
    (tree.int 8) (w 12 (codes "f")) None) (syntax.more (syntax.method 14 ([]) (Some (tree.int 14))
    (w 18 (codes "m")) ([]) (statement.more (statement.return 22 (Some (tree.field 29 (tree.this
    29) (w 34 (codes "f"))))) statement.end)) syntax.end))) ∷ []) ≡ []
unfolding is_accessible lacks_object assignable as_specific is_named is_ctor methods_named ctors_in choose_at find_method find_ctor find_call find_field find_field_of find_member_type last_named find_type shown find_variable find_type_named find_type_of find_field_in find_method_named find_method_of find_ctor_of own_row nearest member number_of entries_of chain_of row_of find_left find_left_of type_of class_name_of target_found types_of own_notes is_constant is_true_literal completes else_completes list_completes own_stmt_notes notes_of target_notes args_notes stmt_notes else_notes stmts_notes member_notes locals_in locals_in_else locals_in_row class_rows members_rows member_rows class_notes members_notes one_notes
case_32 = refl

-- `class A{void n(){}static void m(){A.n();}}`: javac refuses it
case_33 : errors 0 ((syntax.class 0 ([]) (w 6 (codes "A")) None (syntax.more (syntax.method 8 ([])
    None (w 13 (codes "n")) ([]) statement.end) (syntax.more (syntax.method 18 ((modifier 18
    word.Static) ∷ []) None (w 30 (codes "m")) ([]) (statement.more (statement.eval 34 (tree.call
    34 (tree.on (tree.name 34 (w 34 (codes "A")))) (w 36 (codes "n")) tree.end)) statement.end))
    syntax.end))) ∷ []) ≡ breaks 36 rule.InstanceThroughType ∷ []
unfolding is_accessible lacks_object assignable as_specific is_named is_ctor methods_named ctors_in choose_at find_method find_ctor find_call find_field find_field_of find_member_type last_named find_type shown find_variable find_type_named find_type_of find_field_in find_method_named find_method_of find_ctor_of own_row nearest member number_of entries_of chain_of row_of find_left find_left_of type_of class_name_of target_found types_of own_notes is_constant is_true_literal completes else_completes list_completes own_stmt_notes notes_of target_notes args_notes stmt_notes else_notes stmts_notes member_notes locals_in locals_in_else locals_in_row class_rows members_rows member_rows class_notes members_notes one_notes
case_33 = refl

-- `class A{static void n(){}static void m(){A.n();}}`: javac takes it
case_34 : errors 0 ((syntax.class 0 ([]) (w 6 (codes "A")) None (syntax.more (syntax.method 8
    ((modifier 8 word.Static) ∷ []) None (w 20 (codes "n")) ([]) statement.end) (syntax.more
    (syntax.method 25 ((modifier 25 word.Static) ∷ []) None (w 37 (codes "m")) ([])
    (statement.more (statement.eval 41 (tree.call 41 (tree.on (tree.name 41 (w 41 (codes "A"))))
    (w 43 (codes "n")) tree.end)) statement.end)) syntax.end))) ∷ []) ≡ []
unfolding is_accessible lacks_object assignable as_specific is_named is_ctor methods_named ctors_in choose_at find_method find_ctor find_call find_field find_field_of find_member_type last_named find_type shown find_variable find_type_named find_type_of find_field_in find_method_named find_method_of find_ctor_of own_row nearest member number_of entries_of chain_of row_of find_left find_left_of type_of class_name_of target_found types_of own_notes is_constant is_true_literal completes else_completes list_completes own_stmt_notes notes_of target_notes args_notes stmt_notes else_notes stmts_notes member_notes locals_in locals_in_else locals_in_row class_rows members_rows member_rows class_notes members_notes one_notes
case_34 = refl
