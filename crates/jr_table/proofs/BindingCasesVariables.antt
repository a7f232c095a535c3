-- Errors of small programs, by place and rule: of variables and of values of calls.
use Rattle.std.proofs.Common.{◌≡◌, [], ◌∷◌, Some, None, true, false, refl}
use Rattle.std.specs.Prelude.{codes}
use Rattle.jr_ast.specs.declared.operators.ModWord.TheVariants as word
use Rattle.jr_ast.specs.declared.operators.BinOp.TheVariants as op
use Rattle.jr_ast.specs.Tree as tree
use Rattle.jr_ast.specs.StatementTree as statement
use Rattle.jr_ast.specs.MemberTree as syntax
use Rattle.jr_table.specs.Entries.{number_of, entries_of}
use Rattle.jr_table.specs.Chains.{chain_of}
use Rattle.jr_table.specs.Looking.{own_row, nearest, member}
use Rattle.jr_table.specs.Access.{is_accessible, lacks_object}
use Rattle.jr_table.specs.Calls.{assignable, as_specific, is_named, is_ctor, methods_named, ctors_in, choose_at, find_method, find_ctor, find_call}
use Rattle.jr_table.specs.Fields.{find_field, find_field_of, find_member_type}
use Rattle.jr_table.specs.TypeNames.{find_type}
use Rattle.jr_table.specs.Scope.{last_named}
use Rattle.jr_table.specs.Lookup.{shown, find_variable, find_type_named, find_type_of, find_field_in, find_method_named, find_method_of, find_ctor_of}
use Rattle.jr_table.specs.Context.{locals_in, locals_in_else, locals_in_row}
use Rattle.jr_table.specs.Meanings.{row_of, find_left, find_left_of, type_of, class_name_of, target_found, types_of}
use Rattle.jr_table.specs.Notes.{breaks, own_notes, is_constant, is_true_literal, completes, else_completes, list_completes, own_stmt_notes}
use Rattle.jr_table.specs.Walks.{notes_of, target_notes, args_notes, stmt_notes, else_notes, stmts_notes, member_notes}
use Rattle.jr_table.specs.declared.rules.Rule.TheVariants as rule
use Rattle.jr_table.proofs.BindingSamples.{w, modifier, param, class_rows, members_rows, member_rows, class_notes, members_notes, one_notes, errors}

-- `class A{void m(final int a){a=2;}}`: javac refuses it
case_67 : errors 0 ((syntax.class 0 ([]) (w 6 (codes "A")) None (syntax.more (syntax.method 8 ([])
    None (w 13 (codes "m")) ((param 15 true (tree.int 21) (w 25 (codes "a"))) ∷ [])
    (statement.more (statement.eval 28 (tree.assign 28 (tree.name 28 (w 28 (codes "a")))
    (tree.number 30 2))) statement.end)) syntax.end)) ∷ []) ≡ breaks 28 rule.FinalAssigned ∷ []
unfolding is_accessible lacks_object assignable as_specific is_named is_ctor methods_named ctors_in choose_at find_method find_ctor find_call find_field find_field_of find_member_type last_named find_type shown find_variable find_type_named find_type_of find_field_in find_method_named find_method_of find_ctor_of own_row nearest member number_of entries_of chain_of row_of find_left find_left_of type_of class_name_of target_found types_of own_notes is_constant is_true_literal completes else_completes list_completes own_stmt_notes notes_of target_notes args_notes stmt_notes else_notes stmts_notes member_notes locals_in locals_in_else locals_in_row class_rows members_rows member_rows class_notes members_notes one_notes
case_67 = refl

-- `class A{void m(int a){a=2;}}`: javac takes it
case_68 : errors 0 ((syntax.class 0 ([]) (w 6 (codes "A")) None (syntax.more (syntax.method 8 ([])
    None (w 13 (codes "m")) ((param 15 false (tree.int 15) (w 19 (codes "a"))) ∷ [])
    (statement.more (statement.eval 22 (tree.assign 22 (tree.name 22 (w 22 (codes "a")))
    (tree.number 24 2))) statement.end)) syntax.end)) ∷ []) ≡ []
unfolding is_accessible lacks_object assignable as_specific is_named is_ctor methods_named ctors_in choose_at find_method find_ctor find_call find_field find_field_of find_member_type last_named find_type shown find_variable find_type_named find_type_of find_field_in find_method_named find_method_of find_ctor_of own_row nearest member number_of entries_of chain_of row_of find_left find_left_of type_of class_name_of target_found types_of own_notes is_constant is_true_literal completes else_completes list_completes own_stmt_notes notes_of target_notes args_notes stmt_notes else_notes stmts_notes member_notes locals_in locals_in_else locals_in_row class_rows members_rows member_rows class_notes members_notes one_notes
case_68 = refl

-- `class A{final int f;A(){f=1;}void m(){f=2;}}`: javac refuses it
case_69 : errors 0 ((syntax.class 0 ([]) (w 6 (codes "A")) None (syntax.more (syntax.field 8
    ((modifier 8 word.Final) ∷ []) (tree.int 14) (w 18 (codes "f")) None) (syntax.more
    (syntax.constructor 20 ([]) (w 20 (codes "A")) ([]) None (statement.more (statement.eval 24
    (tree.assign 24 (tree.name 24 (w 24 (codes "f"))) (tree.number 26 1))) statement.end))
    (syntax.more (syntax.method 29 ([]) None (w 34 (codes "m")) ([]) (statement.more
    (statement.eval 38 (tree.assign 38 (tree.name 38 (w 38 (codes "f"))) (tree.number 40 2)))
    statement.end)) syntax.end)))) ∷ []) ≡ breaks 38 rule.FinalAssigned ∷ []
unfolding is_accessible lacks_object assignable as_specific is_named is_ctor methods_named ctors_in choose_at find_method find_ctor find_call find_field find_field_of find_member_type last_named find_type shown find_variable find_type_named find_type_of find_field_in find_method_named find_method_of find_ctor_of own_row nearest member number_of entries_of chain_of row_of find_left find_left_of type_of class_name_of target_found types_of own_notes is_constant is_true_literal completes else_completes list_completes own_stmt_notes notes_of target_notes args_notes stmt_notes else_notes stmts_notes member_notes locals_in locals_in_else locals_in_row class_rows members_rows member_rows class_notes members_notes one_notes
case_69 = refl

-- `class A{int f;A(){f=1;}void m(){f=2;}}`: javac takes it
case_70 : errors 0 ((syntax.class 0 ([]) (w 6 (codes "A")) None (syntax.more (syntax.field 8 ([])
    (tree.int 8) (w 12 (codes "f")) None) (syntax.more (syntax.constructor 14 ([]) (w 14 (codes
    "A")) ([]) None (statement.more (statement.eval 18 (tree.assign 18 (tree.name 18 (w 18 (codes
    "f"))) (tree.number 20 1))) statement.end)) (syntax.more (syntax.method 23 ([]) None (w 28
    (codes "m")) ([]) (statement.more (statement.eval 32 (tree.assign 32 (tree.name 32 (w 32
    (codes "f"))) (tree.number 34 2))) statement.end)) syntax.end)))) ∷ []) ≡ []
unfolding is_accessible lacks_object assignable as_specific is_named is_ctor methods_named ctors_in choose_at find_method find_ctor find_call find_field find_field_of find_member_type last_named find_type shown find_variable find_type_named find_type_of find_field_in find_method_named find_method_of find_ctor_of own_row nearest member number_of entries_of chain_of row_of find_left find_left_of type_of class_name_of target_found types_of own_notes is_constant is_true_literal completes else_completes list_completes own_stmt_notes notes_of target_notes args_notes stmt_notes else_notes stmts_notes member_notes locals_in locals_in_else locals_in_row class_rows members_rows member_rows class_notes members_notes one_notes
case_70 = refl

-- `class A{final int f;A(A a){f=1;a.f=2;}}`: javac refuses it
case_71 : errors 0 ((syntax.class 0 ([]) (w 6 (codes "A")) None (syntax.more (syntax.field 8
    ((modifier 8 word.Final) ∷ []) (tree.int 14) (w 18 (codes "f")) None) (syntax.more
    (syntax.constructor 20 ([]) (w 20 (codes "A")) ((param 22 false (tree.named 22 None (w 22
    (codes "A"))) (w 24 (codes "a"))) ∷ []) None (statement.more (statement.eval 27 (tree.assign
    27 (tree.name 27 (w 27 (codes "f"))) (tree.number 29 1))) (statement.more (statement.eval 31
    (tree.assign 31 (tree.field 31 (tree.name 31 (w 31 (codes "a"))) (w 33 (codes "f")))
    (tree.number 35 2))) statement.end))) syntax.end))) ∷ []) ≡ breaks 33 rule.FinalAssigned ∷ []
unfolding is_accessible lacks_object assignable as_specific is_named is_ctor methods_named ctors_in choose_at find_method find_ctor find_call find_field find_field_of find_member_type last_named find_type shown find_variable find_type_named find_type_of find_field_in find_method_named find_method_of find_ctor_of own_row nearest member number_of entries_of chain_of row_of find_left find_left_of type_of class_name_of target_found types_of own_notes is_constant is_true_literal completes else_completes list_completes own_stmt_notes notes_of target_notes args_notes stmt_notes else_notes stmts_notes member_notes locals_in locals_in_else locals_in_row class_rows members_rows member_rows class_notes members_notes one_notes
case_71 = refl

-- `class A{final int f;A(A a){this.f=1;}}`: javac takes it
case_72 : errors 0 ((syntax.class 0 ([]) (w 6 (codes "A")) None (syntax.more (syntax.field 8
    ((modifier 8 word.Final) ∷ []) (tree.int 14) (w 18 (codes "f")) None) (syntax.more
    (syntax.constructor 20 ([]) (w 20 (codes "A")) ((param 22 false (tree.named 22 None (w 22
    (codes "A"))) (w 24 (codes "a"))) ∷ []) None (statement.more (statement.eval 27 (tree.assign
    27 (tree.field 27 (tree.this 27) (w 32 (codes "f"))) (tree.number 34 1))) statement.end))
    syntax.end))) ∷ []) ≡ []
unfolding is_accessible lacks_object assignable as_specific is_named is_ctor methods_named ctors_in choose_at find_method find_ctor find_call find_field find_field_of find_member_type last_named find_type shown find_variable find_type_named find_type_of find_field_in find_method_named find_method_of find_ctor_of own_row nearest member number_of entries_of chain_of row_of find_left find_left_of type_of class_name_of target_found types_of own_notes is_constant is_true_literal completes else_completes list_completes own_stmt_notes notes_of target_notes args_notes stmt_notes else_notes stmts_notes member_notes locals_in locals_in_else locals_in_row class_rows members_rows member_rows class_notes members_notes one_notes
case_72 = refl

-- `class A{final int f=1;A(){f=2;}}`: javac refuses it
case_73 : errors 0 ((syntax.class 0 ([]) (w 6 (codes "A")) None (syntax.more (syntax.field 8
    ((modifier 8 word.Final) ∷ []) (tree.int 14) (w 18 (codes "f")) (Some (tree.number 20 1)))
    (syntax.more (syntax.constructor 22 ([]) (w 22 (codes "A")) ([]) None (statement.more
    (statement.eval 26 (tree.assign 26 (tree.name 26 (w 26 (codes "f"))) (tree.number 28 2)))
    statement.end)) syntax.end))) ∷ []) ≡ breaks 26 rule.FinalAssigned ∷ []
unfolding is_accessible lacks_object assignable as_specific is_named is_ctor methods_named ctors_in choose_at find_method find_ctor find_call find_field find_field_of find_member_type last_named find_type shown find_variable find_type_named find_type_of find_field_in find_method_named find_method_of find_ctor_of own_row nearest member number_of entries_of chain_of row_of find_left find_left_of type_of class_name_of target_found types_of own_notes is_constant is_true_literal completes else_completes list_completes own_stmt_notes notes_of target_notes args_notes stmt_notes else_notes stmts_notes member_notes locals_in locals_in_else locals_in_row class_rows members_rows member_rows class_notes members_notes one_notes
case_73 = refl

-- `class A{final int f;A(){f=2;}}`: javac takes it
case_74 : errors 0 ((syntax.class 0 ([]) (w 6 (codes "A")) None (syntax.more (syntax.field 8
    ((modifier 8 word.Final) ∷ []) (tree.int 14) (w 18 (codes "f")) None) (syntax.more
    (syntax.constructor 20 ([]) (w 20 (codes "A")) ([]) None (statement.more (statement.eval 24
    (tree.assign 24 (tree.name 24 (w 24 (codes "f"))) (tree.number 26 2))) statement.end))
    syntax.end))) ∷ []) ≡ []
unfolding is_accessible lacks_object assignable as_specific is_named is_ctor methods_named ctors_in choose_at find_method find_ctor find_call find_field find_field_of find_member_type last_named find_type shown find_variable find_type_named find_type_of find_field_in find_method_named find_method_of find_ctor_of own_row nearest member number_of entries_of chain_of row_of find_left find_left_of type_of class_name_of target_found types_of own_notes is_constant is_true_literal completes else_completes list_completes own_stmt_notes notes_of target_notes args_notes stmt_notes else_notes stmts_notes member_notes locals_in locals_in_else locals_in_row class_rows members_rows member_rows class_notes members_notes one_notes
case_74 = refl

-- `class A{static final int f=1;A(){f=2;}}`: javac refuses it
case_75 : errors 0 ((syntax.class 0 ([]) (w 6 (codes "A")) None (syntax.more (syntax.field 8
    ((modifier 8 word.Static) ∷ (modifier 15 word.Final) ∷ []) (tree.int 21) (w 25 (codes "f"))
    (Some (tree.number 27 1))) (syntax.more (syntax.constructor 29 ([]) (w 29 (codes "A")) ([])
    None (statement.more (statement.eval 33 (tree.assign 33 (tree.name 33 (w 33 (codes "f")))
    (tree.number 35 2))) statement.end)) syntax.end))) ∷ []) ≡ breaks 33 rule.FinalAssigned ∷ []
unfolding is_accessible lacks_object assignable as_specific is_named is_ctor methods_named ctors_in choose_at find_method find_ctor find_call find_field find_field_of find_member_type last_named find_type shown find_variable find_type_named find_type_of find_field_in find_method_named find_method_of find_ctor_of own_row nearest member number_of entries_of chain_of row_of find_left find_left_of type_of class_name_of target_found types_of own_notes is_constant is_true_literal completes else_completes list_completes own_stmt_notes notes_of target_notes args_notes stmt_notes else_notes stmts_notes member_notes locals_in locals_in_else locals_in_row class_rows members_rows member_rows class_notes members_notes one_notes
case_75 = refl

-- `class A{static int f=1;A(){f=2;}}`: javac takes it
case_76 : errors 0 ((syntax.class 0 ([]) (w 6 (codes "A")) None (syntax.more (syntax.field 8
    ((modifier 8 word.Static) ∷ []) (tree.int 15) (w 19 (codes "f")) (Some (tree.number 21 1)))
    (syntax.more (syntax.constructor 23 ([]) (w 23 (codes "A")) ([]) None (statement.more
    (statement.eval 27 (tree.assign 27 (tree.name 27 (w 27 (codes "f"))) (tree.number 29 2)))
    statement.end)) syntax.end))) ∷ []) ≡ []
unfolding is_accessible lacks_object assignable as_specific is_named is_ctor methods_named ctors_in choose_at find_method find_ctor find_call find_field find_field_of find_member_type last_named find_type shown find_variable find_type_named find_type_of find_field_in find_method_named find_method_of find_ctor_of own_row nearest member number_of entries_of chain_of row_of find_left find_left_of type_of class_name_of target_found types_of own_notes is_constant is_true_literal completes else_completes list_completes own_stmt_notes notes_of target_notes args_notes stmt_notes else_notes stmts_notes member_notes locals_in locals_in_else locals_in_row class_rows members_rows member_rows class_notes members_notes one_notes
case_76 = refl

-- `class B{final int f;B(){f=1;}}class A extends B{A(){f=2;}}`: javac refuses it
case_77 : errors 0 ((syntax.class 0 ([]) (w 6 (codes "B")) None (syntax.more (syntax.field 8
    ((modifier 8 word.Final) ∷ []) (tree.int 14) (w 18 (codes "f")) None) (syntax.more
    (syntax.constructor 20 ([]) (w 20 (codes "B")) ([]) None (statement.more (statement.eval 24
    (tree.assign 24 (tree.name 24 (w 24 (codes "f"))) (tree.number 26 1))) statement.end))
    syntax.end))) ∷ (syntax.class 30 ([]) (w 36 (codes "A")) (Some (tree.named 46 None (w 46
    (codes "B")))) (syntax.more (syntax.constructor 48 ([]) (w 48 (codes "A")) ([]) None
    (statement.more (statement.eval 52 (tree.assign 52 (tree.name 52 (w 52 (codes "f")))
    (tree.number 54 2))) statement.end)) syntax.end)) ∷ []) ≡ breaks 52 rule.FinalAssigned ∷ []
unfolding is_accessible lacks_object assignable as_specific is_named is_ctor methods_named ctors_in choose_at find_method find_ctor find_call find_field find_field_of find_member_type last_named find_type shown find_variable find_type_named find_type_of find_field_in find_method_named find_method_of find_ctor_of own_row nearest member number_of entries_of chain_of row_of find_left find_left_of type_of class_name_of target_found types_of own_notes is_constant is_true_literal completes else_completes list_completes own_stmt_notes notes_of target_notes args_notes stmt_notes else_notes stmts_notes member_notes locals_in locals_in_else locals_in_row class_rows members_rows member_rows class_notes members_notes one_notes
case_77 = refl

-- `class B{int f;B(){f=1;}}class A extends B{A(){f=2;}}`: javac takes it
case_78 : errors 0 ((syntax.class 0 ([]) (w 6 (codes "B")) None (syntax.more (syntax.field 8 ([])
    (tree.int 8) (w 12 (codes "f")) None) (syntax.more (syntax.constructor 14 ([]) (w 14 (codes
    "B")) ([]) None (statement.more (statement.eval 18 (tree.assign 18 (tree.name 18 (w 18 (codes
    "f"))) (tree.number 20 1))) statement.end)) syntax.end))) ∷ (syntax.class 24 ([]) (w 30 (codes
    "A")) (Some (tree.named 40 None (w 40 (codes "B")))) (syntax.more (syntax.constructor 42 ([])
    (w 42 (codes "A")) ([]) None (statement.more (statement.eval 46 (tree.assign 46 (tree.name 46
    (w 46 (codes "f"))) (tree.number 48 2))) statement.end)) syntax.end)) ∷ []) ≡ []
unfolding is_accessible lacks_object assignable as_specific is_named is_ctor methods_named ctors_in choose_at find_method find_ctor find_call find_field find_field_of find_member_type last_named find_type shown find_variable find_type_named find_type_of find_field_in find_method_named find_method_of find_ctor_of own_row nearest member number_of entries_of chain_of row_of find_left find_left_of type_of class_name_of target_found types_of own_notes is_constant is_true_literal completes else_completes list_completes own_stmt_notes notes_of target_notes args_notes stmt_notes else_notes stmts_notes member_notes locals_in locals_in_else locals_in_row class_rows members_rows member_rows class_notes members_notes one_notes
case_78 = refl

-- `class A{final int f;A(){(this).f=1;}}`: javac takes it
case_79 : errors 0 ((syntax.class 0 ([]) (w 6 (codes "A")) None (syntax.more (syntax.field 8
    ((modifier 8 word.Final) ∷ []) (tree.int 14) (w 18 (codes "f")) None) (syntax.more
    (syntax.constructor 20 ([]) (w 20 (codes "A")) ([]) None (statement.more (statement.eval 24
    (tree.assign 24 (tree.field 24 (tree.paren 24 (tree.this 25)) (w 31 (codes "f"))) (tree.number
    33 1))) statement.end)) syntax.end))) ∷ []) ≡ breaks 31 rule.FinalAssigned ∷ []
unfolding is_accessible lacks_object assignable as_specific is_named is_ctor methods_named ctors_in choose_at find_method find_ctor find_call find_field find_field_of find_member_type last_named find_type shown find_variable find_type_named find_type_of find_field_in find_method_named find_method_of find_ctor_of own_row nearest member number_of entries_of chain_of row_of find_left find_left_of type_of class_name_of target_found types_of own_notes is_constant is_true_literal completes else_completes list_completes own_stmt_notes notes_of target_notes args_notes stmt_notes else_notes stmts_notes member_notes locals_in locals_in_else locals_in_row class_rows members_rows member_rows class_notes members_notes one_notes
case_79 = refl

-- `class A{void m(int a){int a=1;}}`: javac refuses it
case_80 : errors 0 ((syntax.class 0 ([]) (w 6 (codes "A")) None (syntax.more (syntax.method 8 ([])
    None (w 13 (codes "m")) ((param 15 false (tree.int 15) (w 19 (codes "a"))) ∷ [])
    (statement.more (statement.local 22 false (tree.int 22) (w 26 (codes "a")) (tree.number 28 1))
    statement.end)) syntax.end)) ∷ []) ≡ breaks 26 rule.Redeclared ∷ []
unfolding is_accessible lacks_object assignable as_specific is_named is_ctor methods_named ctors_in choose_at find_method find_ctor find_call find_field find_field_of find_member_type last_named find_type shown find_variable find_type_named find_type_of find_field_in find_method_named find_method_of find_ctor_of own_row nearest member number_of entries_of chain_of row_of find_left find_left_of type_of class_name_of target_found types_of own_notes is_constant is_true_literal completes else_completes list_completes own_stmt_notes notes_of target_notes args_notes stmt_notes else_notes stmts_notes member_notes locals_in locals_in_else locals_in_row class_rows members_rows member_rows class_notes members_notes one_notes
case_80 = refl

-- `class A{void m(){{int a=1;}int a=2;}}`: javac takes it
case_81 : errors 0 ((syntax.class 0 ([]) (w 6 (codes "A")) None (syntax.more (syntax.method 8 ([])
    None (w 13 (codes "m")) ([]) (statement.more (statement.block 17 (statement.more
    (statement.local 18 false (tree.int 18) (w 22 (codes "a")) (tree.number 24 1)) statement.end))
    (statement.more (statement.local 27 false (tree.int 27) (w 31 (codes "a")) (tree.number 33 2))
    statement.end))) syntax.end)) ∷ []) ≡ []
unfolding is_accessible lacks_object assignable as_specific is_named is_ctor methods_named ctors_in choose_at find_method find_ctor find_call find_field find_field_of find_member_type last_named find_type shown find_variable find_type_named find_type_of find_field_in find_method_named find_method_of find_ctor_of own_row nearest member number_of entries_of chain_of row_of find_left find_left_of type_of class_name_of target_found types_of own_notes is_constant is_true_literal completes else_completes list_completes own_stmt_notes notes_of target_notes args_notes stmt_notes else_notes stmts_notes member_notes locals_in locals_in_else locals_in_row class_rows members_rows member_rows class_notes members_notes one_notes
case_81 = refl

-- `class A{void m(){int a=1;{int a=2;}}}`: javac refuses it
case_82 : errors 0 ((syntax.class 0 ([]) (w 6 (codes "A")) None (syntax.more (syntax.method 8 ([])
    None (w 13 (codes "m")) ([]) (statement.more (statement.local 17 false (tree.int 17) (w 21
    (codes "a")) (tree.number 23 1)) (statement.more (statement.block 25 (statement.more
    (statement.local 26 false (tree.int 26) (w 30 (codes "a")) (tree.number 32 2)) statement.end))
    statement.end))) syntax.end)) ∷ []) ≡ breaks 30 rule.Redeclared ∷ []
unfolding is_accessible lacks_object assignable as_specific is_named is_ctor methods_named ctors_in choose_at find_method find_ctor find_call find_field find_field_of find_member_type last_named find_type shown find_variable find_type_named find_type_of find_field_in find_method_named find_method_of find_ctor_of own_row nearest member number_of entries_of chain_of row_of find_left find_left_of type_of class_name_of target_found types_of own_notes is_constant is_true_literal completes else_completes list_completes own_stmt_notes notes_of target_notes args_notes stmt_notes else_notes stmts_notes member_notes locals_in locals_in_else locals_in_row class_rows members_rows member_rows class_notes members_notes one_notes
case_82 = refl

-- `class A{int a;void m(){int a=1;{int b=2;}}}`: javac takes it
case_83 : errors 0 ((syntax.class 0 ([]) (w 6 (codes "A")) None (syntax.more (syntax.field 8 ([])
    (tree.int 8) (w 12 (codes "a")) None) (syntax.more (syntax.method 14 ([]) None (w 19 (codes
    "m")) ([]) (statement.more (statement.local 23 false (tree.int 23) (w 27 (codes "a"))
    (tree.number 29 1)) (statement.more (statement.block 31 (statement.more (statement.local 32
    false (tree.int 32) (w 36 (codes "b")) (tree.number 38 2)) statement.end)) statement.end)))
    syntax.end))) ∷ []) ≡ []
unfolding is_accessible lacks_object assignable as_specific is_named is_ctor methods_named ctors_in choose_at find_method find_ctor find_call find_field find_field_of find_member_type last_named find_type shown find_variable find_type_named find_type_of find_field_in find_method_named find_method_of find_ctor_of own_row nearest member number_of entries_of chain_of row_of find_left find_left_of type_of class_name_of target_found types_of own_notes is_constant is_true_literal completes else_completes list_completes own_stmt_notes notes_of target_notes args_notes stmt_notes else_notes stmts_notes member_notes locals_in locals_in_else locals_in_row class_rows members_rows member_rows class_notes members_notes one_notes
case_83 = refl

-- `class A{void m(){int a=a;}}`: javac refuses it
case_84 : errors 0 ((syntax.class 0 ([]) (w 6 (codes "A")) None (syntax.more (syntax.method 8 ([])
    None (w 13 (codes "m")) ([]) (statement.more (statement.local 17 false (tree.int 17) (w 21
    (codes "a")) (tree.name 23 (w 23 (codes "a")))) statement.end)) syntax.end)) ∷ []) ≡ breaks 23
    rule.Forward ∷ []
unfolding is_accessible lacks_object assignable as_specific is_named is_ctor methods_named ctors_in choose_at find_method find_ctor find_call find_field find_field_of find_member_type last_named find_type shown find_variable find_type_named find_type_of find_field_in find_method_named find_method_of find_ctor_of own_row nearest member number_of entries_of chain_of row_of find_left find_left_of type_of class_name_of target_found types_of own_notes is_constant is_true_literal completes else_completes list_completes own_stmt_notes notes_of target_notes args_notes stmt_notes else_notes stmts_notes member_notes locals_in locals_in_else locals_in_row class_rows members_rows member_rows class_notes members_notes one_notes
case_84 = refl

-- `class A{void m(){int b=1;int a=b;}}`: javac takes it
case_85 : errors 0 ((syntax.class 0 ([]) (w 6 (codes "A")) None (syntax.more (syntax.method 8 ([])
    None (w 13 (codes "m")) ([]) (statement.more (statement.local 17 false (tree.int 17) (w 21
    (codes "b")) (tree.number 23 1)) (statement.more (statement.local 25 false (tree.int 25) (w 29
    (codes "a")) (tree.name 31 (w 31 (codes "b")))) statement.end))) syntax.end)) ∷ []) ≡ []
unfolding is_accessible lacks_object assignable as_specific is_named is_ctor methods_named ctors_in choose_at find_method find_ctor find_call find_field find_field_of find_member_type last_named find_type shown find_variable find_type_named find_type_of find_field_in find_method_named find_method_of find_ctor_of own_row nearest member number_of entries_of chain_of row_of find_left find_left_of type_of class_name_of target_found types_of own_notes is_constant is_true_literal completes else_completes list_completes own_stmt_notes notes_of target_notes args_notes stmt_notes else_notes stmts_notes member_notes locals_in locals_in_else locals_in_row class_rows members_rows member_rows class_notes members_notes one_notes
case_85 = refl

-- `class A{int f=g;int g;}`: javac refuses it
case_86 : errors 0 ((syntax.class 0 ([]) (w 6 (codes "A")) None (syntax.more (syntax.field 8 ([])
    (tree.int 8) (w 12 (codes "f")) (Some (tree.name 14 (w 14 (codes "g"))))) (syntax.more
    (syntax.field 16 ([]) (tree.int 16) (w 20 (codes "g")) None) syntax.end))) ∷ []) ≡ breaks 14
    rule.Forward ∷ []
unfolding is_accessible lacks_object assignable as_specific is_named is_ctor methods_named ctors_in choose_at find_method find_ctor find_call find_field find_field_of find_member_type last_named find_type shown find_variable find_type_named find_type_of find_field_in find_method_named find_method_of find_ctor_of own_row nearest member number_of entries_of chain_of row_of find_left find_left_of type_of class_name_of target_found types_of own_notes is_constant is_true_literal completes else_completes list_completes own_stmt_notes notes_of target_notes args_notes stmt_notes else_notes stmts_notes member_notes locals_in locals_in_else locals_in_row class_rows members_rows member_rows class_notes members_notes one_notes
case_86 = refl

-- `class A{int g;int f=g;}`: javac takes it
case_87 : errors 0 ((syntax.class 0 ([]) (w 6 (codes "A")) None (syntax.more (syntax.field 8 ([])
    (tree.int 8) (w 12 (codes "g")) None) (syntax.more (syntax.field 14 ([]) (tree.int 14) (w 18
    (codes "f")) (Some (tree.name 20 (w 20 (codes "g"))))) syntax.end))) ∷ []) ≡ []
unfolding is_accessible lacks_object assignable as_specific is_named is_ctor methods_named ctors_in choose_at find_method find_ctor find_call find_field find_field_of find_member_type last_named find_type shown find_variable find_type_named find_type_of find_field_in find_method_named find_method_of find_ctor_of own_row nearest member number_of entries_of chain_of row_of find_left find_left_of type_of class_name_of target_found types_of own_notes is_constant is_true_literal completes else_completes list_completes own_stmt_notes notes_of target_notes args_notes stmt_notes else_notes stmts_notes member_notes locals_in locals_in_else locals_in_row class_rows members_rows member_rows class_notes members_notes one_notes
case_87 = refl

-- `class A{int f=f;}`: javac refuses it
case_88 : errors 0 ((syntax.class 0 ([]) (w 6 (codes "A")) None (syntax.more (syntax.field 8 ([])
    (tree.int 8) (w 12 (codes "f")) (Some (tree.name 14 (w 14 (codes "f"))))) syntax.end)) ∷ []) ≡
    breaks 14 rule.Forward ∷ []
unfolding is_accessible lacks_object assignable as_specific is_named is_ctor methods_named ctors_in choose_at find_method find_ctor find_call find_field find_field_of find_member_type last_named find_type shown find_variable find_type_named find_type_of find_field_in find_method_named find_method_of find_ctor_of own_row nearest member number_of entries_of chain_of row_of find_left find_left_of type_of class_name_of target_found types_of own_notes is_constant is_true_literal completes else_completes list_completes own_stmt_notes notes_of target_notes args_notes stmt_notes else_notes stmts_notes member_notes locals_in locals_in_else locals_in_row class_rows members_rows member_rows class_notes members_notes one_notes
case_88 = refl

-- `class A{int f=this.f;}`: javac takes it
case_89 : errors 0 ((syntax.class 0 ([]) (w 6 (codes "A")) None (syntax.more (syntax.field 8 ([])
    (tree.int 8) (w 12 (codes "f")) (Some (tree.field 14 (tree.this 14) (w 19 (codes "f")))))
    syntax.end)) ∷ []) ≡ []
unfolding is_accessible lacks_object assignable as_specific is_named is_ctor methods_named ctors_in choose_at find_method find_ctor find_call find_field find_field_of find_member_type last_named find_type shown find_variable find_type_named find_type_of find_field_in find_method_named find_method_of find_ctor_of own_row nearest member number_of entries_of chain_of row_of find_left find_left_of type_of class_name_of target_found types_of own_notes is_constant is_true_literal completes else_completes list_completes own_stmt_notes notes_of target_notes args_notes stmt_notes else_notes stmts_notes member_notes locals_in locals_in_else locals_in_row class_rows members_rows member_rows class_notes members_notes one_notes
case_89 = refl

-- `class A{int f=g;static int g;}`: javac takes it
case_90 : errors 0 ((syntax.class 0 ([]) (w 6 (codes "A")) None (syntax.more (syntax.field 8 ([])
    (tree.int 8) (w 12 (codes "f")) (Some (tree.name 14 (w 14 (codes "g"))))) (syntax.more
    (syntax.field 16 ((modifier 16 word.Static) ∷ []) (tree.int 23) (w 27 (codes "g")) None)
    syntax.end))) ∷ []) ≡ []
unfolding is_accessible lacks_object assignable as_specific is_named is_ctor methods_named ctors_in choose_at find_method find_ctor find_call find_field find_field_of find_member_type last_named find_type shown find_variable find_type_named find_type_of find_field_in find_method_named find_method_of find_ctor_of own_row nearest member number_of entries_of chain_of row_of find_left find_left_of type_of class_name_of target_found types_of own_notes is_constant is_true_literal completes else_completes list_completes own_stmt_notes notes_of target_notes args_notes stmt_notes else_notes stmts_notes member_notes locals_in locals_in_else locals_in_row class_rows members_rows member_rows class_notes members_notes one_notes
case_90 = refl

-- `class A{void n(){}void m(){int a=n();}}`: javac refuses it
case_91 : errors 0 ((syntax.class 0 ([]) (w 6 (codes "A")) None (syntax.more (syntax.method 8 ([])
    None (w 13 (codes "n")) ([]) statement.end) (syntax.more (syntax.method 18 ([]) None (w 23
    (codes "m")) ([]) (statement.more (statement.local 27 false (tree.int 27) (w 31 (codes "a"))
    (tree.call 33 tree.no_target (w 33 (codes "n")) tree.end)) statement.end)) syntax.end))) ∷ [])
    ≡ breaks 33 rule.TypeMismatch ∷ breaks 33 rule.VoidValue ∷ []
unfolding is_accessible lacks_object assignable as_specific is_named is_ctor methods_named ctors_in choose_at find_method find_ctor find_call find_field find_field_of find_member_type last_named find_type shown find_variable find_type_named find_type_of find_field_in find_method_named find_method_of find_ctor_of own_row nearest member number_of entries_of chain_of row_of find_left find_left_of type_of class_name_of target_found types_of own_notes is_constant is_true_literal completes else_completes list_completes own_stmt_notes notes_of target_notes args_notes stmt_notes else_notes stmts_notes member_notes locals_in locals_in_else locals_in_row class_rows members_rows member_rows class_notes members_notes one_notes
case_91 = refl

-- `class A{int n(){return 1;}void m(){int a=n();}}`: javac takes it
case_92 : errors 0 ((syntax.class 0 ([]) (w 6 (codes "A")) None (syntax.more (syntax.method 8 ([])
    (Some (tree.int 8)) (w 12 (codes "n")) ([]) (statement.more (statement.return 16 (Some
    (tree.number 23 1))) statement.end)) (syntax.more (syntax.method 26 ([]) None (w 31 (codes
    "m")) ([]) (statement.more (statement.local 35 false (tree.int 35) (w 39 (codes "a"))
    (tree.call 41 tree.no_target (w 41 (codes "n")) tree.end)) statement.end)) syntax.end))) ∷ [])
    ≡ []
unfolding is_accessible lacks_object assignable as_specific is_named is_ctor methods_named ctors_in choose_at find_method find_ctor find_call find_field find_field_of find_member_type last_named find_type shown find_variable find_type_named find_type_of find_field_in find_method_named find_method_of find_ctor_of own_row nearest member number_of entries_of chain_of row_of find_left find_left_of type_of class_name_of target_found types_of own_notes is_constant is_true_literal completes else_completes list_completes own_stmt_notes notes_of target_notes args_notes stmt_notes else_notes stmts_notes member_notes locals_in locals_in_else locals_in_row class_rows members_rows member_rows class_notes members_notes one_notes
case_92 = refl

-- `class A{void n(){}void k(Object a){}void m(){k(n());}}`: javac refuses it
case_93 : errors 0 ((syntax.class 0 ([]) (w 6 (codes "A")) None (syntax.more (syntax.method 8 ([])
    None (w 13 (codes "n")) ([]) statement.end) (syntax.more (syntax.method 18 ([]) None (w 23
    (codes "k")) ((param 25 false (tree.named 25 None (w 25 (codes "Object"))) (w 32 (codes "a")))
    ∷ []) statement.end) (syntax.more (syntax.method 36 ([]) None (w 41 (codes "m")) ([])
    (statement.more (statement.eval 45 (tree.call 45 tree.no_target (w 45 (codes "k")) (tree.more
    (tree.call 47 tree.no_target (w 47 (codes "n")) tree.end) tree.end))) statement.end))
    syntax.end)))) ∷ []) ≡ breaks 45 rule.NoMethod ∷ breaks 47 rule.VoidValue ∷ []
unfolding is_accessible lacks_object assignable as_specific is_named is_ctor methods_named ctors_in choose_at find_method find_ctor find_call find_field find_field_of find_member_type last_named find_type shown find_variable find_type_named find_type_of find_field_in find_method_named find_method_of find_ctor_of own_row nearest member number_of entries_of chain_of row_of find_left find_left_of type_of class_name_of target_found types_of own_notes is_constant is_true_literal completes else_completes list_completes own_stmt_notes notes_of target_notes args_notes stmt_notes else_notes stmts_notes member_notes locals_in locals_in_else locals_in_row class_rows members_rows member_rows class_notes members_notes one_notes
case_93 = refl

-- `class A{void n(){}void k(Object a){}void m(){n();k(this);}}`: javac takes it
case_94 : errors 0 ((syntax.class 0 ([]) (w 6 (codes "A")) None (syntax.more (syntax.method 8 ([])
    None (w 13 (codes "n")) ([]) statement.end) (syntax.more (syntax.method 18 ([]) None (w 23
    (codes "k")) ((param 25 false (tree.named 25 None (w 25 (codes "Object"))) (w 32 (codes "a")))
    ∷ []) statement.end) (syntax.more (syntax.method 36 ([]) None (w 41 (codes "m")) ([])
    (statement.more (statement.eval 45 (tree.call 45 tree.no_target (w 45 (codes "n")) tree.end))
    (statement.more (statement.eval 49 (tree.call 49 tree.no_target (w 49 (codes "k")) (tree.more
    (tree.this 51) tree.end))) statement.end))) syntax.end)))) ∷ []) ≡ []
unfolding is_accessible lacks_object assignable as_specific is_named is_ctor methods_named ctors_in choose_at find_method find_ctor find_call find_field find_field_of find_member_type last_named find_type shown find_variable find_type_named find_type_of find_field_in find_method_named find_method_of find_ctor_of own_row nearest member number_of entries_of chain_of row_of find_left find_left_of type_of class_name_of target_found types_of own_notes is_constant is_true_literal completes else_completes list_completes own_stmt_notes notes_of target_notes args_notes stmt_notes else_notes stmts_notes member_notes locals_in locals_in_else locals_in_row class_rows members_rows member_rows class_notes members_notes one_notes
case_94 = refl

-- `class A{void n(){}boolean m(){return (n())==(n());}}`: javac refuses it
case_95 : errors 0 ((syntax.class 0 ([]) (w 6 (codes "A")) None (syntax.more (syntax.method 8 ([])
    None (w 13 (codes "n")) ([]) statement.end) (syntax.more (syntax.method 18 ([]) (Some
    (tree.boolean 18)) (w 26 (codes "m")) ([]) (statement.more (statement.return 30 (Some
    (tree.binary 37 op.Eq (tree.paren 37 (tree.call 38 tree.no_target (w 38 (codes "n"))
    tree.end)) (tree.paren 44 (tree.call 45 tree.no_target (w 45 (codes "n")) tree.end)))))
    statement.end)) syntax.end))) ∷ []) ≡ breaks 37 rule.Operands ∷ breaks 38 rule.VoidValue ∷
    breaks 45 rule.VoidValue ∷ []
unfolding is_accessible lacks_object assignable as_specific is_named is_ctor methods_named ctors_in choose_at find_method find_ctor find_call find_field find_field_of find_member_type last_named find_type shown find_variable find_type_named find_type_of find_field_in find_method_named find_method_of find_ctor_of own_row nearest member number_of entries_of chain_of row_of find_left find_left_of type_of class_name_of target_found types_of own_notes is_constant is_true_literal completes else_completes list_completes own_stmt_notes notes_of target_notes args_notes stmt_notes else_notes stmts_notes member_notes locals_in locals_in_else locals_in_row class_rows members_rows member_rows class_notes members_notes one_notes
case_95 = refl

-- `class A{int n(){return 1;}boolean m(){return (n())==(n());}}`: javac takes it
case_96 : errors 0 ((syntax.class 0 ([]) (w 6 (codes "A")) None (syntax.more (syntax.method 8 ([])
    (Some (tree.int 8)) (w 12 (codes "n")) ([]) (statement.more (statement.return 16 (Some
    (tree.number 23 1))) statement.end)) (syntax.more (syntax.method 26 ([]) (Some (tree.boolean
    26)) (w 34 (codes "m")) ([]) (statement.more (statement.return 38 (Some (tree.binary 45 op.Eq
    (tree.paren 45 (tree.call 46 tree.no_target (w 46 (codes "n")) tree.end)) (tree.paren 52
    (tree.call 53 tree.no_target (w 53 (codes "n")) tree.end))))) statement.end)) syntax.end))) ∷
    []) ≡ []
unfolding is_accessible lacks_object assignable as_specific is_named is_ctor methods_named ctors_in choose_at find_method find_ctor find_call find_field find_field_of find_member_type last_named find_type shown find_variable find_type_named find_type_of find_field_in find_method_named find_method_of find_ctor_of own_row nearest member number_of entries_of chain_of row_of find_left find_left_of type_of class_name_of target_found types_of own_notes is_constant is_true_literal completes else_completes list_completes own_stmt_notes notes_of target_notes args_notes stmt_notes else_notes stmts_notes member_notes locals_in locals_in_else locals_in_row class_rows members_rows member_rows class_notes members_notes one_notes
case_96 = refl
