-- Errors of small programs, by place and rule: of types.
use Rattle.std.proofs.Common.{◌≡◌, [], ◌∷◌, Some, None, true, false, refl}
use Rattle.std.specs.Prelude.{codes}
use Rattle.jr_ast.specs.declared.operators.UnOp.TheVariants as sign
use Rattle.jr_ast.specs.declared.operators.BinOp.TheVariants as op
use Rattle.jr_ast.specs.declared.operators.BumpOp.TheVariants as bump
use Rattle.jr_ast.specs.Tree as tree
use Rattle.jr_ast.specs.StatementTree as statement
use Rattle.jr_ast.specs.MemberTree as syntax
use Rattle.jr_table.specs.Entries.{number_of, entries_of}
use Rattle.jr_table.specs.Chains.{chain_of}
use Rattle.jr_table.specs.Looking.{own_row, nearest, member}
use Rattle.jr_table.specs.Access.{is_accessible, lacks_object}
use Rattle.jr_table.specs.Calls.{assignable, as_specific, is_named, is_ctor, methods_named, ctors_in, choose_at, find_method, find_ctor, find_call}
use Rattle.jr_table.specs.Fields.{find_field, find_field_of, find_member_type}
use Rattle.jr_table.specs.TypeNames.{find_type}
use Rattle.jr_table.specs.Scope.{last_named}
use Rattle.jr_table.specs.Lookup.{shown, find_variable, find_type_named, find_type_of, find_field_in, find_method_named, find_method_of, find_ctor_of}
use Rattle.jr_table.specs.Context.{locals_in, locals_in_else, locals_in_row}
use Rattle.jr_table.specs.Meanings.{row_of, find_left, find_left_of, type_of, class_name_of, target_found, types_of}
use Rattle.jr_table.specs.Notes.{breaks, own_notes, is_constant, is_true_literal, completes, else_completes, list_completes, own_stmt_notes}
use Rattle.jr_table.specs.Walks.{notes_of, target_notes, args_notes, stmt_notes, else_notes, stmts_notes, member_notes}
use Rattle.jr_table.specs.declared.rules.Rule.TheVariants as rule
use Rattle.jr_table.proofs.BindingSamples.{w, param, class_rows, members_rows, member_rows, class_notes, members_notes, one_notes, errors}

-- `class A{boolean f=1;}`: javac refuses it
case_35 : errors 0 ((syntax.class 0 ([]) (w 6 (codes "A")) None (syntax.more (syntax.field 8 ([])
    (tree.boolean 8) (w 16 (codes "f")) (Some (tree.number 18 1))) syntax.end)) ∷ []) ≡ breaks 18
    rule.TypeMismatch ∷ []
unfolding is_accessible lacks_object assignable as_specific is_named is_ctor methods_named ctors_in choose_at find_method find_ctor find_call find_field find_field_of find_member_type last_named find_type shown find_variable find_type_named find_type_of find_field_in find_method_named find_method_of find_ctor_of own_row nearest member number_of entries_of chain_of row_of find_left find_left_of type_of class_name_of target_found types_of own_notes is_constant is_true_literal completes else_completes list_completes own_stmt_notes notes_of target_notes args_notes stmt_notes else_notes stmts_notes member_notes locals_in locals_in_else locals_in_row class_rows members_rows member_rows class_notes members_notes one_notes
case_35 = refl

-- `class A{boolean f=true;}`: javac takes it
case_36 : errors 0 ((syntax.class 0 ([]) (w 6 (codes "A")) None (syntax.more (syntax.field 8 ([])
    (tree.boolean 8) (w 16 (codes "f")) (Some (tree.truth 18 true))) syntax.end)) ∷ []) ≡ []
unfolding is_accessible lacks_object assignable as_specific is_named is_ctor methods_named ctors_in choose_at find_method find_ctor find_call find_field find_field_of find_member_type last_named find_type shown find_variable find_type_named find_type_of find_field_in find_method_named find_method_of find_ctor_of own_row nearest member number_of entries_of chain_of row_of find_left find_left_of type_of class_name_of target_found types_of own_notes is_constant is_true_literal completes else_completes list_completes own_stmt_notes notes_of target_notes args_notes stmt_notes else_notes stmts_notes member_notes locals_in locals_in_else locals_in_row class_rows members_rows member_rows class_notes members_notes one_notes
case_36 = refl

-- `class A{void m(){int a=1;a=true;}}`: javac refuses it
case_37 : errors 0 ((syntax.class 0 ([]) (w 6 (codes "A")) None (syntax.more (syntax.method 8 ([])
    None (w 13 (codes "m")) ([]) (statement.more (statement.local 17 false (tree.int 17) (w 21
    (codes "a")) (tree.number 23 1)) (statement.more (statement.eval 25 (tree.assign 25 (tree.name
    25 (w 25 (codes "a"))) (tree.truth 27 true))) statement.end))) syntax.end)) ∷ []) ≡ breaks 27
    rule.TypeMismatch ∷ []
unfolding is_accessible lacks_object assignable as_specific is_named is_ctor methods_named ctors_in choose_at find_method find_ctor find_call find_field find_field_of find_member_type last_named find_type shown find_variable find_type_named find_type_of find_field_in find_method_named find_method_of find_ctor_of own_row nearest member number_of entries_of chain_of row_of find_left find_left_of type_of class_name_of target_found types_of own_notes is_constant is_true_literal completes else_completes list_completes own_stmt_notes notes_of target_notes args_notes stmt_notes else_notes stmts_notes member_notes locals_in locals_in_else locals_in_row class_rows members_rows member_rows class_notes members_notes one_notes
case_37 = refl

-- `class A{void m(){int a=1;a=2;}}`: javac takes it
case_38 : errors 0 ((syntax.class 0 ([]) (w 6 (codes "A")) None (syntax.more (syntax.method 8 ([])
    None (w 13 (codes "m")) ([]) (statement.more (statement.local 17 false (tree.int 17) (w 21
    (codes "a")) (tree.number 23 1)) (statement.more (statement.eval 25 (tree.assign 25 (tree.name
    25 (w 25 (codes "a"))) (tree.number 27 2))) statement.end))) syntax.end)) ∷ []) ≡ []
unfolding is_accessible lacks_object assignable as_specific is_named is_ctor methods_named ctors_in choose_at find_method find_ctor find_call find_field find_field_of find_member_type last_named find_type shown find_variable find_type_named find_type_of find_field_in find_method_named find_method_of find_ctor_of own_row nearest member number_of entries_of chain_of row_of find_left find_left_of type_of class_name_of target_found types_of own_notes is_constant is_true_literal completes else_completes list_completes own_stmt_notes notes_of target_notes args_notes stmt_notes else_notes stmts_notes member_notes locals_in locals_in_else locals_in_row class_rows members_rows member_rows class_notes members_notes one_notes
case_38 = refl

-- `class A{int m(){return true;}}`: javac refuses it
case_39 : errors 0 ((syntax.class 0 ([]) (w 6 (codes "A")) None (syntax.more (syntax.method 8 ([])
    (Some (tree.int 8)) (w 12 (codes "m")) ([]) (statement.more (statement.return 16 (Some
    (tree.truth 23 true))) statement.end)) syntax.end)) ∷ []) ≡ breaks 23 rule.TypeMismatch ∷ []
unfolding is_accessible lacks_object assignable as_specific is_named is_ctor methods_named ctors_in choose_at find_method find_ctor find_call find_field find_field_of find_member_type last_named find_type shown find_variable find_type_named find_type_of find_field_in find_method_named find_method_of find_ctor_of own_row nearest member number_of entries_of chain_of row_of find_left find_left_of type_of class_name_of target_found types_of own_notes is_constant is_true_literal completes else_completes list_completes own_stmt_notes notes_of target_notes args_notes stmt_notes else_notes stmts_notes member_notes locals_in locals_in_else locals_in_row class_rows members_rows member_rows class_notes members_notes one_notes
case_39 = refl

-- `class A{int m(){return 1;}}`: javac takes it
case_40 : errors 0 ((syntax.class 0 ([]) (w 6 (codes "A")) None (syntax.more (syntax.method 8 ([])
    (Some (tree.int 8)) (w 12 (codes "m")) ([]) (statement.more (statement.return 16 (Some
    (tree.number 23 1))) statement.end)) syntax.end)) ∷ []) ≡ []
unfolding is_accessible lacks_object assignable as_specific is_named is_ctor methods_named ctors_in choose_at find_method find_ctor find_call find_field find_field_of find_member_type last_named find_type shown find_variable find_type_named find_type_of find_field_in find_method_named find_method_of find_ctor_of own_row nearest member number_of entries_of chain_of row_of find_left find_left_of type_of class_name_of target_found types_of own_notes is_constant is_true_literal completes else_completes list_completes own_stmt_notes notes_of target_notes args_notes stmt_notes else_notes stmts_notes member_notes locals_in locals_in_else locals_in_row class_rows members_rows member_rows class_notes members_notes one_notes
case_40 = refl

-- `class A{void m(int a){if(a){}}}`: javac refuses it
case_41 : errors 0 ((syntax.class 0 ([]) (w 6 (codes "A")) None (syntax.more (syntax.method 8 ([])
    None (w 13 (codes "m")) ((param 15 false (tree.int 15) (w 19 (codes "a"))) ∷ [])
    (statement.more (statement.branch 22 (tree.name 25 (w 25 (codes "a"))) (statement.block 27
    statement.end) statement.no_else) statement.end)) syntax.end)) ∷ []) ≡ breaks 25
    rule.TypeMismatch ∷ []
unfolding is_accessible lacks_object assignable as_specific is_named is_ctor methods_named ctors_in choose_at find_method find_ctor find_call find_field find_field_of find_member_type last_named find_type shown find_variable find_type_named find_type_of find_field_in find_method_named find_method_of find_ctor_of own_row nearest member number_of entries_of chain_of row_of find_left find_left_of type_of class_name_of target_found types_of own_notes is_constant is_true_literal completes else_completes list_completes own_stmt_notes notes_of target_notes args_notes stmt_notes else_notes stmts_notes member_notes locals_in locals_in_else locals_in_row class_rows members_rows member_rows class_notes members_notes one_notes
case_41 = refl

-- `class A{void m(int a){if(a<1){}}}`: javac takes it
case_42 : errors 0 ((syntax.class 0 ([]) (w 6 (codes "A")) None (syntax.more (syntax.method 8 ([])
    None (w 13 (codes "m")) ((param 15 false (tree.int 15) (w 19 (codes "a"))) ∷ [])
    (statement.more (statement.branch 22 (tree.binary 25 op.Lt (tree.name 25 (w 25 (codes "a")))
    (tree.number 27 1)) (statement.block 29 statement.end) statement.no_else) statement.end))
    syntax.end)) ∷ []) ≡ []
unfolding is_accessible lacks_object assignable as_specific is_named is_ctor methods_named ctors_in choose_at find_method find_ctor find_call find_field find_field_of find_member_type last_named find_type shown find_variable find_type_named find_type_of find_field_in find_method_named find_method_of find_ctor_of own_row nearest member number_of entries_of chain_of row_of find_left find_left_of type_of class_name_of target_found types_of own_notes is_constant is_true_literal completes else_completes list_completes own_stmt_notes notes_of target_notes args_notes stmt_notes else_notes stmts_notes member_notes locals_in locals_in_else locals_in_row class_rows members_rows member_rows class_notes members_notes one_notes
case_42 = refl

-- `class A{void m(int a){while(a){}}}`: javac refuses it
case_43 : errors 0 ((syntax.class 0 ([]) (w 6 (codes "A")) None (syntax.more (syntax.method 8 ([])
    None (w 13 (codes "m")) ((param 15 false (tree.int 15) (w 19 (codes "a"))) ∷ [])
    (statement.more (statement.loop 22 (tree.name 28 (w 28 (codes "a"))) (statement.block 30
    statement.end)) statement.end)) syntax.end)) ∷ []) ≡ breaks 28 rule.TypeMismatch ∷ []
unfolding is_accessible lacks_object assignable as_specific is_named is_ctor methods_named ctors_in choose_at find_method find_ctor find_call find_field find_field_of find_member_type last_named find_type shown find_variable find_type_named find_type_of find_field_in find_method_named find_method_of find_ctor_of own_row nearest member number_of entries_of chain_of row_of find_left find_left_of type_of class_name_of target_found types_of own_notes is_constant is_true_literal completes else_completes list_completes own_stmt_notes notes_of target_notes args_notes stmt_notes else_notes stmts_notes member_notes locals_in locals_in_else locals_in_row class_rows members_rows member_rows class_notes members_notes one_notes
case_43 = refl

-- `class A{void m(int a){while(a<1){}}}`: javac takes it
case_44 : errors 0 ((syntax.class 0 ([]) (w 6 (codes "A")) None (syntax.more (syntax.method 8 ([])
    None (w 13 (codes "m")) ((param 15 false (tree.int 15) (w 19 (codes "a"))) ∷ [])
    (statement.more (statement.loop 22 (tree.binary 28 op.Lt (tree.name 28 (w 28 (codes "a")))
    (tree.number 30 1)) (statement.block 32 statement.end)) statement.end)) syntax.end)) ∷ []) ≡
    []
unfolding is_accessible lacks_object assignable as_specific is_named is_ctor methods_named ctors_in choose_at find_method find_ctor find_call find_field find_field_of find_member_type last_named find_type shown find_variable find_type_named find_type_of find_field_in find_method_named find_method_of find_ctor_of own_row nearest member number_of entries_of chain_of row_of find_left find_left_of type_of class_name_of target_found types_of own_notes is_constant is_true_literal completes else_completes list_completes own_stmt_notes notes_of target_notes args_notes stmt_notes else_notes stmts_notes member_notes locals_in locals_in_else locals_in_row class_rows members_rows member_rows class_notes members_notes one_notes
case_44 = refl

-- `class A{void m(int a){synchronized(a){}}}`: javac refuses it
case_45 : errors 0 ((syntax.class 0 ([]) (w 6 (codes "A")) None (syntax.more (syntax.method 8 ([])
    None (w 13 (codes "m")) ((param 15 false (tree.int 15) (w 19 (codes "a"))) ∷ [])
    (statement.more (statement.sync 22 (tree.name 35 (w 35 (codes "a"))) statement.end)
    statement.end)) syntax.end)) ∷ []) ≡ breaks 35 rule.TypeMismatch ∷ []
unfolding is_accessible lacks_object assignable as_specific is_named is_ctor methods_named ctors_in choose_at find_method find_ctor find_call find_field find_field_of find_member_type last_named find_type shown find_variable find_type_named find_type_of find_field_in find_method_named find_method_of find_ctor_of own_row nearest member number_of entries_of chain_of row_of find_left find_left_of type_of class_name_of target_found types_of own_notes is_constant is_true_literal completes else_completes list_completes own_stmt_notes notes_of target_notes args_notes stmt_notes else_notes stmts_notes member_notes locals_in locals_in_else locals_in_row class_rows members_rows member_rows class_notes members_notes one_notes
case_45 = refl

-- `class A{void m(A a){synchronized(a){}}}`: javac takes it
case_46 : errors 0 ((syntax.class 0 ([]) (w 6 (codes "A")) None (syntax.more (syntax.method 8 ([])
    None (w 13 (codes "m")) ((param 15 false (tree.named 15 None (w 15 (codes "A"))) (w 17 (codes
    "a"))) ∷ []) (statement.more (statement.sync 20 (tree.name 33 (w 33 (codes "a")))
    statement.end) statement.end)) syntax.end)) ∷ []) ≡ []
unfolding is_accessible lacks_object assignable as_specific is_named is_ctor methods_named ctors_in choose_at find_method find_ctor find_call find_field find_field_of find_member_type last_named find_type shown find_variable find_type_named find_type_of find_field_in find_method_named find_method_of find_ctor_of own_row nearest member number_of entries_of chain_of row_of find_left find_left_of type_of class_name_of target_found types_of own_notes is_constant is_true_literal completes else_completes list_completes own_stmt_notes notes_of target_notes args_notes stmt_notes else_notes stmts_notes member_notes locals_in locals_in_else locals_in_row class_rows members_rows member_rows class_notes members_notes one_notes
case_46 = refl

-- `class A{}class B extends A{B m(A a){return a;}}`: javac refuses it
case_47 : errors 0 ((syntax.class 0 ([]) (w 6 (codes "A")) None syntax.end) ∷ (syntax.class 9 ([])
    (w 15 (codes "B")) (Some (tree.named 25 None (w 25 (codes "A")))) (syntax.more (syntax.method
    27 ([]) (Some (tree.named 27 None (w 27 (codes "B")))) (w 29 (codes "m")) ((param 31 false
    (tree.named 31 None (w 31 (codes "A"))) (w 33 (codes "a"))) ∷ []) (statement.more
    (statement.return 36 (Some (tree.name 43 (w 43 (codes "a"))))) statement.end)) syntax.end)) ∷
    []) ≡ breaks 43 rule.TypeMismatch ∷ []
unfolding is_accessible lacks_object assignable as_specific is_named is_ctor methods_named ctors_in choose_at find_method find_ctor find_call find_field find_field_of find_member_type last_named find_type shown find_variable find_type_named find_type_of find_field_in find_method_named find_method_of find_ctor_of own_row nearest member number_of entries_of chain_of row_of find_left find_left_of type_of class_name_of target_found types_of own_notes is_constant is_true_literal completes else_completes list_completes own_stmt_notes notes_of target_notes args_notes stmt_notes else_notes stmts_notes member_notes locals_in locals_in_else locals_in_row class_rows members_rows member_rows class_notes members_notes one_notes
case_47 = refl

-- `class A{}class B extends A{A m(B a){return a;}}`: javac takes it
case_48 : errors 0 ((syntax.class 0 ([]) (w 6 (codes "A")) None syntax.end) ∷ (syntax.class 9 ([])
    (w 15 (codes "B")) (Some (tree.named 25 None (w 25 (codes "A")))) (syntax.more (syntax.method
    27 ([]) (Some (tree.named 27 None (w 27 (codes "A")))) (w 29 (codes "m")) ((param 31 false
    (tree.named 31 None (w 31 (codes "B"))) (w 33 (codes "a"))) ∷ []) (statement.more
    (statement.return 36 (Some (tree.name 43 (w 43 (codes "a"))))) statement.end)) syntax.end)) ∷
    []) ≡ []
unfolding is_accessible lacks_object assignable as_specific is_named is_ctor methods_named ctors_in choose_at find_method find_ctor find_call find_field find_field_of find_member_type last_named find_type shown find_variable find_type_named find_type_of find_field_in find_method_named find_method_of find_ctor_of own_row nearest member number_of entries_of chain_of row_of find_left find_left_of type_of class_name_of target_found types_of own_notes is_constant is_true_literal completes else_completes list_completes own_stmt_notes notes_of target_notes args_notes stmt_notes else_notes stmts_notes member_notes locals_in locals_in_else locals_in_row class_rows members_rows member_rows class_notes members_notes one_notes
case_48 = refl

-- `class A{int m(boolean b){return 1+b;}}`: javac refuses it
case_49 : errors 0 ((syntax.class 0 ([]) (w 6 (codes "A")) None (syntax.more (syntax.method 8 ([])
    (Some (tree.int 8)) (w 12 (codes "m")) ((param 14 false (tree.boolean 14) (w 22 (codes "b")))
    ∷ []) (statement.more (statement.return 25 (Some (tree.binary 32 op.Add (tree.number 32 1)
    (tree.name 34 (w 34 (codes "b")))))) statement.end)) syntax.end)) ∷ []) ≡ breaks 32
    rule.Operands ∷ []
unfolding is_accessible lacks_object assignable as_specific is_named is_ctor methods_named ctors_in choose_at find_method find_ctor find_call find_field find_field_of find_member_type last_named find_type shown find_variable find_type_named find_type_of find_field_in find_method_named find_method_of find_ctor_of own_row nearest member number_of entries_of chain_of row_of find_left find_left_of type_of class_name_of target_found types_of own_notes is_constant is_true_literal completes else_completes list_completes own_stmt_notes notes_of target_notes args_notes stmt_notes else_notes stmts_notes member_notes locals_in locals_in_else locals_in_row class_rows members_rows member_rows class_notes members_notes one_notes
case_49 = refl

-- `class A{int m(int b){return 1+b;}}`: javac takes it
case_50 : errors 0 ((syntax.class 0 ([]) (w 6 (codes "A")) None (syntax.more (syntax.method 8 ([])
    (Some (tree.int 8)) (w 12 (codes "m")) ((param 14 false (tree.int 14) (w 18 (codes "b"))) ∷
    []) (statement.more (statement.return 21 (Some (tree.binary 28 op.Add (tree.number 28 1)
    (tree.name 30 (w 30 (codes "b")))))) statement.end)) syntax.end)) ∷ []) ≡ []
unfolding is_accessible lacks_object assignable as_specific is_named is_ctor methods_named ctors_in choose_at find_method find_ctor find_call find_field find_field_of find_member_type last_named find_type shown find_variable find_type_named find_type_of find_field_in find_method_named find_method_of find_ctor_of own_row nearest member number_of entries_of chain_of row_of find_left find_left_of type_of class_name_of target_found types_of own_notes is_constant is_true_literal completes else_completes list_completes own_stmt_notes notes_of target_notes args_notes stmt_notes else_notes stmts_notes member_notes locals_in locals_in_else locals_in_row class_rows members_rows member_rows class_notes members_notes one_notes
case_50 = refl

-- `class A{boolean m(){return !1;}}`: javac refuses it
case_51 : errors 0 ((syntax.class 0 ([]) (w 6 (codes "A")) None (syntax.more (syntax.method 8 ([])
    (Some (tree.boolean 8)) (w 16 (codes "m")) ([]) (statement.more (statement.return 20 (Some
    (tree.unary 27 sign.Not (tree.number 28 1)))) statement.end)) syntax.end)) ∷ []) ≡ breaks 27
    rule.Operands ∷ []
unfolding is_accessible lacks_object assignable as_specific is_named is_ctor methods_named ctors_in choose_at find_method find_ctor find_call find_field find_field_of find_member_type last_named find_type shown find_variable find_type_named find_type_of find_field_in find_method_named find_method_of find_ctor_of own_row nearest member number_of entries_of chain_of row_of find_left find_left_of type_of class_name_of target_found types_of own_notes is_constant is_true_literal completes else_completes list_completes own_stmt_notes notes_of target_notes args_notes stmt_notes else_notes stmts_notes member_notes locals_in locals_in_else locals_in_row class_rows members_rows member_rows class_notes members_notes one_notes
case_51 = refl

-- `class A{boolean m(){return !true;}}`: javac takes it
case_52 : errors 0 ((syntax.class 0 ([]) (w 6 (codes "A")) None (syntax.more (syntax.method 8 ([])
    (Some (tree.boolean 8)) (w 16 (codes "m")) ([]) (statement.more (statement.return 20 (Some
    (tree.unary 27 sign.Not (tree.truth 28 true)))) statement.end)) syntax.end)) ∷ []) ≡ []
unfolding is_accessible lacks_object assignable as_specific is_named is_ctor methods_named ctors_in choose_at find_method find_ctor find_call find_field find_field_of find_member_type last_named find_type shown find_variable find_type_named find_type_of find_field_in find_method_named find_method_of find_ctor_of own_row nearest member number_of entries_of chain_of row_of find_left find_left_of type_of class_name_of target_found types_of own_notes is_constant is_true_literal completes else_completes list_completes own_stmt_notes notes_of target_notes args_notes stmt_notes else_notes stmts_notes member_notes locals_in locals_in_else locals_in_row class_rows members_rows member_rows class_notes members_notes one_notes
case_52 = refl

-- `class A{void m(boolean b){b++;}}`: javac refuses it
case_53 : errors 0 ((syntax.class 0 ([]) (w 6 (codes "A")) None (syntax.more (syntax.method 8 ([])
    None (w 13 (codes "m")) ((param 15 false (tree.boolean 15) (w 23 (codes "b"))) ∷ [])
    (statement.more (statement.eval 26 (tree.bump 26 bump.PostInc (tree.name 26 (w 26 (codes
    "b"))))) statement.end)) syntax.end)) ∷ []) ≡ breaks 26 rule.Operands ∷ []
unfolding is_accessible lacks_object assignable as_specific is_named is_ctor methods_named ctors_in choose_at find_method find_ctor find_call find_field find_field_of find_member_type last_named find_type shown find_variable find_type_named find_type_of find_field_in find_method_named find_method_of find_ctor_of own_row nearest member number_of entries_of chain_of row_of find_left find_left_of type_of class_name_of target_found types_of own_notes is_constant is_true_literal completes else_completes list_completes own_stmt_notes notes_of target_notes args_notes stmt_notes else_notes stmts_notes member_notes locals_in locals_in_else locals_in_row class_rows members_rows member_rows class_notes members_notes one_notes
case_53 = refl

-- `class A{void m(int b){b++;}}`: javac takes it
case_54 : errors 0 ((syntax.class 0 ([]) (w 6 (codes "A")) None (syntax.more (syntax.method 8 ([])
    None (w 13 (codes "m")) ((param 15 false (tree.int 15) (w 19 (codes "b"))) ∷ [])
    (statement.more (statement.eval 22 (tree.bump 22 bump.PostInc (tree.name 22 (w 22 (codes
    "b"))))) statement.end)) syntax.end)) ∷ []) ≡ []
unfolding is_accessible lacks_object assignable as_specific is_named is_ctor methods_named ctors_in choose_at find_method find_ctor find_call find_field find_field_of find_member_type last_named find_type shown find_variable find_type_named find_type_of find_field_in find_method_named find_method_of find_ctor_of own_row nearest member number_of entries_of chain_of row_of find_left find_left_of type_of class_name_of target_found types_of own_notes is_constant is_true_literal completes else_completes list_completes own_stmt_notes notes_of target_notes args_notes stmt_notes else_notes stmts_notes member_notes locals_in locals_in_else locals_in_row class_rows members_rows member_rows class_notes members_notes one_notes
case_54 = refl

-- `class A{void m(boolean b){b+=1;}}`: javac refuses it
case_55 : errors 0 ((syntax.class 0 ([]) (w 6 (codes "A")) None (syntax.more (syntax.method 8 ([])
    None (w 13 (codes "m")) ((param 15 false (tree.boolean 15) (w 23 (codes "b"))) ∷ [])
    (statement.more (statement.eval 26 (tree.compound 26 op.Add (tree.name 26 (w 26 (codes "b")))
    (tree.number 29 1))) statement.end)) syntax.end)) ∷ []) ≡ breaks 26 rule.Operands ∷ []
unfolding is_accessible lacks_object assignable as_specific is_named is_ctor methods_named ctors_in choose_at find_method find_ctor find_call find_field find_field_of find_member_type last_named find_type shown find_variable find_type_named find_type_of find_field_in find_method_named find_method_of find_ctor_of own_row nearest member number_of entries_of chain_of row_of find_left find_left_of type_of class_name_of target_found types_of own_notes is_constant is_true_literal completes else_completes list_completes own_stmt_notes notes_of target_notes args_notes stmt_notes else_notes stmts_notes member_notes locals_in locals_in_else locals_in_row class_rows members_rows member_rows class_notes members_notes one_notes
case_55 = refl

-- `class A{void m(int b){b+=1;}}`: javac takes it
case_56 : errors 0 ((syntax.class 0 ([]) (w 6 (codes "A")) None (syntax.more (syntax.method 8 ([])
    None (w 13 (codes "m")) ((param 15 false (tree.int 15) (w 19 (codes "b"))) ∷ [])
    (statement.more (statement.eval 22 (tree.compound 22 op.Add (tree.name 22 (w 22 (codes "b")))
    (tree.number 25 1))) statement.end)) syntax.end)) ∷ []) ≡ []
unfolding is_accessible lacks_object assignable as_specific is_named is_ctor methods_named ctors_in choose_at find_method find_ctor find_call find_field find_field_of find_member_type last_named find_type shown find_variable find_type_named find_type_of find_field_in find_method_named find_method_of find_ctor_of own_row nearest member number_of entries_of chain_of row_of find_left find_left_of type_of class_name_of target_found types_of own_notes is_constant is_true_literal completes else_completes list_completes own_stmt_notes notes_of target_notes args_notes stmt_notes else_notes stmts_notes member_notes locals_in locals_in_else locals_in_row class_rows members_rows member_rows class_notes members_notes one_notes
case_56 = refl

-- `class B{}class A{boolean m(A a,B b){return a==b;}}`: javac refuses it
case_57 : errors 0 ((syntax.class 0 ([]) (w 6 (codes "B")) None syntax.end) ∷ (syntax.class 9 ([])
    (w 15 (codes "A")) None (syntax.more (syntax.method 17 ([]) (Some (tree.boolean 17)) (w 25
    (codes "m")) ((param 27 false (tree.named 27 None (w 27 (codes "A"))) (w 29 (codes "a"))) ∷
    (param 31 false (tree.named 31 None (w 31 (codes "B"))) (w 33 (codes "b"))) ∷ [])
    (statement.more (statement.return 36 (Some (tree.binary 43 op.Eq (tree.name 43 (w 43 (codes
    "a"))) (tree.name 46 (w 46 (codes "b")))))) statement.end)) syntax.end)) ∷ []) ≡ breaks 43
    rule.Operands ∷ []
unfolding is_accessible lacks_object assignable as_specific is_named is_ctor methods_named ctors_in choose_at find_method find_ctor find_call find_field find_field_of find_member_type last_named find_type shown find_variable find_type_named find_type_of find_field_in find_method_named find_method_of find_ctor_of own_row nearest member number_of entries_of chain_of row_of find_left find_left_of type_of class_name_of target_found types_of own_notes is_constant is_true_literal completes else_completes list_completes own_stmt_notes notes_of target_notes args_notes stmt_notes else_notes stmts_notes member_notes locals_in locals_in_else locals_in_row class_rows members_rows member_rows class_notes members_notes one_notes
case_57 = refl

-- `class B extends A{}class A{boolean m(A a,B b){return a==b;}}`: javac takes it
case_58 : errors 0 ((syntax.class 0 ([]) (w 6 (codes "B")) (Some (tree.named 16 None (w 16 (codes
    "A")))) syntax.end) ∷ (syntax.class 19 ([]) (w 25 (codes "A")) None (syntax.more
    (syntax.method 27 ([]) (Some (tree.boolean 27)) (w 35 (codes "m")) ((param 37 false
    (tree.named 37 None (w 37 (codes "A"))) (w 39 (codes "a"))) ∷ (param 41 false (tree.named 41
    None (w 41 (codes "B"))) (w 43 (codes "b"))) ∷ []) (statement.more (statement.return 46 (Some
    (tree.binary 53 op.Eq (tree.name 53 (w 53 (codes "a"))) (tree.name 56 (w 56 (codes "b"))))))
    statement.end)) syntax.end)) ∷ []) ≡ []
unfolding is_accessible lacks_object assignable as_specific is_named is_ctor methods_named ctors_in choose_at find_method find_ctor find_call find_field find_field_of find_member_type last_named find_type shown find_variable find_type_named find_type_of find_field_in find_method_named find_method_of find_ctor_of own_row nearest member number_of entries_of chain_of row_of find_left find_left_of type_of class_name_of target_found types_of own_notes is_constant is_true_literal completes else_completes list_completes own_stmt_notes notes_of target_notes args_notes stmt_notes else_notes stmts_notes member_notes locals_in locals_in_else locals_in_row class_rows members_rows member_rows class_notes members_notes one_notes
case_58 = refl

-- `class A{boolean m(A a){return a==1;}}`: javac refuses it
case_59 : errors 0 ((syntax.class 0 ([]) (w 6 (codes "A")) None (syntax.more (syntax.method 8 ([])
    (Some (tree.boolean 8)) (w 16 (codes "m")) ((param 18 false (tree.named 18 None (w 18 (codes
    "A"))) (w 20 (codes "a"))) ∷ []) (statement.more (statement.return 23 (Some (tree.binary 30
    op.Eq (tree.name 30 (w 30 (codes "a"))) (tree.number 33 1)))) statement.end)) syntax.end)) ∷
    []) ≡ breaks 30 rule.Operands ∷ []
unfolding is_accessible lacks_object assignable as_specific is_named is_ctor methods_named ctors_in choose_at find_method find_ctor find_call find_field find_field_of find_member_type last_named find_type shown find_variable find_type_named find_type_of find_field_in find_method_named find_method_of find_ctor_of own_row nearest member number_of entries_of chain_of row_of find_left find_left_of type_of class_name_of target_found types_of own_notes is_constant is_true_literal completes else_completes list_completes own_stmt_notes notes_of target_notes args_notes stmt_notes else_notes stmts_notes member_notes locals_in locals_in_else locals_in_row class_rows members_rows member_rows class_notes members_notes one_notes
case_59 = refl

-- `class A{boolean m(A a){return a==null;}}`: javac takes it
case_60 : errors 0 ((syntax.class 0 ([]) (w 6 (codes "A")) None (syntax.more (syntax.method 8 ([])
    (Some (tree.boolean 8)) (w 16 (codes "m")) ((param 18 false (tree.named 18 None (w 18 (codes
    "A"))) (w 20 (codes "a"))) ∷ []) (statement.more (statement.return 23 (Some (tree.binary 30
    op.Eq (tree.name 30 (w 30 (codes "a"))) (tree.null 33)))) statement.end)) syntax.end)) ∷ []) ≡
    []
unfolding is_accessible lacks_object assignable as_specific is_named is_ctor methods_named ctors_in choose_at find_method find_ctor find_call find_field find_field_of find_member_type last_named find_type shown find_variable find_type_named find_type_of find_field_in find_method_named find_method_of find_ctor_of own_row nearest member number_of entries_of chain_of row_of find_left find_left_of type_of class_name_of target_found types_of own_notes is_constant is_true_literal completes else_completes list_completes own_stmt_notes notes_of target_notes args_notes stmt_notes else_notes stmts_notes member_notes locals_in locals_in_else locals_in_row class_rows members_rows member_rows class_notes members_notes one_notes
case_60 = refl

-- `class A{boolean m(){return 1&&true;}}`: javac refuses it
case_61 : errors 0 ((syntax.class 0 ([]) (w 6 (codes "A")) None (syntax.more (syntax.method 8 ([])
    (Some (tree.boolean 8)) (w 16 (codes "m")) ([]) (statement.more (statement.return 20 (Some
    (tree.binary 27 op.And (tree.number 27 1) (tree.truth 30 true)))) statement.end)) syntax.end))
    ∷ []) ≡ breaks 27 rule.Operands ∷ []
unfolding is_accessible lacks_object assignable as_specific is_named is_ctor methods_named ctors_in choose_at find_method find_ctor find_call find_field find_field_of find_member_type last_named find_type shown find_variable find_type_named find_type_of find_field_in find_method_named find_method_of find_ctor_of own_row nearest member number_of entries_of chain_of row_of find_left find_left_of type_of class_name_of target_found types_of own_notes is_constant is_true_literal completes else_completes list_completes own_stmt_notes notes_of target_notes args_notes stmt_notes else_notes stmts_notes member_notes locals_in locals_in_else locals_in_row class_rows members_rows member_rows class_notes members_notes one_notes
case_61 = refl

-- `class A{boolean m(){return true&&true;}}`: javac takes it
case_62 : errors 0 ((syntax.class 0 ([]) (w 6 (codes "A")) None (syntax.more (syntax.method 8 ([])
    (Some (tree.boolean 8)) (w 16 (codes "m")) ([]) (statement.more (statement.return 20 (Some
    (tree.binary 27 op.And (tree.truth 27 true) (tree.truth 33 true)))) statement.end))
    syntax.end)) ∷ []) ≡ []
unfolding is_accessible lacks_object assignable as_specific is_named is_ctor methods_named ctors_in choose_at find_method find_ctor find_call find_field find_field_of find_member_type last_named find_type shown find_variable find_type_named find_type_of find_field_in find_method_named find_method_of find_ctor_of own_row nearest member number_of entries_of chain_of row_of find_left find_left_of type_of class_name_of target_found types_of own_notes is_constant is_true_literal completes else_completes list_completes own_stmt_notes notes_of target_notes args_notes stmt_notes else_notes stmts_notes member_notes locals_in locals_in_else locals_in_row class_rows members_rows member_rows class_notes members_notes one_notes
case_62 = refl

-- `class B{}class A{B m(A a){return (B)a;}}`: javac refuses it
case_63 : errors 0 ((syntax.class 0 ([]) (w 6 (codes "B")) None syntax.end) ∷ (syntax.class 9 ([])
    (w 15 (codes "A")) None (syntax.more (syntax.method 17 ([]) (Some (tree.named 17 None (w 17
    (codes "B")))) (w 19 (codes "m")) ((param 21 false (tree.named 21 None (w 21 (codes "A"))) (w
    23 (codes "a"))) ∷ []) (statement.more (statement.return 26 (Some (tree.cast 33 (tree.named 34
    None (w 34 (codes "B"))) (tree.name 36 (w 36 (codes "a")))))) statement.end)) syntax.end)) ∷
    []) ≡ breaks 33 rule.BadCast ∷ []
unfolding is_accessible lacks_object assignable as_specific is_named is_ctor methods_named ctors_in choose_at find_method find_ctor find_call find_field find_field_of find_member_type last_named find_type shown find_variable find_type_named find_type_of find_field_in find_method_named find_method_of find_ctor_of own_row nearest member number_of entries_of chain_of row_of find_left find_left_of type_of class_name_of target_found types_of own_notes is_constant is_true_literal completes else_completes list_completes own_stmt_notes notes_of target_notes args_notes stmt_notes else_notes stmts_notes member_notes locals_in locals_in_else locals_in_row class_rows members_rows member_rows class_notes members_notes one_notes
case_63 = refl

-- `class B extends A{}class A{B m(A a){return (B)a;}}`: javac takes it
case_64 : errors 0 ((syntax.class 0 ([]) (w 6 (codes "B")) (Some (tree.named 16 None (w 16 (codes
    "A")))) syntax.end) ∷ (syntax.class 19 ([]) (w 25 (codes "A")) None (syntax.more
    (syntax.method 27 ([]) (Some (tree.named 27 None (w 27 (codes "B")))) (w 29 (codes "m"))
    ((param 31 false (tree.named 31 None (w 31 (codes "A"))) (w 33 (codes "a"))) ∷ [])
    (statement.more (statement.return 36 (Some (tree.cast 43 (tree.named 44 None (w 44 (codes
    "B"))) (tree.name 46 (w 46 (codes "a")))))) statement.end)) syntax.end)) ∷ []) ≡ []
unfolding is_accessible lacks_object assignable as_specific is_named is_ctor methods_named ctors_in choose_at find_method find_ctor find_call find_field find_field_of find_member_type last_named find_type shown find_variable find_type_named find_type_of find_field_in find_method_named find_method_of find_ctor_of own_row nearest member number_of entries_of chain_of row_of find_left find_left_of type_of class_name_of target_found types_of own_notes is_constant is_true_literal completes else_completes list_completes own_stmt_notes notes_of target_notes args_notes stmt_notes else_notes stmts_notes member_notes locals_in locals_in_else locals_in_row class_rows members_rows member_rows class_notes members_notes one_notes
case_64 = refl

-- `class A{A m(int a){return (A)a;}}`: javac refuses it
case_65 : errors 0 ((syntax.class 0 ([]) (w 6 (codes "A")) None (syntax.more (syntax.method 8 ([])
    (Some (tree.named 8 None (w 8 (codes "A")))) (w 10 (codes "m")) ((param 12 false (tree.int 12)
    (w 16 (codes "a"))) ∷ []) (statement.more (statement.return 19 (Some (tree.cast 26 (tree.named
    27 None (w 27 (codes "A"))) (tree.name 29 (w 29 (codes "a")))))) statement.end)) syntax.end))
    ∷ []) ≡ breaks 26 rule.BadCast ∷ []
unfolding is_accessible lacks_object assignable as_specific is_named is_ctor methods_named ctors_in choose_at find_method find_ctor find_call find_field find_field_of find_member_type last_named find_type shown find_variable find_type_named find_type_of find_field_in find_method_named find_method_of find_ctor_of own_row nearest member number_of entries_of chain_of row_of find_left find_left_of type_of class_name_of target_found types_of own_notes is_constant is_true_literal completes else_completes list_completes own_stmt_notes notes_of target_notes args_notes stmt_notes else_notes stmts_notes member_notes locals_in locals_in_else locals_in_row class_rows members_rows member_rows class_notes members_notes one_notes
case_65 = refl

-- `class A{A m(int a){return (A)null;}}`: javac takes it
case_66 : errors 0 ((syntax.class 0 ([]) (w 6 (codes "A")) None (syntax.more (syntax.method 8 ([])
    (Some (tree.named 8 None (w 8 (codes "A")))) (w 10 (codes "m")) ((param 12 false (tree.int 12)
    (w 16 (codes "a"))) ∷ []) (statement.more (statement.return 19 (Some (tree.cast 26 (tree.named
    27 None (w 27 (codes "A"))) (tree.null 29)))) statement.end)) syntax.end)) ∷ []) ≡ []
unfolding is_accessible lacks_object assignable as_specific is_named is_ctor methods_named ctors_in choose_at find_method find_ctor find_call find_field find_field_of find_member_type last_named find_type shown find_variable find_type_named find_type_of find_field_in find_method_named find_method_of find_ctor_of own_row nearest member number_of entries_of chain_of row_of find_left find_left_of type_of class_name_of target_found types_of own_notes is_constant is_true_literal completes else_completes list_completes own_stmt_notes notes_of target_notes args_notes stmt_notes else_notes stmts_notes member_notes locals_in locals_in_else locals_in_row class_rows members_rows member_rows class_notes members_notes one_notes
case_66 = refl
