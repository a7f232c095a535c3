-- The sites of small pieces, one for each sentence of the rules on sites (JLS 15.7, 15.12.4,
-- 15.26).
use Rattle.std.specs.Prelude.{◌≡◌, false, true, [], ◌∷◌, Some, None}
use Rattle.jr_ast.specs.declared.operators.ModWord.TheVariants.{Static, Synchronized}
use Rattle.jr_ast.specs.declared.operators.BinOp.TheVariants.{Add, Div, Rem}
use Rattle.jr_ast.specs.declared.operators.BumpOp.TheVariants.{PostInc, PreDec}
use Rattle.jr_ast.specs.declared.operators.UnOp.TheVariants.{Minus}
use Rattle.jr_ast.specs.Tree as tree
use Rattle.jr_ast.specs.StatementTree as statement
use Rattle.jr_cover.specs.Ways.{sites_of}
use Rattle.jr_cover.specs.Sites.{
  reads,
  writes,
  loads,
  stores,
  enters,
  exits,
  creates,
  checks,
  calls,
  loops,
  method_way,
}
use Rattle.jr_cover.specs.Members.{constructor_way, field_way}
use Rattle.jr_cover_cases.specs.Samples.{
  X,
  word,
  name,
  dot,
  args,
  class_type,
  reading,
  only,
  at,
  sites,
  stmt_sites,
}

-- `Read` and `Write` at the name, a write after the right side
pub record LocalSites : Type 0 where
  pub local_read : sites (name 3) ≡ at 3 (reads 3) ∷ []
  pub local_write : sites (tree.assign 50 (name 3) (name 4)) ≡ at 4 (reads 4) ∷ at 3 (writes 3) ∷ []
  pub declaration : stmt_sites (statement.local 50 false (tree.int 50) (word 3) (name 4))
      ≡ at 4 (reads 4) ∷ at 3 (writes 3) ∷ []
  pub compound_write : sites (tree.compound 50 Add (name 3) (name 4))
      ≡ at 3 (reads 3) ∷ at 4 (reads 4) ∷ at 3 (writes 3) ∷ []
  pub bump_behind : sites (tree.bump 50 PostInc (name 3)) ≡ at 3 (reads 3) ∷ at 3 (writes 3) ∷ []
  pub bump_before : sites (tree.bump 50 PreDec (name 3)) ≡ at 3 (reads 3) ∷ at 3 (writes 3) ∷ []

-- `e.f`: the sites of e, `Check`, the access, both at the name
pub record FieldSites : Type 0 where
  pub field_load : sites (dot (name 3) 24) ≡ at 3 (reads 3) ∷ at 24 checks ∷ at 24 (loads 24) ∷ []
  pub field_store : sites (tree.assign 50 (dot (name 3) 24) (name 4))
      ≡ at 3 (reads 3) ∷ at 4 (reads 4) ∷ at 24 checks ∷ at 24 (stores 24) ∷ []
  pub compound_store : sites (tree.compound 50 Add (dot (name 3) 24) (name 4)) ≡ at 3 (reads 3)
      ∷ at 24 checks ∷ at 24 (loads 24) ∷ at 4 (reads 4) ∷ at 24 (stores 24) ∷ []
  pub field_bump : sites (tree.bump 50 PostInc (dot (name 3) 24))
      ≡ at 3 (reads 3) ∷ at 24 checks ∷ at 24 (loads 24) ∷ at 24 (stores 24) ∷ []
  -- a static field that is named through a value: by the letter it has a `Check`
  pub static_by_value : sites (dot (name 3) 14)
      ≡ at 3 (reads 3) ∷ at 14 checks ∷ at 14 (loads 14) ∷ []

-- no `Check` where e is never null, or by simple name, `this`, `super` or a class
pub record FieldSitesWithoutCheck : Type 0 where
  pub load_never_null : sites (dot (name 1) 24) ≡ at 1 (reads 1) ∷ at 24 (loads 24) ∷ []
  pub store_never_null : sites (tree.assign 50 (dot (name 1) 24) (name 4))
      ≡ at 1 (reads 1) ∷ at 4 (reads 4) ∷ at 24 (stores 24) ∷ []
  pub by_name : sites (name 24) ≡ at 24 (loads 24) ∷ []
  pub store_by_name : sites (tree.assign 50 (name 24) (name 4))
      ≡ at 4 (reads 4) ∷ at 24 (stores 24) ∷ []
  pub by_this : sites (dot (tree.this 51) 24) ≡ at 24 (loads 24) ∷ []
  pub by_super : sites (tree.super_field 50 (word 24)) ≡ at 24 (loads 24) ∷ []
  pub store_by_super : sites (tree.assign 50 (tree.super_field 50 (word 24)) (name 4))
      ≡ at 4 (reads 4) ∷ at 24 (stores 24) ∷ []
  pub by_class : sites (dot (name 90) 14) ≡ at 14 (loads 14) ∷ []
  pub store_by_class : sites (tree.assign 50 (dot (name 90) 14) (name 4))
      ≡ at 4 (reads 4) ∷ at 14 (stores 14) ∷ []
  pub by_member_class : sites (dot (dot (name 90) 91) 14) ≡ at 14 (loads 14) ∷ []

-- `/` and `%`: a `Check` at the right operand's first byte, unless that is a literal other than 0
pub record DivisionSites : Type 0 where
  pub quotient : sites (tree.binary 50 Div (name 3) (name 4))
      ≡ at 3 (reads 3) ∷ at 4 (reads 4) ∷ at 4 checks ∷ []
  pub remainder : sites (tree.binary 50 Rem (name 3) (name 4))
      ≡ at 3 (reads 3) ∷ at 4 (reads 4) ∷ at 4 checks ∷ []
  pub by_two : sites (tree.binary 50 Div (name 3) (tree.number 61 2)) ≡ at 3 (reads 3) ∷ []
  pub by_zero : sites (tree.binary 50 Div (name 3) (tree.number 61 0))
      ≡ at 3 (reads 3) ∷ at 61 checks ∷ []
  pub by_two_in_parentheses :
      sites (tree.binary 50 Div (name 3) (tree.paren 61 (tree.number 62 2)))
      ≡ at 3 (reads 3) ∷ at 61 checks ∷ []
  pub by_minus_two : sites (tree.binary 50 Div (name 3) (tree.unary 61 Minus (tree.number 62 2)))
      ≡ at 3 (reads 3) ∷ at 61 checks ∷ []
  pub addition : sites (tree.binary 50 Add (name 3) (name 4)) ≡ at 3 (reads 3) ∷ at 4 (reads 4) ∷ []
  -- in `op=` after the right side, before the store or the `Write`
  pub local_op : sites (tree.compound 50 Div (name 3) (name 4))
      ≡ at 3 (reads 3) ∷ at 4 (reads 4) ∷ at 4 checks ∷ at 3 (writes 3) ∷ []
  pub field_op : sites (tree.compound 50 Rem (name 24) (name 4))
      ≡ at 24 (loads 24) ∷ at 4 (reads 4) ∷ at 4 checks ∷ at 24 (stores 24) ∷ []
  pub value_op : sites (tree.compound 50 Div (dot (name 3) 24) (name 4)) ≡ at 3 (reads 3)
      ∷ at 24 checks ∷ at 24 (loads 24) ∷ at 4 (reads 4) ∷ at 4 checks ∷ at 24 (stores 24) ∷ []
  pub local_op_by_two : sites (tree.compound 50 Div (name 3) (tree.number 61 2))
      ≡ at 3 (reads 3) ∷ at 3 (writes 3) ∷ []

-- a cast that may fail: the operand, and a `Check` at the first byte
pub record CastSites : Type 0 where
  pub may_fail : sites (tree.cast 55 class_type (name 3)) ≡ at 3 (reads 3) ∷ at 55 checks ∷ []
  pub cannot_fail : sites (tree.cast 65 class_type (name 3)) ≡ at 3 (reads 3) ∷ []

-- target, arguments, `Check`, `Call`, both at the name
pub record CallSites : Type 0 where
  pub on_value : sites (tree.call 50 (tree.on (name 3)) (word 80) (args (name 4)))
      ≡ at 3 (reads 3) ∷ at 4 (reads 4) ∷ at 80 checks ∷ at 80 calls ∷ []
  pub without_target : sites (tree.call 50 tree.no_target (word 80) (args (name 4)))
      ≡ at 4 (reads 4) ∷ at 80 calls ∷ []
  pub on_never_null : sites (tree.call 50 (tree.on (name 1)) (word 80) (args (name 4)))
      ≡ at 1 (reads 1) ∷ at 4 (reads 4) ∷ at 80 calls ∷ []
  pub on_this : sites (tree.call 50 (tree.on (tree.this 51)) (word 80) tree.end)
      ≡ at 80 calls ∷ []
  pub on_super : sites (tree.super_call 50 (word 80) (args (name 4)))
      ≡ at 4 (reads 4) ∷ at 80 calls ∷ []
  pub on_class : sites (tree.call 50 (tree.on (name 90)) (word 80) (args (name 4)))
      ≡ at 4 (reads 4) ∷ at 80 calls ∷ []
  pub arguments_in_order :
      sites (tree.call 50 tree.no_target (word 80) (tree.more (name 3) (args (name 4))))
      ≡ at 3 (reads 3) ∷ at 4 (reads 4) ∷ at 80 calls ∷ []

-- `new`: the allocation, the arguments, `Call` at `new`; `super(..)`: the arguments, `Call` at
-- `super` or at the constructor's name
pub record CreationSites : Type 0 where
  pub creation : sites (tree.create 50 class_type (args (name 4)))
      ≡ at 50 creates ∷ at 4 (reads 4) ∷ at 50 calls ∷ []
  pub written_super : sites_of (constructor_way X 60 (Some (args (name 4))) (only (reading 3)))
      ≡ at 4 (reads 4) ∷ at 60 calls ∷ at 3 (reads 3) ∷ []
  pub implicit_super : sites_of (constructor_way X 61 None statement.end) ≡ at 61 calls ∷ []

-- the lock, `Check` unless it is never null, `Enter`, the block, `Exit` at its last brace; a
-- synchronized method is entered at its name and exited at its last brace
pub record MonitorSites : Type 0 where
  pub of_statement : stmt_sites (statement.sync 50 (name 3) (only (reading 4)))
      ≡ at 3 (reads 3) ∷ at 50 checks ∷ at 50 enters ∷ at 4 (reads 4) ∷ at 150 exits ∷ []
  pub never_null_lock : stmt_sites (statement.sync 50 (tree.this 51) statement.end)
      ≡ at 50 enters ∷ at 150 exits ∷ []
  pub synchronized_method : sites_of (method_way X 50 (record { mark = 50; word = Synchronized }
      ∷ []) (word 60) (only (reading 4))) ≡ at 60 enters ∷ at 4 (reads 4) ∷ at 150 exits ∷ []
  pub other_method : sites_of (method_way X 50 (record { mark = 50; word = Static } ∷ [])
      (word 60) (only (reading 4))) ≡ at 4 (reads 4) ∷ []

-- `while`: `Loop`, the condition, the body; of the two branches of `if` both
pub record StatementSites : Type 0 where
  pub of_loop : stmt_sites (statement.loop 50 (name 3) (reading 4))
      ≡ at 50 loops ∷ at 3 (reads 3) ∷ at 4 (reads 4) ∷ []
  pub of_branch : stmt_sites (statement.branch 50 (name 3) (reading 4)
      (statement.otherwise (reading 5))) ≡ at 3 (reads 3) ∷ at 4 (reads 4) ∷ at 5 (reads 5) ∷ []
  pub of_return : stmt_sites (statement.return 50 (Some (name 3))) ≡ at 3 (reads 3) ∷ []
  pub of_empty_return : stmt_sites (statement.return 50 None) ≡ []

-- a field's initializer: its sites, and of an instance field the store at its name, with no `Check`
pub record InitializerSites : Type 0 where
  pub of_instance : sites_of (field_way X false 25 (word 26) (Some (name 24)))
      ≡ at 24 (loads 24) ∷ at 26 (stores 25) ∷ []
  pub of_static : sites_of (field_way X true 25 (word 26)
      (Some (tree.create 50 class_type tree.end))) ≡ at 50 creates ∷ at 50 calls ∷ []
  pub of_none : sites_of (field_way X false 25 (word 26) None) ≡ []

-- what isn't bound: no access and no `Check`; its operand's sites stand; a call has those of a
-- bound one
pub record UnboundSites : Type 0 where
  pub unbound_name : sites (name 41) ≡ []
  pub unbound_field : sites (dot (name 3) 41) ≡ at 3 (reads 3) ∷ []
  pub unbound_target : sites (tree.assign 50 (dot (name 3) 41) (name 4))
      ≡ at 3 (reads 3) ∷ at 4 (reads 4) ∷ []
  pub unbound_op : sites (tree.compound 50 Div (name 41) (name 4))
      ≡ at 4 (reads 4) ∷ at 4 checks ∷ []
  pub call_on_unbound : sites (tree.call 50 (tree.on (name 41)) (word 80) tree.end)
      ≡ at 80 checks ∷ at 80 calls ∷ []

pub record SiteCases : Type 0 where
  pub of_locals : LocalSites
  pub of_fields : FieldSites
  pub without_check : FieldSitesWithoutCheck
  pub of_division : DivisionSites
  pub of_casts : CastSites
  pub of_calls : CallSites
  pub of_creation : CreationSites
  pub of_monitors : MonitorSites
  pub of_statements : StatementSites
  pub of_initializers : InitializerSites
  pub of_what_is_unbound : UnboundSites
