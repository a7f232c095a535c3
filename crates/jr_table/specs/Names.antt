-- The names of declaration faults and of rules.
use Rattle.std.specs.Prelude.{ℕ, List, codes}
use Rattle.jr_table.specs.declared.kinds.DeclKind.{DeclKind}
use Rattle.jr_table.specs.declared.kinds.DeclKind.TheVariants as kind
use Rattle.jr_table.specs.declared.rules.Rule.{Rule}
use Rattle.jr_table.specs.declared.rules.Rule.TheVariants as rule

abbrev pub kind_name : DeclKind → List ℕ
kind_name kind.PackageDiffers = codes "PackageDiffers"
kind_name kind.PreludeName = codes "PreludeName"
kind_name kind.TwiceClass = codes "TwiceClass"
kind_name kind.NoSuperclass = codes "NoSuperclass"
kind_name kind.Cycle = codes "Cycle"
kind_name kind.NoTy = codes "NoTy"
kind_name kind.TwiceMember = codes "TwiceMember"
kind_name kind.MemberTypeName = codes "MemberTypeName"
kind_name kind.BadModifiers = codes "BadModifiers"
kind_name kind.StaticInit = codes "StaticInit"

abbrev pub rule_name : Rule → List ℕ
rule_name rule.NoVariable = codes "NoVariable"
rule_name rule.NoType = codes "NoType"
rule_name rule.NoMethod = codes "NoMethod"
rule_name rule.Ambiguous = codes "Ambiguous"
rule_name rule.Private = codes "Private"
rule_name rule.StaticContext = codes "StaticContext"
rule_name rule.StaticThroughValue = codes "StaticThroughValue"
rule_name rule.InstanceThroughType = codes "InstanceThroughType"
rule_name rule.TypeMismatch = codes "TypeMismatch"
rule_name rule.Operands = codes "Operands"
rule_name rule.BadCast = codes "BadCast"
rule_name rule.FinalAssigned = codes "FinalAssigned"
rule_name rule.Redeclared = codes "Redeclared"
rule_name rule.Forward = codes "Forward"
rule_name rule.VoidValue = codes "VoidValue"
rule_name rule.ReturnForm = codes "ReturnForm"
rule_name rule.MissingReturn = codes "MissingReturn"
rule_name rule.Unreachable = codes "Unreachable"
rule_name rule.ConstantCondition = codes "ConstantCondition"
rule_name rule.Override = codes "Override"
rule_name rule.SuperCtor = codes "SuperCtor"
rule_name rule.FinalClass = codes "FinalClass"
rule_name rule.ObjectMethod = codes "ObjectMethod"
rule_name rule.Deep = codes "Deep"
