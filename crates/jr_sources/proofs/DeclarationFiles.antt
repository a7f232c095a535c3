-- A fault of declarations stands in one of the files.
use Rattle.std.proofs.Common.{◌≡◌, ℕ, zero, suc, ◌+◌, ◌<◌, ◌≤◌, List, [], ◌∷◌, ◌++◌, map, length, refl, sym, ap, subst, ◌∙◌, arith, inl, inr}
use Rattle.std.specs.Prelude.{◌⊎◌, Option, Some, None, slice_get}
use Rattle.std.proofs.lemmas.Option.{slice_get_within, same_Some, none-some}
use Rattle.jr_text.specs.declared.spans.Span.{Span}
use Rattle.jr_ast.specs.Tree as tree
use Rattle.jr_ast.specs.MemberTree as syntax
use Rattle.jr_table.specs.declared.kinds.DeclKind.{DeclKind}
use Rattle.jr_table.specs.declared.kinds.DeclKind.TheVariants as kind
use Rattle.jr_table.specs.DeclaredItems.{Item, DeclaredItem, declarations_from, declarations_of, classes_declarations}
use Rattle.jr_table.specs.Faults.{Place, PackageLine, HasFault}
use Rattle.jr_build_declared.specs.Packages.{line_of, lines_of}
use Rattle.jr_program_laws.specs.FileParts.{begins}
use Rattle.jr_sources.specs.FirstFault.{package_line, package_lines}

-- ---- declarations

file_of : (file n : ℕ) (items : List Item) (rest : List DeclaredItem) (i : ℕ) (s : DeclaredItem) → slice_get (map (λ x. record { file = file; item = x }) items ++ rest) i ≡ Some s
    → file < n → ((j : ℕ) → slice_get rest j ≡ Some s → s.file < n) → s.file < n
file_of file n [] rest i s e lt f = f i e
file_of file n (x ∷ xs) rest zero s e lt f = subst (λ (t : DeclaredItem). t.file < n) (same_Some (record { file = file; item = x }) s e) lt
file_of file n (x ∷ xs) rest (suc i) s e lt f = file_of file n xs rest i s e lt f

from_file : (file : ℕ) (us : List (syntax.Unit Span)) (i : ℕ) (s : DeclaredItem) → slice_get (declarations_from begins file us) i ≡ Some s → s.file < file + length us
from_file file [] i s e = absurd (none-some s e)
from_file file (u ∷ us) i s e =
    file_of file (file + length (u ∷ us)) (classes_declarations begins (begins u.mark 0) u.classes) (declarations_from begins (suc file) us) i s e (omega arith)
    (λ j g. let lt = from_file (suc file) us j s g in omega (arith, lt))

pub declaration_file : (us : List (syntax.Unit Span)) (i : ℕ) (s : DeclaredItem) → slice_get (declarations_of begins us) i ≡ Some s → s.file < length us
unfolding declarations_of
declaration_file us i s e = let lt = from_file 0 us i s e in omega (arith, lt)

-- ---- package lines

lines_same : (u : syntax.Unit Span) (w : ℕ) → package_line u w ≡ line_of w u.package_name
lines_same u w = by u.package_name
  where
    by : (ns : List (tree.Word Span)) → package_line (record { mark = u.mark; package_name = ns; classes = u.classes }) w ≡ line_of w ns
    by [] = refl
    by (n ∷ ns) = refl

pub lines_are : (us : List (syntax.Unit Span)) (ws : List ℕ) → package_lines us ws ≡ lines_of ws us
lines_are [] [] = refl
lines_are [] (w ∷ ws) = refl
lines_are (u ∷ us) [] = refl
lines_are (u ∷ us) (w ∷ ws) = let a = lines_same u w in let b = lines_are us ws in λ i. a i ∷ b i

lines_count : (us : List (syntax.Unit Span)) (ws : List ℕ) (i : ℕ) (l : Option PackageLine) → slice_get (package_lines us ws) i ≡ Some l → i < length us
lines_count [] ws i l e = absurd (none-some l e)
lines_count (u ∷ us) [] i l e = absurd (none-some l e)
lines_count (u ∷ us) (w ∷ ws) zero l e = omega arith
lines_count (u ∷ us) (w ∷ ws) (suc i) l e = let lt = lines_count us ws i l e in omega (arith, lt)

-- ---- faults

module _ (us : List (syntax.Unit Span)) (ws : List ℕ) where
  pub fault_file : (k : DeclKind) (p : Place) → HasFault (package_lines us ws) (declarations_of begins us) k p → p.file < length us
  fault_file kind.PackageDiffers p h = lines_count us ws p.file h.1 h.3
  fault_file kind.PreludeName p h = declaration_file us h.0 _ h.2.stands
  fault_file kind.TwiceClass p h = declaration_file us h.0 _ h.2.stands
  fault_file kind.NoSuperclass p h = declaration_file us h.0 _ h.4.stands
  fault_file kind.Cycle p h = declaration_file us h.0 _ h.3.stands
  fault_file kind.NoTy p h = declaration_file us h.0 _ h.5.stands
  fault_file kind.TwiceMember p h = declaration_file us h.0 _ h.2.stands
  fault_file kind.MemberTypeName p h = declaration_file us h.0 _ h.5.stands
  fault_file kind.BadModifiers p h = declaration_file us h.0 _ h.2.stands
  fault_file kind.StaticInit p h = declaration_file us h.0 _ h.2.stands
