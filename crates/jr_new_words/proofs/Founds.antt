-- The declaration that is found.
use Rattle.std.proofs.Common.{◌≡◌, Some, None, refl, ap, ◌∙◌}
use Rattle.jr_table.specs.Keys.{ClassKey}
use Rattle.jr_table.specs.Decls.{Decl, class_decl, field_decl, method_decl, constructor_decl, local_decl}
use Rattle.jr_table.specs.Found.{Found, one, nothing, many, not_accessible, from_static}
use Rattle.jr_table.specs.Meanings.{class_found}
use Rattle.jr_new_words.specs.Finding.{decl_found, something}

pub class_is : (f : Found) (k : ClassKey) → Some k ≡ class_found f → f ≡ one (class_decl k)
class_is (one (class_decl c)) k e = let same : c ≡ k = cc in ap (λ x. one (class_decl x)) same
class_is (one (field_decl c)) k e = absurd cc
class_is (one (method_decl c)) k e = absurd cc
class_is (one (constructor_decl c)) k e = absurd cc
class_is (one (local_decl c)) k e = absurd cc
class_is nothing k e = absurd cc
class_is (many a b) k e = absurd cc
class_is (not_accessible a) k e = absurd cc
class_is (from_static a) k e = absurd cc

pub no_class : (f : Found) → None ≡ class_found f → (k : ClassKey) → f ≡ one (class_decl k) → ⊥
no_class f none k is = let e : None ≡ Some k = none ∙ ap class_found is in cc

pub decl_is : (f : Found) (d : Decl) → Some d ≡ decl_found f → f ≡ one d
decl_is (one c) d e = let same : c ≡ d = cc in ap one same
decl_is nothing d e = absurd cc
decl_is (many a b) d e = absurd cc
decl_is (not_accessible a) d e = absurd cc
decl_is (from_static a) d e = absurd cc

pub no_decl : (f : Found) → None ≡ decl_found f → (d : Decl) → f ≡ one d → ⊥
no_decl f none d is = let e : None ≡ Some d = none ∙ ap decl_found is in cc

pub nothing_is : (f : Found) → None ≡ something f → f ≡ nothing
nothing_is (one d) e = absurd cc
nothing_is nothing e = refl
nothing_is (many a b) e = absurd cc
nothing_is (not_accessible a) e = absurd cc
nothing_is (from_static a) e = absurd cc

pub something_is : (f g : Found) → Some g ≡ something f → f ≡ g
something_is (one d) g e = cc
something_is nothing g e = absurd cc
something_is (many a b) g e = cc
something_is (not_accessible a) g e = cc
something_is (from_static a) g e = cc

pub not_nothing : (f g : Found) → Some g ≡ something f → f ≡ nothing → ⊥
not_nothing f g e is = let no : Some g ≡ None = e ∙ ap something is in cc
