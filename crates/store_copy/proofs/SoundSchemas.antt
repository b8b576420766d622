-- The trees of a store obey one schema.
use Rattle.std.proofs.Common.{◌≡◌, ◌∙◌, ◌+◌, inl, inr, ℕ, List, [], ◌∷◌, Ok, refl, sym, ap, ap₂, subst, arith}
use Rattle.std.specs.List.{AllZip, filter}
use Rattle.sqlite.specs.Compile.{table_defined_by}
use Rattle.sqlite.specs.Order.{Row}
use Rattle.sqlite.specs.Schema.{Schema}
use Rattle.sqlite.specs.Table.{Table}
use Rattle.sqlite.specs.Tree.{Trees}
use Rattle.sqlite_catalog.specs.Listing.{IsIndexRow, IsSound, IsTableRow, IsViewRow, is_index_row, is_table_row, is_view_row}
use Rattle.sqlite_schema.specs.declared.schema.Index.{Index}
use Rattle.sqlite_schema.specs.declared.schema.View.{View}
use Rattle.sqlite_trees.specs.Objects.{catalog_tree}
use Rattle.site_store.specs.Steps.{IsStoreSchema}

-- two lists that match the same list are equal, if only one element matches another
same_zip : {A B : Type 0} (R : A → B → Type 0) → ((a : A) (x y : B) → R a x → R a y → x ≡ y) → (all : List A) (xs ys : List B) → AllZip R all xs → AllZip R all ys → xs ≡ ys
same_zip R one [] [] [] p q = refl
same_zip R one [] [] (y ∷ ys) p q = absurd q
same_zip R one [] (x ∷ xs) ys p q = absurd p
same_zip R one (a ∷ all) [] ys p q = absurd p
same_zip R one (a ∷ all) (x ∷ xs) [] p q = absurd q
same_zip R one (a ∷ all) (x ∷ xs) (y ∷ ys) p q = ap₂ (λ z zs. z ∷ zs) (one a x y p.0 q.0) (same_zip R one all xs ys p.1 q.1)

-- no element matches where none is
none_zip : {A B : Type 0} (R S : A → B → Type 0) (all : List A) (xs : List B) → AllZip R all [] → AllZip S all xs → xs ≡ []
none_zip R S [] [] p q = refl
none_zip R S [] (x ∷ xs) p q = absurd q
none_zip R S (a ∷ all) xs p q = absurd p

-- a row describes one table
one_table : (row : Row) (a b : Table) → IsTableRow row a → IsTableRow row b → a ≡ b
one_table row a b p q =
    let ids = sym p.described.id ∙ q.described.id in
    let next : a.tree + 1 ≡ b.tree + 1 = cc in
    let tree : a.tree ≡ b.tree = omega arith in
    let texts = sym p.sql_is ∙ q.sql_is in
    let sql : p.sql ≡ q.sql = cc in
    let defined = sym p.defined.1 ∙ subst (λ (text : List ℕ). table_defined_by text ≡ Ok q.defined.0) (sym sql) q.defined.1 in
    let made : p.defined.0 ≡ q.defined.0 = cc in
    p.defined.2 ∙ (ap₂ (λ (m : Table) (t : ℕ). record m { tree = t }) made tree ∙ sym q.defined.2)

-- a schema is its lists
same_schema : (a b : Schema) → b.tables ≡ a.tables → b.indexes ≡ a.indexes → b.views ≡ a.views → b ≡ a
same_schema a b tables indexes views =
    ap (λ (ts : List Table). record { tables = ts; indexes = b.indexes; views = b.views }) tables
    ∙ (ap (λ (is : List Index). record { tables = a.tables; indexes = is; views = b.views }) indexes ∙ ap (λ (vs : List View). record { tables = a.tables; indexes = a.indexes; views = vs }) views)

-- a store has no index
no_indexes : (schema : Schema) → IsStoreSchema schema → schema.indexes ≡ []
no_indexes schema (inl is) = ap (λ (s : Schema). s.indexes) is
no_indexes schema (inr is) = ap (λ (s : Schema). s.indexes) is

-- and no view
no_views : (schema : Schema) → IsStoreSchema schema → schema.views ≡ []
no_views schema (inl is) = ap (λ (s : Schema). s.views) is
no_views schema (inr is) = ap (λ (s : Schema). s.views) is

-- trees that obey the schema of a store obey no other
pub sound_once : (a b : Schema) (db : Trees) → IsStoreSchema a → IsSound a db → IsSound b db → b ≡ a
sound_once a b db store p q =
    let objects = db catalog_tree in
    let old = p.lists.listed in
    let new = q.lists.listed in
    let indexes = none_zip (IsIndexRow a.tables) (IsIndexRow b.tables) (filter is_index_row objects) b.indexes (rw (no_indexes a store) at old.indexes) new.indexes in
    let views = none_zip IsViewRow IsViewRow (filter is_view_row objects) b.views (rw (no_views a store) at old.views) new.views in
    same_schema a b (same_zip IsTableRow one_table (filter is_table_row objects) b.tables a.tables new.tables old.tables)
    (indexes ∙ sym (no_indexes a store)) (views ∙ sym (no_views a store))
