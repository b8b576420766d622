-- The rows of a database to which the bytes of two files recover.
use Rattle.std.proofs.Common.{◌≡◌, ◌∙◌, inl, inr, ℕ, List, Result, Ok, Err, IfErr, IfOk, refl, sym, ap, subst, subst₂}
use Rattle.sqlite.specs.Effect.{Database}
use Rattle.sqlite.specs.Files.{AreFoundIn}
use Rattle.sqlite.specs.Schema.{Schema}
use Rattle.sqlite.specs.Start.{FindsIn}
use Rattle.sqlite.specs.State.{IsLive, Opens, State}
use Rattle.sqlite.specs.Tree.{Trees}
use Rattle.sqlite_catalog.specs.Listing.{IsSound}
use Rattle.stored_steps.specs.Stored.{Stored}
use Rattle.site_store.specs.Kept.{IsHistory}
use Rattle.site_store.specs.Steps.{IsStoreSchema, Lists, kept_schema, step_schema}
use Rattle.store_copy.specs.Copies.{AreAllRows, AreRecovered, HoldsSchema, image_of}
use Rattle.store_copy.specs.declared.store_bytes.StoreBytes.{StoreBytes}
use Rattle.store_copy.proofs.SoundSchemas.{sound_once}

-- a store that keeps rows has two tables
kept_rows : (db : Trees) (first : ℕ) (rows : List Stored) → AreAllRows kept_schema db first rows → IsHistory db first rows
kept_rows db first rows (inl p) = p.1
kept_rows db first rows (inr p) = let tables = ap (λ (s : Schema). s.tables) p.0 in cc

-- another store has one
bare_rows : (db : Trees) (first : ℕ) (rows : List Stored) → AreAllRows step_schema db first rows → Lists (db 0) first rows
bare_rows db first rows (inl p) = let tables = ap (λ (s : Schema). s.tables) p.0 in cc
bare_rows db first rows (inr p) = p.1

-- what is read of either schema is read of the schema of a store
pub all_rows : {A B : Type 0} (r : Result A B) (first : A → ℕ) (rows : A → List Stored) (schema : Schema) (db : Trees) → IsStoreSchema schema → (schema ≡ kept_schema → IfOk r (λ it. IsHistory db (first it) (rows it)))
    → (schema ≡ step_schema → IfOk r (λ it. Lists (db 0) (first it) (rows it))) → IfOk r (λ it. AreAllRows schema db (first it) (rows it))
all_rows (Ok it) first rows schema db (inl is) kept bare = inr (is, bare is)
all_rows (Ok it) first rows schema db (inr is) kept bare = inl (is, kept is)
all_rows (Err fault) first rows schema db store kept bare = tt

-- what follows of what holds at Ok
pub if_ok : {A B : Type 0} (r : Result A B) (P Q : A → Type 0) → ((it : A) → P it → Q it) → IfOk r P → IfOk r Q
if_ok (Ok it) P Q f p = f it p
if_ok (Err fault) P Q f p = tt

-- what holds of each fault holds of this one
pub of_err : {A B : Type 0} (r : Result A B) (P : B → Type 0) (fault : B) → r ≡ Err fault → IfErr r P → P fault
of_err r P fault is p = subst (λ (it : Result _ _). IfErr it P) is p

module _ (bytes : StoreBytes) (s : State) (opens : Opens s) (live : IsLive s) (finds : FindsIn (image_of bytes) s) where
  -- the trees that a connection shows obey its schema
  shown_sound : IsSound s.now.schema s.now.trees
  shown_sound = (live opens.is_open).0

  -- the bytes recover to the trees that a connection over them shows
  pub recovered : (first : ℕ) (rows : List Stored) → AreAllRows s.now.schema s.now.trees first rows → AreRecovered bytes first rows
  recovered first rows all =
      let same = ap (λ (d : Database). d.trees) opens.clean in
      record {
        schema = s.now.schema;
        db = s.now.trees;
        found = subst (AreFoundIn (image_of bytes)) (sym same) finds.reads;
        only = λ other held. same ∙ finds.holds other held;
        sound = shown_sound;
        rows_are = all;
      }

  module _ (schema : Schema) (db : Trees) (holds : HoldsSchema bytes schema db) where
    -- a connection over bytes shows the trees that they hold
    trees_are : s.now.trees ≡ db
    trees_are = ap (λ (d : Database). d.trees) opens.clean ∙ finds.holds db holds.held

    -- these trees obey the schema of the database that the bytes hold
    held_sound : IsSound schema s.now.trees
    held_sound = subst (IsSound schema) (sym trees_are) holds.sound

    -- a connection over the bytes of a store has the schema of a store
    pub shows_store : IsStoreSchema schema → IsStoreSchema s.now.schema
    shows_store store = subst IsStoreSchema (sym (sound_once schema s.now.schema s.now.trees store held_sound shown_sound)) store

    -- all rows of a connection over the bytes of a store are those that the bytes hold
    held_rows : (first : ℕ) (rows : List Stored) → IsStoreSchema schema → AreAllRows s.now.schema s.now.trees first rows → AreAllRows schema db first rows
    held_rows first rows store all =
        subst₂ (λ (it : Schema) (d : Trees). AreAllRows it d first rows) (sound_once schema s.now.schema s.now.trees store held_sound shown_sound) trees_are all

  -- of a store that keeps rows
  pub history_of : (db : Trees) (first : ℕ) (rows : List Stored) → HoldsSchema bytes kept_schema db → AreAllRows s.now.schema s.now.trees first rows → IsHistory db first rows
  history_of db first rows holds all = kept_rows db first rows (held_rows kept_schema db holds first rows (inr refl) all)

  -- of another store
  pub lists_of : (db : Trees) (first : ℕ) (rows : List Stored) → HoldsSchema bytes step_schema db → AreAllRows s.now.schema s.now.trees first rows → Lists (db 0) first rows
  lists_of db first rows holds all = bare_rows db first rows (held_rows step_schema db holds first rows (inl refl) all)
