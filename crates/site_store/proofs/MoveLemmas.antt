-- What the statements on the table of kept rows do.
use Rattle.std.proofs.Common.{◌≡◌, inr, ℕ, List, [], ◌∷◌, map, codes, false, true, None, Ok, All, Option, refl, sym, ap, subst, ◌∙◌, if◌then◌else◌}
use Rattle.std.specs.List.Sorted.{IsPermutation}
use Rattle.std.proofs.lemmas.List.Sorted.{All-permutation}
use Rattle.sqlite.specs.declared.types.Value.TheVariants.{Null}
use Rattle.sqlite.specs.Order.{Row}
use Rattle.sqlite.specs.Term.{Term, lit, col}
use Rattle.sqlite.specs.Program.{overlay}
use Rattle.sqlite.specs.Query.{IsAnswer, Query}
use Rattle.sqlite.specs.Collation.{Collation}
use Rattle.sqlite.specs.Collation.TheVariants.{Binary}
use Rattle.sqlite.specs.Source.TheVariants.{Query as Selected}
use Rattle.sqlite.specs.Command.TheVariants.{Insert, Delete, Select, CreateTable}
use Rattle.sqlite.specs.Compile.{table_defined_by}
use Rattle.sqlite.specs.Edit.{edit_of, are_fresh, put_all}
use Rattle.sqlite.specs.Rowids.TheVariants.{Chosen}
use Rattle.sqlite.specs.Change.{created, next_tree, KeepsRows}
use Rattle.sqlite.specs.Does.{Tally, Does, lacks_sequence}
use Rattle.sqlite.specs.Rows.{Written}
use Rattle.sqlite.specs.Tree.{Trees}
use Rattle.sqlite_tied.specs.Compute.{everything}
use Rattle.sqlite.specs.Listing.{understood, reads_listing}
use Rattle.sqlite.specs.Effect.{Database}
use Rattle.sqlite.specs.Schema.{Schema}
use Rattle.sqlite.specs.State.{State, mode_of, Executes, Shown, Shows, CommitsBy, CommitsShowing, IsUnchanged}
use Rattle.sqlite.specs.declared.run.Mode.{Mode}
use Rattle.sqlite.proofs.Callers.{IsPlain, command_of, statement_of, runs_as, reads_as, never_commits}
use Rattle.stored_steps.specs.Stored.{Stored}
use Rattle.site_store.specs.Steps.{Lists, kept_schema, kept_table, row_table, shown, step_schema}
use Rattle.site_store.proofs.StepLemmas.{commits_of, commits_write, one_differs, plain_store, same_shown, same_value, shown_names, shown_query, went, whole_answer, whole_query, zero_differs}
use Rattle.site_store.proofs.KeptLemmas.{are_step_rows, copied, copies_are, copies_numbered, IsGiven, none_left, stored_copy}

-- ---- the table of kept rows is made

abbrev pub keep_text : List ℕ
keep_text = codes "CREATE TABLE kept (position INTEGER PRIMARY KEY, pass INTEGER NOT NULL, kind INTEGER NOT NULL, body BLOB NOT NULL, words TEXT NOT NULL) STRICT"

keep_is : (command_of (understood step_schema keep_text) ≡ CreateTable) × (statement_of keep_text (understood step_schema keep_text) ≡ keep_text) × (table_defined_by keep_text ≡ Ok (row_table (codes "kept") 0))
unfolding understood everything
keep_is = (refl, refl, refl)

keep_plain : IsPlain (understood step_schema keep_text)
unfolding understood everything
keep_plain = (refl, refl)

-- a store begins to keep rows: it has none yet, and its steps stay
pub record BeginsToKeep (old new : Database) : Type 0 where
  pub schema : new.schema ≡ kept_schema
  pub steps : new.trees 0 ≡ old.trees 0
  pub empty : new.trees 1 ≡ []

does_keep : (limit : Option ℕ) (mode : Mode) (db : Database) (text : List ℕ) (tally : Tally) (after : Database) → db.schema ≡ step_schema → text ≡ keep_text
    → Does limit mode [] db text None CreateTable (Ok (tally, after)) → BeginsToKeep db after
does_keep limit mode db text tally after has same_text h =
    let all = went (subst (λ t. Does limit mode [] db t None CreateTable (Ok (tally, after))) same_text h) in
    let first = went all.1 in
    let made = first.1 in
    let both : Ok made.table ≡ Ok (row_table (codes "kept") 0) = sym made.defined ∙ keep_is.2 in
    let same : made.table ≡ row_table (codes "kept") 0 = cc in
    let schema : first.0.schema ≡ kept_schema = made.is ∙ ap (λ s. created s made.table) has ∙ ap (created step_schema) same in
    let plain : lacks_sequence first.0.schema ≡ false = ap lacks_sequence schema in
    let now : after ≡ first.0 = ap (λ (p : Tally × Database). p.1) (same_value all.2) ∙ same_value (rw plain at first.2) in
    record {
      schema = ap (λ (d : Database). d.schema) now ∙ schema;
      steps = ap (λ (d : Database). d.trees 0) now ∙ (subst (λ (s : Schema). KeepsRows s.tables db.trees first.0.trees) has made.others).0;
      empty = ap (λ (d : Database). d.trees 1) now ∙ subst (λ s. first.0.trees (next_tree s) ≡ []) has made.empty;
    }

pub keeps : (old new : State) (count : ℕ) → old.now.schema ≡ step_schema → Executes keep_text [] old new (Ok count)
    → BeginsToKeep old.now new.now × Shows old new new.now (if old.in_transaction then old.committed else new.now) old.in_transaction
keeps old new count has h =
    let w = runs_as keep_text [] old new step_schema has CreateTable keep_is.0 keep_plain count h in
    (does_keep old.step_limit (mode_of old) old.now (statement_of keep_text (understood step_schema keep_text)) w.tally new.now has keep_is.1 w.changed, w.shown)

-- what it may commit has the same steps
pub commits_keep : (s : State) (db : Trees) → s.now.schema ≡ step_schema → CommitsBy keep_text [] s db → db 0 ≡ s.now.trees 0
commits_keep s db has h =
    let text = statement_of keep_text (understood step_schema keep_text) in
    let writes = commits_write s CreateTable text [] db (λ e. cc) (λ name e. cc) (commits_of step_schema keep_text CreateTable keep_is.0 keep_plain s [] db has h) in
    ap (λ (t : Trees). t 0) writes.5 ∙ (does_keep s.step_limit (mode_of s) s.now text writes.1 writes.2 has keep_is.1 writes.3).steps

-- ---- rows are copied

abbrev pub copy_text : List ℕ
copy_text = codes "INSERT INTO kept (position, pass, kind, body, words) SELECT position, pass, kind, body, words FROM step"

abbrev copy_terms : List Term
copy_terms = col 1 0 ∷ lit Null ∷ col 1 2 ∷ col 1 3 ∷ col 1 4 ∷ col 1 5 ∷ []

abbrev copy_collations : List Collation
copy_collations = Binary ∷ Binary ∷ Binary ∷ Binary ∷ Binary ∷ Binary ∷ []

abbrev copy_query : Query
copy_query = whole_query 0 copy_terms copy_collations []

copy_is : command_of (understood kept_schema copy_text) ≡ Insert 1 (Selected (record { lets = []; body = copy_query }))
unfolding understood everything
copy_is = refl

copy_plain : IsPlain (understood kept_schema copy_text)
unfolding understood everything
copy_plain = (refl, refl)

-- the steps stay, and the kept rows get copies of their rows
pub record Copies (old new : Database) : Type 0 where
  pub schema : new.schema ≡ kept_schema
  pub steps : new.trees 0 ≡ old.trees 0
  pub rows : List Row
  pub are : IsPermutation (map copied (old.trees 0)) rows
  pub copies : (first : ℕ) (list : List Stored) → Lists (old.trees 0) first list → (are_fresh (old.trees 1) (map stored_copy rows) ≡ true) × (new.trees 1 ≡ put_all (old.trees 1) (map stored_copy rows))

given_each : (steps rows : List Row) → IsPermutation (map copied steps) rows → (first : ℕ) (list : List Stored) → Lists steps first list → All IsGiven rows
given_each steps rows are first list lists = All-permutation IsGiven (map copied steps) rows are (copies_are steps (are_step_rows steps first list lists))

-- the rows that are put are copies
copied_news : (trees : Trees) (rows : List Row) → IsPermutation (map copied (trees 0)) rows → (first : ℕ) (list : List Stored) → Lists (trees 0) first list
    → (edit_of trees kept_table [] Chosen 0 rows).news ≡ map stored_copy rows
copied_news trees rows are first list lists = copies_numbered rows (trees 1) (given_each (trees 0) rows are first list lists)

does_copy : (limit : Option ℕ) (mode : Mode) (db : Database) (text : List ℕ) (tally : Tally) (after : Database) → db.schema ≡ kept_schema
    → Does limit mode [] db text None (Insert 1 (Selected (record { lets = []; body = copy_query }))) (Ok (tally, after)) → Copies db after
does_copy limit mode db text tally after has h =
    let trees = db.trees in
    let command = Insert 1 (Selected (record { lets = []; body = copy_query })) in
    let done = went (subst (λ schema. Does limit mode [] (record db { schema = schema }) text None command (Ok (tally, after))) has h) in
    let now = ap (λ (p : Tally × Database). p.1) (same_value (went (went done.2).2).2) in
    let given = went done.1 in
    let written = went (went given.2).2 in
    let counted = went written.2 in
    let same : done.0.trees ≡ written.0 = ap (λ (it : Written). it.trees) (same_value counted.2) ∙ same_value counted.1 in
    let put = edit_of trees kept_table [] Chosen 0 given.0 in
    let plain = plain_store kept_schema (inr refl) in
    let step = plain.applies mode.keys trees written.0 put written.1 in
    let are = whole_answer 0 copy_terms copy_collations [] trees [] given.0 refl (given.1.answer Null) in
    record {
      schema = ap (λ (d : Database). d.schema) now;
      steps = ap (λ (d : Database). d.trees 0) now ∙ ap (λ (t : Trees). t 0) same ∙ step.others 0 zero_differs (plain.unindexed 0);
      rows = given.0;
      are = are;
      copies = λ first list lists.
          let news = copied_news trees given.0 are first list lists in (
            subst (λ all. are_fresh (trees 1) all ≡ true) news step.fresh,
            ap (λ (d : Database). d.trees 1) now ∙ ap (λ (t : Trees). t 1) same ∙ step.rows ∙ ap (put_all (trees 1)) news,
          );
    }

pub copies : (old new : State) (count : ℕ) → old.now.schema ≡ kept_schema → Executes copy_text [] old new (Ok count)
    → Copies old.now new.now × Shows old new new.now (if old.in_transaction then old.committed else new.now) old.in_transaction
copies old new count has h =
    let w = runs_as copy_text [] old new kept_schema has _ copy_is copy_plain count h in
    (does_copy old.step_limit (mode_of old) old.now (statement_of copy_text (understood kept_schema copy_text)) w.tally new.now has w.changed, w.shown)

pub copy_outside : (s : State) (db : Trees) → s.now.schema ≡ kept_schema → CommitsBy copy_text [] s db → s.in_transaction ≡ false
copy_outside s db has h =
    (commits_write s (Insert 1 (Selected (record { lets = []; body = copy_query }))) (statement_of copy_text (understood kept_schema copy_text)) [] db (λ e. cc) (λ name e. cc)
    (commits_of kept_schema copy_text _ copy_is copy_plain s [] db has h)).0

-- ---- rows are deleted

abbrev pub delete_text : List ℕ
delete_text = codes "DELETE FROM step"

abbrev delete_query : Query
delete_query = whole_query 0 (col 1 0 ∷ []) [] []

delete_is : command_of (understood kept_schema delete_text) ≡ Delete 0 (record { lets = []; body = delete_query })
unfolding understood everything
delete_is = refl

delete_plain : IsPlain (understood kept_schema delete_text)
unfolding understood everything
delete_plain = (refl, refl)

-- no step is left, and the kept rows stay
pub record Deletes (old new : Database) : Type 0 where
  pub schema : new.schema ≡ kept_schema
  pub steps : (first : ℕ) (list : List Stored) → Lists (old.trees 0) first list → new.trees 0 ≡ []
  pub kept : new.trees 1 ≡ old.trees 1

does_delete : (limit : Option ℕ) (mode : Mode) (db : Database) (text : List ℕ) (tally : Tally) (after : Database) → db.schema ≡ kept_schema
    → Does limit mode [] db text None (Delete 0 (record { lets = []; body = delete_query })) (Ok (tally, after)) → Deletes db after
does_delete limit mode db text tally after has h =
    let trees = db.trees in
    let command = Delete 0 (record { lets = []; body = delete_query }) in
    let done = went (subst (λ schema. Does limit mode [] (record db { schema = schema }) text None command (Ok (tally, after))) has h) in
    let now = ap (λ (p : Tally × Database). p.1) (same_value (went (went done.2).2).2) in
    let given = went done.1 in
    let written = went given.2 in
    let same : done.0.trees ≡ written.0 = ap (λ (it : Written). it.trees) (same_value written.2) in
    let plain = plain_store kept_schema (inr refl) in
    let step = plain.applies mode.keys trees written.0 _ written.1 in
    let are = whole_answer 0 (col 1 0 ∷ []) [] [] trees [] given.0 refl (given.1.answer Null) in
    record {
      schema = ap (λ (d : Database). d.schema) now;
      steps = λ first list lists. ap (λ (d : Database). d.trees 0) now ∙ ap (λ (t : Trees). t 0) same ∙ step.rows ∙ none_left (trees 0) given.0 first list lists are;
      kept = ap (λ (d : Database). d.trees 1) now ∙ ap (λ (t : Trees). t 1) same ∙ step.others 1 one_differs (plain.unindexed 1);
    }

pub deletes : (old new : State) (count : ℕ) → old.now.schema ≡ kept_schema → Executes delete_text [] old new (Ok count)
    → Deletes old.now new.now × Shows old new new.now (if old.in_transaction then old.committed else new.now) old.in_transaction
deletes old new count has h =
    let w = runs_as delete_text [] old new kept_schema has _ delete_is delete_plain count h in
    (does_delete old.step_limit (mode_of old) old.now (statement_of delete_text (understood kept_schema delete_text)) w.tally new.now has w.changed, w.shown)

pub delete_outside : (s : State) (db : Trees) → s.now.schema ≡ kept_schema → CommitsBy delete_text [] s db → s.in_transaction ≡ false
delete_outside s db has h =
    (commits_write s (Delete 0 (record { lets = []; body = delete_query })) (statement_of delete_text (understood kept_schema delete_text)) [] db (λ e. cc) (λ name e. cc)
    (commits_of kept_schema delete_text _ delete_is delete_plain s [] db has h)).0

-- ---- kept rows are read

abbrev pub kept_text : List ℕ
kept_text = codes "SELECT position, pass, kind, body FROM kept ORDER BY position"

kept_is : (command_of (understood kept_schema kept_text) ≡ Select (record { lets = []; body = shown_query 1 }) shown_names) × (reads_listing kept_schema kept_text ≡ false)
unfolding understood everything
kept_is = (refl, refl)

kept_plain : IsPlain (understood kept_schema kept_text)
unfolding understood everything
kept_plain = (refl, refl)

pub kept_answer : (old new : State) (rows : List Row) → old.now.schema ≡ kept_schema → Shown kept_text [] old new rows → IsAnswer (shown_query 1) (overlay old.now.trees []) [] rows
kept_answer old new rows has h = (reads_as kept_text [] old new kept_schema has _ kept_is.0 kept_plain kept_is.1 rows h).answer Null

pub finds_kept : (old new : State) (rows : List Row) → old.now.schema ≡ kept_schema → Shown kept_text [] old new rows → IsPermutation (map shown (old.now.trees 1)) rows
finds_kept old new rows has h = whole_answer 1 _ _ _ old.now.trees [] rows refl (kept_answer old new rows has h)

pub finds_kept_same : (old new : State) (rows : List Row) → old.now.schema ≡ kept_schema → Shown kept_text [] old new rows → IsUnchanged old new
finds_kept_same old new rows has h = same_shown kept_text old new rows (subst (λ s. IsPlain (understood s kept_text)) (sym has) kept_plain) h

pub commits_no_kept : (s : State) (db : Trees) → s.now.schema ≡ kept_schema → CommitsShowing kept_text [] s db → ⊥
commits_no_kept s db has h = never_commits kept_text [] s db (subst (λ sch. IsPlain (understood sch kept_text)) (sym has) kept_plain) h
