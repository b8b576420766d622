-- What the statements do.
use Rattle.std.proofs.Common.{◌≡◌, ◌≢◌, ◌⊎◌, ⊎_elim, inl, inr, ℕ, pos, negsuc, List, [], ◌∷◌, map, codes, Bool, true, false, not, ◌&&◌, cond, None, Ok, Err, Result, OnOk, refl, sym, ap, subst, subst₂, ◌∙◌, append-nil, arith, Option, if◌then◌else◌}
use Rattle.std.specs.List.Sorted.{IsPermutation}
use Rattle.std.proofs.lemmas.List.Sorted.{IsPermutation-refl, IsPermutation-map}
use Rattle.sqlite.specs.declared.types.Value.{Value}
use Rattle.sqlite.specs.declared.types.Value.TheVariants.{Null, Int, Blob, Text}
use Rattle.sqlite.specs.Order.{Row}
use Rattle.sqlite.specs.Term.{Term, lit, col, eval_all}
use Rattle.sqlite.specs.Ops.{unary}
use Rattle.sqlite.specs.Query.{Query, inner, end, IsAnswer, output, Output}
use Rattle.sqlite_value.specs.declared.keys.Key.{Key}
use Rattle.sqlite.specs.Collation.{Collation}
use Rattle.sqlite.specs.Program.{overlay}
use Rattle.sqlite.specs.Kind.TheVariants.{Integer}
use Rattle.sqlite.specs.Source.TheVariants.{Values}
use Rattle.sqlite.specs.Command.TheVariants.{Insert, Select, CreateTable, DropTable, Begin, Commit, Release}
use Rattle.sqlite.specs.Command.{Command}
use Rattle.sqlite.specs.Compile.{table_defined_by}
use Rattle.sqlite.specs.Edit.{edit_of, edited, is_taken, are_fresh, with_rowid, without_all, Applies, Edit, IsNoIndex}
use Rattle.sqlite.specs.Cast.{cast, cast_row}
use Rattle.sqlite.specs.Rowids.TheVariants.{Chosen}
use Rattle.sqlite.specs.Change.{created, next_tree}
use Rattle.sqlite.specs.Does.{Tally, Does, OnRows, lacks_sequence}
use Rattle.sqlite.specs.Rows.{Edited, Task, Written}
use Rattle.sqlite_schema.specs.declared.schema.Keys.{Keys}
use Rattle.sqlite.specs.Tree.{Trees, put_row}
use Rattle.sqlite_tied.specs.Compute.{everything}
use Rattle.sqlite.specs.declared.error.Error.{Error}
use Rattle.sqlite.specs.Listing.{understood, reads_listing}
use Rattle.sqlite.specs.Effect.{Database}
use Rattle.sqlite.specs.Schema.{Schema}
use Rattle.sqlite.specs.State.{State, mode_of, Writes, Executes, Shown, Shows, CommitsBy, CommitsShowing, HasCleanDisk, MayCommit, MayWrite, Survives, text_of, IsUnchanged}
use Rattle.sqlite.specs.Clock.{timed}
use Rattle.sqlite.specs.declared.run.Mode.{Mode}
use Rattle.sqlite.specs.Collation.TheVariants.{Binary}
use Rattle.sqlite.proofs.Callers.{IsPlain, command_of, statement_of, runs_as, reads_as, one_step, never_commits}
use Rattle.stored_steps.specs.Stored.{Stored}
use Rattle.site_store.specs.Steps.{step_table, step_schema, kept_schema, no_schema, shown, CommitsNothing, Holds, IsStoreSchema, OnlyReads}
use Rattle.site_store.proofs.RowLemmas.{flat_map_single}

abbrev pub create_text : List ℕ
create_text = codes "CREATE TABLE step (position INTEGER PRIMARY KEY, pass INTEGER NOT NULL, kind INTEGER NOT NULL, body BLOB NOT NULL, words TEXT NOT NULL) STRICT"

abbrev pub insert_text : List ℕ
insert_text = codes "INSERT INTO step (position, pass, kind, body, words) VALUES (?1, ?2, ?3, ?4, ?5)"

abbrev pub select_text : List ℕ
select_text = codes "SELECT position, pass, kind, body FROM step ORDER BY position"

create_is : (command_of (understood no_schema create_text) ≡ CreateTable) × (statement_of create_text (understood no_schema create_text) ≡ create_text) × (table_defined_by create_text ≡ Ok step_table)
unfolding understood everything
create_is = (refl, refl, refl)

abbrev terms : List Term
terms = col 0 0 ∷ lit Null ∷ col 0 1 ∷ col 0 2 ∷ col 0 3 ∷ col 0 4 ∷ []

-- what holds of the two schemas of a store holds of its schema
pub of_store : (P : Schema → Type 0) → P step_schema → P kept_schema → (schema : Schema) → IsStoreSchema schema → P schema
of_store P bare keeps schema (inl is) = subst P (sym is) bare
of_store P bare keeps schema (inr is) = subst P (sym is) keeps

insert_is : (schema : Schema) → IsStoreSchema schema → command_of (understood schema insert_text) ≡ Insert 0 (Values terms 6)
unfolding understood everything
insert_is = of_store (λ schema. command_of (understood schema insert_text) ≡ Insert 0 (Values terms 6)) refl refl

create_plain : IsPlain (understood no_schema create_text)
unfolding understood everything
create_plain = (refl, refl)

insert_plain : (schema : Schema) → IsStoreSchema schema → IsPlain (understood schema insert_text)
unfolding understood everything
insert_plain = of_store (λ schema. IsPlain (understood schema insert_text)) (refl, refl) (refl, refl)

-- a query of all rows of a table
abbrev pub whole_query : ℕ → List Term → List Collation → List (Term × Key) → Query
whole_query tree project collations order = record {
  from = inner tree end;
  filter = [];
  group = None;
  project = project;
  distinct = false;
  collations = collations;
  order = order;
  limit = lit (Int (negsuc 0));
  offset = lit (Int (pos 0));
}

-- its rows are those of the table, in some order
pub whole_answer : (tree : ℕ) (project : List Term) (collations : List Collation) (order : List (Term × Key)) (trees : Trees) (params : Row) (rows : List Row) → overlay trees [] tree ≡ trees tree
    → IsAnswer (whole_query tree project collations order) (overlay trees []) params rows → IsPermutation (map (λ r. eval_all project (params ∷ r ∷ [])) (trees tree)) rows
whole_answer tree project collations order trees params rows found a =
    let q = whole_query tree project collations order in
    let staged : a.staged ≡ map (λ r. params ∷ r ∷ []) (trees tree) = a.grouped ∙ flat_map_single _ (overlay trees [] tree) ∙ ap (map (λ r. params ∷ r ∷ [])) found in
    let kept : map (λ (o : Output). o.1) a.kept ≡ map (λ r. eval_all project (params ∷ r ∷ [])) (trees tree) = ap (map (λ (o : Output). o.1)) (a.distinct ∙ ap (map (output q)) staged) ∙ outputs (trees tree) in
    let same = IsPermutation-map (λ (o : Output). o.1) a.kept a.ordered a.same in
    subst₂ (λ xs ys. IsPermutation xs ys) kept (sym a.shown) same
  where
    outputs : (xs : List Row) → map (λ (o : Output). o.1) (map (output (whole_query tree project collations order)) (map (λ r. params ∷ r ∷ []) xs)) ≡ map (λ r. eval_all project (params ∷ r ∷ [])) xs
    outputs [] = refl
    outputs (x ∷ xs) = ap (λ ys. eval_all project (params ∷ x ∷ []) ∷ ys) (outputs xs)

-- the query of the rows of a table, as they are shown, in the order of their positions
abbrev pub shown_query : ℕ → Query
shown_query tree = whole_query tree (col 1 0 ∷ col 1 2 ∷ col 1 3 ∷ col 1 4 ∷ []) [] ((col 1 0, record { collation = Binary; descending = false }) ∷ [])

abbrev pub shown_names : List (List ℕ)
shown_names = codes "position" ∷ codes "pass" ∷ codes "kind" ∷ codes "body" ∷ []

select_is : (schema : Schema) → IsStoreSchema schema → (command_of (understood schema select_text) ≡ Select (record { lets = []; body = shown_query 0 }) shown_names) × (reads_listing schema select_text ≡ false)
unfolding understood everything
select_is = of_store (λ schema. (command_of (understood schema select_text) ≡ Select (record { lets = []; body = shown_query 0 }) shown_names) × (reads_listing schema select_text ≡ false)) (refl, refl) (refl, refl)

select_plain : (schema : Schema) → IsStoreSchema schema → IsPlain (understood schema select_text)
unfolding understood everything
select_plain = of_store (λ schema. IsPlain (understood schema select_text)) (refl, refl) (refl, refl)

either : (b : Bool) (x : Value) → cond b x x ≡ x
either true x = refl
either false x = refl

pub cast_null : cast Integer Null ≡ Null
unfolding unary
cast_null = either _ Null

pub cast_int : (n : ℕ) → cast Integer (Int (pos n)) ≡ Int (pos n)
unfolding unary
cast_int n = either _ (Int (pos n))

-- a part that gave a value did not stop on the way
pub went : {B E R : Type 0} {b : B} {Stops : E → Type 0} → ((stop : E) × Stops stop × (Ok b ≡ Err stop)) ⊎ R → R
went (inl stopped) = absurd (let e = stopped.2 in cc)
went (inr on) = on

pub same_value : {B E : Type 0} {a b : B} → ◌≡◌ {A = Result B E} (Ok a) (Ok b) → a ≡ b
same_value e = cc

not_true : (b : Bool) → (not b && true) ≡ true → b ≡ false
not_true true h = absurd cc
not_true false h = refl

abbrev pub drop_text : List ℕ
drop_text = codes "DROP TABLE step"

drop_is : command_of (understood step_schema drop_text) ≡ DropTable 0
unfolding understood everything
drop_is = refl

drop_plain : IsPlain (understood step_schema drop_text)
unfolding understood everything
drop_plain = (refl, refl)

-- the row as it is stored
abbrev pub stored_row : ℕ → Stored → List ℕ → Row
stored_row at s words = Int (pos at) ∷ Null ∷ Int (pos s.pass) ∷ Int (pos s.kind) ∷ Blob s.bytes ∷ Text words ∷ []

abbrev pub params_of : ℕ → Stored → List ℕ → Row
params_of at s words = Int (pos at) ∷ Int (pos s.pass) ∷ Int (pos s.kind) ∷ Blob s.bytes ∷ Text words ∷ []

-- one row is put into the table of steps, whose rowid none had; schema and kept rows stay
pub record AddsTo (old new : Database) (row : Row) : Type 0 where
  pub schema : new.schema ≡ old.schema
  pub fresh : is_taken (old.trees 0) row ≡ false
  pub rows : new.trees 0 ≡ put_row row (old.trees 0)
  pub kept : new.trees 1 ≡ old.trees 1

-- no foreign key acts in a store, and no table has an index
pub record IsPlainStore (schema : Schema) : Type 0 where
  pub applies : (keys : Keys) (db next : Trees) (edit : Edit) → Edited schema keys db edit (Ok next) → Applies schema keys db edit next
  pub unindexed : (tree : ℕ) → IsNoIndex schema tree

pub plain_store : (schema : Schema) → IsStoreSchema schema → IsPlainStore schema
plain_store = of_store IsPlainStore
    (record { applies = λ keys db next edit. one_step step_schema keys db next edit refl; unindexed = λ tree. tt })
    (record { applies = λ keys db next edit. one_step kept_schema keys db next edit refl; unindexed = λ tree. tt })

pub creates : (old new : State) (r : Result ℕ Error) → old.now.schema ≡ no_schema → Executes create_text [] old new r → OnOk r ((new.now.schema ≡ step_schema) × Holds new 0 [])
creates old new (Err e) has h = tt
creates old new (Ok count) has h =
    let w = subst (λ t. Writes old new None CreateTable t [] count) create_is.1 (runs_as create_text [] old new no_schema has CreateTable create_is.0 create_plain count h) in
    let all = went w.changed in
    let first = went all.1 in
    let made = first.1 in
    let both : Ok made.table ≡ Ok step_table = sym made.defined ∙ create_is.2 in
    let same : made.table ≡ step_table = cc in
    let schema : first.0.schema ≡ step_schema = made.is ∙ ap (λ s. created s made.table) has ∙ ap (created no_schema) same in
    let plain : lacks_sequence first.0.schema ≡ false = ap lacks_sequence schema in
    let now : new.now ≡ first.0 = ap (λ (p : Tally × Database). p.1) (same_value all.2) ∙ same_value (rw plain at first.2) in
    let none : new.now.trees 0 ≡ [] = ap (λ (d : Database). d.trees 0) now ∙ subst (λ s. first.0.trees (next_tree s) ≡ []) has made.empty in
    let made_is : new.now.schema ≡ step_schema = ap (λ (d : Database). d.schema) now ∙ schema in
    (made_is, record { schema = inl made_is; rows = subst (λ rows. IsPermutation (map shown rows) []) (sym none) (IsPermutation-refl []) })

-- the row that is given is stored as it is
stored_is : (at : ℕ) (s : Stored) (words : List ℕ) (rows : List Row)
    → with_rowid Chosen rows (cast_row step_table (Int (pos at) ∷ Null ∷ Int (pos s.pass) ∷ Int (pos s.kind) ∷ Blob s.bytes ∷ Text words ∷ [])) ≡ stored_row at s words
stored_is at s words rows = rw (cast_int at, cast_int s.pass, cast_int s.kind, cast_null)

pub drops : (old new : State) (count : ℕ) → old.now.schema ≡ step_schema → Executes drop_text [] old new (Ok count) → new.now.schema ≡ no_schema
drops old new count has h =
    let w = runs_as drop_text [] old new step_schema has (DropTable 0) drop_is drop_plain count h in
    let done = subst (λ schema. Does old.step_limit (mode_of old) [] (record old.now { schema = schema }) (statement_of drop_text (understood step_schema drop_text)) None (DropTable 0) (Ok (w.tally, new.now))) has w.changed in
    let emptied = went done in
    let uncounted = went emptied.2 in
    let tested = went uncounted.2 in
    let left = went tested.2 in
    ap (λ (p : Tally × Database). p.1.schema) (same_value left.2) ∙ left.1.0

-- the tables have two trees
pub one_differs : ◌≢◌ {A = ℕ} 1 0
one_differs e = omega (arith, e)

pub zero_differs : ◌≢◌ {A = ℕ} 0 1
zero_differs e = omega (arith, e)

abbrev task_of : Option ℕ → Keys → Schema → Row → Task
task_of limit keys schema params = record { limit = limit; keys = keys; schema = schema; table = step_table; params = params }

-- a row that is given for the table of steps is put into it
does_put : (schema : Schema) → IsPlainStore schema → (limit : Option ℕ) (mode : Mode) (at : ℕ) (s : Stored) (words : List ℕ) (db : Database) (tally : Tally) (after : Database)
    → OnRows (task_of limit mode.keys schema (params_of at s words)) mode None (Insert 0 (Values terms 6)) db.trees (Ok (tally, after)) → db.schema ≡ schema → AddsTo db after (stored_row at s words)
does_put schema plain limit mode at s words db tally after h has =
    let trees = db.trees in
    let done = went h in
    let now = ap (λ (p : Tally × Database). p.1) (same_value (went (went done.2).2).2) in
    let given = went done.1 in
    let written = went (went given.2).2 in
    let counted = went written.2 in
    let same : done.0.trees ≡ written.0 = ap (λ (it : Written). it.trees) (same_value counted.2) ∙ same_value counted.1 in
    let put = edit_of trees step_table [] Chosen 0 given.0 in
    let step = plain.applies mode.keys trees written.0 put written.1 in
    let edit : edited trees put ≡ put_row (stored_row at s words) (trees 0) = ap (λ all. edited trees (edit_of trees step_table [] Chosen 0 all)) given.1.1 ∙ rw (cast_int at, cast_int s.pass, cast_int s.kind, cast_null) in
    let fresh = subst (λ all. are_fresh (trees 0) (edit_of trees step_table [] Chosen 0 all).news ≡ true) given.1.1 step.fresh in
    let cast_row_is = stored_is at s words (without_all (trees 0) []) in
    record {
      schema = ap (λ (d : Database). d.schema) now ∙ sym has;
      fresh = not_true _ (subst (λ r. are_fresh (trees 0) (r ∷ []) ≡ true) cast_row_is fresh);
      rows = ap (λ (d : Database). d.trees 0) now ∙ ap (λ (t : Trees). t 0) same ∙ step.rows ∙ edit;
      kept = ap (λ (d : Database). d.trees 1) now ∙ ap (λ (t : Trees). t 1) same ∙ step.others 1 one_differs (plain.unindexed 1);
    }

does_add : (limit : Option ℕ) (mode : Mode) (at : ℕ) (s : Stored) (words : List ℕ) (db : Database) (text : List ℕ) (tally : Tally) (after : Database) → IsStoreSchema db.schema
    → Does limit mode (params_of at s words) db text None (Insert 0 (Values terms 6)) (Ok (tally, after)) → AddsTo db after (stored_row at s words)
does_add limit mode at s words db text tally after (inl is) h =
    does_put step_schema (plain_store step_schema (inl refl)) limit mode at s words db tally after
    (subst (λ schema. Does limit mode (params_of at s words) (record db { schema = schema }) text None (Insert 0 (Values terms 6)) (Ok (tally, after))) is h) is
does_add limit mode at s words db text tally after (inr is) h =
    does_put kept_schema (plain_store kept_schema (inr refl)) limit mode at s words db tally after
    (subst (λ schema. Does limit mode (params_of at s words) (record db { schema = schema }) text None (Insert 0 (Values terms 6)) (Ok (tally, after))) is h) is

pub adds : (old new : State) (at : ℕ) (s : Stored) (words : List ℕ) (count : ℕ) → IsStoreSchema old.now.schema → Executes insert_text (params_of at s words) old new (Ok count)
    → AddsTo old.now new.now (stored_row at s words) × Shows old new new.now (if old.in_transaction then old.committed else new.now) old.in_transaction
adds old new at s words count has h =
    let schema = old.now.schema in
    let w = runs_as insert_text (params_of at s words) old new schema refl (Insert 0 (Values terms 6)) (insert_is schema has) (insert_plain schema has) count h in
    (does_add old.step_limit (mode_of old) at s words old.now (statement_of insert_text (understood schema insert_text)) w.tally new.now has w.changed, w.shown)

-- what a text may commit
pub commits_of : (schema : Schema) (text : List ℕ) (command : Command) → command_of (understood schema text) ≡ command → IsPlain (understood schema text) → (s : State) (params : Row) (db : Trees) → s.now.schema ≡ schema
    → CommitsBy text params s db → MayCommit s None command (statement_of text (understood schema text)) params db
unfolding CommitsBy
commits_of schema text command is plain s params db has h =
    let c = h.0 in
    let it = h.1 in
    let known = sym it.is ∙ ap (λ x. understood x text) has in
    let bare = subst IsPlain (sym known) plain in
    let may : MayCommit s c.returning c.command (text_of text c) (timed params c.formats it.now) db = h.2 in
    subst₂ (λ k t. MayCommit s None k t params db) (ap command_of known ∙ is) (ap (statement_of text) known) (rw (bare.0, bare.1, append-nil params) at may)

-- a command that ends no transaction and no savepoint commits what it writes
pub commits_write : (s : State) (command : Command) (text : List ℕ) (params : Row) (db : Trees) → command ≢ Commit → ((name : List ℕ) → command ≢ Release name) → MayCommit s None command text params db
    → MayWrite s None command text params db
commits_write s command text params db ends releases (inl (inl is, same)) = absurd (ends is)
commits_write s command text params db ends releases (inl (inr is, same)) = absurd (releases is.0 is.2)
commits_write s command text params db ends releases (inr writes) = writes

commits_insert : (s : State) (params : Row) (db : Trees) → IsStoreSchema s.now.schema → CommitsBy insert_text params s db
    → MayWrite s None (Insert 0 (Values terms 6)) (statement_of insert_text (understood s.now.schema insert_text)) params db
commits_insert s params db has h =
    let schema = s.now.schema in
    commits_write s (Insert 0 (Values terms 6)) (statement_of insert_text (understood schema insert_text)) params db (λ e. cc) (λ name e. cc)
    (commits_of schema insert_text (Insert 0 (Values terms 6)) (insert_is schema has) (insert_plain schema has) s params db refl h)

-- an insert commits outside a transaction alone
pub commits_outside : (s : State) (params : Row) (db : Trees) → IsStoreSchema s.now.schema → CommitsBy insert_text params s db → s.in_transaction ≡ false
commits_outside s params db has h = (commits_insert s params db has h).0

-- what an insert may commit has the row
pub commits_add : (old : State) (at : ℕ) (s : Stored) (words : List ℕ) (db : Trees) → IsStoreSchema old.now.schema → CommitsBy insert_text (params_of at s words) old db
    → (after : Database) × AddsTo old.now after (stored_row at s words) × (db ≡ after.trees)
commits_add old at s words db has h =
    let writes = commits_insert old (params_of at s words) db has h in
    (writes.2, does_add old.step_limit (mode_of old) at s words old.now (statement_of insert_text (understood old.now.schema insert_text)) writes.1 writes.2 has writes.3, writes.5)

-- the rows of an answer are those of the table, in some order
pub shown_answer : (old new : State) (rows : List Row) → IsStoreSchema old.now.schema → Shown select_text [] old new rows → IsAnswer (shown_query 0) (overlay old.now.trees []) [] rows
shown_answer old new rows has h =
    let schema = old.now.schema in
    let is = select_is schema has in
    (reads_as select_text [] old new schema refl _ is.0 (select_plain schema has) is.1 rows h).answer Null

pub finds : (old new : State) (rows : List Row) → IsStoreSchema old.now.schema → Shown select_text [] old new rows → IsPermutation (map shown (old.now.trees 0)) rows
finds old new rows has h = whole_answer 0 _ _ _ old.now.trees [] rows refl (shown_answer old new rows has h)

-- a query of a plain text changes nothing
pub same_shown : (text : List ℕ) (old new : State) (rows : List Row) → IsPlain (understood old.now.schema text) → Shown text [] old new rows → IsUnchanged old new
unfolding Shown
same_shown text old new rows plain h =
    let bare = subst IsPlain h.1.is plain in
    (rw (bare.0) at h.2).3

pub finds_same : (old new : State) (rows : List Row) → IsStoreSchema old.now.schema → Shown select_text [] old new rows → IsUnchanged old new
finds_same old new rows has h = same_shown select_text old new rows (select_plain old.now.schema has) h

-- a read commits nothing
pub commits_no_read : (s : State) (db : Trees) → IsStoreSchema s.now.schema → CommitsShowing select_text [] s db → ⊥
commits_no_read s db has h = never_commits select_text [] s db (select_plain s.now.schema has) h

-- a call leaves a crash what it left before, if it may commit nothing
pub commits_nothing : (old new : State) (Commits : Trees → Type 0) → Survives old new Commits → ((db : Trees) → Commits db → ⊥) → HasCleanDisk new → CommitsNothing old new
commits_nothing old new Commits survives none clean db may = ⊎_elim (λ was. was) (λ commits. absurd (none db commits)) (survives.crash clean db may)

-- a call that may commit nothing, and changes nothing at Ok, only reads
pub only_reads : {T E : Type 0} (HasSchema : Schema → Type 0) (old new : State) (Commits : Trees → Type 0) (r : Result T E) → Survives old new Commits
    → (HasSchema old.now.schema → (db : Trees) → Commits db → ⊥) → (HasCleanDisk new → HasSchema old.now.schema → OnOk r (IsUnchanged old new)) → OnlyReads HasSchema old new r
only_reads HasSchema old new Commits r survives none same = record {
  same = same;
  crash = λ clean has. commits_nothing old new Commits survives (none has) clean;
  clean = λ clean. omega (arith, clean, survives.clean);
}

-- ---- a transaction by its texts

abbrev pub begin_text : List ℕ
begin_text = codes "BEGIN"

abbrev pub commit_text : List ℕ
commit_text = codes "COMMIT"

begin_is : (schema : Schema) → command_of (understood schema begin_text) ≡ Begin
unfolding understood everything
begin_is schema = refl

begin_plain : (schema : Schema) → IsPlain (understood schema begin_text)
unfolding understood everything
begin_plain schema = (refl, refl)

commit_is : (schema : Schema) → command_of (understood schema commit_text) ≡ Commit
unfolding understood everything
commit_is schema = refl

commit_plain : (schema : Schema) → IsPlain (understood schema commit_text)
unfolding understood everything
commit_plain schema = (refl, refl)

pub begins : (old new : State) (count : ℕ) → Executes begin_text [] old new (Ok count) → Shows old new old.now old.committed true
begins old new count h = (runs_as begin_text [] old new old.now.schema refl Begin (begin_is old.now.schema) (begin_plain old.now.schema) count h).1

pub commits : (old new : State) (count : ℕ) → Executes commit_text [] old new (Ok count) → Shows old new old.now old.now false
commits old new count h = (runs_as commit_text [] old new old.now.schema refl Commit (commit_is old.now.schema) (commit_plain old.now.schema) count h).1

pub begin_commits : (s : State) (db : Trees) → CommitsBy begin_text [] s db → ⊥
begin_commits s db h =
    let schema = s.now.schema in
    let text = statement_of begin_text (understood schema begin_text) in
    let writes = commits_write s Begin text [] db (λ e. cc) (λ name e. cc) (commits_of schema begin_text Begin (begin_is schema) (begin_plain schema) s [] db refl h) in
    let e = writes.3 in cc

pub commit_commits : (s : State) (db : Trees) → CommitsBy commit_text [] s db → db ≡ s.now.trees
commit_commits s db h =
    let schema = s.now.schema in
    go (commits_of schema commit_text Commit (commit_is schema) (commit_plain schema) s [] db refl h)
  where
    go : MayCommit s None Commit (statement_of commit_text (understood s.now.schema commit_text)) [] db → db ≡ s.now.trees
    go (inl (ends, same)) = same
    go (inr writes) = absurd (let e = writes.3 in cc)

-- ---- the table, within a transaction

-- what a create and a drop show
pub create_shows : (old new : State) (count : ℕ) → old.now.schema ≡ no_schema → Executes create_text [] old new (Ok count) → Shows old new new.now (if old.in_transaction then old.committed else new.now) old.in_transaction
create_shows old new count has h = (runs_as create_text [] old new no_schema has CreateTable create_is.0 create_plain count h).shown

pub drop_shows : (old new : State) (count : ℕ) → old.now.schema ≡ step_schema → Executes drop_text [] old new (Ok count) → Shows old new new.now (if old.in_transaction then old.committed else new.now) old.in_transaction
drop_shows old new count has h = (runs_as drop_text [] old new step_schema has (DropTable 0) drop_is drop_plain count h).shown

-- they commit outside a transaction alone
pub create_outside : (s : State) (db : Trees) → s.now.schema ≡ no_schema → CommitsBy create_text [] s db → s.in_transaction ≡ false
create_outside s db has h =
    (commits_write s CreateTable (statement_of create_text (understood no_schema create_text)) [] db (λ e. cc) (λ name e. cc) (commits_of no_schema create_text CreateTable create_is.0 create_plain s [] db has h)).0

pub drop_outside : (s : State) (db : Trees) → s.now.schema ≡ step_schema → CommitsBy drop_text [] s db → s.in_transaction ≡ false
drop_outside s db has h =
    (commits_write s (DropTable 0) (statement_of drop_text (understood step_schema drop_text)) [] db (λ e. cc) (λ name e. cc) (commits_of step_schema drop_text (DropTable 0) drop_is drop_plain s [] db has h)).0
