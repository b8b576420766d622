-- Rows of steps, one after another.
use Rattle.std.proofs.Common.{◌≡◌, ◌+◌, ◌<◌, ◌∙◌, ℕ, List, [], ◌∷◌, ◌++◌, Bool, false, cond, length, get_or, take, Option, None, Some, refl, sym, ap, subst, arith}
use Rattle.std.specs.Prelude.{count_by}
use Rattle.std.specs.List.{All, cons_option}
use Rattle.std.proofs.lemmas.List.{take_all, take_more}
use Rattle.std.proofs.lemmas.List.Elements.{All-append, All-cons, All-head, All-nil, All-tail, filter_map-append}
use Rattle.std.proofs.lemmas.List.Sums.{sum_by-append, sum_by-cons}
use Rattle.site_journal.specs.declared.step.Step.{Step}
use Rattle.stored_steps.specs.StartRows.{is_start}
use Rattle.stored_steps.specs.StepRows.{IsWithinLimits, row_of, rows_of}
use Rattle.stored_steps.specs.Stored.{Stored}
use Rattle.stored_steps.proofs.RestoringLaws.{no_start_row}
use Rattle.step_database.specs.Standing.{AreRowsOf}

-- the rows of no steps
pub rows_of_none : AreRowsOf [] []
rows_of_none = record { are = refl; within = All-nil IsWithinLimits }

-- the row of one step more
pub rows_of_more : (rows longer : List Stored) (steps : List Step) (step : Step) (i : ℕ) → i < length steps → step ≡ get_or steps i step → AreRowsOf rows (take i steps) → longer ≡ rows ++ rows_of (step ∷ []) → IsWithinLimits step
    → AreRowsOf longer (take (i + 1) steps)
rows_of_more rows longer steps step i lt is so added good =
    let whole : take (i + 1) steps ≡ take i steps ++ step ∷ [] = take_more steps i step lt ∙ ap (λ (s : Step). take i steps ++ s ∷ []) (sym is) in record {
      are = added ∙ ap (λ (l : List Stored). l ++ rows_of (step ∷ [])) so.are ∙ sym (filter_map-append row_of (take i steps) (step ∷ [])) ∙ ap rows_of (sym whole);
      within = subst (λ (l : List Step). All IsWithinLimits l) (sym whole) (All-append IsWithinLimits (take i steps) (step ∷ []) so.within (All-cons IsWithinLimits step [] good (All-nil IsWithinLimits)));
    }

-- the rows of all steps
pub rows_of_all : (rows : List Stored) (steps : List Step) (n : ℕ) → n ≡ length steps → AreRowsOf rows (take n steps) → AreRowsOf rows steps
rows_of_all rows steps n size so = subst (λ (l : List Step). AreRowsOf rows l) (take_all n steps (omega arith)) so

-- one row counts where it is that of a start
pub count_first : (row : Stored) (rows : List Stored) → count_by is_start (row ∷ rows) ≡ cond (is_start row) 1 0 + count_by is_start rows
count_first row rows = sum_by-cons (λ (r : Stored). cond (is_start r) 1 0) row rows

-- a row in front, which is of no start
count_step : (found : Option Stored) (rows : List Stored) → ((row : Stored) → found ≡ Some row → is_start row ≡ false) → count_by is_start (cons_option found rows) ≡ count_by is_start rows
count_step None rows differs = refl
count_step (Some row) rows differs = count_first row rows ∙ ap (λ (b : Bool). cond b 1 0 + count_by is_start rows) (differs row refl) ∙ omega arith

-- no row of a step is that of a start
pub no_starts : (steps : List Step) → All IsWithinLimits steps → count_by is_start (rows_of steps) ≡ 0
no_starts [] good = refl
no_starts (step ∷ steps) good =
    count_step (row_of step) (rows_of steps) (λ row is. no_start_row step.pass step.deed row is (All-head IsWithinLimits step steps good)) ∙ no_starts steps (All-tail IsWithinLimits step steps good)

-- starts are counted part by part
pub count_both : (xs ys : List Stored) → count_by is_start (xs ++ ys) ≡ count_by is_start xs + count_by is_start ys
count_both xs ys = sum_by-append (λ (r : Stored). cond (is_start r) 1 0) xs ys

-- what has no length has no rows
pub no_items : (rows : List Stored) → length rows ≡ 0 → rows ≡ []
no_items [] size = refl
no_items (row ∷ rows) size = absurd (omega arith)
