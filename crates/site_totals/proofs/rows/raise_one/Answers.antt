use Rattle.std.proofs.Common.{◌≡◌, ◌+◌, ◌<◌, ◌≤◌, Option, Some, None, IsSome, inl, inr, refl, sym, ap, ◌∙◌, subst, arith}
use Rattle.std.specs.Vec.{vec_len, vec_capacity}
use Rattle.std.specs.FinMap as map
use Rattle.std.proofs.lemmas.Bool.{cases_lt, false≢true}
use Rattle.dots.specs.declared.limits.TheConstants.{MOST_CALLS}
use Rattle.dots.specs.declared.call_totals.CallTotals.{CallTotals}
use Rattle.operations.specs.Totals.{key_cmp, totals_at}
use Rattle.operations.proofs.TotalsLaws.{totals_at_limit}
use Rattle.site_totals.specs.Raising.{number_of, one_more}
use Rattle.site_totals.specs.TotalLists.{IsKept, row_totals, entries_of}
use Rattle.site_totals.proofs.EntryLemmas.{totals_read, get_is, kept_by_raise, raised_by_put, number_limit, number_of_one_more}
use Rattle.site_totals.proofs.rows.raise_one.Goals as goal
use Rattle.site_totals.proofs.rows.raise_one.Goals.{After-number_of, After-number_of-in-Ok}

-- the totals that are read are those of the entries
read : (c : After-number_of) → c.row_totals-had.result ≡ row_totals c.args.rows.now.items c.args.key
read c = c.row_totals-had.ensures ∙ ap (λ rows. row_totals rows c.args.key) c.deref.ensures.value

number : (c : After-number_of) → c.number_of.result ≡ number_of c.args.calls (totals_at (entries_of c.args.rows.now.items) c.args.key)
number c = c.number_of.ensures ∙ ap (number_of c.args.calls) (read c ∙ sym (totals_read c.args.rows.now.items c.requires.kept.rising c.args.key))

limit : (c : After-number_of) → number_of c.args.calls (totals_at (entries_of c.args.rows.now.items) c.args.key) ≤ MOST_CALLS
limit c = number_limit c.args.calls (totals_at (entries_of c.args.rows.now.items) c.args.key) (totals_at_limit (entries_of c.args.rows.now.items) c.requires.kept.limits c.args.key)

-- the total can't be above its limit, and so is there
pub returns-then-number_of-ge-MOST_CALLS-clause-full : goal.returns-then-number_of-ge-MOST_CALLS-clause-full
returns-then-number_of-ge-MOST_CALLS-clause-full c =
    let before = (goal.at.returns-then-number_of-ge-MOST_CALLS-clause-full c).After-number_of in
    let is = number before in
    let most = limit before in
    (λ _. omega arith, λ _. refl)

-- one more is put at the key
raised_totals : (c : After-number_of-in-Ok) → c.one_more-more.result ≡ one_more c.args.calls (row_totals c.args.rows.now.items c.args.key)
raised_totals c = c.one_more-more.ensures ∙ ap (one_more c.args.calls) (c.row_totals-had.ensures ∙ ap (λ rows. row_totals rows c.args.key) c.deref.ensures.value)

items : (c : After-number_of-in-Ok) → c.put.new.rows.items ≡ map.put key_cmp c.args.key (one_more c.args.calls (row_totals c.args.rows.now.items c.args.key)) c.args.rows.now.items
items c = c.in-Ok.ensures.ok ∙ ap (λ p. map.put key_cmp c.args.key p c.args.rows.now.items) (raised_totals c)

before : (c : After-number_of-in-Ok) → number_of c.args.calls (totals_at (entries_of c.args.rows.now.items) c.args.key) ≡ number_of c.args.calls (row_totals c.args.rows.now.items c.args.key)
before c = ap (number_of c.args.calls) (totals_read c.args.rows.now.items c.requires.kept.rising c.args.key)

few : (c : After-number_of-in-Ok) → number_of c.args.calls (row_totals c.args.rows.now.items c.args.key) < MOST_CALLS
few c = subst (λ n. n < MOST_CALLS) (c.number_of.ensures ∙ ap (number_of c.args.calls) (c.row_totals-had.ensures ∙ ap (λ rows. row_totals rows c.args.key) c.deref.ensures.value)) c.if-number_of-ge-MOST_CALLS.false

pub returns-in-Ok-clause-kept : goal.returns-in-Ok-clause-kept
returns-in-Ok-clause-kept c = subst IsKept (sym (items c)) (kept_by_raise c.args.rows.now.items c.requires.kept c.args.key c.args.calls (few c) c.requires.site c.requires.queue)

pub returns-in-Ok-clause-value : goal.returns-in-Ok-clause-value
returns-in-Ok-clause-value c =
    c.number_of-in-Ok.ensures ∙ ap (number_of c.args.calls) (raised_totals c)
    ∙ number_of_one_more c.args.calls (row_totals c.args.rows.now.items c.args.key)
    ∙ ap (λ n. n + 1) (sym (before c))

pub returns-in-Ok-clause-ok : goal.returns-in-Ok-clause-ok
returns-in-Ok-clause-ok c = ap entries_of (items c) ∙ raised_by_put c.args.rows.now.items c.requires.kept.rising c.args.key c.args.calls

pub returns-in-Ok-clause-full : goal.returns-in-Ok-clause-full
returns-in-Ok-clause-full c =
    let is = number (goal.at.returns-in-Ok-clause-full c).After-number_of in
    (λ e. absurd (cc), λ e. absurd (omega arith))

pub returns-in-Err-clause-full : goal.returns-in-Err-clause-full
returns-in-Err-clause-full c =
    let is = number (goal.at.returns-in-Err-clause-full c).After-number_of in
    (λ e. absurd (cc), λ e. absurd (omega arith))

not_some : (o : Option CallTotals) → (IsSome o → ⊥) → o ≡ None
not_some None h = refl
not_some (Some p) h = absurd (h refl)

-- memory is wanted only where the key is missing and there is no room
pub returns-in-Err-clause-memory : goal.returns-in-Err-clause-memory
returns-in-Err-clause-memory c e = (
  get_is c.args.rows.now.items c.requires.kept.rising c.args.key ∙ not_some _ (λ there. false≢true (c.in-Err.ensures.there there)),
  elim (cases_lt (vec_len c.args.rows.now) (vec_capacity c.args.rows.now)) [
    | inl room ↦ absurd (false≢true (c.in-Err.ensures.room room))
    | inr no_room ↦ no_room
  ],
)
