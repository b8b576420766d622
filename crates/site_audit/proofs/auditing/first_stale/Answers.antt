use Rattle.std.proofs.Common.{◌≡◌, length, slice_get, Some, IsTrue, true≢false, refl, sym, ◌∙◌, subst}
use Rattle.std.proofs.lemmas.Option.{slice_get_read}
use Rattle.site_journal.specs.Journals.{IsJournal}
use Rattle.site_audit.specs.Runs.{IsFromNew}
use Rattle.site_audit.proofs.Lists.{holds_all, holds_more}
use Rattle.site_audit.proofs.auditing.first_stale.Goals as goal

-- the journal at the place isn't whole
pub returns-then-not-is_from_new-clause-stale : goal.returns-then-not-is_from_new-clause-stale
returns-then-not-is_from_new-clause-stale c = record {
  j = c.index-journals-place.result;
  is = slice_get_read c.args.journals.now (length c.args.journals.now) c.loop-place.place c.index-journals-place.result refl c.loop-place-test.true c.index-journals-place.is;
  stale = λ whole. true≢false (sym (c.is_from_new.ensures.whole.1 whole) ∙ c.if-not-is_from_new.true);
  before = λ earlier k lt at. c.loop-place.invariant.whole earlier k lt at;
}

-- the journal at the place is whole
pub loop-place-preserved : goal.loop-place-preserved
loop-place-preserved c =
    let here : slice_get c.args.journals.now c.loop-place.place ≡ Some c.index-journals-place.result =
    slice_get_read c.args.journals.now (length c.args.journals.now) c.loop-place.place c.index-journals-place.result refl c.loop-place-test.true c.index-journals-place.is in
    record {
      whole = holds_more (λ n. IsFromNew) c.args.journals.now c.loop-place.place c.index-journals-place.result c.loop-place.invariant.whole here
          (c.is_from_new.ensures.whole.0 (subst IsTrue (sym c.if-not-is_from_new.false) refl));
      legal = holds_more (λ n. IsJournal) c.args.journals.now c.loop-place.place c.index-journals-place.result c.loop-place.invariant.legal here c.is_from_new.ensures.journal;
    }

pub returns-clause-whole : goal.returns-clause-whole
returns-clause-whole c = holds_all (λ n. IsFromNew) c.args.journals.now c.loop-place.place c.loop-place-test.false c.loop-place.invariant.whole

pub returns-clause-legal : goal.returns-clause-legal
returns-clause-legal c = holds_all (λ n. IsJournal) c.args.journals.now c.loop-place.place c.loop-place-test.false c.loop-place.invariant.legal
