use Rattle.std.proofs.Common.{◌≡◌, ◌<◌, ◌≤◌, length, slice_get, get_or, Some, refl, ap, ◌∙◌, subst, arith}
use Rattle.std.proofs.lemmas.Option.{slice_get_read, slice_get-get_or, slice_get_within}
use Rattle.site_journal.specs.Journals.{JournalState}
use Rattle.site_audit.proofs.Lists.{holds_more}
use Rattle.site_audit.proofs.auditing.least_left.Goals as goal

-- the site at the place has steps left
pub returns-then-at-place-clause-left : goal.returns-then-at-place-clause-left
returns-then-at-place-clause-left c =
    let low = c.loop-place-test.true in
    let many = c.requires.count in
    let left = c.if-at-place.true in
    let steps = c.steps.ensures in
    record {
      j = c.index-journals-place.result;
      n = get_or c.args.at.now c.loop-place.place 0;
      journal = slice_get_read c.args.journals.now (length c.args.journals.now) c.loop-place.place c.index-journals-place.result refl low c.index-journals-place.is;
      here = slice_get-get_or c.args.at.now c.loop-place.place 0 (omega (arith, low, many));
      left = subst (λ s. get_or c.args.at.now c.loop-place.place 0 < length s) c.steps.ensures c.if-at-place.true;
      before = λ earlier lt. c.loop-place.invariant earlier lt;
    }

-- the site at the place has no steps left
pub loop-place-preserved : goal.loop-place-preserved
loop-place-preserved c =
    let low = c.loop-place-test.true in
    let many = c.requires.count in
    let journal : slice_get c.args.journals.now c.loop-place.place ≡ Some c.index-journals-place.result =
    slice_get_read c.args.journals.now (length c.args.journals.now) c.loop-place.place c.index-journals-place.result refl low c.index-journals-place.is in
    let here : slice_get c.args.at.now c.loop-place.place ≡ Some (get_or c.args.at.now c.loop-place.place 0) = slice_get-get_or c.args.at.now c.loop-place.place 0 (omega (arith, low, many)) in
    let most = c.requires.within c.loop-place.place (get_or c.args.at.now c.loop-place.place 0) c.index-journals-place.result journal here in
    let all : length c.index-journals-place.result.steps ≤ get_or c.args.at.now c.loop-place.place 0 = subst (λ s. length s ≤ get_or c.args.at.now c.loop-place.place 0) c.steps.ensures c.if-at-place.false in
    let e : get_or c.args.at.now c.loop-place.place 0 ≡ length c.index-journals-place.result.steps = omega (arith, most, all) in
    λ site lt j known. holds_more (λ n (k : JournalState). slice_get c.args.at.now n ≡ Some (length k.steps)) c.args.journals.now c.loop-place.place c.index-journals-place.result
    (λ n k less at. c.loop-place.invariant n less k at) journal (here ∙ ap Some e) site j lt known

pub returns-clause-none : goal.returns-clause-none
returns-clause-none c = λ site j known. c.loop-place.invariant site (let a = slice_get_within c.args.journals.now site j known in let b = c.loop-place-test.false in omega (arith, a, b)) j known
