use Rattle.std.proofs.Common.{◌≡◌, length, slice_get, Some, IsTrue, refl, ap, sym, ◌∙◌, subst, arith}
use Rattle.std.proofs.lemmas.Option.{slice_get_read}
use Rattle.site_journal.specs.Journals.{JournalState}
use Rattle.site_audit.specs.Runs.{names_in}
use Rattle.site_audit.proofs.Lists.{holds_all, holds_more}
use Rattle.site_audit.proofs.Playing.{names_of_first}
use Rattle.site_audit.proofs.auditing.are_sites.Goals as goal

-- the journal at the place is that of its site
pub loop-place-preserved : goal.loop-place-preserved
loop-place-preserved c =
    let low = c.loop-place-test.true in
    let place = c.loop-place.place in
    let here : slice_get c.args.journals.now place ≡ Some c.index-journals-place.result = slice_get_read c.args.journals.now (length c.args.journals.now) place c.index-journals-place.result refl low c.index-journals-place.is in
    let first : slice_get c.args.journals.now 0 ≡ Some c.index-journals-0.result = slice_get_read c.args.journals.now (length c.args.journals.now) 0 c.index-journals-0.result refl (omega (arith, low)) c.index-journals-0.is in
    let number : c.index-journals-place.result.base.site ≡ place = sym (ap (λ r. r.site) c.base-base.ensures) ∙ sym c.site.ensures ∙ sym c.number.ensures.value ∙ sym c.from.ensures ∙ c.if-from-place.false in
    let same : c.list.result.now ≡ c.list-in-loop-place.result.now = c.same.ensures.0 (subst IsTrue (sym c.if-not-same.false) refl) in
    let names : c.index-journals-place.result.base.names ≡ names_in c.args.journals.now =
    sym (ap (λ r. r.names) c.base-base.ensures) ∙ sym c.list.ensures.value ∙ same ∙ c.list-in-loop-place.ensures.value ∙ ap (λ r. r.names) c.base.ensures ∙ sym (names_of_first c.args.journals.now c.index-journals-0.result first) in
    record {
      few = let a = c.number.ensures.limit in let b = c.number.ensures.value in let d = c.from.ensures in let e = c.if-from-place.false in omega (arith, a, b, d, e);
      within = omega (arith, low);
      numbers = holds_more (λ n (j : JournalState). j.base.site ≡ n) c.args.journals.now place c.index-journals-place.result c.loop-place.invariant.numbers here number;
      names = holds_more (λ n (j : JournalState). j.base.names ≡ names_in c.args.journals.now) c.args.journals.now place c.index-journals-place.result c.loop-place.invariant.names here names;
    }

pub returns-clause-sites : goal.returns-clause-sites
returns-clause-sites c = (
  λ yes. record {
    numbers = holds_all (λ n (j : JournalState). j.base.site ≡ n) c.args.journals.now c.loop-place.place c.loop-place-test.false c.loop-place.invariant.numbers;
    names = holds_all (λ n (j : JournalState). j.base.names ≡ names_in c.args.journals.now) c.args.journals.now c.loop-place.place c.loop-place-test.false c.loop-place.invariant.names;
  },
  λ sites. refl,
)
