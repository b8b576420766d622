-- Sites that have ended.
use Rattle.std.proofs.Common.{◌≡◌, ℕ, List, sym, subst}
use Rattle.replica.proofs.SameSites.{site_through}
use Rattle.replica.specs.Site.{IsSameSite, SiteState}
use Rattle.site_desk.specs.Passes.{PassState, shares_of}
use Rattle.site_journal.specs.Journals.{IsOfSite, JournalState}
use Rattle.site_threads.specs.Ends.{HasEnded}
use Rattle.site_threads.specs.Ledgers.{IsLedgerOf}
use Rattle.site_threads.specs.Tasks.{AreDone}
use Rattle.site_threads.proofs.NewSites.{new_same}

-- a site has ended under a ledger of its replica
pub ended_as : {T O : Type 0} (Gives : T → ℕ → List (List ℕ) → PassState → O → PassState → Type 0) (site : ℕ) (names : List (List ℕ)) (base replica : SiteState) (limit : ℕ) (tasks : List T) (journal : JournalState) (passes : List PassState) (outputs : List O)
    → IsLedgerOf site names base replica → IsOfSite site names journal → journal.limit ≡ limit → (journal.start ≡ 0 → IsSameSite base journal.base) → AreDone Gives site names tasks passes outputs → journal.count ≡ shares_of passes
    → HasEnded Gives replica limit tasks journal outputs
ended_as {T} {O} Gives site names base replica limit tasks journal passes outputs is own limited begun done count = record {
  own_site = subst (λ n. IsOfSite n replica.names journal) (sym is.site_is) (subst (λ l. IsOfSite site l journal) (sym is.names_are) own);
  limit_is = limited;
  begun = λ whole. site_through replica base journal.base is.base_is (begun whole);
  new = λ new whole. new_same replica journal.base new (site_through replica base journal.base is.base_is (begun whole));
  passes = passes;
  done = subst (λ n. AreDone Gives n replica.names tasks passes outputs) (sym is.site_is) (subst (λ l. AreDone Gives site l tasks passes outputs) (sym is.names_are) done);
  count = count;
}

-- the limit of a journal by another name
pub ended_limit : {T O : Type 0} (Gives : T → ℕ → List (List ℕ) → PassState → O → PassState → Type 0) (replica : SiteState) (limit other : ℕ) (tasks : List T) (journal : JournalState) (outputs : List O) → limit ≡ other
    → HasEnded Gives replica limit tasks journal outputs → HasEnded Gives replica other tasks journal outputs
ended_limit Gives replica limit other tasks journal outputs is ended = subst (λ n. HasEnded Gives replica n tasks journal outputs) is ended
