-- Stores in the order of their sites, and their parts.
use Rattle.std.proofs.Common.{◌≡◌, ◌<◌, ◌≤◌, ◌+◌, inl, inr, ℕ, zero, suc, List, [], ◌∷◌, length, map, Option, Some, None, slice_get, refl, sym, ap, subst, subst₂, ◌∙◌, arith}
use Rattle.std.specs.List.Sorted.{IsNonDecreasingBy}
use Rattle.std.specs.Option.{option_map}
use Rattle.std.proofs.lemmas.List.{length-map}
use Rattle.std.proofs.lemmas.Option.{get_or_from_slice_get, slice_get-map, slice_get_within}
use mathlib.Core.HLevel.{⊥_prop}
use mathlib.Core.Logic.{∥∥₁_elim}
use Rattle.site_audit.specs.Runs.{AreSites, IsFirstStale, IsFromNew, names_in}
use Rattle.site_audit.proofs.Lists.{below_or_at, within_some}
use Rattle.site_journal.specs.Journals.{JournalState}
use Rattle.sites_world.proofs.Lists.{one_some}
use Rattle.store_audit.specs.declared.splitting.Parts.{Parts}
use Rattle.store_audit.specs.declared.store_journal.StoreJournal.{StoreJournal}
use Rattle.store_audit.specs.Stores.{AreCounted, AreFresh, AreNumbered, AreParts, AreRising, AreRisingTo, AreTwice, HasGap, HasOneList, IsStepOf, journals_of, site_number}

-- ---- elements

-- the element at a place of a list that was made of another
pub map_at : {X Y : Type 0} (f : X → Y) (xs : List X) (place : ℕ) (y : Y) → slice_get (map f xs) place ≡ Some y → (x : X) × (slice_get xs place ≡ Some x) × (f x ≡ y)
map_at {X} {Y} f xs place y known = by (slice_get xs place) refl (sym (slice_get-map f xs place) ∙ known)
  where
    by : (o : Option X) → slice_get xs place ≡ o → option_map f o ≡ Some y → (x : X) × (slice_get xs place ≡ Some x) × (f x ≡ y)
    by None is h = (cc)
    by (Some x) is h = (x, is, one_some (f x) y h)

-- and the element made of that at a place
pub at_map : {X Y : Type 0} (f : X → Y) (xs : List X) (place : ℕ) (x : X) → slice_get xs place ≡ Some x → slice_get (map f xs) place ≡ Some (f x)
at_map f xs place x is = slice_get-map f xs place ∙ ap (option_map f) is

-- the queues of all journals are those of the first
pub first_names : (stores : List StoreJournal) (store : StoreJournal) → slice_get stores 0 ≡ Some store → store.journal.base.names ≡ names_in (journals_of stores)
first_names [] store is = (cc)
first_names (first ∷ stores) store is = ap (λ (s : StoreJournal). s.journal.base.names) (sym (one_some first store is))

-- ---- sites

-- journals of numbered stores with one list of queues are those of all sites
pub all_sites : (sorted : List StoreJournal) → AreNumbered sorted (length sorted) → HasOneList sorted (length sorted) → AreSites (journals_of sorted)
all_sites sorted numbered one = record {
  numbers = λ site j is.
      let found = map_at (λ (s : StoreJournal). s.journal) sorted site j is in
      let less = slice_get_within sorted site found.0 found.1 in
      ap (λ (k : JournalState). k.base.site) (sym found.2) ∙ numbered site found.0 less found.1;
  names = λ site j is.
      let found = map_at (λ (s : StoreJournal). s.journal) sorted site j is in
      let less = slice_get_within sorted site found.0 found.1 in
      ap (λ (k : JournalState). k.base.names) (sym found.2) ∙ one site found.0 less found.1;
}

-- the store behind numbered ones is of a site at least as great as its place
at_least : (sorted : List StoreJournal) (place : ℕ) (store : StoreJournal) → AreRising sorted → AreNumbered sorted place → slice_get sorted place ≡ Some store
    → place ≤ site_number store
at_least sorted zero store rising numbered is = omega arith
at_least sorted (suc place) store rising numbered is =
    let inside = slice_get_within sorted (suc place) store is in
    let before = within_some sorted place (omega (arith, inside)) in
    let number = numbered place before.0 (omega arith) before.1 in
    let next : place + 1 ≡ suc place = omega arith in
    let more = rising place before.0 store before.1 (ap (slice_get sorted) next ∙ is) in
    omega (arith, number, more)

-- if it is of another site, no store is of the site of its place
pub gap_at : (sorted : List StoreJournal) (place : ℕ) (store : StoreJournal) → AreRising sorted → AreNumbered sorted place → slice_get sorted place ≡ Some store
    → (site_number store ≡ place → ⊥) → HasGap sorted place
gap_at sorted place store rising numbered is other = record {
  lesser = numbered;
  store = store;
  is = is;
  greater = let least = at_least sorted place store rising numbered is in omega (arith, least, other);
}

-- two neighbours are of one site
pub twice_at : (sorted : List StoreJournal) (before place : ℕ) (one other : StoreJournal) (site lesser : ℕ) → IsNonDecreasingBy site_number sorted → AreRisingTo sorted place
    → before + 1 ≡ place → slice_get sorted before ≡ Some one → slice_get sorted place ≡ Some other → lesser ≡ site_number one → site ≡ site_number other → site ≤ lesser → AreTwice sorted site
twice_at sorted before place one other site lesser order rising next one_is other_is lesser_is site_is less =
    let inside = slice_get_within sorted place other other_is in
    let rises = order before place one (omega (arith, next)) inside in
    let a = ap site_number (get_or_from_slice_get sorted before one one one_is) in
    let b = ap site_number (get_or_from_slice_get sorted place other one other_is) in
    let under : site_number one ≤ site_number other = subst₂ (λ m n. m ≤ n) a b rises in
    record {
      place = before;
      rising = subst (AreRisingTo sorted) (sym next) rising;
      one = one;
      other = other;
      one_is = one_is;
      other_is = ap (slice_get sorted) next ∙ other_is;
      one_of = omega (arith, under, less, lesser_is, site_is);
      other_of = sym site_is;
    }

-- each store up to this one is of a greater site than the one before it
pub rising_more : (sorted : List StoreJournal) (before place : ℕ) (one other : StoreJournal) → before + 1 ≡ place → slice_get sorted before ≡ Some one → slice_get sorted place ≡ Some other
    → site_number one < site_number other
    → AreRisingTo sorted place → AreRisingTo sorted (place + 1)
rising_more sorted before place one other next one_is other_is less rising k x y lt x_is y_is = elim (below_or_at (k + 1) place lt) [
  | inl below ↦ rising k x y below x_is y_is
  | inr at ↦
      let here : k ≡ before = omega (arith, next, at) in
      let first : one ≡ x = one_some one x (sym one_is ∙ ap (slice_get sorted) (sym here) ∙ x_is) in
      let second : other ≡ y = one_some other y (sym other_is ∙ ap (slice_get sorted) (sym at) ∙ y_is) in
      let a = ap site_number first in
      let b = ap site_number second in
      omega (arith, a, b, less)
]

-- ---- parts

-- the journals of stores have all steps
pub all_fresh : (stores : List StoreJournal) → AreFresh (journals_of stores)
all_fresh stores = λ site j is. let found = map_at (λ (s : StoreJournal). s.journal) stores site j is in subst (λ (k : JournalState). ∥ IsFromNew k ∥₁) found.2 found.0.fresh

-- so no journal is stale
pub never_stale : (journals : List JournalState) (site : ℕ) → AreFresh journals → IsFirstStale journals site → ⊥
never_stale journals site fresh stale = ∥∥₁_elim (fresh site stale.j stale.is) ⊥_prop stale.stale

-- each step of the parts of stores has a position
pub all_counted : (stores : List StoreJournal) (parts : Parts) → AreParts stores parts → AreCounted parts
all_counted stores parts are = record {
  each = sym (length-map parts.positions.items (λ p. p.items)) ∙ ap length are.positions ∙ length-map stores (λ (s : StoreJournal). s.positions.items)
      ∙ sym (length-map stores (λ (s : StoreJournal). s.journal)) ∙ sym (ap length are.journals);
  many = λ site j places is here.
      let found = map_at (λ (s : StoreJournal). s.journal) stores site j (sym (ap (λ l. slice_get l site) are.journals) ∙ is) in
      let other = map_at (λ (s : StoreJournal). s.positions.items) stores site places (sym (ap (λ l. slice_get l site) are.positions) ∙ here) in
      let same : other.0 ≡ found.0 = one_some other.0 found.0 (sym other.1 ∙ found.1) in
      ap length (sym other.2) ∙ ap (λ (s : StoreJournal). length s.positions.items) same ∙ found.0.counted ∙ ap (λ (k : JournalState). length k.steps) found.2;
}

-- ---- the step where events are stuck

-- the journal of a step, and its place
pub step_in : (parts : Parts) (site place : ℕ) (journal : JournalState) → IsStepOf parts site place → slice_get parts.journals.items site ≡ Some journal → place < length journal.steps
step_in parts site place journal step is = subst (λ (j : JournalState). place < length j.steps) (one_some step.j journal (sym step.is ∙ is)) step.less

pub site_in : (parts : Parts) (site place : ℕ) → IsStepOf parts site place → site < length parts.journals.items
site_in parts site place step = slice_get_within parts.journals.items site step.j step.is
