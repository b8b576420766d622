use Rattle.replica.specs.Taking.{IsRefusedFor}
use Rattle.replica.proofs.SameDeeds.{cells_full_same, conflict_same, cut_same, follows_same, may_same, means_same, not_mine_same, pending_same, refusals_same, rows_same, runs_full_same, strange_same, sums_same, take_same, whole_same}
use Rattle.replica.proofs.laws.sites_that_say_the_same_do_the_same.Goals as goal

pub returns : goal.returns
returns c = record {
  rows = λ s t queue same. rows_same s t same queue;
  totals = λ s t queue same. sums_same s t same queue;
  means = λ s t change same. means_same s t same change;
  command = λ s t new after change result other same. follows_same s t same new after change result other;
  empty = λ s t same. pending_same s t same;
  cut = λ s t new after frame other same. cut_same s t same new after frame other;
  whole = λ s t new after frame other same. whole_same s t same new after frame other;
  may = λ s t d same. may_same s t same d;
  strange = λ s t d same. strange_same s t same d;
  not_mine = λ s t d same. not_mine_same s t same d;
  conflict = λ s t d same. conflict_same s t same d;
  cells_full = λ s t d same. cells_full_same s t same d;
  runs_full = λ s t d same. runs_full_same s t same d;
  refusals = λ s t d result same. refusals_same s t same d (IsRefusedFor result);
  take = λ s t new after d same. take_same s t same new after d;
}
