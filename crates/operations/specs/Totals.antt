-- Running totals of calls (RR-7506's grow-only counter, one entry for each site): their keys, their join, and their sums.
use Rattle.std.specs.Prelude.{ℕ, zero, suc, ◌≡◌, ◌+◌, ◌≤◌, ◌<◌, ◌++◌, max, Some, is_none, map as each, if◌then◌else◌, refl}
use Rattle.std.specs.Option.{unwrap_or}
use Rattle.std.specs.List.{count_by}
use Rattle.std.specs.declared.cmp.Ordering.{Ordering}
use Rattle.std.specs.Ordering.{nat_cmp, on, then_cmp}
use Rattle.std.specs.Coded.{Coded, code_by, coded×, coded_ℕ}
use Rattle.std.specs.FinMap as map
use Rattle.dots.specs.declared.call_totals.CallTotals.{CallTotals}
use Rattle.dots.specs.declared.limits.TheConstants.{MOST_CALLS, QUEUES, SITES}
use Rattle.dots.specs.Values.{IsSite}
use Rattle.dots.specs.CountedCalls.{no_calls, is_zero}

-- the key of an entry: a site and a queue
pub record Key : Type 0 where
  pub site : ℕ
  pub queue : ℕ

-- the order of keys: by site, then by queue
abbrev pub key_cmp : Key → Key → Ordering
key_cmp = then_cmp (on (λ k. k.site) nat_cmp) (on (λ k. k.queue) nat_cmp)

-- a key is stored as the pair of its site and its queue
abbrev pub key_code : Coded Key
key_code = code_by (ℕ × ℕ) (coded× coded_ℕ coded_ℕ) (λ k. (k.site, k.queue)) (λ p. record { site = p.0; queue = p.1 }) (λ _. refl)

-- totals of calls are stored as the pair of their numbers, completed and abandoned
abbrev pub call_totals_code : Coded CallTotals
call_totals_code =
    code_by (ℕ × ℕ) (coded× coded_ℕ coded_ℕ) (λ t. (t.completed, t.abandoned)) (λ p. record { completed = p.0; abandoned = p.1 }) (λ _. refl)

-- the totals of calls of all sites in all queues, by their keys
abbrev pub Entries : Type 0
Entries = map.FinMap key_cmp CallTotals

-- the totals of all sites are stored as the entries of their map, each a key with its totals
abbrev pub entries_code : Coded Entries
entries_code = map.code key_code call_totals_code

-- the greater of `p` and `q`, kind by kind of calls
abbrev pub greater : CallTotals → CallTotals → CallTotals
greater p q = record { completed = max p.completed q.completed; abandoned = max p.abandoned q.abandoned }

-- the totals of `key` in `entries`; no calls where it has no entry
abbrev pub totals_at : Entries → Key → CallTotals
totals_at entries key = unwrap_or (map.get entries key) no_calls

-- how many calls of each kind `site` has counted in `queue` by `entries`; no calls where these have
-- no entry of them
abbrev pub totals_of : Entries → ℕ → ℕ → CallTotals
totals_of entries site queue = totals_at entries (record { site = site; queue = queue })

-- the join of `x` and `y` (RR-7506): each key of either, with the greater of its totals in both,
-- kind by kind of calls
abbrev pub join_of : Entries → Entries → Entries
join_of x y = map.from_entries (each (λ key. (key, greater (totals_at x key) (totals_at y key))) (map.keys x ++ map.keys y))

-- the entry of `key` alone; no entry where both numbers of `totals` are zero
abbrev pub single : Key → CallTotals → Entries
single key totals = if is_zero totals then map.empty else map.insert map.empty key totals

-- the number of keys that have an entry in `y` and none in `x`
abbrev pub count_missing : Entries → Entries → ℕ
count_missing x y = count_by (λ key. is_none (map.get x key)) (map.keys y)

-- the sum of `f` over the numbers below a number, such as all sites
unfoldable pub sum_below : ℕ → (ℕ → ℕ) → ℕ
sum_below zero f = 0
sum_below (suc n) f = sum_below n f + f n

-- the totals of `queue`, kind by kind of calls: the sums over all 64 sites
abbrev pub sum_of : Entries → ℕ → CallTotals
sum_of entries queue = record {
  completed = sum_below SITES (λ site. (totals_of entries site queue).completed);
  abandoned = sum_below SITES (λ site. (totals_of entries site queue).abandoned);
}

-- an entry within its limits: of a site, in one of the queues, with two numbers within their limit that are not both zero
pub record IsTotal (key : Key) (totals : CallTotals) : Type 0 where
  pub site : IsSite key.site
  pub queue : key.queue < QUEUES
  pub completed : totals.completed ≤ MOST_CALLS
  pub abandoned : totals.abandoned ≤ MOST_CALLS
  pub counted : 0 < totals.completed + totals.abandoned

-- every entry is within its limits: it is of a site and a queue, and its numbers are within their limit and not both zero
abbrev pub InLimits : Entries → Type 0
InLimits entries = (key : Key) (totals : CallTotals) → map.get entries key ≡ Some totals → IsTotal key totals
