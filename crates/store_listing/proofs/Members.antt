-- The queues of a base, one after the other.
use Rattle.std.proofs.Common.{◌≡◌, ◌∙◌, ◌<◌, ◌+◌, ℕ, List, [], ◌∷◌, ◌++◌, length, get_or, take, sym, ap, append_assoc, append-nil, arith}
use Rattle.std.specs.List.{enumerate_from, flat_map}
use Rattle.std.proofs.lemmas.Grind.{flat_map-append}
use Rattle.std.proofs.lemmas.List.{take_all, take_more}
use Rattle.std.proofs.lemmas.List.FromFn.{get_or-enumerate_from, length-enumerate_from}
use Rattle.replica.specs.Site.{SiteState}
use Rattle.store_listing.specs.Lines.{all_members, queue_members}

-- the queues up to a number, each with its members
abbrev pub members_up_to : SiteState → ℕ → List ℕ
members_up_to site n = flat_map (queue_members site) (take n (enumerate_from 0 site.names))

-- one queue more is written
pub members_more : (site : SiteState) (n : ℕ) (start out new : List ℕ) → n < length site.names → out ≡ start ++ members_up_to site n
    → new ≡ out ++ queue_members site (n, get_or site.names n []) → new ≡ start ++ members_up_to site (n + 1)
members_more site n start out new lt before wrote =
    let queues = enumerate_from 0 site.names in
    let within : n < length queues = omega (arith, length-enumerate_from 0 site.names) in
    let queue : get_or queues n (0, []) ≡ (n, get_or site.names n []) = get_or-enumerate_from 0 site.names n (0, []) lt ∙ ap (λ k. (k, get_or site.names n [])) (zero_plus n) in
    let more : members_up_to site (n + 1) ≡ members_up_to site n ++ queue_members site (n, get_or site.names n []) =
    ap (flat_map (queue_members site)) (take_more queues n (0, []) within) ∙ flat_map-append (queue_members site) (take n queues) (get_or queues n (0, []) ∷ [])
    ∙ ap (λ q. members_up_to site n ++ (queue_members site q ++ [])) queue ∙ ap (λ l. members_up_to site n ++ l) (append-nil (queue_members site (n, get_or site.names n []))) in
    wrote ∙ ap (λ l. l ++ queue_members site (n, get_or site.names n [])) before ∙ append_assoc start (members_up_to site n) (queue_members site (n, get_or site.names n []))
    ∙ ap (λ l. start ++ l) (sym more)
  where
    zero_plus : (n : ℕ) → 0 + n ≡ n
    zero_plus n = omega arith

-- all queues are written
pub members_all : (site : SiteState) (n : ℕ) (start out : List ℕ) → n ≡ length site.names → out ≡ start ++ members_up_to site n → out ≡ start ++ all_members site
members_all site n start out all wrote =
    let queues = enumerate_from 0 site.names in
    let within : length queues ≡ n = length-enumerate_from 0 site.names ∙ sym all in
    wrote ∙ ap (λ l. start ++ flat_map (queue_members site) l) (take_all n queues (omega arith))
