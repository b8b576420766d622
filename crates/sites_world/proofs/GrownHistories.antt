-- A history with one operation more.
use Rattle.std.proofs.Common.{◌≡◌, ◌<◌, ◌⊎◌, inl, inr, ℕ, Bool, true, false, ◌||◌, List, ◌∷◌, Contains, length, Some, refl, sym, ap, subst, ◌∙◌, arith, []}
use Rattle.std.specs.Prelude.{⊤}
use Rattle.std.specs.FinSet as set
use Rattle.std.proofs.lemmas.List.Elements.{Contains-append_cases}
use Rattle.dots.specs.declared.calls.Calls.{Calls}
use Rattle.dots.specs.declared.member.Member.{Member}
use Rattle.dots.specs.Values.{Dot, Stamp}
use Rattle.operations.specs.Operations.{Operation, Add, Write, Remove, Count, asserted_by}
use Rattle.operations.specs.Knowledge.{Knowledge, all_asserted, is_named, known_dots, names}
use Rattle.general_lemmas.proofs.Membership.{cases_in, first_in, later_in, part_in}
use Rattle.sites_world.specs.Histories.{IsHistory, IsOf, Makes, WasMade, stamp_of}
use Rattle.sites_world.proofs.Dots.{is-asserted, pair_of}
use Rattle.sites_world.proofs.Parts.{known_asserted, known_cases, known_named}

-- what an operation counts is of a queue in the list
abbrev pub CountsIn : List (List ℕ) → Operation → Type 0
CountsIn names_of_queues (Add dot member stamp penalty pause label older) = ⊤
CountsIn names_of_queues (Write dots setting stamp older) = ⊤
CountsIn names_of_queues (Remove dots) = ⊤
CountsIn names_of_queues (Count site queue calls total) = queue < length names_of_queues

-- a dot is new to a history: an operation makes it, later than all that are known of its site
pub record IsNewDot (names_of_queues : List (List ℕ)) (sites : ℕ) (h : Knowledge) (o : Operation) (dot : Dot) (m : Member) : Type 0 where
  pub makes : Makes dot o
  pub at_site : IsOf dot.site o
  pub latest : (q : Dot) → set.contains (known_dots h) q ≡ true → q.site ≡ dot.site → q.count < dot.count
  pub site : dot.site < sites
  pub queue : m.queue < length names_of_queues

-- an operation may be the next of a history
pub record IsNext (names_of_queues : List (List ℕ)) (sites : ℕ) (h : Knowledge) (o : Operation) : Type 0 where
  pub stamps : (p : Operation) (stamp : Stamp) → Contains h p → stamp_of o ≡ Some stamp → stamp_of p ≡ Some stamp → ⊥
  pub members : (dot : Dot) (m n : Member) → Contains (asserted_by o) (dot, m) → Contains (asserted_by o) (dot, n) → m ≡ n
  pub asserted : (dot : Dot) (m : Member) → Contains (asserted_by o) (dot, m) → IsNewDot names_of_queues sites h o dot m ⊎ Contains (all_asserted h) (dot, m)
  pub named : (dot : Dot) → names dot o ≡ true → set.contains (known_dots h) dot ≡ true
  pub made_once : (dot : Dot) → Makes dot o → set.contains (known_dots h) dot ≡ true → ⊥
  pub counts : CountsIn names_of_queues o
  pub older : (dot earlier : Dot) (m : Member) → Contains (asserted_by o) (dot, m) → Contains (all_asserted h) (earlier, m)
      → earlier.site ≡ dot.site → earlier.count < dot.count → names earlier o ≡ true

-- an add asserts the dot that it makes
pub makes_pair : (o : Operation) (dot : Dot) → Makes dot o → (m : Member) × Contains (asserted_by o) (dot, m)
makes_pair (Add made member stamp penalty pause label older) dot p = (member, subst (λ d. Contains {X = Dot × Member} ((made, member) ∷ []) (d, member)) p (first_in (made, member) []))
makes_pair (Write dots setting stamp older) dot p = absurd p
makes_pair (Remove dots) dot p = absurd p
makes_pair (Count site queue calls total) dot p = absurd p

-- an operation makes one dot
one_made : (o : Operation) (dot other : Dot) → Makes dot o → Makes other o → dot ≡ other
one_made (Add made member stamp penalty pause label older) dot other p q = sym p ∙ q
one_made (Write dots setting stamp older) dot other p q = absurd p
one_made (Remove dots) dot other p q = absurd p
one_made (Count site queue calls total) dot other p q = absurd p

module _ (names_of_queues : List (List ℕ)) (sites : ℕ) (h : Knowledge) (o : Operation) (made : IsHistory names_of_queues sites h) (next : IsNext names_of_queues sites h o) where
  -- a dot of a pair is known
  known_pair : (dot : Dot) (m : Member) → Contains (all_asserted h) (dot, m) → set.contains (known_dots h) dot ≡ true
  known_pair dot m here = known_asserted h dot (is-asserted h dot m here)

  -- a new dot isn't known
  not_known : (dot : Dot) (m : Member) → IsNewDot names_of_queues sites h o dot m → set.contains (known_dots h) dot ≡ true → ⊥
  not_known dot m new is = let less = new.latest dot is refl in omega (arith, less)

  -- what is asserted then is new, or was asserted
  asserted_next : (dot : Dot) (m : Member) → Contains (all_asserted (o ∷ h)) (dot, m) → (Contains (asserted_by o) (dot, m) × IsNewDot names_of_queues sites h o dot m) ⊎ Contains (all_asserted h) (dot, m)
  asserted_next dot m here = elim (Contains-append_cases (asserted_by o) (all_asserted h) (dot, m) here) [
    | inl a ↦ by a (next.asserted dot m a)
    | inr b ↦ inr b
  ]
    where
      by : Contains (asserted_by o) (dot, m) → (IsNewDot names_of_queues sites h o dot m ⊎ Contains (all_asserted h) (dot, m))
          → (Contains (asserted_by o) (dot, m) × IsNewDot names_of_queues sites h o dot m) ⊎ Contains (all_asserted h) (dot, m)
      by a (inl new) = inl (a, new)
      by a (inr was) = inr was

  -- what is known then is new, or was known
  known_next : (dot : Dot) → set.contains (known_dots (o ∷ h)) dot ≡ true → ((m : Member) × IsNewDot names_of_queues sites h o dot m) ⊎ (set.contains (known_dots h) dot ≡ true)
  known_next dot is = elim (known_cases (o ∷ h) dot is) [
    | inl a ↦ let p = pair_of (o ∷ h) dot a in from p.0 (asserted_next dot p.0 p.1)
    | inr n ↦ inr (by (names dot o) refl n)
  ]
    where
      from : (m : Member) → ((Contains (asserted_by o) (dot, m) × IsNewDot names_of_queues sites h o dot m) ⊎ Contains (all_asserted h) (dot, m))
          → ((n : Member) × IsNewDot names_of_queues sites h o dot n) ⊎ (set.contains (known_dots h) dot ≡ true)
      from m (inl new) = inl (m, new.1)
      from m (inr was) = inr (known_pair dot m was)

      by : (b : Bool) → names dot o ≡ b → (b || is_named h dot) ≡ true → set.contains (known_dots h) dot ≡ true
      by true e q = next.named dot e
      by false e q = known_named h dot q

  -- a dot that the next operation makes was made by none before
  made_before : (p : Operation) (dot : Dot) → Makes dot o → Contains h p → Makes dot p → ⊥
  made_before p dot makes here before =
      let q = makes_pair p dot before in
      next.made_once dot makes (known_pair dot q.0 (part_in asserted_by h p (dot, q.0) here q.1))

  adds_next : (a b : Operation) (dot : Dot) → Contains (o ∷ h) a → Contains (o ∷ h) b → Makes dot a → Makes dot b → a ≡ b
  adds_next a b dot ha hb ma mb = by (cases_in o h a ha) (cases_in o h b hb)
    where
      by : ((o ≡ a) ⊎ Contains h a) → ((o ≡ b) ⊎ Contains h b) → a ≡ b
      by (inl p) (inl q) = sym p ∙ q
      by (inl p) (inr q) = absurd (made_before b dot (subst (Makes dot) (sym p) ma) q mb)
      by (inr p) (inl q) = absurd (made_before a dot (subst (Makes dot) (sym q) mb) p ma)
      by (inr p) (inr q) = made.adds a b dot p q ma mb

  -- what was made stays so
  still_made : (dot : Dot) → WasMade h dot → WasMade (o ∷ h) dot
  still_made dot w = record { add = w.add; is = later_in o h w.add w.is; makes = w.makes; at_site = w.at_site }

  stamps_next : (a b : Operation) (stamp : Stamp) → Contains (o ∷ h) a → Contains (o ∷ h) b → stamp_of a ≡ Some stamp → stamp_of b ≡ Some stamp → a ≡ b
  stamps_next a b stamp ha hb ea eb = by (cases_in o h a ha) (cases_in o h b hb)
    where
      by : ((o ≡ a) ⊎ Contains h a) → ((o ≡ b) ⊎ Contains h b) → a ≡ b
      by (inl p) (inl q) = sym p ∙ q
      by (inl p) (inr q) = absurd (next.stamps b stamp q (ap stamp_of p ∙ ea) eb)
      by (inr p) (inl q) = absurd (next.stamps a stamp p (ap stamp_of q ∙ eb) ea)
      by (inr p) (inr q) = made.stamps a b stamp p q ea eb

  members_next : (dot : Dot) (m n : Member) → Contains (all_asserted (o ∷ h)) (dot, m) → Contains (all_asserted (o ∷ h)) (dot, n) → m ≡ n
  members_next dot m n hm hn = by (asserted_next dot m hm) (asserted_next dot n hn)
    where
      by : ((Contains (asserted_by o) (dot, m) × IsNewDot names_of_queues sites h o dot m) ⊎ Contains (all_asserted h) (dot, m))
          → ((Contains (asserted_by o) (dot, n) × IsNewDot names_of_queues sites h o dot n) ⊎ Contains (all_asserted h) (dot, n)) → m ≡ n
      by (inl p) (inl q) = next.members dot m n p.0 q.0
      by (inl p) (inr q) = absurd (not_known dot m p.1 (known_pair dot n q))
      by (inr p) (inl q) = absurd (not_known dot n q.1 (known_pair dot m p))
      by (inr p) (inr q) = made.members dot m n p q

  older_next : (p : Operation) (dot earlier : Dot) (m : Member) → Contains (o ∷ h) p → Contains (asserted_by p) (dot, m) → Contains (all_asserted (o ∷ h)) (earlier, m)
      → earlier.site ≡ dot.site → earlier.count < dot.count → names earlier p ≡ true
  older_next p dot earlier m here asserts before site less = by (cases_in o h p here) (asserted_next earlier m before)
    where
      -- an earlier dot that is new is later than each that is known of its site
      too_late : IsNewDot names_of_queues sites h o earlier m → set.contains (known_dots h) dot ≡ true → ⊥
      too_late new known = let later = new.latest dot known (sym site) in omega (arith, later, less)

      -- of two new dots none is earlier
      one_new : IsNewDot names_of_queues sites h o earlier m → (IsNewDot names_of_queues sites h o dot m ⊎ Contains (all_asserted h) (dot, m)) → ⊥
      one_new new (inl other) = let same = ap (λ d. d.count) (one_made o dot earlier other.makes new.makes) in omega (arith, same, less)
      one_new new (inr was) = too_late new (known_pair dot m was)

      by : ((o ≡ p) ⊎ Contains h p) → ((Contains (asserted_by o) (earlier, m) × IsNewDot names_of_queues sites h o earlier m) ⊎ Contains (all_asserted h) (earlier, m)) → names earlier p ≡ true
      by (inl e) (inl new) = absurd (one_new new.1 (next.asserted dot m (subst (λ q. Contains (asserted_by q) (dot, m)) (sym e) asserts)))
      by (inl e) (inr was) = ap (names earlier) (sym e) ∙ next.older dot earlier m (subst (λ q. Contains (asserted_by q) (dot, m)) (sym e) asserts) was site less
      by (inr q) (inl new) = absurd (too_late new.1 (known_pair dot m (part_in asserted_by h p (dot, m) q asserts)))
      by (inr q) (inr was) = made.older p dot earlier m q asserts was site less

  counts_next : (site queue : ℕ) (calls : Calls) (total : ℕ) → Contains (o ∷ h) (Count site queue calls total) → queue < length names_of_queues
  counts_next site queue calls total here = elim (cases_in o h (Count site queue calls total) here) [
    | inl e ↦ subst (CountsIn names_of_queues) e next.counts
    | inr q ↦ made.counts site queue calls total q
  ]

  queues_next : (dot : Dot) (m : Member) → Contains (all_asserted (o ∷ h)) (dot, m) → m.queue < length names_of_queues
  queues_next dot m here = elim (asserted_next dot m here) [ inl new ↦ new.1.queue | inr was ↦ made.queues dot m was ]

  -- the history with the operation
  pub grows : IsHistory names_of_queues sites (o ∷ h)
  grows = record {
    stamps = stamps_next;
    members = members_next;
    made = λ dot is. elim (known_next dot is) [
      | inl new ↦ record { add = o; is = first_in o h; makes = new.1.makes; at_site = new.1.at_site }
      | inr was ↦ still_made dot (made.made dot was)
    ];
    adds = adds_next;
    sites_are = λ dot is. elim (known_next dot is) [ inl new ↦ new.1.site | inr was ↦ made.sites_are dot was ];
    queues = queues_next;
    counts = counts_next;
    older = older_next;
  }
