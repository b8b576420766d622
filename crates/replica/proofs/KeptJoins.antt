-- What a replica keeps stays through a join: the queues of live dots and totals, its own stamps, and its own dots.
use Rattle.std.proofs.Common.{◌≡◌, ◌≢◌, ◌≤◌, ◌<◌, ◌||◌, ℕ, suc, Bool, true, false, Option, Some, None, refl, sym, ap, subst, ◌∙◌, if◌then◌else◌, arith}
use Rattle.std.specs.Prelude.{nat_le}
use Rattle.std.specs.FinMap as map
use Rattle.std.specs.FinSet as set
use Rattle.std.specs.Ordering.{is_lt}
use Rattle.std.proofs.lemmas.Bool.Decides.{nat_tests}
use Rattle.std.proofs.lemmas.Option.{none-some}
use Rattle.dots.specs.declared.call_totals.CallTotals.{CallTotals}
use Rattle.dots.specs.declared.member.Member.{Member}
use Rattle.dots.specs.Values.{Dot}
use Rattle.dots.specs.Orders.{dot_cmp, stamp_cmp}
use Rattle.operations.specs.Registers.{Entry}
use Rattle.operations.specs.Registers as registers
use Rattle.operations.specs.Conditions.{Condition, Dead, DotFields, Live, condition_joined, fields_joined}
use Rattle.operations.specs.Totals.{key_cmp}
use Rattle.dots.proofs.DotOrder.{dots_total}
use Rattle.operations.proofs.TotalsLaws.{either, get_joined}
use Rattle.member_orset.specs.Members.{Holding, condition_at, condition_of}
use Rattle.delta.specs.DeltaStates as deltas
use Rattle.delta.specs.DeltaStates.{DeltaState, IsEmpty}
use Rattle.delta.specs.Joining.{IsJoinOf}
use Rattle.replica.specs.Changing.{KnowsUpTo}
use Rattle.replica.specs.Keeping.{AreInQueues, AreWrittenBy, HasOwnDots, HasOwnStamps, IsWrittenBy}

-- ---- live dots

-- what is live by a condition is live in the map
live_back : (o : Option Holding) (known : Bool) (m : Member) (f : DotFields) → condition_at o known ≡ Some (Live m f) → o ≡ Some (m, f)
live_back (Some h) known m f e = let a : h.0 ≡ m = cc in let b : h.1 ≡ f = cc in λ i. Some (a i, b i)
live_back None true m f e = absurd (cc)
live_back None false m f e = absurd (cc)

-- the condition of a live dot
pub live_condition : (d : DeltaState) (dot : Dot) (h : Holding) → map.get d.members.live dot ≡ Some h → condition_of d.members dot ≡ Some (Live h.0 h.1)
live_condition d dot h e = ap (λ o. condition_at o (set.contains d.members.known dot)) e

-- a dot whose condition is live is so in the map
pub condition_live : (d : DeltaState) (dot : Dot) (m : Member) (f : DotFields) → condition_of d.members dot ≡ Some (Live m f) → map.get d.members.live dot ≡ Some (m, f)
condition_live d dot m f e = live_back (map.get d.members.live dot) (set.contains d.members.known dot) m f e

-- what holds of each live dot, by its member and fields
pub record HoldsOfLive (P : Holding → Type 0) (d : DeltaState) : Type 0 where
  pub each : (dot : Dot) (h : Holding) → map.get d.members.live dot ≡ Some h → P h

-- what holds of a live condition
abbrev HoldsOf : (Holding → Type 0) → Option Condition → Type 0
HoldsOf P c = (m : Member) (f : DotFields) → c ≡ Some (Live m f) → P (m, f)

-- what holds of two live conditions, and of fields that are joined, holds of the conditions joined
holds_joined : (P : Holding → Type 0) → ((m n : Member) (f g : DotFields) → P (m, f) → P (n, g) → P (m, fields_joined f g)) → (c y : Option Condition) → HoldsOf P c → HoldsOf P y → HoldsOf P (condition_joined c y)
holds_joined P both None y p q m f e = q m f e
holds_joined P both (Some Dead) y p q m f e = absurd (cc)
holds_joined P both (Some (Live n g)) None p q m f e = p m f e
holds_joined P both (Some (Live n g)) (Some Dead) p q m f e = absurd (cc)
holds_joined P both (Some (Live n g)) (Some (Live l k)) p q m f e =
    let a : n ≡ m = cc in
    let b : fields_joined g k ≡ f = cc in
    let here : P (n, fields_joined g k) = both n l g k (p n g refl) (q l k refl) in
    subst P (λ i. (a i, b i)) here

-- what holds of the live dots of two deltas, and of fields that are joined, holds of those of their join
pub live_joined : (P : Holding → Type 0) → ((m n : Member) (f g : DotFields) → P (m, f) → P (n, g) → P (m, fields_joined f g)) → (d x e : DeltaState)
    → HoldsOfLive P d → HoldsOfLive P x → IsJoinOf d x e → HoldsOfLive P e
live_joined P both d x e p q j = record {
  each = λ dot h live.
      holds_joined P both (condition_of d.members dot) (condition_of x.members dot)
      (λ m f is. p.each dot (m, f) (condition_live d dot m f is)) (λ m f is. q.each dot (m, f) (condition_live x dot m f is))
      h.0 h.1 (sym (j.members.conditions dot) ∙ live_condition e dot h live);
}

-- no dot is live in an empty delta
pub none_live : (d : DeltaState) → IsEmpty d → (dot : Dot) (h : Holding) → map.get d.members.live dot ≡ Some h → ⊥
none_live d empty dot h live = let none = sym (empty.conditions dot) ∙ live_condition d dot h live in cc

-- ---- queues

-- what holds of a key with totals on either side holds of one with totals of both
either_some : (P : Type 0) (a b : Option CallTotals) (p : CallTotals) → either a b ≡ Some p → ((q : CallTotals) → a ≡ Some q → P) → ((q : CallTotals) → b ≡ Some q → P) → P
either_some P None None p e f g = absurd (cc)
either_some P None (Some q) p e f g = g q refl
either_some P (Some q) b p e f g = f q refl

-- the join of deltas of these queues is of them
pub queues_joined : (n : ℕ) (d x e : DeltaState) → AreInQueues n d → AreInQueues n x → IsJoinOf d x e → AreInQueues n e
queues_joined n d x e p q j = record {
  members = (live_joined (λ h. h.0.queue < n) (λ m l f g here there. here) d x e (record { each = p.members }) (record { each = q.members }) j).each;
  totals = λ key totals is.
      either_some (key.queue < n) (map.get d.totals.entries key) (map.get x.totals.entries key) totals
      (sym (get_joined d.totals.entries x.totals.entries key) ∙ ap (λ t. map.get t key) (sym j.totals) ∙ is) (p.totals key) (q.totals key);
}

-- a delta that says the same is of the same queues
pub queues_unchanged : (n : ℕ) (old new : DeltaState) → AreInQueues n old → deltas.IsUnchanged old new → AreInQueues n new
queues_unchanged n old new p same = record {
  members = λ dot h live. p.members dot h (ap (λ l. map.get l dot) (sym same.members.live) ∙ live);
  totals = λ key totals is. p.totals key totals (ap (λ t. map.get t key) (sym same.totals) ∙ is);
}

-- an empty one is of any
pub queues_empty : (n : ℕ) (d : DeltaState) → IsEmpty d → AreInQueues n d
queues_empty n d empty = record {
  members = λ dot h live. absurd (none_live d empty dot h live);
  totals = λ key totals is. absurd (none-some totals (sym (map.get-empty key_cmp key) ∙ ap (λ t. map.get t key) (sym empty.totals) ∙ is));
}

-- ---- own stamps

-- registers that are joined hold an entry of one of both
written_joined : {T : Type 0} (site last : ℕ) (x y : Option (Entry T)) → IsWrittenBy site last x → IsWrittenBy site last y → IsWrittenBy site last (registers.join_of x y)
written_joined site last None y p q = q
written_joined site last (Some a) None p q = p
written_joined site last (Some a) (Some b) p q = by (is_lt (stamp_cmp a.stamp b.stamp))
  where
    by : (less : Bool) → IsWrittenBy site last (Some (if less then b else a))
    by true = q
    by false = p

-- the stamps of a join are up to the same time
pub stamps_joined : (site last : ℕ) (d x e : DeltaState) → HasOwnStamps site last d → HasOwnStamps site last x → IsJoinOf d x e → HasOwnStamps site last e
stamps_joined site last d x e p q j =
    (live_joined (λ h. AreWrittenBy site last h.1) (λ m n f g here there. record {
      penalty = written_joined site last f.penalty g.penalty here.penalty there.penalty;
      pause = written_joined site last f.pause g.pause here.pause there.pause;
      label = written_joined site last f.label g.label here.label there.label;
      ring = written_joined site last f.ring g.ring here.ring there.ring;
    }) d x e (record { each = p }) (record { each = q }) j).each

-- own stamps up to a time are up to any later time
pub stamps_later : (site last more : ℕ) (d : DeltaState) → last ≤ more → HasOwnStamps site last d → HasOwnStamps site more d
stamps_later site last more d le p dot h live = let w = p dot h live in record {
  penalty = λ entry is. omega (arith, w.penalty entry is);
  pause = λ entry is. omega (arith, w.pause entry is);
  label = λ entry is. omega (arith, w.label entry is);
  ring = λ entry is. omega (arith, w.ring entry is);
}

-- the own stamps of a delta that says the same are up to the same time
pub stamps_unchanged : (site last : ℕ) (old new : DeltaState) → HasOwnStamps site last old → deltas.IsUnchanged old new → HasOwnStamps site last new
stamps_unchanged site last old new p same dot h live = p dot h (ap (λ l. map.get l dot) (sym same.members.live) ∙ live)

-- an empty one has none
pub stamps_empty : (site last : ℕ) (d : DeltaState) → IsEmpty d → HasOwnStamps site last d
stamps_empty site last d empty dot h live = absurd (none_live d empty dot h live)

-- ---- own dots

-- what a join knows of a dot
known_joined : (d x e : DeltaState) → IsJoinOf d x e → (dot : Dot) → set.contains e.members.known dot ≡ (set.contains d.members.known dot || set.contains x.members.known dot)
known_joined d x e j dot = ap (λ k. set.contains k dot) j.members.known ∙ set.contains-union dots_total d.members.known x.members.known dot

-- the own dots of a join with one that knows no later ones are the same
pub dots_joined : (site last : ℕ) (d x e : DeltaState) → HasOwnDots site last d → KnowsUpTo site last x → IsJoinOf d x e → HasOwnDots site last e
dots_joined site last d x e own knows j count some =
    known_joined d x e j _ ∙ ap (λ b. b || set.contains x.members.known (record { site = site; count = count })) (own count some)
    ∙ by (set.contains x.members.known (record { site = site; count = count })) (knows.counts count some)
  where
    by : (b : Bool) → (b ≡ true → count ≤ last) → (nat_le count last || b) ≡ nat_le count last
    by true le = let h = le refl in grind (arith, nat_tests)
    by false le = grind (arith, nat_tests)

-- a test for counts up to the next one is the test for those before with one for it
next_test : (count last : ℕ) (b : Bool) → (b ≡ true → count ≤ suc last) → (count ≡ suc last → b ≡ true) → (nat_le count last || b) ≡ nat_le count (suc last)
next_test count last true le is = let h = le refl in grind (arith, nat_tests)
next_test count last false le is = let not_next : count ≢ suc last = λ e. absurd (cc (is e)) in grind (arith, nat_tests)

-- the join with a delta that knows the next own dot, and no later ones, has one more own dot
pub dots_joined_next : (site last : ℕ) (d x e : DeltaState) → HasOwnDots site last d → set.contains x.members.known (record { site = site; count = suc last }) ≡ true → KnowsUpTo site (suc last) x
    → IsJoinOf d x e → HasOwnDots site (suc last) e
dots_joined_next site last d x e own next knows j count some =
    known_joined d x e j _ ∙ ap (λ b. b || set.contains x.members.known (record { site = site; count = count })) (own count some)
    ∙ next_test count last (set.contains x.members.known (record { site = site; count = count })) (knows.counts count some)
    (λ is. ap (λ n. set.contains x.members.known (record { site = site; count = n })) is ∙ next)

-- the own dots of a delta that says the same are up to the same count
pub dots_unchanged : (site last : ℕ) (old new : DeltaState) → HasOwnDots site last old → deltas.IsUnchanged old new → HasOwnDots site last new
dots_unchanged site last old new own same count some = ap (λ k. set.contains k (record { site = site; count = count })) same.members.known ∙ own count some

-- an empty one has none
pub dots_empty : (site : ℕ) (d : DeltaState) → IsEmpty d → HasOwnDots site 0 d
dots_empty site d empty count some =
    ap (λ k. set.contains k (record { site = site; count = count })) empty.known ∙ set.contains-empty dot_cmp (record { site = site; count = count }) ∙ by count some
  where
    by : (count : ℕ) → 1 ≤ count → false ≡ nat_le count 0
    by count some = grind (arith, nat_tests)
