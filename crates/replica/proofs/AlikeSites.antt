-- A command means the same where what is read is alike.
use Rattle.std.proofs.Common.{◌≡◌, ℕ, suc, max, Bool, true, not, ◌&&◌, ◌||◌, if◌then◌else◌, List, [], ◌∷◌, Contains, Option, Some, None, map as each, refl, ap, ◌∙◌}
use Rattle.std.specs.Prelude.{bytes_eq}
use Rattle.std.specs.List.{filter_map}
use Rattle.std.specs.Option.{option_and_then}
use Rattle.std.specs.FinSet as set
use Rattle.dots.specs.DotSets.{is_older}
use Rattle.dots.specs.declared.label.Label.{Label}
use Rattle.dots.specs.declared.member.Member.{Member}
use Rattle.dots.specs.Values.{Dot}
use Rattle.operations.specs.Operations.{Operation, Setting, Add, Write, Count}
use Rattle.operations.specs.Knowledge.{asserted_dots, known_dots, names}
use Rattle.operations.specs.Rows.{DotView, ShowAlike}
use Rattle.general_lemmas.specs.SetItems.{in_order}
use Rattle.operations.proofs.AlikeViews.{filter_map_same, listed_in, same_dots}
use Rattle.general_lemmas.proofs.Membership.{first_in, later_in}
use Rattle.replica.specs.declared.refusal.Refusal.TheVariants.{MembersFull, Exhausted, TotalFull}
use Rattle.replica.specs.Changes.{Change, Meaning, AddMember, RemoveMember, SetField, CountCall, Refused, Makes, time_in, time_replaced, add_at, write_at, remove_of, is_full, is_too_long, is_exhausted, is_past_total, within_limits, in_queue, where_absent, where_present, meaning_of_setting, meaning}
use Rattle.replica.specs.Promises.{AreAlike, AreAsFull, MeansTheSameAlike}
use Rattle.replica.specs.Queues.{number_of}
use Rattle.replica.proofs.SeenOnce.{seen_visible}
use Rattle.replica.specs.SiteViews.{SiteView, greatest, is_dead, older_dots, with_interface, dots_seen, visible_with, known_with, is_past_limits}

-- the dots that a command goes over
same_seen : (r s : DotView) → ShowAlike r s → (queue : Option ℕ) (interface : List ℕ) → dots_seen r queue interface ≡ dots_seen s queue interface
same_seen r s alike None interface =
    filter_map_same (with_interface r interface) (with_interface s interface) (in_order r.visible) (λ dot here.
    ap (option_and_then (λ member. if bytes_eq member.interface interface then Some (dot, member) else None)) (alike.member dot (listed_in r.visible dot here)))
    ∙ ap (λ v. filter_map (with_interface s interface) (in_order v)) alike.visible
same_seen r s alike (Some queue) interface = ap (each (λ dot. let d : Dot × Member = (dot, record { queue = queue; interface = interface }) in d)) (same_dots r s alike (record { queue = queue; interface = interface }))

greatest_same : {X : Type 0} (f g : X → ℕ) (xs : List X) → ((x : X) → Contains xs x → f x ≡ g x) → greatest f xs ≡ greatest g xs
greatest_same f g [] same = refl
greatest_same f g (x ∷ xs) same = λ i. max (same x (first_in x xs) i) (greatest_same f g xs (λ y here. same y (later_in x xs y here)) i)

replaced_same : (r s : DotView) → ShowAlike r s → (setting : Setting) (dot : Dot) → set.contains r.visible dot ≡ true → time_replaced r setting dot ≡ time_replaced s setting dot
replaced_same r s alike setting dot h = ap (time_in setting) (alike.fields dot h)

-- what is read alike is as full
as_full : (r s : SiteView) → AreAlike r s → AreAsFull r s
as_full r s alike = record { visible = alike.dots.visible; known = alike.known }

dead_same : (r s : SiteView) → AreAsFull r s → (dot : Dot) → is_dead r dot ≡ is_dead s dot
dead_same r s alike dot = λ i. set.contains (alike.known i) dot && not (set.contains (alike.visible i) dot)

older_same : (r s : SiteView) → AreAlike r s → (dots : List Dot) → older_dots r dots ≡ older_dots s dots
unfolding older_dots
older_same r s alike dots = λ i. set.retain (alike.known i) (λ dot. dead_same r s (as_full r s alike) dot i && is_older dots dot)

visible_same : (r s : SiteView) → AreAsFull r s → (o : Operation) → visible_with r o ≡ visible_with s o
unfolding visible_with
visible_same r s alike o = λ i. set.retain (set.union (alike.visible i) (asserted_dots (o ∷ []))) (λ dot. not (dead_same r s alike dot i || names dot o))

known_same : (r s : SiteView) → AreAsFull r s → (o : Operation) → known_with r o ≡ known_with s o
unfolding known_with
known_same r s alike o = λ i. set.union (alike.known i) (known_dots (o ∷ []))

full_same : (r s : SiteView) → AreAsFull r s → (o : Operation) → is_full r o ≡ is_full s o
full_same r s alike o = λ i. is_past_limits (visible_same r s alike o i) (known_same r s alike o i)

module _ (r s b c : SiteView) (alike : AreAlike r s) (buffers : AreAsFull b c) where
  limits_same : (o p : Operation) → o ≡ p → within_limits r b o ≡ within_limits s c p
  limits_same o p e =
      (λ i. let rest : Meaning = if is_exhausted o then Refused Exhausted else if is_past_total o then Refused TotalFull else Makes o in
      if full_same r s (as_full r s alike) o i || (full_same b c buffers o i || is_too_long o) then Refused MembersFull else rest)
      ∙ ap (within_limits s c) e

  adds_same : (site : ℕ) (member : Member) (penalty : ℕ) (paused : Bool) (label : Label) → add_at site r member penalty paused label ≡ add_at site s member penalty paused label
  adds_same site member penalty paused label = λ i.
      let dot : Dot = record { site = site; count = suc (alike.last_count i) } in
      Add dot member (record { time = suc (alike.last_time i); site = site }) penalty (record { paused = paused; reason = [] }) label (older_same r s alike (dot ∷ []) i)

  writes_same : (site : ℕ) (setting : Setting) (dots : List (Dot × Member)) → ((d : Dot × Member) → Contains dots d → set.contains r.dots.visible d.0 ≡ true)
      → write_at site r setting dots ≡ write_at site s setting dots
  writes_same site setting dots visible = λ i.
      let replaced = greatest_same (λ d. time_replaced r.dots setting d.0) (λ d. time_replaced s.dots setting d.0) dots (λ d here. replaced_same r.dots s.dots alike.dots setting d.0 (visible d here)) in
      Write dots setting (record { time = suc (max (alike.last_time i) (replaced i)); site = site }) (older_same r s alike (each (λ d. d.0) dots) i)

  settings_same : (site : ℕ) (setting : Setting) (queue : Option ℕ) (interface : List ℕ)
      → meaning_of_setting site r b setting (dots_seen r.dots queue interface) ≡ meaning_of_setting site s c setting (dots_seen s.dots queue interface)
  settings_same site setting queue interface =
      let dots = dots_seen r.dots queue interface in
      ap (where_present dots) (limits_same _ _ (writes_same site setting dots (seen_visible r.dots queue interface)))
      ∙ ap (meaning_of_setting site s c setting) (same_seen r.dots s.dots alike.dots queue interface)

  meanings_same : (site : ℕ) (names : List (List ℕ)) (change : Change) → meaning site names r b change ≡ meaning site names s c change
  meanings_same site names (AddMember queue interface penalty paused label) = λ i. in_queue (number_of names queue) (λ q.
      where_absent (same_seen r.dots s.dots alike.dots (Some q) interface i)
      (limits_same _ _ (adds_same site (record { queue = q; interface = interface }) penalty paused label) i))
  meanings_same site names (RemoveMember queue interface) = λ i. in_queue (number_of names queue) (λ q.
      let seen = same_seen r.dots s.dots alike.dots (Some q) interface in where_present (seen i) (limits_same _ _ (ap remove_of seen) i))
  meanings_same site names (SetField None interface setting) = settings_same site setting None interface
  meanings_same site names (SetField (Some queue) interface setting) = λ i. in_queue (number_of names queue) (λ q. settings_same site setting (Some q) interface i)
  meanings_same site names (CountCall queue calls) = λ i. in_queue (number_of names queue) (λ q. limits_same _ _ (ap (λ n. let o : Operation = Count site q calls (suc n) in o) (alike.totals site q calls)) i)

pub means_alike : (r s buffer other : SiteView) → AreAlike r s → AreAsFull buffer other → MeansTheSameAlike r s buffer other
means_alike r s b c alike buffers = record { seen = same_seen r.dots s.dots alike.dots; meanings = meanings_same r s b c alike buffers }
