-- The knowledges of a world that has a history: they are consistent together, and a member has at most one visible dot of a site.
use Rattle.std.proofs.Common.{◌≡◌, ◌<◌, ◌⊎◌, inl, inr, ℕ, List, [], ◌∷◌, ◌++◌, Contains, length, refl, sym, ap, subst, ◌∙◌, true≢false, arith}
use Rattle.dots.specs.declared.member.Member.{Member}
use Rattle.dots.specs.Values.{Dot}
use Rattle.operations.specs.Operations.{Operation, asserted_by}
use Rattle.operations.specs.Knowledge.{IsConsistent, Knowledge, names}
use Rattle.general_lemmas.proofs.Membership.{any_in, in_part, part_in}
use Rattle.operations.proofs.JoinedKnowledge.{member_in}
use Rattle.operations.proofs.VisibleLaws.{visible_parts}
use Rattle.sites_world.specs.declared.event.Event.{Event}
use Rattle.sites_world.specs.Histories.{HasHistory, IsHistory, IsHistoryOf, IsIn, IsOf, IsPartOf, Makes, Buffered, Carried, Known}
use Rattle.sites_world.specs.Promises.{IsVisibleDotOf, RunsInParts}
use Rattle.sites_world.specs.Worlds.{World, happens}
use Rattle.sites_world.proofs.Dots.{is-asserted}
use Rattle.sites_world.proofs.GrownHistories.{makes_pair}
use Rattle.sites_world.proofs.Parts.{asserted_part, both_part, consistent_part, known_asserted, part_through}

-- each knowledge of a world is a part of its history
pub part_of : (names_of_queues : List (List ℕ)) (w : World) (h k : Knowledge) → IsHistoryOf names_of_queues w h → IsIn w k → IsPartOf k h
part_of names_of_queues w h k all (Known site s is e) = subst (λ l. IsPartOf l h) (sym e) (all.sites site s is).known
part_of names_of_queues w h k all (Buffered site s is e) =
    let known = all.sites site s is in subst (λ l. IsPartOf l h) (sym e) (part_through s.buffer s.known h known.buffer known.known)
part_of names_of_queues w h k all (Carried entry here e) = subst (λ l. IsPartOf l h) (sym e) (all.pool entry here)

-- any two are consistent together
pub together : (names_of_queues : List (List ℕ)) (w : World) (k l : Knowledge) → HasHistory names_of_queues w → IsIn w k → IsIn w l → IsConsistent (k ++ l)
together names_of_queues w k l has ik il =
    consistent_part names_of_queues (length w.sites) has.made (k ++ l) has.is.history
    (both_part k l has.made (part_of names_of_queues w has.made k has.is ik) (part_of names_of_queues w has.made l has.is il))

-- each knowledge of a world is consistent
pub alone : (names_of_queues : List (List ℕ)) (w : World) (k : Knowledge) → HasHistory names_of_queues w → IsIn w k → IsConsistent k
alone names_of_queues w k has ik = consistent_part names_of_queues (length w.sites) has.made k has.is.history (part_of names_of_queues w has.made k has.is ik)

-- an add of a history was made at its dot's site
pub made_at_site : (names_of_queues : List (List ℕ)) (sites : ℕ) (h : Knowledge) (o : Operation) (dot : Dot) → IsHistory names_of_queues sites h → Contains h o → Makes dot o → IsOf dot.site o
made_at_site names_of_queues sites h o dot made here makes =
    let p = makes_pair o dot makes in
    let was = made.made dot (known_asserted h dot (is-asserted h dot p.0 (part_in asserted_by h o (dot, p.0) here p.1))) in
    subst (IsOf dot.site) (made.adds was.add o dot was.is here was.makes makes) was.at_site

module _ (names_of_queues : List (List ℕ)) (sites : ℕ) (h k : Knowledge) (made : IsHistory names_of_queues sites h) (part : IsPartOf k h) (m : Member) where
  -- of two visible dots of a member and a site none is earlier
  none_earlier : (dot other : Dot) → IsVisibleDotOf k m dot → IsVisibleDotOf k m other → dot.site ≡ other.site → dot.count < other.count → ⊥
  none_earlier dot other one two same less =
      let p = in_part asserted_by k (other, m) (member_in k other m two.member) in
      let named = made.older p.0 other dot m (part p.0 p.1) p.2 (asserted_part k h part (dot, m) (member_in k dot m one.member)) same less in
      true≢false (sym (any_in (names dot) k p.0 p.1 named) ∙ (visible_parts k dot one.visible).1)

  -- a member has at most one visible dot of a site
  pub one_dot : (dot other : Dot) → IsVisibleDotOf k m dot → IsVisibleDotOf k m other → dot.site ≡ other.site → dot ≡ other
  one_dot dot other one two same = by (three dot.count other.count)
    where
      three : (a b : ℕ) → (a ≡ b) ⊎ ((a < b) ⊎ (b < a))
      three a b = grind arith

      by : ((dot.count ≡ other.count) ⊎ ((dot.count < other.count) ⊎ (other.count < dot.count))) → dot ≡ other
      by (inl e) = λ i. record { site = same i; count = e i }
      by (inr (inl less)) = absurd (none_earlier dot other one two same less)
      by (inr (inr less)) = absurd (none_earlier other dot two one (sym same) less)

-- events are run in parts
pub in_parts : (names_of_queues : List (List ℕ)) (w : World) (first rest : List Event) → RunsInParts names_of_queues w first rest
in_parts names_of_queues w [] rest = record { world = refl; outcomes = refl }
in_parts names_of_queues w (e ∷ es) rest =
    let deeper = in_parts names_of_queues (happens names_of_queues w e).0 es rest in
    record { world = deeper.world; outcomes = ap (λ os. (happens names_of_queues w e).1 ∷ os) deeper.outcomes }
