-- What a site knows stays small enough for a frame.
use Rattle.std.proofs.Common.{◌≡◌, ◌≤◌, ℕ, suc, nat_lt, Bool, true, false, ◌||◌, List, [], ◌∷◌, ◌++◌, Some, None, sym, ap, subst, ◌∙◌, refl, arith, if◌then◌else◌}
use Rattle.std.specs.FinSet as set
use Rattle.std.proofs.lemmas.Bool.Decides.{nat_tests}
use Rattle.dots.specs.declared.limits.TheConstants.{MOST_COUNT, MOST_LIVE, MOST_RUNS}
use Rattle.dots.specs.declared.member.Member.{Member}
use Rattle.dots.specs.DotSets.{run_count}
use Rattle.dots.specs.Orders.{dot_cmp}
use Rattle.dots.specs.Values.{Dot}
use Rattle.dots.proofs.DotOrder.{dots_exact, dots_total}
use Rattle.dots.proofs.RunCounts.{run_count_runs}
use Rattle.operations.specs.FrameLimits.{IsSmallEnough}
use Rattle.operations.specs.Knowledge.{Knowledge, known_dots, visible_dots}
use Rattle.operations.specs.Operations.{Operation, Setting}
use Rattle.operations.proofs.StandingJoins.{represents_none}
use Rattle.operations.proofs.VisibleLaws.{visible_dot}
use Rattle.replica.specs.declared.refusal.Refusal.TheVariants.{Exhausted, MembersFull, TotalFull}
use Rattle.replica.specs.Changes.{Change, Meaning, Refused, Makes, AddMember, RemoveMember, SetField, CountCall, add_at, count_at, is_exhausted, is_full, is_past_total, is_too_long, meaning, meaning_of_setting, remove_of, within_limits, write_at}
use Rattle.replica.specs.FrameSteps.{IsSmallSite, StaysSmall, StepsStaySmall}
use Rattle.replica.specs.Queues.{number_of}
use Rattle.replica.specs.SiteViews.{SiteView, dots_seen, is_past_limits, site_view}
use Rattle.replica.specs.Steps.{SiteKnowledge, Do, Cut, Whole, Take, CellsFull, Framed, NoNumber, RunsFull, Taken, after_frame, after_meaning, cut, new_site, take}
use Rattle.replica.proofs.MadeLimits.{in_queue_made, where_absent_made, where_present_made}
use Rattle.replica.proofs.SiteViewLaws.{one_more}

-- ---- nothing

-- no dot is visible to what knows nothing, and none is known
none_visible : visible_dots [] ≡ set.empty
none_visible = set.same_set dots_total dots_exact _ _ (λ q. visible_dot [] q ∙ sym (set.contains-empty dot_cmp q))

no_runs : run_count (set.empty {R = dot_cmp}) ≡ 0
no_runs = run_count_runs [] set.empty (record { apart = tt; same = λ q. set.contains-empty dot_cmp q })

nothing_small : IsSmallEnough []
nothing_small =
    let cells = ap set.len none_visible ∙ set.len-empty dot_cmp in
    let runs = ap run_count (sym represents_none.dots) ∙ no_runs in
    record { cells = omega (arith, cells); runs = omega (arith, runs) }

pub new_small : IsSmallSite new_site
new_small = record { known = nothing_small; buffer = nothing_small }

-- ---- one operation more

-- what is made is too much for neither reading
record IsMadeBelow (r buffer : SiteView) (o : Operation) : Type 0 where
  known : is_full r o ≡ false
  pending : is_full buffer o ≡ false

made_below : (r buffer : SiteView) (o p : Operation) → within_limits r buffer o ≡ Makes p → IsMadeBelow r buffer p
made_below r buffer o p h = by (is_full r o) (is_full buffer o) (is_too_long o) (is_exhausted o) (is_past_total o) refl refl h
  where
    by : (a b c d e : Bool) → is_full r o ≡ a → is_full buffer o ≡ b
        → (if a || (b || c) then Refused MembersFull else if d then Refused Exhausted else if e then Refused TotalFull else Makes o) ≡ Makes p → IsMadeBelow r buffer p
    by true b c d e f g h = absurd (cc)
    by false true c d e f g h = absurd (cc)
    by false false true d e f g h = absurd (cc)
    by false false false true e f g h = absurd (cc)
    by false false false false true f g h = absurd (cc)
    by false false false false false f g h = let same : o ≡ p = cc in subst (IsMadeBelow r buffer) same (record { known = f; pending = g })

setting_below : (site : ℕ) (r buffer : SiteView) (setting : Setting) (dots : List (Dot × Member)) (o : Operation) → meaning_of_setting site r buffer setting dots ≡ Makes o
    → IsMadeBelow r buffer o
setting_below site r buffer setting dots o h =
    let write = write_at site r setting dots in made_below r buffer write o (where_present_made dots (within_limits r buffer write) o h)

means_below : (site : ℕ) (names : List (List ℕ)) (change : Change) (r buffer : SiteView) (o : Operation) → meaning site names r buffer change ≡ Makes o → IsMadeBelow r buffer o
means_below site names (AddMember queue interface penalty paused label) r buffer o h =
    let q = in_queue_made (number_of names queue) _ o h in
    let add = add_at site r (record { queue = q.0; interface = interface }) penalty paused label in
    made_below r buffer add o (where_absent_made (dots_seen r.dots (Some q.0) interface) (within_limits r buffer add) o q.2)
means_below site names (RemoveMember queue interface) r buffer o h =
    let q = in_queue_made (number_of names queue) _ o h in
    let dots = dots_seen r.dots (Some q.0) interface in
    made_below r buffer (remove_of dots) o (where_present_made dots (within_limits r buffer (remove_of dots)) o q.2)
means_below site names (SetField None interface setting) r buffer o h = setting_below site r buffer setting (dots_seen r.dots None interface) o h
means_below site names (SetField (Some queue) interface setting) r buffer o h =
    let q = in_queue_made (number_of names queue) _ o h in
    setting_below site r buffer setting (dots_seen r.dots (Some q.0) interface) o q.2
means_below site names (CountCall queue calls) r buffer o h =
    let q = in_queue_made (number_of names queue) _ o h in made_below r buffer (count_at site r q.0 calls) o q.2

-- what neither test finds to be past a limit is within it
within_both : (a b c d : ℕ) → (nat_lt a b || nat_lt c d) ≡ false → (b ≤ a) × (d ≤ c)
within_both a b c d h = (grind (arith, nat_tests), grind (arith, nat_tests))

one_more_small : (site : ℕ) (k : Knowledge) (o : Operation) → is_full (site_view site k) o ≡ false → IsSmallEnough (o ∷ k)
one_more_small site k o below =
    let seen = one_more site k o in
    let few =
    within_both MOST_LIVE (set.len (visible_dots (o ∷ k))) MOST_RUNS (run_count (known_dots (o ∷ k)))
    (sym (λ i. is_past_limits (seen.visible i) (seen.known i)) ∙ below) in
    record { cells = few.0; runs = few.1 }

-- ---- steps

do_stays : (site : ℕ) (names : List (List ℕ)) (s : SiteKnowledge) (change : Change) → IsSmallSite s → (m : Meaning) → meaning site names (site_view site s.known) (site_view site s.buffer) change ≡ m
    → StaysSmall (after_meaning s m)
do_stays site names s change small (Refused refusal) is = record { site = small; frame = tt }
do_stays site names s change small (Makes o) is =
    let below = means_below site names change (site_view site s.known) (site_view site s.buffer) o is in
    record { site = record { known = one_more_small site s.known o below.known; buffer = one_more_small site s.buffer o below.pending }; frame = tt }

frame_stays : (s : SiteKnowledge) (frame buffer : Knowledge) → IsSmallSite s → IsSmallEnough frame → IsSmallEnough buffer → StaysSmall (after_frame s frame buffer)
frame_stays s frame buffer small says rest = by (nat_lt MOST_COUNT (suc s.frames)) refl
  where
    counted : (n most : ℕ) → nat_lt most (suc n) ≡ false → suc n ≤ most
    counted n most h = grind (arith, nat_tests)

    by : (b : Bool) → nat_lt MOST_COUNT (suc s.frames) ≡ b
        → StaysSmall (if b then (s, NoNumber) else (record { known = s.known; buffer = buffer; frames = suc s.frames }, Framed (suc s.frames) frame))
    by true e = record { site = small; frame = tt }
    by false e = record { site = record { known = small.known; buffer = rest }; frame = ((omega arith, counted s.frames MOST_COUNT e), says) }

cut_stays : (s : SiteKnowledge) (buffer : Knowledge) → IsSmallSite s → IsSmallEnough buffer → StaysSmall (cut s buffer)
cut_stays s [] small says = record { site = small; frame = tt }
cut_stays s (o ∷ os) small says = frame_stays s (o ∷ os) [] small says nothing_small

take_stays : (s : SiteKnowledge) (frame : Knowledge) → IsSmallSite s → StaysSmall (take s frame)
take_stays s frame small = by (nat_lt MOST_LIVE (set.len (visible_dots (frame ++ s.known)))) (nat_lt MOST_RUNS (run_count (known_dots (frame ++ s.known)))) refl refl
  where
    few : (n most : ℕ) → nat_lt most n ≡ false → n ≤ most
    few n most h = grind (arith, nat_tests)

    by : (cells runs : Bool) → nat_lt MOST_LIVE (set.len (visible_dots (frame ++ s.known))) ≡ cells → nat_lt MOST_RUNS (run_count (known_dots (frame ++ s.known))) ≡ runs
        → StaysSmall (if cells then (s, CellsFull) else if runs then (s, RunsFull) else (record { known = frame ++ s.known; buffer = s.buffer; frames = s.frames }, Taken))
    by true runs e f = record { site = small; frame = tt }
    by false true e f = record { site = small; frame = tt }
    by false false e f = record {
      site = record {
        known = record {
          cells = few (set.len (visible_dots (frame ++ s.known))) MOST_LIVE e;
          runs = few (run_count (known_dots (frame ++ s.known))) MOST_RUNS f;
        };
        buffer = small.buffer;
      };
      frame = tt;
    }

pub steps_stay : StepsStaySmall
steps_stay site names s (Do change) small = do_stays site names s change small (meaning site names (site_view site s.known) (site_view site s.buffer) change) refl
steps_stay site names s Cut small = cut_stays s s.buffer small small.buffer
steps_stay site names s Whole small = frame_stays s s.known s.buffer small small.known small.buffer
steps_stay site names s (Take frame) small = take_stays s frame small
