-- What a replica stands for, through each of its steps.
use Rattle.std.proofs.Common.{◌≡◌, ◌≤◌, ◌↔◌, inl, inr, ℕ, suc, max, List, [], ◌∷◌, ◌++◌, Result, refl, sym, ap, subst, ◌∙◌, arith}
use Rattle.std.specs.FinMap as map
use Rattle.operations.specs.Operations.{Operation}
use Rattle.operations.specs.Knowledge.{Knowledge}
use Rattle.operations.specs.Totals.{totals_of}
use Rattle.operations.specs.Traces.{LeavesTrace, LeaveTraces}
use Rattle.general_lemmas.proofs.Membership.{cases_in, nothing_in}
use Rattle.operations.proofs.StandingJoins.{represents_none}
use Rattle.delta.specs.DeltaStates as deltas
use Rattle.delta.specs.DeltaStates.{DeltaState, IsEmpty, IsSame}
use Rattle.delta.specs.Joining.{DeltasAgree, IsJoinOf}
use Rattle.delta.specs.Standing.{IsDeltaOf}
use Rattle.delta.proofs.Merging.{turned}
use Rattle.delta.proofs.ShownDeltas.{read_as}
use Rattle.delta.proofs.StandingDeltas.{empty_where, same_stands, stands_for_both}
use Rattle.replica.specs.declared.refusal.Refusal.{Refusal}
use Rattle.replica.specs.Changes.{Change, Makes, Meaning, Refused, meaning}
use Rattle.replica.specs.Commands.{Follows, HasJoined, HasMade, IsDone}
use Rattle.replica.specs.Promises.{AreAlike, AreAsFull}
use Rattle.replica.specs.Site.{IsUnchanged, SiteState, meaning_at, view_of}
use Rattle.replica.specs.SiteViews.{count_used, greatest, site_view, time_used}
use Rattle.replica.specs.Standing.{IsMeant, StandsFor, result_of}
use Rattle.replica.specs.Steps.{Do, SiteKnowledge, after_meaning, new_site, step}
use Rattle.replica.proofs.AlikeSites.{means_alike}
use Rattle.replica.proofs.Below.{unchanged_condition}
use Rattle.replica.proofs.TracesMade.{makes_traces}

-- ---- deltas that say the same

-- a delta that is unchanged says the same
pub unchanged_same : (old new : DeltaState) → deltas.IsUnchanged old new → IsSame old new
unchanged_same old new same = record { conditions = λ dot. sym (unchanged_condition old new same dot); known = sym same.members.known; totals = sym same.totals }

-- an equal delta says the same
pub equal_same : (old new : DeltaState) → new ≡ old → IsSame old new
equal_same old new e = subst (λ d. IsSame d new) e (record { conditions = λ dot. refl; known = refl; totals = refl })

-- an empty delta is that of no operation
pub empty_stands : (d : DeltaState) → IsEmpty d → IsDeltaOf d []
empty_stands d empty = record {
  conditions = empty.conditions;
  dots = empty.known ∙ represents_none.dots;
  totals = λ site queue. ap (λ e. totals_of e site queue) empty.totals ∙ represents_none.totals site queue;
  no_zeros = λ key p e. represents_none.no_zeros key p (ap (λ t. map.get t key) (sym empty.totals) ∙ e);
}

-- ---- what commands mean

-- what a site stands for reads alike
reads_alike : (state : SiteState) (s : SiteKnowledge) → StandsFor state s → AreAlike (view_of state state.state) (site_view state.site s.known)
reads_alike state s stands = let read = read_as state.state s.known stands.known in record {
  dots = read.dots;
  known = stands.known.dots;
  totals = read.totals;
  last_count = sym stands.last_count;
  last_time = sym stands.last_time;
}

-- the buffer of a site is as full as that of its knowledge
reads_as_full : (state : SiteState) (s : SiteKnowledge) → StandsFor state s → AreAsFull (view_of state state.pending) (site_view state.site s.buffer)
reads_as_full state s stands = record { visible = (read_as state.pending s.buffer stands.buffer).dots.visible; known = stands.buffer.dots }

-- a change means at a site what it means at what the site stands for
pub means_what_it_knows : (state : SiteState) (s : SiteKnowledge) (change : Change) → StandsFor state s
    → meaning_at state change ≡ meaning state.site state.names (site_view state.site s.known) (site_view state.site s.buffer) change
means_what_it_knows state s change stands =
    (means_alike (view_of state state.state) (site_view state.site s.known) (view_of state state.pending) (site_view state.site s.buffer)
    (reads_alike state s stands) (reads_as_full state s stands)).meanings state.site state.names change

-- ---- one operation more

-- a delta joined with that of one operation stands for one operation more
pub joined_stands : (old new : DeltaState) (o : Operation) (k : Knowledge) → IsDeltaOf old k → HasJoined old o new → IsDeltaOf new (o ∷ k)
joined_stands old new o k stands made = stands_for_both made.change old new (o ∷ []) k made.stands stands (turned old made.change new made.agrees made.joined)

-- a buffer with one operation more that leaves a trace
traces_more : (o : Operation) (buffer : Knowledge) → LeavesTrace o → LeaveTraces buffer → LeaveTraces (o ∷ buffer)
traces_more o buffer leaves all p here = elim (cases_in o buffer p here) [
  | inl e ↦ subst LeavesTrace e leaves
  | inr rest ↦ all p rest
]

-- a site that has made an operation stands for that with what it stood for
pub made_stands : (old new : SiteState) (s : SiteKnowledge) (o : Operation) → StandsFor old s → HasMade old o new → LeavesTrace o
    → StandsFor new (record { known = o ∷ s.known; buffer = o ∷ s.buffer; frames = s.frames })
made_stands old new s o stands made leaves = record {
  known = joined_stands old.state new.state o s.known stands.known made.state;
  buffer = joined_stands old.pending new.pending o s.buffer stands.buffer made.pending;
  traces = traces_more o s.buffer leaves stands.traces;
  last_count = ap (λ n. greatest (count_used n) (o ∷ s.known)) made.site ∙ ap (max (count_used old.site o)) stands.last_count ∙ sym made.last_count;
  last_time = ap (λ n. greatest (time_used n) (o ∷ s.known)) made.site ∙ ap (max (time_used old.site o)) stands.last_time ∙ sym made.last_time;
  frames = stands.frames ∙ sym made.frames;
}

-- ---- nothing new

-- a site that says the same but for the number of its frames stands for the same but for that
pub same-stands : (old new : SiteState) (s : SiteKnowledge) (frames : ℕ) → StandsFor old s → new.site ≡ old.site → IsSame old.state new.state → IsSame old.pending new.pending
    → new.last_count ≡ old.last_count → new.last_time ≡ old.last_time → frames ≡ new.frames → StandsFor new (record { known = s.known; buffer = s.buffer; frames = frames })
same-stands old new s frames stands site state pending count time number = record {
  known = same_stands old.state new.state s.known state stands.known;
  buffer = same_stands old.pending new.pending s.buffer pending stands.buffer;
  traces = stands.traces;
  last_count = ap (λ n. greatest (count_used n) s.known) site ∙ stands.last_count ∙ sym count;
  last_time = ap (λ n. greatest (time_used n) s.known) site ∙ stands.last_time ∙ sym time;
  frames = number;
}

-- a site that is unchanged stands for the same
pub unchanged_stands : (old new : SiteState) (s : SiteKnowledge) → StandsFor old s → IsUnchanged old new → StandsFor new s
unchanged_stands old new s stands same =
    same-stands old new s s.frames stands same.site (unchanged_same old.state new.state same.state) (unchanged_same old.pending new.pending same.pending)
    same.last_count same.last_time (stands.frames ∙ sym same.frames)

-- ---- commands

-- what follows from a meaning stands for what is meant
pub follows_means : (old new : SiteState) (s : SiteKnowledge) (change : Change) (result : Result (Unit {0}) Refusal) → StandsFor old s → Follows old (meaning_at old change) new result
    → StandsFor new (step old.site old.names s (Do change)).0 × (result ≡ result_of (step old.site old.names s (Do change)).1)
follows_means old new s change result stands follows =
    subst (λ m. StandsFor new (after_meaning s m).0 × (result ≡ result_of (after_meaning s m).1)) (means_what_it_knows old s change stands)
    (by (meaning_at old change) (makes_traces old.site old.names change (view_of old old.state) (view_of old old.pending)) follows)
  where
    by : (m : Meaning) → ((o : Operation) → m ≡ Makes o → LeavesTrace o) → Follows old m new result → StandsFor new (after_meaning s m).0 × (result ≡ result_of (after_meaning s m).1)
    by (Makes o) leaves follows = (made_stands old new s o stands follows.1 (leaves o refl), follows.0)
    by (Refused refusal) leaves follows = (unchanged_stands old new s stands follows.1, follows.0)

-- what is done stands for what is meant
pub done_means : (old new : SiteState) (s : SiteKnowledge) (change : Change) (result : Result (Unit {0}) Refusal) → StandsFor old s
    → IsDone old (meaning_at old change) new result → IsMeant old new result (step old.site old.names s (Do change))
done_means old new s change result stands (inl follows) = inl (follows_means old new s change result stands follows)
done_means old new s change result stands (inr other) = inr (other.0, other.1)

-- ---- frames

-- a buffer is empty exactly where it stands for no operation
pub empty_buffer : (state : SiteState) (s : SiteKnowledge) → StandsFor state s → IsEmpty state.pending ↔ (s.buffer ≡ [])
empty_buffer state s stands = empty_where state.pending s.buffer stands.traces stands.buffer

-- no operation is without a trace where there is none
traces_nothing : LeaveTraces []
traces_nothing o here = absurd (nothing_in o here)

-- a site that has cut its buffer stands for what it knew, with an empty buffer and one frame more
pub cut_stands : (old new : SiteState) (s : SiteKnowledge) → StandsFor old s → new.site ≡ old.site → IsSame old.state new.state → IsEmpty new.pending
    → new.last_count ≡ old.last_count → new.last_time ≡ old.last_time → new.frames ≡ suc old.frames
    → StandsFor new (record { known = s.known; buffer = []; frames = suc s.frames })
cut_stands old new s stands site state empty count time frames = record {
  known = same_stands old.state new.state s.known state stands.known;
  buffer = empty_stands new.pending empty;
  traces = traces_nothing;
  last_count = ap (λ n. greatest (count_used n) s.known) site ∙ stands.last_count ∙ sym count;
  last_time = ap (λ n. greatest (time_used n) s.known) site ∙ stands.last_time ∙ sym time;
  frames = ap suc stands.frames ∙ sym frames;
}

-- a site that has made a frame of all that it knows stands for the same, with one frame more
pub whole_stands : (old new : SiteState) (s : SiteKnowledge) → StandsFor old s → new.site ≡ old.site → IsSame old.state new.state → IsSame old.pending new.pending
    → new.last_count ≡ old.last_count → new.last_time ≡ old.last_time → new.frames ≡ suc old.frames
    → StandsFor new (record { known = s.known; buffer = s.buffer; frames = suc s.frames })
whole_stands old new s stands site state pending count time frames = same-stands old new s (suc s.frames) stands site state pending count time (ap suc stands.frames ∙ sym frames)

-- the greatest of two lists together is the greater of both
pub greatest_both : {X : Type 0} (f : X → ℕ) (xs ys : List X) → greatest f (xs ++ ys) ≡ max (greatest f xs) (greatest f ys)
greatest_both f [] ys = omega arith
greatest_both f (x ∷ xs) ys = let rest = greatest_both f xs ys in omega (arith, rest)

-- a site that has taken a frame stands for that with what it stood for, where the frame has no later numbers of its own
pub taken_stands : (old new : SiteState) (s : SiteKnowledge) (frame : DeltaState) (k : Knowledge) → StandsFor old s → IsDeltaOf frame k → DeltasAgree old.state frame → IsJoinOf old.state frame new.state
    → new.site ≡ old.site → IsSame old.pending new.pending → new.last_count ≡ old.last_count → new.last_time ≡ old.last_time → new.frames ≡ old.frames
    → greatest (count_used old.site) k ≤ old.last_count → greatest (time_used old.site) k ≤ old.last_time
    → StandsFor new (record { known = k ++ s.known; buffer = s.buffer; frames = s.frames })
taken_stands old new s frame k stands is agree joined site pending count time frames counts times = record {
  known = stands_for_both frame old.state new.state k s.known is stands.known (turned old.state frame new.state agree joined);
  buffer = same_stands old.pending new.pending s.buffer pending stands.buffer;
  traces = stands.traces;
  last_count = ap (λ n. greatest (count_used n) (k ++ s.known)) site ∙ (let own = stands.last_count in omega (arith, greatest_both (count_used old.site) k s.known));
  last_time = ap (λ n. greatest (time_used n) (k ++ s.known)) site ∙ (let own = stands.last_time in omega (arith, greatest_both (time_used old.site) k s.known));
  frames = stands.frames ∙ sym frames;
}

-- ---- a new site

-- a site that knows nothing, and has used no number, stands for a new one
pub new_stands : (it : SiteState) → IsEmpty it.state → IsEmpty it.pending → it.last_count ≡ 0 → it.last_time ≡ 0 → it.frames ≡ 0 → StandsFor it new_site
new_stands it state pending count time frames = record {
  known = empty_stands it.state state;
  buffer = empty_stands it.pending pending;
  traces = traces_nothing;
  last_count = sym count;
  last_time = sym time;
  frames = sym frames;
}
