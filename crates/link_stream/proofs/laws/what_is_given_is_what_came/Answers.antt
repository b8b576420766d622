use Rattle.std.proofs.Common.{◌≡◌, ◌∙◌, ◌++◌, ◌+◌, ◌∷◌, List, [], ap, append-nil, append_assoc, sym, ℕ}
use Rattle.link_stream.specs.Sequences.{Event, HaveHappened, all_came, all_given, all_tagged}
use Rattle.link_stream.specs.Sequences.Event.{Came, Given}
use Rattle.link_stream.specs.Tagged.{TaggedState, TakesTagged, tagged}
use Rattle.link_stream.proofs.laws.what_is_given_is_what_came.Goals as goal

-- an item more in front
one_more : (old stream new : TaggedState) (item came : List ℕ) (items : List (List ℕ)) → TakesTagged old item stream
    → stream.held ++ came ≡ all_tagged stream.key stream.taken items ++ new.held
    → old.held ++ came ≡ (tagged old.key old.taken item ++ all_tagged old.key (old.taken + 1) items) ++ new.held
one_more old stream new item came items first is =
    ap (λ h. h ++ came) first.held
    ∙ append_assoc (tagged old.key old.taken item) stream.held came
    ∙ ap (λ h. tagged old.key old.taken item ++ h)
    (is ∙ ap (λ k. all_tagged k stream.taken items ++ new.held) first.key ∙ ap (λ n. all_tagged old.key n items ++ new.held) first.taken)
    ∙ sym (append_assoc (tagged old.key old.taken item) (all_tagged old.key (old.taken + 1) items) new.held)

all_is : (events : List Event) (old new : TaggedState) → HaveHappened old events new
    → old.held ++ all_came events ≡ all_tagged old.key old.taken (all_given events) ++ new.held
all_is [] old new same = append-nil old.held ∙ ap (λ (s : TaggedState). s.held) (sym same)
all_is (Came bytes ∷ events) old new have =
    sym (append_assoc old.held bytes (all_came events)) ∙ all_is events (record old { held = old.held ++ bytes }) new have
all_is (Given item ∷ events) old new (stream, first, rest) =
    one_more old stream new item (all_came events) (all_given events) first (all_is events stream new rest)

pub returns : goal.returns
returns c = λ old new events have. all_is events old new have
