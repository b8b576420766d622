-- What the text of a session promises.
use Rattle.std.proofs.Common.{◌≡◌, ⊎_elim, ℕ, ◌||◌, Bool, true, true≢false, List, [], ◌∷◌, ◌++◌, refl, sym, ap, ◌∙◌, subst, append_assoc, append-nil}
use Rattle.ami_text.specs.Stream.{Ending, Gives, IsRest, Reads, Rest}
use Rattle.status_report.specs.declared.asks.Answer.{Answer}
use Rattle.status_report.specs.declared.asks.Ask.{Ask}
use Rattle.ami_session.specs.Checks.{SessionState, Reaction, Replies, Asks, Ends, reaction, after}
use Rattle.ami_session.specs.FieldValues.{Fields}
use Rattle.ami_session.specs.Checks.{answer_reply}
use Rattle.ami_session.specs.Text.{greeting, reaction_text, replies, reaction_asks, asks, after_all, is_end, is_over, session_text, AreOf, NothingFollows, IsFrontOfLonger, IsFrontOfMore, SameText}

written_same : (r : Reaction) (f g : List Answer → List ℕ) → ((answers : List Answer) → f answers ≡ g answers) → (answers : List Answer) → reaction_text r f answers ≡ reaction_text r g answers
written_same (Replies bytes) f g same answers = ap (λ t. bytes ++ t) (same answers)
written_same (Ends bytes) f g same answers = refl
written_same (Asks ask waiting) f g same [] = refl
written_same (Asks ask waiting) f g same (answer ∷ answers) = ap (λ t. answer_reply waiting answer ++ t) (same answers)

replies_end : (before : List Fields) (s : SessionState) (last : Fields) (bytes : List ℕ) → reaction (after_all s before) last ≡ Ends bytes → (others more : List Fields) (answers : List Answer)
    → replies s (before ++ last ∷ others) answers ≡ replies s (before ++ last ∷ more) answers
replies_end [] s last bytes e others more answers = ap (λ r. reaction_text r (replies (after s last) others) answers) e ∙ sym (ap (λ r. reaction_text r (replies (after s last) more) answers) e)
replies_end (m ∷ before) s last bytes e others more answers =
    written_same (reaction s m) (replies (after s m) (before ++ last ∷ others)) (replies (after s m) (before ++ last ∷ more)) (replies_end before (after s m) last bytes e others more) answers

asks_end : (before : List Fields) (s : SessionState) (last : Fields) (bytes : List ℕ) → reaction (after_all s before) last ≡ Ends bytes → (others more : List Fields) → asks s (before ++ last ∷ others) ≡ asks s (before ++ last ∷ more)
asks_end [] s last bytes e others more = ap (λ r. reaction_asks r (asks (after s last) others)) e ∙ sym (ap (λ r. reaction_asks r (asks (after s last) more)) e)
asks_end (m ∷ before) s last bytes e others more = ap (reaction_asks (reaction s m)) (asks_end before (after s m) last bytes e others more)

pub nothing_follows : (s : SessionState) (before : List Fields) (last : Fields) → NothingFollows s before last
nothing_follows s before last = record {
  text = λ bytes e others more answers. ap (λ t. greeting s ++ t) (replies_end before s last bytes e others more answers);
  asks = λ bytes e others more. asks_end before s last bytes e others more;
}

front : (ms : List Fields) (s : SessionState) (answers more : List Answer) → (rest : List ℕ) × (replies s ms (answers ++ more) ≡ replies s ms answers ++ rest)
front [] s answers more = ([], refl)
front (m ∷ ms) s answers more = by (reaction s m) answers (front ms (after s m))
  where
    by : (r : Reaction) (answers : List Answer) → ((a b : List Answer) → (rest : List ℕ) × (replies (after s m) ms (a ++ b) ≡ replies (after s m) ms a ++ rest))
        → (rest : List ℕ) × (reaction_text r (replies (after s m) ms) (answers ++ more) ≡ reaction_text r (replies (after s m) ms) answers ++ rest)
    by (Replies bytes) answers go =
        let one = go answers more in
        (one.0, ap (λ t. bytes ++ t) one.1 ∙ sym (append_assoc bytes (replies (after s m) ms answers) one.0))
    by (Ends bytes) answers go = ([], sym (append-nil bytes))
    by (Asks ask waiting) [] go = (reaction_text (Asks ask waiting) (replies (after s m) ms) more, refl)
    by (Asks ask waiting) (answer ∷ answers) go =
        let one = go answers more in
        (one.0, ap (λ t. answer_reply waiting answer ++ t) one.1 ∙ sym (append_assoc (answer_reply waiting answer) (replies (after s m) ms answers) one.0))

pub front_of_more : (s : SessionState) (ms : List Fields) (answers more : List Answer) → IsFrontOfMore s ms answers more
front_of_more s ms answers more = let one = front ms s answers more in record {
  rest = one.0;
  is = ap (λ t. greeting s ++ t) one.1 ∙ sym (append_assoc (greeting s) (replies s ms answers) one.0);
}

longer : (ms : List Fields) (s : SessionState) (more : List Fields) (answers : List Answer) → (rest : List ℕ) × (replies s (ms ++ more) answers ≡ replies s ms answers ++ rest)
longer [] s more answers = (replies s more answers, refl)
longer (m ∷ ms) s more answers = by (reaction s m) answers (longer ms (after s m) more)
  where
    by : (r : Reaction) (answers : List Answer) → ((a : List Answer) → (rest : List ℕ) × (replies (after s m) (ms ++ more) a ≡ replies (after s m) ms a ++ rest))
        → (rest : List ℕ) × (reaction_text r (replies (after s m) (ms ++ more)) answers ≡ reaction_text r (replies (after s m) ms) answers ++ rest)
    by (Replies bytes) answers go =
        let one = go answers in
        (one.0, ap (λ t. bytes ++ t) one.1 ∙ sym (append_assoc bytes (replies (after s m) ms answers) one.0))
    by (Ends bytes) answers go = ([], sym (append-nil bytes))
    by (Asks ask waiting) [] go = ([], refl)
    by (Asks ask waiting) (answer ∷ answers) go =
        let one = go answers in
        (one.0, ap (λ t. answer_reply waiting answer ++ t) one.1 ∙ sym (append_assoc (answer_reply waiting answer) (replies (after s m) ms answers) one.0))

pub front_of_longer : (s : SessionState) (ms more : List Fields) (answers : List Answer) → IsFrontOfLonger s ms more answers
front_of_longer s ms more answers = let one = longer ms s more answers in record {
  rest = one.0;
  is = ap (λ t. greeting s ++ t) one.1 ∙ sym (append_assoc (greeting s) (replies s ms answers) one.0);
}

-- nothing counts behind messages one of which ends the session
over_by : (r : Reaction) (rest : Bool) (f g : List Answer → List ℕ) → (rest ≡ true → (answers : List Answer) → f answers ≡ g answers) → (is_end r || rest) ≡ true
    → (answers : List Answer) → reaction_text r f answers ≡ reaction_text r g answers
over_by (Replies bytes) rest f g so over answers = ap (λ t. bytes ++ t) (so over answers)
over_by (Ends bytes) rest f g so over answers = refl
over_by (Asks ask waiting) rest f g so over [] = refl
over_by (Asks ask waiting) rest f g so over (answer ∷ answers) = ap (λ t. answer_reply waiting answer ++ t) (so over answers)

replies_over : (ms : List Fields) (s : SessionState) (more : List Fields) → is_over s ms ≡ true → (answers : List Answer) → replies s (ms ++ more) answers ≡ replies s ms answers
replies_over [] s more over answers = absurd (true≢false (sym over))
replies_over (m ∷ ms) s more over answers =
    over_by (reaction s m) (is_over (after s m) ms) (replies (after s m) (ms ++ more)) (replies (after s m) ms) (replies_over ms (after s m) more) over answers

asks_by : (r : Reaction) (rest : Bool) (f g : List Ask) → (rest ≡ true → f ≡ g) → (is_end r || rest) ≡ true → reaction_asks r f ≡ reaction_asks r g
asks_by (Replies bytes) rest f g so over = so over
asks_by (Ends bytes) rest f g so over = refl
asks_by (Asks ask waiting) rest f g so over = ap (λ t. ask ∷ t) (so over)

asks_over : (ms : List Fields) (s : SessionState) (more : List Fields) → is_over s ms ≡ true → asks s (ms ++ more) ≡ asks s ms
asks_over [] s more over = absurd (true≢false (sym over))
asks_over (m ∷ ms) s more over = asks_by (reaction s m) (is_over (after s m) ms) (asks (after s m) (ms ++ more)) (asks (after s m) ms) (asks_over ms (after s m) more) over

-- a stream has messages
abbrev pub EachReads : Type 0
EachReads = (bytes : List ℕ) → (messages : List Fields) × (ending : Ending) × Reads bytes messages ending

-- a stream has one list of messages
abbrev pub OneReading : Type 0
OneReading = (bytes : List ℕ) (messages others : List Fields) (ending other : Ending) → Reads bytes messages ending → Reads bytes others other → messages ≡ others

-- the messages of two pieces
abbrev pub PiecesJoin : Type 0
PiecesJoin = (first second held : List ℕ) (messages more : List Fields) (ending : Ending) → Gives first messages held → Reads (held ++ second) more ending → Reads (first ++ second) (messages ++ more) ending

-- the text of a session's messages is that of all
text_of_all : EachReads → OneReading → PiecesJoin → (s : SessionState) (bytes : List ℕ) (ms all : List Fields) (ending : Ending) → Reads bytes all ending → AreOf s bytes ms → SameText s all ms
text_of_all each one join s bytes ms all ending reads are = ⊎_elim over at_end are.whole
  where
    over : is_over s ms ≡ true → SameText s all ms
    over is =
        let behind = each (are.rest ++ []) in
        let both : Reads bytes (ms ++ behind.0) behind.1 = subst (λ t. Reads t (ms ++ behind.0) behind.1) (append-nil bytes) (join bytes [] are.rest ms behind.0 behind.1 are.gives behind.2) in
        let same : all ≡ ms ++ behind.0 = one bytes all (ms ++ behind.0) ending behind.1 reads both in
        record {
          text = λ answers. ap (λ t. greeting s ++ replies s t answers) same ∙ ap (λ t. greeting s ++ t) (replies_over ms s behind.0 is answers);
          asks = ap (asks s) same ∙ asks_over ms s behind.0 is;
        }

    at_end : IsRest are.rest → SameText s all ms
    at_end is =
        let same : all ≡ ms = one bytes all ms ending (Rest are.rest) reads (are.gives, is) in
        record { text = λ answers. ap (λ t. session_text s t answers) same; asks = ap (asks s) same }

pub one_text : EachReads → OneReading → PiecesJoin → (s : SessionState) (bytes : List ℕ) (ms others : List Fields) → AreOf s bytes ms → AreOf s bytes others → SameText s ms others
one_text each one join s bytes ms others are others_are =
    let all = each bytes in
    let left = text_of_all each one join s bytes ms all.0 all.1 all.2 are in
    let right = text_of_all each one join s bytes others all.0 all.1 all.2 others_are in
    record { text = λ answers. sym (left.text answers) ∙ right.text answers; asks = sym left.asks ∙ right.asks }
