-- How the text of a session grows by a message.
use Rattle.std.proofs.Common.{◌≡◌, ℕ, ◌||◌, Bool, true, false, List, [], ◌∷◌, ◌++◌, refl, sym, ◌∙◌, ap, subst, append_assoc, true≢false}
use Rattle.status_report.specs.declared.asks.Answer.{Answer}
use Rattle.status_report.specs.declared.asks.Ask.{Ask}
use Rattle.ami_session.specs.Checks.{SessionState, Reaction, Replies, Asks, Ends, after, answer_reply, reaction}
use Rattle.ami_session.specs.FieldValues.{Fields}
use Rattle.ami_session.specs.Text.{after_all, asks, reaction_asks, greeting, is_end, is_over, replies, reaction_text}
use Rattle.serve.specs.Desks.{DeskRun}
use Rattle.serve.specs.Sessions.{HasText}
use Rattle.serve.specs.Steps.{HasReacted}

-- a desk that answers asks, and then others, answers both lists in a row
pub run_then : {D : Type 0} (Answers : D → Ask → Answer → D → Type 0) (asked : List Ask) (answers : List Answer) (more : List Ask) (others : List Answer) (d mid e : D)
    → DeskRun Answers d asked answers mid → DeskRun Answers mid more others e → DeskRun Answers d (asked ++ more) (answers ++ others) e
run_then Answers [] [] more others d mid e run then = subst (λ x. DeskRun Answers x more others e) (sym run) then
run_then Answers [] (answer ∷ answers) more others d mid e run then = absurd run
run_then Answers (ask ∷ asked) [] more others d mid e run then = absurd run
run_then Answers (ask ∷ asked) (answer ∷ answers) more others d mid e run then =
    (run.0, run.1, run_then Answers asked answers more others run.0 mid e run.2 then)

-- a session after one message more
pub after_one : (ms : List Fields) (s : SessionState) (m : Fields) → after_all s (ms ++ m ∷ []) ≡ after (after_all s ms) m
after_one [] s m = refl
after_one (n ∷ ms) s m = after_one ms (after s n) m

-- whether it is over with it
or-false : (b : Bool) → (b || false) ≡ b
or-false true = refl
or-false false = refl

over_by : (r : Reaction) (rest more : Bool) (last : Bool) → (rest ≡ false → more ≡ last) → (is_end r || rest) ≡ false → (is_end r || more) ≡ last
over_by (Replies bytes) rest more last so going = so going
over_by (Asks ask waiting) rest more last so going = so going
over_by (Ends bytes) rest more last so going = absurd (true≢false going)

pub over_one : (ms : List Fields) (s : SessionState) (m : Fields) → is_over s ms ≡ false → is_over s (ms ++ m ∷ []) ≡ is_end (reaction (after_all s ms) m)
over_one [] s m going = or-false (is_end (reaction s m))
over_one (n ∷ ms) s m going =
    over_by (reaction s n) (is_over (after s n) ms) (is_over (after s n) (ms ++ m ∷ [])) (is_end (reaction (after_all (after s n) ms) m)) (over_one ms (after s n) m) going

-- what it asks comes behind what was asked
asks_by : (r : Reaction) (rest : Bool) (asked more last : List Ask) → (rest ≡ false → more ≡ asked ++ last) → (is_end r || rest) ≡ false
    → reaction_asks r more ≡ reaction_asks r asked ++ last
asks_by (Replies bytes) rest asked more last so going = so going
asks_by (Asks ask waiting) rest asked more last so going = ap (λ t. ask ∷ t) (so going)
asks_by (Ends bytes) rest asked more last so going = absurd (true≢false going)

pub asks_one : (ms : List Fields) (s : SessionState) (m : Fields) → is_over s ms ≡ false → asks s (ms ++ m ∷ []) ≡ asks s ms ++ reaction_asks (reaction (after_all s ms) m) []
asks_one [] s m going = refl
asks_one (n ∷ ms) s m going =
    asks_by (reaction s n) (is_over (after s n) ms) (asks (after s n) ms) (asks (after s n) (ms ++ m ∷ [])) (reaction_asks (reaction (after_all (after s n) ms) m) [])
    (asks_one ms (after s n) m) going

-- a further message's reply follows the replies, if the desk has answered all asks
reply_alone : (r : Reaction) (s : SessionState) (answers : List Answer) → reaction_text r (replies s []) answers ≡ reaction_text r (λ _. []) answers
reply_alone (Replies bytes) s answers = refl
reply_alone (Ends bytes) s answers = refl
reply_alone (Asks ask waiting) s [] = refl
reply_alone (Asks ask waiting) s (answer ∷ answers) = refl

replies_by : {D : Type 0} (Answers : D → Ask → Answer → D → Type 0) (r : Reaction) (rest : Bool) (asked : List Ask) (text more : List Answer → List ℕ) (last : List ℕ) (answers others : List Answer) (d e : D)
    → ((answers : List Answer) (d : D) → rest ≡ false → DeskRun Answers d asked answers e → more (answers ++ others) ≡ text answers ++ last)
    → (is_end r || rest) ≡ false → DeskRun Answers d (reaction_asks r asked) answers e → reaction_text r more (answers ++ others) ≡ reaction_text r text answers ++ last
replies_by Answers (Replies bytes) rest asked text more last answers others d e so going run =
    ap (λ t. bytes ++ t) (so answers d going run) ∙ sym (append_assoc bytes (text answers) last)
replies_by Answers (Asks ask waiting) rest asked text more last [] others d e so going run = absurd run
replies_by Answers (Asks ask waiting) rest asked text more last (answer ∷ answers) others d e so going run =
    ap (λ t. answer_reply waiting answer ++ t) (so answers run.0 going run.2) ∙ sym (append_assoc (answer_reply waiting answer) (text answers) last)
replies_by Answers (Ends bytes) rest asked text more last answers others d e so going run = absurd (true≢false going)

pub replies_one : {D : Type 0} (Answers : D → Ask → Answer → D → Type 0) (ms : List Fields) (s : SessionState) (m : Fields) (answers others : List Answer) (d e : D)
    → is_over s ms ≡ false → DeskRun Answers d (asks s ms) answers e
    → replies s (ms ++ m ∷ []) (answers ++ others) ≡ replies s ms answers ++ reaction_text (reaction (after_all s ms) m) (λ _. []) others
replies_one Answers [] s m [] others d e going run = reply_alone (reaction s m) (after s m) others
replies_one Answers [] s m (answer ∷ answers) others d e going run = absurd run
replies_one Answers (n ∷ ms) s m answers others d e going run =
    replies_by Answers (reaction s n) (is_over (after s n) ms) (asks (after s n) ms) (replies (after s n) ms) (replies (after s n) (ms ++ m ∷ []))
    (reaction_text (reaction (after_all (after s n) ms) m) (λ _. []) others) answers others d e
    (λ some from on ran. replies_one Answers ms (after s n) m some others from e on ran) going run

-- the session's text grows by the text of one message more
pub text_one : {D : Type 0} (Answers : D → Ask → Answer → D → Type 0) (s now : SessionState) (d mid e : D) (ms : List Fields) (m : Fields) (text more : List ℕ)
    → is_over s ms ≡ false → now ≡ after_all s ms → HasText Answers s d mid ms text → HasReacted Answers (reaction now m) mid e more
    → HasText Answers s d e (ms ++ m ∷ []) (text ++ more)
text_one Answers s now d mid e ms m text more going is has done =
    let r = reaction (after_all s ms) m in
    let here : HasReacted Answers r mid e more = subst (λ x. HasReacted Answers (reaction x m) mid e more) is done in
    record {
      answers = has.answers ++ here.answers;
      run = subst (λ asked. DeskRun Answers d asked (has.answers ++ here.answers) e) (sym (asks_one ms s m going))
          (run_then Answers (asks s ms) has.answers (reaction_asks r []) here.answers d mid e has.run here.run);
      is = ap (λ t. t ++ more) has.is ∙ append_assoc (greeting s) (replies s ms has.answers) more
          ∙ ap (λ t. greeting s ++ (replies s ms has.answers ++ t)) here.is
          ∙ ap (λ t. greeting s ++ t) (sym (replies_one Answers ms s m has.answers here.answers d mid going has.run));
    }
