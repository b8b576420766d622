-- What the line of an event gives, and the lines of a script of events.
use Rattle.std.proofs.Common.{◌≡◌, ◌∙◌, ℕ, ◌+◌, ◌<◌, ◌≤◌, ◌++◌, Bool, true, false, List, [], ◌∷◌, length, map, decimal, codes, Option, Some, None, Ok, slice_get, refl, sym, ap, subst, arith, append_assoc, append-nil, true≢false, inl}
use Rattle.std.specs.List.{AllByRecursion, flat_map, list_all, list_any}
use Rattle.std.proofs.lemmas.Bool.Decides.{nat_tests}
use Rattle.std.proofs.lemmas.List.{length-append}
use Rattle.ami_session.specs.Checks.{reaction}
use Rattle.ami_session.specs.declared.action.Action.{Action}
use Rattle.ami_session.specs.declared.action.Action.TheVariants.{QueueAdd, QueueRemove, QueuePause, QueuePenalty, QueueMemberRingInUse}
use Rattle.ask_code.specs.Asks.{IsCommand}
use Rattle.dots.specs.declared.calls.Calls.{Calls}
use Rattle.dots.specs.declared.calls.Calls.TheVariants as calls
use Rattle.dots.specs.Values.{IsName, is_bad_byte}
use Rattle.replica.specs.declared.command.Command.{Command}
use Rattle.replica.specs.declared.command.Command.TheVariants.{Add, Remove, Pause, Penalty, RingInUse, Completed, Abandoned}
use Rattle.replica.specs.Steps as steps
use Rattle.replica.specs.Steps.{SiteKnowledge}
use Rattle.script_lines.specs.ScriptLines.{IsMessage, Message, Count, lines_of, sense_of, words_sense}
use Rattle.scripts.specs.Answers.{answer_text, entry_text, outcome_text}
use Rattle.scripts.specs.Script.{Given, LineGives, ScriptSites, SenseGives, count_of, given_by_count, given_by_event, given_by_message, given_by_reaction, trusted_session, waited_reply}
use Rattle.site_journal.specs.declared.step.StepDeed.{StepDeed}
use Rattle.site_journal.specs.declared.step.StepDeed.TheVariants as deed
use Rattle.site_audit.specs.Runs.{GivesDeed}
use Rattle.sites_world.specs.declared.event.Event.{Event}
use Rattle.sites_world.specs.declared.event.Event.TheVariants as event
use Rattle.sites_world.specs.declared.outcome.Outcome.{Outcome}
use Rattle.sites_world.specs.declared.outcome.Outcome.TheVariants as outcome
use Rattle.sites_world.specs.Worlds.{Entry, World, framed, happens, happens_where, site_of, taken}
use Rattle.sites_world.proofs.Lists.{none_some, one_some}
use Rattle.status_report.specs.declared.asks.Answer.{Answer}
use Rattle.status_report.specs.declared.asks.Ask.{Ask}
use Rattle.status_report.specs.declared.asks.Ask.TheVariants as ask
use Rattle.event_script.specs.Lines.{HasLimits, can_say, command_fields, command_words, comment_mark, event_line, event_words, field_text, is_plain, message_words, script_of, texts_of}
use Rattle.event_script.specs.Shown.{answer_shown, deed_text, frames_in, reply_to}
use Rattle.event_script.proofs.Marks.{are_digits, content_clean, digits_clean, first_line, none_of_both}
use Rattle.event_script.proofs.Reactions.{add_asks, name_read, pause_asks, penalty_asks, remove_asks, ring_asks, waits}
use Rattle.event_script.proofs.Saying.{AreFields, command_fields_are, few_fields, fields_clean, fields_message, site_line, take_words}

-- ---- the pool

-- the place that an outcome reports, if it made a frame
abbrev reported_place : Outcome → Option ℕ
reported_place (outcome.Cut (Ok place)) = place
reported_place other = None

-- a frame that is made goes to the end of the pool
framed_place : (w : World) (site place : ℕ) (after : SiteKnowledge × steps.Outcome) → reported_place (framed site (length w.pool) after).outcome ≡ Some place
    → (place ≡ length w.pool) × (length (w.pool ++ (framed site (length w.pool) after).added) ≡ length w.pool + 1)
framed_place w site place (s, steps.Framed number carried) reported = (sym (one_some _ _ reported), length-append w.pool _)
framed_place w site place (s, steps.Done) reported = absurd (none_some place reported)
framed_place w site place (s, steps.Denied refusal) reported = absurd (none_some place reported)
framed_place w site place (s, steps.Nothing) reported = absurd (none_some place reported)
framed_place w site place (s, steps.NoNumber) reported = absurd (none_some place reported)
framed_place w site place (s, steps.Taken) reported = absurd (none_some place reported)
framed_place w site place (s, steps.CellsFull) reported = absurd (none_some place reported)
framed_place w site place (s, steps.RunsFull) reported = absurd (none_some place reported)

-- a cut or a whole without a frame leaves the pool
framed_nothing : (w : World) (site : ℕ) (after : SiteKnowledge × steps.Outcome) → reported_place (framed site (length w.pool) after).outcome ≡ None
    → length (w.pool ++ (framed site (length w.pool) after).added) ≡ length w.pool
framed_nothing w site (s, steps.Framed number carried) reported = absurd (none_some _ (sym reported))
framed_nothing w site (s, steps.Done) reported = ap (λ (p : List Entry). length p) (append-nil w.pool)
framed_nothing w site (s, steps.Denied refusal) reported = ap (λ (p : List Entry). length p) (append-nil w.pool)
framed_nothing w site (s, steps.Nothing) reported = ap (λ (p : List Entry). length p) (append-nil w.pool)
framed_nothing w site (s, steps.NoNumber) reported = ap (λ (p : List Entry). length p) (append-nil w.pool)
framed_nothing w site (s, steps.Taken) reported = ap (λ (p : List Entry). length p) (append-nil w.pool)
framed_nothing w site (s, steps.CellsFull) reported = ap (λ (p : List Entry). length p) (append-nil w.pool)
framed_nothing w site (s, steps.RunsFull) reported = ap (λ (p : List Entry). length p) (append-nil w.pool)

-- the frame of a cut, and of a whole, goes to the end of the pool
pub cut_place : (names : List (List ℕ)) (w : World) (site place : ℕ) → (happens names w (event.Cut site)).1 ≡ outcome.Cut (Ok (Some place))
    → (place ≡ length w.pool) × (length (happens names w (event.Cut site)).0.pool ≡ length w.pool + 1)
cut_place names w site place reported = by (slice_get w.sites site) (ap reported_place reported)
  where
    by : (s : Option SiteKnowledge) → reported_place (happens_where names w site s (event.Cut site)).1 ≡ Some place
        → (place ≡ length w.pool) × (length (happens_where names w site s (event.Cut site)).0.pool ≡ length w.pool + 1)
    by None reported = absurd (none_some place reported)
    by (Some s) reported = framed_place w site place (steps.step site names s steps.Cut) reported

pub whole_place : (names : List (List ℕ)) (w : World) (site place : ℕ) → (happens names w (event.Whole site)).1 ≡ outcome.Cut (Ok (Some place))
    → (place ≡ length w.pool) × (length (happens names w (event.Whole site)).0.pool ≡ length w.pool + 1)
whole_place names w site place reported = by (slice_get w.sites site) (ap reported_place reported)
  where
    by : (s : Option SiteKnowledge) → reported_place (happens_where names w site s (event.Whole site)).1 ≡ Some place
        → (place ≡ length w.pool) × (length (happens_where names w site s (event.Whole site)).0.pool ≡ length w.pool + 1)
    by None reported = absurd (none_some place reported)
    by (Some s) reported = framed_place w site place (steps.step site names s steps.Whole) reported

-- an empty cut leaves the pool
cut_pool : (names : List (List ℕ)) (w : World) (site : ℕ) → (happens names w (event.Cut site)).1 ≡ outcome.Cut (Ok None)
    → length (happens names w (event.Cut site)).0.pool ≡ length w.pool
cut_pool names w site reported = by (slice_get w.sites site) (ap reported_place reported)
  where
    by : (s : Option SiteKnowledge) → reported_place (happens_where names w site s (event.Cut site)).1 ≡ None
        → length (happens_where names w site s (event.Cut site)).0.pool ≡ length w.pool
    by None reported = refl
    by (Some s) reported = framed_nothing w site (steps.step site names s steps.Cut) reported

-- an ask and a take leave the pool
ask_pool : (names : List (List ℕ)) (w : World) (site : ℕ) (asked : Ask) → length (happens names w (event.Ask site asked)).0.pool ≡ length w.pool
ask_pool names w site asked = by (slice_get w.sites site)
  where
    by : (s : Option SiteKnowledge) → length (happens_where names w site s (event.Ask site asked)).0.pool ≡ length w.pool
    by None = refl
    by (Some s) = ap (λ (p : List Entry). length p) (append-nil w.pool)

take_pool : (names : List (List ℕ)) (w : World) (site entry : ℕ) → length (happens names w (event.Take site entry)).0.pool ≡ length w.pool
take_pool names w site entry = by (slice_get w.sites site)
  where
    on : (s : SiteKnowledge) (found : Option Entry) → length (w.pool ++ (taken s found).added) ≡ length w.pool
    on s None = ap (λ (p : List Entry). length p) (append-nil w.pool)
    on s (Some e) = ap (λ (p : List Entry). length p) (append-nil w.pool)

    by : (s : Option SiteKnowledge) → length (happens_where names w site s (event.Take site entry)).0.pool ≡ length w.pool
    by None = refl
    by (Some s) = on s (slice_get w.pool entry)

-- the pool grows by the frames of a deed
pub pool_grows : (names : List (List ℕ)) (w : World) (e : Event) (done : StepDeed) → GivesDeed names w e done → length (happens names w e).0.pool ≡ length w.pool + frames_in done
pool_grows names w (event.Ask site asked) (deed.Asked reported a) gives = let n = ask_pool names w site asked in omega (arith, n)
pool_grows names w (event.Ask site asked) (deed.Took bytes) gives = absurd gives
pool_grows names w (event.Ask site asked) (deed.Cut made) gives = absurd gives
pool_grows names w (event.Ask site asked) (deed.Whole bytes) gives = absurd gives
pool_grows names w (event.Take site entry) (deed.Asked reported a) gives = absurd gives
pool_grows names w (event.Take site entry) (deed.Took bytes) gives = let n = take_pool names w site entry in omega (arith, n)
pool_grows names w (event.Take site entry) (deed.Cut made) gives = absurd gives
pool_grows names w (event.Take site entry) (deed.Whole bytes) gives = absurd gives
pool_grows names w (event.Cut site) (deed.Asked reported a) gives = absurd gives
pool_grows names w (event.Cut site) (deed.Took bytes) gives = absurd gives
pool_grows names w (event.Cut site) (deed.Cut None) gives = let n = cut_pool names w site gives in omega (arith, n)
pool_grows names w (event.Cut site) (deed.Cut (Some bytes)) gives = (cut_place names w site gives.place gives.outcome).1
pool_grows names w (event.Cut site) (deed.Whole bytes) gives = absurd gives
pool_grows names w (event.Whole site) (deed.Asked reported a) gives = absurd gives
pool_grows names w (event.Whole site) (deed.Took bytes) gives = absurd gives
pool_grows names w (event.Whole site) (deed.Cut made) gives = absurd gives
pool_grows names w (event.Whole site) (deed.Whole bytes) gives = (whole_place names w site gives.place gives.outcome).1

-- ---- what a line gives

-- a line gives this text, and leads to the world after the event
pub record GivesLine (place : ScriptSites) (w : World) (number : ℕ) (line : List ℕ) (e : Event) (text : List ℕ) : Type 0 where
  pub given : Given
  pub gives : LineGives place w number line given
  pub after : given.after ≡ (happens place.names w e).0
  pub text_is : given.text ≡ text
  pub understood : given.understood ≡ true

-- what the line of an event asks, by its words
line_sense : (sites : ℕ) (e : Event) → can_say e ≡ true → site_of e < sites → sites ≤ 64 → sense_of sites (event_line e) ≡ words_sense (site_of e) (event_words e)
line_sense sites e said there few =
    ap (λ b. sense_of sites (comment_mark b ++ (decimal (site_of e) ++ (codes " " ++ event_words e)))) said ∙ site_line sites (site_of e) (event_words e) there few

-- the line of a message
message_gives : (place : ScriptSites) (w : World) (number : ℕ) (line : List ℕ) (site : ℕ) (c : Command) (action : Action) (paused : Bool) (name : List ℕ) (a : Answer)
    → sense_of place.sites line ≡ Message site (codes "Action: " ++ (name ++ flat_map field_text (command_fields c)))
    → IsMessage (codes "Action: " ++ (name ++ flat_map field_text (command_fields c))) ((codes "Action", name) ∷ command_fields c)
    → reaction trusted_session ((codes "Action", name) ∷ command_fields c) ≡ waits action paused c
    → (happens place.names w (event.Ask site (ask.Command c))).1 ≡ outcome.Answered a
    → GivesLine place w number line (event.Ask site (ask.Command c)) (reply_to action paused a)
message_gives place w number line site c action paused name a sense is asks reported =
    let m = (codes "Action", name) ∷ command_fields c in
    record {
      given = given_by_message place w site m;
      gives = subst (λ s. SenseGives place w number s (given_by_message place w site m)) (sym sense) (inl (m, is, refl));
      after = ap (λ r. (given_by_reaction place w site r).after) asks;
      text_is = ap (λ r. (given_by_reaction place w site r).text) asks ∙ ap (waited_reply (record { action = action; says_yes = paused; id = [] })) reported;
      understood = ap (λ r. (given_by_reaction place w site r).understood) asks;
    }

-- the line of a counted call
count_gives : (place : ScriptSites) (w : World) (number : ℕ) (line : List ℕ) (site : ℕ) (calls : Calls) (queue : List ℕ) (a : Answer) → IsName queue
    → sense_of place.sites line ≡ Count site calls queue → (happens place.names w (event.Ask site (count_of calls queue))).1 ≡ outcome.Answered a
    → GivesLine place w number line (event.Ask site (count_of calls queue)) (answer_text a)
count_gives place w number line site calls queue a is sense reported =
    let given = given_by_event place w (event.Ask site (count_of calls queue)) in
    record {
      given = given;
      gives = subst (λ s. SenseGives place w number s given) (sym sense) (sym (ap (given_by_count place w site calls) (name_read queue is)));
      after = refl;
      text_is = ap outcome_text reported;
      understood = refl;
    }

-- the line of a command gives the site's answer
command_gives : (place : ScriptSites) (w : World) (number site : ℕ) (c : Command) (a : Answer) → list_all is_plain (texts_of c) ≡ true → IsCommand c
    → site < place.sites → place.sites ≤ 64 → (happens place.names w (event.Ask site (ask.Command c))).1 ≡ outcome.Answered a
    → GivesLine place w number (event_line (event.Ask site (ask.Command c))) (event.Ask site (ask.Command c)) (answer_shown c a)
command_gives place w number site (Add q i n paused label) a plain is there few reported =
    let c = Add q i n paused label in
    let e = event.Ask site (ask.Command c) in
    message_gives place w number (event_line e) site c QueueAdd paused (codes "QueueAdd") a (line_sense place.sites e plain there few)
    (fields_message (codes "QueueAdd") (command_fields c) (record { field_is = refl; bars = refl; clean = refl; some = omega arith; fits = omega arith }) (command_fields_are c is plain) (few_fields c))
    (add_asks q i n paused label.name label.state is) reported
command_gives place w number site (Remove q i) a plain is there few reported =
    let c = Remove q i in
    let e = event.Ask site (ask.Command c) in
    message_gives place w number (event_line e) site c QueueRemove false (codes "QueueRemove") a (line_sense place.sites e plain there few)
    (fields_message (codes "QueueRemove") (command_fields c) (record { field_is = refl; bars = refl; clean = refl; some = omega arith; fits = omega arith }) (command_fields_are c is plain) (few_fields c))
    (remove_asks q i is) reported
command_gives place w number site (Pause queue i pause) a plain is there few reported =
    let c = Pause queue i pause in
    let e = event.Ask site (ask.Command c) in
    message_gives place w number (event_line e) site c QueuePause pause.paused (codes "QueuePause") a (line_sense place.sites e plain there few)
    (fields_message (codes "QueuePause") (command_fields c) (record { field_is = refl; bars = refl; clean = refl; some = omega arith; fits = omega arith }) (command_fields_are c is plain) (few_fields c))
    (pause_asks queue i pause.paused pause.reason is) reported
command_gives place w number site (Penalty queue i n) a plain is there few reported =
    let c = Penalty queue i n in
    let e = event.Ask site (ask.Command c) in
    message_gives place w number (event_line e) site c QueuePenalty false (codes "QueuePenalty") a (line_sense place.sites e plain there few)
    (fields_message (codes "QueuePenalty") (command_fields c) (record { field_is = refl; bars = refl; clean = refl; some = omega arith; fits = omega arith }) (command_fields_are c is plain) (few_fields c))
    (penalty_asks queue i n is) reported
command_gives place w number site (RingInUse queue i ring) a plain is there few reported =
    let c = RingInUse queue i ring in
    let e = event.Ask site (ask.Command c) in
    message_gives place w number (event_line e) site c QueueMemberRingInUse false (codes "QueueMemberRingInUse") a (line_sense place.sites e plain there few)
    (fields_message (codes "QueueMemberRingInUse") (command_fields c) (record { field_is = refl; bars = refl; clean = refl; some = omega arith; fits = omega arith }) (command_fields_are c is plain) (few_fields c))
    (ring_asks queue i ring is) reported
command_gives place w number site (Completed queue) a plain is there few reported =
    count_gives place w number _ site calls.Completed queue a is (line_sense place.sites (event.Ask site (ask.Command (Completed queue))) refl there few) reported
command_gives place w number site (Abandoned queue) a plain is there few reported =
    count_gives place w number _ site calls.Abandoned queue a is (line_sense place.sites (event.Ask site (ask.Command (Abandoned queue))) refl there few) reported

-- the line of a frame's event gives its outcome
frame_gives : (place : ScriptSites) (w : World) (number : ℕ) (line : List ℕ) (e : Event) (o : Outcome)
    → SenseGives place w number (sense_of place.sites line) (given_by_event place w e) → (happens place.names w e).1 ≡ o → GivesLine place w number line e (outcome_text o)
frame_gives place w number line e o gives reported =
    record { given = given_by_event place w e; gives = gives; after = refl; text_is = ap outcome_text reported; understood = refl }

-- the line of an event gives what the deed says that the event gave its site
pub event_gives : (place : ScriptSites) (w : World) (number : ℕ) (e : Event) (done : StepDeed) → can_say e ≡ true → HasLimits e → site_of e < place.sites → place.sites ≤ 64
    → GivesDeed place.names w e done → GivesLine place w number (event_line e) e (deed_text (length w.pool) done)
event_gives place w number (event.Ask site (ask.Command c)) (deed.Asked reported a) said is there few gives =
    subst (λ x. GivesLine place w number (event_line (event.Ask site (ask.Command c))) (event.Ask site (ask.Command c)) (deed_text (length w.pool) (deed.Asked x a))) (sym gives.0)
    (command_gives place w number site c a said is.1 there few gives.1)
event_gives place w number (event.Ask site (ask.Command c)) (deed.Took bytes) said is there few gives = absurd gives
event_gives place w number (event.Ask site (ask.Command c)) (deed.Cut made) said is there few gives = absurd gives
event_gives place w number (event.Ask site (ask.Command c)) (deed.Whole bytes) said is there few gives = absurd gives
event_gives place w number (event.Ask site (ask.Status request)) done said is there few gives = absurd (true≢false (sym said))
event_gives place w number (event.Take site entry) (deed.Took bytes) said is there few gives =
    let less : entry < 1000000000 = grind (arith, nat_tests, said) in
    let e = event.Take site entry in
    frame_gives place w number (event_line e) e (outcome.Took (Ok tt))
    (subst (λ s. SenseGives place w number s (given_by_event place w e)) (sym (line_sense place.sites e said there few ∙ take_words site entry less)) refl) gives.0
event_gives place w number (event.Take site entry) (deed.Asked reported a) said is there few gives = absurd gives
event_gives place w number (event.Take site entry) (deed.Cut made) said is there few gives = absurd gives
event_gives place w number (event.Take site entry) (deed.Whole bytes) said is there few gives = absurd gives
event_gives place w number (event.Cut site) (deed.Cut None) said is there few gives =
    let e = event.Cut site in
    frame_gives place w number (event_line e) e (outcome.Cut (Ok None))
    (subst (λ s. SenseGives place w number s (given_by_event place w e)) (sym (line_sense place.sites e refl there few)) refl) gives
event_gives place w number (event.Cut site) (deed.Cut (Some bytes)) said is there few gives =
    let e = event.Cut site in
    subst (λ n. GivesLine place w number (event_line e) e (entry_text n)) (cut_place place.names w site gives.place gives.outcome).0
    (frame_gives place w number (event_line e) e (outcome.Cut (Ok (Some gives.place)))
    (subst (λ s. SenseGives place w number s (given_by_event place w e)) (sym (line_sense place.sites e refl there few)) refl) gives.outcome)
event_gives place w number (event.Cut site) (deed.Asked reported a) said is there few gives = absurd gives
event_gives place w number (event.Cut site) (deed.Took bytes) said is there few gives = absurd gives
event_gives place w number (event.Cut site) (deed.Whole bytes) said is there few gives = absurd gives
event_gives place w number (event.Whole site) (deed.Whole bytes) said is there few gives =
    let e = event.Whole site in
    subst (λ n. GivesLine place w number (event_line e) e (entry_text n)) (whole_place place.names w site gives.place gives.outcome).0
    (frame_gives place w number (event_line e) e (outcome.Cut (Ok (Some gives.place)))
    (subst (λ s. SenseGives place w number s (given_by_event place w e)) (sym (line_sense place.sites e refl there few)) refl) gives.outcome)
event_gives place w number (event.Whole site) (deed.Asked reported a) said is there few gives = absurd gives
event_gives place w number (event.Whole site) (deed.Took bytes) said is there few gives = absurd gives
event_gives place w number (event.Whole site) (deed.Cut made) said is there few gives = absurd gives

-- ---- the lines of the script

-- the words of a message are clean
message_clean : (name : List ℕ) (c : Command) → list_any is_bad_byte name ≡ false → AreFields (command_fields c)
    → list_any is_bad_byte (message_words name (command_fields c)) ≡ false
message_clean name c clean are =
    none_of_both is_bad_byte (codes "ami Action: ") (name ++ flat_map field_text (command_fields c)) refl
    (none_of_both is_bad_byte name (flat_map field_text (command_fields c)) clean (fields_clean (command_fields c) are))

-- the words of a command are clean
command_clean : (c : Command) → list_all is_plain (texts_of c) ≡ true → IsCommand c → list_any is_bad_byte (command_words c) ≡ false
command_clean (Add q i n paused label) plain is = message_clean (codes "QueueAdd") (Add q i n paused label) refl (command_fields_are (Add q i n paused label) is plain)
command_clean (Remove q i) plain is = message_clean (codes "QueueRemove") (Remove q i) refl (command_fields_are (Remove q i) is plain)
command_clean (Pause queue i pause) plain is = message_clean (codes "QueuePause") (Pause queue i pause) refl (command_fields_are (Pause queue i pause) is plain)
command_clean (Penalty queue i n) plain is = message_clean (codes "QueuePenalty") (Penalty queue i n) refl (command_fields_are (Penalty queue i n) is plain)
command_clean (RingInUse queue i ring) plain is = message_clean (codes "QueueMemberRingInUse") (RingInUse queue i ring) refl (command_fields_are (RingInUse queue i ring) is plain)
command_clean (Completed queue) plain is = none_of_both is_bad_byte (codes "completed ") queue refl is.text.clean
command_clean (Abandoned queue) plain is = none_of_both is_bad_byte (codes "abandoned ") queue refl is.text.clean

-- the words of an event are clean
words_clean : (e : Event) → can_say e ≡ true → HasLimits e → list_any is_bad_byte (event_words e) ≡ false
words_clean (event.Ask site (ask.Command c)) said is = command_clean c said is.1
words_clean (event.Ask site (ask.Status request)) said is = absurd (true≢false (sym said))
words_clean (event.Cut site) said is = refl
words_clean (event.Whole site) said is = refl
words_clean (event.Take site entry) said is =
    let less : entry < 1000000000 = grind (arith, nat_tests, said) in
    none_of_both is_bad_byte (codes "take ") (decimal entry) refl (digits_clean (decimal entry) (are_digits entry (omega (arith, less))))

-- a site has one of 64 numbers
limit_site : (e : Event) → HasLimits e → site_of e < 64
limit_site (event.Ask site (ask.Command c)) is = is.0
limit_site (event.Ask site (ask.Status request)) is = is
limit_site (event.Cut site) is = is
limit_site (event.Whole site) is = is
limit_site (event.Take site entry) is = is

-- the line of an event is clean
line_clean : (e : Event) → can_say e ≡ true → HasLimits e → list_any is_bad_byte (event_line e) ≡ false
line_clean e said is =
    let less = limit_site e is in
    ap (λ b. list_any is_bad_byte (comment_mark b ++ (decimal (site_of e) ++ (codes " " ++ event_words e)))) said
    ∙ none_of_both is_bad_byte (decimal (site_of e)) (codes " " ++ event_words e) (digits_clean (decimal (site_of e)) (are_digits (site_of e) (omega (arith, less))))
    (none_of_both is_bad_byte (codes " ") (event_words e) refl (words_clean e said is))

-- a line says an event, whose values are within the limits of their types
pub record IsSaid (e : Event) : Type 0 where
  pub said : can_say e ≡ true
  pub limits : HasLimits e

-- the lines of a script of events are theirs
pub lines_are : (es : List Event) → AllByRecursion IsSaid es → lines_of (script_of es) ≡ map event_line es
lines_are [] is = refl
lines_are (e ∷ es) is =
    let clean = line_clean e is.0.said is.0.limits in
    let rest = lines_are es is.1 in
    ap lines_of (append_assoc (event_line e) (codes "\n") (script_of es)) ∙ first_line [] (event_line e) (script_of es) clean
    ∙ (λ k. content_clean (event_line e) clean k ∷ rest k)
