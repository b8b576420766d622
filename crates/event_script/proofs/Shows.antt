-- The script of events that are one run shows what the journals say.
use Rattle.std.proofs.Common.{◌≡◌, ◌∙◌, ℕ, ◌+◌, ◌<◌, ◌≤◌, ◌++◌, Bool, true, false, not, List, [], ◌∷◌, length, map, Option, Some, None, slice_get, slice_set, count_by, cond, if◌then◌else◌, refl, sym, ap, subst, arith, append-nil, inl, inr}
use Rattle.std.specs.List.{All, AllByRecursion}
use Rattle.std.specs.Option.{option_map}
use Rattle.std.proofs.lemmas.List.{length-map, length-set}
use Rattle.std.proofs.lemmas.List.Elements.{recursion_from_All}
use Rattle.std.proofs.lemmas.List.Recursion.{is_count_by}
use Rattle.std.proofs.lemmas.Option.{slice_get-get_or, slice_get-map}
use Rattle.ami_text.specs.Lines.{lines_text}
use Rattle.site_audit.specs.Runs.{AreGiven, IsRun, names_in}
use Rattle.site_audit.proofs.Lists.{within_some}
use Rattle.site_journal.specs.declared.step.Step.{Step}
use Rattle.site_journal.specs.Journals.{JournalState}
use Rattle.sites_world.specs.declared.event.Event.{Event}
use Rattle.sites_world.specs.Worlds.{World, happens, new_world, site_of}
use Rattle.sites_world.proofs.Lists.{get_set_other, get_set_same, one_some, same_place}
use Rattle.script_lines.specs.ScriptLines.{lines_of}
use Rattle.scripts.specs.LineSteps.{listed_place}
use Rattle.scripts.specs.Script.{HaveOneText, IsScriptRun, LinesGive, unknown_in}
use Rattle.event_script.specs.Comments.{IsComment}
use Rattle.event_script.specs.Lines.{HasLimits, can_say, event_line, is_unsaid, script_of}
use Rattle.event_script.specs.Shown.{ShowsJournals, ShowsSteps, deed_text}
use Rattle.event_script.proofs.Comments.{comments_give, lines_behind}
use Rattle.event_script.proofs.Events.{GivesLine, IsSaid, event_gives, lines_are, pool_grows}

-- ---- events that lines say

-- how many events no line says
abbrev unsaid_in : List Event → ℕ
unsaid_in [] = 0
unsaid_in (e ∷ es) = cond (is_unsaid e) (1 + unsaid_in es) (unsaid_in es)

first_said : (e : Event) (es : List Event) (b : Bool) → can_say e ≡ b → unsaid_in (e ∷ es) ≡ 0 → HasLimits e → (unsaid_in es ≡ 0 → AllByRecursion IsSaid es) → AllByRecursion IsSaid (e ∷ es)
first_said e es true said none limits others =
    (record { said = said; limits = limits }, others (sym (ap (λ b. cond (not b) (1 + unsaid_in es) (unsaid_in es)) said) ∙ none))
first_said e es false said none limits others =
    let more : 1 + unsaid_in es ≡ 0 = sym (ap (λ b. cond (not b) (1 + unsaid_in es) (unsaid_in es)) said) ∙ none in
    absurd (omega (arith, more))

none_unsaid : (es : List Event) → unsaid_in es ≡ 0 → AllByRecursion HasLimits es → AllByRecursion IsSaid es
none_unsaid [] none limits = tt
none_unsaid (e ∷ es) none limits = first_said e es (can_say e) refl none limits.0 (λ rest. none_unsaid es rest limits.1)

-- where none is counted, lines say all
pub all_said : (es : List Event) → count_by is_unsaid es ≡ 0 → All HasLimits es → AllByRecursion IsSaid es
all_said es none limits =
    none_unsaid es (is_count_by unsaid_in is_unsaid refl (λ x xs. refl) es ∙ none) (recursion_from_All HasLimits es limits)

-- ---- steps that are left

-- each site is given just the steps that are left of it
abbrev pub GivesLeft : List (List ℕ) → World → List Event → List (List Step) → Type 0
GivesLeft names w es left = (site : ℕ) (steps : List Step) → slice_get left site ≡ Some steps → AreGiven names w es site steps

-- events behind the first give each site what is left then
gives_rest : (names : List (List ℕ)) (w : World) (e : Event) (es : List Event) (left : List (List Step)) (rest : List Step) → site_of e < length left
    → GivesLeft names w (e ∷ es) left → AreGiven names (happens names w e).0 es (site_of e) rest → GivesLeft names (happens names w e).0 es (slice_set left (site_of e) rest)
gives_rest names w e es left rest within gives first site steps known = elim (same_place (site_of e) site) [
  | inl same ↦
      let moved : slice_get (slice_set left (site_of e) rest) (site_of e) ≡ Some steps = ap (slice_get (slice_set left (site_of e) rest)) (sym same) ∙ known in
      let is : rest ≡ steps = one_some rest steps (sym (get_set_same left (site_of e) rest within) ∙ moved) in
      subst (λ s. AreGiven names (happens names w e).0 es s steps) (sym same) (subst (AreGiven names (happens names w e).0 es (site_of e)) is first)
  | inr apart ↦ other (gives site steps (sym (get_set_other left (site_of e) site rest apart) ∙ known)) apart
]
  where
    other : AreGiven names w (e ∷ es) site steps → (site ≡ site_of e → ⊥) → AreGiven names (happens names w e).0 es site steps
    other (inl p) apart = absurd (apart (sym p.0))
    other (inr p) apart = p.1

-- a text is that of the lines of events, and shows the steps that are left
abbrev pub AreShown : List (List ℕ) → ℕ → List Event → World → ℕ → List (List Step) → Type 0
AreShown names sites es w number left =
    (text : List ℕ) × LinesGive (listed_place sites names) w number (map event_line es) text 0 × ShowsSteps left (length w.pool) es text

-- the lines of the same events, wherever they begin
abbrev AllShown : List (List ℕ) → ℕ → List Event → Type 0
AllShown names sites es = (w : World) (number : ℕ) (left : List (List Step)) → length left ≡ sites → GivesLeft names w es left → AreShown names sites es w number left

-- the first event gives its site the next step that is left
shows_first : (names : List (List ℕ)) (sites : ℕ) (e : Event) (es : List Event) → sites ≤ 64 → IsSaid e → site_of e < sites → AllShown names sites es
    → (w : World) (number : ℕ) (left : List (List Step)) → length left ≡ sites → GivesLeft names w (e ∷ es) left
    → (steps : List Step) → slice_get left (site_of e) ≡ Some steps → AreGiven names w (e ∷ es) (site_of e) steps → AreShown names sites (e ∷ es) w number left
shows_first names sites e es few said there others w number left count gives steps known (inr p) = absurd (p.0 refl)
shows_first names sites e es few said there others w number left count gives steps known (inl p) =
    let step = p.1 in
    let rest = p.2 in
    let line : GivesLine (listed_place sites names) w number (event_line e) e (deed_text (length w.pool) step.deed) =
    event_gives (listed_place sites names) w number e step.deed said.said said.limits there few p.4 in
    let next = (happens names w e).0 in
    let less = slice_set left (site_of e) rest in
    let more = others next (number + 1) less (length-set left (site_of e) rest ∙ count) (gives_rest names w e es left rest (omega (arith, there, count)) gives p.5) in
    let lines = subst (λ (v : World). LinesGive (listed_place sites names) v (number + 1) (map event_line es) more.0 0) (sym line.after) more.1 in
    let known_is : unknown_in line.given ≡ 0 = ap (λ b. if b then 0 else 1) line.understood in (
      deed_text (length w.pool) step.deed ++ more.0,
      (line.given, more.0, 0, line.gives, lines, ap (λ t. t ++ more.0) (sym line.text_is), omega (arith, known_is)),
      (step, rest, more.0, known ∙ ap Some p.3, refl, subst (λ n. ShowsSteps less n es more.0) (pool_grows names w e step.deed p.4) more.2),
    )

-- the lines of events give what is left of the steps
pub shows : (names : List (List ℕ)) (sites : ℕ) (es : List Event) → sites ≤ 64 → AllByRecursion IsSaid es → AllByRecursion (λ e. site_of e < sites) es → AllShown names sites es
shows names sites [] few said there w number left count gives = ([], (refl, refl), (refl, λ k d within. gives k _ (slice_get-get_or left k d within)))
shows names sites (e ∷ es) few said there w number left count gives =
    let lt = there.0 in
    let found = within_some left (site_of e) (omega (arith, lt, count)) in
    shows_first names sites e es few said.0 there.0 (shows names sites es few said.1 there.1) w number left count gives found.0 found.1 (gives (site_of e) found.0 found.1)

-- ---- one run

-- the steps of a journal among those of all
journal_at : (journals : List JournalState) (site : ℕ) (steps : List Step) → slice_get (map (λ (j : JournalState). j.steps) journals) site ≡ Some steps
    → (j : JournalState) × (slice_get journals site ≡ Some j) × (j.steps ≡ steps)
journal_at journals site steps known = by (slice_get journals site) refl (sym (slice_get-map (λ (j : JournalState). j.steps) journals site) ∙ known)
  where
    by : (o : Option JournalState) → slice_get journals site ≡ o → option_map (λ (j : JournalState). j.steps) o ≡ Some steps
        → (j : JournalState) × (slice_get journals site ≡ Some j) × (j.steps ≡ steps)
    by None is h = (cc)
    by (Some j) is h = (j, is, one_some j.steps steps h)

-- the text of a script of events that are one run, whose first line has this number
pub run_shows : (journals : List JournalState) (es : List Event) (number : ℕ) → length journals ≤ 64 → IsRun journals es → AllByRecursion IsSaid es
    → (text : List ℕ) × LinesGive (listed_place (length journals) (names_in journals)) (new_world (length journals)) number (map event_line es) text 0
    × ShowsSteps (map (λ (j : JournalState). j.steps) journals) 0 es text
run_shows journals es number few is said =
    shows (names_in journals) (length journals) es few said (recursion_from_All (λ e. site_of e < length journals) es is.sites)
    (new_world (length journals)) number (map (λ (j : JournalState). j.steps) journals) (length-map journals (λ (j : JournalState). j.steps))
    (λ site steps known. let j = journal_at journals site steps known in
    subst (AreGiven (names_in journals) (new_world (length journals)) es site) j.2 (is.given site j.0 j.1))

-- what a run of comments and the script behind them wrote
pub script_shows : ((lines : List (List ℕ)) → (journals : List JournalState) → HaveOneText (listed_place (length journals) (names_in journals)) (new_world (length journals)) 1 lines)
    → (comments : List (List ℕ)) → All IsComment comments
    → (journals : List JournalState) (es : List Event) (before after : List ℕ) (unknown : ℕ) → length journals ≤ 64 → IsRun journals es → All HasLimits es
    → count_by is_unsaid es ≡ 0
    → IsScriptRun (listed_place (length journals) (names_in journals)) (Some (lines_text comments ++ script_of es)) (Some []) (Some before) (Some after) unknown
    → (unknown ≡ 0) × ShowsJournals journals es before after
script_shows one comments are journals es before after unknown few is limits none ran =
    let said = all_said es none limits in
    let each = recursion_from_All IsComment comments are in
    let reported = run_shows journals es (1 + length comments) few is said in
    let place = listed_place (length journals) (names_in journals) in
    let w = new_world (length journals) in
    let lines = comments ++ map event_line es in
    let whole : lines_text comments ++ script_of es ≡ ran.script = ran.read ∙ append-nil ran.script in
    let same : lines_of ran.script ≡ lines =
    ap lines_of (sym whole) ∙ lines_behind comments (script_of es) each ∙ ap (λ ls. comments ++ ls) (lines_are es said) in
    let gives = subst (λ ls. LinesGive place w 1 ls ran.written.text unknown) same ran.written.is_text in
    let shown = comments_give place w 1 comments (map event_line es) reported.0 each reported.1 in
    let text : ran.written.text ≡ reported.0 = (one lines journals).text reported.0 ran.written.text 0 unknown shown gives in (
      (one lines journals).unknown reported.0 ran.written.text 0 unknown shown gives,
      record { text = reported.0; shows = reported.2; written = ran.written.taken ∙ ap (λ t. before ++ t) text },
    )
