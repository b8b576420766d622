use Rattle.std.proofs.Common.{◌≡◌, ◌≤◌, ◌∙◌, ◌++◌, [], Some, length, sym, subst}
use Rattle.std.proofs.lemmas.List.{length-map}
use Rattle.std.proofs.lemmas.List.Sorted.{length_permutation}
use Rattle.ami_text.specs.Lines.{lines_text}
use Rattle.event_script.specs.Lines.{script_of}
use Rattle.scripts.specs.LineSteps.{listed_place}
use Rattle.scripts.specs.Script.{IsScriptRun}
use Rattle.site_audit.specs.Runs.{names_in}
use Rattle.store_audit.specs.declared.store_journal.StoreJournal.{StoreJournal}
use Rattle.store_audit.specs.Headings.{heading_lines}
use Rattle.store_audit.specs.Stores.{journals_of}
use Rattle.store_audit.proofs.laws.a_written_audit_shows_what_the_stores_say.Goals as goal

-- a heading is comments before a script
pub returns : goal.returns
returns c = λ stores text before after unknown it ran.
    let sorted = it.sorted in
    let journals = journals_of sorted in
    let many : length journals ≡ length sorted = length-map sorted (λ (s : StoreJournal). s.journal) in
    let all : length stores ≡ length journals = sym (length_permutation stores sorted it.all.order.same) ∙ sym many in
    let whole : text ≡ lines_text (heading_lines sorted) ++ script_of it.events = it.written.taken in
    let few = subst (λ n. n ≤ 64) (sym many) it.all.few in
    c.comments_before_a_script_change_nothing_that_it_shows.ensures (heading_lines sorted) it.written.comments journals it.events before after unknown few it.run it.written.limits (sym it.counted)
    (subst (λ t. IsScriptRun (listed_place (length journals) (names_in journals)) (Some t) (Some []) (Some before) (Some after) unknown) whole
    (subst (λ n. IsScriptRun (listed_place n (names_in journals)) (Some text) (Some []) (Some before) (Some after) unknown) all ran))
