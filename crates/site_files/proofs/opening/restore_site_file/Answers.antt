use Rattle.std.proofs.Common.{◌≡◌, ap, subst, sym, ◌∙◌}
use Rattle.std.proofs.lemmas.Result.{IfOk-weaker}
use Rattle.sqlite.specs.Effect.{Database}
use Rattle.sqlite.specs.Files.{AreFoundIn, file_state}
use Rattle.sqlite.specs.Recovery.{Image}
use Rattle.sqlite.specs.Start.{FindsIn}
use Rattle.sqlite.specs.State.{State}
use Rattle.sqlite.specs.WalFiles.{image_at}
use Rattle.site_store.proofs.WriteLemmas.{holds_same}
use Rattle.site_files.proofs.opening.restore_site_file.Goals as goal

-- the rows that the file held, as its connection holds them
pub returns-clause-rows : goal.returns-clause-rows
returns-clause-rows g c =
    IfOk-weaker c.restore.result _ _ (λ it read clean db first rows holds lists.
    holds_same (file_state c.in_ok-conn.conn) (file_state it.conn) first rows (read.same clean).0.now_is (c.in_ok-conn.ensures.holds (read.clean clean) db first rows holds lists)) c.restore.ensures.reads

-- where the commit is the same, the same is found
finds_same : (image : Image) (old new : State) → new.committed ≡ old.committed → FindsIn image old → FindsIn image new
finds_same image old new same was = record {
  holds = λ db holds. ap (λ (d : Database). d.trees) same ∙ was.holds db holds;
  reads = subst (λ (d : Database). AreFoundIn image d.trees) (sym same) was.reads;
}

pub returns-clause-finds : goal.returns-clause-finds
returns-clause-finds g c =
    IfOk-weaker c.restore.result _ _ (λ it read clean.
    finds_same (image_at g.S.Start) (file_state c.in_ok-conn.conn) (file_state it.conn) (read.same clean).0.committed_is (c.in_ok-conn.ensures.finds (read.clean clean))) c.restore.ensures.reads
